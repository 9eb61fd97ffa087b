-- The machine follows statements.
use Rattle.std.proofs.Common.{◌≡◌, ℕ, List}
use Rattle.typed_syntax.specs.Syntax.{St, Sts, over_int, over_length, over_copy, over_slice, over_pointer, over_pointed, declare, assign, update, bump, discard, block, if_stmt, for_stmt, range, break_stmt, continue_stmt, return_stmt, print, panic, exit, done, next}
use Rattle.meaning.specs.Meaning.{Calls, Setting}
use Rattle.state_relation.specs.Relation.{Frame}
use Rattle.state_relation.proofs.Built.{Built}
use Rattle.simulated_code.proofs.Moves.{CallsFollow}
use Rattle.simulated_code.proofs.Leading.{Followed, AllFollowed}
use Rattle.simulated_code.proofs.SimpleFollow.{declare_follows, assign_follows, update_follows, bump_follows, discard_follows, break_follows, continue_follows, return_follows, print_follows, raise_follows, quit_follows}
use Rattle.simulated_code.proofs.ArraysFollow.{lengths_follow, copies_follow, pointers_follow, pointed_follow}
use Rattle.simulated_code.proofs.SliceRounds.{slices_follow}
use Rattle.simulated_code.proofs.LoopsFollow.{done_follows, next_follows, choose_follows, loop_follows, range_follows}

module _ (m : Built) (around : Setting) (strings : around.strings ≡ m.program.strings) (types : around.types ≡ m.program.types) (inputs : around.items ≡ m.items) (sites_are : around.sites ≡ m.program.sites) (callees : Calls) (n : ℕ) (cf : CallsFollow m callees n) (c : Frame) (calls : List Frame) where
  mutual
    exec_follows : (x : St) → Followed m c calls around callees n x
    exec_follows (declare sites) = declare_follows m around strings types inputs sites_are callees n cf c calls sites
    exec_follows (assign ls es) = assign_follows m around strings types inputs sites_are callees n cf c calls ls es
    exec_follows (update at p op e) = update_follows m around strings types inputs sites_are callees n cf c calls at p op e
    exec_follows (bump at p op) = bump_follows m around strings types inputs sites_are callees n cf c calls at p op
    exec_follows (discard es) = discard_follows m around strings types inputs sites_are callees n cf c calls es
    exec_follows (block ss) = all_follow ss
    exec_follows (if_stmt e x y) = choose_follows m around types inputs sites_are callees n cf c calls e x y (all_follow x) (all_follow y)
    exec_follows (for_stmt sites test post body) = loop_follows m around types inputs sites_are callees n cf c calls sites test post body (all_follow post) (all_follow body)
    exec_follows (range (over_int e) key value body) = range_follows m around types inputs sites_are callees n cf c calls e key value body (all_follow body)
    exec_follows (range (over_length x) key value body) = lengths_follow m around types inputs sites_are callees n cf c calls x key value body (all_follow body)
    exec_follows (range (over_copy site e x) key value body) = copies_follow m around types inputs sites_are callees n cf c calls site e x key value body (all_follow body)
    exec_follows (range (over_slice e t) key value body) = slices_follow m around types inputs sites_are callees n cf c calls e t key value body (all_follow body)
    exec_follows (range (over_pointer at e x t) key value body) = pointers_follow m around types inputs sites_are callees n cf c calls at e x t key value body (all_follow body)
    exec_follows (range (over_pointed x) key value body) = pointed_follow m around types inputs sites_are callees n cf c calls x key value body (all_follow body)
    exec_follows break_stmt = break_follows m around strings types inputs sites_are callees n cf c calls
    exec_follows continue_stmt = continue_follows m around strings types inputs sites_are callees n cf c calls
    exec_follows (return_stmt es) = return_follows m around strings types inputs sites_are callees n cf c calls es
    exec_follows (print line ps) = print_follows m around strings types inputs sites_are callees n cf c calls line ps
    exec_follows (panic at p) = raise_follows m around strings types inputs sites_are callees n cf c calls at p
    exec_follows (exit at e) = quit_follows m around strings types inputs sites_are callees n cf c calls at e

    pub all_follow : (xs : Sts) → AllFollowed m c calls around callees n xs
    all_follow done = done_follows m around types inputs sites_are callees n cf c calls
    all_follow (next x xs) = next_follows m around types inputs sites_are callees n cf c calls x xs (exec_follows x) (all_follow xs)
