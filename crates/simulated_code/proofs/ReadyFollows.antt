-- The machine follows the operands of left sides.
use Rattle.std.proofs.Common.{◌≡◌, ℕ, suc, ◌+◌, ◌≤◌, List, [], ◌∷◌, ◌++◌, length, sym, ap, ◌∙◌, subst, arith, append_assoc, append-nil}
use Rattle.typed_syntax.specs.Types.{TypeTree}
use Rattle.typed_syntax.specs.Value.{Value}
use Rattle.typed_syntax.specs.Syntax.{Left, blank, new, to}
use Rattle.typed_syntax.specs.Form.{LeftsFit}
use Rattle.frames.specs.Frames.{lefts_need, lefts_reach, outgoing_of, temps_of}
use Rattle.meaning.specs.Trace.{World}
use Rattle.meaning.specs.Meaning
use Rattle.meaning.specs.Meaning.{Go, Ways, Calls, Setting, Landing, nowhere, birth, on}
use Rattle.program_code.specs.Code.{slots_of, place_above, lefts_above, place_code, place_end, place_size, ready_code, lefts_sized}
use Rattle.program_code.proofs.Sizes.{length_place, place_ends, place_sum}
use Rattle.program_code.proofs.Rooms.{place_others}
use Rattle.state_relation.specs.Views.{View}
use Rattle.state_relation.specs.Relation.{Frame, hold}
use Rattle.state_relation.proofs.Built.{Built}
use Rattle.state_relation.proofs.Rules.{At, Stands, place_is, given}
use Rattle.state_relation.proofs.Values.{all_kept, held_none}
use Rattle.simulated_code.proofs.Standing.{Standing, front, back, Panics}
use Rattle.simulated_code.proofs.Moves.{CallsFollow}
use Rattle.simulated_code.proofs.Places.{operand_types, aimed}
use Rattle.simulated_code.proofs.EvaluationsFollow.{place_follows}
use Rattle.simulated_code.proofs.LeftsFollow.{Gives, together, left_types, landings, first_operands}

module _ (m : Built) (around : Setting) (types : around.types ≡ m.program.types) (inputs : around.items ≡ m.items) (sites_are : around.sites ≡ m.program.sites) (callees : Calls) (n : ℕ) (cf : CallsFollow m callees n) where
  pub ready_follow : (ls : List Left) (ts : List TypeTree) (behind others q limit : ℕ) (c : Frame) (calls : List Frame) (ws : Ways) (k : List Landing → Ways → Go) (v : View) (w : World) (h pc lo b : ℕ) → b ≤ suc n → length c.held ≡ h → Panics ws → Standing m.code c.fn pc (ready_code m.program (slots_of m.program m.placement c.func) ls h pc)
      → LeftsFit m.program c.scope q limit ts ls → h + lefts_need m.program ls behind ≤ temps_of m.program m.placement c.func → lefts_reach m.program ls others ≤ outgoing_of m.program c.func
      → ((uss : List (List Value)) (ws1 : Ways) (w1 : World) (v1 : View) → Panics ws1 → Gives ls uss → length (c.held ++ all_kept (left_types ls) (together uss)) ≡ lefts_above ls h
      → At m lo 0 b v1 (k (landings c.env ls uss) ws1 w1) (Stands m v1 w1 (hold c (c.held ++ all_kept (left_types ls) (together uss)) ∷ calls)) (pc + lefts_sized m.program ls 0))
      → At m lo 0 b v (Meaning.ready_all around callees ls ws c.env k w) (Stands m v w (c ∷ calls)) pc
  ready_follow [] ts behind others q limit c calls ws k v w h pc lo b le hh stops has fit enough reaches post =
      given m (held_none m v w c calls) (place_is m (let r : pc + 0 ≡ pc = omega arith in r) (post [] ws w v stops tt (ap (λ l. length l) (append-nil c.held) ∙ hh)))
  ready_follow (l ∷ ls) [] behind others q limit c calls ws k v w h pc lo b le hh stops has fit enough reaches post = absurd fit
  ready_follow (blank ∷ ls) (t ∷ ts) behind others q limit c calls ws k v w h pc lo b le hh stops has fit enough reaches post =
      ready_follow ls ts behind others q limit c calls (Meaning.holding_all ws []) (λ xs ws1. k (nowhere ∷ xs) ws1) v w h pc lo b le hh stops has fit enough reaches post
  ready_follow (new site ∷ ls) (t ∷ ts) behind others q limit c calls ws k v w h pc lo b le hh stops has fit enough reaches post =
      ready_follow ls ts behind others (suc site) limit c calls (Meaning.holding_all ws []) (λ xs ws1. k (birth site ∷ xs) ws1) v w h pc lo b le hh stops has fit.2 enough reaches post
  ready_follow (to p ∷ ls) (t ∷ ts) behind others q limit c calls ws k v w h pc lo b le hh stops has fit enough reaches post =
      let s = slots_of m.program m.placement c.func in let size = place_size m.program p 0 in let above = place_above p h in let next = place_end m.program p pc in
      let cp = place_code m.program s p h pc in let rest = ready_code m.program s ls above next in
      let e : pc + size ≡ next = sym (place_ends m.program p pc) in
      place_follows m around types inputs sites_are callees n cf p t (lefts_need m.program ls behind) (lefts_reach m.program ls others) c calls ws _ v w h pc lo b le hh stops (front m.code c.fn pc cp rest has) fit.0 enough reaches (λ us w1 v1 those there room.
      let ops = all_kept (operand_types p) us in
      place_is m (sym e)
      (ready_follow ls ts behind others q limit (hold c (c.held ++ ops)) calls (Meaning.holding_all ws (Meaning.aim_values ws.call (aimed c.env p us))) (λ xs ws1. k (on (aimed c.env p us) ∷ xs) ws1) v1 w1 above next lo b le there stops
      (subst (λ x. Standing m.code c.fn x rest) e (back m.code c.fn pc size cp rest (length_place m.program s p h pc) has)) fit.1 room (let r = place_others m.program (lefts_reach m.program ls others) p in omega arith) (λ uss ws1 w2 v2 stops1 gives wide.
      let all = all_kept (left_types ls) (together uss) in
      let one : c.held ++ all_kept (left_types (to p ∷ ls)) (together (us ∷ uss)) ≡ (c.held ++ ops) ++ all = ap (λ l. c.held ++ l) (first_operands p us ls uss those) ∙ sym (append_assoc c.held ops all) in
      place_is m (let r : pc + lefts_sized m.program (to p ∷ ls) 0 ≡ next + lefts_sized m.program ls 0 = omega (arith, place_sum m.program p (lefts_sized m.program ls 0)) in r)
      (subst (λ l. At m lo 0 b v2 (k (landings c.env (to p ∷ ls) (us ∷ uss)) ws1 w2) (Stands m v2 w2 (hold c l ∷ calls)) (pc + lefts_sized m.program (to p ∷ ls) 0)) one
      (post (us ∷ uss) ws1 w2 v2 stops1 (those, gives) (ap (λ l. length l) one ∙ wide))))))
