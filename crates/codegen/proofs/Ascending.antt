-- The numbers of sites ascend: no site after a statement has a smaller number than those before it.
use Rattle.std.proofs.Common.{ℕ, suc, ◌≤◌, Bool, false, true, List, [], ◌∷◌, arith}
use Rattle.typed_syntax.specs.Types.{TypeTree, ints}
use Rattle.typed_syntax.specs.Syntax.{Left, Over, St, Sts, Program, blank, new, to, over_int, over_length, over_copy, over_slice, over_pointer, over_pointed, declare, assign, update, bump, discard, block, if_stmt, for_stmt, range, break_stmt, continue_stmt, return_stmt, print, panic, exit, done, next, type_named}
use Rattle.typed_syntax.specs.Form.{sites_after, lefts_after, over_after, declared_after, all_sites_after, scope_behind, scope_after, SitesNext, LeftsFit, StFits, StsFit}

-- a second left side that gets nothing declares nothing
by_key : (m : ℕ) (key : Left) (body : Sts) → m ≤ all_sites_after (lefts_after m (key ∷ [])) body → m ≤ all_sites_after (lefts_after m (key ∷ blank ∷ [])) body
by_key m blank body l = l
by_key m (new site) body l = l
by_key m (to q) body l = l

module _ (p : Program) (n : ℕ) where
  after_sites : (m : ℕ) (sites : List ℕ) → SitesNext p m n sites → m ≤ sites_after m sites
  after_sites m [] f = omega arith
  after_sites m (site ∷ sites) f = let r = after_sites (suc site) sites f.1 in let e = f.0.0 in omega (arith, r, e)

  pub after_lefts : (scope : List ℕ) (m : ℕ) (ts : List TypeTree) (ls : List Left) → LeftsFit p scope m n ts ls → m ≤ lefts_after m ls
  after_lefts scope m ts [] f = omega arith
  after_lefts scope m [] (left ∷ ls) f = absurd f
  after_lefts scope m (t ∷ ts) (blank ∷ ls) f = after_lefts scope m ts ls f
  after_lefts scope m (t ∷ ts) (new site ∷ ls) f = let r = after_lefts scope (suc site) ts ls f.2 in let e = f.0.0 in omega (arith, r, e)
  after_lefts scope m (t ∷ ts) (to q ∷ ls) f = after_lefts scope m ts ls f.1

  module _ (wanted : List TypeTree) (named : ℕ) where
    abbrev Fit : (looped : Bool) → List ℕ → ℕ → St → Type 0
    Fit looped scope m x = StFits p wanted named looped scope m n x

    abbrev All : (looped : Bool) → List ℕ → ℕ → Sts → Type 0
    All looped scope m xs = StsFit p wanted named looped scope m n xs

    mutual
      pub after_one : (looped : Bool) (scope : List ℕ) (m : ℕ) (x : St) → Fit looped scope m x → m ≤ declared_after m x
      after_one looped scope m (declare sites) f = after_sites m sites f
      after_one looped scope m (assign ls es) (ts, lefts, fit) = after_lefts scope m ts ls lefts
      after_one looped scope m (update at q op e) f = omega arith
      after_one looped scope m (bump at q op) f = omega arith
      after_one looped scope m (discard es) f = omega arith
      after_one looped scope m (block ss) f = after_all looped scope m ss f
      after_one looped scope m (if_stmt e a b) f =
          let first = after_all looped scope m a f.1 in let second = after_all looped scope (all_sites_after m a) b f.2 in omega (arith, first, second)
      after_one looped scope m (for_stmt sites test post body) f =
          let first = after_all false scope m post f.2 in let second = after_all true scope (all_sites_after m post) body f.3 in omega (arith, first, second)
      after_one looped scope m (range (over_int e) key blank body) f =
          let first = after_lefts scope m (ints ∷ []) (key ∷ []) f.1 in
          let rest = after_all true (scope_behind scope (key ∷ [])) (lefts_after m (key ∷ [])) body f.2 in by_key m key body (omega (arith, first, rest))
      after_one looped scope m (range (over_int e) key (new site) body) f = absurd f
      after_one looped scope m (range (over_int e) key (to q) body) f = absurd f
      after_one looped scope m (range (over_length x) key blank body) f =
          let first = after_lefts scope m (ints ∷ []) (key ∷ []) f.1 in
          let rest = after_all true (scope_behind scope (key ∷ [])) (lefts_after m (key ∷ [])) body f.2 in by_key m key body (omega (arith, first, rest))
      after_one looped scope m (range (over_length x) key (new site) body) f = absurd f
      after_one looped scope m (range (over_length x) key (to q) body) f = absurd f
      after_one looped scope m (range (over_copy site e x) key value body) (r, is, wide, few, place, fit, lefts, inner) =
          let ls = key ∷ value ∷ [] in
          let first = after_lefts (site ∷ scope) m (ints ∷ r ∷ []) ls lefts in
          let from = place.0 in let rest = after_all true (scope_behind (site ∷ scope) ls) (suc site) body inner in omega (arith, first, from, rest)
      after_one looped scope m (range (over_slice e t) key value body) (wide, fit, lefts, inner) =
          let ls = key ∷ value ∷ [] in let first = after_lefts scope m (ints ∷ type_named p t ∷ []) ls lefts in
          let rest = after_all true (scope_behind scope ls) (lefts_after m ls) body inner in omega (arith, first, rest)
      after_one looped scope m (range (over_pointer at e x t) key value body) (arr, is, wide, few, used, fit, lefts, inner) =
          let ls = key ∷ value ∷ [] in let first = after_lefts scope m (ints ∷ type_named p t ∷ []) ls lefts in
          let rest = after_all true (scope_behind scope ls) (lefts_after m ls) body inner in omega (arith, first, rest)
      after_one looped scope m (range (over_pointed x) key blank body) f =
          let first = after_lefts scope m (ints ∷ []) (key ∷ []) f.1 in
          let rest = after_all true (scope_behind scope (key ∷ [])) (lefts_after m (key ∷ [])) body f.2 in by_key m key body (omega (arith, first, rest))
      after_one looped scope m (range (over_pointed x) key (new site) body) f = absurd f
      after_one looped scope m (range (over_pointed x) key (to q) body) f = absurd f
      after_one looped scope m break_stmt f = omega arith
      after_one looped scope m continue_stmt f = omega arith
      after_one looped scope m (return_stmt es) f = omega arith
      after_one looped scope m (print ln ps) f = omega arith
      after_one looped scope m (panic at q) f = omega arith
      after_one looped scope m (exit at e) f = omega arith

      pub after_all : (looped : Bool) (scope : List ℕ) (m : ℕ) (xs : Sts) → All looped scope m xs → m ≤ all_sites_after m xs
      after_all looped scope m done f = omega arith
      after_all looped scope m (next x xs) f =
          let first = after_one looped scope m x f.0 in
          let rest = after_all looped (scope_after scope x) (declared_after m x) xs f.1 in omega (arith, first, rest)
