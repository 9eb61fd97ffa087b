-- Scopes after statements, and where nothing goes on.
use Rattle.std.proofs.Common.{◌≡◌, ◌⊎◌, inl, inr, ℕ, suc, ◌<◌, ◌≤◌, Bool, true, false, List, [], ◌∷◌, Option, Some, None, refl, ap, arith}
use Rattle.std.specs.Prelude.{not, ◌&&◌, ◌||◌}
use Rattle.typed_syntax.specs.Syntax.{Ex, Left, St, Sts, Func, Program, blank, new, to, over_int, over_length, over_copy, over_slice, over_pointer, over_pointed, type_named, declare, assign, update, bump, discard, block, if_stmt, for_stmt, range, break_stmt, continue_stmt, return_stmt, print, panic, exit, done, next}
use Rattle.typed_syntax.specs.Form.{InScope, sites_after, lefts_after, declared_after, all_sites_after, scope_behind, scope_with, scope_after, breaks_all, ends, ends_all, LeftsFit, SitesNext, StFits, StsFit}
use Rattle.typed_syntax.specs.Types.{TypeTree, ints}

-- a scope after left sides has the one before them
pub behind_has : (scope : List ℕ) (ls : List Left) (v : ℕ) → InScope v scope → InScope v (scope_behind scope ls)
behind_has scope [] v i = i
behind_has scope (blank ∷ ls) v i = behind_has scope ls v i
behind_has scope (new site ∷ ls) v i = behind_has (site ∷ scope) ls v (inr i)
behind_has scope (to p ∷ ls) v i = behind_has scope ls v i

-- the numbers of their new sites ascend
pub lefts_from : (p : Program) (before : List ℕ) (q n : ℕ) (ts : List TypeTree) (ls : List Left) → LeftsFit p before q n ts ls → q ≤ lefts_after q ls
lefts_from p before q n [] [] fit = omega arith
lefts_from p before q n [] (l ∷ ls) fit = absurd fit
lefts_from p before q n (t ∷ ts) [] fit = absurd fit
lefts_from p before q n (t ∷ ts) (blank ∷ ls) fit = lefts_from p before q n ts ls fit
lefts_from p before q n (t ∷ ts) (new site ∷ ls) fit = let k = fit.0.0 in let l = lefts_from p before (suc site) n ts ls fit.2 in omega arith
lefts_from p before q n (t ∷ ts) (to r ∷ ls) fit = lefts_from p before q n ts ls fit.1

behind_below : (p : Program) (before scope : List ℕ) (q n : ℕ) (ts : List TypeTree) (ls : List Left) → LeftsFit p before q n ts ls → ((v : ℕ) → InScope v scope → v < q) → (v : ℕ) → InScope v (scope_behind scope ls) → v < lefts_after q ls
behind_below p before scope q n [] [] fit below v i = below v i
behind_below p before scope q n [] (l ∷ ls) fit below v i = absurd fit
behind_below p before scope q n (t ∷ ts) [] fit below v i = absurd fit
behind_below p before scope q n (t ∷ ts) (blank ∷ ls) fit below v i = behind_below p before scope q n ts ls fit below v i
behind_below p before scope q n (t ∷ ts) (new site ∷ ls) fit below v i =
    let from = fit.0.0 in
    behind_below p before (site ∷ scope) (suc site) n ts ls fit.2 (λ u j. elim j [ inl r ↦ omega arith | inr r ↦ (let k = below u r in omega arith) ]) v i
behind_below p before scope q n (t ∷ ts) (to r ∷ ls) fit below v i = behind_below p before scope q n ts ls fit.1 below v i

-- a site after left sides was there before, or is a new one
pub behind_new : (p : Program) (before scope : List ℕ) (q n : ℕ) (ts : List TypeTree) (ls : List Left) → LeftsFit p before q n ts ls → (v : ℕ) → InScope v (scope_behind scope ls) → InScope v scope ⊎ ((q ≤ v) × (v < lefts_after q ls))
behind_new p before scope q n [] [] fit v i = inl i
behind_new p before scope q n [] (l ∷ ls) fit v i = absurd fit
behind_new p before scope q n (t ∷ ts) [] fit v i = absurd fit
behind_new p before scope q n (t ∷ ts) (blank ∷ ls) fit v i = behind_new p before scope q n ts ls fit v i
behind_new p before scope q n (t ∷ ts) (new site ∷ ls) fit v i =
    let from = fit.0.0 in let up = lefts_from p before (suc site) n ts ls fit.2 in
    elim (behind_new p before (site ∷ scope) (suc site) n ts ls fit.2 v i) [
      | inl j ↦ elim j [ inl r ↦ inr (omega arith, omega arith) | inr r ↦ inl r ]
      | inr l ↦ (let a = l.0 in let b = l.1 in inr (omega arith, omega arith))
    ]
behind_new p before scope q n (t ∷ ts) (to r ∷ ls) fit v i = behind_new p before scope q n ts ls fit.1 v i

-- the same of sites that are declared
pub with_has : (scope sites : List ℕ) (v : ℕ) → InScope v scope → InScope v (scope_with scope sites)
with_has scope [] v i = i
with_has scope (site ∷ sites) v i = with_has (site ∷ scope) sites v (inr i)

-- which ascend too
sites_from : (p : Program) (q n : ℕ) (sites : List ℕ) → SitesNext p q n sites → q ≤ sites_after q sites
sites_from p q n [] fit = omega arith
sites_from p q n (site ∷ sites) fit = let k = fit.0.0 in let l = sites_from p (suc site) n sites fit.1 in omega arith

pub with_below : (p : Program) (scope : List ℕ) (q n : ℕ) (sites : List ℕ) → SitesNext p q n sites → ((v : ℕ) → InScope v scope → v < q) → (v : ℕ) → InScope v (scope_with scope sites) → v < sites_after q sites
with_below p scope q n [] fit below v i = below v i
with_below p scope q n (site ∷ sites) fit below v i =
    let from = fit.0.0 in
    with_below p (site ∷ scope) (suc site) n sites fit.1 (λ u j. elim j [ inl r ↦ omega arith | inr r ↦ (let k = below u r in omega arith) ]) v i

pub after_has : (scope : List ℕ) (x : St) (v : ℕ) → InScope v scope → InScope v (scope_after scope x)
after_has scope (declare sites) v i = with_has scope sites v i
after_has scope (assign ls es) v i = behind_has scope ls v i
after_has scope (update at p op e) v i = i
after_has scope (bump at p op) v i = i
after_has scope (discard es) v i = i
after_has scope (block ss) v i = i
after_has scope (if_stmt e a b) v i = i
after_has scope (for_stmt sites test post body) v i = i
after_has scope (range over key value body) v i = i
after_has scope break_stmt v i = i
after_has scope continue_stmt v i = i
after_has scope (return_stmt es) v i = i
after_has scope (print ln ps) v i = i
after_has scope (panic at p) v i = i
after_has scope (exit at e) v i = i

-- where neither of two statements ends a function, both together don't
pub both_go_on : (x : St) (xs : Sts) → ends x ≡ false → ends_all xs ≡ false → ends_all (next x xs) ≡ false
both_go_on x done e f = e
both_go_on x (next y ys) e f = f

pub one_goes_on : (a b : Bool) → b ≡ false → (a && b) ≡ false
one_goes_on true b e = e
one_goes_on false b e = refl

-- one of two that is true
pub first_or : (a b : Bool) → a ≡ true → (a || b) ≡ true
first_or true b e = refl
first_or false b e = absurd (let f : false ≡ true = e in cc)

pub second_or : (a b : Bool) → b ≡ true → (a || b) ≡ true
second_or true b e = refl
second_or false b e = e

-- whether a loop has a condition
abbrev pub tested : Option Ex → Bool
tested None = false
tested (Some e) = true

-- something goes on after a loop with a condition, and after one that a `break` leaves
pub test_goes_on : (sites : List ℕ) (test : Option Ex) (post body : Sts) → tested test ≡ true → ends (for_stmt sites test post body) ≡ false
test_goes_on sites None post body e = absurd (let f : false ≡ true = e in cc)
test_goes_on sites (Some c) post body e = refl

pub break_goes_on : (sites : List ℕ) (test : Option Ex) (post body : Sts) → breaks_all body ≡ true → ends (for_stmt sites test post body) ≡ false
break_goes_on sites None post body e = ap not e
break_goes_on sites (Some c) post body e = refl

-- the sites in scope are among the first ones, and the results with names are in scope
pub record Scoped (func : Func) (scope : List ℕ) (q : ℕ) : Type 0 where
  pub named : (v : ℕ) → InScope v func.named → InScope v scope
  pub below : (v : ℕ) → InScope v scope → v < q
  pub from : func.first ≤ q

pub scoped_later : (func : Func) (scope : List ℕ) (q later : ℕ) → q ≤ later → Scoped func scope q → Scoped func scope later
scoped_later func scope q later le s = record { named = s.named; below = λ v i. (let l = s.below v i in omega arith); from = let l = s.from in omega arith }

pub scoped_behind : (p : Program) (func : Func) (scope : List ℕ) (q n : ℕ) (ts : List TypeTree) (ls : List Left) → LeftsFit p scope q n ts ls → Scoped func scope q → Scoped func (scope_behind scope ls) (lefts_after q ls)
scoped_behind p func scope q n ts ls fit s = record { named = λ v i. behind_has scope ls v (s.named v i); below = behind_below p scope scope q n ts ls fit s.below; from = let l = s.from in let k = lefts_from p scope q n ts ls fit in omega arith }

-- a blank declares nothing
after_blank : (q : ℕ) (key : Left) → lefts_after q (key ∷ blank ∷ []) ≡ lefts_after q (key ∷ [])
after_blank q blank = refl
after_blank q (new site) = refl
after_blank q (to r) = refl

-- the numbers of the sites that statements declare ascend
module _ (p : Program) (wanted : List TypeTree) (names n : ℕ) where
  -- those of a loop over indices alone
  key_from : (key : Left) (scope : List ℕ) (q : ℕ) (body : Sts) → LeftsFit p scope q n (ints ∷ []) (key ∷ []) → lefts_after q (key ∷ []) ≤ all_sites_after (lefts_after q (key ∷ [])) body → q ≤ all_sites_after (lefts_after q (key ∷ blank ∷ [])) body
  key_from key scope q body fit le = let l = lefts_from p scope q n (ints ∷ []) (key ∷ []) fit in let e = ap (λ k. all_sites_after k body) (after_blank q key) in omega arith

  mutual
    declared_from : (x : St) (looped : Bool) (scope : List ℕ) (q : ℕ) → StFits p wanted names looped scope q n x → q ≤ declared_after q x
    declared_from (declare sites) looped scope q fit = sites_from p q n sites fit
    declared_from (assign ls es) looped scope q fit = lefts_from p scope q n fit.0 ls fit.1
    declared_from (update at r op e) looped scope q fit = omega arith
    declared_from (bump at r op) looped scope q fit = omega arith
    declared_from (discard es) looped scope q fit = omega arith
    declared_from (block ss) looped scope q fit = sites_ascend ss looped scope q fit
    declared_from (if_stmt e a b) looped scope q fit = let l = sites_ascend a looped scope q fit.1 in let k = sites_ascend b looped scope (all_sites_after q a) fit.2 in omega arith
    declared_from (for_stmt sites test post body) looped scope q fit = let l = sites_ascend post false scope q fit.2 in let k = sites_ascend body true scope (all_sites_after q post) fit.3 in omega arith
    declared_from (range (over_int e) key blank body) looped scope q fit = key_from key scope q body fit.1 (sites_ascend body true (scope_behind scope (key ∷ [])) (lefts_after q (key ∷ [])) fit.2)
    declared_from (range (over_int e) key value body) looped scope q fit = absurd fit
    declared_from (range (over_length x) key blank body) looped scope q fit = key_from key scope q body fit.1 (sites_ascend body true (scope_behind scope (key ∷ [])) (lefts_after q (key ∷ [])) fit.2)
    declared_from (range (over_length x) key value body) looped scope q fit = absurd fit
    declared_from (range (over_copy site e x) key value body) looped scope q fit =
        let l = lefts_from p (site ∷ scope) q n (ints ∷ fit.0 ∷ []) (key ∷ value ∷ []) fit.6 in let behind = fit.4.0 in
        let k = sites_ascend body true (scope_behind (site ∷ scope) (key ∷ value ∷ [])) (suc site) fit.7 in omega arith
    declared_from (range (over_slice e t) key value body) looped scope q fit =
        let l = lefts_from p scope q n (ints ∷ type_named p t ∷ []) (key ∷ value ∷ []) fit.2 in
        let k = sites_ascend body true (scope_behind scope (key ∷ value ∷ [])) (lefts_after q (key ∷ value ∷ [])) fit.3 in omega arith
    declared_from (range (over_pointer at e x t) key value body) looped scope q fit =
        let l = lefts_from p scope q n (ints ∷ type_named p t ∷ []) (key ∷ value ∷ []) fit.6 in
        let k = sites_ascend body true (scope_behind scope (key ∷ value ∷ [])) (lefts_after q (key ∷ value ∷ [])) fit.7 in omega arith
    declared_from (range (over_pointed x) key blank body) looped scope q fit = key_from key scope q body fit.1 (sites_ascend body true (scope_behind scope (key ∷ [])) (lefts_after q (key ∷ [])) fit.2)
    declared_from (range (over_pointed x) key value body) looped scope q fit = absurd fit
    declared_from break_stmt looped scope q fit = omega arith
    declared_from continue_stmt looped scope q fit = omega arith
    declared_from (return_stmt es) looped scope q fit = omega arith
    declared_from (print ln ps) looped scope q fit = omega arith
    declared_from (panic at r) looped scope q fit = omega arith
    declared_from (exit at e) looped scope q fit = omega arith

    pub sites_ascend : (ss : Sts) (looped : Bool) (scope : List ℕ) (q : ℕ) → StsFit p wanted names looped scope q n ss → q ≤ all_sites_after q ss
    sites_ascend done looped scope q fit = omega arith
    sites_ascend (next x xs) looped scope q fit = let l = declared_from x looped scope q fit.0 in let k = sites_ascend xs looped (scope_after scope x) (declared_after q x) fit.1 in omega arith

pub scoped_after : (p : Program) (func : Func) (wanted : List TypeTree) (names : ℕ) (looped : Bool) (n : ℕ) (scope : List ℕ) (q : ℕ) (x : St) → StFits p wanted names looped scope q n x → Scoped func scope q → Scoped func (scope_after scope x) (declared_after q x)
scoped_after p func wanted names looped n scope q (declare sites) fit s = record { named = λ v i. with_has scope sites v (s.named v i); below = with_below p scope q n sites fit s.below; from = let l = s.from in let k = sites_from p q n sites fit in omega arith }
scoped_after p func wanted names looped n scope q (assign ls es) fit s = scoped_behind p func scope q n fit.0 ls fit.1 s
scoped_after p func wanted names looped n scope q (update at r op e) fit s = scoped_later func scope q _ (declared_from p wanted names n (update at r op e) looped scope q fit) s
scoped_after p func wanted names looped n scope q (bump at r op) fit s = scoped_later func scope q _ (declared_from p wanted names n (bump at r op) looped scope q fit) s
scoped_after p func wanted names looped n scope q (discard es) fit s = scoped_later func scope q _ (declared_from p wanted names n (discard es) looped scope q fit) s
scoped_after p func wanted names looped n scope q (block ss) fit s = scoped_later func scope q _ (declared_from p wanted names n (block ss) looped scope q fit) s
scoped_after p func wanted names looped n scope q (if_stmt e a b) fit s = scoped_later func scope q _ (declared_from p wanted names n (if_stmt e a b) looped scope q fit) s
scoped_after p func wanted names looped n scope q (for_stmt sites test post body) fit s = scoped_later func scope q _ (declared_from p wanted names n (for_stmt sites test post body) looped scope q fit) s
scoped_after p func wanted names looped n scope q (range over key value body) fit s = scoped_later func scope q _ (declared_from p wanted names n (range over key value body) looped scope q fit) s
scoped_after p func wanted names looped n scope q break_stmt fit s = scoped_later func scope q _ (declared_from p wanted names n break_stmt looped scope q fit) s
scoped_after p func wanted names looped n scope q continue_stmt fit s = scoped_later func scope q _ (declared_from p wanted names n continue_stmt looped scope q fit) s
scoped_after p func wanted names looped n scope q (return_stmt es) fit s = scoped_later func scope q _ (declared_from p wanted names n (return_stmt es) looped scope q fit) s
scoped_after p func wanted names looped n scope q (print ln ps) fit s = scoped_later func scope q _ (declared_from p wanted names n (print ln ps) looped scope q fit) s
scoped_after p func wanted names looped n scope q (panic at r) fit s = scoped_later func scope q _ (declared_from p wanted names n (panic at r) looped scope q fit) s
scoped_after p func wanted names looped n scope q (exit at e) fit s = scoped_later func scope q _ (declared_from p wanted names n (exit at e) looped scope q fit) s
