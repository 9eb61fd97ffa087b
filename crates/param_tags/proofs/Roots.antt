-- The tag of a function, root after root.
use Rattle.std.proofs.Common.{◌≡◌, ◌⊎◌, inl, inr, ℕ, ◌<◌, ◌+◌, ℤ, pos, negsuc, ◌≤ℤ◌, Bool, true, false, List, [], ◌∷◌, ◌++◌, Option, Some, None, length, get_or, take, refl, sym, subst, ap, ◌∙◌, arith, w32, to_z, of_z, nat_eq}
use Rattle.std.proofs.Math.IntN.{nat_abs}
use Rattle.std.specs.Bool.{MatchBool}
use Rattle.std.specs.Int.{int_max}
use Rattle.std.specs.Int.RustNames.{FitsSigned}
use Rattle.std.proofs.lemmas.Int.{ints, clamps, to_z-of_z}
use Rattle.std.proofs.lemmas.Bool.Decides.{nat_tests}
use Rattle.std.proofs.lemmas.List.{take_more}
use Rattle.std.proofs.lemmas.List.Elements.{Contains-push_cases}
use Rattle.deref_walk.specs.declared.loc.Loc.{Loc}
use Rattle.deref_walk.specs.declared.graph.Edge.{Edge}
use Rattle.deref_walk.specs.Flow.{Reaches, itself as itself_flow, IsLeast}
use Rattle.deref_walk.specs.Locations.{same}
use Rattle.deref_walk.proofs.Same.{same_is, same_self}
use Rattle.param_tags.specs.declared.walks.Walked.{Walked}
use Rattle.param_tags.specs.Heap.{IsAtMost, IsFlow, IsTag}
use Rattle.param_tags.specs.Walks.{AreWalked, IsFloor, IsTagAmong}
use Rattle.param_tags.proofs.Ends.{first_edge}
use Rattle.param_tags.proofs.Lists.{contains_nil}

-- ---- one walk

both_ways : (n : ℤ) → n ≤ℤ negsuc 0 → negsuc 0 ≤ℤ n → n ≡ negsuc 0
both_ways n h g = omega (arith, ints)

pub held_case : (b : Bool) (E : List Edge) (root l : Loc) (n : ℤ) → (b ≡ true → n ≡ negsuc 0) → (b ≡ false → n ≡ negsuc 0 → ⊥) → IsLeast E root l (Some n) → MatchBool b (IsLeast E root l (Some (negsuc 0))) (IsLeast E root l (Some (negsuc 0)) → ⊥)
held_case true E root l n is not least = subst (λ (z : ℤ). IsLeast E root l (Some z)) (is refl) least
held_case false E root l n is not least = λ other. not refl (both_ways n (least.1 (negsuc 0) other.0) (other.1 n least.0))

address_bits : (n : ℤ) → FitsSigned w32 n → of_z w32 n ≡ 4294967295 → n ≡ negsuc 0
address_bits n fits h = sym (to_z-of_z w32 n fits) ∙ ap (to_z w32) h

address_word : (n : ℤ) → n ≡ negsuc 0 → of_z w32 n ≡ 4294967295
address_word n h = ap (of_z w32) h

bits_same : (a b : ℕ) → nat_eq a b ≡ true → a ≡ b
bits_same a b h = grind (arith, nat_tests)

bits_differ : (a b : ℕ) → nat_eq a b ≡ false → a ≡ b → ⊥
bits_differ a b h e = grind (arith, nat_tests)

pub held_by : (E : List Edge) (root l : Loc) (n : ℤ) → FitsSigned w32 n → IsLeast E root l (Some n) → MatchBool (nat_eq (of_z w32 n) 4294967295) (IsLeast E root l (Some (negsuc 0))) (IsLeast E root l (Some (negsuc 0)) → ⊥)
held_by E root l n fits least = held_case (nat_eq (of_z w32 n) 4294967295) E root l n
    (λ h. address_bits n fits (bits_same (of_z w32 n) 4294967295 h))
    (λ h e. bits_differ (of_z w32 n) 4294967295 h (address_word n e))
    least

nat_max : (n x : ℤ) → x ≡ int_max n (pos 0) → int_max n (pos 0) ≡ pos (nat_abs x)
nat_max n x h = omega (arith, ints, clamps)

max_more : (n d : ℤ) (m : ℕ) → int_max n (pos 0) ≡ pos m → n ≤ℤ d → pos m ≤ℤ int_max d (pos 0)
max_more n d m is below = omega (arith, ints, clamps)

pub floor_case : (E : List Edge) (root l : Loc) (n : ℤ) (m : ℕ) → int_max n (pos 0) ≡ pos m → IsLeast E root l (Some n) → IsFloor E root l (Some m)
floor_case E root l n m is least = record {
  flow = (root, n, same_self root, least.0, is);
  least = λ d flow. max_more n d m is (least.1 d flow);
}

pub floored_by : (E : List Edge) (root l : Loc) (n x : ℤ) → FitsSigned w32 n → FitsSigned w32 x → x ≡ int_max (to_z w32 (of_z w32 n)) (pos 0) → IsLeast E root l (Some n) → IsFloor E root l (Some (nat_abs (to_z w32 (of_z w32 x))))
floored_by E root l n x fits small is least =
    let whole : x ≡ int_max n (pos 0) = is ∙ ap (λ (z : ℤ). int_max z (pos 0)) (to_z-of_z w32 n fits) in
    subst (λ (z : ℤ). IsFloor E root l (Some (nat_abs z))) (sym (to_z-of_z w32 x small)) (floor_case E root l n (nat_abs x) (nat_max n x whole) least)

-- ---- all walks

at_zero : pos 0 ≤ℤ int_max (pos 0) (pos 0)
at_zero = omega (arith, ints, clamps)

zero_is : int_max (pos 0) (pos 0) ≡ pos 0
zero_is = omega (arith, ints, clamps)

-- flows to a location itself
pub among_some : (R : Loc → Bool) (E : List Edge) (l : Loc) → R l ≡ true → IsTagAmong R E l [] (Some 0)
among_some R E l root = record {
  flow = (l, pos 0, root, itself_flow, zero_is);
  itself = λ h. at_zero;
  least = λ w among h d flow. absurd (contains_nil w among);
}

pub among_none : (R : Loc → Bool) (E : List Edge) (l : Loc) → R l ≡ false → IsTagAmong R E l [] None
among_none R E l not = record {
  flow = tt;
  itself = λ h. absurd (let e : true ≡ false = sym h ∙ not in cc);
  least = λ w among h d flow. absurd (contains_nil w among);
}

floor_flow : (R : Loc → Bool) (E : List Edge) (root l : Loc) (o : Option ℕ) → R root ≡ true → IsFlow (λ r. same root r) E l o → IsFlow R E l o
floor_flow R E root l None h f = tt
floor_flow R E root l (Some n) h f = (f.0, f.1, subst (λ (r : Loc). R r ≡ true) (same_is root f.0 f.2) h, f.3, f.4)

among_root : (R : Loc → Bool) (E : List Edge) (l : Loc) (seen : List Walked) (w : Walked) (a b o : Option ℕ) → R w.root ≡ true → IsTagAmong R E l seen a → IsFloor E w.root l b → ((d : ℤ) → IsAtMost a d → IsAtMost o d) → ((d : ℤ) → IsAtMost b d → IsAtMost o d) → (o ≡ a) ⊎ (o ≡ b) → IsTagAmong R E l (seen ++ w ∷ []) o
among_root R E l seen w a b o root t f first second either = record {
  flow = elim either [ inl is ↦ subst (λ (x : Option ℕ). IsFlow R E l x) (sym is) t.flow | inr is ↦ subst (λ (x : Option ℕ). IsFlow R E l x) (sym is) (floor_flow R E w.root l b root f.flow) ];
  itself = λ h. first (pos 0) (t.itself h);
  least = λ v among h d flow. elim (Contains-push_cases seen w v among) [
    | inl before ↦ first d (t.least v before h d flow)
    | inr is ↦ second d (f.least d (subst (λ (x : Walked). Reaches E x.root l d) (sym is) flow))
  ];
}

among_skip : (R : Loc → Bool) (E : List Edge) (l : Loc) (seen : List Walked) (w : Walked) (o : Option ℕ) → R w.root ≡ false → IsTagAmong R E l seen o → IsTagAmong R E l (seen ++ w ∷ []) o
among_skip R E l seen w o not t = record {
  flow = t.flow;
  itself = t.itself;
  least = λ v among h d flow. elim (Contains-push_cases seen w v among) [
    | inl before ↦ t.least v before h d flow
    | inr is ↦ absurd (let e : R v.root ≡ false = subst (λ (x : Walked). R x.root ≡ false) is not in let f : true ≡ false = sym h ∙ e in cc)
  ];
}

pub among_all : (R : Loc → Bool) (E : List Edge) (walks : List Walked) (l : Loc) (o : Option ℕ) → AreWalked E walks → IsTagAmong R E l walks o → IsTag R E l o
among_all R E walks l o walked t = record {
  flow = t.flow;
  least = λ r d root flow. elim (first_edge E r l d flow) [
    | inl here ↦ subst (λ (z : ℤ). IsAtMost o z) (sym here.1) (t.itself (subst (λ (x : Loc). R x ≡ true) here.0 root))
    | inr first ↦ (let w = walked.whole first.0 first.1 in
        let is : w.0.root ≡ r = w.2 ∙ first.2 in
        t.least w.0 w.1 (subst (λ (x : Loc). R x ≡ true) (sym is) root) d (subst (λ (x : Loc). Reaches E x l d) (sym is) flow))
  ];
}

pub step_root : (R : Loc → Bool) (E : List Edge) (l : Loc) (walks : List Walked) (i : ℕ) (w : Walked) (a b o : Option ℕ) → i < length walks → w ≡ get_or walks i w → R w.root ≡ true → IsTagAmong R E l (take i walks) a → IsFloor E w.root l b → ((d : ℤ) → IsAtMost a d → IsAtMost o d) → ((d : ℤ) → IsAtMost b d → IsAtMost o d) → (o ≡ a) ⊎ (o ≡ b) → IsTagAmong R E l (take (i + 1) walks) o
step_root R E l walks i w a b o within is root t f first second either =
    let seen : take (i + 1) walks ≡ take i walks ++ w ∷ [] = take_more walks i w within ∙ ap (λ (x : Walked). take i walks ++ x ∷ []) (sym is) in
    subst (λ (xs : List Walked). IsTagAmong R E l xs o) (sym seen) (among_root R E l (take i walks) w a b o root t f first second either)

pub step_skip : (R : Loc → Bool) (E : List Edge) (l : Loc) (walks : List Walked) (i : ℕ) (w : Walked) (o : Option ℕ) → i < length walks → w ≡ get_or walks i w → R w.root ≡ false → IsTagAmong R E l (take i walks) o → IsTagAmong R E l (take (i + 1) walks) o
step_skip R E l walks i w o within is not t =
    let seen : take (i + 1) walks ≡ take i walks ++ w ∷ [] = take_more walks i w within ∙ ap (λ (x : Walked). take i walks ++ x ∷ []) (sym is) in
    subst (λ (xs : List Walked). IsTagAmong R E l xs o) (sym seen) (among_skip R E l (take i walks) w o not t)
