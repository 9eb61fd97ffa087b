-- Targets at the same locations by no greater numbers.
use Rattle.std.proofs.Common.{◌≡◌, inl, inr, ℕ, zero, suc, ◌+◌, ◌≤◌, Bool, true, false, List, [], ◌∷◌, get_or, refl, sym, ◌∙◌, subst, ap, arith}
use Rattle.std.specs.List.{Contains}
use Rattle.std.specs.Prelude.{◌==◌, if◌then◌else◌, ⊤}
use Rattle.std.proofs.lemmas.Bool.Decides.{nat_tests}
use Rattle.deref_walk.specs.declared.loc.Loc.{Loc}
use Rattle.value_flows.specs.declared.value.Target.{Target}
use Rattle.value_flows.specs.declared.tags.ResultTag.{ResultTag}
use Rattle.value_flows.specs.Syntax.{Result}
use Rattle.escape_graph.specs.Targets.{target, further, reached, pointing, tagged}
use Rattle.param_tags.proofs.Lists.{contains_nil, one_is, one_has}
use Rattle.param_tags.proofs.Targets.{map_has, map_is, filter_has, filter_is, by_tag, tagged_has, tagged_cases}

-- for each target of the first list there is one in the second, at the same location and by a number that is no greater
pub record AreNearer (ts us : List Target) : Type 0 where
  pub near : (t : Target) → Contains ts t → (u : Target) × Contains us u × (u.to ≡ t.to) × (u.by ≤ t.by)

pub nearer_none : (us : List Target) → AreNearer [] us
nearer_none us = record { near = λ t h. absurd (contains_nil t h) }

pub nearer_self : (ts : List Target) → AreNearer ts ts
nearer_self ts = record { near = λ t h. (t, h, refl, omega arith) }

pub nearer_one : (to : Loc) (k j : ℕ) → j ≤ k → AreNearer (target to k ∷ []) (target to j ∷ [])
nearer_one to k j less = record {
  near = λ t h.
      let is : target to k ≡ t = one_is (target to k) t h in
      (target to j, one_has (target to j), ap (λ (x : Target). x.to) is, subst (λ (x : Target). j ≤ x.by) is less);
}

pub nearer_further : (n m : ℕ) (ts us : List Target) → m ≤ n → AreNearer ts us → AreNearer (further n ts) (further m us)
nearer_further n m ts us less nearer = record {
  near = λ t h.
      let from = map_is (λ (x : Target). target x.to (x.by + n)) ts t h in
      let there = nearer.near from.0 from.1 in
      let low : (there.0.by + m) ≤ (from.0.by + n) = omega (arith, there.3) in (
        target there.0.to (there.0.by + m),
        map_has (λ (x : Target). target x.to (x.by + m)) us there.0 there.1,
        there.2 ∙ ap (λ (x : Target). x.to) from.2,
        subst (λ (x : Target). (there.0.by + m) ≤ x.by) from.2 low,
      );
}

pub nearer_reached : (has : Bool) (ts us : List Target) → AreNearer ts us → AreNearer (reached has ts) (reached has us)
nearer_reached true ts us nearer = nearer
nearer_reached false ts us nearer = record {
  near = λ t h.
      let from = filter_is (λ (x : Target). x.by == 0) ts t h in
      let there = nearer.near t from.0 in
      let zero_there : t.by ≡ 0 = grind (arith, nat_tests, from.1) in
      let zero_here : there.0.by ≡ 0 = omega (arith, there.3) in
      let test : (there.0.by == 0) ≡ true = grind (arith, nat_tests) in
      (there.0, filter_has (λ (x : Target). x.by == 0) us there.0 there.1 test, there.2, there.3);
}

-- so at each place of the first row
abbrev pub AreRowsNearer : List (List Target) → List (List Target) → Type 0
AreRowsNearer [] uss = ⊤
AreRowsNearer (ts ∷ tss) [] = ⊥
AreRowsNearer (ts ∷ tss) (us ∷ uss) = AreNearer ts us × AreRowsNearer tss uss

pub rows_self : (tss : List (List Target)) → AreRowsNearer tss tss
rows_self [] = tt
rows_self (ts ∷ tss) = (nearer_self ts, rows_self tss)

pub rows_one : (ts us : List Target) → AreNearer ts us → AreRowsNearer (ts ∷ []) (us ∷ [])
rows_one ts us nearer = (nearer, tt)

pub rows_at : (tss uss : List (List Target)) (i : ℕ) → AreRowsNearer tss uss → AreNearer (get_or tss i []) (get_or uss i [])
rows_at [] uss i rows = nearer_none (get_or uss i [])
rows_at (ts ∷ tss) [] i rows = absurd rows
rows_at (ts ∷ tss) (us ∷ uss) zero rows = rows.0
rows_at (ts ∷ tss) (us ∷ uss) (suc i) rows = rows_at tss uss i rows.1

nearer_if : (b : Bool) (ts us : List Target) → AreNearer ts us → AreNearer (if b then ts else []) (if b then us else [])
nearer_if true ts us nearer = nearer
nearer_if false ts us nearer = nearer_none []

pub rows_pointing : (rs : List Result) (tss uss : List (List Target)) → AreRowsNearer tss uss → AreRowsNearer (pointing rs tss) (pointing rs uss)
rows_pointing [] tss uss rows = tt
rows_pointing (r ∷ rs) [] uss rows = tt
rows_pointing (r ∷ rs) (ts ∷ tss) [] rows = absurd rows
rows_pointing (r ∷ rs) (ts ∷ tss) (us ∷ uss) rows = (nearer_if r.pointers ts us rows.0, rows_pointing rs tss uss rows.1)

-- for each tag of the first list there is one of the same result in the second, by a number that is no greater
abbrev pub AreLessResults : List ResultTag → List ResultTag → Type 0
AreLessResults cs bs = (a : ResultTag) → Contains cs a → (b : ResultTag) × Contains bs b × (b.result ≡ a.result) × (b.by ≤ a.by)

nearer_by_tag : (a b : ResultTag) → b.result ≡ a.result → b.by ≤ a.by → (tss uss : List (List Target)) → AreRowsNearer tss uss → AreNearer (by_tag tss a) (by_tag uss b)
nearer_by_tag a b result by tss uss rows =
    nearer_further a.by b.by (get_or tss a.result []) (get_or uss b.result []) by
    (subst (λ (n : ℕ). AreNearer (get_or tss a.result []) (get_or uss n [])) (sym result) (rows_at tss uss a.result rows))

pub nearer_tagged : (cs bs : List ResultTag) → AreLessResults cs bs → (tss uss : List (List Target)) → AreRowsNearer tss uss → AreNearer (tagged [] cs tss) (tagged [] bs uss)
nearer_tagged cs bs less tss uss rows = record {
  near = λ t h. elim (tagged_cases [] cs tss t h) [
    | inl empty ↦ absurd (contains_nil t empty)
    | inr from ↦
        (let other = less from.0 from.1 in
        let near = (nearer_by_tag from.0 other.0 other.2 other.3 tss uss rows).near t from.2 in
        (near.0, tagged_has [] bs uss other.0 near.0 other.1 near.1, near.2, near.3))
  ];
}
