-- What outlives a site in a program outlives it in the check of a report.
use Rattle.std.proofs.Common.{◌≡◌, ◌⊎◌, inl, inr, ℕ, zero, suc, ◌+◌, ◌-◌, ◌<◌, Bool, true, false, List, [], ◌∷◌, ◌++◌, take, drop, length, Option, Some, None, refl, sym, ap, subst, ◌∙◌, arith}
use Rattle.std.specs.Prelude.{◌&&◌, ◌||◌, nat_lt, slice_get, is_some, if◌then◌else◌}
use Rattle.std.proofs.lemmas.Bool.Decides.{nat_tests}
use Rattle.std.proofs.lemmas.Option.{slice_get_within}
use Rattle.std.specs.List.{list_any}
use Rattle.base.specs.declared.ids.FuncId.{FuncId}
use Rattle.base.specs.declared.ids.SiteId.{SiteId}
use Rattle.deref_walk.specs.declared.loc.Loc.{Loc}
use Rattle.deref_walk.specs.declared.loc.Loc.TheVariants as loc
use Rattle.deref_walk.specs.declared.graph.Location.{Location}
use Rattle.deref_walk.specs.Locations.{same}
use Rattle.deref_walk.proofs.Same.{same_is}
use Rattle.value_flows.specs.declared.program.Site.{Site}
use Rattle.value_flows.specs.Syntax.{Result, Func, Program}
use Rattle.escape_graph.specs.Locations.{site_locations, sites_from, package_sites, unnamed, locations_in, func_locations, funcs_locations, all_locations, whole_locations}
use Rattle.param_tags.specs.Heap.{result_in, is_result, same_func, outside_in, outside, outlives as outlives_in}
use Rattle.report_checks.specs.Verdict.{is_there, is_named_result, outlives_all, same_func as same_func_there, is_deeper, lies_outside, is_put_on_heap}
use Rattle.explain.specs.Passing.{OutlivesAlike}
use Rattle.explain.proofs.Passes.{both_true, or_left, or_right}

-- ---- sites of a part of a list

in_drop : {A : Type 0} (xs : List A) (n i : ℕ) (x : A) → slice_get (drop n xs) i ≡ Some x → slice_get xs (n + i) ≡ Some x
in_drop xs zero i x h = let e : zero + i ≡ i = omega arith in rw e h
in_drop [] (suc n) i x h = absurd (cc)
in_drop {A = A} (y ∷ ys) (suc n) i x h = let e : suc n + i ≡ suc (n + i) = omega arith in subst (λ (k : ℕ). slice_get (y ∷ ys) k ≡ Some x) (sym e) (in_drop ys n i x h)

in_take : {A : Type 0} (xs : List A) (n i : ℕ) (x : A) → slice_get (take n xs) i ≡ Some x → slice_get xs i ≡ Some x
in_take xs zero i x h = absurd (cc)
in_take [] (suc n) i x h = absurd (cc)
in_take (y ∷ ys) (suc n) zero x h = h
in_take (y ∷ ys) (suc n) (suc i) x h = in_take ys n i x h

-- ---- each location of a program has what its site says

module _ (p : Program) where
  -- a location is that of a site of this number, at a depth that is less by so much
  IsOf : ℕ → ℕ → Location → Type 0
  IsOf m less x = (s : Site) × (slice_get p.sites m ≡ Some s) × (x.func ≡ s.func) × (x.depth ≡ s.depth - less)

  IsNamed : ℕ → Location → Type 0
  IsNamed m x = (s : Site) × (slice_get p.sites m ≡ Some s) × (x.result ≡ s.result)

  IsEntry : Loc → Location → Type 0
  IsEntry (loc.Site m) x = IsOf m.0 0 x × IsNamed m.0 x
  IsEntry (loc.Result f j) x = Unit {0}
  IsEntry loc.Heap x = Unit {0}
  IsEntry (loc.Carry m) x = IsOf m.0 1 x

  AreEntries : List Location → Type 0
  AreEntries [] = Unit {0}
  AreEntries (x ∷ xs) = IsEntry x.loc x × AreEntries xs

  entries_append : (xs ys : List Location) → AreEntries xs → AreEntries ys → AreEntries (xs ++ ys)
  unfolding AreEntries
  entries_append [] ys h k = k
  entries_append (x ∷ xs) ys h k = (h.0, entries_append xs ys h.1 k)

  kept : (b : Bool) (xs : List Location) → AreEntries xs → AreEntries (if b then xs else [])
  unfolding AreEntries
  kept true xs h = h
  kept false xs h = tt

  site_entries : (x : ℕ) (s : Site) → slice_get p.sites x ≡ Some s → AreEntries (site_locations x s)
  unfolding AreEntries IsEntry IsOf IsNamed
  site_entries x s h =
      let carry : Location = record { loc = loc.Carry (record { 0 = x }); func = s.func; depth = s.depth - 1; result = false } in
      (((s, h, refl, omega arith), (s, h, refl)), kept s.carried (carry ∷ []) ((s, h, refl, refl), tt))

  IsPart : ℕ → List Site → Type 0
  IsPart x ss = (i : ℕ) (s : Site) → slice_get ss i ≡ Some s → slice_get p.sites (x + i) ≡ Some s

  first_part : (x : ℕ) (s : Site) (ss : List Site) → IsPart x (s ∷ ss) → slice_get p.sites x ≡ Some s
  unfolding IsPart
  first_part x s ss h = let e : x + 0 ≡ x = omega arith in subst (λ (k : ℕ). slice_get p.sites k ≡ Some s) e (h 0 s refl)

  later_part : (x : ℕ) (s : Site) (ss : List Site) → IsPart x (s ∷ ss) → IsPart (suc x) ss
  unfolding IsPart
  later_part x s ss h i t k = let e : x + suc i ≡ suc x + i = omega arith in subst (λ (j : ℕ). slice_get p.sites j ≡ Some t) e (h (suc i) t k)

  from_entries : (x : ℕ) (ss : List Site) → IsPart x ss → AreEntries (sites_from x ss)
  unfolding AreEntries
  from_entries x [] h = tt
  from_entries x (s ∷ ss) h = entries_append (site_locations x s) (sites_from (suc x) ss) (site_entries x s (first_part x s ss h)) (from_entries (suc x) ss (later_part x s ss h))

  chosen : (b : Bool) (xs : List Location) → AreEntries xs → AreEntries (if b then [] else xs)
  unfolding AreEntries
  chosen true xs h = tt
  chosen false xs h = h

  package_entries : (x : ℕ) (ss : List Site) → IsPart x ss → AreEntries (package_sites x ss)
  unfolding AreEntries
  package_entries x [] h = tt
  package_entries x (s ∷ ss) h =
      entries_append (if is_some s.func then [] else site_locations x s) (package_sites (suc x) ss) (chosen (is_some s.func) (site_locations x s) (site_entries x s (first_part x s ss h))) (package_entries (suc x) ss (later_part x s ss h))

  result_entries : (f : FuncId) (j : ℕ) (rs : List Result) → AreEntries (unnamed f j rs)
  unfolding AreEntries IsEntry
  result_entries f j [] = tt
  result_entries f j (r ∷ rs) =
      let here : Location = record { loc = loc.Result f j; func = Some f; depth = 0; result = true } in
      entries_append (if is_some r.site then [] else here ∷ []) (unnamed f (suc j) rs) (chosen (is_some r.site) (here ∷ []) (tt, tt)) (result_entries f (suc j) rs)

  in_entries : (f : FuncId) (o : Option Func) → AreEntries (locations_in p f o)
  unfolding AreEntries IsPart
  in_entries f None = tt
  in_entries f (Some g) =
      entries_append (sites_from g.first (take g.count (drop g.first p.sites))) (unnamed f 0 g.results)
      (from_entries g.first (take g.count (drop g.first p.sites)) (λ i s h. in_drop p.sites g.first i s (in_take (drop g.first p.sites) g.count i s h))) (result_entries f 0 g.results)

  funcs_entries : (fs : List FuncId) → AreEntries (funcs_locations p fs)
  unfolding AreEntries
  funcs_entries [] = tt
  funcs_entries (f ∷ fs) = entries_append (func_locations p f) (funcs_locations p fs) (in_entries f (slice_get p.funcs f.0)) (funcs_entries fs)

  all_entries : (bs : List (List FuncId)) → AreEntries (all_locations p bs)
  unfolding AreEntries
  all_entries [] = tt
  all_entries (b ∷ bs) = entries_append (funcs_locations p b) (all_locations p bs) (funcs_entries b) (all_entries bs)

  whole_entries : (batches : List (List FuncId)) → AreEntries (whole_locations p batches)
  unfolding AreEntries IsEntry IsPart
  whole_entries batches =
      (tt, entries_append (package_sites 0 p.sites) (all_locations p batches) (package_entries 0 p.sites (λ i s h. let e : i ≡ 0 + i = omega arith in subst (λ (k : ℕ). slice_get p.sites k ≡ Some s) e h)) (all_entries batches))

  -- ---- what is told of a location

  or_cases : (a b : Bool) → (a || b) ≡ true → (a ≡ true) ⊎ (b ≡ true)
  or_cases true b h = inl refl
  or_cases false b h = inr h

  -- what holds of a location where it is one's
  any_more : (l : Loc) (Q : Location → Bool) (xs : List Location) → AreEntries xs → ((x : Location) → x.loc ≡ l → IsEntry l x → Q x ≡ true) → is_there xs l ≡ true → list_any (λ x. same x.loc l && Q x) xs ≡ true
  unfolding AreEntries
  any_more l Q [] all k h = h
  any_more l Q (x ∷ xs) all k h = elim (or_cases (same x.loc l) (is_there xs l) h) [
    | inl here ↦ (let e = same_is x.loc l here in or_left (same x.loc l && Q x) (list_any (λ y. same y.loc l && Q y) xs) (both_true here (k x e (subst (λ (y : Loc). IsEntry y x) e all.0))))
    | inr later ↦ or_right (same x.loc l && Q x) (list_any (λ y. same y.loc l && Q y) xs) (any_more l Q xs all.1 k later)
  ]

  within : (l : SiteId) (xs : List Location) → AreEntries xs → is_there xs (loc.Site l) ≡ true → l.0 < length p.sites
  unfolding AreEntries IsEntry IsOf
  within l [] all h = absurd (let e : false ≡ true = h in cc)
  within l (x ∷ xs) all h = elim (or_cases (same x.loc (loc.Site l)) (is_there xs (loc.Site l)) h) [
    | inl here ↦ (
        let entry : IsEntry (loc.Site l) x = subst (λ (y : Loc). IsEntry y x) (same_is x.loc (loc.Site l) here) all.0 in
        slice_get_within p.sites l.0 entry.0.0 entry.0.1)
    | inr later ↦ within l xs all.1 later
  ]

  some_same : {A : Type 0} (o : Option A) (a b : A) → o ≡ Some a → o ≡ Some b → a ≡ b
  some_same o a b h k = cc

  named_too : (xs : List Location) (m : SiteId) → AreEntries xs → is_there xs (loc.Site m) ≡ true → is_result p m.0 ≡ true → is_named_result xs (loc.Site m) ≡ true
  unfolding IsEntry IsNamed
  named_too xs m all there h = any_more (loc.Site m) (λ x. x.result) xs all (λ x e entry. (
      let s = entry.1 in
      let says : s.0.result ≡ true = ap result_in (sym s.1) ∙ h in
      s.2 ∙ says)) there

  func_too : (a b : Option FuncId) → same_func a b ≡ true → same_func_there a b ≡ true
  unfolding same_func_there
  func_too None b h = absurd (let e : false ≡ true = h in cc)
  func_too (Some f) None h = absurd (let e : false ≡ true = h in cc)
  func_too (Some f) (Some g) h = h

  parts : (a b : Bool) → (a && b) ≡ true → (a ≡ true) × (b ≡ true)
  parts true b h = (refl, h)
  parts false b h = absurd (let e : false ≡ true = h in cc)

  less_too : (a b c d : ℕ) → a ≡ c → d ≡ b - 0 → nat_lt c b ≡ true → nat_lt a d ≡ true
  less_too a b c d e k h = grind (arith, nat_tests)

  deeper : (m less l : ℕ) (a x : Location) → IsOf m less a → IsOf l 0 x → outside p m less l ≡ true → (same_func_there a.func x.func && nat_lt a.depth x.depth) ≡ true
  unfolding IsOf
  deeper m less l a x s t h =
      let seen : outside_in (Some s.0) less (Some t.0) ≡ true = ap (λ (o : Option Site). outside_in o less (Some t.0)) (sym s.1) ∙ ap (outside_in (slice_get p.sites m) less) (sym t.1) ∙ h in
      let both = parts (same_func s.0.func t.0.func) (nat_lt (s.0.depth - less) t.0.depth) seen in
      let funcs : same_func a.func x.func ≡ true = ap (λ (f : Option FuncId). same_func f x.func) s.2 ∙ ap (same_func s.0.func) t.2 ∙ both.0 in
      both_true (func_too a.func x.func funcs) (less_too a.depth t.0.depth (s.0.depth - less) x.depth s.3 t.3 both.1)

  outside_too : (xs : List Location) (r : Loc) (m less : ℕ) (l : SiteId) → AreEntries xs → ((x : Location) → IsEntry r x → IsOf m less x) → is_there xs r ≡ true → is_there xs (loc.Site l) ≡ true → outside p m less l.0 ≡ true → lies_outside xs r (loc.Site l) ≡ true
  unfolding IsEntry
  outside_too xs r m less l all is_of there at h =
      any_more r (λ a. is_deeper xs a (loc.Site l)) xs all (λ a e entry. any_more (loc.Site l) (λ x. same_func_there a.func x.func && nat_lt a.depth x.depth) xs all (λ x k other. deeper m less l.0 a x (is_of a entry) other.0 h) at) there

  site_too : (xs : List Location) (K : ℕ → Bool) (m l : SiteId) → AreEntries xs → is_there xs (loc.Site m) ≡ true → is_there xs (loc.Site l) ≡ true → (K m.0 || (is_result p m.0 || outside p m.0 0 l.0)) ≡ true
      → (outlives_all xs (loc.Site m) || (lies_outside xs (loc.Site m) (loc.Site l) || is_put_on_heap (λ n. K n.0) (loc.Site m))) ≡ true
  unfolding IsEntry outlives_all is_put_on_heap
  site_too xs K m l all there at h =
      let named = is_named_result xs (loc.Site m) in
      let out = lies_outside xs (loc.Site m) (loc.Site l) in
      elim (or_cases (K m.0) (is_result p m.0 || outside p m.0 0 l.0) h) [
        | inl heap ↦ or_right named (out || K m.0) (or_right out (K m.0) heap)
        | inr other ↦ elim (or_cases (is_result p m.0) (outside p m.0 0 l.0) other) [
          | inl result ↦ or_left named (out || K m.0) (named_too xs m all there result)
          | inr outer ↦ or_right named (out || K m.0) (or_left out (K m.0) (outside_too xs (loc.Site m) m.0 0 l all (λ x entry. entry.0) there at outer))
        ]
      ]

  too : (xs : List Location) (K : ℕ → Bool) (r : Loc) (l : SiteId) → AreEntries xs → is_there xs r ≡ true → is_there xs (loc.Site l) ≡ true → outlives_in p K r l.0 ≡ true
      → (outlives_all xs r || (lies_outside xs r (loc.Site l) || is_put_on_heap (λ n. K n.0) r)) ≡ true
  unfolding IsEntry outlives_all is_put_on_heap
  too xs K (loc.Site m) l all there at h = site_too xs K m l all there at h
  too xs K (loc.Result f j) l all there at h = refl
  too xs K loc.Heap l all there at h = refl
  too xs K (loc.Carry m) l all there at h =
      or_left (lies_outside xs (loc.Carry m) (loc.Site l)) false (outside_too xs (loc.Carry m) m.0 1 l all (λ x entry. entry) there at h)

-- a site that the graph of a program has is the program's
pub site_within : (p : Program) (batches : List (List FuncId)) (l : SiteId) → is_there (whole_locations p batches) (loc.Site l) ≡ true → l.0 < length p.sites
site_within p batches l h = within p l (whole_locations p batches) (whole_entries p batches) h

pub outlives_alike : OutlivesAlike
outlives_alike p batches K r l there at h = both_true there (too p (whole_locations p batches) K r l (whole_entries p batches) there at h)
