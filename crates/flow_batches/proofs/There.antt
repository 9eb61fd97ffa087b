-- The graph of a whole program has each location that the program has.
use Rattle.std.proofs.Common.{◌≡◌, ◌⊎◌, inl, inr, ℕ, zero, suc, ◌+◌, ◌-◌, ◌<◌, Bool, true, false, List, [], ◌∷◌, ◌++◌, take, drop, length, Option, Some, None, slice_get, refl, sym, ap, subst, ◌∙◌, arith}
use Rattle.std.specs.List.{list_any}
use Rattle.std.specs.Prelude.{◌||◌, ◌==◌, is_some, if◌then◌else◌}
use Rattle.std.proofs.lemmas.Bool.Decides.{nat_tests}
use Rattle.std.proofs.lemmas.Option.{same_Some, slice_get_within}
use Rattle.base.specs.declared.ids.FuncId.{FuncId}
use Rattle.deref_walk.specs.declared.loc.Loc.{Loc}
use Rattle.deref_walk.specs.declared.loc.Loc.TheVariants as loc
use Rattle.deref_walk.specs.declared.graph.Location.{Location}
use Rattle.deref_walk.specs.Locations.{same}
use Rattle.deref_walk.proofs.Same.{same_self}
use Rattle.value_flows.specs.declared.program.Site.{Site}
use Rattle.value_flows.specs.Syntax.{Result, Func, Program}
use Rattle.escape_graph.specs.Targets.{site}
use Rattle.escape_graph.specs.Edges.{numbers, is_own, results_in}
use Rattle.escape_graph.specs.Locations.{location, heap_location, site_locations, sites_from, package_sites, unnamed, locations_in, func_locations, funcs_locations, all_locations, whole_locations}
use Rattle.param_tags.specs.Order.{number_in, func_in, func_at}
use Rattle.flow_batches.specs.Batches.{HaveAll}
use Rattle.flow_batches.specs.Standing.{IsAmong, IsUnnamed, carried_in, IsStanding}
use Rattle.flow_batches.proofs.Stood.{part_at, at_place}
use Rattle.flow_batches.proofs.Ends.{IsHere}

-- a location is among those of a graph
abbrev pub Among : Loc → List Location → Type 0
Among l xs = list_any (λ x. same x.loc l) xs ≡ true

-- ---- tests

or_left : (a b : Bool) → a ≡ true → (a || b) ≡ true
or_left a b h = ap (λ (x : Bool). x || b) h

or_right : (a b : Bool) → b ≡ true → (a || b) ≡ true
or_right true b h = refl
or_right false b h = h

or_cases : (a b : Bool) → (a || b) ≡ true → (a ≡ true) ⊎ (b ≡ true)
or_cases true b h = inl refl
or_cases false b h = inr h

number_is : (a b : ℕ) → (a == b) ≡ true → a ≡ b
number_is a b h = grind (arith, nat_tests)

module _ (l : Loc) where
  in_first : (x : Location) (xs : List Location) → x.loc ≡ l → Among l (x ∷ xs)
  in_first x xs e = or_left (same x.loc l) (list_any (λ y. same y.loc l) xs) (subst (λ (m : Loc). same x.loc m ≡ true) e (same_self x.loc))

  in_later : (x : Location) (xs : List Location) → Among l xs → Among l (x ∷ xs)
  in_later x xs h = or_right (same x.loc l) (list_any (λ y. same y.loc l) xs) h

  in_left : (xs ys : List Location) → Among l xs → Among l (xs ++ ys)
  in_left [] ys h = let bad : false ≡ true = h in absurd cc bad
  in_left (x ∷ xs) ys h = elim (or_cases (same x.loc l) (list_any (λ y. same y.loc l) xs) h) [
    | inl first ↦ or_left (same x.loc l) (list_any (λ y. same y.loc l) (xs ++ ys)) first
    | inr later ↦ in_later x (xs ++ ys) (in_left xs ys later)
  ]

  in_right : (xs ys : List Location) → Among l ys → Among l (xs ++ ys)
  in_right [] ys h = h
  in_right (x ∷ xs) ys h = in_later x (xs ++ ys) (in_right xs ys h)

  kept : (b : Bool) (xs : List Location) → b ≡ false → Among l xs → Among l (if b then [] else xs)
  kept true xs e h = let bad : true ≡ false = e in absurd cc bad
  kept false xs e h = h

  taken : (b : Bool) (xs : List Location) → b ≡ true → Among l xs → Among l (if b then xs else [])
  taken true xs e h = h
  taken false xs e h = let bad : false ≡ true = e in absurd cc bad

  -- ---- sites: the location is the site x or what a loop carries of it

  no_func : (o : Option FuncId) → o ≡ None → is_some o ≡ false
  no_func None e = refl
  no_func (Some f) e = absurd cc e

  in_package : (x k i : ℕ) (s : Site) (ss : List Site) → x ≡ k + i → slice_get ss i ≡ Some s → s.func ≡ None → Among l (site_locations x s) → Among l (package_sites k ss)
  in_package x k i s [] e at none h = let bad : None ≡ Some s = at in absurd cc bad
  in_package x k zero s (t ∷ ss) e at none h =
      let is : t ≡ s = same_Some t s at in
      let here : x ≡ k = omega arith in
      let in_t : Among l (site_locations k t) = subst (λ (n : ℕ). Among l (site_locations n t)) here (subst (λ (u : Site). Among l (site_locations x u)) (sym is) h) in
      let free : is_some t.func ≡ false = no_func t.func (ap (λ (u : Site). u.func) is ∙ none) in
      in_left (if is_some t.func then [] else site_locations k t) (package_sites (suc k) ss) (kept (is_some t.func) (site_locations k t) free in_t)
  in_package x k (suc i) s (t ∷ ss) e at none h =
      in_right (if is_some t.func then [] else site_locations k t) (package_sites (suc k) ss) (in_package x (suc k) i s ss (omega arith) at none h)

  in_from : (x k i : ℕ) (s : Site) (ss : List Site) → x ≡ k + i → slice_get ss i ≡ Some s → Among l (site_locations x s) → Among l (sites_from k ss)
  in_from x k i s [] e at h = let bad : None ≡ Some s = at in absurd cc bad
  in_from x k zero s (t ∷ ss) e at h =
      let is : t ≡ s = same_Some t s at in
      let here : x ≡ k = omega arith in
      in_left (site_locations k t) (sites_from (suc k) ss) (subst (λ (n : ℕ). Among l (site_locations n t)) here (subst (λ (u : Site). Among l (site_locations x u)) (sym is) h))
  in_from x k (suc i) s (t ∷ ss) e at h = in_right (site_locations k t) (sites_from (suc k) ss) (in_from x (suc k) i s ss (omega arith) at h)

  -- ---- functions

  module _ (p : Program) where
    in_funcs : (f : FuncId) (b : List FuncId) → is_own (numbers b) f.0 ≡ true → Among l (func_locations p f) → Among l (funcs_locations p b)
    in_funcs f [] own h = let bad : false ≡ true = own in absurd cc bad
    in_funcs f (g ∷ gs) own h = elim (or_cases (g.0 == f.0) (is_own (numbers gs) f.0) own) [
      | inl here ↦ (
          let is : f.0 ≡ g.0 = sym (number_is g.0 f.0 here) in
          in_left (func_locations p g) (funcs_locations p gs) (subst (λ (n : ℕ). Among l (func_locations p (record { 0 = n }))) is h))
      | inr later ↦ in_right (func_locations p g) (funcs_locations p gs) (in_funcs f gs later h)
    ]

    in_all : (f : FuncId) (bs : List (List FuncId)) (k : ℕ) (b : List FuncId) → slice_get bs k ≡ Some b → is_own (numbers b) f.0 ≡ true → Among l (func_locations p f) → Among l (all_locations p bs)
    in_all f [] k b at own h = let bad : None ≡ Some b = at in absurd cc bad
    in_all f (c ∷ bs) zero b at own h = in_left (funcs_locations p c) (all_locations p bs) (in_funcs f c (subst (λ (d : List FuncId). is_own (numbers d) f.0 ≡ true) (sym (same_Some c b at)) own) h)
    in_all f (c ∷ bs) (suc k) b at own h = in_right (funcs_locations p c) (all_locations p bs) (in_all f bs k b at own h)

    module _ (batches : List (List FuncId)) (all : HaveAll p batches) where
      -- what a function has, the whole has
      in_whole : (f : FuncId) (func : Func) → slice_get p.funcs f.0 ≡ Some func → Among l (locations_in p f (Some func)) → Among l (whole_locations p batches)
      in_whole f func at h =
          let stands = all f.0 (slice_get_within p.funcs f.0 func at) in
          let own : Among l (func_locations p f) = subst (λ (o : Option Func). Among l (locations_in p f o)) (sym at) h in
          in_later heap_location (package_sites 0 p.sites ++ all_locations p batches)
          (in_right (package_sites 0 p.sites) (all_locations p batches) (in_all f batches stands.0 stands.1.0 stands.1.1 stands.1.2 own))

      in_func : (x : ℕ) (s : Site) (f : FuncId) (func : Func) → slice_get p.sites x ≡ Some s → slice_get p.funcs f.0 ≡ Some func → IsAmong x func → Among l (site_locations x s) → Among l (whole_locations p batches)
      in_func x s f func at there among h =
          let part = take func.count (drop func.first p.sites) in
          let e : x ≡ func.first + (x - func.first) = omega (arith, among.0) in
          in_whole f func there (in_left (sites_from func.first part) (unnamed f 0 func.results)
          (in_from x func.first (x - func.first) s part e (part_at p.sites func.first func.count x among.0 among.1 ∙ at) h))

      module _ (standing : IsStanding p) where
        in_site_of : (x : ℕ) (s : Site) (o : Option FuncId) → slice_get p.sites x ≡ Some s → s.func ≡ o → Among l (site_locations x s) → Among l (whole_locations p batches)
        in_site_of x s None at is h =
            in_later heap_location (package_sites 0 p.sites ++ all_locations p batches)
            (in_left (package_sites 0 p.sites) (all_locations p batches) (in_package x 0 x s p.sites (omega arith) at is h))
        in_site_of x s (Some f) at is h =
            let has : func_at p x ≡ Some f.0 = ap func_in at ∙ ap number_in is in
            let own = standing.sites x f.0 has in
            in_func x s f own.0 at own.1 own.2 h

        -- what a site has, the whole has
        in_site : (x : ℕ) (s : Site) → slice_get p.sites x ≡ Some s → Among l (site_locations x s) → Among l (whole_locations p batches)
        in_site x s at h = in_site_of x s s.func at refl h

-- ---- results without a name

no_name : (o : Option ℕ) → o ≡ None → is_some o ≡ false
no_name None e = refl
no_name (Some x) e = absurd cc e

in_unnamed : (f : FuncId) (j k i : ℕ) (r : Result) (rs : List Result) → j ≡ k + i → slice_get rs i ≡ Some r → r.site ≡ None → Among (loc.Result f j) (unnamed f k rs)
in_unnamed f j k i r [] e at none = let bad : None ≡ Some r = at in absurd cc bad
in_unnamed f j k zero r (q ∷ rs) e at none =
    let here : Location = location (loc.Result f k) (Some f) 0 true in
    let l = loc.Result f j in
    let same_j : k ≡ j = omega arith in
    let free : is_some q.site ≡ false = no_name q.site (ap (λ (u : Result). u.site) (same_Some q r at) ∙ none) in
    in_left l (if is_some q.site then [] else here ∷ []) (unnamed f (suc k) rs) (kept l (is_some q.site) (here ∷ []) free (in_first l here [] (ap (λ (n : ℕ). loc.Result f n) same_j)))
in_unnamed f j k (suc i) r (q ∷ rs) e at none =
    in_right (loc.Result f j) (if is_some q.site then [] else location (loc.Result f k) (Some f) 0 true ∷ []) (unnamed f (suc k) rs) (in_unnamed f j (suc k) i r rs (omega arith) at none)

-- ---- the whole

module _ (p : Program) (batches : List (List FuncId)) (all : HaveAll p batches) (standing : IsStanding p) where
  site_there : (x : ℕ) → x < length p.sites → Among (site x) (whole_locations p batches)
  site_there x within =
      let at = at_place p.sites x within in
      let s = at.0 in
      in_site (site x) p batches all standing x s at.1
      (in_first (site x) (location (site x) s.func s.depth s.result) (if s.carried then location (loc.Carry (record { 0 = x })) s.func (s.depth - 1) false ∷ [] else []) refl)

  carry_in : (x : ℕ) (o : Option Site) → slice_get p.sites x ≡ o → carried_in o ≡ true → Among (loc.Carry (record { 0 = x })) (whole_locations p batches)
  carry_in x None at is = let bad : false ≡ true = is in absurd cc bad
  carry_in x (Some s) at is =
      let l = loc.Carry (record { 0 = x }) in
      let here : Location = location l s.func (s.depth - 1) false in
      in_site l p batches all standing x s at
      (in_later l (location (site x) s.func s.depth s.result) (if s.carried then here ∷ [] else []) (taken l s.carried (here ∷ []) is (in_first l here [] refl)))

  result_of : (f : FuncId) (j : ℕ) (func : Func) (o : Option Result) → slice_get p.funcs f.0 ≡ Some func → slice_get func.results j ≡ o → IsUnnamed o → Among (loc.Result f j) (whole_locations p batches)
  result_of f j func None at is h = absurd h
  result_of f j func (Some r) at is h =
      let l = loc.Result f j in
      let part = take func.count (drop func.first p.sites) in
      in_whole l p batches all f func at (in_right l (sites_from func.first part) (unnamed f 0 func.results) (in_unnamed f j 0 j r func.results (omega arith) is h))

  result_in : (f : FuncId) (j : ℕ) (o : Option Func) → slice_get p.funcs f.0 ≡ o → IsUnnamed (slice_get (results_in o) j) → Among (loc.Result f j) (whole_locations p batches)
  result_in f j None at h = absurd h
  result_in f j (Some func) at h = result_of f j func (slice_get func.results j) at refl h

  pub are_there : (l : Loc) → IsHere p l → Among l (whole_locations p batches)
  are_there (loc.Site x) h = site_there x.0 h
  are_there (loc.Result f j) h = result_in f j (slice_get p.funcs f.0) refl h
  are_there loc.Heap h = in_first loc.Heap heap_location (package_sites 0 p.sites ++ all_locations p batches) refl
  are_there (loc.Carry x) h = carry_in x.0 (slice_get p.sites x.0) refl h
