-- The flows of a program in form, whose sites fit it, have what the analysis asks of flows.
use Rattle.std.proofs.Common.{◌≡◌, ℕ, zero, suc, ◌+◌, ◌<◌, ◌≤◌, Bool, false, List, [], ◌∷◌, map, length, Option, Some, None, slice_get, refl, sym, ap, subst, ◌∙◌, inl, inr, arith}
use Rattle.std.specs.List.{Contains}
use Rattle.std.proofs.lemmas.Option.{same_Some, slice_get_within}
use Rattle.value_flows.specs.Syntax as flow
use Rattle.typed_syntax.specs.Types.{TypeTree}
use Rattle.typed_syntax.specs.Syntax.{Func, Program}
use Rattle.typed_syntax.specs.Form.{IsInForm, ParamsFit, NamedFit, named_params, params_scope, scope_with, scope_in, body_first}
use Rattle.typed_syntax.specs.Form as form
use Rattle.typed.specs.declared.program.Site.{Site}
use Rattle.escape_graph.specs.Edges.{results_of as flow_results_of, results_in}
use Rattle.param_tags.specs.Order.{IsOf, MayBeOf, func_at, FuncFits, FuncCalls, IsFormed}
use Rattle.param_tags.specs.Order as order
use Rattle.param_tags.proofs.Lists.{contains_nil, head_or_tail}
use Rattle.flow_batches.specs.Batches.{CallsAreThere}
use Rattle.flow_batches.specs.Standing.{IsUnnamed, IsCarried, FuncStands, IsStanding}
use Rattle.flow_batches.specs.Standing as standing
use Rattle.typed_flows.specs.Flows.{result_location, result_targets, results_from, results_of, all_acts, func_flows, funcs_flows, flows_of, site_flows}
use Rattle.escape_placement.specs.Sites.{func_of, HasReason, SitesFit}
use Rattle.escape_placement.specs.Sites as sited
use Rattle.escape_placement.specs.Laws.{FlowsAreFormed}
use Rattle.escape_placement.proofs.Good.{GoodLoc, GoodTargets, GoodActs, acts_have, act_fits, act_stands, act_there}
use Rattle.escape_placement.proofs.Expressions.{AreOwn}
use Rattle.escape_placement.proofs.Statements.{sts_good}

-- ---- functions by their numbers

pub flows_at : (p : Program) (k : ℕ) (gs : List Func) (j f : ℕ) (g : Func) → f ≡ k + j → slice_get gs j ≡ Some g → slice_get (funcs_flows p k gs) j ≡ Some (func_flows p f g)
flows_at p k [] j f g is at = let bad : None ≡ Some g = at in absurd cc
flows_at p k (h ∷ gs) zero f g is at =
    let e : k ≡ f = omega arith in
    ap (λ (x : Func). Some (func_flows p k x)) (same_Some h g at) ∙ ap (λ (n : ℕ). Some (func_flows p n g)) e
flows_at p k (h ∷ gs) (suc j) f g is at = flows_at p (suc k) gs j f g (omega arith) at

pub at_flows : (p : Program) (k : ℕ) (gs : List Func) (j f : ℕ) (func : flow.Func) → f ≡ k + j → slice_get (funcs_flows p k gs) j ≡ Some func → (g : Func) × (slice_get gs j ≡ Some g) × (func_flows p f g ≡ func)
at_flows p k [] j f func is at = let bad : None ≡ Some func = at in absurd cc
at_flows p k (h ∷ gs) zero f func is at =
    let e : f ≡ k = omega arith in
    (h, refl, ap (λ (n : ℕ). func_flows p n h) e ∙ same_Some (func_flows p k h) func at)
at_flows p k (h ∷ gs) (suc j) f func is at = at_flows p (suc k) gs j f func (omega arith) at

pub flows_long : (p : Program) (k : ℕ) (gs : List Func) → length (funcs_flows p k gs) ≡ length gs
flows_long p k [] = refl
flows_long p k (g ∷ gs) = ap suc (flows_long p (suc k) gs)

-- ---- sites

site_func : (p : Program) (sites : List Site) (x : ℕ) → func_at (flows_of p sites) x ≡ func_of sites x
site_func p [] x = refl
site_func p (s ∷ sites) zero = refl
site_func p (s ∷ sites) (suc x) = site_func p sites x

site_carried : (p : Program) (sites : List Site) (x : ℕ) → standing.carried_in (slice_get (map site_flows sites) x) ≡ sited.carried_in (slice_get sites x)
site_carried p [] x = refl
site_carried p (s ∷ sites) zero = refl
site_carried p (s ∷ sites) (suc x) = site_carried p sites x

module _ (p : Program) (F : flow.Program) (f : ℕ) where
  -- ---- parameters and results

  abbrev AllMay : List (Option ℕ) → Type 0
  AllMay [] = Unit {0}
  AllMay (o ∷ os) = MayBeOf F f o × AllMay os

  abbrev AllOf : List ℕ → Type 0
  AllOf [] = Unit {0}
  AllOf (x ∷ xs) = IsOf F f x × AllOf xs

  -- the sites from m on, up to n, are the function's
  abbrev Between : ℕ → ℕ → Type 0
  Between m n = (x : ℕ) → m ≤ x → x < n → IsOf F f x

  params_own : (m : ℕ) (ts : List TypeTree) (ps : List (Option ℕ)) → ParamsFit p m ts ps → Between m (m + named_params ps) → AllMay ps
  params_own m [] [] h own = tt
  params_own m [] (o ∷ ps) h own = absurd h
  params_own m (t ∷ ts) [] h own = absurd h
  params_own m (t ∷ ts) (None ∷ ps) h own = (tt, params_own m ts ps h own)
  params_own m (t ∷ ts) (Some x ∷ ps) h own =
      let is : x ≡ m = h.0 in
      (own x (omega arith) (omega arith), params_own (suc m) ts ps h.3 (λ y least most. own y (omega arith) (omega arith)))

  named_own : (m : ℕ) (xs : List ℕ) → NamedFit p m xs → Between m (m + length xs) → AllOf xs
  named_own m [] h own = tt
  named_own m (x ∷ xs) h own =
      let is : x ≡ m = h.0 in
      (own x (omega arith) (omega arith), named_own (suc m) xs h.2 (λ y least most. own y (omega arith) (omega arith)))

  all_may : (os : List (Option ℕ)) → AllMay os → (o : Option ℕ) → Contains os o → MayBeOf F f o
  all_may [] h o c = absurd (contains_nil o c)
  all_may (q ∷ os) h o c = elim (head_or_tail q os o c) [ inl is ↦ subst (MayBeOf F f) is h.0 | inr later ↦ all_may os h.1 o later ]

  one_more : (x : ℕ) (scope : List ℕ) → IsOf F f x → AreOwn F f scope → AreOwn F f (x ∷ scope)
  one_more x scope here own y c = elim c [ inl is ↦ subst (IsOf F f) (sym is) here | inr later ↦ own y later ]

  params_named : (ps : List (Option ℕ)) (scope : List ℕ) → AllMay ps → AreOwn F f scope → AreOwn F f (params_scope scope ps)
  params_named [] scope h own = own
  params_named (None ∷ ps) scope h own = params_named ps scope h.1 own
  params_named (Some x ∷ ps) scope h own = params_named ps (x ∷ scope) h.1 (one_more x scope h.0 own)

  results_named : (xs scope : List ℕ) → AllOf xs → AreOwn F f scope → AreOwn F f (scope_with scope xs)
  results_named [] scope h own = own
  results_named (x ∷ xs) scope h own = results_named xs (x ∷ scope) h.1 (one_more x scope h.0 own)

  may_at : (xs : List ℕ) → AllOf xs → (j : ℕ) → MayBeOf F f (slice_get xs j)
  may_at [] h j = tt
  may_at (x ∷ xs) h zero = h.0
  may_at (x ∷ xs) h (suc j) = may_at xs h.1 j

  -- the sites of results
  abbrev ResultsMay : List flow.Result → Type 0
  ResultsMay [] = Unit {0}
  ResultsMay (r ∷ rs) = MayBeOf F f r.site × ResultsMay rs

  results_own : (j : ℕ) (ts : List TypeTree) (named : List ℕ) → AllOf named → ResultsMay (results_from j ts named)
  results_own j [] named h = tt
  results_own j (t ∷ ts) named h = (may_at named h j, results_own (suc j) ts named h)

  results_may : (rs : List flow.Result) → ResultsMay rs → (r : flow.Result) → Contains rs r → MayBeOf F f r.site
  results_may [] h r c = absurd (contains_nil r c)
  results_may (q ∷ rs) h r c = elim (head_or_tail q rs r c) [ inl is ↦ subst (λ (x : flow.Result). MayBeOf F f x.site) is h.0 | inr later ↦ results_may rs h.1 r later ]

  location_good : (j : ℕ) (o : Option ℕ) → MayBeOf F f o → (o ≡ None → IsUnnamed (slice_get (flow_results_of F f) j)) → GoodLoc F f (result_location f j o)
  location_good j None own unnamed = (refl, unnamed refl)
  location_good j (Some x) own unnamed = (own, tt)

  targets_good : (j : ℕ) (rs : List flow.Result) → ((i k : ℕ) (r : flow.Result) → k ≡ j + i → slice_get rs i ≡ Some r → slice_get (flow_results_of F f) k ≡ Some r) → ResultsMay rs → GoodTargets F f (result_targets f j rs)
  targets_good j [] at own = tt
  targets_good j (r ∷ rs) at own =
      (location_good j r.site own.0 (λ none. subst IsUnnamed (sym (at 0 j r (omega arith) refl)) none), targets_good (suc j) rs (λ i k q is here. at (suc i) k q (omega arith) here) own.1)

module _ (p : Program) (sites : List Site) (inform : IsInForm p) (fit : SitesFit p sites) where
  abbrev F : flow.Program
  F = flows_of p sites

  func_there : (f : ℕ) (g : Func) → slice_get p.funcs f ≡ Some g → slice_get F.funcs f ≡ Some (func_flows p f g)
  func_there f g at = flows_at p 0 p.funcs f f g (omega arith) at

  there : (f : ℕ) (g : Func) → slice_get p.funcs f ≡ Some g → f < length F.funcs
  there f g at = slice_get_within F.funcs f (func_flows p f g) (func_there f g at)

  carries : (x : ℕ) → sited.IsCarried sites x → IsCarried F x
  carries x h = site_carried p sites x ∙ h

  module _ (f : ℕ) (g : Func) (at : slice_get p.funcs f ≡ Some g) where
    own : (x : ℕ) → g.first ≤ x → x < g.first + g.count → IsOf F f x
    own x least most = site_func p sites x ∙ fit.own f g at x least most

    fits : form.FuncFits p g
    fits = inform.fits f g at

    params : AllMay p F f g.params
    params =
        let most : named_params g.params + length g.named ≤ g.count = fits.count in
        params_own p F f g.first g.param_types g.params fits.params (λ x least below. own x least (omega arith))

    named : AllOf p F f g.named
    named =
        let most : named_params g.params + length g.named ≤ g.count = fits.count in
        named_own p F f (g.first + named_params g.params) g.named fits.named (λ x least below. own x (omega arith) (omega arith))

    scope : AreOwn F f (scope_in g)
    scope = results_named p F f g.named (params_scope [] g.params) named (params_named p F f g.params [] params (λ x c. absurd c))

    may : ResultsMay p F f (results_of g)
    may = results_own p F f 0 g.results g.named named

    result_at : (i k : ℕ) (r : flow.Result) → k ≡ 0 + i → slice_get (results_of g) i ≡ Some r → slice_get (flow_results_of F f) k ≡ Some r
    result_at i k r is here =
        let same : i ≡ k = omega arith in
        ap (λ (o : Option flow.Func). slice_get (results_in o) k) (func_there f g at) ∙ subst (λ (n : ℕ). slice_get (results_of g) n ≡ Some r) same here

    returned : GoodTargets F f (result_targets f 0 (results_of g))
    returned = targets_good p F f 0 (results_of g) result_at may

    body : GoodActs F f (all_acts p (result_targets f 0 (results_of g)) g.body)
    body =
        let Is = λ (counted : Bool) (x : ℕ). (func_of sites x ≡ Some f) × HasReason sites counted x in
        sts_good p F f Is (λ b x h. site_func p sites x ∙ h.0) there g.first (g.first + g.count) own (sited.IsCarried sites) carries g.results (length g.named) (result_targets f 0 (results_of g)) returned
        false (scope_in g) scope (body_first g) (omega arith) g.body fits.body (fit.made f g at)

    func_fits : FuncFits F f (func_flows p f g)
    func_fits = record {
      params = all_may p F f g.params params;
      results = results_may p F f (results_of g) may;
      body = λ a c. act_fits F f a (acts_have F f (all_acts p (result_targets f 0 (results_of g)) g.body) body a c);
    }

    func_stands : FuncStands F f (func_flows p f g)
    func_stands = record {
      sites = λ x among within. own x among.0 among.1;
      body = λ a c. act_stands F f a (acts_have F f (all_acts p (result_targets f 0 (results_of g)) g.body) body a c);
    }

    calls_there : (a : flow.Act) (h : ℕ) → Contains (func_flows p f g).body a → order.ActCalls a h → h < length F.funcs
    calls_there a h c calls = act_there F f a h (acts_have F f (all_acts p (result_targets f 0 (results_of g)) g.body) body a c) calls

  back : (f : ℕ) (func : flow.Func) → slice_get F.funcs f ≡ Some func → (g : Func) × (slice_get p.funcs f ≡ Some g) × (func_flows p f g ≡ func)
  back f func at = at_flows p 0 p.funcs f f func (omega arith) at

  formed : IsFormed F
  formed f func at = let b = back f func at in subst (FuncFits F f) b.2 (func_fits f b.0 b.1)

  pub calls : CallsAreThere F
  calls f h c = let b = back f c.0 c.2 in calls_there f b.0 b.1 c.1 h (subst (λ (x : flow.Func). Contains x.body c.1) (sym b.2) c.3) c.4

  stands : IsStanding F
  stands = record {
    funcs = λ f func at. (let b = back f func at in subst (FuncStands F f) b.2 (func_stands f b.0 b.1));
    sites = λ x f is. (
        let among = fit.among x f (sym (site_func p sites x) ∙ is) in
        (func_flows p f among.0, func_there f among.0 among.1, (among.2, among.3)));
  }

pub flows_formed : FlowsAreFormed
flows_formed p sites inform fit = (formed p sites inform fit, calls p sites inform fit, stands p sites inform fit)
