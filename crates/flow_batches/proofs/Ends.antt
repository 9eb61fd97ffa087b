-- The edges of a program go from and to locations that it has.
use Rattle.std.proofs.Common.{◌≡◌, inl, inr, ℕ, zero, suc, ◌+◌, ◌<◌, ℤ, pos, ◌-ℤ◌, Bool, true, false, List, [], ◌∷◌, ◌++◌, map, length, get_or, Option, Some, None, slice_get, refl, sym, subst, arith}
use Rattle.std.specs.List.{Contains}
use Rattle.std.specs.Prelude.{if◌then◌else◌, ◌==◌}
use Rattle.std.proofs.lemmas.List.Elements.{Contains-append_cases}
use Rattle.std.proofs.lemmas.Option.{slice_get_within}
use Rattle.base.specs.declared.ids.FuncId.{FuncId}
use Rattle.deref_walk.specs.declared.loc.Loc.{Loc}
use Rattle.deref_walk.specs.declared.loc.Loc.TheVariants as loc
use Rattle.deref_walk.specs.declared.graph.Edge.{Edge}
use Rattle.value_flows.specs.declared.program.Site.{Site}
use Rattle.value_flows.specs.declared.value.Target.{Target}
use Rattle.value_flows.specs.declared.tags.ResultTag.{ResultTag}
use Rattle.value_flows.specs.Syntax.{Val, Vals, Exs, variable, address, inside, behind, parts, beside, sent, call, none, more, each, results, Act, give, carry, Result, Func, Program, ParamTags, Tags}
use Rattle.escape_graph.specs.Targets.{site, target, result_at, further, reached, pointing, tagged, passed_on, param_targets, heap_targets, target_list}
use Rattle.escape_graph.specs.Edges.{edge, valued, addressed, numbers, is_own, params_in, params_of, results_in, results_of, results_to, tags_of, result_targets, result_edges, argument_targets, send, send_each, send_row, send_all, call_targets, text, texts, text_all, act_edges, acts_edges, edges_in, func_edges, funcs_edges, batch_edges, whole_edges}
use Rattle.param_tags.specs.Order.{func_in, IsOf, MayBeOf, IsIn, GoesIn, Fits, EachFits, AllFit, ActFits, FuncFits, IsFormed}
use Rattle.param_tags.proofs.Lists.{contains_nil, one_is, head_in, tail_in}
use Rattle.param_tags.proofs.Targets.{map_is, filter_is, tagged_cases}
use Rattle.flow_batches.specs.Standing.{IsUnnamed, IsCarried, Has, GoesTo, Stands, EachStands, AllStand, ActStands, FuncStands, IsStanding}
use Rattle.flow_batches.proofs.Stood.{place_contains}

-- a program has a location
abbrev pub IsHere : Program → Loc → Type 0
IsHere p (loc.Site x) = x.0 < length p.sites
IsHere p (loc.Result g j) = IsUnnamed (slice_get (results_of p g.0) j)
IsHere p loc.Heap = Unit {0}
IsHere p (loc.Carry x) = IsCarried p x.0

-- a site, where it is one
abbrev MayBeHere : Program → Option ℕ → Type 0
MayBeHere p None = Unit {0}
MayBeHere p (Some x) = x < length p.sites

pub record AreHere (p : Program) (edges : List Edge) : Type 0 where
  pub ends : (e : Edge) → Contains edges e → IsHere p e.to × IsHere p e.from

-- ---- targets that are there

record GoHere (p : Program) (ts : List Target) : Type 0 where
  pub here : (t : Target) → Contains ts t → IsHere p t.to

-- so in each list of a row
abbrev RowsGoHere : Program → List (List Target) → Type 0
RowsGoHere p [] = Unit {0}
RowsGoHere p (ts ∷ tss) = GoHere p ts × RowsGoHere p tss

module _ (p : Program) where
  go_none : GoHere p []
  go_none = record { here = λ t h. absurd (contains_nil t h) }

  go_one : (t : Target) → IsHere p t.to → GoHere p (t ∷ [])
  go_one t to = record { here = λ u h. subst (λ (x : Target). IsHere p x.to) (one_is t u h) to }

  go_further : (n : ℕ) (ts : List Target) → GoHere p ts → GoHere p (further n ts)
  go_further n ts h = record {
    here = λ t c.
        let from = map_is (λ (x : Target). target x.to (x.by + n)) ts t c in
        subst (λ (x : Target). IsHere p x.to) from.2 (h.here from.0 from.1);
  }

  go_reached : (follows : Bool) (ts : List Target) → GoHere p ts → GoHere p (reached follows ts)
  go_reached true ts h = h
  go_reached false ts h = record { here = λ t c. h.here t (filter_is (λ (x : Target). x.by == 0) ts t c).0 }

  go_if : (b : Bool) (ts : List Target) → GoHere p ts → GoHere p (if b then ts else [])
  go_if true ts h = h
  go_if false ts h = go_none

  go_at : (tss : List (List Target)) (i : ℕ) → RowsGoHere p tss → GoHere p (get_or tss i [])
  go_at [] i h = go_none
  go_at (ts ∷ tss) zero h = h.0
  go_at (ts ∷ tss) (suc i) h = go_at tss i h.1

  go_tagged : (tags : List ResultTag) (tss : List (List Target)) → RowsGoHere p tss → GoHere p (tagged [] tags tss)
  go_tagged tags tss h = record {
    here = λ t c. elim (tagged_cases [] tags tss t c) [
      | inl empty ↦ absurd (contains_nil t empty)
      | inr from ↦ (go_further from.0.by (get_or tss from.0.result []) (go_at tss from.0.result h)).here t from.2
    ];
  }

  go_heap : (o : Option ℕ) → GoHere p (heap_targets o)
  go_heap None = go_none
  go_heap (Some n) = go_one (target loc.Heap n) tt

  go_param : (o : Option ℕ) → MayBeHere p o → GoHere p (param_targets o)
  go_param None h = go_none
  go_param (Some x) h = go_one (target (site x) 0) h

  -- targets made of each of some things
  rows_map : {X : Type 0} (s : X → List Target) (xs : List X) → ((x : X) → Contains xs x → GoHere p (s x)) → RowsGoHere p (map s xs)
  rows_map s [] h = tt
  rows_map s (x ∷ xs) h = (h x (head_in x xs), rows_map s xs (λ y c. h y (tail_in x xs y c)))

  rows_pointing : (rs : List Result) (tss : List (List Target)) → RowsGoHere p tss → RowsGoHere p (pointing rs tss)
  rows_pointing [] tss h = tt
  rows_pointing (r ∷ rs) [] h = tt
  rows_pointing (r ∷ rs) (ts ∷ tss) h = (go_if r.pointers ts h.0, rows_pointing rs tss h.1)

  rows_passed : (tags : List ParamTags) (tss : List (List Target)) → RowsGoHere p tss → RowsGoHere p (passed_on tags tss)
  rows_passed tags tss h = rows_map (λ (t : ParamTags). tagged [] t.results tss) tags (λ t c. go_tagged t.results tss h)

  rows_choice : (b : Bool) (tss uss : List (List Target)) → RowsGoHere p tss → RowsGoHere p uss → RowsGoHere p (if b then tss else uss)
  rows_choice true tss uss h g = h
  rows_choice false tss uss h g = g

  -- ---- lists of edges

  here_none : AreHere p []
  here_none = record { ends = λ e h. absurd (contains_nil e h) }

  here_both : (E F : List Edge) → AreHere p E → AreHere p F → AreHere p (E ++ F)
  here_both E F a b = record { ends = λ e h. elim (Contains-append_cases E F e h) [ inl first ↦ a.ends e first | inr second ↦ b.ends e second ] }

  here_one : (to from : Loc) (w : ℤ) → IsHere p to → IsHere p from → AreHere p (edge to from w ∷ [])
  here_one to from w t f = record { ends = λ e h. subst (λ (x : Edge). IsHere p x.to × IsHere p x.from) (one_is (edge to from w) e h) (t, f) }

  here_if : (b : Bool) (E : List Edge) → AreHere p E → AreHere p (if b then E else [])
  here_if true E h = h
  here_if false E h = here_none

  module _ (from : Loc) (own : IsHere p from) where
    here_map : (w : ℕ → ℤ) (ts : List Target) → GoHere p ts → AreHere p (map (λ (t : Target). edge t.to from (w t.by)) ts)
    here_map w ts h = record {
      ends = λ e c.
          let at = map_is (λ (t : Target). edge t.to from (w t.by)) ts e c in
          subst (λ (x : Edge). IsHere p x.to × IsHere p x.from) at.2 (h.here at.0 at.1, own);
    }

    here_valued : (ts : List Target) → GoHere p ts → AreHere p (valued from ts)
    here_valued ts h = here_map (λ k. pos k) ts h

    here_addressed : (ts : List Target) → GoHere p ts → AreHere p (addressed from ts)
    here_addressed ts h = here_map (λ k. pos k -ℤ pos 1) ts h

  -- ---- the locations of a function

  has_site : (f : ℕ) (o : Option Site) (x : ℕ) → slice_get p.sites x ≡ o → func_in o ≡ Some f → x < length p.sites
  has_site f None x at h = let bad : None ≡ Some f = h in absurd cc bad
  has_site f (Some s) x at h = slice_get_within p.sites x s at

  of_within : (f x : ℕ) → IsOf p f x → x < length p.sites
  of_within f x h = has_site f (slice_get p.sites x) x refl h

  may_be_within : (f : ℕ) (o : Option ℕ) → MayBeOf p f o → MayBeHere p o
  may_be_within f None h = tt
  may_be_within f (Some x) h = of_within f x h

  here_in : (f : ℕ) (l : Loc) → IsIn p f l → Has p l → IsHere p l
  here_in f (loc.Site x) h g = of_within f x.0 h
  here_in f (loc.Result k j) h g = g
  here_in f loc.Heap h g = tt
  here_in f (loc.Carry x) h g = g

  go_target : (f : ℕ) (o : Option Target) → GoesIn p f o → GoesTo p o → GoHere p (target_list o)
  go_target f None h g = go_none
  go_target f (Some t) h g = go_one t (here_in f t.to h g)

-- the parameters and results of functions with names are there
record HasNames (p : Program) : Type 0 where
  pub params : (g : ℕ) (o : Option ℕ) → Contains (params_of p g) o → MayBeHere p o
  pub results : (g : ℕ) (r : Result) → Contains (results_of p g) r → MayBeHere p r.site

-- ---- the edges of a batch

module _ (p : Program) (named : HasNames p) where
  here_result_at : (g j : ℕ) (r : Result) (o : Option ℕ) → r.site ≡ o → slice_get (results_of p g) j ≡ Some r → IsHere p (result_at g j o)
  here_result_at g j r None is at = subst IsUnnamed (sym at) is
  here_result_at g j r (Some x) is at = subst (MayBeHere p) is (named.results g r (place_contains (results_of p g) j r at))

  here_results : (g j : ℕ) (rs : List Result) (tss : List (List Target)) → ((i : ℕ) (r : Result) → slice_get rs i ≡ Some r → slice_get (results_of p g) (j + i) ≡ Some r) → RowsGoHere p tss → AreHere p (results_to g j rs tss)
  here_results g j [] tss h t = here_none p
  here_results g j (r ∷ rs) [] h t = here_none p
  here_results g j (r ∷ rs) (ts ∷ tss) h t =
      let from = result_at g j r.site in
      let first : j + 0 ≡ j = omega arith in
      let at : slice_get (results_of p g) j ≡ Some r = subst (λ (n : ℕ). slice_get (results_of p g) n ≡ Some r) first (h 0 r refl) in
      here_both p (valued from ts) (results_to g (suc j) rs tss)
      (here_valued p from (here_result_at g j r r.site refl at) ts t.0)
      (here_results g (suc j) rs tss (λ i s is. (let e : j + suc i ≡ suc j + i = omega arith in subst (λ (n : ℕ). slice_get (results_of p g) n ≡ Some s) e (h (suc i) s is))) t.1)

  module _ (own : List ℕ) (T : Tags) where
    rows_results : (g : ℕ) (tss : List (List Target)) → RowsGoHere p tss → RowsGoHere p (result_targets p own T g tss)
    rows_results g tss h = rows_pointing p (results_of p g) tss h

    here_result : (g : ℕ) (tss : List (List Target)) → RowsGoHere p tss → AreHere p (result_edges p own T g tss)
    here_result g tss h =
        let ends = result_targets p own T g tss in
        here_if p (is_own own g) (results_to g 0 (results_of p g) ends)
        (here_results g 0 (results_of p g) ends (λ i r at. (let e : i ≡ 0 + i = omega arith in subst (λ (n : ℕ). slice_get (results_of p g) n ≡ Some r) e at)) (rows_results g tss h))

    rows_arguments : (g : ℕ) (tss : List (List Target)) → RowsGoHere p tss → RowsGoHere p (argument_targets p own T g tss)
    rows_arguments g tss h =
        let ends = result_targets p own T g tss in
        rows_choice p (is_own own g) [] (passed_on (tags_of T g) ends) tt (rows_passed p (tags_of T g) ends (rows_results g tss h))

    rows_call : (g : ℕ) → RowsGoHere p (call_targets p own T g)
    rows_call g =
        rows_choice p (is_own own g) (map param_targets (params_of p g)) (map (λ (t : ParamTags). heap_targets t.heap) (tags_of T g))
        (rows_map p param_targets (params_of p g) (λ o c. go_param p o (named.params g o c)))
        (rows_map p (λ (t : ParamTags). heap_targets t.heap) (tags_of T g) (λ t c. go_heap p t.heap))

    module _ (f : ℕ) where
      mutual
        here_send : (v : Val) (ts : List Target) → Fits p f v → GoHere p ts → AreHere p (send p own T v ts)
        here_send (variable x) ts h t = here_valued p (site x) (of_within p f x h) ts t
        here_send (address x) ts h t = here_addressed p (site x) (of_within p f x h) ts t
        here_send (inside follows v) ts h t = here_send v (reached follows ts) h (go_reached p follows ts t)
        here_send (behind v) ts h t = here_send v (further 1 ts) h (go_further p 1 ts t)
        here_send (parts vs) ts h t = here_each vs ts h t
        here_send (beside vs v) ts h t = here_send v ts h.1 t
        here_send (sent u v) ts h t = here_send v ts h.1 t
        here_send (call g es) ts h t =
            let rows : RowsGoHere p (ts ∷ []) = (t, tt) in
            let ends = argument_targets p own T g (ts ∷ []) in
            here_both p (result_edges p own T g (ts ∷ [])) (send_all p own T es ends)
            (here_result g (ts ∷ []) rows) (here_all es ends h (rows_arguments g (ts ∷ []) rows))

        here_each : (vs : Vals) (ts : List Target) → EachFits p f vs → GoHere p ts → AreHere p (send_each p own T vs ts)
        here_each none ts h t = here_none p
        here_each (more v vs) ts h t = here_both p (send p own T v ts) (send_each p own T vs ts) (here_send v ts h.0 t) (here_each vs ts h.1 t)

        here_row : (vs : Vals) (tss : List (List Target)) → EachFits p f vs → RowsGoHere p tss → AreHere p (send_row p own T vs tss)
        here_row none tss h t = here_none p
        here_row (more v vs) [] h t = here_none p
        here_row (more v vs) (ts ∷ tss) h t = here_both p (send p own T v ts) (send_row p own T vs tss) (here_send v ts h.0 t.0) (here_row vs tss h.1 t.1)

        here_all : (es : Exs) (tss : List (List Target)) → AllFit p f es → RowsGoHere p tss → AreHere p (send_all p own T es tss)
        here_all (each vs) tss h t = here_row vs tss h t
        here_all (results g es) tss h t =
            let ends = argument_targets p own T g tss in
            here_both p (result_edges p own T g tss) (send_all p own T es ends)
            (here_result g tss t) (here_all es ends h (rows_arguments g tss t))

      here_call : (g : ℕ) (es : Exs) → AllFit p f es → AreHere p (text_all p own T es) → AreHere p (text_all p own T (results g es))
      here_call g es h rest =
          let ends = call_targets p own T g in
          here_both p (send_all p own T es ends) (text_all p own T es) (here_all es ends h (rows_call g)) rest

      mutual
        here_text : (v : Val) → Fits p f v → Stands p v → AreHere p (text p own T v)
        here_text (variable x) h k = here_none p
        here_text (address x) h k = here_none p
        here_text (inside follows v) h k = here_text v h k
        here_text (behind v) h k = here_text v h k
        here_text (parts vs) h k = here_texts vs h k
        here_text (beside vs v) h k = here_both p (texts p own T vs) (text p own T v) (here_texts vs h.0 k.0) (here_text v h.1 k.1)
        here_text (sent t v) h k =
            here_both p (send p own T v (t ∷ [])) (text p own T v)
            (here_send v (t ∷ []) h.1 (go_one p t (here_in p f t.to h.0 k.0))) (here_text v h.1 k.1)
        here_text (call g es) h k = here_call g es h (here_text_all es h k)

        here_texts : (vs : Vals) → EachFits p f vs → EachStands p vs → AreHere p (texts p own T vs)
        here_texts none h k = here_none p
        here_texts (more v vs) h k = here_both p (text p own T v) (texts p own T vs) (here_text v h.0 k.0) (here_texts vs h.1 k.1)

        here_text_all : (es : Exs) → AllFit p f es → AllStand p es → AreHere p (text_all p own T es)
        here_text_all (each vs) h k = here_texts vs h k
        here_text_all (results g es) h k = here_call g es h (here_text_all es h k)

      here_act : (a : Act) → ActFits p f a → ActStands p a → AreHere p (act_edges p own T a)
      here_act (give es targets) h k =
          let ends = map target_list targets in
          let rows = rows_map p target_list targets (λ o c. go_target p f o (h.1 o c) (k.1 o c)) in
          here_both p (send_all p own T es ends) (text_all p own T es) (here_all es ends h.0 rows) (here_text_all es h.0 k.0)
      here_act (carry x) h k =
          let around = loc.Carry (record { 0 = x }) in
          let within = of_within p f x h in
          here_both p (edge around (site x) (pos 0) ∷ []) (edge (site x) around (pos 0) ∷ [])
          (here_one p around (site x) (pos 0) k within) (here_one p (site x) around (pos 0) within k)

      here_acts : (acts : List Act) → ((a : Act) → Contains acts a → ActFits p f a) → ((a : Act) → Contains acts a → ActStands p a) → AreHere p (acts_edges p own T acts)
      here_acts [] h k = here_none p
      here_acts (a ∷ acts) h k =
          here_both p (act_edges p own T a) (acts_edges p own T acts)
          (here_act a (h a (head_in a acts)) (k a (head_in a acts))) (here_acts acts (λ b c. h b (tail_in a acts b c)) (λ b c. k b (tail_in a acts b c)))

      here_func : (o : Option Func) → ((func : Func) → o ≡ Some func → FuncFits p f func) → ((func : Func) → o ≡ Some func → FuncStands p f func) → AreHere p (edges_in p own T o)
      here_func None h k = here_none p
      here_func (Some func) h k = here_acts func.body (h func refl).body (k func refl).body

-- ---- the whole

module _ (p : Program) (formed : IsFormed p) (standing : IsStanding p) where
  params_named : (g : ℕ) (o : Option Func) → slice_get p.funcs g ≡ o → (x : Option ℕ) → Contains (params_in o) x → MayBeHere p x
  params_named g None at x c = absurd (contains_nil x c)
  params_named g (Some func) at x c = may_be_within p g x ((formed g func at).params x c)

  results_named : (g : ℕ) (o : Option Func) → slice_get p.funcs g ≡ o → (r : Result) → Contains (results_in o) r → MayBeHere p r.site
  results_named g None at r c = absurd (contains_nil r c)
  results_named g (Some func) at r c = may_be_within p g r.site ((formed g func at).results r c)

  has_names : HasNames p
  has_names = record {
    params = λ g x c. params_named g (slice_get p.funcs g) refl x c;
    results = λ g r c. results_named g (slice_get p.funcs g) refl r c;
  }

  here_funcs : (own : List ℕ) (T : Tags) (fs : List ℕ) → AreHere p (funcs_edges p own T fs)
  here_funcs own T [] = here_none p
  here_funcs own T (f ∷ fs) =
      here_both p (func_edges p own T f) (funcs_edges p own T fs)
      (here_func p has_names own T f (slice_get p.funcs f) (λ func at. formed f func at) (λ func at. standing.funcs f func at)) (here_funcs own T fs)

  -- each edge of a program goes from and to a location that it has
  pub here_whole : (T : Tags) (batches : List (List FuncId)) → AreHere p (whole_edges p T batches)
  here_whole T [] = here_none p
  here_whole T (b ∷ bs) = here_both p (batch_edges p T b) (whole_edges p T bs) (here_funcs (numbers b) T (numbers b)) (here_whole T bs)
