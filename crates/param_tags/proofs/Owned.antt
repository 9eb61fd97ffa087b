-- The edges of a batch name locations of its functions alone, and the heap.
use Rattle.std.proofs.Common.{◌≡◌, ◌⊎◌, inl, inr, ℕ, suc, ◌+◌, ℤ, pos, ◌-ℤ◌, Bool, true, false, List, [], ◌∷◌, ◌++◌, map, get_or, Option, Some, None, refl, sym, subst}
use Rattle.std.specs.List.{Contains}
use Rattle.std.specs.Prelude.{slice_get, if◌then◌else◌, ◌==◌, ⊤, zero}
use Rattle.std.proofs.lemmas.List.Elements.{Contains-append_cases}
use Rattle.base.specs.declared.ids.FuncId.{FuncId}
use Rattle.deref_walk.specs.declared.loc.Loc.{Loc}
use Rattle.deref_walk.specs.declared.loc.Loc.TheVariants as loc
use Rattle.deref_walk.specs.declared.graph.Edge.{Edge}
use Rattle.value_flows.specs.declared.value.Target.{Target}
use Rattle.value_flows.specs.declared.tags.ResultTag.{ResultTag}
use Rattle.value_flows.specs.Syntax.{Val, Vals, Exs, variable, address, inside, behind, parts, beside, sent, call, none, more, each, results, Act, give, carry, Result, Func, Program, ParamTags, Tags}
use Rattle.escape_graph.specs.Targets.{site, target, result_at, further, reached, pointing, tagged, passed_on, param_targets, heap_targets, target_list}
use Rattle.escape_graph.specs.Edges.{edge, valued, addressed, numbers, is_own, params_in, params_of, results_in, results_of, results_to, tags_of, result_targets, result_edges, argument_targets, send, send_each, send_row, send_all, call_targets, text, texts, text_all, act_edges, acts_edges, edges_in, func_edges, funcs_edges, batch_edges}
use Rattle.param_tags.specs.Whole.{OwnSite, Own}
use Rattle.param_tags.specs.Order.{IsOf, MayBeOf, IsIn, GoesIn, Fits, EachFits, AllFit, ActFits, FuncFits, BatchFits}
use Rattle.param_tags.proofs.Lists.{contains_nil, one_is, head_in, tail_in}
use Rattle.param_tags.proofs.Members.{own_contains, contains_own}
use Rattle.param_tags.proofs.Targets.{map_has, map_is, filter_is, tagged_cases}

abbrev pub OwnOrHeap : Program → List ℕ → Loc → Type 0
OwnOrHeap p own l = (l ≡ loc.Heap) ⊎ Own p own l

pub record AreOwned (p : Program) (own : List ℕ) (edges : List Edge) : Type 0 where
  pub ends : (e : Edge) → Contains edges e → OwnOrHeap p own e.to × Own p own e.from

-- ---- targets that lie in the batch, or are the heap

record AreWithin (p : Program) (own : List ℕ) (ts : List Target) : Type 0 where
  pub within : (t : Target) → Contains ts t → OwnOrHeap p own t.to

-- so in each list of a row
abbrev AreRowsWithin : Program → List ℕ → List (List Target) → Type 0
AreRowsWithin p own [] = ⊤
AreRowsWithin p own (ts ∷ tss) = AreWithin p own ts × AreRowsWithin p own tss

module _ (p : Program) (own : List ℕ) where
  within_none : AreWithin p own []
  within_none = record { within = λ t h. absurd (contains_nil t h) }

  within_one : (t : Target) → OwnOrHeap p own t.to → AreWithin p own (t ∷ [])
  within_one t to = record { within = λ u h. subst (λ (x : Target). OwnOrHeap p own x.to) (one_is t u h) to }

  within_further : (n : ℕ) (ts : List Target) → AreWithin p own ts → AreWithin p own (further n ts)
  within_further n ts h = record {
    within = λ t c.
        let from = map_is (λ (x : Target). target x.to (x.by + n)) ts t c in
        subst (λ (x : Target). OwnOrHeap p own x.to) from.2 (h.within from.0 from.1);
  }

  within_reached : (has : Bool) (ts : List Target) → AreWithin p own ts → AreWithin p own (reached has ts)
  within_reached true ts h = h
  within_reached false ts h = record { within = λ t c. h.within t (filter_is (λ (x : Target). x.by == 0) ts t c).0 }

  within_if : (b : Bool) (ts : List Target) → AreWithin p own ts → AreWithin p own (if b then ts else [])
  within_if true ts h = h
  within_if false ts h = within_none

  within_at : (tss : List (List Target)) (i : ℕ) → AreRowsWithin p own tss → AreWithin p own (get_or tss i [])
  within_at [] i h = within_none
  within_at (ts ∷ tss) zero h = h.0
  within_at (ts ∷ tss) (suc i) h = within_at tss i h.1

  within_tagged : (tags : List ResultTag) (tss : List (List Target)) → AreRowsWithin p own tss → AreWithin p own (tagged [] tags tss)
  within_tagged tags tss h = record {
    within = λ t c. elim (tagged_cases [] tags tss t c) [
      | inl empty ↦ absurd (contains_nil t empty)
      | inr from ↦ (within_further from.0.by (get_or tss from.0.result []) (within_at tss from.0.result h)).within t from.2
    ];
  }

  within_heap : (o : Option ℕ) → AreWithin p own (heap_targets o)
  within_heap None = within_none
  within_heap (Some n) = within_one (target loc.Heap n) (inl refl)

  -- targets made of each of some things
  rows_map : {X : Type 0} (s : X → List Target) (xs : List X) → ((x : X) → Contains xs x → AreWithin p own (s x)) → AreRowsWithin p own (map s xs)
  rows_map s [] h = tt
  rows_map s (x ∷ xs) h = (h x (head_in x xs), rows_map s xs (λ y c. h y (tail_in x xs y c)))

  rows_pointing : (rs : List Result) (tss : List (List Target)) → AreRowsWithin p own tss → AreRowsWithin p own (pointing rs tss)
  rows_pointing [] tss h = tt
  rows_pointing (r ∷ rs) [] h = tt
  rows_pointing (r ∷ rs) (ts ∷ tss) h = (within_if r.pointers ts h.0, rows_pointing rs tss h.1)

  rows_passed : (tags : List ParamTags) (tss : List (List Target)) → AreRowsWithin p own tss → AreRowsWithin p own (passed_on tags tss)
  rows_passed tags tss h = rows_map (λ (t : ParamTags). tagged [] t.results tss) tags (λ t c. within_tagged t.results tss h)

  rows_choice : (b : Bool) (tss uss : List (List Target)) → (b ≡ true → AreRowsWithin p own tss) → AreRowsWithin p own uss → AreRowsWithin p own (if b then tss else uss)
  rows_choice true tss uss h g = h refl
  rows_choice false tss uss h g = g

  -- ---- lists of edges

  owned_none : AreOwned p own []
  owned_none = record { ends = λ e h. absurd (contains_nil e h) }

  owned_both : (E F : List Edge) → AreOwned p own E → AreOwned p own F → AreOwned p own (E ++ F)
  owned_both E F a b = record { ends = λ e h. elim (Contains-append_cases E F e h) [ inl first ↦ a.ends e first | inr second ↦ b.ends e second ] }

  owned_one : (to from : Loc) (w : ℤ) → OwnOrHeap p own to → Own p own from → AreOwned p own (edge to from w ∷ [])
  owned_one to from w t f = record { ends = λ e h. subst (λ (x : Edge). OwnOrHeap p own x.to × Own p own x.from) (one_is (edge to from w) e h) (t, f) }

  owned_if : (b : Bool) (E : List Edge) → (b ≡ true → AreOwned p own E) → AreOwned p own (if b then E else [])
  owned_if true E h = h refl
  owned_if false E h = owned_none

  module _ (from : Loc) (mine : Own p own from) where
    owned_map : (w : ℕ → ℤ) (ts : List Target) → AreWithin p own ts → AreOwned p own (map (λ (t : Target). edge t.to from (w t.by)) ts)
    owned_map w ts h = record {
      ends = λ e c.
          let at = map_is (λ (t : Target). edge t.to from (w t.by)) ts e c in
          subst (λ (x : Edge). OwnOrHeap p own x.to × Own p own x.from) at.2 (h.within at.0 at.1, mine);
    }

    owned_valued : (ts : List Target) → AreWithin p own ts → AreOwned p own (valued from ts)
    owned_valued ts h = owned_map (λ k. pos k) ts h

    owned_addressed : (ts : List Target) → AreWithin p own ts → AreOwned p own (addressed from ts)
    owned_addressed ts h = owned_map (λ k. pos k -ℤ pos 1) ts h

  -- ---- the locations of a function of the batch

  module _ (f : ℕ) (mine : is_own own f ≡ true) where
    own_site : (x : ℕ) → IsOf p f x → Own p own (site x)
    own_site x h = (f, h, mine)

    own_result_at : (j : ℕ) (o : Option ℕ) → MayBeOf p f o → Own p own (result_at f j o)
    own_result_at j None h = mine
    own_result_at j (Some x) h = (f, h, mine)

    own_in : (l : Loc) → IsIn p f l → OwnOrHeap p own l
    own_in (loc.Site x) h = inr (f, h, mine)
    own_in (loc.Result g j) h = inr (subst (λ (n : ℕ). is_own own n ≡ true) (sym h) mine)
    own_in loc.Heap h = inl refl
    own_in (loc.Carry x) h = inr (f, h, mine)

    within_target : (o : Option Target) → GoesIn p f o → AreWithin p own (target_list o)
    within_target None h = within_none
    within_target (Some t) h = within_one t (own_in t.to h)

    within_param : (o : Option ℕ) → MayBeOf p f o → AreWithin p own (param_targets o)
    within_param None h = within_none
    within_param (Some x) h = within_one (target (site x) 0) (inr (f, h, mine))

    owned_results : (j : ℕ) (rs : List Result) (tss : List (List Target)) → ((r : Result) → Contains rs r → MayBeOf p f r.site) → AreRowsWithin p own tss → AreOwned p own (results_to f j rs tss)
    owned_results j [] tss h g = owned_none
    owned_results j (r ∷ rs) [] h g = owned_none
    owned_results j (r ∷ rs) (ts ∷ tss) h g =
        let from = result_at f j r.site in
        owned_both (valued from ts) (results_to f (suc j) rs tss)
        (owned_valued from (own_result_at j r.site (h r (head_in r rs))) ts g.0)
        (owned_results (suc j) rs tss (λ s c. h s (tail_in r rs s c)) g.1)

-- the parameters and results of the batch's functions are theirs
record HasOwn (p : Program) (own : List ℕ) : Type 0 where
  pub params : (g : ℕ) → is_own own g ≡ true → (o : Option ℕ) → Contains (params_of p g) o → MayBeOf p g o
  pub results : (g : ℕ) → is_own own g ≡ true → (r : Result) → Contains (results_of p g) r → MayBeOf p g r.site

-- ---- the edges of a batch

module _ (p : Program) (own : List ℕ) (T : Tags) (has : HasOwn p own) where
  rows_results : (g : ℕ) (tss : List (List Target)) → AreRowsWithin p own tss → AreRowsWithin p own (result_targets p own T g tss)
  rows_results g tss h = rows_pointing p own (results_of p g) tss h

  owned_result : (g : ℕ) (tss : List (List Target)) → AreRowsWithin p own tss → AreOwned p own (result_edges p own T g tss)
  owned_result g tss h =
      let ends = result_targets p own T g tss in
      owned_if p own (is_own own g) (results_to g 0 (results_of p g) ends)
      (λ b. owned_results p own g b 0 (results_of p g) ends (has.results g b) (rows_results g tss h))

  rows_arguments : (g : ℕ) (tss : List (List Target)) → AreRowsWithin p own tss → AreRowsWithin p own (argument_targets p own T g tss)
  rows_arguments g tss h =
      let ends = result_targets p own T g tss in
      rows_choice p own (is_own own g) [] (passed_on (tags_of T g) ends) (λ b. tt) (rows_passed p own (tags_of T g) ends (rows_results g tss h))

  rows_call : (g : ℕ) → AreRowsWithin p own (call_targets p own T g)
  rows_call g =
      rows_choice p own (is_own own g) (map param_targets (params_of p g)) (map (λ (t : ParamTags). heap_targets t.heap) (tags_of T g))
      (λ b. rows_map p own param_targets (params_of p g) (λ o c. within_param p own g b o (has.params g b o c)))
      (rows_map p own (λ (t : ParamTags). heap_targets t.heap) (tags_of T g) (λ t c. within_heap p own t.heap))

  module _ (f : ℕ) (mine : is_own own f ≡ true) where
    mutual
      owned_send : (v : Val) (ts : List Target) → Fits p f v → AreWithin p own ts → AreOwned p own (send p own T v ts)
      owned_send (variable x) ts h t = owned_valued p own (site x) (own_site p own f mine x h) ts t
      owned_send (address x) ts h t = owned_addressed p own (site x) (own_site p own f mine x h) ts t
      owned_send (inside follows v) ts h t = owned_send v (reached follows ts) h (within_reached p own follows ts t)
      owned_send (behind v) ts h t = owned_send v (further 1 ts) h (within_further p own 1 ts t)
      owned_send (parts vs) ts h t = owned_each vs ts h t
      owned_send (beside vs v) ts h t = owned_send v ts h.1 t
      owned_send (sent u v) ts h t = owned_send v ts h.1 t
      owned_send (call g es) ts h t =
          let rows : AreRowsWithin p own (ts ∷ []) = (t, tt) in
          let ends = argument_targets p own T g (ts ∷ []) in
          owned_both p own (result_edges p own T g (ts ∷ [])) (send_all p own T es ends)
          (owned_result g (ts ∷ []) rows) (owned_all es ends h (rows_arguments g (ts ∷ []) rows))

      owned_each : (vs : Vals) (ts : List Target) → EachFits p f vs → AreWithin p own ts → AreOwned p own (send_each p own T vs ts)
      owned_each none ts h t = owned_none p own
      owned_each (more v vs) ts h t = owned_both p own (send p own T v ts) (send_each p own T vs ts) (owned_send v ts h.0 t) (owned_each vs ts h.1 t)

      owned_row : (vs : Vals) (tss : List (List Target)) → EachFits p f vs → AreRowsWithin p own tss → AreOwned p own (send_row p own T vs tss)
      owned_row none tss h t = owned_none p own
      owned_row (more v vs) [] h t = owned_none p own
      owned_row (more v vs) (ts ∷ tss) h t = owned_both p own (send p own T v ts) (send_row p own T vs tss) (owned_send v ts h.0 t.0) (owned_row vs tss h.1 t.1)

      owned_all : (es : Exs) (tss : List (List Target)) → AllFit p f es → AreRowsWithin p own tss → AreOwned p own (send_all p own T es tss)
      owned_all (each vs) tss h t = owned_row vs tss h t
      owned_all (results g es) tss h t =
          let ends = argument_targets p own T g tss in
          owned_both p own (result_edges p own T g tss) (send_all p own T es ends)
          (owned_result g tss t) (owned_all es ends h (rows_arguments g tss t))

    owned_call : (g : ℕ) (es : Exs) → AllFit p f es → AreOwned p own (text_all p own T es) → AreOwned p own (text_all p own T (results g es))
    owned_call g es h rest =
        let ends = call_targets p own T g in
        owned_both p own (send_all p own T es ends) (text_all p own T es) (owned_all es ends h (rows_call g)) rest

    mutual
      owned_text : (v : Val) → Fits p f v → AreOwned p own (text p own T v)
      owned_text (variable x) h = owned_none p own
      owned_text (address x) h = owned_none p own
      owned_text (inside follows v) h = owned_text v h
      owned_text (behind v) h = owned_text v h
      owned_text (parts vs) h = owned_texts vs h
      owned_text (beside vs v) h = owned_both p own (texts p own T vs) (text p own T v) (owned_texts vs h.0) (owned_text v h.1)
      owned_text (sent t v) h =
          owned_both p own (send p own T v (t ∷ [])) (text p own T v)
          (owned_send v (t ∷ []) h.1 (within_one p own t (own_in p own f mine t.to h.0))) (owned_text v h.1)
      owned_text (call g es) h = owned_call g es h (owned_text_all es h)

      owned_texts : (vs : Vals) → EachFits p f vs → AreOwned p own (texts p own T vs)
      owned_texts none h = owned_none p own
      owned_texts (more v vs) h = owned_both p own (text p own T v) (texts p own T vs) (owned_text v h.0) (owned_texts vs h.1)

      owned_text_all : (es : Exs) → AllFit p f es → AreOwned p own (text_all p own T es)
      owned_text_all (each vs) h = owned_texts vs h
      owned_text_all (results g es) h = owned_call g es h (owned_text_all es h)

    owned_act : (a : Act) → ActFits p f a → AreOwned p own (act_edges p own T a)
    owned_act (give es targets) h =
        let ends = map target_list targets in
        let rows = rows_map p own target_list targets (λ o c. within_target p own f mine o (h.1 o c)) in
        owned_both p own (send_all p own T es ends) (text_all p own T es) (owned_all es ends h.0 rows) (owned_text_all es h.0)
    owned_act (carry x) h =
        let around = loc.Carry (record { 0 = x }) in
        let own_x : OwnSite p own x = (f, h, mine) in
        owned_both p own (edge around (site x) (pos 0) ∷ []) (edge (site x) around (pos 0) ∷ [])
        (owned_one p own around (site x) (pos 0) (inr own_x) own_x) (owned_one p own (site x) around (pos 0) (inr own_x) own_x)

    owned_acts : (acts : List Act) → ((a : Act) → Contains acts a → ActFits p f a) → AreOwned p own (acts_edges p own T acts)
    owned_acts [] h = owned_none p own
    owned_acts (a ∷ acts) h =
        owned_both p own (act_edges p own T a) (acts_edges p own T acts)
        (owned_act a (h a (head_in a acts))) (owned_acts acts (λ b c. h b (tail_in a acts b c)))

    owned_in : (o : Option Func) → ((func : Func) → o ≡ Some func → FuncFits p f func) → AreOwned p own (edges_in p own T o)
    owned_in None h = owned_none p own
    owned_in (Some func) h = owned_acts func.body (h func refl).body

-- ---- what the batch's form gives

pub func_fits : (p : Program) (b : List FuncId) → BatchFits p b → (g : ℕ) → is_own (numbers b) g ≡ true → (func : Func) → slice_get p.funcs g ≡ Some func → FuncFits p g func
func_fits p b fits g mine func at =
    let there = fits g mine in
    let same : there.0 ≡ func = cc in
    subst (λ (x : Func). FuncFits p g x) same there.2

has_own : (p : Program) (b : List FuncId) → BatchFits p b → HasOwn p (numbers b)
has_own p b fits = record {
  params = λ g mine.
      let there = fits g mine in
      subst (λ (o : Option Func). (x : Option ℕ) → Contains (params_in o) x → MayBeOf p g x) (sym there.1) there.2.params;
  results = λ g mine.
      let there = fits g mine in
      subst (λ (o : Option Func). (r : Result) → Contains (results_in o) r → MayBeOf p g r.site) (sym there.1) there.2.results;
}

-- a parameter with a name is one of the batch's sites
pub own_param : (p : Program) (b : List FuncId) → BatchFits p b → (g : ℕ) → is_own (numbers b) g ≡ true → (x : ℕ) → Contains (params_of p g) (Some x) → OwnSite p (numbers b) x
own_param p b fits g mine x among = (g, (has_own p b fits).params g mine (Some x) among, mine)

-- so is a result one of its locations
pub own_result : (p : Program) (b : List FuncId) → BatchFits p b → (g : ℕ) → is_own (numbers b) g ≡ true → (j : ℕ) (r : Result) → Contains (results_of p g) r → Own p (numbers b) (result_at g j r.site)
own_result p b fits g mine j r among = own_result_at p (numbers b) g mine j r.site ((has_own p b fits).results g mine r among)

pub own_member : (b : List FuncId) (f : FuncId) → Contains b f → is_own (numbers b) f.0 ≡ true
own_member b f h = own_contains (numbers b) f.0 (map_has (λ (x : FuncId). x.0) b f h)

pub own_is : (b : List FuncId) (f : ℕ) → is_own (numbers b) f ≡ true → (g : FuncId) × Contains b g × (g.0 ≡ f)
own_is b f h = map_is (λ (x : FuncId). x.0) b f (contains_own (numbers b) f h)

owned_funcs : (p : Program) (b : List FuncId) (T : Tags) → BatchFits p b → (fs : List ℕ) → ((f : ℕ) → Contains fs f → is_own (numbers b) f ≡ true) → AreOwned p (numbers b) (funcs_edges p (numbers b) T fs)
owned_funcs p b T fits [] h = owned_none p (numbers b)
owned_funcs p b T fits (f ∷ fs) h =
    let own = numbers b in
    let mine = h f (head_in f fs) in
    owned_both p own (func_edges p own T f) (funcs_edges p own T fs)
    (owned_in p own T (has_own p b fits) f mine (slice_get p.funcs f) (func_fits p b fits f mine))
    (owned_funcs p b T fits fs (λ g c. h g (tail_in f fs g c)))

pub owned_batch : (p : Program) (T : Tags) (b : List FuncId) → BatchFits p b → AreOwned p (numbers b) (batch_edges p T b)
owned_batch p T b fits = owned_funcs p b T fits (numbers b) (λ f c. own_contains (numbers b) f c)
