-- Lesser tags give finer edges, and finer edges no greater flows.
use Rattle.std.proofs.Common.{◌≡◌, inl, inr, ℕ, suc, ◌≤◌, ℤ, pos, ◌≤ℤ◌, ◌-ℤ◌, Bool, true, false, List, [], ◌∷◌, ◌++◌, map, Option, Some, None, refl, sym, ◌∙◌, subst, ap, arith}
use Rattle.std.specs.List.{Contains}
use Rattle.std.specs.Prelude.{slice_get, if◌then◌else◌}
use Rattle.std.proofs.lemmas.Int.{ints, clamps}
use Rattle.std.proofs.lemmas.List.Elements.{Contains-append_left, Contains-append_right, Contains-append_cases}
use Rattle.base.specs.declared.ids.FuncId.{FuncId}
use Rattle.deref_walk.specs.declared.loc.Loc.{Loc}
use Rattle.deref_walk.specs.declared.loc.Loc.TheVariants as loc
use Rattle.deref_walk.specs.declared.graph.Edge.{Edge}
use Rattle.deref_walk.specs.Flow.{number_after, Reaches, itself, along}
use Rattle.value_flows.specs.declared.value.Target.{Target}
use Rattle.value_flows.specs.declared.tags.ResultTag.{ResultTag}
use Rattle.value_flows.specs.Syntax.{Val, Vals, Exs, variable, address, inside, behind, parts, beside, sent, call, none, more, each, results, Act, give, carry, Result, Func, Program, ParamTags, Tags}
use Rattle.escape_graph.specs.Targets.{site, target, result_at, further, reached, passed_on, tagged, param_targets, heap_targets, target_list}
use Rattle.escape_graph.specs.Edges.{edge, valued, addressed, numbers, is_own, params_of, results_of, results_to, tags_of, result_targets, result_edges, argument_targets, send, send_each, send_row, send_all, call_targets, text, texts, text_all, act_edges, acts_edges, edges_in, func_edges, funcs_edges, batch_edges}
use Rattle.param_tags.specs.Order.{Calls, AnyCalls, AllCall, ActCalls, FuncCalls}
use Rattle.param_tags.proofs.Lists.{contains_nil, head_in, tail_in}
use Rattle.param_tags.proofs.Members.{own_contains}
use Rattle.param_tags.proofs.Targets.{map_has, map_is}
use Rattle.param_tags.proofs.Nearer.{AreNearer, AreRowsNearer, nearer_none, nearer_self, nearer_one, nearer_further, nearer_reached, nearer_tagged, rows_self, rows_one, rows_pointing}

-- for each edge of the first list there is one in the second, with a weight that is no greater
pub record IsFiner (E F : List Edge) : Type 0 where
  pub edge : (e : Edge) → Contains E e → (d : Edge) × Contains F d × (d.to ≡ e.to) × (d.from ≡ e.from) × (d.weight ≤ℤ e.weight)

-- where one number is there, the other is, and is no greater
abbrev pub IsLess : Option ℕ → Option ℕ → Type 0
IsLess m n = (x : ℕ) → m ≡ Some x → (y : ℕ) × (n ≡ Some y) × (y ≤ x)

-- so for the heap and for each result
pub record IsLessParam (t u : ParamTags) : Type 0 where
  pub heap : IsLess t.heap u.heap
  pub results : (a : ResultTag) → Contains t.results a → (b : ResultTag) × Contains u.results b × (b.result ≡ a.result) × (b.by ≤ a.by)

-- and for each parameter
abbrev pub AreLessParams : List ParamTags → List ParamTags → Type 0
AreLessParams ts us = (i : ℕ) (t : ParamTags) → slice_get ts i ≡ Some t → (u : ParamTags) × (slice_get us i ≡ Some u) × IsLessParam t u

abbrev pub AreLess : Tags → Tags → Type 0
AreLess T U = (f : ℕ) → AreLessParams (tags_of T f) (tags_of U f)

-- tags are less for what is called outside the batch
abbrev pub LessFor : List ℕ → Tags → Tags → (ℕ → Type 0) → Type 0
LessFor own T U called = (g : ℕ) → called g → is_own own g ≡ false → AreLessParams (tags_of T g) (tags_of U g)

-- ---- lists of edges

finer_none : (F : List Edge) → IsFiner [] F
finer_none F = record { edge = λ e h. absurd (contains_nil e h) }

pub at_most_self : (z : ℤ) → z ≤ℤ z
at_most_self z = omega (arith, ints)

finer_self : (E : List Edge) → IsFiner E E
finer_self E = record { edge = λ e h. (e, h, refl, refl, at_most_self e.weight) }

finer_both : (E F G H : List Edge) → IsFiner E F → IsFiner G H → IsFiner (E ++ G) (F ++ H)
finer_both E F G H a b = record {
  edge = λ e h. elim (Contains-append_cases E G e h) [
    | inl first ↦ (let d = a.edge e first in (d.0, Contains-append_left F H d.0 d.1, d.2, d.3, d.4))
    | inr second ↦ (let d = b.edge e second in (d.0, Contains-append_right F H d.0 d.1, d.2, d.3, d.4))
  ];
}

finer_if : (b : Bool) (E F : List Edge) → IsFiner E F → IsFiner (if b then E else []) (if b then F else [])
finer_if true E F finer = finer
finer_if false E F finer = finer_none []

number_less : (k j : ℕ) → j ≤ k → pos j ≤ℤ pos k
number_less k j h = omega (arith, ints)

address_less : (k j : ℕ) → j ≤ k → (pos j -ℤ pos 1) ≤ℤ (pos k -ℤ pos 1)
address_less k j h = omega (arith, ints)

-- ---- the edges to targets that are nearer

module _ (from : Loc) where
  -- edges by a weight that grows with the number of their target
  finer_map : (w : ℕ → ℤ) → ((k j : ℕ) → j ≤ k → w j ≤ℤ w k) → (ts us : List Target) → AreNearer ts us → IsFiner (map (λ (t : Target). edge t.to from (w t.by)) ts) (map (λ (t : Target). edge t.to from (w t.by)) us)
  finer_map w grows ts us nearer = record {
    edge = λ e h.
        let make : Target → Edge = (λ (t : Target). edge t.to from (w t.by)) in
        let at = map_is make ts e h in
        let near = nearer.near at.0 at.1 in (
          make near.0,
          map_has make us near.0 near.1,
          near.2 ∙ ap (λ (x : Edge). x.to) at.2,
          ap (λ (x : Edge). x.from) at.2,
          subst (λ (x : Edge). w near.0.by ≤ℤ x.weight) at.2 (grows at.0.by near.0.by near.3),
        );
  }

  finer_valued : (ts us : List Target) → AreNearer ts us → IsFiner (valued from ts) (valued from us)
  finer_valued ts us nearer = finer_map (λ k. pos k) number_less ts us nearer

  finer_addressed : (ts us : List Target) → AreNearer ts us → IsFiner (addressed from ts) (addressed from us)
  finer_addressed ts us nearer = finer_map (λ k. pos k -ℤ pos 1) address_less ts us nearer

finer_results : (f j : ℕ) (rs : List Result) (tss uss : List (List Target)) → AreRowsNearer tss uss → IsFiner (results_to f j rs tss) (results_to f j rs uss)
finer_results f j [] tss uss rows = finer_none []
finer_results f j (r ∷ rs) [] uss rows = finer_none (results_to f j (r ∷ rs) uss)
finer_results f j (r ∷ rs) (ts ∷ tss) [] rows = absurd rows
finer_results f j (r ∷ rs) (ts ∷ tss) (us ∷ uss) rows =
    let from = result_at f j r.site in
    finer_both (valued from ts) (valued from us) (results_to f (suc j) rs tss) (results_to f (suc j) rs uss)
    (finer_valued from ts us rows.0) (finer_results f (suc j) rs tss uss rows.1)

-- ---- where arguments go under lesser tags

-- targets made of each parameter's tags
rows_map : (s t : ParamTags → List Target) → ((a b : ParamTags) → IsLessParam a b → AreNearer (s a) (t b)) → (cs bs : List ParamTags) → AreLessParams cs bs → AreRowsNearer (map s cs) (map t bs)
rows_map s t each_one [] bs less = tt
rows_map s t each_one (a ∷ cs) [] less = absurd (let there = less 0 a refl in let never : None ≡ Some there.0 = there.1 in cc)
rows_map s t each_one (a ∷ cs) (b ∷ bs) less =
    let there = less 0 a refl in
    let is : b ≡ there.0 = (let some : Some b ≡ Some there.0 = there.1 in cc) in
    let first : IsLessParam a b = subst (λ (x : ParamTags). IsLessParam a x) (sym is) there.2 in
    (each_one a b first, rows_map s t each_one cs bs (λ i x at. less (suc i) x at))

rows_passed : (cs bs : List ParamTags) → AreLessParams cs bs → (tss uss : List (List Target)) → AreRowsNearer tss uss → AreRowsNearer (passed_on cs tss) (passed_on bs uss)
rows_passed cs bs less tss uss rows =
    rows_map (λ t. tagged [] t.results tss) (λ t. tagged [] t.results uss)
    (λ a b one. nearer_tagged a.results b.results one.results tss uss rows) cs bs less

nearer_heap : (m n : Option ℕ) → IsLess m n → AreNearer (heap_targets m) (heap_targets n)
nearer_heap None n less = nearer_none (heap_targets n)
nearer_heap (Some x) n less =
    let there = less x refl in
    let one : AreNearer (target loc.Heap x ∷ []) (target loc.Heap there.0 ∷ []) = nearer_one loc.Heap x there.0 there.2 in
    subst (λ (o : Option ℕ). AreNearer (target loc.Heap x ∷ []) (heap_targets o)) (sym there.1) one

rows_heap : (cs bs : List ParamTags) → AreLessParams cs bs → AreRowsNearer (map (λ (t : ParamTags). heap_targets t.heap) cs) (map (λ (t : ParamTags). heap_targets t.heap) bs)
rows_heap cs bs less = rows_map (λ t. heap_targets t.heap) (λ t. heap_targets t.heap) (λ a b one. nearer_heap a.heap b.heap one.heap) cs bs less

rows_choice : (b : Bool) (xss tss uss : List (List Target)) → (b ≡ false → AreRowsNearer tss uss) → AreRowsNearer (if b then xss else tss) (if b then xss else uss)
rows_choice true xss tss uss rows = rows_self xss
rows_choice false xss tss uss rows = rows refl

-- ---- the edges of a batch

module _ (p : Program) (own : List ℕ) (T U : Tags) where
  rows_results : (f : ℕ) (tss uss : List (List Target)) → AreRowsNearer tss uss → AreRowsNearer (result_targets p own T f tss) (result_targets p own U f uss)
  rows_results f tss uss rows = rows_pointing (results_of p f) tss uss rows

  finer_result : (f : ℕ) (tss uss : List (List Target)) → AreRowsNearer tss uss → IsFiner (result_edges p own T f tss) (result_edges p own U f uss)
  finer_result f tss uss rows =
      let ends = result_targets p own T f tss in
      let others = result_targets p own U f uss in
      finer_if (is_own own f) (results_to f 0 (results_of p f) ends) (results_to f 0 (results_of p f) others)
      (finer_results f 0 (results_of p f) ends others (rows_results f tss uss rows))

  rows_arguments : (f : ℕ) (tss uss : List (List Target)) → (is_own own f ≡ false → AreLessParams (tags_of T f) (tags_of U f)) → AreRowsNearer tss uss → AreRowsNearer (argument_targets p own T f tss) (argument_targets p own U f uss)
  rows_arguments f tss uss less rows =
      let ends = result_targets p own T f tss in
      let others = result_targets p own U f uss in
      rows_choice (is_own own f) [] (passed_on (tags_of T f) ends) (passed_on (tags_of U f) others)
      (λ b. rows_passed (tags_of T f) (tags_of U f) (less b) ends others (rows_results f tss uss rows))

  rows_call : (f : ℕ) → (is_own own f ≡ false → AreLessParams (tags_of T f) (tags_of U f)) → AreRowsNearer (call_targets p own T f) (call_targets p own U f)
  rows_call f less =
      rows_choice (is_own own f) (map param_targets (params_of p f))
      (map (λ (t : ParamTags). heap_targets t.heap) (tags_of T f)) (map (λ (t : ParamTags). heap_targets t.heap) (tags_of U f))
      (λ b. rows_heap (tags_of T f) (tags_of U f) (less b))

  -- the results of a call and its arguments
  finer_called : (f : ℕ) (es : Exs) (tss uss : List (List Target)) → AreRowsNearer tss uss → IsFiner (send_all p own T es (argument_targets p own T f tss)) (send_all p own U es (argument_targets p own U f uss)) → IsFiner (send_all p own T (results f es) tss) (send_all p own U (results f es) uss)
  finer_called f es tss uss rows rest =
      let ends = argument_targets p own T f tss in
      let others = argument_targets p own U f uss in
      finer_both (result_edges p own T f tss) (result_edges p own U f uss) (send_all p own T es ends) (send_all p own U es others)
      (finer_result f tss uss rows) rest

  mutual
    finer_send : (v : Val) (ts us : List Target) → AreNearer ts us → LessFor own T U (Calls v) → IsFiner (send p own T v ts) (send p own U v us)
    finer_send (variable x) ts us n l = finer_valued (site x) ts us n
    finer_send (address x) ts us n l = finer_addressed (site x) ts us n
    finer_send (inside has v) ts us n l = finer_send v (reached has ts) (reached has us) (nearer_reached has ts us n) l
    finer_send (behind v) ts us n l = finer_send v (further 1 ts) (further 1 us) (nearer_further 1 1 ts us (omega arith) n) l
    finer_send (parts vs) ts us n l = finer_each vs ts us n l
    finer_send (beside vs v) ts us n l = finer_send v ts us n (λ g c. l g (inr c))
    finer_send (sent t v) ts us n l = finer_send v ts us n l
    finer_send (call f es) ts us n l =
        let rows : AreRowsNearer (ts ∷ []) (us ∷ []) = rows_one ts us n in
        let ends = argument_targets p own T f (ts ∷ []) in
        let others = argument_targets p own U f (us ∷ []) in
        finer_called f es (ts ∷ []) (us ∷ []) rows
        (finer_all es ends others (rows_arguments f (ts ∷ []) (us ∷ []) (λ b. l f (inl refl) b) rows) (λ g c. l g (inr c)))

    finer_each : (vs : Vals) (ts us : List Target) → AreNearer ts us → LessFor own T U (AnyCalls vs) → IsFiner (send_each p own T vs ts) (send_each p own U vs us)
    finer_each none ts us n l = finer_none []
    finer_each (more v vs) ts us n l =
        finer_both (send p own T v ts) (send p own U v us) (send_each p own T vs ts) (send_each p own U vs us)
        (finer_send v ts us n (λ g c. l g (inl c))) (finer_each vs ts us n (λ g c. l g (inr c)))

    finer_row : (vs : Vals) (tss uss : List (List Target)) → AreRowsNearer tss uss → LessFor own T U (AnyCalls vs) → IsFiner (send_row p own T vs tss) (send_row p own U vs uss)
    finer_row none tss uss rows l = finer_none []
    finer_row (more v vs) [] uss rows l = finer_none (send_row p own U (more v vs) uss)
    finer_row (more v vs) (ts ∷ tss) [] rows l = absurd rows
    finer_row (more v vs) (ts ∷ tss) (us ∷ uss) rows l =
        finer_both (send p own T v ts) (send p own U v us) (send_row p own T vs tss) (send_row p own U vs uss)
        (finer_send v ts us rows.0 (λ g c. l g (inl c))) (finer_row vs tss uss rows.1 (λ g c. l g (inr c)))

    finer_all : (es : Exs) (tss uss : List (List Target)) → AreRowsNearer tss uss → LessFor own T U (AllCall es) → IsFiner (send_all p own T es tss) (send_all p own U es uss)
    finer_all (each vs) tss uss rows l = finer_row vs tss uss rows l
    finer_all (results f es) tss uss rows l =
        let ends = argument_targets p own T f tss in
        let others = argument_targets p own U f uss in
        finer_called f es tss uss rows (finer_all es ends others (rows_arguments f tss uss (λ b. l f (inl refl) b) rows) (λ g c. l g (inr c)))

  -- the arguments of a call, whatever becomes of its results
  finer_call : (f : ℕ) (es : Exs) → (is_own own f ≡ false → AreLessParams (tags_of T f) (tags_of U f)) → LessFor own T U (AllCall es) → IsFiner (text_all p own T es) (text_all p own U es) → IsFiner (text_all p own T (results f es)) (text_all p own U (results f es))
  finer_call f es this l rest =
      let ends = call_targets p own T f in
      let others = call_targets p own U f in
      finer_both (send_all p own T es ends) (send_all p own U es others) (text_all p own T es) (text_all p own U es)
      (finer_all es ends others (rows_call f this) l) rest

  mutual
    finer_text : (v : Val) → LessFor own T U (Calls v) → IsFiner (text p own T v) (text p own U v)
    finer_text (variable x) l = finer_none []
    finer_text (address x) l = finer_none []
    finer_text (inside has v) l = finer_text v l
    finer_text (behind v) l = finer_text v l
    finer_text (parts vs) l = finer_texts vs l
    finer_text (beside vs v) l =
        finer_both (texts p own T vs) (texts p own U vs) (text p own T v) (text p own U v)
        (finer_texts vs (λ g c. l g (inl c))) (finer_text v (λ g c. l g (inr c)))
    finer_text (sent t v) l =
        finer_both (send p own T v (t ∷ [])) (send p own U v (t ∷ [])) (text p own T v) (text p own U v)
        (finer_send v (t ∷ []) (t ∷ []) (nearer_self (t ∷ [])) l) (finer_text v l)
    finer_text (call f es) l =
        let inner : LessFor own T U (AllCall es) = (λ g c. l g (inr c)) in
        finer_call f es (λ b. l f (inl refl) b) inner (finer_text_all es inner)

    finer_texts : (vs : Vals) → LessFor own T U (AnyCalls vs) → IsFiner (texts p own T vs) (texts p own U vs)
    finer_texts none l = finer_none []
    finer_texts (more v vs) l =
        finer_both (text p own T v) (text p own U v) (texts p own T vs) (texts p own U vs)
        (finer_text v (λ g c. l g (inl c))) (finer_texts vs (λ g c. l g (inr c)))

    finer_text_all : (es : Exs) → LessFor own T U (AllCall es) → IsFiner (text_all p own T es) (text_all p own U es)
    finer_text_all (each vs) l = finer_texts vs l
    finer_text_all (results f es) l =
        let inner : LessFor own T U (AllCall es) = (λ g c. l g (inr c)) in
        finer_call f es (λ b. l f (inl refl) b) inner (finer_text_all es inner)

  finer_act : (a : Act) → LessFor own T U (ActCalls a) → IsFiner (act_edges p own T a) (act_edges p own U a)
  finer_act (give es targets) l =
      let ends = map target_list targets in
      finer_both (send_all p own T es ends) (send_all p own U es ends) (text_all p own T es) (text_all p own U es)
      (finer_all es ends ends (rows_self ends) l) (finer_text_all es l)
  finer_act (carry x) l = finer_self (act_edges p own T (carry x))

  finer_acts : (acts : List Act) → ((a : Act) → Contains acts a → LessFor own T U (ActCalls a)) → IsFiner (acts_edges p own T acts) (acts_edges p own U acts)
  finer_acts [] l = finer_none []
  finer_acts (a ∷ acts) l =
      finer_both (act_edges p own T a) (act_edges p own U a) (acts_edges p own T acts) (acts_edges p own U acts)
      (finer_act a (l a (head_in a acts))) (finer_acts acts (λ b c. l b (tail_in a acts b c)))

  finer_in : (f : ℕ) (func : Option Func) → slice_get p.funcs f ≡ func → LessFor own T U (FuncCalls p f) → IsFiner (edges_in p own T func) (edges_in p own U func)
  finer_in f None at l = finer_none []
  finer_in f (Some func) at l = finer_acts func.body (λ a among g c. l g (func, a, at, among, c))

  finer_funcs : (fs : List ℕ) → ((f : ℕ) → Contains fs f → LessFor own T U (FuncCalls p f)) → IsFiner (funcs_edges p own T fs) (funcs_edges p own U fs)
  finer_funcs [] l = finer_none []
  finer_funcs (f ∷ fs) l =
      finer_both (func_edges p own T f) (func_edges p own U f) (funcs_edges p own T fs) (funcs_edges p own U fs)
      (finer_in f (slice_get p.funcs f) refl (l f (head_in f fs))) (finer_funcs fs (λ g c. l g (tail_in f fs g c)))

pub finer_batch : (p : Program) (T U : Tags) (b : List FuncId) → ((f : ℕ) → is_own (numbers b) f ≡ true → LessFor (numbers b) T U (FuncCalls p f)) → IsFiner (batch_edges p T b) (batch_edges p U b)
finer_batch p T U b less = finer_funcs p (numbers b) T U (numbers b) (λ f among. less f (own_contains (numbers b) f among))

-- ---- flows

pub after_both : (a b v w : ℤ) → a ≤ℤ b → v ≤ℤ w → number_after a v ≤ℤ number_after b w
after_both a b v w h g = omega (arith, ints, clamps)

pub finer_flow : (E F : List Edge) → IsFiner E F → (r l : Loc) (d : ℤ) → Reaches E r l d → (c : ℤ) × Reaches F r l c × (c ≤ℤ d)
finer_flow E F finer r _ _ itself = (pos 0, itself, at_most_self (pos 0))
finer_flow E F finer r _ _ (along {d = d} e among flow) =
    let near = finer_flow E F finer r e.to d flow in
    let better = finer.edge e among in
    let there : Reaches F r better.0.from (number_after near.0 better.0.weight) = along better.0 better.1 (subst (λ (l : Loc). Reaches F r l near.0) (sym better.2) near.1) in
    (number_after near.0 better.0.weight, subst (λ (l : Loc). Reaches F r l (number_after near.0 better.0.weight)) better.3 there, after_both near.0 d better.0.weight e.weight near.2 better.4)
