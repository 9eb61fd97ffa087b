-- The edges of a batch depend on the tags of what it calls outside of it alone.
use Rattle.std.proofs.Common.{◌≡◌, inl, inr, ℕ, Bool, true, false, List, [], ◌∷◌, ◌++◌, map, Option, Some, None, refl, sym, ◌∙◌, ap}
use Rattle.std.specs.List.{Contains}
use Rattle.std.specs.Prelude.{slice_get, if◌then◌else◌}
use Rattle.base.specs.declared.ids.FuncId.{FuncId}
use Rattle.deref_walk.specs.declared.graph.Edge.{Edge}
use Rattle.value_flows.specs.declared.value.Target.{Target}
use Rattle.value_flows.specs.Syntax.{Val, Vals, Exs, variable, address, inside, behind, parts, beside, sent, call, none, more, each, results, Act, give, carry, Func, Program, ParamTags, Tags}
use Rattle.escape_graph.specs.Targets.{further, reached, passed_on, param_targets, heap_targets, target_list}
use Rattle.escape_graph.specs.Edges.{numbers, is_own, params_of, tags_of, result_targets, result_edges, argument_targets, send, send_each, send_row, send_all, call_targets, text, texts, text_all, act_edges, acts_edges, edges_in, func_edges, funcs_edges, batch_edges}
use Rattle.param_tags.specs.Order.{Calls, AnyCalls, AllCall, ActCalls, FuncCalls}
use Rattle.param_tags.proofs.Lists.{head_in, tail_in}
use Rattle.param_tags.proofs.Members.{own_contains}

both_same : (a b c d : List Edge) → a ≡ b → c ≡ d → a ++ c ≡ b ++ d
both_same a b c d p q = cc

same_choice : (b : Bool) (xss tss uss : List (List Target)) → (b ≡ false → tss ≡ uss) → (if b then xss else tss) ≡ (if b then xss else uss)
same_choice true xss tss uss h = refl
same_choice false xss tss uss h = h refl

-- tags are the same for what is called outside the batch
abbrev pub SameFor : List ℕ → Tags → Tags → (ℕ → Type 0) → Type 0
SameFor own T U called = (g : ℕ) → called g → is_own own g ≡ false → tags_of T g ≡ tags_of U g

module _ (p : Program) (own : List ℕ) (T U : Tags) where
  same_arguments : (f : ℕ) (tss : List (List Target)) → (is_own own f ≡ false → tags_of T f ≡ tags_of U f) → argument_targets p own U f tss ≡ argument_targets p own T f tss
  same_arguments f tss h =
      let ends = result_targets p own T f tss in
      same_choice (is_own own f) [] (passed_on (tags_of U f) ends) (passed_on (tags_of T f) ends) (λ b. ap (λ (ts : List ParamTags). passed_on ts ends) (sym (h b)))

  same_call : (f : ℕ) → (is_own own f ≡ false → tags_of T f ≡ tags_of U f) → call_targets p own U f ≡ call_targets p own T f
  same_call f h =
      let to_heap : List ParamTags → List (List Target) = (λ ts. map (λ t. heap_targets t.heap) ts) in
      same_choice (is_own own f) (map param_targets (params_of p f)) (to_heap (tags_of U f)) (to_heap (tags_of T f)) (λ b. ap to_heap (sym (h b)))

  -- a call's arguments to other targets that are the same
  same_ends : (es : Exs) (tss uss : List (List Target)) → uss ≡ tss → send_all p own U es tss ≡ send_all p own T es tss → send_all p own U es uss ≡ send_all p own T es tss
  same_ends es tss uss is rest = ap (λ (xss : List (List Target)). send_all p own U es xss) is ∙ rest

  same_called : (f : ℕ) (es : Exs) (tss : List (List Target)) → (is_own own f ≡ false → tags_of T f ≡ tags_of U f) → send_all p own U es (argument_targets p own T f tss) ≡ send_all p own T es (argument_targets p own T f tss) → send_all p own U (results f es) tss ≡ send_all p own T (results f es) tss
  same_called f es tss h rest =
      let ends = argument_targets p own T f tss in
      let others = argument_targets p own U f tss in
      both_same (result_edges p own U f tss) (result_edges p own T f tss) (send_all p own U es others) (send_all p own T es ends)
      refl (same_ends es ends others (same_arguments f tss h) rest)

  mutual
    same_send : (v : Val) (ts : List Target) → SameFor own T U (Calls v) → send p own U v ts ≡ send p own T v ts
    same_send (variable x) ts h = refl
    same_send (address x) ts h = refl
    same_send (inside has v) ts h = same_send v (reached has ts) h
    same_send (behind v) ts h = same_send v (further 1 ts) h
    same_send (parts vs) ts h = same_each vs ts h
    same_send (beside vs v) ts h = same_send v ts (λ g c. h g (inr c))
    same_send (sent t v) ts h = same_send v ts h
    same_send (call f es) ts h =
        same_called f es (ts ∷ []) (λ b. h f (inl refl) b) (same_all es (argument_targets p own T f (ts ∷ [])) (λ g c. h g (inr c)))

    same_each : (vs : Vals) (ts : List Target) → SameFor own T U (AnyCalls vs) → send_each p own U vs ts ≡ send_each p own T vs ts
    same_each none ts h = refl
    same_each (more v vs) ts h =
        both_same (send p own U v ts) (send p own T v ts) (send_each p own U vs ts) (send_each p own T vs ts)
        (same_send v ts (λ g c. h g (inl c))) (same_each vs ts (λ g c. h g (inr c)))

    same_row : (vs : Vals) (tss : List (List Target)) → SameFor own T U (AnyCalls vs) → send_row p own U vs tss ≡ send_row p own T vs tss
    same_row none tss h = refl
    same_row (more v vs) [] h = refl
    same_row (more v vs) (ts ∷ tss) h =
        both_same (send p own U v ts) (send p own T v ts) (send_row p own U vs tss) (send_row p own T vs tss)
        (same_send v ts (λ g c. h g (inl c))) (same_row vs tss (λ g c. h g (inr c)))

    same_all : (es : Exs) (tss : List (List Target)) → SameFor own T U (AllCall es) → send_all p own U es tss ≡ send_all p own T es tss
    same_all (each vs) tss h = same_row vs tss h
    same_all (results f es) tss h =
        same_called f es tss (λ b. h f (inl refl) b) (same_all es (argument_targets p own T f tss) (λ g c. h g (inr c)))

  same_passed : (f : ℕ) (es : Exs) → (is_own own f ≡ false → tags_of T f ≡ tags_of U f) → SameFor own T U (AllCall es) → text_all p own U es ≡ text_all p own T es → text_all p own U (results f es) ≡ text_all p own T (results f es)
  same_passed f es this h rest =
      let ends = call_targets p own T f in
      let others = call_targets p own U f in
      both_same (send_all p own U es others) (send_all p own T es ends) (text_all p own U es) (text_all p own T es)
      (same_ends es ends others (same_call f this) (same_all es ends h)) rest

  mutual
    same_text : (v : Val) → SameFor own T U (Calls v) → text p own U v ≡ text p own T v
    same_text (variable x) h = refl
    same_text (address x) h = refl
    same_text (inside has v) h = same_text v h
    same_text (behind v) h = same_text v h
    same_text (parts vs) h = same_texts vs h
    same_text (beside vs v) h =
        both_same (texts p own U vs) (texts p own T vs) (text p own U v) (text p own T v)
        (same_texts vs (λ g c. h g (inl c))) (same_text v (λ g c. h g (inr c)))
    same_text (sent t v) h =
        both_same (send p own U v (t ∷ [])) (send p own T v (t ∷ [])) (text p own U v) (text p own T v)
        (same_send v (t ∷ []) h) (same_text v h)
    same_text (call f es) h =
        let inner : SameFor own T U (AllCall es) = (λ g c. h g (inr c)) in
        same_passed f es (λ b. h f (inl refl) b) inner (same_text_all es inner)

    same_texts : (vs : Vals) → SameFor own T U (AnyCalls vs) → texts p own U vs ≡ texts p own T vs
    same_texts none h = refl
    same_texts (more v vs) h =
        both_same (text p own U v) (text p own T v) (texts p own U vs) (texts p own T vs)
        (same_text v (λ g c. h g (inl c))) (same_texts vs (λ g c. h g (inr c)))

    same_text_all : (es : Exs) → SameFor own T U (AllCall es) → text_all p own U es ≡ text_all p own T es
    same_text_all (each vs) h = same_texts vs h
    same_text_all (results f es) h =
        let inner : SameFor own T U (AllCall es) = (λ g c. h g (inr c)) in
        same_passed f es (λ b. h f (inl refl) b) inner (same_text_all es inner)

  same_act : (a : Act) → SameFor own T U (ActCalls a) → act_edges p own U a ≡ act_edges p own T a
  same_act (give es targets) h =
      let ends = map target_list targets in
      both_same (send_all p own U es ends) (send_all p own T es ends) (text_all p own U es) (text_all p own T es)
      (same_all es ends h) (same_text_all es h)
  same_act (carry x) h = refl

  same_acts : (acts : List Act) → ((a : Act) → Contains acts a → SameFor own T U (ActCalls a)) → acts_edges p own U acts ≡ acts_edges p own T acts
  same_acts [] h = refl
  same_acts (a ∷ acts) h =
      both_same (act_edges p own U a) (act_edges p own T a) (acts_edges p own U acts) (acts_edges p own T acts)
      (same_act a (h a (head_in a acts))) (same_acts acts (λ b c. h b (tail_in a acts b c)))

  same_in : (f : ℕ) (o : Option Func) → slice_get p.funcs f ≡ o → SameFor own T U (FuncCalls p f) → edges_in p own U o ≡ edges_in p own T o
  same_in f None at h = refl
  same_in f (Some func) at h = same_acts func.body (λ a among g c. h g (func, a, at, among, c))

  same_funcs : (fs : List ℕ) → ((f : ℕ) → Contains fs f → SameFor own T U (FuncCalls p f)) → funcs_edges p own U fs ≡ funcs_edges p own T fs
  same_funcs [] h = refl
  same_funcs (f ∷ fs) h =
      both_same (func_edges p own U f) (func_edges p own T f) (funcs_edges p own U fs) (funcs_edges p own T fs)
      (same_in f (slice_get p.funcs f) refl (h f (head_in f fs))) (same_funcs fs (λ g c. h g (tail_in f fs g c)))

pub same_batch : (p : Program) (T U : Tags) (b : List FuncId) → ((f : ℕ) → is_own (numbers b) f ≡ true → (g : ℕ) → FuncCalls p f g → is_own (numbers b) g ≡ false → tags_of T g ≡ tags_of U g) → batch_edges p U b ≡ batch_edges p T b
same_batch p T U b same = same_funcs p (numbers b) T U (numbers b) (λ f among. same f (own_contains (numbers b) f among))
