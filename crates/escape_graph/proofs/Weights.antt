-- No edge of a program has a weight below -1.
use Rattle.std.proofs.Common.{◌≡◌, ℕ, zero, suc, pos, negsuc, ◌≤ℤ◌, ◌-ℤ◌, Bool, true, false, List, [], ◌∷◌, ◌++◌, map, Option, Some, None, if◌then◌else◌, arith, subst}
use Rattle.std.specs.Prelude.{slice_get}
use Rattle.std.proofs.lemmas.Int.{ints}
use Rattle.base.specs.declared.ids.FuncId.{FuncId}
use Rattle.deref_walk.specs.declared.loc.Loc.{Loc}
use Rattle.deref_walk.specs.declared.loc.Loc.TheVariants as loc
use Rattle.deref_walk.specs.declared.graph.Edge.{Edge}
use Rattle.deref_walk.specs.Weights.{AreWeights}
use Rattle.value_flows.specs.declared.value.Target.{Target}
use Rattle.value_flows.specs.Syntax.{Val, Vals, Exs, variable, address, inside, behind, parts, beside, sent, call, none, more, each, results, Act, give, carry, Result, Func, Program, Tags}
use Rattle.escape_graph.specs.Targets.{site, further, reached, result_at, target_list}
use Rattle.escape_graph.specs.Edges.{edge, valued, addressed, numbers, is_own, results_of, results_to, result_targets, result_edges, argument_targets, send, send_each, send_row, send_all, call_targets, text, texts, text_all, act_edges, acts_edges, edges_in, func_edges, funcs_edges, batch_edges, whole_edges}

weights_none : AreWeights []
weights_none = λ k e at. absurd (cc)

weights_more : (e : Edge) (es : List Edge) → negsuc 0 ≤ℤ e.weight → AreWeights es → AreWeights (e ∷ es)
weights_more e es low rest zero d at = let same : e ≡ d = cc in subst (λ (x : Edge). negsuc 0 ≤ℤ x.weight) same low
weights_more e es low rest (suc k) d at = rest k d at

weights_both : (es fs : List Edge) → AreWeights es → AreWeights fs → AreWeights (es ++ fs)
weights_both [] fs a b = b
weights_both (e ∷ es) fs a b = weights_more e (es ++ fs) (a zero e (cc)) (weights_both es fs (λ k d at. a (suc k) d at) b)

weights_when : (b : Bool) (es : List Edge) → AreWeights es → AreWeights (if b then es else [])
weights_when true es h = h
weights_when false es h = weights_none

low_number : (k : ℕ) → negsuc 0 ≤ℤ pos k
low_number k = omega (arith, ints)

low_address : (k : ℕ) → negsuc 0 ≤ℤ (pos k -ℤ pos 1)
low_address k = omega (arith, ints)

weights_valued : (from : Loc) (ts : List Target) → AreWeights (valued from ts)
weights_valued from [] = weights_none
weights_valued from (t ∷ ts) = weights_more (edge t.to from (pos t.by)) (valued from ts) (low_number t.by) (weights_valued from ts)

weights_addressed : (from : Loc) (ts : List Target) → AreWeights (addressed from ts)
weights_addressed from [] = weights_none
weights_addressed from (t ∷ ts) = weights_more (edge t.to from (pos t.by -ℤ pos 1)) (addressed from ts) (low_address t.by) (weights_addressed from ts)

weights_results : (f j : ℕ) (rs : List Result) (tss : List (List Target)) → AreWeights (results_to f j rs tss)
weights_results f j [] tss = weights_none
weights_results f j (r ∷ rs) [] = weights_none
weights_results f j (r ∷ rs) (ts ∷ tss) = weights_both (valued (result_at f j r.site) ts) (results_to f (suc j) rs tss) (weights_valued (result_at f j r.site) ts) (weights_results f (suc j) rs tss)

module _ (p : Program) (own : List ℕ) (tags : Tags) where
  weights_returned : (f : ℕ) (tss : List (List Target)) → AreWeights (result_edges p own tags f tss)
  weights_returned f tss =
      let to = result_targets p own tags f tss in
      weights_when (is_own own f) (results_to f 0 (results_of p f) to) (weights_results f 0 (results_of p f) to)

  mutual
    weights_send : (v : Val) (ts : List Target) → AreWeights (send p own tags v ts)
    weights_send (variable x) ts = weights_valued (site x) ts
    weights_send (address x) ts = weights_addressed (site x) ts
    weights_send (inside has v) ts = weights_send v (reached has ts)
    weights_send (behind v) ts = weights_send v (further 1 ts)
    weights_send (parts vs) ts = weights_each vs ts
    weights_send (beside vs v) ts = weights_send v ts
    weights_send (sent t v) ts = weights_send v ts
    weights_send (call f es) ts =
        let on = argument_targets p own tags f (ts ∷ []) in
        weights_both (result_edges p own tags f (ts ∷ [])) (send_all p own tags es on) (weights_returned f (ts ∷ [])) (weights_all es on)

    weights_each : (vs : Vals) (ts : List Target) → AreWeights (send_each p own tags vs ts)
    weights_each none ts = weights_none
    weights_each (more v vs) ts = weights_both (send p own tags v ts) (send_each p own tags vs ts) (weights_send v ts) (weights_each vs ts)

    weights_row : (vs : Vals) (tss : List (List Target)) → AreWeights (send_row p own tags vs tss)
    weights_row none tss = weights_none
    weights_row (more v vs) [] = weights_none
    weights_row (more v vs) (ts ∷ tss) = weights_both (send p own tags v ts) (send_row p own tags vs tss) (weights_send v ts) (weights_row vs tss)

    weights_all : (es : Exs) (tss : List (List Target)) → AreWeights (send_all p own tags es tss)
    weights_all (each vs) tss = weights_row vs tss
    weights_all (results f es) tss =
        let on = argument_targets p own tags f tss in
        weights_both (result_edges p own tags f tss) (send_all p own tags es on) (weights_returned f tss) (weights_all es on)

  mutual
    weights_text : (v : Val) → AreWeights (text p own tags v)
    weights_text (variable x) = weights_none
    weights_text (address x) = weights_none
    weights_text (inside has v) = weights_text v
    weights_text (behind v) = weights_text v
    weights_text (parts vs) = weights_texts vs
    weights_text (beside vs v) = weights_both (texts p own tags vs) (text p own tags v) (weights_texts vs) (weights_text v)
    weights_text (sent t v) = weights_both (send p own tags v (t ∷ [])) (text p own tags v) (weights_send v (t ∷ [])) (weights_text v)
    weights_text (call f es) = weights_both (send_all p own tags es (call_targets p own tags f)) (text_all p own tags es) (weights_all es (call_targets p own tags f)) (weights_text_all es)

    weights_texts : (vs : Vals) → AreWeights (texts p own tags vs)
    weights_texts none = weights_none
    weights_texts (more v vs) = weights_both (text p own tags v) (texts p own tags vs) (weights_text v) (weights_texts vs)

    weights_text_all : (es : Exs) → AreWeights (text_all p own tags es)
    weights_text_all (each vs) = weights_texts vs
    weights_text_all (results f es) = weights_both (send_all p own tags es (call_targets p own tags f)) (text_all p own tags es) (weights_all es (call_targets p own tags f)) (weights_text_all es)

  weights_act : (a : Act) → AreWeights (act_edges p own tags a)
  weights_act (give es targets) = weights_both (send_all p own tags es (map target_list targets)) (text_all p own tags es) (weights_all es (map target_list targets)) (weights_text_all es)
  weights_act (carry x) =
      let carried = loc.Carry (record { 0 = x }) in
      weights_more (edge carried (site x) (pos 0)) (edge (site x) carried (pos 0) ∷ []) (low_number 0) (weights_more (edge (site x) carried (pos 0)) [] (low_number 0) weights_none)

  weights_acts : (acts : List Act) → AreWeights (acts_edges p own tags acts)
  weights_acts [] = weights_none
  weights_acts (a ∷ acts) = weights_both (act_edges p own tags a) (acts_edges p own tags acts) (weights_act a) (weights_acts acts)

  weights_in : (f : Option Func) → AreWeights (edges_in p own tags f)
  weights_in None = weights_none
  weights_in (Some f) = weights_acts f.body

  weights_funcs : (fs : List ℕ) → AreWeights (funcs_edges p own tags fs)
  weights_funcs [] = weights_none
  weights_funcs (f ∷ fs) = weights_both (func_edges p own tags f) (funcs_edges p own tags fs) (weights_in (slice_get p.funcs f)) (weights_funcs fs)

pub weights_batch : (p : Program) (tags : Tags) (b : List FuncId) → AreWeights (batch_edges p tags b)
weights_batch p tags b = weights_funcs p (numbers b) tags (numbers b)

pub weights_whole : (p : Program) (tags : Tags) (bs : List (List FuncId)) → AreWeights (whole_edges p tags bs)
weights_whole p tags [] = weights_none
weights_whole p tags (b ∷ bs) = weights_both (batch_edges p tags b) (whole_edges p tags bs) (weights_batch p tags b) (weights_whole p tags bs)
