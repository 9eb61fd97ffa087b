-- The edges of a program under tags (the comments of cmd/compile/internal/escape): an edge to a location from another one of weight w says
-- that the first may get the value of the second by w dereferences, where -1 stands for its address.
use Rattle.std.specs.Prelude.{ℕ, suc, ◌==◌, ℤ, pos, ◌-ℤ◌, Bool, if◌then◌else◌, List, [], ◌∷◌, ◌++◌, map, get_or, Option, Some, None, slice_get}
use Rattle.std.specs.List.{list_any}
use Rattle.base.specs.declared.ids.FuncId.{FuncId}
use Rattle.deref_walk.specs.declared.loc.Loc.{Loc}
use Rattle.deref_walk.specs.declared.loc.Loc.TheVariants as loc
use Rattle.deref_walk.specs.declared.graph.Edge.{Edge}
use Rattle.value_flows.specs.declared.value.Target.{Target}
use Rattle.value_flows.specs.Syntax.{Val, Vals, Exs, variable, address, inside, behind, parts, beside, sent, call, none, more, each, results, Act, give, carry, Result, Func, Program, ParamTags, Tags}
use Rattle.escape_graph.specs.Targets.{site, further, reached, result_at, pointing, passed_on, param_targets, heap_targets, target_list}

abbrev pub edge : Loc → Loc → ℤ → Edge
edge to from weight = record { to = to; from = from; weight = weight }

-- a location's value goes to these targets, and its address
abbrev pub valued : Loc → List Target → List Edge
valued from ts = map (λ t. edge t.to from (pos t.by)) ts

abbrev pub addressed : Loc → List Target → List Edge
addressed from ts = map (λ t. edge t.to from (pos t.by -ℤ pos 1)) ts

-- ---- functions

-- the numbers of the functions of a batch
abbrev pub numbers : List FuncId → List ℕ
numbers batch = map (λ f. f.0) batch

-- a function stands in the batch
abbrev pub is_own : List ℕ → ℕ → Bool
is_own own f = list_any (λ g. g == f) own

abbrev pub params_in : Option Func → List (Option ℕ)
params_in None = []
params_in (Some f) = f.params

abbrev pub params_of : Program → ℕ → List (Option ℕ)
params_of p f = params_in (slice_get p.funcs f)

abbrev pub results_in : Option Func → List Result
results_in None = []
results_in (Some f) = f.results

abbrev pub results_of : Program → ℕ → List Result
results_of p f = results_in (slice_get p.funcs f)

-- the tags of a function's parameters: a function without any is not looked at yet, and nothing flows in it
abbrev pub tags_of : Tags → ℕ → List ParamTags
tags_of tags f = get_or tags f []

-- the results of a call of the same batch go to these targets
abbrev pub results_to : ℕ → ℕ → List Result → List (List Target) → List Edge
results_to f j (r ∷ rs) (ts ∷ tss) = valued (result_at f j r.site) ts ++ results_to f (suc j) rs tss
results_to f j rs tss = []

module _ (p : Program) (own : List ℕ) (tags : Tags) where
  -- ---- a value is sent to targets. Of a call of the same batch the results flow there, and its arguments to its parameters; of any other
  -- call the arguments flow there, by its tags.

  -- where the results of a call go, and where its arguments go then
  abbrev pub result_targets : ℕ → List (List Target) → List (List Target)
  result_targets f tss = pointing (results_of p f) tss

  abbrev pub result_edges : ℕ → List (List Target) → List Edge
  result_edges f tss = if is_own own f then results_to f 0 (results_of p f) (result_targets f tss) else []

  abbrev pub argument_targets : ℕ → List (List Target) → List (List Target)
  argument_targets f tss = if is_own own f then [] else passed_on (tags_of tags f) (result_targets f tss)

  abbrev mutual
    pub send : Val → List Target → List Edge
    send (variable x) ts = valued (site x) ts
    send (address x) ts = addressed (site x) ts
    send (inside has v) ts = send v (reached has ts)
    send (behind v) ts = send v (further 1 ts)
    send (parts vs) ts = send_each vs ts
    send (beside vs v) ts = send v ts
    send (sent t v) ts = send v ts
    send (call f es) ts = result_edges f (ts ∷ []) ++ send_all es (argument_targets f (ts ∷ []))

    -- each of some values to the same targets
    pub send_each : Vals → List Target → List Edge
    send_each none ts = []
    send_each (more v vs) ts = send v ts ++ send_each vs ts

    -- each to its own ones
    pub send_row : Vals → List (List Target) → List Edge
    send_row none tss = []
    send_row (more v vs) [] = []
    send_row (more v vs) (ts ∷ tss) = send v ts ++ send_row vs tss

    pub send_all : Exs → List (List Target) → List Edge
    send_all (each vs) tss = send_row vs tss
    send_all (results f es) tss = result_edges f tss ++ send_all es (argument_targets f tss)

  -- ---- the edges of what stands in an expression, wherever its value goes

  -- where the arguments of a call go, whatever becomes of its results
  abbrev pub call_targets : ℕ → List (List Target)
  call_targets f = if is_own own f then map param_targets (params_of p f) else map (λ t. heap_targets t.heap) (tags_of tags f)

  abbrev mutual
    pub text : Val → List Edge
    text (variable x) = []
    text (address x) = []
    text (inside has v) = text v
    text (behind v) = text v
    text (parts vs) = texts vs
    text (beside vs v) = texts vs ++ text v
    text (sent t v) = send v (t ∷ []) ++ text v
    text (call f es) = send_all es (call_targets f) ++ text_all es

    pub texts : Vals → List Edge
    texts none = []
    texts (more v vs) = text v ++ texts vs

    pub text_all : Exs → List Edge
    text_all (each vs) = texts vs
    text_all (results f es) = send_all es (call_targets f) ++ text_all es

  -- ---- functions

  abbrev pub act_edges : Act → List Edge
  act_edges (give es targets) = send_all es (map target_list targets) ++ text_all es
  act_edges (carry x) = edge (loc.Carry (record { 0 = x })) (site x) (pos 0) ∷ edge (site x) (loc.Carry (record { 0 = x })) (pos 0) ∷ []

  abbrev pub acts_edges : List Act → List Edge
  acts_edges [] = []
  acts_edges (a ∷ acts) = act_edges a ++ acts_edges acts

  abbrev pub edges_in : Option Func → List Edge
  edges_in None = []
  edges_in (Some f) = acts_edges f.body

  abbrev pub func_edges : ℕ → List Edge
  func_edges f = edges_in (slice_get p.funcs f)

  -- the edges of some functions
  abbrev pub funcs_edges : List ℕ → List Edge
  funcs_edges [] = []
  funcs_edges (f ∷ fs) = func_edges f ++ funcs_edges fs

-- the edges of a batch, under the tags of other functions
abbrev pub batch_edges : Program → Tags → List FuncId → List Edge
batch_edges p tags batch = funcs_edges p (numbers batch) tags (numbers batch)

-- the edges of all batches
abbrev pub whole_edges : Program → Tags → List (List FuncId) → List Edge
whole_edges p tags [] = []
whole_edges p tags (b ∷ bs) = batch_edges p tags b ++ whole_edges p tags bs
