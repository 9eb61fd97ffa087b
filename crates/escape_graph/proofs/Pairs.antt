-- Two lists that are gone through side by side: what is left where one of them has ended.
use Rattle.std.proofs.Common.{◌≡◌, ℕ, List, [], ◌∷◌, ◌++◌, map, ◌⊎◌, inl, inr, refl, sym, ap, ◌∙◌}
use Rattle.std.proofs.lemmas.List.{append-nil}
use Rattle.std.specs.Prelude.{Vec}
use Rattle.std.specs.declared.alloc.Global.{Global}
use Rattle.value_flows.specs.declared.program.FuncResult.{FuncResult}
use Rattle.value_flows.specs.declared.value.Target.{Target}
use Rattle.value_flows.specs.declared.value.Value.{Value}
use Rattle.value_flows.specs.Syntax.{Vals, more, none, Program, Result, Tags}
use Rattle.value_flows.specs.View.{result_of, vals_of}
use Rattle.escape_graph.specs.Targets.{pointing}
use Rattle.escape_graph.specs.Edges.{results_to, send_row}

abbrev pub lists : List (Vec Target Global) → List (List Target)
lists vs = map (λ (v : Vec Target Global). v.items) vs

-- with nothing left, what was added is all
pub added_all : {A : Type 0} (added left all : List A) → left ≡ [] → added ++ left ≡ all → added ≡ all
added_all {A = A} added left all ends same = sym (append-nil added) ∙ ap (λ (xs : List A). added ++ xs) (sym ends) ∙ same

pointing_nowhere : (rs : List Result) → pointing rs [] ≡ []
pointing_nowhere [] = refl
pointing_nowhere (r ∷ rs) = refl

results_nowhere : (f j : ℕ) (rs : List Result) → results_to f j rs [] ≡ []
results_nowhere f j [] = refl
results_nowhere f j (r ∷ rs) = refl

pub pointing_ends : (rs : List FuncResult) (vs : List (Vec Target Global)) → (rs ≡ []) ⊎ (vs ≡ []) → pointing (map result_of rs) (lists vs) ≡ []
pointing_ends rs vs (inl e) = ap (λ (xs : List FuncResult). pointing (map result_of xs) (lists vs)) e
pointing_ends rs vs (inr e) = ap (λ (xs : List (Vec Target Global)). pointing (map result_of rs) (lists xs)) e ∙ pointing_nowhere (map result_of rs)

pub results_end : (f j : ℕ) (rs : List FuncResult) (vs : List (Vec Target Global)) → (rs ≡ []) ⊎ (vs ≡ []) → results_to f j (map result_of rs) (lists vs) ≡ []
results_end f j rs vs (inl e) = ap (λ (xs : List FuncResult). results_to f j (map result_of xs) (lists vs)) e
results_end f j rs vs (inr e) = ap (λ (xs : List (Vec Target Global)). results_to f j (map result_of rs) (lists xs)) e ∙ results_nowhere f j (map result_of rs)

module _ (p : Program) (own : List ℕ) (tags : Tags) where
  row_nowhere : (vs : Vals) → send_row p own tags vs [] ≡ []
  row_nowhere none = refl
  row_nowhere (more v vs) = refl

  pub row_ends : (values : List Value) (vs : List (Vec Target Global)) → (values ≡ []) ⊎ (vs ≡ []) → send_row p own tags (vals_of values) (lists vs) ≡ []
  row_ends values vs (inl e) = ap (λ (xs : List Value). send_row p own tags (vals_of xs) (lists vs)) e
  row_ends values vs (inr e) = ap (λ (xs : List (Vec Target Global)). send_row p own tags (vals_of values) (lists xs)) e ∙ row_nowhere (vals_of values)
