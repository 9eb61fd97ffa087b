-- The calls of each function as a list, in the order of the text.
use Rattle.std.specs.Prelude.{ℕ, List, [], ◌∷◌, ◌++◌, map}
use Rattle.value_flows.specs.Syntax.{Val, Vals, Exs, variable, address, inside, behind, parts, beside, sent, call, none, more, each, results, Act, give, carry, Func}

abbrev mutual
  pub called : Val → List ℕ
  called (variable x) = []
  called (address x) = []
  called (inside has v) = called v
  called (behind v) = called v
  called (parts vs) = called_each vs
  called (beside vs v) = called_each vs ++ called v
  called (sent t v) = called v
  called (call f es) = f ∷ called_all es

  pub called_each : Vals → List ℕ
  called_each none = []
  called_each (more v vs) = called v ++ called_each vs

  pub called_all : Exs → List ℕ
  called_all (each vs) = called_each vs
  called_all (results f es) = f ∷ called_all es

abbrev pub called_in : Act → List ℕ
called_in (give es targets) = called_all es
called_in (carry x) = []

abbrev pub called_by : List Act → List ℕ
called_by [] = []
called_by (a ∷ acts) = called_in a ++ called_by acts

abbrev pub call_lists : List Func → List (List ℕ)
call_lists fs = map (λ f. called_by f.body) fs
