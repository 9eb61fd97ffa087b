-- Rows of values are lists.
use Rattle.std.proofs.Common.{◌≡◌, ◌==◌, not, length, List, [], ◌∷◌, map, Bool, true, false, refl, ap, arith, eqb-true}
use Rattle.typed.specs.declared.expr.Expr.{Expr}
use Rattle.typed.specs.View.{exs_of}
use Rattle.typed.proofs.Rows.{expr_rows}
use Rattle.typed_syntax.specs.Syntax.{Program}
use Rattle.value_flows.specs.declared.value.Value.{Value}
use Rattle.value_flows.specs.Syntax.{more, each}
use Rattle.value_flows.specs.View.{val_of, vals_of}
use Rattle.value_flows.proofs.Rows.{value_rows}
use Rattle.typed_flows.specs.Values.{row, values, arguments}
use Rattle.typed_flows.specs.Flows.{gives}

pub vals_are : (vs : List Value) → vals_of vs ≡ row (map val_of vs)
vals_are [] = refl
vals_are (v ∷ vs) = ap (more (val_of v)) (vals_are vs)

-- the values of expressions, each of which has one
pub each_is : (p : Program) (es : List Expr) → arguments p (exs_of es) ≡ each (row (values p (exs_of es)))
each_is p [] = refl
each_is p (e ∷ es) = refl

pub gives_is : (es : List Expr) → gives (exs_of es) ≡ not (length es == 0)
gives_is [] = refl
gives_is (e ∷ es) = by (length (e ∷ es) == 0) refl
  where
    by : (b : Bool) → (length (e ∷ es) == 0) ≡ b → true ≡ not b
    by true q = absurd (omega (arith, eqb-true (length (e ∷ es)) 0 q))
    by false q = refl

-- for `using`: what the fields of values and of expressions are, with the rows as lists
pub ruleset flow_rows = (value_rows, vals_are)
