-- Parameters and results without names, one by one.
use Rattle.std.proofs.Common.{◌≡◌, List, [], ◌∷◌, length, refl, ap, suc}
use Rattle.syntax.specs.declared.expression.Expr.{Expr}
use Rattle.syntax.specs.Expressions.{exs_of}
use Rattle.signatures.specs.Signatures.{unnamed_params}

pub unnamed_are : (ts : List Expr) → length ts ≡ length (unnamed_params (exs_of ts))
unnamed_are [] = refl
unnamed_are (t ∷ ts) = ap suc (unnamed_are ts)
