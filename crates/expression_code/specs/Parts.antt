-- The numbers of the parts that steps lead to.
use Rattle.std.specs.Prelude.{ℕ}
use Rattle.typed.specs.declared.expr.Step.{Step}
use Rattle.typed.specs.declared.expr.Step.TheVariants as way

-- an index that is worked out counts as the first
abbrev pub part_number : Step → ℕ
part_number (way.Inner i) = i
part_number (way.Index at e n) = 0
