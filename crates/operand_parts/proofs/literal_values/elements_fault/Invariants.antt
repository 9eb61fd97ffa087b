use Rattle.std.proofs.Common.{drop}
use Rattle.type_faults.proofs.Leasts.{Kept}
use Rattle.operand_parts.specs.LiteralValues.{ElementsFail}
use Rattle.operand_parts.specs.Passing.{placeds}
use Rattle.operand_parts.proofs.literal_values.elements_fault.Given as goal

abbrev pub invariant-loop-element : goal.invariant-loop-element
invariant-loop-element l = Kept (ElementsFail (placeds l.placed)) (ElementsFail (placeds (drop l.element-index l.placed))) l.fault
