use Rattle.std.proofs.Common.{◌≡◌, drop}
use Rattle.syntax.specs.Expressions.{elements_of}
use Rattle.operand_parts.specs.Literals.{are_keyed}
use Rattle.operand_parts.proofs.literals.are_keyed.Given as goal

abbrev pub invariant-loop-element : goal.invariant-loop-element
invariant-loop-element l = are_keyed (elements_of (drop l.element-index l.elements)) ≡ are_keyed (elements_of l.elements)
