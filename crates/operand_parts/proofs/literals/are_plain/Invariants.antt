use Rattle.std.proofs.Common.{◌≡◌, drop}
use Rattle.syntax.specs.Expressions.{elements_of}
use Rattle.operand_parts.specs.Literals.{are_plain}
use Rattle.operand_parts.proofs.literals.are_plain.Given as goal

abbrev pub invariant-loop-element : goal.invariant-loop-element
invariant-loop-element l = are_plain (elements_of (drop l.element-index l.elements)) ≡ are_plain (elements_of l.elements)
