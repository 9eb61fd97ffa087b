use Rattle.std.proofs.Common.{◌≡◌, drop}
use Rattle.typed_syntax.specs.Syntax.{ascend, ascend_from}
use Rattle.typed.specs.View.{elements_of}
use Rattle.expression_code.proofs.literals.ascends.Given as goal

abbrev pub invariant-loop-element : goal.invariant-loop-element
invariant-loop-element l = ascend (elements_of l.es) ≡ ascend_from l.least (elements_of (drop l.element-index l.es))
