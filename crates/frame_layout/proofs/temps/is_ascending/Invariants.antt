use Rattle.std.proofs.Common.{◌≡◌, drop}
use Rattle.typed_syntax.specs.Syntax.{ascend, ascend_from}
use Rattle.typed.specs.View.{elements_of}
use Rattle.frame_layout.proofs.temps.is_ascending.Given as goal

abbrev pub invariant-loop-element : goal.invariant-loop-element
invariant-loop-element l = ascend (elements_of l.elements) ≡ ascend_from l.next (elements_of (drop l.element-index l.elements))
