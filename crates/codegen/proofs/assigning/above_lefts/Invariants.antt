use Rattle.std.proofs.Common.{◌≡◌, drop, map}
use Rattle.typed.specs.View.{left_of}
use Rattle.program_code.specs.Code.{lefts_above}
use Rattle.codegen.proofs.assigning.above_lefts.Given as goal

abbrev pub invariant-loop-left : goal.invariant-loop-left
invariant-loop-left l = lefts_above (map left_of l.ls) l.h ≡ lefts_above (map left_of (drop l.left-index l.ls)) l.above
