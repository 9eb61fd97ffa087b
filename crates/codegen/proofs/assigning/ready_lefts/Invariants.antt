use Rattle.std.proofs.Common.{◌≡◌, ◌≤◌, ◌++◌, drop, length, map}
use Rattle.typed.specs.View.{left_of, program_of}
use Rattle.expression_code.specs.Frame.{slots_in}
use Rattle.codegen.specs.Temps.{ReadyFitIn}
use Rattle.program_code.specs.Code.{lefts_above, ready_code}
use Rattle.codegen.proofs.assigning.ready_lefts.Given as goal

abbrev pub invariant-loop-left : goal.invariant-loop-left
invariant-loop-left l =
    (l.fn.code.items ++ ready_code (program_of l.program) (slots_in l.program l.frame) (map left_of l.ls) l.h (length l.fn.code.items)
    ≡ l.code.items ++ ready_code (program_of l.program) (slots_in l.program l.frame) (map left_of (drop l.left-index l.ls)) l.next (length l.code.items))
    × ReadyFitIn (program_of l.program) (slots_in l.program l.frame) l.frame.sites l.next (map left_of (drop l.left-index l.ls))
    × (lefts_above (map left_of (drop l.left-index l.ls)) l.next ≤ 65535)
