use Rattle.std.proofs.Common.{◌≡◌, ◌≤◌, ◌++◌, drop, map}
use Rattle.typed_syntax.specs.Syntax.{value_widths}
use Rattle.typed.specs.View.{exs_of_values, left_of, program_of}
use Rattle.program_code.specs.Code.{lefts_above, lefts_code}
use Rattle.expression_code.specs.Frame.{slots_in}
use Rattle.codegen.specs.Temps.{LeftsFitIn}
use Rattle.codegen.proofs.assigning.emit_lefts.Given as goal

abbrev pub invariant-loop-i : goal.invariant-loop-i
invariant-loop-i l =
    (l.fn.code.items ++ lefts_code (slots_in l.program l.frame) (value_widths (program_of l.program) (exs_of_values l.values)) (map left_of l.ls) l.first l.at l.h
    ≡ l.code.items ++ lefts_code (slots_in l.program l.frame) (drop l.i (value_widths (program_of l.program) (exs_of_values l.values))) (map left_of (drop l.i l.ls)) l.operands l.at l.next)
    × LeftsFitIn (slots_in l.program l.frame) l.frame.sites l.at l.next (drop l.i (value_widths (program_of l.program) (exs_of_values l.values))) (map left_of (drop l.i l.ls))
    × (lefts_above (map left_of (drop l.i l.ls)) l.operands ≤ l.frame.temps)
