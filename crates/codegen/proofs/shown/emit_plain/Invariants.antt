use Rattle.std.proofs.Common.{◌≡◌, ◌++◌, drop, map}
use Rattle.typed.specs.View.{piece_of}
use Rattle.program_code.specs.Code.{show_plain}
use Rattle.expression_code.specs.Frame.{slots_in}
use Rattle.codegen.specs.Frame.{ShownFit}
use Rattle.codegen.proofs.shown.emit_plain.Given as goal

abbrev pub invariant-loop-p : goal.invariant-loop-p
invariant-loop-p l =
    (l.fn.code.items ++ show_plain (slots_in l.program l.frame) (map piece_of l.ps) l.h ≡ l.code.items ++ show_plain (slots_in l.program l.frame) (map piece_of (drop l.p-index l.ps)) l.next)
    × ShownFit (slots_in l.program l.frame) l.next (map piece_of (drop l.p-index l.ps))
