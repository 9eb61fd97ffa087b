use Rattle.std.proofs.Common.{◌≡◌, ◌+◌, drop}
use Rattle.typed_syntax.specs.Syntax.{all_wide}
use Rattle.typed.specs.View.{exs_of, program_of}
use Rattle.frame_layout.proofs.words.row_words.Given as goal

abbrev pub invariant-loop-e : goal.invariant-loop-e
invariant-loop-e l = l.words + all_wide (program_of l.program) (exs_of (drop l.e-index l.es)) ≡ all_wide (program_of l.program) (exs_of l.es)
