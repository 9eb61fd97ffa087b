use Rattle.std.proofs.Common.{◌≡◌, ◌++◌, string_bytes}
use Rattle.demo_gen.specs.Text.{beginning_text, functions}
use Rattle.demo_gen.proofs.programs.text.Given as goal

abbrev pub invariant-loop-k : goal.invariant-loop-k
invariant-loop-k l = string_bytes l.text ≡ beginning_text ++ functions l.k
