use Rattle.std.proofs.Common.{◌≡◌, ◌<◌, ◌≤◌, ◌^◌, ◌++◌, length, drop}
use Rattle.explain.specs.Lines.{params_lines, text_of}
use Rattle.explain.specs.Passing.{AreFit}
use Rattle.explain.proofs.tags.put_params.Given as goal

abbrev pub invariant-loop-param : goal.invariant-loop-param
invariant-loop-param l = record {
  text : l.text.items ++ text_of (params_lines l.func l.param (drop l.param l.params) l.tags) ≡ l.fn.text.items ++ text_of (params_lines l.func 0 l.params l.tags);
  fits : l.func < 2 ^ 32 → length l.params ≤ 2 ^ 32 → AreFit (params_lines l.func l.param (drop l.param l.params) l.tags) → AreFit (params_lines l.func 0 l.params l.tags);
}
