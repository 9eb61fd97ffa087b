use Rattle.std.proofs.Common.{◌≡◌, ◌++◌, map, drop}
use Rattle.explain.specs.Lines.{step_line, text_of}
use Rattle.explain.specs.Passing.{AreFit}
use Rattle.explain.proofs.sites.put_steps.Given as goal

abbrev pub invariant-loop-step : goal.invariant-loop-step
invariant-loop-step l = record {
  text : l.text.items ++ text_of (map step_line (drop l.step-index l.steps)) ≡ l.fn.text.items ++ text_of (map step_line l.steps);
  fits : AreFit (map step_line (drop l.step-index l.steps)) → AreFit (map step_line l.steps);
}
