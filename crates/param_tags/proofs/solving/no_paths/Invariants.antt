use Rattle.std.proofs.Common.{◌≡◌, length}
use Rattle.param_tags.proofs.solving.no_paths.Given as goal

abbrev pub invariant-loop : goal.invariant-loop
invariant-loop l = length l.paths.items ≡ l.counter
