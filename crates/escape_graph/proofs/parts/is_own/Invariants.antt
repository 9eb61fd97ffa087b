use Rattle.std.proofs.Common.{◌≡◌, drop}
use Rattle.escape_graph.specs.Edges.{is_own, numbers}
use Rattle.escape_graph.proofs.parts.is_own.Given as goal

abbrev pub invariant-loop-g : goal.invariant-loop-g
invariant-loop-g l = is_own (numbers (drop l.g-index l.batch)) l.f.0 ≡ is_own (numbers l.batch) l.f.0
