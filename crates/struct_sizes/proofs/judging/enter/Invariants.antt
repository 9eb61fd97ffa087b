use Rattle.std.proofs.Common.{◌≡◌, None, take}
use Rattle.std.specs.Prelude.{slice_index_or}
use Rattle.struct_sizes.specs.Filling.{flaw_at, verdict, set_each}
use Rattle.struct_sizes.proofs.judging.enter.Given as goal

abbrev pub invariant-loop-node : goal.invariant-loop-node
invariant-loop-node l = l.verdicts ≡ set_each (λ k. verdict l.ruling (flaw_at l.flaws k) (slice_index_or l.table k None)) l.fn.verdicts (take l.node-index l.nodes)
