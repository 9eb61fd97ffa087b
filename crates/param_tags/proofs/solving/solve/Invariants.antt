use Rattle.std.proofs.Common.{take}
use Rattle.value_flows.specs.View.{program_of, tags_of}
use Rattle.param_tags.proofs.Batches.{Done}
use Rattle.param_tags.proofs.Going.{lists}
use Rattle.param_tags.proofs.Traced.{Traced}
use Rattle.param_tags.proofs.solving.solve.Given as goal

abbrev pub invariant-loop-batch : goal.invariant-loop-batch
invariant-loop-batch l = record {
  done : Done (program_of l.program) (lists l.batches) (lists (take l.batch-index l.batches)) (tags_of l.tags) l.placed.items;
  traced : Traced (program_of l.program) (lists (take l.batch-index l.batches)) (tags_of l.tags) l.placed.items l.paths.items;
}
