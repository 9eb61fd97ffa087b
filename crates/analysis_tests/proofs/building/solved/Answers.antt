use Rattle.analysis_tests.proofs.building.solved.Goals as goal

pub batches_of-requires : goal.batches_of-requires
batches_of-requires c = record { calls = (c.is_formed.ensures.0 cc).1 }
