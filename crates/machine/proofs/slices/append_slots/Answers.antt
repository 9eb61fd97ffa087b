use Rattle.std.proofs.Common.{rules}
use Rattle.machine.specs.Machine.{full_range}
use Rattle.machine.specs.Answers.{state_of}
use Rattle.machine.proofs.Branches.{appended_slots}
use Rattle.machine.proofs.slices.append_slots.Goals as goal

pub returns-clause-appends : goal.returns-clause-appends
returns-clause-appends c =
    λ reads. appended_slots (state_of (full_range c.args.stack_max) c.args.words.now.items c.args.at reads c.args.heap.now)
    (state_of (full_range c.args.stack_max) c.add.new.words.items c.add.result.at reads c.add.new.heap) c.args.a c.args.old.first c.args.old.long c.args.old.capacity c.args.w _
    c.args.c c.args.d (search rules) (c.add.ensures.adds reads)
