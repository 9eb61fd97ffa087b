use Rattle.std.proofs.Common.{rules}
use Rattle.machine.specs.Machine.{full_range}
use Rattle.machine.specs.Answers.{state_of}
use Rattle.machine.proofs.Branches.{copied_by}
use Rattle.machine.proofs.slices.copy.Goals as goal

pub returns-clause-copies : goal.returns-clause-copies
returns-clause-copies c =
    λ reads. copied_by (state_of (full_range c.args.stack_max) c.args.words.now.items c.args.at reads c.args.heap.now)
    (state_of (full_range c.args.stack_max) c.copy_elements.new.words.items c.copy_elements.result.at reads c.copy_elements.new.heap)
    c.args.a c.args.w c.args.b c.args.c c.slot-to.result c.slot-from.result c.lesser-count.result _
    c.slot-to.ensures c.slot-from.ensures (search rules) (c.copy_elements.ensures.copies reads)
