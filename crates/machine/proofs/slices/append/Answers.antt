use Rattle.std.proofs.Common.{rules}
use Rattle.isa.specs.declared.instr.Added.TheVariants.{Slots}
use Rattle.machine.specs.Machine.{full_range}
use Rattle.machine.specs.Answers.{state_of}
use Rattle.machine.proofs.Branches.{appended, appended_of}
use Rattle.machine.proofs.slices.append.Goals as goal

pub returns-in-Slots-clause-appends : goal.returns-in-Slots-clause-appends
returns-in-Slots-clause-appends c =
    λ reads. rw c.in-Slots.is
    (appended (state_of (full_range c.args.stack_max) c.args.words.now.items c.args.at reads c.args.heap.now)
    (state_of (full_range c.args.stack_max) c.append_slots.new.words.items c.append_slots.result.at reads c.append_slots.new.heap) c.args.a c.slot-first.result c.slot-long.result c.slot-capacity.result c.args.w _
    c.args.b c.args.c c.args.d c.slot-first.ensures c.slot-long.ensures c.slot-capacity.ensures (search rules) Slots (c.append_slots.ensures.appends reads))

pub returns-in-Slice-clause-appends : goal.returns-in-Slice-clause-appends
returns-in-Slice-clause-appends c =
    λ reads. rw c.in-Slice.is
    (appended_of (state_of (full_range c.args.stack_max) c.args.words.now.items c.args.at reads c.args.heap.now)
    (state_of (full_range c.args.stack_max) c.append_slice.new.words.items c.append_slice.result.at reads c.append_slice.new.heap) c.args.a c.slot-first.result c.slot-long.result c.slot-capacity.result c.args.w _
    c.args.b c.args.c c.args.d c.slot-first.ensures c.slot-long.ensures c.slot-capacity.ensures (search rules)
    c.slot-from.result c.slot-count.result c.slot-from.ensures c.slot-count.ensures (c.append_slice.ensures.appends reads))
