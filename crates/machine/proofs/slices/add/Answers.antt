use Rattle.std.proofs.Common.{rules, arith}
use Rattle.machine.specs.Machine.{full_range}
use Rattle.machine.specs.Answers.{state_of}
use Rattle.machine.proofs.Branches.{added_in_place, added_in_new}
use Rattle.machine.proofs.slices.add.Goals as goal

pub returns-then-needed-old-clause-adds : goal.returns-then-needed-old-clause-adds
returns-then-needed-old-clause-adds c =
    λ reads. added_in_place (state_of (full_range c.args.stack_max) c.args.words.now.items c.args.at reads c.args.heap.now)
    (state_of (full_range c.args.stack_max) c.add_in_place.new.words.items c.add_in_place.result.at reads c.add_in_place.new.heap) c.args.a c.args.old.first c.args.old.long c.args.old.capacity c.args.w _
    c.args.count c.args.source (omega (arith, c.if-needed-old.true)) (c.add_in_place.ensures.adds reads)

pub returns-clause-adds : goal.returns-clause-adds
returns-clause-adds c =
    λ reads. added_in_new (state_of (full_range c.args.stack_max) c.args.words.now.items c.args.at reads c.args.heap.now)
    (state_of (full_range c.args.stack_max) c.add_in_new.new.words.items c.add_in_new.result.at reads c.add_in_new.new.heap) c.args.a c.args.old.first c.args.old.long c.args.old.capacity c.args.w _
    c.args.count c.max-capacity.result c.args.source (omega (arith, c.if-needed-old.false)) (search rules) (c.add_in_new.ensures.adds reads)
