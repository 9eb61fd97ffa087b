use Rattle.std.proofs.Common.{rules, arith}
use Rattle.machine.specs.Machine.{full_range}
use Rattle.machine.specs.Answers.{state_of}
use Rattle.machine.proofs.Branches.{appended_slice}
use Rattle.machine.proofs.slices.append_slice.Goals as goal

pub returns-clause-appends : goal.returns-clause-appends
returns-clause-appends c =
    λ reads. appended_slice (state_of (full_range c.args.stack_max) c.args.words.now.items c.args.at reads c.args.heap.now)
    (state_of (full_range c.args.stack_max) c.add.new.words.items c.add.result.at reads c.add.new.heap) c.args.a c.args.old.first c.args.old.long c.args.old.capacity c.args.w _
    c.args.from c.args.count c.find_elements-source.result (omega (arith, c.if-count-gt-MOST_ELEMENTS.false)) (search rules) c.find_elements-source.ensures.is (search rules)
    (c.add.ensures.adds reads)
