use Rattle.std.proofs.Common.{rules, arith}
use Rattle.machine.specs.Answers.{state_of}
use Rattle.machine.proofs.Branches.{made}
use Rattle.machine.proofs.allocating.make.Goals as goal

pub returns-clause-makes : goal.returns-clause-makes
returns-clause-makes c =
    λ range reads. made (state_of range c.args.words.now.items c.args.at reads c.args.heap.now) (state_of range c.allocate.new.words.items c.allocate.result.at reads c.allocate.new.heap)
    c.args.a c.args.w _ _ c.slot-long.result c.slot-capacity.result _
    c.slot-long.ensures c.slot-capacity.ensures (omega (arith, c.if-long-gt-MOST_ELEMENTS.false)) (search rules) (c.allocate.ensures.allocates range reads)
