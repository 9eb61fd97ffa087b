use Rattle.std.proofs.Common.{rules, ◌+◌, ◌≤◌, length, arith}
use Rattle.std.proofs.lemmas.List.{length-drop}
use Rattle.machine.specs.Machine.{full_range, owner_of}
use Rattle.machine.specs.Answers.{state_of}
use Rattle.machine.proofs.Reading.{ended_so, first_frame_leaves}
use Rattle.machine.proofs.Placed.{returned}
use Rattle.machine.proofs.links.leave.Goals as goal

pub returns-clause-stays : goal.returns-clause-stays
returns-clause-stays c =
    let call = c.if-not-follows_call.ensures in
    let room : c.args.at.base + c.own_frame-frame.result + c.frame_at-above.result ≤ length c.args.words.now.items = (c.links.ensures.0 (search rules)).0 in
    λ _. rw c.to.ensures (returned _ _ _ _ _ call.is_code (call.inside (search rules)).0 (call.named (search rules)) (rw c.frame_at-above.ensures.is at room))

pub returns-then-end-len-clause-returns : goal.returns-then-end-len-clause-returns
returns-then-end-len-clause-returns c =
    λ reads heap.
    let s = state_of (full_range c.args.stack_max) c.args.words.now.items c.args.at reads heap in
    let long = length-drop c.args.at.base c.args.words.now.items in
    rw c.ended.ensures
    (ended_so _ s c.exit.result c.exit.ensures.read c.exit.ensures.write c.exit.ensures.memory
    (first_frame_leaves c.args.tables.now s (owner_of c.args.tables.now c.args.at.pc) c.own_frame-frame.result c.exit.result c.own_frame-frame.ensures.is (omega (arith, long, c.if-end-len.true))
    (rw (← c.slot-ret.ensures, ← c.slot-link.ensures) c.exit.ensures.exits)))
