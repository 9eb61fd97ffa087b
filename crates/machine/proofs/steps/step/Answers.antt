use Rattle.std.proofs.Common.{rules, ◌≡◌, ◌+◌, Some, drop, refl, ap, ◌∙◌, arith}
use Rattle.std.proofs.lemmas.Grind.{common_steps}
use Rattle.outside.proofs.Took.{Took-nothing}
use Rattle.isa.specs.declared.instr.Instr.{Instr}
use Rattle.machine.proofs.Reading.{nothing_read, told_nothing}
use Rattle.machine.proofs.Branches.{call_needs, call_room, seldom}
use Rattle.machine.proofs.steps.step.Goals as goal

pub returns-in-Const-clause-step : goal.returns-in-Const-clause-step
returns-in-Const-clause-step g c = nothing_read _ _ _ _ (search rules) (refl, refl) (λ items reads. let more : reads + 0 ≡ reads = omega arith in rw more (search rules))

pub returns-in-Move-clause-step : goal.returns-in-Move-clause-step
returns-in-Move-clause-step g c = nothing_read _ _ _ _ (search rules) (refl, refl) (λ items reads. let more : reads + 0 ≡ reads = omega arith in rw more (search rules))

pub returns-in-Born-clause-step : goal.returns-in-Born-clause-step
returns-in-Born-clause-step g c = nothing_read _ _ _ _ (search rules) (refl, refl) (λ items reads. let more : reads + 0 ≡ reads = omega arith in rw more (search rules))

pub returns-in-Ok-clause-step : goal.returns-in-Ok-clause-step
returns-in-Ok-clause-step g c = nothing_read _ _ _ _ (search rules) (refl, refl) (λ items reads. let more : reads + 0 ≡ reads = omega arith in rw more (search rules))

pub returns-in-Err-clause-step : goal.returns-in-Err-clause-step
returns-in-Err-clause-step g c = nothing_read _ _ _ _ (search rules) (refl, refl) (λ items reads. let more : reads + 0 ≡ reads = omega arith in rw more (search rules))

pub returns-in-Jump-clause-step : goal.returns-in-Jump-clause-step
returns-in-Jump-clause-step g c = nothing_read _ _ _ _ (search rules) (refl, refl) (λ items reads. let more : reads + 0 ≡ reads = omega arith in rw more (search rules))

pub returns-then-slot-eq0-clause-step : goal.returns-then-slot-eq0-clause-step
returns-then-slot-eq0-clause-step g c = nothing_read _ _ _ _ (search rules) (refl, refl) (λ items reads. let more : reads + 0 ≡ reads = omega arith in rw more (search rules))

pub returns-else-slot-eq0-clause-step : goal.returns-else-slot-eq0-clause-step
returns-else-slot-eq0-clause-step g c = nothing_read _ _ _ _ (search rules) (refl, refl) (λ items reads. let more : reads + 0 ≡ reads = omega arith in rw more (search rules))

pub returns-in-Ok-incoming-clause-step : goal.returns-in-Ok-incoming-clause-step
returns-in-Ok-incoming-clause-step g c = nothing_read _ _ _ _ (search rules) (refl, refl) (λ items reads. let more : reads + 0 ≡ reads = omega arith in rw more (grind (arith, common_steps)))

pub returns-in-Err-incoming-clause-step : goal.returns-in-Err-incoming-clause-step
returns-in-Err-incoming-clause-step g c = nothing_read _ _ _ _ (search rules) (refl, refl) (λ items reads. let more : reads + 0 ≡ reads = omega arith in rw more (grind (arith, common_steps)))

pub returns-in-Call-clause-step : goal.returns-in-Call-clause-step
returns-in-Call-clause-step g c =
    nothing_read _ _ _ _ c.call.ensures.read (refl, refl)
    (λ items reads.
    let more : reads + 0 ≡ reads = omega arith in
    rw (more, c.fetch-instr.ensures.is, c.in-Call.is, ← c.own_frame-frame.ensures.is, c.callee-callee.ensures.is) (told_nothing _ _ _ _ _ (c.call.ensures.calls reads c.args.heap.now)))

pub returns-in-Return-clause-step : goal.returns-in-Return-clause-step
returns-in-Return-clause-step g c =
    nothing_read _ _ _ _ c.leave.ensures.read (refl, refl)
    (λ items reads. let more : reads + 0 ≡ reads = omega arith in rw (more, c.fetch-instr.ensures.is, c.in-Return.is) (told_nothing _ _ _ _ _ (c.leave.ensures.returns reads c.args.heap.now)))

pub returns-in-Load-clause-step : goal.returns-in-Load-clause-step
returns-in-Load-clause-step g c =
    nothing_read _ _ _ _ c.load.ensures.read (refl, refl)
    (λ items reads. let more : reads + 0 ≡ reads = omega arith in rw (more, c.fetch-instr.ensures.is, c.in-Load.is) (told_nothing _ _ _ _ _ (c.load.ensures.loads reads)))

pub returns-in-Store-clause-step : goal.returns-in-Store-clause-step
returns-in-Store-clause-step g c =
    nothing_read _ _ _ _ c.store.ensures.read (refl, refl)
    (λ items reads. let more : reads + 0 ≡ reads = omega arith in rw (more, c.fetch-instr.ensures.is, c.in-Store.is) (told_nothing _ _ _ _ _ (c.store.ensures.stores reads)))

pub returns-in-Call-clause-memory : goal.returns-in-Call-clause-memory
returns-in-Call-clause-memory g c =
    λ refusal. let m = c.call.ensures.refused refusal in
    (call_needs c.args.tables.now c.args.stack_max c.args.at.pc (drop c.args.at.base c.args.words.now.items) c.args.heap.now c.in-Call.func c.callee-callee.result (c.fetch-instr.ensures.is ∙ ap (λ (i : Instr). Some i) c.in-Call.is) c.callee-callee.ensures.is m.1, Took-nothing _, m.2, refl)

pub returns-in-Call-clause-room : goal.returns-in-Call-clause-room
returns-in-Call-clause-room g c =
    λ refusal. call_room c.args.tables.now c.args.at c.in-Call.func c.callee-callee.result (c.fetch-instr.ensures.is ∙ ap (λ (i : Instr). Some i) c.in-Call.is) c.callee-callee.ensures.is (c.call.ensures.refused refusal).0

pub rare_step_apart-requires-clause-rare : goal.rare_step_apart-requires-clause-rare
rare_step_apart-requires-clause-rare g c =
    seldom c.fetch-instr.result.now c.in_default.not-Const c.in_default.not-Move c.in_default.not-Bin c.in_default.not-Jump c.in_default.not-JumpZero c.in_default.not-Call
    c.in_default.not-Incoming c.in_default.not-Load c.in_default.not-Store c.in_default.not-Born c.in_default.not-Return
