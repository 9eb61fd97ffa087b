use Rattle.std.proofs.Common.{rules, ◌≡◌, ◌+◌, Some, refl, ap, ◌∙◌, arith}
use Rattle.std.specs.Int.{w64, cast_signed}
use Rattle.outside.proofs.Took.{Took-nothing}
use Rattle.isa.specs.declared.instr.Instr.{Instr}
use Rattle.machine.specs.Machine.{full_range, stops, slot, exit_of}
use Rattle.machine.specs.Answers.{state_of}
use Rattle.machine.proofs.Reading.{nothing_read, told_nothing, ended_so}
use Rattle.machine.proofs.Branches.{alloc_room, make_room, append_room}
use Rattle.machine.proofs.steps.rare_step.Goals as goal

pub returns-in-Zero-clause-step : goal.returns-in-Zero-clause-step
returns-in-Zero-clause-step g c = nothing_read _ _ _ _ (search rules) (refl, refl) (λ items reads. let more : reads + 0 ≡ reads = omega arith in rw more (search rules))

pub returns-in-Same-clause-step : goal.returns-in-Same-clause-step
returns-in-Same-clause-step g c = nothing_read _ _ _ _ (search rules) (refl, refl) (λ items reads. let more : reads + 0 ≡ reads = omega arith in rw more (search rules))

pub returns-in-Un-clause-step : goal.returns-in-Un-clause-step
returns-in-Un-clause-step g c = nothing_read _ _ _ _ (search rules) (refl, refl) (λ items reads. let more : reads + 0 ≡ reads = omega arith in rw more (search rules))

pub returns-in-Address-clause-step : goal.returns-in-Address-clause-step
returns-in-Address-clause-step g c = nothing_read _ _ _ _ (search rules) (refl, refl) (λ items reads. let more : reads + 0 ≡ reads = omega arith in rw more (search rules))

pub returns-in-PrintInt-clause-step : goal.returns-in-PrintInt-clause-step
returns-in-PrintInt-clause-step g c = nothing_read _ _ _ _ (search rules) (refl, refl) (λ items reads. let more : reads + 0 ≡ reads = omega arith in rw more (search rules))

pub returns-in-PrintBool-clause-step : goal.returns-in-PrintBool-clause-step
returns-in-PrintBool-clause-step g c = nothing_read _ _ _ _ (search rules) (refl, refl) (λ items reads. let more : reads + 0 ≡ reads = omega arith in rw more (search rules))

pub returns-in-PrintText-clause-step : goal.returns-in-PrintText-clause-step
returns-in-PrintText-clause-step g c = nothing_read _ _ _ _ (search rules) (refl, refl) (λ items reads. let more : reads + 0 ≡ reads = omega arith in rw more (search rules))

pub returns-in-PrintSpace-clause-step : goal.returns-in-PrintSpace-clause-step
returns-in-PrintSpace-clause-step g c = nothing_read _ _ _ _ (search rules) (refl, refl) (λ items reads. let more : reads + 0 ≡ reads = omega arith in rw more (search rules))

pub returns-in-PrintLine-clause-step : goal.returns-in-PrintLine-clause-step
returns-in-PrintLine-clause-step g c = nothing_read _ _ _ _ (search rules) (refl, refl) (λ items reads. let more : reads + 0 ≡ reads = omega arith in rw more (search rules))

pub returns-in-Exit-clause-step : goal.returns-in-Exit-clause-step
returns-in-Exit-clause-step g c =
    nothing_read _ _ _ _ (search rules) (refl, refl)
    (λ items reads.
    let more : reads + 0 ≡ reads = omega arith in
    let s = state_of (full_range c.args.stack_max) c.args.words.now.items c.args.at reads c.args.heap.now in
    let d = stops s (exit_of (cast_signed w64 (slot s c.in-Exit.a))) in
    rw (more, c.requires.instr, c.in-Exit.is, c.ended.ensures)
    (told_nothing d s (Some c.exit.result) (g.O.Sink.taken c.args.out.now) (g.O.Sink.faults c.args.out.now) (ended_so d s c.exit.result c.exit.ensures.read c.exit.ensures.write c.exit.ensures.memory (search rules))))

pub returns-in-PanicText-clause-step : goal.returns-in-PanicText-clause-step
returns-in-PanicText-clause-step g c = nothing_read _ _ _ _ (search rules) (refl, refl) (λ items reads. let more : reads + 0 ≡ reads = omega arith in rw more (search rules))

pub returns-in-PanicInt-clause-step : goal.returns-in-PanicInt-clause-step
returns-in-PanicInt-clause-step g c = nothing_read _ _ _ _ (search rules) (refl, refl) (λ items reads. let more : reads + 0 ≡ reads = omega arith in rw more (search rules))

pub returns-in-PanicBool-clause-step : goal.returns-in-PanicBool-clause-step
returns-in-PanicBool-clause-step g c = nothing_read _ _ _ _ (search rules) (refl, refl) (λ items reads. let more : reads + 0 ≡ reads = omega arith in rw more (search rules))

pub returns-in-Offset-clause-step : goal.returns-in-Offset-clause-step
returns-in-Offset-clause-step g c =
    nothing_read _ _ _ _ c.offset.ensures.read (refl, refl)
    (λ items reads. let more : reads + 0 ≡ reads = omega arith in rw (more, c.requires.instr, c.in-Offset.is) (told_nothing _ _ _ _ _ (c.offset.ensures.offsets (full_range c.args.stack_max) reads c.args.heap.now)))

pub returns-in-Index-clause-step : goal.returns-in-Index-clause-step
returns-in-Index-clause-step g c =
    nothing_read _ _ _ _ c.index.ensures.read (refl, refl)
    (λ items reads. let more : reads + 0 ≡ reads = omega arith in rw (more, c.requires.instr, c.in-Index.is) (told_nothing _ _ _ _ _ (c.index.ensures.indexes (full_range c.args.stack_max) reads c.args.heap.now)))

pub returns-in-SliceIndex-clause-step : goal.returns-in-SliceIndex-clause-step
returns-in-SliceIndex-clause-step g c =
    nothing_read _ _ _ _ c.slice_index.ensures.read (refl, refl)
    (λ items reads. let more : reads + 0 ≡ reads = omega arith in rw (more, c.requires.instr, c.in-SliceIndex.is) (told_nothing _ _ _ _ _ (c.slice_index.ensures.indexes (full_range c.args.stack_max) reads c.args.heap.now)))

pub returns-in-Slice-clause-step : goal.returns-in-Slice-clause-step
returns-in-Slice-clause-step g c =
    nothing_read _ _ _ _ c.slice_part.ensures.read (refl, refl)
    (λ items reads. let more : reads + 0 ≡ reads = omega arith in rw (more, c.requires.instr, c.in-Slice.is) (told_nothing _ _ _ _ _ (c.slice_part.ensures.slices (full_range c.args.stack_max) reads c.args.heap.now)))

pub returns-in-Alloc-clause-step : goal.returns-in-Alloc-clause-step
returns-in-Alloc-clause-step g c =
    nothing_read _ _ _ _ c.allocate.ensures.read (refl, refl)
    (λ items reads. let more : reads + 0 ≡ reads = omega arith in rw (more, c.requires.instr, c.in-Alloc.is) (told_nothing _ _ _ _ _ (c.allocate.ensures.allocates (full_range c.args.stack_max) reads)))

pub returns-in-Alloc-clause-memory : goal.returns-in-Alloc-clause-memory
returns-in-Alloc-clause-memory g c =
    λ refusal. let m = c.allocate.ensures.memory refusal in
    ((_, c.requires.instr ∙ ap (λ (i : Instr). Some i) c.in-Alloc.is, m.0), Took-nothing _, m.1, m.2)

pub returns-in-Alloc-clause-room : goal.returns-in-Alloc-clause-room
returns-in-Alloc-clause-room g c = λ refusal. alloc_room c.args.tables.now c.args.at _ _ _ (c.requires.instr ∙ ap (λ (i : Instr). Some i) c.in-Alloc.is)

pub returns-in-Make-clause-step : goal.returns-in-Make-clause-step
returns-in-Make-clause-step g c =
    nothing_read _ _ _ _ c.make.ensures.read (refl, refl)
    (λ items reads. let more : reads + 0 ≡ reads = omega arith in rw (more, c.requires.instr, c.in-Make.is) (told_nothing _ _ _ _ _ (c.make.ensures.makes (full_range c.args.stack_max) reads)))

pub returns-in-Make-clause-memory : goal.returns-in-Make-clause-memory
returns-in-Make-clause-memory g c =
    λ refusal. let m = c.make.ensures.memory refusal in
    ((_, c.requires.instr ∙ ap (λ (i : Instr). Some i) c.in-Make.is, (m.0, m.1)), Took-nothing _, m.2, m.3)

pub returns-in-Make-clause-room : goal.returns-in-Make-clause-room
returns-in-Make-clause-room g c = λ refusal. make_room c.args.tables.now c.args.at _ _ _ (c.requires.instr ∙ ap (λ (i : Instr). Some i) c.in-Make.is)

pub returns-in-Append-clause-step : goal.returns-in-Append-clause-step
returns-in-Append-clause-step g c =
    nothing_read _ _ _ _ c.append.ensures.read (refl, refl)
    (λ items reads. let more : reads + 0 ≡ reads = omega arith in rw (more, c.requires.instr, c.in-Append.is) (told_nothing _ _ _ _ _ (c.append.ensures.appends reads)))

pub returns-in-Append-clause-memory : goal.returns-in-Append-clause-memory
returns-in-Append-clause-memory g c =
    λ refusal. let m = c.append.ensures.memory refusal in
    ((_, c.requires.instr ∙ ap (λ (i : Instr). Some i) c.in-Append.is, m.0), Took-nothing _, m.1, m.2)

pub returns-in-Append-clause-room : goal.returns-in-Append-clause-room
returns-in-Append-clause-room g c = λ refusal. append_room c.args.tables.now c.args.at _ _ _ _ _ _ _ (c.requires.instr ∙ ap (λ (i : Instr). Some i) c.in-Append.is)

pub returns-in-Copy-clause-step : goal.returns-in-Copy-clause-step
returns-in-Copy-clause-step g c =
    nothing_read _ _ _ _ c.copy.ensures.read (refl, refl)
    (λ items reads. let more : reads + 0 ≡ reads = omega arith in rw (more, c.requires.instr, c.in-Copy.is) (told_nothing _ _ _ _ _ (c.copy.ensures.copies reads)))
