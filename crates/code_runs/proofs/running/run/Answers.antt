use Rattle.std.proofs.Common.{rules, ◌≡◌, inl, inr, Err, length, replicate, true, false, refl, sym, ap, ◌∙◌, subst, arith}
use Rattle.std.specs.Prelude.{nat_le}
use Rattle.std.proofs.lemmas.Bool.{le-leb, lt-leb}
use Rattle.machine.specs.Inside.{Inside}
use Rattle.heap_bump.specs.Words.{Words}
use Rattle.typed.specs.View.{program_of}
use Rattle.code_runs.specs.declared.running.RunFault.TheVariants as Fault
use Rattle.code_runs.proofs.Composed.{simulates, full, answers, tame, refused, unready, read_by, nothing_says, read_nothing}
use Rattle.code_runs.proofs.running.run.Goals as goal

pub run-next-requires-clause-inside : goal.run-next-requires-clause-inside
run-next-requires-clause-inside g c =
    let fn = c.entry-first.result in
    let long : length c.in_ok-words.words.items ≡ fn.frame = search rules in
    subst (λ n. Inside c.args.code.now n fn.start 0) (sym long) c.entry-first.ensures.inside

pub returns-in_err-heap-clause-runs : goal.returns-in_err-heap-clause-runs
returns-in_err-heap-clause-runs g c =
    let p = program_of c.args.program.now in
    let same : c.from_residual.result ≡ Err c.in_err-heap.field-0.0 = search rules in
    elim c.in_err-heap.ensures.fault [
      | inl none ↦ rw (same ∙ ap Err none) (read_nothing _ _ _ _ refl (λ items numbers.
          unready p c.args.code.now (simulates p c.args.code.now c.requires.form c.requires.code) items numbers c.args.stack_max c.args.heap_max c.args.steps c.requires.stack c.requires.heap _ 0))
      | inr more ↦
          (let (used, asked, is, passes) = more in
          rw (same ∙ ap Err is) (read_nothing _ _ _ _ refl (λ items numbers.
          full p c.args.code.now (simulates p c.args.code.now c.requires.form c.requires.code) items numbers c.args.stack_max c.args.heap_max c.args.steps c.requires.stack c.requires.heap _ 0 used asked passes)))
    ]

pub returns-then-asked-stack_max-clause-runs : goal.returns-then-asked-stack_max-clause-runs
returns-then-asked-stack_max-clause-runs g c =
    let fn = c.entry-first.result in let p = program_of c.args.program.now in
    let passes : nat_le fn.frame c.args.stack_max ≡ false = lt-leb fn.frame c.args.stack_max (omega (arith, c.if-asked-stack_max.true)) in
    read_nothing _ _ _ _ refl (λ items numbers.
    refused p c.args.code.now (simulates p c.args.code.now c.requires.form c.requires.code) items numbers c.args.stack_max c.args.heap_max c.args.steps c.requires.stack c.requires.heap _ c.in_ok-heap.ensures.words fn c.entry-first.ensures.is _ 0 passes)

pub returns-in_err-words-clause-runs : goal.returns-in_err-words-clause-runs
returns-in_err-words-clause-runs g c =
    let none : c.from_residual-in_err-words.result ≡ Err Fault.NoMemory = search rules in
    rw none (read_nothing _ _ _ _ refl (λ items numbers.
    unready (program_of c.args.program.now) c.args.code.now (simulates (program_of c.args.program.now) c.args.code.now c.requires.form c.requires.code) items numbers c.args.stack_max c.args.heap_max c.args.steps c.requires.stack c.requires.heap _ 0))

pub returns-clause-runs : goal.returns-clause-runs
returns-clause-runs g c =
    let fn = c.entry-first.result in let p = program_of c.args.program.now in
    let zeros : c.in_ok-words.words.items ≡ replicate fn.frame 0 = search rules in
    let fits : nat_le fn.frame c.args.stack_max ≡ true = le-leb fn.frame c.args.stack_max (omega (arith, c.if-asked-stack_max.false)) in
    let heap = c.in_ok-heap.heap in
    let begins = ap (λ n. let h : Words = record { words = heap.words; max = n } in h) c.in_ok-heap.ensures.max in
    read_by _ _ _ _ _ _ _ _ _ c.answer.ensures c.new-reader.ensures c.run-next.ensures.runs (λ same. same.1) (λ items answered numbers did.
    answers p c.args.code.now (simulates p c.args.code.now c.requires.form c.requires.code) items numbers c.args.stack_max c.args.heap_max c.args.steps c.requires.stack c.requires.heap _ c.in_ok-heap.ensures.words fn c.entry-first.ensures.is _ _ _ _ _ _ _ _ _ _ fits zeros begins c.answer.ensures did.0)

-- no items could begin with the answers that came
pub answer-requires-clause-answered : goal.answer-requires-clause-answered
answer-requires-clause-answered g c none =
    let fn = c.entry-first.result in let p = program_of c.args.program.now in
    let zeros : c.in_ok-words.words.items ≡ replicate fn.frame 0 = search rules in
    let fits : nat_le fn.frame c.args.stack_max ≡ true = le-leb fn.frame c.args.stack_max (omega (arith, c.if-asked-stack_max.false)) in
    let heap = c.in_ok-heap.heap in
    let begins = ap (λ n. let h : Words = record { words = heap.words; max = n } in h) c.in_ok-heap.ensures.max in
    nothing_says _ _ _ _ _ c.run-next.ensures.runs (λ items answered numbers did.
    tame p c.args.code.now (simulates p c.args.code.now c.requires.form c.requires.code) items numbers c.args.stack_max c.args.heap_max c.args.steps c.requires.stack c.requires.heap _ c.in_ok-heap.ensures.words fn c.entry-first.ensures.is _ _ _ _ _ _ _ _ _ fits zeros begins did.0 none)
