use Rattle.std.proofs.Common.{◌≡◌, ◌∙◌, ap, subst, ℕ, List, Ok, Err}
use Rattle.code_runs.specs.declared.running.RunFault.TheVariants as Fault
use Rattle.compile.specs.Compiled.{compiled_program}
use Rattle.gostk.specs.Rows.{Tells, streams}
use Rattle.gostk.proofs.Runs.{told, ended, panicked, met_limit, filled_heap, went_on, unanswered, failed, refused, asked_or_untouched}
use Rattle.gostk.proofs.top.run_compiled.Goals as goal

pub returns-in-Ok : goal.returns-in-Ok
returns-in-Ok g c =
    let compiled = c.args.compiled.now in
    let before = streams (g.O.Sink.taken c.args.out.now) (g.O.Sink.faults c.args.out.now) (g.I.Source.left c.args.input.now) (g.I.Source.faults c.args.input.now) in
    let after = streams (g.O.Sink.taken c.run.new.out) (g.O.Sink.faults c.run.new.out) (g.I.Source.left c.run.new.input) (g.I.Source.faults c.run.new.input) in
    let did = told (compiled_program compiled) c.args.limits.now c.stack_max-stack_max.result c.heap_max-heap_max.result c.steps-steps.result (Ok c.in-Ok.status) (c.run.new.input ≡ c.args.input.now) before after
    c.stack_max-stack_max.ensures.is c.heap_max-heap_max.ensures.is c.steps-steps.ensures c.in-Ok.ensures.runs in
    record {
      ran = ended (compiled_program compiled) c.args.limits.now (c.run.new.input ≡ c.args.input.now) before after c.in-Ok.status did;
      input = asked_or_untouched (compiled_program compiled) c.args.limits.now (c.run.new.input ≡ c.args.input.now) before after (Ok c.in-Ok.status) did;
    }

pub returns-in-Err-Panic : goal.returns-in-Err-Panic
returns-in-Err-Panic g c =
    let compiled = c.args.compiled.now in
    let before = streams (g.O.Sink.taken c.args.out.now) (g.O.Sink.faults c.args.out.now) (g.I.Source.left c.args.input.now) (g.I.Source.faults c.args.input.now) in
    let after = streams (g.O.Sink.taken c.run.new.out) (g.O.Sink.faults c.run.new.out) (g.I.Source.left c.run.new.input) (g.I.Source.faults c.run.new.input) in
    let runs = rw c.in-Err-Panic.field-0-is at c.in-Err-Panic.ensures.runs in
    let did = told (compiled_program compiled) c.args.limits.now c.stack_max-stack_max.result c.heap_max-heap_max.result c.steps-steps.result (Err (Fault.Panic c.in-Err-Panic.panic)) (c.run.new.input ≡ c.args.input.now) before after
    c.stack_max-stack_max.ensures.is c.heap_max-heap_max.ensures.is c.steps-steps.ensures runs in
    let strings = c.strings.ensures ∙ c.requires.strings in
    let tells = subst (λ (texts : List (List ℕ)). Tells c.in-Err-Panic.panic texts c.panicked.result) strings c.panicked.ensures in
    record {
      ran = panicked (compiled_program compiled) c.args.limits.now (c.run.new.input ≡ c.args.input.now) before after c.in-Err-Panic.panic c.panicked.result did tells;
      input = asked_or_untouched (compiled_program compiled) c.args.limits.now (c.run.new.input ≡ c.args.input.now) before after (Err (Fault.Panic c.in-Err-Panic.panic)) did;
    }

pub returns-in-Err-Steps : goal.returns-in-Err-Steps
returns-in-Err-Steps g c =
    let compiled = c.args.compiled.now in
    let before = streams (g.O.Sink.taken c.args.out.now) (g.O.Sink.faults c.args.out.now) (g.I.Source.left c.args.input.now) (g.I.Source.faults c.args.input.now) in
    let after = streams (g.O.Sink.taken c.run.new.out) (g.O.Sink.faults c.run.new.out) (g.I.Source.left c.run.new.input) (g.I.Source.faults c.run.new.input) in
    let runs = rw c.in-Err-Steps.field-0-is at c.in-Err-Steps.ensures.runs in
    let did = told (compiled_program compiled) c.args.limits.now c.stack_max-stack_max.result c.heap_max-heap_max.result c.steps-steps.result (Err Fault.Steps) (c.run.new.input ≡ c.args.input.now) before after
    c.stack_max-stack_max.ensures.is c.heap_max-heap_max.ensures.is c.steps-steps.ensures runs in
    record {
      ran = went_on (compiled_program compiled) c.args.limits.now (c.run.new.input ≡ c.args.input.now) before after c.steps-steps.result c.steps-steps.ensures did;
      input = asked_or_untouched (compiled_program compiled) c.args.limits.now (c.run.new.input ≡ c.args.input.now) before after (Err Fault.Steps) did;
    }

pub returns-in-Err-StackLimit : goal.returns-in-Err-StackLimit
returns-in-Err-StackLimit g c =
    let compiled = c.args.compiled.now in
    let before = streams (g.O.Sink.taken c.args.out.now) (g.O.Sink.faults c.args.out.now) (g.I.Source.left c.args.input.now) (g.I.Source.faults c.args.input.now) in
    let after = streams (g.O.Sink.taken c.run.new.out) (g.O.Sink.faults c.run.new.out) (g.I.Source.left c.run.new.input) (g.I.Source.faults c.run.new.input) in
    let runs = rw c.in-Err-StackLimit.field-0-is at c.in-Err-StackLimit.ensures.runs in
    let did = told (compiled_program compiled) c.args.limits.now c.stack_max-stack_max.result c.heap_max-heap_max.result c.steps-steps.result (Err (Fault.StackLimit c.in-Err-StackLimit.used c.in-Err-StackLimit.asked c.in-Err-StackLimit.limit)) (c.run.new.input ≡ c.args.input.now) before after
    c.stack_max-stack_max.ensures.is c.heap_max-heap_max.ensures.is c.steps-steps.ensures runs in
    record {
      ran = met_limit (compiled_program compiled) c.args.limits.now (c.run.new.input ≡ c.args.input.now) before after c.in-Err-StackLimit.used c.in-Err-StackLimit.asked c.in-Err-StackLimit.limit did;
      input = asked_or_untouched (compiled_program compiled) c.args.limits.now (c.run.new.input ≡ c.args.input.now) before after (Err (Fault.StackLimit c.in-Err-StackLimit.used c.in-Err-StackLimit.asked c.in-Err-StackLimit.limit)) did;
    }

pub returns-in-Err-HeapLimit : goal.returns-in-Err-HeapLimit
returns-in-Err-HeapLimit g c =
    let compiled = c.args.compiled.now in
    let before = streams (g.O.Sink.taken c.args.out.now) (g.O.Sink.faults c.args.out.now) (g.I.Source.left c.args.input.now) (g.I.Source.faults c.args.input.now) in
    let after = streams (g.O.Sink.taken c.run.new.out) (g.O.Sink.faults c.run.new.out) (g.I.Source.left c.run.new.input) (g.I.Source.faults c.run.new.input) in
    let runs = rw c.in-Err-HeapLimit.field-0-is at c.in-Err-HeapLimit.ensures.runs in
    let did = told (compiled_program compiled) c.args.limits.now c.stack_max-stack_max.result c.heap_max-heap_max.result c.steps-steps.result (Err (Fault.HeapLimit c.in-Err-HeapLimit.used c.in-Err-HeapLimit.asked c.in-Err-HeapLimit.limit)) (c.run.new.input ≡ c.args.input.now) before after
    c.stack_max-stack_max.ensures.is c.heap_max-heap_max.ensures.is c.steps-steps.ensures runs in
    record {
      ran = filled_heap (compiled_program compiled) c.args.limits.now (c.run.new.input ≡ c.args.input.now) before after c.in-Err-HeapLimit.used c.in-Err-HeapLimit.asked c.in-Err-HeapLimit.limit did;
      input = asked_or_untouched (compiled_program compiled) c.args.limits.now (c.run.new.input ≡ c.args.input.now) before after (Err (Fault.HeapLimit c.in-Err-HeapLimit.used c.in-Err-HeapLimit.asked c.in-Err-HeapLimit.limit)) did;
    }

pub returns-in-Err-ReadFault : goal.returns-in-Err-ReadFault
returns-in-Err-ReadFault g c =
    let compiled = c.args.compiled.now in
    let before = streams (g.O.Sink.taken c.args.out.now) (g.O.Sink.faults c.args.out.now) (g.I.Source.left c.args.input.now) (g.I.Source.faults c.args.input.now) in
    let after = streams (g.O.Sink.taken c.run.new.out) (g.O.Sink.faults c.run.new.out) (g.I.Source.left c.run.new.input) (g.I.Source.faults c.run.new.input) in
    let runs = rw c.in-Err-ReadFault.field-0-is at c.in-Err-ReadFault.ensures.runs in
    let did = told (compiled_program compiled) c.args.limits.now c.stack_max-stack_max.result c.heap_max-heap_max.result c.steps-steps.result (Err Fault.ReadFault) (c.run.new.input ≡ c.args.input.now) before after
    c.stack_max-stack_max.ensures.is c.heap_max-heap_max.ensures.is c.steps-steps.ensures runs in
    record {
      ran = unanswered (compiled_program compiled) c.args.limits.now (c.run.new.input ≡ c.args.input.now) before after (c.in-Err-ReadFault.ensures.read_fault (ap Err c.in-Err-ReadFault.field-0-is)) did;
      input = asked_or_untouched (compiled_program compiled) c.args.limits.now (c.run.new.input ≡ c.args.input.now) before after (Err Fault.ReadFault) did;
    }

pub returns-in-Err-WriteFault : goal.returns-in-Err-WriteFault
returns-in-Err-WriteFault g c =
    let compiled = c.args.compiled.now in
    let before = streams (g.O.Sink.taken c.args.out.now) (g.O.Sink.faults c.args.out.now) (g.I.Source.left c.args.input.now) (g.I.Source.faults c.args.input.now) in
    let after = streams (g.O.Sink.taken c.run.new.out) (g.O.Sink.faults c.run.new.out) (g.I.Source.left c.run.new.input) (g.I.Source.faults c.run.new.input) in
    let runs = rw c.in-Err-WriteFault.field-0-is at c.in-Err-WriteFault.ensures.runs in
    let did = told (compiled_program compiled) c.args.limits.now c.stack_max-stack_max.result c.heap_max-heap_max.result c.steps-steps.result (Err Fault.WriteFault) (c.run.new.input ≡ c.args.input.now) before after
    c.stack_max-stack_max.ensures.is c.heap_max-heap_max.ensures.is c.steps-steps.ensures runs in
    record {
      ran = failed (compiled_program compiled) c.args.limits.now (c.run.new.input ≡ c.args.input.now) before after did;
      input = asked_or_untouched (compiled_program compiled) c.args.limits.now (c.run.new.input ≡ c.args.input.now) before after (Err Fault.WriteFault) did;
    }

pub returns-in-Err-NoMemory : goal.returns-in-Err-NoMemory
returns-in-Err-NoMemory g c =
    let compiled = c.args.compiled.now in
    let before = streams (g.O.Sink.taken c.args.out.now) (g.O.Sink.faults c.args.out.now) (g.I.Source.left c.args.input.now) (g.I.Source.faults c.args.input.now) in
    let after = streams (g.O.Sink.taken c.run.new.out) (g.O.Sink.faults c.run.new.out) (g.I.Source.left c.run.new.input) (g.I.Source.faults c.run.new.input) in
    let runs = rw c.in-Err-NoMemory.field-0-is at c.in-Err-NoMemory.ensures.runs in
    let did = told (compiled_program compiled) c.args.limits.now c.stack_max-stack_max.result c.heap_max-heap_max.result c.steps-steps.result (Err Fault.NoMemory) (c.run.new.input ≡ c.args.input.now) before after
    c.stack_max-stack_max.ensures.is c.heap_max-heap_max.ensures.is c.steps-steps.ensures runs in
    record {
      ran = refused (compiled_program compiled) c.args.limits.now (c.run.new.input ≡ c.args.input.now) before after did;
      input = asked_or_untouched (compiled_program compiled) c.args.limits.now (c.run.new.input ≡ c.args.input.now) before after (Err Fault.NoMemory) did;
    }
