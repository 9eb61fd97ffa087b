use Rattle.std.proofs.Common.{rules, ◌≡◌, [], Some, refl}
use Rattle.outside.specs.Took.{Took}
use Rattle.typed_syntax.specs.Syntax.{Program}
use Rattle.compile.specs.Accepted.{Accepted}
use Rattle.compile.specs.Compiled.{compiled_program}
use Rattle.gostk.specs.Refusal.{refusal_of}
use Rattle.gostk.specs.Rows.{IsTextOf, streams}
use Rattle.gostk.proofs.Runs.{of_text, input_of_text, no_refusal}
use Rattle.gostk.proofs.top.run_text.Goals as goal

pub returns-in-Some-clause-ran : goal.returns-in-Some-clause-ran
returns-in-Some-clause-ran g c =
    let is : refusal_of c.in-Err.fault ≡ Some c.in-Some.refusal = search rules in
    let none : (p : Program) → Accepted c.args.text.now p → ⊥ = λ p a. no_refusal c.in-Err.fault c.in-Some.refusal (c.in-Err.ensures.only p a) is in
    let took : Took (g.O.Sink.taken c.args.out.now) (g.O.Sink.taken c.args.out.now) [] = search rules in
    (refl, record { fault = c.in-Err.fault; cause = c.in-Err.ensures.refused; is = is }, none, record { out = took; input = refl; input_faults = refl })

pub returns : goal.returns
returns g c =
    let is : IsTextOf c.args.text.now (compiled_program c.in-Ok.compiled) = record { accepted = c.in-Ok.ensures.accepted; only = c.in-Ok.ensures.only } in
    record {
      ran = of_text c.args.file.now c.args.text.now c.args.limits.now c.run_compiled.result
          (streams (g.O.Sink.taken c.args.out.now) (g.O.Sink.faults c.args.out.now) (g.I.Source.left c.args.input.now) (g.I.Source.faults c.args.input.now))
          (streams (g.O.Sink.taken c.run_compiled.new.out) (g.O.Sink.faults c.run_compiled.new.out) (g.I.Source.left c.run_compiled.new.input) (g.I.Source.faults c.run_compiled.new.input))
          (compiled_program c.in-Ok.compiled) is c.run_compiled.ensures.ran;
      input = input_of_text (c.run_compiled.new.input ≡ c.args.input.now) c.args.text.now c.args.limits.now (g.I.Source.left c.args.input.now) (compiled_program c.in-Ok.compiled) is c.run_compiled.ensures.input;
    }
