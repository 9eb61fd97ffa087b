use Rattle.std.proofs.Common.{◌≡◌, length}
use Rattle.value_flows.specs.View.{program_of}
use Rattle.param_tags.specs.Order.{IsFormed}
use Rattle.flow_batches.specs.Batches.{CallsAreThere}
use Rattle.flow_batches.specs.Standing.{IsStanding}
use Rattle.explain.specs.Lines.{AreNames}
use Rattle.explain.proofs.ready.is_ready.Goals as goal
use Rattle.explain.proofs.ready.is_ready.Goals.{then-is_analysed, else-is_analysed}

pub returns-then-is_named : goal.returns-then-is_named
returns-then-is_named c =
    let p = program_of c.args.program.now in
    let names = c.args.names.now in
    let ready : (IsFormed p × CallsAreThere p × IsStanding p) × ((length names ≡ length c.args.program.now.sites.items) × AreNames names) = elim c.if-is_analysed.branch [
      | then-is_analysed w ↦ (c.is_analysed.ensures.0 cc, w.is_named.ensures.0 cc)
      | else-is_analysed w ↦ absurd cc
    ] in
    (λ e. record { formed = ready.0.0; calls = ready.0.1; stands = ready.0.2; sites = ready.1.0; named = ready.1.1; counted = c.is_counted.ensures.0 e }, λ h. c.is_counted.ensures.1 h.counted)
