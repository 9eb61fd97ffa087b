use Rattle.machine.proofs.Reading.{piece_printed, truth_is}
use Rattle.machine.proofs.steps.print_bool.Goals as goal

pub returns-clause-step : goal.returns-clause-step
returns-clause-step g c =
    λ range reads heap. piece_printed _ c.args.at c.printed.result c.put_bool-written.result _ _ (rw c.slot.ensures (truth_is _)) range reads heap _ _ _ _ _ _ c.printed.ensures.ok c.printed.ensures.err
    c.put_bool-written.ensures.puts c.put_bool-written.ensures.cause
