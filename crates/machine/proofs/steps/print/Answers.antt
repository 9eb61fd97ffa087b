use Rattle.std.proofs.Common.{refl}
use Rattle.machine.proofs.Reading.{piece_printed}
use Rattle.machine.proofs.steps.print.Goals as goal

pub returns-clause-step : goal.returns-clause-step
returns-clause-step g c =
    λ range reads heap. piece_printed _ c.args.at c.printed.result c.put_bytes-written.result _ _ refl range reads heap _ _ _ _ _ _ c.printed.ensures.ok c.printed.ensures.err
    c.put_bytes-written.ensures.puts c.put_bytes-written.ensures.cause
