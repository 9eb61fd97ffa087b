use Rattle.std.proofs.Common.{◌+◌, refl}
use Rattle.machine.specs.Machine.{reads_item}
use Rattle.machine.specs.Answers.{state_of}
use Rattle.machine.proofs.Reading.{one_read, read_failed, asked_once, asked_in_vain, item_read}
use Rattle.machine.proofs.steps.read_int.Goals as goal

pub returns-in-Ok-clause-step : goal.returns-in-Ok-clause-step
returns-in-Ok-clause-step g c =
    let came = c.in-Ok.ensures.item in
    rw c.on.ensures
    (one_read came.0 _ _ _ _ came.1 came.3
    (λ items reads is range heap taken faults. asked_once _ _ taken faults
    (item_read (state_of range c.args.words.now.items c.args.at reads heap) (state_of range c.read_item.new.words.items (record { pc = c.args.at.pc + 1; base = c.args.at.base }) (reads + 1) heap) c.args.a (items reads) came.0 is refl came.2 refl refl refl)))

pub returns-in-Err-clause-step : goal.returns-in-Err-clause-step
returns-in-Err-clause-step g c =
    rw c.ended.ensures
    (read_failed _ _ _ _ c.in-Err.ensures.lost
    (λ items reads range heap taken faults. asked_in_vain (reads_item (state_of range c.args.words.now.items c.args.at reads heap) c.args.a (items reads)) (state_of range c.read_item.new.words.items c.args.at (reads + 0) heap) taken faults refl))
