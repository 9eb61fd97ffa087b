use Rattle.std.proofs.Common.{◌-◌, refl, ap, ◌∙◌}
use Rattle.std.specs.Prelude.{slice_set}
use Rattle.machine.proofs.Words.{pushed}
use Rattle.machine.proofs.links.push.Goals as goal

pub returns-clause-words : goal.returns-clause-words
returns-clause-words c =
    c.set_slot-2.ensures.words ∙ ap (λ l. slice_set l (c.args.frame - 1) c.args.ret) c.set_slot.ensures.words
    ∙ ap (λ l. slice_set (slice_set l (c.args.frame - 2) c.args.link) (c.args.frame - 1) c.args.ret) c.zero_slots.ensures.words
    ∙ pushed c.args.words.now.items c.args.base c.args.frame (c.args.base - c.args.frame) c.args.link c.args.ret c.requires.room.0 c.requires.room.1 c.requires.room.2 refl
