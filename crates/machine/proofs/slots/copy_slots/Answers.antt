use Rattle.std.proofs.Common.{◌≡◌, ◌-◌, ℕ, List, length, arith, drop}
use Rattle.std.proofs.lemmas.List.{length-drop}
use Rattle.machine.proofs.Words.{copied_one}
use Rattle.machine.proofs.slots.copy_slots.Goals as goal

pub returns-then-count-eq1-clause-words : goal.returns-then-count-eq1-clause-words
returns-then-count-eq1-clause-words c =
    let own : List ℕ = drop c.args.base c.args.words.now.items in
    let long : length own ≡ length c.args.words.now.items - c.args.base = length-drop c.args.base c.args.words.now.items in
    rw (c.set_slot.ensures.words, c.slot-word.ensures, c.if-count-eq1.true)
    (copied_one own c.args.from c.args.to (omega (arith, long, c.requires, c.if-count-eq1.true)) (omega (arith, long, c.requires, c.if-count-eq1.true)))
