use Rattle.std.proofs.Common.{rules, ◌≡◌, ◌+◌, ◌∷◌, [], refl, ap, ◌∙◌, arith, drop}
use Rattle.std.specs.Prelude.{slice_set}
use Rattle.std.proofs.lemmas.List.{length-drop}
use Rattle.isa.specs.Bin.{word_of}
use Rattle.machine.specs.Machine.{item_words, put_words}
use Rattle.machine.proofs.Words.{put_two}
use Rattle.machine.proofs.steps.set_item.Goals as goal
use Rattle.machine.proofs.steps.set_item.Goals.{in-Some, in-None}

pub returns-clause-words : goal.returns-clause-words
returns-clause-words c =
    let given : c.match-item.word.0 ∷ (c.match-item.word.1 ∷ []) ≡ item_words c.args.item =
    elim c.match-item.branch [
      | in-Some w ↦ let word : w.cast_unsigned.result ≡ word_of w.in-Some.number = search rules in rw (w.in-Some.is, w.word-is) (ap (λ n. n ∷ (1 ∷ [])) word)
      | in-None w ↦ rw (w.in-None.is, w.word-is) refl
    ] in
    c.set_slot-2.ensures.words ∙ ap (λ l. slice_set l (c.args.a + 1) c.match-item.word.1) c.set_slot.ensures.words
    ∙ put_two (drop c.args.base c.args.words.now.items) c.args.a c.match-item.word.0 c.match-item.word.1 (omega (arith, c.requires, length-drop c.args.base c.args.words.now.items))
    ∙ ap (put_words (drop c.args.base c.args.words.now.items) c.args.a) given
