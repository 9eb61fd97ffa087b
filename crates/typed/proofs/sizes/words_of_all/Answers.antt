-- Each type has the words that the types before it and the structs give it.
use Rattle.std.proofs.Common.{◌∙◌, get_or, ap, arith}
use Rattle.base.specs.declared.value_type.ValueType.TheVariants.{Int}
use Rattle.typed.specs.Memory.{words_by}
use Rattle.typed.proofs.OnePass.{one_more}
use Rattle.typed.proofs.sizes.words_of_all.Goals as goal

pub loop-value_type-preserved : goal.loop-value_type-preserved
loop-value_type-preserved c =
    let at = c.loop-value_type in
    let types = c.args.types.now in
    let structs = c.args.structs.now in
    let t = c.loop-value_type-test.true in
    c.in_ok-push.ensures.items
    ∙ one_more types structs c.requires.formed c.requires.words at.all.items at.value_type-index c.words_by-words.result (omega arith) at.invariant
    (c.words_by-words.ensures ∙ ap (λ ws. words_by ws structs (get_or types at.value_type-index Int)) c.deref.ensures.value)
