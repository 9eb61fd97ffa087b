-- The words that are kept are those of the trees.
use Rattle.std.proofs.Common.{ap, ap₂, subst, ◌∙◌}
use Rattle.typed.specs.Trees.{words_of}
use Rattle.typed.specs.Words.{allowed}
use Rattle.typed.specs.Formed.{TreesAreMade}
use Rattle.typed.specs.Memory.{table_of, words_by}
use Rattle.typed.proofs.Nested.{made}
use Rattle.typed.proofs.Counted.{words_kept}
use Rattle.typed.proofs.table.TypeTable.words.Goals as goal

pub returns-clause-words : goal.returns-clause-words
returns-clause-words c =
    let i = c.self.inside in
    let t = c.args.value_type in
    c.words_by.ensures ∙ ap₂ (λ ws ts. words_by ws ts t) c.deref.ensures.value c.deref-2.ensures.value
    ∙ words_kept i.types.keys i.structs.items i.words.items c.self.invariant.0 c.self.invariant.1 t ∙ ap (λ T. allowed (words_of T t)) c.self.view_is

pub returns-clause-made : goal.returns-clause-made
returns-clause-made c =
    let i = c.self.inside in
    subst TreesAreMade c.self.view_is (made (table_of i.types.keys i.structs.items) c.self.invariant.0)
