-- The words that are kept of the structs are theirs.
use Rattle.std.proofs.Common.{◌≡◌, ◌∙◌, map, slice_get, ap, ap₂, sym, subst}
use Rattle.typed.specs.Tables.{with_all, lists_of}
use Rattle.typed.specs.Formed.{IsFormed, AreStructWords}
use Rattle.typed.specs.Memory.{fields_in, table_of}
use Rattle.typed.proofs.OnePass.{words_told}
use Rattle.typed.proofs.table.TypeTable.tell_all.Goals as goal

pub words_of_all-requires-clause-words : goal.words_of_all-requires-clause-words
words_of_all-requires-clause-words c =
    let types = c.as_slice.result.now in
    let told = c.deref.result.now in
    let words = c.args.words.now in
    let is : table_of types told ≡ with_all c.args.self (lists_of c.args.fields.items) =
    ap₂ (λ ts ss. record { types = ts; structs = ss }) (c.as_slice.ensures.keys ∙ ap (λ T. T.types) c.self.view_is) (ap (map fields_in) c.deref.ensures.value ∙ c.in_ok-structs.ensures.fields) in
    words_told types told words (subst IsFormed (sym is) c.requires.formed) (subst (λ T. AreStructWords T words) (sym is) c.requires.words)
    (λ s t h. c.in_ok-structs.ensures.words s t (ap (λ l. slice_get l s) (sym c.deref.ensures.value) ∙ h))
