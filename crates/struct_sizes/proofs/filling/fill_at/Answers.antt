use Rattle.std.proofs.Common.{◌≡◌, List, Option, false, sym, ap, ◌∙◌, subst, refl}
use Rattle.std.specs.Prelude.{slice_index_or, slice_get, Some}
use Rattle.std.proofs.lemmas.Grind.{common_steps}
use Rattle.std.proofs.lemmas.Option.{slice_get_read, slice_get-map}
use Rattle.std.proofs.Common.{arith, length, map}
use Rattle.std.specs.Option.{option_map}
use Rattle.struct_sizes.specs.declared.forms.PrefixedType.{PrefixedType}
use Rattle.struct_sizes.specs.declared.forms.DeclaredStruct.{DeclaredStruct}
use Rattle.struct_sizes.specs.Structs.{field_of, fields_of, structs_of}
use Rattle.struct_sizes.specs.Words.{sum_words}
use Rattle.struct_sizes.specs.Kept.{Agree}
use Rattle.struct_sizes.proofs.Steps.{fill_entered}
use Rattle.struct_sizes.proofs.filling.fill_at.Goals as goal

pub returns-then-not-unwrap_or : goal.returns-then-not-unwrap_or
returns-then-not-unwrap_or c = λ exact same.
    let ss = c.args.structs.now in
    let k = c.args.node in
    let s = c.index-structs-node.result in
    let table = c.args.table.now in
    let mark : c.unwrap_or.result ≡ slice_index_or c.args.on_cycles.now k false = grind (arith, common_steps) in
    let at : slice_get ss k ≡ Some s = slice_get_read ss (length ss) k s refl c.requires.declared c.index-structs-node.is in
    let words = subst (λ (fs : List (Option PrefixedType)). Agree c.sum_words-words.result (sum_words table (map field_of fs))) (c.deref.ensures.value ∙ ap (λ (r : DeclaredStruct). r.fields.items) (sym c.index-structs-node.is)) c.sum_words-words.ensures in
    let declared = slice_get-map fields_of ss k ∙ ap (option_map fields_of) at in
    fill_entered (structs_of ss) c.args.on_cycles.now table exact k (fields_of s) c.sum_words-words.result (sym mark ∙ c.if-not-unwrap_or.true) declared words same
