-- A type that has no number yet goes last.
use Rattle.std.proofs.Common.{◌≡◌, ◌∙◌, inr, ℕ, ap, ap₂, rules, sym, subst, refl, Option, Some, None, List, Bool, arith}
use Rattle.std.specs.Option.{unwrap_or}
use Rattle.indexmap.specs.IndexSet.{insert_key}
use Rattle.std.proofs.lemmas.Option.{slice_get_within}
use Rattle.std.proofs.lemmas.Result.{err_from_is_err_and}
use Rattle.typed.specs.declared.told.Told.{Told}
use Rattle.base.specs.declared.value_type.ValueType.{ValueType}
use Rattle.typed.specs.Tables.{Table, number_of, with_type}
use Rattle.typed.specs.Words.{refusal_by}
use Rattle.typed.specs.Formed.{refusal, Stands, IsFormed, KeepsTrees}
use Rattle.typed.specs.Memory.{table_of, IsCounted, words_by, least_by, struct_words}
use Rattle.typed.proofs.Numbers.{number_holds, equal_same}
use Rattle.typed.proofs.Counted.{least_kept}
use Rattle.typed.proofs.Entering.{held_fine, structs_fine, Entering, entering}
use Rattle.typed.proofs.table.TypeTable.enter.Goals as goal

pub returns-in-Some-clause-refused : goal.returns-in-Some-clause-refused
returns-in-Some-clause-refused c =
    let T = c.args.self.now in
    let t = c.args.value_type in
    held_fine T (subst IsFormed c.self.view_is c.self.invariant.0) c.in-Some.id.0 t (number_holds T t c.in-Some.id.0 (sym c.in-Some.ensures.number))

pub entry_words-requires : goal.entry_words-requires
entry_words-requires c =
    let i = c.self.inside in
    λ s. ap (λ told. refusal_by (unwrap_or (struct_words told s) 1)) c.deref-2.ensures.value ∙ structs_fine i.types.keys i.structs.items i.words.items c.self.invariant.0 c.self.invariant.1 s

-- what is kept says what is refused
module _ (words words' : List (Option ℕ)) (told told' : List (Option Told)) (types : List ValueType) (T : Table) (t : ValueType) where
  said : IsFormed (table_of types told) → IsCounted (table_of types told) words told → words' ≡ words → told' ≡ told → table_of types told ≡ T → refusal_by (least_by words' told' t) ≡ refusal T t
  said formed counted w s v =
      ap₂ (λ ws ts. refusal_by (least_by ws ts t)) w s ∙ ap refusal_by (least_kept types told words formed counted t) ∙ ap (λ U. refusal U t) v

pub returns-in_err-words-clause-refused : goal.returns-in_err-words-clause-refused
returns-in_err-words-clause-refused c =
    let i = c.self.inside in
    let p = err_from_is_err_and c.from_residual.result c.from_residual.ensures.1 in
    let e = said i.words.items c.deref.result.now i.structs.items c.deref-2.result.now i.types.keys c.args.self.now c.args.value_type c.self.invariant.0 c.self.invariant.1 c.deref.ensures.value c.deref-2.ensures.value c.self.view_is in
    rw (p.1, p.2) (inr (sym e ∙ c.in_err-words.ensures))

entered : (c : goal.After-unwrap) → Entering c.self.inside.types.keys c.insert.new.self.keys c.self.inside.structs.items c.push.new.self.items c.args.value_type
entered c =
    let i = c.self.inside in
    let t = c.args.value_type in
    let T = table_of i.types.keys i.structs.items in
    let stands : Stands T t = subst (λ U. Stands U t) (sym c.self.view_is) c.requires.stands in
    let fine : refusal T t ≡ None = sym (said i.words.items c.deref.result.now i.structs.items c.deref-2.result.now i.types.keys T t c.self.invariant.0 c.self.invariant.1 c.deref.ensures.value c.deref-2.ensures.value refl) ∙ c.in_ok-words.ensures.1 in
    let none : number_of T t ≡ None = ap (λ U. number_of U t) c.self.view_is ∙ sym c.in_default.ensures.number in
    let w : c.in_ok-words.words ≡ words_by i.words.items i.structs.items t = c.in_ok-words.ensures.0 ∙ ap₂ (λ ws ts. words_by ws ts t) c.deref.ensures.value c.deref-2.ensures.value in
    entering i.types.keys i.structs.items i.words.items t c.self.invariant.0 c.self.invariant.1 stands fine none (let h = c.in-Ok.ensures in let k = c.len.ensures.len in omega arith) c.insert.new.self.keys c.push.new.self.items c.in_ok-words.words (c.in_ok-insert.ensures.keys ∙ ap (λ (e : ValueType → ValueType → Bool). insert_key e i.types.keys t) equal_same) w (search rules)

pub invariant_of-self-2 : goal.invariant_of-self-2
invariant_of-self-2 c = let e = entered c in (e.formed, e.counted)

pub returns-clause-entered : goal.returns-clause-entered
returns-clause-entered c = (entered c).is ∙ ap (λ T. with_type T c.args.value_type) c.self.view_is

pub returns-clause-number : goal.returns-clause-number
returns-clause-number c = (entered c).number ∙ ap (λ n. Some n) (let h = c.in-Ok.ensures in let k = c.len.ensures.len in omega arith)

pub returns-clause-refused : goal.returns-clause-refused
returns-clause-refused c =
    let i = c.self.inside in
    sym (said i.words.items c.deref.result.now i.structs.items c.deref-2.result.now i.types.keys c.args.self.now c.args.value_type c.self.invariant.0 c.self.invariant.1 c.deref.ensures.value c.deref-2.ensures.value c.self.view_is) ∙ c.in_ok-words.ensures.1

pub returns-clause-kept : goal.returns-clause-kept
returns-clause-kept c = subst (λ T. KeepsTrees T (table_of c.insert.new.self.keys c.self.inside.structs.items)) c.self.view_is (entered c).trees

pub returns-clause-formed : goal.returns-clause-formed
returns-clause-formed c = (entered c).formed

pub returns-clause-held : goal.returns-clause-held
returns-clause-held c = number_holds (table_of c.insert.new.self.keys c.self.inside.structs.items) c.args.value_type c.in-Ok.number (returns-clause-number c)

pub returns-in-Some-clause-held : goal.returns-in-Some-clause-held
returns-in-Some-clause-held c = number_holds c.args.self.now c.args.value_type c.in-Some.id.0 (sym c.in-Some.ensures.number)

pub returns-clause-within : goal.returns-clause-within
returns-clause-within c = slice_get_within c.insert.new.self.keys c.in-Ok.number c.args.value_type (returns-clause-held c)
