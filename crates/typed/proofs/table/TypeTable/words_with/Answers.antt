-- Each type has the words that the types before it give it.
use Rattle.std.proofs.Common.{◌≡◌, ◌∙◌, ℕ, inr, Option, List, get_or, ap, ap₂, sym, subst, length, ◌+◌, arith}
use Rattle.std.proofs.lemmas.Result.{err_from_is_err_and}
use Rattle.typed.specs.declared.told.Told.{Told}
use Rattle.base.specs.declared.value_type.ValueType.{ValueType}
use Rattle.base.specs.declared.value_type.ValueType.TheVariants.{Int}
use Rattle.typed.specs.Words.{is_over}
use Rattle.typed.specs.Memory.{struct_words, told_by}
use Rattle.typed.proofs.Passing.{Passed, untold_by, structs_not_over, passes, stops}
use Rattle.typed.proofs.table.TypeTable.words_with.Goals as goal

pub words_when_told-requires-clause-structs : goal.words_when_told-requires-clause-structs
words_when_told-requires-clause-structs c =
    let i = c.self.inside in
    λ s. ap (λ told. is_over (struct_words told s)) c.deref-in-loop-value_type.ensures.value ∙ structs_not_over i.types.keys i.structs.items i.words.items c.self.invariant.0 c.self.invariant.1 s

same_words : (bs before : List (Option ℕ)) (ts told : List (Option Told)) (us types : List ValueType) (s sum i : ℕ) → bs ≡ before → ts ≡ told → us ≡ types → told_by bs ts s sum (get_or us i Int) ≡ told_by before told s sum (get_or types i Int)
same_words bs before ts told us types s sum i a b c =
    ap₂ (λ bs ts. told_by bs ts s sum (get_or us i Int)) a b ∙ ap (λ us. told_by before told s sum (get_or us i Int)) c

pub returns-in_err-words : goal.returns-in_err-words
returns-in_err-words c =
    let i = c.self.inside in
    let at = c.loop-value_type in
    let told = c.args.told.now in
    let p = err_from_is_err_and c.from_residual-in_err-words.result c.from_residual-in_err-words.ensures.1 in
    let e = same_words c.deref.result.now at.all.items c.deref-in-loop-value_type.result.now i.structs.items c.as_slice-value_type-items.result.now i.types.keys c.args.id.0 told.words at.value_type-index c.deref.ensures.value c.deref-in-loop-value_type.ensures.value c.as_slice-value_type-items.ensures.keys in
    let l = ap length c.as_slice-value_type-items.ensures.keys in
    let t = c.loop-value_type-test.true in
    rw (p.1, p.2) (inr (
      c.in_err-words.ensures.0,
      stops i.types.keys i.structs.items i.words.items c.self.invariant.0 c.self.invariant.1 c.args.self.now c.self.view_is c.args.id.0 (untold_by c.args.self.now c.args.id.0 c.requires.known c.requires.untold) told.fields.items c.requires.fields told.words c.requires.words at.all.items at.value_type-index (omega arith) at.invariant (ap is_over (sym e) ∙ c.in_err-words.ensures.1),
    ))

pub loop-value_type-preserved : goal.loop-value_type-preserved
loop-value_type-preserved c =
    let i = c.self.inside in
    let at = c.loop-value_type in
    let told = c.args.told.now in
    let e = same_words c.deref.result.now at.all.items c.deref-in-loop-value_type.result.now i.structs.items c.as_slice-value_type-items.result.now i.types.keys c.args.id.0 told.words at.value_type-index c.deref.ensures.value c.deref-in-loop-value_type.ensures.value c.as_slice-value_type-items.ensures.keys in
    let l = ap length c.as_slice-value_type-items.ensures.keys in
    let t = c.loop-value_type-test.true in
    subst (λ ws. Passed c.args.self.now c.args.id.0 told.fields.items ws (at.value_type-index + 1)) (sym c.in_ok-push.ensures.items)
    (passes i.types.keys i.structs.items i.words.items c.self.invariant.0 c.self.invariant.1 c.args.self.now c.self.view_is c.args.id.0 (untold_by c.args.self.now c.args.id.0 c.requires.known c.requires.untold) told.fields.items c.requires.fields told.words c.requires.words at.all.items at.value_type-index c.in_ok-words.words (omega arith) at.invariant (c.in_ok-words.ensures.0 ∙ e) (ap is_over (sym e) ∙ c.in_ok-words.ensures.1))
