use Rattle.std.proofs.Common.{◌≡◌, ℕ, List, Option, Some, false, sym, ap, ◌∙◌, subst}
use Rattle.std.specs.Prelude.{Result}
use Rattle.struct_sizes.specs.declared.verdicts.LevelFault.{LevelFault}
use Rattle.struct_sizes.specs.declared.verdicts.Verdict.{Verdict}
use Rattle.struct_sizes.specs.declared.verdicts.TypeRefusal.{TypeRefusal}
use Rattle.struct_sizes.specs.Structs.{prefixed_of}
use Rattle.struct_sizes.specs.Words.{type_words}
use Rattle.struct_sizes.specs.Faults.{IsInnermost}
use Rattle.struct_sizes.specs.Kept.{Agree}
use Rattle.struct_sizes.specs.Verdicts.{IsTypeVerdict}
use Rattle.struct_sizes.specs.Filling.{is_base_refused}
use Rattle.struct_sizes.proofs.Typed.{base_refused, base_stands, innermost_agree, answers}
use Rattle.struct_sizes.proofs.typing.type_words.Goals as goal

pub returns-then-is_base_refused : goal.returns-then-is_base_refused
returns-then-is_base_refused c = λ ss table a.
    base_refused ss table c.args.found.now a c.args.t.now.base (ap (λ (l : List Verdict). is_base_refused l c.args.t.now.base) (sym c.deref.ensures.value) ∙ sym c.is_base_refused.ensures ∙ c.if-is_base_refused.true)

pub returns-in-Some : goal.returns-in-Some
returns-in-Some c = λ ss table a.
    let found = c.args.found.now in
    let t = prefixed_of c.args.t.now in
    let stands : is_base_refused found.verdicts.items t.base ≡ false = ap (λ (l : List Verdict). is_base_refused l t.base) (sym c.deref.ensures.value) ∙ sym c.is_base_refused.ensures ∙ c.if-is_base_refused.false in
    let inner = subst (λ (o : Option LevelFault). IsInnermost found.words.items t o) c.in-Some.is (subst (λ (l : List (Option ℕ)). IsInnermost l t c.level_fault.result) c.deref-2.ensures.value c.level_fault.ensures) in
    (base_stands ss table found a t.base stands, innermost_agree found.words.items table a.kept t (Some c.in-Some.fault) inner)

pub returns : goal.returns
returns c = λ ss table a.
    let found = c.args.found.now in
    let t = prefixed_of c.args.t.now in
    let stands : is_base_refused found.verdicts.items t.base ≡ false = ap (λ (l : List Verdict). is_base_refused l t.base) (sym c.deref.ensures.value) ∙ sym c.is_base_refused.ensures ∙ c.if-is_base_refused.false in
    let inner = subst (λ (o : Option LevelFault). IsInnermost found.words.items t o) c.in_default.is (subst (λ (l : List (Option ℕ)). IsInnermost l t c.level_fault.result) c.deref-2.ensures.value c.level_fault.ensures) in
    let agrees = subst (λ (l : List (Option ℕ)). Agree c.words_by.result (type_words l t)) c.deref-3.ensures.value c.words_by.ensures in
    subst (λ (r : Result ℕ TypeRefusal). IsTypeVerdict ss table t r) (sym c.ok_or.ensures.value) (answers ss table found a t stands c.words_by.result inner agrees)
