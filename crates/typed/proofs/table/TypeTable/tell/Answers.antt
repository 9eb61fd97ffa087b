-- A struct is told, or refused for its cause.
use Rattle.std.proofs.Common.{◌≡◌, ◌≤◌, ◌∙◌, ℕ, Bool, true, false, inl, inr, Option, None, Some, is_some, not, List, map, sum_by, slice_set, refl, ap, ap₂, sym, subst, arith}
use Rattle.std.specs.List.{list_any}
use Rattle.std.specs.Option.{option_map}
use Rattle.typed.specs.Trees.{words_of}
use Rattle.std.proofs.lemmas.Result.{err_from_is_err_and}
use Rattle.base.specs.declared.ids.TypeId.{TypeId}
use Rattle.typed.specs.declared.told.Told.{Told}
use Rattle.base.specs.declared.value_type.ValueType.{ValueType}
use Rattle.typed.specs.Tables.{Table, with_fields}
use Rattle.typed.specs.Words.{IsInLimits, known, within_limit}
use Rattle.typed.specs.Formed.{IsFormed, KeepsTrees, sum_of, is_too_large}
use Rattle.typed.specs.Memory.{table_of, IsCounted}
use Rattle.typed.proofs.Limits.{within_is}
use Rattle.typed.proofs.Offsets.{known_limit, sum_known}
use Rattle.typed.proofs.Passing.{Telling, told_as, untold_by, too_many, none_at_all, by_others}
use Rattle.typed.proofs.Numberless.{kept_are}
use Rattle.typed.proofs.table.TypeTable.tell.Goals as goal

pub sum_words-requires : goal.sum_words-requires
sum_words-requires c =
    let i = c.self.inside in
    λ k. subst (λ ws. known ws k ≤ 65535) (sym c.deref.ensures.value) (known_limit i.types.keys i.structs.items i.words.items c.self.invariant.0 c.self.invariant.1 k)

summed : (types : List ValueType) (told : List (Option Told)) (words ws : List (Option ℕ)) (fields es : List TypeId) (T : Table)
    → IsFormed (table_of types told) → IsCounted (table_of types told) words told → ws ≡ words → es ≡ fields → table_of types told ≡ T → sum_by (λ e. known ws e.0) es ≡ sum_of T fields
summed types told words ws fields es T formed counted a b v =
    ap₂ (λ ws es. sum_by (λ e. known ws e.0) es) a b ∙ sum_known types told words formed counted fields ∙ ap (λ T. sum_of T fields) v

-- the words that were summed are those of the fields
in_limits : (w sum v : ℕ) → Some w ≡ within_limit sum → (w ≡ 0 → ⊥) → sum ≡ v → (w ≡ v) × IsInLimits w
in_limits w sum v p n e = let r = within_is sum w (sym p) in let a = r.0 in let b = r.1 in (a ∙ e, (omega arith, omega arith))

pub returns-in-None-clause-refused : goal.returns-in-None-clause-refused
returns-in-None-clause-refused c =
    let i = c.self.inside in
    let e = summed i.types.keys i.structs.items i.words.items c.deref.result.now c.args.fields.items c.deref-2.result.now c.args.self.now c.self.invariant.0 c.self.invariant.1 c.deref.ensures.value c.deref-2.ensures.value c.self.view_is in
    inr (too_many c.args.self.now c.args.id.0 c.args.fields.items (ap within_limit (sym e) ∙ sym c.in-None.ensures))

pub returns-in-Some-eq0-clause-refused : goal.returns-in-Some-eq0-clause-refused
returns-in-Some-eq0-clause-refused c =
    let i = c.self.inside in
    let e = summed i.types.keys i.structs.items i.words.items c.deref.result.now c.args.fields.items c.deref-2.result.now c.args.self.now c.self.invariant.0 c.self.invariant.1 c.deref.ensures.value c.deref-2.ensures.value c.self.view_is in
    let r = within_is (sum_by (λ e. known c.deref.result.now e.0) c.deref-2.result.now) c.in-Some-eq0.field-0 (sym c.in-Some-eq0.ensures) in
    inr (none_at_all c.args.self.now c.args.id.0 c.args.fields.items (sym e ∙ sym r.0 ∙ c.in-Some-eq0.field-0-test))

pub words_with-requires-clause-words : goal.words_with-requires-clause-words
words_with-requires-clause-words c =
    let i = c.self.inside in
    let e = summed i.types.keys i.structs.items i.words.items c.deref.result.now c.args.fields.items c.deref-2.result.now c.args.self.now c.self.invariant.0 c.self.invariant.1 c.deref.ensures.value c.deref-2.ensures.value c.self.view_is in
    (in_limits c.in-Some.words (sum_by (λ e. known c.deref.result.now e.0) c.deref-2.result.now) (sum_of c.args.self.now c.args.fields.items) c.in-Some.ensures c.in-Some.words-test.1 e).0

pub returns-in_err-self-inside-clause-refused : goal.returns-in_err-self-inside-clause-refused
returns-in_err-self-inside-clause-refused c =
    let i = c.self.inside in
    let e = summed i.types.keys i.structs.items i.words.items c.deref.result.now c.args.fields.items c.deref-2.result.now c.args.self.now c.self.invariant.0 c.self.invariant.1 c.deref.ensures.value c.deref-2.ensures.value c.self.view_is in
    let l = in_limits c.in-Some.words (sum_by (λ e. known c.deref.result.now e.0) c.deref-2.result.now) (sum_of c.args.self.now c.args.fields.items) c.in-Some.ensures c.in-Some.words-test.1 e in
    let p = err_from_is_err_and c.from_residual.result c.from_residual.ensures.1 in
    rw (p.1, p.2) (elim c.in_err-self-inside.ensures [
      | inl a ↦ inl a
      | inr a ↦ inr (by_others c.args.self.now c.args.id.0 c.args.fields.items true (subst IsInLimits l.0 l.1) a.1 ∙ ap (λ f. Some f) (sym a.0))
    ])

none_of : {A B : Type 0} (f : A → B) (o : Option A) {b : Bool} → is_some o ≡ not b → b ≡ true → option_map f o ≡ None
none_of f None e p = refl
none_of f (Some x) {b} e p = absurd cc (e ∙ ap not p)

-- no type has the struct in it, so the words that are kept stay
kept_at_once : (c : goal.Joined-index_mut) → (c.self.inside.words.items ≡ map (words_of (with_fields c.args.self.now c.args.id.0 c.args.fields.items)) c.args.self.now.types)
    × (list_any (is_too_large (with_fields c.args.self.now c.args.id.0 c.args.fields.items)) c.args.self.now.types ≡ false)
kept_at_once c =
    let i = c.self.inside in
    kept_are i.types.keys i.structs.items i.words.items c.self.invariant.0 c.self.invariant.1 c.args.self.now c.self.view_is c.args.id (untold_by c.args.self.now c.args.id.0 c.requires.known c.requires.untold) c.args.fields.items c.requires.fields
    (sym c.find.ensures.number ∙ none_of (λ id. id.0) c.find.result c.is_none.ensures c.if-is_none.true)

told_at_once : (c : goal.Joined-index_mut) → IsInLimits (sum_of c.args.self.now c.args.fields.items)
    × Telling c.self.inside.types.keys c.self.inside.structs.items (slice_set c.self.inside.structs.items c.args.id.0 (Some (record { fields = c.args.fields; words = c.in-Some.words }))) c.self.inside.words.items c.args.id.0 c.args.fields.items
told_at_once c =
    let i = c.self.inside in
    let e = summed i.types.keys i.structs.items i.words.items c.deref.result.now c.args.fields.items c.deref-2.result.now c.args.self.now c.self.invariant.0 c.self.invariant.1 c.deref.ensures.value c.deref-2.ensures.value c.self.view_is in
    let l = in_limits c.in-Some.words (sum_by (λ e. known c.deref.result.now e.0) c.deref-2.result.now) (sum_of c.args.self.now c.args.fields.items) c.in-Some.ensures c.in-Some.words-test.1 e in (
      subst IsInLimits l.0 l.1,
      told_as i.types.keys i.structs.items i.words.items i.words.items c.self.invariant.0 c.self.invariant.1 c.args.self.now c.self.view_is c.args.id.0 (untold_by c.args.self.now c.args.id.0 c.requires.known c.requires.untold) (record { fields = c.args.fields; words = c.in-Some.words }) c.requires.fields l.0 l.1 (kept_at_once c),
    )

pub invariant_of-self : goal.invariant_of-self
invariant_of-self c = let t = (told_at_once c).1 in (t.formed, t.counted)

pub returns-then-is_none-clause-told : goal.returns-then-is_none-clause-told
returns-then-is_none-clause-told c = (told_at_once c).1.is ∙ ap (λ T. with_fields T c.args.id.0 c.args.fields.items) c.self.view_is

pub returns-then-is_none-clause-refused : goal.returns-then-is_none-clause-refused
returns-then-is_none-clause-refused c = by_others c.args.self.now c.args.id.0 c.args.fields.items false (told_at_once c).0 (kept_at_once c).1

pub returns-then-is_none-clause-kept : goal.returns-then-is_none-clause-kept
returns-then-is_none-clause-kept c =
    let t = (told_at_once c).1 in
    let after = table_of c.self.inside.types.keys (slice_set c.self.inside.structs.items c.args.id.0 (Some (record { fields = c.args.fields; words = c.in-Some.words }))) in
    subst (λ T. KeepsTrees T after) c.self.view_is t.trees

pub returns-then-is_none-clause-formed : goal.returns-then-is_none-clause-formed
returns-then-is_none-clause-formed c = (told_at_once c).1.formed

told_by : (c : goal.Joined-index_mut-2) → IsInLimits (sum_of c.args.self.now c.args.fields.items)
    × Telling c.self.inside.types.keys c.self.inside.structs.items (slice_set c.self.inside.structs.items c.args.id.0 (Some (record { fields = c.args.fields; words = c.in-Some.words }))) c.in_ok-self-inside.field-0.items c.args.id.0 c.args.fields.items
told_by c =
    let i = c.self.inside in
    let e = summed i.types.keys i.structs.items i.words.items c.deref.result.now c.args.fields.items c.deref-2.result.now c.args.self.now c.self.invariant.0 c.self.invariant.1 c.deref.ensures.value c.deref-2.ensures.value c.self.view_is in
    let l = in_limits c.in-Some.words (sum_by (λ e. known c.deref.result.now e.0) c.deref-2.result.now) (sum_of c.args.self.now c.args.fields.items) c.in-Some.ensures c.in-Some.words-test.1 e in (
      subst IsInLimits l.0 l.1,
      told_as i.types.keys i.structs.items i.words.items c.in_ok-self-inside.field-0.items c.self.invariant.0 c.self.invariant.1 c.args.self.now c.self.view_is c.args.id.0 (untold_by c.args.self.now c.args.id.0 c.requires.known c.requires.untold) (record { fields = c.args.fields; words = c.in-Some.words }) c.requires.fields l.0 l.1 c.in_ok-self-inside.ensures,
    )

pub invariant_of-self-2 : goal.invariant_of-self-2
invariant_of-self-2 c = let t = (told_by c).1 in (t.formed, t.counted)

pub returns-clause-told : goal.returns-clause-told
returns-clause-told c = (told_by c).1.is ∙ ap (λ T. with_fields T c.args.id.0 c.args.fields.items) c.self.view_is

pub returns-clause-refused : goal.returns-clause-refused
returns-clause-refused c = by_others c.args.self.now c.args.id.0 c.args.fields.items false (told_by c).0 c.in_ok-self-inside.ensures.1

pub returns-clause-kept : goal.returns-clause-kept
returns-clause-kept c =
    let t = (told_by c).1 in
    let after = table_of c.self.inside.types.keys (slice_set c.self.inside.structs.items c.args.id.0 (Some (record { fields = c.args.fields; words = c.in-Some.words }))) in
    subst (λ T. KeepsTrees T after) c.self.view_is t.trees

pub returns-clause-formed : goal.returns-clause-formed
returns-clause-formed c = (told_by c).1.formed
