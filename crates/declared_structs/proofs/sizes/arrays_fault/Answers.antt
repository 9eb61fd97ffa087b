use Rattle.std.proofs.Common.{◌≡◌, [], ◌∷◌, ◌+◌, List, drop, subst, arith}
use Rattle.syntax.specs.declared.declaration.Field.{Field}
use Rattle.syntax.specs.Expressions.{ex_of}
use Rattle.syntax.specs.Declarations.{fields_of}
use Rattle.type_faults.proofs.Leasts.{Kept, kept_start, kept_more, kept_end}
use Rattle.type_faults.proofs.Lists.{from_one, nothing_left}
use Rattle.names.specs.Scope.{scope_of}
use Rattle.declared_structs.specs.Forms.{prefixed}
use Rattle.declared_structs.specs.Faults.{WhereNamed, LevelFails, LevelsFail}
use Rattle.declared_structs.proofs.sizes.arrays_fault.Goals as goal

pub loop-field-init : goal.loop-field-init
loop-field-init c = kept_start _

pub loop-field-preserved : goal.loop-field-preserved
loop-field-preserved c =
    let text = c.args.text.now in
    let s = scope_of c.args.scope.now in
    let words = c.args.words.now in
    let xs = c.args.fields.now in
    let k = c.loop-field.field-index in
    let x : Field = c.field-item.result in
    let all = LevelsFail text s words (fields_of xs) in
    let rest = LevelsFail text s words (fields_of (drop (k + 1) xs)) in
    let here : drop k xs ≡ x ∷ drop (k + 1) xs = from_one xs k x c.loop-field-test.true c.field-item.is in
    let kept = subst (λ (l : List Field). Kept all (LevelsFail text s words (fields_of l)) c.loop-field.fault) here c.loop-field.invariant in
    let own = WhereNamed x.names.items (LevelFails words (ex_of x.type_expr) (prefixed text s (ex_of x.type_expr))) in
    rw (c.lesser-fault.ensures) (kept_more all own rest c.loop-field.fault c.in_ok-own.own kept c.in_ok-own.ensures)

pub returns : goal.returns
returns c =
    let text = c.args.text.now in
    let s = scope_of c.args.scope.now in
    let words = c.args.words.now in
    let xs = c.args.fields.now in
    let k = c.loop-field.field-index in
    let none : drop k xs ≡ [] = nothing_left xs k (λ l. absurd (omega (arith, l, c.loop-field-test.false))) in
    kept_end (LevelsFail text s words (fields_of xs)) (LevelsFail text s words (fields_of (drop k xs))) c.loop-field.fault (λ g h. subst (λ (l : List Field). LevelsFail text s words (fields_of l) g) none h) c.loop-field.invariant
