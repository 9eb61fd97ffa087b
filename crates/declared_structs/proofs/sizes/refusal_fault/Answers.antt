use Rattle.std.proofs.Common.{◌≡◌, Bool, true, false, not, List, ◌⊎◌, inl, inr, refl, subst}
use Rattle.std.specs.Prelude.{IsTrue}
use Rattle.syntax.specs.declared.declaration.Field.{Field}
use Rattle.syntax.specs.Declarations.{fields_of, type_spec_of}
use Rattle.type_faults.specs.Least.{IsLeast}
use Rattle.type_faults.specs.Faults.{IsFault}
use Rattle.type_faults.proofs.Leasts.{least_join, leaf}
use Rattle.names.specs.Scope.{scope_of}
use Rattle.declared_structs.specs.Faults.{LevelsFail}
use Rattle.declared_structs.specs.Passing.{whole_fault, RefusalFails}
use Rattle.declared_structs.proofs.Numbers.{least_same}
use Rattle.declared_structs.proofs.sizes.refusal_fault.Goals as goal

is_true : (b : Bool) → not b ≡ false → IsTrue b
is_true true e = refl
is_true false e = absurd cc e

pub returns : goal.returns
returns c =
    let text = c.args.text.now in
    let s = scope_of c.args.scope.now in
    let words = c.args.words.now in
    let r = c.args.refusal in
    let t = type_spec_of c.args.spec.now in
    let whole = IsFault (whole_fault r.told t.name.pos) in
    let arrays = LevelsFail text s words t.fields in
    let first : IsLeast whole c.whole_fault-whole.result = rw (c.whole_fault-whole.ensures) (leaf (whole_fault r.told t.name.pos)) in
    let second : IsLeast arrays c.in_ok-arrays.arrays = subst (λ (l : List Field). IsLeast (LevelsFail text s words (fields_of l)) c.in_ok-arrays.arrays) c.deref.ensures.value c.in_ok-arrays.ensures in
    let source : IsTrue r.is_source = is_true r.is_source c.if-not-refusal.false in
    rw (c.lesser.ensures)
    (least_same (λ f. whole f ⊎ arrays f) (RefusalFails text s words r t) _ (λ f h. elim h [ inl k ↦ inl k | inr k ↦ inr (source, k) ]) (λ f h. elim h [ inl k ↦ inl k | inr k ↦ inr k.1 ])
    (least_join whole arrays c.whole_fault-whole.result c.in_ok-arrays.arrays first second))
