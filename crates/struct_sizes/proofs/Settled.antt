-- The verdicts of structs are one answer, and a struct that isn't refused is a type.
use Rattle.std.proofs.Common.{◌≡◌, ℕ, zero, suc, ◌<◌, List, [], ◌∷◌, length, get_or, true, false, Option, Some, None, inl, inr, refl, sym, ap, ap₂, ◌∙◌, subst, arith}
use Rattle.std.specs.Prelude.{IsTrue, ◌↔◌, Bool, slice_get}
use Rattle.std.specs.List.{flat_map}
use Rattle.std.proofs.lemmas.Option.{same_Some, get_or_from_slice_get}
use Rattle.struct_sizes.specs.declared.forms.Base.{Base}
use Rattle.struct_sizes.specs.declared.forms.Base.TheVariants.{Int, Bool as Truth, Struct}
use Rattle.struct_sizes.specs.declared.verdicts.SizeFault.TheVariants.{ZeroSize}
use Rattle.struct_sizes.specs.declared.verdicts.StructFault.{StructFault}
use Rattle.struct_sizes.specs.declared.verdicts.StructFault.TheVariants.{HoldsItself, Size}
use Rattle.struct_sizes.specs.declared.verdicts.Verdict.{Verdict}
use Rattle.struct_sizes.specs.declared.verdicts.Verdict.TheVariants.{Sized, Refused}
use Rattle.struct_sizes.specs.declared.verdicts.Verdicts.{Verdicts}
use Rattle.struct_sizes.specs.Structs.{Prefixed, Fields, named, mentioned_in}
use Rattle.struct_sizes.specs.Words.{sum_words}
use Rattle.struct_sizes.specs.Faults.{size_fault, known_fault, FieldFails, FieldsFail, FormFails, ByForm}
use Rattle.struct_sizes.specs.Verdicts.{IsRefused, IsTold, AreTold, IsSource, IsVerdict, AreVerdicts, OneAnswer, BaseRefused, IsFieldType, IsStructType, SizedIsType}
use Rattle.components.specs.Graph.{Among, itself, onward}
use Rattle.components.proofs.Lists.{at_within, at_there, among_left, among_right}
use Rattle.struct_sizes.proofs.Capped.{no_fault_small}
use Rattle.struct_sizes.proofs.Sums.{held_row, mentioned_row, all_held_mentioned, one_table}
use Rattle.struct_sizes.proofs.Typed.{none_of}

-- ---- one answer

module _ (ss : List Fields) (table : List (Option ℕ)) (k : ℕ) where
  same_fault : (f g : StructFault) → IsTold ss table k f → IsTold ss table k g → f ≡ g
  same_fault HoldsItself HoldsItself h i = refl
  same_fault HoldsItself (Size g) h i = absurd (i.0.0 (inr h))
  same_fault (Size f) HoldsItself h i = absurd (h.0.0 (inr i))
  same_fault (Size f) (Size g) h i = ap Size (same_Some f g (sym h.0.1 ∙ i.0.1))

  same_told : (f g : Option StructFault) → AreTold ss table k f → AreTold ss table k g → f ≡ g
  same_told None None h i = refl
  same_told None (Some g) h i = absurd (h g i)
  same_told (Some f) None h i = absurd (i f h)
  same_told (Some f) (Some g) h i = ap Some (same_fault f g h i)

  same_source : (a b : Bool) → IsTrue a ↔ IsSource ss table k → IsTrue b ↔ IsSource ss table k → a ≡ b
  same_source true true h i = refl
  same_source false false h i = refl
  same_source true false h i = sym (i.1 (h.0 refl))
  same_source false true h i = h.1 (i.0 refl)

  same_verdict : (v w : Verdict) → IsVerdict ss table k v → IsVerdict ss table k w → v ≡ w
  same_verdict (Sized a) (Sized b) h i = ap Sized (same_Some a b (same_Some (Some a) (Some b) (sym h.1 ∙ i.1)))
  same_verdict (Sized a) (Refused r) h i = absurd (h.0 i.0)
  same_verdict (Refused q) (Sized b) h i = absurd (i.0 h.0)
  same_verdict (Refused q) (Refused r) h i = ap₂ (λ (told : Option StructFault) (source : Bool). Refused (record { told = told; is_source = source })) (same_told q.told r.told h.1 i.1) (same_source q.is_source r.is_source h.2 i.2)

same_all : (xs ys : List Verdict) → length xs ≡ length ys → ((k : ℕ) (x y : Verdict) → slice_get xs k ≡ Some x → slice_get ys k ≡ Some y → x ≡ y) → xs ≡ ys
same_all [] [] e same = refl
same_all [] (y ∷ ys) e same = absurd (omega (arith, e))
same_all (x ∷ xs) [] e same = absurd (omega (arith, e))
same_all (x ∷ xs) (y ∷ ys) e same = ap₂ (λ (z : Verdict) (zs : List Verdict). z ∷ zs) (same 0 x y refl refl) (same_all xs ys (omega (arith, e)) (λ k. same (suc k)))

pub one_answer : OneAnswer
one_answer ss found other (table, a) (exact, b) =
    let c : AreVerdicts ss table other = subst (λ (t : List (Option ℕ)). AreVerdicts ss t other) (one_table ss exact table b.is_table a.is_table) b in
    same_all found.verdicts.items other.verdicts.items (a.size ∙ sym c.size) (λ k v w at_v at_w. same_verdict ss table k v w (a.verdicts k v at_v) (c.verdicts k w at_w))

-- ---- a struct that isn't refused

some_words : (n : ℕ) → size_fault n ≡ None → 0 < n
some_words zero e = let bad : Some ZeroSize ≡ None = e in absurd cc
some_words (suc n) e = omega arith

module _ (ss : List Fields) (table : List (Option ℕ)) where
  -- no struct of some numbers is refused
  Stand : List ℕ → Type 0
  Stand ks = (j : ℕ) → Among j ks → IsRefused ss table j → ⊥

  base_stands : (b : Base) → Stand (named b) → BaseRefused ss table b → ⊥
  unfolding Stand
  base_stands Int stand h = h
  base_stands Truth stand h = h
  base_stands (Struct id) stand h = stand id.0 (inl refl) h

  field_type : (f : Option Prefixed) → (FieldFails table f → ⊥) → Stand (mentioned_in f) → IsFieldType ss table f
  unfolding Stand
  field_type None right stand = right tt
  field_type (Some t) right stand = (base_stands t.base stand, λ level fault h. right (level, fault, h))

  field_types : (fs : Fields) → (FieldsFail table fs → ⊥) → Stand (flat_map mentioned_in fs) → (i : ℕ) (f : Option Prefixed) → slice_get fs i ≡ Some f → IsFieldType ss table f
  unfolding Stand
  field_types [] right stand i f at = let bad : None ≡ Some f = at in absurd cc
  field_types (g ∷ fs) right stand zero f at =
      subst (λ (x : Option Prefixed). IsFieldType ss table x) (same_Some g f at)
      (field_type g (λ h. right (inl h)) (λ j h. stand j (among_left j (mentioned_in g) (flat_map mentioned_in fs) h)))
  field_types (g ∷ fs) right stand (suc i) f at = field_types fs (λ h. right (inr h)) (λ j h. stand j (among_right j (mentioned_in g) (flat_map mentioned_in fs) h)) i f at

  module _ (found : Verdicts) (k words : ℕ) (a : AreVerdicts ss table found) (at : slice_get found.verdicts.items k ≡ Some (Sized words)) where
    is : IsVerdict ss table k (Sized words)
    is = a.verdicts k (Sized words) at

    right : ByForm ss table k → ⊥
    right form = is.0 (k, itself, inl form)

    fine : size_fault words ≡ None
    fine = sym (ap known_fault (get_or_from_slice_get table k (Some words) None is.1)) ∙ none_of (known_fault (get_or table k None)) (λ f e. is.0 (k, itself, inr (f, (right, e))))

    struct_type : IsStructType ss table k words
    unfolding Stand
    struct_type =
        let small = at_within found.verdicts.items k (Sized words) at in
        let there = at_there ss k (let z = a.size in omega (arith, small, z)) in
        let fields : Fields = there.0 in
        let stand = λ (j : ℕ) (h : Among j (flat_map mentioned_in fields)) (r : IsRefused ss table j). is.0 (r.0, onward (subst (λ (ks : List ℕ). Among j ks) (sym (mentioned_row ss k fields there.1)) h) r.1, r.2) in
        record {
          fields = fields;
          is = there.1;
          types = field_types fields (λ h. right (inl (subst (λ (x : Option Fields). FormFails table x) (sym there.1) h))) stand;
          held = λ j h. stand j (all_held_mentioned j fields (subst (λ (ks : List ℕ). Among j ks) (held_row ss k fields there.1) h));
          sum = same_Some (sum_words table fields) (Some words) (sym (a.is_table.sums k fields there.1 (λ way. right (inr way))) ∙ is.1);
          some = some_words words fine;
          few = no_fault_small words fine;
        }

pub sized_is_type : SizedIsType
sized_is_type ss table found k words a at = struct_type ss table found k words a at
