-- The words of types, by verdicts.
use Rattle.std.proofs.Common.{◌≡◌, ℕ, ◌*◌, List, [], ◌∷◌, length, get_or, true, false, Option, Some, None, inl, inr, refl, sym, ap, ◌∙◌, arith}
use Rattle.std.specs.Prelude.{slice_get}
use Rattle.std.specs.Option.{unwrap_or, ok_or}
use Rattle.struct_sizes.specs.declared.verdicts.TypeRefusal.TheVariants.{Base as RefusedBase}
use Rattle.std.proofs.lemmas.Bool.{cases_lt}
use Rattle.std.proofs.lemmas.Option.{get_or_from_slice_get, slice_get_past, unwrap_or-slice_get}
use Rattle.struct_sizes.specs.declared.forms.Prefix.{Prefix}
use Rattle.struct_sizes.specs.declared.forms.Prefix.TheVariants.{Pointer, Slice, Array}
use Rattle.struct_sizes.specs.declared.forms.Base.{Base}
use Rattle.struct_sizes.specs.declared.forms.Base.TheVariants.{Int, Bool as Truth, Struct}
use Rattle.struct_sizes.specs.declared.verdicts.SizeFault.{SizeFault}
use Rattle.struct_sizes.specs.declared.verdicts.LevelFault.{LevelFault}
use Rattle.struct_sizes.specs.declared.verdicts.Verdict.{Verdict}
use Rattle.struct_sizes.specs.declared.verdicts.Verdict.TheVariants.{Sized, Refused}
use Rattle.struct_sizes.specs.declared.verdicts.Verdicts.{Verdicts}
use Rattle.struct_sizes.specs.Structs.{Prefixed, Fields}
use Rattle.struct_sizes.specs.Words.{prefix_words, prefixed_words, base_words, type_words}
use Rattle.struct_sizes.specs.Faults.{known_fault, outer_fault, IsInnermost}
use Rattle.struct_sizes.specs.Verdicts.{IsRefused, IsVerdict, AreVerdicts, BaseRefused, IsTypeVerdict}
use Rattle.struct_sizes.specs.Kept.{kept, Agree, AgreeAll}
use Rattle.struct_sizes.specs.Filling.{is_refused, unlisted, verdict_at, is_base_refused}
use Rattle.components.specs.Graph.{itself}
use Rattle.components.proofs.Lists.{at_there}
use Rattle.struct_sizes.proofs.Capped.{agree_type, agree_fault, fails_agree, exact_from}
use Rattle.struct_sizes.proofs.Flaws.{past_fault}

-- ---- levels of a table and of one that agrees with it

pub innermost_agree : (table exact : List (Option ℕ)) → AgreeAll table exact → (t : Prefixed) (f : Option LevelFault) → IsInnermost table t f → IsInnermost exact t f
innermost_agree table exact same t None is = λ level fault h. is level fault (fails_agree exact table (sym same) t level fault h)
innermost_agree table exact same t (Some f) is = (fails_agree table exact same t f.level f.kind is.0, λ level fault l h. is.1 level fault l (fails_agree exact table (sym same) t level fault h))

module _ (ss : List Fields) (exact : List (Option ℕ)) (found : Verdicts) (a : AreVerdicts ss exact found) where
  verdicts : List Verdict
  verdicts = found.verdicts.items

  struct_refused : (k : ℕ) → is_refused (verdict_at found.verdicts.items k) ≡ true → IsRefused ss exact k
  struct_refused k e = elim (cases_lt k (length ss)) [
    | inr past ↦ (k, itself, inl (past_fault ss exact k past))
    | inl low ↦ (let there = at_there found.verdicts.items k (let z = a.size in omega (arith, low, z)) in by there.0 there.1 (a.verdicts k there.0 there.1))
  ]
    where
      by : (v : Verdict) → slice_get found.verdicts.items k ≡ Some v → IsVerdict ss exact k v → IsRefused ss exact k
      by (Sized words) at is = absurd (let bad : false ≡ true = sym (ap is_refused (get_or_from_slice_get found.verdicts.items k (Sized words) unlisted at)) ∙ e in cc)
      by (Refused fault) at is = is.0

  -- one that isn't refused has its words
  struct_sized : (k : ℕ) → is_refused (verdict_at found.verdicts.items k) ≡ false → (IsRefused ss exact k → ⊥) × (w : ℕ) × (get_or exact k None ≡ Some w)
  struct_sized k e = elim (cases_lt k (length ss)) [
    | inr past ↦ absurd (let bad : true ≡ false = sym (ap is_refused (sym (unwrap_or-slice_get found.verdicts.items k unlisted) ∙ ap (λ (o : Option Verdict). unwrap_or o unlisted) (slice_get_past found.verdicts.items k (let z = a.size in omega (arith, past, z))))) ∙ e in cc)
    | inl low ↦ (let there = at_there found.verdicts.items k (let z = a.size in omega (arith, low, z)) in by there.0 there.1 (a.verdicts k there.0 there.1))
  ]
    where
      by : (v : Verdict) → slice_get found.verdicts.items k ≡ Some v → IsVerdict ss exact k v → (IsRefused ss exact k → ⊥) × (w : ℕ) × (get_or exact k None ≡ Some w)
      by (Sized words) at is = (is.0, words, get_or_from_slice_get exact k (Some words) None is.1)
      by (Refused fault) at is = absurd (let bad : true ≡ false = sym (ap is_refused (get_or_from_slice_get found.verdicts.items k (Refused fault) unlisted at)) ∙ e in cc)

  pub base_refused : (b : Base) → is_base_refused found.verdicts.items b ≡ true → BaseRefused ss exact b
  base_refused Int e = let bad : false ≡ true = e in absurd cc
  base_refused Truth e = let bad : false ≡ true = e in absurd cc
  base_refused (Struct id) e = struct_refused id.0 e

  pub base_stands : (b : Base) → is_base_refused found.verdicts.items b ≡ false → BaseRefused ss exact b → ⊥
  base_stands Int e h = h
  base_stands Truth e h = h
  base_stands (Struct id) e h = (struct_sized id.0 e).0 h

  base_known : (b : Base) → is_base_refused found.verdicts.items b ≡ false → (w : ℕ) × (base_words exact b ≡ Some w)
  base_known Int e = (1, refl)
  base_known Truth e = (1, refl)
  base_known (Struct id) e = let s = struct_sized id.0 e in (s.1, s.2)

known_under : (ps : List Prefix) (b : Option ℕ) (w : ℕ) → b ≡ Some w → (v : ℕ) × (prefixed_words ps b ≡ Some v)
known_under [] b w e = (w, e)
known_under (Pointer ∷ ps) b w e = (1, refl)
known_under (Slice ∷ ps) b w e = (3, refl)
known_under (Array n ∷ ps) b w e = let there = known_under ps b w e in (n * there.0, ap (prefix_words (Array n)) there.1)

pub none_of : (o : Option SizeFault) → ((f : SizeFault) → o ≡ Some f → ⊥) → o ≡ None
none_of None h = refl
none_of (Some f) h = absurd (h f refl)

fine_under : (ps : List Prefix) (w : Option ℕ) → known_fault w ≡ None → ((f : SizeFault) → outer_fault ps w ≡ Some f → ⊥) → known_fault (prefixed_words ps w) ≡ None
fine_under [] w e h = e
fine_under (Pointer ∷ ps) w e h = refl
fine_under (Slice ∷ ps) w e h = refl
fine_under (Array n ∷ ps) w e h = none_of (known_fault (prefixed_words (Array n ∷ ps) w)) h

agree_none : (o : Option ℕ) → Agree None o → o ≡ None
agree_none None e = refl
agree_none (Some w) e = let bad : None ≡ kept (Some w) = e in absurd cc

module _ (ss : List Fields) (exact : List (Option ℕ)) (found : Verdicts) (a : AreVerdicts ss exact found) where
  struct_fine : (k : ℕ) → is_refused (verdict_at found.verdicts.items k) ≡ false → known_fault (get_or exact k None) ≡ None
  struct_fine k e =
      let stands = (struct_sized ss exact found a k e).0 in
      none_of (known_fault (get_or exact k None)) (λ f is. stands (k, itself, inr (f, ((λ form. stands (k, itself, inl form)), is))))

  base_fine : (b : Base) → is_base_refused found.verdicts.items b ≡ false → known_fault (base_words exact b) ≡ None
  base_fine Int e = refl
  base_fine Truth e = refl
  base_fine (Struct id) e = struct_fine id.0 e

  module _ (t : Prefixed) (e : is_base_refused found.verdicts.items t.base ≡ false) where
    -- where no level fails the words are known, and those that are kept are exact
    pub exact_words : (w : ℕ) → IsInnermost found.words.items t None → Agree (Some w) (type_words found.words.items t) → type_words exact t ≡ Some w
    exact_words w none agrees =
        let all : Agree (Some w) (type_words exact t) = agrees ∙ agree_type found.words.items exact a.kept t in
        let fine = fine_under t.prefixes (base_words exact t.base) (base_fine t.base e) (λ f h. innermost_agree found.words.items exact a.kept t None none 0 f h) in
        exact_from w (type_words exact t) all (agree_fault (Some w) (type_words exact t) all ∙ fine)

    pub not_unknown : Agree None (type_words found.words.items t) → ⊥
    not_unknown agrees =
        let base = base_known ss exact found a t.base e in
        let known = known_under t.prefixes (base_words exact t.base) base.0 base.1 in
        let none = agree_none (type_words exact t) (agrees ∙ agree_type found.words.items exact a.kept t) in
        let bad : None ≡ Some known.0 = sym none ∙ known.1 in cc

    -- what the call answers where no level fails
    pub answers : (o : Option ℕ) → IsInnermost found.words.items t None → Agree o (type_words found.words.items t) → IsTypeVerdict ss exact t (ok_or o RefusedBase)
    answers None none agrees = absurd (not_unknown agrees)
    answers (Some w) none agrees = (base_stands ss exact found a t.base e, innermost_agree found.words.items exact a.kept t None none, exact_words w none agrees)
