-- The values that looks find are the least that the declarations give.
use Rattle.std.proofs.Common.{◌≡◌, ℕ, zero, suc, ◌+◌, List, [], ◌∷◌, length, Option, Some, None, refl, sym, ap, ◌∙◌, subst, arith}
use Rattle.std.specs.Prelude.{slice_get, slice_set}
use Rattle.std.proofs.lemmas.Option.{slice_get_within}
use Rattle.names.specs.declared.scope.Known.{Known}
use Rattle.type_faults.proofs.Options.{none_some}
use Rattle.names.specs.Scope.{Scope}
use Rattle.package_values.specs.Values.{Item, settled}
use Rattle.package_values.specs.Laws.{knowing, HasValue, follows, HoldsValues, SettledIsLeast}
use Rattle.package_values.proofs.Growth.{known, Within, Consistent, renewed, rounds, rounds_good, rounds_settle, rounds_many, all_seen}
use Rattle.package_values.proofs.Giving.{give, monotone, looks_are}

-- ---- values that are known or not, by their numbers

module _ {A : Type 0} where
  abbrev AllHave : (ℕ → A → Type 0) → List (Option A) → Type 0
  AllHave P cs = (k : ℕ) (f : A) → known cs k ≡ Some f → P k f

  pub set_has : (P : ℕ → A → Type 0) (cs : List (Option A)) (k : ℕ) (o : Option A) → ((f : A) → o ≡ Some f → P k f) → AllHave P cs → AllHave P (slice_set cs k o)
  set_has P [] k o new before j f h = before j f h
  set_has P (c ∷ cs) zero o new before zero f h = new f h
  set_has P (c ∷ cs) zero o new before (suc j) f h = before (suc j) f h
  set_has P (c ∷ cs) (suc k) o new before zero f h = before zero f h
  set_has P (c ∷ cs) (suc k) o new before (suc j) f h = set_has (λ i. P (suc i)) cs k o new (λ i g e. before (suc i) g e) j f h

  same_one : (c d : Option A) → ((f : A) → c ≡ Some f → d ≡ Some f) → ((f : A) → d ≡ Some f → c ≡ Some f) → c ≡ d
  same_one None None there back = refl
  same_one None (Some g) there back = back g refl
  same_one (Some f) d there back = sym (there f refl)

  -- what knows the same is the same
  same_known : (cs ds : List (Option A)) → length cs ≡ length ds → Within cs ds → Within ds cs → cs ≡ ds
  same_known [] [] many there back = refl
  same_known [] (d ∷ ds) many there back = absurd (omega (arith, many))
  same_known (c ∷ cs) [] many there back = absurd (omega (arith, many))
  same_known (c ∷ cs) (d ∷ ds) many there back =
      ap (λ (l : List (Option A)). c ∷ l) (same_known cs ds (omega (arith, many)) (λ k f h. there (suc k) f h) (λ k f h. back (suc k) f h))
      ∙ ap (λ (o : Option A). o ∷ ds) (same_one c d (λ f h. there zero f h) (λ f h. back zero f h))

module _ (text : List ℕ) (s : Scope) (is : List Item) where
  abbrev found : List (Option Known)
  found = rounds (give text s) (monotone text s) (length is) s.values is

  found_is : settled text s is ≡ knowing s found
  found_is = looks_are text s (length is) s.values is

  -- ---- what is found is a value

  abbrev Sound : List (Option Known) → Type 0
  Sound cs = AllHave (HasValue text s is) cs

  -- some of the constants, from a number on
  abbrev From : ℕ → List Item → Type 0
  From k js = (j : ℕ) (i : Item) → slice_get js j ≡ Some i → slice_get is (j + k) ≡ Some i

  look_sound : (k : ℕ) (js : List Item) (cs : List (Option Known)) → From k js → Sound cs → Sound (renewed (give text s) (monotone text s) k cs js)
  look_sound k [] cs here before = before
  look_sound k (i ∷ js) cs here before =
      let first : slice_get is k ≡ Some i = let e : zero + k ≡ k = omega arith in subst (λ (n : ℕ). slice_get is n ≡ Some i) e (here zero i refl) in
      look_sound (1 + k) js (slice_set cs k (give text s cs i))
      (λ j x at. let e : suc j + k ≡ j + (1 + k) = omega arith in subst (λ (n : ℕ). slice_get is n ≡ Some x) e (here (suc j) x at))
      (set_has (HasValue text s is) cs k (give text s cs i) (λ f gives. follows cs i before first gives) before)

  looks_sound : (n : ℕ) (cs : List (Option Known)) → Sound cs → Sound (rounds (give text s) (monotone text s) n cs is)
  looks_sound zero cs before = before
  looks_sound (suc n) cs before =
      looks_sound n (renewed (give text s) (monotone text s) 0 cs is)
      (look_sound 0 is cs (λ j i at. let e : j ≡ j + 0 = omega arith in subst (λ (n : ℕ). slice_get is n ≡ Some i) e at) before)

  module _ (many : length s.values ≡ length is) (unknown : (k : ℕ) → known s.values k ≡ None) where
    nothing : (k : ℕ) (f : Known) → known s.values k ≡ Some f → ⊥
    nothing k f h = none_some (sym (unknown k) ∙ h)

    sound : Sound found
    sound = looks_sound (length is) s.values (λ k f h. absurd (nothing k f h))

    -- ---- each value is found

    consistent : Consistent (give text s) (monotone text s) is s.values
    consistent k i f at h = absurd (nothing k f h)

    found_many : length found ≡ length s.values
    found_many = rounds_many (give text s) (monotone text s) (length is) s.values is

    complete : (k : ℕ) (f : Known) → HasValue text s is k f → known found k ≡ Some f
    complete k f (follows cs i before at gives) =
        all_seen (give text s) (monotone text s) is found (rounds_good (give text s) (monotone text s) is (length is) s.values consistent).consistent
        (rounds_settle (give text s) (monotone text s) is s.values consistent many) k i f at
        (monotone text s cs found (λ j g h. complete j g (before j g h)) i f gives)
        (let l = slice_get_within is k i at in let long = found_many in omega (arith, l, long, many))

    holds : HoldsValues text s is (knowing s found)
    holds = record { rest = refl; as_many = found_many; values = λ k f. (sound k f, complete k f) }

    -- ---- and nothing else holds them

    only : (behind : Scope) → HoldsValues text s is behind → behind ≡ knowing s found
    only behind h =
        h.rest ∙ ap (λ (cs : List (Option Known)). knowing s cs)
        (same_known behind.values found (h.as_many ∙ sym found_many) (λ k f e. complete k f ((h.values k f).0 e)) (λ k f e. (h.values k f).1 (sound k f e)))

pub settled_is_least : SettledIsLeast
settled_is_least text s is many unknown behind = (
  λ e. subst (HoldsValues text s is) (sym (found_is text s is) ∙ sym e) (holds text s is many unknown),
  λ h. only text s is many unknown behind h ∙ sym (found_is text s is),
)
