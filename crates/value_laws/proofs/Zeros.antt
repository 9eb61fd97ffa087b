-- Zero values.
use Rattle.std.proofs.Common.{◌≡◌, ℕ, zero, suc, ◌+◌, ◌*◌, ◌<◌, List, [], ◌∷◌, ◌++◌, map, replicate, refl, sym, ap, ◌∙◌, subst, arith, suc-mul}
use Rattle.std.proofs.lemmas.List.{replicate-append-replicate}
use Rattle.typed_syntax.specs.Types.{TypeTree, PartTypes, ints, bools, struct_of, array_of, pointer_to, slice_of, no_types, more_types, width, widths, repeated, types_in, nth_type, part_count, part_type}
use Rattle.typed_syntax.specs.Value.{Value, IsOf, AreOf, FitsWords, FitWords, LeadsNowhere, LeadNowhere, copies, zero_of, zeros_of}
use Rattle.typed_syntax.specs.Paths.{nth_value, part, at_path, Leads}
use Rattle.typed_syntax.specs.Words.{Content, contents, contents_in, word_of, IsZero, Hold}
use Rattle.value_laws.specs.Laws.{Zero}
use Rattle.value_laws.proofs.Lists

copies_are : (n : ℕ) (t : TypeTree) (v : Value) → IsOf t v → AreOf (repeated n t) (copies n v)
copies_are zero t v is = tt
copies_are (suc n) t v is = (is, copies_are n t v is)

copies_fit : (n : ℕ) (v : Value) → FitsWords v → FitWords (copies n v)
copies_fit zero v f = tt
copies_fit (suc n) v f = (f, copies_fit n v f)

mutual
  pub zero_is : (t : TypeTree) → IsOf t (zero_of t)
  zero_is ints = tt
  zero_is bools = tt
  zero_is (struct_of ts) = zeros_are ts
  zero_is (array_of n t) = copies_are n t (zero_of t) (zero_is t)
  zero_is (pointer_to n) = tt
  zero_is (slice_of n) = tt

  zeros_are : (ts : PartTypes) → AreOf ts (zeros_of ts)
  zeros_are no_types = tt
  zeros_are (more_types t ts) = (zero_is t, zeros_are ts)

mutual
  pub zero_fits : (t : TypeTree) → FitsWords (zero_of t)
  zero_fits ints = search arith
  zero_fits bools = search arith
  zero_fits (struct_of ts) = zeros_fit ts
  zero_fits (array_of n t) = copies_fit n (zero_of t) (zero_fits t)
  zero_fits (pointer_to n) = search arith
  zero_fits (slice_of n) = search arith

  zeros_fit : (ts : PartTypes) → FitWords (zeros_of ts)
  zeros_fit no_types = tt
  zeros_fit (more_types t ts) = (zero_fits t, zeros_fit ts)

copies_alone : (n : ℕ) (v : Value) → LeadsNowhere v → LeadNowhere (copies n v)
copies_alone zero v f = tt
copies_alone (suc n) v f = (f, copies_alone n v f)

mutual
  pub zero_alone : (t : TypeTree) → LeadsNowhere (zero_of t)
  zero_alone ints = tt
  zero_alone bools = tt
  zero_alone (struct_of ts) = zeros_alone ts
  zero_alone (array_of n t) = copies_alone n (zero_of t) (zero_alone t)
  zero_alone (pointer_to n) = tt
  zero_alone (slice_of n) = tt

  zeros_alone : (ts : PartTypes) → LeadNowhere (zeros_of ts)
  zeros_alone no_types = tt
  zeros_alone (more_types t ts) = (zero_alone t, zeros_alone ts)

-- zeros stand for it
module _ (Holds : Content → ℕ → Type 0) (base : (c : Content) → IsZero c → Holds c 0) where
  copies_held : (n m : ℕ) (v : Value) → Hold Holds (contents v) (replicate m 0) → Hold Holds (contents_in (copies n v)) (replicate (n * m) 0)
  copies_held zero m v h = let e : 0 ≡ 0 * m = omega arith in subst (λ k. Hold Holds [] (replicate k 0)) e tt
  copies_held (suc n) m v h =
      let e : m + n * m ≡ suc n * m = omega (arith, suc-mul n m) in
      subst (λ k. Hold Holds (contents v ++ contents_in (copies n v)) (replicate k 0)) e
      (subst (λ ws. Hold Holds (contents v ++ contents_in (copies n v)) ws) (replicate-append-replicate m (n * m) 0)
      (Lists.held_joined Holds (contents v) (contents_in (copies n v)) (replicate m 0) (replicate (n * m) 0) h (copies_held n m v h)))

  mutual
    pub zero_held : (t : TypeTree) → Hold Holds (contents (zero_of t)) (replicate (width t) 0)
    zero_held ints = (base _ refl, tt)
    zero_held bools = (base _ refl, tt)
    zero_held (struct_of ts) = zeros_held ts
    zero_held (array_of n t) = copies_held n (width t) (zero_of t) (zero_held t)
    zero_held (pointer_to n) = (base _ tt, tt)
    zero_held (slice_of n) = (base _ tt, (base _ refl, (base _ refl, tt)))

    zeros_held : (ts : PartTypes) → Hold Holds (contents_in (zeros_of ts)) (replicate (widths ts) 0)
    zeros_held no_types = tt
    zeros_held (more_types t ts) =
        subst (λ ws. Hold Holds (contents (zero_of t) ++ contents_in (zeros_of ts)) ws) (replicate-append-replicate (width t) (widths ts) 0)
        (Lists.held_joined Holds (contents (zero_of t)) (contents_in (zeros_of ts)) (replicate (width t) 0) (replicate (widths ts) 0) (zero_held t) (zeros_held ts))

-- words that are those of contents are told by them
told : (cs : List Content) (ws : List ℕ) → Hold (λ c w. word_of c ≡ w) cs ws → map word_of cs ≡ ws
told [] [] h = refl
told (c ∷ cs) (w ∷ ws) h = ap (λ x. x ∷ map word_of cs) h.0 ∙ ap (λ l. w ∷ l) (told cs ws h.1)
told [] (w ∷ ws) h = absurd h
told (c ∷ cs) [] h = absurd h

zero_word : (c : Content) → IsZero c → word_of c ≡ 0
zero_word (Content.number z) e = ap (λ x. word_of (Content.number x)) e
zero_word (Content.truth b) e = ap (λ x. word_of (Content.truth x)) e
zero_word Content.no_address e = refl
zero_word (Content.part_address x path) e = absurd e
zero_word (Content.array_address x path first room) e = absurd e

nth_copies : (n : ℕ) (t : TypeTree) (v : Value) (i : ℕ) → i < types_in (repeated n t) → nth_value (copies n v) i ≡ v
nth_copies zero t v i l = absurd (omega arith)
nth_copies (suc n) t v zero l = refl
nth_copies (suc n) t v (suc i) l = nth_copies n t v i (omega arith)

nth_repeated : (n : ℕ) (t : TypeTree) (i : ℕ) → i < types_in (repeated n t) → nth_type (repeated n t) i ≡ t
nth_repeated zero t i l = absurd (omega arith)
nth_repeated (suc n) t zero l = refl
nth_repeated (suc n) t (suc i) l = nth_repeated n t i (omega arith)

nth_zeros : (ts : PartTypes) (i : ℕ) → i < types_in ts → nth_value (zeros_of ts) i ≡ zero_of (nth_type ts i)
nth_zeros no_types i l = absurd (omega arith)
nth_zeros (more_types t ts) zero l = refl
nth_zeros (more_types t ts) (suc i) l = nth_zeros ts i (omega arith)

zero_part : (t : TypeTree) (i : ℕ) → i < part_count t → part (zero_of t) i ≡ zero_of (part_type t i)
zero_part ints i l = absurd (omega arith)
zero_part bools i l = absurd (omega arith)
zero_part (pointer_to n) i l = absurd (omega arith)
zero_part (slice_of n) i l = absurd (omega arith)
zero_part (struct_of ts) i l = nth_zeros ts i l
zero_part (array_of n t) i l = nth_copies n t (zero_of t) i l ∙ ap zero_of (sym (nth_repeated n t i l))

zero_at : (t : TypeTree) (path : List ℕ) (s : TypeTree) → Leads t path s → at_path (zero_of t) path ≡ zero_of s
zero_at t [] s leads = ap zero_of leads
zero_at t (i ∷ path) s leads = ap (λ u. at_path u path) (zero_part t i leads.0) ∙ zero_at (part_type t i) path s leads.1

pub zero_value : (t : TypeTree) → Zero t
zero_value t = record {
  typed = zero_is t;
  fits = zero_fits t;
  alone = zero_alone t;
  words = told (contents (zero_of t)) (replicate (width t) 0) (zero_held (λ c w. word_of c ≡ w) zero_word t);
  part = λ path s leads. zero_at t path s leads;
}
