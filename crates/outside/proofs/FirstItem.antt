-- The bytes that a call has taken are the first item of those that were to come.
use Rattle.std.proofs.Common.{◌≡◌, ◌≢◌, ℕ, ◌+◌, ◌≤◌, ◌<◌, Bool, true, false, List, [], ◌∷◌, ◌++◌, length, length-append, IfSome, take, drop, Option, Some, None, ℤ, arith, refl, ap, sym, ◌∙◌, subst, append_assoc}
use Rattle.std.specs.Prelude.{not}
use Rattle.std.specs.List.{list_all, list_any, prefix_len}
use Rattle.std.specs.Io.KnownBytes.{Consumes, IsAtEnd, Keeps}
use Rattle.std.proofs.lemmas.Bool.{and_parts, or_parts, cond-true, cond-false, lt-ltb, le-ltb}
use Rattle.std.proofs.lemmas.List.{drop-drop}
use Rattle.std.proofs.lemmas.List.Prefix.{front_rest}
use lib.Seq.{take-append_seam}
use Rattle.outside.specs.Items.{Reads, most_per_call, is_separator, is_inner, after_separators, first_item, item_end, read_int, number_of, MeetsEnd}

run : (p : ℕ → Bool) (s t : List ℕ) → list_all p s ≡ true → prefix_len p (s ++ t) ≡ length s + prefix_len p t
run p [] t all = omega arith
run p (b ∷ s) t all =
    let both = and_parts (p b) (list_all p s) all in
    cond-true (p b) (1 + prefix_len p (s ++ t)) 0 both.0 ∙ omega (arith, run p s t both.1)

all_inner : (i : List ℕ) → list_any is_separator i ≡ false → list_all is_inner i ≡ true
all_inner [] whole = refl
all_inner (b ∷ i) whole =
    let both = or_parts (is_separator b) (list_any is_separator i) whole in
    rw (both.0, all_inner i both.1) refl

drop_front : (s t : List ℕ) → drop (length s) (s ++ t) ≡ t
drop_front s t = front_rest (s ++ t) s t refl

module _ (s i t : List ℕ) (apart : list_all is_separator s ≡ true) (whole : list_any is_separator i ≡ false) (stops : prefix_len is_separator (i ++ t) ≡ 0) where
  all : List ℕ
  all = s ++ (i ++ t)

  separators : prefix_len is_separator (s ++ (i ++ t)) ≡ length s
  separators = omega (arith, run is_separator s (i ++ t) apart, stops)

  after : after_separators (s ++ (i ++ t)) ≡ i ++ t
  after = ap (λ (n : ℕ). drop n (s ++ (i ++ t))) separators ∙ drop_front s (i ++ t)

  inner : prefix_len is_inner (after_separators (s ++ (i ++ t))) ≡ length i + prefix_len is_inner t
  inner = ap (prefix_len is_inner) after ∙ run is_inner i t (all_inner i whole)

  end : item_end (s ++ (i ++ t)) ≡ length s + (length i + prefix_len is_inner t)
  end = omega (arith, separators, inner)

  item : prefix_len is_inner t ≡ 0 → first_item (s ++ (i ++ t)) ≡ i
  item last =
      let count : prefix_len is_inner (after_separators (s ++ (i ++ t))) ≡ length i = omega (arith, inner, last) in
      ap (λ (n : ℕ). take n (after_separators (s ++ (i ++ t)))) count ∙ ap (take (length i)) after ∙ take-append_seam i t

drop_two : (s i t : List ℕ) → drop (length s + length i) (s ++ (i ++ t)) ≡ t
drop_two s i t = sym (ap (λ (n : ℕ). drop n (s ++ (i ++ t))) (omega arith)) ∙ sym (drop-drop (length i) (length s) (s ++ (i ++ t))) ∙ ap (drop (length i)) (drop_front s (i ++ t)) ∙ drop_front i t

-- the answer is this, and this is left
abbrev Step : Option ℤ → List ℕ → List ℕ → Type 0
Step answer rest bytes = (answer ≡ (read_int bytes).0) × (rest ≡ (read_int bytes).1)

-- a whole item, ended by what t begins with, or by the end of input
whole_item : (s i t rest : List ℕ) (answer : Option ℤ) → list_all is_separator s ≡ true → list_any is_separator i ≡ false
    → prefix_len is_separator (i ++ t) ≡ 0 → prefix_len is_inner t ≡ 0 → length s + length i < most_per_call → answer ≡ number_of i → rest ≡ drop 1 t
    → Step answer rest (s ++ (i ++ t))
whole_item s i t rest answer apart whole stops last few is left =
    let all : List ℕ = s ++ (i ++ t) in
    let at : item_end all ≡ length s + length i = omega (arith, end s i t apart whole stops, last) in
    let number : answer ≡ number_of (first_item all) = is ∙ sym (ap number_of (item s i t apart whole stops last)) in
    let after : rest ≡ drop (item_end all + 1) all =
    left ∙ ap (drop 1) (sym (drop_two s i t)) ∙ drop-drop 1 (length s + length i) all ∙ sym (ap (λ (n : ℕ). drop (n + 1) all) at) in
    rw (lt-ltb (item_end all) most_per_call (omega arith)) (number, after)

far_end : (s i t : List ℕ) → list_all is_separator s ≡ true → list_any is_separator i ≡ false → length s + length i ≤ item_end (s ++ (i ++ t))
far_end s [] t apart whole = omega (arith, run is_separator s t apart)
far_end s (b ∷ i) t apart whole =
    let both = or_parts (is_separator b) (list_any is_separator i) whole in
    let stops : prefix_len is_separator (b ∷ (i ++ t)) ≡ 0 = cond-false (is_separator b) (1 + prefix_len is_separator (i ++ t)) 0 both.0 in
    omega (arith, end s (b ∷ i) t apart whole stops)

-- as many bytes as one call takes, without what ends the item
cut_item : (s i t : List ℕ) (answer : Option ℤ) → list_all is_separator s ≡ true → list_any is_separator i ≡ false → length s + length i ≡ most_per_call → answer ≡ None
    → Step answer t (s ++ (i ++ t))
cut_item s i t answer apart whole count is =
    let all : List ℕ = s ++ (i ++ t) in
    let after : t ≡ drop most_per_call all = sym (ap (λ (n : ℕ). drop n all) (sym count) ∙ drop_two s i t) in
    rw (le-ltb (item_end all) most_per_call (omega (arith, far_end s i t apart whole))) (is, after)

-- where one byte more or the bound ended it, the call has not met the end
no_end_after : (s i t : List ℕ) (b : ℕ) → list_all is_separator s ≡ true → list_any is_separator i ≡ false → prefix_len is_separator (i ++ (b ∷ t)) ≡ 0
    → is_separator b ≡ true → MeetsEnd (s ++ (i ++ (b ∷ t))) → ⊥
no_end_after s i t b apart whole stops outer meets =
    let last : prefix_len is_inner (b ∷ t) ≡ 0 = cond-false (is_inner b) (1 + prefix_len is_inner t) 0 (ap not outer) in
    omega (arith, meets.0, end s i (b ∷ t) apart whole stops, last, length-append s (i ++ (b ∷ t)), length-append i (b ∷ t))

-- ---- the same of bytes that are told or not

joined : (xs s i h ys : List ℕ) → xs ≡ (s ++ (i ++ h)) ++ ys → xs ≡ s ++ (i ++ (h ++ ys))
joined xs s i h ys e = e ∙ append_assoc s (i ++ h) ys ∙ ap (λ (l : List ℕ). s ++ l) (append_assoc i h ys)

no_separators : (i t : List ℕ) → list_any is_separator i ≡ false → i ≢ [] → prefix_len is_separator (i ++ t) ≡ 0
no_separators [] t whole some = absurd (some refl)
no_separators (b ∷ i) t whole some =
    cond-false (is_separator b) (1 + prefix_len is_separator (i ++ t)) 0 (or_parts (is_separator b) (list_any is_separator i) whole).0

no_separators_last : (i : List ℕ) → list_any is_separator i ≡ false → prefix_len is_separator (i ++ []) ≡ 0
no_separators_last [] whole = refl
no_separators_last (b ∷ i) whole = no_separators (b ∷ i) [] whole (λ e. absurd (omega (arith, ap length e)))

pub reads_to_separator : (old new : Option (List ℕ)) (s i : List ℕ) (b : ℕ) (answer : Option ℤ) → Consumes old new (s ++ (i ++ (b ∷ [])))
    → list_all is_separator s ≡ true → list_any is_separator i ≡ false → i ≢ [] → is_separator b ≡ true → length s + length i < most_per_call → answer ≡ number_of i
    → Reads old new answer
reads_to_separator None new s i b answer came apart whole some outer few is = tt
reads_to_separator (Some xs) None s i b answer came apart whole some outer few is = absurd came
reads_to_separator (Some xs) (Some ys) s i b answer came apart whole some outer few is =
    let last : prefix_len is_inner (b ∷ ys) ≡ 0 = cond-false (is_inner b) (1 + prefix_len is_inner ys) 0 (ap not outer) in
    subst (λ (l : List ℕ). Step answer ys l) (sym (joined xs s i (b ∷ []) ys came))
    (whole_item s i (b ∷ ys) ys answer apart whole (no_separators i (b ∷ ys) whole some) last few is refl)

pub reads_to_end : (old now new : Option (List ℕ)) (s i : List ℕ) (answer : Option ℤ) → Consumes old now (s ++ i) → IsAtEnd now → Keeps now new
    → list_all is_separator s ≡ true → list_any is_separator i ≡ false → length s + length i < most_per_call → answer ≡ number_of i
    → Reads old new answer
reads_to_end None now new s i answer came ended keeps apart whole few is = tt
reads_to_end (Some xs) None new s i answer came ended keeps apart whole few is = absurd came
reads_to_end (Some xs) (Some ys) None s i answer came ended keeps apart whole few is = absurd keeps
reads_to_end (Some xs) (Some ys) (Some zs) s i answer came ended keeps apart whole few is =
    let all : xs ≡ s ++ (i ++ []) = came ∙ ap (λ (l : List ℕ). (s ++ i) ++ l) ended ∙ append_assoc s i [] in
    subst (λ (l : List ℕ). Step answer zs l) (sym all)
    (whole_item s i [] zs answer apart whole (no_separators_last i whole) refl few is (keeps ∙ ended))

pub reads_to_bound : (old new : Option (List ℕ)) (s i : List ℕ) (answer : Option ℤ) → Consumes old new (s ++ (i ++ []))
    → list_all is_separator s ≡ true → list_any is_separator i ≡ false → length s + length i ≡ most_per_call → answer ≡ None
    → Reads old new answer
reads_to_bound None new s i answer came apart whole count is = tt
reads_to_bound (Some xs) None s i answer came apart whole count is = absurd came
reads_to_bound (Some xs) (Some ys) s i answer came apart whole count is =
    subst (λ (l : List ℕ). Step answer ys l) (sym (joined xs s i [] ys came)) (cut_item s i ys answer apart whole count is)

pub separator_no_end : (old new : Option (List ℕ)) (s i : List ℕ) (b : ℕ) → Consumes old new (s ++ (i ++ (b ∷ [])))
    → list_all is_separator s ≡ true → list_any is_separator i ≡ false → i ≢ [] → is_separator b ≡ true → IfSome old (λ bytes. MeetsEnd bytes → ⊥)
separator_no_end None new s i b came apart whole some outer = tt
separator_no_end (Some xs) None s i b came apart whole some outer = absurd came
separator_no_end (Some xs) (Some ys) s i b came apart whole some outer =
    subst (λ (l : List ℕ). MeetsEnd l → ⊥) (sym (joined xs s i (b ∷ []) ys came)) (no_end_after s i ys b apart whole (no_separators i (b ∷ ys) whole some) outer)

pub bound_no_end : (old new : Option (List ℕ)) (s i : List ℕ) → Consumes old new (s ++ (i ++ []))
    → list_all is_separator s ≡ true → list_any is_separator i ≡ false → length s + length i ≡ most_per_call → IfSome old (λ bytes. MeetsEnd bytes → ⊥)
bound_no_end None new s i came apart whole count = tt
bound_no_end (Some xs) None s i came apart whole count = absurd came
bound_no_end (Some xs) (Some ys) s i came apart whole count =
    subst (λ (l : List ℕ). MeetsEnd l → ⊥) (sym (joined xs s i [] ys came)) (λ meets. omega (arith, meets.1, far_end s i ys apart whole))
