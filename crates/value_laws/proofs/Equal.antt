-- Values of one type are equal exactly where their words are.
use Rattle.std.proofs.Common.{◌≡◌, ℕ, ℤ, pos, Bool, true, false, ◌&&◌, List, [], ◌∷◌, ◌++◌, length, map, take, drop, refl, sym, ap, ap₂, ◌∙◌, subst, arith, take_at, drop_at, w64}
use Rattle.std.specs.Prelude.{◌↔◌, Decides, FitsSigned, nat_eq}
use Rattle.std.specs.Int.{cast_signed, cast_unsigned}
use Rattle.std.proofs.lemmas.Int.{to_z-of_z}
use Rattle.std.proofs.lemmas.Bool.{false≢true}
use Rattle.std.proofs.lemmas.Bool.Decides.{Decides-int_eq, Decides-eqb, same_from_decides}
use Rattle.std.proofs.lemmas.List.{map-append}
use Rattle.typed_syntax.specs.Types.{TypeTree, PartTypes, ints, bools, struct_of, array_of, pointer_to, slice_of, no_types, more_types, repeated}
use Rattle.typed_syntax.specs.Value.{Value, Values, int, bool, composite, nil_pointer, pointer, nil_slice, slice_in, no_values, more_values, IsOf, AreOf, FitsWords, FitWords, LeadsNowhere, LeadNowhere, same_truth, same_path, same, all_same}
use Rattle.typed_syntax.specs.Words.{Content, number, truth, no_address, part_address, array_address, contents, contents_in, bit_of, word_of, words_of, AreAlike, Hold, all_equal}
use Rattle.value_laws.specs.Laws.{EqualWords, By, HasNoSlices, HaveNoSlices, IsNoElement}
use Rattle.value_laws.proofs.Lists.{held_joined}
use Rattle.value_laws.proofs.Parts.{count_of}

-- ---- `same` says whether values are equal

both_true : (a b : Bool) → (a && b) ≡ true → (a ≡ true) × (b ≡ true)
both_true true b e = (refl, e)
both_true false b e = absurd (false≢true e)

and_true : (a b : Bool) → a ≡ true → b ≡ true → (a && b) ≡ true
and_true true b ea eb = eb
and_true false b ea eb = absurd (false≢true ea)

truths_same : (a b : Bool) → same_truth a b ≡ true → a ≡ b
truths_same true true e = refl
truths_same true false e = absurd (false≢true e)
truths_same false true e = absurd (false≢true e)
truths_same false false e = refl

paths_same : (p q : List ℕ) → same_path p q ≡ true → p ≡ q
paths_same [] [] e = refl
paths_same (i ∷ p) (j ∷ q) e = let b = both_true (nat_eq i j) (same_path p q) e in ap₂ (λ k r. k ∷ r) ((Decides-eqb i j).0 b.0) (paths_same p q b.1)
paths_same [] (j ∷ q) e = absurd (false≢true e)
paths_same (i ∷ p) [] e = absurd (false≢true e)

mutual
  pub same_to_equal : (v u : Value) → same v u ≡ true → v ≡ u
  same_to_equal (int a) (int b) e = ap int ((Decides-int_eq a b).0 e)
  same_to_equal (bool a) (bool b) e = ap bool (truths_same a b e)
  same_to_equal (composite vs) (composite us) e = ap composite (all_same_to_equal vs us e)
  same_to_equal nil_pointer nil_pointer e = refl
  same_to_equal (pointer x p) (pointer y q) e =
      let b = both_true (nat_eq x y) (same_path p q) e in
      ap₂ pointer ((Decides-eqb x y).0 b.0) (paths_same p q b.1)
  same_to_equal nil_slice nil_slice e = refl
  same_to_equal v u e = absurd (false≢true e)

  all_same_to_equal : (vs us : Values) → all_same vs us ≡ true → vs ≡ us
  all_same_to_equal no_values no_values e = refl
  all_same_to_equal (more_values v vs) (more_values u us) e =
      let b = both_true (same v u) (all_same vs us) e in
      ap₂ more_values (same_to_equal v u b.0) (all_same_to_equal vs us b.1)
  all_same_to_equal no_values (more_values u us) e = absurd (false≢true e)
  all_same_to_equal (more_values v vs) no_values e = absurd (false≢true e)

same_truths : (b : Bool) → same_truth b b ≡ true
same_truths true = refl
same_truths false = refl

same_paths : (p : List ℕ) → same_path p p ≡ true
same_paths [] = refl
same_paths (i ∷ p) = and_true (nat_eq i i) (same_path p p) ((Decides-eqb i i).1 refl) (same_paths p)

mutual
  same_self : (v : Value) → HasNoSlices v → same v v ≡ true
  same_self (int a) none = (Decides-int_eq a a).1 refl
  same_self (bool b) none = same_truths b
  same_self (composite vs) none = all_same_self vs none
  same_self nil_pointer none = refl
  same_self (pointer x path) none = and_true (nat_eq x x) (same_path path path) ((Decides-eqb x x).1 refl) (same_paths path)
  same_self nil_slice none = refl
  same_self (slice_in x path first count room) none = absurd none

  all_same_self : (vs : Values) → HaveNoSlices vs → all_same vs vs ≡ true
  all_same_self no_values none = refl
  all_same_self (more_values v vs) none = and_true (same v v) (all_same vs vs) (same_self v none.0) (all_same_self vs none.1)

pub same_decides : (v u : Value) → HasNoSlices v → Decides (same v u) (v ≡ u)
same_decides v u none = (same_to_equal v u, λ e. subst (λ x. same v x ≡ true) e (same_self v none))

-- ---- by what the words hold

fronts : (a b c d : List Content) → length a ≡ length c → a ++ b ≡ c ++ d → (a ≡ c) × (b ≡ d)
fronts a b c d e h = (
  sym (take_at a b (length c) e) ∙ ap (take (length c)) h ∙ take_at c d (length c) refl,
  sym (drop_at a b (length c) e) ∙ ap (drop (length c)) h ∙ drop_at c d (length c) refl,
)

abbrev number_in : Content → ℤ
number_in (number z) = z
number_in c = pos 0

abbrev truth_in : Content → Bool
truth_in (truth b) = b
truth_in c = false

abbrev pointer_in : Content → Value
pointer_in (part_address x path) = pointer x path
pointer_in c = nil_pointer

abbrev count_in : Content → ℕ
count_in (number (pos n)) = n
count_in c = 0

abbrev slice_from : Content → (count : ℕ) → Value
slice_from (array_address x path first room) count = slice_in x path first count room
slice_from c count = nil_slice

abbrev first_of : List Content → Content
first_of [] = truth false
first_of (c ∷ cs) = c

abbrev slice_by : List Content → Value
slice_by cs = slice_from (first_of cs) (count_in (first_of (drop 1 cs)))

mutual
  pub by_contents : (t : TypeTree) (v u : Value) → IsOf t v → IsOf t u → contents v ≡ contents u → v ≡ u
  by_contents ints (int a) (int b) iv iu e = ap (λ cs. int (number_in (first_of cs))) e
  by_contents ints (int a) u iv iu e = absurd iu
  by_contents ints v u iv iu e = absurd iv
  by_contents bools (bool a) (bool b) iv iu e = ap (λ cs. bool (truth_in (first_of cs))) e
  by_contents bools (bool a) u iv iu e = absurd iu
  by_contents bools v u iv iu e = absurd iv
  by_contents (struct_of ts) (composite vs) (composite us) iv iu e = ap composite (all_by_contents ts vs us iv iu e)
  by_contents (struct_of ts) (composite vs) u iv iu e = absurd iu
  by_contents (struct_of ts) v u iv iu e = absurd iv
  by_contents (array_of n t) (composite vs) (composite us) iv iu e = ap composite (all_by_contents (repeated n t) vs us iv iu e)
  by_contents (array_of n t) (composite vs) u iv iu e = absurd iu
  by_contents (array_of n t) v u iv iu e = absurd iv
  by_contents (pointer_to n) nil_pointer nil_pointer iv iu e = refl
  by_contents (pointer_to n) nil_pointer (pointer y q) iv iu e = ap (λ cs. pointer_in (first_of cs)) e
  by_contents (pointer_to n) (pointer x p) nil_pointer iv iu e = ap (λ cs. pointer_in (first_of cs)) e
  by_contents (pointer_to n) (pointer x p) (pointer y q) iv iu e = ap (λ cs. pointer_in (first_of cs)) e
  by_contents (pointer_to n) nil_pointer u iv iu e = absurd iu
  by_contents (pointer_to n) (pointer x p) u iv iu e = absurd iu
  by_contents (pointer_to n) v u iv iu e = absurd iv
  by_contents (slice_of n) nil_slice nil_slice iv iu e = refl
  by_contents (slice_of n) nil_slice (slice_in y q j k l) iv iu e = ap slice_by e
  by_contents (slice_of n) (slice_in x p i c r) nil_slice iv iu e = ap slice_by e
  by_contents (slice_of n) (slice_in x p i c r) (slice_in y q j k l) iv iu e = ap slice_by e
  by_contents (slice_of n) nil_slice u iv iu e = absurd iu
  by_contents (slice_of n) (slice_in x p i c r) u iv iu e = absurd iu
  by_contents (slice_of n) v u iv iu e = absurd iv

  all_by_contents : (ts : PartTypes) (vs us : Values) → AreOf ts vs → AreOf ts us → contents_in vs ≡ contents_in us → vs ≡ us
  all_by_contents no_types no_values no_values av au e = refl
  all_by_contents no_types no_values us av au e = absurd au
  all_by_contents no_types vs us av au e = absurd av
  all_by_contents (more_types t ts) (more_values v vs) (more_values u us) av au e =
      let f = fronts (contents v) (contents_in vs) (contents u) (contents_in us) (count_of t v av.0 ∙ sym (count_of t u au.0)) e in
      ap₂ more_values (by_contents t v u av.0 au.0 f.0) (all_by_contents ts vs us av.1 au.1 f.1)
  all_by_contents (more_types t ts) (more_values v vs) us av au e = absurd au
  all_by_contents (more_types t ts) vs us av au e = absurd av

-- ---- by words

abbrev Alike : List Content → List Content → Type 0
Alike [] [] = Unit {0}
Alike (c ∷ cs) (d ∷ ds) = AreAlike c d × Alike cs ds
Alike cs ds = ⊥

alike_joined : (a b c d : List Content) → Alike a c → Alike b d → Alike (a ++ b) (c ++ d)
alike_joined [] b [] d h g = g
alike_joined (x ∷ a) b (y ∷ c) d h g = (h.0, alike_joined a b c d h.1 g)
alike_joined [] b (y ∷ c) d h g = absurd h
alike_joined (x ∷ a) b [] d h g = absurd h

mutual
  alike : (t : TypeTree) (v u : Value) → IsOf t v → IsOf t u → Alike (contents v) (contents u)
  alike ints (int a) (int b) iv iu = (tt, tt)
  alike ints (int a) u iv iu = absurd iu
  alike ints v u iv iu = absurd iv
  alike bools (bool a) (bool b) iv iu = (tt, tt)
  alike bools (bool a) u iv iu = absurd iu
  alike bools v u iv iu = absurd iv
  alike (struct_of ts) (composite vs) (composite us) iv iu = all_alike ts vs us iv iu
  alike (struct_of ts) (composite vs) u iv iu = absurd iu
  alike (struct_of ts) v u iv iu = absurd iv
  alike (array_of n t) (composite vs) (composite us) iv iu = all_alike (repeated n t) vs us iv iu
  alike (array_of n t) (composite vs) u iv iu = absurd iu
  alike (array_of n t) v u iv iu = absurd iv
  alike (pointer_to n) nil_pointer nil_pointer iv iu = (tt, tt)
  alike (pointer_to n) nil_pointer (pointer y q) iv iu = (tt, tt)
  alike (pointer_to n) (pointer x p) nil_pointer iv iu = (tt, tt)
  alike (pointer_to n) (pointer x p) (pointer y q) iv iu = (tt, tt)
  alike (pointer_to n) nil_pointer u iv iu = absurd iu
  alike (pointer_to n) (pointer x p) u iv iu = absurd iu
  alike (pointer_to n) v u iv iu = absurd iv
  alike (slice_of n) nil_slice nil_slice iv iu = (tt, (tt, (tt, tt)))
  alike (slice_of n) nil_slice (slice_in y q j k l) iv iu = (tt, (tt, (tt, tt)))
  alike (slice_of n) (slice_in x p i c r) nil_slice iv iu = (tt, (tt, (tt, tt)))
  alike (slice_of n) (slice_in x p i c r) (slice_in y q j k l) iv iu = (tt, (tt, (tt, tt)))
  alike (slice_of n) nil_slice u iv iu = absurd iu
  alike (slice_of n) (slice_in x p i c r) u iv iu = absurd iu
  alike (slice_of n) v u iv iu = absurd iv

  all_alike : (ts : PartTypes) (vs us : Values) → AreOf ts vs → AreOf ts us → Alike (contents_in vs) (contents_in us)
  all_alike no_types no_values no_values av au = tt
  all_alike no_types no_values us av au = absurd au
  all_alike no_types vs us av au = absurd av
  all_alike (more_types t ts) (more_values v vs) (more_values u us) av au =
      alike_joined (contents v) (contents_in vs) (contents u) (contents_in us) (alike t v u av.0 au.0) (all_alike ts vs us av.1 au.1)
  all_alike (more_types t ts) (more_values v vs) us av au = absurd au
  all_alike (more_types t ts) vs us av au = absurd av

abbrev head_of : List ℕ → ℕ
head_of [] = 0
head_of (x ∷ xs) = x

-- words that hold contents in a way in which two words are equal exactly where what they hold is
module _ (Holds : Content → ℕ → Type 0) (each : (c d : Content) (x y : ℕ) → AreAlike c d → Holds c x → Holds d y → (x ≡ y) ↔ (c ≡ d)) where
  held_tell : (cs ds : List Content) (xs ys : List ℕ) → Alike cs ds → Hold Holds cs xs → Hold Holds ds ys → (xs ≡ ys) ↔ (cs ≡ ds)
  held_tell [] [] [] [] l h g = (λ e. refl, λ e. refl)
  held_tell (c ∷ cs) (d ∷ ds) (x ∷ xs) (y ∷ ys) l h g =
      let here = each c d x y l.0 h.0 g.0 in
      let rest = held_tell cs ds xs ys l.1 h.1 g.1 in (
        λ e. ap₂ (λ z zs. z ∷ zs) (here.0 (ap head_of e)) (rest.0 (ap (drop 1) e)),
        λ e. ap₂ (λ z zs. z ∷ zs) (here.1 (ap first_of e)) (rest.1 (ap (drop 1) e)),
      )
  held_tell [] (d ∷ ds) xs ys l h g = absurd l
  held_tell (c ∷ cs) [] xs ys l h g = absurd l
  held_tell [] [] (x ∷ xs) ys l h g = absurd h
  held_tell [] [] [] (y ∷ ys) l h g = absurd g
  held_tell (c ∷ cs) (d ∷ ds) [] ys l h g = absurd h
  held_tell (c ∷ cs) (d ∷ ds) (x ∷ xs) [] l h g = absurd g

  pub by_held : (t : TypeTree) (v u : Value) (xs ys : List ℕ) → IsOf t v → IsOf t u → Hold Holds (contents v) xs → Hold Holds (contents u) ys → (xs ≡ ys) ↔ (v ≡ u)
  by_held t v u xs ys iv iu h g =
      let d = held_tell (contents v) (contents u) xs ys (alike t v u iv iu) h g in
      (λ e. by_contents t v u iv iu (d.0 e), λ e. d.1 (ap contents e))

-- a word is that of a number, a truth value or no address
abbrev Spells : Content → ℕ → Type 0
Spells (number z) w = FitsSigned w64 z × (w ≡ cast_unsigned w64 z)
Spells (truth b) w = w ≡ bit_of b
Spells no_address w = w ≡ 0
Spells c w = ⊥

mutual
  words_spell : (v : Value) → LeadsNowhere v → FitsWords v → Hold Spells (contents v) (words_of v)
  words_spell (int z) a f = ((f, refl), tt)
  words_spell (bool b) a f = (refl, tt)
  words_spell (composite vs) a f = all_words_spell vs a f
  words_spell nil_pointer a f = (refl, tt)
  words_spell (pointer x path) a f = absurd a
  words_spell nil_slice a f = (refl, ((search arith, refl), ((search arith, refl), tt)))
  words_spell (slice_in x path first count room) a f = absurd a

  all_words_spell : (vs : Values) → LeadNowhere vs → FitWords vs → Hold Spells (contents_in vs) (map word_of (contents_in vs))
  all_words_spell no_values a f = tt
  all_words_spell (more_values v vs) a f =
      subst (λ ws. Hold Spells (contents v ++ contents_in vs) ws) (sym (map-append word_of (contents v) (contents_in vs)))
      (held_joined Spells (contents v) (contents_in vs) (words_of v) (map word_of (contents_in vs)) (words_spell v a.0 f.0) (all_words_spell vs a.1 f.1))

bits_tell : (a b : Bool) → bit_of a ≡ bit_of b → a ≡ b
bits_tell true true e = refl
bits_tell true false e = absurd (omega arith)
bits_tell false true e = absurd (omega arith)
bits_tell false false e = refl

spelled_tell : (c d : Content) (x y : ℕ) → AreAlike c d → Spells c x → Spells d y → (x ≡ y) ↔ (c ≡ d)
spelled_tell (number a) (number b) x y l sx sy = (
  λ e. ap number (sym (to_z-of_z w64 a sx.0) ∙ ap (cast_signed w64) (sym sx.1 ∙ e ∙ sy.1) ∙ to_z-of_z w64 b sy.0),
  λ e. sx.1 ∙ ap (λ c. cast_unsigned w64 (number_in c)) e ∙ sym sy.1,
)
spelled_tell (truth a) (truth b) x y l sx sy = (λ e. ap truth (bits_tell a b (sym sx ∙ e ∙ sy)), λ e. sx ∙ ap (λ c. bit_of (truth_in c)) e ∙ sym sy)
spelled_tell no_address no_address x y l sx sy = (λ e. refl, λ e. sx ∙ sym sy)
spelled_tell (part_address p way) d x y l sx sy = absurd sx
spelled_tell (array_address p way first room) d x y l sx sy = absurd sx
spelled_tell c (part_address q way) x y l sx sy = absurd sy
spelled_tell c (array_address q way first room) x y l sx sy = absurd sy
spelled_tell c d x y l sx sy = absurd l

pub equal_words : (t : TypeTree) (v u : Value) → IsOf t v → IsOf t u → EqualWords v u
equal_words t v u iv iu = record {
  by_contents = (λ e. by_contents t v u iv iu e, λ e. ap contents e);
  by_held = λ holds xs ys each h g. by_held (By holds) each t v u xs ys iv iu h g;
  by_words = λ av au fv fu. by_held Spells spelled_tell t v u (words_of v) (words_of u) iv iu (words_spell v av fv) (words_spell u au fu);
}

-- ---- by comparing words

abbrev NoElements : List Content → Type 0
NoElements [] = Unit {0}
NoElements (c ∷ cs) = IsNoElement c × NoElements cs

no_elements_joined : (a b : List Content) → NoElements a → NoElements b → NoElements (a ++ b)
no_elements_joined [] b h g = g
no_elements_joined (c ∷ a) b h g = (h.0, no_elements_joined a b h.1 g)

mutual
  no_elements : (v : Value) → HasNoSlices v → NoElements (contents v)
  no_elements (int z) none = (tt, tt)
  no_elements (bool b) none = (tt, tt)
  no_elements (composite vs) none = all_no_elements vs none
  no_elements nil_pointer none = (tt, tt)
  no_elements (pointer x path) none = (tt, tt)
  no_elements nil_slice none = (tt, (tt, (tt, tt)))
  no_elements (slice_in x path first count room) none = absurd none

  all_no_elements : (vs : Values) → HaveNoSlices vs → NoElements (contents_in vs)
  all_no_elements no_values none = tt
  all_no_elements (more_values v vs) none = no_elements_joined (contents v) (contents_in vs) (no_elements v none.0) (all_no_elements vs none.1)

module _ (Holds : Content → ℕ → Type 0) (equal : ℕ → ℕ → Bool) (each : (c d : Content) (x y : ℕ) → AreAlike c d → IsNoElement c → Holds c x → Holds d y → Decides (equal x y) (c ≡ d)) where
  all_decide : (cs ds : List Content) (xs ys : List ℕ) → Alike cs ds → NoElements cs → Hold Holds cs xs → Hold Holds ds ys → Decides (all_equal equal xs ys) (cs ≡ ds)
  all_decide [] [] [] [] l n h g = (λ e. refl, λ e. refl)
  all_decide (c ∷ cs) (d ∷ ds) (x ∷ xs) (y ∷ ys) l n h g =
      let here = each c d x y l.0 n.0 h.0 g.0 in
      let rest = all_decide cs ds xs ys l.1 n.1 h.1 g.1 in (
        λ e. (let b = both_true (equal x y) (all_equal equal xs ys) e in ap₂ (λ z zs. z ∷ zs) (here.0 b.0) (rest.0 b.1)),
        λ e. and_true (equal x y) (all_equal equal xs ys) (here.1 (ap first_of e)) (rest.1 (ap (drop 1) e)),
      )
  all_decide [] (d ∷ ds) xs ys l n h g = absurd l
  all_decide (c ∷ cs) [] xs ys l n h g = absurd l
  all_decide [] [] (x ∷ xs) ys l n h g = absurd h
  all_decide [] [] [] (y ∷ ys) l n h g = absurd g
  all_decide (c ∷ cs) (d ∷ ds) [] ys l n h g = absurd h
  all_decide (c ∷ cs) (d ∷ ds) (x ∷ xs) [] l n h g = absurd g

  pub compared : (t : TypeTree) (v u : Value) (xs ys : List ℕ) → IsOf t v → IsOf t u → HasNoSlices v → Hold Holds (contents v) xs → Hold Holds (contents u) ys → all_equal equal xs ys ≡ same v u
  compared t v u xs ys iv iu none h g =
      let d = all_decide (contents v) (contents u) xs ys (alike t v u iv iu) (no_elements v none) h g in
      same_from_decides {P = v ≡ u} (all_equal equal xs ys) (same v u) (λ e. by_contents t v u iv iu (d.0 e), λ e. d.1 (ap contents e)) (same_decides v u none)
