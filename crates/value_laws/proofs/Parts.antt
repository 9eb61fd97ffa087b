-- The part at a path stands among the words of the whole.
use Rattle.std.proofs.Common.{◌≡◌, ◌≢◌, ◌⊎◌, inl, inr, ℕ, zero, suc, ◌+◌, ◌*◌, ◌<◌, ◌≤◌, List, [], ◌∷◌, ◌++◌, length, map, get_or, refl, sym, ap, ◌∙◌, subst, arith, append_assoc, append-nil, length-append, suc-mul}
use Rattle.std.proofs.lemmas.List.{length-map}
use Rattle.typed_syntax.specs.Types.{TypeTree, PartTypes, ints, bools, struct_of, array_of, pointer_to, slice_of, no_types, more_types, width, widths, repeated, part_types, types_in, nth_type, widths_before, part_count, part_type, part_offset}
use Rattle.typed_syntax.specs.Value.{Value, Values, int, bool, composite, nil_pointer, pointer, nil_slice, slice_in, no_values, more_values, words, words_in, IsOf, AreOf, FitsWords, FitWords}
use Rattle.typed_syntax.specs.Paths.{nth_value, with_nth, part, with_part, at_path, with_path, Leads, type_at, offset, Apart}
use Rattle.typed_syntax.specs.Words.{Content, contents, contents_in, word_of, Hold, slice, with_slice}
use Rattle.value_laws.specs.Laws.{Counted, Sliced, Replaced, PartWords, HeldParts, Element, Typed, Fits, ReadBack, Joined, JoinedTypes}
use Rattle.value_laws.proofs.Lists

-- ---- one step

pub width_repeated : (n : ℕ) (t : TypeTree) → widths (repeated n t) ≡ n * width t
width_repeated zero t = omega arith
width_repeated (suc n) t = omega (arith, width_repeated n t, suc-mul n (width t))

pub width_parts : (t : TypeTree) (i : ℕ) → i < part_count t → widths (part_types t) ≡ width t
width_parts ints i l = absurd (omega arith)
width_parts bools i l = absurd (omega arith)
width_parts (struct_of ts) i l = refl
width_parts (array_of n t) i l = width_repeated n t
width_parts (pointer_to n) i l = absurd (omega arith)
width_parts (slice_of n) i l = absurd (omega arith)

-- a value with parts is a struct or an array
pub parted : (P : Value → Type 0) (t : TypeTree) (v : Value) (i : ℕ) → IsOf t v → i < part_count t → ((vs : Values) → AreOf (part_types t) vs → P (composite vs)) → P v
parted P ints v i is l f = absurd (omega arith)
parted P bools v i is l f = absurd (omega arith)
parted P (struct_of ts) (composite vs) i is l f = f vs is
parted P (array_of n t) (composite vs) i is l f = f vs is
parted P (pointer_to n) v i is l f = absurd (omega arith)
parted P (slice_of n) v i is l f = absurd (omega arith)
parted P (struct_of ts) v i is l f = absurd is
parted P (array_of n t) v i is l f = absurd is

pub nth_is : (ts : PartTypes) (vs : Values) (i : ℕ) → AreOf ts vs → i < types_in ts → IsOf (nth_type ts i) (nth_value vs i)
nth_is no_types vs i are l = absurd (omega arith)
nth_is (more_types t ts) (more_values v vs) zero are l = are.0
nth_is (more_types t ts) (more_values v vs) (suc i) are l = nth_is ts vs i are.1 (omega arith)
nth_is (more_types t ts) no_values i are l = absurd are

pub with_nth_are : (ts : PartTypes) (vs : Values) (i : ℕ) (x : Value) → AreOf ts vs → i < types_in ts → IsOf (nth_type ts i) x → AreOf ts (with_nth vs i x)
with_nth_are no_types vs i x are l is = absurd (omega arith)
with_nth_are (more_types t ts) (more_values v vs) zero x are l is = (is, are.1)
with_nth_are (more_types t ts) (more_values v vs) (suc i) x are l is = (are.0, with_nth_are ts vs i x are.1 (omega arith) is)
with_nth_are (more_types t ts) no_values i x are l is = absurd are

pub part_is : (t : TypeTree) (v : Value) (i : ℕ) → IsOf t v → i < part_count t → IsOf (part_type t i) (part v i)
part_is t v i is l = parted (λ u. IsOf (part_type t i) (part u i)) t v i is l (λ vs are. nth_is (part_types t) vs i are l)

pub composite_is : (t : TypeTree) (vs : Values) (i : ℕ) → i < part_count t → AreOf (part_types t) vs → IsOf t (composite vs)
composite_is ints vs i l are = absurd (omega arith)
composite_is bools vs i l are = absurd (omega arith)
composite_is (struct_of ts) vs i l are = are
composite_is (array_of n t) vs i l are = are
composite_is (pointer_to n) vs i l are = absurd (omega arith)
composite_is (slice_of n) vs i l are = absurd (omega arith)

pub with_part_is : (t : TypeTree) (v x : Value) (i : ℕ) → IsOf t v → i < part_count t → IsOf (part_type t i) x → IsOf t (with_part v i x)
with_part_is t v x i is l ix = parted (λ u. IsOf t (with_part u i x)) t v i is l (λ vs are. composite_is t (with_nth vs i x) i l (with_nth_are (part_types t) vs i x are l ix))

-- ---- numbers of words

mutual
  pub count_of : (t : TypeTree) (v : Value) → IsOf t v → length (contents v) ≡ width t
  count_of ints (int z) is = refl
  count_of bools (bool b) is = refl
  count_of (struct_of ts) (composite vs) is = counts_of ts vs is
  count_of (array_of n t) (composite vs) is = counts_of (repeated n t) vs is ∙ width_repeated n t
  count_of (pointer_to n) nil_pointer is = refl
  count_of (pointer_to n) (pointer x path) is = refl
  count_of (slice_of n) nil_slice is = refl
  count_of (slice_of n) (slice_in x path first count room) is = refl
  count_of t v is = absurd is

  pub counts_of : (ts : PartTypes) (vs : Values) → AreOf ts vs → length (contents_in vs) ≡ widths ts
  counts_of no_types no_values are = refl
  counts_of (more_types t ts) (more_values v vs) are = omega (arith, length-append (contents v) (contents_in vs), count_of t v are.0, counts_of ts vs are.1)
  counts_of no_types (more_values v vs) are = absurd are
  counts_of (more_types t ts) no_values are = absurd are

mutual
  pub words_count : (v : Value) → words v ≡ length (contents v)
  words_count (int z) = refl
  words_count (bool b) = refl
  words_count (composite vs) = words_in_count vs
  words_count nil_pointer = refl
  words_count (pointer x path) = refl
  words_count nil_slice = refl
  words_count (slice_in x path first count room) = refl

  pub words_in_count : (vs : Values) → words_in vs ≡ length (contents_in vs)
  words_in_count no_values = refl
  words_in_count (more_values v vs) = omega (arith, length-append (contents v) (contents_in vs), words_count v, words_in_count vs)

pub counted : (t : TypeTree) (v : Value) → IsOf t v → Counted t v
counted t v is = record { count = words_count v ∙ count_of t v is; contents = count_of t v is; words = length-map (contents v) word_of ∙ count_of t v is }

-- ---- where a part stands

-- what stands before a part of n words at an offset, and what stands after it
pub record Split (old : List Content) (new : Value → List Content) (v : Value) (from wide whole : ℕ) : Type 0 where
  pub front : List Content
  pub rest : List Content
  pub was : old ≡ front ++ (contents v ++ rest)
  pub becomes : (x : Value) → new x ≡ front ++ (contents x ++ rest)
  pub before : length front ≡ from
  pub ends : from + wide ≤ whole

split_nth : (ts : PartTypes) (vs : Values) (i : ℕ) → AreOf ts vs → i < types_in ts → Split (contents_in vs) (λ x. contents_in (with_nth vs i x)) (nth_value vs i) (widths_before ts i) (width (nth_type ts i)) (widths ts)
split_nth no_types vs i are l = absurd (omega arith)
split_nth (more_types t ts) no_values i are l = absurd are
split_nth (more_types t ts) (more_values v vs) zero are l = record { front = []; rest = contents_in vs; was = refl; becomes = λ x. refl; before = refl; ends = omega arith }
split_nth (more_types t ts) (more_values v vs) (suc i) are l =
    let r = split_nth ts vs i are.1 (omega arith) in record {
      front = contents v ++ r.front;
      rest = r.rest;
      was = ap (λ l. contents v ++ l) r.was ∙ sym (append_assoc (contents v) r.front (contents (nth_value vs i) ++ r.rest));
      becomes = λ x. ap (λ l. contents v ++ l) (r.becomes x) ∙ sym (append_assoc (contents v) r.front (contents x ++ r.rest));
      before = omega (arith, length-append (contents v) r.front, count_of t v are.0, r.before);
      ends = omega (arith, r.ends);
    }

pub split_part : (t : TypeTree) (v : Value) (i : ℕ) → IsOf t v → i < part_count t → Split (contents v) (λ x. contents (with_part v i x)) (part v i) (part_offset t i) (width (part_type t i)) (width t)
split_part t v i is l =
    parted (λ u. Split (contents u) (λ x. contents (with_part u i x)) (part u i) (part_offset t i) (width (part_type t i)) (width t)) t v i is l
    (λ vs are. subst (λ n. Split (contents_in vs) (λ x. contents_in (with_nth vs i x)) (nth_value vs i) (part_offset t i) (width (part_type t i)) n) (width_parts t i l) (split_nth (part_types t) vs i are l))

pub split_at : (t s : TypeTree) (v : Value) (path : List ℕ) → IsOf t v → Leads t path s → Split (contents v) (λ x. contents (with_path v path x)) (at_path v path) (offset t path) (width s) (width t)
split_at t s v [] is leads = record {
  front = [];
  rest = [];
  was = sym (append-nil (contents v));
  becomes = λ x. sym (append-nil (contents x));
  before = refl;
  ends = let e = ap width leads in omega arith;
}
split_at t s v (i ∷ path) is leads =
    let o = split_part t v i is leads.0 in
    let r = split_at (part_type t i) s (part v i) path (part_is t v i is leads.0) leads.1 in record {
      front = o.front ++ r.front;
      rest = r.rest ++ o.rest;
      was = o.was ∙ regroup o.front (contents (part v i)) r.front (contents (at_path (part v i) path)) r.rest o.rest r.was;
      becomes = λ x. o.becomes (with_path (part v i) path x) ∙ regroup o.front (contents (with_path (part v i) path x)) r.front (contents x) r.rest o.rest (r.becomes x);
      before = omega (arith, length-append o.front r.front, o.before, r.before);
      ends = omega (arith, o.ends, r.ends);
    }
  where
    regroup : (a p b c d e : List Content) → p ≡ b ++ (c ++ d) → a ++ (p ++ e) ≡ (a ++ b) ++ (c ++ (d ++ e))
    regroup a p b c d e h =
        ap (λ l. a ++ (l ++ e)) h ∙ ap (λ l. a ++ l) (append_assoc b (c ++ d) e) ∙ ap (λ l. a ++ (b ++ l)) (append_assoc c d e) ∙ sym (append_assoc a b (c ++ (d ++ e)))

pub leads_to : (t s : TypeTree) (path : List ℕ) → Leads t path s → type_at t path ≡ s
leads_to t s [] leads = leads
leads_to t s (i ∷ path) leads = leads_to (part_type t i) s path leads.1

pub at_is : (t s : TypeTree) (v : Value) (path : List ℕ) → IsOf t v → Leads t path s → IsOf s (at_path v path)
at_is t s v [] is leads = subst (λ r. IsOf r v) leads is
at_is t s v (i ∷ path) is leads = at_is (part_type t i) s (part v i) path (part_is t v i is leads.0) leads.1

pub with_is : (t s : TypeTree) (v x : Value) (path : List ℕ) → IsOf t v → Leads t path s → IsOf s x → IsOf t (with_path v path x)
with_is t s v x [] is leads ix = subst (λ r. IsOf r x) (sym leads) ix
with_is t s v x (i ∷ path) is leads ix = with_part_is t v (with_path (part v i) path x) i is leads.0 (with_is (part_type t i) s (part v i) x path (part_is t v i is leads.0) leads.1 ix)

pub sliced : (t s : TypeTree) (v : Value) (path : List ℕ) → IsOf t v → Leads t path s → Sliced t s v path
sliced t s v path is leads =
    let r = split_at t s v path is leads in
    let part : contents (at_path v path) ≡ slice (contents v) (offset t path) (width s) =
    sym (ap (λ l. slice l (offset t path) (width s)) r.was ∙ Lists.middle Content r.front (contents (at_path v path)) r.rest (offset t path) (width s) r.before (count_of s (at_path v path) (at_is t s v path is leads)))
    in record { within = r.ends; contents = part; words = ap (map word_of) part ∙ Lists.map_slice Content ℕ word_of (contents v) (offset t path) (width s) }

pub replaced : (t s : TypeTree) (v x : Value) (path : List ℕ) → IsOf t v → Leads t path s → IsOf s x → Replaced t v x path
replaced t s v x path is leads ix =
    let r = split_at t s v path is leads in
    let same = count_of s (at_path v path) (at_is t s v path is leads) ∙ sym (count_of s x ix) in
    let new : contents (with_path v path x) ≡ with_slice (contents v) (offset t path) (contents x) =
    r.becomes x ∙ sym (ap (λ l. with_slice l (offset t path) (contents x)) r.was ∙ Lists.middle_new Content r.front (contents (at_path v path)) r.rest (contents x) (offset t path) r.before same)
    in record { contents = new; words = ap (map word_of) new ∙ Lists.map_with_slice Content ℕ word_of (contents v) (contents x) (offset t path) }

pub part_words : (t s : TypeTree) (v x : Value) (path : List ℕ) (none : Content) → IsOf t v → Leads t path s → IsOf s x → PartWords t s v x path none
part_words t s v x path none is leads ix =
    let r = split_at t s v path is leads in
    let long = count_of s (at_path v path) (at_is t s v path is leads) in
    let new = count_of s x ix in
    record {
      read = λ j l. sym (ap (λ c. get_or c (offset t path + j) none) r.was ∙ Lists.in_middle Content r.front (contents (at_path v path)) r.rest (offset t path) j none r.before (omega (arith, l, long)));
      inside = λ j l. ap (λ c. get_or c (offset t path + j) none) (r.becomes x) ∙ Lists.in_middle Content r.front (contents x) r.rest (offset t path) j none r.before (omega (arith, l, new));
      before = λ j l.
          ap (λ c. get_or c j none) (r.becomes x) ∙ Lists.before_middle Content r.front (contents x) r.rest (offset t path) j none r.before l
          ∙ sym (ap (λ c. get_or c j none) r.was ∙ Lists.before_middle Content r.front (contents (at_path v path)) r.rest (offset t path) j none r.before l);
      behind = λ j l.
          ap (λ c. get_or c j none) (r.becomes x) ∙ Lists.behind_middle Content r.front (contents x) r.rest (offset t path) (width s) j none r.before new l
          ∙ sym (ap (λ c. get_or c j none) r.was ∙ Lists.behind_middle Content r.front (contents (at_path v path)) r.rest (offset t path) (width s) j none r.before long l);
    }

pub held_parts : (Holds : Content → ℕ → Type 0) (t s : TypeTree) (v x : Value) (path : List ℕ) (ws xs : List ℕ) → IsOf t v → Leads t path s → IsOf s x → Hold Holds (contents v) ws → Hold Holds (contents x) xs → HeldParts Holds t s v x path ws xs
held_parts Holds t s v x path ws xs is leads ix h g =
    let r = split_at t s v path is leads in
    let long = count_of s (at_path v path) (at_is t s v path is leads) in
    let all = subst (λ c. Hold Holds c ws) r.was h in
    record {
      read =
          subst (λ n. Hold Holds (contents (at_path v path)) (slice ws n (width s))) r.before
          (subst (λ n. Hold Holds (contents (at_path v path)) (slice ws (length r.front) n)) long (Lists.held_middle Holds r.front (contents (at_path v path)) r.rest ws all));
      replaced =
          subst (λ c. Hold Holds c (with_slice ws (offset t path) xs)) (sym (r.becomes x))
          (subst (λ n. Hold Holds (r.front ++ (contents x ++ r.rest)) (with_slice ws n xs)) r.before
          (Lists.held_new Holds r.front (contents (at_path v path)) r.rest (contents x) ws xs (long ∙ sym (count_of s x ix)) all g));
    }

-- ---- elements

repeated_count : (n : ℕ) (t : TypeTree) → types_in (repeated n t) ≡ n
repeated_count zero t = refl
repeated_count (suc n) t = ap suc (repeated_count n t)

repeated_nth : (n : ℕ) (t : TypeTree) (i : ℕ) → i < n → nth_type (repeated n t) i ≡ t
repeated_nth zero t i l = absurd (omega arith)
repeated_nth (suc n) t zero l = refl
repeated_nth (suc n) t (suc i) l = repeated_nth n t i (omega arith)

repeated_before : (n : ℕ) (t : TypeTree) (i : ℕ) → i < n → widths_before (repeated n t) i ≡ i * width t
repeated_before zero t i l = absurd (omega arith)
repeated_before (suc n) t zero l = omega arith
repeated_before (suc n) t (suc i) l = omega (arith, repeated_before n t i (omega arith), suc-mul i (width t))

pub element : (n : ℕ) (t s : TypeTree) (i : ℕ) (path : List ℕ) → i < n → Element n t s i path
element n t s i path l = record {
  offset = ap (λ k. k + offset (nth_type (repeated n t) i) path) (repeated_before n t i l) ∙ ap (λ r. i * width t + offset r path) (repeated_nth n t i l);
  leads = λ h. (subst (λ k. i < k) (sym (repeated_count n t)) l, subst (λ r. Leads r path s) (sym (repeated_nth n t i l)) h);
  led = λ h. subst (λ r. Leads r path s) (repeated_nth n t i l) h.1;
}

-- ---- parts

pub typed : (t s : TypeTree) (v x : Value) (path : List ℕ) → IsOf t v → Leads t path s → IsOf s x → Typed t s v x path
typed t s v x path is leads ix = record { part = at_is t s v path is leads; replaced = with_is t s v x path is leads ix }

nth_fits : (vs : Values) (i : ℕ) → FitWords vs → FitsWords (nth_value vs i)
nth_fits no_values i f = search arith
nth_fits (more_values v vs) zero f = f.0
nth_fits (more_values v vs) (suc i) f = nth_fits vs i f.1

with_nth_fits : (vs : Values) (i : ℕ) (x : Value) → FitWords vs → FitsWords x → FitWords (with_nth vs i x)
with_nth_fits no_values i x f g = tt
with_nth_fits (more_values v vs) zero x f g = (g, f.1)
with_nth_fits (more_values v vs) (suc i) x f g = (f.0, with_nth_fits vs i x f.1 g)

part_fits : (v : Value) (i : ℕ) → FitsWords v → FitsWords (part v i)
part_fits (composite vs) i f = nth_fits vs i f
part_fits v i f = nth_fits no_values i tt

with_part_fits : (v x : Value) (i : ℕ) → FitsWords v → FitsWords x → FitsWords (with_part v i x)
with_part_fits (composite vs) x i f g = with_nth_fits vs i x f g
with_part_fits v x i f g = f

pub fits : (v x : Value) (path : List ℕ) → FitsWords v → FitsWords x → Fits v x path
fits v x [] f g = record { part = f; replaced = g }
fits v x (i ∷ path) f g =
    let r = fits (part v i) x path (part_fits v i f) g in
    record { part = r.part; replaced = with_part_fits v (with_path (part v i) path x) i f r.replaced }

nth_again : (ts : PartTypes) (vs : Values) (i : ℕ) (x : Value) → AreOf ts vs → i < types_in ts → nth_value (with_nth vs i x) i ≡ x
nth_again no_types vs i x are l = absurd (omega arith)
nth_again (more_types t ts) no_values i x are l = absurd are
nth_again (more_types t ts) (more_values v vs) zero x are l = refl
nth_again (more_types t ts) (more_values v vs) (suc i) x are l = nth_again ts vs i x are.1 (omega arith)

pub part_again : (t : TypeTree) (v x : Value) (i : ℕ) → IsOf t v → i < part_count t → part (with_part v i x) i ≡ x
part_again t v x i is l = parted (λ u. part (with_part u i x) i ≡ x) t v i is l (λ vs are. nth_again (part_types t) vs i x are l)

with_nth_twice : (vs : Values) (i : ℕ) (x y : Value) → with_nth (with_nth vs i x) i y ≡ with_nth vs i y
with_nth_twice no_values i x y = refl
with_nth_twice (more_values v vs) zero x y = refl
with_nth_twice (more_values v vs) (suc i) x y = ap (more_values v) (with_nth_twice vs i x y)

with_part_twice : (v x y : Value) (i : ℕ) → with_part (with_part v i x) i y ≡ with_part v i y
with_part_twice (composite vs) x y i = ap composite (with_nth_twice vs i x y)
with_part_twice v x y i = refl

with_nth_same : (vs : Values) (i : ℕ) → with_nth vs i (nth_value vs i) ≡ vs
with_nth_same no_values i = refl
with_nth_same (more_values v vs) zero = refl
with_nth_same (more_values v vs) (suc i) = ap (more_values v) (with_nth_same vs i)

with_part_same : (v : Value) (i : ℕ) → with_part v i (part v i) ≡ v
with_part_same (composite vs) i = ap composite (with_nth_same vs i)
with_part_same v i = refl

pub read_back : (t s : TypeTree) (v x y : Value) (path : List ℕ) → IsOf t v → Leads t path s → ReadBack v x y path
read_back t s v x y [] is leads = record { read = refl; again = refl; nothing = refl }
read_back t s v x y (i ∷ path) is leads =
    let r = read_back (part_type t i) s (part v i) x y path (part_is t v i is leads.0) leads.1 in
    let here = part_again t v (with_path (part v i) path x) i is leads.0 in
    record {
      read = ap (λ u. at_path u path) here ∙ r.read;
      again = with_part_twice v (with_path (part v i) path x) (with_path (part (with_part v i (with_path (part v i) path x)) i) path y) i ∙ ap (λ u. with_part v i (with_path u path y)) here ∙ ap (with_part v i) r.again;
      nothing = ap (with_part v i) r.nothing ∙ with_part_same v i;
    }

nth_other : (vs : Values) (i j : ℕ) (x : Value) → i ≢ j → nth_value (with_nth vs i x) j ≡ nth_value vs j
nth_other no_values i j x ne = refl
nth_other (more_values v vs) zero zero x ne = absurd (ne refl)
nth_other (more_values v vs) zero (suc j) x ne = refl
nth_other (more_values v vs) (suc i) zero x ne = refl
nth_other (more_values v vs) (suc i) (suc j) x ne = nth_other vs i j x (λ e. ne (ap suc e))

part_other : (v x : Value) (i j : ℕ) → i ≢ j → part (with_part v i x) j ≡ part v j
part_other (composite vs) x i j ne = nth_other vs i j x ne
part_other v x i j ne = refl

-- a part that something was put in, or none if there is no such part
nth_put : (P : Value → Type 0) (vs : Values) (i : ℕ) (x : Value) → P x → P (nth_value vs i) → P (nth_value (with_nth vs i x) i)
nth_put P no_values i x new old = old
nth_put P (more_values v vs) zero x new old = new
nth_put P (more_values v vs) (suc i) x new old = nth_put P vs i x new old

part_put : (P : Value → Type 0) (v x : Value) (i : ℕ) → P x → P (part v i) → P (part (with_part v i x) i)
part_put P (composite vs) x i new old = nth_put P vs i x new old
part_put P v x i new old = old

pub others_stay : (v x : Value) (p q : List ℕ) → Apart p q → at_path (with_path v p x) q ≡ at_path v q
others_stay v x [] q apart = absurd apart
others_stay v x (i ∷ p) [] apart = absurd apart
others_stay v x (i ∷ p) (j ∷ q) (inl ne) = ap (λ u. at_path u q) (part_other v (with_path (part v i) p x) i j ne)
others_stay v x (i ∷ p) (j ∷ q) (inr (e, apart)) =
    subst (λ k. at_path (part (with_part v i (with_path (part v i) p x)) k) q ≡ at_path (part v k) q) e
    (part_put (λ u. at_path u q ≡ at_path (part v i) q) v (with_path (part v i) p x) i (others_stay (part v i) x p q apart) refl)

pub joined : (v x : Value) (p q : List ℕ) → Joined v x p q
joined v x [] q = record { read = refl; replaced = refl }
joined v x (i ∷ p) q = let r = joined (part v i) x p q in record { read = r.read; replaced = ap (with_part v i) r.replaced }

pub joined_types : (t s r : TypeTree) (p q : List ℕ) → Leads t p s → JoinedTypes t s r p q
joined_types t s r [] q leads = record {
  offset = omega (arith, ap (λ u. offset u q) leads);
  leads = λ h. subst (λ u. Leads u q r) (sym leads) h;
  led = λ h. subst (λ u. Leads u q r) leads h;
}
joined_types t s r (i ∷ p) q leads =
    let k = joined_types (part_type t i) s r p q leads.1 in
    record { offset = omega (arith, k.offset); leads = λ h. (leads.0, k.leads h); led = λ h. k.led h.1 }

-- ---- parts that lie apart

before_next : (ts : PartTypes) (i j : ℕ) → i < j → j < types_in ts → widths_before ts i + width (nth_type ts i) ≤ widths_before ts j
before_next no_types i j l m = absurd (omega arith)
before_next (more_types t ts) i zero l m = absurd (omega arith)
before_next (more_types t ts) zero (suc j) l m = omega arith
before_next (more_types t ts) (suc i) (suc j) l m = omega (arith, before_next ts i j (omega arith) (omega arith))

nth_within : (ts : PartTypes) (i : ℕ) → i < types_in ts → widths_before ts i + width (nth_type ts i) ≤ widths ts
nth_within no_types i l = absurd (omega arith)
nth_within (more_types t ts) zero l = omega arith
nth_within (more_types t ts) (suc i) l = omega (arith, nth_within ts i (omega arith))

pub within : (t s : TypeTree) (path : List ℕ) → Leads t path s → offset t path + width s ≤ width t
within t s [] leads = let e = ap width leads in omega arith
within t s (i ∷ path) leads = omega (arith, within (part_type t i) s path leads.1, nth_within (part_types t) i leads.0, width_parts t i leads.0)

order : (i j : ℕ) → i ≢ j → (i < j) ⊎ (j < i)
order zero zero ne = absurd (ne refl)
order zero (suc j) ne = inl (omega arith)
order (suc i) zero ne = inr (omega arith)
order (suc i) (suc j) ne = elim (order i j (λ e. ne (ap suc e))) [ inl l ↦ inl (omega arith) | inr l ↦ inr (omega arith) ]

pub lie_apart : (t s r : TypeTree) (p q : List ℕ) → Apart p q → Leads t p s → Leads t q r → (offset t p + width s ≤ offset t q) ⊎ (offset t q + width r ≤ offset t p)
lie_apart t s r [] q apart lp lq = absurd apart
lie_apart t s r (i ∷ p) [] apart lp lq = absurd apart
lie_apart t s r (i ∷ p) (j ∷ q) (inl ne) lp lq =
    let a = within (part_type t i) s p lp.1 in
    let b = within (part_type t j) r q lq.1 in
    elim (order i j ne) [
      | inl l ↦ inl (omega (arith, a, before_next (part_types t) i j l lq.0))
      | inr l ↦ inr (omega (arith, b, before_next (part_types t) j i l lp.0))
    ]
lie_apart t s r (i ∷ p) (j ∷ q) (inr (e, apart)) lp lq =
    subst (λ k. Leads (part_type t k) q r → (part_offset t i + offset (part_type t i) p + width s ≤ part_offset t k + offset (part_type t k) q) ⊎ (part_offset t k + offset (part_type t k) q + width r ≤ part_offset t i + offset (part_type t i) p)) e
    (λ lq1. elim (lie_apart (part_type t i) s r p q apart lp.1 lq1) [ inl l ↦ inl (omega arith) | inr l ↦ inr (omega arith) ]) lq.1
