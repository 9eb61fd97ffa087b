-- Some elements of an array side by side: their words lie one after the other, from those of the first one on.
use Rattle.std.proofs.Common.{◌≡◌, inl, inr, ℕ, zero, suc, ◌+◌, ◌-◌, ◌*◌, ◌<◌, ◌≤◌, List, [], ◌∷◌, ◌++◌, length, Option, Some, refl, sym, ap, ◌∙◌, subst, arith, get_or, length-append, suc-mul, append_assoc, take_at, drop_at}
use Rattle.std.specs.Prelude.{slice_get, slice_index, take, drop, replicate}
use Rattle.std.proofs.Math.Seq.{take-add}
use Rattle.std.proofs.lemmas.List.{get_or_append_left, get_or-append_right, length-take-le, drop-drop, take-append-drop}
use Rattle.typed_syntax.specs.Types.{TypeTree, ints, array_of, width}
use Rattle.typed_syntax.specs.Value.{Value, IsOf}
use Rattle.typed_syntax.specs.Paths.{at_path, with_path, Leads, offset}
use Rattle.typed_syntax.specs.Words.{Content, contents, contents_in}
use Rattle.typed_syntax.specs.Syntax.{Program}
use Rattle.typed_syntax.specs.Form.{AreOf}
use Rattle.frames.specs.Placement.{Placement}
use Rattle.value_laws.proofs.Parts.{element, joined_types, at_is, count_of, within}
use Rattle.meaning.specs.Trace.{World, Cell}
use Rattle.meaning.specs.Store.{with_value, read_at, written, values_of, elements_at, elements_written, no_cell}
use Rattle.machine.specs.Machine.{put_words, words_at}
use Rattle.state_relation.specs.Leaves.{times, leaves, all_leaves}
use Rattle.state_relation.specs.Views.{Place, on_heap, View}
use Rattle.state_relation.specs.Relation.{Memory, Frame, nothing, Leading, StandsFor, Stand, contents_of, Good}
use Rattle.state_relation.proofs.Lists.{some_same, less_or, get_is, change_same, change_other}
use Rattle.state_relation.proofs.Leaves.{leaves_length}
use Rattle.state_relation.proofs.Relation.{Later, stand_later}
use Rattle.state_relation.proofs.Changes.{home_value, stands_same}
use Rattle.state_relation.proofs.Births.{home_write}
use Rattle.std.proofs.lemmas.Bool.{cases_eq}

-- ---- words

-- words that are read in two parts, and put in two
pub read_joined : (xs : List ℕ) (a m k : ℕ) → words_at xs a (m + k) ≡ words_at xs a m ++ words_at xs (a + m) k
read_joined xs a m k = take-add m k (drop a xs) ∙ ap (λ l. take m (drop a xs) ++ take k l) (drop-drop m a xs)

pub put_joined : (xs : List ℕ) (a b : ℕ) (ys zs : List ℕ) → a ≤ length xs → a + length ys ≡ b → put_words xs a (ys ++ zs) ≡ put_words (put_words xs a ys) b zs
put_joined xs a b ys zs le ends =
    let front = take a xs in let rest = drop (a + length ys) xs in
    let long : length (front ++ ys) ≡ b = omega (arith, length-append front ys, length-take-le a xs le, ends) in
    let whole : put_words xs a ys ≡ (front ++ ys) ++ rest = sym (append_assoc front ys rest) in
    let behind : drop (b + length zs) (put_words xs a ys) ≡ drop (a + length (ys ++ zs)) xs =
    (let f : a + length ys + length zs ≡ a + length (ys ++ zs) = omega (arith, length-append ys zs) in
    sym (drop-drop (length zs) b (put_words xs a ys)) ∙ ap (λ l. drop (length zs) (drop b l)) whole ∙ ap (drop (length zs)) (drop_at (front ++ ys) rest b long)
    ∙ drop-drop (length zs) (a + length ys) xs ∙ ap (λ n. drop n xs) f) in
    ap (λ l. front ++ l) (append_assoc ys zs (drop (a + length (ys ++ zs)) xs)) ∙ sym (append_assoc front ys (zs ++ drop (a + length (ys ++ zs)) xs))
    ∙ sym (ap (λ l. l ++ (zs ++ drop (b + length zs) (put_words xs a ys))) (ap (take b) whole ∙ take_at (front ++ ys) rest b long) ∙ ap (λ l. (front ++ ys) ++ (zs ++ l)) behind)

pub put_none : (xs : List ℕ) (a : ℕ) → put_words xs a [] ≡ xs
put_none xs a = let e : a + 0 ≡ a = omega arith in ap (λ n. take a xs ++ drop n xs) e ∙ take-append-drop a xs

module _ (p : Program) (led : Leading) (homes : ℕ → Option Place) (hi : ℕ) (w : World) where
  -- words that stand for contents, joined and cut
  pub stand_joined : (ls ms : List TypeTree) (cs ds : List Content) (xs ys : List ℕ) → length cs ≡ length ls → Stand p led homes hi w ls cs xs → Stand p led homes hi w ms ds ys → Stand p led homes hi w (ls ++ ms) (cs ++ ds) (xs ++ ys)
  stand_joined ls ms cs ds xs ys same a b = record { long = long; each = λ j lt. at j lt }
    where
      long : length (xs ++ ys) ≡ length (ls ++ ms)
      long = let m = a.long in let n = b.long in omega (arith, length-append xs ys, length-append ls ms, m, n)

      at : (j : ℕ) → j < length (ls ++ ms) → StandsFor p led homes hi w (get_or (ls ++ ms) j ints) (get_or (cs ++ ds) j nothing) (slice_index (xs ++ ys) j)
      at j lt = elim (less_or j (length ls)) [
        | inl l ↦ (
            let m = a.long in
            stands_same p led homes hi w (get_or ls j ints) (get_or (ls ++ ms) j ints) (get_or cs j nothing) (get_or (cs ++ ds) j nothing) (slice_index xs j) (slice_index (xs ++ ys) j)
            (sym (get_or_append_left ls ms ints j l)) (sym (get_or_append_left cs ds nothing j (omega (arith, same)))) (sym (get_or_append_left xs ys 0 j (omega (arith, m)))) (a.each j l)
            )
        | inr l ↦ (
            let m = a.long in let k = j - length ls in
            stands_same p led homes hi w (get_or ms k ints) (get_or (ls ++ ms) j ints) (get_or ds k nothing) (get_or (cs ++ ds) j nothing) (slice_index ys k) (slice_index (xs ++ ys) j)
            (sym (get_or-append_right ls ms (length ls) j ints refl l)) (sym (get_or-append_right cs ds (length ls) j nothing same l)) (sym (get_or-append_right xs ys (length ls) j 0 m l)) (b.each k (omega (arith, length-append ls ms)))
            )
      ]

  module _ (ls ms : List TypeTree) (cs ds : List Content) (xs ys : List ℕ) (same : length cs ≡ length ls) (long : length xs ≡ length ls) (s : Stand p led homes hi w (ls ++ ms) (cs ++ ds) (xs ++ ys)) where
    pub stand_front : Stand p led homes hi w ls cs xs
    stand_front = record {
      long = long;
      each = λ j l.
          stands_same p led homes hi w (get_or (ls ++ ms) j ints) (get_or ls j ints) (get_or (cs ++ ds) j nothing) (get_or cs j nothing) (slice_index (xs ++ ys) j) (slice_index xs j)
          (get_or_append_left ls ms ints j l) (get_or_append_left cs ds nothing j (omega (arith, same))) (get_or_append_left xs ys 0 j (omega (arith, long))) (s.each j (omega (arith, length-append ls ms)));
    }

    pub stand_back : Stand p led homes hi w ms ds ys
    stand_back = record {
      long = let n = s.long in omega (arith, length-append xs ys, length-append ls ms, n);
      each = λ j l.
          let at : length ls + j - length ls ≡ j = omega arith in
          stands_same p led homes hi w (get_or (ls ++ ms) (length ls + j) ints) (get_or ms j ints) (get_or (cs ++ ds) (length ls + j) nothing) (get_or ds j nothing) (slice_index (xs ++ ys) (length ls + j)) (slice_index ys j)
          (get_or-append_right ls ms (length ls) (length ls + j) ints refl (omega arith) ∙ ap (λ n. get_or ms n ints) at)
          (get_or-append_right cs ds (length ls) (length ls + j) nothing same (omega arith) ∙ ap (λ n. get_or ds n nothing) at)
          (get_or-append_right xs ys (length ls) (length ls + j) 0 long (omega arith) ∙ ap (slice_index ys) at)
          (s.each (length ls + j) (omega (arith, length-append ls ms)));
    }

-- ---- elements side by side

-- the values of an array, and of elements of one type, have the same words
pub values_contents : (vs : List Value) → contents_in (values_of vs) ≡ contents_of vs
values_contents [] = refl
values_contents (v ∷ vs) = ap (λ l. contents v ++ l) (values_contents vs)

pub alike_leaves : (n : ℕ) (t : TypeTree) → all_leaves (replicate n t) ≡ times n (leaves t)
alike_leaves zero t = refl
alike_leaves (suc n) t = ap (λ l. leaves t ++ l) (alike_leaves n t)

pub alike_length : (n : ℕ) (t : TypeTree) → length (all_leaves (replicate n t)) ≡ n * width t
alike_length zero t = omega arith
alike_length (suc n) t = omega (arith, length-append (leaves t) (all_leaves (replicate n t)), leaves_length t, alike_length n t, suc-mul n (width t))

pub alike_contents : (t : TypeTree) (vs : List Value) → AreOf (replicate (length vs) t) vs → length (contents_of vs) ≡ length vs * width t
alike_contents t [] are = omega arith
alike_contents t (v ∷ vs) are = omega (arith, length-append (contents v) (contents_of vs), count_of t v are.0, alike_contents t vs are.1, suc-mul (length vs) (width t))

pub elements_length : (w : World) (x : ℕ) (path : List ℕ) (first n : ℕ) → length (elements_at w x path first n) ≡ n
elements_length w x path first zero = refl
elements_length w x path first (suc n) = ap suc (elements_length w x path (suc first) n)

-- where an element lies
abbrev pub stretch : TypeTree → List ℕ → TypeTree → (first : ℕ) → ℕ
stretch whole path t first = offset whole path + first * width t

pub element_leads : (whole t : TypeTree) (path : List ℕ) (long i : ℕ) → i < long → Leads whole path (array_of long t) → Leads whole (path ++ i ∷ []) t × (offset whole (path ++ i ∷ []) ≡ stretch whole path t i)
element_leads whole t path long i lt leads =
    let one = element long t t i [] lt in let j = joined_types whole (array_of long t) t path (i ∷ []) leads in
    (j.leads (one.leads refl), omega (arith, j.offset, one.offset))

-- a variable's cell with another part at a path
pub written_later : (homes : ℕ → Option Place) (w : World) (x : ℕ) (y : Cell) (path : List ℕ) (val : Value) → slice_get w.store x ≡ Some y → Later homes homes w (written w x path val)
written_later homes w x y path val here = record {
  keeps = λ z b e. elim (cases_eq z x) [
    | inl q ↦ (with_value y (with_path y.value path val), ap (slice_get (written w x path val).store) q ∙ change_same w.store x path val y here, ap (λ (r : Cell). r.type) (some_same (sym here ∙ ap (slice_get w.store) (sym q) ∙ e)))
    | inr ne ↦ (b, change_other w.store x z path val ne ∙ e, refl)
  ];
  ends = λ z q lt h. h;
  stays = λ z h lt e. e;
}

module _ (p : Program) (pl : Placement) (max : ℕ) (led : Leading) where
  -- the words of n elements from one on
  pub stretch_value : (v : View) (w : World) (calls : List Frame) (s : Memory) (x h : ℕ) (y : Cell) (path : List ℕ) (t : TypeTree) (long n first : ℕ) → slice_get w.store x ≡ Some y → v.homes x ≡ Some (on_heap h) → Leads y.type path (array_of long t) → first + n ≤ long → Good p pl max led v w calls s
      → Stand p led v.homes s.hi w (all_leaves (replicate n t)) (contents_of (elements_at w x path first n)) (words_at s.heap (h + stretch y.type path t first) (n * width t))
  stretch_value v w calls s x h y path t long zero first here home leads le g =
      let none : 0 ≡ 0 * width t = omega arith in
      subst (λ n. Stand p led v.homes s.hi w [] [] (words_at s.heap (h + stretch y.type path t first) n)) none (record { long = refl; each = λ j lt. absurd (omega arith) })
  stretch_value v w calls s x h y path t long (suc n) first here home leads le g =
      let one = element_leads y.type t path long first (omega arith) leads in
      let value : at_path y.value (path ++ first ∷ []) ≡ read_at w x (path ++ first ∷ []) = ap (λ (r : Cell). at_path r.value (path ++ first ∷ [])) (sym (get_is w.store x y no_cell here)) in
      let st = home_value p pl max led v w calls s x y (on_heap h) (path ++ first ∷ []) t here home one.0 g in
      let st1 = subst (λ k. Stand p led v.homes s.hi w (leaves t) (contents k) (words_at s.heap (h + offset y.type (path ++ first ∷ [])) (width t))) value st in
      let st2 = subst (λ k. Stand p led v.homes s.hi w (leaves t) (contents (read_at w x (path ++ first ∷ []))) (words_at s.heap (h + k) (width t))) one.1 st1 in
      let rest = stretch_value v w calls s x h y path t long n (suc first) here home leads (omega arith) g in
      let next : h + stretch y.type path t (suc first) ≡ h + stretch y.type path t first + width t = omega (arith, suc-mul first (width t)) in
      let wide : width t + n * width t ≡ suc n * width t = omega (arith, suc-mul n (width t)) in
      let count : length (contents (read_at w x (path ++ first ∷ []))) ≡ length (leaves t) =
      ap (λ k. length (contents k)) (sym value) ∙ count_of t (at_path y.value (path ++ first ∷ [])) (at_is y.type t y.value (path ++ first ∷ []) (g.homed.typed x y here) one.0) ∙ sym (leaves_length t) in
      subst (λ k. Stand p led v.homes s.hi w (leaves t ++ all_leaves (replicate n t)) (contents (read_at w x (path ++ first ∷ [])) ++ contents_of (elements_at w x path (suc first) n)) (words_at s.heap (h + stretch y.type path t first) k)) wide
      (subst (λ k. Stand p led v.homes s.hi w (leaves t ++ all_leaves (replicate n t)) (contents (read_at w x (path ++ first ∷ [])) ++ contents_of (elements_at w x path (suc first) n)) k) (sym (read_joined s.heap (h + stretch y.type path t first) (width t) (n * width t)))
      (stand_joined p led v.homes s.hi w (leaves t) (all_leaves (replicate n t)) (contents (read_at w x (path ++ first ∷ []))) (contents_of (elements_at w x path (suc first) n)) (words_at s.heap (h + stretch y.type path t first) (width t)) (words_at s.heap (h + stretch y.type path t first + width t) (n * width t)) count st2
      (subst (λ k. Stand p led v.homes s.hi w (all_leaves (replicate n t)) (contents_of (elements_at w x path (suc first) n)) (words_at s.heap k (n * width t))) next rest)))

  -- they are of the elements' type
  pub stretch_are : (v : View) (w : World) (calls : List Frame) (s : Memory) (x : ℕ) (y : Cell) (path : List ℕ) (t : TypeTree) (long n first : ℕ) → slice_get w.store x ≡ Some y → Leads y.type path (array_of long t) → first + n ≤ long → Good p pl max led v w calls s
      → AreOf (replicate n t) (elements_at w x path first n)
  stretch_are v w calls s x y path t long zero first here leads le g = tt
  stretch_are v w calls s x y path t long (suc n) first here leads le g =
      let one = element_leads y.type t path long first (omega arith) leads in
      let value : at_path y.value (path ++ first ∷ []) ≡ read_at w x (path ++ first ∷ []) = ap (λ (r : Cell). at_path r.value (path ++ first ∷ [])) (sym (get_is w.store x y no_cell here)) in
      (subst (λ k. IsOf t k) value (at_is y.type t y.value (path ++ first ∷ []) (g.homed.typed x y here) one.0), stretch_are v w calls s x y path t long n (suc first) here leads (omega arith) g)

  -- elements from one on get other values
  pub stretch_write : (v : View) (w : World) (calls : List Frame) (s : Memory) (x h : ℕ) (y : Cell) (path : List ℕ) (t : TypeTree) (long first : ℕ) (vs : List Value) (xs : List ℕ) → slice_get w.store x ≡ Some y → v.homes x ≡ Some (on_heap h) → Leads y.type path (array_of long t) → first + length vs ≤ long → AreOf (replicate (length vs) t) vs
      → Stand p led v.homes s.hi w (all_leaves (replicate (length vs) t)) (contents_of vs) xs → Good p pl max led v w calls s
      → Good p pl max led v (elements_written w x path first vs) calls (record s { heap = put_words s.heap (h + stretch y.type path t first) xs })
  stretch_write v w calls s x h y path t long first [] [] here home leads le are st g =
      subst (λ k. Good p pl max led v w calls (record s { heap = k })) (sym (put_none s.heap (h + stretch y.type path t first))) g
  stretch_write v w calls s x h y path t long first [] (u ∷ us) here home leads le are st g = let k = st.long in absurd (omega (arith, k))
  stretch_write v w calls s x h y path t long first (val ∷ vs) xs here home leads le are st g =
      let one = element_leads y.type t path long first (omega arith) leads in
      let n = width t in let front = take n xs in let rest = drop n xs in
      let many : length xs ≡ suc (length vs) * n = st.long ∙ alike_length (suc (length vs)) t in
      let wide : length front ≡ n = length-take-le n xs (omega (arith, many, suc-mul (length vs) n)) in
      let whole = subst (λ k. Stand p led v.homes s.hi w (leaves t ++ all_leaves (replicate (length vs) t)) (contents val ++ contents_of vs) k) (sym (take-append-drop n xs)) st in
      let count : length (contents val) ≡ length (leaves t) = count_of t val are.0 ∙ sym (leaves_length t) in
      let sf = stand_front p led v.homes s.hi w (leaves t) (all_leaves (replicate (length vs) t)) (contents val) (contents_of vs) front rest count (wide ∙ sym (leaves_length t)) whole in
      let sb = stand_back p led v.homes s.hi w (leaves t) (all_leaves (replicate (length vs) t)) (contents val) (contents_of vs) front rest count (wide ∙ sym (leaves_length t)) whole in
      let w1 = written w x (path ++ first ∷ []) val in
      let g1 = home_write p pl max led v w calls s x y (path ++ first ∷ []) t val front here one.0 are.0 sf g (on_heap h) home in
      let g2 = subst (λ k. Good p pl max led v w1 calls (record s { heap = put_words s.heap (h + k) front })) one.1 g1 in
      let inside = g.homed.heaped x h y here home in let used = g.sized.heap_used in
      let s1 : Memory = record s { heap = put_words s.heap (h + stretch y.type path t first) front } in
      let later = written_later v.homes w x y (path ++ first ∷ []) val here in
      let next : h + stretch y.type path t (suc first) ≡ h + stretch y.type path t first + n = omega (arith, suc-mul first n) in
      let g3 = stretch_write v w1 calls s1 x h (with_value y (with_path y.value (path ++ first ∷ []) val)) path t long (suc first) vs rest (change_same w.store x (path ++ first ∷ []) val y here) home leads (omega arith) are.1
      (stand_later p led v.homes v.homes s.hi w w1 (all_leaves (replicate (length vs) t)) (contents_of vs) rest later sb) g2 in
      let g4 = subst (λ k. Good p pl max led v (elements_written w1 x path (suc first) vs) calls (record s { heap = put_words (put_words s.heap (h + stretch y.type path t first) front) k rest })) next g3 in
      let low : h + stretch y.type path t first ≤ length s.heap = within_heap inside used in
      subst (λ k. Good p pl max led v (elements_written w1 x path (suc first) vs) calls (record s { heap = put_words s.heap (h + stretch y.type path t first) k })) (take-append-drop n xs)
      (subst (λ k. Good p pl max led v (elements_written w1 x path (suc first) vs) calls (record s { heap = k })) (sym (put_joined s.heap (h + stretch y.type path t first) (h + stretch y.type path t first + n) front rest low (ap (λ k. h + stretch y.type path t first + k) wide))) g4)
    where
      within_heap : h + width y.type ≤ v.heap → length s.heap ≡ v.heap → h + stretch y.type path t first ≤ length s.heap
      within_heap inside used =
          let one = element_leads y.type t path long first (omega arith) leads in let e = within y.type t (path ++ first ∷ []) one.0 in omega (arith, e, one.1, inside, used)
