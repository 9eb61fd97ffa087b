-- Values with parts in temps: a part that is taken, a part that is put, and a value that stands up to a part.
use Rattle.std.proofs.Common.{◌≡◌, ◌⊎◌, inl, inr, ℕ, zero, suc, ◌+◌, ◌-◌, ◌<◌, ◌≤◌, Bool, true, false, ◌&&◌, List, [], ◌∷◌, ◌++◌, length, Some, refl, sym, ap, ◌∙◌, subst, arith, get_or, append_assoc, length-append, take_at}
use Rattle.std.specs.Prelude.{nat_le, slice_get, slice_index, take, drop, replicate}
use Rattle.std.proofs.lemmas.List.{get_or-take, get_or-drop, get_or_append_left, get_or-append_right, length-drop, length-replicate, length-take-le, take-append-drop, take_all}
use Rattle.std.proofs.Math.Seq.{take-add}
use Rattle.std.proofs.lemmas.Bool.{true≢false, leb-true}
use Rattle.std.proofs.lemmas.Option.{slice_get_within}
use Rattle.typed_syntax.specs.Types.{TypeTree, PartTypes, no_types, more_types, width, widths, types_in, nth_type, widths_before, part_types, part_count, part_type, part_offset}
use Rattle.typed_syntax.specs.Value.{Value, IsOf}
use Rattle.typed_syntax.specs.Paths.{part, with_part}
use Rattle.typed_syntax.specs.Words.{Content, contents}
use Rattle.value_laws.proofs.Lists
use Rattle.value_laws.proofs.Parts.{count_of, width_parts, part_is, Split, split_part}
use Rattle.typed_syntax.specs.Syntax.{Elements, no_elements, element, ascend_from, words_before, words_through}
use Rattle.typed_syntax.specs.Form.{ElementsFit}
use Rattle.frames.specs.Frames.{outgoing_of, temps_of}
use Rattle.meaning.specs.Trace.{World, Trace}
use Rattle.machine.specs.Machine.{put_words, words_at}
use Rattle.program_code.specs.Code.{temp, slots_of, zeros as zeros_code, gap_code, gap_size}
use Rattle.state_relation.specs.Leaves.{leaves, leaf}
use Rattle.state_relation.specs.Views.{View}
use Rattle.state_relation.specs.Relation.{Memory, puts, Kept, word, spent, Frame, hold, word_at, Stand, StandsFor, StandsKept, nothing, depth}
use Rattle.state_relation.proofs.Lists.{less_or, get_is, append_cases, append_new}
use Rattle.state_relation.proofs.Distances.{put_other, put_same, read_length, read_index}
use Rattle.state_relation.proofs.Leaves.{leaves_length, part_leaf}
use Rattle.state_relation.proofs.Words.{all_zero}
use Rattle.state_relation.proofs.Changes.{stands_same, keeps_at, keeps_get, kept_word, good_kept, good_free, good_more}
use Rattle.state_relation.proofs.Built.{Built}
use Rattle.state_relation.proofs.Rules.{At, Stands, later, place_is, stepped, zeroed_by}
use Rattle.state_relation.proofs.Values.{kept, kept_length, fewer}
use Rattle.simulated_code.proofs.Standing.{Standing}

-- ---- a value up to a part

module _ (t : TypeTree) (x v : Value) (i : ℕ) (l : i < part_count t) (ix : IsOf t x) (iv : IsOf (part_type t i) v) where
  abbrev split : Split (contents x) (λ y. contents (with_part x i y)) (part x i) (part_offset t i) (width (part_type t i)) (width t)
  split = split_part t x i ix l

  front_is : take (part_offset t i) (contents x) ≡ split.front
  front_is = ap (take (part_offset t i)) split.was ∙ take_at split.front (contents (part x i) ++ split.rest) (part_offset t i) split.before

  -- the part follows what stands before it
  pub joined_part : take (part_offset t i) (contents x) ++ contents v ≡ take (words_through t i) (contents (with_part x i v))
  joined_part =
      ap (λ l. l ++ contents v) front_is
      ∙ sym (take_at (split.front ++ contents v) split.rest (words_through t i) (omega (arith, length-append split.front (contents v), split.before, count_of (part_type t i) v iv)))
      ∙ ap (take (words_through t i)) (append_assoc split.front (contents v) split.rest ∙ sym (split.becomes v))

  pub part_ends : words_through t i ≤ width t
  part_ends = split.ends

  pub behind_part : (j : ℕ) → words_through t i ≤ j → get_or (contents (with_part x i v)) j nothing ≡ get_or (contents x) j nothing
  behind_part j le =
      ap (λ c. get_or c j nothing) (split.becomes v)
      ∙ Lists.behind_middle Content split.front (contents v) split.rest (part_offset t i) (width (part_type t i)) j nothing split.before (count_of (part_type t i) v iv) le
      ∙ sym (ap (λ c. get_or c j nothing) split.was ∙ Lists.behind_middle Content split.front (contents (part x i)) split.rest (part_offset t i) (width (part_type t i)) j nothing split.before (count_of (part_type t i) (part x i) (part_is t x i ix l)) le)

  pub before_part : (j : ℕ) → j < part_offset t i → get_or (contents (with_part x i v)) j nothing ≡ get_or (contents x) j nothing
  before_part j lt =
      ap (λ c. get_or c j nothing) (split.becomes v) ∙ Lists.before_middle Content split.front (contents v) split.rest (part_offset t i) j nothing split.before lt
      ∙ sym (ap (λ c. get_or c j nothing) split.was ∙ Lists.before_middle Content split.front (contents (part x i)) split.rest (part_offset t i) j nothing split.before lt)

  pub inside_part : (j : ℕ) → j < width (part_type t i) → get_or (contents (with_part x i v)) (part_offset t i + j) nothing ≡ get_or (contents v) j nothing
  inside_part j lt =
      ap (λ c. get_or c (part_offset t i + j) nothing) (split.becomes v)
      ∙ Lists.in_middle Content split.front (contents v) split.rest (part_offset t i) j nothing split.before (omega (arith, count_of (part_type t i) v iv))

pub part_words : (t : TypeTree) (x : Value) (i j : ℕ) → i < part_count t → IsOf t x → j < width (part_type t i) → get_or (contents (part x i)) j nothing ≡ get_or (contents x) (part_offset t i + j) nothing
part_words t x i j l ix lt =
    let r = split_part t x i ix l in
    sym (ap (λ c. get_or c (part_offset t i + j) nothing) r.was
    ∙ Lists.in_middle Content r.front (contents (part x i)) r.rest (part_offset t i) j nothing r.before (omega (arith, count_of (part_type t i) (part x i) (part_is t x i ix l))))

nth_within : (ts : PartTypes) (i : ℕ) → i < types_in ts → widths_before ts i + width (nth_type ts i) ≤ widths ts
nth_within no_types i l = absurd (omega arith)
nth_within (more_types t ts) zero l = omega arith
nth_within (more_types t ts) (suc i) l = omega (arith, nth_within ts i (omega arith))

pub part_within : (t : TypeTree) (i : ℕ) → i < part_count t → words_through t i ≤ width t
part_within t i l = omega (arith, nth_within (part_types t) i l, width_parts t i l)

before_next : (ts : PartTypes) (i j : ℕ) → i < j → j < types_in ts → widths_before ts i + width (nth_type ts i) ≤ widths_before ts j
before_next no_types i j l m = absurd (omega arith)
before_next (more_types t ts) i zero l m = absurd (omega arith)
before_next (more_types t ts) zero (suc j) l m = omega arith
before_next (more_types t ts) (suc i) (suc j) l m = omega (arith, before_next ts i j (omega arith) (omega arith))

both_true : (a b : Bool) → (a && b) ≡ true → (a ≡ true) × (b ≡ true)
both_true true b e = (refl, e)
both_true false b e = absurd (true≢false (sym e))

-- elements in order: each lies after the one before it
pub in_order : (n i : ℕ) (e : _) (es : Elements) → ascend_from n (element i e es) ≡ true → (n ≤ i) × (ascend_from (suc i) es ≡ true)
in_order n i e es h = let b = both_true (nat_le n i) (ascend_from (suc i) es) h in (leb-true n i b.0, b.1)

-- ---- what temps keep of it

pub kept_at : (t : TypeTree) (x : Value) (j : ℕ) → j < width t → get_or (kept t x) j spent ≡ word (leaf t j) (get_or (contents x) j nothing)
kept_at t x j l = get_is (kept t x) j (word (leaf t j) (get_or (contents x) j nothing)) spent (keeps_at (leaves t) (contents x) j (omega (arith, leaves_length t)))

-- lists with the same items are the same
same_kept : (xs ys : List Kept) → length xs ≡ length ys → ((i : ℕ) → i < length ys → get_or xs i spent ≡ get_or ys i spent) → xs ≡ ys
same_kept [] [] e h = refl
same_kept [] (y ∷ ys) e h = absurd (omega (arith, e))
same_kept (x ∷ xs) [] e h = absurd (omega (arith, e))
same_kept (x ∷ xs) (y ∷ ys) e h =
    let a : x ≡ y = h 0 (omega arith) in let z : length xs ≡ length ys = omega (arith, e) in
    ap (λ i. i ∷ xs) a ∙ ap (λ is. y ∷ is) (same_kept xs ys z (λ i lt. h (suc i) (omega arith)))

-- the type of a word of a part
pub part_word : (t : TypeTree) (i j : ℕ) → i < part_count t → j < width (part_type t i) → leaf t (part_offset t i + j) ≡ leaf (part_type t i) j
part_word t i j l lt = let none : part_offset t i + 0 + j ≡ part_offset t i + j = omega arith in ap (leaf t) (sym none) ∙ part_leaf t (part_type t i) (i ∷ []) j (l, refl) lt

-- a part follows what stands before it
pub kept_through : (t : TypeTree) (x y : Value) (i : ℕ) → i < part_count t → IsOf t x → IsOf (part_type t i) y → take (part_offset t i) (kept t x) ++ kept (part_type t i) y ≡ take (words_through t i) (kept t (with_part x i y))
kept_through t x y i l ix iy = same_kept (before ++ kept u y) after long each
  where
    u : TypeTree
    u = part_type t i

    off : ℕ
    off = part_offset t i

    before : List Kept
    before = take off (kept t x)

    after : List Kept
    after = take (words_through t i) (kept t (with_part x i y))

    ends : words_through t i ≤ width t
    ends = part_within t i l

    front_long : length before ≡ off
    front_long = let e = ends in length-take-le off (kept t x) (omega (arith, kept_length t x))

    after_long : length after ≡ words_through t i
    after_long = let e = ends in length-take-le (words_through t i) (kept t (with_part x i y)) (omega (arith, kept_length t (with_part x i y)))

    long : length (before ++ kept u y) ≡ length after
    long = omega (arith, length-append before (kept u y), front_long, kept_length u y, after_long)

    each : (j : ℕ) → j < length after → get_or (before ++ kept u y) j spent ≡ get_or after j spent
    each j lt = elim (less_or j off) [
      | inl a ↦ (let e = ends in let n = after_long in
          get_or_append_left before (kept u y) spent j (omega (arith, front_long)) ∙ get_or-take off (kept t x) j spent a ∙ kept_at t x j (omega arith)
          ∙ ap (word (leaf t j)) (sym (before_part t x y i l ix iy j a)) ∙ sym (get_or-take (words_through t i) (kept t (with_part x i y)) j spent (omega arith) ∙ kept_at t (with_part x i y) j (omega arith)))
      | inr a ↦ (let e = ends in let n = after_long in let q : ℕ = j - off in let ql : q < width u = omega arith in let qj : off + q ≡ j = omega arith in
          get_or-append_right before (kept u y) off j spent front_long a ∙ kept_at u y q ql
          ∙ ap (λ r. word r (get_or (contents y) q nothing)) (sym (part_word t i q l ql)) ∙ ap (λ r. word (leaf t (off + q)) r) (sym (inside_part t x y i l ix iy q ql))
          ∙ ap (λ r. word (leaf t r) (get_or (contents (with_part x i y)) r nothing)) qj
          ∙ sym (get_or-take (words_through t i) (kept t (with_part x i y)) j spent (omega arith) ∙ kept_at t (with_part x i y) j (omega arith)))
    ]

module _ (m : Built) where
  pub gap_fits : (scope : List ℕ) (t : TypeTree) (x : Value) (i : ℕ) (es : Elements) → IsOf t x → i < part_count t → ElementsFit m.program scope t es → ascend_from (suc i) es ≡ true → words_through t i ≤ words_before t es
  gap_fits scope t x i no_elements ix l fit h = (split_part t x i ix l).ends
  gap_fits scope t x i (element j e es) ix l fit h = before_next (part_types t) i j (in_order (suc i) j e es h).0 fit.0

  pub before_fits : (scope : List ℕ) (t : TypeTree) (x : Value) (es : Elements) → IsOf t x → ElementsFit m.program scope t es → words_before t es ≤ width t
  before_fits scope t x no_elements ix fit = omega arith
  before_fits scope t x (element i e es) ix fit = let ends = (split_part t x i ix fit.0).ends in omega arith

  module _ (c : Frame) (calls : List Frame) (v : View) (w : World) (held : List Kept) (t : TypeTree) (x : Value) where
    -- a value stands up to n words
    abbrev pub UpTo : ℕ → Memory → Type 0
    UpTo n s = Stands m v w (hold c (held ++ take n (kept t x)) ∷ calls) s

    pub up_to_wide : (n : ℕ) → n ≤ width t → length (held ++ take n (kept t x)) ≡ length held + n
    up_to_wide n le = omega (arith, length-append held (take n (kept t x)), length-take-le n (kept t x) (omega (arith, kept_length t x)))

    pub up_to_end : (s : Memory) → UpTo (width t) s → Stands m v w (hold c (held ++ kept t x) ∷ calls) s
    up_to_end s g = subst (λ l. Stands m v w (hold c (held ++ l) ∷ calls) s) (take_all (width t) (kept t x) (omega (arith, kept_length t x))) g

    -- the whole stands, so its front does
    pub up_to_front : (n : ℕ) (s : Memory) → Stands m v w (hold c (held ++ kept t x) ∷ calls) s → UpTo n s
    up_to_front n s g =
        fewer m v w c calls s (held ++ take n (kept t x)) (drop n (kept t x))
        (subst (λ l. Stands m v w (hold c l ∷ calls) s) (ap (λ l. held ++ l) (sym (take-append-drop n (kept t x))) ∙ sym (append_assoc held (take n (kept t x)) (drop n (kept t x)))) g)

    -- a part follows
    pub up_to_part : (y : Value) (i : ℕ) → i < part_count t → IsOf t x → IsOf (part_type t i) y → (s : Memory) → Stands m v w (hold c ((held ++ take (part_offset t i) (kept t x)) ++ kept (part_type t i) y) ∷ calls) s
        → Stands m v w (hold c (held ++ take (words_through t i) (kept t (with_part x i y))) ∷ calls) s
    up_to_part y i l ix iy s g =
        subst (λ ks. Stands m v w (hold c ks ∷ calls) s) (append_assoc held (take (part_offset t i) (kept t x)) (kept (part_type t i) y) ∙ ap (λ ks. held ++ ks) (kept_through t x y i l ix iy)) g

    -- zeros after it
    pub up_to_zeros : (h n more : ℕ) (s : Memory) → length held ≡ h → n + more ≤ width t → h + width t ≤ temps_of m.program m.placement c.func → ((j : ℕ) → n ≤ j → j < n + more → StandsFor m.program m.leading v.homes s.hi w (leaf t j) (get_or (contents x) j nothing) 0)
        → UpTo n s → UpTo (n + more) (puts s (temp (slots_of m.program m.placement c.func) (h + n)) (replicate more 0))
    up_to_zeros h n more s hh le room zeros g =
        subst (λ ks. Stands m v w (hold c ks ∷ calls) (puts s (temp (slots_of m.program m.placement c.func) (h + n)) (replicate more 0))) (append_assoc held (take n (kept t x)) (take more (drop n (kept t x))) ∙ ap (λ ks. held ++ ks) (sym (take-add n more (kept t x))))
        (good_more m.program m.placement m.max m.leading v w (hold c (held ++ take n (kept t x))) calls s (h + n) (take more (drop n (kept t x))) (replicate more 0) (omega (arith, up_to_wide n (omega arith), hh)) (length-replicate more 0 ∙ sym count) (omega (arith, count)) each g)
      where
        count : length (take more (drop n (kept t x))) ≡ more
        count = length-take-le more (drop n (kept t x)) (omega (arith, kept_length t x, length-drop n (kept t x)))

        each : (i : ℕ) (k : Kept) → slice_get (take more (drop n (kept t x))) i ≡ Some k → StandsKept m.program m.leading v.homes s.hi w k (slice_index (replicate more 0) i)
        each i k e =
            let lt : i < more = subst (λ j. i < j) count (slice_get_within (take more (drop n (kept t x))) i k e) in
            let there : word (leaf t (n + i)) (get_or (contents x) (n + i) nothing) ≡ k = sym (get_or-take more (drop n (kept t x)) i spent lt ∙ get_or-drop n (kept t x) i spent ∙ kept_at t x (n + i) (omega arith)) ∙ get_is (take more (drop n (kept t x))) i k spent e in
            subst (λ a. StandsKept m.program m.leading v.homes s.hi w a (slice_index (replicate more 0) i)) there
            (subst (λ u. StandsFor m.program m.leading v.homes s.hi w (leaf t (n + i)) (get_or (contents x) (n + i) nothing) u) (sym (all_zero more i)) (zeros (n + i) (omega arith) (omega arith)))

  -- the words between a part and the next element are zeroed again
  pub gap_follows : (c : Frame) (calls : List Frame) (v : View) (w : World) (held : List Kept) (t : TypeTree) (x : Value) (h from to pc lo b : ℕ) (rest : Trace) → length held ≡ h → from ≤ to → to ≤ width t → h + width t ≤ temps_of m.program m.placement c.func
      → ((j : ℕ) (hi : ℕ) → from ≤ j → j < to → StandsFor m.program m.leading v.homes hi w (leaf t j) (get_or (contents x) j nothing) 0) → Standing m.code c.fn pc (gap_code (to - from) (temp (slots_of m.program m.placement c.func) (h + from)))
      → At m lo 0 b v rest (UpTo c calls v w held t x to) (pc + gap_size (to - from)) → At m (suc lo) 0 b v rest (UpTo c calls v w held t x from) pc
  gap_follows c calls v w held t x h from to pc lo b rest hh le inside room zeros has post = by (to - from) refl has post
    where
      by : (gap : ℕ) → gap ≡ to - from → Standing m.code c.fn pc (gap_code gap (temp (slots_of m.program m.placement c.func) (h + from))) → At m lo 0 b v rest (UpTo c calls v w held t x to) (pc + gap_size gap) → At m (suc lo) 0 b v rest (UpTo c calls v w held t x from) pc
      by zero e has post =
          let same : to ≡ from = omega arith in let q : pc + 0 ≡ pc = omega arith in
          later m {lo = lo} {hi = 0} {b = b} (omega arith) (omega arith) (omega arith) (place_is m q (subst (λ n. At m lo 0 b v rest (UpTo c calls v w held t x n) (pc + 0)) same post))
      by (suc k) e has post =
          let more : to ≡ from + suc k = omega arith in let there = temp (slots_of m.program m.placement c.func) (h + from) in
          later m {lo = suc lo} {hi = 1} {b = b} (omega arith) (omega arith) (omega arith)
          (stepped m {lo = lo} {hi = 0} (zeros_code (suc k) there) (λ s. puts s there (replicate (suc k) 0)) has.0.0
          (λ s g. (
            zeroed_by m (suc k) there pc s (omega arith) (let u = g.sized.used in omega arith),
            refl,
            up_to_zeros c calls v w held t x h from (suc k) s hh (omega arith) room (λ j f l. zeros j s.hi f (omega arith)) g,
          ))
          (subst (λ n. At m lo 0 b v rest (UpTo c calls v w held t x n) (pc + 1)) more post))

  -- a part of a value in temps gets another value
  module _ (c : Frame) (calls : List Frame) (v : View) (w : World) (s : Memory) (xs : List ℕ) (held : List Kept) (h : ℕ) (t : TypeTree) (x y : Value) (i : ℕ) (hh : length held ≡ h) (l : i < part_count t) (ix : IsOf t x) (iy : IsOf (part_type t i) y)
      (stand : Stand m.program m.leading v.homes s.hi w (leaves (part_type t i)) (contents y) xs) (g : Stands m v w (hold c (held ++ kept t x) ∷ calls) s) where
    abbrev new : Value
    new = with_part x i y

    abbrev from : ℕ
    from = part_offset t i

    abbrev wide : ℕ
    wide = width (part_type t i)

    abbrev slot : ℕ
    slot = temp (slots_of m.program m.placement c.func) (h + from)

    abbrev deep : ℕ
    deep = depth m.program m.placement (c ∷ calls)

    many : length xs ≡ wide
    many = stand.long ∙ leaves_length (part_type t i)

    room : h + width t ≤ temps_of m.program m.placement c.func
    room = let r = g.homed.owned.0.room in omega (arith, length-append held (kept t x), kept_length t x)

    ends : from + wide ≤ width t
    ends = part_within t i l

    below : Stands m v w (hold c held ∷ calls) (puts s slot xs)
    below = let r = room in let e = ends in good_free m.program m.placement m.max m.leading v w (hold c held) calls s slot xs (inl (omega arith, omega (arith, many))) (fewer m v w c calls s held (kept t x) g)

    -- a word that stands where the value is
    now : (j : ℕ) → j < width t → StandsFor m.program m.leading v.homes s.hi w (leaf t j) (get_or (contents new) j nothing) (word_at (put_words s.words slot xs) (deep - (outgoing_of m.program c.func + (h + j))))
    now j lt = elim (less_or j from) [ inl p ↦ old (inl p) (sym (before_part t x y i l ix iy j p)) | inr p ↦ elim (less_or j (from + wide)) [ inr q ↦ old (inr q) (sym (behind_part t x y i l ix iy j q)) | inl q ↦ inner p q ] ]
      where
        old : (j < from) ⊎ (from + wide ≤ j) → get_or (contents x) j nothing ≡ get_or (contents new) j nothing → StandsFor m.program m.leading v.homes s.hi w (leaf t j) (get_or (contents new) j nothing) (word_at (put_words s.words slot xs) (deep - (outgoing_of m.program c.func + (h + j))))
        old out e =
            let u = g.sized.used in let r = room in let n = ends in
            let there : slice_get (held ++ kept t x) (h + j) ≡ Some (word (leaf t j) (get_or (contents x) j nothing)) = ap (λ k. slice_get (held ++ kept t x) (k + j)) (sym hh) ∙ append_new held (kept t x) j ∙ keeps_at (leaves t) (contents x) j (omega (arith, leaves_length t)) in
            stands_same m.program m.leading v.homes s.hi w (leaf t j) (leaf t j) (get_or (contents x) j nothing) (get_or (contents new) j nothing) (word_at s.words (deep - (outgoing_of m.program c.func + (h + j)))) (word_at (put_words s.words slot xs) (deep - (outgoing_of m.program c.func + (h + j)))) refl e
            (sym (put_other s.words slot xs (deep - (outgoing_of m.program c.func + (h + j))) (omega (arith, many)) (elim out [ inl p ↦ inl (omega arith) | inr p ↦ inr (omega (arith, many)) ])))
            (g.framed.kept (deep - (outgoing_of m.program c.func + (h + j))) (word (leaf t j) (get_or (contents x) j nothing)) (inl (h + j, omega arith, refl, there)))

        inner : from ≤ j → j < from + wide → StandsFor m.program m.leading v.homes s.hi w (leaf t j) (get_or (contents new) j nothing) (word_at (put_words s.words slot xs) (deep - (outgoing_of m.program c.func + (h + j))))
        inner p q =
            let u = g.sized.used in let r = room in let n = ends in let k : ℕ = j - from in let kl : k < wide = omega arith in let kj : from + k ≡ j = omega arith in
            stands_same m.program m.leading v.homes s.hi w (leaf (part_type t i) k) (leaf t j) (get_or (contents y) k nothing) (get_or (contents new) j nothing) (slice_index xs k) (word_at (put_words s.words slot xs) (deep - (outgoing_of m.program c.func + (h + j))))
            (sym (part_word t i k l kl) ∙ ap (leaf t) kj) (sym (inside_part t x y i l ix iy k kl) ∙ ap (λ z. get_or (contents new) z nothing) kj)
            (sym (put_same s.words slot xs k (deep - (outgoing_of m.program c.func + (h + j))) (omega (arith, many)) (omega (arith, many)) (omega arith))) (stand.each k (omega (arith, leaves_length (part_type t i))))

    pub part_put : Stands m v w (hold c (held ++ kept t new) ∷ calls) (puts s slot xs)
    part_put = good_kept m.program m.placement m.max m.leading v w (hold c held) calls (puts s slot xs) (held ++ kept t new) (let r = room in omega (arith, length-append held (kept t new), kept_length t new)) each below
      where
        each : (j : ℕ) (k : Kept) → j < temps_of m.program m.placement c.func → slice_get (held ++ kept t new) j ≡ Some k → StandsKept m.program m.leading v.homes s.hi w k (word_at (put_words s.words slot xs) (deep - (outgoing_of m.program c.func + j)))
        each j k lt e = elim (append_cases held (kept t new) k j e) [
          | inl o ↦ below.framed.kept (deep - (outgoing_of m.program c.func + j)) k (inl (j, lt, refl, o))
          | inr (n, q, f) ↦ (
              let a = keeps_get (leaves t) (contents new) n k f in let nl : n < width t = subst (λ z. n < z) (leaves_length t) a.0 in let there : h + n ≡ j = omega (arith, q, hh) in
              subst (λ z. StandsKept m.program m.leading v.homes s.hi w k (word_at (put_words s.words slot xs) (deep - (outgoing_of m.program c.func + z)))) there
              (subst (λ z. StandsKept m.program m.leading v.homes s.hi w z (word_at (put_words s.words slot xs) (deep - (outgoing_of m.program c.func + (h + n))))) a.1 (now n nl))
              )
        ]

  -- a part of a value in temps as words that are read
  module _ (c : Frame) (calls : List Frame) (v : View) (w : World) (s : Memory) (held : List Kept) (h : ℕ) (t : TypeTree) (x : Value) (i : ℕ) (hh : length held ≡ h) (l : i < part_count t) (ix : IsOf t x) (g : Stands m v w (hold c (held ++ kept t x) ∷ calls) s) where
    pub part_room : temp (slots_of m.program m.placement c.func) (h + part_offset t i) + width (part_type t i) ≤ length s.words
    part_room = let r = g.homed.owned.0.room in let u = g.sized.used in let e = part_within t i l in omega (arith, length-append held (kept t x), kept_length t x)

    pub part_stand : Stand m.program m.leading v.homes s.hi w (leaves (part_type t i)) (contents (part x i)) (words_at s.words (temp (slots_of m.program m.placement c.func) (h + part_offset t i)) (width (part_type t i)))
    part_stand =
        let n = width (part_type t i) in let from = temp (slots_of m.program m.placement c.func) (h + part_offset t i) in let e = part_within t i l in
        record {
          long = read_length s.words from n part_room ∙ sym (leaves_length (part_type t i));
          each = λ j lt1.
              let lt : j < n = subst (λ z. j < z) (leaves_length (part_type t i)) lt1 in let at = part_offset t i + j in
              let there : slice_get (held ++ kept t x) (h + at) ≡ Some (word (leaf t at) (get_or (contents x) at nothing)) = ap (λ k. slice_get (held ++ kept t x) (k + at)) (sym hh) ∙ append_new held (kept t x) at ∙ keeps_at (leaves t) (contents x) at (omega (arith, leaves_length t)) in
              let q : temp (slots_of m.program m.placement c.func) (h + at) ≡ from + j = omega arith in
              stands_same m.program m.leading v.homes s.hi w (leaf t at) (leaf (part_type t i) j) (get_or (contents x) at nothing) (get_or (contents (part x i)) j nothing) (slice_index s.words (temp (slots_of m.program m.placement c.func) (h + at))) (slice_index (words_at s.words from n) j)
              (part_word t i j l lt) (sym (part_words t x i j l ix lt)) (ap (slice_index s.words) q ∙ sym (read_index s.words from n j lt))
              (kept_word m.program m.placement m.max m.leading v w (hold c (held ++ kept t x)) calls s (h + at) (word (leaf t at) (get_or (contents x) at nothing)) there g);
        }
