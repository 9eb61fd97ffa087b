-- The instructions on slices that are held in temps, which bear no variable: an element's address, a part of a slice, its length and its
-- capacity, and an element's value.
use Rattle.std.proofs.Common.{◌≡◌, inl, inr, ℕ, zero, suc, ◌+◌, ◌-◌, ◌*◌, ◌%◌, ◌^◌, ◌<◌, ◌≤◌, ℤ, pos, negsuc, Bool, true, false, List, [], ◌∷◌, ◌++◌, length, Some, Result, Ok, Err, refl, sym, ap, ◌∙◌, subst, arith, mod-eq_of_lt, append_assoc, append-nil, length-append}
use Rattle.std.specs.Prelude.{slice_get, slice_index, nat_lt, nat_le, if◌then◌else◌}
use Rattle.std.specs.Int.{w64, cast_signed}
use Rattle.std.proofs.lemmas.Bool.{lt-ltb, ltb-true, leb-true}
use Rattle.std.proofs.lemmas.Bool.Decides.{leb_tells}
use Rattle.std.proofs.lemmas.Int.{to_z_pos}
use Rattle.typed_syntax.specs.Positions.{Position}
use Rattle.typed_syntax.specs.Types.{TypeTree, ints, slice_of, width}
use Rattle.typed_syntax.specs.Value.{Value, int, nil_slice, slice_in, IsOf}
use Rattle.typed_syntax.specs.Paths.{offset, at_path}
use Rattle.typed_syntax.specs.Words.{contents}
use Rattle.typed_syntax.specs.Syntax.{type_named}
use Rattle.frames.specs.Frames.{temps_of}
use Rattle.value_laws.proofs.Parts.{at_is}
use Rattle.meaning.specs.Trace.{World, Cell, Trace, End, Panic, Fault, index_out_of_range, slice_high, slice_low}
use Rattle.meaning.specs.Store.{read_at, no_cell}
use Rattle.meaning.specs.Operators.{Bounds, slice_variable, slice_path, slice_first, slice_count, slice_room, slice_part, bounds_within, low_below, cut_from, nil_within}
use Rattle.meaning.specs.Meaning
use Rattle.meaning.specs.Meaning.{Env, Go, Then, Ways, Spot, element_of, element_spot}
use Rattle.simulation.specs.Steps.{Goes}
use Rattle.heap_bump.specs.Words.{first_address}
use Rattle.isa.specs.declared.instr.MoveEvent.TheVariants.{Silent}
use Rattle.isa.specs.declared.instr.Instr.TheVariants.{Move, Load, SliceIndex, Slice}
use Rattle.machine.specs.declared.run_state.Ending.TheVariants.{Panic as Panicked}
use Rattle.machine.specs.declared.run_state.Panic.TheVariants.{IndexOutOfRange, SliceHigh, SliceLow}
use Rattle.machine.specs.Machine as Machine
use Rattle.machine.specs.Machine.{words_at, is_below, is_upto, header, number as number_of}
use Rattle.program_code.specs.Code.{temp, slots_of}
use Rattle.state_relation.specs.Leaves.{leaves}
use Rattle.state_relation.specs.Views.{on_heap, View}
use Rattle.state_relation.specs.Relation.{Memory, puts, sets, Kept, address, Frame, hold, Reaches, Stand}
use Rattle.state_relation.proofs.Lists.{get_is, less_or, append_new}
use Rattle.state_relation.proofs.Addresses.{times_sum, element_reached}
use Rattle.state_relation.proofs.Stretches.{stretch}
use Rattle.state_relation.proofs.Changes.{kept_word, good_set, home_value}
use Rattle.state_relation.proofs.Touches.{loaded}
use Rattle.state_relation.proofs.Built.{Built}
use Rattle.state_relation.proofs.Rules.{state_of, does_at, seen_from, At, Stands, knowing, stepped, halts, moved_one}
use Rattle.state_relation.proofs.Values.{kept, kept_length, fewer, held_stand, held_room, held_word, value_put, temp_set}
use Rattle.state_relation.proofs.Slices.{pos_word, neg_word, below_is, below_not, upto_is, upto_not, Points, Based, Header, points_into, header_of, header_stands}

pub three_words : (xs : List ℕ) (a : ℕ) → a + 3 ≤ length xs → words_at xs a 3 ≡ slice_index xs a ∷ (slice_index xs (a + 1) ∷ (slice_index xs (a + 2) ∷ []))
three_words [] a le = absurd (omega arith)
three_words (x ∷ []) zero le = absurd (omega arith)
three_words (x ∷ y ∷ []) zero le = absurd (omega arith)
three_words (x ∷ y ∷ z ∷ xs) zero le = refl
three_words (x ∷ xs) (suc a) le =
    let one : suc a + 1 ≡ suc (a + 1) = omega arith in let two : suc a + 2 ≡ suc (a + 2) = omega arith in
    three_words xs a (omega arith) ∙ ap (λ n. slice_index xs a ∷ (slice_index (x ∷ xs) n ∷ (slice_index xs (a + 2) ∷ []))) (sym one) ∙ ap (λ n. slice_index xs a ∷ (slice_index (x ∷ xs) (suc a + 1) ∷ (slice_index (x ∷ xs) n ∷ []))) (sym two)

-- what is based on a slice with an element
pub points_count : (v : View) (w : World) (n : ℕ) (t : TypeTree) (sv : Value) (i u : ℕ) → IsOf (slice_of n) sv → i < slice_room sv → Based v w t sv u → Points v w t (slice_variable sv) (slice_path sv) (slice_first sv) (slice_room sv) u
points_count v w n t nil_slice i u is lt b = absurd (omega arith)
points_count v w n t (slice_in x path first count room) i u is lt b = b
points_count v w n t sv i u is lt b = absurd is

-- an element's address has 64 bits
pub points_small : (v : View) (w : World) (t : TypeTree) (x : ℕ) (path : List ℕ) (first room u i : ℕ) → i ≤ room → v.heap ≤ 2 ^ 32 → Points v w t x path first room u → u + i * width t < 2 ^ 64
points_small v w t x path first room u i le small b =
    let j = room - i in let all : i + j ≡ room = omega arith in let product : (i + j) * width t ≡ room * width t = ap (λ k. k * width t) all in
    let inside = b.inside in let word = b.word in omega (arith, inside, word, small, product, times_sum i j (width t))

module _ (m : Built) (c : Frame) (calls : List Frame) where
  abbrev pub T : ℕ → ℕ
  T h = temp (slots_of m.program m.placement c.func) h

  -- the header of a slice that is held
  pub header_held : (v : View) (w : World) (s : Memory) (held more : List Kept) (n : ℕ) (sv : Value) (h : ℕ) → length held ≡ h → IsOf (slice_of n) sv → Stands m v w (hold c (held ++ (kept (slice_of n) sv ++ more)) ∷ calls) s
      → Header v w (type_named m.program n) sv (slice_index s.words (T h)) (slice_index s.words (T h + 1)) (slice_index s.words (T h + 2))
  header_held v w s held more n sv h hh is g =
      let st = held_stand m v w c calls s held more (slice_of n) sv h 3 hh refl g in
      let room = held_room m v w c calls s held more (slice_of n) sv h 3 hh refl g in
      header_of m v w (hold c (held ++ (kept (slice_of n) sv ++ more)) ∷ calls) s g n sv (slice_index s.words (T h)) (slice_index s.words (T h + 1)) (slice_index s.words (T h + 2)) is
      (subst (λ xs. Stand m.program m.leading v.homes s.hi w (leaves (slice_of n)) (contents sv) xs) (three_words s.words (T h) room) st)

  -- and the word of a number
  pub number_held : (v : View) (w : World) (s : Memory) (held more : List Kept) (z : ℤ) (h : ℕ) → length held ≡ h → Stands m v w (hold c (held ++ (kept ints (int z) ++ more)) ∷ calls) s → cast_signed w64 (slice_index s.words (T h)) ≡ z
  number_held v w s held more z h hh g = (held_word m v w c calls s held more ints (int z) h hh (inl refl) g).0

  abbrev pub with_number : List Kept → ℕ → Value → ℤ → List Kept → List Kept
  with_number held n sv z more = held ++ (kept (slice_of n) sv ++ (kept ints (int z) ++ more))

  pub behind_slice : (v : View) (w : World) (s : Memory) (held more : List Kept) (n : ℕ) (sv : Value) → Stands m v w (hold c (held ++ (kept (slice_of n) sv ++ more)) ∷ calls) s → Stands m v w (hold c ((held ++ kept (slice_of n) sv) ++ more) ∷ calls) s
  behind_slice v w s held more n sv g = subst (λ l. Stands m v w (hold c l ∷ calls) s) (sym (append_assoc held (kept (slice_of n) sv) more)) g

  pub behind_wide : (held : List Kept) (n : ℕ) (sv : Value) (h : ℕ) → length held ≡ h → length (held ++ kept (slice_of n) sv) ≡ h + 3
  behind_wide held n sv h hh = omega (arith, length-append held (kept (slice_of n) sv), kept_length (slice_of n) sv)

  pub index_held : (v : View) (w : World) (s : Memory) (held more : List Kept) (n : ℕ) (sv : Value) (z : ℤ) (h : ℕ) → length held ≡ h → Stands m v w (hold c (with_number held n sv z more) ∷ calls) s → cast_signed w64 (slice_index s.words (T (h + 3))) ≡ z
  index_held v w s held more n sv z h hh g = number_held v w s (held ++ kept (slice_of n) sv) more z (h + 3) (behind_wide held n sv h hh) (behind_slice v w s held (kept ints (int z) ++ more) n sv g)

  -- ---- an element

  module _ (n : ℕ) (sv : Value) (held more : List Kept) (h at pc lo b : ℕ) (v : View) (w : World) (z : ℤ) (is : IsOf (slice_of n) sv) (hh : length held ≡ h) (ha : length (with_number held n sv z more) ≡ at) (room : at < temps_of m.program m.placement c.func)
      (here : slice_get m.code.instrs pc ≡ Some (SliceIndex (T at) (T h) (T (h + 3)) (width (type_named m.program n)))) where
    abbrev t : TypeTree
    t = type_named m.program n

    abbrev all : List Kept
    all = with_number held n sv z more

    abbrev path_to : ℕ → List ℕ
    path_to i = slice_path sv ++ (slice_first sv + i) ∷ []

    abbrev there : Memory → ℕ
    there s = Machine.element (slice_index s.words (T h)) (slice_index s.words (T (h + 3))) (width t)

    -- it is there
    element_there : (i : ℕ) → z ≡ pos i → i < slice_count sv → (s : Memory) → Stands m v w (hold c all ∷ calls) s → (does_at m (SliceIndex (T at) (T h) (T (h + 3)) (width t)) pc s ≡ Goes [] (state_of m (pc + 1) (sets s (T at) (there s)))) × Stands m v w (hold c (all ++ address t (slice_variable sv) (path_to i) 0 ∷ []) ∷ calls) (sets s (T at) (there s))
    element_there i zi lt s g =
        let head = header_held v w s held (kept ints (int z) ++ more) n sv h hh is g in
        let index = pos_word (slice_index s.words (T (h + 3))) i (index_held v w s held more n sv z h hh g ∙ zi) in
        let less = head.less in let small = head.small in let long = head.long_is in let index_is = index.0 in
        let a = points_count v w n t sv i (slice_index s.words (T h)) is (omega arith) head.base in
        let ends = points_small v w t (slice_variable sv) (slice_path sv) (slice_first sv) (slice_room sv) (slice_index s.words (T h)) i (omega arith) g.sized.small a in
        let word : there s ≡ slice_index s.words (T h) + i * width t = ap (λ k. (slice_index s.words (T h) + k * width t) % 2 ^ 64) index.0 ∙ mod-eq_of_lt {n = slice_index s.words (T h) + i * width t} {m = 2 ^ 64} ends in
        let test = below_is (slice_index s.words (T (h + 3))) (slice_index s.words (T h + 1)) (omega (arith, index_is, long)) (omega (arith, long)) in (
          ap (λ y. if y then Machine.puts (state_of m pc s) (T at) (there s) else Machine.panics (state_of m pc s) (IndexOutOfRange (number_of (slice_index s.words (T (h + 3)))) (number_of (slice_index s.words (T h + 1))))) test,
          good_set m.program m.placement m.max m.leading v w (hold c all) calls s at (there s) (address t (slice_variable sv) (path_to i) 0) ha room
              (subst (λ u. Reaches v.homes s.hi w t (slice_variable sv) (path_to i) 0 u) (sym word) (element_reached v.homes s.hi w t (slice_variable sv) (slice_path sv) (slice_first sv) (slice_room sv) i (slice_index s.words (T h)) (omega arith) (points_into v w s.hi t (slice_variable sv) (slice_path sv) (slice_first sv) (slice_room sv) (slice_index s.words (T h)) a))) g,
        )

    -- where the slice leads
    pub home_there : (i : ℕ) → i < slice_count sv → (s : Memory) → Stands m v w (hold c all ∷ calls) s → Points v w t (slice_variable sv) (slice_path sv) (slice_first sv) (slice_room sv) (slice_index s.words (T h))
    home_there i lt s g = let head = header_held v w s held (kept ints (int z) ++ more) n sv h hh is g in let less = head.less in points_count v w n t sv i (slice_index s.words (T h)) is (omega arith) head.base

    -- to an element by an index that is known to be one
    pub to_sliced : {hi : ℕ} {rest : Trace} (i : ℕ) → z ≡ pos i → i < slice_count sv → At m lo hi b v rest (Stands m v w (hold c (all ++ address t (slice_variable sv) (path_to i) 0 ∷ []) ∷ calls)) (pc + 1) → At m (suc lo) 1 b v rest (Stands m v w (hold c all ∷ calls)) pc
    to_sliced {hi} {rest} i zi lt post =
        stepped m {lo = lo} {hi = hi} (SliceIndex (T at) (T h) (T (h + 3)) (width t)) (λ s. sets s (T at) (there s)) here (λ s g. let d = element_there i zi lt s g in (d.0, refl, d.1)) post

    module _ (ws : Ways) (env : Env) (p : Position) (k : Then Spot) (stops : (at : Position) (f : Fault) (env : Env) (w : World) → ws.panicked at f env w ≡ End (Panic at f)) where
      -- it is not
      no_element : ((s : Memory) → Stands m v w (hold c all ∷ calls) s → is_below (slice_index s.words (T (h + 3))) (slice_index s.words (T h + 1)) ≡ false) → At m (suc lo) 1 b v (ws.panicked p (index_out_of_range z (pos (slice_count sv))) env w) (Stands m v w (hold c all ∷ calls)) pc
      no_element above =
          halts m (SliceIndex (T at) (T h) (T (h + 3)) (width t)) (Panic p (index_out_of_range z (pos (slice_count sv)))) (Panicked (IndexOutOfRange z (pos (slice_count sv)))) here (refl, refl) (λ q. ap (seen_from m v q) (stops p (index_out_of_range z (pos (slice_count sv))) env w)) (λ s g. g.sized.heap_used)
          (λ s g.
          let head = header_held v w s held (kept ints (int z) ++ more) n sv h hh is g in
          ap (λ y. if y then Machine.puts (state_of m pc s) (T at) (there s) else Machine.panics (state_of m pc s) (IndexOutOfRange (number_of (slice_index s.words (T (h + 3)))) (number_of (slice_index s.words (T h + 1))))) (above s g)
          ∙ ap (λ i. Machine.panics (state_of m pc s) (IndexOutOfRange i (number_of (slice_index s.words (T h + 1))))) (index_held v w s held more n sv z h hh g) ∙ ap (λ i. Machine.panics (state_of m pc s) (IndexOutOfRange z i)) head.count)

      above_words : (i : ℕ) → z ≡ pos i → slice_count sv ≤ i → (s : Memory) → Stands m v w (hold c all ∷ calls) s → is_below (slice_index s.words (T (h + 3))) (slice_index s.words (T h + 1)) ≡ false
      above_words i zi le s g =
          let head = header_held v w s held (kept ints (int z) ++ more) n sv h hh is g in let long = head.long_is in
          let index = pos_word (slice_index s.words (T (h + 3))) i (index_held v w s held more n sv z h hh g ∙ zi) in let index_is = index.0 in
          below_not (slice_index s.words (T (h + 3))) (slice_index s.words (T h + 1)) (omega (arith, index_is, long))

      negative_words : (i : ℕ) → z ≡ negsuc i → (s : Memory) → Stands m v w (hold c all ∷ calls) s → is_below (slice_index s.words (T (h + 3))) (slice_index s.words (T h + 1)) ≡ false
      negative_words i zi s g =
          let head = header_held v w s held (kept ints (int z) ++ more) n sv h hh is g in let long = head.long_is in let less = head.less in let small = head.small in
          let index = neg_word (slice_index s.words (T (h + 3))) i (index_held v w s held more n sv z h hh g ∙ zi) in
          below_not (slice_index s.words (T (h + 3))) (slice_index s.words (T h + 1)) (omega (arith, index, long))

      -- the instruction tests the index, and a temp gets the address
      pub sliced_follows : ((i : ℕ) → z ≡ pos i → i < slice_count sv → At m lo 0 b v (k (record { variable = slice_variable sv; path = path_to i }) w) (Stands m v w (hold c (all ++ address t (slice_variable sv) (path_to i) 0 ∷ []) ∷ calls)) (pc + 1))
          → At m (suc lo) 1 b v (Meaning.or_panic ws env p (element_spot sv (element_of z (slice_count sv))) k w) (Stands m v w (hold c all ∷ calls)) pc
      sliced_follows post = by z refl
        where
          decided : (i : ℕ) → z ≡ pos i → (y : Bool) → nat_lt i (slice_count sv) ≡ y → At m (suc lo) 1 b v (Meaning.or_panic ws env p (element_spot sv (if y then Ok i else Err (index_out_of_range (pos i) (pos (slice_count sv))))) k w) (Stands m v w (hold c all ∷ calls)) pc
          decided i zi true e = let l = ltb-true i (slice_count sv) e in to_sliced {hi = 0} i zi l (post i zi l)
          decided i zi false e =
              subst (λ x. At m (suc lo) 1 b v (ws.panicked p (index_out_of_range x (pos (slice_count sv))) env w) (Stands m v w (hold c all ∷ calls)) pc) zi
              (no_element (above_words i zi (elim (less_or i (slice_count sv)) [ inl l ↦ absurd (let f : true ≡ false = sym (lt-ltb i (slice_count sv) l) ∙ e in cc) | inr l ↦ l ])))

          by : (y : ℤ) → z ≡ y → At m (suc lo) 1 b v (Meaning.or_panic ws env p (element_spot sv (element_of y (slice_count sv))) k w) (Stands m v w (hold c all ∷ calls)) pc
          by (pos i) e = decided i e (nat_lt i (slice_count sv)) refl
          by (negsuc i) e =
              subst (λ x. At m (suc lo) 1 b v (ws.panicked p (index_out_of_range x (pos (slice_count sv))) env w) (Stands m v w (hold c all ∷ calls)) pc) e
              (no_element (negative_words i e))

  -- ---- the value of an element, by an index that is known to be one

  module _ (n : ℕ) (sv : Value) (held more : List Kept) (h at pc : ℕ) (v : View) (w : World) (i : ℕ) (is : IsOf (slice_of n) sv) (hh : length held ≡ h) (ha : length (with_number held n sv (pos i) more) ≡ at) (lt : i < slice_count sv)
      (room : at + width (type_named m.program n) ≤ temps_of m.program m.placement c.func) where
    abbrev u : TypeTree
    u = type_named m.program n

    abbrev before : List Kept
    before = with_number held n sv (pos i) more

    abbrev way : List ℕ
    way = slice_path sv ++ (slice_first sv + i) ∷ []

    abbrev wanted : Memory → List ℕ
    wanted s = words_at s.heap (slice_index s.words (T at) - first_address) (width u)

    reaches_there : (s : Memory) → Stands m v w (hold c (before ++ address u (slice_variable sv) way 0 ∷ []) ∷ calls) s → Reaches v.homes s.hi w u (slice_variable sv) way 0 (slice_index s.words (T at))
    reaches_there s g =
        let none : at ≡ length before + 0 = omega (arith, ha) in
        kept_word m.program m.placement m.max m.leading v w (hold c (before ++ address u (slice_variable sv) way 0 ∷ [])) calls s at (address u (slice_variable sv) way 0)
        (ap (slice_get (before ++ address u (slice_variable sv) way 0 ∷ [])) none ∙ append_new before (address u (slice_variable sv) way 0 ∷ []) 0) g

    fewer_held : (s : Memory) → Stands m v w (hold c (before ++ address u (slice_variable sv) way 0 ∷ []) ∷ calls) s → Stands m v w (hold c before ∷ calls) s
    fewer_held s g = fewer m v w c calls s before (address u (slice_variable sv) way 0 ∷ []) g

    points_there : (s : Memory) → Stands m v w (hold c before ∷ calls) s → Points v w u (slice_variable sv) (slice_path sv) (slice_first sv) (slice_room sv) (slice_index s.words (T h))
    points_there s g = let head = header_held v w s held (kept ints (int (pos i)) ++ more) n sv h hh is g in let less = head.less in points_count v w n u sv i (slice_index s.words (T h)) is (omega arith) head.base

    typed_there : (s : Memory) → Stands m v w (hold c (before ++ address u (slice_variable sv) way 0 ∷ []) ∷ calls) s → IsOf u (read_at w (slice_variable sv) way)
    typed_there s g =
        let r = reaches_there s g in
        subst (λ (y : Cell). IsOf u (at_path y.value way)) (sym (get_is w.store (slice_variable sv) r.cell no_cell r.there)) (at_is r.cell.type u r.cell.value way (g.homed.typed (slice_variable sv) r.cell r.there) r.leads)

    read_there : (s : Memory) → Stands m v w (hold c (before ++ address u (slice_variable sv) way 0 ∷ []) ∷ calls) s
        → (does_at m (Load (T at) (T at) 0 (width u)) (pc + 1) s ≡ Goes [] (state_of m (pc + 1 + 1) (puts s (T at) (wanted s)))) × Stands m v w (hold c (before ++ kept u (read_at w (slice_variable sv) way)) ∷ calls) (puts s (T at) (wanted s))
    read_there s g =
        let r = reaches_there s g in let a = points_there s (fewer_held s g) in let there = r.at (on_heap a.at) a.home in
        let from : a.at + offset r.cell.type way ≡ slice_index s.words (T at) - first_address = omega (arith, there) in
        let st = home_value m.program m.placement m.max m.leading v w (hold c (before ++ address u (slice_variable sv) way 0 ∷ []) ∷ calls) s (slice_variable sv) r.cell (on_heap a.at) way u r.there a.home r.leads g in
        let st1 = subst (λ (y : Cell). Stand m.program m.leading v.homes s.hi w (leaves u) (contents (at_path y.value way)) (words_at s.heap (a.at + offset r.cell.type way) (width u))) (sym (get_is w.store (slice_variable sv) r.cell no_cell r.there)) st in
        let st2 = subst (λ k. Stand m.program m.leading v.homes s.hi w (leaves u) (contents (read_at w (slice_variable sv) way)) (words_at s.heap k (width u))) from st1 in (
          loaded m v w (hold c (before ++ address u (slice_variable sv) way 0 ∷ []) ∷ calls) s g (slice_variable sv) u way 0 (slice_index s.words (T at)) (on_heap a.at) a.home r (pc + 1) (T at) (T at) refl
              ∙ ap (λ k. Goes [] (state_of m (pc + 1 + 1) (puts s (T at) (words_at s.heap k (width u))))) from,
          value_put m v w (hold c before) calls s at u (read_at w (slice_variable sv) way) (wanted s) ha room st2 (fewer_held s g),
        )

    pub sliced_read : {lo hi b : ℕ} {rest : Trace} → at < temps_of m.program m.placement c.func → slice_get m.code.instrs pc ≡ Some (SliceIndex (T at) (T h) (T (h + 3)) (width u)) → slice_get m.code.instrs (pc + 1) ≡ Some (Load (T at) (T at) 0 (width u))
        → (IsOf u (read_at w (slice_variable sv) way) → At m lo hi b v rest (Stands m v w (hold c (before ++ kept u (read_at w (slice_variable sv) way)) ∷ calls)) (pc + 1 + 1)) → At m (suc (suc lo)) 1 b v rest (Stands m v w (hold c before ∷ calls)) pc
    sliced_read {lo} {hi} {b} {rest} some index load post =
        to_sliced n sv held more h at pc (suc lo) b v w (pos i) is hh ha some index {hi = 1} {rest = rest} i refl lt
        (knowing m (λ s0 g0. stepped m {lo = lo} {hi = hi} (Load (T at) (T at) 0 (width u)) (λ s. puts s (T at) (wanted s)) load (λ s g. let d = read_there s g in (d.0, refl, d.1)) (post (typed_there s0 g0))))

  -- ---- length and capacity

  module _ (n : ℕ) (sv : Value) (held : List Kept) (h : ℕ) (v : View) (w : World) (is : IsOf (slice_of n) sv) (hh : length held ≡ h) (room : h + 3 ≤ temps_of m.program m.placement c.func) where
    alone : (s : Memory) → Stands m v w (hold c (held ++ kept (slice_of n) sv) ∷ calls) s → Stands m v w (hold c (held ++ (kept (slice_of n) sv ++ [])) ∷ calls) s
    alone s g = subst (λ l. Stands m v w (hold c (held ++ l) ∷ calls) s) (sym (append-nil (kept (slice_of n) sv))) g

    -- one of the numbers in its header
    number_taken : {lo hi b : ℕ} {rest : Trace} (x pc : ℕ) (from : ℕ) → h < temps_of m.program m.placement c.func → slice_get m.code.instrs pc ≡ Some (Move Silent (T h) from 1) → ((s : Memory) → Stands m v w (hold c (held ++ kept (slice_of n) sv) ∷ calls) s → (cast_signed w64 (slice_index s.words from) ≡ pos x) × (from < length s.words))
        → At m lo hi b v rest (Stands m v w (hold c (held ++ kept ints (int (pos x))) ∷ calls)) (pc + 1) → At m (suc lo) 1 b v rest (Stands m v w (hold c (held ++ kept (slice_of n) sv) ∷ calls)) pc
    number_taken {lo = lo} {hi = hi} {b = b} {rest = rest} x pc from some here word post =
        stepped m {lo = lo} {hi = hi} (Move Silent (T h) from 1) (λ s. sets s (T h) (slice_index s.words from)) here
        (λ s g.
        let wd = word s g in let number = pos_word (slice_index s.words from) x wd.0 in let same = number.0 in let used = g.sized.used in (
          moved_one m Silent (T h) from pc s (omega arith) wd.1,
          refl,
          temp_set m v w (hold c held) calls s h (slice_index s.words from) ints (int (pos x)) hh some tt refl (wd.0, omega (arith, same, number.1)) (fewer m v w c calls s held (kept (slice_of n) sv) g),
        )) post

    pub length_follows : {lo hi b : ℕ} {rest : Trace} (pc : ℕ) → slice_get m.code.instrs pc ≡ Some (Move Silent (T h) (T (h + 1)) 1) → At m lo hi b v rest (Stands m v w (hold c (held ++ kept ints (int (pos (slice_count sv)))) ∷ calls)) (pc + 1)
        → At m (suc lo) 1 b v rest (Stands m v w (hold c (held ++ kept (slice_of n) sv) ∷ calls)) pc
    length_follows {lo} {hi} {b} {rest} pc here post =
        number_taken {lo = lo} {hi = hi} {b = b} {rest = rest} (slice_count sv) pc (T (h + 1)) (omega arith) here
        (λ s g.
        let head = header_held v w s held [] n sv h hh is (alone s g) in let fits = held_room m v w c calls s held [] (slice_of n) sv h 3 hh refl (alone s g) in
        let at : T h + 1 ≡ T (h + 1) = omega arith in
        (subst (λ k. cast_signed w64 (slice_index s.words k) ≡ pos (slice_count sv)) at head.count, omega (arith, fits))) post

    pub capacity_follows : {lo hi b : ℕ} {rest : Trace} (pc : ℕ) → slice_get m.code.instrs pc ≡ Some (Move Silent (T h) (T (h + 2)) 1) → At m lo hi b v rest (Stands m v w (hold c (held ++ kept ints (int (pos (slice_room sv)))) ∷ calls)) (pc + 1)
        → At m (suc lo) 1 b v rest (Stands m v w (hold c (held ++ kept (slice_of n) sv) ∷ calls)) pc
    capacity_follows {lo} {hi} {b} {rest} pc here post =
        number_taken {lo = lo} {hi = hi} {b = b} {rest = rest} (slice_room sv) pc (T (h + 2)) (omega arith) here
        (λ s g.
        let head = header_held v w s held [] n sv h hh is (alone s g) in let fits = held_room m v w c calls s held [] (slice_of n) sv h 3 hh refl (alone s g) in
        let at : T h + 2 ≡ T (h + 2) = omega arith in
        (subst (λ k. cast_signed w64 (slice_index s.words k) ≡ pos (slice_room sv)) at head.room, omega (arith, fits))) post

-- ---- a part of a slice

-- from one bound to the other
abbrev pub part_value : Value → Bounds → Value
part_value (slice_in x path first count room) b = slice_in x path (first + b.low) (b.high - b.low) (room - b.low)
part_value v b = nil_slice

abbrev pub parted : Value → Result Bounds Fault → Result Value Fault
parted sv (Ok b) = Ok (part_value sv b)
parted sv (Err f) = Err f

pub parted_is : (n : ℕ) (sv : Value) (l z : ℤ) → IsOf (slice_of n) sv → slice_part sv l z ≡ parted sv (bounds_within l z (slice_room sv))
parted_is n nil_slice l z is = none (bounds_within l z 0)
  where
    none : (r : Result Bounds Fault) → nil_within r ≡ parted nil_slice r
    none (Ok b) = refl
    none (Err f) = refl
parted_is n (slice_in x path first count room) l z is = some (bounds_within l z room)
  where
    some : (r : Result Bounds Fault) → cut_from x path first room r ≡ parted (slice_in x path first count room) r
    some (Ok b) = refl
    some (Err f) = refl
parted_is n sv l z is = absurd is

pub part_is_slice : (n : ℕ) (sv : Value) (j i : ℕ) → IsOf (slice_of n) sv → j ≤ i → i ≤ slice_room sv → IsOf (slice_of n) (part_value sv (record { low = j; high = i }))
part_is_slice n nil_slice j i is le ends = tt
part_is_slice n (slice_in x path first count room) j i is le ends = let q : i - j ≤ room - j = omega arith in q
part_is_slice n sv j i is le ends = absurd is

pub part_header : (v : View) (w : World) (n : ℕ) (t : TypeTree) (sv : Value) (u long capacity j i : ℕ) → IsOf (slice_of n) sv → j ≤ i → i ≤ slice_room sv → v.heap ≤ 2 ^ 32 → Header v w t sv u long capacity → Header v w t (part_value sv (record { low = j; high = i })) (Machine.element u j (width t)) (i - j) (capacity - j)
part_header v w n t nil_slice u long capacity j i is le ends small head =
    let none : j ≡ 0 = omega arith in let base = head.base in let room = head.room_is in
    let word : Machine.element u j (width t) ≡ 0 = ap (λ k. (u + k * width t) % 2 ^ 64) none ∙ ap (λ k. (k + 0 * width t) % 2 ^ 64) base ∙ mod-eq_of_lt {n = 0 + 0 * width t} {m = 2 ^ 64} (omega arith) ∙ (let z : 0 + 0 * width t ≡ 0 = omega arith in z) in
    let no_count : 0 ≡ i - j = omega arith in let no_room : 0 ≡ capacity - j = omega (arith, room) in
    record { base = word; count = ap (cast_signed w64) (sym no_count) ∙ to_z_pos w64 0 (omega arith); room = ap (cast_signed w64) (sym no_room) ∙ to_z_pos w64 0 (omega arith); long_is = sym no_count; room_is = sym no_room; small = omega arith; less = omega arith }
part_header v w n t (slice_in x path first count room) u long capacity j i is le ends small head =
    let a = head.base in let top = head.small in let fits = points_small v w t x path first room u j (omega arith) small a in
    let left = room - j in let all : j + left ≡ room = omega arith in let product : (j + left) * width t ≡ room * width t = ap (λ k. k * width t) all in
    let capacity_is : capacity - j ≡ room - j = omega (arith, head.room_is) in
    let within = a.within in let inside = a.inside in let word = a.word in
    let sum = times_sum first j (width t) in let parts = times_sum j left (width t) in
    record {
      base = record {
        cell = a.cell;
        there = a.there;
        at = a.at;
        home = a.home;
        long = a.long;
        leads = a.leads;
        within = omega (arith, within);
        inside = omega (arith, inside, sum, parts, product);
        word = mod-eq_of_lt {n = u + j * width t} {m = 2 ^ 64} fits ∙ (let e : u + j * width t ≡ first_address + (a.at + stretch a.cell.type path t (first + j)) = omega (arith, word, sum) in e);
      };
      count = to_z_pos w64 (i - j) (omega (arith, top));
      room = ap (cast_signed w64) capacity_is ∙ to_z_pos w64 (room - j) (omega (arith, top));
      long_is = refl;
      room_is = capacity_is;
      small = omega (arith, top);
      less = omega arith;
    }
part_header v w n t sv u long capacity j i is le ends small head = absurd is

module _ (m : Built) (c : Frame) (calls : List Frame) (n : ℕ) (sv : Value) (held : List Kept) (h pc lo b : ℕ) (v : View) (w : World) (l z : ℤ) (is : IsOf (slice_of n) sv) (hh : length held ≡ h) (room : h + 3 ≤ temps_of m.program m.placement c.func)
    (here : slice_get m.code.instrs pc ≡ Some (Slice (T m c calls h) (T m c calls h) (T m c calls (h + 3)) (width (type_named m.program n)))) where
  abbrev e : TypeTree
  e = type_named m.program n

  abbrev slot : ℕ → ℕ
  slot k = T m c calls k

  abbrev both : List Kept
  both = with_number m c calls held n sv l (kept ints (int z))

  abbrev cut : Memory → List ℕ
  cut s = header (Machine.element (slice_index s.words (slot h)) (slice_index s.words (slot (h + 3))) (width e)) (slice_index s.words (slot (h + 3) + 1) - slice_index s.words (slot (h + 3))) (slice_index s.words (slot h + 2) - slice_index s.words (slot (h + 3)))

  head_of : (s : Memory) → Stands m v w (hold c both ∷ calls) s → Header v w e sv (slice_index s.words (slot h)) (slice_index s.words (slot h + 1)) (slice_index s.words (slot h + 2))
  head_of s g = header_held m c calls v w s held (kept ints (int l) ++ kept ints (int z)) n sv h hh is g

  low_of : (s : Memory) → Stands m v w (hold c both ∷ calls) s → cast_signed w64 (slice_index s.words (slot (h + 3))) ≡ l
  low_of s g = index_held m c calls v w s held (kept ints (int z)) n sv l h hh g

  high_of : (s : Memory) → Stands m v w (hold c both ∷ calls) s → cast_signed w64 (slice_index s.words (slot (h + 3) + 1)) ≡ z
  high_of s g =
      let front = (held ++ kept (slice_of n) sv) ++ kept ints (int l) in
      let g1 = subst (λ k. Stands m v w (hold c k ∷ calls) s) (sym (append_assoc held (kept (slice_of n) sv) (kept ints (int l) ++ kept ints (int z))) ∙ sym (append_assoc (held ++ kept (slice_of n) sv) (kept ints (int l)) (kept ints (int z))) ∙ ap (λ k. front ++ k) (sym (append-nil (kept ints (int z))))) g in
      let wide : length front ≡ h + 4 = omega (arith, length-append (held ++ kept (slice_of n) sv) (kept ints (int l)), length-append held (kept (slice_of n) sv), kept_length (slice_of n) sv, kept_length ints (int l)) in
      let at : slot (h + 4) ≡ slot (h + 3) + 1 = omega arith in
      subst (λ k. cast_signed w64 (slice_index s.words k) ≡ z) at (number_held m c calls v w s front [] z (h + 4) wide g1)

  -- what the instruction does, by its tests
  abbrev outcome : Memory → (high low : Bool) → Machine.Does
  outcome s high low =
      if high then (if low then Machine.puts_words (state_of m pc s) (slot h) (cut s) else Machine.panics (state_of m pc s) (SliceLow (number_of (slice_index s.words (slot (h + 3)))) (number_of (slice_index s.words (slot (h + 3) + 1)))))
      else Machine.panics (state_of m pc s) (SliceHigh (number_of (slice_index s.words (slot (h + 3) + 1))) (number_of (slice_index s.words (slot h + 2))))

  cut_there : (j i : ℕ) → l ≡ pos j → z ≡ pos i → j ≤ i → i ≤ slice_room sv → (s : Memory) → Stands m v w (hold c both ∷ calls) s
      → (does_at m (Slice (slot h) (slot h) (slot (h + 3)) (width e)) pc s ≡ Goes [] (state_of m (pc + 1) (puts s (slot h) (cut s)))) × Stands m v w (hold c (held ++ kept (slice_of n) (part_value sv (record { low = j; high = i }))) ∷ calls) (puts s (slot h) (cut s))
  cut_there j i lj zi le ends s g =
      let head = head_of s g in let low = pos_word (slice_index s.words (slot (h + 3))) j (low_of s g ∙ lj) in let high = pos_word (slice_index s.words (slot (h + 3) + 1)) i (high_of s g ∙ zi) in
      let low_is = low.0 in let high_is = high.0 in let room_is = head.room_is in let small = head.small in
      let test_high = upto_is (slice_index s.words (slot (h + 3) + 1)) (slice_index s.words (slot h + 2)) (omega (arith, high_is, room_is)) (omega (arith, room_is)) in
      let test_low = upto_is (slice_index s.words (slot (h + 3))) (slice_index s.words (slot (h + 3) + 1)) (omega (arith, low_is, high_is)) (omega (arith, high_is, high.1)) in
      let r = part_value sv (record { low = j; high = i }) in
      let ph = part_header v w n e sv (slice_index s.words (slot h)) (slice_index s.words (slot h + 1)) (slice_index s.words (slot h + 2)) j i is le ends g.sized.small head in
      let ph1 = subst (λ k. Header v w e r (Machine.element (slice_index s.words (slot h)) k (width e)) (i - k) (slice_index s.words (slot h + 2) - k)) (sym low_is) ph in
      let ph2 = subst (λ k. Header v w e r (Machine.element (slice_index s.words (slot h)) (slice_index s.words (slot (h + 3))) (width e)) (k - slice_index s.words (slot (h + 3))) (slice_index s.words (slot h + 2) - slice_index s.words (slot (h + 3)))) (sym high_is) ph1 in
      let top = high.1 in (
        ap (λ y. outcome s y (is_upto (slice_index s.words (slot (h + 3))) (slice_index s.words (slot (h + 3) + 1)))) test_high ∙ ap (λ y. outcome s true y) test_low,
        value_put m v w (hold c held) calls s h (slice_of n) r (cut s) hh room
            (header_stands m v w s.hi n r (Machine.element (slice_index s.words (slot h)) (slice_index s.words (slot (h + 3))) (width e)) (slice_index s.words (slot (h + 3) + 1) - slice_index s.words (slot (h + 3))) (slice_index s.words (slot h + 2) - slice_index s.words (slot (h + 3))) (omega (arith, high_is, top)) (omega (arith, room_is, small)) ph2)
            (fewer m v w c calls s held (kept (slice_of n) sv ++ (kept ints (int l) ++ kept ints (int z))) g),
      )

  module _ (ws : Ways) (env : Env) (p : Position) (k : Then Value) (stops : (at : Position) (f : Fault) (env : Env) (w : World) → ws.panicked at f env w ≡ End (Panic at f)) where
    -- the high bound is none
    high_fails : ((s : Memory) → Stands m v w (hold c both ∷ calls) s → is_upto (slice_index s.words (slot (h + 3) + 1)) (slice_index s.words (slot h + 2)) ≡ false) → At m (suc lo) 1 b v (ws.panicked p (slice_high z (pos (slice_room sv))) env w) (Stands m v w (hold c both ∷ calls)) pc
    high_fails test =
        halts m (Slice (slot h) (slot h) (slot (h + 3)) (width e)) (Panic p (slice_high z (pos (slice_room sv)))) (Panicked (SliceHigh z (pos (slice_room sv)))) here (refl, refl) (λ q. ap (seen_from m v q) (stops p (slice_high z (pos (slice_room sv))) env w)) (λ s g. g.sized.heap_used)
        (λ s g.
        ap (λ y. outcome s y (is_upto (slice_index s.words (slot (h + 3))) (slice_index s.words (slot (h + 3) + 1)))) (test s g)
        ∙ ap (λ i. Machine.panics (state_of m pc s) (SliceHigh i (number_of (slice_index s.words (slot h + 2))))) (high_of s g) ∙ ap (λ i. Machine.panics (state_of m pc s) (SliceHigh z i)) (head_of s g).room)

    -- the low one is none
    low_fails : (i : ℕ) → z ≡ pos i → i ≤ slice_room sv → ((s : Memory) → Stands m v w (hold c both ∷ calls) s → is_upto (slice_index s.words (slot (h + 3))) (slice_index s.words (slot (h + 3) + 1)) ≡ false) → At m (suc lo) 1 b v (ws.panicked p (slice_low l z) env w) (Stands m v w (hold c both ∷ calls)) pc
    low_fails i zi ends test =
        halts m (Slice (slot h) (slot h) (slot (h + 3)) (width e)) (Panic p (slice_low l z)) (Panicked (SliceLow l z)) here (refl, refl) (λ q. ap (seen_from m v q) (stops p (slice_low l z) env w)) (λ s g. g.sized.heap_used)
        (λ s g.
        let head = head_of s g in let room_is = head.room_is in let small = head.small in let high = pos_word (slice_index s.words (slot (h + 3) + 1)) i (high_of s g ∙ zi) in let high_is = high.0 in
        ap (λ y. outcome s y (is_upto (slice_index s.words (slot (h + 3))) (slice_index s.words (slot (h + 3) + 1)))) (upto_is (slice_index s.words (slot (h + 3) + 1)) (slice_index s.words (slot h + 2)) (omega (arith, high_is, room_is)) (omega (arith, room_is)))
        ∙ ap (λ y. outcome s true y) (test s g)
        ∙ ap (λ i. Machine.panics (state_of m pc s) (SliceLow i (number_of (slice_index s.words (slot (h + 3) + 1))))) (low_of s g) ∙ ap (λ i. Machine.panics (state_of m pc s) (SliceLow l i)) (high_of s g))

    abbrev Followed : Result Value Fault → Type 0
    Followed r = At m (suc lo) 1 b v (Meaning.or_panic ws env p r k w) (Stands m v w (hold c both ∷ calls)) pc

    -- both bounds are tested, the high one first, and the header is that of the part
    pub parts_follow : ((r : Value) → IsOf (slice_of n) r → At m lo 0 b v (k r w) (Stands m v w (hold c (held ++ kept (slice_of n) r) ∷ calls)) (pc + 1)) → Followed (slice_part sv l z)
    parts_follow post = subst (λ r. Followed r) (sym (parted_is n sv l z is)) (by_high z refl)
      where
        goes_on : (j i : ℕ) → l ≡ pos j → z ≡ pos i → j ≤ i → i ≤ slice_room sv → Followed (Ok (part_value sv (record { low = j; high = i })))
        goes_on j i lj zi le ends =
            let r = part_value sv (record { low = j; high = i }) in
            stepped m {lo = lo} {hi = 0} (Slice (slot h) (slot h) (slot (h + 3)) (width e)) (λ s. puts s (slot h) (cut s)) here (λ s g. let d = cut_there j i lj zi le ends s g in (d.0, refl, d.1)) (post r (part_is_slice n sv j i is le ends))

        by_low : (i : ℕ) → z ≡ pos i → i ≤ slice_room sv → (y : ℤ) → l ≡ y → Followed (parted sv (low_below y i))
        by_low i zi ends (pos j) lj = decided (nat_le j i) refl
          where
            decided : (x : Bool) → nat_le j i ≡ x → Followed (parted sv (if x then Ok (record { low = j; high = i }) else Err (slice_low (pos j) (pos i))))
            decided true t = goes_on j i lj zi (leb-true j i t) ends
            decided false t =
                let above : i < j = elim (leb_tells j i) [ inl o ↦ absurd (let f : true ≡ false = sym o.0 ∙ t in cc) | inr o ↦ o.1 ] in
                subst (λ x. At m (suc lo) 1 b v (ws.panicked p (slice_low x (pos i)) env w) (Stands m v w (hold c both ∷ calls)) pc) lj (subst (λ x. At m (suc lo) 1 b v (ws.panicked p (slice_low l x) env w) (Stands m v w (hold c both ∷ calls)) pc) zi
                (low_fails i zi ends (λ s g.
                let low = pos_word (slice_index s.words (slot (h + 3))) j (low_of s g ∙ lj) in let high = pos_word (slice_index s.words (slot (h + 3) + 1)) i (high_of s g ∙ zi) in let low_is = low.0 in let high_is = high.0 in
                upto_not (slice_index s.words (slot (h + 3))) (slice_index s.words (slot (h + 3) + 1)) (omega (arith, low_is, high_is)))))
        by_low i zi ends (negsuc j) lj =
            subst (λ x. At m (suc lo) 1 b v (ws.panicked p (slice_low x (pos i)) env w) (Stands m v w (hold c both ∷ calls)) pc) lj (subst (λ x. At m (suc lo) 1 b v (ws.panicked p (slice_low l x) env w) (Stands m v w (hold c both ∷ calls)) pc) zi
            (low_fails i zi ends (λ s g.
            let low = neg_word (slice_index s.words (slot (h + 3))) j (low_of s g ∙ lj) in let high = pos_word (slice_index s.words (slot (h + 3) + 1)) i (high_of s g ∙ zi) in let high_is = high.0 in let top = high.1 in
            upto_not (slice_index s.words (slot (h + 3))) (slice_index s.words (slot (h + 3) + 1)) (omega (arith, low, high_is, top)))))

        by_high : (y : ℤ) → z ≡ y → Followed (parted sv (bounds_within l y (slice_room sv)))
        by_high (pos i) zi = decided (nat_le i (slice_room sv)) refl
          where
            decided : (x : Bool) → nat_le i (slice_room sv) ≡ x → Followed (parted sv (if x then low_below l i else Err (slice_high (pos i) (pos (slice_room sv)))))
            decided true t = by_low i zi (leb-true i (slice_room sv) t) l refl
            decided false t =
                let above : slice_room sv < i = elim (leb_tells i (slice_room sv)) [ inl o ↦ absurd (let f : true ≡ false = sym o.0 ∙ t in cc) | inr o ↦ o.1 ] in
                subst (λ x. At m (suc lo) 1 b v (ws.panicked p (slice_high x (pos (slice_room sv))) env w) (Stands m v w (hold c both ∷ calls)) pc) zi
                (high_fails (λ s g.
                let high = pos_word (slice_index s.words (slot (h + 3) + 1)) i (high_of s g ∙ zi) in let high_is = high.0 in let room_is = (head_of s g).room_is in
                upto_not (slice_index s.words (slot (h + 3) + 1)) (slice_index s.words (slot h + 2)) (omega (arith, high_is, room_is))))
        by_high (negsuc i) zi =
            subst (λ x. At m (suc lo) 1 b v (ws.panicked p (slice_high x (pos (slice_room sv))) env w) (Stands m v w (hold c both ∷ calls)) pc) zi
            (high_fails (λ s g.
            let high = neg_word (slice_index s.words (slot (h + 3) + 1)) i (high_of s g ∙ zi) in let head = head_of s g in let room_is = head.room_is in let small = head.small in
            upto_not (slice_index s.words (slot (h + 3) + 1)) (slice_index s.words (slot h + 2)) (omega (arith, high, room_is, small))))
