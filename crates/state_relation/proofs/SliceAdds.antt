-- Elements are put behind those of a slice: in its array where they have room there, and else in a new one.
use Rattle.std.proofs.Common.{◌≡◌, ◌≢◌, inl, inr, ℕ, zero, suc, ◌+◌, ◌-◌, ◌*◌, ◌^◌, ◌<◌, ◌≤◌, Bool, true, false, List, [], ◌∷◌, ◌++◌, length, Option, Some, refl, sym, ap, ◌∙◌, subst, arith, length-append}
use Rattle.std.specs.Prelude.{slice_get, slice_index, nat_le, replicate, max, if◌then◌else◌}
use Rattle.std.specs.Int.{w64}
use Rattle.std.proofs.lemmas.Bool.{leb-true, cases_eq}
use Rattle.std.proofs.lemmas.Bool.Decides.{leb_tells, eqb_tells}
use Rattle.std.proofs.lemmas.Int.{to_z_pos}
use Rattle.std.proofs.Math.Nat.{le-mul_of_pos_right}
use Rattle.std.proofs.lemmas.Option.{slice_get_within}
use Rattle.typed_syntax.specs.Types.{TypeTree, array_of, slice_of, width}
use Rattle.typed_syntax.specs.Value.{Value, slice_in, IsOf, zero_of as zero_value}
use Rattle.typed_syntax.specs.Paths.{Leads, with_path}
use Rattle.typed_syntax.specs.Syntax.{type_named}
use Rattle.typed_syntax.specs.Form.{AreOf}
use Rattle.frames.specs.Frames.{temps_of}
use Rattle.value_laws.proofs.Zeros.{zero_is}
use Rattle.meaning.specs.Trace.{World, Cell, HeapLimit}
use Rattle.meaning.specs.Store.{with_value, written, elements_at, elements_written, born}
use Rattle.meaning.specs.Operators.{slice_variable, slice_path, slice_first, slice_count, slice_room}
use Rattle.meaning.specs.Meaning
use Rattle.meaning.specs.Meaning.{Go, Then, Setting, longer}
use Rattle.simulation.specs.Steps.{Goes}
use Rattle.heap_bump.specs.Words.{first_address}
use Rattle.isa.specs.declared.instr.Instr.{Instr}
use Rattle.machine.specs.declared.memory.Spot.{Spot}
use Rattle.machine.specs.declared.memory.Spot.TheVariants.{InHeap}
use Rattle.machine.specs.declared.run_state.Ending.TheVariants.{HeapLimit as Full}
use Rattle.machine.specs.Machine as Machine
use Rattle.machine.specs.Machine.{Does, State, words_at, put_words, spot_of, header, stops}
use Rattle.state_relation.specs.Leaves.{all_leaves}
use Rattle.state_relation.specs.Views.{View, Place, after_apart}
use Rattle.state_relation.specs.Relation.{Memory, puts, Kept, Frame, hold, Stand, contents_of}
use Rattle.state_relation.proofs.Lists.{change_same, change_other}
use Rattle.state_relation.proofs.Addresses.{times_sum}
use Rattle.state_relation.proofs.Stretches.{stretch, put_none, elements_length}
use Rattle.state_relation.proofs.Relation.{Later, stand_later}
use Rattle.state_relation.proofs.Calls.{turned_round}
use Rattle.state_relation.proofs.Touches.{spot_heap}
use Rattle.state_relation.proofs.Births.{still}
use Rattle.state_relation.proofs.Changes.{apart_old}
use Rattle.state_relation.proofs.Built.{Built}
use Rattle.state_relation.proofs.Rules.{state_of, does_at, At, Stands, stepped, gated, read_of, written_to}
use Rattle.state_relation.proofs.Values.{kept, fewer, value_put}
use Rattle.state_relation.proofs.Slices.{Points, Header, header_stands}
use Rattle.state_relation.proofs.SliceSteps.{T, points_count, header_held}
use Rattle.state_relation.proofs.SliceMoves.{touched_there, source_stand, source_are, target_spot, target_good, read_stand, read_are}
use Rattle.state_relation.proofs.SliceBirths.{array_cell, array_born, array_points, born_seen, zeros_stand}

-- ---- what an address leads to stays there

-- cells keep their types while elements get other values
written_keeps : (w : World) (x : ℕ) (path : List ℕ) (val : Value) (z : ℕ) (y : Cell) → slice_get w.store z ≡ Some y → (y1 : Cell) × (slice_get (written w x path val).store z ≡ Some y1) × (y1.type ≡ y.type)
written_keeps w x path val z y e = elim (cases_eq z x) [
  | inl q ↦ (with_value y (with_path y.value path val), ap (slice_get (written w x path val).store) q ∙ change_same w.store x path val y (ap (slice_get w.store) (sym q) ∙ e), refl)
  | inr ne ↦ (y, change_other w.store x z path val ne ∙ e, refl)
]

elements_keep : (w : World) (x : ℕ) (path : List ℕ) (first : ℕ) (vs : List Value) (z : ℕ) (y : Cell) → slice_get w.store z ≡ Some y → (y1 : Cell) × (slice_get (elements_written w x path first vs).store z ≡ Some y1) × (y1.type ≡ y.type)
elements_keep w x path first [] z y e = (y, e, refl)
elements_keep w x path first (val ∷ vs) z y e =
    let r = written_keeps w x (path ++ first ∷ []) val z y e in let q = elements_keep (written w x (path ++ first ∷ []) val) x path (suc first) vs z r.0 r.1 in (q.0, q.1, q.2 ∙ r.2)

pub elements_later : (homes : ℕ → Option Place) (w : World) (x : ℕ) (path : List ℕ) (first : ℕ) (vs : List Value) → Later homes homes w (elements_written w x path first vs)
elements_later homes w x path first vs = record { keeps = λ z y e. elements_keep w x path first vs z y e; ends = λ z q lt h. h; stays = λ z h lt e. e }

pub points_later : (v v1 : View) (w w1 : World) (t : TypeTree) (x : ℕ) (path : List ℕ) (first room u : ℕ) → Later v.homes v1.homes w w1 → v.heap ≤ v1.heap → Points v w t x path first room u → Points v1 w1 t x path first room u
points_later v v1 w w1 t x path first room u l le a =
    let k = l.keeps x a.cell a.there in let top = a.inside in
    record {
      cell = k.0;
      there = k.1;
      at = a.at;
      home = l.stays x a.at (slice_get_within w.store x a.cell a.there) a.home;
      long = a.long;
      leads = subst (λ s. Leads s path (array_of a.long t)) (sym k.2) a.leads;
      within = a.within;
      inside = subst (λ s. a.at + (stretch s path t first + room * width t) ≤ v1.heap) (sym k.2) (omega (arith, top));
      word = subst (λ s. u ≡ first_address + (a.at + stretch s path t first)) (sym k.2) a.word;
    }

pub born_later : (m : Built) (v : View) (w : World) (n : ℕ) (y : Cell) → v.births ≡ length w.store → Later v.homes (after_apart v n).homes w (born w y)
born_later m v w n y births = record {
  keeps = λ x a e. (a, still m.program m.placement m.max m.leading w y x a e, refl);
  ends = λ x q less h. let ne : x ≢ length w.store = omega arith in sym (apart_old v.homes v.births v.heap x (λ e. ne (e ∙ births))) ∙ h;
  stays = λ x h less e. let ne : x ≢ length w.store = omega arith in apart_old v.homes v.births v.heap x (λ q. ne (q ∙ births)) ∙ e;
}

module _ (m : Built) (c : Frame) (calls : List Frame) (n : ℕ) (sv y : Value) (ys : List Value) (held more : List Kept) (h pc site entry : ℕ) (v : View) (w : World) (is : IsOf (slice_of n) sv) (hh : length held ≡ h) (room : h + 3 ≤ temps_of m.program m.placement c.func) (boxed : m.placement.on_heap site ≡ true)
    (some : 0 < width (type_named m.program n)) (are : AreOf (replicate (length (y ∷ ys)) (type_named m.program n)) (y ∷ ys)) (i : Instr) (here : slice_get m.code.instrs pc ≡ Some i) (source : Memory → Spot)
    (reduces : (s : Memory) → Stands m v w (hold c (held ++ (kept (slice_of n) sv ++ more)) ∷ calls) s → does_at m i pc s ≡ Machine.adds (state_of m pc s) (T m c calls h) (slice_index s.words (T m c calls h)) (slice_index s.words (T m c calls h + 1)) (slice_index s.words (T m c calls h + 2)) (length (y ∷ ys)) (width (type_named m.program n)) (source s))
    (stand : (s : Memory) → Stands m v w (hold c (held ++ (kept (slice_of n) sv ++ more)) ∷ calls) s → Stand m.program m.leading v.homes s.hi w (all_leaves (replicate (length (y ∷ ys)) (type_named m.program n))) (contents_of (y ∷ ys)) (Machine.words_in (source s) s.heap s.words (length (y ∷ ys) * width (type_named m.program n)))) where
  abbrev t : TypeTree
  t = type_named m.program n

  abbrev slot : ℕ → ℕ
  slot k = T m c calls k

  abbrev vs : List Value
  vs = y ∷ ys

  abbrev added : ℕ
  added = length vs

  abbrev all : List Kept
  all = held ++ (kept (slice_of n) sv ++ more)

  abbrev xs : Memory → List ℕ
  xs s = Machine.words_in (source s) s.heap s.words (added * width t)

  abbrev base : Memory → ℕ
  base s = slice_index s.words (slot h)

  abbrev count : ℕ
  count = slice_count sv

  head_of : (s : Memory) → Stands m v w (hold c all ∷ calls) s → Header v w t sv (base s) (slice_index s.words (slot h + 1)) (slice_index s.words (slot h + 2))
  head_of s g = header_held m c calls v w s held more n sv h hh is g

  -- the numbers of the header are those of the slice
  reduced : (s : Memory) → Stands m v w (hold c all ∷ calls) s → does_at m i pc s ≡ Machine.adds (state_of m pc s) (slot h) (base s) count (slice_room sv) added (width t) (source s)
  reduced s g =
      let head = head_of s g in
      reduces s g ∙ ap (λ k. Machine.adds (state_of m pc s) (slot h) (base s) k (slice_index s.words (slot h + 2)) added (width t) (source s)) head.long_is
      ∙ ap (λ k. Machine.adds (state_of m pc s) (slot h) (base s) count k added (width t) (source s)) head.room_is

  -- the header of the longer slice lands where the old one was
  header_lands : (v1 : View) (w1 : World) (s s1 : Memory) (r : Value) (u long capacity : ℕ) → long < 2 ^ 64 → capacity < 2 ^ 64 → Header v1 w1 t r u long capacity → Stands m v1 w1 (hold c all ∷ calls) s1 → Stands m v1 w1 (hold c (held ++ kept (slice_of n) r) ∷ calls) (puts s1 (slot h) (header u long capacity))
  header_lands v1 w1 s s1 r u long capacity fits top head g =
      value_put m v1 w1 (hold c held) calls s1 h (slice_of n) r (header u long capacity) hh room (header_stands m v1 w1 s1.hi n r u long capacity fits top head) (fewer m v1 w1 c calls s1 held (kept (slice_of n) sv ++ more) g)

  -- ---- in the slice's array

  module _ (fits : count + added ≤ slice_room sv) where
    abbrev in_place : World
    in_place = elements_written w (slice_variable sv) (slice_path sv) (slice_first sv + count) vs

    abbrev next_in : Memory → Memory
    next_in s = puts (record s { heap = put_words s.heap (base s - first_address + count * width t) (xs s) }) (slot h) (header (base s) (count + added) (slice_room sv))

    pub longer_is : IsOf (slice_of n) (longer sv added)
    longer_is = fits

    placed : (s : Memory) → Stands m v w (hold c all ∷ calls) s → (does_at m i pc s ≡ Goes [] (state_of m (pc + 1) (next_in s))) × Stands m v in_place (hold c (held ++ kept (slice_of n) (longer sv added)) ∷ calls) (next_in s)
    placed s g =
        let head = head_of s g in let top = head.small in let st0 = state_of m pc s in
        let a = points_count v w n t sv 0 (base s) is (omega arith) head.base in
        let test : nat_le (count + added) (slice_room sv) ≡ true = elim (leb_tells (count + added) (slice_room sv)) [ inl o ↦ o.0 | inr o ↦ absurd (let lt = o.1 in omega arith) ] in
        let spot = target_spot m v w (hold c all ∷ calls) s t (slice_variable sv) (slice_path sv) (slice_first sv) (slice_room sv) (base s) count added fits a g in
        let good = target_good m v w (hold c all ∷ calls) s t (slice_variable sv) (slice_path sv) (slice_first sv) (slice_room sv) (base s) count vs (xs s) fits a are (stand s g) g in
        let a1 = points_later v v w in_place t (slice_variable sv) (slice_path sv) (slice_first sv) (slice_room sv) (base s) (elements_later v.homes w (slice_variable sv) (slice_path sv) (slice_first sv + count) vs) (omega arith) a in (
          reduced s g
              ∙ ap (λ q. if q then Machine.adds_in_place st0 (slot h) (base s) count (slice_room sv) added (width t) (source s) else Machine.adds_in_new st0 (slot h) (base s) count (Machine.grown (count + added) (slice_room sv)) added (width t) (source s)) test
              ∙ touched_there st0 (Machine.element (base s) count (width t)) (added * width t) (base s - first_address + count * width t) (λ target. Machine.puts_words (Machine.put_at target st0 (xs s)) (slot h) (header (base s) (count + added) (slice_room sv))) spot,
          header_lands v in_place s (record s { heap = put_words s.heap (base s - first_address + count * width t) (xs s) }) (longer sv added) (base s) (count + added) (slice_room sv) (omega arith) (omega arith)
              (record { base = a1; count = to_z_pos w64 (count + added) (omega arith); room = to_z_pos w64 (slice_room sv) top; long_is = refl; room_is = refl; small = top; less = fits }) good,
        )

  -- ---- in a new one

  abbrev capacity : ℕ
  capacity = max (count + added) (2 * slice_room sv)

  abbrev wide : ℕ
  wide = capacity * width t

  abbrev cell : Cell
  cell = array_cell entry site capacity t (zero_value (array_of capacity t))

  abbrev v1 : View
  v1 = after_apart v wide

  abbrev w1 : World
  w1 = born w cell

  abbrev new : ℕ
  new = length w.store

  abbrev olds : List Value
  olds = elements_at w1 (slice_variable sv) (slice_path sv) (slice_first sv) count

  abbrev w2 : World
  w2 = elements_written w1 new [] (0 + 0) olds

  abbrev w3 : World
  w3 = elements_written w2 new [] (0 + count) vs

  abbrev address : ℕ
  address = first_address + v.heap

  -- the heap with more words, and the words of the old elements
  abbrev more_words : Memory → List ℕ
  more_words s = s.heap ++ replicate wide 0

  abbrev old_words : Memory → List ℕ
  old_words s = words_at (more_words s) (base s - first_address) (count * width t)

  abbrev s1 : Memory → Memory
  s1 s = record s { heap = more_words s }

  abbrev s2 : Memory → Memory
  s2 s = record s { heap = put_words (more_words s) v.heap (old_words s) }

  abbrev s3 : Memory → Memory
  s3 s = record s { heap = put_words (put_words (more_words s) v.heap (old_words s)) (v.heap + count * width t) (xs s) }

  abbrev next_new : Memory → Memory
  next_new s = puts (s3 s) (slot h) (header address (count + added) capacity)

  -- an old element has its place, where there is one
  old_points : (s : Memory) → Stands m v w (hold c all ∷ calls) s → 0 < count → Points v w t (slice_variable sv) (slice_path sv) (slice_first sv) (slice_room sv) (base s)
  old_points s g lt = let head = head_of s g in let less = head.less in points_count v w n t sv 0 (base s) is (omega arith) head.base

  -- what the instruction does with them
  abbrev puts_all : Memory → State → Does
  puts_all s q = Machine.puts_words (Machine.put_at (InHeap (v.heap + count * width t)) q (xs s)) (slot h) (header address (count + added) capacity)

  abbrev state_after : Memory → List ℕ → State
  state_after s ws = state_of m pc (record s { heap = ws })

  old_moved : (s : Memory) → Stands m v w (hold c all ∷ calls) s → Machine.moves_old (state_after s (more_words s)) (base s) count (width t) v.heap (puts_all s) ≡ Goes [] (state_of m (pc + 1) (next_new s))
  old_moved s g = elim (eqb_tells count 0) [
    | inl o ↦ (
        let none : count * width t ≡ 0 = ap (λ k. k * width t) o.1 ∙ (let z : 0 * width t ≡ 0 = omega arith in z) in
        let same : put_words (more_words s) v.heap (old_words s) ≡ more_words s = ap (λ k. put_words (more_words s) v.heap (words_at (more_words s) (base s - first_address) k)) none ∙ put_none (more_words s) v.heap in
        ap (λ q. if q then puts_all s (state_after s (more_words s)) else Machine.touches (state_after s (more_words s)) (base s) (count * width t) (λ r. puts_all s (Machine.put_at (InHeap v.heap) (state_after s (more_words s)) (Machine.words_in r (more_words s) s.words (count * width t))))) o.0
        ∙ ap (λ ws. puts_all s (state_after s ws)) (sym same)
        )
    | inr o ↦ (
        let ne = o.1 in let a = old_points s g (above_none count ne) in let inside = a.inside in let word = a.word in let used = g.sized.heap_used in let head = head_of s g in let less = head.less in
        let rest = slice_room sv - count in let whole : count + rest ≡ slice_room sv = omega arith in let product : (count + rest) * width t ≡ slice_room sv * width t = ap (λ k. k * width t) whole in
        let spot = spot_heap s.hi (more_words s) s.words (base s - first_address) (count * width t) (base s) (omega (arith, word)) (omega (arith, inside, word, used, product, times_sum count rest (width t), length-append s.heap (replicate wide 0))) in
        ap (λ q. if q then puts_all s (state_after s (more_words s)) else Machine.touches (state_after s (more_words s)) (base s) (count * width t) (λ r. puts_all s (Machine.put_at (InHeap v.heap) (state_after s (more_words s)) (Machine.words_in r (more_words s) s.words (count * width t))))) o.0
        ∙ touched_there (state_after s (more_words s)) (base s) (count * width t) (base s - first_address) (λ r. puts_all s (Machine.put_at (InHeap v.heap) (state_after s (more_words s)) (Machine.words_in r (more_words s) s.words (count * width t)))) spot
        )
  ]
    where
      above_none : (k : ℕ) → k ≢ 0 → 0 < k
      above_none zero ne = absurd (ne refl)
      above_none (suc k) ne = omega arith

  module _ (full : slice_room sv < count + added) where
    moved : (s : Memory) → Stands m v w (hold c all ∷ calls) s → does_at m i pc s ≡ (if nat_le (v.heap + wide) m.heap_max then Goes [] (state_of m (pc + 1) (next_new s)) else stops (state_of m pc s) (Full v.heap wide m.heap_max))
    moved s g =
        let st0 = state_of m pc s in
        let test : nat_le (count + added) (slice_room sv) ≡ false = elim (leb_tells (count + added) (slice_room sv)) [ inl o ↦ absurd (let le = o.1 in omega arith) | inr o ↦ o.0 ] in
        reduced s g
        ∙ ap (λ q. if q then Machine.adds_in_place st0 (slot h) (base s) count (slice_room sv) added (width t) (source s) else Machine.adds_in_new st0 (slot h) (base s) count capacity added (width t) (source s)) test
        ∙ turned_round (length s.heap + wide) m.heap_max (stops st0 (Full (length s.heap) wide m.heap_max)) (Machine.moves_old (state_after s (more_words s)) (base s) count (width t) (length s.heap) (λ q. Machine.puts_words (Machine.put_at (InHeap (length s.heap + count * width t)) q (xs s)) (slot h) (header (first_address + length s.heap) (count + added) capacity)))
        ∙ ap (λ k. if nat_le (k + wide) m.heap_max then Machine.moves_old (state_after s (more_words s)) (base s) count (width t) k (λ q. Machine.puts_words (Machine.put_at (InHeap (k + count * width t)) q (xs s)) (slot h) (header (first_address + k) (count + added) capacity)) else stops st0 (Full k wide m.heap_max)) g.sized.heap_used
        ∙ ap (λ d. if nat_le (v.heap + wide) m.heap_max then d else stops st0 (Full v.heap wide m.heap_max)) (old_moved s g)

    module _ (fits : v.heap + wide ≤ m.heap_max) (s : Memory) (g : Stands m v w (hold c all ∷ calls) s) where
      born_good : Stands m v1 w1 (hold c all ∷ calls) (s1 s)
      born_good = array_born m (hold c all) calls v w s entry site capacity t (zero_value (array_of capacity t)) (replicate wide 0) fits (zero_is (array_of capacity t)) (zeros_stand m (hold c all) calls v w s.hi capacity t) g

      born_points : Points v1 w1 t new [] 0 capacity address
      born_points = array_points m (hold c all) calls v w s entry site capacity t (zero_value (array_of capacity t)) g

      after_birth : Later v.homes v1.homes w w1
      after_birth = born_later m v w wide cell g.homed.births

      -- the old elements, in the new world
      old_all : (k : ℕ) → k ≡ count → Stand m.program m.leading v1.homes s.hi w1 (all_leaves (replicate k t)) (contents_of (elements_at w1 (slice_variable sv) (slice_path sv) (slice_first sv) k)) (words_at (more_words s) (base s - first_address) (k * width t)) × AreOf (replicate k t) (elements_at w1 (slice_variable sv) (slice_path sv) (slice_first sv) k)
      old_all zero e = let z : 0 ≡ 0 * width t = omega arith in (subst (λ q. Stand m.program m.leading v1.homes s.hi w1 [] [] (words_at (more_words s) (base s - first_address) q)) z (record { long = refl; each = λ j lt. absurd (omega arith) }), tt)
      old_all (suc k) e =
          let a = old_points s g (omega (arith, e)) in let head = head_of s g in let less = head.less in
          let a1 = points_later v v1 w w1 t (slice_variable sv) (slice_path sv) (slice_first sv) (slice_room sv) (base s) after_birth (omega arith) a in (
            source_stand m v1 w1 (hold c all ∷ calls) (s1 s) t (slice_variable sv) (slice_path sv) (slice_first sv) (slice_room sv) (base s) (suc k) (omega (arith, e)) a1 born_good,
            source_are m v1 w1 (hold c all ∷ calls) (s1 s) t (slice_variable sv) (slice_path sv) (slice_first sv) (slice_room sv) (base s) (suc k) (omega (arith, e)) a1 born_good,
          )

      moved_good : Stands m v1 w2 (hold c all ∷ calls) (s2 s)
      moved_good =
          let long = elements_length w1 (slice_variable sv) (slice_path sv) (slice_first sv) count in let o = old_all count refl in
          let there : address - first_address + 0 * width t ≡ v.heap = omega arith in
          subst (λ q. Stands m v1 w2 (hold c all ∷ calls) (record s { heap = put_words (more_words s) q (old_words s) })) there
          (target_good m v1 w1 (hold c all ∷ calls) (s1 s) t new [] 0 capacity address 0 olds (old_words s) (omega (arith, long)) born_points
          (read_are w1 t (slice_variable sv) (slice_path sv) (slice_first sv) count o.1) (read_stand m v1 w1 s.hi t (slice_variable sv) (slice_path sv) (slice_first sv) count (old_words s) o.0) born_good)

      moved_points : Points v1 w2 t new [] 0 capacity address
      moved_points = points_later v1 v1 w1 w2 t new [] 0 capacity address (elements_later v1.homes w1 new [] (0 + 0) olds) (omega arith) born_points

      all_good : Stands m v1 w3 (hold c all ∷ calls) (s3 s)
      all_good =
          let there : address - first_address + count * width t ≡ v.heap + count * width t = omega arith in
          let st1 = stand_later m.program m.leading v.homes v1.homes s.hi w w1 (all_leaves (replicate added t)) (contents_of vs) (xs s) after_birth (stand s g) in
          let st2 = stand_later m.program m.leading v1.homes v1.homes s.hi w1 w2 (all_leaves (replicate added t)) (contents_of vs) (xs s) (elements_later v1.homes w1 new [] (0 + 0) olds) st1 in
          subst (λ q. Stands m v1 w3 (hold c all ∷ calls) (record s { heap = put_words (put_words (more_words s) v.heap (old_words s)) q (xs s) })) there
          (target_good m v1 w2 (hold c all ∷ calls) (s2 s) t new [] 0 capacity address count vs (xs s) (omega arith) moved_points are st2 moved_good)

      new_good : Stands m v1 w3 (hold c (held ++ kept (slice_of n) (slice_in new [] 0 (count + added) capacity)) ∷ calls) (next_new s)
      new_good =
          let le = le-mul_of_pos_right capacity some in let most = m.heap_roomy in
          let a = points_later v1 v1 w2 w3 t new [] 0 capacity address (elements_later v1.homes w2 new [] (0 + count) vs) (omega arith) moved_points in
          header_lands v1 w3 s (s3 s) (slice_in new [] 0 (count + added) capacity) address (count + added) capacity (omega (arith, le, fits, most)) (omega (arith, le, fits, most))
          (record { base = a; count = to_z_pos w64 (count + added) (omega (arith, le, fits, most)); room = to_z_pos w64 capacity (omega (arith, le, fits, most)); long_is = refl; room_is = refl; small = omega (arith, le, fits, most); less = omega arith }) all_good

  -- ---- either

  pub adds_follow : {lo hi b : ℕ} (around : Setting) (k : Then Value) → Meaning.site_type around site ≡ t → ((r : Value) (v2 : View) (u : World) → IsOf (slice_of n) r → At m lo hi b v2 (k r u) (Stands m v2 u (hold c (held ++ kept (slice_of n) r) ∷ calls)) (pc + 1))
      → At m (suc lo) 1 b v (Meaning.add_to around entry site sv vs k w) (Stands m v w (hold c all ∷ calls)) pc
  adds_follow {lo} {hi} {b} around k sites post = elim (leb_tells (count + added) (slice_room sv)) [
    | inl o ↦ (
        subst (λ (q : Bool). At m (suc lo) 1 b v (Meaning.when q (Meaning.add_within sv vs k) (Meaning.regrow around entry site sv capacity (λ r. Meaning.add_within r vs k)) w) (Stands m v w (hold c all ∷ calls)) pc) (sym o.0)
        (written_to m _ _ _ (stepped m {lo = lo} {hi = hi} i (next_in o.1) here (λ s g. let f = placed o.1 s g in (f.0, refl, f.1)) (post (longer sv added) v (in_place o.1) (longer_is o.1))))
        )
    | inr o ↦ (
        subst (λ (q : Bool). At m (suc lo) 1 b v (Meaning.when q (Meaning.add_within sv vs k) (Meaning.regrow around entry site sv capacity (λ r. Meaning.add_within r vs k)) w) (Stands m v w (hold c all ∷ calls)) pc) (sym o.0)
        (subst (λ z. At m (suc lo) 1 b v (Meaning.bear_array entry site z capacity (zero_value (array_of capacity z)) old_go w) (Stands m v w (hold c all ∷ calls)) pc) (sym sites)
        (gated m {lo = lo} {hi = hi} {b = b} {v1 = v1} {t1 = old_go new w1} i (nat_le (v.heap + wide) m.heap_max) (HeapLimit v.heap wide m.heap_max) (Full v.heap wide m.heap_max) next_new here (refl, refl, refl)
        (born_seen m (hold c all) calls v site wide (old_go new w1) boxed) (λ s g. g.sized.heap_used) (λ s g. moved o.1 s g) (λ s. refl) (λ fits s g. new_good o.1 (leb-true (v.heap + wide) m.heap_max fits) s g)
        (λ fits. peeled count refl (post (slice_in new [] 0 (count + added) capacity) v1 w3 (let le : count + added ≤ capacity = omega arith in le)))))
        )
  ]
    where
      old_go : ℕ → Go
      old_go x = Meaning.read_first count sv (λ old. Meaning.write_behind 0 (slice_in x [] 0 count capacity) old (Meaning.add_within (slice_in x [] 0 count capacity) vs k))

      -- reads and writes show nothing
      peeled : (q : ℕ) → q ≡ count → At m lo hi b v1 (k (slice_in new [] 0 (count + added) capacity) w3) (Stands m v1 w3 (hold c (held ++ kept (slice_of n) (slice_in new [] 0 (count + added) capacity)) ∷ calls)) (pc + 1)
          → At m lo hi b v1 (old_go new w1) (Stands m v1 w3 (hold c (held ++ kept (slice_of n) (slice_in new [] 0 (count + added) capacity)) ∷ calls)) (pc + 1)
      peeled q e after =
          subst (λ j. At m lo hi b v1 (Meaning.read_first j sv (λ old. Meaning.write_behind 0 (slice_in new [] 0 count capacity) old (Meaning.add_within (slice_in new [] 0 count capacity) vs k)) w1) (Stands m v1 w3 (hold c (held ++ kept (slice_of n) (slice_in new [] 0 (count + added) capacity)) ∷ calls)) (pc + 1)) e
          (by q (subst (λ j. At m lo hi b v1 (k (slice_in new [] 0 (count + added) capacity) (elements_written (elements_written w1 new [] (0 + 0) (elements_at w1 (slice_variable sv) (slice_path sv) (slice_first sv) j)) new [] (0 + count) vs)) (Stands m v1 w3 (hold c (held ++ kept (slice_of n) (slice_in new [] 0 (count + added) capacity)) ∷ calls)) (pc + 1)) (sym e) after))
        where
          by : (j : ℕ) → At m lo hi b v1 (k (slice_in new [] 0 (count + added) capacity) (elements_written (elements_written w1 new [] (0 + 0) (elements_at w1 (slice_variable sv) (slice_path sv) (slice_first sv) j)) new [] (0 + count) vs)) (Stands m v1 w3 (hold c (held ++ kept (slice_of n) (slice_in new [] 0 (count + added) capacity)) ∷ calls)) (pc + 1)
              → At m lo hi b v1 (Meaning.read_first j sv (λ old. Meaning.write_behind 0 (slice_in new [] 0 count capacity) old (Meaning.add_within (slice_in new [] 0 count capacity) vs k)) w1) (Stands m v1 w3 (hold c (held ++ kept (slice_of n) (slice_in new [] 0 (count + added) capacity)) ∷ calls)) (pc + 1)
          by zero a = written_to m _ _ _ a
          by (suc j) a = read_of m _ _ _ (written_to m _ _ _ (written_to m _ _ _ a))
