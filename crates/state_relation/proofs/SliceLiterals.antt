-- A slice literal: an array is born on the heap with its elements, and the header of a slice of it is put together.
use Rattle.std.proofs.Common.{◌≡◌, ℕ, zero, suc, ◌+◌, ◌*◌, ◌^◌, ◌<◌, ◌≤◌, pos, true, List, [], ◌∷◌, ◌++◌, length, Some, refl, sym, ap, ◌∙◌, subst, arith, append_assoc, append-nil, length-append, get_or-set_same, take_at, drop_at}
use Rattle.std.specs.Prelude.{slice_get, slice_index, nat_le, replicate, drop, if◌then◌else◌}
use Rattle.std.specs.Int.{w64}
use Rattle.std.proofs.lemmas.Bool.{leb-true}
use Rattle.std.proofs.lemmas.List.{length-replicate}
use Rattle.std.proofs.lemmas.Int.{to_z_pos}
use Rattle.std.proofs.Math.Nat.{le-mul_of_pos_right}
use Rattle.typed_syntax.specs.Types.{TypeTree, ints, array_of, slice_of, width, repeated}
use Rattle.typed_syntax.specs.Value.{Value, composite, slice_in, AreOf as ArePartsOf}
use Rattle.typed_syntax.specs.Words.{number, array_address, contents}
use Rattle.typed_syntax.specs.Syntax.{type_named, all_width}
use Rattle.typed_syntax.specs.Form.{AreOf}
use Rattle.meaning.specs.Trace.{World, Trace, HeapLimit, Born, Note}
use Rattle.meaning.specs.Store.{values_of, born}
use Rattle.simulation.specs.Steps.{Goes}
use Rattle.heap_bump.specs.Words.{first_address}
use Rattle.isa.specs.declared.instr.StoreEvent.TheVariants as Stored
use Rattle.isa.specs.declared.instr.Instr.TheVariants.{Const, Alloc, Store}
use Rattle.machine.specs.declared.memory.Spot.{Spot}
use Rattle.machine.specs.declared.run_state.Ending.TheVariants.{HeapLimit as Full}
use Rattle.machine.specs.Machine.{words_at, put_words, spot_of, address_behind, reaches_by, stores_at, stops}
use Rattle.state_relation.specs.Leaves.{leaves}
use Rattle.state_relation.specs.Views.{View, after_apart}
use Rattle.state_relation.specs.Relation.{Memory, sets, Kept, word, Frame, hold, Stand, contents_of}
use Rattle.state_relation.proofs.Distances.{put_one, read_above}
use Rattle.state_relation.proofs.Stretches.{values_contents, alike_leaves, alike_length}
use Rattle.state_relation.proofs.Leaves.{all_leaves_length}
use Rattle.state_relation.proofs.Calls.{turned_round}
use Rattle.state_relation.proofs.Touches.{reached_by, spot_heap}
use Rattle.state_relation.proofs.Built.{Built}
use Rattle.state_relation.proofs.Rules.{state_of, range_of, does_at, At, Stands, knowing, given, place_is, stepped, gated}
use Rattle.state_relation.proofs.Values.{kept, all_kept, all_kept_length, fewer, values_stand}
use Rattle.state_relation.proofs.Slices.{points_into, may_heap}
use Rattle.state_relation.proofs.SliceSteps.{T}
use Rattle.state_relation.proofs.SliceBirths.{good_replaced, array_cell, array_born, array_points, born_seen}

-- new words are replaced
pub new_replaced : (words zeros xs : List ℕ) (from : ℕ) → length words ≡ from → length zeros ≡ length xs → put_words (words ++ zeros) from xs ≡ words ++ xs
new_replaced words zeros xs from long same =
    let both : length (words ++ zeros) ≡ from + length xs = omega (arith, length-append words zeros, long, same) in
    ap (λ l. l ++ (xs ++ drop (from + length xs) (words ++ zeros))) (take_at words zeros from long)
    ∙ ap (λ l. words ++ (xs ++ l)) (ap (drop (from + length xs)) (sym (append-nil (words ++ zeros))) ∙ drop_at (words ++ zeros) [] (from + length xs) both)
    ∙ ap (λ l. words ++ l) (append-nil xs)

-- elements of one type are an array
pub elements_are : (n : ℕ) (t : TypeTree) (vs : List Value) → AreOf (replicate n t) vs → ArePartsOf (repeated n t) (values_of vs)
elements_are zero t [] are = tt
elements_are zero t (v ∷ vs) are = absurd are
elements_are (suc n) t [] are = absurd are
elements_are (suc n) t (v ∷ vs) are = (are.0, elements_are n t vs are.1)

pub alike_wide : (n : ℕ) (t : TypeTree) → all_width (replicate n t) ≡ n * width t
alike_wide n t = sym (all_leaves_length (replicate n t)) ∙ alike_length n t

module _ (m : Built) (c : Frame) (calls : List Frame) where
  -- a length and a capacity that are the same, above an address
  pub numbers_put : {lo hi b : ℕ} {rest : Trace} (v : View) (w : World) (held more : List Kept) (k0 k1 k2 : Kept) (h a pc : ℕ) → length held ≡ h → a < 2 ^ 63 → slice_get m.code.instrs pc ≡ Some (Const (T m c calls (h + 1)) a) → slice_get m.code.instrs (pc + 1) ≡ Some (Const (T m c calls (h + 2)) a)
      → At m lo hi b v rest (Stands m v w (hold c (held ++ (k0 ∷ (word ints (number (pos a)) ∷ (word ints (number (pos a)) ∷ more)))) ∷ calls)) (pc + 1 + 1) → At m (suc (suc lo)) 1 b v rest (Stands m v w (hold c (held ++ (k0 ∷ (k1 ∷ (k2 ∷ more)))) ∷ calls)) pc
  numbers_put {lo} {hi} {b} {rest} v w held more k0 k1 k2 h a pc hh small one two post =
      let number_word : Kept = word ints (number (pos a)) in
      stepped m {lo = suc lo} {hi = 1} {G1 = Stands m v w (hold c (held ++ (k0 ∷ (number_word ∷ (k2 ∷ more)))) ∷ calls)} (Const (T m c calls (h + 1)) a) (λ s. sets s (T m c calls (h + 1)) a) one
      (λ s g. (refl, refl, moved s (k0 ∷ []) (number_word ∷ (k2 ∷ more)) (good_replaced m c calls v w s (held ++ k0 ∷ []) (k2 ∷ more) k1 number_word (h + 1) a (omega (arith, length-append held (k0 ∷ []))) (to_z_pos w64 a small, omega arith) (parted s (k0 ∷ []) (k1 ∷ (k2 ∷ more)) g))))
      (stepped m {lo = lo} {hi = hi} {G1 = Stands m v w (hold c (held ++ (k0 ∷ (number_word ∷ (number_word ∷ more)))) ∷ calls)} (Const (T m c calls (h + 2)) a) (λ s. sets s (T m c calls (h + 2)) a) two
      (λ s g. (refl, refl, moved s (k0 ∷ (number_word ∷ [])) (number_word ∷ more) (good_replaced m c calls v w s (held ++ (k0 ∷ (number_word ∷ []))) more k2 number_word (h + 2) a (omega (arith, length-append held (k0 ∷ (number_word ∷ [])))) (to_z_pos w64 a small, omega arith) (parted s (k0 ∷ (number_word ∷ [])) (k2 ∷ more) g)))) post)
    where
      moved : (s : Memory) (front back : List Kept) {s1 : Memory} → Stands m v w (hold c ((held ++ front) ++ back) ∷ calls) s1 → Stands m v w (hold c (held ++ (front ++ back)) ∷ calls) s1
      moved s front back {s1} g = subst (λ l. Stands m v w (hold c l ∷ calls) s1) (append_assoc held front back) g

      parted : (s : Memory) (front back : List Kept) → Stands m v w (hold c (held ++ (front ++ back)) ∷ calls) s → Stands m v w (hold c ((held ++ front) ++ back) ∷ calls) s
      parted s front back g = subst (λ l. Stands m v w (hold c l ∷ calls) s) (sym (append_assoc held front back)) g

  module _ (n : ℕ) (k : ℕ) (vs : List Value) (held : List Kept) (k0 k1 k2 : Kept) (h pc site entry : ℕ) (v : View) (w : World) (hh : length held ≡ h) (boxed : m.placement.on_heap site ≡ true) (some : 0 < width (type_named m.program n)) (are : AreOf (replicate k (type_named m.program n)) vs) where
    abbrev t : TypeTree
    t = type_named m.program n

    abbrev slot : ℕ → ℕ
    slot i = T m c calls i

    abbrev wide : ℕ
    wide = k * width t

    abbrev before : List Kept
    before = held ++ (k0 ∷ (k1 ∷ (k2 ∷ all_kept (replicate k t) vs)))

    abbrev array : Value
    array = composite (values_of vs)

    abbrev v1 : View
    v1 = after_apart v wide

    abbrev pub w1 : World
    w1 = born w (array_cell entry site k t array)

    abbrev pub slice : Value
    slice = slice_in (length w.store) [] 0 k k

    abbrev elements : Memory → List ℕ
    elements s = words_at s.words (slot (h + 3)) wide

    -- the array has its elements, and the first temp its address
    abbrev based : Memory → Memory
    based s = sets (record s { heap = s.heap ++ elements s }) (slot h) (first_address + v.heap)

    abbrev with_address : List Kept
    with_address = held ++ (word (slice_of n) (array_address (length w.store) [] 0 k) ∷ (k1 ∷ (k2 ∷ all_kept (replicate k t) vs)))

    elements_stand : (s : Memory) → Stands m v w (hold c before ∷ calls) s → Stand m.program m.leading v.homes s.hi w (leaves (array_of k t)) (contents array) (elements s)
    elements_stand s g =
        let front = held ++ (k0 ∷ (k1 ∷ (k2 ∷ []))) in
        let g1 = subst (λ l. Stands m v w (hold c l ∷ calls) s) (sym (append_assoc held (k0 ∷ (k1 ∷ (k2 ∷ []))) (all_kept (replicate k t) vs))) g in
        let st = values_stand m v w c calls s front (replicate k t) vs (h + 3) wide (omega (arith, length-append held (k0 ∷ (k1 ∷ (k2 ∷ []))))) (sym (alike_wide k t)) g1 in
        subst (λ cs. Stand m.program m.leading v.homes s.hi w (leaves (array_of k t)) cs (elements s)) (sym (values_contents vs)) (subst (λ ls. Stand m.program m.leading v.homes s.hi w ls (contents_of vs) (elements s)) (alike_leaves k t) st)

    based_good : v.heap + wide ≤ m.heap_max → (s : Memory) → Stands m v w (hold c before ∷ calls) s → Stands m v1 w1 (hold c with_address ∷ calls) (based s)
    based_good fits s g =
        let g1 = array_born m (hold c before) calls v w s entry site k t array (elements s) fits (elements_are k t vs are) (elements_stand s g) g in
        let a = array_points m (hold c before) calls v w s entry site k t array g in
        good_replaced m c calls v1 w1 (record s { heap = s.heap ++ elements s }) held (k1 ∷ (k2 ∷ all_kept (replicate k t) vs)) k0 (word (slice_of n) (array_address (length w.store) [] 0 k)) h (first_address + v.heap) hh
        (may_heap m.leading v1.homes (length w.store) a.at m.apart a.home, points_into v1 w1 s.hi t (length w.store) [] 0 k (first_address + v.heap) a) g1

    -- its words are taken first
    abbrev empty : Memory → Memory
    empty s = sets (record s { heap = s.heap ++ replicate wide 0 }) (slot h) (first_address + v.heap)

    taken : (s : Memory) → length s.heap ≡ v.heap → does_at m (Alloc (slot h) wide site) pc s ≡ (if nat_le (v.heap + wide) m.heap_max then Goes [] (state_of m (pc + 1) (empty s)) else stops (state_of m pc s) (Full v.heap wide m.heap_max))
    taken s used =
        turned_round (length s.heap + wide) m.heap_max (stops (state_of m pc s) (Full (length s.heap) wide m.heap_max)) (Goes [] (state_of m (pc + 1) (sets (record s { heap = s.heap ++ replicate wide 0 }) (slot h) (first_address + length s.heap))))
        ∙ ap (λ q. if nat_le (q + wide) m.heap_max then Goes [] (state_of m (pc + 1) (sets (record s { heap = s.heap ++ replicate wide 0 }) (slot h) (first_address + q))) else stops (state_of m pc s) (Full q wide m.heap_max)) used

    inside : (s : Memory) → Stands m v w (hold c before ∷ calls) s → slot (h + 3) + wide ≤ length s.words
    inside s g =
        let r = g.homed.owned.0.room in let used = g.sized.used in
        omega (arith, r, used, hh, length-append held (k0 ∷ (k1 ∷ (k2 ∷ all_kept (replicate k t) vs))), all_kept_length (replicate k t) vs, alike_wide k t)

    -- and get those of the elements
    filled_is : (s : Memory) → Stands m v w (hold c before ∷ calls) s → record (empty s) { heap = put_words (empty s).heap v.heap (words_at (empty s).words (slot (h + 3)) wide) } ≡ based s
    filled_is s g =
        let used = g.sized.heap_used in let room = inside s g in let u = empty s in
        let above : words_at u.words (slot (h + 3)) wide ≡ elements s = ap (λ ws. words_at ws (slot (h + 3)) wide) (sym (put_one s.words (slot h) (first_address + v.heap) (omega (arith, room)))) ∙ read_above s.words (slot (h + 3)) wide (slot h) ((first_address + v.heap) ∷ []) (omega arith) (omega (arith, room)) in
        let long : length (elements s) ≡ wide = (elements_stand s g).long ∙ (let q = alike_length k t in ap (λ l. length l) (sym (alike_leaves k t)) ∙ q) in
        let zeros : length (replicate {A = ℕ} wide 0) ≡ length (elements s) = length-replicate {A = ℕ} wide 0 ∙ sym long in
        ap (λ ws. record u { heap = ws }) (ap (λ l. put_words (s.heap ++ replicate wide 0) v.heap l) above ∙ new_replaced s.heap (replicate wide 0) (elements s) v.heap used zeros)

    filled : (s : Memory) → Stands m v w (hold c before ∷ calls) s → v.heap + wide ≤ m.heap_max → does_at m (Store Stored.Silent (slot h) 0 (slot (h + 3)) wide) (pc + 1) (empty s) ≡ Goes [] (state_of m (pc + 1 + 1) (based s))
    filled s g fits =
        let used = g.sized.heap_used in let most = m.heap_roomy in let room = inside s g in
        let u = empty s in let xs = words_at u.words (slot (h + 3)) wide in
        let does = λ (at : ℕ). stores_at (spot_of u.hi u.heap u.words at wide) (state_of m (pc + 1) u) xs at in
        let address : slice_index u.words (slot h) ≡ first_address + v.heap = get_or-set_same s.words (slot h) (first_address + v.heap) 0 (omega (arith, room)) in
        let taken_words : length (s.heap ++ replicate wide 0) ≡ length s.heap + wide = omega (arith, length-append s.heap (replicate wide 0), length-replicate {A = ℕ} wide 0) in
        ap (λ q. reaches_by (state_of m (pc + 1) u) (address_behind q 0) does) address
        ∙ reached_by (state_of m (pc + 1) u) (first_address + v.heap) 0 (first_address + v.heap) does (omega arith) (omega arith) (omega (arith, fits, most))
        ∙ ap (λ (q : Spot). stores_at q (state_of m (pc + 1) u) xs (first_address + v.heap)) (spot_heap u.hi u.heap u.words v.heap wide (first_address + v.heap) refl (omega (arith, taken_words, used)))
        ∙ ap (λ x. Goes [] (state_of m (pc + 1 + 1) x)) (filled_is s g)

    few : v.heap + wide ≤ m.heap_max → k < 2 ^ 63
    few fits = let le = le-mul_of_pos_right k some in let most = m.heap_roomy in omega (arith, le, fits, most)

    -- the slice stands when its numbers do
    module _ {lo b : ℕ} (rest : Trace) (end : ℕ) (post : At m lo 0 b v1 rest (Stands m v1 w1 (hold c (held ++ kept (slice_of n) slice) ∷ calls)) end) where
      header_put : (at : ℕ) → at + 1 + 1 ≡ end → v.heap + wide ≤ m.heap_max → slice_get m.code.instrs at ≡ Some (Const (slot (h + 1)) k) → slice_get m.code.instrs (at + 1) ≡ Some (Const (slot (h + 2)) k) → At m (suc (suc lo)) 1 b v1 rest (Stands m v1 w1 (hold c with_address ∷ calls)) at
      header_put at ends fits one two =
          numbers_put {lo = lo} {hi = 0} v1 w1 held (all_kept (replicate k t) vs) (word (slice_of n) (array_address (length w.store) [] 0 k)) k1 k2 h k at hh (few fits) one two
          (place_is m (sym ends) (given m (λ s g. fewer m v1 w1 c calls s (held ++ kept (slice_of n) slice) (all_kept (replicate k t) vs) (subst (λ l. Stands m v1 w1 (hold c l ∷ calls) s) (sym (append_assoc held (kept (slice_of n) slice) (all_kept (replicate k t) vs))) g)) post))

      -- with elements, and without
      pub literal_follows : pc + 1 + 1 + 1 + 1 ≡ end → slice_get m.code.instrs pc ≡ Some (Alloc (slot h) wide site) → slice_get m.code.instrs (pc + 1) ≡ Some (Store Stored.Silent (slot h) 0 (slot (h + 3)) wide) → slice_get m.code.instrs (pc + 1 + 1) ≡ Some (Const (slot (h + 1)) k) → slice_get m.code.instrs (pc + 1 + 1 + 1) ≡ Some (Const (slot (h + 2)) k)
          → At m (suc (suc (suc (suc lo)))) 1 b v (Note (Born site wide) rest) (Stands m v w (hold c before ∷ calls)) pc
      literal_follows ends alloc store one two =
          gated m {lo = suc (suc (suc lo))} {hi = 1} {b = b} {v1 = v1} {t1 = rest} {G1 = λ u. (s : Memory) × Stands m v w (hold c before ∷ calls) s × (u ≡ empty s)} (Alloc (slot h) wide site) (nat_le (v.heap + wide) m.heap_max) (HeapLimit v.heap wide m.heap_max) (Full v.heap wide m.heap_max) empty alloc (refl, refl, refl)
          (born_seen m c calls v site wide rest boxed) (λ s g. g.sized.heap_used) (λ s g. taken s g.sized.heap_used) (λ s. refl) (λ fits s g. (s, g, refl))
          (λ fits.
          let room = leb-true (v.heap + wide) m.heap_max fits in
          knowing m (λ u0 f.
          stepped m {lo = suc (suc lo)} {hi = 1} {G1 = Stands m v1 w1 (hold c with_address ∷ calls)} (Store Stored.Silent (slot h) 0 (slot (h + 3)) wide) (λ u. record u { heap = put_words u.heap v.heap (words_at u.words (slot (h + 3)) wide) }) store
          (λ u e. there room u e.0 e.1 e.2) (header_put (pc + 1 + 1) ends room one two)))
        where
          again : Memory → Memory
          again u = record u { heap = put_words u.heap v.heap (words_at u.words (slot (h + 3)) wide) }

          there : v.heap + wide ≤ m.heap_max → (u s : Memory) → Stands m v w (hold c before ∷ calls) s → u ≡ empty s → (does_at m (Store Stored.Silent (slot h) 0 (slot (h + 3)) wide) (pc + 1) u ≡ Goes [] (state_of m (pc + 1 + 1) (again u))) × (range_of m u ≡ range_of m (again u)) × Stands m v1 w1 (hold c with_address ∷ calls) (again u)
          there room u s g e =
              let same : again (empty s) ≡ based s = filled_is s g in
              subst (λ x. (does_at m (Store Stored.Silent (slot h) 0 (slot (h + 3)) wide) (pc + 1) x ≡ Goes [] (state_of m (pc + 1 + 1) (again x))) × (range_of m x ≡ range_of m (again x)) × Stands m v1 w1 (hold c with_address ∷ calls) (again x)) (sym e)
              (filled s g room ∙ ap (λ x. Goes [] (state_of m (pc + 1 + 1) x)) (sym same), refl, subst (λ x. Stands m v1 w1 (hold c with_address ∷ calls) x) (sym same) (based_good room s g))

      pub empty_literal_follows : wide ≡ 0 → pc + 1 + 1 + 1 ≡ end → slice_get m.code.instrs pc ≡ Some (Alloc (slot h) wide site) → slice_get m.code.instrs (pc + 1) ≡ Some (Const (slot (h + 1)) k) → slice_get m.code.instrs (pc + 1 + 1) ≡ Some (Const (slot (h + 2)) k)
          → At m (suc (suc (suc lo))) 1 b v (Note (Born site wide) rest) (Stands m v w (hold c before ∷ calls)) pc
      empty_literal_follows none ends alloc one two =
          gated m {lo = suc (suc lo)} {hi = 1} {b = b} {v1 = v1} {t1 = rest} {G1 = Stands m v1 w1 (hold c with_address ∷ calls)} (Alloc (slot h) wide site) (nat_le (v.heap + wide) m.heap_max) (HeapLimit v.heap wide m.heap_max) (Full v.heap wide m.heap_max) empty alloc (refl, refl, refl)
          (born_seen m c calls v site wide rest boxed) (λ s g. g.sized.heap_used) (λ s g. taken s g.sized.heap_used) (λ s. refl)
          (λ fits s g. subst (λ x. Stands m v1 w1 (hold c with_address ∷ calls) (sets (record s { heap = s.heap ++ x }) (slot h) (first_address + v.heap))) (no_words s) (based_good (leb-true (v.heap + wide) m.heap_max fits) s g))
          (λ fits. header_put (pc + 1) ends (leb-true (v.heap + wide) m.heap_max fits) one two)
        where
          no_words : (s : Memory) → elements s ≡ replicate wide 0
          no_words s = ap (λ q. words_at s.words (slot (h + 3)) q) none ∙ sym (ap (λ q. replicate q 0) none)
