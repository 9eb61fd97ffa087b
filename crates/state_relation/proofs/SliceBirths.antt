-- Slices of new arrays: `make`, and slice literals.
use Rattle.std.proofs.Common.{◌≡◌, inl, inr, ℕ, zero, suc, ◌+◌, ◌-◌, ◌*◌, ◌<◌, ◌≤◌, ℤ, pos, negsuc, Bool, true, false, List, [], ◌∷◌, ◌++◌, length, Some, Result, Ok, Err, refl, sym, ap, ◌∙◌, subst, arith, append_assoc, append-nil, length-append}
use Rattle.std.specs.Prelude.{slice_get, slice_index, nat_le, replicate, ◌&&◌, if◌then◌else◌}
use Rattle.std.specs.Int.{w64, cast_signed}
use Rattle.std.proofs.lemmas.Bool.{le-leb, leb-true}
use Rattle.std.proofs.lemmas.Bool.Decides.{leb_tells}
use Rattle.typed_syntax.specs.Positions.{Position}
use Rattle.typed_syntax.specs.Types.{TypeTree, ints, array_of, slice_of, width}
use Rattle.typed_syntax.specs.Value.{Value, int, slice_in, IsOf, zero_of as zero_value}
use Rattle.typed_syntax.specs.Words.{array_address, contents}
use Rattle.typed_syntax.specs.Syntax.{type_named}
use Rattle.frames.specs.Frames.{outgoing_of, temps_of}
use Rattle.value_laws.proofs.Zeros.{zero_is}
use Rattle.meaning.specs.Trace.{World, Cell, Trace, End, Panic, Fault, make_length, make_capacity, HeapLimit, Born, Note}
use Rattle.meaning.specs.Store.{born}
use Rattle.meaning.specs.Operators.{Sizes, sizes_of, room_for}
use Rattle.meaning.specs.Meaning
use Rattle.meaning.specs.Meaning.{Env, Go, Then, Ways, Setting, new_cell}
use Rattle.meaning.specs.Output.{last}
use Rattle.simulation.specs.Outcome as Outcome
use Rattle.simulation.specs.Steps.{Goes}
use Rattle.heap_bump.specs.Words.{first_address}
use Rattle.isa.specs.declared.instr.Instr.TheVariants.{Make}
use Rattle.machine.specs.declared.run_state.Ending.TheVariants.{Panic as Panicked, HeapLimit as Full}
use Rattle.machine.specs.declared.run_state.Panic.TheVariants.{MakeLength, MakeCapacity}
use Rattle.machine.specs.Machine as Machine
use Rattle.machine.specs.Machine.{Does, State, words_at, put_words, stops, number as number_of}
use Rattle.state_relation.specs.Leaves.{leaves}
use Rattle.state_relation.specs.Views.{View, distance, born_apart, after_stack, after_apart}
use Rattle.state_relation.specs.Relation.{Memory, puts, sets, Kept, word, Frame, hold, word_at, StandsKept, Stand, depth}
use Rattle.state_relation.proofs.Lists.{some_same, append_cases, append_new}
use Rattle.state_relation.proofs.Distances.{put_one, put_other, put_same}
use Rattle.state_relation.proofs.Words.{zero_stands}
use Rattle.state_relation.proofs.Changes.{apart_new, good_kept, good_free, good_fewer}
use Rattle.state_relation.proofs.Births.{is_new}
use Rattle.state_relation.proofs.Crossing.{birth_apart}
use Rattle.state_relation.proofs.Calls.{turned_round}
use Rattle.state_relation.proofs.Built.{Built, limits_of}
use Rattle.state_relation.proofs.Rules.{state_of, seen_from, At, Stands, halts, gated}
use Rattle.state_relation.proofs.Values.{kept, kept_length}
use Rattle.state_relation.proofs.Slices.{pos_word, neg_word, Points, points_into, may_heap}
use Rattle.state_relation.proofs.SliceSteps.{T, number_held}

abbrev pub array_cell : (entry site n : ℕ) → TypeTree → Value → Cell
array_cell entry site n t x = new_cell entry site (array_of n t) x

module _ (m : Built) (c : Frame) (calls : List Frame) where
  -- one temp keeps something else, and those above it stay
  pub good_replaced : (v : View) (w : World) (s : Memory) (held more : List Kept) (k0 k1 : Kept) (h u : ℕ) → length held ≡ h → StandsKept m.program m.leading v.homes s.hi w k1 u → Stands m v w (hold c (held ++ (k0 ∷ more)) ∷ calls) s → Stands m v w (hold c (held ++ (k1 ∷ more)) ∷ calls) (sets s (T m c calls h) u)
  good_replaced v w s held more k0 k1 h u hh stands g =
      subst (λ ws. Stands m v w (hold c (held ++ (k1 ∷ more)) ∷ calls) (record s { words = ws })) (put_one s.words (T m c calls h) u inside)
      (good_kept m.program m.placement m.max m.leading v w (hold c held) calls s1 (held ++ (k1 ∷ more)) room now g1)
    where
      whole : length (held ++ (k1 ∷ more)) ≡ length (held ++ (k0 ∷ more))
      whole = omega (arith, length-append held (k1 ∷ more), length-append held (k0 ∷ more))

      room : length (held ++ (k1 ∷ more)) ≤ temps_of m.program m.placement c.func
      room = let r = g.homed.owned.0.room in omega (arith, whole, r)

      deep : depth m.program m.placement (c ∷ calls) ≡ length s.words
      deep = sym g.sized.used

      inside : T m c calls h < length s.words
      inside = let r = room in let d = deep in omega (arith, r, d, length-append held (k1 ∷ more))

      s1 : Memory
      s1 = puts s (T m c calls h) (u ∷ [])

      g0 : Stands m v w (hold c held ∷ calls) s
      g0 = good_fewer m.program m.placement m.max m.leading v w c calls s held (k0 ∷ more) g

      g1 : Stands m v w (hold c held ∷ calls) s1
      g1 = let r = room in good_free m.program m.placement m.max m.leading v w (hold c held) calls s (T m c calls h) (u ∷ []) (inl (omega (arith, hh), omega (arith, r, length-append held (k1 ∷ more)))) g0

      now : (i : ℕ) (k : Kept) → i < temps_of m.program m.placement c.func → slice_get (held ++ (k1 ∷ more)) i ≡ Some k → StandsKept m.program m.leading v.homes s.hi w k (word_at s1.words (depth m.program m.placement (c ∷ calls) - (outgoing_of m.program c.func + i)))
      now i k lt e = elim (append_cases held (k1 ∷ more) k i e) [
        | inl old ↦ g1.framed.kept (depth m.program m.placement (c ∷ calls) - (outgoing_of m.program c.func + i)) k (inl (i, lt, refl, old))
        | inr (j, at, new) ↦ above j at new
      ]
        where
          d : ℕ
          d = depth m.program m.placement (c ∷ calls) - (outgoing_of m.program c.func + i)

          above : (j : ℕ) → i ≡ length held + j → slice_get (k1 ∷ more) j ≡ Some k → StandsKept m.program m.leading v.homes s.hi w k (word_at s1.words d)
          above zero at new =
              let b = inside in let q = deep in
              subst (λ a. StandsKept m.program m.leading v.homes s.hi w k a) (sym (put_same s.words (T m c calls h) (u ∷ []) 0 d (omega (arith, b)) (omega arith) (omega (arith, at, hh, b, q))))
              (subst (λ a. StandsKept m.program m.leading v.homes s.hi w a u) (some_same new) stands)
          above (suc j) at new =
              let b = inside in let q = deep in
              let there : slice_get (held ++ (k0 ∷ more)) i ≡ Some k = ap (slice_get (held ++ (k0 ∷ more))) at ∙ append_new held (k0 ∷ more) (suc j) ∙ new in
              subst (λ a. StandsKept m.program m.leading v.homes s.hi w k a) (sym (put_other s.words (T m c calls h) (u ∷ []) d (omega (arith, b)) (inr (omega (arith, at, hh, b, q, lt)))))
              (g.framed.kept d k (inl (i, lt, refl, there)))

  -- ---- a new array

  pub array_born : (v : View) (w : World) (s : Memory) (entry site n : ℕ) (t : TypeTree) (x : Value) (xs : List ℕ) → v.heap + n * width t ≤ m.heap_max → IsOf (array_of n t) x → Stand m.program m.leading v.homes s.hi w (leaves (array_of n t)) (contents x) xs → Stands m v w (c ∷ calls) s
      → Stands m (after_apart v (n * width t)) (born w (array_cell entry site n t x)) (c ∷ calls) (record s { heap = s.heap ++ xs })
  array_born v w s entry site n t x xs fits is st g =
      let most = m.heap_roomy in
      birth_apart m.program m.placement m.max m.leading v w (c ∷ calls) s (n * width t) (array_cell entry site n t x) xs refl (omega arith) is st (λ less. absurd (let b = g.homed.begun in omega arith)) g

  -- its elements have their words behind those of the heap before
  pub array_points : (v : View) (w : World) (s : Memory) (entry site n : ℕ) (t : TypeTree) (x : Value) → Stands m v w (c ∷ calls) s → Points (after_apart v (n * width t)) (born w (array_cell entry site n t x)) t (length w.store) [] 0 n (first_address + v.heap)
  array_points v w s entry site n t x g = record {
    cell = array_cell entry site n t x;
    there = is_new m.program m.placement m.max m.leading w (array_cell entry site n t x) (length w.store) refl;
    at = v.heap;
    home = ap (born_apart v.homes v.births v.heap) (sym g.homed.births) ∙ apart_new v.homes v.births v.heap;
    long = n;
    leads = refl;
    within = omega arith;
    inside = omega arith;
    word = omega arith;
  }

  pub zeros_stand : (v : View) (w : World) (hi n : ℕ) (t : TypeTree) → Stand m.program m.leading v.homes hi w (leaves (array_of n t)) (contents (zero_value (array_of n t))) (replicate (n * width t) 0)
  zeros_stand v w hi n t = zero_stands m.program m.leading v.homes hi w (array_of n t)

  -- the run ends where the heap has no room for the words of a variable
  pub born_seen : (v : View) (site n : ℕ) (rest : Trace) → m.placement.on_heap site ≡ true → (r : Machine.Range) → seen_from m v r (Note (Born site n) rest) ≡ (if nat_le (v.heap + n) m.heap_max then seen_from m (after_apart v n) r rest else Outcome.End (last v.heap (HeapLimit v.heap n m.heap_max)))
  born_seen v site n rest boxed r = ap (λ (x : Bool). if x then (if nat_le (v.heap + n) m.heap_max then seen_from m (after_apart v n) r rest else Outcome.End (last v.heap (HeapLimit v.heap n m.heap_max))) else seen_from m (after_stack v (distance m.program m.placement (limits_of m) v.calls site)) r rest) boxed

-- ---- `make`

module _ (m : Built) (c : Frame) (calls : List Frame) where
  module _ (n : ℕ) (held : List Kept) (k0 : Kept) (h pc lo b site entry : ℕ) (v : View) (w : World) (l z : ℤ) (hh : length held ≡ h) (boxed : m.placement.on_heap site ≡ true)
      (here : slice_get m.code.instrs pc ≡ Some (Make (T m c calls h) (width (type_named m.program n)) site)) where
    abbrev t : TypeTree
    t = type_named m.program n

    abbrev slot : ℕ → ℕ
    slot k = T m c calls k

    abbrev both : List Kept
    both = held ++ (k0 ∷ (kept ints (int l) ++ kept ints (int z)))

    long_of : (s : Memory) → Stands m v w (hold c both ∷ calls) s → cast_signed w64 (slice_index s.words (slot h + 1)) ≡ l
    long_of s g =
        let g1 = subst (λ q. Stands m v w (hold c q ∷ calls) s) (sym (append_assoc held (k0 ∷ []) (kept ints (int l) ++ kept ints (int z)))) g in
        let wide : length (held ++ k0 ∷ []) ≡ h + 1 = omega (arith, length-append held (k0 ∷ [])) in let at : slot (h + 1) ≡ slot h + 1 = omega arith in
        subst (λ k. cast_signed w64 (slice_index s.words k) ≡ l) at (number_held m c calls v w s (held ++ k0 ∷ []) (kept ints (int z)) l (h + 1) wide g1)

    capacity_of : (s : Memory) → Stands m v w (hold c both ∷ calls) s → cast_signed w64 (slice_index s.words (slot h + 2)) ≡ z
    capacity_of s g =
        let front = (held ++ k0 ∷ []) ++ kept ints (int l) in
        let g1 = subst (λ q. Stands m v w (hold c q ∷ calls) s) (sym (append_assoc held (k0 ∷ []) (kept ints (int l) ++ kept ints (int z))) ∙ sym (append_assoc (held ++ k0 ∷ []) (kept ints (int l)) (kept ints (int z))) ∙ ap (λ k. front ++ k) (sym (append-nil (kept ints (int z))))) g in
        let wide : length front ≡ h + 2 = omega (arith, length-append (held ++ k0 ∷ []) (kept ints (int l)), length-append held (k0 ∷ []), kept_length ints (int l)) in let at : slot (h + 2) ≡ slot h + 2 = omega arith in
        subst (λ k. cast_signed w64 (slice_index s.words k) ≡ z) at (number_held m c calls v w s front [] z (h + 2) wide g1)

    -- what the instruction does, by its tests
    abbrev outcome : Memory → (long capacity : Bool) → Does
    outcome s long capacity =
        if long
        then (if capacity then Machine.allocates (state_of m pc s) (slot h) (slice_index s.words (slot h + 2) * width t) else Machine.panics (state_of m pc s) (MakeCapacity (number_of (slice_index s.words (slot h + 2))) (number_of (slice_index s.words (slot h + 1)))))
        else Machine.panics (state_of m pc s) (MakeLength (number_of (slice_index s.words (slot h + 1))))

    abbrev test_long : Memory → Bool
    test_long s = nat_le (slice_index s.words (slot h + 1)) Machine.most_elements

    abbrev test_capacity : Memory → Bool
    test_capacity s = nat_le (slice_index s.words (slot h + 1)) (slice_index s.words (slot h + 2)) && nat_le (slice_index s.words (slot h + 2)) Machine.most_elements

    abbrev next : ℕ → Memory → Memory
    next room s = sets (record s { heap = s.heap ++ replicate (room * width t) 0 }) (slot h) (first_address + v.heap)

    -- the words are taken, or there is no room
    allocated : (room : ℕ) (s : Memory) → slice_index s.words (slot h + 2) ≡ room → length s.heap ≡ v.heap
        → Machine.allocates (state_of m pc s) (slot h) (slice_index s.words (slot h + 2) * width t) ≡ (if nat_le (v.heap + room * width t) m.heap_max then Goes [] (state_of m (pc + 1) (next room s)) else stops (state_of m pc s) (Full v.heap (room * width t) m.heap_max))
    allocated room s is used =
        ap (λ k. Machine.allocates (state_of m pc s) (slot h) (k * width t)) is
        ∙ turned_round (length s.heap + room * width t) m.heap_max (stops (state_of m pc s) (Full (length s.heap) (room * width t) m.heap_max)) (Goes [] (state_of m (pc + 1) (sets (record s { heap = s.heap ++ replicate (room * width t) 0 }) (slot h) (first_address + length s.heap))))
        ∙ ap (λ k. if nat_le (k + room * width t) m.heap_max then Goes [] (state_of m (pc + 1) (sets (record s { heap = s.heap ++ replicate (room * width t) 0 }) (slot h) (first_address + k))) else stops (state_of m pc s) (Full k (room * width t) m.heap_max)) used

    -- the slice of the new array
    made_there : (count room : ℕ) → l ≡ pos count → z ≡ pos room → count ≤ room → v.heap + room * width t ≤ m.heap_max → (s : Memory) → Stands m v w (hold c both ∷ calls) s
        → Stands m (after_apart v (room * width t)) (born w (array_cell entry site room t (zero_value (array_of room t)))) (hold c (held ++ kept (slice_of n) (slice_in (length w.store) [] 0 count room)) ∷ calls) (next room s)
    made_there count room li zi le fits s g =
        let v1 = after_apart v (room * width t) in let w1 = born w (array_cell entry site room t (zero_value (array_of room t))) in
        let s1 : Memory = record s { heap = s.heap ++ replicate (room * width t) 0 } in
        let g1 = array_born m (hold c both) calls v w s entry site room t (zero_value (array_of room t)) (replicate (room * width t) 0) fits (zero_is (array_of room t)) (zeros_stand m (hold c both) calls v w s.hi room t) g in
        let a = array_points m (hold c both) calls v w s entry site room t (zero_value (array_of room t)) g in
        let g2 = subst (λ y. Stands m v1 w1 (hold c (held ++ (k0 ∷ (kept ints (int y) ++ kept ints (int z)))) ∷ calls) s1) li g1 in
        let g3 = subst (λ y. Stands m v1 w1 (hold c (held ++ (k0 ∷ (kept ints (int (pos count)) ++ kept ints (int y)))) ∷ calls) s1) zi g2 in
        good_replaced m c calls v1 w1 s1 held (kept ints (int (pos count)) ++ kept ints (int (pos room))) k0 (word (slice_of n) (array_address (length w.store) [] 0 room)) h (first_address + v.heap) hh
        (may_heap m.leading v1.homes (length w.store) a.at m.apart a.home, points_into v1 w1 s.hi t (length w.store) [] 0 room (first_address + v.heap) a) g3

    module _ (ws : Ways) (env : Env) (p : Position) (around : Setting) (sites : Meaning.site_type around site ≡ t) (k : Then Value) (stops_at : (at : Position) (f : Fault) (env : Env) (w : World) → ws.panicked at f env w ≡ End (Panic at f)) where
      abbrev goes_on : Sizes → Go
      goes_on z = Meaning.bear_zero_array around entry site z.room (λ x. k (slice_in x [] 0 z.count z.room))

      abbrev Followed : Result Sizes Fault → Type 0
      Followed r = At m (suc lo) 1 b v (Meaning.or_panic ws env p r goes_on w) (Stands m v w (hold c both ∷ calls)) pc

      length_fails : ((s : Memory) → Stands m v w (hold c both ∷ calls) s → test_long s ≡ false) → At m (suc lo) 1 b v (ws.panicked p (make_length l) env w) (Stands m v w (hold c both ∷ calls)) pc
      length_fails test =
          halts m (Make (slot h) (width t) site) (Panic p (make_length l)) (Panicked (MakeLength l)) here refl (λ q. ap (seen_from m v q) (stops_at p (make_length l) env w)) (λ s g. g.sized.heap_used)
          (λ s g. ap (λ y. outcome s y (test_capacity s)) (test s g) ∙ ap (λ i. Machine.panics (state_of m pc s) (MakeLength i)) (long_of s g))

      capacity_fails : ((s : Memory) → Stands m v w (hold c both ∷ calls) s → (test_long s ≡ true) × (test_capacity s ≡ false)) → At m (suc lo) 1 b v (ws.panicked p (make_capacity z l) env w) (Stands m v w (hold c both ∷ calls)) pc
      capacity_fails test =
          halts m (Make (slot h) (width t) site) (Panic p (make_capacity z l)) (Panicked (MakeCapacity z l)) here (refl, refl) (λ q. ap (seen_from m v q) (stops_at p (make_capacity z l) env w)) (λ s g. g.sized.heap_used)
          (λ s g.
          ap (λ y. outcome s y (test_capacity s)) (test s g).0 ∙ ap (λ y. outcome s true y) (test s g).1
          ∙ ap (λ i. Machine.panics (state_of m pc s) (MakeCapacity i (number_of (slice_index s.words (slot h + 1))))) (capacity_of s g) ∙ ap (λ i. Machine.panics (state_of m pc s) (MakeCapacity z i)) (long_of s g))

      -- both numbers are tested, the length first; a new array is born, and the header is that of a slice of it
      pub made_follows : ((x count room : ℕ) (v1 : View) (w1 : World) → count ≤ room → At m lo 0 b v1 (k (slice_in x [] 0 count room) w1) (Stands m v1 w1 (hold c (held ++ kept (slice_of n) (slice_in x [] 0 count room)) ∷ calls)) (pc + 1)) → Followed (sizes_of l z)
      made_follows post = by_long l refl
        where
          makes : (i j : ℕ) → l ≡ pos i → z ≡ pos j → i ≤ Machine.most_elements → i ≤ j → j ≤ Machine.most_elements → Followed (Ok (record { count = i; room = j }))
          makes i j li zj most le ends =
              subst (λ y. At m (suc lo) 1 b v (Meaning.bear_array entry site y j (zero_value (array_of j y)) (λ x. k (slice_in x [] 0 i j)) w) (Stands m v w (hold c both ∷ calls)) pc) (sym sites)
              (gated m {lo = lo} {hi = 0} {b = b} {v1 = after_apart v (j * width t)} {t1 = k (slice_in (length w.store) [] 0 i j) (born w (array_cell entry site j t (zero_value (array_of j t))))} (Make (slot h) (width t) site) (nat_le (v.heap + j * width t) m.heap_max) (HeapLimit v.heap (j * width t) m.heap_max) (Full v.heap (j * width t) m.heap_max) (next j) here (refl, refl, refl)
              (born_seen m c calls v site (j * width t) (k (slice_in (length w.store) [] 0 i j) (born w (array_cell entry site j t (zero_value (array_of j t))))) boxed) (λ s g. g.sized.heap_used)
              (λ s g.
              let a = pos_word (slice_index s.words (slot h + 1)) i (long_of s g ∙ li) in let o = pos_word (slice_index s.words (slot h + 2)) j (capacity_of s g ∙ zj) in let ai = a.0 in let oi = o.0 in
              ap (λ y. outcome s y (test_capacity s)) (le-leb (slice_index s.words (slot h + 1)) Machine.most_elements (omega (arith, ai, most)))
              ∙ ap (λ y. outcome s true y) (ap (λ y. y && nat_le (slice_index s.words (slot h + 2)) Machine.most_elements) (le-leb (slice_index s.words (slot h + 1)) (slice_index s.words (slot h + 2)) (omega (arith, ai, oi, le))) ∙ le-leb (slice_index s.words (slot h + 2)) Machine.most_elements (omega (arith, oi, ends)))
              ∙ allocated j s oi g.sized.heap_used)
              (λ s. refl) (λ fits s g. made_there i j li zj le (leb-true (v.heap + j * width t) m.heap_max fits) s g) (λ fits. post (length w.store) i j (after_apart v (j * width t)) _ le))

          bad_capacity : (i : ℕ) → l ≡ pos i → i ≤ Machine.most_elements → ((s : Memory) → Stands m v w (hold c both ∷ calls) s → test_capacity s ≡ false) → At m (suc lo) 1 b v (ws.panicked p (make_capacity z (pos i)) env w) (Stands m v w (hold c both ∷ calls)) pc
          bad_capacity i li most test =
              subst (λ y. At m (suc lo) 1 b v (ws.panicked p (make_capacity z y) env w) (Stands m v w (hold c both ∷ calls)) pc) li
              (capacity_fails (λ s g. (let a = pos_word (slice_index s.words (slot h + 1)) i (long_of s g ∙ li) in let ai = a.0 in le-leb (slice_index s.words (slot h + 1)) Machine.most_elements (omega (arith, ai, most)), test s g)))

          not_upto : (x y : ℕ) → y < x → nat_le x y ≡ false
          not_upto x y lt = elim (leb_tells x y) [ inl o ↦ absurd (let f = o.1 in omega arith) | inr o ↦ o.0 ]

          above_most : (i : ℕ) → Machine.most_elements < i → nat_le i Machine.most_elements ≡ false
          above_most i lt = not_upto i Machine.most_elements lt

          and_none : (x : Bool) → (x && false) ≡ false
          and_none true = refl
          and_none false = refl

          by_capacity : (i : ℕ) → l ≡ pos i → i ≤ Machine.most_elements → (y : ℤ) → z ≡ y → Followed (room_for i y)
          by_capacity i li most (negsuc j) zj =
              subst (λ y. At m (suc lo) 1 b v (ws.panicked p (make_capacity y (pos i)) env w) (Stands m v w (hold c both ∷ calls)) pc) zj
              (bad_capacity i li most (λ s g.
              let o = neg_word (slice_index s.words (slot h + 2)) j (capacity_of s g ∙ zj) in
              ap (λ y. nat_le (slice_index s.words (slot h + 1)) (slice_index s.words (slot h + 2)) && y) (above_most (slice_index s.words (slot h + 2)) (omega (arith, o))) ∙ and_none (nat_le (slice_index s.words (slot h + 1)) (slice_index s.words (slot h + 2)))))
          by_capacity i li most (pos j) zj = elim (leb_tells j Machine.most_elements) [
            | inr o ↦ (
                subst (λ (q : Bool). Followed (if q && nat_le i j then Ok (record { count = i; room = j }) else Err (make_capacity (pos j) (pos i)))) (sym o.0)
                (subst (λ y. At m (suc lo) 1 b v (ws.panicked p (make_capacity y (pos i)) env w) (Stands m v w (hold c both ∷ calls)) pc) zj
                (bad_capacity i li most (λ s g.
                let a = pos_word (slice_index s.words (slot h + 2)) j (capacity_of s g ∙ zj) in let ai = a.0 in let lt = o.1 in
                ap (λ y. nat_le (slice_index s.words (slot h + 1)) (slice_index s.words (slot h + 2)) && y) (above_most (slice_index s.words (slot h + 2)) (omega (arith, ai, lt))) ∙ and_none (nat_le (slice_index s.words (slot h + 1)) (slice_index s.words (slot h + 2))))))
                )
            | inl o ↦ (
                subst (λ (q : Bool). Followed (if q && nat_le i j then Ok (record { count = i; room = j }) else Err (make_capacity (pos j) (pos i)))) (sym o.0)
                (elim (leb_tells i j) [
                  | inl q ↦ subst (λ (r : Bool). Followed (if r then Ok (record { count = i; room = j }) else Err (make_capacity (pos j) (pos i)))) (sym q.0) (makes i j li zj most q.1 o.1)
                  | inr q ↦ (
                      subst (λ (r : Bool). Followed (if r then Ok (record { count = i; room = j }) else Err (make_capacity (pos j) (pos i)))) (sym q.0)
                      (subst (λ y. At m (suc lo) 1 b v (ws.panicked p (make_capacity y (pos i)) env w) (Stands m v w (hold c both ∷ calls)) pc) zj
                      (bad_capacity i li most (λ s g.
                      let a = pos_word (slice_index s.words (slot h + 2)) j (capacity_of s g ∙ zj) in let ai = a.0 in let f = pos_word (slice_index s.words (slot h + 1)) i (long_of s g ∙ li) in let fi = f.0 in let lt = q.1 in
                      ap (λ y. y && nat_le (slice_index s.words (slot h + 2)) Machine.most_elements) (not_upto (slice_index s.words (slot h + 1)) (slice_index s.words (slot h + 2)) (omega (arith, ai, fi, lt))))))
                      )
                ])
                )
          ]

          by_long : (y : ℤ) → l ≡ y → Followed (sizes_of y z)
          by_long (negsuc i) li =
              subst (λ y. At m (suc lo) 1 b v (ws.panicked p (make_length y) env w) (Stands m v w (hold c both ∷ calls)) pc) li
              (length_fails (λ s g. let o = neg_word (slice_index s.words (slot h + 1)) i (long_of s g ∙ li) in above_most (slice_index s.words (slot h + 1)) (omega (arith, o))))
          by_long (pos i) li = elim (leb_tells i Machine.most_elements) [
            | inl o ↦ subst (λ (q : Bool). Followed (if q then room_for i z else Err (make_length (pos i)))) (sym o.0) (by_capacity i li o.1 z refl)
            | inr o ↦ (
                subst (λ (q : Bool). Followed (if q then room_for i z else Err (make_length (pos i)))) (sym o.0)
                (subst (λ y. At m (suc lo) 1 b v (ws.panicked p (make_length y) env w) (Stands m v w (hold c both ∷ calls)) pc) li
                (length_fails (λ s g. let a = pos_word (slice_index s.words (slot h + 1)) i (long_of s g ∙ li) in let ai = a.0 in let lt = o.1 in above_most (slice_index s.words (slot h + 1)) (omega (arith, ai, lt)))))
                )
          ]
