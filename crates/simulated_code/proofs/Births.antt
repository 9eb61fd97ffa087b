-- A variable of a site is born, in its slots or on the heap.
use Rattle.std.proofs.Common.{◌≡◌, ℕ, suc, ◌+◌, ◌-◌, ◌^◌, ◌<◌, ◌≤◌, Bool, true, false, List, [], ◌∷◌, ◌++◌, length, Option, Some, refl, sym, ap, ◌∙◌, subst, arith, get_or, append-nil, length-append, get_or-set_same}
use Rattle.std.specs.Prelude.{slice_get, slice_index, replicate, drop, nat_le, if◌then◌else◌}
use Rattle.std.proofs.lemmas.Bool.{leb-true}
use Rattle.std.proofs.lemmas.List.{length-replicate, take_at, drop_at}
use Rattle.typed_syntax.specs.Types.{ints, pointer_to, width}
use Rattle.typed_syntax.specs.Value.{pointer, IsOf, words, zero_of}
use Rattle.typed_syntax.specs.Words.{part_address, contents}
use Rattle.typed_syntax.specs.Syntax.{type_named, site_type, is_made}
use Rattle.value_laws.proofs.Parts.{words_count, count_of}
use Rattle.value_laws.proofs.Zeros.{zero_is}
use Rattle.meaning.specs.Trace.{World, Cell, Trace, HeapLimit, Born, Note}
use Rattle.meaning.specs.Store.{born}
use Rattle.meaning.specs.Meaning
use Rattle.meaning.specs.Meaning.{Setting}
use Rattle.meaning.specs.Output as Output
use Rattle.simulation.specs.Outcome as Outcome
use Rattle.simulation.specs.Steps.{Goes}
use Rattle.frames.specs.Frames.{temps_of}
use Rattle.heap_bump.specs.Words.{first_address}
use Rattle.isa.specs.declared.instr.MoveEvent.TheVariants.{Silent}
use Rattle.isa.specs.declared.instr.StoreEvent.{StoreEvent}
use Rattle.isa.specs.declared.instr.StoreEvent.TheVariants as Stored
use Rattle.isa.specs.declared.instr.Instr.{Instr}
use Rattle.isa.specs.declared.instr.Instr.TheVariants as Instruction
use Rattle.isa.specs.declared.instr.Instr.TheVariants.{Move, Store, Alloc}
use Rattle.machine.specs.declared.memory.Spot.{Spot}
use Rattle.machine.specs.declared.run_state.Ending.TheVariants.{HeapLimit as Full}
use Rattle.machine.specs.Machine.{put_words, words_at, address_behind, spot_of, reaches_by, stores_at, stops}
use Rattle.program_code.specs.Code.{in_slots, by_address, temp, cell_slot, site_slot, fill, born_code, fill_code, slots_of}
use Rattle.state_relation.specs.Leaves.{leaves}
use Rattle.state_relation.specs.Views.{Place, on_heap, View, distance, born_apart, after_stack, after_apart}
use Rattle.state_relation.specs.Relation.{Memory, puts, sets, word, Frame, hold, grown, address_in, MayLead, Reaches, Stand, depth}
use Rattle.state_relation.proofs.Lists.{some_same}
use Rattle.state_relation.proofs.Distances.{put_one, put_twice, read_below, read_length}
use Rattle.state_relation.proofs.Leaves.{leaves_length}
use Rattle.state_relation.proofs.Words.{zero_stands}
use Rattle.state_relation.proofs.Relation.{site_inside, cell_inside}
use Rattle.state_relation.proofs.Changes.{apart_new, good_set}
use Rattle.state_relation.proofs.Births.{is_new, birth}
use Rattle.state_relation.proofs.Crossing.{birth_apart}
use Rattle.state_relation.proofs.Boxes.{box_birth}
use Rattle.state_relation.proofs.Calls.{turned_round, birth_seen}
use Rattle.state_relation.proofs.Built.{Built, limits_of}
use Rattle.state_relation.proofs.Rules.{state_of, range_of, seen_from, does_at, At, Stands, knowing, stepped, stepped_as, gated}
use Rattle.state_relation.proofs.Values.{kept}
use Rattle.state_relation.proofs.Touches.{reached_by, spot_heap}

-- new words are replaced
put_new : (words zeros xs : List ℕ) (from : ℕ) → length words ≡ from → length zeros ≡ length xs → put_words (words ++ zeros) from xs ≡ words ++ xs
put_new words zeros xs from long same =
    let both : length (words ++ zeros) ≡ from + length xs = omega (arith, length-append words zeros, long, same) in
    ap (λ l. l ++ (xs ++ drop (from + length xs) (words ++ zeros))) (take_at words zeros from long)
    ∙ ap (λ l. words ++ (xs ++ l)) (ap (drop (from + length xs)) (sym (append-nil (words ++ zeros))) ∙ drop_at (words ++ zeros) [] (from + length xs) both)
    ∙ ap (λ l. words ++ l) (append-nil xs)

module _ (m : Built) where
  -- ---- in slots of the frame

  -- a site's slots are among the words
  pub site_room : (c : Frame) (calls : List Frame) (v : View) (w : World) (s : Memory) (site : ℕ) → m.placement.on_heap site ≡ false → c.func.first ≤ site → site < c.func.first + c.func.count → Stands m v w (c ∷ calls) s → site_slot (slots_of m.program m.placement c.func) site + width (site_type m.program site) ≤ length s.words
  site_room c calls v w s site stays first last g = let inside = site_inside m.program m.placement c.func site stays first last in let u = g.sized.used in omega (arith, inside.1)

  -- the slots of a site get zeros
  abbrev pub cleared : Frame → (site : ℕ) → Memory → Memory
  cleared c site s = puts s (site_slot (slots_of m.program m.placement c.func) site) (replicate (width (site_type m.program site)) 0)

  -- the instruction that bears the variable there, and one that gives it words which the first leaves as they are
  pub births_in_two : {lo hi b : ℕ} {rest : Trace} {G G1 : Memory → Type 0} (c : Frame) (calls : List Frame) (v : View) (w : World) (site n pc : ℕ) (cell : Cell) (i : Instr) (xs : Memory → List ℕ) → m.placement.on_heap site ≡ false
      → slice_get m.code.instrs pc ≡ Some (Instruction.Born (site_slot (slots_of m.program m.placement c.func) site) (width (site_type m.program site)) site) → slice_get m.code.instrs (pc + 1) ≡ Some i → c.func.first ≤ site → site < c.func.first + c.func.count → is_made m.program site ≡ false
      → cell.type ≡ site_type m.program site → IsOf cell.type cell.value → ((s : Memory) → G s → Stands m v w (c ∷ calls) s)
      → ((s : Memory) → G s → (xs (cleared c site s) ≡ xs s) × (does_at m i (pc + 1) (cleared c site s) ≡ Goes [] (state_of m (pc + 1 + 1) (puts (cleared c site s) (site_slot (slots_of m.program m.placement c.func) site) (xs (cleared c site s))))))
      → ((s : Memory) → G s → Stand m.program m.leading v.homes s.hi w (leaves cell.type) (contents cell.value) (xs s))
      → ((s : Memory) → G s → Stands m (after_stack v (depth m.program m.placement (c ∷ calls) - site_slot (slots_of m.program m.placement c.func) site)) (born w cell) (grown c site (length w.store) ∷ calls) (puts s (site_slot (slots_of m.program m.placement c.func) site) (xs s)) → G1 (puts s (site_slot (slots_of m.program m.placement c.func) site) (xs s)))
      → At m lo hi b (after_stack v (depth m.program m.placement (c ∷ calls) - site_slot (slots_of m.program m.placement c.func) site)) rest G1 (pc + 1 + 1) → At m (suc (suc lo)) 1 b v (Note (Born site n) rest) G pc
  births_in_two {lo} {hi} {b} {rest} {G} {G1} c calls v w site n pc cell i xs stays bears here first last declared kind is stands does stand keeps post =
      knowing m (λ s0 g0.
      stepped m {lo = suc lo} {hi = 1} {b = b} {G1 = λ u. (s : Memory) × G s × (u ≡ cleared c site s)} (Instruction.Born slot (width (site_type m.program site)) site) (cleared c site) bears (λ s g. (refl, refl, (s, g, refl)))
      (stepped_as m {lo = lo} {hi = hi} {b = b} {v1 = after_stack v d} {t1 = rest} i (λ u. puts u slot (xs u)) here
      (λ r. birth_seen m v w c calls s0 site n r rest stays (stands s0 g0))
      (λ u e. filled u e.0 e.1 e.2) post))
    where
      slot : ℕ
      slot = site_slot (slots_of m.program m.placement c.func) site

      d : ℕ
      d = depth m.program m.placement (c ∷ calls) - slot

      zeros : List ℕ
      zeros = replicate (width (site_type m.program site)) 0

      twice : (s : Memory) → G s → puts (cleared c site s) slot (xs (cleared c site s)) ≡ puts s slot (xs s)
      twice s g =
          let long = (stand s g).long in let same : width cell.type ≡ width (site_type m.program site) = ap width kind in
          let room = site_room c calls v w s site stays first last (stands s g) in
          ap (λ ws. record s { words = ws })
          (ap (λ l. put_words (put_words s.words slot zeros) slot l) (does s g).0
          ∙ put_twice s.words slot zeros (xs s) (omega (arith, room)) (omega (arith, long, same, leaves_length cell.type, length-replicate {A = ℕ} (width (site_type m.program site)) 0)))

      filled : (u s : Memory) → G s → u ≡ cleared c site s → (does_at m i (pc + 1) u ≡ Goes [] (state_of m (pc + 1 + 1) (puts u slot (xs u)))) × (range_of m u ≡ range_of m (puts u slot (xs u))) × G1 (puts u slot (xs u))
      filled u s g e =
          subst (λ x. (does_at m i (pc + 1) x ≡ Goes [] (state_of m (pc + 1 + 1) (puts x slot (xs x)))) × (range_of m x ≡ range_of m (puts x slot (xs x))) × G1 (puts x slot (xs x))) (sym e) (
            (does s g).1,
            refl,
            subst G1 (sym (twice s g)) (keeps s g (birth m.program m.placement m.max m.leading m.solid v w c calls s site d cell (xs s) stays first last declared refl kind is (stand s g) (stands s g))),
          )

  -- temps lie below the slots and the cells of sites
  below_sites : (c : Frame) (site h n : ℕ) → h + n ≤ temps_of m.program m.placement c.func → temp (slots_of m.program m.placement c.func) h + n ≤ site_slot (slots_of m.program m.placement c.func) site
  below_sites c site h n le = omega (arith, le)

  pub below_cells : (c : Frame) (site h n : ℕ) → h + n ≤ temps_of m.program m.placement c.func → temp (slots_of m.program m.placement c.func) h + n ≤ cell_slot (slots_of m.program m.placement c.func) site
  below_cells c site h n le = omega (arith, le)

  -- ---- on the heap

  -- words come behind the h words of the heap, and a slot gets the address of the first
  abbrev pub new_words : (a h : ℕ) → List ℕ → Memory → Memory
  new_words a h xs s = sets (record s { heap = s.heap ++ xs }) a (first_address + h)

  -- those from the heap's word h on are replaced by the words of slots
  abbrev pub filled_from : (h from n : ℕ) → Memory → Memory
  filled_from h from n s = record s { heap = put_words s.heap h (words_at s.words from n) }

  zeros_taken : (a n site h pc : ℕ) (s : Memory) → length s.heap ≡ h → does_at m (Alloc a n site) pc s ≡ (if nat_le (h + n) m.heap_max then Goes [] (state_of m (pc + 1) (new_words a h (replicate n 0) s)) else stops (state_of m pc s) (Full h n m.heap_max))
  zeros_taken a n site h pc s used =
      turned_round (length s.heap + n) m.heap_max (stops (state_of m pc s) (Full (length s.heap) n m.heap_max)) (Goes [] (state_of m (pc + 1) (new_words a (length s.heap) (replicate n 0) s)))
      ∙ ap (λ k. if nat_le (k + n) m.heap_max then Goes [] (state_of m (pc + 1) (new_words a k (replicate n 0) s)) else stops (state_of m pc s) (Full k n m.heap_max)) used

  -- The instruction that takes the words of a new variable: where there is no room for them, the run ends as the source does.
  pub births_apart : {lo hi b : ℕ} {rest : Trace} {G G1 : Memory → Type 0} (v : View) (site n a pc : ℕ) → slice_get m.code.instrs pc ≡ Some (Alloc a n site) → m.placement.on_heap site ≡ true → ((s : Memory) → G s → length s.heap ≡ v.heap)
      → (v.heap + n ≤ m.heap_max → (s : Memory) → G s → G1 (new_words a v.heap (replicate n 0) s)) → (v.heap + n ≤ m.heap_max → At m lo hi b (after_apart v n) rest G1 (pc + 1)) → At m (suc lo) 1 b v (Note (Born site n) rest) G pc
  births_apart {lo} {hi} {b} {rest} {G} {G1} v site n a pc here boxed used keeps post =
      gated m {lo = lo} {hi = hi} {b = b} {v1 = after_apart v n} {t1 = rest} {G = G} {G1 = G1} (Alloc a n site) (nat_le (v.heap + n) m.heap_max) (HeapLimit v.heap n m.heap_max) (Full v.heap n m.heap_max) (new_words a v.heap (replicate n 0)) here (refl, refl, refl)
      (λ r. ap (λ (x : Bool). if x then (if nat_le (v.heap + n) m.heap_max then seen_from m (after_apart v n) r rest else Outcome.End (Output.last v.heap (HeapLimit v.heap n m.heap_max))) else seen_from m (after_stack v (distance m.program m.placement (limits_of m) v.calls site)) r rest) boxed)
      used (λ s g. zeros_taken a n site v.heap pc s (used s g)) (λ s. refl) (λ fits s g. keeps (leb-true (v.heap + n) m.heap_max fits) s g) (λ fits. post (leb-true (v.heap + n) m.heap_max fits))

  -- the instruction that gives them words
  pub fills_apart : (event : StoreEvent) (a h from n pc : ℕ) (s : Memory) → slice_index s.words a ≡ first_address + h → h + n ≤ length s.heap → h ≤ 2 ^ 32 → does_at m (Store event a 0 from n) pc s ≡ Goes [] (state_of m (pc + 1) (filled_from h from n s))
  fills_apart event a h from n pc s there room small =
      let xs = words_at s.words from n in let does = λ (at : ℕ). stores_at (spot_of s.hi s.heap s.words at n) (state_of m pc s) xs at in
      ap (λ k. reaches_by (state_of m pc s) (address_behind k 0) does) there
      ∙ reached_by (state_of m pc s) (first_address + h) 0 (first_address + h) does (omega arith) (omega arith) (omega arith)
      ∙ ap (λ (k : Spot). stores_at k (state_of m pc s) xs (first_address + h)) (spot_heap s.hi s.heap s.words h n (first_address + h) refl room)

  -- the address is where it was put, and other slots stay
  pub new_address : (a h : ℕ) (xs : List ℕ) (s : Memory) → a < length s.words → slice_index (new_words a h xs s).words a ≡ first_address + h
  new_address a h xs s within = get_or-set_same s.words a (first_address + h) 0 within

  pub new_below : (a h from n : ℕ) (xs : List ℕ) (s : Memory) → from + n ≤ a → a < length s.words → words_at (new_words a h xs s).words from n ≡ words_at s.words from n
  new_below a h from n xs s below within = ap (λ ws. words_at ws from n) (sym (put_one s.words a (first_address + h) within)) ∙ read_below s.words from n a ((first_address + h) ∷ []) below (omega arith)

  pub filled_is : (h n : ℕ) (xs heap : List ℕ) → length heap ≡ h → length xs ≡ n → put_words (heap ++ replicate n 0) h xs ≡ heap ++ xs
  filled_is h n xs heap used long = put_new heap (replicate n 0) xs h used (length-replicate {A = ℕ} n 0 ∙ sym long)

  -- both, where the words are in slots below
  pub new_filled : (a h from n : ℕ) (s : Memory) → length s.heap ≡ h → from + n ≤ a → a < length s.words → filled_from h from n (new_words a h (replicate n 0) s) ≡ new_words a h (words_at s.words from n) s
  new_filled a h from n s used below within =
      let s1 = new_words a h (replicate n 0) s in
      let same = new_below a h from n (replicate n 0) s below within in
      ap (λ l. record s1 { heap = l }) (filled_is h n (words_at s1.words from n) s.heap used (ap (λ l. length l) same ∙ read_length s.words from n (omega arith)))
      ∙ ap (λ l. new_words a h l s) same

  -- The instruction that takes the words of a new variable, and one that gives them those of slots below the address.
  pub births_apart_filled : {lo hi b : ℕ} {rest : Trace} {G G1 : Memory → Type 0} (v : View) (site n a from pc : ℕ) → slice_get m.code.instrs pc ≡ Some (Alloc a n site) → slice_get m.code.instrs (pc + 1) ≡ Some (Store Stored.Silent a 0 from n) → m.placement.on_heap site ≡ true
      → ((s : Memory) → G s → length s.heap ≡ v.heap) → from + n ≤ a → ((s : Memory) → G s → a < length s.words) → (v.heap + n ≤ m.heap_max → (s : Memory) → G s → G1 (new_words a v.heap (words_at s.words from n) s))
      → At m lo hi b (after_apart v n) rest G1 (pc + 1 + 1) → At m (suc (suc lo)) 1 b v (Note (Born site n) rest) G pc
  births_apart_filled {lo} {hi} {b} {rest} {G} {G1} v site n a from pc takes fills boxed used below within keeps post =
      births_apart {lo = suc lo} {hi = 1} {b = b} {rest = rest} {G = G} {G1 = λ u. (s : Memory) × G s × (u ≡ new_words a v.heap zeros s)} v site n a pc takes boxed used (λ fits s g. (s, g, refl)) (λ fits.
      stepped m {lo = lo} {hi = hi} {b = b} {G1 = G1} (Store Stored.Silent a 0 from n) (filled_from v.heap from n) fills (λ u e. filled fits u e.0 e.1 e.2) post)
    where
      zeros : List ℕ
      zeros = replicate n 0

      filled : v.heap + n ≤ m.heap_max → (u s : Memory) → G s → u ≡ new_words a v.heap zeros s → (does_at m (Store Stored.Silent a 0 from n) (pc + 1) u ≡ Goes [] (state_of m (pc + 1 + 1) (filled_from v.heap from n u))) × (range_of m u ≡ range_of m (filled_from v.heap from n u)) × G1 (filled_from v.heap from n u)
      filled fits u s g e =
          let taken = used s g in let there = within s g in let most = m.heap_roomy in
          subst (λ x. (does_at m (Store Stored.Silent a 0 from n) (pc + 1) x ≡ Goes [] (state_of m (pc + 1 + 1) (filled_from v.heap from n x))) × (range_of m x ≡ range_of m (filled_from v.heap from n x)) × G1 (filled_from v.heap from n x)) (sym e) (
            fills_apart Stored.Silent a v.heap from n (pc + 1) (new_words a v.heap zeros s) (new_address a v.heap zeros s there) (omega (arith, length-append s.heap zeros, length-replicate {A = ℕ} n 0, taken)) (omega arith),
            refl,
            subst G1 (sym (new_filled a v.heap from n s taken below there)) (keeps fits s g),
          )

  -- a site's cell is among the words
  pub cell_room : (c : Frame) (calls : List Frame) (v : View) (w : World) (s : Memory) (site : ℕ) → m.placement.on_heap site ≡ true → c.func.first ≤ site → site < c.func.first + c.func.count → is_made m.program site ≡ false → Stands m v w (c ∷ calls) s → cell_slot (slots_of m.program m.placement c.func) site < length s.words
  cell_room c calls v w s site boxed first last declared g = let inside = cell_inside m.program m.placement c.func site boxed declared first last in let u = g.sized.used in omega (arith, inside.1)

  -- the site has the variable when its words hold the value
  pub boxed_birth : (c : Frame) (calls : List Frame) (v : View) (w : World) (s : Memory) (site n : ℕ) (cell : Cell) (xs : List ℕ) → m.placement.on_heap site ≡ true → c.func.first ≤ site → site < c.func.first + c.func.count → is_made m.program site ≡ false → n ≡ width (site_type m.program site) → v.heap + n ≤ m.heap_max
      → cell.type ≡ site_type m.program site → IsOf cell.type cell.value → Stand m.program m.leading v.homes s.hi w (leaves cell.type) (contents cell.value) xs → Stands m v w (c ∷ calls) s
      → Stands m (after_apart v n) (born w cell) (grown c site (length w.store) ∷ calls) (new_words (cell_slot (slots_of m.program m.placement c.func) site) v.heap xs s)
  boxed_birth c calls v w s site n cell xs boxed first last declared wide room kind is st g =
      let most = m.heap_roomy in box_birth m.program m.placement m.max m.leading v w c calls s site n cell xs boxed first last declared (wide ∙ ap width (sym kind)) (omega arith) is kind st g

  -- ---- in either place

  -- the words of a variable are as many as its site's
  words_are : (site : ℕ) (cell : Cell) → cell.type ≡ site_type m.program site → IsOf cell.type cell.value → words cell.value ≡ width (site_type m.program site)
  words_are site cell kind is = words_count cell.value ∙ count_of cell.type cell.value is ∙ ap width kind

  -- zeros are the words of a zero value
  zero_kind : (site : ℕ) (cell : Cell) → cell.type ≡ site_type m.program site → cell.value ≡ zero_of (site_type m.program site) → IsOf cell.type cell.value
  zero_kind site cell kind zero = subst (λ o. IsOf o cell.value) (sym kind) (subst (λ x. IsOf (site_type m.program site) x) (sym zero) (zero_is (site_type m.program site)))

  zero_stand : (site : ℕ) (cell : Cell) → cell.type ≡ site_type m.program site → cell.value ≡ zero_of (site_type m.program site) → (homes : ℕ → Option Place) (hi : ℕ) (w : World)
      → Stand m.program m.leading homes hi w (leaves cell.type) (contents cell.value) (replicate (width (site_type m.program site)) 0)
  zero_stand site cell kind zero homes hi w =
      let t = site_type m.program site in
      subst (λ o. Stand m.program m.leading homes hi w (leaves o) (contents cell.value) (replicate (width t) 0)) (sym kind)
      (subst (λ x. Stand m.program m.leading homes hi w (leaves t) (contents x) (replicate (width t) 0)) (sym zero) (zero_stands m.program m.leading homes hi w t))

  -- a variable with the zero value, for which one instruction does
  pub births_zero : {lo hi b : ℕ} {rest : Trace} (c : Frame) (calls : List Frame) (v : View) (w : World) (site pc : ℕ) (cell : Cell) → slice_get m.code.instrs pc ≡ Some (born_code (slots_of m.program m.placement c.func) site) → c.func.first ≤ site → site < c.func.first + c.func.count → is_made m.program site ≡ false
      → cell.type ≡ site_type m.program site → cell.value ≡ zero_of (site_type m.program site) → ((v1 : View) → At m lo hi b v1 rest (Stands m v1 (born w cell) (grown c site (length w.store) ∷ calls)) (pc + 1))
      → At m (suc lo) 1 b v (Note (Born site (words cell.value)) rest) (Stands m v w (c ∷ calls)) pc
  births_zero {lo} {hi} {b} {rest} c calls v w site pc cell bears first last declared kind zero post = by (m.placement.on_heap site) refl bears
    where
      n : ℕ
      n = width (site_type m.program site)

      slot : ℕ
      slot = site_slot (slots_of m.program m.placement c.func) site

      box : ℕ
      box = cell_slot (slots_of m.program m.placement c.func) site

      d : ℕ
      d = depth m.program m.placement (c ∷ calls) - slot

      is : IsOf cell.type cell.value
      is = zero_kind site cell kind zero

      stand : (u : Memory) → Stand m.program m.leading v.homes u.hi w (leaves cell.type) (contents cell.value) (replicate n 0)
      stand u = zero_stand site cell kind zero v.homes u.hi w

      by : (boxed : Bool) → m.placement.on_heap site ≡ boxed → slice_get m.code.instrs pc ≡ Some (if boxed then Alloc box n site else Instruction.Born slot n site) → At m (suc lo) 1 b v (Note (Born site (words cell.value)) rest) (Stands m v w (c ∷ calls)) pc
      by false stays here =
          knowing m (λ s0 g0.
          stepped_as m {lo = lo} {hi = hi} {b = b} {v1 = after_stack v d} {t1 = rest} {G1 = Stands m (after_stack v d) (born w cell) (grown c site (length w.store) ∷ calls)} (Instruction.Born slot n site) (λ s. puts s slot (replicate n 0)) here
          (λ r. birth_seen m v w c calls s0 site (words cell.value) r rest stays g0)
          (λ s g. (refl, refl, birth m.program m.placement m.max m.leading m.solid v w c calls s site d cell (replicate n 0) stays first last declared refl kind is (stand s) g)) (post (after_stack v d)))
      by true boxed here =
          subst (λ k. At m (suc lo) 1 b v (Note (Born site k) rest) (Stands m v w (c ∷ calls)) pc) (sym (words_are site cell kind is))
          (births_apart {lo = lo} {hi = hi} {b = b} {rest = rest} {G = Stands m v w (c ∷ calls)} {G1 = Stands m (after_apart v n) (born w cell) (grown c site (length w.store) ∷ calls)} v site n box pc here boxed (λ s g. g.sized.heap_used)
          (λ fits s g. boxed_birth c calls v w s site n cell (replicate n 0) boxed first last declared refl fits kind is (stand s) g) (λ fits. post (after_apart v n)))

  -- one that gets its value from temps, by another instruction
  pub births_filled : {lo hi b : ℕ} {rest : Trace} (c : Frame) (calls : List Frame) (v : View) (w : World) (site pc h : ℕ) (cell : Cell)
      → slice_get m.code.instrs pc ≡ Some (born_code (slots_of m.program m.placement c.func) site) → slice_get m.code.instrs (pc + 1) ≡ Some (fill_code (slots_of m.program m.placement c.func) site h)
      → h + width (site_type m.program site) ≤ temps_of m.program m.placement c.func → c.func.first ≤ site → site < c.func.first + c.func.count → is_made m.program site ≡ false → cell.type ≡ site_type m.program site → IsOf cell.type cell.value
      → ((s : Memory) → Stands m v w (c ∷ calls) s → Stand m.program m.leading v.homes s.hi w (leaves cell.type) (contents cell.value) (words_at s.words (temp (slots_of m.program m.placement c.func) h) (width (site_type m.program site))))
      → ((v1 : View) → At m lo hi b v1 rest (Stands m v1 (born w cell) (grown c site (length w.store) ∷ calls)) (pc + 1 + 1))
      → At m (suc (suc lo)) 1 b v (Note (Born site (words cell.value)) rest) (Stands m v w (c ∷ calls)) pc
  births_filled {lo} {hi} {b} {rest} c calls v w site pc h cell bears fills room first last declared kind is stand post = by (m.placement.on_heap site) refl bears fills
    where
      n : ℕ
      n = width (site_type m.program site)

      from : ℕ
      from = temp (slots_of m.program m.placement c.func) h

      slot : ℕ
      slot = site_slot (slots_of m.program m.placement c.func) site

      box : ℕ
      box = cell_slot (slots_of m.program m.placement c.func) site

      d : ℕ
      d = depth m.program m.placement (c ∷ calls) - slot

      Before : Memory → Type 0
      Before = Stands m v w (c ∷ calls)

      After : View → Memory → Type 0
      After v1 = Stands m v1 (born w cell) (grown c site (length w.store) ∷ calls)

      by : (boxed : Bool) → m.placement.on_heap site ≡ boxed → slice_get m.code.instrs pc ≡ Some (if boxed then Alloc box n site else Instruction.Born slot n site) → slice_get m.code.instrs (pc + 1) ≡ Some (fill (if boxed then by_address box else in_slots slot) n from)
          → At m (suc (suc lo)) 1 b v (Note (Born site (words cell.value)) rest) Before pc
      by false stays born_here fill_here =
          births_in_two {lo = lo} {hi = hi} {b = b} {rest = rest} {G = Before} {G1 = After (after_stack v d)} c calls v w site (words cell.value) pc cell (Move Silent slot from n) (λ u. words_at u.words from n) stays born_here fill_here first last declared kind is (λ u g. g)
          (λ u g. (
            (let there = site_room c calls v w u site stays first last g in read_below u.words from n slot (replicate n 0) (below_sites c site h n room) (omega (arith, there))),
            refl,
          ))
          stand (λ u g k. k) (post (after_stack v d))
      by true boxed born_here fill_here =
          subst (λ k. At m (suc (suc lo)) 1 b v (Note (Born site k) rest) Before pc) (sym (words_are site cell kind is))
          (births_apart_filled {lo = lo} {hi = hi} {b = b} {rest = rest} {G = Before} {G1 = After (after_apart v n)} v site n box from pc born_here fill_here boxed (λ s g. g.sized.heap_used) (below_cells c site h n room) (λ s g. cell_room c calls v w s site boxed first last declared g)
          (λ fits s g. boxed_birth c calls v w s site n cell (words_at s.words from n) boxed first last declared refl fits kind is (stand s g) g) (post (after_apart v n)))

  -- ---- a variable without a name, to which a pointer leads

  -- a temp holds the pointer
  pointed_birth : (c : Frame) (calls : List Frame) (v : View) (w : World) (s : Memory) (site number n h : ℕ) (cell : Cell) (xs : List ℕ) → length c.held ≡ h → h < temps_of m.program m.placement c.func → n ≡ width (site_type m.program site) → v.heap + n ≤ m.heap_max → type_named m.program number ≡ site_type m.program site
      → cell.type ≡ site_type m.program site → IsOf cell.type cell.value → Stand m.program m.leading v.homes s.hi w (leaves cell.type) (contents cell.value) xs → Stands m v w (c ∷ calls) s
      → Stands m (after_apart v n) (born w cell) (hold c (c.held ++ kept (pointer_to number) (pointer (length w.store) [])) ∷ calls) (new_words (temp (slots_of m.program m.placement c.func) h) v.heap xs s)
  pointed_birth c calls v w s site number n h cell xs hh room wide fits named kind is st g =
      let most = m.heap_roomy in
      good_set m.program m.placement m.max m.leading (after_apart v n) (born w cell) c calls (record s { heap = s.heap ++ xs }) h (first_address + v.heap) (word (pointer_to number) (part_address x [])) hh room
      (subst (λ l. MayLead l homes x) (sym m.apart) (v.heap, home), (let solid = m.solid site in omega (arith, ap width named)), reaches)
      (birth_apart m.program m.placement m.max m.leading v w (c ∷ calls) s n cell xs (wide ∙ ap width (sym kind)) (omega arith) is st (λ less. absurd (let b = g.homed.begun in omega arith)) g)
    where
      x : ℕ
      x = length w.store

      homes : ℕ → Option Place
      homes = born_apart v.homes v.births v.heap

      home : homes x ≡ Some (on_heap v.heap)
      home = ap homes (sym g.homed.births) ∙ apart_new v.homes v.births v.heap

      reaches : Reaches homes s.hi (born w cell) (type_named m.program number) x [] 0 (first_address + v.heap)
      reaches = record {
        cell = cell;
        there = is_new m.program m.placement m.max m.leading w cell x refl;
        leads = kind ∙ sym named;
        less = omega arith;
        some = omega arith;
        at = λ q e. subst (λ r. first_address + v.heap + 0 ≡ address_in s.hi r + 0) (some_same (sym home ∙ e)) refl;
      }

  -- with the zero value
  pub births_pointed : {lo hi b : ℕ} {rest : Trace} (c : Frame) (calls : List Frame) (v : View) (w : World) (site number pc h : ℕ) (cell : Cell) → slice_get m.code.instrs pc ≡ Some (Alloc (temp (slots_of m.program m.placement c.func) h) (width (site_type m.program site)) site) → m.placement.on_heap site ≡ true
      → length c.held ≡ h → h < temps_of m.program m.placement c.func → type_named m.program number ≡ site_type m.program site → cell.type ≡ site_type m.program site → cell.value ≡ zero_of (site_type m.program site)
      → ((v1 : View) → At m lo hi b v1 rest (Stands m v1 (born w cell) (hold c (c.held ++ kept (pointer_to number) (pointer (length w.store) [])) ∷ calls)) (pc + 1))
      → At m (suc lo) 1 b v (Note (Born site (words cell.value)) rest) (Stands m v w (c ∷ calls)) pc
  births_pointed {lo} {hi} {b} {rest} c calls v w site number pc h cell here boxed hh room named kind zero post =
      let n = width (site_type m.program site) in let is = zero_kind site cell kind zero in
      subst (λ k. At m (suc lo) 1 b v (Note (Born site k) rest) (Stands m v w (c ∷ calls)) pc) (sym (words_are site cell kind is))
      (births_apart {lo = lo} {hi = hi} {b = b} {rest = rest} {G = Stands m v w (c ∷ calls)} {G1 = Stands m (after_apart v n) (born w cell) (hold c (c.held ++ kept (pointer_to number) (pointer (length w.store) [])) ∷ calls)} v site n (temp (slots_of m.program m.placement c.func) h) pc here boxed (λ s g. g.sized.heap_used)
      (λ fits s g. pointed_birth c calls v w s site number n h cell (replicate n 0) hh room refl fits named kind is (zero_stand site cell kind zero v.homes s.hi w) g) (λ fits. post (after_apart v n)))

  -- with the value in temps below
  pub births_pointed_filled : {lo hi b : ℕ} {rest : Trace} (c : Frame) (calls : List Frame) (v : View) (w : World) (site number pc h from : ℕ) (cell : Cell) → slice_get m.code.instrs pc ≡ Some (Alloc (temp (slots_of m.program m.placement c.func) h) (width (site_type m.program site)) site)
      → slice_get m.code.instrs (pc + 1) ≡ Some (Store Stored.Silent (temp (slots_of m.program m.placement c.func) h) 0 (temp (slots_of m.program m.placement c.func) from) (width (site_type m.program site))) → m.placement.on_heap site ≡ true
      → length c.held ≡ h → h < temps_of m.program m.placement c.func → from + width (site_type m.program site) ≤ h → type_named m.program number ≡ site_type m.program site → cell.type ≡ site_type m.program site → IsOf cell.type cell.value
      → ((s : Memory) → Stands m v w (c ∷ calls) s → Stand m.program m.leading v.homes s.hi w (leaves cell.type) (contents cell.value) (words_at s.words (temp (slots_of m.program m.placement c.func) from) (width (site_type m.program site))))
      → ((v1 : View) → At m lo hi b v1 rest (Stands m v1 (born w cell) (hold c (c.held ++ kept (pointer_to number) (pointer (length w.store) [])) ∷ calls)) (pc + 1 + 1))
      → At m (suc (suc lo)) 1 b v (Note (Born site (words cell.value)) rest) (Stands m v w (c ∷ calls)) pc
  births_pointed_filled {lo} {hi} {b} {rest} c calls v w site number pc h from cell takes fills boxed hh room below named kind is stand post =
      let n = width (site_type m.program site) in let a = temp (slots_of m.program m.placement c.func) h in let start = temp (slots_of m.program m.placement c.func) from in
      subst (λ k. At m (suc (suc lo)) 1 b v (Note (Born site k) rest) (Stands m v w (c ∷ calls)) pc) (sym (words_are site cell kind is))
      (births_apart_filled {lo = lo} {hi = hi} {b = b} {rest = rest} {G = Stands m v w (c ∷ calls)} {G1 = Stands m (after_apart v n) (born w cell) (hold c (c.held ++ kept (pointer_to number) (pointer (length w.store) [])) ∷ calls)} v site n a start pc takes fills boxed (λ s g. g.sized.heap_used) (omega (arith, below))
      (λ s g. let long = g.sized.used in omega (arith, room, long))
      (λ fits s g. pointed_birth c calls v w s site number n h cell (words_at s.words start n) hh room refl fits named kind is (stand s g) g) (post (after_apart v n)))

  -- what a new variable of a site is
  module _ (around : Setting) (sites : around.sites ≡ m.program.sites) where
    pub cell_kind : (site : ℕ) → get_or around.sites site ints ≡ site_type m.program site
    cell_kind site = ap (λ ts. get_or ts site ints) sites

    pub zero_value : (site : ℕ) → Meaning.zero_of around site ≡ zero_of (site_type m.program site)
    zero_value site = ap zero_of (cell_kind site)

    pub zero_typed : (site : ℕ) → IsOf (get_or around.sites site ints) (Meaning.zero_of around site)
    zero_typed site = zero_is (get_or around.sites site ints)
