-- The checks of a place whose operands are held, and its address.
use Rattle.std.proofs.Common.{◌≡◌, ◌⊎◌, inl, inr, ℕ, zero, suc, ◌+◌, ◌-◌, ◌*◌, ◌%◌, ◌^◌, ◌<◌, ◌≤◌, ℤ, pos, negsuc, Bool, true, false, List, [], ◌∷◌, ◌++◌, length, Some, None, Ok, Err, refl, sym, ap, ◌∙◌, subst, arith, append_assoc, append-nil, length-append, mod-eq_of_lt}
use Rattle.std.specs.Prelude.{slice_get, slice_index, nat_lt, if◌then◌else◌}
use Rattle.std.specs.Int.{w64, cast_signed}
use Rattle.std.proofs.lemmas.Bool.{ltb-true, lt-ltb}
use Rattle.typed_syntax.specs.Positions.{Position}
use Rattle.typed_syntax.specs.Types.{TypeTree, ints, array_of, pointer_to, width, part_count, part_type, part_offset}
use Rattle.typed_syntax.specs.Value.{Value, int, nil_pointer, pointer}
use Rattle.typed_syntax.specs.Paths.{Leads, offset}
use Rattle.typed_syntax.specs.Words.{number, no_address}
use Rattle.value_laws.proofs.Parts.{within, joined_types}
use Rattle.typed_syntax.specs.Syntax.{Pl, Steps, local, global, indirect, slice_element, here as itself, inner, at_index, path_of, global_type, site_type, type_named}
use Rattle.typed_syntax.specs.Form.{InScope}
use Rattle.frames.specs.Frames.{steps_far, far, outgoing_of, temps_of}
use Rattle.meaning.specs.Trace.{World, Cell, Trace, Panic, index_out_of_range, nil_dereference}
use Rattle.meaning.specs.Operators.{slice_variable, slice_path, slice_first}
use Rattle.meaning.specs.Meaning
use Rattle.meaning.specs.Meaning.{Env, Then, Ways, Base, Aim, Spot, Step, fixed, worked, variable, through, indexed as by_index, element_of}
use Rattle.isa.specs.declared.instr.MoveEvent.TheVariants as Moved
use Rattle.isa.specs.declared.instr.Instr.{Instr}
use Rattle.isa.specs.declared.instr.Instr.TheVariants.{Const, Move, Address, Offset, Index}
use Rattle.heap_bump.specs.Words.{first_address}
use Rattle.machine.specs.declared.run_state.Ending.TheVariants.{Panic as Panicked}
use Rattle.machine.specs.declared.run_state.Panic.TheVariants.{IndexOutOfRange, NilPointer}
use Rattle.machine.specs.Machine.{words_at, address_of, address_behind, element_address, element_at, reaches_by, loads_from, stores_at, spot_of, stops as ends, puts as puts_word}
use Rattle.program_code.specs.Code.{Access, by_address, temp, cell_slot, site_slot, slots_of, root_type, steps_of, local_root, root_code, index_code, index_count, indices_from, far_code, far_size, address_code, address_size, access, access_by, fetch, land, point}
use Rattle.state_relation.specs.Views.{on_stack, on_heap, View}
use Rattle.state_relation.specs.Relation.{Memory, sets, Kept, word, address, Frame, hold, address_in, word_at, depth, words_before, Reaches, NamedAt}
use Rattle.state_relation.proofs.Lists.{some_same, append_old, append_new}
use Rattle.state_relation.proofs.Distances.{word_slot}
use Rattle.state_relation.proofs.Relation.{site_inside, cell_inside}
use Rattle.state_relation.proofs.Boxes.{box_reaches}
use Rattle.state_relation.proofs.Changes.{kept_word, good_kept, good_set}
use Rattle.state_relation.proofs.Built.{Built}
use Rattle.state_relation.proofs.Rules.{state_of, does_at, seen_from, At, Stands, knowing, later, place_is, given, turned, stepped, halts, moved_one}
use Rattle.state_relation.proofs.Values.{all_kept, fewer, held_none}
use Rattle.state_relation.proofs.Touches.{reached_by, address_small}
use Rattle.state_relation.proofs.SliceSteps.{with_number, sliced_follows}
use Rattle.simulated_code.proofs.Standing.{Standing, front, back, Panics}
use Rattle.simulated_code.proofs.Places.{pointer_variable, pointer_path, variable_of, index_of, root_of, Operands, PlaceOperands, indices_of, steps_with, aimed, Somewhere, index_types, operand_types, indices_are, PointerHeld, first_held, pointer_held, element_among, indices_held, Shaped, element_leads, element_offset, first_offset, shaped_leads, own_type, Begins, Located, lacks_of, root_is, held_by, place_held, LeadsTo, Home, global_home, pointed_by, place_root, good_last}

module _ (m : Built) where
  -- ---- the checks of a place, from its operands to its address

  module _ (c : Frame) (calls : List Frame) (v : View) (w : World) (ws : Ways) (stops : Panics ws) (env : Env) (x : ℕ) (own : TypeTree) (h : Home m v w x own) (at lo b : ℕ) (ha : length c.held ≡ at) (room : at < temps_of m.program m.placement c.func) where
    abbrev slot : ℕ
    slot = temp (slots_of m.program m.placement c.func) at

    -- the address of a part is held after all the rest
    abbrev pub Reached : TypeTree → List ℕ → ℕ → Memory → Type 0
    Reached t path lacks s = Stands m v w (hold c (c.held ++ address t x path lacks ∷ []) ∷ calls) s

    -- and what it says
    reaches : (t : TypeTree) (path : List ℕ) (lacks : ℕ) (s : Memory) → Reached t path lacks s → Reaches v.homes s.hi w t x path lacks (slice_index s.words slot)
    reaches t path lacks s g =
        let last : slice_get (c.held ++ address t x path lacks ∷ []) at ≡ Some (address t x path lacks) =
        (let z : at ≡ length c.held + 0 = omega arith in ap (slice_get (c.held ++ address t x path lacks ∷ [])) z ∙ append_new c.held (address t x path lacks ∷ []) 0) in
        kept_word m.program m.placement m.max m.leading v w (hold c (c.held ++ address t x path lacks ∷ [])) calls s at (address t x path lacks) last g

    own_is : (t : TypeTree) (path : List ℕ) (lacks u : ℕ) (s : Memory) (r : Reaches v.homes s.hi w t x path lacks u) → r.cell.type ≡ own
    own_is t path lacks u s r = ap (λ (k : Cell). k.type) (some_same (sym r.there ∙ h.there)) ∙ h.kind

    -- it is one of 64 bits
    small : (t : TypeTree) (path : List ℕ) (lacks u : ℕ) (s : Memory) → Reached t path lacks s → (r : Reaches v.homes s.hi w t x path lacks u) → address_in s.hi h.place + offset r.cell.type path < 2 ^ 64
    small t path lacks u s g r = let e = within r.cell.type t path r.leads in address_small m v w (hold c (c.held ++ address t x path lacks ∷ []) ∷ calls) s g x r.cell h.place (offset r.cell.type path) r.there h.home (omega arith)

    -- another address takes its place
    replaced : (t r : TypeTree) (path path1 : List ℕ) (lacks lacks1 u : ℕ) (s : Memory) → Reaches v.homes s.hi w r x path1 lacks1 u → Reached t path lacks s → Reached r path1 lacks1 (sets s slot u)
    replaced t r path path1 lacks lacks1 u s there g =
        good_set m.program m.placement m.max m.leading v w (hold c c.held) calls s at u (address r x path1 lacks1) ha room there (fewer m v w c calls s c.held (address t x path lacks ∷ []) g)

    module _ (t r : TypeTree) (n : ℕ) (path : List ℕ) (lacks first pc : ℕ) (is : t ≡ array_of n r) (leads : Leads own path t) (here : slice_get m.code.instrs pc ≡ Some (Index slot slot (temp (slots_of m.program m.placement c.func) first) n (width r))) where
      abbrev front_word : Memory → ℕ
      front_word s = slice_index s.words slot

      -- an element
      led : (i : ℕ) → i < n → Leads own (path ++ i ∷ []) r
      led i l = (joined_types own t r path (i ∷ []) leads).leads (element_leads t r n i is l)

      begins : (i : ℕ) → i < n → offset own (path ++ i ∷ []) ≡ offset own path + i * width r
      begins i l = (joined_types own t r path (i ∷ []) leads).offset ∙ ap (λ y. offset own path + y) (element_offset t r n i is l)

      element_reached : (i : ℕ) → i < n → (s : Memory) → Reached t path lacks s → Reaches v.homes s.hi w r x (path ++ i ∷ []) lacks (front_word s + i * width r)
      element_reached i l s g =
          let a = reaches t path lacks s g in let e = own_is t path lacks (front_word s) s a in
          let off : offset a.cell.type (path ++ i ∷ []) ≡ offset a.cell.type path + i * width r = subst (λ o. offset o (path ++ i ∷ []) ≡ offset o path + i * width r) (sym e) (begins i l) in
          record {
            cell = a.cell;
            there = a.there;
            leads = subst (λ o. Leads o (path ++ i ∷ []) r) (sym e) (led i l);
            less = let le = a.less in omega (arith, off);
            some = let some = a.some in omega arith;
            at = λ q hq. let f = a.at q hq in omega (arith, f, off);
          }

      fits : (i : ℕ) → i < n → (s : Memory) → Reached t path lacks s → front_word s + i * width r < 2 ^ 64
      fits i l s g =
          let a = element_reached i l s g in let f = a.at h.place h.home in let e = within a.cell.type r (path ++ i ∷ []) a.leads in
          let top = address_small m v w (hold c (c.held ++ address t x path lacks ∷ []) ∷ calls) s g x a.cell h.place (offset a.cell.type (path ++ i ∷ [])) a.there h.home (omega arith) in
          omega arith

      does : (z : ℤ) → slice_get c.held first ≡ Some (word ints (number z)) → (s : Memory) → Reached t path lacks s
          → does_at m (Index slot slot (temp (slots_of m.program m.placement c.func) first) n (width r)) pc s ≡ element_at (state_of m pc s) slot z n (element_address (front_word s) z n (width r))
      does z held s g =
          let a = reaches t path lacks s g in let f = a.at h.place h.home in let top = small t path lacks (front_word s) s g a in
          let index = kept_word m.program m.placement m.max m.leading v w (hold c (c.held ++ address t x path lacks ∷ [])) calls s first (word ints (number z)) (append_old c.held (address t x path lacks ∷ []) (word ints (number z)) first held) g in
          let read = cast_signed w64 (slice_index s.words (temp (slots_of m.program m.placement c.func) first)) in
          reached_by (state_of m pc s) (front_word s) 0 (front_word s) (λ y. element_at (state_of m pc s) slot read n (element_address y read n (width r))) a.some (omega arith) (omega arith)
          ∙ ap (λ i. element_at (state_of m pc s) slot i n (element_address (front_word s) i n (width r))) index.0

      -- to an element by an index that is known to be one
      pub to_element : {owed hi b : ℕ} {rest : Trace} (i : ℕ) → i < n → slice_get c.held first ≡ Some (word ints (number (pos i))) → At m owed hi b v rest (Reached r (path ++ i ∷ []) lacks) (pc + 1) → At m (suc owed) 1 b v rest (Reached t path lacks) pc
      to_element {owed} {hi} i l held post =
          stepped m {lo = owed} {hi = hi} (Index slot slot (temp (slots_of m.program m.placement c.func) first) n (width r)) (λ s. sets s slot (front_word s + i * width r)) here
          (λ s g. (
            does (pos i) held s g ∙ ap (λ y. element_at (state_of m pc s) slot (pos i) n (if y then Some ((front_word s + i * width r) % 2 ^ 64) else None)) (lt-ltb i n l)
                ∙ ap (λ u. puts_word (state_of m pc s) slot u) (mod-eq_of_lt {n = front_word s + i * width r} {m = 2 ^ 64} (fits i l s g)),
            refl,
            replaced t r path (path ++ i ∷ []) lacks lacks (front_word s + i * width r) s (element_reached i l s g) g,
          )) post

      module _ (p : Position) (k : Then ℕ) (owed : ℕ) (post : (i : ℕ) → i < n → At m owed 0 b v (k i w) (Reached r (path ++ i ∷ []) lacks) (pc + 1)) where
        fails : (z : ℤ) → slice_get c.held first ≡ Some (word ints (number z)) → ((u : ℕ) → element_address u z n (width r) ≡ None) → At m (suc owed) 1 b v (ws.panicked p (index_out_of_range z (pos n)) env w) (Reached t path lacks) pc
        fails z held nowhere =
            halts m (Index slot slot (temp (slots_of m.program m.placement c.func) first) n (width r)) (Panic p (index_out_of_range z (pos n))) (Panicked (IndexOutOfRange z (pos n))) here (refl, refl) (λ q. ap (seen_from m v q) (stops p (index_out_of_range z (pos n)) env w)) (λ s g. g.sized.heap_used)
            (λ s g. does z held s g ∙ ap (λ o. element_at (state_of m pc s) slot z n o) (nowhere (front_word s)))

        found : (i : ℕ) → slice_get c.held first ≡ Some (word ints (number (pos i))) → (y : Bool) → nat_lt i n ≡ y → At m (suc owed) 1 b v (Meaning.or_panic ws env p (if y then Ok i else Err (index_out_of_range (pos i) (pos n))) k w) (Reached t path lacks) pc
        found i held true e = let l = ltb-true i n e in to_element {owed = owed} {hi = 0} i l held (post i l)
        found i held false e = fails (pos i) held (λ u. ap (λ y. if y then Some ((u + i * width r) % 2 ^ 64) else None) e)

        pub index_follows : (z : ℤ) → slice_get c.held first ≡ Some (word ints (number z)) → At m (suc owed) 1 b v (Meaning.or_panic ws env p (element_of z n) k w) (Reached t path lacks) pc
        index_follows (pos i) held = found i held (nat_lt i n) refl
        index_follows (negsuc i) held = fails (negsuc i) held (λ u. refl)

    -- without an instruction: to a field, or an element by its number
    inner_reached : (t : TypeTree) (i : ℕ) (path : List ℕ) (lacks : ℕ) → i < part_count t → Leads own path t → (s : Memory) → Reached t path lacks s → Reached (part_type t i) (path ++ i ∷ []) (lacks + part_offset t i) s
    inner_reached t i path lacks l leads s g = good_last m v w c calls s (address t x path lacks) (address (part_type t i) x (path ++ i ∷ []) (lacks + part_offset t i)) at ha there g
      where
        next : (o : TypeTree) → own ≡ o → (offset o (path ++ i ∷ []) ≡ offset o path + (part_offset t i + 0)) × Leads o (path ++ i ∷ []) (part_type t i)
        next o e = let j = joined_types o t (part_type t i) path (i ∷ []) (subst (λ y. Leads y path t) e leads) in (j.offset, j.leads (l, refl))

        there : Reaches v.homes s.hi w (part_type t i) x (path ++ i ∷ []) (lacks + part_offset t i) (slice_index s.words slot)
        there =
            let a = reaches t path lacks s g in let e = own_is t path lacks (slice_index s.words slot) s a in let j = next a.cell.type (sym e) in let off = j.0 in
            record { cell = a.cell; there = a.there; leads = j.1; less = (let le = a.less in omega (arith, off)); some = a.some; at = λ q hq. (let f = a.at q hq in omega (arith, f, off)) }

    abbrev spot_at : List ℕ → Spot
    spot_at path = record { variable = x; path = path }

    -- the indices among steps, from an address on, after a way from where the place begins
    module _ (root : List ℕ) (front : TypeTree) (begins : Leads own root front) (k : Then Spot) where
      led_there : (path way : List ℕ) (t : TypeTree) → path ≡ root ++ way → Leads front way t → Leads own path t
      led_there path way t is leads = subst (λ p. Leads own p t) (sym is) ((joined_types own front t root way begins).leads leads)

      further : (path way : List ℕ) (i : ℕ) → path ≡ root ++ way → path ++ i ∷ [] ≡ root ++ (way ++ i ∷ [])
      further path way i is = ap (λ p. p ++ i ∷ []) is ∙ append_assoc root way (i ∷ [])

      pub indexed : (steps : Steps) (vs : List Value) (gone more : List Kept) (t s : TypeTree) (path way : List ℕ) (first lacks pc : ℕ) → path ≡ root ++ way → Leads front way t → Shaped t steps s → Operands steps vs → c.held ≡ gone ++ (all_kept (index_types steps) vs ++ more) → length gone ≡ first
          → Standing m.code c.fn pc (index_code (slots_of m.program m.placement c.func) t steps first at)
          → ((way1 : List ℕ) → Leads front way1 s → At m (12 + lo) 1 b v (k (spot_at (root ++ way1)) w) (Reached s (root ++ way1) (lacks + offset t (path_of steps))) (pc + index_count steps))
          → At m (12 + lo) 0 b v (Meaning.settle_steps ws env (steps_with steps vs) x path k w) (Reached t path lacks) pc
      indexed itself vs gone more t s path way first lacks pc is leads shape ops e hg has post =
          let none : lacks + 0 ≡ lacks = omega arith in let q : pc + 0 ≡ pc = omega arith in
          later m {lo = 12 + lo} {hi = 1} {b = b} (omega arith) (omega arith) (omega arith)
          (place_is m q (subst (λ p. At m (12 + lo) 1 b v (k (spot_at p) w) (Reached t p lacks) (pc + 0)) (sym is)
          (subst (λ n. At m (12 + lo) 1 b v (k (spot_at (root ++ way)) w) (Reached t (root ++ way) n) (pc + 0)) none
          (subst (λ u. At m (12 + lo) 1 b v (k (spot_at (root ++ way)) w) (Reached u (root ++ way) (lacks + 0)) (pc + 0)) (sym shape) (post way (subst (λ u. Leads front way u) shape leads))))))
      indexed (inner i steps) vs gone more t s path way first lacks pc is leads shape ops e hg has post =
          let next = joined_types front t (part_type t i) way (i ∷ []) leads in
          given m (inner_reached t i path lacks shape.0 (led_there path way t is leads))
          (indexed steps vs gone more (part_type t i) s (path ++ i ∷ []) (way ++ i ∷ []) first (lacks + part_offset t i) pc (further path way i is) (next.leads (shape.0, refl)) shape.1 ops e hg has (λ way1 leads1.
          let sum : lacks + (part_offset t i + offset (part_type t i) (path_of steps)) ≡ lacks + part_offset t i + offset (part_type t i) (path_of steps) = omega arith in
          subst (λ n. At m (12 + lo) 1 b v (k (spot_at (root ++ way1)) w) (Reached s (root ++ way1) n) (pc + index_count steps)) sum (post way1 leads1)))
      indexed (at_index p e n steps) [] gone more t s path way first lacks pc is leads shape ops eq hg has post = absurd ops
      indexed (at_index p e n steps) (int z ∷ vs) gone more t s path way first lacks pc is leads (r, array, some, shape) ops eq hg has post =
          let first_type : part_type t 0 ≡ r = (element_leads t r n 0 array some).1 in let none = first_offset t r n array some in
          let there = temp (slots_of m.program m.placement c.func) first in
          let held = first_held gone (all_kept (index_types steps) vs ++ more) c.held (word ints (number z)) first eq hg in
          later m {lo = lo} {hi = 0} {b = b} (omega arith) (omega arith) (omega arith)
          (turned m {lo1 = suc (12 + lo)} (omega arith)
          (index_follows t r n path lacks first pc array (led_there path way t is leads) (subst (λ u. slice_get m.code.instrs pc ≡ Some (Index slot slot there n (width u))) first_type has.0.0)
          p (λ i. Meaning.settle_steps ws env (steps_with steps vs) x (path ++ i ∷ []) k) (12 + lo) (λ i l.
          indexed steps vs (gone ++ word ints (number z) ∷ []) more r s (path ++ i ∷ []) (way ++ i ∷ []) (first + 1) lacks (pc + 1) (further path way i is) ((joined_types front t r way (i ∷ []) leads).leads (element_leads t r n i array l)) shape ops.1
          (eq ∙ sym (append_assoc gone (word ints (number z) ∷ []) (all_kept (index_types steps) vs ++ more))) (omega (arith, length-append gone (word ints (number z) ∷ []), hg))
          (subst (λ u. Standing m.code c.fn (pc + 1) (index_code (slots_of m.program m.placement c.func) u steps (first + 1) at)) first_type has.1)
          (λ way1 leads1.
          let rest : lacks + (part_offset t 0 + offset (part_type t 0) (path_of steps)) ≡ lacks + offset r (path_of steps) = (let q = ap (λ u. offset u (path_of steps)) first_type in omega (arith, none, q)) in
          let q : pc + suc (index_count steps) ≡ pc + 1 + index_count steps = omega arith in
          place_is m q (subst (λ j. At m (12 + lo) 1 b v (k (spot_at (root ++ way1)) w) (Reached s (root ++ way1) j) (pc + suc (index_count steps))) rest (post way1 leads1)))) z held))
      indexed (at_index p e n steps) (y ∷ vs) gone more t s path way first lacks pc is leads shape ops eq hg has post = absurd ops.0

  -- ---- the address at which a place begins

  -- of a variable of a site
  pub site_pointed : {lo hi b : ℕ} {rest : Trace} (c : Frame) (calls : List Frame) (v : View) (w : World) (site at pc : ℕ) → InScope site c.scope → length c.held ≡ at → at < temps_of m.program m.placement c.func → slice_get m.code.instrs pc ≡ Some (local_root (slots_of m.program m.placement c.func) site at)
      → At m lo hi b v rest (Stands m v w (hold c (c.held ++ address (site_type m.program site) (c.env site) [] 0 ∷ []) ∷ calls)) (pc + 1) → At m (suc lo) 1 b v rest (Stands m v w (c ∷ calls)) pc
  site_pointed {lo = lo} {hi = hi} {b = b} {rest = rest} c calls v w site at pc scoped ha room here post = by (m.placement.on_heap site) refl
    where
      own : TypeTree
      own = site_type m.program site

      slot : ℕ
      slot = temp (slots_of m.program m.placement c.func) at

      after : Memory → Type 0
      after = Stands m v w (hold c (c.held ++ address own (c.env site) [] 0 ∷ []) ∷ calls)

      by : (boxed : Bool) → m.placement.on_heap site ≡ boxed → At m (suc lo) 1 b v rest (Stands m v w (c ∷ calls)) pc
      by true e =
          let cell = cell_slot (slots_of m.program m.placement c.func) site in let d = depth m.program m.placement (c ∷ calls) - cell in
          stepped m {lo = lo} {hi = hi} {G1 = after} (Move Moved.Silent slot cell 1) (λ u. sets u slot (slice_index u.words cell))
          (here ∙ ap (λ k. Some (if k then Move Moved.Silent slot cell 1 else Address slot (site_slot (slots_of m.program m.placement c.func) site))) e)
          (λ u g.
          let among = g.homed.owned.0.among site scoped in let inside = cell_inside m.program m.placement c.func site e among.2 among.0 among.1 in let long = g.sized.used in
          let same : word_at u.words d ≡ slice_index u.words cell = word_slot u.words (depth m.program m.placement (c ∷ calls)) cell long (omega (arith, inside.1)) in (
            moved_one m Moved.Silent slot cell pc u (omega arith) (omega (arith, inside.1)),
            refl,
            good_set m.program m.placement m.max m.leading v w c calls u at (slice_index u.words cell) (address own (c.env site) [] 0) ha room
                (subst (λ n. Reaches v.homes u.hi w own (c.env site) [] 0 n) same (box_reaches m.program m.placement m.max m.leading v w (c ∷ calls) u (c.env site) d own (inl (site, scoped, refl, refl, refl, e)) g)) g,
          )) post
      by false e =
          let front = site_slot (slots_of m.program m.placement c.func) site in let d = depth m.program m.placement (c ∷ calls) - front in
          stepped m {lo = lo} {hi = hi} {G1 = after} (Address slot front) (λ u. sets u slot (address_of u.hi (length u.words - front)))
          (here ∙ ap (λ k. Some (if k then Move Moved.Silent slot (cell_slot (slots_of m.program m.placement c.func) site) 1 else Address slot front)) e)
          (λ u g.
          let among = g.homed.owned.0.among site scoped in let inside = site_inside m.program m.placement c.func site e among.0 among.1 in
          let name : NamedAt m.program m.placement (c ∷ calls) (c.env site) d false own = inl (site, scoped, refl, refl, refl, e) in
          let r = g.homed.named (c.env site) d false own name in let home = g.homed.slots (c.env site) d own name in
          let long = g.sized.used in let upper = g.sized.low in let low = g.sized.fits in let has = g.sized.full in
          let there : Reaches v.homes u.hi w own (c.env site) [] 0 (address_of u.hi (length u.words - front)) = record {
            cell = r.0;
            there = r.1;
            leads = r.2;
            less = omega arith;
            some = omega arith;
            at = λ q hq. let same : on_stack d ≡ q = some_same (sym home ∙ hq) in subst (λ o. address_of u.hi (length u.words - front) + 0 ≡ address_in u.hi o + 0) same (omega (arith, inside.0, inside.1));
          } in
          (refl, refl, good_set m.program m.placement m.max m.leading v w c calls u at (address_of u.hi (length u.words - front)) (address own (c.env site) [] 0) ha room there g)) post

  -- of any place that leads somewhere
  root_length : (c : Frame) (scope : List ℕ) (q : Pl) (first at : ℕ) → Begins m scope q → length (root_code (slots_of m.program m.placement c.func) q first at) ≡ 1
  root_length c scope (local site steps) first at fit = refl
  root_length c scope (global g steps) first at fit = refl
  root_length c scope (indirect at0 e n steps) first at fit = refl
  root_length c scope (slice_element at0 e i n steps) first at fit = refl

  -- a place that begins with no slice
  abbrev IsSliceless : Pl → Type 0
  IsSliceless (slice_element at e i n steps) = ⊥
  IsSliceless q = Unit {0}

  root_pointed : {lo hi b : ℕ} {rest : Trace} (q : Pl) (t : TypeTree) (vs : List Value) (c : Frame) (calls : List Frame) (v : View) (w : World) (first at pc : ℕ) → IsSliceless q → Located m c.scope t q → PointerHeld q vs c.held first → length c.held ≡ at → at < temps_of m.program m.placement c.func
      → Standing m.code c.fn pc (root_code (slots_of m.program m.placement c.func) q first at) → At m lo hi b v rest (Stands m v w (hold c (c.held ++ address (own_type m q) (variable_of c.env q vs) (root_of q vs) 0 ∷ []) ∷ calls)) (pc + 1) → At m (suc lo) 1 b v rest (Stands m v w (c ∷ calls)) pc
  root_pointed {lo} {hi} {b} {rest} (local site steps) t vs c calls v w first at pc bare fit led ha room has post = site_pointed {lo = lo} {hi = hi} {b = b} {rest = rest} c calls v w site at pc fit.0 ha room has.0.0 post
  root_pointed {lo} {hi} {b} {rest} (global g0 steps) t vs c calls v w first at pc bare fit led ha room has post =
      let s = slots_of m.program m.placement c.func in let own = global_type m.program g0 in let front = first_address + words_before m.program g0 in
      stepped m {lo = lo} {hi = hi} {G1 = Stands m v w (hold c (c.held ++ address own g0 [] 0 ∷ []) ∷ calls)} (Const (temp s at) front) (λ u. sets u (temp s at) front) has.0.0
      (λ u g.
      let h = global_home m c calls v w u g0 fit.0 g in
      let there : Reaches v.homes u.hi w own g0 [] 0 front = record {
        cell = h.cell;
        there = h.there;
        leads = h.kind;
        less = omega arith;
        some = omega arith;
        at = λ q hq. let same : on_heap (words_before m.program g0) ≡ q = some_same (sym (g.homed.globals g0 fit.0 (let b = g.homed.begun in omega arith)).3 ∙ hq) in
            subst (λ o. front + 0 ≡ address_in u.hi o + 0) same (omega arith);
      } in
      (refl, refl, good_set m.program m.placement m.max m.leading v w c calls u at front (address own g0 [] 0) ha room there g)) post
  root_pointed (indirect at0 e n steps) t [] c calls v w first at pc bare fit led ha room has post = absurd led
  root_pointed {lo} {hi} {b} {rest} (indirect at0 e n steps) t (y ∷ vs) c calls v w first at pc bare fit led ha room has post =
      let s = slots_of m.program m.placement c.func in let own = type_named m.program n in let x = pointer_variable y in let root = pointer_path y in
      stepped m {lo = lo} {hi = hi} {G1 = Stands m v w (hold c (c.held ++ address own x root 0 ∷ []) ∷ calls)} (Offset (temp s at) (temp s first) 0) (λ u. sets u (temp s at) (slice_index u.words (temp s first))) has.0.0
      (λ u g.
      let k = slice_index u.words (temp s first) in let p = pointed_by m c calls v w u n x root first led g in let r = p.reaches in
      let f = r.at (on_heap p.high) p.home in let ends = within r.cell.type own root r.leads in
      let top = address_small m v w (c ∷ calls) u g x r.cell (on_heap p.high) (offset r.cell.type root) r.there p.home (omega arith) in (
        reached_by (state_of m pc u) k 0 k (λ a. puts_word (state_of m pc u) (temp s at) a) r.some (omega arith) (omega (arith, f)),
        refl,
        good_set m.program m.placement m.max m.leading v w c calls u at k (address own x root 0) ha room r g,
      )) post
  root_pointed (slice_element at0 e i n steps) t vs c calls v w first at pc bare fit led ha room has post = absurd bare

  -- where words are that are held by another name
  pub held_again : (c : Frame) (calls : List Frame) (v : View) (w : World) (held : List Kept) (s : Memory) → c.held ≡ held → Stands m v w (c ∷ calls) s → Stands m v w (hold c held ∷ calls) s
  held_again c calls v w held s e g = subst (λ l. Stands m v w (hold c l ∷ calls) s) e (good_kept m.program m.placement m.max m.leading v w c calls s c.held g.homed.owned.0.room (λ i k l f. g.framed.kept (depth m.program m.placement (c ∷ calls) - (outgoing_of m.program c.func + i)) k (inl (i, l, refl, f))) g)

  -- ---- places with their operands

  -- without an index the steps are taken at once
  straight : (ws : Ways) (env : Env) (k : Then Spot) (steps : Steps) (vs : List Value) (x : ℕ) (path : List ℕ) (w : World) → steps_far steps ≡ 0 → Meaning.settle_steps ws env (steps_with steps vs) x path k w ≡ k (record { variable = x; path = path ++ path_of steps }) w
  straight ws env k itself vs x path w near = ap (λ p. k (record { variable = x; path = p }) w) (sym (append-nil path))
  straight ws env k (inner i steps) vs x path w near = straight ws env k steps vs x (path ++ i ∷ []) w near ∙ ap (λ p. k (record { variable = x; path = p }) w) (append_assoc path (i ∷ []) (path_of steps))
  straight ws env k (at_index at e n steps) vs x path w near = absurd (omega (arith, near))

  near_steps : (q : Pl) → far q ≡ 0 → steps_far (steps_of q) ≡ 0
  near_steps (local site steps) near = near
  near_steps (global g steps) near = absurd (omega (arith, near))
  near_steps (indirect at e n steps) near = near
  near_steps (slice_element at e i n steps) near = absurd (omega (arith, near))

  -- a place that leads somewhere: its indices are tested, and its address is worked out
  module _ (q : Pl) (t : TypeTree) (vs : List Value) (gone more : List Kept) (c : Frame) (calls : List Frame) (ws : Ways) (env : Env) (k : Then Spot) (v : View) (w : World) (first at pc lo b : ℕ) (stops : Panics ws) (bare : IsSliceless q) (fit : Located m c.scope t q) (ops : PlaceOperands q vs) (led : PointerHeld q vs c.held first)
      (e : c.held ≡ gone ++ (all_kept (operand_types q) vs ++ more)) (hg : length gone ≡ first) (ha : length c.held ≡ at) where
    abbrev start : ℕ
    start = variable_of c.env q vs

    abbrev start_path : List ℕ
    start_path = root_of q vs

    abbrev Led : (distance : ℕ) → Type 0
    Led distance = (way : List ℕ) → LeadsTo m t q way → At m (12 + lo) 1 b v (k (record { variable = start; path = start_path ++ way }) w) (Stands m v w (hold c (c.held ++ held_by m distance t start (start_path ++ way) (lacks_of m q)) ∷ calls)) (pc + far_size distance (steps_of q))

    led_by : (distance : ℕ) → far q ≡ distance → at + distance ≤ temps_of m.program m.placement c.func → Standing m.code c.fn pc (far_code (slots_of m.program m.placement c.func) q distance first at) → Led distance
        → At m (suc (12 + lo)) 1 b v (Meaning.settle_steps ws env (steps_with (steps_of q) (indices_of q vs)) start start_path k w) (Stands m v w (c ∷ calls)) pc
    led_by zero is room has post =
        let way = path_of (steps_of q) in let none : pc + 0 ≡ pc = omega arith in
        later m {lo = 12 + lo} {hi = 1} {b = b} (omega arith) (omega arith) (omega arith)
        (given m (held_none m v w c calls)
        (subst (λ (r : Trace). At m (12 + lo) 1 b v r (Stands m v w (hold c (c.held ++ []) ∷ calls)) pc) (sym (straight ws env k (steps_of q) (indices_of q vs) start start_path w (near_steps q is)))
        (place_is m none (post way (shaped_leads (own_type m q) t (steps_of q) fit.1, λ z. refl)))))
    led_by (suc n) is room has post =
        let s = slots_of m.program m.placement c.func in let own = own_type m q in let held = indices_held q vs gone more c.held first ops e hg in
        let code = root_code s q first at in let rest = index_code s (root_type s q) (steps_of q) (indices_from q first) at in
        knowing m (λ s0 g0.
        let r = place_root m c.scope t q vs c calls v w s0 first refl fit led g0 in
        root_pointed {lo = 12 + lo} {hi = 0} {b = b} {rest = Meaning.settle_steps ws env (steps_with (steps_of q) (indices_of q vs)) start start_path k w} q t vs c calls v w first at pc bare fit led ha (omega arith) (front m.code c.fn pc code rest has)
        (indexed c calls v w ws stops env start r.own r.home at lo b ha (omega arith) start_path own r.leads k (steps_of q) (indices_of q vs) held.gone more own t start_path [] (indices_from q first) 0 (pc + 1) (sym (append-nil start_path)) refl fit.1 (indices_are q vs ops) held.among held.before
        (subst (λ o. Standing m.code c.fn (pc + 1) (index_code s o (steps_of q) (indices_from q first) at)) (root_is m c.func q) (back m.code c.fn pc 1 code rest (root_length c c.scope q first at fit.0) has)) (λ way leads.
        let there : pc + suc (index_count (steps_of q)) ≡ pc + 1 + index_count (steps_of q) = omega arith in let none : 0 + lacks_of m q ≡ lacks_of m q = omega arith in
        place_is m there (subst (λ j. At m (12 + lo) 1 b v (k (record { variable = start; path = start_path ++ way }) w) (Stands m v w (hold c (c.held ++ address t start (start_path ++ way) j ∷ []) ∷ calls)) (pc + suc (index_count (steps_of q)))) (sym none) (post way (leads, λ z. absurd (omega (arith, z, is))))))))

  -- an instruction reads or writes what is behind an access, or gives its address
  abbrev pub Touches : Access → Instr → Type 0
  Touches a i = (off n to : ℕ) × ((i ≡ fetch a off n to) ⊎ ((i ≡ land a off n to) ⊎ (i ≡ point a off to)))

  -- behind no address it ends the run
  touched_nowhere : (low : ℕ) (i : Instr) (s : Memory) (pc : ℕ) → Touches (by_address low) i → slice_index s.words low ≡ 0 → does_at m i pc s ≡ ends (state_of m pc s) (Panicked NilPointer)
  touched_nowhere low i s pc (off, n, to, inl e) none = ap (λ j. does_at m j pc s) e ∙ ap (λ u. reaches_by (state_of m pc s) (address_behind u off) (λ a. loads_from (spot_of s.hi s.heap s.words a n) (state_of m pc s) to n a)) none
  touched_nowhere low i s pc (off, n, to, inr (inl e)) none = ap (λ j. does_at m j pc s) e ∙ ap (λ u. reaches_by (state_of m pc s) (address_behind u off) (λ a. stores_at (spot_of s.hi s.heap s.words a n) (state_of m pc s) (words_at s.words to n) a)) none
  touched_nowhere low i s pc (off, n, to, inr (inr e)) none = ap (λ j. does_at m j pc s) e ∙ ap (λ u. reaches_by (state_of m pc s) (address_behind u off) (λ a. puts_word (state_of m pc s) to a)) none

  -- A place takes its turns, its operands are tested, and its address is worked out. Where a pointer leads nowhere, the first instruction ends
  -- the run: without an index that is the one which touches the place.
  pub settled_follow : (q : Pl) (t : TypeTree) (vs : List Value) (gone more : List Kept) (c : Frame) (calls : List Frame) (ws : Ways) (env env0 : Env) (k : Then Spot) (v : View) (w : World) (first at pc lo b : ℕ) (touch : Instr) → Panics ws → Located m c.scope t q → variable_of c.env q vs ≡ variable_of env0 q vs → PlaceOperands q vs
      → c.held ≡ gone ++ (all_kept (operand_types q) vs ++ more) → length gone ≡ first → length c.held ≡ at → at + far q ≤ temps_of m.program m.placement c.func → Standing m.code c.fn pc (address_code (slots_of m.program m.placement c.func) q first at)
      → slice_get m.code.instrs (pc + address_size q) ≡ Some touch → Touches (access (slots_of m.program m.placement c.func) q first at) touch
      → (Somewhere q vs → (way : List ℕ) → LeadsTo m t q way → At m (12 + lo) 1 b v (k (record { variable = variable_of env0 q vs; path = root_of q vs ++ way }) w) (Stands m v w (hold c (c.held ++ place_held m c.env q vs t way) ∷ calls)) (pc + address_size q))
      → At m lo 0 b v (Meaning.settle ws env (aimed env0 q vs) k w) (Stands m v w (c ∷ calls)) pc
  settled_follow (local site steps) t vs gone more c calls ws env env0 k v w first at pc lo b touch stops fit same ops e hg ha room has touches kind post =
      turned m {lo1 = suc (12 + lo)} (omega arith)
      (subst (λ x. At m (suc (12 + lo)) 1 b v (Meaning.settle_steps ws env (steps_with steps vs) x [] k w) (Stands m v w (c ∷ calls)) pc) same
      (led_by (local site steps) t vs gone more c calls ws env k v w first at pc lo b stops tt fit ops tt e hg ha (steps_far steps) refl room has
      (λ way leads. subst (λ x. At m (12 + lo) 1 b v (k (record { variable = x; path = way }) w) (Stands m v w (hold c (c.held ++ place_held m c.env (local site steps) vs t way) ∷ calls)) (pc + far_size (steps_far steps) steps)) (sym same) (post tt way leads))))
  settled_follow (global g0 steps) t vs gone more c calls ws env env0 k v w first at pc lo b touch stops fit same ops e hg ha room has touches kind post =
      turned m {lo1 = suc (12 + lo)} (omega arith) (led_by (global g0 steps) t vs gone more c calls ws env k v w first at pc lo b stops tt fit ops tt e hg ha 1 refl room has (post tt))
  settled_follow (indirect at0 e0 n steps) t [] gone more c calls ws env env0 k v w first at pc lo b touch stops fit same ops e hg ha room has touches kind post = absurd ops
  settled_follow (indirect at0 e0 n steps) t (pointer x path ∷ vs) gone more c calls ws env env0 k v w first at pc lo b touch stops fit same ops e hg ha room has touches kind post =
      turned m {lo1 = suc (12 + lo)} (omega arith)
      (led_by (indirect at0 e0 n steps) t (pointer x path ∷ vs) gone more c calls ws env k v w first at pc lo b stops tt fit ops (pointer_held (indirect at0 e0 n steps) (pointer x path ∷ vs) gone more c.held first ops tt e hg) e hg ha (steps_far steps) refl room has (post tt))
  settled_follow (indirect at0 e0 n steps) t (nil_pointer ∷ vs) gone more c calls ws env env0 k v w first at pc lo b touch stops fit same ops e hg ha room has touches kind post =
      turned m {lo1 = suc lo} (omega arith) (by (steps_far steps) has touches kind)
    where
      nowhere : (u : Memory) → Stands m v w (c ∷ calls) u → slice_index u.words (temp (slots_of m.program m.placement c.func) first) ≡ 0
      nowhere u g =
          kept_word m.program m.placement m.max m.leading v w c calls u first (word (pointer_to n) no_address)
          (first_held gone (all_kept (index_types steps) vs ++ more) c.held (word (pointer_to n) no_address) first e hg) g

      halted : (i : Instr) → slice_get m.code.instrs pc ≡ Some i → Touches (by_address (temp (slots_of m.program m.placement c.func) first)) i → At m (suc lo) 1 b v (ws.panicked at0 nil_dereference env w) (Stands m v w (c ∷ calls)) pc
      halted i here those =
          halts m {lo = lo} i (Panic at0 nil_dereference) (Panicked NilPointer) here tt (λ r. ap (seen_from m v r) (stops at0 nil_dereference env w)) (λ u g. g.sized.heap_used)
          (λ u g. touched_nowhere (temp (slots_of m.program m.placement c.func) first) i u pc those (nowhere u g))

      by : (distance : ℕ) → Standing m.code c.fn pc (far_code (slots_of m.program m.placement c.func) (indirect at0 e0 n steps) distance first at) → slice_get m.code.instrs (pc + far_size distance steps) ≡ Some touch
          → Touches (access_by (slots_of m.program m.placement c.func) (indirect at0 e0 n steps) distance first at) touch → At m (suc lo) 1 b v (ws.panicked at0 nil_dereference env w) (Stands m v w (c ∷ calls)) pc
      by zero has here those = halted touch (let none : pc ≡ pc + 0 = omega arith in ap (slice_get m.code.instrs) none ∙ here) those
      by (suc d) has here those = halted (Offset (temp (slots_of m.program m.placement c.func) at) (temp (slots_of m.program m.placement c.func) first) 0) has.0.0 (0, 0, temp (slots_of m.program m.placement c.func) at, inr (inr refl))
  settled_follow (indirect at0 e0 n steps) t (y ∷ vs) gone more c calls ws env env0 k v w first at pc lo b touch stops fit same ops e hg ha room has touches kind post = absurd ops.0
  settled_follow (slice_element at0 e0 i n steps) t [] gone more c calls ws env env0 k v w first at pc lo b touch stops fit same ops e hg ha room has touches kind post = absurd ops
  settled_follow (slice_element at0 e0 i n steps) t (y ∷ []) gone more c calls ws env env0 k v w first at pc lo b touch stops fit same ops e hg ha room has touches kind post = absurd ops.1
  settled_follow (slice_element at0 e0 i n steps) t (y ∷ int z ∷ vs) gone more c calls ws env env0 k v w first at pc lo b touch stops fit same ops e hg ha room has touches kind post =
      let q = slice_element at0 e0 i n steps in let those : List Value = y ∷ int z ∷ vs in
      let rest = all_kept (index_types steps) vs ++ more in let all = with_number m c calls gone n y z rest in let u = type_named m.program n in let s = slots_of m.program m.placement c.func in
      let is : c.held ≡ all = e ∙ element_among n y (int z) (index_types steps) vs gone more ops.0 ops.1.0 in
      turned m {lo1 = suc (12 + lo)} (omega arith)
      (knowing m (λ s0 g0.
      given m (λ r g. held_again c calls v w all r is g)
      (sliced_follows m c calls n y gone rest first at pc (12 + lo) b v w z ops.0 hg (ap (λ l. length l) (sym is) ∙ ha) (omega arith) has.0.0 ws env at0 (λ spot. Meaning.settle_steps ws env (steps_with steps vs) spot.variable spot.path k) stops (λ j zj lt.
      let somewhere : Somewhere q those = (j, ap int zj, lt) in
      let r = place_root m c.scope t q those c calls v w s0 first refl fit (pointer_held q those gone more c.held first ops somewhere e hg) g0 in
      let held = indices_held q those gone more c.held first ops e hg in
      let path = root_of q those in let same : path ≡ slice_path y ++ (slice_first y + j) ∷ [] = ap (λ x. slice_path y ++ (slice_first y + index_of (int x)) ∷ []) zj in
      subst (λ p. At m (12 + lo) 0 b v (Meaning.settle_steps ws env (steps_with steps vs) (slice_variable y) p k w) (Stands m v w (hold c (all ++ address u (slice_variable y) p 0 ∷ []) ∷ calls)) (pc + 1)) same
      (subst (λ l. At m (12 + lo) 0 b v (Meaning.settle_steps ws env (steps_with steps vs) (slice_variable y) path k w) (Stands m v w (hold c (l ++ address u (slice_variable y) path 0 ∷ []) ∷ calls)) (pc + 1)) is
      (indexed c calls v w ws stops env (slice_variable y) r.own r.home at lo b ha (omega arith) path u r.leads k steps vs held.gone more u t path [] (indices_from q first) 0 (pc + 1) (sym (append-nil path)) refl fit.1 (indices_are q those ops) held.among held.before has.1 (λ way leads.
      let there : pc + suc (index_count steps) ≡ pc + 1 + index_count steps = omega arith in let none : 0 + lacks_of m q ≡ lacks_of m q = omega arith in
      place_is m there (subst (λ d. At m (12 + lo) 1 b v (k (record { variable = slice_variable y; path = path ++ way }) w) (Stands m v w (hold c (c.held ++ address t (slice_variable y) (path ++ way) d ∷ []) ∷ calls)) (pc + suc (index_count steps))) (sym none)
      (post somewhere way (leads, λ x. absurd (omega (arith, x))))))))))))
  settled_follow (slice_element at0 e0 i n steps) t (y ∷ u ∷ vs) gone more c calls ws env env0 k v w first at pc lo b touch stops fit same ops e hg ha room has touches kind post = absurd ops.1.0
