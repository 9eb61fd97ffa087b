-- The machine follows the read of an element in a round of `range`: the index goes to a temp, and the element after it.
use Rattle.std.proofs.Common.{◌≡◌, inl, ℕ, suc, ◌+◌, ◌*◌, ◌%◌, ◌^◌, ◌<◌, ◌≤◌, pos, List, [], ◌∷◌, ◌++◌, length, Some, None, refl, ap, ◌∙◌, subst, arith, append_assoc, length-append, mod-eq_of_lt}
use Rattle.std.specs.Prelude.{slice_get, slice_index, if◌then◌else◌}
use Rattle.std.specs.Int.{w64, cast_signed}
use Rattle.std.proofs.lemmas.Bool.{lt-ltb}
use Rattle.typed_syntax.specs.Positions.{Position}
use Rattle.typed_syntax.specs.Types.{TypeTree, ints, array_of, pointer_to, width, part_type}
use Rattle.typed_syntax.specs.Value.{Value, int, nil_pointer, pointer, IsOf}
use Rattle.typed_syntax.specs.Paths.{at_path, Leads, offset}
use Rattle.typed_syntax.specs.Words.{number, no_address, part_address}
use Rattle.typed_syntax.specs.Syntax.{local, here as itself, site_type, type_named}
use Rattle.typed_syntax.specs.Form.{InScope}
use Rattle.value_laws.proofs.Parts.{at_is, within}
use Rattle.frames.specs.Frames.{temps_of}
use Rattle.meaning.specs.Trace.{World, Trace, Panic, nil_dereference}
use Rattle.meaning.specs.Store.{value_of}
use Rattle.meaning.specs.Meaning
use Rattle.meaning.specs.Meaning.{Env, Then, Ways}
use Rattle.isa.specs.declared.instr.MoveEvent.TheVariants.{Silent}
use Rattle.isa.specs.declared.instr.Instr.TheVariants.{Move, Load, Index}
use Rattle.machine.specs.declared.run_state.Ending.TheVariants.{Panic as Panicked}
use Rattle.machine.specs.declared.run_state.Panic.TheVariants.{NilPointer}
use Rattle.machine.specs.Machine.{address_behind, element_address, element_at, reaches_by, puts as puts_word}
use Rattle.program_code.specs.Code.{by_address, temp, slots_of, element_code, pointed_code}
use Rattle.state_relation.specs.Views.{View, on_heap}
use Rattle.state_relation.specs.Relation.{Memory, puts, sets, part_place, Kept, word, address, Frame, hold, during, Reaches}
use Rattle.state_relation.proofs.Lists.{append_old, append_new}
use Rattle.state_relation.proofs.Addresses.{part_reached}
use Rattle.state_relation.proofs.Changes.{kept_word, good_set}
use Rattle.state_relation.proofs.Built.{Built}
use Rattle.state_relation.proofs.Rules.{state_of, seen_from, At, Stands, knowing, read_of, stepped, halts, moved_one}
use Rattle.state_relation.proofs.Values.{kept, one_more, temp_set, held_word}
use Rattle.state_relation.proofs.Touches.{reached_by, address_small}
use Rattle.simulated_code.proofs.Standing.{Standing, Panics}
use Rattle.simulated_code.proofs.Places.{element_leads, element_offset, Rooted, part_rooted, place_root, site_home, pointed_by}
use Rattle.simulated_code.proofs.Settled.{site_pointed, to_element}
use Rattle.simulated_code.proofs.Reached.{place_typed, part_fetched}
use Rattle.simulated_code.proofs.ArrayRounds.{indexed_by}

module _ (m : Built) where
  -- an element goes to where its address is
  element_loaded : {lo hi b : ℕ} {rest : Trace} (r front : TypeTree) (x : ℕ) (root way : List ℕ) (c : Frame) (calls : List Frame) (base : List Kept) (v : View) (w : World) (at pc : ℕ) → slice_get m.code.instrs pc ≡ Some (Load (temp (slots_of m.program m.placement c.func) at) (temp (slots_of m.program m.placement c.func) at) 0 (width r))
      → length base ≡ at → at + width r ≤ temps_of m.program m.placement c.func → ((s : Memory) → Stands m v w (hold c (base ++ address r x (root ++ way) 0 ∷ []) ∷ calls) s → Rooted m v w x root front) → Leads front way r
      → (IsOf r (at_path (value_of w x) (root ++ way)) → At m lo hi b v rest (Stands m v w (hold c (base ++ kept r (at_path (value_of w x) (root ++ way))) ∷ calls)) (pc + 1))
      → At m (suc lo) 1 b v rest (Stands m v w (hold c (base ++ address r x (root ++ way) 0 ∷ []) ∷ calls)) pc
  element_loaded {lo} {hi} r front x root way c calls base v w at pc here hb room rooted leads post =
      knowing m (λ s0 g0.
      let path = root ++ way in let a = temp (slots_of m.program m.placement c.func) at in let c0 = hold c (base ++ address r x path 0 ∷ []) in
      let k = rooted s0 g0 in let there = part_rooted m v w x root way front r k leads in
      let typed = at_is k.own r (value_of w x) path (place_typed m x k.own v w c0 calls s0 g0 k.home) there in
      let last : slice_get (base ++ address r x path 0 ∷ []) at ≡ Some (address r x path 0) =
      (let z : at ≡ length base + 0 = omega (arith, hb) in ap (slice_get (base ++ address r x path 0 ∷ [])) z ∙ append_new base (address r x path 0 ∷ []) 0) in
      stepped m {lo = lo} {hi = hi} (Load a a 0 (width r)) (λ (u : Memory). puts u a (part_place u k.home.place (offset k.own path) (width r))) here
      (λ u g. part_fetched m r x path c calls base (address r x path 0 ∷ []) v w u at pc (by_address a) 0 k.own k.home there hb room g (kept_word m.program m.placement m.max m.leading v w c0 calls u at (address r x path 0) last g)) (post typed))

  -- in the round of an index, which is in temp h, with the operands of left sides above it
  module _ (c : Frame) (calls : List Frame) (i : ℕ) (env : Env) (scope : List ℕ) (v : View) (w : World) (held ready : List Kept) (h at : ℕ) (hh : length held ≡ h) (above : length (indexed_by held i ++ ready) ≡ at) where
    abbrev pub beside_index : List Kept
    beside_index = (indexed_by held i ++ ready) ++ kept ints (int (pos i))

    below : h < at
    below = omega (arith, one_more held ints (int (pos i)) h 1 hh refl, length-append (indexed_by held i) ready, above)

    wide : length beside_index ≡ at + 1
    wide = one_more (indexed_by held i ++ ready) ints (int (pos i)) at 1 above refl

    still_held : (j : ℕ) (k : Kept) → slice_get (indexed_by held i) j ≡ Some k → slice_get beside_index j ≡ Some k
    still_held j k e = append_old (indexed_by held i ++ ready) (kept ints (int (pos i))) k j (append_old (indexed_by held i) ready k j e)

    index_held : slice_get beside_index h ≡ Some (word ints (number (pos i)))
    index_held = still_held h (word ints (number (pos i))) (let z : h ≡ length held + 0 = omega (arith, hh) in ap (slice_get (indexed_by held i)) z ∙ append_new held (kept ints (int (pos i))) 0)

    pub index_copied : {lo hi b : ℕ} {rest : Trace} (pc : ℕ) → at < temps_of m.program m.placement c.func → slice_get m.code.instrs pc ≡ Some (Move Silent (temp (slots_of m.program m.placement c.func) at) (temp (slots_of m.program m.placement c.func) h) 1)
        → At m lo hi b v rest (Stands m v w (during c env scope beside_index ∷ calls)) (pc + 1) → At m (suc lo) 1 b v rest (Stands m v w (during c env scope (indexed_by held i ++ ready) ∷ calls)) pc
    index_copied {lo} {hi} pc room here post =
        let to = temp (slots_of m.program m.placement c.func) at in let from = temp (slots_of m.program m.placement c.func) h in
        stepped m {lo = lo} {hi = hi} {G1 = Stands m v w (during c env scope beside_index ∷ calls)} (Move Silent to from 1) (λ u. sets u to (slice_index u.words from)) here
        (λ u g.
        let old = subst (λ z. Stands m v w (during c env scope z ∷ calls) u) (append_assoc held (kept ints (int (pos i))) ready) g in let used = g.sized.used in (
          moved_one m Silent to from pc u (omega arith) (omega (arith, below)),
          refl,
          temp_set m v w (during c env scope (indexed_by held i ++ ready)) calls u at (slice_index u.words from) ints (int (pos i)) above room tt refl
              (held_word m v w (during c env scope held) calls u held ready ints (int (pos i)) h hh (inl refl) old) g,
        )) post

    -- of a variable of a site
    pub element_follows : (site x : ℕ) (r : TypeTree) (ws : Ways) (pc lo hi b : ℕ) (t : Trace) → site_type m.program site ≡ array_of x r → i < x → InScope site scope → at + 1 + width r ≤ temps_of m.program m.placement c.func → 0 < width r → Panics ws → Standing m.code c.fn pc (element_code (slots_of m.program m.placement c.func) site x h at)
        → (IsOf r (at_path (value_of w (env site)) (i ∷ [])) → At m lo hi b v t (Stands m v w (during c env scope (beside_index ++ kept r (at_path (value_of w (env site)) (i ∷ []))) ∷ calls)) (pc + 1 + 1 + 1 + 1))
        → At m (suc (suc (suc (suc lo)))) 1 b v t (Stands m v w (during c env scope (indexed_by held i ++ ready) ∷ calls)) pc
    element_follows site x r ws pc lo hi b t is l among room some stops has post =
        let s = slots_of m.program m.placement c.func in let a = temp s (at + 1) in let c1 = during c env scope beside_index in let own = site_type m.program site in
        let first_is : part_type own 0 ≡ r = (element_leads own r x 0 is (omega arith)).1 in
        index_copied {lo = suc (suc (suc lo))} {hi = 1} {b = b} {rest = t} pc (omega arith) has.0.0
        (site_pointed m {lo = suc (suc lo)} {hi = 1} {b = b} {rest = t} c1 calls v w site (at + 1) (pc + 1) among wide (omega arith) has.1.0.0
        (knowing m (λ s0 g0.
        let home = site_home m (hold c1 (beside_index ++ address own (env site) [] 0 ∷ [])) calls v w s0 site among g0 in
        to_element m c1 calls v w ws stops env (env site) own home (at + 1) lo b wide (omega arith) own r x [] 0 h (pc + 1 + 1) is refl
        (subst (λ k. slice_get m.code.instrs (pc + 1 + 1) ≡ Some (Index a a (temp s h) x (width k))) first_is has.1.1.0.0) {owed = suc lo} {hi = 1} {b = b} {rest = t} i l index_held
        (element_loaded {lo = lo} {hi = hi} {b = b} {rest = t} r own (env site) [] (i ∷ []) c1 calls beside_index v w (at + 1) (pc + 1 + 1 + 1)
        (subst (λ k. slice_get m.code.instrs (pc + 1 + 1 + 1) ≡ Some (Load a a 0 (width k))) first_is has.1.1.1.0.0) wide room
        (λ u g. place_root m scope (site_type m.program site) (local site itself) [] (hold c1 (beside_index ++ address r (env site) (i ∷ []) 0 ∷ [])) calls v w u 0 refl (among, refl, m.solid site) tt g) (element_leads own r x i is l) post))))

  -- and where a pointer, below the index, leads to an array
  module _ (c : Frame) (calls : List Frame) (i : ℕ) (env : Env) (scope : List ℕ) (v : View) (w : World) (held ready : List Kept) (h at n x : ℕ) (r : TypeTree) (y : Value) (hh : length held ≡ h) (above : length (indexed_by (held ++ kept (pointer_to n) y) i ++ ready) ≡ at) (iy : IsOf (pointer_to n) y) (is : type_named m.program n ≡ array_of x r) (l : i < x) (room : at + 1 + width r ≤ temps_of m.program m.placement c.func) (some : 0 < width r) where
    abbrev pub under : List Kept
    under = held ++ kept (pointer_to n) y

    pub pointed_follows : (from : Position) (ws : Ways) (k : Then Value) (pc lo hi b : ℕ) → Panics ws → Standing m.code c.fn pc (pointed_code (slots_of m.program m.placement c.func) x (width r) h at)
        → ((e : Value) → IsOf r e → At m lo hi b v (k e w) (Stands m v w (during c env scope (beside_index c calls i env scope v w under ready (h + 1) at (one_more held (pointer_to n) y h 1 hh refl) above ++ kept r e) ∷ calls)) (pc + 1 + 1 + 1))
        → At m (suc (suc (suc lo))) 1 b v (Meaning.read_pointed from y i ws env k w) (Stands m v w (during c env scope (indexed_by under i ++ ready) ∷ calls)) pc
    pointed_follows from ws k pc lo hi b stops has post = by y refl iy
      where
        a : ℕ
        a = temp (slots_of m.program m.placement c.func) (at + 1)

        base_slot : ℕ
        base_slot = temp (slots_of m.program m.placement c.func) h

        index_slot : ℕ
        index_slot = temp (slots_of m.program m.placement c.func) (h + 1)

        base : List Kept
        base = beside_index c calls i env scope v w under ready (h + 1) at (one_more held (pointer_to n) y h 1 hh refl) above

        c1 : Frame
        c1 = during c env scope base

        base_wide : length base ≡ at + 1
        base_wide = wide c calls i env scope v w under ready (h + 1) at (one_more held (pointer_to n) y h 1 hh refl) above

        pointer_there : (z : Kept) → kept (pointer_to n) y ≡ z ∷ [] → slice_get base h ≡ Some z
        pointer_there z e =
            let p : h ≡ length held + 0 = omega (arith, hh) in
            still_held c calls i env scope v w under ready (h + 1) at (one_more held (pointer_to n) y h 1 hh refl) above h z
            (append_old under (kept ints (int (pos i))) z h (ap (slice_get under) p ∙ append_new held (kept (pointer_to n) y) 0 ∙ ap (λ o. slice_get o 0) e))

        index_there : slice_get base (h + 1) ≡ Some (word ints (number (pos i)))
        index_there = index_held c calls i env scope v w under ready (h + 1) at (one_more held (pointer_to n) y h 1 hh refl) above

        start : {lo1 hi1 : ℕ} {rest : Trace} → At m lo1 hi1 b v rest (Stands m v w (c1 ∷ calls)) (pc + 1) → At m (suc lo1) 1 b v rest (Stands m v w (during c env scope (indexed_by under i ++ ready) ∷ calls)) pc
        start {lo1} {hi1} {rest} go = index_copied c calls i env scope v w under ready (h + 1) at (one_more held (pointer_to n) y h 1 hh refl) above {lo = lo1} {hi = hi1} {b = b} {rest = rest} pc (omega arith) has.0.0 go

        by : (z : Value) → y ≡ z → IsOf (pointer_to n) z → At m (suc (suc (suc lo))) 1 b v (Meaning.read_pointed from z i ws env k w) (Stands m v w (during c env scope (indexed_by under i ++ ready) ∷ calls)) pc
        by nil_pointer e iz =
            start {lo1 = suc (suc lo)} {hi1 = 1}
            (halts m {lo = suc lo} (Index a base_slot index_slot x (width r)) (Panic from nil_dereference) (Panicked NilPointer) has.1.0.0 tt (λ q. ap (seen_from m v q) (stops from nil_dereference env w)) (λ u g. g.sized.heap_used)
            (λ u g. ap (λ o. reaches_by (state_of m (pc + 1) u) (address_behind o 0) (λ j. element_at (state_of m (pc + 1) u) a (cast_signed w64 (slice_index u.words index_slot)) x (element_address j (cast_signed w64 (slice_index u.words index_slot)) x (width r))))
            (kept_word m.program m.placement m.max m.leading v w c1 calls u h (word (pointer_to n) no_address) (pointer_there (word (pointer_to n) no_address) (ap (kept (pointer_to n)) e)) g)))
        by (pointer z path) e iz =
            let front = type_named m.program n in let led = element_leads front r x i is l in
            let there = pointer_there (word (pointer_to n) (part_address z path)) (ap (kept (pointer_to n)) e) in
            read_of m _ _ _
            (start {lo1 = suc (suc lo)} {hi1 = 1}
            (stepped m {lo = suc lo} {hi = 1} {G1 = Stands m v w (hold c1 (base ++ address r z (path ++ i ∷ []) 0 ∷ []) ∷ calls)} (Index a base_slot index_slot x (width r)) (λ u. sets u a (slice_index u.words base_slot + i * width r)) has.1.0.0
            (λ u g.
            let o = slice_index u.words base_slot in let p = pointed_by m c1 calls v w u n z path h there g in
            let to = part_reached v.homes u.hi w front r z path (i ∷ []) 0 o led p.reaches in let off = element_offset front r x i is l in
            let f = p.reaches.at (on_heap p.high) p.home in let ends = within p.reaches.cell.type front path p.reaches.leads in
            let top = address_small m v w (c1 ∷ calls) u g z p.reaches.cell (on_heap p.high) (offset p.reaches.cell.type path) p.reaches.there p.home (omega arith) in
            let f1 = to.at (on_heap p.high) p.home in let ends1 = within to.cell.type r (path ++ i ∷ []) to.leads in
            let top1 = address_small m v w (c1 ∷ calls) u g z to.cell (on_heap p.high) (offset to.cell.type (path ++ i ∷ [])) to.there p.home (omega arith) in
            let index = kept_word m.program m.placement m.max m.leading v w c1 calls u (h + 1) (word ints (number (pos i))) index_there g in
            let read = cast_signed w64 (slice_index u.words index_slot) in (
              reached_by (state_of m (pc + 1) u) o 0 o (λ j. element_at (state_of m (pc + 1) u) a read x (element_address j read x (width r))) p.reaches.some (omega arith) (omega (arith, f))
                  ∙ ap (λ j. element_at (state_of m (pc + 1) u) a j x (element_address o j x (width r))) index.0
                  ∙ ap (λ t. element_at (state_of m (pc + 1) u) a (pos i) x (if t then Some ((o + i * width r) % 2 ^ 64) else None)) (lt-ltb i x l)
                  ∙ ap (λ j. puts_word (state_of m (pc + 1) u) a j) (mod-eq_of_lt {n = o + i * width r} {m = 2 ^ 64} (omega (arith, f1, off))),
              refl,
              good_set m.program m.placement m.max m.leading v w c1 calls u (at + 1) (o + i * width r) (address r z (path ++ i ∷ []) 0) base_wide (omega arith) (subst (λ j. Reaches v.homes u.hi w r z (path ++ i ∷ []) 0 (o + j)) off to) g,
            ))
            (element_loaded {lo = lo} {hi = hi} {b = b} r front z path (i ∷ []) c1 calls base v w (at + 1) (pc + 1 + 1) has.1.1.0.0 base_wide room
            (λ u g.
            let p = pointed_by m (hold c1 (base ++ address r z (path ++ i ∷ []) 0 ∷ [])) calls v w u n z path h (append_old base (address r z (path ++ i ∷ []) 0 ∷ []) (word (pointer_to n) (part_address z path)) h there) g in
            record { own = p.reaches.cell.type; home = record { cell = p.reaches.cell; there = p.reaches.there; kind = refl; place = on_heap p.high; home = p.home }; leads = p.reaches.leads })
            led (post (at_path (value_of w z) (path ++ i ∷ []))))))
        by z e iz = absurd iz
