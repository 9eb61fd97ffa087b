-- Places that have been reached: the values that they have, those that they get, and pointers to them.
use Rattle.std.proofs.Common.{◌≡◌, inl, ℕ, zero, suc, ◌+◌, ◌-◌, ◌<◌, ◌≤◌, Bool, true, false, List, [], ◌∷◌, ◌++◌, length, Some, refl, sym, ap, ◌∙◌, subst, arith}
use Rattle.std.specs.Prelude.{slice_get, slice_index, if◌then◌else◌}
use Rattle.typed_syntax.specs.Types.{TypeTree, pointer_to, width}
use Rattle.typed_syntax.specs.Value.{Value, pointer, IsOf}
use Rattle.typed_syntax.specs.Paths.{at_path, Leads, offset}
use Rattle.typed_syntax.specs.Words.{part_address, contents}
use Rattle.value_laws.proofs.Parts.{at_is, within}
use Rattle.typed_syntax.specs.Syntax.{Pl, local, global, indirect, slice_element, path_of, global_type, site_type, type_named}
use Rattle.typed_syntax.specs.Form.{IsTaken}
use Rattle.frames.specs.Frames.{steps_far, far, temps_of}
use Rattle.meaning.specs.Trace.{World, Cell, Trace}
use Rattle.meaning.specs.Store.{no_cell, value_of, written}
use Rattle.meaning.specs.Operators.{slice_variable, slice_path, slice_first, slice_room}
use Rattle.meaning.specs.Meaning.{Env}
use Rattle.simulation.specs.Steps.{Goes}
use Rattle.isa.specs.declared.instr.StoreEvent.TheVariants as Stored
use Rattle.machine.specs.Machine.{words_at, puts as puts_word}
use Rattle.program_code.specs.Code.{Access, in_slots, by_address, temp, cell_slot, site_slot, slots_of, near_offset, near_words, access, access_by, fetch, land, point, fetch_code, land_code, point_code}
use Rattle.state_relation.specs.Leaves.{leaves}
use Rattle.state_relation.specs.Views.{Place, on_stack, on_heap, View}
use Rattle.state_relation.specs.Relation.{Memory, sets, puts, part_place, set_place, Kept, word, address, Frame, hold, address_in, word_at, depth, words_before, MayLead, Stand, StandsKept, Reaches, NamedAt}
use Rattle.state_relation.proofs.Lists.{some_same, get_is}
use Rattle.state_relation.proofs.Distances.{word_slot}
use Rattle.state_relation.proofs.Relation.{site_inside, cell_inside}
use Rattle.state_relation.proofs.Addresses.{part_lacks}
use Rattle.state_relation.proofs.Boxes.{box_reaches}
use Rattle.state_relation.proofs.Changes.{kept_word, good_set, home_value}
use Rattle.state_relation.proofs.Births.{home_write}
use Rattle.state_relation.proofs.Built.{Built}
use Rattle.state_relation.proofs.Rules.{state_of, does_at, range_of, At, Stands, knowing, stepped}
use Rattle.state_relation.proofs.Values.{kept, value_put, fewer, held_stand}
use Rattle.state_relation.proofs.Touches.{reached_by, address_small, loaded, stored}
use Rattle.simulated_code.proofs.Places.{pointer_variable, pointer_path, variable_of, root_of, PointerHeld, own_type, Located, lacks_of, near_is, words_are, LeadsTo, Home, pointed_by, sliced_by, place_root, part_rooted}
use Rattle.simulated_code.proofs.Settled.{held_again}

module _ (m : Built) where
  -- ---- what is behind an access

  -- slots are those of a part of a variable, so far behind the first
  pub record InSlots (v : View) (w : World) (deep slot : ℕ) (t : TypeTree) (x : ℕ) (path : List ℕ) (off : ℕ) : Type 0 where
    pub cell : Cell
    pub there : slice_get w.store x ≡ Some cell
    pub leads : Leads cell.type path t
    pub begins : off ≡ offset cell.type path
    pub home : v.homes x ≡ Some (on_stack (deep - slot))
    pub inside : slot + width cell.type ≤ deep

  abbrev pub Opens : View → World → List Frame → Memory → Access → TypeTree → (x : ℕ) → (path : List ℕ) → (off : ℕ) → Type 0
  Opens v w calls s (in_slots slot) t x path off = InSlots v w (depth m.program m.placement calls) slot t x path off
  Opens v w calls s (by_address slot) t x path off = Reaches v.homes s.hi w t x path off (slice_index s.words slot)

  -- it is read, gets words, and has its address
  module _ (v : View) (w : World) (calls : List Frame) (s : Memory) (g : Stands m v w calls s) (x : ℕ) (own : TypeTree) (k : Home m v w x own) (t : TypeTree) (path : List ℕ) (off : ℕ) where
    slots_from : (low : ℕ) (o : InSlots v w (depth m.program m.placement calls) low t x path off) → low + off ≡ length s.words - (depth m.program m.placement calls - low - offset o.cell.type path)
    slots_from low o = let ends = within o.cell.type t path o.leads in let used = g.sized.used in omega (arith, o.begins, o.inside)

    slots_at : (low : ℕ) (o : InSlots v w (depth m.program m.placement calls) low t x path off) → on_stack (depth m.program m.placement calls - low) ≡ k.place
    slots_at low o = some_same (sym o.home ∙ k.home)

    kind_is : (y : Cell) → slice_get w.store x ≡ Some y → y.type ≡ own
    kind_is y there = ap (λ (z : Cell). z.type) (some_same (sym there ∙ k.there)) ∙ k.kind

    pub fetches : (a : Access) → Opens v w calls s a t x path off → (pc to : ℕ) → does_at m (fetch a off (width t) to) pc s ≡ Goes [] (state_of m (pc + 1) (puts s to (part_place s k.place (offset own path) (width t))))
    fetches (in_slots slot) o pc to =
        ap (λ n. Goes [] (state_of m (pc + 1) (puts s to (words_at s.words n (width t))))) (slots_from slot o)
        ∙ ap (λ (r : Place). Goes [] (state_of m (pc + 1) (puts s to (part_place s r (offset o.cell.type path) (width t))))) (slots_at slot o)
        ∙ ap (λ y. Goes [] (state_of m (pc + 1) (puts s to (part_place s k.place (offset y path) (width t))))) (kind_is o.cell o.there)
    fetches (by_address slot) o pc to =
        loaded m v w calls s g x t path off (slice_index s.words slot) k.place k.home o pc to slot refl ∙ ap (λ y. Goes [] (state_of m (pc + 1) (puts s to (part_place s k.place (offset y path) (width t))))) (kind_is o.cell o.there)

    pub lands : (a : Access) → Opens v w calls s a t x path off → (pc from : ℕ) → does_at m (land a off (width t) from) pc s ≡ Goes [] (state_of m (pc + 1) (set_place s k.place (offset own path) (words_at s.words from (width t))))
    lands (in_slots slot) o pc from =
        ap (λ n. Goes [] (state_of m (pc + 1) (puts s n (words_at s.words from (width t))))) (slots_from slot o)
        ∙ ap (λ (r : Place). Goes [] (state_of m (pc + 1) (set_place s r (offset o.cell.type path) (words_at s.words from (width t))))) (slots_at slot o)
        ∙ ap (λ y. Goes [] (state_of m (pc + 1) (set_place s k.place (offset y path) (words_at s.words from (width t))))) (kind_is o.cell o.there)
    lands (by_address slot) o pc from =
        stored m v w calls s g x t path off (slice_index s.words slot) k.place k.home o Stored.Write pc slot from refl ∙ ap (λ y. Goes [] (state_of m (pc + 1) (set_place s k.place (offset y path) (words_at s.words from (width t))))) (kind_is o.cell o.there)

    points : (slot : ℕ) → Opens v w calls s (by_address slot) t x path off → (pc to : ℕ) → does_at m (point (by_address slot) off to) pc s ≡ Goes [] (state_of m (pc + 1) (sets s to (address_in s.hi k.place + offset own path)))
    points slot o pc to =
        let ends = within o.cell.type t path o.leads in
        reached_by (state_of m pc s) (slice_index s.words slot) off (address_in s.hi k.place + offset o.cell.type path) (λ a. puts_word (state_of m pc s) to a) o.some (o.at k.place k.home)
        (address_small m v w calls s g x o.cell k.place (offset o.cell.type path) o.there k.home (omega arith))
        ∙ ap (λ y. Goes [] (state_of m (pc + 1) (sets s to (address_in s.hi k.place + offset y path)))) (kind_is o.cell o.there)

  -- what a place is reached by is held: its pointer, and the address where there is one
  pub record Guided (held : List Kept) (env : Env) (q : Pl) (vs : List Value) (t : TypeTree) (way : List ℕ) (first at : ℕ) : Type 0 where
    pub led : PointerHeld q vs held first
    pub there : (n : ℕ) → far q ≡ suc n → slice_get held at ≡ Some (address t (variable_of env q vs) (root_of q vs ++ way) (lacks_of m q))

  pub opened : (q : Pl) (t : TypeTree) (vs : List Value) (way : List ℕ) (c : Frame) (calls : List Frame) (v : View) (w : World) (s : Memory) (first at : ℕ) → Located m c.scope t q → LeadsTo m t q way → Guided c.held c.env q vs t way first at → Stands m v w (c ∷ calls) s
      → Opens v w (c ∷ calls) s (access (slots_of m.program m.placement c.func) q first at) t (variable_of c.env q vs) (root_of q vs ++ way) (lacks_of m q)
  opened (local site steps) t vs way c calls v w s first at fit leads guided g = by (steps_far steps) refl
    where
      own : TypeTree
      own = site_type m.program site

      near : steps_far steps ≡ 0 → (boxed : Bool) → m.placement.on_heap site ≡ boxed
          → Opens v w (c ∷ calls) s (if boxed then by_address (cell_slot (slots_of m.program m.placement c.func) site) else in_slots (site_slot (slots_of m.program m.placement c.func) site)) t (c.env site) way (offset own (path_of steps))
      near z true e =
          let cell = cell_slot (slots_of m.program m.placement c.func) site in let d = depth m.program m.placement (c ∷ calls) - cell in
          let among = g.homed.owned.0.among site fit.0 in let inside = cell_inside m.program m.placement c.func site e among.2 among.0 among.1 in
          let same : word_at s.words d ≡ slice_index s.words cell = word_slot s.words (depth m.program m.placement (c ∷ calls)) cell g.sized.used (omega (arith, inside.1)) in
          let none : 0 + offset own way ≡ offset own (path_of steps) = (let q = ap (offset own) (leads.1 z) in omega (arith, q)) in
          subst (λ n. Reaches v.homes s.hi w t (c.env site) way n (slice_index s.words cell)) none
          (subst (λ n. Reaches v.homes s.hi w t (c.env site) way (0 + offset own way) n) same
          (part_lacks v.homes s.hi w own t (c.env site) [] way 0 (word_at s.words d) leads.0 (box_reaches m.program m.placement m.max m.leading v w (c ∷ calls) s (c.env site) d own (inl (site, fit.0, refl, refl, refl, e)) g)))
      near z false e =
          let slot = site_slot (slots_of m.program m.placement c.func) site in let d = depth m.program m.placement (c ∷ calls) - slot in
          let among = g.homed.owned.0.among site fit.0 in let inside = site_inside m.program m.placement c.func site e among.0 among.1 in
          let name : NamedAt m.program m.placement (c ∷ calls) (c.env site) d false own = inl (site, fit.0, refl, refl, refl, e) in
          let r = g.homed.named (c.env site) d false own name in let same = ap width r.2 in record {
            cell = r.0;
            there = r.1;
            leads = subst (λ o. Leads o way t) (sym r.2) leads.0;
            begins = ap (offset own) (sym (leads.1 z)) ∙ ap (λ o. offset o way) (sym r.2);
            home = g.homed.slots (c.env site) d own name;
            inside = omega (arith, inside.1, same);
          }

      by : (distance : ℕ) → steps_far steps ≡ distance → Opens v w (c ∷ calls) s (access_by (slots_of m.program m.placement c.func) (local site steps) distance first at) t (c.env site) way (offset own (path_of steps))
      by zero z = near z (m.placement.on_heap site) refl
      by (suc n) z = kept_word m.program m.placement m.max m.leading v w c calls s at (address t (c.env site) way (offset own (path_of steps))) (guided.there n z) g
  opened (global g0 steps) t vs way c calls v w s first at fit leads guided g = kept_word m.program m.placement m.max m.leading v w c calls s at (address t g0 way (offset (global_type m.program g0) (path_of steps))) (guided.there 0 refl) g
  opened (indirect at0 e n steps) t [] way c calls v w s first at fit leads guided g = absurd guided.led
  opened (indirect at0 e n steps) t (y ∷ vs) way c calls v w s first at fit leads guided g = by (steps_far steps) refl
    where
      own : TypeTree
      own = type_named m.program n

      by : (distance : ℕ) → steps_far steps ≡ distance → Opens v w (c ∷ calls) s (access_by (slots_of m.program m.placement c.func) (indirect at0 e n steps) distance first at) t (pointer_variable y) (pointer_path y ++ way) (offset own (path_of steps))
      by zero z =
          let u = slice_index s.words (temp (slots_of m.program m.placement c.func) first) in let p = pointed_by m c calls v w s n (pointer_variable y) (pointer_path y) first guided.led g in
          let none : 0 + offset own way ≡ offset own (path_of steps) = (let q = ap (offset own) (leads.1 z) in omega (arith, q)) in
          subst (λ n. Reaches v.homes s.hi w t (pointer_variable y) (pointer_path y ++ way) n u) none (part_lacks v.homes s.hi w own t (pointer_variable y) (pointer_path y) way 0 u leads.0 p.reaches)
      by (suc d) z = kept_word m.program m.placement m.max m.leading v w c calls s at (address t (pointer_variable y) (pointer_path y ++ way) (offset own (path_of steps))) (guided.there d z) g
  opened (slice_element at0 e i n steps) t vs way c calls v w s first at fit leads guided g =
      kept_word m.program m.placement m.max m.leading v w c calls s at (address t (variable_of c.env (slice_element at0 e i n steps) vs) (root_of (slice_element at0 e i n steps) vs ++ way) (offset (type_named m.program n) (path_of steps))) (guided.there 0 refl) g

  -- ---- what a place has, and what it gets

  -- what the variable of a home has
  value_is : (x : ℕ) (own : TypeTree) (v : View) (w : World) (h : Home m v w x own) → value_of w x ≡ h.cell.value
  value_is x own v w h = ap (λ (k : Cell). k.value) (get_is w.store x h.cell no_cell h.there)

  -- the variable of a place is of its type
  pub place_typed : (x : ℕ) (own : TypeTree) (v : View) (w : World) (c : Frame) (calls : List Frame) (s : Memory) → Stands m v w (c ∷ calls) s → (h : Home m v w x own) → IsOf own (value_of w x)
  place_typed x own v w c calls s g h = subst (λ y. IsOf own y) (sym (value_is x own v w h)) (subst (λ o. IsOf o h.cell.value) h.kind (g.homed.typed x h.cell h.there))

  -- the words of a part of a variable go to temps from h on, after what stays
  pub part_fetched : (t : TypeTree) (x : ℕ) (path : List ℕ) (c : Frame) (calls : List Frame) (base gone : List Kept) (v : View) (w : World) (s : Memory) (h pc : ℕ) (a : Access) (off : ℕ) (own : TypeTree) (k : Home m v w x own) → Leads own path t → length base ≡ h → h + width t ≤ temps_of m.program m.placement c.func
      → Stands m v w (hold c (base ++ gone) ∷ calls) s → Opens v w (hold c (base ++ gone) ∷ calls) s a t x path off
      → (does_at m (fetch a off (width t) (temp (slots_of m.program m.placement c.func) h)) pc s ≡ Goes [] (state_of m (pc + 1) (puts s (temp (slots_of m.program m.placement c.func) h) (part_place s k.place (offset own path) (width t)))))
      × (range_of m s ≡ range_of m (puts s (temp (slots_of m.program m.placement c.func) h) (part_place s k.place (offset own path) (width t))))
      × Stands m v w (hold c (base ++ kept t (at_path (value_of w x) path)) ∷ calls) (puts s (temp (slots_of m.program m.placement c.func) h) (part_place s k.place (offset own path) (width t)))
  part_fetched t x path c calls base gone v w s h pc a off own k leads hh room g opens =
      let st = home_value m.program m.placement m.max m.leading v w (hold c (base ++ gone) ∷ calls) s x k.cell k.place path t k.there k.home (subst (λ o. Leads o path t) (sym k.kind) leads) g in (
        fetches v w (hold c (base ++ gone) ∷ calls) s g x own k t path off a opens pc (temp (slots_of m.program m.placement c.func) h),
        refl,
        value_put m v w (hold c base) calls s h t (at_path (value_of w x) path) (part_place s k.place (offset own path) (width t)) hh room
            (subst (λ o. Stand m.program m.leading v.homes s.hi w (leaves t) (contents (at_path (value_of w x) path)) (part_place s k.place (offset o path) (width t))) k.kind
            (subst (λ y. Stand m.program m.leading v.homes s.hi w (leaves t) (contents (at_path y path)) (part_place s k.place (offset k.cell.type path) (width t))) (sym (value_is x own v w k)) st))
            (fewer m v w c calls s base gone g),
      )

  -- the value of a place
  pub fetched : (q : Pl) (t : TypeTree) (vs : List Value) (way : List ℕ) (c : Frame) (calls : List Frame) (base gone : List Kept) (v : View) (w : World) (first at h pc lo hi b : ℕ) (rest : Trace) → slice_get m.code.instrs pc ≡ Some (fetch_code (slots_of m.program m.placement c.func) q first at h) → Located m c.scope t q → LeadsTo m t q way
      → Guided (base ++ gone) c.env q vs t way first at → length base ≡ h → h + width t ≤ temps_of m.program m.placement c.func
      → (IsOf t (at_path (value_of w (variable_of c.env q vs)) (root_of q vs ++ way)) → At m lo hi b v rest (Stands m v w (hold c (base ++ kept t (at_path (value_of w (variable_of c.env q vs)) (root_of q vs ++ way))) ∷ calls)) (pc + 1))
      → At m (suc lo) 1 b v rest (Stands m v w (hold c (base ++ gone) ∷ calls)) pc
  fetched q t vs way c calls base gone v w first at h pc lo hi b rest here fit leads guided hh room post =
      knowing m (λ s0 g0.
      let s = slots_of m.program m.placement c.func in let c0 = hold c (base ++ gone) in let x = variable_of c.env q vs in let path = root_of q vs ++ way in let a = access s q first at in
      let r = place_root m c.scope t q vs c0 calls v w s0 first refl fit guided.led g0 in
      let there = part_rooted m v w x (root_of q vs) way (own_type m q) t r leads.0 in
      let typed = at_is r.own t (value_of w x) path (place_typed x r.own v w c0 calls s0 g0 r.home) there in
      let same : fetch_code s q first at h ≡ fetch a (lacks_of m q) (width t) (temp s h) = ap (λ n. fetch a n (near_words s q) (temp s h)) (near_is m c.func q) ∙ ap (λ n. fetch a (lacks_of m q) n (temp s h)) (words_are m c.func c.scope t q fit) in
      stepped m {lo = lo} {hi = hi} (fetch a (lacks_of m q) (width t) (temp s h)) (λ (u : Memory). puts u (temp s h) (part_place u r.home.place (offset r.own path) (width t))) (here ∙ ap Some same)
      (λ u g. part_fetched t x path c calls base gone v w u h pc a (lacks_of m q) r.own r.home there hh room g (opened q t vs way c0 calls v w u first at fit leads guided g)) (post typed))

  -- a place gets the value in temps from h on
  pub landed : (q : Pl) (t : TypeTree) (vs : List Value) (way : List ℕ) (x : Value) (c : Frame) (calls : List Frame) (gone more : List Kept) (v : View) (w : World) (first at h pc lo hi b : ℕ) (rest : Trace) → slice_get m.code.instrs pc ≡ Some (land_code (slots_of m.program m.placement c.func) q first at h) → Located m c.scope t q → LeadsTo m t q way
      → Guided c.held c.env q vs t way first at → c.held ≡ gone ++ (kept t x ++ more) → length gone ≡ h → IsOf t x
      → At m lo hi b v rest (Stands m v (written w (variable_of c.env q vs) (root_of q vs ++ way) x) (c ∷ calls)) (pc + 1)
      → At m (suc lo) 1 b v rest (Stands m v w (c ∷ calls)) pc
  landed q t vs way x c calls gone more v w first at h pc lo hi b rest here fit leads guided e hg typed post =
      knowing m (λ s0 g0.
      let s = slots_of m.program m.placement c.func in let a = access s q first at in
      let r = place_root m c.scope t q vs c calls v w s0 first refl fit guided.led g0 in
      let same : land_code s q first at h ≡ land a (lacks_of m q) (width t) (temp s h) = ap (λ n. land a n (near_words s q) (temp s h)) (near_is m c.func q) ∙ ap (λ n. land a (lacks_of m q) n (temp s h)) (words_are m c.func c.scope t q fit) in
      stepped m {lo = lo} {hi = hi} (land a (lacks_of m q) (width t) (temp s h)) (λ (u : Memory). set_place u r.home.place (offset r.own path) (words_at u.words (temp s h) (width t))) (here ∙ ap Some same)
      (λ u g. (
        lands v w (c ∷ calls) u g y r.own r.home t path (lacks_of m q) a (opened q t vs way c calls v w u first at fit leads guided g) pc (temp s h),
        same_range (offset r.own path) r.home.place u,
        written_there r.own r.home (part_rooted m v w y (root_of q vs) way (own_type m q) t r leads.0) u g,
      )) post)
    where
      y : ℕ
      y = variable_of c.env q vs

      path : List ℕ
      path = root_of q vs ++ way

      same_range : (off : ℕ) (r : Place) (s : Memory) → range_of m s ≡ range_of m (set_place s r off (words_at s.words (temp (slots_of m.program m.placement c.func) h) (width t)))
      same_range off (on_stack d) s = refl
      same_range off (on_heap i) s = refl

      written_there : (own : TypeTree) (k : Home m v w y own) → Leads own path t → (s : Memory) → Stands m v w (c ∷ calls) s
          → Stands m v (written w y path x) (c ∷ calls) (set_place s k.place (offset own path) (words_at s.words (temp (slots_of m.program m.placement c.func) h) (width t)))
      written_there own k there s g =
          let held = held_again m c calls v w (gone ++ (kept t x ++ more)) s e g in
          let xs = words_at s.words (temp (slots_of m.program m.placement c.func) h) (width t) in
          let st = held_stand m v w c calls s gone more t x h (width t) hg refl held in
          subst (λ o. Stands m v (written w y path x) (c ∷ calls) (set_place s k.place (offset o path) xs)) k.kind
          (home_write m.program m.placement m.max m.leading v w (c ∷ calls) s y k.cell path t x xs k.there (subst (λ o. Leads o path t) (sym k.kind) there) typed st g k.place k.home)

  -- ---- the address of a place, as a pointer to it

  -- such a place lives on the heap, and is reached by an address
  on_heap_home : (q : Pl) (t : TypeTree) (vs : List Value) (c : Frame) (calls : List Frame) (v : View) (w : World) (s : Memory) (first : ℕ) → Located m c.scope t q → IsTaken m.program q → PointerHeld q vs c.held first → Stands m v w (c ∷ calls) s → (high : ℕ) × (v.homes (variable_of c.env q vs) ≡ Some (on_heap high))
  on_heap_home (local site steps) t vs c calls v w s first fit taken led g =
      let d = depth m.program m.placement (c ∷ calls) - cell_slot (slots_of m.program m.placement c.func) site in
      g.homed.boxes (c.env site) d (site_type m.program site) (inl (site, fit.0, refl, refl, refl, m.placed.taken site taken))
  on_heap_home (global q steps) t vs c calls v w s first fit taken led g = let b = g.homed.begun in (words_before m.program q, (g.homed.globals q fit.0 (omega arith)).3)
  on_heap_home (indirect at e n steps) t [] c calls v w s first fit taken led g = absurd led
  on_heap_home (indirect at e n steps) t (y ∷ vs) c calls v w s first fit taken led g = let p = pointed_by m c calls v w s n (pointer_variable y) (pointer_path y) first led g in (p.high, p.home)
  on_heap_home (slice_element at e i n steps) t [] c calls v w s first fit taken led g = absurd led
  on_heap_home (slice_element at e i n steps) t (y ∷ []) c calls v w s first fit taken led g = absurd led
  on_heap_home (slice_element at e i n steps) t (y ∷ u ∷ vs) c calls v w s first fit taken led g = let a = sliced_by m c calls v w s n (slice_variable y) (slice_path y) (slice_first y) (slice_room y) first led.1 g in (a.at, a.home)

  by_an_address : (q : Pl) (t : TypeTree) (c : Frame) (first at : ℕ) → Located m c.scope t q → IsTaken m.program q → (slot : ℕ) × (access (slots_of m.program m.placement c.func) q first at ≡ by_address slot)
  by_an_address (local site steps) t c first at fit taken = by (steps_far steps)
    where
      by : (distance : ℕ) → (slot : ℕ) × (access_by (slots_of m.program m.placement c.func) (local site steps) distance first at ≡ by_address slot)
      by zero =
          (cell_slot (slots_of m.program m.placement c.func) site, ap (λ k. if k then by_address (cell_slot (slots_of m.program m.placement c.func) site) else in_slots (site_slot (slots_of m.program m.placement c.func) site)) (m.placed.taken site taken))
      by (suc n) = (temp (slots_of m.program m.placement c.func) at, refl)
  by_an_address (global g steps) t c first at fit taken = (temp (slots_of m.program m.placement c.func) at, refl)
  by_an_address (indirect at0 e n steps) t c first at fit taken = by (steps_far steps)
    where
      by : (distance : ℕ) → (slot : ℕ) × (access_by (slots_of m.program m.placement c.func) (indirect at0 e n steps) distance first at ≡ by_address slot)
      by zero = (temp (slots_of m.program m.placement c.func) first, refl)
      by (suc d) = (temp (slots_of m.program m.placement c.func) at, refl)
  by_an_address (slice_element at0 e i n steps) t c first at fit taken = (temp (slots_of m.program m.placement c.func) at, refl)

  -- it goes to a temp, which keeps something that it stands for
  pub pointed_as : (q : Pl) (t : TypeTree) (vs : List Value) (way : List ℕ) (c : Frame) (calls : List Frame) (base gone : List Kept) (v : View) (w : World) (first at h pc lo hi b : ℕ) (rest : Trace) (kept_as : Kept) → slice_get m.code.instrs pc ≡ Some (point_code (slots_of m.program m.placement c.func) q first at h) → Located m c.scope t q → IsTaken m.program q → LeadsTo m t q way
      → Guided (base ++ gone) c.env q vs t way first at → length base ≡ h → h < temps_of m.program m.placement c.func
      → ((s : Memory) (u : ℕ) → MayLead m.leading v.homes (variable_of c.env q vs) → Reaches v.homes s.hi w t (variable_of c.env q vs) (root_of q vs ++ way) 0 u → StandsKept m.program m.leading v.homes s.hi w kept_as u)
      → At m lo hi b v rest (Stands m v w (hold c (base ++ kept_as ∷ []) ∷ calls)) (pc + 1)
      → At m (suc lo) 1 b v rest (Stands m v w (hold c (base ++ gone) ∷ calls)) pc
  pointed_as q t vs way c calls base gone v w first at h pc lo hi b rest kept_as here fit taken leads guided hh room stands post =
      knowing m (λ s0 g0.
      let s = slots_of m.program m.placement c.func in let c0 = hold c (base ++ gone) in let x = variable_of c.env q vs in let path = root_of q vs ++ way in
      let high = on_heap_home q t vs c0 calls v w s0 first fit taken guided.led g0 in
      let r = place_root m c.scope t q vs c0 calls v w s0 first refl fit guided.led g0 in
      let k : Home m v w x r.own = record { cell = r.home.cell; there = r.home.there; kind = r.home.kind; place = on_heap high.0; home = high.1 } in
      let there = part_rooted m v w x (root_of q vs) way (own_type m q) t r leads.0 in
      let a = by_an_address q t c first at fit taken in
      let same : point_code s q first at h ≡ point (by_address a.0) (lacks_of m q) (temp s h) = ap (λ o. point o (near_offset s q) (temp s h)) a.1 ∙ ap (λ o. point (by_address a.0) o (temp s h)) (near_is m c.func q) in
      stepped m {lo = lo} {hi = hi} (point (by_address a.0) (lacks_of m q) (temp s h)) (λ (u : Memory). sets u (temp s h) (address_in u.hi k.place + offset r.own path)) (here ∙ ap Some same)
      (λ u g.
      let opens = subst (λ o. Opens v w (c0 ∷ calls) u o t x path (lacks_of m q)) a.1 (opened q t vs way c0 calls v w u first at fit leads guided g) in
      let off = ap (λ o. offset o path) k.kind in
      let word_there : Reaches v.homes u.hi w t x path 0 (address_in u.hi k.place + offset r.own path) = record {
        cell = k.cell;
        there = k.there;
        leads = subst (λ o. Leads o path t) (sym k.kind) there;
        less = omega arith;
        some = omega arith;
        at = λ p hp. let at_home : on_heap high.0 ≡ p = some_same (sym high.1 ∙ hp) in subst (λ o. address_in u.hi (on_heap high.0) + offset r.own path + 0 ≡ address_in u.hi o + offset k.cell.type path) at_home (omega (arith, off));
      } in (
        points v w (c0 ∷ calls) u g x r.own k t path (lacks_of m q) a.0 opens pc (temp s h),
        refl,
        good_set m.program m.placement m.max m.leading v w (hold c base) calls u h (address_in u.hi k.place + offset r.own path) kept_as hh room
            (stands u (address_in u.hi k.place + offset r.own path) (subst (λ l. MayLead l v.homes x) (sym m.apart) (high.0, high.1)) word_there) (fewer m v w c calls u base gone g),
      )) post)

  -- as a pointer
  pub pointed_at : (q : Pl) (n : ℕ) (vs : List Value) (way : List ℕ) (c : Frame) (calls : List Frame) (base gone : List Kept) (v : View) (w : World) (first at h pc lo hi b : ℕ) (rest : Trace) → slice_get m.code.instrs pc ≡ Some (point_code (slots_of m.program m.placement c.func) q first at h) → Located m c.scope (type_named m.program n) q → IsTaken m.program q → LeadsTo m (type_named m.program n) q way
      → Guided (base ++ gone) c.env q vs (type_named m.program n) way first at → length base ≡ h → h < temps_of m.program m.placement c.func
      → At m lo hi b v rest (Stands m v w (hold c (base ++ kept (pointer_to n) (pointer (variable_of c.env q vs) (root_of q vs ++ way))) ∷ calls)) (pc + 1)
      → At m (suc lo) 1 b v rest (Stands m v w (hold c (base ++ gone) ∷ calls)) pc
  pointed_at q n vs way c calls base gone v w first at h pc lo hi b rest here fit taken leads guided hh room post =
      pointed_as q (type_named m.program n) vs way c calls base gone v w first at h pc lo hi b rest (word (pointer_to n) (part_address (variable_of c.env q vs) (root_of q vs ++ way))) here fit taken leads guided hh room (λ s u may r. (may, fit.2, r)) post
