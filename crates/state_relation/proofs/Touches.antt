-- A touch through an address comes to the home of the variable that it leads to.
use Rattle.std.proofs.Common.{◌≡◌, ℕ, ◌+◌, ◌-◌, ◌%◌, ◌^◌, ◌<◌, ◌≤◌, true, false, List, [], length, Some, None, ap, ◌∙◌, inl, inr, arith, mod-eq_of_lt, refl}
use Rattle.std.specs.Prelude.{slice_get, slice_index, nat_le, ◌==◌, ◌&&◌, if◌then◌else◌}
use Rattle.std.proofs.lemmas.Bool.{le-leb}
use Rattle.std.proofs.lemmas.Bool.Decides.{eqb_tells, leb_tells}
use Rattle.typed_syntax.specs.Types.{TypeTree, width}
use Rattle.typed_syntax.specs.Paths.{offset}
use Rattle.value_laws.proofs.Parts.{within}
use Rattle.meaning.specs.Trace.{World, Cell}
use Rattle.simulation.specs.Steps.{Goes}
use Rattle.heap_bump.specs.Words.{first_address}
use Rattle.isa.specs.declared.instr.StoreEvent.{StoreEvent}
use Rattle.isa.specs.declared.instr.Instr.TheVariants.{Load, Store}
use Rattle.machine.specs.declared.memory.Spot.{Spot}
use Rattle.machine.specs.declared.memory.Spot.TheVariants.{InHeap, InStack, Nowhere}
use Rattle.machine.specs.Machine.{Does, words_at, address_of, address_behind, lie_within, spot_of, reaches_by, loads_from, stores_at, State}
use Rattle.state_relation.specs.Views.{Place, on_stack, on_heap, View}
use Rattle.state_relation.specs.Relation.{Memory, puts, part_place, set_place, Frame, address_in, Reaches, Good}
use Rattle.state_relation.proofs.Relation.{site_within}
use Rattle.state_relation.proofs.Built.{Built}
use Rattle.state_relation.proofs.Rules.{state_of, does_at}

-- ---- addresses

pub not_none : (a : ℕ) → 0 < a → (a == 0) ≡ false
not_none a some = elim (eqb_tells a 0) [ inl p ↦ (let none = p.1 in absurd (omega arith)) | inr p ↦ p.0 ]

-- something lies an offset above a word
pub reached_by : (s : State) (u off at : ℕ) (does : ℕ → Does) → 0 < u → u + off ≡ at → at < 2 ^ 64 → reaches_by s (address_behind u off) does ≡ does at
reached_by s u off at does some is small =
    ap (λ b. reaches_by s (if b then None else Some ((u + off) % 2 ^ 64)) does) (not_none u some)
    ∙ ap (λ n. does (n % 2 ^ 64)) is ∙ ap does (mod-eq_of_lt {n = at} {m = 2 ^ 64} small)

not_le : (a b : ℕ) → b < a → nat_le a b ≡ false
not_le a b l = elim (leb_tells a b) [ inl p ↦ absurd (let le = p.1 in omega arith) | inr p ↦ p.0 ]

within_is : (low high at n : ℕ) → low ≤ at → at + n ≤ high → lie_within low high at n ≡ true
within_is low high at n a b = ap (λ x. x && nat_le (at + n) high) (le-leb low at a) ∙ le-leb (at + n) high b

-- where words lie: on the stack, and in the heap
pub spot_stack : (hi : ℕ) (heap stack : List ℕ) (d off n at : ℕ) → at ≡ hi - d + off → off + n ≤ d → d ≤ length stack → 2 ^ 40 + length stack ≤ hi → length heap ≤ 2 ^ 32 → spot_of hi heap stack at n ≡ InStack (length stack - (d - off))
spot_stack hi heap stack d off n at is room deep fits small =
    let low = address_of hi (length stack) in
    let back : at - low ≡ length stack - (d - off) = omega arith in
    let outside : lie_within first_address (first_address + length heap) at n ≡ false = ap (λ x. x && nat_le (at + n) (first_address + length heap)) (le-leb first_address at (omega arith)) ∙ not_le (at + n) (first_address + length heap) (omega arith) in
    let inside : lie_within low hi at n ≡ true = within_is low hi at n (omega arith) (omega arith) in
    ap (λ x. if x then InHeap (at - first_address) else (if lie_within low hi at n then InStack (at - low) else Nowhere)) outside
    ∙ ap (λ x. if x then InStack (at - low) else Nowhere) inside ∙ ap InStack back

pub spot_heap : (hi : ℕ) (heap stack : List ℕ) (h n at : ℕ) → at ≡ first_address + h → h + n ≤ length heap → spot_of hi heap stack at n ≡ InHeap h
spot_heap hi heap stack h n at is room =
    let low = address_of hi (length stack) in
    let back : at - first_address ≡ h = omega arith in
    ap (λ x. if x then InHeap (at - first_address) else (if lie_within low hi at n then InStack (at - low) else Nowhere)) (within_is first_address (first_address + length heap) at n (omega arith) (omega arith))
    ∙ ap InHeap back

module _ (m : Built) (v : View) (w : World) (calls : List Frame) (s : Memory) (g : Good m.program m.placement m.max m.leading v w calls s) where
  -- the address of a part of a variable is one of 64 bits, above 0
  pub address_some : (x : ℕ) (y : Cell) (q : Place) → slice_get w.store x ≡ Some y → v.homes x ≡ Some q → 0 < address_in s.hi q
  address_some x y (on_heap h) here home = omega arith
  address_some x y (on_stack d) here home =
      let r = site_within m.program m.placement calls d y.type (g.homed.stacked x d y here home) in let z = g.sized in
      omega (arith, r.1, z.low, z.fits)

  pub address_small : (x : ℕ) (y : Cell) (q : Place) (off : ℕ) → slice_get w.store x ≡ Some y → v.homes x ≡ Some q → off ≤ width y.type → address_in s.hi q + off < 2 ^ 64
  address_small x y (on_heap h) off here home le = let r = g.homed.heaped x h y here home in let small = g.sized.small in omega arith
  address_small x y (on_stack d) off here home le =
      let r = site_within m.program m.placement calls d y.type (g.homed.stacked x d y here home) in let z = g.sized in
      omega (arith, r.0, r.1, z.low, z.fits, z.high)

  -- a part of a variable, to which a word leads that still lacks some words
  module _ (x : ℕ) (t : TypeTree) (path : List ℕ) (lacks u : ℕ) (q : Place) (home : v.homes x ≡ Some q) (leads_there : Reaches v.homes s.hi w t x path lacks u) where
    abbrev whole : TypeTree
    whole = leads_there.cell.type

    abbrev off : ℕ
    off = offset whole path

    ends : off + width t ≤ width whole
    ends = within whole t path leads_there.leads

    -- it comes to the address of the part
    comes : (pc : ℕ) (does : ℕ → Does) → reaches_by (state_of m pc s) (address_behind u lacks) does ≡ does (address_in s.hi q + off)
    comes pc does = let e = ends in reached_by (state_of m pc s) u lacks (address_in s.hi q + off) does leads_there.some (leads_there.at q home) (address_small x leads_there.cell q off leads_there.there home (omega arith))

    -- and the part is read, and gets words
    loads_there : (r : Place) → v.homes x ≡ Some r → (pc to : ℕ) → loads_from (spot_of s.hi s.heap s.words (address_in s.hi r + off) (width t)) (state_of m pc s) to (width t) (address_in s.hi r + off) ≡ Goes [] (state_of m (pc + 1) (puts s to (part_place s r off (width t))))
    loads_there (on_stack d) is pc to =
        let r = site_within m.program m.placement calls d whole (g.homed.stacked x d leads_there.cell leads_there.there is) in let z = g.sized in let e = ends in let n = width t in
        ap (λ (k : Spot). loads_from k (state_of m pc s) to n (s.hi - d + off))
        (spot_stack s.hi s.heap s.words d off n (s.hi - d + off) refl (omega (arith, r.0)) (omega (arith, r.1, z.used)) (omega (arith, z.used, z.fits, z.low)) (omega (arith, z.heap_used, z.small)))
    loads_there (on_heap h) is pc to =
        let r = g.homed.heaped x h leads_there.cell leads_there.there is in let z = g.sized in let e = ends in let n = width t in
        ap (λ (k : Spot). loads_from k (state_of m pc s) to n (first_address + h + off)) (spot_heap s.hi s.heap s.words (h + off) n (first_address + h + off) (omega arith) (omega (arith, r, z.heap_used)))

    stores_there : (r : Place) → v.homes x ≡ Some r → (pc : ℕ) (xs : List ℕ) → stores_at (spot_of s.hi s.heap s.words (address_in s.hi r + off) (width t)) (state_of m pc s) xs (address_in s.hi r + off) ≡ Goes [] (state_of m (pc + 1) (set_place s r off xs))
    stores_there (on_stack d) is pc xs =
        let r = site_within m.program m.placement calls d whole (g.homed.stacked x d leads_there.cell leads_there.there is) in let z = g.sized in let e = ends in let n = width t in
        ap (λ (k : Spot). stores_at k (state_of m pc s) xs (s.hi - d + off))
        (spot_stack s.hi s.heap s.words d off n (s.hi - d + off) refl (omega (arith, r.0)) (omega (arith, r.1, z.used)) (omega (arith, z.used, z.fits, z.low)) (omega (arith, z.heap_used, z.small)))
    stores_there (on_heap h) is pc xs =
        let r = g.homed.heaped x h leads_there.cell leads_there.there is in let z = g.sized in let e = ends in let n = width t in
        ap (λ (k : Spot). stores_at k (state_of m pc s) xs (first_address + h + off)) (spot_heap s.hi s.heap s.words (h + off) n (first_address + h + off) (omega arith) (omega (arith, r, z.heap_used)))

    pub loaded : (pc to from : ℕ) → slice_index s.words from ≡ u → does_at m (Load to from lacks (width t)) pc s ≡ Goes [] (state_of m (pc + 1) (puts s to (part_place s q off (width t))))
    loaded pc to from there =
        ap (λ k. reaches_by (state_of m pc s) (address_behind k lacks) (λ at. loads_from (spot_of s.hi s.heap s.words at (width t)) (state_of m pc s) to (width t) at)) there
        ∙ comes pc (λ at. loads_from (spot_of s.hi s.heap s.words at (width t)) (state_of m pc s) to (width t) at) ∙ loads_there q home pc to

    pub stored : (event : StoreEvent) (pc to from : ℕ) → slice_index s.words to ≡ u → does_at m (Store event to lacks from (width t)) pc s ≡ Goes [] (state_of m (pc + 1) (set_place s q off (words_at s.words from (width t))))
    stored event pc to from there =
        let xs = words_at s.words from (width t) in
        ap (λ k. reaches_by (state_of m pc s) (address_behind k lacks) (λ at. stores_at (spot_of s.hi s.heap s.words at (width t)) (state_of m pc s) xs at)) there
        ∙ comes pc (λ at. stores_at (spot_of s.hi s.heap s.words at (width t)) (state_of m pc s) xs at) ∙ stores_there q home pc xs
