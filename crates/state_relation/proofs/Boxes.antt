-- The cell of a site whose variables live on the heap: it gets the address of its variable, and tells where this lives.
use Rattle.std.proofs.Common.{◌≡◌, ◌≢◌, ◌⊎◌, inl, inr, ℕ, ◌+◌, ◌-◌, ◌^◌, ◌<◌, ◌≤◌, Bool, true, false, List, [], ◌∷◌, ◌++◌, length, Option, Some, refl, sym, ap, ◌∙◌, subst, arith, get_or}
use Rattle.std.specs.Prelude.{slice_get}
use Rattle.std.proofs.lemmas.Bool.{cases_eq}
use Rattle.typed_syntax.specs.Types.{TypeTree, width}
use Rattle.typed_syntax.specs.Value.{IsOf}
use Rattle.typed_syntax.specs.Words.{contents}
use Rattle.typed_syntax.specs.Syntax.{Program, site_type, is_made}
use Rattle.typed_syntax.specs.Form.{InScope}
use Rattle.frames.specs.Placement.{Placement}
use Rattle.frames.specs.Frames.{outgoing_of, temps_of, frame_of}
use Rattle.meaning.specs.Trace.{World, Cell}
use Rattle.meaning.specs.Store.{born}
use Rattle.meaning.specs.Meaning.{with_home}
use Rattle.heap_bump.specs.Words.{first_address}
use Rattle.machine.specs.Machine.{put_words}
use Rattle.program_code.specs.Code.{cell_slot, slots_of}
use Rattle.state_relation.specs.Leaves.{leaves, leaf}
use Rattle.state_relation.specs.Views.{Place, on_stack, on_heap, View, born_apart, after_apart}
use Rattle.state_relation.specs.Relation.{Memory, sets, Kept, Frame, grown, address_in, behind, word_at, word_in, nothing, Leading, Reaches, StandsFor, StandsKept, Stand, slot_of, depth, NamedAt, HeldAt, BackAt, LinkAt, Good}
use Rattle.state_relation.proofs.Lists.{true_false, some_same, less_or}
use Rattle.state_relation.proofs.Distances.{put_one, put_length, put_other, put_same}
use Rattle.state_relation.proofs.Relation.{Other, cell_inside, cell_next, site_within, named_within, other_within, apart, held_other, back_other, link_other}
use Rattle.state_relation.proofs.Changes.{heap_same, apart_new, home_same, home_other}
use Rattle.state_relation.proofs.Births.{is_new}
use Rattle.state_relation.proofs.Crossing.{birth_apart}

module _ (p : Program) (pl : Placement) (max : ℕ) (led : Leading) where
  -- a cell holds an address that leads to its variable
  pub box_reaches : (v : View) (w : World) (calls : List Frame) (s : Memory) (x d : ℕ) (t : TypeTree) → NamedAt p pl calls x d true t → Good p pl max led v w calls s → Reaches v.homes s.hi w t x [] 0 (word_at s.words d)
  box_reaches v w calls s x d t m g =
      let r = g.homed.named x d true t m in let b = g.homed.boxes x d t m in
      let word : word_at s.words d ≡ first_address + b.0 = g.framed.boxed x d b.0 t m b.1 in
      record {
        cell = r.0;
        there = r.1;
        leads = r.2;
        less = omega arith;
        some = omega (arith, word);
        at = λ q e. tells q (some_same (sym b.1 ∙ e)) word;
      }
    where
      tells : (q : Place) → on_heap (g.homed.boxes x d t m).0 ≡ q → word_at s.words d ≡ first_address + (g.homed.boxes x d t m).0 → word_at s.words d + 0 ≡ address_in s.hi q + 0
      tells q e word = subst (λ r. word_at s.words d + 0 ≡ address_in s.hi r + 0) e (ap (λ n. n + 0) word)

  -- the variable x of a site that lives on the heap, in the newest call
  module _ (v : View) (w : World) (c : Frame) (calls : List Frame) (s : Memory) (site x h : ℕ) (y : Cell) (boxed : pl.on_heap site ≡ true) (first : c.func.first ≤ site) (last : site < c.func.first + c.func.count) (declared : is_made p site ≡ false)
      (here : slice_get w.store x ≡ Some y) (kind : y.type ≡ site_type p site) (home : v.homes x ≡ Some (on_heap h)) (g : Good p pl max led v w (c ∷ calls) s) where
    abbrev deep : ℕ
    deep = depth p pl (c ∷ calls)

    abbrev word : ℕ
    word = first_address + h

    abbrev slot : ℕ
    slot = cell_slot (slots_of p pl c.func) site

    abbrev d : ℕ
    d = deep - slot

    abbrev words1 : List ℕ
    words1 = put_words s.words slot (word ∷ [])

    inside : (outgoing_of p c.func + temps_of p pl c.func ≤ slot) × (slot + 3 ≤ frame_of p pl c.func)
    inside = let r = cell_inside p pl c.func site boxed declared first last in (r.0, omega (arith, r.1))

    own_cell : Other p pl (c ∷ calls) d
    own_cell = let r = cell_inside p pl c.func site boxed declared first last in let i = inside in inl (omega (arith, i.1), omega (arith, r.0), inr (inl (omega (arith, r.0, r.1), omega (arith, r.0, r.1))))

    fits : slot + length (word ∷ []) ≤ length s.words
    fits = let i = inside in let u = g.sized.used in omega (arith, i.1)

    elsewhere : (e : ℕ) → e ≤ deep → e ≢ d → word_at words1 e ≡ word_at s.words e
    elsewhere e le ne =
        let u = g.sized.used in let i = inside in
        elim (less_or (length s.words - e) slot) [
          | inl b ↦ put_other s.words slot (word ∷ []) e fits (inl b)
          | inr b ↦ elim (less_or slot (length s.words - e)) [
            | inl a ↦ put_other s.words slot (word ∷ []) e fits (inr (omega arith))
            | inr a ↦ absurd (ne (omega (arith, u, le, a, b, i.1)))
          ]
        ]

    there : word_at words1 d ≡ first_address + h
    there = let i = inside in let u = g.sized.used in put_same s.words slot (word ∷ []) 0 d fits (omega arith) (omega (arith, i.1))

    outer : (e : ℕ) → e ≤ depth p pl calls → word_at words1 e ≡ word_at s.words e
    outer e le = let i = inside in elsewhere e (omega arith) (λ q. omega (arith, q, i.1))

    held_stays : (e : ℕ) (k : Kept) → HeldAt p pl (c ∷ calls) e k → word_at words1 e ≡ word_at s.words e
    held_stays e k (inl m) = let i = inside in elsewhere e (omega (arith, m.2)) (λ q. omega (arith, q, i.0, i.1, m.1, m.2))
    held_stays e k (inr m) = let r = other_within p pl calls e (held_other p pl calls e k m) in outer e r.1

    back_stays : (e n : ℕ) → BackAt p pl (c ∷ calls) e n → word_at words1 e ≡ word_at s.words e
    back_stays e n (inl m) = let i = inside in elsewhere e (omega (arith, m.0, i.1)) (λ q. omega (arith, q, i.1, m.0))
    back_stays e n (inr m) = let r = other_within p pl calls e (back_other p pl calls e n m) in outer e r.1

    link_stays : (e : ℕ) (o : Option ℕ) → LinkAt p pl (c ∷ calls) e o → word_at words1 e ≡ word_at s.words e
    link_stays e o (inl m) = let i = inside in elsewhere e (omega (arith, m.0, i.1)) (λ q. omega (arith, q, i.1, m.0))
    link_stays e o (inr m) = let r = other_within p pl calls e (link_other p pl calls e o m) in outer e r.1

    cell_stays : (z j : ℕ) (a : Cell) (q : Place) → slice_get w.store z ≡ Some a → v.homes z ≡ Some q → j < width a.type → word_in words1 s.heap (behind q j) ≡ word_in s.words s.heap (behind q j)
    cell_stays z j a (on_heap k) e hq lt = refl
    cell_stays z j a (on_stack k) e hq lt =
        let at = g.homed.stacked z k a e hq in let b = site_within p pl (c ∷ calls) k a.type at in
        elsewhere (k - j) (omega (arith, b.1)) (λ q. apart p pl (c ∷ calls) k d j a.type lt at own_cell (sym q))

    -- a name of before, or the new one
    name_cases : (z e : ℕ) (b : Bool) (u : TypeTree) → NamedAt p pl (grown c site x ∷ calls) z e b u → ((z ≡ x) × (b ≡ true) × (e ≡ d) × (site_type p site ≡ u)) ⊎ (NamedAt p pl (c ∷ calls) z e b u × (b ≡ true → e ≢ d))
    name_cases z e b u (inr m) = let r = named_within p pl calls z e b u m in let i = inside in inr (inr m, λ f q. omega (arith, r, q, i.1))
    name_cases z e b u (inl m) = elim (cases_eq m.0 site) [
      | inl q ↦ (
          let f : b ≡ true = sym m.5 ∙ ap pl.on_heap q ∙ boxed in
          inl (m.2 ∙ ap (with_home c.env site x) q ∙ home_same c.env site x, f, cell_at f ∙ ap (λ k. deep - cell_slot (slots_of p pl c.func) k) q, ap (site_type p) (sym q) ∙ m.4)
          )
      | inr ne ↦ inr (inl (m.0, in_scope m.0 ne m.1, m.2 ∙ home_other c.env site x m.0 ne, m.3, m.4, m.5), λ f q. cells_differ ne f (sym (cell_at f) ∙ q))
    ]
      where
        in_scope : (k : ℕ) → k ≢ site → InScope k (site ∷ c.scope) → InScope k c.scope
        in_scope k ne (inl q) = absurd (ne q)
        in_scope k ne (inr i) = i

        cell_at : b ≡ true → e ≡ deep - cell_slot (slots_of p pl c.func) m.0
        cell_at f = m.3 ∙ ap (λ k. deep - slot_of (slots_of p pl c.func) k m.0) f

        cells_differ : m.0 ≢ site → b ≡ true → deep - cell_slot (slots_of p pl c.func) m.0 ≡ d → ⊥
        cells_differ ne f q =
            let a = g.homed.owned.0.among m.0 (in_scope m.0 ne m.1) in let box = m.5 ∙ f in let i = inside in
            let r = cell_inside p pl c.func m.0 box a.2 a.0 a.1 in
            elim (less_or m.0 site) [
              | inl lt ↦ (let n = cell_next p pl c.func m.0 site box a.2 a.0 lt in omega (arith, n, q, i.1, r.1))
              | inr le ↦ elim (less_or site m.0) [
                | inl lt ↦ (let n = cell_next p pl c.func site m.0 boxed declared first lt in omega (arith, n, q, i.1, r.1))
                | inr l ↦ ne (omega arith)
              ]
            ]

    put_good : Good p pl max led v w (grown c site x ∷ calls) (record s { words = words1 })
    put_good = let h0 = g.homed in let z0 = g.sized in record {
      homed = record {
        sole = h0.sole;
        known = h0.known;
        stacked = h0.stacked;
        heaped = h0.heaped;
        named = λ z e b u m. elim (name_cases z e b u m) [
          | inl q ↦ (y, ap (slice_get w.store) q.0 ∙ here, kind ∙ q.3)
          | inr q ↦ h0.named z e b u q.0
        ];
        slots = λ z e u m. elim (name_cases z e false u m) [ inl q ↦ absurd (true_false (sym q.1)) | inr q ↦ h0.slots z e u q.0 ];
        boxes = λ z e u m. elim (name_cases z e true u m) [ inl q ↦ (h, ap v.homes q.0 ∙ home) | inr q ↦ h0.boxes z e u q.0 ];
        globals = h0.globals;
        begun = h0.begun;
        typed = h0.typed;
        births = h0.births;
        calling = h0.calling;
        owned = (let o = h0.owned.0 in record { named = o.named; room = o.room; among = λ k i. scoped k i }, h0.owned.1);
      };
      cells = λ z j a q e hq lt. subst (λ u. StandsFor p led v.homes s.hi w (leaf a.type j) (get_or (contents a.value) j nothing) u) (sym (cell_stays z j a q e hq lt)) (g.cells z j a q e hq lt);
      framed = record {
        kept = λ e k m. subst (λ u. StandsKept p led v.homes s.hi w k u) (sym (held_stays e k m)) (g.framed.kept e k m);
        boxed = λ z e n u m hz. elim (name_cases z e true u m) [
          | inl q ↦ (let same = heap_same h n (some_same (sym home ∙ ap v.homes (sym q.0) ∙ hz)) in ap (word_at words1) q.2 ∙ there ∙ ap (λ k. first_address + k) same)
          | inr q ↦ elsewhere e (named_within p pl (c ∷ calls) z e true u q.0) (q.1 refl) ∙ g.framed.boxed z e n u q.0 hz
        ];
        backs = λ e n m. back_stays e n m ∙ g.framed.backs e n m;
        links = λ e o m. link_stays e o m ∙ g.framed.links e o m;
      };
      sized = record { used = put_length s.words slot (word ∷ []) fits ∙ z0.used; heap_used = z0.heap_used; asked = z0.asked; full = z0.full; low = z0.low; high = z0.high; fits = z0.fits; small = z0.small };
    }
      where
        scoped : (k : ℕ) → InScope k (site ∷ c.scope) → (c.func.first ≤ k) × (k < c.func.first + c.func.count) × (is_made p k ≡ false)
        scoped k (inl q) = (omega arith, omega arith, ap (is_made p) q ∙ declared)
        scoped k (inr i) = g.homed.owned.0.among k i

    -- the site gets the variable, and its cell the address
    pub name_box : Good p pl max led v w (grown c site x ∷ calls) (sets s slot (first_address + h))
    name_box = subst (λ ws. Good p pl max led v w (grown c site x ∷ calls) (record s { words = ws })) (put_one s.words slot (first_address + h) (let i = inside in let u = g.sized.used in omega (arith, i.1))) put_good

  -- a variable of such a site is born: the heap gets its words, and the cell their address
  pub box_birth : (v : View) (w : World) (c : Frame) (calls : List Frame) (s : Memory) (site n : ℕ) (y : Cell) (xs : List ℕ) → pl.on_heap site ≡ true → c.func.first ≤ site → site < c.func.first + c.func.count → is_made p site ≡ false → n ≡ width y.type → v.heap + n ≤ 2 ^ 32 → IsOf y.type y.value → y.type ≡ site_type p site
      → Stand p led v.homes s.hi w (leaves y.type) (contents y.value) xs → Good p pl max led v w (c ∷ calls) s
      → Good p pl max led (after_apart v n) (born w y) (grown c site (length w.store) ∷ calls) (sets (record s { heap = s.heap ++ xs }) (cell_slot (slots_of p pl c.func) site) (first_address + v.heap))
  box_birth v w c calls s site n y xs boxed first last declared wide room is kind st g =
      name_box (after_apart v n) (born w y) c calls (record s { heap = s.heap ++ xs }) site (length w.store) v.heap y boxed first last declared (is_new p pl max led w y (length w.store) refl) kind
      (ap (born_apart v.homes v.births v.heap) (sym g.homed.births) ∙ apart_new v.homes v.births v.heap)
      (birth_apart p pl max led v w (c ∷ calls) s n y xs wide room is st (λ less. absurd (let b = g.homed.begun in omega arith)) g)
