-- Writes and births.
use Rattle.std.proofs.Common.{◌≡◌, ◌≢◌, ◌⊎◌, inl, inr, ℕ, ◌+◌, ◌-◌, ◌<◌, ◌≤◌, List, [], ◌∷◌, length, Option, Some, refl, sym, ap, ◌∙◌, subst, arith, get_or, length-append, Bool, true, false}
use Rattle.std.specs.Prelude.{slice_get, slice_index}
use Rattle.std.proofs.lemmas.Option.{slice_get_within}
use Rattle.std.proofs.lemmas.Bool.{cases_eq}
use Rattle.typed_syntax.specs.Types.{TypeTree, width}
use Rattle.typed_syntax.specs.Value.{Value, IsOf}
use Rattle.typed_syntax.specs.Paths.{with_path, Leads, offset}
use Rattle.typed_syntax.specs.Words.{Content, contents}
use Rattle.typed_syntax.specs.Syntax.{Func, Program, site_type, is_made}
use Rattle.typed_syntax.specs.Form.{InScope}
use Rattle.frames.specs.Placement.{Placement}
use Rattle.frames.specs.Frames.{frame_of}
use Rattle.value_laws.specs.Laws.{PartWords}
use Rattle.value_laws.proofs.Parts.{with_is, within, part_words}
use Rattle.meaning.specs.Trace.{World, Cell}
use Rattle.meaning.specs.Store.{with_value, written, born}
use Rattle.meaning.specs.Meaning.{with_home}
use Rattle.machine.specs.Machine.{put_words}
use Rattle.program_code.specs.Code.{site_slot, slots_of}
use Rattle.state_relation.specs.Leaves.{leaves, leaf}
use Rattle.state_relation.specs.Views.{Place, on_stack, on_heap, View, born_at, after_stack}
use Rattle.state_relation.specs.Relation.{Memory, puts, set_place, Frame, grown, behind, word_at, word_in, nothing, Leading, StandsFor, StandsKept, Stand, words_before, slot_of, depth, SiteAt, NamedAt, Begun, Homed, Good}
use Rattle.state_relation.proofs.Lists.{true_false, some_same, less_or, append_cases, append_old, append_new, one_item, change_same, change_other, change_length}
use Rattle.state_relation.proofs.Distances.{put_length, put_in, put_out, put_other, put_same}
use Rattle.state_relation.proofs.Leaves.{leaves_length, part_leaf}
use Rattle.state_relation.proofs.Relation.{Other, site_inside, site_next, site_within, named_within, other_within, apart, sites_apart, held_other, box_other, back_other, link_other, Later, stands_later, kept_later, framed_later}
use Rattle.state_relation.proofs.Changes.{stack_same, stack_heap, not_at_some, not_at_other, not_at_heap, born_new, born_old, home_same, home_other, stands_same}

module _ (p : Program) (pl : Placement) (max : ℕ) (led : Leading) where
  -- ---- a part of a variable gets a value

  module _ (v : View) (w : World) (calls : List Frame) (s : Memory) (x : ℕ) (y : Cell) (path : List ℕ) (t : TypeTree) (val : Value) (xs : List ℕ)
      (here : slice_get w.store x ≡ Some y) (leads : Leads y.type path t) (is : IsOf t val) (st : Stand p led v.homes s.hi w (leaves t) (contents val) xs) (g : Good p pl max led v w calls s) where
    abbrev off : ℕ
    off = offset y.type path

    abbrev new : Cell
    new = with_value y (with_path y.value path val)

    abbrev w1 : World
    w1 = written w x path val

    ends : off + width t ≤ width y.type
    ends = within y.type t path leads

    many : length xs ≡ width t
    many = st.long ∙ leaves_length t

    parts : PartWords y.type t y.value val path nothing
    parts = part_words y.type t y.value val path nothing (g.homed.typed x y here) leads is

    now : slice_get w1.store x ≡ Some new
    now = change_same w.store x path val y here

    old_same : (z : ℕ) (b : Cell) → z ≢ x → slice_get w1.store z ≡ Some b → slice_get w.store z ≡ Some b
    old_same z b ne e = sym (change_other w.store x z path val ne) ∙ e

    new_is : (z : ℕ) (b : Cell) → z ≡ x → slice_get w1.store z ≡ Some b → new ≡ b
    new_is z b q e = some_same (sym now ∙ ap (slice_get w1.store) (sym q) ∙ e)

    -- what stood where something stands now
    old : (z : ℕ) (b : Cell) → slice_get w1.store z ≡ Some b → (a : Cell) × (slice_get w.store z ≡ Some a) × (a.type ≡ b.type)
    old z b e = elim (cases_eq z x) [
      | inl q ↦ (y, ap (slice_get w.store) q ∙ here, ap (λ (r : Cell). r.type) (new_is z b q e))
      | inr ne ↦ (b, old_same z b ne e, refl)
    ]

    later : Later v.homes v.homes w w1
    later = record {
      keeps = λ z b e. elim (cases_eq z x) [
        | inl q ↦
            let f : y ≡ b = some_same (sym here ∙ ap (slice_get w.store) (sym q) ∙ e) in
            (new, ap (slice_get w1.store) q ∙ now, ap (λ (r : Cell). r.type) f)
        | inr ne ↦ (b, change_other w.store x z path val ne ∙ e, refl)
      ];
      ends = λ z q lt h. h;
      stays = λ z h lt e. e;
    }

    homed : Homed p pl v w1 calls
    homed = let h = g.homed in let same = change_length w.store x path val in record {
      sole = λ a b i j ca cb qa qb ea eb ha hb li lj q.
          let oa = old a ca ea in let ob = old b cb eb in
          h.sole a b i j oa.0 ob.0 qa qb oa.1 ob.1 ha hb (subst (λ n. i < width n) (sym oa.2) li) (subst (λ n. j < width n) (sym ob.2) lj) q;
      known = λ z q e. let k = h.known z q e in omega (arith, same, k);
      stacked = λ z d b e hm. let o = old z b e in subst (λ n. SiteAt p pl calls d n) o.2 (h.stacked z d o.0 o.1 hm);
      heaped = λ z k b e hm. let o = old z b e in subst (λ n. k + width n ≤ v.heap) o.2 (h.heaped z k o.0 o.1 hm);
      named = λ z d b u n. let r = h.named z d b u n in let k = later.keeps z r.0 r.1 in (k.0, k.1, k.2 ∙ r.2);
      slots = h.slots;
      boxes = h.boxes;
      globals = λ n l k. (let r = h.globals n l (omega (arith, same, k)) in let a = later.keeps n r.0 r.1 in (a.0, a.1, a.2 ∙ r.2, r.3));
      begun = subst (λ n. Begun p pl calls n) (sym same) h.begun;
      typed = λ z b e. elim (cases_eq z x) [
        | inl q ↦ subst (λ (r : Cell). IsOf r.type r.value) (new_is z b q e) (with_is y.type t y.value val path (h.typed x y here) leads is)
        | inr ne ↦ h.typed z b (old_same z b ne e)
      ];
      births = h.births ∙ sym same;
      calling = h.calling;
      owned = h.owned;
    }

    -- the content and the word at a place, by whether it is written
    module _ (words heap : List ℕ) (place : Place) (home : v.homes x ≡ Some place) (same : (i : ℕ) → i < width t → word_in words heap (behind place (off + i)) ≡ slice_index xs i)
        (other : (z j : ℕ) (b : Cell) (q : Place) → slice_get w.store z ≡ Some b → v.homes z ≡ Some q → j < width b.type → ((i : ℕ) → i < width t → behind q j ≡ behind place (off + i) → ⊥) → word_in words heap (behind q j) ≡ word_in s.words s.heap (behind q j)) where
      kept : (z j : ℕ) (a : Cell) (q : Place) (c : Content) → slice_get w.store z ≡ Some a → v.homes z ≡ Some q → j < width a.type → get_or (contents a.value) j nothing ≡ c → ((i : ℕ) → i < width t → behind q j ≡ behind place (off + i) → ⊥) → StandsFor p led v.homes s.hi w1 (leaf a.type j) c (word_in words heap (behind q j))
      kept z j a q c e hq lt ec far =
          stands_same p led v.homes s.hi w1 (leaf a.type j) (leaf a.type j) (get_or (contents a.value) j nothing) c (word_in s.words s.heap (behind q j)) (word_in words heap (behind q j)) refl ec (sym (other z j a q e hq lt far))
          (stands_later p led v.homes v.homes s.hi w w1 (leaf a.type j) (get_or (contents a.value) j nothing) _ later (g.cells z j a q e hq lt))

      -- of the variable itself
      own : (j : ℕ) → j < width y.type → StandsFor p led v.homes s.hi w1 (leaf y.type j) (get_or (contents new.value) j nothing) (word_in words heap (behind place j))
      own j lt = elim (less_or j off) [
        | inl a ↦ kept x j y place (get_or (contents new.value) j nothing) here home lt (sym (parts.before j a)) (λ i li r. far j (off + i) lt (omega (arith, ends)) (omega arith) r)
        | inr a ↦ elim (less_or j (off + width t)) [
          | inr b ↦ kept x j y place (get_or (contents new.value) j nothing) here home lt (sym (parts.behind j b)) (λ i li r. far j (off + i) lt (omega (arith, ends)) (omega arith) r)
          | inl b ↦
              let i : ℕ = j - off in let li : i < width t = omega arith in let ij : off + i ≡ j = omega arith in
              stands_same p led v.homes s.hi w1 (leaf t i) (leaf y.type j) (get_or (contents val) i nothing) (get_or (contents new.value) j nothing) (slice_index xs i) (word_in words heap (behind place j))
              (sym (part_leaf y.type t path i leads li) ∙ ap (leaf y.type) ij)
              (sym (parts.inside i li) ∙ ap (λ n. get_or (contents new.value) n nothing) ij)
              (sym (same i li) ∙ ap (λ n. word_in words heap (behind place n)) ij)
              (stands_later p led v.homes v.homes s.hi w w1 (leaf t i) (get_or (contents val) i nothing) (slice_index xs i) later (st.each i (subst (λ n. i < n) (sym (leaves_length t)) li)))
        ]
      ]
        where
          far : (a b : ℕ) → a < width y.type → b < width y.type → a ≢ b → behind place a ≡ behind place b → ⊥
          far a b la lb ne r = ne (g.homed.sole x x a b y y place place here here home home la lb r).1

      cell : (z j : ℕ) (b : Cell) (q : Place) → slice_get w1.store z ≡ Some b → v.homes z ≡ Some q → j < width b.type → StandsFor p led v.homes s.hi w1 (leaf b.type j) (get_or (contents b.value) j nothing) (word_in words heap (behind q j))
      cell z j b q e hq lt = elim (cases_eq z x) [
        | inr ne ↦
            let o = old_same z b ne e in
            kept z j b q (get_or (contents b.value) j nothing) o hq lt refl (λ i li r. ne (g.homed.sole z x j (off + i) b y q place o here hq home lt (omega (arith, ends)) r).0)
        | inl k ↦
            let f = new_is z b k e in let eq : place ≡ q = some_same (sym home ∙ ap v.homes (sym k) ∙ hq) in
            subst (λ (r : Place). StandsFor p led v.homes s.hi w1 (leaf b.type j) (get_or (contents b.value) j nothing) (word_in words heap (behind r j))) eq
            (subst (λ (r : Cell). StandsFor p led v.homes s.hi w1 (leaf r.type j) (get_or (contents r.value) j nothing) (word_in words heap (behind place j))) f
            (own j (subst (λ (r : Cell). j < width r.type) (sym f) lt)))
      ]

    pub home_write : (q : Place) → v.homes x ≡ Some q → Good p pl max led v w1 calls (set_place s q off xs)
    home_write (on_heap h) hp =
        let inside = g.homed.heaped x h y here hp in let used = g.sized.heap_used in let z = g.sized in let e = ends in let n = many in
        record {
          homed = homed;
          cells = cell s.words (put_words s.heap (h + off) xs) (on_heap h) hp
              (λ i li. let k : h + (off + i) ≡ h + off + i = omega arith in ap (slice_index (put_words s.heap (h + off) xs)) k ∙ put_in s.heap (h + off) xs i (omega arith) (omega arith))
              far;
          framed = framed_later p pl led v v.homes s.hi w w1 calls s.words s.words g.homed later (λ d o. refl) g.framed;
          sized = record { used = z.used; heap_used = put_length s.heap (h + off) xs (omega arith) ∙ z.heap_used; asked = z.asked; full = z.full; low = z.low; high = z.high; fits = z.fits; small = z.small };
        }
      where
        far : (z j : ℕ) (b : Cell) (q : Place) → slice_get w.store z ≡ Some b → v.homes z ≡ Some q → j < width b.type → ((i : ℕ) → i < width t → behind q j ≡ behind (on_heap h) (off + i) → ⊥) → word_in s.words (put_words s.heap (h + off) xs) (behind q j) ≡ word_in s.words s.heap (behind q j)
        far z j b (on_stack d) e hq lt away = refl
        far z j b (on_heap k) e hq lt away =
            let inside = g.homed.heaped x h y here hp in let used = g.sized.heap_used in let m = ends in let n = many in
            elim (less_or (k + j) (h + off)) [
              | inl a ↦ put_out s.heap (h + off) xs (k + j) (omega arith) (inl a)
              | inr a ↦ elim (less_or (k + j) (h + off + width t)) [
                | inr c ↦ put_out s.heap (h + off) xs (k + j) (omega arith) (inr (omega arith))
                | inl c ↦ (let i : ℕ = k + j - (h + off) in let f : k + j ≡ h + (off + i) = omega arith in absurd (away i (omega arith) (ap on_heap f)))
              ]
            ]
    home_write (on_stack d) hp =
        let z = g.sized in let u = g.sized.used in let e = ends in let n = many in
        record {
          homed = homed;
          cells = cell words1 s.heap (on_stack d) hp (λ i li. put_same s.words from xs i (d - (off + i)) room_of (omega arith) (let r = site in omega (arith, r.0, r.1))) far;
          framed = framed_later p pl led v v.homes s.hi w w1 calls s.words words1 g.homed later stays g.framed;
          sized = record { used = put_length s.words from xs room_of ∙ z.used; heap_used = z.heap_used; asked = z.asked; full = z.full; low = z.low; high = z.high; fits = z.fits; small = z.small };
        }
      where
        from : ℕ
        from = length s.words - (d - off)

        words1 : List ℕ
        words1 = put_words s.words from xs

        at_site : SiteAt p pl calls d y.type
        at_site = g.homed.stacked x d y here hp

        site : (width y.type + 2 ≤ d) × (d ≤ depth p pl calls)
        site = site_within p pl calls d y.type at_site

        room_of : from + length xs ≤ length s.words
        room_of = let r = site in let u = g.sized.used in let m = ends in let n = many in omega (arith, r.0, r.1)

        away : (e : ℕ) → e ≤ depth p pl calls → ((i : ℕ) → i < width t → e ≡ d - (off + i) → ⊥) → word_at words1 e ≡ word_at s.words e
        away e le hits =
            let r = site in let u = g.sized.used in let m = ends in let n = many in
            elim (less_or (length s.words - e) from) [
              | inl b ↦ put_other s.words from xs e room_of (inl b)
              | inr b ↦ elim (less_or (length s.words - e) (from + width t)) [
                | inr c ↦ put_other s.words from xs e room_of (inr (omega arith))
                | inl c ↦ (let i : ℕ = length s.words - e - from in absurd (hits i (omega arith) (omega (arith, r.0, r.1))))
              ]
            ]

        stays : (e : ℕ) → Other p pl calls e → word_at words1 e ≡ word_at s.words e
        stays e o = let b = other_within p pl calls e o in let m = ends in away e b.1 (λ i li q. apart p pl calls d e (off + i) y.type (omega arith) at_site o q)

        far : (z j : ℕ) (b : Cell) (q : Place) → slice_get w.store z ≡ Some b → v.homes z ≡ Some q → j < width b.type → ((i : ℕ) → i < width t → behind q j ≡ behind (on_stack d) (off + i) → ⊥) → word_in words1 s.heap (behind q j) ≡ word_in s.words s.heap (behind q j)
        far z j b (on_heap k) e hq lt hits = refl
        far z j b (on_stack k) e hq lt hits =
            let r = site_within p pl calls k b.type (g.homed.stacked z k b e hq) in
            away (k - j) (omega (arith, r.1)) (λ i li q. hits i li (ap on_stack q))

  -- ---- a variable is born

  module _ (w : World) (y : Cell) where
    pub get_new : (x : ℕ) (a : Cell) → x ≡ length w.store → slice_get (born w y).store x ≡ Some a → y ≡ a
    get_new x a q e =
        let z : length w.store + 0 ≡ length w.store = omega arith in
        let f : slice_get (born w y).store (length w.store) ≡ Some y = ap (slice_get (born w y).store) (sym z) ∙ append_new w.store (y ∷ []) 0 in
        some_same (sym f ∙ ap (slice_get (born w y).store) (sym q) ∙ e)

    pub is_new : (x : ℕ) → x ≡ length w.store → slice_get (born w y).store x ≡ Some y
    is_new x q = let z : x ≡ length w.store + 0 = omega arith in ap (slice_get (born w y).store) z ∙ append_new w.store (y ∷ []) 0

    pub get_old : (x : ℕ) (a : Cell) → x ≢ length w.store → slice_get (born w y).store x ≡ Some a → slice_get w.store x ≡ Some a
    get_old x a ne e = elim (append_cases w.store (y ∷ []) a x e) [ inl o ↦ o | inr (j, q, f) ↦ let z = one_item y a j f in absurd (ne (omega (arith, q, z.0))) ]

    pub still : (x : ℕ) (a : Cell) → slice_get w.store x ≡ Some a → slice_get (born w y).store x ≡ Some a
    still x a e = append_old w.store (y ∷ []) a x e

    pub born_length : length (born w y).store ≡ length w.store + 1
    born_length = length-append w.store (y ∷ [])

  -- sites of a function stand at different distances
  module _ (solid : (site : ℕ) → 0 < width (site_type p site)) where
    distances_differ : (f : Func) (a b deep : ℕ) → a ≢ b → pl.on_heap a ≡ false → pl.on_heap b ≡ false → f.first ≤ a → a < f.first + f.count → f.first ≤ b → b < f.first + f.count → frame_of p pl f ≤ deep → deep - site_slot (slots_of p pl f) a ≢ deep - site_slot (slots_of p pl f) b
    distances_differ f a b deep ne sa sb fa la fb lb room e =
        let ia = site_inside p pl f a sa fa la in let ib = site_inside p pl f b sb fb lb in
        elim (less_or a b) [
          | inl lt ↦ (let n = site_next p pl f a b sa fa lt in let some = solid a in omega (arith, ia.1, ib.1))
          | inr le ↦ elim (less_or b a) [
            | inl lt ↦ (let n = site_next p pl f b a sb fb lt in let some = solid b in omega (arith, ia.1, ib.1))
            | inr le1 ↦ ne (omega arith)
          ]
        ]

    -- on the stack: the words of a site hold its value
    module _ (v : View) (w : World) (c : Frame) (calls : List Frame) (s : Memory) (site d : ℕ) (y : Cell) (xs : List ℕ) (stays : pl.on_heap site ≡ false) (first : c.func.first ≤ site) (last : site < c.func.first + c.func.count) (declared : is_made p site ≡ false)
        (at : d ≡ depth p pl (c ∷ calls) - site_slot (slots_of p pl c.func) site) (kind : y.type ≡ site_type p site) (is : IsOf y.type y.value) (st : Stand p led v.homes s.hi w (leaves y.type) (contents y.value) xs) (g : Good p pl max led v w (c ∷ calls) s) where
      abbrev n : ℕ
      n = length w.store

      abbrev w2 : World
      w2 = born w y

      abbrev homes1 : ℕ → Option Place
      homes1 = born_at v.homes v.births d

      abbrev slot : ℕ
      slot = site_slot (slots_of p pl c.func) site

      abbrev words2 : List ℕ
      words2 = put_words s.words slot xs

      count : length xs ≡ width y.type
      count = st.long ∙ leaves_length y.type

      inside : slot + width y.type + 2 ≤ frame_of p pl c.func
      inside = let r = site_inside p pl c.func site stays first last in let k = ap width kind in omega (arith, r.1, k)

      own_site : SiteAt p pl (c ∷ calls) d y.type
      own_site = inl (site, first, last, at, sym kind, stays)

      home_new : (x : ℕ) → x ≡ n → homes1 x ≡ Some (on_stack d)
      home_new x q = ap homes1 (q ∙ sym g.homed.births) ∙ born_new v.homes v.births d

      home_old : (x : ℕ) (q : Place) → x ≢ n → homes1 x ≡ Some q → (v.homes x ≡ Some q) × (q ≡ on_stack d → ⊥)
      home_old x q ne h = not_at_some d (v.homes x) q (sym (born_old v.homes v.births d x (λ e. ne (e ∙ g.homed.births))) ∙ h)

      later_born : Later v.homes homes1 w w2
      later_born = record { keeps = λ x a e. (a, still w y x a e, refl); ends = λ x q less h. let ne : x ≢ n = omega arith in (home_old x q ne h).0; stays = λ x h less e. let ne : x ≢ n = omega arith in born_old v.homes v.births d x (λ r. ne (r ∙ g.homed.births)) ∙ not_at_heap d h (v.homes x) e }

      -- words elsewhere stay
      elsewhere : (e : ℕ) → e ≤ depth p pl (c ∷ calls) → ((j : ℕ) → j < width y.type → e ≡ d - j → ⊥) → word_at words2 e ≡ word_at s.words e
      elsewhere e le far =
          let u = g.sized.used in let r = inside in let k = count in
          let fits : slot + length xs ≤ length s.words = omega arith in
          elim (less_or (length s.words - e) slot) [
            | inl b ↦ put_other s.words slot xs e fits (inl b)
            | inr b ↦ elim (less_or (length s.words - e) (slot + width y.type)) [
              | inr m ↦ put_other s.words slot xs e fits (inr (omega arith))
              | inl m ↦ (let j : ℕ = length s.words - e - slot in absurd (far j (omega arith) (omega (arith, at))))
            ]
          ]

      others_stay : (e : ℕ) → Other p pl (c ∷ calls) e → word_at words2 e ≡ word_at s.words e
      others_stay e o = let b = other_within p pl (c ∷ calls) e o in elsewhere e b.1 (λ j lj q. apart p pl (c ∷ calls) d e j y.type lj own_site o q)

      cell_born : (x j : ℕ) (a : Cell) (q : Place) → slice_get w2.store x ≡ Some a → homes1 x ≡ Some q → j < width a.type → StandsFor p led homes1 s.hi w2 (leaf a.type j) (get_or (contents a.value) j nothing) (word_in words2 s.heap (behind q j))
      cell_born x j a q e hq lt = elim (cases_eq x n) [ inl k ↦ fresh_one k | inr ne ↦ old_one ne (home_old x q ne hq) ]
        where
          fresh_one : x ≡ n → StandsFor p led homes1 s.hi w2 (leaf a.type j) (get_or (contents a.value) j nothing) (word_in words2 s.heap (behind q j))
          fresh_one k =
              let f = get_new w y x a k e in let at_d : on_stack d ≡ q = some_same (sym (home_new x k) ∙ hq) in
              let lt1 : j < width y.type = subst (λ (r : Cell). j < width r.type) (sym f) lt in
              let u = g.sized.used in let r = inside in let m = count in
              let word : word_at words2 (d - j) ≡ slice_index xs j = put_same s.words slot xs j (d - j) (omega arith) (omega arith) (omega (arith, at)) in
              subst (λ (z : Place). StandsFor p led homes1 s.hi w2 (leaf a.type j) (get_or (contents a.value) j nothing) (word_in words2 s.heap (behind z j))) at_d
              (subst (λ (z : Cell). StandsFor p led homes1 s.hi w2 (leaf z.type j) (get_or (contents z.value) j nothing) (word_at words2 (d - j))) f
              (subst (λ z. StandsFor p led homes1 s.hi w2 (leaf y.type j) (get_or (contents y.value) j nothing) z) (sym word)
              (stands_later p led v.homes homes1 s.hi w w2 (leaf y.type j) (get_or (contents y.value) j nothing) (slice_index xs j) later_born (st.each j (subst (λ l. j < l) (sym (leaves_length y.type)) lt1)))))

          same : (r : Place) → x ≢ n → (v.homes x ≡ Some r) × (r ≡ on_stack d → ⊥) → word_in words2 s.heap (behind r j) ≡ word_in s.words s.heap (behind r j)
          same (on_heap k) ne o = refl
          same (on_stack k) ne o =
              let there = g.homed.stacked x k a (get_old w y x a ne e) o.0 in let b = site_within p pl (c ∷ calls) k a.type there in
              elsewhere (k - j) (omega (arith, b.1)) (λ i li r. o.1 (ap on_stack (sites_apart p pl (c ∷ calls) k d j i a.type y.type lt li there own_site r).0))

          old_one : x ≢ n → (v.homes x ≡ Some q) × (q ≡ on_stack d → ⊥) → StandsFor p led homes1 s.hi w2 (leaf a.type j) (get_or (contents a.value) j nothing) (word_in words2 s.heap (behind q j))
          old_one ne o =
              subst (λ z. StandsFor p led homes1 s.hi w2 (leaf a.type j) (get_or (contents a.value) j nothing) z) (sym (same q ne o))
              (stands_later p led v.homes homes1 s.hi w w2 (leaf a.type j) (get_or (contents a.value) j nothing) _ later_born (g.cells x j a q (get_old w y x a ne e) o.0 lt))

      -- no word of the new variable's home is one of another's
      clash : (x j i : ℕ) (a : Cell) (q : Place) → slice_get w.store x ≡ Some a → (v.homes x ≡ Some q) × (q ≡ on_stack d → ⊥) → j < width a.type → i < width y.type → behind q j ≡ on_stack (d - i) → ⊥
      clash x j i a (on_heap k) e o lj li r = stack_heap (d - i) (k + j) (sym r)
      clash x j i a (on_stack k) e o lj li r =
          o.1 (ap on_stack (sites_apart p pl (c ∷ calls) k d j i a.type y.type lj li (g.homed.stacked x k a e o.0) own_site (stack_same (k - j) (d - i) r)).0)

      one_home : (x z i j : ℕ) (a b : Cell) (q r : Place) → slice_get w2.store x ≡ Some a → slice_get w2.store z ≡ Some b → homes1 x ≡ Some q → homes1 z ≡ Some r → i < width a.type → j < width b.type → behind q i ≡ behind r j → (x ≡ z) × (i ≡ j)
      one_home x z i j a b q r ea eb hq hr li lj e = elim (cases_eq x n) [
        | inl kx ↦ elim (cases_eq z n) [ inl kz ↦ both kx kz | inr nz ↦ absurd (clash z j i b r (get_old w y z b nz eb) (home_old z r nz hr) lj (less x a i kx ea li) (sym e ∙ ap (λ u. behind u i) (sym (placed_new x q kx hq)))) ]
        | inr nx ↦ elim (cases_eq z n) [
          | inl kz ↦ absurd (clash x i j a q (get_old w y x a nx ea) (home_old x q nx hq) li (less z b j kz eb lj) (e ∙ ap (λ u. behind u j) (sym (placed_new z r kz hr))))
          | inr nz ↦ g.homed.sole x z i j a b q r (get_old w y x a nx ea) (get_old w y z b nz eb) (home_old x q nx hq).0 (home_old z r nz hr).0 li lj e
        ]
      ]
        where
          placed_new : (u : ℕ) (k : Place) → u ≡ n → homes1 u ≡ Some k → on_stack d ≡ k
          placed_new u k f h = some_same (sym (home_new u f) ∙ h)

          less : (u : ℕ) (k : Cell) (m : ℕ) → u ≡ n → slice_get w2.store u ≡ Some k → m < width k.type → m < width y.type
          less u k m f h l = subst (λ (o : Cell). m < width o.type) (sym (get_new w y u k f h)) l

          both : x ≡ n → z ≡ n → (x ≡ z) × (i ≡ j)
          both kx kz =
              let f : on_stack (d - i) ≡ on_stack (d - j) = ap (λ u. behind u i) (placed_new x q kx hq) ∙ e ∙ ap (λ u. behind u j) (sym (placed_new z r kz hr)) in
              let k = stack_same (d - i) (d - j) f in let room = inside in
              let l1 = less x a i kx ea li in let l2 = less z b j kz eb lj in
              (kx ∙ sym kz, omega (arith, k, at))

      -- a name of before, or the new one
      name_cases : (x e : ℕ) (b : Bool) (u : TypeTree) → NamedAt p pl (grown c site n ∷ calls) x e b u → ((x ≡ n) × (b ≡ false) × (e ≡ d) × (y.type ≡ u)) ⊎ (NamedAt p pl (c ∷ calls) x e b u × (b ≡ false → e ≢ d))
      name_cases x e b u (inr m) = let r = named_within p pl calls x e b u m in let k = inside in inr (inr m, λ f. omega (arith, r, at))
      name_cases x e b u (inl m) = elim (cases_eq m.0 site) [
        | inl q ↦ (
            let plain : b ≡ false = sym m.5 ∙ ap pl.on_heap q ∙ stays in
            inl (m.2 ∙ ap (with_home c.env site n) q ∙ home_same c.env site n, plain, m.3 ∙ ap (λ k. depth p pl (c ∷ calls) - slot_of (slots_of p pl c.func) k m.0) plain ∙ ap (λ j. depth p pl (c ∷ calls) - site_slot (slots_of p pl c.func) j) q ∙ sym at, kind ∙ ap (site_type p) (sym q) ∙ m.4)
            )
        | inr ne ↦ (
            let i = in_scope m.0 ne m.1 in let a = g.homed.owned.0.among m.0 i in
            inr (
              inl (m.0, i, m.2 ∙ home_other c.env site n m.0 ne, m.3, m.4, m.5),
              λ f k.
                  distances_differ c.func m.0 site (depth p pl (c ∷ calls)) ne (m.5 ∙ f) stays a.0 a.1 first last (omega arith) (sym (m.3 ∙ ap (λ z. depth p pl (c ∷ calls) - slot_of (slots_of p pl c.func) z m.0) f) ∙ k ∙ at),
            )
            )
      ]
        where
          in_scope : (k : ℕ) → k ≢ site → InScope k (site ∷ c.scope) → InScope k c.scope
          in_scope k ne (inl q) = absurd (ne q)
          in_scope k ne (inr i) = i

      old_name : (x e : ℕ) (b : Bool) (u : TypeTree) → NamedAt p pl (c ∷ calls) x e b u → x ≢ n
      old_name x e b u m = let r = g.homed.named x e b u m in let k = slice_get_within w.store x r.0 r.1 in omega arith

      pub birth : Good p pl max led (after_stack v d) w2 (grown c site n ∷ calls) (puts s slot xs)
      birth = record {
        homed = let h = g.homed in let long = born_length w y in record {
          sole = one_home;
          known = λ x q hq. elim (cases_eq x n) [ inl k ↦ omega (arith, k, long) | inr ne ↦ let k = h.known x q (home_old x q ne hq).0 in omega (arith, k, long) ];
          stacked = λ x e a ea hq. elim (cases_eq x n) [
            | inl k ↦
                let f = stack_same d e (some_same (sym (home_new x k) ∙ hq)) in
                subst (λ m. SiteAt p pl (c ∷ calls) m a.type) f (subst (λ (r : Cell). SiteAt p pl (c ∷ calls) d r.type) (get_new w y x a k ea) own_site)
            | inr ne ↦ h.stacked x e a (get_old w y x a ne ea) (home_old x _ ne hq).0
          ];
          heaped = λ x k a ea hq. elim (cases_eq x n) [
            | inl q ↦ absurd (stack_heap d k (some_same (sym (home_new x q) ∙ hq)))
            | inr ne ↦ h.heaped x k a (get_old w y x a ne ea) (home_old x _ ne hq).0
          ];
          named = λ x e b u m. elim (name_cases x e b u m) [
            | inl q ↦ (y, is_new w y x q.0, q.3)
            | inr q ↦ (let r = h.named x e b u q.0 in (r.0, still w y x r.0 r.1, r.2))
          ];
          slots = λ x e u m. elim (name_cases x e false u m) [
            | inl q ↦ home_new x q.0 ∙ ap (λ k. Some (on_stack k)) (sym q.2)
            | inr q ↦ born_old v.homes v.births d x (λ a. old_name x e false u q.0 (a ∙ h.births)) ∙ not_at_other d e (v.homes x) (h.slots x e u q.0) (q.1 refl)
          ];
          boxes = λ x e u m. elim (name_cases x e true u m) [
            | inl q ↦ absurd (true_false q.1)
            | inr q ↦ (let r = h.boxes x e u q.0 in (r.0, born_old v.homes v.births d x (λ a. old_name x e true u q.0 (a ∙ h.births)) ∙ not_at_heap d r.0 (v.homes x) r.1))
          ];
          globals = λ k l m. (let b = h.begun in let r = h.globals k l (omega arith) in
              (r.0, still w y k r.0 r.1, r.2, born_old v.homes v.births d k (λ a. (let e = h.births in let f : k < k = omega arith in absurd (omega arith))) ∙ not_at_heap d (words_before p k) (v.homes k) r.3));
          begun = let b = h.begun in omega (arith, long);
          typed = λ x a ea. elim (cases_eq x n) [ inl k ↦ subst (λ (r : Cell). IsOf r.type r.value) (get_new w y x a k ea) is | inr ne ↦ h.typed x a (get_old w y x a ne ea) ];
          births = ap (λ k. k + 1) h.births ∙ sym long;
          calling = h.calling;
          owned = (let o = h.owned.0 in record { named = o.named; room = o.room; among = λ k i. scoped k i }, h.owned.1);
        };
        cells = cell_born;
        framed = record {
          kept = λ e k m. subst (λ u. StandsKept p led homes1 s.hi w2 k u) (sym (others_stay e (held_other p pl (c ∷ calls) e k m))) (kept_later p led v.homes homes1 s.hi w w2 k _ later_born (g.framed.kept e k m));
          boxed = λ x e h u m hm. elim (name_cases x e true u m) [
            | inl q ↦ absurd (true_false q.1)
            | inr q ↦ others_stay e (box_other p pl (c ∷ calls) x e u g.homed.owned q.0) ∙ g.framed.boxed x e h u q.0 (home_old x (on_heap h) (old_name x e true u q.0) hm).0
          ];
          backs = λ e m b. others_stay e (back_other p pl (c ∷ calls) e m b) ∙ g.framed.backs e m b;
          links = λ e m b. others_stay e (link_other p pl (c ∷ calls) e m b) ∙ g.framed.links e m b;
        };
        sized = let z = g.sized in let u = g.sized.used in let r = inside in let k = count in record { used = put_length s.words slot xs (omega arith) ∙ z.used; heap_used = z.heap_used; asked = z.asked; full = z.full; low = z.low; high = z.high; fits = z.fits; small = z.small };
      }
        where
          scoped : (k : ℕ) → InScope k (site ∷ c.scope) → (c.func.first ≤ k) × (k < c.func.first + c.func.count) × (is_made p k ≡ false)
          scoped k (inl q) = (omega arith, omega arith, ap (is_made p) q ∙ declared)
          scoped k (inr i) = g.homed.owned.0.among k i
