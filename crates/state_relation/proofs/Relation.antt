-- Where the words of frames lie among each other, and what stands for the same while the world grows.
use Rattle.std.proofs.Common.{◌≡◌, ◌≢◌, ◌⊎◌, inl, inr, ℕ, zero, suc, ◌+◌, ◌*◌, ◌-◌, ◌<◌, ◌≤◌, Bool, true, false, List, [], ◌∷◌, length, Option, Some, refl, sym, ap, ap₂, ◌∙◌, subst, arith, get_or}
use Rattle.std.specs.Prelude.{slice_get, slice_index, not, ◌&&◌, if◌then◌else◌}
use Rattle.std.proofs.lemmas.Option.{slice_get_within}
use Rattle.std.proofs.lemmas.Bool.{cases_eq}
use Rattle.typed_syntax.specs.Types.{TypeTree, ints, bools, struct_of, array_of, pointer_to, slice_of, width}
use Rattle.typed_syntax.specs.Words.{Content, number, truth, no_address, part_address, array_address}
use Rattle.typed_syntax.specs.Syntax.{Func, Program, type_named, is_made, site_width}
use Rattle.frames.specs.Placement.{Placement}
use Rattle.frames.specs.Frames.{cell_words, cells_between, outgoing_of, temps_of, frame_of}
use Rattle.typed_syntax.specs.Paths.{Leads, offset}
use Rattle.meaning.specs.Trace.{World, Cell}
use Rattle.meaning.specs.Output.{Limits, used_by}
use Rattle.program_code.specs.Code.{cell_slot, site_slot, slots_of}
use Rattle.program_code.proofs.Sites.{site_before, site_within as site_among}
use Rattle.state_relation.specs.Views.{Place, on_heap, View}
use Rattle.state_relation.specs.Relation.{Kept, word, address, spent, Frame, numbers, address_in, nothing, word_at, Leading, to_none, to_heap, to_any, MayLead, Reaches, ReachesInto, StandsFor, StandsKept, Stand, depth, SiteAt, NamedAt, HeldAt, BackAt, LinkAt, AllOwn, Homed, Framed}
use Rattle.state_relation.proofs.Lists.{less_or}

-- a site of a function stands above its temps and cells and below the link
pub site_inside : (p : Program) (pl : Placement) (f : Func) (site : ℕ) → pl.on_heap site ≡ false → f.first ≤ site → site < f.first + f.count → (outgoing_of p f + temps_of p pl f + cells_between pl p.made f.first f.count ≤ site_slot (slots_of p pl f) site) × (site_slot (slots_of p pl f) site + site_width p site + 2 ≤ frame_of p pl f)
site_inside p pl f site stays from to = let r = site_among p pl f site stays from to in (omega arith, omega arith)

-- its words stand before those of a later one
pub site_next : (p : Program) (pl : Placement) (f : Func) (a b : ℕ) → pl.on_heap a ≡ false → f.first ≤ a → a < b → site_slot (slots_of p pl f) a + site_width p a ≤ site_slot (slots_of p pl f) b
site_next p pl f a b stays from lt = let r = site_before p pl f.first a b stays from lt in omega arith

-- the cell of a site of declared variables stands before that of a later one, and between the temps and the sites' words
cells_next : (pl : Placement) (made : List Bool) (from k n : ℕ) → k < n → cells_between pl made from k + cell_words pl made (from + k) ≤ cells_between pl made from n
cells_next pl made from k zero lt = absurd (omega arith)
cells_next pl made from zero (suc n) lt = let e : from + 0 ≡ from = omega arith in let q = ap (λ m. cell_words pl made m) e in omega arith
cells_next pl made from (suc k) (suc n) lt =
    let e : suc from + k ≡ from + suc k = omega arith in
    let q = ap (λ m. cell_words pl made m) e in
    let r = cells_next pl made (suc from) k n (omega arith) in omega arith

cell_before : (pl : Placement) (made : List Bool) (first site n : ℕ) → pl.on_heap site ≡ true → get_or made site false ≡ false → first ≤ site → site - first < n → cells_between pl made first (site - first) + 1 ≤ cells_between pl made first n
cell_before pl made first site n boxed declared from lt =
    let e : first + (site - first) ≡ site = omega arith in
    let q : cell_words pl made (first + (site - first)) ≡ 1 = ap (λ m. cell_words pl made m) e ∙ ap₂ (λ (a b : Bool). if a && not b then 1 else 0) boxed declared in
    let r = cells_next pl made first (site - first) n lt in omega arith

pub cell_inside : (p : Program) (pl : Placement) (f : Func) (site : ℕ) → pl.on_heap site ≡ true → is_made p site ≡ false → f.first ≤ site → site < f.first + f.count
    → (outgoing_of p f + temps_of p pl f ≤ cell_slot (slots_of p pl f) site) × (cell_slot (slots_of p pl f) site < outgoing_of p f + temps_of p pl f + cells_between pl p.made f.first f.count)
cell_inside p pl f site boxed declared from to = let r = cell_before pl p.made f.first site f.count boxed declared from (omega arith) in (omega arith, omega arith)

pub cell_next : (p : Program) (pl : Placement) (f : Func) (a b : ℕ) → pl.on_heap a ≡ true → is_made p a ≡ false → f.first ≤ a → a < b → cell_slot (slots_of p pl f) a < cell_slot (slots_of p pl f) b
cell_next p pl f a b boxed declared from lt = let r = cell_before pl p.made f.first a (b - f.first) boxed declared from (omega arith) in omega arith

module _ (p : Program) (pl : Placement) where
  -- a word of the frames that is needed: not of the newest outgoing area, and not of a free temp
  abbrev pub Needed : List Frame → ℕ → Type 0
  Needed [] d = ⊥
  Needed (c ∷ calls) d =
      ((depth p pl calls < d) × (d + outgoing_of p c.func ≤ depth p pl (c ∷ calls)) × ((depth p pl (c ∷ calls) < d + outgoing_of p c.func + length c.held) ⊎ (d + (outgoing_of p c.func + temps_of p pl c.func) ≤ depth p pl (c ∷ calls)))) ⊎ Needed calls d

  -- one of the cells of a frame that ends so deep
  abbrev pub CellAt : Frame → (deep d : ℕ) → Type 0
  CellAt c deep d = (d + (outgoing_of p c.func + temps_of p pl c.func) ≤ deep) × (deep < d + (outgoing_of p c.func + temps_of p pl c.func + cells_between pl p.made c.func.first c.func.count))

  -- one that is no variable's: of a temp, a cell, a link or a return place
  abbrev pub Other : List Frame → ℕ → Type 0
  Other [] d = ⊥
  Other (c ∷ calls) d =
      ((depth p pl calls < d) × (d + outgoing_of p c.func ≤ depth p pl (c ∷ calls)) × (((depth p pl (c ∷ calls) < d + outgoing_of p c.func + length c.held) × (depth p pl (c ∷ calls) < d + outgoing_of p c.func + temps_of p pl c.func)) ⊎ CellAt c (depth p pl (c ∷ calls)) d ⊎ (d ≤ depth p pl calls + 2))) ⊎ Other calls d

  pub site_within : (calls : List Frame) (d : ℕ) (t : TypeTree) → SiteAt p pl calls d t → (width t + 2 ≤ d) × (d ≤ depth p pl calls)
  site_within [] d t h = absurd h
  site_within (c ∷ calls) d t (inl h) = let r = site_inside p pl c.func h.0 h.5 h.1 h.2 in let w = ap width h.4 in (omega (arith, r.1, w, h.3), omega (arith, h.3))
  site_within (c ∷ calls) d t (inr h) = let r = site_within calls d t h in (r.0, omega (arith, r.1))

  pub named_within : (calls : List Frame) (x d : ℕ) (boxed : Bool) (t : TypeTree) → NamedAt p pl calls x d boxed t → d ≤ depth p pl calls
  named_within [] x d boxed t h = absurd h
  named_within (c ∷ calls) x d boxed t (inl h) = omega (arith, h.3)
  named_within (c ∷ calls) x d boxed t (inr h) = let r = named_within calls x d boxed t h in omega arith

  pub other_within : (calls : List Frame) (d : ℕ) → Other calls d → (0 < d) × (d ≤ depth p pl calls)
  other_within [] d h = absurd h
  other_within (c ∷ calls) d (inl h) = (omega (arith, h.0), omega (arith, h.1))
  other_within (c ∷ calls) d (inr h) = let r = other_within calls d h in (r.0, omega (arith, r.1))

  pub needed_within : (calls : List Frame) (d : ℕ) → Needed calls d → d ≤ depth p pl calls
  needed_within [] d h = absurd h
  needed_within (c ∷ calls) d (inl h) = omega (arith, h.1)
  needed_within (c ∷ calls) d (inr h) = let r = needed_within calls d h in omega arith

  -- no word of a variable is another needed word
  pub apart : (calls : List Frame) (d e j : ℕ) (t : TypeTree) → j < width t → SiteAt p pl calls d t → Other calls e → e ≡ d - j → ⊥
  apart [] d e j t lt s o q = s
  apart (c ∷ calls) d e j t lt (inl s) (inl o) q = by o.2
    where
      by : ((depth p pl (c ∷ calls) < e + outgoing_of p c.func + length c.held) × (depth p pl (c ∷ calls) < e + outgoing_of p c.func + temps_of p pl c.func)) ⊎ CellAt c (depth p pl (c ∷ calls)) e ⊎ (e ≤ depth p pl calls + 2) → ⊥
      by (inl h) = let r = site_inside p pl c.func s.0 s.5 s.1 s.2 in let w = ap width s.4 in omega (arith, r.0, r.1, w, s.3, h.1, q)
      by (inr (inl h)) = let r = site_inside p pl c.func s.0 s.5 s.1 s.2 in let w = ap width s.4 in omega (arith, r.0, r.1, w, s.3, h.0, h.1, q)
      by (inr (inr h)) = let r = site_inside p pl c.func s.0 s.5 s.1 s.2 in let w = ap width s.4 in omega (arith, r.1, w, s.3, h, q)
  apart (c ∷ calls) d e j t lt (inl s) (inr o) q =
      let b = other_within calls e o in let r = site_inside p pl c.func s.0 s.5 s.1 s.2 in let w = ap width s.4 in omega (arith, r.1, w, s.3, b.1, q)
  apart (c ∷ calls) d e j t lt (inr s) (inl o) q = let r = site_within calls d t s in omega (arith, o.0, r.1, q)
  apart (c ∷ calls) d e j t lt (inr s) (inr o) q = apart calls d e j t lt s o q

  -- words of two sites are apart
  pub sites_apart : (calls : List Frame) (d e i j : ℕ) (t u : TypeTree) → i < width t → j < width u → SiteAt p pl calls d t → SiteAt p pl calls e u → d - i ≡ e - j → (d ≡ e) × (i ≡ j)
  sites_apart [] d e i j t u li lj s r q = absurd s
  sites_apart (c ∷ calls) d e i j t u li lj (inl s) (inl r) q =
      let a = site_inside p pl c.func s.0 s.5 s.1 s.2 in let b = site_inside p pl c.func r.0 r.5 r.1 r.2 in let wa = ap width s.4 in let wb = ap width r.4 in
      elim (cases_eq s.0 r.0) [
        | inl same ↦ (
            let k : d ≡ e = s.3 ∙ ap (λ n. depth p pl (c ∷ calls) - site_slot (slots_of p pl c.func) n) same ∙ sym r.3 in
            (k, omega (arith, k, q, a.1, b.1, wa, wb, s.3, r.3))
            )
        | inr ne ↦ absurd (elim (less_or s.0 r.0) [
          | inl lt ↦ (let n = site_next p pl c.func s.0 r.0 s.5 s.1 lt in omega (arith, n, a.1, b.1, wa, wb, s.3, r.3, q))
          | inr le ↦ (let lt : r.0 < s.0 = strict s.0 r.0 le ne in let n = site_next p pl c.func r.0 s.0 r.5 r.1 lt in omega (arith, n, a.1, b.1, wa, wb, s.3, r.3, q))
        ])
      ]
    where
      strict : (x z : ℕ) → z ≤ x → x ≢ z → z < x
      strict x z le ne = elim (less_or z x) [ inl l ↦ l | inr l ↦ absurd (ne (omega arith)) ]
  sites_apart (c ∷ calls) d e i j t u li lj (inl s) (inr r) q =
      let b = site_within calls e u r in let a = site_inside p pl c.func s.0 s.5 s.1 s.2 in let wa = ap width s.4 in absurd (omega (arith, a.1, wa, s.3, b.1, q))
  sites_apart (c ∷ calls) d e i j t u li lj (inr s) (inl r) q =
      let b = site_within calls d t s in let a = site_inside p pl c.func r.0 r.5 r.1 r.2 in let wa = ap width r.4 in absurd (omega (arith, a.1, wa, r.3, b.1, q))
  sites_apart (c ∷ calls) d e i j t u li lj (inr s) (inr r) q = sites_apart calls d e i j t u li lj s r q

  pub held_other : (calls : List Frame) (d : ℕ) (k : Kept) → HeldAt p pl calls d k → Other calls d
  held_other [] d k h = h
  held_other (c ∷ calls) d k (inl h) =
      let n = slice_get_within c.held h.0 k h.3 in
      inl (omega (arith, h.1, h.2), omega (arith, h.1, h.2), inl (omega (arith, h.1, h.2, n), omega (arith, h.1, h.2)))
  held_other (c ∷ calls) d k (inr h) = inr (held_other calls d k h)

  pub box_other : (calls : List Frame) (x d : ℕ) (t : TypeTree) → AllOwn p pl calls → NamedAt p pl calls x d true t → Other calls d
  box_other [] x d t own h = h
  box_other (c ∷ calls) x d t own (inl h) =
      let a = own.0.among h.0 h.1 in let r = cell_inside p pl c.func h.0 h.5 a.2 a.0 a.1 in
      inl (omega (arith, h.3, r.1), omega (arith, h.3, r.0), inr (inl (omega (arith, h.3, r.0, r.1), omega (arith, h.3, r.0, r.1))))
  box_other (c ∷ calls) x d t own (inr h) = inr (box_other calls x d t own.1 h)

  pub back_other : (calls : List Frame) (d n : ℕ) → BackAt p pl calls d n → Other calls d
  back_other [] d n h = h
  back_other (c ∷ calls) d n (inl h) = inl (omega (arith, h.0), omega (arith, h.0), inr (inr (omega (arith, h.0))))
  back_other (c ∷ calls) d n (inr h) = inr (back_other calls d n h)

  pub link_other : (calls : List Frame) (d : ℕ) (e : Option ℕ) → LinkAt p pl calls d e → Other calls d
  link_other [] d e h = h
  link_other (c ∷ calls) d e (inl h) = inl (omega (arith, h.0), omega (arith, h.0), inr (inr (omega (arith, h.0))))
  link_other (c ∷ calls) d e (inr h) = inr (link_other calls d e h)

  pub other_needed : (calls : List Frame) (d : ℕ) → Other calls d → Needed calls d
  other_needed [] d h = h
  other_needed (c ∷ calls) d (inr h) = inr (other_needed calls d h)
  other_needed (c ∷ calls) d (inl h) = inl (h.0, h.1, by h.2)
    where
      by : ((depth p pl (c ∷ calls) < d + outgoing_of p c.func + length c.held) × (depth p pl (c ∷ calls) < d + outgoing_of p c.func + temps_of p pl c.func)) ⊎ CellAt c (depth p pl (c ∷ calls)) d ⊎ (d ≤ depth p pl calls + 2) → (depth p pl (c ∷ calls) < d + outgoing_of p c.func + length c.held) ⊎ (d + (outgoing_of p c.func + temps_of p pl c.func) ≤ depth p pl (c ∷ calls))
      by (inl o) = inl o.0
      by (inr (inl o)) = inr (omega (arith, o.0))
      by (inr (inr o)) = inr (omega (arith, o))

  pub site_needed : (calls : List Frame) (d j : ℕ) (t : TypeTree) → j < width t → SiteAt p pl calls d t → Needed calls (d - j)
  site_needed [] d j t lt h = h
  site_needed (c ∷ calls) d j t lt (inl h) =
      let r = site_inside p pl c.func h.0 h.5 h.1 h.2 in let w = ap width h.4 in
      inl (omega (arith, h.3, r.1, w), omega (arith, h.3, r.0), inr (omega (arith, h.3, r.0)))
  site_needed (c ∷ calls) d j t lt (inr h) = inr (site_needed calls d j t lt h)

  -- the words in use are those of the running functions
  pub used : (l : Limits) (frames : (f : ℕ) (func : Func) → slice_get p.funcs f ≡ Some func → l.frame f ≡ frame_of p pl func) (calls : List Frame) → AllOwn p pl calls → used_by l (numbers calls) ≡ depth p pl calls
  used l frames [] own = refl
  used l frames (c ∷ calls) own =
      ap (λ n. n + used_by l (numbers calls)) (frames c.fn c.func own.0.named) ∙ ap (λ n. frame_of p pl c.func + n) (used l frames calls own.1)

-- words stand for the same while the world grows and homes only end, those on the heap never
pub record Later (homes homes1 : ℕ → Option Place) (w w1 : World) : Type 0 where
  pub keeps : (x : ℕ) (y : Cell) → slice_get w.store x ≡ Some y → (y1 : Cell) × (slice_get w1.store x ≡ Some y1) × (y1.type ≡ y.type)
  pub ends : (x : ℕ) (q : Place) → x < length w.store → homes1 x ≡ Some q → homes x ≡ Some q
  pub stays : (x h : ℕ) → x < length w.store → homes x ≡ Some (on_heap h) → homes1 x ≡ Some (on_heap h)

pub same_later : (homes : ℕ → Option Place) (w : World) → Later homes homes w w
same_later homes w = record { keeps = λ x y e. (y, e, refl); ends = λ x q l h. h; stays = λ x h l e. e }

pub reaches_later : (homes homes1 : ℕ → Option Place) (hi : ℕ) (w w1 : World) (t : TypeTree) (x : ℕ) (path : List ℕ) (lacks u : ℕ) → Later homes homes1 w w1 → Reaches homes hi w t x path lacks u → Reaches homes1 hi w1 t x path lacks u
reaches_later homes homes1 hi w w1 t x path lacks u l h =
    let k = l.keeps x h.cell h.there in
    record {
      cell = k.0;
      there = k.1;
      leads = subst (λ s. Leads s path t) (sym k.2) h.leads;
      less = subst (λ s. lacks ≤ offset s path) (sym k.2) h.less;
      some = h.some;
      at = λ q e. subst (λ s. u + lacks ≡ address_in hi q + offset s path) (sym k.2) (h.at q (l.ends x q (slice_get_within w.store x h.cell h.there) e));
    }

pub into_later : (homes homes1 : ℕ → Option Place) (hi : ℕ) (w w1 : World) (t : TypeTree) (x : ℕ) (path : List ℕ) (first room u : ℕ) → Later homes homes1 w w1 → ReachesInto homes hi w t x path first room u → ReachesInto homes1 hi w1 t x path first room u
into_later homes homes1 hi w w1 t x path first room u l h =
    let k = l.keeps x h.cell h.there in
    record {
      cell = k.0;
      there = k.1;
      count = h.count;
      leads = subst (λ s. Leads s path (array_of h.count t)) (sym k.2) h.leads;
      within = h.within;
      some = h.some;
      at = λ q e. subst (λ s. u ≡ address_in hi q + (offset s path + first * width t)) (sym k.2) (h.at q (l.ends x q (slice_get_within w.store x h.cell h.there) e));
    }

may_later : (led : Leading) (homes homes1 : ℕ → Option Place) (w w1 : World) (x : ℕ) → Later homes homes1 w w1 → x < length w.store → MayLead led homes x → MayLead led homes1 x
may_later to_none homes homes1 w w1 x l old m = absurd m
may_later to_heap homes homes1 w w1 x l old m = (m.0, l.stays x m.0 old m.1)
may_later to_any homes homes1 w w1 x l old m = tt

module _ (p : Program) (led : Leading) where
  pub stands_later : (homes homes1 : ℕ → Option Place) (hi : ℕ) (w w1 : World) (t : TypeTree) (c : Content) (u : ℕ) → Later homes homes1 w w1 → StandsFor p led homes hi w t c u → StandsFor p led homes1 hi w1 t c u
  stands_later homes homes1 hi w w1 ints (number z) u l h = h
  stands_later homes homes1 hi w w1 bools (truth b) u l h = h
  stands_later homes homes1 hi w w1 (pointer_to n) no_address u l h = h
  stands_later homes homes1 hi w w1 (pointer_to n) (part_address x path) u l h =
      (may_later led homes homes1 w w1 x l (slice_get_within w.store x h.2.cell h.2.there) h.0, h.1, reaches_later homes homes1 hi w w1 (type_named p n) x path 0 u l h.2)
  stands_later homes homes1 hi w w1 (slice_of n) no_address u l h = h
  stands_later homes homes1 hi w w1 (slice_of n) (array_address x path first room) u l h =
      (may_later led homes homes1 w w1 x l (slice_get_within w.store x h.1.cell h.1.there) h.0, into_later homes homes1 hi w w1 (type_named p n) x path first room u l h.1)
  stands_later homes homes1 hi w w1 (struct_of ts) c u l h = absurd h
  stands_later homes homes1 hi w w1 (array_of n t) c u l h = absurd h
  stands_later homes homes1 hi w w1 t c u l h = absurd h

  pub kept_later : (homes homes1 : ℕ → Option Place) (hi : ℕ) (w w1 : World) (k : Kept) (u : ℕ) → Later homes homes1 w w1 → StandsKept p led homes hi w k u → StandsKept p led homes1 hi w1 k u
  kept_later homes homes1 hi w w1 (word t c) u l h = stands_later homes homes1 hi w w1 t c u l h
  kept_later homes homes1 hi w w1 spent u l h = h
  kept_later homes homes1 hi w w1 (address t x path lacks) u l h = reaches_later homes homes1 hi w w1 t x path lacks u l h

  pub stand_later : (homes homes1 : ℕ → Option Place) (hi : ℕ) (w w1 : World) (ls : List TypeTree) (cs : List Content) (xs : List ℕ) → Later homes homes1 w w1 → Stand p led homes hi w ls cs xs → Stand p led homes1 hi w1 ls cs xs
  stand_later homes homes1 hi w w1 ls cs xs l s = record { long = s.long; each = λ j lt. stands_later homes homes1 hi w w1 (get_or ls j ints) (get_or cs j nothing) (slice_index xs j) l (s.each j lt) }

-- the other words of frames stay, while the world grows and homes only end
pub framed_later : (p : Program) (pl : Placement) (led : Leading) (v : View) (homes1 : ℕ → Option Place) (hi : ℕ) (w w1 : World) (calls : List Frame) (words words1 : List ℕ) → Homed p pl v w calls → Later v.homes homes1 w w1 → ((d : ℕ) → Other p pl calls d → word_at words1 d ≡ word_at words d) → Framed p pl led v.homes hi w calls words → Framed p pl led homes1 hi w1 calls words1
framed_later p pl led v homes1 hi w w1 calls words words1 g l same f = record {
  kept = λ d k h. subst (λ u. StandsKept p led homes1 hi w1 k u) (sym (same d (held_other p pl calls d k h))) (kept_later p led v.homes homes1 hi w w1 k _ l (f.kept d k h));
  boxed = λ x d h t m e. (let r = g.named x d true t m in same d (box_other p pl calls x d t g.owned m) ∙ f.boxed x d h t m (l.ends x (on_heap h) (slice_get_within w.store x r.0 r.1) e));
  backs = λ d n h. same d (back_other p pl calls d n h) ∙ f.backs d n h;
  links = λ d e h. same d (link_other p pl calls d e h) ∙ f.links d e h;
}
