-- Sites in their slots or with their cells, and how words are moved there.
use Rattle.std.proofs.Common.{◌≡◌, ◌≢◌, ℕ, zero, suc, ◌+◌, ◌-◌, ◌<◌, ◌≤◌, Bool, true, false, List, get_or, length, refl, sym, ap, ◌∙◌, arith}
use Rattle.std.specs.Prelude.{if◌then◌else◌}
use Rattle.isa.specs.declared.instr.Instr.TheVariants.{Address, Alloc, Born, Move, Zero}
use Rattle.isa.specs.declared.instr.MoveEvent.TheVariants.{Silent}
use Rattle.typed_syntax.specs.Types.{TypeTree}
use Rattle.frames.specs.Placement.{Placement}
use Rattle.frames.specs.Frames.{cell_words, cells_between, stack_words, words_between}
use Rattle.frame_layout.specs.Layout.{start_at, starts}
use Rattle.program_code.specs.Code.{Slots, in_slots, by_address, born_code, cell_slot, local_root, site_access, site_slot, site_words, temp, zeros}
use Rattle.program_code.proofs.Sites.{between_next, stack_is}
use Rattle.expression_code.specs.Accesses.{begin, born}
use Rattle.expression_code.specs.Temps.{SiteFits}

-- the words of a site in the frame are among those of the frame's sites
pub site_within : (s : Slots) (n site : ℕ) → s.placement.on_heap site ≡ false → SiteFits s n site → words_between s.placement s.sites s.first (site - s.first) + site_words s site ≤ words_between s.placement s.sites s.first n
site_within s n site stays f =
    let from = f.0 in let to = f.1 in
    let e : s.first + (site - s.first) ≡ site = omega (arith, from) in
    let q = ap (λ i. stack_words s.placement s.sites i) e ∙ stack_is s.placement s.sites site stays in
    let r = between_next s.placement s.sites s.first (site - s.first) n (omega (arith, from, to)) in omega (arith, q, r)

-- fewer sites have no more cells and words
cells_least : (l : Placement) (made : List Bool) (from k n : ℕ) → k ≤ n → cells_between l made from k ≤ cells_between l made from n
cells_least l made from zero n le = omega arith
cells_least l made from (suc k) zero le = absurd (omega (arith, le))
cells_least l made from (suc k) (suc n) le = let r = cells_least l made (suc from) k n (omega (arith, le)) in omega (arith, r)

words_least : (l : Placement) (sites : List TypeTree) (from k n : ℕ) → k ≤ n → words_between l sites from k ≤ words_between l sites from n
words_least l sites from zero n le = omega arith
words_least l sites from (suc k) zero le = absurd (omega (arith, le))
words_least l sites from (suc k) (suc n) le = let r = words_least l sites (suc from) k n (omega (arith, le)) in omega (arith, r)

-- where a site starts
pub starts_length : (l : Placement) (made : List Bool) (sites : List TypeTree) (from cell word n : ℕ) → length (starts l made sites from cell word n) ≡ n
starts_length l made sites from cell word zero = refl
starts_length l made sites from cell word (suc n) = ap suc (starts_length l made sites (suc from) (cell + cell_words l made from) (word + stack_words l sites from) n)

start_same : (l : Placement) (i j c d v w : ℕ) → i ≡ j → c ≡ d → v ≡ w → start_at l i c v ≡ start_at l j d w
start_same l i j c d v w e f g = ap (λ k. start_at l k c v) e ∙ ap (λ k. start_at l j k v) f ∙ ap (λ k. start_at l j d k) g

start_of : (l : Placement) (made : List Bool) (sites : List TypeTree) (from cell word n k d : ℕ) → k < n
    → get_or (starts l made sites from cell word n) k d ≡ start_at l (from + k) (cell + cells_between l made from k) (word + words_between l sites from k)
start_of l made sites from cell word zero k d lt = absurd (omega (arith, lt))
start_of l made sites from cell word (suc n) zero d lt = start_same l from (from + 0) cell (cell + 0) word (word + 0) (omega arith) (omega arith) (omega arith)
start_of l made sites from cell word (suc n) (suc k) d lt =
    let cells = cell_words l made from in let words = stack_words l sites from in
    start_of l made sites (suc from) (cell + cells) (word + words) n k d (omega (arith, lt))
    ∙ start_same l (suc from + k) (from + suc k) (cell + cells + cells_between l made (suc from) k) (cell + (cells + cells_between l made (suc from) k)) (word + words + words_between l sites (suc from) k) (word + (words + words_between l sites (suc from) k)) (omega arith) (omega arith) (omega arith)

module _ (s : Slots) (site : ℕ) (fits : SiteFits s s.count site) where
  abbrev pub cells_before : ℕ
  cells_before = cells_between s.placement s.made s.first (site - s.first)

  abbrev pub words_before : ℕ
  words_before = cells_between s.placement s.made s.first s.count + words_between s.placement s.sites s.first (site - s.first)

  pub start_is : (x : ℕ) (items : List ℕ) → items ≡ starts s.placement s.made s.sites s.first 0 (cells_between s.placement s.made s.first s.count) s.count → x ≡ get_or items (site - s.first) x → x ≡ start_at s.placement site cells_before words_before
  start_is x items same is =
      let from = fits.0 in let to = fits.1 in
      is ∙ ap (λ ns. get_or ns (site - s.first) x) same ∙ start_of s.placement s.made s.sites s.first 0 (cells_between s.placement s.made s.first s.count) s.count (site - s.first) x (omega (arith, from, to))
      ∙ start_same s.placement (s.first + (site - s.first)) site (0 + cells_before) cells_before words_before words_before (omega (arith, from)) (omega arith) refl

  -- it is within the frame
  pub start_within : (x : ℕ) → x ≡ start_at s.placement site cells_before words_before → x ≤ cells_between s.placement s.made s.first s.count + words_between s.placement s.sites s.first s.count
  start_within x is =
      let from = fits.0 in let to = fits.1 in
      let cells = cells_least s.placement s.made s.first (site - s.first) s.count (omega (arith, from, to)) in
      let words = words_least s.placement s.sites s.first (site - s.first) s.count (omega (arith, from, to)) in
      let most = pick (s.placement.on_heap site) cells_before words_before (cells_between s.placement s.made s.first s.count + words_between s.placement s.sites s.first s.count) (omega (arith, cells)) (omega (arith, words)) in omega (arith, is, most)
    where
      pick : (b : Bool) (c w m : ℕ) → c ≤ m → w ≤ m → (if b then c else w) ≤ m
      pick true c w m k l = k
      pick false c w m k l = l

  -- the site's words are behind its cell, or in its slots
  module _ (x : ℕ) (is : x ≡ start_at s.placement site cells_before words_before) where
    pub by_cell : s.placement.on_heap site ≡ true → by_address (s.outgoing + s.temps + x) ≡ site_access s site
    by_cell apart =
        ap (λ k. by_address (s.outgoing + s.temps + k)) (is ∙ ap (λ b. if b then cells_before else words_before) apart)
        ∙ sym (ap (λ b. if b then by_address (cell_slot s site) else in_slots (site_slot s site)) apart)

    start_stays : s.placement.on_heap site ≡ false → s.outgoing + s.temps + x ≡ site_slot s site
    start_stays stays = let e = is ∙ ap (λ b. if b then cells_before else words_before) stays in omega (arith, e)

    pub by_slots : s.placement.on_heap site ≡ false → in_slots (s.outgoing + s.temps + x) ≡ site_access s site
    by_slots stays = ap in_slots (start_stays stays) ∙ sym (ap (λ b. if b then by_address (cell_slot s site) else in_slots (site_slot s site)) stays)

    pub slots_span : s.placement.on_heap site ≡ false → s.outgoing + s.temps + cells_between s.placement s.made s.first s.count + words_between s.placement s.sites s.first s.count ≤ 65535 → s.outgoing + s.temps + x + site_words s site ≤ 65535
    slots_span stays room = let e = start_stays stays in let own = site_within s s.count site stays fits in omega (arith, e, own, room)

-- a birth, and the address of a variable, by where its words are
pub born_is : (s : Slots) (site : ℕ) → born (site_access s site) (site_words s site) site ≡ born_code s site
born_is s site = by (s.placement.on_heap site) (cell_slot s site) (site_slot s site) (site_words s site)
  where
    by : (b : Bool) (cell slot n : ℕ) → born (if b then by_address cell else in_slots slot) n site ≡ (if b then Alloc cell n site else Born slot n site)
    by true cell slot n = refl
    by false cell slot n = refl

pub begin_is : (s : Slots) (site at : ℕ) → begin (site_access s site) (temp s at) ≡ local_root s site at
begin_is s site at = by (s.placement.on_heap site) (cell_slot s site) (site_slot s site) (temp s at)
  where
    by : (b : Bool) (cell slot a : ℕ) → begin (if b then by_address cell else in_slots slot) a ≡ (if b then Move Silent a cell 1 else Address a slot)
    by true cell slot a = refl
    by false cell slot a = refl

pub zeros_many : (n a : ℕ) → n ≢ 1 → zeros n a ≡ Zero a n
zeros_many zero a other = refl
zeros_many (suc zero) a other = absurd (other refl)
zeros_many (suc (suc n)) a other = refl
