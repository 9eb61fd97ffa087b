-- That the slots of a frame suffice for statements and functions.
use Rattle.std.specs.Prelude.{◌≡◌, ℕ, zero, suc, ◌+◌, ◌<◌, ◌≤◌, true, List, [], ◌∷◌, Option, Some, None}
use Rattle.typed_syntax.specs.Types.{width, part_type}
use Rattle.typed_syntax.specs.Syntax.{Ex, Left, Piece, St, Sts, Func, Program, blank, new, to, text, shown, over_int, over_length, over_copy, over_slice, over_pointer, over_pointed, declare, assign, update, bump, discard, block, if_stmt, for_stmt, range, break_stmt, continue_stmt, return_stmt, print, panic, exit, done, next, argument_words, result_words, type_named, all_wide, each_width, value_widths}
use Rattle.frames.specs.Placement.{Placement}
use Rattle.frames.specs.Frames.{far}
use Rattle.program_code.specs.Code.{Slots, site_type, site_words, first_width, other_widths, above_address, near_words, place_above, lefts_above, slots_of}
use Rattle.expression_code.specs.Temps.{SiteFits, PlaceFits, AddressFits, Fits, OperandsFit, ExsFitIn}

abbrev pub SitesFit : Slots → (n : ℕ) → List ℕ → Type 0
SitesFit s n [] = Unit {0}
SitesFit s n (site ∷ sites) = SiteFits s n site × SitesFit s n sites

-- the words of sites
abbrev pub sites_words : Slots → List ℕ → ℕ
sites_words s [] = 0
sites_words s (site ∷ sites) = site_words s site + sites_words s sites

abbrev pub ParamFits : Slots → (n : ℕ) → Option ℕ → Type 0
ParamFits s n None = Unit {0}
ParamFits s n (Some site) = SiteFits s n site

-- a parameter has so many words, which go through temps where its variables live on the heap
abbrev pub HasWords : Slots → (words : ℕ) → Option ℕ → Type 0
HasWords s words None = Unit {0}
HasWords s words (Some site) = (site_words s site ≡ words) × (s.placement.on_heap site ≡ true → words ≤ s.temps)

-- parameters of as many words each as the list says
abbrev pub ParamsFitIn : Slots → (n : ℕ) → (each : List ℕ) → List (Option ℕ) → Type 0
ParamsFitIn s n ns [] = Unit {0}
ParamsFitIn s n ns (q ∷ ps) = ParamFits s n q × HasWords s (first_width ns) q × ParamsFitIn s n (other_widths ns) ps

-- a left side, and the temp for an address
abbrev pub LeftFits : Slots → (n at : ℕ) → Left → Type 0
LeftFits s n at blank = Unit {0}
LeftFits s n at (new site) = SiteFits s n site
LeftFits s n at (to p) = PlaceFits s n p × AddressFits s.temps at p

-- the words that it takes
abbrev pub left_words : Slots → Left → ℕ
left_words s blank = 0
left_words s (new site) = site_words s site
left_words s (to p) = near_words s p

-- left sides, the temps from h on whose words they get, as many each as the list says
abbrev pub LeftsFitIn : Slots → (n at h : ℕ) → (each : List ℕ) → List Left → Type 0
LeftsFitIn s n at h ns [] = Unit {0}
LeftsFitIn s n at h ns (l ∷ ls) = (h + first_width ns ≤ s.temps) × LeftFits s n at l × (left_words s l ≤ first_width ns) × LeftsFitIn s n at (h + first_width ns) (other_widths ns) ls

-- n words of values in temps from h on, for words of results with these names or none
abbrev pub ValuesFit : Slots → (wanted h n : ℕ) → List ℕ → Type 0
ValuesFit s wanted h n [] = (h + n ≤ s.temps) × (n ≤ wanted)
ValuesFit s wanted h zero (site ∷ sites) = Unit {0}
ValuesFit s wanted h (suc n) (site ∷ sites) = h + sites_words s (site ∷ sites) ≤ s.temps

-- variables of sites are moved one by one through temps from h on: those of a new round, and results with names
abbrev pub MovesFit : Slots → (h : ℕ) → List ℕ → Type 0
MovesFit s h [] = Unit {0}
MovesFit s h (site ∷ sites) = (h + site_words s site ≤ s.temps) × MovesFit s h sites

module _ (p : Program) (s : Slots) (n : ℕ) where
  -- the operands of left sides, in temps from h on
  abbrev pub ReadyFitIn : (h : ℕ) → List Left → Type 0
  ReadyFitIn h [] = Unit {0}
  ReadyFitIn h (blank ∷ ls) = ReadyFitIn h ls
  ReadyFitIn h (new site ∷ ls) = ReadyFitIn h ls
  ReadyFitIn h (to q ∷ ls) = OperandsFit p s n h q × ReadyFitIn (place_above q h) ls

  abbrev pub PiecesFitIn : (h : ℕ) → List Piece → Type 0
  PiecesFitIn h [] = Unit {0}
  PiecesFitIn h (text number ∷ ps) = PiecesFitIn h ps
  PiecesFitIn h (shown t e ∷ ps) = (h < s.temps) × Fits p s n h e × PiecesFitIn (h + 1) ps

  abbrev pub TestFitsIn : (h : ℕ) → Option Ex → Type 0
  TestFitsIn h None = Unit {0}
  TestFitsIn h (Some e) = (h < s.temps) × Fits p s n h e

  -- the left sides of a round over a slice of elements of w words, whose header is in temps from h on
  abbrev pub SliceRoundFits : (w h : ℕ) → (key value : Left) → Type 0
  SliceRoundFits w h key blank = ReadyFitIn (h + 4) (key ∷ []) × LeftFits s n (lefts_above (key ∷ []) (h + 4)) key × (left_words s key ≤ 1)
  SliceRoundFits w h key value =
      let v = lefts_above (key ∷ value ∷ []) (h + 4) in
      ReadyFitIn (h + 4) (key ∷ value ∷ []) × (v + 1 + w ≤ s.temps) × LeftsFitIn s n (v + 1 + w) v (1 ∷ w ∷ []) (key ∷ value ∷ [])

  -- the statements of a function with these words of results, and these names for them, with temps from h on
  module _ (wanted : ℕ) (named : List ℕ) where
    abbrev mutual
      pub StFitsIn : (h : ℕ) → St → Type 0
      StFitsIn h (declare sites) = SitesFit s n sites
      StFitsIn h (assign ls es) =
          let first = lefts_above ls h in
          (first + all_wide p es ≤ s.temps) × ReadyFitIn h ls × ExsFitIn p s n first es × LeftsFitIn s n (first + all_wide p es) first (value_widths p es) ls
      StFitsIn h (update at q op e) =
          let v = above_address (far q) (place_above q h) in
          (v + 1 < s.temps) × PlaceFits s n q × (near_words s q ≤ 1) × OperandsFit p s n h q × Fits p s n (v + 1) e
      StFitsIn h (bump at q op) = (above_address (far q) (place_above q h) + 1 < s.temps) × PlaceFits s n q × (near_words s q ≤ 1) × OperandsFit p s n h q
      StFitsIn h (discard es) = ExsFitIn p s n h es
      StFitsIn h (block ss) = StsFitIn h ss
      StFitsIn h (if_stmt e a b) = (h < s.temps) × Fits p s n h e × StsFitIn h a × StsFitIn h b
      StFitsIn h (for_stmt sites test post body) = TestFitsIn h test × SitesFit s n sites × MovesFit s h sites × StsFitIn h post × StsFitIn h body
      StFitsIn h (range (over_int e) key value body) = (h + 2 < s.temps) × Fits p s n h e × ReadyFitIn (h + 2) (key ∷ []) × LeftFits s n (lefts_above (key ∷ []) (h + 2)) key × (left_words s key ≤ 1) × StsFitIn (h + 2) body
      StFitsIn h (range (over_length x) key value body) =
          (h + 1 < s.temps) × ReadyFitIn (h + 1) (key ∷ []) × LeftFits s n (lefts_above (key ∷ []) (h + 1)) key × (left_words s key ≤ 1) × StsFitIn (h + 1) body
      -- the copy has elements with words; the left sides get the index and an element
      StFitsIn h (range (over_copy site e x) key value body) =
          let w = width (part_type (site_type s site) 0) in let v = lefts_above (key ∷ value ∷ []) (h + 1) in
          (h + 1 < s.temps) × SiteFits s n site × (h + site_words s site ≤ s.temps) × (0 < x) × (x ≤ site_words s site) × (0 < w) × Fits p s n h e × ReadyFitIn (h + 1) (key ∷ value ∷ []) × (v + 1 + w ≤ s.temps)
          × LeftsFitIn s n (v + 1 + w) v (1 ∷ w ∷ []) (key ∷ value ∷ []) × StsFitIn (h + 1) body
      -- what the pointer leads to is an array of a type of the program
      StFitsIn h (range (over_pointer at e x t) key value body) =
          let w = width (type_named p t) in let v = lefts_above (key ∷ value ∷ []) (h + 2) in
          (h + 2 < s.temps) × ((a : ℕ) × (x ≤ width (type_named p a))) × (0 < x) × (0 < w) × Fits p s n h e × ReadyFitIn (h + 2) (key ∷ value ∷ []) × (v + 1 + w ≤ s.temps)
          × LeftsFitIn s n (v + 1 + w) v (1 ∷ w ∷ []) (key ∷ value ∷ []) × StsFitIn (h + 2) body
      StFitsIn h (range (over_pointed x) key value body) =
          (h + 2 < s.temps) × ReadyFitIn (h + 2) (key ∷ []) × LeftFits s n (lefts_above (key ∷ []) (h + 2)) key × (left_words s key ≤ 1) × StsFitIn (h + 2) body
      StFitsIn h (range (over_slice e t) key value body) =
          let w = width (type_named p t) in (h + 4 < s.temps) × (0 < w) × Fits p s n h e × SliceRoundFits w h key value × StsFitIn (h + 4) body
      StFitsIn h break_stmt = Unit {0}
      StFitsIn h continue_stmt = Unit {0}
      StFitsIn h (return_stmt es) = ExsFitIn p s n h es × ValuesFit s wanted h (all_wide p es) named
      StFitsIn h (print ln ps) = PiecesFitIn h ps
      StFitsIn h (panic at (text number)) = Unit {0}
      StFitsIn h (panic at (shown t e)) = (h < s.temps) × Fits p s n h e
      StFitsIn h (exit at e) = (h < s.temps) × Fits p s n h e

      pub StsFitIn : (h : ℕ) → Sts → Type 0
      StsFitIn h done = Unit {0}
      StsFitIn h (next x xs) = StFitsIn h x × StsFitIn h xs

-- a function in its frame, where its variables live so
pub record FuncFitsIn (p : Program) (l : Placement) (f : Func) : Type 0 where
  pub params : ParamsFitIn (slots_of p l f) f.count (each_width f.param_types) f.params
  pub named : SitesFit (slots_of p l f) f.count f.named
  pub names : sites_words (slots_of p l f) f.named ≤ result_words f
  pub moves : MovesFit (slots_of p l f) 0 f.named
  pub body : StsFitIn p (slots_of p l f) f.count (result_words f) f.named 0 f.body
  pub small : argument_words f + result_words f ≤ 65535
