-- What the words of a store stand for, wherever the stack lies.
use Rattle.std.specs.Prelude.{◌≡◌, ◌⊎◌, ℕ, ◌+◌, ◌*◌, ◌-◌, ◌^◌, ◌<◌, ◌≤◌, Bool, true, false, List, [], ◌∷◌, ◌++◌, length, map, Option, Some, None, get_or, slice_get, slice_index, slice_set}
use Rattle.std.specs.Int.{w64, cast_signed}
use Rattle.typed_syntax.specs.Types.{TypeTree, ints, bools, struct_of, array_of, pointer_to, slice_of, width}
use Rattle.typed_syntax.specs.Value.{Value, IsOf}
use Rattle.typed_syntax.specs.Paths.{Leads, offset}
use Rattle.typed_syntax.specs.Words.{Content, number, truth, no_address, part_address, array_address, contents}
use Rattle.typed_syntax.specs.Syntax.{Func, Program, type_named, site_type, is_made, global_type}
use Rattle.typed_syntax.specs.Form.{InScope}
use Rattle.frames.specs.Placement.{Placement}
use Rattle.frames.specs.Frames.{outgoing_of, temps_of, frame_of}
use Rattle.meaning.specs.Trace.{World, Cell}
use Rattle.meaning.specs.Meaning.{Env, with_home}
use Rattle.heap_bump.specs.Words.{first_address}
use Rattle.isa.specs.Bin.{bit_of}
use Rattle.machine.specs.Machine.{put_words, words_at}
use Rattle.program_code.specs.Code.{Slots, cell_slot, site_slot, slots_of, globals_before}
use Rattle.state_relation.specs.Leaves.{leaf}
use Rattle.state_relation.specs.Views.{Place, on_stack, on_heap, View}

-- A store: the stack from hi - size up to hi, of whose words the upper ones are used, counted from the lowest; the heap's words;
-- and how many items of the input were read.
pub record Memory : Type 0 where
  pub hi : ℕ
  pub size : ℕ
  pub words : List ℕ
  pub heap : List ℕ
  pub reads : ℕ

-- slots from one on get words, and one gets a word
abbrev pub puts : Memory → ℕ → List ℕ → Memory
puts s a xs = record s { words = put_words s.words a xs }

abbrev pub sets : Memory → ℕ → ℕ → Memory
sets s a x = record s { words = slice_set s.words a x }

-- ---- frames

-- What a temp keeps: a word of a value, with the type of that word; the address of a part of this type of a variable, which a
-- path leads to, and which still lacks some words; what is needed no longer.
pub data Kept : Type 0 where
  word : (t : TypeTree) (c : Content) → Kept
  address : (t : TypeTree) (x : ℕ) (path : List ℕ) (lacks : ℕ) → Kept
  spent : Kept

-- a running call: its function, the place that its own call returns to, the variable of each site, the sites in scope, and what
-- its temps keep
pub record Frame : Type 0 where
  pub fn : ℕ
  pub func : Func
  pub place : ℕ
  pub env : Env
  pub scope : List ℕ
  pub held : List Kept

-- other things are held
abbrev pub hold : Frame → List Kept → Frame
hold c held = record c { held = held }

-- it makes a call
abbrev pub placed : Frame → ℕ → Frame
placed c place = record c { place = place }

-- other variables, and other sites in scope
abbrev pub with_sites : Frame → Env → List ℕ → Frame
with_sites c env scope = record c { env = env; scope = scope }

-- a site gets a variable
abbrev pub grown : Frame → (site x : ℕ) → Frame
grown c site x = with_sites c (with_home c.env site x) (site ∷ c.scope)

-- the call with these variables, sites in scope and things held
abbrev pub during : Frame → Env → List ℕ → List Kept → Frame
during c env scope held = record c { env = env; scope = scope; held = held }

-- a call begins
abbrev pub fresh : ℕ → Func → Frame
fresh f func = record { fn = f; func = func; place = 0; env = λ x. 0; scope = []; held = [] }

abbrev pub numbers : List Frame → List ℕ
numbers [] = []
numbers (c ∷ calls) = c.fn ∷ numbers calls

-- where a call from these returns to
abbrev pub back_of : List Frame → ℕ
back_of [] = 0
back_of (c ∷ calls) = c.place

-- ---- places

-- where a place is when the stack ends here
abbrev pub address_in : ℕ → Place → ℕ
address_in hi (on_stack d) = hi - d
address_in hi (on_heap h) = first_address + h

abbrev pub behind : Place → ℕ → Place
behind (on_stack d) j = on_stack (d - j)
behind (on_heap h) j = on_heap (h + j)

-- the word that lies so far below the upper end
abbrev pub word_at : List ℕ → ℕ → ℕ
word_at words d = slice_index words (length words - d)

abbrev pub word_in : (words heap : List ℕ) → Place → ℕ
word_in words heap (on_stack d) = word_at words d
word_in words heap (on_heap h) = slice_index heap h

-- so many words from an offset on behind a place, and the store in which they are these
abbrev pub part_place : Memory → Place → (off n : ℕ) → List ℕ
part_place s (on_stack d) off n = words_at s.words (length s.words - (d - off)) n
part_place s (on_heap h) off n = words_at s.heap (h + off) n

abbrev pub set_place : Memory → Place → (off : ℕ) → List ℕ → Memory
set_place s (on_stack d) off xs = puts s (length s.words - (d - off)) xs
set_place s (on_heap h) off xs = record s { heap = put_words s.heap (h + off) xs }

-- ---- words

-- in the place of a content that is not there
abbrev pub nothing : Content
nothing = truth false

-- Which variables pointers and slices may lead to: none; those that live on the heap, whose homes stay, as in programs in form with a
-- placement that has rules; or any, also one whose home has ended.
pub data Leading : Type 0 where
  to_none : Leading
  to_heap : Leading
  to_any : Leading

abbrev pub MayLead : Leading → (ℕ → Option Place) → (x : ℕ) → Type 0
MayLead to_none homes x = ⊥
MayLead to_heap homes x = (h : ℕ) × (homes x ≡ Some (on_heap h))
MayLead to_any homes x = Unit {0}

-- a word is the address of a part of a variable, if that has a home, where it still lacks some words
pub record Reaches (homes : ℕ → Option Place) (hi : ℕ) (w : World) (t : TypeTree) (x : ℕ) (path : List ℕ) (lacks u : ℕ) : Type 0 where
  pub cell : Cell
  pub there : slice_get w.store x ≡ Some cell
  pub leads : Leads cell.type path t
  pub less : lacks ≤ offset cell.type path
  pub some : 0 < u
  pub at : (q : Place) → homes x ≡ Some q → u + lacks ≡ address_in hi q + offset cell.type path

-- A word is the address of an element of the array at a path of a variable, if that has a home, where there is room for so many from
-- the element on. Without room it may be the address behind the last one.
pub record ReachesInto (homes : ℕ → Option Place) (hi : ℕ) (w : World) (t : TypeTree) (x : ℕ) (path : List ℕ) (first room u : ℕ) : Type 0 where
  pub cell : Cell
  pub there : slice_get w.store x ≡ Some cell
  pub count : ℕ
  pub leads : Leads cell.type path (array_of count t)
  pub within : first + room ≤ count
  pub some : 0 < u
  pub at : (q : Place) → homes x ≡ Some q → u ≡ address_in hi q + (offset cell.type path + first * width t)

module _ (p : Program) (led : Leading) where
  -- a word stands for a content of a type of one word; what a pointer leads to has a word at least
  abbrev pub StandsFor : (ℕ → Option Place) → (hi : ℕ) → World → TypeTree → Content → ℕ → Type 0
  StandsFor homes hi w ints (number z) u = (cast_signed w64 u ≡ z) × (u < 2 ^ 64)
  StandsFor homes hi w bools (truth b) u = u ≡ bit_of b
  StandsFor homes hi w (pointer_to n) no_address u = u ≡ 0
  StandsFor homes hi w (pointer_to n) (part_address x path) u = MayLead led homes x × (0 < width (type_named p n)) × Reaches homes hi w (type_named p n) x path 0 u
  StandsFor homes hi w (slice_of n) no_address u = u ≡ 0
  StandsFor homes hi w (slice_of n) (array_address x path first room) u = MayLead led homes x × ReachesInto homes hi w (type_named p n) x path first room u
  StandsFor homes hi w (struct_of ts) c u = ⊥
  StandsFor homes hi w (array_of n t) c u = ⊥
  StandsFor homes hi w t c u = ⊥

  abbrev pub StandsKept : (ℕ → Option Place) → (hi : ℕ) → World → Kept → ℕ → Type 0
  StandsKept homes hi w (word t c) u = StandsFor homes hi w t c u
  StandsKept homes hi w (address t x path lacks) u = Reaches homes hi w t x path lacks u
  StandsKept homes hi w spent u = Unit {0}

  -- words hold contents of these types, one by one
  pub record Stand (homes : ℕ → Option Place) (hi : ℕ) (w : World) (ls : List TypeTree) (cs : List Content) (xs : List ℕ) : Type 0 where
    pub long : length xs ≡ length ls
    pub each : (j : ℕ) → j < length ls → StandsFor homes hi w (get_or ls j ints) (get_or cs j nothing) (slice_index xs j)

-- what temps keep of words of these types
abbrev pub keeps : List TypeTree → List Content → List Kept
keeps [] cs = []
keeps (l ∷ ls) [] = word l nothing ∷ keeps ls []
keeps (l ∷ ls) (c ∷ cs) = word l c ∷ keeps ls cs

-- the contents of values side by side
abbrev pub contents_of : List Value → List Content
contents_of [] = []
contents_of (v ∷ vs) = contents v ++ contents_of vs

-- where a site has its words in a frame: the cell, where its variables live on the heap, and else their words
abbrev pub slot_of : Slots → (boxed : Bool) → (site : ℕ) → ℕ
slot_of s true site = cell_slot s site
slot_of s false site = site_slot s site

-- ---- package variables

abbrev pub sites_of : List (ℕ × Value) → List ℕ
sites_of gs = map (λ g. g.0) gs

-- the words of the first package variables, and of all
abbrev pub words_before : Program → ℕ → ℕ
words_before p g = globals_before p.sites (sites_of p.globals) g

abbrev pub all_words : Program → ℕ
all_words p = words_before p (length p.globals)

module _ (p : Program) (pl : Placement) where
  -- ---- where the words of frames lie

  -- the words of these calls
  abbrev pub depth : List Frame → ℕ
  depth [] = 0
  depth (c ∷ calls) = frame_of p pl c.func + depth calls

  -- how deep the end of the frame above a call from these lies, if there is a frame
  abbrev pub over : List Frame → Option ℕ
  over [] = None
  over (c ∷ calls) = Some (depth calls)

  -- A word of a site, whose variables live in the frame; of the variable x, at a site in scope, or the cell of such a site whose variables
  -- live on the heap; of a temp that keeps something; a return place; and a link, which leads so deep.
  abbrev pub SiteAt : List Frame → ℕ → TypeTree → Type 0
  SiteAt [] d t = ⊥
  SiteAt (c ∷ calls) d t =
      ((site : ℕ) × (c.func.first ≤ site) × (site < c.func.first + c.func.count) × (d ≡ depth (c ∷ calls) - site_slot (slots_of p pl c.func) site) × (site_type p site ≡ t) × (pl.on_heap site ≡ false)) ⊎ SiteAt calls d t

  abbrev pub NamedAt : List Frame → (x d : ℕ) (boxed : Bool) → TypeTree → Type 0
  NamedAt [] x d boxed t = ⊥
  NamedAt (c ∷ calls) x d boxed t =
      ((site : ℕ) × InScope site c.scope × (x ≡ c.env site) × (d ≡ depth (c ∷ calls) - slot_of (slots_of p pl c.func) boxed site) × (site_type p site ≡ t) × (pl.on_heap site ≡ boxed)) ⊎ NamedAt calls x d boxed t

  abbrev pub HeldAt : List Frame → ℕ → Kept → Type 0
  HeldAt [] d k = ⊥
  HeldAt (c ∷ calls) d k = ((i : ℕ) × (i < temps_of p pl c.func) × (d ≡ depth (c ∷ calls) - (outgoing_of p c.func + i)) × (slice_get c.held i ≡ Some k)) ⊎ HeldAt calls d k

  abbrev pub BackAt : List Frame → (d place : ℕ) → Type 0
  BackAt [] d place = ⊥
  BackAt (c ∷ calls) d place = ((d ≡ depth calls + 1) × (place ≡ back_of calls)) ⊎ BackAt calls d place

  abbrev pub LinkAt : List Frame → (d : ℕ) → Option ℕ → Type 0
  LinkAt [] d e = ⊥
  LinkAt (c ∷ calls) d e = ((d ≡ depth calls + 2) × (e ≡ over calls)) ⊎ LinkAt calls d e

  -- ---- the four parts

  -- a running call is one of a function of the program, whose temps have room for what they keep, with sites of its own in scope, whose
  -- variables are declared: each that lives on the heap has a cell
  pub record Own (c : Frame) : Type 0 where
    pub named : slice_get p.funcs c.fn ≡ Some c.func
    pub room : length c.held ≤ temps_of p pl c.func
    pub among : (site : ℕ) → InScope site c.scope → (c.func.first ≤ site) × (site < c.func.first + c.func.count) × (is_made p site ≡ false)

  abbrev pub AllOwn : List Frame → Type 0
  AllOwn [] = Unit {0}
  AllOwn (c ∷ calls) = Own c × AllOwn calls

  -- while calls run, so many variables or more are those of the package
  abbrev pub Begun : List Frame → ℕ → Type 0
  Begun [] n = Unit {0}
  Begun (c ∷ calls) n = length p.globals ≤ n

  -- What is known of homes, whatever the store is. Words of homes are apart; a home on the stack is one of a site, and one on the
  -- heap lies among the words that are taken. The variables of sites in scope have their homes at these sites or on the heap, those
  -- of the package one after the other.
  pub record Homed (v : View) (w : World) (calls : List Frame) : Type 0 where
    pub sole : (x z i j : ℕ) (a b : Cell) (q r : Place) → slice_get w.store x ≡ Some a → slice_get w.store z ≡ Some b → v.homes x ≡ Some q → v.homes z ≡ Some r → i < width a.type → j < width b.type → behind q i ≡ behind r j → (x ≡ z) × (i ≡ j)
    pub known : (x : ℕ) (q : Place) → v.homes x ≡ Some q → x < length w.store
    pub stacked : (x d : ℕ) (y : Cell) → slice_get w.store x ≡ Some y → v.homes x ≡ Some (on_stack d) → SiteAt calls d y.type
    pub heaped : (x h : ℕ) (y : Cell) → slice_get w.store x ≡ Some y → v.homes x ≡ Some (on_heap h) → h + width y.type ≤ v.heap
    pub named : (x d : ℕ) (boxed : Bool) (t : TypeTree) → NamedAt calls x d boxed t → (y : Cell) × (slice_get w.store x ≡ Some y) × (y.type ≡ t)
    pub slots : (x d : ℕ) (t : TypeTree) → NamedAt calls x d false t → v.homes x ≡ Some (on_stack d)
    pub boxes : (x d : ℕ) (t : TypeTree) → NamedAt calls x d true t → (h : ℕ) × (v.homes x ≡ Some (on_heap h))
    pub globals : (g : ℕ) → g < length p.globals → g < length w.store → (y : Cell) × (slice_get w.store g ≡ Some y) × (y.type ≡ global_type p g) × (v.homes g ≡ Some (on_heap (words_before p g)))
    pub begun : Begun calls (length w.store)
    pub typed : (x : ℕ) (y : Cell) → slice_get w.store x ≡ Some y → IsOf y.type y.value
    pub births : v.births ≡ length w.store
    pub calling : v.calls ≡ numbers calls
    pub owned : AllOwn calls

  -- each word of each variable with a home stands for its content
  abbrev pub Cells : Leading → (ℕ → Option Place) → (hi : ℕ) → World → (words heap : List ℕ) → Type 0
  Cells led homes hi w words heap =
      (x j : ℕ) (y : Cell) (q : Place) → slice_get w.store x ≡ Some y → homes x ≡ Some q → j < width y.type → StandsFor p led homes hi w (leaf y.type j) (get_or (contents y.value) j nothing) (word_in words heap (behind q j))

  -- the word of a link: that of the first frame is 0
  abbrev pub link_word : (hi : ℕ) → Option ℕ → ℕ
  link_word hi None = 0
  link_word hi (Some e) = hi - e

  -- the other words of the frames; a cell has the address of its variable
  pub record Framed (led : Leading) (homes : ℕ → Option Place) (hi : ℕ) (w : World) (calls : List Frame) (words : List ℕ) : Type 0 where
    pub kept : (d : ℕ) (k : Kept) → HeldAt calls d k → StandsKept p led homes hi w k (word_at words d)
    pub boxed : (x d h : ℕ) (t : TypeTree) → NamedAt calls x d true t → homes x ≡ Some (on_heap h) → word_at words d ≡ first_address + h
    pub backs : (d place : ℕ) → BackAt calls d place → word_at words d ≡ place
    pub links : (d : ℕ) (e : Option ℕ) → LinkAt calls d e → word_at words d ≡ link_word hi e

  module _ (max : ℕ) where
    -- Lengths, and where the stack lies: wherever it ends, it has room for all the words that it may have. Addresses of the heap are below
    -- all of the stack's.
    pub record Sized (heap reads : ℕ) (calls : List Frame) (s : Memory) : Type 0 where
      pub used : length s.words ≡ depth calls
      pub heap_used : length s.heap ≡ heap
      pub asked : s.reads ≡ reads
      pub full : s.size ≡ max
      pub low : 2 ^ 40 + s.size ≤ s.hi
      pub high : s.hi < 2 ^ 64
      pub fits : depth calls ≤ s.size
      pub small : heap ≤ 2 ^ 32

    -- how a store stands for the world, with these calls, seen so
    pub record Good (led : Leading) (v : View) (w : World) (calls : List Frame) (s : Memory) : Type 0 where
      pub homed : Homed v w calls
      pub cells : Cells led v.homes s.hi w s.words s.heap
      pub framed : Framed led v.homes s.hi w calls s.words
      pub sized : Sized v.heap w.reads calls s
