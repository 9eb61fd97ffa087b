-- What holds of all types, values and paths.
use Rattle.std.specs.Prelude.{◌≡◌, ◌⊎◌, ◌↔◌, ℕ, ◌+◌, ◌*◌, ◌<◌, ◌≤◌, Bool, List, ◌∷◌, ◌++◌, length, replicate, get_or, slice_get, Some, IsTrue, Decides}
use Rattle.typed_syntax.specs.Types.{TypeTree, array_of, width, TypeEntry, entry_type, types_of, PartsBefore}
use Rattle.typed_syntax.specs.Value.{Value, Values, int, bool, composite, nil_pointer, pointer, nil_slice, slice_in, no_values, more_values, words, IsOf, FitsWords, LeadsNowhere, zero_of, same}
use Rattle.typed_syntax.specs.Paths.{at_path, with_path, Leads, type_at, offset, Apart}
use Rattle.typed_syntax.specs.Words.{Content, number, truth, no_address, part_address, array_address, contents, words_of, IsZero, AreAlike, Hold, all_equal, slice, with_slice}

-- ---- words

-- each value of a type has as many words as the type says
pub record Counted (t : TypeTree) (v : Value) : Type 0 where
  pub count : words v ≡ width t
  pub contents : length (contents v) ≡ width t
  pub words : length (words_of v) ≡ width t

abbrev pub TypesCountWords : Type 0
TypesCountWords = (t : TypeTree) (v : Value) → IsOf t v → Counted t v

-- the part at a path is a slice: its words are those from the path's offset on, among those of the whole
pub record Sliced (t s : TypeTree) (v : Value) (path : List ℕ) : Type 0 where
  pub within : offset t path + width s ≤ width t
  pub contents : contents (at_path v path) ≡ slice (contents v) (offset t path) (width s)
  pub words : words_of (at_path v path) ≡ slice (words_of v) (offset t path) (width s)

abbrev pub PartsAreSlices : Type 0
PartsAreSlices = (t s : TypeTree) (v : Value) (path : List ℕ) → IsOf t v → Leads t path s → Sliced t s v path

-- another part at a path is another slice
pub record Replaced (t : TypeTree) (v x : Value) (path : List ℕ) : Type 0 where
  pub contents : contents (with_path v path x) ≡ with_slice (contents v) (offset t path) (contents x)
  pub words : words_of (with_path v path x) ≡ with_slice (words_of v) (offset t path) (words_of x)

abbrev pub ReplacedPartsAreSlices : Type 0
ReplacedPartsAreSlices = (t s : TypeTree) (v x : Value) (path : List ℕ) → IsOf t v → Leads t path s → IsOf s x → Replaced t v x path

-- the same word by word
pub record PartWords (t s : TypeTree) (v x : Value) (path : List ℕ) (none : Content) : Type 0 where
  pub read : (j : ℕ) → j < width s → get_or (contents (at_path v path)) j none ≡ get_or (contents v) (offset t path + j) none
  pub inside : (j : ℕ) → j < width s → get_or (contents (with_path v path x)) (offset t path + j) none ≡ get_or (contents x) j none
  pub before : (j : ℕ) → j < offset t path → get_or (contents (with_path v path x)) j none ≡ get_or (contents v) j none
  pub behind : (j : ℕ) → offset t path + width s ≤ j → get_or (contents (with_path v path x)) j none ≡ get_or (contents v) j none

abbrev pub WordsOfParts : Type 0
WordsOfParts = (t s : TypeTree) (v x : Value) (path : List ℕ) (none : Content) → IsOf t v → Leads t path s → IsOf s x → PartWords t s v x path none

-- and of words that hold these contents in whatever way
pub record HeldParts (Holds : Content → ℕ → Type 0) (t s : TypeTree) (v x : Value) (path : List ℕ) (ws xs : List ℕ) : Type 0 where
  pub read : Hold Holds (contents (at_path v path)) (slice ws (offset t path) (width s))
  pub replaced : Hold Holds (contents (with_path v path x)) (with_slice ws (offset t path) xs)

-- whether a word holds something, where a test says so
abbrev pub By : (Content → ℕ → Bool) → Content → ℕ → Type 0
By holds c w = IsTrue (holds c w)

abbrev pub PartsAreHeld : Type 0
PartsAreHeld = (holds : Content → ℕ → Bool) (t s : TypeTree) (v x : Value) (path : List ℕ) (ws xs : List ℕ)
    → IsOf t v → Leads t path s → IsOf s x → Hold (By holds) (contents v) ws → Hold (By holds) (contents x) xs → HeldParts (By holds) t s v x path ws xs

-- the words of two parts lie apart where their paths do
abbrev pub PartsLieApart : Type 0
PartsLieApart = (t s r : TypeTree) (p q : List ℕ) → Apart p q → Leads t p s → Leads t q r → (offset t p + width s ≤ offset t q) ⊎ (offset t q + width r ≤ offset t p)

-- the elements of an array lie one after the other
pub record Element (n : ℕ) (t s : TypeTree) (i : ℕ) (path : List ℕ) : Type 0 where
  pub offset : offset (array_of n t) (i ∷ path) ≡ i * width t + offset t path
  pub leads : Leads t path s → Leads (array_of n t) (i ∷ path) s
  pub led : Leads (array_of n t) (i ∷ path) s → Leads t path s

abbrev pub ElementsAreEven : Type 0
ElementsAreEven = (n : ℕ) (t s : TypeTree) (i : ℕ) (path : List ℕ) → i < n → Element n t s i path

-- ---- parts

-- a path leads to one type
abbrev pub PathsLeadOnce : Type 0
PathsLeadOnce = (t s : TypeTree) (path : List ℕ) → Leads t path s → type_at t path ≡ s

-- a part is of its type, and so is the whole with another such part
pub record Typed (t s : TypeTree) (v x : Value) (path : List ℕ) : Type 0 where
  pub part : IsOf s (at_path v path)
  pub replaced : IsOf t (with_path v path x)

abbrev pub PartsAreTyped : Type 0
PartsAreTyped = (t s : TypeTree) (v x : Value) (path : List ℕ) → IsOf t v → Leads t path s → IsOf s x → Typed t s v x path

-- and its numbers fit where those of the whole do
pub record Fits (v x : Value) (path : List ℕ) : Type 0 where
  pub part : FitsWords (at_path v path)
  pub replaced : FitsWords (with_path v path x)

abbrev pub PartsFit : Type 0
PartsFit = (v x : Value) (path : List ℕ) → FitsWords v → FitsWords x → Fits v x path

-- what is read where something was replaced, and what replacing does again, or with what was there
pub record ReadBack (v x y : Value) (path : List ℕ) : Type 0 where
  pub read : at_path (with_path v path x) path ≡ x
  pub again : with_path (with_path v path x) path y ≡ with_path v path y
  pub nothing : with_path v path (at_path v path) ≡ v

abbrev pub ReplacedPartsAreRead : Type 0
ReplacedPartsAreRead = (t s : TypeTree) (v x y : Value) (path : List ℕ) → IsOf t v → Leads t path s → ReadBack v x y path

-- elsewhere nothing changes
abbrev pub OtherPartsStay : Type 0
OtherPartsStay = (v x : Value) (p q : List ℕ) → Apart p q → at_path (with_path v p x) q ≡ at_path v q

-- a path and then another
pub record Joined (v x : Value) (p q : List ℕ) : Type 0 where
  pub read : at_path v (p ++ q) ≡ at_path (at_path v p) q
  pub replaced : with_path v (p ++ q) x ≡ with_path v p (with_path (at_path v p) q x)

abbrev pub PathsJoin : Type 0
PathsJoin = (v x : Value) (p q : List ℕ) → Joined v x p q

pub record JoinedTypes (t s r : TypeTree) (p q : List ℕ) : Type 0 where
  pub offset : offset t (p ++ q) ≡ offset t p + offset s q
  pub leads : Leads s q r → Leads t (p ++ q) r
  pub led : Leads t (p ++ q) r → Leads s q r

abbrev pub TypedPathsJoin : Type 0
TypedPathsJoin = (t s r : TypeTree) (p q : List ℕ) → Leads t p s → JoinedTypes t s r p q

-- ---- zero values

pub record Zero (t : TypeTree) : Type 0 where
  pub typed : IsOf t (zero_of t)
  pub fits : FitsWords (zero_of t)
  pub alone : LeadsNowhere (zero_of t)
  pub words : words_of (zero_of t) ≡ replicate (width t) 0
  pub part : (path : List ℕ) (s : TypeTree) → Leads t path s → at_path (zero_of t) path ≡ zero_of s

abbrev pub ZerosAreZeros : Type 0
ZerosAreZeros = (t : TypeTree) → Zero t

-- zeros hold them wherever a zero holds what is zero
abbrev pub ZerosAreHeld : Type 0
ZerosAreHeld = (holds : Content → ℕ → Bool) (t : TypeTree) → ((c : Content) → IsZero c → By holds c 0) → Hold (By holds) (contents (zero_of t)) (replicate (width t) 0)

-- ---- equality

-- no slice is in a value but `nil`, as slices are compared with that alone
abbrev mutual
  pub HasNoSlices : Value → Type 0
  HasNoSlices (int z) = Unit {0}
  HasNoSlices (bool b) = Unit {0}
  HasNoSlices (composite vs) = HaveNoSlices vs
  HasNoSlices nil_pointer = Unit {0}
  HasNoSlices (pointer x path) = Unit {0}
  HasNoSlices nil_slice = Unit {0}
  HasNoSlices (slice_in x path first count room) = ⊥

  pub HaveNoSlices : Values → Type 0
  HaveNoSlices no_values = Unit {0}
  HaveNoSlices (more_values v vs) = HasNoSlices v × HaveNoSlices vs

-- `same` says whether values are equal, where one of them has no slices
abbrev pub SameIsEqual : Type 0
SameIsEqual = (v u : Value) → HasNoSlices v → Decides (same v u) (v ≡ u)

-- Values of one type are equal exactly where what their words hold is equal; where words are that hold it in a way in which two words
-- are equal exactly where what they hold is; and where their own words are, if they lead nowhere.
pub record EqualWords (v u : Value) : Type 0 where
  pub by_contents : (contents v ≡ contents u) ↔ (v ≡ u)
  pub by_held : (holds : Content → ℕ → Bool) (xs ys : List ℕ)
      → ((c d : Content) (x y : ℕ) → AreAlike c d → By holds c x → By holds d y → (x ≡ y) ↔ (c ≡ d))
      → Hold (By holds) (contents v) xs → Hold (By holds) (contents u) ys → (xs ≡ ys) ↔ (v ≡ u)
  pub by_words : LeadsNowhere v → LeadsNowhere u → FitsWords v → FitsWords u → (words_of v ≡ words_of u) ↔ (v ≡ u)

abbrev pub EqualWordsAreEqual : Type 0
EqualWordsAreEqual = (t : TypeTree) (v u : Value) → IsOf t v → IsOf t u → EqualWords v u

-- a word that holds no address of an array's element
abbrev pub IsNoElement : Content → Type 0
IsNoElement (number z) = Unit {0}
IsNoElement (truth b) = Unit {0}
IsNoElement no_address = Unit {0}
IsNoElement (part_address x path) = Unit {0}
IsNoElement (array_address x path first room) = ⊥

-- so comparing the words one by one compares the values, where comparing two words compares what they hold
abbrev pub ComparedByWords : Type 0
ComparedByWords = (holds : Content → ℕ → Bool) (equal : ℕ → ℕ → Bool) (t : TypeTree) (v u : Value) (xs ys : List ℕ)
    → ((c d : Content) (x y : ℕ) → AreAlike c d → IsNoElement c → By holds c x → By holds d y → Decides (equal x y) (c ≡ d))
    → IsOf t v → IsOf t u → HasNoSlices v → Hold (By holds) (contents v) xs → Hold (By holds) (contents u) ys → all_equal equal xs ys ≡ same v u

-- ---- a table of types

-- each type of a table is made of those that its entry names
abbrev pub TableGivesTypes : Type 0
TableGivesTypes = (es : List TypeEntry) (t : ℕ) (e : TypeEntry) → slice_get es t ≡ Some e → PartsBefore t e → slice_get (types_of es) t ≡ Some (entry_type (types_of es) e)
