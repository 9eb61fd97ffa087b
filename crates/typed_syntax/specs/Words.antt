-- The machine words of values, by what each of them holds.
use Rattle.std.specs.Prelude.{◌≡◌, ℕ, ◌+◌, ℤ, pos, Bool, true, false, ◌&&◌, List, [], ◌∷◌, ◌++◌, length, take, drop, map}
use Rattle.std.specs.Int.{w64, cast_unsigned}
use Rattle.typed_syntax.specs.Value.{Value, Values, int, bool, composite, nil_pointer, pointer, nil_slice, slice_in, no_values, more_values}

-- what one machine word of a value holds
pub data Content : Type 0 where
  number : ℤ → Content
  truth : Bool → Content
  -- of a pointer, or of a slice's first word, that leads no_address
  no_address : Content
  -- of a pointer to the part at a path of a variable
  part_address : (variable : ℕ) (path : List ℕ) → Content
  -- of a slice's first word: the element with this number of the array at a path of a variable, with room for so many from there on
  array_address : (variable : ℕ) (path : List ℕ) (first room : ℕ) → Content

-- what the words of a value hold, in order
abbrev mutual
  pub contents : Value → List Content
  contents (int z) = number z ∷ []
  contents (bool b) = truth b ∷ []
  contents (composite vs) = contents_in vs
  contents nil_pointer = no_address ∷ []
  contents (pointer x path) = part_address x path ∷ []
  contents nil_slice = no_address ∷ number (pos 0) ∷ number (pos 0) ∷ []
  contents (slice_in x path first count room) = array_address x path first room ∷ number (pos count) ∷ number (pos room) ∷ []

  pub contents_in : Values → List Content
  contents_in no_values = []
  contents_in (more_values v vs) = contents v ++ contents_in vs

abbrev pub bit_of : Bool → ℕ
bit_of true = 1
bit_of false = 0

-- the word that holds something; where a variable lives is no matter of its value, so an address counts as 0 here, and the relation of
-- values and words (`Hold`) says which word it is
abbrev pub word_of : Content → ℕ
word_of (number z) = cast_unsigned w64 z
word_of (truth b) = bit_of b
word_of no_address = 0
word_of (part_address x path) = 0
word_of (array_address x path first room) = 0

-- the words of a value
abbrev pub words_of : Value → List ℕ
words_of v = map word_of (contents v)

abbrev pub IsZero : Content → Type 0
IsZero (number z) = z ≡ pos 0
IsZero (truth b) = b ≡ false
IsZero no_address = Unit {0}
IsZero (part_address x path) = ⊥
IsZero (array_address x path first room) = ⊥

-- what two words of values of one type hold is a number in both, or a truth value, or an address or none
abbrev pub AreAlike : Content → Content → Type 0
AreAlike (number a) (number b) = Unit {0}
AreAlike (truth a) (truth b) = Unit {0}
AreAlike no_address no_address = Unit {0}
AreAlike no_address (part_address x path) = Unit {0}
AreAlike (part_address x path) no_address = Unit {0}
AreAlike (part_address x path) (part_address y way) = Unit {0}
AreAlike no_address (array_address x path first room) = Unit {0}
AreAlike (array_address x path first room) no_address = Unit {0}
AreAlike (array_address x path first room) (array_address y way start space) = Unit {0}
AreAlike c d = ⊥

-- words hold these contents, each as a relation says
module _ (Holds : Content → ℕ → Type 0) where
  abbrev pub Hold : List Content → List ℕ → Type 0
  Hold [] [] = Unit {0}
  Hold (c ∷ cs) (w ∷ ws) = Holds c w × Hold cs ws
  Hold cs ws = ⊥

-- whether words are equal, one by one
module _ (equal : ℕ → ℕ → Bool) where
  abbrev pub all_equal : List ℕ → List ℕ → Bool
  all_equal [] [] = true
  all_equal (x ∷ xs) (y ∷ ys) = equal x y && all_equal xs ys
  all_equal xs ys = false

-- n from an index on
abbrev pub slice : {A : Type 0} → List A → (from count : ℕ) → List A
slice xs from count = take count (drop from xs)

-- those from an index on replaced
abbrev pub with_slice : {A : Type 0} → List A → (from : ℕ) → List A → List A
with_slice xs from put = take from xs ++ (put ++ drop (from + length put) xs)
