-- Values as trees, when a value is of a type, and the zero value of a type [Go specification, The zero value].
use Rattle.std.specs.Prelude.{ℕ, zero, suc, ◌+◌, ◌<◌, ◌≤◌, ◌^◌, ℤ, pos, Bool, true, false, not, ◌&&◌, nat_eq, List, [], ◌∷◌, FitsSigned, ⊤}
use Rattle.std.specs.Int.{w64}
use Rattle.std.specs.Ordering.{int_eq}
use Rattle.typed_syntax.specs.Types.{TypeTree, PartTypes, ints, bools, struct_of, array_of, pointer_to, slice_of, no_types, more_types, repeated}

mutual
  pub data Value : Type 0 where
    -- a whole number
    int : ℤ → Value
    bool : Bool → Value
    -- a struct or an array: the values of its fields, or of its elements
    composite : Values → Value
    -- a pointer to nothing, and one to the part at a path of a variable
    nil_pointer : Value
    pointer : (variable : ℕ) (path : List ℕ) → Value
    -- a slice of nothing, and one of elements of the array at a path of a variable: its first element, how many elements it has, and for
    -- how many there is room from the first one on
    nil_slice : Value
    slice_in : (variable : ℕ) (path : List ℕ) (first count room : ℕ) → Value

  pub data Values : Type 0 where
    no_values : Values
    more_values : Value → Values → Values

abbrev mutual
  -- the number of machine words of a value
  pub words : Value → ℕ
  words (int z) = 1
  words (bool b) = 1
  words (composite vs) = words_in vs
  words nil_pointer = 1
  words (pointer x path) = 1
  words nil_slice = 3
  words (slice_in x path first count room) = 3

  pub words_in : Values → ℕ
  words_in no_values = 0
  words_in (more_values v vs) = words v + words_in vs

abbrev mutual
  -- a value of a type; how large a whole number may be, and what is where a pointer or a slice leads, is said elsewhere. A slice has no
  -- more elements than it has room for [Go specification, Length and capacity]
  pub IsOf : TypeTree → Value → Type 0
  IsOf ints (int z) = Unit {0}
  IsOf bools (bool b) = Unit {0}
  IsOf (struct_of ts) (composite vs) = AreOf ts vs
  IsOf (array_of n t) (composite vs) = AreOf (repeated n t) vs
  IsOf (pointer_to n) nil_pointer = Unit {0}
  IsOf (pointer_to n) (pointer x path) = Unit {0}
  IsOf (slice_of n) nil_slice = Unit {0}
  IsOf (slice_of n) (slice_in x path first count room) = count ≤ room
  IsOf t v = ⊥

  -- values side by side
  pub AreOf : PartTypes → Values → Type 0
  AreOf no_types no_values = Unit {0}
  AreOf (more_types t ts) (more_values v vs) = IsOf t v × AreOf ts vs
  AreOf ts vs = ⊥

abbrev mutual
  -- each whole number in a value is one of 64 bits with a sign
  pub FitsWords : Value → Type 0
  FitsWords (int z) = FitsSigned w64 z
  FitsWords (bool b) = ⊤
  FitsWords (composite vs) = FitWords vs
  FitsWords nil_pointer = ⊤
  FitsWords (pointer x path) = ⊤
  FitsWords nil_slice = ⊤
  FitsWords (slice_in x path first count room) = (count < 2 ^ 63) × (room < 2 ^ 63)

  pub FitWords : Values → Type 0
  FitWords no_values = Unit {0}
  FitWords (more_values v vs) = FitsWords v × FitWords vs

abbrev mutual
  -- no pointer and no slice in a value leads anywhere
  pub LeadsNowhere : Value → Type 0
  LeadsNowhere (int z) = Unit {0}
  LeadsNowhere (bool b) = Unit {0}
  LeadsNowhere (composite vs) = LeadNowhere vs
  LeadsNowhere nil_pointer = Unit {0}
  LeadsNowhere (pointer x path) = ⊥
  LeadsNowhere nil_slice = Unit {0}
  LeadsNowhere (slice_in x path first count room) = ⊥

  pub LeadNowhere : Values → Type 0
  LeadNowhere no_values = Unit {0}
  LeadNowhere (more_values v vs) = LeadsNowhere v × LeadNowhere vs

-- n times the same value
abbrev pub copies : ℕ → Value → Values
copies zero v = no_values
copies (suc n) v = more_values v (copies n v)

abbrev mutual
  pub zero_of : TypeTree → Value
  zero_of ints = int (pos 0)
  zero_of bools = bool false
  zero_of (struct_of ts) = composite (zeros_of ts)
  zero_of (array_of n t) = composite (copies n (zero_of t))
  zero_of (pointer_to n) = nil_pointer
  zero_of (slice_of n) = nil_slice

  pub zeros_of : PartTypes → Values
  zeros_of no_types = no_values
  zeros_of (more_types t ts) = more_values (zero_of t) (zeros_of ts)

abbrev pub same_truth : Bool → Bool → Bool
same_truth true b = b
same_truth false b = not b

-- whether two paths are one
abbrev pub same_path : List ℕ → List ℕ → Bool
same_path [] [] = true
same_path (i ∷ p) (j ∷ q) = nat_eq i j && same_path p q
same_path p q = false

abbrev mutual
  -- whether two values of one type are equal; pointers are where they lead to one part of one variable, and a slice equals `nil` alone
  -- [Go specification, Comparison operators]
  pub same : Value → Value → Bool
  same (int a) (int b) = int_eq a b
  same (bool a) (bool b) = same_truth a b
  same (composite vs) (composite us) = all_same vs us
  same nil_pointer nil_pointer = true
  same (pointer x p) (pointer y q) = nat_eq x y && same_path p q
  same nil_slice nil_slice = true
  same v u = false

  pub all_same : Values → Values → Bool
  all_same no_values no_values = true
  all_same (more_values v vs) (more_values u us) = same v u && all_same vs us
  all_same vs us = false
