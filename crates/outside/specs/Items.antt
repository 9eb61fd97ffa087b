-- Whole numbers in a stream of bytes, between separators.
use Rattle.std.specs.Prelude.{◌≡◌, ⊤, ℕ, ◌+◌, ◌^◌, ◌<◌, ◌≤◌, ◌==◌, ◌&&◌, ◌||◌, not, nat_lt, Bool, true, false, if◌then◌else◌, List, [], ◌∷◌, ◌++◌, length, take, drop, Option, Some, None, ℤ, pos, neg_ℤ}
use Rattle.std.specs.List.{list_all, list_any, prefix_len}
use Rattle.std.specs.Char.{is_ascii_digit}
use Rattle.std.specs.Str.Parse.{digits_value}
use Rattle.std.specs.Io.KnownBytes.{Consumes}

-- the most bytes that one call takes
abbrev pub most_per_call : ℕ
most_per_call = 2 ^ 20

-- a space, a tab, a carriage return or a newline
abbrev pub is_separator : ℕ → Bool
is_separator b = b == 32 || (b == 9 || (b == 13 || b == 10))

-- whether an item begins with a minus
abbrev pub is_negative : List ℕ → Bool
is_negative [] = false
is_negative (b ∷ bs) = b == 45

-- an item without its minus
abbrev pub magnitude : List ℕ → List ℕ
magnitude [] = []
magnitude (b ∷ bs) = if b == 45 then bs else b ∷ bs

-- one decimal digit or more
abbrev pub is_numeral : List ℕ → Bool
is_numeral ds = nat_lt 0 (length ds) && list_all is_ascii_digit ds

-- the number of 64 bits that an item spells in decimal, with a minus or without a sign
abbrev pub number_of : List ℕ → Option ℤ
number_of item =
    let value = digits_value 10 (magnitude item) in
    if is_negative item
    then (if is_numeral (magnitude item) && nat_lt value (2 ^ 63 + 1) then Some (neg_ℤ (pos value)) else None)
    else (if is_numeral (magnitude item) && nat_lt value (2 ^ 63) then Some (pos value) else None)

-- a byte of an item
abbrev pub is_inner : ℕ → Bool
is_inner b = not (is_separator b)

-- the bytes after the separators in front
abbrev pub after_separators : List ℕ → List ℕ
after_separators bytes = drop (prefix_len is_separator bytes) bytes

-- the first item: the longest run of bytes after the separators that has none
abbrev pub first_item : List ℕ → List ℕ
first_item bytes = take (prefix_len is_inner (after_separators bytes)) (after_separators bytes)

-- how many bytes there are up to the end of the first item
abbrev pub item_end : List ℕ → ℕ
item_end bytes = prefix_len is_separator bytes + prefix_len is_inner (after_separators bytes)

-- What a call answers of the bytes to come, and what it leaves of them: the first item and the separator after it are
-- taken. Where what ends the item does not stand among the bytes that one call takes, those are taken, and nothing more.
abbrev pub read_int : List ℕ → Option ℤ × List ℕ
read_int bytes = if nat_lt (item_end bytes) most_per_call then (number_of (first_item bytes), drop (item_end bytes + 1) bytes) else (None, drop most_per_call bytes)

-- a call that finds the bytes `old` gives the answer and leaves the bytes `new`, where they are told
abbrev pub Reads : Option (List ℕ) → Option (List ℕ) → Option ℤ → Type 0
Reads None new answer = ⊤
Reads (Some bytes) None answer = ⊥
Reads (Some bytes) (Some rest) answer = (answer ≡ (read_int bytes).0) × (rest ≡ (read_int bytes).1)

-- the bytes end before a separator after the first item, and one call gets there
abbrev pub MeetsEnd : List ℕ → Type 0
MeetsEnd bytes = (length bytes ≤ item_end bytes) × (item_end bytes < most_per_call)

-- separators, and the front of an item, are gone
pub record Loses (old new : Option (List ℕ)) : Type 0 where
  pub skipped : List ℕ
  pub item : List ℕ
  pub came : Consumes old new (skipped ++ item)
  pub apart : list_all is_separator skipped ≡ true
  pub whole : list_any is_separator item ≡ false
  pub few : length skipped + length item < most_per_call
