-- A heap as contracts see it, and what its functions do to its words.
use Rattle.std.specs.Prelude.{ℕ, ◌+◌, ◌-◌, ◌^◌, ◌≤◌, List, ◌++◌, length, take, drop, slice_index, slice_set}

-- the words that are taken, from the lowest address on, and how many there may be
pub record Words : Type 0 where
  pub words : List ℕ
  pub max : ℕ

-- the address of the first word
abbrev pub first_address : ℕ
first_address = 2 ^ 20

-- the most words that a heap may have
abbrev pub most_words : ℕ
most_words = 2 ^ 32

-- the place of an address among the words, counted from 0
abbrev pub place_of : ℕ → ℕ
place_of at = at - first_address

-- the n words from an address on are taken
abbrev pub AreTaken : List ℕ → ℕ → ℕ → Type 0
AreTaken words at n = (first_address ≤ at) × (at + n ≤ first_address + length words)

-- the word at an address
abbrev pub word_at : List ℕ → ℕ → ℕ
word_at words at = slice_index words (place_of at)

-- the words, of which the one at an address is now this
abbrev pub with_word : List ℕ → ℕ → ℕ → List ℕ
with_word words at word = slice_set words (place_of at) word

-- the n words from an address on
abbrev pub words_at : List ℕ → ℕ → ℕ → List ℕ
words_at words from n = take n (drop (place_of from) words)

-- the words, of which the n from one address on are now what the n from another one on were
abbrev pub with_moved : List ℕ → ℕ → ℕ → ℕ → List ℕ
with_moved words from to n = take (place_of to) words ++ words_at words from n ++ drop (place_of to + n) words

-- the words, of which those from an address on are now these
abbrev pub with_words : List ℕ → ℕ → List ℕ → List ℕ
with_words words at put = take (place_of at) words ++ (put ++ drop (place_of at + length put) words)
