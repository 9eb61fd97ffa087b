-- A region as contracts see it.
use Rattle.std.specs.Prelude.{ℕ, ◌+◌, ◌-◌, ◌^◌, ◌<◌, ◌≤◌, List, length, slice_index, slice_set}

-- the addresses from lo to below hi, the words that there may be in all, and the words from the mark to below hi, which are
-- initialised
pub record Block : Type 0 where
  pub lo : ℕ
  pub hi : ℕ
  pub capacity : ℕ
  pub words : List ℕ

-- the address of the lowest word that is initialised, or hi
abbrev pub mark_of : Block → ℕ
mark_of block = block.hi - length block.words

-- an address of an initialised word
abbrev pub IsInUse : Block → ℕ → Type 0
IsInUse block at = (mark_of block ≤ at) × (at < block.hi)

-- the word at an address
abbrev pub word_at : Block → ℕ → ℕ
word_at block at = slice_index block.words (at - mark_of block)

-- the words, of which the one at an address is now this
abbrev pub with_word : Block → ℕ → ℕ → List ℕ
with_word block at word = slice_set block.words (at - mark_of block) word

-- what is so of each region: the initialised words lie between lo and hi, and there is room for each address
pub record IsBounded (block : Block) : Type 0 where
  pub initialised : block.lo + length block.words ≤ block.hi
  pub room : block.hi ≤ block.lo + block.capacity
  pub addresses : block.hi < 2 ^ 64
