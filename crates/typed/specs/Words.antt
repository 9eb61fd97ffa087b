-- Words of types, and their limits.
use Rattle.std.specs.Prelude.{ℕ, ◌<◌, ◌≤◌, ◌==◌, nat_lt, if◌then◌else◌, List, get_or, Bool, Option, None, Some}
use Rattle.std.specs.Option.{unwrap_or, option_and_then}
use Rattle.typed.specs.declared.fault.TableFault.{TableFault}
use Rattle.typed.specs.declared.fault.TableFault.TheVariants.{Empty, TooLarge}

-- the most words that a type may have
abbrev pub most_words : ℕ
most_words = 65535

abbrev pub IsInLimits : ℕ → Type 0
IsInLimits words = (0 < words) × (words ≤ most_words)

abbrev pub within_limit : ℕ → Option ℕ
within_limit words = if nat_lt most_words words then None else Some words

-- the words of a type, if it has some and these are no more than it may have
abbrev pub allowed : Option ℕ → Option ℕ
allowed words = option_and_then within_limit words

-- what is wrong with a type of this number of words
abbrev pub refusal_by : ℕ → Option TableFault
refusal_by words = if words == 0 then Some Empty else if nat_lt most_words words then Some TooLarge else None

-- the words that a number has among these, if it has some
abbrev pub known : List (Option ℕ) → ℕ → ℕ
known words i = unwrap_or (get_or words i None) 0

abbrev pub is_over : Option ℕ → Bool
is_over words = nat_lt most_words (unwrap_or words 0)
