-- What is kept of numbers of words: all that are above the limit count as one.
use Rattle.std.specs.Prelude.{◌≡◌, ℕ, nat_lt, List, map, Option, if◌then◌else◌}
use Rattle.std.specs.Option.{option_map}

abbrev pub capped : ℕ → ℕ
capped words = if nat_lt 65535 words then 65536 else words

abbrev pub kept : Option ℕ → Option ℕ
kept words = option_map capped words

-- two numbers of words are the same, or both above the limit
abbrev pub Agree : Option ℕ → Option ℕ → Type 0
Agree words other = kept words ≡ kept other

abbrev pub AgreeAll : List (Option ℕ) → List (Option ℕ) → Type 0
AgreeAll table other = map kept table ≡ map kept other
