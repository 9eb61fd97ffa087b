-- The words of the command line.
use Rattle.std.specs.Prelude.{◌≡◌, ◌≢◌, ℕ, Bool, false, true, List, [], map, length, string_bytes, String, Option, Some, None, ◌^◌, ◌&&◌, if◌then◌else◌, nat_eq, nat_lt, codes, ⊤}
use Rattle.std.specs.List.{ends_with, list_all}
use Rattle.std.specs.Option.{unwrap_or}
use Rattle.std.specs.Char.{digit_value}
use Rattle.std.specs.Str.Parse.{digits_value, without_leading_plus}
use Rattle.std.specs.declared.alloc.Global.{Global}
use Rattle.limits.specs.Limits.{Bounds, bounds, AreLimits, IsFirstFault}
use Rattle.limits.specs.declared.limits.LimitFault.{LimitFault}
use Rattle.clap.specs.Words.{Row, Text, fault_of, first_of, one_of, subcommand_of}
use Rattle.clap.specs.Kinds.{Kinds}
use Rattle.gostk.specs.Command.{gostk_app}
use Rattle.gostk.specs.declared.words.WordsFault.{WordsFault}
use Rattle.gostk.specs.declared.words.WordsFault.TheVariants.{NoMemory, Usage, Limits, SourceOnly}

abbrev pub texts_of : List (String Global) → List (List ℕ)
texts_of words = map (λ w. string_bytes w) words

-- for what clap refuses the words, a request for help among it; nothing where it takes them
unfoldable pub refusals : List (List ℕ) → Kinds
refusals words = fault_of gostk_app words

abbrev pub rows_in : Option (Text × List Row) → List Row
rows_in None = []
rows_in (Some found) = found.1

-- what clap reads of the arguments of the command, the options that are left out with their defaults
unfoldable pub arguments : List (List ℕ) → List Row
arguments words = rows_in (subcommand_of gostk_app words)

-- the file that is named
abbrev pub path_in : List Row → List ℕ
path_in rows = unwrap_or (first_of (codes "file") rows) []

abbrev pub path_of : List (List ℕ) → List ℕ
path_of words = path_in (arguments words)

-- the number that a text spells; the default where it spells none of 64 bits
abbrev pub number_of : ℕ → Option Text → ℕ
number_of default None = default
number_of default (Some text) =
    let digits = without_leading_plus text in
    if nat_lt 0 (length digits) && list_all (λ d. nat_lt (digit_value d) 10) digits
    && nat_lt (digits_value 10 digits) (2 ^ 64) then digits_value 10 digits else default

-- the numbers of the options
abbrev pub bounds_in : List Row → Bounds
bounds_in rows = bounds
    (number_of 64 (one_of (codes "stack") rows))
    (number_of 131072 (one_of (codes "max-stack") rows))
    (number_of 1048576 (one_of (codes "heap") rows))
    (number_of 1000000000 (one_of (codes "steps") rows))

abbrev pub bounds_of : List (List ℕ) → Bounds
bounds_of words = bounds_in (arguments words)

-- a file is source where its name ends in `.go`
abbrev pub is_source : List ℕ → Bool
is_source path = ends_with nat_eq path (codes ".go")

-- the words run a file of source, under limits
pub record Asks (words : List (List ℕ)) (path : List ℕ) : Type 0 where
  pub taken : refusals words ≡ []
  pub limits : AreLimits (bounds_of words)
  pub file : path_of words ≡ path
  pub source : is_source path ≡ true

-- clap refuses the words
abbrev pub IsUsage : List (List ℕ) → Type 0
IsUsage words = refusals words ≢ []

-- clap takes the words, but the numbers of the options are no limits
pub record IsOffLimits (words : List (List ℕ)) (fault : LimitFault) : Type 0 where
  pub taken : refusals words ≡ []
  pub first : IsFirstFault (bounds_of words) fault

-- clap takes the words, the numbers are limits, but the file is not source
pub record IsNoSource (words : List (List ℕ)) : Type 0 where
  pub taken : refusals words ≡ []
  pub limits : AreLimits (bounds_of words)
  pub source : is_source (path_of words) ≡ false

-- why words are refused
abbrev pub RefusesWords : List (List ℕ) → WordsFault → Type 0
RefusesWords words NoMemory = ⊤
RefusesWords words (Usage text) = IsUsage words
RefusesWords words (Limits fault) = IsOffLimits words fault
RefusesWords words SourceOnly = IsNoSource words
