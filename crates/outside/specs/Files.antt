-- Files by their paths.
use Rattle.std.specs.Prelude.{◌≡◌, ◌<◌, ◌^◌, ℕ, List, [], ◌∷◌, ◌++◌, length, ⊤, Some, None, find, MatchResult, Result}
use Rattle.std.specs.Str.{bytes_eq}
use Rattle.outside.specs.declared.fault.FileFault.{FileFault}
use Rattle.outside.specs.declared.fault.FileFault.TheVariants.{Failed, NoMemory}

-- what stands under a path
pub data Content : Type 0 where
  Untold : Content
  Missing : Content
  Holds : (bytes : List ℕ) → Content

-- a call and its path
pub data Call : Type 0 where
  ReadOf : (path : List ℕ) → Call
  WriteOf : (path : List ℕ) → Call

-- bytes that were read are those that stand there, where they are told
abbrev pub ReadsAs : Content → List ℕ → Type 0
ReadsAs Untold bytes = ⊤
ReadsAs Missing bytes = ⊥
ReadsAs (Holds held) bytes = bytes ≡ held

-- the calls that a fault adds to the failed ones
abbrev pub failed_by : FileFault → Call → List Call
failed_by Failed call = call ∷ []
failed_by NoMemory call = []

-- the list of failed calls gains just this call where it failed, and else nothing
abbrev pub Lists : {T : Type 0} → Result T FileFault → Call → List Call → List Call → Type 0
Lists r call old new = MatchResult r (λ _. new ≡ old) (λ e. new ≡ old ++ failed_by e call)

-- what a list of paths and contents holds under a path: its first entry of that path
abbrev pub content_of : List (List ℕ × List ℕ) → List ℕ → Content
content_of held path = elim (find (λ e. bytes_eq e.0 path) held) [ None ↦ Missing | Some e ↦ Holds e.1 ]

-- the length of the longest file that can be read, in bytes
abbrev pub max_file_len : ℕ
max_file_len = 2 ^ 26

-- a content that files in memory can't give: there is none, or it is too long
abbrev pub IsUnreadable : Content → Type 0
IsUnreadable Untold = ⊥
IsUnreadable Missing = ⊤
IsUnreadable (Holds held) = max_file_len < length held

-- the content where what is missing counts as empty
abbrev pub or_empty : Content → Content
or_empty Untold = Untold
or_empty Missing = Holds []
or_empty (Holds held) = Holds held
