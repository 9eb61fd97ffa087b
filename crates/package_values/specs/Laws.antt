-- What the values of a package's constants and the types of its variables are, said without looks: one is there where it follows, in finitely
-- many steps, from a declaration and from values and types that are there. These are the least that the declarations give: what would rest on
-- itself is not among them, and the order of the text is of no matter. Looks find all of them and nothing else.
use Rattle.std.specs.Prelude.{◌≡◌, ◌↔◌, ℕ, List, length, slice_get, Option, Some, None}
use Rattle.names.specs.declared.scope.Known.{Known}
use Rattle.names.specs.Scope.{Scope, known}
use Rattle.package_values.specs.Values.{Item, given, settled}

-- a scope in which this is known of the constants and variables
abbrev pub knowing : Scope → List (Option Known) → Scope
knowing s ks = record s { values = ks }

module _ (text : List ℕ) (s : Scope) (is : List Item) where
  -- a constant has this value, or a variable this type: where some are known, each by what it has, the declaration gives it
  pub data HasValue : ℕ → Known → Type 0 where
    follows : {k : ℕ} {x : Known} (ks : List (Option Known)) (i : Item) → ((j : ℕ) (y : Known) → known (knowing s ks) j ≡ Some y → HasValue j y)
        → slice_get is k ≡ Some i → given text (knowing s ks) i ≡ Some x → HasValue k x

  -- a scope that differs from the one before in this alone, and knows of each exactly what it has
  pub record HoldsValues (behind : Scope) : Type 0 where
    pub rest : behind ≡ knowing s behind.values
    pub as_many : length behind.values ≡ length s.values
    pub values : (k : ℕ) (x : Known) → (known behind k ≡ Some x) ↔ HasValue k x

-- Where there is a place for each constant and variable and nothing is known yet, the scope after all looks is the one that holds what these
-- have.
abbrev pub SettledIsLeast : Type 0
SettledIsLeast = (text : List ℕ) (s : Scope) (is : List Item) → length s.values ≡ length is → ((k : ℕ) → known s k ≡ None)
    → (behind : Scope) → (behind ≡ settled text s is) ↔ HoldsValues text s is behind
