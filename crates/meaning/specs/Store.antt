-- Variables, and the parts of their values by paths.
use Rattle.std.specs.Prelude.{ℕ, zero, suc, List, [], ◌∷◌, ◌++◌, get_or}
use Rattle.typed_syntax.specs.Types.{ints}
use Rattle.typed_syntax.specs.Value.{Value, Values, no_values, more_values}
use Rattle.typed_syntax.specs.Paths.{no_value, at_path, with_path}
use Rattle.meaning.specs.Trace.{World, Cell}

abbrev pub no_cell : Cell
no_cell = record { site = 0; call = 0; type = ints; value = no_value }

abbrev pub value_of : World → ℕ → Value
value_of w v = (get_or w.store v no_cell).value

abbrev pub read_at : World → ℕ → List ℕ → Value
read_at w v path = at_path (value_of w v) path

-- the same variable with another value
abbrev pub with_value : Cell → Value → Cell
with_value c x = record { site = c.site; call = c.call; type = c.type; value = x }

abbrev pub change : List Cell → ℕ → List ℕ → Value → List Cell
change [] v path x = []
change (c ∷ cs) zero path x = with_value c (with_path c.value path x) ∷ cs
change (c ∷ cs) (suc v) path x = c ∷ change cs v path x

abbrev pub written : World → ℕ → List ℕ → Value → World
written w v path x = record { store = change w.store v path x; reads = w.reads }

-- values side by side, as the elements of an array
abbrev pub values_of : List Value → Values
values_of [] = no_values
values_of (x ∷ xs) = more_values x (values_of xs)

-- n elements, from one on, of the array at a path of a variable
abbrev pub elements_at : World → ℕ → List ℕ → (first n : ℕ) → List Value
elements_at w v path first zero = []
elements_at w v path first (suc n) = read_at w v (path ++ first ∷ []) ∷ elements_at w v path (suc first) n

-- other elements in the place of some, from one on
abbrev pub elements_written : World → ℕ → List ℕ → (first : ℕ) → List Value → World
elements_written w v path first [] = w
elements_written w v path first (x ∷ xs) = elements_written (written w v (path ++ first ∷ []) x) v path (suc first) xs

-- one more variable
abbrev pub born : World → Cell → World
born w c = record { store = w.store ++ c ∷ []; reads = w.reads }
