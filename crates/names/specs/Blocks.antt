-- Blocks of names inside each other (Go specification, "Blocks", "Declarations and scope").
use Rattle.std.specs.Prelude.{ℕ, List, [], ◌∷◌, length, map, reverse, Option, Some, None, if◌then◌else◌}
use Rattle.std.specs.Str.{bytes_eq}
use Rattle.std.specs.Global.{Vec}
use Rattle.std.specs.declared.hash.FoldHasher.{FoldHasher}
use Rattle.std.specs.declared.hash.BuildHasherDefault.{BuildHasherDefault}
use Rattle.indexmap.specs.IndexMap.{IndexMap}

-- the names of one block with their numbers, in the order in which they were first inserted
abbrev pub Names : Type 0
Names = List (List ℕ × ℕ)

-- the open blocks, the innermost first
abbrev pub Blocks : Type 0
Blocks = List Names

-- the number of a name in one block
abbrev pub entry_of : Names → List ℕ → Option ℕ
entry_of [] name = None
entry_of (e ∷ es) name = if bytes_eq name e.0 then Some e.1 else entry_of es name

-- the first, or else the second
abbrev pub or_else : Option ℕ → Option ℕ → Option ℕ
or_else (Some k) other = Some k
or_else None other = other

-- the number of a name in the innermost block that has it
abbrev pub lookup : Blocks → List ℕ → Option ℕ
lookup [] name = None
lookup (b ∷ bs) name = or_else (entry_of b name) (lookup bs name)

-- the number of a name in the innermost block
abbrev pub innermost : Blocks → List ℕ → Option ℕ
innermost [] name = None
innermost (b ∷ bs) name = entry_of b name

-- how many names the innermost block has
abbrev pub count : Blocks → ℕ
count [] = 0
count (b ∷ bs) = length b

-- a name of one block gets a number
abbrev pub with_entry : Names → List ℕ → ℕ → Names
with_entry [] name k = (name, k) ∷ []
with_entry (e ∷ es) name k = if bytes_eq name e.0 then (e.0, k) ∷ es else e ∷ with_entry es name k

-- a name of the innermost block gets a number
abbrev pub insert : Blocks → List ℕ → ℕ → Blocks
insert [] name k = []
insert (b ∷ bs) name k = with_entry b name k ∷ bs

-- ---- from what lies in memory, where the outermost block stands first

abbrev pub Table : Type 0
Table = IndexMap (Vec ℕ) ℕ (BuildHasherDefault FoldHasher)

abbrev pub names_of : Table → Names
names_of t = map (λ e. (e.0.items, e.1)) t.entries

-- the outer blocks, of which the next one out stands last
abbrev pub outer_of : List Table → Blocks
outer_of ts = reverse (map names_of ts)
