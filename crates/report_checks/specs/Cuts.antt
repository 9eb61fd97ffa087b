-- Parts of a text: what stands before a separator, behind it, or behind a beginning.
use Rattle.std.specs.Prelude.{ℕ, suc, ◌+◌, ◌==◌, nat_lt, List, [], ◌∷◌, length, take, drop, Option, Some, None, if◌then◌else◌}

-- how many bytes stand before the first separator, or in the whole text
unfoldable pub front_length : ℕ → List ℕ → ℕ
front_length separator [] = 0
front_length separator (x ∷ xs) = if x == separator then 0 else suc (front_length separator xs)

unfoldable pub front : ℕ → List ℕ → List ℕ
front separator text = take (front_length separator text) text

unfoldable pub rest : ℕ → List ℕ → Option (List ℕ)
rest separator text = if nat_lt (front_length separator text) (length text) then Some (drop (front_length separator text + 1) text) else None

-- what stands behind a beginning, if the text has it
unfoldable pub after : List ℕ → List ℕ → Option (List ℕ)
after [] text = Some text
after (c ∷ cs) [] = None
after (c ∷ cs) (x ∷ xs) = if c == x then after cs xs else None
