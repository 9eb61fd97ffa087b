-- The lines of a report.
use Rattle.std.specs.Prelude.{ℕ, ◌==◌, List, [], ◌∷◌, Option, None, if◌then◌else◌}
use Rattle.report_checks.specs.declared.line.Line.{Line}
use Rattle.report_checks.specs.Reading.{read_text}

-- x stands before the first piece
unfoldable pub onto : ℕ → List (List ℕ) → List (List ℕ)
onto x [] = (x ∷ []) ∷ []
onto x (p ∷ ps) = (x ∷ p) ∷ ps

-- the texts between newlines; the last one is what stands behind the last newline
unfoldable pub split : List ℕ → List (List ℕ)
split [] = [] ∷ []
split (x ∷ xs) = if x == 10 then [] ∷ split xs else onto x (split xs)

-- a line that lacks its newline is not of the form of one
unfoldable pub last_line : List ℕ → List (Option Line)
last_line [] = []
last_line (x ∷ xs) = None ∷ []

unfoldable pub read_all : List (List ℕ) → List (Option Line)
read_all [] = []
read_all (p ∷ []) = last_line p
read_all (p ∷ q ∷ ps) = read_text p ∷ read_all (q ∷ ps)

-- the lines of a report, None for one that is not of the form
unfoldable pub lines_of : List ℕ → List (Option Line)
lines_of report = read_all (split report)
