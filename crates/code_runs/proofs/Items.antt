-- The answers that came from an input, as the beginning of its items.
use Rattle.std.proofs.Common.{◌≡◌, ap, subst, arith, ℕ, zero, suc, ◌+◌, List, [], ◌∷◌, None}
use Rattle.std.specs.Prelude.{IfSome, FitsSigned}
use Rattle.std.specs.Int.{w64}
use Rattle.meaning.specs.Meaning.{Item}
use Rattle.machine.specs.Answers.{AllNumbers, HasFrom}

-- the answers that came, and nothing after them
abbrev pub reading_of : List Item → ℕ → Item
reading_of [] n = None
reading_of (answer ∷ answers) zero = answer
reading_of (answer ∷ answers) (suc n) = reading_of answers n

pub are_numbers : (answers : List Item) → AllNumbers answers → (k : ℕ) → IfSome (reading_of answers k) (FitsSigned w64)
are_numbers [] all k = tt
are_numbers (answer ∷ answers) all zero = all.0
are_numbers (answer ∷ answers) all (suc k) = are_numbers answers all.1 k

has_all : (r : ℕ → Item) (n : ℕ) (answers : List Item) → ((k : ℕ) → r (n + k) ≡ reading_of answers k) → HasFrom r n answers
has_all r n [] h = tt
has_all r n (answer ∷ answers) h = (
  let same : n + 0 ≡ n = omega arith in subst (λ m. r m ≡ answer) same (h 0),
  has_all r (suc n) answers (λ k. let same : n + suc k ≡ suc n + k = omega arith in subst (λ m. r m ≡ reading_of answers k) same (h (suc k))),
)

pub has_answers : (answers : List Item) → HasFrom (reading_of answers) 0 answers
has_answers answers = has_all (reading_of answers) 0 answers (λ k. let same : 0 + k ≡ k = omega arith in ap (reading_of answers) same)
