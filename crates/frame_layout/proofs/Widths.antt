-- The words of sites side by side, and of the parts of whole numbers.
use Rattle.std.proofs.Common.{◌≡◌, ℕ, zero, suc, ◌+◌, ◌-◌, ◌<◌, Bool, List, [], ◌∷◌, refl, ap, ◌∙◌, arith}
use Rattle.typed_syntax.specs.Types.{TypeTree, ints}
use Rattle.typed_syntax.specs.Paths.{type_at}
use Rattle.frames.specs.Placement.{Placement}
use Rattle.frames.specs.Frames.{cell_words, cells_between, stack_words, words_between}
use Rattle.frame_layout.specs.Layout.{start_at, starts}

-- whole numbers have no parts, and what is not there counts as one
pub ints_alone : (path : List ℕ) → type_at ints path ≡ ints
ints_alone [] = refl
ints_alone (i ∷ path) = ints_alone path

between_next : (l : Placement) (sites : List TypeTree) (from count : ℕ) → 0 < count → words_between l sites from count ≡ stack_words l sites from + words_between l sites (from + 1) (count - 1)
between_next l sites from zero lt = absurd (omega (arith, lt))
between_next l sites from (suc count) lt =
    let n : count ≡ suc count - 1 = omega arith in let m : suc from ≡ from + 1 = omega arith in
    ap (λ k. stack_words l sites from + words_between l sites k count) m ∙ ap (λ k. stack_words l sites from + words_between l sites (from + 1) k) n

-- the next of some sites, and those after it
pub between_more : (l : Placement) (sites : List TypeTree) (first i count : ℕ) → i < count
    → words_between l sites (first + i) (count - i) ≡ stack_words l sites (first + i) + words_between l sites (first + (i + 1)) (count - (i + 1))
between_more l sites first i count lt =
    let n : count - i - 1 ≡ count - (i + 1) = omega arith in let m : first + i + 1 ≡ first + (i + 1) = omega arith in
    between_next l sites (first + i) (count - i) (omega arith) ∙ ap (λ k. stack_words l sites (first + i) + words_between l sites k (count - i - 1)) m
    ∙ ap (λ k. stack_words l sites (first + i) + words_between l sites (first + (i + 1)) k) n

-- the same for cells
cells_next : (l : Placement) (made : List Bool) (from count : ℕ) → 0 < count → cells_between l made from count ≡ cell_words l made from + cells_between l made (from + 1) (count - 1)
cells_next l made from zero lt = absurd (omega (arith, lt))
cells_next l made from (suc count) lt =
    let n : count ≡ suc count - 1 = omega arith in let m : suc from ≡ from + 1 = omega arith in
    ap (λ k. cell_words l made from + cells_between l made k count) m ∙ ap (λ k. cell_words l made from + cells_between l made (from + 1) k) n

pub cells_more : (l : Placement) (made : List Bool) (first i count : ℕ) → i < count → cells_between l made (first + i) (count - i) ≡ cell_words l made (first + i) + cells_between l made (first + (i + 1)) (count - (i + 1))
cells_more l made first i count lt =
    let n : count - i - 1 ≡ count - (i + 1) = omega arith in let m : first + i + 1 ≡ first + (i + 1) = omega arith in
    cells_next l made (first + i) (count - i) (omega arith) ∙ ap (λ k. cell_words l made (first + i) + cells_between l made k (count - i - 1)) m
    ∙ ap (λ k. cell_words l made (first + i) + cells_between l made (first + (i + 1)) k) n

-- the same for where they start
starts_next : (l : Placement) (made : List Bool) (sites : List TypeTree) (from cell word count : ℕ) → 0 < count
    → starts l made sites from cell word count ≡ start_at l from cell word ∷ starts l made sites (from + 1) (cell + cell_words l made from) (word + stack_words l sites from) (count - 1)
starts_next l made sites from cell word zero lt = absurd (omega (arith, lt))
starts_next l made sites from cell word (suc count) lt =
    let n : count ≡ suc count - 1 = omega arith in let m : suc from ≡ from + 1 = omega arith in
    let now = start_at l from cell word in let next = cell + cell_words l made from in let after = word + stack_words l sites from in
    ap (λ k. now ∷ starts l made sites k next after count) m ∙ ap (λ k. now ∷ starts l made sites (from + 1) next after k) n

pub starts_more : (l : Placement) (made : List Bool) (sites : List TypeTree) (first i cell word count : ℕ) → i < count
    → starts l made sites (first + i) cell word (count - i)
    ≡ start_at l (first + i) cell word ∷ starts l made sites (first + (i + 1)) (cell + cell_words l made (first + i)) (word + stack_words l sites (first + i)) (count - (i + 1))
starts_more l made sites first i cell word count lt =
    let n : count - i - 1 ≡ count - (i + 1) = omega arith in let m : first + i + 1 ≡ first + (i + 1) = omega arith in
    let now = start_at l (first + i) cell word in let next = cell + cell_words l made (first + i) in let after = word + stack_words l sites (first + i) in
    starts_next l made sites (first + i) cell word (count - i) (omega arith) ∙ ap (λ k. now ∷ starts l made sites k next after (count - i - 1)) m
    ∙ ap (λ k. now ∷ starts l made sites (first + (i + 1)) next after k) n
