-- Which variables live on the heap.
use Rattle.std.specs.Prelude.{◌≡◌, ℕ, Bool, true, false, ◌==◌, ◌||◌, nat_lt, List, [], ◌∷◌, Some, slice_get}
use Rattle.typed_syntax.specs.Value.{Value}
use Rattle.typed_syntax.specs.Syntax.{Program, is_taken, site_width}

-- whether the variables of a site live on the heap; all others live in the frames of their calls
pub record Placement : Type 0 where
  pub on_heap : (site : ℕ) → Bool

-- whether one of these package variables has a site
abbrev pub among : ℕ → List (ℕ × Value) → Bool
among site [] = false
among site (g ∷ gs) = (g.0 == site) || among site gs

-- the most words of a variable that lives in a frame
abbrev pub most_words : ℕ
most_words = 8192

-- the placement that needs no analysis: on the heap live the variables of the package, those that a pointer or a slice may lead to, and those
-- of more words
abbrev pub coarse : Program → Placement
coarse p = record { on_heap = λ site. among site p.globals || (is_taken p site || nat_lt most_words (site_width p site)) }

-- a placement that has rules for the code: each variable of the package lives on the heap, and so does each that a pointer or a slice may
-- lead to; all others may live in frames
pub record IsPlaced (p : Program) (l : Placement) : Type 0 where
  pub taken : (site : ℕ) → is_taken p site ≡ true → l.on_heap site ≡ true
  pub globals : (i : ℕ) (g : ℕ × Value) → slice_get p.globals i ≡ Some g → l.on_heap g.0 ≡ true
