-- Where sites stand among each other, and which placement has rules.
use Rattle.std.proofs.Common.{◌≡◌, ℕ, zero, suc, ◌+◌, ◌-◌, ◌<◌, ◌≤◌, Bool, true, false, List, [], ◌∷◌, Some, get_or, slice_get, refl, ap, ◌∙◌, arith}
use Rattle.std.specs.Prelude.{◌==◌, ◌||◌, nat_lt, if◌then◌else◌}
use Rattle.std.proofs.lemmas.Bool.{eq-eqb}
use Rattle.typed_syntax.specs.Types.{TypeTree, ints, width}
use Rattle.typed_syntax.specs.Value.{Value}
use Rattle.typed_syntax.specs.Syntax.{Func, Program, is_taken, site_width}
use Rattle.frames.specs.Placement.{Placement, IsPlaced, among, most_words, coarse}
use Rattle.frames.specs.Frames.{stack_words, words_between}

-- a site whose variables live in the frame has their words there
pub stack_is : (pl : Placement) (sites : List TypeTree) (site : ℕ) → pl.on_heap site ≡ false → stack_words pl sites site ≡ width (get_or sites site ints)
stack_is pl sites site stays = ap (λ b. if b then 0 else width (get_or sites site ints)) stays

-- the words of a site stand before those of a later one
pub between_next : (pl : Placement) (sites : List TypeTree) (from k n : ℕ) → k < n → words_between pl sites from k + stack_words pl sites (from + k) ≤ words_between pl sites from n
between_next pl sites from k zero lt = absurd (omega arith)
between_next pl sites from zero (suc n) lt = let e : from + 0 ≡ from = omega arith in let q = ap (λ m. stack_words pl sites m) e in omega arith
between_next pl sites from (suc k) (suc n) lt =
    let e : suc from + k ≡ from + suc k = omega arith in
    let q = ap (λ m. stack_words pl sites m) e in
    let r = between_next pl sites (suc from) k n (omega arith) in omega arith

between_sites : (pl : Placement) (sites : List TypeTree) (first site n : ℕ) → first ≤ site → site - first < n → pl.on_heap site ≡ false → words_between pl sites first (site - first) + width (get_or sites site ints) ≤ words_between pl sites first n
between_sites pl sites first site n from lt stays =
    let e : first + (site - first) ≡ site = omega arith in
    let q = ap (λ m. stack_words pl sites m) e ∙ stack_is pl sites site stays in
    let r = between_next pl sites first (site - first) n lt in omega arith

pub site_before : (p : Program) (pl : Placement) (first u v : ℕ) → pl.on_heap u ≡ false → first ≤ u → u < v → words_between pl p.sites first (u - first) + site_width p u ≤ words_between pl p.sites first (v - first)
site_before p pl first u v stays from lt = between_sites pl p.sites first u (v - first) from (omega arith) stays

-- and within those of the function
pub site_within : (p : Program) (pl : Placement) (f : Func) (v : ℕ) → pl.on_heap v ≡ false → f.first ≤ v → v < f.first + f.count → words_between pl p.sites f.first (v - f.first) + site_width p v ≤ words_between pl p.sites f.first f.count
site_within p pl f v stays from to = between_sites pl p.sites f.first v f.count from (omega arith) stays

-- ---- the placement that needs no analysis

or_true : (b : Bool) → (b || true) ≡ true
or_true true = refl
or_true false = refl

same_some : (g h : ℕ × Value) → Some g ≡ Some h → g ≡ h
same_some g h e = cc

one_among : (gs : List (ℕ × Value)) (i : ℕ) (g : ℕ × Value) → slice_get gs i ≡ Some g → among g.0 gs ≡ true
one_among [] i g e = absurd cc
one_among (h ∷ gs) zero g e = ap (λ b. b || among g.0 gs) (eq-eqb h.0 g.0 (ap (λ (q : ℕ × Value). q.0) (same_some h g e)))
one_among (h ∷ gs) (suc i) g e = ap (λ b. (h.0 == g.0) || b) (one_among gs i g e) ∙ or_true (h.0 == g.0)

-- it has rules
pub coarse_placed : (p : Program) → IsPlaced p (coarse p)
coarse_placed p = record {
  taken = λ site is. ap (λ b. among site p.globals || (b || nat_lt most_words (site_width p site))) is ∙ or_true (among site p.globals);
  globals = λ i g e. ap (λ b. b || (is_taken p g.0 || nat_lt most_words (site_width p g.0))) (one_among p.globals i g e);
}
