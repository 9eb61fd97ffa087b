-- Where the words of package variables stand among each other.
use Rattle.std.proofs.Common.{◌≡◌, ℕ, zero, suc, ◌+◌, ◌<◌, ◌≤◌, pos, List, [], ◌∷◌, length, get_or, refl, ap, arith}
use Rattle.std.proofs.lemmas.List.{length-map}
use Rattle.typed_syntax.specs.Types.{TypeTree, ints, width}
use Rattle.typed_syntax.specs.Value.{Value, int}
use Rattle.typed_syntax.specs.Syntax.{Func, Program, global_type}
use Rattle.frames.specs.Placement.{Placement}
use Rattle.program_code.specs.Code as Code
use Rattle.program_code.specs.Code.{globals_before, slots_of}
use Rattle.state_relation.specs.Relation.{sites_of, words_before, all_words}

-- in the place of a package variable that is not there
abbrev pub no_global : ℕ × Value
no_global = (0, int (pos 0))

pub site_is : (gs : List (ℕ × Value)) (g : ℕ) → get_or (sites_of gs) g 0 ≡ (get_or gs g no_global).0
site_is [] g = refl
site_is (x ∷ gs) zero = refl
site_is (x ∷ gs) (suc g) = site_is gs g

-- the code and the source tell the same types
pub type_is : (p : Program) (pl : Placement) (f : Func) (g : ℕ) → Code.global_type (slots_of p pl f) g ≡ global_type p g
type_is p pl f g = ap (λ site. get_or p.sites site ints) (site_is p.globals g)

-- each stands before the later ones
before_next : (sites : List TypeTree) (xs : List ℕ) (g h : ℕ) → g < h → h ≤ length xs
    → globals_before sites xs g + width (get_or sites (get_or xs g 0) ints) ≤ globals_before sites xs h
before_next sites [] g h lt le = absurd (omega arith)
before_next sites (x ∷ xs) g zero lt le = absurd (omega arith)
before_next sites (x ∷ xs) zero (suc h) lt le = omega arith
before_next sites (x ∷ xs) (suc g) (suc h) lt le = let r = before_next sites xs g h (omega arith) (omega arith) in omega arith

pub words_next : (p : Program) (g h : ℕ) → g < h → h ≤ length p.globals
    → words_before p g + width (global_type p g) ≤ words_before p h
words_next p g h lt le =
    let q = ap (λ site. width (get_or p.sites site ints)) (site_is p.globals g) in
    let r = before_next p.sites (sites_of p.globals) g h lt
    (omega (arith, le, length-map p.globals (λ (x : ℕ × Value). x.0))) in omega (arith, q, r)

pub words_within : (p : Program) (g : ℕ) → g < length p.globals → words_before p g + width (global_type p g) ≤ all_words p
words_within p g lt = words_next p g (length p.globals) lt (omega arith)
