-- Bits past the end, those of sites, and the package variables one by one.
use Rattle.std.proofs.Common.{◌≡◌, ℕ, zero, suc, ◌+◌, ◌<◌, Bool, true, false, List, [], ◌∷◌, ◌++◌, get_or, replicate, length, map, drop, refl, ap, sym, ◌∙◌, arith}
use Rattle.std.specs.Prelude.{◌==◌, ◌||◌, nat_lt}
use Rattle.std.proofs.Math.Seq.{drop-cons}
use Rattle.typed_syntax.specs.Types.{TypeTree, ints, width}
use Rattle.frames.specs.Placement.{among, most_words}
use Rattle.typed.specs.View.{addresses_taken, global_of, site_types}
use Rattle.typed.specs.declared.program.PackageVariable.{PackageVariable}
use Rattle.typed.specs.declared.program.Site.{Site}
use Rattle.placement.specs.Told.{is_apart}

no_bits : (n k : ℕ) → get_or (replicate n false) k false ≡ false
no_bits zero k = refl
no_bits (suc n) zero = refl
no_bits (suc n) (suc k) = no_bits n k

-- false bits at the end change nothing
pub padded : (bits : List Bool) (n k : ℕ) → get_or (bits ++ replicate n false) k false ≡ get_or bits k false
padded [] n k = no_bits n k
padded (b ∷ bits) n zero = refl
padded (b ∷ bits) n (suc k) = padded bits n k

-- the bit of a site
pub apart_at : (types : List TypeTree) (sites : List Site) (site : ℕ)
    → get_or (map (is_apart types) sites) site false ≡ (get_or (addresses_taken sites) site false || nat_lt most_words (width (get_or (site_types types sites) site ints)))
apart_at types [] site = refl
apart_at types (x ∷ sites) zero = refl
apart_at types (x ∷ sites) (suc site) = apart_at types sites site

pub swapped : (a b : Bool) → (a || b) ≡ (b || a)
swapped true true = refl
swapped true false = refl
swapped false true = refl
swapped false false = refl

passed : (own sofar rest : Bool) → ((own || sofar) || rest) ≡ (sofar || (own || rest))
passed true true rest = refl
passed true false rest = refl
passed false sofar rest = refl

-- what is told of a site before a package variable and after it
pub told_next : (types : List TypeTree) (gs : List PackageVariable) (i : ℕ) (d : PackageVariable) → i < length gs → (site : ℕ) (sofar more whole : Bool)
    → more ≡ (((get_or gs i d).site.0 == site) || sofar) → (sofar || among site (map (global_of types) (drop i gs))) ≡ whole → (more || among site (map (global_of types) (drop (i + 1) gs))) ≡ whole
told_next types gs i d l site sofar more whole told before =
    let one : suc i ≡ i + 1 = omega arith in
    let g = get_or gs i d in
    let split : drop i gs ≡ g ∷ drop (i + 1) gs = drop-cons gs i d l ∙ ap (λ j. g ∷ drop j gs) one in
    let rest = among site (map (global_of types) (drop (i + 1) gs)) in
    ap (λ b. b || rest) told ∙ passed (g.site.0 == site) sofar rest ∙ sym (ap (λ (ys : List PackageVariable). sofar || among site (map (global_of types) ys)) split) ∙ before
