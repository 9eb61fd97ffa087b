-- The package variables: where they stand one after the other, and that their words are told by 16 bits.
use Rattle.std.proofs.Common.{◌≡◌, ℕ, zero, suc, ◌+◌, ◌<◌, ◌≤◌, List, [], ◌∷◌, ◌++◌, length, get_or, drop, map, Option, Some, None, refl, sym, ap, ◌∙◌, arith, append_assoc}
use Rattle.std.specs.Prelude.{slice_get}
use Rattle.std.specs.Option.{unwrap_or, option_map}
use Rattle.std.proofs.Math.Seq.{drop-cons}
use Rattle.std.proofs.lemmas.List.{append-nil}
use Rattle.base.specs.declared.value_type.ValueType.{ValueType}
use Rattle.heap_bump.specs.Words.{first_address}
use Rattle.typed_syntax.specs.Types.{TypeTree, ints, width}
use Rattle.typed_syntax.specs.Syntax.{type_in}
use Rattle.typed.specs.Tables.{Table, Holds}
use Rattle.typed.specs.Trees.{tree_named, tree_of}
use Rattle.typed.specs.Formed.{IsFormed}
use Rattle.typed.specs.View.{global_of, program_of, site_types}
use Rattle.typed.specs.declared.program.PackageVariable.{PackageVariable}
use Rattle.typed.specs.declared.program.Program.{Program}
use Rattle.typed.specs.declared.program.Site.{Site}
use Rattle.program_code.specs.Code.{globals_before}
use Rattle.expression_code.specs.Frame.{AreSmall, addresses, global_addresses, globals_in, sites_in}

-- the sites of the package variables
pub globals_are : (p : Program) → globals_in p ≡ map (λ g. g.0) (program_of p).globals
unfolding globals_in
globals_are p = refl

-- where the variables stand
pub addresses_length : (sites : List TypeTree) (xs : List ℕ) (at : ℕ) → length (addresses sites xs at) ≡ length xs
addresses_length sites [] at = refl
addresses_length sites (x ∷ xs) at = ap suc (addresses_length sites xs (at + width (get_or sites x ints)))

address_of : (sites : List TypeTree) (xs : List ℕ) (at g d : ℕ) → g < length xs → get_or (addresses sites xs at) g d ≡ at + globals_before sites xs g
address_of sites [] at g d l = absurd (omega (arith, l))
address_of sites (x ∷ xs) at zero d l = omega arith
address_of sites (x ∷ xs) at (suc g) d l = let r = address_of sites xs (at + width (get_or sites x ints)) g d (omega (arith, l)) in omega (arith, r)

pub address_is : (sites : List TypeTree) (xs : List ℕ) (at g x : ℕ) (items : List ℕ) → items ≡ addresses sites xs at → g < length xs → x ≡ get_or items g x → x ≡ at + globals_before sites xs g
address_is sites xs at g x items same l is = is ∙ ap (λ ns. get_or ns g x) same ∙ address_of sites xs at g x l

-- one variable, and those after it
abbrev pub sites_of : List TypeTree → List PackageVariable → List ℕ
sites_of sites gs = map (λ g. g.0) (map (global_of sites) gs)

pub addresses_next : (sites : List TypeTree) (gs : List PackageVariable) (i : ℕ) (g : PackageVariable) → i < length gs → g ≡ get_or gs i g → (whole all more : List ℕ) (at after : ℕ) → after ≡ at + width (get_or sites g.site.0 ints)
    → whole ≡ all ++ addresses sites (sites_of sites (drop i gs)) at → more ≡ all ++ at ∷ [] → whole ≡ more ++ addresses sites (sites_of sites (drop (i + 1) gs)) after
addresses_next sites gs i g l is whole all more at after step e1 e2 =
    let one : suc i ≡ i + 1 = omega arith in
    let split : drop i gs ≡ g ∷ drop (i + 1) gs = drop-cons gs i g l ∙ ap (λ (y : PackageVariable). y ∷ drop (suc i) gs) (sym is) ∙ ap (λ j. g ∷ drop j gs) one in
    let rest = sites_of sites (drop (i + 1) gs) in
    e1 ∙ ap (λ (ys : List PackageVariable). all ++ addresses sites (sites_of sites ys) at) split
    ∙ sym (append_assoc all (at ∷ []) (addresses sites rest (at + width (get_or sites g.site.0 ints))))
    ∙ ap (λ ns. ns ++ addresses sites rest (at + width (get_or sites g.site.0 ints))) (sym e2)
    ∙ ap (λ n. more ++ addresses sites rest n) (sym step)

-- after the last one
past : (gs : List PackageVariable) (i : ℕ) → length gs ≤ i → drop i gs ≡ []
past [] zero l = refl
past [] (suc i) l = refl
past (g ∷ gs) zero l = absurd (omega arith)
past (g ∷ gs) (suc i) l = past gs i (omega arith)

pub addresses_done : (p : Program) (gs : List PackageVariable) → gs ≡ p.globals.items → (i : ℕ) → length gs ≤ i → (all : List ℕ) (at : ℕ)
    → addresses (sites_in p) (sites_of (sites_in p) gs) first_address ≡ all ++ addresses (sites_in p) (sites_of (sites_in p) (drop i gs)) at → all ≡ global_addresses p
addresses_done p gs same i l all at e =
    let sites = sites_in p in
    let whole = e ∙ ap (λ (ys : List PackageVariable). all ++ addresses sites (sites_of sites ys) at) (past gs i l) ∙ append-nil all in
    sym whole ∙ ap (λ (ys : List PackageVariable). addresses sites (sites_of sites ys) first_address) same ∙ ap (λ xs. addresses sites xs first_address) (sym (globals_are p))

-- the words of each type of a table
small_among : (ts : List ValueType) (f : ValueType → TypeTree) (i : ℕ) → ((t : ValueType) → slice_get ts i ≡ Some t → width (f t) ≤ 65535) → width (get_or (map f ts) i ints) ≤ 65535
small_among [] f i s = omega arith
small_among (t ∷ ts) f zero s = s t refl
small_among (t ∷ ts) f (suc i) s = small_among ts f i s

pub small_types : (T : Table) → IsFormed T → (i : ℕ) → width (tree_named T i) ≤ 65535
small_types T formed i = small_among T.types (λ t. unwrap_or (tree_of T t) ints) i (λ t holds. by t holds (tree_of T t) refl)
  where
    by : (t : ValueType) → Holds T i t → (o : Option TypeTree) → tree_of T t ≡ o → width (unwrap_or o ints) ≤ 65535
    by t holds None is = omega arith
    by t holds (Some x) is = (formed.types i t (width x) holds (ap (option_map width) is)).1

pub small_sites : (known : List TypeTree) → ((n : ℕ) → width (type_in known n) ≤ 65535) → (sites : List Site) → AreSmall (site_types known sites)
small_sites known small [] site = omega arith
small_sites known small (x ∷ sites) zero = small x.type_id.0
small_sites known small (x ∷ sites) (suc site) = small_sites known small sites site
