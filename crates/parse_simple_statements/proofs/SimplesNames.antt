-- A list of names is a list of expressions each of which is a name.
use Rattle.std.proofs.Common.{◌≡◌, ℕ, Bool, List, [], ◌∷◌, Option, Some, None, refl, sym, ap, subst, ◌∙◌}
use Rattle.std.specs.Option.{option_map}
use Rattle.syntax.specs.declared.expression.Name.{Name}
use Rattle.syntax.specs.Expressions.{name, Exs, none, some}
use Rattle.parse_expressions.specs.declared.terminal.Terminal.TheVariants.{Identifier, Comma}
use Rattle.parse_expressions.specs.Grammar.{Mark, inside, AreValues, ReadsMore, ReadsExs}
use Rattle.parse_simple_statements.specs.Grammar.{ReadsMoreNames, ReadsNames}
use Rattle.parse_simple_statements.specs.Simples.{names_in}

abbrev pub named : List Name → Exs
named [] = none
named (x ∷ xs) = some (name x) (named xs)

pub names_in_named : (xs : List Name) → names_in (named xs) ≡ Some xs
names_in_named [] = refl
names_in_named (x ∷ xs) = ap (option_map (λ ys. x ∷ ys)) (names_in_named xs)

named_values : (xs : List Name) → AreValues (named xs)
named_values [] = tt
named_values (x ∷ xs) = (tt, named_values xs)

more_named : (l : Bool) (d : ℕ) (xs : List Name) (ts rest : List Mark) → ReadsMoreNames d xs ts rest → ReadsMore l d (named xs) ts rest
more_named l d [] ts rest r = r
more_named l d (x ∷ xs) ts rest r = (inside (Identifier x) d ∷ r.0, r.0, r.1, refl, more_named l d xs r.0 rest r.2)

pub read_named : (l : Bool) (d : ℕ) (xs : List Name) (ts rest : List Mark) → ReadsNames d xs ts rest → ReadsExs l d (named xs) ts rest
read_named l d [] ts rest r = absurd r
read_named l d (x ∷ xs) ts rest r = ((tt, named_values xs), r.0, r.1, more_named l d xs r.0 rest r.2)

mapped : (x : Name) (o : Option (List Name)) (xs : List Name) → option_map (λ ys. x ∷ ys) o ≡ Some xs → (ys : List Name) × (o ≡ Some ys) × (xs ≡ x ∷ ys)
mapped x None xs is = absurd cc
mapped x (Some ys) xs is = (ys, refl, cc)

more_names : (l : Bool) (d : ℕ) (es : Exs) (xs : List Name) (ts rest : List Mark) → names_in es ≡ Some xs → ReadsMore l d es ts rest → ReadsMoreNames d xs ts rest
more_names l d none xs ts rest is r = let e : [] ≡ xs = cc in subst (λ (ys : List Name). ReadsMoreNames d ys ts rest) e r
more_names l d (some (name x) es) xs ts rest is r =
    let i = mapped x (names_in es) xs is in
    subst (λ (ys : List Name). ReadsMoreNames d ys ts rest) (sym i.2) (r.1, r.2 ∙ ap (λ (k : List Mark). inside Comma d ∷ k) r.3, more_names l d es i.0 r.1 rest i.1 r.4)
more_names l d (some e es) xs ts rest is r = absurd cc

pub read_names : (l : Bool) (d : ℕ) (es : Exs) (xs : List Name) (ts rest : List Mark) → names_in es ≡ Some xs → ReadsExs l d es ts rest → ReadsNames d xs ts rest
read_names l d none xs ts rest is r = absurd r
read_names l d (some (name x) es) xs ts rest is r =
    let i = mapped x (names_in es) xs is in
    subst (λ (ys : List Name). ReadsNames d ys ts rest) (sym i.2) (r.1, r.2, more_names l d es i.0 r.1 rest i.1 r.3)
read_names l d (some e es) xs ts rest is r = absurd cc
