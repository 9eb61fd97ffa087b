-- Typed statements one after the other, where all have a typed form.
use Rattle.std.proofs.Common.{◌≡◌, List, [], ◌∷◌, ◌++◌, Option, Some, None, refl, sym, ap, ◌∙◌}
use Rattle.std.specs.Prelude.{option_and_then}
use Rattle.std.specs.Option.{option_map}
use Rattle.std.specs.Global.{Vec}
use Rattle.typed.specs.declared.stmt.Stmt.{Stmt}
use Rattle.typed.specs.View.{st_of, sts_of}
use Rattle.typed_syntax.specs.Syntax.{St, Sts, done, next}
use Rattle.type_faults.specs.Given.{with_last}
use Rattle.simple_statements.specs.SimpleStatements.{before}

pub before_done : (b : Sts) → before b done ≡ b
before_done done = refl
before_done (next t b) = ap (next t) (before_done b)

pub before_more : (xs ys : List Stmt) (r : Sts) → before (sts_of xs) (before (sts_of ys) r) ≡ before (sts_of (xs ++ ys)) r
before_more [] ys r = refl
before_more (x ∷ xs) ys r = ap (next (st_of x)) (before_more xs ys r)

-- typed statements, and more after them
abbrev pub joined : Option (List Stmt) → Option Sts → Option Sts
joined values later = option_and_then (λ v. option_map (before (sts_of v)) later) values

-- one by one
pub joined_start : (b : Option Sts) → joined (Some []) b ≡ b
joined_start None = refl
joined_start (Some r) = refl

pub joined_end : (o : Option (Vec Stmt)) → option_map (λ (v : Vec Stmt). sts_of v.items) o ≡ joined (option_map (λ (v : Vec Stmt). v.items) o) (Some done)
joined_end None = refl
joined_end (Some v) = ap Some (sym (before_done (sts_of v.items)))

pub joined_one : (values : Option (List Stmt)) (line : Option Stmt) (t : Option St) (later : Option Sts) → option_map st_of line ≡ t → joined values (option_and_then (λ x. option_map (next x) later) t) ≡ joined (with_last values line) later
joined_one None line t later e = refl
joined_one (Some v) None t later e = ap (λ i. option_map (before (sts_of v)) (option_and_then (λ x. option_map (next x) later) i)) (sym e)
joined_one (Some v) (Some m) t later e = ap (λ i. option_map (before (sts_of v)) (option_and_then (λ y. option_map (next y) later) i)) (sym e) ∙ by later
  where
    by : (o : Option Sts) → option_map (before (sts_of v)) (option_map (next (st_of m)) o) ≡ option_map (before (sts_of (v ++ m ∷ []))) o
    by None = refl
    by (Some r) = ap Some (before_more v (m ∷ []) r)
