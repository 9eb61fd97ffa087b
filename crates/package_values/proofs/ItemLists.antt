-- The constants and variables of declarations.
use Rattle.std.proofs.Common.{◌≡◌, ℕ, zero, suc, ◌+◌, ◌≤◌, min, map, drop, Bool, true, false, List, [], ◌∷◌, ◌++◌, length, Option, Some, None, refl, sym, ap, ◌∙◌, arith, append_assoc}
use Rattle.std.specs.Prelude.{◌==◌}
use Rattle.std.proofs.lemmas.Bool.{eqb-true}
use Rattle.std.specs.Option.{option_map}
use Rattle.syntax.specs.declared.expression.Name.{Name}
use Rattle.syntax.specs.declared.expression.Expr.{Expr}
use Rattle.syntax.specs.declared.expression.Element.{Element}
use Rattle.syntax.specs.declared.expression.Element.TheVariants as element
use Rattle.syntax.specs.declared.statement.ValueSpec.{ValueSpec as CodeValueSpec}
use Rattle.syntax.specs.Expressions.{Ex as TreeEx, Exs as TreeExs, ex_of, exs_of, ex_in, elements_of}
use Rattle.syntax.specs.Statements.{value_spec_of}
use Rattle.syntax.specs.Declarations.{Declaration, constants, variables, types, function}
use Rattle.package_values.specs.Values.{Item, unvalued, paired, or_unvalued, items_of, items_in}
use Rattle.std.proofs.lemmas.List.{map-append}
use Rattle.package_values.specs.declared.items.Item.{Item as ItemData}
use Rattle.package_values.specs.declared.items.Role.{Role}
use Rattle.package_values.specs.Needs.{names_in_elements}
use Rattle.package_values.specs.ValueFaults.{is_bare}
use Rattle.package_values.specs.Passing.{item_of, item_views, names_in_element, items_of_decl, pairs}

abbrev valued : Role → List Name → Option TreeEx → TreeExs → ℕ → Name → Expr → Item
valued r names t all k n e = record { role = r; name = n; names = names; place = k; type_expr = t; value = Some (ex_of e); values = all }

-- as many values as names, or another number
module _ (r : Role) (names : List Name) (t : Option TreeEx) (all : TreeExs) where
  pub paired_pairs : (k : ℕ) (ns : List Name) (es : List Expr) → length ns ≡ length es → paired r names t all k ns (exs_of es) ≡ Some (pairs r names t all k ns es)
  paired_pairs k [] [] is = refl
  paired_pairs k [] (e ∷ es) is = absurd (omega (arith, is))
  paired_pairs k (n ∷ ns) [] is = absurd (omega (arith, is))
  paired_pairs k (n ∷ ns) (e ∷ es) is = ap (option_map (λ (l : List Item). valued r names t all k n e ∷ l)) (paired_pairs (1 + k) ns es (omega (arith, is)))

  pub paired_none : (k : ℕ) (ns : List Name) (es : List Expr) → (length ns ≡ length es → ⊥) → paired r names t all k ns (exs_of es) ≡ None
  paired_none k [] [] differ = absurd (differ refl)
  paired_none k [] (e ∷ es) differ = refl
  paired_none k (n ∷ ns) [] differ = refl
  paired_none k (n ∷ ns) (e ∷ es) differ = ap (option_map (λ (l : List Item). valued r names t all k n e ∷ l)) (paired_none (1 + k) ns es (λ is. differ (omega (arith, is))))

-- one more in front of those to come
pub pushed_map : {A B : Type 0} (f : A → B) (xs : List A) (x : A) (y : B) (all rest : List B) → f x ≡ y → all ≡ map f xs ++ (y ∷ rest) → all ≡ map f (xs ++ x ∷ []) ++ rest
pushed_map f xs x y all rest same is =
    is ∙ ap (λ v. map f xs ++ (v ∷ rest)) (sym same) ∙ sym (append_assoc (map f xs) (f x ∷ []) rest) ∙ ap (λ l. l ++ rest) (sym (map-append f xs (x ∷ [])))

pub pushed : (items : List ItemData) (i : ItemData) (view : Item) (all rest : List Item) → item_of i ≡ view → all ≡ item_views items ++ (view ∷ rest) → all ≡ item_views (items ++ i ∷ []) ++ rest
pushed items i view all rest same is = pushed_map item_of items i view all rest same is

pub many_views : {A B : Type 0} (f : A → B) (xs : List A) → length (map f xs) ≡ length xs
many_views f [] = refl
many_views f (x ∷ xs) = ap suc (many_views f xs)

-- those of one more declaration
pub joined : (all before here rest : List Item) (now : List Item) → now ≡ before ++ here → all ≡ before ++ (here ++ rest) → all ≡ now ++ rest
joined all before here rest now is front = front ∙ sym (append_assoc before here rest) ∙ ap (λ l. l ++ rest) (sym is)

-- after the last name or the last value
module _ (r : Role) (names : List Name) (t : Option TreeEx) (all : TreeExs) where
  pub no_pairs : (place : ℕ) (ns : List Name) (es : List Expr) (k : ℕ) → min (length ns) (length es) ≤ k → pairs r names t all place (drop k ns) (drop k es) ≡ []
  no_pairs place [] es zero le = refl
  no_pairs place [] es (suc k) le = refl
  no_pairs place (n ∷ ns) [] zero le = refl
  no_pairs place (n ∷ ns) [] (suc k) le = no_values (drop k ns)
    where
      no_values : (l : List Name) → pairs r names t all place l [] ≡ []
      no_values [] = refl
      no_values (m ∷ ms) = refl
  no_pairs place (n ∷ ns) (e ∷ es) zero le = absurd (omega (arith, le))
  no_pairs place (n ∷ ns) (e ∷ es) (suc k) le = no_pairs place ns es k (omega (arith, le))

module _ (r : Role) (v : CodeValueSpec) where
  abbrev names : List Name
  names = v.names.items

  abbrev all : TreeExs
  all = exs_of v.values.items

  pub items_valued : length v.names.items ≡ length v.values.items → pairs r names (ex_in v.type_expr) all 0 names v.values.items ≡ items_of r (value_spec_of v)
  items_valued is = sym (ap (λ (o : Option (List Item)). or_unvalued o (unvalued r names (ex_in v.type_expr) all 0 names)) (paired_pairs r names (ex_in v.type_expr) all 0 names v.values.items is))

  pub items_unvalued : (length v.names.items ≡ length v.values.items → ⊥) → unvalued r names (ex_in v.type_expr) all 0 names ≡ items_of r (value_spec_of v)
  items_unvalued differ = sym (ap (λ (o : Option (List Item)). or_unvalued o (unvalued r names (ex_in v.type_expr) all 0 names)) (paired_none r names (ex_in v.type_expr) all 0 names v.values.items differ))

-- the names in one more element of a composite literal
pub names_in_one : (x : Element) (xs : List Element) → names_in_elements (elements_of (x ∷ xs)) ≡ names_in_element x ++ names_in_elements (elements_of xs)
names_in_one (element.Plain e) xs = refl
names_in_one (element.Keyed n e) xs = refl

-- the constants or variables of one more declaration of a package
pub items_one : (d : Declaration) (ds : List Declaration) → items_in (d ∷ ds) ≡ items_of_decl d ++ items_in ds
items_one (constants at specs) ds = refl
items_one (variables at specs) ds = refl
items_one (types at specs) ds = refl
items_one (function g) ds = refl

-- ---- all looks

pub bare_is : (e : TreeEx) (xs : List Expr) → is_bare (Some e) (exs_of xs) ≡ (length xs == 0)
bare_is e [] = refl
bare_is e (x ∷ xs) = by (length (x ∷ xs) == 0) refl
  where
    by : (b : Bool) → (length (x ∷ xs) == 0) ≡ b → false ≡ b
    by false is = refl
    by true is = let none : length (x ∷ xs) ≡ 0 = eqb-true (length (x ∷ xs)) 0 is in absurd (omega (arith, none))
