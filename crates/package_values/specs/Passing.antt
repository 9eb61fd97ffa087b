-- What lies in memory as abstract syntax, and what the passes work out of what they know of the parts.
use Rattle.std.specs.Prelude.{◌≡◌, ℕ, ◌+◌, Bool, false, List, [], ◌∷◌, map, slice_get, option_and_then, Option, Some, None, if◌then◌else◌}
use Rattle.std.specs.Option.{option_map}
use Rattle.base.specs.declared.pos.Pos.{Pos}
use Rattle.syntax.specs.declared.expression.Name.{Name}
use Rattle.syntax.specs.declared.expression.Expr.{Expr}
use Rattle.syntax.specs.declared.expression.Element.{Element}
use Rattle.syntax.specs.declared.expression.Element.TheVariants as element
use Rattle.syntax.specs.Expressions.{Ex as TreeEx, Exs as TreeExs, ex_of, exs_of, ex_in}
use Rattle.syntax.specs.Declarations.{Declaration, constants, variables, types, function}
use Rattle.type_faults.specs.declared.fault.Fault.{Fault}
use Rattle.type_faults.specs.declared.fault.FaultKind.TheVariants.{SelfReference}
use Rattle.type_faults.specs.Faults.{fault}
use Rattle.components.specs.Graph.{Leads}
use Rattle.names.specs.declared.scope.Known.{Known}
use Rattle.names.specs.Scope.{Scope, with_known}
use Rattle.package_values.specs.declared.items.Item.{Item as ItemData}
use Rattle.package_values.specs.Values.{Item, items_in_specs, given}
use Rattle.package_values.specs.Needs.{names_in}
use Rattle.package_values.specs.ValueFaults.{SpecsFail, AllVariablesFail}
use Rattle.package_values.specs.declared.items.Role.{Role}
use Rattle.package_values.specs.declared.items.Role.TheVariants as role

-- ---- constants and variables

abbrev pub item_of : ItemData → Item
item_of i = record { role = i.role; name = i.name; names = i.names.now; place = i.place; type_expr = ex_in i.type_expr.now; value = option_map (λ e. ex_of e.now) i.value; values = exs_of i.values.now }

abbrev pub item_views : List ItemData → List Item
item_views is = map item_of is

-- each name from a place on with the value there
abbrev pub pairs : Role → List Name → Option TreeEx → TreeExs → ℕ → List Name → List Expr → List Item
pairs r names t all k [] es = []
pairs r names t all k (n ∷ ns) [] = []
pairs r names t all k (n ∷ ns) (e ∷ es) =
    record { role = r; name = n; names = names; place = k; type_expr = t; value = Some (ex_of e); values = all } ∷ pairs r names t all (1 + k) ns es

-- the constants or variables of one declaration of a package
abbrev pub items_of_decl : Declaration → List Item
items_of_decl (constants pos specs) = items_in_specs role.Constant specs
items_of_decl (variables pos specs) = items_in_specs role.Variable specs
items_of_decl (types pos specs) = []
items_of_decl (function g) = []

-- the names in an element of a composite literal
abbrev pub names_in_element : Element → List Name
names_in_element (element.Plain e) = names_in (ex_of e)
names_in_element (element.Keyed n e) = names_in (ex_of e)

-- ---- rules of one declaration of a package

abbrev pub DeclarationFails : List ℕ → Scope → Declaration → Fault → Type 0
DeclarationFails text s (constants pos specs) f = SpecsFail text s pos specs f
DeclarationFails text s (variables pos specs) f = AllVariablesFail text s pos specs f
DeclarationFails text s (types pos specs) f = ⊥
DeclarationFails text s (function g) f = ⊥

-- ---- what needs what, as a graph

pub record RecursAt (t : List (List ℕ)) (k : ℕ) (place : Pos) (f : Fault) : Type 0 where
  pub leads : Leads t k k
  pub at : f ≡ fault SelfReference place

abbrev pub recursion_fault : Bool → Pos → Option Fault
recursion_fault needs_itself pos = if needs_itself then Some (fault SelfReference pos) else None

-- ---- marks

abbrev pub has_mark : Option Bool → Bool
has_mark None = false
has_mark (Some b) = b

abbrev pub is_marked : List Bool → ℕ → Bool
is_marked marks k = has_mark (slice_get marks k)

-- ---- the pass: what the declaration of each gives, one after the other

module _ (text : List ℕ) (is : List Item) where
  abbrev pub given_at : Scope → ℕ → Option Known
  given_at s k = option_and_then (given text s) (slice_get is k)

  abbrev pub with_given : Scope → ℕ → Scope
  with_given s k = with_known s k (given_at s k)

  abbrev pub each_given : Scope → List ℕ → Scope
  each_given s [] = s
  each_given s (k ∷ ks) = each_given (with_given s k) ks

  abbrev pub all_given : Scope → List (List ℕ) → Scope
  all_given s [] = s
  all_given s (ks ∷ kss) = all_given (each_given s ks) kss
