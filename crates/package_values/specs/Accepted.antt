-- What the declarations of constants and variables of an accepted package are, said without rules that fail: what stands as a type is one, each
-- value is one that its place takes, each name stands for its own constant or variable, and the value or the type of each of these is known.
use Rattle.std.specs.Prelude.{◌≡◌, ◌⊎◌, ℕ, suc, length, true, false, List, [], ◌∷◌, codes, slice_get, Option, Some, None}
use Rattle.std.specs.Str.{bytes_eq}
use Rattle.syntax.specs.Expressions.{Ex as TreeEx, Exs as TreeExs, none, some, spelled}
use Rattle.syntax.specs.Statements.{ValueSpec}
use Rattle.syntax.specs.Declarations.{Declaration, constants, variables, types, function}
use Rattle.typed_syntax.specs.Syntax.{Exs}
use Rattle.base.specs.declared.value_type.ValueType.{ValueType}
use Rattle.constants.specs.declared.constant.Fixed.{Fixed}
use Rattle.names.specs.declared.scope.Known.{Known}
use Rattle.names.specs.declared.scope.Known.TheVariants as known_as
use Rattle.names.specs.Universe.{is_blank}
use Rattle.names.specs.Scope.{Scope, declaration, known}
use Rattle.given_values.specs.Given.{own_type, taken}
use Rattle.expression_types.specs.Typing.{spec_wanted, gives, stated_type, seen}
use Rattle.package_values.specs.declared.items.Role.{Role}
use Rattle.package_values.specs.declared.items.Role.TheVariants as role
use Rattle.package_values.specs.Values.{Item, items_in, given_by, variable_type}
use Rattle.package_values.specs.Needs.{have_form}
use Rattle.package_values.specs.ValueFaults.{is_this_value, is_bare}

module _ (text : List ℕ) (s : Scope) where
  -- ---- constants

  abbrev pub TypeIs : Option TreeEx → Type 0
  TypeIs None = Unit {0}
  TypeIs (Some e) = (t : ValueType) × (stated_type text s e ≡ Some t)

  -- each value gives a constant; a type that stands before them holds it
  abbrev pub ConstantValuesAre : Option TreeEx → TreeExs → Type 0
  ConstantValuesAre t none = Unit {0}
  ConstantValuesAre t (some e es) = ((f : Fixed) × (given_by text s t (Some e) ≡ Some f)) × ConstantValuesAre t es

  -- one declaration of a `const`, with a value for each name
  pub record ConstantsAre (v : ValueSpec) : Type 0 where
    pub type_is : TypeIs v.type_expr
    pub values : ConstantValuesAre v.type_expr v.values
    pub as_many : length (seen text s v.values) ≡ length v.names

  abbrev pub AllConstantsAre : List ValueSpec → Type 0
  AllConstantsAre [] = Unit {0}
  AllConstantsAre (v ∷ vs) = ConstantsAre v × AllConstantsAre vs

  -- ---- variables

  -- each value has a type by itself
  abbrev pub OwnTypesAre : TreeExs → Type 0
  OwnTypesAre none = Unit {0}
  OwnTypesAre (some e es) = ((t : ValueType) × (own_type (gives text s e) ≡ Some t)) × OwnTypesAre es

  -- the type that stands there, or else those of the values
  abbrev pub VariableTypesAre : Option TreeEx → TreeExs → Type 0
  VariableTypesAre None es = OwnTypesAre es
  VariableTypesAre (Some e) es = (t : ValueType) × (stated_type text s e ≡ Some t)

  -- values of the form of constants, as many as names, each assignable to the type that stands there
  pub record InitialsAre (v : ValueSpec) : Type 0 where
    pub form : have_form text s v.values ≡ true
    pub xs : Exs
    pub taken_is : taken (spec_wanted text s v) (seen text s v.values) ≡ Some xs

  -- one declaration of a `var`, with values or a type alone
  pub record VariablesAre (v : ValueSpec) : Type 0 where
    pub types_are : VariableTypesAre v.type_expr v.values
    pub values : (is_bare v.type_expr v.values ≡ true) ⊎ InitialsAre v

  abbrev pub AllVariablesAre : List ValueSpec → Type 0
  AllVariablesAre [] = Unit {0}
  AllVariablesAre (v ∷ vs) = VariablesAre v × AllVariablesAre vs

  abbrev pub SpecsAre : List Declaration → Type 0
  SpecsAre [] = Unit {0}
  SpecsAre (constants pos specs ∷ ds) = AllConstantsAre specs × SpecsAre ds
  SpecsAre (variables pos specs ∷ ds) = AllVariablesAre specs × SpecsAre ds
  SpecsAre (types pos specs ∷ ds) = SpecsAre ds
  SpecsAre (function g ∷ ds) = SpecsAre ds

  -- ---- their names, and what is known of each

  -- `_`, or a name other than `init` that stands for the constant or variable of this number
  abbrev pub NameIs : ℕ → List ℕ → Type 0
  NameIs k name = (is_blank name ≡ true) ⊎ ((bytes_eq name (codes "init") ≡ false) × (is_this_value k (declaration s name) ≡ true))

  abbrev pub NamesAre : ℕ → List Item → Type 0
  NamesAre k [] = Unit {0}
  NamesAre k (i ∷ is) = NameIs k (spelled text i.name) × NamesAre (suc k) is

  -- the value that the declaration gives a constant, and the type that it gives a variable
  abbrev pub IsGiven : Role → Item → Known → Type 0
  IsGiven role.Constant i x = (f : Fixed) × (x ≡ known_as.Constant f) × (given_by text s i.type_expr i.value ≡ Some f)
  IsGiven role.Variable i x =
      (t : ValueType) × (x ≡ known_as.Variable t)
      × (variable_type text s i.type_expr i.value i.values (length i.names) i.place ≡ Some t)

  pub record DeclarationsAre (ds : List Declaration) : Type 0 where
    pub specs : SpecsAre ds
    pub names : NamesAre 0 (items_in ds)
    pub values : (k : ℕ) (i : Item) → slice_get (items_in ds) k ≡ Some i → (x : Known) × (known s k ≡ Some x) × IsGiven i.role i x
