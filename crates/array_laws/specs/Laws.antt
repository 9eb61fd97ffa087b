-- The table of a scope has each array type that stands in the text whose array types have entered it.
use Rattle.std.specs.Prelude.{◌≡◌, ℕ, ◌^◌, ◌≤◌, List, length, Some, None}
use Rattle.base.specs.declared.pos.Pos.{Pos}
use Rattle.base.specs.declared.value_type.ValueType.{ValueType}
use Rattle.base.specs.declared.value_type.ValueType.TheVariants.{Array}
use Rattle.syntax.specs.Expressions.{Ex as TreeEx}
use Rattle.syntax.specs.Declarations.{Declaration}
use Rattle.typed.specs.Tables.{Holds, number_of}
use Rattle.typed.specs.Formed.{IsFormed, refusal}
use Rattle.typed.specs.Trees.{tree_of}
use Rattle.type_faults.specs.declared.fault.FaultKind.TheVariants.{OutOfProfile}
use Rattle.type_faults.specs.Faults.{fault}
use Rattle.constants.specs.declared.constant.Fixed.{Fixed}
use Rattle.operators.specs.Operands.{constant}
use Rattle.names.specs.declared.scope.Declared.TheVariants as declared
use Rattle.names.specs.Scope.{Scope, declaration}
use Rattle.names.specs.Types.{array_type}
use Rattle.operand_parts.specs.ArrayTypes.{array_fault}
use Rattle.given_values.specs.Given.{name_operand}
use Rattle.expression_types.specs.Typing.{stated_type}
use Rattle.entered_types.specs.Entered.{length_in, entered_all}
use Rattle.array_laws.specs.Occurs.{StandsInAll}

-- each type that has a name has a number
abbrev pub NamedHaveNumbers : Scope → Type 0
NamedHaveNumbers r = (word : List ℕ) (t : ValueType) → declaration r word ≡ Some (declared.«Type» t) → (k : ℕ) × Holds r.types k t

-- the array types of declarations enter a table that is formed and has all types with a name, and the numbers suffice
pub record IsReady (text : List ℕ) (r : Scope) (ds : List Declaration) : Type 0 where
  pub formed : IsFormed r.types
  pub named : NamedHaveNumbers r
  pub fits : length (entered_all text r ds).types.types ≤ 2 ^ 32

-- the type of the elements and the length are known, and arrays of them aren't refused
pub record IsFine (text : List ℕ) (h : Scope) (len e : TreeEx) (n : ℕ) (u : ValueType) (i : ℕ) : Type 0 where
  pub known_length : length_in text h len ≡ Some n
  pub known_type : stated_type text h e ≡ Some u
  pub number : number_of h.types u ≡ Some i
  pub fine : refusal h.types (Array n (record { 0 = i })) ≡ None

-- the table has such arrays where they stand in the text
abbrev pub NoneMissing : Type 0
NoneMissing = (text : List ℕ) (r : Scope) (ds : List Declaration) → IsReady text r ds → (len e : TreeEx) → StandsInAll len e ds
    → (n : ℕ) (u : ValueType) (i : ℕ) → IsFine text (entered_all text r ds) len e n u i
    → (k : ℕ) × (number_of (entered_all text r ds).types (Array n (record { 0 = i })) ≡ Some k)

-- and they are a type that is known
abbrev pub NoneUnknown : Type 0
NoneUnknown = (text : List ℕ) (r : Scope) (ds : List Declaration) → IsReady text r ds → (len e : TreeEx) → StandsInAll len e ds
    → (n : ℕ) (u : ValueType) (i : ℕ) → IsFine text (entered_all text r ds) len e n u i
    → array_type (entered_all text r ds).types n u ≡ Some (Array n (record { 0 = i }))

-- what a name stands for as a constant in the first of two scopes, it stands for in the second
abbrev pub ConstantsStay : Scope → Scope → Type 0
ConstantsStay s h = (word : List ℕ) (f : Fixed) → name_operand s (declaration s word) ≡ Some (constant f)
    → name_operand h (declaration h word) ≡ Some (constant f)

-- a scope has the types of another one, and no types and constants but those that have the same names there; what else it has
-- declared may hide some of them
pub record Within (s h : Scope) : Type 0 where
  pub same_types : s.types ≡ h.types
  pub named : (word : List ℕ) (t : ValueType) → declaration s word ≡ Some (declared.«Type» t)
      → declaration h word ≡ Some (declared.«Type» t)
  pub constants : ConstantsStay s h

-- no rule finds that one is left out of the profile, there or within
abbrev pub NoneLeftOut : Type 0
NoneLeftOut = (text : List ℕ) (r : Scope) (ds : List Declaration) → IsReady text r ds → (len e : TreeEx) → StandsInAll len e ds
    → (s : Scope) → Within s (entered_all text r ds) → (bracket at : Pos)
    → array_fault s.types bracket (length_in text s len) (stated_type text s e) ≡ Some (fault OutOfProfile at) → ⊥

-- ---- what stays as array types enter

-- the lengths of arrays rest on constants alone
abbrev pub LengthsStay : Type 0
LengthsStay = (text : List ℕ) (r : Scope) (ds : List Declaration) (len : TreeEx)
    → length_in text (entered_all text r ds) len ≡ length_in text r len

-- a formed table stays formed, as long as the numbers suffice
abbrev pub StaysFormed : Type 0
StaysFormed = (text : List ℕ) (r : Scope) (ds : List Declaration) → IsFormed r.types
    → length (entered_all text r ds).types.types ≤ 2 ^ 32 → IsFormed (entered_all text r ds).types

-- and its types keep their trees
abbrev pub TreesStay : Type 0
TreesStay = (text : List ℕ) (r : Scope) (ds : List Declaration) → IsFormed r.types
    → length (entered_all text r ds).types.types ≤ 2 ^ 32 → (i : ℕ) (t : ValueType) → Holds r.types i t
    → tree_of (entered_all text r ds).types t ≡ tree_of r.types t
