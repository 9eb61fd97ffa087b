-- What a `range` goes over, and what gets its values (Go specification, "For statements with range clause").
use Rattle.std.specs.Prelude.{ℕ, length, Bool, true, not, ◌&&◌, List, [], ◌∷◌, map, Option, Some, None, option_and_then, nat_le, if◌then◌else◌}
use Rattle.std.specs.Option.{option_map}
use Rattle.base.specs.declared.pos.Pos.{Pos}
use Rattle.base.specs.declared.value_type.ValueType.{ValueType}
use Rattle.base.specs.declared.value_type.ValueType.TheVariants.{Int, Bool as Truth, Struct, Array, Pointer, Slice}
use Rattle.syntax.specs.declared.expression.Name.{Name}
use Rattle.syntax.specs.Expressions.{Ex as TreeEx, spelled}
use Rattle.syntax.specs.Statements.{Targets, no_targets, targets_assigned, targets_defined}
use Rattle.typed_syntax.specs.Syntax.{Ex, Left, Over, blank, over_int, over_length, over_copy}
use Rattle.typed.specs.Tables.{Table}
use Rattle.type_faults.specs.Given.{allowed}
use Rattle.operators.specs.Operands.{Operand, type_of, as_value}
use Rattle.names.specs.Universe.{is_blank}
use Rattle.names.specs.Scope.{Scope, of_copy, with_site, opened}
use Rattle.operand_parts.specs.Parts.{ArrayType, array_parts}
use Rattle.operand_calls.specs.Calls.{has_call}
use Rattle.given_values.specs.declared.wants.Wanted.{Wanted}
use Rattle.given_values.specs.Given.{accepts, operand_in}
use Rattle.expression_types.specs.Typing.{gives}
use Rattle.signatures.specs.declared.slots.Slot.{Slot}
use Rattle.signatures.specs.declared.entries.Role.TheVariants.{Parameter}
use Rattle.signatures.specs.Entries.{entry_left, slots_each, entries, behind_entries}
use Rattle.simple_statements.specs.SimpleStatements.{lefts, all_wanted}

-- ---- what it goes over

-- the numbers below an int, or the elements of an array of a type
pub data Ranged : Type 0 where
  numbers : Ranged
  array : ValueType → ArrayType → Ranged

abbrev pub ranged_type : Table → ValueType → Option Ranged
ranged_type T Int = Some numbers
ranged_type T Truth = None
ranged_type T (Struct k) = None
ranged_type T (Pointer e) = None
ranged_type T (Slice e) = None
ranged_type T (Array n e) = option_map (array (Array n e)) (array_parts T (Array n e))

abbrev pub ranged_of : Table → Operand → Option Ranged
ranged_of T x = option_and_then (ranged_type T) (type_of x)

abbrev pub ranged_in : Table → Option Operand → Option Ranged
ranged_in T o = option_and_then (ranged_of T) o

-- the types of what the left sides get: of a number, or of an index and an element. A second left side of numbers is blank
abbrev pub given_by : Ranged → List ValueType
given_by numbers = Int ∷ Int ∷ []
given_by (array t a) = Int ∷ a.element ∷ []

abbrev pub given_types : Option Ranged → Option (List ValueType)
given_types r = option_map given_by r

-- how many left sides there may be
abbrev pub most : Ranged → ℕ
most numbers = 1
most (array t a) = 2

-- ---- what gets its values

-- whether left sides that ask for this may get values of these types, where they are known
abbrev pub each_accept : List ValueType → List Wanted → Bool
each_accept [] ps = true
each_accept (t ∷ ts) [] = true
each_accept (t ∷ ts) (p ∷ ps) = accepts p t && each_accept ts ps

abbrev pub all_accept : Option (List ValueType) → List Wanted → Bool
all_accept None ps = true
all_accept (Some ts) ps = each_accept ts ps

-- the new variables
abbrev pub target_slots : Option (List ValueType) → Targets → List Slot
target_slots ts no_targets = []
target_slots ts (targets_assigned ls pos) = []
target_slots ts (targets_defined ns pos) = slots_each ts ns

-- how many left sides there are; a blank one after another is as if absent
abbrev pub key_count : List Left → ℕ
key_count (l ∷ blank ∷ []) = 1
key_count ls = length ls

-- two left sides, where one that is absent is blank
pub record Sides : Type 0 where
  pub key : Left
  pub value : Left

abbrev pub sides_of : List Left → Option Sides
sides_of [] = Some (record { key = blank; value = blank })
sides_of (l ∷ []) = Some (record { key = l; value = blank })
sides_of (l ∷ k ∷ []) = Some (record { key = l; value = k })
sides_of (l ∷ k ∷ j ∷ ls) = None

-- ---- both together

-- what it goes over, and what gets the index and the element
pub record Range : Type 0 where
  pub over : Over
  pub key : Left
  pub value : Left

abbrev pub over_numbers : Ex → (value : Left) → Option Over
over_numbers x blank = Some (over_int x)
over_numbers x value = None

-- with a second left side an array is evaluated, and a hidden variable of a site gets a copy; else it isn't evaluated, and has
-- no call
abbrev pub over_array : (site length : ℕ) → Ex → (value : Left) → Option Over
over_array site n x blank = if has_call x then None else Some (over_length n)
over_array site n x value = Some (over_copy site x n)

abbrev pub over_with : (site : ℕ) → Ranged → Ex → (value : Left) → Option Over
over_with site numbers x value = over_numbers x value
over_with site (array t a) x value = over_array site a.length x value

abbrev pub ranging : Sides → Over → Range
ranging q o = record { over = o; key = q.key; value = q.value }

abbrev pub range_with : (site : ℕ) → Ranged → Ex → Sides → Option Range
range_with site r x q = option_map (ranging q) (over_with site r x q.value)

abbrev pub range_of : (site : ℕ) → Option Ranged → Option Ex → Option (List Left) → Option Range
range_of site r e ls = option_and_then (λ k. option_and_then (λ x. option_and_then (range_with site k x) (option_and_then sides_of ls)) e) r

-- the type of the hidden variable, by how many left sides there are
abbrev pub copied_by : Ranged → ℕ → Option ValueType
copied_by numbers n = None
copied_by (array t a) n = if nat_le n 1 then None else Some t

abbrev pub copied : Option Ranged → Option ℕ → Option ValueType
copied (Some r) (Some n) = copied_by r n
copied (Some r) None = None
copied None n = None

-- its site stands at the word `range`, and outside of the loop
abbrev pub behind_copy : Scope → Option ValueType → Pos → Scope
behind_copy s None pos = s
behind_copy s (Some t) pos = with_site s (of_copy s.setting) [] t pos

module _ (text : List ℕ) where
  -- outside of the block of the header
  abbrev pub over : Scope → TreeEx → Option Ex
  over s e = option_and_then as_value (operand_in (gives text s e))

  abbrev pub ranged : Scope → TreeEx → Option Ranged
  ranged s e = ranged_in s.types (operand_in (gives text s e))

  abbrev pub given : Scope → TreeEx → Option (List ValueType)
  given s e = given_types (ranged s e)

  abbrev pub all_blank : List Name → Bool
  all_blank [] = true
  all_blank (n ∷ ns) = is_blank (spelled text n) && all_blank ns

  -- inside of it
  abbrev pub target_lefts : Scope → Option (List ValueType) → Targets → Option (List Left)
  target_lefts s ts no_targets = Some []
  target_lefts s ts (targets_assigned ls pos) = allowed (all_accept ts (all_wanted text s ls)) (lefts text s ls)
  target_lefts s ts (targets_defined ns pos) = allowed (not (all_blank ns)) (option_map (map entry_left) (entries text Parameter s (slots_each ts ns)))

  abbrev pub name_count : List Name → ℕ
  name_count (n ∷ m ∷ []) = if is_blank (spelled text m) then 1 else 2
  name_count ns = length ns

  -- how many left sides there are, where each has a type
  abbrev pub target_count : Scope → Targets → Option ℕ
  target_count s no_targets = Some 0
  target_count s (targets_assigned ls pos) = option_map key_count (lefts text s ls)
  target_count s (targets_defined ns pos) = Some (name_count ns)

  -- after the new variables, and after the hidden one behind them
  abbrev pub behind_targets : Scope → Targets → TreeEx → Scope
  behind_targets s t e = behind_entries text (opened s) (target_slots (given s e) t)

  abbrev pub behind_range : Scope → Targets → Pos → TreeEx → Scope
  behind_range s t pos e = behind_copy (behind_targets s t e) (copied (ranged s e) (target_count (opened s) t)) pos

  abbrev pub range_in : Scope → Targets → TreeEx → Option Range
  range_in s t e = range_of (length (behind_targets s t e).sites) (ranged s e) (over s e) (target_lefts (opened s) (given s e) t)
