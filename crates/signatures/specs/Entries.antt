-- Names with types in a block: parameters, results, and the variables of a `var` or of a `range`. Each has a variable with a site of its
-- own, but for a blank one.
use Rattle.std.specs.Prelude.{ℕ, length, Bool, not, ◌&&◌, List, [], ◌∷◌, Option, Some, None, option_and_then, if◌then◌else◌}
use Rattle.std.specs.Option.{option_map}
use Rattle.syntax.specs.declared.expression.Name.{Name}
use Rattle.syntax.specs.Expressions.{spelled}
use Rattle.typed_syntax.specs.Syntax.{Left, blank, new}
use Rattle.base.specs.declared.value_type.ValueType.{ValueType}
use Rattle.names.specs.Universe.{is_blank}
use Rattle.names.specs.Scope.{Scope, is_here, with_variable}
use Rattle.signatures.specs.declared.slots.Slot.{Slot}
use Rattle.signatures.specs.declared.entries.Role.{Role}
use Rattle.signatures.specs.declared.entries.Role.TheVariants.{Parameter as parameter, Result as result}

-- the site of a parameter or result with a name that the block doesn't have yet, and none for a blank parameter
abbrev pub blank_entry : Role → Option (Option ℕ)
blank_entry parameter = Some None
blank_entry result = None

abbrev pub variable_entry : Bool → ℕ → Option (Option ℕ)
variable_entry is_here site = if is_here then None else Some (Some site)

abbrev pub entry_of : Role → (is_blank is_here : Bool) → ℕ → Option (Option ℕ)
entry_of role is_blank is_here site = if is_blank then blank_entry role else variable_entry is_here site

-- the sites that there are
abbrev pub sites_of : List (Option ℕ) → List ℕ
sites_of [] = []
sites_of (None ∷ es) = sites_of es
sites_of (Some site ∷ es) = site ∷ sites_of es

-- new variables as left sides
abbrev pub entry_left : Option ℕ → Left
entry_left None = blank
entry_left (Some site) = new site

-- names that share a type
abbrev pub slot_with : Option ValueType → Name → Slot
slot_with t n = record { name = Some n; value_type = t }

-- names with a type each, where the types are known
abbrev pub first_type : Option (List ValueType) → Option ValueType
first_type None = None
first_type (Some []) = None
first_type (Some (t ∷ ts)) = Some t

abbrev pub later_types : Option (List ValueType) → Option (List ValueType)
later_types None = None
later_types (Some []) = Some []
later_types (Some (t ∷ ts)) = Some ts

abbrev pub slots_each : Option (List ValueType) → List Name → List Slot
slots_each ts [] = []
slots_each ts (n ∷ ns) = slot_with (first_type ts) n ∷ slots_each (later_types ts) ns

module _ (text : List ℕ) where
  abbrev pub named_entry : Role → Scope → Name → Option (Option ℕ)
  named_entry role s n = entry_of role (is_blank (spelled text n)) (is_here s (spelled text n)) (length s.sites)

  abbrev pub entry_in : Role → Scope → Option Name → Option (Option ℕ)
  entry_in role s None = Some None
  entry_in role s (Some n) = named_entry role s n

  abbrev pub behind_entry_name : Option ValueType → Scope → Option Name → Scope
  behind_entry_name t s None = s
  behind_entry_name t s (Some n) = if not (is_blank (spelled text n)) && not (is_here s (spelled text n)) then with_variable t s (spelled text n) n.pos else s

  abbrev pub behind_entry : Scope → Slot → Scope
  behind_entry s p = behind_entry_name p.value_type s p.name

  abbrev pub entries : Role → Scope → List Slot → Option (List (Option ℕ))
  entries role s [] = Some []
  entries role s (p ∷ ps) = option_and_then (λ e. option_map (λ es. e ∷ es) (entries role (behind_entry s p) ps)) (entry_in role s p.name)

  abbrev pub behind_entries : Scope → List Slot → Scope
  behind_entries s [] = s
  behind_entries s (p ∷ ps) = behind_entries (behind_entry s p) ps
