-- Types one by one, and names that get one each.
use Rattle.std.proofs.Common.{◌≡◌, ℕ, zero, suc, drop, List, [], ◌∷◌, Option, Some, None, refl}
use Rattle.std.specs.Prelude.{slice_get, option_and_then}
use Rattle.std.specs.Option.{option_map}
use Rattle.base.specs.declared.value_type.ValueType.{ValueType}
use Rattle.signatures.specs.declared.slots.Slot.{Slot}
use Rattle.signatures.specs.Entries.{first_type, later_types}

abbrev pub no_slot : Slot
no_slot = record { name = None; value_type = None }

-- types one by one, from one on
abbrev pub types_from : ℕ → Option (List ValueType) → Option (List ValueType)
types_from n ts = option_map (drop n) ts

first_from : (l : List ValueType) (n : ℕ) → first_type (Some (drop n l)) ≡ slice_get l n
first_from [] zero = refl
first_from [] (suc n) = refl
first_from (t ∷ l) zero = refl
first_from (t ∷ l) (suc n) = first_from l n

later_from : (l : List ValueType) (n : ℕ) → later_types (Some (drop n l)) ≡ Some (drop (suc n) l)
later_from [] zero = refl
later_from [] (suc n) = refl
later_from (t ∷ l) zero = refl
later_from (t ∷ l) (suc n) = later_from l n

pub first_is : (ts : Option (List ValueType)) (n : ℕ) → first_type (types_from n ts) ≡ option_and_then (λ l. slice_get l n) ts
first_is None n = refl
first_is (Some l) n = first_from l n

pub later_is : (ts : Option (List ValueType)) (n : ℕ) → later_types (types_from n ts) ≡ types_from (suc n) ts
later_is None n = refl
later_is (Some l) n = later_from l n

pub from_start : (ts : Option (List ValueType)) → types_from 0 ts ≡ ts
from_start None = refl
from_start (Some l) = refl
