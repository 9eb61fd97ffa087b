-- Where no struct is told as one that is no type, each is a type; and the other way round.
use Rattle.std.proofs.Common.{◌≡◌, ℕ, suc, Bool, true, false, List, [], ◌∷◌, Some, None, inl, inr, if◌then◌else◌, refl}
use Rattle.base.specs.declared.value_type.ValueType.TheVariants.{Struct}
use Rattle.syntax.specs.Declarations.{TypeSpec}
use Rattle.type_faults.specs.declared.fault.Fault.{Fault}
use Rattle.type_faults.specs.declared.fault.FaultKind.TheVariants.{SelfReference}
use Rattle.type_faults.specs.Faults.{fault, IsFault}
use Rattle.typed.specs.Tables.{Table}
use Rattle.names.specs.Types.{is_known}
use Rattle.declared_structs.specs.Faults.{StructsOpen, AreTypes}

-- a rule that fails where something doesn't hold
holds : (b : Bool) (own : Fault) → ((f : Fault) → IsFault (if b then None else Some own) f → ⊥) → b ≡ true
holds true own none = refl
holds false own none = absurd (none own refl)

none_where : (b : Bool) (own : Fault) → b ≡ true → (f : Fault) → IsFault (if b then None else Some own) f → ⊥
none_where true own is f h = h
none_where false own is f h = absurd cc is

pub all_types : (T : Table) (k : ℕ) (ts : List TypeSpec) → ((f : Fault) → StructsOpen T k ts f → ⊥) → AreTypes T k ts
all_types T k [] none = tt
all_types T k (t ∷ ts) none = (
  holds (is_known T (Struct (record { 0 = k }))) (fault SelfReference t.name.pos) (λ f h. none f (inl h)),
  all_types T (suc k) ts (λ f h. none f (inr h)),
)

pub none_open : (T : Table) (k : ℕ) (ts : List TypeSpec) → AreTypes T k ts → (f : Fault) → StructsOpen T k ts f → ⊥
none_open T k [] all f h = h
none_open T k (t ∷ ts) all f (inl h) =
    none_where (is_known T (Struct (record { 0 = k }))) (fault SelfReference t.name.pos) all.0 f h
none_open T k (t ∷ ts) all f (inr h) = none_open T (suc k) ts all.1 f h
