-- The table of a program's types holds no slices.
use Rattle.std.proofs.Common.{◌≡◌, ℕ, zero, suc, List, [], ◌∷◌, length, slice_get, Option, Some, None, inl, inr, is_some, if◌then◌else◌, sym, subst}
use Rattle.std.specs.List.{fold}
use Rattle.base.specs.declared.ids.TypeId.{TypeId}
use Rattle.base.specs.declared.value_type.ValueType.{ValueType}
use Rattle.base.specs.declared.value_type.ValueType.TheVariants.{Int as IntType, Bool as BoolType, Struct, Array, Slice}
use Rattle.syntax.specs.Declarations.{Syntax}
use Rattle.typed.specs.Tables.{Table, number_of, with_type}
use Rattle.typed.proofs.Lists.{get_grown}
use Rattle.typed.proofs.Entered.{entered}
use Rattle.names.specs.Scope.{Scope}
use Rattle.struct_sizes.specs.declared.forms.Prefix.{Prefix}
use Rattle.struct_sizes.specs.declared.forms.Prefix.TheVariants as prefix
use Rattle.struct_sizes.specs.declared.forms.Base.{Base}
use Rattle.struct_sizes.specs.declared.forms.Base.TheVariants as base
use Rattle.struct_sizes.specs.Structs.{Prefixed, Fields}
use Rattle.type_tables.specs.Told.{base_type, with_prefixed, with_field, with_struct, number_in, sized_structs, program_table}
use Rattle.declared_structs.specs.Tables.{with_structs}
use Rattle.entered_types.proofs.Keeping.{slices_before}
use Rattle.given_values.proofs.NoSlices.{HoldsNoSlice}
use Rattle.types_go.specs.Functions.{declarations_in, constants_scope, structs_of, IsHeads}

-- a table holds none as types enter that are none
type_enters : (T : Table) (t : ValueType) → ((e : TypeId) → t ≡ Slice e → ⊥) → HoldsNoSlice T → HoldsNoSlice (with_type T t)
type_enters T t other none = by (number_of T t)
  where
    by : (o : Option ℕ) → HoldsNoSlice (if is_some o then T else entered T t)
    by None i e h = elim (get_grown T.types t i (Slice e) h) [
      | inl there ↦ none i e there
      | inr last ↦ other e last.1
    ]
    by (Some n) i e h = none i e h

base_enters : (T : Table) (b : Base) → HoldsNoSlice T → HoldsNoSlice (with_type T (base_type b))
base_enters T base.Int none = type_enters T (base_type base.Int) (λ e is. cc is) none
base_enters T base.Bool none = type_enters T (base_type base.Bool) (λ e is. cc is) none
base_enters T (base.Struct s) none = type_enters T (base_type (base.Struct s)) (λ e is. cc is) none

prefixed_enters : (T : Table) (ps : List Prefix) (b : Base) → HoldsNoSlice T → HoldsNoSlice (with_prefixed T ps b)
prefixed_enters T [] b none = base_enters T b none
prefixed_enters T (prefix.Array n ∷ ps) b none =
    let U = with_prefixed T ps b in
    type_enters U (Array n (record { 0 = number_in U ps b })) (λ e is. cc is) (prefixed_enters T ps b none)
prefixed_enters T (prefix.Pointer ∷ ps) b none = prefixed_enters T ps b none
prefixed_enters T (prefix.Slice ∷ ps) b none = prefixed_enters T ps b none

field_enters : (T : Table) (o : Option Prefixed) → HoldsNoSlice T → HoldsNoSlice (with_field T o)
field_enters T None none = none
field_enters T (Some t) none = prefixed_enters T t.prefixes t.base none

all_enter : {A : Type 0} (f : Table → A → Table) → ((T : Table) (x : A) → HoldsNoSlice T → HoldsNoSlice (f T x)) → (T : Table) (xs : List A)
    → HoldsNoSlice T → HoldsNoSlice (fold f T xs)
all_enter f each T [] none = none
all_enter f each T (x ∷ xs) none = all_enter f each (f T x) xs (each T x none)

struct_enters : (T : Table) (o : Option Fields) → HoldsNoSlice T → HoldsNoSlice (with_struct T o)
struct_enters T None none = none
struct_enters T (Some fs) none = all_enter with_field field_enters T fs none

program_none : (structs : List (Option Fields)) → HoldsNoSlice (program_table structs)
program_none structs = all_enter with_struct struct_enters _ structs basic_none
  where
    basic_none : (i : ℕ) (e : TypeId) → slice_get (IntType ∷ BoolType ∷ []) i ≡ Some (Slice e) → ⊥
    basic_none zero e h = cc h
    basic_none (suc zero) e h = cc h
    basic_none (suc (suc i)) e h = cc h

structs_none : (structs : List (Option Fields)) (n : ℕ) → HoldsNoSlice (with_structs (program_table structs) n)
structs_none structs zero = program_none structs
structs_none structs (suc n) =
    type_enters (with_structs (program_table structs) n) (Struct (record { 0 = n })) (λ e is. cc is) (structs_none structs n)

pub heads_none : (t : Syntax) (h : Scope) → IsHeads t h → HoldsNoSlice h.types
heads_none t h heads =
    let found = heads.is_table.0 in
    let none : HoldsNoSlice heads.table = subst HoldsNoSlice (sym heads.is_table.2) (structs_none (sized_structs (structs_of t) found.verdicts.items) (length (structs_of t))) in
    subst (λ (s : Scope). HoldsNoSlice s.types) (sym heads.is)
    (λ i e at. none i e (slices_before t.text (record (constants_scope t) { types = heads.table }) (declarations_in t) i e at))
