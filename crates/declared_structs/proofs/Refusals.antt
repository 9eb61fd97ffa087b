-- The faults of sizes: what is said of a struct tells which of them fail.
use Rattle.std.proofs.Common.{◌≡◌, ℕ, zero, suc, Bool, true, false, List, [], ◌∷◌, ◌++◌, inl, inr, map, drop, Option, Some, None, refl, sym, ap, ap₂, ◌∙◌, subst, arith}
use Rattle.std.specs.Prelude.{nat_lt, slice_get}
use Rattle.std.proofs.lemmas.Bool.{ltb-true, ltb-false}
use Rattle.std.proofs.lemmas.Option.{same_Some, slice_get_within, slice_get-get_or}
use Rattle.syntax.specs.declared.expression.Name.{Name}
use Rattle.syntax.specs.Expressions.{Ex as TreeEx}
use Rattle.syntax.specs.Declarations.{Field, TypeSpec}
use Rattle.base.specs.declared.pos.Pos.{Pos}
use Rattle.type_faults.specs.declared.fault.Fault.{Fault}
use Rattle.type_faults.specs.Least.{IsLeast}
use Rattle.type_faults.specs.Faults.{fault, IsFault}
use Rattle.struct_sizes.specs.declared.verdicts.StructFault.{StructFault}
use Rattle.struct_sizes.specs.declared.verdicts.StructFault.TheVariants.{HoldsItself, Size}
use Rattle.struct_sizes.specs.declared.verdicts.LevelFault.{LevelFault}
use Rattle.struct_sizes.specs.declared.verdicts.Refusal.{Refusal}
use Rattle.struct_sizes.specs.declared.verdicts.Verdict.{Verdict}
use Rattle.struct_sizes.specs.declared.verdicts.Verdict.TheVariants.{Sized, Refused}
use Rattle.struct_sizes.specs.declared.verdicts.Verdicts.{Verdicts}
use Rattle.struct_sizes.specs.Structs.{Prefixed, Fields}
use Rattle.struct_sizes.specs.Words.{base_words}
use Rattle.struct_sizes.specs.Faults.{outer_fault, IsInnermost}
use Rattle.struct_sizes.specs.Verdicts.{IsRefused, IsTold, AreTold, IsVerdict, AreVerdicts, IsFieldType}
use Rattle.struct_sizes.specs.Kept.{AgreeAll}
use Rattle.struct_sizes.proofs.Typed.{innermost_agree}
use Rattle.struct_sizes.proofs.Settled.{sized_is_type}
use Rattle.components.specs.Graph.{itself}
use Rattle.names.specs.Scope.{Scope}
use Rattle.declared_structs.specs.Forms.{prefixed, field_types, struct_types}
use Rattle.declared_structs.specs.Faults.{size_kind, struct_kind, bracket_at, WholeFails, WhereNamed, LevelFails, LevelsFail, SizeFails}
use Rattle.declared_structs.specs.Passing.{whole_fault, RefusalFails, refusal_in, OptionalFails}
use Rattle.declared_structs.proofs.Numbers.{least_same}

-- ---- the innermost array that fails is one

level_same : (table : List (Option ℕ)) (t : Prefixed) (x y : LevelFault) → x.level ≡ y.level → IsInnermost table t (Some x) → IsInnermost table t (Some y) → x ≡ y
level_same table t x y same h i =
    let kinds = same_Some x.kind y.kind (sym h.0 ∙ ap (λ n. outer_fault (drop n t.prefixes) (base_words table t.base)) same ∙ i.0) in
    ap₂ (λ n k. record { level = n; kind = k }) same kinds

pub innermost_one : (table : List (Option ℕ)) (t : Prefixed) (x y : LevelFault) → IsInnermost table t (Some x) → IsInnermost table t (Some y) → x ≡ y
innermost_one table t x y h i = by (nat_lt x.level y.level) (nat_lt y.level x.level) refl refl
  where
    by : (a b : Bool) → nat_lt x.level y.level ≡ a → nat_lt y.level x.level ≡ b → x ≡ y
    by true b e f = absurd (h.1 y.level y.kind (ltb-true x.level y.level e) i.0)
    by false true e f = absurd (i.1 x.level x.kind (ltb-true y.level x.level f) h.0)
    by false false e f = level_same table t x y (let a = ltb-false x.level y.level e in let b = ltb-false y.level x.level f in omega arith) h i

-- what is found at a level is the fault of the type
pub level_least : (table : List (Option ℕ)) (e : TreeEx) (t : Prefixed) (x : LevelFault) (f : Fault) → IsInnermost table t (Some x) → f ≡ fault (size_kind x.kind) (bracket_at e x.level)
    → LevelFails table e (Some t) f × ((g : Fault) → LevelFails table e (Some t) g → g ≡ f)
level_least table e t x f h is = ((x, h, is), λ g i. i.2 ∙ ap (λ (y : LevelFault). fault (size_kind y.kind) (bracket_at e y.level)) (innermost_one table t i.0 x i.1 h) ∙ sym is)

pub level_none : (table : List (Option ℕ)) (e : TreeEx) (t : Prefixed) → IsInnermost table t None → (g : Fault) → LevelFails table e (Some t) g → ⊥
level_none table e t h g i = h i.0.level i.0.kind i.1.0

-- ---- by what is kept of words

level_by : (table other : List (Option ℕ)) → AgreeAll table other → (e : TreeEx) (o : Option Prefixed) (f : Fault) → LevelFails table e o f → LevelFails other e o f
level_by table other agree e None f h = h
level_by table other agree e (Some t) f h = (h.0, innermost_agree table other agree t (Some h.0) h.1, h.2)

named_by : {P Q : Fault → Type 0} (ns : List Name) → ((f : Fault) → P f → Q f) → (f : Fault) → WhereNamed ns P f → WhereNamed ns Q f
named_by [] to f h = h
named_by (n ∷ ns) to f h = to f h

levels_by : (text : List ℕ) (s : Scope) (table other : List (Option ℕ)) → AgreeAll table other → (xs : List Field) (f : Fault) → LevelsFail text s table xs f → LevelsFail text s other xs f
levels_by text s table other agree [] f h = h
levels_by text s table other agree (x ∷ xs) f (inl h) = inl (named_by x.names (level_by table other agree x.type_expr (prefixed text s x.type_expr)) f h)
levels_by text s table other agree (x ∷ xs) f (inr h) = inr (levels_by text s table other agree xs f h)

-- ---- a struct that is refused

module _ (ss : List Fields) (table : List (Option ℕ)) (k : ℕ) where
  told_one : (f g : StructFault) → IsTold ss table k f → IsTold ss table k g → f ≡ g
  told_one HoldsItself HoldsItself h i = refl
  told_one HoldsItself (Size g) h i = absurd (i.0.0 (inr h))
  told_one (Size f) HoldsItself h i = absurd (h.0.0 (inr i))
  told_one (Size f) (Size g) h i = ap Size (same_Some f g (sym h.0.1 ∙ i.0.1))

  whole_to : (o : Option StructFault) (at : Pos) (f : Fault) → AreTold ss table k o → IsFault (whole_fault o at) f → WholeFails ss table k at f
  whole_to None at f told h = absurd h
  whole_to (Some x) at f told h = (x, told, h)

  whole_from : (o : Option StructFault) (at : Pos) (f : Fault) → AreTold ss table k o → WholeFails ss table k at f → IsFault (whole_fault o at) f
  whole_from None at f told h = absurd (told h.0 h.1)
  whole_from (Some x) at f told h = h.2 ∙ ap (λ y. fault (struct_kind y) at) (told_one h.0 x h.1 told)

  module _ (text : List ℕ) (s : Scope) (words : List (Option ℕ)) (agree : AgreeAll words table) (t : TypeSpec) where
    pub refusal_to : (r : Refusal) → IsVerdict ss table k (Refused r) → (f : Fault) → RefusalFails text s words r t f → SizeFails text s ss table k t f
    refusal_to r v f (inl h) = inl (whole_to r.told t.name.pos f v.1 h)
    refusal_to r v f (inr h) = inr (v.2.0 h.0, levels_by text s words table agree t.fields f h.1)

    pub refusal_from : (r : Refusal) → IsVerdict ss table k (Refused r) → (f : Fault) → SizeFails text s ss table k t f → RefusalFails text s words r t f
    refusal_from r v f (inl h) = inl (whole_from r.told t.name.pos f v.1 h)
    refusal_from r v f (inr h) = inr (v.2.1 h.0, levels_by text s table words (sym agree) t.fields f h.1)

-- ---- a struct that isn't

told_refused : (ss : List Fields) (table : List (Option ℕ)) (k : ℕ) (x : StructFault) → IsTold ss table k x → IsRefused ss table k
told_refused ss table k HoldsItself h = (k, itself, inl (inr h))
told_refused ss table k (Size x) h = (k, itself, inr (x, h.0))

-- each field of some is a type
abbrev AreTypes : List Fields → List (Option ℕ) → Fields → Type 0
AreTypes ss table fs = (i : ℕ) (f : Option Prefixed) → slice_get fs i ≡ Some f → IsFieldType ss table f

later_types : (ss : List Fields) (table : List (Option ℕ)) (fs gs : Fields) → AreTypes ss table (fs ++ gs) → AreTypes ss table gs
later_types ss table [] gs all = all
later_types ss table (f ∷ fs) gs all = later_types ss table fs gs (λ i. all (suc i))

module _ (text : List ℕ) (s : Scope) (ss : List Fields) (table : List (Option ℕ)) where
  level_of_type : (e : TreeEx) (o : Option Prefixed) → IsFieldType ss table o → (f : Fault) → LevelFails table e o f → ⊥
  level_of_type e None is f h = is
  level_of_type e (Some t) is f h = level_none table e t is.1 f h

  field_of_type : (x : Field) (ns : List Name) → AreTypes ss table (map (λ (n : Name). prefixed text s x.type_expr) ns) → (f : Fault) → WhereNamed ns (LevelFails table x.type_expr (prefixed text s x.type_expr)) f → ⊥
  field_of_type x [] all f h = h
  field_of_type x (n ∷ ns) all f h = level_of_type x.type_expr (prefixed text s x.type_expr) (all 0 (prefixed text s x.type_expr) refl) f h

  front_types : (fs gs : Fields) → AreTypes ss table (fs ++ gs) → AreTypes ss table fs
  front_types [] gs all i f is = absurd cc is
  front_types (g ∷ fs) gs all zero f is = all zero f is
  front_types (g ∷ fs) gs all (suc i) f is = front_types fs gs (λ j. all (suc j)) i f is

  levels_of_types : (xs : List Field) → AreTypes ss table (struct_types text s xs) → (f : Fault) → LevelsFail text s table xs f → ⊥
  levels_of_types [] all f h = h
  levels_of_types (x ∷ xs) all f (inl h) = field_of_type x x.names (front_types (field_types text s x) (struct_types text s xs) all) f h
  levels_of_types (x ∷ xs) all f (inr h) = levels_of_types xs (later_types ss table (field_types text s x) (struct_types text s xs) all) f h

  -- in a struct that has its words no rule of sizes fails
  pub sized_none : (found : Verdicts) (k words : ℕ) (t : TypeSpec) → AreVerdicts ss table found → slice_get found.verdicts.items k ≡ Some (Sized words) → slice_get ss k ≡ Some (struct_types text s t.fields)
      → (f : Fault) → SizeFails text s ss table k t f → ⊥
  sized_none found k words t verdicts is has f (inl h) = (verdicts.verdicts k (Sized words) is).0 (told_refused ss table k h.0 h.1)
  sized_none found k words t verdicts is has f (inr h) =
      let struct = sized_is_type ss table found k words verdicts is in
      let same : struct.fields ≡ struct_types text s t.fields = same_Some struct.fields (struct_types text s t.fields) (sym struct.is ∙ has) in
      levels_of_types t.fields (subst (AreTypes ss table) same struct.types) f h.1

  -- so what is said of a struct tells which rule of its size fails
  pub size_least : (found : Verdicts) (k : ℕ) (t : TypeSpec) (o : Option Fault) → AreVerdicts ss table found → slice_get ss k ≡ Some (struct_types text s t.fields)
      → IsLeast (OptionalFails text s found.words.items (refusal_in (slice_get found.verdicts.items k)) t) o → IsLeast (SizeFails text s ss table k t) o
  size_least found k t o verdicts has least = by (slice_get found.verdicts.items k) refl least
    where
      by : (v : Option Verdict) → slice_get found.verdicts.items k ≡ v → IsLeast (OptionalFails text s found.words.items (refusal_in v) t) o → IsLeast (SizeFails text s ss table k t) o
      by None is e =
          let l = slice_get_within ss k (struct_types text s t.fields) has in
          let size = verdicts.size in
          absurd cc (sym is ∙ slice_get-get_or found.verdicts.items k (Sized 0) (omega arith))
      by (Some (Sized w)) is e = least_same (λ f. ⊥) (SizeFails text s ss table k t) o (λ f h. absurd h) (sized_none found k w t verdicts is has) e
      by (Some (Refused r)) is e =
          let v = verdicts.verdicts k (Refused r) is in
          least_same (RefusalFails text s found.words.items r t) (SizeFails text s ss table k t) o (refusal_to ss table k text s found.words.items verdicts.kept t r v) (refusal_from ss table k text s found.words.items verdicts.kept t r v) e
