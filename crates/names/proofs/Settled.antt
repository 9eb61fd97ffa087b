-- Where every variable has a type, every constant a value and every function a signature, a name stands for something typed, and an expression
-- is a type, or a rule of types fails in it, and never both.
use Rattle.std.proofs.Common.{◌≡◌, ℕ, zero, suc, Bool, true, false, cond, List, [], ◌∷◌, Option, Some, None, refl, subst}
use Rattle.std.specs.Prelude.{⊤, option_and_then, slice_get, codes}
use Rattle.std.specs.List.{AllByRecursion}
use Rattle.std.specs.Str.{bytes_eq}
use Rattle.base.specs.declared.pos.Pos.{Pos}
use Rattle.syntax.specs.FirstBytes.{first_pos}
use Rattle.syntax.specs.Expressions.{Ex as TreeEx, name, paren, spelled}
use Rattle.type_faults.specs.declared.fault.FaultKind.TheVariants.{OutOfProfile}
use Rattle.base.specs.declared.value_type.ValueType.{ValueType}
use Rattle.base.specs.declared.value_type.ValueType.TheVariants.{Int, Bool as Boolean}
use Rattle.typed.specs.Tables.{Table}
use Rattle.typed.specs.Formed.{IsFormed}
use Rattle.type_faults.specs.Given.{allowed}
use Rattle.constants.specs.Constants.{is_held}
use Rattle.type_faults.specs.Faults.{fault, IsFault}
use Rattle.type_faults.proofs.Decided.{Decided}
use Rattle.type_faults.proofs.Options.{none_some, same_some}
use Rattle.names.specs.Blocks.{lookup}
use Rattle.names.specs.declared.scope.Declared.{Declared}
use Rattle.names.specs.declared.scope.Declared.TheVariants as declared
use Rattle.names.specs.declared.scope.Measure.{Measure}
use Rattle.names.specs.declared.scope.Measure.TheVariants.{Length, Capacity}
use Rattle.names.specs.declared.scope.Known.{Known}
use Rattle.names.specs.declared.scope.Known.TheVariants as known_as
use Rattle.names.specs.Universe.{is_type_name, is_value_name, left_out, predeclared_function, predeclared}
use Rattle.names.specs.Scope.{Scope, Signature, numbered, declaration}
use Rattle.names.specs.Types.{is_known, declared_type, type_in}
use Rattle.names.proofs.Trees.{int_known, bool_known}
use Rattle.names.specs.Faults.{type_name_fault, FailsAsType}

abbrev pub HasSignature : Option Signature → Type 0
HasSignature None = ⊥
HasSignature (Some sig) = ⊤

-- the value of a constant is held by its type
abbrev pub IsSound : Known → Type 0
IsSound (known_as.Constant f) = is_held f.value_type f.value ≡ true
IsSound (known_as.Variable t) = ⊤

-- what is known of the constants and variables is sound
abbrev pub AreSound : List (Option Known) → Type 0
AreSound ks = (k : ℕ) (x : Known) → option_and_then (λ o. o) (slice_get ks k) ≡ Some x → IsSound x

-- something is known, and it is sound
abbrev pub IsKnown : Option Known → Type 0
IsKnown None = ⊥
IsKnown (Some x) = IsSound x

-- a variable with a type, a constant or package variable of which something is known, a function with a signature, or what needs none; a type is known
abbrev pub IsTyped : Table → List (Option Signature) → List (Option Known) → Declared → Type 0
IsTyped T sigs values (declared.Variable site t) = ⊤
IsTyped T sigs values declared.Untyped = ⊥
IsTyped T sigs values (declared.Constant k) = IsKnown (option_and_then (λ o. o) (slice_get values k.0))
IsTyped T sigs values (declared.Global k g) = IsKnown (option_and_then (λ o. o) (slice_get values k.0))
IsTyped T sigs values (declared.Function f) = HasSignature (option_and_then (λ o. o) (slice_get sigs f.0))
IsTyped T sigs values (declared.External e at) = ⊤
IsTyped T sigs values (declared.«Type» t) = is_known T t ≡ true
IsTyped T sigs values (declared.Truth b) = ⊤
IsTyped T sigs values declared.Nil = ⊤
IsTyped T sigs values (declared.Print line) = ⊤
IsTyped T sigs values declared.Panic = ⊤
IsTyped T sigs values (declared.Measure m) = ⊤
IsTyped T sigs values declared.LeftOutType = ⊤
IsTyped T sigs values declared.LeftOutValue = ⊤

pub record IsSettled (s : Scope) : Type 0 where
  pub all : AllByRecursion (IsTyped s.types s.signatures s.values) s.declared
  pub formed : IsFormed s.types

element : (P : Declared → Type 0) (ds : List Declared) (k : ℕ) (d : Declared) → AllByRecursion P ds → slice_get ds k ≡ Some d → P d
element P [] k d all is = cc is
element P (e ∷ es) zero d all is = let same1 : e ≡ d = cc is in subst P same1 all.0
element P (e ∷ es) (suc k) d all is = element P es k d all.1 is

-- ---- the universe

-- one that is there by a test, or another one
by_test : (P : Declared → Type 0) (b : Bool) (e : Declared) (o : Option Declared) → P e → ((d : Declared) → o ≡ Some d → P d) → (d : Declared) → cond b (Some e) o ≡ Some d → P d
by_test P true e o here further1 d is = subst P (same_some is) here
by_test P false e o here further1 d is = further1 d is

module _ (P : Declared → Type 0) (int_is : P (declared.«Type» Int)) (bool_is : P (declared.«Type» Boolean)) (truth_is : (b : Bool) → P (declared.Truth b)) (nil_is : P declared.Nil) (print_is : (line : Bool) → P (declared.Print line)) (panic_is : P declared.Panic) (measure_is : (m : Measure) → P (declared.Measure m)) (left_type_is : P declared.LeftOutType) (left_value_is : P declared.LeftOutValue) where
  left_out_is : (n : List ℕ) (d : Declared) → left_out n ≡ Some d → P d
  left_out_is n = by_test P (is_type_name n) declared.LeftOutType _ left_type_is (by_test P (is_value_name n) declared.LeftOutValue None left_value_is (λ d is. absurd (none_some is)))

  function_is : (n : List ℕ) (d : Declared) → predeclared_function n ≡ Some d → P d
  function_is n =
      by_test P (bytes_eq n (codes "println")) (declared.Print true) _ (print_is true)
      (by_test P (bytes_eq n (codes "print")) (declared.Print false) _ (print_is false)
      (by_test P (bytes_eq n (codes "panic")) declared.Panic _ panic_is
      (by_test P (bytes_eq n (codes "len")) (declared.Measure Length) _ (measure_is Length)
      (by_test P (bytes_eq n (codes "cap")) (declared.Measure Capacity) _ (measure_is Capacity) (left_out_is n)))))

  -- what the language declares is a type, a truth value, `nil`, `print`, `println`, `panic`, `len`, `cap`, or left out
  pub predeclared_is : (n : List ℕ) (d : Declared) → predeclared n ≡ Some d → P d
  unfolding predeclared
  predeclared_is n =
      by_test P (bytes_eq n (codes "int")) (declared.«Type» Int) _ int_is
      (by_test P (bytes_eq n (codes "bool")) (declared.«Type» Boolean) _ bool_is
      (by_test P (bytes_eq n (codes "true")) (declared.Truth true) _ (truth_is true)
      (by_test P (bytes_eq n (codes "false")) (declared.Truth false) _ (truth_is false) (by_test P (bytes_eq n (codes "nil")) declared.Nil _ nil_is (function_is n)))))

predeclared_typed : (T : Table) → IsFormed T → (sigs : List (Option Signature)) (values : List (Option Known)) (n : List ℕ) (d : Declared) → predeclared n ≡ Some d → IsTyped T sigs values d
predeclared_typed T formed sigs values n d is = predeclared_is (IsTyped T sigs values) (int_known T formed) (bool_known T formed) (λ b. tt) tt (λ line. tt) tt (λ m. tt) tt tt n d is

numbered_typed : (s : Scope) → IsSettled s → (n : List ℕ) (o : Option ℕ) (d : Declared) → numbered s n o ≡ Some d → IsTyped s.types s.signatures s.values d
numbered_typed s settled n None d is = predeclared_typed s.types settled.formed s.signatures s.values n d is
numbered_typed s settled n (Some k) d is = element (IsTyped s.types s.signatures s.values) s.declared k d settled.all is

pub declared_typed : (s : Scope) → IsSettled s → (n : List ℕ) (d : Declared) → declaration s n ≡ Some d → IsTyped s.types s.signatures s.values d
declared_typed s settled n d is = numbered_typed s settled n (lookup s.blocks n) d is

known_decided : (t : ValueType) (b : Bool) → b ≡ true → Decided (allowed b (Some t)) (IsFault None)
known_decided t true is = λ f h. h
known_decided t false is = cc is

pub type_name_decided : (s : Scope) (d : Option Declared) (at : Pos) → ((x : Declared) → d ≡ Some x → IsTyped s.types s.signatures s.values x) → Decided (declared_type s.types d) (IsFault (type_name_fault d at))
type_name_decided s None at typed = (_, refl)
type_name_decided s (Some (declared.Variable site t)) at typed = (_, refl)
type_name_decided s (Some declared.Untyped) at typed = (_, refl)
type_name_decided s (Some (declared.Constant k)) at typed = (_, refl)
type_name_decided s (Some (declared.Global k g)) at typed = (_, refl)
type_name_decided s (Some (declared.Function g)) at typed = (_, refl)
type_name_decided s (Some (declared.External e place)) at typed = (_, refl)
type_name_decided s (Some (declared.«Type» t)) at typed = known_decided t (is_known s.types t) (typed (declared.«Type» t) refl)
type_name_decided s (Some (declared.Truth b)) at typed = (_, refl)
type_name_decided s (Some declared.Nil) at typed = (_, refl)
type_name_decided s (Some (declared.Print line)) at typed = (_, refl)
type_name_decided s (Some declared.Panic) at typed = (_, refl)
type_name_decided s (Some (declared.Measure m)) at typed = (_, refl)
type_name_decided s (Some declared.LeftOutType) at typed = (_, refl)
type_name_decided s (Some declared.LeftOutValue) at typed = (_, refl)

module _ (text : List ℕ) (s : Scope) (settled : IsSettled s) where
  -- an expression is a type, or a rule of types fails in it
  pub type_decided : (e : TreeEx) → Decided (type_in text s e) (FailsAsType text s e)
  type_decided (name n) = type_name_decided s (declaration s (spelled text n)) n.pos (λ x is. declared_typed s settled (spelled text n) x is)
  type_decided (paren at e) = type_decided e
  type_decided e = (fault OutOfProfile (first_pos e), refl)
