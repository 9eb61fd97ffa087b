-- Where no function is told as one without a signature, each has one, and the other way round; and those of a list one by one.
use Rattle.std.proofs.Common.{◌≡◌, ℕ, Bool, true, false, not, List, [], ◌∷◌, ◌⊎◌, inl, inr}
use Rattle.std.proofs.Common.{Option, is_some, if◌then◌else◌, refl, sym}
use Rattle.std.specs.List.{AllByRecursion}
use Rattle.syntax.specs.Declarations.{Function as TreeFunction, Declaration, constants, variables, types}
use Rattle.syntax.specs.Declarations as tree
use Rattle.type_faults.specs.declared.fault.Fault.{Fault}
use Rattle.type_faults.specs.declared.fault.FaultKind.TheVariants.{SelfReference}
use Rattle.type_faults.specs.Faults.{fault, IsFault}
use Rattle.type_faults.specs.Least.{IsLeast}
use Rattle.type_faults.proofs.Leasts.{Kept}
use Rattle.names.specs.Scope.{Scope}
use Rattle.signatures.specs.Failing.{fault_where}
use Rattle.function_heads.specs.HeadTypes.{signature_in}
use Rattle.function_heads.specs.PackageBlock.{is_external}
use Rattle.function_heads.specs.Heads.{functions_in}
use Rattle.function_heads.specs.HeadFaults.{HeadsOpen}
use Rattle.function_heads.proofs.Fields.{least_same, kept_same}

-- a rule that fails where something doesn't hold
holds : (b : Bool) (own : Fault) → ((f : Fault) → IsFault (fault_where (not b) own) f → ⊥) → b ≡ true
holds true own none = refl
holds false own none = absurd (none own refl)

none_where : (b : Bool) (own : Fault) → b ≡ true → (f : Fault) → IsFault (fault_where (not b) own) f → ⊥
none_where true own is f o = o
none_where false own is f o = absurd cc is

module _ (text : List ℕ) (h : Scope) where
  pub all_signed : (gs : List TreeFunction) → ((f : Fault) → HeadsOpen text h gs f → ⊥)
      → AllByRecursion (λ g. is_some (signature_in text h g) ≡ true) gs
  all_signed [] none = tt
  all_signed (g ∷ gs) none = (
    holds (is_some (signature_in text h g)) (fault SelfReference g.name.pos) (λ f o. none f (inl o)),
    all_signed gs (λ f o. none f (inr o)),
  )

  pub none_open : (gs : List TreeFunction) → AllByRecursion (λ g. is_some (signature_in text h g) ≡ true) gs
      → (f : Fault) → HeadsOpen text h gs f → ⊥
  none_open [] all f o = o
  none_open (g ∷ gs) all f (inl o) =
      none_where (is_some (signature_in text h g)) (fault SelfReference g.name.pos) all.0 f o
  none_open (g ∷ gs) all f (inr o) = none_open gs all.1 f o

  -- ---- one by one

  abbrev OwnFails : TreeFunction → Fault → Type 0
  OwnFails g = IsFault (fault_where (not (is_some (signature_in text h g))) (fault SelfReference g.name.pos))

  -- those of declarations
  abbrev AnyOpen : List Declaration → Fault → Type 0
  AnyOpen ds = HeadsOpen text h (functions_in text h ds)

  -- a function, where it isn't one of the two that have no body, before others
  abbrev before : Bool → TreeFunction → List TreeFunction → List TreeFunction
  before b g gs = if b then gs else g ∷ gs

  only : (g : TreeFunction) (f : Fault) → HeadsOpen text h (g ∷ []) f → OwnFails g f
  only g f (inl k) = k
  only g f (inr k) = absurd k

  -- a function alone
  pub alone : (g : TreeFunction) (b : Bool) (o : Option Fault) → b ≡ is_external text h g → b ≡ false → IsLeast (OwnFails g) o
      → IsLeast (HeadsOpen text h (before (is_external text h g) g [])) o
  alone g b o same own least =
      rw (sym same, own)
      (least_same (OwnFails g) (HeadsOpen text h (g ∷ [])) o (λ f k. inl k) (only g) least)

  first_or_later : (g : TreeFunction) (gs : List TreeFunction) (f : Fault) (b : Bool) → HeadsOpen text h (before b g gs) f
      → HeadsOpen text h (before b g []) f ⊎ HeadsOpen text h gs f
  first_or_later g gs f true k = inr k
  first_or_later g gs f false (inl k) = inl (inl k)
  first_or_later g gs f false (inr k) = inr k

  first_and_later : (g : TreeFunction) (gs : List TreeFunction) (f : Fault) (b : Bool)
      → HeadsOpen text h (before b g []) f ⊎ HeadsOpen text h gs f → HeadsOpen text h (before b g gs) f
  first_and_later g gs f true (inl k) = absurd k
  first_and_later g gs f true (inr k) = k
  first_and_later g gs f false (inl (inl k)) = inl k
  first_and_later g gs f false (inl (inr k)) = absurd k
  first_and_later g gs f false (inr k) = inr k

  -- the first declaration, and those after it
  apart : (d : Declaration) (ds : List Declaration) (f : Fault) → AnyOpen (d ∷ ds) f → AnyOpen (d ∷ []) f ⊎ AnyOpen ds f
  apart (constants at specs) ds f k = inr k
  apart (variables at specs) ds f k = inr k
  apart (types at specs) ds f k = inr k
  apart (tree.function g) ds f k = first_or_later g (functions_in text h ds) f (is_external text h g) k

  together : (d : Declaration) (ds : List Declaration) (f : Fault) → AnyOpen (d ∷ []) f ⊎ AnyOpen ds f → AnyOpen (d ∷ ds) f
  together (constants at specs) ds f (inl k) = absurd k
  together (constants at specs) ds f (inr k) = k
  together (variables at specs) ds f (inl k) = absurd k
  together (variables at specs) ds f (inr k) = k
  together (types at specs) ds f (inl k) = absurd k
  together (types at specs) ds f (inr k) = k
  together (tree.function g) ds f k = first_and_later g (functions_in text h ds) f (is_external text h g) k

  pub kept_apart : (Whole : Fault → Type 0) (d : Declaration) (ds : List Declaration) (least : Option Fault)
      → Kept Whole (AnyOpen (d ∷ ds)) least → Kept Whole (λ f. AnyOpen (d ∷ []) f ⊎ AnyOpen ds f) least
  kept_apart Whole d ds least kept =
      kept_same Whole (AnyOpen (d ∷ ds)) (λ f. AnyOpen (d ∷ []) f ⊎ AnyOpen ds f) least (apart d ds) (together d ds) kept
