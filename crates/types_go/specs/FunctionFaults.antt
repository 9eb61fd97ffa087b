-- Which rules fail in a function and in a tree, and where each is reported. A form that is left out fails at its first byte, and nothing
-- after that is looked at: whatever fails further right is never reported.
use Rattle.std.specs.Prelude.{ℕ, ◌+◌, ◌⊎◌, false, not, List, [], ◌∷◌, Option, Some, None, is_some}
use Rattle.syntax.specs.Declarations.{Body, Function as TreeFunction, Declaration, Syntax}
use Rattle.type_faults.specs.declared.fault.Fault.{Fault}
use Rattle.type_faults.specs.declared.fault.FaultKind.TheVariants.{MissingReturn, NoMain}
use Rattle.type_faults.specs.Faults.{fault, IsFault}
use Rattle.names.specs.Scope.{Scope}
use Rattle.declared_structs.specs.Faults.{type_specs_in, SizesOfAllFail, StructsOpen}
use Rattle.declared_structs.specs.Faults.{DeclarationsFail as StructDeclarationsFail}
use Rattle.package_values.specs.ValueFaults.{ItemsFail}
use Rattle.signatures.specs.declared.entries.Role.TheVariants.{Parameter as parameter, Result as result}
use Rattle.signatures.specs.EntryFaults.{EntriesFail}
use Rattle.function_heads.specs.HeadTypes.{slots_of, signature_in}
use Rattle.signatures.specs.Failing.{fault_where}
use Rattle.function_heads.specs.HeadFaults.{external_fault, missing_body_fault, first_byte, FailsInHead, FailsInWords, DeclarationsFail, HeadsOpen}
use Rattle.types_go.specs.Functions.{Member, of_function, of_variable, behind_variable, params_opened, behind_params, body_scope, behind_function, returns_of, may_end, declarations_in, constants_scope, IsHeads, numbered_functions, members, package_scope, main_number}
use Rattle.types_go.specs.StatementFaults.{FailsInStatements}

module _ (text : List ℕ) (heads : Scope) where
  abbrev pub FailsInParts : Scope → TreeFunction → Body → Fault → Type 0
  FailsInParts s g b f =
      (EntriesFail text parameter (params_opened s) (slots_of text heads g.params) f ⊎ EntriesFail text result (behind_params text heads s g) (slots_of text heads g.results) f)
      ⊎ FailsInStatements text (returns_of text heads g) false (body_scope text heads s g) b.statements f

  -- with results, a function ends in a terminating statement
  abbrev pub FailsWith : Scope → ℕ → TreeFunction → Option Body → Fault → Type 0
  FailsWith s i g None f = (FailsInHead text s i g f ⊎ FailsInWords text heads g f) ⊎ IsFault (missing_body_fault (signature_in text heads g) (external_fault g)) f
  FailsWith s i g (Some b) f = (FailsInHead text s i g f ⊎ FailsInWords text heads g f) ⊎ (FailsInParts s g b f ⊎ IsFault (fault_where (not (may_end text heads s g b)) (fault MissingReturn b.end)) f)

  abbrev pub FailsInFunction : Scope → ℕ → TreeFunction → Fault → Type 0
  FailsInFunction s i g f = FailsWith s i g g.body f

  abbrev pub FailsInFunctions : Scope → ℕ → List Member → Fault → Type 0
  FailsInFunctions s i [] f = ⊥
  FailsInFunctions s i (of_function g ∷ ms) f = FailsInFunction s i g f ⊎ FailsInFunctions (behind_function text heads s g) (1 + i) ms f
  FailsInFunctions s i (of_variable k v ∷ ms) f = FailsInFunctions (behind_variable text s k v) i ms f

-- ---- a tree

-- a rule fails in the sizes of the structs, by the constants of the package
abbrev pub SizesFail : Syntax → Fault → Type 0
SizesFail t f = SizesOfAllFail t.text (constants_scope t) (declarations_in t) f

-- in a declaration at the level of the package, where this fails in the sizes of its structs
abbrev pub DeclaredFails : List ℕ → (heads block : Scope) → List Declaration → (Fault → Type 0) → Fault → Type 0
DeclaredFails text h s ds Sizes f = DeclarationsFail text h s ds f ⊎ ((Sizes f ⊎ StructDeclarationsFail text s ds f) ⊎ ItemsFail text s ds f)

-- in the declarations of its structs, in their sizes or by themselves
abbrev pub StructsFail : Syntax → Scope → Fault → Type 0
StructsFail t h f = SizesFail t f ⊎ StructDeclarationsFail t.text (package_scope t h) (declarations_in t) f

abbrev pub PackageFails : Syntax → Scope → Fault → Type 0
PackageFails t h f = DeclaredFails t.text h (package_scope t h) (declarations_in t) (SizesFail t) f

-- in a tree, with these names of its package
abbrev pub RulesFail : Syntax → Scope → Fault → Type 0
RulesFail t h f =
    IsFault (fault_where (not (is_some (main_number t h))) (fault NoMain first_byte)) f
    ⊎ (PackageFails t h f ⊎ FailsInFunctions t.text h (package_scope t h) 0 (members t h) f)

-- where no rule fails, and yet the types in the head of a function aren't known, or a struct is no type, these go in a circle: say, through
-- the length of an array that is the value of a call
abbrev pub IsOpen : Syntax → Scope → Fault → Type 0
IsOpen t h f = HeadsOpen t.text h (numbered_functions t h) f ⊎ StructsOpen h.types 0 (type_specs_in (declarations_in t)) f

-- a rule fails, or else something is open
abbrev pub FailsWithHeads : Syntax → Scope → Fault → Type 0
FailsWithHeads t h f = RulesFail t h f ⊎ (((g : Fault) → RulesFail t h g → ⊥) × IsOpen t h f)

-- in a tree
pub record FailsIn (t : Syntax) (f : Fault) : Type 0 where
  pub heads : Scope
  pub is_heads : IsHeads t heads
  pub fails : FailsWithHeads t heads f
