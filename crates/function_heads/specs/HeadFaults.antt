-- Which rules fail in the head of a function and in a declaration at the level of the package, and where each is reported.
use Rattle.std.specs.Prelude.{ℕ, ◌⊎◌, Bool, true, false, not, List, [], ◌∷◌, Option, Some, None, is_some, nat_lt}
use Rattle.base.specs.declared.pos.Pos.{Pos}
use Rattle.syntax.specs.Expressions.{spelled}
use Rattle.syntax.specs.Declarations.{Function as TreeFunction, Declaration, constants, variables, types}
use Rattle.syntax.specs.Declarations as tree
use Rattle.type_faults.specs.declared.fault.Fault.{Fault}
use Rattle.type_faults.specs.declared.fault.FaultKind.TheVariants.{Redeclared, BadExternal, SelfReference, OutOfProfile, TooLarge}
use Rattle.type_faults.specs.Faults.{fault, IsFault}
use Rattle.names.specs.declared.scope.Declared.{Declared}
use Rattle.names.specs.Universe.{is_blank}
use Rattle.names.specs.Scope.{Scope, Signature, declaration}
use Rattle.expression_types.specs.Faults.{StatedFails}
use Rattle.signatures.specs.Signatures.{Param, params_of, is_init}
use Rattle.function_heads.specs.HeadTypes.{signature_in}
use Rattle.function_heads.specs.PackageBlock.{is_external, is_external_at}
use Rattle.signatures.specs.Failing.{fault_where}
use Rattle.signatures.specs.SignatureFaults.{function_name_fault, size_fault}
use Rattle.function_heads.specs.Heads.{most_functions}

-- no other function than `readInt` and `exit` has no body
abbrev pub external_fault : TreeFunction → Fault
external_fault g = fault BadExternal g.name.pos

-- which is looked at where the types of its head are known
abbrev pub missing_body_fault : Option Signature → Fault → Option Fault
missing_body_fault None own = None
missing_body_fault (Some sig) own = Some own

-- the name of a function that may be one of the two without a body: the first declaration of a name stays
abbrev pub external_name_fault : Bool → Option Declared → Pos → Option Fault
external_name_fault false d pos = None
external_name_fault true d pos = fault_where (not (is_external_at pos d)) (fault Redeclared pos)

-- a function of the name `init`, at its word
abbrev pub init_fault : Bool → Pos → Option Fault
init_fault b pos = fault_where b (fault OutOfProfile pos)

-- the first byte of a text
abbrev pub first_byte : Pos
first_byte = record { offset = 0; line = 1; col = 1 }

module _ (text : List ℕ) where
  -- in the types of parameters or results, in the package block
  abbrev pub TypesFail : Scope → List Param → Fault → Type 0
  TypesFail s [] f = ⊥
  TypesFail s (p ∷ ps) f = StatedFails text s p.type_expr f ⊎ TypesFail s ps f

  abbrev pub HeadFails : Scope → TreeFunction → Fault → Type 0
  HeadFails s g f = TypesFail s (params_of g.params) f ⊎ TypesFail s (params_of g.results) f

  -- a rule fails in the head of the function of a number, in the package block
  abbrev pub FailsInHead : Scope → ℕ → TreeFunction → Fault → Type 0
  FailsInHead s i g f =
      IsFault (function_name_fault i (is_blank (spelled text g.name)) (declaration s (spelled text g.name)) g.name.pos) f
      ⊎ IsFault (fault_where (not (nat_lt i most_functions)) (fault TooLarge g.name.pos)) f

module _ (text : List ℕ) (heads : Scope) where
  -- in the words of its arguments and results
  abbrev pub FailsInWords : TreeFunction → Fault → Type 0
  FailsInWords g f = IsFault (size_fault heads.types (signature_in text heads g) g.name.pos) f

  -- a declaration of `init`, of a function without a body after another of its name, or with types of which one fails; the other
  -- declarations have rules of their own
  abbrev pub DeclarationFails : Scope → Declaration → Fault → Type 0
  DeclarationFails s (constants pos specs) f = ⊥
  DeclarationFails s (variables pos specs) f = ⊥
  DeclarationFails s (types pos specs) f = ⊥
  DeclarationFails s (tree.function g) f =
      (IsFault (init_fault (is_init (spelled text g.name)) g.pos) f
      ⊎ IsFault (external_name_fault (is_external text heads g) (declaration s (spelled text g.name)) g.name.pos) f)
      ⊎ HeadFails text s g f

  abbrev pub DeclarationsFail : Scope → List Declaration → Fault → Type 0
  DeclarationsFail s [] f = ⊥
  DeclarationsFail s (d ∷ ds) f = DeclarationFails s d f ⊎ DeclarationsFail s ds f

  -- functions of which the types in their heads aren't all known, each at its name
  abbrev pub HeadsOpen : List TreeFunction → Fault → Type 0
  HeadsOpen [] f = ⊥
  HeadsOpen (g ∷ gs) f = IsFault (fault_where (not (is_some (signature_in text heads g))) (fault SelfReference g.name.pos)) f ⊎ HeadsOpen gs f
