-- What may follow in each state of the machine of whole texts.
use Rattle.std.proofs.Common.{◌≡◌, List, [], ◌++◌, Option, Some, None}
use Rattle.base.specs.declared.pos.Pos.{Pos}
use Rattle.syntax.specs.declared.expression.Name.{Name}
use Rattle.syntax.specs.Expressions.{Ex, none, some}
use Rattle.syntax.specs.Statements.{ValueSpec, Stms}
use Rattle.syntax.specs.Declarations.{Parameters, unnamed, TypeSpec, Body, Declaration, types, File}
use Rattle.parse_expressions.specs.declared.terminal.Terminal.TheVariants.{Identifier, Package, Semicolon, LeftParen}
use Rattle.parse_expressions.specs.Grammar.{Mark}
use Rattle.parse_expressions.proofs.Following as expression
use Rattle.parse_simple_statements.specs.Grammar.{Declares}
use Rattle.parse_simple_statements.proofs.Marks.{Next, NextAt}
use Rattle.parse_simple_statements.proofs.ValueSpecsFollowing as value_specs
use Rattle.parse_statements.proofs.BodiesFollowing as bodies
use Rattle.parse_go.specs.Grammar.{AreResults, ReadsBody, AreDeclarations}
use Rattle.parse_go.specs.Parameters.{at_name_or_type}
use Rattle.parse_go.specs.Machine.{Named, Signature, State, at_package, at_package_name, at_package_end, at_declaration, in_values, in_types, at_function, at_opening, in_params, at_results, in_result, in_results, at_body, in_body, at_end, with_declaration, with_results, with_function, values_declared, result_context}
use Rattle.parse_go.proofs.TypeSpecsFollowing as type_specs
use Rattle.parse_go.proofs.ParametersFollowing as parameters

-- a name, and then what Then says
pub record NextName (Then : Name → List Mark → Type 0) (w : List Mark) : Type 0 where
  pub name : Name
  pub follows : Next (Identifier name) 0 (Then name) w

-- ---- what may follow the declarations

pub record FromDeclarations (f : File) (tree : File) (w : List Mark) : Type 0 where
  pub others : List Declaration
  pub reads : AreDeclarations others w
  pub whole : tree ≡ record { package_name = f.package_name; declarations = f.declarations ++ others }

-- after a declaration
abbrev pub FromEnd : File → File → List Mark → Type 0
FromEnd f tree w = Next Semicolon 0 (FromDeclarations f tree) w

-- ---- what may follow the parts of a function

-- after its results
pub record FromBody (s : Signature) (tree : File) (w : List Mark) : Type 0 where
  pub body : Option Body
  pub rest : List Mark
  pub reads : ReadsBody body w rest
  pub follows : FromEnd (with_function s body) tree rest

-- after its parameters
pub record FromResults (n : Named) (ps : Parameters) (tree : File) (w : List Mark) : Type 0 where
  pub results : Parameters
  pub rest : List Mark
  pub reads : AreResults results w rest
  pub follows : FromBody (with_results n ps results) tree rest

abbrev pub FromOpening : Named → File → List Mark → Type 0
FromOpening n tree w = NextAt LeftParen 0 (λ q. parameters.Rest (λ ps. FromResults n ps tree) (at_name_or_type [])) w

abbrev pub FromFunction : File → Pos → File → List Mark → Type 0
FromFunction f pos tree w = NextName (λ x. FromOpening (record { file = f; pos = pos; name = x }) tree) w

-- ---- what may follow the name of the package

abbrev pub FromPackageEnd : Name → File → List Mark → Type 0
FromPackageEnd x tree w = Next Semicolon 0 (FromDeclarations (record { package_name = x; declarations = [] }) tree) w

abbrev pub FromPackageName : File → List Mark → Type 0
FromPackageName tree w = NextName (λ x. FromPackageEnd x tree) w

-- ---- what may follow in each state

-- after the parts of the layers below
abbrev pub ValuesDeclared : File → Declares → Pos → File → List ValueSpec → List Mark → Type 0
ValuesDeclared f k pos tree specs m = FromEnd (with_declaration f (values_declared k pos specs)) tree m

abbrev pub TypesDeclared : File → Pos → File → List TypeSpec → List Mark → Type 0
TypesDeclared f pos tree specs m = FromEnd (with_declaration f (types pos specs)) tree m

abbrev pub ResultRead : Named → Parameters → File → Ex → List Mark → Type 0
ResultRead n ps tree e m = FromBody (with_results n ps (unnamed (some e none))) tree m

abbrev pub ResultsRead : Named → Parameters → File → Parameters → List Mark → Type 0
ResultsRead n ps tree rs m = FromBody (with_results n ps rs) tree m

abbrev pub BodyRead : Signature → File → Stms → Pos → List Mark → Type 0
BodyRead s tree ss end m = FromEnd (with_function s (Some (record { statements = ss; end = end }))) tree m

abbrev pub Rest : State → File → List Mark → Type 0
Rest at_package tree w = Next Package 0 (FromPackageName tree) w
Rest at_package_name tree w = FromPackageName tree w
Rest (at_package_end x) tree w = FromPackageEnd x tree w
Rest (at_declaration f) tree w = FromDeclarations f tree w
Rest (in_values f k pos s) tree w = value_specs.Rest k 0 (ValuesDeclared f k pos tree) s w
Rest (in_types f pos s) tree w = type_specs.Rest (TypesDeclared f pos tree) s w
Rest (at_function f pos) tree w = FromFunction f pos tree w
Rest (at_opening n) tree w = FromOpening n tree w
Rest (in_params n p) tree w = parameters.Rest (λ ps. FromResults n ps tree) p w
Rest (at_results n ps) tree w = FromResults n ps tree w
Rest (in_result n ps o) tree w = expression.Rest result_context (ResultRead n ps tree) o w
Rest (in_results n ps p) tree w = parameters.Rest (ResultsRead n ps tree) p w
Rest (at_body s) tree w = FromBody s tree w
Rest (in_body s b) tree w = bodies.Rest (BodyRead s tree) b w
Rest (at_end f) tree w = FromEnd f tree w

abbrev pub Follows : Option State → File → List Mark → Type 0
Follows None tree w = ⊥
Follows (Some s) tree w = Rest s tree w

-- ---- what each state keeps

abbrev pub ValidState : State → Type 0
ValidState (in_values f k pos s) = value_specs.Valid 0 s
ValidState (in_types f pos s) = type_specs.Valid s
ValidState (in_params n p) = parameters.Valid p
ValidState (in_result n ps o) = expression.ValidOpen result_context o
ValidState (in_results n ps p) = parameters.Valid p
ValidState (in_body s b) = bodies.Valid b
ValidState _ = Unit {0}

abbrev pub ValidNext : Option State → Type 0
ValidNext None = Unit {0}
ValidNext (Some s) = ValidState s
