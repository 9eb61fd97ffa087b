-- Declarations and whole texts as abstract syntax.
use Rattle.std.specs.Prelude.{ℕ, List, Option, Some, None, map}
use Rattle.base.specs.declared.pos.Pos.{Pos}
use Rattle.syntax.specs.declared.expression.Name.{Name}
use Rattle.syntax.specs.declared.declaration.Field.{Field as CodeField}
use Rattle.syntax.specs.declared.declaration.Params.{Params as CodeParams}
use Rattle.syntax.specs.declared.declaration.Params.TheVariants as params_variant
use Rattle.syntax.specs.declared.declaration.TypeSpec.{TypeSpec as CodeTypeSpec}
use Rattle.syntax.specs.declared.declaration.Body.{Body as CodeBody}
use Rattle.syntax.specs.declared.declaration.Func.{Func}
use Rattle.syntax.specs.declared.declaration.Decl.{Decl}
use Rattle.syntax.specs.declared.declaration.Decl.TheVariants as decl
use Rattle.syntax.specs.declared.declaration.Tree.{Tree}
use Rattle.syntax.specs.Expressions.{Ex, Exs, ex_of, exs_of}
use Rattle.syntax.specs.Statements.{ValueSpec, Stms, value_specs_of, stms_of}

-- names that share a type
pub record Field : Type 0 where
  pub names : List Name
  pub type_expr : Ex

-- the parameters or results of a function: their types, or names with their types
pub data Parameters : Type 0 where
  unnamed : Exs → Parameters
  named : List Field → Parameters

-- a struct type
pub record TypeSpec : Type 0 where
  pub name : Name
  pub fields : List Field

-- the body of a function, with the position of its closing brace
pub record Body : Type 0 where
  pub statements : Stms
  pub end : Pos

-- a function, with the position of its word
pub record Function : Type 0 where
  pub pos : Pos
  pub name : Name
  pub params : Parameters
  pub results : Parameters
  pub body : Option Body

-- a declaration at the level of the package, with the position of its word
pub data Declaration : Type 0 where
  constants : Pos → List ValueSpec → Declaration
  variables : Pos → List ValueSpec → Declaration
  types : Pos → List TypeSpec → Declaration
  function : Function → Declaration

-- what the tokens of a text say
pub record File : Type 0 where
  pub package_name : Name
  pub declarations : List Declaration

-- a text with its tree
pub record Syntax : Type 0 where
  pub text : List ℕ
  pub file : File

-- ---- from what lies in memory

abbrev pub field_of : CodeField → Field
field_of f = record { names = f.names.items; type_expr = ex_of f.type_expr }

abbrev pub fields_of : List CodeField → List Field
fields_of fs = map field_of fs

abbrev pub parameters_of : CodeParams → Parameters
parameters_of (params_variant.Unnamed ts) = unnamed (exs_of ts.items)
parameters_of (params_variant.Named fs) = named (fields_of fs.items)

abbrev pub type_spec_of : CodeTypeSpec → TypeSpec
type_spec_of s = record { name = s.name; fields = fields_of s.fields.items }

abbrev pub type_specs_of : List CodeTypeSpec → List TypeSpec
type_specs_of specs = map type_spec_of specs

abbrev pub body_of : CodeBody → Body
body_of b = record { statements = stms_of b.statements.items; end = b.end }

abbrev pub body_in : Option CodeBody → Option Body
body_in None = None
body_in (Some b) = Some (body_of b)

abbrev pub function_of : Func → Function
function_of f = record { pos = f.pos; name = f.name; params = parameters_of f.params; results = parameters_of f.results; body = body_in f.body }

abbrev pub declaration_of : Decl → Declaration
declaration_of (decl.Const pos specs) = constants pos (value_specs_of specs.items)
declaration_of (decl.Var pos specs) = variables pos (value_specs_of specs.items)
declaration_of (decl.Type pos specs) = types pos (type_specs_of specs.items)
declaration_of (decl.Func f) = function (function_of f)

abbrev pub declarations_of : List Decl → List Declaration
declarations_of ds = map declaration_of ds

abbrev pub syntax_of : Tree → Syntax
syntax_of t = record { text = t.text.items; file = record { package_name = t.package; declarations = declarations_of t.decls.items } }
