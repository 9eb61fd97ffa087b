-- The grammar of declarations and whole texts [Go specification, Source file organization, Declarations and scope, Function
-- declarations, Struct types]. In each relation the marks ts begin with those of the tree, and rest is left after them.
use Rattle.std.specs.Prelude.{◌≡◌, ℕ, suc, ◌≤◌, true, false, List, [], ◌∷◌, Option, Some, None}
use Rattle.std.specs.List.{AllByRecursion}
use Rattle.base.specs.declared.pos.Pos.{Pos}
use Rattle.scan_go.specs.declared.token.Token.{Token}
use Rattle.syntax.specs.declared.limit.TheConstants.{NESTING_LIMIT}
use Rattle.syntax.specs.Expressions.{Ex, paren, Exs, none, some}
use Rattle.syntax.specs.Declarations.{Field, Parameters, unnamed, named, TypeSpec, Body, Function, Declaration, constants, variables, types, function, File, Syntax}
use Rattle.parse_expressions.specs.declared.terminal.Terminal.{Terminal}
use Rattle.parse_expressions.specs.declared.terminal.Terminal.TheVariants.{Identifier, Package, Const, Var, «Type» as type_word, Struct, Func, Comma, Semicolon, LeftParen, RightParen, LeftBrace, RightBrace}
use Rattle.parse_expressions.specs.Terminals.{terminals_of}
use Rattle.parse_expressions.specs.Grammar.{Mark, inside, nesting_of, terminals_in, ReadsType, ClosesArguments}
use Rattle.parse_simple_statements.specs.Grammar.{ReadsNames, of_constants, of_variables, ReadsValueSpec, IsGroup}
use Rattle.parse_statements.specs.Grammar.{IsBody}

-- ---- types with names

-- names and their type
abbrev pub ReadsField : ℕ → Field → List Mark → List Mark → Type 0
ReadsField d f ts rest = (m : List Mark) × ReadsNames d f.names ts m × ReadsType true d f.type_expr m rest

-- the fields of a struct, from after the opening brace to after the closing one; the last semicolon may be left out
pub data AreFields : ℕ → List Field → List Mark → List Mark → Type 0 where
  fields_end : {d : ℕ} {q : Pos} {rest : List Mark} → AreFields d [] (inside (RightBrace q) d ∷ rest) rest
  last_field : {d : ℕ} {f : Field} {ts rest : List Mark} (q : Pos) → ReadsField (suc d) f ts (inside (RightBrace q) d ∷ rest) → AreFields d (f ∷ []) ts rest
  next_field : {d : ℕ} {f : Field} {fs : List Field} {ts m rest : List Mark} → ReadsField (suc d) f ts (inside Semicolon (suc d) ∷ m) → AreFields d fs m rest → AreFields d (f ∷ fs) ts rest

abbrev pub ReadsTypeSpec : ℕ → TypeSpec → List Mark → List Mark → Type 0
ReadsTypeSpec d s ts rest = (q : Pos) × (m : List Mark) × (ts ≡ inside (Identifier s.name) d ∷ inside Struct d ∷ inside (LeftBrace q) d ∷ m) × AreFields d s.fields m rest

-- ---- functions

abbrev pub ReadsMoreTypes : ℕ → Exs → List Mark → List Mark → Type 0
ReadsMoreTypes d none ts rest = ts ≡ rest
ReadsMoreTypes d (some t es) ts rest = (m n : List Mark) × (ts ≡ inside Comma d ∷ m) × ReadsType true d t m n × ReadsMoreTypes d es n rest

-- one type or more
abbrev pub ReadsTypes : ℕ → Exs → List Mark → List Mark → Type 0
ReadsTypes d none ts rest = ⊥
ReadsTypes d (some t es) ts rest = (m : List Mark) × ReadsType true d t ts m × ReadsMoreTypes d es m rest

-- parameters with names, from the first name to after the closing parenthesis
pub data AreNamed : List Field → List Mark → List Mark → Type 0 where
  last_named : {f : Field} {ts m rest : List Mark} → ReadsField 1 f ts m → ClosesArguments 0 false m rest → AreNamed (f ∷ []) ts rest
  next_named : {f : Field} {fs : List Field} {ts m rest : List Mark} → ReadsField 1 f ts (inside Comma 1 ∷ m) → AreNamed fs m rest → AreNamed (f ∷ fs) ts rest

-- parameters or results in parentheses, from after the opening one to after the closing one: all have names, or none has
pub data AreParameters : Parameters → List Mark → List Mark → Type 0 where
  no_parameters : {rest : List Mark} → AreParameters (unnamed none) (inside RightParen 0 ∷ rest) rest
  unnamed_parameters : {es : Exs} {ts m rest : List Mark} → ReadsTypes 1 es ts m → ClosesArguments 0 false m rest → AreParameters (unnamed es) ts rest
  named_parameters : {fs : List Field} {ts rest : List Mark} → AreNamed fs ts rest → AreParameters (named fs) ts rest

-- a type that parentheses around parameters can't be taken for
abbrev pub IsBare : Ex → Type 0
IsBare (paren pos t) = ⊥
IsBare _ = Unit {0}

pub data AreResults : Parameters → List Mark → List Mark → Type 0 where
  no_results : {rest : List Mark} → AreResults (unnamed none) rest rest
  one_result : {t : Ex} {ts rest : List Mark} → IsBare t → ReadsType true 0 t ts rest → AreResults (unnamed (some t none)) ts rest
  results : {ps : Parameters} {opening : Pos} {m rest : List Mark} → AreParameters ps m rest → AreResults ps (inside (LeftParen opening) 0 ∷ m) rest

abbrev pub ReadsBody : Option Body → List Mark → List Mark → Type 0
ReadsBody None ts rest = ts ≡ rest
ReadsBody (Some b) ts rest = (q : Pos) × (m : List Mark) × (ts ≡ inside (LeftBrace q) 0 ∷ m) × IsBody 0 b.statements b.end m rest

abbrev pub IsFunction : Function → List Mark → List Mark → Type 0
IsFunction f ts rest = (opening : Pos) × (m k n : List Mark) × (ts ≡ inside (Func f.pos) 0 ∷ inside (Identifier f.name) 0 ∷ inside (LeftParen opening) 0 ∷ m) × AreParameters f.params m k × AreResults f.results k n × ReadsBody f.body n rest

-- ---- whole texts

abbrev pub IsDeclaration : Declaration → List Mark → List Mark → Type 0
IsDeclaration (constants pos specs) ts rest = (m : List Mark) × (ts ≡ inside (Const pos) 0 ∷ m) × IsGroup (ReadsValueSpec of_constants) 0 specs m rest
IsDeclaration (variables pos specs) ts rest = (m : List Mark) × (ts ≡ inside (Var pos) 0 ∷ m) × IsGroup (ReadsValueSpec of_variables) 0 specs m rest
IsDeclaration (types pos specs) ts rest = (m : List Mark) × (ts ≡ inside (type_word pos) 0 ∷ m) × IsGroup ReadsTypeSpec 0 specs m rest
IsDeclaration (function f) ts rest = IsFunction f ts rest

-- declarations up to the end of the text, each with a semicolon after it
abbrev pub AreDeclarations : List Declaration → List Mark → Type 0
AreDeclarations [] ts = ts ≡ []
AreDeclarations (d ∷ ds) ts = (m : List Mark) × IsDeclaration d ts (inside Semicolon 0 ∷ m) × AreDeclarations ds m

-- the whole text of a tree, each terminal with its nesting
abbrev pub IsMarked : List Mark → File → Type 0
IsMarked ts file = (m : List Mark) × (ts ≡ inside Package 0 ∷ inside (Identifier file.package_name) 0 ∷ inside Semicolon 0 ∷ m) × AreDeclarations file.declarations m

-- no nesting passes the limit
abbrev pub IsShallow : List Mark → Type 0
IsShallow ms = AllByRecursion (λ m. nesting_of m ≤ NESTING_LIMIT) ms

-- the terminals of a tree whose nestings keep the limit
abbrev pub IsProgram : List Terminal → File → Type 0
IsProgram ts file = (ms : List Mark) × (terminals_in ms ≡ ts) × IsMarked ms file × IsShallow ms

-- the tree of a text, from its tokens
abbrev pub IsText : List ℕ → List Token → Syntax → Type 0
IsText text tokens tree = (tree.text ≡ text) × IsProgram (terminals_of tokens) tree.file
