-- Statements as abstract syntax.
use Rattle.std.specs.Prelude.{List, [], ◌∷◌, Option, Some, None, map}
use Rattle.base.specs.declared.pos.Pos.{Pos}
use Rattle.syntax.specs.declared.operator.ArithmeticOp.{ArithmeticOp}
use Rattle.syntax.specs.declared.expression.Name.{Name}
use Rattle.syntax.specs.declared.statement.Simple.{Simple as CodeSimple}
use Rattle.syntax.specs.declared.statement.Simple.TheVariants as simple_variant
use Rattle.syntax.specs.declared.statement.ValueSpec.{ValueSpec as CodeValueSpec}
use Rattle.syntax.specs.declared.statement.Guard.{Guard as CodeGuard}
use Rattle.syntax.specs.declared.statement.Targets.{Targets as CodeTargets}
use Rattle.syntax.specs.declared.statement.Targets.TheVariants as targets_variant
use Rattle.syntax.specs.declared.statement.Clause.{Clause as CodeClause}
use Rattle.syntax.specs.declared.statement.Clause.TheVariants as clause_variant
use Rattle.syntax.specs.declared.statement.Stmt.{Stmt, Row_of-Stmt, end_of-Stmt, more_of-Stmt}
use Rattle.syntax.specs.declared.statement.Stmt.TheVariants as stmt
use Rattle.syntax.specs.declared.statement.Else.{Else}
use Rattle.syntax.specs.declared.statement.Else.TheVariants as els
use Rattle.syntax.specs.Expressions.{Ex, Exs, ex_of, exs_of, ex_in}

-- a simple statement; the position is that of its operator
pub data Simple : Type 0 where
  express : Ex → Simple
  -- the places that are assigned to, and the values
  assign : Exs → Pos → Exs → Simple
  update : Exs → Pos → ArithmeticOp → Exs → Simple
  define : List Name → Pos → Exs → Simple
  increment : Ex → Pos → Simple
  decrement : Ex → Pos → Simple

-- what one declaration gives constants or variables; it has no values where there is no `=`
pub record ValueSpec : Type 0 where
  pub names : List Name
  pub type_expr : Option Ex
  pub values : Exs

-- what stands between an `if` and its body
pub record Guard : Type 0 where
  pub init : Option Simple
  pub condition : Ex

-- what a `range` gives its values to, with the position of the operator after it
pub data Targets : Type 0 where
  no_targets : Targets
  targets_assigned : Exs → Pos → Targets
  targets_defined : List Name → Pos → Targets

-- what stands between a `for` and its body
pub data Clause : Type 0 where
  forever : Clause
  while_true : Ex → Clause
  -- the init statement, the condition and the post statement
  counting : Option Simple → Option Ex → Option Simple → Clause
  -- the position of the word `range`, and its operand
  ranging : Targets → Pos → Ex → Clause

mutual
  -- a statement; the position is that of its word
  pub data Stm : Type 0 where
    var_stmt : Pos → List ValueSpec → Stm
    simple : Simple → Stm
    block : Stms → Stm
    if_stmt : Pos → Guard → Stms → Els → Stm
    for_stmt : Pos → Clause → Stms → Stm
    break_stmt : Pos → Stm
    continue_stmt : Pos → Stm
    return_stmt : Pos → Exs → Stm

  -- the statements of a block
  pub data Stms : Type 0 where
    nil : Stms
    cons : Stm → Stms → Stms

  -- what stands after the body of an `if`
  pub data Els : Type 0 where
    no_else : Els
    else_block : Stms → Els
    else_if : Pos → Guard → Stms → Els → Els

-- ---- from what lies in memory

abbrev pub simple_of : CodeSimple → Simple
simple_of (simple_variant.Express e) = express (ex_of e)
simple_of (simple_variant.Assign ls pos es) = assign (exs_of ls.items) pos (exs_of es.items)
simple_of (simple_variant.Update ls pos op es) = update (exs_of ls.items) pos op (exs_of es.items)
simple_of (simple_variant.Define xs pos es) = define xs.items pos (exs_of es.items)
simple_of (simple_variant.Increment e pos) = increment (ex_of e) pos
simple_of (simple_variant.Decrement e pos) = decrement (ex_of e) pos

abbrev pub simple_in : Option CodeSimple → Option Simple
simple_in None = None
simple_in (Some s) = Some (simple_of s)

abbrev pub value_spec_of : CodeValueSpec → ValueSpec
value_spec_of s = record { names = s.names.items; type_expr = ex_in s.type_expr; values = exs_of s.values.items }

abbrev pub value_specs_of : List CodeValueSpec → List ValueSpec
value_specs_of specs = map value_spec_of specs

abbrev pub guard_of : CodeGuard → Guard
guard_of g = record { init = simple_in g.init; condition = ex_of g.condition }

abbrev pub targets_of : CodeTargets → Targets
targets_of targets_variant.Absent = no_targets
targets_of (targets_variant.Assign es pos) = targets_assigned (exs_of es.items) pos
targets_of (targets_variant.Define xs pos) = targets_defined xs.items pos

abbrev pub clause_of : CodeClause → Clause
clause_of clause_variant.Forever = forever
clause_of (clause_variant.While e) = while_true (ex_of e)
clause_of (clause_variant.Counting s c p) = counting (simple_in s) (ex_in c) (simple_in p)
clause_of (clause_variant.Range t pos e) = ranging (targets_of t) pos (ex_of e)

abbrev mutual
  pub stm_of : Stmt → Stm
  stm_of (stmt.Var pos specs) = var_stmt pos (value_specs_of specs.items)
  stm_of (stmt.Simple s) = simple (simple_of s)
  stm_of (stmt.Block' shape body) = block (row_of body)
  stm_of (stmt.If' pos g shape body e) = if_stmt pos (guard_of g) (row_of body) (els_of e)
  stm_of (stmt.For' pos c shape body) = for_stmt pos (clause_of c) (row_of body)
  stm_of (stmt.Break pos) = break_stmt pos
  stm_of (stmt.Continue pos) = continue_stmt pos
  stm_of (stmt.Return pos es) = return_stmt pos (exs_of es.items)

  pub els_of : Else → Els
  els_of els.Absent = no_else
  els_of (els.Block' shape body) = else_block (row_of body)
  els_of (els.If' pos g shape body p e) = else_if pos (guard_of g) (row_of body) (els_of e)

  pub row_of : {m : _} → Row_of-Stmt m → Stms
  row_of end_of-Stmt = nil
  row_of (more_of-Stmt s ss) = cons (stm_of s) (row_of ss)

abbrev pub stms_of : List Stmt → Stms
stms_of [] = nil
stms_of (s ∷ ss) = cons (stm_of s) (stms_of ss)
