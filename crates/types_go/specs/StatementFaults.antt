-- Which rules fail in a statement, and where each is reported. A rule is looked at only where its operands have types.
use Rattle.std.specs.Prelude.{ℕ, ◌⊎◌, Bool, true, not, List, Option, Some, None}
use Rattle.base.specs.declared.pos.Pos.{Pos}
use Rattle.syntax.specs.Statements.{Simple, Clause, forever, while_true, counting, ranging, Stm, Stms, Els}
use Rattle.syntax.specs.Statements as tree
use Rattle.type_faults.specs.declared.fault.Fault.{Fault}
use Rattle.type_faults.specs.declared.fault.FaultKind.TheVariants.{BreakOutside}
use Rattle.type_faults.specs.Faults.{fault, IsFault, FormFails}
use Rattle.names.specs.Scope.{Scope, opened, closed}
use Rattle.expression_types.specs.Typing.{seen}
use Rattle.expression_types.specs.Faults.{FailsInEach, FailsInCondition, FailsInTest}
use Rattle.signatures.specs.Failing.{fault_where}
use Rattle.simple_statements.specs.SimpleStatements.{Returns}
use Rattle.simple_statements.specs.SimpleFaults.{names_place, ReturnFails, FailsInSimple, FailsInSpecs}
use Rattle.types_go.specs.RangeFaults.{FailsInRange}
use Rattle.types_go.specs.Statements.{looping, body_opened, header, clause_scope, behind, behind_all}

module _ (text : List ℕ) where
  -- ---- headers of `if` and `for`, whose word stands at a place

  abbrev pub FailsInInit : Scope → Option Simple → Fault → Type 0
  FailsInInit s None f = ⊥
  FailsInInit s (Some m) f = FailsInSimple text (opened s) m f

  -- a post statement declares nothing
  abbrev pub PostFails : Scope → Simple → Fault → Type 0
  PostFails s (tree.define ns pos es) f = FormFails (names_place ns pos) f
  PostFails s m f = FailsInSimple text s m f

  abbrev pub FailsInPost : Scope → Option Simple → Fault → Type 0
  FailsInPost s None f = ⊥
  FailsInPost s (Some m) f = PostFails s m f

  abbrev pub FailsInClause : Scope → Pos → Clause → Fault → Type 0
  FailsInClause s pos forever f = ⊥
  FailsInClause s pos (while_true e) f = FailsInCondition text (opened s) pos e f
  FailsInClause s pos (counting init test1 post) f = (FailsInInit s init f ⊎ FailsInTest text (header text s init) pos test1 f) ⊎ FailsInPost (header text s init) post f
  FailsInClause s pos (ranging t range_pos e) f = FailsInRange text s pos t e f

  abbrev pub FailsInGuard : Scope → Pos → tree.Guard → Fault → Type 0
  FailsInGuard s pos g f = FailsInInit s g.init f ⊎ FailsInCondition text (header text s g.init) pos g.condition f

  -- ---- a rule fails in a statement, in the scope before it; in one of some statements, in the scope after those before it
  module _ (r : Returns) where
    abbrev mutual
      pub FailsInStatement : (looped : Bool) → Scope → Stm → Fault → Type 0
      FailsInStatement looped s (tree.var_stmt pos specs) f = FailsInSpecs text s pos specs f
      FailsInStatement looped s (tree.simple m) f = FailsInSimple text s m f
      FailsInStatement looped s (tree.block ms) f = FailsInStatements looped (opened s) ms f
      FailsInStatement looped s (tree.if_stmt pos g body rest) f =
          (FailsInGuard s pos g f ⊎ FailsInStatements looped (opened (header text s g.init)) body f) ⊎ FailsInElse looped (closed (behind_all text (opened (header text s g.init)) body)) rest f
      FailsInStatement looped s (tree.for_stmt pos c body) f = FailsInClause (looping s c) pos c f ⊎ FailsInStatements true (body_opened (clause_scope text (looping s c) c)) body f
      FailsInStatement looped s (tree.break_stmt pos) f = IsFault (fault_where (not looped) (fault BreakOutside pos)) f
      FailsInStatement looped s (tree.continue_stmt pos) f = IsFault (fault_where (not looped) (fault BreakOutside pos)) f
      FailsInStatement looped s (tree.return_stmt pos es) f = FailsInEach text s es f ⊎ ReturnFails pos r (seen text s es) f

      pub FailsInElse : (looped : Bool) → Scope → Els → Fault → Type 0
      FailsInElse looped s tree.no_else f = ⊥
      FailsInElse looped s (tree.else_block ms) f = FailsInStatements looped (opened s) ms f
      FailsInElse looped s (tree.else_if pos g body rest) f =
          (FailsInGuard s pos g f ⊎ FailsInStatements looped (opened (header text s g.init)) body f) ⊎ FailsInElse looped (closed (behind_all text (opened (header text s g.init)) body)) rest f

      pub FailsInStatements : (looped : Bool) → Scope → Stms → Fault → Type 0
      FailsInStatements looped s tree.nil f = ⊥
      FailsInStatements looped s (tree.cons m ms) f = FailsInStatement looped s m f ⊎ FailsInStatements looped (behind text s m) ms f
