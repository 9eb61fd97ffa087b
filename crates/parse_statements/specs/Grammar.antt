-- The grammar of statements [Go specification, Statements, Variable declarations, Blocks]. In each relation the marks ts begin with
-- those of the tree, and rest is left after them; all that a statement has stands inside of d brackets.
use Rattle.std.specs.Prelude.{◌≡◌, ℕ, suc, true, false, List, ◌∷◌, ◌⊎◌, Option, Some, None}
use Rattle.base.specs.declared.pos.Pos.{Pos}
use Rattle.syntax.specs.Expressions.{Ex, Exs, none}
use Rattle.syntax.specs.Statements.{Simple, ValueSpec, Guard, Targets, no_targets, targets_assigned, targets_defined, Clause, forever, while_true, counting, ranging, Stm, var_stmt, simple, block, if_stmt, for_stmt, break_stmt, continue_stmt, return_stmt, Stms, nil, cons, Els, no_else, else_block, else_if}
use Rattle.parse_expressions.specs.declared.terminal.Terminal.TheVariants.{Var, If, Else, For, Range, Break, Continue, Return, Assign, Define, Semicolon, LeftBrace, RightBrace}
use Rattle.parse_expressions.specs.Grammar.{Mark, inside, ReadsValue, ReadsExs}
use Rattle.parse_simple_statements.specs.Grammar.{ReadsNames, of_variables, ReadsValueSpec, IsGroup, ReadsSimple, IsPost}

-- ---- headers

abbrev pub ReadsOptionalSimple : ℕ → Option Simple → List Mark → List Mark → Type 0
ReadsOptionalSimple d None ts rest = ts ≡ rest
ReadsOptionalSimple d (Some s) ts rest = ReadsSimple false d s ts rest

abbrev pub ReadsOptionalValue : ℕ → Option Ex → List Mark → List Mark → Type 0
ReadsOptionalValue d None ts rest = ts ≡ rest
ReadsOptionalValue d (Some e) ts rest = ReadsValue false d e ts rest

abbrev pub ReadsPost : ℕ → Option Simple → List Mark → List Mark → Type 0
ReadsPost d None ts rest = ts ≡ rest
ReadsPost d (Some s) ts rest = IsPost s × ReadsSimple false d s ts rest

-- between an `if` and its body: the semicolon may stand alone
abbrev pub ReadsInit : ℕ → Option Simple → List Mark → List Mark → Type 0
ReadsInit d None ts rest = (ts ≡ rest) ⊎ (ts ≡ inside Semicolon d ∷ rest)
ReadsInit d (Some s) ts rest = ReadsSimple false d s ts (inside Semicolon d ∷ rest)

abbrev pub ReadsGuard : ℕ → Guard → List Mark → List Mark → Type 0
ReadsGuard d g ts rest = (m : List Mark) × ReadsInit d g.init ts m × ReadsValue false d g.condition m rest

abbrev pub ReadsTargets : ℕ → Targets → List Mark → List Mark → Type 0
ReadsTargets d no_targets ts rest = ts ≡ rest
ReadsTargets d (targets_assigned ls pos) ts rest = ReadsExs false d ls ts (inside (Assign pos) d ∷ rest)
ReadsTargets d (targets_defined xs pos) ts rest = ReadsNames d xs ts (inside (Define pos) d ∷ rest)

-- between a `for` and its body
abbrev pub ReadsClause : ℕ → Clause → List Mark → List Mark → Type 0
ReadsClause d forever ts rest = ts ≡ rest
ReadsClause d (while_true e) ts rest = ReadsValue false d e ts rest
ReadsClause d (counting s c p) ts rest = (m n : List Mark) × ReadsOptionalSimple d s ts (inside Semicolon d ∷ m) × ReadsOptionalValue d c m (inside Semicolon d ∷ n) × ReadsPost d p n rest
ReadsClause d (ranging t pos e) ts rest = (m : List Mark) × ReadsTargets d t ts (inside (Range pos) d ∷ m) × ReadsValue false d e m rest

-- ---- statements

-- An else-if counts as a bracket, which its `else` opens.
mutual
  pub data IsStm : ℕ → Stm → List Mark → List Mark → Type 0 where
    is_var : {d : ℕ} {pos : Pos} {specs : List ValueSpec} {m rest : List Mark} → IsGroup (ReadsValueSpec of_variables) d specs m rest → IsStm d (var_stmt pos specs) (inside (Var pos) d ∷ m) rest
    is_simple : {d : ℕ} {s : Simple} {ts rest : List Mark} → ReadsSimple true d s ts rest → IsStm d (simple s) ts rest
    is_break : {d : ℕ} {pos : Pos} {rest : List Mark} → IsStm d (break_stmt pos) (inside (Break pos) d ∷ rest) rest
    is_continue : {d : ℕ} {pos : Pos} {rest : List Mark} → IsStm d (continue_stmt pos) (inside (Continue pos) d ∷ rest) rest
    is_return : {d : ℕ} {pos : Pos} {rest : List Mark} → IsStm d (return_stmt pos none) (inside (Return pos) d ∷ rest) rest
    is_return_of : {d : ℕ} {pos : Pos} {es : Exs} {m rest : List Mark} → ReadsExs true d es m rest → IsStm d (return_stmt pos es) (inside (Return pos) d ∷ m) rest
    is_if : {d : ℕ} {pos : Pos} {g : Guard} {ss : Stms} {end : Pos} {e : Els} {m k n rest : List Mark} (q : Pos) → ReadsGuard d g m (inside (LeftBrace q) d ∷ k) → IsBody d ss end k n → IsElse d e n rest → IsStm d (if_stmt pos g ss e) (inside (If pos) d ∷ m) rest
    is_for : {d : ℕ} {pos : Pos} {c : Clause} {ss : Stms} {end : Pos} {m k rest : List Mark} (q : Pos) → ReadsClause d c m (inside (LeftBrace q) d ∷ k) → IsBody d ss end k rest → IsStm d (for_stmt pos c ss) (inside (For pos) d ∷ m) rest
    is_block : {d : ℕ} {q : Pos} {ss : Stms} {end : Pos} {m rest : List Mark} → IsBody d ss end m rest → IsStm d (block ss) (inside (LeftBrace q) d ∷ m) rest

  pub data IsElse : ℕ → Els → List Mark → List Mark → Type 0 where
    absent : {d : ℕ} {rest : List Mark} → IsElse d no_else rest rest
    otherwise : {d : ℕ} {q : Pos} {ss : Stms} {end : Pos} {m rest : List Mark} → IsBody d ss end m rest → IsElse d (else_block ss) (inside Else d ∷ inside (LeftBrace q) d ∷ m) rest
    otherwise_if : {d : ℕ} {pos : Pos} {g : Guard} {ss : Stms} {end : Pos} {e : Els} {m k n rest : List Mark} (q : Pos) → ReadsGuard (suc d) g m (inside (LeftBrace q) (suc d) ∷ k) → IsBody (suc d) ss end k n → IsElse (suc d) e n rest → IsElse d (else_if pos g ss e) (inside Else d ∷ inside (If pos) (suc d) ∷ m) rest

  -- The statements of a block inside of d brackets, from after its opening brace to after the closing one, which stands at the
  -- position end; the semicolon before that may be left out.
  pub data IsBody : ℕ → Stms → Pos → List Mark → List Mark → Type 0 where
    close : {d : ℕ} {end : Pos} {rest : List Mark} → IsBody d nil end (inside (RightBrace end) d ∷ rest) rest
    empty : {d : ℕ} {ss : Stms} {end : Pos} {ts rest : List Mark} → IsBody d ss end ts rest → IsBody d ss end (inside Semicolon (suc d) ∷ ts) rest
    last : {d : ℕ} {s : Stm} {end : Pos} {ts rest : List Mark} → IsStm (suc d) s ts (inside (RightBrace end) d ∷ rest) → IsBody d (cons s nil) end ts rest
    next : {d : ℕ} {s : Stm} {ss : Stms} {end : Pos} {ts m rest : List Mark} → IsStm (suc d) s ts (inside Semicolon (suc d) ∷ m) → IsBody d ss end m rest → IsBody d (cons s ss) end ts rest
