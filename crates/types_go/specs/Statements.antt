-- The typed statements that the rules of the language give a tree (Go specification, "If statements", "For statements", "Break statements",
-- "Continue statements", "Return statements").
use Rattle.std.specs.Prelude.{ℕ, Bool, true, false, List, [], ◌∷◌, Option, Some, None, option_and_then}
use Rattle.std.specs.Option.{option_map}
use Rattle.syntax.specs.Statements.{Simple, Guard, Clause, forever, while_true, counting, ranging, Stm, Stms, Els}
use Rattle.syntax.specs.Statements as tree
use Rattle.typed_syntax.specs.Syntax.{Ex, Left, St, Sts, blank, new, to, assign, block, if_stmt, for_stmt, range, break_stmt, continue_stmt, done, next}
use Rattle.type_faults.specs.Given.{allowed}
use Rattle.names.specs.Scope.{Scope, in_header, in_body, with_setting, opened, closed}
use Rattle.expression_types.specs.Typing.{seen, condition, test}
use Rattle.simple_statements.specs.SimpleStatements.{Returns, before, returned, behind_simple, simple_statement, spec_statements, behind_specs}
use Rattle.types_go.specs.Ranges.{Range, behind_range, range_in}

-- ---- statements of their parts

abbrev pub alone : St → Sts
alone t = next t done

-- a statement after the init statement of its header, in the block around both
abbrev pub headed : Option St → St → St
headed None t = t
headed (Some i) t = block (next i (next t done))

-- the new variables among left sides, and those of an init statement
abbrev pub new_in : List Left → List ℕ
new_in [] = []
new_in (blank ∷ ls) = new_in ls
new_in (new site ∷ ls) = site ∷ new_in ls
new_in (to q ∷ ls) = new_in ls

abbrev pub declared_in : Option St → List ℕ
declared_in (Some (assign ls es)) = new_in ls
declared_in other = []

-- the header of an `if`: its init statement, where it has one, and its condition
pub record Choice : Type 0 where
  pub init : Option St
  pub condition : Ex

abbrev pub chosen : Choice → Sts → Sts → St
chosen h a b = headed h.init (if_stmt h.condition a b)

-- the header of a loop
pub data Head : Type 0 where
  for_clause : Option St → Option Ex → Sts → Head
  range_clause : Range → Head

abbrev pub range_stmt : Range → Sts → St
range_stmt r body = range r.over r.key r.value body

abbrev pub for_of : Head → Sts → St
for_of (for_clause init test1 post) body = headed init (for_stmt (declared_in init) test1 post body)
for_of (range_clause r) body = range_stmt r body

abbrev pub choice_of : Option Choice → Option Sts → Option Sts → Option St
choice_of h a b = option_and_then (λ c. option_and_then (λ y. option_map (chosen c y) b) a) h

abbrev pub loop_of : Option Head → Option Sts → Option St
loop_of h body = option_and_then (λ c. option_map (for_of c) body) h

abbrev pub choice_head : Option (Option St) → Option Ex → Option Choice
choice_head i c = option_and_then (λ h. option_map (λ x. record { init = h; condition = x }) c) i

abbrev pub loop_head : Option (Option St) → Option (Option Ex) → Option Sts → Option Head
loop_head i c post = option_and_then (λ h. option_and_then (λ x. option_map (for_clause h x) post) c) i

-- the init and the post statement of a loop
abbrev pub init_in : Clause → Option Simple
init_in forever = None
init_in (while_true e) = None
init_in (counting init test1 post) = init
init_in (ranging t pos e) = None

abbrev pub post_in : Clause → Option Simple
post_in forever = None
post_in (while_true e) = None
post_in (counting init test1 post) = post
post_in (ranging t pos e) = None

-- ---- loops

-- whether the variables of a header are carried on to the next iteration: those of an init statement are
abbrev pub carries : Clause → Bool
carries forever = false
carries (while_true e) = false
carries (counting init test1 post) = true
carries (ranging t pos e) = false

-- what stands in the header of a loop and in its body is one loop deeper than the loop
abbrev pub looping : Scope → Clause → Scope
looping s c = with_setting s (in_header (carries c) s.setting)

-- the block of the body, after the header
abbrev pub body_opened : Scope → Scope
body_opened s = opened (with_setting s (in_body s.setting))

-- after a loop, where the first scope was before it
abbrev pub behind_loop : Scope → Scope → Scope
behind_loop s r = with_setting r s.setting

module _ (text : List ℕ) where
  -- ---- headers of `if` and `for`

  -- the block of a header, after its init statement
  abbrev pub header : Scope → Option Simple → Scope
  header s None = opened s
  header s (Some m) = behind_simple text (opened s) m

  abbrev pub init_statement : Scope → Option Simple → Option (Option St)
  init_statement s None = Some None
  init_statement s (Some m) = option_map Some (simple_statement text (opened s) m)

  -- a post statement declares nothing
  abbrev pub post_simple : Scope → Simple → Option St
  post_simple s (tree.define ns pos es) = None
  post_simple s m = simple_statement text s m

  abbrev pub post_statement : Scope → Option Simple → Option Sts
  post_statement s None = Some done
  post_statement s (Some m) = option_map alone (post_simple s m)

  -- after it
  abbrev pub behind_post_simple : Scope → Simple → Scope
  behind_post_simple s (tree.define ns pos es) = s
  behind_post_simple s m = behind_simple text s m

  abbrev pub behind_post : Scope → Option Simple → Scope
  behind_post s None = s
  behind_post s (Some m) = behind_post_simple s m

  abbrev pub guard_head : Scope → Guard → Option Choice
  guard_head s g = choice_head (init_statement s g.init) (condition text (header s g.init) g.condition)

  -- the scope of a loop's body, around its block: after the header, which begins in a scope of the loop
  abbrev pub clause_scope : Scope → Clause → Scope
  clause_scope s forever = opened s
  clause_scope s (while_true e) = opened s
  clause_scope s (counting init test1 post) = behind_post (header s init) post
  clause_scope s (ranging t pos e) = behind_range text s t pos e

  abbrev pub clause_head : Scope → Clause → Option Head
  clause_head s forever = Some (for_clause None None done)
  clause_head s (while_true e) = loop_head (Some None) (option_map Some (condition text (opened s) e)) (Some done)
  clause_head s (counting init test1 post) = loop_head (init_statement s init) (test text (header s init) test1) (post_statement (header s init) post)
  clause_head s (ranging t pos e) = option_map range_clause (range_in text s t e)

  -- ---- the scope after a statement

  abbrev mutual
    pub behind : Scope → Stm → Scope
    behind s (tree.var_stmt pos specs) = behind_specs text s specs
    behind s (tree.simple m) = behind_simple text s m
    behind s (tree.block ms) = closed (behind_all (opened s) ms)
    behind s (tree.if_stmt pos g body rest) = closed (behind_else (closed (behind_all (opened (header s g.init)) body)) rest)
    behind s (tree.for_stmt pos c body) = behind_loop s (closed (closed (behind_all (body_opened (clause_scope (looping s c) c)) body)))
    behind s (tree.break_stmt pos) = s
    behind s (tree.continue_stmt pos) = s
    behind s (tree.return_stmt pos es) = s

    pub behind_else : Scope → Els → Scope
    behind_else s tree.no_else = s
    behind_else s (tree.else_block ms) = closed (behind_all (opened s) ms)
    behind_else s (tree.else_if pos g body rest) = closed (behind_else (closed (behind_all (opened (header s g.init)) body)) rest)

    pub behind_all : Scope → Stms → Scope
    behind_all s tree.nil = s
    behind_all s (tree.cons m ms) = behind_all (behind s m) ms

  -- ---- the typed forms, in a function that gives back what `r` says; `looped` where a loop is around

  module _ (r : Returns) where
    abbrev mutual
      pub statement : (looped : Bool) → Scope → Stm → Option Sts
      statement looped s (tree.var_stmt pos specs) = spec_statements text s specs
      statement looped s (tree.simple m) = option_map alone (simple_statement text s m)
      statement looped s (tree.block ms) = option_map (λ b. alone (block b)) (statements looped (opened s) ms)
      statement looped s (tree.if_stmt pos g body rest) =
          option_map alone
          (choice_of (guard_head s g) (statements looped (opened (header s g.init)) body) (alternative looped (closed (behind_all (opened (header s g.init)) body)) rest))
      statement looped s (tree.for_stmt pos c body) = option_map alone (loop_of (clause_head (looping s c) c) (statements true (body_opened (clause_scope (looping s c) c)) body))
      statement looped s (tree.break_stmt pos) = allowed looped (Some (alone break_stmt))
      statement looped s (tree.continue_stmt pos) = allowed looped (Some (alone continue_stmt))
      statement looped s (tree.return_stmt pos es) = option_map alone (returned r (seen text s es))

      -- what is done where the condition is false
      pub alternative : (looped : Bool) → Scope → Els → Option Sts
      alternative looped s tree.no_else = Some done
      alternative looped s (tree.else_block ms) = statements looped (opened s) ms
      alternative looped s (tree.else_if pos g body rest) =
          option_map alone
          (choice_of (guard_head s g) (statements looped (opened (header s g.init)) body) (alternative looped (closed (behind_all (opened (header s g.init)) body)) rest))

      pub statements : (looped : Bool) → Scope → Stms → Option Sts
      statements looped s tree.nil = Some done
      statements looped s (tree.cons m ms) = option_and_then (λ t. option_map (before t) (statements looped (behind s m) ms)) (statement looped s m)
