-- What may follow where the body of a function begins, after its opening brace; and no text ends inside of a body.
use Rattle.std.proofs.Common.{ℕ, true, List, [], ◌∷◌, inl, inr, Option}
use Rattle.base.specs.declared.pos.Pos.{Pos}
use Rattle.syntax.specs.Expressions.{Ex, Exs, none}
use Rattle.syntax.specs.Statements.{Simple, express, simple, var_stmt, return_stmt, Stm, Stms, nil, Els, no_else}
use Rattle.syntax.specs.Lists.{with_ex, joined}
use Rattle.parse_expressions.specs.declared.terminal.Terminal.TheVariants.{Range, Else, Semicolon, LeftBrace, RightBrace}
use Rattle.parse_expressions.specs.Grammar.{Mark, inside}
use Rattle.parse_expressions.specs.Machine.{Open, at_operand}
use Rattle.parse_expressions.proofs.Following as following
use Rattle.parse_expressions.proofs.Following.{Iff}
use Rattle.parse_simple_statements.specs.Grammar.{of_variables}
use Rattle.parse_statements.specs.Grammar.{IsStm, is_simple, IsElse, absent, IsBody, last, next}
use Rattle.parse_simple_statements.specs.Simples.{Simples, beginning}
use Rattle.parse_statements.specs.Outer.{Branch, chain_depth, brace_depth, whole_if, Blocks, statement_depth, around, with_statement}
use Rattle.parse_statements.specs.Bodies.{Spot, in_body, in_if, in_for, in_post, State, at_statement, in_var, in_simple, at_return, in_return, at_if, in_condition, at_for, at_second, in_second, at_post, in_range, at_then, at_else, at_stop, context_of, value_context, header_context}
use Rattle.parse_expressions.proofs.TextEnds.{unfinished as open_unfinished}
use Rattle.parse_simple_statements.proofs.Marks.{next_some, next_at_some}
use Rattle.parse_simple_statements.proofs.ValueLists.{MoreValues, values_begin, values_end}
use Rattle.parse_simple_statements.proofs.ValueSpecsBegins as value_specs
use Rattle.parse_simple_statements.proofs.SimplesBegins as simples
use Rattle.parse_statements.proofs.BodiesFollowing.{brace, semi, Up, BehindStm, InBody, IsCondition, BehindSimple, BehindRange, BehindFirst, Declared, Returned, WholeIf, Rest, Valid}
use Rattle.parse_statements.proofs.BodiesEnds.{stop_some, stop_other}
use Rattle.parse_statements.proofs.BodiesSimples.{InSimple}
use Rattle.parse_statements.proofs.BodiesHeaders.{if_begins, post_begins, second_begins}
use Rattle.parse_statements.proofs.BodiesFor.{for_begins}
use Rattle.parse_statements.proofs.BodiesStatements.{stm_then, simple_in}

pub begins : (K : Stms → Pos → List Mark → Type 0) (w : List Mark) → Iff ((ss : Stms) × (end : Pos) × (rest : List Mark) × IsBody 0 ss end w rest × K ss end rest) (Rest K (at_statement (around [] nil)) w)
begins K w = (λ h. record { others = h.0; end = h.1; rest = h.2; reads = h.3; follows = h.4 }, λ h. (h.others, h.end, h.rest, h.reads, h.follows))

pub begins_valid : Valid (at_statement (around [] nil))
begins_valid = tt

-- ---- no text ends inside of a body

module _ (K : Stms → Pos → List Mark → Type 0) (b : Blocks) where
  condition_some : (Then : Ex → List Mark → Type 0) → ((e : Ex) → Then e [] → ⊥) → (s : Simple) → IsCondition Then s [] → ⊥
  condition_some Then never (express e) h = never e h
  condition_some Then never s h = h

  behind_some : (s : Spot) (x : Simple) → BehindSimple K b s x [] → ⊥
  behind_some in_body x h = stop_some K (with_statement b (simple x)) h
  behind_some (in_if bs pos) x h = elim h [ inl n ↦ next_some Semicolon _ _ n | inr c ↦ condition_some _ (λ e k. next_at_some LeftBrace _ _ k) x c ]
  behind_some (in_for pos) x h = elim h [ inl n ↦ next_some Semicolon _ _ n | inr c ↦ condition_some _ (λ e k. next_at_some LeftBrace _ _ k) x c ]
  behind_some (in_post pos i c) x h = next_at_some LeftBrace _ _ h

  simple_some : (s : Spot) (p : Simples) → InSimple K b s p [] → ⊥
  simple_some s p h = let i = simples.unfinished (context_of b s) (BehindSimple K b s) (BehindRange K b s) p h in behind_some s i.0 i.1

  stm_some : (s : Stm) (m : List Mark) → IsStm (statement_depth b) s [] m → BehindStm K (with_statement b s) m → ⊥
  stm_some _ m (is_simple {s = s} r) f = simple_some in_body beginning (simple_in K b s [] m r f)

  body_some : InBody K b [] → ⊥
  body_some h = to h.others h.end h.rest h.reads h.follows
    where
      to : (ss : Stms) (q : Pos) (k : List Mark) → IsBody (brace_depth b.outer) ss q [] k → Up K b.outer (joined b.done ss) q k → ⊥
      to _ q k (last {s = s} r) f = stm_some s (inside (RightBrace q) (brace_depth b.outer) ∷ k) r (stm_then K b s nil q (inside (RightBrace q) (brace_depth b.outer) ∷ k) k brace f)
      to _ q k (next {s = s} {ss = ss} {m = m} r body) f = stm_some s (inside Semicolon (statement_depth b) ∷ m) r (stm_then K b s ss q (inside Semicolon (statement_depth b) ∷ m) k (semi body) f)

  returned_some : (pos : Pos) (es : Exs) (o : Open) → following.Rest (value_context b) (MoreValues true (statement_depth b) (Returned K b pos) es) o [] → ⊥
  returned_some pos es o h =
      let i = open_unfinished (value_context b) (MoreValues true (statement_depth b) (Returned K b pos) es) o h in
      stop_some K (with_statement b (return_stmt pos (with_ex es i.0))) (values_end true (statement_depth b) (Returned K b pos) es i.0 i.1)

  value_some : (d : ℕ) (Then : Ex → List Mark → Type 0) (o : Open) → ((e : Ex) → Then e [] → ⊥) → following.Rest (header_context d) Then o [] → ⊥
  value_some d Then o never h = let i = open_unfinished (header_context d) Then o h in never i.0 i.1

  second_some : (pos : Pos) (i : Option Simple) → BehindFirst K b pos i [] → ⊥
  second_some pos i h = elim ((second_begins K b pos i []).0 h) [ inl n ↦ next_some Semicolon _ _ n | inr x ↦ value_some (statement_depth b) _ (at_operand []) (λ e k. next_some Semicolon _ _ k) x ]

  for_some : (pos : Pos) → Rest K (at_for b pos) [] → ⊥
  for_some pos h = elim ((for_begins K b pos []).0 h) [
    | inl f ↦ next_at_some LeftBrace _ _ f
    | inr g ↦ elim g [ inl n ↦ next_some Semicolon _ _ n | inr i ↦ elim i [ inl n ↦ next_at_some Range _ _ n | inr s ↦ simple_some (in_for pos) beginning s ] ]
  ]

  then_some : (bs : List Branch) (branch : Branch) → Rest K (at_then b bs branch) [] → ⊥
  then_some bs branch h = to h.whole h.rest h.reads h.follows
    where
      to : (e : Els) (m : List Mark) → IsElse (chain_depth bs (statement_depth b)) e [] m → WholeIf K b bs branch e m → ⊥
      to _ _ absent f = stop_some K (with_statement b (whole_if bs branch no_else)) f

  else_some : (bs : List Branch) (branch : Branch) → Rest K (at_else b bs branch) [] → ⊥
  else_some bs branch h = to (chain_depth bs (statement_depth b)) h.whole h.rest h.reads h.follows
    where
      to : (n : ℕ) (e : Els) (m : List Mark) → IsElse (chain_depth bs (statement_depth b)) e (inside Else n ∷ []) m → WholeIf K b bs branch e m → ⊥
      to n _ _ absent f = stop_other K (with_statement b (whole_if bs branch no_else)) Else n [] (λ is. cc) (λ q is. cc) f

pub unfinished : (K : Stms → Pos → List Mark → Type 0) (s : State) → Rest K s [] → ⊥
unfinished K (at_statement b) h = body_some K b h
unfinished K (in_var b pos s) h = let i = value_specs.unfinished of_variables (statement_depth b) (Declared K b pos) s h in stop_some K (with_statement b (var_stmt pos i.0)) i.1
unfinished K (in_simple b s p) h = simple_some K b s p h
unfinished K (at_return b pos) h = elim h [ inl f ↦ stop_some K (with_statement b (return_stmt pos none)) f | inr v ↦ returned_some K b pos none (at_operand []) ((values_begin true (statement_depth b) (Returned K b pos) []).0 v) ]
unfinished K (in_return b pos es o) h = returned_some K b pos es o h
unfinished K (at_if b bs pos) h = elim ((if_begins K b bs pos []).0 h) [ inl n ↦ next_some Semicolon _ _ n | inr s ↦ simple_some K b (in_if bs pos) beginning s ]
unfinished K (in_condition b bs pos i o) h = value_some K b (chain_depth bs (statement_depth b)) _ o (λ e k. next_at_some LeftBrace _ _ k) h
unfinished K (at_for b pos) h = for_some K b pos h
unfinished K (at_second b pos i) h = second_some K b pos i h
unfinished K (in_second b pos i o) h = value_some K b (statement_depth b) _ o (λ e k. next_some Semicolon _ _ k) h
unfinished K (at_post b pos i c) h = elim ((post_begins K b pos i c []).0 h) [ inl f ↦ next_at_some LeftBrace _ _ f | inr s ↦ simple_some K b (in_post pos i c) beginning s ]
unfinished K (in_range b pos vars at o) h = value_some K b (statement_depth b) _ o (λ e k. next_at_some LeftBrace _ _ k) h
unfinished K (at_then b bs branch) h = then_some K b bs branch h
unfinished K (at_else b bs branch) h = else_some K b bs branch h
unfinished K (at_stop b) h = stop_some K b h
