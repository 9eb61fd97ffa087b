-- A terminal in the header of an `if` or `for` divides the texts by it from the left.
use Rattle.std.proofs.Common.{◌≡◌, ℕ, true, false, List, [], ◌∷◌, ◌⊎◌, inl, inr, Option, Some, None, refl, sym, subst}
use Rattle.base.specs.declared.pos.Pos.{Pos}
use Rattle.syntax.specs.Expressions.{Ex}
use Rattle.syntax.specs.Statements.{Simple, express, Targets, counting, ranging, Stms}
use Rattle.parse_expressions.specs.declared.terminal.Terminal.{Terminal}
use Rattle.parse_expressions.specs.declared.terminal.Terminal.TheVariants.{Semicolon, LeftBrace}
use Rattle.parse_expressions.specs.Grammar.{Mark, inside, ReadsValue}
use Rattle.parse_expressions.specs.Machine as expression
use Rattle.parse_expressions.specs.Machine.{Open, at_operand, operand}
use Rattle.parse_expressions.proofs.Following as following
use Rattle.parse_expressions.proofs.Following.{Iff}
use Rattle.parse_simple_statements.specs.Grammar.{ReadsSimple}
use Rattle.parse_statements.specs.Grammar.{ReadsInit, ReadsOptionalValue, ReadsPost}
use Rattle.parse_simple_statements.specs.Simples.{beginning}
use Rattle.parse_statements.specs.Outer.{Branch, chain_depth, Blocks, statement_depth, opened_if, opened_for}
use Rattle.parse_statements.specs.Bodies.{in_if, in_post, at_if, in_condition, at_second, in_second, at_post, in_range, header_context, context_of, step, behind_condition, after_condition, behind_second, after_second, behind_range, after_range, nesting_after}
use Rattle.parse_expressions.proofs.Quotient.{quotient as open_quotient}
use Rattle.parse_expressions.proofs.Viable.{valid_next as open_valid}
use Rattle.parse_simple_statements.proofs.Marks.{Next, NextAt, next_read, next_other, next_at_read, next_at_other, iff_same, iff_trans, and_then, only_left, only_right}
use Rattle.parse_simple_statements.proofs.Starts.{NeverEnds, operand_starts}
use Rattle.parse_simple_statements.proofs.ValueLists.{OneValue, value_begins, value_valid}
use Rattle.parse_simple_statements.proofs.SimplesBegins.{begins}
use Rattle.parse_statements.proofs.BodiesFollowing.{InBody, OpensIf, OpensFor, BehindIf, BehindFirst, BehindSecond, IsCondition, BehindSimple, BehindRange, Rest, After}
use Rattle.parse_statements.proofs.BodiesSimples.{InSimple, begins_step, begins_other}

module _ (K : Stms → Pos → List Mark → Type 0) (b : Blocks) where
  -- ---- the value of a header ends

  opens_is_apart : (d : ℕ) (Then : Ex → Pos → List Mark → Type 0) → following.Apart (header_context d) (λ e m. NextAt LeftBrace d (Then e) m)
  opens_is_apart d Then = record { never = λ is e t j w on h. next_at_other LeftBrace d (Then e) t j w (λ q same. let l : false ≡ true = subst (following.GoesOn (header_context d)) same on in absurd cc) h }

  -- ---- `if`

  pub if_begins : (bs : List Branch) (pos : Pos) (w : List Mark) → Iff (BehindIf K b bs pos w) (Next Semicolon (chain_depth bs (statement_depth b)) (λ m. OneValue false (chain_depth bs (statement_depth b)) (λ e n. OpensIf K b bs pos (record { init = None; condition = e }) n) m) w ⊎ InSimple K b (in_if bs pos) beginning w)
  if_begins bs pos w = (
    λ h. let g = h.guard in to g.init g.condition h.rest h.reads.0 h.reads.1 h.reads.2 h.follows,
    λ h. elim h [
      | inl n ↦ let v = n.follows in record { guard = record { init = None; condition = v.whole }; rest = v.rest; reads = (n.rest, inr n.mark, v.reads); follows = v.follows }
      | inr s ↦ elim ((begins (context_of b (in_if bs pos)) (BehindSimple K b (in_if bs pos)) (BehindRange K b (in_if bs pos)) w).1 s) [
        | inl x ↦ from_simple x.whole x.rest x.reads x.follows
        | inr r ↦ absurd (cc (r.may))
      ]
    ],
  )
    where
      to : (i : Option Simple) (c : Ex) (rest m : List Mark) → ReadsInit (chain_depth bs (statement_depth b)) i w m → ReadsValue false (chain_depth bs (statement_depth b)) c m rest → OpensIf K b bs pos (record { init = i; condition = c }) rest → Next Semicolon (chain_depth bs (statement_depth b)) (λ m. OneValue false (chain_depth bs (statement_depth b)) (λ e n. OpensIf K b bs pos (record { init = None; condition = e }) n) m) w ⊎ InSimple K b (in_if bs pos) beginning w
      to None c rest m r v f = elim r [
        | inl is ↦ inr ((begins (context_of b (in_if bs pos)) (BehindSimple K b (in_if bs pos)) (BehindRange K b (in_if bs pos)) w).0 (inl (record { whole = express c; rest = rest; allowed = tt; reads = subst (λ (ts : List Mark). ReadsValue false (chain_depth bs (statement_depth b)) c ts rest) (sym is) v; follows = inr f })))
        | inr is ↦ inl (record { rest = m; mark = is; follows = record { whole = c; rest = rest; reads = v; follows = f } })
      ]
      to (Some s) c rest m r v f = inr ((begins (context_of b (in_if bs pos)) (BehindSimple K b (in_if bs pos)) (BehindRange K b (in_if bs pos)) w).0 (inl (record { whole = s; rest = inside Semicolon (chain_depth bs (statement_depth b)) ∷ m; allowed = tt; reads = r; follows = inl (record { rest = m; mark = refl; follows = record { whole = c; rest = rest; reads = v; follows = f } }) })))

      from_condition : (s : Simple) (m : List Mark) → ReadsSimple false (chain_depth bs (statement_depth b)) s w m → IsCondition (λ e n. OpensIf K b bs pos (record { init = None; condition = e }) n) s m → BehindIf K b bs pos w
      from_condition (express e) m r f = record { guard = record { init = None; condition = e }; rest = m; reads = (w, inl refl, r); follows = f }
      from_condition s m r f = absurd f

      from_simple : (s : Simple) (m : List Mark) → ReadsSimple false (chain_depth bs (statement_depth b)) s w m → BehindSimple K b (in_if bs pos) s m → BehindIf K b bs pos w
      from_simple s m r f = elim f [
        | inl n ↦ let v = n.follows in record { guard = record { init = Some s; condition = v.whole }; rest = v.rest; reads = (n.rest, subst (λ (ts : List Mark). ReadsSimple false (chain_depth bs (statement_depth b)) s w ts) n.mark r, v.reads); follows = v.follows }
        | inr c ↦ from_condition s m r c
      ]

  pub if_step : (bs : List Branch) (pos : Pos) (t : Terminal) (j : ℕ) (w : List Mark) → Iff (Rest K (at_if b bs pos) (inside t j ∷ w)) (After K (step (at_if b bs pos) t) (chain_depth bs (statement_depth b)) j w)
  if_step bs pos Semicolon j w =
      iff_trans _ _ _ (if_begins bs pos (inside Semicolon j ∷ w))
      (only_left _ _ _ (begins_other K b (in_if bs pos) Semicolon j w refl)
      (iff_trans _ _ _ (next_read Semicolon _ _ j w) (and_then _ _ _ (value_begins false (chain_depth bs (statement_depth b)) _ w))))
  if_step bs pos t j w =
      iff_trans _ _ _ (if_begins bs pos (inside t j ∷ w))
      (only_right _ _ _ (next_other Semicolon _ _ t j w (λ is. cc)) (begins_step K b (in_if bs pos) t j w))

  condition_after : (bs : List Branch) (pos : Pos) (i : Option Simple) (o : Open) (t : Terminal) (j : ℕ) (w : List Mark) (q : expression.Progress) → following.ValidNext (header_context (chain_depth bs (statement_depth b))) q
      → Iff (following.After (header_context (chain_depth bs (statement_depth b))) (λ e m. OpensIf K b bs pos (record { init = i; condition = e }) m) q (expression.nesting (header_context (chain_depth bs (statement_depth b))) o t) t j w) (After K (after_condition b bs pos i t q) (nesting_after b (chain_depth bs (statement_depth b)) (header_context (chain_depth bs (statement_depth b))) o t q) j w)
  condition_after bs pos i o t j w expression.fails valid = iff_same _
  condition_after bs pos i o t j w (expression.goes p) valid = iff_same _
  condition_after bs pos i o t j w (expression.ends e) valid = let f = ends t in (λ h. f.0 h.1, λ h. (valid, f.1 h))
    where
      ends : (x : Terminal) → Iff (OpensIf K b bs pos (record { init = i; condition = e }) (inside x j ∷ w)) (After K (behind_condition b bs pos i e x) (chain_depth bs (statement_depth b)) j w)
      ends (LeftBrace q) = next_at_read LeftBrace (chain_depth bs (statement_depth b)) _ q j w (λ p is. cc)
      ends x = (λ h. absurd (next_at_other LeftBrace _ _ x j w (λ q is. cc) h), λ h. absurd h)

  pub condition_step : (bs : List Branch) (pos : Pos) (i : Option Simple) (o : Open) (t : Terminal) (j : ℕ) (w : List Mark) → following.ValidOpen (header_context (chain_depth bs (statement_depth b))) o
      → Iff (Rest K (in_condition b bs pos i o) (inside t j ∷ w)) (After K (step (in_condition b bs pos i o) t) (nesting_after b (chain_depth bs (statement_depth b)) (header_context (chain_depth bs (statement_depth b))) o t (expression.step (header_context (chain_depth bs (statement_depth b))) o t)) j w)
  condition_step bs pos i o t j w valid =
      let context = header_context (chain_depth bs (statement_depth b)) in
      iff_trans _ _ _
      (open_quotient context (λ e m. OpensIf K b bs pos (record { init = i; condition = e }) m) o t j w valid (opens_is_apart (chain_depth bs (statement_depth b)) (λ e q m. InBody K (opened_if b bs pos (record { init = i; condition = e })) m)))
      (condition_after bs pos i o t j w (expression.step context o t) (open_valid context o t valid))

  -- ---- after the second semicolon of a `for`

  pub post_begins : (pos : Pos) (i : Option Simple) (c : Option Ex) (w : List Mark) → Iff (BehindSecond K b pos i c w) (OpensFor K b pos (counting i c None) w ⊎ InSimple K b (in_post pos i c) beginning w)
  post_begins pos i c w = (
    λ h. to h.post h.rest h.reads h.follows,
    λ h. elim h [
      | inl f ↦ record { post = None; rest = w; reads = refl; follows = f }
      | inr s ↦ elim ((begins (context_of b (in_post pos i c)) (BehindSimple K b (in_post pos i c)) (BehindRange K b (in_post pos i c)) w).1 s) [
        | inl x ↦ record { post = Some x.whole; rest = x.rest; reads = (x.allowed, x.reads); follows = x.follows }
        | inr r ↦ absurd (cc (r.may))
      ]
    ],
  )
    where
      to : (p : Option Simple) (m : List Mark) → ReadsPost (statement_depth b) p w m → OpensFor K b pos (counting i c p) m → OpensFor K b pos (counting i c None) w ⊎ InSimple K b (in_post pos i c) beginning w
      to None m r f = inl (subst (λ (ts : List Mark). OpensFor K b pos (counting i c None) ts) (sym r) f)
      to (Some s) m r f = inr ((begins (context_of b (in_post pos i c)) (BehindSimple K b (in_post pos i c)) (BehindRange K b (in_post pos i c)) w).0 (inl (record { whole = s; rest = m; allowed = r.0; reads = r.1; follows = f })))

  pub post_step : (pos : Pos) (i : Option Simple) (c : Option Ex) (t : Terminal) (j : ℕ) (w : List Mark) → Iff (Rest K (at_post b pos i c) (inside t j ∷ w)) (After K (step (at_post b pos i c) t) (statement_depth b) j w)
  post_step pos i c (LeftBrace q) j w =
      iff_trans _ _ _ (post_begins pos i c (inside (LeftBrace q) j ∷ w))
      (only_left _ _ _ (begins_other K b (in_post pos i c) (LeftBrace q) j w refl) (next_at_read LeftBrace (statement_depth b) _ q j w (λ p is. cc)))
  post_step pos i c t j w =
      iff_trans _ _ _ (post_begins pos i c (inside t j ∷ w))
      (only_right _ _ _ (next_at_other LeftBrace _ _ t j w (λ q is. cc)) (begins_step K b (in_post pos i c) t j w))

  -- ---- after its first semicolon

  second_is_apart : (pos : Pos) (i : Option Simple) → following.Apart (header_context (statement_depth b)) (λ e m. Next Semicolon (statement_depth b) (BehindSecond K b pos i (Some e)) m)
  second_is_apart pos i = record { never = λ is e t j w on h. next_other Semicolon (statement_depth b) (BehindSecond K b pos i (Some e)) t j w (λ same. subst (following.GoesOn (header_context (statement_depth b))) same on) h }

  pub second_begins : (pos : Pos) (i : Option Simple) (w : List Mark) → Iff (BehindFirst K b pos i w) (Next Semicolon (statement_depth b) (BehindSecond K b pos i None) w ⊎ following.Rest (header_context (statement_depth b)) (λ e m. Next Semicolon (statement_depth b) (BehindSecond K b pos i (Some e)) m) (at_operand []) w)
  second_begins pos i w = (
    λ h. to h.condition h.rest h.reads h.follows,
    λ h. elim h [
      | inl f ↦ record { condition = None; rest = w; reads = refl; follows = f }
      | inr x ↦ let v = (value_begins false (statement_depth b) _ w).1 x in record { condition = Some v.whole; rest = v.rest; reads = v.reads; follows = v.follows }
    ],
  )
    where
      to : (c : Option Ex) (m : List Mark) → ReadsOptionalValue (statement_depth b) c w m → Next Semicolon (statement_depth b) (BehindSecond K b pos i c) m → Next Semicolon (statement_depth b) (BehindSecond K b pos i None) w ⊎ following.Rest (header_context (statement_depth b)) (λ e m. Next Semicolon (statement_depth b) (BehindSecond K b pos i (Some e)) m) (at_operand []) w
      to None m r f = inl (subst (λ (ts : List Mark). Next Semicolon (statement_depth b) (BehindSecond K b pos i None) ts) (sym r) f)
      to (Some e) m r f = inr ((value_begins false (statement_depth b) _ w).0 (record { whole = e; rest = m; reads = r; follows = f }))

  second_after : (pos : Pos) (i : Option Simple) (o : Open) (t : Terminal) (j : ℕ) (w : List Mark) (q : expression.Progress) → following.ValidNext (header_context (statement_depth b)) q
      → Iff (following.After (header_context (statement_depth b)) (λ e m. Next Semicolon (statement_depth b) (BehindSecond K b pos i (Some e)) m) q (expression.nesting (header_context (statement_depth b)) o t) t j w) (After K (after_second b pos i t q) (nesting_after b (statement_depth b) (header_context (statement_depth b)) o t q) j w)
  second_after pos i o t j w expression.fails valid = iff_same _
  second_after pos i o t j w (expression.goes p) valid = iff_same _
  second_after pos i o t j w (expression.ends e) valid = let f = ends t in (λ h. f.0 h.1, λ h. (valid, f.1 h))
    where
      ends : (x : Terminal) → Iff (Next Semicolon (statement_depth b) (BehindSecond K b pos i (Some e)) (inside x j ∷ w)) (After K (behind_second b pos i e x) (statement_depth b) j w)
      ends Semicolon = next_read Semicolon (statement_depth b) _ j w
      ends x = (λ h. absurd (next_other Semicolon _ _ x j w (λ is. cc) h), λ h. absurd h)

  pub in_second_step : (pos : Pos) (i : Option Simple) (o : Open) (t : Terminal) (j : ℕ) (w : List Mark) → following.ValidOpen (header_context (statement_depth b)) o
      → Iff (Rest K (in_second b pos i o) (inside t j ∷ w)) (After K (step (in_second b pos i o) t) (nesting_after b (statement_depth b) (header_context (statement_depth b)) o t (expression.step (header_context (statement_depth b)) o t)) j w)
  in_second_step pos i o t j w valid =
      let context = header_context (statement_depth b) in
      iff_trans _ _ _
      (open_quotient context (λ e m. Next Semicolon (statement_depth b) (BehindSecond K b pos i (Some e)) m) o t j w valid (second_is_apart pos i))
      (second_after pos i o t j w (expression.step context o t) (open_valid context o t valid))

  second_starts : (pos : Pos) (i : Option Simple) (t : Terminal) (j : ℕ) (w : List Mark) → Iff (following.Rest (header_context (statement_depth b)) (λ e m. Next Semicolon (statement_depth b) (BehindSecond K b pos i (Some e)) m) (at_operand []) (inside t j ∷ w)) (After K (after_second b pos i t (operand [] t)) (statement_depth b) j w)
  second_starts pos i t j w =
      iff_trans _ _ _
      (open_quotient (header_context (statement_depth b)) (λ e m. Next Semicolon (statement_depth b) (BehindSecond K b pos i (Some e)) m) (at_operand []) t j w (value_valid false (statement_depth b)) (second_is_apart pos i))
      (starts (operand [] t) (operand_starts t))
    where
      starts : (q : expression.Progress) → NeverEnds q → Iff (following.After (header_context (statement_depth b)) (λ e m. Next Semicolon (statement_depth b) (BehindSecond K b pos i (Some e)) m) q (statement_depth b) t j w) (After K (after_second b pos i t q) (statement_depth b) j w)
      starts expression.fails never = iff_same _
      starts (expression.goes p) never = iff_same _
      starts (expression.ends e) never = absurd never

  pub second_step : (pos : Pos) (i : Option Simple) (t : Terminal) (j : ℕ) (w : List Mark) → Iff (Rest K (at_second b pos i) (inside t j ∷ w)) (After K (step (at_second b pos i) t) (statement_depth b) j w)
  second_step pos i Semicolon j w =
      iff_trans _ _ _ (second_begins pos i (inside Semicolon j ∷ w))
      (only_left _ _ _ (second_starts pos i Semicolon j w).0 (next_read Semicolon (statement_depth b) _ j w))
  second_step pos i t j w =
      iff_trans _ _ _ (second_begins pos i (inside t j ∷ w))
      (only_right _ _ _ (next_other Semicolon _ _ t j w (λ is. cc)) (second_starts pos i t j w))

  -- ---- the operand of a `range`

  range_after : (pos : Pos) (vars : Targets) (at : Pos) (o : Open) (t : Terminal) (j : ℕ) (w : List Mark) (q : expression.Progress) → following.ValidNext (header_context (statement_depth b)) q
      → Iff (following.After (header_context (statement_depth b)) (λ e m. OpensFor K b pos (ranging vars at e) m) q (expression.nesting (header_context (statement_depth b)) o t) t j w) (After K (after_range b pos vars at t q) (nesting_after b (statement_depth b) (header_context (statement_depth b)) o t q) j w)
  range_after pos vars at o t j w expression.fails valid = iff_same _
  range_after pos vars at o t j w (expression.goes p) valid = iff_same _
  range_after pos vars at o t j w (expression.ends e) valid = let f = ends t in (λ h. f.0 h.1, λ h. (valid, f.1 h))
    where
      ends : (x : Terminal) → Iff (OpensFor K b pos (ranging vars at e) (inside x j ∷ w)) (After K (behind_range b pos vars at e x) (statement_depth b) j w)
      ends (LeftBrace q) = next_at_read LeftBrace (statement_depth b) _ q j w (λ p is. cc)
      ends x = (λ h. absurd (next_at_other LeftBrace _ _ x j w (λ q is. cc) h), λ h. absurd h)

  pub range_step : (pos : Pos) (vars : Targets) (at : Pos) (o : Open) (t : Terminal) (j : ℕ) (w : List Mark) → following.ValidOpen (header_context (statement_depth b)) o
      → Iff (Rest K (in_range b pos vars at o) (inside t j ∷ w)) (After K (step (in_range b pos vars at o) t) (nesting_after b (statement_depth b) (header_context (statement_depth b)) o t (expression.step (header_context (statement_depth b)) o t)) j w)
  range_step pos vars at o t j w valid =
      let context = header_context (statement_depth b) in
      iff_trans _ _ _
      (open_quotient context (λ e m. OpensFor K b pos (ranging vars at e) m) o t j w valid (opens_is_apart (statement_depth b) (λ e q m. InBody K (opened_for b pos (ranging vars at e)) m)))
      (range_after pos vars at o t j w (expression.step context o t) (open_valid context o t valid))
