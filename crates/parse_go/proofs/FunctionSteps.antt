-- A terminal after the parameters of a function divides the texts by it from the left.
use Rattle.std.proofs.Common.{◌≡◌, ℕ, List, [], ◌∷◌, ◌⊎◌, inl, inr, Option, Some, None, refl, sym, subst}
use Rattle.base.specs.declared.pos.Pos.{Pos}
use Rattle.syntax.specs.Expressions.{none, some}
use Rattle.syntax.specs.Statements.{nil}
use Rattle.syntax.specs.Declarations.{Parameters, unnamed, Body, File}
use Rattle.parse_expressions.specs.declared.terminal.Terminal.{Terminal}
use Rattle.parse_expressions.specs.declared.terminal.Terminal.TheVariants.{Semicolon, LeftParen, LeftBrace}
use Rattle.parse_expressions.specs.Grammar.{Mark, inside}
use Rattle.parse_expressions.specs.Machine.{Open, at_type_operand}
use Rattle.parse_expressions.specs.Machine as expression
use Rattle.parse_expressions.proofs.Following.{Iff, After as ExpressionAfter}
use Rattle.parse_statements.specs.Outer.{around}
use Rattle.parse_statements.specs.Bodies.{at_statement}
use Rattle.parse_simple_statements.proofs.Marks.{NextAt, next_at_read, next_at_other, iff_same, iff_trans, only_left, only_right, neither}
use Rattle.parse_simple_statements.proofs.Starts.{NeverEnds, type_starts}
use Rattle.parse_statements.proofs.BodiesFollowing as bodies_following
use Rattle.parse_go.specs.Grammar.{IsBare, AreResults, no_results, one_result, results, ReadsBody}
use Rattle.parse_go.specs.Parameters.{at_name_or_type}
use Rattle.parse_go.specs.Machine.{Named, Signature, at_results, with_results, with_function, behind_results, result_context, after_result, step, nesting_result}
use Rattle.parse_go.proofs.Types.{OneType, type_first, type_bare, type_not_bare}
use Rattle.parse_go.proofs.ParametersFollowing as parameters_following
use Rattle.parse_go.proofs.ParametersBegins as parameters_begin
use Rattle.parse_go.proofs.Following.{FromEnd, FromBody, FromResults, ResultRead, ResultsRead, BodyRead, Follows}
use Rattle.parse_go.proofs.DeclarationSteps.{end_step, end_first}

module _ (tree : File) where
  -- ---- the body, which may be absent

  body_opens : (s : Signature) (q : Pos) (j : ℕ) (w : List Mark) → Iff (FromBody s tree (inside (LeftBrace q) j ∷ w)) ((j ≡ 0) × bodies_following.Rest (BodyRead s tree) (at_statement (around [] nil)) w)
  body_opens s q j w = (
    λ h. to h.body h.rest h.reads h.follows,
    λ h. let b = h.1 in record { body = Some (record { statements = b.others; end = b.end }); rest = b.rest; reads = (q, w, mark h.0, b.reads); follows = b.follows },
  )
    where
      mark : j ≡ 0 → inside (LeftBrace q) j ∷ w ≡ inside (LeftBrace q) 0 ∷ w
      mark is = cc (is)

      to : (b : Option Body) (rest : List Mark) → ReadsBody b (inside (LeftBrace q) j ∷ w) rest → FromEnd (with_function s b) tree rest → (j ≡ 0) × bodies_following.Rest (BodyRead s tree) (at_statement (around [] nil)) w
      to None rest r k = let is : LeftBrace q ≡ Semicolon = end_first tree (with_function s None) (LeftBrace q) j w (subst (FromEnd (with_function s None) tree) (sym r) k) in absurd (cc (is))
      to (Some b) rest r k =
          let same_w : r.1 ≡ w = cc (r.2) in
          (cc (r.2), subst (bodies_following.Rest (BodyRead s tree) (at_statement (around [] nil))) same_w (record { others = b.statements; end = b.end; rest = rest; reads = r.3; follows = k }))

  body_absent : (s : Signature) (t : Terminal) (j : ℕ) (w : List Mark) → ((q : Pos) → t ≡ LeftBrace q → ⊥) → Iff (FromBody s tree (inside t j ∷ w)) (FromEnd (with_function s None) tree (inside t j ∷ w))
  body_absent s t j w other = (λ h. to h.body h.rest h.reads h.follows, λ h. record { body = None; rest = inside t j ∷ w; reads = refl; follows = h })
    where
      to : (b : Option Body) (rest : List Mark) → ReadsBody b (inside t j ∷ w) rest → FromEnd (with_function s b) tree rest → FromEnd (with_function s None) tree (inside t j ∷ w)
      to None rest r k = subst (FromEnd (with_function s None) tree) (sym r) k
      to (Some b) rest r k = absurd (other r.0 (cc (r.2)))

  pub body_step : (s : Signature) (t : Terminal) (j : ℕ) (w : List Mark) → Iff (FromBody s tree (inside t j ∷ w)) ((j ≡ 0) × Follows (behind_results s t) tree w)
  body_step s (LeftBrace q) j w = body_opens s q j w
  body_step s t j w = iff_trans _ _ _ (body_absent s t j w (λ q e. cc (e))) (end_step tree (with_function s None) t j w)

  -- ---- one result

  pub after_result_step : (n : Named) (ps : Parameters) (o : Open) (t : Terminal) (j : ℕ) (w : List Mark) (p : expression.Progress) → Iff (ExpressionAfter result_context (ResultRead n ps tree) p (expression.nesting result_context o t) t j w) ((j ≡ nesting_result o t p) × Follows (after_result n ps t p) tree w)
  after_result_step n ps o t j w expression.fails = (λ h. absurd h, λ h. h.1)
  after_result_step n ps o t j w (expression.goes q) = iff_same _
  after_result_step n ps o t j w (expression.ends e) = (
    λ h. (body_step (with_results n ps (unnamed (some e none))) t j w).0 h.1,
    λ h. (λ is. cc (is), (body_step (with_results n ps (unnamed (some e none))) t j w).1 h),
  )

  result_begins_step : (n : Named) (ps : Parameters) (t : Terminal) (j : ℕ) (w : List Mark) (p : expression.Progress) → NeverEnds p → Iff (ExpressionAfter result_context (ResultRead n ps tree) p 0 t j w) ((j ≡ 0) × Follows (after_result n ps t p) tree w)
  result_begins_step n ps t j w expression.fails starts = (λ h. absurd h, λ h. h.1)
  result_begins_step n ps t j w (expression.goes q) starts = iff_same _
  result_begins_step n ps t j w (expression.ends e) starts = absurd starts

  -- a result that stands in no parentheses
  abbrev BareResult : Named → Parameters → List Mark → Type 0
  BareResult n ps w = OneType 0 (λ e m. IsBare e × ResultRead n ps tree e m) w

  bare_result : (n : Named) (ps : Parameters) (t : Terminal) (j : ℕ) (w : List Mark) → ((q : Pos) → t ≡ LeftParen q → ⊥) → Iff (BareResult n ps (inside t j ∷ w)) (OneType 0 (ResultRead n ps tree) (inside t j ∷ w))
  bare_result n ps t j w other = (
    λ h. let f = h.follows in record { whole = h.whole; rest = h.rest; reads = h.reads; follows = f.1 },
    λ h. record { whole = h.whole; rest = h.rest; reads = h.reads; follows = (type_bare 0 h.whole t j w h.rest other h.reads, h.follows) },
  )

  no_bare : (n : Named) (ps : Parameters) (q : Pos) (j : ℕ) (w : List Mark) → BareResult n ps (inside (LeftParen q) j ∷ w) → ⊥
  no_bare n ps q j w h = let f = h.follows in type_not_bare 0 h.whole q j w h.rest h.reads f.0

  result_step : (n : Named) (ps : Parameters) (t : Terminal) (j : ℕ) (w : List Mark) → ((q : Pos) → t ≡ LeftParen q → ⊥) → Iff (BareResult n ps (inside t j ∷ w)) ((j ≡ 0) × Follows (after_result n ps t (expression.step result_context (at_type_operand []) t)) tree w)
  result_step n ps t j w other = iff_trans _ _ _ (bare_result n ps t j w other) (iff_trans _ _ _ (type_first 0 (ResultRead n ps tree) t j w) (result_begins_step n ps t j w (expression.step result_context (at_type_operand []) t) (type_starts t)))

  -- ---- results

  abbrev ParenResults : Named → Parameters → List Mark → Type 0
  ParenResults n ps w = NextAt LeftParen 0 (λ q. parameters_following.Rest (ResultsRead n ps tree) (at_name_or_type [])) w

  results_item : (n : Named) (ps : Parameters) (w : List Mark) → Iff (FromResults n ps tree w) (FromBody (with_results n ps (unnamed none)) tree w ⊎ (BareResult n ps w ⊎ ParenResults n ps w))
  results_item n ps w = (
    λ h. to w h.results h.rest h.reads h.follows,
    λ h. elim h [
      | inl b ↦ record { results = unnamed none; rest = w; reads = no_results; follows = b }
      | inr c ↦ elim c [
        | inl o ↦ let f = o.follows in record { results = unnamed (some o.whole none); rest = o.rest; reads = one_result f.0 o.reads; follows = f.1 }
        | inr a ↦
            let p = (parameters_begin.begins (ResultsRead n ps tree) a.rest).1 a.follows in
            record { results = p.0; rest = p.1; reads = subst (λ (ts : List Mark). AreResults p.0 ts p.1) (sym a.mark) (results p.2); follows = p.3 }
      ]
    ],
  )
    where
      to : (ts : List Mark) (rs : Parameters) (m : List Mark) → AreResults rs ts m → FromBody (with_results n ps rs) tree m → FromBody (with_results n ps (unnamed none)) tree ts ⊎ (BareResult n ps ts ⊎ ParenResults n ps ts)
      to ts _ _ no_results k = inl k
      to ts _ m (one_result {t = t} bare r) k = inr (inl (record { whole = t; rest = m; reads = r; follows = (bare, k) }))
      to _ rs m (results {opening = q} {m = l} a) k = inr (inr (record { pos = q; rest = l; mark = refl; follows = (parameters_begin.begins (ResultsRead n ps tree) l).0 (rs, m, a, k) }))

  no_body : (s : Signature) (t : Terminal) (j : ℕ) (w : List Mark) → (Follows (behind_results s t) tree w → ⊥) → FromBody s tree (inside t j ∷ w) → ⊥
  no_body s t j w never h = let b = (body_step s t j w).0 h in never b.1

  no_paren : (n : Named) (ps : Parameters) (t : Terminal) (j : ℕ) (w : List Mark) → ((q : Pos) → t ≡ LeftParen q → ⊥) → ParenResults n ps (inside t j ∷ w) → ⊥
  no_paren n ps t j w other h = next_at_other LeftParen 0 (λ q. parameters_following.Rest (ResultsRead n ps tree) (at_name_or_type [])) t j w other h

  first_step : (n : Named) (ps : Parameters) (t : Terminal) (j : ℕ) (w : List Mark) → Iff (FromBody (with_results n ps (unnamed none)) tree (inside t j ∷ w) ⊎ (BareResult n ps (inside t j ∷ w) ⊎ ParenResults n ps (inside t j ∷ w))) ((j ≡ 0) × Follows (step (at_results n ps) t) tree w)
  first_step n ps (LeftParen q) j w =
      only_right _ _ _
      (no_body (with_results n ps (unnamed none)) (LeftParen q) j w (λ h. h))
      (only_right _ _ _ (no_bare n ps q j w) (next_at_read LeftParen 0 (λ p. parameters_following.Rest (ResultsRead n ps tree) (at_name_or_type [])) q j w (λ p e. cc (e))))
  first_step n ps (LeftBrace q) j w =
      only_left _ _ _
      (neither _ _ (λ h. let r = (result_step n ps (LeftBrace q) j w (λ p e. cc (e))).0 h in r.1) (no_paren n ps (LeftBrace q) j w (λ p e. cc (e))))
      (body_step (with_results n ps (unnamed none)) (LeftBrace q) j w)
  first_step n ps Semicolon j w =
      only_left _ _ _
      (neither _ _ (λ h. let r = (result_step n ps Semicolon j w (λ p e. cc (e))).0 h in r.1) (no_paren n ps Semicolon j w (λ p e. cc (e))))
      (body_step (with_results n ps (unnamed none)) Semicolon j w)
  first_step n ps t j w =
      only_right _ _ _
      (no_body (with_results n ps (unnamed none)) t j w (λ h. h))
      (only_left _ _ _ (no_paren n ps t j w (λ p e. cc (e))) (result_step n ps t j w (λ p e. cc (e))))

  pub results_step : (n : Named) (ps : Parameters) (t : Terminal) (j : ℕ) (w : List Mark) → Iff (FromResults n ps tree (inside t j ∷ w)) ((j ≡ 0) × Follows (step (at_results n ps) t) tree w)
  results_step n ps t j w = iff_trans _ _ _ (results_item n ps (inside t j ∷ w)) (first_step n ps t j w)
