-- A terminal after `for` divides the texts by it from the left.
use Rattle.std.proofs.Common.{ℕ, false, List, ◌∷◌, ◌⊎◌, inl, inr, Option, Some, None, refl, sym, subst}
use Rattle.base.specs.declared.pos.Pos.{Pos}
use Rattle.syntax.specs.Expressions.{Ex}
use Rattle.syntax.specs.Statements.{Simple, express, Targets, no_targets, targets_assigned, targets_defined, Clause, forever, while_true, counting, ranging, Stms}
use Rattle.parse_expressions.specs.declared.terminal.Terminal.{Terminal}
use Rattle.parse_expressions.specs.declared.terminal.Terminal.TheVariants.{Range, Semicolon, LeftBrace}
use Rattle.parse_expressions.specs.Grammar.{Mark, inside, ReadsValue}
use Rattle.parse_expressions.proofs.Following.{Iff}
use Rattle.parse_simple_statements.specs.Grammar.{ReadsSimple}
use Rattle.parse_statements.specs.Grammar.{ReadsOptionalSimple, ReadsOptionalValue, ReadsPost, ReadsTargets, ReadsClause}
use Rattle.parse_simple_statements.specs.Simples.{beginning}
use Rattle.parse_statements.specs.Outer.{Blocks, statement_depth}
use Rattle.parse_statements.specs.Bodies.{in_for, at_for, context_of, step}
use Rattle.parse_simple_statements.proofs.Marks.{Next, NextAt, next_read, next_other, next_at_read, next_at_other, iff_trans, and_then, only_left, only_right, neither}
use Rattle.parse_simple_statements.proofs.ValueLists.{value_begins}
use Rattle.parse_simple_statements.specs.Laws.{ReadsTarget}
use Rattle.parse_simple_statements.proofs.SimplesFollowing.{OneSimple, Ranged}
use Rattle.parse_simple_statements.proofs.SimplesBegins.{begins}
use Rattle.parse_statements.proofs.BodiesFollowing.{OpensFor, BehindFor, BehindFirst, IsCondition, BehindSimple, BehindRange, Rest, After}
use Rattle.parse_statements.proofs.BodiesSimples.{InSimple, begins_step, begins_other}

module _ (K : Stms → Pos → List Mark → Type 0) (b : Blocks) (pos : Pos) where
  -- a brace, a semicolon or a `range` right after the word, or a simple statement
  abbrev pub Header : List Mark → Type 0
  Header w = OpensFor K b pos forever w ⊎ (Next Semicolon (statement_depth b) (BehindFirst K b pos None) w ⊎ (NextAt Range (statement_depth b) (BehindRange K b (in_for pos) no_targets) w ⊎ InSimple K b (in_for pos) beginning w))

  simple_first : (w : List Mark) → OneSimple (context_of b (in_for pos)) (BehindSimple K b (in_for pos)) w → Header w
  simple_first w s = inr (inr (inr ((begins (context_of b (in_for pos)) (BehindSimple K b (in_for pos)) (BehindRange K b (in_for pos)) w).0 (inl s))))

  range_first : (w : List Mark) → Ranged (context_of b (in_for pos)) (BehindRange K b (in_for pos)) w → Header w
  range_first w r = inr (inr (inr ((begins (context_of b (in_for pos)) (BehindSimple K b (in_for pos)) (BehindRange K b (in_for pos)) w).0 (inr r))))

  -- ---- from the grammar

  counting_first : (i : Option Simple) (c : Option Ex) (p : Option Simple) (w m n rest : List Mark) → ReadsOptionalSimple (statement_depth b) i w (inside Semicolon (statement_depth b) ∷ m) → ReadsOptionalValue (statement_depth b) c m (inside Semicolon (statement_depth b) ∷ n) → ReadsPost (statement_depth b) p n rest → OpensFor K b pos (counting i c p) rest → Header w
  counting_first i c p w m n rest r v o f = to i r second
    where
      second : BehindFirst K b pos i m
      second = record { condition = c; rest = inside Semicolon (statement_depth b) ∷ n; reads = v; follows = record { rest = n; mark = refl; follows = record { post = p; rest = rest; reads = o; follows = f } } }

      to : (x : Option Simple) → ReadsOptionalSimple (statement_depth b) x w (inside Semicolon (statement_depth b) ∷ m) → BehindFirst K b pos x m → Header w
      to None read then = inr (inl (record { rest = m; mark = read; follows = then }))
      to (Some s) read then = simple_first w (record { whole = s; rest = inside Semicolon (statement_depth b) ∷ m; allowed = tt; reads = read; follows = inl (record { rest = m; mark = refl; follows = then }) })

  ranging_first : (t : Targets) (at : Pos) (e : Ex) (w m rest : List Mark) → ReadsTargets (statement_depth b) t w (inside (Range at) (statement_depth b) ∷ m) → ReadsValue false (statement_depth b) e m rest → OpensFor K b pos (ranging t at e) rest → Header w
  ranging_first no_targets at e w m rest r v f = inr (inr (inl (record { pos = at; rest = m; mark = r; follows = record { whole = e; rest = rest; reads = v; follows = f } })))
  ranging_first (targets_assigned ls q) at e w m rest r v f = range_first w (record { may = refl; targets = targets_assigned ls q; pos = at; rest = m; reads = r; follows = record { whole = e; rest = rest; reads = v; follows = f } })
  ranging_first (targets_defined xs q) at e w m rest r v f = range_first w (record { may = refl; targets = targets_defined xs q; pos = at; rest = m; reads = (refl, r); follows = record { whole = e; rest = rest; reads = v; follows = f } })

  clause_first : (c : Clause) (w m : List Mark) → ReadsClause (statement_depth b) c w m → OpensFor K b pos c m → Header w
  clause_first forever w m r f = inl (subst (λ (ts : List Mark). OpensFor K b pos forever ts) (sym r) f)
  clause_first (while_true e) w m r f = simple_first w (record { whole = express e; rest = m; allowed = tt; reads = r; follows = inr f })
  clause_first (counting i c p) w m r f = counting_first i c p w r.0 r.1 m r.2 r.3 r.4 f
  clause_first (ranging t at e) w m r f = ranging_first t at e w r.0 m r.1 r.2 f

  -- ---- and back

  -- after the init statement
  from_first : (i : Option Simple) (w m : List Mark) → ReadsOptionalSimple (statement_depth b) i w (inside Semicolon (statement_depth b) ∷ m) → BehindFirst K b pos i m → BehindFor K b pos w
  from_first i w m r f =
      let n = f.follows in
      let s = n.follows in
      record { clause = counting i f.condition s.post; rest = s.rest; reads = (m, n.rest, r, subst (λ (ts : List Mark). ReadsOptionalValue (statement_depth b) f.condition m ts) n.mark f.reads, s.reads); follows = s.follows }

  from_condition : (s : Simple) (w m : List Mark) → ReadsSimple false (statement_depth b) s w m → IsCondition (λ e n. OpensFor K b pos (while_true e) n) s m → BehindFor K b pos w
  from_condition (express e) w m r f = record { clause = while_true e; rest = m; reads = r; follows = f }
  from_condition s w m r f = absurd f

  from_simple : (s : Simple) (w m : List Mark) → ReadsSimple false (statement_depth b) s w m → BehindSimple K b (in_for pos) s m → BehindFor K b pos w
  from_simple s w m r f = elim f [
    | inl n ↦ from_first (Some s) w n.rest (subst (λ (ts : List Mark). ReadsSimple false (statement_depth b) s w ts) n.mark r) n.follows
    | inr c ↦ from_condition s w m r c
  ]

  from_range : (t : Targets) (at : Pos) (w m : List Mark) → ReadsTargets (statement_depth b) t w (inside (Range at) (statement_depth b) ∷ m) → BehindRange K b (in_for pos) t at m → BehindFor K b pos w
  from_range t at w m r v = record { clause = ranging t at v.whole; rest = v.rest; reads = (m, r, v.reads); follows = v.follows }

  from_targets : (t : Targets) (at : Pos) (w m : List Mark) → ReadsTarget (context_of b (in_for pos)) t w (inside (Range at) (statement_depth b) ∷ m) → BehindRange K b (in_for pos) t at m → BehindFor K b pos w
  from_targets no_targets at w m r v = absurd r
  from_targets (targets_assigned ls q) at w m r v = from_range (targets_assigned ls q) at w m r v
  from_targets (targets_defined xs q) at w m r v = from_range (targets_defined xs q) at w m r.1 v

  pub for_begins : (w : List Mark) → Iff (BehindFor K b pos w) (Header w)
  for_begins w = (
    λ h. clause_first h.clause w h.rest h.reads h.follows,
    λ h. elim h [
      | inl f ↦ record { clause = forever; rest = w; reads = refl; follows = f }
      | inr g ↦ elim g [
        | inl n ↦ from_first None w n.rest n.mark n.follows
        | inr i ↦ elim i [
          | inl n ↦ from_range no_targets n.pos w n.rest n.mark n.follows
          | inr s ↦ elim ((begins (context_of b (in_for pos)) (BehindSimple K b (in_for pos)) (BehindRange K b (in_for pos)) w).1 s) [
            | inl x ↦ from_simple x.whole w x.rest x.reads x.follows
            | inr r ↦ from_targets r.targets r.pos w r.rest r.reads r.follows
          ]
        ]
      ]
    ],
  )

  -- ---- the first terminal

  pub for_step : (t : Terminal) (j : ℕ) (w : List Mark) → Iff (Rest K (at_for b pos) (inside t j ∷ w)) (After K (step (at_for b pos) t) (statement_depth b) j w)
  for_step (LeftBrace q) j w =
      iff_trans _ _ _ (for_begins (inside (LeftBrace q) j ∷ w))
      (only_left _ _ _ (neither _ _ (next_other Semicolon _ _ (LeftBrace q) j w (λ is. cc)) (neither _ _ (next_at_other Range _ _ (LeftBrace q) j w (λ p is. cc)) (begins_other K b (in_for pos) (LeftBrace q) j w refl)))
      (next_at_read LeftBrace (statement_depth b) _ q j w (λ p is. cc)))
  for_step Semicolon j w =
      iff_trans _ _ _ (for_begins (inside Semicolon j ∷ w))
      (only_right _ _ _ (next_at_other LeftBrace _ _ Semicolon j w (λ p is. cc))
      (only_left _ _ _ (neither _ _ (next_at_other Range _ _ Semicolon j w (λ p is. cc)) (begins_other K b (in_for pos) Semicolon j w refl))
      (next_read Semicolon (statement_depth b) _ j w)))
  for_step (Range at) j w =
      iff_trans _ _ _ (for_begins (inside (Range at) j ∷ w))
      (only_right _ _ _ (next_at_other LeftBrace _ _ (Range at) j w (λ p is. cc))
      (only_right _ _ _ (next_other Semicolon _ _ (Range at) j w (λ is. cc))
      (only_left _ _ _ (begins_other K b (in_for pos) (Range at) j w refl)
      (iff_trans _ _ _ (next_at_read Range (statement_depth b) _ at j w (λ p is. cc)) (and_then _ _ _ (value_begins false (statement_depth b) _ w))))))
  for_step t j w =
      iff_trans _ _ _ (for_begins (inside t j ∷ w))
      (only_right _ _ _ (next_at_other LeftBrace _ _ t j w (λ p is. cc))
      (only_right _ _ _ (next_other Semicolon _ _ t j w (λ is. cc))
      (only_right _ _ _ (next_at_other Range _ _ t j w (λ p is. cc)) (begins_step K b (in_for pos) t j w))))
