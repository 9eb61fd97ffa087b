-- A terminal where a statement ends divides the texts by it from the left.
use Rattle.std.proofs.Common.{◌≡◌, ℕ, suc, List, [], ◌∷◌, refl, sym, ap, subst}
use Rattle.base.specs.declared.pos.Pos.{Pos}
use Rattle.syntax.specs.Statements.{Stms, nil, cons}
use Rattle.syntax.specs.Lists.{joined}
use Rattle.parse_expressions.specs.declared.terminal.Terminal.{Terminal}
use Rattle.parse_expressions.specs.declared.terminal.Terminal.TheVariants.{Semicolon, RightBrace}
use Rattle.parse_expressions.specs.Grammar.{Mark, inside}
use Rattle.parse_expressions.proofs.Following.{Iff}
use Rattle.parse_statements.specs.Outer.{Outer, in_block, in_loop, in_then, in_else, brace_depth, Blocks}
use Rattle.parse_statements.specs.Bodies.{up, stop, nesting_at_stop}
use Rattle.parse_simple_statements.proofs.Marks.{iff_same, iff_trans}
use Rattle.parse_statements.proofs.BodiesFollowing.{Tail, brace, semi, StmEnds, StmBegins, Up, BehindStm, After}

pub joined_none : (a : Stms) → joined a nil ≡ a
joined_none nil = refl
joined_none (cons s a) = ap (cons s) (joined_none a)

module _ (d : ℕ) (done : Stms) (Then : Stms → Pos → List Mark → Type 0) where
  stm_semicolon : (j : ℕ) (w : List Mark) → Iff (StmEnds d done Then (inside Semicolon j ∷ w)) ((j ≡ suc d) × StmBegins d done Then w)
  stm_semicolon j w = (
    λ h. to j h.others h.end h.rest h.reads h.follows,
    λ h. let b = h.1 in subst (λ (i : ℕ). StmEnds d done Then (inside Semicolon i ∷ w)) (sym h.0) (record { others = b.others; end = b.end; rest = b.rest; reads = semi b.reads; follows = b.follows }),
  )
    where
      to : (i : ℕ) (ss : Stms) (q : Pos) (k : List Mark) → Tail d ss q (inside Semicolon i ∷ w) k → Then (joined done ss) q k → (i ≡ suc d) × StmBegins d done Then w
      to _ ss q k (semi b) f = (refl, record { others = ss; end = q; rest = k; reads = b; follows = f })

  stm_brace : (q : Pos) (j : ℕ) (w : List Mark) → Iff (StmEnds d done Then (inside (RightBrace q) j ∷ w)) ((j ≡ d) × Then done q w)
  stm_brace q j w = (
    λ h. to q j w h.others h.end h.rest h.reads h.follows,
    λ h. subst (λ (i : ℕ). StmEnds d done Then (inside (RightBrace q) i ∷ w)) (sym h.0) (record { others = nil; end = q; rest = w; reads = brace; follows = subst (λ (ss : Stms). Then ss q w) (sym (joined_none done)) h.1 }),
  )
    where
      to : (p : Pos) (i : ℕ) (v : List Mark) (ss : Stms) (end : Pos) (k : List Mark) → Tail d ss end (inside (RightBrace p) i ∷ v) k → Then (joined done ss) end k → (i ≡ d) × Then done p v
      to p _ v _ _ _ brace f = (refl, subst (λ (ss : Stms). Then ss p v) (joined_none done) f)

  -- a statement does not end at any other terminal
  pub stm_other : (t : Terminal) (j : ℕ) (w : List Mark) → (t ≡ Semicolon → ⊥) → ((q : Pos) → t ≡ RightBrace q → ⊥) → StmEnds d done Then (inside t j ∷ w) → ⊥
  stm_other t j w not_semi not_brace h = to t j w h.others h.end h.rest not_semi not_brace h.reads
    where
      to : (x : Terminal) (i : ℕ) (v : List Mark) (ss : Stms) (end : Pos) (k : List Mark) → (x ≡ Semicolon → ⊥) → ((q : Pos) → x ≡ RightBrace q → ⊥) → Tail d ss end (inside x i ∷ v) k → ⊥
      to _ i v _ end k never nor brace = nor end refl
      to _ i v ss end k never nor (semi b) = never refl

  pub stm_some : StmEnds d done Then [] → ⊥
  stm_some h = to h.others h.end h.rest h.reads
    where
      to : (ss : Stms) (end : Pos) (k : List Mark) → Tail d ss end [] k → ⊥
      to ss end k t = elim t [ ]

module _ (K : Stms → Pos → List Mark → Type 0) where
  -- the state after a block allows what may follow the block
  up_is : (os : List Outer) (ss : Stms) (q : Pos) (n j : ℕ) (w : List Mark) → Iff ((j ≡ n) × Up K os ss q w) (After K (up os ss q) n j w)
  up_is [] ss q n j w = iff_same _
  up_is (in_block done ∷ os) ss q n j w = iff_same _
  up_is (in_loop done pos c ∷ os) ss q n j w = iff_same _
  up_is (in_then done bs pos g ∷ os) ss q n j w = iff_same _
  up_is (in_else done bs b ∷ os) ss q n j w = iff_same _

  pub closes_block : (b : Blocks) (q : Pos) (j : ℕ) (w : List Mark) → Iff ((j ≡ brace_depth b.outer) × Up K b.outer b.done q w) (After K (stop b (RightBrace q)) (brace_depth b.outer) j w)
  closes_block b q j w = up_is b.outer b.done q (brace_depth b.outer) j w

  pub stop_step : (b : Blocks) (t : Terminal) (j : ℕ) (w : List Mark) → Iff (BehindStm K b (inside t j ∷ w)) (After K (stop b t) (nesting_at_stop b t) j w)
  stop_step b Semicolon j w = stm_semicolon (brace_depth b.outer) b.done (Up K b.outer) j w
  stop_step b (RightBrace q) j w = iff_trans _ _ _ (stm_brace (brace_depth b.outer) b.done (Up K b.outer) q j w) (closes_block b q j w)
  stop_step b t j w = (λ h. absurd (stm_other (brace_depth b.outer) b.done (Up K b.outer) t j w (λ e. cc) (λ q e. cc) h), λ h. absurd h)

  pub stop_other : (b : Blocks) (t : Terminal) (j : ℕ) (w : List Mark) → (t ≡ Semicolon → ⊥) → ((q : Pos) → t ≡ RightBrace q → ⊥) → BehindStm K b (inside t j ∷ w) → ⊥
  stop_other b t j w not_semi not_brace h = stm_other (brace_depth b.outer) b.done (Up K b.outer) t j w not_semi not_brace h

  pub stop_some : (b : Blocks) → BehindStm K b [] → ⊥
  stop_some b h = stm_some (brace_depth b.outer) b.done (Up K b.outer) h
