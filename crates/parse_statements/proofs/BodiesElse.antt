-- A terminal after the first body of an `if`, or after its `else`, divides the texts by it from the left.
use Rattle.std.proofs.Common.{◌≡◌, ℕ, suc, List, ◌∷◌, refl, sym, subst}
use Rattle.base.specs.declared.pos.Pos.{Pos}
use Rattle.syntax.specs.Statements.{Stms, Els, no_else, else_block, else_if}
use Rattle.parse_expressions.specs.declared.terminal.Terminal.{Terminal}
use Rattle.parse_expressions.specs.declared.terminal.Terminal.TheVariants.{If, Else, LeftBrace}
use Rattle.parse_expressions.specs.Grammar.{Mark, inside}
use Rattle.parse_expressions.proofs.Following.{Iff}
use Rattle.parse_statements.specs.Grammar.{ReadsGuard, IsElse, absent, otherwise, otherwise_if}
use Rattle.parse_statements.specs.Outer.{Branch, in_else, chain_depth, whole_if, Blocks, statement_depth, with_statement, within}
use Rattle.parse_statements.specs.Bodies.{at_then, at_else, step, nesting}
use Rattle.parse_simple_statements.proofs.Marks.{iff_trans}
use Rattle.parse_statements.proofs.BodiesFollowing.{BehindStm, InBody, BehindIf, WholeIf, Rest, After}
use Rattle.parse_statements.proofs.BodiesEnds.{stop_step, stop_other}

module _ (K : Stms → Pos → List Mark → Type 0) (b : Blocks) (bs : List Branch) (last : Branch) where
  abbrev D : ℕ
  D = chain_depth bs (statement_depth b)

  -- ---- after the first body

  then_else : (j : ℕ) (w : List Mark) → Iff (Rest K (at_then b bs last) (inside Else j ∷ w)) ((j ≡ D) × Rest K (at_else b bs last) w)
  then_else j w = (
    λ h. to j w h.whole h.rest h.reads h.follows,
    λ h. subst (λ (i : ℕ). Rest K (at_then b bs last) (inside Else i ∷ w)) (sym h.0) h.1,
  )
    where
      to : (i : ℕ) (v : List Mark) (e : Els) (m : List Mark) → IsElse D e (inside Else i ∷ v) m → WholeIf K b bs last e m → (i ≡ D) × Rest K (at_else b bs last) v
      to i v _ _ absent f = absurd (stop_other K (with_statement b (whole_if bs last no_else)) Else i v (λ is. cc) (λ q is. cc) f)
      to _ _ e m (otherwise body) f = (refl, record { whole = e; rest = m; reads = otherwise body; follows = f })
      to _ _ e m (otherwise_if q guard body els) f = (refl, record { whole = e; rest = m; reads = otherwise_if q guard body els; follows = f })

  then_other : (t : Terminal) (j : ℕ) (w : List Mark) → (t ≡ Else → ⊥) → Iff (Rest K (at_then b bs last) (inside t j ∷ w)) (BehindStm K (with_statement b (whole_if bs last no_else)) (inside t j ∷ w))
  then_other t j w other = (λ h. to t j w other h.whole h.rest h.reads h.follows, λ h. record { whole = no_else; rest = inside t j ∷ w; reads = absent; follows = h })
    where
      to : (x : Terminal) (i : ℕ) (v : List Mark) → (x ≡ Else → ⊥) → (e : Els) (m : List Mark) → IsElse D e (inside x i ∷ v) m → WholeIf K b bs last e m → BehindStm K (with_statement b (whole_if bs last no_else)) (inside x i ∷ v)
      to x i v never _ _ absent f = f
      to _ i v never e m (otherwise body) f = absurd (never refl)
      to _ i v never e m (otherwise_if q guard body els) f = absurd (never refl)

  pub then_step : (t : Terminal) (j : ℕ) (w : List Mark) → Iff (Rest K (at_then b bs last) (inside t j ∷ w)) (After K (step (at_then b bs last) t) (nesting (at_then b bs last) t) j w)
  then_step Else j w = then_else j w
  then_step t j w = iff_trans _ _ _ (then_other t j w (λ is. cc)) (stop_step K (with_statement b (whole_if bs last no_else)) t j w)

  -- ---- after its `else`

  else_brace : (q : Pos) (j : ℕ) (w : List Mark) → Iff (Rest K (at_else b bs last) (inside (LeftBrace q) j ∷ w)) ((j ≡ D) × InBody K (within b (in_else b.done bs last)) w)
  else_brace q j w = (
    λ h. to D j h.whole h.rest h.reads h.follows,
    λ h. let body = h.1 in subst (λ (i : ℕ). Rest K (at_else b bs last) (inside (LeftBrace q) i ∷ w)) (sym h.0) (record { whole = else_block body.others; rest = body.rest; reads = otherwise body.reads; follows = body.follows }),
  )
    where
      to : (n i : ℕ) (e : Els) (m : List Mark) → IsElse D e (inside Else n ∷ inside (LeftBrace q) i ∷ w) m → WholeIf K b bs last e m → (i ≡ D) × InBody K (within b (in_else b.done bs last)) w
      to n i _ _ absent f = absurd (stop_other K (with_statement b (whole_if bs last no_else)) Else n (inside (LeftBrace q) i ∷ w) (λ is. cc) (λ p is. cc) f)
      to _ _ _ m (otherwise {ss = ss} {end = end} body) f = (refl, record { others = ss; end = end; rest = m; reads = body; follows = f })

  else_if_read : (q : Pos) (j : ℕ) (w : List Mark) → Iff (Rest K (at_else b bs last) (inside (If q) j ∷ w)) ((j ≡ suc D) × BehindIf K b (last ∷ bs) q w)
  else_if_read q j w = (
    λ h. to D j h.whole h.rest h.reads h.follows,
    λ h.
        let i = h.1 in
        let o = i.follows in
        let body = o.follows in
        let e = body.follows in
        subst (λ (n : ℕ). Rest K (at_else b bs last) (inside (If q) n ∷ w)) (sym h.0)
        (record { whole = else_if q i.guard body.others e.whole; rest = e.rest; reads = otherwise_if o.pos (subst (λ (ts : List Mark). ReadsGuard (suc D) i.guard w ts) o.mark i.reads) body.reads e.reads; follows = e.follows }),
  )
    where
      to : (n i : ℕ) (e : Els) (m : List Mark) → IsElse D e (inside Else n ∷ inside (If q) i ∷ w) m → WholeIf K b bs last e m → (i ≡ suc D) × BehindIf K b (last ∷ bs) q w
      to n i _ _ absent f = absurd (stop_other K (with_statement b (whole_if bs last no_else)) Else n (inside (If q) i ∷ w) (λ is. cc) (λ p is. cc) f)
      to _ _ _ m (otherwise_if {g = g} {ss = ss} {end = end} {e = e} {k = k} {n = n} p guard body els) f =
          (refl, record { guard = g; rest = inside (LeftBrace p) (suc D) ∷ k; reads = guard; follows = record { pos = p; rest = k; mark = refl; follows = record { others = ss; end = end; rest = n; reads = body; follows = record { whole = e; rest = m; reads = els; follows = f } } } })

  else_other : (t : Terminal) (j : ℕ) (w : List Mark) → ((q : Pos) → t ≡ LeftBrace q → ⊥) → ((q : Pos) → t ≡ If q → ⊥) → Rest K (at_else b bs last) (inside t j ∷ w) → ⊥
  else_other t j w not_brace not_if h = to D t j w not_brace not_if h.whole h.rest h.reads h.follows
    where
      to : (n : ℕ) (x : Terminal) (i : ℕ) (v : List Mark) → ((q : Pos) → x ≡ LeftBrace q → ⊥) → ((q : Pos) → x ≡ If q → ⊥) → (e : Els) (m : List Mark) → IsElse D e (inside Else n ∷ inside x i ∷ v) m → WholeIf K b bs last e m → ⊥
      to n x i v never nor _ _ absent f = stop_other K (with_statement b (whole_if bs last no_else)) Else n (inside x i ∷ v) (λ is. cc) (λ p is. cc) f
      to _ _ _ v never nor _ m (otherwise {q = q} body) f = never q refl
      to _ _ _ v never nor _ m (otherwise_if {pos = q} p guard body els) f = nor q refl

  pub else_step : (t : Terminal) (j : ℕ) (w : List Mark) → Iff (Rest K (at_else b bs last) (inside t j ∷ w)) (After K (step (at_else b bs last) t) (nesting (at_else b bs last) t) j w)
  else_step (LeftBrace q) j w = else_brace q j w
  else_step (If q) j w = else_if_read q j w
  else_step t j w = (λ h. absurd (else_other t j w (λ q is. cc) (λ q is. cc) h), λ h. absurd h)
