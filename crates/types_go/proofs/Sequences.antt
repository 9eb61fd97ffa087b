-- The least fault of the statements of a block, from left to right, and their typed forms where all have one.
use Rattle.std.proofs.Common.{◌≡◌, ℕ, zero, suc, Bool, true, ◌+◌, ◌<◌, get_or, drop, List, [], ◌∷◌, ◌++◌, ◌⊎◌, inl, inr, Option, Some, None, refl, sym, ap, ◌∙◌, length, arith}
use Rattle.std.specs.Prelude.{option_and_then}
use Rattle.std.specs.Option.{option_map}
use Rattle.std.specs.Global.{Vec}
use Rattle.typed.specs.declared.stmt.Stmt.{Stmt}
use Rattle.typed.specs.View.{sts_of}
use Rattle.typed_syntax.specs.Syntax.{Sts, done}
use Rattle.std.proofs.Math.Seq.{drop-cons}
use Rattle.syntax.specs.declared.statement.Stmt.{Stmt as Tree}
use Rattle.base.specs.declared.pos.Pos.{Pos}
use Rattle.syntax.specs.Statements.{Guard, Clause, Stm, Stms, Els, if_stmt, for_stmt, nil, cons, stm_of, stms_of}
use Rattle.type_faults.specs.declared.fault.Fault.{Fault}
use Rattle.type_faults.specs.Least.{IsLeast, lesser}
use Rattle.type_faults.proofs.Leasts.{least_join, Covers, covers_left, covers_right, least_covers, Sound, sound_lesser, least_sound, is_least}
use Rattle.names.specs.Scope.{Scope, opened, closed}
use Rattle.simple_statements.specs.SimpleStatements.{Returns, before}
use Rattle.simple_statements.proofs.Sequences.{before_done, before_more, joined}
use Rattle.types_go.specs.Statements.{looping, body_opened, header, clause_scope, statement, statements, behind, behind_all}
use Rattle.types_go.specs.StatementFaults.{FailsInGuard, FailsInClause, FailsInStatement, FailsInStatements, FailsInElse}
use Rattle.types_go.specs.StatementPassing.{with_more}
use Rattle.types_go.proofs.StatementGrowth.{grows}

-- the statements from one on
pub split : (ss : List Tree) (i : ℕ) (s : Tree) → i < length ss → s ≡ get_or ss i s → stms_of (drop i ss) ≡ cons (stm_of s) (stms_of (drop (i + 1) ss))
split ss i s l is =
    let one : suc i ≡ i + 1 = omega arith in
    ap stms_of (drop-cons ss i s l) ∙ ap (λ x. cons (stm_of x) (stms_of (drop (suc i) ss))) (sym is) ∙ ap (λ j. cons (stm_of s) (stms_of (drop j ss))) one

pub nothing_left : (ss : List Tree) (i : ℕ) → (i < length ss → ⊥) → stms_of (drop i ss) ≡ nil
nothing_left [] zero h = refl
nothing_left [] (suc i) h = refl
nothing_left (s ∷ ss) zero h = absurd (h (omega arith))
nothing_left (s ∷ ss) (suc i) h = nothing_left ss i (λ l. h (omega (arith, l)))

-- What is kept is a fault of the whole; each fault of the whole is covered or still to come. The typed statements so far stand before
-- those to come, and what is after the whole is after the rest.
pub record KeptStatements (text : List ℕ) (r1 : Returns) (looped : Bool) (start : Scope) (all rest : Stms) (s : Scope) (values : Option (List Stmt)) (least : Option Fault) : Type 0 where
  pub sound : Sound (FailsInStatements text r1 looped start all) least
  pub covered : (g : Fault) → FailsInStatements text r1 looped start all g → Covers least g ⊎ FailsInStatements text r1 looped s rest g
  pub ahead : (g : Fault) → FailsInStatements text r1 looped s rest g → FailsInStatements text r1 looped start all g
  pub given : statements text r1 looped start all ≡ joined values (statements text r1 looped s rest)
  pub scope : behind_all text start all ≡ behind_all text s rest
  pub inside : 0 < length s.blocks

behind_none : (o : Option Sts) → o ≡ option_map (before done) o
behind_none None = refl
behind_none (Some r) = refl

module _ (text : List ℕ) (r1 : Returns) (looped : Bool) (start : Scope) (all : Stms) where
  pub at_start : 0 < length start.blocks → KeptStatements text r1 looped start all all start (Some []) None
  at_start inside = record {
    sound = tt;
    covered = λ g h. inr h;
    ahead = λ g h. h;
    given = behind_none (statements text r1 looped start all);
    scope = refl;
    inside = inside;
  }

  pub at_end : (s : Scope) (values : Option (List Stmt)) (least : Option Fault) → KeptStatements text r1 looped start all nil s values least → IsLeast (FailsInStatements text r1 looped start all) least
  at_end s values least k = is_least (FailsInStatements text r1 looped start all) least k.sound (λ g h. covers g (k.covered g h))
    where
      covers : (g : Fault) → Covers least g ⊎ FailsInStatements text r1 looped s nil g → Covers least g
      covers g (inl c) = c
      covers g (inr n) = absurd n

  pub given_all : (s : Scope) (values : Option (Vec Stmt)) (least : Option Fault) → KeptStatements text r1 looped start all nil s (option_map (λ v. v.items) values) least
      → option_map (λ v. sts_of v.items) values ≡ statements text r1 looped start all
  given_all s values least k = whole values ∙ sym k.given
    where
      whole : (o : Option (Vec Stmt)) → option_map (λ (v : Vec Stmt). sts_of v.items) o ≡ joined (option_map (λ (v : Vec Stmt). v.items) o) (Some done)
      whole None = refl
      whole (Some v) = ap Some (sym (before_done (sts_of v.items)))

-- more typed statements, before those to come
further : (values more : Option (List Stmt)) (t later : Option Sts) → option_map sts_of more ≡ t → joined values (option_and_then (λ x. option_map (before x) later) t) ≡ joined (with_more values more) later
further None more t later e = refl
further (Some v) None t later e = ap (λ i. option_map (before (sts_of v)) (option_and_then (λ x. option_map (before x) later) i)) (sym e)
further (Some v) (Some m) t later e = ap (λ i. option_map (before (sts_of v)) (option_and_then (λ y. option_map (before y) later) i)) (sym e) ∙ by later
  where
    by : (o : Option Sts) → option_map (before (sts_of v)) (option_map (before (sts_of m)) o) ≡ option_map (before (sts_of (v ++ m))) o
    by None = refl
    by (Some r) = ap Some (before_more v m r)

items_of : (o : Option (Vec Stmt)) → option_map sts_of (option_map (λ (v : Vec Stmt). v.items) o) ≡ option_map (λ (v : Vec Stmt). sts_of v.items) o
items_of None = refl
items_of (Some v) = refl

pub one_more : (text : List ℕ) (r1 : Returns) (looped : Bool) (start : Scope) (all : Stms) (m : Stm) (others : Stms) (s : Scope) (values : Option (List Stmt)) (lines : Option (Vec Stmt)) (least fault : Option Fault)
    → KeptStatements text r1 looped start all (cons m others) s values least → IsLeast (FailsInStatement text r1 looped s m) fault → option_map (λ v. sts_of v.items) lines ≡ statement text r1 looped s m
    → KeptStatements text r1 looped start all others (behind text s m) (with_more values (option_map (λ v. v.items) lines)) (lesser least fault)
one_more text r1 looped start all m others s values lines least fault k found e = record {
  sound = sound_lesser (FailsInStatements text r1 looped start all) least fault k.sound (least_sound (FailsInStatement text r1 looped s m) (FailsInStatements text r1 looped start all) fault found (λ f h. k.ahead f (inl h)));
  covered = λ g h. sorted g (k.covered g h);
  ahead = λ g h. k.ahead g (inr h);
  given = k.given ∙ further values (option_map (λ v. v.items) lines) (statement text r1 looped s m) (statements text r1 looped (behind text s m) others) (items_of lines ∙ e);
  scope = k.scope;
  inside = omega (arith, k.inside, (grows text s m).depth);
}
  where
    sorted : (g : Fault) → Covers least g ⊎ FailsInStatements text r1 looped s (cons m others) g → Covers (lesser least fault) g ⊎ FailsInStatements text r1 looped (behind text s m) others g
    sorted g (inl c) = inl (covers_left least fault g c)
    sorted g (inr (inl h)) = inl (covers_right least fault g (least_covers (FailsInStatement text r1 looped s m) fault g found h))
    sorted g (inr (inr h)) = inr h

module _ (text : List ℕ) (r1 : Returns) (looped : Bool) (s : Scope) (at : Pos) where
  -- an `if`: its header, its body, and what stands after them
  pub choice_least : (g : Guard) (body : Stms) (rest : Els) (a b c : Option Fault) → IsLeast (FailsInGuard text s at g) a → IsLeast (FailsInStatements text r1 looped (opened (header text s g.init)) body) b
      → IsLeast (FailsInElse text r1 looped (closed (behind_all text (opened (header text s g.init)) body)) rest) c → IsLeast (FailsInStatement text r1 looped s (if_stmt at g body rest)) (lesser (lesser a b) c)
  choice_least g body rest a b c x y z =
      least_join (λ f. FailsInGuard text s at g f ⊎ FailsInStatements text r1 looped (opened (header text s g.init)) body f) (FailsInElse text r1 looped (closed (behind_all text (opened (header text s g.init)) body)) rest) (lesser a b) c
      (least_join (FailsInGuard text s at g) (FailsInStatements text r1 looped (opened (header text s g.init)) body) a b x y) z

  -- a loop: its header and its body
  pub loop_least : (c : Clause) (body : Stms) (a b : Option Fault) → IsLeast (FailsInClause text (looping s c) at c) a → IsLeast (FailsInStatements text r1 true (body_opened (clause_scope text (looping s c) c)) body) b
      → IsLeast (FailsInStatement text r1 looped s (for_stmt at c body)) (lesser a b)
  loop_least c body a b x y = least_join (FailsInClause text (looping s c) at c) (FailsInStatements text r1 true (body_opened (clause_scope text (looping s c) c)) body) a b x y
