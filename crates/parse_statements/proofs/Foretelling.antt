-- What each state says of the texts that begin with the marks over which it is reached.
use Rattle.std.proofs.Common.{◌≡◌, ℕ, true, List, [], ◌∷◌, ◌++◌, refl, subst}
use Rattle.base.specs.declared.pos.Pos.{Pos}
use Rattle.syntax.specs.Statements.{Stms}
use Rattle.parse_expressions.specs.declared.terminal.Terminal.{Terminal}
use Rattle.parse_expressions.specs.Grammar.{Mark, inside}
use Rattle.parse_expressions.proofs.Following.{Iff}
use Rattle.parse_statements.specs.Bodies.{State, Progress, fails, goes, ends, step, nesting}
use Rattle.parse_statements.specs.Laws.{Test, beginning, IsText, Leads, Foretells, StatesForetell}
use Rattle.parse_statements.proofs.BodiesFollowing.{Rest, Valid, ValidNext, After}
use Rattle.parse_statements.proofs.BodiesBegins.{begins, begins_valid}
use Rattle.parse_statements.proofs.BodiesQuotient.{quotient}
use Rattle.parse_statements.proofs.BodiesViable.{valid_next, viable}

-- what may follow the whole
abbrev May : Test → Stms → Pos → List Mark → Type 0
May test ss end m = test ss end m ≡ true

module _ (test : Test) where
  pub record Reached (s : State) (ms : List Mark) (last : State) : Type 0 where
    pub valid : Valid last
    pub same : (w : List Mark) → Iff (Rest (May test) s (ms ++ w)) (Rest (May test) last w)

  reached : (s : State) (ms : List Mark) (last : State) → Valid s → Leads s ms last → Reached s ms last
  reached s [] last valid is = subst (λ (x : State). Reached s [] x) is (record { valid = valid; same = λ w. (λ h. h, λ h. h) })
  reached s (inside t j ∷ ms) last valid l =
      let next : Valid l.0 = subst ValidNext l.1 (valid_next s t valid) in
      let r = reached l.0 ms last next l.3 in
      record {
        valid = r.valid;
        same = λ w.
            let q : Iff (Rest (May test) s (inside t j ∷ (ms ++ w))) (After (May test) (goes l.0) (nesting s t) j (ms ++ w)) =
            subst (λ (x : Progress). Iff (Rest (May test) s (inside t j ∷ (ms ++ w))) (After (May test) x (nesting s t) j (ms ++ w))) l.1 (quotient (May test) s t j (ms ++ w) valid) in
            (λ h. (r.same w).0 (q.0 h).1, λ h. q.1 (l.2, (r.same w).1 h));
      }

  -- the texts that begin with the marks are those that may follow in the state
  texts : (ms : List Mark) (s : State) → Leads beginning ms s → (w : List Mark) → Iff (IsText test (ms ++ w)) (Rest (May test) s w)
  texts ms s l w =
      let r = reached beginning ms s begins_valid l in
      let t = begins (May test) (ms ++ w) in
      (λ h. (r.same w).0 (t.0 h), λ h. t.1 ((r.same w).1 h))

  state_valid : (ms : List Mark) (s : State) → Leads beginning ms s → Valid s
  state_valid ms s l = (reached beginning ms s begins_valid l).valid

  -- the texts that go on with a terminal, by what the machine does at it
  divided : (ms : List Mark) (s : State) → Leads beginning ms s → (t : Terminal) (j : ℕ) (w : List Mark) (next : Progress) → step s t ≡ next → Iff (IsText test (ms ++ inside t j ∷ w)) (After (May test) next (nesting s t) j w)
  divided ms s l t j w next is =
      let q = subst (λ (x : Progress). Iff (Rest (May test) s (inside t j ∷ w)) (After (May test) x (nesting s t) j w)) is (quotient (May test) s t j w (state_valid ms s l)) in
      let x = texts ms s l (inside t j ∷ w) in
      (λ h. q.0 (x.0 h), λ h. x.1 (q.1 h))

  foretells : (ms : List Mark) (s : State) → Leads beginning ms s → Foretells test ms s
  foretells ms s l = record {
    failed = λ t j w is h. (divided ms s l t j w fails is).0 h;
    nested = λ t j w next is h. ((divided ms s l t j w (goes next) is).0 h).0;
    ended = λ t j w ss end is h. (divided ms s l t j w (ends ss end) is).0 h;
    whole = λ t w ss end is h. (divided ms s l t (nesting s t) w (ends ss end) is).1 (refl, h);
    alike = λ other w k h. (texts other s k w).1 ((texts ms s l w).0 h);
    viable = λ some. let v = viable (May test) s (state_valid ms s l) some in (v.0, (texts ms s l v.0).1 v.1);
  }

pub states_foretell : StatesForetell
states_foretell test ms s l = foretells test ms s l
