-- What each state of the machine of declarations says of the texts that begin with the marks over which it is reached.
use Rattle.std.proofs.Common.{◌≡◌, ℕ, true, List, [], ◌∷◌, ◌++◌, subst}
use Rattle.syntax.specs.Statements.{ValueSpec}
use Rattle.parse_expressions.specs.declared.terminal.Terminal.{Terminal}
use Rattle.parse_expressions.specs.declared.terminal.Terminal.TheVariants.{Operator, Period, LeftParen, LeftBracket, LeftBrace, Assign, Comma}
use Rattle.parse_expressions.specs.Grammar.{Mark, inside}
use Rattle.parse_expressions.proofs.Following.{Iff}
use Rattle.parse_simple_statements.specs.Grammar.{Declares}
use Rattle.parse_simple_statements.specs.ValueSpecs.{Specs, Progress, at_first, fails, goes, ends, step, nesting}
use Rattle.parse_simple_statements.specs.Laws.{SpecsTest, AreSpecs, SpecsLead, ExtendsSpecs, AreApart, SpecsForetell, SpecStatesForetell}
use Rattle.parse_simple_statements.proofs.ValueSpecsFollowing.{Rest, Valid, ValidNext, GoesOn, Apart, After}
use Rattle.parse_simple_statements.proofs.ValueSpecsBegins.{begins, begins_valid}
use Rattle.parse_simple_statements.proofs.ValueSpecsQuotient.{quotient}
use Rattle.parse_simple_statements.proofs.ValueSpecsViable.{valid_next, viable}

extends : (t : Terminal) → GoesOn t → ExtendsSpecs t
extends (Operator pos op) on = tt
extends (LeftParen pos) on = tt
extends (Period pos) on = tt
extends (LeftBracket pos) on = tt
extends (LeftBrace pos) on = tt
extends (Assign pos) on = tt
extends Comma on = tt
extends t on = on

-- what may follow the whole
abbrev May : SpecsTest → List ValueSpec → List Mark → Type 0
May test specs m = test specs m ≡ true

module _ (k : Declares) (d : ℕ) (test : SpecsTest) where
  pub record Reached (s : Specs) (ms : List Mark) (end : Specs) : Type 0 where
    pub valid : Valid d end
    pub same : (w : List Mark) → Iff (Rest k d (May test) s (ms ++ w)) (Rest k d (May test) end w)

  reached : Apart (May test) → (s : Specs) (ms : List Mark) (end : Specs) → Valid d s → SpecsLead k d s ms end → Reached s ms end
  reached apart s [] end valid is = subst (λ (x : Specs). Reached s [] x) is (record { valid = valid; same = λ w. (λ h. h, λ h. h) })
  reached apart s (inside t j ∷ ms) end valid l =
      let next : Valid d l.0 = subst (ValidNext d) l.1 (valid_next k d s t valid) in
      let r = reached apart l.0 ms end next l.3 in
      record {
        valid = r.valid;
        same = λ w.
            let q : Iff (Rest k d (May test) s (inside t j ∷ (ms ++ w))) (After k d (May test) (goes l.0) (nesting d s t) t j (ms ++ w)) =
            subst (λ (x : Progress). Iff (Rest k d (May test) s (inside t j ∷ (ms ++ w))) (After k d (May test) x (nesting d s t) t j (ms ++ w))) l.1 (quotient k d (May test) s t j (ms ++ w) valid apart) in
            (λ h. (r.same w).0 (q.0 h).1, λ h. q.1 (l.2, (r.same w).1 h));
      }

  module _ (apart : AreApart test) where
    follows_apart : Apart (May test)
    follows_apart = record { never = λ specs t j w on h. apart specs t j w (extends t on) h }

    -- the texts that begin with the marks are those that may follow in the state
    texts : (ms : List Mark) (s : Specs) → SpecsLead k d at_first ms s → (w : List Mark) → Iff (AreSpecs k d test (ms ++ w)) (Rest k d (May test) s w)
    texts ms s l w =
        let r = reached follows_apart at_first ms s (begins_valid d) l in
        let t = begins k d (May test) (ms ++ w) in
        (λ h. (r.same w).0 (t.0 h), λ h. t.1 ((r.same w).1 h))

    state_valid : (ms : List Mark) (s : Specs) → SpecsLead k d at_first ms s → Valid d s
    state_valid ms s l = (reached follows_apart at_first ms s (begins_valid d) l).valid

    -- the texts that go on with a terminal, by what the machine does at it
    divided : (ms : List Mark) (s : Specs) → SpecsLead k d at_first ms s → (t : Terminal) (j : ℕ) (w : List Mark) (next : Progress) → step k d s t ≡ next → Iff (AreSpecs k d test (ms ++ inside t j ∷ w)) (After k d (May test) next (nesting d s t) t j w)
    divided ms s l t j w next is =
        let q = subst (λ (x : Progress). Iff (Rest k d (May test) s (inside t j ∷ w)) (After k d (May test) x (nesting d s t) t j w)) is (quotient k d (May test) s t j w (state_valid ms s l) follows_apart) in
        let x = texts ms s l (inside t j ∷ w) in
        (λ h. q.0 (x.0 h), λ h. x.1 (q.1 h))

    foretells : (ms : List Mark) (s : Specs) → SpecsLead k d at_first ms s → SpecsForetell k d test ms s
    foretells ms s l = record {
      failed = λ t j w is h. (divided ms s l t j w fails is).0 h;
      nested = λ t j w next is h. ((divided ms s l t j w (goes next) is).0 h).0;
      ended = λ t j w specs is h. (divided ms s l t j w (ends specs) is).0 h;
      whole = λ t j w specs is h. (divided ms s l t j w (ends specs) is).1 h;
      alike = λ other w m h. (texts other s m w).1 ((texts ms s l w).0 h);
      viable = λ some. let v = viable k d (May test) s (state_valid ms s l) some in (v.0, (texts ms s l v.0).1 v.1);
    }

pub spec_states_foretell : SpecStatesForetell
spec_states_foretell k d test ms s apart l = foretells k d test apart ms s l
