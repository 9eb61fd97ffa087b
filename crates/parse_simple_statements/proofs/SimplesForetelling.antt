-- What each state of the machine of simple statements says of the texts that begin with the marks over which it is reached.
use Rattle.std.proofs.Common.{◌≡◌, ℕ, true, List, [], ◌∷◌, ◌++◌, ◌⊎◌, inl, inr, refl, subst}
use Rattle.base.specs.declared.pos.Pos.{Pos}
use Rattle.syntax.specs.Statements.{Simple, Targets}
use Rattle.parse_expressions.specs.declared.terminal.Terminal.{Terminal}
use Rattle.parse_expressions.specs.declared.terminal.Terminal.TheVariants.{Operator, Assign, Update, Define, Increment, Decrement, Comma, Period, LeftParen, LeftBracket, LeftBrace}
use Rattle.parse_expressions.specs.Grammar.{Mark, inside}
use Rattle.parse_expressions.proofs.Following.{Iff}
use Rattle.parse_simple_statements.specs.Simples.{Context, Simples, Progress, beginning, fails, goes, ends, ranges, step, nesting}
use Rattle.parse_simple_statements.specs.Laws.{SimpleTests, IsSimple, SimplesLead, ExtendsSimple, IsApart, SimplesForetell, SimpleStatesForetell}
use Rattle.parse_simple_statements.proofs.SimplesFollowing.{OneSimple, Ranged, Rest, Valid, ValidNext, GoesOn, Apart, After}
use Rattle.parse_simple_statements.proofs.SimplesBegins.{begins, begins_valid}
use Rattle.parse_simple_statements.proofs.SimplesQuotient.{quotient}
use Rattle.parse_simple_statements.proofs.SimplesViable.{valid_next, viable}

extends : (p : Context) (t : Terminal) → GoesOn p t → ExtendsSimple p t
extends p (Operator pos op) on = tt
extends p (LeftParen pos) on = tt
extends p (Period pos) on = tt
extends p (LeftBracket pos) on = tt
extends p (LeftBrace pos) on = on
extends p Comma on = tt
extends p (Assign pos) on = tt
extends p (Update pos op) on = tt
extends p (Define pos) on = tt
extends p (Increment pos) on = tt
extends p (Decrement pos) on = tt
extends p t on = on

-- what may follow the whole, and what a `range`
abbrev May : SimpleTests → Simple → List Mark → Type 0
May tests s m = tests.after_whole s m ≡ true

abbrev MayRange : SimpleTests → Targets → Pos → List Mark → Type 0
MayRange tests x pos m = tests.after_range x pos m ≡ true

module _ (p : Context) (tests : SimpleTests) where
  starts : (w : List Mark) → Iff (IsSimple p tests w) (OneSimple p (May tests) w ⊎ Ranged p (MayRange tests) w)
  starts w = (
    λ h. elim h [
      | inl s ↦ inl (record { whole = s.whole; rest = s.rest; allowed = s.allowed; reads = s.reads; follows = s.follows })
      | inr r ↦ inr (record { may = r.may; targets = r.targets; pos = r.pos; rest = r.rest; reads = r.reads; follows = r.follows })
    ],
    λ h. elim h [
      | inl s ↦ inl (record { whole = s.whole; rest = s.rest; allowed = s.allowed; reads = s.reads; follows = s.follows })
      | inr r ↦ inr (record { may = r.may; targets = r.targets; pos = r.pos; rest = r.rest; reads = r.reads; follows = r.follows })
    ],
  )

  pub record Reached (s : Simples) (ms : List Mark) (end : Simples) : Type 0 where
    pub valid : Valid p end
    pub same : (w : List Mark) → Iff (Rest p (May tests) (MayRange tests) s (ms ++ w)) (Rest p (May tests) (MayRange tests) end w)

  reached : Apart p (May tests) → (s : Simples) (ms : List Mark) (end : Simples) → Valid p s → SimplesLead p s ms end → Reached s ms end
  reached apart s [] end valid is = subst (λ (x : Simples). Reached s [] x) is (record { valid = valid; same = λ w. (λ h. h, λ h. h) })
  reached apart s (inside t j ∷ ms) end valid l =
      let next : Valid p l.0 = subst (ValidNext p) l.1 (valid_next p s t valid) in
      let r = reached apart l.0 ms end next l.3 in
      record {
        valid = r.valid;
        same = λ w.
            let q : Iff (Rest p (May tests) (MayRange tests) s (inside t j ∷ (ms ++ w))) (After p (May tests) (MayRange tests) (goes l.0) (nesting p s t) t j (ms ++ w)) =
            subst (λ (x : Progress). Iff (Rest p (May tests) (MayRange tests) s (inside t j ∷ (ms ++ w))) (After p (May tests) (MayRange tests) x (nesting p s t) t j (ms ++ w))) l.1 (quotient p (May tests) (MayRange tests) s t j (ms ++ w) valid apart) in
            (λ h. (r.same w).0 (q.0 h).1, λ h. q.1 (l.2, (r.same w).1 h));
      }

  module _ (apart : IsApart p tests) where
    follows_apart : Apart p (May tests)
    follows_apart = record { never = λ s t j w on h. apart s t j w (extends p t on) h }

    -- the texts that begin with the marks are those that may follow in the state
    texts : (ms : List Mark) (s : Simples) → SimplesLead p beginning ms s → (w : List Mark) → Iff (IsSimple p tests (ms ++ w)) (Rest p (May tests) (MayRange tests) s w)
    texts ms s l w =
        let r = reached follows_apart beginning ms s (begins_valid p) l in
        let t = begins p (May tests) (MayRange tests) (ms ++ w) in
        let u = starts (ms ++ w) in
        (λ h. (r.same w).0 (t.0 (u.0 h)), λ h. u.1 (t.1 ((r.same w).1 h)))

    state_valid : (ms : List Mark) (s : Simples) → SimplesLead p beginning ms s → Valid p s
    state_valid ms s l = (reached follows_apart beginning ms s (begins_valid p) l).valid

    -- the texts that go on with a terminal, by what the machine does at it
    divided : (ms : List Mark) (s : Simples) → SimplesLead p beginning ms s → (t : Terminal) (j : ℕ) (w : List Mark) (next : Progress) → step p s t ≡ next → Iff (IsSimple p tests (ms ++ inside t j ∷ w)) (After p (May tests) (MayRange tests) next (nesting p s t) t j w)
    divided ms s l t j w next is =
        let q = subst (λ (x : Progress). Iff (Rest p (May tests) (MayRange tests) s (inside t j ∷ w)) (After p (May tests) (MayRange tests) x (nesting p s t) t j w)) is (quotient p (May tests) (MayRange tests) s t j w (state_valid ms s l) follows_apart) in
        let x = texts ms s l (inside t j ∷ w) in
        (λ h. q.0 (x.0 h), λ h. x.1 (q.1 h))

    foretells : (ms : List Mark) (s : Simples) → SimplesLead p beginning ms s → SimplesForetell p tests ms s
    foretells ms s l = record {
      failed = λ t j w is h. (divided ms s l t j w fails is).0 h;
      nested = λ t j w next is h. ((divided ms s l t j w (goes next) is).0 h).0;
      ended = λ t j w x is h. (divided ms s l t j w (ends x) is).0 h;
      whole = λ t j w x is h. (divided ms s l t j w (ends x) is).1 h;
      ranged = λ t j w x pos is h. (divided ms s l t j w (ranges x pos) is).0 h;
      range = λ t w x pos is h. (divided ms s l t (nesting p s t) w (ranges x pos) is).1 (refl, h);
      alike = λ other w m h. (texts other s m w).1 ((texts ms s l w).0 h);
      viable = λ some. let v = viable p (May tests) (MayRange tests) s (state_valid ms s l) some in (v.0, (texts ms s l v.0).1 v.1);
    }

pub simple_states_foretell : SimpleStatesForetell
simple_states_foretell p tests ms s apart l = foretells p tests apart ms s l
