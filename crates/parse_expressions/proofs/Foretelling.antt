-- What each state says of the texts that begin with the marks over which it is reached.
use Rattle.std.proofs.Common.{◌≡◌, ℕ, Bool, true, false, List, [], ◌∷◌, ◌++◌, refl, subst}
use Rattle.syntax.specs.Expressions.{Ex}
use Rattle.parse_expressions.specs.declared.terminal.Terminal.{Terminal}
use Rattle.parse_expressions.specs.declared.terminal.Terminal.TheVariants.{Operator, Period, LeftParen, LeftBracket, LeftBrace}
use Rattle.parse_expressions.specs.Grammar.{Mark, inside, IsValue}
use Rattle.parse_expressions.specs.Machine.{Context, Open, Progress, fails, goes, ends, step, nesting}
use Rattle.parse_expressions.specs.Laws.{Test, ReadsPart, beginning, IsText, Leads, Extends, IsApart, Foretells, StatesForetell}
use Rattle.parse_expressions.proofs.Following.{Rest, ValidOpen, ValidNext, GoesOn, Apart, After, Iff}
use Rattle.parse_expressions.proofs.Starts.{begins, begins_type, begins_valid, begins_type_valid}
use Rattle.parse_expressions.proofs.Quotient.{quotient}
use Rattle.parse_expressions.proofs.Viable.{valid_next, viable}

extends : (b : Context) (t : Terminal) → GoesOn b t → Extends b t
extends b (Operator pos op) on = tt
extends b (LeftParen pos) on = tt
extends b (Period pos) on = tt
extends b (LeftBracket pos) on = tt
extends b (LeftBrace pos) on = on
extends b t on = on

-- what may follow the whole
abbrev May : Test → Ex → List Mark → Type 0
May test e m = test e m ≡ true

module _ (b : Context) (test : Test) where
  text_begins : (types : Bool) → b.types ≡ types → (w : List Mark) → Iff ((e : Ex) × (rest : List Mark) × ReadsPart types b.literals b.depth e w rest × May test e rest) (Rest b (May test) (beginning types) w)
  text_begins true is w = begins_type b (May test) w is
  text_begins false is w = begins b (May test) w is

  start_valid : (types : Bool) → b.types ≡ types → ValidOpen b (beginning types)
  start_valid true is = begins_type_valid b is
  start_valid false is = begins_valid b is

  pub record Reached (s : Open) (ms : List Mark) (end : Open) : Type 0 where
    pub valid : ValidOpen b end
    pub same : (w : List Mark) → Iff (Rest b (May test) s (ms ++ w)) (Rest b (May test) end w)

  reached : Apart b (May test) → (s : Open) (ms : List Mark) (end : Open) → ValidOpen b s → Leads b s ms end → Reached s ms end
  reached apart s [] end valid is = subst (λ (x : Open). Reached s [] x) is (record { valid = valid; same = λ w. (λ h. h, λ h. h) })
  reached apart s (inside t j ∷ ms) end valid l =
      let next : ValidOpen b l.0 = subst (ValidNext b) l.1 (valid_next b s t valid) in
      let r = reached apart l.0 ms end next l.3 in
      record {
        valid = r.valid;
        same = λ w.
            let q : Iff (Rest b (May test) s (inside t j ∷ (ms ++ w))) (After b (May test) (goes l.0) (nesting b s t) t j (ms ++ w)) =
            subst (λ (x : Progress). Iff (Rest b (May test) s (inside t j ∷ (ms ++ w))) (After b (May test) x (nesting b s t) t j (ms ++ w))) l.1 (quotient b (May test) s t j (ms ++ w) valid apart) in
            (λ h. (r.same w).0 (q.0 h).1, λ h. q.1 (l.2, (r.same w).1 h));
      }

  module _ (apart : IsApart b test) where
    follows_apart : Apart b (May test)
    follows_apart = record { never = λ is e t j w on h. apart is e t j w (extends b t on) h }

    -- the texts that begin with the marks are those that may follow in the state
    texts : (ms : List Mark) (s : Open) → Leads b (beginning b.types) ms s → (w : List Mark) → Iff (IsText b test (ms ++ w)) (Rest b (May test) s w)
    texts ms s l w =
        let r = reached follows_apart (beginning b.types) ms s (start_valid b.types refl) l in
        let t = text_begins b.types refl (ms ++ w) in
        (λ h. (r.same w).0 (t.0 h), λ h. t.1 ((r.same w).1 h))

    state_valid : (ms : List Mark) (s : Open) → Leads b (beginning b.types) ms s → ValidOpen b s
    state_valid ms s l = (reached follows_apart (beginning b.types) ms s (start_valid b.types refl) l).valid

    -- the texts that go on with a terminal, by what the machine does at it
    divided : (ms : List Mark) (s : Open) → Leads b (beginning b.types) ms s → (t : Terminal) (j : ℕ) (w : List Mark) (next : Progress) → step b s t ≡ next → Iff (IsText b test (ms ++ inside t j ∷ w)) (After b (May test) next (nesting b s t) t j w)
    divided ms s l t j w next is =
        let q = subst (λ (x : Progress). Iff (Rest b (May test) s (inside t j ∷ w)) (After b (May test) x (nesting b s t) t j w)) is (quotient b (May test) s t j w (state_valid ms s l) follows_apart) in
        let x = texts ms s l (inside t j ∷ w) in
        (λ h. q.0 (x.0 h), λ h. x.1 (q.1 h))

    ends_value : (s : Open) (t : Terminal) (e : Ex) → ValidOpen b s → step b s t ≡ ends e → b.types ≡ false → IsValue e
    ends_value s t e valid is = subst (ValidNext b) is (valid_next b s t valid)

    foretells : (ms : List Mark) (s : Open) → Leads b (beginning b.types) ms s → Foretells b test ms s
    foretells ms s l = record {
      failed = λ t j w is h. (divided ms s l t j w fails is).0 h;
      nested = λ t j w next is h. ((divided ms s l t j w (goes next) is).0 h).0;
      ended = λ t j w e is h. ((divided ms s l t j w (ends e) is).0 h).1;
      whole = λ t j w e is h. (divided ms s l t j w (ends e) is).1 (ends_value s t e (state_valid ms s l) is, h);
      alike = λ other w k h. (texts other s k w).1 ((texts ms s l w).0 h);
      viable = λ some. let v = viable b (May test) s (state_valid ms s l) some in (v.0, (texts ms s l v.0).1 v.1);
    }

pub states_foretell : StatesForetell
states_foretell b test ms s apart l = foretells b test apart ms s l
