-- A string is a string literal.
use Rattle.std.proofs.Common.{◌≡◌, ◌≢◌, ℕ, suc, zero, ◌+◌, ◌-◌, ◌<◌, ◌≤◌, Bool, true, false, cond, not, List, [], ◌∷◌, ◌++◌, length, take, drop, Option, Some, None, ◌⊎◌, inl, inr, refl, sym, ap, subst, ◌∙◌, arith}
use Rattle.std.specs.Prelude.{slice_index, ◌==◌, ◌&&◌}
use Rattle.std.proofs.lemmas.Bool.{and_parts}
use borrow.Author.Tests.{eqb-true}
use Rattle.scan_go.specs.declared.fault.FaultKind.{FaultKind}
use Rattle.scan_go.specs.declared.fault.FaultKind.TheVariants as fault
use Rattle.scan_go.specs.declared.piece.Piece.{Piece}
use Rattle.scan_go.specs.declared.piece.Piece.TheVariants as piece
use Rattle.scan_go.specs.declared.token.Kind.{Kind}
use Rattle.scan_go.specs.declared.token.Kind.TheVariants as kind
use Rattle.scan_go.specs.Characters.{is_within_line}
use Rattle.scan_go.specs.Comments.{later}
use Rattle.scan_go.specs.Strings.{closes, hides, closing, begins_escape, fault_at, farther, here_or, fault_within, string_or_fault, closed_string, string_piece}
use Rattle.scan_laws.specs.Forms.{IsContent, IsString, nothing, byte, escape}

-- ---- up to the closing quote

-- The first byte closes the string, or it stands within it and the closing quote comes later.
record Closes (h : Bool) (b : ℕ) (rest : List ℕ) (n : ℕ) : Type 0 where
  here : closes h b ≡ true
  one : n ≡ 1

record Goes (h : Bool) (b : ℕ) (rest : List ℕ) (n m : ℕ) : Type 0 where
  line : is_within_line b ≡ true
  open' : closes h b ≡ false
  rests : closing (hides h b) rest ≡ Some m
  long : n ≡ suc m

later_some : (o : Option ℕ) (n : ℕ) → later 1 o ≡ Some n → (m : ℕ) × (o ≡ Some m) × (1 + m ≡ n)
later_some None n is = absurd (cc is)
later_some (Some m) n is = (m, refl, cc is)

some_one : (n : ℕ) → Some 1 ≡ Some n → n ≡ 1
some_one n is = cc is

step : (h : Bool) (b : ℕ) (rest : List ℕ) (n : ℕ) → closing h (b ∷ rest) ≡ Some n → Closes h b rest n ⊎ ((m : ℕ) × Goes h b rest n m)
unfolding closing
step h b rest n is = by (is_within_line b) (closes h b) refl refl is
  where
    by : (line quote : Bool) → is_within_line b ≡ line → closes h b ≡ quote → cond line (cond quote (Some 1) (later 1 (closing (hides h b) rest))) None ≡ Some n → Closes h b rest n ⊎ ((m : ℕ) × Goes h b rest n m)
    by true true line quote found = inl (record { here = quote; one = some_one n found })
    by true false line quote found = let m = later_some (closing (hides h b) rest) n found in inr (m.0, record { line = line; open' = quote; rests = m.1; long = omega (arith, m.2) })
    by false quote line q found = absurd (cc found)

nowhere : (h : Bool) (n : ℕ) → closing h [] ≡ Some n → ⊥
unfolding closing
nowhere h n is = cc is

pub closing_within : (h : Bool) (rest : List ℕ) (n : ℕ) → closing h rest ≡ Some n → (0 < n) × (n ≤ length rest)
closing_within h [] n is = absurd (nowhere h n is)
closing_within h (b ∷ rest) n is = elim (step h b rest n is) [
  | inl c ↦ (omega (arith, c.one), omega (arith, c.one))
  | inr g ↦ (let w = closing_within (hides h b) rest g.0 g.1.rests in (omega (arith, g.1.long), omega (arith, g.1.long, w.1)))
]

quote_of : (h : Bool) (b : ℕ) → closes h b ≡ true → b ≡ 34
quote_of true b is = absurd (cc is)
quote_of false b is = eqb-true b 34 is

-- the byte before the end is the quote
pub closing_quote : (h : Bool) (rest : List ℕ) (n : ℕ) → closing h rest ≡ Some n → take n rest ≡ take (n - 1) rest ++ 34 ∷ []
closing_quote h [] n is = absurd (nowhere h n is)
closing_quote h (b ∷ rest) n is = elim (step h b rest n is) [
  | inl c ↦ subst (λ (k : ℕ). take k (b ∷ rest) ≡ take (k - 1) (b ∷ rest) ++ 34 ∷ []) (sym c.one) (ap (λ (x : ℕ). x ∷ []) (quote_of h b c.here))
  | inr g ↦ more g.0 g.1.long (closing_within (hides h b) rest g.0 g.1.rests).0 (closing_quote (hides h b) rest g.0 g.1.rests)
]
  where
    more : (m : ℕ) → n ≡ suc m → 0 < m → take m rest ≡ take (m - 1) rest ++ 34 ∷ [] → take n (b ∷ rest) ≡ take (n - 1) (b ∷ rest) ++ 34 ∷ []
    more zero long some same = absurd (omega arith)
    more (suc m) long some same =
        let inner : m ≡ suc m - 1 = omega arith in
        let outer : suc m ≡ suc (suc m) - 1 = omega arith in
        let here : take (suc m) rest ≡ take m rest ++ 34 ∷ [] = subst (λ (j : ℕ). take (suc m) rest ≡ take j rest ++ 34 ∷ []) (sym inner) same in
        subst (λ (k : ℕ). take k (b ∷ rest) ≡ take (k - 1) (b ∷ rest) ++ 34 ∷ []) (sym long)
        (subst (λ (j : ℕ). take (suc (suc m)) (b ∷ rest) ≡ take j (b ∷ rest) ++ 34 ∷ []) outer (ap (λ (l : List ℕ). b ∷ l) here))

-- ---- between the quotes

-- after a backslash stands a byte that it hides, and after that the rest of the content
abbrev From : Bool → List ℕ → Type 0
From false content = IsContent content
From true content = (b : ℕ) × (more : List ℕ) × (content ≡ b ∷ more) × IsContent more

nothing_here : (o : Option FaultKind) (others : Option (FaultKind × ℕ)) → here_or o others ≡ None → (o ≡ None) × (others ≡ None)
nothing_here None None is = (refl, refl)
nothing_here None (Some f) is = absurd (cc is)
nothing_here (Some k) others is = absurd (cc is)

fault_parts : (h : Bool) (b : ℕ) (content : List ℕ) → fault_within h (b ∷ content) ≡ None → (fault_at h (b ∷ content) ≡ None) × (fault_within (hides h b) content ≡ None)
unfolding fault_within
fault_parts h b content is = nothing_here (fault_at h (b ∷ content)) (fault_within (hides h b) content) is

-- a byte that no backslash hides is not 0, and a backslash has an escape after it
no_fault : (b : ℕ) (content : List ℕ) → fault_at false (b ∷ content) ≡ None → ((b == 0) ≡ false) × ((b == 92) ≡ true → begins_escape content ≡ true)
unfolding fault_at
no_fault b content is = by (b == 0) (b == 92) (begins_escape content) is
  where
    by : (nul slash begins : Bool) → cond nul (Some fault.Nul) (cond (slash && not begins) (Some fault.BadEscape) None) ≡ None → (nul ≡ false) × (slash ≡ true → begins ≡ true)
    by true slash begins found = absurd (cc found)
    by false true true found = (refl, λ e. refl)
    by false true false found = absurd (cc found)
    by false false begins found = (refl, λ e. absurd (cc e))

differs : (b c : ℕ) → (b == c) ≡ false → (c == c) ≡ true → b ≢ c
differs b c is same e = let t : (c == c) ≡ false = subst (λ (x : ℕ). (x == c) ≡ false) e is in cc (t, same)

no_newline : (b : ℕ) → is_within_line b ≡ true → b ≢ 10
no_newline b is e = let t : is_within_line 10 ≡ true = subst (λ (x : ℕ). is_within_line x ≡ true) e is in cc t

here_content : (h : Bool) (b : ℕ) (content : List ℕ) → is_within_line b ≡ true → closes h b ≡ false → fault_at h (b ∷ content) ≡ None → From (hides h b) content → From h (b ∷ content)
here_content true b content line open' good rests = (b, content, refl, rests)
here_content false b content line open' good rests = by (b == 92) refl rests
  where
    by : (t : Bool) → (b == 92) ≡ t → From t content → IsContent (b ∷ content)
    by true slash hidden =
        let begins : begins_escape content ≡ true = (no_fault b content good).1 slash in
        subst IsContent (cc (eqb-true b 92 slash, hidden.2)) (escape (subst (λ (l : List ℕ). begins_escape l ≡ true) hidden.2 begins) hidden.3)
    by false slash others = byte (differs b 34 open' refl) (differs b 92 slash refl) (no_newline b line) (differs b 0 (no_fault b content good).0 refl) others

content_from : (h : Bool) (rest : List ℕ) (n : ℕ) → closing h rest ≡ Some n → fault_within h (take (n - 1) rest) ≡ None → From h (take (n - 1) rest)
content_from h [] n is good = absurd (nowhere h n is)
content_from h (b ∷ rest) n is good = elim (step h b rest n is) [
  | inl c ↦ subst (λ (k : ℕ). From h (take (k - 1) (b ∷ rest))) (sym c.one) (at_quote h c.here)
  | inr g ↦ more g.0 g.1 (closing_within (hides h b) rest g.0 g.1.rests).0 (content_from (hides h b) rest g.0 g.1.rests)
]
  where
    at_quote : (h : Bool) → closes h b ≡ true → From h []
    at_quote true is = absurd (cc is)
    at_quote false is = nothing

    more : (m : ℕ) → Goes h b rest n m → 0 < m → (fault_within (hides h b) (take (m - 1) rest) ≡ None → From (hides h b) (take (m - 1) rest)) → From h (take (n - 1) (b ∷ rest))
    more zero g some rests = absurd (omega arith)
    more (suc m) g some rests =
        let inner : suc m - 1 ≡ m = omega arith in
        let outer : suc m ≡ n - 1 = omega (arith, g.long) in
        let parts = fault_parts h b (take m rest) (subst (λ (k : ℕ). fault_within h (take k (b ∷ rest)) ≡ None) (sym outer) good) in
        let later = subst (λ (k : ℕ). fault_within (hides h b) (take k rest) ≡ None → From (hides h b) (take k rest)) inner rests in
        subst (λ (k : ℕ). From h (take k (b ∷ rest))) outer (here_content h b (take m rest) g.line g.open' parts.0 (later parts.1))

-- ---- the literal

without_fault : (m : ℕ) (k : Kind) (n : ℕ) (o : Option (FaultKind × ℕ)) → string_or_fault (1 + m) o ≡ piece.Token k n → (1 + m ≡ n) × (o ≡ None)
without_fault m k n None is = (cc is, refl)
without_fault m k n (Some f) is = absurd (cc is)

closed_is : (after : List ℕ) (k : Kind) (n : ℕ) (o : Option ℕ) → closing false after ≡ o → closed_string o after ≡ piece.Token k n → (n ≤ length (34 ∷ after)) × IsString (take n (34 ∷ after))
closed_is after k n None closes' is = absurd (cc is)
closed_is after k n (Some m) closes' is =
    let found = without_fault m k n (fault_within false (take (m - 1) after)) is in
    let within = closing_within false after m closes' in
    let long : suc m ≡ n = omega (arith, found.0) in
    let literal : IsString (34 ∷ take m after) = record {
      content = take (m - 1) after;
      quoted = ap (λ (l : List ℕ). 34 ∷ l) (closing_quote false after m closes');
      formed = content_from false after m closes' found.1;
    } in
    (omega (arith, long, within.1), subst (λ (j : ℕ). IsString (take j (34 ∷ after))) long literal)

pub string_is : (rest : List ℕ) (k : Kind) (n : ℕ) → (slice_index rest 0 == 34) ≡ true → string_piece rest ≡ piece.Token k n → (n ≤ length rest) × IsString (take n rest)
string_is [] k n quote is = absurd (cc quote)
string_is (q ∷ after) k n quote is =
    subst (λ (x : ℕ). (n ≤ length (x ∷ after)) × IsString (take n (x ∷ after))) (sym (eqb-true q 34 quote)) (closed_is after k n (closing false after) refl is)
