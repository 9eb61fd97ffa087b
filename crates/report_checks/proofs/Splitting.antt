-- The first line of a report, and what is left behind it.
use Rattle.std.proofs.Common.{◌≡◌, inl, inr, ℕ, ◌+◌, ◌-◌, ◌<◌, ◌≤◌, Bool, true, false, List, [], ◌∷◌, ◌++◌, length, take, drop, Option, None, refl, sym, ap, subst, ◌∙◌, arith}
use Rattle.std.specs.Prelude.{◌==◌, if◌then◌else◌}
use Rattle.std.proofs.Common.{length-drop, length-append, drop-drop}
use Rattle.std.proofs.Math.Seq.{take-append_seam, drop-length}
use Rattle.std.proofs.lemmas.Bool.Decides.{nat_tests}
use Rattle.std.proofs.lemmas.List.{drop_all}
use Rattle.report_checks.specs.declared.line.Line.{Line}
use Rattle.report_checks.specs.declared.state.Next.{Next}
use Rattle.report_checks.specs.declared.state.Next.TheVariants as nexts
use Rattle.report_checks.specs.Cuts.{front_length}
use Rattle.report_checks.specs.Reading.{read_text}
use Rattle.report_checks.specs.Lines.{onto, split, last_line, read_all, lines_of}
use Rattle.report_checks.specs.Verdict.{kind_of, next_of}
use Rattle.report_checks.proofs.Cutting.{Free, free_nil, free_cons, cut_cases, length_free, drop_past, cut_end}

newline : (x : ℕ) (xs : List ℕ) → x ≡ 10 → split (x ∷ xs) ≡ [] ∷ split xs
unfolding split
newline x xs e = grind (arith, nat_tests)

other_byte : (x : ℕ) (xs : List ℕ) → (x ≡ 10 → ⊥) → split (x ∷ xs) ≡ onto x (split xs)
unfolding split
other_byte x xs e = grind (arith, nat_tests)

split_free : (t : List ℕ) → Free 10 t → split t ≡ t ∷ []
unfolding split onto
split_free _ free_nil = refl
split_free _ (free_cons {x = x} {xs = xs} h f) = other_byte x xs h ∙ ap (onto x) (split_free xs f)

split_cut : (a b : List ℕ) → Free 10 a → split (a ++ 10 ∷ b) ≡ a ∷ split b
unfolding onto
split_cut _ b free_nil = newline 10 b refl
split_cut _ b (free_cons {x = x} {xs = xs} h f) = other_byte x (xs ++ 10 ∷ b) h ∙ ap (onto x) (split_cut xs b f)

onto_some : (x : ℕ) (ps : List (List ℕ)) → (q : List ℕ) × (qs : List (List ℕ)) × (onto x ps ≡ q ∷ qs)
unfolding onto
onto_some x [] = (x ∷ [], [], refl)
onto_some x (p ∷ ps) = (x ∷ p, ps, refl)

choice : (b : Bool) (ps os : List (List ℕ)) → ((q : List ℕ) × (qs : List (List ℕ)) × (os ≡ q ∷ qs)) → (q : List ℕ) × (qs : List (List ℕ)) × ((if b then [] ∷ ps else os) ≡ q ∷ qs)
choice true ps os h = ([], ps, refl)
choice false ps os h = h

split_some : (t : List ℕ) → (q : List ℕ) × (qs : List (List ℕ)) × (split t ≡ q ∷ qs)
unfolding split
split_some [] = ([], [], refl)
split_some (x ∷ xs) = choice (x == 10) (split xs) (onto x (split xs)) (onto_some x (split xs))

read_more : (p : List ℕ) (ps : List (List ℕ)) → ((q : List ℕ) × (qs : List (List ℕ)) × (ps ≡ q ∷ qs)) → read_all (p ∷ ps) ≡ read_text p ∷ read_all ps
unfolding read_all
read_more p ps h = ap (λ (x : List (List ℕ)). read_all (p ∷ x)) h.2 ∙ ap (λ (x : List (List ℕ)). read_text p ∷ read_all x) (sym h.2)

pub lines_cut : (a b : List ℕ) → Free 10 a → lines_of (a ++ 10 ∷ b) ≡ read_text a ∷ lines_of b
unfolding lines_of
lines_cut a b f = ap read_all (split_cut a b f) ∙ read_more a (split b) (split_some b)

lines_free : (t : List ℕ) → Free 10 t → lines_of t ≡ last_line t
unfolding lines_of read_all
lines_free t f = ap read_all (split_free t f)

pub lines_nil : lines_of [] ≡ []
unfolding last_line
lines_nil = lines_free [] free_nil

last_some : (t : List ℕ) → 0 < length t → last_line t ≡ None ∷ []
unfolding last_line
last_some [] h = absurd (omega arith)
last_some (x ∷ xs) h = refl

pub first_line : (t : List ℕ) (n : ℕ) → n ≡ front_length 10 t → n < length t → lines_of t ≡ read_text (take n t) ∷ lines_of (drop (n + 1) t)
first_line t n e within = elim (cut_cases 10 t) [
  | inl whole ↦ absurd (let k : front_length 10 t ≡ length t = whole.1 in omega arith)
  | inr cut ↦ (
      let a = cut.0 in
      let b = cut.1 in
      let at : n ≡ length a = e ∙ ap (front_length 10) cut.2 ∙ length_free 10 a b cut.3 in
      let front : take n t ≡ a = ap (λ (k : ℕ). take k t) at ∙ ap (take (length a)) cut.2 ∙ take-append_seam a (10 ∷ b) in
      let rest : drop (n + 1) t ≡ b = ap (λ (k : ℕ). drop (k + 1) t) at ∙ ap (drop (length a + 1)) cut.2 ∙ drop_past a 10 b in
      ap lines_of cut.2 ∙ lines_cut a b cut.3 ∙ ap (λ (x : List ℕ). read_text x ∷ lines_of b) (sym front) ∙ ap (λ (x : List ℕ). read_text (take n t) ∷ lines_of x) (sym rest))
]

pub only_line : (t : List ℕ) (n : ℕ) → n ≡ front_length 10 t → length t ≤ n → 0 < length t → lines_of t ≡ None ∷ []
only_line t n e past some = elim (cut_cases 10 t) [
  | inl whole ↦ lines_free t whole.0 ∙ last_some t some
  | inr cut ↦ absurd (
      let a = cut.0 in
      let b = cut.1 in
      let at : n ≡ length a = e ∙ ap (front_length 10) cut.2 ∙ length_free 10 a b cut.3 in
      let long : length t ≡ length (a ++ 10 ∷ b) = ap length cut.2 in
      omega (arith, length-append a (10 ∷ b)))
]

-- ---- at a place of a report

sum : (a n : ℕ) → a + (n + 1) ≡ a + n + 1
sum a n = omega arith

pub first_at : (r : List ℕ) (at n : ℕ) (o : Option Line) → n ≡ front_length 10 (take (length r - at) (drop at r)) → n < length (take (length r - at) (drop at r)) → o ≡ read_text (take n (take (length r - at) (drop at r))) → lines_of (drop at r) ≡ o ∷ lines_of (drop (at + n + 1) r)
first_at r at n o e within read =
    let t = drop at r in
    let whole : take (length r - at) t ≡ t = cut_end at r in
    let n_is : n ≡ front_length 10 t = e ∙ ap (front_length 10) whole in
    let o_is : o ≡ read_text (take n t) = read ∙ ap (λ (x : List ℕ). read_text (take n x)) whole in
    let behind : drop (n + 1) t ≡ drop (at + n + 1) r = drop-drop (n + 1) at r ∙ ap (λ (k : ℕ). drop k r) (sum at n) in
    first_line t n n_is (subst (λ (x : List ℕ). n < length x) whole within) ∙ ap (λ (x : Option Line). x ∷ lines_of (drop (n + 1) t)) (sym o_is) ∙ ap (λ (x : List ℕ). o ∷ lines_of x) behind

pub only_at : (r : List ℕ) (at n : ℕ) → n ≡ front_length 10 (take (length r - at) (drop at r)) → length (take (length r - at) (drop at r)) ≤ n → at < length r → lines_of (drop at r) ≡ None ∷ lines_of (drop (length r) r)
only_at r at n e past within =
    let t = drop at r in
    let whole : take (length r - at) t ≡ t = cut_end at r in
    let n_is : n ≡ front_length 10 t = e ∙ ap (front_length 10) whole in
    let nothing : lines_of (drop (length r) r) ≡ [] = ap lines_of (drop-length r) ∙ lines_nil in
    only_line t n n_is (subst (λ (x : List ℕ). length x ≤ n) whole past) (omega (arith, length-drop at r)) ∙ ap (λ (x : List (Option Line)). None ∷ x) (sym nothing)

pub next_end : (r : List ℕ) (at : ℕ) → at ≡ length r → nexts.Nothing ≡ next_of (lines_of (drop at r))
unfolding next_of
next_end r at e = sym (ap (λ (k : ℕ). next_of (lines_of (drop k r))) e ∙ ap (λ (x : List ℕ). next_of (lines_of x)) (drop-length r) ∙ ap next_of lines_nil)

pub next_line : (r : List ℕ) (at : ℕ) (o : Option Line) (read : List (Option Line)) (k : Next) → lines_of (drop at r) ≡ o ∷ read → k ≡ kind_of o → k ≡ next_of (lines_of (drop at r))
unfolding next_of
next_line r at o read k h e = e ∙ sym (ap next_of h)

pub lines_end : (r : List ℕ) (at : ℕ) → length r ≤ at → lines_of (drop at r) ≡ []
lines_end r at past = ap lines_of (drop_all at r past) ∙ lines_nil
