-- Parts of a text.
use Rattle.std.proofs.Common.{◌≡◌, ◌⊎◌, inl, inr, ℕ, suc, ◌+◌, ◌-◌, ◌<◌, ◌≤◌, Bool, true, false, List, [], ◌∷◌, ◌++◌, length, take, drop, Option, Some, None, Bor, refl, sym, ap, subst, ◌∙◌, arith}
use Rattle.std.specs.Bool.{Decides}
use Rattle.std.specs.Prelude.{◌==◌, ◌≢◌, MatchOption}
use Rattle.std.proofs.lemmas.Bool.Decides.{Decides-eqb, nat_tests}
use Rattle.std.proofs.lemmas.List.{drop_all, take_all}
use Rattle.std.proofs.Math.Seq.{take-append_seam}
use Rattle.std.proofs.Common.{length-drop, length-take-le, length-append, add-one}
use Rattle.report_checks.specs.Cuts.{front_length, front, rest, after}

pub nothing : (o : Option (List ℕ)) → ((r : List ℕ) → o ≡ Some r → ⊥) → o ≡ None
nothing None h = refl
nothing (Some r) h = absurd (h r refl)

-- ---- behind a beginning

pub after_here : (c x : ℕ) (cs xs : List ℕ) → c ≡ x → after (c ∷ cs) (x ∷ xs) ≡ after cs xs
unfolding after
after_here c x cs xs e = grind (arith, nat_tests)

after_other : (c x : ℕ) (cs xs r : List ℕ) → after (c ∷ cs) (x ∷ xs) ≡ Some r → (c ≡ x) × (after cs xs ≡ Some r)
unfolding after
after_other c x cs xs r h = grind (arith, nat_tests)

pub after_whole : (p r : List ℕ) → after p (p ++ r) ≡ Some r
unfolding after
after_whole [] r = refl
after_whole (c ∷ cs) r = after_here c c cs (cs ++ r) refl ∙ after_whole cs r

pub after_is : (p t r : List ℕ) → after p t ≡ Some r → t ≡ p ++ r
unfolding after
after_is [] t r h = cc
after_is (c ∷ cs) [] r h = cc
after_is (c ∷ cs) (x ∷ xs) r h = let parts = after_other c x cs xs r h in let e : xs ≡ cs ++ r = after_is cs xs r parts.1 in let f : c ≡ x = parts.0 in cc

-- ---- before a separator

pub front_here : (s x : ℕ) (xs : List ℕ) → x ≡ s → front_length s (x ∷ xs) ≡ 0
unfolding front_length
front_here s x xs e = grind (arith, nat_tests)

pub front_on : (s x : ℕ) (xs : List ℕ) → (x ≡ s → ⊥) → front_length s (x ∷ xs) ≡ suc (front_length s xs)
unfolding front_length
front_on s x xs e = grind (arith, nat_tests)

pub front_end : (s : ℕ) (xs : List ℕ) (i : ℕ) → length xs ≤ i → front_length s (drop i xs) ≡ 0
unfolding front_length
front_end s xs i h = ap (front_length s) (drop_all i xs h)

-- ---- what the code's ends are

pub length_front : (n : ℕ) (xs : List ℕ) → n ≤ length xs → n ≡ length (take n xs)
length_front n xs h = omega (arith, length-take-le n xs h)

pub cut_end : (n : ℕ) (xs : List ℕ) → take (length xs - n) (drop n xs) ≡ drop n xs
cut_end n xs = take_all (length xs - n) (drop n xs) (omega (arith, length-drop n xs))

pub answered : (p s : List ℕ) (r : Option (Bor (List ℕ))) → MatchOption r ((rest : List ℕ) → s ≢ p ++ rest) (λ x. s ≡ p ++ x.now) → MatchOption r (after p s ≡ None) (λ x. after p s ≡ Some x.now)
answered p s None h = nothing (after p s) (λ r e. h r (after_is p s r e))
answered p s (Some x) h = ap (after p) h ∙ after_whole p x.now

pub rest_some : (s : ℕ) (t : List ℕ) (n : ℕ) → n ≡ front_length s t → n < length t → rest s t ≡ Some (take (length t - (n + 1)) (drop (n + 1) t))
unfolding rest
rest_some s t n e h = rw (e, cut_end (front_length s t + 1) t) (let k : front_length s t < length t = rw e at h in grind (arith, nat_tests))

pub rest_none : (s : ℕ) (t : List ℕ) (n : ℕ) → n ≡ front_length s t → length t ≤ n → rest s t ≡ None
unfolding rest
rest_none s t n e h = let k : length t ≤ front_length s t = rw e at h in grind (arith, nat_tests)

-- ---- a text without a separator, and what it is cut into

pub data Free (s : ℕ) : List ℕ → Type 0 where
  free_nil : Free s []
  free_cons : {x : ℕ} {xs : List ℕ} → (x ≡ s → ⊥) → Free s xs → Free s (x ∷ xs)

pub free_append : (s : ℕ) (xs ys : List ℕ) → Free s xs → Free s ys → Free s (xs ++ ys)
free_append s _ ys free_nil g = g
free_append s _ ys (free_cons {x = x} {xs = xs} h f) g = free_cons h (free_append s xs ys f g)

pub length_free : (s : ℕ) (a b : List ℕ) → Free s a → front_length s (a ++ s ∷ b) ≡ length a
length_free s _ b free_nil = front_here s s b refl
length_free s _ b (free_cons {x = x} {xs = xs} h f) = front_on s x (xs ++ s ∷ b) h ∙ ap suc (length_free s xs b f)

pub front_free : (s : ℕ) (a b : List ℕ) → Free s a → front s (a ++ s ∷ b) ≡ a
unfolding front
front_free s a b f = ap (λ (n : ℕ). take n (a ++ s ∷ b)) (length_free s a b f) ∙ take-append_seam a (s ∷ b)

drop_suc : (n : ℕ) (x : ℕ) (xs : List ℕ) → drop (suc n + 1) (x ∷ xs) ≡ drop (n + 1) xs
drop_suc n x xs = rw (add-one, add-one) refl

pub drop_past : (a : List ℕ) (s : ℕ) (b : List ℕ) → drop (length a + 1) (a ++ s ∷ b) ≡ b
drop_past [] s b = refl
drop_past (x ∷ xs) s b = drop_suc (length xs) x (xs ++ s ∷ b) ∙ drop_past xs s b

shorter : (a : List ℕ) (s : ℕ) (b : List ℕ) → length a < length (a ++ s ∷ b)
shorter a s b = omega (arith, length-append a (s ∷ b))

pub rest_free : (s : ℕ) (a b : List ℕ) → Free s a → rest s (a ++ s ∷ b) ≡ Some b
rest_free s a b f = rest_some s (a ++ s ∷ b) (length a) (sym (length_free s a b f)) (shorter a s b) ∙ ap Some (cut_end (length a + 1) (a ++ s ∷ b) ∙ drop_past a s b)

equal_or : (x s : ℕ) (b : Bool) → Decides b (x ≡ s) → (x ≡ s) ⊎ (x ≡ s → ⊥)
equal_or x s true d = inl (d.0 refl)
equal_or x s false d = inr (λ e. absurd (let t : false ≡ true = d.1 e in cc))

-- a text has a separator or not
pub cut_cases : (s : ℕ) (t : List ℕ) → (Free s t × (front_length s t ≡ length t)) ⊎ ((a : List ℕ) × (b : List ℕ) × (t ≡ a ++ s ∷ b) × Free s a)
unfolding front_length
cut_cases s [] = inl (free_nil, refl)
cut_cases s (x ∷ xs) = elim (equal_or x s (x == s) (Decides-eqb x s)) [
  | inl here ↦ inr ([], xs, ap (λ (y : ℕ). y ∷ xs) here, free_nil)
  | inr other ↦ elim (cut_cases s xs) [
    | inl none ↦ inl (free_cons other none.0, front_on s x xs other ∙ ap suc none.1)
    | inr cut ↦ inr (x ∷ cut.0, cut.1, ap (λ (ys : List ℕ). x ∷ ys) cut.2, free_cons other cut.3)
  ]
]

pub rest_sound : (s : ℕ) (t r : List ℕ) → rest s t ≡ Some r → (t ≡ front s t ++ s ∷ r) × Free s (front s t)
rest_sound s t r h = elim (cut_cases s t) [
  | inl none ↦ absurd (let e : rest s t ≡ None = rest_none s t (length t) (sym none.1) (omega arith) in cc)
  | inr cut ↦ (
      let e : rest s t ≡ Some cut.1 = ap (rest s) cut.2 ∙ rest_free s cut.0 cut.1 cut.3 in
      let same : cut.1 ≡ r = cc in
      let head : front s t ≡ cut.0 = ap (front s) cut.2 ∙ front_free s cut.0 cut.1 cut.3 in
      (cut.2 ∙ ap (λ (xs : List ℕ). xs ++ s ∷ cut.1) (sym head) ∙ ap (λ (ys : List ℕ). front s t ++ s ∷ ys) same, subst (Free s) (sym head) cut.3))
]
