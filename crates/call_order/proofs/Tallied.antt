-- How often a number stands in a list, and in lists.
use Rattle.std.proofs.Common.{◌≡◌, ℕ, zero, suc, ◌+◌, ◌<◌, ◌≤◌, ◌==◌, Bool, cond, List, [], ◌∷◌, length, get_or, Some, None, slice_get, refl, sym, ap, ◌∙◌, subst, inl, inr, arith}
use Rattle.std.specs.List.{Contains, count_by}
use Rattle.std.specs.List.Sorted.{IsNonDecreasing, IsStrictlyIncreasing}
use Rattle.std.proofs.lemmas.Bool.{cases_eq, eq-eqb, ne_eqb}
use Rattle.std.proofs.lemmas.Option.{same_Some, slice_get-get_or}
use Rattle.std.proofs.lemmas.List.Sums.{sum_by-cons}
use Rattle.std.proofs.lemmas.List.Elements.{Contains-get_or}
use Rattle.components.specs.Components.{StandsAt}
use Rattle.call_order.specs.Order.{times}

-- how often a number stands in a list
abbrev pub tally : ℕ → List ℕ → ℕ
tally g xs = count_by (λ h. h == g) xs

module _ (g : ℕ) where
  tally_here : (x : ℕ) (xs : List ℕ) → x ≡ g → tally g (x ∷ xs) ≡ 1 + tally g xs
  tally_here x xs is = sum_by-cons (λ (h : ℕ). cond (h == g) 1 0) x xs ∙ ap (λ (b : Bool). cond b 1 0 + tally g xs) (eq-eqb x g is)

  tally_other : (x : ℕ) (xs : List ℕ) → (x ≡ g → ⊥) → tally g (x ∷ xs) ≡ tally g xs
  tally_other x xs other =
      let none_here : tally g (x ∷ xs) ≡ 0 + tally g xs = sum_by-cons (λ (h : ℕ). cond (h == g) 1 0) x xs ∙ ap (λ (b : Bool). cond b 1 0 + tally g xs) (ne_eqb x g other) in
      omega arith

  tally_more : (x : ℕ) (xs : List ℕ) → tally g xs ≤ tally g (x ∷ xs)
  tally_more x xs = elim (cases_eq x g) [
    | inl is ↦ (let e = tally_here x xs is in omega arith)
    | inr other ↦ (let e = tally_other x xs other in omega arith)
  ]

  tally_never : (xs : List ℕ) → ((i : ℕ) → slice_get xs i ≡ Some g → ⊥) → tally g xs ≡ 0
  tally_never [] lacks = refl
  tally_never (x ∷ xs) lacks =
      let head = tally_other x xs (λ is. lacks 0 (ap Some is)) in
      let rest : tally g xs ≡ 0 = tally_never xs (λ i. lacks (suc i)) in
      omega arith

  tally_once : (xs : List ℕ) (i : ℕ) → slice_get xs i ≡ Some g → ((j : ℕ) → slice_get xs j ≡ Some g → i ≡ j) → tally g xs ≡ 1
  tally_once [] i at one = let bad : None ≡ Some g = at in absurd cc
  tally_once (x ∷ xs) zero at one =
      let head = tally_here x xs (same_Some x g at) in
      let rest : tally g xs ≡ 0 = tally_never xs (λ j also. (let wrong : 0 ≡ suc j = one (suc j) also in absurd (omega arith))) in
      omega arith
  tally_once (x ∷ xs) (suc i) at one =
      let head = tally_other x xs (λ is. (let wrong : suc i ≡ 0 = one 0 (ap Some is) in absurd (omega arith))) in
      let rest : tally g xs ≡ 1 = tally_once xs i at (λ j also. (let e : suc i ≡ suc j = one (suc j) also in omega arith)) in
      omega arith

  -- a number that stands at two places side by side
  tally_twice : (xs : List ℕ) (k : ℕ) → slice_get xs k ≡ Some g → slice_get xs (suc k) ≡ Some g → 2 ≤ tally g xs
  tally_twice [] k at next = let bad : None ≡ Some g = at in absurd cc
  tally_twice (x ∷ []) zero at next = let bad : None ≡ Some g = next in absurd cc
  tally_twice (x ∷ y ∷ xs) zero at next =
      let head = tally_here x (y ∷ xs) (same_Some x g at) in
      let second = tally_here y xs (same_Some y g next) in
      omega arith
  tally_twice (x ∷ xs) (suc k) at next =
      let more = tally_more x xs in
      let rest : 2 ≤ tally g xs = tally_twice xs k at next in
      omega arith

  -- ---- in lists

  times_cons : (ns : List ℕ) (nss : List (List ℕ)) → times g (ns ∷ nss) ≡ tally g ns + times g nss
  times_cons ns nss = sum_by-cons (tally g) ns nss

  times_never : (nss : List (List ℕ)) → ((c i : ℕ) → StandsAt nss c i g → ⊥) → times g nss ≡ 0
  times_never [] lacks = refl
  times_never (ns ∷ nss) lacks =
      let head : tally g ns ≡ 0 = tally_never ns (λ i at. lacks 0 i (ns, refl, at)) in
      let rest : times g nss ≡ 0 = times_never nss (λ c i s. lacks (suc c) i s) in
      omega (arith, times_cons ns nss)

  pub times_once : (nss : List (List ℕ)) (c i : ℕ) → StandsAt nss c i g → ((d j : ℕ) → StandsAt nss d j g → (c ≡ d) × (i ≡ j)) → times g nss ≡ 1
  times_once [] c i s one = let bad : None ≡ Some s.0 = s.1 in absurd cc
  times_once (ns ∷ nss) zero i s one =
      let at : slice_get ns i ≡ Some g = subst (λ (xs : List ℕ). slice_get xs i ≡ Some g) (sym (same_Some ns s.0 s.1)) s.2 in
      let head : tally g ns ≡ 1 = tally_once ns i at (λ j also. (one 0 j (ns, refl, also)).1) in
      let rest : times g nss ≡ 0 = times_never nss (λ d j t. (let wrong : 0 ≡ suc d = (one (suc d) j t).0 in absurd (omega arith))) in
      omega (arith, times_cons ns nss)
  times_once (ns ∷ nss) (suc c) i s one =
      let head : tally g ns ≡ 0 = tally_never ns (λ j also. (let wrong : suc c ≡ 0 = (one 0 j (ns, refl, also)).0 in absurd (omega arith))) in
      let rest : times g nss ≡ 1 = times_once nss c i s (λ d j t. (let both = one (suc d) j t in let e : suc c ≡ suc d = both.0 in (omega arith, both.1))) in
      omega (arith, times_cons ns nss)

  pub tally_within : (bs : List (List ℕ)) (k : ℕ) (b : List ℕ) → slice_get bs k ≡ Some b → tally g b ≤ times g bs
  tally_within [] k b at = let bad : None ≡ Some b = at in absurd cc
  tally_within (a ∷ bs) zero b at =
      let same : tally g a ≡ tally g b = ap (tally g) (same_Some a b at) in
      omega (arith, times_cons a bs)
  tally_within (a ∷ bs) (suc k) b at =
      let rest : tally g b ≤ times g bs = tally_within bs k b at in
      omega (arith, times_cons a bs)

-- numbers in ascending order of which each stands once
pub strictly : (b : List ℕ) → IsNonDecreasing b → ((g : ℕ) → Contains b g → tally g b ≤ 1) → IsStrictlyIncreasing b
strictly b ordered once = λ k within.
    let here : k < length b = omega arith in
    let least : get_or b k 0 ≤ get_or b (k + 1) 0 = ordered k (k + 1) 0 (omega arith) within in
    elim (cases_eq (get_or b k 0) (get_or b (k + 1) 0)) [
      | inl same ↦ (
          let g = get_or b k 0 in
          let next : slice_get b (k + 1) ≡ Some g = subst (λ (x : ℕ). slice_get b (k + 1) ≡ Some x) (sym same) (slice_get-get_or b (k + 1) 0 within) in
          let two : 2 ≤ tally g b = tally_twice g b k (slice_get-get_or b k 0 here) (subst (λ (n : ℕ). slice_get b n ≡ Some g) (omega arith) next) in
          let most : tally g b ≤ 1 = once g (Contains-get_or b k 0 here) in
          absurd (omega arith)
          )
      | inr apart ↦ omega arith
    ]
