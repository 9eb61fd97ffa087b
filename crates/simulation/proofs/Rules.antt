-- The rules.
use Rattle.std.proofs.Common.{◌≡◌, ℕ, zero, suc, ◌+◌, ◌*◌, ◌<◌, ◌≤◌, [], ◌∷◌, refl, sym, ap, subst, arith}
use Rattle.simulation.specs.Outcome.{Lines, Turn, Line, End, Outcome, Gives, Ends, Unfinished, upto, Below}
use Rattle.simulation.specs.Steps.{Done, Goes, Stops, after, exec}
use Rattle.simulation.specs.Follows.{Follows}

module _ (E D X Y : Type 0) (same : E → D → Type 0) (alike : X → Y → Type 0) where
  pub turn : {lo lo' b : ℕ} {t : Lines E X} {m : ℕ → Outcome D Y} → lo' ≤ 16 + lo → m 0 ≡ Unfinished → Follows E D X Y same alike lo' 1 b t m → Follows E D X Y same alike lo 0 (suc b) (Turn t) m
  turn {lo} {lo'} {b} {t} {m} l start f = record { lower = low; upper = up }
    where
      low : (n k : ℕ) → 16 * n + lo ≤ k → Below same alike (upto n (Turn t)) (m k)
      low zero k le = tt
      low (suc n) k le = f.lower n k (omega arith)

      up : (n k : ℕ) → n < suc b → k ≤ n + 0 → Below (λ d e. same e d) (λ d e. alike e d) (m k) (upto n (Turn t))
      up zero k lt le =
          let e : 0 ≡ k = omega arith in
          let none : Outcome E X = Unfinished in
          subst (λ j. Below (λ d e. same e d) (λ d e. alike e d) (m j) none) e (subst (λ o. Below (λ d e. same e d) (λ d e. alike e d) o none) (sym start) tt)
      up (suc n) k lt le = f.upper n k (omega arith) (omega arith)

  pub silent : {lo hi b : ℕ} {t : Lines E X} {m m' : ℕ → Outcome D Y} → ((k : ℕ) → m (suc k) ≡ m' k) → m 0 ≡ Unfinished → Follows E D X Y same alike lo hi b t m' → Follows E D X Y same alike (suc lo) 1 b t m
  silent {lo} {hi} {b} {t} {m} {m'} go start f = record { lower = low; upper = up }
    where
      low : (n k : ℕ) → 16 * n + suc lo ≤ k → Below same alike (upto n t) (m k)
      low n zero le = absurd (omega arith)
      low n (suc k) le = subst (λ o. Below same alike (upto n t) o) (sym (go k)) (f.lower n k (omega arith))

      up : (n k : ℕ) → n < b → k ≤ n + 1 → Below (λ d e. same e d) (λ d e. alike e d) (m k) (upto n t)
      up n zero lt le = subst (λ o. Below (λ d e. same e d) (λ d e. alike e d) o (upto n t)) (sym start) tt
      up n (suc k) lt le = subst (λ o. Below (λ d e. same e d) (λ d e. alike e d) o (upto n t)) (sym (go k)) (f.upper n k lt (omega arith))

  pub shown : {lo hi b : ℕ} {t : Lines E X} {m m' : ℕ → Outcome D Y} (e : E) (d : D) → same e d → ((k : ℕ) → m k ≡ Gives d (m' k)) → Follows E D X Y same alike lo hi b t m' → Follows E D X Y same alike lo hi b (Line e t) m
  shown {lo} {hi} {b} {t} {m} {m'} e d r go f = record {
    lower = λ n k le. subst (λ o. Below same alike (Gives e (upto n t)) o) (sym (go k)) (r, f.lower n k le);
    upper = λ n k lt le. subst (λ o. Below (λ d e. same e d) (λ d e. alike e d) o (Gives e (upto n t))) (sym (go k)) (r, f.upper n k lt le);
  }

  pub ended : {lo hi b : ℕ} {m : ℕ → Outcome D Y} (e : X) (y : Y) → alike e y → ((k : ℕ) → m k ≡ Ends y) → Follows E D X Y same alike lo hi b (End e) m
  ended {lo} {hi} {b} {m} e y r go = record {
    lower = λ n k le. subst (λ o. Below same alike (Ends e) o) (sym (go k)) r;
    upper = λ n k lt le. subst (λ o. Below (λ d e. same e d) (λ d e. alike e d) o (Ends e)) (sym (go k)) r;
  }

  -- one step of a machine whose step gives a state
  module _ (S : Type 0) (step : S → Done S D Y) where
    pub goes : {lo hi b : ℕ} {t : Lines E X} (s s' : S) → step s ≡ Goes [] s' → Follows E D X Y same alike lo hi b t (λ k. exec step k s') → Follows E D X Y same alike (suc lo) 1 b t (λ k. exec step k s)
    goes s s' e f = silent (λ k. ap (λ d. after d (exec step k)) e) refl f

    pub goes_shown : {lo hi b : ℕ} {t : Lines E X} (s s' : S) (x : E) (d : D) → same x d → step s ≡ Goes (d ∷ []) s' → Follows E D X Y same alike lo hi b t (λ k. exec step k s') → Follows E D X Y same alike (suc lo) 1 b (Line x t) (λ k. exec step k s)
    goes_shown s s' x d r e f = silent {m' = λ k. Gives d (exec step k s')} (λ k. ap (λ d. after d (exec step k)) e) refl (shown x d r (λ k. refl) f)

    pub stops : {lo b : ℕ} (s : S) (x : X) (y : Y) → alike x y → step s ≡ Stops [] y → Follows E D X Y same alike (suc lo) 1 b (End x) (λ k. exec step k s)
    stops {lo} s x y r e = silent {lo = lo} {hi = 0} {m' = λ k. Ends y} (λ k. ap (λ d. after d (exec step k)) e) refl (ended x y r (λ k. refl))
