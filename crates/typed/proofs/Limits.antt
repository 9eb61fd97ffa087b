-- Words and their limits.
use Rattle.std.proofs.Common.{◌≡◌, ℕ, zero, suc, ◌<◌, ◌≤◌, Bool, true, false, nat_lt, if◌then◌else◌, Option, None, Some, refl, ap, ap₂, ◌==◌, arith}
use Rattle.std.proofs.lemmas.Bool.{ltb-true, lt-ltb, ltb-false, le-ltb, eqb-false}
use Rattle.std.proofs.Math.Dec.{eqb-suc-zero}
use Rattle.typed.specs.declared.fault.TableFault.TheVariants.{Empty, TooLarge}
use Rattle.typed.specs.Words.{IsInLimits, within_limit, allowed, refusal_by, is_over}

pub over_none : (w : ℕ) → 65535 < w → within_limit w ≡ None
over_none w l = ap (λ b. if b then None else Some w) (lt-ltb 65535 w l)

pub within_some : (w : ℕ) → w ≤ 65535 → within_limit w ≡ Some w
within_some w l = ap (λ b. if b then None else Some w) (le-ltb 65535 w l)

-- what isn't refused is within the limits
pub limits_by : (w : ℕ) → refusal_by w ≡ None → IsInLimits w
limits_by w p = by (w == 0) (nat_lt 65535 w) refl refl p
  where
    by : (a b : Bool) → (w == 0) ≡ a → nat_lt 65535 w ≡ b → (if a then Some Empty else if b then Some TooLarge else None) ≡ None → IsInLimits w
    by true b e f q = absurd cc q
    by false true e f q = absurd cc q
    by false false e f q = (let n : w ≡ 0 → ⊥ = eqb-false w 0 e in omega arith, ltb-false 65535 w f)

pub not_refused : (w : ℕ) → IsInLimits w → refusal_by w ≡ None
not_refused zero l = absurd (let z : 0 < 0 = l.0 in omega arith)
not_refused (suc w) l = ap₂ (λ a b. if a then Some Empty else if b then Some TooLarge else None) (eqb-suc-zero w) (le-ltb 65535 (suc w) l.1)

pub not_over : (w : ℕ) → is_over (Some w) ≡ false → w ≤ 65535
not_over w p = ltb-false 65535 w p

pub allowed_within : (o : Option ℕ) → ((w : ℕ) → o ≡ Some w → w ≤ 65535) → allowed o ≡ o
allowed_within None l = refl
allowed_within (Some w) l = within_some w (l w refl)

pub within_is : (w v : ℕ) → within_limit w ≡ Some v → (v ≡ w) × (w ≤ 65535)
within_is w v p = by (nat_lt 65535 w) refl p
  where
    by : (b : Bool) → nat_lt 65535 w ≡ b → (if b then None else Some w) ≡ Some v → (v ≡ w) × (w ≤ 65535)
    by true e q = absurd cc q
    by false e q = (cc, ltb-false 65535 w e)

pub none_over : (w : ℕ) → within_limit w ≡ None → refusal_by w ≡ Some TooLarge
none_over w p = by (nat_lt 65535 w) refl p
  where
    over : (w : ℕ) → nat_lt 65535 w ≡ true → refusal_by w ≡ Some TooLarge
    over zero e = absurd (let l = ltb-true 65535 0 e in omega arith)
    over (suc w) e = ap₂ (λ a b. if a then Some Empty else if b then Some TooLarge else None) (eqb-suc-zero w) e

    by : (b : Bool) → nat_lt 65535 w ≡ b → (if b then None else Some w) ≡ None → refusal_by w ≡ Some TooLarge
    by true e q = over w e
    by false e q = absurd cc q
