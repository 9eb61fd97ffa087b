-- Numbers times and over powers of two, within 128 bits.
use borrow.Author.Tests.{ltb-true}
use Rattle.std.proofs.Common.{◌≡◌, ℕ, zero, suc, ◌-◌, ◌*◌, ◌/◌, ◌^◌, ◌<◌, ◌≤◌, ℤ, pos, negsuc, ◌*ℤ◌, true, ◌≢◌, FitsSigned, to_z, of_z, Option, Some, None, Ok, Err, refl, ap, sym, ◌∙◌, arith}
use Rattle.std.specs.Prelude.{neg_ℤ, int_lt}
use Rattle.std.specs.Option.{SomeIff, ok_or}
use Rattle.std.specs.Int.{w128, int_shr}
use Rattle.std.proofs.lemmas.Grind.{common_steps}
use Rattle.std.proofs.lemmas.Nat.{pow-add, mul-le, shr_le}
use Rattle.std.proofs.lemmas.Int.{to_z-of_z}
use Rattle.std.proofs.lemmas.Bool.{false≢true}
use Rattle.std.proofs.Math.Pow.{pow_mono}
use Rattle.std.proofs.Math.Nat.{mul_assoc, mul-le-mul_left, div-eq_of_lt}
use Rattle.operators.specs.declared.folding.ConstFault.TheVariants.{Overflow}
use Rattle.operators.specs.Folding.{in_range_or_fault, kept, shifted_left, shifted_right}

neg_out : (k : ℕ) → 2 ^ 127 < k → in_range_or_fault (neg_ℤ (pos k)) ≡ Err Overflow
neg_out zero h = absurd (omega arith)
neg_out (suc k) h = grind (arith, common_steps)

neg_beyond : (k : ℕ) → (FitsSigned w128 (neg_ℤ (pos k)) → ⊥) → 2 ^ 127 < k
neg_beyond zero h = absurd (h (record { sfits = omega arith }))
neg_beyond (suc k) h = grind (arith, common_steps)

neg_times : (k q : ℕ) → neg_ℤ (pos k) *ℤ pos q ≡ neg_ℤ (pos (k * q))
neg_times zero q = let e : zero * q ≡ zero = omega arith in rw e refl
neg_times (suc k) q = refl

times_twice : (x : ℤ) (p q : ℕ) → x *ℤ pos p *ℤ pos q ≡ x *ℤ pos (p * q)
times_twice (pos a) p q = ap pos (mul_assoc a p q)
times_twice (negsuc a) p q = neg_times (suc a * p) q ∙ ap (λ k. neg_ℤ (pos k)) (mul_assoc (suc a) p q)

-- what leaves 128 bits times a power leaves it times a greater one
out_times : (x : ℤ) (p q : ℕ) → p ≤ q → (FitsSigned w128 (x *ℤ pos p) → ⊥) → in_range_or_fault (x *ℤ pos q) ≡ Err Overflow
out_times (pos a) p q le h = let m : a * p ≤ a * q = mul-le-mul_left a le in grind (arith, common_steps)
out_times (negsuc a) p q le h = let m : suc a * p ≤ suc a * q = mul-le-mul_left (suc a) le in let b : 2 ^ 127 < suc a * p = neg_beyond (suc a * p) h in neg_out (suc a * q) (omega arith)

-- the power in two halves
pub times_halves : (x half rest product : ℤ) (n : ℕ) → half ≡ pos (2 ^ (n / 2)) → rest ≡ pos (2 ^ (n - n / 2)) → product ≡ x *ℤ half → product *ℤ rest ≡ x *ℤ pos (2 ^ n)
times_halves x half rest product n h r p =
    let e : 2 ^ (n / 2) * 2 ^ (n - n / 2) ≡ 2 ^ n = sym (pow-add 2 (n / 2) (n - n / 2)) ∙ ap (λ k. 2 ^ k) (omega arith) in
    rw (p, h, r) (times_twice x (2 ^ (n / 2)) (2 ^ (n - n / 2)) ∙ ap (λ k. x *ℤ pos k) e)

pub half_out : (x half : ℤ) (n : ℕ) → half ≡ pos (2 ^ (n / 2)) → (FitsSigned w128 (x *ℤ half) → ⊥) → in_range_or_fault (x *ℤ pos (2 ^ n)) ≡ Err Overflow
half_out x half n h out = out_times x (2 ^ (n / 2)) (2 ^ n) (pow_mono (omega arith)) (rw h at out)

fits_kept : (z : ℤ) → FitsSigned w128 z → in_range_or_fault z ≡ Ok z
fits_kept (pos n) h = grind (arith, common_steps)
fits_kept (negsuc n) h = grind (arith, common_steps)

out_refused : (z : ℤ) → (FitsSigned w128 z → ⊥) → in_range_or_fault z ≡ Err Overflow
out_refused (pos n) h = grind (arith, common_steps)
out_refused (negsuc n) h = grind (arith, common_steps)

-- what a checked operation gives
pub checked : (o : Option ℤ) (z : ℤ) → SomeIff o (FitsSigned w128 z) z → ok_or o Overflow ≡ in_range_or_fault z
checked None z h = sym (out_refused z h)
checked (Some y) z h = ap Ok h.1 ∙ sym (fits_kept z h.0)

-- no number but 0 can be shifted by more than 127
beyond : (k n : ℕ) → 127 < n → 2 ^ 127 < suc k * 2 ^ n
beyond k n h = let m : 1 * 2 ^ 128 ≤ suc k * 2 ^ n = mul-le 1 (2 ^ 128) (suc k) (2 ^ n) (omega arith) (pow_mono h) in omega arith

pub shifted_far : (x count : ℤ) → (x ≢ pos 0) → int_lt (pos 127) count ≡ true → kept (shifted_left x count) ≡ Err Overflow
shifted_far (pos zero) (pos n) h far = absurd (h refl)
shifted_far (pos (suc k)) (pos n) h far = let b : 2 ^ 127 < suc k * 2 ^ n = beyond k n (ltb-true 127 n far) in grind (arith, common_steps)
shifted_far (negsuc k) (pos n) h far = neg_out (suc k * 2 ^ n) (beyond k n (ltb-true 127 n far))
shifted_far x (negsuc n) h far = absurd (false≢true far)

-- only the sign is left after 127 bits
sign_left : (a n : ℕ) → a < 2 ^ 127 → 127 < n → a / 2 ^ n ≡ a / 2 ^ 127
sign_left a n h far = let m : 2 ^ 127 ≤ 2 ^ n = pow_mono {i = 127} {j = n} (omega arith) in div-eq_of_lt (omega arith) ∙ sym (div-eq_of_lt h)

shr_far : (x : ℤ) (n : ℕ) → FitsSigned w128 x → 127 < n → int_shr x n ≡ int_shr x 127
shr_far (pos a) n h far = ap pos (sign_left a n (omega arith) far)
shr_far (negsuc a) n h far = ap negsuc (sign_left a n (omega arith) far)

fits_shr : (x : ℤ) (n : ℕ) → FitsSigned w128 x → FitsSigned w128 (int_shr x n)
fits_shr (pos a) n h = record { sfits = omega (arith, shr_le a n) }
fits_shr (negsuc a) n h = record { sfits = omega (arith, shr_le a n) }

pub shifted_right_far : (x count : ℤ) → FitsSigned w128 x → int_lt (pos 127) count ≡ true → Ok (to_z w128 (of_z w128 (int_shr (to_z w128 (of_z w128 x)) 127))) ≡ kept (shifted_right x count)
shifted_right_far x (negsuc n) h far = absurd (false≢true far)
shifted_right_far x (pos n) h far =
    let f : FitsSigned w128 (int_shr x 127) = fits_shr x 127 h in
    rw (to_z-of_z w128 x h, to_z-of_z w128 (int_shr x 127) f, shr_far x n h (ltb-true 127 n far)) (sym (fits_kept (int_shr x 127) f))
