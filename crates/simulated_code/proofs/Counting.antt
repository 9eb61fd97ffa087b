-- The number and the index of a `range`, and the words that they stand as.
use Rattle.std.proofs.Common.{◌≡◌, ℕ, suc, ◌+◌, ◌<◌, ◌^◌, ℤ, pos, negsuc, Bool, true, false, Ok, refl, sym, ap, ◌∙◌, subst, arith, mod-eq_of_lt}
use Rattle.std.specs.Prelude.{◌-◌, int_lt, nat_lt, unsigned_abs}
use mir.Val.{sel}
use Rattle.std.specs.Int.{w64, cast_signed, cast_unsigned, int_wrapping_add}
use Rattle.std.proofs.lemmas.Bool.{lt-ltb, le-ltb, ltb-true}
use Rattle.std.proofs.lemmas.Int.{to_z_pos}
use Rattle.typed_syntax.specs.Value.{int}
use Rattle.meaning.specs.Meaning.{count_of}
use Rattle.isa.specs.Bin.{bit_of, bin_of, of_numbers}
use Rattle.isa.specs.declared.instr.BinOp.TheVariants.{Add, Less}
use Rattle.state_relation.proofs.Words.{Spells}

pub bit_small : (r : Bool) → bit_of r < 2 ^ 64
bit_small true = omega arith
bit_small false = omega arith

-- how many rounds are left at an index
abbrev pub Remains : ℤ → (i left : ℕ) → Type 0
Remains (pos n) i left = i + left ≡ n
Remains (negsuc n) i left = left ≡ 0

pub remains_first : (z : ℤ) → Remains z 0 (count_of (int z))
remains_first (pos n) = omega arith
remains_first (negsuc n) = refl

pub remains_next : (z : ℤ) (i left : ℕ) → Remains z i (suc left) → Remains z (suc i) left
remains_next (pos n) i left r = omega arith
remains_next (negsuc n) i left r = absurd (omega arith)

-- the comparison tells whether one is
pub none_less : (z : ℤ) (i : ℕ) → Remains z i 0 → int_lt (pos i) z ≡ false
none_less (pos n) i r = le-ltb i n (omega arith)
none_less (negsuc n) i r = refl

pub some_less : (z : ℤ) (i left : ℕ) → Remains z i (suc left) → int_lt (pos i) z ≡ true
some_less (pos n) i left r = lt-ltb i n (omega arith)
some_less (negsuc n) i left r = absurd (omega arith)

pub less_bit : (x y : ℕ) (a c : ℤ) → cast_signed w64 x ≡ a → cast_signed w64 y ≡ c → bin_of Less x y ≡ Ok (bit_of (int_lt a c))
less_bit x y a c ea ec = ap (λ u. of_numbers Less u (cast_signed w64 y)) ea ∙ ap (of_numbers Less a) ec

-- a number that a word stands for is below half the range
small : (y n : ℕ) → cast_signed w64 y ≡ pos n → n < 2 ^ 63
small y n e = by (nat_lt y (2 ^ 63)) refl
  where
    by : (t : Bool) → nat_lt y (2 ^ 63) ≡ t → n < 2 ^ 63
    by true l = (let below = ltb-true y (2 ^ 63) l in let same : pos y ≡ pos n = sym (to_z_pos w64 y below) ∙ e in let number : y ≡ n = ap unsigned_abs same in omega arith)
    by false l = absurd (let none : pos n ≡ negsuc (2 ^ 64 - suc y) = sym e ∙ ap (λ t. sel t (pos y) (negsuc (2 ^ 64 - suc y))) l in cc)

-- an index below the number has a next one
pub next_index : (z : ℤ) (i left x y : ℕ) → Remains z i (suc left) → cast_signed w64 x ≡ pos i → cast_signed w64 y ≡ z → (word : ℕ) × ((bin_of Add x 1 ≡ Ok word) × Spells (int (pos (suc i))) word)
next_index (negsuc n) i left x y r ex ey = absurd (omega arith)
next_index (pos n) i left x y r ex ey =
    let top = small y n ey in
    let one : i + 1 ≡ suc i = omega arith in
    let sum : int_wrapping_add w64 (pos i) (pos 1) ≡ pos (suc i) = ap (cast_signed w64) (mod-eq_of_lt {n = i + 1} {m = 2 ^ 64} (omega arith)) ∙ to_z_pos w64 (i + 1) (omega arith) ∙ ap pos one in (
      _,
      (
        ap (λ u. of_numbers Add u (pos 1)) ex,
        subst (λ u. Spells (int (pos (suc i))) (cast_unsigned w64 u)) (sym sum) (to_z_pos w64 (suc i) (omega arith), omega arith),
      ),
    )
