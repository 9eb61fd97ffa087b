-- A number of up to seven digits has room for one more in 32 bits.
use Rattle.std.proofs.Common.{ℕ, ◌<◌, ◌≤◌, arith}
use Rattle.std.specs.Prelude.{◌^◌}
use Rattle.std.proofs.Math.Nat.{pow-le-pow_right}

pub has_room : (v i : ℕ) → v < 16 ^ i → i < 8 → v < 2 ^ 28
has_room v i small few =
    let grown : 16 ^ i ≤ 16 ^ 7 = pow-le-pow_right {n = 16} (omega arith) {i = i} {j = 7} (omega arith) in
    omega arith
