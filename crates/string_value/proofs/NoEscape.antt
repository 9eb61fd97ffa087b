-- After the last byte stands no escape.
use Rattle.std.proofs.Common.{◌≡◌, ℕ, List, [], ◌∷◌, length, refl, arith}
use Rattle.string_value.specs.Pieces.{simple_escape, escape, bare_backslash}

pub at_end : (rest : List ℕ) → length rest ≡ 0 → bare_backslash ≡ escape rest
unfolding simple_escape escape
at_end [] none = refl
at_end (b ∷ rest) none = absurd (omega arith)
