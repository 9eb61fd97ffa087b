-- Positions of a source text, as a panic names them. They show nothing, and decide nothing.
use Rattle.std.specs.Prelude.{ℕ}

pub record Position : Type 0 where
  pub offset : ℕ
  pub line : ℕ
  pub col : ℕ
