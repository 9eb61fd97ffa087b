-- The operands that are shown.
use Rattle.std.proofs.Common.{◌≡◌, ◌≢◌, ℕ, zero, suc, ◌+◌, ◌<◌, true, List, [], ◌∷◌, length, map, refl, ap, arith}
use Rattle.base.specs.declared.ids.SiteId.{SiteId}
use Rattle.isa.specs.declared.instr.Instr.TheVariants.{PrintSpace}
use Rattle.typed.specs.declared.stmt.Piece.{Piece as PieceData}
use Rattle.typed_syntax.specs.Types.{ints, bools}
use Rattle.typed_syntax.specs.Syntax.{Piece, Program, text, shown}
use Rattle.typed.specs.View.{piece_of, type_of}
use Rattle.program_code.specs.Code.{Slots, more_size, shown_size, named_read_size, renew_size, show_line, show_more, show_plain}
use Rattle.codegen.specs.Frame.{show_piece, temp_behind, ShownFit}
use Rattle.codegen.specs.Temps.{PiecesFitIn}

more_twice : (ps : List PieceData) → more_size (map piece_of ps) ≡ length ps + length ps + 1
more_twice [] = refl
more_twice (p ∷ ps) = omega (arith, more_twice ps)

-- each operand of a line wants two instructions
pub line_twice : (ps : List PieceData) → 0 < length ps → shown_size true (map piece_of ps) ≡ length ps + length ps
line_twice [] l = absurd (omega arith)
line_twice (p ∷ ps) l = omega (arith, more_twice ps)

-- each result with a name, and each variable of a loop, wants two
pub named_twice : (sites : List SiteId) → named_read_size (map (λ site. site.0) sites) ≡ length sites + length sites
named_twice [] = refl
named_twice (site ∷ sites) = omega (arith, named_twice sites)

pub renewed_thrice : (sites : List SiteId) → renew_size (map (λ site. site.0) sites) ≡ length sites + length sites + length sites
renewed_thrice [] = refl
renewed_thrice (site ∷ sites) = omega (arith, renewed_thrice sites)

-- operands whose values have temps can be shown
pub shown_fit : (p : Program) (s : Slots) (n h : ℕ) (ps : List Piece) → PiecesFitIn p s n h ps → ShownFit s h ps
shown_fit p s n h [] f = tt
shown_fit p s n h (text number ∷ ps) f = shown_fit p s n h ps f
shown_fit p s n h (shown t e ∷ ps) f = (f.0, shown_fit p s n (h + 1) ps f.2)

-- the type of truth values, and the others
pub is_bool : (t : ℕ) → t ≡ 1 → type_of t ≡ bools
is_bool t e = ap type_of e

pub is_int : (t : ℕ) → t ≢ 1 → type_of t ≡ ints
is_int zero other = refl
is_int (suc zero) other = absurd (other refl)
is_int (suc (suc t)) other = refl

-- the first operand and the others
pub more_first : (s : Slots) (q : Piece) (ps : List Piece) (h : ℕ) → show_more s (q ∷ ps) h ≡ PrintSpace ∷ show_piece s q h ∷ show_more s ps (temp_behind q h)
more_first s (text number) ps h = refl
more_first s (shown t e) ps h = refl

pub line_first : (s : Slots) (q : Piece) (ps : List Piece) (h : ℕ) → show_line s (q ∷ ps) h ≡ show_piece s q h ∷ show_more s ps (temp_behind q h)
line_first s (text number) ps h = refl
line_first s (shown t e) ps h = refl

pub plain_first : (s : Slots) (q : Piece) (ps : List Piece) (h : ℕ) → show_plain s (q ∷ ps) h ≡ show_piece s q h ∷ show_plain s ps (temp_behind q h)
plain_first s (text number) ps h = refl
plain_first s (shown t e) ps h = refl

pub fit_first : (s : Slots) (q : Piece) (ps : List Piece) (h : ℕ) → ShownFit s h (q ∷ ps) → ShownFit s h (q ∷ [])
fit_first s (text number) ps h f = tt
fit_first s (shown t e) ps h f = (f.0, tt)

pub fit_others : (s : Slots) (q : Piece) (ps : List Piece) (h : ℕ) → ShownFit s h (q ∷ ps) → ShownFit s (temp_behind q h) ps
fit_others s (text number) ps h f = f
fit_others s (shown t e) ps h f = f.1
