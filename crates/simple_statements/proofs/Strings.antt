-- Strings after those of a scope, and the operands that name them, one after the other.
use Rattle.std.proofs.Common.{◌≡◌, ℕ, ◌+◌, List, [], ◌∷◌, ◌++◌, length, map, refl, ap, ◌∙◌, arith, append-nil, append_assoc}
use Rattle.std.proofs.lemmas.List.{map-append}
use Rattle.typed_syntax.specs.Syntax.{Piece, shown}
use Rattle.typed.specs.View.{piece_of}
use Rattle.typed.specs.declared.stmt.Piece.{Piece as PieceData}
use Rattle.names.specs.Scope.{Scope, with_strings}
use Rattle.given_values.specs.Given.{Part, said, valued}
use Rattle.simple_statements.specs.SimpleStatements.{strings_of, piece_from, pieces_from}

pub no_strings : (s : Scope) → with_strings s [] ≡ s
no_strings s = ap (λ (l : List (List ℕ)). record s { strings = l }) (append-nil s.strings)

pub strings_twice : (s : Scope) (a b : List (List ℕ)) → with_strings (with_strings s a) b ≡ with_strings s (a ++ b)
strings_twice s a b = ap (λ (l : List (List ℕ)). record s { strings = l }) (append_assoc s.strings a b)

pub strings_first : (p : Part) (ps : List Part) → strings_of (p ∷ []) ++ strings_of ps ≡ strings_of (p ∷ ps)
strings_first (said bytes) ps = refl
strings_first (valued t e) ps = refl

pub pieces_first : (n : ℕ) (p : Part) (ps : List Part) → pieces_from n (p ∷ ps) ≡ piece_from n p ∷ pieces_from (length (strings_of (p ∷ [])) + n) ps
pieces_first n (said bytes) ps = refl
pieces_first n (valued t e) ps = let same : n ≡ 0 + n = omega arith in ap (λ k. shown t e ∷ pieces_from k ps) same

-- one more operand
pub piece_more : (so_far : List PieceData) (q : PieceData) (rest : List Piece) → map piece_of (so_far ++ q ∷ []) ++ rest ≡ map piece_of so_far ++ (piece_of q ∷ rest)
piece_more so_far q rest = ap (λ l. l ++ rest) (map-append piece_of so_far (q ∷ [])) ∙ append_assoc (map piece_of so_far) (piece_of q ∷ []) rest
