-- Strings that there are, and `break` and `continue` inside loops alone.
use Rattle.std.specs.Prelude.{◌≡◌, ℕ, suc, ◌<◌, ⊤, Bool, true, false, List, [], ◌∷◌, length}
use Rattle.typed_syntax.specs.Types.{TypeTree}
use Rattle.typed_syntax.specs.Syntax.{Piece, St, Sts, Program, blank, new, to, text, shown, over_int, over_length, over_copy, over_slice, over_pointer, over_pointed, declare, assign, update, bump, discard, block, if_stmt, for_stmt, range, break_stmt, continue_stmt, return_stmt, print, panic, exit, done, next}
use Rattle.typed_syntax.specs.Form.{lefts_after, declared_after, all_sites_after, scope_behind, scope_after, PieceFits, PiecesFit, StFits, StsFit}

abbrev pub PieceWithin : (strings : ℕ) → Piece → Type 0
PieceWithin strings (text number) = number < strings
PieceWithin strings (shown t e) = ⊤

abbrev pub PiecesWithin : (strings : ℕ) → List Piece → Type 0
PiecesWithin strings [] = ⊤
PiecesWithin strings (q ∷ ps) = PieceWithin strings q × PiecesWithin strings ps

-- the statements of a code with `strings` strings; `looped` where a loop is around them
abbrev mutual
  pub StWithin : (strings : ℕ) (looped : Bool) → St → Type 0
  StWithin strings looped (block ss) = StsWithin strings looped ss
  StWithin strings looped (if_stmt e a b) = StsWithin strings looped a × StsWithin strings looped b
  StWithin strings looped (for_stmt sites test post body) = StsWithin strings false post × StsWithin strings true body
  StWithin strings looped (range over key value body) = StsWithin strings true body
  StWithin strings looped break_stmt = looped ≡ true
  StWithin strings looped continue_stmt = looped ≡ true
  StWithin strings looped (print line ps) = PiecesWithin strings ps
  StWithin strings looped (panic at q) = PieceWithin strings q
  StWithin strings looped (declare sites) = ⊤
  StWithin strings looped (assign ls es) = ⊤
  StWithin strings looped (update at p op e) = ⊤
  StWithin strings looped (bump at p op) = ⊤
  StWithin strings looped (discard es) = ⊤
  StWithin strings looped (return_stmt es) = ⊤
  StWithin strings looped (exit at e) = ⊤

  pub StsWithin : (strings : ℕ) (looped : Bool) → Sts → Type 0
  StsWithin strings looped done = ⊤
  StsWithin strings looped (next x xs) = StWithin strings looped x × StsWithin strings looped xs

module _ (p : Program) (wanted : List TypeTree) (named : ℕ) where
  piece_within : (scope : List ℕ) (q : Piece) → PieceFits p scope q → PieceWithin (length p.strings) q
  piece_within scope (text number) f = f
  piece_within scope (shown t e) f = tt

  pieces_within : (scope : List ℕ) (ps : List Piece) → PiecesFit p scope ps → PiecesWithin (length p.strings) ps
  pieces_within scope [] f = tt
  pieces_within scope (q ∷ ps) f = (piece_within scope q f.0, pieces_within scope ps f.1)

  -- those that fit are such
  mutual
    st_within : (looped : Bool) (scope : List ℕ) (m n : ℕ) (t : St) → StFits p wanted named looped scope m n t → StWithin (length p.strings) looped t
    st_within looped scope m n (declare sites) f = tt
    st_within looped scope m n (assign ls es) f = tt
    st_within looped scope m n (update at q op e) f = tt
    st_within looped scope m n (bump at q op) f = tt
    st_within looped scope m n (discard es) f = tt
    st_within looped scope m n (block ss) f = sts_within looped scope m n ss f
    st_within looped scope m n (if_stmt e a b) f = (sts_within looped scope m n a f.1, sts_within looped scope (all_sites_after m a) n b f.2)
    st_within looped scope m n (for_stmt sites test post body) f = (sts_within false scope m n post f.2, sts_within true scope (all_sites_after m post) n body f.3)
    st_within looped scope m n (range (over_int e) key blank body) f = sts_within true (scope_behind scope (key ∷ [])) (lefts_after m (key ∷ [])) n body f.2
    st_within looped scope m n (range (over_int e) key (new site) body) f = absurd f
    st_within looped scope m n (range (over_int e) key (to q) body) f = absurd f
    st_within looped scope m n (range (over_length x) key blank body) f = sts_within true (scope_behind scope (key ∷ [])) (lefts_after m (key ∷ [])) n body f.2
    st_within looped scope m n (range (over_length x) key (new site) body) f = absurd f
    st_within looped scope m n (range (over_length x) key (to q) body) f = absurd f
    st_within looped scope m n (range (over_copy site e x) key value body) f =
        sts_within true (scope_behind (site ∷ scope) (key ∷ value ∷ [])) (suc site) n body f.7
    st_within looped scope m n (range (over_pointer at e x t) key value body) f = sts_within true (scope_behind scope (key ∷ value ∷ [])) (lefts_after m (key ∷ value ∷ [])) n body f.7
    st_within looped scope m n (range (over_pointed x) key blank body) f = sts_within true (scope_behind scope (key ∷ [])) (lefts_after m (key ∷ [])) n body f.2
    st_within looped scope m n (range (over_pointed x) key (new site) body) f = absurd f
    st_within looped scope m n (range (over_pointed x) key (to q) body) f = absurd f
    st_within looped scope m n (range (over_slice e t) key value body) f = sts_within true (scope_behind scope (key ∷ value ∷ [])) (lefts_after m (key ∷ value ∷ [])) n body f.3
    st_within looped scope m n break_stmt f = f
    st_within looped scope m n continue_stmt f = f
    st_within looped scope m n (return_stmt es) f = tt
    st_within looped scope m n (print line ps) f = pieces_within scope ps f
    st_within looped scope m n (panic at q) f = piece_within scope q f
    st_within looped scope m n (exit at e) f = tt

    pub sts_within : (looped : Bool) (scope : List ℕ) (m n : ℕ) (ss : Sts) → StsFit p wanted named looped scope m n ss → StsWithin (length p.strings) looped ss
    sts_within looped scope m n done f = tt
    sts_within looped scope m n (next x xs) f = (st_within looped scope m n x f.0, sts_within looped (scope_after scope x) (declared_after m x) n xs f.1)
