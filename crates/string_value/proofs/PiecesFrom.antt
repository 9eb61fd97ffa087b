-- The pieces of what is left, from the piece at its front on.
use Rattle.std.proofs.Common.{◌≡◌, ℕ, zero, suc, ◌-◌, ◌<◌, List, [], ◌∷◌, ◌++◌, length, drop, flat_map, refl, sym, ap, ◌∙◌, arith}
use Rattle.std.proofs.lemmas.List.{append_assoc, append-nil}
use Rattle.string_value.specs.declared.piece.Piece.{Piece}
use Rattle.string_value.specs.Pieces.{first_piece}
use Rattle.string_value.specs.StringValue.{bytes_of, meanings}

skipped : (n : ℕ) (rest : List ℕ) → meanings n rest ≡ meanings 0 (drop n rest)
unfolding meanings
skipped zero rest = refl
skipped (suc n) [] = refl
skipped (suc n) (b ∷ rest) = skipped n rest

after : (n : ℕ) (b : ℕ) (rest : List ℕ) → 0 < n → drop (n - 1) rest ≡ drop n (b ∷ rest)
after zero b rest some = absurd (omega arith)
after (suc n) b rest some = ap (λ k. drop k rest) (omega arith)

cut : (rest : List ℕ) (p : Piece) → 0 < length rest → p ≡ first_piece rest → 0 < p.len
    → meanings 0 rest ≡ p.meaning ∷ meanings 0 (drop p.len rest)
unfolding meanings
cut [] p some is long = absurd (omega arith)
cut (b ∷ rest) p some is long =
    rw (← is) (ap (λ ps. p.meaning ∷ ps) (skipped (p.len - 1) rest ∙ ap (meanings 0) (after p.len b rest long)))

-- the value of what is left is that of its first piece, and of what is left after it
pub with_piece : (done rest : List ℕ) (p : Piece) → 0 < length rest → p ≡ first_piece rest → 0 < p.len
    → (done ++ bytes_of p.meaning) ++ flat_map bytes_of (meanings 0 (drop p.len rest)) ≡ done ++ flat_map bytes_of (meanings 0 rest)
with_piece done rest p some is long =
    append_assoc done (bytes_of p.meaning) (flat_map bytes_of (meanings 0 (drop p.len rest)))
    ∙ ap (λ ps. done ++ flat_map bytes_of ps) (sym (cut rest p some is long))

pub at_end : (done rest : List ℕ) → length rest ≡ 0 → done ++ flat_map bytes_of (meanings 0 rest) ≡ done
unfolding meanings
at_end done [] none = append-nil done
at_end done (b ∷ rest) none = absurd (omega arith)
