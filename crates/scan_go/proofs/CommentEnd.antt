-- The end of a comment, found from left to right.
use Rattle.std.proofs.Common.{◌≡◌, ℕ, ◌+◌, ◌<◌, ◌≤◌, true, false, List, ◌∷◌, length, get_or, drop, Option, Some, None, refl, sym, ap, ◌∙◌, arith}
use Rattle.std.specs.Prelude.{nat_eq, codes}
use Rattle.std.specs.List.{starts_with}
use Rattle.std.proofs.lemmas.List.{drop_more, drop_all}
use Rattle.scan_go.specs.Comments.{comment_end, later}

later-later : (i : ℕ) (o : Option ℕ) → later i (later 1 o) ≡ later (i + 1) o
later-later i None = refl
later-later i (Some n) = ap Some (omega arith)

end_cons : (b : ℕ) (rest : List ℕ) → starts_with nat_eq (b ∷ rest) (codes "*/") ≡ false → comment_end (b ∷ rest) ≡ later 1 (comment_end rest)
unfolding comment_end
end_cons b rest other = rw other refl

end_front : (b : ℕ) (rest : List ℕ) → starts_with nat_eq (b ∷ rest) (codes "*/") ≡ true → comment_end (b ∷ rest) ≡ Some 2
unfolding comment_end
end_front b rest closes = rw closes refl

pub end_later : (rest : List ℕ) (i : ℕ) → i < length rest → starts_with nat_eq (drop i rest) (codes "*/") ≡ false
    → later i (comment_end (drop i rest)) ≡ later (i + 1) (comment_end (drop (i + 1) rest))
end_later rest i lt other =
    let e = drop_more rest i 0 lt in
    ap (λ (r : List ℕ). later i (comment_end r)) e ∙ ap (later i) (end_cons (get_or rest i 0) (drop (i + 1) rest) (ap (λ (r : List ℕ). starts_with nat_eq r (codes "*/")) (sym e) ∙ other)) ∙ later-later i (comment_end (drop (i + 1) rest))

pub end_here : (rest : List ℕ) (i : ℕ) → i < length rest → starts_with nat_eq (drop i rest) (codes "*/") ≡ true
    → later i (comment_end (drop i rest)) ≡ Some (i + 2)
end_here rest i lt closes =
    let e = drop_more rest i 0 lt in
    ap (λ (r : List ℕ). later i (comment_end r)) e ∙ ap (later i) (end_front (get_or rest i 0) (drop (i + 1) rest) (ap (λ (r : List ℕ). starts_with nat_eq r (codes "*/")) (sym e) ∙ closes))

pub end_nowhere : (rest : List ℕ) (i : ℕ) → length rest ≤ i → later i (comment_end (drop i rest)) ≡ None
unfolding comment_end
end_nowhere rest i le = rw (drop_all i rest le) refl
