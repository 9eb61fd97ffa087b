-- The end of a string and the first fault in it, found from left to right.
use Rattle.std.proofs.Common.{◌≡◌, ℕ, ◌+◌, ◌<◌, ◌≤◌, Bool, true, false, List, ◌∷◌, length, get_or, drop, Option, None, Some, refl, sym, ap, ◌∙◌, arith}
use Rattle.std.proofs.lemmas.List.{drop_more, drop_all}
use Rattle.scan_go.specs.declared.fault.FaultKind.{FaultKind}
use Rattle.scan_go.specs.Characters.{is_within_line}
use Rattle.scan_go.specs.Comments.{later}
use Rattle.scan_go.specs.Strings.{closes, hides, closing, fault_at, fault_within, farther, here_or}

later-later : (i : ℕ) (o : Option ℕ) → later i (later 1 o) ≡ later (i + 1) o
later-later i None = refl
later-later i (Some n) = ap Some (omega arith)

pub later-zero : (o : Option ℕ) → later 0 o ≡ o
later-zero None = refl
later-zero (Some n) = ap Some (omega arith)

cons_line : (h : Bool) (b : ℕ) (rest : List ℕ) → is_within_line b ≡ false → closing h (b ∷ rest) ≡ None
unfolding closing
cons_line h b rest is = rw is refl

cons_quote : (h : Bool) (b : ℕ) (rest : List ℕ) → is_within_line b ≡ true → closes h b ≡ true → closing h (b ∷ rest) ≡ Some 1
unfolding closing
cons_quote h b rest line quote = rw (line, quote) refl

cons_other : (h : Bool) (b : ℕ) (rest : List ℕ) → is_within_line b ≡ true → closes h b ≡ false → closing h (b ∷ rest) ≡ later 1 (closing (hides h b) rest)
unfolding closing
cons_other h b rest line quote = rw (line, quote) refl

pub ends_line : (rest : List ℕ) (h : Bool) (i : ℕ) → i < length rest → is_within_line (get_or rest i 0) ≡ false → later i (closing h (drop i rest)) ≡ None
ends_line rest h i lt is =
    ap (λ (r : List ℕ). later i (closing h r)) (drop_more rest i 0 lt) ∙ ap (later i) (cons_line h (get_or rest i 0) (drop (i + 1) rest) is)

pub ends_here : (rest : List ℕ) (h : Bool) (i : ℕ) → i < length rest → is_within_line (get_or rest i 0) ≡ true → closes h (get_or rest i 0) ≡ true
    → later i (closing h (drop i rest)) ≡ Some (i + 1)
ends_here rest h i lt line quote =
    ap (λ (r : List ℕ). later i (closing h r)) (drop_more rest i 0 lt) ∙ ap (later i) (cons_quote h (get_or rest i 0) (drop (i + 1) rest) line quote)

pub ends_later : (rest : List ℕ) (h : Bool) (i : ℕ) → i < length rest → is_within_line (get_or rest i 0) ≡ true → closes h (get_or rest i 0) ≡ false
    → later i (closing h (drop i rest)) ≡ later (i + 1) (closing (hides h (get_or rest i 0)) (drop (i + 1) rest))
ends_later rest h i lt line quote =
    ap (λ (r : List ℕ). later i (closing h r)) (drop_more rest i 0 lt) ∙ ap (later i) (cons_other h (get_or rest i 0) (drop (i + 1) rest) line quote)
    ∙ later-later i (closing (hides h (get_or rest i 0)) (drop (i + 1) rest))

pub no_end : (rest : List ℕ) (h : Bool) (i : ℕ) → length rest ≤ i → later i (closing h (drop i rest)) ≡ None
unfolding closing
no_end rest h i le = rw (drop_all i rest le) refl

-- ---- faults

abbrev pub after : ℕ → Option (FaultKind × ℕ) → Option (FaultKind × ℕ)
after n None = None
after n (Some f) = Some (f.0, n + f.1)

abbrev placed : FaultKind → ℕ → Option (FaultKind × ℕ)
placed kind n = Some (kind, n)

after-farther : (i : ℕ) (o : Option (FaultKind × ℕ)) → after i (farther o) ≡ after (i + 1) o
after-farther i None = refl
after-farther i (Some f) = ap (placed f.0) (omega arith)

pub after-zero : (o : Option (FaultKind × ℕ)) → after 0 o ≡ o
after-zero None = refl
after-zero (Some f) = ap (placed f.0) (omega arith)

cons_fault : (h : Bool) (b : ℕ) (rest : List ℕ) → fault_within h (b ∷ rest) ≡ here_or (fault_at h (b ∷ rest)) (fault_within (hides h b) rest)
unfolding fault_within
cons_fault h b rest = refl

from : (rest : List ℕ) (h : Bool) (i : ℕ) → i < length rest
    → fault_within h (drop i rest) ≡ here_or (fault_at h (drop i rest)) (fault_within (hides h (get_or rest i 0)) (drop (i + 1) rest))
from rest h i lt =
    let e = drop_more rest i 0 lt in
    ap (fault_within h) e ∙ cons_fault h (get_or rest i 0) (drop (i + 1) rest)
    ∙ ap (λ (r : List ℕ). here_or (fault_at h r) (fault_within (hides h (get_or rest i 0)) (drop (i + 1) rest))) (sym e)

pub fault_here : (rest : List ℕ) (h : Bool) (i : ℕ) (kind : FaultKind) → i < length rest → fault_at h (drop i rest) ≡ Some kind
    → after i (fault_within h (drop i rest)) ≡ Some (kind, i)
fault_here rest h i kind lt is =
    ap (after i) (from rest h i lt ∙ ap (λ (o : Option FaultKind). here_or o (fault_within (hides h (get_or rest i 0)) (drop (i + 1) rest))) is)
    ∙ ap (placed kind) (omega arith)

pub fault_later : (rest : List ℕ) (h : Bool) (i : ℕ) → i < length rest → fault_at h (drop i rest) ≡ None
    → after i (fault_within h (drop i rest)) ≡ after (i + 1) (fault_within (hides h (get_or rest i 0)) (drop (i + 1) rest))
fault_later rest h i lt is =
    ap (after i) (from rest h i lt ∙ ap (λ (o : Option FaultKind). here_or o (fault_within (hides h (get_or rest i 0)) (drop (i + 1) rest))) is)
    ∙ after-farther i (fault_within (hides h (get_or rest i 0)) (drop (i + 1) rest))

pub no_fault : (rest : List ℕ) (h : Bool) (i : ℕ) → length rest ≤ i → after i (fault_within h (drop i rest)) ≡ None
unfolding fault_within
no_fault rest h i le = rw (drop_all i rest le) refl
