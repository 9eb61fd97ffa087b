-- Lines that are taken part by part.
use Rattle.std.proofs.Common.{◌≡◌, ℕ, ◌+◌, ◌<◌, List, [], ◌∷◌, ◌++◌, length, take, drop, get_or, drop-cons, add-one, refl, sym, ap, ◌∙◌, append_assoc, append-nil}
use Rattle.std.specs.Prelude.{Option}
use Rattle.std.proofs.lemmas.List.{take-append-drop}
use Rattle.std.proofs.Math.Seq.{take-suc}
use Rattle.outside.specs.declared.line.LinePart.{LinePart}
use Rattle.outside.specs.Line.{text_of, part_text, StoppedIn}
use Rattle.outside.specs.Took.{Took, TookPrefix}
use Rattle.outside.proofs.Took.{Took-trans}

pub text_of-append : (xs ys : List LinePart) → text_of (xs ++ ys) ≡ text_of xs ++ text_of ys
text_of-append [] ys = refl
text_of-append (x ∷ xs) ys =
    ap (λ (l : List ℕ). part_text x ++ l) (text_of-append xs ys) ∙ sym (append_assoc (part_text x) (text_of xs) (text_of ys))

-- a part more
pub line_more : (a b c : Option (List ℕ)) (parts : List LinePart) (i : ℕ) (d : LinePart) → i < length parts
    → Took a b (text_of (take i parts)) → Took b c (part_text (get_or parts i d))
    → Took a c (text_of (take (i + 1) parts))
line_more a b c parts i d below before now =
    let one : text_of (take (i + 1) parts) ≡ text_of (take i parts) ++ part_text (get_or parts i d) =
    rw (add-one, take-suc parts i d) (text_of-append (take i parts) (get_or parts i d ∷ []) ∙ ap (λ (l : List ℕ). text_of (take i parts) ++ l) (append-nil (part_text (get_or parts i d)))) in
    rw one (Took-trans a b c _ _ before now)

-- the front of a part more
pub line_stopped : (a b c : Option (List ℕ)) (parts : List LinePart) (i gone : ℕ) (d : LinePart) → i < length parts
    → gone < length (part_text (get_or parts i d))
    → Took a b (text_of (take i parts)) → Took b c (take gone (part_text (get_or parts i d)))
    → StoppedIn a c parts gone
line_stopped a b c parts i gone d below within before now = record {
  before = take i parts;
  part = get_or parts i d;
  after = drop (i + 1) parts;
  splits = rw (add-one, ← drop-cons parts i d below) (take-append-drop i parts);
  within = within;
  took = Took-trans a b c _ _ before now;
}

-- then a prefix of the line was taken
pub line_prefix : (a c : Option (List ℕ)) (parts : List LinePart) (gone : ℕ) → StoppedIn a c parts gone → TookPrefix a c (text_of parts)
line_prefix a c parts gone s =
    let before : List ℕ = text_of s.before in
    let front : List ℕ = take gone (part_text s.part) in
    let back : List ℕ = drop gone (part_text s.part) in
    let after : List ℕ = text_of s.after in
    let whole : before ++ (part_text s.part ++ after) ≡ text_of parts =
    sym (text_of-append s.before (s.part ∷ s.after)) ∙ ap text_of s.splits in
    let joined : front ++ (back ++ after) ≡ part_text s.part ++ after =
    sym (append_assoc front back after) ∙ ap (λ (l : List ℕ). l ++ after) (take-append-drop gone (part_text s.part)) in (
      back ++ after,
      record {
        done = before ++ front;
        splits = append_assoc before front (back ++ after) ∙ ap (λ (l : List ℕ). before ++ l) joined ∙ whole;
        took = s.took;
      },
    )
