-- What places and left sides want by themselves, and with what comes with them or stands after them.
use Rattle.std.proofs.Common.{◌≡◌, ℕ, ◌+◌, ◌<◌, List, [], ◌∷◌, ◌++◌, length, get_or, take, map, max, refl, ap, ◌∙◌, add-one, arith}
use Rattle.std.proofs.Math.Seq.{take-suc}
use Rattle.std.proofs.lemmas.List.{map-append}
use Rattle.typed_syntax.specs.Syntax.{Steps, here, inner, at_index, Pl, local, global, indirect, slice_element, Left, blank, new, to, Program}
use Rattle.typed.specs.declared.stmt.Left.{Left as LeftData}
use Rattle.typed.specs.View.{left_of}
use Rattle.frames.specs.Frames.{steps_reach, place_reach, lefts_reach, lefts_need, place_need}

pub steps_others : (p : Program) (steps : Steps) (others : ℕ) → steps_reach p steps others ≡ max (steps_reach p steps 0) others
steps_others p here others = omega arith
steps_others p (inner i steps) others = steps_others p steps others
steps_others p (at_index at e n steps) others = omega (arith, steps_others p steps others)

pub place_others : (p : Program) (q : Pl) (others : ℕ) → place_reach p q others ≡ max (place_reach p q 0) others
place_others p (local site steps) others = steps_others p steps others
place_others p (global g steps) others = steps_others p steps others
place_others p (indirect at e n steps) others = omega (arith, steps_others p steps others)
place_others p (slice_element at e i n steps) others = omega (arith, steps_others p steps others)

pub lefts_others : (p : Program) (ls : List Left) (others : ℕ) → lefts_reach p ls others ≡ max (lefts_reach p ls 0) others
lefts_others p [] others = omega arith
lefts_others p (blank ∷ ls) others = lefts_others p ls others
lefts_others p (new site ∷ ls) others = lefts_others p ls others
lefts_others p (to q ∷ ls) others = omega (arith, place_others p q (lefts_reach p ls others), place_others p q (lefts_reach p ls 0), lefts_others p ls others)

-- the first of left sides and the others
pub lefts_first : (p : Program) (l : Left) (ls : List Left) (others : ℕ) → lefts_reach p (l ∷ ls) others ≡ max (lefts_reach p (l ∷ []) 0) (lefts_reach p ls others)
lefts_first p blank ls others = omega arith
lefts_first p (new site) ls others = omega arith
lefts_first p (to q) ls others = place_others p q (lefts_reach p ls others)

-- each of left sides is worked out in front of what is after it
lefts_last : (p : Program) (ls : List Left) (l : Left) (behind : ℕ) → lefts_need p (ls ++ l ∷ []) behind ≡ lefts_need p ls (lefts_need p (l ∷ []) behind)
lefts_last p [] l behind = refl
lefts_last p (blank ∷ ls) l behind = lefts_last p ls l behind
lefts_last p (new site ∷ ls) l behind = lefts_last p ls l behind
lefts_last p (to q ∷ ls) l behind = ap (place_need p q) (lefts_last p ls l behind)

pub pair_last : (p : Program) (k l : Left) (behind : ℕ) → lefts_need p (k ∷ l ∷ []) behind ≡ lefts_need p (k ∷ []) (lefts_need p (l ∷ []) behind)
pair_last p k l behind = lefts_last p (k ∷ []) l behind

pub taken_last : (p : Program) (ls : List LeftData) (i : ℕ) (d : LeftData) (behind : ℕ) → i < length ls
    → lefts_need p (map left_of (take (i + 1) ls)) behind ≡ lefts_need p (map left_of (take i ls)) (lefts_need p (left_of (get_or ls i d) ∷ []) behind)
taken_last p ls i d behind l =
    let taken : take (i + 1) ls ≡ take i ls ++ get_or ls i d ∷ [] = rw add-one (take-suc ls i d l) in
    ap (λ k. lefts_need p (map left_of k) behind) taken
    ∙ ap (λ k. lefts_need p k behind) (map-append left_of (take i ls) (get_or ls i d ∷ []))
    ∙ lefts_last p (map left_of (take i ls)) (left_of (get_or ls i d)) behind
