-- What one construct more adds to the nesting and to the number of parentheses.
use Rattle.std.proofs.Common.{◌≡◌, ℕ, ◌+◌, ◌<◌, ◌≤◌, Bool, true, false, List, [], ◌∷◌, length, take, get_or, refl, ap, ◌∙◌, arith}
use Rattle.std.specs.Prelude.{map, reverse}
use Rattle.std.proofs.lemmas.List.{take_more, map-append, reverse-append}
use Rattle.parse_expressions.specs.declared.frame.Frame.{Frame as CodeFrame}
use Rattle.parse_expressions.specs.Frames.{Frame, prefixed, enclosed, awaiting, calling, enclosed_type, open_depth, allows}
use Rattle.parse_expressions.specs.Stacks.{frame_of, frames_of, open_parentheses, levels, parentheses_of}

pub deeper : (b : ℕ) (f : Frame) (fs : List Frame) → open_depth b (f ∷ fs) ≡ open_depth b fs + levels f
deeper b (awaiting a pos op) fs = omega arith
deeper b f fs = omega arith

pub more_parentheses : (f : Frame) (fs : List Frame) → open_parentheses (f ∷ fs) ≡ open_parentheses fs + parentheses_of f
more_parentheses (enclosed pos) fs = omega arith
more_parentheses (calling f es) fs = omega arith
more_parentheses (enclosed_type pos) fs = omega arith
more_parentheses f fs = omega arith

pub few_parentheses : (b : ℕ) (fs : List Frame) → open_parentheses fs ≤ open_depth b fs
few_parentheses b [] = omega arith
few_parentheses b (f ∷ fs) = omega (arith, few_parentheses b fs, one_each f, deeper b f fs, more_parentheses f fs)
  where
    one_each : (g : Frame) → parentheses_of g ≤ levels g
    one_each (prefixed pos op) = omega arith
    one_each g = omega arith

-- parentheses allow a literal that begins with a name
pub in_parentheses : (l : Bool) (fs : List Frame) → 0 < open_parentheses fs → allows l fs ≡ true
in_parentheses l [] lt = absurd (omega arith)
in_parentheses l (enclosed pos ∷ fs) lt = refl
in_parentheses l (calling f es ∷ fs) lt = refl
in_parentheses l (enclosed_type pos ∷ fs) lt = refl
in_parentheses l (f ∷ fs) lt = in_parentheses l fs lt

pub allowed_outside : (l : Bool) (fs : List Frame) → l ≡ true → allows l fs ≡ true
allowed_outside l [] is = is
allowed_outside l (enclosed pos ∷ fs) is = refl
allowed_outside l (calling f es ∷ fs) is = refl
allowed_outside l (enclosed_type pos ∷ fs) is = refl
allowed_outside l (f ∷ fs) is = allowed_outside l fs is

pub forbidden : (l : Bool) (fs : List Frame) → l ≡ false → open_parentheses fs ≤ 0 → allows l fs ≡ false
forbidden l [] is le = is
forbidden l (enclosed pos ∷ fs) is le = absurd (omega arith)
forbidden l (calling f es ∷ fs) is le = absurd (omega arith)
forbidden l (enclosed_type pos ∷ fs) is le = absurd (omega arith)
forbidden l (f ∷ fs) is le = forbidden l fs is le

-- for `using`
pub ruleset one_more_open = (deeper, more_parentheses, few_parentheses)

pub ruleset literals_allowed = (in_parentheses, allowed_outside, forbidden)

-- the innermost of the first frames
pub last_frame : (fs : List CodeFrame) (i : ℕ) (d : CodeFrame) → i < length fs → frames_of (take (i + 1) fs) ≡ frame_of (get_or fs i d) ∷ frames_of (take i fs)
last_frame fs i d lt = ap frames_of (take_more fs i d lt) ∙ ap reverse (map-append frame_of (take i fs) (get_or fs i d ∷ [])) ∙ reverse-append (map frame_of (take i fs)) (frame_of (get_or fs i d) ∷ [])
