-- That temps suffice for addresses after values.
use Rattle.std.proofs.Common.{◌≡◌, ℕ, zero, suc, ◌+◌, ◌≤◌, List, [], ◌∷◌, length, refl, ap, arith}
use Rattle.typed_syntax.specs.Types.{TypeTree}
use Rattle.typed_syntax.specs.Syntax.{Pl, Steps, local, global, indirect, slice_element, here, inner, at_index, Left, Program, blank, new, to}
use Rattle.typed_syntax.specs.Form.{LeftsFit}
use Rattle.frames.specs.Frames.{far, left_far, behind_values, key_need, place_need, steps_need, lefts_need, place_reach, steps_reach, lefts_reach}
use Rattle.program_code.specs.Code.{steps_above, place_above, lefts_above}

pub lefts_length : (p : Program) (scope : List ℕ) (m e : ℕ) (ts : List TypeTree) (ls : List Left) → LeftsFit p scope m e ts ls → length ts ≡ length ls
lefts_length p scope m e [] [] f = refl
lefts_length p scope m e [] (l ∷ ls) f = absurd f
lefts_length p scope m e (t ∷ ts) [] f = absurd f
lefts_length p scope m e (t ∷ ts) (blank ∷ ls) f = ap suc (lefts_length p scope m e ts ls f)
lefts_length p scope m e (t ∷ ts) (new site ∷ ls) f = ap suc (lefts_length p scope (suc site) e ts ls f.2)
lefts_length p scope m e (t ∷ ts) (to q ∷ ls) f = ap suc (lefts_length p scope m e ts ls f.1)

-- an address after values has a temp
pub address_room : (temps h values far : ℕ) → h + values ≤ temps → h + behind_values values far ≤ temps → h + values + far ≤ temps
address_room temps h values zero l k = omega arith
address_room temps h values (suc far) l k = omega arith

-- what operands are in front of has its temps
module _ (fs : Program) where
  pub steps_room : (temps h behind : ℕ) (steps : Steps) → h + steps_need fs steps behind ≤ temps → steps_above steps h + behind ≤ temps
  steps_room temps h behind here l = l
  steps_room temps h behind (inner i steps) l = steps_room temps h behind steps l
  steps_room temps h behind (at_index at e n steps) l = steps_room temps (h + 1) behind steps (omega arith)

  pub place_room : (temps h behind : ℕ) (q : Pl) → h + place_need fs q behind ≤ temps → place_above q h + behind ≤ temps
  place_room temps h behind (local site steps) l = steps_room temps h behind steps l
  place_room temps h behind (global g steps) l = steps_room temps h behind steps l
  place_room temps h behind (indirect at e n steps) l = steps_room temps (h + 1) behind steps (omega arith)
  place_room temps h behind (slice_element at e i n steps) l = steps_room temps (h + 4) behind steps (omega arith)

  pub lefts_room : (temps h behind : ℕ) (ls : List Left) → h + lefts_need fs ls behind ≤ temps → lefts_above ls h + behind ≤ temps
  lefts_room temps h behind [] l = l
  lefts_room temps h behind (blank ∷ ls) l = lefts_room temps h behind ls l
  lefts_room temps h behind (new site ∷ ls) l = lefts_room temps h behind ls l
  lefts_room temps h behind (to q ∷ ls) l = lefts_room temps (place_above q h) behind ls (place_room temps h (lefts_need fs ls behind) q l)

  pub steps_from : (h : ℕ) (steps : Steps) → h ≤ steps_above steps h
  steps_from h here = omega arith
  steps_from h (inner i steps) = steps_from h steps
  steps_from h (at_index at e n steps) = let l = steps_from (h + 1) steps in omega arith

  pub place_from : (h : ℕ) (q : Pl) → h ≤ place_above q h
  place_from h (local site steps) = steps_from h steps
  place_from h (global g steps) = steps_from h steps
  place_from h (indirect at e n steps) = let l = steps_from (h + 1) steps in omega arith
  place_from h (slice_element at e i n steps) = let l = steps_from (h + 4) steps in omega arith

  -- the calls of what comes with operands
  steps_others : (others : ℕ) (steps : Steps) → others ≤ steps_reach fs steps others
  steps_others others here = omega arith
  steps_others others (inner i steps) = steps_others others steps
  steps_others others (at_index at e n steps) = let l = steps_others others steps in omega arith

  pub place_others : (others : ℕ) (q : Pl) → others ≤ place_reach fs q others
  place_others others (local site steps) = steps_others others steps
  place_others others (global g steps) = steps_others others steps
  place_others others (indirect at e n steps) = let l = steps_others others steps in omega arith
  place_others others (slice_element at e i n steps) = let l = steps_others others steps in omega arith

  pub lefts_others : (others : ℕ) (ls : List Left) → others ≤ lefts_reach fs ls others
  lefts_others others [] = omega arith
  lefts_others others (blank ∷ ls) = lefts_others others ls
  lefts_others others (new site ∷ ls) = lefts_others others ls
  lefts_others others (to q ∷ ls) = let l = lefts_others others ls in let k = place_others (lefts_reach fs ls others) q in omega arith

  -- more after operands
  steps_more : (a b : ℕ) (steps : Steps) → a ≤ b → steps_need fs steps a ≤ steps_need fs steps b
  steps_more a b here l = l
  steps_more a b (inner i steps) l = steps_more a b steps l
  steps_more a b (at_index at e n steps) l = let k = steps_more a b steps l in omega arith

  place_more : (a b : ℕ) (q : Pl) → a ≤ b → place_need fs q a ≤ place_need fs q b
  place_more a b (local site steps) l = steps_more a b steps l
  place_more a b (global g steps) l = steps_more a b steps l
  place_more a b (indirect at e n steps) l = let k = steps_more a b steps l in omega arith
  place_more a b (slice_element at e i n steps) l = let k = steps_more a b steps l in omega arith

  -- a blank has no operands
  pub key_alone : (key : Left) (n : ℕ) → lefts_reach fs (key ∷ blank ∷ []) n ≡ lefts_reach fs (key ∷ []) n
  key_alone blank n = refl
  key_alone (new site) n = refl
  key_alone (to q) n = refl

  -- operands of the left side that gets an index, and an address
  key_more : (key : Left) → lefts_need fs (key ∷ []) (left_far key) ≤ key_need fs key
  key_more blank = omega arith
  key_more (new site) = omega arith
  key_more (to q) = place_more (far q) (1 + far q) q (omega arith)

  pub key_room : (temps h : ℕ) (key : Left) → h + (2 + key_need fs key) ≤ temps → h + 2 + lefts_need fs (key ∷ []) (left_far key) ≤ temps
  key_room temps h key l = let k = key_more key in omega arith

  pub array_room : (temps h : ℕ) (key : Left) → h + (1 + key_need fs key) ≤ temps → h + 1 + lefts_need fs (key ∷ []) (left_far key) ≤ temps
  array_room temps h key l = let k = key_more key in omega arith
