-- Parameters at the entry of a function, one after the other.
use Rattle.std.proofs.Common.{◌≡◌, ℕ, zero, suc, ◌+◌, ◌<◌, List, [], ◌∷◌, length, get_or, drop, map, max, Option, Some, None, refl, ap, sym, ◌∙◌, arith}
use Rattle.std.specs.Prelude.{slice_get}
use Rattle.std.proofs.Math.Seq.{drop-cons}
use Rattle.base.specs.declared.ids.SiteId.{SiteId}
use Rattle.base.specs.declared.ids.TypeId.{TypeId}
use Rattle.typed_syntax.specs.Types.{TypeTree}
use Rattle.typed_syntax.specs.Syntax.{type_in}
use Rattle.typed.specs.View.{site_in}
use Rattle.frames.specs.Placement.{Placement}
use Rattle.frames.specs.Frames.{entry_need}

-- without types there are none
no_types : (l : Placement) (qs : List (Option ℕ)) → entry_need l qs [] ≡ 0
no_types l [] = refl
no_types l (q ∷ qs) = refl

first_of : (l : Placement) (q : Option ℕ) (qs : List (Option ℕ)) (ts : List TypeTree) → entry_need l (q ∷ qs) ts ≡ max (entry_need l (q ∷ []) ts) (entry_need l qs (drop 1 ts))
first_of l q qs [] = let none = no_types l qs in omega (arith, none)
first_of l None qs (t ∷ ts) = omega arith
first_of l (Some site) qs (t ∷ ts) = omega arith

-- by their numbers
module _ (l : Placement) (types : List TypeTree) where
  abbrev known : List TypeId → List TypeTree
  known ts = map (λ t. type_in types t.0) ts

  one_less : (ts : List TypeId) (i : ℕ) → known (drop (suc i) ts) ≡ drop 1 (known (drop i ts))
  one_less [] zero = refl
  one_less [] (suc i) = refl
  one_less (t ∷ ts) zero = refl
  one_less (t ∷ ts) (suc i) = one_less ts i

  pub type_there : (q : Option ℕ) (ts : List TypeId) (i : ℕ) (t : TypeId) → slice_get ts i ≡ Some t → entry_need l (q ∷ []) (known (drop i ts)) ≡ entry_need l (q ∷ []) (type_in types t.0 ∷ [])
  type_there q [] i t is = absurd cc
  type_there None (x ∷ ts) zero t is = refl
  type_there (Some site) (x ∷ ts) zero t is = let same : x ≡ t = cc in ap (λ (y : TypeId). entry_need l (Some site ∷ []) (type_in types y.0 ∷ [])) same
  type_there q (x ∷ ts) (suc i) t is = type_there q ts i t is

  pub no_type : (q : Option ℕ) (ts : List TypeId) (i : ℕ) → slice_get ts i ≡ None → entry_need l (q ∷ []) (known (drop i ts)) ≡ 0
  no_type q [] zero is = refl
  no_type q [] (suc i) is = refl
  no_type q (x ∷ ts) zero is = absurd cc
  no_type q (x ∷ ts) (suc i) is = no_type q ts i is

  pub entry_next : (ps : List (Option SiteId)) (ts : List TypeId) (i : ℕ) (d : Option SiteId) → i < length ps
      → entry_need l (map site_in (drop i ps)) (known (drop i ts)) ≡ max (entry_need l (site_in (get_or ps i d) ∷ []) (known (drop i ts))) (entry_need l (map site_in (drop (i + 1) ps)) (known (drop (i + 1) ts)))
  entry_next ps ts i d lt =
      let one : suc i ≡ i + 1 = omega arith in
      let q = site_in (get_or ps i d) in
      ap (λ (qs : List (Option SiteId)). entry_need l (map site_in qs) (known (drop i ts))) (drop-cons ps i d lt)
      ∙ first_of l q (map site_in (drop (suc i) ps)) (known (drop i ts))
      ∙ ap (λ us. max (entry_need l (q ∷ []) (known (drop i ts))) (entry_need l (map site_in (drop (suc i) ps)) us)) (sym (one_less ts i))
      ∙ ap (λ j. max (entry_need l (q ∷ []) (known (drop i ts))) (entry_need l (map site_in (drop j ps)) (known (drop j ts)))) one
