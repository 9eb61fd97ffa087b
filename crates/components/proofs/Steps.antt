-- The steps of a search.
use Rattle.std.proofs.Common.{◌≡◌, ℕ, zero, suc, ◌+◌, ◌<◌, List, [], ◌∷◌, ◌++◌, length, get_or, ◌⊎◌, inl, inr, Some, None, sym, ap, ◌∙◌, subst, arith}
use Rattle.std.proofs.lemmas.Option.{slice_get-get_or, same_Some}
use Rattle.components.specs.declared.path.Place.{Place}
use Rattle.components.specs.declared.path.Place.TheVariants.{New, OnPath, Placed}
use Rattle.components.specs.declared.path.Edge.{Edge}
use Rattle.components.specs.Graph.{Among}
use Rattle.components.specs.Search.{Search, At, entered, closed, IsJoined, IsSound, IsTaken, Seen, IsStep, measure}
use Rattle.components.proofs.Lists.{at_within, among_at, among_push}
use Rattle.components.proofs.Entering.{entered_sound, entered_seen, entered_is_seen, new_placed, on_path_placed}
use Rattle.components.proofs.Joining.{reach_end, joined_sound, passed_sound}
use Rattle.components.proofs.Closing.{closed_sound, closed_seen}
use Rattle.components.proofs.Weights.{entered_measure, closed_measure}
use Rattle.components.proofs.Whole.{none_ahead, Searches}

-- a node that is somewhere else than in a component
pub place_at : (places : List Place) (k : ℕ) (x : Place) → get_or places k Placed ≡ x → (x ≡ Placed → ⊥) → At places k x
place_at [] k x is differs = absurd (differs (sym is))
place_at (y ∷ places) zero x is differs = ap Some is
place_at (y ∷ places) (suc k) x is differs = place_at places k x is differs

-- a node that is not new
pub seen_at : (places : List Place) (k : ℕ) → (get_or places k Placed ≡ New → ⊥) → At places k New → ⊥
seen_at [] k differs at = let bad : None ≡ Some New = at in absurd cc
seen_at (y ∷ places) zero differs at = differs (same_Some y New at)
seen_at (y ∷ places) (suc k) differs at = seen_at places k differs at

module _ (t : List (List ℕ)) (s : Search) (e : Edge) (a : IsTaken t s e) where
  -- an edge to a new node
  pub step_new : (s' : Search) → get_or s.places e.to Placed ≡ New → s' ≡ entered t s e.to → IsStep t s s' (measure t s + 1)
  step_new s' place is =
      let at : At s.places e.to New = place_at s.places e.to New place new_placed in
      subst (λ (r : Search). IsStep t s r (measure t s + 1)) (sym is) (record {
        sound = entered_sound t s e.to at (reach_end t s e a) a.keeps a.follows;
        seen = entered_seen t s e.to at;
        less = (let same = entered_measure t s e.to a.keeps.places.size at in omega (arith, same));
      })

  -- one back to the path
  pub step_back : (p : ℕ) (starts : List ℕ) → get_or s.places e.to Placed ≡ OnPath p → IsJoined s.starts p starts → IsStep t s (record s { starts = starts }) (measure t s + 1)
  step_back p starts place joined =
      let at : At s.places e.to (OnPath p) = place_at s.places e.to (OnPath p) place (on_path_placed p) in
      record {
        sound = joined_sound t s e a p (a.keeps.places.at_place p e.to at) starts joined;
        seen = λ k h. h;
        less = (let shorter = joined.shorter in omega (arith, shorter));
      }

  -- one to a component, or to no node
  pub step_past : get_or s.places e.to Placed ≡ Placed → IsStep t s s (measure t s + 1)
  step_past is = record {
    sound = passed_sound t s e a (λ small. slice_get-get_or s.places e.to Placed (omega (arith, small, a.keeps.places.size)) ∙ ap Some is);
    seen = λ k h. h;
    less = omega arith;
  }

module _ (t : List (List ℕ)) (s : Search) (a : IsSound t s) (rest : List ℕ) (first : ℕ) (is : s.starts ≡ rest ++ first ∷ []) where
  pub first_inside : first < length s.path
  first_inside = a.keeps.path.inside first (subst (λ (fs : List ℕ). Among first fs) (sym is) (among_push first rest))

  pub step_close : (s' : Search) → ((r : List Edge) (e : Edge) → s.ahead ≡ r ++ e ∷ [] → e.from < first) → s' ≡ closed s rest first → IsStep t s s' (measure t s)
  step_close s' none is_closed = subst (λ (r : Search). IsStep t s r (measure t s)) (sym is_closed) (record {
    sound = closed_sound t s rest first is a (none_ahead t s.path s.ahead first a.keeps.ahead none);
    seen = closed_seen s rest first;
    less = closed_measure t s rest first is;
  })

pub nodes_within : (t : List (List ℕ)) (s : Search) → IsSound t s → (k : ℕ) → Among k s.path → k < length s.places
nodes_within t s a k among = let at = among_at k s.path among in at_within s.places k (OnPath at.0) (a.keeps.places.on_path at.0 k at.1)

-- ---- the begin of a search

module _ (t : List (List ℕ)) (s : Search) (k : ℕ) (a : IsSound t s) where
  none_at : (l : List ℕ) → l ≡ [] → (p j : ℕ) → At l p j → ⊥
  none_at l none p j at = let bad : None ≡ Some j = subst (λ (m : List ℕ). At m p j) none at in cc

  new_at : get_or s.places k Placed ≡ New → At s.places k New
  new_at place = place_at s.places k New place new_placed

  pub begin_new : (s' : Search) → s.path ≡ [] → get_or s.places k Placed ≡ New → s' ≡ entered t s k → Searches t s s' k
  begin_new s' none place is = subst (λ (r : Search). Searches t s r k) (sym is) (record {
    sound = entered_sound t s k (new_at place) (λ q j h. absurd (none_at s.path none q j h)) a.keeps (λ p j i h among small. inl (a.follows p j i h among small));
    seen = seen;
  })
    where
      seen : (j : ℕ) → Seen s j ⊎ (j ≡ k) → Seen (entered t s k) j
      seen j (inl old) = entered_seen t s k (new_at place) j old
      seen j (inr e) = subst (λ (i : ℕ). Seen (entered t s k) i) (sym e) (entered_is_seen t s k (new_at place))

  pub begin_old : (s' : Search) → (get_or s.places k Placed ≡ New → ⊥) → s' ≡ s → Searches t s s' k
  begin_old s' old is = subst (λ (r : Search). Searches t s r k) (sym is) (record { sound = a; seen = seen })
    where
      seen : (j : ℕ) → Seen s j ⊎ (j ≡ k) → Seen s j
      seen j (inl h) = h
      seen j (inr e) = subst (λ (i : ℕ). Seen s i) (sym e) (seen_at s.places k old)
