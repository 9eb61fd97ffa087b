-- A new node at the end of the path.
use Rattle.std.proofs.Common.{◌≡◌, ℕ, zero, suc, ◌+◌, ◌<◌, ◌≤◌, List, [], ◌∷◌, ◌++◌, length, ◌⊎◌, inl, inr, refl, sym, ap, ◌∙◌, subst, arith}
use Rattle.std.specs.Prelude.{slice_set}
use Rattle.std.proofs.lemmas.Bool.{cases_eq}
use Rattle.components.specs.declared.path.Place.{Place}
use Rattle.components.specs.declared.path.Place.TheVariants.{New, OnPath, Placed}
use Rattle.components.specs.declared.path.Edge.{Edge}
use Rattle.components.specs.Graph.{Among, row, Reaches, itself}
use Rattle.components.specs.Components.{Stands}
use Rattle.components.specs.Search.{Search, At, edge, leaving, entered, ArePlaces, Joined, IsPath, AreAhead, Keeps, Goes, IsSound, Seen}
use Rattle.components.proofs.Lists.{among_left, among_push, among_push_cases, at_one, at_within, at_left, at_right, at_cases, at_push, at_push_cases, set_same, set_other, set_length, push_length, leaving_at, at_leaving, rises_push}

pub new_on_path : (p : ℕ) → New ≡ OnPath p → ⊥
new_on_path p e = cc

pub new_placed : New ≡ Placed → ⊥
new_placed e = cc

pub on_path_placed : (p : ℕ) → OnPath p ≡ Placed → ⊥
on_path_placed p e = cc

abbrev place_of : Place → ℕ
place_of New = 0
place_of (OnPath p) = p
place_of Placed = 0

pub same_place : (p q : ℕ) → OnPath p ≡ OnPath q → p ≡ q
same_place p q e = ap place_of e

module _ (t : List (List ℕ)) (s : Search) (n : ℕ) (is_new : At s.places n New) where
  abbrev here : ℕ
  here = length s.path

  abbrev places' : List Place
  places' = slice_set s.places n (OnPath here)

  abbrev path' : List ℕ
  path' = s.path ++ n ∷ []

  n_there : At places' n (OnPath here)
  n_there = set_same s.places n New (OnPath here) is_new

  -- other nodes stay where they are
  others : (k : ℕ) (x : Place) → At s.places k x → (New ≡ x → ⊥) → At places' k x
  others k x at differs = set_other s.places n k (OnPath here) (λ e. differs (at_one s.places n New x is_new (subst (λ (i : ℕ). At s.places i x) e at))) ∙ at

  pub places_cases : (k : ℕ) (x : Place) → At places' k x → At s.places k x ⊎ ((k ≡ n) × (x ≡ OnPath here))
  places_cases k x at = elim (cases_eq k n) [
    | inl e ↦ inr (e, at_one places' n x (OnPath here) (subst (λ (i : ℕ). At places' i x) e at) n_there)
    | inr other ↦ inl (sym (set_other s.places n k (OnPath here) other) ∙ at)
  ]

  entered_places : ArePlaces t s.places s.path s.components → ArePlaces t places' path' s.components
  entered_places a = record {
    size = set_length s.places n (OnPath here) ∙ a.size;
    on_path = on_path;
    at_place = at_place;
    placed = λ c i k h. others k Placed (a.placed c i k h) new_placed;
    stands = stands;
  }
    where
      on_path : (p k : ℕ) → At path' p k → At places' k (OnPath p)
      on_path p k h = elim (at_push_cases s.path n p k h) [
        | inl old ↦ others k (OnPath p) (a.on_path p k old) (new_on_path p)
        | inr new ↦ subst (λ (i : ℕ). At places' i (OnPath p)) new.1 (subst (λ (q : ℕ). At places' n (OnPath q)) (sym new.0) n_there)
      ]

      at_place : (p k : ℕ) → At places' k (OnPath p) → At path' p k
      at_place p k h = elim (places_cases k (OnPath p) h) [
        | inl old ↦ at_left s.path (n ∷ []) p k (a.at_place p k old)
        | inr new ↦ subst (λ (q : ℕ). At path' q k) (sym (same_place p here new.1)) (subst (λ (i : ℕ). At path' here i) (sym new.0) (at_push s.path n))
      ]

      stands : (k : ℕ) → At places' k Placed → (c : ℕ) × Stands s.components c k
      stands k h = elim (places_cases k Placed h) [
        | inl old ↦ a.stands k old
        | inr new ↦ absurd (on_path_placed here (sym new.1))
      ]

  abbrev Reached : Type 0
  Reached = (q k : ℕ) → At s.path q k → Reaches t k n

  entered_path : Reached → IsPath t s.path s.starts → IsPath t path' (s.starts ++ here ∷ [])
  entered_path reached a = record {
    forward = forward;
    back = back;
    rise = rises_push s.starts here a.rise a.inside;
    inside = inside;
    bottom = bottom (length s.path) refl;
  }
    where
      forward : (p q j k : ℕ) → p ≤ q → At path' p j → At path' q k → Reaches t j k
      forward p q j k le at_p at_q = elim (at_push_cases s.path n q k at_q) [
        | inl old ↦ (elim (at_push_cases s.path n p j at_p) [
          | inl first ↦ a.forward p q j k le first old
          | inr last ↦ (let l = at_within s.path q k old in absurd (omega (arith, le, l, last.0)))
        ])
        | inr new ↦ (elim (at_push_cases s.path n p j at_p) [
          | inl first ↦ subst (λ (i : ℕ). Reaches t j i) new.1 (reached p j first)
          | inr last ↦ subst (λ (i : ℕ). Reaches t j i) (sym last.1 ∙ new.1) itself
        ])
      ]

      back : (p q j k : ℕ) → p ≤ q → At path' p j → At path' q k → Joined (s.starts ++ here ∷ []) p q → Reaches t k j
      back p q j k le at_p at_q joined = elim (at_push_cases s.path n q k at_q) [
        | inl old ↦ (elim (at_push_cases s.path n p j at_p) [
          | inl first ↦ a.back p q j k le first old (λ f h. joined f (among_left f s.starts (here ∷ []) h))
          | inr last ↦ (let l = at_within s.path q k old in absurd (omega (arith, le, l, last.0)))
        ])
        | inr new ↦ (elim (at_push_cases s.path n p j at_p) [
          | inl first ↦ (
              let l = at_within s.path p j first in
              let most = joined here (among_push here s.starts) (omega (arith, new.0)) in
              absurd (omega (arith, l, most))
              )
          | inr last ↦ subst (λ (i : ℕ). Reaches t i j) (sym last.1 ∙ new.1) itself
        ])
      ]

      inside : (f : ℕ) → Among f (s.starts ++ here ∷ []) → f < length path'
      inside f h =
          let more = push_length s.path n in
          elim (among_push_cases f s.starts here h) [ inl old ↦ (let l = a.inside f old in omega (arith, l, more)) | inr new ↦ omega (arith, new, more) ]

      bottom : (m : ℕ) → length s.path ≡ m → 0 < length path' → Among 0 (s.starts ++ here ∷ [])
      bottom zero is l = subst (λ (i : ℕ). Among i (s.starts ++ here ∷ [])) is (among_push here s.starts)
      bottom (suc m) is l = among_left 0 s.starts (here ∷ []) (a.bottom (omega (arith, is)))

  entered_ahead : AreAhead t s.path s.ahead → AreAhead t path' (s.ahead ++ leaving here (row t n))
  entered_ahead a = record { leaves = leaves; sorted = sorted }
    where
      leaves : (i : ℕ) (e : Edge) → At (s.ahead ++ leaving here (row t n)) i e → (k : ℕ) × At path' e.from k × Among e.to (row t k)
      leaves i e h = elim (at_cases s.ahead (leaving here (row t n)) i e h) [
        | inl old ↦ (let l = a.leaves i e old in (l.0, at_left s.path (n ∷ []) e.from l.0 l.1, l.2))
        | inr new ↦ (let l = at_leaving here (row t n) new.0 e new.2 in (n, subst (λ (p : ℕ). At path' p n) (sym l.0) (at_push s.path n), l.1))
      ]

      below : (i : ℕ) (e : Edge) → At s.ahead i e → e.from < here
      below i e h = let l = a.leaves i e h in at_within s.path e.from l.0 l.1

      sorted : (i j : ℕ) (d e : Edge) → i ≤ j → At (s.ahead ++ leaving here (row t n)) i d → At (s.ahead ++ leaving here (row t n)) j e → d.from ≤ e.from
      sorted i j d e le at_i at_j = elim (at_cases s.ahead (leaving here (row t n)) j e at_j) [
        | inl old ↦ (elim (at_cases s.ahead (leaving here (row t n)) i d at_i) [
          | inl first ↦ a.sorted i j d e le first old
          | inr last ↦ (let l = at_within s.ahead j e old in absurd (omega (arith, le, l, last.1)))
        ])
        | inr new ↦ (
            let e_is = at_leaving here (row t n) new.0 e new.2 in
            elim (at_cases s.ahead (leaving here (row t n)) i d at_i) [
              | inl first ↦ (let l = below i d first in omega (arith, l, e_is.0))
              | inr last ↦ (let d_is = at_leaving here (row t n) last.0 d last.2 in omega (arith, d_is.0, e_is.0))
            ]
            )
      ]

  goes_on : (p k : ℕ) → p < here → Goes s p k → Goes (entered t s n) p k
  goes_on p k within (inl placed) = inl (others k Placed placed new_placed)
  goes_on p k within (inr (inl group)) = inr (inl (
    group.0,
    at_left s.path (n ∷ []) group.0 k group.1,
    λ f h l. elim (among_push_cases f s.starts here h) [
      | inl old ↦ group.2 f old l
      | inr new ↦ absurd (omega (arith, new, l, within))
    ],
  ))
  goes_on p k within (inr (inr ahead)) = inr (inr (ahead.0, at_left s.ahead (leaving here (row t n)) ahead.0 (edge p k) ahead.1))

  pub entered_sound : Reached → Keeps t s → ((p j k : ℕ) → At s.path p j → Among k (row t j) → k < length t → Goes s p k ⊎ (k ≡ n)) → IsSound t (entered t s n)
  entered_sound reached a follows = record {
    keeps = record { places = entered_places a.places; found = a.found; path = entered_path reached a.path; ahead = entered_ahead a.ahead };
    follows = follows';
  }
    where
      from_old : (p k : ℕ) → p < here → Goes s p k ⊎ (k ≡ n) → Goes (entered t s n) p k
      from_old p k within (inl goes) = goes_on p k within goes
      from_old p k within (inr is) = inr (inl (here, subst (λ (i : ℕ). At path' here i) (sym is) (at_push s.path n), λ f h l. omega (arith, l, within)))

      follows' : (p j k : ℕ) → At path' p j → Among k (row t j) → k < length t → Goes (entered t s n) p k
      follows' p j k at_p among small = elim (at_push_cases s.path n p j at_p) [
        | inl old ↦ from_old p k (at_within s.path p j old) (follows p j k old among small)
        | inr new ↦ (
            let there = leaving_at here (row t n) k (subst (λ (i : ℕ). Among k (row t i)) (sym new.1) among) in
            inr (inr (length s.ahead + there.0, at_right s.ahead (leaving here (row t n)) there.0 (edge p k) (subst (λ (q : ℕ). At (leaving here (row t n)) there.0 (edge q k)) (sym new.0) there.1)))
            )
      ]

  pub entered_seen : (k : ℕ) → Seen s k → Seen (entered t s n) k
  entered_seen k seen h = elim (places_cases k New h) [ inl old ↦ seen old | inr is ↦ new_on_path here is.1 ]

  pub entered_is_seen : Seen (entered t s n) n
  entered_is_seen h = new_on_path here (at_one places' n New (OnPath here) h n_there)
