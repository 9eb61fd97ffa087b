-- The last group has no edge ahead any more, and becomes a component.
use Rattle.std.proofs.Common.{◌≡◌, ℕ, ◌+◌, ◌<◌, ◌≤◌, List, [], ◌∷◌, ◌++◌, length, take, drop, ◌⊎◌, inl, inr, sym, ◌∙◌, subst, arith}
use Rattle.std.proofs.lemmas.Bool.{cases_lt}
use Rattle.std.proofs.lemmas.List.{length-take-le}
use Rattle.components.specs.declared.path.Place.{Place}
use Rattle.components.specs.declared.path.Place.TheVariants.{New, OnPath, Placed}
use Rattle.components.specs.declared.path.Edge.{Edge}
use Rattle.components.specs.Graph.{Among, row, Reaches}
use Rattle.components.specs.Components.{StandsAt, Stands}
use Rattle.components.specs.Search.{Search, At, edge, set_all, closed, Rises, ArePlaces, AreFound, Joined, IsPath, AreAhead, Goes, IsSound, Seen}
use Rattle.components.proofs.Lists.{among_left, among_push, among_push_cases, at_among, among_at, at_one, at_within, at_there, at_left, at_push, at_push_cases, at_take, take_at, at_drop, drop_at, push_length, rises_front, rises_last}
use Rattle.components.proofs.Settings.{all_length, stays_set, all_set, all_cases, others_stay}
use Rattle.components.proofs.Entering.{new_placed, on_path_placed, same_place}
use Rattle.components.proofs.Joining.{up_or_down}

-- ---- a component more

module _ (components : List (List ℕ)) (nodes : List ℕ) where
  pub stands_old : (c k : ℕ) → Stands components c k → Stands (components ++ nodes ∷ []) c k
  stands_old c k h = (h.0, (h.1.0, at_left components (nodes ∷ []) c h.1.0 h.1.1, h.1.2))

  pub stands_new : (k : ℕ) → Among k nodes → Stands (components ++ nodes ∷ []) (length components) k
  stands_new k among = let at = among_at k nodes among in (at.0, (nodes, at_push components nodes, at.1))

  pub stands_cases : (c i k : ℕ) → StandsAt (components ++ nodes ∷ []) c i k → StandsAt components c i k ⊎ ((c ≡ length components) × At nodes i k)
  stands_cases c i k h = elim (at_push_cases components nodes c h.0 h.1) [
    | inl old ↦ inl (h.0, old, h.2)
    | inr new ↦ inr (new.0, subst (λ (l : List ℕ). At l i k) (sym new.1) h.2)
  ]

module _ (t : List (List ℕ)) (s : Search) (rest : List ℕ) (first : ℕ) (is : s.starts ≡ rest ++ first ∷ []) (a : IsSound t s) (none_ahead : (i : ℕ) (e : Edge) → At s.ahead i e → e.from < first) where
  abbrev nodes : List ℕ
  nodes = drop first s.path

  abbrev places' : List Place
  places' = set_all Placed s.places nodes

  among_rest : (f : ℕ) → Among f rest → Among f s.starts
  among_rest f h = subst (λ (fs : List ℕ). Among f fs) (sym is) (among_left f rest (first ∷ []) h)

  first_among : Among first s.starts
  first_among = subst (λ (fs : List ℕ). Among first fs) (sym is) (among_push first rest)

  starts_cases : (f : ℕ) → Among f s.starts → Among f rest ⊎ (f ≡ first)
  starts_cases f h = among_push_cases f rest first (subst (λ (fs : List ℕ). Among f fs) is h)

  below_first : (f : ℕ) → Among f rest → f < first
  below_first f h = rises_last rest first (subst (λ (fs : List ℕ). Rises fs) is a.keeps.path.rise) f h

  up_to_first : (f : ℕ) → Among f s.starts → f ≤ first
  up_to_first f h = elim (starts_cases f h) [ inl old ↦ (let l = below_first f old in omega (arith, l)) | inr e ↦ omega (arith, e) ]

  first_within : first < length s.path
  first_within = a.keeps.path.inside first first_among

  -- the nodes of the group stand at the path's places from its begin on
  node_at : (i k : ℕ) → At nodes i k → At s.path (first + i) k
  node_at i k at = sym (at_drop first s.path i) ∙ at

  node_from : (p k : ℕ) → At s.path p k → first ≤ p → Among k nodes
  node_from p k at le = let there = drop_at first s.path p k at le in at_among k nodes there.0 there.1

  node_on_path : (k : ℕ) → Among k nodes → (p : ℕ) × (first ≤ p) × At s.path p k
  node_on_path k among = let at = among_at k nodes among in (first + at.0, omega arith, node_at at.0 k at.1)

  node_within : (k : ℕ) → Among k nodes → k < length s.places
  node_within k among = let on = node_on_path k among in at_within s.places k (OnPath on.0) (a.keeps.places.on_path on.0 k on.2)

  earlier_not : (p k : ℕ) → At s.path p k → p < first → Among k nodes → ⊥
  earlier_not p k at less among =
      let on = node_on_path k among in
      let same = same_place p on.0 (at_one s.places k (OnPath p) (OnPath on.0) (a.keeps.places.on_path p k at) (a.keeps.places.on_path on.0 k on.2)) in
      omega (arith, less, same, on.1)

  closed_places : ArePlaces t places' (take first s.path) (s.components ++ nodes ∷ [])
  closed_places = record {
    size = all_length Placed s.places nodes ∙ a.keeps.places.size;
    on_path = on_path;
    at_place = at_place;
    placed = placed;
    stands = stands;
  }
    where
      on_path : (p k : ℕ) → At (take first s.path) p k → At places' k (OnPath p)
      on_path p k h =
          let old = at_take first s.path p k h in
          others_stay Placed s.places nodes k (earlier_not p k old.0 old.1) ∙ a.keeps.places.on_path p k old.0

      at_place : (p k : ℕ) → At places' k (OnPath p) → At (take first s.path) p k
      at_place p k h = elim (all_cases Placed s.places nodes k (OnPath p) h) [
        | inl new ↦ absurd (on_path_placed p new.1)
        | inr old ↦ (
            let at = a.keeps.places.at_place p k old in
            elim (cases_lt p first) [
              | inl less ↦ take_at first s.path p k at less
              | inr le ↦ (let among = node_from p k at le in absurd (on_path_placed p (at_one places' k (OnPath p) Placed h (all_set Placed s.places nodes k among (node_within k among)))))
            ]
            )
      ]

      placed : (c i k : ℕ) → StandsAt (s.components ++ nodes ∷ []) c i k → At places' k Placed
      placed c i k h = elim (stands_cases s.components nodes c i k h) [
        | inl old ↦ stays_set Placed s.places nodes k (a.keeps.places.placed c i k old)
        | inr new ↦ (let among = at_among k nodes i new.1 in all_set Placed s.places nodes k among (node_within k among))
      ]

      stands : (k : ℕ) → At places' k Placed → (c : ℕ) × Stands (s.components ++ nodes ∷ []) c k
      stands k h = elim (all_cases Placed s.places nodes k Placed h) [
        | inl new ↦ (length s.components, stands_new s.components nodes k new.0)
        | inr old ↦ (let there = a.keeps.places.stands k old in (there.0, stands_old s.components nodes there.0 k there.1))
      ]

  closed_found : AreFound t (s.components ++ nodes ∷ [])
  closed_found = record { once = once; filled = filled; strong = strong; earlier = earlier }
    where
      apart : (c i j k : ℕ) → StandsAt s.components c i k → At nodes j k → ⊥
      apart c i j k old new = on_path_placed (first + j) (at_one s.places k (OnPath (first + j)) Placed (a.keeps.places.on_path (first + j) k (node_at j k new)) (a.keeps.places.placed c i k old))

      one_node : (i j k : ℕ) → At nodes i k → At nodes j k → i ≡ j
      one_node i j k at_i at_j =
          let same = same_place (first + i) (first + j) (at_one s.places k (OnPath (first + i)) (OnPath (first + j)) (a.keeps.places.on_path (first + i) k (node_at i k at_i)) (a.keeps.places.on_path (first + j) k (node_at j k at_j))) in
          omega (arith, same)

      once : (c i d j k : ℕ) → StandsAt (s.components ++ nodes ∷ []) c i k → StandsAt (s.components ++ nodes ∷ []) d j k → (c ≡ d) × (i ≡ j)
      once c i d j k at_c at_d = elim (stands_cases s.components nodes c i k at_c) [
        | inl old ↦ (elim (stands_cases s.components nodes d j k at_d) [
          | inl old' ↦ a.keeps.found.once c i d j k old old'
          | inr new' ↦ absurd (apart c i j k old new'.1)
        ])
        | inr new ↦ (elim (stands_cases s.components nodes d j k at_d) [
          | inl old' ↦ absurd (apart d j i k old' new.1)
          | inr new' ↦ (new.0 ∙ sym new'.0, one_node i j k new.1 new'.1)
        ])
      ]

      filled : (c : ℕ) → c < length (s.components ++ nodes ∷ []) → (k : ℕ) × Stands (s.components ++ nodes ∷ []) c k
      filled c within = elim (cases_lt c (length s.components)) [
        | inl less ↦ (let there = a.keeps.found.filled c less in (there.0, stands_old s.components nodes c there.0 there.1))
        | inr le ↦ (
            let begin = at_there s.path first first_within in
            let more = push_length s.components nodes in
            let last : length s.components ≡ c = omega (arith, within, le, more) in
            (begin.0, subst (λ (d : ℕ). Stands (s.components ++ nodes ∷ []) d begin.0) last (stands_new s.components nodes begin.0 (node_from first begin.0 begin.1 (omega arith))))
            )
      ]

      group_strong : (i j x y : ℕ) → At nodes i x → At nodes j y → Reaches t x y
      group_strong i j x y at_i at_j = elim (up_or_down i j) [
        | inl le ↦ a.keeps.path.forward (first + i) (first + j) x y (omega (arith, le)) (node_at i x at_i) (node_at j y at_j)
        | inr le ↦ a.keeps.path.back (first + j) (first + i) y x (omega (arith, le)) (node_at j y at_j) (node_at i x at_i) (λ f h l. (let low = up_to_first f h in omega (arith, low)))
      ]

      strong : (c j k : ℕ) → Stands (s.components ++ nodes ∷ []) c j → Stands (s.components ++ nodes ∷ []) c k → Reaches t j k
      strong c j k in_j in_k = elim (stands_cases s.components nodes c in_j.0 j in_j.1) [
        | inl old ↦ (elim (stands_cases s.components nodes c in_k.0 k in_k.1) [
          | inl old' ↦ a.keeps.found.strong c j k (in_j.0, old) (in_k.0, old')
          | inr new' ↦ (let l = at_within s.components c old.0 old.1 in absurd (omega (arith, l, new'.0)))
        ])
        | inr new ↦ (elim (stands_cases s.components nodes c in_k.0 k in_k.1) [
          | inl old' ↦ (let l = at_within s.components c old'.0 old'.1 in absurd (omega (arith, l, new.0)))
          | inr new' ↦ group_strong in_j.0 in_k.0 j k new.1 new'.1
        ])
      ]

      from_group : (p k : ℕ) → first ≤ p → Goes s p k → (d : ℕ) × (d ≤ length s.components) × Stands (s.components ++ nodes ∷ []) d k
      from_group p k le (inl placed) =
          let there = a.keeps.places.stands k placed in
          let at = there.1.1 in
          let l = at_within s.components there.0 at.0 at.1 in
          (there.0, omega (arith, l), stands_old s.components nodes there.0 k there.1)
      from_group p k le (inr (inl group)) = (length s.components, omega arith, stands_new s.components nodes k (node_from group.0 k group.1 (group.2 first first_among le)))
      from_group p k le (inr (inr ahead)) = (let l = none_ahead ahead.0 (edge p k) ahead.1 in absurd (omega (arith, l, le)))

      earlier : (c j k : ℕ) → Stands (s.components ++ nodes ∷ []) c j → Among k (row t j) → k < length t → (d : ℕ) × (d ≤ c) × Stands (s.components ++ nodes ∷ []) d k
      earlier c j k in_j among small = elim (stands_cases s.components nodes c in_j.0 j in_j.1) [
        | inl old ↦ (let there = a.keeps.found.earlier c j k (in_j.0, old) among small in (there.0, there.1, stands_old s.components nodes there.0 k there.2))
        | inr new ↦ (
            let there = from_group (first + in_j.0) k (omega arith) (a.follows (first + in_j.0) j k (node_at in_j.0 j new.1) among small) in
            let low = there.1 in
            (there.0, omega (arith, low, new.0), there.2)
            )
      ]

  short_path : length (take first s.path) ≡ first
  short_path = length-take-le first s.path (omega (arith, first_within))

  closed_path : IsPath t (take first s.path) rest
  closed_path = record {
    forward = λ p q j k le at_p at_q. a.keeps.path.forward p q j k le (at_take first s.path p j at_p).0 (at_take first s.path q k at_q).0;
    back = back;
    rise = rises_front rest first (subst (λ (fs : List ℕ). Rises fs) is a.keeps.path.rise);
    inside = λ f h. (let l = below_first f h in omega (arith, l, short_path));
    bottom = bottom;
  }
    where
      back : (p q j k : ℕ) → p ≤ q → At (take first s.path) p j → At (take first s.path) q k → Joined rest p q → Reaches t k j
      back p q j k le at_p at_q joined =
          let there = at_take first s.path q k at_q in
          let less = there.1 in
          a.keeps.path.back p q j k le (at_take first s.path p j at_p).0 there.0 (λ f h l. elim (starts_cases f h) [
            | inl old ↦ joined f old l
            | inr e ↦ absurd (omega (arith, e, l, less))
          ])

      bottom : 0 < length (take first s.path) → Among 0 rest
      bottom l = elim (starts_cases 0 (a.keeps.path.bottom (omega (arith, first_within)))) [
        | inl old ↦ old
        | inr e ↦ absurd (omega (arith, e, l, short_path))
      ]

  closed_ahead : AreAhead t (take first s.path) s.ahead
  closed_ahead = record {
    leaves = λ i e h. (let there = a.keeps.ahead.leaves i e h in (there.0, take_at first s.path e.from there.0 there.1 (none_ahead i e h), there.2));
    sorted = a.keeps.ahead.sorted;
  }

  goes_on : (p k : ℕ) → p < first → Goes s p k → Goes (closed s rest first) p k
  goes_on p k less (inl placed) = inl (stays_set Placed s.places nodes k placed)
  goes_on p k less (inr (inl group)) = elim (cases_lt group.0 first) [
    | inl low ↦ inr (inl (group.0, take_at first s.path group.0 k group.1 low, λ f h l. group.2 f (among_rest f h) l))
    | inr le ↦ (let among = node_from group.0 k group.1 le in inl (all_set Placed s.places nodes k among (node_within k among)))
  ]
  goes_on p k less (inr (inr ahead)) = inr (inr ahead)

  pub closed_sound : IsSound t (closed s rest first)
  closed_sound = record {
    keeps = record { places = closed_places; found = closed_found; path = closed_path; ahead = closed_ahead };
    follows = λ p j k at among small. (let there = at_take first s.path p j at in goes_on p k there.1 (a.follows p j k there.0 among small));
  }

pub closed_seen : (s : Search) (rest : List ℕ) (first k : ℕ) → Seen s k → Seen (closed s rest first) k
closed_seen s rest first k seen h = elim (all_cases Placed s.places (drop first s.path) k New h) [
  | inl new ↦ new_placed new.1
  | inr old ↦ seen old
]
