-- The whole search: how it begins, how it takes an edge, and what its end says.
use Rattle.std.proofs.Common.{◌≡◌, ℕ, zero, suc, ◌+◌, ◌<◌, ◌≤◌, List, [], ◌∷◌, ◌++◌, length, replicate, ◌⊎◌, inl, inr, Some, None, refl, sym, ap, ◌∙◌, subst, arith}
use Rattle.std.proofs.lemmas.List.{length-replicate}
use Rattle.std.specs.Prelude.{slice_get}
use Rattle.std.proofs.lemmas.Bool.{cases_lt}
use Rattle.components.specs.declared.path.Place.{Place}
use Rattle.components.specs.declared.path.Place.TheVariants.{New, OnPath, Placed}
use Rattle.components.specs.declared.path.Edge.{Edge}
use Rattle.components.specs.Graph.{Among, row_in, row, Reaches, itself, onward}
use Rattle.components.specs.Components.{Stands, AreComponents}
use Rattle.components.specs.Search.{Search, At, edge, Rises, AreAhead, Goes, IsSound, IsTaken, Seen, IsStep, IsSearched}
use Rattle.components.proofs.Lists.{at_one, at_within, at_there, at_left, at_push, at_push_cases, rises_last, among_push_cases}
use Rattle.components.proofs.Entering.{new_on_path, new_placed}

-- ---- before the search

abbrev blank : ℕ → Search
blank n = record { places = replicate n New; path = []; starts = []; ahead = []; components = [] }

at_replicate : (n k : ℕ) (x : Place) → At (replicate n New) k x → x ≡ New
at_replicate zero k x h = let bad : None ≡ Some x = h in absurd cc
at_replicate (suc n) zero x h = at_one (New ∷ []) 0 x New h refl
at_replicate (suc n) (suc k) x h = at_replicate n k x h

none_at : {A : Type 0} (i : ℕ) (x : A) → At [] i x → ⊥
none_at i x h = let bad : None ≡ Some x = h in cc

pub begun : (t : List (List ℕ)) (n : ℕ) → n ≡ length t → IsSound t (blank n)
begun t n many = record {
  keeps = record {
    places = record {
      size = length-replicate n New ∙ many;
      on_path = λ p k h. absurd (none_at p k h);
      at_place = λ p k h. absurd (new_on_path p (sym (at_replicate n k (OnPath p) h)));
      placed = λ c i k h. absurd (none_at c h.0 h.1);
      stands = λ k h. absurd (new_placed (sym (at_replicate n k Placed h)));
    };
    found = record {
      once = λ c i d j k h g. absurd (none_at c h.0 h.1);
      filled = λ c l. absurd (omega (arith, l));
      strong = λ c j k h g. absurd (none_at c h.1.0 h.1.1);
      earlier = λ c j k h among small. absurd (none_at c h.1.0 h.1.1);
    };
    path = record {
      forward = λ p q j k le h g. absurd (none_at p j h);
      back = λ p q j k le h g joined. absurd (none_at p j h);
      rise = λ i j f g l h h'. absurd (none_at i f h);
      inside = λ f h. absurd h;
      bottom = λ l. absurd (omega (arith, l));
    };
    ahead = record {
      leaves = λ i e h. absurd (none_at i e h);
      sorted = λ i j d e le h g. absurd (none_at i d h);
    };
  };
  follows = λ p j k h among small. absurd (none_at p j h);
}

-- ---- an edge is taken

module _ (t : List (List ℕ)) (s : Search) (a : IsSound t s) (rest : List ℕ) (first : ℕ) (is : s.starts ≡ rest ++ first ∷ []) where
  up_to_first : (f : ℕ) → Among f s.starts → f ≤ first
  up_to_first f h = elim (among_push_cases f rest first (subst (λ (fs : List ℕ). Among f fs) is h)) [
    | inl old ↦ (let l = rises_last rest first (subst (λ (fs : List ℕ). Rises fs) is a.keeps.path.rise) f old in omega (arith, l))
    | inr e ↦ omega (arith, e)
  ]

  pub taken : (ahead : List Edge) (e : Edge) → s.ahead ≡ ahead ++ e ∷ [] → first ≤ e.from → IsTaken t (record s { ahead = ahead }) e
  taken ahead e ahead_is le = record {
    keeps = record {
      places = a.keeps.places;
      found = a.keeps.found;
      path = a.keeps.path;
      ahead = record {
        leaves = λ i d h. a.keeps.ahead.leaves i d (old i d h);
        sorted = λ i j d d' low h g. a.keeps.ahead.sorted i j d d' low (old i d h) (old j d' g);
      };
    };
    follows = λ p j k at among small. still p k (a.follows p j k at among small);
    leaves = a.keeps.ahead.leaves (length ahead) e (subst (λ (l : List Edge). At l (length ahead) e) (sym ahead_is) (at_push ahead e));
    last = λ f h. (let l = up_to_first f h in omega (arith, l, le));
  }
    where
      old : (i : ℕ) (d : Edge) → At ahead i d → At s.ahead i d
      old i d h = subst (λ (l : List Edge). At l i d) (sym ahead_is) (at_left ahead (e ∷ []) i d h)

      still : (p k : ℕ) → Goes s p k → Goes (record s { ahead = ahead }) p k ⊎ (k ≡ e.to)
      still p k (inl placed) = inl (inl placed)
      still p k (inr (inl group)) = inl (inr (inl group))
      still p k (inr (inr there)) = elim (at_push_cases ahead e there.0 (edge p k) (subst (λ (l : List Edge). At l there.0 (edge p k)) ahead_is there.1)) [
        | inl before ↦ inl (inr (inr (there.0, before)))
        | inr last ↦ inr (ap (λ (d : Edge). d.to) (sym last.1))
      ]

-- where the last edge ahead leaves an earlier group, all do
with_last : (l : List Edge) → (l ≡ [] → ⊥) → (rest : List Edge) × (e : Edge) × (l ≡ rest ++ e ∷ [])
with_last [] some = absurd (some refl)
with_last (d ∷ []) some = ([], d, refl)
with_last (d ∷ d' ∷ l) some = let there = with_last (d' ∷ l) (λ h. (let bad : d' ∷ l ≡ [] = h in cc)) in (d ∷ there.0, there.1, ap (λ (m : List Edge). d ∷ m) there.2)

module _ (t : List (List ℕ)) (path : List ℕ) (ahead : List Edge) (first : ℕ) (a : AreAhead t path ahead) where
  up_to_last : (rest : List Edge) (d : Edge) → ahead ≡ rest ++ d ∷ [] → d.from < first → (i : ℕ) (e : Edge) → At ahead i e → e.from < first
  up_to_last rest d is low i e at = elim (at_push_cases rest d i e (subst (λ (l : List Edge). At l i e) is at)) [
    | inl before ↦ (
        let l = at_within rest i e before in
        let sorted = a.sorted i (length rest) e d (omega (arith, l)) at (subst (λ (l : List Edge). At l (length rest) d) (sym is) (at_push rest d)) in
        omega (arith, sorted, low)
        )
    | inr same ↦ subst (λ (c : Edge). c.from < first) same.1 low
  ]

  pub none_ahead : ((rest : List Edge) (e : Edge) → ahead ≡ rest ++ e ∷ [] → e.from < first) → (i : ℕ) (e : Edge) → At ahead i e → e.from < first
  none_ahead last i e at =
      let whole = with_last ahead (λ none_there. none_at i e (subst (λ (l : List Edge). At l i e) none_there at)) in
      up_to_last whole.0 whole.1 whole.2 (last whole.0 whole.1 whole.2) i e at

-- a path with no group has no node
pub path_done : (t : List (List ℕ)) (s : Search) → IsSound t s → s.starts ≡ [] → s.path ≡ []
path_done t s a none = by s.path refl
  where
    by : (path : List ℕ) → s.path ≡ path → s.path ≡ []
    by [] is = is
    by (k ∷ path) is = (let long : length s.path ≡ suc (length path) = ap length is in absurd (subst (λ (fs : List ℕ). Among 0 fs) none (a.keeps.path.bottom (omega (arith, long)))))

-- ---- between the steps of a search, and between searches

pub record Searches (t : List (List ℕ)) (s s' : Search) (k : ℕ) : Type 0 where
  pub sound : IsSound t s'
  pub seen : (j : ℕ) → Seen s j ⊎ (j ≡ k) → Seen s' j

pub searches_more : (t : List (List ℕ)) (s s' s'' : Search) (k bound : ℕ) → Searches t s s' k → IsStep t s' s'' bound → Searches t s s'' k
searches_more t s s' s'' k bound a step = record { sound = step.sound; seen = λ j h. step.seen j (a.seen j h) }

pub record IsBetween (t : List (List ℕ)) (s : Search) (n : ℕ) : Type 0 where
  pub sound : IsSound t s
  pub ended : s.path ≡ []
  pub seen : (k : ℕ) → k < n → Seen s k

pub between_more : (t : List (List ℕ)) (s s' : Search) (n : ℕ) → IsBetween t s n → IsSearched t s s' n → IsBetween t s' (n + 1)
between_more t s s' n a searched = record {
  sound = searched.sound;
  ended = path_done t s' searched.sound searched.ended;
  seen = λ k l. searched.seen k (elim (cases_lt k n) [ inl less ↦ inl (a.seen k less) | inr le ↦ inr (omega (arith, l, le)) ]);
}

pub begun_between : (t : List (List ℕ)) (n : ℕ) → n ≡ length t → IsBetween t (blank n) 0
begun_between t n many = record { sound = begun t n many; ended = refl; seen = λ k l. absurd (omega (arith, l)) }

-- ---- after the search

module _ (t : List (List ℕ)) where
  pub row_within : (j k : ℕ) → Among k (row t j) → j < length t
  row_within j k among = by t j among
    where
      by : (u : List (List ℕ)) (i : ℕ) → Among k (row_in (slice_get u i)) → i < length u
      by [] i h = absurd h
      by (ks ∷ u) zero h = omega arith
      by (ks ∷ u) (suc i) h = let l = by u i h in omega (arith, l)

  reaches_within : (j k : ℕ) → Reaches t j k → k < length t → j < length t
  reaches_within j k itself small = small
  reaches_within j k (onward {j = m} among way) small = row_within j m among

  module _ (s : Search) (a : IsSound t s) (done : s.path ≡ []) (seen : (k : ℕ) → k < length t → Seen s k) where
    all_placed : (k : ℕ) → k < length t → At s.places k Placed
    all_placed k small =
        let there = at_there s.places k (omega (arith, small, a.keeps.places.size)) in
        by there.0 there.1
      where
        by : (x : Place) → At s.places k x → At s.places k Placed
        by New at = absurd (seen k small at)
        by (OnPath p) at = absurd (none_at p k (subst (λ (l : List ℕ). At l p k) done (a.keeps.places.at_place p k at)))
        by Placed at = at

    stands : (k : ℕ) → k < length t → (c : ℕ) × Stands s.components c k
    stands k small = a.keeps.places.stands k (all_placed k small)

    -- what a node reaches stands no later
    reached_earlier : (c j k : ℕ) → Reaches t j k → k < length t → Stands s.components c j → (d : ℕ) × (d ≤ c) × Stands s.components d k
    reached_earlier c j k itself small at = (c, omega arith, at)
    reached_earlier c j k (onward {j = m} among way) small at =
        let near = a.keeps.found.earlier c j m at among (reaches_within m k way small) in
        let far = reached_earlier near.0 m k way small near.2 in
        (far.0, omega (arith, near.1, far.1), far.2)

    one_component : (c d k : ℕ) → Stands s.components c k → Stands s.components d k → c ≡ d
    one_component c d k in_c in_d = (a.keeps.found.once c in_c.0 d in_d.0 k in_c.1 in_d.1).0

    together : (j k : ℕ) → j < length t → k < length t → Reaches t j k → Reaches t k j → (c : ℕ) × Stands s.components c j × Stands s.components c k
    together j k j_small k_small there back =
        let at_j = stands j j_small in
        let at_k = reached_earlier at_j.0 j k there k_small at_j.1 in
        let at_j' = reached_earlier at_k.0 k j back j_small at_k.2 in
        let same = one_component at_j.0 at_j'.0 j at_j.1 at_j'.2 in
        let is : at_k.0 ≡ at_j.0 = omega (arith, at_k.1, at_j'.1, same) in
        (at_j.0, at_j.1, subst (λ (c : ℕ). Stands s.components c k) is at_k.2)

    pub found_components : AreComponents t s.components
    found_components = record {
      all = stands;
      once = a.keeps.found.once;
      only = λ c k h. (let l = at_within s.places k Placed (a.keeps.places.placed c h.0 k h.1) in omega (arith, l, a.keeps.places.size));
      filled = a.keeps.found.filled;
      together = λ j k j_small k_small. ((λ h. (a.keeps.found.strong h.0 j k h.1 h.2, a.keeps.found.strong h.0 k j h.2 h.1)), λ h. together j k j_small k_small h.0 h.1);
      earlier = a.keeps.found.earlier;
    }

pub all_found : (t : List (List ℕ)) (s : Search) (n : ℕ) → IsBetween t s n → length t ≤ n → AreComponents t s.components
all_found t s n a many = found_components t s a.sound a.ended (λ k l. a.seen k (omega (arith, l, many)))
