-- An edge back to the path: the groups after its end are joined.
use Rattle.std.proofs.Common.{◌≡◌, ℕ, suc, ◌<◌, ◌≤◌, List, [], ◌∷◌, ◌++◌, length, ◌⊎◌, inl, inr, sym, ap, ◌∙◌, subst, arith}
use Rattle.std.proofs.lemmas.Bool.{cases_lt}
use Rattle.components.specs.declared.path.Place.TheVariants.{Placed}
use Rattle.components.specs.declared.path.Edge.{Edge}
use Rattle.components.specs.Graph.{Among, row, Reaches, itself, onward}
use Rattle.components.specs.Search.{Search, At, IsJoined, Rises, Joined, IsPath, Goes, IsSound, IsTaken}
use Rattle.components.proofs.Lists.{among_push_cases, among_left, push_length, rises_front, rises_last}

pub reaches_on : (t : List (List ℕ)) (i j k : ℕ) → Reaches t i j → Reaches t j k → Reaches t i k
reaches_on t i j k itself there = there
reaches_on t i j k (onward {j = m} a near) there = onward a (reaches_on t m j k near there)

pub reaches_edge : (t : List (List ℕ)) (i j k : ℕ) → Reaches t i j → Among k (row t j) → Reaches t i k
reaches_edge t i j k near a = reaches_on t i j k near (onward a itself)

-- numbers in order or not
pub up_or_down : (p q : ℕ) → (p ≤ q) ⊎ (q ≤ p)
up_or_down p q = elim (cases_lt p q) [ inl l ↦ inl (omega (arith, l)) | inr l ↦ inr l ]

module _ (t : List (List ℕ)) (s : Search) where
  with_starts : List ℕ → Search
  with_starts starts = record s { starts = starts }

  -- the nodes of the path reach the end of an edge of the last group
  pub reach_end : (e : Edge) → IsTaken t s e → (q k : ℕ) → At s.path q k → Reaches t k e.to
  reach_end e a q k at =
      let from = a.leaves in
      let near : Reaches t k from.0 = elim (up_or_down q e.from) [
        | inl le ↦ a.keeps.path.forward q e.from k from.0 le at from.1
        | inr le ↦ a.keeps.path.back e.from q from.0 k le from.1 at (λ f h l. a.last f h)
      ] in
      reaches_edge t k from.0 e.to near from.2

  module _ (e : Edge) (a : IsTaken t s e) (p : ℕ) (at_p : At s.path p e.to) (starts : List ℕ) (j : IsJoined s.starts p starts) where
    joined_path : IsPath t s.path starts
    joined_path = record {
      forward = a.keeps.path.forward;
      back = back;
      rise = j.rise;
      inside = λ f h. a.keeps.path.inside f (j.only f h);
      bottom = λ l. j.kept 0 (a.keeps.path.bottom l) (omega arith);
    }
      where
        -- the node at p reaches those of the joined group that stand before it
        from_end : (m k : ℕ) → At s.path m k → Joined starts m p → Reaches t e.to k
        from_end m k at joined = elim (up_or_down m p) [
          | inl le ↦ a.keeps.path.back m p k e.to le at at_p (λ f h l. joined f (j.kept f h l) l)
          | inr le ↦ a.keeps.path.forward p m e.to k le at_p at
        ]

        round : (m q x y : ℕ) → At s.path m x → At s.path q y → Joined starts m p → Reaches t y x
        round m q x y at_m at_q joined = reaches_on t y e.to x (reach_end e a q y at_q) (from_end m x at_m joined)

        back : (m q x y : ℕ) → m ≤ q → At s.path m x → At s.path q y → Joined starts m q → Reaches t y x
        back m q x y le at_m at_q joined = elim (cases_lt p q) [
          | inl l ↦ round m q x y at_m at_q (λ f h low. joined f h (omega (arith, low, l)))
          | inr l ↦ a.keeps.path.back m q x y le at_m at_q (λ f h low. joined f (j.kept f h (omega (arith, low, l))) low)
        ]

    goes_on : (q k : ℕ) → Goes s q k ⊎ (k ≡ e.to) → Goes (record s { starts = starts }) q k
    goes_on q k (inl (inl placed)) = inl placed
    goes_on q k (inl (inr (inl group))) = inr (inl (group.0, group.1, λ f h l. group.2 f (j.only f h) l))
    goes_on q k (inl (inr (inr ahead))) = inr (inr ahead)
    goes_on q k (inr is) = inr (inl (p, subst (λ (i : ℕ). At s.path p i) (sym is) at_p, λ f h l. j.low f h))

    pub joined_sound : IsSound t (record s { starts = starts })
    joined_sound = record {
      keeps = record { places = a.keeps.places; found = a.keeps.found; path = joined_path; ahead = a.keeps.ahead };
      follows = λ q x y at among small. goes_on q y (a.follows q x y at among small);
    }

  -- an edge to a component, or to a number that is no node's
  pub passed_sound : (e : Edge) → IsTaken t s e → (e.to < length t → At s.places e.to Placed) → IsSound t s
  passed_sound e a there = record {
    keeps = a.keeps;
    follows = λ q x y at among small. by q y small (a.follows q x y at among small);
  }
    where
      by : (q y : ℕ) → y < length t → Goes s q y ⊎ (y ≡ e.to) → Goes s q y
      by q y small (inl goes) = goes
      by q y small (inr is) = inl (subst (λ (i : ℕ). At s.places i Placed) (sym is) (there (subst (λ (i : ℕ). i < length t) is small)))

-- ---- groups are joined one after another

pub record IsJoining (old : List ℕ) (p : ℕ) (new : List ℕ) : Type 0 where
  pub shorter : length new ≤ length old
  pub rise : Rises new
  pub only : (f : ℕ) → Among f new → Among f old
  pub kept : (f : ℕ) → Among f old → f ≤ p → Among f new

module _ (old : List ℕ) (p : ℕ) where
  pub joining : Rises old → IsJoining old p old
  joining rise = record { shorter = omega arith; rise = rise; only = λ f h. h; kept = λ f h l. h }

  pub joining_more : (new rest : List ℕ) (f : ℕ) → new ≡ rest ++ f ∷ [] → p < f → IsJoining old p new → IsJoining old p rest
  joining_more new rest f is above a = record {
    shorter = (let long : length new ≡ suc (length rest) = ap length is ∙ push_length rest f in omega (arith, long, a.shorter));
    rise = rises_front rest f (subst (λ (fs : List ℕ). Rises fs) is a.rise);
    only = λ g h. a.only g (subst (λ (fs : List ℕ). Among g fs) (sym is) (among_left g rest (f ∷ []) h));
    kept = λ g h l. elim (among_push_cases g rest f (subst (λ (fs : List ℕ). Among g fs) is (a.kept g h l))) [ inl there ↦ there | inr e ↦ absurd (omega (arith, e, l, above)) ];
  }

  pub joined_last : (new rest : List ℕ) (f : ℕ) → new ≡ rest ++ f ∷ [] → f ≤ p → IsJoining old p new → IsJoined old p new
  joined_last new rest f is le a = record {
    shorter = a.shorter;
    rise = a.rise;
    only = a.only;
    kept = a.kept;
    low = λ g h. elim (among_push_cases g rest f (subst (λ (fs : List ℕ). Among g fs) is h)) [
      | inl there ↦ (let l = rises_last rest f (subst (λ (fs : List ℕ). Rises fs) is a.rise) g there in omega (arith, l, le))
      | inr e ↦ omega (arith, e, le)
    ];
  }

  pub joined_none : (new : List ℕ) → new ≡ [] → IsJoining old p new → IsJoined old p new
  joined_none new is a = record {
    shorter = a.shorter;
    rise = a.rise;
    only = a.only;
    kept = a.kept;
    low = λ g h. absurd (subst (λ (fs : List ℕ). Among g fs) is h);
  }
