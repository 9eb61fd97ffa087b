-- A node leads to itself just where its component has a cycle.
use Rattle.std.proofs.Common.{◌≡◌, ℕ, zero, suc, ◌+◌, ◌<◌, ◌≤◌, Bool, true, false, List, [], ◌∷◌, length, replicate, inl, inr, Some, None, refl, sym, ◌∙◌, subst, arith}
use Rattle.std.specs.Prelude.{IsTrue, ◌↔◌}
use Rattle.std.proofs.lemmas.Bool.{cases_eq}
use Rattle.std.proofs.lemmas.List.{length-replicate}
use Rattle.components.specs.Graph.{Among, row, Leads, at_once, through, Reaches, itself, onward}
use Rattle.components.specs.Components.{Stands, AreComponents, AreOnCycles}
use Rattle.components.specs.Cycles.{HasCycle, AreMarked}
use Rattle.components.specs.Search.{At, set_all}
use Rattle.components.proofs.Lists.{among_at, at_among, at_one, at_within}
use Rattle.components.proofs.Settings.{all_length, all_set, all_cases, stays_set}
use Rattle.components.proofs.Joining.{reaches_on}
use Rattle.components.proofs.Whole.{row_within}

module _ (t : List (List ℕ)) where
  leads_within : (j k : ℕ) → Leads t j k → j < length t
  leads_within j k (at_once a) = row_within t j k a
  leads_within j k (through {j = m} a way) = row_within t j m a

  leads_reaches : (j k : ℕ) → Leads t j k → Reaches t j k
  leads_reaches j k (at_once a) = onward a itself
  leads_reaches j k (through {j = m} a way) = onward a (leads_reaches m k way)

  -- an edge, and on
  edge_reaches : (i j k : ℕ) → Among j (row t i) → Reaches t j k → Leads t i k
  edge_reaches i j k a itself = at_once a
  edge_reaches i j k a (onward {j = m} b way) = through a (edge_reaches j m k b way)

  -- to another node and back
  round : (j k : ℕ) → (j ≡ k → ⊥) → Reaches t j k → Reaches t k j → Leads t j j
  round j k differ itself back = absurd (differ refl)
  round j k differ (onward {j = m} a way) back = edge_reaches j m j a (reaches_on t m k j way back)

  only_one : (x k : ℕ) → Among k (x ∷ []) → k ≡ x
  only_one x k (inl e) = e
  only_one x k (inr h) = absurd h

  module _ (components : List (List ℕ)) (a : AreComponents t components) (c : ℕ) where
    stands : (nodes : List ℕ) (k : ℕ) → At components c nodes → Among k nodes → Stands components c k
    stands nodes k at among = let there = among_at k nodes among in (there.0, (nodes, at, there.1))

    another : (nodes : List ℕ) (i j k o : ℕ) → At components c nodes → At nodes i k → At nodes j o → (i ≡ j → ⊥) → Leads t k k
    another nodes i j k o at at_k at_o apart =
        let in_k : Stands components c k = (i, (nodes, at, at_k)) in
        let in_o : Stands components c o = (j, (nodes, at, at_o)) in
        let differ : k ≡ o → ⊥ = (λ e. apart (a.once c i c j k (nodes, at, at_k) (nodes, at, subst (λ (x : ℕ). At nodes j x) (sym e) at_o)).1) in
        let ways = (a.together k o (a.only c k in_k) (a.only c o in_o)).0 (c, in_k, in_o) in
        round k o differ ways.0 ways.1

    pub cycle_leads : (nodes : List ℕ) (k : ℕ) → At components c nodes → Among k nodes → HasCycle t nodes → Leads t k k
    cycle_leads [] k at among has = absurd has
    cycle_leads (x ∷ []) k at among has = at_once (subst (λ (i : ℕ). Among i (row t i)) (sym (only_one x k among)) has)
    cycle_leads (x ∷ y ∷ ks) k at among has =
        let there = among_at k (x ∷ y ∷ ks) among in
        elim (cases_eq there.0 0) [
          | inl first ↦ another (x ∷ y ∷ ks) there.0 1 k y at there.1 refl (λ e. omega (arith, e, first))
          | inr later ↦ another (x ∷ y ∷ ks) there.0 0 k x at there.1 refl later
        ]

    pub leads_cycle : (nodes : List ℕ) (k : ℕ) → At components c nodes → Among k nodes → Leads t k k → HasCycle t nodes
    leads_cycle [] k at among way = absurd among
    leads_cycle (x ∷ y ∷ ks) k at among way = tt
    leads_cycle (x ∷ []) k at among way = subst (λ (i : ℕ). Among i (row t i)) (only_one x k among) (own way)
      where
        in_k : Stands components c k
        in_k = stands (x ∷ []) k at among

        same : (j : ℕ) → Among j (row t k) → Leads t j k → k ≡ j
        same j first rest =
            let shared = (a.together j k (leads_within j k rest) (leads_within k k way)).1 (leads_reaches j k rest, onward first itself) in
            let in_j = shared.1 in
            let here = a.once shared.0 shared.2.0 c in_k.0 k shared.2.1 in_k.1 in
            let nodes_are : in_j.1.0 ≡ x ∷ [] = at_one components c in_j.1.0 (x ∷ []) (subst (λ (d : ℕ). At components d in_j.1.0) here.0 in_j.1.1) at in
            only_one x k among ∙ sym (only_one x j (subst (λ (l : List ℕ). Among j l) nodes_are (at_among j in_j.1.0 in_j.0 in_j.1.2)))

        own : Leads t k k → Among k (row t k)
        own (at_once h) = h
        own (through {j = j} h rest) = subst (λ (i : ℕ). Among i (row t k)) (sym (same j h rest)) h

    -- ---- marks

    pub nodes_within : (nodes : List ℕ) → At components c nodes → (k : ℕ) → Among k nodes → k < length t
    nodes_within nodes at k among = a.only c k (stands nodes k at among)

    one_component : (nodes : List ℕ) (k : ℕ) → At components c nodes → Stands components c k → Among k nodes
    one_component nodes k at h = subst (λ (l : List ℕ). Among k l) (at_one components c h.1.0 nodes h.1.1 at) (at_among k h.1.0 h.0 h.1.2)

    pub marked_more : (marks : List Bool) (nodes : List ℕ) → At components c nodes → HasCycle t nodes → AreMarked t components c marks → AreMarked t components (c + 1) (set_all true marks nodes)
    marked_more marks nodes at has m = record {
      size = all_length true marks nodes ∙ m.size;
      sound = λ k h. elim (all_cases true marks nodes k true h) [ inl new ↦ cycle_leads nodes k at new.0 has | inr old ↦ m.sound k old ];
      complete = λ d k less h way. elim (cases_eq d c) [
        | inl e ↦ (
            let among = one_component nodes k at (subst (λ (i : ℕ). Stands components i k) e h) in
            all_set true marks nodes k among (omega (arith, nodes_within nodes at k among, m.size))
            )
        | inr other ↦ stays_set true marks nodes k (m.complete d k (omega (arith, less, other)) h way)
      ];
    }

    pub marked_skip : (marks : List Bool) (nodes : List ℕ) → At components c nodes → (HasCycle t nodes → ⊥) → AreMarked t components c marks → AreMarked t components (c + 1) marks
    marked_skip marks nodes at has_none m = record {
      size = m.size;
      sound = m.sound;
      complete = λ d k less h way. elim (cases_eq d c) [
        | inl e ↦ absurd (has_none (leads_cycle nodes k at (one_component nodes k at (subst (λ (i : ℕ). Stands components i k) e h)) way))
        | inr other ↦ m.complete d k (omega (arith, less, other)) h way
      ];
    }

  at_replicate : (n k : ℕ) (b : Bool) → At (replicate n false) k b → b ≡ false
  at_replicate zero k b h = let bad : None ≡ Some b = h in absurd cc
  at_replicate (suc n) zero b h = at_one (false ∷ []) 0 b false h refl
  at_replicate (suc n) (suc k) b h = at_replicate n k b h

  pub marked_none : (components : List (List ℕ)) (n : ℕ) → n ≡ length t → AreMarked t components 0 (replicate n false)
  marked_none components n many = record {
    size = length-replicate n false ∙ many;
    sound = λ k h. absurd (let bad : true ≡ false = at_replicate n k true h in cc);
    complete = λ c k less h way. absurd (omega (arith, less));
  }

  pub marked_all : (components : List (List ℕ)) (a : AreComponents t components) (c : ℕ) (marks : List Bool) → length components ≤ c → AreMarked t components c marks → AreOnCycles t marks
  marked_all components a c marks long m = record { size = m.size; is = λ k b h. is k b h }
    where
      is : (k : ℕ) (b : Bool) → At marks k b → IsTrue b ↔ Leads t k k
      is k true h = (λ so. m.sound k h, λ way. refl)
      is k false h = (
        λ so. absurd (let bad : false ≡ true = so in cc),
        λ way. absurd (
            let there = a.all k (leads_within k k way) in
            let within = at_within components there.0 there.1.1.0 there.1.1.1 in
            let bad : false ≡ true = at_one marks k false true h (m.complete there.0 k (omega (arith, within, long)) there.1 way) in
            cc
            ),
      )
