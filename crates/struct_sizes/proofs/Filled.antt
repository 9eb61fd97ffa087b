-- The pass over the components of holding makes the table of words.
use Rattle.std.proofs.Common.{◌≡◌, ℕ, zero, suc, ◌+◌, ◌<◌, List, [], ◌∷◌, length, get_or, replicate, true, false, Option, Some, None, ◌⊎◌, inl, inr, refl, sym, ap, ◌∙◌, subst, arith}
use Rattle.std.specs.Prelude.{Bool, if◌then◌else◌, slice_get, slice_set}
use Rattle.std.specs.Option.{unwrap_or}
use Rattle.std.proofs.lemmas.Bool.{cases_eq, cases_lt}
use Rattle.std.proofs.lemmas.List.{length-replicate}
use Rattle.std.proofs.lemmas.Option.{get_or_from_slice_get, unwrap_or-slice_get}
use Rattle.struct_sizes.specs.Structs.{Fields, holds}
use Rattle.struct_sizes.specs.Words.{sum_words, IsTable}
use Rattle.struct_sizes.specs.Filling.{fields_in, filled_at, filled, filled_all}
use Rattle.components.specs.Graph.{Among, row, Leads, at_once}
use Rattle.components.specs.Components.{StandsAt, Stands, AreComponents, AreOnCycles}
use Rattle.components.proofs.Lists.{at_one, at_within, at_there, set_same, set_other, set_length}
use Rattle.struct_sizes.proofs.Ways.{round}
use Rattle.struct_sizes.proofs.Sums.{held_row, holds_length, same_sums}

At : {A : Type 0} → List A → ℕ → A → Type 0
At xs i x = slice_get xs i ≡ Some x

pub at_replicate : {A : Type 0} (x : A) (n k : ℕ) → k < n → slice_get (replicate n x) k ≡ Some x
at_replicate x zero k l = absurd (omega (arith, l))
at_replicate x (suc n) zero l = refl
at_replicate x (suc n) (suc k) l = at_replicate x n k (omega (arith, l))

pub get_other : (table : List (Option ℕ)) (k j : ℕ) (w : Option ℕ) → (j ≡ k → ⊥) → get_or (slice_set table k w) j None ≡ get_or table j None
get_other table k j w other = sym (unwrap_or-slice_get (slice_set table k w) j None) ∙ ap (λ (o : Option (Option ℕ)). unwrap_or o None) (set_other table k j w other) ∙ unwrap_or-slice_get table j None

module _ (ss : List Fields) (cycles : List Bool) (comps : List (List ℕ)) (a : AreComponents (holds ss) comps) (o : AreOnCycles (holds ss) cycles) where
  -- a node stands before a place of a component
  abbrev Before : (c i k : ℕ) → Type 0
  Before c i k = (d : ℕ) × (m : ℕ) × StandsAt comps d m k × ((d < c) ⊎ ((d ≡ c) × (m < i)))

  record Filled (table : List (Option ℕ)) (c i : ℕ) : Type 0 where
    size : length table ≡ length ss
    done : (k : ℕ) (s : Fields) → Before c i k → slice_get ss k ≡ Some s → (Leads (holds ss) k k → ⊥) → slice_get table k ≡ Some (sum_words table s)
    none_yet : (k : ℕ) → k < length ss → Leads (holds ss) k k ⊎ (Before c i k → ⊥) → slice_get table k ≡ Some None

  before_more : (c i k : ℕ) → Before c i k → Before c (i + 1) k
  before_more c i k (d, m, at, inl l) = (d, m, at, inl l)
  before_more c i k (d, m, at, inr l) = (d, m, at, inr (l.0, (let l1 = l.1 in omega (arith, l1))))

  before_cases : (c i k j : ℕ) → StandsAt comps c i k → Before c (i + 1) j → Before c i j ⊎ (j ≡ k)
  before_cases c i k j at (d, m, there, inl l) = inl (d, m, there, inl l)
  before_cases c i k j at (d, m, there, inr l) = elim (cases_lt m i) [
    | inl low ↦ inl (d, m, there, inr (l.0, low))
    | inr high ↦ (
        let same : m ≡ i = (let l1 = l.1 in omega (arith, l1, high)) in
        let nodes : there.0 ≡ at.0 = at_one comps c there.0 at.0 (subst (λ (x : ℕ). slice_get comps x ≡ Some there.0) l.0 there.1) at.1 in
        inr (at_one at.0 i j k (subst (λ (x : ℕ). slice_get at.0 x ≡ Some j) same (subst (λ (xs : List ℕ). slice_get xs m ≡ Some j) nodes there.2)) at.2)
        )
  ]

  module _ (table : List (Option ℕ)) (c i k : ℕ) (at : StandsAt comps c i k) (f : Filled table c i) where
    in_range : k < length ss
    in_range = let l = a.only c k (i, at) in let e = holds_length ss in omega (arith, l, e)

    -- on a cycle
    passed : Leads (holds ss) k k → Filled table c (i + 1)
    passed way = record {
      size = f.size;
      done = λ j s before at_s no_loop. elim (before_cases c i k j at before) [
        | inl old ↦ f.done j s old at_s no_loop
        | inr e ↦ absurd (no_loop (subst (λ (x : ℕ). Leads (holds ss) x x) (sym e) way))
      ];
      none_yet = λ j small why. f.none_yet j small (elim why [ inl way ↦ inl way | inr not_yet ↦ inr (λ before. not_yet (before_more c i j before)) ]);
    }

    module _ (no_loop : Leads (holds ss) k k → ⊥) (s : Fields) (at_s : slice_get ss k ≡ Some s) where
      words : Option ℕ
      words = sum_words table s

      next : List (Option ℕ)
      next = slice_set table k words

      -- no edge to the node from one before it that isn't on a cycle, nor from itself
      no_edge : (j : ℕ) → Before c (i + 1) j → (Leads (holds ss) j j → ⊥) → Among k (row (holds ss) j) → ⊥
      no_edge j before free among = by (before_cases c i k j at before)
        where
          by : Before c i j ⊎ (j ≡ k) → ⊥
          by (inr e) = no_loop (at_once (subst (λ (x : ℕ). Among k (row (holds ss) x)) e among))
          by (inl (d, m, there, place)) =
              let near = a.earlier d j k (m, there) among (a.only c k (i, at)) in
              let same = (a.once near.0 near.2.0 c i k near.2.1 at).0 in
              let is : d ≡ c = elim place [ inl l ↦ (let le = near.1 in absurd (omega (arith, l, le, same))) | inr l ↦ l.0 ] in
              let mutual_ways = (a.together j k (a.only d j (m, there)) (a.only c k (i, at))).0 (c, subst (λ (x : ℕ). Stands comps x j) is (m, there), (i, at)) in
              free (round (holds ss) j k among mutual_ways.1)

      same_as_before : (j : ℕ) (r : Fields) → Before c (i + 1) j → slice_get ss j ≡ Some r → (Leads (holds ss) j j → ⊥) → sum_words table r ≡ sum_words next r
      unfolding next
      same_as_before j r before at_r free = same_sums table next r (λ x h. sym (get_other table k x words (λ e. no_edge j before free (subst (λ (y : ℕ). Among y (row (holds ss) j)) e (subst (λ (l : List ℕ). Among x l) (sym (held_row ss j r at_r)) h)))))

      entered : Filled next c (i + 1)
      unfolding next words
      entered = record {
        size = set_length table k words ∙ f.size;
        done = λ j r before at_r free. elim (cases_eq j k) [
          | inl e ↦ (
              let was = at_there table k (let l = in_range in let z = f.size in omega (arith, l, z)) in
              let here : slice_get next k ≡ Some words = set_same table k was.0 words was.1 in
              let is : s ≡ r = at_one ss k s r at_s (subst (λ (x : ℕ). slice_get ss x ≡ Some r) e at_r) in
              subst (λ (x : ℕ). slice_get next x ≡ Some (sum_words next r)) (sym e) (here ∙ ap (λ (q : Fields). Some (sum_words table q)) is ∙ ap Some (same_as_before j r before at_r free))
              )
          | inr other ↦ (elim (before_cases c i k j at before) [
            | inl old ↦ set_other table k j words other ∙ f.done j r old at_r free ∙ ap Some (same_as_before j r before at_r free)
            | inr e ↦ absurd (other e)
          ])
        ];
        none_yet = λ j small why. (
            let other : j ≡ k → ⊥ = λ e. elim why [
              | inl way ↦ no_loop (subst (λ (x : ℕ). Leads (holds ss) x x) e way)
              | inr not_yet ↦ not_yet (subst (λ (x : ℕ). Before c (i + 1) x) (sym e) (c, i, at, inr (refl, (omega arith))))
            ] in
            set_other table k j words other ∙ f.none_yet j small (elim why [ inl way ↦ inl way | inr not_yet ↦ inr (λ before. not_yet (before_more c i j before)) ])
            );
      }

    one_more : Filled (filled_at ss cycles table k) c (i + 1)
    unfolding next words
    one_more =
        let l = in_range in
        let there = at_there ss k l in
        let mark = at_there cycles k (let z = o.size in let e = holds_length ss in omega (arith, l, z, e)) in
        by mark.0 mark.1 there.0 there.1
      where
        entered_as : (no_loop : Leads (holds ss) k k → ⊥) (s : Fields) → slice_get ss k ≡ Some s → Filled (slice_set table k (sum_words table s)) c (i + 1)
        entered_as no_loop s at_s = entered no_loop s at_s

        by : (b : Bool) → slice_get cycles k ≡ Some b → (s : Fields) → slice_get ss k ≡ Some s → Filled (filled_at ss cycles table k) c (i + 1)
        by true marked s at_s = subst (λ (b : Bool). Filled (if b then table else slice_set table k (sum_words table (fields_in (slice_get ss k)))) c (i + 1)) (sym (get_or_from_slice_get cycles k true false marked)) (passed ((o.is k true marked).0 refl))
        by false marked s at_s =
            subst (λ (b : Bool). Filled (if b then table else slice_set table k (sum_words table (fields_in (slice_get ss k)))) c (i + 1)) (sym (get_or_from_slice_get cycles k false false marked))
            (subst (λ (x : Option Fields). Filled (slice_set table k (sum_words table (fields_in x))) c (i + 1)) (sym at_s)
            (entered_as (λ way. (let bad : false ≡ true = (o.is k false marked).1 way in cc)) s at_s))

  -- the nodes of a component from its i-th one on
  filled_from : (table : List (Option ℕ)) (c i : ℕ) (ks : List ℕ) → ((j k : ℕ) → slice_get ks j ≡ Some k → StandsAt comps c (i + j) k) → Filled table c i → Filled (filled ss cycles table ks) c (i + length ks)
  filled_from table c i [] at f = subst (λ (n : ℕ). Filled table c n) (omega arith) f
  filled_from table c i (k ∷ ks) at f =
      let here : StandsAt comps c i k = subst (λ (n : ℕ). StandsAt comps c n k) (omega arith) (at 0 k refl) in
      subst (λ (n : ℕ). Filled (filled ss cycles table (k ∷ ks)) c n) (omega arith)
      (filled_from (filled_at ss cycles table k) c (i + 1) ks (λ j x h. subst (λ (n : ℕ). StandsAt comps c n x) (omega arith) (at (suc j) x h)) (one_more table c i k here f))

  turned : (table : List (Option ℕ)) (c : ℕ) (nodes : List ℕ) → slice_get comps c ≡ Some nodes → Filled table c (length nodes) → Filled table (c + 1) 0
  turned table c nodes at f = record {
    size = f.size;
    done = λ k s before at_s free. f.done k s (back k before) at_s free;
    none_yet = λ k small why. f.none_yet k small (elim why [ inl way ↦ inl way | inr not_yet ↦ inr (λ before. not_yet (forth k before)) ]);
  }
    where
      back : (k : ℕ) → Before (c + 1) 0 k → Before c (length nodes) k
      back k (d, m, there, inr l) = let l1 = l.1 in absurd (omega (arith, l1))
      back k (d, m, there, inl l) = elim (cases_lt d c) [
        | inl low ↦ (d, m, there, inl low)
        | inr high ↦ (
            let is : d ≡ c = omega (arith, l, high) in
            let same : there.0 ≡ nodes = at_one comps c there.0 nodes (subst (λ (x : ℕ). slice_get comps x ≡ Some there.0) is there.1) at in
            let within = at_within there.0 m k there.2 in
            (d, m, there, inr (is, subst (λ (xs : List ℕ). m < length xs) same within))
            )
      ]

      forth : (k : ℕ) → Before c (length nodes) k → Before (c + 1) 0 k
      forth k (d, m, there, inl l) = (d, m, there, inl (omega (arith, l)))
      forth k (d, m, there, inr l) = let l0 = l.0 in (d, m, there, inl (omega (arith, l0)))

  all_from : (table : List (Option ℕ)) (c : ℕ) (cs : List (List ℕ)) → ((j : ℕ) (nodes : List ℕ) → slice_get cs j ≡ Some nodes → slice_get comps (c + j) ≡ Some nodes) → Filled table c 0 → Filled (filled_all ss cycles table cs) (c + length cs) 0
  all_from table c [] at f = subst (λ (n : ℕ). Filled table n 0) (omega arith) f
  all_from table c (nodes ∷ cs) at f =
      let here : slice_get comps c ≡ Some nodes = subst (λ (n : ℕ). slice_get comps n ≡ Some nodes) (omega arith) (at 0 nodes refl) in
      let after = filled_from table c 0 nodes (λ j k h. (nodes, here, subst (λ (n : ℕ). slice_get nodes n ≡ Some k) (omega arith) h)) f in
      let next = turned (filled ss cycles table nodes) c nodes here (subst (λ (n : ℕ). Filled (filled ss cycles table nodes) c n) (omega arith) after) in
      subst (λ (n : ℕ). Filled (filled_all ss cycles table (nodes ∷ cs)) n 0) (omega arith)
      (all_from (filled ss cycles table nodes) (c + 1) cs (λ j xs h. subst (λ (n : ℕ). slice_get comps n ≡ Some xs) (omega arith) (at (suc j) xs h)) next)

  pub is_table : (n : ℕ) → n ≡ length ss → IsTable ss (filled_all ss cycles (replicate n None) comps)
  is_table n many = record {
    size = whole.size;
    endless = λ k small way. whole.none_yet k small (inl way);
    sums = λ k s at free. whole.done k s (placed k (at_within ss k s at)) at free;
  }
    where
      begun : Filled (replicate n None) 0 0
      begun = record {
        size = length-replicate n None ∙ many;
        done = λ k s before at free. absurd (elim before.3 [ inl l ↦ omega (arith, l) | inr l ↦ (let l1 = l.1 in omega (arith, l1)) ]);
        none_yet = λ k small why. at_replicate None n k (omega (arith, small, many));
      }

      whole : Filled (filled_all ss cycles (replicate n None) comps) (length comps) 0
      whole = subst (λ (m : ℕ). Filled (filled_all ss cycles (replicate n None) comps) m 0) (omega arith) (all_from (replicate n None) 0 comps (λ j nodes h. subst (λ (m : ℕ). slice_get comps m ≡ Some nodes) (omega arith) h) begun)

      placed : (k : ℕ) → k < length ss → Before (length comps) 0 k
      placed k small =
          let there = a.all k (let e = holds_length ss in omega (arith, small, e)) in
          (there.0, there.1.0, there.1.1, inl (at_within comps there.0 there.1.1.0 there.1.1.1))
