-- A program's functions in the order of their calls are in the order that the analysis asks of its flows.
use Rattle.std.proofs.Common.{◌≡◌, inl, inr, ℕ, zero, suc, ◌+◌, ◌<◌, ◌≤◌, ◌==◌, Bool, true, cond, List, [], ◌∷◌, length, Some, None, slice_get, refl, sym, ap, subst, ◌∙◌, arith}
use Rattle.std.specs.List.{Contains, count_by}
use Rattle.std.proofs.lemmas.Bool.{cases_lt, cases_eq, eq-eqb, ne_eqb}
use Rattle.std.proofs.lemmas.Option.{same_Some, slice_get-get_or, slice_get_within, get_or_from_slice_get}
use Rattle.std.proofs.lemmas.List.Sums.{sum_by-cons}
use Rattle.base.specs.declared.ids.FuncId.{FuncId}
use Rattle.components.proofs.Lists.{among_at, at_among}
use Rattle.components.proofs.Read.{any_among, among_any}
use Rattle.value_flows.specs.Syntax as flow
use Rattle.typed_syntax.specs.Syntax.{Program}
use Rattle.typed.specs.declared.program.Site.{Site}
use Rattle.call_order.specs.Calls.{Calls}
use Rattle.call_order.specs.Order.{Reaches, itself, by_call, Stands, times, IsCallOrder}
use Rattle.escape_graph.specs.Edges.{numbers, is_own}
use Rattle.param_tags.specs.Order.{FuncCalls, AreOrdered}
use Rattle.param_tags.specs.Order as flows
use Rattle.flow_batches.specs.Batches.{CallsAreThere, HaveAll, AreSingle, AreTogether, number_lists}
use Rattle.flow_batches.specs.Batches as batches
use Rattle.typed_flows.specs.Flows.{result_targets, results_of, func_flows, flows_of}
use Rattle.escape_placement.specs.Laws.{OrderIsKept}
use Rattle.escape_placement.proofs.Called.{body_calls}
use Rattle.escape_placement.proofs.Functions.{flows_at, at_flows, flows_long, calls}

-- ---- how often a number stands in lists

module _ (g : ℕ) where
  abbrev tally : List ℕ → ℕ
  tally xs = count_by (λ h. h == g) xs

  tally_here : (x : ℕ) (xs : List ℕ) → x ≡ g → tally (x ∷ xs) ≡ 1 + tally xs
  tally_here x xs is = sum_by-cons (λ (h : ℕ). cond (h == g) 1 0) x xs ∙ ap (λ (b : Bool). cond b 1 0 + tally xs) (eq-eqb x g is)

  tally_other : (x : ℕ) (xs : List ℕ) → (x ≡ g → ⊥) → tally (x ∷ xs) ≡ tally xs
  tally_other x xs other =
      let none_here : tally (x ∷ xs) ≡ 0 + tally xs = sum_by-cons (λ (h : ℕ). cond (h == g) 1 0) x xs ∙ ap (λ (b : Bool). cond b 1 0 + tally xs) (ne_eqb x g other) in
      omega arith

  tally_more : (x : ℕ) (xs : List ℕ) → tally xs ≤ tally (x ∷ xs)
  tally_more x xs = elim (cases_eq x g) [
    | inl is ↦ (let e = tally_here x xs is in omega arith)
    | inr other ↦ (let e = tally_other x xs other in omega arith)
  ]

  tally_some : (xs : List ℕ) (i : ℕ) → slice_get xs i ≡ Some g → 1 ≤ tally xs
  tally_some [] i at = let bad : None ≡ Some g = at in absurd cc
  tally_some (x ∷ xs) zero at = let e = tally_here x xs (same_Some x g at) in omega arith
  tally_some (x ∷ xs) (suc i) at =
      let rest : 1 ≤ tally xs = tally_some xs i at in
      let more = tally_more x xs in
      omega arith

  tally_two : (xs : List ℕ) (i j : ℕ) → slice_get xs i ≡ Some g → slice_get xs j ≡ Some g → i < j → 2 ≤ tally xs
  tally_two [] i j at later less = let bad : None ≡ Some g = at in absurd cc
  tally_two (x ∷ xs) i zero at later less = absurd (omega arith)
  tally_two (x ∷ xs) zero (suc j) at later less =
      let e = tally_here x xs (same_Some x g at) in
      let rest : 1 ≤ tally xs = tally_some xs j later in
      omega arith
  tally_two (x ∷ xs) (suc i) (suc j) at later less =
      let rest : 2 ≤ tally xs = tally_two xs i j at later (omega arith) in
      let more = tally_more x xs in
      omega arith

  times_cons : (b : List ℕ) (bs : List (List ℕ)) → times g (b ∷ bs) ≡ tally b + times g bs
  times_cons b bs = sum_by-cons tally b bs

  times_some : (bs : List (List ℕ)) (k : ℕ) (b : List ℕ) → slice_get bs k ≡ Some b → tally b ≤ times g bs
  times_some [] k b at = let bad : None ≡ Some b = at in absurd cc
  times_some (a ∷ bs) zero b at =
      let same : tally a ≡ tally b = ap tally (same_Some a b at) in
      omega (arith, times_cons a bs)
  times_some (a ∷ bs) (suc k) b at =
      let rest : tally b ≤ times g bs = times_some bs k b at in
      omega (arith, times_cons a bs)

  times_two : (bs : List (List ℕ)) (i j : ℕ) (b c : List ℕ) → slice_get bs i ≡ Some b → slice_get bs j ≡ Some c → i < j → tally b + tally c ≤ times g bs
  times_two [] i j b c at later less = let bad : None ≡ Some b = at in absurd cc
  times_two (a ∷ bs) i zero b c at later less = absurd (omega arith)
  times_two (a ∷ bs) zero (suc j) b c at later less =
      let same : tally a ≡ tally b = ap tally (same_Some a b at) in
      let rest : tally c ≤ times g bs = times_some bs j c later in
      omega (arith, times_cons a bs)
  times_two (a ∷ bs) (suc i) (suc j) b c at later less =
      let rest : tally b + tally c ≤ times g bs = times_two bs i j b c at later (omega arith) in
      omega (arith, times_cons a bs)

-- ---- batches as lists of numbers

place_of : (xs : List ℕ) (x : ℕ) → Contains xs x → (i : ℕ) × (slice_get xs i ≡ Some x)
place_of xs x c = (c.0, slice_get-get_or xs c.0 x c.1 ∙ ap Some c.2)

contains_at : (xs : List ℕ) (i x : ℕ) → slice_get xs i ≡ Some x → Contains xs x
contains_at xs i x at = (i, slice_get_within xs i x at, get_or_from_slice_get xs i x x at)

number_at : (b : List FuncId) (i : ℕ) (f : FuncId) → slice_get b i ≡ Some f → slice_get (numbers b) i ≡ Some f.0
number_at [] i f at = let bad : None ≡ Some f = at in absurd cc
number_at (g ∷ b) zero f at = ap (λ (x : FuncId). Some x.0) (same_Some g f at)
number_at (g ∷ b) (suc i) f at = number_at b i f at

numbers_at : (bs : List (List FuncId)) (k : ℕ) (b : List FuncId) → slice_get bs k ≡ Some b → slice_get (number_lists bs) k ≡ Some (numbers b)
numbers_at [] k b at = let bad : None ≡ Some b = at in absurd cc
numbers_at (c ∷ bs) zero b at = ap (λ (x : List FuncId). Some (numbers x)) (same_Some c b at)
numbers_at (c ∷ bs) (suc k) b at = numbers_at bs k b at

at_numbers : (bs : List (List FuncId)) (k : ℕ) (ns : List ℕ) → slice_get (number_lists bs) k ≡ Some ns → (b : List FuncId) × (slice_get bs k ≡ Some b) × (numbers b ≡ ns)
at_numbers [] k ns at = let bad : None ≡ Some ns = at in absurd cc
at_numbers (c ∷ bs) zero ns at = (c, refl, same_Some (numbers c) ns at)
at_numbers (c ∷ bs) (suc k) ns at = at_numbers bs k ns at

own_place : (ns : List ℕ) (f : ℕ) → is_own ns f ≡ true → (i : ℕ) × (slice_get ns i ≡ Some f)
own_place ns f is = among_at f ns (any_among f ns is)

place_own : (ns : List ℕ) (i f : ℕ) → slice_get ns i ≡ Some f → is_own ns f ≡ true
place_own ns i f at = among_any f ns (at_among f ns i at)

module _ (bs : List (List FuncId)) where
  stand_numbers : (k f : ℕ) → flows.Stands bs k f → Stands (number_lists bs) k f
  stand_numbers k f s = let at = own_place (numbers s.0) f s.2 in (numbers s.0, numbers_at bs k s.0 s.1, contains_at (numbers s.0) at.0 f at.1)

  numbers_stand : (k f : ℕ) → Stands (number_lists bs) k f → flows.Stands bs k f
  numbers_stand k f s =
      let at = at_numbers bs k s.0 s.1 in
      let place = place_of s.0 f s.2 in
      (at.0, at.1, place_own (numbers at.0) place.0 f (subst (λ (ns : List ℕ). slice_get ns place.0 ≡ Some f) (sym at.2) place.1))

-- ---- calls

module _ (p : Program) (sites : List Site) where
  abbrev F : flow.Program
  F = flows_of p sites

  typed_calls : (f g : ℕ) → FuncCalls F f g → Calls p f g
  typed_calls f g c =
      let b = at_flows p 0 p.funcs f f c.0 (omega arith) c.2 in
      let in_body : Contains (func_flows p f b.0).body c.1 = subst (λ (x : flow.Func). Contains x.body c.1) (sym b.2) c.3 in
      (b.0, b.1, (body_calls p (result_targets f 0 (results_of b.0)) b.0.body g).0 (c.1, in_body, c.4))

  flow_calls : (f g : ℕ) → Calls p f g → FuncCalls F f g
  flow_calls f g c =
      let a = (body_calls p (result_targets f 0 (results_of c.0)) c.0.body g).1 c.2 in
      (func_flows p f c.0, a.0, flows_at p 0 p.funcs f f c.0 (omega arith) c.1, a.1, a.2)

  call_first : {f g h : ℕ} → Calls p f g → Reaches p g h → Reaches p f h
  call_first c itself = by_call itself c
  call_first c (by_call {f} {g} {h} r d) = by_call (call_first c r) d

  call_last : {f g h : ℕ} → batches.Reaches F f g → FuncCalls F g h → batches.Reaches F f h
  call_last batches.itself d = batches.by_call d batches.itself
  call_last (batches.by_call {f} {g} {h} c r) d = batches.by_call c (call_last r d)

  typed_reaches : {f g : ℕ} → batches.Reaches F f g → Reaches p f g
  typed_reaches batches.itself = itself
  typed_reaches (batches.by_call {f} {g} {h} c r) = call_first (typed_calls f g c) (typed_reaches r)

  flow_reaches : {f g : ℕ} → Reaches p f g → batches.Reaches F f g
  flow_reaches itself = batches.itself
  flow_reaches (by_call {f} {g} {h} r c) = call_last (flow_reaches r) (flow_calls g h c)

  -- ---- the order

  module _ (bs : List (List FuncId)) (order : IsCallOrder p (number_lists bs)) where
    long : length F.funcs ≡ length p.funcs
    long = flows_long p 0 p.funcs

    within : (k f : ℕ) → flows.Stands bs k f → f < length p.funcs
    within k f s = order.only k f (stand_numbers bs k f s)

    not_before : (i j f : ℕ) → flows.Stands bs i f → flows.Stands bs j f → i < j → ⊥
    not_before i j f s t less =
        let one : times f (number_lists bs) ≡ 1 = order.once f (within i f s) in
        let first = own_place (numbers s.0) f s.2 in
        let second = own_place (numbers t.0) f t.2 in
        let here : 1 ≤ tally f (numbers s.0) = tally_some f (numbers s.0) first.0 first.1 in
        let there : 1 ≤ tally f (numbers t.0) = tally_some f (numbers t.0) second.0 second.1 in
        let two : tally f (numbers s.0) + tally f (numbers t.0) ≤ times f (number_lists bs) = times_two f (number_lists bs) i j (numbers s.0) (numbers t.0) (numbers_at bs i s.0 s.1) (numbers_at bs j t.0 t.1) less in
        absurd (omega arith)

    once : (i j f : ℕ) → flows.Stands bs i f → flows.Stands bs j f → i ≡ j
    once i j f s t = elim (cases_lt i j) [
      | inl less ↦ absurd (not_before i j f s t less)
      | inr most ↦ elim (cases_lt j i) [
        | inl less ↦ absurd (not_before j i f t s less)
        | inr least ↦ omega arith
      ]
    ]

    pub ordered : CallsAreThere F → AreOrdered F bs
    ordered there = record {
      once = once;
      within = λ k f s. subst (λ (n : ℕ). f < n) (sym long) (within k f s);
      earlier = λ k f g s c. (
          let here : g < length p.funcs = subst (λ (n : ℕ). g < n) long (there f g c) in
          let e = order.earlier k f g (stand_numbers bs k f s) (typed_calls f g c) here in
          let at : flows.Stands bs e.0 g = numbers_stand bs e.0 g e.2 in
          let least : e.0 ≤ k = e.1 in
          elim (cases_lt e.0 k) [
            | inl less ↦ inr (e.0, less, at)
            | inr most ↦ (let is : e.0 ≡ k = omega arith in inl (subst (λ (x : ℕ). flows.Stands bs x g) is at))
          ]);
    }

    -- a function that stands once stands somewhere
    all_place : (f : ℕ) → f < length F.funcs → (k : ℕ) × flows.Stands bs k f
    all_place f h =
        let here : f < length p.funcs = subst (λ (n : ℕ). f < n) long h in
        let share = (order.together f f here here).1 (itself, itself) in
        (share.0, numbers_stand bs share.0 f share.1)

    single : AreSingle bs
    single k b at i j f first second =
        let here = numbers_at bs k b at in
        let inside : f.0 < length p.funcs = within k f.0 (b, at, place_own (numbers b) i f.0 (number_at b i f first)) in
        let one : times f.0 (number_lists bs) ≡ 1 = order.once f.0 inside in
        let most : tally f.0 (numbers b) ≤ times f.0 (number_lists bs) = times_some f.0 (number_lists bs) k (numbers b) here in
        elim (cases_lt i j) [
          | inl less ↦ (let two : 2 ≤ tally f.0 (numbers b) = tally_two f.0 (numbers b) i j (number_at b i f first) (number_at b j f second) less in absurd (omega arith))
          | inr above ↦ elim (cases_lt j i) [
            | inl less ↦ (let two : 2 ≤ tally f.0 (numbers b) = tally_two f.0 (numbers b) j i (number_at b j f second) (number_at b i f first) less in absurd (omega arith))
            | inr below ↦ omega arith
          ]
        ]

    shared : AreTogether F bs
    shared f g f_within g_within =
        let f_here : f < length p.funcs = subst (λ (n : ℕ). f < n) long f_within in
        let g_here : g < length p.funcs = subst (λ (n : ℕ). g < n) long g_within in
        let both = order.together f g f_here g_here in (
          (λ s. (let r = both.0 (s.0, stand_numbers bs s.0 f s.1, stand_numbers bs s.0 g s.2) in (flow_reaches r.0, flow_reaches r.1))),
          (λ r. (let s = both.1 (typed_reaches r.0, typed_reaches r.1) in (s.0, numbers_stand bs s.0 f s.1, numbers_stand bs s.0 g s.2))),
        )

pub order_kept : OrderIsKept
order_kept p sites inform fit bs order =
    (ordered p sites bs order (calls p sites inform fit), all_place p sites bs order, single p sites bs order, shared p sites bs order)
