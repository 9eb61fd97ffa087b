-- The flows of a text call what the text calls.
use Rattle.std.proofs.Common.{◌⊎◌, ◌↔◌, inl, inr, ℕ, Bool, true, false, if◌then◌else◌, List, [], ◌∷◌, ◌++◌, map, Option, Some, None, sym, subst}
use Rattle.std.specs.List.{Contains}
use Rattle.value_flows.specs.declared.value.Target.{Target}
use Rattle.value_flows.specs.Syntax.{Val, Act, carry}
use Rattle.value_flows.specs.Syntax as flow
use Rattle.typed_syntax.specs.Syntax.{Ex, Exs, Pl, Steps, Bound, Elements, Left, Piece, Over, St, Sts, Program, constant, read, unary, binary, logical_and, logical_or, call, part_of, literal, nil, address_of, new_variable, literal_variable, slice_literal, make, append, append_slice, copy, slicing, array_slicing, len, cap, absent, bound, no_elements, element, local, global, indirect, slice_element, here, inner, at_index, none, more, results, read_int, blank, new, to, text, shown, over_int, over_length, over_copy, over_slice, over_pointer, over_pointed, declare, assign, update, bump, discard, block, if_stmt, for_stmt, range, break_stmt, continue_stmt, return_stmt, print, panic, exit, done, next, type_named, site_type, place_type}
use Rattle.typed_syntax.specs.Types.{part_type}
use Rattle.call_order.specs.Calls.{ExCalls, ExsCall, BoundCalls, PlaceCalls, StepsCall, ElementsCall, LeftCalls, LeftsCall, PieceCalls, PiecesCall, TestCalls, OverCalls, StCalls, StsCall}
use Rattle.param_tags.specs.Order.{Calls, AnyCalls, AllCall, ActCalls}
use Rattle.param_tags.proofs.Lists.{contains_nil, head_or_tail, head_in, tail_in}
use Rattle.typed_flows.specs.Pointers.{has_pointers}
use Rattle.typed_flows.specs.Values.{row, held, copied, to_site, to_heap, value, place_value, place_address, index_values, bound_value, element_values, values, arguments}
use Rattle.typed_flows.specs.Flows.{evaluated, left_values, lefts_values, piece_values, pieces_values, test_values, carried, over_acts, for_head, range_head, return_acts, acts, all_acts}

-- ---- one of two

as_is : {A : Type 0} → A ↔ A
as_is = ((λ a. a), λ a. a)

then_as : {A B C : Type 0} → A ↔ B → B ↔ C → A ↔ C
then_as f g = ((λ a. g.0 (f.0 a)), λ c. f.1 (g.1 c))

each_as : {A B C D : Type 0} → A ↔ C → B ↔ D → (A ⊎ B) ↔ (C ⊎ D)
each_as f g = ((λ s. elim s [ inl a ↦ inl (f.0 a) | inr b ↦ inr (g.0 b) ]), λ s. elim s [ inl c ↦ inl (f.1 c) | inr d ↦ inr (g.1 d) ])

swapped_as : {A B C D : Type 0} → A ↔ C → B ↔ D → (A ⊎ B) ↔ (D ⊎ C)
swapped_as f g = ((λ s. elim s [ inl a ↦ inr (f.0 a) | inr b ↦ inl (g.0 b) ]), λ s. elim s [ inl d ↦ inr (g.1 d) | inr c ↦ inl (f.1 c) ])

-- nothing comes last, or first
last_as : {A C : Type 0} → A ↔ C → (A ⊎ ⊥) ↔ C
last_as f = ((λ s. elim s [ inl a ↦ f.0 a | inr never ↦ absurd never ]), λ c. inl (f.1 c))

first_as : {A C : Type 0} → A ↔ C → (⊥ ⊎ A) ↔ C
first_as f = ((λ s. elim s [ inl never ↦ absurd never | inr a ↦ f.0 a ]), λ c. inr (f.1 c))

one_as : {A C : Type 0} → A ↔ C → ((A ⊎ ⊥) ⊎ ⊥) ↔ C
one_as f = last_as (last_as f)

pair_as : {A B C D : Type 0} → A ↔ C → B ↔ D → (A ⊎ (B ⊎ ⊥)) ↔ (C ⊎ D)
pair_as f g = each_as f (last_as g)

two_as : {A B C D : Type 0} → A ↔ C → B ↔ D → ((A ⊎ (B ⊎ ⊥)) ⊎ ⊥) ↔ (C ⊎ D)
two_as f g = last_as (pair_as f g)

joined_as : {A B C : Type 0} → (A ⊎ (B ⊎ C)) ↔ ((A ⊎ B) ⊎ C)
joined_as = (
  (λ s. elim s [ inl a ↦ inl (inl a) | inr r ↦ elim r [ inl b ↦ inl (inr b) | inr c ↦ inr c ] ]),
  (λ s. elim s [ inl l ↦ elim l [ inl a ↦ inl a | inr b ↦ inr (inl b) ] | inr c ↦ inr (inr c) ]),
)

apart_as : {A B C : Type 0} → ((A ⊎ B) ⊎ C) ↔ (A ⊎ (B ⊎ C))
apart_as = (
  (λ s. elim s [ inl l ↦ elim l [ inl a ↦ inl a | inr b ↦ inr (inl b) ] | inr c ↦ inr (inr c) ]),
  (λ s. elim s [ inl a ↦ inl (inl a) | inr r ↦ elim r [ inl b ↦ inl (inr b) | inr c ↦ inr c ] ]),
)

-- the last two of three change places
turned : {A B C : Type 0} → ((A ⊎ B) ⊎ C) ↔ (A ⊎ (C ⊎ B))
turned = then_as apart_as (each_as as_is (swapped_as as_is as_is))

module _ (g : ℕ) where
  abbrev Any : List Val → Type 0
  Any vs = AnyCalls (row vs) g

  abbrev AnyAct : List Act → Type 0
  AnyAct [] = ⊥
  AnyAct (a ∷ xs) = ActCalls a g ⊎ AnyAct xs

  -- ---- lists

  none_before : {A : Type 0} → A ↔ (⊥ ⊎ A)
  none_before = ((λ a. inr a), λ s. elim s [ inl never ↦ absurd never | inr a ↦ a ])

  both_call : (vs ws : List Val) → Any (vs ++ ws) ↔ (Any vs ⊎ Any ws)
  both_call [] ws = none_before
  both_call (v ∷ vs) ws = then_as (each_as as_is (both_call vs ws)) joined_as

  acts_call : (xs ys : List Act) → AnyAct (xs ++ ys) ↔ (AnyAct xs ⊎ AnyAct ys)
  acts_call [] ys = none_before
  acts_call (a ∷ xs) ys = then_as (each_as as_is (acts_call xs ys)) joined_as

  sent_call : (t : Target) (vs : List Val) → Any (map (flow.sent t) vs) ↔ Any vs
  sent_call t [] = as_is
  sent_call t (v ∷ vs) = each_as as_is (sent_call t vs)

  held_calls : (has : Bool) (v : Val) → Calls (held has v) g ↔ Calls v g
  held_calls true v = as_is
  held_calls false v = one_as as_is

  copied_calls : (has : Bool) (v : Val) → Calls (copied has v) g ↔ Calls v g
  copied_calls true v = as_is
  copied_calls false v = as_is

  -- a value at the end
  end_call : {A B : Type 0} (vs : List Val) (v : Val) → Any vs ↔ A → Calls v g ↔ B → Any (vs ++ v ∷ []) ↔ (A ⊎ B)
  end_call vs v before last = then_as (both_call vs (v ∷ [])) (pair_as before last)

  module _ (p : Program) where
    -- ---- expressions

    mutual
      ex_calls : (e : Ex) → Calls (value p e) g ↔ ExCalls e g
      ex_calls (constant v) = as_is
      ex_calls (read q) = then_as (held_calls (has_pointers (place_type p q)) (place_value p q)) (place_calls q)
      ex_calls (unary op e) = one_as (ex_calls e)
      ex_calls (binary at op a b) = two_as (ex_calls a) (ex_calls b)
      ex_calls (logical_and a b) = two_as (ex_calls a) (ex_calls b)
      ex_calls (logical_or a b) = two_as (ex_calls a) (ex_calls b)
      ex_calls (call f es) = each_as as_is (arguments_call es)
      ex_calls (part_of n i e) = then_as (held_calls (has_pointers (part_type (type_named p n) i)) (value p e)) (ex_calls e)
      ex_calls (literal n es) = elements_call es
      ex_calls (nil t) = as_is
      ex_calls (address_of q) = address_calls q (has_pointers (place_type p q))
      ex_calls (new_variable site) = as_is
      ex_calls (literal_variable site e) = one_as (ex_calls e)
      ex_calls (slice_literal site es) = last_as (then_as (sent_call (to_site site) (values p es)) (values_call es))
      ex_calls (make at site count room) = two_as (ex_calls count) (bound_calls room)
      ex_calls (append site e es) = swapped_as (then_as (sent_call to_heap (values p es)) (values_call es)) (then_as (copied_calls (has_pointers (site_type p site)) (value p e)) (ex_calls e))
      ex_calls (append_slice site a b) = swapped_as (last_as (then_as (copied_calls (has_pointers (site_type p site)) (value p b)) (ex_calls b))) (then_as (copied_calls (has_pointers (site_type p site)) (value p a)) (ex_calls a))
      ex_calls (copy n a b) = two_as (ex_calls a) (then_as (copied_calls (has_pointers (type_named p n)) (value p b)) (ex_calls b))
      ex_calls (slicing at n e low high) = swapped_as (pair_as (bound_calls low) (bound_calls high)) (ex_calls e)
      ex_calls (array_slicing at q n low high) = swapped_as (pair_as (bound_calls low) (bound_calls high)) (address_calls q (has_pointers (place_type p q)))
      ex_calls (len e) = one_as (ex_calls e)
      ex_calls (cap e) = one_as (ex_calls e)

      place_calls : (q : Pl) → Calls (place_value p q) g ↔ PlaceCalls q g
      place_calls (local site steps) = last_as (steps_call steps)
      place_calls (global number steps) = last_as (steps_call steps)
      place_calls (indirect at e n steps) = each_as (steps_call steps) (ex_calls e)
      place_calls (slice_element at e i n steps) = then_as (each_as (end_call (index_values p steps) (value p i) (steps_call steps) (ex_calls i)) (ex_calls e)) turned

      address_calls : (q : Pl) (has : Bool) → Calls (place_address p has q) g ↔ PlaceCalls q g
      address_calls (local site steps) has = last_as (steps_call steps)
      address_calls (global number steps) has = last_as (steps_call steps)
      address_calls (indirect at e n steps) has = each_as (steps_call steps) (ex_calls e)
      address_calls (slice_element at e i n steps) has = then_as (each_as (end_call (index_values p steps) (value p i) (steps_call steps) (ex_calls i)) (ex_calls e)) turned

      steps_call : (steps : Steps) → Any (index_values p steps) ↔ StepsCall steps g
      steps_call here = as_is
      steps_call (inner i steps) = steps_call steps
      steps_call (at_index at e n steps) = each_as (ex_calls e) (steps_call steps)

      bound_calls : (b : Bound) → Calls (bound_value p b) g ↔ BoundCalls b g
      bound_calls absent = as_is
      bound_calls (bound e) = ex_calls e

      elements_call : (es : Elements) → Any (element_values p es) ↔ ElementsCall es g
      elements_call no_elements = as_is
      elements_call (element i e es) = each_as (ex_calls e) (elements_call es)

      values_call : (es : Exs) → Any (values p es) ↔ ExsCall es g
      values_call none = as_is
      values_call (more e es) = each_as (ex_calls e) (values_call es)
      values_call (results f es) = last_as (each_as as_is (arguments_call es))
      values_call read_int = first_as (last_as as_is)

      arguments_call : (es : Exs) → AllCall (arguments p es) g ↔ ExsCall es g
      arguments_call none = as_is
      arguments_call (more e es) = each_as (ex_calls e) (values_call es)
      arguments_call (results f es) = each_as as_is (arguments_call es)
      arguments_call read_int = first_as (last_as as_is)

    -- ---- operands

    left_calls : (l : Left) → Any (left_values p l) ↔ LeftCalls l g
    left_calls blank = as_is
    left_calls (new site) = as_is
    left_calls (to q) = last_as (place_calls q)

    lefts_call : (ls : List Left) → Any (lefts_values p ls) ↔ LeftsCall ls g
    lefts_call [] = as_is
    lefts_call (l ∷ ls) = then_as (both_call (left_values p l) (lefts_values p ls)) (each_as (left_calls l) (lefts_call ls))

    piece_calls : (q : Piece) → Any (piece_values p q) ↔ PieceCalls q g
    piece_calls (text number) = as_is
    piece_calls (shown t e) = last_as (ex_calls e)

    pieces_call : (ps : List Piece) → Any (pieces_values p ps) ↔ PiecesCall ps g
    pieces_call [] = as_is
    pieces_call (q ∷ ps) = then_as (both_call (piece_values p q) (pieces_values p ps)) (each_as (piece_calls q) (pieces_call ps))

    test_calls : (t : Option Ex) → Any (test_values p t) ↔ TestCalls t g
    test_calls None = as_is
    test_calls (Some e) = last_as (ex_calls e)

    over_calls : (over : Over) (l : Left) → AnyAct (over_acts p over l) ↔ OverCalls over g
    over_calls (over_int e) l = one_as (ex_calls e)
    over_calls (over_length n) l = as_is
    over_calls (over_copy site e n) l = then_as (each_as (last_as (ex_calls e)) (one_as as_is)) (last_as as_is)
    over_calls (over_slice e n) l = one_as (ex_calls e)
    over_calls (over_pointer at e n t) l = one_as (ex_calls e)
    over_calls (over_pointed n) l = as_is

    carried_one : (has : Bool) (x : ℕ) (xs : List Act) → AnyAct ((if has then carry x ∷ [] else []) ++ xs) ↔ AnyAct xs
    carried_one true x xs = first_as as_is
    carried_one false x xs = as_is

    carried_call : (sites : List ℕ) → AnyAct (carried p sites) ↔ ⊥
    carried_call [] = as_is
    carried_call (x ∷ xs) = then_as (carried_one (has_pointers (site_type p x)) x (carried p xs)) (carried_call xs)

    head_calls : (sites : List ℕ) (test : Option Ex) → AnyAct (for_head p sites test) ↔ TestCalls test g
    head_calls sites test = then_as (acts_call (carried p sites) (evaluated (test_values p test) ∷ [])) (then_as (each_as (carried_call sites) (last_as (test_calls test))) (first_as as_is))

    range_calls : (over : Over) (key item : Left) → AnyAct (range_head p over key item) ↔ (OverCalls over g ⊎ LeftsCall (key ∷ item ∷ []) g)
    range_calls over key item = then_as (acts_call (over_acts p over item) (evaluated (lefts_values p (key ∷ item ∷ [])) ∷ [])) (pair_as (over_calls over item) (lefts_call (key ∷ item ∷ [])))

    -- ---- statements

    module _ (returned : List (Option Target)) where
      return_calls : (es : Exs) → AnyAct (return_acts p returned es) ↔ ExsCall es g
      return_calls none = as_is
      return_calls (more e es) = last_as (arguments_call (more e es))
      return_calls (results f es) = last_as (arguments_call (results f es))
      return_calls read_int = last_as (arguments_call read_int)

      mutual
        st_calls : (s : St) → AnyAct (acts p returned s) ↔ StCalls s g
        st_calls (declare sites) = as_is
        st_calls (assign ls es) = pair_as (lefts_call ls) (arguments_call es)
        st_calls (update at q op e) = two_as (place_calls q) (ex_calls e)
        st_calls (bump at q op) = one_as (place_calls q)
        st_calls (discard es) = last_as (arguments_call es)
        st_calls (block ss) = sts_call ss
        st_calls (if_stmt e a b) = each_as (last_as (ex_calls e)) (then_as (acts_call (all_acts p returned a) (all_acts p returned b)) (each_as (sts_call a) (sts_call b)))
        st_calls (for_stmt sites test post body) =
            then_as (acts_call (for_head p sites test) (all_acts p returned post ++ all_acts p returned body))
            (each_as (head_calls sites test) (then_as (acts_call (all_acts p returned post) (all_acts p returned body)) (each_as (sts_call post) (sts_call body))))
        st_calls (range over key item body) =
            then_as (acts_call (range_head p over key item) (all_acts p returned body)) (then_as (each_as (range_calls over key item) (sts_call body)) apart_as)
        st_calls break_stmt = as_is
        st_calls continue_stmt = as_is
        st_calls (return_stmt es) = return_calls es
        st_calls (print ln ps) = last_as (pieces_call ps)
        st_calls (panic at q) = last_as (piece_calls q)
        st_calls (exit at e) = one_as (ex_calls e)

        sts_call : (ss : Sts) → AnyAct (all_acts p returned ss) ↔ StsCall ss g
        sts_call done = as_is
        sts_call (next s ss) = then_as (acts_call (acts p returned s) (all_acts p returned ss)) (each_as (st_calls s) (sts_call ss))

  -- ---- an act of a list

  any_act : (xs : List Act) (a : Act) → Contains xs a → ActCalls a g → AnyAct xs
  any_act [] a c h = absurd (contains_nil a c)
  any_act (b ∷ xs) a c h = elim (head_or_tail b xs a c) [ inl is ↦ inl (subst (λ (x : Act). ActCalls x g) (sym is) h) | inr later ↦ inr (any_act xs a later h) ]

  act_any : (xs : List Act) → AnyAct xs → (a : Act) × Contains xs a × ActCalls a g
  act_any [] h = absurd h
  act_any (b ∷ xs) h = elim h [
    | inl first ↦ (b, head_in b xs, first)
    | inr later ↦ (let rest = act_any xs later in (rest.0, tail_in b xs rest.0 rest.1, rest.2))
  ]

-- the acts of a body call what the body calls
pub body_calls : (p : Program) (returned : List (Option Target)) (body : Sts) (g : ℕ) → ((a : Act) × Contains (all_acts p returned body) a × ActCalls a g) ↔ StsCall body g
body_calls p returned body g = (
  (λ h. (sts_call g p returned body).0 (any_act g (all_acts p returned body) h.0 h.1 h.2)),
  (λ c. act_any g (all_acts p returned body) ((sts_call g p returned body).1 c)),
)
