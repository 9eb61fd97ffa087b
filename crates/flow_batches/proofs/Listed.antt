-- The list of a function's calls has the functions that it calls; so reaching goes by the lists.
use Rattle.std.proofs.Common.{◌≡◌, ℕ, zero, suc, List, [], ◌∷◌, ◌++◌, Some, None, slice_get, refl, sym, ap, ◌∙◌, subst, inl, inr, ◌⊎◌, arith}
use Rattle.std.specs.List.{Contains}
use Rattle.std.proofs.lemmas.Option.{same_Some, slice_get-get_or}
use Rattle.components.specs.Graph.{Among, row, Reaches as Joins, itself as same, onward}
use Rattle.components.proofs.Lists.{among_left, among_right, among_split}
use Rattle.value_flows.specs.Syntax.{Val, Vals, Exs, variable, address, inside, behind, parts, beside, sent, call, none, more, each, results, Act, give, carry, Func, Program}
use Rattle.param_tags.specs.Order.{Calls, AnyCalls, AllCall, ActCalls, FuncCalls}
use Rattle.flow_batches.specs.Called.{called, called_each, called_all, called_in, called_by, call_lists}
use Rattle.flow_batches.specs.Batches.{Reaches, itself, by_call}

-- ---- lists side by side

apart : {A B : Type 0} (xs ys : List ℕ) (g : ℕ) → (Among g xs → A) → (Among g ys → B) → Among g (xs ++ ys) → A ⊎ B
apart xs ys g l r h = elim (among_split g xs ys h) [ inl left ↦ inl (l left) | inr right ↦ inr (r right) ]

joined : {A B : Type 0} (xs ys : List ℕ) (g : ℕ) → (A → Among g xs) → (B → Among g ys) → A ⊎ B → Among g (xs ++ ys)
joined xs ys g l r h = elim h [ inl a ↦ among_left g xs ys (l a) | inr b ↦ among_right g xs ys (r b) ]

first_or : {A : Type 0} (f g : ℕ) (xs : List ℕ) → (Among g xs → A) → Among g (f ∷ xs) → (f ≡ g) ⊎ A
first_or f g xs r h = elim h [ inl is ↦ inl (sym is) | inr later ↦ inr (r later) ]

or_first : {A : Type 0} (f g : ℕ) (xs : List ℕ) → (A → Among g xs) → (f ≡ g) ⊎ A → Among g (f ∷ xs)
or_first f g xs r h = elim h [ inl is ↦ inl (sym is) | inr later ↦ inr (r later) ]

-- ---- elements of lists

pub contains_first : {A : Type 0} (x : A) (xs : List A) → Contains (x ∷ xs) x
contains_first x xs = (0, omega arith, refl)

pub contains_later : {A : Type 0} (x y : A) (xs : List A) → Contains xs y → Contains (x ∷ xs) y
contains_later x y xs c = let within = c.1 in (suc c.0, omega arith, c.2)

pub contains_place : {A : Type 0} (xs : List A) (x : A) → Contains xs x → (k : ℕ) × (slice_get xs k ≡ Some x)
contains_place xs x c = (c.0, slice_get-get_or xs c.0 x c.1 ∙ ap Some c.2)

-- ---- what is in the list is called

mutual
  val_calls : (v : Val) (g : ℕ) → Among g (called v) → Calls v g
  val_calls (variable x) g h = h
  val_calls (address x) g h = h
  val_calls (inside has v) g h = val_calls v g h
  val_calls (behind v) g h = val_calls v g h
  val_calls (parts vs) g h = any_calls vs g h
  val_calls (beside vs v) g h = apart (called_each vs) (called v) g (any_calls vs g) (val_calls v g) h
  val_calls (sent t v) g h = val_calls v g h
  val_calls (call f es) g h = first_or f g (called_all es) (all_call es g) h

  any_calls : (vs : Vals) (g : ℕ) → Among g (called_each vs) → AnyCalls vs g
  any_calls none g h = h
  any_calls (more v vs) g h = apart (called v) (called_each vs) g (val_calls v g) (any_calls vs g) h

  all_call : (es : Exs) (g : ℕ) → Among g (called_all es) → AllCall es g
  all_call (each vs) g h = any_calls vs g h
  all_call (results f es) g h = first_or f g (called_all es) (all_call es g) h

act_calls : (a : Act) (g : ℕ) → Among g (called_in a) → ActCalls a g
act_calls (give es targets) g h = all_call es g h
act_calls (carry x) g h = h

acts_call : (acts : List Act) (g : ℕ) → Among g (called_by acts) → (a : Act) × Contains acts a × ActCalls a g
acts_call [] g h = absurd h
acts_call (a ∷ acts) g h = elim (among_split g (called_in a) (called_by acts) h) [
  | inl here ↦ (a, contains_first a acts, act_calls a g here)
  | inr later ↦ (let there = acts_call acts g later in (there.0, contains_later a there.0 acts there.1, there.2))
]

-- ---- what is called is in the list

mutual
  in_val : (v : Val) (g : ℕ) → Calls v g → Among g (called v)
  in_val (variable x) g h = h
  in_val (address x) g h = h
  in_val (inside has v) g h = in_val v g h
  in_val (behind v) g h = in_val v g h
  in_val (parts vs) g h = in_vals vs g h
  in_val (beside vs v) g h = joined (called_each vs) (called v) g (in_vals vs g) (in_val v g) h
  in_val (sent t v) g h = in_val v g h
  in_val (call f es) g h = or_first f g (called_all es) (in_all es g) h

  in_vals : (vs : Vals) (g : ℕ) → AnyCalls vs g → Among g (called_each vs)
  in_vals none g h = h
  in_vals (more v vs) g h = joined (called v) (called_each vs) g (in_val v g) (in_vals vs g) h

  in_all : (es : Exs) (g : ℕ) → AllCall es g → Among g (called_all es)
  in_all (each vs) g h = in_vals vs g h
  in_all (results f es) g h = or_first f g (called_all es) (in_all es g) h

in_act : (a : Act) (g : ℕ) → ActCalls a g → Among g (called_in a)
in_act (give es targets) g h = in_all es g h
in_act (carry x) g h = h

in_acts_at : (acts : List Act) (a : Act) (g k : ℕ) → slice_get acts k ≡ Some a → ActCalls a g → Among g (called_by acts)
in_acts_at [] a g k at h = let bad : None ≡ Some a = at in absurd cc
in_acts_at (b ∷ acts) a g zero at h = among_left g (called_in b) (called_by acts) (subst (λ (x : Act). Among g (called_in x)) (sym (same_Some b a at)) (in_act a g h))
in_acts_at (b ∷ acts) a g (suc k) at h = among_right g (called_in b) (called_by acts) (in_acts_at acts a g k at h)

in_acts : (acts : List Act) (a : Act) (g : ℕ) → Contains acts a → ActCalls a g → Among g (called_by acts)
in_acts acts a g c h = let place = contains_place acts a c in in_acts_at acts a g place.0 place.1 h

-- ---- the functions of a program

row_calls : (fs : List Func) (f g : ℕ) → Among g (row (call_lists fs) f) → (func : Func) × (slice_get fs f ≡ Some func) × Among g (called_by func.body)
row_calls [] f g h = absurd h
row_calls (func ∷ fs) zero g h = (func, refl, h)
row_calls (func ∷ fs) (suc f) g h = row_calls fs f g h

in_row : (fs : List Func) (f g : ℕ) (func : Func) → slice_get fs f ≡ Some func → Among g (called_by func.body) → Among g (row (call_lists fs) f)
in_row [] f g func at h = let bad : None ≡ Some func = at in absurd cc
in_row (other ∷ fs) zero g func at h = subst (λ (x : Func). Among g (called_by x.body)) (sym (same_Some other func at)) h
in_row (other ∷ fs) (suc f) g func at h = in_row fs f g func at h

module _ (p : Program) where
  pub listed_calls : (f g : ℕ) → Among g (row (call_lists p.funcs) f) → FuncCalls p f g
  listed_calls f g h =
      let at = row_calls p.funcs f g h in
      let by = acts_call at.0.body g at.2 in
      (at.0, by.0, at.1, by.1, by.2)

  pub calls_listed : (f g : ℕ) → FuncCalls p f g → Among g (row (call_lists p.funcs) f)
  calls_listed f g c = in_row p.funcs f g c.0 c.2 (in_acts c.0.body c.1 g c.3 c.4)

  pub joins_reaches : {f g : ℕ} → Joins (call_lists p.funcs) f g → Reaches p f g
  joins_reaches same = itself
  joins_reaches (onward {i} {j} {k} h rest) = by_call (listed_calls i j h) (joins_reaches rest)

  pub reaches_joins : {f g : ℕ} → Reaches p f g → Joins (call_lists p.funcs) f g
  reaches_joins itself = same
  reaches_joins (by_call {f} {g} {h} c rest) = onward (calls_listed f g c) (reaches_joins rest)
