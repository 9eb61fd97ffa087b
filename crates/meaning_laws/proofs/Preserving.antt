-- Evaluations and runs keep states typed: a line for each form of syntax.
use Rattle.std.proofs.Common.{◌≡◌, ◌⊎◌, inl, inr, refl, sym, ap, ◌∙◌, ℕ, zero, suc, ◌+◌, ◌*◌, ◌-◌, ◌<◌, ◌≤◌, List, [], ◌∷◌, ◌++◌, Option, Some, None, Result, Ok, Err, Bool, true, false, ℤ, pos, negsuc, subst, arith, length-append}
use Rattle.std.specs.Prelude.{length, map, get_or, slice_get, not, ◌&&◌, ◌||◌, nat_eq, nat_le, nat_lt, max, IfOk, if◌then◌else◌}
use Rattle.std.proofs.lemmas.Bool.{true≢false, leb-true, eqb-true, eqb-false}
use Rattle.typed_syntax.specs.Positions.{Position}
use Rattle.typed_syntax.specs.Types.{TypeTree, ints, bools, array_of, pointer_to, slice_of, width, part_count, part_type}
use Rattle.typed_syntax.specs.Value.{Value, int, bool, composite, pointer, slice_in, words, words_in, zero_of as zero_value}
use Rattle.typed_syntax.specs.Paths.{Leads}
use Rattle.typed_syntax.specs.Syntax.{Ex, Exs, Pl, Steps, Left, Piece, Over, St, Sts, Func, Program, constant, read, unary, binary, logical_and, logical_or, call, part_of, literal, nil, address_of, new_variable, literal_variable, slice_literal, make, append, append_slice, copy, slicing, array_slicing, len, cap, Bound, absent, bound, Elements, no_elements, element, none, more, results, read_int, local, global, indirect, slice_element, here, inner, at_index, blank, new, to, text, shown, over_int, over_length, over_copy, over_slice, over_pointer, over_pointed, declare, assign, update, bump, discard, block, if_stmt, for_stmt, range, break_stmt, continue_stmt, return_stmt, print, panic, exit, done, next, type_named, site_type, global_type}
use Rattle.typed_syntax.specs.Form.{InScope, AllInScope, scope_behind, scope_with, scope_after, params_scope, scope_in, breaks, breaks_all, ends, ends_all}
use Rattle.meaning.specs.Trace.{Born, Read, Write, Fault, Exit, World, Cell, Held, state, entered, ended, copied, Trace, Turn, Note, Seen, End, Cut}
use Rattle.meaning.specs.Store.{written, values_of, born, read_at, elements_at, elements_written}
use Rattle.meaning.specs.Operators.{binary_of, slice_variable, slice_path, slice_first, slice_count, slice_room, slice_part, array_part, sizes_of}
use Rattle.meaning.specs.Meaning
use Rattle.meaning.specs.Meaning.{trace, Go, Then, Env, Ways, Calls, Item, Setting, Base, variable, through, indexed, Step, fixed, worked, Aim, Spot, Landing, nowhere, birth, on, holding, holding_all}
use Rattle.meaning_laws.specs.Rules.{AllAre, PlaceHas, StepsGo, Has, BoundHas, ElementsHave, Have, LeftHas, LeftsHave, TestHas, PiecesHave, OverHas, scope_over, StatementIsTyped, StatementsAreTyped, ParamsHave, GlobalsHave, FunctionIsTyped, IsWellTyped}
use Rattle.meaning_laws.specs.Typing.{types_in, LeadsToPart, IsTyped, EachTyped, CellsTyped, HeldTyped, ArgumentsTyped, StatesTyped, StatesAreTyped, IsOfSite, ArePart, AreElements, AccessesFit, AccessesAreThere}
use Rattle.meaning_laws.proofs.Typed.{leads_on, leads_into, Stay, changed_types, types_born, stay_born, more_typed, typed_words, nowhere_typed, part_typed, with_part_typed, zero_typed, AllTyped, values_typed, values_words, of_numbers_typed, binary_typed, unary_typed}
use Rattle.meaning_laws.proofs.Stored.{element_below, HasRoom, sizes_good, leads_more, each_more, all_more, held_more, held_together, vars_of, Sound, sound_here, sound_down, read_typed, elements_typed, written_sound, elements_sound, born_sound, slice_has_room, slice_leads, element_leads, element_spot_leads, pointed_leads, slice_part_typed, array_part_typed}

-- ---- scopes

abbrev Wider : (scope inside : List ℕ) → Type 0
Wider scope inside = (site : ℕ) → InScope site scope → InScope site inside

with_wider : (scope sites : List ℕ) → Wider scope (scope_with scope sites)
with_wider scope [] site h = h
with_wider scope (x ∷ sites) site h = with_wider (x ∷ scope) sites site (inr h)

behind_wider : (scope : List ℕ) (ls : List Left) → Wider scope (scope_behind scope ls)
behind_wider scope [] site h = h
behind_wider scope (blank ∷ ls) site h = behind_wider scope ls site h
behind_wider scope (new x ∷ ls) site h = behind_wider (x ∷ scope) ls site (inr h)
behind_wider scope (to q ∷ ls) site h = behind_wider scope ls site h

after_wider : (scope : List ℕ) (st : St) → Wider scope (scope_after scope st)
after_wider scope (declare sites) site h = with_wider scope sites site h
after_wider scope (assign ls es) site h = behind_wider scope ls site h
after_wider scope st site h = h

-- sites that enter a scope are in it
named_in : (scope sites : List ℕ) → AllInScope (scope_with scope sites) sites
named_in scope [] = tt
named_in scope (site ∷ sites) = (with_wider (site ∷ scope) sites site (inl refl), named_in (site ∷ scope) sites)

elements_length : (w : World) (x : ℕ) (path : List ℕ) (first n : ℕ) → length (elements_at w x path first n) ≡ n
elements_length w x path first zero = refl
elements_length w x path first (suc n) = ap suc (elements_length w x path (suc first) n)

elements_types : (xs : List Value) (w : World) (x : ℕ) (path : List ℕ) (first : ℕ) → vars_of (elements_written w x path first xs) ≡ vars_of w
elements_types [] w x path first = refl
elements_types (v ∷ xs) w x path first = elements_types xs (written w x (path ++ first ∷ []) v) x path (suc first) ∙ changed_types w.store x (path ++ first ∷ []) v

module _ (p : Program) where
  -- ---- typed runs

  -- what holds of states and of accesses together, from a state with variables of these types on
  abbrev RunTyped : List TypeTree → Trace → Type 0
  RunTyped vars (Turn t) = RunTyped vars t
  RunTyped vars (Note (Born site n) t) = (s : TypeTree) × IsOfSite p site s × (n ≡ width s) × RunTyped (vars ++ s ∷ []) t
  RunTyped vars (Note (Read x path n) t) = (ArePart vars x path n ⊎ AreElements vars x path n) × RunTyped vars t
  RunTyped vars (Note (Write x path n) t) = (ArePart vars x path n ⊎ AreElements vars x path n) × RunTyped vars t
  RunTyped vars (Note e t) = RunTyped vars t
  RunTyped vars (Seen (state w hs) t) = CellsTyped p (types_in w.store) w.store × HeldTyped p (types_in w.store) hs × RunTyped vars t
  RunTyped vars (Seen (entered w vs) t) = CellsTyped p (types_in w.store) w.store × ArgumentsTyped p (types_in w.store) vs × RunTyped vars t
  RunTyped vars (Seen (ended n) t) = RunTyped vars t
  RunTyped vars (Seen (copied v) t) = RunTyped vars t
  RunTyped vars (End e) = Unit {0}
  RunTyped vars Cut = Unit {0}

  states_typed : (t : Trace) (vars : List TypeTree) → RunTyped vars t → StatesTyped p t
  states_typed (Turn t) vars h = states_typed t vars h
  states_typed (Note (Born site n) t) vars h = states_typed t (vars ++ h.0 ∷ []) h.3
  states_typed (Note (Read x path n) t) vars h = states_typed t vars h.1
  states_typed (Note (Write x path n) t) vars h = states_typed t vars h.1
  states_typed (Note e t) vars h = states_typed t vars h
  states_typed (Seen (state w hs) t) vars h = (h.0, h.1, states_typed t vars h.2)
  states_typed (Seen (entered w vs) t) vars h = (h.0, h.1, states_typed t vars h.2)
  states_typed (Seen (ended n) t) vars h = states_typed t vars h
  states_typed (Seen (copied v) t) vars h = states_typed t vars h
  states_typed (End e) vars h = tt
  states_typed Cut vars h = tt

  accesses_fit : (t : Trace) (vars : List TypeTree) → RunTyped vars t → AccessesFit p vars t
  accesses_fit (Turn t) vars h = accesses_fit t vars h
  accesses_fit (Note (Born site n) t) vars h = (h.0, h.1, h.2, accesses_fit t (vars ++ h.0 ∷ []) h.3)
  accesses_fit (Note (Read x path n) t) vars h = (h.0, accesses_fit t vars h.1)
  accesses_fit (Note (Write x path n) t) vars h = (h.0, accesses_fit t vars h.1)
  accesses_fit (Note e t) vars h = accesses_fit t vars h
  accesses_fit (Seen (state w hs) t) vars h = accesses_fit t vars h.2
  accesses_fit (Seen (entered w vs) t) vars h = accesses_fit t vars h.2
  accesses_fit (Seen (ended n) t) vars h = accesses_fit t vars h
  accesses_fit (Seen (copied v) t) vars h = accesses_fit t vars h
  accesses_fit (End e) vars h = tt
  accesses_fit Cut vars h = tt

  -- a run from a state on
  abbrev Fine : World → Trace → Type 0
  Fine w t = (vars : List TypeTree) → vars ≡ vars_of w → RunTyped vars t

  born_vars : (w : World) (c : Cell) (vars : List TypeTree) → vars ≡ vars_of w → vars ++ c.type ∷ [] ≡ vars_of (born w c)
  born_vars w c vars e = ap (λ r. r ++ c.type ∷ []) e ∙ sym (types_born w.store c)

  written_vars : (w : World) (x : ℕ) (path : List ℕ) (v : Value) (vars : List TypeTree) → vars ≡ vars_of w → vars ≡ vars_of (written w x path v)
  written_vars w x path v vars e = e ∙ sym (changed_types w.store x path v)

  -- the words of a part are there
  abbrev Are : List TypeTree → ℕ → List ℕ → ℕ → Type 0
  Are vars x path n = ArePart vars x path n ⊎ AreElements vars x path n

  value_there : (w : World) (x : ℕ) (path : List ℕ) (s : TypeTree) (v : Value) → LeadsToPart (vars_of w) x path s → IsTyped p (vars_of w) s v → (vars : List TypeTree) → vars ≡ vars_of w → Are vars x path (words v)
  value_there w x path s v l n vars e = subst (λ r. Are r x path (words v)) (sym e) (inl (s, l, typed_words p s v (vars_of w) n))

  read_there : {m : List TypeTree} (w : World) (x : ℕ) (path : List ℕ) (s : TypeTree) → Sound p m w → LeadsToPart (vars_of w) x path s → (vars : List TypeTree) → vars ≡ vars_of w → Are vars x path (words (read_at w x path))
  read_there w x path s d l = value_there w x path s (read_at w x path) l (read_typed p w x path s d l)

  elements_there : (w : World) (x : ℕ) (path : List ℕ) (first size : ℕ) (xs : List Value) (s : TypeTree) → LeadsToPart (vars_of w) x path (array_of size s) → first + length xs ≤ size → AllTyped p (vars_of w) s xs
      → (vars : List TypeTree) → vars ≡ vars_of w → Are vars x (path ++ first ∷ []) (words_in (values_of xs))
  elements_there w x path first size xs s l le n vars e =
      subst (λ r. Are r x (path ++ first ∷ []) (words_in (values_of xs))) (sym e) (inr (path, first, length xs, size, s, refl, l, le, values_words p (vars_of w) s xs n))

  -- ---- what goes on well, from states in which variables of types m are there

  abbrev Good : List TypeTree → Go → Type 0
  Good m g = (w : World) → Sound p m w → Fine w (g w)

  abbrev GoodThen : List TypeTree → TypeTree → Then Value → Type 0
  GoodThen m t k = (v : Value) (w : World) → Sound p m w → IsTyped p (vars_of w) t v → Fine w (k v w)

  abbrev GoodList : List TypeTree → List TypeTree → Then (List Value) → Type 0
  GoodList m ts k = (vs : List Value) (w : World) → Sound p m w → EachTyped p (vars_of w) ts vs → Fine w (k vs w)

  -- n values of one type
  abbrev GoodAll : List TypeTree → TypeTree → ℕ → Then (List Value) → Type 0
  GoodAll m t n k = (vs : List Value) (w : World) → Sound p m w → AllTyped p (vars_of w) t vs → length vs ≡ n → Fine w (k vs w)

  -- each site in scope has a variable of its type
  abbrev EnvTyped : List TypeTree → List ℕ → Env → Type 0
  EnvTyped m scope env = (site : ℕ) → InScope site scope → slice_get m (env site) ≡ Some (site_type p site)

  abbrev GoodNext : List TypeTree → List ℕ → (Env → Go) → Type 0
  GoodNext m scope k = (env : Env) (w : World) → Sound p m w → EnvTyped (vars_of w) scope env → Fine w (k env w)

  abbrev GoodSpot : List TypeTree → TypeTree → Then Spot → Type 0
  GoodSpot m t k = (q : Spot) (w : World) → Sound p m w → LeadsToPart (vars_of w) q.variable q.path t → Fine w (k q w)

  -- the ways in which an evaluation goes
  record GoodWays (m : List TypeTree) (ws : Ways) : Type 0 where
    globals : (g : ℕ) → g < length p.globals → slice_get m g ≡ Some (global_type p g)
    panicked : (at : Position) (f : Fault) (env : Env) → Good m (ws.panicked at f env)
    held : HeldTyped p m ws.held

  record GoodCalls (calls : Calls) : Type 0 where
    by : {m : List TypeTree} (f : ℕ) (func : Func) (vs : List Value) (ws : Ways) (env : Env) (k : Then (List Value)) → slice_get p.funcs f ≡ Some func → GoodWays m ws → EachTyped p m func.param_types vs → GoodList m func.results k
        → Good m (calls f vs ws env k)

  -- from a later state on

  down : {m : List TypeTree} {w u : World} → Sound p m w → Sound p (vars_of w) u → Sound p m u
  down {m} {w} {u} s d = sound_down p m (vars_of w) u s.from d

  then_at : {m : List TypeTree} {w : World} (t : TypeTree) (k : Then Value) → GoodThen m t k → Sound p m w → GoodThen (vars_of w) t k
  then_at t k h s v u d n = h v u (down s d) n

  list_at : {m : List TypeTree} {w : World} (ts : List TypeTree) (k : Then (List Value)) → GoodList m ts k → Sound p m w → GoodList (vars_of w) ts k
  list_at ts k h s vs u d n = h vs u (down s d) n

  next_at : {m : List TypeTree} {w : World} (scope : List ℕ) (k : Env → Go) → GoodNext m scope k → Sound p m w → GoodNext (vars_of w) scope k
  next_at scope k h s env u d n = h env u (down s d) n

  env_at : {m : List TypeTree} {w : World} (scope : List ℕ) (env : Env) → EnvTyped m scope env → Sound p m w → EnvTyped (vars_of w) scope env
  env_at scope env v s site i = s.from (env site) (site_type p site) (v site i)

  env_with : (m : List TypeTree) (scope : List ℕ) (env : Env) (site x : ℕ) → EnvTyped m scope env → slice_get m x ≡ Some (site_type p site) → EnvTyped m (site ∷ scope) (Meaning.with_home env site x)
  env_with m scope env site x v l y i = by (nat_eq y site) refl
    where
      before : (y ≡ site) ⊎ InScope y scope → nat_eq y site ≡ false → InScope y scope
      before (inl e) n = absurd (eqb-false y site n e)
      before (inr h) n = h

      by : (b : Bool) → nat_eq y site ≡ b → slice_get m (if b then x else env y) ≡ Some (site_type p y)
      by true e = subst (λ u. slice_get m x ≡ Some (site_type p u)) (sym (eqb-true y site e)) l
      by false e = v y (before i e)

  ways_at : {m : List TypeTree} {w : World} (ws : Ways) → GoodWays m ws → Sound p m w → GoodWays (vars_of w) ws
  ways_at {m} {w} ws g s = record {
    globals = λ x l. s.from x (global_type p x) (g.globals x l);
    panicked = λ at f env u d. g.panicked at f env u (down s d);
    held = held_more p ws.held m (vars_of w) s.from g.held;
  }

  good_holding_all : {m : List TypeTree} (ws : Ways) (hs : List Held) → GoodWays m ws → HeldTyped p m hs → GoodWays m (holding_all ws hs)
  good_holding_all {m} ws hs g h = record { globals = g.globals; panicked = g.panicked; held = held_together p hs ws.held m h g.held }

  good_holding : {m : List TypeTree} (ws : Ways) (scope : List ℕ) (t : TypeTree) (e : Ex) (v : Value) → Has p scope t e → GoodWays m ws → IsTyped p m t v → GoodWays m (holding ws e v)
  good_holding ws scope t e v b g n = good_holding_all ws (Meaning.held_from ws.call e v ∷ []) g (inl (scope, t, b, n), tt)

  as_type : (m : List TypeTree) (t s : TypeTree) (v : Value) → t ≡ s → IsTyped p m s v → IsTyped p m t v
  as_type m t s v e n = subst (λ r. IsTyped p m r v) (sym e) n

  of_type : (m : List TypeTree) (t s : TypeTree) (v : Value) → t ≡ s → IsTyped p m t v → IsTyped p m s v
  of_type m t s v e n = subst (λ r. IsTyped p m r v) e n

  -- ---- the primitives and what stands above them

  good_give : {m : List TypeTree} (ws : Ways) (scope : List ℕ) (t : TypeTree) (e : Ex) (k : Then Value) → Has p scope t e → GoodWays m ws → GoodThen m t k → GoodThen m t (Meaning.give ws e k)
  good_give {m} ws scope t e k b g h v w s n vars is = (s.cells, (inl (scope, t, b, n), held_more p ws.held m (vars_of w) s.from g.held), h v w s n vars is)

  all_held_typed : (m : List TypeTree) (entry : ℕ) (scope : List ℕ) (es : Exs) (ts : List TypeTree) → Have p scope ts es → (number : ℕ) (rest : List TypeTree) (vs : List Value)
      → ((i j : ℕ) (t : TypeTree) → j ≡ number + i → slice_get rest i ≡ Some t → slice_get ts j ≡ Some t) → EachTyped p m rest vs → HeldTyped p m (Meaning.all_held entry es number vs)
  all_held_typed m entry scope es ts b number [] [] f h = tt
  all_held_typed m entry scope es ts b number [] (v ∷ vs) f h = absurd h
  all_held_typed m entry scope es ts b number (t ∷ rest) [] f h = tt
  all_held_typed m entry scope es ts b number (t ∷ rest) (v ∷ vs) f h =
      (inl (scope, ts, t, b, f 0 number t (omega arith) refl, h.0), all_held_typed m entry scope es ts b (suc number) rest vs (λ i j u e. f (suc i) j u (omega arith)) h.1)

  good_give_all : {m : List TypeTree} (ws : Ways) (scope : List ℕ) (ts : List TypeTree) (es : Exs) (k : Then (List Value)) → Have p scope ts es → GoodWays m ws → GoodList m ts k → GoodList m ts (Meaning.give_all ws es k)
  good_give_all {m} ws scope ts es k b g h vs w s n vars same = (
    s.cells,
    held_together p (Meaning.all_held ws.call es 0 vs) ws.held (vars_of w)
        (all_held_typed (vars_of w) ws.call scope es ts b 0 ts vs (λ i j t e is. let q : i ≡ j = omega arith in subst (λ x. slice_get ts x ≡ Some t) q is) n) (held_more p ws.held m (vars_of w) s.from g.held),
    h vs w s n vars same,
  )

  wrote : {m : List TypeTree} (w : World) (x : ℕ) (path : List ℕ) (t : TypeTree) (v : Value) → LeadsToPart (vars_of w) x path t → IsTyped p (vars_of w) t v → Sound p m w → Sound p m (written w x path v)
  wrote {m} w x path t v l n s = sound_down p m (vars_of w) (written w x path v) s.from (written_sound p (vars_of w) w x path t v l n (sound_here p w s))

  good_when : (c : Bool) (g h : Go) (w : World) → (c ≡ true → Fine w (g w)) → (c ≡ false → Fine w (h w)) → Fine w (Meaning.when c g h w)
  good_when true g h w a b = a refl
  good_when false g h w a b = b refl

  good_or_panic : {A : Type 0} {m : List TypeTree} (P : A → Type 0) (ws : Ways) (env : Env) (at : Position) (r : Result A Fault) (k : Then A) (w : World)
      → GoodWays m ws → Sound p m w → IfOk r P → ((a : A) → P a → Fine w (k a w)) → Fine w (Meaning.or_panic ws env at r k w)
  good_or_panic P ws env at (Ok a) k w g s q h = h a q
  good_or_panic P ws env at (Err f) k w g s q h = g.panicked at f env w s

  -- ---- places

  -- the steps of a place lead from a type to another one, and what was worked out for them are numbers
  abbrev StepsTyped : List TypeTree → TypeTree → List Step → TypeTree → Type 0
  StepsTyped m t [] s = t ≡ s
  StepsTyped m t (fixed i ∷ steps) s = (i < part_count t) × StepsTyped m (part_type t i) steps s
  StepsTyped m t (worked at e x n ∷ steps) s = (r : TypeTree) × (t ≡ array_of n r) × ((scope : List ℕ) × Has p scope ints e) × IsTyped p m ints x × StepsTyped m r steps s

  -- a place begins at a part of a type
  abbrev BaseTyped : List TypeTree → TypeTree → Base → Type 0
  BaseTyped m t (variable v) = slice_get m v ≡ Some t
  BaseTyped m t (through at e v) = (n : ℕ) × (type_named p n ≡ t) × ((scope : List ℕ) × Has p scope (pointer_to n) e) × IsTyped p m (pointer_to n) v
  BaseTyped m t (indexed at e s f i) = (n : ℕ) × (type_named p n ≡ t) × ((scope : List ℕ) × Has p scope (slice_of n) e × Has p scope ints f) × IsTyped p m (slice_of n) s × IsTyped p m ints i

  abbrev AimTyped : List TypeTree → TypeTree → Aim → Type 0
  AimTyped m s a = (t : TypeTree) × BaseTyped m t a.base × StepsTyped m t a.steps s

  abbrev LandingTyped : List TypeTree → TypeTree → Landing → Type 0
  LandingTyped m t nowhere = Unit {0}
  LandingTyped m t (birth site) = site_type p site ≡ t
  LandingTyped m t (on a) = AimTyped m t a

  abbrev LandingsTyped : List TypeTree → List TypeTree → List Landing → Type 0
  LandingsTyped m [] [] = Unit {0}
  LandingsTyped m (t ∷ ts) (l ∷ ls) = LandingTyped m t l × LandingsTyped m ts ls
  LandingsTyped m ts ls = ⊥

  steps_more : (steps : List Step) (m n : List TypeTree) (t s : TypeTree) → Stay m n → StepsTyped m t steps s → StepsTyped n t steps s
  steps_more [] m n t s stay h = h
  steps_more (fixed i ∷ steps) m n t s stay h = (h.0, steps_more steps m n (part_type t i) s stay h.1)
  steps_more (worked at e x size ∷ steps) m n t s stay h = (h.0, h.1, h.2, more_typed p ints x m n stay h.3, steps_more steps m n h.0 s stay h.4)

  base_more : (b : Base) (m n : List TypeTree) (t : TypeTree) → Stay m n → BaseTyped m t b → BaseTyped n t b
  base_more (variable v) m n t stay h = stay v t h
  base_more (through at e v) m n t stay h = (h.0, h.1, h.2, more_typed p (pointer_to h.0) v m n stay h.3)
  base_more (indexed at e s f i) m n t stay h = (h.0, h.1, h.2, more_typed p (slice_of h.0) s m n stay h.3, more_typed p ints i m n stay h.4)

  landing_more : (l : Landing) (m n : List TypeTree) (t : TypeTree) → Stay m n → LandingTyped m t l → LandingTyped n t l
  landing_more nowhere m n t stay h = tt
  landing_more (birth site) m n t stay h = h
  landing_more (on a) m n t stay h = (h.0, base_more a.base m n h.0 stay h.1, steps_more a.steps m n h.0 t stay h.2)

  landings_more : (ts : List TypeTree) (ls : List Landing) (m n : List TypeTree) → Stay m n → LandingsTyped m ts ls → LandingsTyped n ts ls
  landings_more [] [] m n stay h = tt
  landings_more (t ∷ ts) (l ∷ ls) m n stay h = (landing_more l m n t stay h.0, landings_more ts ls m n stay h.1)
  landings_more ts ls m n stay h = absurd h

  step_values_typed : (entry : ℕ) (steps : List Step) (m : List TypeTree) (t s : TypeTree) → StepsTyped m t steps s → HeldTyped p m (Meaning.step_values entry steps)
  step_values_typed entry [] m t s h = tt
  step_values_typed entry (fixed i ∷ steps) m t s h = step_values_typed entry steps m (part_type t i) s h.1
  step_values_typed entry (worked at e x size ∷ steps) m t s h =
      held_together p (Meaning.step_values entry steps) (Meaning.held_from entry e x ∷ []) m (step_values_typed entry steps m h.0 s h.4) (inl (h.2.0, ints, h.2.1, h.3), tt)

  base_values_typed : (entry : ℕ) (b : Base) (m : List TypeTree) (t : TypeTree) → BaseTyped m t b → HeldTyped p m (Meaning.base_values entry b)
  base_values_typed entry (variable v) m t h = tt
  base_values_typed entry (through at e v) m t h = (inl (h.2.0, pointer_to h.0, h.2.1, h.3), tt)
  base_values_typed entry (indexed at e s f i) m t h = (inl (h.2.0, ints, h.2.2, h.4), (inl (h.2.0, slice_of h.0, h.2.1, h.3), tt))

  landing_values_typed : (entry : ℕ) (l : Landing) (m : List TypeTree) (t : TypeTree) → LandingTyped m t l → HeldTyped p m (Meaning.landing_values entry l)
  landing_values_typed entry nowhere m t h = tt
  landing_values_typed entry (birth site) m t h = tt
  landing_values_typed entry (on a) m t h =
      held_together p (Meaning.step_values entry a.steps) (Meaning.base_values entry a.base) m (step_values_typed entry a.steps m h.0 t h.2) (base_values_typed entry a.base m h.0 h.1)

  bound_values_typed : (entry : ℕ) (o : Bound) (v : Value) (m : List TypeTree) (scope : List ℕ) → BoundHas p scope o → IsTyped p m ints v → HeldTyped p m (Meaning.bound_values entry o v)
  bound_values_typed entry absent v m scope b h = tt
  bound_values_typed entry (bound e) v m scope b h = (inl (scope, ints, b, h), tt)

  base_spot_leads : (b : Base) (m : List TypeTree) (t : TypeTree) → BaseTyped m t b → IfOk (Meaning.base_spot b) (λ q. LeadsToPart m q.variable q.path t)
  base_spot_leads (variable v) m t h = (t, h, refl)
  base_spot_leads (through at e v) m t h = subst (λ r. IfOk (Meaning.pointed v) (λ q. LeadsToPart m q.variable q.path r)) h.1 (pointed_leads p m h.0 v h.3)
  base_spot_leads (indexed at e s f i) m t h =
      subst (λ r. IfOk (Meaning.element_spot s (Meaning.element_of (Meaning.int_of i) (slice_count s))) (λ q. LeadsToPart m q.variable q.path r)) h.1 (element_spot_leads p m h.0 s i h.3)

  good_steps : {m : List TypeTree} (steps : List Step) (x : ℕ) (path : List ℕ) (t s : TypeTree) (ws : Ways) (env : Env) (k : Then Spot) → GoodWays m ws → LeadsToPart m x path t → StepsTyped m t steps s → GoodSpot m s k
      → Good m (Meaning.settle_steps ws env steps x path k)
  good_steps {m} [] x path t s ws env k g l n h w d = h (record { variable = x; path = path }) w d (leads_more m (vars_of w) x path s d.from (subst (λ r. LeadsToPart m x path r) n l))
  good_steps (fixed i ∷ steps) x path t s ws env k g l n h w d =
      good_steps steps x (path ++ i ∷ []) (part_type t i) s ws env k g (l.0, l.1, leads_on path l.0 t i l.2 n.0) n.1 h w d
  good_steps (worked at e y size ∷ steps) x path t s ws env k g l n h w d =
      good_or_panic (λ i. i < size) ws env at (Meaning.element_of (Meaning.int_of y) size) _ w g d (element_below (Meaning.int_of y) size)
      (λ i below. good_steps steps x (path ++ i ∷ []) n.0 s ws env k g (l.0, l.1, leads_into path l.0 n.0 size i (subst (λ r. Leads l.0 path r) n.1 l.2) below) n.4 h w d)

  good_settle : {m : List TypeTree} (a : Aim) (s : TypeTree) (ws : Ways) (env : Env) (k : Then Spot) → GoodWays m ws → AimTyped m s a → GoodSpot m s k → Good m (Meaning.settle ws env a k)
  good_settle {m} a s ws env k g n h w d =
      good_or_panic (λ q. LeadsToPart m q.variable q.path n.0) ws env (Meaning.base_position a.base) (Meaning.base_spot a.base) _ w g d (base_spot_leads a.base m n.0 n.1)
      (λ q l. good_steps a.steps q.variable q.path n.0 s ws env k g l n.2 h w d)

  -- ---- `append` and `copy`

  good_first : {m : List TypeTree} (n ty : ℕ) (s : Value) (k : Then (List Value)) → IsTyped p m (slice_of ty) s → n ≤ slice_room s → GoodAll m (type_named p ty) n k → Good m (Meaning.read_first n s k)
  good_first zero ty s k t le h w d = h [] w d tt refl
  good_first {m} (suc n) ty s k t le h w d =
      let (size, l, fits, few) = slice_leads p m ty s t (omega arith) in
      let x = slice_variable s in
      let path = slice_path s in
      let first = slice_first s in
      let up = leads_more m (vars_of w) x path (array_of size (type_named p ty)) d.from l in
      let long = elements_length w x path first (suc n) in
      let n1 = elements_typed p w x path (suc n) first size (type_named p ty) d up (omega arith) in
      λ vars e. (elements_there w x path first size (elements_at w x path first (suc n)) (type_named p ty) up (omega arith) n1 vars e, h (elements_at w x path first (suc n)) w d n1 long vars e)

  good_behind : {m : List TypeTree} (n ty : ℕ) (s : Value) (xs : List Value) (g : Go) → IsTyped p m (slice_of ty) s → n + length xs ≤ slice_room s → AllTyped p m (type_named p ty) xs → Good m g → Good m (Meaning.write_behind n s xs g)
  good_behind n ty s [] g t le c h w d = h w d
  good_behind {m} n ty s (x ∷ xs) g t le c h w d =
      let (size, l, fits, few) = slice_leads p m ty s t (omega arith) in
      let x1 = slice_variable s in
      let path = slice_path s in
      let first = slice_first s + n in
      let w1 = elements_written w x1 path first (x ∷ xs) in
      λ vars e. (
        elements_there w x1 path first size (x ∷ xs) (type_named p ty) (leads_more m (vars_of w) x1 path (array_of size (type_named p ty)) d.from l) (omega arith) (all_more p (type_named p ty) (x ∷ xs) m (vars_of w) d.from c) vars e,
        h w1 (elements_sound p (x ∷ xs) m w x1 path first size (type_named p ty) l (omega arith) c d) vars (e ∙ sym (elements_types (x ∷ xs) w x1 path first)),
      )

  good_copy : {m : List TypeTree} (n ty : ℕ) (d s : Value) (g : Go) → IsTyped p m (slice_of ty) d → IsTyped p m (slice_of ty) s → n ≤ slice_count d → n ≤ slice_count s → Good m g → Good m (Meaning.copy_first n d s g)
  good_copy {m} n ty d s g td ts ld ls h w e =
      let rd = slice_has_room p m ty d td in
      let rs = slice_has_room p m ty s ts in
      good_first n ty s (λ xs. Meaning.write_behind 0 d xs g) ts (omega arith)
      (λ xs u f c is. good_behind 0 ty d xs g (more_typed p (slice_of ty) d m (vars_of u) f.from td) (omega arith) c (λ y z. h y (down f z)) u (sound_here p u f)) w e

  -- a slice of more elements, where there is room for them
  longer_typed : (m : List TypeTree) (ty : ℕ) (s : Value) (n : ℕ) → IsTyped p m (slice_of ty) s → 0 < n → slice_count s + n ≤ slice_room s → IsTyped p m (slice_of ty) (Meaning.longer s n)
  longer_typed m ty s n t some le = let (size, l, fits, few) = slice_leads p m ty s t (omega arith) in (size, l, fits, le)

  good_within : {m : List TypeTree} (ty : ℕ) (s : Value) (xs : List Value) (k : Then Value) → 0 < length xs → slice_count s + length xs ≤ slice_room s → IsTyped p m (slice_of ty) s → AllTyped p m (type_named p ty) xs
      → GoodThen m (slice_of ty) k → Good m (Meaning.add_within s xs k)
  good_within {m} ty s xs k some le t c h w d =
      good_behind (slice_count s) ty s xs _ t le c (λ u e. h (Meaning.longer s (length xs)) u e (more_typed p (slice_of ty) (Meaning.longer s (length xs)) m (vars_of u) e.from (longer_typed m ty s (length xs) t some le))) w d

  -- a slice of a new array
  whole_typed : (m : List TypeTree) (ty x size count : ℕ) (t : TypeTree) → type_named p ty ≡ t → slice_get m x ≡ Some (array_of size t) → count ≤ size → IsTyped p m (slice_of ty) (slice_in x [] 0 count size)
  whole_typed m ty x size count t is there le = (size, (array_of size t, there, ap (array_of size) (sym is)), omega arith, le)

  module _ (around : Setting) (entry site ty : ℕ) (is : type_named p ty ≡ Meaning.site_type around site) (of_site : Meaning.site_type around site ≡ site_type p site) where
    good_regrow : {m : List TypeTree} (s : Value) (room : ℕ) (k : Then Value) → IsTyped p m (slice_of ty) s → slice_count s ≤ room
        → ((r : Value) (w : World) → Sound p m w → IsTyped p (vars_of w) (slice_of ty) r → slice_count r ≡ slice_count s → slice_room r ≡ room → Fine w (k r w)) → Good m (Meaning.regrow around entry site s room k)
    good_regrow {m} s room k ts le h w d =
        let t = array_of room (Meaning.site_type around site) in
        let u = born w (Meaning.new_cell entry site t (zero_value t)) in
        let r : Value = slice_in (length w.store) [] 0 (slice_count s) room in
        let b = born_sound p m w (Meaning.new_cell entry site t (zero_value t)) (zero_typed p m t) d in
        let tr : IsTyped p (vars_of u) (slice_of ty) r = whole_typed (vars_of u) ty (length w.store) room (slice_count s) (Meaning.site_type around site) is b.1 le in
        λ vars e. (
          t,
          inr (room, ap (array_of room) of_site),
          refl,
          good_first (slice_count s) ty s (λ old. Meaning.write_behind 0 r old (k r)) (more_typed p (slice_of ty) s m (vars_of u) b.0.from ts) (slice_has_room p m ty s ts)
              (λ old y f c long. good_behind 0 ty r old (k r) (more_typed p (slice_of ty) r (vars_of u) (vars_of y) f.from tr) (omega arith) c
              (λ z a. h r z (down b.0 (down f a)) (more_typed p (slice_of ty) r (vars_of u) (vars_of z) (λ i j q. a.from i j (f.from i j q)) tr) refl refl) y (sound_here p y f)) u (sound_here p u b.0) (vars ++ t ∷ []) (born_vars w (Meaning.new_cell entry site t (zero_value t)) vars e),
        )

    good_add : {m : List TypeTree} (s : Value) (xs : List Value) (k : Then Value) → IsTyped p m (slice_of ty) s → AllTyped p m (type_named p ty) xs → GoodThen m (slice_of ty) k → Good m (Meaning.add_to around entry site s xs k)
    good_add {m} s [] k t c h w d = h s w d (more_typed p (slice_of ty) s m (vars_of w) d.from t)
    good_add {m} s (x ∷ xs) k t c h w d =
        let size = slice_count s + length (x ∷ xs) in
        good_when (nat_le size (slice_room s)) _ _ w (λ e. good_within ty s (x ∷ xs) k (omega arith) (leb-true size (slice_room s) e) t c h w d)
        (λ e. good_regrow s (max size (2 * slice_room s)) (λ r. Meaning.add_within r (x ∷ xs) k) t (omega arith)
        (λ r u f tr same room. good_within ty r (x ∷ xs) k (omega arith) (omega arith) tr (all_more p (type_named p ty) (x ∷ xs) m (vars_of u) f.from c) (then_at (slice_of ty) k h f) u (sound_here p u f)) w d)

  abbrev around : (ℕ → Item) → Setting
  around items = Meaning.setting_of items p

  -- ---- expressions

  only_typed : (m : List TypeTree) (ts : List TypeTree) (t : TypeTree) (vs : List Value) → ts ≡ t ∷ [] → EachTyped p m ts vs → IsTyped p m t (Meaning.only_value vs)
  only_typed m ts t vs is h = by vs (subst (λ r. EachTyped p m r vs) is h)
    where
      by : (us : List Value) → EachTyped p m (t ∷ []) us → IsTyped p m t (Meaning.only_value us)
      by [] h = absurd h
      by (u ∷ us) h = h.0

  all_of : (m : List TypeTree) (t : TypeTree) (ts : List TypeTree) (vs : List Value) → AllAre t ts → EachTyped p m ts vs → AllTyped p m t vs
  all_of m t [] [] a h = tt
  all_of m t (s ∷ ts) (v ∷ vs) a h = (of_type m s t v a.0 h.0, all_of m t ts vs a.1 h.1)
  all_of m t [] (v ∷ vs) a h = absurd h
  all_of m t (s ∷ ts) [] a h = absurd h

  item_typed : (m : List TypeTree) (o : Item) → EachTyped p m (ints ∷ bools ∷ []) (Meaning.item_values o)
  item_typed m None = (tt, (tt, tt))
  item_typed m (Some z) = (tt, (tt, tt))

  module _ (items : ℕ → Item) (calls : Calls) (gc : GoodCalls calls) where
    mutual
      good_walk : (steps : Steps) {m : List TypeTree} (scope : List ℕ) (t s : TypeTree) (ws : Ways) (env : Env) (k : Then (List Step)) → StepsGo p scope t steps s → GoodWays m ws → EnvTyped m scope env
          → ((r : List Step) (w : World) → Sound p m w → StepsTyped (vars_of w) t r s → Fine w (k r w)) → Good m (Meaning.walk (around items) calls steps ws env k)
      good_walk here scope t s ws env k b g v h w d = h [] w d b
      good_walk (inner i steps) scope t s ws env k b g v h w d = good_walk steps scope (part_type t i) s ws env _ b.1 g v (λ r u f n. h (fixed i ∷ r) u f (b.0, n)) w d
      good_walk (at_index at e size steps) scope t s ws env k b g v h w d =
          good_ev e scope ints ws env _ b.2 g v (λ x u f n. good_walk steps scope b.0 s (holding ws e x) env _ b.3 (good_holding ws scope ints e x b.2 (ways_at ws g f) n) (env_at scope env v f)
          (λ r y c q. h (worked at e x size ∷ r) y (down f c) (b.0, b.1, (scope, b.2), more_typed p ints x (vars_of u) (vars_of y) c.from n, q)) u (sound_here p u f)) w d

      good_aim : (q : Pl) {m : List TypeTree} (scope : List ℕ) (t : TypeTree) (ws : Ways) (env : Env) (k : Then Aim) → PlaceHas p scope t q → GoodWays m ws → EnvTyped m scope env
          → ((a : Aim) (w : World) → Sound p m w → AimTyped (vars_of w) t a → Fine w (k a w)) → Good m (Meaning.aim (around items) calls q ws env k)
      good_aim (local site steps) scope t ws env k b g v h w d =
          good_walk steps scope (site_type p site) t ws env _ b.1 g v (λ r u f n. h _ u f (site_type p site, f.from (env site) (site_type p site) (v site b.0), n)) w d
      good_aim (global x steps) scope t ws env k b g v h w d =
          good_walk steps scope (global_type p x) t ws env _ b.1 g v (λ r u f n. h _ u f (global_type p x, f.from x (global_type p x) (g.globals x b.0), n)) w d
      good_aim (indirect at e ty steps) scope t ws env k b g v h w d =
          good_ev e scope (pointer_to ty) ws env _ b.0 g v (λ x u f n. good_walk steps scope (type_named p ty) t (holding ws e x) env _ b.1 (good_holding ws scope (pointer_to ty) e x b.0 (ways_at ws g f) n) (env_at scope env v f)
          (λ r y c q. h _ y (down f c) (type_named p ty, (ty, refl, (scope, b.0), more_typed p (pointer_to ty) x (vars_of u) (vars_of y) c.from n), q)) u (sound_here p u f)) w d
      good_aim (slice_element at e i ty steps) scope t ws env k b g v h w d =
          good_ev e scope (slice_of ty) ws env _ b.0 g v (λ x u f n. let gx = good_holding ws scope (slice_of ty) e x b.0 (ways_at ws g f) n in good_ev i scope ints (holding ws e x) env _ b.1 gx (env_at scope env v f)
          (λ y z c q. good_walk steps scope (type_named p ty) t (holding (holding ws e x) i y) env _ b.2 (good_holding (holding ws e x) scope ints i y b.1 (ways_at (holding ws e x) gx c) q) (env_at scope env v (down f c))
          (λ r a l o. h _ a (down (down f c) l) (
            type_named p ty,
            (
              ty,
              refl,
              (scope, b.0, b.1),
              more_typed p (slice_of ty) x (vars_of u) (vars_of a) (λ j s e. l.from j s (c.from j s e)) n,
              more_typed p ints y (vars_of z) (vars_of a) l.from q,
            ),
            o,
          )) z (sound_here p z c)) u (sound_here p u f)) w d

      good_ev : (e : Ex) {m : List TypeTree} (scope : List ℕ) (t : TypeTree) (ws : Ways) (env : Env) (k : Then Value) → Has p scope t e → GoodWays m ws → EnvTyped m scope env → GoodThen m t k → Good m (Meaning.ev (around items) calls e ws env k)
      good_ev (constant x) scope t ws env k b g v h w d = good_give ws scope t (constant x) k b g h x w d (nowhere_typed p t x (vars_of w) b.0 b.1)
      good_ev (read q) scope t ws env k b g v h w d =
          good_aim q scope t ws env _ b g v (λ a u f n. good_settle a t ws env _ (ways_at ws g f) n (λ o y c l. λ vars e. (read_there y o.variable o.path t c l vars e, good_give ws scope t (read q) k b g h (read_at y o.variable o.path) y (down f c) (read_typed p y o.variable o.path t c l) vars e)) u (sound_here p u f)) w d
      good_ev (unary op e) scope t ws env k b g v h w d =
          good_ev e scope t ws env _ b.1 g v (λ x u f n. good_give ws scope t (unary op e) k b g h _ u f (unary_typed p (vars_of u) op t x b.0 n)) w d
      good_ev (binary at op e f) scope t ws env k b g v h w d =
          good_ev e scope b.0 ws env _ b.2 g v (λ x u c n. good_ev f scope b.0 (holding ws e x) env _ b.3 (good_holding ws scope b.0 e x b.2 (ways_at ws g c) n) (env_at scope env v c)
          (λ y z l q. good_or_panic (IsTyped p (vars_of z) t) ws env at (binary_of op x y) _ z g (down c l) (binary_typed p (vars_of z) op b.0 t x y b.1 (more_typed p b.0 x (vars_of u) (vars_of z) l.from n) q)
          (λ r o. good_give ws scope t (binary at op e f) k b g h r z (down c l) o)) u (sound_here p u c)) w d
      good_ev (logical_and e f) {m} scope t ws env k b g v h w d =
          good_ev e scope bools ws env _ b.1 g v (λ x u c n. good_when (Meaning.is_true x) _ _ u (λ q. good_ev f scope bools ws env k b.2 g v (subst (λ r. GoodThen m r k) b.0 h) u c)
          (λ q. good_give ws scope t (logical_and e f) k b g h (bool false) u c (as_type (vars_of u) t bools (bool false) b.0 tt))) w d
      good_ev (logical_or e f) {m} scope t ws env k b g v h w d =
          good_ev e scope bools ws env _ b.1 g v (λ x u c n. good_when (Meaning.is_true x) _ _ u (λ q. good_give ws scope t (logical_or e f) k b g h (bool true) u c (as_type (vars_of u) t bools (bool true) b.0 tt))
          (λ q. good_ev f scope bools ws env k b.2 g v (subst (λ r. GoodThen m r k) b.0 h) u c)) w d
      good_ev (call f es) scope t ws env k b g v h w d =
          good_evs es scope b.0.param_types ws env _ b.3 g v (λ vs u c n. gc.by f b.0 vs ws env _ b.1 (ways_at ws g c) n
          (λ rs y l q. good_give ws scope t (call f es) k b g h (Meaning.only_value rs) y (down c l) (only_typed (vars_of y) b.0.results t rs b.2 q)) u (sound_here p u c)) w d
      good_ev (part_of ty i e) scope t ws env k b g v h w d =
          good_ev e scope (type_named p ty) ws env _ b.2 g v (λ x u c n. good_give ws scope t (part_of ty i e) k b g h _ u c (of_type (vars_of u) (part_type (type_named p ty) i) t _ b.1 (part_typed p (vars_of u) (type_named p ty) x i n b.0))) w d
      good_ev (literal ty es) {m} scope t ws env k b g v h w d =
          good_fill es scope t _ ws env _ b.1 g v (of_type m (type_named p ty) t _ b.0 (zero_typed p m (type_named p ty))) (good_give ws scope t (literal ty es) k b g h) w d
      good_ev (nil ty) scope t ws env k b g v h w d = good_give ws scope t (nil ty) k b g h _ w d (of_type (vars_of w) ty t _ b (zero_typed p (vars_of w) ty))
      good_ev (address_of q) scope t ws env k b g v h w d =
          good_aim q scope (type_named p b.0) ws env _ b.2 g v (λ a u c n. good_settle a (type_named p b.0) ws env _ (ways_at ws g c) n
          (λ o y f l. good_give ws scope t (address_of q) k b g h (pointer o.variable o.path) y (down c f) (as_type (vars_of y) t (pointer_to b.0) (pointer o.variable o.path) b.1 l)) u (sound_here p u c)) w d
      good_ev (new_variable site) {m} scope t ws env k b g v h w d =
          let o = born_sound p m w (Meaning.new_cell ws.call site (Meaning.site_type (around items) site) (Meaning.zero_of (around items) site)) (zero_typed p m (site_type p site)) d in
          λ vars e. (
            site_type p site,
            inl refl,
            typed_words p (site_type p site) (zero_value (site_type p site)) (vars_of w) (zero_typed p (vars_of w) (site_type p site)),
            good_give ws scope t (new_variable site) k b g h (pointer (length w.store) []) _ o.0 (as_type _ t (pointer_to b.0) (pointer (length w.store) []) b.1 (site_type p site, o.1, sym b.2))
                (vars ++ site_type p site ∷ []) (born_vars w (Meaning.new_cell ws.call site (site_type p site) (zero_value (site_type p site))) vars e),
          )
      good_ev (literal_variable site e) scope t ws env k b g v h w d =
          good_ev e scope (site_type p site) ws env _ b.1 g v (λ x u c n. let o = born_sound p (vars_of u) u (Meaning.new_cell ws.call site (Meaning.site_type (around items) site) x) n (sound_here p u c) in
          λ vars i. (
            site_type p site,
            inl refl,
            typed_words p (site_type p site) x (vars_of u) n,
            good_give ws scope t (literal_variable site e) k b g h (pointer (length u.store) []) _ (down c o.0) (as_type _ t (pointer_to b.0.0) (pointer (length u.store) []) b.0.1 (site_type p site, o.1, sym b.0.2))
                (vars ++ site_type p site ∷ []) (born_vars u (Meaning.new_cell ws.call site (site_type p site) x) vars i),
          )) w d
      good_ev (slice_literal site es) scope t ws env k b g v h w d =
          good_evs es scope b.1.0 ws env _ b.1.2 g v (λ vs u c n.
          let o = born_sound p (vars_of u) u (Meaning.new_cell ws.call site (array_of (length vs) (Meaning.site_type (around items) site)) (composite (values_of vs))) (values_typed p (vars_of u) (site_type p site) vs (all_of (vars_of u) (site_type p site) b.1.0 vs b.1.1 n)) (sound_here p u c) in
          λ vars i. (
            array_of (length vs) (site_type p site),
            inr (length vs, refl),
            refl,
            good_give ws scope t (slice_literal site es) k b g h (slice_in (length u.store) [] 0 (length vs) (length vs)) _ (down c o.0)
                (as_type _ t (slice_of b.0.0) (slice_in (length u.store) [] 0 (length vs) (length vs)) b.0.1 (whole_typed _ b.0.0 (length u.store) (length vs) (length vs) (site_type p site) b.0.2 o.1 (omega arith)))
                (vars ++ array_of (length vs) (site_type p site) ∷ []) (born_vars u (Meaning.new_cell ws.call site (array_of (length vs) (site_type p site)) (composite (values_of vs))) vars i),
          )) w d
      good_ev (make at site size room) scope t ws env k b g v h w d =
          good_ev size scope ints ws env _ b.1 g v (λ x u c n. good_bound room x scope (holding ws size x) env _ b.2 (good_holding ws scope ints size x b.1 (ways_at ws g c) n) (env_at scope env v c) n
          (λ y z l q. good_or_panic HasRoom ws env at (sizes_of (Meaning.int_of x) (Meaning.int_of y)) _ z g (down c l) (sizes_good (Meaning.int_of x) (Meaning.int_of y)) (λ o fits.
          let s = array_of o.room (Meaning.site_type (around items) site) in
          let f = born_sound p (vars_of z) z (Meaning.new_cell ws.call site s (zero_value s)) (zero_typed p (vars_of z) s) (sound_here p z l) in
          λ vars i. (
            s,
            inr (o.room, refl),
            refl,
            good_give ws scope t (make at site size room) k b g h (slice_in (length z.store) [] 0 o.count o.room) _ (down (down c l) f.0)
                (as_type _ t (slice_of b.0.0) (slice_in (length z.store) [] 0 o.count o.room) b.0.1 (whole_typed _ b.0.0 (length z.store) o.room o.count (site_type p site) b.0.2 f.1 fits))
                (vars ++ s ∷ []) (born_vars z (Meaning.new_cell ws.call site s (zero_value s)) vars i),
          ))) u (sound_here p u c)) w d
      good_ev (append site e es) {m} scope t ws env k b g v h w d =
          good_ev e scope t ws env _ b.1 g v (λ x u c n. good_evs es scope b.2.0 (holding ws e x) env _ b.2.2 (good_holding ws scope t e x b.1 (ways_at ws g c) n) (env_at scope env v c)
          (λ vs z l q. good_add (around items) ws.call site b.0.0 b.0.2 refl x vs _ (of_type (vars_of z) t (slice_of b.0.0) x b.0.1 (more_typed p t x (vars_of u) (vars_of z) l.from n))
          (subst (λ r. AllTyped p (vars_of z) r vs) (sym b.0.2) (all_of (vars_of z) (site_type p site) b.2.0 vs b.2.1 q))
          (subst (λ r. GoodThen (vars_of z) r (Meaning.give ws (append site e es) k)) b.0.1 (then_at t (Meaning.give ws (append site e es) k) (good_give ws scope t (append site e es) k b g h) (down c l))) z (sound_here p z l)) u (sound_here p u c)) w d
      good_ev (append_slice site e f) {m} scope t ws env k b g v h w d =
          let ty = b.0.0 in
          good_ev e scope t ws env _ b.1 g v (λ x u c n. good_ev f scope t (holding ws e x) env _ b.2 (good_holding ws scope t e x b.1 (ways_at ws g c) n) (env_at scope env v c)
          (λ y z l q. let ys = of_type (vars_of z) t (slice_of ty) y b.0.1 q in
          good_first (slice_count y) ty y _ ys (slice_has_room p (vars_of z) ty y ys) (λ vs a r o long. good_add (around items) ws.call site ty b.0.2 refl x vs _
          (of_type (vars_of a) t (slice_of ty) x b.0.1 (more_typed p t x (vars_of u) (vars_of a) (λ j s i. r.from j s (l.from j s i)) n)) o
          (subst (λ j. GoodThen (vars_of a) j (Meaning.give ws (append_slice site e f) k)) b.0.1 (then_at t (Meaning.give ws (append_slice site e f) k) (good_give ws scope t (append_slice site e f) k b g h) (down (down c l) r))) a (sound_here p a r))
          z (sound_here p z l)) u (sound_here p u c)) w d
      good_ev (copy ty e f) scope t ws env k b g v h w d =
          good_ev e scope (slice_of ty) ws env _ b.1 g v (λ x u c n. good_ev f scope (slice_of ty) (holding ws e x) env _ b.2 (good_holding ws scope (slice_of ty) e x b.1 (ways_at ws g c) n) (env_at scope env v c)
          (λ y z l q. good_copy (Meaning.copy_count x y) ty x y _ (more_typed p (slice_of ty) x (vars_of u) (vars_of z) l.from n) q (omega arith) (omega arith)
          (λ a r. good_give ws scope t (copy ty e f) k b g h (int (pos (Meaning.copy_count x y))) a (down (down c l) r) (as_type (vars_of a) t ints (int (pos (Meaning.copy_count x y))) b.0 tt)) z (sound_here p z l)) u (sound_here p u c)) w d
      good_ev (slicing at ty e low high) scope t ws env k b g v h w d =
          good_ev e scope (slice_of ty) ws env _ b.1 g v (λ x u c n. let gx = good_holding ws scope (slice_of ty) e x b.1 (ways_at ws g c) n in good_bound low _ scope (holding ws e x) env _ b.2 gx (env_at scope env v c) tt
          (λ l z f q. good_bound high _ scope (holding_all (holding ws e x) (Meaning.bound_values ws.call low l)) env _ b.3
          (good_holding_all (holding ws e x) (Meaning.bound_values ws.call low l) (ways_at (holding ws e x) gx f) (bound_values_typed ws.call low l (vars_of z) scope b.2 q)) (env_at scope env v (down c f)) tt
          (λ r a j i. good_or_panic (IsTyped p (vars_of a) (slice_of ty)) ws env at (slice_part x (Meaning.int_of l) (Meaning.int_of r)) _ a g (down (down c f) j)
          (slice_part_typed p (vars_of a) ty x (Meaning.int_of l) (Meaning.int_of r) (more_typed p (slice_of ty) x (vars_of u) (vars_of a) (λ o s y. j.from o s (f.from o s y)) n))
          (λ y o. good_give ws scope t (slicing at ty e low high) k b g h y a (down (down c f) j) (as_type (vars_of a) t (slice_of ty) y b.0 o))) z (sound_here p z f)) u (sound_here p u c)) w d
      good_ev (array_slicing at q size low high) scope t ws env k b g v h w d =
          let ty = b.0 in let whole = array_of size (type_named p ty) in
          good_aim q scope whole ws env _ b.2 g v (λ o u0 d0 n0. good_settle o whole ws env _ (ways_at ws g d0) n0 (λ x u e n.
          let c = down d0 e in let here_x = pointer x.variable x.path in
          let gx = good_holding_all ws (Meaning.held_from ws.call (address_of q) here_x ∷ []) (ways_at ws g c) (inr (scope, whole, q, x.variable, x.path, b.2, refl, refl, n), tt) in
          good_bound low _ scope (holding ws (address_of q) here_x) env _ b.3 gx (env_at scope env v c) tt
          (λ l z f i. good_bound high _ scope (holding_all (holding ws (address_of q) here_x) (Meaning.bound_values ws.call low l)) env _ b.4
          (good_holding_all (holding ws (address_of q) here_x) (Meaning.bound_values ws.call low l) (ways_at (holding ws (address_of q) here_x) gx f) (bound_values_typed ws.call low l (vars_of z) scope b.3 i)) (env_at scope env v (down c f)) tt
          (λ r a j s. good_or_panic (IsTyped p (vars_of a) (slice_of ty)) ws env at (array_part x.variable x.path size (Meaning.int_of l) (Meaning.int_of r)) _ a g (down (down c f) j)
          (array_part_typed p (vars_of a) ty x.variable x.path size (Meaning.int_of l) (Meaning.int_of r) (leads_more (vars_of u) (vars_of a) x.variable x.path whole (λ y1 s1 i1. j.from y1 s1 (f.from y1 s1 i1)) n))
          (λ y o1. good_give ws scope t (array_slicing at q size low high) k b g h y a (down (down c f) j) (as_type (vars_of a) t (slice_of ty) y b.1 o1))) z (sound_here p z f)) u (sound_here p u c)) u0 (sound_here p u0 d0)) w d
      good_ev (len e) scope t ws env k b g v h w d =
          good_ev e scope (slice_of b.1.0) ws env _ b.1.1 g v (λ x u c n. good_give ws scope t (len e) k b g h (int (pos (slice_count x))) u c (as_type (vars_of u) t ints (int (pos (slice_count x))) b.0 tt)) w d
      good_ev (cap e) scope t ws env k b g v h w d =
          good_ev e scope (slice_of b.1.0) ws env _ b.1.1 g v (λ x u c n. good_give ws scope t (cap e) k b g h (int (pos (slice_room x))) u c (as_type (vars_of u) t ints (int (pos (slice_room x))) b.0 tt)) w d

      good_bound : (o : Bound) (x : Value) {m : List TypeTree} (scope : List ℕ) (ws : Ways) (env : Env) (k : Then Value) → BoundHas p scope o → GoodWays m ws → EnvTyped m scope env → IsTyped p m ints x → GoodThen m ints k
          → Good m (Meaning.ev_bound (around items) calls o x ws env k)
      good_bound absent x {m} scope ws env k b g v n h w d = h x w d (more_typed p ints x m (vars_of w) d.from n)
      good_bound (bound e) x scope ws env k b g v n h w d = good_ev e scope ints ws env k b g v h w d

      good_fill : (es : Elements) {m : List TypeTree} (scope : List ℕ) (t : TypeTree) (x : Value) (ws : Ways) (env : Env) (k : Then Value) → ElementsHave p scope t es → GoodWays m ws → EnvTyped m scope env → IsTyped p m t x → GoodThen m t k
          → Good m (Meaning.fill (around items) calls es x ws env k)
      good_fill no_elements {m} scope t x ws env k b g v n h w d = h x w d (more_typed p t x m (vars_of w) d.from n)
      good_fill (element i e es) {m} scope t x ws env k b g v n h w d =
          good_ev e scope (part_type t i) ws env _ b.1 g v (λ y u c q. good_fill es scope t _ (holding ws e y) env k b.2 (good_holding ws scope (part_type t i) e y b.1 (ways_at ws g c) q) (env_at scope env v c)
          (with_part_typed p (vars_of u) t x y i (more_typed p t x m (vars_of u) c.from n) b.0 q) (then_at t k h c) u (sound_here p u c)) w d

      good_evs : (es : Exs) {m : List TypeTree} (scope : List ℕ) (ts : List TypeTree) (ws : Ways) (env : Env) (k : Then (List Value)) → Have p scope ts es → GoodWays m ws → EnvTyped m scope env → GoodList m ts k → Good m (Meaning.evs (around items) calls es ws env k)
      good_evs none scope [] ws env k b g v h w d = h [] w d tt
      good_evs none scope (t ∷ ts) ws env k b g v h w d = absurd b
      good_evs (more e es) scope [] ws env k b g v h w d = absurd b
      good_evs (more e es) scope (t ∷ ts) ws env k b g v h w d =
          good_ev e scope t ws env _ b.0 g v (λ x u c n. good_evs es scope ts (holding ws e x) env _ b.1 (good_holding ws scope t e x b.0 (ways_at ws g c) n) (env_at scope env v c)
          (λ vs z l q. h (x ∷ vs) z (down c l) (more_typed p t x (vars_of u) (vars_of z) l.from n, q)) u (sound_here p u c)) w d
      good_evs (results f es) scope ts ws env k b g v h w d =
          good_evs es scope b.0.param_types ws env _ b.3 g v (λ vs u c n. gc.by f b.0 vs ws env _ b.1 (ways_at ws g c) n
          (subst (λ r. GoodList (vars_of u) r (Meaning.give_all ws (results f es) k)) (sym b.2) (list_at ts (Meaning.give_all ws (results f es) k) (good_give_all ws scope ts (results f es) k b g h) c)) u (sound_here p u c)) w d
      good_evs read_int scope ts ws env k b g v h w d =
          good_give_all ws scope ts read_int k b g h _ _ (record { from = d.from; cells = d.cells }) (subst (λ r. EachTyped p (vars_of w) r (Meaning.item_values (items w.reads))) (sym b) (item_typed (vars_of w) (items w.reads)))

  -- ---- left sides and operands of `print`

  -- the scope after a left side has its value
  abbrev landed : List ℕ → Landing → List ℕ
  landed scope nowhere = scope
  landed scope (birth site) = site ∷ scope
  landed scope (on a) = scope

  abbrev all_landed : List ℕ → List Landing → List ℕ
  all_landed scope [] = scope
  all_landed scope (l ∷ ls) = all_landed (landed scope l) ls

  -- a left side that is ready enters what it declares into each scope
  abbrev Enters : Left → Landing → Type 0
  Enters l x = (scope : List ℕ) (ls : List Left) → scope_behind scope (l ∷ ls) ≡ scope_behind (landed scope x) ls

  module _ (items : ℕ → Item) (calls : Calls) (gc : GoodCalls calls) where
    good_ready : (l : Left) {m : List TypeTree} (scope : List ℕ) (t : TypeTree) (ws : Ways) (env : Env) (k : Then Landing) → LeftHas p scope t l → GoodWays m ws → EnvTyped m scope env
        → ((x : Landing) (w : World) → Sound p m w → LandingTyped (vars_of w) t x → Enters l x → Fine w (k x w)) → Good m (Meaning.ready (around items) calls l ws env k)
    good_ready blank scope t ws env k b g v h w d = h nowhere w d tt (λ s ls. refl)
    good_ready (new site) scope t ws env k b g v h w d = h (birth site) w d b (λ s ls. refl)
    good_ready (to q) scope t ws env k b g v h w d = good_aim items calls gc q scope t ws env _ b g v (λ a u c n. h (on a) u c n (λ s ls. refl)) w d

    good_ready_all : (ls : List Left) {m : List TypeTree} (scope : List ℕ) (ts : List TypeTree) (ws : Ways) (env : Env) (k : List Landing → Ways → Go) → LeftsHave p scope ts ls → GoodWays m ws → EnvTyped m scope env
        → ((xs : List Landing) (ws1 : Ways) (w : World) → Sound p m w → LandingsTyped (vars_of w) ts xs → GoodWays (vars_of w) ws1 → ((inside : List ℕ) → scope_behind inside ls ≡ all_landed inside xs) → Fine w (k xs ws1 w))
        → Good m (Meaning.ready_all (around items) calls ls ws env k)
    good_ready_all [] scope [] ws env k b g v h w d = h [] ws w d tt (ways_at ws g d) (λ inside. refl)
    good_ready_all [] scope (t ∷ ts) ws env k b g v h w d = absurd b
    good_ready_all (l ∷ ls) scope [] ws env k b g v h w d = absurd b
    good_ready_all (l ∷ ls) scope (t ∷ ts) ws env k b g v h w d =
        good_ready l scope t ws env _ b.0 g v (λ x u c n e. good_ready_all ls scope ts (holding_all ws (Meaning.landing_values ws.call x)) env _ b.1
        (good_holding_all ws (Meaning.landing_values ws.call x) (ways_at ws g c) (landing_values_typed ws.call x (vars_of u) t n)) (env_at scope env v c)
        (λ xs ws1 z f q i r. h (x ∷ xs) ws1 z (down c f) (landing_more x (vars_of u) (vars_of z) t f.from n, q) i (λ inside. e inside ls ∙ r (landed inside x))) u (sound_here p u c)) w d

    good_pieces : (qs : List Piece) {m : List TypeTree} (scope : List ℕ) (ws : Ways) (env : Env) (k : Then (List (List ℕ))) → PiecesHave p scope qs → GoodWays m ws → EnvTyped m scope env
        → ((r : List (List ℕ)) → Good m (k r)) → Good m (Meaning.pieces (around items) calls qs ws env k)
    good_pieces [] scope ws env k b g v h w d = h [] w d
    good_pieces (text number ∷ qs) scope ws env k b g v h w d = good_pieces qs scope ws env _ b.1 g v (λ r. h _) w d
    good_pieces (shown t e ∷ qs) scope ws env k b g v h w d =
        good_ev items calls gc e scope t ws env _ b.0 g v (λ x u c n. good_pieces qs scope (holding ws e x) env _ b.1 (good_holding ws scope t e x b.0 (ways_at ws g c) n) (env_at scope env v c)
        (λ r z f. h (Meaning.shown_bytes x ∷ r) z (down c f)) u (sound_here p u c)) w d

  module _ (items : ℕ → Item) where
    -- a variable of a site is born in an environment
    born_with : {m : List TypeTree} (w : World) (scope : List ℕ) (env : Env) (entry site : ℕ) (x : Value) → IsTyped p m (site_type p site) x → EnvTyped m scope env → Sound p m w
        → (u : World) → u ≡ born w (Meaning.new_cell entry site (site_type p site) x) → Sound p m u × EnvTyped (vars_of u) (site ∷ scope) (Meaning.with_home env site (length w.store))
    born_with {m} w scope env entry site x n v d u is =
        let c = Meaning.new_cell entry site (site_type p site) x in
        let b = born_sound p m w c n d in
        subst (λ z. Sound p m z × EnvTyped (vars_of z) (site ∷ scope) (Meaning.with_home env site (length w.store))) (sym is)
        (b.0, env_with (vars_of (born w c)) scope env site (length w.store) (env_at scope env v b.0) b.1)

    good_land : (l : Landing) (x : Value) {m : List TypeTree} (scope : List ℕ) (t : TypeTree) (ws : Ways) (env : Env) (k : Env → Go) → GoodWays m ws → EnvTyped m scope env → LandingTyped m t l → IsTyped p m t x → GoodNext m (landed scope l) k
        → Good m (Meaning.land (around items) l x ws env k)
    good_land nowhere x scope t ws env k g v n c h w d = h env w d (env_at scope env v d)
    good_land (birth site) x {m} scope t ws env k g v n c h w d =
        let b = born_with w scope env ws.call site x (as_type m (site_type p site) t x n c) v d _ refl in
        λ vars e. (
          site_type p site,
          inl refl,
          typed_words p (site_type p site) x m (as_type m (site_type p site) t x n c),
          h (Meaning.with_home env site (length w.store)) _ b.0 b.1 (vars ++ site_type p site ∷ []) (born_vars w (Meaning.new_cell ws.call site (site_type p site) x) vars e),
        )
    good_land (on a) x {m} scope t ws env k g v n c h w d =
        good_settle a t ws env _ g n (λ q u f l. let n1 = more_typed p t x m (vars_of u) f.from c in let e = wrote u q.variable q.path t x l n1 f in
        λ vars is. (value_there u q.variable q.path t x l n1 vars is, h env (written u q.variable q.path x) e (env_at scope env v e) vars (written_vars u q.variable q.path x vars is))) w d

    good_land_all : (ls : List Landing) (vs : List Value) {m : List TypeTree} (scope : List ℕ) (ts : List TypeTree) (ws : Ways) (env : Env) (k : Env → Go) → GoodWays m ws → EnvTyped m scope env → LandingsTyped m ts ls → EachTyped p m ts vs
        → GoodNext m (all_landed scope ls) k → Good m (Meaning.land_all (around items) ls vs ws env k)
    good_land_all [] vs scope ts ws env k g v n c h w d = h env w d (env_at scope env v d)
    good_land_all (l ∷ ls) [] scope [] ws env k g v n c h w d = absurd n
    good_land_all (l ∷ ls) [] scope (t ∷ ts) ws env k g v n c h w d = absurd c
    good_land_all (l ∷ ls) (x ∷ vs) scope [] ws env k g v n c h w d = absurd c
    good_land_all (l ∷ ls) (x ∷ vs) {m} scope (t ∷ ts) ws env k g v n c h w d =
        good_land l x scope t ws env _ g v n.0 c.0 (λ env1 u f v1. good_land_all ls vs (landed scope l) ts ws env1 k (ways_at ws g f) v1 (landings_more ts ls m (vars_of u) f.from n.1) (each_more p ts vs m (vars_of u) f.from c.1)
        (next_at (all_landed (landed scope l) ls) k h f) u (sound_here p u f)) w d

    good_zeros : (sites : List ℕ) (entry : ℕ) {m : List TypeTree} (scope : List ℕ) (env : Env) (k : Env → Go) → EnvTyped m scope env → GoodNext m (scope_with scope sites) k → Good m (Meaning.bear_zeros (around items) entry sites env k)
    good_zeros [] entry scope env k v h w d = h env w d (env_at scope env v d)
    good_zeros (site ∷ sites) entry {m} scope env k v h w d =
        let b = born_with w scope env entry site (zero_value (site_type p site)) (zero_typed p m (site_type p site)) v d _ refl in
        let x = zero_value (site_type p site) in
        λ vars e. (
          site_type p site,
          inl refl,
          typed_words p (site_type p site) x m (zero_typed p m (site_type p site)),
          good_zeros sites entry (site ∷ scope) (Meaning.with_home env site (length w.store)) k b.1 (next_at (scope_with (site ∷ scope) sites) k h b.0) _ (sound_here p _ b.0)
              (vars ++ site_type p site ∷ []) (born_vars w (Meaning.new_cell entry site (site_type p site) x) vars e),
        )

    -- sites that have variables get new ones of the same values
    good_renew : (sites : List ℕ) (entry : ℕ) {m : List TypeTree} (scope : List ℕ) (env : Env) (k : Env → Go) → AllInScope scope sites → EnvTyped m scope env → GoodNext m scope k → Good m (Meaning.renew (around items) entry sites env k)
    good_renew [] entry scope env k i v h w d = h env w d (env_at scope env v d)
    good_renew (site ∷ sites) entry {m} scope env k i v h w d =
        let x = read_at w (env site) [] in
        let l : LeadsToPart (vars_of w) (env site) [] (site_type p site) = (site_type p site, d.from (env site) (site_type p site) (v site i.0), refl) in
        let n = read_typed p w (env site) [] (site_type p site) d l in
        let b = born_with w scope env entry site x n (env_at scope env v d) (sound_here p w d) _ refl in
        λ vars e. (
          read_there w (env site) [] (site_type p site) d l vars e,
          (
            site_type p site,
            inl refl,
            typed_words p (site_type p site) x (vars_of w) n,
            good_renew sites entry scope (Meaning.with_home env site (length w.store)) k i.1 (λ y s. b.1 y (inr s)) (next_at scope k h (down d b.0)) _ (sound_here p _ b.0)
                (vars ++ site_type p site ∷ []) (born_vars w (Meaning.new_cell entry site (site_type p site) x) vars e),
          ),
        )

    good_params : (ps : List (Option ℕ)) (vs : List Value) (entry : ℕ) {m : List TypeTree} (scope : List ℕ) (ts : List TypeTree) (env : Env) (k : Env → Go) → ParamsHave p ts ps → EnvTyped m scope env → EachTyped p m ts vs
        → GoodNext m (params_scope scope ps) k → Good m (Meaning.bear_params (around items) entry ps vs env k)
    good_params [] vs entry scope ts env k b v n h w d = h env w d (env_at scope env v d)
    good_params (q ∷ ps) [] entry scope [] env k b v n h w d = absurd b
    good_params (q ∷ ps) [] entry scope (t ∷ ts) env k b v n h w d = absurd n
    good_params (q ∷ ps) (x ∷ vs) entry scope [] env k b v n h w d = absurd b
    good_params (None ∷ ps) (x ∷ vs) entry scope (t ∷ ts) env k b v n h w d = good_params ps vs entry scope ts env k b v n.1 h w d
    good_params (Some site ∷ ps) (x ∷ vs) entry {m} scope (t ∷ ts) env k b v n h w d =
        let c = born_with w scope env entry site x (as_type m (site_type p site) t x b.0 n.0) v d _ refl in
        λ vars e. (
          site_type p site,
          inl refl,
          typed_words p (site_type p site) x m (as_type m (site_type p site) t x b.0 n.0),
          good_params ps vs entry (site ∷ scope) ts (Meaning.with_home env site (length w.store)) k b.1 c.1 (each_more p ts vs m _ c.0.from n.1) (next_at (params_scope (site ∷ scope) ps) k h c.0) _ (sound_here p _ c.0)
              (vars ++ site_type p site ∷ []) (born_vars w (Meaning.new_cell entry site (site_type p site) x) vars e),
        )

  good_emit_more : (bs : List (List ℕ)) (g : Go) {m : List TypeTree} → Good m g → Good m (Meaning.emit_more bs g)
  good_emit_more [] g h w d = h w d
  good_emit_more (b ∷ bs) g h w d = good_emit_more bs g h w d

  good_emit_plain : (bs : List (List ℕ)) (g : Go) {m : List TypeTree} → Good m g → Good m (Meaning.emit_plain bs g)
  good_emit_plain [] g h w d = h w d
  good_emit_plain (b ∷ bs) g h w d = good_emit_plain bs g h w d

  good_emit : (ln : Bool) (bs : List (List ℕ)) (g : Go) {m : List TypeTree} → Good m g → Good m (Meaning.emit ln bs g)
  good_emit true [] g h w d = h w d
  good_emit true (b ∷ bs) g h w d = good_emit_more bs g h w d
  good_emit false bs g h w d = good_emit_plain bs g h w d

  ways_up : (m n : List TypeTree) (ws : Ways) → Stay m n → GoodWays m ws → GoodWays n ws
  ways_up m n ws le g = record {
    globals = λ x l. le x (global_type p x) (g.globals x l);
    panicked = λ at f env u d. g.panicked at f env u (sound_down p m n u le d);
    held = held_more p ws.held m n le g.held;
  }

  next_inside : (m : List TypeTree) (scope inside : List ℕ) (k : Env → Go) → Wider scope inside → GoodNext m scope k → GoodNext m inside k
  next_inside m scope inside k wide h env w d v = h env w d (λ y i. v y (wide y i))

  -- ---- loops

  -- a test gives a truth value, which is false only where it may be
  record GoodTest (m : List TypeTree) (scope : List ℕ) (may : Bool) (test : Env → Then Value → Go) : Type 0 where
    by : (n : List TypeTree) → Stay m n → (env : Env) (j : Then Value) → EnvTyped n scope env → ((v : Value) (w : World) → Sound p n w → (Meaning.is_true v ≡ false → may ≡ true) → Fine w (j v w)) → Good n (test env j)

  record GoodBody (m : List TypeTree) (scope : List ℕ) (body : ℕ → Env → (ℕ → Env → Go) → Go) : Type 0 where
    by : (n : List TypeTree) → Stay m n → (c : ℕ) (env : Env) (j : ℕ → Env → Go) → EnvTyped n scope env → ((d : ℕ) → GoodNext n scope (j d)) → Good n (body c env j)

  good_rounds : (fuel : ℕ) (test : Env → Then Value → Go) (body : ℕ → Env → (ℕ → Env → Go) → Go) (k : ℕ → Env → Go) {m : List TypeTree} (scope : List ℕ) (may : Bool) → GoodTest m scope may test → GoodBody m scope body
      → (may ≡ true → (c : ℕ) → GoodNext m scope (k c)) → (n : List TypeTree) → Stay m n → (c : ℕ) (env : Env) → EnvTyped n scope env → Good n (Meaning.rounds fuel test body k c env)
  good_rounds zero test body k scope may t b o n le c env v w d = λ vars same. tt
  good_rounds (suc fuel) test body k {m} scope may t b o n le c env v w d =
      t.by n le env _ v (λ x u f e. good_when (Meaning.is_true x) _ _ u
      (λ q. b.by (vars_of u) (λ i s h. f.from i s (le i s h)) c env _ (env_at scope env v f)
      (λ c1 env1 z a v1. good_rounds fuel test body k scope may t b o (vars_of z) (λ i s h. a.from i s (f.from i s (le i s h))) c1 env1 v1 z (sound_here p z a)) u (sound_here p u f))
      (λ q. o (e q) c env u (sound_down p m n u le f) (env_at scope env v f))) w d

  good_counted : (fuel i left : ℕ) (body : ℕ → ℕ → Env → (ℕ → Env → Go) → Go) (k : ℕ → Env → Go) {m : List TypeTree} (scope : List ℕ) (size : ℕ) → i + left ≡ size → ((i : ℕ) → i < size → GoodBody m scope (body i))
      → ((c : ℕ) → GoodNext m scope (k c)) → (n : List TypeTree) → Stay m n → (c : ℕ) (env : Env) → EnvTyped n scope env → Good n (Meaning.counted fuel i left body k c env)
  good_counted zero i left body k scope size is b o n le c env v w d = λ vars same. tt
  good_counted (suc fuel) i zero body k {m} scope size is b o n le c env v w d = o c env w (sound_down p m n w le d) (env_at scope env v d)
  good_counted (suc fuel) i (suc left) body k scope size is b o n le c env v w d =
      (b i (omega arith)).by n le c env _ v
      (λ c1 env1 z f v1. good_counted fuel (suc i) left body k scope size (omega arith) b o (vars_of z) (λ j s h. f.from j s (le j s h)) c1 env1 v1 z (sound_here p z f)) w d

  abbrev Part : Type 0
  Part = Ways → Env → (Env → Go) → Go

  -- what reads the element of a round
  record GoodGet (m : List TypeTree) (scope : List ℕ) (t : TypeTree) (i : ℕ) (get : ℕ → Ways → Env → Then Value → Go) : Type 0 where
    by : (n : List TypeTree) → Stay m n → (ws : Ways) (env : Env) (k : Then Value) → GoodWays n ws → EnvTyped n scope env → GoodThen n t k → Good n (get i ws env k)

  get_copied : (m : List TypeTree) (scope : List ℕ) (t : TypeTree) (i size site : ℕ) → InScope site scope → site_type p site ≡ array_of size t → i < size → GoodGet m scope t i (Meaning.read_copied site)
  get_copied m scope t i size site there is below = record {
    by = λ n le ws env k g v h w d.
        let l : LeadsToPart (vars_of w) (env site) (i ∷ []) t = (site_type p site, d.from (env site) (site_type p site) (v site there), leads_into [] (site_type p site) t size i is below) in
        λ vars e. (read_there w (env site) (i ∷ []) t d l vars e, h (read_at w (env site) (i ∷ [])) w d (read_typed p w (env site) (i ∷ []) t d l) vars e);
  }

  get_sliced : (m : List TypeTree) (scope : List ℕ) (t : TypeTree) (i ty : ℕ) (x : Value) → IsTyped p m (slice_of ty) x → type_named p ty ≡ t → i < slice_count x → GoodGet m scope t i (Meaning.read_sliced x)
  get_sliced m scope t i ty x n0 is below = record {
    by = λ n le ws env k g v h w d.
        let xs = more_typed p (slice_of ty) x m (vars_of w) (λ j s e. d.from j s (le j s e)) n0 in
        let path = slice_path x ++ (slice_first x + i) ∷ [] in
        let l = element_leads p (vars_of w) ty x i xs (let r = slice_has_room p (vars_of w) ty x xs in omega arith) in
        let lt = subst (λ r. LeadsToPart (vars_of w) (slice_variable x) path r) is l in
        λ vars e. (read_there w (slice_variable x) path t d lt vars e, h (read_at w (slice_variable x) path) w d (read_typed p w (slice_variable x) path t d lt) vars e);
  }

  get_pointed : (m : List TypeTree) (scope : List ℕ) (t : TypeTree) (i size a : ℕ) (at : Position) (x : Value) → IsTyped p m (pointer_to a) x → type_named p a ≡ array_of size t → i < size → GoodGet m scope t i (Meaning.read_pointed at x)
  get_pointed m scope t i size a at x n0 is below = record {
    by = λ n le ws env k g v h w d.
        good_or_panic (λ q. LeadsToPart (vars_of w) q.variable q.path (type_named p a)) ws env at (Meaning.pointed x) _ w g d
        (pointed_leads p (vars_of w) a x (more_typed p (pointer_to a) x m (vars_of w) (λ j s e. d.from j s (le j s e)) n0))
        (λ q l. let path = q.path ++ i ∷ [] in let lt : LeadsToPart (vars_of w) q.variable path t = (l.0, l.1, leads_into q.path l.0 t size i (subst (λ r. Leads l.0 q.path r) is l.2) below) in
        λ vars e. (read_there w q.variable path t d lt vars e, h (read_at w q.variable path) w d (read_typed p w q.variable path t d lt) vars e));
  }

  good_quit : {m : List TypeTree} (z : ℤ) (ws : Ways) (env : Env) (at : Position) → GoodWays m ws → Good m (Meaning.quit_with ws env at z)
  good_quit (pos n) ws env at g w d = good_when (nat_lt n 126) _ _ w (λ e vars same. tt) (λ e. g.panicked at _ env w d)
  good_quit (negsuc n) ws env at g w d = g.panicked at _ env w d

  -- ---- statements

  or_right : (a b : Bool) → b ≡ true → (a || b) ≡ true
  or_right true b e = refl
  or_right false b e = e

  and_right : (a b : Bool) → b ≡ false → (a && b) ≡ false
  and_right true b e = e
  and_right false b e = refl

  -- nothing ends a list of statements unless its first one does, or those after it
  ends_next : (st : St) (ss : Sts) → ends st ≡ false → ends_all ss ≡ false → ends_all (next st ss) ≡ false
  ends_next st done e f = e
  ends_next st (next r rs) e f = f

  abbrev can_fail : Option Ex → Bool
  can_fail None = false
  can_fail (Some e) = true

  for_fails : (sites : List ℕ) (test : Option Ex) (post body : Sts) → can_fail test ≡ true → ends (for_stmt sites test post body) ≡ false
  for_fails sites None post body e = absurd (true≢false (sym e))
  for_fails sites (Some x) post body e = refl

  for_breaks : (sites : List ℕ) (test : Option Ex) (post body : Sts) → breaks_all body ≡ true → ends (for_stmt sites test post body) ≡ false
  for_breaks sites None post body e = ap not e
  for_breaks sites (Some x) post body e = refl

  -- what is known of what `range` goes over, and of the number of rounds
  abbrev OverTyped : List TypeTree → TypeTree → Over → (size : ℕ) → Value → Type 0
  OverTyped m t (over_int e) size x = Unit {0}
  OverTyped m t (over_length n) size x = Unit {0}
  OverTyped m t (over_copy site e n) size x = size ≡ n
  OverTyped m t (over_slice e ty) size x = (size ≡ slice_count x) × IsTyped p m (slice_of ty) x
  OverTyped m t (over_pointer at e n ty) size x = (a : ℕ) × (size ≡ n) × (type_named p a ≡ array_of n t) × IsTyped p m (pointer_to a) x
  OverTyped m t (over_pointed n) size x = Unit {0}

  over_wider : (scope : List ℕ) (o : Over) → Wider scope (scope_over p scope o)
  over_wider scope (over_copy site e n) y i = inr i
  over_wider scope o y i = i

  -- in a function with these results, and `named` names for them
  module _ (wanted : List TypeTree) (named : ℕ) where
    -- what is returned: a value of each type, or nothing where the results have names
    abbrev Returned : List TypeTree → List Value → Type 0
    Returned m vs = EachTyped p m wanted vs ⊎ ((vs ≡ []) × (length wanted ≡ named))

    abbrev GoodReturn : List TypeTree → List ℕ → (List Value → Env → Go) → Type 0
    GoodReturn m scope r = (vs : List Value) (env : Env) (w : World) → Sound p m w → EnvTyped (vars_of w) scope env → Returned (vars_of w) vs → Fine w (r vs env w)

    -- the ways out of a statement: `leaves` where it has a `break`
    record GoodExits (looped leaves : Bool) (scope : List ℕ) (m : List TypeTree) (ws : Ways) : Type 0 where
      broken : leaves ≡ true → looped ≡ true → GoodNext m scope ws.broken
      continued : looped ≡ true → GoodNext m scope ws.continued
      returned : GoodReturn m scope ws.returned

    return_up : (m n : List TypeTree) (scope inside : List ℕ) (r : List Value → Env → Go) → Stay m n → Wider scope inside → GoodReturn m scope r → GoodReturn n inside r
    return_up m n scope inside r le wide h vs env w d v i = h vs env w (sound_down p m n w le d) (λ y s. v y (wide y s)) i

    exits_up : (looped leaves less : Bool) (m n : List TypeTree) (scope inside : List ℕ) (ws : Ways) → Stay m n → Wider scope inside → (less ≡ true → leaves ≡ true) → GoodExits looped leaves scope m ws → GoodExits looped less inside n ws
    exits_up looped leaves less m n scope inside ws le wide sub x = record {
      broken = λ l r env w d v. x.broken (sub l) r env w (sound_down p m n w le d) (λ y s. v y (wide y s));
      continued = λ r env w d v. x.continued r env w (sound_down p m n w le d) (λ y s. v y (wide y s));
      returned = return_up m n scope inside ws.returned le wide x.returned;
    }

    record GoodPart (looped leaves : Bool) (scope : List ℕ) (body : Part) : Type 0 where
      by : {m : List TypeTree} (ws : Ways) (env : Env) (k : Env → Go) → GoodWays m ws → GoodExits looped leaves scope m ws → EnvTyped m scope env → GoodNext m scope k → Good m (body ws env k)

    good_in_loop : {m : List TypeTree} (body : Part) (leaves : Bool) (scope : List ℕ) (ws : Ways) (out again : Env → Go) (env : Env) → GoodPart true leaves scope body → GoodWays m ws → GoodReturn m scope ws.returned
        → (leaves ≡ true → GoodNext m scope out) → GoodNext m scope again → EnvTyped m scope env → Good m (Meaning.in_loop body ws out again env)
    good_in_loop body leaves scope ws out again env b g gr ho ha v w d =
        b.by (record { broken = out; continued = again; returned = ws.returned; panicked = ws.panicked; held = ws.held; call = ws.call }) env again
        (record { globals = g.globals; panicked = g.panicked; held = g.held }) (record { broken = λ l r. ho l; continued = λ r. ha; returned = gr }) v ha w d

    good_next_count : {m : List TypeTree} (scope : List ℕ) (c : ℕ) (j : ℕ → Env → Go) → ((d : ℕ) → GoodNext m scope (j d)) → GoodNext m scope (Meaning.to_next_count c j)
    good_next_count scope c j h env w d v = h (length w.store) env w d v

    module _ (items : ℕ → Item) where
      good_next : {m : List TypeTree} (c : ℕ) (sites : List ℕ) (leaves : Bool) (scope : List ℕ) (post : Part) (ws : Ways) (j : ℕ → Env → Go) → AllInScope scope sites → GoodPart false leaves scope post → GoodWays m ws
          → GoodReturn m scope ws.returned → ((d : ℕ) → GoodNext m scope (j d)) → GoodNext m scope (Meaning.to_next (around items) c sites post ws j)
      good_next {m} c sites leaves scope post ws j i q g gr h env w d v =
          good_renew items sites ws.call scope env (λ env1. post ws env1 (j (length w.store))) i v
          (λ env1 u f v1. let e = down d f in q.by ws env1 (j (length w.store)) (ways_at ws g e)
          (record { broken = λ l r. absurd (true≢false (sym r)); continued = λ r. absurd (true≢false (sym r)); returned = return_up m (vars_of u) scope scope ws.returned e.from (λ y s. s) gr })
          v1 (next_at scope (j (length w.store)) (h (length w.store)) e) u (sound_here p u f)) w (sound_here p w d)

    module _ (items : ℕ → Item) (calls : Calls) (gc : GoodCalls calls) (fuel : ℕ) where
      good_test : (o : Option Ex) {m : List TypeTree} (scope : List ℕ) (ws : Ways) (env : Env) (k : Then Value) → TestHas p scope o → GoodWays m ws → EnvTyped m scope env
          → ((v : Value) (w : World) → Sound p m w → (Meaning.is_true v ≡ false → can_fail o ≡ true) → Fine w (k v w)) → Good m (Meaning.test_of (around items) calls o ws env k)
      good_test None scope ws env k b g v h w d = h (bool true) w d (λ e. sym e)
      good_test (Some e) scope ws env k b g v h w d = good_ev items calls gc e scope bools ws env _ b g v (λ x u c n. h x u c (λ q. refl)) w d

      good_begin : (o : Over) {m : List TypeTree} (scope : List ℕ) (t : TypeTree) (value : Left) (ws : Ways) (env : Env) (k : ℕ → Value → Ways → Env → Go) → OverHas p scope t value o → GoodWays m ws → GoodReturn m scope ws.returned → EnvTyped m scope env
          → ((size : ℕ) (x : Value) (ws1 : Ways) (env1 : Env) (w : World) → Sound p m w → GoodWays (vars_of w) ws1 → GoodReturn (vars_of w) scope ws1.returned → EnvTyped (vars_of w) (scope_over p scope o) env1 → OverTyped (vars_of w) t o size x
          → Fine w (k size x ws1 env1 w)) → Good m (Meaning.begin_range (around items) calls fuel o ws env k)
      good_begin (over_int e) {m} scope t value ws env k b g r v h w d =
          good_ev items calls gc e scope ints ws env _ b.1 g v (λ x u c n. h _ x (holding ws e x) env u c (good_holding ws scope ints e x b.1 (ways_at ws g c) n) (return_up m (vars_of u) scope scope ws.returned c.from (λ y s. s) r) (env_at scope env v c) tt) w d
      good_begin (over_length n) {m} scope t value ws env k b g r v h w d = h n _ ws env w d (ways_at ws g d) (return_up m (vars_of w) scope scope ws.returned d.from (λ y s. s) r) (env_at scope env v d) tt
      good_begin (over_copy site e n) {m} scope t value ws env k b g r v h w d =
          good_ev items calls gc e scope (array_of n t) ws env _ b.1 g v (λ x u c q.
          let o = born_with items u scope env ws.call site x (as_type (vars_of u) (site_type p site) (array_of n t) x b.0 q) (env_at scope env v c) (sound_here p u c) _ refl in let f = down c o.0 in
          λ vars i. (
            site_type p site,
            inl refl,
            typed_words p (site_type p site) x (vars_of u) (as_type (vars_of u) (site_type p site) (array_of n t) x b.0 q),
            h n x ws (Meaning.with_home env site (length u.store)) _ f (ways_at ws g f) (return_up m _ scope scope ws.returned f.from (λ y s. s) r) o.1 refl
                (vars ++ site_type p site ∷ []) (born_vars u (Meaning.new_cell ws.call site (site_type p site) x) vars i),
          )) w d
      good_begin (over_slice e ty) {m} scope t value ws env k b g r v h w d =
          good_ev items calls gc e scope (slice_of ty) ws env _ b.1 g v (λ x u c n. h _ x (holding ws e x) env u c (good_holding ws scope (slice_of ty) e x b.1 (ways_at ws g c) n) (return_up m (vars_of u) scope scope ws.returned c.from (λ y s. s) r)
          (env_at scope env v c) (refl, n)) w d
      good_begin (over_pointer at e size ty) {m} scope t value ws env k b g r v h w d =
          good_ev items calls gc e scope (pointer_to b.1.0) ws env _ b.1.2 g v (λ x u c n. h size x (holding ws e x) env u c (good_holding ws scope (pointer_to b.1.0) e x b.1.2 (ways_at ws g c) n)
          (return_up m (vars_of u) scope scope ws.returned c.from (λ y s. s) r) (env_at scope env v c) (b.1.0, refl, b.1.1, n)) w d
      good_begin (over_pointed n) {m} scope t value ws env k b g r v h w d = h n _ ws env w d (ways_at ws g d) (return_up m (vars_of w) scope scope ws.returned d.from (λ y s. s) r) (env_at scope env v d) tt

      -- a round of `range`, with a body in the scope behind the left sides
      module _ (body : Part) (leaves : Bool) (inside : List ℕ) (part : GoodPart true leaves inside body) (out : ℕ → Env → Go) where
        good_index_round : {m : List TypeTree} (scope : List ℕ) (key : Left) (ws : Ways) (i : ℕ) → LeftHas p scope ints key → scope_behind scope (key ∷ blank ∷ []) ≡ inside → GoodWays m ws → GoodReturn m scope ws.returned → ((c : ℕ) → GoodNext m scope (out c))
            → GoodBody m scope (Meaning.index_round (around items) calls fuel key body ws out i)
        good_index_round {m} scope key ws i b is g r o =
            let wide : Wider scope inside = subst (λ x. Wider scope x) is (behind_wider scope (key ∷ blank ∷ [])) in record {
              by = λ n le c env j v h w d. let gn = ways_up m n ws le g in
                  good_ready items calls gc key scope ints ws env _ b gn v (λ a u f q e. good_land items a (int (pos i)) scope ints ws env _ (ways_at ws gn f) (env_at scope env v f) q tt
                  (λ env1 z l v1. let t = down f l in
                  good_in_loop body leaves inside ws (out c) (Meaning.to_next_count c j) env1 part (ways_at ws gn t) (return_up m (vars_of z) scope inside ws.returned (λ y s x. t.from y s (le y s x)) wide r)
                  (λ q2. next_inside (vars_of z) scope inside (out c) wide (λ env2 y x v2. o c env2 y (sound_down p m n y le (down t x)) v2))
                  (next_inside (vars_of z) scope inside (Meaning.to_next_count c j) wide (good_next_count scope c j (λ c1. next_at scope (j c1) (h c1) t)))
                  (subst (λ s. EnvTyped (vars_of z) s env1) (sym (e scope (blank ∷ [])) ∙ is) v1) z (sound_here p z l)) u (sound_here p u f)) w d;
            }

        good_reading_round : {m : List TypeTree} (scope : List ℕ) (t : TypeTree) (get : ℕ → Ways → Env → Then Value → Go) (key value : Left) (ws : Ways) (i : ℕ) → GoodGet m scope t i get → LeftHas p scope ints key → LeftHas p scope t value
            → scope_behind scope (key ∷ value ∷ []) ≡ inside → GoodWays m ws → GoodReturn m scope ws.returned → ((c : ℕ) → GoodNext m scope (out c)) → GoodBody m scope (Meaning.reading_round (around items) calls fuel get key value body ws out i)
        good_reading_round {m} scope t get key value ws i gg bk bv is g r o =
            let wide : Wider scope inside = subst (λ x. Wider scope x) is (behind_wider scope (key ∷ value ∷ [])) in record {
              by = λ n le c env j v h w d. let gn = ways_up m n ws le g in
                  good_ready_all items calls gc (key ∷ value ∷ []) scope (ints ∷ t ∷ []) ws env
                  (λ those ws1. get i ws env (λ y. Meaning.land_all (around items) those (int (pos i) ∷ y ∷ []) ws env (λ env1. Meaning.in_loop body ws (out c) (Meaning.to_next_count c j) env1)))
                  (bk, (bv, tt)) gn v (λ those ws1 u f q g1 e. gg.by (vars_of u) (λ y s x. f.from y s (le y s x)) ws env _ (ways_at ws gn f) (env_at scope env v f)
                  (λ y a l ty. let fl = down f l in good_land_all items those (int (pos i) ∷ y ∷ []) scope (ints ∷ t ∷ []) ws env _ (ways_at ws gn fl) (env_at scope env v fl)
                  (landings_more (ints ∷ t ∷ []) those (vars_of u) (vars_of a) l.from q) (tt, (ty, tt))
                  (λ env1 z l2 v1. let x = down fl l2 in
                  good_in_loop body leaves inside ws (out c) (Meaning.to_next_count c j) env1 part (ways_at ws gn x) (return_up m (vars_of z) scope inside ws.returned (λ y2 s x2. x.from y2 s (le y2 s x2)) wide r)
                  (λ q2. next_inside (vars_of z) scope inside (out c) wide (λ env2 y2 x2 v2. o c env2 y2 (sound_down p m n y2 le (down x x2)) v2))
                  (next_inside (vars_of z) scope inside (Meaning.to_next_count c j) wide (good_next_count scope c j (λ c1. next_at scope (j c1) (h c1) x)))
                  (subst (λ s. EnvTyped (vars_of z) s env1) (sym (e scope) ∙ is) v1) z (sound_here p z l2)) a (sound_here p a l)) u (sound_here p u f)) w d;
            }

        -- without elements nothing is left on the left side for them
        left_blank : (scope : List ℕ) (key value : Left) → value ≡ blank → scope_behind scope (key ∷ value ∷ []) ≡ inside → scope_behind scope (key ∷ blank ∷ []) ≡ inside
        left_blank scope key value e is = ap (λ l. scope_behind scope (key ∷ l ∷ [])) (sym e) ∙ is

        good_round : (o : Over) {m : List TypeTree} (outer : List ℕ) (t : TypeTree) (key value : Left) (size : ℕ) (x : Value) (ws : Ways) (i : ℕ) → i < size → OverHas p outer t value o → OverTyped m t o size x
            → LeftHas p (scope_over p outer o) ints key → LeftHas p (scope_over p outer o) t value → scope_behind (scope_over p outer o) (key ∷ value ∷ []) ≡ inside → GoodWays m ws → GoodReturn m (scope_over p outer o) ws.returned
            → ((c : ℕ) → GoodNext m (scope_over p outer o) (out c)) → GoodBody m (scope_over p outer o) (Meaning.range_round (around items) calls fuel o x key value body ws out i)
        good_round (over_int e) outer t key value size x ws i l b n bk bv is g r o = good_index_round outer key ws i bk (left_blank outer key value b.0 is) g r o
        good_round (over_length k) outer t key value size x ws i l b n bk bv is g r o = good_index_round outer key ws i bk (left_blank outer key value b is) g r o
        good_round (over_copy site e k) {m} outer t key value size x ws i l b n bk bv is g r o =
            good_reading_round (site ∷ outer) t (Meaning.read_copied site) key value ws i (get_copied m (site ∷ outer) t i k site (inl refl) b.0 (omega arith)) bk bv is g r o
        good_round (over_slice e ty) outer t key blank size x ws i l b n bk bv is g r o = good_index_round outer key ws i bk is g r o
        good_round (over_slice e ty) {m} outer t key value size x ws i l b n bk bv is g r o =
            good_reading_round outer t (Meaning.read_sliced x) key value ws i (get_sliced m outer t i ty x n.1 b.0 (let e = n.0 in omega arith)) bk bv is g r o
        good_round (over_pointer at e k ty) outer t key blank size x ws i l b n bk bv is g r o = good_index_round outer key ws i bk is g r o
        good_round (over_pointer at e k ty) {m} outer t key value size x ws i l b n bk bv is g r o =
            good_reading_round outer t (Meaning.read_pointed at x) key value ws i (get_pointed m outer t i k n.0 at x n.3 n.2 (let e = n.1 in omega arith)) bk bv is g r o
        good_round (over_pointed k) outer t key value size x ws i l b n bk bv is g r o = good_index_round outer key ws i bk (left_blank outer key value b is) g r o

      mutual
        good_exec : (st : St) {m : List TypeTree} (looped : Bool) (scope : List ℕ) (ws : Ways) (env : Env) (k : Env → Go) → StatementIsTyped p wanted named looped scope st → GoodWays m ws → GoodExits looped (breaks st) scope m ws → EnvTyped m scope env
            → (ends st ≡ false → GoodNext m (scope_after scope st) k) → Good m (Meaning.exec (around items) calls fuel st ws env k)
        good_exec (declare sites) looped scope ws env k b g x v h w d = good_zeros items sites ws.call scope env k v (h refl) w d
        good_exec (assign ls es) looped scope ws env k b g x v h w d =
            good_ready_all items calls gc ls scope b.0 ws env _ b.1 g v (λ those ws1 u c q g1 e. good_evs items calls gc es scope b.0 ws1 env _ b.2 g1 (env_at scope env v c)
            (λ vs z f n. let a = down c f in good_land_all items those vs scope b.0 ws env k (ways_at ws g a) (env_at scope env v a) (landings_more b.0 those (vars_of u) (vars_of z) f.from q) n
            (subst (λ s. GoodNext (vars_of z) s k) (e scope) (next_at (scope_behind scope ls) k (h refl) a)) z (sound_here p z f)) u (sound_here p u c)) w d
        good_exec (update at q op e) looped scope ws env k b g x v h w d =
            good_aim items calls gc q scope ints ws env _ b.1 g v (λ a u c n. good_settle a ints ws env _ (ways_at ws g c) n (λ o z f l.
            let t = down c f in let y = read_at z o.variable o.path in let ty = read_typed p z o.variable o.path ints f l in
            let base = Meaning.base_values ws.call a.base in
            λ vars same. (
              read_there z o.variable o.path ints f l vars same,
              good_ev items calls gc e scope ints (holding (holding_all ws base) (read q) y) env _ b.2
                  (good_holding (holding_all ws base) scope ints (read q) y b.1 (good_holding_all ws base (ways_at ws g t) (base_values_typed ws.call a.base (vars_of z) n.0 (base_more a.base (vars_of u) (vars_of z) n.0 f.from n.1))) ty) (env_at scope env v t)
                  (λ y1 z1 r i. let t1 = down t r in
                  good_or_panic (IsTyped p (vars_of z1) ints) ws env at (binary_of op y y1) _ z1 g t1 (of_numbers_typed p (vars_of z1) op y y1 b.0 (more_typed p ints y (vars_of z) (vars_of z1) r.from ty) i)
                  (λ y2 i2. let l1 = leads_more (vars_of z) (vars_of z1) o.variable o.path ints r.from l in let e1 = wrote z1 o.variable o.path ints y2 l1 i2 t1 in
                  λ vars1 same1. (value_there z1 o.variable o.path ints y2 l1 i2 vars1 same1, h refl env (written z1 o.variable o.path y2) e1 (env_at scope env v e1) vars1 (written_vars z1 o.variable o.path y2 vars1 same1)))) z (sound_here p z f) vars same,
            )) u (sound_here p u c)) w d
        good_exec (bump at q op) looped scope ws env k b g x v h w d =
            good_aim items calls gc q scope ints ws env _ b.1 g v (λ a u c n. good_settle a ints ws env _ (ways_at ws g c) n (λ o z f l.
            let t = down c f in let y = read_at z o.variable o.path in
            λ vars same. (
              read_there z o.variable o.path ints f l vars same,
              good_or_panic (IsTyped p (vars_of z) ints) ws env at (binary_of op y (int (pos 1))) _ z g t (of_numbers_typed p (vars_of z) op y (int (pos 1)) b.0 (read_typed p z o.variable o.path ints f l) tt)
                  (λ y2 i2. let e1 = wrote z o.variable o.path ints y2 l i2 t in
                  λ vars1 same1. (value_there z o.variable o.path ints y2 l i2 vars1 same1, h refl env (written z o.variable o.path y2) e1 (env_at scope env v e1) vars1 (written_vars z o.variable o.path y2 vars1 same1))) vars same,
            )) u (sound_here p u c)) w d
        good_exec (discard es) looped scope ws env k b g x v h w d = good_evs items calls gc es scope b.0 ws env _ b.1 g v (λ vs u c n. h refl env u c (env_at scope env v c)) w d
        good_exec (block ss) looped scope ws env k b g x v h w d = good_exec_all ss looped scope ws env k b g x v h w d
        good_exec (if_stmt e s r) {m} looped scope ws env k b g x v h w d =
            good_ev items calls gc e scope bools ws env _ b.0 g v (λ y u c n. good_when (Meaning.is_true y) _ _ u
            (λ q. good_exec_all s looped scope ws env k b.1 g (exits_up looped (breaks_all s || breaks_all r) (breaks_all s) m m scope scope ws (λ i j l. l) (λ i j. j) (λ l. ap (λ z. z || breaks_all r) l) x) v (λ l. h (ap (λ z. z && ends_all r) l)) u c)
            (λ q. good_exec_all r looped scope ws env k b.2 g (exits_up looped (breaks_all s || breaks_all r) (breaks_all r) m m scope scope ws (λ i j l. l) (λ i j. j) (or_right (breaks_all s) (breaks_all r)) x) v (λ l. h (and_right (ends_all s) (ends_all r) l)) u c)) w d
        good_exec (for_stmt sites test post body) {m} looped scope ws env k b g x v h w d =
            let run = Meaning.exec_all (around items) calls fuel in
            good_rounds fuel (Meaning.test_of (around items) calls test ws) (λ n1 env1 j. Meaning.in_loop (run body) ws (Meaning.outside k n1) (Meaning.to_next (around items) n1 sites (run post) ws j) env1) (Meaning.outside k) scope (can_fail test)
            (record { by = λ n le e j v1 h1. good_test test scope ws e j b.1 (ways_up m n ws le g) v1 h1 })
            (record {
              by = λ n le c e j v1 h1.
                  good_in_loop (run body) (breaks_all body) scope ws (Meaning.outside k c) (Meaning.to_next (around items) c sites (run post) ws j) e
                  (record { by = λ ws1 env1 k1 g1 x1 v2 h2. good_exec_all body true scope ws1 env1 k1 b.3 g1 x1 v2 (λ q. h2) }) (ways_up m n ws le g) (return_up m n scope scope ws.returned le (λ y s. s) x.returned)
                  (λ l env2 y r v2. h (for_breaks sites test post body l) env2 y (sound_down p m n y le r) v2)
                  (good_next items c sites (breaks_all post) scope (run post) ws j b.0 (record { by = λ ws1 env1 k1 g1 x1 v2 h2. good_exec_all post false scope ws1 env1 k1 b.2 g1 x1 v2 (λ q. h2) }) (ways_up m n ws le g)
                  (return_up m n scope scope ws.returned le (λ y s. s) x.returned) h1) v1;
            })
            (λ q c env2 y r v2. h (for_fails sites test post body q) env2 y r v2) m (λ i j l. l) (length w.store - length sites) env v w d
        good_exec (range over key value body) {m} looped scope ws env k b g x v h w d =
            let run = Meaning.exec_all (around items) calls fuel body in
            let outer = scope_over p scope over in
            let inside = scope_behind outer (key ∷ value ∷ []) in
            let wide = over_wider scope over in
            good_begin over scope b.0 value ws env _ b.1 g x.returned v (λ size y ws1 env1 u c g1 r1 v1 n.
            let after : (j : ℕ) → GoodNext (vars_of u) outer (Meaning.outside k j) = λ j. next_inside (vars_of u) scope outer k wide (next_at scope k (h refl) c) in
            good_counted fuel 0 size (Meaning.range_round (around items) calls fuel over y key value run ws1 (Meaning.outside k)) (Meaning.outside k) outer size (omega arith)
            (λ i l. good_round run (breaks_all body) inside (record { by = λ ws2 env2 k2 g2 x2 v2 h2. good_exec_all body true inside ws2 env2 k2 b.4 g2 x2 v2 (λ q. h2) }) (Meaning.outside k) over scope b.0 key value size y ws1 i l b.1 n b.2 b.3 refl g1
            (return_up (vars_of u) (vars_of u) scope outer ws1.returned (λ j s q. q) wide r1) after) after (vars_of u) (λ j s q. q) (length u.store) env1 v1 u (sound_here p u c)) w d
        good_exec break_stmt looped scope ws env k b g x v h w d = x.broken refl b env w d (env_at scope env v d)
        good_exec continue_stmt looped scope ws env k b g x v h w d = x.continued b env w d (env_at scope env v d)
        good_exec (return_stmt none) looped scope ws env k b g x v h w d = x.returned [] env w d (env_at scope env v d) (inr (refl, b))
        good_exec (return_stmt es) looped scope ws env k b g x v h w d = good_evs items calls gc es scope wanted ws env (λ vs. ws.returned vs env) b g v (λ vs u c n. x.returned vs env u c (env_at scope env v c) (inl n)) w d
        good_exec (print ln qs) looped scope ws env k b g x v h w d =
            good_pieces items calls gc qs scope ws env _ b g v (λ bs u c. good_emit ln bs (k env) (λ z e. h refl env z (down c e) (env_at scope env v (down c e))) u (sound_here p u c)) w d
        good_exec (panic at (text number)) looped scope ws env k b g x v h w d = g.panicked at _ env w d
        good_exec (panic at (shown t e)) looped scope ws env k b g x v h w d = good_ev items calls gc e scope t ws env _ b g v (λ y u c n. g.panicked at _ env u c) w d
        good_exec (exit at e) looped scope ws env k b g x v h w d = good_ev items calls gc e scope ints ws env _ b g v (λ y u c n. good_quit (Meaning.int_of y) ws env at g u c) w d

        good_exec_all : (ss : Sts) {m : List TypeTree} (looped : Bool) (scope : List ℕ) (ws : Ways) (env : Env) (k : Env → Go) → StatementsAreTyped p wanted named looped scope ss → GoodWays m ws → GoodExits looped (breaks_all ss) scope m ws → EnvTyped m scope env
            → (ends_all ss ≡ false → GoodNext m scope k) → Good m (Meaning.exec_all (around items) calls fuel ss ws env k)
        good_exec_all done {m} looped scope ws env k b g x v h w d vars same = (d.cells, held_more p ws.held m (vars_of w) d.from g.held, h refl env w d (env_at scope env v d) vars same)
        good_exec_all (next st ss) {m} looped scope ws env k b g x v h w d vars same = (
          d.cells,
          held_more p ws.held m (vars_of w) d.from g.held,
          good_exec st looped scope ws env (λ env1. Meaning.exec_all (around items) calls fuel ss ws env1 k) b.0 g
              (exits_up looped (breaks st || breaks_all ss) (breaks st) m m scope scope ws (λ i j l. l) (λ i j. j) (λ l. ap (λ z. z || breaks_all ss) l) x) v
              (λ e env1 u c v1. good_exec_all ss looped (scope_after scope st) ws env1 k b.1 (ways_at ws g c)
              (exits_up looped (breaks st || breaks_all ss) (breaks_all ss) m (vars_of u) scope (scope_after scope st) ws c.from (after_wider scope st) (or_right (breaks st) (breaks_all ss)) x) v1
              (λ f. next_inside (vars_of u) scope (scope_after scope st) k (after_wider scope st) (next_at scope k (h (ends_next st ss e f)) c)) u (sound_here p u c)) w d vars same,
        )

  -- ---- calls

  good_writes : (sites : List ℕ) (vs : List Value) {m : List TypeTree} (scope : List ℕ) (env : Env) (g : Go) → AllInScope scope sites → EnvTyped m scope env → EachTyped p m (map (site_type p) sites) vs → Good m g
      → Good m (Meaning.write_results sites vs env g)
  good_writes [] vs scope env g i v n h w d = h w d
  good_writes (site ∷ sites) [] scope env g i v n h w d = h w d
  good_writes (site ∷ sites) (x ∷ vs) {m} scope env g i v n h w d =
      let l : LeadsToPart m (env site) [] (site_type p site) = (site_type p site, v site i.0, refl) in
      λ vars e. (
        value_there w (env site) [] (site_type p site) x (leads_more m (vars_of w) (env site) [] (site_type p site) d.from l) (more_typed p (site_type p site) x m (vars_of w) d.from n.0) vars e,
        good_writes sites vs scope env g i.1 v n.1 h (written w (env site) [] x) (written_sound p m w (env site) [] (site_type p site) x l n.0 d) vars (written_vars w (env site) [] x vars e),
      )

  good_reads : (sites : List ℕ) {m : List TypeTree} (scope : List ℕ) (env : Env) (k : Then (List Value)) → AllInScope scope sites → EnvTyped m scope env → GoodList m (map (site_type p) sites) k → Good m (Meaning.read_results sites env k)
  good_reads [] scope env k i v h w d = h [] w d tt
  good_reads (site ∷ sites) scope env k i v h w d =
      let x = read_at w (env site) [] in
      let l : LeadsToPart (vars_of w) (env site) [] (site_type p site) = (site_type p site, d.from (env site) (site_type p site) (v site i.0), refl) in
      let n = read_typed p w (env site) [] (site_type p site) d l in
      λ vars e. (
        read_there w (env site) [] (site_type p site) d l vars e,
        good_reads sites scope env (λ vs. k (x ∷ vs)) i.1 (env_at scope env v d) (λ vs u f q. h (x ∷ vs) u (down d f) (more_typed p (site_type p site) x (vars_of w) (vars_of u) f.from n, q)) w (sound_here p w d) vars e,
      )

  some_none : {A : Type 0} {x : A} {xs : List A} → x ∷ xs ≡ [] → ⊥
  some_none h = cc

  good_leave : (named : List ℕ) {m : List TypeTree} (wanted : List TypeTree) (scope : List ℕ) (c : ℕ) (k : Then (List Value)) → AllInScope scope named → (named ≡ []) ⊎ (map (site_type p) named ≡ wanted) → GoodList m wanted k
      → GoodReturn wanted (length named) m scope (Meaning.leave named c k)
  good_leave [] wanted scope c k i names h vs env w d v (inl n) = h vs w d n
  good_leave [] [] scope c k i names h vs env w d v (inr n) = h vs w d (subst (λ us. EachTyped p (vars_of w) [] us) (sym n.0) tt)
  good_leave [] (t ∷ ts) scope c k i names h vs env w d v (inr n) = absurd (let e : suc (length ts) ≡ 0 = n.1 in omega arith)
  good_leave (site ∷ sites) wanted scope c k i (inl e) h vs env w d v n = absurd (some_none e)
  good_leave (site ∷ sites) {m} wanted scope c k i (inr e) h vs env w d v n = write n
    where
      read_back : Good (vars_of w) (Meaning.read_results (site ∷ sites) env (Meaning.leave_with c k))
      read_back u f =
          good_reads (site ∷ sites) scope env (Meaning.leave_with c k) i (env_at scope env v f) (λ rs z a q. h rs z (down d (down f a)) (subst (λ r. EachTyped p (vars_of z) r rs) e q)) u (sound_here p u f)

      write : Returned wanted (length (site ∷ sites)) (vars_of w) vs → Fine w (Meaning.leave (site ∷ sites) c k vs env w)
      write (inl q) =
          good_writes (site ∷ sites) vs scope env (Meaning.read_results (site ∷ sites) env (Meaning.leave_with c k)) i v (subst (λ r. EachTyped p (vars_of w) r vs) (sym e) q) read_back w (sound_here p w d)
      write (inr q) =
          subst (λ us. Fine w (Meaning.leave (site ∷ sites) c k us env w)) (sym q.0) (read_back w (sound_here p w d))

  module _ (items : ℕ → Item) (typed : (f : ℕ) (func : Func) → slice_get p.funcs f ≡ Some func → FunctionIsTyped p func) where
    good_body : (calls : Calls) (gc : GoodCalls calls) (fuel f : ℕ) (func : Func) {m : List TypeTree} (vs : List Value) (ws : Ways) (env : Env) (k : Then (List Value)) → slice_get p.funcs f ≡ Some func → GoodWays m ws
        → EachTyped p m func.param_types vs → GoodList m func.results k → Good m (Meaning.run_body (around items) p.funcs calls fuel f (Some func) vs ws env k)
    good_body calls gc fuel f func {m} vs ws env k is g n h w d =
        let c = length w.store in
        let t = typed f func is in
        let given = each_more p func.param_types vs m (vars_of w) d.from n in
        let scope = scope_in func in
        let first = params_scope [] func.params in
        let inside : Env → Go = λ env2. Meaning.exec_all (around items) calls fuel func.body (Meaning.ways_in func.named c ws env k) env2 (Meaning.leave func.named c k []) in
        let entry : Env → Go = λ env1. Meaning.bear_zeros (around items) c func.named env1 inside in
        let back : GoodReturn func.results (length func.named) m scope (Meaning.leave func.named c k) = good_leave func.named func.results scope c k (named_in first func.named) t.names h in λ vars same. (
          d.cells,
          (f, func, is, given),
          good_params items func.params vs c [] func.param_types (λ x. 0) entry t.params (λ site i. absurd i) given
              (λ env1 u a v1. good_zeros items func.named c first env1 inside v1
              (λ env2 z e v2. let q = down d (down a e) in
              let returned = return_up func.results (length func.named) m (vars_of z) scope scope (Meaning.leave func.named c k) q.from (λ y i. i) back in
              good_exec_all func.results (length func.named) items calls gc fuel func.body false scope (Meaning.ways_in func.named c ws env k) env2 (Meaning.leave func.named c k []) t.body
              (record {
                globals = λ x l. q.from x (global_type p x) (g.globals x l);
                panicked = λ at x e1 y r. g.panicked at x env y (down q r);
                held = held_more p ws.held m (vars_of z) q.from g.held;
              })
              (record { broken = λ l r. absurd (true≢false (sym r)); continued = λ r. absurd (true≢false (sym r)); returned = returned }) v2
              (λ o env3 y r v3. at_end func t o (vars_of y) (λ b. returned [] env3 y r v3 b)) z (sound_here p z e)) u (sound_here p u a)) w (sound_here p w d) vars same,
        )
      where
        at_end : (func : Func) → FunctionIsTyped p func → ends_all func.body ≡ false → (m : List TypeTree) {X : Type 0} → (Returned func.results (length func.named) m [] → X) → X
        at_end func t o m {X} f = by t.end
          where
            by : (func.results ≡ []) ⊎ (ends_all func.body ≡ true) → X
            by (inl e) = f (inl (subst (λ r. EachTyped p m r []) (sym e) tt))
            by (inr e) = absurd (true≢false (sym e ∙ o))

    good_calls : (fuel : ℕ) → GoodCalls (Meaning.call_at (around items) p.funcs fuel)
    good_calls zero = record { by = λ f func vs ws env k is g n h w d vars same. tt }
    good_calls (suc fuel) = record {
      by = λ {m} f func vs ws env k is g n h.
          subst (λ o. Good m (Meaning.run_body (around items) p.funcs (Meaning.call_at (around items) p.funcs fuel) (suc fuel) f o vs ws env k)) (sym is)
          (good_body (Meaning.call_at (around items) p.funcs fuel) (good_calls fuel) (suc fuel) f func vs ws env k is g n h);
    }

  -- ---- whole runs

  -- the first c package variables are born, and these are the others
  record Begun (c : ℕ) (gs : List (ℕ × Value)) (w : World) : Type 0 where
    sound : Sound p [] w
    long : length w.store ≡ c
    count : c + length gs ≡ length p.globals
    there : (g : ℕ) → g < c → slice_get (vars_of w) g ≡ Some (global_type p g)
    others : (i j : ℕ) → j ≡ c + i → get_or gs i (0, int (pos 0)) ≡ get_or p.globals j (0, int (pos 0))

  born_next : (c site : ℕ) (x : Value) (gs : List (ℕ × Value)) (w : World) → IsTyped p [] (site_type p site) x → Begun c ((site, x) ∷ gs) w → Begun (suc c) gs (born w (Meaning.new_cell 0 site (site_type p site) x))
  born_next c site x gs w n b =
      let cell = Meaning.new_cell 0 site (site_type p site) x in
      let o = born_sound p [] w cell n b.sound in
      let stay = stay_born w.store cell in
      record {
        sound = o.0;
        long = let l = b.long in omega (arith, length-append w.store (cell ∷ []));
        count = let l = b.count in omega arith;
        there = λ g below. by stay o.1 g below (nat_eq g c) refl;
        others = λ i j e. b.others (suc i) j (omega arith);
      }
    where
      last : Cell
      last = Meaning.new_cell 0 site (site_type p site) x

      by : Stay (vars_of w) (vars_of (born w last)) → slice_get (vars_of (born w last)) (length w.store) ≡ Some (site_type p site) → (g : ℕ) → g < suc c → (r : Bool) → nat_eq g c ≡ r → slice_get (vars_of (born w last)) g ≡ Some (global_type p g)
      by stay there g below true e =
          let q : g ≡ c = eqb-true g c e in
          let z : length w.store ≡ g = b.long ∙ sym q in
          let s : site ≡ (get_or p.globals g (0, int (pos 0))).0 = ap (λ y. y.0) (b.others 0 g (omega arith)) in
          subst (λ y. slice_get (vars_of (born w last)) g ≡ Some (site_type p y)) s (subst (λ y. slice_get (vars_of (born w last)) y ≡ Some (site_type p site)) z there)
      by stay there g below false e = let q = eqb-false g c e in let l : g < c = omega arith in stay g (global_type p g) (b.there g l)

  good_globals : (items : ℕ → Item) (gs : List (ℕ × Value)) (h : Go) (c : ℕ) → GlobalsHave p gs → ((w : World) → Sound p [] w → ((g : ℕ) → g < length p.globals → slice_get (vars_of w) g ≡ Some (global_type p g)) → Fine w (h w))
      → (w : World) → Begun c gs w → Fine w (Meaning.bear_globals (around items) gs h w)
  good_globals items [] h c b g w o = g w o.sound (λ x l. o.there x (let q = o.count in omega arith))
  good_globals items ((site, x) ∷ gs) h c b g w o =
      let n = nowhere_typed p (site_type p site) x [] b.0 b.1 in
      let cell = Meaning.new_cell 0 site (site_type p site) x in
      λ vars e. (
        site_type p site,
        inl refl,
        typed_words p (site_type p site) x [] n,
        good_globals items gs h (suc c) b.2 g (born w cell) (born_next c site x gs w n o) (vars ++ site_type p site ∷ []) (born_vars w cell vars e),
      )

run_typed : (items : ℕ → Item) (p : Program) (n : ℕ) → IsWellTyped p → RunTyped p [] (trace items p n)
run_typed items p n good =
    let (func, is, takes, gives) = good.main in
    good_globals p items p.globals _ 0 good.globals
    (λ w s there. (good_calls p items good.functions (suc n)).by {m = vars_of w} p.main func [] Meaning.at_top (λ x. 0) (λ rs. Meaning.stop (Exit 0)) is
    (record { globals = there; panicked = λ at f e u d vars same. tt; held = tt })
    (subst (λ ts. EachTyped p (vars_of w) ts []) (sym takes) tt) (λ rs u d h vars same. tt) w (sound_here p w s))
    Meaning.beginning
    (record {
      sound = record { from = λ x t h. h; cells = tt };
      long = refl;
      count = omega arith;
      there = λ g l. absurd (omega arith);
      others = λ i j e. let q : j ≡ i = omega arith in sym (ap (λ y. get_or p.globals y (0, int (pos 0))) q);
    }) [] refl

pub states_are_typed : StatesAreTyped
states_are_typed items p n good = states_typed p (trace items p n) [] (run_typed items p n good)

pub accesses_are_there : AccessesAreThere
accesses_are_there items p n good = accesses_fit p (trace items p n) [] (run_typed items p n good)
