-- In each state of a run pointers and slices name variables that are there: a line for each form of syntax.
use Rattle.std.proofs.Common.{◌≡◌, refl, ℕ, zero, suc, ◌+◌, ◌*◌, ◌-◌, ◌<◌, ◌≤◌, List, [], ◌∷◌, ◌++◌, Option, Some, None, Result, Ok, Err, Bool, true, false, ℤ, pos, negsuc, subst, arith}
use Rattle.std.specs.Prelude.{length, slice_get, nat_eq, nat_le, nat_lt, max, IfOk, if◌then◌else◌}
use Rattle.typed_syntax.specs.Positions.{Position}
use Rattle.typed_syntax.specs.Types.{TypeTree, array_of}
use Rattle.typed_syntax.specs.Value.{Value, int, bool, composite, pointer, slice_in, zero_of as zero_value}
use Rattle.typed_syntax.specs.Syntax.{Ex, Exs, Pl, Steps, Left, Piece, Over, St, Sts, Func, constant, read, unary, binary, logical_and, logical_or, call, part_of, literal, nil, address_of, new_variable, literal_variable, slice_literal, make, append, append_slice, copy, slicing, array_slicing, len, cap, Bound, absent, bound, Elements, no_elements, element, none, more, results, read_int, local, global, indirect, slice_element, here, inner, at_index, blank, new, to, text, shown, over_int, over_length, over_copy, over_slice, over_pointer, over_pointed, declare, assign, update, bump, discard, block, if_stmt, for_stmt, range, break_stmt, continue_stmt, return_stmt, print, panic, exit, done, next, type_in}
use Rattle.meaning.specs.Trace.{Fault, World, Held, Trace, state, entered, Seen}
use Rattle.meaning.specs.Store.{written, values_of, born, read_at}
use Rattle.meaning.specs.Operators.{binary_of, slice_variable, slice_path, slice_first, slice_count, slice_room, slice_part, array_part, bounds_within, sizes_of}
use Rattle.meaning.specs.Meaning
use Rattle.meaning.specs.Meaning.{Go, Then, Env, Ways, Calls, Item, Setting, Base, variable, through, indexed, Step, fixed, worked, Aim, Spot, Landing, nowhere, birth, on, holding, holding_all}
use Rattle.meaning_laws.specs.Pointers.{NamesBelow, EachNamesBelow, CellsNameBelow, HeldNameBelow, NamesAreThere, StepsAreBare, PlaceIsBare, IsBare, BoundIsBare, ElementsAreBare, AreBare, LeftIsBare, LeftsAreBare, PiecesAreBare, TestIsBare, OverIsBare, StatementIsBare, StatementsAreBare, BodiesAreBare, GlobalsAreBare, PointersNameVariables}
use Rattle.meaning_laws.proofs.Named.{more_named, each_more_named, held_more_named, held_joined, part_named, with_part_named, zero_named, values_named, binary_named, unary_named, slice_variable_below, cut_named, slice_part_named, limit, Sound, sound_here, sound_down, read_named, elements_named, written_sound, elements_sound, born_sound}

-- ---- what goes on well, from states in which values name what is below m

abbrev Good : ℕ → Go → Type 0
Good m g = (w : World) → Sound m w → NamesAreThere (g w)

abbrev GoodThen : ℕ → Then Value → Type 0
GoodThen m k = (v : Value) (w : World) → Sound m w → NamesBelow (limit w) v → NamesAreThere (k v w)

abbrev GoodList : ℕ → Then (List Value) → Type 0
GoodList m k = (vs : List Value) (w : World) → Sound m w → EachNamesBelow (limit w) vs → NamesAreThere (k vs w)

abbrev EnvBelow : ℕ → Env → Type 0
EnvBelow m env = (site : ℕ) → env site < m

abbrev GoodNext : ℕ → (Env → Go) → Type 0
GoodNext m k = (env : Env) (w : World) → Sound m w → EnvBelow (limit w) env → NamesAreThere (k env w)

abbrev GoodSpot : ℕ → Then Spot → Type 0
GoodSpot m k = (q : Spot) (w : World) → Sound m w → q.variable < limit w → NamesAreThere (k q w)

-- the ways out of a program with so many package variables
record GoodWays (count m : ℕ) (ws : Ways) : Type 0 where
  some : 0 < m
  globals : count ≤ m
  broken : GoodNext m ws.broken
  continued : GoodNext m ws.continued
  returned : (vs : List Value) (env : Env) (w : World) → Sound m w → EachNamesBelow (limit w) vs → EnvBelow (limit w) env → NamesAreThere (ws.returned vs env w)
  panicked : (at : Position) (f : Fault) (env : Env) → Good m (ws.panicked at f env)
  held : HeldNameBelow m ws.held

record GoodCalls (count : ℕ) (calls : Calls) : Type 0 where
  by : {m : ℕ} (f : ℕ) (vs : List Value) (ws : Ways) (env : Env) (k : Then (List Value)) → GoodWays count m ws → EnvBelow m env → EachNamesBelow m vs → GoodList m k → Good m (calls f vs ws env k)

-- from a later state on

down : {m : ℕ} {w u : World} → Sound m w → Sound (limit w) u → Sound m u
down {m} {w} {u} s d = sound_down m (limit w) u s.from d

then_at : {m : ℕ} {w : World} (k : Then Value) → GoodThen m k → Sound m w → GoodThen (limit w) k
then_at k h s v u d n = h v u (down s d) n

list_at : {m : ℕ} {w : World} (k : Then (List Value)) → GoodList m k → Sound m w → GoodList (limit w) k
list_at k h s vs u d n = h vs u (down s d) n

next_at : {m : ℕ} {w : World} (k : Env → Go) → GoodNext m k → Sound m w → GoodNext (limit w) k
next_at k h s env u d n = h env u (down s d) n

env_up : (m n : ℕ) (env : Env) → m ≤ n → EnvBelow m env → EnvBelow n env
env_up m n env le v site = let l = v site in omega arith

env_at : {m : ℕ} {w : World} (env : Env) → EnvBelow m env → Sound m w → EnvBelow (limit w) env
env_at {m} {w} env v s = env_up m (limit w) env s.from v

env_with : (m : ℕ) (env : Env) (site x : ℕ) → EnvBelow m env → x < m → EnvBelow m (Meaning.with_home env site x)
env_with m env site x v l y = elim (nat_eq y site) as (λ b. (if b then x else env y) < m) [ true ↦ l | false ↦ v y ]

ways_up : {count : ℕ} (m n : ℕ) (ws : Ways) → m ≤ n → GoodWays count m ws → GoodWays count n ws
ways_up m n ws le g = record {
  some = (let l = g.some in omega arith);
  globals = (let l = g.globals in omega arith);
  broken = λ env w s v. g.broken env w (sound_down m n w le s) v;
  continued = λ env w s v. g.continued env w (sound_down m n w le s) v;
  returned = λ vs env w s h v. g.returned vs env w (sound_down m n w le s) h v;
  panicked = λ at f env w s. g.panicked at f env w (sound_down m n w le s);
  held = held_more_named ws.held m n le g.held;
}

ways_at : {count m : ℕ} {w : World} (ws : Ways) → GoodWays count m ws → Sound m w → GoodWays count (limit w) ws
ways_at {count} {m} {w} ws g s = ways_up m (limit w) ws s.from g

good_holding_all : {count m : ℕ} (ws : Ways) (vs : List Held) → GoodWays count m ws → HeldNameBelow m vs → GoodWays count m (holding_all ws vs)
good_holding_all {count} {m} ws vs g h = record { some = g.some; globals = g.globals; broken = g.broken; continued = g.continued; returned = g.returned; panicked = g.panicked; held = held_joined vs ws.held m h g.held }

good_holding : {count m : ℕ} (ws : Ways) (e : Ex) (v : Value) → GoodWays count m ws → NamesBelow m v → GoodWays count m (holding ws e v)
good_holding ws e v g h = good_holding_all ws (Meaning.held_from ws.call e v ∷ []) g (h, tt)

-- ---- the primitives and what stands above them

good_state : {m : ℕ} (w : World) (hs : List Held) (t : Trace) → Sound m w → HeldNameBelow (limit w) hs → NamesAreThere t → NamesAreThere (Seen (state w hs) t)
good_state w hs t s h g = (λ some. let e : limit w ≡ length w.store = omega arith in (subst (λ n. CellsNameBelow n w.store) e s.cells, subst (λ n. HeldNameBelow n hs) e h), g)

good_entry : {m : ℕ} (w : World) (vs : List Value) (t : Trace) → Sound m w → EachNamesBelow (limit w) vs → NamesAreThere t → NamesAreThere (Seen (entered w vs) t)
good_entry w vs t s h g = (λ some. let e : limit w ≡ length w.store = omega arith in (subst (λ n. CellsNameBelow n w.store) e s.cells, subst (λ n. EachNamesBelow n vs) e h), g)

good_give : {count m : ℕ} (ws : Ways) (e : Ex) (k : Then Value) → GoodWays count m ws → GoodThen m k → GoodThen m (Meaning.give ws e k)
good_give {count} {m} ws e k g h v w s n = good_state w (Meaning.held_from ws.call e v ∷ ws.held) (k v w) s (n, held_more_named ws.held m (limit w) s.from g.held) (h v w s n)

all_held_named : (entry : ℕ) (es : Exs) (number : ℕ) (vs : List Value) (n : ℕ) → EachNamesBelow n vs → HeldNameBelow n (Meaning.all_held entry es number vs)
all_held_named entry es number [] n h = tt
all_held_named entry es number (v ∷ vs) n h = (h.0, all_held_named entry es (suc number) vs n h.1)

good_give_all : {count m : ℕ} (ws : Ways) (es : Exs) (k : Then (List Value)) → GoodWays count m ws → GoodList m k → GoodList m (Meaning.give_all ws es k)
good_give_all {count} {m} ws es k g h vs w s n =
    good_state w (Meaning.all_held ws.call es 0 vs ++ ws.held) (k vs w) s (held_joined (Meaning.all_held ws.call es 0 vs) ws.held (limit w) (all_held_named ws.call es 0 vs (limit w) n) (held_more_named ws.held m (limit w) s.from g.held)) (h vs w s n)

wrote : {m : ℕ} (w : World) (x : ℕ) (path : List ℕ) (v : Value) → NamesBelow (limit w) v → Sound m w → Sound m (written w x path v)
wrote w x path v n s = sound_down _ (limit w) (written w x path v) s.from (written_sound (limit w) w x path v n (sound_here w s))

-- a new variable of a site, and what is there then
born_here : {m : ℕ} (w : World) (entry site : ℕ) (t : TypeTree) (v : Value) → NamesBelow m v → Sound m w
    → Sound m (born w (Meaning.new_cell entry site t v)) × (length w.store < limit (born w (Meaning.new_cell entry site t v)))
born_here {m} w entry site t v n s = let b = born_sound m w (Meaning.new_cell entry site t v) n s in (b.0, b.1)

good_when : (c : Bool) (g h : Go) (w : World) → NamesAreThere (g w) → NamesAreThere (h w) → NamesAreThere (Meaning.when c g h w)
good_when true g h w a b = a
good_when false g h w a b = b

good_or_panic : {A : Type 0} {count m : ℕ} (P : A → Type 0) (ws : Ways) (env : Env) (at : Position) (r : Result A Fault) (k : Then A) (w : World)
    → GoodWays count m ws → Sound m w → IfOk r P → ((a : A) → P a → NamesAreThere (k a w)) → NamesAreThere (Meaning.or_panic ws env at r k w)
good_or_panic P ws env at (Ok a) k w g s p h = h a p
good_or_panic P ws env at (Err f) k w g s p h = g.panicked at f env w s

good_or : {A : Type 0} {count m : ℕ} (ws : Ways) (env : Env) (at : Position) (r : Result A Fault) (k : Then A) (w : World)
    → GoodWays count m ws → Sound m w → ((a : A) → NamesAreThere (k a w)) → NamesAreThere (Meaning.or_panic ws env at r k w)
good_or ws env at (Ok a) k w g s h = h a
good_or ws env at (Err f) k w g s h = g.panicked at f env w s

-- ---- places

abbrev StepsName : ℕ → List Step → Type 0
StepsName m [] = Unit {0}
StepsName m (fixed i ∷ steps) = StepsName m steps
StepsName m (worked at e x n ∷ steps) = NamesBelow m x × StepsName m steps

abbrev BaseNames : ℕ → Base → Type 0
BaseNames m (variable v) = v < m
BaseNames m (through at e v) = NamesBelow m v
BaseNames m (indexed at e s f i) = NamesBelow m s × NamesBelow m i

abbrev AimNames : ℕ → Aim → Type 0
AimNames m a = BaseNames m a.base × StepsName m a.steps

abbrev LandingNames : ℕ → Landing → Type 0
LandingNames m nowhere = Unit {0}
LandingNames m (birth site) = Unit {0}
LandingNames m (on a) = AimNames m a

abbrev LandingsName : ℕ → List Landing → Type 0
LandingsName m [] = Unit {0}
LandingsName m (l ∷ ls) = LandingNames m l × LandingsName m ls

steps_up : (steps : List Step) (m n : ℕ) → m ≤ n → StepsName m steps → StepsName n steps
steps_up [] m n le h = tt
steps_up (fixed i ∷ steps) m n le h = steps_up steps m n le h
steps_up (worked at e x size ∷ steps) m n le h = (more_named x m n le h.0, steps_up steps m n le h.1)

base_up : (b : Base) (m n : ℕ) → m ≤ n → BaseNames m b → BaseNames n b
base_up (variable v) m n le h = omega arith
base_up (through at e v) m n le h = more_named v m n le h
base_up (indexed at e s f i) m n le h = (more_named s m n le h.0, more_named i m n le h.1)

landing_up : (l : Landing) (m n : ℕ) → m ≤ n → LandingNames m l → LandingNames n l
landing_up nowhere m n le h = tt
landing_up (birth site) m n le h = tt
landing_up (on a) m n le h = (base_up a.base m n le h.0, steps_up a.steps m n le h.1)

landings_up : (ls : List Landing) (m n : ℕ) → m ≤ n → LandingsName m ls → LandingsName n ls
landings_up [] m n le h = tt
landings_up (l ∷ ls) m n le h = (landing_up l m n le h.0, landings_up ls m n le h.1)

step_values_named : (entry : ℕ) (steps : List Step) (m : ℕ) → StepsName m steps → HeldNameBelow m (Meaning.step_values entry steps)
step_values_named entry [] m h = tt
step_values_named entry (fixed i ∷ steps) m h = step_values_named entry steps m h
step_values_named entry (worked at e x size ∷ steps) m h = held_joined (Meaning.step_values entry steps) (Meaning.held_from entry e x ∷ []) m (step_values_named entry steps m h.1) (h.0, tt)

base_values_named : (entry : ℕ) (b : Base) (m : ℕ) → BaseNames m b → HeldNameBelow m (Meaning.base_values entry b)
base_values_named entry (variable v) m h = tt
base_values_named entry (through at e v) m h = (h, tt)
base_values_named entry (indexed at e s f i) m h = (h.1, (h.0, tt))

landing_values_named : (entry : ℕ) (l : Landing) (m : ℕ) → LandingNames m l → HeldNameBelow m (Meaning.landing_values entry l)
landing_values_named entry nowhere m h = tt
landing_values_named entry (birth site) m h = tt
landing_values_named entry (on a) m h = held_joined (Meaning.step_values entry a.steps) (Meaning.base_values entry a.base) m (step_values_named entry a.steps m h.1) (base_values_named entry a.base m h.0)

bound_values_named : (entry : ℕ) (o : Bound) (v : Value) (m : ℕ) → NamesBelow m v → HeldNameBelow m (Meaning.bound_values entry o v)
bound_values_named entry absent v m h = tt
bound_values_named entry (bound e) v m h = (h, tt)

element_spot_below : (s : Value) (r : Result ℕ Fault) (m : ℕ) → 0 < m → NamesBelow m s → IfOk (Meaning.element_spot s r) (λ q. q.variable < m)
element_spot_below s (Ok i) m some h = slice_variable_below s m some h
element_spot_below s (Err f) m some h = tt

pointed_below : (v : Value) (m : ℕ) → NamesBelow m v → IfOk (Meaning.pointed v) (λ q. q.variable < m)
pointed_below (pointer x path) m h = h
pointed_below v m h = tt

base_spot_below : (b : Base) (m : ℕ) → 0 < m → BaseNames m b → IfOk (Meaning.base_spot b) (λ q. q.variable < m)
base_spot_below (variable v) m some h = h
base_spot_below (through at e v) m some h = pointed_below v m h
base_spot_below (indexed at e s f i) m some h = element_spot_below s (Meaning.element_of (Meaning.int_of i) (slice_count s)) m some h.0

good_steps : {count m : ℕ} (steps : List Step) (x : ℕ) (path : List ℕ) (ws : Ways) (env : Env) (k : Then Spot) → GoodWays count m ws → x < m → GoodSpot m k → Good m (Meaning.settle_steps ws env steps x path k)
good_steps [] x path ws env k g l h w s = h (record { variable = x; path = path }) w s (let f = s.from in omega arith)
good_steps (fixed i ∷ steps) x path ws env k g l h w s = good_steps steps x (path ++ i ∷ []) ws env k g l h w s
good_steps (worked at e y n ∷ steps) x path ws env k g l h w s =
    good_or ws env at (Meaning.element_of (Meaning.int_of y) n) _ w g s (λ i. good_steps steps x (path ++ i ∷ []) ws env k g l h w s)

good_settle : {count m : ℕ} (a : Aim) (ws : Ways) (env : Env) (k : Then Spot) → GoodWays count m ws → AimNames m a → GoodSpot m k → Good m (Meaning.settle ws env a k)
good_settle {count} {m} a ws env k g n h w s =
    good_or_panic (λ q. q.variable < m) ws env (Meaning.base_position a.base) (Meaning.base_spot a.base) _ w g s (base_spot_below a.base m g.some n.0) (λ q l. good_steps a.steps q.variable q.path ws env k g l h w s)

-- ---- `append` and `copy`

good_first : {m : ℕ} (n : ℕ) (s : Value) (k : Then (List Value)) → GoodList m k → Good m (Meaning.read_first n s k)
good_first zero s k h w d = h [] w d tt
good_first (suc n) s k h w d = h _ w d (elements_named w (slice_variable s) (slice_path s) (suc n) (slice_first s) d)

good_behind : {m : ℕ} (n : ℕ) (s : Value) (xs : List Value) (g : Go) → EachNamesBelow m xs → Good m g → Good m (Meaning.write_behind n s xs g)
good_behind n s [] g c h w d = h w d
good_behind {m} n s (x ∷ xs) g c h w d = h _ (elements_sound (x ∷ xs) m w (slice_variable s) (slice_path s) (slice_first s + n) c d)

good_copy : {m : ℕ} (n : ℕ) (d s : Value) (g : Go) → Good m g → Good m (Meaning.copy_first n d s g)
good_copy n d s g h w e = good_first n s (λ xs. Meaning.write_behind 0 d xs g) (λ xs u f c. good_behind 0 d xs g c (λ y z. h y (down f z)) u (sound_here u f)) w e

good_within : {m : ℕ} (s : Value) (xs : List Value) (k : Then Value) → 0 < m → NamesBelow m s → EachNamesBelow m xs → GoodThen m k → Good m (Meaning.add_within s xs k)
good_within {m} s xs k some n c h w d =
    let l = slice_variable_below s m some n in
    good_behind (slice_count s) s xs _ c (λ u e. h (Meaning.longer s (length xs)) u e (let f = e.from in omega arith)) w d

module _ (around : Setting) (entry site : ℕ) where
  good_regrow : {m : ℕ} (s : Value) (room : ℕ) (k : Then Value) → GoodThen m k → Good m (Meaning.regrow around entry site s room k)
  good_regrow {m} s room k h w d =
      let t = array_of room (Meaning.site_type around site) in
      let u = born w (Meaning.new_cell entry site t (zero_value t)) in
      let r : Value = slice_in (length w.store) [] 0 (slice_count s) room in
      let b = born_here w entry site t (zero_value t) (zero_named t m) d in
      good_first (slice_count s) s (λ old. Meaning.write_behind 0 r old (k r))
      (λ old y f c. good_behind 0 r old (k r) c (λ z a. h r z (down b.0 (down f a)) (let l = b.1 in let p = f.from in let q = a.from in omega arith)) y (sound_here y f)) u (sound_here u b.0)

  good_add : {m : ℕ} (s : Value) (xs : List Value) (k : Then Value) → 0 < m → NamesBelow m s → EachNamesBelow m xs → GoodThen m k → Good m (Meaning.add_to around entry site s xs k)
  good_add {m} s [] k some n c h w d = h s w d (more_named s m (limit w) d.from n)
  good_add {m} s (x ∷ xs) k some n c h w d =
      good_when (nat_le (slice_count s + length (x ∷ xs)) (slice_room s)) _ _ w (good_within s (x ∷ xs) k some n c h w d)
      (good_regrow s (max (slice_count s + length (x ∷ xs)) (2 * slice_room s)) (λ r. Meaning.add_within r (x ∷ xs) k) (λ r u e f. good_within r (x ∷ xs) k (omega arith) f (each_more_named (x ∷ xs) m (limit u) e.from c) (then_at k h e) u (sound_here u e)) w d)

-- ---- expressions

only_named : (vs : List Value) (n : ℕ) → EachNamesBelow n vs → NamesBelow n (Meaning.only_value vs)
only_named [] n h = tt
only_named (v ∷ vs) n h = h.0

item_named : (o : Item) (n : ℕ) → EachNamesBelow n (Meaning.item_values o)
item_named None n = (tt, (tt, tt))
item_named (Some z) n = (tt, (tt, tt))

module _ (around : Setting) (count : ℕ) (calls : Calls) (gc : GoodCalls count calls) where
  mutual
    good_walk : (steps : Steps) {m : ℕ} (ws : Ways) (env : Env) (k : Then (List Step)) → StepsAreBare count steps → GoodWays count m ws → EnvBelow m env
        → ((r : List Step) (w : World) → Sound m w → StepsName (limit w) r → NamesAreThere (k r w)) → Good m (Meaning.walk around calls steps ws env k)
    good_walk here ws env k b g v h w s = h [] w s tt
    good_walk (inner i steps) ws env k b g v h w s = good_walk steps ws env _ b g v (λ r. h (fixed i ∷ r)) w s
    good_walk (at_index at e size steps) ws env k b g v h w s =
        good_ev e ws env _ b.0 g v (λ x u d n. good_walk steps (holding ws e x) env _ b.1 (good_holding ws e x (ways_at ws g d) n) (env_at env v d)
        (λ r y c p. h (worked at e x size ∷ r) y (down d c) (more_named x (limit u) (limit y) c.from n, p)) u (sound_here u d)) w s

    good_aim : (q : Pl) {m : ℕ} (ws : Ways) (env : Env) (k : Then Aim) → PlaceIsBare count q → GoodWays count m ws → EnvBelow m env
        → ((a : Aim) (w : World) → Sound m w → AimNames (limit w) a → NamesAreThere (k a w)) → Good m (Meaning.aim around calls q ws env k)
    good_aim (local site steps) ws env k b g v h w s = good_walk steps ws env _ b g v (λ r u d n. h _ u d (env_at env v d site, n)) w s
    good_aim (global x steps) ws env k b g v h w s = good_walk steps ws env _ b.1 g v (λ r u d n. h _ u d (let l = b.0 in let c = g.globals in let f = d.from in omega arith, n)) w s
    good_aim (indirect at e t steps) ws env k b g v h w s =
        good_ev e ws env _ b.0 g v (λ x u d n. good_walk steps (holding ws e x) env _ b.1 (good_holding ws e x (ways_at ws g d) n) (env_at env v d)
        (λ r y c p. h _ y (down d c) (more_named x (limit u) (limit y) c.from n, p)) u (sound_here u d)) w s
    good_aim (slice_element at e i t steps) ws env k b g v h w s =
        good_ev e ws env _ b.0 g v (λ x u d n. good_ev i (holding ws e x) env _ b.1 (good_holding ws e x (ways_at ws g d) n) (env_at env v d)
        (λ y z c p. good_walk steps (holding (holding ws e x) i y) env _ b.2 (good_holding (holding ws e x) i y (good_holding ws e x (ways_at ws g (down d c)) (more_named x (limit u) (limit z) c.from n)) p) (env_at env v (down d c))
        (λ r a f l. h _ a (down (down d c) f) ((more_named x (limit u) (limit a) (let f1 = c.from in let f2 = f.from in omega arith) n, more_named y (limit z) (limit a) f.from p), l)) z (sound_here z c)) u (sound_here u d)) w s

    good_ev : (e : Ex) {m : ℕ} (ws : Ways) (env : Env) (k : Then Value) → IsBare count e → GoodWays count m ws → EnvBelow m env → GoodThen m k → Good m (Meaning.ev around calls e ws env k)
    good_ev (constant x) ws env k b g v h w s = good_give ws (constant x) k g h x w s (more_named x 0 (limit w) (omega arith) b)
    good_ev (read q) ws env k b g v h w s =
        good_aim q ws env _ b g v (λ a u d n. good_settle a ws env _ (ways_at ws g d) n (λ p y c l. good_give ws (read q) k g h _ y (down d c) (read_named y p.variable p.path c)) u (sound_here u d)) w s
    good_ev (unary op e) ws env k b g v h w s = good_ev e ws env _ b g v (λ x u d n. good_give ws (unary op e) k g h _ u d (unary_named op x (limit u) n)) w s
    good_ev (binary at op e f) ws env k b g v h w s =
        good_ev e ws env _ b.0 g v (λ x u d n. good_ev f (holding ws e x) env _ b.1 (good_holding ws e x (ways_at ws g d) n) (env_at env v d)
        (λ y z c p. good_or_panic (NamesBelow (limit z)) ws env at (binary_of op x y) _ z g (down d c) (binary_named op x y (limit z) (more_named x (limit u) (limit z) c.from n)) (λ r l. good_give ws (binary at op e f) k g h r z (down d c) l)) u (sound_here u d)) w s
    good_ev (logical_and e f) ws env k b g v h w s = good_ev e ws env _ b.0 g v (λ x u d n. good_when (Meaning.is_true x) _ _ u (good_ev f ws env k b.1 g v h u d) (good_give ws (logical_and e f) k g h (bool false) u d tt)) w s
    good_ev (logical_or e f) ws env k b g v h w s = good_ev e ws env _ b.0 g v (λ x u d n. good_when (Meaning.is_true x) _ _ u (good_give ws (logical_or e f) k g h (bool true) u d tt) (good_ev f ws env k b.1 g v h u d)) w s
    good_ev (call f es) ws env k b g v h w s =
        good_evs es ws env _ b g v (λ vs u d n. gc.by f vs ws env _ (ways_at ws g d) (env_at env v d) n (λ rs y c p. good_give ws (call f es) k g h (Meaning.only_value rs) y (down d c) (only_named rs (limit y) p)) u (sound_here u d)) w s
    good_ev (part_of t i e) ws env k b g v h w s = good_ev e ws env _ b g v (λ x u d n. good_give ws (part_of t i e) k g h _ u d (part_named x i (limit u) n)) w s
    good_ev (literal t es) {m} ws env k b g v h w s = good_fill es _ ws env _ b g v (zero_named (type_in around.types t) m) (good_give ws (literal t es) k g h) w s
    good_ev (nil t) ws env k b g v h w s = good_give ws (nil t) k g h _ w s (zero_named t (limit w))
    good_ev (address_of q) ws env k b g v h w s =
        good_aim q ws env _ b g v (λ a u d n. good_settle a ws env _ (ways_at ws g d) n (λ p y c l. good_give ws (address_of q) k g h (pointer p.variable p.path) y (down d c) l) u (sound_here u d)) w s
    good_ev (new_variable site) {m} ws env k b g v h w s =
        let b = born_here w ws.call site (Meaning.site_type around site) (Meaning.zero_of around site) (zero_named (Meaning.site_type around site) m) s in good_give ws (new_variable site) k g h (pointer (length w.store) []) _ b.0 b.1
    good_ev (literal_variable site e) ws env k b g v h w s =
        good_ev e ws env _ b g v (λ x u d n. let c = born_here u ws.call site (Meaning.site_type around site) x n (sound_here u d) in good_give ws (literal_variable site e) k g h (pointer (length u.store) []) _ (down d c.0) c.1) w s
    good_ev (slice_literal site es) ws env k b g v h w s =
        good_evs es ws env _ b g v (λ vs u d n. let c = born_here u ws.call site (array_of (length vs) (Meaning.site_type around site)) (composite (values_of vs)) (values_named vs (limit u) n) (sound_here u d) in
        good_give ws (slice_literal site es) k g h (slice_in (length u.store) [] 0 (length vs) (length vs)) _ (down d c.0) c.1) w s
    good_ev (make at site size room) ws env k b g v h w s =
        good_ev size ws env _ b.0 g v (λ x u d n. good_bound room x (holding ws size x) env _ b.1 (good_holding ws size x (ways_at ws g d) n) (env_at env v d) n
        (λ y z c p. good_or ws env at (sizes_of (Meaning.int_of x) (Meaning.int_of y)) _ z g (down d c) (λ o.
        let t = array_of o.room (Meaning.site_type around site) in let f = born_here z ws.call site t (zero_value t) (zero_named t (limit z)) (sound_here z c) in
        good_give ws (make at site size room) k g h (slice_in (length z.store) [] 0 o.count o.room) _ (down (down d c) f.0) f.1)) u (sound_here u d)) w s
    good_ev (append site e es) ws env k b g v h w s =
        good_ev e ws env _ b.0 g v (λ x u d n. good_evs es (holding ws e x) env _ b.1 (good_holding ws e x (ways_at ws g d) n) (env_at env v d)
        (λ vs z c p. good_add around ws.call site x vs _ (omega arith) (more_named x (limit u) (limit z) c.from n) p (then_at (Meaning.give ws (append site e es) k) (good_give ws (append site e es) k g h) (down d c)) z (sound_here z c)) u (sound_here u d)) w s
    good_ev (append_slice site e f) ws env k b g v h w s =
        good_ev e ws env _ b.0 g v (λ x u d n. good_ev f (holding ws e x) env _ b.1 (good_holding ws e x (ways_at ws g d) n) (env_at env v d)
        (λ y z c p. good_first (slice_count y) y _ (λ vs a r q. good_add around ws.call site x vs _ (omega arith) (more_named x (limit u) (limit a) (let f1 = c.from in let f2 = r.from in omega arith) n) q
        (then_at (Meaning.give ws (append_slice site e f) k) (good_give ws (append_slice site e f) k g h) (down (down d c) r)) a (sound_here a r)) z (sound_here z c)) u (sound_here u d)) w s
    good_ev (copy t e f) ws env k b g v h w s =
        good_ev e ws env _ b.0 g v (λ x u d n. good_ev f (holding ws e x) env _ b.1 (good_holding ws e x (ways_at ws g d) n) (env_at env v d)
        (λ y z c p. good_copy (Meaning.copy_count x y) x y _ (λ a r. good_give ws (copy t e f) k g h (int (pos (Meaning.copy_count x y))) a r tt) z (down d c)) u (sound_here u d)) w s
    good_ev (slicing at t e low high) ws env k b g v h w s =
        good_ev e ws env _ b.0 g v (λ x u d n. let gx = good_holding ws e x (ways_at ws g d) n in good_bound low _ (holding ws e x) env _ b.1 gx (env_at env v d) tt
        (λ l z c p. good_bound high _ (holding_all (holding ws e x) (Meaning.bound_values ws.call low l)) env _ b.2 (good_holding_all (holding ws e x) (Meaning.bound_values ws.call low l) (ways_at (holding ws e x) gx c) (bound_values_named ws.call low l (limit z) p)) (env_at env v (down d c)) tt
        (λ r a f q. good_or_panic (NamesBelow (limit a)) ws env at (slice_part x (Meaning.int_of l) (Meaning.int_of r)) _ a g (down (down d c) f)
        (slice_part_named x (Meaning.int_of l) (Meaning.int_of r) (limit a) (more_named x (limit u) (limit a) (let f1 = c.from in let f2 = f.from in omega arith) n))
        (λ y i. good_give ws (slicing at t e low high) k g h y a (down (down d c) f) i)) z (sound_here z c)) u (sound_here u d)) w s
    good_ev (array_slicing at q size low high) ws env k b g v h w s =
        good_aim q ws env _ b.0 g v (λ o u0 d0 n0. good_settle o ws env _ (ways_at ws g d0) n0 (λ x u e n.
        let d = down d0 e in let here_x = pointer x.variable x.path in let gx = good_holding ws (address_of q) here_x (ways_at ws g d) n in good_bound low _ (holding ws (address_of q) here_x) env _ b.1 gx (env_at env v d) tt
        (λ l z c p. good_bound high _ (holding_all (holding ws (address_of q) here_x) (Meaning.bound_values ws.call low l)) env _ b.2 (good_holding_all (holding ws (address_of q) here_x) (Meaning.bound_values ws.call low l) (ways_at (holding ws (address_of q) here_x) gx c) (bound_values_named ws.call low l (limit z) p)) (env_at env v (down d c)) tt
        (λ r a f i. good_or_panic (NamesBelow (limit a)) ws env at (array_part x.variable x.path size (Meaning.int_of l) (Meaning.int_of r)) _ a g (down (down d c) f)
        (cut_named x.variable x.path 0 size (limit a) (bounds_within (Meaning.int_of l) (Meaning.int_of r) size) (let f1 = c.from in let f2 = f.from in omega arith))
        (λ y j. good_give ws (array_slicing at q size low high) k g h y a (down (down d c) f) j)) z (sound_here z c)) u (sound_here u d)) u0 (sound_here u0 d0)) w s
    good_ev (len e) ws env k b g v h w s = good_ev e ws env _ b g v (λ x u d n. good_give ws (len e) k g h (int (pos (slice_count x))) u d tt) w s
    good_ev (cap e) ws env k b g v h w s = good_ev e ws env _ b g v (λ x u d n. good_give ws (cap e) k g h (int (pos (slice_room x))) u d tt) w s

    good_bound : (o : Bound) (x : Value) {m : ℕ} (ws : Ways) (env : Env) (k : Then Value) → BoundIsBare count o → GoodWays count m ws → EnvBelow m env → NamesBelow m x → GoodThen m k → Good m (Meaning.ev_bound around calls o x ws env k)
    good_bound absent x {m} ws env k b g v n h w s = h x w s (more_named x m (limit w) s.from n)
    good_bound (bound e) x ws env k b g v n h w s = good_ev e ws env k b g v h w s

    good_fill : (es : Elements) (x : Value) {m : ℕ} (ws : Ways) (env : Env) (k : Then Value) → ElementsAreBare count es → GoodWays count m ws → EnvBelow m env → NamesBelow m x → GoodThen m k → Good m (Meaning.fill around calls es x ws env k)
    good_fill no_elements x {m} ws env k b g v n h w s = h x w s (more_named x m (limit w) s.from n)
    good_fill (element i e es) x {m} ws env k b g v n h w s =
        good_ev e ws env _ b.0 g v (λ y u d p. good_fill es _ (holding ws e y) env k b.1 (good_holding ws e y (ways_at ws g d) p) (env_at env v d) (with_part_named x i (limit u) y (more_named x m (limit u) d.from n) p) (then_at k h d) u (sound_here u d)) w s

    good_evs : (es : Exs) {m : ℕ} (ws : Ways) (env : Env) (k : Then (List Value)) → AreBare count es → GoodWays count m ws → EnvBelow m env → GoodList m k → Good m (Meaning.evs around calls es ws env k)
    good_evs none ws env k b g v h w s = h [] w s tt
    good_evs (more e es) ws env k b g v h w s =
        good_ev e ws env _ b.0 g v (λ x u d n. good_evs es (holding ws e x) env _ b.1 (good_holding ws e x (ways_at ws g d) n) (env_at env v d) (λ vs z c p. h (x ∷ vs) z (down d c) (more_named x (limit u) (limit z) c.from n, p)) u (sound_here u d)) w s
    good_evs (results f es) ws env k b g v h w s =
        good_evs es ws env _ b g v (λ vs u d n. gc.by f vs ws env _ (ways_at ws g d) (env_at env v d) n (list_at (Meaning.give_all ws (results f es) k) (good_give_all ws (results f es) k g h) d) u (sound_here u d)) w s
    good_evs read_int ws env k b g v h w s = good_give_all ws read_int k g h _ _ (record { from = s.from; cells = s.cells }) (item_named (around.items w.reads) (limit w))

-- ---- left sides and operands of `print`

module _ (around : Setting) (count : ℕ) (calls : Calls) (gc : GoodCalls count calls) where
  good_ready : (l : Left) {m : ℕ} (ws : Ways) (env : Env) (k : Then Landing) → LeftIsBare count l → GoodWays count m ws → EnvBelow m env
      → ((x : Landing) (w : World) → Sound m w → LandingNames (limit w) x → NamesAreThere (k x w)) → Good m (Meaning.ready around calls l ws env k)
  good_ready blank ws env k b g v h w s = h nowhere w s tt
  good_ready (new site) ws env k b g v h w s = h (birth site) w s tt
  good_ready (to q) ws env k b g v h w s = good_aim around count calls gc q ws env _ b g v (λ a u d n. h (on a) u d n) w s

  good_ready_all : (ls : List Left) {m : ℕ} (ws : Ways) (env : Env) (k : List Landing → Ways → Go) → LeftsAreBare count ls → GoodWays count m ws → EnvBelow m env
      → ((xs : List Landing) (ws1 : Ways) (w : World) → Sound m w → LandingsName (limit w) xs → GoodWays count (limit w) ws1 → NamesAreThere (k xs ws1 w)) → Good m (Meaning.ready_all around calls ls ws env k)
  good_ready_all [] ws env k b g v h w s = h [] ws w s tt (ways_at ws g s)
  good_ready_all (l ∷ ls) ws env k b g v h w s =
      good_ready l ws env _ b.0 g v (λ x u d n. good_ready_all ls (holding_all ws (Meaning.landing_values ws.call x)) env _ b.1
      (good_holding_all ws (Meaning.landing_values ws.call x) (ways_at ws g d) (landing_values_named ws.call x (limit u) n)) (env_at env v d)
      (λ xs ws1 z c p q. h (x ∷ xs) ws1 z (down d c) (landing_up x (limit u) (limit z) c.from n, p) q) u (sound_here u d)) w s

  good_pieces : (ps : List Piece) {m : ℕ} (ws : Ways) (env : Env) (k : Then (List (List ℕ))) → PiecesAreBare count ps → GoodWays count m ws → EnvBelow m env
      → ((r : List (List ℕ)) → Good m (k r)) → Good m (Meaning.pieces around calls ps ws env k)
  good_pieces [] ws env k b g v h w s = h [] w s
  good_pieces (text number ∷ ps) ws env k b g v h w s = good_pieces ps ws env _ b.1 g v (λ r. h _) w s
  good_pieces (shown t e ∷ ps) ws env k b g v h w s =
      good_ev around count calls gc e ws env _ b.0 g v (λ x u d n. good_pieces ps (holding ws e x) env _ b.1 (good_holding ws e x (ways_at ws g d) n) (env_at env v d) (λ r z c. h (Meaning.shown_bytes x ∷ r) z (down d c)) u (sound_here u d)) w s

  good_test : (t : Option Ex) {m : ℕ} (ws : Ways) (env : Env) (k : Then Value) → TestIsBare count t → GoodWays count m ws → EnvBelow m env → GoodThen m k → Good m (Meaning.test_of around calls t ws env k)
  good_test None ws env k b g v h w s = h (bool true) w s tt
  good_test (Some e) ws env k b g v h w s = good_ev around count calls gc e ws env _ b g v (λ x u d n. h x u d n) w s

module _ (around : Setting) (count : ℕ) where
  good_land : (l : Landing) (x : Value) {m : ℕ} (ws : Ways) (env : Env) (k : Env → Go) → GoodWays count m ws → EnvBelow m env → LandingNames m l → NamesBelow m x → GoodNext m k → Good m (Meaning.land around l x ws env k)
  good_land nowhere x ws env k g v n c h w s = h env w s (env_at env v s)
  good_land (birth site) x {m} ws env k g v n c h w s =
      let b = born_here w ws.call site (Meaning.site_type around site) x c s in
      let u = born w (Meaning.new_cell ws.call site (Meaning.site_type around site) x) in
      h (Meaning.with_home env site (length w.store)) u b.0 (env_with (limit u) env site (length w.store) (env_at env v b.0) b.1)
  good_land (on a) x {m} ws env k g v n c h w s =
      good_settle a ws env _ g n (λ q u d l. let e = wrote u q.variable q.path x (more_named x m (limit u) d.from c) d in h env _ e (env_at env v e)) w s

  good_land_all : (ls : List Landing) (vs : List Value) {m : ℕ} (ws : Ways) (env : Env) (k : Env → Go) → GoodWays count m ws → EnvBelow m env → LandingsName m ls → EachNamesBelow m vs → GoodNext m k → Good m (Meaning.land_all around ls vs ws env k)
  good_land_all [] vs ws env k g v n c h w s = h env w s (env_at env v s)
  good_land_all (l ∷ ls) [] ws env k g v n c h w s = h env w s (env_at env v s)
  good_land_all (l ∷ ls) (x ∷ vs) {m} ws env k g v n c h w s =
      good_land l x ws env _ g v n.0 c.0 (λ env1 u d v1. good_land_all ls vs ws env1 k (ways_at ws g d) v1 (landings_up ls m (limit u) d.from n.1) (each_more_named vs m (limit u) d.from c.1) (next_at k h d) u (sound_here u d)) w s

  good_zeros : (sites : List ℕ) (entry : ℕ) {m : ℕ} (env : Env) (k : Env → Go) → EnvBelow m env → GoodNext m k → Good m (Meaning.bear_zeros around entry sites env k)
  good_zeros [] entry env k v h w s = h env w s (env_at env v s)
  good_zeros (site ∷ sites) entry {m} env k v h w s =
      let t = Meaning.site_type around site in
      let b = born_here w entry site t (zero_value t) (zero_named t m) s in
      let u = born w (Meaning.new_cell entry site t (zero_value t)) in
      good_zeros sites entry (Meaning.with_home env site (length w.store)) k (env_with (limit u) env site (length w.store) (env_at env v b.0) b.1) (next_at k h b.0) u (sound_here u b.0)

  good_renew : (sites : List ℕ) (entry : ℕ) {m : ℕ} (env : Env) (k : Env → Go) → EnvBelow m env → GoodNext m k → Good m (Meaning.renew around entry sites env k)
  good_renew [] entry env k v h w s = h env w s (env_at env v s)
  good_renew (site ∷ sites) entry {m} env k v h w s =
      let t = Meaning.site_type around site in let x = read_at w (env site) [] in
      let b = born_here w entry site t x (read_named w (env site) [] s) (sound_here w s) in
      let u = born w (Meaning.new_cell entry site t x) in let d = down s b.0 in
      good_renew sites entry (Meaning.with_home env site (length w.store)) k (env_with (limit u) env site (length w.store) (env_at env v d) b.1) (next_at k h d) u (sound_here u b.0)

  good_params : (ps : List (Option ℕ)) (vs : List Value) (entry : ℕ) {m : ℕ} (env : Env) (k : Env → Go) → EnvBelow m env → EachNamesBelow m vs → GoodNext m k → Good m (Meaning.bear_params around entry ps vs env k)
  good_params [] vs entry env k v n h w s = h env w s (env_at env v s)
  good_params (p ∷ ps) [] entry env k v n h w s = h env w s (env_at env v s)
  good_params (None ∷ ps) (x ∷ vs) entry env k v n h w s = good_params ps vs entry env k v n.1 h w s
  good_params (Some site ∷ ps) (x ∷ vs) entry {m} env k v n h w s =
      let t = Meaning.site_type around site in
      let b = born_here w entry site t x n.0 s in
      let u = born w (Meaning.new_cell entry site t x) in
      good_params ps vs entry (Meaning.with_home env site (length w.store)) k (env_with (limit u) env site (length w.store) (env_at env v b.0) b.1) (each_more_named vs m (limit u) (let f = b.0.from in omega arith) n.1) (next_at k h b.0) u (sound_here u b.0)

good_emit_more : (bs : List (List ℕ)) (g : Go) {m : ℕ} → Good m g → Good m (Meaning.emit_more bs g)
good_emit_more [] g h w s = h w s
good_emit_more (b ∷ bs) g h w s = good_emit_more bs g h w s

good_emit_plain : (bs : List (List ℕ)) (g : Go) {m : ℕ} → Good m g → Good m (Meaning.emit_plain bs g)
good_emit_plain [] g h w s = h w s
good_emit_plain (b ∷ bs) g h w s = good_emit_plain bs g h w s

good_emit : (ln : Bool) (bs : List (List ℕ)) (g : Go) {m : ℕ} → Good m g → Good m (Meaning.emit ln bs g)
good_emit true [] g h w s = h w s
good_emit true (b ∷ bs) g h w s = good_emit_more bs g h w s
good_emit false bs g h w s = good_emit_plain bs g h w s

-- ---- loops

record GoodTest (m : ℕ) (test : Env → Then Value → Go) : Type 0 where
  by : (n : ℕ) → m ≤ n → (env : Env) (j : Then Value) → EnvBelow n env → GoodThen n j → Good n (test env j)

record GoodBody (m : ℕ) (body : ℕ → Env → (ℕ → Env → Go) → Go) : Type 0 where
  by : (n : ℕ) → m ≤ n → (c : ℕ) (env : Env) (j : ℕ → Env → Go) → EnvBelow n env → ((d : ℕ) → GoodNext n (j d)) → Good n (body c env j)

good_rounds : (fuel : ℕ) (test : Env → Then Value → Go) (body : ℕ → Env → (ℕ → Env → Go) → Go) (k : ℕ → Env → Go) {m : ℕ} → GoodTest m test → GoodBody m body → ((c : ℕ) → GoodNext m (k c))
    → (n : ℕ) → m ≤ n → (c : ℕ) (env : Env) → EnvBelow n env → Good n (Meaning.rounds fuel test body k c env)
good_rounds zero test body k t b o n le c env v w s = tt
good_rounds (suc fuel) test body k {m} t b o n le c env v w s =
    t.by n le env _ v (λ x u d p. good_when (Meaning.is_true x) _ _ u
    (b.by (limit u) (let f = d.from in omega arith) c env _ (env_at env v d) (λ c1 env1 z e v1. good_rounds fuel test body k t b o (limit z) (let f1 = d.from in let f2 = e.from in omega arith) c1 env1 v1 z (sound_here z e)) u (sound_here u d))
    (o c env u (sound_down m n u le d) (env_at env v d))) w s

good_counted : (fuel i left : ℕ) (body : ℕ → ℕ → Env → (ℕ → Env → Go) → Go) (k : ℕ → Env → Go) {m : ℕ} → ((i : ℕ) → GoodBody m (body i)) → ((c : ℕ) → GoodNext m (k c))
    → (n : ℕ) → m ≤ n → (c : ℕ) (env : Env) → EnvBelow n env → Good n (Meaning.counted fuel i left body k c env)
good_counted zero i left body k b o n le c env v w s = tt
good_counted (suc fuel) i zero body k {m} b o n le c env v w s = o c env w (sound_down m n w le s) (env_at env v s)
good_counted (suc fuel) i (suc left) body k b o n le c env v w s =
    (b i).by n le c env _ v (λ c1 env1 z e v1. good_counted fuel (suc i) left body k b o (limit z) (let f = e.from in omega arith) c1 env1 v1 z (sound_here z e)) w s

abbrev Part : Type 0
Part = Ways → Env → (Env → Go) → Go

record GoodPart (count : ℕ) (body : Part) : Type 0 where
  by : {m : ℕ} (ws : Ways) (env : Env) (k : Env → Go) → GoodWays count m ws → EnvBelow m env → GoodNext m k → Good m (body ws env k)

good_outside : {m : ℕ} (k : Env → Go) → GoodNext m k → (c : ℕ) → GoodNext m (Meaning.outside k c)
good_outside k h c env w s v = h env w s v

good_in_loop : {count m : ℕ} (body : Part) (ws : Ways) (out again : Env → Go) (env : Env) → GoodPart count body → GoodWays count m ws → GoodNext m out → GoodNext m again → EnvBelow m env → Good m (Meaning.in_loop body ws out again env)
good_in_loop body ws out again env b g ho ha v w s =
    b.by (record { broken = out; continued = again; returned = ws.returned; panicked = ws.panicked; held = ws.held; call = ws.call }) env again
    (record { some = g.some; globals = g.globals; broken = ho; continued = ha; returned = g.returned; panicked = g.panicked; held = g.held }) v ha w s

good_next_count : {m : ℕ} (c : ℕ) (j : ℕ → Env → Go) → ((d : ℕ) → GoodNext m (j d)) → GoodNext m (Meaning.to_next_count c j)
good_next_count c j h env w s v = h (length w.store) env w s v

good_next : {count m : ℕ} (around : Setting) (c : ℕ) (sites : List ℕ) (post : Part) (ws : Ways) (j : ℕ → Env → Go) → GoodPart count post → GoodWays count m ws → ((d : ℕ) → GoodNext m (j d)) → GoodNext m (Meaning.to_next around c sites post ws j)
good_next {count} {m} around c sites post ws j p g h env w s v =
    good_renew around count sites ws.call env (λ env1. post ws env1 (j (length w.store))) v
    (λ env1 u d v1. p.by ws env1 (j (length w.store)) (ways_at ws g (down s d)) v1 (next_at (j (length w.store)) (h (length w.store)) (down s d)) u (sound_here u d)) w (sound_here w s)

-- what reads an element
record GoodGet (get : ℕ → Ways → Env → Then Value → Go) : Type 0 where
  by : {count m : ℕ} (i : ℕ) (ws : Ways) (env : Env) (k : Then Value) → GoodWays count m ws → GoodThen m k → Good m (get i ws env k)

get_copied : (site : ℕ) → GoodGet (Meaning.read_copied site)
get_copied site = record { by = λ i ws env k g h w s. h _ w s (read_named w (env site) (i ∷ []) s) }

get_sliced : (x : Value) → GoodGet (Meaning.read_sliced x)
get_sliced x = record { by = λ i ws env k g h w s. h _ w s (read_named w (slice_variable x) (slice_path x ++ (slice_first x + i) ∷ []) s) }

get_pointed : (at : Position) (x : Value) → GoodGet (Meaning.read_pointed at x)
get_pointed at x = record { by = λ i ws env k g h w s. good_or ws env at (Meaning.pointed x) _ w g s (λ q. h _ w s (read_named w q.variable (q.path ++ i ∷ []) s)) }

-- ---- statements

good_quit : {count m : ℕ} (z : ℤ) (ws : Ways) (env : Env) (at : Position) → GoodWays count m ws → Good m (Meaning.quit_with ws env at z)
good_quit (pos n) ws env at g w s = good_when (nat_lt n 126) _ _ w tt (g.panicked at _ env w s)
good_quit (negsuc n) ws env at g w s = g.panicked at _ env w s

module _ (around : Setting) (count : ℕ) (calls : Calls) (gc : GoodCalls count calls) (fuel : ℕ) where
  good_begin : (o : Over) {m : ℕ} (ws : Ways) (env : Env) (k : ℕ → Value → Ways → Env → Go) → OverIsBare count o → GoodWays count m ws → EnvBelow m env
      → ((size : ℕ) (x : Value) (ws1 : Ways) (env1 : Env) (w : World) → Sound m w → GoodWays count (limit w) ws1 → EnvBelow (limit w) env1 → NamesAreThere (k size x ws1 env1 w)) → Good m (Meaning.begin_range around calls fuel o ws env k)
  good_begin (over_int e) ws env k b g v h w s = good_ev around count calls gc e ws env _ b g v (λ x u d n. h _ x (holding ws e x) env u d (good_holding ws e x (ways_at ws g d) n) (env_at env v d)) w s
  good_begin (over_length size) ws env k b g v h w s = h size _ ws env w s (ways_at ws g s) (env_at env v s)
  good_begin (over_copy site e size) ws env k b g v h w s =
      good_ev around count calls gc e ws env _ b g v (λ x u d n.
      let t = Meaning.site_type around site in let c = born_here u ws.call site t x n (sound_here u d) in let z = born u (Meaning.new_cell ws.call site t x) in let f = down d c.0 in
      h size x ws (Meaning.with_home env site (length u.store)) z f (ways_at ws g f) (env_with (limit z) env site (length u.store) (env_at env v f) c.1)) w s
  good_begin (over_slice e t) ws env k b g v h w s = good_ev around count calls gc e ws env _ b g v (λ x u d n. h _ x (holding ws e x) env u d (good_holding ws e x (ways_at ws g d) n) (env_at env v d)) w s
  good_begin (over_pointer at e size t) ws env k b g v h w s = good_ev around count calls gc e ws env _ b g v (λ x u d n. h size x (holding ws e x) env u d (good_holding ws e x (ways_at ws g d) n) (env_at env v d)) w s
  good_begin (over_pointed size) ws env k b g v h w s = h size _ ws env w s (ways_at ws g s) (env_at env v s)

  -- a round of `range`, with a body that goes on well
  module _ (body : Part) (p : GoodPart count body) (out : ℕ → Env → Go) where
    good_index_round : (key : Left) {m : ℕ} (ws : Ways) (i : ℕ) → LeftIsBare count key → GoodWays count m ws → ((c : ℕ) → GoodNext m (out c)) → GoodBody m (Meaning.index_round around calls fuel key body ws out i)
    good_index_round key {m} ws i b g o = record {
      by = λ n le c env j v h w s. let gn = ways_up m n ws le g in
          good_ready around count calls gc key ws env _ b gn v (λ a u d q. good_land around count a (int (pos i)) ws env _ (ways_at ws gn d) (env_at env v d) q tt
          (λ env1 z e v1. let f = down d e in good_in_loop body ws (out c) (Meaning.to_next_count c j) env1 p (ways_at ws gn f) (λ env2 y r v2. o c env2 y (sound_down m n y le (down f r)) v2)
          (λ env2 y r v2. good_next_count c j h env2 y (down f r) v2) v1 z (sound_here z e)) u (sound_here u d)) w s;
    }

    good_reading_round : (get : ℕ → Ways → Env → Then Value → Go) (key value : Left) {m : ℕ} (ws : Ways) (i : ℕ) → GoodGet get → LeftIsBare count key → LeftIsBare count value → GoodWays count m ws → ((c : ℕ) → GoodNext m (out c)) → GoodBody m (Meaning.reading_round around calls fuel get key value body ws out i)
    good_reading_round get key value {m} ws i gg bk bv g o = record {
      by = λ n le c env j v h w s. let gn = ways_up m n ws le g in
          good_ready_all around count calls gc (key ∷ value ∷ []) ws env
          (λ those ws1. get i ws env (λ y. Meaning.land_all around those (int (pos i) ∷ y ∷ []) ws env (λ env1. Meaning.in_loop body ws (out c) (Meaning.to_next_count c j) env1)))
          (bk, (bv, tt)) gn v (λ those ws1 u d q g1. gg.by i ws env _ (ways_at ws gn d)
          (λ y a f l. let df = down d f in good_land_all around count those (int (pos i) ∷ y ∷ []) ws env _ (ways_at ws gn df) (env_at env v df) (landings_up those (limit u) (limit a) f.from q) (tt, (l, tt))
          (λ env1 z e v1. let r = down df e in good_in_loop body ws (out c) (Meaning.to_next_count c j) env1 p (ways_at ws gn r) (λ env2 y2 r2 v2. o c env2 y2 (sound_down m n y2 le (down r r2)) v2)
          (λ env2 y2 r2 v2. good_next_count c j h env2 y2 (down r r2) v2) v1 z (sound_here z e)) a (sound_here a f)) u (sound_here u d)) w s;
    }

    good_round : (o : Over) (x : Value) (key value : Left) {m : ℕ} (ws : Ways) (i : ℕ) → LeftIsBare count key → LeftIsBare count value → GoodWays count m ws → ((c : ℕ) → GoodNext m (out c)) → GoodBody m (Meaning.range_round around calls fuel o x key value body ws out i)
    good_round (over_int e) x key value ws i bk bv g o = good_index_round key ws i bk g o
    good_round (over_length size) x key value ws i bk bv g o = good_index_round key ws i bk g o
    good_round (over_copy site e size) x key value ws i bk bv g o = good_reading_round (Meaning.read_copied site) key value ws i (get_copied site) bk bv g o
    good_round (over_slice e t) x key blank ws i bk bv g o = good_index_round key ws i bk g o
    good_round (over_slice e t) x key value ws i bk bv g o = good_reading_round (Meaning.read_sliced x) key value ws i (get_sliced x) bk bv g o
    good_round (over_pointer at e size t) x key blank ws i bk bv g o = good_index_round key ws i bk g o
    good_round (over_pointer at e size t) x key value ws i bk bv g o = good_reading_round (Meaning.read_pointed at x) key value ws i (get_pointed at x) bk bv g o
    good_round (over_pointed size) x key value ws i bk bv g o = good_index_round key ws i bk g o

  mutual
    good_exec : (st : St) {m : ℕ} (ws : Ways) (env : Env) (k : Env → Go) → StatementIsBare count st → GoodWays count m ws → EnvBelow m env → GoodNext m k → Good m (Meaning.exec around calls fuel st ws env k)
    good_exec (declare sites) ws env k b g v h w s = good_zeros around count sites ws.call env k v h w s
    good_exec (assign ls es) ws env k b g v h w s =
        good_ready_all around count calls gc ls ws env _ b.0 g v (λ those ws1 u d q g1. good_evs around count calls gc es ws1 env _ b.1 g1 (env_at env v d)
        (λ vs z c p. let f = down d c in good_land_all around count those vs ws env k (ways_at ws g f) (env_at env v f) (landings_up those (limit u) (limit z) c.from q) p (next_at k h f) z (sound_here z c)) u (sound_here u d)) w s
    good_exec (update at q op e) ws env k b g v h w s =
        good_aim around count calls gc q ws env _ b.0 g v (λ a u d n. good_settle a ws env _ (ways_at ws g d) n (λ p z c l. let f = down d c in let x = read_at z p.variable p.path in
        good_ev around count calls gc e (holding (holding_all ws (Meaning.base_values ws.call a.base)) (read q) x) env _ b.1
        (good_holding (holding_all ws (Meaning.base_values ws.call a.base)) (read q) x (good_holding_all ws (Meaning.base_values ws.call a.base) (ways_at ws g f) (base_values_named ws.call a.base (limit z) (base_up a.base (limit u) (limit z) c.from n.0))) (read_named z p.variable p.path c)) (env_at env v f)
        (λ y o r i. let t = down f r in good_or_panic (NamesBelow (limit o)) ws env at (binary_of op x y) _ o g t (binary_named op x y (limit o) (more_named x (limit z) (limit o) r.from (read_named z p.variable p.path c)))
        (λ x1 i1. let e1 = wrote o p.variable p.path x1 i1 t in h env _ e1 (env_at env v e1))) z (sound_here z c)) u (sound_here u d)) w s
    good_exec (bump at q op) ws env k b g v h w s =
        good_aim around count calls gc q ws env _ b g v (λ a u d n. good_settle a ws env _ (ways_at ws g d) n (λ p z c l. let f = down d c in let x = read_at z p.variable p.path in
        good_or_panic (NamesBelow (limit z)) ws env at (binary_of op x (int (pos 1))) _ z g f (binary_named op x (int (pos 1)) (limit z) (read_named z p.variable p.path c))
        (λ x1 i1. let e1 = wrote z p.variable p.path x1 i1 f in h env _ e1 (env_at env v e1))) u (sound_here u d)) w s
    good_exec (discard es) ws env k b g v h w s = good_evs around count calls gc es ws env _ b g v (λ vs u d n. h env u d (env_at env v d)) w s
    good_exec (block ss) ws env k b g v h w s = good_exec_all ss ws env k b g v h w s
    good_exec (if_stmt e c f) ws env k b g v h w s =
        good_ev around count calls gc e ws env _ b.0 g v (λ x u d n. good_when (Meaning.is_true x) _ _ u (good_exec_all c ws env k b.1 g v h u d) (good_exec_all f ws env k b.2 g v h u d)) w s
    good_exec (for_stmt sites test post body) {m} ws env k b g v h w s =
        good_rounds fuel (Meaning.test_of around calls test ws) (λ n1 env1 j. Meaning.in_loop (Meaning.exec_all around calls fuel body) ws (Meaning.outside k n1) (Meaning.to_next around n1 sites (Meaning.exec_all around calls fuel post) ws j) env1) (Meaning.outside k)
        (record { by = λ n le e j v1 h1. good_test around count calls gc test ws e j b.0 (ways_up m n ws le g) v1 h1 })
        (record {
          by = λ n le c e j v1 h1. good_in_loop (Meaning.exec_all around calls fuel body) ws (Meaning.outside k c) (Meaning.to_next around c sites (Meaning.exec_all around calls fuel post) ws j) e
              (record { by = λ ws1 env1 k1 g1 v2 h2. good_exec_all body ws1 env1 k1 b.2 g1 v2 h2 }) (ways_up m n ws le g) (λ env2 y r v2. h env2 y (sound_down m n y le r) v2)
              (good_next around c sites (Meaning.exec_all around calls fuel post) ws j (record { by = λ ws1 env1 k1 g1 v2 h2. good_exec_all post ws1 env1 k1 b.1 g1 v2 h2 }) (ways_up m n ws le g) h1) v1;
        })
        (λ c. good_outside k h c) m (omega arith) (length w.store - length sites) env v w s
    good_exec (range over key value body) ws env k b g v h w s =
        good_begin over ws env _ b.0 g v (λ size x ws1 env1 u d g1 v1. good_counted fuel 0 size (Meaning.range_round around calls fuel over x key value (Meaning.exec_all around calls fuel body) ws1 (Meaning.outside k)) (Meaning.outside k)
        (λ i. good_round (Meaning.exec_all around calls fuel body) (record { by = λ ws2 env2 k2 g2 v2 h2. good_exec_all body ws2 env2 k2 b.3 g2 v2 h2 }) (Meaning.outside k) over x key value ws1 i b.1 b.2 g1 (λ c. good_outside k (next_at k h d) c))
        (λ c. good_outside k (next_at k h d) c) (limit u) (omega arith) (length u.store) env1 v1 u (sound_here u d)) w s
    good_exec break_stmt ws env k b g v h w s = g.broken env w s (env_at env v s)
    good_exec continue_stmt ws env k b g v h w s = g.continued env w s (env_at env v s)
    good_exec (return_stmt es) ws env k b g v h w s = good_evs around count calls gc es ws env _ b g v (λ vs u d n. g.returned vs env u d n (env_at env v d)) w s
    good_exec (print ln ps) ws env k b g v h w s = good_pieces around count calls gc ps ws env _ b g v (λ bs u d. good_emit ln bs (k env) (λ z e. h env z (down d e) (env_at env v (down d e))) u (sound_here u d)) w s
    good_exec (panic at (text number)) ws env k b g v h w s = g.panicked at _ env w s
    good_exec (panic at (shown t e)) ws env k b g v h w s = good_ev around count calls gc e ws env _ b g v (λ x u d n. g.panicked at _ env u d) w s
    good_exec (exit at e) ws env k b g v h w s = good_ev around count calls gc e ws env _ b g v (λ x u d n. good_quit (Meaning.int_of x) ws env at g u d) w s

    good_exec_all : (ss : Sts) {m : ℕ} (ws : Ways) (env : Env) (k : Env → Go) → StatementsAreBare count ss → GoodWays count m ws → EnvBelow m env → GoodNext m k → Good m (Meaning.exec_all around calls fuel ss ws env k)
    good_exec_all done {m} ws env k b g v h w s = good_state w ws.held (k env w) s (held_more_named ws.held m (limit w) s.from g.held) (h env w s (env_at env v s))
    good_exec_all (next st ss) {m} ws env k b g v h w s =
        good_state w ws.held (Meaning.exec around calls fuel st ws env (λ env1. Meaning.exec_all around calls fuel ss ws env1 k) w) s (held_more_named ws.held m (limit w) s.from g.held)
        (good_exec st ws env (λ env1. Meaning.exec_all around calls fuel ss ws env1 k) b.0 g v (λ env1 u d v1. good_exec_all ss ws env1 k b.1 (ways_at ws g d) v1 (next_at k h d) u (sound_here u d)) w s)

-- ---- calls

good_writes : (sites : List ℕ) (vs : List Value) (env : Env) (h : Go) {m : ℕ} → EachNamesBelow m vs → Good m h → Good m (Meaning.write_results sites vs env h)
good_writes [] vs env h n g w s = g w s
good_writes (site ∷ sites) [] env h n g w s = g w s
good_writes (site ∷ sites) (x ∷ vs) env h {m} n g w s = good_writes sites vs env h n.1 g _ (written_sound m w (env site) [] x n.0 s)

good_reads : (sites : List ℕ) (env : Env) (k : Then (List Value)) {m : ℕ} → GoodList m k → Good m (Meaning.read_results sites env k)
good_reads [] env k h w s = h [] w s tt
good_reads (site ∷ sites) env k h w s =
    let x = read_at w (env site) [] in good_reads sites env (λ vs. k (x ∷ vs)) (λ vs u d n. h (x ∷ vs) u (down s d) (more_named x (limit w) (limit u) d.from (read_named w (env site) [] s), n)) w (sound_here w s)

good_leave : (named : List ℕ) (c : ℕ) (k : Then (List Value)) {m : ℕ} → GoodList m k → (vs : List Value) (env : Env) (w : World) → Sound m w → EachNamesBelow (limit w) vs → NamesAreThere (Meaning.leave named c k vs env w)
good_leave [] c k h vs env w s n = h vs w s n
good_leave (site ∷ sites) c k h vs env w s n =
    good_writes (site ∷ sites) vs env (Meaning.read_results (site ∷ sites) env (Meaning.leave_with c k)) n (λ u d. good_reads (site ∷ sites) env (Meaning.leave_with c k) (λ rs z e p. h rs z (down s (down d e)) p) u (sound_here u d)) w (sound_here w s)

none_some : {func : Func} → None ≡ Some func → ⊥
none_some h = cc

module _ (around : Setting) (count : ℕ) (funcs : List Func) (bare : BodiesAreBare count funcs) where
  body_bare : (fs : List Func) (f : ℕ) (func : Func) → BodiesAreBare count fs → slice_get fs f ≡ Some func → StatementsAreBare count func.body
  body_bare [] f func b is = absurd (none_some is)
  body_bare (g ∷ fs) zero func b is = let e : g ≡ func = cc in subst (λ x. StatementsAreBare count x.body) e b.0
  body_bare (g ∷ fs) (suc f) func b is = body_bare fs f func b.1 is

  good_body : (calls : Calls) (gc : GoodCalls count calls) (fuel f : ℕ) (o : Option Func) → slice_get funcs f ≡ o → {m : ℕ} (vs : List Value) (ws : Ways) (env : Env) (k : Then (List Value)) → GoodWays count m ws → EnvBelow m env → EachNamesBelow m vs → GoodList m k
      → Good m (Meaning.run_body around funcs calls fuel f o vs ws env k)
  good_body calls gc fuel f None is vs ws env k g v n h w s = h [] w s tt
  good_body calls gc fuel f (Some func) is {m} vs ws env k g v n h w s =
      let c = length w.store in
      let nw = each_more_named vs m (limit w) s.from n in
      let back : (rs : List Value) (e : Env) (u : World) → Sound m u → EachNamesBelow (limit u) rs → NamesAreThere (Meaning.leave func.named c k rs e u) = good_leave func.named c k h in
      let inside : Env → Go = λ env2. Meaning.exec_all around calls fuel func.body (Meaning.ways_in func.named c ws env k) env2 (Meaning.leave func.named c k []) in
      let entry : Env → Go = λ env1. Meaning.bear_zeros around c func.named env1 inside in
      good_entry w vs (Meaning.bear_params around c func.params vs (λ x. 0) entry w) s nw (good_params around count func.params vs c (λ x. 0) entry (λ site. omega arith) nw
      (λ env1 u d v1. good_zeros around count func.named c env1 inside v1
      (λ env2 z e v2. let f1 = down s (down d e) in good_exec_all around count calls gc fuel func.body (Meaning.ways_in func.named c ws env k) env2 (Meaning.leave func.named c k [])
      (body_bare funcs f func bare is)
      (record {
        some = omega arith;
        globals = (let l = g.globals in let p = f1.from in omega arith);
        broken = λ e1 y r v3. back [] e1 y (down f1 r) tt;
        continued = λ e1 y r v3. back [] e1 y (down f1 r) tt;
        returned = λ rs e1 y r p v3. back rs e1 y (down f1 r) p;
        panicked = λ at x e1 y r. g.panicked at x env y (down f1 r);
        held = held_more_named ws.held m (limit z) f1.from g.held;
      }) v2 (λ e1 y r v3. back [] e1 y (down f1 r) tt) z (sound_here z e)) u (sound_here u d)) w (sound_here w s))

  good_calls : (fuel : ℕ) → GoodCalls count (Meaning.call_at around funcs fuel)
  good_calls zero = record { by = λ f vs ws env k g v n h w s. tt }
  good_calls (suc fuel) = record { by = λ f vs ws env k g v n h w s. good_body (Meaning.call_at around funcs fuel) (good_calls fuel) (suc fuel) f (slice_get funcs f) refl vs ws env k g v n h w s }

-- ---- whole runs

good_globals : (around : Setting) (gs : List (ℕ × Value)) (h : Go) (m c : ℕ) → GlobalsAreBare gs → ((w : World) → Sound m w → c + length gs ≤ length w.store → NamesAreThere (h w)) → (w : World) → Sound m w → c ≤ length w.store → NamesAreThere (Meaning.bear_globals around gs h w)
good_globals around [] h m c b g w s le = g w s (omega arith)
good_globals around ((site, x) ∷ gs) h m c b g w s le =
    let t = Meaning.site_type around site in let d = born_sound m w (Meaning.new_cell 0 site t x) (more_named x 0 m (omega arith) b.0) s in
    good_globals around gs h m (suc c) b.1 (λ u e l. g u e (omega arith)) (born w (Meaning.new_cell 0 site t x)) d.0 (let l = d.2 in omega arith)

pub pointers_name_variables : PointersNameVariables
pointers_name_variables items p n bare =
    let around = Meaning.setting_of items p in
    let count = length p.globals in
    good_globals around p.globals _ 1 0 bare.globals
    (λ w s le. (good_calls around count p.funcs bare.bodies (suc n)).by p.main [] Meaning.at_top (λ x. 0) _
    (record { some = omega arith; globals = omega arith; broken = λ e u d v. tt; continued = λ e u d v. tt; returned = λ vs e u d h v. tt; panicked = λ at f e u d. tt; held = tt })
    (λ site. omega arith) tt (λ rs u d h. tt) w (sound_here w s))
    Meaning.beginning (record { from = omega arith; cells = tt }) (omega arith)
