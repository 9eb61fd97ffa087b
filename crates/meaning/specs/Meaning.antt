-- What a typed program does.
use Rattle.std.specs.Prelude.{ℕ, zero, suc, ◌+◌, ◌*◌, ◌-◌, ℤ, pos, negsuc, Bool, true, false, List, [], ◌∷◌, ◌++◌, length, Option, Some, None, Result, Ok, Err, get_or, slice_get, if◌then◌else◌, nat_eq, nat_lt, nat_le, min, max}
use Rattle.std.specs.Fmt.{signed_decimal}
use Rattle.typed_syntax.specs.Positions.{Position}
use Rattle.typed_syntax.specs.Types.{TypeTree, ints, array_of, width}
use Rattle.typed_syntax.specs.Value.{Value, int, bool, composite, pointer, slice_in, words, words_in, zero_of as zero_value}
use Rattle.typed_syntax.specs.Paths.{no_value, part, with_part}
use Rattle.typed_syntax.specs.Syntax.{Ex, Exs, Pl, Steps, Left, Piece, Over, St, Sts, Func, Program, constant, read, unary, binary, logical_and, logical_or, call, part_of, literal, nil, address_of, new_variable, literal_variable, slice_literal, make, append, append_slice, copy, slicing, array_slicing, len, cap, Bound, absent, bound, Elements, no_elements, element, none, more, results, read_int, local, global, indirect, slice_element, here, inner, at_index, blank, new, to, text, shown, over_int, over_length, over_copy, over_slice, over_pointer, over_pointed, declare, assign, update, bump, discard, block, if_stmt, for_stmt, range, break_stmt, continue_stmt, return_stmt, print, panic, exit, done, next, type_in}
use Rattle.meaning.specs.Trace.{Entry, Call, Return, Born, Read, Write, Print, Asked, Fault, nil_dereference, index_out_of_range, exit_code, raised_text, raised, Ending, Exit, Panic, World, Cell, of_ex, of_exs, Held, Mark, state, entered, ended, copied, Trace, Turn, Note, Seen, End, Cut}
use Rattle.meaning.specs.Store.{read_at, written, values_of, elements_at, elements_written, born}
use Rattle.meaning.specs.Operators.{unary_of, binary_of, slice_variable, slice_path, slice_first, slice_count, slice_room, slice_part, array_part, sizes_of}

-- what goes on from a state, and what goes on with something
abbrev pub Go : Type 0
Go = World → Trace

abbrev pub Then : Type 0 → Type 0
Then A = A → Go

-- the variable of each site in the running call
abbrev pub Env : Type 0
Env = ℕ → ℕ

abbrev pub home : Env → ℕ → ℕ
home env site = env site

abbrev pub with_home : Env → ℕ → ℕ → Env
with_home env site v = λ x. if nat_eq x site then v else env x

-- where a statement can lead, besides to what follows it: past its loop, to the loop's next round, past its
-- call, and where a panic leads; the values that running evaluations hold meanwhile, and the number of variables at the
-- entry of the running call
pub record Ways : Type 0 where
  pub broken : Env → Go
  pub continued : Env → Go
  pub returned : List Value → Env → Go
  pub panicked : Position → Fault → Env → Go
  pub held : List Held
  pub call : ℕ

-- a function called by its number
abbrev pub Calls : Type 0
Calls = ℕ → List Value → Ways → Env → Then (List Value) → Go

-- what `readInt` finds: the item's number where it is good, and else nothing
abbrev pub Item : Type 0
Item = Option ℤ

-- what a run takes from around the function: the types by their numbers, the type of each site, the bytes of each string, and
-- the items of the input in order, without an end
pub record Setting : Type 0 where
  pub types : List TypeTree
  pub sites : List TypeTree
  pub strings : List (List ℕ)
  pub items : ℕ → Item

-- the primitives; nothing else names a state

abbrev pub turn : Go → Go
turn g w = Turn (g w)

abbrev pub note : Entry → Go → Go
note e g w = Note e (g w)

abbrev pub mark : Mark → Go → Go
mark m g w = Seen m (g w)

abbrev pub stop : Ending → Go
stop e w = End e

abbrev pub no_fuel : Go
no_fuel w = Cut

-- a state in which these values are held
abbrev pub see : List Held → Go → Go
see vs g w = Seen (state w vs) (g w)

abbrev pub see_call : List Value → Go → Go
see_call vs g w = Seen (entered w vs) (g w)

-- the number of variables so far
abbrev pub births : Then ℕ → Go
births k w = k (length w.store) w

abbrev pub read_part : ℕ → List ℕ → Then Value → Go
read_part v path k w = Note (Read v path (words (read_at w v path))) (k (read_at w v path) w)

abbrev pub write_part : ℕ → List ℕ → Value → Go → Go
write_part v path x g w = Note (Write v path (words x)) (g (written w v path x))

-- n elements of the array at a path of a variable, from one on, are read as one part, and so are some written
abbrev pub read_elements : ℕ → List ℕ → (first n : ℕ) → Then (List Value) → Go
read_elements v path first n k w = Note (Read v (path ++ first ∷ []) (words_in (values_of (elements_at w v path first n)))) (k (elements_at w v path first n) w)

abbrev pub write_elements : ℕ → List ℕ → (first : ℕ) → List Value → Go → Go
write_elements v path first xs g w = Note (Write v (path ++ first ∷ []) (words_in (values_of xs))) (g (elements_written w v path first xs))

-- the type of a site's variables, and of the elements of its arrays
abbrev pub site_type : Setting → ℕ → TypeTree
site_type around site = get_or around.sites site ints

abbrev pub new_cell : (entry site : ℕ) → TypeTree → Value → Cell
new_cell entry site t x = record { site = site; call = entry; type = t; value = x }

-- a new variable of a site, in the call with this number, of a type
abbrev pub bear : (entry site : ℕ) → TypeTree → Value → Then ℕ → Go
bear entry site t x k w = Note (Born site (words x)) (k (length w.store) (born w (new_cell entry site t x)))

-- a new array of n elements; its words are those of its elements, so no value is made to count them
abbrev pub bear_array : (entry site : ℕ) → TypeTree → (n : ℕ) → Value → Then ℕ → Go
bear_array entry site t n x k w = Note (Born site (n * width t)) (k (length w.store) (born w (new_cell entry site (array_of n t) x)))

-- the two results of `readInt`
abbrev pub item_values : Item → List Value
item_values None = int (pos 0) ∷ bool false ∷ []
item_values (Some z) = int z ∷ bool true ∷ []

-- the next item is read
abbrev pub ask : Setting → Then (List Value) → Go
ask around k w = Note Asked (k (item_values (around.items w.reads)) (record { store = w.store; reads = suc w.reads }))

-- what stands above these

-- a value that a call holds, at whose entry there were so many variables
abbrev pub held_from : (entry : ℕ) → Ex → Value → Held
held_from entry e v = record { value = v; origin = of_ex e; call = entry }

-- the values of some expressions, from a number on
abbrev pub all_held : (entry : ℕ) → Exs → (number : ℕ) → List Value → List Held
all_held entry es number [] = []
all_held entry es number (v ∷ vs) = record { value = v; origin = of_exs es number; call = entry } ∷ all_held entry es (suc number) vs

abbrev pub holding_all : Ways → List Held → Ways
holding_all ws vs = record { broken = ws.broken; continued = ws.continued; returned = ws.returned; panicked = ws.panicked; held = vs ++ ws.held; call = ws.call }

-- the value of an expression is held
abbrev pub holding : Ways → Ex → Value → Ways
holding ws e v = holding_all ws (held_from ws.call e v ∷ [])

-- the end of an expression's evaluation
abbrev pub give : Ways → Ex → Then Value → Then Value
give ws e k v = see (held_from ws.call e v ∷ ws.held) (k v)

-- the end of an evaluation that gives several values
abbrev pub give_all : Ways → Exs → Then (List Value) → Then (List Value)
give_all ws es k vs = see (all_held ws.call es 0 vs ++ ws.held) (k vs)

-- the value of a call with one result
abbrev pub only_value : List Value → Value
only_value [] = no_value
only_value (v ∷ vs) = v

abbrev pub or_panic : {A : Type 0} → Ways → Env → Position → Result A Fault → Then A → Go
or_panic ws env at (Ok a) k = k a
or_panic ws env at (Err f) k = ws.panicked at f env

abbrev pub when : Bool → Go → Go → Go
when true g h = g
when false g h = h

abbrev pub is_true : Value → Bool
is_true (bool b) = b
is_true v = false

abbrev pub branch : Value → Go → Go → Go
branch v g h = when (is_true v) g h

-- the operands of a place: where it begins, and the steps from there
pub data Base : Type 0 where
  variable : ℕ → Base
  -- what a pointer leads to, with the pointer's expression
  through : Position → Ex → Value → Base
  -- the element of a slice with an index, with the expressions of both
  indexed : Position → (slice : Ex) → Value → (index : Ex) → Value → Base

pub data Step : Type 0 where
  fixed : ℕ → Step
  -- an index that was worked out, with its expression, and the length of the array
  worked : Position → Ex → Value → ℕ → Step

pub record Aim : Type 0 where
  pub base : Base
  pub steps : List Step

-- a part of a variable
pub record Spot : Type 0 where
  pub variable : ℕ
  pub path : List ℕ

-- where no panic can be
abbrev pub no_pos : Position
no_pos = record { offset = 0; line = 0; col = 0 }

abbrev pub int_of : Value → ℤ
int_of (int z) = z
int_of v = pos 0

-- an element's number, where there is one with an index
abbrev pub element_of : ℤ → (length : ℕ) → Result ℕ Fault
element_of (pos i) n = if nat_lt i n then Ok i else Err (index_out_of_range (pos i) (pos n))
element_of (negsuc i) n = Err (index_out_of_range (negsuc i) (pos n))

-- each index that was worked out takes a turn, and is tested
abbrev pub settle_steps : Ways → Env → List Step → ℕ → List ℕ → Then Spot → Go
settle_steps ws env [] v path k = k (record { variable = v; path = path })
settle_steps ws env (fixed i ∷ steps) v path k = settle_steps ws env steps v (path ++ i ∷ []) k
settle_steps ws env (worked at e x n ∷ steps) v path k = turn (or_panic ws env at (element_of (int_of x) n) (λ i. settle_steps ws env steps v (path ++ i ∷ []) k))

-- where a pointer leads
abbrev pub pointed : Value → Result Spot Fault
pointed (pointer v path) = Ok (record { variable = v; path = path })
pointed v = Err nil_dereference

-- the element of a slice with this number
abbrev pub element_spot : Value → Result ℕ Fault → Result Spot Fault
element_spot s (Ok i) = Ok (record { variable = slice_variable s; path = slice_path s ++ (slice_first s + i) ∷ [] })
element_spot s (Err f) = Err f

-- where a place begins, or the fault, and the position that a panic names
abbrev pub base_spot : Base → Result Spot Fault
base_spot (variable v) = Ok (record { variable = v; path = [] })
base_spot (through at e v) = pointed v
base_spot (indexed at e s f i) = element_spot s (element_of (int_of i) (slice_count s))

abbrev pub base_position : Base → Position
base_position (variable v) = no_pos
base_position (through at e v) = at
base_position (indexed at e s f i) = at

-- a place takes its turn when its operands are known, and is tested where it begins; its indices follow
abbrev pub settle : Ways → Env → Aim → Then Spot → Go
settle ws env a k = turn (or_panic ws env (base_position a.base) (base_spot a.base) (λ q. settle_steps ws env a.steps q.variable q.path k))

-- the zero value of a site's type
abbrev pub zero_of : Setting → ℕ → Value
zero_of around site = zero_value (site_type around site)

-- `append` and `copy`

-- so many first elements of a slice
abbrev pub read_first : (n : ℕ) → Value → Then (List Value) → Go
read_first zero s k = k []
read_first (suc n) s k = read_elements (slice_variable s) (slice_path s) (slice_first s) (suc n) k

-- elements into a slice's array, so far behind the slice's first one
abbrev pub write_behind : (n : ℕ) → Value → List Value → Go → Go
write_behind n s [] g = g
write_behind n s (x ∷ xs) g = write_elements (slice_variable s) (slice_path s) (slice_first s + n) (x ∷ xs) g

-- a slice of so many more elements of the same array
abbrev pub longer : Value → ℕ → Value
longer s n = slice_in (slice_variable s) (slice_path s) (slice_first s) (slice_count s + n) (slice_room s)

abbrev pub add_within : Value → List Value → Then Value → Go
add_within s xs k = write_behind (slice_count s) s xs (k (longer s (length xs)))

module _ (around : Setting) (entry site : ℕ) where
  -- a new array of a site, of zeros
  abbrev pub bear_zero_array : (n : ℕ) → Then ℕ → Go
  bear_zero_array n k = bear_array entry site (site_type around site) n (zero_value (array_of n (site_type around site))) k

  -- a new array gets the elements of a slice, with room for so many
  abbrev pub regrow : Value → (room : ℕ) → Then Value → Go
  regrow s room k =
      bear_zero_array room (λ x. read_first (slice_count s) s (λ old. write_behind 0 (slice_in x [] 0 (slice_count s) room) old (k (slice_in x [] 0 (slice_count s) room))))

  -- elements behind those of a slice: in its array where they have room there, and else in a new one
  abbrev pub add_to : Value → List Value → Then Value → Go
  add_to s [] k = k s
  add_to s (x ∷ xs) k =
      when (nat_le (slice_count s + length (x ∷ xs)) (slice_room s)) (add_within s (x ∷ xs) k)
      (regrow s (max (slice_count s + length (x ∷ xs)) (2 * slice_room s)) (λ r. add_within r (x ∷ xs) k))

-- how many elements `copy` moves
abbrev pub copy_count : (target source : Value) → ℕ
copy_count d s = min (slice_count d) (slice_count s)

abbrev pub copy_first : (n : ℕ) → (target source : Value) → Go → Go
copy_first n d s g = read_first n s (λ xs. write_behind 0 d xs g)

-- the value of a bound that is there is held
abbrev pub bound_values : (entry : ℕ) → Bound → Value → List Held
bound_values entry absent v = []
bound_values entry (bound e) v = held_from entry e v ∷ []

-- expressions
module _ (around : Setting) (calls : Calls) where
  abbrev mutual
    -- the operands of a place
    pub walk : Steps → Ways → Env → Then (List Step) → Go
    walk here ws env k = k []
    walk (inner i steps) ws env k = walk steps ws env (λ r. k (fixed i ∷ r))
    walk (at_index at e n steps) ws env k = ev e ws env (λ v. walk steps (holding ws e v) env (λ r. k (worked at e v n ∷ r)))

    pub aim : Pl → Ways → Env → Then Aim → Go
    aim (local site steps) ws env k = walk steps ws env (λ r. k (record { base = variable (home env site); steps = r }))
    -- the package variables are the first that are born
    aim (global g steps) ws env k = walk steps ws env (λ r. k (record { base = variable g; steps = r }))
    aim (indirect at e n steps) ws env k = ev e ws env (λ v. walk steps (holding ws e v) env (λ r. k (record { base = through at e v; steps = r })))
    aim (slice_element at e i n steps) ws env k =
        ev e ws env (λ v. ev i (holding ws e v) env (λ u. walk steps (holding (holding ws e v) i u) env (λ r. k (record { base = indexed at e v i u; steps = r }))))

    pub ev : Ex → Ways → Env → Then Value → Go
    ev (constant v) ws env k = turn (give ws (constant v) k v)
    ev (read p) ws env k = aim p ws env (λ a. settle ws env a (λ q. read_part q.variable q.path (give ws (read p) k)))
    ev (unary op e) ws env k = ev e ws env (λ v. turn (give ws (unary op e) k (unary_of op v)))
    ev (binary at op a b) ws env k = ev a ws env (λ v. ev b (holding ws a v) env (λ u. turn (or_panic ws env at (binary_of op v u) (give ws (binary at op a b) k))))
    ev (logical_and a b) ws env k = ev a ws env (λ v. turn (branch v (ev b ws env k) (give ws (logical_and a b) k (bool false))))
    ev (logical_or a b) ws env k = ev a ws env (λ v. turn (branch v (give ws (logical_or a b) k (bool true)) (ev b ws env k)))
    ev (call f es) ws env k = evs es ws env (λ vs. turn (calls f vs ws env (λ rs. give ws (call f es) k (only_value rs))))
    ev (part_of n i e) ws env k = ev e ws env (λ v. turn (give ws (part_of n i e) k (part v i)))
    ev (literal n es) ws env k = turn (fill es (zero_value (type_in around.types n)) ws env (give ws (literal n es) k))
    ev (nil t) ws env k = turn (give ws (nil t) k (zero_value t))
    ev (address_of p) ws env k = aim p ws env (λ a. settle ws env a (λ q. give ws (address_of p) k (pointer q.variable q.path)))
    ev (new_variable site) ws env k = turn (bear ws.call site (site_type around site) (zero_of around site) (λ x. give ws (new_variable site) k (pointer x [])))
    ev (literal_variable site e) ws env k = ev e ws env (λ v. turn (bear ws.call site (site_type around site) v (λ x. give ws (literal_variable site e) k (pointer x []))))
    ev (slice_literal site es) ws env k =
        evs es ws env (λ vs. turn (bear_array ws.call site (site_type around site) (length vs) (composite (values_of vs)) (λ x.
        give ws (slice_literal site es) k (slice_in x [] 0 (length vs) (length vs)))))
    -- without a capacity it is the length
    ev (make at site count room) ws env k =
        ev count ws env (λ v. ev_bound room v (holding ws count v) env (λ u. turn (or_panic ws env at (sizes_of (int_of v) (int_of u)) (λ z.
        bear_zero_array around ws.call site z.room (λ x. give ws (make at site count room) k (slice_in x [] 0 z.count z.room))))))
    ev (append site e es) ws env k = ev e ws env (λ s. evs es (holding ws e s) env (λ vs. turn (add_to around ws.call site s vs (give ws (append site e es) k))))
    -- what is added is read before a new array is born
    ev (append_slice site e f) ws env k =
        ev e ws env (λ s. ev f (holding ws e s) env (λ u. turn (read_first (slice_count u) u (λ vs. add_to around ws.call site s vs (give ws (append_slice site e f) k)))))
    ev (copy n e f) ws env k = ev e ws env (λ d. ev f (holding ws e d) env (λ s. turn (copy_first (copy_count d s) d s (give ws (copy n e f) k (int (pos (copy_count d s)))))))
    -- without a low bound it is 0, and without a high one the length
    ev (slicing at n e low high) ws env k =
        ev e ws env (λ s. ev_bound low (int (pos 0)) (holding ws e s) env (λ l.
        ev_bound high (int (pos (slice_count s))) (holding_all (holding ws e s) (bound_values ws.call low l)) env (λ h.
        turn (or_panic ws env at (slice_part s (int_of l) (int_of h)) (give ws (slicing at n e low high) k)))))
    -- the place's address is held
    ev (array_slicing at p n low high) ws env k =
        aim p ws env (λ a. settle ws env a (λ q. ev_bound low (int (pos 0)) (holding ws (address_of p) (pointer q.variable q.path)) env (λ l.
        ev_bound high (int (pos n)) (holding_all (holding ws (address_of p) (pointer q.variable q.path)) (bound_values ws.call low l)) env (λ h.
        turn (or_panic ws env at (array_part q.variable q.path n (int_of l) (int_of h)) (give ws (array_slicing at p n low high) k))))))
    ev (len e) ws env k = ev e ws env (λ v. turn (give ws (len e) k (int (pos (slice_count v)))))
    ev (cap e) ws env k = ev e ws env (λ v. turn (give ws (cap e) k (int (pos (slice_room v)))))

    -- a bound, or this where there is none
    pub ev_bound : Bound → Value → Ways → Env → Then Value → Go
    ev_bound absent v ws env k = k v
    ev_bound (bound e) v ws env k = ev e ws env k

    -- elements of a literal, each of which replaces a part of what stands so far
    pub fill : Elements → Value → Ways → Env → Then Value → Go
    fill no_elements x ws env k = k x
    fill (element i e es) x ws env k = ev e ws env (λ v. fill es (with_part x i v) (holding ws e v) env k)

    pub evs : Exs → Ways → Env → Then (List Value) → Go
    evs none ws env k = k []
    evs (more e es) ws env k = ev e ws env (λ v. evs es (holding ws e v) env (λ vs. k (v ∷ vs)))
    evs (results f es) ws env k = evs es ws env (λ vs. turn (calls f vs ws env (give_all ws (results f es) k)))
    evs read_int ws env k = turn (ask around (give_all ws read_int k))

-- a left side whose operands are known
pub data Landing : Type 0 where
  nowhere : Landing
  birth : ℕ → Landing
  on : Aim → Landing

-- the values that an aim keeps, the newest first: those of indices, and before them what its place begins with
abbrev pub step_values : (entry : ℕ) → List Step → List Held
step_values entry [] = []
step_values entry (fixed i ∷ steps) = step_values entry steps
step_values entry (worked at e x n ∷ steps) = step_values entry steps ++ held_from entry e x ∷ []

abbrev pub base_values : (entry : ℕ) → Base → List Held
base_values entry (variable v) = []
base_values entry (through at e v) = held_from entry e v ∷ []
base_values entry (indexed at e s f i) = held_from entry f i ∷ (held_from entry e s ∷ [])

abbrev pub aim_values : (entry : ℕ) → Aim → List Held
aim_values entry a = step_values entry a.steps ++ base_values entry a.base

abbrev pub landing_values : (entry : ℕ) → Landing → List Held
landing_values entry nowhere = []
landing_values entry (birth site) = []
landing_values entry (on a) = aim_values entry a

module _ (around : Setting) (calls : Calls) where
  abbrev pub ready : Left → Ways → Env → Then Landing → Go
  ready blank ws env k = k nowhere
  ready (new site) ws env k = k (birth site)
  ready (to p) ws env k = aim around calls p ws env (λ a. k (on a))

  -- the left sides' operands; what follows has the ways in which their values are held
  abbrev pub ready_all : List Left → Ways → Env → (List Landing → Ways → Go) → Go
  ready_all [] ws env k = k [] ws
  ready_all (l ∷ ls) ws env k = ready l ws env (λ x. ready_all ls (holding_all ws (landing_values ws.call x)) env (λ xs ws1. k (x ∷ xs) ws1))

module _ (around : Setting) where
  abbrev pub land : Landing → Value → Ways → Env → (Env → Go) → Go
  land nowhere v ws env k = k env
  land (birth site) v ws env k = turn (bear ws.call site (site_type around site) v (λ x. k (with_home env site x)))
  land (on a) v ws env k = settle ws env a (λ q. write_part q.variable q.path v (k env))

  abbrev pub land_all : List Landing → List Value → Ways → Env → (Env → Go) → Go
  land_all [] vs ws env k = k env
  land_all (l ∷ ls) [] ws env k = k env
  land_all (l ∷ ls) (v ∷ vs) ws env k = land l v ws env (λ env1. land_all ls vs ws env1 k)

-- new variables with the zero values of their types
abbrev pub bear_zeros : Setting → (entry : ℕ) → List ℕ → Env → (Env → Go) → Go
bear_zeros around entry [] env k = k env
bear_zeros around entry (site ∷ sites) env k = turn (bear entry site (site_type around site) (zero_of around site) (λ x. bear_zeros around entry sites (with_home env site x) k))

-- printed pieces
abbrev pub shown_bytes : Value → List ℕ
shown_bytes (int z) = signed_decimal z
shown_bytes (bool true) = 116 ∷ 114 ∷ 117 ∷ 101 ∷ []
shown_bytes (bool false) = 102 ∷ 97 ∷ 108 ∷ 115 ∷ 101 ∷ []
shown_bytes v = []

-- the first has no space before it, and without a newline there is none at all
abbrev pub emit_more : List (List ℕ) → Go → Go
emit_more [] g = turn (note (Print (10 ∷ [])) g)
emit_more (b ∷ bs) g = turn (note (Print (32 ∷ [])) (note (Print b) (emit_more bs g)))

abbrev pub emit_line : List (List ℕ) → Go → Go
emit_line [] g = turn (note (Print (10 ∷ [])) g)
emit_line (b ∷ bs) g = turn (note (Print b) (emit_more bs g))

abbrev pub emit_plain : List (List ℕ) → Go → Go
emit_plain [] g = g
emit_plain (b ∷ bs) g = turn (note (Print b) (emit_plain bs g))

abbrev pub emit : Bool → List (List ℕ) → Go → Go
emit true bs g = emit_line bs g
emit false bs g = emit_plain bs g

-- statements
module _ (around : Setting) (calls : Calls) where
  abbrev pub pieces : List Piece → Ways → Env → Then (List (List ℕ)) → Go
  pieces [] ws env k = k []
  pieces (text number ∷ ps) ws env k = pieces ps ws env (λ r. k (get_or around.strings number [] ∷ r))
  pieces (shown t e ∷ ps) ws env k = ev around calls e ws env (λ v. pieces ps (holding ws e v) env (λ r. k (shown_bytes v ∷ r)))

  -- without a condition none is evaluated and no turn is taken
  abbrev pub test_of : Option Ex → Ways → Env → Then Value → Go
  test_of None ws env k = k (bool true)
  test_of (Some e) ws env k = ev around calls e ws env (λ v. turn (k v))

-- a new round's variables, from the old ones
abbrev pub renew : Setting → (entry : ℕ) → List ℕ → Env → (Env → Go) → Go
renew around entry [] env k = k env
renew around entry (site ∷ sites) env k = turn (mark (copied (home env site)) (read_part (home env site) [] (λ v. bear entry site (site_type around site) v (λ x. renew around entry sites (with_home env site x) k))))

-- the rounds of a loop, at most as many tests as there is fuel; a round goes by the number of variables at its beginning
abbrev pub rounds : ℕ → (Env → Then Value → Go) → (ℕ → Env → (ℕ → Env → Go) → Go) → (ℕ → Env → Go) → ℕ → Env → Go
rounds zero test body k n env = no_fuel
rounds (suc fuel) test body k n env = test env (λ v. branch v (body n env (λ n1 env1. turn (rounds fuel test body k n1 env1))) (k n env))

-- the rounds of `range`: which round, and how many are left
abbrev pub counted : ℕ → ℕ → ℕ → (ℕ → ℕ → Env → (ℕ → Env → Go) → Go) → (ℕ → Env → Go) → ℕ → Env → Go
counted zero i left body k n env = no_fuel
counted (suc fuel) i zero body k n env = turn (k n env)
counted (suc fuel) i (suc left) body k n env = turn (body i n env (λ n1 env1. turn (counted fuel (suc i) left body k n1 env1)))

-- a body, which goes on by `again` at its end and at `continue`, and by `out` at `break`
abbrev pub in_loop : (Ways → Env → (Env → Go) → Go) → Ways → (out again : Env → Go) → Env → Go
in_loop body ws out again env = body (record { broken = out; continued = again; returned = ws.returned; panicked = ws.panicked; held = ws.held; call = ws.call }) env again

-- past a loop
abbrev pub outside : (Env → Go) → ℕ → Env → Go
outside k n env = mark (ended n) (k env)

-- from the end of a body to the next round
abbrev pub to_next : Setting → ℕ → List ℕ → (Ways → Env → (Env → Go) → Go) → Ways → (ℕ → Env → Go) → Env → Go
to_next around n sites post ws j env = mark (ended n) (births (λ n1. renew around ws.call sites env (λ env1. post ws env1 (j n1))))

-- from the end of a body to the next round of `range`
abbrev pub to_next_count : ℕ → (ℕ → Env → Go) → Env → Go
to_next_count n j env = mark (ended n) (births (λ n1. j n1 env))

-- an element that `range` reads, by its number: of the copy of an array, of a slice, and of the array that a pointer leads to; where it
-- leads nowhere, the first read is a panic
abbrev pub read_copied : (site i : ℕ) → Ways → Env → Then Value → Go
read_copied site i ws env k = read_part (home env site) (i ∷ []) k

abbrev pub read_sliced : Value → (i : ℕ) → Ways → Env → Then Value → Go
read_sliced s i ws env k = read_part (slice_variable s) (slice_path s ++ (slice_first s + i) ∷ []) k

abbrev pub read_pointed : Position → Value → (i : ℕ) → Ways → Env → Then Value → Go
read_pointed at v i ws env k = or_panic ws env at (pointed v) (λ q. read_part q.variable (q.path ++ i ∷ []) k)

-- how many rounds a number makes
abbrev pub count_of : Value → ℕ
count_of (int (pos n)) = n
count_of v = 0

-- `exit`: a status from 0 to 125
abbrev pub quit_with : Ways → Env → Position → ℤ → Go
quit_with ws env at (pos n) = when (nat_lt n 126) (stop (Exit n)) (ws.panicked at (exit_code (pos n)) env)
quit_with ws env at (negsuc n) = ws.panicked at (exit_code (negsuc n)) env

module _ (around : Setting) (calls : Calls) (fuel : ℕ) where
  -- how many rounds, what is gone over if it is worked out, and the ways in which it is held; of an array there is a copy where its
  -- elements are read, and a slice is gone over as it is at the start
  abbrev pub begin_range : Over → Ways → Env → (ℕ → Value → Ways → Env → Go) → Go
  begin_range (over_int e) ws env k = ev around calls e ws env (λ v. turn (k (count_of v) v (holding ws e v) env))
  begin_range (over_length x) ws env k = turn (k x no_value ws env)
  begin_range (over_copy site e x) ws env k = ev around calls e ws env (λ v. turn (bear ws.call site (site_type around site) v (λ y. turn (k x v ws (with_home env site y)))))
  begin_range (over_slice e t) ws env k = ev around calls e ws env (λ v. turn (k (slice_count v) v (holding ws e v) env))
  begin_range (over_pointer at e x t) ws env k = ev around calls e ws env (λ v. turn (k x v (holding ws e v) env))
  begin_range (over_pointed x) ws env k = turn (k x no_value ws env)

  -- one round with an index: the left side's operands, the left side, the body
  abbrev pub index_round : Left → (Ways → Env → (Env → Go) → Go) → Ways → (ℕ → Env → Go) → ℕ → ℕ → Env → (ℕ → Env → Go) → Go
  index_round key body ws out i n env j =
      ready around calls key ws env (λ a. land around a (int (pos i)) ws env (λ env1. in_loop body ws (out n) (to_next_count n j) env1))

  -- and with an element, whose read takes no turn
  abbrev pub reading_round : (ℕ → Ways → Env → Then Value → Go) → (key value : Left) → (Ways → Env → (Env → Go) → Go) → Ways → (ℕ → Env → Go) → ℕ → ℕ → Env → (ℕ → Env → Go) → Go
  reading_round get key value body ws out i n env j =
      ready_all around calls (key ∷ value ∷ []) ws env (λ those ws1. get i ws env (λ v. land_all around those (int (pos i) ∷ v ∷ []) ws env (λ env1. in_loop body ws (out n) (to_next_count n j) env1)))

  abbrev pub element_round : ℕ → (key value : Left) → (Ways → Env → (Env → Go) → Go) → Ways → (ℕ → Env → Go) → ℕ → ℕ → Env → (ℕ → Env → Go) → Go
  element_round site = reading_round (read_copied site)

  -- a round, by what is gone over; no element of a slice, or behind a pointer, is read for `_`
  abbrev pub range_round : Over → Value → (key value : Left) → (Ways → Env → (Env → Go) → Go) → Ways → (ℕ → Env → Go) → ℕ → ℕ → Env → (ℕ → Env → Go) → Go
  range_round (over_int e) v key value = index_round key
  range_round (over_length x) v key value = index_round key
  range_round (over_copy site e x) v key value = element_round site key value
  range_round (over_slice e t) v key blank = index_round key
  range_round (over_slice e t) v key value = reading_round (read_sliced v) key value
  range_round (over_pointer at e x t) v key blank = index_round key
  range_round (over_pointer at e x t) v key value = reading_round (read_pointed at v) key value
  range_round (over_pointed x) v key value = index_round key

  abbrev mutual
    pub exec : St → Ways → Env → (Env → Go) → Go
    exec (declare sites) ws env k = bear_zeros around ws.call sites env k
    exec (update at p op e) ws env k =
        aim around calls p ws env (λ a. settle ws env a (λ q. read_part q.variable q.path (λ v. ev around calls e (holding (holding_all ws (base_values ws.call a.base)) (read p) v) env (λ u. or_panic ws env at (binary_of op v u) (λ x. write_part q.variable q.path x (k env))))))
    exec (bump at p op) ws env k =
        aim around calls p ws env (λ a. settle ws env a (λ q. read_part q.variable q.path (λ v. or_panic ws env at (binary_of op v (int (pos 1))) (λ x. write_part q.variable q.path x (k env)))))
    exec (assign ls es) ws env k = ready_all around calls ls ws env (λ those ws1. evs around calls es ws1 env (λ vs. land_all around those vs ws env k))
    exec (discard es) ws env k = evs around calls es ws env (λ vs. k env)
    exec (block ss) ws env k = exec_all ss ws env k
    exec (if_stmt e a b) ws env k = ev around calls e ws env (λ v. turn (branch v (exec_all a ws env k) (exec_all b ws env k)))
    exec (for_stmt sites test post body) ws env k =
        births (λ n. rounds fuel (test_of around calls test ws) (λ n1 env1 j. in_loop (exec_all body) ws (outside k n1) (to_next around n1 sites (exec_all post) ws j) env1) (outside k) (n - length sites) env)
    exec (range over key value body) ws env k =
        begin_range over ws env (λ n v ws1 env1. births (λ m. counted fuel 0 n (range_round over v key value (exec_all body) ws1 (outside k)) (outside k) m env1))
    exec break_stmt ws env k = turn (ws.broken env)
    exec continue_stmt ws env k = turn (ws.continued env)
    exec (return_stmt es) ws env k = evs around calls es ws env (λ vs. ws.returned vs env)
    exec (print ln ps) ws env k = pieces around calls ps ws env (λ bs. emit ln bs (k env))
    exec (panic at (text number)) ws env k = turn (ws.panicked at (raised_text (get_or around.strings number [])) env)
    exec (panic at (shown t e)) ws env k = ev around calls e ws env (λ v. turn (ws.panicked at (raised v) env))
    exec (exit at e) ws env k = ev around calls e ws env (λ v. turn (quit_with ws env at (int_of v)))

    pub exec_all : Sts → Ways → Env → (Env → Go) → Go
    exec_all done ws env k = see ws.held (k env)
    exec_all (next s ss) ws env k = see ws.held (exec s ws env (λ env1. exec_all ss ws env1 k))

-- a function's parameters with names, at its entry
module _ (around : Setting) where
  abbrev pub bear_params : (entry : ℕ) → List (Option ℕ) → List Value → Env → (Env → Go) → Go
  bear_params entry [] vs env k = k env
  bear_params entry (p ∷ ps) [] env k = k env
  bear_params entry (None ∷ ps) (v ∷ vs) env k = bear_params entry ps vs env k
  bear_params entry (Some site ∷ ps) (v ∷ vs) env k = turn (bear entry site (site_type around site) v (λ x. bear_params entry ps vs (with_home env site x) k))

-- a return, with values or without: results with names are written, then read
abbrev pub write_results : List ℕ → List Value → Env → Go → Go
write_results [] vs env g = g
write_results (site ∷ sites) [] env g = g
write_results (site ∷ sites) (v ∷ vs) env g = turn (write_part (home env site) [] v (write_results sites vs env g))

abbrev pub read_results : List ℕ → Env → Then (List Value) → Go
read_results [] env k = k []
read_results (site ∷ sites) env k = turn (read_part (home env site) [] (λ v. read_results sites env (λ vs. k (v ∷ vs))))

-- the number is that of the variables at the call's entry
abbrev pub leave_with : ℕ → Then (List Value) → List Value → Go
leave_with n k vs = turn (mark (ended n) (note Return (k vs)))

abbrev pub leave : (named : List ℕ) → ℕ → Then (List Value) → List Value → Env → Go
leave [] n k vs env = leave_with n k vs
leave (site ∷ sites) n k vs env = write_results (site ∷ sites) vs env (read_results (site ∷ sites) env (leave_with n k))

-- from a function's entry to its return; a panic goes on in the caller
abbrev pub ways_in : (named : List ℕ) → ℕ → Ways → Env → Then (List Value) → Ways
ways_in named n ws env k = record { broken = leave named n k []; continued = leave named n k []; returned = leave named n k; panicked = λ at f env1. ws.panicked at f env; held = ws.held; call = n }

module _ (around : Setting) (funcs : List Func) where
  abbrev pub run_body : Calls → ℕ → ℕ → Option Func → List Value → Ways → Env → Then (List Value) → Go
  run_body calls fuel f None vs ws env k = k []
  run_body calls fuel f (Some func) vs ws env k =
      see_call vs (note (Call f) (births (λ n. bear_params around n func.params vs (λ x. 0) (λ env1. bear_zeros around n func.named env1 (λ env2. exec_all around calls fuel func.body (ways_in func.named n ws env k) env2 (leave func.named n k []))))))

  -- a call, with at most `fuel` calls inside each other
  abbrev pub call_at : ℕ → Calls
  call_at zero f vs ws env k = no_fuel
  call_at (suc fuel) f vs ws env k = run_body (call_at fuel) (suc fuel) f (slice_get funcs f) vs ws env k

abbrev pub bear_globals : Setting → List (ℕ × Value) → Go → Go
bear_globals around [] g = g
bear_globals around ((site, v) ∷ gs) g = bear 0 site (site_type around site) v (λ x. bear_globals around gs g)

abbrev pub setting_of : (ℕ → Item) → Program → Setting
setting_of items p = record { types = p.types; sites = p.sites; strings = p.strings; items = items }

-- around `main`: a panic ends the run
abbrev pub at_top : Ways
at_top = record { broken = λ env. stop (Exit 0); continued = λ env. stop (Exit 0); returned = λ vs env. stop (Exit 0); panicked = λ at f env. stop (Panic at f); held = []; call = 0 }

-- the package variables are born, and main runs, with so much fuel
abbrev pub whole : (ℕ → Item) → Program → ℕ → Go
whole items p fuel = bear_globals (setting_of items p) p.globals (call_at (setting_of items p) p.funcs fuel p.main [] at_top (λ x. 0) (λ rs. stop (Exit 0)))

abbrev pub beginning : World
beginning = record { store = []; reads = 0 }

-- what a program does within n turns, where these are the items of the input
abbrev pub trace : (ℕ → Item) → Program → ℕ → Trace
trace items p n = whole items p (suc n) beginning
