-- A program exits with a status that an exit can have.
use Rattle.std.proofs.Common.{◌≡◌, refl, ℕ, zero, suc, ◌+◌, ◌≤◌, ℤ, pos, negsuc, Bool, true, false, List, [], ◌∷◌, Option, Some, None, Result, Ok, Err, subst, arith, slice_get, nat_le, if◌then◌else◌, length, ◌-◌}
use Rattle.std.specs.Prelude.{⊤, ◌*◌, max, nat_lt}
use Rattle.std.proofs.lemmas.Bool.{ltb-true}
use Rattle.typed_syntax.specs.Positions.{Position}
use Rattle.typed_syntax.specs.Value.{Value, int, pointer, slice_in}
use Rattle.typed_syntax.specs.Syntax.{Ex, Exs, Pl, Steps, Elements, Left, Piece, Over, St, Sts, Func, Program, constant, read, unary, binary, logical_and, logical_or, call, part_of, literal, nil, address_of, new_variable, literal_variable, slice_literal, make, append, append_slice, copy, slicing, array_slicing, len, cap, Bound, absent, bound, no_elements, element, none, more, results, read_int, local, global, indirect, slice_element, here, inner, at_index, blank, new, to, text, shown, over_int, over_length, over_copy, over_slice, over_pointer, over_pointed, declare, assign, update, bump, discard, block, if_stmt, for_stmt, range, break_stmt, continue_stmt, return_stmt, print, panic, exit, done, next}
use Rattle.simulation.specs.Outcome as Run
use Rattle.simulation.specs.Outcome.{Outcome, Gives, Ends, Unfinished, upto}
use Rattle.meaning.specs.Trace.{World, Held, Call, Return, Born, Read, Write, Print, Fault, exit_code, Ending, Turns, Exit, Panic, StackLimit, HeapLimit, Trace, Turn, Note, Seen, End, Cut, Asked}
use Rattle.meaning.specs.Store.{read_at, written}
use Rattle.meaning.specs.Operators.{unary_of, binary_of, slice_count, slice_room, slice_part, array_part, sizes_of}
use Rattle.meaning.specs.Meaning.{Go, Then, Env, Ways, Calls, stop, write_part, Item, Setting, counted, int_of, quit_with, give, or_panic, holding, holding_all, when, is_true, Step, fixed, worked, element_of, base_spot, pointed, Aim, Spot, settle_steps, settle, read_first, write_behind, add_within, regrow, add_to, copy_count, copy_first, bound_values, walk, aim, ev, ev_bound, fill, evs, Landing, nowhere, birth, on, landing_values, base_values, ready, ready_all, land, land_all, shown_bytes, emit_more, emit_plain, emit, pieces, test_of, renew, rounds, to_next, to_next_count, in_loop, outside, begin_range, index_round, read_copied, read_sliced, read_pointed, reading_round, range_round, exec, exec_all, bear_params, bear_zeros, write_results, read_results, leave, leave_with, run_body, call_at, bear_globals, setting_of, at_top, beginning, trace}
use Rattle.meaning.specs.Output.{Limits, Sight, Last, last, ending_in, out, source, used_by, tail_of}

abbrev IsGood : Ending → Type 0
IsGood Turns = ⊤
IsGood (Exit status) = status ≤ 125
IsGood (Panic at f) = ⊤
IsGood (StackLimit used wanted most) = ⊤
IsGood (HeapLimit used wanted most) = ⊤

-- each end of a trace is good
abbrev EndsWell : Trace → Type 0
EndsWell (Turn t) = EndsWell t
EndsWell (Note e t) = EndsWell t
EndsWell (Seen m t) = EndsWell t
EndsWell (End e) = IsGood e
EndsWell Cut = ⊤

abbrev Good : Go → Type 0
Good g = (w : World) → EndsWell (g w)

abbrev GoodThen : {A : Type 0} → Then A → Type 0
GoodThen {A} k = (a : A) → Good (k a)

record GoodWays (ws : Ways) : Type 0 where
  broken : (env : Env) → Good (ws.broken env)
  continued : (env : Env) → Good (ws.continued env)
  returned : (vs : List Value) (env : Env) → Good (ws.returned vs env)
  panicked : (at : Position) (f : Fault) (env : Env) → Good (ws.panicked at f env)

good_holding : (ws : Ways) (e : Ex) (v : Value) → GoodWays ws → GoodWays (holding ws e v)
good_holding ws e v s = record { broken = s.broken; continued = s.continued; returned = s.returned; panicked = s.panicked }

good_holding_all : (ws : Ways) (vs : List Held) → GoodWays ws → GoodWays (holding_all ws vs)
good_holding_all ws vs s = record { broken = s.broken; continued = s.continued; returned = s.returned; panicked = s.panicked }

good_or_panic : {A : Type 0} (ws : Ways) (env : Env) (at : Position) (r : Result A Fault) (k : Then A) → GoodWays ws → GoodThen k → Good (or_panic ws env at r k)
good_or_panic ws env at (Ok v) k s h = h v
good_or_panic ws env at (Err f) k s h = s.panicked at f env

good_steps : (ws : Ways) (env : Env) (steps : List Step) (v : ℕ) (path : List ℕ) (k : Then Spot) → GoodWays ws → GoodThen k → Good (settle_steps ws env steps v path k)
good_steps ws env [] v path k s h = h _
good_steps ws env (fixed i ∷ steps) v path k s h = good_steps ws env steps v _ k s h
good_steps ws env (worked at e x n ∷ steps) v path k s h = λ w. good_or_panic ws env at (element_of (int_of x) n) _ s (λ i. good_steps ws env steps v _ k s h) w

good_settle : (ws : Ways) (env : Env) (a : Aim) (k : Then Spot) → GoodWays ws → GoodThen k → Good (settle ws env a k)
good_settle ws env a k s h = λ w. good_or_panic ws env _ (base_spot a.base) _ s (λ q. good_steps ws env a.steps q.variable q.path k s h) w

good_when : (b : Bool) (g h : Go) → Good g → Good h → Good (when b g h)
good_when true g h x y = x
good_when false g h x y = y

-- `append` and `copy`
good_first : (n : ℕ) (v : Value) (k : Then (List Value)) → GoodThen k → Good (read_first n v k)
good_first zero v k h = h []
good_first (suc n) v k h = λ w. h _ w

good_behind : (n : ℕ) (v : Value) (xs : List Value) (g : Go) → Good g → Good (write_behind n v xs g)
good_behind n v [] g h = h
good_behind n v (x ∷ xs) g h = λ w. h _

good_within : (v : Value) (xs : List Value) (k : Then Value) → GoodThen k → Good (add_within v xs k)
good_within v xs k h = good_behind (slice_count v) v xs _ (h _)

good_regrow : (around : Setting) (entry site : ℕ) (v : Value) (room : ℕ) (k : Then Value) → GoodThen k → Good (regrow around entry site v room k)
good_regrow around entry site v room k h =
    λ w. let new = slice_in (length w.store) [] 0 (slice_count v) room in good_first (slice_count v) v (λ old. write_behind 0 new old (k new)) (λ old. good_behind 0 new old (k new) (h new)) _

good_add : (around : Setting) (entry site : ℕ) (v : Value) (xs : List Value) (k : Then Value) → GoodThen k → Good (add_to around entry site v xs k)
good_add around entry site v [] k h = h v
good_add around entry site v (x ∷ xs) k h =
    good_when (nat_le (slice_count v + length (x ∷ xs)) (slice_room v)) _ _ (good_within v (x ∷ xs) k h)
    (good_regrow around entry site v (max (slice_count v + length (x ∷ xs)) (2 * slice_room v)) (λ r. add_within r (x ∷ xs) k) (λ r. good_within r (x ∷ xs) k h))

good_copy : (n : ℕ) (d v : Value) (g : Go) → Good g → Good (copy_first n d v g)
good_copy n d v g h = good_first n v _ (λ xs. good_behind 0 d xs g h)

-- what calls do ends well, where what follows them does
record GoodCalls (calls : Calls) : Type 0 where
  by : (f : ℕ) (vs : List Value) (ws : Ways) (env : Env) (k : Then (List Value)) → GoodWays ws → GoodThen k → Good (calls f vs ws env k)

module _ (around : Setting) (calls : Calls) (gc : GoodCalls calls) where
  mutual
    good_walk : (steps : Steps) (ws : Ways) (env : Env) (k : Then (List Step)) → GoodWays ws → GoodThen k → Good (walk around calls steps ws env k)
    good_walk here ws env k s h = h []
    good_walk (inner i steps) ws env k s h = good_walk steps ws env _ s (λ r. h (fixed i ∷ r))
    good_walk (at_index at e n steps) ws env k s h = good_ev e ws env _ s (λ v. good_walk steps (holding ws e v) env _ (good_holding ws e v s) (λ r. h (worked at e v n ∷ r)))

    good_aim : (q : Pl) (ws : Ways) (env : Env) (k : Then Aim) → GoodWays ws → GoodThen k → Good (aim around calls q ws env k)
    good_aim (local site steps) ws env k s h = good_walk steps ws env _ s (λ r. h _)
    good_aim (global g steps) ws env k s h = good_walk steps ws env _ s (λ r. h _)
    good_aim (indirect at e n steps) ws env k s h = good_ev e ws env _ s (λ v. good_walk steps (holding ws e v) env _ (good_holding ws e v s) (λ r. h _))
    good_aim (slice_element at e i n steps) ws env k s h =
        good_ev e ws env _ s (λ v. good_ev i (holding ws e v) env _ (good_holding ws e v s) (λ u. good_walk steps (holding (holding ws e v) i u) env _ (good_holding (holding ws e v) i u (good_holding ws e v s)) (λ r. h _)))

    good_ev : (e : Ex) (ws : Ways) (env : Env) (k : Then Value) → GoodWays ws → GoodThen k → Good (ev around calls e ws env k)
    good_ev (constant v) ws env k s h = λ w. h v w
    good_ev (read q) ws env k s h = good_aim q ws env _ s (λ a. good_settle ws env a _ s (λ spot w. h _ w))
    good_ev (unary op e) ws env k s h = good_ev e ws env _ s (λ v w. h (unary_of op v) w)
    good_ev (binary at op a b) ws env k s h =
        good_ev a ws env _ s (λ v. good_ev b (holding ws a v) env _ (good_holding ws a v s) (λ u w. good_or_panic ws env at (binary_of op v u) (give ws (binary at op a b) k) s (λ x y. h x y) w))
    good_ev (logical_and a b) ws env k s h = good_ev a ws env _ s (λ v w. good_when (is_true v) _ _ (good_ev b ws env k s h) (λ w1. h _ w1) w)
    good_ev (logical_or a b) ws env k s h = good_ev a ws env _ s (λ v w. good_when (is_true v) _ _ (λ w1. h _ w1) (good_ev b ws env k s h) w)
    good_ev (call f es) ws env k s h = good_evs es ws env _ s (λ vs w. gc.by f vs ws env _ s (λ rs w1. h _ w1) w)
    good_ev (part_of t i e) ws env k s h = good_ev e ws env _ s (λ v w. h _ w)
    good_ev (literal t es) ws env k s h = λ w. good_fill es _ ws env _ s (λ v w1. h v w1) w
    good_ev (nil t) ws env k s h = λ w. h _ w
    good_ev (address_of q) ws env k s h = good_aim q ws env _ s (λ a. good_settle ws env a _ s (λ spot w. h _ w))
    good_ev (new_variable site) ws env k s h = λ w. h _ _
    good_ev (literal_variable site e) ws env k s h = good_ev e ws env _ s (λ v w. h _ _)
    good_ev (slice_literal site es) ws env k s h = good_evs es ws env _ s (λ vs w. h _ _)
    good_ev (make at site count room) ws env k s h =
        good_ev count ws env _ s (λ v. good_bound room v (holding ws count v) env _ (good_holding ws count v s) (λ u w. good_or_panic ws env at (sizes_of (int_of v) (int_of u)) _ s (λ z w1. h _ _) w))
    good_ev (append site e es) ws env k s h =
        good_ev e ws env _ s (λ v. good_evs es (holding ws e v) env _ (good_holding ws e v s) (λ vs w. good_add around ws.call site v vs (give ws (append site e es) k) (λ x w1. h x w1) w))
    good_ev (append_slice site e f) ws env k s h =
        good_ev e ws env _ s (λ v. good_ev f (holding ws e v) env _ (good_holding ws e v s) (λ u w. good_first (slice_count u) u _ (λ vs. good_add around ws.call site v vs (give ws (append_slice site e f) k) (λ x w1. h x w1)) w))
    good_ev (copy n e f) ws env k s h =
        good_ev e ws env _ s (λ d. good_ev f (holding ws e d) env _ (good_holding ws e d s) (λ v w. good_copy (copy_count d v) d v _ (λ w1. h _ w1) w))
    good_ev (slicing at n e low high) ws env k s h =
        good_ev e ws env _ s (λ v. good_bound low _ (holding ws e v) env _ (good_holding ws e v s) (λ l.
        good_bound high _ (holding_all (holding ws e v) (bound_values ws.call low l)) env _ (good_holding_all (holding ws e v) (bound_values ws.call low l) (good_holding ws e v s)) (λ b w.
        good_or_panic ws env at (slice_part v (int_of l) (int_of b)) (give ws (slicing at n e low high) k) s (λ x w1. h x w1) w)))
    good_ev (array_slicing at q n low high) ws env k s h =
        good_aim q ws env _ s (λ a. good_settle ws env a _ s (λ spot.
        let held = holding ws (address_of q) (pointer spot.variable spot.path) in let good = good_holding ws (address_of q) (pointer spot.variable spot.path) s in
        good_bound low _ held env _ good (λ l. good_bound high _ (holding_all held (bound_values ws.call low l)) env _ (good_holding_all held (bound_values ws.call low l) good) (λ b w.
        good_or_panic ws env at (array_part spot.variable spot.path n (int_of l) (int_of b)) (give ws (array_slicing at q n low high) k) s (λ x w1. h x w1) w))))
    good_ev (len e) ws env k s h = good_ev e ws env _ s (λ v w. h _ w)
    good_ev (cap e) ws env k s h = good_ev e ws env _ s (λ v w. h _ w)

    good_bound : (b : Bound) (v : Value) (ws : Ways) (env : Env) (k : Then Value) → GoodWays ws → GoodThen k → Good (ev_bound around calls b v ws env k)
    good_bound absent v ws env k s h = h v
    good_bound (bound e) v ws env k s h = good_ev e ws env k s h

    good_fill : (es : Elements) (x : Value) (ws : Ways) (env : Env) (k : Then Value) → GoodWays ws → GoodThen k → Good (fill around calls es x ws env k)
    good_fill no_elements x ws env k s h = h x
    good_fill (element i e es) x ws env k s h = good_ev e ws env _ s (λ v. good_fill es _ (holding ws e v) env k (good_holding ws e v s) h)

    good_evs : (es : Exs) (ws : Ways) (env : Env) (k : Then (List Value)) → GoodWays ws → GoodThen k → Good (evs around calls es ws env k)
    good_evs none ws env k s h = h []
    good_evs (more e es) ws env k s h = good_ev e ws env _ s (λ v. good_evs es (holding ws e v) env _ (good_holding ws e v s) (λ vs. h (v ∷ vs)))
    good_evs (results f es) ws env k s h = good_evs es ws env _ s (λ vs w. gc.by f vs ws env _ s (λ rs w1. h rs w1) w)
    good_evs read_int ws env k s h = λ w. h _ _

  good_ready : (l : Left) (ws : Ways) (env : Env) (k : Then Landing) → GoodWays ws → GoodThen k → Good (ready around calls l ws env k)
  good_ready blank ws env k s h = h nowhere
  good_ready (new site) ws env k s h = h (birth site)
  good_ready (to q) ws env k s h = good_aim q ws env _ s (λ a. h (on a))

  good_ready_all : (ls : List Left) (ws : Ways) (env : Env) (k : List Landing → Ways → Go) → GoodWays ws
      → ((xs : List Landing) (ws1 : Ways) → GoodWays ws1 → Good (k xs ws1)) → Good (ready_all around calls ls ws env k)
  good_ready_all [] ws env k s h = h [] ws s
  good_ready_all (l ∷ ls) ws env k s h =
      good_ready l ws env _ s (λ x. good_ready_all ls (holding_all ws (landing_values ws.call x)) env _ (good_holding_all ws _ s) (λ xs ws1 s1. h (x ∷ xs) ws1 s1))

  good_pieces : (ps : List Piece) (ws : Ways) (env : Env) (k : Then (List (List ℕ))) → GoodWays ws → GoodThen k → Good (pieces around calls ps ws env k)
  good_pieces [] ws env k s h = h []
  good_pieces (text number ∷ ps) ws env k s h = good_pieces ps ws env _ s (λ r. h _)
  good_pieces (shown t e ∷ ps) ws env k s h = good_ev e ws env _ s (λ v. good_pieces ps (holding ws e v) env _ (good_holding ws e v s) (λ r. h (shown_bytes v ∷ r)))

  good_test : (t : Option Ex) (ws : Ways) (env : Env) (k : Then Value) → GoodWays ws → GoodThen k → Good (test_of around calls t ws env k)
  good_test None ws env k s h = h _
  good_test (Some e) ws env k s h = good_ev e ws env _ s (λ v w. h v w)

module _ (around : Setting) where
  good_land : (l : Landing) (v : Value) (ws : Ways) (env : Env) (k : Env → Go) → GoodWays ws → ((env1 : Env) → Good (k env1)) → Good (land around l v ws env k)
  good_land nowhere v ws env k s h = h env
  good_land (birth site) v ws env k s h = λ w. h _ _
  good_land (on a) v ws env k s h = good_settle ws env a _ s (λ q w. h env _)

  good_land_all : (ls : List Landing) (vs : List Value) (ws : Ways) (env : Env) (k : Env → Go) → GoodWays ws → ((env1 : Env) → Good (k env1)) → Good (land_all around ls vs ws env k)
  good_land_all [] vs ws env k s h = h env
  good_land_all (l ∷ ls) [] ws env k s h = h env
  good_land_all (l ∷ ls) (v ∷ vs) ws env k s h = good_land l v ws env _ s (λ env1. good_land_all ls vs ws env1 k s h)

good_emit_more : (bs : List (List ℕ)) (g : Go) → Good g → Good (emit_more bs g)
good_emit_more [] g h = h
good_emit_more (b ∷ bs) g h = λ w. good_emit_more bs g h w

good_emit_plain : (bs : List (List ℕ)) (g : Go) → Good g → Good (emit_plain bs g)
good_emit_plain [] g h = h
good_emit_plain (b ∷ bs) g h = λ w. good_emit_plain bs g h w

good_emit : (ln : Bool) (bs : List (List ℕ)) (g : Go) → Good g → Good (emit ln bs g)
good_emit true [] g h = h
good_emit true (b ∷ bs) g h = λ w. good_emit_more bs g h w
good_emit false bs g h = good_emit_plain bs g h

good_renew : (around : Setting) (entry : ℕ) (sites : List ℕ) (env : Env) (k : Env → Go) → ((env1 : Env) → Good (k env1)) → Good (renew around entry sites env k)
good_renew around entry [] env k h = h env
good_renew around entry (site ∷ sites) env k h = λ w. good_renew around entry sites _ k h _

good_rounds : (fuel : ℕ) (test : Env → Then Value → Go) (body : ℕ → Env → (ℕ → Env → Go) → Go) (k : ℕ → Env → Go)
    → ((env : Env) (j : Then Value) → GoodThen j → Good (test env j))
    → ((n : ℕ) (env : Env) (j : ℕ → Env → Go) → ((n1 : ℕ) (env1 : Env) → Good (j n1 env1)) → Good (body n env j))
    → ((n : ℕ) (env : Env) → Good (k n env)) → (n : ℕ) (env : Env) → Good (rounds fuel test body k n env)
good_rounds zero test body k t b h n env = λ w. tt
good_rounds (suc fuel) test body k t b h n env =
    t env _ (λ v. good_when (is_true v) _ _ (b n env _ (λ n1 env1 w. good_rounds fuel test body k t b h n1 env1 w)) (h n env))

good_next : (around : Setting) (ws : Ways) (n : ℕ) (sites : List ℕ) (post : Ways → Env → (Env → Go) → Go) (j : ℕ → Env → Go)
    → ((env : Env) (k : Env → Go) → ((env1 : Env) → Good (k env1)) → Good (post ws env k)) → ((n1 : ℕ) (env1 : Env) → Good (j n1 env1))
    → (env : Env) → Good (to_next around n sites post ws j env)
good_next around ws n sites post j p g env = λ w. good_renew around ws.call sites env _ (λ env1. p env1 _ (λ env2. g _ env2)) w

good_zeros : (around : Setting) (entry : ℕ) (sites : List ℕ) (env : Env) (k : Env → Go) → ((env1 : Env) → Good (k env1)) → Good (bear_zeros around entry sites env k)
good_zeros around entry [] env k h = h env
good_zeros around entry (site ∷ sites) env k h = λ w. good_zeros around entry sites _ k h _

good_counted : (fuel i left : ℕ) (body : ℕ → ℕ → Env → (ℕ → Env → Go) → Go) (k : ℕ → Env → Go)
    → ((i n : ℕ) (env : Env) (j : ℕ → Env → Go) → ((n1 : ℕ) (env1 : Env) → Good (j n1 env1)) → Good (body i n env j))
    → ((n : ℕ) (env : Env) → Good (k n env)) → (n : ℕ) (env : Env) → Good (counted fuel i left body k n env)
good_counted zero i left body k b h n env = λ w. tt
good_counted (suc fuel) i zero body k b h n env = λ w. h n env w
good_counted (suc fuel) i (suc left) body k b h n env = λ w. b i n env _ (λ n1 env1 w1. good_counted fuel (suc i) left body k b h n1 env1 w1) w

ltb_below : (n : ℕ) → nat_lt n 126 ≡ true → n ≤ 125
ltb_below n e = let l = ltb-true n 126 e in omega arith

status_of : (n : ℕ) (b : Bool) → nat_lt n 126 ≡ b → (ws : Ways) (env : Env) (at : Position) → GoodWays ws → Good (when b (stop (Exit n)) (ws.panicked at (exit_code (pos n)) env))
status_of n true e ws env at s = λ w. ltb_below n e
status_of n false e ws env at s = s.panicked at _ env

good_quit : (ws : Ways) (env : Env) (at : Position) (z : ℤ) → GoodWays ws → Good (quit_with ws env at z)
good_quit ws env at (pos n) s = status_of n (nat_lt n 126) refl ws env at s
good_quit ws env at (negsuc n) s = s.panicked at _ env

module _ (around : Setting) (calls : Calls) (gc : GoodCalls calls) (fuel : ℕ) where
  good_begin : (over : Over) (ws : Ways) (env : Env) (k : ℕ → Value → Ways → Env → Go) → GoodWays ws → ((n : ℕ) (v : Value) (ws1 : Ways) (env1 : Env) → GoodWays ws1 → Good (k n v ws1 env1)) → Good (begin_range around calls fuel over ws env k)
  good_begin (over_int e) ws env k s h = good_ev around calls gc e ws env _ s (λ v w. h _ v (holding ws e v) env (good_holding ws e v s) w)
  good_begin (over_length x) ws env k s h = λ w. h x _ ws env s w
  good_begin (over_copy site e x) ws env k s h = good_ev around calls gc e ws env _ s (λ v w. h x v ws _ s _)
  good_begin (over_slice e t) ws env k s h = good_ev around calls gc e ws env _ s (λ v w. h _ v (holding ws e v) env (good_holding ws e v s) w)
  good_begin (over_pointer at e x t) ws env k s h = good_ev around calls gc e ws env _ s (λ v w. h x v (holding ws e v) env (good_holding ws e v s) w)
  good_begin (over_pointed x) ws env k s h = λ w. h x _ ws env s w

  -- a round of `range`, where its body ends well
  module _ (body : Ways → Env → (Env → Go) → Go) (b : (ws : Ways) (env : Env) (k : Env → Go) → GoodWays ws → ((env1 : Env) → Good (k env1)) → Good (body ws env k)) (out : ℕ → Env → Go) (o : (n : ℕ) (env : Env) → Good (out n env)) where
    good_loop : (ws : Ways) → GoodWays ws → (n : ℕ) (j : ℕ → Env → Go) → ((n1 : ℕ) (env1 : Env) → Good (j n1 env1)) → (env : Env) → Good (in_loop body ws (out n) (to_next_count n j) env)
    good_loop ws s n j g env =
        let again : (env1 : Env) → Good (to_next_count n j env1) = λ env1 w. g (length w.store) env1 w in
        b (record { broken = out n; continued = to_next_count n j; returned = ws.returned; panicked = ws.panicked; held = ws.held; call = ws.call }) env (to_next_count n j)
        (record { broken = o n; continued = again; returned = s.returned; panicked = s.panicked }) again

    good_index_round : (key : Left) (ws : Ways) → GoodWays ws → (i n : ℕ) (env : Env) (j : ℕ → Env → Go) → ((n1 : ℕ) (env1 : Env) → Good (j n1 env1)) → Good (index_round around calls fuel key body ws out i n env j)
    good_index_round key ws s i n env j g = good_ready around calls gc key ws env _ s (λ a. good_land around a _ ws env _ s (λ env1. good_loop ws s n j g env1))

    -- where what reads an element ends well
    good_reading_round : (get : ℕ → Ways → Env → Then Value → Go) → ((i : ℕ) (ws : Ways) (env : Env) (k : Then Value) → GoodWays ws → GoodThen k → Good (get i ws env k)) → (key value : Left) (ws : Ways) → GoodWays ws → (i n : ℕ) (env : Env) (j : ℕ → Env → Go)
        → ((n1 : ℕ) (env1 : Env) → Good (j n1 env1)) → Good (reading_round around calls fuel get key value body ws out i n env j)
    good_reading_round get gets key value ws s i n env j g =
        good_ready_all around calls gc (key ∷ value ∷ []) ws env
        (λ those ws1. get i ws env (λ v. land_all around those (int (pos i) ∷ v ∷ []) ws env (λ env1. in_loop body ws (out n) (to_next_count n j) env1))) s
        (λ those ws1 s1. gets i ws env (λ v. land_all around those (int (pos i) ∷ v ∷ []) ws env (λ env1. in_loop body ws (out n) (to_next_count n j) env1)) s
        (λ v. good_land_all around those (int (pos i) ∷ v ∷ []) ws env (λ env1. in_loop body ws (out n) (to_next_count n j) env1) s (λ env1. good_loop ws s n j g env1)))

    good_round : (over : Over) (x : Value) (key value : Left) (ws : Ways) → GoodWays ws → (i n : ℕ) (env : Env) (j : ℕ → Env → Go) → ((n1 : ℕ) (env1 : Env) → Good (j n1 env1)) → Good (range_round around calls fuel over x key value body ws out i n env j)
    good_round (over_int e) x key value ws s i n env j g = good_index_round key ws s i n env j g
    good_round (over_length m) x key value ws s i n env j g = good_index_round key ws s i n env j g
    good_round (over_copy site e m) x key value ws s i n env j g = good_reading_round (read_copied site) (λ i1 ws1 env1 k s1 h w. h _ w) key value ws s i n env j g
    good_round (over_slice e t) x key blank ws s i n env j g = good_index_round key ws s i n env j g
    good_round (over_slice e t) x key value ws s i n env j g = good_reading_round (read_sliced x) (λ i1 ws1 env1 k s1 h w. h _ w) key value ws s i n env j g
    good_round (over_pointer at e m t) x key blank ws s i n env j g = good_index_round key ws s i n env j g
    good_round (over_pointer at e m t) x key value ws s i n env j g =
        good_reading_round (read_pointed at x) (λ i1 ws1 env1 k s1 h. good_or_panic ws1 env1 at (pointed x) _ s1 (λ q w. h _ w)) key value ws s i n env j g
    good_round (over_pointed m) x key value ws s i n env j g = good_index_round key ws s i n env j g

  mutual
    good_exec : (st : St) (ws : Ways) (env : Env) (k : Env → Go) → GoodWays ws → ((env1 : Env) → Good (k env1)) → Good (exec around calls fuel st ws env k)
    good_exec (assign ls es) ws env k s h =
        good_ready_all around calls gc ls ws env _ s (λ xs ws1 s1. good_evs around calls gc es ws1 env _ s1 (λ vs. good_land_all around xs vs ws env k s h))
    good_exec (discard es) ws env k s h = good_evs around calls gc es ws env _ s (λ vs. h env)
    good_exec (block ss) ws env k s h = good_exec_all ss ws env k s h
    good_exec (if_stmt e a b) ws env k s h =
        good_ev around calls gc e ws env _ s (λ v w. good_when (is_true v) _ _ (good_exec_all a ws env k s h) (good_exec_all b ws env k s h) w)
    good_exec (for_stmt sites test post body) ws env k s h =
        λ w. good_rounds fuel _ _ _ (λ env1 j g. good_test around calls gc test ws env1 j s g)
        (λ n1 env1 j g. good_exec_all body _ env1 _
        (record {
          broken = λ env2 w2. h env2 w2;
          continued = good_next around ws n1 sites (exec_all around calls fuel post) j (λ env3 k3 h3. good_exec_all post ws env3 k3 s h3) g;
          returned = s.returned;
          panicked = s.panicked;
        })
        (good_next around ws n1 sites (exec_all around calls fuel post) j (λ env3 k3 h3. good_exec_all post ws env3 k3 s h3) g))
        (λ n1 env1 w1. h env1 w1) (length w.store - length sites) env w
    good_exec (declare sites) ws env k s h = good_zeros around ws.call sites env k h
    good_exec (update at q op e) ws env k s h =
        good_aim around calls gc q ws env _ s (λ a. good_settle ws env a _ s (λ spot w. good_ev around calls gc e (holding (holding_all ws (base_values ws.call a.base)) (read q) _) env _ (good_holding (holding_all ws (base_values ws.call a.base)) (read q) _ (good_holding_all ws (base_values ws.call a.base) s))
        (λ u. good_or_panic ws env at (binary_of op (read_at w spot.variable spot.path) u) (λ x. write_part spot.variable spot.path x (k env)) s (λ x w1. h env (written w1 spot.variable spot.path x))) w))
    good_exec (bump at q op) ws env k s h =
        good_aim around calls gc q ws env _ s (λ a. good_settle ws env a _ s (λ spot w.
        good_or_panic ws env at (binary_of op (read_at w spot.variable spot.path) (int (pos 1))) (λ x. write_part spot.variable spot.path x (k env)) s (λ x w1. h env (written w1 spot.variable spot.path x)) w))
    good_exec (range over key value body) ws env k s h =
        good_begin over ws env _ s (λ x v ws1 env1 s1 w. good_counted fuel 0 x _ _
        (λ i n1 env2 j g. good_round (exec_all around calls fuel body) (λ ws2 env3 k2 s2 h2. good_exec_all body ws2 env3 k2 s2 h2) (outside k) (λ n2 env3 w2. h env3 w2) over v key value ws1 s1 i n1 env2 j g)
        (λ n1 env2 w1. h env2 w1) (length w.store) env1 w)
    good_exec break_stmt ws env k s h = λ w. s.broken env w
    good_exec continue_stmt ws env k s h = λ w. s.continued env w
    good_exec (panic at (text number)) ws env k s h = λ w. s.panicked at _ env w
    good_exec (panic at (shown t e)) ws env k s h = good_ev around calls gc e ws env _ s (λ v w. s.panicked at _ env w)
    good_exec (exit at e) ws env k s h = good_ev around calls gc e ws env _ s (λ v w. good_quit ws env at (int_of v) s w)
    good_exec (return_stmt es) ws env k s h = good_evs around calls gc es ws env _ s (λ vs. s.returned vs env)
    good_exec (print ln ps) ws env k s h = good_pieces around calls gc ps ws env _ s (λ bs. good_emit ln bs _ (h env))

    good_exec_all : (ss : Sts) (ws : Ways) (env : Env) (k : Env → Go) → GoodWays ws → ((env1 : Env) → Good (k env1)) → Good (exec_all around calls fuel ss ws env k)
    good_exec_all done ws env k s h = λ w. h env w
    good_exec_all (next st ss) ws env k s h = λ w. good_exec st ws env _ s (λ env1. good_exec_all ss ws env1 k s h) w

good_params : (around : Setting) (entry : ℕ) (ps : List (Option ℕ)) (vs : List Value) (env : Env) (k : Env → Go) → ((env1 : Env) → Good (k env1)) → Good (bear_params around entry ps vs env k)
good_params around entry [] vs env k h = h env
good_params around entry (p ∷ ps) [] env k h = h env
good_params around entry (None ∷ ps) (v ∷ vs) env k h = good_params around entry ps vs env k h
good_params around entry (Some site ∷ ps) (v ∷ vs) env k h = λ w. good_params around entry ps vs _ k h _

good_writes : (sites : List ℕ) (vs : List Value) (env : Env) (g : Go) → Good g → Good (write_results sites vs env g)
good_writes [] vs env g h = h
good_writes (site ∷ sites) [] env g h = h
good_writes (site ∷ sites) (v ∷ vs) env g h = λ w. good_writes sites vs env g h _

good_reads : (sites : List ℕ) (env : Env) (k : Then (List Value)) → GoodThen k → Good (read_results sites env k)
good_reads [] env k h = h []
good_reads (site ∷ sites) env k h = λ w. good_reads sites env _ (λ vs. h _) w

good_leave : (named : List ℕ) (n : ℕ) (k : Then (List Value)) → GoodThen k → (vs : List Value) (env : Env) → Good (leave named n k vs env)
good_leave [] n k h vs env = λ w. h vs w
good_leave (site ∷ sites) n k h vs env = good_writes (site ∷ sites) vs env _ (good_reads (site ∷ sites) env (leave_with n k) (λ rs w. h rs w))

module _ (around : Setting) (funcs : List Func) where
  good_body : (calls : Calls) (gc : GoodCalls calls) (fuel f : ℕ) (o : Option Func) (vs : List Value) (ws : Ways) (env : Env) (k : Then (List Value)) → GoodWays ws → GoodThen k
      → Good (run_body around funcs calls fuel f o vs ws env k)
  good_body calls gc fuel f None vs ws env k s h = h []
  good_body calls gc fuel f (Some func) vs ws env k s h =
      λ w.
      let back = good_leave func.named (length w.store) k h in
      good_params around (length w.store) func.params vs _ _ (λ env1. good_zeros around (length w.store) func.named env1 _ (λ env2.
      good_exec_all around calls gc fuel func.body _ env2 _
      (record { broken = back []; continued = back []; returned = back; panicked = λ at x env3. s.panicked at x env })
      (back []))) w

  good_call : (fuel : ℕ) → GoodCalls (call_at around funcs fuel)
  good_call zero = record { by = λ f vs ws env k s h w. tt }
  good_call (suc fuel) = record { by = λ f vs ws env k s h. good_body (call_at around funcs fuel) (good_call fuel) (suc fuel) f (slice_get funcs f) vs ws env k s h }

good_globals : (around : Setting) (gs : List (ℕ × Value)) (g : Go) → Good g → Good (bear_globals around gs g)
good_globals around [] g h = h
good_globals around ((site, v) ∷ gs) g h = λ w. good_globals around gs g h _

good_top : GoodWays at_top
good_top = record { broken = λ env w. omega arith; continued = λ env w. omega arith; returned = λ vs env w. omega arith; panicked = λ at f env w. tt }

ends_well : (items : ℕ → Item) (p : Program) (n : ℕ) → EndsWell (trace items p n)
ends_well items p n =
    good_globals (setting_of items p) p.globals _ ((good_call (setting_of items p) p.funcs (suc n)).by p.main [] at_top (λ x. 0) _ good_top (λ rs w. omega arith)) beginning

-- what is shown ends well, too
abbrev ShowsWell : Outcome Sight Last → Type 0
ShowsWell (Gives bytes o) = ShowsWell o
ShowsWell (Ends e) = IsGood e.ending
ShowsWell Unfinished = ⊤

called : (l : Limits) (calls : List ℕ) (heap f : ℕ) (t : Trace) (n : ℕ) (b : Bool) → ShowsWell (upto n (out l (f ∷ calls) heap t))
    → ShowsWell (upto n (if b then out l (f ∷ calls) heap t else Run.End (last heap (StackLimit (used_by l calls) (l.frame f) l.stack_max))))
called l calls heap f t n true h = h
called l calls heap f t n false h = tt

-- a variable is born, on the heap or not, and there with room or not
bore : (l : Limits) (calls : List ℕ) (heap k : ℕ) (t : Trace) (n : ℕ) (far room : Bool) → ((words : ℕ) → ShowsWell (upto n (out l calls words t)))
    → ShowsWell (upto n (if far then (if room then out l calls (heap + k) t else Run.End (last heap (HeapLimit heap k l.heap_max))) else out l calls heap t))
bore l calls heap k t n true true h = h (heap + k)
bore l calls heap k t n true false h = tt
bore l calls heap k t n false room h = h heap

shows_well : (l : Limits) (calls : List ℕ) (heap : ℕ) (t : Trace) (n : ℕ) → EndsWell t → ShowsWell (upto n (out l calls heap t))
shows_well l calls heap (Turn t) zero h = tt
shows_well l calls heap (Turn t) (suc n) h = shows_well l calls heap t n h
shows_well l calls heap (Seen m t) n h = shows_well l calls heap t n h
shows_well l calls heap (End e) n h = h
shows_well l calls heap Cut n h = tt
shows_well l calls heap (Note (Print bytes) t) n h = shows_well l calls heap t n h
shows_well l calls heap (Note Asked t) n h = shows_well l calls heap t n h
shows_well l calls heap (Note (Call f) t) n h = called l calls heap f t n (nat_le (used_by l calls + l.frame f) l.stack_max) (shows_well l (f ∷ calls) heap t n h)
shows_well l calls heap (Note Return t) n h = shows_well l (tail_of calls) heap t n h
shows_well l calls heap (Note (Born site k) t) n h = bore l calls heap k t n (l.on_heap site) (nat_le (heap + k) l.heap_max) (λ words. shows_well l calls words t n h)
shows_well l calls heap (Note (Read v path k) t) n h = shows_well l calls heap t n h
shows_well l calls heap (Note (Write v path k) t) n h = shows_well l calls heap t n h

exits_well : (o : Outcome Sight Last) → ShowsWell o → (status : ℕ) → ending_in o ≡ Some (Exit status) → status ≤ 125
exits_well (Gives bytes o) h status e = exits_well o h status e
exits_well (Ends x) h status e =
    let is : x.ending ≡ Exit status = cc in
    subst IsGood is h
exits_well Unfinished h status e = cc

-- an exit's status is at most 125
pub exit_status : (items : ℕ → Item) (p : Program) (l : Limits) (n status : ℕ) → ending_in (source items p l n) ≡ Some (Exit status) → status ≤ 125
exit_status items p l n status e = exits_well (source items p l n) (shows_well l [] 0 (trace items p n) n (ends_well items p n)) status e
