-- Each run of a program keeps each family: a line for each form of syntax.
use Rattle.std.proofs.Common.{◌≡◌, refl, ℕ, zero, suc, ◌+◌, ◌-◌, ◌≤◌, List, [], ◌∷◌, ◌++◌, Option, Some, None, Result, Ok, Err, Bool, true, false, ℤ, pos, negsuc, subst, arith}
use Rattle.std.specs.Prelude.{length, slice_get, nat_le, nat_lt}
use Rattle.typed_syntax.specs.Positions.{Position}
use Rattle.typed_syntax.specs.Types.{TypeTree, array_of}
use Rattle.typed_syntax.specs.Value.{Value, int, composite, pointer, slice_in}
use Rattle.typed_syntax.specs.Syntax.{Ex, Exs, Pl, Steps, Left, Piece, Over, St, Sts, Func, Program, constant, read, unary, binary, logical_and, logical_or, call, part_of, literal, nil, address_of, new_variable, literal_variable, slice_literal, make, append, append_slice, copy, slicing, array_slicing, len, cap, Bound, absent, bound, Elements, no_elements, element, none, more, results, read_int, local, global, indirect, slice_element, here, inner, at_index, blank, new, to, text, shown, over_int, over_length, over_copy, over_slice, over_pointer, over_pointed, declare, assign, update, bump, discard, block, if_stmt, for_stmt, range, break_stmt, continue_stmt, return_stmt, print, panic, exit, done, next}
use Rattle.meaning.specs.Trace.{Return, Fault, Exit, Panic, World, Mark, entered, ended, copied, Trace, Turn, Seen, Cut}
use Rattle.meaning.specs.Store.{written, values_of, elements_written, born, read_at}
use Rattle.meaning.specs.Operators.{binary_of, slice_variable, slice_path, slice_first, slice_count, slice_room, slice_part, array_part, sizes_of}
use Rattle.meaning.specs.Meaning
use Rattle.meaning.specs.Meaning.{Go, Then, Env, Ways, Calls, Item, Setting, Base, Step, fixed, worked, Aim, Spot, Landing, nowhere, birth, on}
use Rattle.meaning_laws.specs.Laws.{IsOther}
use Rattle.meaning_laws.proofs.Later.{later_same, written_later, elements_later, born_later}
use Rattle.meaning_laws.proofs.Family.{Family, WaysHold, Pair, CallsHold, turning, noting, seeing, keeping, keeping_all, lower, looping, ways_fewer}

module _ (F : Family) where
  give_holds : {b : ℕ} (ws us : Ways) (e : Ex) (k j : Then Value) → ((v : Value) (w : World) → F.Holds b w (k v w) (j v w)) → (v : Value) (w : World) → F.Holds b w (Meaning.give ws e k v w) (Meaning.give us e j v w)
  give_holds ws us e k j h v w = seeing F (h v w)

  give_all_holds : {b : ℕ} (ws us : Ways) (es : Exs) (k j : Then (List Value)) → ((vs : List Value) (w : World) → F.Holds b w (k vs w) (j vs w)) → (vs : List Value) (w : World) → F.Holds b w (Meaning.give_all ws es k vs w) (Meaning.give_all us es j vs w)
  give_all_holds ws us es k j h vs w = seeing F (h vs w)

  marking : {b : ℕ} (m : Mark) → IsOther m → {w : World} {s t : Trace} → F.Holds b w s t → F.Holds b w (Seen m s) (Seen m t)
  marking {b} m is {w} {s} {t} h = F.marks b w m is s t h

  outside_holds : {b : ℕ} (k j : Env → Go) → ((e : Env) (w : World) → F.Holds b w (k e w) (j e w)) → (n : ℕ) (e : Env) (w : World) → F.Holds b w (Meaning.outside k n e w) (Meaning.outside j n e w)
  outside_holds k j h n e w = marking (ended n) tt (h e w)

  write_holds : {b : ℕ} (v : ℕ) (path : List ℕ) (x : Value) (g h : Go) → ((w : World) → F.Holds b w (g w) (h w)) → (w : World) → F.Holds b w (Meaning.write_part v path x g w) (Meaning.write_part v path x h w)
  write_holds v path x g h all w = noting F (F.later _ w _ _ _ (written_later w v path x) (all (written w v path x)))

  write_elements_holds : {b : ℕ} (v : ℕ) (path : List ℕ) (first : ℕ) (xs : List Value) (g h : Go) → ((w : World) → F.Holds b w (g w) (h w)) → (w : World) → F.Holds b w (Meaning.write_elements v path first xs g w) (Meaning.write_elements v path first xs h w)
  write_elements_holds v path first xs g h all w = noting F (F.later _ w _ _ _ (elements_later w v path first xs) (all (elements_written w v path first xs)))

  bear_holds : {b : ℕ} (entry site : ℕ) (t : TypeTree) (x : Value) (k j : Then ℕ) → ((v : ℕ) (w : World) → F.Holds b w (k v w) (j v w)) → (w : World) → F.Holds b w (Meaning.bear entry site t x k w) (Meaning.bear entry site t x j w)
  bear_holds entry site t x k j all w = noting F (F.later _ w _ _ _ (born_later w (Meaning.new_cell entry site t x)) (all (length w.store) (born w (Meaning.new_cell entry site t x))))

  bear_array_holds : {b : ℕ} (entry site : ℕ) (t : TypeTree) (n : ℕ) (x : Value) (k j : Then ℕ) → ((v : ℕ) (w : World) → F.Holds b w (k v w) (j v w)) → (w : World) → F.Holds b w (Meaning.bear_array entry site t n x k w) (Meaning.bear_array entry site t n x j w)
  bear_array_holds entry site t n x k j all w = noting F (F.later _ w _ _ _ (born_later w (Meaning.new_cell entry site (array_of n t) x)) (all (length w.store) (born w (Meaning.new_cell entry site (array_of n t) x))))

  ask_holds : {b : ℕ} (around : Setting) (k j : Then (List Value)) → ((vs : List Value) (w : World) → F.Holds b w (k vs w) (j vs w)) → (w : World) → F.Holds b w (Meaning.ask around k w) (Meaning.ask around j w)
  ask_holds around k j all w = noting F (F.later _ w _ _ _ (later_same w) (all (Meaning.item_values (around.items w.reads)) (record { store = w.store; reads = suc w.reads })))

  when_holds : {b : ℕ} (c : Bool) (g h g1 h1 : Go) (w : World) → F.Holds b w (g w) (g1 w) → F.Holds b w (h w) (h1 w) → F.Holds b w (Meaning.when c g h w) (Meaning.when c g1 h1 w)
  when_holds true g h g1 h1 w a c = a
  when_holds false g h g1 h1 w a c = c

  or_panic_holds : {A : Type 0} {limit b : ℕ} (p : Pair F limit b) (env : Env) (at : Position) (r : Result A Fault) (k j : Then A) → ((a : A) (w : World) → F.Holds b w (k a w) (j a w)) → (w : World) → F.Holds b w (Meaning.or_panic p.left env at r k w) (Meaning.or_panic p.right env at r j w)
  or_panic_holds p env at (Ok a) k j all w = all a w
  or_panic_holds p env at (Err f) k j all w = p.hold.panicked at f env w

  steps_hold : {limit b : ℕ} (steps : List Step) (v : ℕ) (path : List ℕ) (p : Pair F limit b) (env : Env) (k j : Then Spot) → ((q : Spot) (w : World) → F.Holds b w (k q w) (j q w)) → (w : World) → F.Holds b w (Meaning.settle_steps p.left env steps v path k w) (Meaning.settle_steps p.right env steps v path j w)
  steps_hold [] v path p env k j all w = all (record { variable = v; path = path }) w
  steps_hold (fixed i ∷ steps) v path p env k j all w = steps_hold steps v (path ++ i ∷ []) p env k j all w
  steps_hold (worked at e x n ∷ steps) v path p env k j all w = turning F (or_panic_holds p env at (Meaning.element_of (Meaning.int_of x) n) _ _ (λ i. steps_hold steps v (path ++ i ∷ []) p env k j all) w)

  settle_holds : {limit b : ℕ} (a : Aim) (p : Pair F limit b) (env : Env) (k j : Then Spot) → ((q : Spot) (w : World) → F.Holds b w (k q w) (j q w)) → (w : World) → F.Holds b w (Meaning.settle p.left env a k w) (Meaning.settle p.right env a j w)
  settle_holds a p env k j all w = turning F (or_panic_holds p env _ (Meaning.base_spot a.base) _ _ (λ q. steps_hold a.steps q.variable q.path p env k j all) w)

  -- `append` and `copy`
  first_holds : {b : ℕ} (n : ℕ) (s : Value) (k j : Then (List Value)) → ((vs : List Value) (w : World) → F.Holds b w (k vs w) (j vs w)) → (w : World) → F.Holds b w (Meaning.read_first n s k w) (Meaning.read_first n s j w)
  first_holds zero s k j all w = all [] w
  first_holds (suc n) s k j all w = noting F (all _ w)

  behind_holds : {b : ℕ} (n : ℕ) (s : Value) (xs : List Value) (g h : Go) → ((w : World) → F.Holds b w (g w) (h w)) → (w : World) → F.Holds b w (Meaning.write_behind n s xs g w) (Meaning.write_behind n s xs h w)
  behind_holds n s [] g h all w = all w
  behind_holds n s (x ∷ xs) g h all w = write_elements_holds (slice_variable s) (slice_path s) (slice_first s + n) (x ∷ xs) g h all w

  copy_holds : {b : ℕ} (n : ℕ) (d s : Value) (g h : Go) → ((w : World) → F.Holds b w (g w) (h w)) → (w : World) → F.Holds b w (Meaning.copy_first n d s g w) (Meaning.copy_first n d s h w)
  copy_holds n d s g h all w = first_holds n s _ _ (λ xs. behind_holds 0 d xs g h all) w

  within_holds : {b : ℕ} (s : Value) (xs : List Value) (k j : Then Value) → ((v : Value) (w : World) → F.Holds b w (k v w) (j v w)) → (w : World) → F.Holds b w (Meaning.add_within s xs k w) (Meaning.add_within s xs j w)
  within_holds s xs k j all w = behind_holds (slice_count s) s xs _ _ (all (Meaning.longer s (length xs))) w

  -- in the running call, which both runs have in common
  module _ (around : Setting) {limit b : ℕ} (p : Pair F limit b) (site : ℕ) where
    born_here : (x : Value) (k j : Then ℕ) → ((v : ℕ) (w : World) → F.Holds b w (k v w) (j v w)) → (w : World)
        → F.Holds b w (Meaning.bear p.left.call site (Meaning.site_type around site) x k w) (Meaning.bear p.right.call site (Meaning.site_type around site) x j w)
    born_here x k j h w = subst (λ c. F.Holds b w (Meaning.bear p.left.call site (Meaning.site_type around site) x k w) (Meaning.bear c site (Meaning.site_type around site) x j w)) p.same
        (bear_holds p.left.call site (Meaning.site_type around site) x k j h w)

    array_born_here : (n : ℕ) (x : Value) (k j : Then ℕ) → ((v : ℕ) (w : World) → F.Holds b w (k v w) (j v w)) → (w : World)
        → F.Holds b w (Meaning.bear_array p.left.call site (Meaning.site_type around site) n x k w) (Meaning.bear_array p.right.call site (Meaning.site_type around site) n x j w)
    array_born_here n x k j h w = subst (λ c. F.Holds b w (Meaning.bear_array p.left.call site (Meaning.site_type around site) n x k w) (Meaning.bear_array c site (Meaning.site_type around site) n x j w)) p.same
        (bear_array_holds p.left.call site (Meaning.site_type around site) n x k j h w)

    regrow_holds : (s : Value) (room : ℕ) (k j : Then Value) → ((v : Value) (w : World) → F.Holds b w (k v w) (j v w)) → (w : World)
        → F.Holds b w (Meaning.regrow around p.left.call site s room k w) (Meaning.regrow around p.right.call site s room j w)
    regrow_holds s room k j h w =
        array_born_here room _ _ _ (λ x. first_holds (slice_count s) s _ _ (λ old. behind_holds 0 (slice_in x [] 0 (slice_count s) room) old _ _ (h (slice_in x [] 0 (slice_count s) room)))) w

    add_holds : (s : Value) (xs : List Value) (k j : Then Value) → ((v : Value) (w : World) → F.Holds b w (k v w) (j v w)) → (w : World)
        → F.Holds b w (Meaning.add_to around p.left.call site s xs k w) (Meaning.add_to around p.right.call site s xs j w)
    add_holds s [] k j h w = h s w
    add_holds s (x ∷ xs) k j h w =
        when_holds (nat_le (slice_count s + length (x ∷ xs)) (slice_room s)) _ _ _ _ w (within_holds s (x ∷ xs) k j h w)
        (regrow_holds s _ _ _ (λ r. within_holds r (x ∷ xs) k j h) w)

  module _ (around : Setting) (calls dalls : Calls) (n m : ℕ) (le : n ≤ m) (hc : CallsHold F n calls dalls) where
    call_holds : {b : ℕ} (p : Pair F (suc n) b) (f : ℕ) (vs : List Value) (env : Env) (k j : Then (List Value)) → ((rs : List Value) (w : World) → F.Holds b w (k rs w) (j rs w)) → (w : World) → F.Holds b w (Turn (calls f vs p.left env k w)) (Turn (dalls f vs p.right env j w))
    call_holds {b} p f vs env k j all w =
        let l = p.within in
        F.turns b w _ _ (hc.by f vs p.left p.right env (b - 1) (omega arith) (ways_fewer F b (b - 1) p.left p.right (omega arith) p.hold) k j (λ rs u. F.fewer (b - 1) b u _ _ (omega arith) (all rs u)) w)

    mutual
      walk_holds : (steps : Steps) {b : ℕ} (p : Pair F (suc n) b) (env : Env) (k j : Then (List Step)) → ((r : List Step) (w : World) → F.Holds b w (k r w) (j r w)) → (w : World) → F.Holds b w (Meaning.walk around calls steps p.left env k w) (Meaning.walk around dalls steps p.right env j w)
      walk_holds here p env k j h w = h [] w
      walk_holds (inner i steps) p env k j h w = walk_holds steps p env _ _ (λ r. h (fixed i ∷ r)) w
      walk_holds (at_index at e x steps) p env k j h w = ev_holds e p env _ _ (λ v. walk_holds steps (keeping F e v p) env _ _ (λ r. h (worked at e v x ∷ r))) w

      aim_holds : (q : Pl) {b : ℕ} (p : Pair F (suc n) b) (env : Env) (k j : Then Aim) → ((a : Aim) (w : World) → F.Holds b w (k a w) (j a w)) → (w : World) → F.Holds b w (Meaning.aim around calls q p.left env k w) (Meaning.aim around dalls q p.right env j w)
      aim_holds (local site steps) p env k j h w = walk_holds steps p env _ _ (λ r. h _) w
      aim_holds (global g steps) p env k j h w = walk_holds steps p env _ _ (λ r. h _) w
      aim_holds (indirect at e x steps) p env k j h w = ev_holds e p env _ _ (λ v. walk_holds steps (keeping F e v p) env _ _ (λ r. h _)) w
      aim_holds (slice_element at e i x steps) p env k j h w = ev_holds e p env _ _ (λ v. ev_holds i (keeping F e v p) env _ _ (λ y. walk_holds steps (keeping F i y (keeping F e v p)) env _ _ (λ r. h _))) w

      ev_holds : (e : Ex) {b : ℕ} (p : Pair F (suc n) b) (env : Env) (k j : Then Value) → ((v : Value) (w : World) → F.Holds b w (k v w) (j v w)) → (w : World) → F.Holds b w (Meaning.ev around calls e p.left env k w) (Meaning.ev around dalls e p.right env j w)
      ev_holds (constant v) p env k j h w = turning F (seeing F (h v w))
      ev_holds (read q) p env k j h w = aim_holds q p env _ _ (λ a. settle_holds a p env _ _ (λ s u. noting F (seeing F (h _ u)))) w
      ev_holds (unary op e) p env k j h w = ev_holds e p env _ _ (λ v u. turning F (seeing F (h _ u))) w
      ev_holds (binary at op a c) p env k j h w = ev_holds a p env _ _ (λ v. ev_holds c (keeping F a v p) env _ _ (λ x u. turning F (or_panic_holds p env at (binary_of op v x) _ _ (λ y z. seeing F (h y z)) u))) w
      ev_holds (logical_and a c) p env k j h w = ev_holds a p env _ _ (λ v u. turning F (when_holds (Meaning.is_true v) _ _ _ _ u (ev_holds c p env k j h u) (seeing F (h _ u)))) w
      ev_holds (logical_or a c) p env k j h w = ev_holds a p env _ _ (λ v u. turning F (when_holds (Meaning.is_true v) _ _ _ _ u (seeing F (h _ u)) (ev_holds c p env k j h u))) w
      ev_holds (call f es) p env k j h w = evs_hold es p env _ _ (λ vs. call_holds p f vs env _ _ (λ rs u. seeing F (h _ u))) w
      ev_holds (part_of number i e) p env k j h w = ev_holds e p env _ _ (λ v u. turning F (seeing F (h _ u))) w
      ev_holds (literal number es) p env k j h w = turning F (fill_holds es _ p env _ _ (λ v u. seeing F (h v u)) w)
      ev_holds (nil t) p env k j h w = turning F (seeing F (h _ w))
      ev_holds (address_of q) p env k j h w = aim_holds q p env _ _ (λ a. settle_holds a p env _ _ (λ s u. seeing F (h _ u))) w
      ev_holds (new_variable site) p env k j h w = let e = new_variable site in
          turning F (born_here around p site (Meaning.zero_of around site) (λ x. Meaning.give p.left e k (pointer x [])) (λ x. Meaning.give p.right e j (pointer x [])) (λ x. give_holds p.left p.right e k j h (pointer x [])) w)
      ev_holds (literal_variable site e) p env k j h w = let f = literal_variable site e in
          ev_holds e p env _ _ (λ v u. turning F (born_here around p site v (λ x. Meaning.give p.left f k (pointer x [])) (λ x. Meaning.give p.right f j (pointer x [])) (λ x. give_holds p.left p.right f k j h (pointer x [])) u)) w
      ev_holds (slice_literal site es) p env k j h w = let f = slice_literal site es in
          evs_hold es p env _ _ (λ vs u. let s : ℕ → Value = λ x. slice_in x [] 0 (length vs) (length vs) in
          turning F (array_born_here around p site (length vs) (composite (values_of vs)) (λ x. Meaning.give p.left f k (s x)) (λ x. Meaning.give p.right f j (s x)) (λ x. give_holds p.left p.right f k j h (s x)) u)) w
      ev_holds (make at site count room) p env k j h w = let f = make at site count room in
          ev_holds count p env _ _ (λ v. bound_holds room v (keeping F count v p) env _ _ (λ y u. turning F (or_panic_holds p env at (sizes_of (Meaning.int_of v) (Meaning.int_of y)) _ _ (λ z. let s : ℕ → Value = λ x. slice_in x [] 0 z.count z.room in
          array_born_here around p site z.room _ (λ x. Meaning.give p.left f k (s x)) (λ x. Meaning.give p.right f j (s x)) (λ x. give_holds p.left p.right f k j h (s x))) u))) w
      ev_holds (append site e es) p env k j h w = ev_holds e p env _ _ (λ s. evs_hold es (keeping F e s p) env _ _ (λ vs u. turning F (add_holds around p site s vs _ _ (λ v z. seeing F (h v z)) u))) w
      ev_holds (append_slice site e f) p env k j h w =
          ev_holds e p env _ _ (λ s. ev_holds f (keeping F e s p) env _ _ (λ y u. turning F (first_holds (slice_count y) y _ _ (λ vs. add_holds around p site s vs _ _ (λ v z. seeing F (h v z))) u))) w
      ev_holds (copy number e f) p env k j h w =
          ev_holds e p env _ _ (λ d. ev_holds f (keeping F e d p) env _ _ (λ s u. turning F (copy_holds (Meaning.copy_count d s) d s _ _ (λ z. seeing F (h _ z)) u))) w
      ev_holds (slicing at number e low high) p env k j h w =
          ev_holds e p env _ _ (λ s. bound_holds low _ (keeping F e s p) env _ _ (λ l. bound_holds high _ (keeping_all F (Meaning.bound_values p.left.call low l) (Meaning.bound_values p.right.call low l) (keeping F e s p)) env _ _ (λ g u.
          turning F (or_panic_holds p env at (slice_part s (Meaning.int_of l) (Meaning.int_of g)) _ _ (λ y z. seeing F (h y z)) u)))) w
      ev_holds (array_slicing at q size low high) p env k j h w =
          aim_holds q p env _ _ (λ a. settle_holds a p env _ _ (λ s. let kept = keeping F (address_of q) (pointer s.variable s.path) p in
          bound_holds low _ kept env _ _ (λ l. bound_holds high _ (keeping_all F (Meaning.bound_values p.left.call low l) (Meaning.bound_values p.right.call low l) kept) env _ _ (λ g u.
          turning F (or_panic_holds p env at (array_part s.variable s.path size (Meaning.int_of l) (Meaning.int_of g)) _ _ (λ y z. seeing F (h y z)) u))))) w
      ev_holds (len e) p env k j h w = ev_holds e p env _ _ (λ v u. turning F (seeing F (h _ u))) w
      ev_holds (cap e) p env k j h w = ev_holds e p env _ _ (λ v u. turning F (seeing F (h _ u))) w

      bound_holds : (o : Bound) (x : Value) {b : ℕ} (p : Pair F (suc n) b) (env : Env) (k j : Then Value) → ((v : Value) (w : World) → F.Holds b w (k v w) (j v w)) → (w : World) → F.Holds b w (Meaning.ev_bound around calls o x p.left env k w) (Meaning.ev_bound around dalls o x p.right env j w)
      bound_holds absent x p env k j h w = h x w
      bound_holds (bound e) x p env k j h w = ev_holds e p env k j h w

      fill_holds : (es : Elements) (x : Value) {b : ℕ} (p : Pair F (suc n) b) (env : Env) (k j : Then Value) → ((v : Value) (w : World) → F.Holds b w (k v w) (j v w)) → (w : World) → F.Holds b w (Meaning.fill around calls es x p.left env k w) (Meaning.fill around dalls es x p.right env j w)
      fill_holds no_elements x p env k j h w = h x w
      fill_holds (element i e es) x p env k j h w = ev_holds e p env _ _ (λ v. fill_holds es _ (keeping F e v p) env _ _ h) w

      evs_hold : (es : Exs) {b : ℕ} (p : Pair F (suc n) b) (env : Env) (k j : Then (List Value)) → ((vs : List Value) (w : World) → F.Holds b w (k vs w) (j vs w)) → (w : World) → F.Holds b w (Meaning.evs around calls es p.left env k w) (Meaning.evs around dalls es p.right env j w)
      evs_hold none p env k j h w = h [] w
      evs_hold (more e es) p env k j h w = ev_holds e p env _ _ (λ v. evs_hold es (keeping F e v p) env _ _ (λ vs. h (v ∷ vs))) w
      evs_hold (results f es) p env k j h w = evs_hold es p env _ _ (λ vs. call_holds p f vs env _ _ (λ rs u. seeing F (h rs u))) w
      evs_hold read_int p env k j h w = turning F (ask_holds around (Meaning.give_all p.left read_int k) (Meaning.give_all p.right read_int j) (give_all_holds p.left p.right read_int k j h) w)

    ready_holds : (l : Left) {b : ℕ} (p : Pair F (suc n) b) (env : Env) (k j : Then Landing) → ((x : Landing) (w : World) → F.Holds b w (k x w) (j x w)) → (w : World) → F.Holds b w (Meaning.ready around calls l p.left env k w) (Meaning.ready around dalls l p.right env j w)
    ready_holds blank p env k j h w = h nowhere w
    ready_holds (new site) p env k j h w = h (birth site) w
    ready_holds (to q) p env k j h w = aim_holds q p env _ _ (λ a. h (on a)) w

    ready_all_hold : (ls : List Left) {b : ℕ} (p : Pair F (suc n) b) (env : Env) (k j : List Landing → Ways → Go) → ((xs : List Landing) (q : Pair F (suc n) b) (w : World) → F.Holds b w (k xs q.left w) (j xs q.right w)) → (w : World) → F.Holds b w (Meaning.ready_all around calls ls p.left env k w) (Meaning.ready_all around dalls ls p.right env j w)
    ready_all_hold [] p env k j h w = h [] p w
    ready_all_hold (l ∷ ls) p env k j h w = ready_holds l p env _ _ (λ x. ready_all_hold ls (keeping_all F (Meaning.landing_values p.left.call x) (Meaning.landing_values p.right.call x) p) env _ _ (λ xs. h (x ∷ xs))) w

    land_holds : (l : Landing) (v : Value) {b : ℕ} (p : Pair F (suc n) b) (env : Env) (k j : Env → Go) → ((e : Env) (w : World) → F.Holds b w (k e w) (j e w)) → (w : World) → F.Holds b w (Meaning.land around l v p.left env k w) (Meaning.land around l v p.right env j w)
    land_holds nowhere v p env k j h w = h env w
    land_holds (birth site) v p env k j h w =
        turning F (born_here around p site v (λ x. k (Meaning.with_home env site x)) (λ x. j (Meaning.with_home env site x)) (λ x. h (Meaning.with_home env site x)) w)
    land_holds (on a) v p env k j h w = settle_holds a p env _ _ (λ s. write_holds s.variable s.path v _ _ (h env)) w

    land_all_hold : (ls : List Landing) (vs : List Value) {b : ℕ} (p : Pair F (suc n) b) (env : Env) (k j : Env → Go) → ((e : Env) (w : World) → F.Holds b w (k e w) (j e w)) → (w : World) → F.Holds b w (Meaning.land_all around ls vs p.left env k w) (Meaning.land_all around ls vs p.right env j w)
    land_all_hold [] vs p env k j h w = h env w
    land_all_hold (l ∷ ls) [] p env k j h w = h env w
    land_all_hold (l ∷ ls) (v ∷ vs) p env k j h w = land_holds l v p env _ _ (λ e. land_all_hold ls vs p e k j h) w

    pieces_hold : (ps : List Piece) {b : ℕ} (p : Pair F (suc n) b) (env : Env) (k j : Then (List (List ℕ))) → ((r : List (List ℕ)) (w : World) → F.Holds b w (k r w) (j r w)) → (w : World) → F.Holds b w (Meaning.pieces around calls ps p.left env k w) (Meaning.pieces around dalls ps p.right env j w)
    pieces_hold [] p env k j h w = h [] w
    pieces_hold (text number ∷ ps) p env k j h w = pieces_hold ps p env _ _ (λ r. h _) w
    pieces_hold (shown t e ∷ ps) p env k j h w = ev_holds e p env _ _ (λ v. pieces_hold ps (keeping F e v p) env _ _ (λ r. h _)) w

    more_hold : (bs : List (List ℕ)) {b : ℕ} (g h : Go) → ((w : World) → F.Holds b w (g w) (h w)) → (w : World) → F.Holds b w (Meaning.emit_more bs g w) (Meaning.emit_more bs h w)
    more_hold [] g h all w = turning F (noting F (all w))
    more_hold (x ∷ bs) g h all w = turning F (noting F (noting F (more_hold bs g h all w)))

    line_holds : (bs : List (List ℕ)) {b : ℕ} (g h : Go) → ((w : World) → F.Holds b w (g w) (h w)) → (w : World) → F.Holds b w (Meaning.emit_line bs g w) (Meaning.emit_line bs h w)
    line_holds [] g h all w = turning F (noting F (all w))
    line_holds (x ∷ bs) g h all w = turning F (noting F (more_hold bs g h all w))

    plain_holds : (bs : List (List ℕ)) {b : ℕ} (g h : Go) → ((w : World) → F.Holds b w (g w) (h w)) → (w : World) → F.Holds b w (Meaning.emit_plain bs g w) (Meaning.emit_plain bs h w)
    plain_holds [] g h all w = all w
    plain_holds (x ∷ bs) g h all w = turning F (noting F (plain_holds bs g h all w))

    emit_holds : (ln : Bool) (bs : List (List ℕ)) {b : ℕ} (g h : Go) → ((w : World) → F.Holds b w (g w) (h w)) → (w : World) → F.Holds b w (Meaning.emit ln bs g w) (Meaning.emit ln bs h w)
    emit_holds true bs g h all w = line_holds bs g h all w
    emit_holds false bs g h all w = plain_holds bs g h all w

    renew_holds : (sites : List ℕ) {b : ℕ} (entry : ℕ) (env : Env) (k j : Env → Go) → ((e : Env) (w : World) → F.Holds b w (k e w) (j e w)) → (w : World) → F.Holds b w (Meaning.renew around entry sites env k w) (Meaning.renew around entry sites env j w)
    renew_holds [] entry env k j h w = h env w
    renew_holds (site ∷ sites) entry env k j h w = turning F (marking (copied (Meaning.home env site)) tt (noting F (bear_holds entry site (Meaning.site_type around site) _ _ _ (λ x. renew_holds sites entry (Meaning.with_home env site x) k j h) w)))

    -- loops: of parts that keep the family under each lower bound
    rounds_hold : {b : ℕ} → (test nest : Env → Then Value → Go) → ((c : ℕ) → c ≤ b → (env : Env) (k j : Then Value) → ((v : Value) (w : World) → F.Holds c w (k v w) (j v w)) → (w : World) → F.Holds c w (test env k w) (nest env j w)) →
        (body nody : ℕ → Env → (ℕ → Env → Go) → Go) → ((c : ℕ) → c ≤ b → (v : ℕ) (env : Env) (k j : ℕ → Env → Go) → ((u : ℕ) (e : Env) (w : World) → F.Holds c w (k u e w) (j u e w)) → (w : World) → F.Holds c w (body v env k w) (nody v env j w)) →
        (k j : ℕ → Env → Go) → ((v : ℕ) (e : Env) (w : World) → F.Holds b w (k v e w) (j v e w)) → (x y : ℕ) → x ≤ y → (c : ℕ) → c ≤ b → c ≤ x → (v : ℕ) (env : Env) (w : World) → F.Holds c w (Meaning.rounds x test body k v env w) (Meaning.rounds y nest nody j v env w)
    rounds_hold test nest ht body nody hb k j h zero y xy c cb cx v env w = let q : 0 ≡ c = omega arith in subst (λ a. F.Holds a w Cut (Meaning.rounds y nest nody j v env w)) q (F.cuts w _)
    rounds_hold test nest ht body nody hb k j h (suc x) zero xy c cb cx v env w = absurd (omega arith)
    rounds_hold {b} test nest ht body nody hb k j h (suc x) (suc y) xy c cb cx v env w =
        ht c cb env _ _ (λ t u. when_holds (Meaning.is_true t) _ _ _ _ u
        (hb c cb v env _ _ (λ v1 e z. F.turns c z _ _ (rounds_hold test nest ht body nody hb k j h x y (omega arith) (c - 1) (omega arith) (omega arith) v1 e z)) u)
        (F.fewer c b u _ _ cb (h v env u))) w

    counted_holds : {b : ℕ} → (body nody : ℕ → ℕ → Env → (ℕ → Env → Go) → Go) → ((c : ℕ) → c ≤ b → (i v : ℕ) (env : Env) (k j : ℕ → Env → Go) → ((u : ℕ) (e : Env) (w : World) → F.Holds c w (k u e w) (j u e w)) → (w : World) → F.Holds c w (body i v env k w) (nody i v env j w)) →
        (k j : ℕ → Env → Go) → ((v : ℕ) (e : Env) (w : World) → F.Holds b w (k v e w) (j v e w)) → (x y : ℕ) → x ≤ y → (c : ℕ) → c ≤ b → c ≤ x → (i left v : ℕ) (env : Env) (w : World) → F.Holds c w (Meaning.counted x i left body k v env w) (Meaning.counted y i left nody j v env w)
    counted_holds body nody hb k j h zero y xy c cb cx i left v env w = let q : 0 ≡ c = omega arith in subst (λ a. F.Holds a w Cut (Meaning.counted y i left nody j v env w)) q (F.cuts w _)
    counted_holds body nody hb k j h (suc x) zero xy c cb cx i left v env w = absurd (omega arith)
    counted_holds {b} body nody hb k j h (suc x) (suc y) xy c cb cx i zero v env w = turning F (F.fewer c b w _ _ cb (h v env w))
    counted_holds body nody hb k j h (suc x) (suc y) xy c cb cx i (suc left) v env w =
        turning F (hb c cb i v env _ _ (λ v1 e z. F.turns c z _ _ (counted_holds body nody hb k j h x y (omega arith) (c - 1) (omega arith) (omega arith) (suc i) left v1 e z)) w)

    abbrev Part : Type 0
    Part = Ways → Env → (Env → Go) → Go

    record PartHolds (b : ℕ) (body nody : Part) : Type 0 where
      by : (p : Pair F (suc n) b) (env : Env) (k j : Env → Go) → ((e : Env) (w : World) → F.Holds b w (k e w) (j e w)) → (w : World) → F.Holds b w (body p.left env k w) (nody p.right env j w)

    test_holds : (t : Option Ex) {b : ℕ} (p : Pair F (suc n) b) (env : Env) (k j : Then Value) → ((v : Value) (w : World) → F.Holds b w (k v w) (j v w)) → (w : World) → F.Holds b w (Meaning.test_of around calls t p.left env k w) (Meaning.test_of around dalls t p.right env j w)
    test_holds None p env k j h w = h _ w
    test_holds (Some e) p env k j h w = ev_holds e p env _ _ (λ v u. turning F (h v u)) w

    begin_holds : (o : Over) {b : ℕ} (p : Pair F (suc n) b) (env : Env) (k j : ℕ → Value → Ways → Env → Go) → ((x : ℕ) (v : Value) (q : Pair F (suc n) b) (e : Env) (w : World) → F.Holds b w (k x v q.left e w) (j x v q.right e w)) → (w : World) → F.Holds b w (Meaning.begin_range around calls (suc n) o p.left env k w) (Meaning.begin_range around dalls (suc m) o p.right env j w)
    begin_holds (over_int e) p env k j h w = ev_holds e p env _ _ (λ v u. turning F (h _ v (keeping F e v p) env u)) w
    begin_holds (over_length x) p env k j h w = turning F (h x _ p env w)
    begin_holds (over_copy site e x) p env k j h w = ev_holds e p env _ _ (λ v u. turning F (born_here around p site v _ _ (λ y z. turning F (h x v p (Meaning.with_home env site y) z)) u)) w
    begin_holds (over_slice e t) p env k j h w = ev_holds e p env _ _ (λ v u. turning F (h _ v (keeping F e v p) env u)) w
    begin_holds (over_pointer at e x t) p env k j h w = ev_holds e p env _ _ (λ v u. turning F (h x v (keeping F e v p) env u)) w
    begin_holds (over_pointed x) p env k j h w = turning F (h x _ p env w)

    quit_holds : (z : ℤ) {b : ℕ} (p : Pair F (suc n) b) (env : Env) (at : Position) (w : World) → F.Holds b w (Meaning.quit_with p.left env at z w) (Meaning.quit_with p.right env at z w)
    quit_holds (pos x) p env at w = when_holds (nat_lt x 126) _ _ _ _ w (F.ends _ w (Exit x)) (p.hold.panicked at _ env w)
    quit_holds (negsuc x) p env at w = p.hold.panicked at _ env w

    -- rounds, of a body and a post statement that keep the family
    around_hold : (body nody post nost : Part) (sites : List ℕ) {b : ℕ} → PartHolds b body nody → PartHolds b post nost → (p : Pair F (suc n) b) (out nout : Env → Go) → ((e : Env) (w : World) → F.Holds b w (out e w) (nout e w)) → (v : ℕ) (env : Env) (k j : ℕ → Env → Go) → ((u : ℕ) (e : Env) (w : World) → F.Holds b w (k u e w) (j u e w)) → (w : World) →
        F.Holds b w (Meaning.in_loop body p.left out (Meaning.to_next around v sites post p.left k) env w) (Meaning.in_loop nody p.right nout (Meaning.to_next around v sites nost p.right j) env w)
    around_hold body nody post nost sites {b} hb hp p out nout ho v env k j h w =
        let again : (e : Env) (u : World) → F.Holds b u (Meaning.to_next around v sites post p.left k e u) (Meaning.to_next around v sites nost p.right j e u) = λ e u. marking (ended v) tt
        (subst (λ c. F.Holds b u (Meaning.renew around p.left.call sites e (λ e1. post p.left e1 (k (length u.store))) u) (Meaning.renew around c sites e (λ e1. nost p.right e1 (j (length u.store))) u)) p.same
        (renew_holds sites p.left.call e (λ e1. post p.left e1 (k (length u.store))) (λ e1. nost p.right e1 (j (length u.store))) (λ e1. hp.by p e1 _ _ (h (length u.store))) u)) in
        hb.by (looping F p out nout _ _ ho again) env _ _ again w

    index_round_holds : (key : Left) (body nody : Part) (i : ℕ) {b : ℕ} → PartHolds b body nody → (p : Pair F (suc n) b) (out nout : ℕ → Env → Go) → ((u : ℕ) (e : Env) (w : World) → F.Holds b w (out u e w) (nout u e w)) → (v : ℕ) (env : Env) (k j : ℕ → Env → Go) → ((u : ℕ) (e : Env) (w : World) → F.Holds b w (k u e w) (j u e w)) → (w : World) →
        F.Holds b w (Meaning.index_round around calls (suc n) key body p.left out i v env k w) (Meaning.index_round around dalls (suc m) key nody p.right nout i v env j w)
    index_round_holds key body nody i {b} hb p out nout ho v env k j h w =
        let again : (e : Env) (u : World) → F.Holds b u (Meaning.to_next_count v k e u) (Meaning.to_next_count v j e u) = λ e u. marking (ended v) tt (h (length u.store) e u) in
        ready_holds key p env _ _ (λ a. land_holds a (int (pos i)) p env _ _ (λ e1. hb.by (looping F p (out v) (nout v) _ _ (ho v) again) e1 _ _ again)) w

    -- what reads an element
    record GetHolds (b : ℕ) (get : ℕ → Ways → Env → Then Value → Go) : Type 0 where
      by : (i : ℕ) (p : Pair F (suc n) b) (env : Env) (k j : Then Value) → ((v : Value) (w : World) → F.Holds b w (k v w) (j v w)) → (w : World) → F.Holds b w (get i p.left env k w) (get i p.right env j w)

    reading_round_holds : (get : ℕ → Ways → Env → Then Value → Go) (key value : Left) (body nody : Part) (i : ℕ) {b : ℕ} → GetHolds b get → PartHolds b body nody → (p : Pair F (suc n) b) (out nout : ℕ → Env → Go) → ((u : ℕ) (e : Env) (w : World) → F.Holds b w (out u e w) (nout u e w)) → (v : ℕ) (env : Env) (k j : ℕ → Env → Go) → ((u : ℕ) (e : Env) (w : World) → F.Holds b w (k u e w) (j u e w)) → (w : World) →
        F.Holds b w (Meaning.reading_round around calls (suc n) get key value body p.left out i v env k w) (Meaning.reading_round around dalls (suc m) get key value nody p.right nout i v env j w)
    reading_round_holds get key value body nody i {b} hg hb p out nout ho v env k j h w =
        let again : (e : Env) (u : World) → F.Holds b u (Meaning.to_next_count v k e u) (Meaning.to_next_count v j e u) = λ e u. marking (ended v) tt (h (length u.store) e u) in
        ready_all_hold (key ∷ value ∷ []) p env
        (λ those ws1. get i p.left env (λ y. Meaning.land_all around those (int (pos i) ∷ y ∷ []) p.left env (λ env1. Meaning.in_loop body p.left (out v) (Meaning.to_next_count v k) env1)))
        (λ those ws1. get i p.right env (λ y. Meaning.land_all around those (int (pos i) ∷ y ∷ []) p.right env (λ env1. Meaning.in_loop nody p.right (nout v) (Meaning.to_next_count v j) env1)))
        (λ those q. hg.by i p env _ _ (λ y. land_all_hold those (int (pos i) ∷ y ∷ []) p env _ _ (λ e1. hb.by (looping F p (out v) (nout v) _ _ (ho v) again) e1 _ _ again))) w

    round_holds : (over : Over) (x : Value) (key value : Left) (body nody : Part) (i : ℕ) {b : ℕ} → PartHolds b body nody → (p : Pair F (suc n) b) (out nout : ℕ → Env → Go) → ((u : ℕ) (e : Env) (w : World) → F.Holds b w (out u e w) (nout u e w)) → (v : ℕ) (env : Env) (k j : ℕ → Env → Go) → ((u : ℕ) (e : Env) (w : World) → F.Holds b w (k u e w) (j u e w)) → (w : World) →
        F.Holds b w (Meaning.range_round around calls (suc n) over x key value body p.left out i v env k w) (Meaning.range_round around dalls (suc m) over x key value nody p.right nout i v env j w)
    round_holds (over_int e) x key value body nody i hb p out nout ho v env k j h w = index_round_holds key body nody i hb p out nout ho v env k j h w
    round_holds (over_length size) x key value body nody i hb p out nout ho v env k j h w = index_round_holds key body nody i hb p out nout ho v env k j h w
    round_holds (over_copy site e size) x key value body nody i hb p out nout ho v env k j h w = reading_round_holds (Meaning.read_copied site) key value body nody i (record { by = λ i q e1 k1 j1 h1 u. noting F (h1 _ u) }) hb p out nout ho v env k j h w
    round_holds (over_slice e t) x key blank body nody i hb p out nout ho v env k j h w = index_round_holds key body nody i hb p out nout ho v env k j h w
    round_holds (over_slice e t) x key value body nody i hb p out nout ho v env k j h w = reading_round_holds (Meaning.read_sliced x) key value body nody i (record { by = λ i q e1 k1 j1 h1 u. noting F (h1 _ u) }) hb p out nout ho v env k j h w
    round_holds (over_pointer at e size t) x key blank body nody i hb p out nout ho v env k j h w = index_round_holds key body nody i hb p out nout ho v env k j h w
    round_holds (over_pointer at e size t) x key value body nody i hb p out nout ho v env k j h w =
        reading_round_holds (Meaning.read_pointed at x) key value body nody i (record { by = λ i q e1 k1 j1 h1 u. or_panic_holds q e1 at (Meaning.pointed x) _ _ (λ s z. noting F (h1 _ z)) u }) hb p out nout ho v env k j h w
    round_holds (over_pointed size) x key value body nody i hb p out nout ho v env k j h w = index_round_holds key body nody i hb p out nout ho v env k j h w

    zeros_hold : (sites : List ℕ) {b : ℕ} (entry : ℕ) (env : Env) (k j : Env → Go) → ((e : Env) (w : World) → F.Holds b w (k e w) (j e w)) → (w : World) → F.Holds b w (Meaning.bear_zeros around entry sites env k w) (Meaning.bear_zeros around entry sites env j w)
    zeros_hold [] entry env k j h w = h env w
    zeros_hold (site ∷ sites) entry env k j h w = turning F (bear_holds entry site (Meaning.site_type around site) _ _ _ (λ x. zeros_hold sites entry (Meaning.with_home env site x) k j h) w)

    mutual
      exec_holds : (s : St) {b : ℕ} (p : Pair F (suc n) b) (env : Env) (k j : Env → Go) → ((e : Env) (w : World) → F.Holds b w (k e w) (j e w)) → (w : World) → F.Holds b w (Meaning.exec around calls (suc n) s p.left env k w) (Meaning.exec around dalls (suc m) s p.right env j w)
      exec_holds (declare sites) {b} p env k j h w =
          subst (λ c. F.Holds b w (Meaning.bear_zeros around p.left.call sites env k w) (Meaning.bear_zeros around c sites env j w)) p.same (zeros_hold sites p.left.call env k j h w)
      exec_holds (assign ls es) p env k j h w = ready_all_hold ls p env _ _ (λ those q. evs_hold es q env _ _ (λ vs. land_all_hold those vs p env k j h)) w
      exec_holds (update at q op e) p env k j h w =
          aim_holds q p env _ _ (λ a. settle_holds a p env _ _ (λ s u. noting F (ev_holds e (keeping F (read q) (read_at u s.variable s.path) (keeping_all F (Meaning.base_values p.left.call a.base) (Meaning.base_values p.right.call a.base) p)) env _ _ (λ x. or_panic_holds p env at (binary_of op (read_at u s.variable s.path) x) _ _ (λ y. write_holds s.variable s.path y _ _ (h env))) u))) w
      exec_holds (bump at q op) p env k j h w =
          aim_holds q p env _ _ (λ a. settle_holds a p env _ _ (λ s u. noting F (or_panic_holds p env _ (binary_of op (read_at u s.variable s.path) (int (pos 1))) _ _ (λ y. write_holds s.variable s.path y _ _ (h env)) u))) w
      exec_holds (discard es) p env k j h w = evs_hold es p env _ _ (λ vs. h env) w
      exec_holds (block ss) p env k j h w = all_hold ss p env k j h w
      exec_holds (if_stmt e a c) p env k j h w = ev_holds e p env _ _ (λ v u. turning F (when_holds (Meaning.is_true v) _ _ _ _ u (all_hold a p env k j h u) (all_hold c p env k j h u))) w
      exec_holds (for_stmt sites test post body) p env k j h w =
          rounds_hold _ _ (λ c cb e k1 j1 h1. test_holds test (lower F p c cb) e k1 j1 h1) _ _
          (λ c cb v e k1 j1 h1. around_hold _ _ _ _ sites (record { by = all_hold body }) (record { by = all_hold post }) (lower F p c cb) _ _ (λ e1 u. F.fewer c _ u _ _ cb (outside_holds k j h v e1 u)) v e k1 j1 h1)
          _ _ (outside_holds k j h) (suc n) (suc m) (omega arith) _ (omega arith) p.within (length w.store - length sites) env w
      exec_holds (range over key value body) p env k j h w =
          begin_holds over p env _ _ (λ x y q env1 u. counted_holds _ _
          (λ c cb i v e k1 j1 h1. round_holds over y key value _ _ i (record { by = all_hold body }) (lower F q c cb) _ _ (λ y e1 z. F.fewer c _ z _ _ cb (outside_holds k j h y e1 z)) v e k1 j1 h1)
          _ _ (outside_holds k j h) (suc n) (suc m) (omega arith) _ (omega arith) p.within 0 x (length u.store) env1 u) w
      exec_holds break_stmt p env k j h w = turning F (p.hold.broken env w)
      exec_holds continue_stmt p env k j h w = turning F (p.hold.continued env w)
      exec_holds (return_stmt es) p env k j h w = evs_hold es p env _ _ (λ vs. p.hold.returned vs env) w
      exec_holds (print ln ps) p env k j h w = pieces_hold ps p env _ _ (λ bs. emit_holds ln bs _ _ (h env)) w
      exec_holds (panic at (text number)) p env k j h w = turning F (p.hold.panicked at _ env w)
      exec_holds (panic at (shown t e)) p env k j h w = ev_holds e p env _ _ (λ v u. turning F (p.hold.panicked at _ env u)) w
      exec_holds (exit at e) p env k j h w = ev_holds e p env _ _ (λ v u. turning F (quit_holds (Meaning.int_of v) p env at u)) w

      all_hold : (ss : Sts) {b : ℕ} (p : Pair F (suc n) b) (env : Env) (k j : Env → Go) → ((e : Env) (w : World) → F.Holds b w (k e w) (j e w)) → (w : World) → F.Holds b w (Meaning.exec_all around calls (suc n) ss p.left env k w) (Meaning.exec_all around dalls (suc m) ss p.right env j w)
      all_hold done p env k j h w = seeing F (h env w)
      all_hold (next s ss) p env k j h w = seeing F (exec_holds s p env _ _ (λ e. all_hold ss p e k j h) w)

    params_hold : (ps : List (Option ℕ)) (vs : List Value) {b : ℕ} (entry : ℕ) (env : Env) (k j : Env → Go) → ((e : Env) (w : World) → F.Holds b w (k e w) (j e w)) → (w : World) → F.Holds b w (Meaning.bear_params around entry ps vs env k w) (Meaning.bear_params around entry ps vs env j w)
    params_hold [] vs entry env k j h w = h env w
    params_hold (p ∷ ps) [] entry env k j h w = h env w
    params_hold (None ∷ ps) (v ∷ vs) entry env k j h w = params_hold ps vs entry env k j h w
    params_hold (Some site ∷ ps) (v ∷ vs) entry env k j h w = turning F (bear_holds entry site (Meaning.site_type around site) v _ _ (λ x. params_hold ps vs entry (Meaning.with_home env site x) k j h) w)

  writes_hold : (sites : List ℕ) (vs : List Value) {b : ℕ} (env : Env) (g h : Go) → ((w : World) → F.Holds b w (g w) (h w)) → (w : World) → F.Holds b w (Meaning.write_results sites vs env g w) (Meaning.write_results sites vs env h w)
  writes_hold [] vs env g h all w = all w
  writes_hold (site ∷ sites) [] env g h all w = all w
  writes_hold (site ∷ sites) (v ∷ vs) env g h all w = turning F (write_holds _ [] v _ _ (writes_hold sites vs env g h all) w)

  reads_hold : (sites : List ℕ) {b : ℕ} (env : Env) (k j : Then (List Value)) → ((vs : List Value) (w : World) → F.Holds b w (k vs w) (j vs w)) → (w : World) → F.Holds b w (Meaning.read_results sites env k w) (Meaning.read_results sites env j w)
  reads_hold [] env k j h w = h [] w
  reads_hold (site ∷ sites) env k j h w = turning F (noting F (reads_hold sites env _ _ (λ vs. h _) w))

  leave_holds : (named : List ℕ) (v : ℕ) {b : ℕ} (k j : Then (List Value)) → ((rs : List Value) (w : World) → F.Holds b w (k rs w) (j rs w)) → (vs : List Value) (env : Env) (w : World) → F.Holds b w (Meaning.leave named v k vs env w) (Meaning.leave named v j vs env w)
  leave_holds [] v k j h vs env w = turning F (marking (ended v) tt (noting F {e = Return} (h vs w)))
  leave_holds (site ∷ sites) v k j h vs env w = writes_hold (site ∷ sites) vs env _ _ (reads_hold (site ∷ sites) env _ _ (λ rs u. turning F (marking (ended v) tt (noting F {e = Return} (h rs u))))) w

  module _ (around : Setting) (funcs : List Func) where
    body_holds : (calls dalls : Calls) (n m : ℕ) → n ≤ m → CallsHold F n calls dalls → (f : ℕ) (o : Option Func) (vs : List Value) (ws us : Ways) (env : Env) (b : ℕ) → b ≤ suc n → WaysHold F b ws us → (k j : Then (List Value)) → ((rs : List Value) (w : World) → F.Holds b w (k rs w) (j rs w)) → (w : World) → F.Holds b w (Meaning.run_body around funcs calls (suc n) f o vs ws env k w) (Meaning.run_body around funcs dalls (suc m) f o vs us env j w)
    body_holds calls dalls n m le hc f None vs ws us env b within hw k j h w = h [] w
    body_holds calls dalls n m le hc f (Some func) vs ws us env b within hw k j h w =
        let v = length w.store in
        let back : (rs : List Value) (e : Env) (u : World) → F.Holds b u (Meaning.leave func.named v k rs e u) (Meaning.leave func.named v j rs e u) = leave_holds func.named v k j h in
        let inner : Pair F (suc n) b = record { left = Meaning.ways_in func.named v ws env k; right = Meaning.ways_in func.named v us env j; same = refl; within = within; hold = record { broken = back []; continued = back []; returned = back; panicked = λ at x e u. hw.panicked at x env u } } in
        marking (entered w vs) tt (noting F (params_hold around calls dalls n m le hc func.params vs v _ _ _ (λ e1. zeros_hold around calls dalls n m le hc func.named v e1 _ _ (λ e2. all_hold around calls dalls n m le hc func.body inner e2 _ _ (back []))) w))

    calls_hold : (n m : ℕ) → n ≤ m → CallsHold F n (Meaning.call_at around funcs n) (Meaning.call_at around funcs m)
    calls_hold zero m le = record { by = λ f vs ws us env b within hw k j h w. let q : 0 ≡ b = omega arith in subst (λ a. F.Holds a w Cut (Meaning.call_at around funcs m f vs us env j w)) q (F.cuts w _) }
    calls_hold (suc n) zero le = absurd (omega arith)
    calls_hold (suc n) (suc m) le = record { by = λ f vs ws us env b within hw k j h w. body_holds (Meaning.call_at around funcs n) (Meaning.call_at around funcs m) n m (omega arith) (calls_hold n m (omega arith)) f (slice_get funcs f) vs ws us env b within hw k j h w }

  globals_hold : (around : Setting) (gs : List (ℕ × Value)) {b : ℕ} (g h : Go) → ((w : World) → F.Holds b w (g w) (h w)) → (w : World) → F.Holds b w (Meaning.bear_globals around gs g w) (Meaning.bear_globals around gs h w)
  globals_hold around [] g h all w = all w
  globals_hold around ((site, v) ∷ gs) g h all w = bear_holds 0 site (Meaning.site_type around site) v _ _ (λ x. globals_hold around gs g h all) w

  pub whole_holds : (items : ℕ → Item) (p : Program) (n m : ℕ) → n ≤ m → (w : World) → F.Holds n w (Meaning.whole items p n w) (Meaning.whole items p m w)
  whole_holds items p n m le w =
      globals_hold (Meaning.setting_of items p) p.globals _ _ ((calls_hold (Meaning.setting_of items p) p.funcs n m le).by p.main [] Meaning.at_top Meaning.at_top (λ x. 0) n (omega arith)
      (record { broken = λ e u. F.ends n u (Exit 0); continued = λ e u. F.ends n u (Exit 0); returned = λ vs e u. F.ends n u (Exit 0); panicked = λ at f e u. F.ends n u (Panic at f) })
      _ _ (λ rs u. F.ends n u (Exit 0))) w
