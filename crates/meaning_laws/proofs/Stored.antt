-- States of their types: births and writes keep them, and slices and their parts lead to elements that are there.
use Rattle.std.proofs.Common.{◌≡◌, ◌⊎◌, inl, inr, ℕ, zero, suc, ◌+◌, ◌<◌, ◌≤◌, List, [], ◌∷◌, ◌++◌, Some, Result, Ok, Err, Bool, true, false, ℤ, pos, negsuc, refl, sym, subst, arith}
use Rattle.std.specs.Prelude.{length, get_or, slice_get, nat_le, nat_lt, IfOk, if◌then◌else◌, ◌&&◌}
use Rattle.std.proofs.lemmas.Bool.{true≢false, ltb-true, leb-true}
use Rattle.typed_syntax.specs.Types.{TypeTree, array_of, slice_of, pointer_to}
use Rattle.typed_syntax.specs.Value.{Value, pointer, nil_slice, slice_in}
use Rattle.typed_syntax.specs.Paths.{Leads}
use Rattle.typed_syntax.specs.Syntax.{Program, type_named}
use Rattle.meaning.specs.Trace.{Fault, index_out_of_range, slice_high, slice_low, make_length, make_capacity, World, Cell, Held, Origin, of_ex, of_exs}
use Rattle.meaning.specs.Store.{no_cell, change, read_at, written, elements_at, elements_written, born}
use Rattle.meaning.specs.Operators.{slice_variable, slice_path, slice_first, slice_count, slice_room, Bounds, cut_from, nil_within, slice_part, array_part, bounds_within, low_below, Sizes, sizes_of, room_for, most_elements}
use Rattle.meaning.specs.Meaning.{element_of, element_spot, int_of, pointed}
use Rattle.meaning_laws.specs.Typing.{types_in, LeadsToPart, LeadsToElements, IsTyped, EachTyped, CellsTyped, IsGiven, IsAddress, HeldTyped}
use Rattle.meaning_laws.proofs.Typed.{Stay, leads_into, none_some, changed_types, stay_born, there_born, more_typed, at_typed, with_path_typed, AllTyped}

-- ---- numbers that are tested

both_true : (a b : Bool) → (a && b) ≡ true → (a ≡ true) × (b ≡ true)
both_true true b e = (refl, e)
both_true false b e = absurd (true≢false (sym e))

pub element_below : (z : ℤ) (n : ℕ) → IfOk (element_of z n) (λ i. i < n)
element_below (negsuc i) n = tt
element_below (pos i) n = by (nat_lt i n) refl
  where
    by : (c : Bool) → nat_lt i n ≡ c → IfOk (if c then Ok i else Err (index_out_of_range (pos i) (pos n))) (λ j. j < n)
    by true e = ltb-true i n e
    by false e = tt

-- the low bound is at most the high one, and that at most the room
abbrev InOrder : ℕ → Bounds → Type 0
InOrder room b = (b.low ≤ b.high) × (b.high ≤ room)

low_good : (low : ℤ) (high room : ℕ) → high ≤ room → IfOk (low_below low high) (InOrder room)
low_good (negsuc l) h room le = tt
low_good (pos l) h room le = by (nat_le l h) refl
  where
    by : (c : Bool) → nat_le l h ≡ c → IfOk (if c then Ok (record { low = l; high = h }) else Err (slice_low (pos l) (pos h))) (InOrder room)
    by true e = (leb-true l h e, le)
    by false e = tt

pub bounds_good : (low high : ℤ) (room : ℕ) → IfOk (bounds_within low high room) (InOrder room)
bounds_good low (negsuc h) room = tt
bounds_good low (pos h) room = by (nat_le h room) refl
  where
    by : (c : Bool) → nat_le h room ≡ c → IfOk (if c then low_below low h else Err (slice_high (pos h) (pos room))) (InOrder room)
    by true e = low_good low h room (leb-true h room e)
    by false e = tt

abbrev pub HasRoom : Sizes → Type 0
HasRoom z = z.count ≤ z.room

room_good : (n : ℕ) (c : ℤ) → IfOk (room_for n c) HasRoom
room_good n (negsuc c) = tt
room_good n (pos c) = by (nat_le c most_elements && nat_le n c) refl
  where
    by : (b : Bool) → (nat_le c most_elements && nat_le n c) ≡ b → IfOk (if b then Ok (record { count = n; room = c }) else Err (make_capacity (pos c) (pos n))) HasRoom
    by true e = leb-true n c (both_true (nat_le c most_elements) (nat_le n c) e).1
    by false e = tt

pub sizes_good : (count room : ℤ) → IfOk (sizes_of count room) HasRoom
sizes_good (negsuc n) c = tt
sizes_good (pos n) c = by (nat_le n most_elements) refl
  where
    by : (b : Bool) → nat_le n most_elements ≡ b → IfOk (if b then room_for n c else Err (make_length (pos n))) HasRoom
    by true e = room_good n c
    by false e = tt

pub leads_more : (vars more : List TypeTree) (x : ℕ) (path : List ℕ) (t : TypeTree) → Stay vars more → LeadsToPart vars x path t → LeadsToPart more x path t
leads_more vars more x path t stay h = (h.0, stay x h.0 h.1, h.2)

-- the types of the variables of a state
abbrev pub vars_of : World → List TypeTree
vars_of w = types_in w.store

module _ (p : Program) where
  -- ---- more variables

  pub each_more : (ts : List TypeTree) (vs : List Value) (vars more : List TypeTree) → Stay vars more → EachTyped p vars ts vs → EachTyped p more ts vs
  each_more [] [] vars more stay h = tt
  each_more (t ∷ ts) (v ∷ vs) vars more stay h = (more_typed p t v vars more stay h.0, each_more ts vs vars more stay h.1)
  each_more ts vs vars more stay h = absurd h

  pub all_more : (t : TypeTree) (vs : List Value) (vars more : List TypeTree) → Stay vars more → AllTyped p vars t vs → AllTyped p more t vs
  all_more t [] vars more stay h = tt
  all_more t (v ∷ vs) vars more stay h = (more_typed p t v vars more stay h.0, all_more t vs vars more stay h.1)

  given_more : (o : Origin) (v : Value) (vars more : List TypeTree) → Stay vars more → IsGiven p vars o v → IsGiven p more o v
  given_more (of_ex e) v vars more stay h = (h.0, h.1, h.2, more_typed p h.1 v vars more stay h.3)
  given_more (of_exs es i) v vars more stay h = (h.0, h.1, h.2, h.3, h.4, more_typed p h.2 v vars more stay h.5)

  one_more : (o : Origin) (v : Value) (vars more : List TypeTree) → Stay vars more → (IsGiven p vars o v ⊎ IsAddress p vars o v) → (IsGiven p more o v ⊎ IsAddress p more o v)
  one_more o v vars more stay (inl h) = inl (given_more o v vars more stay h)
  one_more o v vars more stay (inr h) = inr (h.0, h.1, h.2, h.3, h.4, h.5, h.6, h.7, leads_more vars more h.3 h.4 h.1 stay h.8)

  pub held_more : (hs : List Held) (vars more : List TypeTree) → Stay vars more → HeldTyped p vars hs → HeldTyped p more hs
  held_more [] vars more stay h = tt
  held_more (x ∷ hs) vars more stay h = (one_more x.origin x.value vars more stay h.0, held_more hs vars more stay h.1)

  pub held_together : (hs gs : List Held) (vars : List TypeTree) → HeldTyped p vars hs → HeldTyped p vars gs → HeldTyped p vars (hs ++ gs)
  held_together [] gs vars h g = g
  held_together (x ∷ hs) gs vars h g = (h.0, held_together hs gs vars h.1 g)

  cells_more : (cs : List Cell) (vars more : List TypeTree) → Stay vars more → CellsTyped p vars cs → CellsTyped p more cs
  cells_more [] vars more stay h = tt
  cells_more (c ∷ cs) vars more stay h = (more_typed p c.type c.value vars more stay h.0, cells_more cs vars more stay h.1)

  -- ---- states

  -- a typed state, in which variables that were there before are there with their types
  pub record Sound (vars : List TypeTree) (w : World) : Type 0 where
    pub from : Stay vars (vars_of w)
    pub cells : CellsTyped p (vars_of w) w.store

  pub sound_here : {vars : List TypeTree} (w : World) → Sound vars w → Sound (vars_of w) w
  sound_here w s = record { from = λ x t h. h; cells = s.cells }

  pub sound_down : (vars more : List TypeTree) (w : World) → Stay vars more → Sound more w → Sound vars w
  sound_down vars more w stay s = record { from = λ x t h. s.from x t (stay x t h); cells = s.cells }

  cell_typed : (cs : List Cell) (vars : List TypeTree) (x : ℕ) (s : TypeTree) → CellsTyped p vars cs → slice_get (types_in cs) x ≡ Some s → IsTyped p vars s (get_or cs x no_cell).value
  cell_typed [] vars x s h is = absurd (none_some is)
  cell_typed (c ∷ cs) vars zero s h is = let e : c.type ≡ s = cc in subst (λ r. IsTyped p vars r c.value) e h.0
  cell_typed (c ∷ cs) vars (suc x) s h is = cell_typed cs vars x s h.1 is

  -- a part that is there is of its type
  pub read_typed : {vars : List TypeTree} (w : World) (x : ℕ) (path : List ℕ) (t : TypeTree) → Sound vars w → LeadsToPart (vars_of w) x path t → IsTyped p (vars_of w) t (read_at w x path)
  read_typed w x path t s l = at_typed p (vars_of w) path l.0 t (get_or w.store x no_cell).value (cell_typed w.store (vars_of w) x l.0 s.cells l.1) l.2

  pub elements_typed : {vars : List TypeTree} (w : World) (x : ℕ) (path : List ℕ) (count first size : ℕ) (t : TypeTree) → Sound vars w → LeadsToPart (vars_of w) x path (array_of size t) → first + count ≤ size
      → AllTyped p (vars_of w) t (elements_at w x path first count)
  elements_typed w x path zero first size t s l le = tt
  elements_typed w x path (suc count) first size t s l le =
      (read_typed w x (path ++ first ∷ []) t s (l.0, l.1, leads_into path l.0 t size first l.2 (omega arith)), elements_typed w x path count (suc first) size t s l (omega arith))

  changed_typed : (cs : List Cell) (vars : List TypeTree) (x : ℕ) (path : List ℕ) (v : Value) (s t : TypeTree) → CellsTyped p vars cs → slice_get (types_in cs) x ≡ Some s → Leads s path t → IsTyped p vars t v
      → CellsTyped p vars (change cs x path v)
  changed_typed [] vars x path v s t h is l g = tt
  changed_typed (c ∷ cs) vars zero path v s t h is l g = let e : s ≡ c.type = cc in (with_path_typed p vars path c.type t c.value v h.0 (subst (λ r. Leads r path t) e l) g, h.1)
  changed_typed (c ∷ cs) vars (suc x) path v s t h is l g = (h.0, changed_typed cs vars x path v s t h.1 is l g)

  -- a value is written to a part of its type
  pub written_sound : (vars : List TypeTree) (w : World) (x : ℕ) (path : List ℕ) (t : TypeTree) (v : Value) → LeadsToPart vars x path t → IsTyped p vars t v → Sound vars w → Sound vars (written w x path v)
  written_sound vars w x path t v l g s =
      let same : vars_of w ≡ vars_of (written w x path v) = sym (changed_types w.store x path v) in
      record {
        from = subst (λ r. Stay vars r) same s.from;
        cells = subst (λ r. CellsTyped p r (change w.store x path v)) same
            (changed_typed w.store (vars_of w) x path v l.0 t s.cells (s.from x l.0 l.1) l.2 (more_typed p t v vars (vars_of w) s.from g));
      }

  pub elements_sound : (xs : List Value) (vars : List TypeTree) (w : World) (x : ℕ) (path : List ℕ) (first size : ℕ) (t : TypeTree) → LeadsToPart vars x path (array_of size t) → first + length xs ≤ size
      → AllTyped p vars t xs → Sound vars w → Sound vars (elements_written w x path first xs)
  elements_sound [] vars w x path first size t l le h s = s
  elements_sound (v ∷ xs) vars w x path first size t l le h s =
      elements_sound xs vars (written w x (path ++ first ∷ []) v) x path (suc first) size t l (omega arith) h.1
      (written_sound vars w x (path ++ first ∷ []) t v (l.0, l.1, leads_into path l.0 t size first l.2 (omega arith)) h.0 s)

  born_typed : (cs : List Cell) (c : Cell) (vars : List TypeTree) → CellsTyped p vars cs → IsTyped p vars c.type c.value → CellsTyped p vars (cs ++ c ∷ [])
  born_typed [] c vars h g = (g, tt)
  born_typed (d ∷ cs) c vars h g = (h.0, born_typed cs c vars h.1 g)

  -- a variable is born with a value of its type, and is there then
  pub born_sound : (vars : List TypeTree) (w : World) (c : Cell) → IsTyped p vars c.type c.value → Sound vars w → Sound vars (born w c) × (slice_get (vars_of (born w c)) (length w.store) ≡ Some c.type)
  born_sound vars w c g s =
      let stay = stay_born w.store c in (
        record {
          from = λ x t h. stay x t (s.from x t h);
          cells = born_typed w.store c (vars_of (born w c)) (cells_more w.store (vars_of w) (vars_of (born w c)) stay s.cells)
              (more_typed p c.type c.value vars (vars_of (born w c)) (λ x t h. stay x t (s.from x t h)) g);
        },
        there_born w.store c,
      )

  -- ---- slices

  module _ (vars : List TypeTree) (n : ℕ) where
    pub slice_has_room : (s : Value) → IsTyped p vars (slice_of n) s → slice_count s ≤ slice_room s
    slice_has_room nil_slice h = omega arith
    slice_has_room (slice_in x path first count room) h = h.3
    slice_has_room s h = absurd h

    -- a slice with room leads to elements
    pub slice_leads : (s : Value) → IsTyped p vars (slice_of n) s → 0 < slice_room s
        → LeadsToElements vars (slice_variable s) (slice_path s) (slice_first s) (slice_count s) (slice_room s) (type_named p n)
    slice_leads nil_slice h some = absurd (omega arith)
    slice_leads (slice_in x path first count room) h some = h
    slice_leads s h some = absurd h

    -- one of its elements is there
    pub element_leads : (s : Value) (i : ℕ) → IsTyped p vars (slice_of n) s → i < slice_room s → LeadsToPart vars (slice_variable s) (slice_path s ++ (slice_first s + i) ∷ []) (type_named p n)
    element_leads s i h l =
        let (size, (r, is, leads), fits, few) = slice_leads s h (omega arith) in
        (r, is, leads_into (slice_path s) r (type_named p n) size (slice_first s + i) leads (omega arith))

    pub element_spot_leads : (s i : Value) → IsTyped p vars (slice_of n) s → IfOk (element_spot s (element_of (int_of i) (slice_count s))) (λ q. LeadsToPart vars q.variable q.path (type_named p n))
    element_spot_leads s i h = by (element_of (int_of i) (slice_count s)) (element_below (int_of i) (slice_count s))
      where
        by : (r : Result ℕ Fault) → IfOk r (λ j. j < slice_count s) → IfOk (element_spot s r) (λ q. LeadsToPart vars q.variable q.path (type_named p n))
        by (Ok j) l = element_leads s j h (let m = slice_has_room s h in omega arith)
        by (Err f) l = tt

    pub pointed_leads : (v : Value) → IsTyped p vars (pointer_to n) v → IfOk (pointed v) (λ q. LeadsToPart vars q.variable q.path (type_named p n))
    pointed_leads (pointer x path) h = h
    pointed_leads v h = tt

    cut_typed : (x : ℕ) (path : List ℕ) (first room size : ℕ) (r : Result Bounds Fault) → LeadsToPart vars x path (array_of size (type_named p n)) → first + room ≤ size → IfOk r (InOrder room)
        → IfOk (cut_from x path first room r) (IsTyped p vars (slice_of n))
    cut_typed x path first room size (Ok b) l le h = (size, l, let a = h.0 in let c = h.1 in omega arith, let a = h.0 in let c = h.1 in omega arith)
    cut_typed x path first room size (Err f) l le h = tt

    nil_typed : (r : Result Bounds Fault) → IfOk (nil_within r) (IsTyped p vars (slice_of n))
    nil_typed (Ok b) = tt
    nil_typed (Err f) = tt

    -- a part of a slice, and of an array, is one
    pub slice_part_typed : (s : Value) (low high : ℤ) → IsTyped p vars (slice_of n) s → IfOk (slice_part s low high) (IsTyped p vars (slice_of n))
    slice_part_typed (slice_in x path first count room) low high h = cut_typed x path first room h.0 (bounds_within low high room) h.1 h.2 (bounds_good low high room)
    slice_part_typed s low high h = nil_typed (bounds_within low high 0)

    pub array_part_typed : (x : ℕ) (path : List ℕ) (size : ℕ) (low high : ℤ) → LeadsToPart vars x path (array_of size (type_named p n)) → IfOk (array_part x path size low high) (IsTyped p vars (slice_of n))
    array_part_typed x path size low high l = cut_typed x path 0 size size (bounds_within low high size) l (omega arith) (bounds_good low high size)
