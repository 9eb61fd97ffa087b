-- Places whose operands are held: what they begin at, their types, and the homes of their variables.
use Rattle.std.proofs.Common.{◌≡◌, inl, inr, ℕ, zero, suc, ◌+◌, ◌-◌, ◌*◌, ◌<◌, pos, Bool, true, false, List, [], ◌∷◌, ◌++◌, length, Some, refl, sym, ap, ◌∙◌, subst, arith, append_assoc, length-append}
use Rattle.std.specs.Prelude.{slice_get, slice_index}
use Rattle.typed_syntax.specs.Positions.{Position}
use Rattle.typed_syntax.specs.Types.{TypeTree, ints, array_of, pointer_to, slice_of, width, part_count, part_type, part_offset}
use Rattle.typed_syntax.specs.Value.{Value, int, pointer, nil_slice, slice_in, IsOf}
use Rattle.typed_syntax.specs.Paths.{Leads, type_at, offset}
use Rattle.typed_syntax.specs.Words.{number, part_address, array_address}
use Rattle.value_laws.proofs.Parts.{leads_to, element, joined_types}
use Rattle.typed_syntax.specs.Syntax.{Ex, Func, Pl, Steps, local, global, indirect, slice_element, here as itself, inner, at_index, path_of, global_type, site_type, type_named}
use Rattle.typed_syntax.specs.Form.{AreOf, InScope, PlFits, StepsLead}
use Rattle.frames.specs.Frames.{far, outgoing_of, temps_of}
use Rattle.meaning.specs.Trace.{World, Cell}
use Rattle.meaning.specs.Operators.{slice_variable, slice_path, slice_first, slice_count, slice_room}
use Rattle.meaning.specs.Meaning.{Env, Base, Aim, Step, fixed, worked, variable, through, indexed as by_index}
use Rattle.program_code.specs.Code.{temp, cell_slot, site_slot, slots_of, root_type, steps_of, near_offset, near_words, element_words, indices_from}
use Rattle.state_relation.specs.Views.{Place, on_stack, on_heap, View}
use Rattle.state_relation.specs.Relation.{Memory, Kept, word, address, Frame, hold, word_at, depth, words_before, MayLead, StandsKept, Reaches, NamedAt}
use Rattle.state_relation.proofs.Lists.{append_cases, append_old, append_new, one_item}
use Rattle.state_relation.proofs.Distances.{word_slot}
use Rattle.state_relation.proofs.PackageWords.{type_is}
use Rattle.state_relation.proofs.Changes.{kept_word, good_kept}
use Rattle.state_relation.proofs.Built.{Built}
use Rattle.state_relation.proofs.Rules.{Stands}
use Rattle.state_relation.proofs.Values.{kept, all_kept, all_kept_first, kept_length}
use Rattle.state_relation.proofs.Stretches as Stretches
use Rattle.state_relation.proofs.Slices.{Points, into_points}
use Rattle.simulated_code.proofs.Standing.{front}

-- ---- places without their operands

-- where a pointer leads
abbrev pub pointer_variable : Value → ℕ
pointer_variable (pointer x path) = x
pointer_variable v = 0

abbrev pub pointer_path : Value → List ℕ
pointer_path (pointer x path) = path
pointer_path v = []

-- the variable in which a place begins, by its operands, and the path from there to where it begins
abbrev pub variable_of : Env → Pl → List Value → ℕ
variable_of env (local site steps) vs = env site
variable_of env (global g steps) vs = g
variable_of env (indirect at e n steps) [] = 0
variable_of env (indirect at e n steps) (v ∷ vs) = pointer_variable v
variable_of env (slice_element at e i n steps) [] = 0
variable_of env (slice_element at e i n steps) (v ∷ vs) = slice_variable v

abbrev pub index_of : Value → ℕ
index_of (int (pos i)) = i
index_of v = 0

abbrev pub element_path : Value → List Value → List ℕ
element_path v [] = []
element_path v (u ∷ vs) = slice_path v ++ (slice_first v + index_of u) ∷ []

abbrev pub root_of : Pl → List Value → List ℕ
root_of (local site steps) vs = []
root_of (global g steps) vs = []
root_of (indirect at e n steps) [] = []
root_of (indirect at e n steps) (v ∷ vs) = pointer_path v
root_of (slice_element at e i n steps) [] = []
root_of (slice_element at e i n steps) (v ∷ vs) = element_path v vs

-- values for the indices among steps
abbrev pub Operands : Steps → List Value → Type 0
Operands itself [] = Unit {0}
Operands itself (v ∷ vs) = ⊥
Operands (inner i steps) vs = Operands steps vs
Operands (at_index at e n steps) [] = ⊥
Operands (at_index at e n steps) (v ∷ vs) = IsOf ints v × Operands steps vs

-- and those of a place, whose pointer, or whose slice with an index, if it begins where these lead, come first
abbrev pub ElementOperands : Steps → List Value → Type 0
ElementOperands steps [] = ⊥
ElementOperands steps (u ∷ vs) = IsOf ints u × Operands steps vs

abbrev pub PlaceOperands : Pl → List Value → Type 0
PlaceOperands (local site steps) vs = Operands steps vs
PlaceOperands (global g steps) vs = Operands steps vs
PlaceOperands (indirect at e n steps) [] = ⊥
PlaceOperands (indirect at e n steps) (v ∷ vs) = IsOf (pointer_to n) v × Operands steps vs
PlaceOperands (slice_element at e i n steps) [] = ⊥
PlaceOperands (slice_element at e i n steps) (v ∷ vs) = IsOf (slice_of n) v × ElementOperands steps vs

abbrev pub behind_first : List Value → List Value
behind_first [] = []
behind_first (v ∷ vs) = vs

abbrev pub indices_of : Pl → List Value → List Value
indices_of (local site steps) vs = vs
indices_of (global g steps) vs = vs
indices_of (indirect at e n steps) [] = []
indices_of (indirect at e n steps) (v ∷ vs) = vs
indices_of (slice_element at e i n steps) vs = behind_first (behind_first vs)

abbrev pub steps_with : Steps → List Value → List Step
steps_with itself vs = []
steps_with (inner i steps) vs = fixed i ∷ steps_with steps vs
steps_with (at_index at e n steps) [] = []
steps_with (at_index at e n steps) (v ∷ vs) = worked at e v n ∷ steps_with steps vs

abbrev pub element_base : Position → Ex → Value → Ex → List Value → Base
element_base at e v i [] = variable 0
element_base at e v i (u ∷ vs) = by_index at e v i u

abbrev pub base_of : Env → Pl → List Value → Base
base_of env (local site steps) vs = variable (env site)
base_of env (global g steps) vs = variable g
base_of env (indirect at e n steps) [] = variable 0
base_of env (indirect at e n steps) (v ∷ vs) = through at e v
base_of env (slice_element at e i n steps) [] = variable 0
base_of env (slice_element at e i n steps) (v ∷ vs) = element_base at e v i vs

-- the operands of a place, and where it leads
abbrev pub aimed : Env → Pl → List Value → Aim
aimed env q vs = record { base = base_of env q vs; steps = steps_with (steps_of q) (indices_of q vs) }

-- it leads somewhere; a slice does with an index of one of its elements
abbrev pub IsElement : Value → List Value → Type 0
IsElement v [] = ⊥
IsElement v (u ∷ vs) = (j : ℕ) × (u ≡ int (pos j)) × (j < slice_count v)

abbrev pub Somewhere : Pl → List Value → Type 0
Somewhere (local site steps) vs = Unit {0}
Somewhere (global g steps) vs = Unit {0}
Somewhere (indirect at e n steps) [] = ⊥
Somewhere (indirect at e n steps) (pointer x path ∷ vs) = Unit {0}
Somewhere (indirect at e n steps) (v ∷ vs) = ⊥
Somewhere (slice_element at e i n steps) [] = ⊥
Somewhere (slice_element at e i n steps) (v ∷ vs) = IsElement v vs

-- the types of operands
abbrev pub index_types : Steps → List TypeTree
index_types itself = []
index_types (inner i steps) = index_types steps
index_types (at_index at e n steps) = ints ∷ index_types steps

abbrev pub operand_types : Pl → List TypeTree
operand_types (local site steps) = index_types steps
operand_types (global g steps) = index_types steps
operand_types (indirect at e n steps) = pointer_to n ∷ index_types steps
operand_types (slice_element at e i n steps) = slice_of n ∷ ints ∷ index_types steps

operands_are : (steps : Steps) (vs : List Value) → Operands steps vs → AreOf (index_types steps) vs
operands_are itself [] ops = tt
operands_are itself (v ∷ vs) ops = absurd ops
operands_are (inner i steps) vs ops = operands_are steps vs ops
operands_are (at_index at e n steps) [] ops = absurd ops
operands_are (at_index at e n steps) (v ∷ vs) ops = (ops.0, operands_are steps vs ops.1)

pub place_operands_are : (q : Pl) (vs : List Value) → PlaceOperands q vs → AreOf (operand_types q) vs
place_operands_are (local site steps) vs ops = operands_are steps vs ops
place_operands_are (global g steps) vs ops = operands_are steps vs ops
place_operands_are (indirect at e n steps) [] ops = absurd ops
place_operands_are (indirect at e n steps) (v ∷ vs) ops = (ops.0, operands_are steps vs ops.1)
place_operands_are (slice_element at e i n steps) [] ops = absurd ops
place_operands_are (slice_element at e i n steps) (v ∷ []) ops = absurd ops.1
place_operands_are (slice_element at e i n steps) (v ∷ u ∷ vs) ops = (ops.0, (ops.1.0, operands_are steps vs ops.1.1))

pub indices_are : (q : Pl) (vs : List Value) → PlaceOperands q vs → Operands (steps_of q) (indices_of q vs)
indices_are (local site steps) vs ops = ops
indices_are (global g steps) vs ops = ops
indices_are (indirect at e n steps) [] ops = absurd ops
indices_are (indirect at e n steps) (v ∷ vs) ops = ops.1
indices_are (slice_element at e i n steps) [] ops = absurd ops
indices_are (slice_element at e i n steps) (v ∷ []) ops = absurd ops.1
indices_are (slice_element at e i n steps) (v ∷ u ∷ vs) ops = ops.1.1

-- the pointer that a place begins with is held in this temp, or the address in a slice's header
abbrev pub ElementHeld : ℕ → Value → List Value → List Kept → (first : ℕ) → Type 0
ElementHeld n v [] held first = ⊥
ElementHeld n v (u ∷ vs) held first = (index_of u < slice_room v) × (slice_get held first ≡ Some (word (slice_of n) (array_address (slice_variable v) (slice_path v) (slice_first v) (slice_room v))))

abbrev pub PointerHeld : Pl → List Value → List Kept → (first : ℕ) → Type 0
PointerHeld (local site steps) vs held first = Unit {0}
PointerHeld (global g steps) vs held first = Unit {0}
PointerHeld (indirect at e n steps) [] held first = ⊥
PointerHeld (indirect at e n steps) (v ∷ vs) held first = slice_get held first ≡ Some (word (pointer_to n) (part_address (pointer_variable v) (pointer_path v)))
PointerHeld (slice_element at e i n steps) [] held first = ⊥
PointerHeld (slice_element at e i n steps) (v ∷ vs) held first = ElementHeld n v vs held first

pub first_held : (gone rest held : List Kept) (k : Kept) (first : ℕ) → held ≡ gone ++ (k ∷ rest) → length gone ≡ first → slice_get held first ≡ Some k
first_held gone rest held k first e hg =
    let z : first ≡ length gone + 0 = omega (arith, hg) in
    ap (λ l. slice_get l first) e ∙ ap (slice_get (gone ++ (k ∷ rest))) z ∙ append_new gone (k ∷ rest) 0

pub pointer_held : (q : Pl) (vs : List Value) (gone more held : List Kept) (first : ℕ) → PlaceOperands q vs → Somewhere q vs → held ≡ gone ++ (all_kept (operand_types q) vs ++ more) → length gone ≡ first → PointerHeld q vs held first
pointer_held (local site steps) vs gone more held first ops leads e hg = tt
pointer_held (global g steps) vs gone more held first ops leads e hg = tt
pointer_held (indirect at e0 n steps) [] gone more held first ops leads e hg = absurd ops
pointer_held (indirect at e0 n steps) (pointer x path ∷ vs) gone more held first ops leads e hg = first_held gone (all_kept (index_types steps) vs ++ more) held (word (pointer_to n) (part_address x path)) first e hg
pointer_held (indirect at e0 n steps) (v ∷ vs) gone more held first ops leads e hg = absurd leads
pointer_held (slice_element at e0 i n steps) [] gone more held first ops leads e hg = absurd ops
pointer_held (slice_element at e0 i n steps) (v ∷ []) gone more held first ops leads e hg = absurd ops.1
pointer_held (slice_element at e0 i n steps) (nil_slice ∷ u ∷ vs) gone more held first ops leads e hg = absurd (let lt = leads.2 in omega arith)
pointer_held (slice_element at e0 i n steps) (slice_in x path from count room ∷ u ∷ vs) gone more held first ops leads e hg =
    let lt = leads.2 in let le = ops.0 in let same : index_of u ≡ leads.0 = ap index_of leads.1 in
    (omega (arith, same), first_held gone (word ints (number (pos count)) ∷ (word ints (number (pos room)) ∷ (all_kept (ints ∷ index_types steps) (u ∷ vs) ++ more))) held (word (slice_of n) (array_address x path from room)) first e hg)
pointer_held (slice_element at e0 i n steps) (v ∷ u ∷ vs) gone more held first ops leads e hg = absurd ops.0

-- the operands of an element of a slice, apart
pub element_among : (n : ℕ) (v u : Value) (ts : List TypeTree) (vs : List Value) (gone more : List Kept) → IsOf (slice_of n) v → IsOf ints u → gone ++ (all_kept (slice_of n ∷ ints ∷ ts) (v ∷ u ∷ vs) ++ more) ≡ gone ++ (kept (slice_of n) v ++ (kept ints u ++ (all_kept ts vs ++ more)))
element_among n v u ts vs gone more iv iu =
    ap (λ l. gone ++ (l ++ more)) (all_kept_first (slice_of n) (ints ∷ ts) v (u ∷ vs) iv) ∙ ap (λ l. gone ++ l) (append_assoc (kept (slice_of n) v) (all_kept (ints ∷ ts) (u ∷ vs)) more)
    ∙ ap (λ l. gone ++ (kept (slice_of n) v ++ (l ++ more))) (all_kept_first ints ts u vs iu) ∙ ap (λ l. gone ++ (kept (slice_of n) v ++ l)) (append_assoc (kept ints u) (all_kept ts vs) more)

-- where the indices are held
pub record Indices (q : Pl) (vs : List Value) (more held : List Kept) (first : ℕ) : Type 0 where
  pub gone : List Kept
  pub among : held ≡ gone ++ (all_kept (index_types (steps_of q)) (indices_of q vs) ++ more)
  pub before : length gone ≡ indices_from q first

pub indices_held : (q : Pl) (vs : List Value) (gone more held : List Kept) (first : ℕ) → PlaceOperands q vs → held ≡ gone ++ (all_kept (operand_types q) vs ++ more) → length gone ≡ first → Indices q vs more held first
indices_held (local site steps) vs gone more held first ops e hg = record { gone = gone; among = e; before = hg }
indices_held (global g steps) vs gone more held first ops e hg = record { gone = gone; among = e; before = hg }
indices_held (indirect at e0 n steps) [] gone more held first ops e hg = absurd ops
indices_held (indirect at e0 n steps) (v ∷ vs) gone more held first ops e hg =
    let lead = kept (pointer_to n) v in let rest = all_kept (index_types steps) vs in
    record {
      gone = gone ++ lead;
      among = e ∙ ap (λ l. gone ++ (l ++ more)) (all_kept_first (pointer_to n) (index_types steps) v vs ops.0) ∙ ap (λ l. gone ++ l) (append_assoc lead rest more) ∙ sym (append_assoc gone lead (rest ++ more));
      before = omega (arith, hg, length-append gone lead, kept_length (pointer_to n) v);
    }
indices_held (slice_element at e0 i n steps) [] gone more held first ops e hg = absurd ops
indices_held (slice_element at e0 i n steps) (v ∷ []) gone more held first ops e hg = absurd ops.1
indices_held (slice_element at e0 i n steps) (v ∷ u ∷ vs) gone more held first ops e hg =
    let lead = kept (slice_of n) v in let index = kept ints u in let rest = all_kept (index_types steps) vs in
    record {
      gone = (gone ++ lead) ++ index;
      among = e ∙ element_among n v u (index_types steps) vs gone more ops.0 ops.1.0 ∙ sym (append_assoc gone lead (index ++ (rest ++ more))) ∙ sym (append_assoc (gone ++ lead) index (rest ++ more));
      before = omega (arith, hg, length-append (gone ++ lead) index, length-append gone lead, kept_length (slice_of n) v, kept_length ints u);
    }

-- the types on the way, whatever the indices are
abbrev pub Shaped : TypeTree → Steps → TypeTree → Type 0
Shaped t itself s = t ≡ s
Shaped t (inner i steps) s = (i < part_count t) × Shaped (part_type t i) steps s
Shaped t (at_index at e n steps) s = (r : TypeTree) × (t ≡ array_of n r) × (0 < n) × Shaped r steps s

-- an element of an array
pub element_leads : (t r : TypeTree) (n i : ℕ) → t ≡ array_of n r → i < n → Leads t (i ∷ []) r
element_leads t r n i e l = subst (λ u. Leads u (i ∷ []) r) (sym e) ((element n r r i [] l).leads refl)

pub element_offset : (t r : TypeTree) (n i : ℕ) → t ≡ array_of n r → i < n → offset t (i ∷ []) ≡ i * width r
element_offset t r n i e l =
    let q = (element n r r i [] l).offset in let none : i * width r + 0 ≡ i * width r = omega arith in
    ap (λ u. offset u (i ∷ [])) e ∙ q ∙ none

pub first_offset : (t r : TypeTree) (n : ℕ) → t ≡ array_of n r → 0 < n → part_offset t 0 ≡ 0
first_offset t r n e l = let q = element_offset t r n 0 e l in let none : 0 * width r ≡ 0 = omega arith in omega (arith, q, none)

pub shaped_leads : (t s : TypeTree) (steps : Steps) → Shaped t steps s → Leads t (path_of steps) s
shaped_leads t s itself shape = shape
shaped_leads t s (inner i steps) shape = (shape.0, shaped_leads (part_type t i) s steps shape.1)
shaped_leads t s (at_index at e n steps) (r, eq, some, shape) = subst (λ u. Leads u (0 ∷ path_of steps) s) (sym eq) ((element n r s 0 (path_of steps) some).leads (shaped_leads r s steps shape))

module _ (m : Built) where
  steps_shape : (scope : List ℕ) (t s : TypeTree) (steps : Steps) → StepsLead m.program scope t steps s → Shaped t steps s
  steps_shape scope t s itself fit = fit
  steps_shape scope t s (inner i steps) fit = (fit.0, steps_shape scope (part_type t i) s steps fit.1)
  steps_shape scope t s (at_index at e n steps) (r, eq, some, index, fit) = (r, eq, some, steps_shape scope r s steps fit)

  -- the type of what a place begins at
  abbrev pub own_type : Pl → TypeTree
  own_type (local site steps) = site_type m.program site
  own_type (global g steps) = global_type m.program g
  own_type (indirect at e n steps) = type_named m.program n
  own_type (slice_element at e i n steps) = type_named m.program n

  -- its variable can be named
  abbrev pub Begins : List ℕ → Pl → Type 0
  Begins scope (local site steps) = InScope site scope
  Begins scope (global g steps) = g < length m.program.globals
  Begins scope (indirect at e n steps) = Unit {0}
  Begins scope (slice_element at e i n steps) = Unit {0}

  -- a place in scope, of a type
  abbrev pub Located : List ℕ → TypeTree → Pl → Type 0
  Located scope t q = Begins scope q × Shaped (own_type q) (steps_of q) t × (0 < width t)

  pub located : (scope : List ℕ) (t : TypeTree) (q : Pl) → PlFits m.program scope t q → Located scope t q
  located scope t (local site steps) fit = (fit.0, steps_shape scope (site_type m.program site) t steps fit.1, fit.2)
  located scope t (global g steps) fit = (fit.0, steps_shape scope (global_type m.program g) t steps fit.1, fit.2)
  located scope t (indirect at e n steps) fit = (tt, steps_shape scope (type_named m.program n) t steps fit.1, fit.2)
  located scope t (slice_element at e i n steps) fit = (tt, steps_shape scope (type_named m.program n) t steps fit.2, fit.3)

  -- what its address lacks of the words before the part, where there is one
  abbrev pub lacks_of : Pl → ℕ
  lacks_of q = offset (own_type q) (path_of (steps_of q))

  -- the code tells the same
  pub root_is : (f : Func) (q : Pl) → root_type (slots_of m.program m.placement f) q ≡ own_type q
  root_is f (local site steps) = refl
  root_is f (global g steps) = type_is m.program m.placement f g
  root_is f (indirect at e n steps) = refl
  root_is f (slice_element at e i n steps) = refl

  pub near_is : (f : Func) (q : Pl) → near_offset (slots_of m.program m.placement f) q ≡ lacks_of q
  near_is f q = ap (λ o. offset o (path_of (steps_of q))) (root_is f q)

  pub words_are : (f : Func) (scope : List ℕ) (t : TypeTree) (q : Pl) → Located scope t q → near_words (slots_of m.program m.placement f) q ≡ width t
  words_are f scope t q fit = ap (λ o. width (type_at o (path_of (steps_of q)))) (root_is f q) ∙ ap width (leads_to (own_type q) t (path_of (steps_of q)) (shaped_leads (own_type q) t (steps_of q) fit.1))

  -- the words of an element of an array
  pub element_words_are : (f : Func) (scope : List ℕ) (t : TypeTree) (x : ℕ) (q : Pl) → Located scope (array_of x t) q → element_words (slots_of m.program m.placement f) q ≡ width t
  element_words_are f scope t x q fit =
      ap (λ o. width (part_type (type_at o (path_of (steps_of q))) 0)) (root_is f q) ∙ ap (λ o. width (part_type o 0)) (leads_to (own_type q) (array_of x t) (path_of (steps_of q)) (shaped_leads (own_type q) (array_of x t) (steps_of q) fit.1))
      ∙ ap width (element_leads (array_of x t) t x 0 refl (above_none x fit.2)).1
    where
      above_none : (n : ℕ) → 0 < n * width t → 0 < n
      above_none zero lt = (let none : 0 * width t ≡ 0 = omega arith in absurd (omega (arith, none, lt)))
      above_none (suc n) lt = omega arith

  -- the address of a part is held, where there is one
  abbrev pub held_by : (far : ℕ) → TypeTree → (x : ℕ) → (path : List ℕ) → (lacks : ℕ) → List Kept
  held_by zero t x path lacks = []
  held_by (suc n) t x path lacks = address t x path lacks ∷ []

  abbrev pub place_held : Env → Pl → List Value → TypeTree → List ℕ → List Kept
  place_held env q vs t way = held_by (far q) t (variable_of env q vs) (root_of q vs ++ way) (lacks_of q)

  -- the way from where a place begins, by its indices; without one these are its steps
  abbrev pub LeadsTo : TypeTree → Pl → List ℕ → Type 0
  LeadsTo t q way = Leads (own_type q) way t × (far q ≡ 0 → way ≡ path_of (steps_of q))

  -- ---- homes

  -- the home of a variable of a type
  pub record Home (v : View) (w : World) (x : ℕ) (own : TypeTree) : Type 0 where
    pub cell : Cell
    pub there : slice_get w.store x ≡ Some cell
    pub kind : cell.type ≡ own
    pub place : Place
    pub home : v.homes x ≡ Some place

  -- in the frame, or on the heap
  pub site_home : (c : Frame) (calls : List Frame) (v : View) (w : World) (s : Memory) (site : ℕ) → InScope site c.scope → Stands m v w (c ∷ calls) s → Home v w (c.env site) (site_type m.program site)
  site_home c calls v w s site i g = by (m.placement.on_heap site) refl
    where
      by : (boxed : Bool) → m.placement.on_heap site ≡ boxed → Home v w (c.env site) (site_type m.program site)
      by false e =
          let d = depth m.program m.placement (c ∷ calls) - site_slot (slots_of m.program m.placement c.func) site in
          let name : NamedAt m.program m.placement (c ∷ calls) (c.env site) d false (site_type m.program site) = inl (site, i, refl, refl, refl, e) in
          let r = g.homed.named (c.env site) d false (site_type m.program site) name in
          record { cell = r.0; there = r.1; kind = r.2; place = on_stack d; home = g.homed.slots (c.env site) d (site_type m.program site) name }
      by true e =
          let d = depth m.program m.placement (c ∷ calls) - cell_slot (slots_of m.program m.placement c.func) site in
          let name : NamedAt m.program m.placement (c ∷ calls) (c.env site) d true (site_type m.program site) = inl (site, i, refl, refl, refl, e) in
          let r = g.homed.named (c.env site) d true (site_type m.program site) name in let b = g.homed.boxes (c.env site) d (site_type m.program site) name in
          record { cell = r.0; there = r.1; kind = r.2; place = on_heap b.0; home = b.1 }

  pub global_home : (c : Frame) (calls : List Frame) (v : View) (w : World) (s : Memory) (q : ℕ) → q < length m.program.globals → Stands m v w (c ∷ calls) s → Home v w q (global_type m.program q)
  global_home c calls v w s q lt g =
      let b = g.homed.begun in let r = g.homed.globals q lt (omega arith) in
      record { cell = r.0; there = r.1; kind = r.2; place = on_heap (words_before m.program q); home = r.3 }

  -- where a place begins: at a part of a type of a variable with a home
  pub record Rooted (v : View) (w : World) (x : ℕ) (root : List ℕ) (t : TypeTree) : Type 0 where
    pub own : TypeTree
    pub home : Home v w x own
    pub leads : Leads own root t

  -- a pointer leads to a variable on the heap
  pub record Pointed (v : View) (w : World) (x : ℕ) (root : List ℕ) (t : TypeTree) (s : Memory) (u : ℕ) : Type 0 where
    pub reaches : Reaches v.homes s.hi w t x root 0 u
    pub high : ℕ
    pub home : v.homes x ≡ Some (on_heap high)

  pub pointed_by : (c : Frame) (calls : List Frame) (v : View) (w : World) (s : Memory) (n x : ℕ) (root : List ℕ) (first : ℕ) → slice_get c.held first ≡ Some (word (pointer_to n) (part_address x root)) → Stands m v w (c ∷ calls) s
      → Pointed v w x root (type_named m.program n) s (slice_index s.words (temp (slots_of m.program m.placement c.func) first))
  pointed_by c calls v w s n x root first held g =
      let st = kept_word m.program m.placement m.max m.leading v w c calls s first (word (pointer_to n) (part_address x root)) held g in
      let high = subst (λ l. MayLead l v.homes x) m.apart st.0 in
      record { reaches = st.2; high = high.0; home = high.1 }

  -- and so does a slice with an element
  pub sliced_by : (c : Frame) (calls : List Frame) (v : View) (w : World) (s : Memory) (n x : ℕ) (path : List ℕ) (from room first : ℕ) → slice_get c.held first ≡ Some (word (slice_of n) (array_address x path from room)) → Stands m v w (c ∷ calls) s
      → Points v w (type_named m.program n) x path from room (slice_index s.words (temp (slots_of m.program m.placement c.func) first))
  sliced_by c calls v w s n x path from room first held g =
      let st = kept_word m.program m.placement m.max m.leading v w c calls s first (word (slice_of n) (array_address x path from room)) held g in
      into_points m v w (c ∷ calls) s g (type_named m.program n) x path from room (slice_index s.words (temp (slots_of m.program m.placement c.func) first)) st.0 st.1

  pub place_root : (scope : List ℕ) (t : TypeTree) (q : Pl) (vs : List Value) (c : Frame) (calls : List Frame) (v : View) (w : World) (s : Memory) (first : ℕ) → c.scope ≡ scope → Located scope t q → PointerHeld q vs c.held first → Stands m v w (c ∷ calls) s → Rooted v w (variable_of c.env q vs) (root_of q vs) (own_type q)
  place_root scope t (local site steps) vs c calls v w s first e fit led g = record { own = site_type m.program site; home = site_home c calls v w s site (subst (InScope site) (sym e) fit.0) g; leads = refl }
  place_root scope t (global q steps) vs c calls v w s first e fit led g = record { own = global_type m.program q; home = global_home c calls v w s q fit.0 g; leads = refl }
  place_root scope t (indirect at e0 n steps) [] c calls v w s first e fit led g = absurd led
  place_root scope t (indirect at e0 n steps) (x ∷ vs) c calls v w s first e fit led g =
      let p = pointed_by c calls v w s n (pointer_variable x) (pointer_path x) first led g in
      record { own = p.reaches.cell.type; home = record { cell = p.reaches.cell; there = p.reaches.there; kind = refl; place = on_heap p.high; home = p.home }; leads = p.reaches.leads }
  place_root scope t (slice_element at e0 i n steps) [] c calls v w s first e fit led g = absurd led
  place_root scope t (slice_element at e0 i n steps) (x ∷ []) c calls v w s first e fit led g = absurd led
  place_root scope t (slice_element at e0 i n steps) (x ∷ u ∷ vs) c calls v w s first e fit led g =
      let a = sliced_by c calls v w s n (slice_variable x) (slice_path x) (slice_first x) (slice_room x) first led.1 g in let lt = led.0 in let le = a.within in
      record { own = a.cell.type; home = record { cell = a.cell; there = a.there; kind = refl; place = on_heap a.at; home = a.home }; leads = (Stretches.element_leads a.cell.type (type_named m.program n) (slice_path x) a.long (slice_first x + index_of u) (omega arith) a.leads).0 }

  -- a part of it
  pub part_rooted : (v : View) (w : World) (x : ℕ) (root way : List ℕ) (front t : TypeTree) (r : Rooted v w x root front) → Leads front way t → Leads r.own (root ++ way) t
  part_rooted v w x root way front t r leads = (joined_types r.own front t root way r.leads).leads leads

  -- what is held last stands for something else
  pub good_last : (v : View) (w : World) (c : Frame) (calls : List Frame) (s : Memory) (k k1 : Kept) (at : ℕ) → length c.held ≡ at → StandsKept m.program m.leading v.homes s.hi w k1 (slice_index s.words (temp (slots_of m.program m.placement c.func) at))
      → Stands m v w (hold c (c.held ++ k ∷ []) ∷ calls) s → Stands m v w (hold c (c.held ++ k1 ∷ []) ∷ calls) s
  good_last v w c calls s k k1 at ha stands g =
      let room = g.homed.owned.0.room in
      good_kept m.program m.placement m.max m.leading v w (hold c (c.held ++ k ∷ [])) calls s (c.held ++ k1 ∷ []) (omega (arith, length-append c.held (k ∷ []), length-append c.held (k1 ∷ []))) now g
    where
      now : (i : ℕ) (j : Kept) → i < temps_of m.program m.placement c.func → slice_get (c.held ++ k1 ∷ []) i ≡ Some j → StandsKept m.program m.leading v.homes s.hi w j (word_at s.words (depth m.program m.placement (c ∷ calls) - (outgoing_of m.program c.func + i)))
      now i j lt e = elim (append_cases c.held (k1 ∷ []) j i e) [
        | inl old ↦ g.framed.kept (depth m.program m.placement (c ∷ calls) - (outgoing_of m.program c.func + i)) j (inl (i, lt, refl, append_old c.held (k ∷ []) j i old))
        | inr (n, q, new) ↦
            let o = one_item k1 j n new in let u = g.sized.used in
            let there : outgoing_of m.program c.func + at ≡ outgoing_of m.program c.func + i = omega (arith, q, o.0) in
            subst (λ a. StandsKept m.program m.leading v.homes s.hi w a (word_at s.words (depth m.program m.placement (c ∷ calls) - (outgoing_of m.program c.func + i)))) o.1
            (subst (λ a. StandsKept m.program m.leading v.homes s.hi w k1 a) (ap (slice_index s.words) there ∙ sym (word_slot s.words (depth m.program m.placement (c ∷ calls)) (outgoing_of m.program c.func + i) u (omega arith))) stands)
      ]
