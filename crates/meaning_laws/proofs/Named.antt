-- Values and states whose pointers and slices name variables that are there.
use Rattle.std.proofs.Common.{◌≡◌, ℕ, zero, suc, ◌-◌, ◌<◌, ◌≤◌, List, [], ◌∷◌, ◌++◌, Result, Ok, Err, Bool, ℤ, pos, negsuc, refl, sym, ap, subst, arith}
use Rattle.std.specs.Prelude.{length, get_or, IfOk, int_rem}
use Rattle.std.specs.Int.{w64, int_wrapping_div, int_shl, int_shr}
use Rattle.typed_syntax.specs.declared.operators.BinOp.{BinOp}
use Rattle.typed_syntax.specs.declared.operators.BinOp.TheVariants.{Div, Rem, ShiftLeft, ShiftRight, Equal, NotEqual}
use Rattle.typed_syntax.specs.declared.operators.UnOp.{UnOp}
use Rattle.typed_syntax.specs.Types.{TypeTree, PartTypes, ints, bools, struct_of, array_of, pointer_to, slice_of, no_types, more_types}
use Rattle.typed_syntax.specs.Value.{Value, Values, int, bool, composite, nil_pointer, pointer, nil_slice, slice_in, no_values, more_values, copies, zero_of, zeros_of}
use Rattle.typed_syntax.specs.Paths.{nth_value, with_nth, part, with_part, at_path, with_path}
use Rattle.meaning.specs.Trace.{Fault, World, Cell, Held}
use Rattle.meaning.specs.Store.{no_cell, change, read_at, written, values_of, elements_at, elements_written, born}
use Rattle.meaning.specs.Operators.{divide, shift, of_ints, of_bools, of_composites, binary_of, unary_of, slice_variable, Bounds, cut_from, nil_within, slice_part, bounds_within}
use Rattle.meaning_laws.specs.Pointers.{NamesBelow, AllNameBelow, EachNamesBelow, CellsNameBelow, HeldNameBelow}

-- ---- values

mutual
  pub more_named : (v : Value) (n m : ℕ) → n ≤ m → NamesBelow n v → NamesBelow m v
  more_named (int z) n m le h = tt
  more_named (bool b) n m le h = tt
  more_named (composite vs) n m le h = all_more_named vs n m le h
  more_named nil_pointer n m le h = tt
  more_named (pointer x path) n m le h = omega arith
  more_named nil_slice n m le h = tt
  more_named (slice_in x path first count room) n m le h = omega arith

  pub all_more_named : (vs : Values) (n m : ℕ) → n ≤ m → AllNameBelow n vs → AllNameBelow m vs
  all_more_named no_values n m le h = tt
  all_more_named (more_values v vs) n m le h = (more_named v n m le h.0, all_more_named vs n m le h.1)

pub each_more_named : (vs : List Value) (n m : ℕ) → n ≤ m → EachNamesBelow n vs → EachNamesBelow m vs
each_more_named [] n m le h = tt
each_more_named (v ∷ vs) n m le h = (more_named v n m le h.0, each_more_named vs n m le h.1)

pub cells_more_named : (cs : List Cell) (n m : ℕ) → n ≤ m → CellsNameBelow n cs → CellsNameBelow m cs
cells_more_named [] n m le h = tt
cells_more_named (c ∷ cs) n m le h = (more_named c.value n m le h.0, cells_more_named cs n m le h.1)

pub held_more_named : (hs : List Held) (n m : ℕ) → n ≤ m → HeldNameBelow n hs → HeldNameBelow m hs
held_more_named [] n m le h = tt
held_more_named (x ∷ hs) n m le h = (more_named x.value n m le h.0, held_more_named hs n m le h.1)

pub held_joined : (hs gs : List Held) (n : ℕ) → HeldNameBelow n hs → HeldNameBelow n gs → HeldNameBelow n (hs ++ gs)
held_joined [] gs n h g = g
held_joined (x ∷ hs) gs n h g = (h.0, held_joined hs gs n h.1 g)

-- parts
nth_named : (vs : Values) (i n : ℕ) → AllNameBelow n vs → NamesBelow n (nth_value vs i)
nth_named no_values i n h = tt
nth_named (more_values v vs) zero n h = h.0
nth_named (more_values v vs) (suc i) n h = nth_named vs i n h.1

pub part_named : (v : Value) (i n : ℕ) → NamesBelow n v → NamesBelow n (part v i)
part_named (int z) i n h = tt
part_named (bool b) i n h = tt
part_named (composite vs) i n h = nth_named vs i n h
part_named nil_pointer i n h = tt
part_named (pointer x path) i n h = tt
part_named nil_slice i n h = tt
part_named (slice_in x path first count room) i n h = tt

at_path_named : (path : List ℕ) (v : Value) (n : ℕ) → NamesBelow n v → NamesBelow n (at_path v path)
at_path_named [] v n h = h
at_path_named (i ∷ path) v n h = at_path_named path (part v i) n (part_named v i n h)

with_nth_named : (vs : Values) (i n : ℕ) (x : Value) → AllNameBelow n vs → NamesBelow n x → AllNameBelow n (with_nth vs i x)
with_nth_named no_values i n x h g = tt
with_nth_named (more_values v vs) zero n x h g = (g, h.1)
with_nth_named (more_values v vs) (suc i) n x h g = (h.0, with_nth_named vs i n x h.1 g)

pub with_part_named : (v : Value) (i n : ℕ) (x : Value) → NamesBelow n v → NamesBelow n x → NamesBelow n (with_part v i x)
with_part_named (int z) i n x h g = tt
with_part_named (bool b) i n x h g = tt
with_part_named (composite vs) i n x h g = with_nth_named vs i n x h g
with_part_named nil_pointer i n x h g = tt
with_part_named (pointer y path) i n x h g = h
with_part_named nil_slice i n x h g = tt
with_part_named (slice_in y path first count room) i n x h g = h

with_path_named : (path : List ℕ) (v : Value) (n : ℕ) (x : Value) → NamesBelow n v → NamesBelow n x → NamesBelow n (with_path v path x)
with_path_named [] v n x h g = g
with_path_named (i ∷ path) v n x h g = with_part_named v i n _ h (with_path_named path (part v i) n x (part_named v i n h) g)

copies_named : (count : ℕ) (v : Value) (n : ℕ) → NamesBelow n v → AllNameBelow n (copies count v)
copies_named zero v n h = tt
copies_named (suc count) v n h = (h, copies_named count v n h)

mutual
  pub zero_named : (t : TypeTree) (n : ℕ) → NamesBelow n (zero_of t)
  zero_named ints n = tt
  zero_named bools n = tt
  zero_named (struct_of ts) n = zeros_named ts n
  zero_named (array_of count t) n = copies_named count (zero_of t) n (zero_named t n)
  zero_named (pointer_to number) n = tt
  zero_named (slice_of number) n = tt

  zeros_named : (ts : PartTypes) (n : ℕ) → AllNameBelow n (zeros_of ts)
  zeros_named no_types n = tt
  zeros_named (more_types t ts) n = (zero_named t n, zeros_named ts n)

pub values_named : (vs : List Value) (n : ℕ) → EachNamesBelow n vs → AllNameBelow n (values_of vs)
values_named [] n h = tt
values_named (v ∷ vs) n h = (h.0, values_named vs n h.1)

-- ---- operators

divided_named : (f : ℤ → ℤ → ℤ) (a b : ℤ) (n : ℕ) → IfOk (divide f a b) (NamesBelow n)
divided_named f a (pos zero) n = tt
divided_named f a (pos (suc b)) n = tt
divided_named f a (negsuc b) n = tt

shifted_named : (f : ℤ → ℕ → ℤ) (a b : ℤ) (n : ℕ) → IfOk (shift f a b) (NamesBelow n)
shifted_named f a (pos b) n = tt
shifted_named f a (negsuc b) n = tt

ints_named : (op : BinOp) (a b : ℤ) (n : ℕ) → IfOk (of_ints op a b) (NamesBelow n)
ints_named Div a b n = divided_named (int_wrapping_div w64) a b n
ints_named Rem a b n = divided_named int_rem a b n
ints_named ShiftLeft a b n = shifted_named (int_shl w64) a b n
ints_named ShiftRight a b n = shifted_named int_shr a b n
ints_named op a b n = tt

bools_named : (op : BinOp) (a b : Bool) (n : ℕ) → IfOk (of_bools op a b) (NamesBelow n)
bools_named Equal a b n = tt
bools_named NotEqual a b n = tt
bools_named op a b n = tt

others_named : (op : BinOp) (v u : Value) (n : ℕ) → NamesBelow n v → IfOk (of_composites op v u) (NamesBelow n)
others_named Equal v u n h = tt
others_named NotEqual v u n h = tt
others_named op v u n h = h

pub binary_named : (op : BinOp) (v u : Value) (n : ℕ) → NamesBelow n v → IfOk (binary_of op v u) (NamesBelow n)
binary_named op (int a) (int b) n h = ints_named op a b n
binary_named op (bool a) (bool b) n h = bools_named op a b n
binary_named op v u n h = others_named op v u n h

pub unary_named : (op : UnOp) (v : Value) (n : ℕ) → NamesBelow n v → NamesBelow n (unary_of op v)
unary_named op (int a) n h = tt
unary_named op (bool b) n h = tt
unary_named op v n h = h

pub slice_variable_below : (s : Value) (n : ℕ) → 0 < n → NamesBelow n s → slice_variable s < n
slice_variable_below (slice_in x path first count room) n some h = h
slice_variable_below s n some h = some

pub cut_named : (x : ℕ) (path : List ℕ) (first room n : ℕ) (r : Result Bounds Fault) → x < n → IfOk (cut_from x path first room r) (NamesBelow n)
cut_named x path first room n (Ok b) h = h
cut_named x path first room n (Err f) h = tt

nil_named : (n : ℕ) (r : Result Bounds Fault) → IfOk (nil_within r) (NamesBelow n)
nil_named n (Ok b) = tt
nil_named n (Err f) = tt

pub slice_part_named : (s : Value) (low high : ℤ) (n : ℕ) → NamesBelow n s → IfOk (slice_part s low high) (NamesBelow n)
slice_part_named (slice_in x path first count room) low high n h = cut_named x path first room n (bounds_within low high room) h
slice_part_named s low high n h = nil_named n (bounds_within low high 0)

-- ---- states

-- one more than the number of the last variable, and at least 1
abbrev pub limit : World → ℕ
limit w = suc (length w.store - 1)

-- a state that comes after one in which values named what is below m
pub record Sound (m : ℕ) (w : World) : Type 0 where
  pub from : m ≤ limit w
  pub cells : CellsNameBelow (limit w) w.store

pub sound_here : {m : ℕ} (w : World) → Sound m w → Sound (limit w) w
sound_here w s = record { from = omega arith; cells = s.cells }

pub sound_down : (m n : ℕ) (w : World) → m ≤ n → Sound n w → Sound m w
sound_down m n w le s = record { from = (let l = s.from in omega arith); cells = s.cells }

cell_named : (cs : List Cell) (v n : ℕ) → CellsNameBelow n cs → NamesBelow n (get_or cs v no_cell).value
cell_named [] v n h = tt
cell_named (c ∷ cs) zero n h = h.0
cell_named (c ∷ cs) (suc v) n h = cell_named cs v n h.1

pub read_named : {m : ℕ} (w : World) (v : ℕ) (path : List ℕ) → Sound m w → NamesBelow (limit w) (read_at w v path)
read_named w v path s = at_path_named path _ (limit w) (cell_named w.store v (limit w) s.cells)

pub elements_named : {m : ℕ} (w : World) (v : ℕ) (path : List ℕ) (count first : ℕ) → Sound m w → EachNamesBelow (limit w) (elements_at w v path first count)
elements_named w v path zero first s = tt
elements_named w v path (suc count) first s = (read_named w v (path ++ first ∷ []) s, elements_named w v path count (suc first) s)

changed_named : (cs : List Cell) (v : ℕ) (path : List ℕ) (x : Value) (n : ℕ) → CellsNameBelow n cs → NamesBelow n x → CellsNameBelow n (change cs v path x)
changed_named [] v path x n h g = tt
changed_named (c ∷ cs) zero path x n h g = (with_path_named path c.value n x h.0 g, h.1)
changed_named (c ∷ cs) (suc v) path x n h g = (h.0, changed_named cs v path x n h.1 g)

changed_length : (cs : List Cell) (v : ℕ) (path : List ℕ) (x : Value) → length (change cs v path x) ≡ length cs
changed_length [] v path x = refl
changed_length (c ∷ cs) zero path x = refl
changed_length (c ∷ cs) (suc v) path x = ap suc (changed_length cs v path x)

pub written_sound : (m : ℕ) (w : World) (v : ℕ) (path : List ℕ) (x : Value) → NamesBelow m x → Sound m w → Sound m (written w v path x)
written_sound m w v path x h s =
    let same : limit w ≡ limit (written w v path x) = ap (λ n. suc (n - 1)) (sym (changed_length w.store v path x)) in
    record {
      from = subst (λ n. m ≤ n) same s.from;
      cells = subst (λ n. CellsNameBelow n (change w.store v path x)) same (changed_named w.store v path x (limit w) s.cells (more_named x m (limit w) s.from h));
    }

pub elements_sound : (xs : List Value) (m : ℕ) (w : World) (v : ℕ) (path : List ℕ) (first : ℕ) → EachNamesBelow m xs → Sound m w → Sound m (elements_written w v path first xs)
elements_sound [] m w v path first h s = s
elements_sound (x ∷ xs) m w v path first h s = elements_sound xs m (written w v (path ++ first ∷ []) x) v path (suc first) h.1 (written_sound m w v (path ++ first ∷ []) x h.0 s)

born_length : (cs : List Cell) (c : Cell) → length (cs ++ c ∷ []) ≡ suc (length cs)
born_length [] c = refl
born_length (d ∷ cs) c = ap suc (born_length cs c)

born_named : (cs : List Cell) (c : Cell) (n : ℕ) → CellsNameBelow n cs → NamesBelow n c.value → CellsNameBelow n (cs ++ c ∷ [])
born_named [] c n h g = (g, tt)
born_named (d ∷ cs) c n h g = (h.0, born_named cs c n h.1 g)

-- a new variable, and what is there then
pub born_sound : (m : ℕ) (w : World) (c : Cell) → NamesBelow m c.value → Sound m w → Sound m (born w c) × (length w.store < limit (born w c)) × (length (born w c).store ≡ suc (length w.store))
born_sound m w c h s =
    let l = born_length w.store c in
    let up : limit w ≤ limit (born w c) = omega (arith, l) in (
      record {
        from = (let f = s.from in omega arith);
        cells = born_named w.store c (limit (born w c)) (cells_more_named w.store (limit w) (limit (born w c)) up s.cells) (more_named c.value m (limit (born w c)) (let f = s.from in omega arith) h);
      },
      omega (arith, l),
      l,
    )
