-- Elements of slices that are read and put somewhere: `copy`, and `append` where there is room.
use Rattle.std.proofs.Common.{◌≡◌, inl, inr, ℕ, zero, suc, ◌+◌, ◌-◌, ◌*◌, ◌^◌, ◌<◌, ◌≤◌, pos, List, [], ◌∷◌, ◌++◌, length, Some, refl, sym, ap, ◌∙◌, subst, arith, mod-eq_of_lt, append-nil}
use Rattle.std.specs.Prelude.{slice_get, slice_index, int_le, min, replicate, if◌then◌else◌}
use Rattle.std.specs.Int.{w64, cast_signed}
use Rattle.std.proofs.lemmas.Bool.Decides.{leb_tells}
use Rattle.std.proofs.lemmas.Int.{to_z_pos}
use Rattle.typed_syntax.specs.Types.{TypeTree, ints, slice_of, width}
use Rattle.typed_syntax.specs.Value.{Value, int, IsOf}
use Rattle.typed_syntax.specs.Syntax.{type_named}
use Rattle.typed_syntax.specs.Form.{AreOf}
use Rattle.frames.specs.Frames.{temps_of}
use Rattle.meaning.specs.Trace.{World}
use Rattle.meaning.specs.Store.{elements_at, elements_written}
use Rattle.meaning.specs.Operators.{slice_variable, slice_path, slice_first, slice_count, slice_room}
use Rattle.meaning.specs.Meaning
use Rattle.meaning.specs.Meaning.{Go, Then}
use Rattle.simulation.specs.Steps.{Goes}
use Rattle.heap_bump.specs.Words.{first_address}
use Rattle.isa.specs.declared.instr.Instr.TheVariants.{Copy}
use Rattle.machine.specs.declared.memory.Spot.{Spot}
use Rattle.machine.specs.declared.memory.Spot.TheVariants.{InHeap}
use Rattle.machine.specs.Machine as Machine
use Rattle.machine.specs.Machine.{Does, State, words_at, put_words, spot_of, header}
use Rattle.state_relation.specs.Leaves.{all_leaves}
use Rattle.state_relation.specs.Views.{View}
use Rattle.state_relation.specs.Relation.{Memory, sets, Kept, Frame, hold, Stand, contents_of}
use Rattle.state_relation.proofs.Addresses.{times_sum}
use Rattle.state_relation.proofs.Stretches.{stretch, elements_length, stretch_value, stretch_are, stretch_write}
use Rattle.state_relation.proofs.Touches.{spot_heap}
use Rattle.state_relation.proofs.Built.{Built}
use Rattle.state_relation.proofs.Rules.{state_of, does_at, At, Stands, stepped, read_of, written_to}
use Rattle.state_relation.proofs.Values.{kept, fewer, temp_set}
use Rattle.state_relation.proofs.Slices.{below_is, Points, Header}
use Rattle.state_relation.proofs.SliceSteps.{T, points_count, points_small, header_held, behind_slice, behind_wide}

-- words that lie in the heap are touched there
pub touched_there : (s : State) (at n i : ℕ) (does : Spot → Does) → spot_of s.range.hi s.heap.words s.words at n ≡ InHeap i → Machine.touches s at n does ≡ does (InHeap i)
touched_there s at n i does e = ap (λ q. Machine.reaches_spot s q at does) e

module _ (m : Built) (v : View) (w : World) (calls : List Frame) where
  -- the first k elements of a slice: where they lie, what their words stand for, and their type
  pub source_spot : (s : Memory) (t : TypeTree) (x : ℕ) (path : List ℕ) (first room u k : ℕ) → k ≤ room → Points v w t x path first room u → Stands m v w calls s → spot_of s.hi s.heap s.words u (k * width t) ≡ InHeap (u - first_address)
  source_spot s t x path first room u k le a g =
      let inside = a.inside in let word = a.word in let used = g.sized.heap_used in
      let rest = room - k in let all : k + rest ≡ room = omega arith in let product : (k + rest) * width t ≡ room * width t = ap (λ n. n * width t) all in
      spot_heap s.hi s.heap s.words (u - first_address) (k * width t) u (omega (arith, word)) (omega (arith, inside, word, used, product, times_sum k rest (width t)))

  pub source_stand : (s : Memory) (t : TypeTree) (x : ℕ) (path : List ℕ) (first room u k : ℕ) → k ≤ room → Points v w t x path first room u → Stands m v w calls s
      → Stand m.program m.leading v.homes s.hi w (all_leaves (replicate k t)) (contents_of (elements_at w x path first k)) (words_at s.heap (u - first_address) (k * width t))
  source_stand s t x path first room u k le a g =
      let word = a.word in let within = a.within in
      let there : a.at + stretch a.cell.type path t first ≡ u - first_address = omega (arith, word) in
      subst (λ n. Stand m.program m.leading v.homes s.hi w (all_leaves (replicate k t)) (contents_of (elements_at w x path first k)) (words_at s.heap n (k * width t))) there
      (stretch_value m.program m.placement m.max m.leading v w calls s x a.at a.cell path t a.long k first a.there a.home a.leads (omega (arith, within)) g)

  pub source_are : (s : Memory) (t : TypeTree) (x : ℕ) (path : List ℕ) (first room u k : ℕ) → k ≤ room → Points v w t x path first room u → Stands m v w calls s → AreOf (replicate k t) (elements_at w x path first k)
  source_are s t x path first room u k le a g = let within = a.within in stretch_are m.program m.placement m.max m.leading v w calls s x a.cell path t a.long k first a.there a.leads (omega (arith, within)) g

  -- elements get other values, from the one with number j on
  pub target_spot : (s : Memory) (t : TypeTree) (x : ℕ) (path : List ℕ) (first room u j k : ℕ) → j + k ≤ room → Points v w t x path first room u → Stands m v w calls s → spot_of s.hi s.heap s.words (Machine.element u j (width t)) (k * width t) ≡ InHeap (u - first_address + j * width t)
  target_spot s t x path first room u j k le a g =
      let inside = a.inside in let word = a.word in let used = g.sized.heap_used in
      let fits = points_small v w t x path first room u j (omega arith) g.sized.small a in
      let rest = room - (j + k) in let all : j + k + rest ≡ room = omega arith in let product : (j + k + rest) * width t ≡ room * width t = ap (λ n. n * width t) all in
      ap (λ at. spot_of s.hi s.heap s.words at (k * width t)) (mod-eq_of_lt {n = u + j * width t} {m = 2 ^ 64} fits)
      ∙ spot_heap s.hi s.heap s.words (u - first_address + j * width t) (k * width t) (u + j * width t) (omega (arith, word)) (omega (arith, inside, word, used, product, times_sum (j + k) rest (width t), times_sum j k (width t)))

  pub target_good : (s : Memory) (t : TypeTree) (x : ℕ) (path : List ℕ) (first room u j : ℕ) (vs : List Value) (xs : List ℕ) → j + length vs ≤ room → Points v w t x path first room u → AreOf (replicate (length vs) t) vs
      → Stand m.program m.leading v.homes s.hi w (all_leaves (replicate (length vs) t)) (contents_of vs) xs → Stands m v w calls s → Stands m v (elements_written w x path (first + j) vs) calls (record s { heap = put_words s.heap (u - first_address + j * width t) xs })
  target_good s t x path first room u j vs xs le a are st g =
      let word = a.word in let within = a.within in
      let there : a.at + stretch a.cell.type path t (first + j) ≡ u - first_address + j * width t = omega (arith, word, times_sum first j (width t)) in
      subst (λ n. Stands m v (elements_written w x path (first + j) vs) calls (record s { heap = put_words s.heap n xs })) there
      (stretch_write m.program m.placement m.max m.leading v w calls s x a.at a.cell path t a.long (first + j) vs xs a.there a.home a.leads (omega (arith, within)) are st g)

-- of elements that were read
pub read_stand : (m : Built) (v : View) (w : World) (hi : ℕ) (t : TypeTree) (x : ℕ) (path : List ℕ) (first k : ℕ) (xs : List ℕ) → Stand m.program m.leading v.homes hi w (all_leaves (replicate k t)) (contents_of (elements_at w x path first k)) xs
    → Stand m.program m.leading v.homes hi w (all_leaves (replicate (length (elements_at w x path first k)) t)) (contents_of (elements_at w x path first k)) xs
read_stand m v w hi t x path first k xs st = subst (λ n. Stand m.program m.leading v.homes hi w (all_leaves (replicate n t)) (contents_of (elements_at w x path first k)) xs) (sym (elements_length w x path first k)) st

pub read_are : (w : World) (t : TypeTree) (x : ℕ) (path : List ℕ) (first k : ℕ) → AreOf (replicate k t) (elements_at w x path first k) → AreOf (replicate (length (elements_at w x path first k)) t) (elements_at w x path first k)
read_are w t x path first k are = subst (λ n. AreOf (replicate n t) (elements_at w x path first k)) (sym (elements_length w x path first k)) are

-- ---- `copy`

-- the lesser of two numbers from 0 on
pub lesser_is : (x y a b : ℕ) → x ≡ a → y ≡ b → cast_signed w64 x ≡ pos a → cast_signed w64 y ≡ pos b → Machine.lesser x y ≡ min a b
lesser_is x y a b xa yb p q =
    ap (λ z. if int_le z (cast_signed w64 y) then x else y) p ∙ ap (λ z. if int_le (pos a) z then x else y) q
    ∙ elim (leb_tells a b) [
      | inl l ↦ ap (λ z. if z then x else y) l.0 ∙ xa ∙ (let le = l.1 in let e : a ≡ min a b = omega arith in e)
      | inr l ↦ ap (λ z. if z then x else y) l.0 ∙ yb ∙ (let lt = l.1 in let e : b ≡ min a b = omega arith in e)
    ]

module _ (m : Built) (c : Frame) (calls : List Frame) (n : ℕ) (d sv : Value) (held : List Kept) (h pc lo : ℕ) (v : View) (w : World) (isd : IsOf (slice_of n) d) (iss : IsOf (slice_of n) sv) (hh : length held ≡ h) (room : h < temps_of m.program m.placement c.func)
    (here : slice_get m.code.instrs pc ≡ Some (Copy (T m c calls h) (T m c calls h) (T m c calls (h + 3)) (width (type_named m.program n)))) where
  abbrev t : TypeTree
  t = type_named m.program n

  abbrev slot : ℕ → ℕ
  slot k = T m c calls k

  abbrev both : List Kept
  both = held ++ (kept (slice_of n) d ++ kept (slice_of n) sv)

  abbrev pub copied : ℕ
  copied = min (slice_count d) (slice_count sv)

  -- the world after it
  abbrev pub copied_world : ℕ → World
  copied_world k = elements_written w (slice_variable d) (slice_path d) (slice_first d + 0) (elements_at w (slice_variable sv) (slice_path sv) (slice_first sv) k)

  target_head : (s : Memory) → Stands m v w (hold c both ∷ calls) s → Header v w t d (slice_index s.words (slot h)) (slice_index s.words (slot h + 1)) (slice_index s.words (slot h + 2))
  target_head s g = header_held m c calls v w s held (kept (slice_of n) sv) n d h hh isd g

  source_head : (s : Memory) → Stands m v w (hold c both ∷ calls) s → Header v w t sv (slice_index s.words (slot (h + 3))) (slice_index s.words (slot (h + 3) + 1)) (slice_index s.words (slot (h + 3) + 2))
  source_head s g =
      header_held m c calls v w s (held ++ kept (slice_of n) d) [] n sv (h + 3) (behind_wide m c calls held n d h hh) iss
      (subst (λ l. Stands m v w (hold c ((held ++ kept (slice_of n) d) ++ l) ∷ calls) s) (sym (append-nil (kept (slice_of n) sv))) (behind_slice m c calls v w s held (kept (slice_of n) sv) n d g))

  count_of : (s : Memory) → Stands m v w (hold c both ∷ calls) s → Machine.lesser (slice_index s.words (slot h + 1)) (slice_index s.words (slot (h + 3) + 1)) ≡ copied
  count_of s g = let a = target_head s g in let b = source_head s g in lesser_is (slice_index s.words (slot h + 1)) (slice_index s.words (slot (h + 3) + 1)) (slice_count d) (slice_count sv) a.long_is b.long_is a.count b.count

  small : (s : Memory) → Stands m v w (hold c both ∷ calls) s → copied < 2 ^ 63
  small s g = let b = source_head s g in let less = b.less in let top = b.small in omega arith

  -- the number of elements lands in the first temp
  counted : (k : ℕ) → k ≡ copied → (w1 : World) (s s1 : Memory) → Stands m v w (hold c both ∷ calls) s → Stands m v w1 (hold c both ∷ calls) s1 → Stands m v w1 (hold c (held ++ kept ints (int (pos k))) ∷ calls) (sets s1 (slot h) k)
  counted k ek w1 s s1 g g1 =
      let top = small s g in
      temp_set m v w1 (hold c held) calls s1 h k ints (int (pos k)) hh room tt refl (to_z_pos w64 k (omega (arith, ek, top)), omega (arith, ek, top)) (fewer m v w1 c calls s1 held (kept (slice_of n) d ++ kept (slice_of n) sv) g1)

  abbrev does : Memory → ℕ → Does
  does s k = Machine.copies (state_of m pc s) (slot h) (slice_index s.words (slot h)) (slice_index s.words (slot (h + 3))) k (width t)

  abbrev next : ℕ → Memory → Memory
  next k s = record (sets s (slot h) k) { heap = put_words s.heap (slice_index s.words (slot h) - first_address) (words_at s.heap (slice_index s.words (slot (h + 3)) - first_address) (k * width t)) }

  copies_some : (j : ℕ) → suc j ≡ copied → (s : Memory) → Stands m v w (hold c both ∷ calls) s
      → (does_at m (Copy (slot h) (slot h) (slot (h + 3)) (width t)) pc s ≡ Goes [] (state_of m (pc + 1) (next (suc j) s))) × Stands m v (copied_world (suc j)) (hold c (held ++ kept ints (int (pos (suc j)))) ∷ calls) (next (suc j) s)
  copies_some j ek s g =
      let k : ℕ = suc j in let a = target_head s g in let b = source_head s g in let count = count_of s g ∙ sym ek in let top = small s g in let la = a.less in let lb = b.less in
      let to = slice_index s.words (slot h) in let from = slice_index s.words (slot (h + 3)) in
      let pa = points_count v w n t d 0 to isd (omega (arith, ek)) a.base in
      let pb = points_count v w n t sv 0 from iss (omega (arith, ek)) b.base in
      let source = source_spot m v w (hold c both ∷ calls) s t (slice_variable sv) (slice_path sv) (slice_first sv) (slice_room sv) from k (omega (arith, ek)) pb g in
      let st = source_stand m v w (hold c both ∷ calls) s t (slice_variable sv) (slice_path sv) (slice_first sv) (slice_room sv) from k (omega (arith, ek)) pb g in
      let are = source_are m v w (hold c both ∷ calls) s t (slice_variable sv) (slice_path sv) (slice_first sv) (slice_room sv) from k (omega (arith, ek)) pb g in
      let target = source_spot m v w (hold c both ∷ calls) s t (slice_variable d) (slice_path d) (slice_first d) (slice_room d) to k (omega (arith, ek)) pa g in
      let long = elements_length w (slice_variable sv) (slice_path sv) (slice_first sv) k in
      let xs = words_at s.heap (from - first_address) (k * width t) in
      let vs = elements_at w (slice_variable sv) (slice_path sv) (slice_first sv) k in
      let good = target_good m v w (hold c both ∷ calls) s t (slice_variable d) (slice_path d) (slice_first d) (slice_room d) to 0 vs xs (omega (arith, ek, long)) pa (read_are w t (slice_variable sv) (slice_path sv) (slice_first sv) k are) (read_stand m v w s.hi t (slice_variable sv) (slice_path sv) (slice_first sv) k xs st) g in
      let none : to - first_address + 0 * width t ≡ to - first_address = omega arith in
      let good1 = subst (λ q. Stands m v (copied_world k) (hold c both ∷ calls) (record s { heap = put_words s.heap q xs })) none good in
      let st0 = state_of m pc s in let kw = k * width t in (
        ap (λ q. does s q) count
            ∙ ap (λ y. if y then Machine.touches st0 from kw (λ q. Machine.touches st0 to kw (λ r. Machine.puts (Machine.put_at r st0 (Machine.words_in q s.heap s.words kw)) (slot h) k)) else Machine.puts st0 (slot h) k) (below_is 0 k (omega arith) (omega (arith, ek, top)))
            ∙ touched_there st0 from kw (from - first_address) (λ q. Machine.touches st0 to kw (λ r. Machine.puts (Machine.put_at r st0 (Machine.words_in q s.heap s.words kw)) (slot h) k)) source
            ∙ touched_there st0 to kw (to - first_address) (λ r. Machine.puts (Machine.put_at r st0 (Machine.words_in (InHeap (from - first_address)) s.heap s.words kw)) (slot h) k) target,
        counted k ek (copied_world k) s (record s { heap = put_words s.heap (to - first_address) xs }) g good1,
      )

  copies_none : 0 ≡ copied → (s : Memory) → Stands m v w (hold c both ∷ calls) s → (does_at m (Copy (slot h) (slot h) (slot (h + 3)) (width t)) pc s ≡ Goes [] (state_of m (pc + 1) (sets s (slot h) 0))) × Stands m v w (hold c (held ++ kept ints (int (pos 0))) ∷ calls) (sets s (slot h) 0)
  copies_none ek s g = (ap (λ q. does s q) (count_of s g ∙ sym ek), counted 0 ek w s s g g)

  -- the elements are read, and then put where they go
  pub copy_follows : {hi b : ℕ} (g : Go) → At m lo hi b v (g (copied_world copied)) (Stands m v (copied_world copied) (hold c (held ++ kept ints (int (pos copied))) ∷ calls)) (pc + 1) → At m (suc lo) 1 b v (Meaning.copy_first copied d sv g w) (Stands m v w (hold c both ∷ calls)) pc
  copy_follows {hi} {b} go post = by copied refl post
    where
      by : (k : ℕ) → k ≡ copied → At m lo hi b v (go (copied_world k)) (Stands m v (copied_world k) (hold c (held ++ kept ints (int (pos k))) ∷ calls)) (pc + 1) → At m (suc lo) 1 b v (Meaning.copy_first k d sv go w) (Stands m v w (hold c both ∷ calls)) pc
      by zero ek after = stepped m {lo = lo} {hi = hi} (Copy (slot h) (slot h) (slot (h + 3)) (width t)) (λ s. sets s (slot h) 0) here (λ s g. let f = copies_none ek s g in (f.0, refl, f.1)) after
      by (suc j) ek after =
          read_of m _ _ _ (written_to m _ _ _
          (stepped m {lo = lo} {hi = hi} (Copy (slot h) (slot h) (slot (h + 3)) (width t)) (next (suc j)) here (λ s g. let f = copies_some j ek s g in (f.0, refl, f.1)) after))
