-- `append`, of values in temps and of the elements of a slice.
use Rattle.std.proofs.Common.{◌≡◌, ℕ, zero, suc, ◌+◌, ◌-◌, ◌*◌, ◌^◌, ◌<◌, ◌≤◌, Bool, true, List, [], ◌∷◌, ◌++◌, length, Some, refl, sym, ap, ◌∙◌, subst, arith, append-nil}
use Rattle.std.specs.Prelude.{slice_get, slice_index, nat_le, ◌==◌, ◌&&◌, replicate, if◌then◌else◌}
use Rattle.std.proofs.lemmas.Bool.{le-leb}
use Rattle.std.proofs.Math.Nat.{le-mul_of_pos_right}
use Rattle.typed_syntax.specs.Types.{TypeTree, slice_of, width}
use Rattle.typed_syntax.specs.Value.{Value, nil_slice, slice_in, IsOf}
use Rattle.typed_syntax.specs.Syntax.{type_named}
use Rattle.typed_syntax.specs.Form.{AreOf}
use Rattle.frames.specs.Frames.{temps_of}
use Rattle.meaning.specs.Trace.{World}
use Rattle.meaning.specs.Store.{read_at, elements_at}
use Rattle.meaning.specs.Operators.{slice_variable, slice_path, slice_first, slice_count, slice_room}
use Rattle.meaning.specs.Meaning
use Rattle.meaning.specs.Meaning.{Then, Setting}
use Rattle.heap_bump.specs.Words.{first_address}
use Rattle.isa.specs.declared.instr.Added.TheVariants as added
use Rattle.isa.specs.declared.instr.MoveEvent.TheVariants.{Silent}
use Rattle.isa.specs.declared.instr.Instr.{Instr}
use Rattle.isa.specs.declared.instr.Instr.TheVariants.{Move, Append}
use Rattle.machine.specs.declared.memory.Spot.TheVariants.{InHeap, InStack}
use Rattle.machine.specs.Machine as Machine
use Rattle.machine.specs.Machine.{words_at, header}
use Rattle.program_code.specs.Code.{slots_of, site_words, append_code}
use Rattle.state_relation.specs.Leaves.{all_leaves}
use Rattle.state_relation.specs.Views.{View}
use Rattle.state_relation.specs.Relation.{Memory, puts, Kept, Frame, hold, Stand, contents_of}
use Rattle.state_relation.proofs.Stretches.{elements_length}
use Rattle.state_relation.proofs.Touches.{not_none}
use Rattle.state_relation.proofs.Built.{Built}
use Rattle.state_relation.proofs.Rules.{state_of, does_at, At, Stands, knowing, stepped, read_of}
use Rattle.state_relation.proofs.Values.{kept, all_kept, fewer, held_stand, value_put, values_stand}
use Rattle.state_relation.proofs.Slices.{Points, Based, Header, header_stands}
use Rattle.state_relation.proofs.SliceSteps.{T, points_count, header_held, behind_slice, behind_wide}
use Rattle.state_relation.proofs.SliceMoves.{touched_there, source_spot, source_stand, source_are, read_stand, read_are}
use Rattle.state_relation.proofs.SliceLiterals.{alike_wide}
use Rattle.state_relation.proofs.SliceAdds.{adds_follow}

-- a slice of elements that have words has room for fewer than the most
pub room_most : (v : View) (w : World) (n : ℕ) (t : TypeTree) (sv : Value) (u : ℕ) → IsOf (slice_of n) sv → 0 < width t → v.heap ≤ 2 ^ 32 → Based v w t sv u → slice_room sv ≤ Machine.most_elements
room_most v w n t nil_slice u is some small b = omega arith
room_most v w n t (slice_in x path first count room) u is some small b = let le = le-mul_of_pos_right room some in let inside = b.inside in omega (arith, le, inside, small)
room_most v w n t sv u is some small b = absurd is

pub sizes_are : (v : View) (w : World) (n : ℕ) (t : TypeTree) (sv : Value) (u long capacity : ℕ) → IsOf (slice_of n) sv → 0 < width t → v.heap ≤ 2 ^ 32 → Header v w t sv u long capacity → Machine.are_sizes long capacity ≡ true
sizes_are v w n t sv u long capacity is some small head =
    let most = room_most v w n t sv u is some small head.base in let less = head.less in let li = head.long_is in let ri = head.room_is in
    ap (λ q. q && nat_le capacity Machine.most_elements) (le-leb long capacity (omega (arith, li, ri, less))) ∙ le-leb capacity Machine.most_elements (omega (arith, ri, most))

module _ (m : Built) (c : Frame) (calls : List Frame) (n : ℕ) (sv : Value) (held : List Kept) (h pc site entry : ℕ) (v : View) (w : World) (is : IsOf (slice_of n) sv) (hh : length held ≡ h) (room : h + 3 ≤ temps_of m.program m.placement c.func) (boxed : m.placement.on_heap site ≡ true)
    (some : 0 < width (type_named m.program n)) (words_are : site_words (slots_of m.program m.placement c.func) site ≡ width (type_named m.program n)) where
  abbrev t : TypeTree
  t = type_named m.program n

  abbrev slot : ℕ → ℕ
  slot k = T m c calls k

  -- the header stays
  module _ (more : List Kept) where
    abbrev all : List Kept
    all = held ++ (kept (slice_of n) sv ++ more)

    sizes_held : (s : Memory) → Stands m v w (hold c all ∷ calls) s → Machine.are_sizes (slice_index s.words (slot h + 1)) (slice_index s.words (slot h + 2)) ≡ true
    sizes_held s g = sizes_are v w n t sv (slice_index s.words (slot h)) (slice_index s.words (slot h + 1)) (slice_index s.words (slot h + 2)) is some g.sized.small (header_held m c calls v w s held more n sv h hh is g)

    same_header : (s : Memory) → Stands m v w (hold c all ∷ calls) s → Stands m v w (hold c (held ++ kept (slice_of n) sv) ∷ calls) (puts s (slot h) (header (slice_index s.words (slot h)) (slice_index s.words (slot h + 1)) (slice_index s.words (slot h + 2))))
    same_header s g =
        let head = header_held m c calls v w s held more n sv h hh is g in let less = head.less in let top = head.small in let li = head.long_is in let ri = head.room_is in
        value_put m v w (hold c held) calls s h (slice_of n) sv (header (slice_index s.words (slot h)) (slice_index s.words (slot h + 1)) (slice_index s.words (slot h + 2))) hh room
        (header_stands m v w s.hi n sv (slice_index s.words (slot h)) (slice_index s.words (slot h + 1)) (slice_index s.words (slot h + 2)) (omega (arith, li, less, top)) (omega (arith, ri, top)) head) (fewer m v w c calls s held (kept (slice_of n) sv ++ more) g)

  -- ---- of values in temps

  abbrev with_values : List Value → List Kept
  with_values vs = all_kept (replicate (length vs) t) vs

  module _ {lo hi b : ℕ} (around : Setting) (k : Then Value) (sites : Meaning.site_type around site ≡ t) (post : (r : Value) (v2 : View) (u : World) → IsOf (slice_of n) r → At m lo hi b v2 (k r u) (Stands m v2 u (hold c (held ++ kept (slice_of n) r) ∷ calls)) (pc + 1)) where
    pub values_appended : (vs : List Value) → AreOf (replicate (length vs) t) vs → slice_get m.code.instrs pc ≡ Some (append_code (slots_of m.program m.placement c.func) site (length vs) h)
        → At m (suc lo) 1 b v (Meaning.add_to around entry site sv vs k w) (Stands m v w (hold c (held ++ (kept (slice_of n) sv ++ with_values vs)) ∷ calls)) pc
    values_appended [] are here =
        stepped m {lo = lo} {hi = hi} (Move Silent (slot h) (slot h) 3) (λ s. puts s (slot h) (words_at s.words (slot h) 3)) here
        (λ s g. (
          refl,
          refl,
          value_put m v w (hold c held) calls s h (slice_of n) sv (words_at s.words (slot h) 3) hh room (held_stand m v w c calls s held [] (slice_of n) sv h 3 hh refl g) (fewer m v w c calls s held (kept (slice_of n) sv ++ []) g),
        )) (post sv v w is)
    values_appended (y ∷ ys) are here =
        adds_follow m c calls n sv y ys held (with_values (y ∷ ys)) h pc site entry v w is hh room boxed some are (Append added.Slots (slot h) (slot h) (slot (h + 3)) (length (y ∷ ys)) (width t) site)
        (subst (λ q. slice_get m.code.instrs pc ≡ Some (Append added.Slots (slot h) (slot h) (slot (h + 3)) (length (y ∷ ys)) q site)) words_are here) (λ s. InStack (slot (h + 3)))
        (λ s g. ap (λ q. Machine.with_header (state_of m pc s) q (slice_index s.words (slot h + 1)) (Machine.appends_slots (state_of m pc s) (slot h) (slice_index s.words (slot h)) (slice_index s.words (slot h + 1)) (slice_index s.words (slot h + 2)) (slot (h + 3)) (length (y ∷ ys)) (width t))) (sizes_held (with_values (y ∷ ys)) s g)
        ∙ ap (λ q. if q then Machine.puts_words (state_of m pc s) (slot h) (header (slice_index s.words (slot h)) (slice_index s.words (slot h + 1)) (slice_index s.words (slot h + 2)))
        else Machine.adds (state_of m pc s) (slot h) (slice_index s.words (slot h)) (slice_index s.words (slot h + 1)) (slice_index s.words (slot h + 2)) (length (y ∷ ys)) (width t) (InStack (slot (h + 3)))) (not_none (length (y ∷ ys)) (omega arith)))
        (λ s g.
        values_stand m v w c calls s (held ++ kept (slice_of n) sv) (replicate (length (y ∷ ys)) t) (y ∷ ys) (h + 3) (length (y ∷ ys) * width t) (behind_wide m c calls held n sv h hh) (sym (alike_wide (length (y ∷ ys)) t))
        (behind_slice m c calls v w s held (with_values (y ∷ ys)) n sv g))
        {lo = lo} {hi = hi} {b = b} around k sites post

    -- ---- of the elements of a slice

    module _ (u : Value) (is_u : IsOf (slice_of n) u) (here : slice_get m.code.instrs pc ≡ Some (Append added.Slice (slot h) (slot h) (slot (h + 3)) 0 (site_words (slots_of m.program m.placement c.func) site) site)) where
      abbrev both : List Kept
      both = held ++ (kept (slice_of n) sv ++ kept (slice_of n) u)

      abbrev i : Instr
      i = Append added.Slice (slot h) (slot h) (slot (h + 3)) 0 (width t) site

      here_is : slice_get m.code.instrs pc ≡ Some i
      here_is = subst (λ q. slice_get m.code.instrs pc ≡ Some (Append added.Slice (slot h) (slot h) (slot (h + 3)) 0 q site)) words_are here

      abbrev from : Memory → ℕ
      from s = slice_index s.words (slot (h + 3))

      source_head : (s : Memory) → Stands m v w (hold c both ∷ calls) s → Header v w t u (from s) (slice_index s.words (slot (h + 3) + 1)) (slice_index s.words (slot (h + 3) + 2))
      source_head s g =
          header_held m c calls v w s (held ++ kept (slice_of n) sv) [] n u (h + 3) (behind_wide m c calls held n sv h hh) is_u
          (subst (λ l. Stands m v w (hold c ((held ++ kept (slice_of n) sv) ++ l) ∷ calls) s) (sym (append-nil (kept (slice_of n) u))) (behind_slice m c calls v w s held (kept (slice_of n) u) n sv g))

      -- what the instruction does, by its tests
      abbrev adding : Memory → ℕ → Machine.Does
      adding s count = Machine.appends_slice (state_of m pc s) (slot h) (slice_index s.words (slot h)) (slice_index s.words (slot h + 1)) (slice_index s.words (slot h + 2)) (from s) count (width t)

      begins : (s : Memory) → Stands m v w (hold c both ∷ calls) s → does_at m i pc s ≡ adding s (slice_count u)
      begins s g =
          ap (λ q. Machine.with_header (state_of m pc s) q (slice_index s.words (slot h + 1)) (adding s (slice_index s.words (slot (h + 3) + 1)))) (sizes_held (kept (slice_of n) u) s g)
          ∙ ap (λ q. adding s q) (source_head s g).long_is

      few : (s : Memory) → Stands m v w (hold c both ∷ calls) s → nat_le (slice_count u) Machine.most_elements ≡ true
      few s g =
          let head = source_head s g in let less = head.less in let most = room_most v w n t u (from s) is_u some g.sized.small head.base in
          le-leb (slice_count u) Machine.most_elements (omega (arith, less, most))

      abbrev tested : Memory → ℕ → Bool → Machine.Does
      tested s count good =
          Machine.with_header (state_of m pc s) good count
          (if count == 0 then Machine.puts_words (state_of m pc s) (slot h) (header (slice_index s.words (slot h)) (slice_index s.words (slot h + 1)) (slice_index s.words (slot h + 2)))
          else Machine.touches (state_of m pc s) (from s) (count * width t) (λ source. Machine.adds (state_of m pc s) (slot h) (slice_index s.words (slot h)) (slice_index s.words (slot h + 1)) (slice_index s.words (slot h + 2)) count (width t) source))

      -- they are read before a new array is born
      pub slice_appended : At m (suc lo) 1 b v (Meaning.read_first (slice_count u) u (λ vs. Meaning.add_to around entry site sv vs k) w) (Stands m v w (hold c both ∷ calls)) pc
      slice_appended = by (slice_count u) refl
        where
          by : (j : ℕ) → slice_count u ≡ j → At m (suc lo) 1 b v (Meaning.read_first j u (λ vs. Meaning.add_to around entry site sv vs k) w) (Stands m v w (hold c both ∷ calls)) pc
          by zero e =
              stepped m {lo = lo} {hi = hi} i (λ s. puts s (slot h) (header (slice_index s.words (slot h)) (slice_index s.words (slot h + 1)) (slice_index s.words (slot h + 2)))) here_is
              (λ s g. (begins s g ∙ ap (λ q. tested s (slice_count u) q) (few s g) ∙ ap (λ q. tested s q true) e, refl, same_header (kept (slice_of n) u) s g)) (post sv v w is)
          by (suc j) e =
              let x = slice_variable u in let path = slice_path u in let first = slice_first u in
              let y = read_at w x (path ++ first ∷ []) in let ys = elements_at w x path (suc first) j in
              let long : length (y ∷ ys) ≡ suc j = elements_length w x path first (suc j) in
              read_of m _ _ _
              (knowing m (λ s0 g0.
              adds_follow m c calls n sv y ys held (kept (slice_of n) u) h pc site entry v w is hh room boxed some (read_are w t x path first (suc j) (all_are j e s0 g0)) i here_is (λ s. InHeap (from s - first_address))
              (λ s g.
              begins s g ∙ ap (λ q. tested s (slice_count u) q) (few s g) ∙ ap (λ q. tested s q true) e
              ∙ ap (λ q. if q then Machine.puts_words (state_of m pc s) (slot h) (header (slice_index s.words (slot h)) (slice_index s.words (slot h + 1)) (slice_index s.words (slot h + 2)))
              else Machine.touches (state_of m pc s) (from s) (suc j * width t) (λ source. Machine.adds (state_of m pc s) (slot h) (slice_index s.words (slot h)) (slice_index s.words (slot h + 1)) (slice_index s.words (slot h + 2)) (suc j) (width t) source)) (not_none (suc j) (omega arith))
              ∙ touched_there (state_of m pc s) (from s) (suc j * width t) (from s - first_address) (λ source. Machine.adds (state_of m pc s) (slot h) (slice_index s.words (slot h)) (slice_index s.words (slot h + 1)) (slice_index s.words (slot h + 2)) (suc j) (width t) source) (spot j e s g)
              ∙ ap (λ q. Machine.adds (state_of m pc s) (slot h) (slice_index s.words (slot h)) (slice_index s.words (slot h + 1)) (slice_index s.words (slot h + 2)) q (width t) (InHeap (from s - first_address))) (sym long))
              (λ s g. subst (λ q. Stand m.program m.leading v.homes s.hi w (all_leaves (replicate (length (y ∷ ys)) t)) (contents_of (y ∷ ys)) (words_at s.heap (from s - first_address) (q * width t))) (sym long) (read_stand m v w s.hi t x path first (suc j) (words_at s.heap (from s - first_address) (suc j * width t)) (read_words j e s g)))
              {lo = lo} {hi = hi} {b = b} around k sites post))
            where
              points : (j : ℕ) → slice_count u ≡ suc j → (s : Memory) → Stands m v w (hold c both ∷ calls) s → Points v w t (slice_variable u) (slice_path u) (slice_first u) (slice_room u) (from s)
              points j e s g = let head = source_head s g in let less = head.less in points_count v w n t u j (from s) is_u (omega (arith, e, less)) head.base

              spot : (j : ℕ) → slice_count u ≡ suc j → (s : Memory) → Stands m v w (hold c both ∷ calls) s → Machine.spot_of s.hi s.heap s.words (from s) (suc j * width t) ≡ InHeap (from s - first_address)
              spot j e s g = let less = (source_head s g).less in source_spot m v w (hold c both ∷ calls) s t (slice_variable u) (slice_path u) (slice_first u) (slice_room u) (from s) (suc j) (omega (arith, e, less)) (points j e s g) g

              all_are : (j : ℕ) → slice_count u ≡ suc j → (s : Memory) → Stands m v w (hold c both ∷ calls) s → AreOf (replicate (suc j) t) (elements_at w (slice_variable u) (slice_path u) (slice_first u) (suc j))
              all_are j e s g = let less = (source_head s g).less in source_are m v w (hold c both ∷ calls) s t (slice_variable u) (slice_path u) (slice_first u) (slice_room u) (from s) (suc j) (omega (arith, e, less)) (points j e s g) g

              read_words : (j : ℕ) → slice_count u ≡ suc j → (s : Memory) → Stands m v w (hold c both ∷ calls) s
                  → Stand m.program m.leading v.homes s.hi w (all_leaves (replicate (suc j) t)) (contents_of (elements_at w (slice_variable u) (slice_path u) (slice_first u) (suc j))) (words_at s.heap (from s - first_address) (suc j * width t))
              read_words j e s g = let less = (source_head s g).less in source_stand m v w (hold c both ∷ calls) s t (slice_variable u) (slice_path u) (slice_first u) (slice_room u) (from s) (suc j) (omega (arith, e, less)) (points j e s g) g
