-- The machine follows the parameters at the entry of a function.
use Rattle.std.proofs.Common.{◌≡◌, ◌≢◌, inl, inr, ℕ, suc, ◌+◌, ◌-◌, ◌<◌, ◌≤◌, Bool, true, false, List, [], ◌∷◌, ◌++◌, length, replicate, Option, Some, None, refl, sym, ap, ◌∙◌, subst, arith, length-append, length-set}
use Rattle.std.specs.Prelude.{slice_index, slice_set, take, drop, if◌then◌else◌}
use Rattle.std.proofs.lemmas.List.{length-replicate, length-take-le, take_at, drop_at}
use Rattle.typed_syntax.specs.Value.{Value, IsOf, words}
use Rattle.typed_syntax.specs.Form.{AreOf, ParamsFit, named_params, params_scope}
use Rattle.frames.specs.Frames.{entry_need, frame_of, temps_of}
use Rattle.meaning.specs.Trace.{World, Cell, Note, Born}
use Rattle.meaning.specs.Store.{born}
use Rattle.meaning.specs.Meaning
use Rattle.meaning.specs.Meaning.{Env, Go, Setting, with_home}
use Rattle.isa.specs.declared.instr.Direction.TheVariants.{ToSlots}
use Rattle.isa.specs.declared.instr.StoreEvent.TheVariants as Stored
use Rattle.isa.specs.declared.instr.Instr.{Instr}
use Rattle.isa.specs.declared.instr.Instr.TheVariants as Instruction
use Rattle.isa.specs.declared.instr.Instr.TheVariants.{Alloc, Incoming, Store}
use Rattle.simulation.specs.Steps.{Goes}
use Rattle.heap_bump.specs.Words.{first_address}
use Rattle.program_code.specs.Code.{temp, cell_slot, site_slot, slots_of, param_by, param_code, param_size, params_code, params_size}
use Rattle.machine.specs.Machine.{put_words, words_at}
use Rattle.typed_syntax.specs.Types.{TypeTree, width}
use Rattle.typed_syntax.specs.Words.{Content, contents}
use Rattle.value_laws.proofs.Parts.{words_count, count_of}
use Rattle.typed_syntax.specs.Syntax.{each_width, all_width, site_type, is_made}
use Rattle.state_relation.specs.Leaves.{leaves, all_leaves}
use Rattle.state_relation.specs.Views.{Place, View, born_at, born_apart, after_stack, after_apart}
use Rattle.state_relation.specs.Relation.{Memory, puts, Frame, during, grown, Stand, contents_of, depth, word_at}
use Rattle.state_relation.proofs.Lists.{append_old}
use Rattle.state_relation.proofs.Distances.{word_other, put_one, put_length, put_out, put_other, read_above}
use Rattle.state_relation.proofs.Leaves.{leaves_length}
use Rattle.state_relation.proofs.Relation.{site_inside, cell_inside, Later}
use Rattle.state_relation.proofs.Changes.{not_at_some, not_at_heap, born_old, apart_old, good_free}
use Rattle.state_relation.proofs.Built.{Built}
use Rattle.state_relation.proofs.Rules.{state_of, range_of, does_at, At, Stands, place_is, given, turned, stepped, frame_here, argument_by}
use Rattle.state_relation.proofs.Calls.{Passing, passing_above}
use Rattle.simulated_code.proofs.Standing.{Standing}
use Rattle.simulated_code.proofs.Moves.{room_of, passing_first, passing_rest, passing_kept}
use Rattle.simulated_code.proofs.Births.{births_in_two, cleared, site_room, below_cells, new_words, filled_from, births_apart, fills_apart, new_address, filled_is, cell_room, boxed_birth, cell_kind}

-- a birth on the stack leaves what stands for something
born_later : (homes : ℕ → Option Place) (n d : ℕ) (w : World) (y : Cell) → n ≡ length w.store → Later homes (born_at homes n d) w (born w y)
born_later homes n d w y e = record {
  keeps = λ x a f. (a, append_old w.store (y ∷ []) a x f, refl);
  ends = λ x q less h. (let ne : x ≢ n = omega arith in (not_at_some d (homes x) q (sym (born_old homes n d x ne) ∙ h)).0);
  stays = λ x h less there. (let ne : x ≢ n = omega arith in born_old homes n d x ne ∙ not_at_heap d h (homes x) there);
}

-- and so does one on the heap
apart_later : (homes : ℕ → Option Place) (n h : ℕ) (w : World) (y : Cell) → n ≡ length w.store → Later homes (born_apart homes n h) w (born w y)
apart_later homes n h w y e = record {
  keeps = λ x a f. (a, append_old w.store (y ∷ []) a x f, refl);
  ends = λ x q less there. (let ne : x ≢ n = omega arith in sym (apart_old homes n h x ne) ∙ there);
  stays = λ x k less there. (let ne : x ≢ n = omega arith in apart_old homes n h x ne ∙ there);
}

-- what was put is read
read_put : (words : List ℕ) (from n : ℕ) (put : List ℕ) → from ≤ length words → length put ≡ n → words_at (put_words words from put) from n ≡ put
read_put words from n put within long =
    let rest = drop (from + length put) words in
    ap (take n) (drop_at (take from words) (put ++ rest) from (length-take-le from words within)) ∙ take_at put rest n long

module _ (m : Built) (around : Setting) (sites_are : around.sites ≡ m.program.sites) (c : Frame) (calls : List Frame) where
  -- the incoming words of one more argument
  incoming : (ps : List Frame) (v : View) (w : World) (c0 : Frame) (s : Memory) (t : TypeTree) (x : Value) (i : ℕ) → 0 < width t → i + width t ≤ room_of m ps → Stands m v w (c0 ∷ ps) s → Passing m v w ps (leaves t) (contents x) i s
      → Stand m.program m.leading v.homes s.hi w (leaves t) (contents x) (words_at s.words (frame_of m.program m.placement c0.func + i) (width t)) × (frame_of m.program m.placement c0.func + i + width t ≤ length s.words)
  incoming [] v w c0 s t x i some room g pass = absurd (omega arith)
  incoming (up ∷ rest) v w c0 s t x i some room g pass = (
    subst (λ n. Stand m.program m.leading v.homes s.hi w (leaves t) (contents x) (words_at s.words (frame_of m.program m.placement c0.func + i) n)) (leaves_length t) (passing_above m v w c0 up rest s (leaves t) (contents x) i (omega (arith, leaves_length t)) g pass),
    let u = g.sized.used in omega arith,
  )

  -- one parameter, which gets the incoming words from i on
  module _ (site i pc lo b : ℕ) (t : TypeTree) (x : Value) (ls : List TypeTree) (cs : List Content) (env : Env) (scope : List ℕ) (entry : ℕ) (k : Env → Go) (v : View) (w : World) (rest : List Instr) (typed : IsOf t x) (of_site : site_type m.program site ≡ t)
      (from : c.func.first ≤ site) (to : site < c.func.first + c.func.count) (declared : is_made m.program site ≡ false) (room : i + width t ≤ room_of m calls) (temps : (if m.placement.on_heap site then width t else 0) ≤ temps_of m.program m.placement c.func) where
    abbrev cell : Cell
    cell = Meaning.new_cell entry site (Meaning.site_type around site) x

    abbrev n : ℕ
    n = width t

    abbrev slot : ℕ
    slot = site_slot (slots_of m.program m.placement c.func) site

    abbrev box : ℕ
    box = cell_slot (slots_of m.program m.placement c.func) site

    abbrev low : ℕ
    low = temp (slots_of m.program m.placement c.func) 0

    abbrev frame : ℕ
    frame = frame_of m.program m.placement c.func

    abbrev c0 : Frame
    c0 = during c env scope []

    abbrev env1 : Env
    env1 = with_home env site (length w.store)

    abbrev Before : Memory → Type 0
    Before u = Stands m v w (c0 ∷ calls) u × Passing m v w calls (leaves t ++ ls) (contents x ++ cs) i u

    abbrev After : View → Memory → Type 0
    After v1 u = Stands m v1 (born w cell) (during c env1 (site ∷ scope) [] ∷ calls) u × Passing m v1 (born w cell) calls ls cs (i + n) u

    wide : width (site_type m.program site) ≡ n
    wide = ap width of_site

    some : 0 < n
    some = let solid = m.solid site in omega (arith, wide)

    kind : cell.type ≡ site_type m.program site
    kind = cell_kind m around sites_are site

    is : IsOf cell.type x
    is = subst (λ o. IsOf o x) (sym (kind ∙ of_site)) typed

    long : length (contents x) ≡ length (leaves t)
    long = count_of t x typed ∙ sym (leaves_length t)

    abbrev coming : Memory → List ℕ
    coming u = words_at u.words (frame + i) n

    first : (u : Memory) → Before u → Stand m.program m.leading v.homes u.hi w (leaves t) (contents x) (coming u) × (frame + i + n ≤ length u.words)
    first u g = incoming calls v w c0 u t x i some room g.0 (passing_first m v w calls (leaves t) ls (contents x) cs i u long g.1)

    stand : (u : Memory) → Before u → Stand m.program m.leading v.homes u.hi w (leaves cell.type) (contents x) (coming u)
    stand u g = subst (λ o. Stand m.program m.leading v.homes u.hi w (leaves o) (contents x) (coming u)) (sym (kind ∙ of_site)) (first u g).0

    -- the words of the other arguments stay
    passes : (u u1 : Memory) (v1 : View) → Later v.homes v1.homes w (born w cell) → u.hi ≡ u1.hi → ((e : ℕ) → e ≤ depth m.program m.placement calls → word_at u1.words e ≡ word_at u.words e) → Before u → Passing m v1 (born w cell) calls ls cs (i + n) u1
    passes u u1 v1 later upper same g = passing_kept m v v1 w (born w cell) calls ls cs (i + n) u u1 later upper same (passing_rest m v w calls (leaves t) ls (contents x) cs i n u long (sym (leaves_length t)) g.1)

    -- in its slots
    in_slots_follows : m.placement.on_heap site ≡ false → Standing m.code c.fn pc (param_by false (slots_of m.program m.placement c.func) site i n ++ rest)
        → ((v1 : View) → At m lo 0 b v1 (k env1 (born w cell)) (After v1) (pc + 1 + 1)) → At m (suc (suc lo)) 1 b v (Note (Born site (words x)) (k env1 (born w cell))) Before pc
    in_slots_follows stays has post =
        births_in_two m {lo = lo} {hi = 0} {G1 = After (after_stack v d)} c0 calls v w site (words x) pc cell (Incoming ToSlots slot i n) coming stays
        (has.0.0 ∙ ap (λ (boxed : Bool). Some (if boxed then Alloc box (width (site_type m.program site)) site else Instruction.Born slot (width (site_type m.program site)) site)) stays) has.1.0.0 from to declared kind is (λ u g. g.0)
        (λ u g.
        let within = site_room m c0 calls v w u site stays from to g.0 in let above = inside in
        let kept : length (put_words u.words slot zeros) ≡ length u.words = put_length u.words slot zeros (omega (arith, within, many)) in (
          read_above u.words (frame + i) n slot zeros (omega (arith, many, above)) (omega (arith, within)),
          argument_by m slot i n frame (pc + 1) (cleared m c0 site u) (frame_here m c.fn (pc + 1) c.func g.0.homed.owned.0.named has.1.0.1) (let le = (first u g).1 in omega (arith, le, kept)),
        ))
        stand
        (λ u g good. (
          good,
          passes u (puts u slot (coming u)) (after_stack v d) (born_later v.homes v.births d w cell g.0.homed.births) refl
              (λ e le. let put = (first u g).0.long in let used = g.0.sized.used in let above = inside in
              put_other u.words slot (coming u) e (omega (arith, put, leaves_length t, above, wide)) (inr (omega (arith, put, leaves_length t, above, wide)))) g,
        ))
        (post (after_stack v d))
      where
        d : ℕ
        d = depth m.program m.placement (c0 ∷ calls) - slot

        zeros : List ℕ
        zeros = replicate (width (site_type m.program site)) 0

        many : length zeros ≡ width (site_type m.program site)
        many = length-replicate {A = ℕ} (width (site_type m.program site)) 0

        inside : slot + width (site_type m.program site) + 2 ≤ frame
        inside = (site_inside m.program m.placement c.func site stays from to).1

    -- on the heap, through temps
    apart_follows : m.placement.on_heap site ≡ true → Standing m.code c.fn pc (param_by true (slots_of m.program m.placement c.func) site i n ++ rest)
        → ((v1 : View) → At m lo 0 b v1 (k env1 (born w cell)) (After v1) (pc + 1 + 1 + 1)) → At m (suc (suc (suc lo))) 1 b v (Note (Born site (words x)) (k env1 (born w cell))) Before pc
    apart_follows boxed has post =
        subst (λ j. At m (suc (suc (suc lo))) 1 b v (Note (Born site j) (k env1 (born w cell))) Before pc) (sym (words_count x ∙ count_of t x typed))
        (births_apart m {lo = suc (suc lo)} {hi = 1} {b = b} {G = Before} {G1 = Taken} v site n box pc
        (has.0.0 ∙ ap (λ (apart : Bool). Some (if apart then Alloc box (width (site_type m.program site)) site else Instruction.Born slot (width (site_type m.program site)) site)) boxed ∙ ap (λ j. Some (Alloc box j site)) wide)
        boxed (λ u g. g.0.sized.heap_used) (λ fits u g. (u, g, refl)) (λ fits.
        stepped m {lo = suc lo} {hi = 1} {G1 = Come} (Incoming ToSlots low i n) (λ u. puts u low (coming u)) has.1.0.0 (λ u e. comes u e.0 e.1 e.2)
        (stepped m {lo = lo} {hi = 0} {G1 = After (after_apart v n)} (Store Stored.Silent box 0 low n) (filled_from m v.heap low n) has.1.1.0.0 (λ u e. fills fits u e.0 e.1 e.2) (post (after_apart v n)))))
      where
        zeros : List ℕ
        zeros = replicate n 0

        many : length zeros ≡ n
        many = length-replicate {A = ℕ} n 0

        Taken : Memory → Type 0
        Taken u = (s : Memory) × Before s × (u ≡ new_words m box v.heap zeros s)

        Come : Memory → Type 0
        Come u = (s : Memory) × Before s × (u ≡ puts (new_words m box v.heap zeros s) low (coming s))

        fit : 0 + n ≤ temps_of m.program m.placement c.func
        fit = subst (λ (apart : Bool). 0 + (if apart then n else 0) ≤ temps_of m.program m.placement c.func) boxed (omega arith)

        below : low + n ≤ box
        below = below_cells m c site 0 n fit

        inside : box + 3 ≤ frame
        inside = let r = cell_inside m.program m.placement c.func site boxed declared from to in omega (arith, r.1)

        within : (s : Memory) → Before s → box < length s.words
        within s g = cell_room m c0 calls v w s site boxed from to declared g.0

        put_long : (s : Memory) → Before s → length (coming s) ≡ n
        put_long s g = (first s g).0.long ∙ leaves_length t

        comes : (u s : Memory) → Before s → u ≡ new_words m box v.heap zeros s → (does_at m (Incoming ToSlots low i n) (pc + 1) u ≡ Goes [] (state_of m (pc + 1 + 1) (puts u low (coming u)))) × (range_of m u ≡ range_of m (puts u low (coming u))) × Come (puts u low (coming u))
        comes u s g e =
            let there = within s g in let kept = length-set s.words box (first_address + v.heap) in let le = (first s g).1 in let s1 = new_words m box v.heap zeros s in
            let same : coming s1 ≡ coming s = ap (λ ws. words_at ws (frame + i) n) (sym (put_one s.words box (first_address + v.heap) there)) ∙ read_above s.words (frame + i) n box ((first_address + v.heap) ∷ []) (omega (arith, inside)) (omega arith) in
            subst (λ z. (does_at m (Incoming ToSlots low i n) (pc + 1) z ≡ Goes [] (state_of m (pc + 1 + 1) (puts z low (coming z)))) × (range_of m z ≡ range_of m (puts z low (coming z))) × Come (puts z low (coming z))) (sym e) (
              argument_by m low i n frame (pc + 1) s1 (frame_here m c.fn (pc + 1) c.func g.0.homed.owned.0.named has.1.0.1) (omega (arith, le, kept)),
              refl,
              (s, g, ap (puts s1 low) same),
            )

        fills : v.heap + n ≤ m.heap_max → (u s : Memory) → Before s → u ≡ puts (new_words m box v.heap zeros s) low (coming s)
            → (does_at m (Store Stored.Silent box 0 low n) (pc + 1 + 1) u ≡ Goes [] (state_of m (pc + 1 + 1 + 1) (filled_from m v.heap low n u))) × (range_of m u ≡ range_of m (filled_from m v.heap low n u)) × After (after_apart v n) (filled_from m v.heap low n u)
        fills room_left u s g e =
            let there = within s g in let kept = length-set s.words box (first_address + v.heap) in let put = put_long s g in let used = g.0.sized.heap_used in let most = m.heap_roomy in
            let ws = slice_set s.words box (first_address + v.heap) in let s1 = new_words m box v.heap zeros s in
            let address : slice_index (put_words ws low (coming s)) box ≡ first_address + v.heap = put_out ws low (coming s) box (omega (arith, kept, there, below)) (inr (omega (arith, put, below))) ∙ new_address m box v.heap zeros s there in
            let read : words_at (put_words ws low (coming s)) low n ≡ coming s = read_put ws low n (coming s) (omega (arith, kept, there, below)) put in
            let filled : filled_from m v.heap low n (puts s1 low (coming s)) ≡ puts (new_words m box v.heap (coming s) s) low (coming s) =
            ap (λ l. record (puts s1 low (coming s)) { heap = put_words (s.heap ++ zeros) v.heap l }) read ∙ ap (λ l. record (puts s1 low (coming s)) { heap = l }) (filled_is m v.heap n (coming s) s.heap used put) in
            subst (λ z. (does_at m (Store Stored.Silent box 0 low n) (pc + 1 + 1) z ≡ Goes [] (state_of m (pc + 1 + 1 + 1) (filled_from m v.heap low n z))) × (range_of m z ≡ range_of m (filled_from m v.heap low n z)) × After (after_apart v n) (filled_from m v.heap low n z)) (sym e) (
              fills_apart m Stored.Silent box v.heap low n (pc + 1 + 1) (puts s1 low (coming s)) address (omega (arith, length-append s.heap zeros, many, used)) (omega arith),
              refl,
              subst (After (after_apart v n)) (sym filled) (
                good_free m.program m.placement m.max m.leading (after_apart v n) (born w cell) (grown c0 site (length w.store)) calls (new_words m box v.heap (coming s) s) low (coming s) (inl (omega arith, omega (arith, put, fit)))
                    (boxed_birth m c0 calls v w s site n cell (coming s) boxed from to declared (sym wide) room_left kind is (stand s g) g.0),
                passes s (puts (new_words m box v.heap (coming s) s) low (coming s)) (after_apart v n) (apart_later v.homes v.births v.heap w cell g.0.homed.births) refl
                    (λ d le. let long_enough = g.0.sized.used in
                    put_other ws low (coming s) d (omega (arith, kept, there, below, put)) (inr (omega (arith, kept, there, below, put, inside, long_enough, le)))
                    ∙ word_other s.words box (first_address + v.heap) d (λ q. omega (arith, q, inside, long_enough, le))) g,
              ),
            )

    param_follows : Standing m.code c.fn pc (param_code (slots_of m.program m.placement c.func) site i n ++ rest)
        → ((v1 : View) (pc1 : ℕ) → pc1 ≡ pc + param_size (m.placement.on_heap site) → Standing m.code c.fn pc1 rest → At m lo 0 b v1 (k env1 (born w cell)) (After v1) pc1)
        → At m lo 0 b v (Meaning.turn (Meaning.bear entry site (Meaning.site_type around site) x (λ z. k (with_home env site z))) w) Before pc
    param_follows has post = by (m.placement.on_heap site) refl has (λ v1 pc1 e. post v1 pc1 e)
      where
        by : (boxed : Bool) → m.placement.on_heap site ≡ boxed → Standing m.code c.fn pc (param_by boxed (slots_of m.program m.placement c.func) site i n ++ rest)
            → ((v1 : View) (pc1 : ℕ) → pc1 ≡ pc + param_size boxed → Standing m.code c.fn pc1 rest → At m lo 0 b v1 (k env1 (born w cell)) (After v1) pc1)
            → At m lo 0 b v (Meaning.turn (Meaning.bear entry site (Meaning.site_type around site) x (λ z. k (with_home env site z))) w) Before pc
        by false stays here goes = turned m {lo1 = suc (suc lo)} (omega arith) (in_slots_follows stays here (λ v1. goes v1 (pc + 1 + 1) (omega arith) here.1.1))
        by true boxed here goes = turned m {lo1 = suc (suc (suc lo))} (omega arith) (apart_follows boxed here (λ v1. goes v1 (pc + 1 + 1 + 1) (omega arith) here.1.1.1))

  pub params_follow : (ps : List (Option ℕ)) (ts : List TypeTree) (vs : List Value) (env : Env) (scope : List ℕ) (entry : ℕ) (k : Env → Go) (v : View) (w : World) (q i pc lo b : ℕ) → AreOf ts vs → Standing m.code c.fn pc (params_code (slots_of m.program m.placement c.func) (each_width ts) ps i) → ParamsFit m.program q ts ps
      → c.func.first ≤ q → q + named_params ps ≤ c.func.first + c.func.count → i + all_width ts ≤ room_of m calls → entry_need m.placement ps ts ≤ temps_of m.program m.placement c.func
      → ((env1 : Env) (w1 : World) (v1 : View) → At m lo 0 b v1 (k env1 w1) (Stands m v1 w1 (during c env1 (params_scope scope ps) [] ∷ calls)) (pc + params_size m.placement ps))
      → At m lo 0 b v (Meaning.bear_params around entry ps vs env k w) (λ s. Stands m v w (during c env scope [] ∷ calls) s × Passing m v w calls (all_leaves ts) (contents_of vs) i s) pc
  params_follow [] [] [] env scope entry k v w q i pc lo b typed has fit from to room temps post = given m (λ s g. g.0) (place_is m (let e : pc + 0 ≡ pc = omega arith in e) (post env w v))
  params_follow [] [] (x ∷ vs) env scope entry k v w q i pc lo b typed has fit from to room temps post = absurd typed
  params_follow [] (t ∷ ts) vs env scope entry k v w q i pc lo b typed has fit from to room temps post = absurd fit
  params_follow (p ∷ ps) [] vs env scope entry k v w q i pc lo b typed has fit from to room temps post = absurd fit
  params_follow (p ∷ ps) (t ∷ ts) [] env scope entry k v w q i pc lo b typed has fit from to room temps post = absurd typed
  params_follow (None ∷ ps) (t ∷ ts) (x ∷ vs) env scope entry k v w q i pc lo b typed has fit from to room temps post =
      given m (λ s g. (g.0, passing_rest m v w calls (leaves t) (all_leaves ts) (contents x) (contents_of vs) i (width t) s (count_of t x typed.0 ∙ sym (leaves_length t)) (sym (leaves_length t)) g.1))
      (params_follow ps ts vs env scope entry k v w q (i + width t) pc lo b typed.1 has fit from to (omega arith) temps post)
  params_follow (Some site ∷ ps) (t ∷ ts) (x ∷ vs) env scope entry k v w q i pc lo b typed has fit from to room temps post =
      let here = fit.0 in
      param_follows site i pc lo b t x (all_leaves ts) (contents_of vs) env scope entry (λ env1. Meaning.bear_params around entry ps vs env1 k) v w (params_code (slots_of m.program m.placement c.func) (each_width ts) ps (i + width t)) typed.0 fit.2 (omega arith) (omega arith) fit.1 (omega arith) (omega arith) has
      (λ v1 pc1 at stands.
      params_follow ps ts vs (with_home env site (length w.store)) (site ∷ scope) entry k v1 _ (suc q) (i + width t) pc1 lo b typed.1 stands fit.3 (omega arith) (omega arith) (omega arith) (omega arith)
      (λ env1 w1 v2. place_is m (let e : pc + (param_size (m.placement.on_heap site) + params_size m.placement ps) ≡ pc1 + params_size m.placement ps = omega (arith, at) in e) (post env1 w1 v2)))
