-- The machine follows a return.
use Rattle.std.proofs.Common.{◌≡◌, ◌⊎◌, inl, inr, ℕ, zero, suc, ◌+◌, ◌-◌, ◌<◌, ◌≤◌, List, [], ◌∷◌, ◌++◌, length, map, Some, refl, sym, ap, ◌∙◌, subst, arith, append_assoc, append-nil, length-append, get_or}
use Rattle.std.specs.Prelude.{slice_get}
use Rattle.typed_syntax.specs.Types.{TypeTree, ints, width}
use Rattle.typed_syntax.specs.Value.{Value}
use Rattle.typed_syntax.specs.Words.{Content, contents}
use Rattle.typed_syntax.specs.Syntax.{Func, local, here as itself, argument_words, result_words, site_type, all_width}
use Rattle.typed_syntax.specs.Form.{AreOf, InScope}
use Rattle.frames.specs.Frames.{frame_of, widest, temps_of}
use Rattle.value_laws.proofs.Parts.{count_of}
use Rattle.meaning.specs.Trace.{Exit, Return as Returned, World, Note, End}
use Rattle.meaning.specs.Store.{value_of, written}
use Rattle.meaning.specs.Meaning
use Rattle.meaning.specs.Meaning.{Env, Go, Then}
use Rattle.isa.specs.declared.instr.Direction.TheVariants.{FromSlots}
use Rattle.isa.specs.declared.instr.Instr.TheVariants.{Return, Incoming}
use Rattle.machine.specs.Machine.{words_at, owner_of}
use Rattle.program_code.specs.Code.{temp, slots_of, site_access, fetch, result_code, named_write_code, named_read_code, named_read_size, values_code, leave_code}
use Rattle.program_code.proofs.Sizes.{length_named_write, length_named_read}
use Rattle.state_relation.specs.Leaves.{leaves, all_leaves}
use Rattle.state_relation.specs.Views.{View}
use Rattle.state_relation.specs.Relation.{Memory, puts, part_place, Kept, Frame, hold, during, depth, Stand, StandsFor, contents_of, nothing}
use Rattle.state_relation.proofs.Distances.{put_other}
use Rattle.state_relation.proofs.Leaves.{leaves_length, all_leaves_length}
use Rattle.state_relation.proofs.Relation.{same_later}
use Rattle.state_relation.proofs.Changes.{home_value}
use Rattle.state_relation.proofs.Built.{Built}
use Rattle.state_relation.proofs.Rules.{At, Stands, knowing, later, place_is, given, turned, seen, read_of, written_to, stepped, frame_here, results_by}
use Rattle.state_relation.proofs.Values.{kept, all_kept, all_kept_first, one_more, values_stand, fewer}
use Rattle.state_relation.proofs.Calls.{Passing, Linked, passing_put_above, good_above, first_returns, returned}
use Rattle.simulated_code.proofs.Standing.{Standing, front, back}
use Rattle.simulated_code.proofs.Places.{site_home}
use Rattle.simulated_code.proofs.Reached.{opened, place_typed, part_fetched, landed}
use Rattle.simulated_code.proofs.Temps.{last_stand}
use Rattle.simulated_code.proofs.Moves.{Passed, room_of, passing_joined, passing_kept}

-- no values of no types
no_types : (ts : List TypeTree) → length ts ≡ 0 → AreOf ts []
no_types [] e = tt
no_types (t ∷ ts) e = absurd (omega arith)

module _ (m : Built) where
  -- what goes on after a return to these calls, with the results in the outgoing area
  abbrev pub Home : (lo b : ℕ) → Func → List Frame → Then (List Value) → Type 0
  Home lo b func [] k = (rs : List Value) (w : World) → k rs w ≡ End (Exit 0)
  Home lo b func (up ∷ calls) k = (rs : List Value) (w : World) (v : View) → AreOf func.results rs → At m lo 0 b v (k rs w) (Passed m v w (up ∷ calls) func.results rs (argument_words func)) up.place

  -- a running call, and its results in the outgoing area of the one above it
  abbrev pub Leaving : View → World → Frame → List Frame → List Value → Memory → Type 0
  Leaving v w c calls rs s = Stands m v w (c ∷ calls) s × Passing m v w calls (all_leaves c.func.results) (contents_of rs) (argument_words c.func) s

  -- the results are there: the return
  goes_home : (c : Frame) (calls : List Frame) (k : Then (List Value)) (v : View) (w : World) (rs : List Value) (pc lo b : ℕ) → slice_get m.code.instrs pc ≡ Some Return → owner_of m.code pc ≡ c.fn → Linked m c.fn calls → argument_words c.func + result_words c.func ≤ room_of m calls
      → Home lo b c.func calls k → AreOf c.func.results rs → At m (suc lo) 1 b v (Note Returned (k rs w)) (Leaving v w c calls rs) pc
  goes_home c [] k v w rs pc lo b here own from room home typed =
      subst (λ t. At m (suc lo) 1 b v (Note Returned t) (Leaving v w c [] rs) pc) (sym (home rs w)) (first_returns m c v w pc lo b (Leaving v w c [] rs) (λ s g. g.0) here own)
  goes_home c (up ∷ calls) k v w rs pc lo b here own from room home typed =
      returned m c up calls v w (all_leaves c.func.results) (contents_of rs) (argument_words c.func) pc lo b (k rs w) here own from (omega (arith, all_leaves_length c.func.results)) (home rs w _ typed)

  leave_end : (c : Frame) (calls : List Frame) (k : Then (List Value)) (v : View) (w : World) (rs : List Value) (n pc lo b : ℕ) → slice_get m.code.instrs pc ≡ Some Return → owner_of m.code pc ≡ c.fn → Linked m c.fn calls → argument_words c.func + result_words c.func ≤ room_of m calls
      → Home lo b c.func calls k → AreOf c.func.results rs → At m lo 0 b v (Meaning.leave_with n k rs w) (Leaving v w c calls rs) pc
  leave_end c calls k v w rs n pc lo b here own from room home typed = turned m {lo1 = suc lo} (omega arith) (seen m _ (goes_home c calls k v w rs pc lo b here own from room home typed))

  -- words are set in the outgoing area of the call above, if there is one
  set_above : (calls : List Frame) (c : Frame) (v : View) (w : World) (s : Memory) (ls : List TypeTree) (cs : List Content) (a : ℕ) (xs : List ℕ) → 0 < length ls → a + length ls ≤ room_of m calls → Stand m.program m.leading v.homes s.hi w ls cs xs → Stands m v w (c ∷ calls) s
      → Stands m v w (c ∷ calls) (puts s (frame_of m.program m.placement c.func + a) xs) × Passing m v w calls ls cs a (puts s (frame_of m.program m.placement c.func + a) xs) × (frame_of m.program m.placement c.func + a + length ls ≤ length s.words)
  set_above [] c v w s ls cs a xs some room st g = absurd (omega arith)
  set_above (up ∷ rest) c v w s ls cs a xs some room st g = let long = st.long in (
    good_above m v w c up rest s a xs (omega arith) g,
    passing_put_above m v w c up rest s ls cs a xs room st g,
    let u = g.sized.used in omega arith,
  )

  -- results without names
  unnamed : (c : Frame) (calls : List Frame) (k : Then (List Value)) (v : View) (w : World) (rs : List Value) (ks : List Kept) (count n h pc lo b : ℕ) → length c.held ≡ h → Standing m.code c.fn pc (result_code count (temp (slots_of m.program m.placement c.func) h) (argument_words c.func) ++ Return ∷ []) → Linked m c.fn calls
      → argument_words c.func + result_words c.func ≤ room_of m calls → Home lo b c.func calls k → count ≡ result_words c.func → (0 < count → ks ≡ all_kept c.func.results rs) → AreOf c.func.results rs → At m lo 0 b v (Meaning.leave_with n k rs w) (Stands m v w (hold c (c.held ++ ks) ∷ calls)) pc
  unnamed c calls k v w rs ks zero n h pc lo b hh has from room home many same typed =
      given m (λ s g. (g, λ j l. absurd (omega (arith, all_leaves_length c.func.results, many)))) (leave_end (hold c (c.held ++ ks)) calls k v w rs n pc lo b has.0.0 has.0.1 from room home typed)
  unnamed c calls k v w rs ks (suc i) n h pc lo b hh has from room home many same typed =
      let fr = frame_of m.program m.placement c.func in let a = argument_words c.func in let t = temp (slots_of m.program m.placement c.func) h in let ls = all_leaves c.func.results in
      let long : length ls ≡ suc i = omega (arith, all_leaves_length c.func.results, many) in
      let held = λ (s : Memory) (g : Stands m v w (hold c (c.held ++ ks) ∷ calls) s). values_stand m v w c calls s c.held c.func.results rs h (suc i) hh many (subst (λ l. Stands m v w (hold c (c.held ++ l) ∷ calls) s) (same (omega arith)) g) in
      let put = λ (s : Memory) (g : Stands m v w (hold c (c.held ++ ks) ∷ calls) s). set_above calls (hold c (c.held ++ ks)) v w s ls (contents_of rs) a (words_at s.words t (suc i)) (omega arith) (omega (arith, long)) (held s g) g in
      turned m {lo1 = suc (suc lo)} (omega arith) (seen m _
      (stepped m {lo = suc lo} {hi = 1} {G1 = Leaving v w (hold c (c.held ++ ks)) calls rs} (Incoming FromSlots t a (suc i)) (λ s. puts s (fr + a) (words_at s.words t (suc i))) has.0.0
      (λ s g. (results_by m t a (suc i) fr pc s (frame_here m c.fn pc c.func g.homed.owned.0.named has.0.1) (let r = (put s g).2 in omega arith), refl, ((put s g).0, (put s g).1)))
      (goes_home (hold c (c.held ++ ks)) calls k v w rs (pc + 1) lo b has.1.0.0 has.1.0.1 from room home typed)))

  -- results with names: they are written
  named_writes : (sites : List ℕ) (vs : List Value) (gone all : List Kept) (c : Frame) (env : Env) (scope : List ℕ) (calls : List Frame) (g : Go) (v : View) (w : World) (h pc lo b : ℕ) → AreOf (map (site_type m.program) sites) vs → length gone ≡ h → all ≡ gone ++ all_kept (map (site_type m.program) sites) vs
      → Standing m.code c.fn pc (named_write_code (slots_of m.program m.placement c.func) sites h) → ((u : ℕ) → InScope u sites → InScope u scope)
      → ((w1 : World) → At m lo 0 b v (g w1) (Stands m v w1 (during c env scope all ∷ calls)) (pc + length sites)) → At m lo 0 b v (Meaning.write_results sites vs env g w) (Stands m v w (during c env scope all ∷ calls)) pc
  named_writes [] vs gone all c env scope calls g v w h pc lo b typed hg e has sub post = place_is m (let q : pc + 0 ≡ pc = omega arith in q) (post w)
  named_writes (site ∷ sites) [] gone all c env scope calls g v w h pc lo b typed hg e has sub post = absurd typed
  named_writes (site ∷ sites) (x ∷ vs) gone all c env scope calls g v w h pc lo b typed hg e has sub post =
      let s = slots_of m.program m.placement c.func in let t = site_type m.program site in let n = width t in let more = all_kept (map (site_type m.program) sites) vs in
      let solid = m.solid site in let c0 = during c env scope all in
      let split : all ≡ gone ++ (kept t x ++ more) = e ∙ ap (λ l. gone ++ l) (all_kept_first t (map (site_type m.program) sites) x vs typed.0) in
      turned m {lo1 = suc lo} (omega arith) (written_to m _ _ _
      (landed m (local site itself) t [] [] x c0 calls gone more v w 0 0 h pc lo 0 b _ has.0.0 (sub site (inl refl), refl, solid) (refl, λ i. refl) (record { led = tt; there = λ i f. absurd (omega (arith, f)) }) split hg typed.0
      (named_writes sites vs (gone ++ kept t x) all c env scope calls g v (written w (env site) [] x) (h + n) (pc + 1) lo b typed.1 (one_more gone t x h n hg refl) (split ∙ sym (append_assoc gone (kept t x) more)) has.1 (λ u i. sub u (inr i))
      (λ w1. place_is m (let q : pc + suc (length sites) ≡ pc + 1 + length sites = omega arith in q) (post w1)))))

  -- and read
  named_reads : (sites : List ℕ) (ls : List TypeTree) (cs : List Content) (c : Frame) (env : Env) (scope : List ℕ) (calls : List Frame) (k : Then (List Value)) (v : View) (w : World) (i pc lo b : ℕ) → i ≡ argument_words c.func + length ls → length cs ≡ length ls → i + all_width (map (site_type m.program) sites) ≤ room_of m calls → widest m.program sites ≤ temps_of m.program m.placement c.func
      → Standing m.code c.fn pc (named_read_code (slots_of m.program m.placement c.func) sites i) → ((u : ℕ) → InScope u sites → InScope u scope)
      → ((rs : List Value) → AreOf (map (site_type m.program) sites) rs → At m lo 0 b v (k rs w) (λ s. Stands m v w (during c env scope [] ∷ calls) s × Passing m v w calls (ls ++ all_leaves (map (site_type m.program) sites)) (cs ++ contents_of rs) (argument_words c.func) s) (pc + named_read_size sites))
      → At m lo 0 b v (Meaning.read_results sites env k w) (λ s. Stands m v w (during c env scope [] ∷ calls) s × Passing m v w calls ls cs (argument_words c.func) s) pc
  named_reads [] ls cs c env scope calls k v w i pc lo b ei el room some has sub post =
      given m (λ s g. (g.0, subst (λ l. Passing m v w calls l (cs ++ []) (argument_words c.func) s) (sym (append-nil ls)) (subst (λ l. Passing m v w calls ls l (argument_words c.func) s) (sym (append-nil cs)) g.1)))
      (place_is m (let q : pc + 0 ≡ pc = omega arith in q) (post [] tt))
  named_reads (site ∷ sites) ls cs c env scope calls k v w i pc lo b ei el room some has sub post =
      let s = slots_of m.program m.placement c.func in let fr = frame_of m.program m.placement c.func in let a = argument_words c.func in
      let x = value_of w (env site) in let t = site_type m.program site in let n = width t in let solid = m.solid site in
      let c0 = during c env scope [] in let c1 = during c env scope (kept t x) in let scoped = sub site (inl refl) in
      let rest = all_leaves (map (site_type m.program) sites) in
      let long = leaves_length t in
      let stands = λ (u : Memory) (g : Stands m v w (c1 ∷ calls) u). last_stand m v w c0 calls u [] t x 0 n refl refl g in
      let put = λ (u : Memory) (g : Stands m v w (c1 ∷ calls) u). set_above calls c1 v w u (leaves t) (contents x) i (words_at u.words (temp s 0) n) (omega (arith, long)) (omega (arith, long)) (stands u g) g in
      knowing m (λ u0 g0.
      let home = site_home m c0 calls v w u0 site scoped g0.0 in let typed = place_typed m (env site) t v w c0 calls u0 g0.0 home in
      let count : length (contents x) ≡ length (leaves t) = count_of t x typed ∙ sym long in
      turned m {lo1 = suc (suc lo)} (omega arith) (read_of m _ _ _
      (stepped m {lo = suc lo} {hi = 1} {G1 = λ u. Stands m v w (c1 ∷ calls) u × Passing m v w calls ls cs a u} (fetch (site_access s site) 0 n (temp s 0)) (λ u. puts u (temp s 0) (part_place u home.place 0 n)) has.0.0
      (λ u g.
      let opens = opened m (local site itself) t [] [] c0 calls v w u 0 0 (scoped, refl, solid) (refl, λ z. refl) (record { led = tt; there = λ z f. absurd (omega (arith, f)) }) g.0 in
      let fetches = part_fetched m t (env site) [] c0 calls [] [] v w u 0 pc (site_access s site) 0 t home refl refl (omega arith) g.0 opens in
      let many = (home_value m.program m.placement m.max m.leading v w (c0 ∷ calls) u (env site) home.cell home.place [] t home.there home.home home.kind g.0).long in let used = g.0.sized.used in (
        fetches.0,
        fetches.1,
        (
          fetches.2,
          passing_kept m v v w w calls ls cs a u (puts u (temp s 0) (part_place u home.place 0 n)) (same_later v.homes w) refl
              (λ d le. put_other u.words (temp s 0) (part_place u home.place 0 n) d (omega (arith, many, long)) (inr (omega (arith, many, long)))) g.1,
        ),
      ))
      (stepped m {lo = lo} {hi = 0} {G1 = λ u. Stands m v w (c0 ∷ calls) u × Passing m v w calls (ls ++ leaves t) (cs ++ contents x) a u} (Incoming FromSlots (temp s 0) i n) (λ u. puts u (fr + i) (words_at u.words (temp s 0) n)) has.1.0.0
      (λ u g. (
        results_by m (temp s 0) i n fr (pc + 1) u (frame_here m c.fn (pc + 1) c.func g.0.homed.owned.0.named has.1.0.1) (let r = (put u g.0).2 in omega (arith, r, long)),
        refl,
        (
          fewer m v w c0 calls (puts u (fr + i) (words_at u.words (temp s 0) n)) [] (kept t x) (put u g.0).0,
          passing_joined m v w calls ls (leaves t) cs (contents x) a (puts u (fr + i) (words_at u.words (temp s 0) n)) el
              (passing_above_kept calls c1 v w u ls cs a i (words_at u.words (temp s 0) n) ei (omega (arith, long, (stands u g.0).long)) g.0 g.1)
              (subst (λ j. Passing m v w calls (leaves t) (contents x) j (puts u (fr + i) (words_at u.words (temp s 0) n))) ei (put u g.0).1),
        ),
      ))
      (named_reads sites (ls ++ leaves t) (cs ++ contents x) c env scope calls _ v w (i + n) (pc + 1 + 1) lo b (omega (arith, ei, length-append ls (leaves t), long)) (omega (arith, el, length-append ls (leaves t), length-append cs (contents x), count)) (omega arith) (omega arith) has.1.1 (λ u z. sub u (inr z))
      (λ rs of_types.
      place_is m (let q : pc + suc (suc (named_read_size sites)) ≡ pc + 1 + 1 + named_read_size sites = omega arith in q)
      (given m (λ u g. (g.0, subst (λ l. Passing m v w calls l (cs ++ (contents x ++ contents_of rs)) a u) (append_assoc ls (leaves t) rest) (subst (λ l. Passing m v w calls ((ls ++ leaves t) ++ rest) l a u) (append_assoc cs (contents x) (contents_of rs)) g.1)))
      (post (x ∷ rs) (typed, of_types)))))))))
    where
      -- what was passed before stays when more is passed after it
      passing_above_kept : (ps : List Frame) (c1 : Frame) (v : View) (w : World) (u : Memory) (ls : List TypeTree) (cs : List Content) (a i : ℕ) (xs : List ℕ) → i ≡ a + length ls → i + length xs ≤ room_of m ps → Stands m v w (c1 ∷ ps) u → Passing m v w ps ls cs a u → Passing m v w ps ls cs a (puts u (frame_of m.program m.placement c1.func + i) xs)
      passing_above_kept [] c1 v w u ls cs a i xs ei room g pass j l = absurd (omega arith)
      passing_above_kept (up ∷ rest) c1 v w u ls cs a i xs ei room g pass j l =
          let used = g.sized.used in
          subst (λ z. StandsFor m.program m.leading v.homes u.hi w (get_or ls j ints) (get_or cs j nothing) z)
          (sym (put_other u.words (frame_of m.program m.placement c1.func + i) xs (depth m.program m.placement (up ∷ rest) - (a + j)) (omega arith) (inl (omega arith)))) (pass j l)

  -- a return with a value for each result, or with none where they have names
  abbrev pub Given : Func → ℕ → List Value → List Kept → Type 0
  Given func count vs ks = ((count ≡ result_words func) × AreOf func.results vs × (ks ≡ all_kept func.results vs)) ⊎ ((count ≡ 0) × (vs ≡ []) × (length func.named ≡ length func.results))

  -- what a return does
  abbrev pub Returns : (lo b : ℕ) → Frame → List Frame → (List Value → Env → Go) → Type 0
  Returns lo b c calls r =
      (vs : List Value) (ks : List Kept) (count : ℕ) (env : Env) (scope : List ℕ) (held : List Kept) (v : View) (w : World) (h pc : ℕ) → length held ≡ h → Standing m.code c.fn pc (values_code (slots_of m.program m.placement c.func) (argument_words c.func) count c.func.named h ++ leave_code (slots_of m.program m.placement c.func) (argument_words c.func) c.func.named)
      → Given c.func count vs ks → widest m.program c.func.named ≤ temps_of m.program m.placement c.func → ((u : ℕ) → InScope u c.func.named → InScope u scope) → At m lo 0 b v (r vs env w) (Stands m v w (during c env scope (held ++ ks) ∷ calls)) pc

  pub returns_later : (lo lo1 b b1 : ℕ) (c : Frame) (calls : List Frame) (r : List Value → Env → Go) → lo ≤ lo1 → b1 ≤ b → Returns lo b c calls r → Returns lo1 b1 c calls r
  returns_later lo lo1 b b1 c calls r p q ret vs ks count env scope held v w h pc hh has gives room sub = later m {lo = lo} {hi = 0} {b = b} p (omega arith) q (ret vs ks count env scope held v w h pc hh has gives room sub)

  -- by the names of the results
  module _ (c : Frame) (calls : List Frame) (k : Then (List Value)) (n lo b : ℕ) (from : Linked m c.fn calls) (room : argument_words c.func + result_words c.func ≤ room_of m calls) (home : Home lo b c.func calls k) where
    -- results that have been written are read, and the call returns
    reads_all : (sites : List ℕ) (env : Env) (scope : List ℕ) (v : View) (w : World) (pc : ℕ) → map (site_type m.program) sites ≡ c.func.results → widest m.program sites ≤ temps_of m.program m.placement c.func → Standing m.code c.fn pc (leave_code (slots_of m.program m.placement c.func) (argument_words c.func) sites) → ((u : ℕ) → InScope u sites → InScope u scope)
        → At m lo 0 b v (Meaning.read_results sites env (Meaning.leave_with n k) w) (Stands m v w (during c env scope [] ∷ calls)) pc
    reads_all sites env scope v w pc names some has sub =
        let s = slots_of m.program m.placement c.func in let a = argument_words c.func in
        let reads = named_read_code s sites a in
        let all : all_width (map (site_type m.program) sites) ≡ result_words c.func = ap all_width names in
        let has_r = back m.code c.fn pc (named_read_size sites) reads (Return ∷ []) (length_named_read s sites a) has in
        given m (λ u g. (g, λ j l. absurd (omega arith)))
        (named_reads sites [] [] c env scope calls (Meaning.leave_with n k) v w a pc lo b (omega arith) refl (omega (arith, all)) some (front m.code c.fn pc reads (Return ∷ []) has) sub (λ rs typed.
        subst (λ ts. At m lo 0 b v (Meaning.leave_with n k rs w) (λ u. Stands m v w (during c env scope [] ∷ calls) u × Passing m v w calls (all_leaves ts) (contents_of rs) a u) (pc + named_read_size sites)) (sym names)
        (leave_end (during c env scope []) calls k v w rs n (pc + named_read_size sites) lo b has_r.0.0 has_r.0.1 from room home (subst (λ ts. AreOf ts rs) names typed))))

    leaves_by : (sites : List ℕ) (vs : List Value) (ks : List Kept) (count : ℕ) (env : Env) (scope : List ℕ) (held : List Kept) (v : View) (w : World) (h pc : ℕ) → (sites ≡ []) ⊎ (map (site_type m.program) sites ≡ c.func.results) → length held ≡ h
        → Standing m.code c.fn pc (values_code (slots_of m.program m.placement c.func) (argument_words c.func) count sites h ++ leave_code (slots_of m.program m.placement c.func) (argument_words c.func) sites)
        → ((count ≡ result_words c.func) × AreOf c.func.results vs × (ks ≡ all_kept c.func.results vs)) ⊎ ((count ≡ 0) × (vs ≡ []) × (length sites ≡ length c.func.results)) → widest m.program sites ≤ temps_of m.program m.placement c.func → ((u : ℕ) → InScope u sites → InScope u scope)
        → At m lo 0 b v (Meaning.leave sites n k vs env w) (Stands m v w (during c env scope (held ++ ks) ∷ calls)) pc
    leaves_by [] vs ks count env scope held v w h pc names hh has gives some sub = elim gives [
      | inl e ↦ unnamed (during c env scope held) calls k v w vs ks count n h pc lo b hh has from room home e.0 (λ z. e.2) e.1
      | inr e ↦ (
          let none = no_types c.func.results (sym e.2) in
          unnamed (during c env scope held) calls k v w vs ks count n h pc lo b hh has from room home (e.0 ∙ sym (no_width c.func.results (sym e.2))) (λ z. absurd (let q = e.0 in omega arith)) (subst (λ l. AreOf c.func.results l) (sym e.1) none)
          )
    ]
      where
        no_width : (ts : List TypeTree) → length ts ≡ 0 → all_width ts ≡ 0
        no_width [] e = refl
        no_width (t ∷ ts) e = absurd (omega arith)
    leaves_by (site ∷ sites) [] ks zero env scope held v w h pc names hh has gives some sub =
        given m (λ u g. fewer m v w (during c env scope []) calls u [] (held ++ ks) g) (reads_all (site ∷ sites) env scope v w pc (elim names [ inl e ↦ absurd cc e | inr e ↦ e ]) some has sub)
    leaves_by (site ∷ sites) (x ∷ vs) ks zero env scope held v w h pc names hh has gives some sub =
        let all : map (site_type m.program) (site ∷ sites) ≡ c.func.results = elim names [ inl e ↦ absurd cc e | inr e ↦ e ] in
        let wide = ap all_width all in let solid = m.solid site in
        elim gives [ inl e ↦ (let none = e.0 in absurd (omega arith)) | inr e ↦ absurd cc (e.1) ]
    leaves_by (site ∷ sites) [] ks (suc i) env scope held v w h pc names hh has gives some sub =
        let all : map (site_type m.program) (site ∷ sites) ≡ c.func.results = elim names [ inl e ↦ absurd cc e | inr e ↦ e ] in
        elim gives [ inl e ↦ absurd (no_first (subst (λ ts. AreOf ts []) (sym all) e.1)) | inr e ↦ absurd (let q = e.0 in omega arith) ]
      where
        no_first : AreOf (map (site_type m.program) (site ∷ sites)) [] → ⊥
        no_first f = f
    leaves_by (site ∷ sites) (x ∷ vs) ks (suc i) env scope held v w h pc names hh has gives some sub =
        let s = slots_of m.program m.placement c.func in let a = argument_words c.func in
        let all : map (site_type m.program) (site ∷ sites) ≡ c.func.results = elim names [ inl e ↦ absurd cc e | inr e ↦ e ] in
        let typed : AreOf c.func.results (x ∷ vs) = elim gives [ inl e ↦ e.1 | inr e ↦ absurd cc (e.1) ] in
        let same : ks ≡ all_kept c.func.results (x ∷ vs) = elim gives [ inl e ↦ e.2 | inr e ↦ absurd cc (e.1) ] in
        let writes = named_write_code s (site ∷ sites) h in
        let has_l = back m.code c.fn pc (length (site ∷ sites)) writes (leave_code s a (site ∷ sites)) (length_named_write s (site ∷ sites) h) has in
        named_writes (site ∷ sites) (x ∷ vs) held (held ++ ks) c env scope calls _ v w h pc lo b (subst (λ ts. AreOf ts (x ∷ vs)) (sym all) typed) hh (ap (λ l. held ++ l) (same ∙ ap (λ ts. all_kept ts (x ∷ vs)) (sym all))) (front m.code c.fn pc writes (leave_code s a (site ∷ sites)) has) sub (λ w1.
        given m (λ u g. fewer m v w1 (during c env scope []) calls u [] (held ++ ks) g) (reads_all (site ∷ sites) env scope v w1 (pc + length (site ∷ sites)) all some has_l sub))

    pub home_returns : (c.func.named ≡ []) ⊎ (map (site_type m.program) c.func.named ≡ c.func.results) → Returns lo b c calls (Meaning.leave c.func.named n k)
    home_returns names vs ks count env scope held v w h pc hh has gives some sub = leaves_by c.func.named vs ks count env scope held v w h pc names hh has gives some sub
