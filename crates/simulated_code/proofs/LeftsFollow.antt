-- The machine follows the writing of left sides, whose operands are held, and new variables.
use Rattle.std.proofs.Common.{◌≡◌, ◌⊎◌, inl, inr, ℕ, suc, ◌+◌, ◌<◌, ◌≤◌, List, [], ◌∷◌, ◌++◌, length, refl, sym, ap, ◌∙◌, subst, arith, append_assoc, append-nil, length-append}
use Rattle.std.specs.Prelude.{slice_get}
use Rattle.typed_syntax.specs.Positions.{Position}
use Rattle.typed_syntax.specs.Value.{Value, IsOf}
use Rattle.typed_syntax.specs.Syntax.{Pl, Steps, here as itself, inner, at_index, Left, Program, Ex, blank, new, to, local, global, indirect, slice_element, site_type, each_width}
use Rattle.typed_syntax.specs.Form.{AreOf, InScope, sites_after, lefts_after, AllInScope, PlFits, LeftsFit, SitesNext, NamedFit, scope_behind, scope_with}
use Rattle.frames.specs.Frames.{far, lefts_far, widest, temps_of}
use Rattle.meaning.specs.Trace.{World}
use Rattle.meaning.specs.Store.{value_of, written, born}
use Rattle.meaning.specs.Meaning
use Rattle.meaning.specs.Meaning.{Env, Go, Ways, Setting, Landing, nowhere, birth, on, with_home}
use Rattle.machine.specs.Machine.{words_at}
use Rattle.program_code.specs.Code.{temp, slots_of, steps_above, place_above, near_offset, near_words, address_code, address_size, land_code, lefts_code, lefts_size, zeros_code, renew_code, renew_size}
use Rattle.program_code.proofs.Sizes.{length_address, length_write}
use Rattle.typed_syntax.specs.Types.{TypeTree, ints, pointer_to, width, slice_of}
use Rattle.typed_syntax.specs.Words.{contents}
use Rattle.state_relation.specs.Leaves.{leaves}
use Rattle.state_relation.specs.Views.{View}
use Rattle.state_relation.specs.Relation.{Memory, Kept, Frame, hold, during, Stand}
use Rattle.state_relation.proofs.Changes.{home_other, narrowed}
use Rattle.state_relation.proofs.Built.{Built}
use Rattle.state_relation.proofs.Rules.{At, Stands, knowing, later, place_is, given, turned, seen, read_of, written_to}
use Rattle.state_relation.proofs.Values.{kept, all_kept, all_kept_first, all_kept_joined, one_more, more_kept, fewer, held_none, held_stand}
use Rattle.simulated_code.proofs.Scopes.{lefts_from}
use Rattle.simulated_code.proofs.Standing.{Standing, front, back, Panics}
use Rattle.simulated_code.proofs.Places.{variable_of, root_of, Operands, PlaceOperands, aimed, index_types, operand_types, place_operands_are, pointer_held, Located, located, place_held}
use Rattle.simulated_code.proofs.Settled.{settled_follow}
use Rattle.simulated_code.proofs.Reached.{Guided, fetched, landed}
use Rattle.simulated_code.proofs.Temps.{held_there, last_stand}
use Rattle.simulated_code.proofs.Births.{births_zero, births_filled, cell_kind, zero_value}

-- values for the operands of each left side that is a place
abbrev pub Gives : List Left → List (List Value) → Type 0
Gives [] [] = Unit {0}
Gives [] (us ∷ uss) = ⊥
Gives (blank ∷ ls) uss = Gives ls uss
Gives (new site ∷ ls) uss = Gives ls uss
Gives (to q ∷ ls) [] = ⊥
Gives (to q ∷ ls) (us ∷ uss) = PlaceOperands q us × Gives ls uss

-- one after the other
abbrev pub together : List (List Value) → List Value
together [] = []
together (us ∷ uss) = us ++ together uss

-- their types
abbrev pub left_types : List Left → List TypeTree
left_types [] = []
left_types (blank ∷ ls) = left_types ls
left_types (new site ∷ ls) = left_types ls
left_types (to q ∷ ls) = operand_types q ++ left_types ls

-- where left sides lead
abbrev pub landings : Env → List Left → List (List Value) → List Landing
landings env [] uss = []
landings env (blank ∷ ls) uss = nowhere ∷ landings env ls uss
landings env (new site ∷ ls) uss = birth site ∷ landings env ls uss
landings env (to q ∷ ls) [] = []
landings env (to q ∷ ls) (us ∷ uss) = on (aimed env q us) ∷ landings env ls uss

abbrev pub first_landing : List Landing → Landing
first_landing [] = nowhere
first_landing (l ∷ ls) = l

pub land_one : (around : Setting) (l : Left) (uss : List (List Value)) (first env : Env) (v : Value) (ws : Ways) (k : Env → Go) (w : World) → Gives (l ∷ []) uss → Meaning.land around (first_landing (landings first (l ∷ []) uss)) v ws env k w ≡ Meaning.land_all around (landings first (l ∷ []) uss) (v ∷ []) ws env k w
land_one around blank uss first env v ws k w given = refl
land_one around (new site) uss first env v ws k w given = refl
land_one around (to q) [] first env v ws k w given = absurd given
land_one around (to q) (us ∷ uss) first env v ws k w given = refl

-- the sites of results with names are next
pub named_next : (p : Program) (n limit : ℕ) (sites : List ℕ) → NamedFit p n sites → n + length sites ≤ limit → SitesNext p n limit sites
named_next p n limit [] fit le = tt
named_next p n limit (site ∷ sites) fit le =
    let here = fit.0 in ((omega arith, omega arith, fit.1), subst (λ k. SitesNext p (suc k) limit sites) (sym here) (named_next p (suc n) limit sites fit.2 (omega arith)))

-- and the number that may come after them is the next one
pub named_after : (p : Program) (n : ℕ) (sites : List ℕ) → NamedFit p n sites → sites_after n sites ≡ n + length sites
named_after p n [] fit = omega arith
named_after p n (site ∷ sites) fit = let here = ap (λ k. sites_after (suc k) sites) fit.0 in let rest = named_after p (suc n) sites fit.2 in omega arith

-- operands lie below the temp above them
steps_operands : (steps : Steps) (us : List Value) (h : ℕ) (held : List Kept) → length held ≡ h → Operands steps us → length (held ++ all_kept (index_types steps) us) ≡ steps_above steps h
steps_operands itself [] h held hh ops = ap (λ l. length l) (append-nil held) ∙ hh
steps_operands itself (u ∷ us) h held hh ops = absurd ops
steps_operands (inner i steps) us h held hh ops = steps_operands steps us h held hh ops
steps_operands (at_index at e n steps) [] h held hh ops = absurd ops
steps_operands (at_index at e n steps) (u ∷ us) h held hh ops = ap (λ l. length l) (more_kept held ints (index_types steps) u us ops.0) ∙ steps_operands steps us (h + 1) (held ++ kept ints u) (one_more held ints u h 1 hh refl) ops.1

operands_above : (q : Pl) (us : List Value) (h : ℕ) (held : List Kept) → length held ≡ h → PlaceOperands q us → length (held ++ all_kept (operand_types q) us) ≡ place_above q h
operands_above (local site steps) us h held hh ops = steps_operands steps us h held hh ops
operands_above (global g steps) us h held hh ops = steps_operands steps us h held hh ops
operands_above (indirect at e n steps) [] h held hh ops = absurd ops
operands_above (indirect at e n steps) (u ∷ us) h held hh ops =
    let t = pointer_to n in ap (λ l. length l) (more_kept held t (index_types steps) u us ops.0) ∙ steps_operands steps us (h + 1) (held ++ kept t u) (one_more held t u h 1 hh refl) ops.1
operands_above (slice_element at e i n steps) [] h held hh ops = absurd ops
operands_above (slice_element at e i n steps) (u ∷ []) h held hh ops = absurd ops.1
operands_above (slice_element at e i n steps) (u ∷ j ∷ us) h held hh ops =
    let t = slice_of n in let first = held ++ kept t u in let wide = one_more held t u h 3 hh refl in
    ap (λ l. length l) (more_kept held t (ints ∷ index_types steps) u (j ∷ us) ops.0 ∙ more_kept first ints (index_types steps) j us ops.1.0)
    ∙ (let q : h + 3 + 1 ≡ h + 4 = omega arith in steps_operands steps us (h + 4) (first ++ kept ints j) (one_more first ints j (h + 3) 1 wide refl ∙ q) ops.1.1)

-- those of a place come before those of the left sides after it
pub first_operands : (q : Pl) (us : List Value) (ls : List Left) (uss : List (List Value)) → PlaceOperands q us → all_kept (left_types (to q ∷ ls)) (together (us ∷ uss)) ≡ all_kept (operand_types q) us ++ all_kept (left_types ls) (together uss)
first_operands q us ls uss ops = all_kept_joined (operand_types q) (left_types ls) us (together uss) (place_operands_are q us ops)

module _ (m : Built) (around : Setting) (sites_are : around.sites ≡ m.program.sites) where
  -- what holds of the sites in scope before the left sides: each comes before the new ones or after them all
  abbrev pub Keeping : List ℕ → (scope : List ℕ) → (first env : Env) → (n top : ℕ) → Type 0
  Keeping before scope first env n top = (v : ℕ) → InScope v before → InScope v scope × (env v ≡ first v) × ((v < n) ⊎ (top ≤ v))

  -- a place keeps its variable
  pointer_keeps : (env first : Env) (at : Position) (e : Ex) (n : ℕ) (steps : Steps) (us : List Value) → variable_of env (indirect at e n steps) us ≡ variable_of first (indirect at e n steps) us
  pointer_keeps env first at e n steps [] = refl
  pointer_keeps env first at e n steps (u ∷ us) = refl

  element_keeps : (env first : Env) (at : Position) (e i : Ex) (n : ℕ) (steps : Steps) (us : List Value) → variable_of env (slice_element at e i n steps) us ≡ variable_of first (slice_element at e i n steps) us
  element_keeps env first at e i n steps [] = refl
  element_keeps env first at e i n steps (u ∷ us) = refl

  kept_place : (before scope : List ℕ) (first env : Env) (n top : ℕ) (t : TypeTree) (p : Pl) → Keeping before scope first env n top → PlFits m.program before t p → Located m scope t p × ((us : List Value) → variable_of env p us ≡ variable_of first p us)
  kept_place before scope first env n top t (local site steps) keeping fit = let k = keeping site fit.0 in let l = located m before t (local site steps) fit in ((k.0, l.1, l.2), λ us. k.1)
  kept_place before scope first env n top t (global g steps) keeping fit = (located m before t (global g steps) fit, λ us. refl)
  kept_place before scope first env n top t (indirect at e number steps) keeping fit = (located m before t (indirect at e number steps) fit, pointer_keeps env first at e number steps)
  kept_place before scope first env n top t (slice_element at e i number steps) keeping fit = (located m before t (slice_element at e i number steps) fit, element_keeps env first at e i number steps)

  -- the first of the values that are left
  first_of : (t : TypeTree) (ts : List TypeTree) (x : Value) (vs : List Value) (gone tail all : List Kept) → IsOf t x → all ≡ gone ++ (all_kept (t ∷ ts) (x ∷ vs) ++ tail) → all ≡ gone ++ (kept t x ++ (all_kept ts vs ++ tail))
  first_of t ts x vs gone tail all is e = e ∙ ap (λ l. gone ++ (l ++ tail)) (all_kept_first t ts x vs is) ∙ ap (λ l. gone ++ l) (append_assoc (kept t x) (all_kept ts vs) tail)

  next_held : (t : TypeTree) (ts : List TypeTree) (x : Value) (vs : List Value) (gone tail all : List Kept) → IsOf t x → all ≡ gone ++ (all_kept (t ∷ ts) (x ∷ vs) ++ tail) → all ≡ (gone ++ kept t x) ++ (all_kept ts vs ++ tail)
  next_held t ts x vs gone tail all is e = first_of t ts x vs gone tail all is e ∙ sym (append_assoc gone (kept t x) (all_kept ts vs ++ tail))

  all_first : (t : TypeTree) (ts : List TypeTree) (x : Value) (vs : List Value) (gone tail all : List Kept) (c : Frame) (calls : List Frame) (v : View) (w : World) (u : Memory) → c.held ≡ all → IsOf t x → all ≡ gone ++ (all_kept (t ∷ ts) (x ∷ vs) ++ tail) → Stands m v w (c ∷ calls) u
      → Stands m v w (hold c (gone ++ (kept t x ++ (all_kept ts vs ++ tail))) ∷ calls) u
  all_first t ts x vs gone tail all c calls v w u same is e g = subst (λ l. Stands m v w (hold c l ∷ calls) u) (same ∙ first_of t ts x vs gone tail all is e) g

  -- Operands are in temps from one on, and values in temps from another one on, with others before and after them. An address
  -- goes to temp `at`, which is free.
  pub lefts_follow : (ls : List Left) (ts : List TypeTree) (vs : List Value) (gone tail all : List Kept) (uss : List (List Value)) (ahead more : List Kept) (c : Frame) (first env : Env) (before scope : List ℕ) (calls : List Frame) (ws : Ways) (k : Env → Go) (v : View) (w : World) (n top at ho h pc lo b : ℕ) → Panics ws
      → AreOf ts vs → length gone ≡ h → all ≡ gone ++ (all_kept ts vs ++ tail) → Gives ls uss → length ahead ≡ ho → all ≡ ahead ++ (all_kept (left_types ls) (together uss) ++ more) → length all ≡ at
      → Standing m.code c.fn pc (lefts_code (slots_of m.program m.placement c.func) (each_width ts) ls ho at h) → LeftsFit m.program before n (c.func.first + c.func.count) ts ls → at + lefts_far ls ≤ temps_of m.program m.placement c.func → c.func.first ≤ n → lefts_after n ls ≤ top → Keeping before scope first env n top
      → ((env1 : Env) (w1 : World) (v1 : View) → At m lo 0 b v1 (k env1 w1) (Stands m v1 w1 (during c env1 (scope_behind scope ls) all ∷ calls)) (pc + lefts_size ls))
      → At m lo 0 b v (Meaning.land_all around (landings first ls uss) vs ws env k w) (Stands m v w (during c env scope all ∷ calls)) pc
  lefts_follow [] [] vs gone tail all uss ahead more c first env before scope calls ws k v w n top at ho h pc lo b stops are hg e gives hp eo ha has fit room from under keeping post = place_is m (let q : pc + 0 ≡ pc = omega arith in q) (post env w v)
  lefts_follow [] (t ∷ ts) vs gone tail all uss ahead more c first env before scope calls ws k v w n top at ho h pc lo b stops are hg e gives hp eo ha has fit room from under keeping post = absurd fit
  lefts_follow (l ∷ ls) [] [] gone tail all uss ahead more c first env before scope calls ws k v w n top at ho h pc lo b stops are hg e gives hp eo ha has fit room from under keeping post = absurd fit
  lefts_follow (l ∷ ls) [] (x ∷ vs) gone tail all uss ahead more c first env before scope calls ws k v w n top at ho h pc lo b stops are hg e gives hp eo ha has fit room from under keeping post = absurd are
  lefts_follow (l ∷ ls) (t ∷ ts) [] gone tail all uss ahead more c first env before scope calls ws k v w n top at ho h pc lo b stops are hg e gives hp eo ha has fit room from under keeping post = absurd are
  lefts_follow (blank ∷ ls) (t ∷ ts) (x ∷ vs) gone tail all uss ahead more c first env before scope calls ws k v w n top at ho h pc lo b stops are hg e gives hp eo ha has fit room from under keeping post =
      lefts_follow ls ts vs (gone ++ kept t x) tail all uss ahead more c first env before scope calls ws k v w n top at ho (h + width t) pc lo b stops are.1 (one_more gone t x h (width t) hg refl) (next_held t ts x vs gone tail all are.0 e) gives hp eo ha has fit (omega arith) from under keeping post
  lefts_follow (new site ∷ ls) (t ∷ ts) (x ∷ vs) gone tail all uss ahead more c first env before scope calls ws k v w n top at ho h pc lo b stops are hg e gives hp eo ha has fit room from under keeping post =
      let s = slots_of m.program m.placement c.func in let n1 = width (site_type m.program site) in let c0 = during c env scope all in
      let same : width (site_type m.program site) ≡ width t = ap width fit.1 in
      let cell = Meaning.new_cell ws.call site (Meaning.site_type around site) x in
      let here = fit.0.0 in let among = fit.0.1 in let later_sites = lefts_from m.program before (suc site) (c.func.first + c.func.count) ts ls fit.2 in let solid = m.solid site in
      let kind = cell_kind m around sites_are site in
      let typed : IsOf cell.type x = subst (λ y. IsOf y x) (sym (kind ∙ fit.1)) are.0 in
      let first_held = λ (u : Memory) (g : Stands m v w (c0 ∷ calls) u). all_first t ts x vs gone tail all c0 calls v w u refl are.0 e g in
      let keeping1 : Keeping before (site ∷ scope) first (with_home env site (length w.store)) (suc site) top =
      λ u i. (inr (keeping u i).0, home_other env site (length w.store) u (λ q. elim (keeping u i).2 [ inl l ↦ absurd (omega arith) | inr l ↦ absurd (omega arith) ]) ∙ (keeping u i).1, elim (keeping u i).2 [ inl l ↦ inl (omega arith) | inr l ↦ inr l ]) in
      let below = ap length (next_held t ts x vs gone tail all are.0 e) in let among_all = length-append (gone ++ kept t x) (all_kept ts vs ++ tail) in
      turned m {lo1 = suc (suc lo)} (omega arith)
      (births_filled m {lo = lo} {hi = 0} c0 calls v w site pc h cell has.0.0 has.1.0.0
      (omega (arith, same, below, among_all, one_more gone t x h (width t) hg refl)) (omega arith) (omega arith) fit.0.2 kind typed
      (λ u g. subst (λ o. Stand m.program m.leading v.homes u.hi w (leaves o) (contents x) (words_at u.words (temp s h) n1)) (sym (kind ∙ fit.1)) (held_stand m v w c0 calls u gone (all_kept ts vs ++ tail) t x h n1 hg same (first_held u g)))
      (λ v2.
      lefts_follow ls ts vs (gone ++ kept t x) tail all uss ahead more c first (with_home env site (length w.store)) before (site ∷ scope) calls ws k v2 (born w cell) (suc site) top at ho (h + width t) (pc + 1 + 1) lo b stops are.1 (one_more gone t x h (width t) hg refl) (next_held t ts x vs gone tail all are.0 e) gives hp eo ha has.1.1 fit.2 (omega arith) (omega arith) under keeping1
      (λ env1 w1 v1. place_is m (let q : pc + suc (suc (lefts_size ls)) ≡ pc + 1 + 1 + lefts_size ls = omega arith in q) (post env1 w1 v1))))
  lefts_follow (to p ∷ ls) (t ∷ ts) (x ∷ vs) gone tail all [] ahead more c first env before scope calls ws k v w n top at ho h pc lo b stops are hg e gives hp eo ha has fit room from under keeping post = absurd gives
  lefts_follow (to p ∷ ls) (t ∷ ts) (x ∷ vs) gone tail all (us ∷ uss) ahead more c first env before scope calls ws k v w n top at ho h pc lo b stops are hg e gives hp eo ha has fit room from under keeping post =
      let s = slots_of m.program m.placement c.func in let above = place_above p ho in let c0 = during c env scope all in
      let ca = address_code s p ho at in let land = land_code s p ho at h in let rest = lefts_code s (each_width ts) ls above at (h + width t) in
      let has_l = back m.code c.fn pc (address_size p) ca (land ∷ []) (length_address s p ho at) (front m.code c.fn pc (ca ++ land ∷ []) rest has) in
      let has_r = back m.code c.fn pc (address_size p + 1) (ca ++ land ∷ []) rest (length_write s p ho at h) has in
      let same = kept_place before scope first env n top t p keeping fit.0 in
      let after = λ (y : World). Meaning.land_all around (landings first ls uss) vs ws env k y in
      let ops = all_kept (operand_types p) us in let others = all_kept (left_types ls) (together uss) in
      let apart : all ≡ ahead ++ (ops ++ (others ++ more)) = eo ∙ ap (λ l. ahead ++ (l ++ more)) (first_operands p us ls uss gives.0) ∙ ap (λ l. ahead ++ l) (append_assoc ops others more) in
      settled_follow m p t us ahead (others ++ more) c0 calls ws env first (λ q. Meaning.write_part q.variable q.path x after) v w ho at pc lo b land stops same.0 (same.1 us) gives.0 apart hp ha (omega arith)
      (front m.code c.fn pc ca (land ∷ []) (front m.code c.fn pc (ca ++ land ∷ []) rest has)) has_l.0.0 (near_offset s p, near_words s p, temp s h, inr (inl refl)) (λ somewhere way leads.
      let by = place_held m env p us t way in let c1 = during c env scope (all ++ by) in let path = root_of p us ++ way in
      let among : all ++ by ≡ gone ++ (kept t x ++ ((all_kept ts vs ++ tail) ++ by)) =
      ap (λ l. l ++ by) (first_of t ts x vs gone tail all are.0 e) ∙ append_assoc gone (kept t x ++ (all_kept ts vs ++ tail)) by ∙ ap (λ l. gone ++ l) (append_assoc (kept t x) (all_kept ts vs ++ tail) by) in
      let beneath : all ++ by ≡ ahead ++ (ops ++ ((others ++ more) ++ by)) = ap (λ l. l ++ by) apart ∙ append_assoc ahead (ops ++ (others ++ more)) by ∙ ap (λ l. ahead ++ l) (append_assoc ops (others ++ more) by) in
      let guided : Guided m (all ++ by) env p us t way ho at = record {
        led = pointer_held p us ahead ((others ++ more) ++ by) (all ++ by) ho gives.0 somewhere beneath hp;
        there = λ i f. ap (λ l. slice_get l at) (ap (λ l. all ++ l) (sym (append-nil by))) ∙ held_there m (far p) i t _ path _ all [] at ha f;
      } in
      let w1 = written w (variable_of env p us) path x in
      later m {lo = suc lo} {hi = 1} {b = b} (omega arith) (omega arith) (omega arith) (written_to m _ _ _
      (subst (λ u. At m (suc lo) 1 b v (after (written w u path x)) (Stands m v w (c1 ∷ calls)) (pc + address_size p)) (same.1 us)
      (landed m p t us way x c1 calls gone ((all_kept ts vs ++ tail) ++ by) v w ho at h (pc + address_size p) lo 0 b _ has_l.0.0 same.0 leads guided among hg are.0
      (given m (λ u g. fewer m v w1 c0 calls u all by g)
      (lefts_follow ls ts vs (gone ++ kept t x) tail all uss (ahead ++ ops) more c first env before scope calls ws k v w1 n top at above (h + width t) (pc + address_size p + 1) lo b stops are.1 (one_more gone t x h (width t) hg refl) (next_held t ts x vs gone tail all are.0 e) gives.1
      (operands_above p us ho ahead hp gives.0) (apart ∙ sym (append_assoc ahead ops (others ++ more))) ha
      (subst (λ y. Standing m.code c.fn y rest) (let q : pc + (address_size p + 1) ≡ pc + address_size p + 1 = omega arith in q) has_r) fit.1 (omega arith) from under keeping
      (λ env1 w2 v1. place_is m (let q : pc + (address_size p + 1 + lefts_size ls) ≡ pc + address_size p + 1 + lefts_size ls = omega arith in q) (post env1 w2 v1))))))))

  -- a new round's variables get the values of the old ones, through temps from h on
  pub renew_follows : (sites : List ℕ) (c : Frame) (env : Env) (scope : List ℕ) (held : List Kept) (calls : List Frame) (entry : ℕ) (k : Env → Go) (v : View) (w : World) (h pc lo b : ℕ) → length held ≡ h → h + widest m.program sites ≤ temps_of m.program m.placement c.func → AllInScope scope sites
      → Standing m.code c.fn pc (renew_code (slots_of m.program m.placement c.func) sites h)
      → ((env1 : Env) (w1 : World) (v1 : View) → At m lo 0 b v1 (k env1 w1) (Stands m v1 w1 (during c env1 scope held ∷ calls)) (pc + renew_size sites))
      → At m lo 0 b v (Meaning.renew around entry sites env k w) (Stands m v w (during c env scope held ∷ calls)) pc
  renew_follows [] c env scope held calls entry k v w h pc lo b hh room among has post = place_is m (let q : pc + 0 ≡ pc = omega arith in q) (post env w v)
  renew_follows (site ∷ sites) c env scope held calls entry k v w h pc lo b hh room among has post =
      let s = slots_of m.program m.placement c.func in let x = value_of w (env site) in let old = during c env scope held in let t = site_type m.program site in
      let n = width t in let solid = m.solid site in let cell = Meaning.new_cell entry site (Meaning.site_type around site) x in
      let kind = cell_kind m around sites_are site in
      let c1 = during c env scope (held ++ kept t x) in
      let q : pc + suc (suc (suc (renew_size sites))) ≡ pc + 1 + 1 + 1 + renew_size sites = omega arith in
      let env1 = with_home env site (length w.store) in
      knowing m (λ s0 g0.
      let places = g0.homed.owned.0.among site among.0 in
      turned m {lo1 = suc (suc (suc lo))} (omega arith) (seen m _ (read_of m _ _ _
      (later m {lo = suc (suc (suc lo))} {hi = 1} {b = b} (omega arith) (omega arith) (omega arith)
      (given m (held_none m v w old calls)
      (fetched m (local site itself) t [] [] c1 calls held [] v w 0 0 h pc (suc (suc lo)) 1 b _ has.0.0 (among.0, refl, solid) (refl, λ z. refl) (record { led = tt; there = λ i f. absurd (omega (arith, f)) }) hh (omega arith) (λ typed.
      births_filled m {lo = lo} {hi = 0} c1 calls v w site (pc + 1) h cell has.1.0.0 has.1.1.0.0 (omega arith) places.0 places.1 places.2 kind (subst (λ o. IsOf o x) (sym kind) typed)
      (λ u g. subst (λ o. Stand m.program m.leading v.homes u.hi w (leaves o) (contents x) (words_at u.words (temp s h) n)) (sym kind) (last_stand m v w old calls u held t x h n hh refl g))
      (λ v2. given m
      (λ u g. narrowed m.program m.placement m.max m.leading v2 (born w cell) (during c env1 (site ∷ scope) held) calls u env1 (site ∷ scope) scope (λ i j. inr j)
      (fewer m v2 (born w cell) (during c env1 (site ∷ scope) held) calls u held (kept t x) g))
      (renew_follows sites c env1 scope held calls entry k v2 (born w cell) h (pc + 1 + 1 + 1) lo b hh (omega arith) among.1 has.1.1.1
      (λ env2 w1 v1. place_is m q (post env2 w1 v1)))))))))))

  -- new variables with zeros
  pub zeros_follow : (sites : List ℕ) (c : Frame) (env : Env) (scope : List ℕ) (held : List Kept) (calls : List Frame) (entry : ℕ) (k : Env → Go) (v : View) (w : World) (n pc lo b : ℕ) → Standing m.code c.fn pc (zeros_code (slots_of m.program m.placement c.func) sites)
      → SitesNext m.program n (c.func.first + c.func.count) sites → c.func.first ≤ n
      → ((env1 : Env) (w1 : World) (v1 : View) → At m lo 0 b v1 (k env1 w1) (Stands m v1 w1 (during c env1 (scope_with scope sites) held ∷ calls)) (pc + length sites))
      → At m lo 0 b v (Meaning.bear_zeros around entry sites env k w) (Stands m v w (during c env scope held ∷ calls)) pc
  zeros_follow [] c env scope held calls entry k v w n pc lo b has fit from post = place_is m (let e : pc + 0 ≡ pc = omega arith in e) (post env w v)
  zeros_follow (site ∷ sites) c env scope held calls entry k v w n pc lo b has fit from post =
      let c0 = during c env scope held in
      let x = Meaning.zero_of around site in let cell = Meaning.new_cell entry site (Meaning.site_type around site) x in
      let here = fit.0.0 in let among = fit.0.1 in
      turned m {lo1 = suc lo} (omega arith)
      (births_zero m {lo = lo} {hi = 0} c0 calls v w site pc cell has.0.0 (omega arith) (omega arith) fit.0.2 (cell_kind m around sites_are site) (zero_value m around sites_are site)
      (λ v2. zeros_follow sites c (with_home env site (length w.store)) (site ∷ scope) held calls entry k v2 (born w cell) (suc site) (pc + 1) lo b has.1 fit.1 (omega arith)
      (λ env1 w1 v1. place_is m (let e : pc + suc (length sites) ≡ pc + 1 + length sites = omega arith in e) (post env1 w1 v1))))
