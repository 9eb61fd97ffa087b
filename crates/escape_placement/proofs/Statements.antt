-- What flows in the statements of a function in form is good.
use Rattle.std.proofs.Common.{◌≡◌, ℕ, suc, ◌<◌, ◌≤◌, Bool, true, false, if◌then◌else◌, List, [], ◌∷◌, ◌++◌, map, length, Option, Some, None, slice_get, refl, sym, subst, inl, inr, arith}
use Rattle.value_flows.specs.declared.value.Target.{Target}
use Rattle.value_flows.specs.Syntax.{Act, carry}
use Rattle.value_flows.specs.Syntax as flow
use Rattle.typed_syntax.specs.Types.{TypeTree, ints, bools, array_of, pointer_to, slice_of}
use Rattle.typed_syntax.specs.Syntax.{Ex, Exs, Pl, Left, Piece, Over, St, Sts, Func, Program, local, global, indirect, slice_element, none, more, results, read_int, blank, new, to, text, shown, over_int, over_length, over_copy, over_slice, over_pointer, over_pointed, declare, assign, update, bump, discard, block, if_stmt, for_stmt, range, break_stmt, continue_stmt, return_stmt, print, panic, exit, done, next, type_named, site_type}
use Rattle.typed_syntax.specs.Form.{AllInScope, PlFits, LeftsFit, SitesNext, IsNext, TestFits, PieceFits, PiecesFit, ReturnFits, StFits, StsFit, sites_after, lefts_after, declared_after, all_sites_after, scope_behind, scope_with, scope_after}
use Rattle.param_tags.specs.Order.{IsOf}
use Rattle.flow_batches.specs.Standing.{IsCarried}
use Rattle.typed_flows.specs.Pointers.{has_pointers}
use Rattle.typed_flows.specs.Flows.{evaluated, where_held, place_target, left_target, lefts_values, piece_values, pieces_values, test_values, carried, over_acts, for_head, range_head, return_acts, acts, all_acts}
use Rattle.escape_placement.specs.Sites.{ExsMake, PieceMakes, PiecesMake, TestMakes, LeftMakes, LeftsMake, AllCarry, StMakes, StsMake}
use Rattle.escape_placement.proofs.Good.{GoodLoc, GoodTarget, Goods, GoodTargets, GoodActs, good_row, acts_both}
use Rattle.escape_placement.proofs.Expressions.{AreOwn, ex_good, place_good, arguments_good}

-- ---- the numbers of sites ascend

blank_after : (m : ℕ) (l : Left) → lefts_after m (l ∷ blank ∷ []) ≡ lefts_after m (l ∷ [])
blank_after m blank = refl
blank_after m (new site) = refl
blank_after m (to q) = refl

module _ (p : Program) (n : ℕ) where
  sites_up : (m : ℕ) (sites : List ℕ) → SitesNext p m n sites → m ≤ sites_after m sites
  sites_up m [] h = omega arith
  sites_up m (x ∷ xs) h =
      let least : m ≤ x = h.0.0 in
      let rest : suc x ≤ sites_after (suc x) xs = sites_up (suc x) xs h.1 in
      omega arith

  lefts_up : (scope : List ℕ) (m : ℕ) (ts : List TypeTree) (ls : List Left) → LeftsFit p scope m n ts ls → m ≤ lefts_after m ls
  lefts_up scope m [] [] h = omega arith
  lefts_up scope m [] (l ∷ ls) h = absurd h
  lefts_up scope m (t ∷ ts) [] h = absurd h
  lefts_up scope m (t ∷ ts) (blank ∷ ls) h = lefts_up scope m ts ls h
  lefts_up scope m (t ∷ ts) (new x ∷ ls) h =
      let least : m ≤ x = h.0.0 in
      let rest : suc x ≤ lefts_after (suc x) ls = lefts_up scope (suc x) ts ls h.2 in
      omega arith
  lefts_up scope m (t ∷ ts) (to q ∷ ls) h = lefts_up scope m ts ls h.1

  up_on : (a b c : ℕ) → a ≤ b → b ≤ c → a ≤ c
  up_on a b c first rest = omega arith

  counted_up : (m : ℕ) (key : Left) (body : Sts) → m ≤ lefts_after m (key ∷ []) → lefts_after m (key ∷ []) ≤ all_sites_after (lefts_after m (key ∷ [])) body → m ≤ all_sites_after (lefts_after m (key ∷ blank ∷ [])) body
  counted_up m key body first rest =
      subst (λ (k : ℕ). m ≤ all_sites_after k body) (sym (blank_after m key)) (up_on m (lefts_after m (key ∷ [])) (all_sites_after (lefts_after m (key ∷ [])) body) first rest)

  module _ (wanted : List TypeTree) (named : ℕ) where
    mutual
      st_up : (looped : Bool) (scope : List ℕ) (m : ℕ) (s : St) → StFits p wanted named looped scope m n s → m ≤ declared_after m s
      st_up looped scope m (declare sites) h = sites_up m sites h
      st_up looped scope m (assign ls es) h = lefts_up scope m h.0 ls h.1
      st_up looped scope m (update at q op e) h = omega arith
      st_up looped scope m (bump at q op) h = omega arith
      st_up looped scope m (discard es) h = omega arith
      st_up looped scope m (block ss) h = sts_up looped scope m ss h
      st_up looped scope m (if_stmt e a b) h =
          let first : m ≤ all_sites_after m a = sts_up looped scope m a h.1 in
          let rest : all_sites_after m a ≤ all_sites_after (all_sites_after m a) b = sts_up looped scope (all_sites_after m a) b h.2 in
          omega arith
      st_up looped scope m (for_stmt sites test post body) h =
          let first : m ≤ all_sites_after m post = sts_up false scope m post h.2 in
          let rest : all_sites_after m post ≤ all_sites_after (all_sites_after m post) body = sts_up true scope (all_sites_after m post) body h.3 in
          omega arith
      st_up looped scope m (range (over_int e) key blank body) h =
          counted_up m key body (lefts_up scope m (ints ∷ []) (key ∷ []) h.1) (sts_up true (scope_behind scope (key ∷ [])) (lefts_after m (key ∷ [])) body h.2)
      st_up looped scope m (range (over_int e) key (new x) body) h = absurd h
      st_up looped scope m (range (over_int e) key (to q) body) h = absurd h
      st_up looped scope m (range (over_length x) key blank body) h =
          counted_up m key body (lefts_up scope m (ints ∷ []) (key ∷ []) h.1) (sts_up true (scope_behind scope (key ∷ [])) (lefts_after m (key ∷ [])) body h.2)
      st_up looped scope m (range (over_length x) key (new y) body) h = absurd h
      st_up looped scope m (range (over_length x) key (to q) body) h = absurd h
      st_up looped scope m (range (over_copy site e x) key element body) h =
          let first : m ≤ lefts_after m (key ∷ element ∷ []) = lefts_up (site ∷ scope) m (ints ∷ h.0 ∷ []) (key ∷ element ∷ []) h.6 in
          let copy : lefts_after m (key ∷ element ∷ []) ≤ site = h.4.0 in
          let rest : suc site ≤ all_sites_after (suc site) body = sts_up true (scope_behind (site ∷ scope) (key ∷ element ∷ [])) (suc site) body h.7 in
          omega arith
      st_up looped scope m (range (over_slice e t) key element body) h =
          up_on m (lefts_after m (key ∷ element ∷ [])) (all_sites_after (lefts_after m (key ∷ element ∷ [])) body) (lefts_up scope m (ints ∷ type_named p t ∷ []) (key ∷ element ∷ []) h.2) (sts_up true (scope_behind scope (key ∷ element ∷ [])) (lefts_after m (key ∷ element ∷ [])) body h.3)
      st_up looped scope m (range (over_pointer at e x t) key element body) h =
          up_on m (lefts_after m (key ∷ element ∷ [])) (all_sites_after (lefts_after m (key ∷ element ∷ [])) body) (lefts_up scope m (ints ∷ type_named p t ∷ []) (key ∷ element ∷ []) h.6) (sts_up true (scope_behind scope (key ∷ element ∷ [])) (lefts_after m (key ∷ element ∷ [])) body h.7)
      st_up looped scope m (range (over_pointed x) key blank body) h =
          counted_up m key body (lefts_up scope m (ints ∷ []) (key ∷ []) h.1) (sts_up true (scope_behind scope (key ∷ [])) (lefts_after m (key ∷ [])) body h.2)
      st_up looped scope m (range (over_pointed x) key (new y) body) h = absurd h
      st_up looped scope m (range (over_pointed x) key (to q) body) h = absurd h
      st_up looped scope m break_stmt h = omega arith
      st_up looped scope m continue_stmt h = omega arith
      st_up looped scope m (return_stmt es) h = omega arith
      st_up looped scope m (print ln ps) h = omega arith
      st_up looped scope m (panic at q) h = omega arith
      st_up looped scope m (exit at e) h = omega arith

      sts_up : (looped : Bool) (scope : List ℕ) (m : ℕ) (ss : Sts) → StsFit p wanted named looped scope m n ss → m ≤ all_sites_after m ss
      sts_up looped scope m done h = omega arith
      sts_up looped scope m (next s ss) h =
          let first : m ≤ declared_after m s = st_up looped scope m s h.0 in
          let rest : declared_after m s ≤ all_sites_after (declared_after m s) ss = sts_up looped (scope_after scope s) (declared_after m s) ss h.1 in
          omega arith

module _ (p : Program) (F : flow.Program) (f : ℕ) (Is : Bool → ℕ → Type 0) (made : (b : Bool) (x : ℕ) → Is b x → IsOf F f x) (there : (g : ℕ) (func : Func) → slice_get p.funcs g ≡ Some func → g < length F.funcs) (first last : ℕ) (between : (x : ℕ) → first ≤ x → x < last → IsOf F f x) where
  next_own : (m x : ℕ) → first ≤ m → IsNext p m last x → IsOf F f x
  next_own m x low h = let least : m ≤ x = h.0 in between x (omega arith) h.1

  -- ---- scopes

  one_more : (x : ℕ) (scope : List ℕ) → IsOf F f x → AreOwn F f scope → AreOwn F f (x ∷ scope)
  one_more x scope here own y c = elim c [ inl is ↦ subst (IsOf F f) (sym is) here | inr later ↦ own y later ]

  with_own : (m : ℕ) (sites scope : List ℕ) → first ≤ m → SitesNext p m last sites → AreOwn F f scope → AreOwn F f (scope_with scope sites)
  with_own m [] scope low h own = own
  with_own m (x ∷ xs) scope low h own = let least : m ≤ x = h.0.0 in with_own (suc x) xs (x ∷ scope) (omega arith) h.1 (one_more x scope (next_own m x low h.0) own)

  behind_own : (s : List ℕ) (m : ℕ) (ts : List TypeTree) (ls : List Left) (scope : List ℕ) → first ≤ m → LeftsFit p s m last ts ls → AreOwn F f scope → AreOwn F f (scope_behind scope ls)
  behind_own s m [] [] scope low h own = own
  behind_own s m [] (l ∷ ls) scope low h own = absurd h
  behind_own s m (t ∷ ts) [] scope low h own = absurd h
  behind_own s m (t ∷ ts) (blank ∷ ls) scope low h own = behind_own s m ts ls scope low h own
  behind_own s m (t ∷ ts) (new x ∷ ls) scope low h own = let least : m ≤ x = h.0.0 in behind_own s (suc x) ts ls (x ∷ scope) (omega arith) h.2 (one_more x scope (next_own m x low h.0) own)
  behind_own s m (t ∷ ts) (to q ∷ ls) scope low h own = behind_own s m ts ls scope low h.1 own

  after_own : (wanted : List TypeTree) (named : ℕ) (looped : Bool) (scope : List ℕ) (m : ℕ) (s : St) → first ≤ m → StFits p wanted named looped scope m last s → AreOwn F f scope → AreOwn F f (scope_after scope s)
  after_own wanted named looped scope m (declare sites) low h own = with_own m sites scope low h own
  after_own wanted named looped scope m (assign ls es) low h own = behind_own scope m h.0 ls scope low h.1 own
  after_own wanted named looped scope m (update at q op e) low h own = own
  after_own wanted named looped scope m (bump at q op) low h own = own
  after_own wanted named looped scope m (discard es) low h own = own
  after_own wanted named looped scope m (block ss) low h own = own
  after_own wanted named looped scope m (if_stmt e a b) low h own = own
  after_own wanted named looped scope m (for_stmt sites test post body) low h own = own
  after_own wanted named looped scope m (range over key element body) low h own = own
  after_own wanted named looped scope m break_stmt low h own = own
  after_own wanted named looped scope m continue_stmt low h own = own
  after_own wanted named looped scope m (return_stmt es) low h own = own
  after_own wanted named looped scope m (print ln ps) low h own = own
  after_own wanted named looped scope m (panic at q) low h own = own
  after_own wanted named looped scope m (exit at e) low h own = own

  -- ---- left sides

  module _ (scope : List ℕ) (own : AreOwn F f scope) where
    place_target_good : (t : TypeTree) (q : Pl) → PlFits p scope t q → GoodLoc F f (place_target q).to
    place_target_good t (local site steps) h = (own site h.0, tt)
    place_target_good t (global g steps) h = (tt, tt)
    place_target_good t (indirect at e n steps) h = (tt, tt)
    place_target_good t (slice_element at e i n steps) h = (tt, tt)

    targets_good : (m : ℕ) (ts : List TypeTree) (ls : List Left) → first ≤ m → LeftsFit p scope m last ts ls → GoodTargets F f (map left_target ls)
    targets_good m [] [] low h = tt
    targets_good m [] (l ∷ ls) low h = absurd h
    targets_good m (t ∷ ts) [] low h = absurd h
    targets_good m (t ∷ ts) (blank ∷ ls) low h = (tt, targets_good m ts ls low h)
    targets_good m (t ∷ ts) (new x ∷ ls) low h = let least : m ≤ x = h.0.0 in ((next_own m x low h.0, tt), targets_good (suc x) ts ls (omega arith) h.2)
    targets_good m (t ∷ ts) (to q ∷ ls) low h = (place_target_good t q h.0, targets_good m ts ls low h.1)

    lefts_good : (m : ℕ) (ts : List TypeTree) (ls : List Left) → LeftsFit p scope m last ts ls → LeftsMake Is ls → Goods F f (lefts_values p ls)
    lefts_good m [] [] h k = tt
    lefts_good m [] (l ∷ ls) h k = absurd h
    lefts_good m (t ∷ ts) [] h k = absurd h
    lefts_good m (t ∷ ts) (blank ∷ ls) h k = lefts_good m ts ls h k.1
    lefts_good m (t ∷ ts) (new x ∷ ls) h k = lefts_good (suc x) ts ls h.2 k.1
    lefts_good m (t ∷ ts) (to q ∷ ls) h k = (place_good p F f Is made there scope own t q h.0 k.0, lefts_good m ts ls h.1 k.1)

    -- ---- operands and conditions

    piece_good : (q : Piece) → PieceFits p scope q → PieceMakes Is q → Goods F f (piece_values p q)
    piece_good (text number) h k = tt
    piece_good (shown t e) h k = (ex_good p F f Is made there scope own t e h.1 k, tt)

    pieces_good : (ps : List Piece) → PiecesFit p scope ps → PiecesMake Is ps → Goods F f (pieces_values p ps)
    pieces_good [] h k = tt
    pieces_good (text number ∷ ps) h k = pieces_good ps h.1 k.1
    pieces_good (shown t e ∷ ps) h k = (ex_good p F f Is made there scope own t e h.0.1 k.0, pieces_good ps h.1 k.1)

    test_good : (t : Option Ex) → TestFits p scope t → TestMakes Is t → Goods F f (test_values p t)
    test_good None h k = tt
    test_good (Some e) h k = (ex_good p F f Is made there scope own bools e h k, tt)

  where_good : (has : Bool) (t : Option Target) → GoodTarget F f t → GoodTarget F f (where_held has t)
  where_good true t h = h
  where_good false t h = tt

  -- ---- statements

  module _ (Carries : ℕ → Type 0) (carries : (x : ℕ) → Carries x → IsCarried F x) (wanted : List TypeTree) (named : ℕ) (returned : List (Option Target)) (given_back : GoodTargets F f returned) where
    carried_one : (has : Bool) (x : ℕ) → IsOf F f x → IsCarried F x → GoodActs F f (if has then carry x ∷ [] else [])
    carried_one true x own is = ((own, is), tt)
    carried_one false x own is = tt

    carried_good : (scope : List ℕ) → AreOwn F f scope → (sites : List ℕ) → AllInScope scope sites → AllCarry Is Carries sites → GoodActs F f (carried p sites)
    carried_good scope own [] h k = tt
    carried_good scope own (x ∷ xs) h k =
        let has = has_pointers (site_type p x) in
        acts_both F f (if has then carry x ∷ [] else []) (carried p xs) (carried_one has x (own x h.0) (carries x k.0)) (carried_good scope own xs h.1 k.1)

    return_good : (scope : List ℕ) → AreOwn F f scope → (es : Exs) → ReturnFits p scope wanted named es → ExsMake Is es → GoodActs F f (return_acts p returned es)
    return_good scope own none h k = tt
    return_good scope own (more e es) h k = ((arguments_good p F f Is made there scope own wanted (more e es) h k, given_back), tt)
    return_good scope own (results g es) h k = ((arguments_good p F f Is made there scope own wanted (results g es) h k, given_back), tt)
    return_good scope own read_int h k = ((arguments_good p F f Is made there scope own wanted read_int h k, given_back), tt)

    ranged : (over : Over) (key element : Left) (body : Sts) → GoodActs F f (over_acts p over element) → Goods F f (lefts_values p (key ∷ element ∷ [])) → GoodActs F f (all_acts p returned body) → GoodActs F f (acts p returned (range over key element body))
    ranged over key element body o l b =
        acts_both F f (range_head p over key element) (all_acts p returned body)
        (acts_both F f (over_acts p over element) (evaluated (lefts_values p (key ∷ element ∷ [])) ∷ []) o ((good_row F f (lefts_values p (key ∷ element ∷ [])) l, tt), tt)) b

    counted_lefts : (scope : List ℕ) → AreOwn F f scope → (m : ℕ) (key : Left) → LeftsFit p scope m last (ints ∷ []) (key ∷ []) → LeftMakes Is key → Goods F f (lefts_values p (key ∷ blank ∷ []))
    counted_lefts scope own m key h k = lefts_good scope own m (ints ∷ []) (key ∷ []) h (k, tt)

    mutual
      pub st_good : (looped : Bool) (scope : List ℕ) → AreOwn F f scope → (m : ℕ) → first ≤ m → (s : St) → StFits p wanted named looped scope m last s → StMakes Is Carries s → GoodActs F f (acts p returned s)
      st_good looped scope own m low (declare sites) h k = tt
      st_good looped scope own m low (assign ls es) h k =
          ((good_row F f (lefts_values p ls) (lefts_good scope own m h.0 ls h.1 k.0), tt), ((arguments_good p F f Is made there scope own h.0 es h.2 k.1, targets_good scope own m h.0 ls low h.1), tt))
      st_good looped scope own m low (update at q op e) h k = (((place_good p F f Is made there scope own ints q h.1 k.0, (ex_good p F f Is made there scope own ints e h.2 k.1, tt)), tt), tt)
      st_good looped scope own m low (bump at q op) h k = (((place_good p F f Is made there scope own ints q h.1 k, tt), tt), tt)
      st_good looped scope own m low (discard es) h k = ((arguments_good p F f Is made there scope own h.0 es h.1 k, tt), tt)
      st_good looped scope own m low (block ss) h k = sts_good looped scope own m low ss h k
      st_good looped scope own m low (if_stmt e a b) h k =
          let up : m ≤ all_sites_after m a = sts_up p last wanted named looped scope m a h.1 in
          (((ex_good p F f Is made there scope own bools e h.0 k.0, tt), tt), acts_both F f (all_acts p returned a) (all_acts p returned b) (sts_good looped scope own m low a h.1 k.1) (sts_good looped scope own (all_sites_after m a) (omega arith) b h.2 k.2))
      st_good looped scope own m low (for_stmt sites test post body) h k =
          let up : m ≤ all_sites_after m post = sts_up p last wanted named false scope m post h.2 in
          acts_both F f (for_head p sites test) (all_acts p returned post ++ all_acts p returned body)
          (acts_both F f (carried p sites) (evaluated (test_values p test) ∷ []) (carried_good scope own sites h.0 k.0) ((good_row F f (test_values p test) (test_good scope own test h.1 k.1), tt), tt))
          (acts_both F f (all_acts p returned post) (all_acts p returned body) (sts_good false scope own m low post h.2 k.2) (sts_good true scope own (all_sites_after m post) (omega arith) body h.3 k.3))
      st_good looped scope own m low (range (over_int e) key blank body) h k =
          ranged (over_int e) key blank body (((ex_good p F f Is made there scope own ints e h.0 k.0, tt), tt), tt) (counted_lefts scope own m key h.1 k.1.0)
          (sts_good true (scope_behind scope (key ∷ [])) (behind_own scope m (ints ∷ []) (key ∷ []) scope low h.1 own) (lefts_after m (key ∷ [])) (up_on p last first m (lefts_after m (key ∷ [])) low (lefts_up p last scope m (ints ∷ []) (key ∷ []) h.1)) body h.2 k.2)
      st_good looped scope own m low (range (over_int e) key (new x) body) h k = absurd h
      st_good looped scope own m low (range (over_int e) key (to q) body) h k = absurd h
      st_good looped scope own m low (range (over_length x) key blank body) h k = ranged (over_length x) key blank body tt (counted_lefts scope own m key h.1 k.1.0)
          (sts_good true (scope_behind scope (key ∷ [])) (behind_own scope m (ints ∷ []) (key ∷ []) scope low h.1 own) (lefts_after m (key ∷ [])) (up_on p last first m (lefts_after m (key ∷ [])) low (lefts_up p last scope m (ints ∷ []) (key ∷ []) h.1)) body h.2 k.2)
      st_good looped scope own m low (range (over_length x) key (new y) body) h k = absurd h
      st_good looped scope own m low (range (over_length x) key (to q) body) h k = absurd h
      st_good looped scope own m low (range (over_copy site e x) key element body) h k =
          let up : m ≤ lefts_after m (key ∷ element ∷ []) = lefts_up p last (site ∷ scope) m (ints ∷ h.0 ∷ []) (key ∷ element ∷ []) h.6 in
          let copy : lefts_after m (key ∷ element ∷ []) ≤ site = h.4.0 in
          let here = next_own (lefts_after m (key ∷ element ∷ [])) site (omega arith) h.4 in
          let with_copy = one_more site scope here own in
          let target = (targets_good (site ∷ scope) with_copy m (ints ∷ h.0 ∷ []) (key ∷ element ∷ []) low h.6).1.0 in
          ranged (over_copy site e x) key element body
          (((ex_good p F f Is made there scope own (array_of x h.0) e h.5 k.0, tt), ((here, tt), tt)), (((here, tt), (where_good (has_pointers (site_type p site)) (left_target element) target, tt)), tt))
          (lefts_good (site ∷ scope) with_copy m (ints ∷ h.0 ∷ []) (key ∷ element ∷ []) h.6 k.1)
          (sts_good true (scope_behind (site ∷ scope) (key ∷ element ∷ [])) (behind_own (site ∷ scope) m (ints ∷ h.0 ∷ []) (key ∷ element ∷ []) (site ∷ scope) low h.6 with_copy) (suc site) (omega arith) body h.7 k.2)
      st_good looped scope own m low (range (over_slice e t) key element body) h k =
          let ts = ints ∷ type_named p t ∷ [] in
          let target = (targets_good scope own m ts (key ∷ element ∷ []) low h.2).1.0 in
          ranged (over_slice e t) key element body
          (((ex_good p F f Is made there scope own (slice_of t) e h.1 k.0, tt), (where_good (has_pointers (type_named p t)) (left_target element) target, tt)), tt)
          (lefts_good scope own m ts (key ∷ element ∷ []) h.2 k.1)
          (sts_good true (scope_behind scope (key ∷ element ∷ [])) (behind_own scope m ts (key ∷ element ∷ []) scope low h.2 own) (lefts_after m (key ∷ element ∷ [])) (up_on p last first m (lefts_after m (key ∷ element ∷ [])) low (lefts_up p last scope m ts (key ∷ element ∷ []) h.2)) body h.3 k.2)
      st_good looped scope own m low (range (over_pointer at e x t) key element body) h k =
          let ts = ints ∷ type_named p t ∷ [] in
          let target = (targets_good scope own m ts (key ∷ element ∷ []) low h.6).1.0 in
          ranged (over_pointer at e x t) key element body
          (((ex_good p F f Is made there scope own (pointer_to h.0) e h.5 k.0, tt), (where_good (has_pointers (type_named p t)) (left_target element) target, tt)), tt)
          (lefts_good scope own m ts (key ∷ element ∷ []) h.6 k.1)
          (sts_good true (scope_behind scope (key ∷ element ∷ [])) (behind_own scope m ts (key ∷ element ∷ []) scope low h.6 own) (lefts_after m (key ∷ element ∷ [])) (up_on p last first m (lefts_after m (key ∷ element ∷ [])) low (lefts_up p last scope m ts (key ∷ element ∷ []) h.6)) body h.7 k.2)
      st_good looped scope own m low (range (over_pointed x) key blank body) h k = ranged (over_pointed x) key blank body tt (counted_lefts scope own m key h.1 k.1.0)
          (sts_good true (scope_behind scope (key ∷ [])) (behind_own scope m (ints ∷ []) (key ∷ []) scope low h.1 own) (lefts_after m (key ∷ [])) (up_on p last first m (lefts_after m (key ∷ [])) low (lefts_up p last scope m (ints ∷ []) (key ∷ []) h.1)) body h.2 k.2)
      st_good looped scope own m low (range (over_pointed x) key (new y) body) h k = absurd h
      st_good looped scope own m low (range (over_pointed x) key (to q) body) h k = absurd h
      st_good looped scope own m low break_stmt h k = tt
      st_good looped scope own m low continue_stmt h k = tt
      st_good looped scope own m low (return_stmt es) h k = return_good scope own es h k
      st_good looped scope own m low (print ln ps) h k = ((good_row F f (pieces_values p ps) (pieces_good scope own ps h k), tt), tt)
      st_good looped scope own m low (panic at q) h k = ((good_row F f (piece_values p q) (piece_good scope own q h k), tt), tt)
      st_good looped scope own m low (exit at e) h k = (((ex_good p F f Is made there scope own ints e h k, tt), tt), tt)

      pub sts_good : (looped : Bool) (scope : List ℕ) → AreOwn F f scope → (m : ℕ) → first ≤ m → (ss : Sts) → StsFit p wanted named looped scope m last ss → StsMake Is Carries ss → GoodActs F f (all_acts p returned ss)
      sts_good looped scope own m low done h k = tt
      sts_good looped scope own m low (next s ss) h k =
          let up : m ≤ declared_after m s = st_up p last wanted named looped scope m s h.0 in
          acts_both F f (acts p returned s) (all_acts p returned ss) (st_good looped scope own m low s h.0 k.0) (sts_good looped (scope_after scope s) (after_own wanted named looped scope m s low h.0 own) (declared_after m s) (omega arith) ss h.1 k.1)
