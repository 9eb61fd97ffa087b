-- Each program in form is well typed.
use Rattle.std.proofs.Common.{◌≡◌, inl, inr, refl, sym, subst, ℕ, suc, Bool, true, false, List, [], ◌∷◌, Option, Some, None}
use Rattle.std.specs.Prelude.{slice_get, length}
use Rattle.typed_syntax.specs.declared.operators.BinOp.{BinOp}
use Rattle.typed_syntax.specs.declared.operators.BinOp.TheVariants.{Equal, NotEqual, Less, LessEqual, Greater, GreaterEqual}
use Rattle.typed_syntax.specs.Types.{TypeTree, ints, part_type}
use Rattle.typed_syntax.specs.Value.{Value, int, bool, IsOf, LeadsNowhere}
use Rattle.typed_syntax.specs.Syntax.{Ex, Exs, Bound, absent, bound, Pl, Steps, Left, Piece, St, Sts, Func, Program, constant, read, unary, binary, logical_and, logical_or, call, part_of, literal, nil, address_of, new_variable, literal_variable, slice_literal, make, append, append_slice, copy, slicing, array_slicing, len, cap, Elements, no_elements, element, none, more, results, read_int, local, global, indirect, slice_element, here, inner, at_index, blank, new, to, text, shown, over_int, over_length, over_copy, over_slice, over_pointer, over_pointed, declare, assign, update, bump, discard, block, if_stmt, for_stmt, range, break_stmt, continue_stmt, return_stmt, print, panic, exit, done, next, type_named, site_type, global_type}
use Rattle.typed_syntax.specs.Form.{IsWord, Takes, IsArithmetic, IsStep, declared_after, all_sites_after, lefts_after, scope_behind, scope_after, PlFits, StepsLead, ExFits, BoundFits, AllFit, ElementsFit, ExsFit, LeftsFit, TestFits, PieceFits, PiecesFit, ReturnFits, StFits, StsFit, ParamsFit, FuncFits}
use Rattle.meaning_laws.specs.Rules.{Combines, AllAre, PlaceHas, StepsGo, Has, BoundHas, ElementsHave, Have, LeftsHave, TestHas, PieceHas, PiecesHave, ReturnHas, StatementIsTyped, StatementsAreTyped, ParamsHave, GlobalsHave, FunctionIsTyped}
use Rattle.meaning_laws.specs.Typing.{FormIsWellTyped}

word_leads : (v : Value) → IsWord v → LeadsNowhere v
word_leads (int z) h = tt
word_leads (bool b) h = tt
word_leads v h = absurd h

takes : (op : BinOp) (a b : Ex) (s t : TypeTree) → Takes op a b s t → Combines op s t
takes Equal a b s t h = h.1
takes NotEqual a b s t h = h.1
takes Less a b s t h = h
takes LessEqual a b s t h = h
takes Greater a b s t h = h
takes GreaterEqual a b s t h = h
takes op a b s t h = h

step_counts : (op : BinOp) → IsStep op → IsArithmetic op
step_counts op (inl e) = subst IsArithmetic (sym e) tt
step_counts op (inr e) = subst IsArithmetic (sym e) tt

-- what is blank declares nothing
behind_blank : (scope : List ℕ) (key : Left) → scope_behind scope (key ∷ []) ≡ scope_behind scope (key ∷ blank ∷ [])
behind_blank scope blank = refl
behind_blank scope (new site) = refl
behind_blank scope (to q) = refl

module _ (p : Program) where
  mutual
    place : (q : Pl) (scope : List ℕ) (t : TypeTree) → PlFits p scope t q → PlaceHas p scope t q
    place (local site steps) scope t b = (b.0, go steps scope (site_type p site) t b.1)
    place (global g steps) scope t b = (b.0, go steps scope (global_type p g) t b.1)
    place (indirect at e n steps) scope t b = (has e scope _ b.0, go steps scope (type_named p n) t b.1)
    place (slice_element at e i n steps) scope t b = (has e scope _ b.0, has i scope ints b.1, go steps scope (type_named p n) t b.2)

    go : (steps : Steps) (scope : List ℕ) (t s : TypeTree) → StepsLead p scope t steps s → StepsGo p scope t steps s
    go here scope t s b = b
    go (inner i steps) scope t s b = (b.0, go steps scope (part_type t i) s b.1)
    go (at_index at e n steps) scope t s b = (b.0, b.1, has e scope ints b.3, go steps scope b.0 s b.4)

    has : (e : Ex) (scope : List ℕ) (t : TypeTree) → ExFits p scope t e → Has p scope t e
    has (constant v) scope t b = (b.0, word_leads v b.1)
    has (read q) scope t b = place q scope t b
    has (unary op e) scope t b = (b.0, has e scope t b.1)
    has (binary at op e f) scope t b = (b.0, takes op e f b.0 t b.1, has e scope b.0 b.2, has f scope b.0 b.3)
    has (logical_and e f) scope t b = (b.0, has e scope _ b.1, has f scope _ b.2)
    has (logical_or e f) scope t b = (b.0, has e scope _ b.1, has f scope _ b.2)
    has (call f es) scope t b = (b.0, b.1, b.2, have es scope b.0.param_types b.3)
    has (part_of n i e) scope t b = (b.0, b.1, has e scope (type_named p n) b.3)
    has (literal n es) scope t b = (b.0, elements es scope t b.2)
    has (nil s) scope t b = b.0
    has (address_of q) scope t b = (b.0, b.1, place q scope (type_named p b.0) b.2)
    has (new_variable site) scope t b = (b.0, b.1, b.2)
    has (literal_variable site e) scope t b = ((b.0.0, b.0.1, b.0.2), has e scope (site_type p site) b.1)
    has (slice_literal site es) scope t b = ((b.0.0, b.0.1, b.0.2), all_have es scope (site_type p site) b.1)
    has (make at site count room) scope t b = ((b.0.0, b.0.1, b.0.2), has count scope ints b.1, bound_has room scope b.2)
    has (append site e es) scope t b = ((b.0.0, b.0.1, b.0.2), has e scope t b.1, all_have es scope (site_type p site) b.2)
    has (append_slice site e f) scope t b = ((b.0.0, b.0.1, b.0.2), has e scope t b.1, has f scope t b.2)
    has (copy n e f) scope t b = (b.0, has e scope _ b.2, has f scope _ b.3)
    has (slicing at n e low high) scope t b = (b.0, subst (λ u. Has p scope u e) b.0 (has e scope t b.2), bound_has low scope b.3, bound_has high scope b.4)
    has (array_slicing at q n low high) scope t b = (b.0, b.1, place q scope _ b.3, bound_has low scope b.5, bound_has high scope b.6)
    has (len e) scope t b = (b.0, (b.1.0, has e scope _ b.1.1))
    has (cap e) scope t b = (b.0, (b.1.0, has e scope _ b.1.1))

    bound_has : (o : Bound) (scope : List ℕ) → BoundFits p scope o → BoundHas p scope o
    bound_has absent scope b = tt
    bound_has (bound e) scope b = has e scope ints b

    all_have : (es : Exs) (scope : List ℕ) (t : TypeTree) → AllFit p scope t es → (ts : List TypeTree) × AllAre t ts × Have p scope ts es
    all_have none scope t b = ([], tt, tt)
    all_have (more e es) scope t b = let r = all_have es scope t b.1 in (t ∷ r.0, (refl, r.1), (has e scope t b.0, r.2))
    all_have (results f es) scope t b = absurd b
    all_have read_int scope t b = absurd b

    elements : (es : Elements) (scope : List ℕ) (t : TypeTree) → ElementsFit p scope t es → ElementsHave p scope t es
    elements no_elements scope t b = tt
    elements (element i e es) scope t b = (b.0, has e scope (part_type t i) b.2, elements es scope t b.3)

    have : (es : Exs) (scope : List ℕ) (ts : List TypeTree) → ExsFit p scope ts es → Have p scope ts es
    have none scope [] b = tt
    have none scope (t ∷ ts) b = absurd b
    have (more e es) scope [] b = absurd b
    have (more e es) scope (t ∷ ts) b = (has e scope t b.0, have es scope ts b.1)
    have (results f es) scope [] b = (b.0, b.1, b.2, have es scope b.0.param_types b.3)
    have (results f es) scope (t ∷ ts) b = (b.0, b.1, b.2, have es scope b.0.param_types b.3)
    have read_int scope [] b = b
    have read_int scope (t ∷ ts) b = b

  lefts : (ls : List Left) (scope : List ℕ) (m n : ℕ) (ts : List TypeTree) → LeftsFit p scope m n ts ls → LeftsHave p scope ts ls
  lefts [] scope m n [] b = tt
  lefts [] scope m n (t ∷ ts) b = absurd b
  lefts (l ∷ ls) scope m n [] b = absurd b
  lefts (blank ∷ ls) scope m n (t ∷ ts) b = (tt, lefts ls scope m n ts b)
  lefts (new site ∷ ls) scope m n (t ∷ ts) b = (b.1, lefts ls scope (suc site) n ts b.2)
  lefts (to q ∷ ls) scope m n (t ∷ ts) b = (place q scope t b.0, lefts ls scope m n ts b.1)

  test_has : (o : Option Ex) (scope : List ℕ) → TestFits p scope o → TestHas p scope o
  test_has None scope b = tt
  test_has (Some e) scope b = has e scope _ b

  piece : (q : Piece) (scope : List ℕ) → PieceFits p scope q → PieceHas p scope q
  piece (text number) scope b = tt
  piece (shown t e) scope b = has e scope t b.1

  pieces : (qs : List Piece) (scope : List ℕ) → PiecesFit p scope qs → PiecesHave p scope qs
  pieces [] scope b = tt
  pieces (q ∷ qs) scope b = (piece q scope b.0, pieces qs scope b.1)

  module _ (wanted : List TypeTree) (named : ℕ) where
    given : (es : Exs) (scope : List ℕ) → ReturnFits p scope wanted named es → ReturnHas p scope wanted named es
    given none scope b = b
    given (more e es) scope b = have (more e es) scope wanted b
    given (results f es) scope b = have (results f es) scope wanted b
    given read_int scope b = have read_int scope wanted b

    -- a body in the scope behind a left side
    behind : (body : Sts) (scope : List ℕ) (key : Left) → StatementsAreTyped p wanted named true (scope_behind scope (key ∷ [])) body → StatementsAreTyped p wanted named true (scope_behind scope (key ∷ blank ∷ [])) body
    behind body scope key h = subst (λ s. StatementsAreTyped p wanted named true s body) (behind_blank scope key) h

    mutual
      runs : (st : St) (looped : Bool) (scope : List ℕ) (m n : ℕ) → StFits p wanted named looped scope m n st → StatementIsTyped p wanted named looped scope st
      runs (declare sites) looped scope m n b = tt
      runs (assign ls es) looped scope m n b = (b.0, lefts ls scope m n b.0 b.1, have es scope b.0 b.2)
      runs (update at q op e) looped scope m n b = (b.0, place q scope ints b.1, has e scope ints b.2)
      runs (bump at q op) looped scope m n b = (step_counts op b.0, place q scope ints b.1)
      runs (discard es) looped scope m n b = (b.0, have es scope b.0 b.1)
      runs (block ss) looped scope m n b = all_run ss looped scope m n b
      runs (if_stmt e s r) looped scope m n b = (has e scope _ b.0, all_run s looped scope m n b.1, all_run r looped scope (all_sites_after m s) n b.2)
      runs (for_stmt sites test post body) looped scope m n b = (b.0, test_has test scope b.1, all_run post false scope m n b.2, all_run body true scope (all_sites_after m post) n b.3)
      runs (range (over_int e) key blank body) looped scope m n b =
          (ints, (refl, has e scope ints b.0), (lefts (key ∷ []) scope m n (ints ∷ []) b.1).0, tt, behind body scope key (all_run body true (scope_behind scope (key ∷ [])) (lefts_after m (key ∷ [])) n b.2))
      runs (range (over_int e) key value body) looped scope m n b = absurd b
      runs (range (over_length x) key blank body) looped scope m n b =
          (ints, refl, (lefts (key ∷ []) scope m n (ints ∷ []) b.1).0, tt, behind body scope key (all_run body true (scope_behind scope (key ∷ [])) (lefts_after m (key ∷ [])) n b.2))
      runs (range (over_length x) key value body) looped scope m n b = absurd b
      runs (range (over_copy site e x) key value body) looped scope m n b =
          let l = lefts (key ∷ value ∷ []) (site ∷ scope) m n (ints ∷ b.0 ∷ []) b.6 in
          (b.0, (b.1, has e scope _ b.5), l.0, l.1.0, all_run body true (scope_behind (site ∷ scope) (key ∷ value ∷ [])) (suc site) n b.7)
      runs (range (over_slice e t) key value body) looped scope m n b =
          let l = lefts (key ∷ value ∷ []) scope m n (ints ∷ type_named p t ∷ []) b.2 in
          (type_named p t, (refl, has e scope _ b.1), l.0, l.1.0, all_run body true (scope_behind scope (key ∷ value ∷ [])) (lefts_after m (key ∷ value ∷ [])) n b.3)
      runs (range (over_pointer at e x t) key value body) looped scope m n b =
          let l = lefts (key ∷ value ∷ []) scope m n (ints ∷ type_named p t ∷ []) b.6 in
          (type_named p t, (refl, (b.0, b.1, has e scope _ b.5)), l.0, l.1.0, all_run body true (scope_behind scope (key ∷ value ∷ [])) (lefts_after m (key ∷ value ∷ [])) n b.7)
      runs (range (over_pointed x) key blank body) looped scope m n b =
          (ints, refl, (lefts (key ∷ []) scope m n (ints ∷ []) b.1).0, tt, behind body scope key (all_run body true (scope_behind scope (key ∷ [])) (lefts_after m (key ∷ [])) n b.2))
      runs (range (over_pointed x) key value body) looped scope m n b = absurd b
      runs break_stmt looped scope m n b = b
      runs continue_stmt looped scope m n b = b
      runs (return_stmt es) looped scope m n b = given es scope b
      runs (print ln qs) looped scope m n b = pieces qs scope b
      runs (panic at q) looped scope m n b = piece q scope b
      runs (exit at e) looped scope m n b = has e scope ints b

      all_run : (ss : Sts) (looped : Bool) (scope : List ℕ) (m n : ℕ) → StsFit p wanted named looped scope m n ss → StatementsAreTyped p wanted named looped scope ss
      all_run done looped scope m n b = tt
      all_run (next st ss) looped scope m n b = (runs st looped scope m n b.0, all_run ss looped (scope_after scope st) (declared_after m st) n b.1)

  params : (ps : List (Option ℕ)) (m : ℕ) (ts : List TypeTree) → ParamsFit p m ts ps → ParamsHave p ts ps
  params [] m [] b = tt
  params [] m (t ∷ ts) b = absurd b
  params (o ∷ ps) m [] b = absurd b
  params (None ∷ ps) m (t ∷ ts) b = params ps m ts b
  params (Some site ∷ ps) m (t ∷ ts) b = (b.2, params ps (suc m) ts b.3)

  no_params : (ts : List TypeTree) (m : ℕ) → ParamsFit p m ts [] → ts ≡ []
  no_params [] m b = refl
  no_params (t ∷ ts) m b = absurd b

  function_typed : (f : Func) → FuncFits p f → FunctionIsTyped p f
  function_typed f b = record {
    params = params f.params f.first f.param_types b.params;
    names = b.names;
    body = all_run f.results (length f.named) f.body false _ _ _ b.body;
    end = b.end;
  }

  globals_have : (gs : List (ℕ × Value)) → ((i : ℕ) (g : ℕ × Value) → slice_get gs i ≡ Some g → IsOf (site_type p g.0) g.1 × LeadsNowhere g.1) → GlobalsHave p gs
  globals_have [] f = tt
  globals_have (g ∷ gs) f = let h = f 0 g refl in (h.0, h.1, globals_have gs (λ i x is. f (suc i) x is))

pub form_is_well_typed : FormIsWellTyped
form_is_well_typed p b =
    let (func, is, takes_none, gives_none, unnamed) = b.main in
    record {
      functions = λ f func is. function_typed p func (b.fits f func is);
      main = (func, is, no_params p func.param_types func.first (subst (λ ps. ParamsFit p func.first func.param_types ps) takes_none (b.fits p.main func is).params), gives_none);
      globals = globals_have p p.globals (λ i g is. let h = b.globals i g is in (h.value.0, h.alone));
    }
