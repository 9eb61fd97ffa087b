-- Where a form needs no more temps than there are, they suffice for all that it holds.
use Rattle.std.proofs.Common.{◌≡◌, ◌⊎◌, inl, inr, ℕ, zero, suc, ◌+◌, ◌*◌, ◌<◌, ◌≤◌, pos, Bool, true, false, List, [], ◌∷◌, Some, length, map, get_or, arith, sym, subst, ap, ◌∙◌, refl, suc-mul}
use Rattle.std.specs.Prelude.{◌||◌, if◌then◌else◌, Option, None, max, slice_get}
use Rattle.std.proofs.lemmas.Option.{slice_get_within}
use Rattle.std.proofs.lemmas.List.{length-map}
use Rattle.std.proofs.Math.ListN.{get_or-map}
use Rattle.typed_syntax.specs.Types.{TypeTree, ints, bools, array_of, pointer_to, slice_of, width, part_count, part_type, part_offset}
use Rattle.typed_syntax.specs.Value.{Value, int, bool}
use Rattle.typed_syntax.specs.Paths.{Leads, type_at}
use Rattle.value_laws.proofs.Parts.{element, leads_to, within}
use Rattle.typed_syntax.specs.Syntax.{Ex, Exs, Pl, Steps, Left, Piece, St, Sts, Func, Program, constant, read, unary, binary, logical_and, logical_or, call, part_of, literal, Elements, no_elements, element as element_then, nil, address_of, new_variable, literal_variable, slice_literal, make, append, append_slice, copy, slicing, array_slicing, len, cap, Bound, absent, bound, local, global, indirect, slice_element, here, inner, at_index, none, more, results, read_int, blank, new, to, text, shown, over_int, over_length, over_copy, over_slice, over_pointer, over_pointed, declare, assign, update, bump, discard, block, if_stmt, for_stmt, range, break_stmt, continue_stmt, return_stmt, print, panic, exit, done, next, all_width, each_width, arguments_in, result_words, arguments_of, results_of, type_named, global_type, site_type, site_width, path_of, wide, all_wide, value_widths, ascend, words_before}
use Rattle.typed_syntax.specs.Form.{PlFits, StepsLead, ElementsFit, InScope, AllInScope, lefts_after, declared_after, all_sites_after, scope_behind, scope_with, scope_after, IsNext, SitesNext, LeftsFit, ExFits, BoundFits, AllFit, ExsFit, TestFits, PiecesFit, ReturnFits, StFits, StsFit, ParamsFit, NamedFit, named_params, params_scope, scope_in, body_first, FuncFits, IsInForm}
use Rattle.frames.specs.Placement.{Placement}
use Rattle.frames.specs.Frames.{far, left_far, lefts_far, behind_values, bound_need, bound_reach, elements_round, pair_need, place_need, steps_need, elements_need, lefts_need, place_reach, steps_reach, elements_reach, lefts_reach, need, need_all, need_pieces, reach, reach_all, reach_pieces, test_need, test_reach, widest, entry_need, temps_of, st_need, sts_need, st_reach, sts_reach}
use Rattle.program_code.specs.Code.{Slots, other_widths, global_type as variable_type, above_address, compared, element_words, is_nil, near_words, place_above, lefts_above, root_type, site_words, slots_of, steps_of}
use Rattle.program_code.proofs.Rooms.{address_room, array_room, key_alone, key_room, lefts_others, lefts_room, place_others, place_room}
use Rattle.program_code.proofs.Wide.{nilable_some, plain_one, takes_some, takes_one, place_is_of, wide_is, all_wide_is, widths_are}
use Rattle.expression_code.specs.Temps.{SiteFits, IndicesFit, RootFits, PlaceFits, CallFits, Fits, BoundFitsIn, OperandsFit, StepsFitIn, ElementsFitIn, ExsFitIn}
use Rattle.codegen.specs.Temps.{SitesFit, ParamsFitIn, LeftFits, left_words, LeftsFitIn, ValuesFit, MovesFit, ReadyFitIn, PiecesFitIn, SliceRoundFits, TestFitsIn, StFitsIn, StsFitIn, FuncFitsIn, sites_words}
use Rattle.codegen.proofs.Operands.{above_sum}
use Rattle.codegen.proofs.Ascending.{after_all, after_lefts, after_one}

-- the sites in scope are among them
abbrev pub Below : Slots → ℕ → List ℕ → Type 0
Below s n scope = (v : ℕ) → InScope v scope → SiteFits s n v

below_more : (s : Slots) (n m : ℕ) (scope : List ℕ) → SiteFits s n m → Below s n scope → Below s n (m ∷ scope)
below_more s n m scope l b v (inl e) = subst (λ x. SiteFits s n x) (sym e) l
below_more s n m scope l b v (inr i) = b v i

below_with : (s : Slots) (n : ℕ) (scope sites : List ℕ) → Below s n scope → SitesFit s n sites → Below s n (scope_with scope sites)
below_with s n scope [] b f = b
below_with s n scope (site ∷ sites) b f = below_with s n (site ∷ scope) sites (below_more s n site scope f.0 b) f.1

-- sites that are in scope are among them
sites_below : (s : Slots) (n : ℕ) (scope sites : List ℕ) → Below s n scope → AllInScope scope sites → SitesFit s n sites
sites_below s n scope [] b f = tt
sites_below s n scope (site ∷ sites) b f = (b site f.0, sites_below s n scope sites b f.1)

-- results with names have their words
names_words : (p : Program) (s : Slots) → s.sites ≡ p.sites → (named : List ℕ) → sites_words s named ≡ all_width (map (site_type p) named)
names_words p s same [] = refl
names_words p s same (site ∷ sites) = let one : site_words s site ≡ site_width p site = ap (λ (ts : List TypeTree). width (get_or ts site ints)) same in let others = names_words p s same sites in omega (arith, one, others)

-- a part is within its whole
part_within : (t : TypeTree) (i : ℕ) → i < part_count t → part_offset t i + width (part_type t i) ≤ width t
part_within t i l = let k = within t (part_type t i) (i ∷ []) (l, refl) in omega (arith, k)

-- an array with words has elements
array_some : (x : ℕ) (r : TypeTree) → 0 < width (array_of x r) → 0 < x
array_some zero r l = absurd (omega (arith, l))
array_some (suc x) r l = omega arith

-- and no more than it has words
array_long : (x : ℕ) (r : TypeTree) → 0 < width r → x ≤ width (array_of x r)
array_long zero r l = omega arith
array_long (suc x) r l = let k = array_long x r l in omega (arith, k, l, suc-mul x (width r))

-- no type of the program is without words
module _ (p : Program) (form : IsInForm p) (solid : (t : ℕ) → 0 < width (type_named p t)) where
  -- steps lead to a part, whatever their indices are
  steps_lead : (scope : List ℕ) (t s : TypeTree) (steps : Steps) → StepsLead p scope t steps s → Leads t (path_of steps) s
  steps_lead scope t s here f = f
  steps_lead scope t s (inner i steps) f = (f.0, steps_lead scope (part_type t i) s steps f.1)
  steps_lead scope t s (at_index at e m steps) (r, is, some, index, f) = subst (λ u. Leads u (0 ∷ path_of steps) s) (sym is) ((element m r s 0 (path_of steps) some).leads (steps_lead scope r s steps f))

  -- the arrays on the way to a part with words have elements with words
  indices_fit : (scope : List ℕ) (t s : TypeTree) (steps : Steps) → StepsLead p scope t steps s → 0 < width s → IndicesFit t steps
  indices_fit scope t s here f w = tt
  indices_fit scope t s (inner i steps) f w = indices_fit scope (part_type t i) s steps f.1 w
  indices_fit scope t s (at_index at e m steps) (r, is, some, index, f) w =
      let same : part_type t 0 ≡ r = ap (λ u. part_type u 0) is ∙ ((element m r r 0 [] some).leads refl).1 in
      let l = within r s (path_of steps) (steps_lead scope r s steps f) in let wide = ap width same in
      (some, subst (λ u. m ≤ width u) (sym is) (array_long m r (omega (arith, l, w))), omega (arith, l, w, wide), subst (λ u. IndicesFit u steps) (sym same) (indices_fit scope r s steps f w))

  -- an expression's value lands in its temps, and so do values side by side
  wide_need : (scope : List ℕ) (t : TypeTree) (e : Ex) → ExFits p scope t e → wide p e ≤ need p e
  wide_need scope t (constant (int z)) f = omega arith
  wide_need scope t (constant (bool b)) f = omega arith
  wide_need scope t (constant v) f = absurd f.1
  wide_need scope t (read q) f = omega arith
  wide_need scope t (unary op e) f = let l = wide_need scope t e f.1 in let w = wide_is p scope t e f.1 in let one = plain_one t (takes_one op t f.0) in omega arith
  wide_need scope t (binary at op a b) f =
      let l = wide_need scope f.0 a f.2 in let w = wide_is p scope f.0 a f.2 in let some = takes_some p scope op a b f.0 t f.1 f.2 f.3 in omega (arith, l, w, some)
  wide_need scope t (logical_and a b) f = let l = wide_need scope bools a f.1 in let w = wide_is p scope bools a f.1 in omega arith
  wide_need scope t (logical_or a b) f = let l = wide_need scope bools a f.1 in let w = wide_is p scope bools a f.1 in omega arith
  wide_need scope t (call g es) f = omega arith
  wide_need scope t (part_of m i e) f =
      let s = type_named p m in let l = wide_need scope s e f.3 in let w = wide_is p scope s e f.3 in let part = part_within s i f.0 in omega (arith, l, w, part)
  wide_need scope t (literal m es) f = omega arith
  wide_need scope t (nil m) f = omega arith
  wide_need scope t (address_of q) f = omega arith
  wide_need scope t (new_variable site) f = omega arith
  wide_need scope t (literal_variable site e) f = omega arith
  wide_need scope t (slice_literal site es) f = omega arith
  wide_need scope t (make at site count room) f = omega arith
  wide_need scope t (append site e es) f = omega arith
  wide_need scope t (append_slice site e other) f = omega arith
  wide_need scope t (copy m e other) f = omega arith
  wide_need scope t (slicing at m e low high) f = omega arith
  wide_need scope t (array_slicing at q x low high) f = omega arith
  wide_need scope t (len e) (is, (m, f)) = let l = wide_need scope (slice_of m) e f in let w = wide_is p scope (slice_of m) e f in omega (arith, l, w)
  wide_need scope t (cap e) (is, (m, f)) = let l = wide_need scope (slice_of m) e f in let w = wide_is p scope (slice_of m) e f in omega (arith, l, w)

  values_need : (scope : List ℕ) (ts : List TypeTree) (es : Exs) → ExsFit p scope ts es → all_wide p es ≤ need_all p es
  values_need scope ts none f = omega arith
  values_need scope [] (more e es) f = absurd f
  values_need scope (t ∷ ts) (more e es) f = let l = values_need scope ts es f.1 in omega arith
  values_need scope ts (results g es) f = omega arith
  values_need scope ts read_int f = omega arith

  -- elements of one type are values of their types
  abbrev each_one : TypeTree → Exs → List TypeTree
  each_one t none = []
  each_one t (more e es) = t ∷ each_one t es
  each_one t es = []

  all_fit : (scope : List ℕ) (t : TypeTree) (es : Exs) → AllFit p scope t es → ExsFit p scope (each_one t es) es
  all_fit scope t none f = tt
  all_fit scope t (more e es) f = (f.0, all_fit scope t es f.1)
  all_fit scope t (results g es) f = absurd f
  all_fit scope t read_int f = absurd f

  all_words : (scope : List ℕ) (t : TypeTree) (es : Exs) → AllFit p scope t es → length (value_widths p es) * width t ≡ all_wide p es
  all_words scope t none f = omega arith
  all_words scope t (more e es) f =
      let one = wide_is p scope t e f.0 in let others = all_words scope t es f.1 in omega (arith, one, others, suc-mul (length (value_widths p es)) (width t))
  all_words scope t (results g es) f = absurd f
  all_words scope t read_int f = absurd f

  -- a slice wants the temps of its header
  header_need : (scope : List ℕ) (m : ℕ) (e : Ex) → ExFits p scope (slice_of m) e → 3 ≤ need p e
  header_need scope m e f = let l = wide_need scope (slice_of m) e f in let w = wide_is p scope (slice_of m) e f in omega (arith, l, w)

  -- a number or a truth value wants a temp
  some_need : (scope : List ℕ) (t : TypeTree) (e : Ex) → width t ≡ 1 → ExFits p scope t e → 0 < need p e
  some_need scope t e one f = let l = wide_need scope t e f in let w = wide_is p scope t e f in omega arith

  -- the frame's slots
  module _ (pl : Placement) (outgoing temps first n : ℕ) where
    abbrev s : Slots
    s = record { outgoing = outgoing; temps = temps; first = first; count = n; placement = pl; types = p.types; sites = p.sites; made = p.made; globals = map (λ g. g.0) p.globals }

    -- the next site, and the next ones
    next_fits : (m site : ℕ) → first ≤ m → IsNext p m (first + n) site → SiteFits s n site
    next_fits m site a (from, last, named) = (omega (arith, a, from), last, named)

    next_fit : (m : ℕ) (sites : List ℕ) → first ≤ m → SitesNext p m (first + n) sites → SitesFit s n sites
    next_fit m [] a f = tt
    next_fit m (site ∷ sites) a f = let fit = next_fits m site a f.0 in (fit, next_fit (suc site) sites (let from = fit.0 in omega (arith, from)) f.1)

    -- the type of a package variable, by its site
    same_global : (g : ℕ) → variable_type s g ≡ global_type p g
    same_global g = ap (λ site. get_or p.sites site ints) (get_or-map (λ (v : ℕ × Value). v.0) p.globals g (0, int (pos 0)))

    -- the steps of a place lead from what it begins at to its part
    root_leads : (scope : List ℕ) (t : TypeTree) (q : Pl) → PlFits p scope t q → StepsLead p scope (root_type s q) (steps_of q) t
    root_leads scope t (local v steps) f = f.1
    root_leads scope t (global g steps) f = subst (λ u. StepsLead p scope u steps t) (sym (same_global g)) f.1
    root_leads scope t (indirect at e m steps) f = f.1
    root_leads scope t (slice_element at e i m steps) f = f.2

    root_fits : (scope : List ℕ) (t : TypeTree) (q : Pl) → Below s n scope → PlFits p scope t q → RootFits s n q
    root_fits scope t (local v steps) b f = b v f.0
    root_fits scope t (global g steps) b f = let there = f.0 in omega (arith, there, length-map p.globals (λ (v : ℕ × Value). v.0))
    root_fits scope t (indirect at e m steps) b f = tt
    root_fits scope t (slice_element at e i m steps) b f = tt

    -- the part has words
    some_words : (scope : List ℕ) (t : TypeTree) (q : Pl) → PlFits p scope t q → 0 < width t
    some_words scope t (local v steps) f = f.2
    some_words scope t (global g steps) f = f.2
    some_words scope t (indirect at e m steps) f = f.2
    some_words scope t (slice_element at e i m steps) f = f.3

    -- as many as its type
    part_is : (scope : List ℕ) (t : TypeTree) (q : Pl) → PlFits p scope t q → type_at (root_type s q) (path_of (steps_of q)) ≡ t
    part_is scope t q f = let own = root_type s q in let path = path_of (steps_of q) in leads_to own t path (steps_lead scope own t (steps_of q) (root_leads scope t q f))

    words_are : (scope : List ℕ) (t : TypeTree) (q : Pl) → PlFits p scope t q → near_words s q ≡ width t
    words_are scope t q f = ap width (part_is scope t q f)

    -- an array that is sliced has elements, with their words
    elements_are : (scope : List ℕ) (x : ℕ) (r : TypeTree) (q : Pl) → PlFits p scope (array_of x r) q → element_words s q ≡ width r
    elements_are scope x r q f =
        let some = array_some x r (some_words scope (array_of x r) q f) in
        ap width (ap (λ u. part_type u 0) (part_is scope (array_of x r) q f) ∙ ((element x r r 0 [] some).leads refl).1)

    moves_fit : (h : ℕ) (sites : List ℕ) → h + widest p sites ≤ temps → MovesFit s h sites
    moves_fit h [] l = tt
    moves_fit h (site ∷ sites) l = (omega arith, moves_fit h sites (omega arith))

    place_fits : (scope : List ℕ) (t : TypeTree) (q : Pl) → Below s n scope → PlFits p scope t q → PlaceFits s n q
    place_fits scope t q b f =
        let own = root_type s q in let leads = root_leads scope t q f in let is = words_are scope t q f in let some = some_words scope t q f in
        let l = within own t (path_of (steps_of q)) (steps_lead scope own t (steps_of q) leads) in
        (root_fits scope t q b f, omega (arith, is, some), omega (arith, is, l), indices_fit scope own t (steps_of q) leads some)

    words_most : (scope : List ℕ) (t : TypeTree) (q : Pl) → PlFits p scope t q → near_words s q ≤ width t
    words_most scope t q f = let is = words_are scope t q f in omega (arith, is)

    -- the words of a place are among those that it needs
    words_need : (scope : List ℕ) (t : TypeTree) (q : Pl) → PlFits p scope t q → near_words s q ≤ need p (read q)
    words_need scope t q f = let l = words_most scope t q f in let w = ap width (place_is_of p scope t q f) in omega (arith, l, w)

    -- how many words are compared
    compared_some : (a c : Ex) → 0 < wide p a → 0 < compared p a c
    compared_some a c some = by (is_nil a || is_nil c)
      where
        by : (none : Bool) → 0 < (if none then 1 else wide p a)
        by true = omega arith
        by false = some

    compared_most : (a c : Ex) (k : ℕ) → wide p a ≤ k → 0 < k → compared p a c ≤ k
    compared_most a c k l some = by (is_nil a || is_nil c)
      where
        by : (none : Bool) → (if none then 1 else wide p a) ≤ k
        by true = omega (arith, some)
        by false = l

    call_fits : (h f : ℕ) (func : Func) (scope : List ℕ) (es : Exs) → slice_get p.funcs f ≡ Some func → ExsFit p scope func.param_types es → h + need_all p es ≤ temps → h + results_of p f ≤ temps → arguments_of p f + results_of p f ≤ outgoing → CallFits p s n h f
    call_fits h f func scope es is fit l r o =
        let w : f < length p.funcs = slice_get_within p.funcs f func is in
        let given : arguments_of p f ≡ all_width func.param_types = ap arguments_in is in
        (w, omega (arith, w, form.few), o, omega (arith, values_need scope func.param_types es fit, all_wide_is p scope func.param_types es fit, given, l), r)

    -- what stands before the next element is within the whole
    before_within : (scope : List ℕ) (t : TypeTree) (es : Elements) → ElementsFit p scope t es → words_before t es ≤ width t
    before_within scope t no_elements f = omega arith
    before_within scope t (element_then i e es) f = let part = part_within t i f.0 in omega (arith, part)

    mutual
      ex_fits : (h : ℕ) (scope : List ℕ) (t : TypeTree) (e : Ex) → Below s n scope → ExFits p scope t e → h + need p e ≤ temps → reach p e ≤ outgoing → Fits p s n h e
      ex_fits h scope t (constant (int z)) b f l o = omega arith
      ex_fits h scope t (constant (bool c)) b f l o = omega arith
      ex_fits h scope t (constant v) b f l o = absurd f.1
      ex_fits h scope t (read q) b f l o =
          (omega (arith, words_need scope t q f, l), place_fits scope t q b f, place_room p temps h (far q) q (omega (arith, l)), operands_fit h scope t q (far q) 0 b f (omega (arith, l)) o)
      ex_fits h scope t (unary op e) b f l o = ((let k = some_need scope t e (plain_one t (takes_one op t f.0)) f.1 in omega arith), ex_fits h scope t e b f.1 l o)
      ex_fits h scope t (binary at op a c) b f l o = (
        (let some = takes_some p scope op a c f.0 t f.1 f.2 f.3 in let w = wide_is p scope f.0 a f.2 in compared_some a c (omega (arith, some, w))),
        (
            let some = takes_some p scope op a c f.0 t f.1 f.2 f.3 in let k = wide_need scope f.0 c f.3 in let w = wide_is p scope f.0 a f.2 in let v = wide_is p scope f.0 c f.3 in
            let most = compared_most a c (need p c) (omega (arith, k, w, v)) (omega (arith, some, k, v)) in omega (arith, most, l)
            ),
        ex_fits h scope f.0 a b f.2 (omega arith) (omega arith),
        ex_fits (h + wide p a) scope f.0 c b f.3 (omega arith) (omega arith),
      )
      ex_fits h scope t (logical_and a c) b f l o =
          ((let k = some_need scope bools a refl f.1 in omega arith), ex_fits h scope bools a b f.1 (omega arith) (omega arith), ex_fits h scope bools c b f.2 (omega arith) (omega arith))
      ex_fits h scope t (logical_or a c) b f l o =
          ((let k = some_need scope bools a refl f.1 in omega arith), ex_fits h scope bools a b f.1 (omega arith) (omega arith), ex_fits h scope bools c b f.2 (omega arith) (omega arith))
      ex_fits h scope t (call g es) b (func, is, one, f) l o =
          (call_fits h g func scope es is f (omega arith) (omega arith) (omega arith), exs_fit h scope func.param_types es b f (omega arith) (omega arith))
      ex_fits h scope t (part_of m i e) b f l o =
          let s = type_named p m in (
            (let w = ap width f.1 in let some = f.2 in omega (arith, w, some)),
            (let k = wide_need scope s e f.3 in let w = wide_is p scope s e f.3 in let part = part_within s i f.0 in omega (arith, k, w, part, l)),
            ex_fits h scope s e b f.3 l o,
          )
      ex_fits h scope t (literal m es) b f l o =
          let s = type_named p m in let is = ap width f.0 in let some = f.1 in (
            omega (arith, is, some),
            omega (arith, l),
            elements_fit h scope s (ascend es) es b (subst (λ u. ElementsFit p scope u es) (sym f.0) f.2) (omega (arith, l)) (omega (arith, l)) o,
          )
      ex_fits h scope t (nil m) b f l o = (let is = ap width f.0 in let some = nilable_some t f.1 in omega (arith, is, some), l)
      ex_fits h scope t (address_of q) b (m, same, fit, taken) l o =
          (omega arith, place_fits scope (type_named p m) q b fit, place_room p temps h (far q) q (omega arith), operands_fit h scope (type_named p m) q (far q) 0 b fit (omega arith) o)
      ex_fits h scope t (new_variable site) b f l o = omega arith
      ex_fits h scope t (literal_variable site e) b f l o =
          (form.solid site, (let is = wide_is p scope (site_type p site) e f.1 in omega (arith, is, l)), ex_fits h scope (site_type p site) e b f.1 (omega arith) o)
      ex_fits h scope t (slice_literal site es) b f l o =
          let u = site_type p site in let each = all_fit scope u es f.1 in let most = values_need scope (each_one u es) es each in
          (omega (arith, most, l), exs_fit (h + 3) scope (each_one u es) es b each (omega arith) (omega (arith, o)))
      ex_fits h scope t (make at site count room) b f l o =
          (omega arith, form.solid site, ex_fits (h + 1) scope ints count b f.1 (omega arith) (omega arith), bound_fits (h + 2) scope room b f.2 (omega arith) (omega arith))
      ex_fits h scope t (append site e es) b f l o =
          let u = site_type p site in let each = all_fit scope u es f.2 in let most = values_need scope (each_one u es) es each in let words = all_words scope u es f.2 in
          (omega (arith, most, words, l), form.solid site, ex_fits h scope t e b f.1 (omega arith) (omega arith), exs_fit (h + 3) scope (each_one u es) es b each (omega arith) (omega arith))
      ex_fits h scope t (append_slice site e other) b f l o =
          let header = header_need scope f.0.0 other (subst (λ u. ExFits p scope u other) f.0.1 f.2) in
          (omega (arith, header, l), form.solid site, ex_fits h scope t e b f.1 (omega arith) (omega arith), ex_fits (h + 3) scope t other b f.2 (omega arith) (omega arith))
      ex_fits h scope t (copy m e other) b f l o =
          let header = header_need scope m other f.3 in
          (omega (arith, header, l), f.1, ex_fits h scope (slice_of m) e b f.2 (omega arith) (omega arith), ex_fits (h + 3) scope (slice_of m) other b f.3 (omega arith) (omega arith))
      ex_fits h scope t (slicing at m e low high) b f l o =
          (omega arith, f.1, ex_fits h scope t e b f.2 (omega arith) (omega arith), bound_fits (h + 3) scope low b f.3 (omega arith) (omega arith), bound_fits (h + 4) scope high b f.4 (omega arith) (omega arith))
      ex_fits h scope t (array_slicing at q x low high) b (m, same, few, fit, taken, low_fit, high_fit) l o =
          let r = type_named p m in let u = array_of x r in let words = elements_are scope x r q fit in let some = solid m in (
            omega arith,
            omega (arith, words, some),
            place_fits scope u q b fit,
            place_room p temps h (far q) q (omega arith),
            operands_fit h scope u q (far q) 0 b fit (omega arith) (omega arith),
            bound_fits (h + 3) scope low b low_fit (omega arith) (omega arith),
            bound_fits (h + 4) scope high b high_fit (omega arith) (omega arith),
          )
      ex_fits h scope t (len e) b (is, (m, f)) l o = let header = header_need scope m e f in (omega (arith, header, l), ex_fits h scope (slice_of m) e b f l o)
      ex_fits h scope t (cap e) b (is, (m, f)) l o = let header = header_need scope m e f in (omega (arith, header, l), ex_fits h scope (slice_of m) e b f l o)

      bound_fits : (h : ℕ) (scope : List ℕ) (c : Bound) → Below s n scope → BoundFits p scope c → h + bound_need p c ≤ temps → bound_reach p c ≤ outgoing → BoundFitsIn p s n h c
      bound_fits h scope absent b f l o = tt
      bound_fits h scope (bound e) b f l o = (let k = some_need scope ints e refl f in omega (arith, k, l), ex_fits h scope ints e b f l o)

      -- the operands of a place, and some temps after them
      operands_fit : (h : ℕ) (scope : List ℕ) (t : TypeTree) (q : Pl) (behind others : ℕ) → Below s n scope → PlFits p scope t q → h + place_need p q behind ≤ temps → place_reach p q others ≤ outgoing → OperandsFit p s n h q
      operands_fit h scope t (local v steps) behind others b f l o = steps_fit h scope (site_type p v) t steps behind others b f.1 l o
      operands_fit h scope t (global g steps) behind others b f l o = steps_fit h scope (global_type p g) t steps behind others b f.1 l o
      operands_fit h scope t (indirect at e m steps) behind others b f l o = (
        (let k = some_need scope (pointer_to m) e refl f.0 in omega (arith, k, l)),
        ex_fits h scope (pointer_to m) e b f.0 (omega (arith, l)) (omega (arith, o)),
        steps_fit (h + 1) scope (type_named p m) t steps behind others b f.1 (omega (arith, l)) (omega (arith, o)),
      )
      operands_fit h scope t (slice_element at e i m steps) behind others b f l o = (
        omega (arith, l),
        ex_fits h scope (slice_of m) e b f.0 (omega (arith, l)) (omega (arith, o)),
        ex_fits (h + 3) scope ints i b f.1 (omega (arith, l)) (omega (arith, o)),
        steps_fit (h + 4) scope (type_named p m) t steps behind others b f.2 (omega (arith, l)) (omega (arith, o)),
      )

      steps_fit : (h : ℕ) (scope : List ℕ) (u t : TypeTree) (steps : Steps) (behind others : ℕ) → Below s n scope → StepsLead p scope u steps t → h + steps_need p steps behind ≤ temps → steps_reach p steps others ≤ outgoing
          → StepsFitIn p s n h steps
      steps_fit h scope u t here behind others b f l o = tt
      steps_fit h scope u t (inner i steps) behind others b f l o = steps_fit h scope (part_type u i) t steps behind others b f.1 l o
      steps_fit h scope u t (at_index at e m steps) behind others b (r, is, some, index, f) l o =
          (omega (arith, l), ex_fits h scope ints e b index (omega (arith, l)) (omega (arith, o)), steps_fit (h + 1) scope r t steps behind others b f (omega (arith, l)) (omega (arith, o)))

      -- the elements of a literal, which has its temps
      elements_fit : (h : ℕ) (scope : List ℕ) (t : TypeTree) (in_order : Bool) (es : Elements) → Below s n scope → ElementsFit p scope t es → h + width t ≤ temps → h + elements_need p t in_order es ≤ temps → elements_reach p es ≤ outgoing
          → ElementsFitIn p s n h t in_order es
      elements_fit h scope t in_order no_elements b f r l o = tt
      elements_fit h scope t true (element_then i e es) b f r l o = (
        (let part = part_within t i f.0 in let before = before_within scope t es f.3 in omega (arith, part, before, r)),
        ex_fits (h + part_offset t i) scope (part_type t i) e b f.2 (omega (arith, l)) (omega (arith, o)),
        elements_fit h scope t true es b f.3 r (omega (arith, l)) (omega (arith, o)),
      )
      elements_fit h scope t false (element_then i e es) b f r l o = (
        f.1,
        (let part = part_within t i f.0 in omega (arith, part, r)),
        (let k = wide_need scope (part_type t i) e f.2 in let w = wide_is p scope (part_type t i) e f.2 in omega (arith, k, w, l)),
        ex_fits (h + width t) scope (part_type t i) e b f.2 (omega (arith, l)) (omega (arith, o)),
        elements_fit h scope t false es b f.3 r (omega (arith, l)) (omega (arith, o)),
      )

      exs_fit : (h : ℕ) (scope : List ℕ) (ts : List TypeTree) (es : Exs) → Below s n scope → ExsFit p scope ts es → h + need_all p es ≤ temps → reach_all p es ≤ outgoing → ExsFitIn p s n h es
      exs_fit h scope ts none b f l o = tt
      exs_fit h scope [] (more e es) b f l o = absurd f
      exs_fit h scope (t ∷ ts) (more e es) b f l o =
          ((let k = wide_need scope t e f.0 in omega arith), ex_fits h scope t e b f.0 (omega arith) (omega arith), exs_fit (h + wide p e) scope ts es b f.1 (omega arith) (omega arith))
      exs_fit h scope [] (results g es) b (func, is, same, f) l o =
          (call_fits h g func scope es is f (omega arith) (omega arith) (omega arith), exs_fit h scope func.param_types es b f (omega arith) (omega arith))
      exs_fit h scope (t ∷ ts) (results g es) b (func, is, same, f) l o =
          (call_fits h g func scope es is f (omega arith) (omega arith) (omega arith), exs_fit h scope func.param_types es b f (omega arith) (omega arith))
      exs_fit h scope [] read_int b f l o = l
      exs_fit h scope (t ∷ ts) read_int b f l o = l

    pieces_fit : (h : ℕ) (scope : List ℕ) (ps : List Piece) → Below s n scope → PiecesFit p scope ps → h + need_pieces p ps ≤ temps → reach_pieces p ps ≤ outgoing → PiecesFitIn p s n h ps
    pieces_fit h scope [] b f l o = tt
    pieces_fit h scope (text number ∷ ps) b f l o = pieces_fit h scope ps b f.1 l o
    pieces_fit h scope (shown t e ∷ ps) b f l o = (
      (let k = some_need scope t e (plain_one t f.0.0) f.0.1 in omega arith),
      ex_fits h scope t e b f.0.1 (omega arith) (omega arith),
      pieces_fit (h + 1) scope ps b f.1 (omega arith) (omega arith),
    )

    test_fits : (h : ℕ) (scope : List ℕ) (test : Option Ex) → Below s n scope → TestFits p scope test → h + test_need p test ≤ temps → test_reach p test ≤ outgoing → TestFitsIn p s n h test
    test_fits h scope None b f l o = tt
    test_fits h scope (Some e) b f l o = ((let k = some_need scope bools e refl f in omega arith), ex_fits h scope bools e b f l o)

    -- left sides for values of these types
    lefts_fit : (at h : ℕ) (scope : List ℕ) (m : ℕ) (ts : List TypeTree) (ls : List Left) → first ≤ m → Below s n scope → LeftsFit p scope m (first + n) ts ls → h + all_width ts ≤ temps → at + lefts_far ls ≤ temps → LeftsFitIn s n at h (each_width ts) ls
    lefts_fit at h scope m ts [] a b f l k = tt
    lefts_fit at h scope m [] (left ∷ ls) a b f l k = absurd f
    lefts_fit at h scope m (t ∷ ts) (blank ∷ ls) a b f l k = (omega arith, tt, omega arith, lefts_fit at (h + width t) scope m ts ls a b f (omega arith) (omega arith))
    lefts_fit at h scope m (t ∷ ts) (new site ∷ ls) a b f l k = (
      omega arith,
      next_fits m site a f.0,
      (let e = ap width f.1 in omega (arith, e)),
      lefts_fit at (h + width t) scope (suc site) ts ls (let from = f.0.0 in omega (arith, a, from)) b f.2 (omega arith) (omega arith),
    )
    lefts_fit at h scope m (t ∷ ts) (to q ∷ ls) a b f l k = (
      omega arith,
      (place_fits scope t q b f.0, omega arith),
      words_most scope t q f.0,
      lefts_fit at (h + width t) scope m ts ls a b f.1 (omega arith) (omega arith),
    )

    -- the operands of left sides, and some temps after them
    ready_fit : (h : ℕ) (scope : List ℕ) (m e : ℕ) (ts : List TypeTree) (ls : List Left) (behind others : ℕ) → Below s n scope → LeftsFit p scope m e ts ls → h + lefts_need p ls behind ≤ temps → lefts_reach p ls others ≤ outgoing
        → ReadyFitIn p s n h ls
    ready_fit h scope m e ts [] behind others b f l o = tt
    ready_fit h scope m e [] (left ∷ ls) behind others b f l o = absurd f
    ready_fit h scope m e (t ∷ ts) (blank ∷ ls) behind others b f l o = ready_fit h scope m e ts ls behind others b f l o
    ready_fit h scope m e (t ∷ ts) (new site ∷ ls) behind others b f l o = ready_fit h scope (suc site) e ts ls behind others b f.2 l o
    ready_fit h scope m e (t ∷ ts) (to q ∷ ls) behind others b f l o = (
      operands_fit h scope t q (lefts_need p ls behind) (lefts_reach p ls others) b f.0 l o,
      ready_fit (place_above q h) scope m e ts ls behind others b f.1 (place_room p temps h (lefts_need p ls behind) q l) (let k = place_others p (lefts_reach p ls others) q in omega (arith, k, o)),
    )

    -- one left side for a number
    key_fits : (at : ℕ) (scope : List ℕ) (m : ℕ) (key : Left) → first ≤ m → Below s n scope → LeftsFit p scope m (first + n) (ints ∷ []) (key ∷ []) → at + left_far key ≤ temps → LeftFits s n at key × (left_words s key ≤ 1)
    key_fits at scope m blank a b f l = (tt, omega arith)
    key_fits at scope m (new site) a b f l = (next_fits m site a f.0, (let e = ap width f.1 in omega (arith, e)))
    key_fits at scope m (to q) a b f l = ((place_fits scope ints q b f.0, l), words_most scope ints q f.0)

    -- the left sides of a round over a slice of elements of a type
    first_fit : (scope : List ℕ) (m : ℕ) (r : TypeTree) (key : Left) → LeftsFit p scope m (first + n) (ints ∷ r ∷ []) (key ∷ blank ∷ []) → LeftsFit p scope m (first + n) (ints ∷ []) (key ∷ [])
    first_fit scope m r blank f = tt
    first_fit scope m r (new site) f = (f.0, f.1, tt)
    first_fit scope m r (to q) f = (f.0, tt)

    pair_fits : (h : ℕ) (scope : List ℕ) (m : ℕ) (r : TypeTree) (ls : List Left) (others : ℕ) → first ≤ m → Below s n scope → LeftsFit p scope m (first + n) (ints ∷ r ∷ []) ls → h + pair_need p ls (1 + width r) ≤ temps → lefts_reach p ls others ≤ outgoing
        → (let v = lefts_above ls h in ReadyFitIn p s n h ls × (v + 1 + width r ≤ temps) × LeftsFitIn s n (v + 1 + width r) v (1 ∷ width r ∷ []) ls)
    pair_fits h scope m r ls others a b f l o =
        let w = width r in let v = lefts_above ls h in let behind = max (1 + w) (behind_values (1 + w) (lefts_far ls)) in
        let room = lefts_room p temps h behind ls l in let address = address_room temps v (1 + w) (lefts_far ls) (omega (arith, room)) (omega (arith, room)) in (
          ready_fit h scope m (first + n) (ints ∷ r ∷ []) ls behind others b f l o,
          omega (arith, room),
          lefts_fit (v + 1 + w) v scope m (ints ∷ r ∷ []) ls a b f (omega (arith, room)) (omega (arith, address)),
        )

    slice_round_fits : (h : ℕ) (scope : List ℕ) (m : ℕ) (r : TypeTree) (key value : Left) (others : ℕ) → first ≤ m → Below s n scope → LeftsFit p scope m (first + n) (ints ∷ r ∷ []) (key ∷ value ∷ []) → h + (4 + elements_round p (width r) key value) ≤ temps
        → lefts_reach p (key ∷ value ∷ []) others ≤ outgoing → SliceRoundFits p s n (width r) h key value
    slice_round_fits h scope m r key blank others a b f l o =
        let fit = first_fit scope m r key f in let alone = key_alone p key others in let room = array_room p temps (h + 3) key (omega (arith, l)) in
        let above : h + 4 + lefts_need p (key ∷ []) (left_far key) ≤ temps = omega (arith, room) in
        let gets = key_fits (lefts_above (key ∷ []) (h + 4)) scope m key a b fit (lefts_room p temps (h + 4) (left_far key) (key ∷ []) above) in
        (ready_fit (h + 4) scope m (first + n) (ints ∷ []) (key ∷ []) (left_far key) others b fit above (omega (arith, alone, o)), gets.0, gets.1)
    slice_round_fits h scope m r key (new site) others a b f l o = pair_fits (h + 4) scope m r (key ∷ new site ∷ []) others a b f (omega (arith, l)) o
    slice_round_fits h scope m r key (to q) others a b f l o = pair_fits (h + 4) scope m r (key ∷ to q ∷ []) others a b f (omega (arith, l)) o

    below_behind : (m : ℕ) (scope around : List ℕ) (ts : List TypeTree) (ls : List Left) → first ≤ m → Below s n scope → LeftsFit p around m (first + n) ts ls → Below s n (scope_behind scope ls)
    below_behind m scope around ts [] a b f = b
    below_behind m scope around [] (left ∷ ls) a b f = absurd f
    below_behind m scope around (t ∷ ts) (blank ∷ ls) a b f = below_behind m scope around ts ls a b f
    below_behind m scope around (t ∷ ts) (new site ∷ ls) a b f =
        let fit = next_fits m site a f.0 in
        below_behind (suc site) (site ∷ scope) around ts ls (let from = fit.0 in omega (arith, from)) (below_more s n site scope fit b) f.2
    below_behind m scope around (t ∷ ts) (to q ∷ ls) a b f = below_behind m scope around ts ls a b f.1

    module _ (wanted : List TypeTree) (named : List ℕ) where
      below_after : (looped : Bool) (m : ℕ) (scope : List ℕ) (t : St) → first ≤ m → Below s n scope → StFits p wanted (length named) looped scope m (first + n) t → Below s n (scope_after scope t)
      below_after looped m scope (declare sites) a b f = below_with s n scope sites b (next_fit m sites a f)
      below_after looped m scope (assign ls es) a b f = below_behind m scope scope f.0 ls a b f.1
      below_after looped m scope (update at q op e) a b f = b
      below_after looped m scope (bump at q op) a b f = b
      below_after looped m scope (discard es) a b f = b
      below_after looped m scope (block ss) a b f = b
      below_after looped m scope (if_stmt e x y) a b f = b
      below_after looped m scope (for_stmt sites test post body) a b f = b
      below_after looped m scope (range over key value body) a b f = b
      below_after looped m scope break_stmt a b f = b
      below_after looped m scope continue_stmt a b f = b
      below_after looped m scope (return_stmt es) a b f = b
      below_after looped m scope (print ln ps) a b f = b
      below_after looped m scope (panic at q) a b f = b
      below_after looped m scope (exit at e) a b f = b

      -- no values, or one for each result
      given : (scope : List ℕ) (k : ℕ) (es : Exs) → ReturnFits p scope wanted k es → (all_wide p es ≡ 0) ⊎ ((all_wide p es ≡ all_width wanted) × (all_width wanted ≤ need_all p es))
      given scope k none f = inl refl
      given scope k (more e es) f = inr (all_wide_is p scope wanted (more e es) f, omega (arith, values_need scope wanted (more e es) f, all_wide_is p scope wanted (more e es) f))
      given scope k (results g es) f = inr (all_wide_is p scope wanted (results g es) f, omega (arith, values_need scope wanted (results g es) f, all_wide_is p scope wanted (results g es) f))
      given scope k read_int f = inr (all_wide_is p scope wanted read_int f, omega (arith, values_need scope wanted read_int f, all_wide_is p scope wanted read_int f))

      module _ (names : (named ≡ []) ⊎ (sites_words s named ≡ all_width wanted)) where
        return_fits : (h : ℕ) (scope : List ℕ) (es : Exs) → ReturnFits p scope wanted (length named) es → h + need_all p es ≤ temps → ValuesFit s (all_width wanted) h (all_wide p es) named
        return_fits h scope es f l = by named (all_wide p es) (need_all p es) names (given scope (length named) es f) l
          where
            by : (sites : List ℕ) (c room : ℕ) → (sites ≡ []) ⊎ (sites_words s sites ≡ all_width wanted) → (c ≡ 0) ⊎ ((c ≡ all_width wanted) × (all_width wanted ≤ room)) → h + room ≤ temps → ValuesFit s (all_width wanted) h c sites
            by [] c room names (inl e) l = (omega (arith, e, l), omega (arith, e))
            by [] c room names (inr (e, r)) l = (omega (arith, e, r, l), omega (arith, e))
            by (site ∷ sites) zero room names g l = tt
            by (site ∷ sites) (suc c) room (inl e) g l = absurd (let q : length (site ∷ sites) ≡ 0 = ap length e in omega (arith, q))
            by (site ∷ sites) (suc c) room (inr e) (inl q) l = absurd (omega (arith, q))
            by (site ∷ sites) (suc c) room (inr e) (inr (q, r)) l = omega (arith, e, r, l)

        returned : (h : ℕ) (scope : List ℕ) (es : Exs) → Below s n scope → ReturnFits p scope wanted (length named) es → h + need_all p es ≤ temps → reach_all p es ≤ outgoing → ExsFitIn p s n h es
        returned h scope none b f l o = tt
        returned h scope (more e es) b f l o = exs_fit h scope wanted (more e es) b f l o
        returned h scope (results g es) b f l o = exs_fit h scope wanted (results g es) b f l o
        returned h scope read_int b f l o = exs_fit h scope wanted read_int b f l o

        mutual
          st_fits : (looped : Bool) (h m : ℕ) (scope : List ℕ) (t : St) → first ≤ m → Below s n scope → StFits p wanted (length named) looped scope m (first + n) t → h + st_need p named t ≤ temps → st_reach p t ≤ outgoing → StFitsIn p s n (all_width wanted) named h t
          st_fits looped h m scope (declare sites) a b f k o = next_fit m sites a f
          st_fits looped h m scope (assign ls es) a b (ts, lefts, fit) k o =
              let words = all_wide_is p scope ts es fit in let values = lefts_above ls h in
              let behind = max (need_all p es) (behind_values (all_wide p es) (lefts_far ls)) in
              let above : values + behind ≤ temps = lefts_room p temps h behind ls k in
              let calls = lefts_others p (reach_all p es) ls in
              let room : values + all_wide p es ≤ temps = omega (arith, values_need scope ts es fit, above) in (
                room,
                ready_fit h scope m (first + n) ts ls behind (reach_all p es) b lefts k o,
                exs_fit values scope ts es b fit (omega (arith, above)) (omega (arith, calls, o)),
                subst (λ ns. LeftsFitIn s n (values + all_wide p es) values ns ls) (sym (widths_are p scope ts es fit))
                    (lefts_fit (values + all_wide p es) values scope m ts ls a b lefts (omega (arith, room, words)) (address_room temps values (all_wide p es) (lefts_far ls) room (omega (arith, above)))),
              )
          st_fits looped h m scope (update at q op e) a b f k o =
              let v = above_address (far q) (place_above q h) in let sum = above_sum q (place_above q h) in
              let above = place_room p temps h (far q + 1 + need p e) q k in let calls = place_others p (reach p e) q in (
                (let c = some_need scope ints e refl f.2 in omega (arith, above, sum, c)),
                place_fits scope ints q b f.1,
                words_most scope ints q f.1,
                operands_fit h scope ints q (far q + 1 + need p e) (reach p e) b f.1 k o,
                ex_fits (v + 1) scope ints e b f.2 (omega (arith, above, sum)) (omega (arith, calls, o)),
              )
          st_fits looped h m scope (bump at q op) a b f k o =
              let sum = above_sum q (place_above q h) in let above = place_room p temps h (far q + 2) q k in
              (omega (arith, above, sum), place_fits scope ints q b f.1, words_most scope ints q f.1, operands_fit h scope ints q (far q + 2) 0 b f.1 k o)
          st_fits looped h m scope (discard es) a b (ts, fit) k o = exs_fit h scope ts es b fit k o
          st_fits looped h m scope (block ss) a b f k o = sts_fit looped h m scope ss a b f k o
          st_fits looped h m scope (if_stmt e x y) a b f k o = (
            (let c = some_need scope bools e refl f.0 in omega arith),
            ex_fits h scope bools e b f.0 (omega arith) (omega arith),
            sts_fit looped h m scope x a b f.1 (omega arith) (omega arith),
            sts_fit looped h (all_sites_after m x) scope y (let r = after_all p (first + n) wanted (length named) looped scope m x f.1 in omega (arith, a, r)) b f.2 (omega arith) (omega arith),
          )
          st_fits looped h m scope (for_stmt sites test post body) a b f k o = (
            test_fits h scope test b f.1 (omega arith) (omega arith),
            sites_below s n scope sites b f.0,
            moves_fit h sites (omega arith),
            sts_fit false h m scope post a b f.2 (omega arith) (omega arith),
            sts_fit true h (all_sites_after m post) scope body (let r = after_all p (first + n) wanted (length named) false scope m post f.2 in omega (arith, a, r)) b f.3 (omega arith) (omega arith),
          )
          st_fits looped h m scope (range (over_int e) key blank body) a b f k o =
              let above = key_room p temps h key (omega arith) in let calls = lefts_others p (sts_reach p body) (key ∷ []) in let alone = key_alone p key (sts_reach p body) in
              let fit = key_fits (lefts_above (key ∷ []) (h + 2)) scope m key a b f.1 (lefts_room p temps (h + 2) (left_far key) (key ∷ []) above) in (
                omega arith,
                ex_fits h scope ints e b f.0 (omega arith) (omega arith),
                ready_fit (h + 2) scope m (first + n) (ints ∷ []) (key ∷ []) (left_far key) (sts_reach p body) b f.1 above (omega (arith, alone, o)),
                fit.0,
                fit.1,
                sts_fit true (h + 2) (lefts_after m (key ∷ [])) (scope_behind scope (key ∷ [])) body (let r = after_lefts p (first + n) scope m (ints ∷ []) (key ∷ []) f.1 in omega (arith, a, r)) (below_behind m scope scope (ints ∷ []) (key ∷ []) a b f.1) f.2 (omega arith) (omega (arith, calls, alone, o)),
              )
          st_fits looped h m scope (range (over_int e) key (new site) body) a b f k o = absurd f
          st_fits looped h m scope (range (over_int e) key (to q) body) a b f k o = absurd f
          st_fits looped h m scope (range (over_length x) key blank body) a b f k o =
              let above = array_room p temps h key (omega arith) in let calls = lefts_others p (sts_reach p body) (key ∷ []) in let alone = key_alone p key (sts_reach p body) in
              let fit = key_fits (lefts_above (key ∷ []) (h + 1)) scope m key a b f.1 (lefts_room p temps (h + 1) (left_far key) (key ∷ []) above) in (
                omega arith,
                ready_fit (h + 1) scope m (first + n) (ints ∷ []) (key ∷ []) (left_far key) (sts_reach p body) b f.1 above (omega (arith, alone, o)),
                fit.0,
                fit.1,
                sts_fit true (h + 1) (lefts_after m (key ∷ [])) (scope_behind scope (key ∷ [])) body (let r = after_lefts p (first + n) scope m (ints ∷ []) (key ∷ []) f.1 in omega (arith, a, r)) (below_behind m scope scope (ints ∷ []) (key ∷ []) a b f.1) f.2 (omega arith) (omega (arith, calls, alone, o)),
              )
          st_fits looped h m scope (range (over_length x) key (new site) body) a b f k o = absurd f
          st_fits looped h m scope (range (over_length x) key (to q) body) a b f k o = absurd f
          st_fits looped h m scope (range (over_copy site e x) key value body) a b (r, is, wide, few, place, fit, lefts, inner_fit) k o =
              let ls = key ∷ value ∷ [] in let v = lefts_above ls (h + 1) in let w = width (part_type (site_type p site) 0) in
              let behind = max (1 + w) (behind_values (1 + w) (lefts_far ls)) in
              let room = lefts_room p temps (h + 1) behind ls (omega arith) in let calls = lefts_others p (sts_reach p body) ls in
              let after = after_lefts p (first + n) (site ∷ scope) m (ints ∷ r ∷ []) ls lefts in
              let own = next_fits (lefts_after m ls) site (omega (arith, a, after)) place in
              let around = below_more s n site scope own b in
              let some : 0 < x = array_some x r (subst (λ u. 0 < width u) is (form.solid site)) in
              let same : w ≡ width r = ap width (ap (λ u. part_type u 0) is ∙ ((element x r r 0 [] some).leads refl).1) in
              let words = ap width is in let wanted = wide_need scope (array_of x r) e fit in let long = wide_is p scope (array_of x r) e fit in
              let address = address_room temps v (1 + w) (lefts_far ls) (omega (arith, room)) (omega (arith, room)) in (
                omega arith,
                own,
                omega (arith, words, wanted, long, k),
                some,
                omega (arith, words, array_long x r wide),
                omega (arith, same, wide),
                ex_fits h scope (array_of x r) e b fit (omega arith) (omega (arith, o)),
                ready_fit (h + 1) (site ∷ scope) m (first + n) (ints ∷ r ∷ []) ls behind (sts_reach p body) around lefts (omega arith) (omega (arith, o)),
                omega (arith, room),
                subst (λ j. LeftsFitIn s n (v + 1 + w) v (1 ∷ j ∷ []) ls) (sym same) (lefts_fit (v + 1 + w) v (site ∷ scope) m (ints ∷ r ∷ []) ls a around lefts (omega (arith, room, same)) (omega (arith, address))),
                sts_fit true (h + 1) (suc site) (scope_behind (site ∷ scope) ls) body (let from = own.0 in omega (arith, from)) (below_behind m (site ∷ scope) (site ∷ scope) (ints ∷ r ∷ []) ls a around lefts) inner_fit (omega arith) (omega (arith, calls, o)),
              )
          st_fits looped h m scope (range (over_pointer at e x t) key value body) a b (arr, is, wide, few, used, fit, lefts, inner_fit) k o =
              let ls = key ∷ value ∷ [] in let v = lefts_above ls (h + 2) in let r = type_named p t in let w = width r in
              let behind = max (1 + w) (behind_values (1 + w) (lefts_far ls)) in
              let room = lefts_room p temps (h + 2) behind ls (omega arith) in let calls = lefts_others p (sts_reach p body) ls in
              let some : 0 < x = array_some x r (subst (λ u. 0 < width u) is (solid arr)) in
              let words = ap width is in let wanted = some_need scope (pointer_to arr) e refl fit in
              let address = address_room temps v (1 + w) (lefts_far ls) (omega (arith, room)) (omega (arith, room)) in (
                omega arith,
                (arr, omega (arith, words, array_long x r wide)),
                some,
                wide,
                ex_fits h scope (pointer_to arr) e b fit (omega arith) (omega (arith, o)),
                ready_fit (h + 2) scope m (first + n) (ints ∷ r ∷ []) ls behind (sts_reach p body) b lefts (omega arith) (omega (arith, o)),
                omega (arith, room),
                lefts_fit (v + 1 + w) v scope m (ints ∷ r ∷ []) ls a b lefts (omega (arith, room)) (omega (arith, address)),
                sts_fit true (h + 2) (lefts_after m ls) (scope_behind scope ls) body (let after = after_lefts p (first + n) scope m (ints ∷ r ∷ []) ls lefts in omega (arith, a, after)) (below_behind m scope scope (ints ∷ r ∷ []) ls a b lefts) inner_fit (omega arith) (omega (arith, calls, o)),
              )
          st_fits looped h m scope (range (over_pointed x) key blank body) a b f k o =
              let above = key_room p temps h key (omega arith) in let calls = lefts_others p (sts_reach p body) (key ∷ []) in let alone = key_alone p key (sts_reach p body) in
              let fit = key_fits (lefts_above (key ∷ []) (h + 2)) scope m key a b f.1 (lefts_room p temps (h + 2) (left_far key) (key ∷ []) above) in (
                omega arith,
                ready_fit (h + 2) scope m (first + n) (ints ∷ []) (key ∷ []) (left_far key) (sts_reach p body) b f.1 above (omega (arith, alone, o)),
                fit.0,
                fit.1,
                sts_fit true (h + 2) (lefts_after m (key ∷ [])) (scope_behind scope (key ∷ [])) body (let r = after_lefts p (first + n) scope m (ints ∷ []) (key ∷ []) f.1 in omega (arith, a, r)) (below_behind m scope scope (ints ∷ []) (key ∷ []) a b f.1) f.2 (omega arith) (omega (arith, calls, alone, o)),
              )
          st_fits looped h m scope (range (over_pointed x) key (new site) body) a b f k o = absurd f
          st_fits looped h m scope (range (over_pointed x) key (to q) body) a b f k o = absurd f
          st_fits looped h m scope (range (over_slice e t) key value body) a b (wide, fit, lefts, inner_fit) k o =
              let ls = key ∷ value ∷ [] in let r = type_named p t in let calls = lefts_others p (sts_reach p body) ls in (
                omega arith,
                wide,
                ex_fits h scope (slice_of t) e b fit (omega arith) (omega (arith, o)),
                slice_round_fits h scope m r key value (sts_reach p body) a b lefts (omega (arith, k)) (omega (arith, o)),
                sts_fit true (h + 4) (lefts_after m ls) (scope_behind scope ls) body (let after = after_lefts p (first + n) scope m (ints ∷ r ∷ []) ls lefts in omega (arith, a, after)) (below_behind m scope scope (ints ∷ r ∷ []) ls a b lefts) inner_fit (omega arith) (omega (arith, calls, o)),
              )
          st_fits looped h m scope break_stmt a b f k o = tt
          st_fits looped h m scope continue_stmt a b f k o = tt
          st_fits looped h m scope (return_stmt es) a b f k o = (returned h scope es b f (omega arith) o, return_fits h scope es f (omega arith))
          st_fits looped h m scope (print ln ps) a b f k o = pieces_fit h scope ps b f k o
          st_fits looped h m scope (panic at (text number)) a b f k o = tt
          st_fits looped h m scope (panic at (shown t e)) a b f k o = ((let c = some_need scope t e (plain_one t f.0) f.1 in omega arith), ex_fits h scope t e b f.1 k o)
          st_fits looped h m scope (exit at e) a b f k o = ((let c = some_need scope ints e refl f in omega arith), ex_fits h scope ints e b f k o)

          sts_fit : (looped : Bool) (h m : ℕ) (scope : List ℕ) (ss : Sts) → first ≤ m → Below s n scope → StsFit p wanted (length named) looped scope m (first + n) ss → h + sts_need p named ss ≤ temps → sts_reach p ss ≤ outgoing → StsFitIn p s n (all_width wanted) named h ss
          sts_fit looped h m scope done a b f k o = tt
          sts_fit looped h m scope (next x xs) a b f k o =
              let after = after_one p (first + n) wanted (length named) looped scope m x f.0 in
              (st_fits looped h m scope x a b f.0 (omega arith) (omega arith), sts_fit looped h (declared_after m x) (scope_after scope x) xs (omega (arith, a, after)) (below_after looped m scope x a b f.0) f.1 (omega arith) (omega arith))

-- parameters and results with names are sites of the frame
params_fit : (p : Program) (pl : Placement) (f : Func) (m : ℕ) (ts : List TypeTree) (ps : List (Option ℕ)) → entry_need pl ps ts ≤ temps_of p pl f → f.first ≤ m → m + named_params ps ≤ f.first + f.count → ParamsFit p m ts ps
    → ParamsFitIn (slots_of p pl f) f.count (each_width ts) ps
params_fit p pl f m ts [] k a b fit = tt
params_fit p pl f m [] (None ∷ ps) k a b fit = absurd fit
params_fit p pl f m [] (Some site ∷ ps) k a b fit = absurd fit
params_fit p pl f m (t ∷ ts) (None ∷ ps) k a b fit = (tt, tt, params_fit p pl f m ts ps k a b fit)
params_fit p pl f m (t ∷ ts) (Some site ∷ ps) k a b fit =
    let from : f.first ≤ site = (let e = fit.0 in omega (arith, e)) in
    let behind : site < f.first + f.count = (let e = fit.0 in omega (arith, e)) in
    let apart : pl.on_heap site ≡ true → width t ≤ temps_of p pl f = λ is. (let w = ap (λ (heap : Bool). if heap then width t else 0) is in omega (arith, w, k)) in
    ((from, behind, fit.1), (ap width fit.2, apart), params_fit p pl f (suc m) ts ps (omega (arith, k)) (omega arith) (omega arith) fit.3)

named_fit : (p : Program) (s : Slots) → s.made ≡ p.made → (n m : ℕ) (sites : List ℕ) → s.first ≤ m → m + length sites ≤ s.first + n → NamedFit p m sites → SitesFit s n sites
named_fit p s same n m [] a l f = tt
named_fit p s same n m (site ∷ sites) a l f =
    let from : s.first ≤ site = (let e = f.0 in omega (arith, e)) in
    let behind : site < s.first + n = (let e = f.0 in omega (arith, e)) in
    ((from, behind, ap (λ (made : List Bool). get_or made site false) same ∙ f.1), named_fit p s same n (suc m) sites (omega arith) (omega arith) f.2)

below_params : (s : Slots) (n : ℕ) (scope ns : List ℕ) (ps : List (Option ℕ)) → Below s n scope → ParamsFitIn s n ns ps → Below s n (params_scope scope ps)
below_params s n scope ns [] b f = b
below_params s n scope ns (None ∷ ps) b f = below_params s n scope (other_widths ns) ps b f.2
below_params s n scope ns (Some site ∷ ps) b f = below_params s n (site ∷ scope) (other_widths ns) ps (below_more s n site scope f.0 b) f.2

names_are : (p : Program) (pl : Placement) (f : Func) → FuncFits p f → (f.named ≡ []) ⊎ (sites_words (slots_of p pl f) f.named ≡ result_words f)
names_are p pl f fit = elim fit.names [ inl e ↦ inl e | inr e ↦ inr (names_words p (slots_of p pl f) refl f.named ∙ ap all_width e) ]

names_fit : (s : Slots) (named : List ℕ) (wanted : ℕ) → (named ≡ []) ⊎ (sites_words s named ≡ wanted) → sites_words s named ≤ wanted
names_fit s named wanted (inl e) = let q = ap (sites_words s) e in omega (arith, q)
names_fit s named wanted (inr e) = omega (arith, e)

pub func_fits : (p : Program) (pl : Placement) (f : Func) → IsInForm p → ((t : ℕ) → 0 < width (type_named p t)) → FuncFits p f → FuncFitsIn p pl f
func_fits p pl f form solid fit =
    let s = slots_of p pl f in
    let params = params_fit p pl f f.first f.param_types f.params (omega arith) (omega arith) (omega (arith, fit.count)) fit.params in
    let named = named_fit p s refl f.count (f.first + named_params f.params) f.named (omega arith) (omega (arith, fit.count)) fit.named in
    let scope = below_with s f.count (params_scope [] f.params) f.named (below_params s f.count [] (each_width f.param_types) f.params (λ v i. absurd i) params) named in
    let names = names_are p pl f fit in
    record {
      params = params;
      named = named;
      names = names_fit s f.named (result_words f) names;
      moves = moves_fit p form solid pl s.outgoing s.temps f.first f.count 0 f.named (omega arith);
      body = sts_fit p form solid pl s.outgoing s.temps f.first f.count f.results f.named names false 0 (body_first f) (scope_in f) f.body (omega arith) scope fit.body (omega arith) (omega arith);
      small = fit.small;
    }
