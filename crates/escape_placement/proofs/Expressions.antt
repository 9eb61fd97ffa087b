-- What flows in the expressions of a function in form is good.
use Rattle.std.proofs.Common.{◌≡◌, ℕ, ◌<◌, Bool, true, List, [], ◌∷◌, ◌++◌, map, length, Some, slice_get}
use Rattle.std.specs.Prelude.{◌&&◌}
use Rattle.value_flows.specs.Syntax as flow
use Rattle.typed_syntax.specs.Types.{TypeTree, ints, bools, part_type, array_of, pointer_to, slice_of}
use Rattle.typed_syntax.specs.Syntax.{Ex, Exs, Pl, Steps, Bound, Elements, Func, Program, constant, read, unary, binary, logical_and, logical_or, call, part_of, literal, nil, address_of, new_variable, literal_variable, slice_literal, make, append, append_slice, copy, slicing, array_slicing, len, cap, absent, bound, no_elements, element, local, global, indirect, slice_element, here, inner, at_index, none, more, results, read_int, type_named, site_type, place_type, global_type}
use Rattle.typed_syntax.specs.Form.{InScope, PlFits, StepsLead, ExFits, BoundFits, AllFit, ElementsFit, ExsFit}
use Rattle.param_tags.specs.Order.{IsOf}
use Rattle.typed_flows.specs.Pointers.{has_pointers}
use Rattle.typed_flows.specs.Values.{row, to_site, to_heap, stored, value, place_value, place_address, index_values, bound_value, element_values, values, arguments}
use Rattle.escape_placement.specs.Sites.{ExMakes, BoundMakes, PlaceMakes, StepsMake, ElementsMake, ExsMake, is_constant, is_bound_constant}
use Rattle.escape_placement.proofs.Good.{Good, EachGood, AllGood, Goods, good_row, goods_both, goods_sent, good_held, good_copied}

-- the sites that can be named are the function's
abbrev pub AreOwn : flow.Program → ℕ → List ℕ → Type 0
AreOwn F f scope = (x : ℕ) → InScope x scope → IsOf F f x

module _ (p : Program) (F : flow.Program) (f : ℕ) (Is : Bool → ℕ → Type 0) (made : (b : Bool) (x : ℕ) → Is b x → IsOf F f x) (there : (g : ℕ) (func : Func) → slice_get p.funcs g ≡ Some func → g < length F.funcs) where
  stored_good : (x : ℕ) (vs : List flow.Val) → IsOf F f x → Goods F f vs → Good F f (stored x vs)
  stored_good x vs own h = (good_row F f (map (flow.sent (to_site x)) vs) (goods_sent F f (to_site x) vs (own, tt) h), own)

  -- the indices of an element of a slice
  element_good : (i : Ex) (steps : Steps) → Goods F f (index_values p steps) → Good F f (value p i) → EachGood F f (row (index_values p steps ++ value p i ∷ []))
  element_good i steps before last = good_row F f (index_values p steps ++ value p i ∷ []) (goods_both F f (index_values p steps) (value p i ∷ []) before (last, tt))

  module _ (scope : List ℕ) (own : AreOwn F f scope) where
    mutual
      pub ex_good : (t : TypeTree) (e : Ex) → ExFits p scope t e → ExMakes Is e → Good F f (value p e)
      ex_good t (constant v) h m = tt
      ex_good t (read q) h m = good_held F f (has_pointers (place_type p q)) (place_value p q) (place_good t q h m)
      ex_good t (unary op e) h m = ((ex_good t e h.1 m, tt), tt)
      ex_good t (binary at op a b) h m = ((ex_good h.0 a h.2 m.0, (ex_good h.0 b h.3 m.1, tt)), tt)
      ex_good t (logical_and a b) h m = ((ex_good bools a h.1 m.0, (ex_good bools b h.2 m.1, tt)), tt)
      ex_good t (logical_or a b) h m = ((ex_good bools a h.1 m.0, (ex_good bools b h.2 m.1, tt)), tt)
      ex_good t (call g es) h m = (there g h.0 h.1, arguments_good h.0.param_types es h.3 m)
      ex_good t (part_of n i e) h m = good_held F f (has_pointers (part_type (type_named p n) i)) (value p e) (ex_good (type_named p n) e h.3 m)
      ex_good t (literal n es) h m = good_row F f (element_values p es) (elements_good t es h.2 m)
      ex_good t (nil s) h m = tt
      ex_good t (address_of q) h m = address_good (type_named p h.0) q (has_pointers (place_type p q)) h.2 m
      ex_good t (new_variable site) h m = made true site m
      ex_good t (literal_variable site e) h m = stored_good site (value p e ∷ []) (made true site m.0) (ex_good (site_type p site) e h.1 m.1, tt)
      ex_good t (slice_literal site es) h m = stored_good site (values p es) (made true site m.0) (all_good (site_type p site) es h.1 m.1)
      ex_good t (make at site count room) h m = ((ex_good ints count h.1 m.1, (bound_good room h.2 m.2, tt)), made (is_constant count && is_bound_constant room) site m.0)
      ex_good t (append site e es) h m =
          (good_row F f (map (flow.sent to_heap) (values p es)) (goods_sent F f to_heap (values p es) (tt, tt) (all_good (site_type p site) es h.2 m.2)), good_copied F f (has_pointers (site_type p site)) (value p e) (ex_good t e h.1 m.1))
      ex_good t (append_slice site a b) h m =
          ((good_copied F f (has_pointers (site_type p site)) (value p b) (ex_good t b h.2 m.2), tt), good_copied F f (has_pointers (site_type p site)) (value p a) (ex_good t a h.1 m.1))
      ex_good t (copy n a b) h m = ((ex_good (slice_of n) a h.2 m.0, (good_copied F f (has_pointers (type_named p n)) (value p b) (ex_good (slice_of n) b h.3 m.1), tt)), tt)
      ex_good t (slicing at n e low high) h m = ((bound_good low h.3 m.1, (bound_good high h.4 m.2, tt)), ex_good t e h.2 m.0)
      ex_good t (array_slicing at q x low high) h m =
          ((bound_good low h.5 m.1, (bound_good high h.6 m.2, tt)), address_good (array_of x (type_named p h.0)) q (has_pointers (place_type p q)) h.3 m.0)
      ex_good t (len e) h m = ((ex_good (slice_of h.1.0) e h.1.1 m, tt), tt)
      ex_good t (cap e) h m = ((ex_good (slice_of h.1.0) e h.1.1 m, tt), tt)

      pub place_good : (t : TypeTree) (q : Pl) → PlFits p scope t q → PlaceMakes Is q → Good F f (place_value p q)
      place_good t (local site steps) h m = (good_row F f (index_values p steps) (steps_good (site_type p site) t steps h.1 m), own site h.0)
      place_good t (global g steps) h m = (good_row F f (index_values p steps) (steps_good (global_type p g) t steps h.1 m), tt)
      place_good t (indirect at e n steps) h m = (good_row F f (index_values p steps) (steps_good (type_named p n) t steps h.1 m.1), ex_good (pointer_to n) e h.0 m.0)
      place_good t (slice_element at e i n steps) h m = (element_good i steps (steps_good (type_named p n) t steps h.2 m.2) (ex_good ints i h.1 m.1), ex_good (slice_of n) e h.0 m.0)

      address_good : (t : TypeTree) (q : Pl) (has : Bool) → PlFits p scope t q → PlaceMakes Is q → Good F f (place_address p has q)
      address_good t (local site steps) has h m = (good_row F f (index_values p steps) (steps_good (site_type p site) t steps h.1 m), own site h.0)
      address_good t (global g steps) has h m = (good_row F f (index_values p steps) (steps_good (global_type p g) t steps h.1 m), tt)
      address_good t (indirect at e n steps) has h m = (good_row F f (index_values p steps) (steps_good (type_named p n) t steps h.1 m.1), ex_good (pointer_to n) e h.0 m.0)
      address_good t (slice_element at e i n steps) has h m = (element_good i steps (steps_good (type_named p n) t steps h.2 m.2) (ex_good ints i h.1 m.1), ex_good (slice_of n) e h.0 m.0)

      steps_good : (t s : TypeTree) (steps : Steps) → StepsLead p scope t steps s → StepsMake Is steps → Goods F f (index_values p steps)
      steps_good t s here h m = tt
      steps_good t s (inner i steps) h m = steps_good (part_type t i) s steps h.1 m
      steps_good t s (at_index at e n steps) h m = (ex_good ints e h.3 m.0, steps_good h.0 s steps h.4 m.1)

      bound_good : (b : Bound) → BoundFits p scope b → BoundMakes Is b → Good F f (bound_value p b)
      bound_good absent h m = tt
      bound_good (bound e) h m = ex_good ints e h m

      elements_good : (t : TypeTree) (es : Elements) → ElementsFit p scope t es → ElementsMake Is es → Goods F f (element_values p es)
      elements_good t no_elements h m = tt
      elements_good t (element i e es) h m = (ex_good (part_type t i) e h.2 m.0, elements_good t es h.3 m.1)

      all_good : (t : TypeTree) (es : Exs) → AllFit p scope t es → ExsMake Is es → Goods F f (values p es)
      all_good t none h m = tt
      all_good t (more e es) h m = (ex_good t e h.0 m.0, all_good t es h.1 m.1)
      all_good t (results g es) h m = absurd h
      all_good t read_int h m = absurd h

      values_good : (ts : List TypeTree) (es : Exs) → ExsFit p scope ts es → ExsMake Is es → Goods F f (values p es)
      values_good [] none h m = tt
      values_good [] (more e es) h m = absurd h
      values_good [] (results g es) h m = ((there g h.0 h.1, arguments_good h.0.param_types es h.3 m), tt)
      values_good [] read_int h m = (tt, (tt, tt))
      values_good (t ∷ ts) none h m = absurd h
      values_good (t ∷ ts) (more e es) h m = (ex_good t e h.0 m.0, values_good ts es h.1 m.1)
      values_good (t ∷ ts) (results g es) h m = ((there g h.0 h.1, arguments_good h.0.param_types es h.3 m), tt)
      values_good (t ∷ ts) read_int h m = (tt, (tt, tt))

      pub arguments_good : (ts : List TypeTree) (es : Exs) → ExsFit p scope ts es → ExsMake Is es → AllGood F f (arguments p es)
      arguments_good [] none h m = tt
      arguments_good [] (more e es) h m = absurd h
      arguments_good [] (results g es) h m = (there g h.0 h.1, arguments_good h.0.param_types es h.3 m)
      arguments_good [] read_int h m = (tt, (tt, tt))
      arguments_good (t ∷ ts) none h m = absurd h
      arguments_good (t ∷ ts) (more e es) h m = (ex_good t e h.0 m.0, good_row F f (values p es) (values_good ts es h.1 m.1))
      arguments_good (t ∷ ts) (results g es) h m = (there g h.0 h.1, arguments_good h.0.param_types es h.3 m)
      arguments_good (t ∷ ts) read_int h m = (tt, (tt, tt))
