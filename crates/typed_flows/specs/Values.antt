-- What an expression may hold, and where that goes on the way to its value.
use Rattle.std.specs.Prelude.{ℕ, Bool, true, false, List, [], ◌∷◌, ◌++◌, map, Option, Some, None}
use Rattle.base.specs.declared.ids.SiteId.{SiteId}
use Rattle.deref_walk.specs.declared.loc.Loc.{Loc}
use Rattle.deref_walk.specs.declared.loc.Loc.TheVariants as loc
use Rattle.value_flows.specs.declared.value.Target.{Target}
use Rattle.value_flows.specs.Syntax.{Val, Vals, variable, address, inside, behind, parts, beside, sent}
use Rattle.value_flows.specs.Syntax as flow
use Rattle.typed_syntax.specs.Types.{part_type}
use Rattle.typed_syntax.specs.Syntax.{Ex, Exs, Pl, Steps, Bound, Elements, Program, constant, read, unary, binary, logical_and, logical_or, call, part_of, literal, nil, address_of, new_variable, literal_variable, slice_literal, make, append, append_slice, copy, slicing, array_slicing, len, cap, absent, bound, no_elements, element, local, global, indirect, slice_element, here, inner, at_index, none, more, results, read_int, type_named, site_type, place_type}
use Rattle.typed_flows.specs.Pointers.{has_pointers}

-- ---- where values go

-- the variable of a site, and the heap: what is at hand goes there, or what lies at it
abbrev pub site : ℕ → Loc
site x = loc.Site (record { 0 = x })

abbrev pub whole_to : Loc → Target
whole_to l = record { to = l; by = 0 }

abbrev pub to_site : ℕ → Target
to_site x = whole_to (site x)

abbrev pub to_heap : Target
to_heap = whole_to loc.Heap

abbrev pub pointed_to_heap : Target
pointed_to_heap = record { to = loc.Heap; by = 1 }

-- ---- values

abbrev pub row : List Val → Vals
row [] = flow.none
row (v ∷ vs) = flow.more v (row vs)

-- a value without pointers, and one that comes of these
abbrev pub nothing : Val
nothing = parts flow.none

abbrev pub nothing_of : List Val → Val
nothing_of vs = beside (row vs) nothing

-- a value of a type with pointers; of one without, nothing is left
abbrev pub held : Bool → Val → Val
held true v = v
held false v = nothing_of (v ∷ [])

-- a slice whose elements are copied elsewhere: where they have pointers, these go to the heap
abbrev pub copied : Bool → Val → Val
copied true v = sent pointed_to_heap v
copied false v = v

-- values that are stored in the new variable of a site, to which there is a pointer or a slice then
abbrev pub stored : ℕ → List Val → Val
stored x vs = beside (row (map (sent (to_site x)) vs)) (address x)

module _ (p : Program) where
  abbrev mutual
    pub value : Ex → Val
    value (constant v) = nothing
    value (read q) = held (has_pointers (place_type p q)) (place_value q)
    value (unary op e) = nothing_of (value e ∷ [])
    value (binary at op a b) = nothing_of (value a ∷ value b ∷ [])
    value (logical_and a b) = nothing_of (value a ∷ value b ∷ [])
    value (logical_or a b) = nothing_of (value a ∷ value b ∷ [])
    value (call f es) = flow.call f (arguments es)
    value (part_of n i e) = held (has_pointers (part_type (type_named p n) i)) (value e)
    value (literal n es) = parts (row (element_values es))
    value (nil t) = nothing
    value (address_of q) = place_address (has_pointers (place_type p q)) q
    value (new_variable site) = address site
    value (literal_variable site e) = stored site (value e ∷ [])
    value (slice_literal site es) = stored site (values es)
    value (make at site count room) = beside (row (value count ∷ bound_value room ∷ [])) (address site)
    value (append site s es) = beside (row (map (sent to_heap) (values es))) (copied (has_pointers (site_type p site)) (value s))
    value (append_slice site s t) = beside (row (copied (has_pointers (site_type p site)) (value t) ∷ [])) (copied (has_pointers (site_type p site)) (value s))
    value (copy n d s) = nothing_of (value d ∷ copied (has_pointers (type_named p n)) (value s) ∷ [])
    value (slicing at n s low high) = beside (row (bound_value low ∷ bound_value high ∷ [])) (value s)
    value (array_slicing at q n low high) = beside (row (bound_value low ∷ bound_value high ∷ [])) (place_address (has_pointers (place_type p q)) q)
    value (len e) = nothing_of (value e ∷ [])
    value (cap e) = nothing_of (value e ∷ [])

    -- what is in a place; package variables hold nothing but what is on the heap already
    pub place_value : Pl → Val
    place_value (local site steps) = beside (row (index_values steps)) (variable site)
    place_value (global g steps) = nothing_of (index_values steps)
    place_value (indirect at e n steps) = beside (row (index_values steps)) (behind (value e))
    place_value (slice_element at e i n steps) = beside (row (index_values steps ++ value i ∷ [])) (behind (value e))

    -- the address of a place, in which there are pointers or not
    pub place_address : Bool → Pl → Val
    place_address has (local site steps) = beside (row (index_values steps)) (inside has (address site))
    place_address has (global g steps) = nothing_of (index_values steps)
    place_address has (indirect at e n steps) = beside (row (index_values steps)) (inside has (value e))
    place_address has (slice_element at e i n steps) = beside (row (index_values steps ++ value i ∷ [])) (inside has (value e))

    pub index_values : Steps → List Val
    index_values here = []
    index_values (inner i steps) = index_values steps
    index_values (at_index at e n steps) = value e ∷ index_values steps

    pub bound_value : Bound → Val
    bound_value absent = nothing
    bound_value (bound e) = value e

    pub element_values : Elements → List Val
    element_values no_elements = []
    element_values (element i e es) = value e ∷ element_values es

    -- each of some values; one by itself where a call has one result
    pub values : Exs → List Val
    values none = []
    values (more e es) = value e ∷ values es
    values (results f es) = flow.call f (arguments es) ∷ []
    values read_int = nothing ∷ nothing ∷ []

    -- the values of an assignment, a call or a return
    pub arguments : Exs → flow.Exs
    arguments none = flow.each flow.none
    arguments (more e es) = flow.each (flow.more (value e) (row (values es)))
    arguments (results f es) = flow.results f (arguments es)
    arguments read_int = flow.each (row (nothing ∷ nothing ∷ []))
