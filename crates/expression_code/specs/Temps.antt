-- That the slots of a frame suffice for expressions and places.
use Rattle.std.specs.Prelude.{◌≡◌, ℕ, ◌+◌, ◌*◌, ◌<◌, ◌≤◌, Bool, true, false, length, get_or}
use Rattle.typed_syntax.specs.Types.{TypeTree, width, part_type, part_offset}
use Rattle.typed_syntax.specs.Syntax.{Ex, Exs, Pl, Steps, here, inner, at_index, Program, constant, read, unary, binary, logical_and, logical_or, call, part_of, literal, Elements, no_elements, element, nil, address_of, new_variable, literal_variable, slice_literal, make, append, append_slice, copy, slicing, array_slicing, len, cap, Bound, absent, bound, local, global, indirect, slice_element, none, more, results, read_int, arguments_of, results_of, type_named, wide, all_wide, value_widths, ascend, words_through, gap_behind}
use Rattle.frames.specs.Frames.{far}
use Rattle.program_code.specs.Code.{Slots, compared, element_words, site_words, place_above, root_type, steps_of, near_offset, near_words}

-- the site of a name is among the n of a frame: what an expression makes has no cell there
abbrev pub SiteFits : Slots → (n site : ℕ) → Type 0
SiteFits s n site = (s.first ≤ site) × (site < s.first + n) × (get_or s.made site false ≡ false)

-- the arrays with worked-out indices among the steps from values of a type have elements, no more than they have words
abbrev pub IndicesFit : TypeTree → Steps → Type 0
IndicesFit t here = Unit {0}
IndicesFit t (inner i steps) = IndicesFit (part_type t i) steps
IndicesFit t (at_index p e m steps) = (0 < m) × (m ≤ width t) × (0 < width (part_type t 0)) × IndicesFit (part_type t 0) steps

-- there is what a place begins at
abbrev pub RootFits : Slots → (n : ℕ) → Pl → Type 0
RootFits s n (local site steps) = SiteFits s n site
RootFits s n (global g steps) = g < length s.globals
RootFits s n (indirect at e m steps) = Unit {0}
RootFits s n (slice_element at e i m steps) = Unit {0}

-- the part of it has words, and these are within its own
abbrev pub PlaceFits : Slots → (n : ℕ) → Pl → Type 0
PlaceFits s n q = RootFits s n q × (0 < near_words s q) × (near_offset s q + near_words s q ≤ width (root_type s q)) × IndicesFit (root_type s q) (steps_of q)

-- there is a temp for the address of a place, if it has one
abbrev pub AddressFits : (temps at : ℕ) → Pl → Type 0
AddressFits temps at q = at + far q ≤ temps

module _ (p : Program) (s : Slots) (n : ℕ) where
  -- there is the function, its words have room, and those in temps from h on too
  abbrev pub CallFits : (h f : ℕ) → Type 0
  CallFits h f = (f < length p.funcs) × (f ≤ 65535) × (arguments_of p f + results_of p f ≤ s.outgoing) × (h + arguments_of p f ≤ s.temps) × (h + results_of p f ≤ s.temps)

  -- the sites are among n, and there are temps from h on
  abbrev mutual
    pub Fits : (h : ℕ) → Ex → Type 0
    Fits h (constant v) = h < s.temps
    Fits h (read q) = (h + near_words s q ≤ s.temps) × PlaceFits s n q × AddressFits s.temps (place_above q h) q × OperandsFit h q
    Fits h (unary op e) = (h < s.temps) × Fits h e
    Fits h (binary at op a b) = (0 < compared p a b) × (h + wide p a + compared p a b ≤ s.temps) × Fits h a × Fits (h + wide p a) b
    Fits h (logical_and a b) = (h < s.temps) × Fits h a × Fits h b
    Fits h (logical_or a b) = (h < s.temps) × Fits h a × Fits h b
    Fits h (call f es) = CallFits h f × ExsFitIn h es
    Fits h (part_of m i e) =
        let t = type_named p m in
        (0 < width (part_type t i)) × (h + part_offset t i + width (part_type t i) ≤ s.temps) × Fits h e
    Fits h (literal m es) =
        let t = type_named p m in
        (0 < width t) × (h + width t ≤ s.temps) × ElementsFitIn h t (ascend es) es
    Fits h (nil t) = (0 < width t) × (h + width t ≤ s.temps)
    Fits h (address_of q) = (h < s.temps) × PlaceFits s n q × AddressFits s.temps (place_above q h) q × OperandsFit h q
    Fits h (new_variable site) = h < s.temps
    Fits h (literal_variable site e) = (0 < site_words s site) × (h + site_words s site < s.temps) × Fits h e
    -- the header of a slice in temps from h on, and what it is made of above it
    Fits h (slice_literal site es) = (h + 3 + all_wide p es ≤ s.temps) × ExsFitIn (h + 3) es
    Fits h (make at site count room) = (h + 3 ≤ s.temps) × (0 < site_words s site) × Fits (h + 1) count × BoundFitsIn (h + 2) room
    Fits h (append site e es) =
        (h + 3 + length (value_widths p es) * site_words s site ≤ s.temps) × (0 < site_words s site) × Fits h e × ExsFitIn (h + 3) es
    Fits h (append_slice site e f) = (h + 6 ≤ s.temps) × (0 < site_words s site) × Fits h e × Fits (h + 3) f
    Fits h (copy m e f) = (h + 6 ≤ s.temps) × (0 < width (type_named p m)) × Fits h e × Fits (h + 3) f
    Fits h (slicing at m e low high) = (h + 5 ≤ s.temps) × (0 < width (type_named p m)) × Fits h e × BoundFitsIn (h + 3) low × BoundFitsIn (h + 4) high
    Fits h (array_slicing at q x low high) =
        (h + 5 ≤ s.temps) × (0 < element_words s q) × PlaceFits s n q × AddressFits s.temps (place_above q h) q × OperandsFit h q × BoundFitsIn (h + 3) low × BoundFitsIn (h + 4) high
    Fits h (len e) = (h + 3 ≤ s.temps) × Fits h e
    Fits h (cap e) = (h + 3 ≤ s.temps) × Fits h e

    pub BoundFitsIn : (h : ℕ) → Bound → Type 0
    BoundFitsIn h absent = Unit {0}
    BoundFitsIn h (bound e) = (h < s.temps) × Fits h e

    -- the operands of a place, in temps from h on
    pub OperandsFit : (h : ℕ) → Pl → Type 0
    OperandsFit h (local site steps) = StepsFitIn h steps
    OperandsFit h (global g steps) = StepsFitIn h steps
    OperandsFit h (indirect at e m steps) = (h < s.temps) × Fits h e × StepsFitIn (h + 1) steps
    OperandsFit h (slice_element at e i m steps) = (h + 3 < s.temps) × Fits h e × Fits (h + 3) i × StepsFitIn (h + 4) steps

    pub StepsFitIn : (h : ℕ) → Steps → Type 0
    StepsFitIn h here = Unit {0}
    StepsFitIn h (inner i steps) = StepsFitIn h steps
    StepsFitIn h (at_index at e m steps) = (h < s.temps) × Fits h e × StepsFitIn (h + 1) steps

    -- the elements of a literal in temps from h on
    pub ElementsFitIn : (h : ℕ) → TypeTree → (in_order : Bool) → Elements → Type 0
    ElementsFitIn h t in_order no_elements = Unit {0}
    ElementsFitIn h t true (element i e es) =
        (h + words_through t i + gap_behind t i es ≤ s.temps) × Fits (h + part_offset t i) e × ElementsFitIn h t true es
    ElementsFitIn h t false (element i e es) =
        (0 < width (part_type t i)) × (h + part_offset t i + width (part_type t i) ≤ s.temps) × (h + width t + width (part_type t i) ≤ s.temps)
        × Fits (h + width t) e × ElementsFitIn h t false es

    pub ExsFitIn : (h : ℕ) → Exs → Type 0
    ExsFitIn h none = Unit {0}
    ExsFitIn h (more e es) = (h + wide p e ≤ s.temps) × Fits h e × ExsFitIn (h + wide p e) es
    ExsFitIn h (results f es) = CallFits h f × ExsFitIn h es
    ExsFitIn h read_int = h + 2 ≤ s.temps
