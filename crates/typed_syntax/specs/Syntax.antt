-- The typed program as abstract syntax, without vectors and pointers.
use Rattle.std.specs.Prelude.{ℕ, suc, pos, ◌+◌, ◌-◌, Bool, true, false, ◌&&◌, nat_le, List, [], ◌∷◌, Option, Some, None, get_or, slice_get}
use Rattle.typed_syntax.specs.Positions.{Position}
use Rattle.typed_syntax.specs.Types.{TypeTree, ints, width, part_type, part_offset}
use Rattle.typed_syntax.specs.Value.{Value, int}
use Rattle.typed_syntax.specs.Paths.{type_at}
use Rattle.typed_syntax.specs.declared.operators.BinOp.{BinOp}
use Rattle.typed_syntax.specs.declared.operators.UnOp.{UnOp}

mutual
  -- the steps from the beginning of a place to the part that it names
  pub data Steps : Type 0 where
    here : Steps
    -- a field or an element, by its number
    inner : ℕ → Steps → Steps
    -- an element of an array of this length, by an index that is worked out
    at_index : Position → Ex → ℕ → Steps → Steps

  -- a place: where it begins, and the steps from there
  pub data Pl : Type 0 where
    -- a local variable, by its site
    local : ℕ → Steps → Pl
    -- a package variable, by its number
    global : ℕ → Steps → Pl
    -- what a pointer leads to: the position that a panic names where it leads nowhere, the pointer, and the number of the type of what
    -- it leads to
    indirect : Position → Ex → ℕ → Steps → Pl
    -- an element of a slice: the position, the slice, the index, and the number of the elements' type
    slice_element : Position → (slice index : Ex) → ℕ → Steps → Pl

  -- an expression with one value; a node that can panic has the place that the panic names
  pub data Ex : Type 0 where
    constant : Value → Ex
    read : Pl → Ex
    unary : UnOp → Ex → Ex
    binary : Position → BinOp → Ex → Ex → Ex
    -- `&&` and `||`
    logical_and : Ex → Ex → Ex
    logical_or : Ex → Ex → Ex
    -- a function by its number, with one result
    call : ℕ → Exs → Ex
    -- a field or an element, by its number, of a value that is no place, of a type by its number
    part_of : ℕ → ℕ → Ex → Ex
    -- a struct or an array of a type by its number; what no element is for is zero
    literal : ℕ → Elements → Ex
    -- `nil`, of a type of pointers or of slices
    nil : TypeTree → Ex
    -- the address of a place
    address_of : Pl → Ex
    -- `new`: a pointer to a new variable of a site; and `&` of a literal: one to a new variable that begins with it
    new_variable : ℕ → Ex
    literal_variable : ℕ → Ex → Ex
    -- a slice literal: a slice of all elements of a new array of a site, whose type is that of the elements
    slice_literal : ℕ → Exs → Ex
    -- `make`: a slice of a new array of a site, whose type is that of the elements, by its length, and its capacity if there is one
    make : Position → ℕ → (count : Ex) → (room : Bound) → Ex
    -- `append` of elements, and of those of a slice; a new array is one of the site, whose type is that of the elements
    append : ℕ → Ex → Exs → Ex
    append_slice : ℕ → Ex → Ex → Ex
    -- `copy`, of elements of a type by its number
    copy : ℕ → (target source : Ex) → Ex
    -- a part of a slice of elements of a type by its number, and a slice of the array of this length at a place
    slicing : Position → ℕ → Ex → (low high : Bound) → Ex
    array_slicing : Position → Pl → ℕ → (low high : Bound) → Ex
    -- `len` and `cap` of a slice
    len : Ex → Ex
    cap : Ex → Ex

  -- a bound of a slicing, or a capacity, if there is one
  pub data Bound : Type 0 where
    absent : Bound
    bound : Ex → Bound

  -- the elements of a literal in the order of the text, each with the number of the field or the element that it is for
  pub data Elements : Type 0 where
    no_elements : Elements
    element : ℕ → Ex → Elements → Elements

  -- some expressions, the last of which may be a call with any number of results
  pub data Exs : Type 0 where
    none : Exs
    more : Ex → Exs → Exs
    results : ℕ → Exs → Exs
    -- the two results of `readInt`
    read_int : Exs

-- a left side
pub data Left : Type 0 where
  blank : Left
  -- a new variable of a site
  new : ℕ → Left
  to : Pl → Left

-- an operand of `print`, `println` or `panic`: a string by its number, or a value and its type
pub data Piece : Type 0 where
  text : ℕ → Piece
  shown : TypeTree → Ex → Piece

-- what `range` goes over
pub data Over : Type 0 where
  over_int : Ex → Over
  -- the indices of an array of this length, which is not worked out
  over_length : ℕ → Over
  -- the elements of an array of this length, of which a hidden variable of a site gets a copy
  over_copy : ℕ → Ex → ℕ → Over
  -- the elements of a slice, of a type by its number
  over_slice : Ex → ℕ → Over
  -- those of the array of this length that a pointer leads to: the position that a panic names where it leads nowhere, the pointer, the
  -- length, and the number of the elements' type; and its indices alone, for which the pointer is not worked out
  over_pointer : Position → Ex → ℕ → ℕ → Over
  over_pointed : ℕ → Over

mutual
  pub data St : Type 0 where
    -- new variables with their zero values
    declare : List ℕ → St
    -- a declaration with values, or an assignment
    assign : List Left → Exs → St
    -- an assignment with an operator, and that of `++` and `--`
    update : Position → Pl → BinOp → Ex → St
    bump : Position → Pl → BinOp → St
    -- a call whose results are not used, also one of `copy`
    discard : Exs → St
    block : Sts → St
    if_stmt : Ex → Sts → Sts → St
    -- the variables of the header, the condition if there is one, the post statement and the body
    for_stmt : List ℕ → Option Ex → Sts → Sts → St
    -- what gets the index and the element, and the body
    range : Over → Left → Left → Sts → St
    break_stmt : St
    continue_stmt : St
    -- a return; without values, that of a function with named results gives these
    return_stmt : Exs → St
    -- `print`, or `println` where true is said
    print : Bool → List Piece → St
    -- `panic`, and `exit`
    panic : Position → Piece → St
    exit : Position → Ex → St

  pub data Sts : Type 0 where
    done : Sts
    next : St → Sts → Sts

-- a function: its first site and the number of its sites, the sites of its parameters (none for a blank one) and their
-- types, the types of its results, their sites where they have names, and its body
pub record Func : Type 0 where
  pub first : ℕ
  pub count : ℕ
  pub params : List (Option ℕ)
  pub param_types : List TypeTree
  pub results : List TypeTree
  pub named : List ℕ
  pub body : Sts

-- the functions, the types by their numbers, the type of each site, whether the address of its variables or of a part of them is taken,
-- whether an expression makes them, the bytes of each string, the package variables with their sites and their first values, and the number
-- of `main`
pub record Program : Type 0 where
  pub funcs : List Func
  pub types : List TypeTree
  pub sites : List TypeTree
  pub taken : List Bool
  pub made : List Bool
  pub strings : List (List ℕ)
  pub globals : List (ℕ × Value)
  pub main : ℕ

-- the words of values side by side, by their types
abbrev pub all_width : List TypeTree → ℕ
all_width [] = 0
all_width (t ∷ ts) = width t + all_width ts

-- the words of a function's arguments, and of its results
abbrev pub argument_words : Func → ℕ
argument_words f = all_width f.param_types

abbrev pub result_words : Func → ℕ
result_words f = all_width f.results

-- those of a function by its number
abbrev pub arguments_in : Option Func → ℕ
arguments_in None = 0
arguments_in (Some f) = argument_words f

abbrev pub results_in : Option Func → ℕ
results_in None = 0
results_in (Some f) = result_words f

abbrev pub arguments_of : Program → ℕ → ℕ
arguments_of p f = arguments_in (slice_get p.funcs f)

abbrev pub results_of : Program → ℕ → ℕ
results_of p f = results_in (slice_get p.funcs f)

-- the type that has a number among these; what has none is a number
abbrev pub type_in : List TypeTree → ℕ → TypeTree
type_in types n = get_or types n ints

abbrev pub type_named : Program → ℕ → TypeTree
type_named p n = type_in p.types n

-- the type of a site
abbrev pub site_type : Program → ℕ → TypeTree
site_type p site = get_or p.sites site ints

-- the site of a package variable, and its type
abbrev pub global_site : Program → ℕ → ℕ
global_site p g = (get_or p.globals g (0, int (pos 0))).0

abbrev pub global_type : Program → ℕ → TypeTree
global_type p g = site_type p (global_site p g)

-- whether a pointer or a slice may lead to a site's variables: one is made from a place that begins at them, or by the expression that
-- they are variables of
abbrev pub is_taken : Program → ℕ → Bool
is_taken p site = get_or p.taken site false

-- whether an expression makes a site's variables: no name stands for them
abbrev pub is_made : Program → ℕ → Bool
is_made p site = get_or p.made site false

-- the words of a site's variables
abbrev pub site_width : Program → ℕ → ℕ
site_width p site = width (site_type p site)

-- the path of steps, with the first element in the place of one by an index that is worked out: both have one type
abbrev pub path_of : Steps → List ℕ
path_of here = []
path_of (inner i steps) = i ∷ path_of steps
path_of (at_index at e n steps) = 0 ∷ path_of steps

-- the type of a place, and its words
abbrev pub place_type : Program → Pl → TypeTree
place_type p (local site steps) = type_at (site_type p site) (path_of steps)
place_type p (global g steps) = type_at (global_type p g) (path_of steps)
place_type p (indirect at e n steps) = type_at (type_named p n) (path_of steps)
place_type p (slice_element at e i n steps) = type_at (type_named p n) (path_of steps)

abbrev pub place_width : Program → Pl → ℕ
place_width p q = width (place_type p q)

-- the words of an expression's value, and of values side by side
abbrev pub wide : Program → Ex → ℕ
wide p (read q) = place_width p q
wide p (call f es) = results_of p f
wide p (part_of n i e) = width (part_type (type_named p n) i)
wide p (literal n es) = width (type_named p n)
wide p (nil t) = width t
wide p (slice_literal site es) = 3
wide p (make at site count room) = 3
wide p (append site e es) = 3
wide p (append_slice site e s) = 3
wide p (slicing at n e low high) = 3
wide p (array_slicing at q n low high) = 3
wide p e = 1

abbrev pub all_wide : Program → Exs → ℕ
all_wide p none = 0
all_wide p (more e es) = wide p e + all_wide p es
all_wide p (results f es) = results_of p f
all_wide p read_int = 2

-- whether the numbers of elements ascend, from one on
abbrev pub ascend_from : ℕ → Elements → Bool
ascend_from n no_elements = true
ascend_from n (element i e es) = nat_le n i && ascend_from (suc i) es

abbrev pub ascend : Elements → Bool
ascend es = ascend_from 0 es

-- the words of a value of a type up to the first of some elements, to its end where there is none
abbrev pub words_before : TypeTree → Elements → ℕ
words_before t no_elements = width t
words_before t (element i e es) = part_offset t i

-- those up to the end of a part
abbrev pub words_through : TypeTree → ℕ → ℕ
words_through t i = part_offset t i + width (part_type t i)

-- the words between a part and the first of the elements after it
abbrev pub gap_behind : TypeTree → ℕ → Elements → ℕ
gap_behind t i es = words_before t es - words_through t i

-- the words of each of the values
abbrev pub each_width : List TypeTree → List ℕ
each_width [] = []
each_width (t ∷ ts) = width t ∷ each_width ts

abbrev pub result_widths : Option Func → List ℕ
result_widths None = []
result_widths (Some f) = each_width f.results

abbrev pub value_widths : Program → Exs → List ℕ
value_widths p none = []
value_widths p (more e es) = wide p e ∷ value_widths p es
value_widths p (results f es) = result_widths (slice_get p.funcs f)
value_widths p read_int = 1 ∷ 1 ∷ []
