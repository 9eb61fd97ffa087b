-- Calls in an operand that isn't evaluated (Go specification, "Length and capacity", "For statements with range clause"). A constant has
-- none: no call is left in its typed form.
use Rattle.std.specs.Prelude.{ℕ, Bool, true, false, ◌||◌, List, Option, Some, None, if◌then◌else◌}
use Rattle.std.specs.Option.{unwrap_or}
use Rattle.base.specs.declared.pos.Pos.{Pos}
use Rattle.syntax.specs.declared.expression.Name.{Name}
use Rattle.syntax.specs.Expressions.{Ex as TreeEx, Exs as TreeExs, Bound, Elements as TreeElements, spelled}
use Rattle.syntax.specs.Expressions as tree
use Rattle.syntax.specs.FirstBytes.{first_pos}
use Rattle.typed_syntax.specs.Syntax.{Ex, Exs, Pl, Steps, Elements, Bound as TypedBound}
use Rattle.typed_syntax.specs.Syntax as typed
use Rattle.type_faults.specs.declared.fault.Fault.{Fault}
use Rattle.type_faults.specs.declared.fault.FaultKind.TheVariants.{OutOfProfile}
use Rattle.type_faults.specs.Faults.{fault}
use Rattle.names.specs.declared.scope.Declared.{Declared}
use Rattle.names.specs.declared.scope.Declared.TheVariants.{«Type», Measure, LeftOutType}
use Rattle.names.specs.Scope.{Scope, declaration}
use Rattle.names.specs.Naming.{name_in}

-- whether a function is called where an expression is worked out
abbrev mutual
  pub has_call : Ex → Bool
  has_call (typed.constant v) = false
  has_call (typed.read q) = has_call_in_place q
  has_call (typed.unary op e) = has_call e
  has_call (typed.binary at op a b) = has_call a || has_call b
  has_call (typed.logical_and a b) = has_call a || has_call b
  has_call (typed.logical_or a b) = has_call a || has_call b
  has_call (typed.call f es) = true
  has_call (typed.part_of n i e) = has_call e
  has_call (typed.literal n es) = has_call_in_elements es
  has_call (typed.nil n) = false
  has_call (typed.address_of q) = has_call_in_place q
  has_call (typed.literal_variable site e) = has_call e
  has_call (typed.slice_literal site es) = has_call_in_each es
  has_call (typed.slicing at n e low high) = has_call e || (has_call_in_bound low || has_call_in_bound high)
  has_call (typed.array_slicing at q n low high) = has_call_in_place q || (has_call_in_bound low || has_call_in_bound high)
  -- a function of the language counts, where it gives no constant
  has_call (typed.new_variable site) = true
  has_call (typed.make at site e room) = true
  has_call (typed.append site e es) = true
  has_call (typed.append_slice site a b) = true
  has_call (typed.copy n a b) = true
  has_call (typed.len e) = true
  has_call (typed.cap e) = true

  pub has_call_in_bound : TypedBound → Bool
  has_call_in_bound typed.absent = false
  has_call_in_bound (typed.bound e) = has_call e

  pub has_call_in_each : Exs → Bool
  has_call_in_each typed.none = false
  has_call_in_each (typed.more e es) = has_call e || has_call_in_each es
  has_call_in_each (typed.results f es) = true
  has_call_in_each typed.read_int = true

  pub has_call_in_place : Pl → Bool
  has_call_in_place (typed.local site steps) = has_call_in_steps steps
  has_call_in_place (typed.global g steps) = has_call_in_steps steps
  has_call_in_place (typed.indirect at e n steps) = has_call e || has_call_in_steps steps
  has_call_in_place (typed.slice_element at e i n steps) = has_call e || (has_call i || has_call_in_steps steps)

  pub has_call_in_steps : Steps → Bool
  has_call_in_steps typed.here = false
  has_call_in_steps (typed.inner i steps) = has_call_in_steps steps
  has_call_in_steps (typed.at_index at e n steps) = has_call e || has_call_in_steps steps

  pub has_call_in_elements : Elements → Bool
  has_call_in_elements typed.no_elements = false
  has_call_in_elements (typed.element i e es) = has_call e || has_call_in_elements es

-- the first of two places, where there is one
abbrev pub first_of : Option Pos → Option Pos → Option Pos
first_of (Some pos) other = Some pos
first_of None other = other

-- whether a call of this counts: that of a type is a conversion, which calls no function, and `len` and `cap` of an array call none either
abbrev pub counts : Option Declared → Bool
counts (Some («Type» t)) = false
counts (Some LeftOutType) = false
counts (Some (Measure m)) = false
counts other = true

-- the place of a call, before which another one may stand
abbrev pub call_at : Bool → Pos → Option Pos → Option Pos
call_at true first inner = Some first
call_at false first inner = inner

module _ (text : List ℕ) (s : Scope) where
  abbrev pub counts_named : Option Name → Bool
  counts_named None = true
  counts_named (Some n) = counts (declaration s (spelled text n))

  -- the first byte of the first call in an expression, in the order of the text; the types of literals have none
  abbrev mutual
    pub first_call : TreeEx → Option Pos
    first_call (tree.number pos n) = None
    first_call (tree.string pos end) = None
    first_call (tree.name n) = None
    first_call (tree.unary pos op e) = first_call e
    first_call (tree.binary pos op a b) = first_of (first_call a) (first_call b)
    first_call (tree.paren pos e) = first_call e
    first_call (tree.call f es spread) = call_at (counts_named (name_in f)) (first_pos f) (first_call_in es)
    first_call (tree.selector e pos n) = first_call e
    first_call (tree.index e pos i) = first_of (first_call e) (first_call i)
    first_call (tree.slice e pos low high) = first_of (first_call e) (first_of (first_call_at low) (first_call_at high))
    first_call (tree.array_type pos len e) = None
    first_call (tree.slice_type pos e) = None
    first_call (tree.literal t es) = first_call_among es
    first_call (tree.elements pos es) = first_call_among es

    pub first_call_at : Bound → Option Pos
    first_call_at tree.no_bound = None
    first_call_at (tree.bound_at e) = first_call e

    pub first_call_in : TreeExs → Option Pos
    first_call_in tree.none = None
    first_call_in (tree.some e es) = first_of (first_call e) (first_call_in es)

    pub first_call_among : TreeElements → Option Pos
    first_call_among tree.no_elements = None
    first_call_among (tree.element key e es) = first_of (first_call e) (first_call_among es)

  -- where a call in an operand is reported
  abbrev pub call_pos : TreeEx → Pos
  call_pos e = unwrap_or (first_call e) (first_pos e)

  -- an operand that isn't evaluated has no call
  abbrev pub unevaluated_fault : TreeEx → Ex → Option Fault
  unevaluated_fault e x = if has_call x then Some (fault OutOfProfile (call_pos e)) else None
