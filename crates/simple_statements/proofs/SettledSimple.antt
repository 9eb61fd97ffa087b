-- Where every variable has a type and every function a signature, a simple statement has a typed form, or a rule fails in it, and never both.
use Rattle.std.proofs.Common.{◌≡◌, ℕ, ◌+◌, Bool, true, false, cond, List, [], ◌∷◌, ◌⊎◌, inl, inr, length, Option, Some, None, refl, sym, ap, ◌∙◌, subst}
use Rattle.std.specs.Prelude.{option_and_then, is_some, not, ◌&&◌}
use Rattle.std.specs.Option.{option_map}
use Rattle.std.proofs.lemmas.List.{length-map}
use Rattle.base.specs.declared.pos.Pos.{Pos}
use Rattle.type_faults.specs.declared.fault.Fault.{Fault}
use Rattle.syntax.specs.declared.expression.Name.{Name}
use Rattle.syntax.specs.declared.operator.ArithmeticOp.{ArithmeticOp}
use Rattle.syntax.specs.declared.operator.BinOp.TheVariants.{Arithmetic}
use Rattle.syntax.specs.FirstBytes.{first_pos}
use Rattle.syntax.specs.Expressions.{Ex as TreeEx, Exs as TreeExs, some, spelled}
use Rattle.syntax.specs.Expressions as expressions
use Rattle.syntax.specs.Statements.{Simple}
use Rattle.syntax.specs.Statements as tree
use Rattle.typed_syntax.specs.declared.operators.BinOp.{BinOp as TypedOp}
use Rattle.typed_syntax.specs.declared.operators.BinOp.TheVariants as op
use Rattle.typed.specs.Positions.{position}
use Rattle.typed_syntax.specs.Positions.{Position}
use Rattle.typed_syntax.specs.Syntax.{Ex, Exs, Left, Pl, St, to, binary, read, none, assign, update, return_stmt}
use Rattle.type_faults.specs.declared.fault.FaultKind.TheVariants.{Unknown, Redeclared, NothingNew, NotAssignable, NotUsedValue, WrongCount, ResultCount, Unfit, OutOfProfile}
use Rattle.base.specs.declared.value_type.ValueType.{ValueType}
use Rattle.base.specs.declared.value_type.ValueType.TheVariants.{Int}
use Rattle.type_faults.specs.Given.{both}
use Rattle.type_faults.specs.Faults.{fault, IsFault}
use Rattle.type_faults.proofs.Decided.{Decided, Tested, further, mapped, after, both_tested}
use Rattle.type_faults.proofs.Options.{and_then_some, map_some, none_some, same_some}
use Rattle.operators.specs.Operands.{Operand, constant, value, type_of, as_value, TypedPlace, place_of}
use Rattle.operators.specs.Operators.{takes_both, right_allowed, both_values, arithmetic_of, combined}
use Rattle.operators.specs.Faults.{pair_fault}
use Rattle.operators.proofs.DecidedOperators.{pair_decided}
use Rattle.names.specs.Blocks.{Blocks}
use Rattle.names.specs.declared.scope.Declared.{Declared}
use Rattle.names.specs.declared.scope.Declared.TheVariants as declared
use Rattle.names.specs.Universe.{is_blank}
use Rattle.names.specs.declared.scope.Known.{Known}
use Rattle.names.specs.declared.scope.Known.TheVariants as known_as
use Rattle.names.specs.Scope.{Scope, declaration, is_here, known}
use Rattle.names.specs.Naming.{name_in}
use Rattle.names.proofs.Settled.{IsKnown, IsTyped, IsSettled, declared_typed}
use Rattle.given_values.specs.Given.{global_read, constant_read, name_operand, Gives, one, called, asking, quoted, printed, panicked, exited, operand_in, Seen, wanted_by, many, count, taken}
use Rattle.expression_types.specs.Typing.{gives, seen}
use Rattle.given_values.specs.GivenFaults.{refused_fault, ValuesFail, CountFails, TakeFails}
use Rattle.expression_types.specs.Faults.{Fails, FailsInEach, FailsAsOperand}
use Rattle.given_values.proofs.DecidedValues.{given_all, operand_decided, take_decided, refused}
use Rattle.expression_types.proofs.Settled.{gives_decided, seen_decided}
use Rattle.given_values.proofs.Places.{Asks, AllAsk}
use Rattle.signatures.specs.Entries.{slots_each}
use Rattle.signatures.specs.Failing.{fault_where}
use Rattle.signatures.proofs.SettledEntries.{where_tested, some_tested}
use Rattle.simple_statements.specs.SimpleStatements.{Returns, only, target, place_type, place_value, left_of, wanted_of, new_wanted_of, is_blank_name, place_in, new_left_of, declares, noted, is_noted, expressed, assignment, updated, stepped, returned, left, lefts, all_wanted, new_left, new_lefts, all_new_wanted, new_slots, with_variables, are_distinct, has_all, may_define, own_value, behind_simple, update_one, update_statement, step_statement, simple_statement}
use Rattle.simple_statements.specs.SimpleFaults.{left_fault, new_name_fault, own_fault, place_fault, names_place, lefts_place, use_fault, step_fault, ReturnFails, LeftSideFails, LeftsFail, OwnSideFails, OwnSidesFail, NewNamesFail, TwiceFails, FailsInAssignment, FailsInDefinition, have_values, given_count, UpdateFails, FailsInStep, FailsInSimple}
use Rattle.simple_statements.proofs.SettledValues.{settled_new, allowed_is, taken_types_are}

-- ---- left sides

-- what a name stands for has a type
abbrev NameTyped : Scope → Option Declared → Type 0
NameTyped s d = (x : Declared) → d ≡ Some x → IsTyped s.types s.signatures s.values x

-- the place that a name stands for
abbrev declared_place : Scope → Option Declared → Option TypedPlace
declared_place s d = option_and_then place_of (name_operand s d)

-- what follows from a package variable of which something is known
known_decided : {A : Type 0} (h : TypedPlace → A) (g : ℕ) (o : Option Known) → IsKnown o → Decided (option_map h (option_and_then place_of (option_map (global_read g) o))) (IsFault None)
known_decided h g None has = absurd has
known_decided h g (Some f) has = λ k j. j

-- a constant is no place
constant_decided : {A : Type 0} (h : TypedPlace → A) (o : Option Known) (f : Fault) → Decided (option_map h (option_and_then place_of (option_map constant_read o))) (IsFault (Some f))
constant_decided h None f = (f, refl)
constant_decided h (Some (known_as.Constant c)) f = (f, refl)
constant_decided h (Some (known_as.Variable t)) f = (f, refl)

-- a name whose place is asked for
name_decided : {A : Type 0} (h : TypedPlace → A) (s : Scope) (d : Option Declared) (at whole : Pos) → NameTyped s d → Decided (option_map h (declared_place s d)) (IsFault (left_fault false d at whole))
name_decided h s None at whole typed = (fault Unknown at, refl)
name_decided h s (Some (declared.Variable site t)) at whole typed = λ f k. k
name_decided h s (Some (declared.Constant k)) at whole typed = constant_decided h (known s k.0) (fault NotAssignable whole)
name_decided h s (Some (declared.Global k g)) at whole typed = known_decided h g.0 (known s k.0) (typed (declared.Global k g) refl)
name_decided h s (Some declared.Untyped) at whole typed = absurd (typed declared.Untyped refl)
name_decided h s (Some (declared.«Type» t)) at whole typed = (fault Unfit at, refl)
name_decided h s (Some declared.LeftOutType) at whole typed = (fault OutOfProfile at, refl)
name_decided h s (Some declared.LeftOutValue) at whole typed = (fault OutOfProfile at, refl)
name_decided h s (Some other) at whole typed = (fault NotAssignable whole, refl)

left_decided : (s : Scope) (is_blank : Bool) (d : Option Declared) (at whole : Pos) → NameTyped s d → Decided (left_of is_blank (declared_place s d)) (IsFault (left_fault is_blank d at whole))
left_decided s true d at whole typed = λ f h. h
left_decided s false d at whole typed = name_decided (λ x. to x.place) s d at whole typed

own_decided : (s : Scope) (is_blank : Bool) (d : Option Declared) (at whole : Pos) → NameTyped s d → Decided (cond is_blank None (place_value (declared_place s d))) (IsFault (own_fault is_blank d at whole))
own_decided s true d at whole typed = (fault Unknown at, refl)
own_decided s false d at whole typed = name_decided (λ x. value x.value_type (read x.place)) s d at whole typed

new_left_decided : (s : Scope) (is_blank is_here : Bool) (d : Option Declared) (site : ℕ) (at : Pos) → NameTyped s d → Decided (new_left_of is_blank is_here (declared_place s d) site) (IsFault (new_name_fault is_blank is_here d at))
new_left_decided s true is_here d site at typed = λ f h. h
new_left_decided s false true d site at typed = left_decided s false d at at typed
new_left_decided s false false d site at typed = λ f h. h

-- what is a left side has a type, or is blank
target_asks : (q : Option TypedPlace) (l : Left) → target q ≡ Some l → Asks (wanted_by (place_type q))
target_asks None l is = absurd (none_some is)
target_asks (Some q) l is = tt

left_asks : (is_blank : Bool) (q : Option TypedPlace) (l : Left) → left_of is_blank q ≡ Some l → Asks (wanted_of is_blank q)
left_asks true q l is = tt
left_asks false q l is = target_asks q l is

new_left_asks : (is_blank is_here : Bool) (q : Option TypedPlace) (site : ℕ) (l : Left) → new_left_of is_blank is_here q site ≡ Some l → Asks (new_wanted_of is_blank is_here q)
new_left_asks true true q site l is = tt
new_left_asks true false q site l is = tt
new_left_asks false true q site l is = target_asks q l is
new_left_asks false false q site l is = tt

-- an expression whose place is asked for
place_decided : {A : Type 0} (h : TypedPlace → A) (o : Option Operand) (P : Fault → Type 0) (at : Pos) → Decided o P → Decided (option_map h (option_and_then place_of o)) (λ f. P f ⊎ IsFault (place_fault o at) f)
place_decided h None P at d = (d.0, inl d.1)
place_decided h (Some x) P at d = by (place_of x)
  where
    by : (q : Option TypedPlace) → Decided (option_map h q) (λ f. P f ⊎ IsFault (fault_where (not (is_some q)) (fault NotAssignable at)) f)
    by None = (fault NotAssignable at, inr refl)
    by (Some q) = λ f k. elim k [ inl u ↦ d f u | inr u ↦ u ]

-- ---- what statements are made of

pub assignment_some : (ls : Option (List Left)) (v : Option Exs) (t : St) → assignment ls v ≡ Some t → (l : List Left) × (x : Exs) × (ls ≡ Some l) × (v ≡ Some x) × (assign l x ≡ t)
assignment_some ls v t is =
    let r = and_then_some (λ l. option_map (assign l) v) ls t is in
    let q = map_some (assign r.0) v t r.2 in
    (r.0, q.0, r.1, q.1, q.2)

pub where_some : {A : Type 0} (b : Bool) (o : Option A) (x : A) → cond b o None ≡ Some x → (b ≡ true) × (o ≡ Some x)
where_some true o x is = (refl, is)
where_some false o x is = cc is

assign_decided : (ls : Option (List Left)) (v : Option Exs) (c : Option ℕ) (n : ℕ) (own : Fault) (L E VR : Fault → Type 0) → Decided ls L → ((l : List Left) → ls ≡ Some l → Decided v (λ f. E f ⊎ (VR f ⊎ CountFails c n own f)))
    → Decided (assignment ls v) (λ f. (L f ⊎ E f) ⊎ (VR f ⊎ CountFails (option_and_then (λ l. c) ls) n own f))
assign_decided None v c n own L E VR d e = (d.0, inl (inl d.1))
assign_decided (Some l) None c n own L E VR d e = let r = e l refl in (r.0, elim r.1 [ inl h ↦ inl (inr h) | inr h ↦ inr h ])
assign_decided (Some l) (Some v) c n own L E VR d e = λ f h. elim h [
  | inl k ↦ elim k [ inl u ↦ d f u | inr u ↦ e l refl f (inl u) ]
  | inr k ↦ e l refl f (inr k)
]

define_decided : (may : Bool) (ls : Option (List Left)) (v : Option Exs) (V N T : Fault → Type 0) → Tested may T → Decided ls N → ((l : List Left) → ls ≡ Some l → Decided v V)
    → Decided (cond may (assignment ls v) None) (λ f. (V f ⊎ N f) ⊎ T f)
define_decided false ls v V N T t n d = (t.0, inr t.1)
define_decided true None v V N T t n d = (n.0, inl (inr n.1))
define_decided true (Some l) None V N T t n d = let r = d l refl in (r.0, inl (inl r.1))
define_decided true (Some l) (Some v) V N T t n d = λ f h. elim h [ inl k ↦ elim k [ inl u ↦ d l refl f u | inr u ↦ n f u ] | inr k ↦ t f k ]

use_decided : (n : ℕ) (o : Option Gives) (at : Pos) (P : Fault → Type 0) → Decided o P → Decided (option_and_then (expressed n) o) (λ f. P f ⊎ IsFault (use_fault o at) f)
use_decided n None at P d = (d.0, inl d.1)
use_decided n (Some (one x)) at P d = (fault NotUsedValue at, inr refl)
use_decided n (Some (called place ts g es)) at P d = λ f h. elim h [ inl k ↦ d f k | inr k ↦ k ]
use_decided n (Some (asking place)) at P d = λ f h. elim h [ inl k ↦ d f k | inr k ↦ k ]
use_decided n (Some (quoted place bytes)) at P d = (fault OutOfProfile place, inr refl)
use_decided n (Some (printed place line ps)) at P d = λ f h. elim h [ inl k ↦ d f k | inr k ↦ k ]
use_decided n (Some (panicked place p)) at P d = λ f h. elim h [ inl k ↦ d f k | inr k ↦ k ]
use_decided n (Some (exited place e)) at P d = λ f h. elim h [ inl k ↦ d f k | inr k ↦ k ]

pub return_decided : (at : Pos) (r : Returns) (os : List Seen) (P : Fault → Type 0) → AllAsk r.wanted → Decided (given_all os) P → Decided (returned r os) (λ f. P f ⊎ ReturnFails at r os f)
return_decided at r [] P asks d = further P (ReturnFails at r []) (cond r.may_be_bare (Some (return_stmt none)) None) d (by r.may_be_bare)
  where
    by : (b : Bool) → Decided (cond b (Some (return_stmt none)) None) (IsFault (fault_where (not b) (fault ResultCount at)))
    by true = λ f h. h
    by false = (fault ResultCount at, refl)
return_decided at r (o ∷ os) P asks d = mapped return_stmt (taken r.wanted (o ∷ os)) _ (take_decided (o ∷ os) P d (fault ResultCount at) r.wanted asks)

-- ---- variables that are given values of their own

-- the read of a variable
abbrev pub IsRead : Operand → Type 0
IsRead x = (t : ValueType) × (q : Pl) × (x ≡ value t (read q))

place_read : (v : Option TypedPlace) (x : Operand) → place_value v ≡ Some x → IsRead x
place_read None x is = absurd (none_some is)
place_read (Some v) x is = (v.value_type, v.place, sym (same_some is))

-- what an operator gives of a variable and an operand has the form of an operator on two
abbrev pub UpdatedAs : Pos → TypedOp → ValueType → Pl → Operand → Operand → Type 0
UpdatedAs at typed_op t q y z = (e : Ex) × (type_of y ≡ Some Int) × (t ≡ Int) × (as_value y ≡ Some e) × (z ≡ value Int (binary (position at) typed_op (read q) e))

takes_ints : (tree_op : ArithmeticOp) (s : ValueType) (t : Option ValueType) → takes_both (Arithmetic tree_op) (Some s) t ≡ true → (s ≡ Int) × (t ≡ Some Int)
takes_ints tree_op Int (Some Int) is = (refl, refl)
takes_ints tree_op s (Some t) is = absurd cc is
takes_ints tree_op s None is = absurd cc is

pub combined_as : (at : Pos) (tree_op : ArithmeticOp) (t : ValueType) (q : Pl) (y z : Operand) → combined at (Arithmetic tree_op) (value t (read q)) y ≡ Some z → UpdatedAs at (arithmetic_of tree_op) t q y z
combined_as at tree_op t q y z is =
    let a = allowed_is (takes_both (Arithmetic tree_op) (Some t) (type_of y) && right_allowed (Arithmetic tree_op) y) (both_values at (Arithmetic tree_op) (Some (read q)) (as_value y)) z is in
    let ints = takes_ints tree_op t (type_of y) (first_true (takes_both (Arithmetic tree_op) (Some t) (type_of y)) (right_allowed (Arithmetic tree_op) y) a.0) in
    by (as_value y) refl ints.0 ints.1 a.1
  where
    first_true : (a b : Bool) → (a && b) ≡ true → a ≡ true
    first_true true b is1 = refl
    first_true false b is1 = cc is1

    by : (o : Option Ex) → as_value y ≡ o → t ≡ Int → type_of y ≡ Some Int → both_values at (Arithmetic tree_op) (Some (read q)) o ≡ Some z → UpdatedAs at (arithmetic_of tree_op) t q y z
    by None o_is t_is y_is is1 = absurd (none_some is1)
    by (Some e) o_is t_is y_is is1 = (e, y_is, t_is, o_is, sym (same_some is1))

-- what always goes on
passed : {A B : Type 0} (o : Option A) (k : A → Option B) (P : Fault → Type 0) → Decided o P → ((x : A) → o ≡ Some x → (y : B) × (k x ≡ Some y)) → Decided (option_and_then k o) P
passed None k P d goes = d
passed (Some x) k P d goes = let g = goes x refl in subst (λ (o : Option _). Decided o P) (sym g.1) d

both_some : {A B C : Type 0} (k : A → B → Option C) (a : Option A) (b : Option B) (z : C) → both k a b ≡ Some z → (x : A) × (y : B) × (a ≡ Some x) × (b ≡ Some y) × (k x y ≡ Some z)
both_some k a b z is =
    let r = and_then_some (λ x. option_and_then (k x) b) a z is in
    let q = and_then_some (k r.0) b z r.2 in
    (r.0, q.0, r.1, q.1, q.2)

pub update_some : (at : Pos) (tree_op : ArithmeticOp) (a b : Option Operand) (z : Operand) → ((x : Operand) → a ≡ Some x → IsRead x) → both (combined at (Arithmetic tree_op)) a b ≡ Some z
    → (t : ValueType) × (q : Pl) × (y : Operand) × (a ≡ Some (value t (read q))) × (b ≡ Some y) × UpdatedAs at (arithmetic_of tree_op) t q y z
update_some at tree_op a b z reads is =
    let r = both_some (combined at (Arithmetic tree_op)) a b z is in
    let x = reads r.0 r.2 in
    (x.0, x.1, r.1, r.2 ∙ ap Some x.2, r.3, combined_as at tree_op x.0 x.1 r.1 z (ap (λ w. combined at (Arithmetic tree_op) w r.1) (sym x.2) ∙ r.4))

update_passes : (at : Pos) (tree_op : ArithmeticOp) (a b : Option Operand) (z : Operand) → ((x : Operand) → a ≡ Some x → IsRead x) → both (combined at (Arithmetic tree_op)) a b ≡ Some z → (u : St) × (updated z ≡ Some u)
update_passes at tree_op a b z reads is =
    let r = update_some at tree_op a b z reads is in
    let form = r.5 in
    (update (position at) r.1 (arithmetic_of tree_op) form.0, ap updated form.4)

step_decided : (op_at : Position) (typed_op : TypedOp) (o : Option Operand) (at : Pos) (P : Fault → Type 0) → ((x : Operand) → o ≡ Some x → IsRead x) → Decided o P
    → Decided (option_and_then (stepped op_at typed_op) o) (λ f. P f ⊎ IsFault (step_fault o at) f)
step_decided op_at typed_op None at P reads d = (d.0, inl d.1)
step_decided op_at typed_op (Some x) at P reads d =
    let r = reads x refl in
    subst (λ (y : Operand). Decided (stepped op_at typed_op y) (λ f. P f ⊎ IsFault (step_fault (Some y) at) f)) (sym r.2) (by r.0 r.1)
  where
    by : (t : ValueType) (q : Pl) → Decided (stepped op_at typed_op (value t (read q))) (λ f. P f ⊎ IsFault (step_fault (Some (value t (read q))) at) f)
    by Int q = λ f h. elim h [ inl k ↦ d f k | inr k ↦ k ]
    by t q = (fault Unfit at, inr refl)

module _ (text : List ℕ) where
  -- the place that a name is, in parentheses or not, is the one that it stands for
  pub named_place : (s : Scope) (e : TreeEx) (n : Name) → name_in e ≡ Some n → place_in text s e ≡ declared_place s (declaration s (spelled text n))
  named_place s (expressions.name m) n is =
      ap (option_and_then place_of) (one_in (name_operand s (declaration s (spelled text m)))) ∙ ap (λ (x : Name). declared_place s (declaration s (spelled text x))) (same_some is)
    where
      one_in : (o : Option Operand) → operand_in (option_map one o) ≡ o
      one_in None = refl
      one_in (Some x) = refl
  named_place s (expressions.paren at e) n is = named_place s e n is
  named_place s e n is = absurd (none_some is)

  side_decided : (s : Scope) (settled : IsSettled s) (e : TreeEx) → Decided (left text s e) (LeftSideFails text s (name_in e) e)
  side_decided s settled e = by (name_in e) refl
    where
      by : (o : Option Name) → name_in e ≡ o → Decided (left_of (is_blank_name text o) (place_in text s e)) (LeftSideFails text s o e)
      by None is = place_decided (λ x. to x.place) (operand_in (gives text s e)) (FailsAsOperand text s e) (first_pos e) (operand_decided (gives text s e) (Fails text s e) (gives_decided text s settled e))
      by (Some n) is =
          subst (λ (q : Option TypedPlace). Decided (left_of (is_blank (spelled text n)) q) (LeftSideFails text s (Some n) e)) (sym (named_place s e n is))
          (left_decided s (is_blank (spelled text n)) (declaration s (spelled text n)) n.pos (first_pos e) (λ x x_is. declared_typed s settled (spelled text n) x x_is))

  own_side_decided : (s : Scope) (settled : IsSettled s) (e : TreeEx) → Decided (own_value text s e) (OwnSideFails text s (name_in e) e)
  own_side_decided s settled e = by (name_in e) refl
    where
      by : (o : Option Name) → name_in e ≡ o → Decided (cond (is_blank_name text o) None (place_value (place_in text s e))) (OwnSideFails text s o e)
      by None is =
          place_decided (λ x. value x.value_type (read x.place)) (operand_in (gives text s e)) (FailsAsOperand text s e) (first_pos e) (operand_decided (gives text s e) (Fails text s e) (gives_decided text s settled e))
      by (Some n) is =
          subst (λ (q : Option TypedPlace). Decided (cond (is_blank (spelled text n)) None (place_value q)) (OwnSideFails text s (Some n) e)) (sym (named_place s e n is))
          (own_decided s (is_blank (spelled text n)) (declaration s (spelled text n)) n.pos (first_pos e) (λ x x_is. declared_typed s settled (spelled text n) x x_is))

  pub own_read : (s : Scope) (e : TreeEx) (x : Operand) → own_value text s e ≡ Some x → IsRead x
  own_read s e x is = by (is_blank_name text (name_in e)) is
    where
      by : (b : Bool) → cond b None (place_value (place_in text s e)) ≡ Some x → IsRead x
      by true is1 = absurd (none_some is1)
      by false is1 = place_read (place_in text s e) x is1

  own_sides_tested : (s : Scope) (settled : IsSettled s) (ls : TreeExs) → Tested (have_values text s ls) (OwnSidesFail text s ls)
  own_sides_tested s settled expressions.none = λ f h. h
  own_sides_tested s settled (some e es) =
      both_tested (OwnSideFails text s (name_in e) e) (OwnSidesFail text s es) (is_some (own_value text s e)) (have_values text s es)
      (some_tested (own_value text s e) (OwnSideFails text s (name_in e) e) (own_side_decided s settled e)) (own_sides_tested s settled es)

  pub lefts_decided : (s : Scope) (settled : IsSettled s) (ls : TreeExs) → Decided (lefts text s ls) (LeftsFail text s ls)
  lefts_decided s settled expressions.none = λ f h. h
  lefts_decided s settled (some e es) =
      after (left text s e) (λ l. option_map (λ ls. l ∷ ls) (lefts text s es)) (LeftSideFails text s (name_in e) e) (LeftsFail text s es) (side_decided s settled e)
      (λ l is. mapped (λ ls. l ∷ ls) (lefts text s es) (LeftsFail text s es) (lefts_decided s settled es))

  new_lefts_decided : (s : Scope) (settled : IsSettled s) (site : ℕ) (ns : List Name) → Decided (new_lefts text s site ns) (NewNamesFail text s ns)
  new_lefts_decided s settled site [] = λ f h. h
  new_lefts_decided s settled site (n ∷ ns) =
      let bytes = spelled text n in
      let behind1 = cond (declares s bytes) (1 + site) site in
      after (new_left text s site n) (λ l. option_map (λ ls. l ∷ ls) (new_lefts text s behind1 ns)) (IsFault (new_name_fault (is_blank bytes) (is_here s bytes) (declaration s bytes) n.pos)) (NewNamesFail text s ns)
      (subst (λ (q : Option TypedPlace). Decided (new_left_of (is_blank bytes) (is_here s bytes) q site) (IsFault (new_name_fault (is_blank bytes) (is_here s bytes) (declaration s bytes) n.pos))) (sym (named_place s (expressions.name n) n refl))
      (new_left_decided s (is_blank bytes) (is_here s bytes) (declaration s bytes) site n.pos (λ x is. declared_typed s settled bytes x is)))
      (λ l is. mapped (λ ls. l ∷ ls) (new_lefts text s behind1 ns) (NewNamesFail text s ns) (new_lefts_decided s settled behind1 ns))

  -- left sides that are places have types
  lefts_ask : (s : Scope) (ls : TreeExs) (l : List Left) → lefts text s ls ≡ Some l → AllAsk (all_wanted text s ls)
  lefts_ask s expressions.none l is = tt
  lefts_ask s (some e es) l is =
      let r = and_then_some (λ x. option_map (λ xs. x ∷ xs) (lefts text s es)) (left text s e) l is in
      let q = map_some (λ xs. r.0 ∷ xs) (lefts text s es) l r.2 in
      (left_asks (is_blank_name text (name_in e)) (place_in text s e) r.0 r.1, lefts_ask s es q.0 q.1)

  new_names_ask : (s : Scope) (site : ℕ) (ns : List Name) (l : List Left) → new_lefts text s site ns ≡ Some l → AllAsk (all_new_wanted text s ns)
  new_names_ask s site [] l is = tt
  new_names_ask s site (n ∷ ns) l is =
      let bytes = spelled text n in
      let behind1 = cond (declares s bytes) (1 + site) site in
      let r = and_then_some (λ x. option_map (λ xs. x ∷ xs) (new_lefts text s behind1 ns)) (new_left text s site n) l is in
      let q = map_some (λ xs. r.0 ∷ xs) (new_lefts text s behind1 ns) l r.2 in
      (new_left_asks (is_blank bytes) (is_here s bytes) (place_in text s (expressions.name n)) site r.0 r.1, new_names_ask s behind1 ns q.0 q.1)

  pub distinct_tested : (names : Blocks) (ns : List Name) → Tested (are_distinct text names ns) (TwiceFails text names ns)
  distinct_tested names [] = λ f h. h
  distinct_tested names (n ∷ ns) =
      both_tested (IsFault (fault_where (is_noted names (spelled text n)) (fault Redeclared n.pos))) (TwiceFails text (noted names (spelled text n)) ns) (not (is_noted names (spelled text n))) (are_distinct text (noted names (spelled text n)) ns)
      (where_tested (is_noted names (spelled text n)) (fault Redeclared n.pos)) (distinct_tested (noted names (spelled text n)) ns)

  define_statement : (s : Scope) (ns : List Name) (at : Pos) (es : TreeExs) → IsSettled s
      → Decided (cond (may_define text s ns) (assignment (new_lefts text s (length s.sites) ns) (taken (all_new_wanted text s ns) (seen text s es))) None) (FailsInDefinition text s ns at es)
  define_statement s ns at es settled =
      let v = taken (all_new_wanted text s ns) (seen text s es) in
      define_decided (may_define text s ns) (new_lefts text s (length s.sites) ns) v (λ f. FailsInEach text s es f ⊎ TakeFails (fault WrongCount (names_place ns at)) (all_new_wanted text s ns) (seen text s es) f)
      (NewNamesFail text s ns) (λ f. TwiceFails text ([] ∷ []) ns f ⊎ IsFault (fault_where (has_all text s ns) (fault NothingNew at)) f)
      (both_tested (TwiceFails text ([] ∷ []) ns) (IsFault (fault_where (has_all text s ns) _)) (are_distinct text ([] ∷ []) ns) (not (has_all text s ns)) (distinct_tested ([] ∷ []) ns) (where_tested (has_all text s ns) _))
      (new_lefts_decided s settled (length s.sites) ns)
      (λ l is. take_decided (seen text s es) (FailsInEach text s es) (seen_decided text s settled es) (fault WrongCount (names_place ns at)) (all_new_wanted text s ns) (new_names_ask s (length s.sites) ns l is))

  assign_statement : (s : Scope) (ls : TreeExs) (at : Pos) (es : TreeExs) → IsSettled s → Decided (assignment (lefts text s ls) (taken (all_wanted text s ls) (seen text s es))) (FailsInAssignment text s ls at es)
  assign_statement s ls at es settled =
      assign_decided (lefts text s ls) (taken (all_wanted text s ls) (seen text s es)) (count (seen text s es)) (length (all_wanted text s ls)) (fault WrongCount (lefts_place ls at)) (LeftsFail text s ls) (FailsInEach text s es) _
      (lefts_decided s settled ls)
      (λ l is. take_decided (seen text s es) (FailsInEach text s es) (seen_decided text s settled es) (fault WrongCount (lefts_place ls at)) (all_wanted text s ls) (lefts_ask s ls l is))

  update_one_decided : (s : Scope) (at : Pos) (tree_op : ArithmeticOp) (e v : TreeEx) → IsSettled s
      → Decided (update_one text s at tree_op e v)
      (λ f. (OwnSideFails text s (name_in e) e f ⊎ FailsAsOperand text s v f) ⊎ IsFault (pair_fault (first_pos e) (first_pos v) (Arithmetic tree_op) (own_value text s e) (operand_in (gives text s v))) f)
  update_one_decided s at tree_op e v settled =
      let a = own_value text s e in
      let b = operand_in (gives text s v) in
      let k = combined at (Arithmetic tree_op) in
      passed (both k a b) updated _
      (pair_decided at (first_pos e) (first_pos v) (Arithmetic tree_op) a b (OwnSideFails text s (name_in e) e) (FailsAsOperand text s v) (own_side_decided s settled e)
      (operand_decided (gives text s v) (Fails text s v) (gives_decided text s settled v)))
      (λ z is. update_passes at tree_op a b z (λ x x_is. own_read s e x x_is) is)

  refused_update : (s : Scope) (ls : TreeExs) (own : Fault) (es : TreeExs) → IsSettled s
      → (f : Fault) × (((OwnSidesFail text s ls f ⊎ FailsInEach text s es f) ⊎ ValuesFail (many (seen text s es)) (seen text s es) f) ⊎ IsFault (refused_fault (given_count (have_values text s ls) (seen text s es)) own) f)
  refused_update s ls own es settled = by (have_values text s ls) (own_sides_tested s settled ls)
    where
      by : (b : Bool) → Tested b (OwnSidesFail text s ls)
          → (f : Fault) × (((OwnSidesFail text s ls f ⊎ FailsInEach text s es f) ⊎ ValuesFail (many (seen text s es)) (seen text s es) f) ⊎ IsFault (refused_fault (given_count b (seen text s es)) own) f)
      by false t = (t.0, inl (inl (inl t.1)))
      by true t =
          let r = refused (seen text s es) (FailsInEach text s es) (seen_decided text s settled es) own in
          (r.0, elim r.1 [ inl h ↦ inl (inl (inr h)) | inr h ↦ elim h [ inl k ↦ inl (inr k) | inr k ↦ inr k ] ])

  update_decided : (s : Scope) (ls : TreeExs) (at : Pos) (tree_op : ArithmeticOp) (es : TreeExs) → IsSettled s → (e v : Option TreeEx) → Decided (update_statement text s at tree_op e v) (UpdateFails text s ls at tree_op es e v)
  update_decided s ls at tree_op es settled (Some e) (Some v) = update_one_decided s at tree_op e v settled
  update_decided s ls at tree_op es settled (Some e) None = refused_update s ls (fault WrongCount (lefts_place ls at)) es settled
  update_decided s ls at tree_op es settled None (Some v) = refused_update s ls (fault WrongCount (lefts_place ls at)) es settled
  update_decided s ls at tree_op es settled None None = refused_update s ls (fault WrongCount (lefts_place ls at)) es settled

  step_statement_decided : (s : Scope) (op_at : Pos) (typed_op : TypedOp) (e : TreeEx) → IsSettled s → Decided (step_statement text s op_at typed_op e) (FailsInStep text s e)
  step_statement_decided s op_at typed_op e settled =
      step_decided (position op_at) typed_op (own_value text s e) (first_pos e) (OwnSideFails text s (name_in e) e) (λ x is. own_read s e x is) (own_side_decided s settled e)

  pub simple_decided : (s : Scope) (m : Simple) → IsSettled s → Decided (simple_statement text s m) (FailsInSimple text s m)
  simple_decided s (tree.express e) settled = use_decided (length s.strings) (gives text s e) (first_pos e) (Fails text s e) (gives_decided text s settled e)
  simple_decided s (tree.assign ls at es) settled = assign_statement s ls at es settled
  simple_decided s (tree.update ls at tree_op es) settled = update_decided s ls at tree_op es settled (only ls) (only es)
  simple_decided s (tree.define ns at es) settled = define_statement s ns at es settled
  simple_decided s (tree.increment e at) settled = step_statement_decided s at op.Add e settled
  simple_decided s (tree.decrement e at) settled = step_statement_decided s at op.Sub e settled

  pub settled_simple : (s : Scope) (m : Simple) (t : St) → IsSettled s → simple_statement text s m ≡ Some t → IsSettled (behind_simple text s m)
  settled_simple s (tree.express e) t settled is = record { all = settled.all; formed = settled.formed }
  settled_simple s (tree.assign ls at es) t settled is = settled
  settled_simple s (tree.update ls at tree_op es) t settled is = settled
  settled_simple s (tree.define ns at es) t settled is =
      let v = taken (all_new_wanted text s ns) (seen text s es) in
      let w = where_some (may_define text s ns) (assignment (new_lefts text s (length s.sites) ns) v) t is in
      let a = assignment_some (new_lefts text s (length s.sites) ns) v t w.1 in
      let types = taken_types_are (all_new_wanted text s ns) (seen text s es) a.1 a.3 in
      subst (λ (o : Option (List ValueType)). IsSettled (with_variables text s (new_slots text s (slots_each o ns)))) (sym types.1)
      (settled_new text s types.0 ns (types.2 ∙ length-map ns (Rattle.simple_statements.specs.SimpleStatements.new_wanted text s)) settled)
  settled_simple s (tree.increment e at) t settled is = settled
  settled_simple s (tree.decrement e at) t settled is = settled
