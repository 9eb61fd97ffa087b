-- What expressions, constants and variables give where more is known of these.
use Rattle.std.proofs.Common.{◌≡◌, ℕ, zero, suc, ◌+◌, Bool, true, false, List, [], ◌∷◌, Option, Some, None, refl, sym, ap, ◌∙◌, subst, arith, length}
use Rattle.std.specs.Prelude.{slice_get, slice_set, option_and_then, ◌==◌, ◌&&◌}
use Rattle.std.proofs.lemmas.Bool.{eqb-true}
use Rattle.std.specs.Option.{option_map}
use Rattle.base.specs.declared.pos.Pos.{Pos}
use Rattle.syntax.specs.declared.operator.UnOp.{UnOp}
use Rattle.syntax.specs.FirstBytes.{first_pos}
use Rattle.syntax.specs.declared.expression.Name.{Name}
use Rattle.syntax.specs.Expressions as tree
use Rattle.syntax.specs.Expressions.{Ex as TreeEx, Exs as TreeExs, Elements as TreeElements, some, number, string, name, unary, binary, paren, call, selector, index, slice, array_type, slice_type, literal, elements, no_elements, element, spelled}
use Rattle.typed_syntax.specs.Syntax.{Exs}
use Rattle.constants.specs.declared.constant.Fixed.{Fixed}
use Rattle.base.specs.declared.value_type.ValueType.{ValueType}
use Rattle.type_faults.specs.Given.{allowed, both}
use Rattle.base.specs.Types.{same_type}
use Rattle.constants.specs.Constants.{constant_type, is_held, holds}
use Rattle.type_faults.proofs.Options.{and_then_some, map_some, none_some, same_some}
use Rattle.operators.specs.Operands.{Operand, constant, value, nil, type_of, as_value}
use Rattle.operators.specs.Operators.{has_rules, prefixed, combined}
use Rattle.operators.proofs.Held.{IsHeld}
use Rattle.names.specs.declared.scope.Declared.{Declared}
use Rattle.names.specs.declared.scope.Declared.TheVariants as declared
use Rattle.names.specs.declared.scope.Known.{Known}
use Rattle.names.specs.declared.scope.Known.TheVariants as known_as
use Rattle.names.specs.Scope.{Scope, declaration}
use Rattle.names.specs.Naming.{name_in}
use Rattle.names.specs.Types.{array_type as array_of}
use Rattle.names.proofs.Settled.{IsSound, AreSound}
use Rattle.operand_parts.specs.Parts.{selected, indexed}
use Rattle.operand_parts.specs.ArrayTypes.{length_of, array_with}
use Rattle.operand_parts.specs.Literals.{elided, type_elided, element_part}
use Rattle.given_values.specs.Given.{Gives, one, called, asking, printed, global_read, constant_read, name_operand, prefix_gives, single, operand_in, value_in, part_in, Seen, listed, values, parts, type_in_one, Many, many_in, many, types_with, values_agree, each, fits_with, fits, all_values, taken, Callee, printer, panicker, reader, exiter, function, conversion, no_function, no_spread, no_text_spread, nothing, callee_value, callee_declared, exit_places, panicked_with, exited_with, called_with, spread_over, callee, measurer, measured, measure_constant, length_in}
use Rattle.expression_types.specs.Typing.{literal_given, literal_gives, gives, stated_type, placed, seen, call_in, early, early_gives, are_quiet, called_quietly}
use Rattle.expression_types.proofs.Held.{operand_held}
use Rattle.package_values.specs.declared.items.Role.{Role}
use Rattle.package_values.specs.declared.items.Role.TheVariants as role
use Rattle.package_values.specs.Values.{Item, as_constant, constant_in, with_type, accepted, given_by, initial_type, variable_type, given_as, given, look, looks}
use Rattle.package_values.proofs.Growth.{known, Within, renewed, rounds}
use Rattle.package_values.proofs.Holding.{holding, select_same, part_same, literal_same}
use Rattle.package_values.proofs.Literals.{AllPlaced, literal_typed, literal_placed, placed_alike}
use Rattle.package_values.proofs.Stays.{Stays, map_stays, then_stays, both_stay}

-- ---- what is given stays so where more is known

-- an operand that is called gives nothing
pub no_value_call : (at : Pos) (spread : Bool) (o : Option Operand) (os : List Seen) (g : Gives) → called_with at (spread_over spread (callee_value o)) os ≡ Some g → ⊥
no_value_call at false None os g h = none_some h
no_value_call at true None os g h = none_some h
no_value_call at false (Some x) os g h = none_some h
no_value_call at true (Some x) os g h = none_some h

pub a_constant : (o : Option Operand) (f : Fixed) → option_and_then as_constant o ≡ Some f → o ≡ Some (constant f)
a_constant None f h = absurd (none_some h)
a_constant (Some (constant g)) f h = ap (λ (x : Fixed). Some (constant x)) (same_some h)
a_constant (Some (value t x)) f h = absurd (none_some h)
a_constant (Some nil) f h = absurd (none_some h)

-- what is given early is given
pub late : (found : Option Pos) (o : Option Operand) (x : Operand) → option_and_then (early found) o ≡ Some x → o ≡ Some x
late found None x h = absurd (none_some h)
late None (Some (constant f)) x h = h
late (Some at) (Some (constant f)) x h = absurd (none_some h)
late found (Some (value t y)) x h = h
late found (Some nil) x h = h

single_still : (o p : Option Gives) → Stays o p → Stays (operand_in o) (operand_in p)
single_still o p still = then_stays single single o p (λ g. refl) still

prefix_still : (op : UnOp) (b : Bool) (x y : Option Operand) → Stays x y → Stays (prefix_gives op b x) (prefix_gives op b y)
prefix_still op false x y still g h = h
prefix_still op true x y still g h =
    map_stays one (option_and_then (prefixed op) x) (option_and_then (prefixed op) y) (then_stays (prefixed op) (prefixed op) x y (λ a. refl) still) g h

-- ---- expressions that all give something

abbrev pub AllGive : List Seen → Type 0
AllGive [] = Unit {0}
AllGive (o ∷ os) = ((g : Gives) × (o.gives ≡ Some g)) × AllGive os

there_is : {A : Type 0} (k : Option Gives → Option A) → k None ≡ None → (o : Option Gives) (x : A) → k o ≡ Some x → (g : Gives) × (o ≡ Some g)
there_is k none_is None x h = absurd (none_some (sym none_is ∙ h))
there_is k none_is (Some g) x h = (g, refl)

listed_give : {A : Type 0} (k : Option Gives → Option A) → k None ≡ None → (os : List Seen) (xs : List A) → listed k os ≡ Some xs → AllGive os
listed_give k none_is [] xs h = tt
listed_give k none_is (o ∷ os) xs h =
    let p = and_then_some (λ x. option_map (λ ys. x ∷ ys) (listed k os)) (k o.gives) xs h in
    let q = map_some (λ ys. p.0 ∷ ys) (listed k os) xs p.2 in
    (there_is k none_is o.gives p.0 p.1, listed_give k none_is os q.0 q.1)

pub many_give : (os : List Seen) (m : Many) → many os ≡ Some m → AllGive os
many_give [] m h = tt
many_give (o ∷ []) m h = (there_is many_in refl o.gives m h, tt)
many_give (o ∷ q ∷ os) m h = absurd (none_some h)

values_give : (os : List Seen) (o : Option Many) (x : Exs) → many os ≡ o → all_values os o ≡ Some x → AllGive os
values_give os None x is h = let p = map_some each (values os) x h in listed_give value_in refl os p.0 p.1
values_give os (Some m) x is h = many_give os m is

types_give : (os : List Seen) (o : Option Many) (ts : List ValueType) → many os ≡ o → types_with os o ≡ Some ts → AllGive os
types_give os None ts is h = listed_give type_in_one refl os ts h
types_give os (Some m) ts is h = many_give os m is

first_true : (a b : Bool) → (a && b) ≡ true → a ≡ true
first_true true b h = refl
first_true false b h = h

no_places : (os : List Seen) (o : Option Many) → many os ≡ o → fits_with [] os o ≡ true → AllGive os
no_places [] o is h = tt
no_places (x ∷ os) None is h = let z = eqb-true (length (x ∷ os)) 0 (first_true (length (x ∷ os) == 0) (values_agree [] (x ∷ os)) h) in absurd (omega (arith, z))
no_places os (Some m) is h = many_give os m is

pub allowed_gives : {A : Type 0} (b : Bool) (o : Option A) (x : A) → allowed b o ≡ Some x → (b ≡ true) × (o ≡ Some x)
allowed_gives true o x h = (refl, h)
allowed_gives false o x h = absurd (none_some h)

measured_give : (os : List Seen) (n : ℕ) → measured os ≡ Some n → AllGive os
measured_give [] n h = tt
measured_give (o ∷ []) n h =
    let p = and_then_some length_in (operand_in o.gives) n h in
    (there_is operand_in refl o.gives p.0 p.1, tt)
measured_give (o ∷ q ∷ os) n h = absurd (none_some h)

-- what a call gives rests on arguments that all give something
pub call_gives : (at : Pos) (k : Callee) (os : List Seen) (g : Gives) → called_with at k os ≡ Some g → AllGive os
call_gives at (printer line) os g h = let p = map_some (printed at line) (parts os) g h in listed_give part_in refl os p.0 p.1
call_gives at panicker os g h = let p = and_then_some (panicked_with at) (parts os) g h in listed_give part_in refl os p.0 p.1
call_gives at (measurer m) os g h = let p = map_some measure_constant (measured os) g h in measured_give os p.0 p.1
call_gives at reader os g h = no_places os (many os) refl (allowed_gives (fits [] os) (Some (asking at)) g h).0
call_gives at exiter os g h =
    let p = and_then_some (exited_with at) (allowed (fits exit_places os) (values os)) g h in
    let q = allowed_gives (fits exit_places os) (values os) p.0 p.1 in
    listed_give value_in refl os p.0 q.1
call_gives at (function f ps ts) os g h =
    let p = map_some (called at ts f) (taken ps os) g h in
    let q = allowed_gives (fits ps os) (all_values os (many os)) p.0 p.1 in
    values_give os (many os) p.0 refl q.1
call_gives at conversion os g h = absurd (none_some h)
call_gives at no_function os g h = absurd (none_some h)
call_gives at no_spread os g h = absurd (none_some h)
call_gives at no_text_spread os g h = absurd (none_some h)
call_gives at nothing os g h = absurd (none_some h)

module _ (text : List ℕ) (s : Scope) where
  abbrev pub give : List (Option Known) → Item → Option Known
  give cs i = given text (holding s cs) i

  module _ (cs ds : List (Option Known)) (within : Within cs ds) where
    known_still : {A : Type 0} (h : Known → A) (k : ℕ) (x : A) → option_map h (known cs k) ≡ Some x → option_map h (known ds k) ≡ Some x
    known_still h k x is = let p = map_some h (known cs k) x is in ap (option_map h) (within k p.0 p.1) ∙ ap Some p.2

    name_still : (d : Option Declared) (x : Operand) → name_operand (holding s cs) d ≡ Some x → name_operand (holding s ds) d ≡ Some x
    name_still (Some (declared.Constant k)) x h = known_still constant_read k.0 x h
    name_still (Some (declared.Global k g)) x h = known_still (global_read g.0) k.0 x h
    name_still d x h = h

    -- what is called is the same, where the call gives something
    declared_still : (at : Pos) (spread : Bool) (d : Option Declared) (os : List Seen) (g : Gives) → called_with at (spread_over spread (callee_declared (holding s cs) d)) os ≡ Some g
        → callee_declared (holding s cs) d ≡ callee_declared (holding s ds) d
    declared_still at spread (Some (declared.Constant k)) os g h = absurd (no_value_call at spread (option_map constant_read (known cs k.0)) os g h)
    declared_still at spread (Some (declared.Global k j)) os g h = absurd (no_value_call at spread (option_map (global_read j.0) (known cs k.0)) os g h)
    declared_still at spread d os g h = refl

    callee_still : (at : Pos) (spread : Bool) (o : Option Name) (x y : Option Gives) (os : List Seen) (g : Gives) → called_with at (spread_over spread (callee text (holding s cs) o x)) os ≡ Some g
        → callee text (holding s cs) o x ≡ callee text (holding s ds) o y
    callee_still at spread None x y os g h = absurd (no_value_call at spread (operand_in x) os g h)
    callee_still at spread (Some n) x y os g h = declared_still at spread (declaration s (spelled text n)) os g h

    -- the one value that an expression gives where fewer are known, and where more are
    abbrev fewer : TreeEx → Option Operand
    fewer e = operand_in (gives text (holding s cs) e)

    abbrev more : TreeEx → Option Operand
    more e = operand_in (gives text (holding s ds) e)

    selector_still : (e : TreeEx) (n : Name) → Stays (fewer e) (more e) → Stays (option_map one (option_and_then (selected text (holding s cs) n) (fewer e))) (option_map one (option_and_then (selected text (holding s ds) n) (more e)))
    selector_still e n still =
        map_stays one (option_and_then (selected text (holding s cs) n) (fewer e)) (option_and_then (selected text (holding s ds) n) (more e))
        (then_stays (selected text (holding s cs) n) (selected text (holding s ds) n) (fewer e) (more e) (select_same text s cs ds n) still)

    pair_still : (k : Operand → Operand → Option Operand) (a b : TreeEx) → Stays (fewer a) (more a) → Stays (fewer b) (more b) → Stays (option_map one (both k (fewer a) (fewer b))) (option_map one (both k (more a) (more b)))
    pair_still k a b left right = map_stays one (both k (fewer a) (fewer b)) (both k (more a) (more b)) (both_stay k (fewer a) (more a) (fewer b) (more b) left right)

    -- a literal whose elements are the same where all give something
    literal_still : (t : Option ValueType) (es : TreeElements) → (AllPlaced (placed text (holding s cs) t 0 es) → placed text (holding s cs) t 0 es ≡ placed text (holding s ds) t 0 es)
        → Stays (literal_gives text (holding s cs) t es) (literal_gives text (holding s ds) t es)
    literal_still t es same g h =
        let qs = placed text (holding s cs) t 0 es in
        ap (literal_given text (holding s ds) t es) (sym (same (literal_placed text (holding s cs) t es qs g h))) ∙ sym (literal_same text s cs ds t es qs) ∙ h

    -- a value that stays is the same
    value_still : (x y : Option Operand) → Stays x y → ((a : Operand) × (x ≡ Some a)) → x ≡ y
    value_still x y still has = has.1 ∙ sym (still has.0 has.1)

    early_still : (e : TreeEx) → Stays (fewer e) (more e) → Stays (early_gives text (holding s cs) e) (early_gives text (holding s ds) e)
    early_still e still = then_stays (early (call_in e)) (early (call_in e)) (fewer e) (more e) (λ x. refl) still

    array_still : (len e : TreeEx) → Stays (fewer len) (more len) → Stays (stated_type text (holding s cs) e) (stated_type text (holding s ds) e)
        → Stays (array_with s.types (option_and_then length_of (early_gives text (holding s cs) len)) (stated_type text (holding s cs) e))
        (array_with s.types (option_and_then length_of (early_gives text (holding s ds) len)) (stated_type text (holding s ds) e))
    array_still len e length1 of =
        both_stay (array_of s.types) (option_and_then length_of (early_gives text (holding s cs) len)) (option_and_then length_of (early_gives text (holding s ds) len))
        (stated_type text (holding s cs) e) (stated_type text (holding s ds) e)
        (then_stays length_of length_of (early_gives text (holding s cs) len) (early_gives text (holding s ds) len) (λ x. refl) (early_still len length1)) of

    mutual
      pub gives_still : (e : TreeEx) (g : Gives) → gives text (holding s cs) e ≡ Some g → gives text (holding s ds) e ≡ Some g
      gives_still (number at n) g h = h
      gives_still (string at behind) g h = h
      gives_still (name n) g h =
          let d = declaration s (spelled text n) in
          let p = map_some one (name_operand (holding s cs) d) g h in ap (option_map one) (name_still d p.0 p.1) ∙ ap Some p.2
      gives_still (unary at op e) g h = prefix_still op (has_rules op) (fewer e) (more e) (single_still (gives text (holding s cs) e) (gives text (holding s ds) e) (gives_still e)) g h
      gives_still (binary at op a b) g h =
          pair_still (combined at op) a b (single_still (gives text (holding s cs) a) (gives text (holding s ds) a) (gives_still a))
          (single_still (gives text (holding s cs) b) (gives text (holding s ds) b) (gives_still b)) g h
      gives_still (paren at e) g h = gives_still e g h
      gives_still (call f es spread) g h =
          let k = callee text (holding s cs) (name_in f) (gives text (holding s cs) f) in
          let os = seen text (holding s cs) es in
          let q = allowed_gives (are_quiet (spread_over spread k) os) (called_with (first_pos f) (spread_over spread k) os) g h in
          let k_is : k ≡ callee text (holding s ds) (name_in f) (gives text (holding s ds) f) =
          callee_still (first_pos f) spread (name_in f) (gives text (holding s cs) f) (gives text (holding s ds) f) os g q.1 in
          let os_is : os ≡ seen text (holding s ds) es = seen_still es (call_gives (first_pos f) (spread_over spread k) os g q.1) in
          sym (ap (λ (x : Callee). called_quietly (first_pos f) (spread_over spread x) os) k_is
          ∙ ap (λ (l : List Seen). called_quietly (first_pos f) (spread_over spread (callee text (holding s ds) (name_in f) (gives text (holding s ds) f))) l) os_is) ∙ h
      gives_still (selector e at n) g h = selector_still e n (single_still (gives text (holding s cs) e) (gives text (holding s ds) e) (gives_still e)) g h
      gives_still (index e at i) g h =
          pair_still (indexed s.types at) e i (single_still (gives text (holding s cs) e) (gives text (holding s ds) e) (gives_still e))
          (single_still (gives text (holding s cs) i) (gives text (holding s ds) i) (gives_still i)) g h
      gives_still (slice e at low high) g h = h
      gives_still (array_type at len e) g h = h
      gives_still (slice_type at e) g h = h
      gives_still (literal e es) g h =
          let t = stated_type text (holding s cs) e in
          let u = literal_typed text (holding s cs) t es (placed text (holding s cs) t 0 es) g h in
          ap (λ (o : Option ValueType). literal_gives text (holding s ds) o es) (stated_still e u.0 u.1 ∙ sym u.1) ∙ literal_still t es (placed_still es t 0) g h
      gives_still (elements at es) g h = h

      stated_still : (e : TreeEx) (t : ValueType) → stated_type text (holding s cs) e ≡ Some t → stated_type text (holding s ds) e ≡ Some t
      stated_still (name n) t h = h
      stated_still (paren at e) t h = stated_still e t h
      stated_still (array_type at len e) t h = array_still len e (single_still (gives text (holding s cs) len) (gives text (holding s ds) len) (gives_still len)) (stated_still e) t h
      stated_still e t h = h

      placed_still : (es : TreeElements) (t : Option ValueType) (n : ℕ) → AllPlaced (placed text (holding s cs) t n es) → placed text (holding s cs) t n es ≡ placed text (holding s ds) t n es
      placed_still no_elements t n all = refl
      placed_still (element key (elements at es) rest) t n all =
          let u = type_elided (elided s.types t) in
          let o = literal_gives text (holding s cs) u es in
          let p = literal_gives text (holding s ds) u es in
          placed_alike (element_part text (holding s cs) t n key) (element_part text (holding s ds) t n key) at (operand_in o) (operand_in p) (placed text (holding s cs) t (1 + n) rest) (placed text (holding s ds) t (1 + n) rest)
          (part_same text s cs ds t n key) (value_still (operand_in o) (operand_in p) (single_still o p (literal_still u es (placed_still es u 0))) all.0) (placed_still rest t (1 + n) all.1)
      placed_still (element key e rest) t n all =
          placed_alike (element_part text (holding s cs) t n key) (element_part text (holding s ds) t n key) (first_pos e) (fewer e) (more e) (placed text (holding s cs) t (1 + n) rest) (placed text (holding s ds) t (1 + n) rest)
          (part_same text s cs ds t n key) (value_still (fewer e) (more e) (single_still (gives text (holding s cs) e) (gives text (holding s ds) e) (gives_still e)) all.0) (placed_still rest t (1 + n) all.1)

      pub seen_still : (es : TreeExs) → AllGive (seen text (holding s cs) es) → seen text (holding s cs) es ≡ seen text (holding s ds) es
      seen_still tree.none all = refl
      seen_still (some e es) all =
          ap (λ (o : Option Gives). record { at = first_pos e; gives = o } ∷ seen text (holding s cs) es) (all.0.1 ∙ sym (gives_still e all.0.0 all.0.1))
          ∙ ap (λ (os : List Seen). record { at = first_pos e; gives = gives text (holding s ds) e } ∷ os) (seen_still es all.1)

    operand_still : (e : TreeEx) → Stays (fewer e) (more e)
    operand_still e = single_still (gives text (holding s cs) e) (gives text (holding s ds) e) (gives_still e)

    accepted_still : (t : Option TreeEx) (c : Fixed) → Stays (accepted text (holding s cs) t c) (accepted text (holding s ds) t c)
    accepted_still None c f h = h
    accepted_still (Some e) c f h = then_stays (λ t. with_type t c) (λ t. with_type t c) (stated_type text (holding s cs) e) (stated_type text (holding s ds) e) (λ t. refl) (stated_still e) f h

    given_still : (t v : Option TreeEx) (f : Fixed) → given_by text (holding s cs) t v ≡ Some f → given_by text (holding s ds) t v ≡ Some f
    given_still t None f h = absurd (none_some h)
    given_still t (Some e) f h =
        let p = and_then_some (accepted text (holding s cs) t) (option_and_then as_constant (early_gives text (holding s cs) e)) f h in
        let q = and_then_some as_constant (early_gives text (holding s cs) e) p.0 p.1 in
        ap (option_and_then (accepted text (holding s ds) t)) (ap (option_and_then as_constant) (early_still e (operand_still e) q.0 q.1) ∙ q.2) ∙ accepted_still t p.0 f p.2

    initial_still : (v : Option TreeEx) (es : TreeExs) (n k : ℕ) (t : ValueType) → initial_type text (holding s cs) v es n k ≡ Some t → initial_type text (holding s ds) v es n k ≡ Some t
    initial_still (Some e) es n k t h =
        let p = and_then_some (λ x. option_and_then (λ v. type_of x) (as_value x)) (operand_in (gives text (holding s cs) e)) t h in
        ap (option_and_then (λ x. option_and_then (λ v. type_of x) (as_value x))) (operand_still e p.0 p.1) ∙ p.2
    initial_still None es n k t h =
        let os = seen text (holding s cs) es in
        let result = λ (m : Many). allowed (length m.types == n) (slice_get m.types k) in
        let p = and_then_some result (many os) t h in
        ap (λ (l : List Seen). option_and_then result (many l)) (sym (seen_still es (many_give os p.0 p.1))) ∙ h

    variable_still : (t v : Option TreeEx) (es : TreeExs) (n k : ℕ) (u : ValueType) → variable_type text (holding s cs) t v es n k ≡ Some u → variable_type text (holding s ds) t v es n k ≡ Some u
    variable_still (Some e) v es n k u h = stated_still e u h
    variable_still None v es n k u h = initial_still v es n k u h

    still_as : (r : Role) (i : Item) (x : Known) → given_as text r (holding s cs) i ≡ Some x → given_as text r (holding s ds) i ≡ Some x
    still_as role.Constant i x h =
        let p = map_some known_as.Constant (given_by text (holding s cs) i.type_expr i.value) x h in ap (option_map known_as.Constant) (given_still i.type_expr i.value p.0 p.1) ∙ ap Some p.2
    still_as role.Variable i x h =
        let n = length i.names in
        let p = map_some known_as.Variable (variable_type text (holding s cs) i.type_expr i.value i.values n i.place) x h in
        ap (option_map known_as.Variable) (variable_still i.type_expr i.value i.values n i.place p.0 p.1) ∙ ap Some p.2

  pub monotone : (cs ds : List (Option Known)) → Within cs ds → (i : Item) (x : Known) → give cs i ≡ Some x → give ds i ≡ Some x
  monotone cs ds within i x h = still_as cs ds within i.role i x h

  -- ---- the value of a constant is held by its type

  constant_held : (k : Known) (x : Operand) → IsSound k → constant_read k ≡ x → IsHeld x
  constant_held (known_as.Constant f) x sound is = subst IsHeld is sound
  constant_held (known_as.Variable t) x sound is = subst IsHeld is tt

  name_held : (cs : List (Option Known)) → AreSound cs → (d : Option Declared) (x : Operand) → name_operand (holding s cs) d ≡ Some x → IsHeld x
  name_held cs sound (Some (declared.Constant k)) x is = let p = map_some constant_read (known cs k.0) x is in constant_held p.0 x (sound k.0 p.0 p.1) p.2
  name_held cs sound (Some (declared.Global k g)) x is = let p = map_some (global_read g.0) (known cs k.0) x is in subst IsHeld p.2 tt
  name_held cs sound (Some (declared.Variable site t)) x is = subst IsHeld (same_some is) tt
  name_held cs sound (Some (declared.Truth b)) x is = subst IsHeld (same_some is) refl
  name_held cs sound (Some declared.Nil) x is = subst IsHeld (same_some is) tt
  name_held cs sound d x is = absurd (none_some is)

  typed_held : (t : ValueType) (c f : Fixed) → with_type t c ≡ Some f → is_held f.value_type f.value ≡ true
  typed_held t c f is = by (same_type t (constant_type c.value_type c.value)) (holds t c.value) refl is
    where
      by : (a h : Bool) → holds t c.value ≡ h → allowed (a && h) (Some (record { value_type = Some t; value = c.value })) ≡ Some f → is_held f.value_type f.value ≡ true
      by true true e is1 = subst (λ (g : Fixed). is_held g.value_type g.value ≡ true) (same_some is1) e
      by true false e is1 = absurd (none_some is1)
      by false h e is1 = absurd (none_some is1)

  accepted_held : (cs : List (Option Known)) (t : Option TreeEx) (c f : Fixed) → is_held c.value_type c.value ≡ true → accepted text (holding s cs) t c ≡ Some f → is_held f.value_type f.value ≡ true
  accepted_held cs None c f held is = subst (λ (g : Fixed). is_held g.value_type g.value ≡ true) (same_some is) held
  accepted_held cs (Some e) c f held is = let p = and_then_some (λ t. with_type t c) (stated_type text (holding s cs) e) f is in typed_held p.0 c f p.2

  by_value : (cs : List (Option Known)) → AreSound cs → (t v : Option TreeEx) (f : Fixed) → given_by text (holding s cs) t v ≡ Some f → is_held f.value_type f.value ≡ true
  by_value cs sound t None f is = absurd (none_some is)
  by_value cs sound t (Some e) f is =
      let p = and_then_some (accepted text (holding s cs) t) (option_and_then as_constant (early_gives text (holding s cs) e)) f is in
      let q = a_constant (early_gives text (holding s cs) e) p.0 p.1 in
      accepted_held cs t p.0 f (operand_held text (holding s cs) (λ n x h. name_held cs sound (declaration s n) x h) e (constant p.0) (late (call_in e) (operand_in (gives text (holding s cs) e)) (constant p.0) q)) p.2

  sound_as : (cs : List (Option Known)) → AreSound cs → (r : Role) (i : Item) (x : Known) → given_as text r (holding s cs) i ≡ Some x → IsSound x
  sound_as cs sound role.Constant i x is =
      let p = map_some known_as.Constant (given_by text (holding s cs) i.type_expr i.value) x is in subst IsSound p.2 (by_value cs sound i.type_expr i.value p.0 p.1)
  sound_as cs sound role.Variable i x is =
      let found = variable_type text (holding s cs) i.type_expr i.value i.values (length i.names) i.place in
      let p = map_some known_as.Variable found x is in subst IsSound p.2 tt

  pub given_sound : (cs : List (Option Known)) → AreSound cs → (i : Item) (x : Known) → give cs i ≡ Some x → IsSound x
  given_sound cs sound i x is = sound_as cs sound i.role i x is

  -- looks change the constants alone
  pub look_is : (k : ℕ) (cs : List (Option Known)) (is : List Item) → look text k (holding s cs) is ≡ holding s (renewed give monotone k cs is)
  look_is k cs [] = refl
  look_is k cs (i ∷ is) = look_is (1 + k) (slice_set cs k (give cs i)) is

  pub looks_are : (n : ℕ) (cs : List (Option Known)) (is : List Item) → looks text n (holding s cs) is ≡ holding s (rounds give monotone n cs is)
  looks_are zero cs is = refl
  looks_are (suc n) cs is = ap (λ (r : Scope). looks text n r is) (look_is 0 cs is) ∙ looks_are n (renewed give monotone 0 cs is) is
