-- What an expression gives, and which rules fail in it, rest on the constants and variables that it names and on no others.
use Rattle.std.proofs.Common.{◌≡◌, ℕ, Bool, true, false, List, [], ◌∷◌, ◌++◌, ◌⊎◌, inl, inr, Option, Some, None, refl, sym, ap, ◌∙◌, subst, cond}
use Rattle.std.specs.Prelude.{◌+◌, option_and_then}
use Rattle.std.specs.Option.{option_map}
use Rattle.base.specs.declared.pos.Pos.{Pos}
use Rattle.base.specs.declared.value_type.ValueType.{ValueType}
use Rattle.syntax.specs.declared.expression.Name.{Name}
use Rattle.syntax.specs.FirstBytes.{first_pos}
use Rattle.syntax.specs.Expressions.{Ex as TreeEx, Exs as TreeExs, Elements as TreeElements, no_elements, element, number, string, name, unary, binary, paren, call, selector, index, slice, array_type, slice_type, literal, elements, some, spelled}
use Rattle.syntax.specs.Expressions as tree
use Rattle.type_faults.specs.declared.fault.Fault.{Fault}
use Rattle.type_faults.specs.Faults.{IsFault, FormFails, fault}
use Rattle.type_faults.specs.Given.{both}
use Rattle.type_faults.proofs.Options.{none_some, same_some}
use Rattle.operators.specs.Operands.{Operand, constant, value, nil}
use Rattle.operators.specs.Operators.{has_rules}
use Rattle.operators.specs.Faults.{prefix_fault, pair_fault}
use Rattle.names.specs.declared.scope.Declared.{Declared}
use Rattle.names.specs.declared.scope.Declared.TheVariants as declared
use Rattle.names.specs.declared.scope.Known.{Known}
use Rattle.names.specs.Scope.{Scope, declaration}
use Rattle.names.specs.Naming.{name_in}
use Rattle.operand_parts.specs.Parts.{selected, indexed}
use Rattle.operand_parts.specs.PartFaults.{selector_fault, index_fault}
use Rattle.operand_parts.specs.ArrayTypes.{length_of, array_with, length_fault, array_fault}
use Rattle.operand_parts.specs.Literals.{elided, type_elided, element_part}
use Rattle.operand_parts.specs.LiteralValues.{Placed, ElementsFail}
use Rattle.given_values.specs.Given.{Gives, one, global_read, constant_read, name_operand, prefix_gives, pair_gives, operand_in, Seen, Callee, callee_value, callee_declared, spread_over, callee, measurer}
use Rattle.expression_types.specs.Typing.{literal_given, literal_gives, gives, stated_type, placed, seen, call_in, early, early_gives, called_quietly}
use Rattle.given_values.specs.GivenFaults.{single_fault, CallFails, CalleeFails}
use Rattle.expression_types.specs.Faults.{WhereTaken, Fails, StatedFails, FailsInElements, FailsInEach, FailsInLiteral, inner_fault, quiet_fault, early_fault, FailsEarly}
use Rattle.package_values.specs.Needs.{names_in, names_in_each, names_in_elements, names_in_bound}
use Rattle.package_values.proofs.Growth.{known}
use Rattle.package_values.proofs.Holding.{holding, select_same, selector_fault_same, part_same, literal_same, shape_back}
use Rattle.package_values.proofs.Literals.{placed_alike}
use Rattle.operand_calls.specs.Calls.{has_call}
use Rattle.operand_calls.proofs.Alike.{call_pos_alike}
use Rattle.base.specs.declared.value_type.ValueType.TheVariants.{Int, Bool as Boolean, Struct, Array, Pointer, Slice}
use Rattle.type_faults.specs.declared.fault.FaultKind.TheVariants.{OutOfProfile}

-- rules that give the same of each
then_same : {A B : Type 0} (k m : A → Option B) → ((x : A) → k x ≡ m x) → (o : Option A) → option_and_then k o ≡ option_and_then m o
then_same k m same None = refl
then_same k m same (Some x) = same x

either : {A B C D : Type 0} → (A → C) → (B → D) → A ⊎ B → C ⊎ D
either left right (inl a) = inl (left a)
either left right (inr b) = inr (right b)

where_taken : (b : Bool) (P Q R : Fault → Type 0) (f : Fault) → (P f → Q f) → WhereTaken b P R f → WhereTaken b Q R f
where_taken true P Q R f into h = into h
where_taken false P Q R f into h = h

module _ (text : List ℕ) (s : Scope) (cs ds : List (Option Known)) where
  -- a name stands for the same in both
  abbrev pub NameSame : Option Declared → Type 0
  NameSame (Some (declared.Constant k)) = known cs k.0 ≡ known ds k.0
  NameSame (Some (declared.Global k g)) = known cs k.0 ≡ known ds k.0
  NameSame other = Unit {0}

  abbrev pub AllSame : List Name → Type 0
  AllSame [] = Unit {0}
  AllSame (n ∷ ns) = NameSame (declaration s (spelled text n)) × AllSame ns

  pub all_left : (ns ms : List Name) → AllSame (ns ++ ms) → AllSame ns
  all_left [] ms h = tt
  all_left (n ∷ ns) ms h = (h.0, all_left ns ms h.1)

  pub all_right : (ns ms : List Name) → AllSame (ns ++ ms) → AllSame ms
  all_right [] ms h = h
  all_right (n ∷ ns) ms h = all_right ns ms h.1

  -- ---- what is given

  operand_same : (d : Option Declared) → NameSame d → name_operand (holding s cs) d ≡ name_operand (holding s ds) d
  operand_same (Some (declared.Constant k)) h = ap (option_map constant_read) h
  operand_same (Some (declared.Global k g)) h = ap (option_map (global_read g.0)) h
  operand_same d h = refl

  declared_same : (d : Option Declared) → NameSame d → callee_declared (holding s cs) d ≡ callee_declared (holding s ds) d
  declared_same (Some (declared.Constant k)) h = ap (λ o. callee_value (option_map constant_read o)) h
  declared_same (Some (declared.Global k g)) h = ap (λ o. callee_value (option_map (global_read g.0) o)) h
  declared_same d h = refl

  named_same : (e : TreeEx) → AllSame (names_in e) → (n : Name) → name_in e ≡ Some n → NameSame (declaration s (spelled text n))
  named_same (name m) h n is = subst (λ (x : Name). NameSame (declaration s (spelled text x))) (same_some is) h.0
  named_same (paren at e) h n is = named_same e h n is
  named_same e h n is = absurd (none_some is)

  callee_by : (o : Option Name) → ((n : Name) → o ≡ Some n → NameSame (declaration s (spelled text n))) → (g k : Option Gives) → g ≡ k → callee text (holding s cs) o g ≡ callee text (holding s ds) o k
  callee_by None h g k e = ap (λ (x : Option Gives). callee_value (operand_in x)) e
  callee_by (Some n) h g k e = declared_same (declaration s (spelled text n)) (h n refl)

  callee_same : (e : TreeEx) → AllSame (names_in e) → gives text (holding s cs) e ≡ gives text (holding s ds) e
      → callee text (holding s cs) (name_in e) (gives text (holding s cs) e) ≡ callee text (holding s ds) (name_in e) (gives text (holding s ds) e)
  callee_same e all g = callee_by (name_in e) (named_same e all) (gives text (holding s cs) e) (gives text (holding s ds) e) g

  abbrev SameGiven : TreeEx → Type 0
  SameGiven e = gives text (holding s cs) e ≡ gives text (holding s ds) e

  -- what two operands make
  two_same : (R : Option Operand → Option Operand → Option Gives) (a b : TreeEx) → SameGiven a → SameGiven b
      → R (operand_in (gives text (holding s cs) a)) (operand_in (gives text (holding s cs) b)) ≡ R (operand_in (gives text (holding s ds) a)) (operand_in (gives text (holding s ds) b))
  two_same R a b g k =
      ap (λ (o : Option Gives). R (operand_in o) (operand_in (gives text (holding s cs) b))) g ∙ ap (λ (o : Option Gives). R (operand_in (gives text (holding s ds) a)) (operand_in o)) k

  -- a literal whose elements are the same
  literal_gives_same : (t : Option ValueType) (es : TreeElements) → placed text (holding s cs) t 0 es ≡ placed text (holding s ds) t 0 es → literal_gives text (holding s cs) t es ≡ literal_gives text (holding s ds) t es
  literal_gives_same t es same = ap (literal_given text (holding s cs) t es) same ∙ literal_same text s cs ds t es (placed text (holding s ds) t 0 es)

  -- an element that gives the same, before others
  placed_one : (key : Option Name) (at : Pos) (g k : Option Gives) (rest : TreeElements) (t : Option ValueType) (n : ℕ) → g ≡ k → placed text (holding s cs) t (1 + n) rest ≡ placed text (holding s ds) t (1 + n) rest
      → record { part = element_part text (holding s cs) t n key; at = at; operand = operand_in g } ∷ placed text (holding s cs) t (1 + n) rest
      ≡ record { part = element_part text (holding s ds) t n key; at = at; operand = operand_in k } ∷ placed text (holding s ds) t (1 + n) rest
  placed_one key at g k rest t n same others =
      placed_alike (element_part text (holding s cs) t n key) (element_part text (holding s ds) t n key) at (operand_in g) (operand_in k) (placed text (holding s cs) t (1 + n) rest) (placed text (holding s ds) t (1 + n) rest)
      (part_same text s cs ds t n key) (ap operand_in same) others

  mutual
    pub gives_same : (e : TreeEx) → AllSame (names_in e) → gives text (holding s cs) e ≡ gives text (holding s ds) e
    gives_same (number at n) all = refl
    gives_same (string at behind) all = refl
    gives_same (name n) all = ap (option_map one) (operand_same (declaration s (spelled text n)) all.0)
    gives_same (unary at op e) all = ap (λ (o : Option Gives). prefix_gives op (has_rules op) (operand_in o)) (gives_same e all)
    gives_same (binary at op a b) all = two_same (pair_gives at op) a b (gives_same a (all_left (names_in a) (names_in b) all)) (gives_same b (all_right (names_in a) (names_in b) all))
    gives_same (paren at e) all = gives_same e all
    gives_same (call f es spread) all =
        ap (λ (k : Callee). called_quietly (first_pos f) (spread_over spread k) (seen text (holding s cs) es))
        (callee_same f (all_left (names_in f) (names_in_each es) all) (gives_same f (all_left (names_in f) (names_in_each es) all)))
        ∙ ap (λ (os : List Seen). called_quietly (first_pos f) (spread_over spread (callee text (holding s ds) (name_in f) (gives text (holding s ds) f))) os)
        (seen_same es (all_right (names_in f) (names_in_each es) all))
    gives_same (selector e at n) all =
        ap (λ (o : Option Gives). option_map one (option_and_then (selected text (holding s cs) n) (operand_in o))) (gives_same e all)
        ∙ ap (option_map one) (then_same (selected text (holding s cs) n) (selected text (holding s ds) n) (select_same text s cs ds n) (operand_in (gives text (holding s ds) e)))
    gives_same (index e at i) all = two_same (λ x y. option_map one (both (indexed s.types at) x y)) e i (gives_same e (all_left (names_in e) (names_in i) all)) (gives_same i (all_right (names_in e) (names_in i) all))
    gives_same (slice e at low high) all = refl
    gives_same (array_type at len e) all = refl
    gives_same (slice_type at e) all = refl
    gives_same (literal e es) all =
        ap (λ (o : Option ValueType). literal_gives text (holding s cs) o es) (stated_same e (all_left (names_in e) (names_in_elements es) all))
        ∙ literal_gives_same (stated_type text (holding s ds) e) es (placed_same es (stated_type text (holding s ds) e) 0 (all_right (names_in e) (names_in_elements es) all))
    gives_same (elements at es) all = refl

    pub stated_same : (e : TreeEx) → AllSame (names_in e) → stated_type text (holding s cs) e ≡ stated_type text (holding s ds) e
    stated_same (name n) all = refl
    stated_same (paren at e) all = stated_same e all
    stated_same (array_type at len e) all =
        ap (λ (o : Option Gives). array_with s.types (option_and_then length_of (option_and_then (early (call_in len)) (operand_in o))) (stated_type text (holding s cs) e))
        (gives_same len (all_left (names_in len) (names_in e) all))
        ∙ ap (array_with s.types (option_and_then length_of (early_gives text (holding s ds) len))) (stated_same e (all_right (names_in len) (names_in e) all))
    stated_same e all = refl

    placed_same : (es : TreeElements) (t : Option ValueType) (n : ℕ) → AllSame (names_in_elements es) → placed text (holding s cs) t n es ≡ placed text (holding s ds) t n es
    placed_same no_elements t n all = refl
    placed_same (element key (elements at es) rest) t n all =
        let u = type_elided (elided s.types t) in
        placed_one key at (literal_gives text (holding s cs) u es) (literal_gives text (holding s ds) u es) rest t n
        (literal_gives_same u es (placed_same es u 0 (all_left (names_in_elements es) (names_in_elements rest) all))) (placed_same rest t (1 + n) (all_right (names_in_elements es) (names_in_elements rest) all))
    placed_same (element key e rest) t n all =
        placed_one key (first_pos e) (gives text (holding s cs) e) (gives text (holding s ds) e) rest t n
        (gives_same e (all_left (names_in e) (names_in_elements rest) all)) (placed_same rest t (1 + n) (all_right (names_in e) (names_in_elements rest) all))

    pub seen_same : (es : TreeExs) → AllSame (names_in_each es) → seen text (holding s cs) es ≡ seen text (holding s ds) es
    seen_same tree.none all = refl
    seen_same (some e es) all =
        ap (λ (o : Option Gives). record { at = first_pos e; gives = o } ∷ seen text (holding s cs) es) (gives_same e (all_left (names_in e) (names_in_each es) all))
        ∙ ap (λ (os : List Seen). record { at = first_pos e; gives = gives text (holding s ds) e } ∷ os) (seen_same es (all_right (names_in e) (names_in_each es) all))

  -- ---- which rules fail

  abbrev OperandFails : List (Option Known) → TreeEx → Fault → Type 0
  OperandFails xs e f = Fails text (holding s xs) e f ⊎ IsFault (single_fault (gives text (holding s xs) e)) f

  -- a fault of what stands in an expression is one in the other scope
  abbrev Back : TreeEx → Fault → Type 0
  Back e f = Fails text (holding s ds) e f → Fails text (holding s cs) e f

  operand_back : (e : TreeEx) (f : Fault) → SameGiven e → Back e f → OperandFails ds e f → OperandFails cs e f
  operand_back e f g into (inl h) = inl (into h)
  operand_back e f g into (inr h) = inr (subst (λ (o : Option Gives). IsFault (single_fault o) f) (sym g) h)

  -- an operand, and a rule of what stands over it
  one_back : (R Q : Option Operand → Option Fault) (e : TreeEx) (f : Fault) → ((o : Option Operand) → R o ≡ Q o) → SameGiven e → Back e f
      → OperandFails ds e f ⊎ IsFault (Q (operand_in (gives text (holding s ds) e))) f → OperandFails cs e f ⊎ IsFault (R (operand_in (gives text (holding s cs) e))) f
  one_back R Q e f same g into (inl h) = inl (operand_back e f g into h)
  one_back R Q e f same g into (inr h) =
      inr (subst (λ (o : Option Gives). IsFault (R (operand_in o)) f) (sym g) (subst (λ (x : Option Fault). IsFault x f) (sym (same (operand_in (gives text (holding s ds) e)))) h))

  -- two operands, and a rule of what stands over them
  abbrev RuleFails : List (Option Known) → (Option Operand → Option Operand → Option Fault) → TreeEx → TreeEx → Fault → Type 0
  RuleFails xs R a b f = IsFault (R (operand_in (gives text (holding s xs) a)) (operand_in (gives text (holding s xs) b))) f

  two_back : (R : Option Operand → Option Operand → Option Fault) (a b : TreeEx) (f : Fault) → SameGiven a → SameGiven b → Back a f → Back b f
      → (OperandFails ds a f ⊎ OperandFails ds b f) ⊎ RuleFails ds R a b f → (OperandFails cs a f ⊎ OperandFails cs b f) ⊎ RuleFails cs R a b f
  two_back R a b f g k into_a into_b (inl (inl h)) = inl (inl (operand_back a f g into_a h))
  two_back R a b f g k into_a into_b (inl (inr h)) = inl (inr (operand_back b f k into_b h))
  two_back R a b f g k into_a into_b (inr h) =
      inr (subst (λ (o : Option Gives). IsFault (R (operand_in o) (operand_in (gives text (holding s cs) b))) f) (sym g)
      (subst (λ (o : Option Gives). IsFault (R (operand_in (gives text (holding s ds) a)) (operand_in o)) f) (sym k) h))

  callee_fails : (o : Option Name) (P Q : Fault → Type 0) (g k : Option Gives) → g ≡ k → (f : Fault) → (Q f → P f) → CalleeFails text (holding s ds) o Q k f → CalleeFails text (holding s cs) o P g f
  callee_fails None P Q g k e f into (inl h) = inl (into h)
  callee_fails None P Q g k e f into (inr h) = inr (subst (λ (o : Option Gives). IsFault (single_fault o) f) (sym e) h)
  callee_fails (Some n) P Q g k e f into h = h

  abbrev CallsFail : List (Option Known) → TreeEx → TreeExs → Bool → Fault → Type 0
  CallsFail xs g es spread f =
      (CalleeFails text (holding s xs) (name_in g) (λ h. Fails text (holding s xs) g h) (gives text (holding s xs) g) f ⊎ FailsInEach text (holding s xs) es f)
      ⊎ (CallFails (first_pos g) (spread_over spread (callee text (holding s xs) (name_in g) (gives text (holding s xs) g))) (seen text (holding s xs) es) f
      ⊎ IsFault (quiet_fault text (holding s xs) (spread_over spread (callee text (holding s xs) (name_in g) (gives text (holding s xs) g))) es (seen text (holding s xs) es)) f)

  inner_same : (e : TreeEx) (o : Option Operand) → inner_fault text (holding s cs) e o ≡ inner_fault text (holding s ds) e o
  inner_same e None = refl
  inner_same e (Some (constant c)) = refl
  inner_same e (Some nil) = refl
  inner_same e (Some (value Int x)) = refl
  inner_same e (Some (value Boolean x)) = refl
  inner_same e (Some (value (Struct k) x)) = refl
  inner_same e (Some (value (Pointer t) x)) = refl
  inner_same e (Some (value (Slice t) x)) = refl
  inner_same e (Some (value (Array n t) x)) =
      ap (λ at. cond (has_call x) (Some (fault OutOfProfile at)) None) (call_pos_alike text (holding s cs) (holding s ds) (λ word. refl) e)

  quiet_same : (k : Callee) (es : TreeExs) (os : List Seen) → quiet_fault text (holding s cs) k es os ≡ quiet_fault text (holding s ds) k es os
  quiet_same (measurer m) (some e tree.none) (o ∷ []) = inner_same e (operand_in o.gives)
  quiet_same k es os = refl

  call_back : (g : TreeEx) (es : TreeExs) (spread : Bool) (f : Fault) → gives text (holding s cs) g ≡ gives text (holding s ds) g
      → callee text (holding s cs) (name_in g) (gives text (holding s cs) g) ≡ callee text (holding s ds) (name_in g) (gives text (holding s ds) g)
      → seen text (holding s cs) es ≡ seen text (holding s ds) es → (Fails text (holding s ds) g f → Fails text (holding s cs) g f)
      → (FailsInEach text (holding s ds) es f → FailsInEach text (holding s cs) es f) → CallsFail ds g es spread f → CallsFail cs g es spread f
  call_back g es spread f same k os into each (inl (inl h)) =
      inl (inl (callee_fails (name_in g) (λ x. Fails text (holding s cs) g x) (λ x. Fails text (holding s ds) g x) (gives text (holding s cs) g) (gives text (holding s ds) g) same f into h))
  call_back g es spread f same k os into each (inl (inr h)) = inl (inr (each h))
  call_back g es spread f same k os into each (inr (inl h)) =
      inr (inl (subst (λ (c : Callee). CallFails (first_pos g) (spread_over spread c) (seen text (holding s cs) es) f) (sym k)
      (subst (λ (l : List Seen). CallFails (first_pos g) (spread_over spread (callee text (holding s ds) (name_in g) (gives text (holding s ds) g))) l f) (sym os) h)))
  call_back g es spread f same k os into each (inr (inr h)) =
      let d = spread_over spread (callee text (holding s ds) (name_in g) (gives text (holding s ds) g)) in
      inr (inr (subst (λ (c : Callee). IsFault (quiet_fault text (holding s cs) (spread_over spread c) es (seen text (holding s cs) es)) f) (sym k)
      (subst (λ (l : List Seen). IsFault (quiet_fault text (holding s cs) d es l) f) (sym os)
      (subst (λ (x : Option Fault). IsFault x f) (sym (quiet_same d es (seen text (holding s ds) es))) h))))

  left_out_back : (e : TreeEx) (f : Fault) → (Fails text (holding s ds) e f → Fails text (holding s cs) e f) → Fails text (holding s ds) e f ⊎ FormFails (first_pos e) f → Fails text (holding s cs) e f ⊎ FormFails (first_pos e) f
  left_out_back e f into (inl h) = inl (into h)
  left_out_back e f into (inr h) = inr h

  -- an array type
  abbrev LengthFails : List (Option Known) → Pos → TreeEx → TreeEx → Fault → Type 0
  LengthFails xs at len e f =
      IsFault (length_fault (first_pos len) (early_gives text (holding s xs) len)) f
      ⊎ IsFault (array_fault s.types at (option_and_then length_of (early_gives text (holding s xs) len)) (stated_type text (holding s xs) e)) f

  length_back : (at : Pos) (len e : TreeEx) (f : Fault) → SameGiven len → stated_type text (holding s cs) e ≡ stated_type text (holding s ds) e → LengthFails ds at len e f → LengthFails cs at len e f
  length_back at len e f g t (inl h) = inl (subst (λ (o : Option Gives). IsFault (length_fault (first_pos len) (option_and_then (early (call_in len)) (operand_in o))) f) (sym g) h)
  length_back at len e f g t (inr h) =
      inr (subst (λ (o : Option Gives). IsFault (array_fault s.types at (option_and_then length_of (option_and_then (early (call_in len)) (operand_in o))) (stated_type text (holding s cs) e)) f) (sym g)
      (subst (λ (u : Option ValueType). IsFault (array_fault s.types at (option_and_then length_of (early_gives text (holding s ds) len)) u) f) (sym t) h))

  early_back : (e : TreeEx) (f : Fault) → SameGiven e → FailsEarly text (holding s ds) e f → (Fails text (holding s ds) e f → Fails text (holding s cs) e f) → FailsEarly text (holding s cs) e f
  early_back e f g (inl h) into = inl (operand_back e f g into h)
  early_back e f g (inr h) into = inr (subst (λ (o : Option Gives). IsFault (early_fault (call_in e) (operand_in o)) f) (sym g) h)

  -- a literal, by its elements
  literal_back : (first : Pos) (t : Option ValueType) (es : TreeElements) (f : Fault) → placed text (holding s cs) t 0 es ≡ placed text (holding s ds) t 0 es
      → (FailsInElements text (holding s ds) t es f → FailsInElements text (holding s cs) t es f) → FailsInLiteral text (holding s ds) first t es f → FailsInLiteral text (holding s cs) first t es f
  literal_back first t es f same into (inl (inl h)) = inl (inl (shape_back text s cs ds first t es f h))
  literal_back first t es f same into (inl (inr h)) = inl (inr (into h))
  literal_back first t es f same into (inr h) = inr (subst (λ (qs : List Placed). ElementsFail qs f) (sym same) h)

  stated_literal_back : (e : TreeEx) (es : TreeElements) (f : Fault) → stated_type text (holding s cs) e ≡ stated_type text (holding s ds) e
      → (FailsInLiteral text (holding s ds) (first_pos e) (stated_type text (holding s cs) e) es f → FailsInLiteral text (holding s cs) (first_pos e) (stated_type text (holding s cs) e) es f)
      → FailsInLiteral text (holding s ds) (first_pos e) (stated_type text (holding s ds) e) es f → FailsInLiteral text (holding s cs) (first_pos e) (stated_type text (holding s cs) e) es f
  stated_literal_back e es f same into h = into (subst (λ (u : Option ValueType). FailsInLiteral text (holding s ds) (first_pos e) u es f) (sym same) h)

  mutual
    pub fails_back : (e : TreeEx) (f : Fault) → AllSame (names_in e) → Fails text (holding s ds) e f → Fails text (holding s cs) e f
    fails_back (number at n) f all h = h
    fails_back (string at behind) f all h = h
    fails_back (name n) f all h = h
    fails_back (unary at op e) f all h =
        where_taken (has_rules op) (λ g. OperandFails ds e g ⊎ IsFault (prefix_fault at op (operand_in (gives text (holding s ds) e))) g) (λ g. OperandFails cs e g ⊎ IsFault (prefix_fault at op (operand_in (gives text (holding s cs) e))) g) (λ g. FormFails at g) f
        (one_back (prefix_fault at op) (prefix_fault at op) e f (λ o. refl) (gives_same e all) (fails_back e f all)) h
    fails_back (binary at op a b) f all h =
        let left = all_left (names_in a) (names_in b) all in
        let right = all_right (names_in a) (names_in b) all in
        two_back (pair_fault (first_pos a) (first_pos b) op) a b f (gives_same a left) (gives_same b right) (fails_back a f left) (fails_back b f right) h
    fails_back (paren at e) f all h = fails_back e f all h
    fails_back (call g es spread) f all h =
        let left = all_left (names_in g) (names_in_each es) all in
        let right = all_right (names_in g) (names_in_each es) all in
        call_back g es spread f (gives_same g left) (callee_same g left (gives_same g left)) (seen_same es right) (fails_back g f left) (fails_each es f right) h
    fails_back (selector e at n) f all h =
        one_back (selector_fault text (holding s cs) (first_pos e) n) (selector_fault text (holding s ds) (first_pos e) n) e f (selector_fault_same text s cs ds (first_pos e) n) (gives_same e all) (fails_back e f all) h
    fails_back (index e at i) f all h =
        let left = all_left (names_in e) (names_in i) all in
        let right = all_right (names_in e) (names_in i) all in
        two_back (index_fault s.types (first_pos e)) e i f (gives_same e left) (gives_same i right) (fails_back e f left) (fails_back i f right) h
    fails_back (slice e at low high) f all h = left_out_back e f (fails_back e f (all_left (names_in e) (names_in_bound low ++ names_in_bound high) all)) h
    fails_back (array_type at len e) f all h = h
    fails_back (slice_type at e) f all h = h
    fails_back (literal e es) f all h =
        let left = all_left (names_in e) (names_in_elements es) all in
        let right = all_right (names_in e) (names_in_elements es) all in
        let t = stated_type text (holding s cs) e in
        either (stated_back e f left) (stated_literal_back e es f (stated_same e left) (literal_back (first_pos e) t es f (placed_same es t 0 right) (elements_back es t f right))) h
    fails_back (elements at es) f all h = h

    pub stated_back : (e : TreeEx) (f : Fault) → AllSame (names_in e) → StatedFails text (holding s ds) e f → StatedFails text (holding s cs) e f
    stated_back (name n) f all h = h
    stated_back (paren at e) f all h = stated_back e f all h
    stated_back (array_type at len e) f all h =
        let left = all_left (names_in len) (names_in e) all in
        let right = all_right (names_in len) (names_in e) all in
        let same = gives_same len left in
        either (either (λ k. early_back len f same k (fails_back len f left)) (stated_back e f right)) (length_back at len e f same (stated_same e right)) h
    stated_back e f all h = h

    elements_back : (es : TreeElements) (t : Option ValueType) (f : Fault) → AllSame (names_in_elements es) → FailsInElements text (holding s ds) t es f → FailsInElements text (holding s cs) t es f
    elements_back no_elements t f all h = h
    elements_back (element key (elements at es) rest) t f all h =
        let left = all_left (names_in_elements es) (names_in_elements rest) all in
        let u = type_elided (elided s.types t) in
        either (either (λ k. k) (literal_back at u es f (placed_same es u 0 left) (elements_back es u f left))) (elements_back rest t f (all_right (names_in_elements es) (names_in_elements rest) all)) h
    elements_back (element key e rest) t f all h =
        let left = all_left (names_in e) (names_in_elements rest) all in
        either (operand_back e f (gives_same e left) (fails_back e f left)) (elements_back rest t f (all_right (names_in e) (names_in_elements rest) all)) h

    pub fails_each : (es : TreeExs) (f : Fault) → AllSame (names_in_each es) → FailsInEach text (holding s ds) es f → FailsInEach text (holding s cs) es f
    fails_each tree.none f all h = h
    fails_each (some e es) f all (inl h) = inl (fails_back e f (all_left (names_in e) (names_in_each es) all) h)
    fails_each (some e es) f all (inr h) = inr (fails_each es f (all_right (names_in e) (names_in_each es) all) h)
