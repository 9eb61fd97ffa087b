-- One pass over constants and variables, each after those that it names, finds what looks find: what each has rests on what those have that it
-- names, and what is named in a circle has nothing.
use Rattle.std.proofs.Common.{◌≡◌, ℕ, zero, suc, ◌+◌, ◌<◌, ◌≤◌, Bool, true, false, List, [], ◌∷◌, ◌++◌, length, map, ◌⊎◌, inl, inr, Option, Some, None, refl, sym, ap, ◌∙◌, subst, arith}
use Rattle.std.specs.Prelude.{slice_get, slice_set, option_and_then, ◌==◌}
use Rattle.std.specs.Option.{option_map}
use Rattle.std.proofs.lemmas.List.{length-map}
use Rattle.std.proofs.lemmas.Option.{slice_get_within}
use Rattle.base.specs.declared.pos.Pos.{Pos}
use Rattle.base.specs.declared.value_type.ValueType.{ValueType}
use Rattle.syntax.specs.declared.operator.UnOp.{UnOp}
use Rattle.syntax.specs.declared.expression.Name.{Name}
use Rattle.syntax.specs.FirstBytes.{first_pos}
use Rattle.syntax.specs.Expressions as tree
use Rattle.syntax.specs.Expressions.{Ex as TreeEx, Exs as TreeExs, Elements as TreeElements, some, number, string, name, unary, binary, paren, call, selector, index, slice, array_type, slice_type, literal, elements, no_elements, element, spelled}
use Rattle.constants.specs.declared.constant.Fixed.{Fixed}
use Rattle.typed.specs.Tables.{Table}
use Rattle.type_faults.specs.Given.{allowed, both}
use Rattle.type_faults.proofs.Options.{and_then_some, map_some, none_some, same_some}
use Rattle.operators.specs.Operands.{Operand, type_of, as_value}
use Rattle.operators.specs.Operators.{has_rules, combined}
use Rattle.components.specs.Graph.{Among, row, Leads, at_once, through, Reaches, itself, onward}
use Rattle.components.specs.Components.{StandsAt, Stands, AreComponents}
use Rattle.names.specs.declared.scope.Declared.{Declared}
use Rattle.names.specs.declared.scope.Declared.TheVariants as declared
use Rattle.names.specs.declared.scope.Known.{Known}
use Rattle.names.specs.declared.scope.Known.TheVariants as known_as
use Rattle.names.specs.Scope.{Scope, declaration}
use Rattle.names.specs.Naming.{name_in}
use Rattle.names.specs.Types.{array_type as array_of, declared_type}
use Rattle.operand_parts.specs.Parts.{selected, indexed}
use Rattle.operand_parts.specs.ArrayTypes.{length_of, array_with}
use Rattle.operand_parts.specs.Literals.{elided, type_elided}
use Rattle.given_values.specs.Given.{Gives, one, global_read, constant_read, name_operand, prefix_gives, single, operand_in, own_type, Many, many, Seen, called_with, spread_over, callee, callee_declared}
use Rattle.expression_types.specs.Typing.{literal_gives, gives, stated_type, placed, seen, call_in, early, early_gives, are_quiet}
use Rattle.package_values.specs.declared.items.Role.{Role}
use Rattle.package_values.specs.declared.items.Role.TheVariants as role
use Rattle.package_values.specs.Values.{Item, as_constant, with_type, accepted, given_by, variable_type, given_as, settled}
use Rattle.package_values.specs.Needs.{names_in, names_in_each, names_in_elements, names_in_some, names_waited, value_number, also, numbers_of, variable_mentions, mentions_as, mentions, mentioned}
use Rattle.package_values.specs.Laws.{HasValue, follows, HoldsValues}
use Rattle.package_values.specs.Passing.{each_given, all_given}
use Rattle.package_values.proofs.Growth.{known, set_known, set_others, set_many}
use Rattle.package_values.proofs.Holding.{holding}
use Rattle.package_values.proofs.Literals.{AllPlaced, literal_typed, literal_placed}
use Rattle.package_values.proofs.Giving.{give, no_value_call, AllGive, call_gives, many_give, allowed_gives, late}
use Rattle.package_values.proofs.Same.{NameSame, AllSame, all_left, all_right, gives_same, stated_same, seen_same}
use Rattle.package_values.proofs.Least.{set_has, settled_is_least}

-- ---- what gives something has operands that give something

prefix_has : (op : UnOp) (b : Bool) (o : Option Operand) (g : Gives) → prefix_gives op b o ≡ Some g → (x : Operand) × (o ≡ Some x)
prefix_has op false o g h = absurd (none_some h)
prefix_has op true None g h = absurd (none_some h)
prefix_has op true (Some x) g h = (x, refl)

both_has : {A B C : Type 0} (k : A → B → Option C) (a : Option A) (b : Option B) (c : C) → both k a b ≡ Some c → ((x : A) × (a ≡ Some x)) × ((y : B) × (b ≡ Some y))
both_has k None b c h = absurd (none_some h)
both_has k (Some x) None c h = absurd (none_some h)
both_has k (Some x) (Some y) c h = ((x, refl), (y, refl))

-- ---- what has a value doesn't rest on itself

data Grounded (t : List (List ℕ)) : ℕ → Type 0 where
  grounded : {k : ℕ} → ((j : ℕ) → Among j (row t k) → Grounded t j) → Grounded t k

leads_on : (t : List (List ℕ)) (i j k : ℕ) → Leads t i j → Among k (row t j) → Leads t i k
leads_on t i j k (at_once a) b = through a (at_once b)
leads_on t i j k (through {j = m} a way) b = through a (leads_on t m j k way b)

no_circle : (t : List (List ℕ)) (k : ℕ) → Grounded t k → Leads t k k → ⊥
no_circle t k (grounded below) (at_once a) = no_circle t k (below k a) (at_once a)
no_circle t k (grounded below) (through {j = j} a way) = no_circle t j (below j a) (leads_on t j k j way a)

reach_then : (t : List (List ℕ)) (i j k : ℕ) → Reaches t i j → Among k (row t j) → Leads t i k
reach_then t i j k itself b = at_once b
reach_then t i j k (onward {j = m} a way) b = through a (reach_then t m j k way b)

row_is : {A : Type 0} (h : A → List ℕ) (xs : List A) (k : ℕ) (x : A) → slice_get xs k ≡ Some x → row (map h xs) k ≡ h x
row_is h [] k x e = absurd (none_some e)
row_is h (y ∷ ys) zero x e = ap h (same_some e)
row_is h (y ∷ ys) (suc k) x e = row_is h ys k x e

module _ (text : List ℕ) (s : Scope) where
  -- ---- the names are those of constants and variables that are known

  abbrev NameKnown : List (Option Known) → Option Declared → Type 0
  NameKnown cs (Some (declared.Constant k)) = (f : Known) × (known cs k.0 ≡ Some f)
  NameKnown cs (Some (declared.Global k g)) = (f : Known) × (known cs k.0 ≡ Some f)
  NameKnown cs other = Unit {0}

  abbrev AllKnown : List (Option Known) → List Name → Type 0
  AllKnown cs [] = Unit {0}
  AllKnown cs (n ∷ ns) = NameKnown cs (declaration s (spelled text n)) × AllKnown cs ns

  known_append : (cs : List (Option Known)) (ns ms : List Name) → AllKnown cs ns → AllKnown cs ms → AllKnown cs (ns ++ ms)
  known_append cs [] ms a b = b
  known_append cs (n ∷ ns) ms a b = (a.0, known_append cs ns ms a.1 b)

  also_known : (cs : List (Option Known)) (d : Option Declared) (ks : List ℕ) (j : ℕ) → NameKnown cs d → (Among j ks → (f : Known) × (known cs j ≡ Some f)) → Among j (also (value_number d) ks) → (f : Known) × (known cs j ≡ Some f)
  also_known cs (Some (declared.Constant k)) ks j h rest (inl e) = (h.0, ap (known cs) e ∙ h.1)
  also_known cs (Some (declared.Constant k)) ks j h rest (inr a) = rest a
  also_known cs (Some (declared.Global k g)) ks j h rest (inl e) = (h.0, ap (known cs) e ∙ h.1)
  also_known cs (Some (declared.Global k g)) ks j h rest (inr a) = rest a
  also_known cs d ks j h rest a = rest a

  known_among : (cs : List (Option Known)) (ns : List Name) (j : ℕ) → AllKnown cs ns → Among j (numbers_of text s ns) → (f : Known) × (known cs j ≡ Some f)
  known_among cs [] j all a = absurd a
  known_among cs (n ∷ ns) j all a = also_known cs (declaration s (spelled text n)) (numbers_of text s ns) j all.0 (λ b. known_among cs ns j all.1 b) a

  also_first : (o : Option ℕ) (j : ℕ) (ks : List ℕ) → o ≡ Some j → Among j (also o ks)
  also_first None j ks e = absurd (none_some e)
  also_first (Some k) j ks e = inl (sym (same_some e))

  also_later : (o : Option ℕ) (j : ℕ) (ks : List ℕ) → Among j ks → Among j (also o ks)
  also_later None j ks a = a
  also_later (Some k) j ks a = inr a

  -- what stays known is the same
  one_same : (ks ds : List (Option Known)) (d : Option Declared) → NameKnown ks d → ((k : ℕ) (f : Known) → value_number d ≡ Some k → known ks k ≡ Some f → known ds k ≡ Some f) → NameSame text s ks ds d
  one_same ks ds (Some (declared.Constant k)) h stays = h.1 ∙ sym (stays k.0 h.0 refl h.1)
  one_same ks ds (Some (declared.Global k g)) h stays = h.1 ∙ sym (stays k.0 h.0 refl h.1)
  one_same ks ds d h stays = tt

  all_same : (ks ds : List (Option Known)) (ns : List Name) → AllKnown ks ns → ((k : ℕ) (f : Known) → Among k (numbers_of text s ns) → known ks k ≡ Some f → known ds k ≡ Some f) → AllSame text s ks ds ns
  all_same ks ds [] all stays = tt
  all_same ks ds (n ∷ ns) all stays = (
    one_same ks ds (declaration s (spelled text n)) all.0 (λ k f e h. stays k f (also_first (value_number (declaration s (spelled text n))) k (numbers_of text s ns) e) h),
    all_same ks ds ns all.1 (λ k f a h. stays k f (also_later (value_number (declaration s (spelled text n))) k (numbers_of text s ns) a) h),
  )

  -- ---- what gives something names what is known

  module _ (cs : List (Option Known)) where
    operand_known : (d : Option Declared) (x : Operand) → name_operand (holding s cs) d ≡ Some x → NameKnown cs d
    operand_known (Some (declared.Constant k)) x h = let p = map_some constant_read (known cs k.0) x h in (p.0, p.1)
    operand_known (Some (declared.Global k g)) x h = let p = map_some (global_read g.0) (known cs k.0) x h in (p.0, p.1)
    operand_known d x h = tt

    declared_known : (at : Pos) (spread : Bool) (d : Option Declared) (os : List Seen) (g : Gives) → called_with at (spread_over spread (callee_declared (holding s cs) d)) os ≡ Some g → NameKnown cs d
    declared_known at spread (Some (declared.Constant k)) os g h = absurd (no_value_call at spread (option_map constant_read (known cs k.0)) os g h)
    declared_known at spread (Some (declared.Global k j)) os g h = absurd (no_value_call at spread (option_map (global_read j.0) (known cs k.0)) os g h)
    declared_known at spread d os g h = tt

    callee_known : (at : Pos) (spread : Bool) (e : TreeEx) (os : List Seen) (g : Gives) → called_with at (spread_over spread (callee text (holding s cs) (name_in e) (gives text (holding s cs) e))) os ≡ Some g → AllKnown cs (names_in e)
    callee_known at spread (name n) os g h = (declared_known at spread (declaration s (spelled text n)) os g h, tt)
    callee_known at spread (paren place e) os g h = callee_known at spread e os g h
    callee_known at spread e os g h = absurd (no_value_call at spread (operand_in (gives text (holding s cs) e)) os g h)

    -- where one value names what is known
    by_operand : (e : TreeEx) → ((g : Gives) → gives text (holding s cs) e ≡ Some g → AllKnown cs (names_in e)) → (x : Operand) → operand_in (gives text (holding s cs) e) ≡ Some x → AllKnown cs (names_in e)
    by_operand e known1 x h = let p = and_then_some single (gives text (holding s cs) e) x h in known1 p.0 p.1

    -- two operands that make something
    by_operands : (k : Operand → Operand → Option Operand) (a b : TreeEx) → ((g : Gives) → gives text (holding s cs) a ≡ Some g → AllKnown cs (names_in a)) → ((g : Gives) → gives text (holding s cs) b ≡ Some g → AllKnown cs (names_in b))
        → (g : Gives) → option_map one (both k (operand_in (gives text (holding s cs) a)) (operand_in (gives text (holding s cs) b))) ≡ Some g → AllKnown cs (names_in a ++ names_in b)
    by_operands k a b left right g h =
        let p = map_some one (both k (operand_in (gives text (holding s cs) a)) (operand_in (gives text (holding s cs) b))) g h in
        let x = both_has k (operand_in (gives text (holding s cs) a)) (operand_in (gives text (holding s cs) b)) p.0 p.1 in
        known_append cs (names_in a) (names_in b) (by_operand a left x.0.0 x.0.1) (by_operand b right x.1.0 x.1.1)

    type_name_known : (T : Table) (d : Option Declared) (t : ValueType) → declared_type T d ≡ Some t → NameKnown cs d
    type_name_known T (Some (declared.Constant k)) t h = absurd (none_some h)
    type_name_known T (Some (declared.Global k g)) t h = absurd (none_some h)
    type_name_known T d t h = tt

    array_known : (len e : TreeEx) → ((g : Gives) → gives text (holding s cs) len ≡ Some g → AllKnown cs (names_in len)) → ((t : ValueType) → stated_type text (holding s cs) e ≡ Some t → AllKnown cs (names_in e))
        → (t : ValueType) → array_with s.types (option_and_then length_of (early_gives text (holding s cs) len)) (stated_type text (holding s cs) e) ≡ Some t → AllKnown cs (names_in len ++ names_in e)
    array_known len e length1 of t h =
        let o = early_gives text (holding s cs) len in
        let x = both_has (array_of s.types) (option_and_then length_of o) (stated_type text (holding s cs) e) t h in
        let p = and_then_some length_of o x.0.0 x.0.1 in
        known_append cs (names_in len) (names_in e) (by_operand len length1 p.0 (late (call_in len) (operand_in (gives text (holding s cs) len)) p.0 p.1)) (of x.1.0 x.1.1)

    by_literal : (t : Option ValueType) (es : TreeElements) → (AllPlaced (placed text (holding s cs) t 0 es) → AllKnown cs (names_in_elements es))
        → (x : Operand) → operand_in (literal_gives text (holding s cs) t es) ≡ Some x → AllKnown cs (names_in_elements es)
    by_literal t es all x h =
        let p = and_then_some single (literal_gives text (holding s cs) t es) x h in all (literal_placed text (holding s cs) t es (placed text (holding s cs) t 0 es) p.0 p.1)

    mutual
      gives_known : (e : TreeEx) (g : Gives) → gives text (holding s cs) e ≡ Some g → AllKnown cs (names_in e)
      gives_known (number at n) g h = tt
      gives_known (string at behind) g h = tt
      gives_known (name n) g h = let p = map_some one (name_operand (holding s cs) (declaration s (spelled text n))) g h in (operand_known (declaration s (spelled text n)) p.0 p.1, tt)
      gives_known (unary at op e) g h =
          let x = prefix_has op (has_rules op) (operand_in (gives text (holding s cs) e)) g h in by_operand e (gives_known e) x.0 x.1
      gives_known (binary at op a b) g h = by_operands (combined at op) a b (gives_known a) (gives_known b) g h
      gives_known (paren at e) g h = gives_known e g h
      gives_known (call f es spread) g h =
          let k = callee text (holding s cs) (name_in f) (gives text (holding s cs) f) in
          let os = seen text (holding s cs) es in
          let q = allowed_gives (are_quiet (spread_over spread k) os) (called_with (first_pos f) (spread_over spread k) os) g h in
          known_append cs (names_in f) (names_in_each es) (callee_known (first_pos f) spread f os g q.1) (seen_known es (call_gives (first_pos f) (spread_over spread k) os g q.1))
      gives_known (selector e at n) g h =
          let o = operand_in (gives text (holding s cs) e) in
          let p = map_some one (option_and_then (selected text (holding s cs) n) o) g h in
          let q = and_then_some (selected text (holding s cs) n) o p.0 p.1 in
          by_operand e (gives_known e) q.0 q.1
      gives_known (index e at i) g h = by_operands (indexed s.types at) e i (gives_known e) (gives_known i) g h
      gives_known (slice e at low high) g h = absurd (none_some h)
      gives_known (array_type at len e) g h = absurd (none_some h)
      gives_known (slice_type at e) g h = absurd (none_some h)
      gives_known (literal e es) g h =
          let t = stated_type text (holding s cs) e in
          let qs = placed text (holding s cs) t 0 es in
          let u = literal_typed text (holding s cs) t es qs g h in
          known_append cs (names_in e) (names_in_elements es) (stated_known e u.0 u.1) (placed_known es t 0 (literal_placed text (holding s cs) t es qs g h))
      gives_known (elements at es) g h = absurd (none_some h)

      stated_known : (e : TreeEx) (t : ValueType) → stated_type text (holding s cs) e ≡ Some t → AllKnown cs (names_in e)
      stated_known (name n) t h = (type_name_known s.types (declaration s (spelled text n)) t h, tt)
      stated_known (paren at e) t h = stated_known e t h
      stated_known (array_type at len e) t h = array_known len e (gives_known len) (stated_known e) t h
      stated_known e t h = absurd (none_some h)

      placed_known : (es : TreeElements) (t : Option ValueType) (n : ℕ) → AllPlaced (placed text (holding s cs) t n es) → AllKnown cs (names_in_elements es)
      placed_known no_elements t n all = tt
      placed_known (element key (elements at es) rest) t n all =
          let u = type_elided (elided s.types t) in
          known_append cs (names_in_elements es) (names_in_elements rest) (by_literal u es (placed_known es u 0) all.0.0 all.0.1) (placed_known rest t (1 + n) all.1)
      placed_known (element key e rest) t n all =
          known_append cs (names_in e) (names_in_elements rest) (by_operand e (gives_known e) all.0.0 all.0.1) (placed_known rest t (1 + n) all.1)

      seen_known : (es : TreeExs) → AllGive (seen text (holding s cs) es) → AllKnown cs (names_in_each es)
      seen_known tree.none all = tt
      seen_known (some e es) all = known_append cs (names_in e) (names_in_each es) (gives_known e all.0.0 all.0.1) (seen_known es all.1)

    operand_names : (e : TreeEx) (x : Operand) → operand_in (gives text (holding s cs) e) ≡ Some x → AllKnown cs (names_in e)
    operand_names e = by_operand e (gives_known e)

    accepted_known : (t : Option TreeEx) (c f : Fixed) → accepted text (holding s cs) t c ≡ Some f → AllKnown cs (names_in_some t)
    accepted_known None c f h = tt
    accepted_known (Some e) c f h = let p = and_then_some (λ t. with_type t c) (stated_type text (holding s cs) e) f h in stated_known e p.0 p.1

    constant_known : (t v : Option TreeEx) (es : TreeExs) (f : Fixed) → given_by text (holding s cs) t v ≡ Some f → AllKnown cs (names_in_some t ++ names_waited v es)
    constant_known t None es f h = absurd (none_some h)
    constant_known t (Some e) es f h =
        let p = and_then_some (accepted text (holding s cs) t) (option_and_then as_constant (early_gives text (holding s cs) e)) f h in
        let q = and_then_some as_constant (early_gives text (holding s cs) e) p.0 p.1 in
        known_append cs (names_in_some t) (names_in e) (accepted_known t p.0 f p.2) (operand_names e q.0 (late (call_in e) (operand_in (gives text (holding s cs) e)) q.0 q.1))

    variable_known : (t v : Option TreeEx) (es : TreeExs) (n k : ℕ) (u : ValueType) → variable_type text (holding s cs) t v es n k ≡ Some u → AllKnown cs (variable_mentions t v es)
    variable_known (Some e) v es n k u h = stated_known e u h
    variable_known None (Some e) es n k u h =
        let p = and_then_some (λ x. option_and_then (λ y. type_of x) (as_value x)) (operand_in (gives text (holding s cs) e)) u h in operand_names e p.0 p.1
    variable_known None None es n k u h =
        let os = seen text (holding s cs) es in
        let p = and_then_some (λ (m : Many). allowed (length m.types == n) (slice_get m.types k)) (many os) u h in
        seen_known es (many_give os p.0 p.1)

    item_known : (r : Role) (i : Item) (x : Known) → given_as text r (holding s cs) i ≡ Some x → AllKnown cs (mentions_as r i)
    item_known role.Constant i x h = let p = map_some known_as.Constant (given_by text (holding s cs) i.type_expr i.value) x h in constant_known i.type_expr i.value i.values p.0 p.1
    item_known role.Variable i x h =
        let found = variable_type text (holding s cs) i.type_expr i.value i.values (length i.names) i.place in
        let p = map_some known_as.Variable found x h in
        variable_known i.type_expr i.value i.values (length i.names) i.place p.0 p.1

  -- ---- where all that it names is the same, it gives the same

  module _ (cs ds : List (Option Known)) where
    accepted_as : (t : Option TreeEx) (c : Fixed) → AllSame text s cs ds (names_in_some t) → accepted text (holding s cs) t c ≡ accepted text (holding s ds) t c
    accepted_as None c all = refl
    accepted_as (Some e) c all = ap (option_and_then (λ t. with_type t c)) (stated_same text s cs ds e all)

    accepted_all : (t : Option TreeEx) (o : Option Fixed) → AllSame text s cs ds (names_in_some t) → option_and_then (accepted text (holding s cs) t) o ≡ option_and_then (accepted text (holding s ds) t) o
    accepted_all t None all = refl
    accepted_all t (Some c) all = accepted_as t c all

    constant_same : (t v : Option TreeEx) (es : TreeExs) → AllSame text s cs ds (names_in_some t ++ names_waited v es) → given_by text (holding s cs) t v ≡ given_by text (holding s ds) t v
    constant_same t None es all = refl
    constant_same t (Some e) es all =
        ap (λ (o : Option Gives). option_and_then (accepted text (holding s cs) t) (option_and_then as_constant (option_and_then (early (call_in e)) (operand_in o))))
        (gives_same text s cs ds e (all_right text s cs ds (names_in_some t) (names_in e) all))
        ∙ accepted_all t (option_and_then as_constant (early_gives text (holding s ds) e)) (all_left text s cs ds (names_in_some t) (names_in e) all)

    variable_same : (t v : Option TreeEx) (es : TreeExs) (n k : ℕ) → AllSame text s cs ds (variable_mentions t v es) → variable_type text (holding s cs) t v es n k ≡ variable_type text (holding s ds) t v es n k
    variable_same (Some e) v es n k all = stated_same text s cs ds e all
    variable_same None (Some e) es n k all = ap own_type (gives_same text s cs ds e all)
    variable_same None None es n k all = ap (λ (os : List Seen). option_and_then (λ m. allowed (length m.types == n) (slice_get m.types k)) (many os)) (seen_same text s cs ds es all)

    item_same : (r : Role) (i : Item) → AllSame text s cs ds (mentions_as r i) → given_as text r (holding s cs) i ≡ given_as text r (holding s ds) i
    item_same role.Constant i all = ap (option_map known_as.Constant) (constant_same i.type_expr i.value i.values all)
    item_same role.Variable i all =
        ap (option_map known_as.Variable) (variable_same i.type_expr i.value i.values (length i.names) i.place all)

  -- ---- the pass

  module _ (is : List Item) where
    abbrev graph : List (List ℕ)
    graph = map (mentioned text s) is

    named_in : (k j : ℕ) (i : Item) → slice_get is k ≡ Some i → Among j (row graph k) → Among j (mentioned text s i)
    named_in k j i at a = subst (λ (ks : List ℕ). Among j ks) (row_is (mentioned text s) is k i at) a

    has_ground : (k : ℕ) (f : Known) → HasValue text s is k f → Grounded graph k
    has_ground k f (follows ks i before at gives1) =
        grounded (λ j a.
        let p = known_among ks (mentions i) j (item_known ks i.role i f gives1) (named_in k j i at a) in
        has_ground j p.0 (before j p.0 p.1))

    within : (k : ℕ) (f : Known) → HasValue text s is k f → k < length is
    within k f (follows ks i before at gives1) = slice_get_within is k i at

    -- what is known at a number, and after several numbers
    abbrev known_at : List (Option Known) → ℕ → Option Known
    known_at cs k = option_and_then (give text s cs) (slice_get is k)

    abbrev each_known : List (Option Known) → List ℕ → List (Option Known)
    each_known cs [] = cs
    each_known cs (k ∷ ks) = each_known (slice_set cs k (known_at cs k)) ks

    abbrev all_known : List (Option Known) → List (List ℕ) → List (Option Known)
    all_known cs [] = cs
    all_known cs (ks ∷ kss) = all_known (each_known cs ks) kss

    each_is : (cs : List (Option Known)) (ks : List ℕ) → each_given text is (holding s cs) ks ≡ holding s (each_known cs ks)
    each_is cs [] = refl
    each_is cs (k ∷ ks) = each_is (slice_set cs k (known_at cs k)) ks

    all_is : (cs : List (Option Known)) (kss : List (List ℕ)) → all_given text is (holding s cs) kss ≡ holding s (all_known cs kss)
    all_is cs [] = refl
    all_is cs (ks ∷ kss) = ap (λ (r : Scope). all_given text is r kss) (each_is cs ks) ∙ all_is (each_known cs ks) kss

    module _ (parts : List (List ℕ)) (are : AreComponents graph parts) where
      -- the components before a place are passed, and those of it before another
      record Passed (c p : ℕ) (cs : List (Option Known)) : Type 0 where
        pub as_many : length cs ≡ length is
        pub sound : (k : ℕ) (f : Known) → known cs k ≡ Some f → HasValue text s is k f
        pub complete : (d i k : ℕ) (f : Known) → StandsAt parts d i k → (d < c) ⊎ ((d ≡ c) × (i < p)) → HasValue text s is k f → known cs k ≡ Some f

      long : length graph ≡ length is
      long = length-map is (mentioned text s)

      below : (c i k : ℕ) → StandsAt parts c i k → k < length is
      below c i k at = let l = are.only c k (i, at) in omega (arith, l, long)

      -- what a node names stands in an earlier component, where it has a value
      ahead : (c i k j : ℕ) (f : Known) → StandsAt parts c i k → Among j (row graph k) → HasValue text s is j f → (d : ℕ) × (d < c) × Stands parts d j
      ahead c i k j f at a has =
          let l = within j f has in
          let there = are.earlier c k j (i, at) a (omega (arith, l, long)) in
          by there.0 there.1 there.2
        where
          circle : (d : ℕ) → d ≡ c → Stands parts d j → ⊥
          circle d e stands =
              let l = within j f has in
              let m = below c i k at in
              let way = ((are.together j k (omega (arith, l, long)) (omega (arith, m, long))).0 (c, subst (λ (x : ℕ). Stands parts x j) e stands, (i, at))).0 in
              no_circle graph j (has_ground j f has) (reach_then graph j k j way a)

          less : (d : ℕ) → d ≤ c → (d < c) ⊎ (d ≡ c)
          less d le = omega_or d c le
            where
              omega_or : (x y : ℕ) → x ≤ y → (x < y) ⊎ (x ≡ y)
              omega_or zero zero le1 = inr refl
              omega_or zero (suc y) le1 = inl (omega arith)
              omega_or (suc x) zero le1 = absurd (omega (arith, le1))
              omega_or (suc x) (suc y) le1 = elim (omega_or x y (omega (arith, le1))) [ inl l ↦ inl (omega (arith, l)) | inr e ↦ inr (ap suc e) ]

          by : (d : ℕ) → d ≤ c → Stands parts d j → (d1 : ℕ) × (d1 < c) × Stands parts d1 j
          by d le stands = elim (less d le) [ inl l ↦ (d, l, stands) | inr e ↦ absurd (circle d e stands) ]

      same_node : (c i k m : ℕ) → StandsAt parts c i k → StandsAt parts c i m → m ≡ k
      same_node c i k m a b =
          let lists : b.0 ≡ a.0 = same_some (sym b.1 ∙ a.1) in
          same_some (sym b.2 ∙ ap (λ (l : List ℕ). slice_get l i) lists ∙ a.2)

      -- one more node
      step : (c p k : ℕ) (cs : List (Option Known)) → StandsAt parts c p k → Passed c p cs → Passed c (suc p) (slice_set cs k (known_at cs k))
      step c p k cs at before = record {
        as_many = set_many cs k (known_at cs k) ∙ before.as_many;
        sound = set_has (HasValue text s is) cs k (known_at cs k)
            (λ f h. let q = and_then_some (give text s cs) (slice_get is k) f h in follows cs q.0 before.sound q.1 q.2) before.sound;
        complete = complete;
      }
        where
          here : (f : Known) → HasValue text s is k f → known_at cs k ≡ Some f
          here f (follows ks i sound1 at1 gives1) =
              let all = item_known ks i.role i f gives1 in
              let same = all_same ks cs (mentions i) all (λ j g a h.
              let has = sound1 j g h in
              let q = ahead c p k j g at (subst (λ (l : List ℕ). Among j l) (sym (row_is (mentioned text s) is k i at1)) a) has in
              before.complete q.0 q.2.0 j g q.2.1 (inl q.1) has) in
              ap (option_and_then (give text s cs)) at1 ∙ (sym (item_same ks cs i.role i same) ∙ gives1)

          complete : (d i m : ℕ) (f : Known) → StandsAt parts d i m → (d < c) ⊎ ((d ≡ c) × (i < suc p)) → HasValue text s is m f → known (slice_set cs k (known_at cs k)) m ≡ Some f
          complete d i m f stands earlier has = by (node m k)
            where
              node : (x y : ℕ) → (x ≡ y) ⊎ (x ≡ y → ⊥)
              node zero zero = inl refl
              node zero (suc y) = inr (λ e. omega (arith, e))
              node (suc x) zero = inr (λ e. omega (arith, e))
              node (suc x) (suc y) = elim (node x y) [ inl e ↦ inl (ap suc e) | inr n ↦ inr (λ e. n (omega (arith, e))) ]

              place : (m ≡ k → ⊥) → (d < c) ⊎ ((d ≡ c) × (i < suc p)) → (d < c) ⊎ ((d ≡ c) × (i < p))
              place other (inl l) = inl l
              place other (inr q) = inr (
                q.0,
                elim (node i p) [
                  | inl e ↦ absurd (other (same_node c p k m at (subst (λ (x : ℕ). StandsAt parts x p m) q.0 (subst (λ (x : ℕ). StandsAt parts d x m) e stands))))
                  | inr n ↦ less i p q.1 n
                ],
              )
                where
                  less : (x y : ℕ) → x < suc y → (x ≡ y → ⊥) → x < y
                  less zero zero l n1 = absurd (n1 refl)
                  less zero (suc y) l n1 = omega arith
                  less (suc x) zero l n1 = absurd (omega (arith, l))
                  less (suc x) (suc y) l n1 = let r = less x y (omega (arith, l)) (λ e. n1 (ap suc e)) in omega (arith, r)

              by : (m ≡ k) ⊎ (m ≡ k → ⊥) → known (slice_set cs k (known_at cs k)) m ≡ Some f
              by (inl e) =
                  let l = below c p k at in
                  let many = before.as_many in
                  ap (known (slice_set cs k (known_at cs k))) e ∙ (set_known cs k (known_at cs k) (omega (arith, l, many)) ∙ here f (subst (λ (x : ℕ). HasValue text s is x f) e has))
              by (inr other) = set_others cs k m (known_at cs k) other ∙ before.complete d i m f stands (place other earlier) has

      -- the rest of a component
      nodes_pass : (c p : ℕ) (nodes rest : List ℕ) (cs : List (Option Known)) → slice_get parts c ≡ Some nodes → ((i k : ℕ) → slice_get rest i ≡ Some k → slice_get nodes (i + p) ≡ Some k) → length rest + p ≡ length nodes
          → Passed c p cs → Passed c (length nodes) (each_known cs rest)
      nodes_pass c p nodes [] cs at from long1 before = let e : p ≡ length nodes = omega (arith, long1) in subst (λ (n : ℕ). Passed c n cs) e before
      nodes_pass c p nodes (k ∷ rest) cs at from long1 before =
          nodes_pass c (suc p) nodes rest (slice_set cs k (known_at cs k)) at
          (λ i m h. let e : suc i + p ≡ i + suc p = omega arith in subst (λ (n : ℕ). slice_get nodes n ≡ Some m) e (from (suc i) m h))
          (omega (arith, long1))
          (step c p k cs (nodes, at, let e : 0 + p ≡ p = omega arith in subst (λ (n : ℕ). slice_get nodes n ≡ Some k) e (from zero k refl)) before)

      one_pass : (c : ℕ) (nodes : List ℕ) (cs : List (Option Known)) → slice_get parts c ≡ Some nodes → Passed c 0 cs → Passed (suc c) 0 (each_known cs nodes)
      one_pass c nodes cs at before =
          let whole = nodes_pass c 0 nodes nodes cs at (λ i k h. let e : i ≡ i + 0 = omega arith in subst (λ (n : ℕ). slice_get nodes n ≡ Some k) e h) (omega arith) before in
          record {
            as_many = whole.as_many;
            sound = whole.sound;
            complete = λ d i k f stands earlier has. whole.complete d i k f stands (place d i k stands earlier) has;
          }
        where
          in_it : (d i k : ℕ) → StandsAt parts d i k → d ≡ c → i < length nodes
          in_it d i k stands e =
              let lists : stands.0 ≡ nodes = same_some (sym stands.1 ∙ ap (slice_get parts) e ∙ at) in
              subst (λ (l : List ℕ). i < length l) lists (slice_get_within stands.0 i k stands.2)

          place : (d i k : ℕ) → StandsAt parts d i k → (d < suc c) ⊎ ((d ≡ suc c) × (i < 0)) → (d < c) ⊎ ((d ≡ c) × (i < length nodes))
          place d i k stands (inl l) = elim (split d c l) [ inl m ↦ inl m | inr e ↦ inr (e, in_it d i k stands e) ]
            where
              split : (x y : ℕ) → x < suc y → (x < y) ⊎ (x ≡ y)
              split zero zero l1 = inr refl
              split zero (suc y) l1 = inl (omega arith)
              split (suc x) zero l1 = absurd (omega (arith, l1))
              split (suc x) (suc y) l1 = elim (split x y (omega (arith, l1))) [ inl m ↦ inl (omega (arith, m)) | inr e ↦ inr (ap suc e) ]
          place d i k stands (inr q) = let l = q.1 in absurd (omega (arith, l))

      parts_pass : (c : ℕ) (rest : List (List ℕ)) (cs : List (Option Known)) → ((d : ℕ) (nodes : List ℕ) → slice_get rest d ≡ Some nodes → slice_get parts (d + c) ≡ Some nodes) → Passed c 0 cs → Passed (length rest + c) 0 (all_known cs rest)
      parts_pass c [] cs from before = let e : c ≡ 0 + c = omega arith in subst (λ (n : ℕ). Passed n 0 cs) e before
      parts_pass c (nodes ∷ rest) cs from before =
          let e : length rest + suc c ≡ suc (length rest) + c = omega arith in
          subst (λ (n : ℕ). Passed n 0 (all_known (each_known cs nodes) rest)) e
          (parts_pass (suc c) rest (each_known cs nodes) (λ d ns h. let f : suc d + c ≡ d + suc c = omega arith in subst (λ (n : ℕ). slice_get parts n ≡ Some ns) f (from (suc d) ns h))
          (one_pass c nodes cs (let f : 0 + c ≡ c = omega arith in subst (λ (n : ℕ). slice_get parts n ≡ Some nodes) f (from zero nodes refl)) before))

      module _ (many : length s.values ≡ length is) (unknown : (k : ℕ) → known s.values k ≡ None) where
        start : Passed 0 0 s.values
        start = record {
          as_many = many;
          sound = λ k f h. absurd (none_some (sym (unknown k) ∙ h));
          complete = λ d i k f stands earlier has. elim earlier [ inl l ↦ absurd (omega (arith, l)) | inr q ↦ absurd (let l = q.1 in omega (arith, l)) ];
        }

        end : Passed (length parts + 0) 0 (all_known s.values parts)
        end = parts_pass 0 parts s.values (λ d nodes h. let e : d ≡ d + 0 = omega arith in subst (λ (n : ℕ). slice_get parts n ≡ Some nodes) e h) start

        complete_all : (k : ℕ) (f : Known) → HasValue text s is k f → known (all_known s.values parts) k ≡ Some f
        complete_all k f has =
            let l = within k f has in
            let place = are.all k (omega (arith, l, long)) in
            let inside = slice_get_within parts place.0 place.1.1.0 place.1.1.1 in
            end.complete place.0 place.1.0 k f place.1.1 (inl (omega (arith, inside))) has

        holds : HoldsValues text s is (holding s (all_known s.values parts))
        holds = record { rest = refl; as_many = end.as_many ∙ sym many; values = λ k f. (end.sound k f, complete_all k f) }

        -- the pass finds what looks find
        pub pass_is : all_given text is s parts ≡ settled text s is
        pass_is = all_is s.values parts ∙ (settled_is_least text s is many unknown (holding s (all_known s.values parts))).1 holds
