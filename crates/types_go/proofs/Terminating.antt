-- Typed statements end, and leave the loop around them, where those of the tree do.
use Rattle.std.proofs.Common.{◌≡◌, ℕ, Bool, true, false, cond, List, [], ◌∷◌, map, Option, Some, None, refl, sym, ap, ◌∙◌, subst, length}
use Rattle.std.specs.Prelude.{option_and_then, not, ◌&&◌, ◌||◌}
use Rattle.std.specs.Option.{option_map}
use Rattle.base.specs.declared.pos.Pos.{Pos}
use Rattle.syntax.specs.declared.expression.Name.{Name}
use Rattle.syntax.specs.declared.operator.ArithmeticOp.{ArithmeticOp}
use Rattle.syntax.specs.declared.operator.BinOp.TheVariants.{Arithmetic}
use Rattle.syntax.specs.FirstBytes.{first_pos}
use Rattle.syntax.specs.Expressions.{Ex as TreeEx, call, paren, number, string, name, unary, binary, selector, index, slice, array_type, slice_type, literal, elements, spelled}
use Rattle.syntax.specs.Statements.{Simple, ValueSpec, Guard, Clause, forever, while_true, counting, ranging, Stm, Stms, Els}
use Rattle.syntax.specs.Statements as tree
use Rattle.typed_syntax.specs.declared.operators.BinOp.{BinOp as TypedOp}
use Rattle.typed_syntax.specs.declared.operators.BinOp.TheVariants as op
use Rattle.typed.specs.Positions.{position}
use Rattle.typed_syntax.specs.Positions.{Position}
use Rattle.typed_syntax.specs.Syntax.{Exs, Left, St, Sts, binary as binary_of, read, declare, block, if_stmt, for_stmt, break_stmt, continue_stmt, return_stmt, none, done, next}
use Rattle.typed_syntax.specs.Form.{ends, ends_all, breaks, breaks_all}
use Rattle.base.specs.declared.value_type.ValueType.TheVariants.{Int}
use Rattle.type_faults.specs.Given.{both}
use Rattle.type_faults.proofs.Options.{and_then_some, map_some, none_some, same_some}
use Rattle.operators.specs.Operands.{Operand, constant, value, nil}
use Rattle.operators.specs.Operators.{combined}
use Rattle.names.specs.declared.scope.Declared.{Declared}
use Rattle.names.specs.declared.scope.Declared.TheVariants.{Variable, Untyped, Panic}
use Rattle.names.specs.Scope.{Scope, declaration, opened, closed}
use Rattle.names.specs.Naming.{name_in}
use Rattle.given_values.specs.Given.{Part, Gives, one, called, asking, quoted, printed, panicked, exited, operand_in, Seen, parts, taken, panicked_with, called_with, spread_over, callee_declared, callee}
use Rattle.expression_types.specs.Typing.{spec_wanted, gives, seen, condition, test, are_quiet}
use Rattle.signatures.specs.Entries.{sites_of, entry_left}
use Rattle.signatures.proofs.Growth.{keeps_grows}
use Rattle.simple_statements.specs.SimpleStatements.{Returns, only, before, expressed, assignment, updated, stepped, returned, lefts, all_wanted, new_lefts, all_new_wanted, may_define, own_value, update_statement, simple_statement, is_bare, spec_entries, is_known, spec_declared, spec_assigned, spec_statement, spec_statements, behind_spec}
use Rattle.simple_statements.proofs.SettledValues.{allowed_is}
use Rattle.simple_statements.proofs.SettledSimple.{where_some, assignment_some}
use Rattle.terminating.specs.Terminating.{is_endless, leaves, leaves_else, leaves_any, is_panic, names_panic, panics, ends_simple, is_terminating, is_terminating_else, ends_after}
use Rattle.types_go.specs.Ranges.{range_in}
use Rattle.types_go.specs.Statements.{Choice, Head, for_clause, range_clause, alone, declared_in, headed, for_of, choice_of, loop_of, looping, body_opened, header, init_statement, post_statement, guard_head, clause_scope, clause_head, behind, behind_all, statement, alternative, statements}
use Rattle.types_go.proofs.StatementGrowth.{grows, grows_header, keeps_block}
use Rattle.types_go.proofs.Inside.{Inside, inside_opened, inside_grows, MayPanic, panic_inside}
use Rattle.types_go.proofs.SettledStatements.{choice_some, loop_some}
use Rattle.given_values.proofs.ValuesFit.{allowed_some}

abbrev pub ends_last : Bool → Sts → Bool
ends_last e done = e
ends_last e (next t b) = ends_last (ends t) b

pub ends_same : (b : Sts) → ends_last false b ≡ ends_all b
ends_same done = refl
ends_same (next t done) = refl
ends_same (next t (next u b)) = ends_same (next u b)

ends_before : (e : Bool) (a b : Sts) → ends_last e (before a b) ≡ ends_last (ends_last e a) b
ends_before e done b = refl
ends_before e (next t a) b = ends_before (ends t) a b

any_last : (b : Sts) (x : Bool) → ends_last false b ≡ true → ends_last x b ≡ true
any_last done x is = cc is
any_last (next t b) x is = is

or_false : (a : Bool) → (a || false) ≡ a
or_false true = refl
or_false false = refl

or_both : (a b c : Bool) → (a || (b || c)) ≡ ((a || b) || c)
or_both true b c = refl
or_both false b c = refl

breaks_before : (a b : Sts) → breaks_all (before a b) ≡ (breaks_all a || breaks_all b)
breaks_before done b = refl
breaks_before (next t a) b = ap (λ x. breaks t || x) (breaks_before a b) ∙ or_both (breaks t) (breaks_all a) (breaks_all b)

and_true : (a b : Bool) → (a && b) ≡ true → (a ≡ true) × (b ≡ true)
and_true true b is = (refl, is)
and_true false b is = cc is

not_true : (a : Bool) → not a ≡ true → a ≡ false
not_true true is = cc is
not_true false is = refl

either_way : (a b : Sts) (e last1 : Bool) → (last1 ≡ true → ends_last e a ≡ true) → ends_last last1 b ≡ true → ends_last (ends_last e a) b ≡ true
either_way a b e true first rest = ap (λ x. ends_last x b) (first refl) ∙ rest
either_way a b e false first rest = any_last b (ends_last e a) rest

-- a statement that no `break` is in
abbrev IsStill : St → Type 0
IsStill t = breaks t ≡ false

assigned_still : (ls : Option (List Left)) (v : Option Exs) (t : St) → assignment ls v ≡ Some t → IsStill t
assigned_still ls v t is = let a = assignment_some ls v t is in ap breaks (sym a.4)

updated_still : (x : Operand) (t : St) → updated x ≡ Some t → IsStill t
updated_still (constant c) t is = absurd (none_some is)
updated_still nil t is = absurd (none_some is)
updated_still (value u (binary_of at o (read q) e)) t is = ap breaks (sym (same_some is))
updated_still (value u e) t is = absurd (none_some is)

stepped_still : (p : Position) (o : TypedOp) (x : Operand) (t : St) → stepped p o x ≡ Some t → IsStill t
stepped_still p o (constant c) t is = absurd (none_some is)
stepped_still p o nil t is = absurd (none_some is)
stepped_still p o (value Int (read q)) t is = ap breaks (sym (same_some is))
stepped_still p o (value u e) t is = absurd (none_some is)

expressed_still : (k : ℕ) (g : Gives) (t : St) → expressed k g ≡ Some t → IsStill t
expressed_still k (one x) t is = absurd (none_some is)
expressed_still k (called at ts f es) t is = ap breaks (sym (same_some is))
expressed_still k (asking at) t is = ap breaks (sym (same_some is))
expressed_still k (quoted at bytes) t is = absurd (none_some is)
expressed_still k (printed at line ps) t is = ap breaks (sym (same_some is))
expressed_still k (panicked at q) t is = ap breaks (sym (same_some is))
expressed_still k (exited at e) t is = ap breaks (sym (same_some is))

returned_as : (r : Returns) (os : List Seen) (t : St) → returned r os ≡ Some t → (es : Exs) × (t ≡ return_stmt es)
returned_as r [] t is = let w = where_some r.may_be_bare (Some (return_stmt none)) t is in (none, sym (same_some w.1))
returned_as r (o ∷ os) t is = let q = map_some return_stmt (taken r.wanted (o ∷ os)) t is in (q.0, sym q.2)

headed_ends : (i : Option St) (t : St) → ends (headed i t) ≡ ends t
headed_ends None t = refl
headed_ends (Some i) t = refl

module _ (text : List ℕ) where
  -- a call of `panic` gives that
  abbrev IsPanicked : Gives → Type 0
  IsPanicked g = (at : Pos) × (q : Part) × (g ≡ panicked at q)

  panicked_from : (at : Pos) (qs : List Part) (g : Gives) → panicked_with at qs ≡ Some g → IsPanicked g
  panicked_from at [] g is = absurd (none_some is)
  panicked_from at (q ∷ []) g is = (at, q, sym (same_some is))
  panicked_from at (q ∷ r ∷ qs) g is = absurd (none_some is)

  panic_is : (d : Option Declared) → is_panic d ≡ true → d ≡ Some Panic
  panic_is None is = cc is
  panic_is (Some Panic) is = refl
  panic_is (Some other) is = cc is

  -- with `...` it gives nothing
  panic_called : (s : Scope) (d : Option Declared) (at : Pos) (spread : Bool) (os : List Seen) (g : Gives) → MayPanic d → called_with at (spread_over spread (callee_declared s d)) os ≡ Some g → IsPanicked g
  panic_called s None at true os g may is = absurd (none_some is)
  panic_called s None at false os g may is = absurd (none_some is)
  panic_called s (Some (Variable site t)) at true os g may is = absurd (none_some is)
  panic_called s (Some (Variable site t)) at false os g may is = absurd (none_some is)
  panic_called s (Some Untyped) at true os g may is = absurd (none_some is)
  panic_called s (Some Untyped) at false os g may is = absurd (none_some is)
  panic_called s (Some Panic) at true os g may is = absurd (none_some is)
  panic_called s (Some Panic) at false os g may is = let r = and_then_some (panicked_with at) (parts os) g is in panicked_from at r.0 g r.2
  panic_called s (Some other) at spread os g may is = absurd may

  panic_gives : (base s : Scope) → Inside base s → (e : TreeEx) (g : Gives) → panics text base e ≡ true → gives text s e ≡ Some g → IsPanicked g
  panic_gives base s inside (paren at e) g panic1 is = panic_gives base s inside e g panic1 is
  panic_gives base s inside (call f es spread) g panic1 is =
      let k = spread_over spread (callee text s (name_in f) (gives text s f)) in
      by (name_in f) panic1 (allowed_some (are_quiet k (seen text s es)) (called_with (first_pos f) k (seen text s es)) g is).1
    where
      by : (o : Option Name) → names_panic text base o ≡ true → called_with (first_pos f) (spread_over spread (callee text s o (gives text s f))) (seen text s es) ≡ Some g → IsPanicked g
      by None o_is is1 = cc o_is
      by (Some n) o_is is1 =
          panic_called s (declaration s (spelled text n)) (first_pos f) spread (seen text s es) g (panic_inside base s inside (spelled text n) (panic_is (declaration base (spelled text n)) o_is)) is1
  panic_gives base s inside (number at n) g panic1 is = cc panic1
  panic_gives base s inside (string at behind1) g panic1 is = cc panic1
  panic_gives base s inside (name n) g panic1 is = cc panic1
  panic_gives base s inside (unary at o e) g panic1 is = cc panic1
  panic_gives base s inside (binary at o a b) g panic1 is = cc panic1
  panic_gives base s inside (selector e at n) g panic1 is = cc panic1
  panic_gives base s inside (index e at i) g panic1 is = cc panic1
  panic_gives base s inside (slice e at low high) g panic1 is = cc panic1
  panic_gives base s inside (array_type at len e) g panic1 is = cc panic1
  panic_gives base s inside (slice_type at e) g panic1 is = cc panic1
  panic_gives base s inside (literal e es) g panic1 is = cc panic1
  panic_gives base s inside (elements at es) g panic1 is = cc panic1

  panicked_ends : (k : ℕ) (g : Gives) (t : St) → IsPanicked g → expressed k g ≡ Some t → ends t ≡ true
  panicked_ends k g t r is = ap ends (sym (same_some (ap (expressed k) (sym r.2) ∙ is)))

  simple_ends : (base s : Scope) → Inside base s → (m : Simple) (t : St) → ends_simple text base m ≡ true → simple_statement text s m ≡ Some t → ends t ≡ true
  simple_ends base s inside (tree.express e) t ending is = let q = and_then_some (expressed (length s.strings)) (gives text s e) t is in panicked_ends (length s.strings) q.0 t (panic_gives base s inside e q.0 ending q.1) q.2
  simple_ends base s inside (tree.assign ls at es) t ending is = cc ending
  simple_ends base s inside (tree.update ls at tree_op es) t ending is = cc ending
  simple_ends base s inside (tree.define ns at es) t ending is = cc ending
  simple_ends base s inside (tree.increment e at) t ending is = cc ending
  simple_ends base s inside (tree.decrement e at) t ending is = cc ending

  update_still : (s : Scope) (at : Pos) (tree_op : ArithmeticOp) (e v : Option TreeEx) (t : St) → update_statement text s at tree_op e v ≡ Some t → IsStill t
  update_still s at tree_op None v t is = absurd (none_some is)
  update_still s at tree_op (Some e) None t is = absurd (none_some is)
  update_still s at tree_op (Some e) (Some v) t is = let q = and_then_some updated (both (combined at (Arithmetic tree_op)) (own_value text s e) (operand_in (gives text s v))) t is in updated_still q.0 t q.2

  simple_still : (s : Scope) (m : Simple) (t : St) → simple_statement text s m ≡ Some t → IsStill t
  simple_still s (tree.express e) t is = let q = and_then_some (expressed (length s.strings)) (gives text s e) t is in expressed_still (length s.strings) q.0 t q.2
  simple_still s (tree.assign ls at es) t is = assigned_still (lefts text s ls) (taken (all_wanted text s ls) (seen text s es)) t is
  simple_still s (tree.update ls at tree_op es) t is = update_still s at tree_op (only ls) (only es) t is
  simple_still s (tree.define ns at es) t is =
      let w = where_some (may_define text s ns) (assignment (new_lefts text s (length s.sites) ns) (taken (all_new_wanted text s ns) (seen text s es))) t is in
      assigned_still (new_lefts text s (length s.sites) ns) (taken (all_new_wanted text s ns) (seen text s es)) t w.1
  simple_still s (tree.increment e at) t is = let q = and_then_some (stepped (position at) op.Add) (own_value text s e) t is in stepped_still (position at) op.Add q.0 t q.2
  simple_still s (tree.decrement e at) t is = let q = and_then_some (stepped (position at) op.Sub) (own_value text s e) t is in stepped_still (position at) op.Sub q.0 t q.2

  -- an init statement has no `break`
  abbrev StillInit : Option St → Type 0
  StillInit None = Unit {0}
  StillInit (Some i) = IsStill i

  init_still : (s : Scope) (init : Option Simple) (i : Option St) → init_statement text s init ≡ Some i → StillInit i
  init_still s None i is = subst StillInit (same_some is) tt
  init_still s (Some m) i is = let q = map_some Some (simple_statement text (opened s) m) i is in subst StillInit q.2 (simple_still (opened s) m q.0 q.1)

  headed_breaks : (i : Option St) (t : St) → StillInit i → breaks (headed i t) ≡ breaks t
  headed_breaks None t still = refl
  headed_breaks (Some i) t still = ap (λ b. b || (breaks t || false)) still ∙ or_false (breaks t)

  guard_still : (s : Scope) (g : Guard) (c : Choice) → guard_head text s g ≡ Some c → StillInit c.init
  guard_still s g c is =
      let r = and_then_some (λ h. option_map (λ x. record { init = h; condition = x }) (condition text (header text s g.init) g.condition)) (init_statement text s g.init) c is in
      let q = map_some (λ x. record { init = r.0; condition = x }) (condition text (header text s g.init) g.condition) c r.2 in
      subst (λ (k : Choice). StillInit k.init) q.2 (init_still s g.init r.0 r.1)

  loop_still : (s : Scope) (c : Clause) (k : Head) (y : Sts) → clause_head text s c ≡ Some k → IsStill (for_of k y)
  loop_still s forever k y is = ap (λ (x : Head). breaks (for_of x y)) (sym (same_some is))
  loop_still s (while_true e) k y is =
      let r = and_then_some (λ x. option_map (for_clause None x) (Some done)) (option_map Some (condition text (opened s) e)) k is in
      ap (λ (x : Head). breaks (for_of x y)) (sym (same_some r.2))
  loop_still s (counting init test1 post) k y is =
      let h = header text s init in
      let r = and_then_some (λ i. option_and_then (λ x. option_map (for_clause i x) (post_statement text h post)) (test text h test1)) (init_statement text s init) k is in
      let q = and_then_some (λ x. option_map (for_clause r.0 x) (post_statement text h post)) (test text h test1) k r.2 in
      let o = map_some (for_clause r.0 q.0) (post_statement text h post) k q.2 in
      ap (λ (x : Head). breaks (for_of x y)) (sym o.2) ∙ headed_breaks r.0 (for_stmt (declared_in r.0) q.0 o.0 y) (init_still s init r.0 r.1)
  loop_still s (ranging t at e) k y is =
      let q = map_some range_clause (range_in text s t e) k is in
      ap (λ (x : Head). breaks (for_of x y)) (sym q.2)

  -- an endless loop that nothing leaves
  loop_ends : (s : Scope) (c : Clause) (k : Head) (y : Sts) → clause_head text s c ≡ Some k → is_endless c ≡ true → breaks_all y ≡ false → ends (for_of k y) ≡ true
  loop_ends s forever k y is endless still = ap (λ (x : Head). ends (for_of x y)) (sym (same_some is)) ∙ ap not still
  loop_ends s (while_true e) k y is endless still = cc endless
  loop_ends s (ranging t at e) k y is endless still = cc endless
  loop_ends s (counting init (Some e) post) k y is endless still = cc endless
  loop_ends s (counting init None post) k y is endless still =
      let h = header text s init in
      let r = and_then_some (λ i. option_and_then (λ x. option_map (for_clause i x) (post_statement text h post)) (Some None)) (init_statement text s init) k is in
      let o = map_some (for_clause r.0 None) (post_statement text h post) k r.2 in
      ap (λ (x : Head). ends (for_of x y)) (sym o.2) ∙ (headed_ends r.0 (for_stmt (declared_in r.0) None o.0 y) ∙ ap not still)

  spec_still : (s : Scope) (v : ValueSpec) (t : St) → spec_statement text s v ≡ Some t → IsStill t
  spec_still s v t is =
      let a = allowed_is (is_known text s v.type_expr) (cond (is_bare v.type_expr v.values) (spec_declared text s v) (spec_assigned text s v)) t is in
      by (is_bare v.type_expr v.values) a.1
    where
      by : (b : Bool) → cond b (spec_declared text s v) (spec_assigned text s v) ≡ Some t → IsStill t
      by true is1 = let q = map_some (λ es. declare (sites_of es)) (spec_entries text s v) t is1 in ap breaks (sym q.2)
      by false is1 = assigned_still (option_map (map entry_left) (spec_entries text s v)) (taken (spec_wanted text s v) (seen text s v.values)) t is1

  specs_still : (s : Scope) (vs : List ValueSpec) (b : Sts) → spec_statements text s vs ≡ Some b → breaks_all b ≡ false
  specs_still s [] b is = ap breaks_all (sym (same_some is))
  specs_still s (v ∷ vs) b is =
      let q = and_then_some (λ t. option_map (next t) (spec_statements text (behind_spec text s v) vs)) (spec_statement text s v) b is in
      let k = map_some (next q.0) (spec_statements text (behind_spec text s v) vs) b q.2 in
      ap breaks_all (sym k.2) ∙ (ap (λ x. x || breaks_all k.0) (spec_still s v q.0 q.1) ∙ specs_still (behind_spec text s v) vs k.0 k.1)

  module _ (r : Returns) where
    mutual
      leaves_same : (looped : Bool) (s : Scope) (m : Stm) (b : Sts) → statement text r looped s m ≡ Some b → breaks_all b ≡ leaves m
      leaves_same looped s (tree.var_stmt at specs) b is = specs_still s specs b is
      leaves_same looped s (tree.simple m) b is =
          let q = map_some alone (simple_statement text s m) b is in ap breaks_all (sym q.2) ∙ ap (λ x. x || false) (simple_still s m q.0 q.1)
      leaves_same looped s (tree.block ms) b is =
          let q = map_some (λ x. alone (block x)) (statements text r looped (opened s) ms) b is in
          ap breaks_all (sym q.2) ∙ (or_false (breaks_all q.0) ∙ leaves_all looped (opened s) ms q.0 q.1)
      leaves_same looped s (tree.if_stmt at g body rest) b is =
          let h = header text s g.init in
          let inner = closed (behind_all text (opened h) body) in
          let u = map_some alone (choice_of (guard_head text s g) (statements text r looped (opened h) body) (alternative text r looped inner rest)) b is in
          let q = choice_some (guard_head text s g) (statements text r looped (opened h) body) (alternative text r looped inner rest) u.0 u.1 in
          ap breaks_all (sym u.2) ∙ (or_false (breaks u.0) ∙ (ap breaks (sym q.6) ∙ (headed_breaks q.0.init (if_stmt q.0.condition q.1 q.2) (guard_still s g q.0 q.3)
          ∙ (ap (λ x. x || breaks_all q.2) (leaves_all looped (opened h) body q.1 q.4) ∙ ap (λ x. leaves_any body || x) (leaves_rest looped inner rest q.2 q.5)))))
      leaves_same looped s (tree.for_stmt at c body) b is =
          let l = looping s c in
          let h = clause_scope text l c in
          let u = map_some alone (loop_of (clause_head text l c) (statements text r true (body_opened h) body)) b is in
          let q = loop_some (clause_head text l c) (statements text r true (body_opened h) body) u.0 u.1 in
          ap breaks_all (sym u.2) ∙ (or_false (breaks u.0) ∙ (ap breaks (sym q.4) ∙ loop_still l c q.0 q.1 q.2))
      leaves_same looped s (tree.break_stmt at) b is = ap breaks_all (sym (same_some (allowed_is looped (Some (alone break_stmt)) b is).1))
      leaves_same looped s (tree.continue_stmt at) b is = ap breaks_all (sym (same_some (allowed_is looped (Some (alone continue_stmt)) b is).1))
      leaves_same looped s (tree.return_stmt at es) b is =
          let q = map_some alone (returned r (seen text s es)) b is in
          let f = returned_as r (seen text s es) q.0 q.1 in
          ap breaks_all (sym q.2) ∙ ap (λ (t : St). breaks t || false) f.1

      leaves_rest : (looped : Bool) (s : Scope) (e : Els) (b : Sts) → alternative text r looped s e ≡ Some b → breaks_all b ≡ leaves_else e
      leaves_rest looped s tree.no_else b is = ap breaks_all (sym (same_some is))
      leaves_rest looped s (tree.else_block ms) b is = leaves_all looped (opened s) ms b is
      leaves_rest looped s (tree.else_if at g body rest) b is =
          let h = header text s g.init in
          let inner = closed (behind_all text (opened h) body) in
          let u = map_some alone (choice_of (guard_head text s g) (statements text r looped (opened h) body) (alternative text r looped inner rest)) b is in
          let q = choice_some (guard_head text s g) (statements text r looped (opened h) body) (alternative text r looped inner rest) u.0 u.1 in
          ap breaks_all (sym u.2) ∙ (or_false (breaks u.0) ∙ (ap breaks (sym q.6) ∙ (headed_breaks q.0.init (if_stmt q.0.condition q.1 q.2) (guard_still s g q.0 q.3)
          ∙ (ap (λ x. x || breaks_all q.2) (leaves_all looped (opened h) body q.1 q.4) ∙ ap (λ x. leaves_any body || x) (leaves_rest looped inner rest q.2 q.5)))))

      leaves_all : (looped : Bool) (s : Scope) (ms : Stms) (b : Sts) → statements text r looped s ms ≡ Some b → breaks_all b ≡ leaves_any ms
      leaves_all looped s tree.nil b is = ap breaks_all (sym (same_some is))
      leaves_all looped s (tree.cons m ms) b is =
          let q = and_then_some (λ t. option_map (before t) (statements text r looped (behind text s m) ms)) (statement text r looped s m) b is in
          let k = map_some (before q.0) (statements text r looped (behind text s m) ms) b q.2 in
          ap breaks_all (sym k.2) ∙ (breaks_before q.0 k.0 ∙ (ap (λ x. x || breaks_all k.0) (leaves_same looped s m q.0 q.1) ∙ ap (λ x. leaves m || x) (leaves_all looped (behind text s m) ms k.0 k.1)))

  ends_alone : (e : Bool) (t : St) (b : Sts) → alone t ≡ b → ends t ≡ true → ends_last e b ≡ true
  ends_alone e t b is ending = ap (ends_last e) (sym is) ∙ ending

  -- in a scope inside of the one that tells what `panic` stands for
  module _ (r : Returns) (base : Scope) where
    mutual
      ends_statement : (looped : Bool) (s : Scope) → Inside base s → (m : Stm) (b : Sts) → statement text r looped s m ≡ Some b → is_terminating text base m ≡ true → (e : Bool) → ends_last e b ≡ true
      ends_statement looped s inside (tree.var_stmt at specs) b is ending e = cc ending
      ends_statement looped s inside (tree.simple m) b is ending e = let q = map_some alone (simple_statement text s m) b is in ends_alone e q.0 b q.2 (simple_ends base s inside m q.0 ending q.1)
      ends_statement looped s inside (tree.block ms) b is ending e =
          let q = map_some (λ x. alone (block x)) (statements text r looped (opened s) ms) b is in
          ends_alone e (block q.0) b q.2 (sym (ends_same q.0) ∙ ends_list looped (opened s) (inside_opened base s inside) ms q.0 q.1 false ending)
      ends_statement looped s inside (tree.if_stmt at g body rest) b is ending e =
          let h = header text s g.init in
          let inner = closed (behind_all text (opened h) body) in
          let at_head : Inside base h = inside_grows base (opened s) h (inside_opened base s inside) (grows_header text s g.init) in
          let u = map_some alone (choice_of (guard_head text s g) (statements text r looped (opened h) body) (alternative text r looped inner rest)) b is in
          let q = choice_some (guard_head text s g) (statements text r looped (opened h) body) (alternative text r looped inner rest) u.0 u.1 in
          let both1 = and_true (ends_after text base false body) (is_terminating_else text base rest) ending in
          ends_alone e u.0 b u.2 (ap ends (sym q.6) ∙ (headed_ends q.0.init (if_stmt q.0.condition q.1 q.2)
          ∙ (ap (λ x. x && ends_all q.2) (sym (ends_same q.1) ∙ ends_list looped (opened h) (inside_opened base h at_head) body q.1 q.4 false both1.0) ∙ ends_else looped inner (inside_grows base h inner at_head (keeps_grows h inner (keeps_block text h body))) rest q.2 q.5 both1.1)))
      ends_statement looped s inside (tree.for_stmt at c body) b is ending e =
          let l = looping s c in
          let h = clause_scope text l c in
          let u = map_some alone (loop_of (clause_head text l c) (statements text r true (body_opened h) body)) b is in
          let q = loop_some (clause_head text l c) (statements text r true (body_opened h) body) u.0 u.1 in
          let both1 = and_true (is_endless c) (not (leaves_any body)) ending in
          ends_alone e u.0 b u.2 (ap ends (sym q.4) ∙ loop_ends l c q.0 q.1 q.2 both1.0 (leaves_all r true (body_opened h) body q.1 q.3 ∙ not_true (leaves_any body) both1.1))
      ends_statement looped s inside (tree.break_stmt at) b is ending e = cc ending
      ends_statement looped s inside (tree.continue_stmt at) b is ending e = cc ending
      ends_statement looped s inside (tree.return_stmt at es) b is ending e =
          let q = map_some alone (returned r (seen text s es)) b is in
          let f = returned_as r (seen text s es) q.0 q.1 in
          ends_alone e q.0 b q.2 (ap ends f.1)

      ends_else : (looped : Bool) (s : Scope) → Inside base s → (e : Els) (b : Sts) → alternative text r looped s e ≡ Some b → is_terminating_else text base e ≡ true → ends_all b ≡ true
      ends_else looped s inside tree.no_else b is ending = cc ending
      ends_else looped s inside (tree.else_block ms) b is ending = sym (ends_same b) ∙ ends_list looped (opened s) (inside_opened base s inside) ms b is false ending
      ends_else looped s inside (tree.else_if at g body rest) b is ending =
          let h = header text s g.init in
          let inner = closed (behind_all text (opened h) body) in
          let at_head : Inside base h = inside_grows base (opened s) h (inside_opened base s inside) (grows_header text s g.init) in
          let u = map_some alone (choice_of (guard_head text s g) (statements text r looped (opened h) body) (alternative text r looped inner rest)) b is in
          let q = choice_some (guard_head text s g) (statements text r looped (opened h) body) (alternative text r looped inner rest) u.0 u.1 in
          let both1 = and_true (ends_after text base false body) (is_terminating_else text base rest) ending in
          ap ends_all (sym u.2) ∙ (ap ends (sym q.6) ∙ (headed_ends q.0.init (if_stmt q.0.condition q.1 q.2)
          ∙ (ap (λ x. x && ends_all q.2) (sym (ends_same q.1) ∙ ends_list looped (opened h) (inside_opened base h at_head) body q.1 q.4 false both1.0) ∙ ends_else looped inner (inside_grows base h inner at_head (keeps_grows h inner (keeps_block text h body))) rest q.2 q.5 both1.1)))

      pub ends_list : (looped : Bool) (s : Scope) → Inside base s → (ms : Stms) (b : Sts) → statements text r looped s ms ≡ Some b → (e : Bool) → ends_after text base e ms ≡ true → ends_last e b ≡ true
      ends_list looped s inside tree.nil b is e ending = ap (ends_last e) (sym (same_some is)) ∙ ending
      ends_list looped s inside (tree.cons m ms) b is e ending =
          let q = and_then_some (λ t. option_map (before t) (statements text r looped (behind text s m) ms)) (statement text r looped s m) b is in
          let k = map_some (before q.0) (statements text r looped (behind text s m) ms) b q.2 in
          ap (ends_last e) (sym k.2) ∙ (ends_before e q.0 k.0
          ∙ either_way q.0 k.0 e (is_terminating text base m) (λ is1. ends_statement looped s inside m q.0 q.1 is1 e) (ends_list looped (behind text s m) (inside_grows base s (behind text s m) inside (grows text s m)) ms k.0 k.1 (is_terminating text base m) ending))
