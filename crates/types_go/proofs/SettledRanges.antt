-- Where every variable has a type, the header of a `range` has a typed form, or a rule fails in it, and never both.
use Rattle.std.proofs.Common.{◌≡◌, ℕ, suc, ◌<◌, ◌≤◌, Bool, true, false, cond, List, [], ◌∷◌, ◌⊎◌, inl, inr, length, map, Option, Some, None, refl, sym, ap, ◌∙◌, subst, arith}
use Rattle.std.specs.Prelude.{option_and_then, not, nat_le}
use Rattle.std.specs.Option.{option_map}
use Rattle.std.proofs.lemmas.Bool.{leb-true}
use Rattle.base.specs.declared.pos.Pos.{Pos}
use Rattle.base.specs.declared.value_type.ValueType.{ValueType}
use Rattle.syntax.specs.declared.expression.Name.{Name}
use Rattle.syntax.specs.FirstBytes.{first_pos}
use Rattle.syntax.specs.Expressions.{Ex as TreeEx, Exs as TreeExs, some, spelled}
use Rattle.syntax.specs.Expressions as expressions
use Rattle.syntax.specs.Statements.{Targets, no_targets, targets_assigned, targets_defined}
use Rattle.typed_syntax.specs.Syntax.{Ex, Left, blank, new, to, over_length}
use Rattle.typed.specs.Tables.{Table}
use Rattle.type_faults.specs.declared.fault.Fault.{Fault}
use Rattle.type_faults.specs.declared.fault.FaultKind.TheVariants.{NothingNew, Mismatch, WrongCount, Unfit, OutOfProfile}
use Rattle.type_faults.specs.Faults.{fault, IsFault}
use Rattle.type_faults.proofs.Decided.{Decided, Tested, tested, turned, mapped, both_tested}
use Rattle.type_faults.proofs.Options.{and_then_some, map_some, none_some, same_some}
use Rattle.operators.specs.Operands.{Operand, as_value}
use Rattle.names.specs.Universe.{is_blank}
use Rattle.names.specs.Scope.{Scope, is_here, opened}
use Rattle.names.proofs.Settled.{IsSettled}
use Rattle.operand_calls.specs.Calls.{has_call, call_pos}
use Rattle.given_values.specs.declared.wants.Wanted.{Wanted}
use Rattle.given_values.specs.Given.{accepts, operand_in}
use Rattle.expression_types.specs.Typing.{gives}
use Rattle.given_values.specs.GivenFaults.{range_fault}
use Rattle.expression_types.specs.Faults.{Fails, FailsAsOperand}
use Rattle.given_values.proofs.DecidedValues.{operand_decided, as_value_decided}
use Rattle.expression_types.proofs.Settled.{gives_decided}
use Rattle.signatures.specs.declared.entries.Role.TheVariants.{Parameter}
use Rattle.signatures.specs.Entries.{entry_of, entry_left, slot_with, first_type, later_types, slots_each, entry_in, entries, behind_entry, behind_entries}
use Rattle.signatures.specs.EntryFaults.{EntriesFail}
use Rattle.signatures.specs.Failing.{fault_where}
use Rattle.signatures.proofs.SettledEntries.{where_tested, where_not, settled_opened, settled_entries, AllTyped, entries_decided}
use Rattle.simple_statements.specs.SimpleStatements.{wanted, lefts, all_wanted}
use Rattle.simple_statements.specs.SimpleFaults.{LeftsFail}
use Rattle.simple_statements.proofs.SettledValues.{allowed_is}
use Rattle.simple_statements.proofs.SettledSimple.{lefts_decided}
use Rattle.types_go.specs.Ranges.{Ranged, numbers, array, ranged_of, ranged_in, given_by, given_types, most, each_accept, all_accept, target_slots, key_count, Sides, sides_of, Range, ranging, range_with, range_of, copied, behind_copy, over, ranged, given, all_blank, target_lefts, name_count, target_count, behind_targets, behind_range, range_in}
use Rattle.types_go.specs.RangeFaults.{ranged_fault, over_fault, given_fault, EachFails, GivenFail, keys_fault, call_fault, array_call, TargetsFail, FailsInRange}

-- ---- how many left sides there are

-- more than there may be
more_fails : (at : Pos) (n m : ℕ) → m < n → (f : Fault) × IsFault (fault_where (not (nat_le n m)) (fault WrongCount at)) f
more_fails at n m more = by (nat_le n m) refl
  where
    by : (b : Bool) → nat_le n m ≡ b → (f : Fault) × IsFault (fault_where (not b) (fault WrongCount at)) f
    by true is = let le = leb-true n m is in absurd (omega (arith, le, more))
    by false is = (fault WrongCount at, refl)

three_counted : (l k j : Left) (ls : List Left) → key_count (l ∷ k ∷ j ∷ ls) ≡ suc (suc (suc (length ls)))
three_counted l blank j ls = refl
three_counted l (new site) j ls = refl
three_counted l (to q) j ls = refl

most_two : (k : Ranged) → most k ≤ 2
most_two numbers = omega arith
most_two (array t a) = omega arith

-- no more than two
pub sides_few : (l : List Left) (q : Sides) → sides_of l ≡ Some q → length l ≤ 2
sides_few [] q is = omega arith
sides_few (x ∷ []) q is = omega arith
sides_few (x ∷ y ∷ []) q is = omega arith
sides_few (x ∷ y ∷ z ∷ l) q is = absurd (none_some is)

-- ---- of its parts

-- the two rules at the left sides, and that of a call
abbrev RuleFails : Pos → Ranged → ℕ → Option Fault → Fault → Type 0
RuleFails at k n found f = IsFault (keys_fault at (Some (most k)) (Some n)) f ⊎ IsFault (call_fault (Some n) found) f

-- a fault of a call that is there exactly where the expression has one
abbrev IsCallFault : Ranged → Ex → Option Fault → Type 0
IsCallFault numbers x found = found ≡ None
IsCallFault (array t a) x found = (has_call x ≡ true → (f : Fault) × (found ≡ Some f)) × (has_call x ≡ false → found ≡ None)

no_fault : (o : Option Fault) → o ≡ None → (f : Fault) → IsFault o f → ⊥
no_fault None is f h = h
no_fault (Some g) is f h = cc is

that_fault : (o : Option Fault) (g : Fault) → o ≡ Some g → IsFault o g
that_fault None g is = cc is
that_fault (Some h) g is = sym (same_some is)

-- one left side at most
quiet : (found : Option Fault) → found ≡ None → (f : Fault) → ⊥ ⊎ IsFault found f → ⊥
quiet found is f h = elim h [ inl u ↦ u | inr u ↦ no_fault found is f u ]

uncalled : (q : Sides) (n : ℕ) (x : Ex) (found : Option Fault) → (has_call x ≡ true → (f : Fault) × (found ≡ Some f)) × (has_call x ≡ false → found ≡ None)
    → Decided (option_map (ranging q) (cond (has_call x) None (Some (over_length n)))) (λ f. ⊥ ⊎ IsFault found f)
uncalled q n x found is = by (has_call x) refl
  where
    by : (b : Bool) → has_call x ≡ b → Decided (option_map (ranging q) (cond b None (Some (over_length n)))) (λ f. ⊥ ⊎ IsFault found f)
    by true e = let g = is.0 e in (g.0, inr (that_fault found g.0 g.1))
    by false e = quiet found (is.1 e)

last_decided : (at : Pos) (site : ℕ) (k : Ranged) (x : Ex) (l : List Left) (found : Option Fault) → IsCallFault k x found → Decided (option_and_then (range_with site k x) (sides_of l)) (RuleFails at k (key_count l) found)
last_decided at site numbers x [] found is = quiet found is
last_decided at site numbers x (l ∷ []) found is = quiet found is
last_decided at site numbers x (l ∷ blank ∷ []) found is = quiet found is
last_decided at site numbers x (l ∷ new v ∷ []) found is = (fault WrongCount at, inl refl)
last_decided at site numbers x (l ∷ to q ∷ []) found is = (fault WrongCount at, inl refl)
last_decided at site numbers x (l ∷ i ∷ j ∷ ls) found is =
    let n = suc (suc (suc (length ls))) in
    let g = more_fails at n 1 (omega arith) in
    (g.0, inl (subst (λ m. IsFault (keys_fault at (Some 1) (Some m)) g.0) (sym (three_counted l i j ls)) g.1))
last_decided at site (array t a) x [] found is = uncalled _ a.length x found is
last_decided at site (array t a) x (l ∷ []) found is = uncalled _ a.length x found is
last_decided at site (array t a) x (l ∷ blank ∷ []) found is = uncalled _ a.length x found is
last_decided at site (array t a) x (l ∷ new v ∷ []) found is = λ f h. elim h [ inl u ↦ u | inr u ↦ u ]
last_decided at site (array t a) x (l ∷ to q ∷ []) found is = λ f h. elim h [ inl u ↦ u | inr u ↦ u ]
last_decided at site (array t a) x (l ∷ i ∷ j ∷ ls) found is =
    let n = suc (suc (suc (length ls))) in
    let g = more_fails at n 2 (omega arith) in
    (g.0, inl (subst (λ m. IsFault (keys_fault at (Some 2) (Some m)) g.0) (sym (three_counted l i j ls)) g.1))

-- an operand, left sides, and how many of these there are
module _ (at place : Pos) (site : ℕ) (T : Table) (calls : Ranged → Ex → Option Fault) (P Q : Fault → Type 0) where
  abbrev CallIn : Option Ranged → Option Ex → Option Fault
  CallIn r v = option_and_then (λ k. option_and_then (calls k) v) r

  abbrev RangeFails : Option Operand → Option Ranged → Option Ex → Option ℕ → Fault → Type 0
  RangeFails o r v n f = (((P f ⊎ IsFault (over_fault T at place o) f) ⊎ Q f) ⊎ IsFault (keys_fault at (option_map most r) n) f) ⊎ IsFault (call_fault n (CallIn r v)) f

  range_of_decided : (o : Option Operand) (ls : Option (List Left)) (n : Option ℕ) → Decided o P → Decided ls Q → ((l : List Left) → ls ≡ Some l → n ≡ Some (key_count l)) → ((k : Ranged) (x : Ex) → IsCallFault k x (calls k x))
      → Decided (range_of site (ranged_in T o) (option_and_then as_value o) ls) (RangeFails o (ranged_in T o) (option_and_then as_value o) n)
  range_of_decided None ls n p q long is = (p.0, inl (inl (inl (inl p.1))))
  range_of_decided (Some y) ls n p q long is = by_ranged (ranged_of T y)
    where
      -- the rule at the operand
      Own : Option Ranged → Fault → Type 0
      Own r f = IsFault (ranged_fault at place y r) f

      All : Option Ranged → Option Ex → Fault → Type 0
      All r v f = (((P f ⊎ Own r f) ⊎ Q f) ⊎ IsFault (keys_fault at (option_map most r) n) f) ⊎ IsFault (call_fault n (CallIn r v)) f

      by_lefts : (k : Ranged) (x : Ex) → ((f : Fault) → IsFault (range_fault place (Some y)) f → ⊥) → (o : Option (List Left)) → Decided o Q → ((l : List Left) → o ≡ Some l → n ≡ Some (key_count l))
          → Decided (range_of site (Some k) (Some x) o) (All (Some k) (Some x))
      by_lefts k x own None q1 long1 = (q1.0, inl (inl (inr q1.1)))
      by_lefts k x own (Some l) q1 long1 =
          subst (λ (m : Option ℕ). Decided (option_and_then (range_with site k x) (sides_of l)) (λ f. (((P f ⊎ Own (Some k) f) ⊎ Q f) ⊎ IsFault (keys_fault at (Some (most k)) m) f) ⊎ IsFault (call_fault m (calls k x)) f)) (sym (long1 l refl))
          (joined (option_and_then (range_with site k x) (sides_of l)) (last_decided at site k x l (calls k x) (is k x)))
        where
          joined : (o : Option Range) → Decided o (RuleFails at k (key_count l) (calls k x))
              → Decided o (λ f. (((P f ⊎ Own (Some k) f) ⊎ Q f) ⊎ IsFault (keys_fault at (Some (most k)) (Some (key_count l))) f) ⊎ IsFault (call_fault (Some (key_count l)) (calls k x)) f)
          joined None d = (d.0, elim d.1 [ inl u ↦ inl (inr u) | inr u ↦ inr u ])
          joined (Some r) d =
              λ f h. elim h [
                | inl u ↦ elim u [ inl v ↦ elim v [ inl w ↦ elim w [ inl z ↦ p f z | inr z ↦ own f z ] | inr w ↦ q1 f w ] | inr v ↦ d f (inl v) ]
                | inr u ↦ d f (inr u)
              ]

      by_value : (k : Ranged) (v : Option Ex) → Decided v (IsFault (range_fault place (Some y))) → Decided (range_of site (Some k) v ls) (All (Some k) v)
      by_value k None d = (d.0, inl (inl (inl (inr d.1))))
      by_value k (Some x) d = by_lefts k x d ls q long

      by_ranged : (r : Option Ranged) → Decided (range_of site r (as_value y) ls) (All r (as_value y))
      by_ranged None = (fault Unfit at, inl (inl (inl (inr refl))))
      by_ranged (Some k) = by_value k (as_value y) (as_value_decided place y)

given_tested : (t : ValueType) (p : Wanted) (at : Pos) → Tested (accepts p t) (IsFault (given_fault t p at))
given_tested t p at = where_not (accepts p t) (fault Mismatch at)

-- names that get the types of what a `range` gives
slots_typed : (k : Ranged) (ns : List Name) → length ns ≤ 2 → AllTyped (slots_each (Some (given_by k)) ns)
slots_typed numbers [] le = tt
slots_typed numbers (n ∷ []) le = (_, refl, tt)
slots_typed numbers (n ∷ m ∷ []) le = (_, refl, (_, refl, tt))
slots_typed numbers (n ∷ m ∷ o ∷ ns) le = absurd (omega (arith, le))
slots_typed (array t a) [] le = tt
slots_typed (array t a) (n ∷ []) le = (_, refl, tt)
slots_typed (array t a) (n ∷ m ∷ []) le = (_, refl, (_, refl, tt))
slots_typed (array t a) (n ∷ m ∷ o ∷ ns) le = absurd (omega (arith, le))

settled_copy : (s : Scope) (t : Option ValueType) (at : Pos) → IsSettled s → IsSettled (behind_copy s t at)
settled_copy s None at settled = settled
settled_copy s (Some t) at settled = record { all = settled.all; formed = settled.formed }

-- what the header of a `range` has
pub record RangeParts (text : List ℕ) (s : Scope) (t : Targets) (e : TreeEx) (r : Range) : Type 0 where
  pub kind : Ranged
  pub value : Ex
  pub lefts : List Left
  pub sides : Sides
  pub ranged_is : ranged text s e ≡ Some kind
  pub value_is : over text s e ≡ Some value
  pub lefts_are : target_lefts text (opened s) (given_types (Some kind)) t ≡ Some lefts
  pub sides_are : sides_of lefts ≡ Some sides
  pub range_is : range_with (length (behind_entries text (opened s) (target_slots (given_types (Some kind)) t)).sites) kind value sides ≡ Some r

pub range_parts : (text : List ℕ) (s : Scope) (t : Targets) (e : TreeEx) (r : Range) → range_in text s t e ≡ Some r → RangeParts text s t e r
range_parts text s t e r is =
    let site = length (behind_targets text s t e).sites in
    let ls = target_lefts text (opened s) (given text s e) t in
    let k = and_then_some (λ k. option_and_then (λ x. option_and_then (range_with site k x) (option_and_then sides_of ls)) (over text s e)) (ranged text s e) r is in
    let x = and_then_some (λ x. option_and_then (range_with site k.0 x) (option_and_then sides_of ls)) (over text s e) r k.2 in
    let q = and_then_some (range_with site k.0 x.0) (option_and_then sides_of ls) r x.2 in
    let l = and_then_some sides_of ls q.0 q.1 in
    record {
      kind = k.0;
      value = x.0;
      lefts = l.0;
      sides = q.0;
      ranged_is = k.1;
      value_is = x.1;
      lefts_are = ap (λ (o : Option Ranged). target_lefts text (opened s) (given_types o) t) (sym k.1) ∙ l.1;
      sides_are = l.2;
      range_is = ap (λ (o : Option Ranged). range_with (length (behind_entries text (opened s) (target_slots (given_types o) t)).sites) k.0 x.0 q.0) (sym k.1) ∙ q.2;
    }

module _ (text : List ℕ) where
  -- ---- left sides

  each_tested : (s : Scope) (ts : List ValueType) (ls : TreeExs) → Tested (each_accept ts (all_wanted text s ls)) (EachFails ts (all_wanted text s ls) ls)
  each_tested s [] ls = λ f h. h
  each_tested s (t ∷ ts) expressions.none = λ f h. h
  each_tested s (t ∷ ts) (some e es) =
      both_tested (IsFault (given_fault t (wanted text s e) (first_pos e))) (EachFails ts (all_wanted text s es) es) (accepts (wanted text s e) t) (each_accept ts (all_wanted text s es))
      (given_tested t (wanted text s e) (first_pos e)) (each_tested s ts es)

  given_all_tested : (s : Scope) (ts : Option (List ValueType)) (ls : TreeExs) → Tested (all_accept ts (all_wanted text s ls)) (GivenFail ts (all_wanted text s ls) ls)
  given_all_tested s None ls = λ f h. h
  given_all_tested s (Some ts) ls = each_tested s ts ls

  targets_decided : (s : Scope) (ts : Option (List ValueType)) (targets : Targets) → IsSettled s → Decided (target_lefts text s ts targets) (TargetsFail text s ts targets)
  targets_decided s ts no_targets settled = λ f h. h
  targets_decided s ts (targets_assigned ls at) settled =
      turned (GivenFail ts (all_wanted text s ls) ls) (LeftsFail text s ls) (target_lefts text s ts (targets_assigned ls at))
      (tested (GivenFail ts (all_wanted text s ls) ls) (LeftsFail text s ls) (all_accept ts (all_wanted text s ls)) (lefts text s ls) (given_all_tested s ts ls) (lefts_decided text s settled ls))
  targets_decided s ts (targets_defined ns at) settled =
      turned (IsFault (fault_where (all_blank text ns) (fault NothingNew at))) (EntriesFail text Parameter s (slots_each ts ns)) (target_lefts text s ts (targets_defined ns at))
      (tested (IsFault (fault_where (all_blank text ns) (fault NothingNew at))) (EntriesFail text Parameter s (slots_each ts ns)) (not (all_blank text ns)) (option_map (map entry_left) (entries text Parameter s (slots_each ts ns)))
      (where_tested (all_blank text ns) (fault NothingNew at))
      (mapped (map entry_left) (entries text Parameter s (slots_each ts ns)) (EntriesFail text Parameter s (slots_each ts ns)) (entries_decided text Parameter s (slots_each ts ns))))

  -- a name by itself, and those after it
  entries_first : (s : Scope) (ts : Option (List ValueType)) (n : Name) (ns : List Name) (es : List (Option ℕ)) → entries text Parameter s (slots_each ts (n ∷ ns)) ≡ Some es
      → (e : Option ℕ) × (xs : List (Option ℕ)) × (entry_in text Parameter s (Some n) ≡ Some e) × (entries text Parameter (behind_entry text s (slot_with (first_type ts) n)) (slots_each (later_types ts) ns) ≡ Some xs) × (e ∷ xs ≡ es)
  entries_first s ts n ns es is =
      let later = entries text Parameter (behind_entry text s (slot_with (first_type ts) n)) (slots_each (later_types ts) ns) in
      let r = and_then_some (λ e. option_map (λ xs. e ∷ xs) later) (entry_in text Parameter s (Some n)) es is in
      let q = map_some (λ xs. r.0 ∷ xs) later es r.2 in
      (r.0, q.0, r.1, q.1, q.2)

  pub entries_long : (s : Scope) (ts : Option (List ValueType)) (ns : List Name) (es : List (Option ℕ)) → entries text Parameter s (slots_each ts ns) ≡ Some es → length ns ≡ length (map entry_left es)
  entries_long s ts [] es is = ap (λ l. length (map entry_left l)) (same_some is)
  entries_long s ts (n ∷ ns) es is =
      let r = entries_first s ts n ns es is in
      ap suc (entries_long (behind_entry text s (slot_with (first_type ts) n)) (later_types ts) ns r.1 r.3) ∙ ap (λ l. length (map entry_left l)) r.4

  -- as many left sides as names
  last_counted : (b h : Bool) (site : ℕ) (l : Left) (e : Option ℕ) → entry_of Parameter b h site ≡ Some e → cond b 1 2 ≡ key_count (l ∷ entry_left e ∷ [])
  last_counted true h site l e is = ap (λ x. key_count (l ∷ entry_left x ∷ [])) (same_some is)
  last_counted false true site l e is = absurd (none_some is)
  last_counted false false site l e is = ap (λ x. key_count (l ∷ entry_left x ∷ [])) (same_some is)

  long_counted : (l k : Left) (n : ℕ) (ls : List Left) → suc n ≡ length ls → suc (suc (suc n)) ≡ key_count (l ∷ k ∷ ls)
  long_counted l k n [] long = absurd (omega (arith, long))
  long_counted l k n (x ∷ ls) long = omega (arith, long, three_counted l k x ls)

  names_counted : (s : Scope) (ts : Option (List ValueType)) (ns : List Name) (es : List (Option ℕ)) → entries text Parameter s (slots_each ts ns) ≡ Some es → name_count text ns ≡ key_count (map entry_left es)
  names_counted s ts [] es is = ap (λ l. key_count (map entry_left l)) (same_some is)
  names_counted s ts (n ∷ []) es is =
      let r = entries_first s ts n [] es is in
      ap (λ l. key_count (entry_left r.0 ∷ map entry_left l)) (same_some r.3) ∙ ap (λ l. key_count (map entry_left l)) r.4
  names_counted s ts (n ∷ m ∷ []) es is =
      let r = entries_first s ts n (m ∷ []) es is in
      let s1 = behind_entry text s (slot_with (first_type ts) n) in
      let q = entries_first s1 (later_types ts) m [] r.1 r.3 in
      last_counted (is_blank (spelled text m)) (is_here s1 (spelled text m)) (length s1.sites) (entry_left r.0) q.0 q.2
      ∙ ap (λ l. key_count (entry_left r.0 ∷ entry_left q.0 ∷ map entry_left l)) (same_some q.3) ∙ ap (λ l. key_count (entry_left r.0 ∷ map entry_left l)) q.4 ∙ ap (λ l. key_count (map entry_left l)) r.4
  names_counted s ts (n ∷ m ∷ o ∷ ns) es is =
      let r = entries_first s ts n (m ∷ o ∷ ns) es is in
      let s1 = behind_entry text s (slot_with (first_type ts) n) in
      let q = entries_first s1 (later_types ts) m (o ∷ ns) r.1 r.3 in
      long_counted (entry_left r.0) (entry_left q.0) (length ns) (map entry_left q.1) (entries_long (behind_entry text s1 (slot_with (first_type (later_types ts)) m)) (later_types (later_types ts)) (o ∷ ns) q.1 q.3)
      ∙ ap (λ l. key_count (entry_left r.0 ∷ map entry_left l)) q.4 ∙ ap (λ l. key_count (map entry_left l)) r.4

  pub targets_counted : (s : Scope) (ts : Option (List ValueType)) (targets : Targets) (l : List Left) → target_lefts text s ts targets ≡ Some l → target_count text s targets ≡ Some (key_count l)
  targets_counted s ts no_targets l is = ap (option_map key_count) is
  targets_counted s ts (targets_assigned ls at) l is = ap (option_map key_count) (allowed_is (all_accept ts (all_wanted text s ls)) (lefts text s ls) l is).1
  targets_counted s ts (targets_defined ns at) l is =
      let a = allowed_is (not (all_blank text ns)) (option_map (map entry_left) (entries text Parameter s (slots_each ts ns))) l is in
      let q = map_some (map entry_left) (entries text Parameter s (slots_each ts ns)) l a.1 in
      ap Some (names_counted s ts ns q.0 q.1 ∙ ap key_count q.2)

  -- ---- the header

  call_decided : (s : Scope) (e : TreeEx) (k : Ranged) (x : Ex) → IsCallFault k x (array_call text s e k x)
  call_decided s e numbers x = refl
  call_decided s e (array t a) x = (λ is. (fault OutOfProfile (call_pos text s e), ap (λ b. cond b (Some (fault OutOfProfile (call_pos text s e))) None) is), λ is. ap (λ b. cond b (Some (fault OutOfProfile (call_pos text s e))) None) is)

  pub range_decided : (s : Scope) (at : Pos) (t : Targets) (e : TreeEx) → IsSettled s → Decided (range_in text s t e) (FailsInRange text s at t e)
  range_decided s at t e settled =
      range_of_decided at (first_pos e) (length (behind_targets text s t e).sites) s.types (array_call text s e) (FailsAsOperand text s e) (TargetsFail text (opened s) (given text s e) t) (operand_in (gives text s e))
      (target_lefts text (opened s) (given text s e) t) (target_count text (opened s) t) (operand_decided (gives text s e) (Fails text s e) (gives_decided text s settled e))
      (targets_decided (opened s) (given text s e) t (settled_opened s settled)) (λ l is. targets_counted (opened s) (given text s e) t l is) (call_decided s e)

  targets_typed : (s : Scope) (k : Ranged) (targets : Targets) (l : List Left) (q : Sides) → target_lefts text s (Some (given_by k)) targets ≡ Some l → sides_of l ≡ Some q → AllTyped (target_slots (Some (given_by k)) targets)
  targets_typed s k no_targets l q is sides = tt
  targets_typed s k (targets_assigned ls at) l q is sides = tt
  targets_typed s k (targets_defined ns at) l q is sides =
      let ts : Option (List ValueType) = Some (given_by k) in
      let a = allowed_is (not (all_blank text ns)) (option_map (map entry_left) (entries text Parameter s (slots_each ts ns))) l is in
      let r = map_some (map entry_left) (entries text Parameter s (slots_each ts ns)) l a.1 in
      let few = sides_few l q sides in
      let long : length ns ≡ length l = entries_long s ts ns r.0 r.1 ∙ ap (λ (x : List Left). length x) r.2 in
      slots_typed k ns (omega (arith, few, long))

  pub settled_range : (s : Scope) (t : Targets) (at : Pos) (e : TreeEx) (r : Range) → IsSettled s → range_in text s t e ≡ Some r → IsSettled (behind_range text s t at e)
  settled_range s t at e r settled is =
      let h = range_parts text s t e r is in
      let slots = target_slots (given text s e) t in
      let typed : AllTyped slots = subst (λ (o : Option Ranged). AllTyped (target_slots (given_types o) t)) (sym h.ranged_is) (targets_typed (opened s) h.kind t h.lefts h.sides h.lefts_are h.sides_are) in
      settled_copy (behind_targets text s t e) (copied (ranged text s e) (target_count text (opened s) t)) at (settled_entries text (opened s) slots typed (settled_opened s settled))
