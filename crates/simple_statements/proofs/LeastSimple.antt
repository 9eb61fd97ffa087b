-- The fault that the pass finds in a simple statement is the least of the rules that fail there.
use Rattle.std.proofs.Common.{◌≡◌, ℕ, Bool, true, false, List, [], ◌∷◌, ◌⊎◌, Option, Some, None, refl, subst, length}
use Rattle.std.specs.Prelude.{option_and_then, is_some, not, ◌&&◌, ◌==◌}
use Rattle.base.specs.declared.pos.Pos.{Pos}
use Rattle.syntax.specs.declared.expression.Name.{Name}
use Rattle.syntax.specs.Expressions.{Exs as TreeExs}
use Rattle.typed_syntax.specs.Syntax.{Left}
use Rattle.type_faults.specs.declared.fault.Fault.{Fault}
use Rattle.type_faults.specs.declared.fault.FaultKind.TheVariants.{WrongCount, ResultCount, NothingNew}
use Rattle.type_faults.specs.Least.{IsLeast, lesser}
use Rattle.type_faults.specs.Faults.{fault, IsFault}
use Rattle.type_faults.proofs.Decided.{Tested}
use Rattle.type_faults.proofs.Leasts.{least_join, leaf}
use Rattle.names.specs.Scope.{Scope}
use Rattle.given_values.specs.declared.wants.Wanted.{Wanted}
use Rattle.given_values.specs.declared.gives.Item.{Item}
use Rattle.given_values.specs.Given.{Seen, count}
use Rattle.expression_types.specs.Typing.{seen}
use Rattle.given_values.specs.GivenFaults.{count_fault, PlacedFail, CountFails, TakeFails}
use Rattle.expression_types.specs.Faults.{FailsInEach}
use Rattle.given_values.specs.Passing.{seens}
use Rattle.signatures.specs.Failing.{fault_where}
use Rattle.simple_statements.specs.SimpleStatements.{Returns, lefts, all_wanted, all_new_wanted, has_all}
use Rattle.simple_statements.specs.SimpleFaults.{names_place, lefts_place, ReturnFails, LeftsFail, NewNamesFail, TwiceFails, FailsInAssignment, FailsInDefinition}

-- what a fault says of a test
pub tested_none : (b : Bool) (P : Fault → Type 0) (f : Option Fault) → Tested b P → IsLeast P f → is_some f ≡ not b
tested_none true P None t least = refl
tested_none true P (Some f) t least = absurd (t f least.0)
tested_none false P None t least = absurd (least t.0 t.1)
tested_none false P (Some f) t least = refl

pub not_twice : (a b : Bool) → (not (not a) && b) ≡ (a && b)
not_twice true b = refl
not_twice false b = refl

module _ (text : List ℕ) (s : Scope) where
  pub define_least : (ns : List Name) (at : Pos) (es : TreeExs) (ps : List Wanted) (os : List Seen) (a b c d : Option Fault) → ps ≡ all_new_wanted text s ns → os ≡ seen text s es
      → IsLeast (FailsInEach text s es) a → IsLeast (TakeFails (fault WrongCount (names_place ns at)) ps os) b → IsLeast (NewNamesFail text s ns) c
      → IsLeast (λ f. TwiceFails text ([] ∷ []) ns f ⊎ IsFault (fault_where (has_all text s ns) (fault NothingNew at)) f) d
      → IsLeast (FailsInDefinition text s ns at es) (lesser (lesser (lesser a b) c) d)
  define_least ns at es ps os a b c d ps_is os_is each take1 news whole =
      let own = fault WrongCount (names_place ns at) in
      let take2 : IsLeast (TakeFails own (all_new_wanted text s ns) (seen text s es)) b =
      subst (λ (l : List Seen). IsLeast (TakeFails own (all_new_wanted text s ns) l) b) os_is (subst (λ (l : List Wanted). IsLeast (TakeFails own l os) b) ps_is take1) in
      least_join _ _ (lesser (lesser a b) c) d (least_join _ _ (lesser a b) c (least_join (FailsInEach text s es) (TakeFails own (all_new_wanted text s ns) (seen text s es)) a b each take2) news) whole

  pub assign_least : (ns : TreeExs) (at : Pos) (es : TreeExs) (ls : Option (List Left)) (ps : List Wanted) (os : List Seen) (a b c : Option Fault) → ls ≡ lefts text s ns → ps ≡ all_wanted text s ns → os ≡ seen text s es
      → IsLeast (LeftsFail text s ns) a → IsLeast (FailsInEach text s es) b → IsLeast (PlacedFail ps os) c
      → IsLeast (FailsInAssignment text s ns at es) (lesser (lesser a b) (lesser c (count_fault (option_and_then (λ l. count os) ls) (length ps) (fault WrongCount (lefts_place ns at)))))
  assign_least ns at es ls ps os a b c ls_is ps_is os_is left each placed =
      let own = fault WrongCount (lefts_place ns at) in
      let Whole : Option (List Left) → List Wanted → List Seen → Fault → Type 0 = λ ls1 ps1 os1 f. (LeftsFail text s ns f ⊎ FailsInEach text s es f) ⊎ (PlacedFail ps1 os1 f ⊎ CountFails (option_and_then (λ l. count os1) ls1) (length ps1) own f) in
      let answer = lesser (lesser a b) (lesser c (count_fault (option_and_then (λ l. count os) ls) (length ps) own)) in
      let whole : IsLeast (Whole ls ps os) answer = least_join (λ f. LeftsFail text s ns f ⊎ FailsInEach text s es f) (λ f. PlacedFail ps os f ⊎ CountFails (option_and_then (λ l. count os) ls) (length ps) own f)
      (lesser a b) (lesser c (count_fault (option_and_then (λ l. count os) ls) (length ps) own)) (least_join (LeftsFail text s ns) (FailsInEach text s es) a b left each)
      (least_join (PlacedFail ps os) (CountFails (option_and_then (λ l. count os) ls) (length ps) own) c (count_fault (option_and_then (λ l. count os) ls) (length ps) own) placed (leaf (count_fault (option_and_then (λ l. count os) ls) (length ps) own))) in
      subst (λ (os1 : List Seen). IsLeast (Whole (lefts text s ns) (all_wanted text s ns) os1) answer) os_is
      (subst (λ (ps1 : List Wanted). IsLeast (Whole (lefts text s ns) ps1 os) answer) ps_is (subst (λ (ls1 : Option (List Left)). IsLeast (Whole ls1 ps os) answer) ls_is whole))

-- values of a `return` that has some
pub return_least : (at : Pos) (r : Returns) (items : List Item) (f : Option Fault) → (length items == 0) ≡ false → IsLeast (TakeFails (fault ResultCount at) r.wanted (seens items)) f → IsLeast (ReturnFails at r (seens items)) f
return_least at r [] f is least = cc is
return_least at r (item ∷ items) f is least = least
