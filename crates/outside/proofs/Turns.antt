-- A call of the reader so far.
use Rattle.std.proofs.Common.{Bool, IfSome, ◌≡◌, ◌≢◌, ℕ, ◌+◌, ◌^◌, ◌≤◌, ◌<◌, true, false, List, [], ◌∷◌, ◌++◌, length, Option, Some, None, ℤ, arith, refl, ap, sym, ◌∙◌, subst, append_assoc, append-nil, length-append, Ok}
use Rattle.std.specs.Prelude.{nat_lt}
use Rattle.std.proofs.lemmas.Bool.{true≢false, lt-ltb}
use Rattle.std.specs.List.{list_all, list_any}
use Rattle.std.specs.Io.KnownBytes.{Consumes, IsAtEnd, Keeps}
use Rattle.std.proofs.KnownBytes.{Consumes-nil, Consumes-trans, Consumes-kept}
use Rattle.std.proofs.lemmas.List.Folds.{list_all-append, list_any-append}
use Rattle.outside.specs.Pending.{Gives}
use Rattle.outside.specs.declared.fault.ReadFault.{ReadFault}
use Rattle.outside.specs.Items.{Reads, MeetsEnd, Loses, most_per_call, is_separator}
use Rattle.outside.specs.ItemSoFar.{start, push, number_so_far}
use Rattle.outside.specs.declared.item.Item.{Item}
use Rattle.outside.proofs.FirstItem.{reads_to_separator, reads_to_end, reads_to_bound, separator_no_end, bound_no_end}
use Rattle.outside.proofs.ItemKnown.{Knows, knows_start, knows_more, number_known}

-- `count` bytes came: separators, and then the front of an item
pub record Turns (old now : Option (List ℕ)) (i : Item) (count : ℕ) : Type 0 where
  pub skipped : List ℕ
  pub text : List ℕ
  pub came : Consumes old now (skipped ++ text)
  pub apart : list_all is_separator skipped ≡ true
  pub whole : list_any is_separator text ≡ false
  pub known : Knows i text
  pub counted : length skipped + length text ≡ count
  pub small : i.value ≤ 2 ^ 63

pub at_first : (a : Option (List ℕ)) (i : Item) → i ≡ start → Turns a a i 0
at_first a i is = record {
  skipped = [];
  text = [];
  came = Consumes-nil a;
  apart = refl;
  whole = refl;
  known = rw is knows_start;
  counted = refl;
  small = rw is (omega arith);
}

-- a byte of an item
pub item_more : (old now next : Option (List ℕ)) (i j : Item) (count b : ℕ) → Turns old now i count → Consumes now next (b ∷ [])
    → is_separator b ≡ false → j ≡ push i b → j.value ≤ 2 ^ 63 → Turns old next j (count + 1)
item_more old now next i j count b t gave inner is small = record {
  skipped = t.skipped;
  text = t.text ++ b ∷ [];
  came = rw (← append_assoc t.skipped t.text (b ∷ [])) (Consumes-trans old now next (t.skipped ++ t.text) (b ∷ []) t.came gave);
  apart = t.apart;
  whole = list_any-append is_separator t.text (b ∷ []) ∙ rw (t.whole, inner) refl;
  known = rw is (knows_more i t.text b t.known);
  counted = let c = t.counted in omega (arith, length-append t.text (b ∷ []));
  small = small;
}

some_length : (b : ℕ) (text : List ℕ) → nat_lt 0 (length (b ∷ text)) ≡ true
some_length b text = lt-ltb 0 (length (b ∷ text)) (omega arith)

no_text : (i : Item) (text : List ℕ) → Knows i text → i.any ≡ false → text ≡ []
no_text i [] k idle = refl
no_text i (b ∷ text) k idle = absurd (true≢false (sym (k.any ∙ some_length b text) ∙ idle))

some_text : (i : Item) (text : List ℕ) → Knows i text → i.any ≡ true → text ≢ []
some_text i [] k any = absurd (true≢false (sym any ∙ k.any))
some_text i (b ∷ text) k any = λ empty. absurd (omega (arith, ap length empty))

-- a separator before the item
pub skip_more : (old now next : Option (List ℕ)) (i : Item) (count b : ℕ) → Turns old now i count → Consumes now next (b ∷ [])
    → is_separator b ≡ true → i.any ≡ false → Turns old next i (count + 1)
skip_more old now next i count b t gave outer idle =
    let empty : t.text ≡ [] = no_text i t.text t.known idle in
    let all : t.skipped ++ t.text ≡ t.skipped = ap (λ (l : List ℕ). t.skipped ++ l) empty ∙ append-nil t.skipped in
    let came : Consumes old now t.skipped = rw all at t.came in
    record {
      skipped = t.skipped ++ b ∷ [];
      text = t.text;
      came = rw (empty, append-nil (t.skipped ++ b ∷ [])) (Consumes-trans old now next t.skipped (b ∷ []) came gave);
      apart = list_all-append is_separator t.skipped (b ∷ []) ∙ rw (t.apart, outer) refl;
      whole = t.whole;
      known = t.known;
      counted = let c = t.counted in omega (arith, length-append t.skipped (b ∷ []));
      small = t.small;
    }

-- an item with its separator
pub by_separator : (old now next : Option (List ℕ)) (i : Item) (count b : ℕ) (answer : Option ℤ) → Turns old now i count → Consumes now next (b ∷ [])
    → is_separator b ≡ true → i.any ≡ true → answer ≡ number_so_far i → count < most_per_call → Reads old next answer
by_separator old now next i count b answer t gave outer any is few =
    let came : Consumes old next (t.skipped ++ (t.text ++ (b ∷ []))) =
    rw (← append_assoc t.skipped t.text (b ∷ [])) (Consumes-trans old now next (t.skipped ++ t.text) (b ∷ []) t.came gave) in
    reads_to_separator old next t.skipped t.text b answer came t.apart t.whole (some_text i t.text t.known any) outer
    (let c = t.counted in omega arith) (is ∙ number_known i t.text t.known t.small)

-- the end of input
pub by_end : (old now next : Option (List ℕ)) (i : Item) (count : ℕ) (answer : Option ℤ) → Turns old now i count → IsAtEnd now → Keeps now next
    → answer ≡ number_so_far i → count < most_per_call → Reads old next answer
by_end old now next i count answer t end keeps is few =
    reads_to_end old now next t.skipped t.text answer t.came end keeps
    t.apart t.whole (let c = t.counted in omega arith) (is ∙ number_known i t.text t.known t.small)

-- as many bytes as one call takes
pub by_bound : (old now : Option (List ℕ)) (i : Item) (count : ℕ) (answer : Option ℤ) → Turns old now i count → count ≡ most_per_call → answer ≡ None → Reads old now answer
by_bound old now i count answer t all is =
    reads_to_bound old now t.skipped t.text answer (rw append-nil t.came) t.apart t.whole (t.counted ∙ all) is

-- a fault
pub by_fault : (old now next : Option (List ℕ)) (i : Item) (count : ℕ) → Turns old now i count → Keeps now next → count < most_per_call → Loses old next
by_fault old now next i count t keeps few = record {
  skipped = t.skipped;
  item = t.text;
  came = Consumes-kept old now next (t.skipped ++ t.text) t.came keeps;
  apart = t.apart;
  whole = t.whole;
  few = let c = t.counted in omega arith;
}

pub gives_byte : (r : Option ℕ) (b : ℕ) (old new : Option (List ℕ)) → r ≡ Some b → Gives {E = ReadFault} (Ok r) old new → Consumes old new (b ∷ [])
gives_byte r b old new is gave = subst (λ (x : Option ℕ). Gives {E = ReadFault} (Ok x) old new) is gave

pub gives_end : (r : Option ℕ) (old new : Option (List ℕ)) → r ≡ None → Gives {E = ReadFault} (Ok r) old new → IsAtEnd old × Keeps old new
gives_end r old new is gave = subst (λ (x : Option ℕ). Gives {E = ReadFault} (Ok x) old new) is gave

-- ---- what is remembered

pub end_is_met : (old : Option (List ℕ)) (ended : Bool) → ended ≡ true → IfSome old (λ bytes. MeetsEnd bytes → ended ≡ true)
end_is_met None ended is = tt
end_is_met (Some xs) ended is = λ _. is

not_met : (old : Option (List ℕ)) (ended : Bool) → IfSome old (λ bytes. MeetsEnd bytes → ⊥) → IfSome old (λ bytes. MeetsEnd bytes → ended ≡ true)
not_met None ended never = tt
not_met (Some xs) ended never = λ meets. absurd (never meets)

pub separator_not_met : (old now next : Option (List ℕ)) (i : Item) (count b : ℕ) (ended : Bool) → Turns old now i count → Consumes now next (b ∷ [])
    → is_separator b ≡ true → i.any ≡ true → IfSome old (λ bytes. MeetsEnd bytes → ended ≡ true)
separator_not_met old now next i count b ended t gave outer any =
    let came : Consumes old next (t.skipped ++ (t.text ++ (b ∷ []))) =
    rw (← append_assoc t.skipped t.text (b ∷ [])) (Consumes-trans old now next (t.skipped ++ t.text) (b ∷ []) t.came gave) in
    not_met old ended (separator_no_end old next t.skipped t.text b came t.apart t.whole (some_text i t.text t.known any) outer)

pub bound_not_met : (old now : Option (List ℕ)) (i : Item) (count : ℕ) (ended : Bool) → Turns old now i count → count ≡ most_per_call → IfSome old (λ bytes. MeetsEnd bytes → ended ≡ true)
bound_not_met old now i count ended t all = not_met old ended (bound_no_end old now t.skipped t.text (rw append-nil t.came) t.apart t.whole (t.counted ∙ all))
