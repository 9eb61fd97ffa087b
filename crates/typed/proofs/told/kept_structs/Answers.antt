-- Each struct is kept with its fields and its words.
use Rattle.std.proofs.Common.{◌≡◌, ℕ, ◌∙◌, ◌∷◌, [], ◌++◌, List, length, map, slice_get, vec_len, Option, Some, None, IfSome, inl, inr, sym, ap, append_assoc, arith}
use Rattle.std.specs.Option.{option_map}
use Rattle.std.specs.Global.{Vec}
use Rattle.std.specs.Vec.Iter.{into_iter_items}
use Rattle.std.proofs.lemmas.List.{map-append}
use Rattle.base.specs.declared.ids.TypeId.{TypeId}
use Rattle.typed.specs.declared.told.Told.{Told}
use Rattle.typed.specs.Tables.{lists_of}
use Rattle.typed.specs.Words.{known}
use Rattle.typed.specs.Memory.{fields_in}
use Rattle.typed.proofs.Lists.{get_grown}
use Rattle.typed.proofs.told.kept_structs.Goals as goal

-- one struct more
one_more : (done : List (Option (List TypeId))) (left next : List (Option (Vec TypeId))) (all : List (Option (List TypeId))) (x : Option (Vec TypeId)) (fs : Option (List TypeId)) → done ++ lists_of left ≡ all → left ≡ x ∷ next → fs ≡ option_map (λ l. l.items) x
    → (done ++ fs ∷ []) ++ lists_of next ≡ all
one_more done left next all x fs p e q = append_assoc done (fs ∷ []) (lists_of next) ∙ ap (λ f. done ++ f ∷ lists_of next) q ∙ ap (λ l. done ++ lists_of l) (sym e) ∙ p

-- which has its words
words_too : (words : List (Option ℕ)) (done : List (Option Told)) (x : Option Told) (n : ℕ) → ((s : ℕ) (t : Told) → slice_get done s ≡ Some (Some t) → t.words ≡ known words s) → n ≡ known words (length done) → IfSome x (λ t. t.words ≡ n)
    → (s : ℕ) (t : Told) → slice_get (done ++ x ∷ []) s ≡ Some (Some t) → t.words ≡ known words s
words_too words done x n before e if s t h =
    elim (get_grown done x s (Some t) h) [
      | inl a ↦ before s t a
      | inr a ↦ of x if a.1 ∙ e ∙ ap (known words) (sym a.0)
    ]
  where
    of : (o : Option Told) → IfSome o (λ t. t.words ≡ n) → o ≡ Some t → t.words ≡ n
    of None i p = absurd cc p
    of (Some u) i p = let q : u ≡ t = cc in ap (λ v. v.words) (sym q) ∙ i

pub loop-list-preserved : goal.loop-list-preserved
loop-list-preserved c =
    let at = c.loop-list in
    let done = at.structs.items in
    let size : vec_len at.structs ≡ length done = omega arith in
    let steps : into_iter_items at.list-iterator ≡ c.in-Some.list ∷ into_iter_items c.next.new.self = c.in-Some.ensures.steps.0 in (
      ap (λ l. map fields_in l ++ lists_of (into_iter_items c.next.new.self)) c.in_ok-push.ensures.items
          ∙ ap (λ l. l ++ lists_of (into_iter_items c.next.new.self)) (map-append fields_in done (c.kept.result ∷ []))
          ∙ one_more (map fields_in done) (into_iter_items at.list-iterator) (into_iter_items c.next.new.self) (lists_of (into_iter_items c.into_iter-list-iterator.result)) c.in-Some.list (fields_in c.kept.result) at.invariant.0 steps c.kept.ensures.fields,
      λ s t h. words_too c.args.words.now done c.kept.result c.known_words-words.result at.invariant.1 (c.known_words-words.ensures ∙ ap (known c.args.words.now) (c.len-in-loop-list.ensures ∙ size)) c.kept.ensures.words s t (ap (λ l. slice_get l s) (sym c.in_ok-push.ensures.items) ∙ h),
      let was = at.invariant.2 in
          let gone = c.in-Some.ensures.steps.1 in
          let short = ap length steps in
          omega arith,
    )
