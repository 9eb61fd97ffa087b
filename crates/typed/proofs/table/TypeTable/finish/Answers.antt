-- The fields of all structs.
use Rattle.std.proofs.Common.{◌≡◌, ◌∷◌, [], ◌++◌, suc, List, length, map, Option, Some, None, IsSome, All, refl, sym, ap, ap₂, ◌∙◌, append_assoc, append-nil, arith}
use Rattle.std.specs.Option.{unwrap_or}
use Rattle.std.specs.Vec.Iter.{into_iter_items}
use Rattle.std.proofs.lemmas.List.{map-append}
use Rattle.base.specs.declared.ids.TypeId.{TypeId}
use Rattle.typed.specs.declared.told.Told.{Told}
use Rattle.typed.specs.Memory.{fields_in}
use Rattle.typed.proofs.Lists.{nothing_left, map_map}
use Rattle.typed.proofs.table.TypeTable.finish.Goals as goal

abbrev plain : Option Told → List TypeId
plain s = unwrap_or (fields_in s) []

-- one struct more
one_more : (done : List (List TypeId)) (left next : List (Option Told)) (all : List (List TypeId)) (x : Option Told) (fs : List TypeId) → done ++ map plain left ≡ all → left ≡ x ∷ next → fs ≡ plain x → (done ++ fs ∷ []) ++ map plain next ≡ all
one_more done left next all x fs p e q = append_assoc done (fs ∷ []) (map plain next) ∙ ap (λ f. done ++ f ∷ map plain next) q ∙ ap (λ l. done ++ map plain l) (sym e) ∙ p

pub loop-told-preserved : goal.loop-told-preserved
loop-told-preserved c =
    let at = c.loop-told in
    let steps : into_iter_items at.told-iterator ≡ c.in-Some.told ∷ into_iter_items c.next.new.self = c.in-Some.ensures.steps.0 in
    let items : map (λ s. s.items) c.push.new.self.items ≡ map (λ s. s.items) at.structs.items ++ c.into_fields.result.items ∷ [] =
    ap (map (λ s. s.items)) c.in_ok-push.ensures.items ∙ map-append (λ s. s.items) at.structs.items (c.into_fields.result ∷ []) in (
      ap (λ l. l ++ map plain (into_iter_items c.next.new.self)) items ∙ one_more (map (λ s. s.items) at.structs.items) (into_iter_items at.told-iterator) (into_iter_items c.next.new.self) (map plain (into_iter_items c.into_iter-told-iterator.result)) c.in-Some.told c.into_fields.result.items at.invariant.0 steps c.into_fields.ensures,
      let was = at.invariant.1 in
          let gone = c.in-Some.ensures.steps.1 in
          let short = ap length steps in
          omega arith,
    )

pub returns-clause-structs : goal.returns-clause-structs
returns-clause-structs c =
    let at = c.loop-told in
    let empty : into_iter_items at.told-iterator ≡ [] = nothing_left (into_iter_items at.told-iterator) (sym at.invariant.1 ∙ c.in-None.ensures.steps.0) in
    let done = map (λ s. s.items) at.structs.items in
    sym (append-nil done) ∙ ap (λ l. done ++ map plain l) (sym empty) ∙ at.invariant.0 ∙ ap (map plain) c.into_iter-told-iterator.ensures.into_iter_gives.0
    ∙ sym (map_map fields_in (λ s. unwrap_or s []) c.self.inside.structs.items) ∙ ap (λ T. map (λ s. unwrap_or s []) T.structs) c.self.view_is

-- lists of fields that are all told are those of the table
all_told : (structs : List (Option (List TypeId))) → All IsSome structs → map (λ fields. Some fields) (map (λ s. unwrap_or s []) structs) ≡ structs
all_told [] h = refl
all_told (s ∷ structs) h = ap₂ (λ x xs. x ∷ xs) (some s (h 0 s (omega arith))) (all_told structs (λ k d l. h (suc k) d (omega arith)))
  where
    some : (s : Option (List TypeId)) → IsSome s → Some (unwrap_or s []) ≡ s
    some None p = absurd cc p
    some (Some fields) p = refl

pub returns-clause-finished : goal.returns-clause-finished
returns-clause-finished c =
    λ h. let types : c.in_ok-types.types.items ≡ c.args.self.types = c.in_ok-types.ensures.items ∙ c.as_slice.ensures.keys ∙ ap (λ T. T.types) c.self.view_is in
    ap₂ (λ ts ss. record { types = ts; structs = ss }) types (ap (map (λ fields. Some fields)) (returns-clause-structs c) ∙ all_told c.args.self.structs h)
