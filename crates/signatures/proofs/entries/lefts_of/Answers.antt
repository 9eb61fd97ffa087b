use Rattle.std.proofs.Common.{◌≡◌, [], ◌∷◌, ◌++◌, ◌+◌, List, drop, map, get_or, Option, None, sym, ap, ◌∙◌, refl, arith, append_assoc, append-nil}
use Rattle.std.proofs.lemmas.List.{map-append}
use Rattle.base.specs.declared.ids.SiteId.{SiteId}
use Rattle.typed.specs.declared.stmt.Left.{Left}
use Rattle.typed.specs.View.{site_in, left_of}
use Rattle.type_faults.proofs.Lists.{from_there, nothing_left}
use Rattle.signatures.proofs.entries.lefts_of.Goals as goal
use Rattle.signatures.specs.Entries.{entry_left}

pub loop-entry-init : goal.loop-entry-init
loop-entry-init c = rw (c.new-lefts.ensures.items) refl

pub loop-entry-preserved : goal.loop-entry-preserved
loop-entry-preserved c =
    let xs = c.args.entries.now in
    let k = c.loop-entry.entry-index in
    let e : Option SiteId = get_or xs k None in
    let items = c.loop-entry.lefts.items in
    let so_far = map left_of items in
    let rest = map entry_left (map site_in (drop (k + 1) xs)) in
    let l1 : Left = c.entry_left.result in
    let here : drop k xs ≡ e ∷ drop (k + 1) xs = from_there xs k None c.loop-entry-test.true in
    rw (c.in_ok-push.ensures.items)
    (c.loop-entry.invariant ∙ ap (λ (l : List (Option SiteId)). so_far ++ map entry_left (map site_in l)) here ∙ ap (λ y. so_far ++ (y ∷ rest)) (sym c.entry_left.ensures)
    ∙ sym (append_assoc so_far (left_of l1 ∷ []) rest) ∙ ap (λ l. l ++ rest) (sym (map-append left_of items (l1 ∷ []))))

pub returns : goal.returns
returns c =
    let xs = c.args.entries.now in
    let k = c.loop-entry.entry-index in
    let so_far = map left_of c.loop-entry.lefts.items in
    let none : drop k xs ≡ [] = nothing_left xs k (λ l. absurd (omega (arith, l, c.loop-entry-test.false))) in
    sym (c.loop-entry.invariant ∙ ap (λ (l : List (Option SiteId)). so_far ++ map entry_left (map site_in l)) none ∙ append-nil so_far)
