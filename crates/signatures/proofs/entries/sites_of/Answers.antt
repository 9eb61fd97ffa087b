use Rattle.std.proofs.Common.{◌≡◌, [], ◌∷◌, ◌++◌, ◌+◌, List, drop, map, get_or, Option, None, sym, ap, ◌∙◌, refl, arith, append-nil}
use Rattle.base.specs.declared.ids.SiteId.{SiteId}
use Rattle.typed.specs.View.{site_in}
use Rattle.type_faults.proofs.Lists.{from_there, nothing_left}
use Rattle.signatures.proofs.entries.sites_of.Goals as goal
use Rattle.signatures.specs.Entries.{sites_of}
use Rattle.signatures.proofs.Sites.{sites_more}

pub loop-entry-init : goal.loop-entry-init
loop-entry-init c = rw (c.new-sites.ensures.items) refl

pub loop-entry-preserved : goal.loop-entry-preserved
loop-entry-preserved c =
    let xs = c.args.entries.now in
    let k = c.loop-entry.entry-index in
    let e : Option SiteId = get_or xs k None in
    let so_far = map (λ (site : SiteId). site.0) c.loop-entry.sites.items in
    let here : drop k xs ≡ e ∷ drop (k + 1) xs = from_there xs k None c.loop-entry-test.true in
    rw (c.in_ok-sites.ensures)
    (c.loop-entry.invariant ∙ ap (λ (l : List (Option SiteId)). so_far ++ sites_of (map site_in l)) here ∙ sites_more so_far (site_in e) (map site_in (drop (k + 1) xs)))

pub returns : goal.returns
returns c =
    let xs = c.args.entries.now in
    let k = c.loop-entry.entry-index in
    let so_far = map (λ (site : SiteId). site.0) c.loop-entry.sites.items in
    let none : drop k xs ≡ [] = nothing_left xs k (λ l. absurd (omega (arith, l, c.loop-entry-test.false))) in
    sym (c.loop-entry.invariant ∙ ap (λ (l : List (Option SiteId)). so_far ++ sites_of (map site_in l)) none ∙ append-nil so_far)
