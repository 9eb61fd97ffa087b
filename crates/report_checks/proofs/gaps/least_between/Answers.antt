use Rattle.std.proofs.Common.{◌≡◌, ℕ, ◌+◌, ◌-◌, ◌<◌, ◌≤◌, List, [], ◌∷◌, length, get_or, drop, Option, None, refl, sym, ap, ◌∙◌, arith}
use Rattle.std.specs.Prelude.{Bool}
use Rattle.std.proofs.lemmas.List.{at_drop_more, drop_all}
use Rattle.base.specs.declared.ids.SiteId.{SiteId}
use Rattle.deref_walk.specs.declared.graph.Location.{Location}
use Rattle.report_checks.specs.Verdict.{lesser, site_if, least_site}
use Rattle.report_checks.specs.Gaps.{is_between}
use Rattle.report_checks.proofs.gaps.least_between.Goals as goal

none_left : (wanted : SiteId → Bool) (locations : List Location) → locations ≡ [] → None ≡ least_site wanted locations
unfolding least_site
none_left wanted locations e = sym (ap (least_site wanted) e)

one_more : (wanted : SiteId → Bool) (x : Location) (xs : List Location) → least_site wanted (x ∷ xs) ≡ lesser (site_if wanted x.loc) (least_site wanted xs)
unfolding least_site
one_more wanted x xs = refl

one_back : (wanted : SiteId → Bool) (locations : List Location) (left : ℕ) (d : Location) (least : Option SiteId) → 0 < left → left ≤ length locations → least ≡ least_site wanted (drop left locations)
    → lesser (site_if wanted (get_or locations (left - 1) d).loc) least ≡ least_site wanted (drop (left - 1) locations)
one_back wanted locations left d least some within h =
    let i = left - 1 in
    let back : i + 1 ≡ left = omega arith in
    let x = get_or locations i d in
    ap (lesser (site_if wanted x.loc)) (h ∙ ap (λ (k : ℕ). least_site wanted (drop k locations)) (sym back))
    ∙ sym (at_drop_more (least_site wanted) locations i d (omega arith) ∙ one_more wanted x (drop (i + 1) locations))

pub loop-left-init : goal.loop-left-init
loop-left-init c = record { within = omega arith; so_far = none_left _ _ (drop_all (length c.args.locations.now) c.args.locations.now (omega arith)) }

pub loop-left-preserved : goal.loop-left-preserved
loop-left-preserved c =
    let l = c.loop-left in
    let wanted : SiteId → Bool = is_between c.args.last c.args.end in
    record {
      within = (let h : l.left ≤ length c.args.locations.now = l.invariant.within in omega arith);
      so_far = c.lesser-least.ensures ∙ ap (λ (o : Option SiteId). lesser o l.least) c.between_at.ensures ∙ one_back wanted c.args.locations.now l.left _ l.least c.loop-left-test.true l.invariant.within l.invariant.so_far;
    }
