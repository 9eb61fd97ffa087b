use Rattle.std.proofs.Common.{◌≡◌, ◌<◌, ◌^◌, [], ◌∷◌, ◌++◌, subst, arith}
use Rattle.std.proofs.lemmas.List.{get_or_read}
use Rattle.value_flows.specs.declared.placed.Placed.{Placed}
use Rattle.value_flows.specs.declared.placed.Placed.TheVariants.{Stack}
use Rattle.param_tags.specs.Heap.{placed_at}
use Rattle.report_checks.specs.Texts.{LineFits}
use Rattle.explain.specs.Lines.{site_line, text_of}
use Rattle.explain.proofs.Texts.{sites_turn, sites_fit}
use Rattle.explain.proofs.sites.put_sites.Goals as goal

pub loop-k-preserved : goal.loop-k-preserved
loop-k-preserved c =
    let k = c.loop-k.k in
    let n = c.index-names-k.result in
    let names = c.args.names.now in
    let placed = c.args.solved.now.placed in
    let paths = c.args.solved.now.paths.items in
    let old = c.loop-k.invariant in
    let here : c.index.result.now ≡ placed_at placed.items k = get_or_read placed.items k c.index.result.now (omega (arith, placed.ok.0)) c.index.ensures Stack in
    let line : c.put_site.new.text.items ≡ c.loop-k.text.items ++ text_of (site_line k n (placed_at placed.items k) ∷ []) =
    subst (λ (x : Placed). c.put_site.new.text.items ≡ c.loop-k.text.items ++ text_of (site_line k n x ∷ [])) here c.in_ok-put_site.ensures.text in
    let fits : k < 2 ^ 32 → LineFits (site_line k n (placed_at placed.items k)).line =
    subst (λ (x : Placed). k < 2 ^ 32 → LineFits (site_line k n x).line) here c.in_ok-put_site.ensures.fits in
    record {
      text = sites_turn names placed.items paths k n c.loop-k.text.items c.put_site.new.text.items c.put_path.new.text.items _ c.index-names-k.is c.loop-k-test.true line c.in_ok-put_path.ensures.text old.text;
      fits = λ most left. old.fits most (sites_fit names placed.items paths k n c.index-names-k.is c.loop-k-test.true (fits (omega arith)) c.in_ok-put_path.ensures.fits left);
    }
