use Rattle.std.specs.List.{Contains}
use Rattle.explain.specs.Passing.{AreFit}
use Rattle.std.proofs.Common.{◌≡◌, ◌≤◌, ◌^◌, List, ℕ, length, ◌++◌, ap, sym, subst, ◌∙◌, arith}
use Rattle.value_flows.specs.declared.program.Func.{Func}
use Rattle.explain.specs.Lines.{site_lines, func_lines, text_of}
use Rattle.explain.proofs.Texts.{text_append, fit_append}
use Rattle.explain.proofs.reporting.report.Goals as goal

pub returns-clause-text : goal.returns-clause-text
returns-clause-text c =
    let names = c.args.names.now in
    let solved = c.args.solved.now in
    let sites = site_lines 0 names solved.placed.items solved.paths.items in
    let funcs = func_lines 0 c.args.program.now.funcs.items solved.tags.funcs.items in
    let first : c.put_sites.new.text.items ≡ text_of sites = c.in-Ok.ensures.text ∙ ap (λ (t : List ℕ). t ++ text_of sites) c.new-text.ensures.items in
    let second : c.put_funcs.new.text.items ≡ c.put_sites.new.text.items ++ text_of funcs = cc (c.in-Ok-put_funcs.ensures.text, c.deref.ensures.value) in
    second ∙ ap (λ (t : List ℕ). t ++ text_of funcs) first ∙ sym (text_append sites funcs)

pub returns-clause-readable : goal.returns-clause-readable
returns-clause-readable c = λ counted. (
    let names = c.args.names.now in
    let program = c.args.program.now in
    let solved = c.args.solved.now in
    let sites = site_lines 0 names solved.placed.items solved.paths.items in
    let funcs = func_lines 0 program.funcs.items solved.tags.funcs.items in
    let few : length names ≤ 2 ^ 32 = omega (arith, counted.sites, program.sites.ok.0) in
    let fits : length program.funcs.items ≤ 2 ^ 32 → ((f : Func) → Contains program.funcs.items f → length f.params.items ≤ 2 ^ 32) → AreFit funcs =
    subst (λ (gs : List Func). length gs ≤ 2 ^ 32 → ((f : Func) → Contains gs f → length f.params.items ≤ 2 ^ 32) → AreFit (func_lines 0 gs solved.tags.funcs.items)) c.deref.ensures.value c.in-Ok-put_funcs.ensures.fits in
    record { named = c.requires.named; fits = fit_append sites funcs (c.in-Ok.ensures.fits few) (fits counted.funcs counted.params) })
