use Rattle.std.proofs.Common.{◌≡◌, ◌++◌, drop}
use Rattle.typed.specs.View.{site_numbers}
use Rattle.program_code.specs.Code.{zeros_code}
use Rattle.expression_code.specs.Frame.{slots_in}
use Rattle.codegen.specs.Temps.{SitesFit}
use Rattle.codegen.proofs.returning.emit_zeros.Given as goal

abbrev pub invariant-loop-site : goal.invariant-loop-site
invariant-loop-site l =
    (l.fn.code.items ++ zeros_code (slots_in l.program l.frame) (site_numbers l.sites) ≡ l.code.items ++ zeros_code (slots_in l.program l.frame) (site_numbers (drop l.site-index l.sites)))
    × SitesFit (slots_in l.program l.frame) l.frame.sites (site_numbers (drop l.site-index l.sites))
