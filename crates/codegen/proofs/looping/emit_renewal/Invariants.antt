use Rattle.std.proofs.Common.{◌≡◌, ◌++◌, drop}
use Rattle.typed.specs.View.{site_numbers}
use Rattle.program_code.specs.Code.{renew_code}
use Rattle.expression_code.specs.Frame.{slots_in}
use Rattle.codegen.specs.Temps.{MovesFit, SitesFit}
use Rattle.codegen.proofs.looping.emit_renewal.Given as goal

abbrev pub invariant-loop-site : goal.invariant-loop-site
invariant-loop-site l =
    (l.fn.code.items ++ renew_code (slots_in l.program l.frame) (site_numbers l.sites) l.h ≡ l.code.items ++ renew_code (slots_in l.program l.frame) (site_numbers (drop l.site-index l.sites)) l.h)
    × SitesFit (slots_in l.program l.frame) l.frame.sites (site_numbers (drop l.site-index l.sites))
    × MovesFit (slots_in l.program l.frame) l.h (site_numbers (drop l.site-index l.sites))
