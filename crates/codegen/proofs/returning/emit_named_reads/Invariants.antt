use Rattle.std.proofs.Common.{◌≡◌, ◌+◌, ◌≤◌, ◌++◌, drop}
use Rattle.typed.specs.View.{site_numbers}
use Rattle.program_code.specs.Code.{named_read_code}
use Rattle.expression_code.specs.Frame.{slots_in}
use Rattle.codegen.specs.Temps.{SitesFit, sites_words}
use Rattle.codegen.proofs.returning.emit_named_reads.Given as goal

abbrev pub invariant-loop-site : goal.invariant-loop-site
invariant-loop-site l =
    (l.fn.code.items ++ named_read_code (slots_in l.program l.frame) (site_numbers l.sites) l.first ≡ l.code.items ++ named_read_code (slots_in l.program l.frame) (site_numbers (drop l.site-index l.sites)) l.word)
    × SitesFit (slots_in l.program l.frame) l.frame.sites (site_numbers (drop l.site-index l.sites))
    × (l.word + sites_words (slots_in l.program l.frame) (site_numbers (drop l.site-index l.sites)) ≤ 65535)
