-- The least site of a graph without a line, from lines that ascend.
use Rattle.std.specs.Prelude.{◌&&◌, nat_lt, Bool, true, List, [], ◌∷◌, Option, Some, None}
use Rattle.base.specs.declared.ids.SiteId.{SiteId}
use Rattle.deref_walk.specs.declared.graph.Location.{Location}
use Rattle.report_checks.specs.declared.line.Line.{Line}
use Rattle.report_checks.specs.declared.line.Line.TheVariants as lines
use Rattle.report_checks.specs.Verdict.{is_above, least_site}

unfoldable pub is_below : SiteId → Option SiteId → Bool
is_below l None = true
is_below l (Some m) = nat_lt l.0 m.0

unfoldable pub is_between : Option SiteId → Option SiteId → SiteId → Bool
is_between last end l = is_above last l && is_below l end

-- the site whose line a line is
unfoldable pub site_of : Option Line → Option SiteId
site_of None = None
site_of (Some (lines.Site s)) = Some s.site
site_of (Some (lines.Step s)) = None
site_of (Some (lines.Tag t)) = None

abbrev pub or_site : Option SiteId → Option SiteId → Option SiteId
or_site None b = b
or_site (Some l) b = Some l

-- the least site between the last one and the next one
unfoldable pub gap_before : List Location → Option SiteId → Option SiteId → Option SiteId
gap_before locations last None = None
gap_before locations last (Some l) = least_site (is_between last (Some l)) locations

-- the least one before the next site, or after the last one
unfoldable pub first_gap : List Location → Option SiteId → List (Option Line) → Option SiteId
first_gap locations last [] = least_site (is_between last None) locations
first_gap locations last (o ∷ read) = or_site (gap_before locations last (site_of o)) (first_gap locations (or_site (site_of o) last) read)
