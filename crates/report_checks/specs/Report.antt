-- What a report that passes is.
use Rattle.std.specs.Prelude.{◌≡◌, pos, negsuc, Bool, true, List, [], ◌∷◌, ◌++◌, Option, Some, None, Ok, map, count_by}
use Rattle.base.specs.declared.ids.SiteId.{SiteId}
use Rattle.deref_walk.specs.declared.loc.Loc.{Loc}
use Rattle.deref_walk.specs.declared.loc.Loc.TheVariants as loc
use Rattle.deref_walk.specs.declared.graph.Edge.{Edge}
use Rattle.deref_walk.specs.declared.graph.Location.{Location}
use Rattle.deref_walk.specs.declared.levels.Step.{Step}
use Rattle.deref_walk.specs.Flow.{Leads}
use Rattle.value_flows.specs.declared.placed.Known.{Known}
use Rattle.value_flows.specs.declared.placed.Placed.TheVariants as homes
use Rattle.report_checks.specs.declared.line.SiteLine.{SiteLine}
use Rattle.report_checks.specs.declared.line.TagLine.{TagLine}
use Rattle.report_checks.specs.declared.line.Line.{Line}
use Rattle.report_checks.specs.declared.line.Line.TheVariants as lines
use Rattle.report_checks.specs.Verdict.{is_there, is_above, is_tag_after, is_line_of, on_heap, outlives, verdict}

-- the line of a step
abbrev pub line_of : Step → Option Line
line_of s = Some (lines.Step (record { to = s.to; from = s.from; weight = s.weight; sum = s.sum }))

abbrev pub ComesAfter : Option TagLine → TagLine → Type 0
ComesAfter None t = Unit {0}
ComesAfter (Some last) t = is_tag_after last t ≡ true

-- tags alone, in their order
pub data AreTags : Option TagLine → List (Option Line) → Type 0 where
  no_tags : {last : Option TagLine} → AreTags last []
  more_tags : {last : Option TagLine} {read : List (Option Line)} (t : TagLine) → ComesAfter last t → AreTags (Some t) read → AreTags last (Some (lines.Tag t) ∷ read)

-- a site of a graph, that comes after the last one
pub record IsNextSite (locations : List Location) (last : Option SiteId) (l : SiteId) : Type 0 where
  pub there : is_there locations (loc.Site l) ≡ true
  pub above : is_above last l ≡ true

module _ (edges : List Edge) (locations : List Location) (heap : SiteId → Bool) where
  -- the lines of sites after the last one, in order, each flow with the steps of a path from a root that outlives the site to its
  -- address, and then those of tags
  pub data IsReport : Option SiteId → List (Option Line) → Type 0 where
    ended : {last : Option SiteId} {read : List (Option Line)} → AreTags None read → IsReport last read
    stays : {last : Option SiteId} {read : List (Option Line)} (s : SiteLine) → IsNextSite locations last s.site → s.placed ≡ homes.Stack → IsReport (Some s.site) read → IsReport last (Some (lines.Site s) ∷ read)
    known : {last : Option SiteId} {read : List (Option Line)} (s : SiteLine) (why : Known) → IsNextSite locations last s.site → s.placed ≡ homes.Known why → IsReport (Some s.site) read → IsReport last (Some (lines.Site s) ∷ read)
    flows : {last : Option SiteId} {read : List (Option Line)} (s : SiteLine) (root : Loc) (steps : List Step) → IsNextSite locations last s.site → s.placed ≡ homes.Flow root
        → outlives locations heap root s.site ≡ true → Leads edges root (pos 0) steps (loc.Site s.site) (negsuc 0) → IsReport (Some s.site) read → IsReport last (Some (lines.Site s) ∷ (map line_of steps ++ read))

pub record IsReportOf (edges : List Edge) (locations : List Location) (read : List (Option Line)) : Type 0 where
  pub lines : IsReport edges locations (on_heap read) None read
  pub once : (l : SiteId) → is_there locations (loc.Site l) ≡ true → count_by (is_line_of l) read ≡ 1

abbrev pub PassedIsReport : Type 0
PassedIsReport = (edges : List Edge) (locations : List Location) (read : List (Option Line)) → verdict edges locations read ≡ Ok tt → IsReportOf edges locations read
