-- Whether a report passes, and else its first fault.
use Rattle.std.specs.Prelude.{ℕ, ◌+◌, ◌==◌, ◌&&◌, ◌||◌, not, nat_lt, ℤ, pos, negsuc, Bool, true, false, List, [], ◌∷◌, Option, Some, None, Result, Ok, Err, if◌then◌else◌}
use Rattle.std.specs.List.{list_any}
use Rattle.std.specs.Ordering.{int_eq}
use Rattle.base.specs.declared.ids.FuncId.{FuncId}
use Rattle.base.specs.declared.ids.SiteId.{SiteId}
use Rattle.deref_walk.specs.declared.loc.Loc.{Loc}
use Rattle.deref_walk.specs.declared.loc.Loc.TheVariants as loc
use Rattle.deref_walk.specs.declared.graph.Edge.{Edge}
use Rattle.deref_walk.specs.declared.graph.Location.{Location}
use Rattle.deref_walk.specs.Flow.{number_after}
use Rattle.deref_walk.specs.Locations.{same}
use Rattle.value_flows.specs.declared.placed.Placed.{Placed}
use Rattle.value_flows.specs.declared.placed.Placed.TheVariants as homes
use Rattle.report_checks.specs.declared.line.TagFlow.{TagFlow}
use Rattle.report_checks.specs.declared.line.TagFlow.TheVariants as flows
use Rattle.report_checks.specs.declared.line.SiteLine.{SiteLine}
use Rattle.report_checks.specs.declared.line.StepLine.{StepLine}
use Rattle.report_checks.specs.declared.line.TagLine.{TagLine}
use Rattle.report_checks.specs.declared.line.Line.{Line}
use Rattle.report_checks.specs.declared.line.Line.TheVariants as lines
use Rattle.report_checks.specs.declared.fault.ReportFault.{ReportFault}
use Rattle.report_checks.specs.declared.fault.ReportFault.TheVariants.{BadLine, NoSuchEdge, WrongSum, NotOutliving, SiteMissing}
use Rattle.report_checks.specs.declared.state.Next.{Next}
use Rattle.report_checks.specs.declared.state.Next.TheVariants as nexts
use Rattle.report_checks.specs.declared.state.PathEnd.{PathEnd}
use Rattle.report_checks.specs.declared.state.State.{State}
use Rattle.report_checks.specs.declared.state.State.TheVariants as states

-- ---- what a graph says

abbrev pub is_there : List Location → Loc → Bool
is_there locations l = list_any (λ x. same x.loc l) locations

abbrev pub is_edge : List Edge → Loc → Loc → ℤ → Bool
is_edge edges to from w = list_any (λ e. same e.to to && (same e.from from && int_eq e.weight w)) edges

-- a result with a name is a site
abbrev pub is_named_result : List Location → Loc → Bool
is_named_result locations l = list_any (λ x. same x.loc l && x.result) locations

-- the heap, or a result, with a name or without
unfoldable pub outlives_all : List Location → Loc → Bool
outlives_all locations loc.Heap = true
outlives_all locations (loc.Result f i) = true
outlives_all locations (loc.Site l) = is_named_result locations (loc.Site l)
outlives_all locations (loc.Carry l) = false

unfoldable pub same_func : Option FuncId → Option FuncId → Bool
same_func None o = false
same_func (Some f) None = false
same_func (Some f) (Some g) = f.0 == g.0

-- whether l lies in the function of a location, at a greater depth
abbrev pub is_deeper : List Location → Location → Loc → Bool
is_deeper locations a l = list_any (λ x. same x.loc l && (same_func a.func x.func && nat_lt a.depth x.depth)) locations

abbrev pub lies_outside : List Location → Loc → Loc → Bool
lies_outside locations r l = list_any (λ a. same a.loc r && is_deeper locations a l) locations

-- ---- what the lines say

unfoldable pub is_on_heap : Placed → Bool
is_on_heap homes.Stack = false
is_on_heap (homes.Known k) = true
is_on_heap (homes.Flow r) = true

unfoldable pub is_line_of : SiteId → Option Line → Bool
is_line_of l None = false
is_line_of l (Some (lines.Site s)) = s.site.0 == l.0
is_line_of l (Some (lines.Step s)) = false
is_line_of l (Some (lines.Tag t)) = false

unfoldable pub is_heap_line : SiteId → Option Line → Bool
is_heap_line l None = false
is_heap_line l (Some (lines.Site s)) = s.site.0 == l.0 && is_on_heap s.placed
is_heap_line l (Some (lines.Step s)) = false
is_heap_line l (Some (lines.Tag t)) = false

abbrev pub has_line : List (Option Line) → SiteId → Bool
has_line read l = list_any (is_line_of l) read

-- whether the report puts a site on the heap, by whichever of its lines
abbrev pub on_heap : List (Option Line) → SiteId → Bool
on_heap read l = list_any (is_heap_line l) read

-- the same of a location
unfoldable pub is_put_on_heap : (SiteId → Bool) → Loc → Bool
is_put_on_heap heap loc.Heap = false
is_put_on_heap heap (loc.Result f i) = false
is_put_on_heap heap (loc.Site l) = heap l
is_put_on_heap heap (loc.Carry l) = false

-- whether a location of the graph outlives a site
abbrev pub outlives : List Location → (SiteId → Bool) → Loc → SiteId → Bool
outlives locations heap r l = is_there locations r && (outlives_all locations r || (lies_outside locations r (loc.Site l) || is_put_on_heap heap r))

-- ---- the order of lines

unfoldable pub is_above : Option SiteId → SiteId → Bool
is_above None l = true
is_above (Some m) l = nat_lt m.0 l.0

-- flows of one parameter: the heap first, then the results; nowhere stands alone
unfoldable pub is_flow_after : TagFlow → TagFlow → Bool
is_flow_after (flows.Heap n) (flows.Result j m) = true
is_flow_after (flows.Result i n) (flows.Result j m) = nat_lt i j
is_flow_after a b = false

-- by functions, then parameters, then flows
unfoldable pub is_tag_after : TagLine → TagLine → Bool
is_tag_after a b = nat_lt a.func.0 b.func.0 || (a.func.0 == b.func.0 && (nat_lt a.param b.param || (a.param == b.param && is_flow_after a.flow b.flow)))

-- what stands behind a line
unfoldable pub kind_of : Option Line → Next
kind_of None = nexts.Other
kind_of (Some (lines.Site s)) = nexts.Other
kind_of (Some (lines.Step s)) = nexts.Step
kind_of (Some (lines.Tag t)) = nexts.Other

unfoldable pub next_of : List (Option Line) → Next
next_of [] = nexts.Nothing
next_of (o ∷ read) = kind_of o

abbrev pub is_step : Next → Bool
is_step nexts.Nothing = false
is_step nexts.Step = true
is_step nexts.Other = false

abbrev pub is_something : Next → Bool
is_something nexts.Nothing = false
is_something nexts.Step = true
is_something nexts.Other = true

-- a flow has a line behind it
unfoldable pub goes_on : Placed → Next → Bool
goes_on homes.Stack next = true
goes_on (homes.Known k) next = true
goes_on (homes.Flow r) next = is_something next

-- what is expected behind a line without a fault
unfoldable pub after_site : SiteId → Placed → State
after_site l homes.Stack = states.Sites (Some l)
after_site l (homes.Known k) = states.Sites (Some l)
after_site l (homes.Flow r) = states.Path (record { site = l; at = r; sum = pos 0 })

unfoldable pub after_step : SiteId → StepLine → Next → State
after_step l s nexts.Nothing = states.Sites (Some l)
after_step l s nexts.Step = states.Path (record { site = l; at = s.from; sum = s.sum })
after_step l s nexts.Other = states.Sites (Some l)

unfoldable pub state_after : State → Option Line → Next → State
state_after state None next = state
state_after state (Some (lines.Site s)) next = after_site s.site s.placed
state_after (states.Path path) (Some (lines.Step s)) next = after_step path.site s next
state_after state (Some (lines.Step s)) next = state
state_after state (Some (lines.Tag t)) next = states.Tags t

-- a step goes on from where the path has come to, and the last one ends at the site
unfoldable pub is_on_path : SiteId → Loc → StepLine → Next → Bool
is_on_path l at s next = same s.to at && (is_step next || same s.from (loc.Site l))

-- its number is the one after its edge, and the last one -1
unfoldable pub is_summed : ℤ → StepLine → Next → Bool
is_summed sum s next = int_eq s.sum (number_after sum s.weight) && (is_step next || int_eq s.sum (negsuc 0))

-- ---- the faults of a line, in the order of their kinds; n is its number

-- the first test that fails
abbrev pub test : Bool → ReportFault → Option ReportFault → Option ReportFault
test true fault rest = rest
test false fault rest = Some fault

abbrev pub or_else : Option ReportFault → Option ReportFault → Option ReportFault
or_else (Some fault) o = Some fault
or_else None o = o

unfoldable pub tag_fault : TagLine → ℕ → TagLine → Option ReportFault
tag_fault last n t = test (is_tag_after last t) (BadLine n) None

unfoldable pub is_rooted : List Location → (SiteId → Bool) → Placed → SiteId → Bool
is_rooted locations heap homes.Stack l = true
is_rooted locations heap (homes.Known k) l = true
is_rooted locations heap (homes.Flow r) l = outlives locations heap r l

unfoldable pub site_fault : List Location → (SiteId → Bool) → Option SiteId → ℕ → SiteLine → Next → Option ReportFault
site_fault locations heap last n s next =
    test (is_there locations (loc.Site s.site) && (is_above last s.site && goes_on s.placed next)) (BadLine n)
    (test (is_rooted locations heap s.placed s.site) (NotOutliving n) None)

unfoldable pub step_fault : List Edge → PathEnd → ℕ → StepLine → Next → Option ReportFault
step_fault edges path n s next =
    test (is_on_path path.site path.at s next) (BadLine n)
    (test (is_edge edges s.to s.from s.weight) (NoSuchEdge n)
    (test (is_summed path.sum s next) (WrongSum n) None))

module _ (edges : List Edge) (locations : List Location) (heap : SiteId → Bool) where
  unfoldable pub fault_of : State → ℕ → Option Line → Next → Option ReportFault
  fault_of (states.Sites last) n (Some (lines.Site s)) next = site_fault locations heap last n s next
  fault_of (states.Sites last) n (Some (lines.Tag t)) next = None
  fault_of (states.Path path) n (Some (lines.Step s)) next = step_fault edges path n s next
  fault_of (states.Tags last) n (Some (lines.Tag t)) next = tag_fault last n t
  fault_of state n o next = Some (BadLine n)

  -- the first fault of lines, whose first has number n
  unfoldable pub first_fault : State → ℕ → List (Option Line) → Option ReportFault
  first_fault state n [] = None
  first_fault state n (o ∷ read) = or_else (fault_of state n o (next_of read)) (first_fault (state_after state o (next_of read)) (n + 1) read)

-- ---- the verdict

-- the lesser site of two
unfoldable pub lesser : Option SiteId → Option SiteId → Option SiteId
lesser None b = b
lesser (Some l) None = Some l
lesser (Some l) (Some m) = if nat_lt m.0 l.0 then Some m else Some l

-- a location's site, if it passes a test
unfoldable pub site_if : (SiteId → Bool) → Loc → Option SiteId
site_if wanted loc.Heap = None
site_if wanted (loc.Result f i) = None
site_if wanted (loc.Site l) = if wanted l then Some l else None
site_if wanted (loc.Carry l) = None

-- the least site of a graph that passes a test
unfoldable pub least_site : (SiteId → Bool) → List Location → Option SiteId
least_site wanted [] = None
least_site wanted (x ∷ xs) = lesser (site_if wanted x.loc) (least_site wanted xs)

abbrev pub missing : List Location → List (Option Line) → Option SiteId
missing locations read = least_site (λ l. not (has_line read l)) locations

unfoldable pub answer : Option ReportFault → Option SiteId → Result (Unit {0}) ReportFault
answer (Some fault) l = Err fault
answer None (Some l) = Err (SiteMissing l)
answer None None = Ok tt

-- the first line that has a fault, and its least one; else the least site of the graph without a line
unfoldable pub verdict : List Edge → List Location → List (Option Line) → Result (Unit {0}) ReportFault
verdict edges locations read = answer (first_fault edges locations (on_heap read) (states.Sites None) 1 read) (missing locations read)
