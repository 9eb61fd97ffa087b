-- The lines of a report, and its text.
use Rattle.std.specs.Prelude.{ℕ, suc, List, [], ◌∷◌, ◌++◌, map, Option, Some, None, slice_get, Vec}
use Rattle.std.specs.declared.alloc.Global.{Global}
use Rattle.base.specs.declared.ids.SiteId.{SiteId}
use Rattle.deref_walk.specs.declared.levels.Step.{Step}
use Rattle.value_flows.specs.declared.placed.Placed.{Placed}
use Rattle.value_flows.specs.declared.placed.Placed.TheVariants as homes
use Rattle.value_flows.specs.declared.tags.ResultTag.{ResultTag}
use Rattle.value_flows.specs.declared.tags.ParamTags.{ParamTags}
use Rattle.value_flows.specs.declared.program.Func.{Func}
use Rattle.value_flows.specs.declared.program.Program.{Program}
use Rattle.param_tags.specs.Heap.{placed_at}
use Rattle.param_tags.specs.declared.solving.Solved.{Solved}
use Rattle.report_checks.specs.declared.line.TagFlow.{TagFlow}
use Rattle.report_checks.specs.declared.line.TagFlow.TheVariants as flows
use Rattle.report_checks.specs.declared.line.Line.{Line}
use Rattle.report_checks.specs.declared.line.Line.TheVariants as lines
use Rattle.std.specs.List.{Contains}
use Rattle.report_checks.specs.Texts.{line_text, IsName}
use Rattle.explain.specs.declared.names.SiteName.{SiteName}

-- a line, and the name that the line of a site has
pub record Named : Type 0 where
  pub line : Line
  pub name : List ℕ

abbrev pub unnamed : Line → Named
unnamed l = record { line = l; name = [] }

-- ---- names

-- a name has a byte at least, no space, and no newline
pub record IsGoodName (name : List ℕ) : Type 0 where
  pub word : IsName name
  pub line : Contains name 10 → ⊥

abbrev pub AreNames : List SiteName → Type 0
AreNames names = (n : SiteName) → Contains names n → IsGoodName n.name.items

-- ---- sites

abbrev pub site_line : ℕ → SiteName → Placed → Named
site_line k n placed = record { line = lines.Site (record { site = record { 0 = k }; line = n.pos.line; col = n.pos.col; placed = placed }); name = n.name.items }

abbrev pub step_line : Step → Named
step_line s = unnamed (lines.Step (record { to = s.to; from = s.from; weight = s.weight; sum = s.sum }))

-- the steps of the path to a site, if there is one
abbrev pub steps_in : Option (Option (Vec Step Global)) → List Step
steps_in (Some (Some steps)) = steps.items
steps_in o = []

abbrev pub path_at : List (Option (Vec Step Global)) → ℕ → List Step
path_at paths k = steps_in (slice_get paths k)

-- a site that is on the heap by a flow has the steps of its path
abbrev pub path_lines : Placed → List Step → List Named
path_lines (homes.Flow r) steps = map step_line steps
path_lines placed steps = []

-- the lines of sites with these names, from the site k on
abbrev pub site_lines : ℕ → List SiteName → List Placed → List (Option (Vec Step Global)) → List Named
site_lines k [] placed paths = []
site_lines k (n ∷ ns) placed paths = site_line k n (placed_at placed k) ∷ (path_lines (placed_at placed k) (path_at paths k) ++ site_lines (suc k) ns placed paths)

-- ---- tags

abbrev pub result_flows : List ResultTag → List TagFlow
result_flows ts = map (λ t. flows.Result t.result t.by) ts

-- where a parameter flows to: the heap first, then the results; nowhere where it flows to none of these
abbrev pub flows_to : Option ℕ → List ResultTag → List TagFlow
flows_to (Some n) ts = flows.Heap n ∷ result_flows ts
flows_to None [] = flows.Nowhere ∷ []
flows_to None (t ∷ ts) = result_flows (t ∷ ts)

-- a parameter without tags flows nowhere
abbrev pub flows_in : Option ParamTags → List TagFlow
flows_in None = flows.Nowhere ∷ []
flows_in (Some t) = flows_to t.heap t.results.items

abbrev pub tag_line : ℕ → ℕ → TagFlow → Named
tag_line f j flow = unnamed (lines.Tag (record { func = record { 0 = f }; param = j; flow = flow }))

-- a parameter without a name has no line
abbrev pub param_lines : ℕ → ℕ → Option SiteId → Option ParamTags → List Named
param_lines f j None tags = []
param_lines f j (Some x) tags = map (tag_line f j) (flows_in tags)

-- those of a function's parameters, from the parameter j on
abbrev pub params_lines : ℕ → ℕ → List (Option SiteId) → List ParamTags → List Named
params_lines f j [] tags = []
params_lines f j (o ∷ os) tags = param_lines f j o (slice_get tags j) ++ params_lines f (suc j) os tags

-- a function without tags is not looked at
abbrev pub tags_in : Option (Vec ParamTags Global) → List ParamTags
tags_in None = []
tags_in (Some ts) = ts.items

-- those of the functions from the function f on
abbrev pub func_lines : ℕ → List Func → List (Vec ParamTags Global) → List Named
func_lines f [] tags = []
func_lines f (g ∷ gs) tags = params_lines f 0 g.params.items (tags_in (slice_get tags f)) ++ func_lines (suc f) gs tags

-- ---- the whole

abbrev pub report_lines : Program → List SiteName → Solved → List Named
report_lines program names solved = site_lines 0 names solved.placed.items solved.paths.items ++ func_lines 0 program.funcs.items solved.tags.funcs.items

-- a newline after each line
abbrev pub text_of : List Named → List ℕ
text_of [] = []
text_of (l ∷ ls) = line_text l.line l.name ++ 10 ∷ text_of ls

abbrev pub report_text : Program → List SiteName → Solved → List ℕ
report_text program names solved = text_of (report_lines program names solved)
