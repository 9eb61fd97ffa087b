-- What the laws say: a report is read back, and that of a solution passes.
use Rattle.std.specs.Prelude.{◌≡◌, ℕ, suc, ◌^◌, ◌<◌, ◌≤◌, pos, negsuc, Bool, true, List, [], ◌∷◌, length, map, Option, Some, Ok, slice_get, Vec}
use Rattle.std.specs.declared.alloc.Global.{Global}
use Rattle.std.specs.List.{Contains}
use Rattle.base.specs.declared.ids.FuncId.{FuncId}
use Rattle.base.specs.declared.ids.SiteId.{SiteId}
use Rattle.deref_walk.specs.declared.loc.Loc.{Loc}
use Rattle.deref_walk.specs.declared.loc.Loc.TheVariants as loc
use Rattle.deref_walk.specs.declared.graph.Edge.{Edge}
use Rattle.deref_walk.specs.declared.graph.Location.{Location}
use Rattle.deref_walk.specs.Flow.{Leads}
use Rattle.value_flows.specs.declared.placed.Placed.TheVariants as homes
use Rattle.value_flows.specs.declared.tags.ResultTag.{ResultTag}
use Rattle.value_flows.specs.declared.tags.ParamTags.{ParamTags}
use Rattle.value_flows.specs.declared.tags.Tags.{Tags}
use Rattle.value_flows.specs.declared.program.Func.{Func}
use Rattle.value_flows.specs.declared.program.Program.{Program}
use Rattle.value_flows.specs.Syntax.{Program as AnyProgram}
use Rattle.value_flows.specs.View.{tags_of}
use Rattle.escape_graph.specs.Locations.{whole_locations}
use Rattle.param_tags.specs.Heap.{placed_at, heap_of, IsTagged, outlives as outlives_in}
use Rattle.param_tags.specs.declared.solving.Solved.{Solved}
use Rattle.report_checks.specs.declared.line.Line.{Line}
use Rattle.report_checks.specs.Texts.{LineFits}
use Rattle.report_checks.specs.Lines.{lines_of}
use Rattle.report_checks.specs.Verdict.{is_there, outlives, verdict}
use Rattle.explain.specs.declared.names.SiteName.{SiteName}
use Rattle.explain.specs.Lines.{Named, AreNames, path_at, report_lines, report_text}

-- ---- reading

-- the numbers of lines have 32 bits
abbrev pub AreFit : List Named → Type 0
AreFit [] = Unit {0}
AreFit (l ∷ ls) = LineFits l.line × AreFit ls

-- names are whole, and numbers have 32 bits
pub record IsReadable (program : Program) (names : List SiteName) (solved : Solved) : Type 0 where
  pub named : AreNames names
  pub fits : AreFit (report_lines program names solved)

-- the numbers of sites, functions and parameters have 32 bits
pub record IsCounted (program : Program) : Type 0 where
  pub sites : length program.sites.items ≤ 2 ^ 32
  pub funcs : length program.funcs.items ≤ 2 ^ 32
  pub params : (f : Func) → Contains program.funcs.items f → length f.params.items ≤ 2 ^ 32

abbrev pub read_of : Named → Option Line
read_of l = Some l.line

-- the lines of a report's text are those that it was made of
abbrev pub IsReadBack : Type 0
IsReadBack = (program : Program) (names : List SiteName) (solved : Solved) → IsReadable program names solved → lines_of (report_text program names solved) ≡ map read_of (report_lines program names solved)

-- ---- passing

-- the tags of results ascend, from the result b on
abbrev pub Ascend : ℕ → List ResultTag → Type 0
Ascend b [] = Unit {0}
Ascend b (t ∷ ts) = (b ≤ t.result) × Ascend (suc t.result) ts

-- a graph has the sites with names and no other ones; each that is on the heap by a flow names a location that outlives it, and has
-- steps from there to its address; and tags ascend
pub record IsSupported (edges : List Edge) (locations : List Location) (names : List SiteName) (solved : Solved) : Type 0 where
  pub there : (l : SiteId) → l.0 < length names → is_there locations (loc.Site l) ≡ true
  pub within : (l : SiteId) → is_there locations (loc.Site l) ≡ true → l.0 < length names
  pub roots : (l : SiteId) (r : Loc) → l.0 < length names → placed_at solved.placed.items l.0 ≡ homes.Flow r → outlives locations (λ m. heap_of solved.placed.items m.0) r l ≡ true
  pub paths : (l : SiteId) (r : Loc) → l.0 < length names → placed_at solved.placed.items l.0 ≡ homes.Flow r → Leads edges r (pos 0) (path_at solved.paths.items l.0) (loc.Site l) (negsuc 0)
  pub ascending : (f j : ℕ) (ts : Vec ParamTags Global) (t : ParamTags) → slice_get solved.tags.funcs.items f ≡ Some ts → slice_get ts.items j ≡ Some t → Ascend 0 t.results.items

abbrev pub SupportedPasses : Type 0
SupportedPasses = (edges : List Edge) (locations : List Location) (program : Program) (names : List SiteName) (solved : Solved) → IsReadable program names solved → IsSupported edges locations names solved
    → verdict edges locations (lines_of (report_text program names solved)) ≡ Ok tt

-- the tags of a solution ascend
abbrev pub TagsAscend : Type 0
TagsAscend = (p : AnyProgram) (edges : List Edge) (K : ℕ → Bool) (tags : Tags) (f j : ℕ) (ts : Vec ParamTags Global) (t : ParamTags) → IsTagged p edges K (tags_of tags) f → slice_get tags.funcs.items f ≡ Some ts → slice_get ts.items j ≡ Some t
    → Ascend 0 t.results.items

-- what outlives a site in a program does so by its locations
abbrev pub OutlivesAlike : Type 0
OutlivesAlike = (p : AnyProgram) (batches : List (List FuncId)) (K : ℕ → Bool) (r : Loc) (l : SiteId) → is_there (whole_locations p batches) r ≡ true → is_there (whole_locations p batches) (loc.Site l) ≡ true
    → outlives_in p K r l.0 ≡ true → outlives (whole_locations p batches) (λ m. K m.0) r l ≡ true
