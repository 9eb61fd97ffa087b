-- What the report of an analysed program is.
use Rattle.std.specs.Prelude.{◌≡◌, ℕ, List, Ok}
use Rattle.base.specs.declared.ids.FuncId.{FuncId}
use Rattle.value_flows.specs.declared.program.Program.{Program}
use Rattle.value_flows.specs.View.{program_of, tags_of}
use Rattle.escape_graph.specs.Edges.{whole_edges}
use Rattle.escape_graph.specs.Locations.{whole_locations}
use Rattle.param_tags.specs.Order.{AreOrdered}
use Rattle.param_tags.specs.Whole.{IsSolution}
use Rattle.param_tags.specs.Paths.{ArePaths}
use Rattle.param_tags.specs.declared.solving.Solved.{Solved}
use Rattle.flow_batches.specs.Batches.{HaveAll}
use Rattle.report_checks.specs.Lines.{lines_of}
use Rattle.report_checks.specs.Verdict.{verdict}
use Rattle.explain.specs.declared.names.SiteName.{SiteName}
use Rattle.explain.specs.Lines.{report_text}

-- the text is the report of a solution over all functions in batches, and passes on the graph of the program
pub record IsExplained (program : Program) (names : List SiteName) (report : List ℕ) : Type 0 where
  pub batches : List (List FuncId)
  pub ordered : AreOrdered (program_of program) batches
  pub all : HaveAll (program_of program) batches
  pub solved : Solved
  pub solution : IsSolution (program_of program) batches (tags_of solved.tags) solved.placed.items
  pub paths : ArePaths (whole_edges (program_of program) (tags_of solved.tags) batches) solved.placed.items solved.paths.items
  pub text : report ≡ report_text program names solved
  pub passes : verdict (whole_edges (program_of program) (tags_of solved.tags) batches) (whole_locations (program_of program) batches) (lines_of report) ≡ Ok tt
