-- What the report of an analysis asks of a program and its names.
use Rattle.std.specs.Prelude.{◌≡◌, List, length}
use Rattle.value_flows.specs.declared.program.Program.{Program}
use Rattle.value_flows.specs.View.{program_of}
use Rattle.param_tags.specs.Order.{IsFormed}
use Rattle.flow_batches.specs.Batches.{CallsAreThere}
use Rattle.flow_batches.specs.Standing.{IsStanding}
use Rattle.explain.specs.declared.names.SiteName.{SiteName}
use Rattle.explain.specs.Lines.{AreNames}
use Rattle.explain.specs.Passing.{IsCounted}

-- the program has its form and stands, each site has a good name, and the numbers of all have 32 bits
pub record IsReady (program : Program) (names : List SiteName) : Type 0 where
  pub formed : IsFormed (program_of program)
  pub calls : CallsAreThere (program_of program)
  pub stands : IsStanding (program_of program)
  pub sites : length names ≡ length program.sites.items
  pub named : AreNames names
  pub counted : IsCounted program
