-- The numbers of faults.
use Rattle.std.specs.Prelude.{ℕ}
use Rattle.report_checks.specs.declared.fault.ReportFault.{ReportFault}
use Rattle.report_checks.specs.declared.fault.ReportFault.TheVariants.{BadLine, NoSuchEdge, WrongSum, NotOutliving, SiteMissing}

abbrev pub fault_number : ReportFault → ℕ
fault_number (BadLine n) = 1
fault_number (NoSuchEdge n) = 2
fault_number (WrongSum n) = 3
fault_number (NotOutliving n) = 4
fault_number (SiteMissing l) = 5
