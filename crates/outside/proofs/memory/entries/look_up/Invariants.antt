use Rattle.std.proofs.Common.{◌≡◌, length}
use Rattle.outside.specs.Files.{content_of}
use Rattle.outside.specs.Entries.{entries_of}
use Rattle.outside.proofs.memory.entries.look_up.Given as goal

abbrev pub invariant-entries : goal.invariant-entries
invariant-entries l = content_of (entries_of l.rest) l.path ≡ content_of (entries_of l.held) l.path

abbrev pub decreases-entries : goal.decreases-entries
decreases-entries l = length l.rest
