use Rattle.std.proofs.Common.{◌≡◌, ◌≤◌, length, take}
use Rattle.parse_expressions.specs.Stacks.{frames_of}
use Rattle.parse_expressions.specs.Machine.{allows_type}
use Rattle.parse_expressions.proofs.closing_type.allows_type.Given as goal

abbrev pub invariant-around : goal.invariant-around
invariant-around l = record {
  within : l.i ≤ length l.frames.items;
  same : allows_type (frames_of (take l.i l.frames.items)) ≡ allows_type (frames_of l.frames.items);
}

abbrev pub decreases-around : goal.decreases-around
decreases-around l = l.i
