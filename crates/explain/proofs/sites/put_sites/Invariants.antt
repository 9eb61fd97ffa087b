use Rattle.std.proofs.Common.{◌≡◌, ◌≤◌, ◌^◌, ◌++◌, length, drop}
use Rattle.explain.specs.Lines.{site_lines, text_of}
use Rattle.explain.specs.Passing.{AreFit}
use Rattle.explain.proofs.sites.put_sites.Given as goal

abbrev pub invariant-loop-k : goal.invariant-loop-k
invariant-loop-k l = record {
  text : l.text.items ++ text_of (site_lines l.k (drop l.k l.names) l.solved.placed.items l.solved.paths.items) ≡ l.fn.text.items ++ text_of (site_lines 0 l.names l.solved.placed.items l.solved.paths.items);
  fits : length l.names ≤ 2 ^ 32 → AreFit (site_lines l.k (drop l.k l.names) l.solved.placed.items l.solved.paths.items) → AreFit (site_lines 0 l.names l.solved.placed.items l.solved.paths.items);
}
