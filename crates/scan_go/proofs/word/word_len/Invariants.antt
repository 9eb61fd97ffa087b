use Rattle.std.proofs.Common.{◌≡◌, ◌+◌, drop}
use Rattle.scan_go.specs.Words.{word_len}
use Rattle.scan_go.proofs.word.word_len.Given as goal

abbrev pub invariant-loop-i : goal.invariant-loop-i
invariant-loop-i l = l.i + word_len (drop l.i l.rest) ≡ word_len l.rest
