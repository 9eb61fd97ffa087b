use Rattle.std.proofs.Common.{◌≡◌, ◌++◌, drop, map}
use Rattle.codegen.proofs.program.copied.Given as goal

abbrev pub invariant-loop-bytes : goal.invariant-loop-bytes
invariant-loop-bytes l = map (λ bytes. bytes.items) l.strings ≡ map (λ bytes. bytes.items) l.all.items ++ map (λ bytes. bytes.items) (drop l.bytes-index l.strings)
