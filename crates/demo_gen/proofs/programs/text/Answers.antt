use Rattle.std.proofs.Common.{string_bytes}
use Rattle.demo_gen.specs.Text.{beginning_text}
use Rattle.demo_gen.proofs.Functions.{one_more}
use Rattle.demo_gen.proofs.programs.text.Goals as goal

pub loop-k-preserved : goal.loop-k-preserved
loop-k-preserved c = one_more c.loop-k.k beginning_text (string_bytes c.loop-k.text) (string_bytes c.put_function.new.text) c.in_ok-put_function.ensures c.loop-k.invariant
