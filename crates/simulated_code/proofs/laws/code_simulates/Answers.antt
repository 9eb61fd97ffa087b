use Rattle.std.proofs.Common.{refl}
use Rattle.program_code.specs.Code.{code_of}
use Rattle.program_code.proofs.Stands.{compiled}
use Rattle.simulated_code.proofs.Follows.{simulated}
use Rattle.simulated_code.proofs.laws.code_simulates.Goals as goal

pub returns : goal.returns
returns c = λ p l form are_placed. simulated p l (code_of p l) (compiled p l) form are_placed refl
