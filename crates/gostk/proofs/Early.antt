-- What ends in few turns ends the same in many.
use Rattle.std.proofs.Common.{◌≡◌, ap, ap₂, Some}
use Rattle.simulation.specs.Outcome.{Outcome, Gives, Ends, Unfinished, Below}
use Rattle.meaning.specs.Trace.{Ending}
use Rattle.meaning.specs.Output.{Sight, Last, ending_in}

pub joined : (a c : Outcome Sight Last) → Below (λ x y. x ≡ y) (λ x y. x ≡ y) a c → (x : Ending) → ending_in a ≡ Some x → a ≡ c
joined Unfinished c h x e = cc
joined (Gives u a) (Gives w c) h x e = ap₂ Gives h.0 (joined a c h.1 x e)
joined (Gives u a) (Ends f) h x e = absurd h
joined (Gives u a) Unfinished h x e = absurd h
joined (Ends y) (Gives w c) h x e = absurd h
joined (Ends y) (Ends f) h x e = ap Ends h
joined (Ends y) Unfinished h x e = absurd h
