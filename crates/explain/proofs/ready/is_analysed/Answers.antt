use Rattle.explain.proofs.ready.is_analysed.Goals as goal

pub returns-then-is_formed : goal.returns-then-is_formed
returns-then-is_formed c =
    let formed = c.is_formed.ensures.0 c.if-is_formed.true in
    (λ e. (formed.0, formed.1, c.is_standing.ensures.0 e), λ h. c.is_standing.ensures.1 h.2)
