use Rattle.std.proofs.Common.{◌≡◌, Some, sym, subst}
use Rattle.std.specs.Prelude.{slice_get, slice_index_or, List}
use Rattle.std.proofs.lemmas.Option.{slice_get-get_or}
use Rattle.isa.specs.declared.func.Func.{Func}
use Rattle.code_runs.proofs.Begun.{begins}
use Rattle.code_runs.proofs.running.entry.Goals as goal

pub returns : goal.returns
returns c =
    let t = c.args.code.now in let main = c.args.main.0 in
    let is = subst (λ (p : List Func). slice_get t.funcs main ≡ Some (slice_index_or p main (record { frame = 0; arguments = 0; results = 0; start = 0; size = 0 }))) (sym c.funcs.ensures) (slice_get-get_or t.funcs main _ c.requires.main) in
    record { is = is; inside = begins t c.instrs.ensures.is_code main _ is }
