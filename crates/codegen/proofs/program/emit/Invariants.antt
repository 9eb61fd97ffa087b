use Rattle.std.proofs.Common.{◌≡◌, ◌++◌, drop, length, map}
use Rattle.typed.specs.View.{program_of}
use Rattle.placement.specs.Told.{placement_of}
use Rattle.program_code.specs.Code.{funcs_code, funcs_owners, funcs_entries}
use Rattle.expression_code.specs.Frame.{func_in, global_addresses}
use Rattle.codegen.proofs.program.emit.Given as goal

abbrev pub invariant-loop-func : goal.invariant-loop-func
invariant-loop-func l =
    (funcs_code (program_of l.program) (placement_of l.fn.placement) (map (func_in l.program) l.funcs) 0 ≡ l.parts.instrs.items ++ funcs_code (program_of l.program) (placement_of l.fn.placement) (map (func_in l.program) (drop l.func-index l.funcs)) (length l.parts.instrs.items))
    × (funcs_owners (program_of l.program) (placement_of l.fn.placement) (map (func_in l.program) l.funcs) 0 ≡ l.parts.owners.items ++ funcs_owners (program_of l.program) (placement_of l.fn.placement) (map (func_in l.program) (drop l.func-index l.funcs)) l.number)
    × (funcs_entries (program_of l.program) (placement_of l.fn.placement) (map (func_in l.program) l.funcs) 0 ≡ l.parts.funcs.items ++ funcs_entries (program_of l.program) (placement_of l.fn.placement) (map (func_in l.program) (drop l.func-index l.funcs)) (length l.parts.instrs.items))
    × (l.number ≡ l.func-index)
    × (l.homes.globals.items ≡ global_addresses l.program)
    × (placement_of l.homes.placement ≡ placement_of l.fn.placement)
