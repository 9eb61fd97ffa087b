use Rattle.std.proofs.Common.{◌≡◌, ◌+◌, ◌++◌, drop, map}
use Rattle.typed.specs.Trees.{trees}
use Rattle.typed_syntax.specs.Syntax.{all_width, each_width, type_in}
use Rattle.typed.specs.View.{site_in}
use Rattle.program_code.specs.Code.{params_code}
use Rattle.expression_code.specs.Frame.{slots_in}
use Rattle.codegen.specs.Temps.{ParamsFitIn}
use Rattle.codegen.proofs.returning.emit_params.Given as goal

abbrev pub invariant-loop-i : goal.invariant-loop-i
invariant-loop-i l =
    (l.fn.code.items ++ params_code (slots_in l.program l.frame) (each_width (map (λ t. type_in (trees l.program.types) t.0) l.types)) (map site_in l.params) 0
    ≡ l.code.items ++ params_code (slots_in l.program l.frame) (drop l.i (each_width (map (λ t. type_in (trees l.program.types) t.0) l.types))) (map site_in (drop l.i l.params)) l.word)
    × ParamsFitIn (slots_in l.program l.frame) l.frame.sites (drop l.i (each_width (map (λ t. type_in (trees l.program.types) t.0) l.types))) (map site_in (drop l.i l.params))
    × (l.word + all_width (map (λ t. type_in (trees l.program.types) t.0) (drop l.i l.types)) ≡ all_width (map (λ t. type_in (trees l.program.types) t.0) l.types))
