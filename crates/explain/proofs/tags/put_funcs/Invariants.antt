use Rattle.std.proofs.Common.{◌≡◌, ◌≤◌, ◌^◌, ◌++◌, length, drop}
use Rattle.std.specs.List.{Contains}
use Rattle.value_flows.specs.declared.program.Func.{Func}
use Rattle.explain.specs.Lines.{func_lines, text_of}
use Rattle.explain.specs.Passing.{AreFit}
use Rattle.explain.proofs.tags.put_funcs.Given as goal

abbrev pub invariant-loop-func : goal.invariant-loop-func
invariant-loop-func l = record {
  text : l.text.items ++ text_of (func_lines l.func (drop l.func l.funcs) l.tags.funcs.items) ≡ l.fn.text.items ++ text_of (func_lines 0 l.funcs l.tags.funcs.items);
  fits : length l.funcs ≤ 2 ^ 32 → ((f : Func) → Contains l.funcs f → length f.params.items ≤ 2 ^ 32) → AreFit (func_lines l.func (drop l.func l.funcs) l.tags.funcs.items) → AreFit (func_lines 0 l.funcs l.tags.funcs.items);
}
