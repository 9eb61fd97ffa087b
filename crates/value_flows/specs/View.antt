-- The data as abstract syntax.
use Rattle.std.specs.Prelude.{List, [], ◌∷◌, map}
use Rattle.std.specs.Option.{option_map}
use Rattle.value_flows.specs.declared.value.Value.{Value, Row_of-Value, end_of-Value, more_of-Value, Variable, Address, Inside', Behind', Parts', Beside', Sent', Call'}
use Rattle.value_flows.specs.declared.value.Values.{Values, Each', Results'}
use Rattle.value_flows.specs.declared.program.Act.{Act as ActData}
use Rattle.value_flows.specs.declared.program.Act.TheVariants.{Give, Carry}
use Rattle.value_flows.specs.declared.program.FuncResult.{FuncResult}
use Rattle.value_flows.specs.declared.program.Func.{Func as FuncData}
use Rattle.value_flows.specs.declared.program.Program.{Program as ProgramData}
use Rattle.value_flows.specs.declared.tags.ParamTags.{ParamTags as ParamTagsData}
use Rattle.value_flows.specs.declared.tags.Tags.{Tags as TagsData}
use Rattle.value_flows.specs.Syntax.{Val, Vals, Exs, variable, address, inside, behind, parts, beside, sent, call, none, more, each, results, Act, give, carry, Result, Func, Program, ParamTags, Tags}

abbrev mutual
  pub val_of : Value → Val
  val_of (Variable x) = variable x.0
  val_of (Address x) = address x.0
  val_of (Inside' has at v) = inside has (val_of v)
  val_of (Behind' at v) = behind (val_of v)
  val_of (Parts' shape row) = parts (vals_of_row row)
  val_of (Beside' shape row at v) = beside (vals_of_row row) (val_of v)
  val_of (Sent' t at v) = sent t (val_of v)
  val_of (Call' f at vs) = call f.0 (exs_of vs)

  pub vals_of_row : {m : _} → Row_of-Value m → Vals
  vals_of_row end_of-Value = none
  vals_of_row (more_of-Value v rest) = more (val_of v) (vals_of_row rest)

  pub exs_of : Values → Exs
  exs_of (Each' shape row) = each (vals_of_row row)
  exs_of (Results' f at vs) = results f.0 (exs_of vs)

-- the same at lists
abbrev pub vals_of : List Value → Vals
vals_of [] = none
vals_of (v ∷ vs) = more (val_of v) (vals_of vs)

abbrev pub act_of : ActData → Act
act_of (Give vs targets) = give (exs_of vs) targets.items
act_of (Carry x) = carry x.0

abbrev pub result_of : FuncResult → Result
result_of r = record { site = option_map (λ x. x.0) r.site; pointers = r.pointers }

abbrev pub func_of : FuncData → Func
func_of f = record { first = f.first_site; count = f.sites; params = map (option_map (λ x. x.0)) f.params.items; results = map result_of f.results.items; body = map act_of f.body.items }

abbrev pub program_of : ProgramData → Program
program_of p = record { funcs = map func_of p.funcs.items; sites = p.sites.items }

abbrev pub param_tags_of : ParamTagsData → ParamTags
param_tags_of t = record { heap = t.heap; results = t.results.items }

abbrev pub tags_of : TagsData → Tags
tags_of t = map (λ f. map param_tags_of f.items) t.funcs.items
