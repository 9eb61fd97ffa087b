-- What the compiler answers.
use Rattle.std.specs.Prelude.{◌≡◌, ◌<◌, ◌^◌, length, Result, Ok, Err}
use Rattle.typed_syntax.specs.Syntax.{Program}
use Rattle.typed.specs.View.{program_of}
use Rattle.frames.specs.Placement.{coarse}
use Rattle.frame_layout.specs.Layout.{layouts}
use Rattle.typed_syntax.specs.Form.{IsInForm}
use Rattle.program_code.specs.Code.{code_of}
use Rattle.compile.specs.declared.compiling.Compiled.{Compiled}
use Rattle.compile.specs.declared.fault.CompileFault.{CompileFault}
use Rattle.compile.specs.declared.fault.CompileFault.TheVariants.{NoMemory}

abbrev pub compiled_program : Compiled → Program
compiled_program c = program_of c.program

-- the program is in form, and the layouts, the strings and the code are the program's, with the placement that needs no analysis
pub record Does (c : Compiled) : Type 0 where
  pub layouts : c.layouts ≡ layouts (compiled_program c) (coarse (compiled_program c))
  pub strings : c.code.strings ≡ (compiled_program c).strings
  pub form : IsInForm (compiled_program c)
  pub code : c.code ≡ code_of (compiled_program c) (coarse (compiled_program c))
  pub main : (compiled_program c).main < length c.code.funcs
  pub small : length c.code.instrs < 2 ^ 40

-- this program was answered, or memory was refused
abbrev pub OnlyCompiled : Result Compiled CompileFault → Program → Type 0
OnlyCompiled (Ok c) p = compiled_program c ≡ p
OnlyCompiled (Err e) p = e ≡ NoMemory
