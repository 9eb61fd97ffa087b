-- What each stage's clauses give the compiler's.
use Rattle.std.proofs.Common.{◌≡◌, ℕ, zero, suc, ◌≤◌, Bool, true, false, List, [], ◌∷◌, map, Option, Some, None, Result, Ok, Err, refl, sym, ap, ◌∙◌, subst}
use Rattle.std.specs.Prelude.{IfErr, nat_lt, slice_get, if◌then◌else◌}
use Rattle.std.proofs.lemmas.Bool.{le-ltb, ltb-false}
use Rattle.std.specs.Result.{IsErrAnd}
use Rattle.compile.specs.Compiled.{OnlyCompiled}
use Rattle.compile.specs.declared.compiling.Compiled.{Compiled}
use Rattle.scan_go.specs.declared.token.Token.{Token}
use Rattle.scan_go.specs.declared.fault.ScanFault.{ScanFault}
use Rattle.scan_go.specs.declared.fault.ScanFault.TheVariants as scan
use Rattle.scan_go.specs.Scan.{AreTokens}
use Rattle.scan_go.specs.TokenList.{TokenList}
use Rattle.parse_go.specs.declared.fault.ParseFault.{ParseFault}
use Rattle.parse_go.specs.declared.fault.ParseFault.TheVariants as parse
use Rattle.syntax.specs.Declarations.{Syntax}
use Rattle.parse_go.specs.Grammar.{IsText}
use Rattle.parse_go.specs.Faults.{GivesTree}
use Rattle.type_faults.specs.declared.fault.TypeFault.{TypeFault}
use Rattle.type_faults.specs.declared.fault.TypeFault.TheVariants as typing
use Rattle.types_go.specs.Checked.{Types, Reports, OnlyProgram}
use Rattle.typed_syntax.specs.Syntax.{Func, Program}
use Rattle.typed.specs.View.{func_of, program_of}
use Rattle.frames.specs.Placement.{Placement, coarse}
use Rattle.frames.specs.Frames.{frame_of}
use Rattle.typed.specs.declared.program.Func.{Func as FuncData}
use Rattle.typed.specs.declared.program.Program.{Program as ProgramData}
use Rattle.frame_layout.specs.declared.fault.LayoutFault.{LayoutFault}
use Rattle.frame_layout.specs.declared.fault.LayoutFault.TheVariants as layout
use Rattle.frame_layout.specs.Layout.{Large, or_else, first_too_large, IsTooLarge}
use Rattle.compile.specs.Accepted.{HasTree, HasProgram, Accepted, StandAtNames, Refuses}
use Rattle.compile.specs.Faults.{of_scan, of_parse, of_typing, of_layout}
use Rattle.compile.specs.declared.fault.CompileFault.{CompileFault}
use Rattle.compile.specs.declared.fault.CompileFault.TheVariants.{NoMemory}

-- all frames keep the size
record Fits (p : Program) : Type 0 where
  all : (f : ℕ) (func : Func) → slice_get p.funcs f ≡ Some func → frame_of p (coarse p) func ≤ 65535

none_large : (p : Program) (pl : Placement) (gs : List FuncData) → ((f : ℕ) (func : Func) → slice_get (map (func_of p.types) gs) f ≡ Some func → frame_of p pl func ≤ 65535) → first_too_large p pl gs ≡ None
none_large p pl [] fits = refl
none_large p pl (g ∷ gs) fits =
    let small : nat_lt 65535 (frame_of p pl (func_of p.types g)) ≡ false = le-ltb 65535 (frame_of p pl (func_of p.types g)) (fits 0 (func_of p.types g) refl) in
    ap (λ (b : Bool). or_else (if b then Some (record { pos = g.pos; words = frame_of p pl (func_of p.types g) }) else None) (first_too_large p pl gs)) small
    ∙ none_large p pl gs (λ f func is. fits (suc f) func is)

or_none : (k l : Option Large) → or_else k l ≡ None → (k ≡ None) × (l ≡ None)
or_none None l h = (refl, h)
or_none (Some k) l h = absurd cc

not_large : (test : Bool) (k : Large) → (if test then Some k else None) ≡ None → test ≡ false
not_large true k h = absurd cc
not_large false k h = refl

-- where no frame is too large, all keep the size
pub fits_all : (p : Program) (pl : Placement) (gs : List FuncData) → first_too_large p pl gs ≡ None → (f : ℕ) (func : Func) → slice_get (map (func_of p.types) gs) f ≡ Some func → frame_of p pl func ≤ 65535
fits_all p pl [] none f func is = absurd cc
fits_all p pl (g ∷ gs) none zero func is =
    let both = or_none _ (first_too_large p pl gs) none in
    let small = not_large (nat_lt 65535 (frame_of p pl (func_of p.types g))) _ both.0 in
    let same : func_of p.types g ≡ func = cc in
    subst (λ (h : Func). frame_of p pl h ≤ 65535) same (ltb-false 65535 (frame_of p pl (func_of p.types g)) small)
fits_all p pl (g ∷ gs) none (suc f) func is = fits_all p pl gs (or_none _ (first_too_large p pl gs) none).1 f func is

module _ (text : List ℕ) where
  -- the scanner: an accepted text has tokens
  pub scan_only : (f : ScanFault) → ((list : List Token) → AreTokens text list → f ≡ scan.NoMemory) → (p : Program) → Accepted text p → of_scan f ≡ NoMemory
  scan_only f only p a = ap of_scan (only a.program.has.tokens a.program.has.are)

  module _ (list : List Token) (one_list : (other : List Token) → AreTokens text other → list ≡ other) where
    same_tokens : (tree : Syntax) → HasTree text tree → IsText text list tree
    same_tokens tree has = subst (λ l. IsText text l tree) (sym (one_list has.tokens has.are)) has.is

    no_tree : (f : ParseFault) (tree : Syntax) → GivesTree (Err f) tree → of_parse f ≡ NoMemory
    no_tree parse.NoMemory tree g = refl
    no_tree (parse.Unexpected at) tree g = absurd g
    no_tree (parse.TooDeep at) tree g = absurd g

    -- the parser: an accepted text's tokens have a tree
    pub parse_only : (f : ParseFault) → ((tree : Syntax) → IsText text list tree → GivesTree (Err f) tree) → (p : Program) → Accepted text p → of_parse f ≡ NoMemory
    parse_only f only p a = no_tree f a.program.tree (only a.program.tree (same_tokens a.program.tree a.program.has))

    module _ (tree : Syntax) (one_tree : (other : Syntax) → IsText text list other → tree ≡ other) where
      -- an accepted text's tree is this one
      same_types : (p : Program) → HasProgram text p → Types tree p
      same_types p has = subst (λ t. Types t p) (sym (one_tree has.tree (same_tokens has.tree has.has))) has.types

      no_program : (f : TypeFault) (p : Program) → OnlyProgram (Err f) p → of_typing f ≡ NoMemory
      no_program typing.NoMemory p o = refl
      no_program (typing.Fault f) p o = absurd o

      -- the checker: an accepted text's tree has a program
      pub type_only : (f : TypeFault) → ((p : Program) → Types tree p → OnlyProgram (Err f) p) → (p : Program) → Accepted text p → of_typing f ≡ NoMemory
      type_only f only p a = no_program f p (only p (same_types p a.program))

      -- and this one
      pub program_only : (q : ProgramData) → ((p : Program) → Types tree p → program_of q ≡ p) → (p : Program) → Accepted text p → program_of q ≡ p
      program_only q only p a = only p (same_types p a.program)

      -- the layout: an accepted text's frames fit
      pub layout_only : (q : ProgramData) (f : LayoutFault) → ((p : Program) → Types tree p → program_of q ≡ p) → IsTooLarge (first_too_large (program_of q) (coarse (program_of q)) q.funcs.items) f → (p : Program) → Accepted text p → of_layout f ≡ NoMemory
      layout_only q layout.NoMemory only large p a = refl
      layout_only q (layout.FrameTooLarge at words) only large p a =
          let is : program_of q ≡ p = program_only q only p a in
          let fits : Fits (program_of q) = subst Fits (sym is) (record { all = a.fits }) in
          let none = none_large (program_of q) (coarse (program_of q)) q.funcs.items fits.all in
          absurd (let e = sym none ∙ large in cc)

  -- what the checker refuses
  pub type_refuses : (tree : Syntax) (f : TypeFault) → HasTree text tree → Reports tree f → Refuses text (of_typing f)
  type_refuses tree typing.NoMemory has least = tt
  type_refuses tree (typing.Fault f) has least = record { tree = tree; has = has; least = least; fault = λ e. cc e }

  -- what the layout refuses
  pub layout_refuses : (tree : Syntax) (q : ProgramData) (f : LayoutFault) → HasTree text tree → Types tree (program_of q) → StandAtNames q tree → IsTooLarge (first_too_large (program_of q) (coarse (program_of q)) q.funcs.items) f → Refuses text (of_layout f)
  layout_refuses tree q layout.NoMemory has types names large = tt
  layout_refuses tree q (layout.FrameTooLarge at words) has types names large = record { tree = tree; has = has; program = q; types = types; names = names; large = large; fault = λ e. cc e }

-- a stage's fault that came through, as the compiler's answer
pub only_err : (r : Result Compiled CompileFault) (e : CompileFault) → IsErrAnd r (λ x. x ≡ e) → (p : Program) → e ≡ NoMemory → OnlyCompiled r p
only_err (Ok c) e is p h = absurd is
only_err (Err x) e is p h = is ∙ h

pub refused_err : (text : List ℕ) (r : Result Compiled CompileFault) (e : CompileFault) → IsErrAnd r (λ x. x ≡ e) → Refuses text e → IfErr r (Refuses text)
refused_err text (Ok c) e is h = tt
refused_err text (Err x) e is h = subst (Refuses text) (sym is) h

-- what the scanner and the parser answer is a tree of the text
pub has_tree : (text : List ℕ) (tokens : TokenList) (tree : Syntax) → AreTokens text tokens.list → tokens.text ≡ text → IsText tokens.text tokens.list tree → HasTree text tree
has_tree text tokens tree are same is = record { tokens = tokens.list; are = are; is = subst (λ t. IsText t tokens.list tree) same is }
