-- From runs over terminals to faults at the positions of tokens.
use Rattle.std.proofs.Common.{◌≡◌, ℕ, zero, suc, ◌+◌, ◌<◌, ◌≤◌, List, [], ◌∷◌, ◌++◌, length, take, get_or, Option, Some, None, refl, sym, ap, subst, ◌∙◌, arith}
use Rattle.std.specs.Prelude.{IsSome, Result, Ok, Err, IsErrAnd}
use Rattle.std.proofs.lemmas.List.{take_more, length-map}
use Rattle.std.proofs.Math.ListN.{get_or-map}
use Rattle.base.specs.declared.pos.Pos.{Pos}
use Rattle.scan_go.specs.declared.token.Token.{Token}
use Rattle.syntax.specs.declared.limit.TheConstants.{NESTING_LIMIT}
use Rattle.syntax.specs.declared.declaration.Tree.{Tree}
use Rattle.syntax.specs.Declarations.{File, Syntax}
use Rattle.parse_expressions.specs.declared.fault.StepFault.{StepFault}
use Rattle.parse_expressions.specs.declared.fault.StepFault.TheVariants as step_fault
use Rattle.parse_expressions.specs.declared.terminal.Terminal.{Terminal}
use Rattle.parse_expressions.specs.Terminals.{terminal_of, terminals_of}
use Rattle.parse_go.specs.declared.fault.ParseFault.{ParseFault}
use Rattle.parse_go.specs.declared.fault.ParseFault.TheVariants as fault
use Rattle.parse_go.specs.Grammar.{IsProgram, IsText}
use Rattle.parse_go.specs.Faults.{IsTooDeep, IsFirstFault, pos_in, GivesTree}
use Rattle.parse_go.specs.Machine.{State, at_declaration, step, nesting}
use Rattle.parse_go.specs.States.{FailsStep, fault_at, HasOneFile}
use Rattle.parse_go.proofs.Runs.{ReachedAt, more_read, stopped, too_deep, ended, found_program, found_only, unexpected_none, deep_none}

pos_more : (tokens : List Token) (end : Pos) (i : ℕ) (d : Token) → i < length tokens → (get_or tokens i d).pos ≡ pos_in tokens end i
pos_more [] end i d lt = absurd (omega arith)
pos_more (t ∷ ts) end zero d lt = refl
pos_more (t ∷ ts) end (suc i) d lt = pos_more ts end i d (omega arith)

pos_all : (tokens : List Token) (end : Pos) (i : ℕ) → length tokens ≤ i → end ≡ pos_in tokens end i
pos_all [] end i le = refl
pos_all (t ∷ ts) end zero le = absurd (omega arith)
pos_all (t ∷ ts) end (suc i) le = pos_all ts end i (omega arith)

terminals_length : (tokens : List Token) → length (terminals_of tokens) ≡ length tokens
terminals_length tokens = length-map tokens terminal_of

next_terminal : (tokens : List Token) (i : ℕ) (d : Token) → i < length tokens → take (i + 1) (terminals_of tokens) ≡ take i (terminals_of tokens) ++ terminal_of (get_or tokens i d) ∷ []
next_terminal tokens i d lt =
    let within : i < length (terminals_of tokens) = omega (arith, terminals_length tokens) in
    take_more (terminals_of tokens) i (terminal_of d) within ∙ ap (λ (t : Terminal). take i (terminals_of tokens) ++ t ∷ []) (get_or-map terminal_of tokens i d)

module _ (tokens : List Token) (end : Pos) where
  module _ (i : ℕ) (d : Token) (t : Terminal) (is_t : t ≡ terminal_of (get_or tokens i d)) (s : State) (lt : i < length tokens) (r : ReachedAt (terminals_of tokens) i s) where
    within : i < length (terminals_of tokens)
    within = omega (arith, terminals_length tokens)

    grown : take (i + 1) (terminals_of tokens) ≡ take i (terminals_of tokens) ++ t ∷ []
    grown = next_terminal tokens i d lt ∙ ap (λ (x : Terminal). take i (terminals_of tokens) ++ x ∷ []) (sym is_t)

    pub token_read : (n : State) → step s t ≡ Some n → nesting s t ≤ NESTING_LIMIT → ReachedAt (terminals_of tokens) (i + 1) n
    token_read = more_read (terminals_of tokens) i t s within grown r

    pub token_failed : (e : StepFault) → FailsStep e (step s t) (nesting s t) → IsFirstFault tokens end (fault_at e (get_or tokens i d).pos)
    token_failed step_fault.NoMemory f = tt
    token_failed step_fault.Unexpected f = (i, pos_more tokens end i d lt, stopped (terminals_of tokens) i t s within grown r f)
    token_failed step_fault.TooDeep f = (i, pos_more tokens end i d lt, some_deep (step s t) refl f.1)
      where
        some_deep : (then : Option State) → step s t ≡ then → IsSome then → IsTooDeep (terminals_of tokens) i
        some_deep None is h = absurd cc
        some_deep (Some n) is h = too_deep (terminals_of tokens) i t s within grown r n is f.0

  module _ (i : ℕ) (s : State) (within : i ≤ length tokens) (le : length tokens ≤ i) (r : ReachedAt (terminals_of tokens) i s) where
    all_read : length (terminals_of tokens) ≤ i
    all_read = omega (arith, terminals_length tokens)

    pub end_failed : ((f : File) → s ≡ at_declaration f → ⊥) → IsFirstFault tokens end (fault.Unexpected end)
    end_failed other = (i, pos_all tokens end i le, ended (terminals_of tokens) i s (omega (arith, terminals_length tokens)) all_read r other)

    pub end_found : (f : File) → s ≡ at_declaration f → IsProgram (terminals_of tokens) f
    end_found f is = found_program (terminals_of tokens) i s f all_read is r

    pub end_only : (f : File) → s ≡ at_declaration f → HasOneFile (terminals_of tokens) f
    end_only f is = found_only (terminals_of tokens) i s f all_read is r

-- a fault rules a tree out
fault_none : (text : List ℕ) (tokens : List Token) (end : Pos) (e : ParseFault) (tree : Syntax) → IsFirstFault tokens end e → IsText text tokens tree → GivesTree (Err e) tree
fault_none text tokens end fault.NoMemory tree f h = tt
fault_none text tokens end (fault.Unexpected pos) tree f h = unexpected_none (terminals_of tokens) f.0 _ f.2 h.1
fault_none text tokens end (fault.TooDeep pos) tree f h = deep_none (terminals_of tokens) f.0 _ f.2 h.1

-- the same where the tokens were handed in by another name
pub fault_only : (text : List ℕ) (list tokens : List Token) (end : Pos) (e : ParseFault) (answer : Result Tree ParseFault) → list ≡ tokens → IsErrAnd answer (λ x. x ≡ e) → IsFirstFault list end e → (tree : Syntax) → IsText text tokens tree → GivesTree answer tree
fault_only text list tokens end e (Ok t) is_tokens is f tree h = absurd is
fault_only text list tokens end e (Err x) is_tokens is f tree h =
    subst (λ (r : ParseFault). GivesTree (Err r) tree) (sym is) (fault_none text list end e tree f (subst (λ (x : List Token). IsText text x tree) (sym is_tokens) h))

-- the tokens have one tree, so it is one with the same text
pub tree_only : (text : List ℕ) (list tokens : List Token) (answer tree : Syntax) → list ≡ tokens → answer.text ≡ text → HasOneFile (terminals_of list) answer.file → IsText text tokens tree → answer ≡ tree
tree_only text list tokens answer tree is_tokens is one h =
    let program : IsProgram (terminals_of list) tree.file = subst (λ (x : List Token). IsProgram (terminals_of x) tree.file) (sym is_tokens) h.1 in
    let same : answer.file ≡ tree.file = one tree.file program in
    let same_text : answer.text ≡ tree.text = is ∙ sym h.0 in
    ap (λ (x : List ℕ). record { text = x; file = answer.file }) same_text ∙ ap (λ (f : File). record { text = tree.text; file = f }) same
