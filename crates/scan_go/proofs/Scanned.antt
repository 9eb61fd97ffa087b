-- Only the tokens that are found are a text's tokens.
use Rattle.std.proofs.Common.{◌≡◌, ℕ, List, Result, Ok, Err, refl, sym, ap, ◌∙◌, arith}
use Rattle.scan_go.specs.declared.lexeme.Lexeme.{Lexeme}
use Rattle.scan_go.specs.declared.token.Token.{Token}
use Rattle.scan_go.specs.declared.fault.FaultKind.{FaultKind}
use Rattle.scan_go.specs.Tokens.{Lexes, Found}
use Rattle.scan_go.specs.Lines.{with_semicolons}
use Rattle.scan_go.specs.TokenList.{TokenList}
use Rattle.scan_go.specs.declared.fault.ScanFault.{ScanFault}
use Rattle.scan_go.specs.declared.fault.ScanFault.TheVariants as scan
use Rattle.scan_go.specs.Scan.{AreTokens, GivesTokens, OnlyTokens}
use Rattle.scan_go.proofs.Whole.{one_answer}

abbrev good : List Lexeme → Found
good ls = Ok ls

ok_same : (a b : List Lexeme) → good a ≡ good b → a ≡ b
ok_same a b e = cc

pub scanned_only : (text : List ℕ) (ls : List Lexeme) (tokens : List Token) → Lexes text (Ok ls) → AreTokens text tokens → with_semicolons text ls ≡ tokens
scanned_only text ls tokens found are = ap (with_semicolons text) (ok_same ls are.1.0 (one_answer text (Ok ls) (Ok are.1.0) found are.1.1)) ∙ sym are.1.2

pub fault_none : (text : List ℕ) (f : FaultKind) (n : ℕ) (tokens : List Token) → Lexes text (Err (f, n)) → AreTokens text tokens → ⊥
fault_none text f n tokens found are = let e : good are.1.0 ≡ Err (f, n) = one_answer text (Ok are.1.0) (Err (f, n)) are.1.1 found in cc

pub only_from : (text : List ℕ) (r : Result TokenList ScanFault) → GivesTokens r text → (tokens : List Token) → AreTokens text tokens → OnlyTokens r tokens
only_from text (Ok v) given tokens are = given.1.2 ∙ scanned_only text given.1.0 tokens given.1.1 are
only_from text (Err scan.NoMemory) given tokens are = refl
only_from text (Err (scan.TooLong pos)) given tokens are = absurd (omega (arith, given.0, are.0.0))
only_from text (Err (scan.NotUtf8 pos)) given tokens are = absurd (given.1 are.0.1)
only_from text (Err (scan.Fault kind pos)) given tokens are = absurd (fault_none text kind given.1.0 tokens given.1.1 are)
