use Rattle.std.proofs.Common.{arith}
use Rattle.parse_go.specs.Signatures.{file_in}
use Rattle.parse_go.specs.States.{state_of}
use Rattle.parse_expressions.specs.Terminals.{terminals_of}
use Rattle.parse_go.proofs.Runs.{from_start}
use Rattle.parse_go.proofs.Positions.{token_read, token_failed, end_failed, end_found, end_only}
use Rattle.parse_go.proofs.parsing.file_of.Goals as goal

pub loop-token-init : goal.loop-token-init
loop-token-init c = record { within = omega arith; reached = from_start (terminals_of c.args.tokens.now) }

pub loop-token-preserved : goal.loop-token-preserved
loop-token-preserved c = record {
  within = omega arith;
  reached = token_read c.args.tokens.now c.args.end c.loop-token.token-index _ c.terminal_of.result c.terminal_of.ensures (state_of c.loop-token.state) c.loop-token-test.true c.loop-token.invariant.reached (state_of c.in-Ok.next) c.in-Ok.ensures.0 c.in-Ok.ensures.1;
}

pub returns-in-Err-clause-fault : goal.returns-in-Err-clause-fault
returns-in-Err-clause-fault c = rw c.fault_at.ensures (token_failed c.args.tokens.now c.args.end c.loop-token.token-index _ c.terminal_of.result c.terminal_of.ensures (state_of c.loop-token.state) c.loop-token-test.true c.loop-token.invariant.reached c.in-Err.fault c.in-Err.ensures)

pub returns-in-Some-clause-found : goal.returns-in-Some-clause-found
returns-in-Some-clause-found c = end_found c.args.tokens.now c.args.end c.loop-token.token-index (state_of c.loop-token.state) c.loop-token.invariant.within c.loop-token-test.false c.loop-token.invariant.reached (file_in c.in-Some.file) c.in-Some.ensures

pub returns-in-Some-clause-one : goal.returns-in-Some-clause-one
returns-in-Some-clause-one c = end_only c.args.tokens.now c.args.end c.loop-token.token-index (state_of c.loop-token.state) c.loop-token.invariant.within c.loop-token-test.false c.loop-token.invariant.reached (file_in c.in-Some.file) c.in-Some.ensures

pub returns-in-None-clause-fault : goal.returns-in-None-clause-fault
returns-in-None-clause-fault c = end_failed c.args.tokens.now c.args.end c.loop-token.token-index (state_of c.loop-token.state) c.loop-token.invariant.within c.loop-token-test.false c.loop-token.invariant.reached c.in-None.ensures
