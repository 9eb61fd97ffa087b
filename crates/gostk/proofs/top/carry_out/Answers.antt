use Rattle.std.proofs.Common.{rules, ◌≡◌, ◌⊎◌, subst}
use Rattle.limits.specs.Limits.{Bounds}
use Rattle.typed_syntax.specs.Syntax.{Program}
use Rattle.gostk.specs.Words.{texts_of, bounds_of}
use Rattle.gostk.specs.Rows.{seen, streams, Reads, RanText, IsTextOf, Asking}
use Rattle.gostk.proofs.Runs.{allowed_by, asking_by}
use Rattle.gostk.proofs.top.carry_out.Goals as goal

pub returns-clause-allowed : goal.returns-clause-allowed
returns-clause-allowed g c =
    let words = texts_of c.args.words.now in
    let before = streams (g.O.Sink.taken c.args.out.now) (g.O.Sink.faults c.args.out.now) (g.I.Source.left c.args.input.now) (g.I.Source.faults c.args.input.now) in
    let after = streams (g.O.Sink.taken c.run_text.new.out) (g.O.Sink.faults c.run_text.new.out) (g.I.Source.left c.run_text.new.input) (g.I.Source.faults c.run_text.new.input) in
    let path = c.in-Ok.request.file.now in
    let text = c.deref.result.now in
    let reads : Reads (g.F.Files.content c.args.files.now) words path text = search rules in
    let files : g.F.Files.failed c.read_all.new.self ≡ g.F.Files.failed c.args.files.now = search rules in
    let ran : RanText path text (bounds_of words) c.run_text.result before after = search rules in
    allowed_by (seen (g.F.Files.content c.args.files.now) (g.F.Files.failed c.args.files.now) before) (seen (g.F.Files.content c.read_all.new.self) (g.F.Files.failed c.read_all.new.self) after)
    words path text reads files c.run_text.result ran

pub returns-clause-input : goal.returns-clause-input
returns-clause-input g c =
    let words = texts_of c.args.words.now in
    let before = streams (g.O.Sink.taken c.args.out.now) (g.O.Sink.faults c.args.out.now) (g.I.Source.left c.args.input.now) (g.I.Source.faults c.args.input.now) in
    let after = streams (g.O.Sink.taken c.run_text.new.out) (g.O.Sink.faults c.run_text.new.out) (g.I.Source.left c.run_text.new.input) (g.I.Source.faults c.run_text.new.input) in
    let path = c.in-Ok.request.file.now in
    let text = c.deref.result.now in
    let reads : Reads (g.F.Files.content c.args.files.now) words path text = search rules in
    let files : g.F.Files.failed c.read_all.new.self ≡ g.F.Files.failed c.args.files.now = search rules in
    let untouched = c.run_text.new.input ≡ c.args.input.now in
    let asked : untouched ⊎ ((p : Program) × IsTextOf text p × Asking p (bounds_of words) before.left) =
    subst (λ (b : Bounds). untouched ⊎ ((p : Program) × IsTextOf text p × Asking p b before.left)) c.in-Ok.ensures.limits c.run_text.ensures.input in
    asking_by (seen (g.F.Files.content c.args.files.now) (g.F.Files.failed c.args.files.now) before) (seen (g.F.Files.content c.read_all.new.self) (g.F.Files.failed c.read_all.new.self) after)
    words path text reads files untouched asked
