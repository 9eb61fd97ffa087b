use Rattle.std.proofs.Common.{◌≡◌, ◌<◌, ℕ, List, length, get_or, sym, subst, ◌∙◌, arith}
use Rattle.std.specs.List.{Contains}
use Rattle.std.specs.Prelude.{vec_len}
use Rattle.std.proofs.lemmas.List.{length-map}
use Rattle.std.proofs.lemmas.List.Elements.{Contains-get_or}
use Rattle.base.specs.declared.ids.FuncId.{FuncId}
use Rattle.value_flows.specs.View.{func_of, program_of, tags_of}
use Rattle.escape_graph.specs.Edges.{batch_edges}
use Rattle.param_tags.specs.Order.{BatchFits}
use Rattle.param_tags.specs.Paths.{KeepsPaths}
use Rattle.param_tags.specs.Solved.{Solves}
use Rattle.param_tags.proofs.Batches.{batch_fits}
use Rattle.param_tags.proofs.Going.{lists, written_back, begins, place, goes_on, ends, tags_within}
use Rattle.param_tags.proofs.Traced.{traced_none, traces_on, traced_all}
use Rattle.param_tags.proofs.solving.solve.Goals as goal

pub loop-batch-init : goal.loop-batch-init
loop-batch-init c =
    let p = program_of c.args.program.now in
    let T = tags_of c.in_ok-tags.tags in
    let H = c.in_ok-placed.placed.items in
    let whole : length p.funcs ≡ length c.args.program.now.funcs.items = length-map c.args.program.now.funcs.items func_of in
    let size : length T ≡ length p.funcs = c.in_ok-tags.ensures.size ∙ omega arith in
    let sites : length c.in_ok-paths.paths.items ≡ length p.sites = c.in_ok-paths.ensures ∙ omega arith in
    record {
      done = begins p (lists c.args.batches.now) T H size c.in_ok-tags.ensures.none c.in_ok-placed.ensures;
      traced = traced_none p T H c.in_ok-paths.paths.items c.in_ok-placed.ensures sites;
    }

pub solve_batch-requires-clause-fits : goal.solve_batch-requires-clause-fits
solve_batch-requires-clause-fits c =
    let p = program_of c.args.program.now in
    let x = c.batch-item.result in
    let fits : BatchFits p x.items = batch_fits p (lists c.args.batches.now) c.requires.order c.requires.formed c.loop-batch.batch-index x.items (place c.args.batches.now c.loop-batch.batch-index x c.loop-batch-test.true c.batch-item.is) in
    subst (λ (b : List FuncId). BatchFits p b) (sym c.deref.ensures.value) fits

pub solve_batch-requires-clause-tags : goal.solve_batch-requires-clause-tags
solve_batch-requires-clause-tags c =
    let p = program_of c.args.program.now in
    let x = c.batch-item.result in
    λ k d within. subst (λ (n : ℕ). (get_or c.deref.result.now k d).0 < n) (sym c.loop-batch.invariant.done.tags) (tags_within p c.args.batches.now c.loop-batch.batch-index x c.loop-batch-test.true c.batch-item.is c.requires.order (get_or c.deref.result.now k d) (subst (λ (b : List FuncId). Contains b (get_or c.deref.result.now k d)) c.deref.ensures.value (Contains-get_or c.deref.result.now k d within)))

pub loop-batch-preserved : goal.loop-batch-preserved
loop-batch-preserved c =
    let p = program_of c.args.program.now in
    let batches = c.args.batches.now in
    let i = c.loop-batch.batch-index in
    let x = c.batch-item.result in
    let b = c.deref.result.now in
    let T = tags_of c.loop-batch.tags in
    let H = c.loop-batch.placed.items in
    let old = c.loop-batch.paths.items in
    let U = tags_of c.solve_batch.new.tags in
    let G = c.solve_batch.new.placed in
    let new = c.solve_batch.new.paths in
    let solved : Solves p b T H U G = rw c.deref_mut.ensures.value at c.in_ok-solve_batch.ensures.solves in
    let kept : KeepsPaths (batch_edges p T b) H G old new = rw (c.deref_mut.ensures.value, c.deref_mut-in-loop-batch.ensures.value) at c.in_ok-solve_batch.ensures.paths in
    let size : length new ≡ length old = rw c.deref_mut-in-loop-batch.ensures.value at c.in_ok-solve_batch.ensures.size in
    let placed : length G ≡ length H = solved.joined.joins.size in
    let done = goes_on p batches i x b c.deref.ensures.value c.loop-batch-test.true c.batch-item.is c.requires.order c.requires.formed T U H G c.loop-batch.invariant.done solved in
    let traced = traces_on p batches i x b c.deref.ensures.value c.loop-batch-test.true c.batch-item.is c.requires.order T U H G old new solved.others size kept c.loop-batch.invariant.traced in
    let whole_homes : vec_len c.loop-batch.placed ≡ length H = omega arith in
    let whole_paths : vec_len c.loop-batch.paths ≡ length old = omega arith in
    record {
      done = rw (written_back G H (vec_len c.loop-batch.placed) whole_homes placed) done;
      traced = rw (written_back G H (vec_len c.loop-batch.placed) whole_homes placed, written_back new old (vec_len c.loop-batch.paths) whole_paths size) traced;
    }

pub returns-clause-solution : goal.returns-clause-solution
returns-clause-solution c = ends (program_of c.args.program.now) c.args.batches.now c.loop-batch.batch-index (tags_of c.loop-batch.tags) c.loop-batch.placed.items c.requires.order c.requires.formed c.loop-batch-test.false c.loop-batch.invariant.done

pub returns-clause-paths : goal.returns-clause-paths
returns-clause-paths c = traced_all (program_of c.args.program.now) c.args.batches.now c.loop-batch.batch-index (tags_of c.loop-batch.tags) c.loop-batch.placed.items c.loop-batch.paths.items c.loop-batch-test.false c.loop-batch.invariant.traced
