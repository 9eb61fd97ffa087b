use Rattle.std.proofs.Common.{◌≡◌, [], ◌++◌, take, drop, map, Option, sym, ap}
use Rattle.std.proofs.lemmas.List.{append-nil}
use Rattle.std.proofs.lemmas.Result.{on_ok_weaker}
use Rattle.value_flows.specs.Syntax.{Func}
use Rattle.value_flows.specs.View.{program_of, result_of}
use Rattle.escape_graph.specs.Locations.{func_locations, locations_in, sites_from, unnamed}
use Rattle.escape_graph.proofs.Chained.{two_lists}
use Rattle.escape_graph.proofs.locations.add_func.Goals as goal

pub returns-in-None : goal.returns-in-None
returns-in-None c =
    let p = program_of c.args.program.now in
    let none : func_locations p c.args.f ≡ [] = ap (λ (o : Option Func). locations_in p c.args.f o) (sym c.in-None.ensures) in
    rw none (sym (append-nil c.args.locations.now.items))

pub returns-in_ok-add_sites-in-Some : goal.returns-in_ok-add_sites-in-Some
returns-in_ok-add_sites-in-Some c =
    let p = program_of c.args.program.now in
    let func = c.in-Some.func.now in
    let sites = sites_from func.first_site (take func.sites (drop func.first_site c.args.program.now.sites.items)) in
    let results = unnamed c.args.f 0 (map result_of func.results.items) in
    let all = func_locations p c.args.f in
    let whole : all ≡ sites ++ results = ap (λ (o : Option Func). locations_in p c.args.f o) (sym c.in-Some.ensures) in
    let first = rw (c.sites_of.ensures, c.deref.ensures.value) at c.in_ok-add_sites-in-Some.ensures in
    let second = rw c.deref-in-Some.ensures.value at c.add_unnamed.ensures in
    on_ok_weaker c.add_unnamed.result (λ last. two_lists c.args.locations.now.items c.add_sites.new.locations.items c.add_unnamed.new.locations.items sites results all first last whole) second
