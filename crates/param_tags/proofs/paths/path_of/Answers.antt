use Rattle.std.proofs.Common.{List, Option, Some, negsuc, sym, ◌∙◌}
use Rattle.std.specs.Prelude.{Vec}
use Rattle.std.proofs.lemmas.Result.{IfOk-weaker}
use Rattle.std.specs.declared.alloc.Global.{Global}
use Rattle.deref_walk.specs.declared.graph.Edge.{Edge}
use Rattle.deref_walk.specs.declared.loc.Loc.{Loc}
use Rattle.deref_walk.specs.declared.levels.Step.{Step}
use Rattle.deref_walk.specs.Flow.{IsLeast, IsPathTo}
use Rattle.deref_walk.specs.Found.{IsWalked}
use Rattle.escape_graph.specs.Targets.{site}
use Rattle.param_tags.specs.Walks.{AreWalked}
use Rattle.param_tags.specs.Paths.{IsPath}
use Rattle.param_tags.proofs.Steps.{path_by, none_more, no_walk}
use Rattle.param_tags.proofs.paths.path_of.Goals as goal

pub returns-then-is_same : goal.returns-then-is_same
returns-then-is_same c =
    let w = c.w-item.result in
    let h = c.args.hold.now in
    IfOk-weaker c.path.result
    (λ (o : Option (Vec Step Global)). (edges : List Edge) (root : Loc) → IsWalked edges root w.levels.found.items → IsPathTo edges root (site h.site.0) o)
    (λ (o : Option (Vec Step Global)). (edges : List Edge) → AreWalked edges c.args.walks.now → IsLeast edges h.root (site h.site.0) (Some (negsuc 0)) → IsPath edges h.root h.site.0 o)
    (λ o path. path_by c.args.walks.now c.loop-w.w-index w c.loop-w-test.true c.w-item.is h.root (sym c.is_same.ensures ∙ c.if-is_same.true) h.site.0 o path)
    c.path.ensures

pub loop-w-preserved : goal.loop-w-preserved
loop-w-preserved c = none_more c.args.walks.now c.loop-w.w-index c.w-item.result c.loop-w-test.true c.w-item.is c.args.hold.now.root (sym c.is_same.ensures ∙ c.if-is_same.false) c.loop-w.invariant

pub returns : goal.returns
returns c = no_walk c.args.walks.now c.loop-w.w-index c.args.hold.now.root c.args.hold.now.site.0 c.loop-w-test.false c.loop-w.invariant
