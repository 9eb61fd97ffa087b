use Rattle.std.proofs.Common.{refl, arith}
use Rattle.explain.proofs.Texts.{params_turn, params_fit}
use Rattle.explain.proofs.tags.put_params.Goals as goal

pub loop-param-preserved : goal.loop-param-preserved
loop-param-preserved c =
    let f = c.args.func in
    let j = c.loop-param.param in
    let params = c.args.params.now in
    let tags = c.args.tags.now in
    let put = c.in_ok-put_param.ensures in
    let old = c.loop-param.invariant in
    record {
      text = params_turn f params tags j _ c.loop-param.text.items c.put_param.new.text.items _ refl c.loop-param-test.true put.text old.text;
      fits = λ few most left. old.fits few most (params_fit f params tags j _ refl c.loop-param-test.true (put.fits few (omega arith)) left);
    }
