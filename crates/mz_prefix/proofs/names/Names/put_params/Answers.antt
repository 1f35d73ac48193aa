use Rattle.mz_prefix.specs.Names.{spoken}
use Rattle.mz_prefix.proofs.Parts.{part-added, params_text, param_text, params-cut}
use Rattle.mz_prefix.proofs.names.Names.put_params.Goals as goal

pub loop-x-preserved : goal.loop-x-preserved
loop-x-preserved c =
    let v = spoken c.args.self.now in
    part-added (params_text v) (param_text v) (params-cut v) _ _ _ c.args.params.now c.loop-x.x c.index-params-x.result c.loop-x-test.true c.index-params-x.is c.loop-x.invariant c.in_ok-put_param.ensures
