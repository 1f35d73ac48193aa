use Rattle.std.proofs.Common.{◌++◌, ◌∙◌, sym, ap}
use Rattle.mz_base.proofs.Offered.{appended}
use Rattle.mz_prefix.specs.Names.{spoken}
use Rattle.mz_prefix.proofs.Parts.{binders-are}
use Rattle.mz_prefix.proofs.names.Names.put_binders.Goals as goal

pub returns : goal.returns
returns c =
    appended _ _ _ _ _ c.in_ok-put_params.ensures c.in_ok-put_dummies.ensures
    ∙ sym (ap (λ w. c.args.out.now.items ++ w) (binders-are (spoken c.args.self.now) c.args.params.now c.args.dummies.now))
