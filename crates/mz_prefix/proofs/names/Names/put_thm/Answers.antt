use Rattle.mz_logic_theory.specs.DeclView.{assertion_view}
use Rattle.mz_prefix.specs.Names.{spoken}
use Rattle.mz_prefix.proofs.LineTexts.{assertion-made}
use Rattle.mz_prefix.proofs.names.Names.put_thm.Goals as goal

pub returns : goal.returns
returns c =
    assertion-made (spoken c.args.self.now) c.args.name.now (assertion_view c.args.thm.now) c.keyword.result.now c.as_slice.result.now c.keyword.ensures c.as_slice.ensures
    c.args.out.now.items _ _ _ _ _ c.in_ok-put_head.ensures c.in_ok-put.ensures c.in_ok-put_hyps.ensures c.in_ok-put_formula.ensures c.in_ok-put-2.ensures
