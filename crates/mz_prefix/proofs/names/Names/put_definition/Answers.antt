use Rattle.mz_logic_theory.specs.DeclView.{signature}
use Rattle.mz_logic_theory.specs.View.{tree}
use Rattle.mz_prefix.specs.Names.{spoken}
use Rattle.mz_prefix.proofs.LineTexts.{definition-made}
use Rattle.mz_prefix.proofs.names.Names.put_definition.Goals as goal

pub returns : goal.returns
returns c =
    definition-made (spoken c.args.self.now) c.args.name.now (signature c.args.term.now) c.args.dummies.now (tree c.args.body.now) c.as_slice.result.now c.as_slice-2.result.now
    c.as_slice.ensures c.as_slice-2.ensures c.args.out.now.items _ _ _ _ _ _ c.in_ok-put_head.ensures c.in_ok-put.ensures
    c.in_ok-put_type.ensures c.in_ok-put-2.ensures c.in_ok-put_formula.ensures c.in_ok-put-3.ensures
