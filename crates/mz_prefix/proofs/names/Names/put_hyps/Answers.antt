use Rattle.std.proofs.Common.{◌∙◌, ◌++◌, ap, sym, arith}
use Rattle.mz_base.proofs.Offered.{appended}
use Rattle.mz_logic_theory.proofs.Offered.{past-at, past-end}
use Rattle.mz_prefix.specs.NamedDeclarations.{formula_of}
use Rattle.mz_prefix.specs.Names.{spoken}
use Rattle.mz_prefix.proofs.Parts.{all-written, hyp-is, hyps-cut, hyps_text, part-written}
use Rattle.mz_prefix.proofs.names.Names.put_hyps.Goals as goal

pub loop-i-preserved : goal.loop-i-preserved
loop-i-preserved c =
    let v = spoken c.args.self.now in
    let hyp = c.at.result.now in
    let added = appended _ _ _ _ _ c.in_ok-put_formula.ensures c.in_ok-extend_from_slice.ensures.items ∙ ap (λ t. c.loop-i.out.items ++ t) (sym (hyp-is (formula_of v hyp))) in
    part-written _ _ _ _ _ _ (hyps-cut v _ _ hyp (past-at c.args.hyps.now c.loop-i.i hyp c.at.ensures)) c.loop-i.invariant added

pub returns : goal.returns
returns c =
    all-written _ _ _
    (ap (hyps_text (spoken c.args.self.now)) (past-end c.args.hyps.now c.loop-i.i (omega (arith, c.len-i-end.ensures, c.loop-i-test.false)))) c.loop-i.invariant
