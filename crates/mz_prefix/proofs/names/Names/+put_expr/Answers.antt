use Rattle.std.proofs.Common.{◌∙◌, sym, ap, arith, append_assoc}
use Rattle.mz_logic_theory.proofs.Offered.{past-end}
use Rattle.mz_prefix.specs.Names.{spoken}
use Rattle.mz_prefix.proofs.Parts.{all-written, part-written, operands_text, operands-cut, enclosed-is}
use Rattle.mz_prefix.proofs.names.Names.+put_expr.Goals as goal

pub put_operands-put_operand-requires : goal.put_operands-put_operand-requires
put_operands-put_operand-requires t c = omega (arith, c.at.ensures.within, c.decreases)

pub put_operands-loop-i-preserved : goal.put_operands-loop-i-preserved
put_operands-loop-i-preserved t c =
    part-written _ _ _ _ _ _ (operands-cut (spoken c.args.self.now) _ _ c.at.result c.at.ensures.left) c.loop-i.invariant c.in_ok-put_operand.ensures

pub put_operands-returns : goal.put_operands-returns
put_operands-returns t c =
    all-written _ _ _
    (ap (operands_text (spoken c.args.self.now)) (past-end c.args.es.now c.loop-i.i (omega (arith, c.len-i-end.ensures, c.loop-i-test.false)))) c.loop-i.invariant

pub put_operand-returns : goal.put_operand-returns
put_operand-returns t c =
    rw (enclosed-is (spoken c.args.self.now) c.args.expr.now (sym c.has_operands.ensures ∙ c.if-not-has_operands.false))
    (c.in_ok-put_token-2.ensures ∙ rw c.in_ok-put_expr.ensures (rw c.in_ok-put_token.ensures (simp append_assoc)))
