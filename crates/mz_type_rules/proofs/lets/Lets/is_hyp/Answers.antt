use Rattle.std.proofs.Common.{◌∙◌, sym, ap, length, arith}
use Rattle.mz_logic_theory.specs.Tree.{listed}
use Rattle.mz_type_rules.proofs.Keeping.{length-lets}
use Rattle.mz_type_rules.proofs.lets.Lets.is_hyp.Goals as goal

pub is_hyp_of-requires-clause-claim : goal.is_hyp_of-requires-clause-claim
is_hyp_of-requires-clause-claim c =
    let s = c.args.self.now in
    let many = ap (λ z. length (listed z.lets)) (sym c.self.view_is) ∙ length-lets c.self.inside.visible.items in
    c.requires.claim ∙ sym (c.in_ok-proof.ensures s.env s.hyps s.lets (omega (arith, many, c.len.ensures)))
