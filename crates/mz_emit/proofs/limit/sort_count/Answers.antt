use Rattle.std.proofs.Common.{◌≡◌, ◌∷◌, [], length, ap, arith}
use Rattle.mz_logic_theory.specs.DeclView.{declaration}
use Rattle.mz_logic_theory.specs.Declaration.{sorts}
use Rattle.mz_type.specs.TypedText.{statement_at}
use Rattle.mz_emit.proofs.Limiting.{told_of, sorts_cut}
use Rattle.mz_emit.proofs.limit.sort_count.Goals as goal

pub loop-i-preserved : goal.loop-i-preserved
loop-i-preserved c =
    let ss = c.args.text.now.statements in
    let cut = sorts_cut ss c.loop-i.i (omega (arith, c.loop-i-test.true, c.len-i-end.ensures.many)) in
    let is : length (sorts ((statement_at ss c.loop-i.i).decl ∷ [])) ≡ length (sorts (declaration c.decl.result.now ∷ []))
    = ap (λ d. length (sorts (d ∷ []))) (told_of (λ s. s.decl) ss c.loop-i.i (declaration c.decl.result.now) c.decl.ensures) in
    record {
      count = omega (arith, cut, is, c.loop-i.invariant.count, c.sorts_in-n.ensures.count);
      most = omega (arith, c.loop-i.invariant.most, c.sorts_in-n.ensures.most);
    }
