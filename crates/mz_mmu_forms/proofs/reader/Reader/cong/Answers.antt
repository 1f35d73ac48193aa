use Rattle.std.proofs.Common.{subst, []}
use Rattle.mz_sexpr.specs.Number.{node_at}
use Rattle.mz_mmu_theory.specs.Cursor.{nodes_from}
use Rattle.mz_mmu_theory.specs.Proofs.{IsConvBy}
use Rattle.mz_mmu_theory.specs.declared.keyword.Keyword.TheVariants.{Other as no_word}
use Rattle.mz_mmu_theory.specs.FormOrder.{conv_asked_by}
use Rattle.mz_mmu_forms.specs.ConvSteps.{IsNextConv}
use Rattle.mz_mmu_forms.specs.ScopeView.{scope}
use Rattle.mz_mmu_forms.proofs.ConvNesting.{cong_under_way, next_says, next_fewer}
use Rattle.mz_mmu_forms.proofs.reader.Reader.cong.Goals as goal

pub returns-clause-says : goal.returns-clause-says
returns-clause-says c = λ at.
    let all = c.args.self.now.nodes.now in
    let sc = scope c.args.sc.now in
    let h = node_at all c.args.head in
    let ns = nodes_from all c.args.rest in
    let t = c.in_ok-term.term in
    next_says sc all (IsConvBy sc no_word h ns) (conv_asked_by sc no_word at h ns) t [] c.args.rest c.next_conv.result
    (cong_under_way sc all at h t c.args.rest c.in_ok-term.ensures.read) c.requires.there
    (subst (λ cs. IsNextConv all t cs c.args.rest c.next_conv.result) c.new-convs.ensures.items c.next_conv.ensures)

pub returns-clause-less : goal.returns-clause-less
returns-clause-less c =
    next_fewer c.args.self.now.nodes.now c.in_ok-term.term c.new-convs.result.items c.args.rest c.next_conv.result c.next_conv.ensures
