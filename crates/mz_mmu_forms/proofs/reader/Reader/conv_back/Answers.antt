use Rattle.std.proofs.Common.{sym, subst, refl}
use Rattle.mz_logic_theory.specs.Conversions.{sym_conv, unfold_conv, no_convs}
use Rattle.mz_mmu_theory.specs.Proofs.{IsConv}
use Rattle.mz_mmu_theory.specs.FormOrder.{conv_asked}
use Rattle.mz_mmu_theory.specs.ConvView.{conversion}
use Rattle.mz_mmu_forms.specs.ConvSteps.{conv_left, ConvWaits}
use Rattle.mz_mmu_theory.specs.Cursor.{IsThere}
use Rattle.mz_mmu_forms.proofs.ConvNesting.{one_more, next_says}
use Rattle.mz_mmu_forms.proofs.reader.Reader.conv_back.Goals as goal

pub returns-in_ok-part-in-Sym-clause-says : goal.returns-in_ok-part-in-Sym-clause-says
returns-in_ok-part-in-Sym-clause-says c = λ sc m inner waits read.
    let w = subst (ConvWaits sc c.args.self.now.nodes.now (IsConv sc m) (conv_asked sc m) inner) c.in-Sym.is waits in
    subst (λ d. IsConv sc m (sym_conv d)) (sym c.in_ok-part-in-Sym.ensures) (w.made (conversion c.args.conv) no_convs read refl)

pub returns-in_ok-part-in-Unfold-clause-says : goal.returns-in_ok-part-in-Unfold-clause-says
returns-in_ok-part-in-Unfold-clause-says c = λ sc m inner waits read.
    let w = subst (ConvWaits sc c.args.self.now.nodes.now (IsConv sc m) (conv_asked sc m) inner) c.in-Unfold.is waits in
    subst (λ d. IsConv sc m (unfold_conv c.in-Unfold.term c.in-Unfold.operands c.in-Unfold.vars d)) (sym c.in_ok-part-in-Unfold.ensures) (w.made (conversion c.args.conv) no_convs read refl)

pub returns-in_ok-push_tightly-in-Cong-clause-says : goal.returns-in_ok-push_tightly-in-Cong-clause-says
returns-in_ok-push_tightly-in-Cong-clause-says c = λ sc m inner waits read.
    let all = c.args.self.now.nodes.now in
    let w = subst (ConvWaits sc all (IsConv sc m) (conv_asked sc m) inner) c.in-Cong.is waits in
    next_says sc all (IsConv sc m) (conv_asked sc m) c.in-Cong.term c.push_tightly.new.items.items c.in-Cong.left c.next_conv.result
    (one_more sc all (IsConv sc m) (conv_asked sc m) inner c.in-Cong.term c.in-Cong.convs.items c.push_tightly.new.items.items c.in-Cong.left c.args.conv c.in_ok-push_tightly-in-Cong.ensures.ok
    w.made w.stops_behind read)
    w.there c.next_conv.ensures

pub next_conv-requires : goal.next_conv-requires
next_conv-requires c = subst (λ o. IsThere c.args.self.now.nodes.now (conv_left o)) c.in-Cong.is c.requires
