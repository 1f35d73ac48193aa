use Rattle.std.proofs.Common.{◌∙◌, ap, sym}
use Rattle.mz_sexpr.specs.Number.{node_at, nodes_after}
use Rattle.mz_mmu_theory.specs.Cursor.{nodes_from}
use Rattle.mz_mmu_theory.specs.Statements.{no_modifiers, with_modifier, AreModifiers}
use Rattle.mz_mmu_theory.specs.StatementView.{modifiers, option_modifiers}
use Rattle.mz_mmu_theory.specs.StatementOrder.{modifiers_asked}
use Rattle.mz_mmu_theory.proofs.Offered.{stepped, stands_there, modifiers_read_more, modifiers_asked_more}
use Rattle.mz_mmu.proofs.statements.modifiers.Goals as goal

pub loop-left-preserved : goal.loop-left-preserved
loop-left-preserved c =
    let all = c.args.reader.now.nodes.now in
    let step = stepped all c.loop-left.left c.in-Some.n c.next-left.result c.in-Some.is c.next-left.ensures in
    let m = modifiers c.loop-left.modifiers in
    let met = ap (with_modifier m) (sym c.word.ensures) ∙ sym c.with.ensures ∙ ap option_modifiers c.in-Some-with.is in
    record {
      there = stands_there all c.next-left.result (nodes_after all c.in-Some.n) c.next-left.ensures;
      read = modifiers_read_more m (modifiers c.in-Some-with.next) (nodes_from all c.loop-left.left) (nodes_from all c.next-left.result) (node_at all c.in-Some.n) step met
          (AreModifiers no_modifiers (nodes_from all c.args.first)) c.loop-left.invariant.read;
      asked = modifiers_asked_more m (modifiers c.in-Some-with.next) (nodes_from all c.loop-left.left) (nodes_from all c.next-left.result) (node_at all c.in-Some.n) step met
          (modifiers_asked no_modifiers (nodes_from all c.args.first)) c.loop-left.invariant.asked;
    }
