use Rattle.std.proofs.Common.{ap, sym, subst, refl, [], append-nil}
use Rattle.mz_sexpr.specs.Number.{node_at, nodes_after}
use Rattle.mz_mmu_theory.specs.Cursor.{nodes_from}
use Rattle.mz_mmu_theory.specs.Expressions.{AreVariables, IsVariableList}
use Rattle.mz_mmu_theory.specs.FormOrder.{variable_list_asked}
use Rattle.mz_mmu_theory.proofs.Offered.{stepped, stands_there}
use Rattle.mz_mmu_forms.proofs.BinderLists.{variables_read_more, variables_asked_more}
use Rattle.mz_mmu_forms.proofs.reader.Reader.variables.Goals as goal

pub loop-left-preserved : goal.loop-left-preserved
loop-left-preserved c =
    let all = c.args.self.now.nodes.now in
    let vars = c.args.vars.now in
    let step = stepped all c.loop-left.left c.in-Some.m c.next-left.result c.in-Some.is c.next-left.ensures in
    record {
      there = stands_there all c.next-left.result (nodes_after all c.in-Some.m) c.next-left.ensures;
      read = variables_read_more vars (nodes_from all c.loop-left.left) (nodes_from all c.next-left.result) (node_at all c.in-Some.m) step c.in_ok-place.place c.in_ok-place.ensures.read
          (IsVariableList vars (node_at all c.args.n)) c.loop-left.places.items c.push.new.self.items c.in_ok-push.ensures.items c.loop-left.invariant.read;
      asked = variables_asked_more vars (nodes_from all c.loop-left.left) (nodes_from all c.next-left.result) (node_at all c.in-Some.m) step c.in_ok-place.place c.in_ok-place.ensures.read
          (variable_list_asked vars (node_at all c.args.n)) c.loop-left.invariant.asked;
    }

pub returns-clause-read : goal.returns-clause-read
returns-clause-read c =
    let all = c.args.self.now.nodes.now in
    let vars = c.args.vars.now in
    subst (IsVariableList vars (node_at all c.args.n)) (append-nil c.loop-left.places.items)
    (c.loop-left.invariant.read [] (subst (λ ns. AreVariables vars ns []) (sym (ap (nodes_from all) c.in_default.is)) refl))
