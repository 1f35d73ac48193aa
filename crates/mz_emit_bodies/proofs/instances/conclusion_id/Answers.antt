use Rattle.std.proofs.lemmas.Result.{on_ok_weaker}
use Rattle.mz_logic_theory.specs.View.{tree}
use Rattle.mz_emit_bodies.proofs.Kept.{instance_found, instance_kept, instances_grown}
use Rattle.mz_emit_bodies.proofs.instances.conclusion_id.Goals as goal

pub returns-then-nodes_left-gt0-clause-instances : goal.returns-then-nodes_left-gt0-clause-instances
returns-then-nodes_left-gt0-clause-instances c = on_ok_weaker c.instance.result (λ grows env right is.
    instances_grown env c.args.shared.now.store c.instance.new.self.store c.args.instances.now.items.items grows right) c.instance.ensures.grows

pub returns-in-Some-clause-holds : goal.returns-in-Some-clause-holds
returns-in-Some-clause-holds c =
    let right = c.requires.instances in
    let found = c.in-Some.ensures in
    instance_found right.0 c.args.shared.now.store c.args.instances.now.items.items found.0 found.1 c.args.number c.args.operands.now c.in-Some.id (tree c.args.conclusion.now)
    right.1 found.2 found.3 found.4 found.5 right.2

pub returns-in_ok-keep-in-None-clause-instances : goal.returns-in_ok-keep-in-None-clause-instances
returns-in_ok-keep-in-None-clause-instances c = λ env right is.
    let kept = c.in_ok-keep-in-None.ensures in
    instance_kept env c.args.shared.now.store c.instance-in-None.new.self.store c.args.instances.now.items.items c.in_ok-id-in-None.ensures.grows right kept.0 c.keep.new.instances.items.items
    c.args.number c.args.operands.now c.in_ok-id-in-None.id (tree c.args.conclusion.now) kept.1 kept.2 kept.3 kept.4 c.requires.ids c.in_ok-id-in-None.ensures.holds is
