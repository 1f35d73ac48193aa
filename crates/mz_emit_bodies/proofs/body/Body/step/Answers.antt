use Rattle.std.proofs.Common.{◌<◌, ◌∷◌, [], sym, subst}
use Rattle.std.specs.Prelude.{OnOk}
use Rattle.mz_emit_bodies.specs.TaskInvariant.{task_view}
use Rattle.mz_emit_bodies.specs.Going.{Job, Does, steps_left}
use Rattle.std.proofs.lemmas.Result.{on_ok_weaker}
use Rattle.mz_emit_bodies.proofs.Kept.{instances_grown, store_grew}
use Rattle.mz_emit_bodies.proofs.body.Body.step.Goals as goal

pub prove-requires-clause-can : goal.prove-requires-clause-can
prove-requires-clause-can c = (c.requires.can.0, subst (λ z. Does c.requires.can.0 c.args.self.now (task_view z ∷ [])) c.in-Prove.is c.requires.can.1)

pub returns-in-Prove-clause-does : goal.returns-in-Prove-clause-does
returns-in-Prove-clause-does c =
    subst (λ z. OnOk c.prove.result ((o : Job) → Does o c.args.self.now (task_view z ∷ []) → Does o c.prove.new.self [])) (sym c.in-Prove.is) c.prove.ensures.does

pub returns-in-Prove-clause-less : goal.returns-in-Prove-clause-less
returns-in-Prove-clause-less c =
    subst (λ z. OnOk c.prove.result (steps_left c.prove.new.self [] < steps_left c.args.self.now (task_view z ∷ []))) (sym c.in-Prove.is) c.prove.ensures.less

pub prove_all-requires-clause-can : goal.prove_all-requires-clause-can
prove_all-requires-clause-can c = (c.requires.can.0, subst (λ z. Does c.requires.can.0 c.args.self.now (task_view z ∷ [])) c.in-ProveAll.is c.requires.can.1)

pub returns-in-ProveAll-clause-does : goal.returns-in-ProveAll-clause-does
returns-in-ProveAll-clause-does c =
    subst (λ z. OnOk c.prove_all.result ((o : Job) → Does o c.args.self.now (task_view z ∷ []) → Does o c.prove_all.new.self [])) (sym c.in-ProveAll.is) c.prove_all.ensures.does

pub returns-in-ProveAll-clause-less : goal.returns-in-ProveAll-clause-less
returns-in-ProveAll-clause-less c =
    subst (λ z. OnOk c.prove_all.result (steps_left c.prove_all.new.self [] < steps_left c.args.self.now (task_view z ∷ []))) (sym c.in-ProveAll.is) c.prove_all.ensures.less

pub cite-requires-clause-can : goal.cite-requires-clause-can
cite-requires-clause-can c = (c.requires.can.0, subst (λ z. Does c.requires.can.0 c.args.self.now (task_view z ∷ [])) c.in-Cite.is c.requires.can.1)

pub returns-in-Cite-clause-does : goal.returns-in-Cite-clause-does
returns-in-Cite-clause-does c =
    subst (λ z. OnOk c.cite.result ((o : Job) → Does o c.args.self.now (task_view z ∷ []) → Does o c.cite.new.self [])) (sym c.in-Cite.is) c.cite.ensures.does

pub returns-in-Cite-clause-less : goal.returns-in-Cite-clause-less
returns-in-Cite-clause-less c =
    subst (λ z. OnOk c.cite.result (steps_left c.cite.new.self [] < steps_left c.args.self.now (task_view z ∷ []))) (sym c.in-Cite.is) c.cite.ensures.less

pub push-requires-clause-can : goal.push-requires-clause-can
push-requires-clause-can c = (c.requires.can.0, subst (λ z. Does c.requires.can.0 c.args.self.now (task_view z ∷ [])) c.in-Push.is c.requires.can.1)

pub returns-in-Push-clause-does : goal.returns-in-Push-clause-does
returns-in-Push-clause-does c =
    subst (λ z. OnOk c.push.result ((o : Job) → Does o c.args.self.now (task_view z ∷ []) → Does o c.push.new.self [])) (sym c.in-Push.is) c.push.ensures.does

pub returns-in-Push-clause-less : goal.returns-in-Push-clause-less
returns-in-Push-clause-less c =
    subst (λ z. OnOk c.push.result (steps_left c.push.new.self [] < steps_left c.args.self.now (task_view z ∷ []))) (sym c.in-Push.is) c.push.ensures.less

pub make-requires-clause-can : goal.make-requires-clause-can
make-requires-clause-can c = (c.requires.can.0, subst (λ z. Does c.requires.can.0 c.args.self.now (task_view z ∷ [])) c.in-Make.is c.requires.can.1)

pub returns-in-Make-clause-does : goal.returns-in-Make-clause-does
returns-in-Make-clause-does c =
    subst (λ z. OnOk c.make.result ((o : Job) → Does o c.args.self.now (task_view z ∷ []) → Does o c.make.new.self [])) (sym c.in-Make.is) c.make.ensures.does

pub returns-in-Make-clause-less : goal.returns-in-Make-clause-less
returns-in-Make-clause-less c =
    subst (λ z. OnOk c.make.result (steps_left c.make.new.self [] < steps_left c.args.self.now (task_view z ∷ []))) (sym c.in-Make.is) c.make.ensures.less

pub pay-requires-clause-can : goal.pay-requires-clause-can
pay-requires-clause-can c = (c.requires.can.0, subst (λ z. Does c.requires.can.0 c.args.self.now (task_view z ∷ [])) c.in-Pay.is c.requires.can.1)

pub returns-in-Pay-clause-does : goal.returns-in-Pay-clause-does
returns-in-Pay-clause-does c =
    subst (λ z. OnOk c.pay.result ((o : Job) → Does o c.args.self.now (task_view z ∷ []) → Does o c.pay.new.self [])) (sym c.in-Pay.is) c.pay.ensures.does

pub returns-in-Pay-clause-less : goal.returns-in-Pay-clause-less
returns-in-Pay-clause-less c =
    subst (λ z. OnOk c.pay.result (steps_left c.pay.new.self [] < steps_left c.args.self.now (task_view z ∷ []))) (sym c.in-Pay.is) c.pay.ensures.less

pub pay_all-requires-clause-can : goal.pay_all-requires-clause-can
pay_all-requires-clause-can c = (c.requires.can.0, subst (λ z. Does c.requires.can.0 c.args.self.now (task_view z ∷ [])) c.in-PayAll.is c.requires.can.1)

pub returns-in-PayAll-clause-does : goal.returns-in-PayAll-clause-does
returns-in-PayAll-clause-does c =
    subst (λ z. OnOk c.pay_all.result ((o : Job) → Does o c.args.self.now (task_view z ∷ []) → Does o c.pay_all.new.self [])) (sym c.in-PayAll.is) c.pay_all.ensures.does

pub returns-in-PayAll-clause-less : goal.returns-in-PayAll-clause-less
returns-in-PayAll-clause-less c =
    subst (λ z. OnOk c.pay_all.result (steps_left c.pay_all.new.self [] < steps_left c.args.self.now (task_view z ∷ []))) (sym c.in-PayAll.is) c.pay_all.ensures.less

pub give-requires-clause-can : goal.give-requires-clause-can
give-requires-clause-can c = (c.requires.can.0, subst (λ z. Does c.requires.can.0 c.args.self.now (task_view z ∷ [])) c.in-Do.is c.requires.can.1)

pub returns-in-Do-clause-does : goal.returns-in-Do-clause-does
returns-in-Do-clause-does c =
    subst (λ z. OnOk c.give.result ((o : Job) → Does o c.args.self.now (task_view z ∷ []) → Does o c.give.new.self [])) (sym c.in-Do.is) c.give.ensures.does

pub returns-in-Do-clause-less : goal.returns-in-Do-clause-less
returns-in-Do-clause-less c =
    subst (λ z. OnOk c.give.result (steps_left c.give.new.self [] < steps_left c.args.self.now (task_view z ∷ []))) (sym c.in-Do.is) c.give.ensures.less

pub save-requires-clause-can : goal.save-requires-clause-can
save-requires-clause-can c = (c.requires.can.0, subst (λ z. Does c.requires.can.0 c.args.self.now (task_view z ∷ [])) c.in-Save.is c.requires.can.1)

pub returns-in-Save-clause-does : goal.returns-in-Save-clause-does
returns-in-Save-clause-does c =
    subst (λ z. OnOk c.save.result ((o : Job) → Does o c.args.self.now (task_view z ∷ []) → Does o c.save.new.self [])) (sym c.in-Save.is) c.save.ensures.does

pub returns-in-Save-clause-less : goal.returns-in-Save-clause-less
returns-in-Save-clause-less c =
    subst (λ z. OnOk c.save.result (steps_left c.save.new.self [] < steps_left c.args.self.now (task_view z ∷ []))) (sym c.in-Save.is) c.save.ensures.less

pub returns-in-Prove-clause-instances : goal.returns-in-Prove-clause-instances
returns-in-Prove-clause-instances c = on_ok_weaker c.prove.result (λ does. instances_grown c.args.self.now.before.env.now c.args.self.now.shared.store c.prove.new.self.shared.store c.args.instances.now.items.items
    (store_grew c.args.self.now c.prove.new.self (task_view c.args.task ∷ []) c.requires.can.0 c.requires.can.1 does) c.requires.instances) (returns-in-Prove-clause-does c)

pub returns-in-ProveAll-clause-instances : goal.returns-in-ProveAll-clause-instances
returns-in-ProveAll-clause-instances c = on_ok_weaker c.prove_all.result (λ does. instances_grown c.args.self.now.before.env.now c.args.self.now.shared.store c.prove_all.new.self.shared.store c.args.instances.now.items.items
    (store_grew c.args.self.now c.prove_all.new.self (task_view c.args.task ∷ []) c.requires.can.0 c.requires.can.1 does) c.requires.instances) (returns-in-ProveAll-clause-does c)

pub returns-in-Push-clause-instances : goal.returns-in-Push-clause-instances
returns-in-Push-clause-instances c = on_ok_weaker c.push.result (λ does. instances_grown c.args.self.now.before.env.now c.args.self.now.shared.store c.push.new.self.shared.store c.args.instances.now.items.items
    (store_grew c.args.self.now c.push.new.self (task_view c.args.task ∷ []) c.requires.can.0 c.requires.can.1 does) c.requires.instances) (returns-in-Push-clause-does c)

pub returns-in-Make-clause-instances : goal.returns-in-Make-clause-instances
returns-in-Make-clause-instances c = on_ok_weaker c.make.result (λ does. instances_grown c.args.self.now.before.env.now c.args.self.now.shared.store c.make.new.self.shared.store c.args.instances.now.items.items
    (store_grew c.args.self.now c.make.new.self (task_view c.args.task ∷ []) c.requires.can.0 c.requires.can.1 does) c.requires.instances) (returns-in-Make-clause-does c)

pub returns-in-Pay-clause-instances : goal.returns-in-Pay-clause-instances
returns-in-Pay-clause-instances c = on_ok_weaker c.pay.result (λ does. instances_grown c.args.self.now.before.env.now c.args.self.now.shared.store c.pay.new.self.shared.store c.args.instances.now.items.items
    (store_grew c.args.self.now c.pay.new.self (task_view c.args.task ∷ []) c.requires.can.0 c.requires.can.1 does) c.requires.instances) (returns-in-Pay-clause-does c)

pub returns-in-PayAll-clause-instances : goal.returns-in-PayAll-clause-instances
returns-in-PayAll-clause-instances c = on_ok_weaker c.pay_all.result (λ does. instances_grown c.args.self.now.before.env.now c.args.self.now.shared.store c.pay_all.new.self.shared.store c.args.instances.now.items.items
    (store_grew c.args.self.now c.pay_all.new.self (task_view c.args.task ∷ []) c.requires.can.0 c.requires.can.1 does) c.requires.instances) (returns-in-PayAll-clause-does c)

pub returns-in-Do-clause-instances : goal.returns-in-Do-clause-instances
returns-in-Do-clause-instances c = on_ok_weaker c.give.result (λ does. instances_grown c.args.self.now.before.env.now c.args.self.now.shared.store c.give.new.self.shared.store c.args.instances.now.items.items
    (store_grew c.args.self.now c.give.new.self (task_view c.args.task ∷ []) c.requires.can.0 c.requires.can.1 does) c.requires.instances) (returns-in-Do-clause-does c)

pub returns-in-Save-clause-instances : goal.returns-in-Save-clause-instances
returns-in-Save-clause-instances c = on_ok_weaker c.save.result (λ does. instances_grown c.args.self.now.before.env.now c.args.self.now.shared.store c.save.new.self.shared.store c.args.instances.now.items.items
    (store_grew c.args.self.now c.save.new.self (task_view c.args.task ∷ []) c.requires.can.0 c.requires.can.1 does) c.requires.instances) (returns-in-Save-clause-does c)
