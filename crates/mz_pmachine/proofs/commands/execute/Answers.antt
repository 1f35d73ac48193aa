use Rattle.std.proofs.Common.{arith, ap, ◌∙◌}
use Rattle.std.proofs.lemmas.Result.{on_ok_weaker}
use Rattle.mz_pmachine_theory.specs.NodeIdentity.{portable}
use Rattle.mz_machine_env.specs.Before.{tables_of}
use Rattle.mz_pmachine_unify.proofs.Offered.{are-still-in}
use Rattle.mz_machine.proofs.Offered.{no-more, on-both, on-ok, unless-mem}
use Rattle.mz_pmachine.specs.OverNodes.{state_at}
use Rattle.mz_pmachine.specs.declared.command.Command.TheVariants.{Converts}
use Rattle.mz_pmachine.proofs.Codes.{keeping-steps}
use Rattle.mz_pmachine.proofs.TermResults.{grows-not}
use Rattle.mz_pmachine.proofs.commands.execute.Goals as goal

pub returns-in-Makes-clause-grows : goal.returns-in-Makes-clause-grows
returns-in-Makes-clause-grows g c = c.make.ensures.grows

pub returns-in-Makes-clause-ids : goal.returns-in-Makes-clause-ids
returns-in-Makes-clause-ids g c =
    on-both c.make.result (λ grows ids. (ids.0, ids.1, are-still-in c.args.nodes.now c.make.new.nodes grows.keeps c.args.hyps.now.items c.requires.hyps)) c.make.ensures.grows c.make.ensures.ids

pub returns-in-Makes-clause-few : goal.returns-in-Makes-clause-few
returns-in-Makes-clause-few g c = on-ok c.make.result c.requires.few

pub returns-in-Makes-clause-row : goal.returns-in-Makes-clause-row
returns-in-Makes-clause-row g c = rw c.in-Makes.is (c.make.ensures.row c.args.hyps.now.items c.requires.hyps)

pub returns-in-Makes-clause-steps : goal.returns-in-Makes-clause-steps
returns-in-Makes-clause-steps g c = rw c.in-Makes.is (c.make.ensures.steps c.args.hyps.now.items)

pub returns-in-Makes-clause-most : goal.returns-in-Makes-clause-most
returns-in-Makes-clause-most g c = c.make.ensures.most

pub returns-in-Keeps-clause-grows : goal.returns-in-Keeps-clause-grows
returns-in-Keeps-clause-grows g c = c.keep.ensures.grows

pub returns-in-Keeps-clause-ids : goal.returns-in-Keeps-clause-ids
returns-in-Keeps-clause-ids g c = c.keep.ensures.ids

pub returns-in-Keeps-clause-few : goal.returns-in-Keeps-clause-few
returns-in-Keeps-clause-few g c = c.keep.ensures.few

pub returns-in-Keeps-clause-row : goal.returns-in-Keeps-clause-row
returns-in-Keeps-clause-row g c = rw c.in-Keeps.is (c.keep.ensures.row c.args.at)

pub returns-in-Keeps-clause-steps : goal.returns-in-Keeps-clause-steps
returns-in-Keeps-clause-steps g c =
    let st = state_at c.args.nodes.now c.args.heap.now.items c.args.stack.now.items c.args.hyps.now.items in
    rw c.in-Keeps.is (unless-mem c.keep.result (no-more _ _ (keeping-steps portable (tables_of c.args.env.now) c.in-Keeps.keeping c.args.value st)))

pub returns-in-Converts-clause-grows : goal.returns-in-Converts-clause-grows
returns-in-Converts-clause-grows g c = on-ok c.convert.result (grows-not _ c.args.nodes.now c.requires.over)

pub returns-in-Converts-clause-ids : goal.returns-in-Converts-clause-ids
returns-in-Converts-clause-ids g c = on_ok_weaker c.convert.result (λ ids. (ids.0, ids.1, c.requires.hyps)) c.convert.ensures.ids

pub returns-in-Converts-clause-few : goal.returns-in-Converts-clause-few
returns-in-Converts-clause-few g c = on-ok c.convert.result c.requires.few

pub returns-in-Converts-clause-row : goal.returns-in-Converts-clause-row
returns-in-Converts-clause-row g c = rw c.in-Converts.is (c.convert.ensures.row c.args.at c.args.value c.args.hyps.now.items)

pub returns-in-Converts-clause-steps : goal.returns-in-Converts-clause-steps
returns-in-Converts-clause-steps g c = rw c.in-Converts.is (c.convert.ensures.steps c.args.value c.args.hyps.now.items)

pub returns-in-Converts-clause-most : goal.returns-in-Converts-clause-most
returns-in-Converts-clause-most g c = c.convert.ensures.most

-- ---- the number of the next node

pub returns-in-Makes-clause-next : goal.returns-in-Makes-clause-next
returns-in-Makes-clause-next g c = c.make.ensures.next

pub returns-in-Keeps-clause-next : goal.returns-in-Keeps-clause-next
returns-in-Keeps-clause-next g c = on_ok_weaker c.keep.result (λ same. omega (arith, same, c.requires.number)) c.keep.ensures.next

pub returns-in-Converts-clause-next : goal.returns-in-Converts-clause-next
returns-in-Converts-clause-next g c = on-ok c.convert.result (omega (arith, c.requires.number))

-- ---- what the commands ask

pub make-requires-clause-number : goal.make-requires-clause-number
make-requires-clause-number g c = c.requires.number

pub make-requires-clause-over : goal.make-requires-clause-over
make-requires-clause-over g c = c.requires.over

pub make-requires-clause-heap : goal.make-requires-clause-heap
make-requires-clause-heap g c = c.requires.heap

pub make-requires-clause-stack : goal.make-requires-clause-stack
make-requires-clause-stack g c = c.requires.stack

pub keep-requires-clause-over : goal.keep-requires-clause-over
keep-requires-clause-over g c = c.requires.over

pub keep-requires-clause-heap : goal.keep-requires-clause-heap
keep-requires-clause-heap g c = c.requires.heap

pub keep-requires-clause-stack : goal.keep-requires-clause-stack
keep-requires-clause-stack g c = c.requires.stack

pub keep-requires-clause-hyps : goal.keep-requires-clause-hyps
keep-requires-clause-hyps g c = c.requires.hyps

pub keep-requires-clause-few : goal.keep-requires-clause-few
keep-requires-clause-few g c = c.requires.few

pub convert-requires-clause-over : goal.convert-requires-clause-over
convert-requires-clause-over g c = c.requires.over

pub convert-requires-clause-heap : goal.convert-requires-clause-heap
convert-requires-clause-heap g c = c.requires.heap

pub convert-requires-clause-stack : goal.convert-requires-clause-stack
convert-requires-clause-stack g c = c.requires.stack

pub convert-requires-clause-other : goal.convert-requires-clause-other
convert-requires-clause-other g c is = c.requires.other (c.in-Converts.is ∙ ap Converts is)

pub returns-in-Keeps-clause-most : goal.returns-in-Keeps-clause-most
returns-in-Keeps-clause-most g c = omega arith
