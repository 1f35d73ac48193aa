-- One command over nodes: how the code's state stands for the machine's.
use Rattle.std.specs.Prelude.{List}
use Rattle.mz_pmachine_theory.specs.NodeIdentity.{Numbered}
use Rattle.mz_pmachine_unify.specs.Numbering.{Numbering}
use Rattle.mz_store.specs.declared.item.Id.{Id}
use Rattle.mz_store.specs.declared.item.Item.{Item as Kept}
use Rattle.mz_machine_theory.specs.UnifyMachine.{UnifyState}
use Rattle.mz_pmachine_unify.specs.Stored.{exprs_at, stack_at, items_at}

-- the machine's state: what a dummy is kept apart from has no ids, only the word of its variables
abbrev pub state_at : Numbering → List Id → List Numbered → List Id → List Kept → UnifyState Numbered
state_at s heap apart targets hyps = record { heap = exprs_at s heap; apart = apart; targets = stack_at s targets; items = items_at s hyps }
