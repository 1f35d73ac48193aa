use Rattle.std.proofs.Common.{inl, inr}
use Rattle.mz_machine_theory.specs.MachineState.{is_axiom, is_theorem, is_definition}
use Rattle.mz_machine_env.proofs.FirstItems.{own-from-at}
use Rattle.mz_machine_env.proofs.own.own_words_at.Goals as goal

pub returns-in-Axiom : goal.returns-in-Axiom
returns-in-Axiom c = elim c.in-Axiom.is [
  | inl is ↦ rw is (own-from-at c.args.env.now.file c.args.row is_axiom c.own_thm_words_at.result c.own_thm_words_at.ensures)
  | inr is ↦ rw is (own-from-at c.args.env.now.file c.args.row is_theorem c.own_thm_words_at.result c.own_thm_words_at.ensures)
]

pub returns-in-Definition : goal.returns-in-Definition
returns-in-Definition c = rw c.in-Definition.is (own-from-at c.args.env.now.file c.args.row is_definition c.own_term_words_at.result c.own_term_words_at.ensures)
