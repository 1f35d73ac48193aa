use Rattle.mz_store.specs.declared.item.Id.{Id}
use Rattle.mz_pmachine_unify.specs.Numbering.{vars_of}
use Rattle.mz_machine_env.proofs.Offered.{AmongFirst}
use Rattle.mz_pmachine.proofs.disjoint.variables_at.Given as goal

-- the word has the variables of the operands at the places before
abbrev pub invariant-places : goal.invariant-places
invariant-places l = AmongFirst (λ (id : Id). vars_of l.nodes id.0) l.operands l.places l.place-index l.word
