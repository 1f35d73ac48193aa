use Rattle.std.proofs.Common.{[]}
use Rattle.mz_match_theory.proofs.AcceptedSound.{accepted-proves, checked-list, theorem-follows}
use Rattle.mz_spec_proved_theory.proofs.Offered.{declare, follows-itself, formed-list, needs-axiom, specifies}
use Rattle.mz_match_theory.proofs.laws.accepted_pairs_prove.Goals as goal

pub returns-clause-accepted : goal.returns-clause-accepted
returns-clause-accepted c = accepted-proves

pub returns-clause-follows : goal.returns-clause-follows
returns-clause-follows c = theorem-follows

pub returns-clause-checked : goal.returns-clause-checked
returns-clause-checked c = λ spec ds is. (checked-list spec ds is, λ (ss, legal, concrete, agrees). record { declared = ds; statements = ss; is_spec = specifies spec ds is; legal = formed-list [] ss legal concrete; agrees = declare [] ds ss agrees })

pub returns-clause-grounded : goal.returns-clause-grounded
returns-clause-grounded c = λ spec p i a at theorem bare. needs-axiom p.declared p.statements i a (theorem-follows spec p i a at theorem) bare

pub returns-clause-itself : goal.returns-clause-itself
returns-clause-itself c = λ spec p i a at theorem concrete bars. follows-itself spec p i a at theorem concrete bars
