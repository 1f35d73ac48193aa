use Rattle.std.proofs.Common.{[]}
use Rattle.mz_spec_proved_theory.proofs.FormedLegally.{concrete-list, formed-list, legal-list}
use Rattle.mz_spec_proved_theory.proofs.SameDeclared.{agree, declare}
use Rattle.mz_spec_proved_theory.proofs.Specifying.{specifies, specifies-one}
use Rattle.mz_spec_proved_theory.proofs.laws.promises_what_is_checked.Goals as goal

pub returns-clause-texts : goal.returns-clause-texts
returns-clause-texts c = specifies

pub returns-clause-one : goal.returns-clause-one
returns-clause-one c = specifies-one

pub returns-clause-lists : goal.returns-clause-lists
returns-clause-lists c = λ ss. (λ is. (legal-list [] ss is, concrete-list [] ss is), λ (legal, concrete). formed-list [] ss legal concrete)

pub returns-clause-matches : goal.returns-clause-matches
returns-clause-matches c = λ ds ss. (λ declares. agree [] ds ss declares, λ agrees. declare [] ds ss agrees)
