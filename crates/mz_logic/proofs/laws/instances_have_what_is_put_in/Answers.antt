use Rattle.mz_logic_theory.proofs.Offered.{in_instance, instance_has}
use Rattle.mz_logic.proofs.laws.instances_have_what_is_put_in.Goals as goal

pub returns : goal.returns
returns c = λ ctx x f e. (in_instance ctx x f e, λ h. instance_has ctx x h.0 f e h.1 h.2)
