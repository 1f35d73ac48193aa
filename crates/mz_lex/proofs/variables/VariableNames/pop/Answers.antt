use Rattle.std.proofs.Common.{subst}
use Rattle.std.specs.Option.{option_to_list}
use Rattle.mz_lex.specs.Names.{AreFoundBeyond}
use Rattle.mz_lex.proofs.Placing.{found-front}
use Rattle.mz_lex.proofs.variables.VariableNames.pop.Goals as goal

pub invariant_of-self : goal.invariant_of-self
invariant_of-self c =
    found-front 8 c.self.inside.places c.pop.new.self.items (option_to_list c.pop.result) (subst (AreFoundBeyond 8 c.self.inside.places) c.pop.ensures.items c.self.invariant)
