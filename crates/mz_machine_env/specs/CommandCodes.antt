-- The commands of a body that both machines have, as the format numbers them (documents of the .mmb format, on proof
-- streams).
use Rattle.mz_cmd.specs.declared.code.ProofCode.{ProofCode}
use Rattle.mz_cmd.specs.declared.code.ProofCode.TheVariants as code
use Rattle.mz_machine_env.specs.declared.command.Making.{Making}
use Rattle.mz_machine_env.specs.declared.command.Making.TheVariants as making
use Rattle.mz_machine_env.specs.declared.command.Converting.{Converting}
use Rattle.mz_machine_env.specs.declared.command.Converting.TheVariants as converting

abbrev pub code_of_making : Making → ProofCode
code_of_making making.Term = code.Term
code_of_making making.TermSave = code.TermSave
code_of_making making.Thm = code.Thm
code_of_making making.ThmSave = code.ThmSave

abbrev pub code_of_converting : Converting → ProofCode
code_of_converting converting.Conv = code.Conv
code_of_converting converting.Refl = code.Refl
code_of_converting converting.Symm = code.Symm
code_of_converting converting.Cong = code.Cong
code_of_converting converting.Unfold = code.Unfold
code_of_converting converting.ConvCut = code.ConvCut
code_of_converting converting.ConvSave = code.ConvSave
code_of_converting converting.Sorry = code.Sorry
