use Rattle.std.proofs.Common.{sym, subst}
use Rattle.mz_mmu_theory.specs.Meaning.{marked}
use Rattle.mz_asm.specs.Assembling.{IsNormal}
use Rattle.mz_asm.proofs.CompiledFiles.{files-normal}
use Rattle.mz_asm.proofs.laws.compiled_files_are_normal.Goals as goal

pub returns : goal.returns
returns c = λ gaps text bytes (ss, of, within, binary).
    let it = binary.written in
    subst IsNormal (sym it.file) (files-normal gaps it.parts (marked ss) it.made it.fit it.says)
