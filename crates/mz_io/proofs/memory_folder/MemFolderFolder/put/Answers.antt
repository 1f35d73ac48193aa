use Rattle.std.proofs.Common.{◌≡◌, false, inl, inr}
use Rattle.mz_io.proofs.memory_folder.MemFolderFolder.put.Goals as goal

pub returns-in-Some-clause-fails : goal.returns-in-Some-clause-fails
returns-in-Some-clause-fails c = (
  λ e. cc,
  λ cause. absurd (elim cause [
    | inl listed ↦ (let goes : c.fails_next-fails.result ≡ false = cc in c.fails_next-fails.ensures.goes goes listed)
    | inr none ↦ none (rw c.deref.ensures.value at c.in-Some.ensures.some)
  ]),
)
