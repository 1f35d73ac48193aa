use Rattle.std.proofs.Common.{◌≡◌, sym, is_some, false, refl, inl, inr}
use Rattle.mz_io.proofs.Files.{missing-file, file_of-started, there-missing}
use Rattle.mz_io.proofs.memory_folder.MemFolderFolder.start.Goals as goal
use Rattle.mz_io.proofs.memory_folder.MemFolderFolder.start.Goals.{then-fails-via-then-fails, then-fails-via-else-fails+then-is_none}

pub returns-then-fails-clause-fails : goal.returns-then-fails-clause-fails
returns-then-fails-clause-fails c = (
  λ _. elim c.then-fails.branch [
    | then-fails-via-then-fails w ↦ inl (c.fails_next-fails.ensures.fails w.if-fails.true)
    | then-fails-via-else-fails+then-is_none w ↦ inr (
        let none : is_some c.place_of-self.result ≡ false = w.if-is_none.ensures in
        missing-file c.args.self.now.files.items c.args.name.now c.place_of-self.result (rw c.deref.ensures.value at c.place_of-self.ensures) none)
  ],
  λ _. refl,
)

pub returns-then-fails-clause-only_missing : goal.returns-then-fails-clause-only_missing
returns-then-fails-clause-only_missing c = λ clear there.
    elim c.then-fails.branch [
      | then-fails-via-then-fails w ↦ let no = c.fails_next-fails.ensures.never clear in cc
      | then-fails-via-else-fails+then-is_none w ↦
          let none : is_some c.place_of-self.result ≡ false = w.if-is_none.ensures in
          let no = missing-file c.args.self.now.files.items c.args.name.now c.place_of-self.result (rw c.deref.ensures.value at c.place_of-self.ensures) none in cc
    ]

pub returns-clause-fails : goal.returns-clause-fails
returns-clause-fails c = (
  λ e. cc,
  λ cause. absurd (elim cause [
    | inl listed ↦ c.fails_next-fails.ensures.goes c.if-fails.false listed
    | inr none ↦ there-missing _ _ (file_of-started c.args.self.now.files.items c.args.name.now c.place_of-self.result
        (sym (rw c.deref.ensures.value at c.place_of-self.ensures)) (c.if-is_none.ensures)) none
  ]),
)

pub returns-clause-started : goal.returns-clause-started
returns-clause-started c = file_of-started c.args.self.now.files.items c.args.name.now c.place_of-self.result
    (sym (rw c.deref.ensures.value at c.place_of-self.ensures)) (c.if-is_none.ensures)
