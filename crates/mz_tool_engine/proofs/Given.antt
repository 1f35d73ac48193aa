-- What was read of a folder's files is what they hold: a run over these files, where the bytes that came are theirs.
use Rattle.std.proofs.Common.{◌≡◌, ◌++◌, ◌∙◌, [], ◌∷◌, ℕ, List, Option, sym, ap, append_assoc}
use Rattle.std.proofs.lemmas.List.{append-nil}
use Rattle.mz_io.specs.Calls.{Call, Hold}
use Rattle.mz_tool_engine.specs.Given.{Gives}
use Rattle.mz_tool_engine.specs.Said.{Said, Files}
use Rattle.mz_tool_engine.specs.Run.{AreRead, AreReadAndPut, IsRunOf, IsProved}
use Rattle.mz_tool_engine.specs.declared.status.Status.TheVariants.{Done}

module _ (file : Files) where
  -- what is given by a list of calls is given by its parts
  pub gives-part : (before part after calls : List Call) → calls ≡ before ++ (part ++ after) → Gives file calls → Gives file part
  gives-part before part after calls e given = record {
    whole = λ name bytes a b c f read. given.whole name bytes (before ++ a) b (c ++ after) (e ∙ ap (λ p. before ++ (p ++ after)) f ∙ simp append_assoc) read;
    front = λ name bytes a b c f begun. given.front name bytes (before ++ a) b (c ++ after) (e ∙ ap (λ p. before ++ (p ++ after)) f ∙ simp append_assoc) begun;
  }

  pub gives-later : (first later calls : List Call) → calls ≡ first ++ later → Gives file calls → Gives file later
  gives-later first later calls e given = gives-part first later [] calls (e ∙ ap (λ last. first ++ last) (sym (append-nil later))) given

  pub read-holds : (names contents : List (List ℕ)) (calls : List Call) → Gives file calls → AreRead names contents calls → Hold file names contents
  read-holds [] [] calls given read = tt
  read-holds [] (bytes ∷ rest) calls given read = absurd read
  read-holds (name ∷ names) [] calls given read = absurd read
  read-holds (name ∷ names) (bytes ∷ rest) calls given (first, later, e, one, others) = (
    given.whole name bytes [] first later e one,
    read-holds names rest later (gives-later first later calls e given) others,
  )

  pub read-and_put-holds : (names contents : List (List ℕ)) (name put : Option (List ℕ)) (calls : List Call) → Gives file calls → AreReadAndPut names contents name put calls → Hold file names contents
  read-and_put-holds names contents name put calls given (reads, more, e, read, did) = read-holds names contents reads (gives-part [] reads more calls e given) read

  module _ (limit : ℕ) (said : Said) (calls written : List Call) (given : Gives file calls) where
    -- what a yes promises holds of the files
    pub given-proved : IsRunOf limit said Done calls written → IsProved file said
    given-proved (contents, put, text, affirms, sound, did, w) = (contents, read-and_put-holds said.reads contents said.puts put calls given did, sound)
