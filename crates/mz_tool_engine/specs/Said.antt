-- All that is said of a command: one record for each, in a file of its own (this project's own).
use Rattle.std.specs.Prelude.{ℕ, List, [], ◌∷◌, Option}

-- what stands under each name
abbrev pub Files : Type 0
Files = List ℕ → Option (List ℕ)

-- The arguments (`words`) that ask for the command, and what is asked of the numbers among them; the names of the files that it reads, in
-- order, and the name under which it puts one, where it puts one. What a yes promises of the files, without speaking of binaries. Then, over the
-- bytes of the files that it reads, in order: the answer is yes, these bytes are put and this text is written; it is a refusal,
-- and this text is written; what a yes promises of all of them; and what may have been written in part before a run is out of memory.
pub record Said : Type 1 where
  pub words : List (List ℕ)
  pub is_in_range : Type 0
  pub reads : List (List ℕ)
  pub puts : Option (List ℕ)
  pub promise : Files → Type 0
  pub yes : List (List ℕ) → Option (List ℕ) → List ℕ → Type 0
  pub no : List (List ℕ) → List ℕ → Type 0
  pub sound : List (List ℕ) → Type 0
  pub begun : List (List ℕ) → List ℕ → Type 0

-- a fact where no file is read, of one file, or of two
abbrev pub OfNone : Type 0 → List (List ℕ) → Type 0
OfNone P [] = P
OfNone P contents = ⊥

abbrev pub OfOne : (List ℕ → Type 0) → List (List ℕ) → Type 0
OfOne P (a ∷ []) = P a
OfOne P contents = ⊥

abbrev pub OfTwo : (List ℕ → List ℕ → Type 0) → List (List ℕ) → Type 0
OfTwo P (a ∷ b ∷ []) = P a b
OfTwo P contents = ⊥
