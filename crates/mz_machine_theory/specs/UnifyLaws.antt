-- What is promised of spellings and of the unify machine as definitions (documents of the .mmb
-- format, on unify streams; Carneiro, the rule of theorem application, whose instance a stream that
-- runs has matched).
use Rattle.std.specs.Prelude.{◌≡◌, ℕ, Bool, ◌+◌, ◌≤◌, ◌<◌, ◌↔◌, List, [], ◌++◌, length, map, reverse, Ok}
use Rattle.mz_logic_theory.specs.Tree.{Tree, Trees, none, followed_by, variables, instance, instances}
use Rattle.mz_logic_theory.specs.Signature.{Signature}
use Rattle.mz_logic_theory.specs.Declaration.{Term, Assertion}
use Rattle.mz_logic_theory.specs.Variables.{Occurs}
use Rattle.mz_logic_theory.specs.Conversions.{AreFresh}
use Rattle.mz_logic_theory.specs.declared.binder.Binder.{Binder}
use Rattle.mz_machine_theory.specs.Streams.{StreamKind, of_assertion, of_definition}
use Rattle.mz_machine_theory.specs.Spells.{trees_of, variables_from, Marks, SpellsText, Text, SpelledTerm, SpelledThm, SpellsThm, SpellsTerm}
use Rattle.mz_machine_theory.specs.Profile.{Profile, plain, strict, Item, proof}
use Rattle.mz_machine_theory.specs.Sorted.{Sorted, AllSorted, ItemsSorted}
use Rattle.mz_machine_theory.specs.UnifyMachine.{UnifyMode, in_citation, at_end, in_definition, Matching, UnifyState, unify_from, unify, unify_steps_from, unify_steps}

-- ---- spellings

-- a row spells at most one assertion, but for whether it is an axiom, and at most one term
abbrev pub OneAssertion : Type 0
OneAssertion = (sigs : List Signature) (row : SpelledThm) (a b : Assertion) → a.is_axiom ≡ b.is_axiom → SpellsThm sigs row a → SpellsThm sigs row b → a ≡ b

abbrev pub OneTerm : Type 0
OneTerm = (sigs : List Signature) (row : SpelledTerm) (c d : Term) → SpellsTerm sigs row c → SpellsTerm sigs row d → c ≡ d

-- over more terms a row spells the same
abbrev pub LongerSpellThms : Type 0
LongerSpellThms = (sigs further : List Signature) (row : SpelledThm) (a : Assertion) → SpellsThm sigs row a → SpellsThm (sigs ++ further) row a

abbrev pub LongerSpellTerms : Type 0
LongerSpellTerms = (sigs further : List Signature) (row : SpelledTerm) (d : Term) → SpellsTerm sigs row d → SpellsTerm (sigs ++ further) row d

-- what is spelled has only the parameters and the dummies that were met
abbrev pub OnlyWhatWasMet : Type 0
OnlyWhatWasMet = (kind : StreamKind) (sigs : List Signature) (params : List Binder) (stream : List ℕ) (hyps : Trees) (e : Tree) (dummies : List Binder)
    → Text kind sigs params stream hyps e dummies → (y : ℕ) → Occurs y e → y < length params + length dummies

-- ---- the machine

-- with a bound of at least the bytes the run is the same: a bound never ends it
abbrev pub BoundNeverEnds : Profile → Type 0
BoundNeverEnds P = (sigs : List Signature) (ctx : List Binder) (mode : UnifyMode) (n at : ℕ) (bytes : List ℕ) (st : UnifyState P.T)
    → length bytes ≤ n → unify_from P sigs ctx mode n at bytes st ≡ unify_from P sigs ctx mode (length bytes) at bytes st

-- nor the count of the commands executed
abbrev pub CountsAreWhole : Profile → Type 0
CountsAreWhole P = (sigs : List Signature) (ctx : List Binder) (mode : UnifyMode) (n : ℕ) (bytes : List ℕ) (st : UnifyState P.T)
    → length bytes ≤ n → unify_steps_from P sigs ctx mode n bytes st ≡ unify_steps_from P sigs ctx mode (length bytes) bytes st

-- a stream runs the same, and executes as many commands, whether gaps are let through or not
abbrev pub GapsDontMatter : Type 0
GapsDontMatter = (gaps : Bool) (sigs : List Signature) (ctx : List Binder) (m : Matching Tree)
    → (unify (plain gaps) sigs ctx m ≡ unify strict sigs ctx m) × (unify_steps (plain gaps) sigs ctx m ≡ unify_steps strict sigs ctx m)

-- what is left of a stream executes at most one command a byte
abbrev pub OneStepAByte : Profile → Type 0
OneStepAByte P = (sigs : List Signature) (ctx : List Binder) (mode : UnifyMode) (n : ℕ) (bytes : List ℕ) (st : UnifyState P.T)
    → unify_steps_from P sigs ctx mode n bytes st ≤ length bytes

-- the stream runs to its END, and leaves this heap and these items
abbrev pub RunsLeaving : List Signature → List Binder → Matching Tree → List Tree → List (Item Tree) → Type 0
RunsLeaving sigs ctx m heap rest = (u : UnifyState Tree) × (unify strict sigs ctx m ≡ Ok u) × (u.heap ≡ heap) × (u.items ≡ rest)

-- the instances of the marks, in order: the operands, and after them what was saved and what was put
-- in for dummies
abbrev pub instances_of : Trees → Marks → List Tree
instances_of f marks = map (instance f) marks.trees

-- e is the instance of the conclusion under the operands, and of the items those before the rest are
-- proofs of the instances of the hypotheses, the last one first
abbrev pub IsCitedAs : Trees → Tree → List Tree → Tree → List (Item Tree) → List (Item Tree) → Type 0
IsCitedAs hyps conclusion es e items rest =
    (hs : List Tree) × (trees_of hs ≡ instances (trees_of es) hyps) × (e ≡ instance (trees_of es) conclusion) × (items ≡ map proof (reverse hs) ++ rest)

-- the stream of an assertion, in a citation
abbrev pub citing : List ℕ → List Tree → Tree → List (Item Tree) → Matching Tree
citing stream es e items = record { mode = in_citation; stream = stream; operands = es; target = e; items = items }

-- in a citation the stream of an assertion runs exactly on its instances
abbrev pub CitationsAreExact : Type 0
CitationsAreExact = (sigs : List Signature) (ctx params : List Binder) (stream : List ℕ) (hyps : Trees) (conclusion : Tree) (marks : Marks)
    → SpellsText of_assertion sigs params stream hyps conclusion marks
    → (es : List Tree) (e : Tree) (items rest : List (Item Tree)) (heap : List Tree) → length es ≡ length params → Sorted sigs ctx e → ItemsSorted sigs ctx items
    → RunsLeaving sigs ctx (citing stream es e items) heap rest ↔ (IsCitedAs hyps conclusion es e items rest × (heap ≡ instances_of (trees_of es) marks))

-- and where any stream of an assertion runs in a citation, it spells something
abbrev pub CitedStreamsSpell : Type 0
CitedStreamsSpell = (sigs : List Signature) (ctx params : List Binder) (stream : List ℕ) (es : List Tree) (e : Tree) (items rest : List (Item Tree)) (heap : List Tree)
    → length es ≡ length params → Sorted sigs ctx e → ItemsSorted sigs ctx items
    → RunsLeaving sigs ctx (citing stream es e items) heap rest → (hyps : Trees) × (conclusion : Tree) × Text of_assertion sigs params stream hyps conclusion []

-- e is the body with the operands for its parameters, and fresh variables for its dummies; the heap
-- holds the instances of the marks
abbrev pub IsUnfolded : List Binder → List Tree → Tree → Marks → Tree → List Tree → Type 0
IsUnfolded ctx es body marks e heap = (ys : List ℕ) × AreFresh ctx (trees_of es) ys marks.dummies
    × (e ≡ instance (followed_by (trees_of es) (variables ys)) body) × (heap ≡ instances_of (followed_by (trees_of es) (variables ys)) marks)

-- the stream of a definition
abbrev pub unfolding_by : List ℕ → List Tree → Tree → Matching Tree
unfolding_by stream es e = record { mode = in_definition; stream = stream; operands = es; target = e; items = [] }

-- the stream of a definition runs exactly on the instances of its body
abbrev pub UnfoldingsAreExact : Type 0
UnfoldingsAreExact = (sigs : List Signature) (ctx params : List Binder) (stream : List ℕ) (body : Tree) (marks : Marks) → SpellsText of_definition sigs params stream none body marks
    → (es : List Tree) (e : Tree) (heap : List Tree) → length es ≡ length params → Sorted sigs ctx e
    → RunsLeaving sigs ctx (unfolding_by stream es e) heap [] ↔ IsUnfolded ctx es body marks e heap

-- and where any stream of a definition runs, it spells a body
abbrev pub UnfoldedStreamsSpell : Type 0
UnfoldedStreamsSpell = (sigs : List Signature) (ctx params : List Binder) (stream : List ℕ) (es : List Tree) (e : Tree) (heap : List Tree)
    → length es ≡ length params → Sorted sigs ctx e
    → RunsLeaving sigs ctx (unfolding_by stream es e) heap [] → (body : Tree) × (marks : Marks) × SpellsText of_definition sigs params stream none body marks

-- ---- a row's own stream

-- an assertion's stream on what its body made, with the parameters as operands
abbrev pub own_assertion : List Binder → List ℕ → Tree → List Tree → Matching Tree
own_assertion params stream e hyps = record { mode = at_end; stream = stream; operands = variables_from 0 params; target = e; items = map proof (reverse hyps) }

-- it runs exactly where it spells the target and the hypotheses, without dummies; then the heap holds the marks
abbrev pub AssertionsAreSpelled : Type 0
AssertionsAreSpelled = (sigs : List Signature) (ctx params : List Binder) (stream : List ℕ) (e : Tree) (hyps heap : List Tree) → Sorted sigs ctx e → AllSorted sigs ctx hyps
    → RunsLeaving sigs ctx (own_assertion params stream e hyps) heap []
    ↔ ((marks : Marks) × SpellsText of_assertion sigs params stream (trees_of hyps) e marks × (heap ≡ marks.trees))

-- a definition's stream runs with the parameters as operands exactly where it spells a body, which the
-- target renames in its dummies
abbrev pub DefinitionsAreSpelled : Type 0
DefinitionsAreSpelled = (sigs : List Signature) (ctx params : List Binder) (stream : List ℕ) (e : Tree) (heap : List Tree) → Sorted sigs ctx e
    → RunsLeaving sigs ctx (unfolding_by stream (variables_from 0 params) e) heap []
    ↔ ((body : Tree) × (marks : Marks) × SpellsText of_definition sigs params stream none body marks × IsUnfolded ctx (variables_from 0 params) body marks e heap)
