-- What a run over a store stands for: the stream spells a pattern, of which the target and the
-- hypotheses are the instance.
use Rattle.std.specs.Prelude.{◌≡◌, ℕ, List, [], length, map, reverse}
use Rattle.mz_logic_theory.specs.Tree.{Tree, Trees, none, listed}
use Rattle.mz_logic_theory.specs.Signature.{Signature}
use Rattle.mz_logic_theory.specs.declared.binder.Binder.{Binder}
use Rattle.mz_machine_theory.specs.Streams.{of_assertion, of_definition}
use Rattle.mz_machine_theory.specs.Spells.{trees_of, variables_from, Marks, SpellsText}
use Rattle.mz_machine_theory.specs.Profile.{Item, proof}
use Rattle.mz_machine_theory.specs.UnifyMachine.{Matching}
use Rattle.mz_machine_theory.specs.UnifyLaws.{instances_of, IsCitedAs, IsUnfolded}
use Rattle.mz_unify.specs.Stored.{Says}
use Rattle.mz_unify.specs.declared.unified.Unified.{Unified}
use Rattle.mz_unify.specs.declared.unified.UnifyMode.{UnifyMode}
use Rattle.mz_unify.specs.declared.unified.UnifyMode.TheVariants.{Use, Final, Body}

-- an assertion is cited, of which so many hypotheses stand on top of the items, the last one first; the
-- heap holds the instances of the marks, and these items are left
abbrev pub IsCitation : List Signature → List Binder → Matching Tree → ℕ → List Tree → List (Item Tree) → Type 0
IsCitation sigs params m taken heap rest =
    (hyps : Trees) × (conclusion : Tree) × (marks : Marks) × SpellsText of_assertion sigs params m.stream hyps conclusion marks
    × IsCitedAs hyps conclusion m.operands m.target m.items rest × (heap ≡ instances_of (trees_of m.operands) marks) × (length (listed hyps) ≡ taken)

-- the target and all items are the assertion that the stream spells; the heap holds the marks
abbrev pub IsOwnAssertion : List Signature → List Binder → Matching Tree → ℕ → List Tree → List (Item Tree) → Type 0
IsOwnAssertion sigs params m taken heap rest =
    (hyps : List Tree) × (marks : Marks) × SpellsText of_assertion sigs params m.stream (trees_of hyps) m.target marks
    × (m.items ≡ map proof (reverse hyps)) × (heap ≡ marks.trees) × (rest ≡ []) × (length hyps ≡ taken)

-- the target is the body that the stream spells, over the operands and fresh variables for its dummies;
-- the heap holds the instances of the marks
abbrev pub IsInstanceOfBody : List Signature → List Binder → List Binder → Matching Tree → ℕ → List Tree → List (Item Tree) → Type 0
IsInstanceOfBody sigs ctx params m taken heap rest =
    (body : Tree) × (marks : Marks) × SpellsText of_definition sigs params m.stream none body marks
    × IsUnfolded ctx m.operands body marks m.target heap × (rest ≡ m.items) × (taken ≡ 0)

-- by mode
abbrev pub IsInstance : UnifyMode → List Signature → List Binder → List Binder → Matching Tree → ℕ → List Tree → List (Item Tree) → Type 0
IsInstance Use sigs ctx params m taken heap rest = IsCitation sigs params m taken heap rest
IsInstance Final sigs ctx params m taken heap rest = IsOwnAssertion sigs params m taken heap rest
IsInstance Body sigs ctx params m taken heap rest = IsInstanceOfBody sigs ctx params m taken heap rest

-- the operands are for these parameters: at an assertion's own end they are the parameters themselves,
-- and the items the proofs of its hypotheses
abbrev pub AreOperandsFor : UnifyMode → List Binder → Matching Tree → Type 0
AreOperandsFor Use params m = length m.operands ≡ length params
AreOperandsFor Final params m = (m.operands ≡ variables_from 0 params) × ((hyps : List Tree) × (m.items ≡ map proof (reverse hyps)))
AreOperandsFor Body params m = length m.operands ≡ length params

-- it is no instance, whatever would be taken and left
abbrev pub IsNoInstance : UnifyMode → List Signature → List Binder → List Binder → Matching Tree → Type 0
IsNoInstance mode sigs ctx params m = (taken : ℕ) (heap : List Tree) (rest : List (Item Tree)) → IsInstance mode sigs ctx params m taken heap rest → ⊥

-- what is said is whether it is an instance
abbrev pub IsExact : UnifyMode → List Signature → List Binder → List Binder → Matching Tree → Unified → List Tree → List (Item Tree) → Type 0
IsExact mode sigs ctx params m said heap rest = Says said (λ taken. IsInstance mode sigs ctx params m taken heap rest) (λ _ _. IsNoInstance mode sigs ctx params m)
