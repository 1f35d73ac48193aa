-- The END of a body over a store.
use Rattle.std.specs.Prelude.{◌≡◌, ℕ, ⊤, List, [], Result, Ok, Err}
use Rattle.mz_cmd.specs.declared.rule.K.{K}
use Rattle.mz_logic_theory.specs.Tree.{Tree}
use Rattle.mz_machine_theory.specs.Profile.{strict, Item}
use Rattle.mz_machine_theory.specs.UnifyMachine.{Matching, UnifyState, at_end, in_definition}
use Rattle.mz_unify.specs.declared.unified.UnifyMode.{UnifyMode}
use Rattle.mz_unify.specs.declared.unified.UnifyMode.TheVariants.{Final, Body}
use Rattle.mz_machine_theory.specs.MachineState.{State, Kind, is_axiom, is_theorem, is_definition, Heading}
use Rattle.mz_machine_theory.specs.ProofMachine.{own_stream, as_proofs}
use Rattle.mz_unify.specs.declared.stop.Stop.{Stop}
use Rattle.mz_unify.specs.declared.stop.Stop.TheVariants.{Rule, Mem}

abbrev pub mode_at : Kind → UnifyMode
mode_at is_axiom = Final
mode_at is_theorem = Final
mode_at is_definition = Body

-- the items from which the row's own stream takes hypotheses
abbrev pub items_of : {T : Type 0} → Kind → List T → List (Item T)
items_of is_axiom hyps = as_proofs hyps
items_of is_theorem hyps = as_proofs hyps
items_of is_definition hyps = []

-- what the row's own stream is run on
abbrev pub ended : Heading → State Tree → Kind → Tree → Matching Tree
ended h st is_axiom e = own_stream strict h at_end e (as_proofs st.hyps)
ended h st is_theorem e = own_stream strict h at_end e (as_proofs st.hyps)
ended h st is_definition e = own_stream strict h in_definition e []

-- the run ends, or is stopped by this rule
abbrev pub IsOwnRun : {T A : Type 0} → Result (UnifyState T) (ℕ × K) → Result A Stop → Type 0
IsOwnRun {T} r (Ok x) = (u : UnifyState T) × (r ≡ Ok u)
IsOwnRun r (Err (Rule k)) = (at : ℕ) × (r ≡ Err (at, k))
IsOwnRun r (Err Mem) = ⊤
