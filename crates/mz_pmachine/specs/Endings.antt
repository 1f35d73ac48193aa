-- The END of a body over nodes.
use Rattle.std.specs.Prelude.{[]}
use Rattle.mz_machine_theory.specs.UnifyMachine.{Matching, at_end, in_definition}
use Rattle.mz_machine_theory.specs.MachineState.{State, Kind, is_axiom, is_theorem, is_definition, Heading}
use Rattle.mz_machine_theory.specs.ProofMachine.{own_stream, as_proofs}
use Rattle.mz_pmachine_theory.specs.NodeIdentity.{Numbered, portable}

-- what the row's own stream is run on
abbrev pub ended : Heading → State Numbered → Kind → Numbered → Matching Numbered
ended h st is_axiom e = own_stream portable h at_end e (as_proofs st.hyps)
ended h st is_theorem e = own_stream portable h at_end e (as_proofs st.hyps)
ended h st is_definition e = own_stream portable h in_definition e []
