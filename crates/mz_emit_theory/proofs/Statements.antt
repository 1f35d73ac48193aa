-- Statements whose texts and bodies share run by identity.
use Rattle.std.proofs.Common.{◌≡◌, Bool, true, false, List, [], ◌∷◌, ◌++◌, Some, refl, sym, subst}
use Rattle.mz_logic_theory.specs.Tree.{listed}
use Rattle.mz_logic_theory.specs.Signature.{Signature}
use Rattle.mz_logic_theory.specs.Declaration.{sorts, signatures}
use Rattle.mz_machine_theory.specs.Spells.{SpelledTerm}
use Rattle.mz_machine_theory.specs.Profile.{strict}
use Rattle.mz_machine_theory.specs.Bodies.{Runs}
use Rattle.mz_machine_theory.specs.MachineState.{signatures_in, is_definition, Heading}
use Rattle.mz_machine_theory.specs.Lists.{kind_of, assertion_of, definition_of}
use Rattle.mz_machine_theory.proofs.Offered.{some_is}
use Rattle.mz_emit_theory.proofs.Joining.{contexts-depend}
use Rattle.mz_emit_theory.proofs.SameTables.{in-tables}
use Rattle.mz_pmachine_theory.specs.NodeIdentity.{portable}
use Rattle.mz_emit_theory.specs.SharedRows.{SharesBody, IsSharedRow, AreSharedRows}
use Rattle.mz_emit_theory.specs.PortableLaws.{AssertionsRunByIdentity, DefinitionsRunByIdentity}
use Rattle.mz_emit_theory.proofs.LongerRows.{texts-share, shared-with-term}
use Rattle.mz_emit_theory.proofs.SharedRuns.{shared-runs}

no-definition : (without_proof : Bool) → kind_of without_proof ≡ is_definition → ⊥
no-definition true is = cc
no-definition false is = cc

pub assertions-run : AssertionsRunByIdentity
assertions-run tables env env' declares same rows a dummies stream at bytes params plain-ones b ran =
    let h : Heading = assertion_of a.is_axiom (record { params = a.params; stream = stream }) in
    (shared-runs tables env env' declares same rows h dummies (λ kind. absurd (no-definition a.is_axiom kind)) (contexts-depend (sorts env) a.params dummies params plain-ones) a.conclusion (listed a.hyps) at bytes b).0 ran

pub definitions-run : DefinitionsRunByIdentity
definitions-run tables env env' declares same rows signature dummies dummies' e e' stream further at bytes params plain-ones text b row is =
    let made : SpelledTerm = record { signature = signature; stream = Some (stream ++ further) } in
    let h : Heading = definition_of made (stream ++ further) in
    let shares : SharesBody (signatures_in tables) signature.params (stream ++ further) =
    subst (λ (z : List Signature). SharesBody z signature.params (stream ++ further)) (sym (in-tables tables env env' declares same)) (texts-share (signatures env) signature.params stream e' dummies' text further) in
    let one : IsSharedRow (signatures_in tables) made = λ s s-is. subst (SharesBody (signatures_in tables) signature.params) (some_is refl s-is) shares in
    subst (λ (r : SpelledTerm). (Runs strict tables (definition_of r (stream ++ further)) at bytes → Runs portable tables (definition_of r (stream ++ further)) at bytes) × AreSharedRows (tables.terms ++ r ∷ [])) (sym is) (
      (shared-runs tables env env' declares same rows h dummies (λ kind. shares) (contexts-depend (sorts env) signature.params dummies params plain-ones) e [] at bytes b).0,
      shared-with-term tables.terms made rows one,
    )
