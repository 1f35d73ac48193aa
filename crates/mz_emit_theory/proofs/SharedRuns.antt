-- A shared body that runs by the standard machine runs by identity.
use Rattle.std.proofs.Common.{◌≡◌, ℕ, ◌+◌, ◌≤◌, false, List, [], ◌∷◌, ◌++◌, length, map, Result, Ok, refl, sym, ap, subst, ◌∙◌, inl, inr, arith}
use Rattle.std.proofs.lemmas.List.{length-map}
use Rattle.mz_cmd.specs.declared.rule.K.{K}
use Rattle.mz_cmd.specs.declared.code.ProofCode.{ProofCode}
use Rattle.mz_cmd.specs.declared.code.ProofCode.TheVariants as code
use Rattle.mz_logic_theory.specs.Tree.{Tree, Trees, app}
use Rattle.mz_logic_theory.specs.Signature.{Signature}
use Rattle.mz_logic_theory.specs.Declaration.{Declaration, signatures}
use Rattle.mz_logic_theory.specs.declared.binder.Binder.{Binder}
use Rattle.mz_machine_theory.specs.Steps.{◌>>=◌}
use Rattle.mz_machine_theory.specs.Spells.{trees_of}
use Rattle.mz_machine_theory.specs.Sorted.{Sorted}
use Rattle.mz_machine_theory.specs.Profile.{strict, expr, obligation}
use Rattle.mz_machine_theory.proofs.Offered.{from_bind, fits-length, own-are}
use Rattle.mz_machine_theory.specs.MachineState.{RowsBefore, signatures_in, State, Heading, Declares}
use Rattle.mz_machine_theory.specs.Premises.{bound_count}
use Rattle.mz_machine_theory.specs.ProofMachine.{proof_step, proof_end}
use Rattle.mz_machine_theory.specs.Bodies.{body_start, body_run, Runs}
use Rattle.mz_emit_theory.specs.SymbolicState.{renamed, item_renamed, name_in, Work, work_start, machine}
use Rattle.mz_emit_theory.specs.Steps.{Step, Steps, command_bytes, run_commands}
use Rattle.mz_emit_theory.specs.AlphaEquivalence.{IsSameEnv}
use Rattle.mz_emit_theory.specs.Endings.{spelled_body, MayStand}
use Rattle.mz_emit_theory.specs.Bodies.{last_item}
use Rattle.mz_emit_theory.specs.SharedBodies.{IsSharedBody}
use Rattle.mz_emit_theory.specs.BodyLaws.{IsRightTree, AreRightItems, DependOnFirst, IsRight}
use Rattle.mz_emit_theory.proofs.Naming.{deps-kept, renamed-trees}
use Rattle.mz_emit_theory.proofs.Rightness.{sorted-forward}
use Rattle.mz_emit_theory.proofs.SameTables.{in-tables}
use Rattle.mz_emit_theory.proofs.Unfolds.{IsSpelledUnfolding, spelled-unfolding}
use Rattle.mz_emit_theory.proofs.Running.{steps-run}
use Rattle.mz_emit_theory.proofs.Bytes.{body-from-run}
use Rattle.mz_emit_theory.proofs.Starting.{start-right, start-machine}
use Rattle.mz_emit_theory.proofs.WholeBodies.{bodies-run}
use Rattle.mz_pmachine_theory.specs.NodeIdentity.{portable}
use Rattle.mz_pmachine_theory.specs.SharedBuilding.{portable_trees, makes_from, body_makes, MadeOnce}
use Rattle.mz_pmachine_theory.proofs.Offered.{rows-too, shared-run}
use Rattle.mz_emit_theory.specs.SharedRows.{AreSharedRows, IsSharedHeading}
use Rattle.mz_emit_theory.specs.PortableLaws.{SharedBodiesRunByIdentity}
use Rattle.mz_emit_theory.proofs.Turns.{may-stand, end-of}
use Rattle.mz_emit_theory.proofs.RowsGo.{is-unfold, unfold-too, own-too, end-too}
use Rattle.mz_emit_theory.proofs.Making.{GoThrough, run-makes, made-once}

module _ (tables : RowsBefore) (env env' : List Declaration) (declares : Declares tables env') (same : IsSameEnv env env') (rows : AreSharedRows tables.terms)
    (n : ℕ) (ctx : List Binder) (first : DependOnFirst n ctx) (few : bound_count ctx ≤ 55) where
  abbrev Sigs : List Signature
  Sigs = signatures env

  -- an expression that is right has a sort where the machine is
  named-sorted : (w : Work) → IsRight Sigs n ctx w → (e : Tree) → IsRightTree Sigs ctx w.met e → Sorted (signatures_in tables) (machine ctx w).ctx (renamed (name_in w.met) e)
  named-sorted w right e e-right =
      subst (λ (z : List Signature). Sorted z (machine ctx w).ctx (renamed (name_in w.met) e)) (sym (in-tables tables env env' declares same))
      (sorted-forward Sigs ctx w.met (deps-kept n ctx w.met first right.own) e e-right)

  goes-unfold : (at v : ℕ) (w w' : Work) (s : State Tree) → IsRight Sigs n ctx w → Step false env ctx w code.Unfold v w'
      → proof_step strict tables at code.Unfold v (machine ctx w) ≡ Ok s → proof_step portable_trees tables at code.Unfold v (machine ctx w) ≡ Ok s
  goes-unfold at v w w' s right (t, es, e, r, rest, unfolding-is, on, _) ran =
      let g : ℕ → ℕ = name_in w.met in
      let (e-right, below) = subst (AreRightItems Sigs ctx w.met) on right.stack in
      let ((s', has), _) = below.0 in
      let u : IsSpelledUnfolding tables Sigs ctx t es e = spelled-unfolding tables env env' declares same ctx t es e s' has unfolding-is in
      let stack-is : (machine ctx w).stack ≡ expr (renamed g e) ∷ expr (app t (trees_of (map (renamed g) es))) ∷ obligation (app t (trees_of (map (renamed g) es))) (renamed g r) ∷ map (item_renamed g) rest =
      ap (map (item_renamed g)) on ∙ ap (λ (z : Trees). expr (renamed g e) ∷ expr (app t z) ∷ obligation (app t z) (renamed g r) ∷ map (item_renamed g) rest) (renamed-trees g es) in
      unfold-too tables at v t (machine ctx w) (map (renamed g) es) (renamed g e) (renamed g r) (map (item_renamed g) rest) u.row u.stream u.row_at u.stream_is stack-is
      (rows t u.row u.row_at u.stream u.stream_is) (length-map es (renamed g) ∙ fits-length Sigs ctx es u.row.signature.params u.fits) (named-sorted w right e e-right) s ran

  go-through : GoThrough tables env n ctx
  go-through at c w w' right step =
      let (ran, right') = steps-run false tables env env' declares same n ctx first few at (c ∷ []) w w' right (w', step, refl) in
      let row : proof_step strict tables at c.0 c.1 (machine ctx w) ≡ Ok (machine ctx w') = from_bind (proof_step strict tables at c.0 c.1 (machine ctx w)) _ (machine ctx w') ran λ s went is. went ∙ is in (
        elim (is-unfold c.0) [
          | inl is ↦ subst (λ (z : ProofCode). Step false env ctx w z c.1 w' → proof_step strict tables at z c.1 (machine ctx w) ≡ Ok (machine ctx w') → proof_step portable_trees tables at z c.1 (machine ctx w) ≡ Ok (machine ctx w')) (sym is)
              (λ h went. goes-unfold at c.1 w w' (machine ctx w') right h went) step row
          | inr other ↦ rows-too tables at c.0 c.1 (machine ctx w) (machine ctx w') other row
        ],
        right',
      )

  commands-go : (at : ℕ) (cs : List (ProofCode × ℕ)) (w w' : Work) → IsRight Sigs n ctx w → Steps false env ctx w cs w' → run_commands portable_trees tables at cs (machine ctx w) ≡ Ok (machine ctx w')
  commands-go at [] w w' right is = ap (λ (z : Work). Ok (machine ctx z)) (sym is)
  commands-go at (c ∷ cs) w w' right (mid, step, steps) =
      let (row, mid-right) = go-through at c w mid right step in
      ap (λ (r : Result (State Tree) K). r >>= run_commands portable_trees tables (at + length (command_bytes c)) cs) row ∙ commands-go (at + length (command_bytes c)) cs mid w' mid-right steps

start-too : (h : Heading) → body_start strict h ≡ body_start portable_trees h
start-too h = ap begun (own-are 0 h.params ∙ sym (own-too 0 h.params))
  where
    begun : List Tree → State Tree
    begun es = record { ctx = h.params; heap = map expr es; stack = []; hyps = [] }

from-table : (tables : RowsBefore) (env env' : List Declaration) → Declares tables env' → IsSameEnv env env' → AreSharedRows tables.terms
    → (h : Heading) (dummies : List Binder) → IsSharedHeading (signatures_in tables) h → DependOnFirst (length h.params) (h.params ++ dummies)
    → (e : Tree) (hyps : List Tree) (at : ℕ) (bytes : List ℕ) → IsSharedBody false env h.kind h.params dummies e hyps bytes → Runs strict tables h at bytes → Runs portable tables h at bytes
from-table tables env env' declares same rows h dummies own first e hyps at bytes b (last, ran) =
    let ctx : List Binder = h.params ++ dummies in
    let Sigs : List Signature = signatures env in
    let cs : List (ProofCode × ℕ) = b.body.commands in
    let w : Work = b.body.work in
    let m : ℕ = length h.params in
    let begun : IsRight Sigs m ctx (work_start h.params) = start-right Sigs h.params dummies in
    let (by-table, right) = steps-run false tables env env' declares same m ctx first b.body.few at cs (work_start h.params) w begun b.body.steps in
    let at-first : machine ctx (work_start h.params) ≡ body_start portable_trees h = start-machine h dummies ∙ start-too h in
    let went : run_commands portable_trees tables at cs (body_start portable_trees h) ≡ Ok (machine ctx w) =
    subst (λ (z : State Tree). run_commands portable_trees tables at cs z ≡ Ok (machine ctx w)) at-first (commands-go tables env env' declares same rows m ctx first b.body.few at cs (work_start h.params) w begun b.body.steps) in
    let strict-end : proof_end strict tables h (machine ctx w) ≡ Ok (machine ctx w) = end-of strict tables h at cs (machine ctx w) last b.body.may_stand
    (subst (λ (z : State Tree). run_commands strict tables at cs z ≡ Ok (machine ctx w)) (start-machine h dummies) by-table) (subst (λ (z : List ℕ). body_run strict tables h at z ≡ Ok last) b.body.spelled ran) in
    let ended : proof_end portable_trees tables h (machine ctx w) ≡ Ok (machine ctx w) = end-too tables h (machine ctx w) (machine ctx w) own
    (λ kind.
    (let on : w.stack ≡ expr e ∷ [] = b.body.stack ∙ ap (λ k. last_item k e ∷ []) kind in
    let e-right : IsRightTree Sigs ctx w.met e = (subst (AreRightItems Sigs ctx w.met) on right.stack).0 in
    (renamed (name_in w.met) e, ap (map (item_renamed (name_in w.met))) on, named-sorted tables env env' declares same rows m ctx first b.body.few w right e e-right)))
    strict-end in
    let stand : MayStand portable_trees h.kind cs = may-stand h.kind cs b.plain b.body.may_stand in
    let runs : Runs portable_trees tables h at (spelled_body cs) = (machine ctx w, body-from-run portable_trees tables h at cs (machine ctx w) stand went ended) in
    let (makes, built-right) = run-makes tables env m ctx (go-through tables env env' declares same rows m ctx first b.body.few) h (length (spelled_body cs)) at cs (work_start h.params) w b.built_are (omega arith) stand begun b.builds in
    let once : MadeOnce (body_makes portable_trees tables h at (spelled_body cs)) =
    subst (λ (z : State Tree). MadeOnce (makes_from portable_trees tables h (length (spelled_body cs)) at (spelled_body cs) z)) at-first
    (made-once Sigs ctx w.met (makes_from portable_trees tables h (length (spelled_body cs)) at (spelled_body cs) (machine ctx (work_start h.params))) b.built_are makes built-right b.distinct) in
    subst (Runs portable tables h at) (sym b.body.spelled) (shared-run tables h at (spelled_body cs) runs once)

pub shared-runs : SharedBodiesRunByIdentity
shared-runs tables env env' declares same rows h dummies own first e hyps at bytes b =
    let by-identity : Runs strict tables h at bytes → Runs portable tables h at bytes = from-table tables env env' declares same rows h dummies own first e hyps at bytes b in (
      by-identity,
      (λ ends. by-identity (subst (Runs strict tables h at) (sym b.body.spelled) (bodies-run false tables env env' declares same h dummies first b.body.few at b.body.commands b.body.work b.body.may_stand b.body.steps ends))),
    )
