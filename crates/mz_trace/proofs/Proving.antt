-- The proof that a body makes is one of what the row spells.
use Rattle.std.proofs.Common.{◌≡◌, ℕ, suc, ◌+◌, true, false, List, [], ◌∷◌, ◌++◌, length, Some, Ok, refl, sym, ap, subst, ◌∙◌, arith}
use Rattle.std.specs.Prelude.{slice_get}
use Rattle.std.proofs.lemmas.List.{append-nil, append_cancel_left}
use Rattle.mz_cmd.specs.declared.code.ProofCode.{ProofCode}
use Rattle.mz_logic_theory.specs.Tree.{Tree}
use Rattle.mz_logic_theory.specs.Declaration.{Assertion, Declaration, sorts, signatures}
use Rattle.mz_logic_theory.specs.LegalLists.{AreDummies}
use Rattle.mz_logic_theory.specs.declared.binder.Binder.{Binder}
use Rattle.mz_mmu_theory.specs.Proof.{Proof}
use Rattle.mz_mmu_theory.specs.Meaning.{IsProofOf}
use Rattle.mz_mmu_theory.proofs.Offered.{allowed}
use Rattle.mz_machine_theory.specs.Streams.{of_assertion}
use Rattle.mz_machine_theory.specs.Spells.{trees_of, Text, SpellsThm}
use Rattle.mz_machine_theory.specs.Profile.{strict, proof}
use Rattle.mz_machine_theory.specs.Sorted.{Sorted, ItemsSorted}
use Rattle.mz_machine_theory.specs.UnifyMachine.{at_end}
use Rattle.mz_machine_theory.proofs.Offered.{taken-is, one-assertion, assertion-spelled, end-ran, own-run, made, start-fact, claims-sorted}
use Rattle.mz_machine_theory.specs.MachineState.{RowsBefore, State, Kind, is_theorem, Heading, Declares}
use Rattle.mz_machine_theory.specs.ProofMachine.{last_item, ending, own_variables, own_stream, as_proofs, proof_step, proof_end}
use Rattle.mz_machine_theory.specs.Bodies.{body_start}
use Rattle.mz_machine_theory.specs.Invariant.{Fact}
use Rattle.mz_machine_theory.specs.Sound.{thm_row}
use Rattle.mz_trace.specs.Traces.{Trace, traced, trace_start, trace_body, under_lets}
use Rattle.mz_trace.specs.Laws.{MadeProofsProve}
use Rattle.mz_trace.proofs.Standing.{EachIs}
use Rattle.mz_trace.proofs.RowsStand.{Standing}
use Rattle.mz_trace.proofs.Shapes.{Shaped, shape-goes}
use Rattle.mz_trace.proofs.WholeTraces.{body-traced, start-stands}
use Rattle.mz_trace.proofs.BodiesMake.{last-proof, one-stands, start-shaped, one-result, one-proof}
use Rattle.mz_trace.proofs.PlainProofs.{Proves, LetsProve, proves-under}
use Rattle.mz_trace.proofs.Deriving.{anything, deriving_from, Derived, derived-goes}

module _ (N : Type 0) (tables : RowsBefore) (env : List Declaration) (declares : Declares tables env) (h : Heading) (full : List Binder) where
  -- it has its shape, and derives what it should
  abbrev pub Kept : State Tree → Trace → Type 0
  Kept st tr = Shaped tables h.params st tr × Derived N tables env declares h.params full st tr

  pub kept-goes : (at : ℕ) (c : ProofCode) (n : ℕ) (st : State Tree) (tr : Trace) (st' : State Tree) → proof_step strict tables at c n st ≡ Ok st' → Kept st tr
      → (tr' : Trace) × (traced tables c n st tr ≡ Ok tr') × Kept st' tr'
  kept-goes at c n st tr st' row (shaped, derived) =
      let (tr', goes, shaped') = shape-goes tables h.params at c n st tr st' row shaped in (
        tr',
        goes,
        (
          shaped',
          λ front.
              let (fact, (other, goes-too, stands)) = derived-goes N tables env declares h.params full at c n st tr st' row derived front in
              let same : other ≡ tr' = one-result (traced tables c n st tr) other tr' goes-too goes in
              (fact, subst (λ (z : Trace). Standing (deriving_from N env full) h.params st' z) same stands),
        ),
      )

  -- ---- the start

  variables-right : (i : ℕ) (ps : List Binder) → ((j : ℕ) (b : Binder) → slice_get ps j ≡ Some b → slice_get full (i + j) ≡ Some b)
      → EachIs (deriving_from N env full) (own_variables strict i ps)
  variables-right i [] at = tt
  variables-right i (p ∷ ps) at =
      let here : slice_get full i ≡ Some p = subst (λ (z : ℕ). slice_get full z ≡ Some p) (omega arith) (at 0 p refl) in
      ((p.sort, (p, here, refl)), variables-right (suc i) ps λ j b e. subst (λ (z : ℕ). slice_get full z ≡ Some b) (omega arith) (at (suc j) b e))

  pub start-kept : Kept (body_start strict h) (trace_start h).1
  start-kept = (
    start-shaped tables h,
    λ front. (
      start-fact false tables h anything env declares full,
      record {
        context = ([], sym (append-nil h.params));
        lets = tt;
        heap = start-stands (deriving_from N env full) [] [] 0 h.params
            (variables-right 0 h.params λ j b e. subst (λ (z : ℕ). slice_get full z ≡ Some b) (omega arith) (front j b e));
        stack = tt;
      },
    ),
  )

-- ---- what the row spells

-- what a theorem's body leaves is the conclusion of what its row spells, and its hypotheses are those of it
spelled : (tables : RowsBefore) (env : List Declaration) (declares : Declares tables env) (h : Heading) (last : State Tree) → h.kind ≡ is_theorem
    → Fact anything env h.params last.ctx last → proof_end strict tables h last ≡ Ok last
    → (a : Assertion) → a.is_axiom ≡ false → SpellsThm (signatures env) (thm_row h) a → (e : Tree) × (last.stack ≡ proof e ∷ []) × (a ≡ made h false last e)
spelled tables env declares h last kind fact done a theorem spells =
    end-ran tables h last done λ e m u e-is ending-is ran.
    let stack-is : last.stack ≡ proof e ∷ [] = last-proof last.stack e (subst (λ (z : Kind). last_item z last.stack ≡ Ok e) kind e-is) in
    let m-is : own_stream strict h at_end e (as_proofs last.hyps) ≡ m = taken-is _ m (subst (λ (z : Kind). ending strict tables h last z e ≡ Ok m) kind ending-is) in
    let sorted : Sorted (signatures env) last.ctx e = (subst (ItemsSorted (signatures env) last.ctx) stack-is fact.stack_sorted).0 in
    let text : Text of_assertion (signatures env) h.params h.stream (trees_of last.hyps) e [] =
    assertion-spelled (signatures env) last.ctx h.params h.stream e last.hyps u (own-run tables env declares h last.ctx at_end e (as_proofs last.hyps) m u m-is ran) sorted
    (claims-sorted env last.ctx last.hyps fact.hyps_provable) in
    (e, stack-is, one-assertion (signatures env) (thm_row h) a (made h false last e) theorem spells (refl, text))

-- a gap, where none is allowed
abbrev NoGap : Type 0
NoGap = false ≡ true

-- a proof that derives behind its lets is one of the assertion
proof-of : (env : List Declaration) (ctx : List Binder) (h : Heading) (last : State Tree) (e : Tree) (lets : List Proof) (p : Proof)
    → LetsProve NoGap env ctx last.hyps lets → Proves NoGap env ctx last.hyps lets p e → IsProofOf false env ctx (made h false last e) (under_lets lets p)
proof-of env ctx h last e lets p all proves =
    let (derives, lets-derive, leaves) = proves-under NoGap env ctx last.hyps lets p e all proves in
    (derives, lets-derive, allowed false env (under_lets lets p) leaves)

pub made-proves : MadeProofsProve
made-proves tables env legal declares h at bytes kind right (last, runs) a theorem spells dummies lets root m =
    let (tr, runs-too, kept, done) =
    body-traced tables h (Kept NoGap tables env declares h last.ctx) (kept-goes NoGap tables env declares h last.ctx) (length bytes) at bytes (body_start strict h) (trace_start h).1 last runs
    (start-kept NoGap tables env declares h last.ctx) in
    let (fact, stands) = kept.1 λ x b is. is in
    let (e, stack-is, a-is) = spelled tables env declares h last kind fact done a theorem spells in
    let (p, left, proves) = one-stands (deriving_from NoGap env last.ctx) last.hyps tr.lets e last.stack tr.stack stack-is stands.stack in
    let same : m.last ≡ (last, tr) = one-result (trace_body tables h bytes) m.last (last, tr) m.runs runs-too in
    let root-is : p ≡ root = one-proof p root tr.stack left (sym (ap (λ (z : State Tree × Trace). z.1.stack) same) ∙ m.left) in
    let lets-are : tr.lets ≡ lets = sym (ap (λ (z : State Tree × Trace). z.1.lets) same) ∙ m.names in
    let ctx-is : last.ctx ≡ h.params ++ dummies = sym (ap (λ (z : State Tree × Trace). z.0.ctx) same) ∙ m.dummies_are in
    let (ds, is, are) = fact.context in
    let dummies-are : ds ≡ dummies = append_cancel_left h.params ds dummies (sym is ∙ ctx-is) in
    let proof-is : IsProofOf false env last.ctx (made h false last e) (under_lets tr.lets p) = proof-of env last.ctx h last e tr.lets p stands.lets proves in
    let proof-too : IsProofOf false env (h.params ++ dummies) (made h false last e) (under_lets lets root) =
    subst (λ (c : List Binder). IsProofOf false env c (made h false last e) (under_lets lets root)) ctx-is
    (subst (λ (z : List Proof). IsProofOf false env last.ctx (made h false last e) (under_lets z root)) lets-are
    (subst (λ (z : Proof). IsProofOf false env last.ctx (made h false last e) (under_lets tr.lets z)) root-is proof-is)) in
    (subst (AreDummies (sorts env)) dummies-are are, subst (λ (z : Assertion). IsProofOf false env (z.params ++ dummies) z (under_lets lets root)) (sym a-is) proof-too)
