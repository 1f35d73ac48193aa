-- A theorem's body that runs makes a proof, and no two.
use Rattle.std.proofs.Common.{◌≡◌, ℕ, suc, List, [], ◌∷◌, length, Result, Ok, refl, sym, ap, subst, ◌∙◌}
use Rattle.std.proofs.lemmas.List.{append-nil, append_cancel_left}
use Rattle.mz_cmd.specs.declared.rule.K.{K}
use Rattle.mz_logic_theory.specs.Tree.{Tree}
use Rattle.mz_logic_theory.specs.declared.binder.Binder.{Binder}
use Rattle.mz_mmu_theory.specs.Proof.{Proof}
use Rattle.mz_machine_theory.specs.Profile.{strict, Item, proof}
use Rattle.mz_machine_theory.proofs.Offered.{from_bind, taken-is}
use Rattle.mz_machine_theory.specs.MachineState.{RowsBefore, State, Kind, is_theorem, Heading}
use Rattle.mz_machine_theory.specs.ProofMachine.{last_item, own_variables, ends_with, proof_end}
use Rattle.mz_machine_theory.specs.Bodies.{body_start}
use Rattle.mz_trace.specs.OneHoleContexts.{Part, proved}
use Rattle.mz_trace.specs.Traces.{Trace, trace_start, trace_body}
use Rattle.mz_trace.specs.Laws.{BodiesMakeProofs, BodiesMakeOne}
use Rattle.mz_trace.proofs.Standing.{Asked, EachIs, Stands, proof-is}
use Rattle.mz_trace.proofs.Shapes.{shape, Shaped, shape-goes}
use Rattle.mz_trace.proofs.WholeTraces.{body-traced, start-stands}

pub last-proof : (xs : List (Item Tree)) (e : Tree) → last_item is_theorem xs ≡ Ok e → xs ≡ proof e ∷ []
last-proof (proof x ∷ []) e is = ap (λ (z : Tree). proof z ∷ []) (taken-is x e is)
last-proof xs e is = absurd cc

-- a proof alone is left
pub one-left : (tables : RowsBefore) (h : Heading) (last : State Tree) → h.kind ≡ is_theorem → proof_end strict tables h last ≡ Ok last → (e : Tree) × (last.stack ≡ proof e ∷ [])
unfolding proof_end ends_with
one-left tables h last kind done =
    from_bind (ends_with strict tables h last) _ last done λ m m-is e1.
    from_bind (last_item h.kind last.stack) _ m m-is λ e e-is e2.
    (e, last-proof last.stack e (subst (λ (z : Kind). last_item z last.stack ≡ Ok e) kind e-is))

nothing-left : (A : Asked) (hyps : List Tree) (lets : List Proof) (ts : List Part) → Stands A hyps lets [] ts → ts ≡ []
nothing-left A hyps lets [] h = refl
nothing-left A hyps lets (t ∷ ts) h = absurd h

-- and what stands beside it is its proof alone
pub one-stands : (A : Asked) (hyps : List Tree) (lets : List Proof) (e : Tree) (xs : List (Item Tree)) (ts : List Part) → xs ≡ proof e ∷ [] → Stands A hyps lets xs ts
    → (p : Proof) × (ts ≡ proved p ∷ []) × A.of_proof hyps lets p e
one-stands A hyps lets e xs ts is h =
    let (p, us, ts-is, _, proves, below) = proof-is A hyps lets e [] ts (subst (λ (z : List (Item Tree)). Stands A hyps lets z ts) is h) in
    (p, ts-is ∙ ap (λ (z : List Part). proved p ∷ z) (nothing-left A hyps lets us below), proves)

variables-made : (tables : RowsBefore) (i : ℕ) (ps : List Binder) → EachIs (shape tables) (own_variables strict i ps)
variables-made tables i [] = tt
variables-made tables i (p ∷ ps) = (tt, variables-made tables (suc i) ps)

pub start-shaped : (tables : RowsBefore) (h : Heading) → Shaped tables h.params (body_start strict h) (trace_start h).1
start-shaped tables h = record {
  context = ([], sym (append-nil h.params));
  lets = tt;
  heap = start-stands (shape tables) [] [] 0 h.params (variables-made tables 0 h.params);
  stack = tt;
}

pub bodies-make : BodiesMakeProofs
bodies-make tables h at bytes kind (last, runs) =
    let (tr, traced, shaped, done) =
    body-traced tables h (Shaped tables h.params) (shape-goes tables h.params) (length bytes) at bytes (body_start strict h) (trace_start h).1 last runs (start-shaped tables h) in
    let (e, last-is) = one-left tables h last kind done in
    let (root, left, _) = one-stands (shape tables) last.hyps tr.lets e last.stack tr.stack last-is shaped.stack in
    let (dummies, ctx-is) = shaped.context in
    (dummies, tr.lets, root, record { last = (last, tr); runs = traced; left = left; names = refl; dummies_are = ctx-is })

-- ---- no two

pub one-result : {S : Type 0} (r : Result S K) (x y : S) → r ≡ Ok x → r ≡ Ok y → x ≡ y
one-result r x y p q = cc

pub one-proof : (p q : Proof) (ts : List Part) → ts ≡ proved p ∷ [] → ts ≡ proved q ∷ [] → p ≡ q
one-proof p q ts a b = cc

pub made-once : BodiesMakeOne
made-once tables h bytes ds es ps qs p q a b =
    let same : a.last ≡ b.last = one-result (trace_body tables h bytes) a.last b.last a.runs b.runs in (
      append_cancel_left h.params ds es (sym a.dummies_are ∙ ap (λ (z : State Tree × Trace). z.0.ctx) same ∙ b.dummies_are),
      sym a.names ∙ ap (λ (z : State Tree × Trace). z.1.lets) same ∙ b.names,
      one-proof p q a.last.1.stack a.left (ap (λ (z : State Tree × Trace). z.1.stack) same ∙ b.left),
    )
