-- The operands of what is written take four bytes at most: a step refers to what is there, and the heap has one item more
-- for each command at the most.
use Rattle.std.specs.Prelude.{ℕ, ◌≡◌, ◌<◌, ◌≤◌, ◌+◌, ◌*◌, ◌^◌, Bool, false, List, [], ◌∷◌, ◌++◌, length}
use Rattle.std.proofs.Common.{ap, arith, inl, inr}
use Rattle.std.proofs.lemmas.List.{length-append}
use Rattle.std.proofs.lemmas.Option.{slice_get_within}
use Rattle.mz_cmd.specs.declared.code.ProofCode.{ProofCode}
use Rattle.mz_cmd.specs.declared.code.ProofCode.TheVariants as code
use Rattle.mz_logic_theory.specs.Tree.{Tree, listed, size, trees_size}
use Rattle.mz_logic_theory.specs.Declaration.{Declaration, signatures, assertions}
use Rattle.mz_logic_theory.specs.declared.binder.Binder.{Binder}
use Rattle.mz_machine_theory.specs.Profile.{Item, expr, proof, obligation, conversion}
use Rattle.mz_machine_theory.specs.Spells.{dummy_of}
use Rattle.mz_emit_theory.specs.BodyWriting.{definition_written, axiom_written, theorem_written}
use Rattle.mz_emit_theory.specs.SharedBodies.{Builds, IsPlain, ArePlain}
use Rattle.mz_emit_theory.specs.Steps.{IsReferred, Step}
use Rattle.mz_emit_theory.specs.StreamLaws.{IsSmall}
use Rattle.mz_emit_theory.specs.Weights.{proof_weight}
use Rattle.mz_emit_theory.specs.SymbolicState.{Work, work_start}
use Rattle.mz_emit_bodies.specs.Laws.{TakeFourBytes}
use Rattle.mz_emit_bodies.specs.WrittenLaws.{DefinitionsTakeFourBytes, AxiomsTakeFourBytes, TheoremsTakeFourBytes}
use Rattle.mz_emit_bodies.proofs.Beginning.{heap_long}
use Rattle.mz_emit_bodies.proofs.QuietWriters.{bytes_in, few_commands}
use Rattle.mz_emit_bodies.proofs.Spending.{definition_bytes, axiom_bytes, theorem_bytes}
use Rattle.mz_emit_bodies.proofs.WholeBodies.{definition_taken, axiom_taken, theorem_taken}

-- ---- one command

heap_same : (w w' : Work) → w'.heap ≡ w.heap → length w'.heap ≤ length w.heap + 1
heap_same w w' is = (let l = ap length is in omega (arith, l))

heap_more : (w w' : Work) (x : Item Tree) → w'.heap ≡ w.heap ++ x ∷ [] → length w'.heap ≤ length w.heap + 1
heap_more w w' x is = (let l = ap length is in let j = length-append w.heap (x ∷ []) in omega (arith, l, j))

referred_heap : (x : Item Tree) (w w' : Work) → IsReferred x w w' → w'.heap ≡ w.heap
referred_heap (conversion l r) w w' (rest, on, is) = ap (λ (z : Work). z.heap) is
referred_heap (expr e) w w' is = ap (λ (z : Work). z.heap) is
referred_heap (proof e) w w' is = ap (λ (z : Work). z.heap) is
referred_heap (obligation l r) w w' never = absurd never

module _ (gaps : Bool) (env : List Declaration) (ctx : List Binder) where
  heap_grows : (c : ProofCode) (v : ℕ) (w w' : Work) → Step gaps env ctx w c v w' → length w'.heap ≤ length w.heap + 1
  heap_grows code.Term v w w' (es, rest, builds, is) = heap_same w w' (ap (λ (z : Work). z.heap) is)
  heap_grows code.TermSave v w w' (es, rest, builds, is) = heap_more w w' _ (ap (λ (z : Work). z.heap) is)
  heap_grows code.Ref v w w' (x, at, refers) = heap_same w w' (referred_heap x w w' refers)
  heap_grows code.ConvRef v w w' (l, r, at, refers) = heap_same w w' (referred_heap (conversion l r) w w' refers)
  heap_grows code.Dummy v w w' (x, at, may, out, is) = heap_more w w' _ (ap (λ (z : Work). z.heap) is)
  heap_grows code.Thm v w w' (e, rest, cited, is) = heap_same w w' (ap (λ (z : Work). z.heap) is)
  heap_grows code.ThmSave v w w' (e, rest, cited, is) = heap_more w w' _ (ap (λ (z : Work). z.heap) is)
  heap_grows code.Hyp v w w' (e, rest, on, provable, is) = heap_more w w' _ (ap (λ (z : Work). z.heap) is)
  heap_grows code.Conv v w w' (l, r, rest, on, is) = heap_same w w' (ap (λ (z : Work). z.heap) is)
  heap_grows code.Refl v w w' (e, rest, on, is) = heap_same w w' (ap (λ (z : Work). z.heap) is)
  heap_grows code.Symm v w w' (l, r, rest, on, is) = heap_same w w' (ap (λ (z : Work). z.heap) is)
  heap_grows code.Cong v w w' (t, ls, rs, rest, on, is) = heap_same w w' (ap (λ (z : Work). z.heap) is)
  heap_grows code.Unfold v w w' (t, es, e, r, rest, unfolds, on, is) = heap_same w w' (ap (λ (z : Work). z.heap) is)
  heap_grows code.ConvCut v w w' (l, r, rest, on, is) = heap_same w w' (ap (λ (z : Work). z.heap) is)
  heap_grows code.ConvSave v w w' (l, r, rest, on, is) = heap_more w w' _ (ap (λ (z : Work). z.heap) is)
  heap_grows code.Save v w w' (x, rest, on, other, is) = heap_more w w' _ (ap (λ (z : Work). z.heap) is)
  heap_grows code.Sorry v w w' (may, inl (e, rest, on, provable, is)) = heap_same w w' (ap (λ (z : Work). z.heap) is)
  heap_grows code.Sorry v w w' (may, inr (l, r, rest, s, on, l-has, r-has, is)) = heap_same w w' (ap (λ (z : Work). z.heap) is)

  zero_short : (v : ℕ) → v ≡ 0 → v < 2 ^ 32
  zero_short v is = omega (arith, is)

  operand_short : IsSmall (signatures env) ctx → length (assertions env) ≤ 2 ^ 32 → (c : ProofCode) (v : ℕ) (w w' : Work) → Step gaps env ctx w c v w' → IsPlain (c, v) → length w.heap ≤ 2 ^ 32 → v < 2 ^ 32
  operand_short small few code.Term v w w' (es, rest, ((s, (d, at, of_sort, fits)), on), is) plain room = (let lt = slice_get_within (signatures env) v d at in let t = small.terms in omega (arith, lt, t))
  operand_short small few code.TermSave v w w' (es, rest, ((s, (d, at, of_sort, fits)), on), is) plain room = (let lt = slice_get_within (signatures env) v d at in let t = small.terms in omega (arith, lt, t))
  operand_short small few code.Ref v w w' (x, at, refers) plain room = (let lt = slice_get_within w.heap v x at in omega (arith, lt, room))
  operand_short small few code.ConvRef v w w' step plain room = absurd plain
  operand_short small few code.Dummy v w w' (x, at, may, out, is) plain room = small.sorts x (dummy_of v) at
  operand_short small few code.Thm v w w' (e, rest, cited, is) plain room = (let lt = slice_get_within (assertions env) v cited.0 cited.3 in omega (arith, lt, few))
  operand_short small few code.ThmSave v w w' (e, rest, cited, is) plain room = (let lt = slice_get_within (assertions env) v cited.0 cited.3 in omega (arith, lt, few))
  operand_short small few _ v w w' step plain room = zero_short v plain

  -- ---- commands

  operands_short : IsSmall (signatures env) ctx → length (assertions env) ≤ 2 ^ 32 → (cs : List (ProofCode × ℕ)) (w w' : Work) (bs : List Tree) → Builds gaps env ctx w cs w' bs → ArePlain cs
      → length w.heap + length cs ≤ 2 ^ 32 → TakeFourBytes cs
  operands_short small few [] w w' bs builds plain room = tt
  operands_short small few (c ∷ cs) w w' bs (next, later, step, rest, is) (one, plain) room = (
    operand_short small few c.0 c.1 w next step one (omega (arith, room)),
    operands_short small few cs next w' later rest plain (let g = heap_grows c.0 c.1 w next step in omega (arith, room, g)),
  )

  body_short : IsSmall (signatures env) ctx → length (assertions env) ≤ 2 ^ 32 → (params : List Binder) (cs : List (ProofCode × ℕ)) (w' : Work) (bs : List Tree) (n : ℕ)
      → Builds gaps env ctx (work_start params) cs w' bs → ArePlain cs → bytes_in cs ≤ n → length params + n ≤ 2 ^ 32 → TakeFourBytes cs
  body_short small few params cs w' bs n builds plain short room = operands_short small few cs (work_start params) w' bs builds plain
      (let h = heap_long 0 params in let f = few_commands cs in omega (arith, h, f, short, room))

-- ---- whole bodies

pub definitions_take : DefinitionsTakeFourBytes
definitions_take env params dummies e small few fine sorted room =
    let t = definition_taken false env params dummies fine e sorted in
    body_short false env (params ++ dummies) small few params (definition_written params dummies e).commands t.work t.built_are (6 * size e) t.builds t.plain (definition_bytes params dummies e) room

pub axioms_take : AxiomsTakeFourBytes
axioms_take env params dummies hyps e small few fine provable sorted room =
    let t = axiom_taken false env params dummies fine (listed hyps) provable e sorted in
    body_short false env (params ++ dummies) small few params (axiom_written params dummies (listed hyps) e).commands t.work t.built_are (6 * (trees_size hyps + size e)) t.builds t.plain
    (axiom_bytes params dummies hyps e) room

pub theorems_take : TheoremsTakeFourBytes
theorems_take gaps env params dummies hyps p small few fine provable sound room =
    let t = theorem_taken gaps env params dummies fine (listed hyps) provable p sound in
    body_short gaps env (params ++ dummies) small few params (theorem_written env params dummies (listed hyps) p).commands t.work t.built_are (6 * (trees_size hyps + proof_weight env p)) t.builds t.plain
    (theorem_bytes env params dummies hyps p) room
