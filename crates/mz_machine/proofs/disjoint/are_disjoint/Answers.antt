use Rattle.std.specs.Prelude.{◌&&◌, bit_and, slice_get, Some}
use Rattle.std.specs.Int.Bits.{and_zero_r}
use Rattle.std.proofs.Common.{◌≡◌, ◌<◌, ◌+◌, ℕ, zero, suc, true, List, length, drop, sym, ap, ◌∙◌, arith, add-one}
use Rattle.std.proofs.lemmas.List.{length-map}
use Rattle.std.proofs.lemmas.Option.{slice_get_within}
use Rattle.mz_base.proofs.Offered.{drop-past, slice_get-some}
use Rattle.mz_logic_theory.specs.Tree.{Tree}
use Rattle.mz_logic_theory.specs.Words.{binders_of}
use Rattle.mz_logic_theory.specs.declared.word.Word.{Word}
use Rattle.mz_logic_theory.specs.declared.binder.Binder.{Binder}
use Rattle.mz_machine_theory.specs.Premises.{apart_at, disjoint_from}
use Rattle.mz_store.specs.Sharing.{deps_of, tree_of}
use Rattle.mz_unify.proofs.Offered.{is-in-at, tree-at}
use Rattle.mz_machine_env.specs.Before.{signatures_of}
use Rattle.mz_machine.proofs.Disjointness.{tells-v}
use Rattle.mz_store.specs.declared.item.Id.{Id}
use Rattle.mz_unify.specs.Stored.{trees_at}
use Rattle.mz_layout_tables.specs.Rows.{params_of}
use Rattle.mz_machine_env.proofs.Offered.{apart-at-once, place-below, row-asked, rows_from, rows-at}
use Rattle.mz_machine.proofs.disjoint.are_disjoint.Goals as goal

pub variables_at-all-requires-clause-within : goal.variables_at-all-requires-clause-within
variables_at-all-requires-clause-within c k p at =
    let ws = params_of c.args.env.now.file c.args.row in
    let low = place-below ws c.args.bound.now c.requires.bound k p at in
    omega (arith, low, c.requires.many)

-- where each row passes, all are disjoint
all-pass : (ctx : List Binder) (es : List Tree) (ws : List Word) → length es ≡ length ws
    → ((i : ℕ) (e : Tree) (p : Binder) → slice_get es i ≡ Some e → slice_get (binders_of ws) i ≡ Some p → true ≡ disjoint_from ctx i p.deps e 0 es (binders_of ws))
    → (n i : ℕ) → n + i ≡ length ws → apart_at ctx es (binders_of ws) i (drop i es) (drop i (binders_of ws)) ≡ true
all-pass ctx es ws many rows zero i e = ap (λ xs. apart_at ctx es (binders_of ws) i xs (drop i (binders_of ws))) (drop-past es i (omega (arith, many, e)))
all-pass ctx es ws many rows (suc n) i e =
    rows-at ctx es ws many i (omega arith) true (rows i) ∙ all-pass ctx es ws many rows n (suc i) (omega arith)

pub returns-then-all-eq0 : goal.returns-then-all-eq0
returns-then-all-eq0 c =
    let s = c.args.store.now in
    let ids = c.args.operands.now in
    let es = trees_at s ids in
    let ws = params_of c.args.env.now.file c.args.row in
    let sigs = signatures_of c.args.env.now in
    let many : length es ≡ length ws = length-map ids (λ (i : Id). tree_of s i.0) ∙ c.requires.many in
    let rows : (i : ℕ) (e : Tree) (p : Binder) → slice_get es i ≡ Some e → slice_get (binders_of ws) i ≡ Some p → true ≡ disjoint_from s.context i p.deps e 0 es (binders_of ws) =
    λ i e p eat pat.
    let low : i < length ws = omega (arith, slice_get_within es i e eat, many) in
    let (w, wat) = slice_get-some ws i low in
    let (id, at) = slice_get-some ids i (omega (arith, low, c.requires.many)) in
    let none : bit_and (deps_of s id.0) c.variables_at-all.result ≡ 0 = ap (bit_and (deps_of s id.0)) c.if-all-eq0.true ∙ and_zero_r (deps_of s id.0) in
    sym (apart-at-once sigs s.context ids es (λ id. tree_of s id.0) (λ id. deps_of s id.0) (tree-at s ids)
    (λ k id kat. tells-v sigs s id.0 c.requires.over c.requires.mode (is-in-at s ids k id c.requires.ids kat))
    ws c.requires.many many c.requires.fit c.args.bound.now c.requires.bound c.variables_at-all.result c.variables_at-all.ensures i id w at wat none)
    ∙ row-asked s.context es ws i w _ e p wat (tree-at s ids i id at) eat pat in
    sym (all-pass s.context es ws many rows (length ws) 0 (omega arith))

pub returns-then-not-is_apart : goal.returns-then-not-is_apart
returns-then-not-is_apart c =
    let s = c.args.store.now in
    let es = trees_at s c.args.operands.now in
    let ws = params_of c.args.env.now.file c.args.row in
    let here : c.operands.i < length ws = omega (arith, c.arity_of-i-end.ensures, c.operands-test.true) in
    let many : length es ≡ length ws = length-map c.args.operands.now (λ (i : Id). tree_of s i.0) ∙ c.requires.many in
    sym (rows-at s.context es ws many c.operands.i here c.is_apart.result c.is_apart.ensures
    ∙ ap (λ b. b && rows_from s.context es ws (suc c.operands.i)) c.if-not-is_apart.true)
    ∙ c.operands.invariant

pub operands-preserved : goal.operands-preserved
operands-preserved c =
    let s = c.args.store.now in
    let es = trees_at s c.args.operands.now in
    let ws = params_of c.args.env.now.file c.args.row in
    let here : c.operands.i < length ws = omega (arith, c.arity_of-i-end.ensures, c.operands-test.true) in
    let many : length es ≡ length ws = length-map c.args.operands.now (λ (i : Id). tree_of s i.0) ∙ c.requires.many in
    rw (add-one c.operands.i)
    (sym (rows-at s.context es ws many c.operands.i here c.is_apart.result c.is_apart.ensures
    ∙ ap (λ b. b && rows_from s.context es ws (suc c.operands.i)) c.if-not-is_apart.false)
    ∙ c.operands.invariant)
