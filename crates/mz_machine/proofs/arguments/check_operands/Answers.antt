use Rattle.std.proofs.Common.{◌<◌, ◌≤◌, length, refl, sym, ◌∙◌, arith, add-one}
use Rattle.std.proofs.lemmas.List.{length-map}
use Rattle.std.proofs.lemmas.Option.{slice_get-get_or}
use Rattle.std.proofs.lemmas.Result.{err_from_is_err_and}
use Rattle.mz_store.specs.Sharing.{tree_of}
use Rattle.mz_store.specs.declared.item.Id.{Id}
use Rattle.mz_unify.specs.Stored.{trees_at}
use Rattle.mz_unify.proofs.Offered.{is-in-at, tree-at}
use Rattle.mz_machine_env.specs.Before.{signatures_of}
use Rattle.mz_layout_tables.specs.Rows.{params_of}
use Rattle.mz_machine.proofs.FittingOperands.{fit-step, fit-end}
use Rattle.mz_machine.proofs.arguments.check_operands.Goals as goal

pub operands-init : goal.operands-init
operands-init c = refl

pub check_operand-requires : goal.check_operand-requires
check_operand-requires c =
    is-in-at c.args.store.now c.args.operands.now c.operands.j _ c.requires.ids
    (slice_get-get_or _ _ _ (let e : c.operands.j < length c.args.operands.now = omega (arith, c.requires.many, c.arity_of-j-end.ensures, c.operands-test.true) in e))

pub returns-in_err-check_operand : goal.returns-in_err-check_operand
returns-in_err-check_operand c =
    let p = err_from_is_err_and c.from_residual.result c.from_residual.ensures.1 in
    let here : c.operands.j < length c.args.operands.now = omega (arith, c.requires.many, c.arity_of-j-end.ensures, c.operands-test.true) in
    rw (p.1, p.2)
    (sym c.operands.invariant
    ∙ fit-step (signatures_of c.args.env.now) c.args.store.now.context (trees_at c.args.store.now c.args.operands.now) (params_of c.args.env.now.file c.args.row) c.operands.j _ c.word_from-word.result _
    (tree-at c.args.store.now c.args.operands.now c.operands.j _ (slice_get-get_or _ _ _ here)) c.word_from-word.ensures (λ q s b. c.in_err-check_operand.ensures (signatures_of c.args.env.now) q c.requires.over s b))

pub operands-preserved : goal.operands-preserved
operands-preserved c =
    let here : c.operands.j < length c.args.operands.now = omega (arith, c.requires.many, c.arity_of-j-end.ensures, c.operands-test.true) in
    rw (add-one c.operands.j)
    (sym (fit-step (signatures_of c.args.env.now) c.args.store.now.context (trees_at c.args.store.now c.args.operands.now) (params_of c.args.env.now.file c.args.row) c.operands.j _ c.word_from-word.result _
    (tree-at c.args.store.now c.args.operands.now c.operands.j _ (slice_get-get_or _ _ _ here)) c.word_from-word.ensures (λ q s b. c.in_ok-check_operand.ensures (signatures_of c.args.env.now) q c.requires.over s b)) ∙ c.operands.invariant)

pub returns : goal.returns
returns c =
    let past : length (trees_at c.args.store.now c.args.operands.now) ≤ c.operands.j = omega (arith, length-map c.args.operands.now (λ (i : Id). tree_of c.args.store.now i.0), c.requires.many, c.arity_of-j-end.ensures, c.operands-test.false) in
    sym c.operands.invariant
    ∙ fit-end (signatures_of c.args.env.now) c.args.store.now.context (trees_at c.args.store.now c.args.operands.now) _ c.operands.j past
