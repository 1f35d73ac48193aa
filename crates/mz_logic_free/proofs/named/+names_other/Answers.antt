use Rattle.std.proofs.Common.{◌↔◌, ◌∙◌, ◌+◌, IsTrue, drop, ap, refl, sym, subst, true≢false, arith}
use Rattle.std.proofs.lemmas.List.{drop_all}
use Rattle.mz_logic_theory.specs.Kinds.{kind_tree}
use Rattle.mz_logic_theory.specs.Tree.{Tree, trees_size}
use Rattle.mz_logic_theory.specs.View.{tree, trees}
use Rattle.mz_logic_free.proofs.Sharing.{IsOther, SomeName, Names, names-here, names-behind, names-none, names-under, cut-trees}
use Rattle.mz_logic_free.proofs.named.+names_other.Goals as goal

pub some_name_other-returns-then-names_other-clause-answer : goal.some_name_other-returns-then-names_other-clause-answer
some_name_other-returns-then-names_other-clause-answer t c =
    let items = c.as_slice-e-items.result.now in
    let i = c.loop-e.e-index in
    let cut = cut-trees items i c.e-item.result c.loop-e-test.true c.e-item.is in (
      λ _. names-here c.args.ctx.now (IsOther c.args.variables.now c.args.own.now) (trees (drop i items)) (trees (drop (i + 1) items)) (tree c.e-item.result) cut (SomeName c.args.ctx.now (IsOther c.args.variables.now c.args.own.now) c.args.es.now) c.loop-e.invariant.0
          (c.names_other.ensures.answer.0 c.if-names_other.true),
      λ _. refl,
    )

pub some_name_other-loop-e-preserved : goal.some_name_other-loop-e-preserved
some_name_other-loop-e-preserved t c =
    let items = c.as_slice-e-items.result.now in
    let i = c.loop-e.e-index in
    let cut = cut-trees items i c.e-item.result c.loop-e-test.true c.e-item.is in
    let sizes = ap trees_size cut in
    let small = c.loop-e.invariant.1 in (
      names-behind c.args.ctx.now (IsOther c.args.variables.now c.args.own.now) (trees (drop i items)) (trees (drop (i + 1) items)) (tree c.e-item.result) cut (SomeName c.args.ctx.now (IsOther c.args.variables.now c.args.own.now) c.args.es.now) c.loop-e.invariant.0
          (λ here. true≢false (sym (c.names_other.ensures.answer.1 here) ∙ c.if-names_other.false)),
      omega (arith, sizes, small),
      c.names_other.ensures.kept,
    )

pub some_name_other-returns-clause-answer : goal.some_name_other-returns-clause-answer
some_name_other-returns-clause-answer t c = (
  λ no. absurd (true≢false (sym no)),
  λ some. absurd (names-none c.args.ctx.now (IsOther c.args.variables.now c.args.own.now) _ (SomeName c.args.ctx.now (IsOther c.args.variables.now c.args.own.now) c.args.es.now)
      (ap trees (drop_all c.loop-e.e-index c.as_slice-e-items.result.now c.loop-e-test.false)) c.loop-e.invariant.0 some),
)

pub names_other-returns-in-Var-clause-answer : goal.names_other-returns-in-Var-clause-answer
names_other-returns-in-Var-clause-answer t c =
    subst (λ e. IsTrue c.variable_names_other.result ↔ Names c.args.ctx.now (IsOther c.args.variables.now c.args.own.now) e) (sym (ap kind_tree c.in-Var.is) ∙ c.kind.ensures.tree) c.variable_names_other.ensures.answer

pub names_other-returns-in-App-clause-answer : goal.names_other-returns-in-App-clause-answer
names_other-returns-in-App-clause-answer t c =
    subst (λ e. IsTrue c.some_name_other.result ↔ Names c.args.ctx.now (IsOther c.args.variables.now c.args.own.now) e) (sym (ap kind_tree c.in-App.is) ∙ c.kind.ensures.tree) c.some_name_other.ensures.answer

pub names_other-returns-in-Under-clause-answer : goal.names_other-returns-in-Under-clause-answer
names_other-returns-in-Under-clause-answer t c =
    let N : Tree → Type 0 = λ e. IsTrue c.names_other.result ↔ Names c.args.ctx.now (IsOther c.args.variables.now c.args.own.now) e in
    subst N (sym (ap kind_tree c.in-Under.is) ∙ c.kind.ensures.tree)
    (names-under c.args.ctx.now (IsOther c.args.variables.now c.args.own.now) c.in-Under.field-0 c.in-Under.e.value (IsTrue c.names_other.result) (subst N c.deref.ensures c.names_other.ensures.answer))
