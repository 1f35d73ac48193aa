use Rattle.std.proofs.Common.{◌++◌, ℕ, Contains, true≢false, sym, ap, ◌∙◌, subst, inl, inr}
use Rattle.mz_base.specs.Checks.{Judges}
use Rattle.mz_base.proofs.Offered.{fails-after, all_hold-both}
use Rattle.mz_sexpr.specs.Node.{parts, place}
use Rattle.mz_sexpr.specs.Number.{first}
use Rattle.mz_sexpr.specs.declared.rule.U.{U}
use Rattle.mz_mmu_theory.specs.FormOrder.{fault}
use Rattle.mz_mmu_theory.specs.declared.fault.Stop.TheVariants.{Mem}
use Rattle.mz_logic_theory.specs.Declaration.{defined, signatures}
use Rattle.mz_logic_theory.specs.DeclView.{signature}
use Rattle.mz_logic_theory.specs.Legality.{sort_of}
use Rattle.mz_logic_theory.specs.Sorts.{HasSort}
use Rattle.mz_logic_theory.specs.Variables.{InFV}
use Rattle.mz_logic_theory.specs.View.{tree}
use Rattle.mz_mmu_theory.specs.Parts.{part}
use Rattle.mz_mmu_theory.specs.Rules.{body_rules, dummy_rules, expr_rules}
use Rattle.mz_mmu_theory.proofs.Offered.{sort_by_checks}
use Rattle.mz_type_rules.proofs.Judging.{stop_handed_on, stopped_before, stopped_after, told_stop, told_holds}
use Rattle.mz_type_rules.proofs.statements.check_body.Goals as goal

pub returns-in_err-refuse : goal.returns-in_err-refuse
returns-in_err-refuse c =
    let env = c.args.env.now in
    let ds = c.args.dummies.now in
    let ps = c.args.parts.now in
    let A = dummy_rules env ds (parts (part ps 4)) in
    let s = c.in_err-refuse.field-0.0 in
    stop_handed_on (body_rules env (signature c.args.term.now) (defined ds (tree c.args.body.now)) ps) c.from_residual.result s c.from_residual.ensures.1
    (stopped_before A _ s (told_stop A c.check_dummies.result c.refuse.result s c.refuse.ensures c.in_err-refuse.was
    (subst (λ ns. Judges c.check_dummies.result (dummy_rules env ds ns)) (c.parts.ensures ∙ ap (λ ms. parts (first ms)) c.after.ensures) c.check_dummies.ensures)))

pub returns-in_err-refuse-2 : goal.returns-in_err-refuse-2
returns-in_err-refuse-2 c =
    let env = c.args.env.now in
    let sigs = signatures env in
    let ds = c.args.dummies.now in
    let e = tree c.args.body.now in
    let ps = c.args.parts.now in
    let ctx = c.args.term.now.params ++ ds in
    let same = c.new-ctx.ensures ∙ ap (λ qs. qs ++ ds) c.as_slice.ensures in
    let rules = ap (λ k. expr_rules sigs k e (first c.after-node.result)) same ∙ ap (λ m. expr_rules sigs ctx e (first m)) c.after-node.ensures in
    let A = dummy_rules env ds (parts (part ps 4)) in
    let B = expr_rules sigs ctx e (part ps 5) in
    let s = c.in_err-refuse-2.field-0.0 in
    stop_handed_on (body_rules env (signature c.args.term.now) (defined ds e) ps) c.from_residual-in_err-refuse-2.result s c.from_residual-in_err-refuse-2.ensures.1
    (stopped_after A _ s
    (told_holds A c.check_dummies.result c.refuse.result c.in_ok-refuse.field-0 c.refuse.ensures c.in_ok-refuse.was
    (subst (λ ns. Judges c.check_dummies.result (dummy_rules env ds ns)) (c.parts.ensures ∙ ap (λ ms. parts (first ms)) c.after.ensures) c.check_dummies.ensures))
    (stopped_before B _ s (told_stop B c.check_expr.result c.refuse-2.result s c.refuse-2.ensures c.in_err-refuse-2.was (subst (λ cs. Judges c.check_expr.result cs) rules c.check_expr.ensures))))

pub free_vars_are_among-requires : goal.free_vars_are_among-requires
free_vars_are_among-requires c =
    let env = c.args.env.now in
    let sigs = signatures env in
    let ds = c.args.dummies.now in
    let e = tree c.args.body.now in
    let ps = c.args.parts.now in
    let ctx = c.args.term.now.params ++ ds in
    let same = c.new-ctx.ensures ∙ ap (λ qs. qs ++ ds) c.as_slice.ensures in
    let rules = ap (λ k. expr_rules sigs k e (first c.after-node.result)) same ∙ ap (λ m. expr_rules sigs ctx e (first m)) c.after-node.ensures in
    let B = expr_rules sigs ctx e (part ps 5) in
    subst (λ k. (s : ℕ) × HasSort sigs k e s) (sym same) (
      sort_of sigs ctx e,
      sort_by_checks sigs ctx e (part ps 5) c.requires
          (told_holds B c.check_expr.result c.refuse-2.result c.in_ok-refuse-2.field-0 c.refuse-2.ensures c.in_ok-refuse-2.was (subst (λ cs. Judges c.check_expr.result cs) rules c.check_expr.ensures)),
    )

pub returns-in_err-right : goal.returns-in_err-right
returns-in_err-right c =
    stop_handed_on (body_rules c.args.env.now (signature c.args.term.now) (defined c.args.dummies.now (tree c.args.body.now)) c.args.parts.now)
    c.from_residual-in_err-right.result Mem c.from_residual-in_err-right.ensures.1 tt

pub returns-then-not-right : goal.returns-then-not-right
returns-then-not-right c =
    let env = c.args.env.now in
    let sigs = signatures env in
    let ds = c.args.dummies.now in
    let e = tree c.args.body.now in
    let ps = c.args.parts.now in
    let ctx = c.args.term.now.params ++ ds in
    let same = c.new-ctx.ensures ∙ ap (λ qs. qs ++ ds) c.as_slice.ensures in
    let rules = ap (λ k. expr_rules sigs k e (first c.after-node.result)) same ∙ ap (λ m. expr_rules sigs ctx e (first m)) c.after-node.ensures in
    let A = dummy_rules env ds (parts (part ps 4)) in
    let B = expr_rules sigs ctx e (part ps 5) in
    fails-after A _ c.fault.result
    (told_holds A c.check_dummies.result c.refuse.result c.in_ok-refuse.field-0 c.refuse.ensures c.in_ok-refuse.was
    (subst (λ ns. Judges c.check_dummies.result (dummy_rules env ds ns)) (c.parts.ensures ∙ ap (λ ms. parts (first ms)) c.after.ensures) c.check_dummies.ensures))
    (fails-after B _ c.fault.result
    (told_holds B c.check_expr.result c.refuse-2.result c.in_ok-refuse-2.field-0 c.refuse-2.ensures c.in_ok-refuse-2.was (subst (λ cs. Judges c.check_expr.result cs) rules c.check_expr.ensures))
    (inl (
      λ free. true≢false (sym (c.in_ok-right.ensures.1 (subst (λ k. (x : ℕ) → InFV sigs k x e → Contains c.args.term.now.result.deps x) (sym same) free)) ∙ c.if-not-right.true),
      c.fault.ensures ∙ ap (λ m. fault (place (first m)) U.Declaration) c.after-node.ensures,
    )))

pub returns-then-sort_of-term : goal.returns-then-sort_of-term
returns-then-sort_of-term c =
    let env = c.args.env.now in
    let sigs = signatures env in
    let ds = c.args.dummies.now in
    let e = tree c.args.body.now in
    let ps = c.args.parts.now in
    let ctx = c.args.term.now.params ++ ds in
    let same = c.new-ctx.ensures ∙ ap (λ qs. qs ++ ds) c.as_slice.ensures in
    let rules = ap (λ k. expr_rules sigs k e (first c.after-node.result)) same ∙ ap (λ m. expr_rules sigs ctx e (first m)) c.after-node.ensures in
    let A = dummy_rules env ds (parts (part ps 4)) in
    let B = expr_rules sigs ctx e (part ps 5) in
    let f = c.fault-then-sort_of-term.result in
    fails-after A _ f
    (told_holds A c.check_dummies.result c.refuse.result c.in_ok-refuse.field-0 c.refuse.ensures c.in_ok-refuse.was
    (subst (λ ns. Judges c.check_dummies.result (dummy_rules env ds ns)) (c.parts.ensures ∙ ap (λ ms. parts (first ms)) c.after.ensures) c.check_dummies.ensures))
    (fails-after B _ f
    (told_holds B c.check_expr.result c.refuse-2.result c.in_ok-refuse-2.field-0 c.refuse-2.ensures c.in_ok-refuse-2.was (subst (λ cs. Judges c.check_expr.result cs) rules c.check_expr.ensures))
    (inr (
      subst (λ k. (x : ℕ) → InFV sigs k x e → Contains c.args.term.now.result.deps x) same (c.in_ok-right.ensures.0 c.if-not-right.false),
      inl (
        λ is. c.if-sort_of-term.true (c.sort_of.ensures ∙ ap (λ k. sort_of sigs k e) same ∙ is),
        c.fault-then-sort_of-term.ensures ∙ ap (λ m. fault (place (first m)) U.Sort) c.after-node.ensures,
      ),
    )))

pub returns : goal.returns
returns c =
    let env = c.args.env.now in
    let sigs = signatures env in
    let ds = c.args.dummies.now in
    let e = tree c.args.body.now in
    let ps = c.args.parts.now in
    let ctx = c.args.term.now.params ++ ds in
    let same = c.new-ctx.ensures ∙ ap (λ qs. qs ++ ds) c.as_slice.ensures in
    let rules = ap (λ k. expr_rules sigs k e (first c.after-node.result)) same ∙ ap (λ m. expr_rules sigs ctx e (first m)) c.after-node.ensures in
    let A = dummy_rules env ds (parts (part ps 4)) in
    let B = expr_rules sigs ctx e (part ps 5) in
    all_hold-both A _
    (told_holds A c.check_dummies.result c.refuse.result c.in_ok-refuse.field-0 c.refuse.ensures c.in_ok-refuse.was
    (subst (λ ns. Judges c.check_dummies.result (dummy_rules env ds ns)) (c.parts.ensures ∙ ap (λ ms. parts (first ms)) c.after.ensures) c.check_dummies.ensures))
    (all_hold-both B _
    (told_holds B c.check_expr.result c.refuse-2.result c.in_ok-refuse-2.field-0 c.refuse-2.ensures c.in_ok-refuse-2.was (subst (λ cs. Judges c.check_expr.result cs) rules c.check_expr.ensures)) (
      subst (λ k. (x : ℕ) → InFV sigs k x e → Contains c.args.term.now.result.deps x) same (c.in_ok-right.ensures.0 c.if-not-right.false),
      (sym (ap (λ k. sort_of sigs k e) same) ∙ sym c.sort_of.ensures ∙ c.if-sort_of-term.false, tt),
    ))
