use Rattle.std.proofs.Common.{◌≡◌, ◌≤◌, ◌∙◌, true, false, refl, sym, subst, arith}
use Rattle.std.proofs.lemmas.Bool.{false≢true}
use Rattle.mz_base.specs.Checks.{FailsFirst}
use Rattle.mz_cmd.specs.declared.rule.K.TheVariants.{Binder}
use Rattle.mz_logic_theory.specs.Words.{word_bound}
use Rattle.mz_layout_tables.specs.Rows.{params_of, words_at_of}
use Rattle.mz_layout_tables.specs.RowWords.{first_sorts, param_checks, IsParamWord}
use Rattle.mz_layout_tables.proofs.ParamWords.{bound-from, one-bound-more, none-bound-more, param-passes, param-fails}
use Rattle.mz_layout_tables.proofs.row_words.check_params.Goals as goal
use Rattle.mz_layout_tables.proofs.row_words.check_params.Goals.{then-bound, else-bound}

pub returns-then-not-is_param-clause-judged : goal.returns-then-not-is_param-clause-judged
returns-then-not-is_param-clause-judged c =
    let ws = params_of c.args.mmb.now c.args.row in
    let words_at = words_at_of c.args.mmb.now c.args.row in
    let ss = first_sorts c.args.mmb.now c.args.sorts in
    subst (λ at. FailsFirst (param_checks ss words_at ws) (at, Binder)) (sym c.param_at.ensures)
    (param-fails ws c.loop-i.i c.loop-i.bound c.param-word.result c.param-word.ensures c.loop-i.invariant.counts ss words_at
    (λ h. false≢true (c.if-not-is_param.ensures.1 h)) c.loop-i.invariant.decides)

pub loop-i-preserved : goal.loop-i-preserved
loop-i-preserved c =
    let ws = params_of c.args.mmb.now c.args.row in
    let words_at = words_at_of c.args.mmb.now c.args.row in
    let ss = first_sorts c.args.mmb.now c.args.sorts in
    let k = c.loop-i.bound in
    let w = c.param-word.result in
    let right : IsParamWord ss k w = c.if-not-is_param.ensures.0 refl in
    let passes = param-passes ws c.loop-i.i k w c.param-word.ensures c.loop-i.invariant.counts ss words_at right c.loop-i.invariant.decides in
    elim c.if-bound.branch [
      | then-bound v ↦ (
          let bd : word_bound w ≡ true = sym c.bound.ensures ∙ v.if-bound.true in
          let low : k ≤ 54 = (bound-from ss k w bd right).1 in
          record {
            decides = passes;
            counts = v.bound-is ∙ one-bound-more ws c.loop-i.i k w c.param-word.ensures c.loop-i.invariant.counts bd;
            few = omega (arith, v.bound-is, low);
          }
          )
      | else-bound v ↦ (
          let reg : word_bound w ≡ false = sym c.bound.ensures ∙ v.if-bound.false in
          record {
            decides = passes;
            counts = v.bound-is ∙ none-bound-more ws c.loop-i.i k w c.param-word.ensures c.loop-i.invariant.counts reg;
            few = omega (arith, v.bound-is, c.loop-i.invariant.few);
          }
          )
    ]
