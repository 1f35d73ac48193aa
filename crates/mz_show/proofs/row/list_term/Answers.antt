use Rattle.std.proofs.Common.{◌≤◌, ◌++◌, ◌∙◌, ap, length, arith}
use Rattle.std.proofs.lemmas.Result.{on_ok_weaker}
use Rattle.mz_layout_tables.specs.Tables.{term_row}
use Rattle.mz_show.specs.Tokens.{param_line, result_line}
use Rattle.mz_show.proofs.Texts.{texts-more, texts-whole}
use Rattle.mz_show.proofs.row.list_term.Goals as goal

pub loop-i-preserved : goal.loop-i-preserved
loop-i-preserved c =
    texts-more param_line (term_row c.args.mmb.now c.args.t).words.params c.loop-i.i c.param.result c.args.text.now.items c.loop-i.text.items _
    c.param.ensures.row c.loop-i.invariant c.in_ok-put_param.ensures

pub returns : goal.returns
returns c =
    let all : length (term_row c.args.mmb.now c.args.t).words.params ≤ c.loop-i.i = omega (arith, c.arity-i-end.ensures.row, c.loop-i-test.false) in
    let lines = texts-whole param_line (term_row c.args.mmb.now c.args.t).words.params c.loop-i.i c.args.text.now.items c.loop-i.text.items
    (result_line (term_row c.args.mmb.now c.args.t).words.result) all c.loop-i.invariant in
    on_ok_weaker c.put_result.result (λ e. e ∙ ap (λ word. c.loop-i.text.items ++ result_line word) c.result.ensures.row ∙ lines) c.put_result.ensures
