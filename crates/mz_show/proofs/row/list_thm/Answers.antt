use Rattle.mz_layout_tables.specs.Tables.{thm_row}
use Rattle.mz_show.specs.Tokens.{param_line}
use Rattle.mz_show.proofs.Texts.{texts-more}
use Rattle.mz_show.proofs.row.list_thm.Goals as goal

pub loop-i-preserved : goal.loop-i-preserved
loop-i-preserved c =
    texts-more param_line (thm_row c.args.mmb.now c.args.thm).params c.loop-i.i c.thm_param.result c.args.text.now.items c.loop-i.text.items _
    c.thm_param.ensures c.loop-i.invariant c.in_ok-put_param.ensures
