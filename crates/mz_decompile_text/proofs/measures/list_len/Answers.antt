use Rattle.std.proofs.Common.{◌∙◌, sym, length}
use Rattle.std.proofs.lemmas.Bool.{eqb-true, eqb-false}
use Rattle.mz_decompile_text.proofs.Measuring.{empty-begun, full-begun}
use Rattle.mz_decompile_text.proofs.measures.list_len.Goals as goal
use Rattle.mz_decompile_text.proofs.measures.list_len.Goals.{then-is_empty, else-is_empty}

pub loop-part-init : goal.loop-part-init
loop-part-init c =
    let ps = c.args.phrases.now in
    let is = c.args.parts.now in
    elim c.if-is_empty.branch [
      | then-is_empty w ↦ empty-begun ps is c.if-is_empty.len (eqb-true (length is) 0 (sym c.is_empty.ensures ∙ w.if-is_empty.true)) w.len-is
      | else-is_empty w ↦ full-begun ps is c.if-is_empty.len (eqb-false (length is) 0 (sym c.is_empty.ensures ∙ w.if-is_empty.false)) w.len-is
    ]
