use Rattle.std.proofs.Common.{◌+◌, ◌∙◌, ℕ, sym, subst, arith}
use Rattle.mz_layout_tables.proofs.Offered.{command-takes}
use Rattle.mz_show.proofs.Appending.{Listed, listed-more}
use Rattle.mz_show.proofs.stream.list_commands.Goals as goal

pub overflow_add-at : goal.overflow_add-at
overflow_add-at c =
    let t = command-takes c.args.bytes.now c.loop-cmd.at c.in-Ok.cmd (sym c.in-Ok.ensures.computed) in
    omega (arith, t.whole, t.some, c.from.ensures, c.requires.fits, c.loop-cmd.invariant.within)

pub loop-cmd-preserved : goal.loop-cmd-preserved
loop-cmd-preserved c =
    let t = command-takes c.args.bytes.now c.loop-cmd.at c.in-Ok.cmd (sym c.in-Ok.ensures.computed) in
    let listed = listed-more c.args.stream c.args.bytes.now c.args.from c.loop-cmd.at c.in-Ok.cmd c.args.text.now.items c.loop-cmd.text.items _
    c.loop-cmd.invariant.listed (sym c.in-Ok.ensures.computed) (sym c.in_ok-put_command.ensures.found ∙ c.if-not-branch.false)
    (rw c.if-not-branch.false at c.in_ok-put_command.ensures.appended) in
    record {
      within = omega (arith, t.whole, t.some, c.from.ensures, c.loop-cmd.invariant.within);
      listed = subst (λ (n : ℕ). Listed c.args.stream c.args.bytes.now c.args.from (c.loop-cmd.at + n) c.args.text.now.items c.put_command.new.text.items) (sym c.from.ensures) listed;
    }
