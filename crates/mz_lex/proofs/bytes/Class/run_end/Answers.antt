use Rattle.std.proofs.Common.{arith, sym, ◌∙◌}
use Rattle.mz_lex.specs.Scan.{is_in}
use Rattle.mz_lex.proofs.Runs.{run-more}
use Rattle.mz_lex.proofs.bytes.Class.run_end.Goals as goal

pub loop-end-preserved : goal.loop-end-preserved
loop-end-preserved c = record {
  later = omega (arith, c.loop-end.invariant.later);
  within = omega arith;
  all = run-more (is_in c.args.self) c.args.text.now c.args.from c.loop-end.end c.loop-end.invariant.later (omega arith) c.loop-end.invariant.all (sym c.contains.ensures ∙ c.if-contains.true);
}
