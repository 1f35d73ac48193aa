use Rattle.mz_trace.specs.Commands.{stage_of}
use Rattle.mz_trace.proofs.Begun.{runs-from, root-of, run-of, whole-run}
use Rattle.mz_trace.proofs.run.made_of.Goals as goal

pub make-requires-clause-runs : goal.make-requires-clause-runs
make-requires-clause-runs g c =
    let (before, at, own) = c.requires.runs in
    runs-from c.args.mmb.now c.args.bytes.now c.args.row before own.0 (at, own.1) (stage_of c.in_ok-start.start) c.thm_arity.result c.thm_arity.ensures c.in_ok-start.ensures

pub finish-requires-clause-root : goal.finish-requires-clause-root
finish-requires-clause-root g c =
    let (before, at, own) = c.requires.runs in
    root-of c.args.mmb.now c.args.bytes.now c.args.row before own.0 (at, own.1) (stage_of c.in_ok-start.start) c.thm_arity.result c.thm_arity.ensures c.in_ok-start.ensures
    (stage_of c.in_ok-last.last) c.in_ok-last.ensures.leads

pub finish-requires-clause-whole : goal.finish-requires-clause-whole
finish-requires-clause-whole g c p fin =
    let (before, at, own) = c.requires.runs in
    whole-run c.args.mmb.now c.args.bytes.now c.args.row before own.0 (at, own.1) (stage_of c.in_ok-start.start) c.thm_arity.result c.thm_arity.ensures c.in_ok-start.ensures
    (stage_of c.in_ok-last.last) c.in_ok-last.ensures.leads c.requires.fits p fin

pub returns-clause-made : goal.returns-clause-made
returns-clause-made g c before at own =
    run-of c.args.mmb.now c.args.bytes.now c.args.row before own.0 (at, own.1) (stage_of c.in_ok-start.start) c.thm_arity.result c.thm_arity.ensures c.in_ok-start.ensures
    (stage_of c.in_ok-last.last) c.in_ok-last.ensures.leads c.finish.result c.finish.ensures
