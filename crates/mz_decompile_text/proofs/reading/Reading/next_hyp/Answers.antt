use Rattle.std.proofs.Common.{refl}
use Rattle.mz_decompile_text.proofs.RowSteps.{hyp_next, hyps_end}
use Rattle.mz_decompile_text.proofs.reading.Reading.next_hyp.Goals as goal

pub returns-in-Some-clause-does : goal.returns-in-Some-clause-does
returns-in-Some-clause-does c = λ file o v ps m us hs last st hyps.
    hyp_next file o v ps c.args.self.now
    (record c.args.self.now { stream = c.in-Some.step.rest }) m us hs last c.in-Some.step.code c.in-Some.step.value st hyps c.in-Some.ensures refl refl refl refl refl

pub returns-in-None-clause-does : goal.returns-in-None-clause-does
returns-in-None-clause-does c = λ file o v ps m us hs last st hyps. hyps_end file o v m us hs last hyps (c.in-None.ensures o.kind us st.stream)
