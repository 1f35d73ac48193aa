use Rattle.mz_prefix.specs.Wording.{vocabulary_of}
use Rattle.mz_prefix.proofs.Answering.{local-first, long-first}
use Rattle.mz_prefix.proofs.spec_text.answer.Goals as goal

pub returns-in-Some-default : goal.returns-in-Some-default
returns-in-Some-default c = λ bytes typed.
    local-first c.args.most bytes c.args.text.now.statements typed c.in-Ok.names c.in-Ok.ensures c.in-Some-default.statement c.in-Some-default.ensures

pub returns-in-None-Some : goal.returns-in-None-Some
returns-in-None-Some c = λ bytes typed.
    let ss = c.args.text.now.statements in
    long-first c.args.most bytes ss typed c.in-Ok.names c.in-Ok.ensures c.in-None-Some.statement c.in-None-Some.ensures (c.in-None-Some.ensures' (vocabulary_of ss))

pub returns : goal.returns
returns c = λ bytes typed.
    c.write_within.ensures bytes typed c.in-None-None.ensures (c.in-None-None.ensures' (vocabulary_of c.args.text.now.statements))
