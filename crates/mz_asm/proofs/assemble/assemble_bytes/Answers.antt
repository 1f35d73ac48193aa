use Rattle.mz_asm.proofs.RoundTrip.{from-listing, answers-listed, answers-back}
use Rattle.mz_asm.proofs.assemble.assemble_bytes.Goals as goal

pub returns-clause-listed : goal.returns-clause-listed
returns-clause-listed c = answers-listed c.args.text.now c.assembled.result c.assembled.ensures

pub returns-clause-back : goal.returns-clause-back
returns-clause-back c = λ file is short listing.
    answers-back c.args.text.now file c.assembled.result (from-listing c.args.text.now file is short listing) c.assembled.ensures
