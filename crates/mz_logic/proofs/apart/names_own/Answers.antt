use Rattle.std.proofs.Common.{get_or}
use Rattle.std.proofs.lemmas.Option.{slice_get-get_or}
use Rattle.mz_logic.proofs.Owning.{own-by, own-tested}
use Rattle.mz_logic.proofs.apart.names_own.Goals as goal

pub returns-clause-answer : goal.returns-clause-answer
returns-clause-answer c =
    let p = get_or c.args.params.now c.args.i c.index-params-i.result in
    own-by c.args.params.now c.args.es.now c.args.ctx.now c.args.owned.now c.args.i p (slice_get-get_or c.args.params.now c.args.i c.index-params-i.result c.requires.within) c.new-own.result
    (own-tested c.args.params.now c.args.es.now c.requires.single c.args.i p c.args.owned.now c.args.owners.now c.new-own.result c.requires.owners c.new-own.ensures) c.operand_names_other.result
    c.operand_names_other.ensures.answer
