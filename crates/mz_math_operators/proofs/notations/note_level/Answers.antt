use Rattle.std.proofs.Common.{length, refl}
use Rattle.mz_math_operators.proofs.Levelling.{levelled-known, levelled-kept, levelled-more, levelled-same}
use Rattle.mz_math_operators.proofs.notations.note_level.Goals as goal

pub returns-in-Some-clause-ok : goal.returns-in-Some-clause-ok
returns-in-Some-clause-ok c =
    let (k, has, level, right) = c.in-Some.ensures in
    levelled-known c.args.levels.now c.args.items.now c.args.notation.now k c.requires has level

pub returns-in_err-insert-in-None-clause-found : goal.returns-in_err-insert-in-None-clause-found
returns-in_err-insert-in-None-clause-found c = levelled-same c.args.levels.now c.insert.new.self c.args.items.now c.in_err-insert-in-None.ensures.err c.requires

pub returns-in_ok-insert-in-None-clause-found : goal.returns-in_ok-insert-in-None-clause-found
returns-in_ok-insert-in-None-clause-found c =
    levelled-kept c.args.levels.now c.insert.new.self c.args.items.now c.args.notation.now.level (length c.args.items.now) c.in_ok-insert-in-None.ensures.updates c.requires c.in-None.ensures

pub returns-in_ok-insert-in-None-clause-ok : goal.returns-in_ok-insert-in-None-clause-ok
returns-in_ok-insert-in-None-clause-ok c =
    levelled-more c.args.levels.now c.insert.new.self c.args.items.now c.args.notation.now.level (length c.args.items.now) c.in_ok-insert-in-None.ensures.updates c.requires c.in-None.ensures c.args.notation.now refl refl
