use Rattle.mz_math.proofs.formula.meaning_of.Goals as goal

pub returns : goal.returns
returns c = c.meaning_along-made.ensures _ _ c.coercions.ensures.table c.requires.names c.coercions.ensures.coercions c.requires.ctx
