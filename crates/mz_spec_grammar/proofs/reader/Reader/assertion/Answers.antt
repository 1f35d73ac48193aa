use Rattle.mz_spec_grammar.proofs.reader.Reader.assertion.Goals as goal

pub returns : goal.returns
returns c = λ s w. c.claim-conclusion.ensures _ _ c.new-premises.ensures.items s (c.head-head.ensures s w)
