use Rattle.mz_spec_grammar.proofs.reader.Reader.group.Goals as goal

pub returns-clause-reads : goal.returns-clause-reads
returns-clause-reads c = λ h s w. c.need.ensures.reads _ s (c.source-source.ensures.reads _ _ s (c.names-names.ensures.reads h c.args.is_bound s w))
