use Rattle.std.proofs.Common.{◌∷◌, refl, subst}
use Rattle.mz_spec_theory.specs.Progress.{typed, without_deps}
use Rattle.mz_spec_grammar.specs.Standing.{Stands, before}
use Rattle.mz_spec_theory.specs.Tests.{a_name}
use Rattle.mz_spec_grammar.proofs.Onward.{onto}
use Rattle.mz_spec_grammar.proofs.reader.Reader.ty.Goals as goal

pub returns-clause-reads : goal.returns-clause-reads
returns-clause-reads c = λ slot e s w. c.typed.ensures.reads slot s (c.need.ensures.reads _ s (subst (λ rows. Stands s (before ((a_name, λ l. typed slot (without_deps l)) ∷ rows)) c.advance.new.self) e (onto c.advance.ensures.reads refl w)))
