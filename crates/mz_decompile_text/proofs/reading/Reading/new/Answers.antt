use Rattle.std.proofs.Common.{[], ap, map, sym, subst}
use Rattle.mz_decompile_text.specs.Naming.{vocabulary_by}
use Rattle.mz_machine_theory.specs.Spells.{dummy_of}
use Rattle.mz_decompile_text.specs.Numbers.{AreAt}
use Rattle.mz_decompile_text.proofs.Frames.{params_marked}
use Rattle.mz_decompile_text.proofs.reading.Reading.new.Goals as goal

pub returns-clause-ready : goal.returns-clause-ready
returns-clause-ready c = λ file o binders us params many stream. record {
  stream = stream;
  over = sym params;
  marked = params_marked (vocabulary_by c.args.names.now) c.push_params.new.phrases binders c.in_ok-marks.marks.items c.args.params c.in_ok-marks.ensures.words many;
  own = tt;
  dummies = ap (map dummy_of) (sym c.new.ensures.items);
  read = subst (λ ns. AreAt c.push_params.new.phrases ns []) (sym c.new-2.ensures.items) tt;
  pending = c.new-3.ensures.items;
}
