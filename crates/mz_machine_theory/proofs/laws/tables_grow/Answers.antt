use Rattle.std.proofs.Common.{refl}
use Rattle.mz_machine_theory.proofs.Growing.{sort-grows, term-grows, thm-grows}
use Rattle.mz_machine_theory.proofs.laws.tables_grow.Goals as goal

pub returns : goal.returns
returns c = record {
  nothing_at_first = record { sorts_are = refl; terms_are = tt; thms_are = tt };
  sorts = sort-grows;
  terms = term-grows;
  assertions = thm-grows;
}
