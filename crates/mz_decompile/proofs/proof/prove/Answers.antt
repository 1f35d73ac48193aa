use Rattle.std.proofs.Common.{◌∙◌, map, refl, sym, ap}
use Rattle.mz_machine_theory.specs.Spells.{dummy_of}
use Rattle.mz_trace.specs.Traces.{under_lets}
use Rattle.mz_trace.specs.Runs.{dummies_in, lets_in, root_in}
use Rattle.mz_decompile.proofs.proof.prove.Goals as goal

pub traced-requires-clause-name : goal.traced-requires-clause-name
traced-requires-clause-name c = refl

pub traced-requires-clause-parts : goal.traced-requires-clause-parts
traced-requires-clause-parts c = refl

pub returns-clause-grows : goal.returns-clause-grows
returns-clause-grows c = c.in_ok-retold.ensures.grows

pub returns-clause-proved : goal.returns-clause-proved
returns-clause-proved c env dummies p makes =
    let run = c.in-Run.run' in
    let same = makes.one (dummies_in run) (lets_in run) (root_in run) c.in-Run.ensures.run.made in record {
      dummies_are = same.0 ∙ ap (map dummy_of) (sym c.into_dummies.ensures);
      tree = under_lets (lets_in run) (root_in run);
      proof_is = same.1;
      phrase = c.in_ok-retold.ensures.phrase;
      weight_is = c.in_ok-retold.ensures.weight env (c.in-Run.ensures.claims env makes.declares);
    }
