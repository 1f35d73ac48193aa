use Rattle.std.proofs.Common.{◌∙◌, map, ap, refl}
use Rattle.mz_spec_variables.specs.Code.{dummies_read, params_read, variable}
use Rattle.mz_spec_theory.specs.View.{dummies_of, params_of}
use Rattle.mz_spec_variables.proofs.Grouped.{grouped-dummies, grouped-params}
use Rattle.mz_spec_variables.proofs.parts.Parts.new.Goals as goal

pub returns : goal.returns
returns c = record {
  variables = refl;
  params = c.in_ok-params.ensures.params ∙ ap (λ vs. params_of (map variable vs)) c.deref.ensures.value;
  dummies = c.in_ok-dummies.ensures.dummies ∙ ap (λ vs. dummies_of (map variable vs)) c.deref-2.ensures.value;
  types = refl;
  result = refl;
  grouped_params = grouped-params c.args.variables.items c.in_ok-params.params.items (c.in_ok-params.ensures.read ∙ ap params_read c.deref.ensures.value) c.requires;
  grouped_dummies = grouped-dummies c.args.variables.items c.in_ok-dummies.dummies.items (c.in_ok-dummies.ensures.read ∙ ap dummies_read c.deref-2.ensures.value) c.requires;
}
