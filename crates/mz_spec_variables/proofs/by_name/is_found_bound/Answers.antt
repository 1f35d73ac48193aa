use Rattle.std.proofs.Common.{◌∙◌, ◌↔◌, List, map, sym, subst, refl, false}
use Rattle.std.specs.Prelude.{IsTrue}
use Rattle.std.proofs.lemmas.List.{take-map}
use Rattle.mz_spec_theory.specs.StatementCode.{lexeme}
use Rattle.mz_spec_variables.specs.Code.{variable}
use Rattle.mz_spec_theory.specs.Dependencies.{IsBoundAmong}
use Rattle.mz_spec_theory.specs.View.{Variable}
use Rattle.mz_spec_variables.proofs.Indexed.{none-bound, some-bound, read-bound}
use Rattle.mz_spec_variables.proofs.by_name.is_found_bound.Goals as goal

pub returns-in-None : goal.returns-in-None
returns-in-None c =
    subst (λ (vs : List Variable). IsTrue false ↔ IsBoundAmong vs (lexeme c.args.dep)) (take-map variable c.args.end c.args.variables.now)
    (none-bound (map variable c.args.variables.now) c.args.places.now c.requires.index c.args.end (lexeme c.args.dep) (sym c.get.ensures ∙ c.in-None.is) false refl)

pub returns-in-Some : goal.returns-in-Some
returns-in-Some c =
    subst (λ (vs : List Variable). IsTrue c.is_bound_within.result ↔ IsBoundAmong vs (lexeme c.args.dep)) (take-map variable c.args.end c.args.variables.now)
    (some-bound (map variable c.args.variables.now) c.args.places.now c.requires.index c.args.end (lexeme c.args.dep) c.in-Some.place (sym c.get.ensures ∙ c.in-Some.is) c.is_bound_within.result
    (read-bound c.args.variables.now c.args.end c.in-Some.place c.is_bound_within.result c.is_bound_within.ensures))
