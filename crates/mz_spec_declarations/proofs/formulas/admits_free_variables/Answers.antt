use Rattle.std.proofs.Common.{◌∙◌, ◌↔◌, ℕ, List, Bool, Contains, IsTrue, sym, subst}
use Rattle.std.specs.Prelude.{IfOk}
use Rattle.mz_logic_theory.specs.Declaration.{signatures}
use Rattle.mz_logic_theory.specs.Sorts.{HasSort}
use Rattle.mz_logic_theory.specs.Variables.{InFV}
use Rattle.mz_logic_theory.specs.View.{tree}
use Rattle.mz_logic_theory.specs.declared.binder.Binder.{Binder}
use Rattle.mz_spec_declarations.proofs.formulas.admits_free_variables.Goals as goal

pub free_vars_are_among-requires : goal.free_vars_are_among-requires
free_vars_are_among-requires c =
    subst (λ (bs : List Binder). (s : ℕ) × HasSort (signatures c.args.state.now.env) bs (tree c.args.body.now) s) (sym (c.of.ensures ∙ c.binders.ensures.binders)) c.requires.sorted

pub returns : goal.returns
returns c =
    subst
    (λ (bs : List Binder). IfOk c.free_vars_are_among.result (λ (has : Bool). IsTrue has ↔ ((x : ℕ) → InFV (signatures c.args.state.now.env) bs x (tree c.args.body.now) → Contains c.args.deps.now x)))
    (c.of.ensures ∙ c.binders.ensures.binders) c.free_vars_are_among.ensures
