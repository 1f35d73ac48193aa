-- What a good statement's rules say, one by one.
use Rattle.std.proofs.Common.{List, [], ℕ}
use Rattle.mz_base.specs.Checks.{each_in_order, ◌>>◌, AllHold}
use Rattle.mz_base.proofs.Offered.{all_hold-first, all_hold-rest}
use Rattle.mz_lex.specs.declared.tokens.MathToken.{MathToken}
use Rattle.mz_spec_theory.specs.Statement.{SpecStatement}
use Rattle.mz_spec_theory.specs.View.{view, names_of, dummies_of}
use Rattle.mz_spec_theory.specs.State.{State}
use Rattle.mz_spec_theory.specs.Formulas.{strings_checks, free_checks}
use Rattle.mz_spec_theory.specs.Forms.{form_checks}
use Rattle.mz_spec_theory.specs.Dependencies.{Every}
use Rattle.mz_spec_theory.specs.Rules.{is_level, is_new, are_others, is_known, type_checks, name_rules, use_rules, HaveBinders, binder_rules, body_rules, statement_checks, IsDummySort, IsNotPure}

module _ (σ : State) (place : ℕ) (s : SpecStatement) (tokens : List (List MathToken)) (good : AllHold (statement_checks σ place s tokens)) where
  pub good-levels : AllHold (each_in_order is_level (view s).levels)
  good-levels = all_hold-first (each_in_order is_level (view s).levels) _ good

  behind_levels : AllHold (name_rules σ (view s) >> use_rules σ (view s) >> binder_rules σ place (view s).variables (view s).result >> body_rules σ place (view s).variables (view s).formulas tokens >> form_checks σ place s)
  behind_levels = all_hold-rest (each_in_order is_level (view s).levels) _ good

  behind_names : AllHold (use_rules σ (view s) >> binder_rules σ place (view s).variables (view s).result >> body_rules σ place (view s).variables (view s).formulas tokens >> form_checks σ place s)
  behind_names = all_hold-rest (name_rules σ (view s)) _ behind_levels

  behind_uses : AllHold (binder_rules σ place (view s).variables (view s).result >> body_rules σ place (view s).variables (view s).formulas tokens >> form_checks σ place s)
  behind_uses = all_hold-rest (use_rules σ (view s)) _ behind_names

  behind_binders : AllHold (body_rules σ place (view s).variables (view s).formulas tokens >> form_checks σ place s)
  behind_binders = all_hold-rest (binder_rules σ place (view s).variables (view s).result) _ behind_uses

  pub good-new : AllHold (each_in_order (is_new σ) (view s).declares)
  good-new = all_hold-first (each_in_order (is_new σ) (view s).declares) _ (all_hold-first (name_rules σ (view s)) _ behind_levels)

  pub good-others : AllHold (are_others [] (view s).variables)
  good-others = all_hold-rest (each_in_order (is_new σ) (view s).declares) _ (all_hold-first (name_rules σ (view s)) _ behind_levels)

  pub good-mentions : AllHold (each_in_order (is_known σ.term_names) (view s).mentions)
  good-mentions = all_hold-first (each_in_order (is_known σ.term_names) (view s).mentions) _ (all_hold-first (use_rules σ (view s)) _ behind_names)

  pub good-types : AllHold (each_in_order (type_checks σ (names_of (view s).variables)) (view s).types)
  good-types = all_hold-rest (each_in_order (is_known σ.term_names) (view s).mentions) _ (all_hold-first (use_rules σ (view s)) _ behind_names)

  binders : AllHold (binder_rules σ place (view s).variables (view s).result)
  binders = all_hold-first (binder_rules σ place (view s).variables (view s).result) _ behind_uses

  pub good-binders : HaveBinders σ (view s).variables (view s).result
  good-binders = binders.0

  pub good-dummies : Every (IsDummySort σ) (dummies_of (view s).variables)
  good-dummies = binders.1.0

  pub good-results : Every (IsNotPure σ) (view s).result
  good-results = binders.1.1.0

  pub good-strings : AllHold (strings_checks σ (view s).variables (view s).formulas tokens)
  good-strings = all_hold-first (strings_checks σ (view s).variables (view s).formulas tokens) _ (all_hold-first (body_rules σ place (view s).variables (view s).formulas tokens) _ behind_binders)

  pub good-free : AllHold (each_in_order (free_checks σ place (view s).variables) (view s).formulas)
  good-free = all_hold-rest (strings_checks σ (view s).variables (view s).formulas tokens) _ (all_hold-first (body_rules σ place (view s).variables (view s).formulas tokens) _ behind_binders)

  pub good-form : AllHold (form_checks σ place s)
  good-form = all_hold-rest (body_rules σ place (view s).variables (view s).formulas tokens) _ behind_binders
