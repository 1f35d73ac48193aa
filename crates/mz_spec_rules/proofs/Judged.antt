-- The rules of a statement that declares something, as its parts are looked at one after another.
use Rattle.std.proofs.Common.{◌≡◌, ◌∙◌, ◌<◌, ◌≤◌, ◌+◌, ◌^◌, ◌++◌, ℕ, List, [], ◌∷◌, length, map, ap, sym, subst, arith}
use Rattle.std.proofs.lemmas.List.{length-map}
use Rattle.mz_base.specs.Checks.{Checks, ◌>>◌, AllHold, FailsFirst, each_in_order}
use Rattle.mz_base.proofs.Offered.{all_hold-both, all_hold-first}
use Rattle.mz_logic_theory.proofs.Offered.{sorts-few, terms-few}
use Rattle.mz_spec_theory.specs.Reading.{OnFault}
use Rattle.mz_spec_theory.specs.Statement.{TypeText, SpecStatement}
use Rattle.mz_spec_theory.specs.declared.refusal.Fault.{Fault}
use Rattle.mz_spec_theory.specs.declared.refusal.Halt.{Halt}
use Rattle.mz_spec_variables.specs.Code.{AreParts, variable}
use Rattle.mz_spec_theory.specs.Kept.{IsKept, IsSpelled}
use Rattle.mz_spec_theory.specs.Rules.{are_others, type_checks, binder_rules, variable_rules, parts_rules}
use Rattle.mz_spec_theory.specs.State.{State, variable_bytes}
use Rattle.mz_spec_theory.specs.View.{Variable, names_of, view, params_of}
use Rattle.mz_spec_variables.specs.declared.parts.Parts.{Parts}
use Rattle.mz_spec_theory.proofs.Offered.{assoc, mem-before, mem-after, parts-few, variables-named, split-variables}
use Rattle.mz_math_theory.specs.Kept.{AreVariables}

module _ (σ : State) (place : ℕ) (vs : List Variable) (ts rs : List TypeText) (new rest : Checks Fault) where
  -- the rules behind that of the name
  abbrev Behind : Checks Fault
  Behind = are_others [] vs >> each_in_order (type_checks σ (names_of vs)) ts >> binder_rules σ place vs rs >> rest

  abbrev pub whole : Checks Fault
  whole = new >> Behind

  behind : (parts_rules σ place vs ts rs >> rest) ≡ Behind
  behind =
      assoc (variable_rules σ vs ts) (binder_rules σ place vs rs) rest
      ∙ assoc (are_others [] vs) (each_in_order (type_checks σ (names_of vs)) ts) (binder_rules σ place vs rs >> rest)

  -- one of the parts fails, or it is out of memory there
  pub parts-halt : (halt : Halt) → AllHold new → OnFault halt (FailsFirst (parts_rules σ place vs ts rs)) → OnFault halt (FailsFirst whole)
  parts-halt halt holds fails =
      mem-after new Behind halt holds (subst (λ cs. OnFault halt (FailsFirst cs)) behind (mem-before (parts_rules σ place vs ts rs) rest halt fails))

  -- or what comes behind them
  pub rest-halt : (halt : Halt) → AllHold new → AllHold (parts_rules σ place vs ts rs) → OnFault halt (FailsFirst rest) → OnFault halt (FailsFirst whole)
  rest-halt halt holds parts fails =
      mem-after new Behind halt holds (subst (λ cs. OnFault halt (FailsFirst cs)) behind (mem-after (parts_rules σ place vs ts rs) rest halt parts fails))

  -- or all hold
  pub parts-hold : AllHold new → AllHold (parts_rules σ place vs ts rs) → AllHold rest → AllHold whole
  parts-hold holds parts last = all_hold-both new Behind holds (subst AllHold behind (all_hold-both (parts_rules σ place vs ts rs) rest parts last))

-- ---- how many there are

pub few-sorts : (σ : State) → IsKept σ → length σ.spans + 1 < 2 ^ 32 → length σ.sort_names < 2 ^ 32
few-sorts σ kept few = let a = kept.sorts in let b = kept.spans in omega (arith, a, b, sorts-few σ.env, few)

pub few-terms : (σ : State) → IsKept σ → length σ.spans + 1 < 2 ^ 32 → length σ.term_names < 2 ^ 32
few-terms σ kept few = let a = kept.terms in let b = kept.spans in omega (arith, a, b, terms-few σ.env, few)

pub few-params : (s : SpecStatement) (p : Parts) → IsSpelled s → AreParts p (view s).variables (view s).types (view s).result → length p.params.items + length p.dummies.items < 2 ^ 32
few-params s p spelled parts =
    let a = ap length parts.params in
    let b = ap length parts.dummies in
    let c = length-map p.params.items variable in
    let d = length-map p.dummies.items variable in
    omega (arith, a, b, c, d, parts-few s spelled)

-- the names of the parts are names of their own
pub parts-names : (σ : State) (place : ℕ) (s : SpecStatement) (p : Parts) → IsSpelled s → AreParts p (view s).variables (view s).types (view s).result → AllHold (parts_rules σ place (view s).variables (view s).types (view s).result)
    → AreVariables (map variable_bytes (map variable p.params.items) ++ map variable_bytes (map variable p.dummies.items))
parts-names σ place s p spelled parts holds =
    let vs = (view s).variables in
    let others = all_hold-first (are_others [] vs) (each_in_order (type_checks σ (names_of vs)) (view s).types) (all_hold-first (variable_rules σ vs (view s).types) (binder_rules σ place vs (view s).result) holds) in
    subst (λ xs. AreVariables (map variable_bytes xs ++ map variable_bytes (map variable p.dummies.items))) (sym parts.params)
    (subst (λ xs. AreVariables (map variable_bytes (params_of vs) ++ map variable_bytes xs)) (sym parts.dummies) (split-variables vs others (variables-named s spelled)))
