-- The eight rules of a legal declaration, one by one.
use Rattle.std.proofs.Common.{List}
use Rattle.mz_logic_theory.specs.Declaration.{Declaration}
use Rattle.mz_logic_theory.specs.Legality.{NamesThere, BindersRight, NoResultPure, SortsRight, BoundRight, ClaimsProvable, DummySortsRight, DepsRight, IsLegalDecl}

module _ (env : List Declaration) (d : Declaration) where
  pub legal_by_rules : NamesThere env d → BindersRight env d → NoResultPure env d → SortsRight env d → BoundRight env d → ClaimsProvable env d → DummySortsRight env d → DepsRight env d
      → IsLegalDecl env d
  legal_by_rules names binders result sorts bound claims dummies deps = (names, (binders, (result, (sorts, (bound, (claims, (dummies, (deps, tt))))))))

  module _ (legal : IsLegalDecl env d) where
    pub names_there : NamesThere env d
    names_there = legal.0

    pub binders_right : BindersRight env d
    binders_right = legal.1.0

    pub no_result_pure : NoResultPure env d
    no_result_pure = legal.1.1.0

    pub sorts_right : SortsRight env d
    sorts_right = legal.1.1.1.0

    pub bound_right : BoundRight env d
    bound_right = legal.1.1.1.1.0

    pub claims_provable : ClaimsProvable env d
    claims_provable = legal.1.1.1.1.1.0

    pub dummy_sorts_right : DummySortsRight env d
    dummy_sorts_right = legal.1.1.1.1.1.1.0

    pub deps_right : DepsRight env d
    deps_right = legal.1.1.1.1.1.1.1.0
