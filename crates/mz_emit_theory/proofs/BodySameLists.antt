-- Lists that are the same declare environments that are.
use Rattle.std.proofs.Common.{List, [], ◌∷◌, refl, ap, subst}
use Rattle.mz_logic_theory.specs.Declaration.{Term, Assertion, Declaration, sort_decl, term_decl, assertion_decl}
use Rattle.mz_logic_theory.specs.LegalLists.{declarations}
use Rattle.mz_logic_theory.specs.declared.binder.SortMods.{SortMods}
use Rattle.mz_emit_theory.specs.AlphaEquivalence.{IsSameTerm, IsSameEnv}
use Rattle.mz_emit_theory.specs.AlphaLists.{IsSameDeclaration, SameListsAreSameEnvs}

env-sort : (m : SortMods) (env env' : List Declaration) → IsSameEnv env env' → IsSameEnv (sort_decl m ∷ env) (sort_decl m ∷ env')
env-sort m env env' h = record { sorts_are = ap (λ (z : List SortMods). m ∷ z) h.sorts_are; terms_are = h.terms_are; assertions_are = h.assertions_are }

env-term : (d d' : Term) (env env' : List Declaration) → IsSameTerm d d' → IsSameEnv env env' → IsSameEnv (term_decl d ∷ env) (term_decl d' ∷ env')
env-term d d' env env' same h = record { sorts_are = h.sorts_are; terms_are = (same, h.terms_are); assertions_are = h.assertions_are }

env-assertion : (a : Assertion) (env env' : List Declaration) → IsSameEnv env env' → IsSameEnv (assertion_decl a ∷ env) (assertion_decl a ∷ env')
env-assertion a env env' h = record { sorts_are = h.sorts_are; terms_are = h.terms_are; assertions_are = ap (λ (z : List Assertion). a ∷ z) h.assertions_are }

env-more : (d d' : Declaration) (env env' : List Declaration) → IsSameDeclaration d d' → IsSameEnv env env' → IsSameEnv (d ∷ env) (d' ∷ env')
env-more (sort_decl m) (sort_decl m') env env' same h = subst (λ (z : SortMods). IsSameEnv (sort_decl m ∷ env) (sort_decl z ∷ env')) same (env-sort m env env' h)
env-more (term_decl d) (term_decl e) env env' same h = env-term d e env env' same h
env-more (assertion_decl a) (assertion_decl b) env env' same h = subst (λ (z : Assertion). IsSameEnv (assertion_decl a ∷ env) (assertion_decl z ∷ env')) same (env-assertion a env env' h)
env-more _ _ env env' same h = absurd same

pub envs-same : SameListsAreSameEnvs
envs-same [] [] h = record { sorts_are = refl; terms_are = tt; assertions_are = refl }
envs-same (s ∷ ss) (s' ∷ ss') ((_, decl), h) = env-more s.decl s'.decl (declarations ss) (declarations ss') decl (envs-same ss ss' h)
envs-same _ _ h = absurd h
