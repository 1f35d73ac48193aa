-- Each statement of a well-typed text within the limits may follow those before it.
use Rattle.std.proofs.Common.{ℕ, zero, suc, ◌≡◌, Bool, true, ◌≤◌, ◌<◌, ◌+◌, List, [], ◌∷◌, ◌++◌, length, take, All, sym, subst, ap, arith, append_assoc, append-nil}
use Rattle.std.proofs.lemmas.List.Elements.{All-get_or}
use Rattle.mz_base.specs.Checks.{AllHold}
use Rattle.mz_base.proofs.Offered.{all_hold-first, all_hold-rest}
use Rattle.mz_logic_theory.specs.Declaration.{Declaration, sorts}
use Rattle.mz_logic_theory.specs.Legality.{LegalEnvAfter}
use Rattle.mz_logic_theory.specs.WordsWritten.{CanBeWords}
use Rattle.mz_mmu_theory.specs.Statements.{HasGapsOnly, Statement}
use Rattle.mz_mmu_theory.specs.ReadingLaws.{IsWhole}
use Rattle.mz_mmu_theory.specs.Names.{StatementThere, StatementsThere}
use Rattle.mz_mmu_theory.specs.Meaning.{IsLegalAsStated, LegalAsStatedAfter, LegalAsStated}
use Rattle.mz_type.specs.Ready.{CanBeWordsAfter}
use Rattle.mz_type.specs.TypedText.{statement_at, declared}
use Rattle.mz_mmu_theory.specs.Weight.{Limit, parameter_limit, bound_limit, params_of, parameter_count, bound_count, statement_weight, weight_after, weight_of, byte_bound, each_within, IsWithinLimits}
use Rattle.mz_emit.specs.Emitting.{IsStated, MayFollow}

legal_at : (gaps : Bool) (env : List Declaration) (ss : List Statement) (i : ℕ) → LegalAsStatedAfter gaps env ss → i < length ss
    → IsLegalAsStated gaps (env ++ declared (take i ss)) (statement_at ss i)
legal_at gaps env [] i h below = absurd (omega arith)
legal_at gaps env (s ∷ ss) zero h below = subst (λ e. IsLegalAsStated gaps e s) (sym (append-nil env)) h.0
legal_at gaps env (s ∷ ss) (suc i) h below =
    subst (λ e. IsLegalAsStated gaps e (statement_at ss i)) (append_assoc env (s.decl ∷ []) (declared (take i ss)))
    (legal_at gaps (env ++ s.decl ∷ []) ss i h.1 (omega arith))

words_at : (env : List Declaration) (ss : List Statement) (i : ℕ) → CanBeWordsAfter env ss → i < length ss
    → CanBeWords (sorts (env ++ declared (take i ss))) (params_of (statement_at ss i).decl)
words_at env [] i h below = absurd (omega arith)
words_at env (s ∷ ss) zero h below = subst (λ e. CanBeWords (sorts e) (params_of s.decl)) (sym (append-nil env)) h.0
words_at env (s ∷ ss) (suc i) h below =
    subst (λ e. CanBeWords (sorts e) (params_of (statement_at ss i).decl)) (append_assoc env (s.decl ∷ []) (declared (take i ss)))
    (words_at (env ++ s.decl ∷ []) ss i h.1 (omega arith))

there_at : (env : List Declaration) (ss : List Statement) (i : ℕ) → StatementsThere env ss → i < length ss
    → StatementThere (env ++ declared (take i ss)) (statement_at ss i)
there_at env [] i h below = absurd (omega arith)
there_at env (s ∷ ss) zero h below = subst (λ e. StatementThere e s) (sym (append-nil env)) h.0
there_at env (s ∷ ss) (suc i) h below =
    subst (λ e. StatementThere e (statement_at ss i)) (append_assoc env (s.decl ∷ []) (declared (take i ss)))
    (there_at (env ++ s.decl ∷ []) ss i h.1 (omega arith))

legal_front : (gaps : Bool) (env : List Declaration) (ss : List Statement) (i : ℕ) → LegalAsStatedAfter gaps env ss → LegalEnvAfter env (declared (take i ss))
legal_front gaps env (s ∷ ss) (suc i) h = (h.0.0, legal_front gaps (env ++ s.decl ∷ []) ss i h.1)
legal_front gaps env [] zero h = tt
legal_front gaps env _ _ h = tt

few_at : (l : Limit) (amount : Statement → ℕ) (most : ℕ) (ss : List Statement) (i : ℕ) → AllHold (each_within l amount most ss) → i < length ss
    → amount (statement_at ss i) ≤ most
few_at l amount most [] i h below = absurd (omega arith)
few_at l amount most (s ∷ ss) zero h below = h.0
few_at l amount most (s ∷ ss) (suc i) h below = few_at l amount most ss i h.1 (omega arith)

weight_at : (env : List Declaration) (ss : List Statement) (i : ℕ) → i < length ss
    → weight_after env (take i ss) + statement_weight (env ++ declared (take i ss)) (statement_at ss i) ≤ weight_after env ss
weight_at env [] i below = absurd (omega arith)
weight_at env (s ∷ ss) zero below = omega (arith, ap (λ e. statement_weight e s) (sym (append-nil env)))
weight_at env (s ∷ ss) (suc i) below =
    omega (
      arith,
      weight_at (env ++ s.decl ∷ []) ss i (omega arith),
      ap (λ e. statement_weight e (statement_at ss i)) (append_assoc env (s.decl ∷ []) (declared (take i ss))),
    )

pub short_enough : (ss : List Statement) → IsWithinLimits ss → byte_bound ss ≤ 4294967295
short_enough ss within =
    (all_hold-rest (each_within bound_limit bound_count 55 ss) _ (all_hold-rest (each_within parameter_limit parameter_count 65535 ss) _ within.1)).0

module _ (gaps : Bool) (ss : List Statement) (legal : LegalAsStated gaps ss) (there : StatementsThere [] ss) (whole : All IsWhole ss) (stated : All (λ s. IsStated s.decl) ss)
    (has_gaps : All (HasGapsOnly (gaps ≡ true)) ss)
    (words : CanBeWordsAfter [] ss) (within : IsWithinLimits ss) where
  pub light : weight_of ss ≤ 134217725
  light =
      let bytes : byte_bound ss ≤ 4294967295 = short_enough ss within in
      omega (arith, bytes)

  pub follows : (i : ℕ) → i < length ss → MayFollow gaps (take i ss) (statement_at ss i)
  follows i below = record {
    legal = legal_at gaps [] ss i legal below;
    legal_env = legal_front gaps [] ss i legal;
    there = there_at [] ss i there below;
    whole = All-get_or IsWhole ss i _ below whole;
    has_gaps = All-get_or (HasGapsOnly (gaps ≡ true)) ss i _ below has_gaps;
    stated = All-get_or (λ s. IsStated s.decl) ss i _ below stated;
    words = words_at [] ss i words below;
    few_params = few_at parameter_limit parameter_count 65535 ss i (all_hold-first (each_within parameter_limit parameter_count 65535 ss) _ within.1) below;
    few_bound = few_at bound_limit bound_count 55 ss i
        (all_hold-first (each_within bound_limit bound_count 55 ss) _ (all_hold-rest (each_within parameter_limit parameter_count 65535 ss) _ within.1)) below;
    light = omega (arith, weight_at [] ss i below, light);
  }
