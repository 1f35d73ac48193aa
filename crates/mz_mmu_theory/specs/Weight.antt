-- The weight of a text, and the limits of a compiled file (this project's own; 55 bound variables, 128 sorts and the
-- sizes of the tables are the .mmb format's).
use Rattle.std.specs.Prelude.{ℕ, ◌+◌, ◌*◌, ◌≤◌, List, [], ◌∷◌, ◌++◌, length, count_by, Option, Some, None}
use Rattle.mz_base.specs.Checks.{Checks, nothing, demand, ◌>>◌, AllHold, FailsFirst}
use Rattle.mz_logic_theory.specs.Tree.{instance, followed_by, variables, size, trees_size}
use Rattle.mz_logic_theory.specs.Declaration.{Declaration, sort_decl, term_decl, assertion_decl, dummies_of, body_of, sorts, body_tree}
use Rattle.mz_logic_theory.specs.Conversions.{Conversion, Conversions, refl_conv, sym_conv, cong_conv, unfold_conv, gap_conv, no_convs, more_convs}
use Rattle.mz_logic_theory.specs.declared.binder.Binder.{Binder}
use Rattle.mz_mmu_theory.specs.Proof.{Proof, Proofs, by_hyp, by_name, by_citation, by_conv, by_let, by_gap, no_proofs, more_proofs}
use Rattle.mz_mmu_theory.specs.Statements.{Statement}
use Rattle.mz_mmu_theory.specs.Sides.{assertion_at, term_at}

-- ---- the weight: what is written, and of each citation and unfolding the instance that it stands for

-- a reflexivity weighs 1; each other step 1 and its parts; an unfolding also its operands and the
-- instance of the body, and a gap its sides
abbrev mutual
  pub conv_weight : List Declaration → Conversion → ℕ
  conv_weight env (refl_conv e) = 1
  conv_weight env (sym_conv c) = 1 + conv_weight env c
  conv_weight env (cong_conv t cs) = 1 + convs_weight env cs
  conv_weight env (unfold_conv t es ys c) =
      1 + trees_size es + size (instance (followed_by es (variables ys)) (body_tree (term_at env t).form)) + conv_weight env c
  conv_weight env (gap_conv l r) = 1 + size l + size r

  pub convs_weight : List Declaration → Conversions → ℕ
  convs_weight env no_convs = 0
  convs_weight env (more_convs c cs) = conv_weight env c + convs_weight env cs

-- a name weighs 1; a citation its operands, the instance of the conclusion and its subproofs; a let
-- its parts, its first one once; a gap its expression
abbrev mutual
  pub proof_weight : List Declaration → Proof → ℕ
  proof_weight env (by_hyp i) = 1
  proof_weight env (by_name i) = 1
  proof_weight env (by_citation T es ps) = 1 + trees_size es + size (instance es (assertion_at env T).conclusion) + proofs_weight env ps
  proof_weight env (by_conv e c p) = 1 + size e + conv_weight env c + proof_weight env p
  proof_weight env (by_let p q) = 1 + proof_weight env p + proof_weight env q
  proof_weight env (by_gap e) = 1 + size e

  pub proofs_weight : List Declaration → Proofs → ℕ
  proofs_weight env no_proofs = 0
  proofs_weight env (more_proofs p ps) = proof_weight env p + proofs_weight env ps

abbrev pub stated_weight : List Declaration → Option Proof → ℕ
stated_weight env None = 0
stated_weight env (Some p) = proof_weight env p

-- binders, dummies, and the nodes of hypotheses, conclusion or body
abbrev pub declaration_weight : Declaration → ℕ
declaration_weight (sort_decl _) = 0
declaration_weight (term_decl d) = length d.signature.params + length (dummies_of d.form) + trees_size (body_of d.form)
declaration_weight (assertion_decl a) = length a.params + trees_size a.hyps + size a.conclusion

abbrev pub statement_weight : List Declaration → Statement → ℕ
statement_weight env s = 1 + declaration_weight s.decl + length s.dummies + stated_weight env s.proof

abbrev pub weight_after : List Declaration → List Statement → ℕ
weight_after env [] = 0
weight_after env (s ∷ ss) = statement_weight env s + weight_after (env ++ s.decl ∷ []) ss

abbrev pub weight_of : List Statement → ℕ
weight_of ss = weight_after [] ss

-- ---- limits

pub data Limit : Type 0 where
  sort_limit : Limit
  parameter_limit : Limit
  bound_limit : Limit
  byte_limit : Limit

-- a limit that is passed, with its count
pub record Passed : Type 0 where
  pub limit : Limit
  pub count : ℕ

abbrev pub sort_count : List Statement → ℕ
sort_count [] = 0
sort_count (s ∷ ss) = length (sorts (s.decl ∷ [])) + sort_count ss

abbrev pub params_of : Declaration → List Binder
params_of (sort_decl _) = []
params_of (term_decl d) = d.signature.params
params_of (assertion_decl a) = a.params

abbrev pub dummy_count : Declaration → ℕ
dummy_count (sort_decl _) = 0
dummy_count (term_decl d) = length (dummies_of d.form)
dummy_count (assertion_decl _) = 0

abbrev pub parameter_count : Statement → ℕ
parameter_count s = length (params_of s.decl)

-- dummies included
abbrev pub bound_count : Statement → ℕ
bound_count s = count_by (λ b. b.bound) (params_of s.decl) + dummy_count s.decl + length s.dummies

abbrev pub byte_bound : List Statement → ℕ
byte_bound ss = 64 + 32 * weight_of ss

-- the count is at most so many
abbrev pub within : Limit → ℕ → ℕ → Checks Passed
within l amount most = demand (record { limit = l; count = amount }) (amount ≤ most)

-- the count of each statement is
abbrev pub each_within : Limit → (Statement → ℕ) → ℕ → List Statement → Checks Passed
each_within l amount most [] = nothing
each_within l amount most (s ∷ ss) = within l (amount s) most >> each_within l amount most ss

abbrev pub limit_checks : List Statement → Checks Passed
limit_checks ss =
    within sort_limit (sort_count ss) 128
    >> each_within parameter_limit parameter_count 65535 ss
    >> each_within bound_limit bound_count 55 ss
    >> within byte_limit (byte_bound ss) 4294967295

abbrev pub IsWithinLimits : List Statement → Type 0
IsWithinLimits ss = AllHold (limit_checks ss)

-- the first limit that is passed
abbrev pub Passes : List Statement → Passed → Type 0
Passes ss p = FailsFirst (limit_checks ss) p
