-- What is kept of the subproofs that were compared with hypotheses.
use Rattle.std.specs.Prelude.{ℕ, ◌≡◌, List, [], ◌∷◌, Some, slice_get}
use Rattle.mz_logic_theory.specs.Declaration.{Declaration}
use Rattle.mz_logic_theory.specs.Tree.{Tree, Trees, none, more, operand, instance}
use Rattle.mz_mmu_theory.specs.Proof.{Proof, by_hyp, by_name, by_citation, by_conv, by_let, by_gap}
use Rattle.mz_mmu_theory.specs.Sides.{assertion_at}
use Rattle.mz_type_rules.specs.Claims.{claim_tree}
use Rattle.mz_type_rules.specs.declared.claim.Claim.{Claim}
use Rattle.mz_type_rules.specs.declared.lets.Key.{Key}
use Rattle.mz_type_rules.specs.declared.lets.Kept.{Kept}
use Rattle.mz_type_rules.specs.declared.lets.Name.{Name}
use Rattle.mz_type_rules.specs.declared.lets.Name.TheVariants as names
use Rattle.mz_type_rules.specs.declared.lets.Named.{Named}

-- what the visible lets prove, the outermost first
abbrev pub let_trees : List Named → Trees
let_trees [] = none
let_trees (l ∷ ls) = more (claim_tree l.claim) (let_trees ls)

-- ---- what is kept

-- the hypothesis, as it is declared
abbrev pub wanted : List Declaration → Key → Tree
wanted env key = operand (assertion_at env key.number).hyps key.place

-- what has the name is the pattern with the operands put in; a conclusion is the pattern itself
abbrev pub IsPattern : List Declaration → Trees → List Claim → Name → Trees → Tree → Type 0
IsPattern env hyps named (names.Hyp i) at pattern = operand hyps i ≡ instance at pattern
IsPattern env hyps named (names.Let k) at pattern = (c : Claim) × (slice_get named k ≡ Some c) × (claim_tree c ≡ instance at pattern)
IsPattern env hyps named (names.Cited T) at pattern = (assertion_at env T).conclusion ≡ pattern

pub record IsKept (env : List Declaration) (hyps : Trees) (named : List Claim) (kept : Kept) : Type 0 where
  pub own : wanted env kept.key ≡ instance kept.own (wanted env kept.key)
  pub pattern : IsPattern env hyps named kept.key.name kept.at.now (instance kept.vars (wanted env kept.key))

abbrev pub AreKept : List Declaration → Trees → List Claim → List Kept → Type 0
AreKept env hyps named ks = (i : ℕ) (k : Kept) → slice_get ks i ≡ Some k → IsKept env hyps named k

-- the name is that of a hypothesis, or of a let, which proves this
abbrev pub IsNamed : Trees → List Claim → Claim → Name → Type 0
IsNamed hyps named c (names.Hyp i) = claim_tree c ≡ operand hyps i
IsNamed hyps named c (names.Let k) = slice_get named k ≡ Some c
IsNamed hyps named c (names.Cited T) = ⊥

abbrev pub AreNamed : Trees → List Claim → List Named → Type 0
AreNamed hyps named ls = (i : ℕ) (l : Named) → slice_get ls i ≡ Some l → IsNamed hyps named l.claim l.name

-- ---- subproofs

-- the name of what the subproof proves
abbrev pub Names : List Named → Proof → Name → Type 0
Names ls (by_hyp i) name = name ≡ names.Hyp i
Names ls (by_name i) name = (l : Named) × (slice_get ls i ≡ Some l) × (name ≡ l.name)
Names ls (by_citation T es ps) name = name ≡ names.Cited T
Names ls (by_conv e c p) name = ⊥
Names ls (by_let p q) name = ⊥
Names ls (by_gap e) name = ⊥

-- what is put into the pattern: a citation's own operands, or those that were kept (of what has no name nothing is meant)
abbrev pub put_into : Proof → Trees → Trees
put_into (by_hyp i) at = at
put_into (by_name i) at = at
put_into (by_citation T es ps) at = es
put_into (by_conv e c p) at = at
put_into (by_let p q) at = at
put_into (by_gap e) at = at

-- the expression of which the subproof proves an instance: a citation's conclusion, or the hypothesis
abbrev pub source : List Declaration → Proof → Tree → Tree
source env (by_hyp i) hyp = hyp
source env (by_name i) hyp = hyp
source env (by_citation T es ps) hyp = (assertion_at env T).conclusion
source env (by_conv e c p) hyp = hyp
source env (by_let p q) hyp = hyp
source env (by_gap e) hyp = hyp
