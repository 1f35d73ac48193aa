-- Claims put behind one another, and what is checked meanwhile.
use Rattle.std.proofs.Common.{ℕ, ◌≡◌, ◌≤◌, ◌+◌, List, [], ◌∷◌, length, drop, take, Result, Ok, Err, refl, sym, ap, ◌∙◌, subst, arith}
use Rattle.std.specs.Result.{OnOk}
use Rattle.std.proofs.lemmas.List.{drop_all}
use Rattle.mz_base.specs.Checks.{Checks, nothing, ask, ◌>>◌, AllHold}
use Rattle.mz_sexpr.specs.Node.{Node, parts}
use Rattle.mz_logic_theory.specs.Tree.{Tree, Trees, app, none, more, listed, operand, followed_by}
use Rattle.mz_logic_theory.specs.Conversions.{Conversion}
use Rattle.mz_logic_theory.specs.Declaration.{Declaration, signatures}
use Rattle.mz_logic_theory.specs.declared.binder.Binder.{Binder}
use Rattle.mz_mmu_theory.specs.Proof.{Proof, Proofs, by_citation, by_conv}
use Rattle.mz_mmu_theory.specs.ProofView.{proofs_view}
use Rattle.mz_mmu_theory.specs.Stops.{Stops}
use Rattle.mz_mmu_theory.specs.declared.proof.Proof.{Proof as Coded}
use Rattle.mz_mmu_theory.specs.declared.fault.Fault.{Fault}
use Rattle.mz_mmu_theory.specs.declared.fault.Stop.{Stop}
use Rattle.mz_mmu_theory.specs.declared.fault.Stop.TheVariants.{Refused, Mem}
use Rattle.mz_type_rules.specs.Answers.{Judged}
use Rattle.mz_type_rules.specs.Claims.{claim_tree, claim_trees}
use Rattle.mz_mmu_theory.specs.Parts.{part, after}
use Rattle.mz_mmu_theory.specs.Rules.{expr_rules, exprs_rules, conv_rules, citation_rules, proof_rules, proofs_rules}
use Rattle.mz_mmu_theory.specs.Sides.{assertion_at, all_proved, with_fact}
use Rattle.mz_type_rules.specs.Scopes.{Scope, with_let}
use Rattle.mz_type_rules.specs.declared.claim.Claim.{Claim}
use Rattle.mz_type_rules.proofs.Building.{Builds, built_whole}
use Rattle.mz_type_rules.proofs.Claims.{length-claims, operand_behind}
use Rattle.mz_type_rules.proofs.Judging.{stopped_before, judged_after}

-- ---- claims behind others

followed_many : (es fs : Trees) → length (listed (followed_by es fs)) ≡ length (listed es) + length (listed fs)
followed_many none fs = omega arith
followed_many (more e es) fs = let many = followed_many es fs in omega (arith, many)

abbrev front_tree : Trees → Tree
front_tree none = app 0 none
front_tree (more e es) = e

abbrev behind_front : Trees → Trees
behind_front none = none
behind_front (more e es) = es

pub front_same : (xs ys : List Claim) (es : Trees) → claim_trees ys ≡ followed_by (claim_trees xs) es → claim_trees (take (length xs) ys) ≡ claim_trees xs
front_same [] ys es are = refl
front_same (x ∷ xs) [] es are = absurd cc
front_same (x ∷ xs) (y ∷ ys) es are =
    ap (λ e. more e (claim_trees (take (length xs) ys))) (ap front_tree are) ∙ ap (more (claim_tree x)) (front_same xs ys es (ap behind_front are))

pub behind_same : (xs ys : List Claim) (es : Trees) → claim_trees ys ≡ followed_by (claim_trees xs) es → claim_trees (drop (length xs) ys) ≡ es
behind_same [] ys es are = are
behind_same (x ∷ xs) [] es are = absurd cc
behind_same (x ∷ xs) (y ∷ ys) es are = behind_same xs ys es (ap behind_front are)

pub many_behind : (xs ys : List Claim) (es : Trees) → claim_trees ys ≡ followed_by (claim_trees xs) es → length ys ≡ length xs + length (listed es)
many_behind xs ys es are = sym (length-claims ys) ∙ ap (λ ts. length (listed ts)) are ∙ followed_many (claim_trees xs) es ∙ ap (λ n. n + length (listed es)) (length-claims xs)

-- the last of them
pub last_same : (xs ys : List Claim) (e : Tree) → claim_trees ys ≡ followed_by (claim_trees xs) (more e none) → operand (claim_trees ys) (length xs) ≡ e
last_same xs ys e are =
    ap (λ ts. operand ts (length xs)) are
    ∙ operand_behind (claim_trees xs) (more e none) (length xs) 0 (let many = length-claims xs in omega (arith, many))

-- ---- where all subproofs of a list have put their claims behind the others

module _ (env : List Declaration) (hyps lets : Trees) (ps : Proofs) (items : List Coded) (i k : ℕ) (old new : List Claim) (end : length items ≤ i) (from : k ≡ length old)
    (builds : Builds (claim_trees new) (all_proved env hyps lets (proofs_view (drop i items))) (followed_by (claim_trees old) (all_proved env hyps lets ps))) where
  all_behind : claim_trees new ≡ followed_by (claim_trees old) (all_proved env hyps lets ps)
  all_behind =
      built_whole (claim_trees new) (all_proved env hyps lets (proofs_view (drop i items))) (followed_by (claim_trees old) (all_proved env hyps lets ps))
      (ap (λ qs. all_proved env hyps lets (proofs_view qs)) (drop_all i items end)) builds

  pub others_within : k ≤ length new
  others_within = let many = many_behind old new (all_proved env hyps lets ps) all_behind in omega (arith, many, from)

  pub others_before : claim_trees (take k new) ≡ claim_trees old
  others_before = ap (λ j. claim_trees (take j new)) from ∙ front_same old new (all_proved env hyps lets ps) all_behind

  pub own_behind : claim_trees (drop k new) ≡ all_proved env hyps lets ps
  own_behind = ap (λ j. claim_trees (drop j new)) from ∙ behind_same old new (all_proved env hyps lets ps) all_behind

-- ---- where a let is named

pub let_named : (before checked named : Scope) (old new : List Claim) (k : ℕ) (x : Tree) → named ≡ with_let checked (operand (claim_trees new) k) → checked ≡ before
    → k ≡ length old → claim_trees new ≡ followed_by (claim_trees old) (more x none) → named.lets ≡ with_fact before.lets x
let_named before checked named old new k x opened same from are =
    ap (λ z. z.lets) opened ∙ ap (λ z. with_fact z.lets (operand (claim_trees new) k)) same
    ∙ ap (with_fact before.lets) (ap (operand (claim_trees new)) from ∙ last_same old new x are)

-- ---- answers

-- what asks nothing can only run out of memory
pub stopped_still : (cs : Checks Fault) (s : Stop) → Stops s nothing → Stops s cs
stopped_still cs (Refused f) h = absurd h
stopped_still cs Mem h = tt

-- where all hold, and what is left asks nothing
pub judged_still : {A : Type 0} (cs : Checks Fault) (r : Result A Stop) → AllHold cs → Judged r nothing → Judged r cs
judged_still cs (Ok x) all j = all
judged_still cs (Err s) all j = stopped_still cs s j

pub on_ok : {A B P : Type 0} (r : Result A B) → P → OnOk r P
on_ok (Ok x) p = p
on_ok (Err y) p = tt

one_after_other : (xs ys zs : Checks Fault) → ((xs >> ys) >> zs) ≡ (xs >> (ys >> zs))
one_after_other nothing ys zs = refl
one_after_other (ask f P xs) ys zs = ap (ask f P) (one_after_other xs ys zs)

-- ---- what is left of a proof's rules

module _ (env : List Declaration) (ctx : List Binder) (hyps lets : Trees) (n : Node) where
  pub citation_judged : (T : ℕ) (es : Trees) (ps : Proofs) (r : Result (Unit {0}) Stop) (claims : Trees)
      → AllHold (exprs_rules (signatures env) ctx es (parts (part (parts n) 1))) → AllHold (proofs_rules env ctx hyps lets ps (after 2 (parts n)))
      → claims ≡ all_proved env hyps lets ps → Judged r (citation_rules (signatures env) ctx (assertion_at env T) es claims n)
      → Judged r (proof_rules env ctx hyps lets (by_citation T es ps) n)
  citation_judged T es ps r claims h k all j =
      judged_after (exprs_rules (signatures env) ctx es (parts (part (parts n) 1))) _ r h
      (judged_after (proofs_rules env ctx hyps lets ps (after 2 (parts n))) _ r k
      (subst (λ cs. Judged r (citation_rules (signatures env) ctx (assertion_at env T) es cs n)) all j))

  pub converted_stop : (e : Tree) (c : Conversion) (p : Proof) (s : Stop)
      → Stops s (expr_rules (signatures env) ctx e (part (parts n) 1) >> conv_rules env ctx c (part (parts n) 2))
      → Stops s (proof_rules env ctx hyps lets (by_conv e c p) n)
  converted_stop e c p s h =
      subst (Stops s) (one_after_other (expr_rules (signatures env) ctx e (part (parts n) 1)) (conv_rules env ctx c (part (parts n) 2)) _)
      (stopped_before (expr_rules (signatures env) ctx e (part (parts n) 1) >> conv_rules env ctx c (part (parts n) 2)) _ s h)
