-- Visible lets, and comparisons that are kept.
use Rattle.std.proofs.Common.{ℕ, zero, suc, ◌≡◌, ◌<◌, ◌+◌, List, [], ◌∷◌, ◌++◌, length, Option, slice_get, Some, None, option_to_list, true≢false, refl, sym, ap, ◌∙◌, subst, arith, ⊎_elim}
use Rattle.std.specs.Prelude.{IfSome, IsSome}
use Rattle.std.proofs.lemmas.Option.{same_Some}
use Rattle.mz_base.proofs.Offered.{slice_get-append, slice_get-last, slice_get-push_cases}
use Rattle.mz_logic_theory.specs.Declaration.{Declaration}
use Rattle.mz_logic_theory.specs.Tree.{Tree, Trees, none, more, listed, operand, instance, instances}
use Rattle.mz_logic_theory.proofs.Offered.{instance-instance}
use Rattle.mz_mmu_theory.specs.Proof.{Proof, by_hyp, by_name, by_citation, by_conv, by_let, by_gap}
use Rattle.mz_mmu_theory.specs.Sides.{proved, with_fact}
use Rattle.mz_type_rules.specs.Claims.{claim_tree}
use Rattle.mz_type_rules.specs.Compared.{let_trees, wanted, IsPattern, IsKept, AreKept, AreNamed, IsNamed, Names, put_into, source}
use Rattle.mz_type_rules.specs.Scopes.{Scope}
use Rattle.mz_type_rules.specs.declared.claim.Claim.{Claim}
use Rattle.mz_type_rules.specs.declared.lets.Key.{Key}
use Rattle.mz_type_rules.specs.declared.lets.Kept.{Kept}
use Rattle.mz_type_rules.specs.declared.lets.Name.{Name}
use Rattle.mz_type_rules.specs.declared.lets.Name.TheVariants as names
use Rattle.mz_type_rules.specs.declared.lets.Named.{Named}

-- ---- scopes

abbrev scope : List Declaration → Trees → Trees → Scope
scope env hyps lets = record { env = env; hyps = hyps; lets = lets }

pub scope_is : (s : Scope) (env : List Declaration) (hyps lets : Trees) → env ≡ s.env → hyps ≡ s.hyps → lets ≡ s.lets → scope env hyps lets ≡ s
scope_is s env hyps lets p q r = ap (λ e. scope e hyps lets) p ∙ ap (λ h. scope s.env h lets) q ∙ ap (λ l. scope s.env s.hyps l) r

-- ---- visible lets

pub let_read : (ls : List Named) (i : ℕ) (l : Named) → slice_get ls i ≡ Some l → operand (let_trees ls) i ≡ claim_tree l.claim
let_read [] i l is = absurd (let e : None ≡ Some l = is in cc)
let_read (m ∷ ls) zero l is = ap (λ n. claim_tree n.claim) (same_Some m l is)
let_read (m ∷ ls) (suc i) l is = let_read ls i l is

-- the visible let that a name stands for proves what it proves
pub named_at : (ls : List Named) (i : ℕ) (o : Option Named) → o ≡ slice_get ls i → (c : Claim) (p : Proof) → p ≡ by_name i
    → IfSome o (λ n. (env : List Declaration) (hyps : Trees) (named : List Claim) → AreNamed hyps named ls → claim_tree c ≡ proved env hyps (let_trees ls) p
    → IsNamed hyps named n.claim n.name × (claim_tree n.claim ≡ claim_tree c))
named_at ls i None is c p by = tt
named_at ls i (Some n) is c p by = λ env hyps named are proves.
    (are i n (sym is), sym (let_read ls i n (sym is)) ∙ ap (proved env hyps (let_trees ls)) (sym by) ∙ sym proves)

pub length-lets : (ls : List Named) → length (listed (let_trees ls)) ≡ length ls
length-lets [] = refl
length-lets (l ∷ ls) = ap suc (length-lets ls)

pub lets_append : (ls : List Named) (l : Named) → let_trees (ls ++ l ∷ []) ≡ with_fact (let_trees ls) (claim_tree l.claim)
lets_append [] l = refl
lets_append (m ∷ ls) l = ap (more (claim_tree m.claim)) (lets_append ls l)

-- all but the last
abbrev before_last : Trees → Trees
before_last none = none
before_last (more e none) = none
before_last (more e (more f es)) = more e (before_last (more f es))

before_fact : (es : Trees) (x : Tree) → before_last (with_fact es x) ≡ es
before_fact none x = refl
before_fact (more e none) x = refl
before_fact (more e (more f es)) x = ap (more e) (before_fact (more f es) x)

pub fact_many : (es : Trees) (x : Tree) → length (listed (with_fact es x)) ≡ length (listed es) + 1
fact_many none x = refl
fact_many (more e es) x = let many = fact_many es x in omega (arith, many)

pub closed : (old new : List Named) (o : Option Named) → old ≡ new ++ option_to_list o → (0 < length old → IsSome o) → (es : Trees) (x : Tree) → let_trees old ≡ with_fact es x → let_trees new ≡ es
closed old new (Some l) is some es x are =
    sym (before_fact (let_trees new) (claim_tree l.claim)) ∙ ap before_last (sym (ap let_trees is ∙ lets_append new l) ∙ are) ∙ before_fact es x
closed old new None is some es x are =
    let many = sym (length-lets old) ∙ ap (λ ts. length (listed ts)) are ∙ fact_many es x in
    absurd (true≢false (sym (some (omega (arith, many)))))

-- ---- what was named

-- one more is visible
pub named_one : (hyps : Trees) (named : List Claim) (ls after : List Named) (l : Named) → after ≡ ls ++ l ∷ [] → AreNamed hyps named ls → IsNamed hyps named l.claim l.name → AreNamed hyps named after
named_one hyps named ls after l grown are h i m there =
    ⊎_elim (are i m) (λ last. subst (λ n. IsNamed hyps named n.claim n.name) last.1 h) (slice_get-push_cases ls l i m (subst (λ ns. slice_get ns i ≡ Some m) grown there))

module _ (named new : List Claim) (c : Claim) (is : new ≡ named ++ c ∷ []) where
  kept_get : (k : ℕ) (d : Claim) → slice_get named k ≡ Some d → slice_get new k ≡ Some d
  kept_get k d there = subst (λ cs. slice_get cs k ≡ Some d) (sym is) (slice_get-append named (c ∷ []) k d there)

  is-named_more : (hyps : Trees) (d : Claim) (name : Name) → IsNamed hyps named d name → IsNamed hyps new d name
  is-named_more hyps d (names.Hyp i) h = h
  is-named_more hyps d (names.Let k) h = kept_get k d h
  is-named_more hyps d (names.Cited T) h = h

  pub named_more : (hyps : Trees) (ls : List Named) → AreNamed hyps named ls → AreNamed hyps new ls
  named_more hyps ls are i l there = is-named_more hyps l.claim l.name (are i l there)

  pub named_new : (hyps : Trees) (ls after : List Named) (k : ℕ) → k ≡ length named → after ≡ ls ++ record { claim = c; name = names.Let k } ∷ [] → AreNamed hyps named ls → AreNamed hyps new after
  named_new hyps ls after k number grown are =
      named_one hyps new ls after (record { claim = c; name = names.Let k }) grown (named_more hyps ls are)
      (subst (λ n. slice_get new n ≡ Some c) (sym number) (subst (λ cs. slice_get cs (length named) ≡ Some c) (sym is) (slice_get-last named c)))

  pattern_more : (env : List Declaration) (hyps : Trees) (name : Name) (at : Trees) (p : Tree) → IsPattern env hyps named name at p → IsPattern env hyps new name at p
  pattern_more env hyps (names.Hyp i) at p h = h
  pattern_more env hyps (names.Let k) at p h = (h.0, kept_get k h.0 h.1, h.2)
  pattern_more env hyps (names.Cited T) at p h = h

  pub kept_more : (env : List Declaration) (hyps : Trees) (ks : List Kept) → AreKept env hyps named ks → AreKept env hyps new ks
  kept_more env hyps ks are i k there = let h = are i k there in record {
    own = h.own;
    pattern = pattern_more env hyps k.key.name k.at.now (instance k.vars (wanted env k.key)) h.pattern;
  }

-- ---- what is kept

module _ (env : List Declaration) (hyps : Trees) (named : List Claim) (ls : List Named) (are : AreNamed hyps named ls) where
  -- what has the name is the pattern with the operands put in, if what has it is so
  named_pattern : (c : Claim) (name : Name) → IsNamed hyps named c name → (at : Trees) (pattern : Tree) → IsPattern env hyps named name at pattern → claim_tree c ≡ instance at pattern
  named_pattern c (names.Hyp i) n at pattern h = n ∙ h
  named_pattern c (names.Let k) n at pattern h = ap claim_tree (same_Some c h.0 (sym n ∙ h.1)) ∙ h.2
  named_pattern c (names.Cited T) n at pattern h = absurd n

  pattern_named : (c : Claim) (name : Name) → IsNamed hyps named c name → (at : Trees) (pattern : Tree) → claim_tree c ≡ instance at pattern → IsPattern env hyps named name at pattern
  pattern_named c (names.Hyp i) n at pattern h = sym n ∙ h
  pattern_named c (names.Let k) n at pattern h = (c, n, h)
  pattern_named c (names.Cited T) n at pattern h = absurd n

  -- what a subproof proves, where what has its name is known
  of_pattern : (p : Proof) (name : Name) → Names ls p name → (at : Trees) (pattern : Tree) → IsPattern env hyps named name at pattern
      → proved env hyps (let_trees ls) p ≡ instance (put_into p at) pattern
  of_pattern (by_hyp i) name is at pattern h = subst (λ n. IsPattern env hyps named n at pattern) is h
  of_pattern (by_name i) name is at pattern h =
      let_read ls i is.0 is.1 ∙ named_pattern is.0.claim is.0.name (are i is.0 is.1) at pattern (subst (λ n. IsPattern env hyps named n at pattern) is.2 h)
  of_pattern (by_citation T es ps) name is at pattern h = ap (instance es) (subst (λ n. IsPattern env hyps named n at pattern) is h)
  of_pattern (by_conv e c p) name is at pattern h = absurd is
  of_pattern (by_let p q) name is at pattern h = absurd is
  of_pattern (by_gap e) name is at pattern h = absurd is

  module _ (p : Proof) (key : Key) (is : Names ls p key.name) (kept : Kept) (same : kept.key ≡ key) where
    pub known : IsKept env hyps named kept → (es at : Trees) → at ≡ put_into p kept.at.now → instances es kept.own ≡ instances at kept.vars
        → proved env hyps (let_trees ls) p ≡ instance es (wanted env key)
    known h es at put alike =
        let w = wanted env kept.key in
        of_pattern p kept.key.name (subst (λ k. Names ls p k.name) (sym same) is) kept.at.now (instance kept.vars w) h.pattern
        ∙ ap (λ fs. instance fs (instance kept.vars w)) (sym put)
        ∙ instance-instance at kept.vars w ∙ ap (λ fs. instance fs w) (sym alike) ∙ sym (instance-instance es kept.own w) ∙ ap (instance es) (sym h.own)
        ∙ ap (λ k. instance es (wanted env k)) same

    pub right_kept : (hyp : Tree) (es : Trees) → hyp ≡ wanted env key → kept.at.now ≡ es → proved env hyps (let_trees ls) p ≡ instance es hyp
        → hyp ≡ instance kept.own hyp → source env p hyp ≡ instance kept.vars hyp → IsKept env hyps named kept
    right_kept hyp es hyp-is at-is proves own from =
        let wanted-is : hyp ≡ wanted env kept.key = hyp-is ∙ ap (wanted env) (sym same) in record {
          own = subst (λ w. w ≡ instance kept.own w) wanted-is own;
          pattern = subst (λ w. IsPattern env hyps named kept.key.name kept.at.now (instance kept.vars w)) wanted-is
              (subst (λ fs. IsPattern env hyps named kept.key.name fs (instance kept.vars hyp)) (sym at-is)
              (subst (λ k. IsPattern env hyps named k.name es (instance kept.vars hyp)) (sym same) (go p is proves from)));
        }
      where
        go : (q : Proof) → Names ls q key.name → proved env hyps (let_trees ls) q ≡ instance es hyp → source env q hyp ≡ instance kept.vars hyp
            → IsPattern env hyps named key.name es (instance kept.vars hyp)
        go (by_hyp i) n proves from = subst (λ m. IsPattern env hyps named m es (instance kept.vars hyp)) (sym n) (proves ∙ ap (instance es) from)
        go (by_name i) n proves from =
            subst (λ m. IsPattern env hyps named m es (instance kept.vars hyp)) (sym n.2)
            (pattern_named n.0.claim n.0.name (are i n.0 n.1) es (instance kept.vars hyp) (sym (let_read ls i n.0 n.1) ∙ proves ∙ ap (instance es) from))
        go (by_citation T fs ps) n proves from = subst (λ m. IsPattern env hyps named m es (instance kept.vars hyp)) (sym n) from
        go (by_conv e c q) n proves from = absurd n
        go (by_let q r) n proves from = absurd n
        go (by_gap e) n proves from = absurd n

-- one more is kept
pub kept_one : (env : List Declaration) (hyps : Trees) (named : List Claim) (ks new : List Kept) (k : Kept) → new ≡ ks ++ k ∷ [] → AreKept env hyps named ks → IsKept env hyps named k → AreKept env hyps named new
kept_one env hyps named ks new k is are h i m there =
    ⊎_elim (are i m) (λ last. subst (IsKept env hyps named) last.1 h) (slice_get-push_cases ks k i m (subst (λ ns. slice_get ns i ≡ Some m) is there))
