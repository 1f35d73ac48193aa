-- The rules of a proof hold exactly where it derives what it proves, and each of its lets derives something.
use Rattle.std.proofs.Common.{ℕ, zero, suc, ◌≡◌, ◌<◌, List, slice_get, length, Some, refl, sym, ap, ◌∙◌, subst, arith, not-suc-le-zero, le_of_suc-le-suc}
use Rattle.std.proofs.lemmas.Option.{slice_get-get_or, get_or_from_slice_get}
use Rattle.mz_base.specs.Checks.{AllHold}
use Rattle.mz_sexpr.specs.Node.{Node, Nodes, parts}
use Rattle.mz_sexpr.specs.Number.{first, rest}
use Rattle.mz_base.proofs.Offered.{all_hold-first, all_hold-rest, all_hold-both}
use Rattle.mz_logic_theory.specs.Tree.{Tree, Trees, none, more, listed, operand, instance, instances}
use Rattle.mz_logic_theory.specs.Declaration.{Declaration, assertions, signatures}
use Rattle.mz_logic_theory.specs.Conversions.{Between}
use Rattle.mz_logic_theory.specs.Sorts.{HasProvable}
use Rattle.mz_logic_theory.specs.Derivations.{Derivation, Derivations, hypothesis, cite, convert, gap, no_derivs, more_derivs, Derives, AllDerive, derivation_at}
use Rattle.mz_logic_theory.specs.declared.binder.Binder.{Binder}
use Rattle.mz_logic_theory.proofs.Offered.{one_at, many_of_fits, sorted_sides}
use Rattle.mz_mmu_theory.specs.Proof.{Proof, Proofs, by_hyp, by_name, by_citation, by_conv, by_let, by_gap, no_proofs, more_proofs}
use Rattle.mz_mmu_theory.specs.Parts.{part, after}
use Rattle.mz_mmu_theory.specs.Sides.{right, assertion_at, with_fact, proved, all_proved}
use Rattle.mz_mmu_theory.specs.Rules.{expr_rules, exprs_rules, operand_rules, conv_rules, proof_rules, proofs_rules, citation_rules, subproof_rules}
use Rattle.mz_mmu_theory.specs.Names.{ProofThere, ProofsThere}
use Rattle.mz_mmu_theory.proofs.ExprRules.{checks_by_fits, checks_by_sort, claim_from, claim_to, fits_by_checks, operands_by_fits, instances_many}
use Rattle.mz_mmu_theory.specs.Meaning.{then_deriv, derivation, derivations, LetsDerive, AllLetsDerive}
use Rattle.mz_mmu_theory.proofs.ConvRules.{between_by_checks, checks_by_between, sides_are}

listed_operand : (es : Trees) (i : ℕ) → i < length (listed es) → slice_get (listed es) i ≡ Some (operand es i)
listed_operand none i below = absurd (not-suc-le-zero below)
listed_operand (more e es) zero below = refl
listed_operand (more e es) (suc i) below = listed_operand es i (le_of_suc-le-suc below)

length_with : (es : Trees) (e : Tree) → length (listed (with_fact es e)) ≡ suc (length (listed es))
length_with none e = refl
length_with (more d es) e = ap suc (length_with es e)

module _ (env : List Declaration) (ctx : List Binder) (hyps : Trees) where
  -- the derivations of the visible lets derive what the lets prove
  abbrev pub LetsHold : Derivations → Trees → Type 0
  LetsHold ds lets = AllDerive env ctx hyps ds lets

  let_derives : (ds : Derivations) (lets : Trees) (i : ℕ) → LetsHold ds lets → i < length (listed lets) → Derives env ctx hyps (derivation_at ds i) (operand lets i)
  let_derives no_derivs none i h below = absurd (not-suc-le-zero below)
  let_derives (more_derivs d ds) (more e es) zero (here, h) below = here
  let_derives (more_derivs d ds) (more e es) (suc i) (here, h) below = let_derives ds es i h (le_of_suc-le-suc below)
  let_derives _ _ i h below = absurd h

  lets_more : (ds : Derivations) (lets : Trees) (d : Derivation) (e : Tree) → LetsHold ds lets → Derives env ctx hyps d e → LetsHold (then_deriv ds d) (with_fact lets e)
  lets_more no_derivs none d e h k = (k, tt)
  lets_more (more_derivs c ds) (more f fs) d e (here, h) k = (here, lets_more ds fs d e h k)
  lets_more _ _ d e h k = absurd h

  abbrev pub IsThere : Trees → Proof → Type 0
  IsThere lets p = ProofThere (length (signatures env)) (length ctx) (length (assertions env)) (length (listed hyps)) (length (listed lets)) p

  abbrev pub AreThere : Trees → Proofs → Type 0
  AreThere lets ps = ProofsThere (length (signatures env)) (length ctx) (length (assertions env)) (length (listed hyps)) (length (listed lets)) ps

  -- each derives what its proof proves
  abbrev pub EachDerives : Proofs → Derivations → Trees → Type 0
  EachDerives no_proofs ds lets = Unit {0}
  EachDerives (more_proofs p ps) ds lets = Derives env ctx hyps (derivation ds p) (proved env hyps lets p) × EachDerives ps ds lets

  hyps_by_checks : (ps : Proofs) (ds : Derivations) (lets : Trees) (ns : Nodes) (hs : Trees) → EachDerives ps ds lets → length (listed (all_proved env hyps lets ps)) ≡ length (listed hs)
      → AllHold (subproof_rules (all_proved env hyps lets ps) ns hs) → AllDerive env ctx hyps (derivations ds ps) hs
  hyps_by_checks no_proofs ds lets ns none h many all = tt
  hyps_by_checks (more_proofs p ps) ds lets ns (more e hs) (here, h) many (is, all) =
      (subst (Derives env ctx hyps (derivation ds p)) is here, hyps_by_checks ps ds lets (rest ns) hs h (omega arith) all)
  hyps_by_checks _ ds lets ns _ h many all = absurd (omega arith)

  mutual
    pub derives_by_checks : (p : Proof) (ds : Derivations) (lets : Trees) (n : Node) → LetsHold ds lets → IsThere lets p → AllHold (proof_rules env ctx hyps lets p n)
        → Derives env ctx hyps (derivation ds p) (proved env hyps lets p) × LetsDerive env ctx hyps ds p
    derives_by_checks (by_hyp i) ds lets n h there all = (listed_operand hyps i there, tt)
    derives_by_checks (by_name i) ds lets n h there all = (let_derives ds lets i h there, tt)
    derives_by_checks (by_citation T es ps) ds lets n h (there, inner, subs) all =
        let a = assertion_at env T in
        let A = exprs_rules (signatures env) ctx es (parts (part (parts n) 1)) in
        let B = proofs_rules env ctx hyps lets ps (after 2 (parts n)) in
        let C = operand_rules (signatures env) ctx es (parts (part (parts n) 1)) a.params in
        let own = all_hold-rest B _ (all_hold-rest A _ all) in
        let k = all_derive_by_checks ps ds lets (after 2 (parts n)) h subs (all_hold-first B _ (all_hold-rest A _ all)) in
        let last = all_hold-rest C _ own.1 in (
          (
            a,
            slice_get-get_or (assertions env) T _ there,
            refl,
            fits_by_checks (signatures env) ctx es (parts (part (parts n) 1)) (parts (part (parts n) 1)) a.params inner (all_hold-first A _ all) own.0.0 (all_hold-first C _ own.1),
            last.0,
            hyps_by_checks ps ds lets (after 2 (parts n)) (instances es a.hyps) k.0 (own.0.1 ∙ sym (instances_many es a.hyps)) last.1,
          ),
          k.1,
        )
    derives_by_checks (by_conv e c p) ds lets n h (there, conv_there, inner) all =
        let A = expr_rules (signatures env) ctx e (part (parts n) 1) in
        let B = conv_rules env ctx c (part (parts n) 2) in
        let C = proof_rules env ctx hyps lets p (part (parts n) 3) in
        let on = all_hold-rest A _ all in
        let on' = all_hold-rest B _ on in
        let own = all_hold-rest C _ on' in
        let k = derives_by_checks p ds lets (part (parts n) 3) h inner (all_hold-first C _ on') in (
          (
            refl,
            (
              right c,
              subst (λ l. Between env ctx c l (right c)) own.0.0 (between_by_checks env ctx c (part (parts n) 2) conv_there (all_hold-first B _ on)),
              subst (Derives env ctx hyps (derivation ds p)) (sym own.0.1) k.0,
            ),
          ),
          k.1,
        )
    derives_by_checks (by_let p q) ds lets n h (there, inner) all =
        let A = proof_rules env ctx hyps lets p (part (parts n) 2) in
        let e = proved env hyps lets p in
        let j = derives_by_checks p ds lets (part (parts n) 2) h there (all_hold-first A _ all) in
        let k = derives_by_checks q (then_deriv ds (derivation ds p)) (with_fact lets e) (part (parts n) 3) (lets_more ds lets (derivation ds p) e h j.0)
        (subst (λ m. ProofThere (length (signatures env)) (length ctx) (length (assertions env)) (length (listed hyps)) m q) (sym (length_with lets e)) inner)
        (all_hold-rest A _ all) in
        (k.0, (j.1, (e, j.0), k.1))
    derives_by_checks (by_gap e) ds lets n h there all = ((refl, claim_from env ctx e (part (parts n) 1) there all), tt)

    pub all_derive_by_checks : (ps : Proofs) (ds : Derivations) (lets : Trees) (ns : Nodes) → LetsHold ds lets → AreThere lets ps → AllHold (proofs_rules env ctx hyps lets ps ns)
        → EachDerives ps ds lets × AllLetsDerive env ctx hyps ds ps
    all_derive_by_checks no_proofs ds lets ns h there all = (tt, tt)
    all_derive_by_checks (more_proofs p ps) ds lets ns h (there, inner) all =
        let A = proof_rules env ctx hyps lets p (first ns) in
        let j = derives_by_checks p ds lets (first ns) h there (all_hold-first A _ all) in
        let k = all_derive_by_checks ps ds lets (rest ns) h inner (all_hold-rest A _ all) in
        ((j.0, k.0), (j.1, k.1))

  -- ---- the other way

  -- a derivation derives one expression
  pub one_derived : (d : Derivation) (e f : Tree) → Derives env ctx hyps d e → Derives env ctx hyps d f → e ≡ f
  one_derived (hypothesis i) e f h k = one_at h k
  one_derived (cite T es ds) e f (a, at, is, _, _, _) (b, at', is', _, _, _) = is ∙ ap (λ x. instance es x.conclusion) (one_at at at') ∙ sym is'
  one_derived (convert g c d) e f (is, _) (is', _) = is ∙ sym is'
  one_derived (gap g) e f (is, _) (is', _) = is ∙ sym is'

  mutual
    pub checks_by_derives : (p : Proof) (ds : Derivations) (lets : Trees) (n : Node) (e : Tree) → LetsHold ds lets → IsThere lets p
        → Derives env ctx hyps (derivation ds p) e → LetsDerive env ctx hyps ds p → AllHold (proof_rules env ctx hyps lets p n) × (proved env hyps lets p ≡ e)
    checks_by_derives (by_hyp i) ds lets n e h there d l = (tt, one_at (listed_operand hyps i there) d)
    checks_by_derives (by_name i) ds lets n e h there d l = (tt, one_derived (derivation_at ds i) _ e (let_derives ds lets i h there) d)
    checks_by_derives (by_citation T es ps) ds lets n e h (there, inner, subs) (a, at, is, fits, apart, all) l =
        let same : assertion_at env T ≡ a = get_or_from_slice_get (assertions env) T a _ at in
        let ns = parts (part (parts n) 1) in
        let A = exprs_rules (signatures env) ctx es ns in
        let B = proofs_rules env ctx hyps lets ps (after 2 (parts n)) in
        let k = all_checks_by_derives ps ds lets (after 2 (parts n)) (instances es a.hyps) h subs all l in (
          all_hold-both A _ (checks_by_fits (signatures env) ctx es ns a.params fits)
              (all_hold-both B _ k.0
              (subst (λ x. AllHold (citation_rules (signatures env) ctx x es (all_proved env hyps lets ps) n)) (sym same) (
                (many_of_fits (signatures env) ctx es a.params fits, k.2 ∙ instances_many es a.hyps),
                all_hold-both (operand_rules (signatures env) ctx es ns a.params) _ (operands_by_fits (signatures env) ctx es ns a.params fits) (apart, k.1),
              ))),
          ap (λ x. instance es x.conclusion) same ∙ sym is,
        )
    checks_by_derives (by_conv f c p) ds lets n e h (there, conv_there, inner) (is, (g, between, d)) l =
        let A = expr_rules (signatures env) ctx f (part (parts n) 1) in
        let B = conv_rules env ctx c (part (parts n) 2) in
        let C = proof_rules env ctx hyps lets p (part (parts n) 3) in
        let k = checks_by_derives p ds lets (part (parts n) 3) g h inner d l in
        let j = sides_are env ctx c f g between in
        let s = (sorted_sides env ctx c f g between).0 in (
          all_hold-both A _ (checks_by_sort (signatures env) ctx f (part (parts n) 1) s.0 s.1)
              (all_hold-both B _ (checks_by_between env ctx c (part (parts n) 2) f g between)
              (all_hold-both C _ k.0 ((sym j.0, sym j.1 ∙ sym k.1), tt))),
          sym is,
        )
    checks_by_derives (by_let p q) ds lets n e h (there, inner) d (l, (f, first_derives), m) =
        let A = proof_rules env ctx hyps lets p (part (parts n) 2) in
        let j = checks_by_derives p ds lets (part (parts n) 2) f h there first_derives l in
        let g = proved env hyps lets p in
        let k = checks_by_derives q (then_deriv ds (derivation ds p)) (with_fact lets g) (part (parts n) 3) e
        (lets_more ds lets (derivation ds p) g h (subst (Derives env ctx hyps (derivation ds p)) (sym j.1) first_derives))
        (subst (λ m. ProofThere (length (signatures env)) (length ctx) (length (assertions env)) (length (listed hyps)) m q) (sym (length_with lets g)) inner)
        d m in
        (all_hold-both A _ j.0 k.0, k.1)
    checks_by_derives (by_gap f) ds lets n e h there (is, provable) l = (claim_to env ctx f (part (parts n) 1) (subst (HasProvable env ctx) is provable), sym is)

    pub all_checks_by_derives : (ps : Proofs) (ds : Derivations) (lets : Trees) (ns : Nodes) (hs : Trees) → LetsHold ds lets → AreThere lets ps
        → AllDerive env ctx hyps (derivations ds ps) hs → AllLetsDerive env ctx hyps ds ps
        → AllHold (proofs_rules env ctx hyps lets ps ns) × AllHold (subproof_rules (all_proved env hyps lets ps) ns hs) × (length (listed (all_proved env hyps lets ps)) ≡ length (listed hs))
    all_checks_by_derives no_proofs ds lets ns none h there d l = (tt, tt, refl)
    all_checks_by_derives (more_proofs p ps) ds lets ns (more e hs) h (there, inner) (here, d) (l, m) =
        let j = checks_by_derives p ds lets (first ns) e h there here l in
        let k = all_checks_by_derives ps ds lets (rest ns) hs h inner d m in
        (all_hold-both (proof_rules env ctx hyps lets p (first ns)) _ j.0 k.0, (j.1, k.1), ap suc k.2)
    all_checks_by_derives _ ds lets ns _ h there d l = absurd d
