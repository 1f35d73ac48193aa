-- The names of what was declared before have their numbers, and so with one declaration more.
use Rattle.std.proofs.Common.{ℕ, suc, ◌≡◌, ◌<◌, ◌∙◌, false, List, [], ◌∷◌, ◌++◌, length, Some, refl, sym, ap, subst, arith, length-append, append-nil}
use Rattle.std.proofs.lemmas.List.{get_or_append_left, get_or_push}
use Rattle.mz_base.proofs.Offered.{length-push, number-last, number-more}
use Rattle.mz_logic_theory.specs.Signature.{Signature}
use Rattle.mz_logic_theory.specs.Declaration.{Declaration, sort_decl, term_decl, assertion_decl, sorts, signatures, assertions}
use Rattle.mz_logic_theory.specs.Legality.{signature_at}
use Rattle.mz_logic_theory.specs.declared.binder.Binder.{Binder}
use Rattle.mz_logic_theory.proofs.Offered.{sorts-append, assertions-append, signatures-append}
use Rattle.mz_base.specs.Names.{number_of, IsNew}
use Rattle.mz_mmu_theory.specs.Name.{Names, IsName, no_names, constant_name, names_with}
use Rattle.mz_mmu_theory.proofs.Offered.{Agrees}
use Rattle.mz_decompile_text.specs.Phrasing.{Vocabulary}
use Rattle.mz_decompile_text.specs.Phrasable.{HasNewName}
use Rattle.mz_decompile_text.proofs.Numbers.{Numbered, numbered-none, numbered-more, last-or-before}

-- of so many sorts, these terms, and so many axioms and theorems
pub record Behind (v : Vocabulary) (n : ℕ) (many_sorts : ℕ) (sigs : List Signature) (many_facts : ℕ) (names : Names) : Type 0 where
  pub sorts_ : Numbered v.sort many_sorts names.sorts
  pub terms : Numbered v.term (length sigs) names.terms
  pub assertions_ : Numbered v.assertion many_facts names.assertions
  pub apart : (t x : ℕ) → t < length sigs → x < n → v.variable x ≡ v.term t → ⊥
  pub many : length names.constants ≡ length sigs
  pub constants : (t : ℕ) → t < length sigs → 0 ≡ length (signature_at sigs t).params → number_of names.constants (v.term t) ≡ Some t

pub behind-none : (v : Vocabulary) (n : ℕ) → Behind v n 0 [] 0 (no_names false)
behind-none v n = record {
  sorts_ = numbered-none v.sort;
  terms = numbered-none v.term;
  assertions_ = numbered-none v.assertion;
  apart = λ t x less. absurd (omega arith);
  many = refl;
  constants = λ t less. absurd (omega arith);
}

module _ (v : Vocabulary) (n : ℕ) (ss : ℕ) (sigs : List Signature) (fs : ℕ) (names : Names) (behind : Behind v n ss sigs fs names) where
  one-sort-more : IsName (v.sort ss) → IsNew names.sorts (v.sort ss) → Behind v n (suc ss) sigs fs (record names { sorts = names.sorts ++ v.sort ss ∷ [] })
  one-sort-more name new = record {
    sorts_ = numbered-more v.sort ss names.sorts behind.sorts_ name new;
    terms = behind.terms;
    assertions_ = behind.assertions_;
    apart = behind.apart;
    many = behind.many;
    constants = behind.constants;
  }

  one-fact-more : IsName (v.assertion fs) → IsNew names.assertions (v.assertion fs) → Behind v n ss sigs (suc fs) (record names { assertions = names.assertions ++ v.assertion fs ∷ [] })
  one-fact-more name new = record {
    sorts_ = behind.sorts_;
    terms = behind.terms;
    assertions_ = numbered-more v.assertion fs names.assertions behind.assertions_ name new;
    apart = behind.apart;
    many = behind.many;
    constants = behind.constants;
  }

  -- ---- a term more

  module _ (sig : Signature) (name : IsName (v.term (length sigs))) (new : IsNew names.terms (v.term (length sigs))) (new_constant : IsNew names.constants (v.term (length sigs)))
      (other : (x : ℕ) → x < n → v.variable x ≡ v.term (length sigs) → ⊥) where
    abbrev longer : List Signature
    longer = sigs ++ sig ∷ []

    abbrev constants_more : List (List ℕ)
    constants_more = names.constants ++ constant_name sig.params (v.term (length sigs)) ∷ []

    one-longer : length longer ≡ suc (length sigs)
    one-longer = let e = length-append sigs (sig ∷ []) in omega arith

    abbrev IsConstantAt : ℕ → Type 0
    IsConstantAt t = 0 ≡ length (signature_at longer t).params → number_of constants_more (v.term t) ≡ Some t

    constant-before : (t : ℕ) → t < length sigs → IsConstantAt t
    constant-before t less few =
        number-more names.constants (constant_name sig.params (v.term (length sigs))) (v.term t) t
        (behind.constants t less (few ∙ ap (λ d. length d.params) (get_or_append_left sigs (sig ∷ []) _ t less)))

    constant-last : IsConstantAt (length sigs)
    constant-last few = go sig.params (few ∙ ap (λ d. length d.params) (get_or_push sigs sig _ (length sigs) refl))
      where
        go : (ps : List Binder) → 0 ≡ length ps → number_of (names.constants ++ constant_name ps (v.term (length sigs)) ∷ []) (v.term (length sigs)) ≡ Some (length sigs)
        go [] none_ = number-last names.constants (v.term (length sigs)) new_constant ∙ ap (λ k. Some k) behind.many
        go (p ∷ ps) none_ = absurd (omega arith)

    one-term-more : Behind v n ss longer fs (record names { terms = names.terms ++ v.term (length sigs) ∷ []; constants = constants_more })
    one-term-more = record {
      sorts_ = behind.sorts_;
      terms = subst (λ k. Numbered v.term k (names.terms ++ v.term (length sigs) ∷ [])) (sym one-longer) (numbered-more v.term (length sigs) names.terms behind.terms name new);
      assertions_ = behind.assertions_;
      apart = λ t x less. last-or-before (λ t. x < n → v.variable x ≡ v.term t → ⊥) (length sigs) (λ t. behind.apart t x) (other x) t (omega (arith, less, one-longer));
      many = let e = length-append names.constants (constant_name sig.params (v.term (length sigs)) ∷ []) in let m = behind.many in omega (arith, one-longer);
      constants = λ t less. last-or-before IsConstantAt (length sigs) constant-before constant-last t (omega (arith, less, one-longer));
    }

-- ---- a declaration more

abbrev pub Declares : Vocabulary → ℕ → List Declaration → Names → Type 0
Declares v n env names = Behind v n (length (sorts env)) (signatures env) (length (assertions env)) names

module _ (v : Vocabulary) (n : ℕ) (env : List Declaration) (names : Names) (behind : Declares v n env names) (agrees : Agrees names) where
  -- what the environment has with it
  over : (d : Declaration) (after : Names) (ss : ℕ) (sigs : List Signature) (fs : ℕ) → length (sorts (env ++ d ∷ [])) ≡ ss → signatures (env ++ d ∷ []) ≡ sigs
      → length (assertions (env ++ d ∷ [])) ≡ fs → Behind v n ss sigs fs after → Declares v n (env ++ d ∷ []) after
  over d after ss sigs fs s_is t_is f_is b =
      subst (λ k. Behind v n k (signatures (env ++ d ∷ [])) (length (assertions (env ++ d ∷ []))) after) (sym s_is)
      (subst (λ xs. Behind v n ss xs (length (assertions (env ++ d ∷ []))) after) (sym t_is) (subst (λ k. Behind v n ss sigs k after) (sym f_is) b))

  same-sorts : (d : Declaration) → sorts (d ∷ []) ≡ [] → length (sorts (env ++ d ∷ [])) ≡ length (sorts env)
  same-sorts d none_ = ap length (sorts-append env (d ∷ []) ∙ ap (λ xs. sorts env ++ xs) none_ ∙ append-nil (sorts env))

  same-signatures : (d : Declaration) → signatures (d ∷ []) ≡ [] → signatures (env ++ d ∷ []) ≡ signatures env
  same-signatures d none_ = signatures-append env (d ∷ []) ∙ ap (λ xs. signatures env ++ xs) none_ ∙ append-nil (signatures env)

  same-facts : (d : Declaration) → assertions (d ∷ []) ≡ [] → length (assertions (env ++ d ∷ [])) ≡ length (assertions env)
  same-facts d none_ = ap length (assertions-append env (d ∷ []) ∙ ap (λ xs. assertions env ++ xs) none_ ∙ append-nil (assertions env))

  pub behind-more : (w : List ℕ) (d : Declaration) → IsName w → HasNewName v n env names w d → Declares v n (env ++ d ∷ []) (names_with names w d)
  behind-more w (sort_decl m) name (is, new) =
      over (sort_decl m) (names_with names w (sort_decl m)) (suc (length (sorts env))) (signatures env) (length (assertions env))
      (ap length (sorts-append env (sort_decl m ∷ [])) ∙ length-push (sorts env) m) (same-signatures (sort_decl m) refl) (same-facts (sort_decl m) refl)
      (subst (λ u. Behind v n (suc (length (sorts env))) (signatures env) (length (assertions env)) (names_with names u (sort_decl m))) (sym is)
      (one-sort-more v n (length (sorts env)) (signatures env) (length (assertions env)) names behind (subst IsName is name) (subst (IsNew names.sorts) is new)))
  behind-more w (term_decl d) name (is, new, other) =
      over (term_decl d) (names_with names w (term_decl d)) (length (sorts env)) (signatures env ++ d.signature ∷ []) (length (assertions env))
      (same-sorts (term_decl d) refl) (signatures-append env (term_decl d ∷ [])) (same-facts (term_decl d) refl)
      (subst (λ u. Behind v n (length (sorts env)) (signatures env ++ d.signature ∷ []) (length (assertions env)) (names_with names u (term_decl d))) (sym is)
      (one-term-more v n (length (sorts env)) (signatures env) (length (assertions env)) names behind d.signature (subst IsName is name) (subst (IsNew names.terms) is new)
      (subst (IsNew names.constants) is (agrees w name new)) (λ x less same. other x less (same ∙ sym is))))
  behind-more w (assertion_decl a) name (is, new) =
      over (assertion_decl a) (names_with names w (assertion_decl a)) (length (sorts env)) (signatures env) (suc (length (assertions env)))
      (same-sorts (assertion_decl a) refl) (same-signatures (assertion_decl a) refl) (ap length (assertions-append env (assertion_decl a ∷ [])) ∙ length-push (assertions env) a)
      (subst (λ u. Behind v n (length (sorts env)) (signatures env) (suc (length (assertions env))) (names_with names u (assertion_decl a))) (sym is)
      (one-fact-more v n (length (sorts env)) (signatures env) (length (assertions env)) names behind (subst IsName is name) (subst (IsNew names.assertions) is new)))
