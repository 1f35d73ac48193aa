-- The statements so far, and their public part.
use Rattle.std.proofs.Common.{◌≡◌, ◌<◌, ◌∙◌, ◌++◌, ℕ, suc, List, [], ◌∷◌, length, Bool, true, false, ap, sym, refl, subst, subst₂, inl, inr, arith, length-append}
use Rattle.std.specs.Prelude.{slice_get}
use Rattle.std.proofs.lemmas.Bool.{false≢true, or_parts, cases_order}
use Rattle.mz_base.proofs.Offered.{slice_get-last}
use Rattle.mz_logic_theory.specs.Tree.{Tree, Trees, var, app, none, more}
use Rattle.mz_logic_theory.specs.Signature.{Signature}
use Rattle.mz_logic_theory.specs.Declaration.{Term, Assertion, Declaration, sort_decl, term_decl, assertion_decl, sorts, signatures}
use Rattle.mz_logic_theory.specs.Legality.{InRange, AllInRange}
use Rattle.mz_logic_theory.specs.declared.binder.SortMods.{SortMods}
use Rattle.mz_logic_theory.proofs.Offered.{extends_append, sorts-append, signatures-append, same-sorts, same-signatures}
use Rattle.mz_prefix.specs.PublicPart.{public_number, is_local_term, mentions_local, any_mentions_local}
use Rattle.mz_prefix.proofs.Numbers.{local-number, public-number}
use Rattle.mz_prefix.proofs.Renaming.{AllTerms, AllTermsIn, IsKept, Kept, AllKept}

-- these sorts and signatures are those of the others, where terms that are not local are numbered anew
pub record IsBeside (ls : List Bool) (ss ss' : List SortMods) (sigs sigs' : List Signature) : Type 0 where
  pub same : ss' ≡ ss
  pub next : public_number ls (length sigs) ≡ length sigs'
  pub kept : (t : ℕ) → t < length sigs → is_local_term ls t ≡ false → IsKept (public_number ls) sigs sigs' t

abbrev pub AreBeside : List Bool → List Declaration → List Declaration → Type 0
AreBeside ls env env' = IsBeside ls (sorts env) (sorts env') (signatures env) (signatures env')

pub none-beside : (ls : List Bool) → AreBeside ls [] []
none-beside ls = record { same = refl; next = refl; kept = λ t less public. absurd (omega arith) }

-- the same of equal lists
along : (ls : List Bool) (ss ss₂ ss' ss'₂ : List SortMods) (sigs sigs₂ sigs' sigs'₂ : List Signature)
    → ss₂ ≡ ss → ss'₂ ≡ ss' → sigs₂ ≡ sigs → sigs'₂ ≡ sigs' → IsBeside ls ss ss' sigs sigs' → IsBeside ls ss₂ ss'₂ sigs₂ sigs'₂
along ls ss ss₂ ss' ss'₂ sigs sigs₂ sigs' sigs'₂ a b c d beside =
    subst₂ (λ x y. IsBeside ls x y sigs₂ sigs'₂) (sym a) (sym b) (subst₂ (λ x y. IsBeside ls ss ss' x y) (sym c) (sym d) beside)

-- ---- one more statement

pub with-sort : (ls : List Bool) (env env' : List Declaration) (m : SortMods) → AreBeside ls env env' → AreBeside ls (env ++ sort_decl m ∷ []) (env' ++ sort_decl m ∷ [])
with-sort ls env env' m beside =
    along ls (sorts env ++ m ∷ []) _ (sorts env' ++ m ∷ []) _ (signatures env) _ (signatures env') _
    (sorts-append env (sort_decl m ∷ [])) (sorts-append env' (sort_decl m ∷ [])) (same-signatures env (sort_decl m) refl) (same-signatures env' (sort_decl m) refl)
    (record { same = ap (λ ss. ss ++ m ∷ []) beside.same; next = beside.next; kept = beside.kept })

pub with-assertion : (ls : List Bool) (env env' : List Declaration) (a b : Assertion) → AreBeside ls env env' → AreBeside ls (env ++ assertion_decl a ∷ []) (env' ++ assertion_decl b ∷ [])
with-assertion ls env env' a b beside =
    along ls (sorts env) _ (sorts env') _ (signatures env) _ (signatures env') _
    (same-sorts env (assertion_decl a) refl) (same-sorts env' (assertion_decl b) refl) (same-signatures env (assertion_decl a) refl) (same-signatures env' (assertion_decl b) refl) beside

pub with-local_assertion : (ls : List Bool) (env env' : List Declaration) (a : Assertion) → AreBeside ls env env' → AreBeside ls (env ++ assertion_decl a ∷ []) env'
with-local_assertion ls env env' a beside =
    along ls (sorts env) _ (sorts env') _ (signatures env) _ (signatures env') _
    (same-sorts env (assertion_decl a) refl) refl (same-signatures env (assertion_decl a) refl) refl beside

module _ (ls : List Bool) (ss ss' : List SortMods) (sigs sigs' : List Signature) (d : Signature) (beside : IsBeside ls ss ss' sigs sigs') (there : length sigs < length ls) where
  length-more : {A : Type 0} (xs : List A) (x : A) → length (xs ++ x ∷ []) ≡ suc (length xs)
  length-more xs x = omega (arith, length-append xs (x ∷ []))

  public-kept : is_local_term ls (length sigs) ≡ false → (t : ℕ) → t < length (sigs ++ d ∷ []) → is_local_term ls t ≡ false → IsKept (public_number ls) (sigs ++ d ∷ []) (sigs' ++ d ∷ []) t
  public-kept public t less is =
      elim (cases_order t (length sigs)) [
        | inl same ↦ (let P : ℕ → Type 0 = λ i. IsKept (public_number ls) (sigs ++ d ∷ []) (sigs' ++ d ∷ []) i in
            subst P (sym same) (d, slice_get-last sigs d, ap (slice_get (sigs' ++ d ∷ [])) beside.next ∙ slice_get-last sigs' d))
        | inr other ↦ elim other [
          | inl before ↦ (let (e, here, kept) = beside.kept t before is in (e, extends_append sigs (d ∷ []) t e here, extends_append sigs' (d ∷ []) (public_number ls t) e kept))
          | inr behind ↦ absurd (omega (arith, length-append sigs (d ∷ [])))
        ]
      ]

  one-public : is_local_term ls (length sigs) ≡ false → IsBeside ls ss ss' (sigs ++ d ∷ []) (sigs' ++ d ∷ [])
  one-public public = record {
    same = beside.same;
    next = ap (public_number ls) (length-more sigs d) ∙ public-number ls (length sigs) there public ∙ ap suc beside.next ∙ sym (length-more sigs' d);
    kept = public-kept public;
  }

  local-kept : is_local_term ls (length sigs) ≡ true → (t : ℕ) → t < length (sigs ++ d ∷ []) → is_local_term ls t ≡ false → IsKept (public_number ls) (sigs ++ d ∷ []) sigs' t
  local-kept local t less is =
      elim (cases_order t (length sigs)) [
        | inl same ↦ absurd (false≢true (sym is ∙ ap (is_local_term ls) same ∙ local))
        | inr other ↦ elim other [
          | inl before ↦ (let (e, here, kept) = beside.kept t before is in (e, extends_append sigs (d ∷ []) t e here, kept))
          | inr behind ↦ absurd (omega (arith, length-append sigs (d ∷ [])))
        ]
      ]

  one-local : is_local_term ls (length sigs) ≡ true → IsBeside ls ss ss' (sigs ++ d ∷ []) sigs'
  one-local local = record {
    same = beside.same;
    next = ap (public_number ls) (length-more sigs d) ∙ local-number ls (length sigs) there local ∙ beside.next;
    kept = local-kept local;
  }

pub with-term : (ls : List Bool) (env env' : List Declaration) (d e : Term) → d.signature ≡ e.signature → length (signatures env) < length ls → is_local_term ls (length (signatures env)) ≡ false
    → AreBeside ls env env' → AreBeside ls (env ++ term_decl d ∷ []) (env' ++ term_decl e ∷ [])
with-term ls env env' d e same there public beside =
    along ls (sorts env) _ (sorts env') _ (signatures env ++ d.signature ∷ []) _ (signatures env' ++ d.signature ∷ []) _
    (same-sorts env (term_decl d) refl) (same-sorts env' (term_decl e) refl) (signatures-append env (term_decl d ∷ []))
    (signatures-append env' (term_decl e ∷ []) ∙ ap (λ f. signatures env' ++ f ∷ []) (sym same))
    (one-public ls (sorts env) (sorts env') (signatures env) (signatures env') d.signature beside there public)

pub with-local_term : (ls : List Bool) (env env' : List Declaration) (d : Term) → length (signatures env) < length ls → is_local_term ls (length (signatures env)) ≡ true
    → AreBeside ls env env' → AreBeside ls (env ++ term_decl d ∷ []) env'
with-local_term ls env env' d there local beside =
    along ls (sorts env) _ (sorts env') _ (signatures env ++ d.signature ∷ []) _ (signatures env') _
    (same-sorts env (term_decl d) refl) refl (signatures-append env (term_decl d ∷ [])) refl
    (one-local ls (sorts env) (sorts env') (signatures env) (signatures env') d.signature beside there local)

-- ---- expressions that mention no local term

-- what holds of each public term that is declared holds of each term in them
module _ (ls : List Bool) (P : ℕ → Type 0) (sigs : List Signature) (of_public : (t : ℕ) → t < length sigs → is_local_term ls t ≡ false → P t) where
  mutual
    pub all-public : (n : ℕ) (e : Tree) → mentions_local ls e ≡ false → InRange sigs n e → AllTerms P e
    all-public n (var x) is range = tt
    all-public n (app t es) is range =
        let parts = or_parts (is_local_term ls t) (any_mentions_local ls es) is in
        (of_public t range.0 parts.0, all-public-in n es parts.1 range.2)

    pub all-public-in : (n : ℕ) (es : Trees) → any_mentions_local ls es ≡ false → AllInRange sigs n es → AllTermsIn P es
    all-public-in n none is range = tt
    all-public-in n (more e es) is range =
        let parts = or_parts (mentions_local ls e) (any_mentions_local ls es) is in
        (all-public n e parts.0 range.0, all-public-in n es parts.1 range.1)

pub none-mentioned : (ls : List Bool) (env env' : List Declaration) → AreBeside ls env env' → (n : ℕ) (e : Tree) → mentions_local ls e ≡ false → InRange (signatures env) n e
    → Kept (public_number ls) (signatures env) (signatures env') e
none-mentioned ls env env' beside = all-public ls (IsKept (public_number ls) (signatures env) (signatures env')) (signatures env) beside.kept

pub none-mentioned-in : (ls : List Bool) (env env' : List Declaration) → AreBeside ls env env' → (n : ℕ) (es : Trees) → any_mentions_local ls es ≡ false → AllInRange (signatures env) n es
    → AllKept (public_number ls) (signatures env) (signatures env') es
none-mentioned-in ls env env' beside = all-public-in ls (IsKept (public_number ls) (signatures env) (signatures env')) (signatures env) beside.kept
