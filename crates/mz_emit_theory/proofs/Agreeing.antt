-- Declarations agree with lists that are the same.
use Rattle.std.proofs.Common.{◌≡◌, ℕ, ◌+◌, Bool, true, false, List, [], ◌∷◌, ◌++◌, length, refl, ap, sym, ◌∙◌, subst, if◌then◌else◌}
use Rattle.mz_base.specs.Checks.{AllHold}
use Rattle.mz_logic_theory.specs.Declaration.{Form, plain_form, abstract_form, defined, Declaration, sort_decl, term_decl, assertion_decl, terms}
use Rattle.mz_logic_theory.specs.LegalLists.{Statement}
use Rattle.mz_logic_theory.specs.Signature.{Signature}
use Rattle.mz_logic_theory.specs.declared.binder.Binder.{Binder}
use Rattle.mz_emit_theory.specs.AlphaEquivalence.{IsSameForm}
use Rattle.mz_emit_theory.specs.AlphaLists.{IsSameDeclaration, IsSameStatement, IsSameList}
use Rattle.mz_spec_proved_theory.specs.Match.{term_row_of, term_rows, partner_of, publics_after, kind_of_form, form_checks, match_checks, Agrees}
use Rattle.mz_emit_theory.specs.SpelledLists.{list_spelled}
use Rattle.mz_emit_theory.proofs.SpelledLists.{spelled-same}
use Rattle.mz_emit_theory.specs.AcceptedLaws.{SameListsAgree, SpelledListsAgree}
use Rattle.mz_emit_theory.proofs.SameBodies.{same-body-back}

-- ---- rows

rows-of-same : (n : ℕ) (d d' : Declaration) → IsSameDeclaration d d' → term_row_of n d ≡ term_row_of n d'
rows-of-same n (sort_decl m) (sort_decl m') h = refl
rows-of-same n (term_decl d) (term_decl e) h = refl
rows-of-same n (assertion_decl a) (assertion_decl b) h = refl
rows-of-same n _ _ h = absurd h

terms-of-same : (d d' : Declaration) → IsSameDeclaration d d' → length (terms (d ∷ [])) ≡ length (terms (d' ∷ []))
terms-of-same (sort_decl m) (sort_decl m') h = refl
terms-of-same (term_decl d) (term_decl e) h = refl
terms-of-same (assertion_decl a) (assertion_decl b) h = refl
terms-of-same _ _ h = absurd h

pub same-rows : (n : ℕ) (ss ss' : List Statement) → IsSameList ss ss' → term_rows n ss ≡ term_rows n ss'
same-rows n [] [] h = refl
same-rows n (s ∷ ss) (s' ∷ ss') ((mark, decl), h) =
    ap (λ (b : Bool). (if b then [] else term_row_of n s.decl) ++ term_rows (n + length (terms (s.decl ∷ []))) ss) mark
    ∙ ap (λ (xs : List ℕ). (if s'.is_local then [] else xs) ++ term_rows (n + length (terms (s.decl ∷ []))) ss) (rows-of-same n s.decl s'.decl decl)
    ∙ ap (λ (k : ℕ). (if s'.is_local then [] else term_row_of n s'.decl) ++ term_rows (n + k) ss) (terms-of-same s.decl s'.decl decl)
    ∙ ap (λ (xs : List ℕ). (if s'.is_local then [] else term_row_of n s'.decl) ++ xs) (same-rows (n + length (terms (s'.decl ∷ []))) ss ss' h)
same-rows n _ _ h = absurd h

pub same-longer : (ss ss' : List Statement) (s s' : Statement) → IsSameList ss ss' → IsSameStatement s s' → IsSameList (ss ++ s ∷ []) (ss' ++ s' ∷ [])
same-longer [] [] s s' h one = (one, tt)
same-longer (t ∷ ss) (t' ∷ ss') s s' (first, h) one = (first, same-longer ss ss' s s' h one)
same-longer _ _ s s' h one = absurd h

-- ---- a declaration and its partner

pub form-kind : (params : List Binder) (f f' : Form) → IsSameForm params f f' → kind_of_form f ≡ kind_of_form f'
form-kind params plain_form plain_form h = refl
form-kind params abstract_form abstract_form h = refl
form-kind params (defined ds b) (defined ds' b') h = refl
form-kind params _ _ h = absurd h

form-agrees : (rows : List ℕ) (params : List Binder) (g f f' : Form) → IsSameForm params f f' → AllHold (form_checks rows (length params) g f) → AllHold (form_checks rows (length params) g f')
form-agrees rows params (defined ds e) (defined es body) (defined fs f) (ys, fresh, is, inside) (h, _) = (same-body-back rows params ds es fs e body f ys fresh is inside h, tt)
form-agrees rows params (defined ds e) (defined es body) _ same h = absurd same
form-agrees rows params (defined ds e) _ f' same (h, _) = absurd h
form-agrees rows params _ f f' same h = tt

decl-agrees : (rows : List ℕ) (d e e' : Declaration) → IsSameDeclaration e e' → AllHold (match_checks d (record { rows = rows; decl = e })) → AllHold (match_checks d (record { rows = rows; decl = e' }))
decl-agrees rows d (sort_decl m) (sort_decl m') same h = subst (λ z. AllHold (match_checks d (record { rows = rows; decl = sort_decl z }))) same h
decl-agrees rows d (assertion_decl a) (assertion_decl b) same h = subst (λ z. AllHold (match_checks d (record { rows = rows; decl = assertion_decl z }))) same h
decl-agrees rows (sort_decl m) (term_decl t) (term_decl t') (sig, form) (kind, h) = (kind ∙ form-kind t.signature.params t.form t'.form form, h)
decl-agrees rows (assertion_decl a) (term_decl t) (term_decl t') (sig, form) (kind, h) = (kind ∙ form-kind t.signature.params t.form t'.form form, h)
decl-agrees rows (term_decl d) (term_decl t) (term_decl t') (sig, form) (kind, (binders, (result, h))) =
    let params : d.signature.params ≡ t'.signature.params = binders ∙ ap (λ (z : Signature). z.params) sig in
    let form' : IsSameForm t'.signature.params t.form t'.form = subst (λ (z : Signature). IsSameForm z.params t.form t'.form) sig form in
    let there : AllHold (form_checks rows (length t'.signature.params) d.form t.form) = subst (λ (ps : List Binder). AllHold (form_checks rows (length ps) d.form t.form)) params h in (
      kind ∙ form-kind t.signature.params t.form t'.form form,
      (
        params,
        (
          result ∙ ap (λ (z : Signature). z.result) sig,
          subst (λ (ps : List Binder). AllHold (form_checks rows (length ps) d.form t'.form)) (sym params) (form-agrees rows t'.signature.params d.form t.form t'.form form' there),
        ),
      ),
    )
decl-agrees rows d (term_decl t) (sort_decl m') same h = absurd same
decl-agrees rows d _ _ same h = absurd same

-- ---- all of them

publics-agree : (ds : List Declaration) (before before' ss ss' : List Statement) → IsSameList before before' → IsSameList ss ss'
    → Agrees ds (publics_after before ss) → Agrees ds (publics_after before' ss')
publics-agree ds before before' [] [] earlier same h = h
publics-agree ds before before' (s ∷ ss) (s' ∷ ss') earlier ((mark, decl), same) h =
    go s.is_local s'.is_local mark ds h (λ ds later. publics-agree ds (before ++ s ∷ []) (before' ++ s' ∷ []) ss ss' (same-longer before before' s s' earlier (mark, decl)) same later)
  where
    partner : (d : Declaration) → AllHold (match_checks d (partner_of before s)) → AllHold (match_checks d (partner_of before' s'))
    partner d hold = subst (λ (rows : List ℕ). AllHold (match_checks d (record { rows = rows; decl = s'.decl }))) (same-rows 0 before before' earlier) (decl-agrees (term_rows 0 before) d s.decl s'.decl decl hold)

    go : (b b' : Bool) → b ≡ b' → (es : List Declaration) → Agrees es (if b then publics_after (before ++ s ∷ []) ss else partner_of before s ∷ publics_after (before ++ s ∷ []) ss)
        → ((fs : List Declaration) → Agrees fs (publics_after (before ++ s ∷ []) ss) → Agrees fs (publics_after (before' ++ s' ∷ []) ss'))
        → Agrees es (if b' then publics_after (before' ++ s' ∷ []) ss' else partner_of before' s' ∷ publics_after (before' ++ s' ∷ []) ss')
    go true true is es hold later = later es hold
    go true false is es hold later = absurd cc
    go false true is es hold later = absurd cc
    go false false is [] hold later = absurd hold
    go false false is (d ∷ es) (first, rest) later = (partner d first, later es rest)
publics-agree ds before before' _ _ earlier same h = absurd same

pub same-lists-agree : SameListsAgree
same-lists-agree ds ss ss' same h = publics-agree ds [] [] ss ss' tt same h

pub spelled-agree : SpelledListsAgree
spelled-agree ds ss legal agrees = same-lists-agree ds ss (list_spelled ss) (spelled-same ss legal) agrees
