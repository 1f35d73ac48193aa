-- The public part of a list agrees with the list.
use Rattle.std.proofs.Common.{◌≡◌, ◌<◌, ◌++◌, ◌∙◌, ℕ, List, [], ◌∷◌, length, Bool, false, Some, ap, sym, refl, subst, arith, append_assoc}
use Rattle.std.specs.Prelude.{slice_get, if◌then◌else◌}
use Rattle.std.proofs.lemmas.List.{map-append}
use Rattle.mz_base.specs.Checks.{AllHold}
use Rattle.mz_logic_theory.specs.Tree.{Tree, Trees, var, app, none, more}
use Rattle.mz_logic_theory.specs.Signature.{Signature}
use Rattle.mz_logic_theory.specs.Declaration.{Form, plain_form, abstract_form, defined, Declaration, sort_decl, term_decl, assertion_decl, signatures}
use Rattle.mz_logic_theory.specs.Legality.{InRange, AllInRange, NamesThere}
use Rattle.mz_logic_theory.specs.LegalLists.{Statement, LegalAfter, Legal, gap_free, declarations}
use Rattle.mz_logic_theory.specs.declared.binder.Binder.{Binder}
use Rattle.mz_prefix.specs.PublicPart.{public_number, is_local_term, visibilities_of, visibility_of, renamed, all_renamed, mentions_local, public_decl, public_decls, public_part, Hides, IsSayable, AreSayable}
use Rattle.mz_prefix.proofs.Renaming.{AllTerms, AllTermsIn}
use Rattle.mz_prefix.proofs.Beside.{all-public, all-public-in}
use Rattle.mz_prefix.proofs.Legal.{pick}
use Rattle.mz_spec_proved_theory.specs.Match.{term_rows, partner_of, publics_after, publics, match_checks, Agrees}
use Rattle.mz_spec_proved_theory.specs.AlphaTrees.{SameOver, AllSameOver, IsPaired, SameBody, SameTree}
use Rattle.mz_spec_proved_theory.proofs.Offered.{own_pairs, pairs-own, paired-own}
use Rattle.mz_prefix.proofs.Cases.{chosen}
use Rattle.mz_prefix.proofs.Rows.{IsTracked, row-at}

-- ---- expressions

module _ (V : ℕ → ℕ → Type 0) (rows : List ℕ) (f : ℕ → ℕ) (sigs : List Signature) (n : ℕ) (own : (x : ℕ) → x < n → V x x) where
  mutual
    same-renamed : (e : Tree) → AllTerms (IsTracked rows f) e → InRange sigs n e → SameOver V rows (renamed f e) e
    same-renamed (var x) tracked range = own x range
    same-renamed (app t es) tracked range = (tracked.0, all-same-renamed es tracked.1 range.2)

    all-same-renamed : (es : Trees) → AllTermsIn (IsTracked rows f) es → AllInRange sigs n es → AllSameOver V rows (all_renamed f es) es
    all-same-renamed none tracked range = tt
    all-same-renamed (more e es) tracked range = (same-renamed e tracked.0 range.0, all-same-renamed es tracked.1 range.1)

-- ---- a declaration

module _ (ls : List Bool) (hidden : Tree → Bool) (hides : Hides ls hidden) (rows : List ℕ) (env : List Declaration)
    (tracked : (t : ℕ) → t < length (signatures env) → is_local_term ls t ≡ false → IsTracked rows (public_number ls) t) where
  abbrev f : ℕ → ℕ
  f = public_number ls

  tree-tracked : (n : ℕ) (e : Tree) → mentions_local ls e ≡ false → InRange (signatures env) n e → AllTerms (IsTracked rows f) e
  tree-tracked = all-public ls (IsTracked rows f) (signatures env) tracked

  same-claim : (n : ℕ) (e : Tree) → mentions_local ls e ≡ false → InRange (signatures env) n e → SameTree rows (renamed f e) e
  same-claim n e none_ range = same-renamed (λ x y. x ≡ y) rows f (signatures env) n (λ x less. refl) e (tree-tracked n e none_ range) range

  same-defined : (params ds : List Binder) (e : Tree) → mentions_local ls e ≡ false → InRange (signatures env) (length (params ++ ds)) e
      → SameBody rows (length params) ds ds (renamed f e) e
  same-defined params ds e none_ range = (
    own_pairs params ds,
    pairs-own params ds,
    same-renamed (IsPaired (length params) (own_pairs params ds)) rows f (signatures env) (length (params ++ ds)) (paired-own params ds) e
        (tree-tracked (length (params ++ ds)) e none_ range) range,
  )

  term-agrees : (sig : Signature) (form : Form) → NamesThere env (term_decl (record { signature = sig; form = form }))
      → AllHold (match_checks (public_decl hidden f (term_decl (record { signature = sig; form = form }))) (record { rows = rows; decl = term_decl (record { signature = sig; form = form }) }))
  term-agrees sig (defined ds e) names =
      pick (λ (form : Form). AllHold (match_checks (term_decl (record { signature = sig; form = form })) (record { rows = rows; decl = term_decl (record { signature = sig; form = defined ds e }) })))
      (hidden e) abstract_form (defined ds (renamed f e))
      (λ is. (refl, (refl, (refl, tt))))
      (λ is. (refl, (refl, (refl, (same-defined sig.params ds e (hides e is) names.4.0, tt)))))
  term-agrees sig _ names = (refl, (refl, (refl, tt)))

  decl-agrees : (d : Declaration) → IsSayable ls d → NamesThere env d → AllHold (match_checks (public_decl hidden f d) (record { rows = rows; decl = d }))
  decl-agrees (sort_decl m) sayable names = (refl, (refl, tt))
  decl-agrees (term_decl d) sayable names = term-agrees d.signature d.form names
  decl-agrees (assertion_decl a) sayable names = (
    refl,
    (
      refl,
      (
        all-same-renamed (λ x y. x ≡ y) rows f (signatures env) (length a.params) (λ x less. refl) a.hyps
            (all-public-in ls (IsTracked rows f) (signatures env) tracked (length a.params) a.hyps sayable.0 names.1) names.1,
        (same-claim (length a.params) a.conclusion sayable.1 names.2, tt),
      ),
    ),
  )

-- ---- all statements

visibilities-append : (before ss : List Statement) → visibilities_of (before ++ ss) ≡ visibilities_of before ++ visibilities_of ss
visibilities-append [] ss = refl
visibilities-append (s ∷ before) ss = ap (λ ls. visibility_of s.is_local s.decl ++ ls) (visibilities-append before ss) ∙ sym (append_assoc (visibility_of s.is_local s.decl) (visibilities_of before) (visibilities_of ss))

module _ (ls : List Bool) (hidden : Tree → Bool) where
  abbrev Both : List Statement → Statement → List Statement → Bool → Type 0
  Both before s ss b = Agrees (if b then public_decls hidden (public_number ls) ss else public_decl hidden (public_number ls) s.decl ∷ public_decls hidden (public_number ls) ss)
      (if b then publics_after (before ++ s ∷ []) ss else partner_of before s ∷ publics_after (before ++ s ∷ []) ss)

  tracked-before : (before ss : List Statement) → ls ≡ visibilities_of (before ++ ss) → (t : ℕ) → t < length (signatures (declarations before)) → is_local_term ls t ≡ false
      → IsTracked (term_rows 0 before) (public_number ls) t
  tracked-before before ss all t less public =
      let is : ls ≡ visibilities_of before ++ visibilities_of ss = all ∙ visibilities-append before ss in
      ap (λ (xs : List Bool). slice_get (term_rows 0 before) (public_number xs t)) is
      ∙ row-at before (visibilities_of ss) 0 t less (ap (λ (xs : List Bool). is_local_term xs t) (sym is) ∙ public)
      ∙ ap (λ (u : ℕ). Some u) (omega arith)

  agrees-after : Hides ls hidden → (before ss : List Statement) → ls ≡ visibilities_of (before ++ ss) → AreSayable ls ss → LegalAfter gap_free (declarations before) ss
      → Agrees (public_decls hidden (public_number ls) ss) (publics_after before ss)
  agrees-after hides before [] all sayable legal = tt
  agrees-after hides before (s ∷ ss) all sayable legal =
      let rest = agrees-after hides (before ++ s ∷ []) ss (all ∙ ap visibilities_of (sym (append_assoc before (s ∷ []) ss))) sayable.1
      (subst (λ (env : List Declaration). LegalAfter gap_free env ss) (sym (map-append (λ (t : Statement). t.decl) before (s ∷ []))) legal.1) in
      chosen (Both before s ss) s.is_local (λ local. rest)
      (λ public. (decl-agrees ls hidden hides (term_rows 0 before) (declarations before) (tracked-before before (s ∷ ss) all) s.decl (sayable.0 public) legal.0.0.0, rest))

pub public-parts-agree : (ss : List Statement) (hidden : Tree → Bool) → Legal ss → Hides (visibilities_of ss) hidden → AreSayable (visibilities_of ss) ss → Agrees (public_part hidden ss) (publics ss)
public-parts-agree ss hidden legal hides sayable = agrees-after (visibilities_of ss) hidden hides [] ss refl sayable legal
