-- The statements agree with what they declare.
use Rattle.std.proofs.Common.{ℕ, zero, suc, ◌≡◌, ◌<◌, ◌+◌, ◌++◌, ◌∙◌, inl, inr, List, [], ◌∷◌, length, map, Some, refl, ap, sym, subst, arith, slice_get, append_assoc, append-nil}
use Rattle.std.proofs.lemmas.Bool.{cases_eq}
use Rattle.std.proofs.lemmas.List.{map-append}
use Rattle.mz_base.specs.Checks.{AllHold}
use Rattle.mz_base.proofs.Offered.{length-push, slice_get-append, slice_get-last}
use Rattle.mz_logic_theory.specs.Declaration.{Term, Declaration, term_decl, assertion_decl, terms}
use Rattle.mz_logic_theory.specs.LegalLists.{Statement as Marked, declarations}
use Rattle.mz_logic_theory.specs.Examples.{public, wff}
use Rattle.mz_logic_theory.proofs.Offered.{terms-append}
use Rattle.mz_mmu_theory.specs.Meaning.{marked}
use Rattle.mz_spec_proved_theory.specs.Match.{partner_of, publics, publics_after, match_checks, term_rows, Agrees}
use Rattle.mz_spec_proved_theory.specs.AlphaTrees.{SameOver, IsPaired}
use Rattle.mz_spec_proved_theory.proofs.Offered.{own_pairs, pairs-own, paired-own, term_rows-append}
use Rattle.mz_tool.proofs.Declarations.{d_number, body, d_declared, t_stated, g_stated}
use Rattle.mz_tool.proofs.Statements.{head_declarations, numbered, sample_statements}

-- what the statements from number k on declare
abbrev pub numbered_declarations : ℕ → ℕ → List Declaration
numbered_declarations k zero = []
numbered_declarations k (suc m) = term_decl (d_declared k) ∷ assertion_decl (t_stated k) ∷ assertion_decl (g_stated k) ∷ numbered_declarations (suc k) m

abbrev pub sample_declarations : ℕ → List Declaration
sample_declarations n = head_declarations ++ numbered_declarations 0 n

-- ---- rows: the t-th of them is that of the term t

abbrev HasRows : ℕ → List ℕ → Type 0
HasRows n rows = (length rows ≡ n) × ((t : ℕ) → t < n → slice_get rows t ≡ Some t)

row-more : (n : ℕ) (rows : List ℕ) → HasRows n rows → HasRows (suc n) (rows ++ n ∷ [])
row-more n rows (many, at) = (length-push rows n ∙ ap suc many, go)
  where
    last : slice_get (rows ++ n ∷ []) n ≡ Some n
    last = subst (λ (i : ℕ). slice_get (rows ++ n ∷ []) i ≡ Some n) many (slice_get-last rows n)

    go : (t : ℕ) → t < suc n → slice_get (rows ++ n ∷ []) t ≡ Some t
    go t less = elim (cases_eq t n) [
      | inl same ↦ subst (λ (i : ℕ). slice_get (rows ++ n ∷ []) i ≡ Some i) (sym same) last
      | inr other ↦ slice_get-append rows (n ∷ []) t t (at t (below other))
    ]
      where
        below : (t ≡ n → ⊥) → t < n
        below other = grind arith

-- ---- trees

same-body : (V : ℕ → ℕ → Type 0) → V 0 0 → (k : ℕ) (rows : List ℕ) → HasRows (d_number k) rows → SameOver V rows (body k) (body k)
same-body V v zero rows (_, at) = let im = at 0 (omega arith) in (im, (v, ((im, (v, (v, tt))), tt)))
same-body V v (suc j) rows (_, at) = (at 0 (omega arith), (v, ((at (d_number j) (omega arith), (v, tt)), tt)))

-- ---- behind the statements before number k

record Behind (k : ℕ) (before : List Marked) : Type 0 where
  rows : HasRows (d_number k) (term_rows 0 before)
  many : length (terms (declarations before)) ≡ d_number k

module _ (k : ℕ) (before : List Marked) (behind : Behind k before) where
  abbrev before_d : List Marked
  before_d = before ++ public (term_decl (d_declared k)) ∷ []

  abbrev before_t : List Marked
  before_t = before_d ++ public (assertion_decl (t_stated k)) ∷ []

  abbrev before_g : List Marked
  before_g = before_t ++ public (assertion_decl (g_stated k)) ∷ []

  rows-d : HasRows (d_number (suc k)) (term_rows 0 before_d)
  rows-d =
      let last : 0 + length (terms (declarations before)) ≡ d_number k = omega (arith, behind.many) in
      subst (HasRows (d_number (suc k))) (sym (term_rows-append 0 before (public (term_decl (d_declared k)) ∷ []) ∙ ap (λ (n : ℕ). term_rows 0 before ++ n ∷ []) last))
      (row-more (d_number k) (term_rows 0 before) behind.rows)

  rows-t : HasRows (d_number (suc k)) (term_rows 0 before_t)
  rows-t =
      subst (HasRows (d_number (suc k))) (sym (term_rows-append 0 before_d (public (assertion_decl (t_stated k)) ∷ []) ∙ append-nil (term_rows 0 before_d))) rows-d

  rows-g : HasRows (d_number (suc k)) (term_rows 0 before_g)
  rows-g =
      subst (HasRows (d_number (suc k))) (sym (term_rows-append 0 before_t (public (assertion_decl (g_stated k)) ∷ []) ∙ append-nil (term_rows 0 before_t))) rows-t

  many-g : length (terms (declarations before_g)) ≡ d_number (suc k)
  many-g =
      ap (λ (ss : List Marked). length (terms (declarations ss))) (append_assoc before_d _ _ ∙ append_assoc before _ _)
      ∙ ap (λ (ds : List Declaration). length (terms ds)) (map-append (λ (s : Marked). s.decl) before _)
      ∙ ap (λ (ts : List Term). length ts) (terms-append (declarations before) (term_decl (d_declared k) ∷ assertion_decl (t_stated k) ∷ assertion_decl (g_stated k) ∷ []))
      ∙ length-push (terms (declarations before)) (d_declared k) ∙ ap suc behind.many

  behind-next : Behind (suc k) before_g
  behind-next = record { rows = rows-g; many = many-g }

  d-agrees : AllHold (match_checks (term_decl (d_declared k)) (partner_of before (public (term_decl (d_declared k)))))
  d-agrees = (
    refl,
    (
      refl,
      (
        refl,
        (
          (
            own_pairs (wff ∷ []) [],
            pairs-own (wff ∷ []) [],
            same-body (IsPaired 1 (own_pairs (wff ∷ []) [])) (paired-own (wff ∷ []) [] 0 (omega arith)) k (term_rows 0 before) behind.rows,
          ),
          tt,
        ),
      ),
    ),
  )

  t-agrees : AllHold (match_checks (assertion_decl (t_stated k)) (partner_of before_d (public (assertion_decl (t_stated k)))))
  t-agrees = (refl, (refl, (tt, ((rows-d.1 (d_number k) (omega arith), (refl, tt)), tt))))

  g-agrees : AllHold (match_checks (assertion_decl (g_stated k)) (partner_of before_t (public (assertion_decl (g_stated k)))))
  g-agrees = (refl, (refl, (tt, ((rows-t.1 1 (omega arith), (refl, ((rows-t.1 (d_number k) (omega arith), (refl, tt)), tt))), tt))))

numbered-agree : (k m : ℕ) (before : List Marked) → Behind k before → Agrees (numbered_declarations k m) (publics_after before (marked (numbered k m)))
numbered-agree k zero before behind = tt
numbered-agree k (suc m) before behind =
    (d-agrees k before behind, (t-agrees k before behind, (g-agrees k before behind, numbered-agree (suc k) m (before_g k before behind) (behind-next k before behind))))

-- ---- the sorts, the terms and the axioms

abbrev head_marked : List Marked
head_marked = map public head_declarations

behind-head : Behind 0 head_marked
behind-head = record { rows = (refl, go); many = refl }
  where
    go : (t : ℕ) → t < 2 → slice_get (0 ∷ 1 ∷ []) t ≡ Some t
    go zero less = refl
    go (suc zero) less = refl
    go (suc (suc t)) less = absurd (omega arith)

pub sample-agree : (n : ℕ) → Agrees (sample_declarations n) (publics (marked (sample_statements n)))
sample-agree n = (
  (refl, (refl, tt)),
  (
    (refl, (refl, tt)),
    (
      (refl, (refl, (refl, tt))),
      (
        (refl, (refl, (refl, tt))),
        (
          (refl, (refl, (tt, ((refl, (refl, ((refl, (refl, (refl, tt))), tt))), tt)))),
          (
            (refl, (refl, (((refl, (refl, (refl, tt))), (refl, tt)), (refl, tt)))),
            ((refl, (refl, ((refl, tt), ((refl, (refl, (refl, tt))), tt)))), numbered-agree 0 n head_marked behind-head),
          ),
        ),
      ),
    ),
  ),
)
