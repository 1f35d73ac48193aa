-- Lists of declarations and of statements.
use Rattle.std.proofs.Common.{◌≡◌, ◌<◌, ◌≤◌, ◌+◌, ◌∙◌, ℕ, zero, suc, Bool, true, false, List, [], ◌∷◌, ◌++◌, length, drop, Some, refl, sym, ap, subst, arith, append_assoc}
use Rattle.std.specs.Prelude.{if◌then◌else◌, slice_get, option_map}
use Rattle.std.proofs.lemmas.List.{append-nil}
use Rattle.mz_base.specs.Checks.{AllHold}
use Rattle.mz_logic_theory.specs.Declaration.{Declaration, sort_decl, term_decl, assertion_decl, sorts, terms, assertions}
use Rattle.mz_logic_theory.specs.LegalLists.{Statement, declarations}
use Rattle.mz_spec_theory.specs.State.{Entry, env_of}
use Rattle.mz_spec_proved_theory.specs.Match.{Partner, partner_of, publics_after, publics, term_row_of, term_rows, match_checks, Agrees, Leaves, partner_checks}

-- ---- the entries of a specification

pub drop-entry : (es : List Entry) (i : ℕ) (d : Declaration) → option_map (λ e. e.decl) (slice_get es i) ≡ Some d → drop i (env_of es) ≡ d ∷ drop (suc i) (env_of es)
drop-entry [] i d is = absurd cc
drop-entry (e ∷ es) zero d is = let same : e.decl ≡ d = cc in ap (λ x. x ∷ env_of es) same
drop-entry (e ∷ es) (suc i) d is = drop-entry es i d is

pub length-env : (es : List Entry) → length (env_of es) ≡ length es
length-env [] = refl
length-env (e ∷ es) = ap suc (length-env es)

pub drop-past : (ds : List Declaration) (i : ℕ) → length ds ≤ i → drop i ds ≡ []
drop-past [] zero past = refl
drop-past [] (suc i) past = refl
drop-past (d ∷ ds) zero past = absurd (omega arith)
drop-past (d ∷ ds) (suc i) past = drop-past ds i (omega arith)

-- what is left goes on
pub drop-further : (ds : List Declaration) (i : ℕ) (d : Declaration) (rest : List Declaration) → drop i ds ≡ d ∷ rest → (drop (suc i) ds ≡ rest) × (i < length ds)
drop-further [] zero d rest is = absurd cc
drop-further [] (suc i) d rest is = absurd cc
drop-further (e ∷ ds) zero d rest is = (let same : ds ≡ rest = cc in same, omega arith)
drop-further (e ∷ ds) (suc i) d rest is = let more = drop-further ds i d rest is in (more.0, omega (arith, more.1))

-- ---- statements

pub publics-append : (before ss ts : List Statement) → publics_after before (ss ++ ts) ≡ publics_after before ss ++ publics_after (before ++ ss) ts
publics-append before [] ts = ap (λ bs. publics_after bs ts) (sym (append-nil before))
publics-append before (s ∷ ss) ts = by s.is_local (publics-append (before ++ s ∷ []) ss ts ∙ ap (λ bs. publics_after (before ++ s ∷ []) ss ++ publics_after bs ts) (append_assoc before (s ∷ []) ss))
  where
    by : (local : Bool) → publics_after (before ++ s ∷ []) (ss ++ ts) ≡ publics_after (before ++ s ∷ []) ss ++ publics_after (before ++ s ∷ ss) ts
        → (if local then publics_after (before ++ s ∷ []) (ss ++ ts) else partner_of before s ∷ publics_after (before ++ s ∷ []) (ss ++ ts))
        ≡ (if local then publics_after (before ++ s ∷ []) ss else partner_of before s ∷ publics_after (before ++ s ∷ []) ss) ++ publics_after (before ++ s ∷ ss) ts
    by true is = is
    by false is = ap (λ xs. partner_of before s ∷ xs) is

pub publics-local : (before : List Statement) (s : Statement) → s.is_local ≡ true → publics_after before (s ∷ []) ≡ []
publics-local before s is = ap (λ (b : Bool). if b then [] else partner_of before s ∷ []) is

pub publics-public : (before : List Statement) (s : Statement) (ss : List Statement) → s.is_local ≡ false → publics_after before (s ∷ ss) ≡ partner_of before s ∷ publics_after (before ++ s ∷ []) ss
publics-public before s ss is = ap (λ (b : Bool). if b then publics_after (before ++ s ∷ []) ss else partner_of before s ∷ publics_after (before ++ s ∷ []) ss) is

terms-append : (xs ys : List Declaration) → length (terms (xs ++ ys)) ≡ length (terms xs) + length (terms ys)
terms-append [] ys = let e : length (terms ys) ≡ 0 + length (terms ys) = omega arith in e
terms-append (sort_decl m ∷ xs) ys = terms-append xs ys
terms-append (term_decl d ∷ xs) ys = let more = terms-append xs ys in omega (arith, more)
terms-append (assertion_decl a ∷ xs) ys = terms-append xs ys

pub term_rows-append : (n : ℕ) (ss ts : List Statement) → term_rows n (ss ++ ts) ≡ term_rows n ss ++ term_rows (n + length (terms (declarations ss))) ts
term_rows-append n [] ts = ap (λ k. term_rows k ts) (let e : n ≡ n + 0 = omega arith in e)
term_rows-append n (s ∷ ss) ts =
    let here = if s.is_local then [] else term_row_of n s.decl in
    let after = n + length (terms (s.decl ∷ [])) in
    let both : length (terms (declarations (s ∷ ss))) ≡ length (terms (s.decl ∷ [])) + length (terms (declarations ss)) = terms-append (s.decl ∷ []) (declarations ss) in
    let place : after + length (terms (declarations ss)) ≡ n + length (terms (declarations (s ∷ ss))) = omega (arith, both) in
    ap (λ xs. here ++ xs) (term_rows-append after ss ts ∙ ap (λ k. term_rows after ss ++ term_rows k ts) place)
    ∙ sym (append_assoc here (term_rows after ss) (term_rows (n + length (terms (declarations (s ∷ ss)))) ts))

-- each declaration is of one kind
pub kinds-total : (ds : List Declaration) → length ds ≡ length (sorts ds) + length (terms ds) + length (assertions ds)
kinds-total [] = refl
kinds-total (sort_decl m ∷ ds) = let more = kinds-total ds in omega (arith, more)
kinds-total (term_decl d ∷ ds) = let more = kinds-total ds in omega (arith, more)
kinds-total (assertion_decl a ∷ ds) = let more = kinds-total ds in omega (arith, more)

pub length-declarations : (ss : List Statement) → length (declarations ss) ≡ length ss
length-declarations [] = refl
length-declarations (s ∷ ss) = ap suc (length-declarations ss)

-- ---- agreement

pub agrees-more : (ds : List Declaration) (ps : List Partner) (d : Declaration) (p : Partner) → Agrees ds ps → AllHold (match_checks d p) → Agrees (ds ++ d ∷ []) (ps ++ p ∷ [])
agrees-more [] [] d p so_far here = (here, tt)
agrees-more [] (q ∷ ps) d p so_far here = absurd so_far
agrees-more (e ∷ ds) [] d p so_far here = absurd so_far
agrees-more (e ∷ ds) (q ∷ ps) d p so_far here = (so_far.0, agrees-more ds ps d p so_far.1 here)

pub agrees-length : (ds : List Declaration) (ps : List Partner) → Agrees ds ps → length ds ≡ length ps
agrees-length [] [] so_far = refl
agrees-length [] (q ∷ ps) so_far = absurd so_far
agrees-length (e ∷ ds) [] so_far = absurd so_far
agrees-length (e ∷ ds) (q ∷ ps) so_far = ap suc (agrees-length ds ps so_far.1)

-- what is left beside the same partners is the same
pub left-same : (ds es left rest : List Declaration) (ps : List Partner) → Agrees ds ps → Agrees es ps → ds ++ left ≡ es ++ rest → left ≡ rest
left-same [] [] left rest [] a b is = is
left-same [] (e ∷ es) left rest [] a b is = absurd b
left-same (d ∷ ds) es left rest [] a b is = absurd a
left-same [] es left rest (p ∷ ps) a b is = absurd a
left-same (d ∷ ds) [] left rest (p ∷ ps) a b is = absurd b
left-same (d ∷ ds) (e ∷ es) left rest (p ∷ ps) a b is = left-same ds es left rest ps a.1 b.1 (let tails : ds ++ left ≡ es ++ rest = cc in tails)

-- where another list goes on beside one partner more, the next of what is left agrees with that
pub left-next : (ds es left rest : List Declaration) (ps qs : List Partner) (p : Partner) → Agrees ds ps → Agrees es (ps ++ p ∷ qs) → ds ++ left ≡ es ++ rest
    → (d : Declaration) × (more : List Declaration) × (left ≡ d ∷ more) × AllHold (match_checks d p)
left-next [] [] left rest [] qs p a b is = absurd b
left-next [] (e ∷ es) left rest [] qs p a b is = (e, es ++ rest, is, b.0)
left-next (d ∷ ds) es left rest [] qs p a b is = absurd a
left-next [] es left rest (q ∷ ps) qs p a b is = absurd a
left-next (d ∷ ds) [] left rest (q ∷ ps) qs p a b is = absurd b
left-next (d ∷ ds) (e ∷ es) left rest (q ∷ ps) qs p a b is =
    left-next ds es left rest ps qs p a.1 b.1 (let tails : ds ++ left ≡ es ++ rest = cc in tails)

-- ---- what is left after a statement more

pub leaves-nothing : (ds : List Declaration) → Leaves ds [] ds
leaves-nothing ds = record { done = []; all = refl; agrees = tt }

pub leaves-local : (ds left : List Declaration) (ss : List Statement) (s : Statement) → s.is_local ≡ true → Leaves ds ss left → Leaves ds (ss ++ s ∷ []) left
leaves-local ds left ss s is l = record {
  done = l.done;
  all = l.all;
  agrees = subst (Agrees l.done) (sym (publics-append [] ss (s ∷ []) ∙ ap (λ ps. publics ss ++ ps) (publics-local ss s is) ∙ append-nil (publics ss))) l.agrees;
}

pub leaves-public : (ds rest : List Declaration) (d : Declaration) (ss : List Statement) (s : Statement) → s.is_local ≡ false → AllHold (match_checks d (partner_of ss s)) → Leaves ds ss (d ∷ rest) → Leaves ds (ss ++ s ∷ []) rest
leaves-public ds rest d ss s is here l = record {
  done = l.done ++ d ∷ [];
  all = l.all ∙ sym (append_assoc l.done (d ∷ []) rest);
  agrees = subst (Agrees (l.done ++ d ∷ [])) (sym (publics-append [] ss (s ∷ []) ∙ ap (λ ps. publics ss ++ ps) (publics-public ss s [] is)))
      (agrees-more l.done (publics ss) d (partner_of ss s) l.agrees here);
}

-- the checks of a partner hold only where a declaration is left
pub partner-there : (left : List Declaration) (p : Partner) → AllHold (partner_checks left p) → (d : Declaration) × (rest : List Declaration) × (left ≡ d ∷ rest) × AllHold (match_checks d p)
partner-there [] p all = absurd all.0
partner-there (d ∷ rest) p all = (d, rest, refl, all)
