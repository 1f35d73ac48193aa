-- The places of gapped theorems, as the list of statements goes on.
use Rattle.std.proofs.Common.{◌≡◌, ◌∙◌, ◌<◌, ◌≤◌, ◌+◌, ℕ, Bool, true, false, List, [], ◌∷◌, ◌++◌, length, refl, sym, ap, subst, inl, inr, arith, length-append, append_assoc, append-nil}
use Rattle.std.specs.Prelude.{◌↔◌, MatchBool, not, ◌&&◌, if◌then◌else◌}
use Rattle.mz_logic_theory.specs.Declaration.{Declaration, Assertion, sort_decl, term_decl, assertion_decl, assertions}
use Rattle.mz_logic_theory.specs.LegalLists.{Statement, declarations}
use Rattle.mz_logic_theory.proofs.Offered.{assertions-append}
use Rattle.mz_layout_tables.specs.Tables.{list_at}
use Rattle.mz_binary_theory.specs.declared.statement.Statement.{Statement as Reported}
use Rattle.mz_binary_theory.specs.Chains.{IsGoodStatement}
use Rattle.mz_binary_theory.specs.Gapped.{body_of, bodies_of, IsGapped, GappedIn}
use Rattle.mz_binary.specs.Judging.{Passes}
use Rattle.mz_binary.specs.Progress.{Progress}
use Rattle.mz_binary_theory.proofs.Offered.{chain-declares, ungapped-free, bodies-more, bodies-many, gapped-on, gapped-back, gapped-within, good-legal, good-spelled}
use Rattle.mz_match.specs.declared.draft.Draft.{Draft}
use Rattle.mz_match.specs.declared.draft.Draft.TheVariants as drafts
use Rattle.mz_match.specs.declared.progress.Matching.{Matching}
use Rattle.mz_match_theory.specs.declared.verdict.Verdict.{Verdict}
use Rattle.mz_match_theory.specs.declared.verdict.Verdict.TheVariants as verdicts
use Rattle.mz_match.specs.Drafts.{IsGapOf, IsGapHere, ListsGaps, ListsGapsOf, IsDraft, IsDraftSound, IsDraftSoundIfAccepted, IsJudged, verdict_of, places_past}
use Rattle.mz_spec_proved_theory.specs.Match.{publics}
use Rattle.mz_match.specs.Reported.{IsMatched}
use Rattle.mz_match.proofs.UnnamedFollow.{unnamed-follow}
use Rattle.mz_match_theory.specs.Verdict.{AcceptsBy, IsDifferenceAt, IsVerdictBy}
use Rattle.mz_binary_theory.specs.Standards.{Standard, lets_gaps, draft_standard}

-- ---- one statement more at the end

pub lists-more : (G : ℕ → Type 0) (before ss : List Statement) (s : Statement) (places here : List ℕ) → ListsGaps G before ss places → IsGapHere G (before ++ ss) s here → ListsGaps G before (ss ++ s ∷ []) (places ++ here)
lists-more G before [] s places here none gap =
    (here, [], ap (λ xs. xs ++ here) none ∙ sym (append-nil here), subst (λ b. IsGapHere G b s here) (append-nil before) gap, refl)
lists-more G before (t ∷ ts) s places here (first, rest, is, gap-first, more) gap = (
  first,
  rest ++ here,
  ap (λ xs. xs ++ here) is ∙ append_assoc first rest here,
  gap-first,
  lists-more G (before ++ t ∷ []) ts s rest here more (subst (λ b. IsGapHere G b s here) (sym (append_assoc before (t ∷ []) ts)) gap),
)

-- ---- of the same theorems

declared-append : (ss ts : List Statement) → declarations (ss ++ ts) ≡ declarations ss ++ declarations ts
declared-append [] ts = refl
declared-append (s ∷ ss) ts = ap (λ ds. s.decl ∷ ds) (declared-append ss ts)

module _ (G H : ℕ → Type 0) (n : ℕ) (same : (T : ℕ) → T < n → G T ↔ H T) where
  of-change : (place T : ℕ) (d : Declaration) (here : List ℕ) → ((a : Assertion) → d ≡ assertion_decl a → T < n) → IsGapOf G place T d here → IsGapOf H place T d here
  of-change place T (sort_decl m) here low h = h
  of-change place T (term_decl t) here low h = h
  of-change place T (assertion_decl a) here low (inl (is, g)) = inl (is, (same T (low a refl)).0 g)
  of-change place T (assertion_decl a) here low (inr (is, none)) = inr (is, λ h. none ((same T (low a refl)).1 h))

  here-change : (b : Bool) (P Q R : Type 0) → (Q → R) → MatchBool b P Q → MatchBool b P R
  here-change true P Q R go h = h
  here-change false P Q R go h = go h

  row-below : (before : List Statement) (s : Statement) (ss : List Statement) (a : Assertion) → s.decl ≡ assertion_decl a → length (assertions (declarations (before ++ s ∷ ss))) ≤ n → length (assertions (declarations before)) < n
  row-below before s ss a is few =
      let all : length (assertions (declarations (before ++ s ∷ ss))) ≡ length (assertions (declarations before)) + length (assertions (s.decl ∷ declarations ss)) =
      ap (λ ds. length (assertions ds)) (declared-append before (s ∷ ss)) ∙ ap (λ xs. length xs) (assertions-append (declarations before) (s.decl ∷ declarations ss)) ∙ length-append (assertions (declarations before)) (assertions (s.decl ∷ declarations ss)) in
      let one : length (assertions (s.decl ∷ declarations ss)) ≡ length (assertions (assertion_decl a ∷ declarations ss)) = ap (λ d. length (assertions (d ∷ declarations ss))) is in
      omega (arith, all, one, few)

  pub lists-change : (before ss : List Statement) (places : List ℕ) → length (assertions (declarations (before ++ ss))) ≤ n → ListsGaps G before ss places → ListsGaps H before ss places
  lists-change before [] places few h = h
  lists-change before (s ∷ ss) places few (here, rest, is, gap, more) = (
    here,
    rest,
    is,
    here-change s.is_local (here ≡ []) (IsGapOf G (length (publics before)) (length (assertions (declarations before))) s.decl here) (IsGapOf H (length (publics before)) (length (assertions (declarations before))) s.decl here)
        (λ h. of-change (length (publics before)) (length (assertions (declarations before))) s.decl here (λ a a-is. row-below before s ss a a-is few) h) gap,
    lists-change (before ++ s ∷ []) ss rest (subst (λ xs. length (assertions (declarations xs)) ≤ n) (sym (append_assoc before (s ∷ []) ss)) few) more,
  )

-- ---- the next statement

abbrev here_of : Bool → Bool → ℕ → List ℕ
here_of is_local gap place = if gap && not is_local then place ∷ [] else []

past-is : (is_local gap : Bool) (place : ℕ) (places : List ℕ) → places_past is_local gap place places ≡ places ++ here_of is_local gap place
past-is true true place places = sym (append-nil places)
past-is true false place places = sym (append-nil places)
past-is false true place places = refl
past-is false false place places = sym (append-nil places)

new-here : (G : ℕ → Type 0) (place T : ℕ) (d : Declaration) (is_local gap : Bool) → (gap ≡ true) ↔ G T → (((a : Assertion) → d ≡ assertion_decl a → ⊥) → G T → ⊥)
    → MatchBool is_local (here_of is_local gap place ≡ []) (IsGapOf G place T d (here_of is_local gap place))
new-here G place T d true true said none = refl
new-here G place T d true false said none = refl
new-here G place T (sort_decl m) false true said none = absurd (none (λ a is. cc) (said.0 refl))
new-here G place T (term_decl t) false true said none = absurd (none (λ a is. cc) (said.0 refl))
new-here G place T (assertion_decl a) false true said none = inl (refl, said.0 refl)
new-here G place T (sort_decl m) false false said none = refl
new-here G place T (term_decl t) false false said none = refl
new-here G place T (assertion_decl a) false false said none = inr (refl, λ g. let bad : false ≡ true = said.1 g in cc)

no-body : (file : List ℕ) (at : ℕ) (d : Declaration) → ((a : Assertion) → d ≡ assertion_decl a → ⊥) → body_of file at d ≡ []
no-body file at (sort_decl m) none = refl
no-body file at (term_decl t) none = refl
no-body file at (assertion_decl a) none = absurd (none a refl)

module _ (p : Progress) (ds : List Declaration) (m : Matching) (ss : List Statement) (env : List Declaration) (after : Progress) (told : Reported) (matched : IsMatched p ds m ss env) (passes : Passes p ss env after told) (mode : lets_gaps p.standard ≡ true) where
  abbrev s : Statement
  s = passes.statement

  more : bodies_of p.file (ss ++ s ∷ []) ≡ bodies_of p.file ss ++ body_of p.file p.at s.decl
  more = bodies-more p.standard p.file [] (list_at p.file) ss env p.at matched.passed.statements s

  env-is : env ≡ declarations ss
  env-is = chain-declares (IsGoodStatement p.standard p.file) [] (list_at p.file) ss env p.at matched.passed.statements

  row-is : length (assertions (declarations ss)) ≡ length (bodies_of p.file ss)
  row-is = let many = bodies-many p.standard p.file [] (list_at p.file) ss env p.at matched.passed.statements in let rows : length (assertions env) ≡ length (assertions (declarations ss)) = ap (λ e. length (assertions e)) env-is in omega (arith, many, rows)

  before-same : (T : ℕ) → T < length (bodies_of p.file ss) → GappedIn p.file ss T ↔ GappedIn p.file (ss ++ s ∷ []) T
  before-same T lt = (
    λ g. subst (λ bs. IsGapped bs T) (sym more) (gapped-on (bodies_of p.file ss) (body_of p.file p.at s.decl) T g),
    λ g. gapped-back (bodies_of p.file ss) (body_of p.file p.at s.decl) T lt (subst (λ bs. IsGapped bs T) more g),
  )

  said : (told.gap ≡ true) ↔ GappedIn p.file (ss ++ s ∷ []) (length (assertions (declarations ss)))
  said = subst (λ e. (told.gap ≡ true) ↔ GappedIn p.file (ss ++ s ∷ []) (length (assertions e))) env-is (λ h. (passes.gap.0 h).1, λ g. passes.gap.1 (mode, g))

  none : ((a : Assertion) → s.decl ≡ assertion_decl a → ⊥) → GappedIn p.file (ss ++ s ∷ []) (length (assertions (declarations ss))) → ⊥
  none other g =
      let same : bodies_of p.file (ss ++ s ∷ []) ≡ bodies_of p.file ss = more ∙ ap (λ xs. bodies_of p.file ss ++ xs) (no-body p.file p.at s.decl other) ∙ append-nil (bodies_of p.file ss) in
      let lt = gapped-within (bodies_of p.file ss) (length (assertions (declarations ss))) (subst (λ bs. IsGapped bs (length (assertions (declarations ss)))) same g) in
      omega (arith, lt, row-is)

  pub noted : (places : List ℕ) → ListsGapsOf p.file ss places → ListsGapsOf p.file (ss ++ s ∷ []) (places_past told.local told.gap m.done places)
  noted places lists =
      let G : ℕ → Type 0 = GappedIn p.file (ss ++ s ∷ []) in
      let old : ListsGaps G [] ss places = lists-change (GappedIn p.file ss) G (length (bodies_of p.file ss)) before-same [] ss places (omega (arith, row-is)) lists in
      let here = new-here G (length (publics ss)) (length (assertions (declarations ss))) s.decl s.is_local told.gap said none in
      subst (λ xs. ListsGaps G [] (ss ++ s ∷ []) xs)
      (sym (past-is s.is_local told.gap (length (publics ss)) places) ∙ ap (λ k. places_past s.is_local told.gap k places) (sym matched.done_is) ∙ ap (λ b. places_past b told.gap m.done places) (sym passes.tells.mark))
      (lists-more G [] ss s places (here_of s.is_local told.gap (length (publics ss))) old here)

-- ---- answers

pub judged-verdict : (standard : Standard) (spec bin : List ℕ) (v : Verdict) (places : List ℕ) → IsJudged standard spec bin v places → IsVerdictBy standard spec bin v
judged-verdict standard spec bin (verdicts.Accepted counts) places (accepts, is, lists) = (accepts, is)
judged-verdict standard spec bin (verdicts.Spec refusal) places h = h
judged-verdict standard spec bin (verdicts.Binary refusal) places h = h
judged-verdict standard spec bin (verdicts.Match declaration statement rule) places h = h
judged-verdict standard spec bin verdicts.Mem places h = tt

-- a difference, whatever the places
pub stop-judged : (standard : Standard) (spec bin : List ℕ) (n : ℕ) (v : Verdict) (places : List ℕ) → IsDifferenceAt n v → IsVerdictBy standard spec bin v → IsJudged standard spec bin v places
stop-judged standard spec bin n (verdicts.Accepted counts) places other h = absurd other
stop-judged standard spec bin n (verdicts.Spec refusal) places other h = absurd other
stop-judged standard spec bin n (verdicts.Binary refusal) places other h = absurd other
stop-judged standard spec bin n (verdicts.Match declaration statement rule) places other h = h
stop-judged standard spec bin n verdicts.Mem places other h = tt

pub draft-verdict : (spec bin : List ℕ) (d : Draft) → IsDraft spec bin d → IsVerdictBy draft_standard spec bin (verdict_of d)
draft-verdict spec bin (drafts.Accepted counts gaps) (accepts, is, lists) = (accepts, is)
draft-verdict spec bin (drafts.Spec refusal) h = h
draft-verdict spec bin (drafts.Binary refusal) h = h
draft-verdict spec bin (drafts.Match declaration statement rule) h = h
draft-verdict spec bin drafts.Mem h = tt

abbrev accepted-draft : (spec bin : List ℕ) → AcceptsBy draft_standard spec bin → IsDraftSound spec bin
accepted-draft spec bin a = record {
  declared = a.declared;
  statements = a.statements;
  is_spec = a.is_spec;
  spelled = good-spelled draft_standard bin a.statements a.is_good;
  legal = good-legal draft_standard bin a.statements a.is_good;
  free = ungapped-free draft_standard bin a.statements a.is_good;
  agrees = a.agrees;
  unnamed = unnamed-follow bin a.declared a.statements (good-legal draft_standard bin a.statements a.is_good) (ungapped-free draft_standard bin a.statements a.is_good) a.agrees;
}

pub draft-sound : (spec bin : List ℕ) (d : Draft) → IsDraft spec bin d → IsDraftSoundIfAccepted spec bin d
draft-sound spec bin (drafts.Accepted counts gaps) (accepts, is, lists) = let sound = accepted-draft spec bin accepts in (sound, sound.unnamed gaps lists)
draft-sound spec bin (drafts.Spec refusal) h = tt
draft-sound spec bin (drafts.Binary refusal) h = tt
draft-sound spec bin (drafts.Match declaration statement rule) h = tt
draft-sound spec bin drafts.Mem h = tt
