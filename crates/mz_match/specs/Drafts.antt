-- A specification and a binary whose proofs may have gaps (this project's own; a gap is Sorry of the .mmb format).
use Rattle.std.specs.Prelude.{◌≡◌, ◌⊎◌, ⊤, ℕ, Bool, true, not, ◌&&◌, if◌then◌else◌, MatchBool, List, [], ◌∷◌, ◌++◌, length, slice_get, Contains, Some, false}
use Rattle.mz_logic_theory.specs.Declaration.{Declaration, Assertion, sort_decl, term_decl, assertion_decl, assertions}
use Rattle.mz_logic_theory.specs.LegalLists.{Statement, DraftLegal, declarations}
use Rattle.mz_binary_theory.specs.Chains.{Statements}
use Rattle.mz_binary_theory.specs.Gapped.{GappedIn, AreFreeUnlessGapped}
use Rattle.mz_spec_theory.specs.Spec.{SpecOf}
use Rattle.mz_match.specs.declared.draft.Draft.{Draft}
use Rattle.mz_match.specs.declared.draft.Draft.TheVariants as drafts
use Rattle.mz_match_theory.specs.declared.verdict.Counts.{Counts}
use Rattle.mz_match_theory.specs.declared.verdict.Verdict.{Verdict}
use Rattle.mz_match_theory.specs.declared.verdict.Verdict.TheVariants as verdicts
use Rattle.mz_spec_proved_theory.specs.Proved.{ProvesUngapped}
use Rattle.mz_spec_proved_theory.specs.Match.{publics, Agrees}
use Rattle.mz_match_theory.specs.Verdict.{AcceptsBy, IsVerdictBy, counts_of}
use Rattle.mz_binary_theory.specs.Standards.{Standard, lets_gaps, draft_standard}

-- ---- which theorems rest on a gap

-- the place of the declaration for which a statement stands, where it is a theorem with G, the T-th
abbrev pub IsGapOf : (ℕ → Type 0) → (place T : ℕ) → Declaration → List ℕ → Type 0
IsGapOf G place T (sort_decl _) here = here ≡ []
IsGapOf G place T (term_decl _) here = here ≡ []
IsGapOf G place T (assertion_decl _) here = ((here ≡ place ∷ []) × G T) ⊎ ((here ≡ []) × (G T → ⊥))

-- a local statement stands for none
abbrev pub IsGapHere : (ℕ → Type 0) → List Statement → Statement → List ℕ → Type 0
IsGapHere G before s here = MatchBool s.is_local (here ≡ []) (IsGapOf G (length (publics before)) (length (assertions (declarations before))) s.decl here)

-- the places of the declarations for which gapped theorems among the statements stand, in order; others stand before
abbrev pub ListsGaps : (ℕ → Type 0) → List Statement → List Statement → List ℕ → Type 0
ListsGaps G before [] places = places ≡ []
ListsGaps G before (s ∷ ss) places = (here : List ℕ) × (rest : List ℕ) × (places ≡ here ++ rest) × IsGapHere G before s here × ListsGaps G (before ++ s ∷ []) ss rest

-- of all statements of a binary
abbrev pub ListsGapsOf : List ℕ → List Statement → List ℕ → Type 0
ListsGapsOf bin ss places = ListsGaps (GappedIn bin ss) [] ss places

-- ---- answers

-- the pair is accepted with gaps, has so many declarations of each kind, and these are the places of the gapped theorems
abbrev pub DraftAccepts : List ℕ → List ℕ → Counts → List ℕ → Type 0
DraftAccepts spec bin counts places = (accepts : AcceptsBy draft_standard spec bin) × (counts ≡ counts_of accepts.declared) × ListsGapsOf bin accepts.statements places

-- the answer without the places
abbrev pub verdict_of : Draft → Verdict
verdict_of (drafts.Accepted counts gaps) = verdicts.Accepted counts
verdict_of (drafts.Spec refusal) = verdicts.Spec refusal
verdict_of (drafts.Binary refusal) = verdicts.Binary refusal
verdict_of (drafts.Match declaration statement rule) = verdicts.Match declaration statement rule
verdict_of drafts.Mem = verdicts.Mem

-- accepted, with the places of the gapped theorems; or the first refusal
abbrev pub IsDraft : List ℕ → List ℕ → Draft → Type 0
IsDraft spec bin (drafts.Accepted counts gaps) = DraftAccepts spec bin counts gaps
IsDraft spec bin (drafts.Spec refusal) = IsVerdictBy draft_standard spec bin (verdicts.Spec refusal)
IsDraft spec bin (drafts.Binary refusal) = IsVerdictBy draft_standard spec bin (verdicts.Binary refusal)
IsDraft spec bin (drafts.Match declaration statement rule) = IsVerdictBy draft_standard spec bin (verdicts.Match declaration statement rule)
IsDraft spec bin drafts.Mem = ⊤

-- each theorem among the declarations whose place isn't one of these is proved from the axioms that are declared before it
abbrev pub UnnamedFollow : List Declaration → List Statement → List ℕ → Type 0
UnnamedFollow ds ss places = (i : ℕ) (a : Assertion) → slice_get ds i ≡ Some (assertion_decl a) → a.is_axiom ≡ false → (Contains places i → ⊥) → ProvesUngapped ds ss i a

-- The specification and the binary's statements agree. These are a legal draft (its declarations are legal, and what is
-- local may be), and each of its theorems that isn't gapped has a derivation without gaps, over the statements before it,
-- that cites no gapped theorem. And each theorem of the specification is proved from its axioms before it, as is
-- promised of a finished binary, but for those whose places are named.
pub record IsDraftSound (spec bin : List ℕ) : Type 0 where
  pub declared : List Declaration
  pub statements : List Statement
  pub is_spec : SpecOf spec declared
  pub spelled : Statements bin statements
  pub legal : DraftLegal statements
  pub free : AreFreeUnlessGapped bin statements
  pub agrees : Agrees declared (publics statements)
  pub unnamed : (places : List ℕ) → ListsGapsOf bin statements places → UnnamedFollow declared statements places

-- sound, where these places are named
abbrev pub IsDraftSoundBut : List ℕ → List ℕ → List ℕ → Type 0
IsDraftSoundBut spec bin places = (sound : IsDraftSound spec bin) × UnnamedFollow sound.declared sound.statements places

abbrev pub IsDraftSoundIfAccepted : List ℕ → List ℕ → Draft → Type 0
IsDraftSoundIfAccepted spec bin (drafts.Accepted counts gaps) = IsDraftSoundBut spec bin gaps
IsDraftSoundIfAccepted spec bin (drafts.Spec refusal) = ⊤
IsDraftSoundIfAccepted spec bin (drafts.Binary refusal) = ⊤
IsDraftSoundIfAccepted spec bin (drafts.Match declaration statement rule) = ⊤
IsDraftSoundIfAccepted spec bin drafts.Mem = ⊤

-- ---- as the list is read

-- the places with that of one statement more
abbrev pub places_past : Bool → Bool → ℕ → List ℕ → List ℕ
places_past is_local gap place places = if gap && not is_local then places ++ place ∷ [] else places

-- what is said of the two, and in a draft the places
abbrev pub IsJudged : Standard → List ℕ → List ℕ → Verdict → List ℕ → Type 0
IsJudged standard spec bin (verdicts.Accepted counts) places = (accepts : AcceptsBy standard spec bin) × (counts ≡ counts_of accepts.declared) × (lets_gaps standard ≡ true → ListsGapsOf bin accepts.statements places)
IsJudged standard spec bin (verdicts.Spec refusal) places = IsVerdictBy standard spec bin (verdicts.Spec refusal)
IsJudged standard spec bin (verdicts.Binary refusal) places = IsVerdictBy standard spec bin (verdicts.Binary refusal)
IsJudged standard spec bin (verdicts.Match declaration statement rule) places = IsVerdictBy standard spec bin (verdicts.Match declaration statement rule)
IsJudged standard spec bin verdicts.Mem places = ⊤
