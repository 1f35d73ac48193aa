-- A text has one reading or one first fault, and never both; what it declares is legal.
use Rattle.std.proofs.Common.{◌≡◌, ◌⊎◌, ◌∙◌, ◌++◌, ◌+◌, ℕ, suc, List, [], ◌∷◌, length, Option, None, ap, sym, refl, subst, inl, inr}
use Rattle.mz_lex.specs.declared.token.LexFault.{LexFault}
use Rattle.mz_lex.specs.Lexemes.{Lexeme, IsNext, LexesFrom}
use Rattle.mz_lex.proofs.Offered.{one-lexing}
use Rattle.mz_logic_theory.specs.Legality.{IsLegalEnv}
use Rattle.mz_base.specs.Checks.{FailsFirst}
use Rattle.mz_base.proofs.Offered.{fails_first-unique, all_hold-excludes}
use Rattle.mz_lex.specs.declared.tokens.MathToken.{MathToken}
use Rattle.mz_spec_theory.specs.declared.refusal.Fault.{Fault}
use Rattle.mz_spec_theory.specs.Statement.{SpecStatement, Spells}
use Rattle.mz_spec_theory.specs.Stops.{Stops, StopsBy}
use Rattle.mz_spec_theory.specs.Reading.{place_of_first}
use Rattle.mz_spec_theory.proofs.Grammar.{statements-one, no-empty}
use Rattle.mz_spec_theory.proofs.Stopping.{front-none, back-none, stops-one, stands-stops}
use Rattle.mz_spec_theory.specs.declared.spec_refusal.SpecRefusal.{SpecRefusal}
use Rattle.mz_spec_theory.specs.View.{view}
use Rattle.mz_spec_theory.specs.State.{State, nothing, entries_of, env_of}
use Rattle.mz_spec_theory.specs.Dependencies.{Every}
use Rattle.mz_spec_theory.specs.Rules.{statement_checks}
use Rattle.mz_spec_theory.specs.Declaring.{After}
use Rattle.mz_spec_theory.specs.Kept.{IsKept}
use Rattle.mz_spec_theory.specs.Spec.{Stand, Breaks, Fails, IsGood}
use Rattle.mz_spec_theory.specs.Laws.{OneReading, OneFault, NotBoth, DeclaresLegally}
use Rattle.mz_spec_theory.proofs.NameSpans.{entries-decls}
use Rattle.mz_spec_theory.proofs.Naming.{IsOfKind, IsWritten, every-front}
use Rattle.mz_spec_theory.proofs.Tokens.{tokens-one}
use Rattle.mz_spec_theory.proofs.Keeping.{kept-written, kept-nothing}
use Rattle.mz_spec_theory.proofs.OneAfter.{after-one}

-- ---- lexemes of a text

next-kind : (text : List ℕ) (from : ℕ) (l : Lexeme) → IsNext text from l → IsOfKind l
next-kind text from l is = subst (λ t. IsOfKind (record l { text = t })) (sym is.spelled) is.kind

-- each of them is of its kind
pub lexes-kinds : (text : List ℕ) (from : ℕ) (ls : List Lexeme) (e : Option LexFault) → LexesFrom text from ls e → Every IsOfKind ls
lexes-kinds text from [] e lexes = tt
lexes-kinds text from (l ∷ ls) e (is, lexes) = (next-kind text from l is, lexes-kinds text l.to ls e lexes)

-- those of a front and of what stands behind it
pub kinds-split : (ls front back : List Lexeme) → ls ≡ front ++ back → Every IsOfKind ls → Every IsOfKind front × Every IsOfKind back
kinds-split ls front back is kinds = every-front IsOfKind front back (subst (Every IsOfKind) is kinds)

-- ---- rules

fails-one : (σ : State) (place : ℕ) (s : SpecStatement) (f g : Fault) → Fails σ place s f → Fails σ place s g → f ≡ g
fails-one σ place s f g (tokens, are, fails) (others, are_g, fails_g) =
    let same = tokens-one σ (view s).formulas others tokens are_g are in
    fails_first-unique (statement_checks σ place s tokens) f g fails (subst (λ (xs : List (List MathToken)). FailsFirst (statement_checks σ place s xs) g) same fails_g)

good-fails : (σ : State) (place : ℕ) (s : SpecStatement) (f : Fault) → IsGood σ place s → Fails σ place s f → ⊥
good-fails σ place s f (tokens, are, good) (others, are_f, fails) =
    let same = tokens-one σ (view s).formulas others tokens are_f are in
    all_hold-excludes (statement_checks σ place s tokens) f good (subst (λ (xs : List (List MathToken)). FailsFirst (statement_checks σ place s xs) f) same fails)

-- what holds of a statement and the place of its first lexeme holds of the same statement and lexemes
turned : (P : ℕ → SpecStatement → Type 0) (s r : SpecStatement) (front other : List Lexeme) → s ≡ r → front ≡ other → P (place_of_first other) r → P (place_of_first front) s
turned P s r front other same places is = subst (P (place_of_first front)) (sym same) (subst (λ xs. P (place_of_first xs) r) (sym places) is)

breaks-one : (σ : State) (ls : List Lexeme) (f g : Fault) → Breaks σ ls f → Breaks σ ls g → f ≡ g
breaks-one σ ls f g (s, front, back, is, spells, fails) (r, other, left, is_r, spells_r, fails_r) =
    let same = statements-one s r front back other left spells spells_r (sym is ∙ is_r) in
    fails-one σ (place_of_first front) s f g fails (turned (λ i x. Fails σ i x g) s r front other same.0 same.1 fails_r)

good-breaks : (σ : State) (ls front back : List Lexeme) (s : SpecStatement) (f : Fault) → ls ≡ front ++ back → Spells s front → IsGood σ (place_of_first front) s → Breaks σ ls f → ⊥
good-breaks σ ls front back s f is spells good (r, other, left, is_r, spells_r, fails) =
    let same = statements-one s r front back other left spells spells_r (sym is ∙ is_r) in
    good-fails σ (place_of_first front) s f good (turned (λ i x. Fails σ i x f) s r front other same.0 same.1 fails)

-- ---- the first fault there

abbrev pub IsThere : ℕ → Option LexFault → State → List Lexeme → Fault → Type 0
IsThere n e σ ls fault = Stops n ls e fault ⊎ Breaks σ ls fault

there-one : (n : ℕ) (e : Option LexFault) (σ : State) (ls : List Lexeme) (f g : Fault) → IsThere n e σ ls f → IsThere n e σ ls g → f ≡ g
there-one n e σ ls f g (inl a) (inl b) = stops-one n ls e f g a b
there-one n e σ ls f g (inl a) (inr (s, front, back, is, spells, _)) = absurd (stands-stops n s front back ls e f is spells a)
there-one n e σ ls f g (inr (s, front, back, is, spells, _)) (inl b) = absurd (stands-stops n s front back ls e g is spells b)
there-one n e σ ls f g (inr a) (inr b) = breaks-one σ ls f g a b

-- a good statement has no fault there
good-there : (n : ℕ) (e : Option LexFault) (σ : State) (ls front back : List Lexeme) (s : SpecStatement) (f : Fault) → ls ≡ front ++ back → Spells s front
    → IsGood σ (place_of_first front) s → IsThere n e σ ls f → ⊥
good-there n e σ ls front back s f is spells good (inl stops) = stands-stops n s front back ls e f is spells stops
good-there n e σ ls front back s f is spells good (inr breaks) = good-breaks σ ls front back s f is spells good breaks

-- nothing is at fault at the end of a text
end-there : (n : ℕ) (σ : State) (f : Fault) → IsThere n None σ [] f → ⊥
end-there n σ f (inl (before, rest, is, _, _, stops)) =
    subst (λ xs. StopsBy n xs [] None f) (front-none before rest is) (subst (λ xs. StopsBy n before xs None f) (back-none before rest is) stops)
end-there n σ f (inr (s, front, back, is, spells, _)) = no-empty s (subst (Spells s) (front-none front back is) spells)

no-statement : (s : SpecStatement) (ls front back : List Lexeme) → [] ≡ ls → ls ≡ front ++ back → Spells s front → ⊥
no-statement s ls front back none is spells = no-empty s (subst (Spells s) (front-none front back (none ∙ is)) spells)

-- ---- statement by statement

-- two readings of the first statement leave one state and the same lexemes
step-one : (σ μ ν : State) (s r : SpecStatement) (ls front back other left : List Lexeme) → IsKept σ → Every IsOfKind ls → ls ≡ front ++ back → ls ≡ other ++ left → Spells s front → Spells r other
    → IsGood σ (place_of_first front) s → After σ (place_of_first front) s μ → After σ (place_of_first other) r ν → IsKept μ × Every IsOfKind back × (ν ≡ μ) × (left ≡ back)
step-one σ μ ν s r ls front back other left kept kinds is is_r spells spells_r good after after_r =
    let same = statements-one s r front back other left spells spells_r (sym is ∙ is_r) in
    let parts = kinds-split ls front back is kinds in
    let written : IsWritten s = (front, spells, parts.0) in
    let here = turned (λ i x. After σ i x ν) s r front other same.0 same.1 after_r in
    (kept-written σ (place_of_first front) kept s μ written good after, parts.1, after-one σ ν μ (place_of_first front) s kept written good here after, sym same.2)

pub stand-one : (σ τ ρ : State) (ss rs : List SpecStatement) (ls : List Lexeme) → IsKept σ → Every IsOfKind ls → Stand σ ss ls τ [] → Stand σ rs ls ρ [] → τ ≡ ρ
stand-one σ τ ρ [] [] ls kept kinds (same, _) (too, _) = same ∙ sym too
stand-one σ τ ρ [] (r ∷ rs) ls kept kinds (_, none) (front, back, _, is, spells, _, _, _) = absurd (no-statement r ls front back none is spells)
stand-one σ τ ρ (s ∷ ss) [] ls kept kinds (front, back, _, is, spells, _, _, _) (_, none) = absurd (no-statement s ls front back none is spells)
stand-one σ τ ρ (s ∷ ss) (r ∷ rs) ls kept kinds (front, back, μ, is, spells, good, after, more) (other, left, ν, is_r, spells_r, good_r, after_r, more_r) =
    let (kept_s, kinds_s, states, lefts) = step-one σ μ ν s r ls front back other left kept kinds is is_r spells spells_r good after after_r in
    stand-one μ τ ρ ss rs back kept_s kinds_s more (subst (λ x. Stand x rs back ρ []) states (subst (λ xs. Stand ν rs xs ρ []) lefts more_r))

pub stand-fault : (n : ℕ) (σ τ ρ : State) (ss rs : List SpecStatement) (ls rest : List Lexeme) (f : Fault) → IsKept σ → Every IsOfKind ls → Stand σ ss ls τ [] → Stand σ rs ls ρ rest → IsThere n None ρ rest f → ⊥
stand-fault n σ τ ρ [] [] ls rest f kept kinds (_, none) (_, same) there = end-there n ρ f (subst (λ xs. IsThere n None ρ xs f) (same ∙ sym none) there)
stand-fault n σ τ ρ [] (r ∷ rs) ls rest f kept kinds (_, none) (front, back, _, is, spells, _, _, _) there = no-statement r ls front back none is spells
stand-fault n σ τ ρ (s ∷ ss) [] ls rest f kept kinds (front, back, _, is, spells, good, _, _) (same, all) there =
    good-there n None σ ls front back s f is spells good (subst (λ xs. IsThere n None σ xs f) all (subst (λ x. IsThere n None x rest f) same there))
stand-fault n σ τ ρ (s ∷ ss) (r ∷ rs) ls rest f kept kinds (front, back, μ, is, spells, good, after, more) (other, left, ν, is_r, spells_r, good_r, after_r, more_r) there =
    let (kept_s, kinds_s, states, lefts) = step-one σ μ ν s r ls front back other left kept kinds is is_r spells spells_r good after after_r in
    stand-fault n μ τ ρ ss rs back rest f kept_s kinds_s more (subst (λ x. Stand x rs back ρ rest) states (subst (λ xs. Stand ν rs xs ρ rest) lefts more_r)) there

pub fault-one : (n : ℕ) (e : Option LexFault) (σ τ ρ : State) (ss rs : List SpecStatement) (ls rest left : List Lexeme) (f g : Fault) → IsKept σ → Every IsOfKind ls
    → Stand σ ss ls τ rest → IsThere n e τ rest f → Stand σ rs ls ρ left → IsThere n e ρ left g → (length ss ≡ length rs) × (f ≡ g)
fault-one n e σ τ ρ [] [] ls rest left f g kept kinds (same, all) there (too, all_r) there_r =
    (refl, there-one n e σ ls f g (subst (λ xs. IsThere n e σ xs f) all (subst (λ x. IsThere n e x rest f) same there)) (subst (λ xs. IsThere n e σ xs g) all_r (subst (λ x. IsThere n e x left g) too there_r)))
fault-one n e σ τ ρ [] (r ∷ rs) ls rest left f g kept kinds (same, all) there (front, back, _, is, spells, good, _, _) there_r =
    absurd (good-there n e σ ls front back r f is spells good (subst (λ xs. IsThere n e σ xs f) all (subst (λ x. IsThere n e x rest f) same there)))
fault-one n e σ τ ρ (s ∷ ss) [] ls rest left f g kept kinds (front, back, _, is, spells, good, _, _) there (same, all) there_r =
    absurd (good-there n e σ ls front back s g is spells good (subst (λ xs. IsThere n e σ xs g) all (subst (λ x. IsThere n e x left g) same there_r)))
fault-one n e σ τ ρ (s ∷ ss) (r ∷ rs) ls rest left f g kept kinds (front, back, μ, is, spells, good, after, more) there (other, last, ν, is_r, spells_r, good_r, after_r, more_r) there_r =
    let (kept_s, kinds_s, states, lefts) = step-one σ μ ν s r ls front back other last kept kinds is is_r spells spells_r good after after_r in
    let found = fault-one n e μ τ ρ ss rs back rest left f g kept_s kinds_s more there (subst (λ x. Stand x rs back ρ left) states (subst (λ xs. Stand ν rs xs ρ left) lefts more_r)) there_r in
    (ap suc found.0, found.1)

pub stand-kept : (σ τ : State) (ss : List SpecStatement) (ls rest : List Lexeme) → IsKept σ → Every IsOfKind ls → Stand σ ss ls τ rest → IsKept τ
stand-kept σ τ [] ls rest kept kinds (same, _) = subst IsKept (sym same) kept
stand-kept σ τ (s ∷ ss) ls rest kept kinds (front, back, μ, is, spells, good, after, more) =
    let parts = kinds-split ls front back is kinds in
    stand-kept μ τ ss back rest (kept-written σ (place_of_first front) kept s μ (front, spells, parts.0) good after) parts.1 more

-- ---- texts

pub one-reading : OneReading
one-reading text entries others (ls, ss, σ, lexes, stand, is) (ms, rs, τ, lexes_m, stand_m, is_m) =
    let same = (one-lexing text 0 ls ms None None lexes lexes_m).0 in
    is ∙ ap (λ x. entries_of x.env x.spans) (stand-one nothing σ τ ss rs ls kept-nothing (lexes-kinds text 0 ls None lexes) stand (subst (λ xs. Stand nothing rs xs τ []) (sym same) stand_m)) ∙ sym is_m

pub one-fault : OneFault
one-fault text a b (ls, e, ss, σ, rest, lexes, stand, count, there) (ms, f, rs, τ, left, lexes_m, stand_m, count_m, there_m) =
    let lexing = one-lexing text 0 ls ms e f lexes lexes_m in
    let found = fault-one (length text) e nothing σ τ ss rs ls rest left (record { at = a.at; rule = a.rule }) (record { at = b.at; rule = b.rule }) kept-nothing (lexes-kinds text 0 ls e lexes) stand there
    (subst (λ xs. Stand nothing rs xs τ left) (sym lexing.0) stand_m) (subst (λ x. IsThere (length text) x τ left (record { at = b.at; rule = b.rule })) (sym lexing.1) there_m) in
    ap (λ k. with_fault k (record { at = a.at; rule = a.rule })) (count ∙ ap (λ k. k + 1) found.0 ∙ sym count_m) ∙ ap (with_fault b.statement) found.1
  where
    with_fault : ℕ → Fault → SpecRefusal
    with_fault k f = record { statement = k; at = f.at; rule = f.rule }

pub not-both : NotBoth
not-both text entries refusal (ls, ss, σ, lexes, stand, is) (ms, f, rs, τ, left, lexes_m, stand_m, count, there) =
    let lexing = one-lexing text 0 ls ms None f lexes lexes_m in
    stand-fault (length text) nothing σ τ ss rs ls left (record { at = refusal.at; rule = refusal.rule }) kept-nothing (lexes-kinds text 0 ls None lexes) stand
    (subst (λ xs. Stand nothing rs xs τ left) (sym lexing.0) stand_m)
    (subst (λ x. IsThere (length text) x τ left (record { at = refusal.at; rule = refusal.rule })) (sym lexing.1) there)

pub declares-legally : DeclaresLegally
declares-legally text ds (entries, (ls, ss, σ, lexes, stand, is), same) =
    let kept = stand-kept nothing σ ss ls [] kept-nothing (lexes-kinds text 0 ls None lexes) stand in
    subst IsLegalEnv (sym (same ∙ ap env_of is ∙ entries-decls σ.env σ.spans kept.spans)) kept.legal
