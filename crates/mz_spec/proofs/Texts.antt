-- Reading a text statement by statement.
use Rattle.std.proofs.Common.{◌≡◌, ◌∙◌, ◌++◌, ◌<◌, ◌+◌, ◌-◌, ◌≤◌, ◌^◌, ℕ, zero, suc, List, [], ◌∷◌, length, None, take, drop, ap, sym, refl, subst, inl, inr, append_assoc, arith, length-append}
use Rattle.std.proofs.lemmas.List.{append-nil}
use Rattle.std.specs.Prelude.{slice_range, IsTrue, codes}
use Rattle.mz_lex.specs.Kinds.{is_of_kind}
use Rattle.mz_lex.specs.Lexemes.{Lexeme, IsBlank, IsNext, LexemesTo}
use Rattle.mz_lex.proofs.Offered.{ended, begun, some-lexing, blank-forward}
use Rattle.mz_spec_theory.specs.declared.refusal.Fault.{Fault}
use Rattle.mz_spec_theory.specs.declared.refusal.Halt.{Halt}
use Rattle.mz_spec_theory.specs.declared.refusal.Halt.TheVariants as halts
use Rattle.mz_spec_theory.specs.declared.read.StatementRead.{StatementRead}
use Rattle.mz_spec_theory.specs.StatementCode.{statement}
use Rattle.mz_spec_theory.specs.Statement.{SpecStatement, sort_statement, term_statement, assert_statement, definition_statement, operator_statement, coercion_statement, delimiter_statement, notation_statement, keyword, name, end_signs, modifier_signs, statement_signs, Spells}
use Rattle.mz_spec_theory.specs.Reading.{place_of_first, IsRead, StopsFrom, OnFault}
use Rattle.mz_spec.specs.Answers.{IsAnswer, halted}
use Rattle.mz_spec_theory.specs.SpecCode.{EndsSmall}
use Rattle.mz_spec_theory.specs.Kept.{AreOfText, IsSpelled, bytes_of}
use Rattle.mz_spec_theory.specs.State.{State, nothing, entries_of, span_at}
use Rattle.mz_spec_theory.specs.View.{view}
use Rattle.mz_spec_theory.specs.Declaring.{After}
use Rattle.mz_spec_theory.specs.Spec.{Stand, SpecMakes, SpecFault, IsGood, Fails}
use Rattle.mz_spec.specs.Reading.{StandTo}
use Rattle.mz_base.specs.Checks.{AllHold, FailsFirst}
use Rattle.mz_lex.specs.declared.tokens.MathToken.{MathToken}
use Rattle.mz_spec_theory.proofs.Offered.{lexemes-long, signs-long, formulas-tokens}
use Rattle.mz_spec_theory.specs.Formulas.{AreTokens}
use Rattle.mz_spec_theory.specs.Rules.{statement_checks}

lexemes-append : (text : List ℕ) (from at to : ℕ) (ls ms : List Lexeme) → LexemesTo text from ls at → LexemesTo text at ms to → LexemesTo text from (ls ++ ms) to
lexemes-append text from at to [] ms first second = subst (λ i. LexemesTo text i ms to) first second
lexemes-append text from at to (l ∷ ls) ms (is, first) second = (is, lexemes-append text l.to at to ls ms first second)

-- further lexemes behind good statements
pub stand-rest : (σ τ : State) (ss : List SpecStatement) (ls rest : List Lexeme) → Stand σ ss ls τ [] → Stand σ ss (ls ++ rest) τ rest
stand-rest σ τ [] ls rest (same, none) = (same, ap (λ xs. xs ++ rest) none)
stand-rest σ τ (s ∷ ss) ls rest (front, back, ρ, is, spells, good, after, more) =
    (front, back ++ rest, ρ, ap (λ xs. xs ++ rest) is ∙ append_assoc front back rest, spells, good, after, stand-rest ρ τ ss back rest more)

-- one more good statement
pub stand-more : (σ τ υ : State) (ss : List SpecStatement) (ls front : List Lexeme) (s : SpecStatement) → Stand σ ss ls τ [] → Spells s front → IsGood τ (place_of_first front) s → After τ (place_of_first front) s υ
    → Stand σ (ss ++ s ∷ []) (ls ++ front) υ []
stand-more σ τ υ [] ls front s (same, none) spells good after = (
  front,
  [],
  υ,
  ap (λ xs. xs ++ front) (sym none) ∙ sym (append-nil front),
  spells,
  subst (λ x. IsGood x (place_of_first front) s) same good,
  subst (λ x. After x (place_of_first front) s υ) same after,
  (refl, refl),
)
stand-more σ τ υ (r ∷ rs) ls front s (first, back, ρ, is, spells_r, good_r, after_r, more) spells good after =
    (first, back ++ front, ρ, ap (λ xs. xs ++ front) is ∙ append_assoc first back front, spells_r, good_r, after_r, stand-more ρ τ υ rs back front s more spells good after)

pub stand-begins : (text : List ℕ) → StandTo text 0 0 nothing
stand-begins text = ([], [], refl, (refl, refl), refl)

-- a statement that passes its rules is good
pub judged-good : (σ : State) (place : ℕ) (s : SpecStatement) → ((tokens : List (List MathToken)) → AreTokens σ (view s).formulas tokens → AllHold (statement_checks σ place s tokens)) → IsGood σ place s
judged-good σ place s judged = let tokens = formulas-tokens σ (view s).formulas in (tokens.0, tokens.1, judged tokens.0 tokens.1)

pub judged-fails : (σ : State) (place : ℕ) (s : SpecStatement) (fault : Fault) → ((tokens : List (List MathToken)) → AreTokens σ (view s).formulas tokens → FailsFirst (statement_checks σ place s tokens) fault) → Fails σ place s fault
judged-fails σ place s fault judged = let tokens = formulas-tokens σ (view s).formulas in (tokens.0, tokens.1, judged tokens.0 tokens.1)

pub stand-next : (text : List ℕ) (count at : ℕ) (σ τ : State) (read : StatementRead) → StandTo text count at σ → IsRead text at read
    → IsGood σ read.place (statement read.statement) → After σ read.place (statement read.statement) τ → StandTo text (count + 1) read.end τ
stand-next text count at σ τ read (ls, ss, lexes, stand, many) (front, lexes_f, spells, begins) good makes = (
  ls ++ front,
  ss ++ statement read.statement ∷ [],
  lexemes-append text 0 at read.end ls front lexes lexes_f,
  stand-more nothing σ τ ss ls front (statement read.statement) stand spells (subst (λ i. IsGood σ i (statement read.statement)) (sym begins) good)
      (subst (λ i. After σ i (statement read.statement) τ) (sym begins) makes),
  length-append ss (statement read.statement ∷ []) ∙ ap (λ n. n + 1) many,
)

pub spec-made : (text : List ℕ) (count at : ℕ) (σ : State) → StandTo text count at σ → IsBlank text at (length text) → SpecMakes text (entries_of σ.env σ.spans)
spec-made text count at σ (ls, ss, lexes, stand, many) end = (ls, ss, σ, ended text 0 at ls None lexes end, stand, refl)

pub spec-stops : (text : List ℕ) (count at : ℕ) (σ : State) (fault : Fault) → StandTo text count at σ → StopsFrom text at fault
    → SpecFault text (record { statement = count + 1; at = fault.at; rule = fault.rule })
spec-stops text count at σ fault (ls, ss, lexes, stand, many) stops =
    let lexing = some-lexing text 0 (omega arith) in
    let rest = begun text 0 at ls lexing.0 lexing.1 lexes lexing.2 in (
      lexing.0,
      lexing.1,
      ss,
      σ,
      rest.0,
      lexing.2,
      subst (λ xs. Stand nothing ss xs σ rest.0) (sym rest.1) (stand-rest nothing σ ss ls rest.0 stand),
      ap (λ n. n + 1) (sym many),
      inl (stops rest.0 lexing.1 rest.2),
    )

pub spec-breaks : (text : List ℕ) (count at : ℕ) (σ : State) (read : StatementRead) (fault : Fault) → StandTo text count at σ → IsRead text at read
    → Fails σ read.place (statement read.statement) fault → SpecFault text (record { statement = count + 1; at = fault.at; rule = fault.rule })
spec-breaks text count at σ read fault (ls, ss, lexes, stand, many) (front, lexes_f, spells, begins) fails =
    let lexing = some-lexing text 0 (omega arith) in
    let rest = begun text 0 read.end (ls ++ front) lexing.0 lexing.1 (lexemes-append text 0 at read.end ls front lexes lexes_f) lexing.2 in (
      lexing.0,
      lexing.1,
      ss,
      σ,
      front ++ rest.0,
      lexing.2,
      subst (λ xs. Stand nothing ss xs σ (front ++ rest.0)) (sym (rest.1 ∙ append_assoc ls front rest.0)) (stand-rest nothing σ ss ls (front ++ rest.0) stand),
      ap (λ n. n + 1) (sym many),
      inr (statement read.statement, front, rest.0, refl, spells, subst (λ i. Fails σ i (statement read.statement) fault) (sym begins) fails),
    )

-- ---- the lexemes of a statement

range-length : (text : List ℕ) (from to : ℕ) → from < to → to ≤ length text → length (slice_range text from to) ≡ to - from
range-length text from to some within = taken (to - from) (drop from text) (let long = drop-length from text in omega (arith, some, within, long))
  where
    drop-length : (n : ℕ) (xs : List ℕ) → length xs ≤ n + length (drop n xs)
    drop-length zero xs = omega arith
    drop-length (suc n) [] = omega arith
    drop-length (suc n) (x ∷ xs) = let e = drop-length n xs in omega (arith, e)

    taken : (n : ℕ) (xs : List ℕ) → n ≤ length xs → length (take n xs) ≡ n
    taken zero xs le = refl
    taken (suc n) [] le = absurd (omega (arith, le))
    taken (suc n) (x ∷ xs) le = ap suc (taken n xs (omega (arith, le)))

-- lexemes stand one behind the other, so that together they have no more bytes than stand there
bytes-long : (text : List ℕ) (from to : ℕ) (ls : List Lexeme) → LexemesTo text from ls to → from + bytes_of ls ≤ to
bytes-long text from to [] lexes = omega (arith, lexes)
bytes-long text from to (l ∷ ls) (is, lexes) =
    let long = ap length is.spelled ∙ range-length text l.from l.to is.some is.within in
    omega (arith, bytes-long text l.to to ls lexes, long, is.some, blank-forward text from l.from is.blank)

next-of_text : (text : List ℕ) (from : ℕ) (l : Lexeme) → length text < 2 ^ 32 → IsNext text from l → IsTrue (is_of_kind l.kind l.text) × EndsSmall l
next-of_text text from l small is =
    let long = ap length is.spelled ∙ range-length text l.from l.to is.some is.within in
    let some = is.some in let within = is.within in
    (subst (λ t. IsTrue (is_of_kind l.kind t)) (sym is.spelled) is.kind, (omega (arith, long, some), omega (arith, long, some, within, small)))

of_text : (text : List ℕ) (from to : ℕ) (ls : List Lexeme) → length text < 2 ^ 32 → LexemesTo text from ls to → AreOfText ls
of_text text from to [] small lexes = tt
of_text text from to (l ∷ ls) small (is, lexes) = let here = next-of_text text from l small is in (here.0, here.1, of_text text l.to to ls small lexes)

pub read-spelled : (text : List ℕ) (from : ℕ) (read : StatementRead) → length text < 2 ^ 32 → read.end ≤ length text → IsRead text from read → IsSpelled (statement read.statement)
read-spelled text from read small within (front, lexes, spells, _) =
    (front, spells, of_text text from read.end front small lexes, let long = bytes-long text from read.end front lexes in omega (arith, long, within, small))

-- a statement has two lexemes at least
signs-two : (s : SpecStatement) → 2 ≤ length (statement_signs s)
signs-two (sort_statement m n) = omega (arith, length-append (modifier_signs m) (keyword (codes "sort") ∷ name n ∷ end_signs))
signs-two (term_statement h ts t) = omega arith
signs-two (assert_statement k h ps c) = omega arith
signs-two (definition_statement h t b) = omega arith
signs-two (operator_statement f n c l) = omega arith
signs-two (coercion_statement n from to) = omega arith
signs-two (delimiter_statement left right) = omega arith
signs-two (notation_statement h t ls l tail) = omega arith

pub read-two : (text : List ℕ) (from : ℕ) (read : StatementRead) → IsRead text from read → from + 2 ≤ read.end
read-two text from read (front, lexes, spells, _) =
    let s = statement read.statement in
    omega (arith, lexemes-long text from read.end front lexes, signs-long (statement_signs s) front spells, signs-two s)

-- a statement adds one span at most
pub after-spans : (σ : State) (place : ℕ) (s : SpecStatement) (τ : State) → After σ place s τ → length τ.spans ≤ length σ.spans + 1
after-spans σ place (sort_statement m n) τ (d, is, same) = let e = ap (λ x. length x.spans) same in omega (arith, e, length-append σ.spans (span_at place n ∷ []))
after-spans σ place (term_statement h ts t) τ (d, is, same) = let e = ap (λ x. length x.spans) same in omega (arith, e, length-append σ.spans (span_at place h.name ∷ []))
after-spans σ place (assert_statement k h ps c) τ (d, is, same) = let e = ap (λ x. length x.spans) same in omega (arith, e, length-append σ.spans (span_at place h.name ∷ []))
after-spans σ place (definition_statement h t b) τ (d, is, same) = let e = ap (λ x. length x.spans) same in omega (arith, e, length-append σ.spans (span_at place h.name ∷ []))
after-spans σ place (operator_statement f n c l) τ (u, is, same) = let e = ap (λ x. length x.spans) same in omega (arith, e)
after-spans σ place (coercion_statement n from to) τ (u, is, same) = let e = ap (λ x. length x.spans) same in omega (arith, e)
after-spans σ place (delimiter_statement left right) τ (u, is, same) = let e = ap (λ x. length x.spans) same in omega (arith, e)
after-spans σ place (notation_statement h t ls l tail) τ (u, is, same) = let e = ap (λ x. length x.spans) same in omega (arith, e)

-- ---- what comes of a fault of a statement, or of running out of memory

pub halt-stops : (text : List ℕ) (count at : ℕ) (σ : State) (halt : Halt) → StandTo text count at σ → OnFault halt (StopsFrom text at) → IsAnswer text (halted (count + 1) halt)
halt-stops text count at σ (halts.Fault fault) stand stops = spec-stops text count at σ fault stand stops
halt-stops text count at σ halts.Mem stand stops = tt

pub halt-breaks : (text : List ℕ) (count at : ℕ) (σ : State) (read : StatementRead) (halt : Halt) → StandTo text count at σ → IsRead text at read
    → ((tokens : List (List MathToken)) → AreTokens σ (view (statement read.statement)).formulas tokens → OnFault halt (FailsFirst (statement_checks σ read.place (statement read.statement) tokens)))
    → IsAnswer text (halted (count + 1) halt)
halt-breaks text count at σ read (halts.Fault fault) stand is fails =
    spec-breaks text count at σ read fault stand is (judged-fails σ read.place (statement read.statement) fault fails)
halt-breaks text count at σ read halts.Mem stand is fails = tt
