-- From a place of a text on, at most one answer is right.
use Rattle.std.proofs.Common.{◌≡◌, ◌∙◌, ◌+◌, ◌≤◌, ◌⊎◌, ℕ, suc, List, [], ◌∷◌, length, None, ap, sym, refl, subst, arith, inl, inr}
use Rattle.std.proofs.lemmas.List.{append-nil}
use Rattle.mz_lex.specs.Lexemes.{Lexeme, LexemesTo}
use Rattle.mz_lex.specs.Laws.{GoesOn}
use Rattle.mz_lex.proofs.Offered.{begun, comparable, some-lexing, blank-forward}
use Rattle.mz_spec_theory.specs.StatementCode.{statement}
use Rattle.mz_spec_theory.specs.Statement.{SpecStatement, Sign, AreSigns, Spells, statement_signs}
use Rattle.mz_spec_theory.specs.Stops.{Stops, StopsBy}
use Rattle.mz_spec_theory.specs.Reading.{place_of_first}
use Rattle.mz_spec_theory.specs.GrammarLaws.{OneRead, OneFault, ReadOrFault, ReadOrBlank, FaultOrBlank, TakesBytes}
use Rattle.mz_spec_theory.proofs.Grammar.{statements-one, no-empty}
use Rattle.mz_spec_theory.proofs.Stopping.{front-none, back-none, stops-one, stands-stops}

-- where one of two fronts goes on to the other they are the same
same-front : (text : List ℕ) (s r : SpecStatement) (front other : List Lexeme) (a b : ℕ) → Spells s front → Spells r other → GoesOn text front a other b
    → (s ≡ r) × (front ≡ other) × (b ≡ a)
same-front text s r front other a b spells spells_r (rest, is, more) =
    let same = statements-one s r front rest other [] spells spells_r (sym is ∙ sym (append-nil other)) in
    (same.0, same.1, subst (λ xs. LexemesTo text a xs b) same.2 more)

pub one-read : OneRead
one-read text from a b (front, lexes, spells, begins) (other, lexes_b, spells_b, begins_b) = go (comparable text from a.end b.end front other lexes lexes_b)
  where
    go : GoesOn text front a.end other b.end ⊎ GoesOn text other b.end front a.end → (statement a.statement ≡ statement b.statement) × (a.place ≡ b.place) × (a.end ≡ b.end)
    go (inl on) =
        let same = same-front text (statement a.statement) (statement b.statement) front other a.end b.end spells spells_b on in
        (same.0, sym begins ∙ ap place_of_first same.1 ∙ begins_b, sym same.2)
    go (inr on) =
        let same = same-front text (statement b.statement) (statement a.statement) other front b.end a.end spells_b spells on in
        (sym same.0, sym begins ∙ ap place_of_first (sym same.1) ∙ begins_b, same.2)

pub one-fault : OneFault
one-fault text from f g within stops stops_g =
    let lexing = some-lexing text from within in
    stops-one (length text) lexing.0 lexing.1 f g (stops lexing.0 lexing.1 lexing.2) (stops_g lexing.0 lexing.1 lexing.2)

pub read-or-fault : ReadOrFault
read-or-fault text from read fault within (front, lexes, spells, _) stops =
    let lexing = some-lexing text from within in
    let rest = begun text from read.end front lexing.0 lexing.1 lexes lexing.2 in
    stands-stops (length text) (statement read.statement) front rest.0 lexing.0 lexing.1 fault rest.1 spells (stops lexing.0 lexing.1 lexing.2)

pub read-or-blank : ReadOrBlank
read-or-blank text from read (front, lexes, spells, _) blank =
    let rest = begun text from read.end front [] None lexes blank in
    no-empty (statement read.statement) (subst (Spells (statement read.statement)) (front-none front rest.0 rest.1) spells)

pub fault-or-blank : FaultOrBlank
fault-or-blank text from fault stops blank = go (stops [] None blank)
  where
    go : Stops (length text) [] None fault → ⊥
    go (before, rest, is, _, _, by) =
        subst (λ xs. StopsBy (length text) xs [] None fault) (front-none before rest is) (subst (λ xs. StopsBy (length text) before xs None fault) (back-none before rest is) by)

-- ---- how much of the text a statement takes

pub lexemes-long : (text : List ℕ) (from to : ℕ) (ls : List Lexeme) → LexemesTo text from ls to → from + length ls ≤ to
lexemes-long text from to [] lexes = omega (arith, lexes)
lexemes-long text from to (l ∷ ls) (is, lexes) = omega (arith, lexemes-long text l.to to ls lexes, is.some, blank-forward text from l.from is.blank)

pub signs-long : (ss : List Sign) (ls : List Lexeme) → AreSigns ss ls → length ls ≡ length ss
signs-long [] [] are = refl
signs-long [] (l ∷ ls) are = absurd are
signs-long (s ∷ ss) [] are = absurd are
signs-long (s ∷ ss) (l ∷ ls) (is, are) = ap suc (signs-long ss ls are)

pub takes-bytes : TakesBytes
takes-bytes text from read (front, lexes, spells, _) = omega (arith, lexemes-long text from read.end front lexes, signs-long (statement_signs (statement read.statement)) front spells)
