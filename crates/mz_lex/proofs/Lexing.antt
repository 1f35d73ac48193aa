-- The list of all lexemes of a text, and its first ones.
use Rattle.std.proofs.Common.{◌≡◌, ◌<◌, ◌≤◌, ◌+◌, ◌-◌, ◌∙◌, ◌⊎◌, ◌∷◌, [], ℕ, zero, suc, List, length, arith, ap, ap₂, sym, refl, inl, inr, subst, Ok, Err, Option, Some, None}
use Rattle.mz_lex.specs.RuleText.{place_of}
use Rattle.mz_lex.specs.Lexemes.{Answer, ComesNext, EndsBy, GoesAfter, IsBadByte, IsFirstOf, IsLexFault, IsNext, Lexeme, LexemesTo, LexesFrom, lexeme}
use Rattle.mz_lex.specs.Laws.{AtMostOneNext, AtMostOneLexeme, SpansInOrder, AtMostOneLexing, AlwaysALexing, OneMore, Completed, Ended, Begun, Parted, GoesOn, Comparable}
use Rattle.mz_lex.specs.declared.token.LexFault.{LexFault}
use Rattle.mz_lex.specs.declared.token.LexFault.TheVariants as faults
use Rattle.mz_lex.specs.declared.token.TokenKind.{TokenKind}
use Rattle.mz_lex.specs.declared.token.Token.{Token}
use Rattle.mz_lex.proofs.Blanks.{blank-forward}
use Rattle.mz_lex.proofs.OneAnswer.{bad-none, bad-same, end-bad, end-none, next-bad, next-none, none-same}
use Rattle.mz_lex.proofs.OneKind.{next-kind}
use Rattle.mz_lex.proofs.OneLexeme.{blank-end, next-from, next-text, next-to}
use Rattle.mz_lex.proofs.SomeNext.{some-next}

-- ---- what comes next is one

make : TokenKind → List ℕ → ℕ → ℕ → Lexeme
make kind text from to = record { kind = kind; text = text; from = from; to = to }

pub one-lexeme : AtMostOneLexeme
unfolding make
one-lexeme text from l m first second =
    ap (λ k. make k l.text l.from l.to) (next-kind text from l m first second)
    ∙ ap (λ x. make m.kind x l.from l.to) (first.spelled ∙ next-text text from l m first second ∙ sym second.spelled)
    ∙ ap (λ i. make m.kind m.text i l.to) (next-from text from l m first second)
    ∙ ap (make m.kind m.text m.from) (next-to text from l m first second)

abbrev token_of : Lexeme → Token
token_of l = record { kind = l.kind; from = l.from; to = l.to }

one-fault : (text : List ℕ) (from : ℕ) (f g : LexFault) → IsLexFault text from f → IsLexFault text from g → f ≡ g
one-fault text from (faults.Char q) (faults.Char p) a b = ap (λ i. faults.Char i) (bad-same text from q p a b)
one-fault text from (faults.Char q) (faults.Token p) a b = absurd (bad-none text from q p a b)
one-fault text from (faults.Token q) (faults.Char p) a b = absurd (bad-none text from p q b a)
one-fault text from (faults.Token q) (faults.Token p) a b = ap (λ i. faults.Token i) (none-same text from q p a b)

next-no_fault : (text : List ℕ) (from : ℕ) (l : Lexeme) (f : LexFault) → IsNext text from l → IsLexFault text from f → ⊥
next-no_fault text from l (faults.Char q) next fault = next-bad text from q l next fault
next-no_fault text from l (faults.Token q) next fault = next-none text from q l next fault

end-no_fault : (text : List ℕ) (from : ℕ) (f : LexFault) → EndsBy text from None → IsLexFault text from f → ⊥
end-no_fault text from (faults.Char q) end fault = end-bad text from q end fault
end-no_fault text from (faults.Token q) end fault = end-none text from q end fault

next-no_ending : (text : List ℕ) (from : ℕ) (l : Lexeme) (e : Option LexFault) → IsNext text from l → EndsBy text from e → ⊥
next-no_ending text from l None next end = blank-end text from l end next
next-no_ending text from l (Some f) next fault = next-no_fault text from l f next fault

one-ending : (text : List ℕ) (from : ℕ) (e f : Option LexFault) → EndsBy text from e → EndsBy text from f → e ≡ f
one-ending text from None None a b = refl
one-ending text from None (Some g) a b = absurd (end-no_fault text from g a b)
one-ending text from (Some f) None a b = absurd (end-no_fault text from f b a)
one-ending text from (Some f) (Some g) a b = ap Some (one-fault text from f g a b)

pub one-next : AtMostOneNext
one-next text from (Ok (Some t)) (Ok (Some u)) a b = ap (λ l. Ok (Some (token_of l))) (one-lexeme text from (lexeme text t) (lexeme text u) a b)
one-next text from (Ok (Some t)) (Ok None) a b = absurd (next-no_ending text from (lexeme text t) None a b)
one-next text from (Ok (Some t)) (Err g) a b = absurd (next-no_fault text from (lexeme text t) g a b)
one-next text from (Ok None) (Ok (Some u)) a b = absurd (next-no_ending text from (lexeme text u) None b a)
one-next text from (Ok None) (Ok None) a b = refl
one-next text from (Ok None) (Err g) a b = absurd (end-no_fault text from g a b)
one-next text from (Err f) (Ok (Some u)) a b = absurd (next-no_fault text from (lexeme text u) f b a)
one-next text from (Err f) (Ok None) a b = absurd (end-no_fault text from f b a)
one-next text from (Err f) (Err g) a b = ap Err (one-fault text from f g a b)

pub spans-in-order : SpansInOrder
spans-in-order text from l next = (blank-forward text from l.from next.blank, next.some, next.within)

bad-forward : (text : List ℕ) (start at : ℕ) → IsBadByte text start at → start ≤ at
bad-forward text start at bad =
    elim bad.reached [
      | inl same ↦ omega (arith, same)
      | inr other ↦ elim other [ inl comment ↦ (let longer = comment.longer in omega arith) | inr math ↦ (let longer = math.longer in omega arith) ]
    ]

-- a fault stands behind the place from which it is met, within the text
pub fault-place : (text : List ℕ) (from : ℕ) (f : LexFault) → IsLexFault text from f → (from ≤ place_of f) × (place_of f < length text)
fault-place text from (faults.Char at) (start, blank, bad) = (let near = blank-forward text from start blank in let far = bad-forward text start at bad in omega arith, bad.within)
fault-place text from (faults.Token at) fault = (blank-forward text from at fault.blank, fault.within)

-- ---- all lexemes

along : (text : List ℕ) (l m : Lexeme) (ls : List Lexeme) (e : Option LexFault) → l ≡ m → LexesFrom text m.to ls e → LexesFrom text l.to ls e
along text l m ls e same rest = let P : Lexeme → Type 0 = λ k. LexesFrom text k.to ls e in subst P (sym same) rest

pub one-lexing : AtMostOneLexing
one-lexing text from [] [] e f a b = (refl, one-ending text from e f a b)
one-lexing text from [] (m ∷ ms) e f a b = absurd (next-no_ending text from m e b.0 a)
one-lexing text from (l ∷ ls) [] e f a b = absurd (next-no_ending text from l f a.0 b)
one-lexing text from (l ∷ ls) (m ∷ ms) e f a b =
    let same : l ≡ m = one-lexeme text from l m a.0 b.0 in
    let rest = one-lexing text l.to ls ms e f a.1 (along text l m ms f same b.1) in
    (ap₂ ◌∷◌ same rest.0, rest.1)

abbrev Lexing : List ℕ → ℕ → Type 0
Lexing text from = (ls : List Lexeme) × (e : Option LexFault) × LexesFrom text from ls e

lexes-by : (text : List ℕ) (from : ℕ) → ((t : Token) → IsNext text from (lexeme text t) → Lexing text t.to) → (a : Answer) → ComesNext text from a → Lexing text from
lexes-by text from further (Err f) fault = ([], Some f, fault)
lexes-by text from further (Ok None) end = ([], None, end)
lexes-by text from further (Ok (Some t)) next = let rest = further t next in (lexeme text t ∷ rest.0, rest.1, (next, rest.2))

lexes-within : (n : ℕ) (text : List ℕ) (from : ℕ) → length text ≤ from + n → from ≤ length text → Lexing text from
lexes-within zero text from near le =
    lexes-by text from (λ t next. let span = spans-in-order text from (lexeme text t) next in absurd (omega (arith, span.0, span.1, span.2))) (some-next text from le).0 (some-next text from le).1
lexes-within (suc n) text from near le =
    lexes-by text from (λ t next. let span = spans-in-order text from (lexeme text t) next in lexes-within n text t.to (omega (arith, span.0, span.1, span.2)) span.2)
    (some-next text from le).0 (some-next text from le).1

pub some-lexing : AlwaysALexing
some-lexing text from le = lexes-within (length text - from) text from (omega arith) le

-- ---- first lexemes

pub one-more : OneMore
one-more text from at [] l first next = let P : ℕ → Type 0 = λ i. IsNext text i l in (subst P first next, refl)
one-more text from at (k ∷ ks) l first next = (first.0, one-more text k.to at ks l first.1 next)

pub completed : Completed
completed text from at [] ms e first rest = let P : ℕ → Type 0 = λ i. LexesFrom text i ms e in subst P first rest
completed text from at (l ∷ ls) ms e first rest = (first.0, completed text l.to at ls ms e first.1 rest)

pub ended : Ended
ended text from at [] e first end = let P : ℕ → Type 0 = λ i. EndsBy text i e in subst P first end
ended text from at (l ∷ ls) e first end = (first.0, ended text l.to at ls e first.1 end)

pub begun : Begun
begun text from at [] all e first whole = let P : ℕ → Type 0 = λ i. LexesFrom text i all e in (all, refl, subst P (sym first) whole)
begun text from at (l ∷ ls) [] e first whole = absurd (next-no_ending text from l e first.0 whole)
begun text from at (l ∷ ls) (m ∷ ms) e first whole =
    let same : l ≡ m = one-lexeme text from l m first.0 whole.0 in
    let rest = begun text l.to at ls ms e first.1 (along text l m ms e same whole.1) in
    (rest.0, ap₂ ◌∷◌ (sym same) rest.1, rest.2)

pub parted : Parted
parted text from [] ms e whole = (from, refl, whole)
parted text from (l ∷ ls) ms e whole = let rest = parted text l.to ls ms e whole.1 in (rest.0, (whole.0, rest.1), rest.2)

pub comparable : Comparable
comparable text from a b [] ms first second = let P : ℕ → Type 0 = λ i. LexemesTo text i ms b in inl (ms, refl, subst P (sym first) second)
comparable text from a b (l ∷ ls) [] first second = let P : ℕ → Type 0 = λ i. LexemesTo text i (l ∷ ls) a in inr (l ∷ ls, refl, subst P (sym second) first)
comparable text from a b (l ∷ ls) (m ∷ ms) first second =
    go (comparable text l.to a b ls ms first.1 (let P : Lexeme → Type 0 = λ k. LexemesTo text k.to ms b in subst P (sym same) second.1))
  where
    same : l ≡ m
    same = one-lexeme text from l m first.0 second.0

    go : GoesOn text ls a ms b ⊎ GoesOn text ms b ls a → GoesOn text (l ∷ ls) a (m ∷ ms) b ⊎ GoesOn text (m ∷ ms) b (l ∷ ls) a
    go (inl (rest, is, lexes)) = inl (rest, ap₂ ◌∷◌ (sym same) is, lexes)
    go (inr (rest, is, lexes)) = inr (rest, ap₂ ◌∷◌ same is, lexes)

-- ---- the answer, after what was read and before what is left

pub goes-after : (text : List ℕ) (from at : ℕ) (ls : List Lexeme) (a : Answer) → ComesNext text at a → LexemesTo text from ls at → GoesAfter text from ls a
goes-after text from at ls (Ok (Some t)) next first = one-more text from at ls (lexeme text t) first next
goes-after text from at ls (Ok None) end first = ended text from at ls None first end
goes-after text from at ls (Err f) fault first = ended text from at ls (Some f) first fault

pub first-of : (text : List ℕ) (from : ℕ) (ls : List Lexeme) (e : Option LexFault) (a : Answer) → ComesNext text from a → LexesFrom text from ls e → IsFirstOf text ls e a
first-of text from [] e (Ok (Some t)) next end = absurd (next-no_ending text from (lexeme text t) e next end)
first-of text from [] e (Ok None) none end = (refl, one-ending text from e None end none)
first-of text from [] e (Err f) fault end = (refl, one-ending text from e (Some f) end fault)
first-of text from (l ∷ ls) e (Ok (Some t)) next whole =
    let same : l ≡ lexeme text t = one-lexeme text from l (lexeme text t) whole.0 next in
    (ls, ap (λ k. k ∷ ls) same, along text (lexeme text t) l ls e (sym same) whole.1)
first-of text from (l ∷ ls) e (Ok None) none whole = absurd (next-no_ending text from l None whole.0 none)
first-of text from (l ∷ ls) e (Err f) fault whole = absurd (next-no_fault text from l f whole.0 fault)
