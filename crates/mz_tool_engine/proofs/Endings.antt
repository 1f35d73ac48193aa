-- How a run ends, put together of its parts.
use Rattle.std.proofs.Common.{◌≡◌, ◌≤◌, ◌++◌, ◌∙◌, ◌⊎◌, [], ◌∷◌, ℕ, suc, List, Option, Some, None, Ok, true, false, length, refl, sym, ap, append_assoc, subst, inl, inr}
use Rattle.std.proofs.lemmas.List.{append-nil}
use Rattle.std.proofs.lemmas.Option.{none-some}
use Rattle.mz_io.specs.Calls.{Call, puts, Grows, Since, IsWritten, IsCut, Hold}
use Rattle.mz_io.proofs.Offered.{grows-both, written-both, written-none, cut-after}
use Rattle.mz_tool_engine.specs.Said.{Said, Files}
use Rattle.mz_tool_engine.specs.Given.{Gives}
use Rattle.mz_tool_engine.proofs.Given.{gives-part, read-holds}
use Rattle.mz_tool_engine.specs.Run.{AreRead, AreReadAndPut, AreReadNotPut, IsPutting, Affirms, Refuses, IsAnswer, IsRunOf}
use Rattle.mz_tool_engine.specs.Answering.{IsWritingAnswer, IsAnswering, Answers, IfLeft, IsShort}
use Rattle.mz_tool_engine.specs.Inputs.{bytes_of}
use Rattle.mz_tool_engine.specs.Outcomes.{IfYes, IfNo, OnYes, OnNo}
use Rattle.mz_tool_engine.specs.declared.outcome.Outcome.{Outcome}
use Rattle.mz_tool_engine.specs.declared.outcome.Outcome.TheVariants as outcomes
use Rattle.mz_tool_engine.specs.declared.status.Status.{Status}
use Rattle.mz_tool_engine.specs.declared.status.Status.TheVariants.{Done, Refused}

-- ---- reading and putting

-- as many files as names
pub read-count : (names contents : List (List ℕ)) (calls : List Call) → AreRead names contents calls → length contents ≡ length names
read-count [] [] calls read = refl
read-count [] (bytes ∷ rest) calls read = absurd read
read-count (name ∷ names) [] calls read = absurd read
read-count (name ∷ names) (bytes ∷ rest) calls (first, later, e, one, others) = ap (λ n. suc n) (read-count names rest later others)

puts-nothing : (name : Option (List ℕ)) → IsPutting true name None []
puts-nothing None = refl
puts-nothing (Some name) = refl

pub read-and_nothing_put : (names contents : List (List ℕ)) (name : Option (List ℕ)) (calls : List Call) → AreRead names contents calls → AreReadAndPut names contents name None calls
read-and_nothing_put names contents name calls read = (calls, [], sym (append-nil calls), read, puts-nothing name)

-- files were read, and then one was put
pub read-and_put : (old now later : List Call) (names other contents : List (List ℕ)) (name same put : Option (List ℕ)) → names ≡ other → name ≡ same →
    Grows old now (AreRead names contents) → Grows now later (IsPutting true name put) → Grows old later (AreReadAndPut other contents same put)
read-and_put old now later names other contents name same put e f reads writes =
    grows-both old now later (AreRead names contents) (IsPutting true name put) (AreReadAndPut other contents same put) reads writes
    (λ first second r p. (first, second, refl, subst (λ ns. AreRead ns contents first) e r, subst (λ n. IsPutting true n put second) f p))

not-put : (name put : Option (List ℕ)) (calls : List Call) (out bytes : List ℕ) → name ≡ Some out → put ≡ Some bytes → IsPutting false name put calls → calls ≡ puts out bytes false ∷ []
not-put name put calls out bytes e f p = subst (λ q. IsPutting false (Some out) q calls) f (subst (λ n. IsPutting false n put calls) e p)

-- files were read, and then one was to be put, which failed
pub read-not_put : (old now later : List Call) (names other contents : List (List ℕ)) (name same put : Option (List ℕ)) → names ≡ other → name ≡ same →
    (out bytes : List ℕ) → name ≡ Some out → put ≡ Some bytes →
    Grows old now (AreRead names contents) → Grows now later (IsPutting false name put) → Grows old later (AreReadNotPut other contents same put)
read-not_put old now later names other contents name same put e f out bytes is has reads writes =
    grows-both old now later (AreRead names contents) (IsPutting false name put) (AreReadNotPut other contents same put) reads writes
    (λ first second r p. (out, bytes, first, sym f ∙ is, has, ap (λ last. first ++ last) (not-put name put second out bytes is has p), subst (λ ns. AreRead ns contents first) e r))

-- ---- the rest of an answer's text

-- a text of which a prefix was written before
whole-text : (front text slice : List ℕ) (first second : List Call) → slice ≡ text → IsWritten front first → IsWritten slice second → IsWritten (front ++ text) (first ++ second)
whole-text front text slice first second same w v = written-both front text first second w (subst (λ t. IsWritten t second) same v)

cut-text : (front text slice : List ℕ) (first second : List Call) → slice ≡ text → IsWritten front first → IsCut slice second → IsCut (front ++ text) (first ++ second)
cut-text front text slice first second same w cut =
    cut-after front text (front ++ text) [] first second (sym (append-nil (front ++ text))) w (subst (λ t. IsCut t second) same cut)

module _ (limit : ℕ) (said : Said) (contents : List (List ℕ)) (front text slice : List ℕ) (same : slice ≡ text) (result : Status) (calls first second : List Call) (w : IsWritten front first) where
  pub ends-in_yes : (put : Option (List ℕ)) → Affirms said contents put (front ++ text) → said.sound contents →
      AreReadAndPut said.reads contents said.puts put calls → IsWritingAnswer Done result slice second → IsRunOf limit said result calls (first ++ second)
  ends-in_yes put affirms sound did (inl (is, v)) =
      subst (λ s. IsRunOf limit said s calls (first ++ second)) (sym is) (contents, put, front ++ text, affirms, sound, did, whole-text front text slice first second same w v)
  ends-in_yes put affirms sound did (inr (is, cut)) =
      subst (λ s. IsRunOf limit said s calls (first ++ second)) (sym is) (contents, put, front ++ text, inl affirms, did, cut-text front text slice first second same w cut)

  pub ends-in_no : Refuses said contents (front ++ text) → AreRead said.reads contents calls → IsWritingAnswer Refused result slice second → IsRunOf limit said result calls (first ++ second)
  ends-in_no refuses read (inl (is, v)) =
      subst (λ s. IsRunOf limit said s calls (first ++ second)) (sym is) (contents, front ++ text, refuses, read, whole-text front text slice first second same w v)
  ends-in_no refuses read (inr (is, cut)) =
      subst (λ s. IsRunOf limit said s calls (first ++ second)) (sym is)
      (contents, None, front ++ text, inr (refl, refuses), read-and_nothing_put said.reads contents said.puts calls read, cut-text front text slice first second same w cut)

-- what is answered over the bytes that were read fits, where all that may be answered over the files that the calls gave does
pub fits-given : (file : Files) (old now later more : List Call) (said : Said) (names contents : List (List ℕ)) (room : ℕ) → names ≡ said.reads →
    Grows old now (AreRead names contents) → later ≡ now ++ more → Since old later (Gives file) →
    ((contents : List (List ℕ)) (put : Option (List ℕ)) (text : List ℕ) → Hold file said.reads contents → IsAnswer said contents put text → length text ≤ room) →
    (put : Option (List ℕ)) (text : List ℕ) → IsAnswer said contents put text → length text ≤ room
fits-given file old now later more said names contents room e (reads, from, read) is gives fits put text answer =
    let all : later ≡ old ++ (reads ++ more) = is ∙ ap (λ front. front ++ more) from ∙ append_assoc old reads more in
    fits contents put text (subst (λ ns. Hold file ns contents) e (read-holds file names contents reads (gives-part file [] reads more (reads ++ more) refl (gives (reads ++ more) all)) read)) answer

-- ---- what a command answers

-- what holds of an outcome holds of the same one
pub answer-same : (said : Said) (contents : List (List ℕ)) (written : List Call) (o p : Outcome) → o ≡ p → IsAnswering said contents (Ok o) written → IsAnswering said contents (Ok p) written
answer-same said contents written o p e is = subst (λ (q : Outcome). IsAnswering said contents (Ok q) written) e is

pub left-same : (P : List ℕ → Type 0) (o p : Outcome) → o ≡ p → IfLeft (Ok o) P → IfLeft (Ok p) P
left-same P o p e is = subst (λ (q : Outcome). IfLeft (Ok q) P) e is

-- a command that puts wrote nothing before
pub then-quiet : (put : Option (List ℕ)) (bytes : List ℕ) (written : List Call) → put ≡ Some bytes → (put ≡ None) ⊎ (written ≡ []) → written ≡ []
then-quiet put bytes written some (inl none) = absurd (none-some bytes (sym none ∙ some))
then-quiet put bytes written some (inr quiet) = quiet

-- nothing is written before the answer
pub at_once-log : (said : Said) (contents : List (List ℕ)) (o : Outcome) → Answers said contents o → IsAnswering said contents (Ok o) []
at_once-log said contents (outcomes.Yes put text) (affirms, sound, short) = ([], written-none, inr refl, affirms, sound, short)
at_once-log said contents (outcomes.No text) refuses = ([], written-none, refuses)
at_once-log said contents outcomes.Mem none = inl refl

pub at_once-fits : (said : Said) (contents : List (List ℕ)) (o : Outcome) (room : ℕ) → Answers said contents o →
    ((put : Option (List ℕ)) (text : List ℕ) → IsAnswer said contents put text → length text ≤ room) → IfLeft (Ok o) (λ text. length text ≤ room)
at_once-fits said contents (outcomes.Yes put text) room (affirms, sound, short) fits = fits (bytes_of put) text.items (inl affirms)
at_once-fits said contents (outcomes.No text) room refuses fits = fits None text.items (inr (refl, refuses))
at_once-fits said contents outcomes.Mem room none fits = tt

-- what is answered over the bytes, part by part
answers-here : (said : Said) (read : List (List ℕ)) (o : Outcome) →
    IfYes o (λ put text. said.yes read put text) → IfNo o (λ text. said.no read text) → OnYes o (said.sound read) →
    ((put : Option (List ℕ)) (text : List ℕ) → said.yes read put text → OnNo o ⊥) → ((text : List ℕ) → said.no read text → OnYes o ⊥) →
    IfYes o (λ put text. IsShort put) → Answers said read o
answers-here said read (outcomes.Yes put text) affirmed refused proved only_yes only_no short = ((affirmed, only_no), proved, short)
answers-here said read (outcomes.No text) affirmed refused proved only_yes only_no short = (refused, only_yes)
answers-here said read outcomes.Mem affirmed refused proved only_yes only_no short = tt

pub answers-of : (said : Said) (contents read : List (List ℕ)) → contents ≡ read → (o : Outcome) →
    IfYes o (λ put text. said.yes read put text) → IfNo o (λ text. said.no read text) → OnYes o (said.sound read) →
    ((put : Option (List ℕ)) (text : List ℕ) → said.yes read put text → OnNo o ⊥) → ((text : List ℕ) → said.no read text → OnYes o ⊥) →
    IfYes o (λ put text. IsShort put) → Answers said contents o
answers-of said contents read e o affirmed refused proved only_yes only_no short =
    subst (λ xs. Answers said xs o) (sym e) (answers-here said read o affirmed refused proved only_yes only_no short)

-- where nothing is put, it is short
pub none-short : (P : List ℕ → Type 0) (o : Outcome) → IfYes o (λ put text. (put ≡ None) × P text) → IfYes o (λ put text. IsShort put)
none-short P (outcomes.Yes put text) (none, is) = λ bytes some. absurd (none-some bytes (sym none ∙ some))
none-short P (outcomes.No text) is = tt
none-short P outcomes.Mem is = tt
