-- What a folder that tells its files, and a sink that tells what was written, say of the calls on them.
use Rattle.std.proofs.Common.{◌≡◌, ◌≤◌, ◌<◌, ◌++◌, ◌∙◌, ◌⊎◌, [], ◌∷◌, ℕ, Bool, true, false, List, Option, Some, None, Result, Ok, Err, OnOk, is_ok, refl, sym, ap, subst, inl, inr, append_assoc, length, arith}
use Rattle.std.specs.Prelude.{⊤}
use Rattle.std.proofs.lemmas.List.{append-nil, append_cancel_left}
use Rattle.mz_io.specs.Calls.{Call, starts, pulls, pull_fails, puts, writes, write_fails, pulls_of, bytes_of, taken, Grows, Since, AreAnswered, IsBegun, IsRead}
use Rattle.mz_io.specs.Outside.{SameFiles, SameOthers}
use Rattle.mz_io.specs.Read.{IsLonger}
use Rattle.mz_io.proofs.Offered.{taken-append}
use Rattle.mz_tool_engine.specs.Said.{Files}
use Rattle.mz_tool_engine.specs.Given.{Gives, Leaves, Tells, puts_among}
use Rattle.mz_tool_engine.specs.Run.{IsPutting}
use Rattle.mz_tool_engine.proofs.Among.{puts-append}

-- ---- calls that are answered from files, and puts behind them

abbrev OnlyPuts : List Call → Type 0
OnlyPuts [] = ⊤
OnlyPuts (puts name bytes done ∷ calls) = OnlyPuts calls
OnlyPuts (starts name done ∷ calls) = ⊥
OnlyPuts (pulls asked bytes ∷ calls) = ⊥
OnlyPuts (pull_fails ∷ calls) = ⊥
OnlyPuts (writes bytes ∷ calls) = ⊥
OnlyPuts (write_fails piece ∷ calls) = ⊥

-- as AreAnswered, up to a put
abbrev Answers : Files → List ℕ → List Call → Type 0
Answers file left [] = ⊤
Answers file left (starts name true ∷ calls) = (bytes : List ℕ) × (file name ≡ Some bytes) × Answers file bytes calls
Answers file left (starts name false ∷ calls) = Answers file [] calls
Answers file left (pulls asked bytes ∷ calls) = (rest : List ℕ) × (left ≡ bytes ++ rest) × (bytes ≡ [] → 0 < asked → rest ≡ []) × Answers file rest calls
Answers file left (pull_fails ∷ calls) = Answers file [] calls
Answers file left (puts name bytes done ∷ calls) = OnlyPuts calls
Answers file left (writes bytes ∷ calls) = ⊥
Answers file left (write_fails piece ∷ calls) = ⊥

only-rest : (before rest : List Call) → OnlyPuts (before ++ rest) → OnlyPuts rest
only-rest [] rest only = only
only-rest (puts name bytes done ∷ before) rest only = only-rest before rest only
only-rest (starts name done ∷ before) rest only = absurd only
only-rest (pulls asked bytes ∷ before) rest only = absurd only
only-rest (pull_fails ∷ before) rest only = absurd only
only-rest (writes bytes ∷ before) rest only = absurd only
only-rest (write_fails piece ∷ before) rest only = absurd only

module _ (file : Files) where
  only-answers : (left : List ℕ) (calls : List Call) → OnlyPuts calls → Answers file left calls
  only-answers left [] only = tt
  only-answers left (puts name bytes done ∷ calls) only = only
  only-answers left (starts name done ∷ calls) only = absurd only
  only-answers left (pulls asked bytes ∷ calls) only = absurd only
  only-answers left (pull_fails ∷ calls) only = absurd only
  only-answers left (writes bytes ∷ calls) only = absurd only
  only-answers left (write_fails piece ∷ calls) only = absurd only

  then-puts : (left : List ℕ) (reads more : List Call) (now : List ℕ) → AreAnswered file left reads now → OnlyPuts more → Answers file left (reads ++ more)
  then-puts left [] more now a only = only-answers left more only
  then-puts left (starts name true ∷ reads) more now (bytes, is, rest) only = (bytes, is, then-puts bytes reads more now rest only)
  then-puts left (starts name false ∷ reads) more now rest only = then-puts [] reads more now rest only
  then-puts left (pulls asked bytes ∷ reads) more now (after, is, ends, rest) only = (after, is, ends, then-puts after reads more now rest only)
  then-puts left (pull_fails ∷ reads) more now rest only = then-puts [] reads more now rest only
  then-puts left (puts name bytes done ∷ reads) more now none only = absurd none
  then-puts left (writes bytes ∷ reads) more now none only = absurd none
  then-puts left (write_fails piece ∷ reads) more now none only = absurd none

  -- what comes behind some of them is answered too, or only puts
  answers-rest : (left : List ℕ) (before rest : List Call) → Answers file left (before ++ rest) → ((between : List ℕ) × Answers file between rest) ⊎ OnlyPuts rest
  answers-rest left [] rest a = inl (left, a)
  answers-rest left (starts name true ∷ before) rest (bytes, is, a) = answers-rest bytes before rest a
  answers-rest left (starts name false ∷ before) rest a = answers-rest [] before rest a
  answers-rest left (pulls asked bytes ∷ before) rest (after, is, ends, a) = answers-rest after before rest a
  answers-rest left (pull_fails ∷ before) rest a = answers-rest [] before rest a
  answers-rest left (puts name bytes done ∷ before) rest a = inr (only-rest before rest a)
  answers-rest left (writes bytes ∷ before) rest a = absurd a
  answers-rest left (write_fails piece ∷ before) rest a = absurd a

  -- pulls give what is left, from its front
  answers-pulls : (left : List ℕ) (pieces : List (ℕ × List ℕ)) (more : List Call) → Answers file left (pulls_of pieces ++ more) →
      (rest : List ℕ) × (left ≡ bytes_of pieces ++ rest) × Answers file rest more
  answers-pulls left [] more a = (left, refl, a)
  answers-pulls left (p ∷ pieces) more (after, is, ends, a) =
      let later = answers-pulls after pieces more a in
      (later.0, is ∙ ap (λ rest. p.1 ++ rest) later.1 ∙ sym (append_assoc p.1 (bytes_of pieces) later.0), later.2)

  begun-are : (name bytes : List ℕ) (part more : List Call) (b : IsBegun name bytes part) → part ++ more ≡ starts name true ∷ (pulls_of b.pieces ++ more)
  begun-are name bytes part more b = ap (λ calls. calls ++ more) b.calls_are

  answers-begun : (left name bytes : List ℕ) (part more : List Call) → IsBegun name bytes part → Answers file left (part ++ more) →
      (rest : List ℕ) × (file name ≡ Some (bytes ++ rest)) × Answers file rest more
  answers-begun left name bytes part more b a =
      let begun = subst (λ (calls : List Call). Answers file left calls) (begun-are name bytes part more b) a in
      let pulled = answers-pulls begun.0 b.pieces more begun.2 in
      (pulled.0, begun.1 ∙ ap (λ whole. Some whole) (pulled.1 ∙ ap (λ front. front ++ pulled.0) (sym b.bytes_are)), pulled.2)

  answers-read : (left name bytes : List ℕ) (part more : List Call) → IsRead name bytes part → Answers file left (part ++ more) → file name ≡ Some bytes
  answers-read left name bytes part more r a =
      let parts : part ++ more ≡ r.front ++ (pulls r.asked [] ∷ more) = ap (λ calls. calls ++ more) r.calls_are ∙ append_assoc r.front (pulls r.asked [] ∷ []) more in
      let begun = answers-begun left name bytes r.front (pulls r.asked [] ∷ more) r.begun (subst (λ (calls : List Call). Answers file left calls) parts a) in
      let ended = begun.2 in
      let none : begun.0 ≡ [] = ended.1 ∙ ended.2 refl r.some in
      begun.1 ∙ ap (λ rest. Some (bytes ++ rest)) none ∙ ap (λ whole. Some whole) (append-nil bytes)

  only-begun : (name bytes : List ℕ) (part more : List Call) → IsBegun name bytes part → OnlyPuts (part ++ more) → ⊥
  only-begun name bytes part more b only = subst OnlyPuts (begun-are name bytes part more b) only

  only-read : (name bytes : List ℕ) (part more : List Call) → IsRead name bytes part → OnlyPuts (part ++ more) → ⊥
  only-read name bytes part more r only =
      let parts : part ++ more ≡ r.front ++ (pulls r.asked [] ∷ more) = ap (λ calls. calls ++ more) r.calls_are ∙ append_assoc r.front (pulls r.asked [] ∷ []) more in
      only-begun name bytes r.front (pulls r.asked [] ∷ more) r.begun (subst OnlyPuts parts only)

  answers-give : (left : List ℕ) (calls : List Call) → Answers file left calls → Gives file calls
  answers-give left calls a = record {
    whole = λ name bytes before part after e read. elim (answers-rest left before (part ++ after) (subst (λ (cs : List Call). Answers file left cs) e a)) [
      | inl (between, rest) ↦ answers-read between name bytes part after read rest
      | inr only ↦ absurd (only-read name bytes part after read only)
    ];
    front = λ name bytes before part after e begun. elim (answers-rest left before (part ++ after) (subst (λ (cs : List Call). Answers file left cs) e a)) [
      | inl (between, rest) ↦ let is = answers-begun between name bytes part after begun rest in (is.0, is.1)
      | inr only ↦ absurd (only-begun name bytes part after begun only)
    ];
  }

  -- none of them puts
  answered-put : (left : List ℕ) (calls : List Call) (now : List ℕ) → AreAnswered file left calls now → puts_among calls ≡ []
  answered-put left [] now a = refl
  answered-put left (starts name true ∷ calls) now (bytes, is, rest) = answered-put bytes calls now rest
  answered-put left (starts name false ∷ calls) now rest = answered-put [] calls now rest
  answered-put left (pulls asked bytes ∷ calls) now (after, is, ends, rest) = answered-put after calls now rest
  answered-put left (pull_fails ∷ calls) now rest = answered-put [] calls now rest
  answered-put left (puts name bytes done ∷ calls) now none = absurd none
  answered-put left (writes bytes ∷ calls) now none = absurd none
  answered-put left (write_fails piece ∷ calls) now none = absurd none

putting-only : (done : Bool) (name put : Option (List ℕ)) (calls : List Call) → IsPutting done name put calls → OnlyPuts calls
putting-only done None put calls e = subst OnlyPuts (sym e) tt
putting-only done (Some name) None calls e = subst OnlyPuts (sym e) tt
putting-only done (Some name) (Some bytes) calls e = subst OnlyPuts (sym e) tt

-- puts leave the same of files that are the same
same-leaves : (f g h : Files) (calls : List Call) → SameFiles f g → Leaves calls g h → Leaves calls f h
same-leaves f g h [] same left = λ name. left name ∙ same name
same-leaves f g h (puts name bytes true ∷ calls) same (between, is, others, left) = (between, is, (λ other differs. others other differs ∙ same other), left)
same-leaves f g h (puts name bytes false ∷ calls) same (between, others, left) = (between, (λ other differs. others other differs ∙ same other), left)
same-leaves f g h (starts name done ∷ calls) same left = same-leaves f g h calls same left
same-leaves f g h (pulls asked bytes ∷ calls) same left = same-leaves f g h calls same left
same-leaves f g h (pull_fails ∷ calls) same left = same-leaves f g h calls same left
same-leaves f g h (writes bytes ∷ calls) same left = same-leaves f g h calls same left
same-leaves f g h (write_fails piece ∷ calls) same left = same-leaves f g h calls same left

-- ---- what is said of the calls since then

-- the files that answer reading calls gave what came
reads-give : (f : Files) (left now : List ℕ) (reads : List Call) → AreAnswered f left reads now → Gives f reads
reads-give f left now reads a =
    answers-give f left reads (subst (λ (cs : List Call). Answers f left cs) (append-nil reads) (then-puts f left reads [] now a tt))

-- a file that was read whole, within the limit, isn't longer
pub read-within : (f : Files) (left now : List ℕ) (old later : List Call) (name bytes : List ℕ) (limit : ℕ) → Grows old later (IsRead name bytes) →
    Grows old later (λ calls. AreAnswered f left calls now) → length bytes ≤ limit → IsLonger limit (f name) → ⊥
read-within f left now old later name bytes limit (reads, is, read) (calls, on, a) within longer =
    let same : calls ≡ reads = append_cancel_left old calls reads (sym on ∙ is) in
    let given = reads-give f left now reads (subst (λ (cs : List Call). AreAnswered f left cs now) same a) in
    let held : f name ≡ Some bytes = given.whole name bytes [] reads [] (sym (append-nil reads)) read in
    let more : limit < length bytes = subst (IsLonger limit) held longer in omega (arith, more, within)

-- where files were read
pub reads-tell : (f g : Files) (left now : List ℕ) (old later : List Call) → Grows old later (λ calls. AreAnswered f left calls now) → SameFiles f g → Since old later (Tells f g)
reads-tell f g left now old later (reads, is, a) same calls e =
    subst (λ (cs : List Call). Tells f g cs) (append_cancel_left old reads calls (sym is ∙ e)) (record {
      gives = reads-give f left now reads a;
      leaves = subst (λ (ps : List Call). Leaves ps f g) (sym (answered-put f left reads now a)) same;
    })

-- where files were read, and then one was put, or was to be
pub put-tells : (f g h : Files) (left now : List ℕ) (old between later : List Call) (done : Bool) (name put : Option (List ℕ)) →
    Grows old between (λ calls. AreAnswered f left calls now) → SameFiles f g → Grows between later (IsPutting done name put) →
    Since between later (λ calls. Leaves (puts_among calls) g h) → Since old later (Tells f h)
put-tells f g h left now old between later done name put (reads, is, a) same (more, on, did) left_by calls e =
    let all : later ≡ old ++ (reads ++ more) = on ∙ ap (λ front. front ++ more) is ∙ append_assoc old reads more in
    let among : puts_among (reads ++ more) ≡ puts_among more = puts-append reads more ∙ ap (λ ps. ps ++ puts_among more) (answered-put f left reads now a) in
    subst (λ (cs : List Call). Tells f h cs) (append_cancel_left old (reads ++ more) calls (sym all ∙ e)) (record {
      gives = answers-give f left (reads ++ more) (then-puts f left reads more now a (putting-only done name put more did));
      leaves = subst (λ (ps : List Call). Leaves ps f h) (sym among) (same-leaves f g h (puts_among more) same (left_by more on));
    })

-- one put
put-leaves_by : {T E : Type 0} (f g : Files) (name bytes : List ℕ) (result : Result T E) → OnOk result (g name ≡ Some bytes) → SameOthers name f g →
    Leaves (puts name bytes (is_ok result) ∷ []) f g
put-leaves_by f g name bytes (Ok u) is others = (g, is, others, λ other. refl)
put-leaves_by f g name bytes (Err e) is others = (g, others, λ other. refl)

pub put-leaves : {T E : Type 0} (f g : Files) (old now : List Call) (name bytes : List ℕ) (result : Result T E) → now ≡ old ++ puts name bytes (is_ok result) ∷ [] →
    OnOk result (g name ≡ Some bytes) → SameOthers name f g → Since old now (λ calls. Leaves (puts_among calls) f g)
put-leaves f g old now name bytes result logged is others calls e =
    subst (λ (cs : List Call). Leaves (puts_among cs) f g) (append_cancel_left old (puts name bytes (is_ok result) ∷ []) calls (sym logged ∙ e)) (put-leaves_by f g name bytes result is others)

-- no call
pub none-leaves : (f : Files) (old : List Call) → Since old old (λ calls. Leaves (puts_among calls) f f)
none-leaves f old calls e = subst (λ (cs : List Call). Leaves (puts_among cs) f f) (append_cancel_left old [] calls (append-nil old ∙ e)) (λ name. refl)

pub none-tells : (f : Files) (left : List ℕ) (old : List Call) → Since old old (Tells f f)
none-tells f left old = reads-tell f f left left old old ([], sym (append-nil old), refl) (λ name. refl)

-- what a sink tells as written grows by what the calls since then took
pub taken-since : (held now : List ℕ) (old later : List Call) → held ≡ taken old → now ≡ taken later → Since old later (λ calls. now ≡ held ++ taken calls)
taken-since held now old later before after calls e =
    after ∙ ap taken e ∙ taken-append old calls ∙ ap (λ front. front ++ taken calls) (sym before)
