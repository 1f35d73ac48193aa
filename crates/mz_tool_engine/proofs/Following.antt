-- What follows of a run, from its calls and from what they gave.
use Rattle.std.proofs.Common.{◌≡◌, ◌<◌, ◌≤◌, ◌+◌, ◌++◌, ◌∙◌, ◌⊎◌, [], ◌∷◌, ℕ, suc, Bool, true, false, List, length, Option, Some, None, refl, sym, ap, subst, inl, inr, arith}
use Rattle.std.proofs.lemmas.List.{append-nil, length-append}
use Rattle.std.proofs.lemmas.Option.{none-some}
use Rattle.mz_io.specs.Calls.{Call, puts, write_fails, taken, Hold, IsUnread, IsOver}
use Rattle.mz_io.specs.Read.{IsLonger}
use Rattle.mz_tool_engine.specs.Said.{Said, Files}
use Rattle.mz_tool_engine.specs.Files.{AreReadable, HasLonger}
use Rattle.mz_tool_engine.specs.Given.{Gives, puts_among, names_started, failures}
use Rattle.mz_tool_engine.specs.Consequences.{IsFront, EndsWith, IsPutLast, IsQuiet, MayPut, Consequences}
use Rattle.mz_tool_engine.specs.Run.{longest, AreRead, AreReadAndPut, AreReadNotPut, StopAt, IsPartly, IsPutting, IsYes, IsNo, IsProved, IsAnswerOver, IsBegunOver, Asks, EachAsked, IsRunOf, IsRun}
use Rattle.mz_tool_engine.specs.declared.status.Status.{Status}
use Rattle.mz_tool_engine.specs.declared.status.Status.TheVariants as statuses
use Rattle.mz_tool_engine.proofs.Given.{gives-part, gives-later, read-holds, read-and_put-holds, given-proved}
use Rattle.mz_tool_engine.proofs.Among.{failures-append, failed-more, reads-put, reads-fail, reads-all, stop-started, stop-put, unread-started, over-started, unread-put, over-put, partly-put, stop-ends, read-failed, putting-cases, after-reads, did-among, written-fail, written-taken, cut-taken}

-- files of these names hold one row of contents
same-held : (file : Files) (names one other : List (List ℕ)) → Hold file names one → Hold file names other → one ≡ other
same-held file [] [] [] a b = refl
same-held file [] [] (y ∷ other) a b = absurd b
same-held file [] (x ∷ one) other a b = absurd a
same-held file (name ∷ names) [] other a b = absurd a
same-held file (name ∷ names) (x ∷ one) [] a b = absurd b
same-held file (name ∷ names) (x ∷ one) (y ∷ other) (e, a) (f, b) =
    let first : Some x ≡ Some y = sym e ∙ f in
    let same : x ≡ y = cc in
    let rest = same-held file names one other a b in
    ap (λ z. z ∷ one) same ∙ ap (λ zs. y ∷ zs) rest

no_failure : (calls : List Call) (n : ℕ) → failures calls ≡ n + 1 → failures calls ≡ 0 → ⊥
no_failure calls n e none = omega arith

module _ (file : Files) where
  -- ---- a file that is too long

  over-longer : (limit : ℕ) (names : List (List ℕ)) (calls : List Call) → Gives file calls → StopAt (IsOver limit) names calls → HasLonger limit file names
  over-longer limit [] calls given stop = absurd stop
  over-longer limit (name ∷ names) calls given (inl (bytes, begun, long)) =
      let stands = given.front name bytes [] calls [] (sym (append-nil calls)) begun in
      let size : length (bytes ++ stands.0) ≡ length bytes + length stands.0 = length-append bytes stands.0 in
      let longer : limit < length (bytes ++ stands.0) = omega arith in
      (0, name, omega arith, refl, subst (λ held. IsLonger limit held) (sym stands.1) longer)
  over-longer limit (name ∷ names) calls given (inr (bytes, first, later, e, one, stop)) =
      let more = over-longer limit names later (gives-later file first later calls e given) stop in
      (suc more.0, more.1, omega (arith, more.2), more.3, more.4)

  too-long : (limit : ℕ) (held : Option (List ℕ)) (bytes : List ℕ) → held ≡ Some bytes → length bytes ≤ limit → IsLonger limit held → ⊥
  too-long limit held bytes e short long =
      let longer : limit < length bytes = subst (λ h. IsLonger limit h) e long in
      omega arith

  readable-short : (names : List (List ℕ)) (calls : List Call) → Gives file calls → AreReadable file names → StopAt (IsOver longest) names calls → ⊥
  readable-short [] calls given readable stop = absurd stop
  readable-short (name ∷ names) calls given (this, others) (inl (bytes, begun, long)) =
      let stands = given.front name bytes [] calls [] (sym (append-nil calls)) begun in
      let size : length (bytes ++ stands.0) ≡ length bytes + length stands.0 = length-append bytes stands.0 in
      let longer : longest < length (bytes ++ stands.0) = omega arith in
      too-long longest (file name) this.0 this.1 this.2 (subst (λ held. IsLonger longest held) (sym stands.1) longer)
  readable-short (name ∷ names) calls given (this, others) (inr (bytes, first, later, e, one, stop)) =
      readable-short names later (gives-later file first later calls e given) others stop

  -- ---- what is put

  did-last : (said : Said) (calls : List Call) (contents : List (List ℕ)) (put : Option (List ℕ)) (text : List ℕ) → IsYes file said put text → AreReadAndPut said.reads contents said.puts put calls →
      (puts_among calls ≡ []) ⊎ ((out : List ℕ) × (bytes : List ℕ) × (done : Bool) × IsPutLast file said out bytes done calls)
  did-last said calls contents put text affirmed (reads, more, e, read, did) = elim (putting-cases true said.puts put more did) [
    | inl none ↦ inl (after-reads reads more calls e (reads-all said.reads contents reads read) ∙ ap puts_among none)
    | inr (out, bytes, is, has, f) ↦ inr (
      out,
      bytes,
      true,
      (
        is,
        (text, subst (λ (p : Option (List ℕ)). IsYes file said p text) has affirmed),
        (contents, reads, read, e ∙ ap (λ last. reads ++ last) f),
        after-reads reads more calls e (reads-all said.reads contents reads read) ∙ ap puts_among f,
      ),
    )
  ]

  not-last : (said : Said) (calls : List Call) (contents : List (List ℕ)) (put : Option (List ℕ)) (text : List ℕ) → IsYes file said put text → AreReadNotPut said.reads contents said.puts put calls →
      (out : List ℕ) × (bytes : List ℕ) × IsPutLast file said out bytes false calls
  not-last said calls contents put text affirmed (out, bytes, reads, is, has, e, read) = (
    out,
    bytes,
    (
      is,
      (text, subst (λ (p : Option (List ℕ)). IsYes file said p text) has affirmed),
      (contents, reads, read, e),
      after-reads reads (puts out bytes false ∷ []) calls e (reads-all said.reads contents reads read),
    ),
  )

  not-failed : (names contents : List (List ℕ)) (name put : Option (List ℕ)) (calls : List Call) → AreReadNotPut names contents name put calls → failures calls ≡ 1
  not-failed names contents name put calls (out, bytes, reads, is, has, e, read) =
      failed-more reads (puts out bytes false) calls e refl ∙ ap (λ n. n + 1) (reads-fail reads (reads-all names contents reads read))

-- where there are no bytes, nothing is put
refused-put : (said : Said) (calls : List Call) (contents : List (List ℕ)) (put : Option (List ℕ)) → AreReadAndPut said.reads contents said.puts put calls → put ≡ None → puts_among calls ≡ []
refused-put said calls contents put (reads, more, e, read, did) none = elim (putting-cases true said.puts put more did) [
  | inl nothing ↦ after-reads reads more calls e (reads-all said.reads contents reads read) ∙ ap puts_among nothing
  | inr (out, bytes, is, has, f) ↦ absurd (none-some bytes (sym none ∙ has))
]

putting-fails : (name put : Option (List ℕ)) (calls : List Call) → IsPutting true name put calls → failures calls ≡ 0
putting-fails None put calls e = ap failures e
putting-fails (Some name) None calls e = ap failures e
putting-fails (Some name) (Some bytes) calls e = ap failures e

did-fail : (names contents : List (List ℕ)) (name put : Option (List ℕ)) (calls : List Call) → AreReadAndPut names contents name put calls → failures calls ≡ 0
did-fail names contents name put calls (reads, more, e, read, did) =
    ap failures e ∙ failures-append reads more ∙ ap (λ n. n + failures more) (reads-fail reads (reads-all names contents reads read)) ∙ ap (λ n. 0 + n) (putting-fails name put more did)

none-read : (contents : List (List ℕ)) (calls : List Call) → AreRead [] contents calls → calls ≡ []
none-read [] calls e = e
none-read (bytes ∷ rest) calls read = absurd read

none-did : (contents : List (List ℕ)) (put : Option (List ℕ)) (calls : List Call) → AreReadAndPut [] contents None put calls → calls ≡ []
none-did contents put calls (reads, more, e, read, did) = e ∙ ap (λ first. first ++ more) (none-read contents reads read) ∙ did

module _ (said : Said) (file : Files) (calls written : List Call) (given : Gives file calls) where
  of-done : IsRunOf longest said statuses.Done calls written →
      (put : Option (List ℕ)) × (text : List ℕ) × IsYes file said put text × IsPutting true said.puts put (puts_among calls) × (taken written ≡ text)
  of-done (contents, put, text, affirms, sound, did, w) = (
    put,
    text,
    (contents, read-and_put-holds file said.reads contents said.puts put calls given did, affirms.0),
    did-among said.reads contents said.puts put calls did,
    written-taken text written w,
  )

  of-refused : IsRunOf longest said statuses.Refused calls written → (text : List ℕ) × IsNo file said text × (puts_among calls ≡ []) × (taken written ≡ text)
  of-refused (contents, text, refuses, read, w) = (
    text,
    (contents, read-holds file said.reads contents calls given read, refuses.0),
    reads-put calls (reads-all said.reads contents calls read),
    written-taken text written w,
  )

  of-write_fault : IsRunOf longest said statuses.WriteFault calls written → (out : List ℕ) × (bytes : List ℕ) × IsPutLast file said out bytes false calls × (failures calls ≡ 1)
  of-write_fault (contents, put, text, affirms, did, none) =
      let reads = did.2 in
      let held = read-holds file said.reads contents reads (gives-part file [] reads (puts did.0 did.1 false ∷ []) calls did.5 given) did.6 in
      let last = not-last file said calls contents put text (contents, held, affirms.0) did in
      (last.0, last.1, last.2, not-failed file said.reads contents said.puts put calls did)

  of-out_fault : IsRunOf longest said statuses.OutFault calls written → EndsWith (λ last. (piece : List ℕ) × (last ≡ write_fails piece)) written × (failures calls ≡ 0)
  of-out_fault (contents, put, text, answer, did, cut) =
      ((cut.taken, write_fails cut.piece, cut.calls_are, (cut.piece, refl), written-fail cut.front cut.taken cut.written), did-fail said.reads contents said.puts put calls did)

  of-front : IsRunOf longest said statuses.OutFault calls written →
      (put : Option (List ℕ)) × (text : List ℕ) × IsAnswerOver file said put text × IsPutting true said.puts put (puts_among calls) × IsFront (taken written) text
  of-front (contents, put, text, answer, did, cut) = (
    put,
    text,
    (contents, read-and_put-holds file said.reads contents said.puts put calls given did, answer),
    did-among said.reads contents said.puts put calls did,
    cut-taken text written cut,
  )

  of-memory : IsRunOf longest said statuses.Memory calls written → (written ≡ []) ⊎ ((text : List ℕ) × IsBegunOver file said text × IsFront (taken written) text)
  of-memory (inl (left, none)) = inl none
  of-memory (inr (contents, text, read, begun, b)) = inr (
    text,
    (contents, read-holds file said.reads contents calls given read, begun),
    (b.rest, b.text_is ∙ ap (λ front. front ++ b.rest) (sym (written-taken b.front written b.written))),
  )

  of-quiet : (status : Status) → IsQuiet status → IsRunOf longest said status calls written → written ≡ []
  of-quiet statuses.Done quiet ran = absurd quiet
  of-quiet statuses.Refused quiet ran = absurd quiet
  of-quiet statuses.OutFault quiet ran = absurd quiet
  of-quiet statuses.Memory quiet ran = absurd quiet
  of-quiet statuses.Usage quiet ran = absurd ran
  of-quiet statuses.ReadFault quiet (stop, none) = none
  of-quiet statuses.WriteFault quiet (contents, put, text, affirms, did, none) = none
  of-quiet statuses.TooLong quiet (stop, none) = none

  left-put : StopAt IsPartly said.reads calls → puts_among calls ≡ []
  left-put stop = stop-put IsPartly partly-put said.reads calls stop

  of-kept : (status : Status) → (MayPut status → ⊥) → IsRunOf longest said status calls written → puts_among calls ≡ []
  of-kept statuses.Done kept ran = absurd (kept tt)
  of-kept statuses.OutFault kept ran = absurd (kept tt)
  of-kept statuses.WriteFault kept ran = absurd (kept tt)
  of-kept statuses.Refused kept ran = (of-refused ran).2
  of-kept statuses.Usage kept ran = absurd ran
  of-kept statuses.ReadFault kept (stop, none) = stop-put IsUnread unread-put said.reads calls stop
  of-kept statuses.TooLong kept (stop, none) = stop-put (IsOver longest) (over-put longest) said.reads calls stop
  of-kept statuses.Memory kept (inl (inl (contents, read), none)) = reads-put calls (reads-all said.reads contents calls read)
  of-kept statuses.Memory kept (inl (inr stop, none)) = left-put stop
  of-kept statuses.Memory kept (inr (contents, text, read, begun, b)) = reads-put calls (reads-all said.reads contents calls read)

  of-put : (status : Status) → IsRunOf longest said status calls written →
      (puts_among calls ≡ []) ⊎ ((out : List ℕ) × (bytes : List ℕ) × (done : Bool) × IsPutLast file said out bytes done calls)
  of-put statuses.Done (contents, put, text, affirms, sound, did, w) =
      did-last file said calls contents put text (contents, read-and_put-holds file said.reads contents said.puts put calls given did, affirms.0) did
  of-put statuses.OutFault (contents, put, text, inl affirms, did, cut) =
      did-last file said calls contents put text (contents, read-and_put-holds file said.reads contents said.puts put calls given did, affirms.0) did
  of-put statuses.OutFault (contents, put, text, inr (none, refuses), did, cut) = inl (refused-put said calls contents put did none)
  of-put statuses.WriteFault ran = let last = of-write_fault ran in inr (last.0, last.1, false, last.2)
  of-put statuses.Refused ran = inl (of-kept statuses.Refused (λ may. may) ran)
  of-put statuses.Usage ran = absurd ran
  of-put statuses.ReadFault ran = inl (of-kept statuses.ReadFault (λ may. may) ran)
  of-put statuses.TooLong ran = inl (of-kept statuses.TooLong (λ may. may) ran)
  of-put statuses.Memory ran = inl (of-kept statuses.Memory (λ may. may) ran)

  -- a command that affirms these bytes doesn't refuse those that the files hold
  affirmed-not_no : (contents : List (List ℕ)) (text : List ℕ) → Hold file said.reads contents → ((other : List ℕ) → said.no contents other → ⊥) → IsNo file said text → ⊥
  affirmed-not_no contents text held none (others, hold, refused) =
      none text (subst (λ (xs : List (List ℕ)). said.no xs text) (same-held file said.reads others contents hold held) refused)

  refused-not_yes : (contents : List (List ℕ)) (put : Option (List ℕ)) (text : List ℕ) → Hold file said.reads contents → ((put : Option (List ℕ)) (other : List ℕ) → said.yes contents put other → ⊥) → IsYes file said put text → ⊥
  refused-not_yes contents put text held none (others, hold, affirmed) =
      none put text (subst (λ (xs : List (List ℕ)). said.yes xs put text) (same-held file said.reads others contents hold held) affirmed)

  of-yes : IsRunOf longest said statuses.Refused calls written → (put : Option (List ℕ)) (text : List ℕ) → IsYes file said put text → ⊥
  of-yes (contents, told, refuses, read, w) put text is = refused-not_yes contents put text (read-holds file said.reads contents calls given read) refuses.1 is

  of-no : IsRunOf longest said statuses.Done calls written → (text : List ℕ) → IsNo file said text → ⊥
  of-no (contents, put, told, affirms, sound, did, w) text is =
      affirmed-not_no contents text (read-and_put-holds file said.reads contents said.puts put calls given did) affirms.1 is

  of-not_put : (status : Status) → IsRunOf longest said status calls written → (text : List ℕ) → IsNo file said text → puts_among calls ≡ []
  of-not_put statuses.Done ran text is = absurd (of-no ran text is)
  of-not_put statuses.OutFault (contents, put, told, inl affirms, did, cut) text is =
      absurd (affirmed-not_no contents text (read-and_put-holds file said.reads contents said.puts put calls given did) affirms.1 is)
  of-not_put statuses.OutFault (contents, put, told, inr (none, refuses), did, cut) text is = refused-put said calls contents put did none
  of-not_put statuses.WriteFault (contents, put, told, affirms, did, none) text is =
      let held = read-holds file said.reads contents did.2 (gives-part file [] did.2 (puts did.0 did.1 false ∷ []) calls did.5 given) did.6 in
      absurd (affirmed-not_no contents text held affirms.1 is)
  of-not_put statuses.Refused ran text is = of-kept statuses.Refused (λ may. may) ran
  of-not_put statuses.Usage ran text is = absurd ran
  of-not_put statuses.ReadFault ran text is = of-kept statuses.ReadFault (λ may. may) ran
  of-not_put statuses.TooLong ran text is = of-kept statuses.TooLong (λ may. may) ran
  of-not_put statuses.Memory ran text is = of-kept statuses.Memory (λ may. may) ran

  of-answers : (status : Status) → IsRunOf longest said status calls written → AreReadable file said.reads → failures calls ≡ 0 → failures written ≡ 0 →
      (status ≡ statuses.Done) ⊎ ((status ≡ statuses.Refused) ⊎ (status ≡ statuses.Memory))
  of-answers statuses.Done ran readable read wrote = inl refl
  of-answers statuses.Refused ran readable read wrote = inr (inl refl)
  of-answers statuses.Memory ran readable read wrote = inr (inr refl)
  of-answers statuses.Usage ran readable read wrote = absurd ran
  of-answers statuses.ReadFault (stop, none) readable read wrote =
      let ends = stop-ends said.reads calls stop in
      absurd (no_failure calls (failures ends.0) (failed-more ends.0 ends.1 calls ends.2 (read-failed ends.1 ends.3)) read)
  of-answers statuses.TooLong (stop, none) readable read wrote = absurd (readable-short file said.reads calls given readable stop)
  of-answers statuses.WriteFault ran readable read wrote = absurd (no_failure calls 0 (of-write_fault ran).3 read)
  of-answers statuses.OutFault (contents, put, text, answer, did, cut) readable read wrote =
      absurd (no_failure written (failures cut.taken) (failed-more cut.taken (write_fails cut.piece) written cut.calls_are refl) wrote)

  of-unread : (status : Status) → (status ≡ statuses.ReadFault) ⊎ (status ≡ statuses.TooLong) → IsRunOf longest said status calls written →
      (front : List (List ℕ)) × (name : List ℕ) × (rest : List (List ℕ)) × (said.reads ≡ front ++ name ∷ rest) × (names_started calls ≡ front ++ name ∷ [])
  of-unread status (inl e) ran =
      let stop = subst (λ (s : Status). IsRunOf longest said s calls written) e ran in
      stop-started IsUnread unread-started said.reads calls stop.0
  of-unread status (inr e) ran =
      let stop = subst (λ (s : Status). IsRunOf longest said s calls written) e ran in
      stop-started (IsOver longest) (over-started longest) said.reads calls stop.0

  no-call : said.reads ≡ [] → said.puts ≡ None → (contents : List (List ℕ)) (put : Option (List ℕ)) → AreReadAndPut said.reads contents said.puts put calls → calls ≡ []
  no-call none nothing contents put did =
      none-did contents put calls (subst (λ (n : Option (List ℕ)). AreReadAndPut [] contents n put calls) nothing (subst (λ (ns : List (List ℕ)). AreReadAndPut ns contents said.puts put calls) none did))

  no-read : said.reads ≡ [] → (contents : List (List ℕ)) → AreRead said.reads contents calls → calls ≡ []
  no-read none contents read = none-read contents calls (subst (λ (ns : List (List ℕ)). AreRead ns contents calls) none read)

  no-stop : said.reads ≡ [] → (P : List ℕ → List Call → Type 0) → StopAt P said.reads calls → ⊥
  no-stop none P stop = subst (λ (ns : List (List ℕ)). StopAt P ns calls) none stop

  of-apart : (status : Status) → said.reads ≡ [] → said.puts ≡ None → IsRunOf longest said status calls written → calls ≡ []
  of-apart statuses.Done none nothing (contents, put, text, affirms, sound, did, w) = no-call none nothing contents put did
  of-apart statuses.OutFault none nothing (contents, put, text, answer, did, cut) = no-call none nothing contents put did
  of-apart statuses.WriteFault none nothing (contents, put, text, affirms, (out, bytes, reads, is, has, e, read), wrote) = absurd (none-some out (sym nothing ∙ is))
  of-apart statuses.Refused none nothing (contents, text, refuses, read, w) = no-read none contents read
  of-apart statuses.Usage none nothing ran = absurd ran
  of-apart statuses.ReadFault none nothing (stop, wrote) = absurd (no-stop none IsUnread stop)
  of-apart statuses.TooLong none nothing (stop, wrote) = absurd (no-stop none (IsOver longest) stop)
  of-apart statuses.Memory none nothing (inl (inl (contents, read), wrote)) = no-read none contents read
  of-apart statuses.Memory none nothing (inl (inr stop, wrote)) = absurd (no-stop none IsPartly stop)
  of-apart statuses.Memory none nothing (inr (contents, text, read, begun, b)) = no-read none contents read

-- ---- all of it

usage-read : (statuses.Usage ≡ statuses.ReadFault) ⊎ (statuses.Usage ≡ statuses.TooLong) → ⊥
usage-read (inl is) = cc
usage-read (inr is) = cc

module _ {R : Type 0} (said_of : R → Said) (words : List (List ℕ)) (file : Files) where
  -- arguments that ask for nothing
  follows-none : EachAsked said_of words (λ said. ⊥) → Consequences said_of words file statuses.Usage [] []
  follows-none none = record {
    one = λ asked other asks others. absurd (none asked asks);
    done = λ is. absurd (let no : ⊥ = cc in no);
    refused = λ is. absurd (let no : ⊥ = cc in no);
    headline = λ is. absurd (let no : ⊥ = cc in no);
    sound = λ is. absurd (let no : ⊥ = cc in no);
    answers = λ asked asks. absurd (none asked asks);
    yes = λ is. absurd (let no : ⊥ = cc in no);
    no = λ is. absurd (let no : ⊥ = cc in no);
    usage = λ is. none;
    only_usage = λ nothing. refl;
    read_fault = λ is. absurd (let no : ⊥ = cc in no);
    write_fault = λ is. absurd (let no : ⊥ = cc in no);
    out_fault = λ is. absurd (let no : ⊥ = cc in no);
    too_long = λ is. absurd (let no : ⊥ = cc in no);
    front = λ is. absurd (let no : ⊥ = cc in no);
    quiet = λ quiet. refl;
    memory = λ is. absurd (let no : ⊥ = cc in no);
    memory_front = λ is. absurd (let no : ⊥ = cc in no);
    put = inl refl;
    not_put = λ asked asks. absurd (none asked asks);
    kept = λ kept. refl;
    unread = λ is. absurd (usage-read is);
    apart = λ nothing. refl;
  }

  module _ (one : (asked other : R) → Asks (said_of asked) words → Asks (said_of other) words → asked ≡ other)
      (promised : (asked : R) → IsProved file (said_of asked) → (said_of asked).promise file) (calls written : List Call) (given : Gives file calls) where
    -- what holds of the request that the arguments ask for holds of each
    each : (asked : R) → Asks (said_of asked) words → (P : Said → Type 0) → P (said_of asked) → EachAsked said_of words P
    each asked asks P is other others = subst (λ (r : R). P (said_of r)) (one asked other asks others) is

    follows-asked : (status : Status) (asked : R) → Asks (said_of asked) words → IsRunOf longest (said_of asked) status calls written → Consequences said_of words file status calls written
    follows-asked status asked asks ran =
        let said = said_of asked in
        let at : (s : Status) → status ≡ s → IsRunOf longest said s calls written = λ s is. subst (λ (s : Status). IsRunOf longest said s calls written) is ran in
        record {
          one = one;
          done = λ is. (asked, asks, of-done said file calls written given (at statuses.Done is));
          refused = λ is. (asked, asks, of-refused said file calls written given (at statuses.Refused is));
          headline = λ is. each asked asks (λ said. said.promise file) (promised asked (given-proved file longest said calls written given (at statuses.Done is)));
          sound = λ is. each asked asks (λ said. IsProved file said) (given-proved file longest said calls written given (at statuses.Done is));
          answers = each asked asks (λ said. AreReadable file said.reads → failures calls ≡ 0 → failures written ≡ 0 → (status ≡ statuses.Done) ⊎ ((status ≡ statuses.Refused) ⊎ (status ≡ statuses.Memory)))
              (of-answers said file calls written given status ran);
          yes = λ is. each asked asks (λ said. (put : Option (List ℕ)) (text : List ℕ) → IsYes file said put text → ⊥) (of-yes said file calls written given (at statuses.Refused is));
          no = λ is. each asked asks (λ said. (text : List ℕ) → IsNo file said text → ⊥) (of-no said file calls written given (at statuses.Done is));
          usage = λ is. absurd (at statuses.Usage is);
          only_usage = λ none. absurd (none asked asks);
          read_fault = λ is. stop-ends said.reads calls (at statuses.ReadFault is).0;
          write_fault = λ is. (asked, asks, of-write_fault said file calls written given (at statuses.WriteFault is));
          out_fault = λ is. of-out_fault said file calls written given (at statuses.OutFault is);
          too_long = λ is. (asked, asks, over-longer file longest said.reads calls given (at statuses.TooLong is).0);
          front = λ is. (asked, asks, of-front said file calls written given (at statuses.OutFault is));
          quiet = λ quiet. of-quiet said file calls written given status quiet ran;
          memory = λ is none. elim (of-memory said file calls written given (at statuses.Memory is)) [
            | inl nothing ↦ nothing
            | inr (text, begun, front) ↦ absurd (none asked asks text begun)
          ];
          memory_front = λ is. elim (of-memory said file calls written given (at statuses.Memory is)) [
            | inl nothing ↦ inl nothing
            | inr (text, begun, front) ↦ inr (asked, asks, (text, begun, front))
          ];
          put = elim (of-put said file calls written given status ran) [
            | inl nothing ↦ inl nothing
            | inr (out, bytes, done, last) ↦ inr (asked, asks, (out, bytes, done, last))
          ];
          not_put = each asked asks (λ said. (text : List ℕ) → IsNo file said text → puts_among calls ≡ []) (of-not_put said file calls written given status ran);
          kept = λ kept. of-kept said file calls written given status kept ran;
          unread = λ is. (asked, asks, of-unread said file calls written given status is ran);
          apart = λ nothing. let both = nothing asked asks in of-apart said file calls written given status both.0 both.1 ran;
        }

  -- what follows of a run, where arguments ask for one request at the most, and what is promised of all files gives what is
  -- promised of the specification
  pub follows : ((asked other : R) → Asks (said_of asked) words → Asks (said_of other) words → asked ≡ other) →
      ((asked : R) → IsProved file (said_of asked) → (said_of asked).promise file) →
      (status : Status) (calls written : List Call) → IsRun said_of words status calls written → Gives file calls → Consequences said_of words file status calls written
  follows one promised status calls written (inl (asked, asks, ran)) given = follows-asked one promised calls written given status asked asks ran
  follows one promised status calls written (inr (none, usage, no_calls, nothing)) given =
      subst (λ (s : Status). Consequences said_of words file s calls written) (sym usage)
      (subst (λ (cs : List Call). Consequences said_of words file statuses.Usage cs written) (sym no_calls)
      (subst (λ (ws : List Call). Consequences said_of words file statuses.Usage [] ws) (sym nothing) (follows-none none)))
