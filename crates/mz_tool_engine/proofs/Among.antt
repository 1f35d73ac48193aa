-- What rows of calls have among them: puts, names that were started, failures, and what was taken.
use Rattle.std.proofs.Common.{◌≡◌, ◌++◌, ◌+◌, ◌∙◌, ◌⊎◌, [], ◌∷◌, ℕ, Bool, true, false, cond, List, map, Option, Some, None, refl, sym, ap, subst, inl, inr, add_assoc, zero-add, append_assoc}
use Rattle.std.specs.Prelude.{⊤}
use Rattle.std.proofs.lemmas.List.{append-nil}
use Rattle.std.specs.List.{concat}
use Rattle.mz_io.specs.Calls.{Call, starts, pulls, pull_fails, puts, writes, write_fails, pulls_of, taken, IsBegun, IsRead, IsUnread, IsOver, IsWritten, IsCut}
use Rattle.mz_io.proofs.Offered.{taken-append}
use Rattle.mz_tool_engine.specs.Given.{puts_among, names_started, has_failed, failures}
use Rattle.mz_tool_engine.specs.Consequences.{IsFront, EndsWith, IsReadFailure}
use Rattle.mz_tool_engine.specs.Run.{AreRead, AreReadAndPut, StopAt, IsPartly, IsPutting}

-- ---- rows of calls, one after another

pub puts-append : (first second : List Call) → puts_among (first ++ second) ≡ puts_among first ++ puts_among second
puts-append [] second = refl
puts-append (puts name bytes done ∷ first) second = ap (λ rest. puts name bytes done ∷ rest) (puts-append first second)
puts-append (starts name done ∷ first) second = puts-append first second
puts-append (pulls asked bytes ∷ first) second = puts-append first second
puts-append (pull_fails ∷ first) second = puts-append first second
puts-append (writes bytes ∷ first) second = puts-append first second
puts-append (write_fails piece ∷ first) second = puts-append first second

pub started-append : (first second : List Call) → names_started (first ++ second) ≡ names_started first ++ names_started second
started-append [] second = refl
started-append (starts name done ∷ first) second = ap (λ rest. name ∷ rest) (started-append first second)
started-append (puts name bytes done ∷ first) second = started-append first second
started-append (pulls asked bytes ∷ first) second = started-append first second
started-append (pull_fails ∷ first) second = started-append first second
started-append (writes bytes ∷ first) second = started-append first second
started-append (write_fails piece ∷ first) second = started-append first second

pub failures-append : (first second : List Call) → failures (first ++ second) ≡ failures first + failures second
failures-append [] second = sym (zero-add (failures second))
failures-append (call ∷ first) second =
    ap (λ n. cond (has_failed call) 1 0 + n) (failures-append first second) ∙ sym (add_assoc (cond (has_failed call) 1 0) (failures first) (failures second))

-- one failing call more
pub failed-more : (before : List Call) (last : Call) (calls : List Call) → calls ≡ before ++ last ∷ [] → has_failed last ≡ true → failures calls ≡ failures before + 1
failed-more before last calls e is =
    ap failures e ∙ failures-append before (last ∷ []) ∙ ap (λ b. failures before + (cond b 1 0 + 0)) is

-- ---- calls that read, and don't fail

-- each is a start that was done, or a pull that didn't fail
abbrev pub Reads : List Call → Type 0
Reads [] = ⊤
Reads (starts name true ∷ calls) = Reads calls
Reads (starts name false ∷ calls) = ⊥
Reads (pulls asked bytes ∷ calls) = Reads calls
Reads (pull_fails ∷ calls) = ⊥
Reads (puts name bytes done ∷ calls) = ⊥
Reads (writes bytes ∷ calls) = ⊥
Reads (write_fails piece ∷ calls) = ⊥

pub reads-both : (first second : List Call) → Reads first → Reads second → Reads (first ++ second)
reads-both [] second a b = b
reads-both (starts name true ∷ first) second a b = reads-both first second a b
reads-both (starts name false ∷ first) second a b = absurd a
reads-both (pulls asked bytes ∷ first) second a b = reads-both first second a b
reads-both (pull_fails ∷ first) second a b = absurd a
reads-both (puts name bytes done ∷ first) second a b = absurd a
reads-both (writes bytes ∷ first) second a b = absurd a
reads-both (write_fails piece ∷ first) second a b = absurd a

-- none of them puts,
pub reads-put : (calls : List Call) → Reads calls → puts_among calls ≡ []
reads-put [] r = refl
reads-put (starts name true ∷ calls) r = reads-put calls r
reads-put (starts name false ∷ calls) r = absurd r
reads-put (pulls asked bytes ∷ calls) r = reads-put calls r
reads-put (pull_fails ∷ calls) r = absurd r
reads-put (puts name bytes done ∷ calls) r = absurd r
reads-put (writes bytes ∷ calls) r = absurd r
reads-put (write_fails piece ∷ calls) r = absurd r

-- and none fails
pub reads-fail : (calls : List Call) → Reads calls → failures calls ≡ 0
reads-fail [] r = refl
reads-fail (starts name true ∷ calls) r = zero-add (failures calls) ∙ reads-fail calls r
reads-fail (starts name false ∷ calls) r = absurd r
reads-fail (pulls asked bytes ∷ calls) r = zero-add (failures calls) ∙ reads-fail calls r
reads-fail (pull_fails ∷ calls) r = absurd r
reads-fail (puts name bytes done ∷ calls) r = absurd r
reads-fail (writes bytes ∷ calls) r = absurd r
reads-fail (write_fails piece ∷ calls) r = absurd r

reads-pulls : (pieces : List (ℕ × List ℕ)) → Reads (pulls_of pieces)
reads-pulls [] = tt
reads-pulls (p ∷ pieces) = reads-pulls pieces

pub reads-begun : (name bytes : List ℕ) (calls : List Call) → IsBegun name bytes calls → Reads calls
reads-begun name bytes calls b = subst Reads (sym b.calls_are) (reads-pulls b.pieces)

pub reads-read : (name bytes : List ℕ) (calls : List Call) → IsRead name bytes calls → Reads calls
reads-read name bytes calls r = subst Reads (sym r.calls_are) (reads-both r.front (pulls r.asked [] ∷ []) (reads-begun name bytes r.front r.begun) tt)

pub reads-all : (names contents : List (List ℕ)) (calls : List Call) → AreRead names contents calls → Reads calls
reads-all [] [] calls e = subst Reads (sym e) tt
reads-all [] (bytes ∷ rest) calls read = absurd read
reads-all (name ∷ names) [] calls read = absurd read
reads-all (name ∷ names) (bytes ∷ rest) calls (first, later, e, one, others) =
    subst Reads (sym e) (reads-both first later (reads-read name bytes first one) (reads-all names rest later others))

-- a file that was read was started, and no other
started-pulls : (pieces : List (ℕ × List ℕ)) → names_started (pulls_of pieces) ≡ []
started-pulls [] = refl
started-pulls (p ∷ pieces) = started-pulls pieces

started-begun : (name bytes : List ℕ) (calls : List Call) → IsBegun name bytes calls → names_started calls ≡ name ∷ []
started-begun name bytes calls b = ap names_started b.calls_are ∙ ap (λ rest. name ∷ rest) (started-pulls b.pieces)

started-read : (name bytes : List ℕ) (calls : List Call) → IsRead name bytes calls → names_started calls ≡ name ∷ []
started-read name bytes calls r =
    ap names_started r.calls_are ∙ started-append r.front (pulls r.asked [] ∷ []) ∙ append-nil (names_started r.front) ∙ started-begun name bytes r.front r.begun

-- ---- where reading stops

module _ (P : List ℕ → List Call → Type 0) where
  -- the names that were started are the first ones, up to the one where it stops
  pub stop-started : ((name : List ℕ) (calls : List Call) → P name calls → names_started calls ≡ name ∷ []) → (names : List (List ℕ)) (calls : List Call) → StopAt P names calls →
      (front : List (List ℕ)) × (name : List ℕ) × (rest : List (List ℕ)) × (names ≡ front ++ name ∷ rest) × (names_started calls ≡ front ++ name ∷ [])
  stop-started f [] calls stop = absurd stop
  stop-started f (name ∷ names) calls (inl p) = ([], name, names, refl, f name calls p)
  stop-started f (name ∷ names) calls (inr (bytes, first, later, e, one, stop)) =
      let more = stop-started f names later stop in (
        name ∷ more.0,
        more.1,
        more.2,
        ap (λ ns. name ∷ ns) more.3,
        ap names_started e ∙ started-append first later ∙ ap (λ ns. ns ++ names_started later) (started-read name bytes first one) ∙ ap (λ ns. name ∷ ns) more.4,
      )

  pub stop-put : ((name : List ℕ) (calls : List Call) → P name calls → puts_among calls ≡ []) → (names : List (List ℕ)) (calls : List Call) → StopAt P names calls → puts_among calls ≡ []
  stop-put f [] calls stop = absurd stop
  stop-put f (name ∷ names) calls (inl p) = f name calls p
  stop-put f (name ∷ names) calls (inr (bytes, first, later, e, one, stop)) =
      ap puts_among e ∙ puts-append first later ∙ ap (λ ps. ps ++ puts_among later) (reads-put first (reads-read name bytes first one)) ∙ stop-put f names later stop

pub unread-started : (name : List ℕ) (calls : List Call) → IsUnread name calls → names_started calls ≡ name ∷ []
unread-started name calls (inl e) = ap names_started e
unread-started name calls (inr (bytes, b)) =
    ap names_started b.calls_are ∙ started-append b.front (pull_fails ∷ []) ∙ append-nil (names_started b.front) ∙ started-begun name bytes b.front b.begun

pub over-started : (limit : ℕ) (name : List ℕ) (calls : List Call) → IsOver limit name calls → names_started calls ≡ name ∷ []
over-started limit name calls (bytes, begun, long) = started-begun name bytes calls begun

pub unread-put : (name : List ℕ) (calls : List Call) → IsUnread name calls → puts_among calls ≡ []
unread-put name calls (inl e) = ap puts_among e
unread-put name calls (inr (bytes, b)) =
    ap puts_among b.calls_are ∙ puts-append b.front (pull_fails ∷ []) ∙ append-nil (puts_among b.front) ∙ reads-put b.front (reads-begun name bytes b.front b.begun)

pub over-put : (limit : ℕ) (name : List ℕ) (calls : List Call) → IsOver limit name calls → puts_among calls ≡ []
over-put limit name calls (bytes, begun, long) = reads-put calls (reads-begun name bytes calls begun)

pub partly-put : (name : List ℕ) (calls : List Call) → IsPartly name calls → puts_among calls ≡ []
partly-put name calls (bytes, begun) = reads-put calls (reads-begun name bytes calls begun)

-- it stops with the call that failed
pub stop-ends : (names : List (List ℕ)) (calls : List Call) → StopAt IsUnread names calls → EndsWith IsReadFailure calls
stop-ends [] calls stop = absurd stop
stop-ends (name ∷ names) calls (inl (inl e)) = ([], starts name false, e, tt, refl)
stop-ends (name ∷ names) calls (inl (inr (bytes, b))) = (b.front, pull_fails, b.calls_are, tt, reads-fail b.front (reads-begun name bytes b.front b.begun))
stop-ends (name ∷ names) calls (inr (bytes, first, later, e, one, stop)) =
    let more = stop-ends names later stop in (
      first ++ more.0,
      more.1,
      e ∙ ap (λ rest. first ++ rest) more.2 ∙ sym (append_assoc first more.0 (more.1 ∷ [])),
      more.3,
      failures-append first more.0 ∙ ap (λ n. n + failures more.0) (reads-fail first (reads-read name bytes first one)) ∙ zero-add (failures more.0) ∙ more.4,
    )

pub read-failed : (call : Call) → IsReadFailure call → has_failed call ≡ true
read-failed (starts name true) is = absurd is
read-failed (starts name false) is = refl
read-failed (pulls asked bytes) is = absurd is
read-failed pull_fails is = refl
read-failed (puts name bytes done) is = absurd is
read-failed (writes bytes) is = absurd is
read-failed (write_fails piece) is = absurd is

-- ---- what is put

pub putting-among : (done : Bool) (name put : Option (List ℕ)) (calls : List Call) → IsPutting done name put calls → IsPutting done name put (puts_among calls)
putting-among done None put calls e = ap puts_among e
putting-among done (Some name) None calls e = ap puts_among e
putting-among done (Some name) (Some bytes) calls e = ap puts_among e

pub putting-cases : (done : Bool) (name put : Option (List ℕ)) (calls : List Call) → IsPutting done name put calls →
    (calls ≡ []) ⊎ ((out : List ℕ) × (bytes : List ℕ) × (name ≡ Some out) × (put ≡ Some bytes) × (calls ≡ puts out bytes done ∷ []))
putting-cases done None put calls e = inl e
putting-cases done (Some name) None calls e = inl e
putting-cases done (Some name) (Some bytes) calls e = inr (name, bytes, refl, refl, e)

-- after reading
pub after-reads : (reads more calls : List Call) → calls ≡ reads ++ more → Reads reads → puts_among calls ≡ puts_among more
after-reads reads more calls e r = ap puts_among e ∙ puts-append reads more ∙ ap (λ ps. ps ++ puts_among more) (reads-put reads r)

pub did-among : (names contents : List (List ℕ)) (name put : Option (List ℕ)) (calls : List Call) → AreReadAndPut names contents name put calls → IsPutting true name put (puts_among calls)
did-among names contents name put calls (reads, more, e, read, did) =
    subst (λ ps. IsPutting true name put ps) (sym (after-reads reads more calls e (reads-all names contents reads read))) (putting-among true name put more did)

-- ---- what is written

writes-fail : (pieces : List (List ℕ)) → failures (map writes pieces) ≡ 0
writes-fail [] = refl
writes-fail (piece ∷ pieces) = zero-add (failures (map writes pieces)) ∙ writes-fail pieces

pub written-fail : (text : List ℕ) (calls : List Call) → IsWritten text calls → failures calls ≡ 0
written-fail text calls w = ap failures w.calls_are ∙ writes-fail w.pieces

taken-pieces : (pieces : List (List ℕ)) → taken (map writes pieces) ≡ concat pieces
taken-pieces [] = refl
taken-pieces (piece ∷ pieces) = ap (λ rest. piece ++ rest) (taken-pieces pieces)

-- a text that was written was taken whole
pub written-taken : (text : List ℕ) (calls : List Call) → IsWritten text calls → taken calls ≡ text
written-taken text calls w = ap taken w.calls_are ∙ taken-pieces w.pieces ∙ sym w.text_is

-- of one that was cut short a prefix was
pub cut-taken : (text : List ℕ) (calls : List Call) → IsCut text calls → IsFront (taken calls) text
cut-taken text calls c =
    let front : taken calls ≡ c.front = ap taken c.calls_are ∙ taken-append c.taken (write_fails c.piece ∷ []) ∙ append-nil (taken c.taken) ∙ written-taken c.front c.taken c.written in
    (c.piece ++ c.rest, c.text_is ∙ ap (λ f. f ++ (c.piece ++ c.rest)) (sym front))
