-- Texts added one after another.
use Rattle.std.proofs.Common.{◌≡◌, ◌≤◌, ◌+◌, ◌++◌, ◌∙◌, ℕ, List, [], length, Result, Ok, Err, refl, sym, ap, subst, arith, append_assoc, append-nil, length-append}
use Rattle.std.specs.Prelude.{OnOk, IfOk, IsErr}
use Rattle.std.proofs.lemmas.Result.{on_ok_weaker, on_err_weaker}
use Rattle.mz_io.specs.Calls.{Call, Grows, IsCut, IsWriting}
use Rattle.mz_io.specs.Outside.{HasCause, Rose}
use Rattle.mz_io.proofs.Offered.{grows-none, grows-both, written-none, written-both, cut-after}
use Rattle.mz_axioms.specs.Pieces.{IsAdded, Adds}

-- a text that is held back
pub adds-held : {T E : Type 0} (u : T) (clear : Type 0) (room faults : ℕ) (calls : List Call) (held held' text : List ℕ) → held' ≡ held ++ text →
    Adds {T = T} {E = E} (Ok u) clear clear room room faults faults calls calls held held' text
adds-held {T} {E} u clear room faults calls held held' text is = record {
  log = grows-none calls (IsAdded {T = T} {E = E} (Ok u) held held' text) ([], written-none, is);
  cause = record { later = omega arith; failed = tt };
  stays_clear = λ c. c;
  lessens = λ c. (let lengths = ap length is ∙ length-append held text in omega (arith, lengths));
  only_full = λ c fits. refl;
}

-- no text
pub adds-none : {T E : Type 0} (u : T) (clear : Type 0) (room faults : ℕ) (calls : List Call) (held text : List ℕ) → text ≡ [] → Adds {T = T} {E = E} (Ok u) clear clear room room faults faults calls calls held held text
adds-none u clear room faults calls held text none = adds-held u clear room faults calls held held text (sym (append-nil held) ∙ ap (λ last. held ++ last) (sym none))

-- what was held back is the same
pub adds-from : {T E : Type 0} {result : Result T E} {clear clear' : Type 0} {room room' faults faults' : ℕ} {calls calls' : List Call} (held other held' text : List ℕ) → held ≡ other →
    Adds result clear clear' room room' faults faults' calls calls' held held' text → Adds result clear clear' room room' faults faults' calls calls' other held' text
adds-from {T} {E} {result} {clear} {clear'} {room} {room'} {faults} {faults'} {calls} {calls'} held other held' text is a =
    subst (λ from. Adds result clear clear' room room' faults faults' calls calls' from held' text) is a

-- what follows a text may follow one that is cut short
cut-further : (text more : List ℕ) (calls : List Call) → IsCut text calls → IsCut (text ++ more) calls
cut-further text more calls c = record {
  front = c.front;
  taken = c.taken;
  written = c.written;
  piece = c.piece;
  rest = c.rest ++ more;
  text_is = ap (λ part. part ++ more) c.text_is ∙ append_assoc c.front (c.piece ++ c.rest) more ∙ ap (λ last. c.front ++ last) (append_assoc c.piece c.rest more);
  calls_are = c.calls_are;
}

rose-later : (first now later : ℕ) → first ≤ now → Rose now later → Rose first later
rose-later first now later le rose = omega (arith, le, rose)

-- a text is cut short where its first part is
adds-fails : {T E U F : Type 0} {e : E} (f : F) {clear clear' : Type 0} {room room' faults faults' : ℕ} {calls calls' : List Call} {held held' held'' : List ℕ} (first rest text : List ℕ) → text ≡ first ++ rest →
    Adds {T = T} {E = E} (Err e) clear clear' room room' faults faults' calls calls' held held' first → Adds {T = U} {E = F} (Err f) clear clear' room room' faults faults' calls calls' held held'' text
adds-fails {T} {E} {U} {F} {e} f {clear} {clear'} {room} {room'} {faults} {faults'} {calls} {calls'} {held} {held'} {held''} first rest text is a =
    let (more, on, cut) = a.log in
    record {
      log = (more, on, subst (λ whole. IsCut whole more) (append_assoc held first rest ∙ ap (λ last. held ++ last) (sym is)) (cut-further (held ++ first) rest more cut));
      cause = record { later = a.cause.later; failed = a.cause.failed };
      stays_clear = a.stays_clear;
      lessens = λ c. tt;
      only_full = λ c fits. a.only_full c (let lengths = ap length is ∙ length-append first rest in omega (arith, lengths, fits));
    }

pub adds-stops : {T E U F : Type 0} {e : E} (result : Result U F) → IsErr result → {clear clear' : Type 0} {room room' faults faults' : ℕ} {calls calls' : List Call} {held held' held'' : List ℕ} (first rest text : List ℕ) → text ≡ first ++ rest →
    Adds {T = T} {E = E} (Err e) clear clear' room room' faults faults' calls calls' held held' first → Adds result clear clear' room room' faults faults' calls calls' held held'' text
adds-stops (Ok u) stopped first rest text is a = absurd cc
adds-stops (Err f) stopped first rest text is a = adds-fails f first rest text is a

written-log : {T E : Type 0} (result : Result T E) (piece held text : List ℕ) (calls : List Call) → piece ≡ held ++ text → IsWriting result piece calls → IsAdded result held [] text calls
written-log (Ok u) piece held text calls is w = (piece, w, append-nil piece ∙ is)
written-log (Err e) piece held text calls is cut = subst (λ whole. IsCut whole calls) is cut

-- what was held back is written, and a text after it
pub adds-written : {T E : Type 0} {result : Result T E} {clear clear' : Type 0} {room room' faults faults' : ℕ} {calls calls' : List Call} (piece held held' text : List ℕ) → piece ≡ held ++ text → held' ≡ [] →
    Grows calls calls' (IsWriting result piece) → HasCause faults faults' result → (clear → clear') → (clear → length piece ≤ room → faults' ≡ faults) → (clear → OnOk result (room' + length piece ≡ room)) →
    Adds result clear clear' room room' faults faults' calls calls' held held' text
adds-written {T} {E} {result} {clear} {clear'} {room} {room'} {faults} {faults'} {calls} {calls'} piece held held' text is none (more, on, log) cause stays full left =
    let lengths = ap length is ∙ length-append held text in
    let empty = ap length none in
    record {
      log = (more, on, subst (λ last. IsAdded result held last text more) (sym none) (written-log result piece held text more is log));
      cause = cause;
      stays_clear = stays;
      lessens = λ c. on_ok_weaker result (λ (now : room' + length piece ≡ room). omega (arith, now, lengths, empty)) (left c);
      only_full = λ c fits. full c (omega (arith, lengths, fits));
    }

-- a text that is written where nothing is held back
pub adds-through : {T E : Type 0} {result : Result T E} {clear clear' : Type 0} {room room' faults faults' : ℕ} {calls calls' : List Call} (held text : List ℕ) → held ≡ [] →
    Grows calls calls' (IsWriting result text) → HasCause faults faults' result → (clear → clear') → (clear → length text ≤ room → faults' ≡ faults) → (clear → OnOk result (room' + length text ≡ room)) →
    Adds result clear clear' room room' faults faults' calls calls' held held text
adds-through held text none log cause stays full left = adds-written text held held text (ap (λ front. front ++ text) (sym none)) none log cause stays full left

added-both : {T E U : Type 0} (u : U) (result : Result T E) (held held' held'' first rest text : List ℕ) (calls calls' : List Call) → text ≡ first ++ rest →
    IsAdded {T = U} {E = E} (Ok u) held held' first calls → IsAdded result held' held'' rest calls' → IsAdded result held held'' text (calls ++ calls')
added-both u (Ok v) held held' held'' first rest text calls calls' is (front, w, e) (front', w', e') = (
  front ++ front',
  written-both front front' calls calls' w w',
  append_assoc front front' held'' ∙ ap (λ last. front ++ last) e' ∙ sym (append_assoc front held' rest) ∙ ap (λ whole. whole ++ rest) e ∙ append_assoc held first rest ∙ ap (λ last. held ++ last) (sym is),
)
added-both u (Err f) held held' held'' first rest text calls calls' is (front, w, e) cut =
    cut-after front (held' ++ rest) (held ++ text) [] calls calls'
    (ap (λ last. held ++ last) is ∙ sym (append_assoc held first rest) ∙ ap (λ whole. whole ++ rest) (sym e) ∙ append_assoc front held' rest ∙ sym (append-nil (front ++ (held' ++ rest)))) w cut

-- one text after another
pub adds-both : {T E U : Type 0} {u : U} {result : Result T E} {clear clear' clear'' : Type 0} {room room' room'' faults faults' faults'' : ℕ} {calls calls' calls'' : List Call} {held held' held'' : List ℕ} (first rest text : List ℕ) → text ≡ first ++ rest →
    Adds {T = U} {E = E} (Ok u) clear clear' room room' faults faults' calls calls' held held' first → Adds result clear' clear'' room' room'' faults' faults'' calls' calls'' held' held'' rest →
    Adds result clear clear'' room room'' faults faults'' calls calls'' held held'' text
adds-both {T} {E} {U} {u} {result} {clear} {clear'} {clear''} {room} {room'} {room''} {faults} {faults'} {faults''} {calls} {calls'} {calls''} {held} {held'} {held''} first rest text is a b =
    let lengths = ap length is ∙ length-append first rest in
    record {
      log = grows-both calls calls' calls'' (IsAdded {T = U} {E = E} (Ok u) held held' first) (IsAdded result held' held'' rest) (IsAdded result held held'' text) a.log b.log
          (λ more more' p q. added-both u result held held' held'' first rest text more more' is p q);
      cause = record {
        later = (let one = a.cause.later in let two = b.cause.later in omega (arith, one, two));
        failed = on_err_weaker result (rose-later faults faults' faults'' a.cause.later) b.cause.failed;
      };
      stays_clear = λ c. b.stays_clear (a.stays_clear c);
      lessens = λ c. on_ok_weaker result
          (λ (now : room'' + (length held' + length rest) ≡ room' + length held''). (let before = a.lessens c in omega (arith, now, before, lengths))) (b.lessens (a.stays_clear c));
      only_full = λ c fits.
          (let before = a.lessens c in b.only_full (a.stays_clear c) (omega (arith, before, lengths, fits))) ∙ a.only_full c (omega (arith, lengths, fits));
    }

-- the text is the same
pub adds-text : {T E : Type 0} {result : Result T E} {clear clear' : Type 0} {room room' faults faults' : ℕ} {calls calls' : List Call} {held held' : List ℕ} (text other : List ℕ) → text ≡ other →
    Adds result clear clear' room room' faults faults' calls calls' held held' text → Adds result clear clear' room room' faults faults' calls calls' held held' other
adds-text {T} {E} {result} {clear} {clear'} {room} {room'} {faults} {faults'} {calls} {calls'} {held} {held'} text other is a =
    subst (λ whole. Adds result clear clear' room room' faults faults' calls calls' held held' whole) is a

-- nothing is held back in the end
pub adds-end : {T E : Type 0} (result : Result T E) {clear clear' : Type 0} {room room' faults faults' : ℕ} {calls calls' : List Call} (held held' text : List ℕ) → IfOk result (λ _. held' ≡ []) →
    Adds result clear clear' room room' faults faults' calls calls' held held' text → Adds result clear clear' room room' faults faults' calls calls' held [] text
adds-end {T} {E} (Ok u) {clear} {clear'} {room} {room'} {faults} {faults'} {calls} {calls'} held held' text none a =
    subst (λ last. Adds {T = T} {E = E} (Ok u) clear clear' room room' faults faults' calls calls' held last text) none a
adds-end {T} {E} (Err e) {clear} {clear'} {room} {room'} {faults} {faults'} {calls} {calls'} held held' text none a = adds-fails e text [] text (sym (append-nil text)) a
