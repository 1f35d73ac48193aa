-- How logs of reads and writes grow.
use Rattle.std.proofs.Common.{◌≡◌, ◌<◌, ◌++◌, ◌∙◌, [], ◌∷◌, ℕ, List, length, map, true, refl, ap, sym, append_assoc}
use Rattle.std.proofs.lemmas.List.{append-nil, map-append}
use Rattle.std.proofs.lemmas.List.Elements.{All-nil, All-push}
use Rattle.std.proofs.lemmas.List.Folds.{concat-append}
use Rattle.std.specs.List.{concat}
use Rattle.mz_io.specs.Calls.{Call, starts, pulls, writes, write_fails, Grows, bytes_of, IsBegun, IsWritten, IsCut}

-- no call
pub grows-none : (old : List Call) (P : List Call → Type 0) → P [] → Grows old old P
grows-none old P p = ([], sym (append-nil old), p)

-- one call
pub grows-one : (old now : List Call) (c : Call) (P : List Call → Type 0) → now ≡ old ++ c ∷ [] → P (c ∷ []) → Grows old now P
grows-one old now c P e p = (c ∷ [], e, p)

-- one call more
pub grows-on : (old now later : List Call) (c : Call) (P Q : List Call → Type 0) → Grows old now P → later ≡ now ++ c ∷ [] →
    ((more : List Call) → P more → Q (more ++ c ∷ [])) → Grows old later Q
grows-on old now later c P Q (more, is, p) e step =
    (more ++ c ∷ [], e ∙ ap (λ front. front ++ c ∷ []) is ∙ append_assoc old more (c ∷ []), step more p)

-- one run of calls after another
pub grows-both : (old now later : List Call) (P Q R : List Call → Type 0) → Grows old now P → Grows now later Q →
    ((first second : List Call) → P first → Q second → R (first ++ second)) → Grows old later R
grows-both old now later P Q R (first, is, p) (second, on, q) step =
    (first ++ second, on ∙ ap (λ front. front ++ second) is ∙ append_assoc old first second, step first second p q)

-- calls after a first one
pub grows-after : (old now later : List Call) (c : Call) (P : List Call → Type 0) → now ≡ old ++ c ∷ [] → Grows now later (λ more. P (c ∷ more)) → Grows old later P
grows-after old now later c P e (more, is, p) = (c ∷ more, is ∙ ap (λ front. front ++ more) e ∙ append_assoc old (c ∷ []) more, p)

bytes_of-append : (xs ys : List (ℕ × List ℕ)) → bytes_of (xs ++ ys) ≡ bytes_of xs ++ bytes_of ys
bytes_of-append [] ys = refl
bytes_of-append (x ∷ xs) ys = ap (λ rest. x.1 ++ rest) (bytes_of-append xs ys) ∙ sym (append_assoc x.1 (bytes_of xs) (bytes_of ys))

pub begun-start : (name : List ℕ) → IsBegun name [] (starts name true ∷ [])
begun-start name = record { pieces = []; some = All-nil _; bytes_are = refl; calls_are = refl }

pub begun-more : (name bytes piece : List ℕ) (asked : ℕ) (calls : List Call) → 0 < length piece → IsBegun name bytes calls →
    IsBegun name (bytes ++ piece) (calls ++ pulls asked piece ∷ [])
begun-more name bytes piece asked calls some b = record {
  pieces = b.pieces ++ (asked, piece) ∷ [];
  some = All-push (λ p. 0 < length p.1) b.pieces (asked, piece) b.some some;
  bytes_are = ap (λ front. front ++ piece) b.bytes_are ∙ ap (λ last. bytes_of b.pieces ++ last) (sym (append-nil piece)) ∙ sym (bytes_of-append b.pieces ((asked, piece) ∷ []));
  calls_are = ap (λ front. front ++ pulls asked piece ∷ []) b.calls_are ∙ ap (λ rest. starts name true ∷ rest) (sym (map-append _ b.pieces ((asked, piece) ∷ [])));
}

pub written-none : IsWritten [] []
written-none = record { pieces = []; text_is = refl; calls_are = refl }

pub written-on : (front piece : List ℕ) (calls : List Call) → IsWritten front calls → IsWritten (front ++ piece) (calls ++ writes piece ∷ [])
written-on front piece calls w = record {
  pieces = w.pieces ++ piece ∷ [];
  text_is = ap (λ x. x ++ piece) w.text_is ∙ ap (λ last. concat w.pieces ++ last) (sym (append-nil piece)) ∙ sym (concat-append w.pieces (piece ∷ []));
  calls_are = ap (λ x. x ++ writes piece ∷ []) w.calls_are ∙ sym (map-append writes w.pieces (piece ∷ []));
}

pub written-both : (front more : List ℕ) (first second : List Call) → IsWritten front first → IsWritten more second → IsWritten (front ++ more) (first ++ second)
written-both front more first second w v = record {
  pieces = w.pieces ++ v.pieces;
  text_is = ap (λ x. x ++ more) w.text_is ∙ ap (λ last. concat w.pieces ++ last) v.text_is ∙ sym (concat-append w.pieces v.pieces);
  calls_are = ap (λ x. x ++ second) w.calls_are ∙ ap (λ last. map writes w.pieces ++ last) v.calls_are ∙ sym (map-append writes w.pieces v.pieces);
}

-- what follows a prefix was cut short
pub cut-after : (front more text rest : List ℕ) (first second : List Call) → text ≡ (front ++ more) ++ rest → IsWritten front first → IsCut more second → IsCut text (first ++ second)
cut-after front more text rest first second e w c = record {
  front = front ++ c.front;
  taken = first ++ c.taken;
  written = written-both front c.front first c.taken w c.written;
  piece = c.piece;
  rest = c.rest ++ rest;
  text_is = e ∙ ap (λ part. (front ++ part) ++ rest) c.text_is ∙ simp append_assoc;
  calls_are = ap (λ last. first ++ last) c.calls_are ∙ sym (append_assoc first c.taken (write_fails c.piece ∷ []));
}
