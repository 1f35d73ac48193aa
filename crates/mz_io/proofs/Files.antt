-- What a name stands for after a file was put into its place, or behind the others.
use Rattle.std.proofs.Common.{◌≡◌, ◌≢◌, ◌<◌, ◌++◌, [], ◌∷◌, ℕ, List, length, set, get_or, Bool, true, false, cond, Option, Some, None, arith, refl, ap, sym, ◌∙◌, string_bytes, inl, inr, drop, ◌+◌, is_some, take, min, ◌^◌, ◌-◌}
use Rattle.std.proofs.lemmas.List.{drop-drop, take-append-drop, nil_from_length}
use Rattle.std.proofs.Math.Seq.{drop-nil}
use Rattle.std.specs.Prelude.{find, position, option_map}
use Rattle.std.specs.Option.{option_or}
use Rattle.std.specs.List.{position_or_len, slice_get}
use Rattle.std.proofs.lemmas.Bool.{ltb-true, ltb-false, cases_Bool}
use Rattle.std.proofs.lemmas.Option.{cond_some, slice_get_past, slice_get_cases, slice_get-get_or}
use Rattle.std.proofs.lemmas.List.Folds.{find_at, find-set, find_past, find-append}
use Rattle.std.proofs.lemmas.List.Quantifiers.{position-Some}
use Rattle.std.proofs.lemmas.Slice.Eq.{bytes_eq-Decides}
use Rattle.mz_io.specs.Memory.{is_named, bytes_of, file_of, left_in, left_at}
use Rattle.mz_io.specs.declared.entry.Entry.{Entry}

-- the place is that of the first element that passes
pub position-is : {X : Type 0} (p : X → Bool) (xs : List X) (i : ℕ) → position p xs ≡ Some i → (position_or_len p xs ≡ i) × (i < length xs)
position-is p xs i e =
    let found = cond_some _ _ _ e in
    let within : position_or_len p xs < length xs = ltb-true _ _ found.0 in
    let same : position_or_len p xs ≡ i = found.1 in
    (same, omega arith)

cond_none : {A : Type 0} (b : Bool) (x : A) → cond b (Some x) None ≡ None → b ≡ false
cond_none true x e = cc
cond_none false x e = refl

-- no element passes
pub find-none : {X : Type 0} (p : X → Bool) (xs : List X) → position p xs ≡ None → find p xs ≡ None
find-none p xs e = find_at p xs ∙ slice_get_past xs _ (ltb-false _ _ (cond_none _ _ e))

-- the file at the place that `position` gives is the one of the name
pub file_of-position : (files : List Entry) (name : List ℕ) (i : ℕ) → position (is_named name) files ≡ Some i →
    file_of files name ≡ option_map bytes_of (slice_get files i)
file_of-position files name i e =
    let at = position-is (is_named name) files i e in
    ap (option_map bytes_of) (find_at (is_named name) files ∙ ap (slice_get files) at.0)

pub file_of-none : (files : List Entry) (name : List ℕ) → position (is_named name) files ≡ None → file_of files name ≡ None
file_of-none files name e = ap (option_map bytes_of) (find-none (is_named name) files e)

named_itself : (file : Entry) → is_named (string_bytes file.name) file ≡ true
named_itself file = (bytes_eq-Decides (string_bytes file.name) (string_bytes file.name)).1 refl

-- a file has one name
other_name : (file : Entry) (name other : List ℕ) → is_named name file ≡ true → other ≢ name → is_named other file ≡ false
other_name file name other e ne =
    elim (cases_Bool (is_named other file)) [
      | inl same ↦ absurd (ne (sym ((bytes_eq-Decides (string_bytes file.name) other).0 same) ∙ (bytes_eq-Decides (string_bytes file.name) name).0 e))
      | inr differs ↦ differs
    ]

-- a file that took the place of the one of its name
pub file_of-set : (files : List Entry) (i : ℕ) (file : Entry) → position (is_named (string_bytes file.name)) files ≡ Some i →
    file_of (set files i file) (string_bytes file.name) ≡ Some file.bytes.items
file_of-set files i file e =
    let at = position-is (is_named (string_bytes file.name)) files i e in
    ap (option_map bytes_of) (find-set (is_named (string_bytes file.name)) files i file (sym at.0) at.1 (named_itself file))

pub file_of-set_other : (files : List Entry) (i : ℕ) (file : Entry) → position (is_named (string_bytes file.name)) files ≡ Some i →
    (other : List ℕ) → other ≢ string_bytes file.name → file_of (set files i file) other ≡ file_of files other
file_of-set_other files i file e other ne =
    let at = position-Some (is_named (string_bytes file.name)) files i file e in
    ap (option_map bytes_of) (find_past (is_named other) files i file file
    (other_name (get_or files i file) (string_bytes file.name) other at.1 ne)
    (other_name file (string_bytes file.name) other (named_itself file) ne))

or_none : {X : Type 0} (o : Option X) → option_or o None ≡ o
or_none None = refl
or_none (Some x) = refl

-- a file behind the others
pub file_of-push : (files : List Entry) (file : Entry) → position (is_named (string_bytes file.name)) files ≡ None →
    file_of (files ++ file ∷ []) (string_bytes file.name) ≡ Some file.bytes.items
file_of-push files file e =
    ap (option_map bytes_of) (find-append (is_named (string_bytes file.name)) files (file ∷ [])
    ∙ ap (λ o. option_or o (find (is_named (string_bytes file.name)) (file ∷ []))) (find-none _ files e)
    ∙ ap (λ b. cond b (Some file) None) (named_itself file))

pub file_of-push_other : (files : List Entry) (file : Entry) (other : List ℕ) → other ≢ string_bytes file.name →
    file_of (files ++ file ∷ []) other ≡ file_of files other
file_of-push_other files file other ne =
    ap (option_map bytes_of) (find-append (is_named other) files (file ∷ [])
    ∙ ap (λ b. option_or (find (is_named other) files) (cond b (Some file) None)) (other_name file (string_bytes file.name) other (named_itself file) ne)
    ∙ or_none (find (is_named other) files))

-- a started file is whole
pub file_of-started : (files : List Entry) (name : List ℕ) (place : Option ℕ) → position (is_named name) files ≡ place → is_some place ≡ true →
    file_of files name ≡ Some (left_at files place 0)
file_of-started files name None e some = cc
file_of-started files name (Some i) e some =
    elim ((slice_get_cases files i).1) [
      | inl (file, within, at, same) ↦ rw (file_of-position files name i e, at) refl
      | inr (past, at) ↦ absurd (let within = (position-is (is_named name) files i e).1 in omega arith)
    ]

left_in-later : (file : Option (List ℕ)) (offset n : ℕ) → left_in file (offset + n) ≡ drop n (left_in file offset)
left_in-later None offset n = sym (drop-nil n)
left_in-later (Some bytes) offset n = sym (drop-drop n offset bytes)

-- what is left a few bytes later
pub left_at-later : (files : List Entry) (place : Option ℕ) (offset n : ℕ) → left_at files place (offset + n) ≡ drop n (left_at files place offset)
left_at-later files None offset n = sym (drop-nil n)
left_at-later files (Some i) offset n = left_in-later (option_map bytes_of (slice_get files i)) offset n

-- a read of the front leaves what is behind it
pub front-rest : (n : ℕ) (left front : List ℕ) → take n front ≡ take n left → left ≡ take n front ++ drop n left
front-rest n left front e = rw e (sym (take-append-drop n left))

-- what a read of the front leaves
pub left_at-read : (files : List Entry) (place : Option ℕ) (offset taken after : ℕ) (left buf : List ℕ) →
    left ≡ left_at files place offset → (0 < length left → offset + length left < 2 ^ 64) →
    taken ≡ min (length left) (length buf) → take taken buf ≡ take taken left →
    after ≡ min (offset + taken) (2 ^ 64 - 1) → offset < 2 ^ 64 →
    (left_at files place offset ≡ take taken buf ++ left_at files place after)
    × (taken ≡ 0 → 0 < length buf → left_at files place after ≡ [])
left_at-read files place offset taken after left buf e fits count front sum small =
    let same : after ≡ offset + taken = grind (arith, fits) in
    let rest : left_at files place after ≡ drop taken left =
    ap (left_at files place) same ∙ left_at-later files place offset taken ∙ ap (drop taken) (sym e) in (
      sym e ∙ front-rest taken left buf front ∙ ap (λ ys. take taken buf ++ ys) (sym rest),
      λ none some. rest ∙ ap (drop taken) (nil_from_length left (omega arith)) ∙ drop-nil taken,
    )

-- a name that no file has
pub missing-file : (files : List Entry) (name : List ℕ) (place : Option ℕ) → place ≡ position (is_named name) files → is_some place ≡ false →
    is_some (file_of files name) ≡ false
missing-file files name None e none = ap is_some (file_of-none files name (sym e))
missing-file files name (Some i) e none = cc

-- what is there isn't missing
pub there-missing : {X : Type 0} (o : Option X) (x : X) → o ≡ Some x → is_some o ≡ false → ⊥
there-missing None x e none = cc
there-missing (Some y) x e none = cc

-- the file at the place of a name
pub file_of-at : (files : List Entry) (name : List ℕ) (i : ℕ) (file : Entry) → position (is_named name) files ≡ Some i → file ≡ get_or files i file →
    file_of files name ≡ Some file.bytes.items
file_of-at files name i file e at =
    file_of-position files name i e ∙ ap (option_map bytes_of) (slice_get-get_or files i file (position-is (is_named name) files i e).1 ∙ ap Some (sym at))
