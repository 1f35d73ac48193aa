-- The words of the binary format that say a parameter or a result, and the tables that are made of them (the .mmb
-- format, its records of terms and theorems).
use Rattle.std.specs.Prelude.{ℕ, suc, ◌≡◌, ◌<◌, ◌≤◌, ◌/◌, ◌%◌, ◌^◌, ◌++◌, ⊤, Bool, false, ◌==◌, List, [], ◌∷◌, map, get_or, if◌then◌else◌, MatchBool}
use Rattle.mz_logic_theory.specs.Signature.{Signature}
use Rattle.mz_logic_theory.specs.declared.binder.Binder.{Binder}
use Rattle.mz_logic_theory.specs.declared.binder.ResultType.{ResultType}
use Rattle.mz_logic_theory.specs.declared.word.Word.{Word}

-- ---- one word (the .mmb format: bit 63 bound, bits 56 to 62 the sort, bits 0 to 55 the dependencies)

abbrev pub word_bound : Word → Bool
word_bound w = w.0 / 2 ^ 63 == 1

abbrev pub word_sort : Word → ℕ
word_sort w = w.0 / 2 ^ 56 % 2 ^ 7

abbrev pub word_deps : Word → ℕ
word_deps w = w.0 % 2 ^ 56

-- ---- a table of terms

-- a term's words: its parameters', its result's; and whether it is a definition
pub record TermWords : Type 0 where
  pub params : List Word
  pub result : Word
  pub has_body : Bool

-- the t-th term; past the end, where no rule looks, a term without parameters
abbrev pub term_at : List TermWords → ℕ → TermWords
term_at rows t = get_or rows t (record { params = []; result = record { 0 = 0 }; has_body = false })

-- ---- what words say of binders

-- the places of the bound words, the first word's place being i
abbrev pub bound_places : ℕ → List Word → List ℕ
bound_places i [] = []
bound_places i (w ∷ ws) = if word_bound w then i ∷ bound_places (suc i) ws else bound_places (suc i) ws

-- those of the places whose bit is set, the k-th place having bit k
abbrev pub places_set : ℕ → List ℕ → List ℕ
places_set bits [] = []
places_set bits (p ∷ ps) = if bits % 2 == 1 then p ∷ places_set (bits / 2) ps else places_set (bits / 2) ps

-- the binder of a word after bound ones at these places: of a bound word the bits aren't looked at,
-- and of a regular one only those of the bound words before it
abbrev pub binder_of : List ℕ → Word → Binder
binder_of places w = record {
  sort = word_sort w;
  bound = word_bound w;
  deps = if word_bound w then [] else places_set (word_deps w) places;
}

-- the binders of the words, `places` being those of the bound words among the i before them
abbrev pub binders_from : ℕ → List ℕ → List Word → List Binder
binders_from i places [] = []
binders_from i places (w ∷ ws) = binder_of places w ∷ binders_from (suc i) (if word_bound w then places ++ i ∷ [] else places) ws

abbrev pub binders_of : List Word → List Binder
binders_of ws = binders_from 0 [] ws

abbrev pub result_of : TermWords → ResultType
result_of t = record { sort = word_sort t.result; deps = places_set (word_deps t.result) (bound_places 0 t.params) }

-- the signature that a term's words say
abbrev pub signature_of : TermWords → Signature
signature_of t = record { params = binders_of t.params; result = result_of t }

abbrev pub signatures_of : List TermWords → List Signature
signatures_of ts = map signature_of ts

-- ---- bits that say exactly a list of binders

-- after k bound words: the k-th bound word (from 0) has bit k alone, and k is at most 54; a regular
-- word has no bit but those of the bound words before it
abbrev pub BitsRightAfter : ℕ → List Word → Type 0
BitsRightAfter k [] = ⊤
BitsRightAfter k (w ∷ ws) = MatchBool (word_bound w)
    ((k ≤ 54) × (word_deps w ≡ 2 ^ k) × BitsRightAfter (suc k) ws)
    ((word_deps w < 2 ^ k) × BitsRightAfter k ws)

abbrev pub BitsRight : List Word → Type 0
BitsRight ws = BitsRightAfter 0 ws
