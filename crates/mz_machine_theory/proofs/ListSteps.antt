-- The commands that are executed for a list of rows.
use Rattle.std.proofs.Common.{◌≡◌, ℕ, zero, suc, ◌+◌, ◌*◌, ◌≤◌, Bool, List, [], ◌∷◌, length, Option, Some, None, refl, ap, subst, ◌∙◌, ◌⊎◌, inl, inr, arith, suc-mul, mul-suc}
use Rattle.std.specs.Prelude.{slice_get}
use Rattle.mz_logic_theory.proofs.Offered.{split_at}
use Rattle.mz_machine_theory.specs.Profile.{plain}
use Rattle.mz_machine_theory.specs.Spells.{SpelledTerm, SpelledThm}
use Rattle.mz_machine_theory.specs.MachineState.{RowsBefore, Heading}
use Rattle.mz_machine_theory.specs.Bodies.{body_start, body_steps}
use Rattle.mz_machine_theory.specs.Laws.{no_tables}
use Rattle.mz_machine_theory.specs.Lists.{Body, Entry, a_sort, a_term, an_assertion, with_entry, definition_of, assertion_of, term_steps, entry_steps, steps_of, body_length, bodies_length, StreamWithin, AllStreamsWithin}
use Rattle.mz_machine_theory.proofs.BodyRuns.{steps-le}

-- ---- products

pub add-times : (c d k : ℕ) → (c + d) * k ≡ c * k + d * k
add-times zero d k = ap (λ (z : ℕ). z * k) (front d) ∙ omega arith
  where
    front : (e : ℕ) → zero + e ≡ e
    front e = omega arith
add-times (suc c) d k = ap (λ (z : ℕ). z * k) (next c d) ∙ omega (arith, suc-mul (c + d) k, suc-mul c k, add-times c d k)
  where
    next : (a b : ℕ) → suc a + b ≡ suc (a + b)
    next a b = omega arith

pub times-grow : (b m k : ℕ) → b ≤ m → b * k ≤ m * k
times-grow zero m k le = omega arith
times-grow (suc b) zero k le = absurd (omega arith)
times-grow (suc b) (suc m) k le = omega (arith, suc-mul b k, suc-mul m k, times-grow b m k (omega arith))

plus-one : (m : ℕ) → m + 1 ≡ suc m
plus-one m = omega arith

-- ---- streams

-- the streams of all rows lie within n bytes
abbrev TablesWithin : ℕ → RowsBefore → Type 0
TablesWithin n tables = ((t : ℕ) (row : SpelledTerm) (stream : List ℕ) → slice_get tables.terms t ≡ Some row → row.stream ≡ Some stream → length stream ≤ n)
    × ((t : ℕ) (row : SpelledThm) → slice_get tables.thms t ≡ Some row → length row.stream ≤ n)

last-is : {A : Type 0} (x y : A) (j : ℕ) → slice_get (x ∷ []) j ≡ Some y → x ≡ y
last-is x y zero at = cc
last-is x y (suc j) at = absurd cc

grown : (n : ℕ) (tables : RowsBefore) (e : Entry) → TablesWithin n tables → StreamWithin n e → TablesWithin n (with_entry tables e)
grown n tables (a_sort m) h w = h
grown n tables (a_term is_local row body) (h, k) w = ((λ t r stream at is. go t r stream is (split_at tables.terms (row ∷ []) t r at)), k)
  where
    go : (t : ℕ) (r : SpelledTerm) (stream : List ℕ) → r.stream ≡ Some stream → (slice_get tables.terms t ≡ Some r) ⊎ ((j : ℕ) × (t ≡ length tables.terms + j) × (slice_get (row ∷ []) j ≡ Some r)) → length stream ≤ n
    go t r stream is (inl before) = h t r stream before is
    go t r stream is (inr (j, _, at)) = w stream (ap (λ (z : SpelledTerm). z.stream) (last-is row r j at) ∙ is)
grown n tables (an_assertion is_local without_proof row body) (h, k) w = (h, λ t r at. go t r (split_at tables.thms (row ∷ []) t r at))
  where
    go : (t : ℕ) (r : SpelledThm) → (slice_get tables.thms t ≡ Some r) ⊎ ((j : ℕ) × (t ≡ length tables.thms + j) × (slice_get (row ∷ []) j ≡ Some r)) → length r.stream ≤ n
    go t r (inl before) = k t r before
    go t r (inr (j, _, at)) = subst (λ (z : SpelledThm). length z.stream ≤ n) (last-is row r j at) w

body-le : (gaps : Bool) (n : ℕ) (tables : RowsBefore) (h : Heading) (body : Body) → TablesWithin n tables → length h.stream ≤ n → body_steps (plain gaps) tables h body.at body.bytes ≤ length body.bytes * (n + 1)
body-le gaps n tables h body (a, b) own = steps-le (plain gaps) tables h n (record { own = own; of_terms = a; of_thms = b }) (length body.bytes) (length body.bytes) body.at body.bytes (body_start (plain gaps) h) (omega arith)

term-le : (gaps : Bool) (n : ℕ) (tables : RowsBefore) (row : SpelledTerm) (body : Body) → TablesWithin n tables → (o : Option (List ℕ)) → row.stream ≡ o → ((stream : List ℕ) → row.stream ≡ Some stream → length stream ≤ n) → term_steps gaps tables row body o ≤ length body.bytes * (n + 1)
term-le gaps n tables row body h None is w = omega arith
term-le gaps n tables row body h (Some stream) is w = body-le gaps n tables (definition_of row stream) body h (w stream is)

entry-le : (gaps : Bool) (n : ℕ) (tables : RowsBefore) (e : Entry) → TablesWithin n tables → StreamWithin n e → entry_steps gaps tables e ≤ body_length e * (n + 1)
entry-le gaps n tables (a_sort m) h w = omega arith
entry-le gaps n tables (a_term is_local row body) h w = term-le gaps n tables row body h row.stream refl w
entry-le gaps n tables (an_assertion is_local without_proof row body) h w = body-le gaps n tables (assertion_of without_proof row) body h w

all-le : (gaps : Bool) (n : ℕ) (tables : RowsBefore) (es : List Entry) → TablesWithin n tables → AllStreamsWithin n es → steps_of gaps tables es ≤ bodies_length es * (n + 1)
all-le gaps n tables [] h w = omega arith
all-le gaps n tables (e ∷ es) h (w, ws) = sum-le (entry_steps gaps tables e) (steps_of gaps (with_entry tables e) es) (body_length e) (bodies_length es) n
    (entry-le gaps n tables e h w) (all-le gaps n (with_entry tables e) es (grown n tables e h w) ws)
  where
    sum-le : (a b c d m : ℕ) → a ≤ c * (m + 1) → b ≤ d * (m + 1) → a + b ≤ (c + d) * (m + 1)
    sum-le a b c d m p q = omega (arith, add-times c d (m + 1))

pub list-steps : (gaps : Bool) (es : List Entry) (n : ℕ) → AllStreamsWithin n es → bodies_length es ≤ n → steps_of gaps no_tables es ≤ n * n + n
list-steps gaps es n w le = whole (steps_of gaps no_tables es) (bodies_length es) n (all-le gaps n no_tables es ((λ t row stream at is. absurd cc), λ t row at. absurd cc) w) le
  where
    whole : (a b m : ℕ) → a ≤ b * (m + 1) → b ≤ m → a ≤ m * m + m
    whole a b m p q =
        let square : m * (m + 1) ≡ m * m + m = ap (λ (z : ℕ). m * z) (plus-one m) ∙ mul-suc m m in
        omega (arith, times-grow b m (m + 1) q)
