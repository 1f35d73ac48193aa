-- The kind of a statement's own row and its words, the ids of its parameters, and hypotheses as proofs.
use Rattle.std.proofs.Common.{◌≡◌, ◌≤◌, ◌+◌, ◌∙◌, ℕ, zero, suc, ◌⊎◌, List, [], ◌∷◌, ◌++◌, length, map, take, slice_get, Some, refl, sym, ap, inl, inr, arith}
use Rattle.std.specs.List.{range_with_len}
use Rattle.std.proofs.lemmas.List.{map-append}
use Rattle.mz_base.specs.Checks.{AllHold}
use Rattle.mz_logic_theory.specs.Words.{binders_of, BitsRight}
use Rattle.mz_logic_theory.specs.declared.binder.SortMods.{SortMods}
use Rattle.mz_logic_theory.specs.declared.word.Word.{Word}
use Rattle.mz_layout_tables.specs.Tables.{TermRow, term_row, thm_row}
use Rattle.mz_layout_tables.specs.declared.rows_so_far.Rows.{Rows}
use Rattle.mz_store.specs.declared.item.Id.{Id}
use Rattle.mz_store.specs.declared.item.Item.{Item as Kept}
use Rattle.mz_store.specs.declared.item.Item.TheVariants.{Expr, Proof}
use Rattle.mz_machine_theory.specs.MachineState.{Kind, is_axiom, is_theorem, is_definition}
use Rattle.mz_layout_tables.specs.RowWords.{first_sorts, param_checks, word_checks}
use Rattle.mz_layout_tables.proofs.Offered.{params-right, right-words, term-params-right}
use Rattle.mz_machine_env.specs.OwnRow.{byte_of, kind_of, own_words, id_at, first_ids, first_items, IsNextRow}
use Rattle.mz_machine_theory.specs.Headings.{kind_at, heading_by}
use Rattle.mz_machine_env.specs.declared.own.BodyKind.{BodyKind}
use Rattle.mz_machine_env.specs.declared.own.BodyKind.TheVariants.{Axiom, Definition, Theorem}

-- a row's heading has its kind
pub kind-is : (file : List ℕ) (row : ℕ) (kind : Kind) → (heading_by file row kind).kind ≡ kind
kind-is file row is_axiom = refl
kind-is file row is_theorem = refl
kind-is file row is_definition = refl

-- a kind is that of its code
pub kind-byte : (k : BodyKind) → kind_at (byte_of k) ≡ kind_of k
kind-byte Axiom = refl
kind-byte Definition = refl
kind-byte Theorem = refl

-- and has it, where it was asked by a code that is one of the three
pub byte-kind : (code : ℕ) (k : BodyKind) → (code ≡ 0x02) ⊎ (code ≡ 0x05) ⊎ (code ≡ 0x06) → kind_of k ≡ kind_at code → byte_of k ≡ code
byte-kind code Axiom (inl is) told = sym is
byte-kind code Axiom (inr (inl is)) told = let wrong : is_axiom ≡ is_definition = told ∙ ap kind_at is in absurd cc
byte-kind code Axiom (inr (inr is)) told = let wrong : is_axiom ≡ is_theorem = told ∙ ap kind_at is in absurd cc
byte-kind code Definition (inl is) told = let wrong : is_definition ≡ is_axiom = told ∙ ap kind_at is in absurd cc
byte-kind code Definition (inr (inl is)) told = sym is
byte-kind code Definition (inr (inr is)) told = let wrong : is_definition ≡ is_theorem = told ∙ ap kind_at is in absurd cc
byte-kind code Theorem (inl is) told = let wrong : is_theorem ≡ is_axiom = told ∙ ap kind_at is in absurd cc
byte-kind code Theorem (inr (inl is)) told = let wrong : is_theorem ≡ is_definition = told ∙ ap kind_at is in absurd cc
byte-kind code Theorem (inr (inr is)) told = sym is

-- ---- the words

pub own-binders : (file : List ℕ) (row : ℕ) (kind : Kind) → (heading_by file row kind).params ≡ binders_of (own_words file row kind)
own-binders file row is_axiom = refl
own-binders file row is_theorem = refl
own-binders file row is_definition = refl

right-params : (ss : List SortMods) (at : ℕ) (ws : List Word) → AllHold (param_checks ss at ws) → BitsRight ws
right-params ss at ws all = (right-words ss ws (params-right ss at ws all)).2

right-row : (ss : List SortMods) (row : TermRow) → AllHold (word_checks ss row) → BitsRight row.words.params
right-row ss row all = (right-words ss row.words.params (term-params-right ss row all)).2

pub own-bits : (file : List ℕ) (before : Rows) (row : ℕ) (kind : Kind) → IsNextRow file before row kind → BitsRight (own_words file row kind)
own-bits file before row is_axiom next = right-params (first_sorts file before.sorts) (thm_row file row).words_at (thm_row file row).params next.2
own-bits file before row is_theorem next = right-params (first_sorts file before.sorts) (thm_row file row).words_at (thm_row file row).params next.2
own-bits file before row is_definition next = right-row (first_sorts file before.sorts) (term_row file row) next.3

pub take-next : (ws : List Word) (n : ℕ) (w : Word) → slice_get ws n ≡ Some w → take n ws ++ w ∷ [] ≡ take (n + 1) ws
take-next [] n w h = absurd cc
take-next (x ∷ xs) zero w h = let same : x ≡ w = cc in rw same refl
take-next (x ∷ xs) (suc n) w h = ap (λ (ys : List Word). x ∷ ys) (take-next xs n w h) ∙ ap (λ (m : ℕ). take m (x ∷ xs)) (let e : suc (n + 1) ≡ suc n + 1 = omega arith in e)

pub words-are : (ws : List Word) (f file : List ℕ) (row : ℕ) (k kind : Kind) → ws ≡ own_words f row k → f ≡ file → k ≡ kind → ws ≡ own_words file row kind
words-are ws f file row k kind is e1 e2 = is ∙ ap (λ (x : List ℕ). own_words x row k) e1 ∙ ap (own_words file row) e2

-- ---- the first ids

pub range-next : (a n : ℕ) → range_with_len a (suc n) ≡ range_with_len a n ++ (a + n) ∷ []
range-next a zero = ap (λ (x : ℕ). x ∷ []) (omega arith)
range-next a (suc n) = ap (λ (xs : List ℕ). a ∷ xs) (range-next (a + 1) n ∙ ap (λ (x : ℕ). range_with_len (a + 1) n ++ x ∷ []) (omega arith))

pub items-next : (n : ℕ) → first_items n ++ Expr (record { 0 = n }) ∷ [] ≡ first_items (n + 1)
items-next n =
    sym (map-append (λ i. Expr (record { 0 = i })) (range_with_len 0 n) (n ∷ []))
    ∙ ap (map (λ i. Expr (record { 0 = i })))
    (sym (range-next 0 n ∙ ap (λ (x : ℕ). range_with_len 0 n ++ x ∷ []) (let e : 0 + n ≡ n = omega arith in e)) ∙ ap (range_with_len 0) (let e : suc n ≡ n + 1 = omega arith in e))

pub ids-next : (n : ℕ) → first_ids n ++ id_at n ∷ [] ≡ first_ids (n + 1)
ids-next n =
    sym (map-append id_at (range_with_len 0 n) (n ∷ []))
    ∙ ap (map id_at)
    (sym (range-next 0 n ∙ ap (λ (x : ℕ). range_with_len 0 n ++ x ∷ []) (let e : 0 + n ≡ n = omega arith in e)) ∙ ap (range_with_len 0) (let e : suc n ≡ n + 1 = omega arith in e))

-- ---- hypotheses as proofs

shift : (k : ℕ) → suc (k + 1) ≡ suc k + 1
shift k = omega arith

pub taken-next : (hyps : List Id) (k : ℕ) (h : Id) → slice_get hyps k ≡ Some h → map Proof (take k hyps) ++ Proof h ∷ [] ≡ map Proof (take (k + 1) hyps)
taken-next [] k h at = absurd cc
taken-next (x ∷ xs) zero h at = let same : x ≡ h = cc in rw same refl
taken-next (x ∷ xs) (suc k) h at = ap (λ (ys : List Kept). Proof x ∷ ys) (taken-next xs k h at) ∙ ap (λ (m : ℕ). map Proof (take m (x ∷ xs))) (shift k)

pub taken-all : (hyps : List Id) (k : ℕ) → length hyps ≤ k → map Proof (take k hyps) ≡ map Proof hyps
taken-all [] zero le = refl
taken-all [] (suc k) le = refl
taken-all (x ∷ xs) zero le = absurd (omega (arith, le))
taken-all (x ∷ xs) (suc k) le = ap (λ (ys : List Kept). Proof x ∷ ys) (taken-all xs k (omega (arith, le)))
