-- Unfoldings over a store: what stands on the stack, and what the unify machine makes of it.
use Rattle.std.proofs.Common.{◌≡◌, ◌<◌, ◌+◌, ℕ, List, [], ◌∷◌, ◌++◌, length, drop, true, false, Some, None, Result, Ok, Err, slice_get, refl, sym, ap, ◌∙◌, subst, arith}
use Rattle.std.specs.Prelude.{OnOk}
use Rattle.std.proofs.lemmas.Option.{slice_get_within}
use Rattle.std.proofs.lemmas.List.{length-map}
use Rattle.mz_logic_theory.specs.Tree.{Tree, var, app}
use Rattle.mz_logic_theory.specs.Signature.{Signature}
use Rattle.mz_logic_theory.specs.Sorts.{HasSort}
use Rattle.mz_logic_theory.specs.Words.{TermWords, signature_of, signatures_of as signatures_by}
use Rattle.mz_logic_theory.specs.declared.binder.Binder.{Binder}
use Rattle.mz_layout_tables.specs.Tables.{term_row}
use Rattle.mz_store.specs.Sharing.{Sharing, IsIn, IsOver, tree_of, head_of}
use Rattle.mz_store.specs.declared.item.Id.{Id}
use Rattle.mz_store.specs.declared.item.Item.{Item as Kept}
use Rattle.mz_machine_theory.specs.Profile.{strict}
use Rattle.mz_machine_theory.specs.UnifyMachine.{in_definition, Matching, unify, unify_steps}
use Rattle.mz_unify.specs.Stored.{IsItemIn, AreItemsIn, item_at, items_at, trees_at, matching_at}
use Rattle.mz_unify.proofs.Offered.{items-push}
use Rattle.mz_unify.specs.declared.unified.UnifyMode.TheVariants.{Body}
use Rattle.mz_machine_theory.specs.ProofMachine.{stream_of}
use Rattle.mz_machine.specs.OverStore.{UnlessMem}
use Rattle.mz_unify.specs.declared.stop.Stop.{Stop}
use Rattle.mz_unify.specs.declared.stop.Stop.TheVariants.{Rule, Mem}
use Rattle.mz_machine_env.specs.Before.{Before, tables_of, signatures_of, words_before}
use Rattle.mz_machine_env.proofs.Offered.{signatures-before, length-words, term-before}
use Rattle.mz_machine.proofs.Converting.{put_in}

-- ---- terms of expressions

head-there : (sigs : List Signature) (ctx : List Binder) (e : Tree) (s t : ℕ) → HasSort sigs ctx e s → head_of e ≡ Some t → t < length sigs
head-there sigs ctx (var x) s t h is = absurd cc
head-there sigs ctx (app u es) s t h is = let same : u ≡ t = cc in slice_get_within sigs t _ (subst (λ n. slice_get sigs n ≡ Some h.0) same h.1)

pub as-many : (ws : List TermWords) → length (signatures_by ws) ≡ length ws
as-many ws = length-map ws signature_of

-- the term of an expression is one of those before
pub term-there : (b : Before) (s : Sharing) → IsOver (signatures_of b) s → (i t : ℕ) → IsIn s i → head_of (tree_of s i) ≡ Some t → t < length (words_before b)
term-there b s over i t within is =
    subst (λ n. t < n) (ap length (sym (signatures-before b)) ∙ as-many (words_before b)) (head-there (signatures_of b) s.context (tree_of s i) _ t (over i within).0 is)

pub row-there : (b : Before) (t : ℕ) → t < length (words_before b) → t < b.rows.terms
row-there b t below = omega (arith, below, length-words b)

-- a definition's stream, and that a plain term has none
pub stream-there : (b : Before) (t : ℕ) → t < b.rows.terms → (term_row b.file t).words.has_body ≡ true
    → stream_of (slice_get (tables_of b).terms t) ≡ Some (drop (term_row b.file t).stream_at b.file)
stream-there b t below has = ap stream_of (term-before b t below) ∙ rw has refl

pub no-stream : (b : Before) (t : ℕ) → t < b.rows.terms → (term_row b.file t).words.has_body ≡ false → stream_of (slice_get (tables_of b).terms t) ≡ None
no-stream b t below has = ap stream_of (term-before b t below) ∙ rw has refl

-- ---- the run

module _ (b : Before) (s : Sharing) (ctx : List Binder) (same : ctx ≡ s.context) (t : ℕ) (target : Id) (es : List Tree) where
  abbrev pub unfolded : Matching Tree
  unfolded = record { mode = in_definition; stream = drop (term_row b.file t).stream_at b.file; operands = es; target = tree_of s target.0; items = [] }

  module _ (stream : List ℕ) (ops : List Id) (none : List Kept) (is : stream ≡ drop (term_row b.file t).stream_at b.file) (are : trees_at s ops ≡ es) (empty : none ≡ []) where
    pub same-run : unify strict (signatures_of b) ctx unfolded ≡ unify strict (signatures_by (words_before b)) s.context (matching_at s Body stream ops target none)
    same-run = rw (same, is, ← are, empty, signatures-before b) refl

    pub same-count : unify_steps strict (signatures_by (words_before b)) s.context (matching_at s Body stream ops target none) ≡ unify_steps strict (signatures_of b) ctx unfolded
    same-count = rw (same, is, ← are, empty, signatures-before b) refl

-- ---- counting

pub no-more : (m n : ℕ) → n ≡ 0 → m ≡ m + n
no-more m n is = omega (arith, is)

pub so-many : (m n k l : ℕ) → k ≡ m + l → n ≡ l → k ≡ m + n
so-many m n k l is same = omega (arith, is, same)

pub ids-pushed : {A F : Type 0} (s : Sharing) (old new : List Kept) (x : Kept) (result : Result A F) → OnOk result (new ≡ old ++ x ∷ []) → IsItemIn s x → AreItemsIn s old → OnOk result (AreItemsIn s new)
ids-pushed s old new x (Ok y) is one all = put_in s old new x is one all
ids-pushed s old new x (Err f) is one all = tt

pub items-pushed : {A F : Type 0} (s : Sharing) (old new : List Kept) (x : Kept) (result : Result A F) → OnOk result (new ≡ old ++ x ∷ []) → OnOk result (items_at s new ≡ item_at s x ∷ items_at s old)
items-pushed s old new x (Ok y) is = ap (items_at s) is ∙ items-push s old x
items-pushed s old new x (Err f) is = tt

pub unless-mem : {A P : Type 0} (result : Result A Stop) → P → UnlessMem result P
unless-mem (Ok x) p = p
unless-mem (Err Mem) p = tt
unless-mem (Err (Rule k)) p = p

pub unless-more : {A : Type 0} (result : Result A Stop) (m n k l : ℕ) → UnlessMem result (k ≡ m + l) → n ≡ l → UnlessMem result (k ≡ m + n)
unless-more (Ok x) m n k l h same = so-many m n k l h same
unless-more (Err Mem) m n k l h same = tt
unless-more (Err (Rule d)) m n k l h same = so-many m n k l h same
