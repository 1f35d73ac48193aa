-- Unfoldings over a store: what stands on the stack, and what the unify machine makes of it.
use Rattle.std.proofs.Common.{◌≡◌, ◌<◌, ℕ, List, [], ◌∷◌, ◌++◌, length, drop, Some, Result, Ok, Err, slice_get, refl, sym, ap, ◌∙◌, subst}
use Rattle.std.specs.Prelude.{OnOk}
use Rattle.std.proofs.lemmas.Option.{slice_get_within}
use Rattle.mz_logic_theory.specs.Signature.{Signature}
use Rattle.mz_logic_theory.specs.Sorts.{HasSort}
use Rattle.mz_logic_theory.specs.Words.{signatures_of as signatures_by}
use Rattle.mz_logic_theory.specs.declared.binder.Binder.{Binder}
use Rattle.mz_layout_tables.specs.Tables.{term_row}
use Rattle.mz_pmachine_unify.specs.Numbering.{Numbering, IsIn, IsOver, expr_of, head_of, operands_of}
use Rattle.mz_store.specs.declared.item.Id.{Id}
use Rattle.mz_store.specs.declared.item.Item.{Item as Kept}
use Rattle.mz_pmachine_theory.specs.NodeIdentity.{Numbered, a_variable, an_application, operand_list, tree_of, portable}
use Rattle.mz_machine_theory.specs.UnifyMachine.{in_definition, Matching, unify, unify_steps}
use Rattle.mz_pmachine_unify.specs.Stored.{IsItemIn, AreItemsIn, item_at, items_at, exprs_at, matching_at}
use Rattle.mz_pmachine_unify.proofs.Offered.{items-push}
use Rattle.mz_unify.specs.declared.unified.UnifyMode.TheVariants.{Body}
use Rattle.mz_machine_env.specs.Before.{Before, signatures_of, words_before}
use Rattle.mz_machine_env.proofs.Offered.{signatures-before}
use Rattle.mz_machine.proofs.Offered.{as-many}
use Rattle.mz_pmachine.proofs.Converting.{put_in}

-- ---- terms of expressions

head-there : (sigs : List Signature) (ctx : List Binder) (e : Numbered) (s t : ℕ) → HasSort sigs ctx (tree_of e) s → head_of e ≡ Some t → t < length sigs
head-there sigs ctx (a_variable x) s t h is = absurd cc
head-there sigs ctx (an_application n u es) s t h is = let same : u ≡ t = cc in slice_get_within sigs t _ (subst (λ m. slice_get sigs m ≡ Some h.0) same h.1)

-- the term of an expression is one of those before
pub term-there : (b : Before) (s : Numbering) → IsOver (signatures_of b) s → (i t : ℕ) → IsIn s i → head_of (expr_of s i) ≡ Some t → t < length (words_before b)
term-there b s over i t within is =
    subst (λ n. t < n) (ap length (sym (signatures-before b)) ∙ as-many (words_before b)) (head-there (signatures_of b) s.context (expr_of s i) _ t (over i within).0.0 is)

-- ---- the run

module _ (b : Before) (s : Numbering) (ctx : List Binder) (same : ctx ≡ s.context) (t : ℕ) (l : Numbered) (target : Id) where
  abbrev pub unfolded : Matching Numbered
  unfolded = record { mode = in_definition; stream = drop (term_row b.file t).stream_at b.file; operands = operand_list (operands_of l); target = expr_of s target.0; items = [] }

  module _ (stream : List ℕ) (ops : List Id) (none : List Kept) (is : stream ≡ drop (term_row b.file t).stream_at b.file) (are : exprs_at s ops ≡ operand_list (operands_of l)) (empty : none ≡ []) where
    pub same-run : unify portable (signatures_of b) ctx unfolded ≡ unify portable (signatures_by (words_before b)) s.context (matching_at s Body stream ops target none)
    same-run = rw (same, is, are, empty, signatures-before b) refl

    pub same-count : unify_steps portable (signatures_by (words_before b)) s.context (matching_at s Body stream ops target none) ≡ unify_steps portable (signatures_of b) ctx unfolded
    same-count = rw (same, is, are, empty, signatures-before b) refl

-- ---- counting

pub ids-pushed : {A F : Type 0} (s : Numbering) (old new : List Kept) (x : Kept) (result : Result A F) → OnOk result (new ≡ old ++ x ∷ []) → IsItemIn s x → AreItemsIn s old → OnOk result (AreItemsIn s new)
ids-pushed s old new x (Ok y) is one all = put_in s old new x is one all
ids-pushed s old new x (Err f) is one all = tt

pub items-pushed : {A F : Type 0} (s : Numbering) (old new : List Kept) (x : Kept) (result : Result A F) → OnOk result (new ≡ old ++ x ∷ []) → OnOk result (items_at s new ≡ item_at s x ∷ items_at s old)
items-pushed s old new x (Ok y) is = ap (items_at s) is ∙ items-push s old x
items-pushed s old new x (Err f) is = tt
