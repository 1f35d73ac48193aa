-- Citations over a store: what the unify machine makes of them.
use Rattle.std.proofs.Common.{◌≡◌, ℕ, List, length, drop, refl, ◌∙◌}
use Rattle.std.specs.Prelude.{reverse}
use Rattle.std.proofs.lemmas.List.{length-map, length-reverse}
use Rattle.mz_logic_theory.specs.Tree.{Tree}
use Rattle.mz_logic_theory.specs.Words.{signatures_of as signatures_by}
use Rattle.mz_layout_tables.specs.Tables.{thm_row}
use Rattle.mz_store.specs.Sharing.{Sharing}
use Rattle.mz_store.specs.declared.item.Id.{Id}
use Rattle.mz_store.specs.declared.item.Item.{Item as Kept}
use Rattle.mz_machine_theory.specs.Profile.{strict}
use Rattle.mz_machine_theory.specs.UnifyMachine.{unify, unify_steps}
use Rattle.mz_unify.specs.Stored.{item_at, items_at, matching_at}
use Rattle.mz_unify.specs.declared.unified.UnifyMode.TheVariants.{Use}
use Rattle.mz_machine_theory.specs.MachineState.{State}
use Rattle.mz_machine_env.specs.Before.{Before, signatures_of, words_before}
use Rattle.mz_machine_env.proofs.Offered.{signatures-before}

pub items-many : (s : Sharing) (xs : List Kept) → length (items_at s xs) ≡ length xs
items-many s xs = length-map (reverse xs) (item_at s) ∙ length-reverse xs

-- ---- the run

module _ (b : Before) (s : Sharing) (st : State Tree) (same : st.ctx ≡ s.context) (t : ℕ) (stream : List ℕ) (is : stream ≡ drop (thm_row b.file t).stream_at b.file) (ops borrowed : List Id) (are : borrowed ≡ ops) (target : Id) (xs : List Kept) where
  pub cited-run : unify strict (signatures_of b) st.ctx (matching_at s Use (drop (thm_row b.file t).stream_at b.file) ops target xs)
      ≡ unify strict (signatures_by (words_before b)) s.context (matching_at s Use stream borrowed target xs)
  cited-run = rw (same, is, are, signatures-before b) refl

  pub cited-count : unify_steps strict (signatures_of b) st.ctx (matching_at s Use (drop (thm_row b.file t).stream_at b.file) ops target xs)
      ≡ unify_steps strict (signatures_by (words_before b)) s.context (matching_at s Use stream borrowed target xs)
  cited-count = rw (same, is, are, signatures-before b) refl
