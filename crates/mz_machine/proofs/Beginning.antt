-- A machine before the first command.
use Rattle.std.proofs.Common.{◌≡◌, ◌<◌, ◌≤◌, ◌+◌, ◌∙◌, ℕ, zero, suc, List, [], ◌∷◌, length, map, refl, sym, ap, subst, arith, append-nil}
use Rattle.std.specs.List.{range_with_len}
use Rattle.mz_logic_theory.specs.Tree.{Tree, var}
use Rattle.mz_logic_theory.specs.Words.{binders_of}
use Rattle.mz_logic_theory.specs.declared.word.Word.{Word}
use Rattle.mz_store.specs.Sharing.{Sharing, tree_of, IsIn, IsOver}
use Rattle.mz_store.specs.declared.item.Item.TheVariants.{Expr}
use Rattle.mz_machine_theory.specs.Profile.{strict, Item, expr}
use Rattle.mz_unify.specs.Stored.{AreItemsIn}
use Rattle.mz_machine_theory.specs.MachineState.{signatures_in}
use Rattle.mz_machine_theory.specs.Bodies.{body_start}
use Rattle.mz_machine_env.specs.OwnRow.{MayRun, mode_for, own_words, first_items}
use Rattle.mz_machine_theory.specs.Headings.{kind_at, heading_of}
use Rattle.mz_machine_env.specs.Before.{tables_before}
use Rattle.mz_machine.specs.OverStore.{heap_at, state_at, AreFirst, IsUnderway}
use Rattle.mz_layout_tables.specs.declared.rows_so_far.Rows.{Rows}
use Rattle.mz_machine_env.proofs.Offered.{binders_many, own-binders}
use Rattle.mz_machine.proofs.Dummies.{no-dummies}
use Rattle.mz_machine.proofs.EndRows.{own-are}

-- ---- the first ids

module _ (s : Sharing) where
  items-from : (i n : ℕ) → ((j : ℕ) → i ≤ j → j < i + n → IsIn s j) → AreItemsIn s (map (λ i. Expr (record { 0 = i })) (range_with_len i n))
  items-from i zero all = tt
  items-from i (suc n) all = (all i (omega arith) (omega arith), items-from (i + 1) n (λ j low high. all j (omega (arith, low)) (omega (arith, high))))

  trees-from : (i n : ℕ) → ((j : ℕ) → i ≤ j → j < i + n → tree_of s j ≡ var j)
      → heap_at s (map (λ i. Expr (record { 0 = i })) (range_with_len i n)) ≡ map expr (map var (range_with_len i n))
  trees-from i zero all = refl
  trees-from i (suc n) all =
      rw (all i (omega arith) (omega arith)) (ap (λ (xs : List (Item Tree)). expr (var i) ∷ xs) (trees-from (i + 1) n (λ j low high. all j (omega (arith, low)) (omega (arith, high)))))

  pub first-in : (n : ℕ) → AreFirst s n → AreItemsIn s (first_items n)
  first-in n first = items-from 0 n (λ j low high. (first j (omega (arith, high))).0)

  pub first-trees : (n : ℕ) → AreFirst s n → heap_at s (first_items n) ≡ map expr (map var (range_with_len 0 n))
  first-trees n first = trees-from 0 n (λ j low high. (first j (omega (arith, high))).1)

-- ---- the machine

-- each id of a word is its variable
abbrev pub AreVars : Sharing → List Word → Type 0
AreVars s ws = (i : ℕ) → i < length ws → tree_of s i ≡ var i

module _ (file : List ℕ) (kind row : ℕ) (before : Rows) (s : Sharing) (ws : List Word)
    (may : MayRun file kind row before) (words : ws ≡ own_words file row (kind_at kind)) (ctx : s.context ≡ binders_of ws) (many : length s.entries ≡ length ws)
    (trees : AreVars s ws) where
  pub params-are : (heading_of file kind row).params ≡ binders_of ws
  params-are = own-binders file row (kind_at kind) ∙ ap binders_of (sym words)

  pub params-many : length (heading_of file kind row).params ≡ length ws
  params-many = ap length params-are ∙ binders_many ws

  firsts : AreFirst s (length ws)
  firsts i below = (omega (arith, below, many), trees i below)

  pub is-begun : IsOver (signatures_in (tables_before file before)) s → s.mode ≡ mode_for (kind_at kind) → IsUnderway file kind row before s (first_items (length ws)) [] []
  is-begun over mode = record {
    may_run = may;
    over = over;
    mode = mode;
    context = ([], ctx ∙ sym params-are ∙ sym (append-nil (heading_of file kind row).params), no-dummies);
    params = subst (AreFirst s) (sym params-many) firsts;
    heap_in = first-in s (length ws) firsts;
    stack_in = tt;
    hyps_in = tt;
    few_hyps = omega arith;
  }

  pub state-begun : state_at s (first_items (length ws)) [] [] ≡ body_start strict (heading_of file kind row)
  state-begun =
      rw (
        ctx ∙ sym params-are,
        first-trees s (length ws) firsts,
        own-are strict 0 (heading_of file kind row).params,
        params-many,
      )
      refl
