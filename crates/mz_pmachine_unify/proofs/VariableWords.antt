-- Words of variables, over expressions that carry numbers.
use Rattle.std.proofs.Common.{◌≡◌, ℕ, zero, suc, ◌+◌, Bool, true, false, not, eqb, List, [], ◌∷◌, ◌++◌, map, take, Some, refl, sym, ap, subst, ◌∙◌, add-one}
use Rattle.std.specs.Prelude.{slice_get, bit_and, bit_or, ◌==◌, ◌&&◌, ◌||◌}
use Rattle.std.proofs.lemmas.List.{map-append}
use Rattle.mz_logic_theory.specs.Tree.{Tree, app, listed}
use Rattle.mz_logic_theory.specs.Signature.{Signature}
use Rattle.mz_logic_theory.specs.Sorts.{HasSort, IsBoundVar}
use Rattle.mz_logic_theory.specs.Legality.{sort_of}
use Rattle.mz_logic_theory.specs.Variables.{InV}
use Rattle.mz_logic_theory.specs.declared.binder.Binder.{Binder}
use Rattle.mz_store.specs.Bits.{Tells, bound_vars}
use Rattle.mz_store.specs.Sharing.{Sharing}
use Rattle.mz_store.specs.declared.item.Id.{Id}
use Rattle.mz_store.specs.declared.item.DepsMode.TheVariants.{All}
use Rattle.mz_machine_theory.specs.Profile.{strict}
use Rattle.mz_machine_theory.specs.Tests.{is_bound_var, var_within}
use Rattle.mz_machine_theory.specs.UnifyMachine.{within_any, is_fresh}
use Rattle.mz_unify.specs.Rows.{TellsAny}
use Rattle.mz_machine_theory.proofs.Offered.{listed-trees_of}
use Rattle.mz_unify.proofs.Offered.{tells-any-push, tells-listed, fresh-word, not-bound as tree-not-bound, other-sort as tree-other-sort}
use Rattle.mz_pmachine_theory.specs.NodeIdentity.{Numbered, a_variable, an_application, operand_trees, tree_of, portable}
use Rattle.mz_pmachine_unify.specs.Numbering.{Numbering, expr_of, exprs_of, head_of, operands_of}
use Rattle.mz_pmachine_unify.specs.Stored.{exprs_at, trees_at}
use Rattle.mz_pmachine_unify.proofs.StoredIds.{exprs-append, trees-of}

-- ---- one more expression is reported

pub tells-push : (ctx : List Binder) (v w : ℕ) (es : List Numbered) (e : Numbered) → TellsAny ctx v (map tree_of es) → Tells (bound_vars ctx) w (λ x. InV ctx x (tree_of e))
    → TellsAny ctx (bit_or v w) (map tree_of (es ++ e ∷ []))
tells-push ctx v w es e p q = subst (TellsAny ctx (bit_or v w)) (sym (map-append tree_of es (e ∷ []))) (tells-any-push ctx v w (map tree_of es) (tree_of e) p q)

pub tells-next : (s : Numbering) (is : List Id) (k : ℕ) (i : Id) (v w : ℕ) → slice_get is k ≡ Some i
    → TellsAny s.context v (map tree_of (exprs_at s (take k is))) → Tells (bound_vars s.context) w (λ x. InV s.context x (tree_of (expr_of s i.0)))
    → TellsAny s.context (bit_or v w) (map tree_of (exprs_at s (take (k + 1) is)))
tells-next s is k i v w at p q =
    rw (add-one k, take-next is k i at, exprs-append s (take k is) (i ∷ [])) (tells-push s.context v w (exprs_at s (take k is)) (expr_of s i.0) p q)
  where
    take-next : (xs : List Id) (n : ℕ) (x : Id) → slice_get xs n ≡ Some x → take (suc n) xs ≡ take n xs ++ x ∷ []
    take-next [] n x h = absurd cc
    take-next (y ∷ ys) zero x h = let same : y ≡ x = cc in rw same refl
    take-next (y ∷ ys) (suc n) x h = ap (λ (zs : List Id). y ∷ zs) (take-next ys n x h)

-- ---- the word of an application names the variables of its operands

of-expr : (ctx : List Binder) (word t : ℕ) (e : Numbered) → head_of e ≡ Some t → Tells (bound_vars ctx) word (λ x. InV ctx x (tree_of e)) → TellsAny ctx word (listed (operand_trees (operands_of e)))
of-expr ctx word t (a_variable x) is tells = absurd cc
of-expr ctx word t (an_application n u es) is tells = tells-listed ctx word u (app u (operand_trees es)) refl tells

pub tells-operands : (s : Numbering) (i : Id) (args : List Id) (word t : ℕ) → head_of (expr_of s i.0) ≡ Some t → exprs_of s args ≡ operands_of (expr_of s i.0)
    → Tells (bound_vars s.context) word (λ x. InV s.context x (tree_of (expr_of s i.0))) → TellsAny s.context word (map tree_of (exprs_at s args))
tells-operands s i args word t is are tells =
    subst (TellsAny s.context word) (ap (λ es. listed (operand_trees es)) (sym are) ∙ ap listed (sym (trees-of s args)) ∙ listed-trees_of (trees_at s args)) (of-expr s.context word t (expr_of s i.0) is tells)

-- ---- fresh variables: numbers make no difference

within-is : (ctx : List Binder) (e : Numbered) (es : List Numbered) → within_any portable ctx e es ≡ within_any strict ctx (tree_of e) (map tree_of es)
within-is ctx e [] = refl
within-is ctx e (f ∷ es) = ap (λ (b : Bool). var_within ctx (tree_of e) (tree_of f) || b) (within-is ctx e es)

fresh-is : (sigs : List Signature) (ctx : List Binder) (sort : ℕ) (e : Numbered) (es : List Numbered) → is_fresh portable sigs ctx sort e es ≡ is_fresh strict sigs ctx sort (tree_of e) (map tree_of es)
fresh-is sigs ctx sort e es = ap (λ (b : Bool). is_bound_var ctx (tree_of e) && sort_of sigs ctx (tree_of e) == sort && not b) (within-is ctx e es)

-- a tree by itself
abbrev alone : List Binder → Tree → Sharing
alone ctx e = record { context = ctx; mode = All; entries = record { tree = e; sort = 0; deps = 0 } ∷ [] }

abbrev its : Id
its = record { 0 = 0 }

module _ (sigs : List Signature) (ctx : List Binder) (es : List Numbered) (e : Numbered) (sort : ℕ) where
  pub not-bound : (IsBoundVar ctx (tree_of e) → ⊥) → is_fresh portable sigs ctx sort e es ≡ false
  not-bound h = fresh-is sigs ctx sort e es ∙ tree-not-bound (alone ctx (tree_of e)) sigs (map tree_of es) its sort h

  pub other-sort : (n : ℕ) → IsBoundVar ctx (tree_of e) → HasSort sigs ctx (tree_of e) n → eqb n sort ≡ false → is_fresh portable sigs ctx sort e es ≡ false
  other-sort n bound sorted differ = fresh-is sigs ctx sort e es ∙ tree-other-sort (alone ctx (tree_of e)) sigs (map tree_of es) its sort n bound sorted differ

  pub fresh-is-word : (n word apart : ℕ) → IsBoundVar ctx (tree_of e) → HasSort sigs ctx (tree_of e) n → eqb n sort ≡ true
      → Tells (bound_vars ctx) word (λ x. InV ctx x (tree_of e)) → TellsAny ctx apart (map tree_of es) → eqb (bit_and word apart) 0 ≡ is_fresh portable sigs ctx sort e es
  fresh-is-word n word apart bound sorted same own told =
      fresh-word (alone ctx (tree_of e)) sigs (map tree_of es) its sort n word apart bound sorted same own told ∙ sym (fresh-is sigs ctx sort e es)
