-- The word of an application names the variables of its operands.
use Rattle.std.proofs.Common.{◌≡◌, ℕ, List, Some, sym, ap, subst, ◌∙◌, inl, inr}
use Rattle.std.specs.Prelude.{◌↔◌}
use Rattle.mz_logic_theory.specs.Tree.{Tree, Trees, none, more, listed, var, app}
use Rattle.mz_logic_theory.specs.Variables.{InV, InSomeV}
use Rattle.mz_logic_theory.specs.Signature.{Signature}
use Rattle.mz_logic_theory.specs.declared.binder.Binder.{Binder}
use Rattle.mz_store.specs.Bits.{Tells, bound_vars}
use Rattle.mz_store.specs.Sharing.{Sharing, tree_of, trees_of, head_of, operands_of, DependsOn}
use Rattle.mz_store.specs.declared.item.Id.{Id}
use Rattle.mz_store.specs.declared.item.DepsMode.TheVariants as of
use Rattle.mz_unify.specs.Stored.{trees_at}
use Rattle.mz_unify.specs.Rows.{InAnyV, TellsAny}
use Rattle.mz_unify.proofs.StoredIds.{listed-trees}
use Rattle.mz_unify.proofs.VariableWords.{tells-one, tells-same}

any-listed : (ctx : List Binder) (es : Trees) (x : ℕ) → InSomeV ctx x es ↔ InAnyV ctx (listed es) x
any-listed ctx none x = ((λ h. h), (λ h. h))
any-listed ctx (more e es) x =
    let (to, from) = any-listed ctx es x in
    ((λ h. elim h [ inl here ↦ inl here | inr later ↦ inr (to later) ]), (λ h. elim h [ inl here ↦ inl here | inr later ↦ inr (from later) ]))

pub tells-listed : (ctx : List Binder) (word t : ℕ) (e : Tree) → head_of e ≡ Some t → Tells (bound_vars ctx) word (λ x. InV ctx x e) → TellsAny ctx word (listed (operands_of e))
tells-listed ctx word t (var y) is tells = absurd cc
tells-listed ctx word t (app u es) is tells = tells-same (bound_vars ctx) word (λ x. InSomeV ctx x es) (InAnyV ctx (listed es)) (any-listed ctx es) tells

pub tells-operands : (s : Sharing) (sigs : List Signature) (i : Id) (args : List Id) (word t : ℕ) → s.mode ≡ of.All → head_of (tree_of s i.0) ≡ Some t → trees_of s args ≡ operands_of (tree_of s i.0)
    → Tells (bound_vars s.context) word (DependsOn s.mode sigs s.context (tree_of s i.0)) → TellsAny s.context word (trees_at s args)
tells-operands s sigs i args word t all is are tells =
    subst (TellsAny s.context word) (ap listed (sym are) ∙ listed-trees s args) (tells-listed s.context word t (tree_of s i.0) is (tells-one s sigs i word (inl all) tells))
