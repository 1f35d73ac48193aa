-- Items over nodes, as expressions.
use Rattle.std.proofs.Common.{◌≡◌, List, [], ◌∷◌, Ok, refl, subst}
use Rattle.std.specs.Prelude.{map}
use Rattle.mz_pmachine_theory.specs.NodeIdentity.{Numbered}
use Rattle.mz_pmachine_unify.specs.Numbering.{Numbering, AreIn, expr_of}
use Rattle.mz_store.specs.declared.item.Id.{Id}
use Rattle.mz_store.specs.declared.item.Item.{Item as Kept}
use Rattle.mz_store.specs.declared.item.Item.TheVariants.{Expr}
use Rattle.mz_pmachine_unify.specs.Stored.{item_at, AreItemsIn}
use Rattle.mz_machine.specs.OverStore.{exprs_of}
use Rattle.mz_machine.proofs.Offered.{ItemsOf, exprs-are}

pub of-nodes : (s : Numbering) → ItemsOf Numbered (item_at s) (λ i. expr_of s i.0)
of-nodes s = record { exprs = λ i. refl; proofs = λ i. refl; obligations = λ i j. refl; conversions = λ i j. refl }

are-ids : (s : Numbering) (is : List Id) → AreItemsIn s (map Expr is) → AreIn s is
are-ids s [] h = tt
are-ids s (i ∷ is) h = (h.0, are-ids s is h.1)

pub exprs-in : (s : Numbering) (xs : List Kept) (is : List Id) → exprs_of xs ≡ Ok is → AreItemsIn s xs → AreIn s is
exprs-in s xs is h inside = are-ids s is (subst (AreItemsIn s) (exprs-are xs is h) inside)
