-- Lists of ids are compared one by one.
use Rattle.std.proofs.Common.{◌≡◌, Bool, List, Decides, refl, ap}
use Rattle.std.specs.Cmp.Lexicographic.{pointwise}
use Rattle.std.proofs.lemmas.Bool.Decides.{Decides-eqb}
use Rattle.std.proofs.lemmas.Slice.Eq.{slice_eq-Decides}
use Rattle.mz_store.specs.declared.item.Id.{Id}
use Rattle.mz_store.specs.contracts.item.IdPartialEq.TheImpl as id_impl

abbrev id_eq : Id → Id → Bool
id_eq = (id_impl.ghosts).eq

id-decides : (a b : Id) → Decides (id_eq a b) (a ≡ b)
id-decides a b = (λ t. ap (λ n. record { 0 = n }) ((Decides-eqb a.0 b.0).0 t), λ is. (Decides-eqb a.0 b.0).1 (ap (λ i. i.0) is))

pub ids-decide : (xs ys : List Id) → Decides (pointwise id_eq xs ys) (xs ≡ ys)
ids-decide xs ys = slice_eq-Decides id-decides xs ys (pointwise id_eq xs ys) refl
