-- The number by which a term over operands is looked up. Nothing rests on how well it says them apart,
-- nor on the factor, which a run may draw by chance.
use Rattle.std.specs.Prelude.{ℕ, ◌+◌, ◌*◌, ◌%◌, ◌/◌, ◌^◌, List, [], ◌∷◌}
use Rattle.mz_store.specs.declared.item.Id.{Id}

unfoldable pub spread : ℕ → ℕ → ℕ → ℕ
spread factor hash id = ((hash * factor) % 2 ^ 64 + id) % 2 ^ 64

-- the upper half is added to the lower one, so that hashes are no sums of multiples of ids
unfoldable pub mixed : ℕ → ℕ → ℕ → ℕ
mixed factor hash id = (spread factor hash id + spread factor hash id / 2 ^ 32) % 2 ^ 64

abbrev pub hash_of : ℕ → ℕ → List Id → ℕ
hash_of factor hash [] = hash
hash_of factor hash (i ∷ is) = hash_of factor (mixed factor hash i.0) is
