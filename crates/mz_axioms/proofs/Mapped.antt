-- What is in a list of values.
use Rattle.std.proofs.Common.{◌≡◌, List, map}
use Rattle.std.specs.Prelude.{Contains}
use Rattle.mz_base.proofs.Offered.{slice_get-map_back, slice_get-map_at, place-of as contained-get, contains_at}

pub contains-map : {A B : Type 0} (f : A → B) (xs : List A) (x : A) → Contains xs x → Contains (map f xs) (f x)
contains-map f xs x has = let (k, at) = contained-get xs x has in contains_at (map f xs) k (f x) (slice_get-map_at f xs k x at)

pub map-contains : {A B : Type 0} (f : A → B) (xs : List A) (y : B) → Contains (map f xs) y → (x : A) × Contains xs x × (f x ≡ y)
map-contains f xs y has =
    let (k, at) = contained-get (map f xs) y has in
    let (x, there, is) = slice_get-map_back f xs k y at in
    (x, contains_at xs k x there, is)
