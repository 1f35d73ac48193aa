-- The table by which a store finds its terms.
use Rattle.std.specs.Prelude.{ℕ, ◌≡◌, ◌<◌, ◌≤◌, ◌-◌, ◌==◌, List, length, get_or, slice_set, Option, Some, None, bit_and, if◌then◌else◌}
use Rattle.mz_store.specs.Hashes.{hash_of}
use Rattle.mz_store.specs.Kept.{IsChained}
use Rattle.mz_store.specs.declared.item.Id.{Id}
use Rattle.mz_store.specs.declared.node.Node.{Node}
use Rattle.mz_store.specs.declared.table.Bucket.{Bucket}
use Rattle.mz_store.specs.declared.table.Table.{Table}

-- the bucket, of so many, of a term over operands
abbrev pub bucket_of : ℕ → ℕ → ℕ → List Id → ℕ
bucket_of factor many head operands = bit_and (hash_of factor head operands) (many - 1)

-- past the end, where no call looks, one of no round
abbrev pub bucket_at : List Bucket → ℕ → Bucket
bucket_at buckets i = get_or buckets i (record { round = 0; last = record { 0 = 0 } })

-- what a bucket says in a round: nothing, if it was filled in another one
abbrev pub said_in : ℕ → Bucket → Option Id
said_in round b = if b.round == round then Some b.last else None

abbrev pub newest_of : Table → ℕ → Option Id
newest_of t i = said_in t.round (bucket_at t.buckets.items i)

-- no bucket was filled in a later round; rounds begin with 1
abbrev pub AreEarlier : Table → Type 0
AreEarlier t = (0 < t.round) × ((i : ℕ) → (bucket_at t.buckets.items i).round ≤ t.round)

abbrev pub KnowsNone : Table → Type 0
KnowsNone t = AreEarlier t × ((i : ℕ) → newest_of t i ≡ None)

-- t' is t with the id in the bucket
abbrev pub IsPut : Table → ℕ → Id → Table → Type 0
IsPut t i id t' = (t'.factor ≡ t.factor) × (t'.round ≡ t.round) × (t'.buckets.items ≡ slice_set t.buckets.items i (record { round = t.round; last = id }))

-- the terms of each bucket are a chain, which begins with the one that the table names
abbrev pub IsTable : Table → List Id → List Node → Type 0
IsTable t operands nodes = AreEarlier t × IsChained (bucket_of t.factor (length t.buckets.items)) operands nodes (newest_of t)
