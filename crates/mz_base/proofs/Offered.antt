-- What crates above may use of these proofs; all else is this crate's own, and may change.
pub use Rattle.mz_base.proofs.Identifying.{digit-at, digit-between, digits-named}
pub use Rattle.mz_base.proofs.Keyed.{Tells, first-place, no-place, tells-each}
pub use Rattle.mz_base.proofs.Numbering.{all-others, known-first, known-later, new-both, new-first, new-last, new-more, new-other, new-parts, number-both, number-last, number-more, number-within, or_later}
pub use Rattle.mz_base.proofs.CheckLaws.{all_hold-excludes, all_hold-or_fails, fails_first-unique}
pub use Rattle.mz_base.proofs.InOrder.{Decides, all_hold-both, all_hold-first, all_hold-rest, all_hold-rows, are_decided-both, are_decided-rows, at_most-decided, both-decided, bytes-decided, decides-after, decides-whole, fails-after, fails-before, implied-decided, judges-after, row-fails, row-passed, rows_from}
pub use Rattle.mz_base.proofs.Retold.{retold-decided, retold-fails, retold-held, retold-holds}
pub use Rattle.mz_base.proofs.Deciding.{below-decided, both-true, Decided, either-decided, false-decided, not-decided, not-true, or-cases, or-false, other-bytes, same-bytes, some-decided, three-decided, true-decided}
pub use Rattle.mz_base.proofs.Loops.{all-members, all_so_far_more, AllSoFar, each_before_more}
pub use Rattle.mz_base.proofs.Members.{contains-decided, contains_at, contains_cases, contains_head, contains_none, contains_tail, place-of}
pub use Rattle.mz_base.proofs.Places.{appended, below-or-last, drop-item, drop-past, length-push, nil-cons, one-further, same-head, same-tail, slice_get-append, slice_get-append_add, slice_get-append_cases, slice_get-front, slice_get-last, slice_get-map_at, slice_get-map_back, slice_get-push_cases, slice_get-some, slice_get-within, slice_range-end, some-length, take-short}
