-- What crates above may use of these proofs; all else is this crate's own, and may change.
pub use Rattle.mz_store.proofs.AllVariables.{all-end, all-step}
pub use Rattle.mz_store.proofs.BoundOperands.{At, bits-over, names-told, places-are-bound, places-next, places-over, places-within, take-place}
pub use Rattle.mz_store.proofs.Chained.{only-last}
pub use Rattle.mz_store.proofs.Entering.{adds-past, inside-grown, tells-longer, tells-variable, told-of-var}
pub use Rattle.mz_store.proofs.FreeVariables.{FreeFrom, free-end, free-skip, free-take}
pub use Rattle.mz_store.proofs.Gathering.{Gathers, zero-or-one}
pub use Rattle.mz_store.proofs.OverTerms.{on-ok-from, signature-at}
pub use Rattle.mz_store.proofs.Meeting.{bits-meet, bound-has, old-ids-keep-trees}
pub use Rattle.mz_store.proofs.Operands.{args-many, bound-at, rest_of}
pub use Rattle.mz_store.proofs.ParamWords.{context-after, context_after, next-word, rest-right, word-right}
pub use Rattle.mz_store.proofs.Params.{binder-at, many, next-binder, nothing, taken-all}
pub use Rattle.mz_store.proofs.Places.{bound-once, bound-push, set-from}
pub use Rattle.mz_store.proofs.Taking.{fit-all, fit-next, in-all, in-next, over-begun, over-grown}
pub use Rattle.mz_store.proofs.Adding.{byte-is}
