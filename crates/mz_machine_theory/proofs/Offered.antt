-- What crates above may use of these proofs; all else is this crate's own, and may change.
pub use Rattle.mz_machine_theory.proofs.Assertions.{claims-sorted, end-ran, made, own-are, own-run}
pub use Rattle.mz_machine_theory.proofs.BodyRuns.{bound-never-ends, count-is-whole, steps-le}
pub use Rattle.mz_machine_theory.proofs.Declared.{pair-at, pairs-long, signature-at, signatures-are, signatures-of}
pub use Rattle.mz_machine_theory.proofs.Definitions.{last-expr}
pub use Rattle.mz_machine_theory.proofs.FreeVarLaws.{free-within, in-fv-true}
pub use Rattle.mz_machine_theory.proofs.Growing.{pairs-push}
pub use Rattle.mz_machine_theory.proofs.ListSteps.{add-times, times-grow}
pub use Rattle.mz_machine_theory.proofs.Lists.{follows, same-statement}
pub use Rattle.mz_machine_theory.proofs.Operands.{apart-from-test, fits-from, or-not}
pub use Rattle.mz_machine_theory.proofs.Outcomes.{bodies-checked, one-outcome}
pub use Rattle.mz_machine_theory.proofs.PlainRows.{citation-plain, end-plain, ends-plain, own-plain, row-plain, unfolding-plain}
pub use Rattle.mz_machine_theory.proofs.Renaming.{first-operand, no-app}
pub use Rattle.mz_machine_theory.proofs.RowsKeep.{definition-of, keeps, pop-is, stream-row}
pub use Rattle.mz_machine_theory.proofs.Stacks.{expr-top, operands-top, sides-top}
pub use Rattle.mz_machine_theory.proofs.Steps.{more-steps, within-steps}
pub use Rattle.mz_machine_theory.proofs.StrictRuns.{command-plain}
pub use Rattle.mz_machine_theory.proofs.WholeBody.{body-fact, from_follow, start-fact}
pub use Rattle.mz_machine_theory.proofs.Below.{EachBelow, below-occurs, text-met}
pub use Rattle.mz_machine_theory.proofs.Citations.{citation-is, hypothesis-is, length-params, map-reverse}
pub use Rattle.mz_machine_theory.proofs.Exact.{assertions-spelled, citations-exact, unfoldings-exact}
pub use Rattle.mz_machine_theory.proofs.FreshVars.{distinct, fresh-at, in-some}
pub use Rattle.mz_machine_theory.proofs.Inverting.{from_bind, from_need, from_then, from_want, need_ok, place-ok, rule_of-ok, some_is, taken, taken-is}
pub use Rattle.mz_machine_theory.proofs.Matching.{top-is}
pub use Rattle.mz_machine_theory.proofs.OneSpelling.{cmd-is, dummy-is, one-assertion, one-stream, one-term, one-text, ref-is, save-is, term-is}
pub use Rattle.mz_machine_theory.proofs.OwnStream.{assertion-spelled, definition-spelled, sorted-reverse}
pub use Rattle.mz_machine_theory.proofs.PlainRuns.{bind-same, unify-plain, unify_steps-plain}
pub use Rattle.mz_machine_theory.proofs.SomeText.{cited-spells, unfolded-spells}
pub use Rattle.mz_machine_theory.proofs.Spelled.{count-fits, place_from, renamed}
pub use Rattle.mz_machine_theory.proofs.TestLaws.{bit-not-set, bit-set, bound-is, in-v-true, is-bound, member-contains, not-both, not-in-v, v-in}
pub use Rattle.mz_machine_theory.proofs.Trees.{apart-is, fits-length, followed-by-variables, listed-trees_of, operand-trees_of, operands-sorted, parts-are, same_tree-refl, same_tree-true, trees_of-listed}
pub use Rattle.mz_machine_theory.proofs.Turning.{command-long, drop-less, follow-same, further, goes_to-same, if_read-same}
pub use Rattle.mz_machine_theory.proofs.TwoOperands.{two-fit}
pub use Rattle.mz_machine_theory.proofs.Unfolding.{unfolding-is}
pub use Rattle.mz_machine_theory.proofs.UnifyRuns.{stream-bound-never-ends, stream-count-is-whole, went-on}
