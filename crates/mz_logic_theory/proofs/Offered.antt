-- What crates above may use of these proofs; all else is this crate's own, and may change.
pub use Rattle.mz_logic_theory.proofs.AreDisjoint.{disjoint_instances, in_instance, instance_has, operand_has_sort}
pub use Rattle.mz_logic_theory.proofs.AsExprs.{expr-at, expr-read, exprs-within, exprs_of, length-exprs, trees-exprs}
pub use Rattle.mz_logic_theory.proofs.Bound.{body_has_sort, depends_on_bound, free_is_bound, is_at}
pub use Rattle.mz_logic_theory.proofs.Closing.{closed_unless, legal_at, legal_by_supports, legal_list_by_axioms, legal_list_is_closed, legal_list_is_legal_env}
pub use Rattle.mz_logic_theory.proofs.Compose.{instance-instance, instances-followed_by}
pub use Rattle.mz_logic_theory.proofs.Constructors.{no-application, no-trees, same-first, same-operands, same-rest, same-term, same-variable, trees_size-followed}
pub use Rattle.mz_logic_theory.proofs.EightRules.{legal_by_rules}
pub use Rattle.mz_logic_theory.proofs.Extend.{Extends, disjoint_extends, assertions-append, env_extends_append, extends_append, extends_itself, fits_extends, fresh_extends, in_v_back, in_v_extends, length-signatures, same-signatures, same-sorts, signatures-append, sort_extends, sorts-append, sorts-few, terms-append, terms-few}
pub use Rattle.mz_logic_theory.proofs.Follow.{followed_by_assoc, followed_by_none, followed_by_push}
pub use Rattle.mz_logic_theory.proofs.Fresh.{split_at}
pub use Rattle.mz_logic_theory.proofs.Graft.{cites_more}
pub use Rattle.mz_logic_theory.proofs.Instance.{bound_operand, fits_of_instances, one_at, sort_of_instance}
pub use Rattle.mz_logic_theory.proofs.Left.{some_passed}
pub use Rattle.mz_logic_theory.proofs.LegalIsRight.{legal_env_is_right, legal_push}
pub use Rattle.mz_logic_theory.proofs.Lists.{all_at_end, all_from_each, each_at_end, each_from_all, each_so_far_more, not_all, nothing_in}
pub use Rattle.mz_logic_theory.proofs.Longer.{conversion_keeps_sort, derived_has_provable, keep_disjoint, keep_conversions, keep_derivations, keep_fits, keep_sorts, keep_variables}
pub use Rattle.mz_logic_theory.proofs.Lookup.{none_read}
pub use Rattle.mz_logic_theory.proofs.Past.{at-end, past-at, past-end}
pub use Rattle.mz_logic_theory.proofs.PlainLegality.{assertions_are_sorted, terms_are_sorted}
pub use Rattle.mz_logic_theory.proofs.Ranges.{slice_get-rows}
pub use Rattle.mz_logic_theory.proofs.Repeated.{each_repeated, in_range_repeated}
pub use Rattle.mz_logic_theory.proofs.Rules.{many_of_fits, one_sort, operand_in_range, range_of_sort, ranges_of_fits, signature_is, sort_by_rules, sort_is}
pub use Rattle.mz_logic_theory.proofs.Scoped.{DepsInside, free_below}
pub use Rattle.mz_logic_theory.proofs.SortedSides.{sorted_sides}
pub use Rattle.mz_logic_theory.proofs.Sound.{signature_of_term}
pub use Rattle.mz_logic_theory.proofs.Trees.{operand_in, operand_past}
pub use Rattle.mz_logic_theory.proofs.Under.{in_v-under}
pub use Rattle.mz_logic_theory.proofs.WordBits.{length-binders, place_to, set_cases, words_say_dependencies}
pub use Rattle.mz_logic_theory.proofs.WordsAsParams.{words_say_parameters, words_say_results}
pub use Rattle.mz_logic_theory.proofs.WordsWritten.{After, among-true, at-first, bits-few, here, next, params-back, places-same, result-is-word, result-says, results-back, says, words-are-words}
