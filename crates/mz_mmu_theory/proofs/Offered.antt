-- What crates above may use of these proofs; all else is this crate's own, and may change.
pub use Rattle.mz_mmu_theory.proofs.Cursors.{list_of, node_size_positive, opened, stands_from, stands_there, stepped}
pub use Rattle.mz_mmu_theory.proofs.Declaring.{Agrees, agrees_first, agrees_more, statement_says}
pub use Rattle.mz_mmu_theory.proofs.ExprRules.{fits_by_checks, instances_many, sort_by_checks}
pub use Rattle.mz_mmu_theory.proofs.GapFree.{allowed}
pub use Rattle.mz_mmu_theory.proofs.Hold.{conv_holds, dummies_hold, dummy_holds, dummy_new, dummy_word, expr_holds, expr_list_holds, known_holds, names_few, new_holds, new_name_both, new_name_is, new_name_word, param_holds, param_name_holds, param_new, param_word, params_hold, proof_holds, result_holds, taken_left, taken_right, variable_list_holds}
pub use Rattle.mz_mmu_theory.proofs.HoldStatements.{hyp_holds, hyp_new, hyp_word, hyps_hold, modifiers_asked_more, modifiers_read_more, stops_front}
pub use Rattle.mz_mmu_theory.proofs.OneAnswer.{one_answer, one_reading, some_answer}
pub use Rattle.mz_mmu_theory.proofs.OneStatement.{statements_once}
pub use Rattle.mz_mmu_theory.proofs.OnlyDrafts.{only_drafts}
pub use Rattle.mz_mmu_theory.proofs.StatementRules.{legal_decl}
pub use Rattle.mz_mmu_theory.proofs.StatementsRead.{statements_there}
pub use Rattle.mz_mmu_theory.proofs.Texts.{each_typed_or_refused, rules_are_the_meaning, stated_is_legal}
pub use Rattle.mz_mmu_theory.proofs.Whole.{are_whole}
