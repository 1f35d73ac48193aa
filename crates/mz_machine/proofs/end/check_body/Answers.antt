use Rattle.std.proofs.Common.{◌∙◌, true, false, length, sym, ap, subst}
use Rattle.mz_logic_theory.specs.Sorts.{HasSort}
use Rattle.mz_logic_theory.specs.Words.{word_sort}
use Rattle.mz_store.specs.Sharing.{tree_of}
use Rattle.mz_machine_theory.specs.Profile.{strict}
use Rattle.mz_machine_theory.specs.FreeVars.{free_within}
use Rattle.mz_machine_theory.specs.MachineState.{is_definition}
use Rattle.mz_machine_env.specs.Before.{signatures_of, tables_of}
use Rattle.mz_machine_theory.specs.Headings.{heading_by}
use Rattle.mz_machine.proofs.EndRows.{body-free, body-sort}
use Rattle.mz_machine.proofs.end.check_body.Goals as goal

pub returns-then-sort_of-sort : goal.returns-then-sort_of-sort
returns-then-sort_of-sort c st ctx =
    let E = c.args.env.now in
    let e = tree_of c.args.store.now c.args.target.0 in
    body-sort strict (tables_of E) (heading_by E.file c.args.row is_definition) st e c.sort_of.result
    (subst (λ bs. HasSort (signatures_of E) bs e c.sort_of.result) (sym ctx) (c.sort_of.ensures.sort _ c.requires.over))
    (λ same. c.if-sort_of-sort.true (same ∙ sym (c.sort.ensures ∙ ap word_sort c.own_result-result.ensures)))

pub returns-then-not-are_free_within : goal.returns-then-not-are_free_within
returns-then-not-are_free_within c st ctx =
    let E = c.args.env.now in
    let e = tree_of c.args.store.now c.args.target.0 in
    let h = heading_by E.file c.args.row is_definition in
    body-free strict (tables_of E) h st e c.sort_of.result false
    (subst (λ bs. HasSort (signatures_of E) bs e c.sort_of.result) (sym ctx) (c.sort_of.ensures.sort _ c.requires.over))
    (c.if-sort_of-sort.false ∙ (c.sort.ensures ∙ ap word_sort c.own_result-result.ensures))
    (ap (λ bs. free_within (signatures_of E) bs h.result.deps e (length bs)) ctx ∙ sym c.are_free_within.ensures ∙ c.if-not-are_free_within.true)

pub returns : goal.returns
returns c st ctx =
    let E = c.args.env.now in
    let e = tree_of c.args.store.now c.args.target.0 in
    let h = heading_by E.file c.args.row is_definition in
    body-free strict (tables_of E) h st e c.sort_of.result true
    (subst (λ bs. HasSort (signatures_of E) bs e c.sort_of.result) (sym ctx) (c.sort_of.ensures.sort _ c.requires.over))
    (c.if-sort_of-sort.false ∙ (c.sort.ensures ∙ ap word_sort c.own_result-result.ensures))
    (ap (λ bs. free_within (signatures_of E) bs h.result.deps e (length bs)) ctx ∙ sym c.are_free_within.ensures ∙ c.if-not-are_free_within.false)
