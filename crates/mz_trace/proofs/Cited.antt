-- What a citation matches is the instance of the conclusion.
use Rattle.std.proofs.Common.{◌≡◌, ℕ, List, length, Some, Ok, sym, ap, ◌∙◌, subst}
use Rattle.std.specs.Prelude.{slice_get}
use Rattle.std.proofs.lemmas.Option.{get_or_from_slice_get}
use Rattle.mz_logic_theory.specs.Tree.{Tree, instance}
use Rattle.mz_logic_theory.specs.Signature.{Signature}
use Rattle.mz_logic_theory.specs.Declaration.{Assertion, Declaration, signatures, assertions}
use Rattle.mz_logic_theory.specs.declared.binder.Binder.{Binder}
use Rattle.mz_mmu_theory.specs.Sides.{assertion_at}
use Rattle.mz_machine_theory.specs.UnifyLaws.{citing}
use Rattle.mz_machine_theory.specs.Profile.{strict, Item}
use Rattle.mz_machine_theory.specs.Spells.{SpelledThm, SpellsThm, trees_of}
use Rattle.mz_machine_theory.specs.UnifyMachine.{UnifyState, unify}
use Rattle.mz_machine_theory.proofs.Offered.{citation-is, pair-at, signatures-are, expr-top, operands-top}
use Rattle.mz_machine_theory.specs.MachineState.{RowsBefore, State, Declares, signatures_in}
use Rattle.mz_machine_theory.specs.Premises.{pop_expr, pop_operands}
use Rattle.mz_machine_theory.specs.Invariant.{Fact}
use Rattle.mz_trace.specs.Nodes.{conclusion_under}
use Rattle.mz_trace.specs.Commands.{anything}

pub cited-claim : (tables : RowsBefore) (env : List Declaration) → Declares tables env → (params full : List Binder) (st : State Tree) → Fact anything env params full st
    → (t : ℕ) (row : SpelledThm) (x : Tree × List (Item Tree)) (es : List Tree × List (Item Tree)) (u : UnifyState Tree)
    → slice_get tables.thms t ≡ Some row → pop_expr st.stack ≡ Ok x → pop_operands (length row.params) x.1 ≡ Ok es
    → unify strict (signatures_in tables) st.ctx (citing row.stream es.0 x.0 es.1) ≡ Ok u → x.0 ≡ conclusion_under env t es.0
cited-claim tables env declares params full st fact t row x es u row-at popping popping-es ran =
    let sigs : List Signature = signatures env in
    let ran' : unify strict sigs st.ctx (citing row.stream es.0 x.0 es.1) ≡ Ok u =
    subst (λ (z : List Signature). unify strict z st.ctx (citing row.stream es.0 x.0 es.1) ≡ Ok u) (signatures-are tables env declares) ran in
    let (x-sorted, x-rest, x-holds) = expr-top anything env full st.ctx st.hyps st.stack x popping fact.stack_sorted fact.stack_holds in
    let (sorted, rest-sorted, rest-holds, len) = operands-top anything env full st.ctx st.hyps (length row.params) x.1 es popping-es x-rest x-holds in
    let (a, a-at, spells) = pair-at (SpellsThm sigs) tables.thms (assertions env) declares.thms_are t row row-at in
    let (hs, hs-are, x-is, items-are) = citation-is sigs st.ctx row a spells es.0 x.0 es.1 u len x-sorted rest-sorted ran' in
    let at-is : assertion_at env t ≡ a = get_or_from_slice_get (assertions env) t a _ a-at in
    x-is ∙ ap (λ (b : Assertion). instance (trees_of es.0) b.conclusion) (sym at-is)
