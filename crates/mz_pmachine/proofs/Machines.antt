-- A machine between two commands.
use Rattle.std.proofs.Common.{◌<◌, ◌^◌, ◌∙◌, ℕ, List, ◌++◌, length, ap, append_assoc}
use Rattle.std.proofs.lemmas.List.Elements.{All-append}
use Rattle.mz_logic_theory.specs.Legality.{IsDummy}
use Rattle.mz_store.specs.declared.item.Id.{Id}
use Rattle.mz_store.specs.declared.item.Item.{Item as Kept}
use Rattle.mz_machine_theory.specs.MachineState.{signatures_in}
use Rattle.mz_machine_theory.specs.Headings.{heading_of}
use Rattle.mz_machine_env.specs.Before.{tables_before}
use Rattle.mz_layout_tables.specs.declared.rows_so_far.Rows.{Rows}
use Rattle.mz_pmachine_unify.specs.Numbering.{Numbering, AreIn}
use Rattle.mz_pmachine_unify.specs.Stored.{AreItemsIn}
use Rattle.mz_pmachine_unify.proofs.Offered.{still-in}
use Rattle.mz_pmachine.specs.OverNodes.{Grows, IsUnderway}
use Rattle.mz_pmachine.proofs.TermResults.{expr-kept}

-- ---- after a command

pub goes-on : (file : List ℕ) (kind row : ℕ) (before : Rows) (s s' : Numbering) (heap stack heap' stack' : List Kept) (hyps hyps' : List Id)
    → IsUnderway file kind row before s heap stack hyps → Grows (signatures_in (tables_before file before)) s s'
    → AreItemsIn s' heap' → AreItemsIn s' stack' → AreIn s' hyps' → length hyps' < 2 ^ 32
    → IsUnderway file kind row before s' heap' stack' hyps'
goes-on file kind row before s s' heap stack heap' stack' hyps hyps' was grows in-heap in-stack in-hyps few = record {
  may_run = was.may_run;
  over = grows.over;
  mode = grows.mode ∙ was.mode;
  context = (
    was.context.0 ++ grows.context.0,
    grows.context.1 ∙ ap (λ ctx. ctx ++ grows.context.0) was.context.1 ∙ append_assoc (heading_of file kind row).params was.context.0 grows.context.0,
    All-append IsDummy was.context.0 grows.context.0 was.context.2 grows.context.2,
  );
  params = λ i below. (let h = was.params i below in (still-in s s' grows.keeps i h.0, expr-kept s s' grows.keeps i h.0 ∙ h.1));
  heap_in = in-heap;
  stack_in = in-stack;
  hyps_in = in-hyps;
  few_hyps = few;
}
