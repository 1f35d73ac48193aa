use Rattle.std.proofs.Common.{◌∙◌, refl, length, sym, ap, subst}
use Rattle.mz_logic_theory.specs.Words.{binders_of, BitsRight}
use Rattle.mz_store.specs.Bits.{bound_vars}
use Rattle.mz_machine_theory.specs.MachineState.{signatures_in}
use Rattle.mz_machine_env.specs.OwnRow.{byte_of, mode_for, first_items}
use Rattle.mz_machine_theory.specs.Headings.{kind_at}
use Rattle.mz_machine_env.specs.Before.{tables_before}
use Rattle.mz_machine_env.proofs.Offered.{kind-byte, own-bits, words-are}
use Rattle.mz_pmachine.proofs.Beginning.{params-are, params-many, is-begun, state-begun, AreVars}
use Rattle.mz_pmachine.proofs.machine.Setting.begin.Goals as goal

pub read_words-requires : goal.read_words-requires
read_words-requires c = rw (c.new-env.ensures.file, c.new-env.ensures.rows, sym (kind-byte c.args.kind)) c.requires.next

pub begin-requires : goal.begin-requires
begin-requires c =
    let words = words-are _ c.new-env.result.file c.args.mmb.now c.args.row _ (kind_at (byte_of c.args.kind)) c.in_ok-read_words.ensures c.new-env.ensures.file (sym (kind-byte c.args.kind)) in
    subst BitsRight (sym (c.as_slice.ensures.value ∙ words)) (own-bits c.args.mmb.now c.args.before c.args.row (kind_at (byte_of c.args.kind)) c.requires.next)

pub returns-clause-running : goal.returns-clause-running
returns-clause-running c =
    let s = c.begin.new.self in
    let ws = c.read_words.new.words.items in
    let words = words-are _ c.new-env.result.file c.args.mmb.now c.args.row _ (kind_at (byte_of c.args.kind)) c.in_ok-read_words.ensures c.new-env.ensures.file (sym (kind-byte c.args.kind)) in
    let ctx = c.in_ok-begin.ensures.context ∙ ap binders_of c.as_slice.ensures.value in
    let many = c.in_ok-begin.ensures.many ∙ ap length c.as_slice.ensures.value in
    let exprs = subst (AreVars s) c.as_slice.ensures.value c.in_ok-begin.ensures.exprs in
    let mode = c.in_ok-begin.ensures.mode ∙ c.deps_mode.ensures ∙ ap mode_for (sym (kind-byte c.args.kind)) in
    let begun = is-begun c.args.mmb.now (byte_of c.args.kind) c.args.row c.args.before s ws c.requires words ctx many exprs (c.in_ok-begin.ensures.over (signatures_in (tables_before c.args.mmb.now c.args.before))) mode in
    let bound = c.bound_count-bound_params.ensures.many ∙ ap (λ ps. length (bound_vars ps)) (ctx ∙ sym (params-are c.args.mmb.now (byte_of c.args.kind) c.args.row c.args.before s ws c.requires words ctx many exprs)) in
    rw (c.new-env.ensures.file, c.new-env.ensures.rows, c.in_ok-first_items.ensures ∙ ap first_items (c.len.ensures ∙ c.read_words.new.words.ok.0), c.clear.ensures.items, c.clear-2.ensures.items, c.clear-3.ensures.items) (begun, bound, (tt, tt))

pub returns-clause-begun : goal.returns-clause-begun
returns-clause-begun c =
    let s = c.begin.new.self in
    let ws = c.read_words.new.words.items in
    let words = words-are _ c.new-env.result.file c.args.mmb.now c.args.row _ (kind_at (byte_of c.args.kind)) c.in_ok-read_words.ensures c.new-env.ensures.file (sym (kind-byte c.args.kind)) in
    let ctx = c.in_ok-begin.ensures.context ∙ ap binders_of c.as_slice.ensures.value in
    let many = c.in_ok-begin.ensures.many ∙ ap length c.as_slice.ensures.value in
    let exprs = subst (AreVars s) c.as_slice.ensures.value c.in_ok-begin.ensures.exprs in
    record {
      file_is = c.new-env.ensures.file;
      kind_is = refl;
      row_is = refl;
      before_is = c.new-env.ensures.rows;
      state = rw (c.in_ok-first_items.ensures ∙ ap first_items (c.len.ensures ∙ c.read_words.new.words.ok.0), c.clear.ensures.items, c.clear-2.ensures.items, c.clear-3.ensures.items) (state-begun c.args.mmb.now (byte_of c.args.kind) c.args.row c.args.before s ws c.requires words ctx many exprs);
      next = c.in_ok-begin.ensures.next;
      nodes = many ∙ sym (params-many c.args.mmb.now (byte_of c.args.kind) c.args.row c.args.before s ws c.requires words ctx many exprs);
    }
