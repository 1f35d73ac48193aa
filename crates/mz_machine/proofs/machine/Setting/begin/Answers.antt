use Rattle.std.proofs.Common.{◌∙◌, refl, sym, ap, subst}
use Rattle.std.specs.Prelude.{IfSome}
use Rattle.mz_base.specs.Gaps.{gaps_of}
use Rattle.mz_machine_theory.specs.MachineState.{signatures_in}
use Rattle.mz_machine_env.specs.OwnRow.{byte_of, kind_of, own_words, first_items}
use Rattle.mz_machine_theory.specs.Headings.{kind_at, heading_of}
use Rattle.mz_machine_env.specs.Before.{tables_before}
use Rattle.mz_machine.specs.Parameters.{Remembers}
use Rattle.mz_machine.specs.declared.params.Entered.{Entered}
use Rattle.mz_machine.proofs.GapRows.{start-plain}
use Rattle.mz_machine_env.proofs.Offered.{kind-byte, own-bits}
use Rattle.mz_machine.proofs.Beginning.{params-many, is-begun, state-begun}
use Rattle.mz_machine.proofs.KnownParams.{entered-as, own-as, own-few, own-words}
use Rattle.mz_machine.proofs.machine.Setting.begin.Goals as goal

pub enter-requires-clause-next : goal.enter-requires-clause-next
enter-requires-clause-next c = rw (c.new-env.ensures.file, c.new-env.ensures.rows, sym (kind-byte c.args.kind)) c.requires.may_run.next

pub enter-requires-clause-bits : goal.enter-requires-clause-bits
enter-requires-clause-bits c = rw (c.new-env.ensures.file, sym (kind-byte c.args.kind)) (own-bits c.args.mmb.now c.args.before c.args.row (kind_at (byte_of c.args.kind)) c.requires.may_run.next)

pub enter-requires-clause-last : goal.enter-requires-clause-last
enter-requires-clause-last c = subst (λ f. IfSome c.args.last (λ (last : Entered). Remembers f last c.args.parts.now.store)) (sym c.new-env.ensures.file) c.requires.last

pub enter-requires-clause-few : goal.enter-requires-clause-few
enter-requires-clause-few c = rw (c.new-env.ensures.file, sym (kind-byte c.args.kind)) (own-few c.args.mmb.now c.args.before c.args.row (kind_at (byte_of c.args.kind)) c.file.ensures.binary c.requires.may_run.next)

pub returns-clause-running : goal.returns-clause-running
returns-clause-running c =
    let s = c.enter.new.store in
    let file = c.args.mmb.now in
    let kind = kind_at (byte_of c.args.kind) in
    let ws = own_words file c.args.row kind in
    let e = entered-as c.new-env.result.file file c.args.row (kind_of c.args.kind) kind s c.new-env.ensures.file (sym (kind-byte c.args.kind)) c.in_ok-entered.ensures.entered in
    let begun = is-begun file (byte_of c.args.kind) c.args.row c.args.before s ws c.requires.may_run refl e.context e.many e.trees (e.over (signatures_in (tables_before file c.args.before))) e.mode in
    let own = own-as c.new-env.result.file file c.args.row (kind_of c.args.kind) kind c.in_ok-entered.entered c.new-env.ensures.file (sym (kind-byte c.args.kind)) c.in_ok-entered.ensures.own in
    let many = own-words file c.args.row kind c.in_ok-entered.entered own in
    rw (c.new-env.ensures.file, c.new-env.ensures.rows, c.in_ok-begin.ensures ∙ ap first_items many, c.clear.ensures.items, c.clear-2.ensures.items, c.clear-3.ensures.items) (begun, own, (tt, tt))

pub returns-clause-begun : goal.returns-clause-begun
returns-clause-begun c =
    let s = c.enter.new.store in
    let file = c.args.mmb.now in
    let kind = kind_at (byte_of c.args.kind) in
    let ws = own_words file c.args.row kind in
    let e = entered-as c.new-env.result.file file c.args.row (kind_of c.args.kind) kind s c.new-env.ensures.file (sym (kind-byte c.args.kind)) c.in_ok-entered.ensures.entered in
    let own = own-as c.new-env.result.file file c.args.row (kind_of c.args.kind) kind c.in_ok-entered.entered c.new-env.ensures.file (sym (kind-byte c.args.kind)) c.in_ok-entered.ensures.own in
    let many = own-words file c.args.row kind c.in_ok-entered.entered own in
    record {
      gaps_are = refl;
      file_is = c.new-env.ensures.file;
      kind_is = refl;
      row_is = refl;
      before_is = c.new-env.ensures.rows;
      state = rw (c.in_ok-begin.ensures ∙ ap first_items many, c.clear.ensures.items, c.clear-2.ensures.items, c.clear-3.ensures.items) (state-begun file (byte_of c.args.kind) c.args.row c.args.before s ws c.requires.may_run refl e.context e.many e.trees ∙ sym (start-plain (gaps_of c.args.mode) (heading_of file (byte_of c.args.kind) c.args.row)));
      no_gap = refl;
      nodes = e.many ∙ sym (params-many file (byte_of c.args.kind) c.args.row c.args.before s ws c.requires.may_run refl e.context e.many e.trees);
    }
