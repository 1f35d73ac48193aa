use Rattle.std.proofs.Common.{length, ap, ◌∙◌, sym, subst, arith}
use Rattle.std.proofs.lemmas.List.{length-map}
use Rattle.mz_sexpr.specs.declared.scan.Class.TheVariants.{Space}
use Rattle.mz_sexpr.specs.Grammar.{Reads}
use Rattle.mz_sexpr.specs.Scan.{tokens}
use Rattle.mz_sexpr.specs.Rows.{entry, level, Steps}
use Rattle.mz_sexpr.proofs.Nesting.{steps_of_entries}
use Rattle.mz_sexpr.proofs.Readings.{read_when_all_hold, refused_when_fails, few_rows}
use Rattle.mz_sexpr.proofs.sexprs.read_sexprs.Goals as goal

pub linked-requires : goal.linked-requires
linked-requires c =
    let k = few_rows c.args.text.now in
    let e = sym (length-map c.in-Rows.rows.items (entry c.args.text.now)) ∙ ap length c.in-Rows.ensures.1 in
    record {
      steps = subst (Steps 0) (sym c.in-Rows.ensures.1) (steps_of_entries 0 (tokens 0 Space c.args.text.now));
      short = omega (arith, e, k);
    }

pub returns-in-Ok : goal.returns-in-Ok
returns-in-Ok c = subst (Reads c.args.text.now) (sym (c.in-Ok.ensures ∙ ap (λ es. level es 0) c.in-Rows.ensures.1)) (read_when_all_hold c.args.text.now c.in-Rows.ensures.0)

pub returns-in-Refused : goal.returns-in-Refused
returns-in-Refused c = refused_when_fails c.args.text.now _ c.in-Refused.ensures
