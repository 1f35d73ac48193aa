use Rattle.std.proofs.Common.{◌≡◌, List, ℕ, Ok, sym, ap, ◌∙◌, subst, arith}
use Rattle.mz_cmd.specs.StatementList.{statement_at}
use Rattle.mz_cmd.specs.declared.statement.StmtAt.TheVariants.{Head}
use Rattle.mz_read_tests.proofs.trace.traced.Goals as goal

pub trace-requires : goal.trace-requires
trace-requires g c = (
  c.args.theorem.before,
  record {
    code = c.in-Ok-Head.field-0-0;
    body = c.in-Ok-Head.body;
    next = c.in-Ok-Head.next;
    stands = subst (λ (file : List ℕ). statement_at file c.args.at ≡ Ok (Head c.in-Ok-Head.field-0-0 c.in-Ok-Head.body c.in-Ok-Head.next)) c.file.ensures.file
        (sym c.in-Ok-Head.ensures.computed ∙ ap (λ s. Ok s) c.in-Ok-Head.field-0-is);
    runs = (c.requires.may_run, (c.in-Good.ensures.run.0, c.in-Good.ensures.run.1));
  },
)
