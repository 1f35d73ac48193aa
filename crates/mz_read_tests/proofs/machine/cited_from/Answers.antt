use Rattle.std.proofs.Common.{◌≡◌, List, ℕ, Ok, sym, ap, ◌∙◌, subst, arith}
use Rattle.std.specs.Prelude.{Result}
use Rattle.mz_cmd.specs.StatementList.{statement_at}
use Rattle.mz_cmd.specs.declared.statement.StmtAt.{StmtAt}
use Rattle.mz_cmd.specs.declared.statement.StmtAt.TheVariants.{Head}
use Rattle.mz_cmd.specs.declared.statement.StmtFault.{StmtFault}
use Rattle.mz_read_tests.proofs.machine.cited_from.Goals as goal

pub cited_at-requires : goal.cited_at-requires
cited_at-requires c = record {
  code = c.in-Ok-Head.field-0-0;
  body = c.in-Ok-Head.body;
  next = c.in-Ok-Head.next;
  stands = subst (λ (file : List ℕ). statement_at file c.args.at ≡ Ok (Head c.in-Ok-Head.field-0-0 c.in-Ok-Head.body c.in-Ok-Head.next)) c.file.ensures.file
      (sym c.in-Ok-Head.ensures.computed ∙ ap (λ s. Ok s) c.in-Ok-Head.field-0-is);
  from = omega arith;
  to = omega arith;
}
