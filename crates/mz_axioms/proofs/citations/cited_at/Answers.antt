use Rattle.std.proofs.Common.{subst}
use Rattle.mz_layout_tables.specs.Heads.{body_bytes}
use Rattle.mz_axioms.specs.Citations.{IsFirstIn, rest_of_body}
use Rattle.mz_axioms.proofs.Citing.{first-some, first-none}
use Rattle.mz_axioms.proofs.citations.cited_at.Goals as goal

pub returns-clause-some : goal.returns-clause-some
returns-clause-some c =
    first-some c.args.pos (rest_of_body c.args.mmb.now c.args.statement.now.at c.args.pos) c.citation_in.result
    (subst (λ n. IsFirstIn c.args.pos (body_bytes c.args.mmb.now c.args.pos n) c.citation_in.result) c.end_of.ensures.end c.citation_in.ensures)

pub returns-clause-none : goal.returns-clause-none
returns-clause-none c =
    first-none c.args.pos (rest_of_body c.args.mmb.now c.args.statement.now.at c.args.pos) c.citation_in.result
    (subst (λ n. IsFirstIn c.args.pos (body_bytes c.args.mmb.now c.args.pos n) c.citation_in.result) c.end_of.ensures.end c.citation_in.ensures)
