use Rattle.std.proofs.Common.{List, ℕ, Contains, subst}
use Rattle.mz_logic_free.proofs.Narrowing.{narrowed-none}
use Rattle.mz_logic_free.proofs.Owners.{none-owned}
use Rattle.mz_logic_free.proofs.Sharing.{but-none}
use Rattle.mz_logic_free.proofs.named.some_name_sought.Goals as goal

pub some_name_other-requires : goal.some_name_other-requires
some_name_other-requires c = narrowed-none c.args.ctx.now c.args.variables.now c.args.narrowed.now c.requires

pub returns : goal.returns
returns c =
    but-none c.args.ctx.now c.args.variables.now c.new-own.result (λ x has. none-owned c.args.variables.now 0 c.new-others.result x (subst (λ (xs : List ℕ). Contains xs x) c.new-own.ensures has)) c.args.es.now
    c.some_name_other.result c.some_name_other.ensures.answer
