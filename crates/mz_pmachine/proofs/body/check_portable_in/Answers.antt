use Rattle.std.proofs.Common.{length}
use Rattle.mz_layout_tables.specs.Heads.{body_bytes}
use Rattle.mz_machine_theory.specs.Headings.{heading_of}
use Rattle.mz_machine_env.specs.OwnRow.{byte_of}
use Rattle.mz_machine.specs.Tidiness.{OneACommand}
use Rattle.mz_machine.proofs.Offered.{then-whatever}
use Rattle.mz_pmachine.specs.Tidiness.{HoldsAtMost}
use Rattle.mz_pmachine.proofs.body.check_portable_in.Goals as goal

pub returns-clause-nodes : goal.returns-clause-nodes
returns-clause-nodes g c =
    let params = length (heading_of c.args.mmb.now (byte_of c.args.kind) c.args.row).params in
    let bytes = body_bytes c.args.mmb.now c.args.body.0 c.args.body.1 in
    then-whatever c.check_on-checked.result (OneACommand params bytes (length c.check_on-checked.new.buffers.parts.nodes.entries)) (HoldsAtMost params bytes c.keep.new.self)
    (λ made. rw c.keep.ensures made) c.check_on-checked.ensures.nodes
