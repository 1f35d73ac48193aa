use Rattle.mz_base.specs.declared.mode.Mode.TheVariants.{Draft}
use Rattle.mz_layout_tables.specs.Heads.{body_bytes}
use Rattle.mz_machine_env.specs.OwnRow.{byte_of}
use Rattle.mz_machine_theory.specs.Headings.{heading_of}
use Rattle.mz_binary.proofs.Answering.{by-trees}
use Rattle.mz_binary.proofs.bodies.DraftBodiesBodies.check_body.Goals as goal

pub returns-clause-run : goal.returns-clause-run
returns-clause-run g c =
    let file = c.args.mmb.now in
    by-trees Draft (heading_of file (byte_of c.args.kind) c.args.row) (body_bytes file c.args.body.0 c.args.body.1) _ c.check_body_after.result c.check_body_after.ensures.run
