use Rattle.mz_layout_tables.specs.Heads.{body_bytes}
use Rattle.mz_machine_env.specs.Before.{tables_before}
use Rattle.mz_machine_env.specs.OwnRow.{byte_of}
use Rattle.mz_machine_theory.specs.Headings.{heading_of}
use Rattle.mz_portable.proofs.Answering.{by-identity}
use Rattle.mz_portable.proofs.bodies.PortableBodiesBodies.check_body.Goals as goal

pub returns-clause-run : goal.returns-clause-run
returns-clause-run g c =
    let file = c.args.mmb.now in
    by-identity (tables_before file c.args.before) (heading_of file (byte_of c.args.kind) c.args.row) c.args.body.0 (body_bytes file c.args.body.0 c.args.body.1)
    c.check_portable_in.result c.check_portable_in.ensures.run
