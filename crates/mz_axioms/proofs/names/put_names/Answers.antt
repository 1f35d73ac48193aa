use Rattle.std.proofs.Common.{map, ap}
use Rattle.mz_axioms.specs.Kept.{members_of, nodes_of, number_of, told}
use Rattle.mz_axioms.specs.Rows.{number_at}
use Rattle.mz_axioms.specs.Text.{axiom_names}
use Rattle.mz_axioms.proofs.Adding.{adds-text}
use Rattle.mz_axioms.proofs.Writing.{numbers-told}
use Rattle.mz_axioms.proofs.names.put_names.Goals as goal

pub returns : goal.returns
returns g c =
    let table = c.args.table.now in
    let members = members_of table c.args.set in
    adds-text (axiom_names c.args.spec.now.text.now c.args.spec.now.declared (map (number_of table.rows.items) members)) (axiom_names c.args.spec.now.text.now c.args.spec.now.declared (map (number_at (told table)) members))
    (ap (axiom_names c.args.spec.now.text.now c.args.spec.now.declared) (numbers-told (nodes_of table) table.size.height table.rows.items members)) c.put_half.ensures
