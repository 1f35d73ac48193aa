use Rattle.std.proofs.Common.{◌++◌, refl, codes}
use Rattle.mz_spec_theory.specs.Names.{name_at}
use Rattle.mz_axioms.specs.Kept.{support_told}
use Rattle.mz_axioms.specs.Text.{axiom_names, support_line}
use Rattle.mz_axioms.proofs.Adding.{adds-both, adds-stops, adds-text}
use Rattle.mz_axioms.proofs.Naming.{line-parts}
use Rattle.mz_axioms.proofs.text.put_line.Goals as goal

pub returns-in_err-put : goal.returns-in_err-put
returns-in_err-put g c =
    let told = support_told c.args.table.now c.args.support in
    let spec = c.args.spec.now.text.now in
    let declared = c.args.spec.now.declared in
    let name = name_at spec declared c.args.support.theorem in
    adds-stops c.from_residual.result c.from_residual.ensures.0 name (codes ":" ++ (axiom_names spec declared told.axioms ++ codes "\n")) (support_line spec declared told) (line-parts spec declared told)
    (adds-text c.name.result.now name c.name.ensures c.in_err-put.ensures)

pub returns-in_err-put-2 : goal.returns-in_err-put-2
returns-in_err-put-2 g c =
    let told = support_told c.args.table.now c.args.support in
    let spec = c.args.spec.now.text.now in
    let declared = c.args.spec.now.declared in
    let name = name_at spec declared c.args.support.theorem in
    let names = axiom_names spec declared told.axioms in
    adds-both name (codes ":" ++ (names ++ codes "\n")) (support_line spec declared told) (line-parts spec declared told) (adds-text c.name.result.now name c.name.ensures c.in_ok-put.ensures)
    (adds-stops c.from_residual-in_err-put-2.result c.from_residual-in_err-put-2.ensures.0 (codes ":") (names ++ codes "\n") (codes ":" ++ (names ++ codes "\n")) refl c.in_err-put-2.ensures)

pub returns-in_err-put_names : goal.returns-in_err-put_names
returns-in_err-put_names g c =
    let told = support_told c.args.table.now c.args.support in
    let spec = c.args.spec.now.text.now in
    let declared = c.args.spec.now.declared in
    let name = name_at spec declared c.args.support.theorem in
    let names = axiom_names spec declared told.axioms in
    adds-both name (codes ":" ++ (names ++ codes "\n")) (support_line spec declared told) (line-parts spec declared told) (adds-text c.name.result.now name c.name.ensures c.in_ok-put.ensures)
    (adds-both (codes ":") (names ++ codes "\n") (codes ":" ++ (names ++ codes "\n")) refl c.in_ok-put-2.ensures
    (adds-stops c.from_residual-in_err-put_names.result c.from_residual-in_err-put_names.ensures.0 names (codes "\n") (names ++ codes "\n") refl c.in_err-put_names.ensures))

pub returns : goal.returns
returns g c =
    let told = support_told c.args.table.now c.args.support in
    let spec = c.args.spec.now.text.now in
    let declared = c.args.spec.now.declared in
    let name = name_at spec declared c.args.support.theorem in
    let names = axiom_names spec declared told.axioms in
    adds-both name (codes ":" ++ (names ++ codes "\n")) (support_line spec declared told) (line-parts spec declared told) (adds-text c.name.result.now name c.name.ensures c.in_ok-put.ensures)
    (adds-both (codes ":") (names ++ codes "\n") (codes ":" ++ (names ++ codes "\n")) refl c.in_ok-put-2.ensures
    (adds-both names (codes "\n") (names ++ codes "\n") refl c.in_ok-put_names.ensures c.put-3.ensures))
