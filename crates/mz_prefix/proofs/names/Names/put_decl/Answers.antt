use Rattle.std.specs.Prelude.{OnOk}
use Rattle.std.proofs.Common.{◌≡◌, ◌++◌, ◌∙◌, sym, ap, subst}
use Rattle.mz_logic_theory.specs.DeclView.{assertion_view, declaration}
use Rattle.mz_prefix.specs.Names.{spoken}
use Rattle.mz_prefix.specs.Writing.{told}
use Rattle.mz_prefix.proofs.LineTexts.{told-assertion}
use Rattle.mz_prefix.proofs.names.Names.put_decl.Goals as goal

pub returns-in-Sort : goal.returns-in-Sort
returns-in-Sort c =
    subst (λ t. OnOk c.put_sort.result (c.put_sort.new.out.items ≡ c.args.out.now.items ++ t))
    (sym (ap (λ d. told c.args.self.now c.args.name.now (declaration d)) c.in-Sort.is)) (c.put_sort.ensures (spoken c.args.self.now))

pub returns-in-Thm : goal.returns-in-Thm
returns-in-Thm c =
    subst (λ t. OnOk c.put_thm.result (c.put_thm.new.out.items ≡ c.args.out.now.items ++ t))
    (sym (ap (λ d. told c.args.self.now c.args.name.now (declaration d)) c.in-Thm.is ∙ told-assertion c.args.self.now c.args.name.now (assertion_view c.in-Thm.thm)))
    c.put_thm.ensures
