use Rattle.std.specs.Prelude.{⊤}
use Rattle.std.proofs.Common.{ap, subst, Err}
use Rattle.mz_math_theory.specs.Notation.{Table, with_notation}
use Rattle.mz_math_theory.specs.declared.notation.Notation.{Notation}
use Rattle.mz_math_theory.specs.NotationAnswers.{IsMade}
use Rattle.mz_logic_theory.specs.Declaration.{signatures}
use Rattle.mz_lex.specs.declared.tokens.Delimiters.{Delimiters}
use Rattle.mz_math_theory.specs.Forms.{IsInfix}
use Rattle.mz_math_theory.proofs.Offered.{infix-one, infix-shaped, form-answer, added-answer, added-ok, added-err}
use Rattle.mz_math_notation.proofs.table.Notations.add_infix.Goals as goal

pub returns-in-Err-clause-answer : goal.returns-in-Err-clause-answer
returns-in-Err-clause-answer c =
    form-answer ⊤ c.args.self.now (λ (k : Notation). IsInfix (signatures c.args.env.now) c.args.self.now.delimiters c.args.term c.args.constant.now c.args.level c.args.right k) c.in-Err.fault
    (subst (λ (d : Delimiters). IsMade {A = Notation} (Err c.in-Err.fault) (IsInfix (signatures c.args.env.now) d c.args.term c.args.constant.now c.args.level c.args.right)) (ap (λ (t : Table). t.delimiters) c.self.view_is) c.in-Err.ensures)

pub add_notation-requires : goal.add_notation-requires
add_notation-requires c =
    infix-shaped (signatures c.args.env.now) c.self.inside.delimiters c.args.term c.args.constant.now c.args.level c.args.right c.in-Ok.notation c.in-Ok.ensures

pub returns-in-Ok-clause-answer : goal.returns-in-Ok-clause-answer
returns-in-Ok-clause-answer c =
    let makes : IsInfix (signatures c.args.env.now) c.args.self.now.delimiters c.args.term c.args.constant.now c.args.level c.args.right c.in-Ok.notation = subst (λ (d : Delimiters). IsInfix (signatures c.args.env.now) d c.args.term c.args.constant.now c.args.level c.args.right c.in-Ok.notation) (ap (λ (t : Table). t.delimiters) c.self.view_is) c.in-Ok.ensures in
    let added = c.add_notation.ensures in
    added-answer c.args.self.now (λ (k : Notation). IsInfix (signatures c.args.env.now) c.args.self.now.delimiters c.args.term c.args.constant.now c.args.level c.args.right k) c.in-Ok.notation c.add_notation.new.self c.add_notation.result makes
    (λ l is. infix-one (signatures c.args.env.now) c.args.self.now.delimiters c.args.term c.args.constant.now c.args.level c.args.right l c.in-Ok.notation is makes) added

pub returns-in-Ok-clause-ok : goal.returns-in-Ok-clause-ok
returns-in-Ok-clause-ok c =
    let makes : IsInfix (signatures c.args.env.now) c.args.self.now.delimiters c.args.term c.args.constant.now c.args.level c.args.right c.in-Ok.notation = subst (λ (d : Delimiters). IsInfix (signatures c.args.env.now) d c.args.term c.args.constant.now c.args.level c.args.right c.in-Ok.notation) (ap (λ (t : Table). t.delimiters) c.self.view_is) c.in-Ok.ensures in
    let added = c.add_notation.ensures in
    added-ok c.args.self.now (λ (k : Notation). IsInfix (signatures c.args.env.now) c.args.self.now.delimiters c.args.term c.args.constant.now c.args.level c.args.right k) c.in-Ok.notation c.add_notation.new.self c.add_notation.result makes added

pub returns-in-Ok-clause-err : goal.returns-in-Ok-clause-err
returns-in-Ok-clause-err c =
    let added = c.add_notation.ensures in
    added-err c.args.self.now (with_notation c.args.self.now c.in-Ok.notation) c.add_notation.new.self c.add_notation.result added
