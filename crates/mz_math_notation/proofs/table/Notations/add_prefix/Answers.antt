use Rattle.std.specs.Prelude.{⊤}
use Rattle.std.proofs.Common.{ap, subst, Err}
use Rattle.mz_math_theory.specs.Notation.{Table, with_notation}
use Rattle.mz_math_theory.specs.declared.notation.Notation.{Notation}
use Rattle.mz_math_theory.specs.NotationAnswers.{IsMade}
use Rattle.mz_logic_theory.specs.Declaration.{signatures}
use Rattle.mz_lex.specs.declared.tokens.Delimiters.{Delimiters}
use Rattle.mz_math_theory.specs.Forms.{IsPrefix}
use Rattle.mz_math_theory.proofs.Offered.{prefix-one, prefix-shaped, form-answer, added-answer, added-ok, added-err}
use Rattle.mz_math_notation.proofs.table.Notations.add_prefix.Goals as goal

pub returns-in-Err-clause-answer : goal.returns-in-Err-clause-answer
returns-in-Err-clause-answer c =
    form-answer ⊤ c.args.self.now (λ (k : Notation). IsPrefix (signatures c.args.env.now) c.args.self.now.delimiters c.args.term c.args.constant.now c.args.level k) c.in-Err.fault
    (subst (λ (d : Delimiters). IsMade {A = Notation} (Err c.in-Err.fault) (IsPrefix (signatures c.args.env.now) d c.args.term c.args.constant.now c.args.level)) (ap (λ (t : Table). t.delimiters) c.self.view_is) c.in-Err.ensures)

pub add_notation-requires : goal.add_notation-requires
add_notation-requires c =
    prefix-shaped (signatures c.args.env.now) c.self.inside.delimiters c.args.term c.args.constant.now c.args.level c.in-Ok.notation c.in-Ok.ensures

pub returns-in-Ok-clause-answer : goal.returns-in-Ok-clause-answer
returns-in-Ok-clause-answer c =
    let makes : IsPrefix (signatures c.args.env.now) c.args.self.now.delimiters c.args.term c.args.constant.now c.args.level c.in-Ok.notation = subst (λ (d : Delimiters). IsPrefix (signatures c.args.env.now) d c.args.term c.args.constant.now c.args.level c.in-Ok.notation) (ap (λ (t : Table). t.delimiters) c.self.view_is) c.in-Ok.ensures in
    let added = c.add_notation.ensures in
    added-answer c.args.self.now (λ (k : Notation). IsPrefix (signatures c.args.env.now) c.args.self.now.delimiters c.args.term c.args.constant.now c.args.level k) c.in-Ok.notation c.add_notation.new.self c.add_notation.result makes
    (λ l is. prefix-one (signatures c.args.env.now) c.args.self.now.delimiters c.args.term c.args.constant.now c.args.level l c.in-Ok.notation is makes) added

pub returns-in-Ok-clause-ok : goal.returns-in-Ok-clause-ok
returns-in-Ok-clause-ok c =
    let makes : IsPrefix (signatures c.args.env.now) c.args.self.now.delimiters c.args.term c.args.constant.now c.args.level c.in-Ok.notation = subst (λ (d : Delimiters). IsPrefix (signatures c.args.env.now) d c.args.term c.args.constant.now c.args.level c.in-Ok.notation) (ap (λ (t : Table). t.delimiters) c.self.view_is) c.in-Ok.ensures in
    let added = c.add_notation.ensures in
    added-ok c.args.self.now (λ (k : Notation). IsPrefix (signatures c.args.env.now) c.args.self.now.delimiters c.args.term c.args.constant.now c.args.level k) c.in-Ok.notation c.add_notation.new.self c.add_notation.result makes added

pub returns-in-Ok-clause-err : goal.returns-in-Ok-clause-err
returns-in-Ok-clause-err c =
    let added = c.add_notation.ensures in
    added-err c.args.self.now (with_notation c.args.self.now c.in-Ok.notation) c.add_notation.new.self c.add_notation.result added
