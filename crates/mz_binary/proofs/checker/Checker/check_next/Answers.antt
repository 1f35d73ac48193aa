use Rattle.std.proofs.Common.{◌≡◌, ◌∙◌, ℕ, false, Ok, Some, sym, ap, subst}
use Rattle.std.proofs.lemmas.Bool.{false≢true}
use Rattle.mz_cmd.specs.declared.statement.StmtAt.TheVariants as there
use Rattle.mz_cmd.specs.Codes.{statement_byte}
use Rattle.mz_cmd.specs.StatementList.{statement_at}
use Rattle.mz_machine_env.specs.Before.{taken_before}
use Rattle.mz_binary_theory.specs.FileRun.{list_ends, find_at, after_kind}
use Rattle.mz_binary.specs.Progress.{Progress, IsReached, CountsRows, StandsAt, found_of, is_assertion_kind, Place, under}
use Rattle.mz_binary.specs.Remembering.{AreRight}
use Rattle.mz_binary.proofs.Finding.{find-head}
use Rattle.mz_binary.proofs.GapMarks.{alone-kind, theorem-too}
use Rattle.mz_binary_theory.proofs.Offered.{code-of}
use Rattle.mz_binary.proofs.Passing.{ends-here, run-of}
use Rattle.mz_binary.proofs.Counting.{left-at-end}
use Rattle.mz_binary.proofs.checker.Checker.check_next.Given.{Over}
use Rattle.mz_binary.proofs.checker.Checker.check_next.Goals as goal

pub returns-in-Ok-End-clause-next : goal.returns-in-Ok-End-clause-next
returns-in-Ok-End-clause-next g c = λ ss env before.
    let p : Progress = under g.B.Bodies.STANDARD c.args.self in
    let here : find_at p.file (taken_before p.file p.rows) p.at ≡ Ok list_ends = subst (λ (q : Place). find_at q.file (taken_before q.file q.rows) q.at ≡ Ok list_ends) c.self.view_is
    (c.in-Ok-End.ensures.found ∙ ap (λ s. Ok (found_of c.self.inside.mmb.now c.self.inside.rows s)) c.in-Ok-End.field-0-is) in
    (ends-here p ss env before (subst (λ (q : Place). IsReached (under g.B.Bodies.STANDARD q)) c.self.view_is c.self.invariant.0) here, subst (λ (q : Place). CountsRows q.rows env) (sym c.self.view_is) before.rows)

pub returns-in-Ok-End-clause-left : goal.returns-in-Ok-End-clause-left
returns-in-Ok-End-clause-left g c =
    let p : Progress = under g.B.Bodies.STANDARD c.args.self in
    let here : find_at p.file (taken_before p.file p.rows) p.at ≡ Ok list_ends = subst (λ (q : Place). find_at q.file (taken_before q.file q.rows) q.at ≡ Ok list_ends) c.self.view_is
    (c.in-Ok-End.ensures.found ∙ ap (λ s. Ok (found_of c.self.inside.mmb.now c.self.inside.rows s)) c.in-Ok-End.field-0-is) in
    left-at-end p (run-of p.standard p.file (taken_before p.file p.rows) p.at list_ends here)

-- no axiom or theorem stands without a body
no-assertion : (g : Over) (c : goal.In-Ok-Alone g) → is_assertion_kind c.in-Ok-Alone.head.code ≡ false
no-assertion g c =
    let head = c.in-Ok-Alone.head in
    let file = c.self.inside.mmb.now in
    let rows = c.self.inside.rows in
    let at = c.self.inside.at in
    let stands = subst (StandsAt file at) c.in-Ok-Alone.field-0-is c.in-Ok-Alone.ensures.stands in
    let there : statement_at file at ≡ Ok (there.Head (statement_byte head.code) head.body head.next) =
    subst (λ (n : ℕ). statement_at file n ≡ Ok (there.Head (statement_byte head.code) head.body head.next)) stands.at_is stands.stands in
    alone-kind file (taken_before file rows) at head.body head.next (after_kind file (taken_before file rows) head.code) head.next head.code
    (sym (find-head file (taken_before file rows) at (statement_byte head.code) head.body head.next (Some head.code) there (code-of head.code)) ∙ c.in-Ok-Alone.ensures.found ∙ ap (λ s. Ok (found_of file rows s)) c.in-Ok-Alone.field-0-is)

pub past-requires-clause-gap : goal.past-requires-clause-gap
past-requires-clause-gap g c = (λ e. absurd (false≢true e), λ (mode, theorem, why). absurd (theorem-too c.in-Ok-Alone.head.code (no-assertion g c) theorem))

pub past-requires-clause-body : goal.past-requires-clause-body
past-requires-clause-body g c is = absurd (false≢true (sym (no-assertion g c) ∙ is))

pub past-requires-clause-right : goal.past-requires-clause-right
past-requires-clause-right g c = subst (λ (q : Place). AreRight q.file c.found_at.new.right) c.self.view_is c.found_at.ensures.right

pub past_body-requires-clause-right : goal.past_body-requires-clause-right
past_body-requires-clause-right g c = subst (λ (q : Place). AreRight q.file c.found_at.new.right) c.self.view_is c.found_at.ensures.right

pub found_at-requires-clause-right : goal.found_at-requires-clause-right
found_at-requires-clause-right g c = c.self.invariant.1
