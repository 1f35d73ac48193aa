use Rattle.std.proofs.Common.{◌≡◌, ◌≤◌, ◌+◌, ◌-◌, ◌*◌, ◌∙◌, ℕ, length, Some, Ok, sym, subst, arith}
use Rattle.mz_cmd.specs.declared.statement.StmtAt.TheVariants as there
use Rattle.mz_cmd.specs.Codes.{statement_byte}
use Rattle.mz_cmd.specs.StatementList.{statement_at}
use Rattle.mz_layout_tables.specs.Heads.{IsHead, body_bytes, next_row}
use Rattle.mz_layout_tables.specs.declared.head.Head.{Head}
use Rattle.mz_machine_theory.specs.FileRows.{Taken}
use Rattle.mz_machine_env.specs.OwnRow.{MayRun, byte_of}
use Rattle.mz_machine_theory.specs.Headings.{heading_of, kind_at}
use Rattle.mz_machine_env.specs.Before.{taken_before}
use Rattle.mz_machine_env.proofs.Offered.{byte-kind, kind-byte}
use Rattle.mz_binary.specs.declared.statement.Found.TheVariants as seen
use Rattle.mz_binary_theory.specs.FileRun.{after_kind, find_at}
use Rattle.mz_binary.specs.Remembering.{AreRight}
use Rattle.mz_binary.specs.Judging.{IsLeft, IsMost, IsNext}
use Rattle.mz_binary.specs.Progress.{HasPassed, Progress, IsReached, found_of, kind_byte, most_left, next_steps, Place, under}
use Rattle.mz_binary_theory.proofs.Offered.{code-of, head-at}
use Rattle.mz_binary.proofs.Finding.{find-head}
use Rattle.mz_binary.proofs.Passing.{body-counts, body-here, body-runs, body-stops}
use Rattle.mz_binary.proofs.Counting.{if-told, most-here}
use Rattle.mz_binary.proofs.Running.{may-run}
use Rattle.mz_binary.proofs.checker.Checker.past_body.Goals as goal

-- what stands at the place
abbrev IsFound : Head → Place → Type 0
IsFound head q = find_at q.file (taken_before q.file q.rows) q.at ≡ Ok (found_of q.file q.rows (seen.WithBody head))

pub check_body-checked-requires-clause-may_run : goal.check_body-checked-requires-clause-may_run
check_body-checked-requires-clause-may_run g c =
    let p : Progress = under g.B.Bodies.STANDARD c.args.self in
    let head = c.args.head in
    let taken : Taken = taken_before p.file p.rows in
    let stands : statement_at p.file p.at ≡ Ok (there.Head (statement_byte head.code) head.body head.next) =
    subst (λ (at : ℕ). statement_at p.file at ≡ Ok (there.Head (statement_byte head.code) head.body head.next)) c.requires.at c.requires.head in
    let there_is = sym (find-head p.file taken p.at (statement_byte head.code) head.body head.next (Some head.code) stands (code-of head.code)) ∙ c.requires.body in
    let may : MayRun p.file (kind_byte head.code) (next_row p.rows head.code) p.rows =
    may-run p head.code head.body head.next (after_kind p.file taken head.code) (heading_of p.file (kind_byte head.code) (next_row p.rows head.code)) head.body (body_bytes p.file head.body head.next)
    (subst (λ (q : Place). IsReached (under g.B.Bodies.STANDARD q)) c.self.view_is c.self.invariant.0) there_is in
    let inside = subst (λ (q : Place). MayRun q.file (kind_byte head.code) (next_row q.rows head.code) q.rows) (sym c.self.view_is) may in
    let byte = byte-kind (kind_byte head.code) c.body_kind-kind.result may.kinds c.body_kind-kind.ensures in
    subst (λ (k : ℕ). MayRun c.self.inside.mmb.now k c.next-row.result c.self.inside.rows) (sym byte)
    (subst (λ (row : ℕ). MayRun c.self.inside.mmb.now (kind_byte head.code) row c.self.inside.rows) (sym c.next-row.ensures) inside)

pub check_body-checked-requires-clause-order : goal.check_body-checked-requires-clause-order
check_body-checked-requires-clause-order g c = (head-at c.args.self.file c.args.head.at (statement_byte c.args.head.code) c.args.head.body c.args.head.next c.requires.head).order

pub check_body-checked-requires-clause-within : goal.check_body-checked-requires-clause-within
check_body-checked-requires-clause-within g c =
    subst (λ (q : Place). c.args.head.next ≤ length q.file) (sym c.self.view_is)
    (head-at c.args.self.file c.args.head.at (statement_byte c.args.head.code) c.args.head.body c.args.head.next c.requires.head).within

pub returns-clause-next : goal.returns-clause-next
returns-clause-next g c = λ ss env before.
    let p : Progress = under g.B.Bodies.STANDARD c.args.self in
    let head = c.args.head in
    body-here p ss env before (after_kind p.file (taken_before p.file p.rows) head.code) head.next (heading_of p.file (kind_byte head.code) (next_row p.rows head.code)) head.body (body_bytes p.file head.body head.next)
    c.requires.body

-- the checker after the body ran is the one before it, but for its scratch

pub returns-in-Good-clause-next : goal.returns-in-Good-clause-next
returns-in-Good-clause-next g c = λ ss env before.
    subst (λ (q : Place). IsNext (under g.B.Bodies.STANDARD q) ss env c.past.result) c.self.view_is (c.past.ensures.next ss env (subst (λ (q : Place). HasPassed (under g.B.Bodies.STANDARD q) ss env) (sym c.self.view_is) before))

pub returns-in-Good-clause-left : goal.returns-in-Good-clause-left
returns-in-Good-clause-left g c = subst (λ (q : Place). IsLeft (under g.B.Bodies.STANDARD q) c.past.result) c.self.view_is c.past.ensures.left

-- of the body, over the checker's file
pub returns-in-Good-clause-most : goal.returns-in-Good-clause-most
returns-in-Good-clause-most g c =
    subst (λ (q : Place). IsMost (under g.B.Bodies.STANDARD q) c.args.steps.now c.check_body-checked.new.steps c.past.result) c.self.view_is
    (c.past.ensures.most c.args.steps.now c.check_body-checked.new.steps c.check_body-checked.ensures.most)

-- what the body executes is what is executed at the place
pub returns-in-Good-clause-steps : goal.returns-in-Good-clause-steps
returns-in-Good-clause-steps g c =
    let head = c.args.head in
    let s = c.self.inside in
    let counted = body-counts g.B.Bodies.STANDARD s.mmb.now s.rows s.at head (subst (IsFound head) (sym c.self.view_is) c.requires.body)
    (kind_at (byte_of c.body_kind-kind.result)) c.next-row.result (kind-byte c.body_kind-kind.result ∙ c.body_kind-kind.ensures) c.next-row.ensures
    c.args.steps.now c.check_body-checked.new.steps c.in-Good.ensures.steps in
    if-told c.past.result _ (subst (λ (q : Place). c.check_body-checked.new.steps ≡ c.args.steps.now + next_steps (under g.B.Bodies.STANDARD q)) c.self.view_is counted)

pub returns-in-Refused-clause-steps : goal.returns-in-Refused-clause-steps
returns-in-Refused-clause-steps g c =
    let head = c.args.head in
    let s = c.self.inside in
    let counted = body-counts g.B.Bodies.STANDARD s.mmb.now s.rows s.at head (subst (IsFound head) (sym c.self.view_is) c.requires.body)
    (kind_at (byte_of c.body_kind-kind.result)) c.next-row.result (kind-byte c.body_kind-kind.result ∙ c.body_kind-kind.ensures) c.next-row.ensures
    c.args.steps.now c.check_body-checked.new.steps c.in-Refused.ensures.steps in
    if-told c.refused.result _ (subst (λ (q : Place). c.check_body-checked.new.steps ≡ c.args.steps.now + next_steps (under g.B.Bodies.STANDARD q)) c.self.view_is counted)

pub returns-in-Refused-clause-next : goal.returns-in-Refused-clause-next
returns-in-Refused-clause-next g c = λ ss env before.
    subst (λ (q : Place). IsNext (under g.B.Bodies.STANDARD q) ss env c.refused.result) c.self.view_is (c.refused.ensures.next ss env (subst (λ (q : Place). HasPassed (under g.B.Bodies.STANDARD q) ss env) (sym c.self.view_is) before))

pub returns-in-Refused-clause-left : goal.returns-in-Refused-clause-left
returns-in-Refused-clause-left g c = subst (λ (q : Place). IsLeft (under g.B.Bodies.STANDARD q) c.refused.result) c.self.view_is c.refused.ensures.left

pub returns-in-Refused-clause-most : goal.returns-in-Refused-clause-most
returns-in-Refused-clause-most g c =
    let p : Progress = under g.B.Bodies.STANDARD c.args.self in
    let head = c.args.head in
    let at-head = head-at p.file head.at (statement_byte head.code) head.body head.next c.requires.head in
    let few = most-here (length p.file) p.at head.body head.next c.args.steps.now c.check_body-checked.new.steps (omega (arith, at-head.before, c.requires.at)) at-head.order at-head.within
    (subst (λ (q : Place). c.check_body-checked.new.steps ≤ c.args.steps.now + (head.next - head.body) * (length q.file + 1)) c.self.view_is c.check_body-checked.ensures.most) in
    subst (λ (q : Place). IsMost (under g.B.Bodies.STANDARD q) c.args.steps.now c.check_body-checked.new.steps c.refused.result) c.self.view_is
    (c.refused.ensures.most c.args.steps.now c.check_body-checked.new.steps (subst (λ (q : Place). c.check_body-checked.new.steps ≤ c.args.steps.now + most_left (under g.B.Bodies.STANDARD q)) (sym c.self.view_is) few))

pub returns-clause-most : goal.returns-clause-most
returns-clause-most g c =
    let p : Progress = under g.B.Bodies.STANDARD c.args.self in
    let head = c.args.head in
    let at-head = head-at p.file head.at (statement_byte head.code) head.body head.next c.requires.head in
    most-here (length p.file) p.at head.body head.next c.args.steps.now c.check_body-checked.new.steps (omega (arith, at-head.before, c.requires.at)) at-head.order at-head.within
    (subst (λ (q : Place). c.check_body-checked.new.steps ≤ c.args.steps.now + (head.next - head.body) * (length q.file + 1)) c.self.view_is c.check_body-checked.ensures.most)

pub rests_on_gap-gap-requires-clause-head : goal.rests_on_gap-gap-requires-clause-head
rests_on_gap-gap-requires-clause-head g c = subst (λ (q : Place). IsHead q.file c.args.head) (sym c.self.view_is) c.requires.head

pub past-requires-clause-head : goal.past-requires-clause-head
past-requires-clause-head g c = subst (λ (q : Place). IsHead q.file c.args.head) (sym c.self.view_is) c.requires.head

pub past-requires-clause-at : goal.past-requires-clause-at
past-requires-clause-at g c = subst (λ (q : Place). c.args.head.at ≡ q.at) (sym c.self.view_is) c.requires.at

pub past-requires-clause-body : goal.past-requires-clause-body
past-requires-clause-body g c _ = (_, _, _, _, _, subst (IsFound c.args.head) (sym c.self.view_is) c.requires.body)

pub past-requires-clause-runs : goal.past-requires-clause-runs
past-requires-clause-runs g c =
    let head = c.args.head in
    let s = c.self.inside in
    let (last, ran, _) = c.in-Good.ensures.run in
    body-runs g.B.Bodies.STANDARD s.mmb.now s.rows s.at head (subst (IsFound head) (sym c.self.view_is) c.requires.body)
    (kind_at (byte_of c.body_kind-kind.result)) c.next-row.result (kind-byte c.body_kind-kind.result ∙ c.body_kind-kind.ensures) c.next-row.ensures last ran

pub refused-requires : goal.refused-requires
refused-requires g c =
    let head = c.args.head in
    let s = c.self.inside in
    body-stops g.B.Bodies.STANDARD s.mmb.now s.rows s.at head (subst (IsFound head) (sym c.self.view_is) c.requires.body)
    (kind_at (byte_of c.body_kind-kind.result)) c.next-row.result (kind-byte c.body_kind-kind.result ∙ c.body_kind-kind.ensures) c.next-row.ensures
    (c.in-Refused.at, c.in-Refused.rule) c.in-Refused.ensures.run

pub past-requires-clause-right : goal.past-requires-clause-right
past-requires-clause-right g c = subst (λ (q : Place). AreRight q.file c.args.right) (sym c.self.view_is) c.requires.right
