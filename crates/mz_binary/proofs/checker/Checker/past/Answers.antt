use Rattle.std.proofs.Common.{◌≡◌, ◌+◌, ◌-◌, ◌*◌, ◌∙◌, ℕ, List, length, refl, sym, ap, subst, arith}
use Rattle.mz_cmd.specs.Codes.{statement_byte}
use Rattle.mz_binary_theory.specs.declared.statement.Statement.{Statement as Reported}
use Rattle.mz_binary.specs.Progress.{Progress, IsReached, marks_past, most_left, Place, under}
use Rattle.mz_binary.specs.Remembering.{AreRight}
use Rattle.mz_layout_tables.specs.Heads.{next_row, rows_after}
use Rattle.mz_binary_theory.proofs.Offered.{head-at}
use Rattle.mz_binary.proofs.Passing.{IsPast, passes, reached, further, taken-past}
use Rattle.mz_binary.proofs.Counting.{left-past, most-past, most-here}
use Rattle.mz_binary.proofs.TakenSoFar.{taken}
use Rattle.mz_binary_theory.specs.FileRun.{RunsBody}
use Rattle.mz_binary_theory.specs.Standards.{lets_gaps}
use Rattle.mz_machine_theory.specs.FileRows.{Taken}
use Rattle.mz_binary.proofs.checker.Checker.past.Given.{Over}
use Rattle.mz_binary.proofs.checker.Checker.past.Goals as goal

abbrev after_of : (g : Over) → goal.After-after g → Progress
after_of g c = record { standard = g.B.Bodies.STANDARD; file = c.self.inside.mmb.now; at = c.args.head.next; passed = c.self.inside.passed + 1; rows = c.after.result; marks = c.mark.new.marks.items }

abbrev reported_of : (g : Over) → goal.After-after g → Reported
reported_of g c = record { number = c.self.inside.passed + 1; at = c.self.inside.at; kind = c.kind_of.result; row = c.next.result; local = c.is_local.result; gap = c.args.gap }

past-of : (g : Over) (c : goal.After-after g) → IsPast (under g.B.Bodies.STANDARD c.args.self) (after_of g c) (reported_of g c) c.args.head
past-of g c = record {
  same_file = ap (λ (q : Place). q.file) c.self.view_is;
  same_standard = refl;
  goes_on = refl;
  one_more = ap (λ (q : Place). q.passed + 1) c.self.view_is;
  rows_are = c.after.ensures ∙ ap (λ (q : Place). rows_after q.rows c.args.head.code) c.self.view_is;
  number = ap (λ (q : Place). q.passed + 1) c.self.view_is;
  place = ap (λ (q : Place). q.at) c.self.view_is;
  kind = c.kind_of.ensures;
  row = c.next.ensures ∙ ap (λ (q : Place). next_row q.rows c.args.head.code) c.self.view_is;
  mark = c.is_local.ensures;
  gap = c.requires.gap;
  marks_are = c.in-Ok.ensures.ok ∙ ap (λ b. marks_past b c.args.head.code c.args.gap c.self.inside.gapped.items) c.allows_gaps.ensures ∙ ap (λ (q : Place). marks_past (lets_gaps g.B.Bodies.STANDARD) c.args.head.code c.args.gap q.marks) c.self.view_is;
}

pub invariant_of-after : goal.invariant_of-after
invariant_of-after g c = (
  reached (under g.B.Bodies.STANDARD c.args.self) (after_of g c) (reported_of g c) c.args.head (past-of g c) c.requires.head c.requires.at c.requires.runs (subst (λ (q : Place). IsReached (under g.B.Bodies.STANDARD q)) c.self.view_is c.self.invariant.0),
  subst (λ (q : Place). AreRight q.file c.args.right) (sym c.self.view_is) c.requires.right,
  c.self.invariant.2,
)

pub returns-clause-next : goal.returns-clause-next
returns-clause-next g c = λ ss env before. passes (under g.B.Bodies.STANDARD c.args.self) (after_of g c) (reported_of g c) c.args.head (past-of g c) c.requires.head c.requires.at c.requires.runs ss env before

pub returns-clause-left : goal.returns-clause-left
returns-clause-left g c =
    let r : IsReached (under g.B.Bodies.STANDARD c.args.self) = subst (λ (q : Place). IsReached (under g.B.Bodies.STANDARD q)) c.self.view_is c.self.invariant.0 in
    let past = past-of g c in
    let on = further (under g.B.Bodies.STANDARD c.args.self) (after_of g c) (reported_of g c) c.args.head past c.requires.head c.requires.at c.requires.runs r in
    left-past (under g.B.Bodies.STANDARD c.args.self) (after_of g c) c.args.head.next _ c.requires.runs
    (taken-past (under g.B.Bodies.STANDARD c.args.self) (after_of g c) (reported_of g c) c.args.head past c.requires.head c.requires.at c.requires.runs r) refl past.same_file past.same_standard on.0 on.1

pub returns-clause-most : goal.returns-clause-most
returns-clause-most g c = λ old new few.
    let p : Progress = under g.B.Bodies.STANDARD c.args.self in
    let head = c.args.head in
    let same : most_left (after_of g c) ≡ (length p.file - head.next) * (length p.file + 1) = ap (λ (f : List ℕ). (length f - head.next) * (length f + 1)) (past-of g c).same_file in
    let at-head = head-at p.file head.at (statement_byte head.code) head.body head.next c.requires.head in
    omega (arith, same, most-past (length p.file) p.at head.body head.next old new (omega (arith, at-head.before, c.requires.at)) at-head.order at-head.within few)

-- out of memory for the flag, which only an axiom or theorem gets

pub returns-in_default-clause-next : goal.returns-in_default-clause-next
returns-in_default-clause-next g c = λ ss env before.
    let p : Progress = under g.B.Bodies.STANDARD c.args.self in
    subst (λ (t : Taken). RunsBody p.file t p.at) (sym (taken p ss env before)) (c.requires.body c.in_default.ensures.err)

pub returns-in_default-clause-most : goal.returns-in_default-clause-most
returns-in_default-clause-most g c = λ old new few.
    let p : Progress = under g.B.Bodies.STANDARD c.args.self in
    let head = c.args.head in
    let at-head = head-at p.file head.at (statement_byte head.code) head.body head.next c.requires.head in
    most-here (length p.file) p.at head.body head.next old new (omega (arith, at-head.before, c.requires.at)) at-head.order at-head.within few
