use Rattle.std.proofs.Common.{◌+◌, ◌∙◌, Bool, ℕ, List, [], length, refl, sym, ap, subst, arith}
use Rattle.mz_machine_theory.specs.FileRows.{nothing_taken}
use Rattle.mz_binary_theory.specs.FileRun.{list_steps}
use Rattle.mz_binary_theory.specs.Gapped.{AreMarks}
use Rattle.mz_binary.proofs.Counting.{steps-of-list}
use Rattle.mz_binary_theory.proofs.Offered.{no-marks}
use Rattle.mz_binary.proofs.checker.Checker.new.Goals as goal

pub invariant_of-result : goal.invariant_of-result
invariant_of-result g c = (
  record {
    binary = c.proof_at-at.ensures.binary;
    within = c.proof_at-at.ensures.within;
    sorts_within = omega arith;
    terms_within = omega arith;
    thms_within = omega arith;
    many = refl;
    before = (
      [],
      [],
      record {
        statements = (refl, c.proof_at-at.ensures.place);
        many = refl;
        rows = record { sorts_are = refl; terms_are = refl; thms_are = refl };
        marks = λ _. subst (λ (marks : List Bool). AreMarks c.args.mmb.now [] marks) (sym c.new.ensures.items) (no-marks c.args.mmb.now);
      },
    );
  },
  tt,
  c.new-2.ensures c.args.mmb.now,
)

pub returns-clause-steps : goal.returns-clause-steps
returns-clause-steps g c =
    let file = c.args.mmb.now in
    ap (λ (at : ℕ). list_steps g.B.Bodies.STANDARD file (length file + 1) nothing_taken at) c.proof_at-at.ensures.place ∙ sym (steps-of-list g.B.Bodies.STANDARD file c.proof_at-at.ensures.binary.layout)
