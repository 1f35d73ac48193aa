use Rattle.std.proofs.Common.{◌≡◌, ◌+◌, ◌-◌, length, ap, sym, subst, arith}
use Rattle.mz_spec_theory.specs.StatementCode.{statement}
use Rattle.mz_spec.specs.Answers.{IsAnswer, halted}
use Rattle.mz_spec_rules.specs.Entries.{state}
use Rattle.mz_spec_theory.specs.Kept.{IsKept}
use Rattle.mz_spec.specs.Reading.{StandTo}
use Rattle.mz_spec_theory.proofs.Offered.{kept-nothing, kept-after}
use Rattle.mz_spec.proofs.Texts.{stand-begins, stand-next, spec-made, halt-stops, halt-breaks, read-spelled, read-two, after-spans, judged-good}
use Rattle.mz_spec.proofs.reader.read_into.Goals as goal

pub statements-init : goal.statements-init
statements-init c =
    let none = ap (λ x. length x.spans) c.requires.empty in
    record {
      within = omega arith;
      some = omega arith;
      few = omega arith;
      spans = omega (arith, none);
      kept = subst IsKept (sym c.requires.empty) kept-nothing;
      stand = subst (StandTo c.args.text.now 0 0) (sym c.requires.empty) (stand-begins c.args.text.now);
    }

pub returns-in-Ok-None : goal.returns-in-Ok-None
returns-in-Ok-None c = record {
  made = spec-made c.args.text.now (c.statements.statement - 1) c.statements.at (state c.statements.state) c.statements.invariant.stand (rw c.in-Ok-None.field-0-is at c.in-Ok-None.ensures.read);
  kept = c.statements.invariant.kept;
  few =
      let spans = c.statements.invariant.spans in
      let few = c.statements.invariant.few in
      let within = c.statements.invariant.within in
      omega (arith, spans, few, within, c.requires.small);
  stops = tt;
}

pub returns-in-Err : goal.returns-in-Err
returns-in-Err c =
    let some = c.statements.invariant.some in
    let many : (c.statements.statement - 1) + 1 ≡ c.statements.statement = omega (arith, some) in
    record {
      made = tt;
      kept = tt;
      few = tt;
      stops = subst (λ n. IsAnswer c.args.text.now (halted n c.in-Err.halt)) many
          (halt-stops c.args.text.now (c.statements.statement - 1) c.statements.at (state c.statements.state) c.in-Err.halt c.statements.invariant.stand c.in-Err.ensures.stops);
    }

pub add-requires-clause-few : goal.add-requires-clause-few
add-requires-clause-few c =
    let is = rw c.in-Ok-Some.field-0-is at c.in-Ok-Some.ensures.read in
    let within = rw c.in-Ok-Some.field-0-is at c.in-Ok-Some.ensures.within in
    let spans = c.statements.invariant.spans in
    let few = c.statements.invariant.few in
    omega (arith, read-two c.args.text.now c.statements.at c.in-Ok-Some.read is, within, spans, few, c.requires.small)

pub add-requires-clause-spelled : goal.add-requires-clause-spelled
add-requires-clause-spelled c =
    let is = rw c.in-Ok-Some.field-0-is at c.in-Ok-Some.ensures.read in
    let within = rw c.in-Ok-Some.field-0-is at c.in-Ok-Some.ensures.within in
    read-spelled c.args.text.now c.statements.at c.in-Ok-Some.read c.requires.small within is

pub returns-in-Err-add : goal.returns-in-Err-add
returns-in-Err-add c =
    let some = c.statements.invariant.some in
    let many : (c.statements.statement - 1) + 1 ≡ c.statements.statement = omega (arith, some) in
    record {
      made = tt;
      kept = tt;
      few = tt;
      stops = subst (λ n. IsAnswer c.args.text.now (halted n c.in-Err-add.halt)) many
          (halt-breaks c.args.text.now (c.statements.statement - 1) c.statements.at (state c.statements.state) c.in-Ok-Some.read c.in-Err-add.halt c.statements.invariant.stand
          (rw c.in-Ok-Some.field-0-is at c.in-Ok-Some.ensures.read) c.in-Err-add.ensures.judged);
    }

pub statements-smaller : goal.statements-smaller
statements-smaller c =
    let is = rw c.in-Ok-Some.field-0-is at c.in-Ok-Some.ensures.read in
    let within = rw c.in-Ok-Some.field-0-is at c.in-Ok-Some.ensures.within in
    omega (arith, read-two c.args.text.now c.statements.at c.in-Ok-Some.read is, within)

pub statements-preserved : goal.statements-preserved
statements-preserved c =
    let is = rw c.in-Ok-Some.field-0-is at c.in-Ok-Some.ensures.read in
    let within = rw c.in-Ok-Some.field-0-is at c.in-Ok-Some.ensures.within in
    let s = statement c.in-Ok-Some.read.statement in
    let σ = state c.statements.state in
    let τ = state c.add.new.state in
    let two = read-two c.args.text.now c.statements.at c.in-Ok-Some.read is in
    let few = c.statements.invariant.few in
    let some = c.statements.invariant.some in
    let spans = c.statements.invariant.spans in
    let more = after-spans σ c.in-Ok-Some.read.place s τ c.in_default.ensures.after in
    let good = judged-good σ c.in-Ok-Some.read.place s c.in_default.ensures.judged in
    let next : (c.statements.statement - 1) + 1 ≡ (c.statements.statement + 1) - 1 = omega (arith, some) in
    record {
      within = within;
      some = omega arith;
      few = omega (arith, two, few);
      spans = omega (arith, more, spans);
      kept = kept-after σ c.in-Ok-Some.read.place c.statements.invariant.kept s τ (read-spelled c.args.text.now c.statements.at c.in-Ok-Some.read c.requires.small within is) good c.in_default.ensures.after;
      stand = subst (λ n. StandTo c.args.text.now n c.in-Ok-Some.read.end τ) next
          (stand-next c.args.text.now (c.statements.statement - 1) c.statements.at σ τ c.in-Ok-Some.read c.statements.invariant.stand is good c.in_default.ensures.after);
    }
