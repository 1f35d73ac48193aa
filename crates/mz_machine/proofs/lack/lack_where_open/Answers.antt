use Rattle.std.proofs.Common.{◌≤◌, subst, arith, refl, inl, inr}
use Rattle.mz_cmd.specs.declared.code.ProofCode.{ProofCode}
use Rattle.mz_machine_env.specs.Before.{tables_of}
use Rattle.mz_machine_env.specs.OwnRow.{kind_of}
use Rattle.mz_machine.specs.OverStore.{code_of}
use Rattle.mz_machine.specs.OpenEquations.{stored, asked_by, many_to_come}
use Rattle.mz_machine.proofs.LackRows.{asks-none, asks-one, no-lack-by, not-enough}
use Rattle.mz_machine.proofs.lack.lack_where_open.Goals as goal

pub returns-in_default-clause-none : goal.returns-in_default-clause-none
returns-in_default-clause-none c =
    no-lack-by (tables_of c.args.env.now) (kind_of c.args.kind) c.args.cmd c.args.written c.args.equations.now
    λ d one. absurd (asks-none (kind_of c.args.kind) c.args.cmd (c.in_default.ensures.none c.args.cmd.value) d one)

pub returns-then-asked-written-clause-none : goal.returns-then-asked-written-clause-none
returns-then-asked-written-clause-none c =
    no-lack-by (tables_of c.args.env.now) (kind_of c.args.kind) c.args.cmd c.args.written c.args.equations.now
    λ d one. (
    let same = asks-one (kind_of c.args.kind) c.args.cmd (code_of c.in-Some.command) d (c.in-Some.ensures.some c.args.cmd.value) one in
    subst (λ (k : ProofCode). asked_by (tables_of c.args.env.now) k c.args.cmd.value ≤ c.args.written) same (omega (arith, c.asked_by-asked.ensures, c.if-asked-written.true))
    )

pub returns-then-reach-clause-some : goal.returns-then-reach-clause-some
returns-then-reach-clause-some c = record {
  code = code_of c.in-Some.command;
  here = c.in-Some.ensures.some c.args.cmd.value;
  lacking = (
    omega (arith, c.asked_by-asked.ensures, c.if-asked-written.false),
    inl (refl, (let enough = c.reach.ensures.0 c.if-reach.true in omega (arith, c.asked_by-asked.ensures, enough))),
  );
}

pub returns-else-reach-clause-some : goal.returns-else-reach-clause-some
returns-else-reach-clause-some c = record {
  code = code_of c.in-Some.command;
  here = c.in-Some.ensures.some c.args.cmd.value;
  lacking = (
    omega (arith, c.asked_by-asked.ensures, c.if-asked-written.false),
    inr (
      refl,
      (let more = not-enough c.asked_by-asked.result c.args.written (many_to_come (stored c.args.store.now) c.args.equations.now) c.reach.result c.if-reach.false c.reach.ensures.1 in omega (arith, c.asked_by-asked.ensures, more)),
    ),
  );
}
