use Rattle.std.proofs.Common.{arith, sym, subst}
use Rattle.mz_spec_theory.specs.StatementCode.{lexeme}
use Rattle.mz_spec_theory.specs.Progress.{typed, without_deps}
use Rattle.mz_spec_grammar.specs.Standing.{Stands, behind}
use Rattle.mz_spec_grammar.proofs.Onward.{added, no, none-yet, this}
use Rattle.mz_spec_grammar.proofs.reader.Reader.typed.Goals as goal

pub deps-init : goal.deps-init
deps-init c = record {
  reads = λ slot s w.
      c.advance.ensures.reads _ tt s (
      none-yet lexeme (λ deps. behind (typed slot (record { sort = lexeme c.lexeme-sort.result; deps = deps }))) c.new-deps.ensures.items (
      subst (λ l. Stands s (behind (typed slot (without_deps l))) c.args.self.now) (sym c.lexeme-sort.ensures) w));
  shrinks = omega arith;
}

pub deps-preserved : goal.deps-preserved
deps-preserved c = record {
  reads = λ slot s w.
      c.advance-in-deps.ensures.reads _ tt s (
      added lexeme (λ deps. behind (typed slot (record { sort = lexeme c.lexeme-sort.result; deps = deps }))) _ _ c.push.ensures.reads (
      this (c.deps.invariant.reads slot s w) c.is.ensures.passes c.deps-test.true c.lexeme-dep.ensures));
  shrinks = omega arith;
}

pub returns-clause-reads : goal.returns-clause-reads
returns-clause-reads c = λ slot s w. no (c.deps.invariant.reads slot s w) c.is.ensures.passes c.deps-test.false
