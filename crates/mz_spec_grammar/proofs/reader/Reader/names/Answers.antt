use Rattle.std.proofs.Common.{arith, refl}
use Rattle.mz_spec_theory.specs.StatementCode.{name_text}
use Rattle.mz_spec_theory.specs.Progress.{group_opened}
use Rattle.mz_spec_grammar.specs.Standing.{behind}
use Rattle.mz_spec_grammar.proofs.Onward.{added, no, onto, this, yes}
use Rattle.mz_spec_grammar.proofs.reader.Reader.names.Goals as goal

pub names-preserved-then-is : goal.names-preserved-then-is
names-preserved-then-is c = record {
  reads = λ h is_bound s w.
      added name_text (λ names. behind (group_opened (record { kind = c.args.kind; head = h; is_bound = is_bound; names = names }))) _ _ c.push.ensures.reads (
      this (onto c.advance.ensures.reads refl (c.names.invariant.reads h is_bound s w)) c.is.ensures.passes c.if-is.true c.lexeme-name.ensures);
  shrinks = omega arith;
}

pub returns-then-not-is-clause-reads : goal.returns-then-not-is-clause-reads
returns-then-not-is-clause-reads c = λ h is_bound s w.
    c.need.ensures.reads _ s (no (no (onto c.advance.ensures.reads refl (c.names.invariant.reads h is_bound s w)) c.is.ensures.passes c.if-is.false) c.is-in-names.ensures.passes c.if-not-is.true)

pub names-preserved : goal.names-preserved
names-preserved c = record {
  reads = λ h is_bound s w.
      added name_text (λ names. behind (group_opened (record { kind = c.args.kind; head = h; is_bound = is_bound; names = names }))) _ _ c.push-in-names.ensures.reads (
      c.take-name.ensures.reads _ _ refl s (
      yes (no (onto c.advance.ensures.reads refl (c.names.invariant.reads h is_bound s w)) c.is.ensures.passes c.if-is.false) c.is-in-names.ensures.passes c.if-not-is.false));
  shrinks = omega arith;
}
