use Rattle.std.proofs.Common.{[], None, refl, inl, inr, rules}
use Rattle.std.proofs.lemmas.Option.{none-some}
use Rattle.mz_binary_theory.specs.Standards.{strict_standard}
use Rattle.mz_io.proofs.Offered.{grows-none, written-none}
use Rattle.mz_match.proofs.Offered.{refused-first}
use Rattle.mz_tool_engine.specs.Inputs.{contents_of}
use Rattle.mz_tool.proofs.Rests.{axioms-affirms, axioms-refuse, axioms-sound, printed-affirms, room-of_printed}
use Rattle.mz_tool.proofs.axioms.AxiomsCommandCommand.answer.Goals as goal

pub axioms_in-requires : goal.axioms_in-requires
axioms_in-requires g c = (c.two.result.0.now, c.two.result.1.now, c.in-Ok.ensures)

pub returns-in-Ok-write_axioms-clause-log : goal.returns-in-Ok-write_axioms-clause-log
returns-in-Ok-write_axioms-clause-log g c =
    let spec = c.two.result.0.now in
    let bin = c.two.result.1.now in
    let alone = c.each_pair_has_one_verdict.ensures.not_both in
    let spec_name = c.args.self.now.spec.now in
    let bin_name = c.args.self.now.bin.now in
    let contents = contents_of c.args.contents.now in
    let are = c.in-Ok-axioms_in.ensures spec bin c.in-Ok.ensures in
    let w = c.in-Ok-write_axioms.ensures.log spec c.in-Ok.ensures.named in
    let line = w.2.0 in
    let is = w.2.1 in (
      w.0,
      w.1,
      (
        line,
        w.2.2,
        inl refl,
        printed-affirms spec bin alone spec_name bin_name contents c.two.ensures.is line c.new-in-Ok-write_axioms.result.items c.new-in-Ok-write_axioms.ensures.items (c.in-Ok-axioms_in.lists, are, is),
        axioms-sound spec bin alone spec_name bin_name contents c.two.ensures.is (c.accepted_pairs_are_sound.ensures spec bin are.accepts),
        λ bytes some. absurd (none-some bytes some),
      ),
    )

pub returns-in-Ok-write_axioms-clause-only_full : goal.returns-in-Ok-write_axioms-clause-only_full
returns-in-Ok-write_axioms-clause-only_full g c = λ clear fits.
    let spec = c.two.result.0.now in
    let bin = c.two.result.1.now in
    let alone = c.each_pair_has_one_verdict.ensures.not_both in
    let spec_name = c.args.self.now.spec.now in
    let bin_name = c.args.self.now.bin.now in
    let contents = contents_of c.args.contents.now in
    let are = c.in-Ok-axioms_in.ensures spec bin c.in-Ok.ensures in
    c.in-Ok-write_axioms.ensures.only_full spec c.in-Ok.ensures.named clear
    (λ text is. room-of_printed spec bin alone spec_name bin_name contents c.two.ensures.is (g.O.Sink.room c.args.out.now) fits text (c.in-Ok-axioms_in.lists, are, is))

pub returns-in-Ok-write_axioms-clause-left : goal.returns-in-Ok-write_axioms-clause-left
returns-in-Ok-write_axioms-clause-left g c = λ clear fits. (c.in-Ok-write_axioms.ensures.stays_clear clear, search rules)

pub returns-in-Ok-clause-log : goal.returns-in-Ok-clause-log
returns-in-Ok-clause-log g c =
    let spec = c.two.result.0.now in
    let bin = c.two.result.1.now in
    let alone = c.each_pair_has_one_verdict.ensures.not_both in
    let spec_name = c.args.self.now.spec.now in
    let bin_name = c.args.self.now.bin.now in
    let contents = contents_of c.args.contents.now in
    let are = c.in-Ok-axioms_in.ensures spec bin c.in-Ok.ensures in
    let w = c.in-Err-write_axioms.ensures.log spec c.in-Ok.ensures.named in
    (w.0, w.1, (w.2.0, inl (axioms-affirms spec bin alone spec_name bin_name contents c.two.ensures.is w.2.0 (c.in-Ok-axioms_in.lists, are, w.2.1)), w.2.2))

pub returns-in-Ok-clause-only_full : goal.returns-in-Ok-clause-only_full
returns-in-Ok-clause-only_full g c = λ clear fits.
    let spec = c.two.result.0.now in
    let bin = c.two.result.1.now in
    let alone = c.each_pair_has_one_verdict.ensures.not_both in
    let spec_name = c.args.self.now.spec.now in
    let bin_name = c.args.self.now.bin.now in
    let contents = contents_of c.args.contents.now in
    let are = c.in-Ok-axioms_in.ensures spec bin c.in-Ok.ensures in
    c.in-Err-write_axioms.ensures.only_full spec c.in-Ok.ensures.named clear
    (λ text is. room-of_printed spec bin alone spec_name bin_name contents c.two.ensures.is (g.O.Sink.room c.args.out.now) fits text (c.in-Ok-axioms_in.lists, are, is))

pub returns-in-Ok-verdict_line-clause-log : goal.returns-in-Ok-verdict_line-clause-log
returns-in-Ok-verdict_line-clause-log g c =
    let spec = c.two.result.0.now in
    let bin = c.two.result.1.now in
    let alone = c.each_pair_has_one_verdict.ensures.not_both in
    let spec_name = c.args.self.now.spec.now in
    let bin_name = c.args.self.now.bin.now in
    let contents = contents_of c.args.contents.now in
    let verdict = c.in-Err.verdict in
    let first = refused-first strict_standard spec bin verdict c.in-Err.ensures c.in_default-verdict.not-Mem in
    grows-none _ _ ([], written-none, axioms-refuse spec bin alone spec_name bin_name contents c.two.ensures.is verdict c.in-Ok-verdict_line.text.items first c.in-Ok-verdict_line.ensures)

pub returns-in-Ok-verdict_line-clause-left : goal.returns-in-Ok-verdict_line-clause-left
returns-in-Ok-verdict_line-clause-left g c = λ clear fits.
    let spec = c.two.result.0.now in
    let bin = c.two.result.1.now in
    let alone = c.each_pair_has_one_verdict.ensures.not_both in
    let spec_name = c.args.self.now.spec.now in
    let bin_name = c.args.self.now.bin.now in
    let contents = contents_of c.args.contents.now in
    let verdict = c.in-Err.verdict in
    let first = refused-first strict_standard spec bin verdict c.in-Err.ensures c.in_default-verdict.not-Mem in
    (clear, fits None c.in-Ok-verdict_line.text.items (inr (refl, axioms-refuse spec bin alone spec_name bin_name contents c.two.ensures.is verdict c.in-Ok-verdict_line.text.items first c.in-Ok-verdict_line.ensures)))
