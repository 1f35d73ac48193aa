use Rattle.std.proofs.Common.{◌≡◌, ◌∙◌, [], ap, drop, length, map, reverse, subst, sym}
use Rattle.std.proofs.lemmas.List.{reverse-reverse}
use Rattle.mz_logic_theory.specs.Tree.{listed}
use Rattle.mz_logic_theory.proofs.Offered.{length-binders}
use Rattle.mz_layout_tables.specs.Tables.{thm_row}
use Rattle.mz_machine_theory.specs.Spells.{at_first}
use Rattle.mz_machine_theory.specs.Streams.{StreamIs, of_assertion}
use Rattle.mz_machine_theory.proofs.Offered.{trees_of-listed}
use Rattle.mz_decompile_text.specs.Naming.{vocabulary_by}
use Rattle.mz_decompile_text.specs.Phrasing.{expression, expressions}
use Rattle.mz_decompile_text.specs.Numbers.{AreAt}
use Rattle.mz_decompile_text.proofs.RowNumbers.{are_phrases, are_there, at_grows, is_phrase}
use Rattle.mz_decompile_text.proofs.Rows.{over, target, thm_params, thm_stream}
use Rattle.mz_decompile_text.proofs.row.assertion.Goals as goal

pub expression-requires : goal.expression-requires
expression-requires c =
    let file = c.args.mmb.now in
    let v = vocabulary_by c.args.names.now in
    let params = thm_params file c.args.row in
    let many : length params ≡ c.thm_arity-params.result = length-binders 0 [] (thm_row file c.args.row).params ∙ sym c.thm_arity-params.ensures in
    let bytes : thm_stream file c.args.row ≡ c.unify_of_thm.result.1.now = sym (c.unify_of_thm.ensures.rest ∙ ap (λ n. drop n file) c.unify_of_thm.ensures.place) in
    let r = c.requires.spells in
    let w = r.2.1.1.1 in
    let o = over file of_assertion params r.0 r.1 in
    let st = c.in_ok-reading.ensures.ready file o params w.0 many many (subst (λ bs. StreamIs of_assertion bs w.0) bytes w.1) in
    record { can = (o, target r.2.0.conclusion w.2 w.3, at_first params, w.0, st, w.4) }

pub hypotheses-requires : goal.hypotheses-requires
hypotheses-requires c =
    let file = c.args.mmb.now in
    let v = vocabulary_by c.args.names.now in
    let params = thm_params file c.args.row in
    let many : length params ≡ c.thm_arity-params.result = length-binders 0 [] (thm_row file c.args.row).params ∙ sym c.thm_arity-params.ensures in
    let bytes : thm_stream file c.args.row ≡ c.unify_of_thm.result.1.now = sym (c.unify_of_thm.ensures.rest ∙ ap (λ n. drop n file) c.unify_of_thm.ensures.place) in
    let r = c.requires.spells in
    let w = r.2.1.1.1 in
    let o = over file of_assertion params r.0 r.1 in
    let st = c.in_ok-reading.ensures.ready file o params w.0 many many (subst (λ bs. StreamIs of_assertion bs w.0) bytes w.1) in
    let e = c.in_ok-conclusion.ensures.does o (target r.2.0.conclusion w.2 w.3) (at_first params) w.0 st w.4 in
    record { can = (o, w.2, w.3, reverse (listed r.2.0.hyps), r.2.1.1.0, e.0, w.5) }

pub returns-clause-said : goal.returns-clause-said
returns-clause-said c = λ sigs a arities spells.
    let file = c.args.mmb.now in
    let v = vocabulary_by c.args.names.now in
    let params = thm_params file c.args.row in
    let many : length params ≡ c.thm_arity-params.result = length-binders 0 [] (thm_row file c.args.row).params ∙ sym c.thm_arity-params.ensures in
    let bytes : thm_stream file c.args.row ≡ c.unify_of_thm.result.1.now = sym (c.unify_of_thm.ensures.rest ∙ ap (λ n. drop n file) c.unify_of_thm.ensures.place) in
    let w = spells.1.1 in
    let o = over file of_assertion params sigs arities in
    let st = c.in_ok-reading.ensures.ready file o params w.0 many many (subst (λ bs. StreamIs of_assertion bs w.0) bytes w.1) in
    let e = c.in_ok-conclusion.ensures.does o (target a.conclusion w.2 w.3) (at_first params) w.0 st w.4 in
    let ps = c.hypotheses.new.phrases in
    let ns = c.in_ok-hypotheses.hypotheses.items in
    let hs = subst (λ es. AreAt ps ns (map (expression v) es)) (reverse-reverse (listed a.hyps))
    (c.in_ok-hypotheses.ensures.does o w.2 w.3 (reverse (listed a.hyps)) spells.1.0 e.0 w.5) in
    record {
      conclusion = is_phrase ps c.in_ok-conclusion.conclusion (expression v a.conclusion)
          (at_grows c.expression.new.phrases ps c.in_ok-conclusion.conclusion (expression v a.conclusion) c.in_ok-hypotheses.ensures.grows e.1);
      there = are_there ps ns (map (expression v) (listed a.hyps)) hs;
      hypotheses = are_phrases v ps ns (listed a.hyps) hs ∙ ap (expressions v) (trees_of-listed a.hyps);
    }
