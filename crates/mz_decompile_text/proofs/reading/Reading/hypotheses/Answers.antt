use Rattle.std.proofs.Common.{◌≡◌, ◌∙◌, ◌++◌, [], ap, append-nil, map, refl, reverse, subst, sym}
use Rattle.mz_decompile_text.specs.Naming.{vocabulary_by}
use Rattle.mz_decompile_text.specs.Phrasing.{expression}
use Rattle.mz_decompile_text.specs.Frames.{Target}
use Rattle.mz_decompile_text.specs.Numbers.{AreAt}
use Rattle.mz_decompile_text.proofs.RowNumbers.{are_reversed, map_turned}
use Rattle.mz_decompile_text.proofs.LongerProofs.{grows-same, grows-on}
use Rattle.mz_decompile_text.proofs.RowSteps.{read_more}
use Rattle.mz_decompile_text.proofs.reading.Reading.hypotheses.Goals as goal

pub hyps-init : goal.hyps-init
hyps-init c = record {
  grows = grows-same c.args.phrases.now;
  does = λ o m us hs last st hyps. record {
    done = [];
    others = hs;
    marks = m;
    commands = us;
    all = refl;
    between = st;
    spells = hyps;
    numbers = subst (λ ns. AreAt c.args.phrases.now ns []) (sym c.new-numbers.ensures.items) tt;
  };
}

pub next_hyp-requires : goal.next_hyp-requires
next_hyp-requires c =
    let r = c.requires.can in
    let a = c.hyps.invariant.does r.0 r.1 r.2 r.3 r.4 r.5 r.6 in
    record { can = (c.args.mmb.now, r.0, a.marks, a.commands, a.others, r.4, a.between.stream, a.spells) }

pub expression-requires : goal.expression-requires
expression-requires c =
    let r = c.requires.can in
    let a = c.hyps.invariant.does r.0 r.1 r.2 r.3 r.4 r.5 r.6 in
    let h = c.hyps-test.ensures.does c.args.mmb.now r.0 (vocabulary_by c.args.names.now) c.hyps.phrases a.marks a.commands a.others r.4 a.between a.spells in
    let t : Target = record { tree = h.0; after = h.3; rest = h.4 } in
    record { can = (r.0, t, a.marks, h.2, h.6, h.7) }

pub hyps-preserved : goal.hyps-preserved
hyps-preserved c = record {
  grows = grows-on c.args.phrases.now c.hyps.phrases c.expression.new.phrases c.hyps.invariant.grows c.in_ok-number.ensures.grows;
  does = λ o m us hs last st hyps.
      let v = vocabulary_by c.args.names.now in
      let a = c.hyps.invariant.does o m us hs last st hyps in
      let h = c.hyps-test.ensures.does c.args.mmb.now o v c.hyps.phrases a.marks a.commands a.others last a.between a.spells in
      let t : Target = record { tree = h.0; after = h.3; rest = h.4 } in
      read_more c.args.mmb.now o v c.hyps.phrases c.expression.new.phrases c.hyps.self c.next_hyp.new.self c.expression.new.self c.hyps.numbers.items c.push.new.self.items hs last
      c.in_ok-number.number a h
      c.in_ok-number.ensures.grows (c.in_ok-number.ensures.does o t a.marks h.2 h.6 h.7) c.in_ok-push.ensures.items;
}

pub returns-clause-does : goal.returns-clause-does
returns-clause-does c = λ o m us hs last st hyps.
    let v = vocabulary_by c.args.names.now in
    let a = c.hyps.invariant.does o m us hs last st hyps in
    let none-left = c.hyps-test.ensures.does c.args.mmb.now o v c.hyps.phrases a.marks a.commands a.others last a.between a.spells in
    let all : hs ≡ a.done = a.all ∙ ap (λ es. a.done ++ es) none-left ∙ append-nil a.done in
    subst (λ ns. AreAt c.hyps.phrases ns (map (expression v) (reverse hs))) (sym c.reverse.ensures.items)
    (subst (λ es. AreAt c.hyps.phrases (reverse c.hyps.numbers.items) (map (expression v) (reverse es))) (sym all)
    (subst (AreAt c.hyps.phrases (reverse c.hyps.numbers.items)) (map_turned (expression v) a.done) (are_reversed c.hyps.phrases c.hyps.numbers.items (map (expression v) a.done) a.numbers)))
