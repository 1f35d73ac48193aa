use Rattle.std.proofs.Common.{◌≤◌, ◌<◌, ◌∙◌, ◌++◌, ◌∷◌, [], All, ap, drop, length, map, refl, subst, sym}
use Rattle.mz_decompile_text.specs.Phrases.{a_word}
use Rattle.mz_decompile_text.specs.Phrasing.{expression}
use Rattle.mz_decompile_text.specs.Numbers.{AreAt}
use Rattle.mz_decompile_text.proofs.RowSteps.{close_done, closing, closing_from, closing_mark, closing_there}
use Rattle.mz_decompile_text.proofs.reading.Reading.close.Goals as goal

pub parts_from-requires : goal.parts_from-requires
parts_from-requires c =
    let r = c.requires.can in
    let self = c.args.self.now in
    let ps = c.args.phrases.now in
    let others = c.pop.new.self.items in
    let last = c.in-Some.last in
    subst (λ ns. last.from ≤ length ns) (sym c.deref.ensures.value)
    (closing_from r.0 r.2 r.1 ps self r.3 others last (closing r.0 r.2 r.1 ps self r.3 others last r.4 c.in-Some.ensures.items c.requires.complete))

pub gather-requires : goal.gather-requires
gather-requires c =
    let r = c.requires.can in
    let self = c.args.self.now in
    let ps = c.args.phrases.now in
    let others = c.pop.new.self.items in
    let last = c.in-Some.last in
    subst (All (λ n. n < length ps)) (sym (c.parts_from.ensures ∙ ap (drop last.from) c.deref.ensures.value))
    (closing_there r.0 r.2 r.1 ps self r.3 others last (closing r.0 r.2 r.1 ps self r.3 others last r.4 c.in-Some.ensures.items c.requires.complete))

pub set_mark-requires : goal.set_mark-requires
set_mark-requires c =
    let r = c.requires.can in
    let self = c.args.self.now in
    let ps = c.args.phrases.now in
    let others = c.pop.new.self.items in
    let last = c.in-Some.last in
    closing_mark r.0 r.2 r.1 ps self r.3 others last (closing r.0 r.2 r.1 ps self r.3 others last r.4 c.in-Some.ensures.items c.requires.complete)

pub returns-clause-does : goal.returns-clause-does
returns-clause-does c = λ file v o t g.
    let self = c.args.self.now in
    let ps = c.args.phrases.now in
    let others = c.pop.new.self.items in
    let last = c.in-Some.last in
    close_done file o v ps c.gather.new.phrases self _ t others last c.in_ok-number.number
    (closing file o v ps self t others last g c.in-Some.ensures.items c.requires.complete) c.in_ok-number.ensures.grows
    (λ w es h. c.in_ok-number.ensures.is v w es
    (subst (λ ns. AreAt ps ns (a_word (v.term w) ∷ map (expression v) es)) (sym (c.parts_from.ensures ∙ ap (drop last.from) c.deref.ensures.value)) h))
    refl refl c.set_mark.ensures refl (c.in_ok-push.ensures.items ∙ ap (λ ns. ns ++ c.in_ok-number.number ∷ []) c.truncate.ensures.items) refl
