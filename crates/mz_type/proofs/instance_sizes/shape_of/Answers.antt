use Rattle.std.proofs.Common.{◌≡◌, ◌++◌, length, drop, take, replicate, ap, ◌∙◌}
use Rattle.std.proofs.lemmas.List.{with_items_is, length-replicate}
use Rattle.mz_logic_theory.specs.View.{tree}
use Rattle.mz_type.specs.Shapes.{counted}
use Rattle.mz_type.proofs.Shaping.{length_counted, shape_is}
use Rattle.mz_type.proofs.instance_sizes.shape_of.Goals as goal

pub returns : goal.returns
returns c =
    let n = c.args.places in
    let e = tree c.args.expr.now in
    let uses = c.in_ok-uses.uses in
    let before = c.deref_mut.result.now in
    let after = c.count_uses.new.uses in
    let zeros : before ≡ replicate n 0 = c.deref_mut.ensures.value ∙ c.in_ok-uses.ensures.items_if_clones_equal (λ y h. h) in
    let is : after ≡ counted before e = c.count_uses.ensures ∙ ap (counted before) c.borrowed.ensures in
    let written = with_items_is uses after (ap length is ∙ length_counted before e ∙ c.deref_mut.ensures.len) in
    shape_is c.requires.there.0 n c.size_of.result (take uses.len (after ++ drop (length after) uses.items)) before e c.requires.there.1 zeros (ap length zeros ∙ length-replicate n 0)
    c.size_of.ensures (written ∙ is)
