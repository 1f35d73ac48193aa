use Rattle.std.proofs.Common.{◌∙◌, ◌+◌, ◌∷◌, drop, ap, subst, sym}
use Rattle.std.proofs.lemmas.List.{drop_more, drop_all}
use Rattle.mz_decompile_text.specs.Naming.{vocabulary_by}
use Rattle.mz_decompile_text.proofs.Progress.{IsSoFar, at-first, one-further, at-last}
use Rattle.mz_decompile_text.proofs.proof.tell_all.Goals as goal

pub nodes-init : goal.nodes-init
nodes-init c = at-first (vocabulary_by c.args.names.now) c.args.phrases.now c.args.nodes.now _ c.new.ensures.items c.new-2.ensures.items c.requires

pub nodes-preserved : goal.nodes-preserved
nodes-preserved c =
    let v = vocabulary_by c.args.names.now in
    let ns = c.args.nodes.now in
    let i = c.nodes.node-index in
    let n = c.node-item.result in
    let next = drop_more ns i n c.nodes-test.true ∙ ap (λ x. x ∷ drop (i + 1) ns) (sym c.node-item.is) in
    one-further v c.args.phrases.now c.nodes.phrases c.tell_next.new.phrases ns (drop (i + 1) ns) n c.nodes.told c.tell_next.new.told
    (subst (λ left. IsSoFar v c.args.phrases.now c.nodes.phrases ns left c.nodes.told) next c.nodes.invariant)
    c.in_ok-tell_next.ensures

pub returns : goal.returns
returns c =
    let v = vocabulary_by c.args.names.now in
    let ns = c.args.nodes.now in
    let none = drop_all c.nodes.node-index ns c.nodes-test.false in
    let last = subst (λ left. IsSoFar v c.args.phrases.now c.nodes.phrases ns left c.nodes.told) none c.nodes.invariant in
    record { grows = last.grows; told = at-last v c.args.phrases.now c.nodes.phrases ns c.nodes.told last }
