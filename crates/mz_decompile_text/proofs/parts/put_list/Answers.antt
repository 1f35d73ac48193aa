use Rattle.std.proofs.Common.{◌∙◌, ap}
use Rattle.mz_decompile_text.specs.Phrases.{a_list}
use Rattle.mz_decompile_text.specs.ByNumber.{phrases_at}
use Rattle.mz_decompile_text.specs.Growing.{those_at}
use Rattle.mz_decompile_text.proofs.LongerProofs.{chosen-alone, tells-list, tells-as, adds-one, as-parts}
use Rattle.mz_decompile_text.proofs.parts.put_list.Goals as goal

pub list-requires : goal.list-requires
list-requires c =
    (
    chosen-alone c.args.phrases.now c.args.told.now c.new-items.result.items c.deref.result.now c.args.nodes.now c.new-items.ensures.items
    (c.deref.ensures.value ∙ c.in_ok-put_told.ensures) c.requires.told c.requires.nodes
    ).there

pub returns : goal.returns
returns c =
    let a = c.args.phrases.now in
    let qs = those_at a c.args.told.now in
    let g =
    chosen-alone a c.args.told.now c.new-items.result.items c.deref.result.now c.args.nodes.now c.new-items.ensures.items
    (c.deref.ensures.value ∙ c.in_ok-put_told.ensures) c.requires.told c.requires.nodes in
    let t =
    tells-as a c.list.new.phrases _ (a_list (phrases_at qs c.args.nodes.now)) c.in_ok-n.n
    (tells-list a a c.list.new.phrases c.deref.result.now (those_at qs c.args.nodes.now) c.in_ok-n.n g c.in_ok-n.ensures)
    (ap a_list (as-parts qs c.args.nodes.now)) in
    adds-one a c.list.new.phrases c.args.parts.now.items c.push.new.self.items (a_list (phrases_at qs c.args.nodes.now)) c.in_ok-n.n t c.in_ok-push.ensures.items c.requires.parts
