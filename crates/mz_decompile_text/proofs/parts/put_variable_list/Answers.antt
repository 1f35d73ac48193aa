use Rattle.std.proofs.Common.{ℕ, sym, ap, subst, map}
use Rattle.mz_decompile_text.specs.Phrases.{a_word, a_list}
use Rattle.mz_decompile_text.specs.Phrasing.{variable_names}
use Rattle.mz_decompile_text.specs.Naming.{vocabulary_by}
use Rattle.mz_decompile_text.specs.ByNumber.{phrases_at}
use Rattle.mz_decompile_text.specs.Growing.{AreThere}
use Rattle.mz_decompile_text.proofs.LongerProofs.{empty-there, from-none, tells-list, tells-as, adds-one, words-are}
use Rattle.mz_decompile_text.proofs.parts.put_variable_list.Goals as goal

pub put_variables-requires : goal.put_variables-requires
put_variables-requires c = empty-there c.args.phrases.now c.new-items.result.items c.new-items.ensures.items

pub list-requires : goal.list-requires
list-requires c = subst (AreThere c.put_variables.new.phrases) (sym c.deref.ensures.value) c.in_ok-put_variables.ensures.there

pub returns : goal.returns
returns c =
    let v = vocabulary_by c.args.names.now in
    let xs = c.args.variables.now in
    let ps = map (λ (x : ℕ). a_word (v.variable x)) xs in
    let a = c.args.phrases.now in
    let b = c.put_variables.new.phrases in
    let d = c.list.new.phrases in
    let g = from-none a b c.new-items.result.items c.put_variables.new.parts.items ps c.new-items.ensures.items c.in_ok-put_variables.ensures in
    let here = ap (λ ns. a_list (phrases_at b ns)) c.deref.ensures.value in
    let t =
    tells-as a d _ (variable_names v xs) c.in_ok-n.n
    (tells-list a b d c.put_variables.new.parts.items ps c.in_ok-n.n g (tells-as b d _ _ c.in_ok-n.n c.in_ok-n.ensures here))
    (ap a_list (words-are v.variable xs)) in
    adds-one a d c.args.parts.now.items c.push.new.self.items (variable_names v xs) c.in_ok-n.n t c.in_ok-push.ensures.items c.requires
