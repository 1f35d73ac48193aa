use Rattle.std.proofs.Common.{◌<◌, All, [], IfOk, length, sym, subst}
use Rattle.std.proofs.lemmas.Result.{IfOk-weaker}
use Rattle.mz_decompile_text.specs.Naming.{vocabulary_by}
use Rattle.mz_decompile_text.specs.ByNumber.{Grows}
use Rattle.mz_decompile_text.specs.Telling.{AreLowerAfter}
use Rattle.mz_decompile_text.specs.Gathering.{AreGathered, IsBehind}
use Rattle.mz_decompile_text.specs.Retelling.{IsRetold, IsWeighed}
use Rattle.mz_decompile_text.specs.declared.proof.Retold.{Retold}
use Rattle.mz_decompile_text.proofs.LongerProofs.{grows-on}
use Rattle.mz_decompile_text.proofs.Lowering.{nodes-low}
use Rattle.mz_decompile_text.proofs.Wholes.{lets-there, root-there, run-phrase, run-weight}
use Rattle.mz_decompile_text.proofs.proof.retell.Goals as goal

pub tell_all-requires : goal.tell_all-requires
tell_all-requires c = let whole = c.nodes.ensures.whole in subst (AreLowerAfter 0) (sym c.nodes.ensures.nodes) (nodes-low whole.tables [] c.args.run.now.nodes whole.parts)

pub behind_lets-requires-clause-lets : goal.behind_lets-requires-clause-lets
behind_lets-requires-clause-lets c =
    let v = vocabulary_by c.args.names.now in
    let ps = c.tell_all.new.phrases in
    let t = c.in_ok-told.told in
    let g = subst (λ ns. AreGathered v ps ns t) c.nodes.ensures.nodes c.in_ok-told.ensures.told in
    subst (All (λ n. n < length t.phrases.items)) (sym c.lets.ensures) (lets-there v c.args.run.now ps t c.nodes.ensures.whole g)

pub behind_lets-requires-clause-root : goal.behind_lets-requires-clause-root
behind_lets-requires-clause-root c =
    let v = vocabulary_by c.args.names.now in
    let ps = c.tell_all.new.phrases in
    let t = c.in_ok-told.told in
    let g = subst (λ ns. AreGathered v ps ns t) c.nodes.ensures.nodes c.in_ok-told.ensures.told in
    subst (λ n. n < length t.phrases.items) (sym c.root.ensures.number) (root-there v c.args.run.now ps t c.nodes.ensures.whole g)

pub returns-clause-grows : goal.returns-clause-grows
returns-clause-grows c =
    let v = vocabulary_by c.args.names.now in
    let a = c.args.phrases.now in
    let ps = c.tell_all.new.phrases in
    let qs = c.behind_lets.new.phrases in
    IfOk-weaker c.behind_lets.result (λ (x : Retold). IsBehind v ps qs c.in_ok-told.told c.lets.result.now c.root.result 0 x.phrase x.weight) (λ x. Grows a qs)
    (λ x h. grows-on a ps qs c.in_ok-told.ensures.grows h.grows) c.behind_lets.ensures

pub returns-clause-phrase : goal.returns-clause-phrase
returns-clause-phrase c =
    let v = vocabulary_by c.args.names.now in
    let r = c.args.run.now in
    let ps = c.tell_all.new.phrases in
    let qs = c.behind_lets.new.phrases in
    let t = c.in_ok-told.told in
    let g = subst (λ ns. AreGathered v ps ns t) c.nodes.ensures.nodes c.in_ok-told.ensures.told in
    let b = subst (λ n. IfOk c.behind_lets.result (λ x. IsBehind v ps qs t r.lets n 0 x.phrase x.weight)) c.root.ensures.number
    (subst (λ ls. IfOk c.behind_lets.result (λ x. IsBehind v ps qs t ls c.root.result 0 x.phrase x.weight)) c.lets.ensures c.behind_lets.ensures) in
    IfOk-weaker c.behind_lets.result (λ (x : Retold). IsBehind v ps qs t r.lets r.root 0 x.phrase x.weight) (λ x. IsRetold v r qs x.phrase)
    (λ x h. run-phrase v r ps qs t x.phrase x.weight c.nodes.ensures.whole g h) b

pub returns-clause-weight : goal.returns-clause-weight
returns-clause-weight c =
    let v = vocabulary_by c.args.names.now in
    let r = c.args.run.now in
    let ps = c.tell_all.new.phrases in
    let qs = c.behind_lets.new.phrases in
    let t = c.in_ok-told.told in
    let g = subst (λ ns. AreGathered v ps ns t) c.nodes.ensures.nodes c.in_ok-told.ensures.told in
    let b = subst (λ n. IfOk c.behind_lets.result (λ x. IsBehind v ps qs t r.lets n 0 x.phrase x.weight)) c.root.ensures.number
    (subst (λ ls. IfOk c.behind_lets.result (λ x. IsBehind v ps qs t ls c.root.result 0 x.phrase x.weight)) c.lets.ensures c.behind_lets.ensures) in
    IfOk-weaker c.behind_lets.result (λ (x : Retold). IsBehind v ps qs t r.lets r.root 0 x.phrase x.weight) (λ x. IsWeighed r x.weight)
    (λ x h. run-weight v r ps qs t x.phrase x.weight c.nodes.ensures.whole g h) b
