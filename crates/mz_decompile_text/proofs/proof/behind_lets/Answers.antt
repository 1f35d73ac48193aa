use Rattle.std.proofs.Common.{◌≡◌, ◌<◌, ◌-◌, suc, length, get_or, subst, arith}
use Rattle.mz_decompile_text.specs.Naming.{vocabulary_by}
use Rattle.mz_decompile_text.specs.Gathering.{IsBehind}
use Rattle.mz_decompile_text.proofs.LongerProofs.{longer}
use Rattle.mz_decompile_text.proofs.ProofsBehind.{read-there, behind-none, behind-more}
use Rattle.mz_decompile_text.proofs.proof.behind_lets.Goals as goal

pub lets-init : goal.lets-init
lets-init c =
    behind-none (vocabulary_by c.args.names.now) c.args.phrases.now c.args.told.now c.args.lets.now c.args.root (length c.args.lets.now)
    c.index-phrase.result.now c.index-weight.result.now c.requires.told c.requires.root (omega arith) c.index-phrase.ensures c.index-weight.ensures c.type_inv.weight.fits

pub in_let-requires-clause-first : goal.in_let-requires-clause-first
in_let-requires-clause-first c =
    let k = c.lets.k - 1 in
    let near = c.lets.auto.k in
    let some = c.lets-test.true in
    let low = c.requires.lets k 0 (omega (arith, near, some)) in
    let there = read-there c.args.phrases.now c.args.told.now (get_or c.args.lets.now k 0) c.index.result.now c.requires.told.there low c.index.ensures in
    let long = longer c.args.phrases.now c.lets.phrases c.lets.invariant.grows in
    omega (arith, there, long)

pub in_let-requires-clause-rest : goal.in_let-requires-clause-rest
in_let-requires-clause-rest c = c.lets.invariant.there

pub lets-preserved : goal.lets-preserved
lets-preserved c =
    let k = c.lets.k - 1 in
    let near = c.lets.auto.k in
    let some = c.lets-test.true in
    let next : c.lets.k ≡ suc k = omega (arith, some) in
    let less : k < length c.args.lets.now = omega (arith, near, some) in
    behind-more (vocabulary_by c.args.names.now) c.args.phrases.now c.lets.phrases c.in_let.new.phrases c.args.told.now c.args.lets.now c.args.root c.lets.k k
    c.lets.phrase c.lets.weight c.index.result.now c.in_ok-phrase.phrase c.index-in-lets.result.now c.saturating_add.result c.saturating_add-weight.result
    c.requires.told next less (c.requires.lets k 0 less) c.index.ensures c.index-in-lets.ensures c.lets.invariant c.in_ok-phrase.ensures
    c.saturating_add.ensures c.saturating_add-weight.ensures

pub returns : goal.returns
returns c =
    let done = c.lets-test.false in
    let none : c.lets.k ≡ 0 = omega (arith, done) in
    subst (λ k. IsBehind (vocabulary_by c.args.names.now) c.args.phrases.now c.lets.phrases c.args.told.now c.args.lets.now c.args.root k c.lets.phrase c.lets.weight) none c.lets.invariant
