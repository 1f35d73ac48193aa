use Rattle.std.proofs.Common.{◌∙◌, refl, sym, inl, inr, true≢false}
use Rattle.mz_logic.proofs.Owning.{owns-more, owns-old, stale, fresh, have-more}
use Rattle.mz_logic.proofs.apart.add_owned.Goals as goal

pub returns-in-None-clause-has : goal.returns-in-None-clause-has
returns-in-None-clause-has c = λ x. (inl, λ h. elim h [ inl had ↦ had | inr (bound, is) ↦ absurd (c.in-None.ensures x bound is) ])

pub returns-in-None-clause-fresh : goal.returns-in-None-clause-fresh
returns-in-None-clause-fresh c = (λ _ x bound is _. c.in-None.ensures x bound is, λ _. refl)

pub returns-then-not-fresh-clause-has : goal.returns-then-not-fresh-clause-has
returns-then-not-fresh-clause-has c =
    owns-old c.args.params.now c.args.es.now c.args.j c.in-Some.x c.in-Some.ensures.0 c.in-Some.ensures.1 c.args.owned.now (c.has-fresh.ensures.0 c.if-not-fresh.true)

pub returns-then-not-fresh-clause-fresh : goal.returns-then-not-fresh-clause-fresh
returns-then-not-fresh-clause-fresh c =
    stale c.args.params.now c.args.es.now c.args.j c.in-Some.x c.in-Some.ensures.0 c.in-Some.ensures.1 c.args.owned.now (c.has-fresh.ensures.0 c.if-not-fresh.true)

pub add_last-requires : goal.add_last-requires
add_last-requires c = λ had. true≢false (sym (c.has-fresh.ensures.1 had) ∙ c.if-not-fresh.false)

pub returns-in_ok-add_last-in-Some-clause-has : goal.returns-in_ok-add_last-in-Some-clause-has
returns-in_ok-add_last-in-Some-clause-has c =
    owns-more c.args.params.now c.args.es.now c.args.j c.in-Some.x c.in-Some.ensures.0 c.in-Some.ensures.1 c.args.owned.now c.add_last.new.owned c.in_ok-add_last-in-Some.ensures.has

pub returns-in_ok-add_last-in-Some-clause-fresh : goal.returns-in_ok-add_last-in-Some-clause-fresh
returns-in_ok-add_last-in-Some-clause-fresh c =
    fresh c.args.params.now c.args.es.now c.args.j c.in-Some.x c.in-Some.ensures.0 c.in-Some.ensures.1 c.args.owned.now
    (λ had. true≢false (sym (c.has-fresh.ensures.1 had) ∙ c.if-not-fresh.false))

pub returns-in_ok-add_last-in-Some-clause-owners : goal.returns-in_ok-add_last-in-Some-clause-owners
returns-in_ok-add_last-in-Some-clause-owners c =
    have-more c.args.params.now c.args.es.now c.args.j c.in-Some.x c.in-Some.ensures.0 c.in-Some.ensures.1 c.args.owned.now c.args.owners.now.items c.add_last.new.owned c.add_last.new.owners.items c.requires
    c.in_ok-add_last-in-Some.ensures.owned c.in_ok-add_last-in-Some.ensures.owners
