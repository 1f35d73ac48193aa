use Rattle.std.proofs.Common.{◌∙◌, ◌++◌, sym, ap, subst, arith}
use Rattle.mz_decompile_text.specs.Writing.{AreOpen, left, weight}
use Rattle.mz_decompile_text.proofs.Lists.{left-more, weight-more, open-last, open-rest, stays-on}
use Rattle.mz_decompile_text.proofs.writing.write_phrase.Goals as goal

pub go_on-requires-clause-list : goal.go_on-requires-clause-list
go_on-requires-clause-list c = open-last c.args.phrases.now c.pop.new.self.items c.in-Some.list (subst (AreOpen c.args.phrases.now) c.in-Some.ensures.items c.loop-list.invariant.lists)

pub go_on-requires-clause-lists : goal.go_on-requires-clause-lists
go_on-requires-clause-lists c = open-rest c.args.phrases.now c.pop.new.self.items c.in-Some.list (subst (AreOpen c.args.phrases.now) c.in-Some.ensures.items c.loop-list.invariant.lists)

pub loop-list-smaller : goal.loop-list-smaller
loop-list-smaller c =
    let before = ap (weight c.args.phrases.now) c.in-Some.ensures.items ∙ weight-more c.args.phrases.now c.pop.new.self.items c.in-Some.list in
    let less = c.in_ok-go_on.ensures.less in
    omega (arith, before, less)

pub loop-list-preserved : goal.loop-list-preserved
loop-list-preserved c =
    let before = ap (left c.args.phrases.now) c.in-Some.ensures.items ∙ left-more c.args.phrases.now c.pop.new.self.items c.in-Some.list in record {
      lists = c.in_ok-go_on.ensures.lists;
      does = c.in_ok-go_on.ensures.does ∙ ap (λ t. c.loop-list.out.items ++ t) (sym before) ∙ c.loop-list.invariant.does;
      stays = stays-on c.args.out.now.items c.loop-list.out.items c.go_on.new.out.items c.loop-list.invariant.stays c.go_on.ensures.stays;
    }
