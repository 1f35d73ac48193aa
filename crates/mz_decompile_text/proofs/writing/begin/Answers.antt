use Rattle.std.proofs.Common.{true, refl, arith}
use Rattle.mz_decompile_text.specs.ByNumber.{phrase_at}
use Rattle.mz_decompile_text.proofs.Lists.{IsBegun, begun-open, begun-does, begun-less}
use Rattle.mz_decompile_text.proofs.writing.begin.Goals as goal

begun : (c : goal.In_ok-push-in-Parts-2)
    → IsBegun c.args.phrases.now (phrase_at c.args.phrases.now c.args.n) c.args.lists.now.items
    c.push-in-Parts.new.self.items (record { parts = c.in-Parts.parts; first = true })
begun c = record {
  last = c.in_ok-push-in-Parts-2.ensures.items;
  first = refl;
  phrase = c.in-Parts.ensures.1;
  below = λ k d less. let low = c.in-Parts.ensures.0 k d less in omega (arith, low, c.requires.number);
}

pub returns-in_ok-push-in-Parts-2-clause-lists : goal.returns-in_ok-push-in-Parts-2-clause-lists
returns-in_ok-push-in-Parts-2-clause-lists c = begun-open _ _ _ _ _ (begun c) c.requires.lists

pub returns-in_ok-push-in-Parts-2-clause-does : goal.returns-in_ok-push-in-Parts-2-clause-does
returns-in_ok-push-in-Parts-2-clause-does c = begun-does _ _ _ _ _ c.args.out.now.items c.push.new.self.items (begun c) c.in_ok-push-in-Parts.ensures.items

pub returns-in_ok-push-in-Parts-2-clause-less : goal.returns-in_ok-push-in-Parts-2-clause-less
returns-in_ok-push-in-Parts-2-clause-less c = begun-less _ _ _ _ _ (begun c)
