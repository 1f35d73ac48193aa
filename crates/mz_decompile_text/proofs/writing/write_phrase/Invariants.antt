use Rattle.std.proofs.Common.{◌≡◌, ◌++◌}
use Rattle.mz_decompile_text.specs.Phrases.{written}
use Rattle.mz_decompile_text.specs.ByNumber.{phrase_at}
use Rattle.mz_decompile_text.specs.Staying.{StaysIn}
use Rattle.mz_decompile_text.specs.Writing.{AreOpen, left, weight}
use Rattle.mz_decompile_text.proofs.writing.write_phrase.Given as goal

-- what is written so far, with what is left, is the whole
abbrev pub invariant-loop-list : goal.invariant-loop-list
invariant-loop-list l = record {
  lists : AreOpen l.phrases l.lists.items;
  does : l.out.items ++ left l.phrases l.lists.items ≡ l.fn.out.items ++ written (phrase_at l.phrases l.n);
  stays : StaysIn l.fn.out.items l.out.items;
}

abbrev pub decreases-loop-list : goal.decreases-loop-list
decreases-loop-list l = weight l.phrases l.lists.items
