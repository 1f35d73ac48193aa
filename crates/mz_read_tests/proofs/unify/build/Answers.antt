use Rattle.std.proofs.Common.{◌≡◌, length, arith}
use Rattle.mz_logic_theory.specs.Words.{signatures_of}
use Rattle.mz_read_tests.proofs.unify.build.Goals as goal

pub loop-built-init : goal.loop-built-init
loop-built-init g c =
    let many : length c.begin.new.self.entries ≡ 4 = c.in-Ok.ensures.many in
    record {
      over = c.in-Ok.ensures.over (signatures_of (g.T.Terms.all_terms c.args.terms.now));
      ids = rw c.in-Ok-from_slice.ensures.items (omega arith, (omega arith, (omega arith, (omega arith, tt))));
      mode = c.in-Ok.ensures.mode;
    }
