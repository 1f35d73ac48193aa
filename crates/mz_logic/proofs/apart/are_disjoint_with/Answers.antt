use Rattle.std.proofs.Common.{◌∙◌, refl, sym, true≢false}
use Rattle.mz_logic_theory.specs.Declaration.{signatures}
use Rattle.mz_logic_free.proofs.Offered.{narrowed-none}
use Rattle.mz_logic.proofs.Owning.{apart-by, apart-single}
use Rattle.mz_logic.proofs.apart.are_disjoint_with.Goals as goal

pub returns-then-single : goal.returns-then-single
returns-then-single c =
    apart-by c.args.params.now c.args.es.now c.args.ctx.now _ (c.in_ok-single.ensures.has c.if-single.true) (c.in_ok-single.ensures.single.0 c.if-single.true) c.all_name_own.result c.all_name_own.ensures

pub returns-then-all_stand_alone : goal.returns-then-all_stand_alone
returns-then-all_stand_alone c = (
  λ no. absurd (true≢false (sym no)),
  λ apart. absurd (true≢false (sym (c.in_ok-single.ensures.single.1
      (apart-single (signatures c.args.env.now) c.args.ctx.now c.args.params.now c.args.es.now c.requires.fits (c.if-all_stand_alone.ensures.0 refl) apart)) ∙ c.if-single.false)),
)

pub all_name_own-requires-clause-narrowed : goal.all_name_own-requires-clause-narrowed
all_name_own-requires-clause-narrowed c = narrowed-none c.args.ctx.now c.gather_owned.new.owned c.args.narrowed.now c.requires.narrowed
