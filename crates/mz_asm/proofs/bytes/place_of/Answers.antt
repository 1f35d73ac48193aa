use Rattle.std.proofs.Common.{◌==◌, sym, arith, eq-eqb}
use Rattle.std.proofs.lemmas.List.Sums.{position_or_len_is}
use Rattle.mz_asm.proofs.bytes.place_of.Goals as goal

pub returns-then-bytes-at-clause-place : goal.returns-then-bytes-at-clause-place
returns-then-bytes-at-clause-place c =
    sym (position_or_len_is (λ b. b == c.args.mark) c.args.bytes.now c.places.at 0 c.places.invariant.within c.places.invariant.none (λ _. eq-eqb _ _ c.if-bytes-at.true))

pub returns-clause-place : goal.returns-clause-place
returns-clause-place c =
    sym (position_or_len_is (λ b. b == c.args.mark) c.args.bytes.now c.places.at 0 c.places.invariant.within c.places.invariant.none (λ below. absurd (let past = c.places-test.false in omega arith)))
