use Rattle.std.proofs.Common.{◌≡◌, ℕ, Some, arith, inl, refl}
use Rattle.mz_math_coercions.specs.Firsts.{first_of}
use Rattle.mz_math_coercions.proofs.Leading.{before-all, end-changed, end-seen}
use Rattle.mz_math_coercions.proofs.next_hop.lead_from.Goals as goal

pub ends-init : goal.ends-init
ends-init c = record { others = λ s t. inl refl; so_far = λ k t p below is. absurd (omega (arith, below)) }

pub unreachable-requires : goal.unreachable-requires
unreachable-requires c = let past = c.in_default.ensures in let many = c.len-i-end.ensures.many in omega (arith, past, many, c.ends-test.true)

pub ends-preserved : goal.ends-preserved
ends-preserved c =
    let (p, at) = c.in-Some.ensures in
    let put = c.in_ok-insert.ensures c.if-not-branch.false in
    record {
      others = end-changed c.ends.firsts c.insert.new.self c.args.from c.args.place c.in-Some.end p c.args.ends.now c.ends.i at put c.args.firsts.now c.ends.invariant.others;
      so_far = end-seen c.ends.firsts c.insert.new.self c.args.from c.args.place c.in-Some.end p c.args.ends.now c.ends.i at put c.ends.invariant.so_far;
    }

pub returns : goal.returns
returns c = λ t.
    let many = c.len-i-end.ensures.many in
    let P : ℕ → ℕ → Type 0 = λ t p. first_of c.ends.firsts c.args.from t ≡ Some c.args.place in
    (c.ends.invariant.others, λ t has. before-all P c.args.ends.now c.ends.i (omega (arith, many, c.ends-test.false)) c.ends.invariant.so_far t has.0 has.1)
