use Rattle.std.proofs.Common.{◌∙◌, ℕ, arith, inl, refl, sym}
use Rattle.std.proofs.lemmas.Option.{none-some}
use Rattle.mz_base.proofs.Offered.{slice_get-some}
use Rattle.mz_math_coercions.specs.Firsts.{IsOfStarts, first_of}
use Rattle.mz_math_coercions.specs.Reached.{Has}
use Rattle.mz_math_coercions.proofs.Leading.{before-all, start-changed, start-seen}
use Rattle.mz_math_coercions.proofs.next_hop.lead_all.Goals as goal

pub starts-init : goal.starts-init
starts-init c = record { others = λ s t. inl refl; so_far = λ k s p below is. absurd (omega (arith, below)) }

pub unreachable-requires : goal.unreachable-requires
unreachable-requires c =
    let many = c.len-i-end.ensures.many in
    let (entry, at) = slice_get-some c.args.starts.now c.starts.i (omega (arith, many, c.starts-test.true)) in
    none-some entry (c.in_default.ensures ∙ at)

pub starts-preserved : goal.starts-preserved
starts-preserved c =
    let at = sym c.in-Some.ensures in
    let (change, put) = c.in_ok-lead_from.ensures c.if-not-branch.false in
    record {
      others = start-changed c.starts.firsts c.lead_from.new.firsts c.args.starts.now c.args.ends.now c.starts.i c.in-Some.sort c.in-Some.place at change c.args.firsts.now c.starts.invariant.others;
      so_far = start-seen c.starts.firsts c.lead_from.new.firsts c.args.starts.now c.args.ends.now c.starts.i c.in-Some.sort c.in-Some.place at change put c.starts.invariant.so_far;
    }

pub returns : goal.returns
returns c = λ t.
    let many = c.len-i-end.ensures.many in
    let P : ℕ → ℕ → Type 0 = λ s p. (t : ℕ) → Has c.args.ends.now t → IsOfStarts c.args.starts.now c.args.ends.now s t (first_of c.starts.firsts s t) in
    (c.starts.invariant.others, λ s t has. before-all P c.args.starts.now c.starts.i (omega (arith, many, c.starts-test.false)) c.starts.invariant.so_far s has.0 has.1 t)
