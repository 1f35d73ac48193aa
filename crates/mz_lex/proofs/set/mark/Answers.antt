use Rattle.std.proofs.Common.{◌≡◌, ◌↔◌, ◌⊎◌, ◌<◌, ◌+◌, ◌∙◌, ◌∷◌, ℕ, List, true, false, length, get_or, drop, drop-cons, add-one, ap, subst, sym, Contains, arith}
use Rattle.std.specs.Prelude.{IsTrue}
use Rattle.std.proofs.lemmas.List.{length-set}
use Rattle.mz_lex.proofs.Marking.{mark-one}
use Rattle.mz_lex.proofs.set.mark.Goals as goal

pub loop-byte-preserved : goal.loop-byte-preserved
loop-byte-preserved c =
    let t = c.loop-byte.there in
    let bs = c.args.bytes.now in
    let i = c.loop-byte.byte-index in
    let fits = c.type_inv.bytes i in
    let within : get_or bs i 0 < length t = omega (arith, fits, c.loop-byte.invariant.0) in
    let front : drop i bs ≡ get_or bs i 0 ∷ drop (i + 1) bs = drop-cons bs i 0 c.loop-byte-test.true ∙ ap (λ k. get_or bs i 0 ∷ drop k bs) (sym (add-one i)) in (
      length-set t (get_or bs i 0) true ∙ c.loop-byte.invariant.0,
      λ x.
          let one = mark-one t (get_or bs i 0) (drop (i + 1) bs) within x in
          let before = subst (λ (ys : List ℕ). (IsTrue (get_or t x false) ⊎ Contains ys x) ↔ (IsTrue (get_or c.args.there.now x false) ⊎ Contains bs x)) front (c.loop-byte.invariant.1 x) in
          (λ h. before.0 (one.0 h), λ h. one.1 (before.1 h)),
    )
