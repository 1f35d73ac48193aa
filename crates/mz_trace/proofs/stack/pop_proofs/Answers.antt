use Rattle.std.proofs.Common.{◌≡◌, ℕ, ◌+◌, ◌++◌, ◌∷◌, [], List, length, refl, sym, ap, ◌∙◌, arith, length-append}
use Rattle.std.specs.Prelude.{reverse}
use Rattle.std.proofs.lemmas.List.{reverse-reverse}
use Rattle.mz_trace.specs.Entries.{proofs_onto}
use Rattle.mz_trace.proofs.Popping.{has-proof, proofs-left, proofs-more, seconds-more}
use Rattle.mz_trace.proofs.stack.pop_proofs.Goals as goal

pub proofs-init : goal.proofs-init
proofs-init c =
    let (ps, ys, is, many) = c.requires in
    (([], sym c.new-taken.ensures.items, refl, refl), (ps, ys, is, omega (arith, many)))

pub pop_proof-proof-requires : goal.pop_proof-proof-requires
pop_proof-proof-requires c =
    let (ps, ys, is, many) = c.proofs.invariant.1 in
    has-proof (reverse c.proofs.stack.items) c.proofs.i c.args.count c.proofs-test.true ps ys is many

pub proofs-preserved : goal.proofs-preserved
proofs-preserved c =
    let (qs, seconds, some, from) = c.proofs.invariant.0 in
    let (ps, ys, is, many) = c.proofs.invariant.1 in
    let e = c.pop_proof-proof.result.0 in
    let p = c.pop_proof-proof.result.1 in
    let zs = reverse c.pop_proof-proof.new.stack.items in
    let taken : c.push.new.self.items ≡ c.proofs.taken.items ++ p ∷ [] = c.in_ok-push.ensures.items in
    let one : length (qs ++ (e, p) ∷ []) ≡ c.proofs.i + 1 = omega (arith, length-append qs ((e, p) ∷ []), some) in (
      (
        qs ++ (e, p) ∷ [],
        seconds-more qs e p c.proofs.taken.items seconds ∙ sym taken,
        one,
        from ∙ ap (proofs_onto qs) c.pop_proof-proof.ensures ∙ sym (proofs-more qs e p zs),
      ),
      proofs-left (reverse c.proofs.stack.items) c.proofs.i c.args.count c.proofs-test.true e p zs ps ys c.pop_proof-proof.ensures is many,
    )

pub returns : goal.returns
returns c =
    let (qs, seconds, some, from) = c.proofs.invariant.0 in
    let (ps, ys, is, many) = c.proofs.invariant.1 in
    let all : length qs ≡ c.args.count = omega (arith, some, many, c.proofs-test.false) in
    (qs, from, seconds ∙ sym (ap (λ (ms : List ℕ). reverse ms) c.reverse.ensures.items ∙ reverse-reverse c.proofs.taken.items), all)
