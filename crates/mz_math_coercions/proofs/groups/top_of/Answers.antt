use Rattle.std.proofs.Common.{◌≡◌, ◌∙◌, ℕ, List, ap, arith, sym, refl}
use Rattle.mz_math_coercions.specs.Groups.{up_of}
use Rattle.mz_math_coercions.proofs.Naming.{further-down, further-less, further-name, further-named, further-within}
use Rattle.mz_math_coercions.proofs.groups.top_of.Goals as goal

pub up-init : goal.up-init
up-init c = record {
  down = c.requires;
  is = c.up_of-up.ensures ∙ ap (λ (xs : List ℕ). up_of xs c.args.sort) c.deref.ensures.value;
  named = λ name named. (named, refl);
}

pub index_mut-requires : goal.index_mut-requires
index_mut-requires c =
    let next : c.up_of-next.result ≡ up_of c.up.ups.items c.up.up = c.up_of-next.ensures ∙ ap (λ (xs : List ℕ). up_of xs c.up.up) c.deref-in-up.ensures.value in
    let within = further-within c.up.ups.items c.up.at c.up.up c.up_of-next.result c.up.invariant.down c.up.invariant.is c.up-test.true next in
    omega (arith, within, c.up.ups.ok.0)

pub up-smaller : goal.up-smaller
up-smaller c =
    let next : c.up_of-next.result ≡ up_of c.up.ups.items c.up.up = c.up_of-next.ensures ∙ ap (λ (xs : List ℕ). up_of xs c.up.up) c.deref-in-up.ensures.value in
    further-less c.up.ups.items c.up.at c.up.up c.up_of-next.result c.up.invariant.down c.up.invariant.is c.up-test.true next

pub up-preserved : goal.up-preserved
up-preserved c =
    let next : c.up_of-next.result ≡ up_of c.up.ups.items c.up.up = c.up_of-next.ensures ∙ ap (λ (xs : List ℕ). up_of xs c.up.up) c.deref-in-up.ensures.value in
    record {
      down = further-down c.up.ups.items c.up.at c.up.up c.up_of-next.result c.up.invariant.down c.up.invariant.is c.up-test.true next;
      is = c.up_of-up-in-up.ensures ∙ ap (λ (xs : List ℕ). up_of xs c.up_of-next.result) c.deref-in-up-2.ensures.value;
      named = λ name named. (let (still, same) = c.up.invariant.named name named in (
        further-named c.up.ups.items c.up.at c.up.up c.up_of-next.result c.up.invariant.down c.up.invariant.is c.up-test.true next name still,
        same ∙ further-name c.up.ups.items c.up.at c.up.up c.up_of-next.result c.up.invariant.down c.up.invariant.is c.up-test.true next name still,
      ));
    }

pub returns-clause-named : goal.returns-clause-named
returns-clause-named c = λ name named.
    let (still, same) = c.up.invariant.named name named in
    let top = still.1 c.up.at (sym c.up.invariant.is ∙ c.up-test.false) in
    (still, same ∙ top, top)
