-- What holds of each formula holds of each hypothesis, and back.
use Rattle.std.proofs.Common.{ℕ, zero, suc, ◌↔◌, List, subst, sym}
use Rattle.mz_logic_theory.specs.Tree.{Tree, Trees, none, more, followed_by, copies}
use Rattle.mz_logic_theory.specs.Signature.{Signature}
use Rattle.mz_logic_theory.specs.Legality.{EachTree, InRange, AllInRange}
use Rattle.mz_logic_theory.specs.Groups.{Repeats}

each_copied : (P : Tree → Type 0) (n : ℕ) (e : Tree) (rest : Trees) → P e → EachTree P rest → EachTree P (followed_by (copies n e) rest)
each_copied P zero e rest here left = left
each_copied P (suc n) e rest here left = (here, each_copied P n e rest here left)

copied_each : (P : Tree → Type 0) (n : ℕ) (e : Tree) (rest : Trees) → EachTree P (followed_by (copies (suc n) e) rest) → P e × EachTree P rest
copied_each P zero e rest all = all
copied_each P (suc n) e rest all = copied_each P n e rest all.1

pub each_repeated : (P : Tree → Type 0) (es hs : Trees) → Repeats es hs → EachTree P es ↔ EachTree P hs
each_repeated P none hs is = (λ _. subst (EachTree P) (sym is) tt, λ _. tt)
each_repeated P (more e es) hs (n, rest, repeats, is) = (
  λ all. subst (EachTree P) (sym is) (each_copied P (suc n) e rest all.0 ((each_repeated P es rest repeats).0 all.1)),
  λ all. let (here, left) = copied_each P n e rest (subst (EachTree P) is all) in (here, (each_repeated P es rest repeats).1 left),
)

in_range_each : (sigs : List Signature) (n : ℕ) (es : Trees) → AllInRange sigs n es ↔ EachTree (InRange sigs n) es
in_range_each sigs n none = (λ _. tt, λ _. tt)
in_range_each sigs n (more e es) = (λ all. (all.0, (in_range_each sigs n es).0 all.1), λ all. (all.0, (in_range_each sigs n es).1 all.1))

pub in_range_repeated : (sigs : List Signature) (n : ℕ) (es hs : Trees) → Repeats es hs → AllInRange sigs n es ↔ AllInRange sigs n hs
in_range_repeated sigs n es hs repeats = (
  λ all. (in_range_each sigs n hs).1 ((each_repeated (InRange sigs n) es hs repeats).0 ((in_range_each sigs n es).0 all)),
  λ all. (in_range_each sigs n es).1 ((each_repeated (InRange sigs n) es hs repeats).1 ((in_range_each sigs n hs).0 all)),
)
