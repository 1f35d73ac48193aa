-- What is asked of each formula, where a formula stands for several hypotheses.
use Rattle.std.proofs.Common.{ℕ, zero, suc, ◌≡◌, ◌↔◌, ◌∙◌, Bool, true, false, ◌||◌, List, refl, sym, ap}
use Rattle.mz_logic_theory.specs.Tree.{Tree, Trees, none, more, followed_by, copies}
use Rattle.mz_logic_theory.specs.Groups.{Repeats}
use Rattle.mz_logic_theory.specs.Legality.{EachTree}
use Rattle.mz_logic_theory.proofs.Offered.{each_repeated}
use Rattle.mz_prefix.specs.PublicPart.{mentions_local, any_mentions_local}
use Rattle.mz_prefix.specs.Prefix.{IsShort}
use Rattle.mz_prefix.specs.NamedDeclarations.{Vocabulary, AreShort, formula_of}

or_twice : (a b : Bool) → (a || (a || b)) ≡ (a || b)
or_twice true b = refl
or_twice false b = refl

any_copied : (ls : List Bool) (n : ℕ) (e : Tree) (rest : Trees)
    → any_mentions_local ls (followed_by (copies (suc n) e) rest) ≡ (mentions_local ls e || any_mentions_local ls rest)
any_copied ls zero e rest = refl
any_copied ls (suc n) e rest =
    ap (λ b. mentions_local ls e || b) (any_copied ls n e rest) ∙ or_twice (mentions_local ls e) (any_mentions_local ls rest)

pub any_repeated : (ls : List Bool) (es hs : Trees) → Repeats es hs → any_mentions_local ls es ≡ any_mentions_local ls hs
any_repeated ls none hs is = ap (any_mentions_local ls) (sym is)
any_repeated ls (more e es) hs (n, rest, repeats, is) =
    ap (λ b. mentions_local ls e || b) (any_repeated ls es rest repeats) ∙ sym (ap (any_mentions_local ls) is ∙ any_copied ls n e rest)

short_each : (v : Vocabulary) (es : Trees) → AreShort v es ↔ EachTree (λ e. IsShort (formula_of v e) e) es
short_each v none = (λ _. tt, λ _. tt)
short_each v (more e es) = (λ all. (all.0, (short_each v es).0 all.1), λ all. (all.0, (short_each v es).1 all.1))

pub short_repeated : (v : Vocabulary) (es hs : Trees) → Repeats es hs → AreShort v es ↔ AreShort v hs
short_repeated v es hs repeats = (
  λ all. (short_each v hs).1 ((each_repeated (λ e. IsShort (formula_of v e) e) es hs repeats).0 ((short_each v es).0 all)),
  λ all. (short_each v es).1 ((each_repeated (λ e. IsShort (formula_of v e) e) es hs repeats).1 ((short_each v hs).0 all)),
)
