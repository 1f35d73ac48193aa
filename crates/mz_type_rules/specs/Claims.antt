-- What the code's claims stand for, and its sides of conversions: what they are is not written out.
use Rattle.std.specs.Prelude.{◌≡◌, ⊤, ℕ, zero, suc, ◌+◌, ◌*◌, List, [], ◌∷◌, map}
use Rattle.mz_logic_theory.specs.Tree.{Tree, Trees, var, app, none, more, instance, instances, followed_by, variables, trees_size, under}
use Rattle.mz_logic_theory.specs.View.{tree, trees}
use Rattle.mz_mmu_theory.specs.ConvCode.{convs_steps}
use Rattle.mz_mmu_theory.specs.Sides.{sides}
use Rattle.mz_type_rules.specs.declared.claim.Put.{Put}
use Rattle.mz_type_rules.specs.declared.claim.Put.TheVariants.{Nothing, Operands}
use Rattle.mz_type_rules.specs.declared.claim.BorrowedExprs.{BorrowedExprs}
use Rattle.mz_type_rules.specs.declared.claim.Claim.{Claim}
use Rattle.mz_type_rules.specs.declared.claim.Claim.TheVariants.{Var, App}
use Rattle.mz_type_rules.specs.declared.claim.Lists.{Lists}
use Rattle.mz_type_rules.specs.declared.claim.Side.{Side}
use Rattle.mz_type_rules.specs.declared.claim.Side.TheVariants.{Own, Term, Under}

-- the expression with this put in
abbrev pub put_in : Put → Tree → Tree
put_in Nothing e = e
put_in (Operands es ys) e = instance (followed_by es.now (variables ys.now)) e

abbrev pub all_put_in : Put → Trees → Trees
all_put_in Nothing es = es
all_put_in (Operands fs ys) es = instances (followed_by fs.now (variables ys.now)) es

-- the terms of a path over each expression
abbrev pub borrowed_trees : BorrowedExprs → Trees
borrowed_trees l = trees (map (under l.path.now) l.exprs.now)

abbrev pub claim_tree : Claim → Tree
claim_tree (Var x) = var x
claim_tree (App t es put) = app t (all_put_in put (borrowed_trees es))

abbrev pub claim_trees : List Claim → Trees
claim_trees [] = none
claim_trees (c ∷ cs) = more (claim_tree c) (claim_trees cs)

-- lists that are left to compare
abbrev pub AreSame : Lists → Type 0
AreSame l = all_put_in l.p (borrowed_trees l.es) ≡ all_put_in l.q (borrowed_trees l.fs)

abbrev pub AllSame : List Lists → Type 0
AllSame [] = ⊤
AllSame (l ∷ ls) = AreSame l × AllSame ls

abbrev pub lists_size : Lists → ℕ
lists_size l = trees_size (all_put_in l.p (borrowed_trees l.es))

-- the turns that comparing them takes at most
abbrev pub turns : List Lists → ℕ
turns [] = zero
turns (l ∷ ls) = suc (2 * lists_size l) + turns ls

abbrev pub side_tree : Side → Tree
side_tree (Own e) = tree e.now
side_tree (Term t es) = app t es.now
side_tree (Under t cs right) = app t (sides right cs.now)

-- how many steps the conversions in it have, and one
abbrev pub side_steps : Side → ℕ
side_steps (Own e) = zero
side_steps (Term t es) = zero
side_steps (Under t cs right) = suc (convs_steps cs.now)
