use Rattle.std.proofs.Common.{◌≡◌, ◌∙◌, ◌++◌, ◌∷◌, [], List, ap, sym, refl, subst, Contains}
use Rattle.mz_math_operators.specs.Names.{AreOnce, all_named, name_with}
use Rattle.mz_math_theory.specs.Notation.{TermName}
use Rattle.mz_math_operators.proofs.Naming.{name-more, once-more}
use Rattle.mz_math_operators.proofs.names.TermNames.push.Goals as goal

more : (c : goal.In_ok-insert) → all_named (λ k. k.items) c.insert.new.self.entries ≡ all_named (λ k. k.items) c.self.inside.terms.entries ++ name_with c.args.name.now c.args.term ∷ []
more c =
    let es = c.self.inside.terms.entries in
    let same = c.in_ok-name.ensures.items_if_clones_equal (λ x y e. e) in
    ap (λ xs. all_named (λ k. k.items) xs) c.in_ok-insert.ensures.entries
    ∙ name-more (λ k. k.items) _ (λ j k. refl) c.in_ok-name.name c.args.term es
    (λ n has is. c.requires n (subst (λ (ns : List TermName). Contains ns n) c.self.view_is has) (is ∙ same))
    ∙ ap (λ w. all_named (λ k. k.items) es ++ name_with w c.args.term ∷ []) same

pub invariant_of-self-2 : goal.invariant_of-self-2
invariant_of-self-2 c =
    subst AreOnce (sym (more c))
    (once-more (all_named (λ k. k.items) c.self.inside.terms.entries) (name_with c.args.name.now c.args.term) c.self.invariant
    (λ m has is. c.requires m (subst (λ (ns : List TermName). Contains ns m) c.self.view_is has) is))

pub returns-clause-ok : goal.returns-clause-ok
returns-clause-ok c = more c ∙ ap (λ ns. ns ++ name_with c.args.name.now c.args.term ∷ []) c.self.view_is
