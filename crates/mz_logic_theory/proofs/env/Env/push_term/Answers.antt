use Rattle.std.proofs.Common.{sym, append-nil, ◌∙◌, ap, ◌++◌, ◌∷◌, []}
use Rattle.mz_logic_theory.specs.declared.decl.Decl.TheVariants.{Term}
use Rattle.mz_logic_theory.proofs.Push.{kept_by_push}
use Rattle.mz_logic_theory.proofs.env.Env.push_term.Goals as goal

pub invariant_of-self-in-Ok : goal.invariant_of-self-in-Ok
invariant_of-self-in-Ok c =
    kept_by_push c.self.inside.decls.items _ (Term c.args.term) c.args.self.now c.self.inside.sort_mods.items _ c.self.inside.term_places.items _ c.self.inside.thm_places.items _
    (sym c.self.view_is) c.in-Ok.ensures.items c.requires.legal c.self.invariant
    (sym (append-nil _)) (c.in_ok-push.ensures.items ∙ ap (λ n. c.self.inside.term_places.items ++ n ∷ []) (c.len.ensures ∙ c.self.inside.decls.ok.0)) (sym (append-nil _))
