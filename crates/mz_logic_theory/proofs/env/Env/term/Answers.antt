use Rattle.std.proofs.Common.{◌∙◌, ap, option_map, rules}
use Rattle.mz_logic_theory.specs.DeclView.{term_view, signature}
use Rattle.mz_logic_theory.proofs.Lookup.{term_at, no_term_at}
use Rattle.mz_logic_theory.proofs.env.Env.term.Goals as goal

pub returns-in_err-place-clause-term : goal.returns-in_err-place-clause-term
returns-in_err-place-clause-term c =
    ap (option_map (λ d. term_view d.now)) c.from_residual.ensures
    ∙ (no_term_at c.self.inside.decls.items c.deref.result.now c.args.self.now c.args.number c.self.view_is (c.deref.ensures.value ∙ c.self.invariant.2) c.in_err-place.ensures.lookup.3).0

pub returns-in_err-place-clause-signature : goal.returns-in_err-place-clause-signature
returns-in_err-place-clause-signature c =
    ap (option_map (λ d. signature d.now)) c.from_residual.ensures
    ∙ (no_term_at c.self.inside.decls.items c.deref.result.now c.args.self.now c.args.number c.self.view_is (c.deref.ensures.value ∙ c.self.invariant.2) c.in_err-place.ensures.lookup.3).1

pub index-requires : goal.index-requires
index-requires c = let h =
    (term_at c.self.inside.decls.items c.deref.result.now c.args.self.now c.args.number c.in_ok-place.field-0.now c.self.view_is (c.deref.ensures.value ∙ c.self.invariant.2)
    c.in_ok-place.ensures.lookup.3.0 c.in_ok-place.ensures.lookup.1).within in search (rules, h)

pub returns-in-Term-clause-term : goal.returns-in-Term-clause-term
returns-in-Term-clause-term c =
    ((term_at c.self.inside.decls.items c.deref.result.now c.args.self.now c.args.number c.in_ok-place.field-0.now c.self.view_is (c.deref.ensures.value ∙ c.self.invariant.2)
    c.in_ok-place.ensures.lookup.3.0 c.in_ok-place.ensures.lookup.1).is c.index.result.now c.in-Term.term c.index.ensures c.in-Term.is).0

pub returns-in-Term-clause-signature : goal.returns-in-Term-clause-signature
returns-in-Term-clause-signature c =
    ((term_at c.self.inside.decls.items c.deref.result.now c.args.self.now c.args.number c.in_ok-place.field-0.now c.self.view_is (c.deref.ensures.value ∙ c.self.invariant.2)
    c.in_ok-place.ensures.lookup.3.0 c.in_ok-place.ensures.lookup.1).is c.index.result.now c.in-Term.term c.index.ensures c.in-Term.is).1

pub returns-in_default : goal.returns-in_default
returns-in_default c =
    absurd ((term_at c.self.inside.decls.items c.deref.result.now c.args.self.now c.args.number c.in_ok-place.field-0.now c.self.view_is (c.deref.ensures.value ∙ c.self.invariant.2)
    c.in_ok-place.ensures.lookup.3.0 c.in_ok-place.ensures.lookup.1).one c.index.result.now c.index.ensures c.in_default.not-Term)
