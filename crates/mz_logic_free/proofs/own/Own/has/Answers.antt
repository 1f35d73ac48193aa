use Rattle.std.proofs.Common.{◌∙◌, ◌↔◌, IsTrue, Contains, false, sym, subst}
use Rattle.mz_logic_free.proofs.Owners.{has-none, has-some}
use Rattle.mz_logic_free.proofs.own.Own.has.Goals as goal

pub returns-in-None : goal.returns-in-None
returns-in-None c =
    let s = c.self.inside in
    subst (λ xs. IsTrue false ↔ Contains xs c.args.x) c.self.view_is (has-none s.owned.now s.owners.now s.place s.others.now c.args.x (sym c.owner_of.ensures ∙ c.in-None.is))

pub returns-in-Some : goal.returns-in-Some
returns-in-Some c =
    let s = c.self.inside in
    subst (λ xs. IsTrue c.is_place.result ↔ Contains xs c.args.x) c.self.view_is
    (has-some s.owned.now s.owners.now s.place s.others.now c.args.x c.in-Some.owner (sym c.owner_of.ensures ∙ c.in-Some.is) c.is_place.result c.is_place.ensures)
