use Rattle.std.proofs.Common.{ℕ, ◌≡◌, ◌∙◌, ◌∷◌, ◌++◌, [], List, ap}
use Rattle.std.proofs.lemmas.List.{append-nil}
use Rattle.mz_logic_theory.specs.Words.{signatures_of}
use Rattle.mz_store.specs.declared.item.Id.{Id}
use Rattle.mz_store.specs.declared.item.Item.{Item as Kept}
use Rattle.mz_machine_theory.specs.UnifyMachine.{at_start}
use Rattle.mz_unify.specs.declared.unified.UnifyMode.{UnifyMode}
use Rattle.mz_unify.proofs.Offered.{whole-run, whole-count}
use Rattle.mz_pmachine_theory.specs.NodeIdentity.{portable}
use Rattle.mz_pmachine_unify.specs.Numbering.{Numbering}
use Rattle.mz_pmachine_unify.specs.Stored.{exprs_at, items_at, matching_at}
use Rattle.mz_pmachine_unify.specs.Rows.{state_at}
use Rattle.mz_pmachine_unify.proofs.StoredIds.{are-in-both}
use Rattle.mz_pmachine_unify.proofs.running.unify_in.Goals as goal

-- with nothing saved, and the target alone, the run begins
begins : (s : Numbering) (mode : UnifyMode) (stream : List ℕ) (operands saved targets : List Id) (target : Id) (hyps : List Kept) → saved ≡ [] → targets ≡ target ∷ []
    → state_at s (operands ++ saved) (exprs_at s operands) targets hyps ≡ at_start (matching_at s mode stream operands target hyps)
begins s mode stream operands saved targets target hyps none one =
    ap (λ is. state_at s (operands ++ is) (exprs_at s operands) targets hyps) none
    ∙ ap (λ is. state_at s is (exprs_at s operands) targets hyps) (append-nil operands)
    ∙ ap (λ is. state_at s operands (exprs_at s operands) is hyps) one

pub returns-clause-run : goal.returns-clause-run
returns-clause-run g c =
    let s = c.args.nodes.now in
    let ops = c.args.operands.now in
    whole-run portable (signatures_of (g.T.Terms.all_terms c.args.terms.now)) s.context (matching_at s c.args.mode c.args.stream.now ops c.args.target c.args.hyps.now.items)
    (state_at s (ops ++ c.clear.new.self.items) (exprs_at s ops) c.push.new.self.items c.args.hyps.now.items)
    (begins s c.args.mode c.args.stream.now ops c.clear.new.self.items c.push.new.self.items c.args.target c.args.hyps.now.items c.clear.ensures.items (c.in-Ok.ensures.items ∙ ap (λ is. is ++ c.args.target ∷ []) c.clear-2.ensures.items))
    c.run.result (exprs_at s (ops ++ c.run.new.saved.items)) (items_at s c.run.new.hyps.items) (c.run.ensures.run _ c.requires.over)

pub returns-clause-steps : goal.returns-clause-steps
returns-clause-steps g c =
    let s = c.args.nodes.now in
    let ops = c.args.operands.now in
    whole-count portable (signatures_of (g.T.Terms.all_terms c.args.terms.now)) s.context (matching_at s c.args.mode c.args.stream.now ops c.args.target c.args.hyps.now.items)
    (state_at s (ops ++ c.clear.new.self.items) (exprs_at s ops) c.push.new.self.items c.args.hyps.now.items)
    (begins s c.args.mode c.args.stream.now ops c.clear.new.self.items c.push.new.self.items c.args.target c.args.hyps.now.items c.clear.ensures.items (c.in-Ok.ensures.items ∙ ap (λ is. is ++ c.args.target ∷ []) c.clear-2.ensures.items))
    c.run.result c.args.steps.now c.run.new.steps (c.run.ensures.steps _ c.requires.over)

-- ---- what the call asks

pub run-requires-clause-heap : goal.run-requires-clause-heap
run-requires-clause-heap g c = rw c.clear.ensures.items (are-in-both c.args.nodes.now c.args.operands.now [] c.requires.operands tt)
