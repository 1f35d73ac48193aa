use Rattle.std.proofs.Common.{ℕ, ◌≡◌, ◌∙◌, ◌∷◌, ◌++◌, [], List, ap}
use Rattle.std.proofs.lemmas.List.{append-nil}
use Rattle.mz_logic_theory.specs.Words.{signatures_of}
use Rattle.mz_store.specs.Sharing.{Sharing}
use Rattle.mz_store.specs.declared.item.Id.{Id}
use Rattle.mz_store.specs.declared.item.Item.{Item as Kept}
use Rattle.mz_machine_theory.specs.Profile.{strict}
use Rattle.mz_machine_theory.specs.UnifyMachine.{at_start}
use Rattle.mz_unify.specs.Stored.{trees_at, items_at, matching_at}
use Rattle.mz_unify.specs.Rows.{all_targets, state_at}
use Rattle.mz_unify.specs.declared.unified.UnifyMode.{UnifyMode}
use Rattle.mz_unify.proofs.RunsExact.{said-exact}
use Rattle.mz_unify.proofs.StoredIds.{are-in-both}
use Rattle.mz_unify.proofs.Underway.{whole-run, whole-count}
use Rattle.mz_unify.proofs.running.unify_in.Goals as goal

-- with nothing saved, and the target alone, the run begins
begins : (s : Sharing) (mode : UnifyMode) (stream : List ℕ) (operands saved targets : List Id) (target : Id) (hyps : List Kept) → saved ≡ [] → targets ≡ []
    → state_at s (operands ++ saved) (trees_at s operands) (all_targets (target ∷ []) targets) hyps ≡ at_start (matching_at s mode stream operands target hyps)
begins s mode stream operands saved targets target hyps none alone =
    ap (λ is. state_at s (operands ++ is) (trees_at s operands) (all_targets (target ∷ []) targets) hyps) none
    ∙ ap (λ is. state_at s is (trees_at s operands) (all_targets (target ∷ []) targets) hyps) (append-nil operands)
    ∙ ap (λ is. state_at s operands (trees_at s operands) (all_targets (target ∷ []) is) hyps) alone

pub returns-clause-run : goal.returns-clause-run
returns-clause-run g c =
    let s = c.args.store.now in
    let ops = c.args.operands.now in
    whole-run strict (signatures_of (g.T.Terms.all_terms c.args.terms.now)) s.context (matching_at s c.args.mode c.args.stream.now ops c.args.target c.args.hyps.now.items)
    (state_at s (ops ++ c.clear.new.self.items) (trees_at s ops) (all_targets (c.args.target ∷ []) c.clear-2.new.self.items) c.args.hyps.now.items)
    (begins s c.args.mode c.args.stream.now ops c.clear.new.self.items c.clear-2.new.self.items c.args.target c.args.hyps.now.items c.clear.ensures.items c.clear-2.ensures.items)
    c.run.result (trees_at s (ops ++ c.run.new.saved.items)) (items_at s c.run.new.hyps.items) (c.run.ensures.run _ c.requires.over)

pub returns-clause-exact : goal.returns-clause-exact
returns-clause-exact g c params fit =
    let s = c.args.store.now in
    let ops = c.args.operands.now in
    said-exact (signatures_of (g.T.Terms.all_terms c.args.terms.now)) s c.requires.over c.args.mode params c.args.stream.now ops c.args.target c.args.hyps.now.items c.run.result (ops ++ c.run.new.saved.items) c.run.new.hyps.items
    c.requires.target c.requires.hyps fit c.run.ensures.taken
    (whole-run strict (signatures_of (g.T.Terms.all_terms c.args.terms.now)) s.context (matching_at s c.args.mode c.args.stream.now ops c.args.target c.args.hyps.now.items)
    (state_at s (ops ++ c.clear.new.self.items) (trees_at s ops) (all_targets (c.args.target ∷ []) c.clear-2.new.self.items) c.args.hyps.now.items)
    (begins s c.args.mode c.args.stream.now ops c.clear.new.self.items c.clear-2.new.self.items c.args.target c.args.hyps.now.items c.clear.ensures.items c.clear-2.ensures.items)
    c.run.result (trees_at s (ops ++ c.run.new.saved.items)) (items_at s c.run.new.hyps.items) (c.run.ensures.run _ c.requires.over))

pub returns-clause-steps : goal.returns-clause-steps
returns-clause-steps g c =
    let s = c.args.store.now in
    let ops = c.args.operands.now in
    whole-count strict (signatures_of (g.T.Terms.all_terms c.args.terms.now)) s.context (matching_at s c.args.mode c.args.stream.now ops c.args.target c.args.hyps.now.items)
    (state_at s (ops ++ c.clear.new.self.items) (trees_at s ops) (all_targets (c.args.target ∷ []) c.clear-2.new.self.items) c.args.hyps.now.items)
    (begins s c.args.mode c.args.stream.now ops c.clear.new.self.items c.clear-2.new.self.items c.args.target c.args.hyps.now.items c.clear.ensures.items c.clear-2.ensures.items)
    c.run.result c.args.steps.now c.run.new.steps (c.run.ensures.steps _ c.requires.over)

-- ---- what the call asks

pub run-requires-clause-heap : goal.run-requires-clause-heap
run-requires-clause-heap g c = rw c.clear.ensures.items (are-in-both c.args.store.now c.args.operands.now [] c.requires.operands tt)

pub run-requires-clause-targets : goal.run-requires-clause-targets
run-requires-clause-targets g c = rw c.clear-2.ensures.items (c.requires.target, tt)
