use Rattle.std.proofs.Common.{[], ◌∷◌, ◌++◌, length, ◌+◌, length-append, sym, ap, ◌∙◌, subst}
use Rattle.mz_base.specs.Checks.{AllHold}
use Rattle.mz_sexpr.specs.Number.{first}
use Rattle.mz_logic_theory.specs.DeclView.{declaration}
use Rattle.mz_mmu.specs.EntryView.{entry}
use Rattle.mz_mmu_theory.specs.Rules.{statement_rules}
use Rattle.mz_type.specs.StatedView.{statements_of}
use Rattle.mz_type.proofs.StatedSteps.{statements_more}
use Rattle.mz_mmu_theory.proofs.Offered.{legal_decl}
use Rattle.mz_type.proofs.typed.declare_statement.Goals as goal

pub push-requires-clause-legal : goal.push-requires-clause-legal
push-requires-clause-legal c =
    let s = entry c.args.entry in
    legal_decl c.args.env.now s (first c.args.nodes.now) c.requires.there
    (subst (λ e. AllHold (statement_rules e s (first c.args.nodes.now))) c.env.ensures c.in_ok-check_statement.ensures)

pub returns-clause-more : goal.returns-clause-more
returns-clause-more c = c.in_ok-push.ensures

pub returns-clause-many : goal.returns-clause-many
returns-clause-many c =
    ap length c.in_ok-push.ensures ∙ length-append c.args.env.now _ ∙ ap (λ n. n + 1) c.requires.many
    ∙ sym (length-append c.args.beside.now.items _) ∙ sym (ap length c.in_ok-push-2.ensures.items)

pub returns-clause-told : goal.returns-clause-told
returns-clause-told c =
    ap (λ e. statements_of e c.push-2.new.self.items) c.in_ok-push.ensures
    ∙ ap (λ b. statements_of (c.args.env.now ++ declaration c.args.entry.declared.decl ∷ []) b) c.in_ok-push-2.ensures.items
    ∙ statements_more c.args.env.now c.args.beside.now.items (declaration c.args.entry.declared.decl) _ c.requires.many
