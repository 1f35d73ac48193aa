use Rattle.std.proofs.Common.{subst, sym, ap, refl, length, arith, ◌∙◌}
use Rattle.std.specs.Prelude.{IfSome}
use Rattle.mz_logic_theory.specs.Words.{BitsRight, binders_of}
use Rattle.mz_store.specs.Bits.{bound_vars}
use Rattle.mz_machine_env.specs.OwnRow.{kind_of, mode_for, own_words, words_from}
use Rattle.mz_machine.specs.Parameters.{Remembers}
use Rattle.mz_machine.proofs.Beginning.{AreVars}
use Rattle.mz_machine.specs.declared.params.Entered.{Entered}
use Rattle.mz_machine.proofs.KnownParams.{bound-again, entered-again, first-many}
use Rattle.mz_machine.proofs.params.enter.Goals as goal

pub restart-requires-clause-there : goal.restart-requires-clause-there
restart-requires-clause-there c =
    let r = subst (λ o. IfSome o (λ (e : Entered). Remembers c.args.env.now.file e c.args.store.now)) c.in-Some.is c.requires.last in
    first-many c.args.store.now c.in-Some.last.params r.first

pub restart-requires-clause-first : goal.restart-requires-clause-first
restart-requires-clause-first c =
    let r = subst (λ o. IfSome o (λ (e : Entered). Remembers c.args.env.now.file e c.args.store.now)) c.in-Some.is c.requires.last in
    λ i less. (r.first i less).1

pub restart-requires-clause-bound : goal.restart-requires-clause-bound
restart-requires-clause-bound c =
    let r = subst (λ o. IfSome o (λ (e : Entered). Remembers c.args.env.now.file e c.args.store.now)) c.in-Some.is c.requires.last in
    bound-again c.args.env.now.file c.in-Some.last c.args.store.now r

pub returns-then-is_of-clause-entered : goal.returns-then-is_of-clause-entered
returns-then-is_of-clause-entered c =
    let E = c.args.env.now in
    let kind = kind_of c.args.kind in
    let r = subst (λ o. IfSome o (λ (e : Entered). Remembers E.file e c.args.store.now)) c.in-Some.is c.requires.last in
    let told = c.if-is_of.ensures refl in
    entered-again E.file c.in-Some.last c.args.store.now r c.restart.new.self (own_words E.file c.args.row kind) (mode_for kind) told.0 told.1
    c.restart.ensures.mode c.restart.ensures.context c.restart.ensures.many c.restart.ensures.trees c.restart.ensures.over

pub begin-requires : goal.begin-requires
begin-requires c = subst BitsRight (sym (c.as_slice.ensures.value ∙ c.in_ok-read_words.ensures)) c.requires.bits

pub returns-clause-entered : goal.returns-clause-entered
returns-clause-entered c =
    let words = c.as_slice.ensures.value ∙ c.in_ok-read_words.ensures in
    record {
      mode = c.in_ok-begin.ensures.mode ∙ c.deps_mode-mode.ensures;
      context = c.in_ok-begin.ensures.context ∙ ap binders_of words;
      many = c.in_ok-begin.ensures.many ∙ ap length words;
      trees = subst (AreVars c.begin.new.self) words c.in_ok-begin.ensures.trees;
      over = c.in_ok-begin.ensures.over;
    }

pub returns-then-is_of-clause-own : goal.returns-then-is_of-clause-own
returns-then-is_of-clause-own c =
    let E = c.args.env.now in
    let r = subst (λ o. IfSome o (λ (e : Entered). Remembers E.file e c.args.store.now)) c.in-Some.is c.requires.last in
    let told = c.if-is_of.ensures refl in
    record { mode = told.1; words = told.0; bound = r.bound }

pub overflow_cast-params : goal.overflow_cast-params
overflow_cast-params c =
    let words = c.as_slice.ensures.value ∙ c.in_ok-read_words.ensures in
    omega (arith, c.len-params.ensures, c.in_ok-begin.ensures.many, ap length words, c.requires.few)

pub returns-clause-own : goal.returns-clause-own
returns-clause-own c =
    let E = c.args.env.now in
    let words = c.as_slice.ensures.value ∙ c.in_ok-read_words.ensures in
    let from = c.own_words_at-at.ensures ∙ ap (words_from E.file c.own_words_at-at.result) (sym (c.len-params.ensures ∙ c.in_ok-begin.ensures.many ∙ ap length words)) in
    record {
      mode = c.deps_mode-mode.ensures;
      words = from;
      bound = c.bound_count.ensures.many ∙ ap (λ ps. length (bound_vars ps)) (c.in_ok-begin.ensures.context ∙ ap binders_of (words ∙ from));
    }
