use Rattle.std.proofs.Common.{ℕ, ◌++◌, ◌∷◌, [], List, length, ap, sym, subst, ◌∙◌, append-nil, arith}
use Rattle.mz_logic_theory.specs.declared.binder.Binder.{Binder}
use Rattle.mz_store.specs.Sharing.{sort_of, tree_of}
use Rattle.mz_emit_theory.specs.InReach.{InReach}
use Rattle.mz_emit_theory.proofs.Offered.{reach_of_sort}
use Rattle.mz_emit_theory.specs.StreamWriting.{definition_written, stream_of, writing_start}
use Rattle.mz_machine_theory.proofs.Offered.{length-params}
use Rattle.mz_emit.specs.Going.{spelled}
use Rattle.mz_emit.proofs.Starting.{ended, one_cut, statement_of}
use Rattle.mz_emit.proofs.statement.definition_stream.Goals as goal

pub new-requires : goal.new-requires
new-requires c =
    let p = c.requires.params in
    (p.1, p.2, statement_of p.0 _ c.args.shared.now.store _ c.requires.shared.1 p.1 p.2 p.3 p.5 p.6 c.once.ensures p.2 [] (p.3 ∙ sym (append-nil (p.1 ++ p.2))), p.4)

pub spell-requires : goal.spell-requires
spell-requires c =
    let p = c.requires.params in
    let s = c.args.shared.now.store in
    let st = statement_of p.0 _ s _ c.requires.shared.1 p.1 p.2 p.3 p.5 p.6 c.once.ensures p.2 [] (p.3 ∙ sym (append-nil (p.1 ++ p.2))) in
    let reach = reach_of_sort c.requires.shared.0 s.context (tree_of s c.args.body.0) (sort_of s c.args.body.0) (c.requires.shared.1.over c.args.body.0 c.requires.body).0 in
    record { inside = c.requires.body; can = (p.1, p.2, writing_start p.1, c.in_ok-stream.ensures.ready p.1 p.2 st p.4, (subst (λ (ctx : List Binder). InReach (length ctx) (tree_of s c.args.body.0)) p.3 reach, omega (arith, length-params 0 p.1, p.4, c.requires.room))) }

pub returns : goal.returns
returns c = λ ps ds context many.
    let p = c.requires.params in
    let s = c.args.shared.now.store in
    let e = tree_of s c.args.body.0 in
    let st = statement_of p.0 _ s _ c.requires.shared.1 p.1 p.2 p.3 p.5 p.6 c.once.ensures p.2 [] (p.3 ∙ sym (append-nil (p.1 ++ p.2))) in
    let reach = reach_of_sort c.requires.shared.0 s.context e (sort_of s c.args.body.0) (c.requires.shared.1.over c.args.body.0 c.requires.body).0 in
    let done = c.in_ok-spell.ensures.does p.1 p.2 (writing_start p.1) (c.in_ok-stream.ensures.ready p.1 p.2 st p.4) (subst (λ (ctx : List Binder). InReach (length ctx) e) p.3 reach, omega (arith, length-params 0 p.1, p.4, c.requires.room)) in
    let cut = one_cut p.1 p.2 ps ds (sym p.3 ∙ context) (p.4 ∙ sym many) in
    c.in_ok-bytes.ensures ∙ ap (λ (bs : List ℕ). bs ++ 0x00 ∷ []) (done.1 ∙ ap (λ (bs : List ℕ). bs ++ spelled (definition_written p.1 p.2 e).commands) c.in_ok-stream.ensures.out)
    ∙ ended (definition_written p.1 p.2 e).commands
    ∙ ap (λ (qs : List Binder). stream_of (definition_written qs p.2 e).commands) cut.0 ∙ ap (λ (es : List Binder). stream_of (definition_written ps es e).commands) cut.1
