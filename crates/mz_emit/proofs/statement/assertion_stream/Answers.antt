use Rattle.std.proofs.Common.{ℕ, ◌++◌, [], List, length, ap, sym, subst, ◌∙◌, append-nil, arith}
use Rattle.mz_logic_theory.specs.declared.binder.Binder.{Binder}
use Rattle.mz_emit_theory.specs.SymbolicState.{from_to}
use Rattle.mz_store.specs.Sharing.{tree_of, trees_of}
use Rattle.mz_emit_theory.specs.InReach.{AllInReach, InReach}
use Rattle.mz_emit_theory.specs.StreamWriting.{assertion_written, stream_of, write, writing_start}
use Rattle.mz_machine_theory.proofs.Offered.{length-params}
use Rattle.mz_emit.proofs.Going.{marks_after}
use Rattle.mz_emit.proofs.Starting.{assertion_end, one_cut, statement_of}
use Rattle.mz_emit.proofs.statement.assertion_stream.Goals as goal

pub new-requires : goal.new-requires
new-requires c =
    let p = c.requires.params in
    (p.1, [], statement_of p.0 _ c.args.shared.now.store _ c.requires.shared.1 p.1 p.2 p.3 p.5 p.6 c.once.ensures [] p.2 (p.3 ∙ ap (λ (qs : List Binder). qs ++ p.2) (sym (append-nil p.1))), p.4)

pub spell-requires : goal.spell-requires
spell-requires c =
    let p = c.requires.params in
    let s = c.args.shared.now.store in
    let st = statement_of p.0 _ s _ c.requires.shared.1 p.1 p.2 p.3 p.5 p.6 c.once.ensures [] p.2 (p.3 ∙ ap (λ (qs : List Binder). qs ++ p.2) (sym (append-nil p.1))) in
    let n = sym (ap length (append-nil p.1) ∙ p.4) in
    record { inside = c.requires.conclusion; can = (p.1, [], writing_start p.1, c.in_ok-stream.ensures.ready p.1 [] st p.4, (subst (λ (k : ℕ). InReach k (tree_of s c.args.conclusion.0)) n c.requires.conclusion_reach, omega (arith, length-params 0 p.1, p.4, c.requires.room))) }

pub spell_hyps-requires : goal.spell_hyps-requires
spell_hyps-requires c =
    let p = c.requires.params in
    let s = c.args.shared.now.store in
    let st = statement_of p.0 _ s _ c.requires.shared.1 p.1 p.2 p.3 p.5 p.6 c.once.ensures [] p.2 (p.3 ∙ ap (λ (qs : List Binder). qs ++ p.2) (sym (append-nil p.1))) in
    let n = sym (ap length (append-nil p.1) ∙ p.4) in
    let done = c.in_ok-spell.ensures.does p.1 [] (writing_start p.1) (c.in_ok-stream.ensures.ready p.1 [] st p.4) (subst (λ (k : ℕ). InReach k (tree_of s c.args.conclusion.0)) n c.requires.conclusion_reach, omega (arith, length-params 0 p.1, p.4, c.requires.room)) in
    record {
      inside = c.requires.hyps;
      can = (
        p.1,
        [],
        (write (from_to 0 p.1) (p.1 ++ []) (writing_start p.1) (tree_of s c.args.conclusion.0)).after,
        done.0,
        (subst (λ (k : ℕ). AllInReach k (trees_of s c.args.hyps.now)) n c.requires.hyps_reach, omega (arith, length-params 0 p.1, p.4, c.requires.room, marks_after (from_to 0 p.1) (p.1 ++ []) (writing_start p.1) (tree_of s c.args.conclusion.0))),
      );
    }

pub returns : goal.returns
returns c = λ ps ds context many.
    let p = c.requires.params in
    let s = c.args.shared.now.store in
    let e = tree_of s c.args.conclusion.0 in
    let st = statement_of p.0 _ s _ c.requires.shared.1 p.1 p.2 p.3 p.5 p.6 c.once.ensures [] p.2 (p.3 ∙ ap (λ (qs : List Binder). qs ++ p.2) (sym (append-nil p.1))) in
    let n = sym (ap length (append-nil p.1) ∙ p.4) in
    let done = c.in_ok-spell.ensures.does p.1 [] (writing_start p.1) (c.in_ok-stream.ensures.ready p.1 [] st p.4) (subst (λ (k : ℕ). InReach k e) n c.requires.conclusion_reach, omega (arith, length-params 0 p.1, p.4, c.requires.room)) in
    let more = c.in_ok-spell_hyps.ensures.does p.1 [] (write (from_to 0 p.1) (p.1 ++ []) (writing_start p.1) e).after done.0 (subst (λ (k : ℕ). AllInReach k (trees_of s c.args.hyps.now)) n c.requires.hyps_reach, omega (arith, length-params 0 p.1, p.4, c.requires.room, marks_after (from_to 0 p.1) (p.1 ++ []) (writing_start p.1) (tree_of s c.args.conclusion.0))) in
    let cut = one_cut p.1 p.2 ps ds (sym p.3 ∙ context) (p.4 ∙ sym many) in
    assertion_end (p.1 ++ []) p.1 s e c.args.hyps.now c.in_ok-stream.stream.out.items c.spell.new.self.out.items c.spell_hyps.new.self.out.items c.in_ok-bytes.bytes.items (append-nil p.1) c.in_ok-stream.ensures.out done.1 more.1 c.in_ok-bytes.ensures
    ∙ ap (λ (qs : List Binder). stream_of (assertion_written qs (trees_of s c.args.hyps.now) e).commands) cut.0
