use Rattle.std.proofs.Common.{rules, [], add-zero, ◌≡◌, ◌≤◌, ◌++◌, ◌∙◌, ℕ, List, length, codes, refl, sym, ap, subst, inr, arith}
use Rattle.mz_cmd.specs.declared.rule.Refusal.{Refusal}
use Rattle.mz_io.specs.Calls.{Grows, IsWritten, IsCut}
use Rattle.mz_io.proofs.Offered.{grows-none, grows-both, written-none, written-both}
use Rattle.mz_show.specs.Statements.{first_place, statement_text}
use Rattle.mz_show.specs.Listing.{chain_text, StopsAt}
use Rattle.mz_show.proofs.Progress.{has-room, front-so_far, front-one_more, front-end, cut-short, steps-on, progress-more}
use Rattle.mz_show.proofs.writing.list_statements.Goals as goal

pub returns-in_default-clause-only_full : goal.returns-in_default-clause-only_full
returns-in_default-clause-only_full g c =
    let n = c.in-Statement.ensures in
    let piece : c.deref.result.now ≡ statement_text c.args.mmb.now c.statements.place n.0 =
    c.deref.ensures.value ∙ n.3 ∙ ap (λ front. front ++ statement_text c.args.mmb.now c.statements.place n.0) c.clear.ensures.items in
    let f = front-one_more c.args.mmb.now c.proof_at.ensures.binary.layout c.statements.invariant.statements c.statements.place n.0 c.statements.invariant.chain n.1 n.2 in
    λ clear fits.
    let room = has-room c.args.mmb.now c.proof_at.ensures.binary.layout (chain_text c.args.mmb.now (first_place c.args.mmb.now) c.statements.invariant.statements)
    (statement_text c.args.mmb.now c.statements.place n.0) (g.O.Sink.room c.statements.out) (g.O.Sink.room c.args.out.now) f (c.statements.invariant.room_left clear) fits in
    let same : length c.deref.result.now ≡ length (statement_text c.args.mmb.now c.statements.place n.0) = ap length piece in
    c.in_default.ensures.only_full (c.statements.invariant.stays_clear clear) (subst (λ (k : ℕ). k ≤ g.O.Sink.room c.statements.out) (sym same) room) ∙ c.statements.invariant.only_full clear fits

pub returns-in_default-write_whole-clause-only_full : goal.returns-in_default-write_whole-clause-only_full
returns-in_default-write_whole-clause-only_full g c =
    let f = front-end c.args.mmb.now c.proof_at.ensures.binary.layout c.statements.invariant.statements c.statements.place c.statements.invariant.chain c.in-End.ensures in
    λ clear fits.
    let room = has-room c.args.mmb.now c.proof_at.ensures.binary.layout (chain_text c.args.mmb.now (first_place c.args.mmb.now) c.statements.invariant.statements)
    (codes "end\n") (g.O.Sink.room c.statements.out) (g.O.Sink.room c.args.out.now) f (c.statements.invariant.room_left clear) fits in
    c.in_default-write_whole.ensures.only_full (c.statements.invariant.stays_clear clear) room ∙ c.statements.invariant.only_full clear fits

pub returns-in-Refused-clause-refused : goal.returns-in-Refused-clause-refused
returns-in-Refused-clause-refused g c = λ refusal is.
    let same : c.in-Refused.refusal ≡ refusal = cc in (
      chain_text c.args.mmb.now (first_place c.args.mmb.now) c.statements.invariant.statements,
      inr (record {
        layout = c.proof_at.ensures.binary.layout;
        statements = c.statements.invariant.statements;
        last = c.statements.place;
        chain = c.statements.invariant.chain;
        stops = subst (λ (r : Refusal). StopsAt c.args.mmb.now c.statements.place r) same c.in-Refused.ensures;
        text_is = refl;
      }),
      c.statements.invariant.room_left,
    )

pub statements-smaller : goal.statements-smaller
statements-smaller g c =
    let n = c.in-Statement.ensures in
    let step = steps-on c.args.mmb.now c.statements.place n.0 c.in-Statement.after c.statements.invariant.within n.1 n.4 in
    omega (arith, step.further, step.within.at)

pub statements-preserved : goal.statements-preserved
statements-preserved g c =
    let n = c.in-Statement.ensures in
    let piece : c.deref.result.now ≡ statement_text c.args.mmb.now c.statements.place n.0 =
    c.deref.ensures.value ∙ n.3 ∙ ap (λ front. front ++ statement_text c.args.mmb.now c.statements.place n.0) c.clear.ensures.items in
    progress-more c.args.mmb.now c.proof_at.ensures.binary.layout _ (g.O.Sink.is_clear c.statements.out) _
    (g.O.Sink.room c.args.out.now) (g.O.Sink.room c.statements.out) (g.O.Sink.room c.write_whole.new.out) (g.O.Sink.faults c.args.out.now) (g.O.Sink.faults c.statements.out) (g.O.Sink.faults c.write_whole.new.out)
    (g.O.Sink.calls c.args.out.now) (g.O.Sink.calls c.statements.out) (g.O.Sink.calls c.write_whole.new.out)
    c.statements.place n.0 c.in-Statement.after c.deref.result.now c.statements.invariant n.1 n.2 piece n.4
    c.in-Ok.ensures.log c.in-Ok.ensures.lessens c.in-Ok.ensures.cause.later c.in-Ok.ensures.stays_clear c.in-Ok.ensures.only_full

pub statements-init : goal.statements-init
statements-init g c = record {
  within = search rules;
  statements = [];
  chain = search rules;
  log = grows-none (g.O.Sink.calls c.args.out.now) (IsWritten []) written-none;
  room_left = λ clear. add-zero (g.O.Sink.room c.args.out.now);
  later = search rules;
  stays_clear = λ clear. clear;
  only_full = λ clear fits. refl;
}

-- what was written of the file is a prefix of its listing, and what came last was cut short
pub returns-in_default-clause-log : goal.returns-in_default-clause-log
returns-in_default-clause-log g c =
    let n = c.in-Statement.ensures in
    let piece : c.deref.result.now ≡ statement_text c.args.mmb.now c.statements.place n.0 =
    c.deref.ensures.value ∙ n.3 ∙ ap (λ front. front ++ statement_text c.args.mmb.now c.statements.place n.0) c.clear.ensures.items in
    let f = front-one_more c.args.mmb.now c.proof_at.ensures.binary.layout c.statements.invariant.statements c.statements.place n.0 c.statements.invariant.chain n.1 n.2 in
    let cut = cut-short c.args.mmb.now c.proof_at.ensures.binary.layout (chain_text c.args.mmb.now (first_place c.args.mmb.now) c.statements.invariant.statements) (statement_text c.args.mmb.now c.statements.place n.0)
    (g.O.Sink.calls c.args.out.now) (g.O.Sink.calls c.statements.out) (g.O.Sink.calls c.write_whole.new.out) f c.statements.invariant.log
    (subst (λ (text : List ℕ). Grows (g.O.Sink.calls c.statements.out) (g.O.Sink.calls c.write_whole.new.out) (IsCut text)) piece c.in_default.ensures.log) in
    (cut.0, cut.1, (f.text, f.listed, cut.2))

pub returns-in_default-write_whole-clause-log : goal.returns-in_default-write_whole-clause-log
returns-in_default-write_whole-clause-log g c =
    let f = front-end c.args.mmb.now c.proof_at.ensures.binary.layout c.statements.invariant.statements c.statements.place c.statements.invariant.chain c.in-End.ensures in
    let cut = cut-short c.args.mmb.now c.proof_at.ensures.binary.layout (chain_text c.args.mmb.now (first_place c.args.mmb.now) c.statements.invariant.statements) (codes "end\n")
    (g.O.Sink.calls c.args.out.now) (g.O.Sink.calls c.statements.out) (g.O.Sink.calls c.write_whole-in-End.new.out) f c.statements.invariant.log c.in_default-write_whole.ensures.log in
    (cut.0, cut.1, (f.text, f.listed, cut.2))

pub returns-in-End-clause-log : goal.returns-in-End-clause-log
returns-in-End-clause-log g c =
    let text = chain_text c.args.mmb.now (first_place c.args.mmb.now) c.statements.invariant.statements in
    let both = grows-both (g.O.Sink.calls c.args.out.now) (g.O.Sink.calls c.statements.out) (g.O.Sink.calls c.write_whole-in-End.new.out)
    (IsWritten text) (IsWritten (codes "end\n")) (IsWritten (text ++ codes "end\n")) c.statements.invariant.log c.in-Ok-write_whole.ensures.log (written-both text (codes "end\n")) in (
      both.0,
      both.1,
      (
        text ++ codes "end\n",
        record { layout = c.proof_at.ensures.binary.layout; statements = c.statements.invariant.statements; last = c.statements.place; chain = c.statements.invariant.chain; ends = c.in-End.ensures; text_is = refl },
        both.2,
      ),
    )

pub returns-in-Mem-clause-log : goal.returns-in-Mem-clause-log
returns-in-Mem-clause-log g c =
    let f = front-so_far c.args.mmb.now c.proof_at.ensures.binary.layout c.statements.invariant.statements c.statements.place c.statements.invariant.chain in
    let log = c.statements.invariant.log in
    (log.0, log.1, (f.text, f.listed, record { front = chain_text c.args.mmb.now (first_place c.args.mmb.now) c.statements.invariant.statements; rest = f.rest; text_is = f.parts; written = log.2 }))
