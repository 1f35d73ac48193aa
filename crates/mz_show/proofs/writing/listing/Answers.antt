use Rattle.std.proofs.Common.{◌≡◌, ◌+◌, ℕ, List, [], refl, sym, subst, inl, append-nil, arith}
use Rattle.mz_base.proofs.Offered.{all_hold-excludes}
use Rattle.mz_cmd.specs.declared.rule.Refusal.{Refusal}
use Rattle.mz_layout_tables.specs.Layout.{layout_checks}
use Rattle.mz_io.specs.Calls.{Grows}
use Rattle.mz_io.proofs.Offered.{written-none}
use Rattle.mz_show.specs.declared.writing.Shown.{Shown}
use Rattle.mz_show.specs.Asked.{IsShowing}
use Rattle.mz_show.specs.Listing.{IsListedUpTo, IsListed, IsNoBinary}
use Rattle.mz_show.proofs.OneListing.{listing-excludes}
use Rattle.mz_show.proofs.writing.listing.Goals as goal

pub returns-in-Ok-clause-refused : goal.returns-in-Ok-clause-refused
returns-in-Ok-clause-refused g c = λ refusal is.
    let r = c.list_statements.ensures.refused refusal is in
    (r.0, subst (λ (file : List ℕ). IsListedUpTo file r.0 refusal) c.in-Ok.ensures.0 r.1, r.2)

pub returns-in-Ok-clause-listed : goal.returns-in-Ok-clause-listed
returns-in-Ok-clause-listed g c = λ text refusal l is.
    let r = c.list_statements.ensures.refused refusal is in
    listing-excludes c.args.file.now text r.0 refusal l (subst (λ (file : List ℕ). IsListedUpTo file r.0 refusal) c.in-Ok.ensures.0 r.1)

pub returns-in-Ok-clause-stopped : goal.returns-in-Ok-clause-stopped
returns-in-Ok-clause-stopped g c = λ text refusal l is.
    let log = subst (λ (file : List ℕ). Grows (g.O.Sink.calls c.args.out.now) (g.O.Sink.calls c.list_statements.new.out) (IsShowing file c.list_statements.result)) c.in-Ok.ensures.0 c.list_statements.ensures.log in
    let done = subst (λ (s : Shown). Grows (g.O.Sink.calls c.args.out.now) (g.O.Sink.calls c.list_statements.new.out) (IsShowing c.args.file.now s)) is log in
    listing-excludes c.args.file.now done.2.0 text refusal done.2.1 l

pub returns-in-Ok-clause-only_full : goal.returns-in-Ok-clause-only_full
returns-in-Ok-clause-only_full g c = λ clear fits.
    c.list_statements.ensures.only_full clear (λ text l. fits text (subst (λ (file : List ℕ). IsListed file text) c.in-Ok.ensures.0 l))

pub returns-in-Err-clause-refused : goal.returns-in-Err-clause-refused
returns-in-Err-clause-refused g c = λ refusal is.
    let same : c.in-Err.refusal ≡ refusal = cc in
    let none : IsNoBinary c.args.file.now [] c.in-Err.refusal = record { number = c.in-Err.ensures.0; fails = c.in-Err.ensures.1; text_is = refl } in (
      [],
      inl (subst (λ (r : Refusal). IsNoBinary c.args.file.now [] r) same none),
      λ clear. (let e : g.O.Sink.room c.args.out.now + 0 ≡ g.O.Sink.room c.args.out.now = omega arith in e),
    )

pub returns-in-Err-clause-listed : goal.returns-in-Err-clause-listed
returns-in-Err-clause-listed g c = λ text refusal l is.
    all_hold-excludes (layout_checks c.args.file.now) (c.in-Err.refusal.at, c.in-Err.refusal.rule) l.layout c.in-Err.ensures.1

pub returns-in-Err-clause-log : goal.returns-in-Err-clause-log
returns-in-Err-clause-log g c =
    let none : IsNoBinary c.args.file.now [] c.in-Err.refusal = record { number = c.in-Err.ensures.0; fails = c.in-Err.ensures.1; text_is = refl } in
    ([], sym (append-nil (g.O.Sink.calls c.args.out.now)), ([], inl none, written-none))
