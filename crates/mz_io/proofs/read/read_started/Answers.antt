use Rattle.std.proofs.Common.{rules, ◌≡◌, ◌++◌, ◌<◌, ◌∷◌, [], true, refl, inr, arith, length, take, ℕ, List}
use Rattle.std.proofs.lemmas.List.{length-append}
use Rattle.mz_io.specs.Calls.{starts, pulls, pull_fails, IsBegun, IsUnread, IsRead, IsOver}
use Rattle.mz_io.proofs.Logs.{grows-on, begun-more}
use Rattle.mz_io.proofs.Answered.{pulls-answered}
use Rattle.mz_io.proofs.read.read_started.Goals as goal

pub returns-in-Err-clause-log : goal.returns-in-Err-clause-log
returns-in-Err-clause-log g c = λ name.
    grows-on _ _ _ pull_fails (λ more. IsBegun name c.pulls.bytes.items (starts name true ∷ more)) (λ more. IsUnread name (starts name true ∷ more))
    (c.pulls.invariant.1 name) c.in-Err.ensures.logged
    (λ more begun. inr (c.pulls.bytes.items, record { front = starts name true ∷ more; begun = begun; calls_are = refl }))

pub returns-in-Ok-eq0-clause-log : goal.returns-in-Ok-eq0-clause-log
returns-in-Ok-eq0-clause-log g c = λ name.
    grows-on _ _ _ (pulls (length c.pull.new.buf) []) (λ more. IsBegun name c.pulls.bytes.items (starts name true ∷ more)) (λ more. IsRead name c.pulls.bytes.items (starts name true ∷ more))
    (c.pulls.invariant.1 name) (rw c.in-Ok-eq0.field-0-test at c.in-Ok-eq0.ensures.logged)
    (λ more begun. record { front = starts name true ∷ more; begun = begun; asked = length c.pull.new.buf; some = search rules; calls_are = refl })

pub returns-then-count-limit-clause-log : goal.returns-then-count-limit-clause-log
returns-then-count-limit-clause-log g c = λ name.
    let piece = take c.in-Ok.count c.pull.new.buf in
    let size : length piece ≡ c.in-Ok.count = search rules in
    let some : 0 < c.in-Ok.count = search rules in
    grows-on _ _ _ (pulls (length c.pull.new.buf) piece) (λ more. IsBegun name c.pulls.bytes.items (starts name true ∷ more)) (λ more. IsOver c.args.limit name (starts name true ∷ more))
    (c.pulls.invariant.1 name) c.in-Ok.ensures.logged
    (λ more begun. (c.pulls.bytes.items ++ piece, begun-more name c.pulls.bytes.items piece (length c.pull.new.buf) (starts name true ∷ more) (omega arith) begun, omega (arith, length-append c.pulls.bytes.items piece, c.len.ensures)))

pub returns-then-is_err-clause-log : goal.returns-then-is_err-clause-log
returns-then-is_err-clause-log g c = λ name.
    let piece = take c.in-Ok.count c.pull.new.buf in
    let size : length piece ≡ c.in-Ok.count = search rules in
    let some : 0 < c.in-Ok.count = search rules in
    grows-on _ _ _ (pulls (length c.pull.new.buf) piece) (λ more. IsBegun name c.pulls.bytes.items (starts name true ∷ more)) (λ more. (bytes : List ℕ) × IsBegun name bytes (starts name true ∷ more))
    (c.pulls.invariant.1 name) c.in-Ok.ensures.logged
    (λ more begun. (c.pulls.bytes.items ++ piece, begun-more name c.pulls.bytes.items piece (length c.pull.new.buf) (starts name true ∷ more) (omega arith) begun))

pub pulls-preserved : goal.pulls-preserved
pulls-preserved g c =
    let piece = take c.in-Ok.count c.pull.new.buf in
    let size : length piece ≡ c.in-Ok.count = search rules in
    let some : 0 < c.in-Ok.count = search rules in
    let kept : c.extend_from_slice.new.self.items ≡ c.pulls.bytes.items ++ piece = search rules in (
      record {
        within = search rules;
        files = search rules;
        later = search rules;
        put_faults_same = search rules;
        clear = search rules;
        never = search rules;
      },
      λ name.
          grows-on _ _ _ (pulls (length c.pull.new.buf) piece) (λ more. IsBegun name c.pulls.bytes.items (starts name true ∷ more)) (λ more. IsBegun name c.extend_from_slice.new.self.items (starts name true ∷ more))
          (c.pulls.invariant.1 name) c.in-Ok.ensures.logged
          (λ more begun. rw kept (begun-more name c.pulls.bytes.items piece (length c.pull.new.buf) (starts name true ∷ more) (omega arith) begun)),
      search rules,
      λ told.
          pulls-answered (g.F.Folder.file c.args.folder.now) (g.F.Folder.left c.args.folder.now) (g.F.Folder.left c.pulls.folder) (g.F.Folder.left c.pull.new.self) _ _ _
          c.pull.result c.pull.new.buf (c.pulls.invariant.3 told) c.pull.ensures.logged (c.pull.ensures.bytes told) c.pull.ensures.bound,
    )

pub returns-in-Err-clause-answered : goal.returns-in-Err-clause-answered
returns-in-Err-clause-answered g c = λ told.
    pulls-answered (g.F.Folder.file c.args.folder.now) (g.F.Folder.left c.args.folder.now) (g.F.Folder.left c.pulls.folder) (g.F.Folder.left c.pull.new.self) _ _ _
    c.pull.result c.pull.new.buf (c.pulls.invariant.3 told) c.pull.ensures.logged (c.pull.ensures.bytes told) c.pull.ensures.bound

pub returns-in-Ok-eq0-clause-answered : goal.returns-in-Ok-eq0-clause-answered
returns-in-Ok-eq0-clause-answered g c = λ told.
    pulls-answered (g.F.Folder.file c.args.folder.now) (g.F.Folder.left c.args.folder.now) (g.F.Folder.left c.pulls.folder) (g.F.Folder.left c.pull.new.self) _ _ _
    c.pull.result c.pull.new.buf (c.pulls.invariant.3 told) c.pull.ensures.logged (c.pull.ensures.bytes told) c.pull.ensures.bound

pub returns-then-count-limit-clause-answered : goal.returns-then-count-limit-clause-answered
returns-then-count-limit-clause-answered g c = λ told.
    pulls-answered (g.F.Folder.file c.args.folder.now) (g.F.Folder.left c.args.folder.now) (g.F.Folder.left c.pulls.folder) (g.F.Folder.left c.pull.new.self) _ _ _
    c.pull.result c.pull.new.buf (c.pulls.invariant.3 told) c.pull.ensures.logged (c.pull.ensures.bytes told) c.pull.ensures.bound

pub returns-then-is_err-clause-answered : goal.returns-then-is_err-clause-answered
returns-then-is_err-clause-answered g c = λ told.
    pulls-answered (g.F.Folder.file c.args.folder.now) (g.F.Folder.left c.args.folder.now) (g.F.Folder.left c.pulls.folder) (g.F.Folder.left c.pull.new.self) _ _ _
    c.pull.result c.pull.new.buf (c.pulls.invariant.3 told) c.pull.ensures.logged (c.pull.ensures.bytes told) c.pull.ensures.bound
