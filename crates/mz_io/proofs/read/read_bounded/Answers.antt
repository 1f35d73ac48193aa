use Rattle.std.proofs.Common.{rules, ◌≡◌, ◌++◌, ◌∷◌, [], true, is_ok, ap, ◌∙◌}
use Rattle.mz_io.specs.Calls.{AreAnswered, starts}
use Rattle.mz_io.specs.Read.{IsReading}
use Rattle.mz_io.proofs.Logs.{grows-after, grows-one}
use Rattle.mz_io.proofs.Answered.{start-answered, grows-answered}
use Rattle.mz_io.proofs.read.read_bounded.Goals as goal

pub returns-clause-log : goal.returns-clause-log
returns-clause-log g c =
    let done : is_ok c.start.result ≡ true = search rules in
    grows-after _ _ _ (starts c.args.name.now true) (IsReading c.args.limit c.args.name.now c.read_started.result)
    (c.start.ensures.logged ∙ ap (λ b. g.F.Folder.calls c.args.folder.now ++ starts c.args.name.now b ∷ []) done) (c.read_started.ensures.log c.args.name.now)

pub returns-then-is_err-clause-answered : goal.returns-then-is_err-clause-answered
returns-then-is_err-clause-answered g c = λ told.
    grows-one _ _ (starts c.args.name.now (is_ok c.start.result)) (λ more. AreAnswered (g.F.Folder.file c.args.folder.now) (g.F.Folder.left c.args.folder.now) more (g.F.Folder.left c.start.new.self))
    c.start.ensures.logged (start-answered (g.F.Folder.file c.args.folder.now) (g.F.Folder.left c.args.folder.now) (g.F.Folder.left c.start.new.self) c.args.name.now c.start.result (c.start.ensures.started told) (c.start.ensures.stopped told))

pub returns-clause-answered : goal.returns-clause-answered
returns-clause-answered g c = λ told.
    grows-answered (g.F.Folder.file c.args.folder.now) (g.F.Folder.file c.start.new.self) (g.F.Folder.left c.args.folder.now) (g.F.Folder.left c.start.new.self) _ _ _ _ (c.start.ensures.files told)
    (grows-one _ _ (starts c.args.name.now (is_ok c.start.result)) (λ more. AreAnswered (g.F.Folder.file c.args.folder.now) (g.F.Folder.left c.args.folder.now) more (g.F.Folder.left c.start.new.self))
    c.start.ensures.logged (start-answered (g.F.Folder.file c.args.folder.now) (g.F.Folder.left c.args.folder.now) (g.F.Folder.left c.start.new.self) c.args.name.now c.start.result (c.start.ensures.started told) (c.start.ensures.stopped told)))
    (c.read_started.ensures.answered told)
