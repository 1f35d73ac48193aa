use Rattle.std.proofs.Common.{◌+◌, ◌*◌, refl}
use Rattle.mz_unify.specs.Stored.{mode_of}
use Rattle.mz_unify.specs.declared.command.Command.TheVariants.{End, Term, TermSave, Ref}
use Rattle.mz_unify.proofs.UsualCommands.{without, with-short, with-long}
use Rattle.mz_unify.proofs.command.usual.Goals as goal

pub returns-in-0 : goal.returns-in-0
returns-in-0 c = without (mode_of c.args.mode) c.args.bytes.now 0 End c.in-len3-up.len_at_least c.in-0.is refl refl refl

pub returns-in-48 : goal.returns-in-48
returns-in-48 c = without (mode_of c.args.mode) c.args.bytes.now 48 (Term 0) c.in-len3-up.len_at_least c.in-48.is refl refl refl

pub returns-in-112 : goal.returns-in-112
returns-in-112 c = with-short (mode_of c.args.mode) c.args.bytes.now 112 (Term c.from-short.result) c.in-len3-up.len_at_least c.in-112.is refl c.from-short.result refl c.from-short.ensures refl

pub returns-in-176 : goal.returns-in-176
returns-in-176 c = with-long (mode_of c.args.mode) c.args.bytes.now 176 (Term (c.from-short.result + 256 * c.from.result)) c.in-len3-up.len_at_least c.in-176.is refl c.from-short.result c.from.result refl c.from-short.ensures c.from.ensures refl

pub returns-in-49 : goal.returns-in-49
returns-in-49 c = without (mode_of c.args.mode) c.args.bytes.now 49 (TermSave 0) c.in-len3-up.len_at_least c.in-49.is refl refl refl

pub returns-in-113 : goal.returns-in-113
returns-in-113 c = with-short (mode_of c.args.mode) c.args.bytes.now 113 (TermSave c.from-short.result) c.in-len3-up.len_at_least c.in-113.is refl c.from-short.result refl c.from-short.ensures refl

pub returns-in-177 : goal.returns-in-177
returns-in-177 c = with-long (mode_of c.args.mode) c.args.bytes.now 177 (TermSave (c.from-short.result + 256 * c.from.result)) c.in-len3-up.len_at_least c.in-177.is refl c.from-short.result c.from.result refl c.from-short.ensures c.from.ensures refl

pub returns-in-50 : goal.returns-in-50
returns-in-50 c = without (mode_of c.args.mode) c.args.bytes.now 50 (Ref 0) c.in-len3-up.len_at_least c.in-50.is refl refl refl

pub returns-in-114 : goal.returns-in-114
returns-in-114 c = with-short (mode_of c.args.mode) c.args.bytes.now 114 (Ref c.from-short.result) c.in-len3-up.len_at_least c.in-114.is refl c.from-short.result refl c.from-short.ensures refl
