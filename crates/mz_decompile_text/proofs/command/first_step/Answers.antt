use Rattle.std.proofs.Common.{◌<◌, ◌∙◌, length, subst, sym}
use Rattle.mz_machine_theory.specs.Streams.{StreamIs}
use Rattle.mz_decompile_text.proofs.Commands.{begins, ended, never_ok, one_more}
use Rattle.mz_decompile_text.proofs.command.first_step.Goals as goal

pub unreachable-requires : goal.unreachable-requires
unreachable-requires c =
    let r = begins c.requires.0 c.args.stream.now c.requires.1 c.requires.2 in
    never_ok c.in_default.field-0 r.0 (c.in_default.ensures.computed ∙ r.1)

pub returns-in_default-try_from : goal.returns-in_default-try_from
returns-in_default-try_from c = λ kind us h. ended kind c.args.stream.now us c.in-Ok.cmd (sym c.in-Ok.ensures.computed) c.in_default-try_from.ensures.0 h

pub returns : goal.returns
returns c = λ kind us h.
    let r = one_more kind c.args.stream.now us c.in-Ok.cmd c.in-Ok-try_from.code (sym c.in-Ok.ensures.computed) c.in-Ok-try_from.ensures h in
    let same = sym c.behind.ensures in
    (r.0, r.1, r.2, r.3, subst (λ bytes. StreamIs kind bytes r.1) same r.4, subst (λ bytes. length bytes < length c.args.stream.now) same r.5)
