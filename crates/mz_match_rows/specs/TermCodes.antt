-- Which commands of a unify stream make a term.
use Rattle.std.specs.Prelude.{Bool, true, false}
use Rattle.mz_cmd.specs.declared.code.UnifyCode.{UnifyCode}
use Rattle.mz_cmd.specs.declared.code.UnifyCode.TheVariants as codes

abbrev pub makes_term : UnifyCode → Bool
makes_term codes.Term = true
makes_term codes.TermSave = true
makes_term codes.Ref = false
makes_term codes.Dummy = false
makes_term codes.Hyp = false
