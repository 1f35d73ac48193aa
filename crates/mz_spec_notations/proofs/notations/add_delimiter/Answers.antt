use Rattle.std.proofs.Common.{refl}
use Rattle.std.specs.Prelude.{option_map}
use Rattle.mz_spec_theory.specs.StatementCode.{lexeme}
use Rattle.mz_spec_rules.specs.Entries.{state}
use Rattle.mz_spec_notations.proofs.Noted.{delimiter-after}
use Rattle.mz_spec_notations.proofs.notations.add_delimiter.Goals as goal

pub returns-in-Ok-clause-after : goal.returns-in-Ok-clause-after
returns-in-Ok-clause-after c =
    delimiter-after (state c.args.state.now) c.args.place c.add_delimiter.new.self (lexeme c.args.delimiter.left) (option_map lexeme c.args.delimiter.right)
    c.inner-left.result.now (option_map (λ bytes. bytes.now) c.inner_of-right.result) refl c.inner-left.ensures c.inner_of-right.ensures c.in-Ok.ensures.ok
