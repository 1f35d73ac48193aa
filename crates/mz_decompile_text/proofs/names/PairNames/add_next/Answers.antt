use Rattle.std.proofs.Common.{◌∙◌, ℕ, List, sym, subst}
use Rattle.std.specs.Prelude.{OnOk}
use Rattle.mz_cmd.specs.Codes.{statement_byte}
use Rattle.mz_binary_theory.specs.Spelling.{is_local_code}
use Rattle.mz_decompile_text.specs.Adding.{IsAdded}
use Rattle.mz_decompile_text.proofs.Walking.{public-name}
use Rattle.mz_decompile_text.proofs.names.PairNames.add_next.Goals as goal

pub returns : goal.returns
returns c =
    subst (λ (n : List ℕ). OnOk c.add-2.result (IsAdded c.args.code n c.args.self.now c.add-2.new.self))
    (public-name c.args.spec.now.text.now c.args.spec.now.declared c.args.self.now.prefix (is_local_code (statement_byte c.args.code)) c.args.publics c.args.number c.name.result.now
    (sym c.is_local.ensures ∙ c.if-is_local.false) c.name.ensures) c.add-2.ensures
