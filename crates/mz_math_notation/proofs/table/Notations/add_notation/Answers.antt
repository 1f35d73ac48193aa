use Rattle.std.proofs.Common.{◌∙◌, sym, subst}
use Rattle.mz_math_theory.specs.Notation.{Table}
use Rattle.mz_math_theory.specs.NotationAnswers.{IsAdded}
use Rattle.mz_math_theory.proofs.Offered.{shaped-slot, shaped-constant, with-slot, with-constant}
use Rattle.mz_math_notation.proofs.table.Notations.add_notation.Goals as goal

pub push_infix-requires : goal.push_infix-requires
push_infix-requires c = record {
  joined = shaped-slot c.args.notation c.requires (sym c.begins_with_slot.ensures ∙ c.if-begins_with_slot.true);
  plain = c.requires.1;
}

pub push_leading-requires : goal.push_leading-requires
push_leading-requires c = record {
  led = shaped-constant c.args.notation c.requires (sym c.begins_with_slot.ensures ∙ c.if-begins_with_slot.false);
  plain = c.requires.1;
}

pub returns-then-begins_with_slot : goal.returns-then-begins_with_slot
returns-then-begins_with_slot c =
    subst (λ (next : Table). IsAdded c.push_infix.result c.args.self.now next c.push_infix.new.self) (with-slot c.args.self.now c.args.notation (sym c.begins_with_slot.ensures ∙ c.if-begins_with_slot.true)) c.push_infix.ensures

pub returns-else-begins_with_slot : goal.returns-else-begins_with_slot
returns-else-begins_with_slot c =
    subst (λ (next : Table). IsAdded c.push_leading.result c.args.self.now next c.push_leading.new.self) (with-constant c.args.self.now c.args.notation (sym c.begins_with_slot.ensures ∙ c.if-begins_with_slot.false)) c.push_leading.ensures
