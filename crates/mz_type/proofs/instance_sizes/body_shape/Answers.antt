use Rattle.mz_logic_theory.specs.Declaration.{body_tree}
use Rattle.mz_logic_theory.specs.DeclView.{form}
use Rattle.mz_type.proofs.Shaping.{empty_shape}
use Rattle.mz_type.proofs.Weighing.{body_none}
use Rattle.mz_type.proofs.instance_sizes.body_shape.Goals as goal

pub returns-in-None : goal.returns-in-None
returns-in-None c = empty_shape c.new.result.items (body_tree (form c.args.term.now.form)) (body_none (form c.args.term.now.form) c.in-None.ensures) c.new.ensures.items
