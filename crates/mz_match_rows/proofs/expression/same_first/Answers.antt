use Rattle.mz_match_rows.proofs.expression.same_first.Goals as goal

pub same_tree-requires : goal.same_tree-requires
same_tree-requires c = c.requires

pub returns : goal.returns
returns c = c.same_tree.ensures
