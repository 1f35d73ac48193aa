use Rattle.mz_store.proofs.Meeting.{old-ids-keep-trees, old-lists-keep-trees}
use Rattle.mz_store.proofs.laws.old_ids_keep_their_trees.Goals as goal

pub returns-clause-ids : goal.returns-clause-ids
returns-clause-ids c = old-ids-keep-trees

pub returns-clause-lists : goal.returns-clause-lists
returns-clause-lists c = old-lists-keep-trees
