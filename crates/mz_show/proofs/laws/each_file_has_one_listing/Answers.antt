use Rattle.mz_show.proofs.OneListing.{listed-some, text-unique, refusal-unique, listing-excludes}
use Rattle.mz_show.proofs.laws.each_file_has_one_listing.Goals as goal

pub returns-clause-some : goal.returns-clause-some
returns-clause-some c = listed-some

pub returns-clause-one_text : goal.returns-clause-one_text
returns-clause-one_text c = text-unique

pub returns-clause-one_refusal : goal.returns-clause-one_refusal
returns-clause-one_refusal c = refusal-unique

pub returns-clause-not_both : goal.returns-clause-not_both
returns-clause-not_both c = listing-excludes
