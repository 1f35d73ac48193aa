use Rattle.std.proofs.Common.{[], ◌∙◌, ap, refl}
use Rattle.std.specs.Prelude.{bytes_eq}
use Rattle.indexmap.specs.IndexSet.{insert_all as inserted}
use Rattle.mz_spec_variables.proofs.Inserted.{all-inserted}
use Rattle.mz_spec_variables.proofs.names.insert_all.Goals as goal

pub loop-name-init : goal.loop-name-init
loop-name-init c =
    ap (λ keys. inserted (λ a b. bytes_eq a.now b.now) keys c.args.names.now) c.requires.empty
    ∙ all-inserted (λ name. name.now) (λ a b. bytes_eq a.now b.now) (λ j k. refl) [] c.args.names.now c.requires.new
