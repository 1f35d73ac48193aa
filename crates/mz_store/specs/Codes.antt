-- How a store is stored as data.
use Rattle.std.specs.Prelude.{ℕ, Bool, true, false, ◌≡◌, List, refl}
use Rattle.std.specs.Coded.{Coded, code_by, coded×, coded_ℕ, coded_bool, coded_list}
use Rattle.mz_logic_theory.specs.Tree.{Tree}
use Rattle.mz_logic_theory.specs.Codes.{tree_code, binder_code}
use Rattle.mz_logic_theory.specs.declared.binder.Binder.{Binder}
use Rattle.mz_store.specs.Sharing.{Shared, Sharing}
use Rattle.mz_store.specs.declared.item.DepsMode.{DepsMode}
use Rattle.mz_store.specs.declared.item.DepsMode.TheVariants as of

abbrev pub is_all : DepsMode → Bool
is_all of.All = true
is_all of.Free = false

abbrev pub mode_from : Bool → DepsMode
mode_from true = of.All
mode_from false = of.Free

pub mode_back : (m : DepsMode) → mode_from (is_all m) ≡ m
mode_back of.All = refl
mode_back of.Free = refl

abbrev pub mode_code : Coded DepsMode
mode_code = code_by Bool coded_bool is_all mode_from mode_back

abbrev pub shared_code : Coded Shared
shared_code = code_by (Tree × (ℕ × ℕ)) (coded× tree_code (coded× coded_ℕ coded_ℕ)) (λ e. (e.tree, (e.sort, e.deps))) (λ p. record { tree = p.0; sort = p.1.0; deps = p.1.1 }) (λ _. refl)

abbrev pub sharing_code : Coded Sharing
sharing_code = code_by (List Binder × (DepsMode × List Shared)) (coded× (coded_list binder_code) (coded× mode_code (coded_list shared_code)))
    (λ s. (s.context, (s.mode, s.entries))) (λ p. record { context = p.0; mode = p.1.0; entries = p.1.1 }) (λ _. refl)
