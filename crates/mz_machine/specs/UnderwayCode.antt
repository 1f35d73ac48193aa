-- How a machine's value is stored as data.
use Rattle.std.specs.Prelude.{ℕ, zero, suc, ◌≡◌, Bool, List, refl}
use Rattle.std.specs.Coded.{Coded, code_by, coded×, coded_ℕ, coded_bool, coded_list}
use Rattle.mz_logic_theory.specs.Tree.{Tree}
use Rattle.mz_logic_theory.specs.Codes.{tree_code, binder_code}
use Rattle.mz_logic_theory.specs.declared.binder.Binder.{Binder}
use Rattle.mz_machine_theory.specs.Profile.{Item, expr, proof, obligation, conversion}
use Rattle.mz_machine_theory.specs.MachineState.{State}
use Rattle.mz_machine.specs.Steps.{Underway}
use Rattle.mz_layout_tables.specs.declared.rows_so_far.Rows.{Rows}

abbrev pub parts_of : Item Tree → ℕ × (Tree × Tree)
parts_of (expr e) = (0, (e, e))
parts_of (proof e) = (1, (e, e))
parts_of (obligation l r) = (2, (l, r))
parts_of (conversion l r) = (3, (l, r))

abbrev pub item_by : ℕ → Tree → Tree → Item Tree
item_by zero l r = expr l
item_by (suc zero) l r = proof l
item_by (suc (suc zero)) l r = obligation l r
item_by (suc (suc (suc n))) l r = conversion l r

abbrev pub item_from : ℕ × (Tree × Tree) → Item Tree
item_from p = item_by p.0 p.1.0 p.1.1

pub item_back : (x : Item Tree) → item_from (parts_of x) ≡ x
item_back (expr e) = refl
item_back (proof e) = refl
item_back (obligation l r) = refl
item_back (conversion l r) = refl

abbrev pub item_code : Coded (Item Tree)
item_code = code_by (ℕ × (Tree × Tree)) (coded× coded_ℕ (coded× tree_code tree_code)) parts_of item_from item_back

abbrev pub state_code : Coded (State Tree)
state_code = code_by (List Binder × (List (Item Tree) × (List (Item Tree) × List Tree))) (coded× (coded_list binder_code) (coded× (coded_list item_code) (coded× (coded_list item_code) (coded_list tree_code))))
    (λ s. (s.ctx, (s.heap, (s.stack, s.hyps)))) (λ p. record { ctx = p.0; heap = p.1.0; stack = p.1.1.0; hyps = p.1.1.1 }) (λ _. refl)

abbrev pub rows_code : Coded Rows
rows_code = code_by (ℕ × (ℕ × ℕ)) (coded× coded_ℕ (coded× coded_ℕ coded_ℕ)) (λ r. (r.sorts, (r.terms, r.thms))) (λ p. record { sorts = p.0; terms = p.1.0; thms = p.1.1 }) (λ _. refl)

abbrev pub underway_code : Coded Underway
underway_code = code_by (Bool × (List ℕ × (ℕ × (ℕ × (Rows × (State Tree × (Bool × ℕ))))))) (coded× coded_bool (coded× (coded_list coded_ℕ) (coded× coded_ℕ (coded× coded_ℕ (coded× rows_code (coded× state_code (coded× coded_bool coded_ℕ)))))))
    (λ u. (u.gaps, (u.file, (u.kind, (u.row, (u.before, (u.state, (u.sorry, u.nodes))))))))
    (λ p. record { gaps = p.0; file = p.1.0; kind = p.1.1.0; row = p.1.1.1.0; before = p.1.1.1.1.0; state = p.1.1.1.1.1.0; sorry = p.1.1.1.1.1.1.0; nodes = p.1.1.1.1.1.1.1 }) (λ _. refl)
