-- What a machine keeps, each expression taken to one of another machine (the .mmb format, its two machines; the profiles
-- are this project's own).
use Rattle.std.specs.Prelude.{List, map}
use Rattle.mz_machine_theory.specs.Profile.{Item, expr, proof, obligation, conversion}
use Rattle.mz_machine_theory.specs.UnifyMachine.{Matching}
use Rattle.mz_machine_theory.specs.MachineState.{State}

abbrev pub item_onto : {A B : Type 0} → (A → B) → Item A → Item B
item_onto f (expr e) = expr (f e)
item_onto f (proof e) = proof (f e)
item_onto f (obligation l r) = obligation (f l) (f r)
item_onto f (conversion l r) = conversion (f l) (f r)

abbrev pub items_onto : {A B : Type 0} → (A → B) → List (Item A) → List (Item B)
items_onto f xs = map (item_onto f) xs

abbrev pub state_onto : {A B : Type 0} → (A → B) → State A → State B
state_onto f st = record { ctx = st.ctx; heap = items_onto f st.heap; stack = items_onto f st.stack; hyps = map f st.hyps }

abbrev pub matching_onto : {A B : Type 0} → (A → B) → Matching A → Matching B
matching_onto f m = record { mode = m.mode; stream = m.stream; operands = map f m.operands; target = f m.target; items = items_onto f m.items }
