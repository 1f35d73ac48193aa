-- A command that asks for more items than are written out, where obligations are still to come: its row refuses it.
use Rattle.std.proofs.Common.{◌≡◌, ◌≤◌, ◌<◌, ◌+◌, ◌-◌, inl, inr, ℕ, zero, suc, Bool, true, false, List, [], ◌∷◌, ◌++◌, length, drop, Option, Some, None, Err, slice_get, refl, sym, ap, subst, ◌∙◌, arith, length-append, le-leb, if◌then◌else◌}
use Rattle.std.specs.Prelude.{reverse, map, ◌==◌, nat_lt}
use Rattle.std.proofs.lemmas.Bool.{ltb-false, ltb-true}
use Rattle.std.proofs.lemmas.List.{reverse-append, take-append-drop}
use Rattle.mz_base.proofs.Offered.{slice_get-append, slice_get-last}
use Rattle.mz_cmd.specs.declared.rule.K.{K}
use Rattle.mz_cmd.specs.declared.rule.K.TheVariants as k
use Rattle.mz_cmd.specs.declared.command.Cmd.{Cmd}
use Rattle.mz_cmd.specs.declared.code.ProofCode.{ProofCode}
use Rattle.mz_cmd.specs.declared.code.ProofCode.TheVariants as code
use Rattle.mz_cmd.specs.Codes.{proof_code}
use Rattle.mz_logic_theory.specs.Tree.{Tree}
use Rattle.mz_machine_theory.specs.Spells.{SpelledTerm, SpelledThm}
use Rattle.mz_machine_theory.specs.Profile.{Profile, Item, plain, strict, expr, proof, obligation, conversion}
use Rattle.mz_machine_theory.specs.MachineState.{RowsBefore, State, Kind}
use Rattle.mz_machine_theory.specs.Premises.{pop_operands}
use Rattle.mz_machine_theory.specs.ProofMachine.{proof_step, built, citation}
use Rattle.mz_machine_theory.specs.Bodies.{BodyCommand, ends, proves, stands_in, if_allowed, body_command, row_steps}
use Rattle.mz_machine_theory.proofs.Offered.{command-plain}
use Rattle.mz_machine.specs.Steps.{row_by, steps_by, TakesNone}
use Rattle.mz_machine.specs.OpenEquations.{EndsBarred, many_of_term, many_of_thm, asked_by, Expressions, to_come, above, below, whole_stack, IsOpen, AllOpen, AreOpen, AreSettled, many_to_come, asks, AsksNoMore, IsLack, IsLacking, IsNoLack}
use Rattle.mz_machine.specs.declared.equations.Equation.{Equation}
use Rattle.mz_machine.proofs.Barred.{too-many}
use Rattle.mz_machine.proofs.BarredRows.{stacked}
use Rattle.mz_machine.proofs.CitationRows.{few, no-target, no-operands, thm-stopped, thm-save-stopped, thm-stopped-steps}
use Rattle.mz_machine.proofs.Converting.{true-false}
use Rattle.mz_machine.proofs.GapRows.{stands-here}
use Rattle.mz_machine.proofs.Machines.{same-command, some-command}
use Rattle.mz_machine.proofs.OpenStacks.{sides-add}
use Rattle.mz_machine.proofs.TakenOperands.{too-few, pop-enough}
use Rattle.mz_machine.proofs.TermRows.{built-few, term-of, term-save-of}
use Rattle.mz_machine.proofs.WholeRows.{asks-within, parted}

-- ---- how many there are

module _ {T : Type 0} (s : Expressions T) where
  pub whole-many : (es : List Equation) (xs : List (Item T)) → AreOpen s es xs → length (whole_stack s es xs) ≡ length xs + many_to_come s es
  whole-many [] xs stand = omega arith
  whole-many (e ∷ es) xs (is, le, barred, rest) =
      let n : ℕ = length xs - e.height in
      let low : length (whole_stack s es (below xs e.height)) ≡ length (below xs e.height) + many_to_come s es = whole-many es (below xs e.height) rest in
      let come = sides-add (drop e.next (s.operands e.left)) (drop e.next (s.operands e.right)) (whole_stack s es (below xs e.height)) in
      omega (arith, low, come, length-append (above xs e.height) (to_come s e (whole_stack s es (below xs e.height))), ap length (take-append-drop n xs), length-append (above xs e.height) (below xs e.height))

  many-append : (es fs : List Equation) → many_to_come s (es ++ fs) ≡ many_to_come s es + many_to_come s fs
  many-append [] fs = omega arith
  many-append (e ∷ es) fs = let rest : many_to_come s (es ++ fs) ≡ many_to_come s es + many_to_come s fs = many-append es fs in omega (arith, rest)

  many-reverse : (es : List Equation) → many_to_come s (reverse es) ≡ many_to_come s es
  many-reverse [] = refl
  many-reverse (e ∷ es) =
      let rest : many_to_come s (reverse es) ≡ many_to_come s es = many-reverse es in
      let both : many_to_come s (reverse es ++ e ∷ []) ≡ many_to_come s (reverse es) + many_to_come s (e ∷ []) = many-append (reverse es) (e ∷ []) in
      ap (many_to_come s) (reverse-append (e ∷ []) es) ∙ omega (arith, rest, both)

  -- ---- each is open, in either order

  all-open : (es : List Equation) (xs : List (Item T)) → AreOpen s es xs → AllOpen s es
  all-open [] xs stand i f at = absurd cc
  all-open (e ∷ es) xs (is, le, barred, rest) zero f at = let same : e ≡ f = cc in subst (IsOpen s) same is
  all-open (e ∷ es) xs (is, le, barred, rest) (suc i) f at = all-open es (below xs e.height) rest i f at

  pub open-back : (es : List Equation) → AllOpen s (reverse es) → AllOpen s es
  open-back [] all i f at = absurd cc
  open-back (e ∷ es) all i f at = go (open-back es) (subst (AllOpen s) (reverse-append (e ∷ []) es) all) i f at
    where
      go : (AllOpen s (reverse es) → AllOpen s es) → AllOpen s (reverse es ++ e ∷ []) → AllOpen s (e ∷ es)
      go back both zero f at = let same : e ≡ f = cc in subst (IsOpen s) same (both (length (reverse es)) e (slice_get-last (reverse es) e))
      go back both (suc i) f at = back (λ j g there. both j g (slice_get-append (reverse es) (e ∷ []) j g there)) i f at

  pub open-each : (es : List Equation) (xs : List (Item T)) → AreOpen s (reverse es) xs → AllOpen s es
  open-each es xs stand = open-back es (all-open (reverse es) xs stand)

-- ---- rows that ask for too much

module _ (P : Profile) (tables : RowsBefore) (st : State P.T) where
  built-stopped : (at n : ℕ) (ws : List (Item P.T)) (rule : K) → 0 < many_of_term (slice_get tables.terms n) → pop_operands (many_of_term (slice_get tables.terms n)) ws ≡ Err rule
      → built P tables at n (stacked st ws) ≡ Err rule
  built-stopped at n ws rule some stops = go (slice_get tables.terms n) refl
    where
      go : (o : Option SpelledTerm) → slice_get tables.terms n ≡ o → built P tables at n (stacked st ws) ≡ Err rule
      go None is = absurd (omega (arith, some, ap many_of_term is))
      go (Some row) is = built-few P tables at n (stacked st ws) row is rule (ap (λ (o : Option SpelledTerm). pop_operands (many_of_term o) ws) (sym is) ∙ stops)

  -- a command that asks for items is one of these four
  refused : (at : ℕ) (c : ProofCode) (n : ℕ) (ws : List (Item P.T)) (rule : K) → 0 < asked_by tables c n → pop_operands (asked_by tables c n) ws ≡ Err rule
      → (many_of_thm (slice_get tables.thms n) ≡ asked_by tables c n → citation P tables n (stacked st ws) ≡ Err rule)
      → (proof_step P tables at c n (stacked st ws) ≡ Err rule) × (row_steps P tables c n (stacked st ws) ≡ 0)
  refused at code.Term n ws rule some stops cites = (term-of P tables at n (stacked st ws) (Err rule) (built-stopped at n ws rule some stops), refl)
  refused at code.TermSave n ws rule some stops cites = (term-save-of P tables at n (stacked st ws) (Err rule) (built-stopped at n ws rule some stops), refl)
  refused at code.Thm n ws rule some stops cites = (thm-stopped P tables at n (stacked st ws) rule (cites refl), thm-stopped-steps P tables n (stacked st ws) rule (cites refl))
  refused at code.ThmSave n ws rule some stops cites = (thm-save-stopped P tables at n (stacked st ws) rule (cites refl), thm-stopped-steps P tables n (stacked st ws) rule (cites refl))
  refused at code.Ref n ws rule some stops cites = absurd (omega (arith, some))
  refused at code.ConvRef n ws rule some stops cites = absurd (omega (arith, some))
  refused at code.Dummy n ws rule some stops cites = absurd (omega (arith, some))
  refused at code.Hyp n ws rule some stops cites = absurd (omega (arith, some))
  refused at code.Conv n ws rule some stops cites = absurd (omega (arith, some))
  refused at code.Refl n ws rule some stops cites = absurd (omega (arith, some))
  refused at code.Symm n ws rule some stops cites = absurd (omega (arith, some))
  refused at code.Cong n ws rule some stops cites = absurd (omega (arith, some))
  refused at code.Unfold n ws rule some stops cites = absurd (omega (arith, some))
  refused at code.ConvCut n ws rule some stops cites = absurd (omega (arith, some))
  refused at code.ConvSave n ws rule some stops cites = absurd (omega (arith, some))
  refused at code.Save n ws rule some stops cites = absurd (omega (arith, some))
  refused at code.Sorry n ws rule some stops cites = absurd (omega (arith, some))

  -- ---- there aren't so many

  operands-few : (n : ℕ) (ws : List (Item P.T)) → length ws < n → pop_operands n ws ≡ Err k.Underflow
  operands-few n ws less = rw (too-few n (length ws) less) refl

  citation-few : (n : ℕ) (ws : List (Item P.T)) → length ws < many_of_thm (slice_get tables.thms n) → citation P tables n (stacked st ws) ≡ Err k.Underflow
  citation-few n ws less = go (slice_get tables.thms n) refl
    where
      go : (o : Option SpelledThm) → slice_get tables.thms n ≡ o → citation P tables n (stacked st ws) ≡ Err k.Underflow
      go None is = absurd (omega (arith, less, ap many_of_thm is))
      go (Some row) is = few P (map P.tree) (λ es. refl) tables n (stacked st ws) row is (too-few (suc (length row.params)) (length ws) (omega (arith, less, ap many_of_thm is)))

  few-row : (at : ℕ) (c : ProofCode) (n : ℕ) (ws : List (Item P.T)) → length ws < asked_by tables c n
      → (proof_step P tables at c n (stacked st ws) ≡ Err k.Underflow) × (row_steps P tables c n (stacked st ws) ≡ 0)
  few-row at c n ws less =
      refused at c n ws k.Underflow (omega (arith, less)) (operands-few (asked_by tables c n) ws less) λ are. citation-few n ws (omega (arith, less, are))

  -- ---- one of so many is a barrier

  module _ (x : Item P.T) (xs low : List (Item P.T)) (barred : EndsBarred x xs) where
    operands-barred : (n : ℕ) → n ≤ length (x ∷ xs ++ low) → length (x ∷ xs) ≤ n → pop_operands n (x ∷ xs ++ low) ≡ Err k.Kind
    operands-barred n enough more = pop-enough n (x ∷ xs ++ low) (Err k.Kind) enough (too-many n x xs low barred [] more)

  citation-barred : (n : ℕ) (x : Item P.T) (xs low : List (Item P.T)) → EndsBarred x xs → many_of_thm (slice_get tables.thms n) ≤ length (x ∷ xs ++ low) → length (x ∷ xs) < many_of_thm (slice_get tables.thms n)
      → citation P tables n (stacked st (x ∷ xs ++ low)) ≡ Err k.Kind
  citation-barred n x xs low barred enough more = go (slice_get tables.thms n) refl
    where
      top : (row : SpelledThm) → slice_get tables.thms n ≡ Some row → (y : Item P.T) (ys : List (Item P.T)) → EndsBarred y ys → suc (length row.params) ≤ length (y ∷ ys ++ low) → length (y ∷ ys) ≤ length row.params
          → citation P tables n (stacked st (y ∷ ys ++ low)) ≡ Err k.Kind
      top row is (expr e) [] b many less = absurd b
      top row is (expr e) (y ∷ ys) b many less =
          no-operands P (map P.tree) (λ es. refl) tables n (stacked st (expr e ∷ y ∷ ys ++ low)) row is (le-leb (suc (length row.params)) (length (expr e ∷ y ∷ ys ++ low)) many) e (y ∷ ys ++ low) refl k.Kind
          (operands-barred y ys low b (length row.params) (omega (arith, many)) (omega (arith, less)))
      top row is (proof e) ys b many less = no-target P (map P.tree) (λ es. refl) tables n (stacked st (proof e ∷ ys ++ low)) row is (le-leb (suc (length row.params)) (length (proof e ∷ ys ++ low)) many) k.Kind refl
      top row is (obligation l r) ys b many less = no-target P (map P.tree) (λ es. refl) tables n (stacked st (obligation l r ∷ ys ++ low)) row is (le-leb (suc (length row.params)) (length (obligation l r ∷ ys ++ low)) many) k.Kind refl
      top row is (conversion l r) ys b many less = no-target P (map P.tree) (λ es. refl) tables n (stacked st (conversion l r ∷ ys ++ low)) row is (le-leb (suc (length row.params)) (length (conversion l r ∷ ys ++ low)) many) k.Kind refl

      go : (o : Option SpelledThm) → slice_get tables.thms n ≡ o → citation P tables n (stacked st (x ∷ xs ++ low)) ≡ Err k.Kind
      go None is = absurd (omega (arith, more, ap many_of_thm is))
      go (Some row) is = let many = ap many_of_thm is in top row is x xs barred (omega (arith, enough, many)) (omega (arith, more, many))

  barred-row : (at : ℕ) (c : ProofCode) (n : ℕ) (x : Item P.T) (xs low : List (Item P.T)) → EndsBarred x xs → asked_by tables c n ≤ length (x ∷ xs ++ low) → length (x ∷ xs) < asked_by tables c n
      → (proof_step P tables at c n (stacked st (x ∷ xs ++ low)) ≡ Err k.Kind) × (row_steps P tables c n (stacked st (x ∷ xs ++ low)) ≡ 0)
  barred-row at c n x xs low barred enough more =
      refused at c n (x ∷ xs ++ low) k.Kind (omega (arith, more)) (operands-barred x xs low barred (asked_by tables c n) enough (omega (arith, more)))
      λ are. citation-barred n x xs low barred (omega (arith, enough, are)) (omega (arith, more, are))

  -- ---- on the whole stack

  module _ (s : Expressions P.T) where
    abbrev pub Refuses : (at : ℕ) (c : ProofCode) (n : ℕ) → List (Item P.T) → K → Type 0
    Refuses at c n ws rule = (proof_step P tables at c n (stacked st ws) ≡ Err rule) × (row_steps P tables c n (stacked st ws) ≡ 0)

    lack-row : (es : List Equation) (xs : List (Item P.T)) → AreSettled s es xs → (at : ℕ) (c : ProofCode) (n : ℕ) (rule : K) → IsLacking (asked_by tables c n) (length xs) (many_to_come s es) rule
        → Refuses at c n (whole_stack s es xs) rule
    lack-row es xs settled at c n rule (more, inr (is, less)) =
        subst (Refuses at c n (whole_stack s es xs)) (sym is) (few-row at c n (whole_stack s es xs) (omega (arith, less, whole-many s es xs settled.0)))
    lack-row [] xs settled at c n rule (more, inl (is, enough)) = absurd (omega (arith, more, enough))
    lack-row (e ∷ es) xs settled at c n rule (more, inl (is, enough)) =
        let (x, up, barred, top, all) = parted P tables st s e es xs settled in
        let low = to_come s e (whole_stack s es (below xs e.height)) in
        let whole : whole_stack s (e ∷ es) xs ≡ x ∷ up ++ low = ap (λ ys. ys ++ low) top in
        let many : asked_by tables c n ≤ length (x ∷ up ++ low) = omega (arith, enough, whole-many s (e ∷ es) xs settled.0, ap (λ (ys : List (Item P.T)). length ys) whole) in
        let few : length (x ∷ up) < asked_by tables c n = omega (arith, more, ap (λ (ys : List (Item P.T)). length ys) all, length-append up (below xs e.height)) in
        subst (λ ws. Refuses at c n ws rule) (sym whole) (subst (Refuses at c n (x ∷ up ++ low)) (sym is) (barred-row at c n x up low barred many few))

    -- the equations in the code's order
    pub lacking : (es : List Equation) (xs : List (Item P.T)) → AreSettled s (reverse es) xs → (at : ℕ) (c : ProofCode) (n written : ℕ) (rule : K) → length xs ≡ written → IsLacking (asked_by tables c n) written (many_to_come s es) rule
        → Refuses at c n (whole_stack s (reverse es) xs) rule
    lacking es xs settled at c n written rule many told =
        lack-row (reverse es) xs settled at c n rule
        (subst (λ m. IsLacking (asked_by tables c n) (length xs) m rule) (sym (many-reverse s es)) (subst (λ w. IsLacking (asked_by tables c n) w (many_to_come s es) rule) (sym many) told))

-- ---- a command of a body

same-operand : (c d : ProofCode) (v w : ℕ) → proves c v ≡ proves d w → v ≡ w
same-operand c d v w e = cc

-- its operand is the one that was read
its-operand : (kind : Kind) (byte value : ℕ) (c : ProofCode) (n : ℕ) → body_command strict kind byte value ≡ Some (proves c n) → value ≡ n
its-operand kind byte value c n h = first (byte == 0x00) h
  where
    third : (d : ProofCode) (b : Bool) → (if b then Some (proves d value) else None) ≡ Some (proves c n) → value ≡ n
    third d true e = same-operand d c value n (some-command (proves d value) (proves c n) e)
    third d false e = absurd cc

    second : (o : Option ProofCode) → if_allowed strict kind value o ≡ Some (proves c n) → value ≡ n
    second None e = absurd cc
    second (Some d) e = third d (stands_in strict kind d) e

    first : (b : Bool) → (if b then Some ends else if_allowed strict kind value (proof_code byte)) ≡ Some (proves c n) → value ≡ n
    first true e = absurd cc
    first false e = second (proof_code byte) e

module _ (gaps : Bool) (tables : RowsBefore) (st : State Tree) (kind : Kind) (cmd : Cmd) (s : Expressions Tree) (es : List Equation) (xs : List (Item Tree)) (written : ℕ) (many : length xs ≡ written) where
  -- it is refused, and counted once
  pub lack-gives : AreSettled s (reverse es) xs → (rule : K) → IsLack tables kind cmd s written es rule → (at : ℕ)
      → (row_by gaps tables at (stacked st (whole_stack s (reverse es) xs)) (body_command (plain gaps) kind cmd.code cmd.value) ≡ Err rule)
      × (steps_by gaps tables (stacked st (whole_stack s (reverse es) xs)) (body_command (plain gaps) kind cmd.code cmd.value) ≡ 1)
  lack-gives settled rule lack at =
      let stands = stands-here gaps tables kind cmd.code cmd.value lack.code lack.here in
      let refuses = lacking (plain gaps) tables st s es xs settled at lack.code cmd.value written rule many lack.lacking in (
        ap (row_by gaps tables at (stacked st (whole_stack s (reverse es) xs))) stands ∙ refuses.0,
        ap (steps_by gaps tables (stacked st (whole_stack s (reverse es) xs))) stands ∙ ap suc refuses.1,
      )

  -- or it asks for no more than is written out
  pub no-lack-asks : IsNoLack tables kind cmd written es → (c : ProofCode) (n : ℕ) → body_command (plain gaps) kind cmd.code cmd.value ≡ Some (proves c n)
      → AsksNoMore (reverse es) (asked_by tables c n) (length xs)
  no-lack-asks none c n is = go es none
    where
      here : body_command strict kind cmd.code cmd.value ≡ Some (proves c n)
      here = sym (command-plain gaps kind cmd.code cmd.value) ∙ is

      value-is : cmd.value ≡ n
      value-is = its-operand kind cmd.code cmd.value c n here

      go : (fs : List Equation) → IsNoLack tables kind cmd written fs → AsksNoMore (reverse fs) (asked_by tables c n) (length xs)
      go [] none = tt
      go (f ∷ fs) none =
          let le : asked_by tables c cmd.value ≤ written = none c (here ∙ ap (λ v. Some (proves c v)) (sym value-is)) in
          asks-within (reverse (f ∷ fs)) (asked_by tables c n) (length xs) (omega (arith, le, many, ap (asked_by tables c) value-is))

-- what holds of each command that stands there
pub no-lack-by : (tables : RowsBefore) (kind : Kind) (cmd : Cmd) (written : ℕ) (es : List Equation) → ((c : ProofCode) → asks kind cmd c → asked_by tables c cmd.value ≤ written) → IsNoLack tables kind cmd written es
no-lack-by tables kind cmd written [] all = tt
no-lack-by tables kind cmd written (e ∷ es) all = all

pub no-lack-empty : (tables : RowsBefore) (kind : Kind) (cmd : Cmd) (written : ℕ) (es : List Equation) → length es ≡ 0 → IsNoLack tables kind cmd written es
no-lack-empty tables kind cmd written [] none = tt
no-lack-empty tables kind cmd written (e ∷ es) none = absurd (omega (arith, none))

pub not-enough : (asked written many : ℕ) (b : Bool) → b ≡ false → (asked - written ≤ many → b ≡ true) → written + many < asked
not-enough asked written many b no_ enough = go (nat_lt (written + many) asked) refl
  where
    go : (t : Bool) → nat_lt (written + many) asked ≡ t → written + many < asked
    go true is = ltb-true (written + many) asked is
    go false is = absurd (let less : asked - written ≤ many = omega (arith, ltb-false (written + many) asked is) in true-false (sym (enough less) ∙ no_))

pub asks-one : (kind : Kind) (cmd : Cmd) (c d : ProofCode) → asks kind cmd c → asks kind cmd d → c ≡ d
asks-one kind cmd c d one other = same-command c d cmd.value cmd.value (some-command (proves c cmd.value) (proves d cmd.value) (sym one ∙ other))

pub asks-none : (kind : Kind) (cmd : Cmd) → body_command strict kind cmd.code cmd.value ≡ None → (c : ProofCode) → asks kind cmd c → ⊥
asks-none kind cmd none c one = let bad : None ≡ Some (proves c cmd.value) = sym none ∙ one in cc

-- ---- what takes no memory on one stack takes none on another

pub takes-same : (st : State Tree) (xs ys : List (Item Tree)) (u : Option BodyCommand) → TakesNone (stacked st xs) u → TakesNone (stacked st ys) u
takes-same st xs ys None h = tt
takes-same st xs ys (Some ends) h = tt
takes-same st xs ys (Some (proves code.Term n)) h = h
takes-same st xs ys (Some (proves code.TermSave n)) h = h
takes-same st xs ys (Some (proves code.Ref n)) h = h
takes-same st xs ys (Some (proves code.ConvRef n)) h = h
takes-same st xs ys (Some (proves code.Dummy n)) h = h
takes-same st xs ys (Some (proves code.Thm n)) h = h
takes-same st xs ys (Some (proves code.ThmSave n)) h = h
takes-same st xs ys (Some (proves code.Hyp n)) h = h
takes-same st xs ys (Some (proves code.Conv n)) h = h
takes-same st xs ys (Some (proves code.Refl n)) h = h
takes-same st xs ys (Some (proves code.Symm n)) h = h
takes-same st xs ys (Some (proves code.Cong n)) h = h
takes-same st xs ys (Some (proves code.Unfold n)) h = h
takes-same st xs ys (Some (proves code.ConvCut n)) h = h
takes-same st xs ys (Some (proves code.ConvSave n)) h = h
takes-same st xs ys (Some (proves code.Save n)) h = h
takes-same st xs ys (Some (proves code.Sorry n)) h = h
