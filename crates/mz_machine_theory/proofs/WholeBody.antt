-- The fact is kept over a whole body, and at its END the one item that is left holds outright.
use Rattle.std.proofs.Common.{◌≡◌, ℕ, zero, suc, ◌+◌, ◌<◌, Bool, true, false, cond, eqb, List, [], ◌∷◌, length, drop, map, Option, Some, None, Result, Ok, Err, refl, sym, ap, subst, ◌∙◌, ◌⊎◌, inl, inr, arith, append-nil}
use Rattle.std.specs.Prelude.{slice_get}
use Rattle.mz_cmd.specs.declared.rule.K.TheVariants as k
use Rattle.mz_cmd.specs.declared.command.Cmd.{Cmd}
use Rattle.mz_cmd.specs.declared.command.CmdFault.{CmdFault}
use Rattle.mz_cmd.specs.declared.code.ProofCode.{ProofCode}
use Rattle.mz_cmd.specs.declared.code.ProofCode.TheVariants as code
use Rattle.mz_cmd.specs.Codes.{proof_code}
use Rattle.mz_cmd.specs.Reading.{first_command}
use Rattle.mz_logic_theory.specs.Tree.{Tree}
use Rattle.mz_logic_theory.specs.Declaration.{Declaration, signatures, assertions}
use Rattle.mz_logic_theory.specs.Derivations.{Uses}
use Rattle.mz_logic_theory.specs.declared.binder.Binder.{Binder}
use Rattle.mz_machine_theory.specs.Steps.{◌>>◌, need, at_place, Turn, over, goes_on, follow}
use Rattle.mz_machine_theory.specs.Profile.{plain, strict, expr}
use Rattle.mz_machine_theory.specs.Sorted.{ItemsSorted}
use Rattle.mz_machine_theory.specs.UnifyMachine.{is_empty}
use Rattle.mz_machine_theory.proofs.Inverting.{from_bind, from_need, place-ok, taken, taken-is}
use Rattle.mz_machine_theory.specs.MachineState.{RowsBefore, State, Heading, Declares}
use Rattle.mz_machine_theory.specs.ProofMachine.{proof_step, proof_end, ends_with, matched_by, own_variables}
use Rattle.mz_machine_theory.specs.Bodies.{BodyCommand, ends, proves, stands_in, if_allowed, body_command, body_turn, body_turn_by, body_from, body_run, body_start}
use Rattle.mz_machine_theory.specs.Invariant.{HeapHolds, Fact, Keeps}
use Rattle.mz_machine_theory.specs.Sound.{IsCitation, CitesWithin, GapsWithin, used_by}
use Rattle.mz_machine_theory.proofs.PlainRows.{end-plain}
use Rattle.mz_machine_theory.proofs.RowsKeep.{keeps}

-- ---- commands

allowed-is : (gaps : Bool) (h : Heading) (value : ℕ) (o : Option ProofCode) (c : ProofCode) (n : ℕ) → if_allowed (plain gaps) h.kind value o ≡ Some (proves c n) → (o ≡ Some c) × (value ≡ n)
allowed-is gaps h value None c n e = absurd cc
allowed-is gaps h value (Some d) c n e = go (stands_in (plain gaps) h.kind d) e
  where
    go : (b : Bool) → cond b (Some (proves d value)) None ≡ Some (proves c n) → (Some d ≡ Some c) × (value ≡ n)
    go true t = let both : proves d value ≡ proves c n = cc in (cc, cc)
    go false t = absurd cc

command-is : (gaps : Bool) (h : Heading) (byte value : ℕ) (c : ProofCode) (n : ℕ) → body_command (plain gaps) h.kind byte value ≡ Some (proves c n) → (proof_code byte ≡ Some c) × (value ≡ n)
command-is gaps h byte value c n e = go (eqb byte 0x00) e
  where
    go : (b : Bool) → cond b (Some ends) (if_allowed (plain gaps) h.kind value (proof_code byte)) ≡ Some (proves c n) → (proof_code byte ≡ Some c) × (value ≡ n)
    go true t = absurd cc
    go false t = allowed-is gaps h value (proof_code byte) c n t

citing : (c : ProofCode) (b : Cmd) → proof_code b.code ≡ Some c → (c ≡ code.Thm) ⊎ (c ≡ code.ThmSave) → IsCitation b b.value
citing c b is (inl thm) = (inl (is ∙ ap (λ (z : ProofCode). Some z) thm), refl)
citing c b is (inr save) = (inr (is ∙ ap (λ (z : ProofCode). Some z) save), refl)

-- ---- what a turn did

pub from_follow : {S F G : Type 0} (r : Result (Turn S) F) (rest : ℕ → S → Result S F) (y : S) → follow r rest ≡ Ok y
    → ((s : S) → r ≡ Ok (over s) → s ≡ y → G) → ((len : ℕ) (s : S) → r ≡ Ok (goes_on len s) → rest len s ≡ Ok y → G) → G
from_follow (Err f) rest y e ended went = absurd cc
from_follow (Ok (over s)) rest y e ended went = ended s refl cc
from_follow (Ok (goes_on len s)) rest y e ended went = went len s refl e

module _ (gaps : Bool) (tables : RowsBefore) (h : Heading) where
  proof_end-is : (st s : State Tree) → proof_end (plain gaps) tables h st ≡ Ok s → st ≡ s
  unfolding proof_end
  proof_end-is st s done =
      from_bind (ends_with (plain gaps) tables h st) _ s done λ m _ e1.
      from_bind (matched_by (plain gaps) tables st.ctx m) _ s e1 λ u _ e2. taken-is st s e2

  -- what a command that goes on is, and the row that ran
  abbrev Went : ℕ → List ℕ → ℕ → State Tree → State Tree → Type 0
  Went at bytes len st s = (b : Cmd) × (c : ProofCode) × (first_command bytes ≡ Ok b) × (b.len ≡ len) × (proof_code b.code ≡ Some c) × (proof_step (plain gaps) tables at c b.value st ≡ Ok s)

  turn-went : (at len len' : ℕ) (rest : List ℕ) (st s : State Tree) (o : Option BodyCommand)
      → body_turn_by (plain gaps) tables h at len rest st o ≡ Ok (goes_on len' s) → (c : ProofCode) × (n : ℕ) × (o ≡ Some (proves c n)) × (len ≡ len') × (proof_step (plain gaps) tables at c n st ≡ Ok s)
  turn-went at len len' rest st s None e = absurd cc
  turn-went at len len' rest st s (Some ends) e =
      from_bind (need (is_empty rest) k.StatementLength >> proof_end (plain gaps) tables h st) _ (goes_on len' s) e λ z done e1. absurd cc
  turn-went at len len' rest st s (Some (proves c n)) e =
      from_bind (proof_step (plain gaps) tables at c n st) _ (goes_on len' s) e λ z row e1.
      (c, n, refl, cc, row ∙ cc)

  turn-ended : (at len : ℕ) (rest : List ℕ) (st s : State Tree) (o : Option BodyCommand)
      → body_turn_by (plain gaps) tables h at len rest st o ≡ Ok (over s) → proof_end (plain gaps) tables h st ≡ Ok s
  turn-ended at len rest st s None e = absurd cc
  turn-ended at len rest st s (Some ends) e =
      from_bind (need (is_empty rest) k.StatementLength >> proof_end (plain gaps) tables h st) _ (over s) e λ z both e1.
      from_need (is_empty rest) k.StatementLength _ z both λ p done. done ∙ cc
  turn-ended at len rest st s (Some (proves c n)) e =
      from_bind (proof_step (plain gaps) tables at c n st) _ (over s) e λ z row e1. absurd cc

  went : (at len : ℕ) (bytes : List ℕ) (st s : State Tree) (r : Result Cmd CmdFault) → first_command bytes ≡ r
      → body_turn (plain gaps) tables h at bytes st r ≡ Ok (goes_on len s) → Went at bytes len st s
  went at len bytes st s (Err f) read e = absurd cc
  went at len bytes st s (Ok b) read e =
      let (c, n, o-is, len-is, row) = turn-went at b.len len (drop b.len bytes) st s (body_command (plain gaps) h.kind b.code b.value) e in
      let (byte, same) = command-is gaps h b.code b.value c n o-is in
      (b, c, read, len-is, byte, subst (λ (z : ℕ). proof_step (plain gaps) tables at c z st ≡ Ok s) (sym same) row)

  ended : (at : ℕ) (bytes : List ℕ) (st s : State Tree) (r : Result Cmd CmdFault)
      → body_turn (plain gaps) tables h at bytes st r ≡ Ok (over s) → proof_end (plain gaps) tables h st ≡ Ok s
  ended at bytes st s (Err f) e = absurd cc
  ended at bytes st s (Ok b) e = turn-ended at b.len (drop b.len bytes) st s (body_command (plain gaps) h.kind b.code b.value) e

  -- ---- the whole body

  module _ (P : Uses) (env : List Declaration) (declares : Declares tables env) where
    -- from a state to the last one: the fact is kept, and the last one ends the statement
    abbrev pub Ends : List Binder → State Tree → State Tree → Type 0
    Ends full st last = Keeps P env h.params full st last × (proof_end (plain gaps) tables h last ≡ Ok last)

    then-step : (full : List Binder) (a b c : State Tree) → Keeps P env h.params full a b → Keeps P env h.params full b c → Keeps P env h.params full a c
    then-step full a b c p q front = let (front-b, keep-c) = q front in let (front-a, keep-b) = p front-b in (front-a, λ fact. keep-c (keep-b fact))

    body-keeps : (full : List Binder) (n at : ℕ) (bytes : List ℕ) (st last : State Tree) → ((T : ℕ) → CitesWithin n bytes T → T < length (assertions env) → P.cites T) → (GapsWithin n bytes → gaps ≡ true → P.gaps)
        → body_from (plain gaps) tables h n at bytes st ≡ Ok last → Ends full st last
    unfolding body_from
    body-keeps full zero at bytes st last all-p all-g e = absurd cc
    body-keeps full (suc n) at bytes st last all-p all-g e =
        from_follow (at_place at (body_turn (plain gaps) tables h at bytes st (first_command bytes))) _ last e
        (λ s turn s-is.
        let end-done : proof_end (plain gaps) tables h st ≡ Ok s = ended at bytes st s (first_command bytes) (place-ok at (body_turn (plain gaps) tables h at bytes st (first_command bytes)) (over s) turn) in
        let same : st ≡ last = proof_end-is st s end-done ∙ s-is in
        subst (λ (z : State Tree). Ends full st z) same ((λ front. (front, λ fact. fact)), end-done ∙ ap taken (sym (proof_end-is st s end-done))))
        (λ len s turn rest.
        let (b, c, read, len-is, byte, row) = went at len bytes st s (first_command bytes) refl (place-ok at (body_turn (plain gaps) tables h at bytes st (first_command bytes)) (goes_on len s) turn) in
        let later-p : (T : ℕ) → CitesWithin n (drop len bytes) T → T < length (assertions env) → P.cites T =
        λ T cites. all-p T (b, read, inr (subst (λ (z : ℕ). CitesWithin n (drop z bytes) T) (sym len-is) cites)) in
        let later-g : GapsWithin n (drop len bytes) → gaps ≡ true → P.gaps = λ within. all-g (b, read, inr (subst (λ (z : ℕ). GapsWithin n (drop z bytes)) (sym len-is) within)) in
        let (later, done) = body-keeps full n (at + len) (drop len bytes) s last later-p later-g rest in (
          then-step full st s last (keeps P tables env declares h.params full gaps at c b.value st s
              ((λ is-thm. all-p b.value (b, read, inl (citing c b byte is-thm))), λ is-sorry. all-g (b, read, inl (byte ∙ ap (λ (z : ProofCode). Some z) is-sorry))) row) later,
          done,
        ))

    -- ---- the start

    start-sorted : (ctx : List Binder) (i : ℕ) (ps : List Binder) → ((j : ℕ) (b : Binder) → slice_get ps j ≡ Some b → slice_get ctx (i + j) ≡ Some b) → ItemsSorted (signatures env) ctx (map expr (own_variables (plain gaps) i ps))
    start-sorted ctx i [] at = tt
    start-sorted ctx i (p ∷ ps) at = ((p.sort, (p, subst (λ (z : ℕ). slice_get ctx z ≡ Some p) (omega arith) (at 0 p refl), refl)), start-sorted ctx (suc i) ps λ j b e. subst (λ (z : ℕ). slice_get ctx z ≡ Some b) (omega arith) (at (suc j) b e))

    start-holds : (full : List Binder) (i : ℕ) (ps : List Binder) → HeapHolds P env full [] (map expr (own_variables (plain gaps) i ps))
    start-holds full i [] = tt
    start-holds full i (p ∷ ps) = (tt, start-holds full (suc i) ps)

    pub start-fact : (full : List Binder) → Fact P env h.params full (body_start (plain gaps) h)
    start-fact full = record {
      context = ([], sym (append-nil h.params), λ i b at. absurd cc);
      heap_sorted = start-sorted h.params 0 h.params λ j b e. subst (λ (z : ℕ). slice_get h.params z ≡ Some b) (omega arith) e;
      stack_sorted = tt;
      hyps_provable = tt;
      heap_holds = start-holds full 0 h.params;
      stack_holds = tt;
    }

-- A body that runs to its END leaves a last state of which the fact holds, in its own last context.
pub body-fact : (gaps : Bool) (tables : RowsBefore) (env : List Declaration) (declares : Declares tables env) (h : Heading) (at : ℕ) (bytes : List ℕ) (last : State Tree)
    → body_run (plain gaps) tables h at bytes ≡ Ok last → Fact (used_by gaps env bytes) env h.params last.ctx last × (proof_end strict tables h last ≡ Ok last)
body-fact gaps tables env declares h at bytes last e =
    let (step, done) = body-keeps gaps tables h (used_by gaps env bytes) env declares last.ctx (length bytes) at bytes (body_start (plain gaps) h) last (λ T cites there. (cites, there)) (λ within on. (on, within)) e in
    ((step λ x b e'. e').1 (start-fact gaps tables h (used_by gaps env bytes) env declares last.ctx), sym (end-plain gaps tables h last) ∙ done)
