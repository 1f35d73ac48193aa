-- The gaps and citations of a body's bytes are those of its commands.
use Rattle.std.proofs.Common.{◌≡◌, ◌⊎◌, ◌<◌, ◌≤◌, ◌∙◌, ℕ, zero, suc, Bool, true, List, [], ◌∷◌, ◌++◌, length, drop, None, Some, Ok, Contains, refl, sym, ap, subst, inl, inr, arith, length-append}
use Rattle.std.specs.Prelude.{◌^◌}
use Rattle.mz_cmd.specs.declared.code.ProofCode.{ProofCode}
use Rattle.mz_cmd.specs.declared.code.ProofCode.TheVariants as code
use Rattle.mz_cmd.specs.declared.command.Cmd.{Cmd}
use Rattle.mz_cmd.specs.Codes.{proof_byte, proof_code}
use Rattle.mz_cmd.specs.Reading.{first_command}
use Rattle.mz_cmd.proofs.Offered.{Spells-again, shortest-spells}
use Rattle.mz_logic_theory.specs.Declaration.{Declaration}
use Rattle.mz_logic_theory.specs.declared.binder.Binder.{Binder}
use Rattle.mz_machine_theory.specs.Profile.{plain}
use Rattle.mz_machine_theory.specs.Bodies.{in_theorems, stands_in}
use Rattle.mz_machine_theory.specs.Sound.{IsCitation, CitesWithin, GapsWithin}
use Rattle.mz_machine_theory.specs.MachineState.{Kind, is_axiom, is_theorem, is_definition}
use Rattle.mz_emit_theory.specs.Endings.{spelled_body, MayStand}
use Rattle.mz_emit_theory.specs.Steps.{Step, Steps, command_bytes}
use Rattle.mz_emit_theory.specs.SymbolicState.{Work, work_start}
use Rattle.mz_emit_theory.proofs.Bytes.{drop-front, known-code as known}
use Rattle.mz_emit_theory.specs.Gaps.{LeaveGap, Cite, SaysItsGaps, BodiesSayTheirGaps, OnlyDraftsLeaveGaps}

-- ---- members of a list of commands

at-head : (c x : ProofCode × ℕ) (cs : List (ProofCode × ℕ)) → c ≡ x → Contains (c ∷ cs) x
at-head c x cs is = (zero, omega arith, is)

behind-head : (c x : ProofCode × ℕ) (cs : List (ProofCode × ℕ)) → Contains cs x → Contains (c ∷ cs) x
behind-head c x cs (k, below, is) = (suc k, omega arith, is)

head-or-behind : (c x : ProofCode × ℕ) (cs : List (ProofCode × ℕ)) → Contains (c ∷ cs) x → (c ≡ x) ⊎ Contains cs x
head-or-behind c x cs (zero, below, is) = inl is
head-or-behind c x cs (suc k, below, is) = inr (k, omega arith, is)

pub in-none : {A : Type 0} → (x : ProofCode × ℕ) → Contains [] x → A
in-none x (k, below, is) = absurd (omega (arith, below))

with-code : (c : ProofCode × ℕ) (d : ProofCode) → c.0 ≡ d → c ≡ (d, c.1)
with-code c d is = ap (λ (z : ProofCode). (z, c.1)) is

-- ---- the first command

code-again : (c : ProofCode) → proof_code (proof_byte c) ≡ Some c
code-again code.Term = refl
code-again c = refl

module _ (c : ProofCode × ℕ) (rest : List ℕ) (short : c.1 < 2 ^ 32) where
  abbrev command : Cmd
  command = record { code = proof_byte c.0; value = c.1; len = length (command_bytes c) }

  read : first_command (command_bytes c ++ rest) ≡ Ok command
  read = Spells-again (command_bytes c) rest (proof_byte c.0) c.1 (shortest-spells (proof_byte c.0) c.1 (known c.0) short)

  -- it is the only one that is read
  only : (x : Cmd) → first_command (command_bytes c ++ rest) ≡ Ok x → x ≡ command
  only x is = let both : Ok x ≡ Ok command = sym is ∙ read in cc

  has-code : (d : ProofCode) → proof_code command.code ≡ Some d → c.0 ≡ d
  has-code d is = let both : Some c.0 ≡ Some d = sym (code-again c.0) ∙ is in cc

  of-code : (d : ProofCode) → c.0 ≡ d → proof_code command.code ≡ Some d
  of-code d is = code-again c.0 ∙ ap (λ (z : ProofCode). Some z) is

  value-is : command.value ≡ c.1
  value-is = refl

  behind : drop command.len (command_bytes c ++ rest) ≡ rest
  behind = drop-front (command_bytes c) rest

fits-behind : (n : ℕ) (c : ProofCode × ℕ) (cs : List (ProofCode × ℕ)) → length (spelled_body (c ∷ cs)) ≤ suc n → length (spelled_body cs) ≤ n
fits-behind n c cs le = (let many = length-append (command_bytes c) (spelled_body cs) in omega (arith, many))

never-none : (c : ProofCode × ℕ) (cs : List (ProofCode × ℕ)) → length (spelled_body (c ∷ cs)) ≤ zero → ⊥
never-none c cs le = (let many = length-append (command_bytes c) (spelled_body cs) in omega (arith, many))

-- nothing is behind the END, and it is no command of a proof
abbrev end : Cmd
end = record { code = 0; value = 0; len = 1 }

end-read : (x : Cmd) → first_command (0x00 ∷ []) ≡ Ok x → x ≡ end
end-read x is = let both : Ok x ≡ Ok end = sym is in cc

no-code : (d : ProofCode) → proof_code end.code ≡ Some d → ⊥
no-code d is = let none : None ≡ Some d = is in absurd cc

none-behind : drop {A = ℕ} end.len (0x00 ∷ []) ≡ []
none-behind = refl

-- ---- gaps

no-gap : (n : ℕ) → GapsWithin n [] → ⊥
no-gap zero h = h
no-gap (suc n) (x, is, h) = absurd cc

gaps-out : (kind : Kind) (gaps : Bool) (n : ℕ) (cs : List (ProofCode × ℕ)) → MayStand (plain gaps) kind cs → GapsWithin n (spelled_body cs) → LeaveGap cs
gaps-out kind gaps zero cs may h = absurd h
gaps-out kind gaps (suc n) [] may (x, is, h) =
    elim (subst (λ (z : Cmd). (proof_code z.code ≡ Some code.Sorry) ⊎ GapsWithin n (drop z.len (0x00 ∷ []))) (end-read x is) h) [
      | inl sorry ↦ absurd (no-code code.Sorry sorry)
      | inr later ↦ absurd (no-gap n (subst (GapsWithin n) none-behind later))
    ]
gaps-out kind gaps (suc n) (c ∷ cs) (stands, short, may) (x, is, h) =
    let rest : List ℕ = spelled_body cs in
    elim (subst (λ (z : Cmd). (proof_code z.code ≡ Some code.Sorry) ⊎ GapsWithin n (drop z.len (command_bytes c ++ rest))) (only c rest short x is) h) [
      | inl sorry ↦ (c.1, at-head c (code.Sorry, c.1) cs (with-code c code.Sorry (has-code c rest short code.Sorry sorry)))
      | inr later ↦ (let (v, has) = gaps-out kind gaps n cs may (subst (GapsWithin n) (behind c rest short) later) in (v, behind-head c (code.Sorry, v) cs has))
    ]

gaps-in : (kind : Kind) (gaps : Bool) (n : ℕ) (cs : List (ProofCode × ℕ)) → length (spelled_body cs) ≤ n → MayStand (plain gaps) kind cs → LeaveGap cs → GapsWithin n (spelled_body cs)
gaps-in kind gaps n [] le may (v, has) = in-none (code.Sorry, v) has
gaps-in kind gaps zero (c ∷ cs) le may h = absurd (never-none c cs le)
gaps-in kind gaps (suc n) (c ∷ cs) le (stands, short, may) (v, has) =
    let rest : List ℕ = spelled_body cs in (
      command c rest short,
      read c rest short,
      elim (head-or-behind c (code.Sorry, v) cs has) [
        | inl is ↦ inl (of-code c rest short code.Sorry (ap (λ (z : ProofCode × ℕ). z.0) is))
        | inr later ↦ inr (subst (GapsWithin n) (sym (behind c rest short)) (gaps-in kind gaps n cs (fits-behind n c cs le) may (v, later)))
      ],
    )

-- ---- citations

no-citation : (n U : ℕ) → CitesWithin n [] U → ⊥
no-citation zero U h = h
no-citation (suc n) U (x, is, h) = absurd cc

further : (c : ProofCode × ℕ) (cs : List (ProofCode × ℕ)) (U : ℕ) → Cite cs U → Cite (c ∷ cs) U
further c cs U (inl has) = inl (behind-head c (code.Thm, U) cs has)
further c cs U (inr has) = inr (behind-head c (code.ThmSave, U) cs has)

cites-out : (kind : Kind) (gaps : Bool) (U n : ℕ) (cs : List (ProofCode × ℕ)) → MayStand (plain gaps) kind cs → CitesWithin n (spelled_body cs) U → Cite cs U
cites-out kind gaps U zero cs may h = absurd h
cites-out kind gaps U (suc n) [] may (x, is, h) =
    elim (subst (λ (z : Cmd). IsCitation z U ⊎ CitesWithin n (drop z.len (0x00 ∷ [])) U) (end-read x is) h) [
      | inl (inl thm, value) ↦ absurd (no-code code.Thm thm)
      | inl (inr saved, value) ↦ absurd (no-code code.ThmSave saved)
      | inr later ↦ absurd (no-citation n U (subst (λ (z : List ℕ). CitesWithin n z U) none-behind later))
    ]
cites-out kind gaps U (suc n) (c ∷ cs) (stands, short, may) (x, is, h) =
    let rest : List ℕ = spelled_body cs in
    let named : (d : ProofCode) → proof_code (command c rest short).code ≡ Some d → (command c rest short).value ≡ U → c ≡ (d, U) =
    λ d coded value. with-code c d (has-code c rest short d coded) ∙ ap (λ (z : ℕ). (d, z)) (sym (value-is c rest short) ∙ value) in
    elim (subst (λ (z : Cmd). IsCitation z U ⊎ CitesWithin n (drop z.len (command_bytes c ++ rest)) U) (only c rest short x is) h) [
      | inl (inl thm, value) ↦ inl (at-head c (code.Thm, U) cs (named code.Thm thm value))
      | inl (inr saved, value) ↦ inr (at-head c (code.ThmSave, U) cs (named code.ThmSave saved value))
      | inr later ↦ further c cs U (cites-out kind gaps U n cs may (subst (λ (z : List ℕ). CitesWithin n z U) (behind c rest short) later))
    ]

module _ (kind : Kind) (gaps : Bool) (U : ℕ) where
  -- the command with this code is among them
  cites-by : (d : ProofCode) → (d ≡ code.Thm) ⊎ (d ≡ code.ThmSave) → (n : ℕ) (cs : List (ProofCode × ℕ)) → length (spelled_body cs) ≤ n → MayStand (plain gaps) kind cs → Contains cs (d, U) → CitesWithin n (spelled_body cs) U
  cites-by d cites n [] le may has = in-none (d, U) has
  cites-by d cites zero (c ∷ cs) le may has = absurd (never-none c cs le)
  cites-by d cites (suc n) (c ∷ cs) le (stands, short, may) has =
      let rest : List ℕ = spelled_body cs in (
        command c rest short,
        read c rest short,
        elim (head-or-behind c (d, U) cs has) [
          | inl is ↦ inl (
            elim cites [
              | inl thm ↦ inl (of-code c rest short code.Thm (ap (λ (z : ProofCode × ℕ). z.0) is ∙ thm))
              | inr saved ↦ inr (of-code c rest short code.ThmSave (ap (λ (z : ProofCode × ℕ). z.0) is ∙ saved))
            ],
            value-is c rest short ∙ ap (λ (z : ProofCode × ℕ). z.1) is,
          )
          | inr later ↦ inr (subst (λ (z : List ℕ). CitesWithin n z U) (sym (behind c rest short)) (cites-by d cites n cs (fits-behind n c cs le) may later))
        ],
      )

  cites-in : (n : ℕ) (cs : List (ProofCode × ℕ)) → length (spelled_body cs) ≤ n → MayStand (plain gaps) kind cs → Cite cs U → CitesWithin n (spelled_body cs) U
  cites-in n cs le may (inl has) = cites-by code.Thm (inl refl) n cs le may has
  cites-in n cs le may (inr has) = cites-by code.ThmSave (inr refl) n cs le may has

-- ---- a body

commands-say : (kind : Kind) (gaps : Bool) (cs : List (ProofCode × ℕ)) → MayStand (plain gaps) kind cs → SaysItsGaps cs (spelled_body cs)
commands-say kind gaps cs may =
    let n : ℕ = length (spelled_body cs) in
    record {
      gaps = (gaps-out kind gaps n cs may, gaps-in kind gaps n cs (omega arith) may);
      citations = λ U. (cites-out kind gaps U n cs may, cites-in kind gaps U n cs (omega arith) may);
    }

pub bodies-say-gaps : BodiesSayTheirGaps
bodies-say-gaps gaps env kind params dummies e hyps bytes b = subst (SaysItsGaps b.commands) (sym b.spelled) (commands-say kind gaps b.commands b.may_stand)

-- ---- whose bodies leave gaps

gaps-let-through : (gaps : Bool) (env : List Declaration) (ctx : List Binder) (v : ℕ) (cs : List (ProofCode × ℕ)) (w w' : Work) → Steps gaps env ctx w cs w' → Contains cs (code.Sorry, v) → gaps ≡ true
gaps-let-through gaps env ctx v [] w w' steps has = in-none (code.Sorry, v) has
gaps-let-through gaps env ctx v (c ∷ cs) w w' (mid, step, steps) has =
    elim (head-or-behind c (code.Sorry, v) cs has) [
      | inl is ↦ (subst (λ (z : ProofCode × ℕ). Step gaps env ctx w z.0 z.1 mid) is step).0
      | inr later ↦ gaps-let-through gaps env ctx v cs mid w' steps later
    ]

in-theorem : (kind : Kind) → in_theorems kind ≡ true → kind ≡ is_theorem
in-theorem is_theorem is = refl
in-theorem _ is = absurd cc

gaps-in-theorems : (kind : Kind) (gaps : Bool) (v : ℕ) (cs : List (ProofCode × ℕ)) → MayStand (plain gaps) kind cs → Contains cs (code.Sorry, v) → kind ≡ is_theorem
gaps-in-theorems kind gaps v [] may has = in-none (code.Sorry, v) has
gaps-in-theorems kind gaps v (c ∷ cs) (stands, short, may) has =
    elim (head-or-behind c (code.Sorry, v) cs has) [
      | inl is ↦ in-theorem kind (subst (λ (z : ProofCode × ℕ). stands_in (plain gaps) kind z.0 ≡ true) is stands)
      | inr later ↦ gaps-in-theorems kind gaps v cs may later
    ]

pub only-drafts-leave-gaps : OnlyDraftsLeaveGaps
only-drafts-leave-gaps gaps env kind params dummies e hyps bytes b gap =
    let (v, has) = (bodies-say-gaps gaps env kind params dummies e hyps bytes b).gaps.0 gap in
    (gaps-let-through gaps env (params ++ dummies) v b.commands (work_start params) b.work b.steps has, gaps-in-theorems kind gaps v b.commands b.may_stand has)
