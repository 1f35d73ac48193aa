-- The longest run of commands from a place on is one, and there is one.
use Rattle.std.proofs.Common.{◌≡◌, ◌⊎◌, ◌≤◌, ◌+◌, ◌++◌, ℕ, zero, suc, Bool, true, false, List, [], ◌∷◌, length, Result, Ok, Err, refl, ap, sym, ◌∙◌, subst, arith, inl, inr}
use Rattle.std.specs.Prelude.{IsTrue}
use Rattle.std.proofs.lemmas.Bool.{cases_eq}
use Rattle.mz_cmd.specs.declared.command.Cmd.{Cmd}
use Rattle.mz_cmd.specs.declared.command.CmdFault.{CmdFault}
use Rattle.mz_cmd.specs.Reading.{command_at}
use Rattle.mz_layout_tables.proofs.Offered.{command-takes}
use Rattle.mz_show.specs.declared.stream.Stream.{Stream}
use Rattle.mz_show.specs.Streams.{belongs, Follow, Run, IsLongest, EndStands, LeadsTo}

abbrev NoMore : Stream → List ℕ → ℕ → Type 0
NoMore stream bytes to = (c : Cmd) → command_at bytes to ≡ Ok c → IsTrue (belongs stream c.code) → ⊥

-- one more command
pub follow-snoc : (stream : Stream) (bytes : List ℕ) (from : ℕ) (cs : List Cmd) (at : ℕ) (c : Cmd) → Follow stream bytes from cs at →
    command_at bytes at ≡ Ok c → IsTrue (belongs stream c.code) → Follow stream bytes from (cs ++ c ∷ []) (at + c.len)
follow-snoc stream bytes from [] at c f e b =
    (subst (λ (n : ℕ). command_at bytes n ≡ Ok c) f e, b, ap (λ (n : ℕ). n + c.len) f)
follow-snoc stream bytes from (d ∷ ds) at c f e b = (f.0, f.1, follow-snoc stream bytes (from + d.len) ds at c f.2 e b)

same-command : (c d : Cmd) (r : Result Cmd CmdFault) → r ≡ Ok c → r ≡ Ok d → c ≡ d
same-command c d r e f = cc

unique-runs : (stream : Stream) (bytes : List ℕ) (from : ℕ) (cs ds : List Cmd) (to end : ℕ) → Follow stream bytes from cs to → Follow stream bytes from ds end →
    NoMore stream bytes to → NoMore stream bytes end → (cs ≡ ds) × (to ≡ end)
unique-runs stream bytes from [] [] to end f g m n = (refl, f ∙ sym g)
unique-runs stream bytes from [] (d ∷ ds) to end f g m n = absurd (m d (subst (λ (k : ℕ). command_at bytes k ≡ Ok d) (sym f) g.0) g.1)
unique-runs stream bytes from (c ∷ cs) [] to end f g m n = absurd (n c (subst (λ (k : ℕ). command_at bytes k ≡ Ok c) (sym g) f.0) f.1)
unique-runs stream bytes from (c ∷ cs) (d ∷ ds) to end f g m n =
    let same : c ≡ d = same-command c d (command_at bytes from) f.0 g.0 in
    let rest = unique-runs stream bytes (from + c.len) cs ds to end f.2 (subst (λ (e : Cmd). Follow stream bytes (from + e.len) ds end) (sym same) g.2) m n in
    (let tails : cs ≡ ds = rest.0 in let e : c ∷ cs ≡ d ∷ ds = cc in e, rest.1)

equal : (make : List Cmd → ℕ → Run) (cs ds : List Cmd) (to end : ℕ) → cs ≡ ds → to ≡ end → make cs to ≡ make ds end
equal make cs ds to end e f = cc

pub longest-unique : (stream : Stream) (bytes : List ℕ) (from : ℕ) (r s : Run) → IsLongest stream bytes from r → IsLongest stream bytes from s → r ≡ s
longest-unique stream bytes from r s l m =
    let both = unique-runs stream bytes from r.commands s.commands r.to s.to l.follow m.follow l.no_more m.no_more in
    equal (λ cs to. record { commands = cs; to = to }) r.commands s.commands r.to s.to both.0 both.1

-- there is no command of the stream: the run ends
ended : (stream : Stream) (bytes : List ℕ) (from : ℕ) → NoMore stream bytes from → (r : Run) × IsLongest stream bytes from r
ended stream bytes from none = (record { commands = []; to = from }, record { follow = refl; no_more = none })

longer : (stream : Stream) (bytes : List ℕ) (from : ℕ) (c : Cmd) → command_at bytes from ≡ Ok c → IsTrue (belongs stream c.code) →
    (r : Run) × IsLongest stream bytes (from + c.len) r → (r : Run) × IsLongest stream bytes from r
longer stream bytes from c e b rest =
    (record { commands = c ∷ rest.0.commands; to = rest.0.to }, record { follow = (e, b, rest.1.follow); no_more = rest.1.no_more })

abbrev HasLongest : Stream → List ℕ → ℕ → Type 0
HasLongest stream bytes from = (r : Run) × IsLongest stream bytes from r

-- from a place on, where there is one after each command there
from-next : (stream : Stream) (bytes : List ℕ) (from : ℕ) → ((c : Cmd) → command_at bytes from ≡ Ok c → HasLongest stream bytes (from + c.len)) → HasLongest stream bytes from
from-next stream bytes from next = by-command (command_at bytes from) refl
  where
    by-code : (c : Cmd) → command_at bytes from ≡ Ok c → (b : Bool) → belongs stream c.code ≡ b → HasLongest stream bytes from
    by-code c e true f = longer stream bytes from c e f (next c e)
    by-code c e false f = ended stream bytes from (λ d is b.
        let same : c ≡ d = same-command c d (command_at bytes from) e is in
        let no : belongs stream d.code ≡ false = subst (λ (k : Cmd). belongs stream k.code ≡ false) same f in
        absurd cc)

    by-command : (r : Result Cmd CmdFault) → command_at bytes from ≡ r → HasLongest stream bytes from
    by-command (Err f) e = ended stream bytes from (λ c is b. absurd cc)
    by-command (Ok c) e = by-code c e (belongs stream c.code) refl

pub longest-some : (stream : Stream) (bytes : List ℕ) (fuel from : ℕ) → length bytes ≤ from + fuel → (r : Run) × IsLongest stream bytes from r
longest-some stream bytes zero from enough =
    ended stream bytes from (λ c e b. let t = command-takes bytes from c e in omega (arith, t.some, t.whole))
longest-some stream bytes (suc fuel) from enough =
    from-next stream bytes from (λ c e. let t = command-takes bytes from c e in longest-some stream bytes fuel (from + c.len) (omega (arith, t.some)))

-- a run ends within the bytes
pub follow-within : (stream : Stream) (bytes : List ℕ) (from : ℕ) (cs : List Cmd) (to : ℕ) → Follow stream bytes from cs to → from ≤ length bytes → to ≤ length bytes
follow-within stream bytes from [] to f within = omega arith
follow-within stream bytes from (c ∷ cs) to f within =
    let t = command-takes bytes from c f.0 in
    follow-within stream bytes (from + c.len) cs to f.2 (omega (arith, t.some, t.whole))

-- ---- what is asked of its end is decided

pub end_stands-decided : (bytes : List ℕ) (at : ℕ) → EndStands bytes at ⊎ (EndStands bytes at → ⊥)
end_stands-decided bytes at = by-command (command_at bytes at) refl
  where
    by-command : (r : Result Cmd CmdFault) → command_at bytes at ≡ r → EndStands bytes at ⊎ (EndStands bytes at → ⊥)
    by-command (Err f) e = inr (λ ends. let is = ends.1 in absurd cc)
    by-command (Ok c) e = elim (cases_eq c.code 0) [
      | inl zero_code ↦ inl (c, e, zero_code)
      | inr other ↦ inr (λ ends.
          let same : c ≡ ends.0 = same-command c ends.0 (command_at bytes at) e ends.1 in
          other (ap (λ (d : Cmd). d.code) same ∙ ends.2))
    ]

pub leads_to-decided : (bytes : List ℕ) (at next : ℕ) → LeadsTo bytes at next ⊎ (LeadsTo bytes at next → ⊥)
leads_to-decided bytes at next = by-command (command_at bytes at) refl
  where
    by-command : (r : Result Cmd CmdFault) → command_at bytes at ≡ r → LeadsTo bytes at next ⊎ (LeadsTo bytes at next → ⊥)
    by-command (Err f) e = inl (λ c is. absurd cc)
    by-command (Ok c) e = elim (cases_eq (at + c.len) next) [
      | inl leads ↦ inl (λ d is.
          let same : c ≡ d = same-command c d (command_at bytes at) e is in
          subst (λ (k : Cmd). at + k.len ≡ next) same leads)
      | inr other ↦ inr (λ all. other (all c e))
    ]
