-- The commands that stand in a file, up to an END, are its longest run.
use Rattle.std.proofs.Common.{◌≡◌, ◌<◌, ◌+◌, ◌^◌, ℕ, false, List, [], ◌∷◌, ◌++◌, length, map, take, drop, Result, Ok, refl, sym, ap, subst, ◌∙◌, arith, append_assoc, append-nil, length-append, length-take}
use Rattle.std.specs.Prelude.{IsTrue, ⊤}
use Rattle.std.proofs.lemmas.List.{drop-take}
use Rattle.mz_cmd.specs.declared.command.Cmd.{Cmd}
use Rattle.mz_cmd.specs.declared.command.CmdFault.{CmdFault}
use Rattle.mz_cmd.specs.Codes.{is_known}
use Rattle.mz_cmd.specs.Reading.{first_command, command_at}
use Rattle.mz_cmd.specs.Spelling.{Spells, shortest}
use Rattle.mz_cmd.proofs.Offered.{Spells-again, shortest-spells}
use Rattle.mz_layout_tables.specs.Standing.{Stands}
use Rattle.mz_layout_tables.proofs.Offered.{stands-first, stands-second, stands-is, stands-bytes}
use Rattle.mz_show.specs.declared.stream.Stream.{Stream}
use Rattle.mz_show.specs.Streams.{belongs, Follow, Run, IsLongest, EndStands, LeadsTo}
use Rattle.mz_asm.specs.Statements.{command_bytes}

abbrev pub cmd_of : {C : Type 0} → (C → ℕ) → C × ℕ → Cmd
cmd_of byte c = record { code = byte c.0; value = c.1; len = length (shortest (byte c.0) c.1) }

abbrev pub AreShort : {C : Type 0} → List (C × ℕ) → Type 0
AreShort [] = ⊤
AreShort (c ∷ cs) = (c.1 < 2 ^ 32) × AreShort cs

abbrev pub run_of : {C : Type 0} → (C → ℕ) → ℕ → List (C × ℕ) → Run
run_of byte at cs = record { commands = map (cmd_of byte) cs; to = at + length (command_bytes byte cs) }

command-there : (file : List ℕ) (at : ℕ) (bytes : List ℕ) (code value : ℕ) → Spells bytes code value → Stands file at bytes → command_at file at ≡ Ok (record { code = code; value = value; len = length bytes })
command-there file at bytes code value spells s = ap first_command s.from_there ∙ Spells-again bytes s.rest code value spells

module _ {C : Type 0} (stream : Stream) (byte : C → ℕ) (here : (c : C) → IsTrue (belongs stream (byte c))) (known : (c : C) → IsTrue (is_known (byte c))) (outside : belongs stream 0 ≡ false) (file : List ℕ) where
  follows : (cs : List (C × ℕ)) (at : ℕ) → AreShort cs → Stands file at (command_bytes byte cs ++ (0 ∷ [])) → Follow stream file at (map (cmd_of byte) cs) (at + length (command_bytes byte cs))
  follows [] at short s = omega arith
  follows (c ∷ cs) at (one, short) s =
      let bytes : List ℕ = shortest (byte c.0) c.1 in
      let apart = stands-is file at _ (bytes ++ (command_bytes byte cs ++ (0 ∷ []))) (append_assoc bytes (command_bytes byte cs) (0 ∷ [])) s in
      let first = stands-first file at bytes (command_bytes byte cs ++ (0 ∷ [])) apart in
      let rest = follows cs (at + length bytes) short (stands-second file at bytes (command_bytes byte cs ++ (0 ∷ [])) apart) in
      let sum : (at + length bytes) + length (command_bytes byte cs) ≡ at + length (bytes ++ command_bytes byte cs) = (let long = length-append bytes (command_bytes byte cs) in omega (arith, long)) in
      (command-there file at bytes (byte c.0) c.1 (shortest-spells (byte c.0) c.1 (known c.0) one) first, here c.0, subst (λ (n : ℕ). Follow stream file (at + length bytes) (map (cmd_of byte) cs) n) sum rest)

  end-there : (cs : List (C × ℕ)) (at : ℕ) → Stands file at (command_bytes byte cs ++ (0 ∷ [])) → command_at file (at + length (command_bytes byte cs)) ≡ Ok (record { code = 0; value = 0; len = 1 })
  end-there cs at s = command-there file (at + length (command_bytes byte cs)) (0 ∷ []) 0 0 (shortest-spells 0 0 refl (omega arith)) (stands-second file at (command_bytes byte cs) (0 ∷ []) s)

  same-found : (c d : Cmd) (r : Result Cmd CmdFault) → r ≡ Ok c → r ≡ Ok d → c ≡ d
  same-found c d r e f = let both : Ok c ≡ Ok d = sym e ∙ f in cc

  pub longest : (cs : List (C × ℕ)) (at : ℕ) → AreShort cs → Stands file at (command_bytes byte cs ++ (0 ∷ [])) → IsLongest stream file at (run_of byte at cs)
  longest cs at short s = record {
    follow = follows cs at short s;
    no_more = λ c is b.
        let e : record { code = 0; value = 0; len = 1 } ≡ c = same-found (record { code = 0; value = 0; len = 1 }) c _ (end-there cs at s) is in
        let no : belongs stream c.code ≡ false = subst (λ (d : Cmd). belongs stream d.code ≡ false) e outside in
        absurd cc;
  }

  pub run-ends : (cs : List (C × ℕ)) (at : ℕ) → Stands file at (command_bytes byte cs ++ (0 ∷ [])) → EndStands file (run_of byte at cs).to
  run-ends cs at s = (record { code = 0; value = 0; len = 1 }, end-there cs at s, refl)

  pub run-leads : (cs : List (C × ℕ)) (at next : ℕ) → Stands file at (command_bytes byte cs ++ (0 ∷ [])) → next ≡ at + length (command_bytes byte cs ++ (0 ∷ [])) → LeadsTo file (run_of byte at cs).to next
  run-leads cs at next s is = λ c found.
      let e : record { code = 0; value = 0; len = 1 } ≡ c = same-found (record { code = 0; value = 0; len = 1 }) c _ (end-there cs at s) found in
      let one : 1 ≡ c.len = ap (λ (d : Cmd). d.len) e in
      let long = length-append (command_bytes byte cs) (0 ∷ []) in
      omega (arith, one, long, is)

-- ---- a body ends where the next statement begins

pub stands-cut : (file : List ℕ) (at : ℕ) (bytes : List ℕ) (next : ℕ) → next ≡ at + length bytes → Stands file at bytes → Stands (take next file) at bytes
stands-cut file at bytes next is s = record {
  within = (let long = length-take next file in let w = s.within in omega (arith, long, w, is));
  rest = [];
  from_there = ap (λ (n : ℕ). drop at (take n file)) is ∙ drop-take at (length bytes) file ∙ stands-bytes file at bytes s ∙ sym (append-nil bytes);
}
