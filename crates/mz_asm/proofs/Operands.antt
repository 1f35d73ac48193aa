-- The commands of short streams as a listing has them, and lines whose numbers are right.
use Rattle.std.proofs.Common.{◌≡◌, ◌≤◌, ◌<◌, ◌+◌, ◌/◌, ◌%◌, ◌^◌, ℕ, zero, suc, Bool, true, false, cond, ltb, List, [], ◌∷◌, ◌++◌, length, map, take, get_or, Option, Some, None, is_some, Ok, Err, refl, sym, ap, subst, ◌∙◌, arith, append_assoc}
use Rattle.std.specs.Prelude.{⊤, IsTrue, ◌==◌, find}
use Rattle.std.proofs.lemmas.Bool.{eqb-true}
use Rattle.byteorder.specs.Endian.{little_number}
use Rattle.byteorder.specs.Numbers.{little_from-lt}
use Rattle.mz_cmd.specs.declared.command.Cmd.{Cmd}
use Rattle.mz_cmd.specs.declared.command.CmdFault.TheVariants.{Cut, Unknown}
use Rattle.mz_cmd.specs.declared.code.ProofCode.{ProofCode}
use Rattle.mz_cmd.specs.declared.code.UnifyCode.{UnifyCode}
use Rattle.mz_cmd.specs.Codes.{is_known, unify_byte, unify_codes, unify_code, proof_byte, proof_codes, proof_code}
use Rattle.mz_cmd.specs.Reading.{first_command}
use Rattle.mz_cmd.specs.Spelling.{operand_len, shortest}
use Rattle.mz_logic_theory.specs.declared.word.Word.{Word}
use Rattle.mz_show.specs.declared.stream.Stream.{Stream}
use Rattle.mz_show.specs.declared.stream.Stream.TheVariants as streams
use Rattle.mz_show.specs.Streams.{belongs, Follow}
use Rattle.mz_show.specs.Tokens.{unify_has_number, proof_has_number}
use Rattle.mz_asm.specs.declared.line.Line.{Line}
use Rattle.mz_asm.specs.declared.line.Line.TheVariants as lines
use Rattle.mz_asm.specs.declared.rows.Rows.{Rows}
use Rattle.mz_asm.specs.Rows.{rows_after, IsInRange, TakesRow}
use Rattle.mz_asm.specs.Statements.{unify_line, proof_line, command_bytes}
use Rattle.mz_asm.specs.Assembling.{AreFitting}
use Rattle.mz_asm.proofs.Plain.{IsPlain, ArePlain}
use Rattle.mz_asm.specs.NormalBytes.{AreBytes, spelled, unify_listed, proof_listed, is_listed, HaveListed}
use Rattle.mz_asm.proofs.OneText.{both_streams}
use Rattle.mz_asm.proofs.Pieces.{bytes-behind}

-- ---- commands

abbrev pub with_op : {C : Type 0} → Option C → ℕ → List (C × ℕ) → List (C × ℕ)
with_op None v rest = rest
with_op (Some k) v rest = (k, v) ∷ rest

-- the commands with their operands
abbrev pub ops : {C : Type 0} → (ℕ → Option C) → List Cmd → List (C × ℕ)
ops code [] = []
ops code (c ∷ cs) = with_op (code c.code) c.value (ops code cs)

-- what is asked of their lines' numbers
abbrev pub AreFit : {C : Type 0} → (C → Bool) → List (C × ℕ) → Type 0
AreFit has [] = ⊤
AreFit has (c ∷ cs) = (c.1 ≤ 4294967295) × (has c.0 ≡ false → c.1 ≡ 0) × AreFit has cs

widest : (size : ℕ) → 256 ^ operand_len size ≤ 4294967296
widest (suc (suc zero)) = omega arith
widest _ = omega arith

operand-small : (bytes : List ℕ) (c : Cmd) → AreBytes bytes → first_command bytes ≡ Ok c → c.value ≤ 4294967295
operand-small [] c fits e = absurd cc
operand-small (head ∷ rest) c fits e = go (ltb (length rest) n) (is_known (head % 64)) e
  where
    n : ℕ
    n = operand_len (head / 64)

    made : Cmd
    made = record { code = head % 64; value = little_number n rest; len = n + 1 }

    go : (cut known : Bool) → cond cut (Err Cut) (cond known (Ok made) (Err Unknown)) ≡ Ok c → c.value ≤ 4294967295
    go false true is =
        let same : made ≡ c = cc in
        let low = little_from-lt 0 n rest (λ i. fits (suc i)) in
        let most = widest (head / 64) in
        subst (λ (d : Cmd). d.value ≤ 4294967295) same (omega (arith, low, most))
    go _ _ is = absurd cc

module _ {C : Type 0} (stream : Stream) (byte : C → ℕ) (code : ℕ → Option C) (has : C → Bool) (belongs-is : (n : ℕ) → belongs stream n ≡ is_some (code n)) (back : (n : ℕ) (k : C) → code n ≡ Some k → byte k ≡ n) (listed : (n : ℕ) (k : C) → code n ≡ Some k → is_listed stream n ≡ has k) (bytes : List ℕ) where
  not-none : (n : ℕ) → IsTrue (belongs stream n) → code n ≡ None → ⊥
  not-none n here e = let no : is_some (code n) ≡ false = ap is_some e in let is = belongs-is n in absurd cc

  one-spelled : (c : Cmd) (cs : List Cmd) → IsTrue (belongs stream c.code) → command_bytes byte (ops code cs) ++ (0 ∷ []) ≡ spelled cs → (o : Option C) → code c.code ≡ o → command_bytes byte (with_op o c.value (ops code cs)) ++ (0 ∷ []) ≡ spelled (c ∷ cs)
  one-spelled c cs here rest None e = absurd (not-none c.code here e)
  one-spelled c cs here rest (Some k) e =
      append_assoc (shortest (byte k) c.value) (command_bytes byte (ops code cs)) (0 ∷ [])
      ∙ ap (λ (x : List ℕ). shortest (byte k) c.value ++ x) rest
      ∙ ap (λ (n : ℕ). shortest n c.value ++ spelled cs) (back c.code k e)

  -- they are spelled as they stand
  pub ops-spelled : (cs : List Cmd) (from to : ℕ) → Follow stream bytes from cs to → command_bytes byte (ops code cs) ++ (0 ∷ []) ≡ spelled cs
  ops-spelled [] from to f = refl
  ops-spelled (c ∷ cs) from to (read, here, more) = one-spelled c cs here (ops-spelled cs (from + c.len) to more) (code c.code) refl

  one-fit : (c : Cmd) (cs : List Cmd) → IsTrue (belongs stream c.code) → c.value ≤ 4294967295 → (is_listed stream c.code ≡ false → c.value ≡ 0) → AreFit has (ops code cs) → (o : Option C) → code c.code ≡ o → AreFit has (with_op o c.value (ops code cs))
  one-fit c cs here small plain rest None e = absurd (not-none c.code here e)
  one-fit c cs here small plain rest (Some k) e = (small, (λ no. plain (listed c.code k e ∙ no)), rest)

  -- and their numbers are right
  pub ops-fit : (cs : List Cmd) (from to : ℕ) → AreBytes bytes → Follow stream bytes from cs to → HaveListed stream cs → AreFit has (ops code cs)
  ops-fit [] from to fits f plain = tt
  ops-fit (c ∷ cs) from to fits (read, here, more) (one, plain) =
      one-fit c cs here (operand-small _ c (bytes-behind bytes from fits) read) one (ops-fit cs (from + c.len) to fits more plain) (code c.code) refl

found-true : {A : Type 0} → (x : A) (test : A → Bool) (xs : List A) → find test xs ≡ Some x → test x ≡ true
found-true x test [] e = absurd cc
found-true x test (y ∷ ys) e = go (test y) refl (found-true x test ys) e
  where
    go : (b : Bool) → test y ≡ b → (find test ys ≡ Some x → test x ≡ true) → cond b (Some y) (find test ys) ≡ Some x → test x ≡ true
    go true t more is = let same : y ≡ x = cc in subst (λ z. test z ≡ true) same t
    go false t more is = more is

abbrev pub unify_ops : List Cmd → List (UnifyCode × ℕ)
unify_ops cs = ops unify_code cs

abbrev pub proof_ops : List Cmd → List (ProofCode × ℕ)
proof_ops cs = ops proof_code cs

unify-back : (n : ℕ) (k : UnifyCode) → unify_code n ≡ Some k → unify_byte k ≡ n
unify-back n k e = eqb-true (unify_byte k) n (found-true k (λ c. unify_byte c == n) unify_codes e)

proof-back : (n : ℕ) (k : ProofCode) → proof_code n ≡ Some k → proof_byte k ≡ n
proof-back n k e = eqb-true (proof_byte k) n (found-true k (λ c. proof_byte c == n) proof_codes e)

pub unify-spelled : (bytes : List ℕ) (cs : List Cmd) (from to : ℕ) → Follow streams.Unify bytes from cs to → command_bytes unify_byte (unify_ops cs) ++ (0 ∷ []) ≡ spelled cs
unify-spelled bytes = ops-spelled streams.Unify unify_byte unify_code unify_has_number (λ n. refl) unify-back (λ n k e. ap unify_listed e) bytes

pub unify-fit : (bytes : List ℕ) (cs : List Cmd) (from to : ℕ) → AreBytes bytes → Follow streams.Unify bytes from cs to → HaveListed streams.Unify cs → AreFit unify_has_number (unify_ops cs)
unify-fit bytes = ops-fit streams.Unify unify_byte unify_code unify_has_number (λ n. refl) unify-back (λ n k e. ap unify_listed e) bytes

pub proof-spelled : (bytes : List ℕ) (cs : List Cmd) (from to : ℕ) → Follow streams.Proof bytes from cs to → command_bytes proof_byte (proof_ops cs) ++ (0 ∷ []) ≡ spelled cs
proof-spelled bytes = ops-spelled streams.Proof proof_byte proof_code proof_has_number (λ n. refl) proof-back (λ n k e. ap proof_listed e) bytes

pub proof-fit : (bytes : List ℕ) (cs : List Cmd) (from to : ℕ) → AreBytes bytes → Follow streams.Proof bytes from cs to → HaveListed streams.Proof cs → AreFit proof_has_number (proof_ops cs)
proof-fit bytes = ops-fit streams.Proof proof_byte proof_code proof_has_number (λ n. refl) proof-back (λ n k e. ap proof_listed e) bytes

-- a prefix of bytes is bytes
pub bytes-cut : (n : ℕ) (xs : List ℕ) → AreBytes xs → (i : ℕ) → get_or (take n xs) i 0 < 256
bytes-cut (suc n) (x ∷ xs) fits zero = fits 0
bytes-cut (suc n) (x ∷ xs) fits (suc i) = bytes-cut n xs (λ j. fits (suc j)) i
bytes-cut _ _ fits i = omega arith

-- ---- lines

abbrev pub AreRight : Rows → List Line → Type 0
AreRight rows [] = ⊤
AreRight rows (l ∷ ls) = IsInRange rows l × TakesRow rows l × IsPlain l × AreRight (rows_after rows l) ls

pub right-fits : (rows : Rows) (ls : List Line) → AreRight rows ls → AreFitting rows ls × ArePlain ls
right-fits rows [] right = (tt, tt)
right-fits rows (l ∷ ls) (range, row, plain, right) = let rest = right-fits (rows_after rows l) ls right in ((range, row, rest.0), (plain, rest.1))

abbrev pub AreWords : List Word → Type 0
AreWords [] = ⊤
AreWords (w ∷ ws) = (w.0 < 2 ^ 64) × AreWords ws

pub right-params : (rows : Rows) (ps : List Word) (more : List Line) → AreWords ps → AreRight rows more → AreRight rows (map lines.Param ps ++ more)
right-params rows [] more words right = right
right-params rows (p ∷ ps) more (word, words) right = (tt, tt, word, right-params rows ps more words right)

right-unify : (rows : Rows) (us : List (UnifyCode × ℕ)) (more : List Line) → AreFit unify_has_number us → AreRight rows more → AreRight rows (map unify_line us ++ more)
right-unify rows [] more fit right = right
right-unify rows (u ∷ us) more (small, plain, fit) right = (small, tt, plain, right-unify rows us more fit right)

right-proof : (rows : Rows) (us : List (ProofCode × ℕ)) (more : List Line) → AreFit proof_has_number us → AreRight rows more → AreRight rows (map proof_line us ++ more)
right-proof rows [] more fit right = right
right-proof rows (u ∷ us) more (small, plain, fit) right = (small, tt, plain, right-proof rows us more fit right)

pub right-streams : (rows : Rows) (us : List (UnifyCode × ℕ)) (qs : List (ProofCode × ℕ)) (more : List Line) → AreFit unify_has_number us → AreFit proof_has_number qs → AreRight rows more → AreRight rows (both_streams us qs ++ more)
right-streams rows us qs more fit-us fit-qs right =
    let tail : AreRight rows ((map proof_line qs ++ (lines.ProofEnd ∷ [])) ++ more) =
    subst (AreRight rows) (sym (append_assoc (map proof_line qs) (lines.ProofEnd ∷ []) more)) (right-proof rows qs (lines.ProofEnd ∷ more) fit-qs (tt, tt, tt, right)) in
    subst (AreRight rows) (sym (append_assoc (map unify_line us) (lines.UnifyEnd ∷ (map proof_line qs ++ (lines.ProofEnd ∷ []))) more))
    (right-unify rows us (lines.UnifyEnd ∷ ((map proof_line qs ++ (lines.ProofEnd ∷ [])) ++ more)) fit-us (tt, tt, tt, tail))
