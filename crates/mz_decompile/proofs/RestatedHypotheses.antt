-- An axiom or theorem has no more hypotheses than its stream has bytes.
use Rattle.std.proofs.Common.{◌≡◌, ◌≤◌, ◌<◌, ◌+◌, ℕ, List, [], ◌∷◌, length, drop, Bool, true, false, cond, ltb, Ok, Err, ap, inl, inr, arith, length-drop}
use Rattle.std.specs.Prelude.{reverse, ◌/◌, ◌%◌}
use Rattle.std.proofs.lemmas.List.{length-reverse}
use Rattle.mz_cmd.specs.declared.command.Cmd.{Cmd}
use Rattle.mz_cmd.specs.declared.command.CmdFault.TheVariants.{Cut, Unknown}
use Rattle.mz_cmd.specs.Codes.{is_known}
use Rattle.mz_cmd.specs.Spelling.{operand_len}
use Rattle.mz_cmd.specs.Reading.{first_command}
use Rattle.mz_logic_theory.specs.Tree.{Tree, Trees, var, app, none, more, listed}
use Rattle.mz_logic_theory.specs.Signature.{Signature}
use Rattle.mz_logic_theory.specs.Declaration.{Assertion}
use Rattle.mz_machine_theory.specs.Streams.{StreamKind, of_assertion, UnifyCommand, StreamIs}
use Rattle.mz_machine_theory.specs.Spells.{Marks, marked, at_first, Spells, SpellsAll, SpellsHyps, SpelledThm, SpellsThm}

-- ---- a command takes a byte at least, and stands within the bytes

whole : (head value : ℕ) (c : Cmd) (short known : Bool)
    → cond short (Err Cut) (cond known (Ok (record { code = head % 64; value = value; len = operand_len (head / 64) + 1 })) (Err Unknown)) ≡ Ok c → 1 ≤ c.len
whole head value c true known e = absurd cc
whole head value c false false e = absurd cc
whole head value c false true e = let len : operand_len (head / 64) + 1 ≡ c.len = cc in omega (arith, len)

command-long : (bytes : List ℕ) (c : Cmd) → first_command bytes ≡ Ok c → (1 ≤ c.len) × (1 ≤ length bytes)
command-long [] c e = absurd cc
command-long (head ∷ rest) c e = (whole head _ c (ltb (length rest) (operand_len (head / 64))) (is_known (head % 64)) e, omega arith)

stream-long : (kind : StreamKind) (bytes : List ℕ) (us : List UnifyCommand) → StreamIs kind bytes us → length us ≤ length bytes
stream-long kind bytes [] h = omega arith
stream-long kind bytes (u ∷ us) (c, first, is, on, rest) =
    let long = command-long bytes c first in
    let few = stream-long kind (drop c.len bytes) us rest in
    let left = length-drop c.len bytes in
    omega (arith, long.0, long.1, few, left)

-- ---- expressions use up commands

mutual
  uses : (n : ℕ) (sigs : List Signature) (m : Marks) (us : List UnifyCommand) (e : Tree) (m' : Marks) (us' : List UnifyCommand) → Spells n sigs m us e m' us' → length us' < length us
  uses n sigs m us (var x) m' us' (inl (i, is, at, same)) = omega (arith, ap length is)
  uses n sigs m us (var x) m' us' (inr (s, is, at, same)) = omega (arith, ap length is)
  uses n sigs m us (app t es) m' us' (inl (i, is, at, same)) = omega (arith, ap length is)
  uses n sigs m us (app t es) m' us' (inr (inl (rest, is, has, all))) = let few = use-all n sigs m rest es m' us' all in omega (arith, ap length is, few)
  uses n sigs m us (app t es) m' us' (inr (inr (rest, is, has, all))) = let few = use-all n sigs (marked m (app t es)) rest es m' us' all in omega (arith, ap length is, few)

  use-all : (n : ℕ) (sigs : List Signature) (m : Marks) (us : List UnifyCommand) (es : Trees) (m' : Marks) (us' : List UnifyCommand)
      → SpellsAll n sigs m us es m' us' → length us' ≤ length us
  use-all n sigs m us none m' us' (same, is) = omega (arith, ap length is)
  use-all n sigs m us (more e es) m' us' (mid, rest, first, all) =
      let a = uses n sigs m us e mid rest first in
      let b = use-all n sigs mid rest es m' us' all in
      omega (arith, a, b)

hyps-use : (n : ℕ) (sigs : List Signature) (m : Marks) (us : List UnifyCommand) (hs : List Tree) (m' : Marks) → SpellsHyps n sigs m us hs m' → length hs ≤ length us
hyps-use n sigs m us [] m' h = omega arith
hyps-use n sigs m us (h ∷ hs) m' (rest, mid, us', is, first, all) =
    let a = uses n sigs m rest h mid us' first in
    let b = hyps-use n sigs mid us' hs m' all in
    omega (arith, ap length is, a, b)

pub hyps-few : (sigs : List Signature) (row : SpelledThm) (a : Assertion) → SpellsThm sigs row a → length (listed a.hyps) ≤ length row.stream
hyps-few sigs row a (params, (last, (us, is, mid, rest, first, hyps), no_dummies)) =
    let long = stream-long of_assertion row.stream us is in
    let used = uses (length row.params) sigs (at_first row.params) us a.conclusion mid rest first in
    let few = hyps-use (length row.params) sigs mid rest (reverse (listed a.hyps)) last hyps in
    let same : length (reverse (listed a.hyps)) ≡ length (listed a.hyps) = length-reverse (listed a.hyps) in
    omega (arith, long, used, few, same)
