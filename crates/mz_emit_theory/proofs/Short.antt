-- Operands of what is written take four bytes.
use Rattle.std.proofs.Common.{◌≡◌, ℕ, suc, ◌+◌, ◌<◌, ◌≤◌, ◌*◌, Bool, true, false, cond, List, [], ◌∷◌, ◌++◌, length, Option, Some, None, refl, sym, ap, subst, ◌∙◌, arith, length-append}
use Rattle.std.specs.Prelude.{slice_get, reverse, ◌^◌, nat_lt, ◌==◌}
use Rattle.std.proofs.lemmas.List.{reverse-append}
use Rattle.std.proofs.lemmas.Option.{slice_get_within, get_or_from_slice_get}
use Rattle.byteorder.specs.Numbers.{length-bytes_low_first}
use Rattle.mz_cmd.specs.Spelling.{operand_len, shortest_size, shortest}
use Rattle.mz_logic_theory.specs.Tree.{Tree, Trees, var, app, none, more, listed, size, trees_size}
use Rattle.mz_logic_theory.specs.Signature.{Signature}
use Rattle.mz_logic_theory.specs.Sorts.{HasSort, Fits}
use Rattle.mz_logic_theory.specs.Legality.{binder_at}
use Rattle.mz_logic_theory.specs.declared.binder.Binder.{Binder}
use Rattle.mz_machine_theory.specs.Streams.{UnifyCommand, u_term, u_term_save, u_ref, u_dummy, u_hyp, u_end}
use Rattle.mz_machine_theory.specs.Sorted.{Sorted, AllSorted}
use Rattle.mz_machine_theory.proofs.Offered.{length-params, sorted-reverse}
use Rattle.mz_emit_theory.specs.SymbolicState.{from_to}
use Rattle.mz_emit_theory.specs.StreamWriting.{Writing, Written, writing_start, meeting, place_in, are_met, referred, headed, head_of, marked_if, write, write_all, write_hyps, assertion_written, definition_written, unify_bytes, stream_of, AreShort}
use Rattle.mz_emit_theory.specs.StreamLaws.{IsSmall, AssertionsAreShort, DefinitionsAreShort, AssertionsAreBounded, DefinitionsAreBounded}
use Rattle.mz_emit_theory.proofs.Marking.{place-found}

short-append : (us vs : List UnifyCommand) → AreShort us → AreShort vs → AreShort (us ++ vs)
short-append [] vs h h' = h'
short-append (u ∷ us) vs (one, h) h' = (one, short-append us vs h h')

-- at most `most` commands, and as many marks; with few enough of both, short ones
pub record Shorts (w : Writing) (most : ℕ) (out : Written) : Type 0 where
  pub few : length out.commands ≤ most
  pub marks : length out.after.trees ≤ length w.trees + length out.commands
  pub short : length w.trees + length out.commands ≤ 2 ^ 32 → AreShort out.commands

module _ (sigs : List Signature) (ctx : List Binder) (own : List ℕ) (small : IsSmall sigs ctx) where
  one-longer : (w : Writing) (e : Tree) → length (w.trees ++ e ∷ []) ≡ suc (length w.trees)
  one-longer w e = length-append w.trees (e ∷ []) ∙ omega arith

  ref-short : (w : Writing) (e : Tree) (i most : ℕ) → slice_get w.trees i ≡ Some e → 1 ≤ most → Shorts w most (record { commands = u_ref i ∷ []; after = w })
  ref-short w e i most at le = let below = slice_get_within w.trees i e at in record { few = le; marks = omega arith; short = λ h. (omega (arith, below, h), tt) }

  var-short : (w : Writing) (x : ℕ) (b : Binder) → slice_get ctx x ≡ Some b → Shorts w 1 (write own ctx w (var x))
  var-short w x b at = go (place_in (var x) w.trees) refl
    where
      go : (o : Option ℕ) → place_in (var x) w.trees ≡ o → Shorts w 1 (referred o w (record { commands = u_dummy (binder_at ctx x).sort ∷ []; after = meeting w x }))
      go (Some i) is = ref-short w (var x) i 1 (place-found (var x) w.trees i is) (omega arith)
      go None is =
          let long = one-longer w (var x) in
          let sort : (binder_at ctx x).sort ≡ b.sort = ap (λ (z : Binder). z.sort) (get_or_from_slice_get ctx x b _ at) in
          record { few = omega arith; marks = omega (arith, long); short = λ h. (subst (λ (s : ℕ). s < 2 ^ 32) (sym sort) (small.sorts x b at), tt) }

  headed-short : (w : Writing) (t most : ℕ) (e : Tree) → t < length sigs → (saved : Bool) (out : Written) → Shorts (marked_if saved w e) most out → Shorts w (suc most) (headed (head_of saved t) out)
  headed-short w t most e lt true out h =
      let long = one-longer w e in
      let few = h.few in
      let marks = h.marks in
      let terms = small.terms in
      record { few = omega (arith, few); marks = omega (arith, long, marks); short = λ all. (omega (arith, lt, terms), h.short (omega (arith, long, all))) }
  headed-short w t most e lt false out h =
      let few = h.few in
      let marks = h.marks in
      let terms = small.terms in
      record { few = omega (arith, few); marks = omega (arith, marks); short = λ all. (omega (arith, lt, terms), h.short (omega (arith, all))) }

  app-short : (w : Writing) (t : ℕ) (es : Trees) → t < length sigs → ((v : Writing) → Shorts v (trees_size es) (write_all own ctx v es)) → Shorts w (suc (trees_size es)) (write own ctx w (app t es))
  app-short w t es lt all = go (place_in (app t es) w.trees) refl (are_met (own ++ w.dummies) (app t es))
    where
      go : (o : Option ℕ) → place_in (app t es) w.trees ≡ o → (saved : Bool) → Shorts w (suc (trees_size es)) (referred o w (headed (head_of saved t) (write_all own ctx (marked_if saved w (app t es)) es)))
      go (Some i) is saved = ref-short w (app t es) i (suc (trees_size es)) (place-found (app t es) w.trees i is) (omega arith)
      go None is saved = headed-short w t (trees_size es) (app t es) lt saved (write_all own ctx (marked_if saved w (app t es)) es) (all (marked_if saved w (app t es)))

  both-short : (w : Writing) (most most' : ℕ) (a b : Written) → Shorts w most a → Shorts a.after most' b → Shorts w (most + most') (record { commands = a.commands ++ b.commands; after = b.after })
  both-short w most most' a b h h' =
      let long = length-append a.commands b.commands in
      let few = h.few in
      let few' = h'.few in
      let marks = h.marks in
      let marks' = h'.marks in
      record {
        few = omega (arith, long, few, few');
        marks = omega (arith, long, marks, marks');
        short = λ all. short-append a.commands b.commands (h.short (omega (arith, long, all))) (h'.short (omega (arith, long, all, marks)));
      }

  mutual
    pub write-short : (w : Writing) (e : Tree) (s : ℕ) → HasSort sigs ctx e s → Shorts w (size e) (write own ctx w e)
    write-short w (var x) s (b, at, _) = var-short w x b at
    write-short w (app t es) s (d, at, _, fits) = app-short w t es (slice_get_within sigs t d at) (λ v. all-short v es d.params fits)

    pub all-short : (w : Writing) (es : Trees) (ps : List Binder) → Fits sigs ctx es ps → Shorts w (trees_size es) (write_all own ctx w es)
    all-short w none ps fits = record { few = omega arith; marks = omega arith; short = λ h. tt }
    all-short w (more e es) [] fits = absurd fits
    all-short w (more e es) (p ∷ ps) (has, _, fits) =
        both-short w (size e) (trees_size es) (write own ctx w e) (write_all own ctx (write own ctx w e).after es) (write-short w e p.sort has) (all-short (write own ctx w e).after es ps fits)

  -- ---- hypotheses, each with its command

  abbrev pub sizes : List Tree → ℕ
  sizes [] = 0
  sizes (h ∷ hs) = suc (size h) + sizes hs

  hyps-short : (w : Writing) (hs : List Tree) → AllSorted sigs ctx hs → Shorts w (sizes hs) (write_hyps own ctx w hs)
  hyps-short w [] sorted = record { few = omega arith; marks = omega arith; short = λ h. tt }
  hyps-short w (h ∷ hs) ((s, has), sorted) =
      let a : Written = write own ctx w h in
      let b : Written = write_hyps own ctx a.after hs in
      let both = both-short w (size h) (sizes hs) a b (write-short w h s has) (hyps-short a.after hs sorted) in
      let few = both.few in
      let marks = both.marks in
      record { few = omega (arith, few); marks = omega (arith, marks); short = λ all. (tt, both.short (omega (arith, all))) }

  sizes-append : (xs ys : List Tree) → sizes (xs ++ ys) ≡ sizes xs + sizes ys
  sizes-append [] ys = omega arith
  sizes-append (x ∷ xs) ys = let rest = sizes-append xs ys in omega (arith, rest)

  sizes-turned : (xs : List Tree) → sizes (reverse xs) ≡ sizes xs
  sizes-turned [] = refl
  sizes-turned (x ∷ xs) =
      let rest = sizes-turned xs in
      let one = sizes-append (reverse xs) (x ∷ []) in
      ap sizes (reverse-append (x ∷ []) xs) ∙ omega (arith, rest, one)

  sizes-listed : (es : Trees) → sizes (listed es) ≡ trees_size es + length (listed es)
  sizes-listed none = refl
  sizes-listed (more e es) = let rest = sizes-listed es in omega (arith, rest)

assertion-shorts : (sigs : List Signature) (params : List Binder) (hyps : Trees) (e : Tree) (small : IsSmall sigs params) → AllSorted sigs params (listed hyps) → Sorted sigs params e
    → Shorts (writing_start params) (size e + (trees_size hyps + length (listed hyps))) (assertion_written params hyps e)
assertion-shorts sigs params hyps e small hyps-sorted (s, has) =
    let own : List ℕ = from_to 0 params in
    let w : Writing = writing_start params in
    let a : Written = write own params w e in
    let hs : List Tree = reverse (listed hyps) in
    let many : sizes sigs params own small hs ≡ trees_size hyps + length (listed hyps) = sizes-turned sigs params own small (listed hyps) ∙ sizes-listed sigs params own small hyps in
    subst (λ (n : ℕ). Shorts w (size e + n) (assertion_written params hyps e)) many
    (both-short sigs params own small w (size e) (sizes sigs params own small hs) a (write_hyps own params a.after hs) (write-short sigs params own small w e s has)
    (hyps-short sigs params own small a.after hs (sorted-reverse sigs params (listed hyps) hyps-sorted)))

pub assertions-short : AssertionsAreShort
assertions-short sigs params hyps e small hyps-sorted sorted le =
    let h = assertion-shorts sigs params hyps e small hyps-sorted sorted in
    let few = h.few in
    let long = length-params 0 params in
    h.short (omega (arith, few, long, le))

pub definitions-short : DefinitionsAreShort
definitions-short sigs params dummies body small (s, has) le =
    let h = write-short sigs (params ++ dummies) (from_to 0 params) small (writing_start params) body s has in
    let few = h.few in
    let long = length-params 0 params in
    h.short (omega (arith, few, long, le))

-- ---- bytes

size-small : (v : ℕ) → operand_len (shortest_size v) ≤ 4
size-small v = go (v == 0) (nat_lt v 256) (nat_lt v 65536)
  where
    go : (a b d : Bool) → operand_len (cond a 0 (cond b 1 (cond d 2 3))) ≤ 4
    go false false true = omega arith
    go _ _ _ = omega arith

shortest-five : (code v : ℕ) → length (shortest code v) ≤ 5
shortest-five code v = let long = length-bytes_low_first 0 (operand_len (shortest_size v)) v in let small = size-small v in omega (arith, long, small)

command-five : (u : UnifyCommand) → length (unify_bytes u) ≤ 5
command-five (u_term t) = shortest-five 0x30 t
command-five (u_term_save t) = shortest-five 0x31 t
command-five (u_ref i) = shortest-five 0x32 i
command-five (u_dummy s) = shortest-five 0x33 s
command-five u_hyp = shortest-five 0x36 0
command-five u_end = omega arith

stream-five : (us : List UnifyCommand) → length (stream_of us) ≤ 5 * length us + 1
stream-five [] = omega arith
stream-five (u ∷ us) =
    let long = length-append (unify_bytes u) (stream_of us) in
    let one = command-five u in
    let rest = stream-five us in
    omega (arith, long, one, rest)

pub assertions-bounded : AssertionsAreBounded
assertions-bounded sigs params hyps e small hyps-sorted sorted =
    let few = (assertion-shorts sigs params hyps e small hyps-sorted sorted).few in
    let five = stream-five (assertion_written params hyps e).commands in
    omega (arith, few, five)

pub definitions-bounded : DefinitionsAreBounded
definitions-bounded sigs params dummies body small (s, has) =
    let h = write-short sigs (params ++ dummies) (from_to 0 params) small (writing_start params) body s has in
    let few = h.few in
    let five = stream-five (definition_written params dummies body).commands in
    omega (arith, few, five)
