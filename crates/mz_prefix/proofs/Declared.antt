-- The specification that is written of a text declares its public statements.
use Rattle.std.proofs.Common.{◌≡◌, ◌≤◌, ◌<◌, ◌^◌, ℕ, List, [], ◌∷◌, length, Bool, true, false, sym, refl, subst, arith}
use Rattle.std.specs.Prelude.{All, nat_le, not}
use Rattle.std.proofs.lemmas.Bool.{and_parts, or_parts, leb-true}
use Rattle.mz_base.proofs.Offered.{all_hold-first, all_hold-rest}
use Rattle.mz_base.specs.Checks.{AllHold}
use Rattle.mz_logic_theory.specs.Tree.{Tree}
use Rattle.mz_logic_theory.specs.LegalLists.{Legal}
use Rattle.mz_math_theory.specs.Meaning.{height}
use Rattle.mz_math_theory.specs.Formula.{most}
use Rattle.mz_mmu_theory.specs.Statements.{Statement}
use Rattle.mz_mmu_theory.specs.Name.{no_names}
use Rattle.mz_mmu_theory.specs.ReadingLaws.{IsWhole}
use Rattle.mz_mmu_theory.proofs.Offered.{one_reading, are_whole, stated_is_legal}
use Rattle.mz_mmu_theory.specs.Meaning.{marked}
use Rattle.mz_spec_theory.specs.Spec.{SpecOf}
use Rattle.mz_prefix.specs.Lines.{Line, lines_text}
use Rattle.mz_prefix.specs.Prefix.{IsShort}
use Rattle.mz_prefix.specs.NamedDeclarations.{HasVariables, formula_of, decls_of}
use Rattle.mz_prefix.proofs.PrintedLines.{printed-declare}
use Rattle.mz_prefix.specs.PublicPart.{public_number, public_part, mentions_local, Hides, AreSayable}
use Rattle.mz_spec_proved_theory.specs.Match.{publics, Agrees}
use Rattle.mz_prefix.specs.Wording.{vocabulary_of, local_terms, is_short, is_hidden, prefix_text, local_checks, long_checks, wording_checks}
use Rattle.mz_prefix.specs.AgreeLaws.{SpecificationsOfTextsDeclare}
use Rattle.mz_prefix.proofs.Naming.{is-identifier, distinct-names}
use Rattle.mz_prefix.proofs.Agreeing.{public-parts-agree}
use Rattle.mz_prefix.proofs.Titles.{AreTitled, all-titled}
use Rattle.mz_prefix.proofs.Printing.{spoken, named, AreWanted, all-printable}
use Rattle.mz_prefix.proofs.Lines.{same-lines, same-decls}
use Rattle.mz_prefix.proofs.Room.{all-wanted}

module _ (all : List Statement) where
  abbrev hidden : Tree → Bool
  hidden = is_hidden (local_terms all) (vocabulary_of all)

  abbrev n : ℕ
  n = 2 ^ 64

  variables : HasVariables (spoken all) n
  variables = record { names = is-identifier all; distinct = distinct-names all }

  hides : Hides (local_terms all) hidden
  hides e is = (or_parts (mentions_local (local_terms all) e) (not (is_short (vocabulary_of all) e)) is).0

  short-is : (b : Bool) → not b ≡ false → b ≡ true
  short-is true is = refl
  short-is false is = absurd cc

  short : (e : Tree) → hidden e ≡ false → IsShort (formula_of (vocabulary_of all) e) e
  short e is =
      let parts = and_parts (nat_le (length (formula_of (vocabulary_of all) e)) most) (nat_le (height e) most)
      (short-is (is_short (vocabulary_of all) e) (or_parts (mentions_local (local_terms all) e) (not (is_short (vocabulary_of all) e)) is).1) in
      record { few = leb-true _ _ parts.0; low = leb-true _ _ parts.1 }

  sayable : (ss : List Statement) → AreWanted all hidden n ss → AreSayable (local_terms all) (marked ss)
  sayable [] wanted = tt
  sayable (s ∷ ss) wanted = (λ public. (wanted.0 public).0, sayable ss wanted.1)

  wanted : (limit : ℕ) → limit < 2 ^ 64 → AllHold (wording_checks limit all) → AreWanted all hidden n all
  wanted limit small holds =
      let later = all_hold-rest (local_checks (local_terms all) 1 all) _ holds in
      let last : length (prefix_text all) ≤ limit = (all_hold-rest (long_checks (vocabulary_of all) 1 all) _ later).0 in
      all-wanted all hidden all 1 n (all_hold-first (local_checks (local_terms all) 1 all) _ holds) (all_hold-first (long_checks (vocabulary_of all) 1 all) _ later) (omega (arith, last, small))

  declares : AreTitled (no_names false) all → All IsWhole all → Legal (marked all) → AreWanted all hidden n all → SpecOf (prefix_text all) (public_part hidden (marked all))
  declares titled whole legal are =
      let lines = same-lines all hidden n hides are legal in
      let spec = printed-declare (spoken all) n (named hidden (public_number (local_terms all)) all) variables (all-printable all hidden n hides short titled whole are legal) in
      subst (SpecOf (prefix_text all)) (same-decls all hidden n)
      (subst (λ (ls : List Line). SpecOf (lines_text ls) (decls_of (named hidden (public_number (local_terms all)) all))) lines spec)

pub texts-declared : SpecificationsOfTextsDeclare
texts-declared limit text spec small (ss, ((ns, read), legal), holds, is) =
    let list = stated_is_legal false ss legal in
    let are = wanted ss limit small holds in
    record {
      declared = public_part (hidden ss) (marked ss);
      is_spec = subst (λ (bytes : List ℕ). SpecOf bytes (public_part (hidden ss) (marked ss))) (sym is) (declares ss (all-titled (no_names false) ns ss read.1) (are_whole (no_names false) ns ss read.1) list are);
      agrees = λ ts ((ms, other), _). subst (λ (us : List Statement). Agrees (public_part (hidden ss) (marked ss)) (publics (marked us))) (one_reading false text ns ms ss ts read other).1
          (public-parts-agree (marked ss) (hidden ss) list (hides ss) (sayable ss ss are));
    }
