-- A statement has no more variables than its line has bytes.
use Rattle.std.proofs.Common.{◌≡◌, ◌≤◌, ◌++◌, ℕ, suc, List, [], ◌∷◌, length, Bool, false, None, Some, ap, refl, subst, arith, codes, length-append}
use Rattle.std.specs.Prelude.{if◌then◌else◌}
use Rattle.std.proofs.lemmas.Bool.{true≢false}
use Rattle.mz_base.specs.Checks.{AllHold}
use Rattle.mz_logic_theory.specs.Tree.{Tree}
use Rattle.mz_logic_theory.specs.Signature.{Signature}
use Rattle.mz_logic_theory.specs.Declaration.{Form, plain_form, abstract_form, defined, dummies_of, Declaration, sort_decl, term_decl, assertion_decl}
use Rattle.mz_logic_theory.specs.declared.binder.Binder.{Binder}
use Rattle.mz_spec_theory.specs.declared.kind.Kind.{Kind}
use Rattle.mz_spec_theory.specs.declared.kind.Kind.TheVariants.{Term, Assert, Definition}
use Rattle.mz_mmu_theory.specs.Statements.{Statement}
use Rattle.mz_prefix.specs.Tokens.{Word, written}
use Rattle.mz_prefix.specs.Lines.{PlainBinder, Line, binder_words, binders_words, colon_words, end_words, type_words, body_words, hyps_words, math_word, head_words, title_words, line_words, line_text, lines_text}
use Rattle.mz_prefix.proofs.PlainLines.{written-append}
use Rattle.mz_prefix.specs.NamedDeclarations.{Vocabulary, kind_of, formula_of, formulas_of, plain_type, plain_param, plain_dummy, plain_dummies, plain_binders, term_line_of, line_of_decl, lines_of}
use Rattle.mz_prefix.specs.PublicPart.{public_number, renamed, shown, public_decl}
use Rattle.mz_prefix.specs.Wording.{publics_named, vocabulary_of, local_terms, local_checks, long_checks}
use Rattle.mz_prefix.proofs.Cases.{chosen}
use Rattle.mz_prefix.proofs.Printing.{HasRoom, AreWanted}

-- ---- tokens

-- tokens among others are no longer
within : (xs ys zs : List Word) → length (written ys) ≤ length (written ((xs ++ ys) ++ zs))
within xs ys zs =
    omega (arith, ap length (written-append (xs ++ ys) zs), length-append (written (xs ++ ys)) (written zs), ap length (written-append xs ys), length-append (written xs) (written ys))

-- a binder is written with a byte at least
one-binder : (b : PlainBinder) (bs : List PlainBinder) → suc (length (written (binders_words bs))) ≤ length (written (binders_words (b ∷ bs)))
one-binder b bs = omega (arith, ap length (written-append (binder_words b) (binders_words bs)), length-append (written (binder_words b)) (written (binders_words bs)))

dummies-long : (v : Vocabulary) (x : ℕ) (ds : List Binder) → length ds ≤ length (written (binders_words (plain_dummies v x ds)))
dummies-long v x [] = omega arith
dummies-long v x (d ∷ ds) = omega (arith, dummies-long v (suc x) ds, one-binder (plain_dummy v x d) (plain_dummies v (suc x) ds))

binders-long : (v : Vocabulary) (x : ℕ) (bs ds : List Binder) → length (bs ++ ds) ≤ length (written (binders_words (plain_binders v x bs ds)))
binders-long v x [] ds = dummies-long v x ds
binders-long v x (b ∷ bs) ds = omega (arith, binders-long v (suc x) bs ds, one-binder (plain_param v x b) (plain_binders v (suc x) bs ds))

-- behind a keyword and a name
headed : (v : Vocabulary) (kind : Kind) (name : List ℕ) (bs ds : List Binder) (rest : List Word) → length (bs ++ ds) ≤ length (written (head_words kind name (plain_binders v 0 bs ds) ++ rest))
headed v kind name bs ds rest = omega (arith, binders-long v 0 bs ds, within (title_words kind name) (binders_words (plain_binders v 0 bs ds)) rest)

-- ---- lines

form-room : (v : Vocabulary) (name : List ℕ) (sig : Signature) (form : Form) → length (sig.params ++ dummies_of form) ≤ length (written (line_words (term_line_of v name sig form)))
form-room v name sig plain_form = headed v Term name sig.params [] (colon_words ++ (type_words (plain_type v sig.result.sort sig.result.deps) ++ end_words))
form-room v name sig abstract_form = headed v Definition name sig.params [] (colon_words ++ (type_words (plain_type v sig.result.sort sig.result.deps) ++ (body_words None ++ end_words)))
form-room v name sig (defined ds e) =
    headed v Definition name sig.params ds (colon_words ++ (type_words (plain_type v sig.result.sort sig.result.deps) ++ (body_words (Some (formula_of v e)) ++ end_words)))

line-room : (v : Vocabulary) (name : List ℕ) (d : Declaration) → HasRoom (length (written (line_words (line_of_decl v name d)))) d
line-room v name (sort_decl m) = tt
line-room v name (term_decl d) = form-room v name d.signature d.form
line-room v name (assertion_decl a) =
    omega (
      arith,
      length-append a.params [],
      headed v (Assert (kind_of a.is_axiom)) name a.params [] (colon_words ++ (hyps_words (formulas_of v a.hyps) ++ (math_word (formula_of v a.conclusion) ∷ end_words))),
    )

-- more room is room
more-room : (m n : ℕ) (d : Declaration) → m ≤ n → HasRoom m d → HasRoom n d
more-room m n (sort_decl s) le room = tt
more-room m n _ le room = omega (arith, room, le)

-- the numbers of terms don't matter
same-dummies : (hidden : Tree → Bool) (f g : ℕ → ℕ) (form : Form) → dummies_of (shown hidden f form) ≡ dummies_of (shown hidden g form)
same-dummies hidden f g (defined ds e) =
    chosen (λ (b : Bool). dummies_of (if b then abstract_form else defined ds (renamed f e)) ≡ dummies_of (if b then abstract_form else defined ds (renamed g e))) (hidden e) (λ is. refl) (λ is. refl)
same-dummies hidden f g _ = refl

same-room : (hidden : Tree → Bool) (f g : ℕ → ℕ) (n : ℕ) (d : Declaration) → HasRoom n (public_decl hidden f d) → HasRoom n (public_decl hidden g d)
same-room hidden f g n (sort_decl m) room = tt
same-room hidden f g n (term_decl d) room = subst (λ (ds : List Binder). length (d.signature.params ++ ds) ≤ n) (same-dummies hidden f g d.form) room
same-room hidden f g n (assertion_decl a) room = room

-- ---- all statements

module _ (all : List Statement) (hidden : Tree → Bool) where
  abbrev v : Vocabulary
  v = vocabulary_of all

  abbrev one_line : Statement → Line
  one_line s = line_of_decl v s.name (public_decl hidden (λ t. t) s.decl)

  abbrev rest_lines : List Statement → List Line
  rest_lines ss = lines_of v (publics_named hidden ss)

  -- a public statement has its line among the others
  lines-long : (s : Statement) (ss : List Statement) (m : ℕ) → length (lines_text (rest_lines (s ∷ ss))) ≤ m
      → (length (lines_text (rest_lines ss)) ≤ m) × (s.is_local ≡ false → length (written (line_words (one_line s))) ≤ m)
  lines-long s ss m =
      chosen (λ (b : Bool). length (lines_text (lines_of v (if b then publics_named hidden ss else record { name = s.name; decl = public_decl hidden (λ t. t) s.decl } ∷ publics_named hidden ss))) ≤ m
      → (length (lines_text (rest_lines ss)) ≤ m) × (b ≡ false → length (written (line_words (one_line s))) ≤ m)) s.is_local
      (λ local le. (le, λ is. absurd (true≢false is)))
      (λ public le.
      let one = length-append (line_text (one_line s)) (lines_text (rest_lines ss)) in
      let own = length-append (written (line_words (one_line s))) (codes "\n") in
      (omega (arith, le, one), λ is. omega (arith, le, one, own)))

  pub all-wanted : (ss : List Statement) (k m : ℕ) → AllHold (local_checks (local_terms all) k ss) → AllHold (long_checks v k ss) → length (lines_text (rest_lines ss)) ≤ m → AreWanted all hidden m ss
  all-wanted [] k m sayable brief le = tt
  all-wanted (s ∷ ss) k m sayable brief le =
      let long = lines-long s ss m le in (
        λ public. (
          sayable.0 public,
          brief.0 public,
          same-room hidden (λ t. t) (public_number (local_terms all)) m s.decl
              (more-room (length (written (line_words (one_line s)))) m (public_decl hidden (λ t. t) s.decl) (long.1 public) (line-room v s.name (public_decl hidden (λ t. t) s.decl))),
        ),
        all-wanted ss (suc k) m sayable.1 brief.1 long.0,
      )
