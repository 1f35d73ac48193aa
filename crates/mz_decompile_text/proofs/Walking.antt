-- Names are gathered as the list of statements goes on.
use Rattle.std.proofs.Common.{◌≡◌, ◌∙◌, ◌+◌, ◌⊎◌, ℕ, suc, Bool, true, false, List, [], ◌∷◌, ◌++◌, get_or, refl, sym, ap, subst, inl, inr, arith, append_assoc, append-nil}
use Rattle.std.specs.Prelude.{MatchBool, codes, decimal, if◌then◌else◌}
use Rattle.mz_base.specs.Checks.{AllHold}
use Rattle.mz_cmd.specs.declared.code.StatementCode.{StatementCode}
use Rattle.mz_cmd.specs.declared.code.StatementCode.TheVariants as kinds
use Rattle.mz_cmd.specs.Codes.{statement_byte}
use Rattle.mz_logic_theory.specs.Declaration.{Declaration, sort_decl, term_decl, assertion_decl}
use Rattle.mz_logic_theory.specs.LegalLists.{Statement}
use Rattle.mz_layout_tables.specs.Heads.{head_checks}
use Rattle.mz_layout_tables.specs.declared.head.Head.{Head}
use Rattle.mz_binary_theory.specs.Spelling.{IsKindOf, is_local_code}
use Rattle.mz_binary_theory.specs.Chains.{IsListEnd}
use Rattle.mz_binary_theory.specs.Good.{Good}
use Rattle.mz_binary_theory.specs.Standards.{strict_standard}
use Rattle.mz_binary_theory.proofs.Offered.{one-list, good-spelled}
use Rattle.mz_binary_walk.specs.Walk.{GoesOn, nothing_passed, passed_with, past_public}
use Rattle.mz_binary_walk.specs.declared.passed.Passed.{Passed}
use Rattle.mz_binary_walk.proofs.Offered.{HasGone, IsOnWay, one-code, way-asks, way-first, way-last, way-more}
use Rattle.mz_spec_theory.specs.State.{Entry}
use Rattle.mz_spec_theory.specs.Spec.{SpecMakes}
use Rattle.mz_spec_theory.proofs.Offered.{one-reading}
use Rattle.mz_spec_theory.specs.Names.{name_at}
use Rattle.mz_mmu_theory.specs.DeclaredNames.{sort_name, term_name, assertion_name, prefix_beside}
use Rattle.mz_decompile_text.specs.Naming.{Naming}
use Rattle.mz_decompile_text.specs.Names.{declared_names, statement_names}
use Rattle.mz_decompile_text.specs.Accepted.{names_of, naming_by, IsNamingOf}
use Rattle.mz_decompile_text.specs.Adding.{next_name, as_sort, as_term, as_assertion, IsAdded, AreGathered}
use Rattle.mz_decompile_text.proofs.Named.{same-naming}
use Rattle.mz_decompile_text.proofs.Runs.{name-is}

-- ---- by the code of a statement

abbrev Same : List ℕ → Declaration → StatementCode → Type 0
Same name d code = (as_sort code name ≡ sort_name d name) × (as_term code name ≡ term_name d name) × (as_assertion code name ≡ assertion_name d name)

by-code : (name : List ℕ) (code : StatementCode) (d : Declaration) → IsKindOf (statement_byte code) d → Same name d code
by-code name code (sort_decl m) is = subst (Same name (sort_decl m)) (sym (one-code code kinds.Sort is)) (refl, refl, refl)
by-code name code (term_decl t) (inl is) = subst (Same name (term_decl t)) (sym (one-code code kinds.Term is)) (refl, refl, refl)
by-code name code (term_decl t) (inr is) = subst (Same name (term_decl t)) (sym (one-code code kinds.LocalDefinition is)) (refl, refl, refl)
by-code name code (assertion_decl a) is = by a.is_axiom is
  where
    by : (b : Bool) → MatchBool b (statement_byte code ≡ 0x02) ((statement_byte code ≡ 0x06) ⊎ (statement_byte code ≡ 0x0E)) → Same name (assertion_decl a) code
    by true e = subst (Same name (assertion_decl a)) (sym (one-code code kinds.Axiom e)) (refl, refl, refl)
    by false (inl e) = subst (Same name (assertion_decl a)) (sym (one-code code kinds.Theorem e)) (refl, refl, refl)
    by false (inr e) = subst (Same name (assertion_decl a)) (sym (one-code code kinds.LocalTheorem e)) (refl, refl, refl)

-- ---- the name of a public statement

pub public-name : (spec : List ℕ) (entries : List Entry) (prefix : List ℕ) (b : Bool) (publics number : ℕ) (name : List ℕ) → b ≡ false → name ≡ name_at spec entries publics
    → name ≡ next_name (declared_names spec entries) prefix b publics number
public-name spec entries prefix b publics number name is-public is =
    is ∙ sym (ap (λ (l : Bool). next_name (declared_names spec entries) prefix l publics number) is-public ∙ name-is spec entries publics)

-- ---- how far the list has been gone over

abbrev pub no-names : List ℕ → Naming
no-names prefix = record { sorts = []; terms = []; assertions = []; prefix = prefix }

module _ (names : List (List ℕ)) where
  -- what is left of the names of one kind, behind so many statements and public ones
  abbrev pub left-of : (Declaration → List ℕ → List (List ℕ)) → (publics number : ℕ) → List Statement → List (List ℕ)
  left-of part publics number after = names_of part after (statement_names names (prefix_beside names) publics (suc number) after)

  abbrev next-of : Bool → (publics number : ℕ) → List ℕ
  next-of local publics number = next_name names (prefix_beside names) local publics (suc number)

  cut : (part : Declaration → List ℕ → List (List ℕ)) (s : Statement) (ss : List Statement) (publics number : ℕ) (b : Bool)
      → names_of part (s ∷ ss) (if b then (prefix_beside names ++ (codes "l" ++ decimal (suc number))) ∷ statement_names names (prefix_beside names) publics (suc (suc number)) ss
      else get_or names publics [] ∷ statement_names names (prefix_beside names) (suc publics) (suc (suc number)) ss)
      ≡ part s.decl (next-of b publics number) ++ left-of part (past_public publics b) (suc number) ss
  cut part s ss publics number true = refl
  cut part s ss publics number false = let e : suc publics ≡ publics + 1 = omega arith in ap (λ (k : ℕ). part s.decl (get_or names publics []) ++ left-of part k (suc number) ss) e

  one-more : (part : Declaration → List ℕ → List (List ℕ)) (s : Statement) (ss : List Statement) (publics number : ℕ) (old new all : List (List ℕ))
      → new ≡ old ++ part s.decl (next-of s.is_local publics number) → old ++ left-of part publics number (s ∷ ss) ≡ all
      → new ++ left-of part (past_public publics s.is_local) (suc number) ss ≡ all
  one-more part s ss publics number old new all added so_far =
      let here = part s.decl (next-of s.is_local publics number) in
      let more = left-of part (past_public publics s.is_local) (suc number) ss in
      ap (λ (xs : List (List ℕ)). xs ++ more) added ∙ append_assoc old here more
      ∙ sym (ap (λ (xs : List (List ℕ)). old ++ xs) (cut part s ss publics number s.is_local)) ∙ so_far

  module _ (file : List ℕ) where
    pub record Walked (p : Passed) (naming : Naming) : Type 0 where
      pub whole : List Statement
      pub before : List Statement
      pub after : List Statement
      pub env : List Declaration
      pub way : IsOnWay file p whole before after env
      pub sorts : naming.sorts ++ left-of sort_name p.publics p.statements after ≡ left-of sort_name 0 0 whole
      pub terms : naming.terms ++ left-of term_name p.publics p.statements after ≡ left-of term_name 0 0 whole
      pub assertions : naming.assertions ++ left-of assertion_name p.publics p.statements after ≡ left-of assertion_name 0 0 whole
      pub prefix : naming.prefix ≡ prefix_beside names

    pub walked-first : (ss : List Statement) → Good strict_standard file ss → Walked (nothing_passed file) (no-names (prefix_beside names))
    walked-first ss good = record {
      whole = ss;
      before = [];
      after = ss;
      env = [];
      way = way-first file ss good;
      sorts = refl;
      terms = refl;
      assertions = refl;
      prefix = refl;
    }

    pub walked-asks : (p : Passed) (naming : Naming) → Walked p naming → AllHold (head_checks file p.rows p.at)
    walked-asks p naming w = way-asks file p w.whole w.before w.after w.env w.way

    pub walked-more : (p : Passed) (head : Head) (after : Passed) (old new : Naming) → Walked p old → GoesOn file p head after
        → IsAdded head.code (next_name names old.prefix (is_local_code (statement_byte head.code)) p.publics after.statements) old new → Walked after new
    walked-more p head after old new w on added = subst (λ (q : Passed). Walked q new) (sym on.passed) (record {
      whole = w.whole;
      before = w.before ++ s ∷ [];
      after = gone.rest;
      env = w.env ++ s.decl ∷ [];
      way = gone.on;
      sorts = kept sort_name old.sorts new.sorts w.sorts (add.sorts ∙ ap (λ (xs : List (List ℕ)). old.sorts ++ xs) same.0);
      terms = kept term_name old.terms new.terms w.terms (add.terms ∙ ap (λ (xs : List (List ℕ)). old.terms ++ xs) same.1);
      assertions = kept assertion_name old.assertions new.assertions w.assertions (add.assertions ∙ ap (λ (xs : List (List ℕ)). old.assertions ++ xs) same.2);
      prefix = add.prefix ∙ w.prefix;
    })
      where
        gone : HasGone file p w.whole w.before w.after w.env head
        gone = way-more file p w.whole w.before w.after w.env head w.way on.next.head_is

        s : Statement
        s = gone.statement

        number-is : p.statements + 1 ≡ suc p.statements
        number-is = omega arith

        name : List ℕ
        name = next-of s.is_local p.publics p.statements

        name-is : next_name names old.prefix (is_local_code (statement_byte head.code)) p.publics after.statements ≡ name
        name-is =
            ap (λ (q : List ℕ). next_name names q (is_local_code (statement_byte head.code)) p.publics after.statements) w.prefix
            ∙ ap (λ (b : Bool). next_name names (prefix_beside names) b p.publics after.statements) (sym gone.kind.1)
            ∙ ap (next_name names (prefix_beside names) s.is_local p.publics) (ap (λ (q : Passed). q.statements) on.passed ∙ number-is)

        add : IsAdded head.code name old new
        add = subst (λ (n : List ℕ). IsAdded head.code n old new) name-is added

        same : Same name s.decl head.code
        same = by-code name head.code s.decl gone.kind.0

        kept : (part : Declaration → List ℕ → List (List ℕ)) (xs ys : List (List ℕ)) → xs ++ left-of part p.publics p.statements w.after ≡ left-of part 0 0 w.whole
            → ys ≡ xs ++ part s.decl name → ys ++ left-of part (passed_with p head).publics (passed_with p head).statements gone.rest ≡ left-of part 0 0 w.whole
        kept part xs ys so-far more =
            subst (λ (n : ℕ). ys ++ left-of part (past_public p.publics (is_local_code (statement_byte head.code))) n gone.rest ≡ left-of part 0 0 w.whole) (sym number-is)
            (subst (λ (b : Bool). ys ++ left-of part (past_public p.publics b) (suc p.statements) gone.rest ≡ left-of part 0 0 w.whole) gone.kind.1
            (one-more part s gone.rest p.publics p.statements xs ys (left-of part 0 0 w.whole) more
            (subst (λ (ss : List Statement). xs ++ left-of part p.publics p.statements ss ≡ left-of part 0 0 w.whole) gone.after_is so-far)))

    pub walked-last : (p : Passed) (naming : Naming) → Walked p naming → IsListEnd file p.at → AreGathered names file naming
    walked-last p naming w end = (
      w.whole,
      w.way.good,
      same-naming naming (naming_by names w.whole) (all sort_name naming.sorts w.sorts) (all term_name naming.terms w.terms) (all assertion_name naming.assertions w.assertions) w.prefix,
    )
      where
        all : (part : Declaration → List ℕ → List (List ℕ)) (xs : List (List ℕ)) → xs ++ left-of part p.publics p.statements w.after ≡ left-of part 0 0 w.whole → xs ≡ left-of part 0 0 w.whole
        all part xs so-far =
            sym (append-nil xs) ∙ subst (λ (ss : List Statement). xs ++ left-of part p.publics p.statements ss ≡ left-of part 0 0 w.whole)
            (way-last file p w.whole w.before w.after w.env w.way end) so-far

-- ---- the names of a pair

pub names-of-pair : (spec bin : List ℕ) (entries : List Entry) (naming : Naming) → SpecMakes spec entries → AreGathered (declared_names spec entries) bin naming → IsNamingOf spec bin naming
names-of-pair spec bin entries naming makes (ss, good, is) accepts others made =
    let entries-are : entries ≡ others = one-reading spec entries others makes made in
    let statements-are : ss ≡ accepts.statements = one-list bin ss accepts.statements (good-spelled strict_standard bin ss good)
    (good-spelled strict_standard bin accepts.statements accepts.is_good) in
    is ∙ ap (λ (es : List Entry). naming_by (declared_names spec es) ss) entries-are ∙ ap (naming_by (declared_names spec others)) statements-are
