-- Each theorem of a good file has a derivation that cites only axioms of its support: it is proved by what its body cites,
-- and such a list is, by the law of the logic, one by supports.
use Rattle.std.proofs.Common.{◌≡◌, ◌∙◌, ℕ, zero, suc, Bool, true, false, List, [], ◌∷◌, ◌++◌, length, slice_get, Some, refl, sym, ap, subst, inl, inr, append_assoc, length-append, arith}
use Rattle.std.proofs.lemmas.Option.{none-some}
use Rattle.mz_cmd.specs.StatementList.{statement_at}
use Rattle.mz_logic_theory.specs.Declaration.{Assertion, Declaration, sort_decl, term_decl, assertion_decl, assertions}
use Rattle.mz_logic_theory.specs.Derivations.{without_gaps}
use Rattle.mz_logic_theory.specs.LegalLists.{Statement, declarations, IsProvedBy, IsProvedIfTheorem, LegalAfter, LegalBy, gap_free}
use Rattle.mz_logic_theory.specs.Closed.{AreSupports, by_number, on_support}
use Rattle.mz_logic_theory.proofs.Offered.{one_at, assertions-append, cites_more, legal_at, legal_by_supports}
use Rattle.mz_layout_tables.specs.Tables.{list_at}
use Rattle.mz_machine_theory.specs.Sound.{IsCited, used_by, cites_as}
use Rattle.mz_layout_tables.specs.Heads.{body_bytes}
use Rattle.mz_binary_theory.specs.Chains.{IsGoodStatement, GoodTo}
use Rattle.mz_binary_theory.specs.Good.{Good}
use Rattle.mz_binary_theory.proofs.Offered.{chain-more, good-legal, cite-as-bodies}
use Rattle.mz_axioms.specs.Commands.{IsCitedIn}
use Rattle.mz_binary_theory.specs.Gapped.{AssertionBody, body_there, place_after, body_of, bodies_from, bodies_of}
use Rattle.mz_axioms.specs.Supports.{Cites, IsKind, InSupport, within_support}
use Rattle.mz_axioms.proofs.Citing.{cited-within}
use Rattle.mz_axioms.proofs.Supporting.{support-step}
use Rattle.mz_binary_theory.specs.Standards.{strict_standard}

pub at-seam : (done : List AssertionBody) (body : AssertionBody) (tail : List AssertionBody) (n : ℕ) → length done ≡ n → slice_get (done ++ body ∷ tail) n ≡ Some body
at-seam [] body tail zero is = refl
at-seam [] body tail (suc n) is = absurd (omega arith)
at-seam (x ∷ done) body tail zero is = absurd (let e : suc (length done) ≡ 0 = is in omega arith)
at-seam (x ∷ done) body tail (suc n) is = at-seam done body tail n (let e : suc (length done) ≡ suc n = is in omega arith)

module _ (file : List ℕ) where
  -- one statement more has a body more, if it is an axiom or theorem
  many-more : (done : List AssertionBody) (env : List Declaration) (at : ℕ) (d : Declaration) → length done ≡ length (assertions env)
      → length (done ++ body_of file at d) ≡ length (assertions (env ++ d ∷ []))
  many-more done env at d many =
      both done (body_of file at d) (assertions env) (assertions (d ∷ [])) many (one d) ∙ ap (λ (xs : List Assertion). length xs) (sym (assertions-append env (d ∷ [])))
    where
      both : (xs ys : List AssertionBody) (as_ bs : List Assertion) → length xs ≡ length as_ → length ys ≡ length bs → length (xs ++ ys) ≡ length (as_ ++ bs)
      both xs ys as_ bs p q = omega (arith, p, q, length-append xs ys, length-append as_ bs)

      one : (d' : Declaration) → length (body_of file at d') ≡ length (assertions (d' ∷ []))
      one (sort_decl _) = refl
      one _ = refl

  -- the bodies are of the kinds of the statements' assertions
  kind-behind : (at : ℕ) (d : Declaration) (ds : List Declaration) (tail : List AssertionBody) (a : Assertion)
      → ((U : ℕ) → slice_get (assertions ds) U ≡ Some a → IsKind tail a.is_axiom U)
      → (U : ℕ) → slice_get (assertions (d ∷ ds)) U ≡ Some a → IsKind (body_of file at d ++ tail) a.is_axiom U
  kind-behind at (assertion_decl b) ds tail a later zero is = record {
    body = record { is_axiom = b.is_axiom; bytes = body_there file (statement_at file at) };
    there = refl;
    is = ap (λ (x : Assertion). x.is_axiom) (one_at refl is);
  }
  kind-behind at (assertion_decl b) ds tail a later (suc U) is = let r = later U is in record { body = r.body; there = r.there; is = r.is }
  kind-behind at _ ds tail a later U is = later U is

  kinds-from : (at : ℕ) (ss : List Statement) (a : Assertion) (U : ℕ) → slice_get (assertions (declarations ss)) U ≡ Some a → IsKind (bodies_from file at ss) a.is_axiom U
  kinds-from at [] a U is = absurd (none-some _ is)
  kinds-from at (s ∷ ss) a U is =
      let next = place_after (statement_at file at) in
      kind-behind at s.decl (declarations ss) (bodies_from file next ss) a (λ V there. kinds-from next ss a V there) U is

  module _ (bodies : List AssertionBody) where
    -- a theorem whose body stands in its row is proved by what that cites
    by-body : (env : List Declaration) (a : Assertion) (bytes : List ℕ) (body : AssertionBody) → slice_get bodies (length (assertions env)) ≡ Some body → body.bytes ≡ bytes
        → IsProvedBy (cites_as false bytes) env a → IsProvedBy (by_number (Cites bodies)) env a
    by-body env a bytes body there is (bs, dummies, (d, only, h)) = (
      bs,
      dummies,
      (d, cites_more (used_by false env bytes) (without_gaps (Cites bodies (length (assertions env)))) cites (λ (on, _). let e : false ≡ true = on in absurd cc) d only, h),
    )
      where
        cites : (U : ℕ) → IsCited env bytes U → Cites bodies (length (assertions env)) U
        cites U (within, earlier) =
            record { body = body; there = there; cited = subst (λ bs. IsCitedIn bs U) (sym is) (cited-within (length bytes) bytes U within); earlier = earlier }

    -- along the list
    cite-chain : (before : List Statement) (env : List Declaration) (from : ℕ) (ss : List Statement) (env' : List Declaration) (to : ℕ) (done : List AssertionBody)
        → GoodTo strict_standard file [] (list_at file) before env from → GoodTo strict_standard file env from ss env' to → LegalAfter gap_free env ss → length done ≡ length (assertions env)
        → bodies ≡ done ++ bodies_from file from ss → LegalAfter (by_number (Cites bodies)) env ss
    cite-chain before env from [] env' to done prefix chain legal many whole = tt
    cite-chain before env from (s ∷ ss) env' to done prefix (next, good, rest) ((legal, mark, _), laws) many whole = (
      (legal, mark, by-decl s.decl refl),
      cite-chain (before ++ s ∷ []) (env ++ s.decl ∷ []) next ss env' to (done ++ body_of file from s.decl)
          (chain-more (IsGoodStatement strict_standard file) [] (list_at file) before env from s next prefix good) rest laws (many-more done env from s.decl many) again,
    )
      where
        again : bodies ≡ (done ++ body_of file from s.decl) ++ bodies_from file next ss
        again = whole ∙ sym (append_assoc done (body_of file from s.decl) (bodies_from file (place_after (statement_at file from)) ss))
            ∙ ap (λ n. (done ++ body_of file from s.decl) ++ bodies_from file n ss) (ap place_after good.spelled.stands)

        by-decl : (d : Declaration) → s.decl ≡ d → IsProvedIfTheorem (by_number (Cites bodies)) env d
        by-decl (assertion_decl a) is = λ is_theorem.
            let body : AssertionBody = record { is_axiom = a.is_axiom; bytes = body_there file (statement_at file from) } in
            let tail : List AssertionBody = bodies_from file (place_after (statement_at file from)) ss in
            let here : bodies ≡ done ++ body ∷ tail = whole ∙ ap (λ (x : Declaration). done ++ (body_of file from x ++ tail)) is in
            let there : slice_get bodies (length (assertions env)) ≡ Some body = ap (λ rs. slice_get rs (length (assertions env))) here ∙ at-seam done body tail (length (assertions env)) many in
            by-body env a (body_bytes file good.spelled.body next) body there (ap (body_there file) good.spelled.stands)
            (cite-as-bodies strict_standard file before env from s next good.spelled.code good.spelled.body a prefix good good.spelled.stands is is_theorem)
        by-decl _ is = tt

are-supports : (file : List ℕ) (ss : List Statement) → AreSupports (declarations ss) (Cites (bodies_of file ss)) (InSupport (bodies_of file ss))
are-supports file ss = record {
  axioms = λ T U a at is cites. support-step (bodies_of file ss) T U U cites (inl (kind U a at true is, refl));
  theorems = λ T U A a at is cites on. support-step (bodies_of file ss) T U A cites (inr (kind U a at false is, on));
}
  where
    kind : (U : ℕ) (a : Assertion) → slice_get (assertions (declarations ss)) U ≡ Some a → (k : Bool) → a.is_axiom ≡ k → IsKind (bodies_of file ss) k U
    kind U a at k is = subst (λ j. IsKind (bodies_of file ss) j U) is (kinds-from file (list_at file) ss a U at)

by-supports : (file : List ℕ) (ss : List Statement) → Good strict_standard file ss → LegalBy (on_support (InSupport (bodies_of file ss))) ss
by-supports file ss good =
    legal_by_supports ss (Cites (bodies_of file ss)) (InSupport (bodies_of file ss)) (are-supports file ss)
    (cite-chain file (bodies_of file ss) [] [] (list_at file) ss good.env good.to [] (refl, refl) good.statements (good-legal strict_standard file ss good) refl refl)

pub rest-on-supports : (file : List ℕ) (ss : List Statement) → Good strict_standard file ss → (before after : List Statement) (s : Statement) (a : Assertion) → ss ≡ before ++ s ∷ after
    → s.decl ≡ assertion_decl a → a.is_axiom ≡ false → IsProvedBy (within_support (bodies_of file ss) (length (assertions (declarations before)))) (declarations before) a
rest-on-supports file ss good before after s a is is_a is_theorem =
    let supported = on_support (InSupport (bodies_of file ss)) in
    subst (IsProvedIfTheorem supported (declarations before)) is_a
    (legal_at supported [] before after s (subst (LegalBy supported) is (by-supports file ss good))).2 is_theorem
