-- A theorem of a good file that isn't gapped has a derivation without gaps that cites no gapped theorem.
use Rattle.std.proofs.Common.{◌≡◌, ◌∙◌, ◌<◌, ℕ, false, List, [], ◌∷◌, ◌++◌, length, slice_get, Some, refl, ap, subst, arith}
use Rattle.mz_cmd.specs.StatementList.{statement_at}
use Rattle.mz_logic_theory.specs.Declaration.{Declaration, Assertion, assertion_decl, assertions}
use Rattle.mz_logic_theory.specs.Derivations.{without_gaps}
use Rattle.mz_logic_theory.specs.LegalLists.{Statement, declarations, IsProvedBy}
use Rattle.mz_logic_theory.proofs.Offered.{cites_more}
use Rattle.mz_layout_tables.specs.Tables.{list_at}
use Rattle.mz_layout_tables.specs.Heads.{body_bytes}
use Rattle.mz_machine_theory.specs.Gapped.{free_of}
use Rattle.mz_machine_theory.specs.Sound.{used_by, cites_as}
use Rattle.mz_binary_theory.specs.Chains.{IsGoodStatement, GoodTo}
use Rattle.mz_binary_theory.specs.Good.{Good}
use Rattle.mz_binary_theory.specs.Gapped.{AssertionBody, body_there, place_after, body_of, bodies_from, bodies_of, IsTheoremBody, IsGapped, leaves_gap, rests_on, GappedIn}
use Rattle.mz_binary_theory.specs.WholeLaws.{UngappedAreFree}
use Rattle.mz_binary_theory.proofs.ChainLaws.{chain-declares}
use Rattle.mz_binary_theory.proofs.GappedBodies.{get-last, bodies-append, bodies-many}
use Rattle.mz_binary_theory.proofs.LegalChains.{cite-as-bodies}
use Rattle.mz_binary_theory.specs.Standards.{Standard, lets_gaps}

module _ (standard : Standard) (file : List ℕ) where
  -- a list up to a statement, and the statement
  pub record SplitAt (env : List Declaration) (from : ℕ) (before : List Statement) (s : Statement) : Type 0 where
    pub so_far : List Declaration
    pub at : ℕ
    pub next : ℕ
    pub front : GoodTo standard file env from before so_far at
    pub good : IsGoodStatement standard file so_far at s next

  split-at : (env : List Declaration) (from : ℕ) (before : List Statement) (s : Statement) (after : List Statement) (env' : List Declaration) (to : ℕ) → GoodTo standard file env from (before ++ s ∷ after) env' to → SplitAt env from before s
  split-at env from [] s after env' to (next, good, rest) = record { so_far = env; at = from; next = next; front = (refl, refl); good = good }
  split-at env from (t ∷ ts) s after env' to (next, good, rest) =
      let r = split-at (env ++ t.decl ∷ []) next ts s after env' to rest in
      record { so_far = r.so_far; at = r.at; next = r.next; front = (next, good, r.front); good = r.good }

  module _ (ss : List Statement) (good : Good standard file ss) (before after : List Statement) (s : Statement) (a : Assertion) (all : ss ≡ before ++ s ∷ after) (is : s.decl ≡ assertion_decl a) (theorem : a.is_axiom ≡ false) where
    r : SplitAt [] (list_at file) before s
    r = split-at [] (list_at file) before s after good.env good.to (subst (λ xs. GoodTo standard file [] (list_at file) xs good.env good.to) all good.statements)

    env-is : r.so_far ≡ declarations before
    env-is = chain-declares (IsGoodStatement standard file) [] (list_at file) before r.so_far r.at r.front

    abbrev bytes : List ℕ
    bytes = body_bytes file r.good.spelled.body r.next

    -- its body is there
    there : IsTheoremBody (bodies_of file ss) (length (assertions r.so_far)) bytes
    there =
        let b : AssertionBody = record { is_axiom = a.is_axiom; bytes = body_there file (statement_at file r.at) } in
        let tail : List AssertionBody = bodies_from file (place_after (statement_at file r.at)) after in
        let bodies : bodies_of file ss ≡ bodies_of file before ++ b ∷ tail =
        ap (bodies_of file) all ∙ bodies-append standard file [] (list_at file) before r.so_far r.at r.front (s ∷ after)
        ∙ ap (λ d. bodies_of file before ++ (body_of file r.at d ++ tail)) is in
        let row : length (bodies_of file before) ≡ length (assertions r.so_far) = (let many = bodies-many standard file [] (list_at file) before r.so_far r.at r.front in omega (arith, many)) in
        let b-is : b ≡ record { is_axiom = false; bytes = bytes } = ap (λ k. record { is_axiom = k; bytes = body_there file (statement_at file r.at) }) theorem ∙ ap (λ x. record { is_axiom = false; bytes = body_there file x }) r.good.spelled.stands in
        subst (λ n. slice_get (bodies_of file ss) n ≡ Some (record { is_axiom = false; bytes = bytes })) row
        (ap (λ bs. slice_get bs (length (bodies_of file before))) bodies ∙ get-last (bodies_of file before) b tail ∙ ap (λ x. Some x) b-is)

    proved : IsProvedBy (cites_as (lets_gaps standard) bytes) r.so_far a
    proved = cite-as-bodies standard file before r.so_far r.at s r.next r.good.spelled.code r.good.spelled.body a r.front r.good r.good.spelled.stands is theorem

    free : (IsGapped (bodies_of file ss) (length (assertions r.so_far)) → ⊥) → IsProvedBy (cites_as (lets_gaps standard) bytes) r.so_far a → IsProvedBy (free_of (GappedIn file ss)) r.so_far a
    free not_ (dummies, are, (d, cites, derives)) = (
      dummies,
      are,
      (
        d,
        cites_more (used_by (lets_gaps standard) r.so_far bytes) (without_gaps (λ T. (T < length (assertions r.so_far)) × (GappedIn file ss T → ⊥)))
            (λ T cited. (cited.1, λ gapped. not_ (rests_on (length (assertions r.so_far)) T bytes there cited.0 cited.1 gapped)))
            (λ leaves. not_ (leaves_gap (length (assertions r.so_far)) bytes there leaves.1)) d cites,
        derives,
      ),
    )

    pub free-there : (GappedIn file ss (length (assertions (declarations before))) → ⊥) → IsProvedBy (free_of (GappedIn file ss)) (declarations before) a
    free-there not_ =
        subst (λ env. IsProvedBy (free_of (GappedIn file ss)) env a) env-is
        (free (λ g. not_ (subst (λ env. GappedIn file ss (length (assertions env))) env-is g)) proved)

pub ungapped-free : UngappedAreFree
ungapped-free standard file ss good before after s a all is theorem not_ = free-there standard file ss good before after s a all is theorem not_
