-- Good entries spell one list of statements, which is legal.
use Rattle.std.proofs.Common.{◌≡◌, ◌≢◌, ℕ, Bool, true, false, List, [], ◌∷◌, ◌++◌, Option, Some, None, refl, sym, ap, subst, ◌∙◌, arith, true≢false}
use Rattle.mz_logic_theory.specs.Tree.{Tree, none, more}
use Rattle.mz_logic_theory.specs.Signature.{Signature}
use Rattle.mz_logic_theory.specs.Declaration.{Form, plain_form, abstract_form, defined, Term, Assertion, Declaration, sort_decl, term_decl, assertion_decl, body_of, sorts, signatures}
use Rattle.mz_logic_theory.specs.Legality.{IsLegalDecl, IsLegalEnv}
use Rattle.mz_logic_theory.specs.Derivations.{without_gaps}
use Rattle.mz_logic_theory.specs.LegalLists.{Statement, IsProvedBy, IsLegalStatement, LegalAfter, LegalBy, allowed_with}
use Rattle.mz_logic_theory.specs.declared.binder.Binder.{Binder}
use Rattle.mz_logic_theory.specs.declared.binder.SortMods.{SortMods}
use Rattle.mz_logic_theory.proofs.Offered.{cites_more, legal_push, terms_are_sorted}
use Rattle.mz_machine_theory.specs.Spells.{SpelledTerm, SpelledThm, SpellsForm, SpellsTerm}
use Rattle.mz_machine_theory.proofs.OneSpelling.{one-assertion, one-term}
use Rattle.mz_machine_theory.specs.MachineState.{RowsBefore, Declares}
use Rattle.mz_machine_theory.specs.Laws.{no_tables}
use Rattle.mz_machine_theory.specs.Sound.{AreRowParams, IsRowResult, used_by, cites_as}
use Rattle.mz_machine_theory.specs.Lists.{Body, Entry, a_sort, a_term, an_assertion, with_entry, definition_of, assertion_of, BodyIsGood, IsGoodEntry, AreGood, SpellsEntry, SpellEntries, ProvedByBody, ProvedByBodies}
use Rattle.mz_machine_theory.proofs.Assertions.{axiom-legal, theorem-legal}
use Rattle.mz_machine_theory.proofs.Definitions.{definition-legal}
use Rattle.mz_machine_theory.proofs.Growing.{sort-grows, term-grows, thm-grows}

-- what a good entry makes of the environment
abbrev pub Follows : Bool → RowsBefore → List Declaration → Entry → Type 0
Follows gaps tables env e = (s : Statement) × SpellsEntry (signatures env) e s × IsLegalStatement (allowed_with gaps) env s × ProvedByBody gaps env e s.decl × Declares (with_entry tables e) (env ++ s.decl ∷ [])

-- what the body uses is allowed: without gaps there is none
allowed : (gaps : Bool) (bytes : List ℕ) (env : List Declaration) (a : Assertion) → IsProvedBy (cites_as gaps bytes) env a → IsProvedBy (allowed_with gaps) env a
allowed true bytes env a (dummies, are, (d, _, derives)) = (dummies, are, (d, tt, derives))
allowed false bytes env a (dummies, are, (d, cites, derives)) =
    (dummies, are, (d, cites_more (used_by false env bytes) (without_gaps (λ T. Unit {0})) (λ T _. tt) (λ leaves. true≢false (sym leaves.0)) d cites, derives))

no-body : (b : Tree) → more b none ≢ none
no-body b e = cc

-- ---- terms

plain-follows : (gaps : Bool) (tables : RowsBefore) (env : List Declaration) → Declares tables env → (is_local : Bool) (row : SpelledTerm) (body : Body)
    → AreRowParams (sorts env) row.signature.params → IsRowResult (sorts env) row.signature.params row.signature.result → row.stream ≡ None → is_local ≡ false → Follows gaps tables env (a_term is_local row body)
plain-follows gaps tables env declares is_local row body (there, params) (result, deps) stream public =
    let d : Term = record { signature = row.signature; form = plain_form } in
    let spells : SpellsTerm (signatures env) row d = (refl, subst (λ (o : Option (List ℕ)). SpellsForm (signatures env) row.signature.params o plain_form) (sym stream) tt) in
    let legal : IsLegalDecl env (term_decl d) = (terms_are_sorted env d).1 (there, params, (λ k x below. absurd (omega arith)), result, deps, tt) in
    (record { is_local = is_local; decl = term_decl d }, (refl, (d, refl, spells)), (legal, (λ is. absurd (true≢false (sym is ∙ public))), tt), tt, term-grows tables env declares row d spells)

defined-is : (sigs : List Signature) (params : List Binder) (stream : List ℕ) (f : Form) → SpellsForm sigs params (Some stream) f → body_of f ≢ none
defined-is sigs params stream plain_form h = absurd h
defined-is sigs params stream abstract_form h = absurd h
defined-is sigs params stream (defined ds b) h = no-body b

definition-follows : (gaps : Bool) (tables : RowsBefore) (env : List Declaration) → Declares tables env → (is_local : Bool) (row : SpelledTerm) (body : Body) (stream : List ℕ)
    → AreRowParams (sorts env) row.signature.params → IsRowResult (sorts env) row.signature.params row.signature.result → row.stream ≡ Some stream → BodyIsGood gaps tables is_local row body (Some stream) → Follows gaps tables env (a_term is_local row body)
definition-follows gaps tables env declares is_local row body stream params result stream-is (last, run) =
    let (d, (sig-is, form-spells), legal) = definition-legal gaps tables env declares (definition_of row stream) body.at body.bytes last refl params result run in
    let spells : SpellsTerm (signatures env) row d = (sig-is, subst (λ (o : Option (List ℕ)). SpellsForm (signatures env) row.signature.params o d.form) (sym stream-is) form-spells) in
    (record { is_local = is_local; decl = term_decl d }, (refl, (d, refl, spells)), (legal, (λ _. defined-is (signatures env) row.signature.params stream d.form form-spells), tt), tt, term-grows tables env declares row d spells)

-- ---- assertions

assertion-follows : (gaps : Bool) (tables : RowsBefore) (env : List Declaration) → IsLegalEnv env → Declares tables env → (is_local without_proof : Bool) (row : SpelledThm) (body : Body)
    → IsGoodEntry gaps tables (an_assertion is_local without_proof row body) → AreRowParams (sorts env) row.params → Follows gaps tables env (an_assertion is_local without_proof row body)
assertion-follows gaps tables env legal-env declares is_local true row body (mark, _, (last, run)) params =
    let (a, is, spells, legal) = axiom-legal gaps tables env declares (assertion_of true row) body.at body.bytes last refl params run in (
      record { is_local = is_local; decl = assertion_decl a },
      (refl, (a, refl, is, spells)),
      (legal, (λ l. absurd (true≢false (mark l))), λ no. absurd (true≢false (sym is ∙ no))),
      (λ no. absurd (true≢false (sym is ∙ no))),
      thm-grows tables env declares row a spells,
    )
assertion-follows gaps tables env legal-env declares is_local false row body (mark, _, (last, run)) params =
    let (a, is, spells, legal, proved) = theorem-legal gaps tables env legal-env declares (assertion_of false row) body.at body.bytes last refl params run in (
      record { is_local = is_local; decl = assertion_decl a },
      (refl, (a, refl, is, spells)),
      (legal, (λ _. is), λ _. allowed gaps body.bytes env a proved),
      (λ _. proved),
      thm-grows tables env declares row a spells,
    )

-- ---- every entry

term-follows : (gaps : Bool) (tables : RowsBefore) (env : List Declaration) → Declares tables env → (is_local : Bool) (row : SpelledTerm) (body : Body)
    → AreRowParams (sorts env) row.signature.params → IsRowResult (sorts env) row.signature.params row.signature.result → (o : Option (List ℕ)) → row.stream ≡ o → BodyIsGood gaps tables is_local row body o → Follows gaps tables env (a_term is_local row body)
term-follows gaps tables env declares is_local row body params result None is good = plain-follows gaps tables env declares is_local row body params result is good
term-follows gaps tables env declares is_local row body params result (Some stream) is good = definition-follows gaps tables env declares is_local row body stream params result is good

pub follows : (gaps : Bool) (tables : RowsBefore) (env : List Declaration) → IsLegalEnv env → Declares tables env → (e : Entry) → IsGoodEntry gaps tables e → Follows gaps tables env e
follows gaps tables env legal-env declares (a_sort m) good = (record { is_local = false; decl = sort_decl m }, (refl, refl), (legal-sort, (λ is. absurd (true≢false (sym is))), tt), tt, sort-grows tables env declares m)
  where
    legal-sort : IsLegalDecl env (sort_decl m)
    legal-sort = (tt, (tt, (tt, (tt, (tt, (tt, (tt, (tt, tt))))))))
follows gaps tables env legal-env declares (a_term is_local row body) (params, result, good) =
    term-follows gaps tables env declares is_local row body (subst (λ (ss : List SortMods). AreRowParams ss row.signature.params) declares.sorts_are params)
    (subst (λ (ss : List SortMods). IsRowResult ss row.signature.params row.signature.result) declares.sorts_are result) row.stream refl good
follows gaps tables env legal-env declares (an_assertion is_local without_proof row body) good =
    assertion-follows gaps tables env legal-env declares is_local without_proof row body good (subst (λ (ss : List SortMods). AreRowParams ss row.params) declares.sorts_are good.1)

all-follow : (gaps : Bool) (tables : RowsBefore) (env : List Declaration) → IsLegalEnv env → Declares tables env → (es : List Entry) → AreGood gaps tables es
    → (ss : List Statement) × SpellEntries env es ss × LegalAfter (allowed_with gaps) env ss × ProvedByBodies gaps env es ss
all-follow gaps tables env legal-env declares [] good = ([], tt, tt, tt)
all-follow gaps tables env legal-env declares (e ∷ es) (good, rest) =
    let (s, spells, legal, proved, grown) = follows gaps tables env legal-env declares e good in
    let (ss, all-spell, all-legal, all-proved) = all-follow gaps (with_entry tables e) (env ++ s.decl ∷ []) (legal_push env s.decl legal-env legal.0) grown es rest in
    (s ∷ ss, (spells, all-spell), (legal, all-legal), (proved, all-proved))

pub good-legal : (gaps : Bool) (es : List Entry) → AreGood gaps no_tables es → (ss : List Statement) × SpellEntries [] es ss × LegalBy (allowed_with gaps) ss × ProvedByBodies gaps [] es ss
good-legal gaps es good = all-follow gaps no_tables [] tt (record { sorts_are = refl; terms_are = tt; thms_are = tt }) es good

-- ---- one list

pub same-statement : (s t : Statement) → s.is_local ≡ t.is_local → s.decl ≡ t.decl → s ≡ t
same-statement s t p q = ap (λ (z : Bool). record { is_local = z; decl = s.decl }) p ∙ ap (λ (z : Declaration). record { is_local = t.is_local; decl = z }) q

pub one-entry : (sigs : List Signature) (e : Entry) (s t : Statement) → SpellsEntry sigs e s → SpellsEntry sigs e t → s ≡ t
one-entry sigs (a_sort m) s t (l, d) (l', d') = same-statement s t (l ∙ sym l') (d ∙ sym d')
one-entry sigs (a_term is_local row body) s t (l, (c, c-is, h)) (l', (d, d-is, k)) = same-statement s t (l ∙ sym l') (c-is ∙ ap term_decl (one-term sigs row c d h k) ∙ sym d-is)
one-entry sigs (an_assertion is_local without_proof row body) s t (l, (a, a-is, p, h)) (l', (b, b-is, q, k)) =
    same-statement s t (l ∙ sym l') (a-is ∙ ap assertion_decl (one-assertion sigs row a b (p ∙ sym q) h k) ∙ sym b-is)

one-list-after : (env : List Declaration) (es : List Entry) (ss ts : List Statement) → SpellEntries env es ss → SpellEntries env es ts → ss ≡ ts
one-list-after env [] [] [] h k = refl
one-list-after env [] [] (t ∷ ts) h k = absurd k
one-list-after env [] (s ∷ ss) ts h k = absurd h
one-list-after env (e ∷ es) [] ts h k = absurd h
one-list-after env (e ∷ es) (s ∷ ss) [] h k = absurd k
one-list-after env (e ∷ es) (s ∷ ss) (t ∷ ts) (h, hs) (k, ks) =
    let same : s ≡ t = one-entry (signatures env) e s t h k in
    let rest : ss ≡ ts = one-list-after (env ++ s.decl ∷ []) es ss ts hs (subst (λ (z : Statement). SpellEntries (env ++ z.decl ∷ []) es ts) (sym same) ks) in
    ap (λ (z : Statement). z ∷ ss) same ∙ ap (λ (z : List Statement). t ∷ z) rest

pub one-list : (es : List Entry) (ss ts : List Statement) → SpellEntries [] es ss → SpellEntries [] es ts → ss ≡ ts
one-list es ss ts h k = one-list-after [] es ss ts h k
