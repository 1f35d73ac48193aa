-- Where a legal list of statements agrees with the declarations, each theorem among these is proved by it.
use Rattle.std.proofs.Common.{◌≡◌, ◌∙◌, ℕ, zero, suc, Bool, true, false, List, [], ◌∷◌, ◌++◌, length, take, Some, refl, sym, ap, ap₂, subst, append_assoc}
use Rattle.std.specs.Prelude.{if◌then◌else◌, slice_get}
use Rattle.std.proofs.lemmas.List.{append-nil}
use Rattle.mz_base.specs.Checks.{AllHold}
use Rattle.mz_logic_theory.specs.Declaration.{Declaration, Assertion, Form, plain_form, abstract_form, defined, sort_decl, term_decl, assertion_decl}
use Rattle.mz_logic_theory.specs.Derivations.{Derivation}
use Rattle.mz_logic_theory.specs.Closed.{IsClosed}
use Rattle.mz_logic_theory.specs.LegalLists.{Statement, declarations, gap_free, any_derivation, MayBeLocal, LegalAfter, LegalBy, Legal, DraftLegal}
use Rattle.mz_logic_theory.proofs.Offered.{legal_at, legal_list_is_closed}
use Rattle.mz_spec_proved_theory.specs.declared.kind.Kind.TheVariants as kinds
use Rattle.mz_spec_proved_theory.specs.Match.{Partner, partner_of, publics_after, publics, term_rows, kind_of, kind_of_form, match_checks, Agrees}
use Rattle.mz_spec_proved_theory.specs.Proved.{AxiomsAreDeclared, stated, ProvesUngapped, TheoremsAreProved}
use Rattle.mz_spec_proved_theory.proofs.Lists.{publics-append, publics-public}
use Rattle.mz_spec_proved_theory.proofs.SameDeclared.{declaration-is}

-- ---- prefixes

-- a prefix of a legal list is legal
pub legal-front : (Q : List Declaration → Derivation → Type 0) (env : List Declaration) (xs ys : List Statement) → LegalAfter Q env (xs ++ ys) → LegalAfter Q env xs
legal-front Q env [] ys h = tt
legal-front Q env (x ∷ xs) ys h = (h.0, legal-front Q (env ++ x.decl ∷ []) xs ys h.1)

-- ---- the partner of a declaration

abbrev pub Holds : Declaration → List Statement → Statement → Type 0
Holds d before s = (s.is_local ≡ false) × AllHold (match_checks d (partner_of before s))

-- the statement that stands beside the i-th declaration, with the statements before it and after it
abbrev pub Found : List Statement → List Statement → List Declaration → ℕ → Declaration → Type 0
Found before ss ds i d = (mid : List Statement) × (s : Statement) × (after : List Statement) × (ss ≡ mid ++ s ∷ after) × Holds d (before ++ mid) s
    × Agrees (take i ds) (publics_after before mid) × Agrees (take (suc i) ds) (publics_after before (mid ++ s ∷ []))

-- a local statement is nobody's partner
pub publics-skips : (before : List Statement) (t : Statement) (xs : List Statement) → t.is_local ≡ true → publics_after before (t ∷ xs) ≡ publics_after (before ++ t ∷ []) xs
publics-skips before t xs is = ap (λ (b : Bool). if b then publics_after (before ++ t ∷ []) xs else partner_of before t ∷ publics_after (before ++ t ∷ []) xs) is

found-later : (before : List Statement) (t : Statement) (ts : List Statement) (ds : List Declaration) (i : ℕ) (d : Declaration) → t.is_local ≡ true
    → Found (before ++ t ∷ []) ts ds i d → Found before (t ∷ ts) ds i d
found-later before t ts ds i d is (mid, s, after, at, holds, fewer, more) = (
  t ∷ mid,
  s,
  after,
  ap (λ xs. t ∷ xs) at,
  (holds.0, subst (λ bs. AllHold (match_checks d (partner_of bs s))) (append_assoc before (t ∷ []) mid) holds.1),
  subst (Agrees (take i ds)) (sym (publics-skips before t mid is)) fewer,
  subst (Agrees (take (suc i) ds)) (sym (publics-skips before t (mid ++ s ∷ []) is)) more,
)

found-after : (before : List Statement) (t : Statement) (ts : List Statement) (e : Declaration) (ds : List Declaration) (i : ℕ) (d : Declaration) → t.is_local ≡ false
    → AllHold (match_checks e (partner_of before t)) → Found (before ++ t ∷ []) ts ds i d → Found before (t ∷ ts) (e ∷ ds) (suc i) d
found-after before t ts e ds i d is first (mid, s, after, at, holds, fewer, more) = (
  t ∷ mid,
  s,
  after,
  ap (λ xs. t ∷ xs) at,
  (holds.0, subst (λ bs. AllHold (match_checks d (partner_of bs s))) (append_assoc before (t ∷ []) mid) holds.1),
  subst (Agrees (e ∷ take i ds)) (sym (publics-public before t mid is)) (first, fewer),
  subst (Agrees (e ∷ take (suc i) ds)) (sym (publics-public before t (mid ++ s ∷ []) is)) (first, more),
)

found-here : (before : List Statement) (t : Statement) (ts : List Statement) (d : Declaration) (ds : List Declaration) → t.is_local ≡ false
    → AllHold (match_checks d (partner_of before t)) → Found before (t ∷ ts) (d ∷ ds) zero d
found-here before t ts d ds is here = (
  [],
  t,
  ts,
  refl,
  (is, subst (λ bs. AllHold (match_checks d (partner_of bs t))) (sym (append-nil before)) here),
  tt,
  subst (Agrees (d ∷ [])) (sym (publics-public before t [] is)) (here, tt),
)

-- what is found among the statements after t
abbrev Later : List Statement → Statement → List Statement → Declaration → Type 0
Later before t ts d = (ds : List Declaration) (i : ℕ) → Agrees ds (publics_after (before ++ t ∷ []) ts) → slice_get ds i ≡ Some d → Found (before ++ t ∷ []) ts ds i d

found-public : (before : List Statement) (t : Statement) (ts : List Statement) (ds : List Declaration) (i : ℕ) (d : Declaration) → t.is_local ≡ false → Later before t ts d
    → Agrees ds (partner_of before t ∷ publics_after (before ++ t ∷ []) ts) → slice_get ds i ≡ Some d → Found before (t ∷ ts) ds i d
found-public before t ts [] i d is later agrees at = absurd agrees
found-public before t ts (e ∷ ds) zero d is later agrees at =
    let same : e ≡ d = cc in
    subst (λ x. Found before (t ∷ ts) (x ∷ ds) zero d) (sym same) (found-here before t ts d ds is (subst (λ x. AllHold (match_checks x (partner_of before t))) same agrees.0))
found-public before t ts (e ∷ ds) (suc i) d is later agrees at = found-after before t ts e ds i d is agrees.0 (later ds i agrees.1 at)

found-by : (before : List Statement) (t : Statement) (ts : List Statement) (ds : List Declaration) (i : ℕ) (d : Declaration) (local : Bool) → t.is_local ≡ local → Later before t ts d
    → Agrees ds (publics_after before (t ∷ ts)) → slice_get ds i ≡ Some d → Found before (t ∷ ts) ds i d
found-by before t ts ds i d true is later agrees at = found-later before t ts ds i d is (later ds i (subst (Agrees ds) (publics-skips before t ts is) agrees) at)
found-by before t ts ds i d false is later agrees at = found-public before t ts ds i d is later (subst (Agrees ds) (publics-public before t ts is) agrees) at

found : (before ss : List Statement) (ds : List Declaration) (i : ℕ) (d : Declaration) → Agrees ds (publics_after before ss) → slice_get ds i ≡ Some d → Found before ss ds i d
found before [] [] i d agrees at = absurd cc
found before [] (e ∷ ds) i d agrees at = absurd agrees
found before (t ∷ ts) ds i d agrees at = found-by before t ts ds i d t.is_local refl (λ es j so_far here. found (before ++ t ∷ []) ts es j d so_far here) agrees at

-- ---- the declaration of a partner

agrees-at : (ds : List Declaration) (ps qs : List Partner) (p : Partner) → Agrees ds (ps ++ p ∷ qs)
    → (k : ℕ) × (d : Declaration) × (slice_get ds k ≡ Some d) × AllHold (match_checks d p)
agrees-at [] [] qs p agrees = absurd agrees
agrees-at (e ∷ ds) [] qs p agrees = (zero, e, refl, agrees.0)
agrees-at [] (q ∷ ps) qs p agrees = absurd agrees
agrees-at (e ∷ ds) (q ∷ ps) qs p agrees = let (k, d, at, all) = agrees-at ds ps qs p agrees.1 in (suc k, d, at, all)

-- no axiom is local
pub never-local : (s : Statement) (b : Assertion) (local : Bool) → s.is_local ≡ local → (s.is_local ≡ true → MayBeLocal s.decl) → s.decl ≡ assertion_decl b → b.is_axiom ≡ true → s.is_local ≡ false
never-local s b false is may says is_axiom = is
never-local s b true is may says is_axiom = let theorem : b.is_axiom ≡ false = subst MayBeLocal says (may is) in absurd cc

axioms-declared : (Q : List Declaration → Derivation → Type 0) (ds : List Declaration) (ss : List Statement) → LegalBy Q ss → Agrees ds (publics ss) → AxiomsAreDeclared ds ss
axioms-declared Q ds ss legal agrees front back s b is says is_axiom =
    let stands : s.is_local ≡ false = never-local s b s.is_local refl (legal_at Q [] front back s (subst (LegalBy Q) is legal)).1 says is_axiom in
    let parts : publics ss ≡ publics front ++ partner_of front s ∷ publics_after (front ++ s ∷ []) back =
    ap publics is ∙ publics-append [] front (s ∷ back) ∙ ap (λ ps. publics front ++ ps) (publics-public front s back stands) in
    let (k, d, at, all) = agrees-at ds (publics front) (publics_after (front ++ s ∷ []) back) (partner_of front s) (subst (Agrees ds) parts agrees) in
    (stands, (k, d, at, declaration-is (term_rows 0 front) d s.decl all))

-- ---- theorems

-- of the kind of a theorem is a theorem alone
theorem-of-kind : (d : Declaration) → kinds.Theorem ≡ kind_of d → (b : Assertion) × (d ≡ assertion_decl b) × (b.is_axiom ≡ false)
theorem-of-kind (sort_decl m) is = absurd cc
theorem-of-kind (term_decl t) is = absurd (not-form t.form is)
  where
    not-form : (f : Form) → kinds.Theorem ≡ kind_of_form f → ⊥
    not-form plain_form is = cc
    not-form abstract_form is = cc
    not-form (defined ds e) is = cc
theorem-of-kind (assertion_decl b) is = (b, refl, by b.is_axiom is)
  where
    by : (ax : Bool) → kinds.Theorem ≡ (if ax then kinds.Axiom else kinds.Theorem) → ax ≡ false
    by true is = absurd cc
    by false is = refl

-- the statement that is a theorem of the specification, with those before it and after it
abbrev pub Standing : List Declaration → List Statement → ℕ → Assertion → Type 0
Standing ds ss i a = (before : List Statement) × (proved : Assertion) × (after : List Statement) × (ss ≡ before ++ stated proved ∷ after)
    × AllHold (match_checks (assertion_decl a) (partner_of before (stated proved))) × (proved.is_axiom ≡ false)
    × Agrees (take i ds) (publics before) × Agrees (take (suc i) ds) (publics (before ++ stated proved ∷ []))

pub standing : (ds : List Declaration) (ss : List Statement) → Agrees ds (publics ss) → (i : ℕ) (a : Assertion) → slice_get ds i ≡ Some (assertion_decl a) → a.is_axiom ≡ false → Standing ds ss i a
standing ds ss agrees i a at theorem =
    let (before, last, after, front, holds, fewer, more) = found [] ss ds i (assertion_decl a) agrees at in
    let kind : kinds.Theorem ≡ kind_of last.decl = ap (λ (b : Bool). if b then kinds.Axiom else kinds.Theorem) (sym theorem) ∙ holds.1.0 in
    let (proved, says, is_theorem) = theorem-of-kind last.decl kind in
    let is : last ≡ stated proved = ap₂ (λ (l : Bool) (d : Declaration). record { is_local = l; decl = d }) holds.0 says in (
      before,
      proved,
      after,
      subst (λ (s : Statement). ss ≡ before ++ s ∷ after) is front,
      subst (λ (s : Statement). AllHold (match_checks (assertion_decl a) (partner_of before s))) is holds.1,
      is_theorem,
      fewer,
      subst (λ (s : Statement). Agrees (take (suc i) ds) (publics (before ++ s ∷ []))) is more,
    )

pub theorems-proved : (ds : List Declaration) (ss : List Statement) → Legal ss → Agrees ds (publics ss) → TheoremsAreProved ds ss
theorems-proved ds ss legal agrees i a at theorem =
    let (before, proved, after, among, same, is_theorem, fewer, more) = standing ds ss agrees i a at theorem in
    let whole : Legal (before ++ stated proved ∷ after) = subst Legal among legal in
    record {
      follows = record {
        before = before;
        proved = proved;
        after = after;
        among = among;
        same = declaration-is (term_rows 0 before) (assertion_decl a) (assertion_decl proved) same;
        axioms = axioms-declared gap_free (take i ds) before (legal-front gap_free [] before (stated proved ∷ after) whole) fewer;
        closed = legal_list_is_closed ss legal before after (stated proved) proved among refl is_theorem;
      };
      legal = legal-front gap_free [] (before ++ stated proved ∷ []) after (subst Legal (sym (append_assoc before (stated proved ∷ []) after)) whole);
      agrees = more;
    }

-- ---- where some theorems have no proof

length-agrees : (ds : List Declaration) (ps : List Partner) → Agrees ds ps → length ps ≡ length ds
length-agrees [] [] agrees = refl
length-agrees [] (p ∷ ps) agrees = absurd agrees
length-agrees (d ∷ ds) [] agrees = absurd agrees
length-agrees (d ∷ ds) (p ∷ ps) agrees = ap suc (length-agrees ds ps agrees.1)

length-taken : (ds : List Declaration) (i : ℕ) (d : Declaration) → slice_get ds i ≡ Some d → length (take i ds) ≡ i
length-taken [] i d at = absurd cc
length-taken (e ∷ ds) zero d at = refl
length-taken (e ∷ ds) (suc i) d at = ap suc (length-taken ds i d at)

-- of a draft that agrees each theorem is proved that has a derivation from axioms alone where it stands
pub ungapped-proved : (ds : List Declaration) (ss : List Statement) → DraftLegal ss → Agrees ds (publics ss) → (i : ℕ) (a : Assertion) → slice_get ds i ≡ Some (assertion_decl a)
    → a.is_axiom ≡ false → ((before after : List Statement) (proved : Assertion) → ss ≡ before ++ stated proved ∷ after → proved.is_axiom ≡ false → length (publics before) ≡ i
    → IsClosed (declarations before) proved) → ProvesUngapped ds ss i a
ungapped-proved ds ss legal agrees i a at theorem closes =
    let (before, proved, after, among, same, is_theorem, fewer, more) = standing ds ss agrees i a at theorem in
    let whole : DraftLegal (before ++ stated proved ∷ after) = subst DraftLegal among legal in
    record {
      follows = record {
        before = before;
        proved = proved;
        after = after;
        among = among;
        same = declaration-is (term_rows 0 before) (assertion_decl a) (assertion_decl proved) same;
        axioms = axioms-declared any_derivation (take i ds) before (legal-front any_derivation [] before (stated proved ∷ after) whole) fewer;
        closed = closes before after proved among is_theorem (length-agrees (take i ds) (publics before) fewer ∙ length-taken ds i (assertion_decl a) at);
      };
      legal = legal-front any_derivation [] (before ++ stated proved ∷ []) after (subst DraftLegal (sym (append_assoc before (stated proved ∷ []) after)) whole);
      agrees = more;
    }
