-- The bodies of a list of statements, and which of them are gapped, as the list goes on.
use Rattle.std.proofs.Common.{◌≡◌, ◌∙◌, ◌<◌, ◌+◌, ◌⊎◌, ℕ, zero, suc, Bool, true, false, List, [], ◌∷◌, ◌++◌, length, slice_get, Some, refl, sym, ap, subst, inl, inr, arith, length-append, append_assoc, append-nil}
use Rattle.std.specs.Prelude.{◌↔◌}
use Rattle.std.proofs.lemmas.Option.{none-some, slice_get_within}
use Rattle.mz_base.proofs.Offered.{slice_get-within}
use Rattle.mz_cmd.specs.StatementList.{statement_at}
use Rattle.mz_logic_theory.specs.Declaration.{Declaration, sort_decl, term_decl, assertion_decl, assertions}
use Rattle.mz_logic_theory.specs.LegalLists.{Statement}
use Rattle.mz_logic_theory.proofs.Offered.{one_at, assertions-append}
use Rattle.mz_machine_theory.specs.Sound.{HasGap}
use Rattle.mz_binary_theory.specs.Chains.{GoodTo}
use Rattle.mz_binary_theory.specs.Gapped.{AssertionBody, place_after, body_of, bodies_from, IsTheoremBody, IsGapped, leaves_gap, rests_on, IsMarked, AreMarks, CitesMarked}
use Rattle.mz_binary_theory.specs.Standards.{Standard}

-- ---- places of a list

pub get-last : {A : Type 0} (xs : List A) (x : A) (ys : List A) → slice_get (xs ++ x ∷ ys) (length xs) ≡ Some x
get-last [] x ys = refl
get-last (y ∷ xs) x ys = get-last xs x ys

-- ---- more bodies change nothing for those before

pub gapped-within : (bodies : List AssertionBody) (T : ℕ) → IsGapped bodies T → T < length bodies
gapped-within bodies T (leaves_gap T0 bytes there gap) = slice_get_within bodies T _ there
gapped-within bodies T (rests_on T0 U bytes there cited earlier on) = slice_get_within bodies T _ there

-- before the first statement nothing is tainted
pub no-marks : (file : List ℕ) → AreMarks file [] []
no-marks file = record {
  many = refl;
  each = λ T. (λ marked. absurd (none-some _ marked), λ gapped. absurd (let lt = gapped-within [] T gapped in omega (arith, lt)));
}

module _ (bodies more : List AssertionBody) where
  there-on : (T : ℕ) (bytes : List ℕ) → IsTheoremBody bodies T bytes → IsTheoremBody (bodies ++ more) T bytes
  there-on T bytes is = slice_get-within bodies more T (slice_get_within bodies T _ is) ∙ is

  pub gapped-on : (T : ℕ) → IsGapped bodies T → IsGapped (bodies ++ more) T
  gapped-on T (leaves_gap T0 bytes there gap) = leaves_gap T bytes (there-on T bytes there) gap
  gapped-on T (rests_on T0 U bytes there cited earlier on) = rests_on T U bytes (there-on T bytes there) cited earlier (gapped-on U on)

  pub gapped-back : (T : ℕ) → T < length bodies → IsGapped (bodies ++ more) T → IsGapped bodies T
  gapped-back T lt (leaves_gap T0 bytes there gap) = leaves_gap T bytes (sym (slice_get-within bodies more T lt) ∙ there) gap
  gapped-back T lt (rests_on T0 U bytes there cited earlier on) =
      rests_on T U bytes (sym (slice_get-within bodies more T lt) ∙ there) cited earlier (gapped-back U (omega (arith, earlier, lt)) on)

-- ---- one body more

which : (T n : ℕ) → (T < n) ⊎ ((T ≡ n) ⊎ (n < T))
which zero zero = inr (inl refl)
which zero (suc n) = inl (omega arith)
which (suc T) zero = inr (inr (omega arith))
which (suc T) (suc n) = elim (which T n) [
  | inl lt ↦ inl (omega (arith, lt))
  | inr r ↦ elim r [ inl same ↦ inr (inl (ap suc same)) | inr gt ↦ inr (inr (omega (arith, gt))) ]
]

some-is : (x y : Bool) → Some x ≡ Some y → x ≡ y
some-is x y e = one_at refl e

module _ (bodies : List AssertionBody) (marks : List Bool) (many : length marks ≡ length bodies) (each : (T : ℕ) → IsMarked marks T ↔ IsGapped bodies T) (b : AssertionBody) where
  -- it is gapped where it is a theorem whose body leaves a gap or cites a tainted one
  pub new-gapped : IsGapped (bodies ++ b ∷ []) (length bodies) ↔ ((b.is_axiom ≡ false) × (HasGap b.bytes ⊎ CitesMarked b.bytes marks))
  new-gapped = (λ h. forth h, λ (kind, why). back kind why)
    where
      forth : IsGapped (bodies ++ b ∷ []) (length bodies) → (b.is_axiom ≡ false) × (HasGap b.bytes ⊎ CitesMarked b.bytes marks)
      forth (leaves_gap T bytes there gap) =
          let same : b ≡ record { is_axiom = false; bytes = bytes } = one_at (get-last bodies b []) there in
          (ap (λ (x : AssertionBody). x.is_axiom) same, inl (subst HasGap (sym (ap (λ (x : AssertionBody). x.bytes) same)) gap))
      forth (rests_on T U bytes there cited earlier on) =
          let same : b ≡ record { is_axiom = false; bytes = bytes } = one_at (get-last bodies b []) there in
          let marked : IsMarked marks U = (each U).1 (gapped-back bodies (b ∷ []) U earlier on) in
          (ap (λ (x : AssertionBody). x.is_axiom) same, inr (subst (λ bs. CitesMarked bs marks) (sym (ap (λ (x : AssertionBody). x.bytes) same)) (U, cited, marked)))

      there-is : b.is_axiom ≡ false → IsTheoremBody (bodies ++ b ∷ []) (length bodies) b.bytes
      there-is kind = get-last bodies b [] ∙ ap (λ k. Some (record { is_axiom = k; bytes = b.bytes })) kind

      back : b.is_axiom ≡ false → HasGap b.bytes ⊎ CitesMarked b.bytes marks → IsGapped (bodies ++ b ∷ []) (length bodies)
      back kind (inl gap) = leaves_gap (length bodies) b.bytes (there-is kind) gap
      back kind (inr (U, cited, marked)) =
          let on : IsGapped bodies U = (each U).0 marked in
          rests_on (length bodies) U b.bytes (there-is kind) cited (gapped-within bodies U on) (gapped-on bodies (b ∷ []) U on)

  pub marks-with : (gap : Bool) → (gap ≡ true) ↔ IsGapped (bodies ++ b ∷ []) (length bodies) → (T : ℕ) → IsMarked (marks ++ gap ∷ []) T ↔ IsGapped (bodies ++ b ∷ []) T
  marks-with gap new T = elim (which T (length bodies)) [
    | inl lt ↦ (
      λ m. gapped-on bodies (b ∷ []) T ((each T).0 (sym (slice_get-within marks (gap ∷ []) T (omega (arith, lt, many))) ∙ m)),
      λ g. slice_get-within marks (gap ∷ []) T (omega (arith, lt, many)) ∙ (each T).1 (gapped-back bodies (b ∷ []) T lt g),
    )
    | inr r ↦ elim r [
      | inl same ↦ at-end T (same ∙ sym many) same
      | inr gt ↦ (
        λ m. absurd (let lt = slice_get_within (marks ++ gap ∷ []) T true m in omega (arith, lt, gt, many, length-append marks (gap ∷ []))),
        λ g. absurd (let lt = gapped-within (bodies ++ b ∷ []) T g in omega (arith, lt, gt, length-append bodies (b ∷ []))),
      )
    ]
  ]
    where
      at-end : (T : ℕ) → T ≡ length marks → T ≡ length bodies → IsMarked (marks ++ gap ∷ []) T ↔ IsGapped (bodies ++ b ∷ []) T
      at-end T last same = (
        λ m. subst (IsGapped (bodies ++ b ∷ [])) (sym same) (new.0 (some-is gap true (sym (get-last marks gap []) ∙ subst (λ n. slice_get (marks ++ gap ∷ []) n ≡ Some true) last m))),
        λ g. subst (λ n. slice_get (marks ++ gap ∷ []) n ≡ Some true) (sym last) (get-last marks gap [] ∙ ap (λ v. Some v) (new.1 (subst (IsGapped (bodies ++ b ∷ [])) same g))),
      )

-- ---- bodies along the list

module _ (standard : Standard) (file : List ℕ) where
  pub bodies-append : (env : List Declaration) (from : ℕ) (ss : List Statement) (env' : List Declaration) (to : ℕ) → GoodTo standard file env from ss env' to
      → (more : List Statement) → bodies_from file from (ss ++ more) ≡ bodies_from file from ss ++ bodies_from file to more
  bodies-append env from [] env' to chain more = ap (λ n. bodies_from file n more) (sym chain.1)
  bodies-append env from (s ∷ ss) env' to chain more =
      let goes : place_after (statement_at file from) ≡ chain.0 = ap place_after chain.1.spelled.stands in
      ap (λ n. body_of file from s.decl ++ bodies_from file n (ss ++ more)) goes
      ∙ ap (λ xs. body_of file from s.decl ++ xs) (bodies-append (env ++ s.decl ∷ []) chain.0 ss env' to chain.2 more)
      ∙ sym (append_assoc (body_of file from s.decl) (bodies_from file chain.0 ss) (bodies_from file to more))
      ∙ ap (λ n. (body_of file from s.decl ++ bodies_from file n ss) ++ bodies_from file to more) (sym goes)

  pub bodies-more : (env : List Declaration) (from : ℕ) (ss : List Statement) (env' : List Declaration) (to : ℕ) → GoodTo standard file env from ss env' to
      → (s : Statement) → bodies_from file from (ss ++ s ∷ []) ≡ bodies_from file from ss ++ body_of file to s.decl
  bodies-more env from ss env' to chain s = bodies-append env from ss env' to chain (s ∷ []) ∙ ap (λ xs. bodies_from file from ss ++ xs) (append-nil (body_of file to s.decl))

  one-more : (env : List Declaration) (at : ℕ) (d : Declaration) → length (assertions (env ++ d ∷ [])) ≡ length (assertions env) + length (body_of file at d)
  one-more env at d = ap (λ xs. length xs) (assertions-append env (d ∷ [])) ∙ length-append (assertions env) (assertions (d ∷ [])) ∙ ap (λ n. length (assertions env) + n) (of d)
    where
      of : (d : Declaration) → length (assertions (d ∷ [])) ≡ length (body_of file at d)
      of (sort_decl _) = refl
      of (term_decl _) = refl
      of (assertion_decl _) = refl

  pub bodies-many : (env : List Declaration) (from : ℕ) (ss : List Statement) (env' : List Declaration) (to : ℕ) → GoodTo standard file env from ss env' to
      → length (bodies_from file from ss) + length (assertions env) ≡ length (assertions env')
  bodies-many env from [] env' to chain = let same : length (assertions env') ≡ length (assertions env) = ap (λ e. length (assertions e)) chain.0 in omega (arith, same)
  bodies-many env from (s ∷ ss) env' to chain =
      let goes : place_after (statement_at file from) ≡ chain.0 = ap place_after chain.1.spelled.stands in
      let same : length (bodies_from file (place_after (statement_at file from)) ss) ≡ length (bodies_from file chain.0 ss) = ap (λ n. length (bodies_from file n ss)) goes in
      let rest = bodies-many (env ++ s.decl ∷ []) chain.0 ss env' to chain.2 in
      omega (arith, rest, same, one-more env from s.decl, length-append (body_of file from s.decl) (bodies_from file (place_after (statement_at file from)) ss))
