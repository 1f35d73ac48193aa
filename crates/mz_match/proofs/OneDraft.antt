-- Two files have one answer as a draft, the places of its gapped theorems with it.
use Rattle.std.proofs.Common.{◌≡◌, ◌∙◌, ◌<◌, ◌⊎◌, ℕ, zero, suc, Bool, true, false, List, [], ◌∷◌, ◌++◌, length, drop, Option, Some, None, Result, Ok, Err, refl, sym, ap, ap₂, subst, inl, inr, arith}
use Rattle.std.specs.Prelude.{◌≢◌, MatchBool, slice_get}
use Rattle.std.proofs.lemmas.Option.{none-some}
use Rattle.std.proofs.lemmas.Bool.{cases_lt}
use Rattle.mz_cmd.specs.declared.command.Cmd.{Cmd}
use Rattle.mz_cmd.specs.declared.command.CmdFault.{CmdFault}
use Rattle.mz_cmd.specs.declared.code.ProofCode.{ProofCode}
use Rattle.mz_cmd.specs.declared.code.ProofCode.TheVariants.{Thm, ThmSave, Sorry}
use Rattle.mz_cmd.specs.Codes.{proof_code}
use Rattle.mz_cmd.specs.Reading.{first_command}
use Rattle.mz_logic_theory.specs.Declaration.{Declaration, sort_decl, term_decl, assertion_decl, assertions}
use Rattle.mz_logic_theory.specs.LegalLists.{Statement, declarations}
use Rattle.mz_logic_theory.proofs.Offered.{one_at}
use Rattle.mz_machine_theory.proofs.Offered.{cmd-is}
use Rattle.mz_machine_theory.specs.Sound.{CitesWithin, GapsWithin, HasGap}
use Rattle.mz_binary_theory.specs.Gapped.{AssertionBody, bodies_of, IsTheoremBody, IsGapped, leaves_gap, rests_on, GappedIn}
use Rattle.mz_binary_theory.specs.Standards.{draft_standard}
use Rattle.mz_binary_theory.proofs.Offered.{good-spelled, one-list}
use Rattle.mz_spec_proved_theory.specs.Match.{publics}
use Rattle.mz_match_theory.specs.declared.verdict.Counts.{Counts}
use Rattle.mz_match_theory.specs.declared.verdict.Verdict.{Verdict}
use Rattle.mz_match_theory.specs.declared.verdict.Verdict.TheVariants as verdicts
use Rattle.mz_match_theory.specs.Verdict.{AcceptsBy, AcceptsWithBy, FirstRefusalBy}
use Rattle.mz_match_theory.proofs.Offered.{verdict-or-refusal, verdict-says}
use Rattle.mz_match.specs.declared.draft.Draft.{Draft}
use Rattle.mz_match.specs.declared.draft.Draft.TheVariants as drafts
use Rattle.mz_match.specs.Drafts.{IsGapOf, IsGapHere, ListsGaps, ListsGapsOf, IsDraft, verdict_of}
use Rattle.mz_match.proofs.GapPlaces.{draft-verdict}

-- ---- one list of places

place-one : (G : ℕ → Type 0) (place T : ℕ) (d : Declaration) (here there : List ℕ) → IsGapOf G place T d here → IsGapOf G place T d there → here ≡ there
place-one G place T (sort_decl m) here there a b = a ∙ sym b
place-one G place T (term_decl t) here there a b = a ∙ sym b
place-one G place T (assertion_decl a) here there (inl (is, gap)) (inl (too, also)) = is ∙ sym too
place-one G place T (assertion_decl a) here there (inl (is, gap)) (inr (too, none)) = absurd (none gap)
place-one G place T (assertion_decl a) here there (inr (is, none)) (inl (too, gap)) = absurd (none gap)
place-one G place T (assertion_decl a) here there (inr (is, none)) (inr (too, also)) = is ∙ sym too

here-one : (G : ℕ → Type 0) (before : List Statement) (s : Statement) (here there : List ℕ) → IsGapHere G before s here → IsGapHere G before s there → here ≡ there
here-one G before s here there = by s.is_local
  where
    by : (b : Bool) → MatchBool b (here ≡ []) (IsGapOf G (length (publics before)) (length (assertions (declarations before))) s.decl here)
        → MatchBool b (there ≡ []) (IsGapOf G (length (publics before)) (length (assertions (declarations before))) s.decl there) → here ≡ there
    by true a b = a ∙ sym b
    by false a b = place-one G (length (publics before)) (length (assertions (declarations before))) s.decl here there a b

lists-one : (G : ℕ → Type 0) (before ss : List Statement) (places others : List ℕ) → ListsGaps G before ss places → ListsGaps G before ss others → places ≡ others
lists-one G before [] places others a b = a ∙ sym b
lists-one G before (s ∷ ss) places others (here, rest, is, gap, more) (there, later, too, also, further) =
    is ∙ ap₂ (λ (xs ys : List ℕ). xs ++ ys) (here-one G before s here there gap also) (lists-one G (before ++ s ∷ []) ss rest later more further) ∙ sym too

accepted-one : (spec bin : List ℕ) (a b : AcceptsBy draft_standard spec bin) (places others : List ℕ) → ListsGapsOf bin a.statements places → ListsGapsOf bin b.statements others → places ≡ others
accepted-one spec bin a b places others lists listing =
    let same : b.statements ≡ a.statements = one-list bin b.statements a.statements (good-spelled draft_standard bin b.statements b.is_good) (good-spelled draft_standard bin a.statements a.is_good) in
    lists-one (GappedIn bin a.statements) [] a.statements places others lists (subst (λ (ss : List Statement). ListsGapsOf bin ss others) same listing)

-- ---- one answer

abbrev gaps_of : Draft → List ℕ
gaps_of (drafts.Accepted counts gaps) = gaps
gaps_of (drafts.Spec refusal) = []
gaps_of (drafts.Binary refusal) = []
gaps_of (drafts.Match declaration statement rule) = []
gaps_of drafts.Mem = []

abbrev draft_with : Verdict → List ℕ → Draft
draft_with (verdicts.Accepted counts) gaps = drafts.Accepted counts gaps
draft_with (verdicts.Spec refusal) gaps = drafts.Spec refusal
draft_with (verdicts.Binary refusal) gaps = drafts.Binary refusal
draft_with (verdicts.Match declaration statement rule) gaps = drafts.Match declaration statement rule
draft_with verdicts.Mem gaps = drafts.Mem

of-parts : (d : Draft) → draft_with (verdict_of d) (gaps_of d) ≡ d
of-parts (drafts.Accepted counts gaps) = refl
of-parts (drafts.Spec refusal) = refl
of-parts (drafts.Binary refusal) = refl
of-parts (drafts.Match declaration statement rule) = refl
of-parts drafts.Mem = refl

-- where gaps are listed, they are those of an accepted pair
abbrev Lists : List ℕ → List ℕ → Draft → Type 0
Lists spec bin d = (counts : Counts) → verdict_of d ≡ verdicts.Accepted counts → (accepts : AcceptsBy draft_standard spec bin) × ListsGapsOf bin accepts.statements (gaps_of d)

lists-of : (spec bin : List ℕ) (d : Draft) → IsDraft spec bin d → Lists spec bin d
lists-of spec bin (drafts.Accepted counts gaps) (accepts, is, lists) = λ c same. (accepts, lists)
lists-of spec bin (drafts.Spec refusal) h = λ c same. absurd cc
lists-of spec bin (drafts.Binary refusal) h = λ c same. absurd cc
lists-of spec bin (drafts.Match declaration statement rule) h = λ c same. absurd cc
lists-of spec bin drafts.Mem h = λ c same. absurd cc

none-of : (d : Draft) → ((counts : Counts) → verdict_of d ≡ verdicts.Accepted counts → ⊥) → gaps_of d ≡ []
none-of (drafts.Accepted counts gaps) other = absurd (other counts refl)
none-of (drafts.Spec refusal) other = refl
none-of (drafts.Binary refusal) other = refl
none-of (drafts.Match declaration statement rule) other = refl
none-of drafts.Mem other = refl

is-accepted : (v : Verdict) → ((counts : Counts) × (v ≡ verdicts.Accepted counts)) ⊎ ((counts : Counts) → v ≡ verdicts.Accepted counts → ⊥)
is-accepted (verdicts.Accepted counts) = inl (counts, refl)
is-accepted (verdicts.Spec refusal) = inr λ c same. cc
is-accepted (verdicts.Binary refusal) = inr λ c same. cc
is-accepted (verdicts.Match declaration statement rule) = inr λ c same. cc
is-accepted verdicts.Mem = inr λ c same. cc

same-draft : (spec bin : List ℕ) (d e : Draft) → IsDraft spec bin d → IsDraft spec bin e → verdict_of d ≡ verdict_of e → d ≡ e
same-draft spec bin d e is too same =
    let gaps : gaps_of d ≡ gaps_of e = elim (is-accepted (verdict_of d)) [
      | inl (counts, accepting) ↦ (
          let a = lists-of spec bin d is counts accepting in
          let b = lists-of spec bin e too counts (sym same ∙ accepting) in
          accepted-one spec bin a.0 b.0 (gaps_of d) (gaps_of e) a.1 b.1)
      | inr other ↦ none-of d other ∙ sym (none-of e (λ counts accepting. other counts (same ∙ accepting)))
    ] in
    sym (of-parts d) ∙ ap₂ draft_with same gaps ∙ of-parts e

-- ---- some answer: whether a theorem is gapped can be found out

abbrev Decided : Type 0 → Type 0
Decided P = P ⊎ (P → ⊥)

is-gap : (o : Option ProofCode) → Decided (o ≡ Some Sorry)
is-gap (Some Sorry) = inl refl
is-gap o = inr λ is. cc

is-citation : (o : Option ProofCode) → Decided ((o ≡ Some Thm) ⊎ (o ≡ Some ThmSave))
is-citation (Some Thm) = inl (inl refl)
is-citation (Some ThmSave) = inl (inr refl)
is-citation o = inr λ is. elim is [ inl one ↦ cc | inr other ↦ cc ]

gap-by : (n : ℕ) (bytes : List ℕ) (r : Result Cmd CmdFault) → first_command bytes ≡ r → ((c : Cmd) → Decided (GapsWithin n (drop c.len bytes))) → Decided (GapsWithin (suc n) bytes)
gap-by n bytes (Err f) read after = inr λ (c, is, which). absurd (let both : ◌≡◌ {A = Result Cmd CmdFault} (Err f) (Ok c) = sym read ∙ is in cc)
gap-by n bytes (Ok c) read after = elim (is-gap (proof_code c.code)) [
  | inl is ↦ inl (c, read, inl is)
  | inr other ↦ elim (after c) [
    | inl later ↦ inl (c, read, inr later)
    | inr none ↦ inr λ (d, too, which). (
        let same : d ≡ c = cmd-is bytes d c too read in
        elim which [
          | inl gap ↦ other (subst (λ (x : Cmd). proof_code x.code ≡ Some Sorry) same gap)
          | inr within ↦ none (subst (λ (x : Cmd). GapsWithin n (drop x.len bytes)) same within)
        ])
  ]
]

gap-decided : (n : ℕ) (bytes : List ℕ) → Decided (GapsWithin n bytes)
gap-decided zero bytes = inr λ within. within
gap-decided (suc n) bytes = gap-by n bytes (first_command bytes) refl (λ c. gap-decided n (drop c.len bytes))

-- a command cites one with G
abbrev Cites : (ℕ → Type 0) → ℕ → List ℕ → Type 0
Cites G n bytes = (U : ℕ) × CitesWithin n bytes U × G U

module _ (G : ℕ → Type 0) (decided : (U : ℕ) → Decided (G U)) where
  cites-here : (c : Cmd) → Decided (((proof_code c.code ≡ Some Thm) ⊎ (proof_code c.code ≡ Some ThmSave)) × G c.value)
  cites-here c = elim (is-citation (proof_code c.code)) [
    | inl cites ↦ elim (decided c.value) [ inl g ↦ inl (cites, g) | inr none ↦ inr λ (is, g). none g ]
    | inr other ↦ inr λ (is, g). other is
  ]

  cites-by : (n : ℕ) (bytes : List ℕ) (r : Result Cmd CmdFault) → first_command bytes ≡ r → ((c : Cmd) → Decided (Cites G n (drop c.len bytes))) → Decided (Cites G (suc n) bytes)
  cites-by n bytes (Err f) read after = inr λ (U, within, g). absurd (let both : ◌≡◌ {A = Result Cmd CmdFault} (Err f) (Ok within.0) = sym read ∙ within.1 in cc)
  cites-by n bytes (Ok c) read after = elim (cites-here c) [
    | inl (cites, g) ↦ inl (c.value, (c, read, inl (cites, refl)), g)
    | inr other ↦ elim (after c) [
      | inl (U, later, g) ↦ inl (U, (c, read, inr later), g)
      | inr none ↦ inr λ (U, within, g). (
          let same : within.0 ≡ c = cmd-is bytes within.0 c within.1 read in
          elim within.2 [
            | inl cited ↦ other (subst (λ (x : Cmd). ((proof_code x.code ≡ Some Thm) ⊎ (proof_code x.code ≡ Some ThmSave)) × G x.value) same (cited.0, subst G (sym cited.1) g))
            | inr later ↦ none (U, subst (λ (x : Cmd). CitesWithin n (drop x.len bytes) U) same later, g)
          ])
    ]
  ]

  cites-decided : (n : ℕ) (bytes : List ℕ) → Decided (Cites G n bytes)
  cites-decided zero bytes = inr λ (U, within, g). within
  cites-decided (suc n) bytes = cites-by n bytes (first_command bytes) refl (λ c. cites-decided n (drop c.len bytes))

module _ (bodies : List AssertionBody) where
  -- gapped, and before the T-th
  abbrev Earlier : ℕ → ℕ → Type 0
  Earlier T U = (U < T) × IsGapped bodies U

  why : (T : ℕ) → IsGapped bodies T → (bytes : List ℕ) × IsTheoremBody bodies T bytes × (HasGap bytes ⊎ Cites (Earlier T) (length bytes) bytes)
  why T (leaves_gap T0 bytes there gap) = (bytes, there, inl gap)
  why T (rests_on T0 U bytes there cited earlier on) = (bytes, there, inr (U, cited, (earlier, on)))

  gapped-by : (T : ℕ) → ((U : ℕ) → Decided (Earlier T U)) → (o : Option AssertionBody) → slice_get bodies T ≡ o → Decided (IsGapped bodies T)
  gapped-by T decided None is = inr λ gapped. none-some _ (sym is ∙ (why T gapped).1)
  gapped-by T decided (Some b) is = by b.is_axiom refl
    where
      theorem-only : IsGapped bodies T → (bytes : List ℕ) × (b ≡ record { is_axiom = false; bytes = bytes }) × (HasGap bytes ⊎ Cites (Earlier T) (length bytes) bytes)
      theorem-only gapped = let (bytes, there, which) = why T gapped in (bytes, one_at is there, which)

      by : (x : Bool) → b.is_axiom ≡ x → Decided (IsGapped bodies T)
      by true kind = inr λ gapped. (let bad : true ≡ false = sym kind ∙ ap (λ (x : AssertionBody). x.is_axiom) (theorem-only gapped).1 in cc)
      by false kind =
          let there : IsTheoremBody bodies T b.bytes = is ∙ ap (λ (x : Bool). Some (record { is_axiom = x; bytes = b.bytes })) kind in
          elim (gap-decided (length b.bytes) b.bytes) [
            | inl gap ↦ inl (leaves_gap T b.bytes there gap)
            | inr none ↦ elim (cites-decided (Earlier T) decided (length b.bytes) b.bytes) [
              | inl (U, cited, (earlier, on)) ↦ inl (rests_on T U b.bytes there cited earlier on)
              | inr other ↦ inr λ gapped. (
                  let (bytes, one, which) = theorem-only gapped in
                  let same : bytes ≡ b.bytes = sym (ap (λ (x : AssertionBody). x.bytes) one) in
                  elim which [
                    | inl gap ↦ none (subst HasGap same gap)
                    | inr cites ↦ other (subst (λ (bs : List ℕ). Cites (Earlier T) (length bs) bs) same cites)
                  ])
            ]
          ]

  earlier-decided : (T U : ℕ) → Decided (Earlier T U)
  earlier-decided zero U = inr λ (lt, gapped). (omega (arith, lt))
  earlier-decided (suc T) U = elim (cases_lt U T) [
    | inl lt ↦ elim (earlier-decided T U) [
      | inl earlier ↦ inl (omega (arith, lt), earlier.1)
      | inr none ↦ inr λ (before, gapped). none (lt, gapped)
    ]
    | inr past ↦ elim (cases_lt T U) [
      | inl above ↦ inr λ (before, gapped). omega (arith, above, before)
      | inr within ↦ (
          let same : T ≡ U = omega (arith, past, within) in
          subst (λ (n : ℕ). Decided (Earlier (suc T) n)) same
          (elim (gapped-by T (earlier-decided T) (slice_get bodies T) refl) [
            | inl gapped ↦ inl (omega arith, gapped)
            | inr none ↦ inr λ (before, gapped). none gapped
          ]))
    ]
  ]

  gapped-decided : (T : ℕ) → Decided (IsGapped bodies T)
  gapped-decided T = gapped-by T (earlier-decided T) (slice_get bodies T) refl

-- ---- the places that are listed

some-place : (G : ℕ → Type 0) → ((T : ℕ) → Decided (G T)) → (place T : ℕ) (d : Declaration) → (here : List ℕ) × IsGapOf G place T d here
some-place G decided place T (sort_decl m) = ([], refl)
some-place G decided place T (term_decl t) = ([], refl)
some-place G decided place T (assertion_decl a) = elim (decided T) [ inl gap ↦ (place ∷ [], inl (refl, gap)) | inr none ↦ ([], inr (refl, none)) ]

some-here : (G : ℕ → Type 0) → ((T : ℕ) → Decided (G T)) → (before : List Statement) (s : Statement) → (here : List ℕ) × IsGapHere G before s here
some-here G decided before s = by s.is_local
  where
    by : (b : Bool) → (here : List ℕ) × MatchBool b (here ≡ []) (IsGapOf G (length (publics before)) (length (assertions (declarations before))) s.decl here)
    by true = ([], refl)
    by false = some-place G decided (length (publics before)) (length (assertions (declarations before))) s.decl

some-places : (G : ℕ → Type 0) → ((T : ℕ) → Decided (G T)) → (before ss : List Statement) → (places : List ℕ) × ListsGaps G before ss places
some-places G decided before [] = ([], refl)
some-places G decided before (s ∷ ss) =
    let (here, gap) = some-here G decided before s in
    let (rest, more) = some-places G decided (before ++ s ∷ []) ss in
    (here ++ rest, (here, rest, refl, gap, more))

-- ---- exactly one

-- an answer other than out of memory
abbrev Answer : List ℕ → List ℕ → Draft → Type 0
Answer spec bin d = IsDraft spec bin d × (d ≢ drafts.Mem)

refused : (spec bin : List ℕ) (v : Verdict) → FirstRefusalBy draft_standard spec bin v → (d : Draft) × IsDraft spec bin d × (d ≢ drafts.Mem)
refused spec bin (verdicts.Accepted counts) first = absurd first
refused spec bin (verdicts.Spec refusal) first = (drafts.Spec refusal, first, λ e. cc)
refused spec bin (verdicts.Binary refusal) first = (drafts.Binary refusal, first, λ e. cc)
refused spec bin (verdicts.Match d s rule) first = (drafts.Match d s rule, first, λ e. cc)
refused spec bin verdicts.Mem first = absurd first

accepted : (spec bin : List ℕ) (counts : Counts) → AcceptsWithBy draft_standard spec bin counts → (d : Draft) × IsDraft spec bin d × (d ≢ drafts.Mem)
accepted spec bin counts (accepts, is) =
    let (places, lists) = some-places (GappedIn bin accepts.statements) (gapped-decided (bodies_of bin accepts.statements)) [] accepts.statements in
    (drafts.Accepted counts places, (accepts, is, lists), λ e. cc)

pub some-draft : (spec bin : List ℕ) → (d : Draft) × IsDraft spec bin d × (d ≢ drafts.Mem)
some-draft spec bin = elim (verdict-or-refusal draft_standard spec bin) [
  | inl (counts, accepts) ↦ accepted spec bin counts accepts
  | inr (v, first) ↦ refused spec bin v first
]

mem-only : (d : Draft) → verdict_of d ≡ verdicts.Mem → d ≡ drafts.Mem
mem-only (drafts.Accepted counts gaps) is = absurd cc
mem-only (drafts.Spec refusal) is = absurd cc
mem-only (drafts.Binary refusal) is = absurd cc
mem-only (drafts.Match declaration statement rule) is = absurd cc
mem-only drafts.Mem is = refl

not-mem : (d : Draft) (v : Verdict) → d ≢ drafts.Mem → (verdict_of d ≡ v) ⊎ (verdict_of d ≡ verdicts.Mem) → verdict_of d ≡ v
not-mem d v told (inl same) = same
not-mem d v told (inr mem) = absurd (told (mem-only d mem))

same-verdict : (spec bin : List ℕ) (d e : Draft) → Answer spec bin d → Answer spec bin e → verdict_of d ≡ verdict_of e
same-verdict spec bin d (drafts.Accepted counts gaps) (is, told) ((accepts, counted, lists), also) =
    not-mem d (verdicts.Accepted counts) told (verdict-says draft_standard spec bin (verdict_of d) (verdicts.Accepted counts) (draft-verdict spec bin d is) (accepts, counted))
same-verdict spec bin d (drafts.Spec r) (is, told) (too, also) =
    not-mem d (verdicts.Spec r) told (verdict-says draft_standard spec bin (verdict_of d) (verdicts.Spec r) (draft-verdict spec bin d is) too)
same-verdict spec bin d (drafts.Binary r) (is, told) (too, also) =
    not-mem d (verdicts.Binary r) told (verdict-says draft_standard spec bin (verdict_of d) (verdicts.Binary r) (draft-verdict spec bin d is) too)
same-verdict spec bin d (drafts.Match n k rule) (is, told) (too, also) =
    not-mem d (verdicts.Match n k rule) told (verdict-says draft_standard spec bin (verdict_of d) (verdicts.Match n k rule) (draft-verdict spec bin d is) too)
same-verdict spec bin d drafts.Mem (is, told) (too, also) = absurd (also refl)

pub one-draft : (spec bin : List ℕ) (d e : Draft) → IsDraft spec bin d → d ≢ drafts.Mem → IsDraft spec bin e → e ≢ drafts.Mem → d ≡ e
one-draft spec bin d e is told too also = same-draft spec bin d e is too (same-verdict spec bin d e (is, told) (too, also))
