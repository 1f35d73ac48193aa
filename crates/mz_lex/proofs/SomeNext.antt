-- From each place of a text on something comes next.
use Rattle.std.proofs.Common.{◌≡◌, ◌≢◌, ◌<◌, ◌≤◌, ◌+◌, ◌-◌, ◌∙◌, ◌⊎◌, ◌∷◌, [], ℕ, zero, suc, List, length, drop, take, get_or, Bool, true, false, not, arith, ap, sym, refl, inl, inr, subst, Ok, Err, Some, None}
use Rattle.std.specs.Prelude.{slice_range, ◌==◌}
use Rattle.std.specs.List.{list_all}
use Rattle.std.proofs.lemmas.Bool.{cases_Bool, cases_lt, cases_eq, and_cases, or_from, ne_eqb, false≢true, true≢false}
use Rattle.mz_base.specs.Identifiers.{is_digit, is_name_byte, is_name_start}
use Rattle.mz_lex.specs.Kinds.{is_allowed, is_comment_byte, is_math_byte, is_number_start, is_of_kind, is_space, is_symbol_byte}
use Rattle.mz_lex.specs.Lexemes.{Answer, ComesNext, HasBadByte, InComment, IsBadByte, IsBlank, IsGap}
use Rattle.mz_lex.specs.Scan.{IsNameTo, IsNoName, IsRun, IsStart}
use Rattle.mz_lex.specs.declared.token.LexFault.TheVariants as faults
use Rattle.mz_lex.specs.declared.token.TokenKind.TheVariants as kinds
use Rattle.mz_lex.proofs.Blanks.{blank-gap, blank-nothing, gap-forward}
use Rattle.mz_lex.proofs.Names.{name-next}
use Rattle.mz_lex.proofs.OtherKinds.{digit-no_name, math-next, math-open, no-lexeme, number-next, symbol-next}
use Rattle.mz_lex.proofs.Runs.{run-more}

-- ---- runs

run-on : (p : ℕ → Bool) (text : List ℕ) (from n end : ℕ) → end + n ≡ length text → from ≤ end → list_all p (slice_range text from end) ≡ true → (to : ℕ) × IsRun p text from to
run-on p text from zero end size le all = (end, record { later = le; within = omega arith; all = all; stops = λ more. absurd (omega arith) })
run-on p text from (suc n) end size le all =
    elim (cases_Bool (p (get_or text end 0))) [
      | inl goes ↦ run-on p text from n (end + 1) (omega arith) (omega arith) (run-more p text from end le (omega arith) all goes)
      | inr stops ↦ (end, record { later = le; within = omega arith; all = all; stops = λ more. stops })
    ]

-- the bytes of a class end somewhere
pub run-ends : (p : ℕ → Bool) (text : List ℕ) (from : ℕ) → from ≤ length text → (to : ℕ) × IsRun p text from to
run-ends p text from le =
    let none : from - from ≡ 0 = omega arith in
    run-on p text from (length text - from) from (omega arith) (omega arith) (ap (λ n. list_all p (take n (drop from text))) none)

-- ---- whitespace and comments

abbrev Skipped : List ℕ → ℕ → Type 0
Skipped text at = ((q : ℕ) × IsBadByte text at q) ⊎ (((next : ℕ) × IsGap text at next × (next ≤ length text)) ⊎ IsStart text at)

comment-part : (text : List ℕ) (at : ℕ) → at + 2 ≤ length text → get_or text at 0 ≡ 45 → get_or text (at + 1) 0 ≡ 45 → (to : ℕ) × IsRun is_comment_byte text (at + 2) to → Skipped text at
comment-part text at le first second (to, run) =
    let later = run.later in
    let begun : InComment text at to = record { first = first; second = second; longer = later; bytes = run.all } in
    elim (cases_lt to (length text)) [
      | inl more ↦ (elim (cases_eq (get_or text to 0) 10) [
        | inl line ↦ inr (inl (to, inr (record { begun = begun; within = run.within; line_ends = inr line }), run.within))
        | inr other ↦ inl (to, record { within = more; byte = or_from _ _ (run.stops more) (ne_eqb (get_or text to 0) 10 other); reached = inr (inl begun) })
      ])
      | inr end ↦ (let within = run.within in let last : to ≡ length text = omega arith in
          inr (inl (to, inr (record { begun = begun; within = within; line_ends = inl last }), within)))
    ]

no-comment-part : (text : List ℕ) (at : ℕ) → at ≤ length text → (at + 2 ≤ length text → get_or text at 0 ≡ 45 → get_or text (at + 1) 0 ≡ 45 → ⊥) → Skipped text at
no-comment-part text at le none =
    elim (cases_lt at (length text)) [
      | inl more ↦ (elim (cases_Bool (is_space (get_or text at 0))) [
        | inl space ↦ inr (inl (at + 1, inl (record { one = refl; within = more; byte = space }), omega arith))
        | inr other ↦ inr (inr (starts (λ to space. false≢true (sym other ∙ space))))
      ])
      | inr end ↦ inr (inr (record { no_gap = λ to gap. past to gap end; no_comment = λ to lt begun. let longer = begun.longer in absurd (omega arith) }))
    ]
  where
    cut : (to : ℕ) → to ≤ length text → InComment text at to → ⊥
    cut to lt begun = let longer = begun.longer in none (omega arith) begun.first begun.second

    no-gap : ((to : ℕ) → is_space (get_or text at 0) ≡ true → ⊥) → (to : ℕ) → IsGap text at to → ⊥
    no-gap other to (inl space) = other to space.byte
    no-gap other to (inr comment) = cut to comment.within comment.begun

    starts : ((to : ℕ) → is_space (get_or text at 0) ≡ true → ⊥) → IsStart text at
    starts other = record { no_gap = no-gap other; no_comment = λ to lt begun. cut to (omega arith) begun }

    past : (to : ℕ) → IsGap text at to → length text ≤ at → ⊥
    past to (inl space) end = let within = space.within in absurd (omega arith)
    past to (inr comment) end = let longer = comment.begun.longer in let within = comment.within in absurd (omega arith)

skip-one : (text : List ℕ) (at : ℕ) → at ≤ length text → Skipped text at
skip-one text at le =
    elim (cases_lt (length text) (at + 2)) [
      | inl short ↦ no-comment-part text at le (λ long first second. absurd (omega arith))
      | inr long ↦ (elim (cases_eq (get_or text at 0) 45) [
        | inr other ↦ no-comment-part text at le (λ far first second. other first)
        | inl first ↦ (elim (cases_eq (get_or text (at + 1) 0) 45) [
          | inr other ↦ no-comment-part text at le (λ far begins second. other second)
          | inl second ↦ comment-part text at long first second (run-ends is_comment_byte text (at + 2) long)
        ])
      ])
    ]

abbrev SkippedAll : List ℕ → ℕ → Type 0
SkippedAll text from = ((q : ℕ) × HasBadByte text from q) ⊎ ((start : ℕ) × IsBlank text from start × IsStart text start × (start ≤ length text))

skip-all : (n : ℕ) (text : List ℕ) (from at : ℕ) → length text ≤ at + n → at ≤ length text → IsBlank text from at → SkippedAll text from
skip-all zero text from at near le blank =
    elim (skip-one text at le) [
      | inl (q, bad) ↦ inl (q, (at, blank, bad))
      | inr other ↦ elim other [
        | inl (next, gap, within) ↦ absurd (omega (arith, gap-forward text at next gap))
        | inr start ↦ inr (at, blank, start, le)
      ]
    ]
skip-all (suc n) text from at near le blank =
    elim (skip-one text at le) [
      | inl (q, bad) ↦ inl (q, (at, blank, bad))
      | inr other ↦ elim other [
        | inl (next, gap, within) ↦ skip-all n text from next (omega (arith, gap-forward text at next gap)) within (blank-gap text from at next blank gap)
        | inr start ↦ inr (at, blank, start, le)
      ]
    ]

-- ---- lexemes

abbrev Next : List ℕ → ℕ → Type 0
Next text from = (a : Answer) × ComesNext text from a

name-part : (text : List ℕ) (at : ℕ) → at < length text → (to : ℕ) × IsRun is_name_byte text (at + 1) to → is_name_start (get_or text at 0) ≡ true → ((to : ℕ) × IsNameTo text at to) ⊎ IsNoName text at
name-part text at lt (to, run) start =
    let later = run.later in
    elim (cases_lt (at + 1) to) [
      | inl more ↦ inl (to, record { start = start; run = run; other = λ line. more })
      | inr end ↦ (elim (cases_eq (get_or text at 0) 95) [
        | inl line ↦ (let same : to ≡ at + 1 = omega arith in
            let P : ℕ → Type 0 = λ i. i < length text → is_name_byte (get_or text i 0) ≡ false in inr (inr (line, subst P same run.stops)))
        | inr other ↦ inl (to, record { start = start; run = run; other = λ line. absurd (other line) })
      ])
    ]

name-step : (text : List ℕ) (at : ℕ) → at < length text → ((to : ℕ) × IsNameTo text at to) ⊎ IsNoName text at
name-step text at lt =
    elim (cases_Bool (is_name_start (get_or text at 0))) [
      | inl start ↦ name-part text at lt (run-ends is_name_byte text (at + 1) (omega arith)) start
      | inr other ↦ inr (inl other)
    ]

not-allowed : (c : ℕ) → is_math_byte c ≡ false → c ≢ 36 → is_allowed c ≡ false
not-allowed c stops other =
    elim (and_cases (is_allowed c) (not (c == 36)) stops) [
      | inl bad ↦ bad
      | inr dollar ↦ absurd (true≢false (sym (ap not (ne_eqb c 36 other)) ∙ dollar))
    ]

math-part : (text : List ℕ) (from at : ℕ) → at < length text → IsBlank text from at → IsStart text at → get_or text at 0 ≡ 36 → (to : ℕ) × IsRun is_math_byte text (at + 1) to → Next text from
math-part text from at lt blank start first (to, run) =
    let later = run.later in
    elim (cases_lt to (length text)) [
      | inl more ↦ (elim (cases_eq (get_or text to 0) 36) [
        | inl last ↦ (Ok (Some (record { kind = kinds.Math; from = at; to = to + 1 })), math-next text from at to later more blank first run.all last)
        | inr other ↦ (
          Err (faults.Char to),
          (
            at,
            blank,
            record { within = more; byte = not-allowed (get_or text to 0) (run.stops more) other; reached = inr (inr (record { first = first; longer = later; bytes = run.all })) },
          ),
        )
      ])
      | inr end ↦ (let within = run.within in let last : to ≡ length text = omega arith in
          (Err (faults.Token at), math-open text from at lt blank start first (ap (λ n. list_all is_math_byte (slice_range text (at + 1) n)) (sym last) ∙ run.all)))
    ]

number-part : (text : List ℕ) (from at : ℕ) → at < length text → IsBlank text from at → IsNoName text at → get_or text at 0 ≢ 36 → is_number_start (get_or text at 0) ≡ true → (to : ℕ) × IsRun is_digit text (at + 1) to → Next text from
number-part text from at lt blank name math digit (to, run) = (
  Ok (Some (record { kind = kinds.Number; from = at; to = to })),
  number-next text from at to lt run.later run.within blank digit (digit-no_name text at name digit) math run.all run.stops,
)

symbol-part : (text : List ℕ) (from at : ℕ) → at < length text → IsBlank text from at → IsStart text at → is_allowed (get_or text at 0) ≡ true → IsNoName text at
    → get_or text at 0 ≢ 36 → is_number_start (get_or text at 0) ≡ false → Next text from
symbol-part text from at lt blank start allowed name math number =
    elim (cases_eq (get_or text at 0) 48) [
      | inl nought ↦ (
        Ok (Some (record { kind = kinds.Number; from = at; to = at + 1 })),
        symbol-next text from at kinds.Number lt blank name (ap (λ b. is_of_kind kinds.Number (b ∷ [])) nought) number math,
      )
      | inr other ↦ (elim (cases_Bool (is_symbol_byte (get_or text at 0))) [
        | inl symbol ↦ (Ok (Some (record { kind = kinds.Symbol; from = at; to = at + 1 })), symbol-next text from at kinds.Symbol lt blank name symbol number math)
        | inr none ↦ (Err (faults.Token at), no-lexeme text from at lt blank start allowed name math number other none)
      ])
    ]

unnamed-part : (text : List ℕ) (from at : ℕ) → at < length text → IsBlank text from at → IsStart text at → is_allowed (get_or text at 0) ≡ true → IsNoName text at → Next text from
unnamed-part text from at lt blank start allowed name =
    elim (cases_eq (get_or text at 0) 36) [
      | inl first ↦ math-part text from at lt blank start first (run-ends is_math_byte text (at + 1) (omega arith))
      | inr math ↦ (elim (cases_Bool (is_number_start (get_or text at 0))) [
        | inl digit ↦ number-part text from at lt blank name math digit (run-ends is_digit text (at + 1) (omega arith))
        | inr number ↦ symbol-part text from at lt blank start allowed name math number
      ])
    ]

token-part : (text : List ℕ) (from at : ℕ) → at < length text → IsBlank text from at → IsStart text at → Next text from
token-part text from at lt blank start =
    elim (cases_Bool (is_allowed (get_or text at 0))) [
      | inr bad ↦ (Err (faults.Char at), (at, blank, record { within = lt; byte = bad; reached = inl refl }))
      | inl allowed ↦ (elim (name-step text at lt) [
        | inl (to, name) ↦ (
          Ok (Some (record { kind = kinds.Name; from = at; to = to })),
          name-next text from at to name.run.later name.run.within blank name.start name.run.all name.run.stops name.other,
        )
        | inr none ↦ unnamed-part text from at lt blank start allowed none
      ])
    ]

pub some-next : (text : List ℕ) (from : ℕ) → from ≤ length text → (a : Answer) × ComesNext text from a
some-next text from le =
    elim (skip-all (length text - from) text from from (omega arith) le (blank-nothing text from)) [
      | inl (q, bad) ↦ (Err (faults.Char q), bad)
      | inr (at, blank, start, within) ↦ (elim (cases_lt at (length text)) [
        | inl lt ↦ token-part text from at lt blank start
        | inr end ↦ (let same : at ≡ length text = omega arith in let P : ℕ → Type 0 = λ i. IsBlank text from i in (Ok None, subst P same blank))
      ])
    ]
