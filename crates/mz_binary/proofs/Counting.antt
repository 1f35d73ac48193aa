-- The commands executed in what is left of a list.
use Rattle.std.proofs.Common.{◌≡◌, ◌<◌, ◌≤◌, ◌+◌, ◌∙◌, ℕ, suc, List, length, Result, Ok, Err, refl, sym, ap, arith, mul-suc, ◌-◌, ◌*◌}
use Rattle.mz_base.specs.Checks.{FailsFirst, Judges}
use Rattle.mz_base.proofs.Offered.{all_hold-excludes}
use Rattle.mz_cmd.specs.declared.rule.K.{K}
use Rattle.mz_layout_tables.specs.Tables.{list_at}
use Rattle.mz_layout_tables.specs.Layout.{Layout, layout_checks}
use Rattle.mz_machine_theory.specs.FileRows.{Taken, nothing_taken}
use Rattle.mz_machine_theory.proofs.Offered.{times-grow, add-times}
use Rattle.mz_machine_env.specs.Before.{taken_before}
use Rattle.mz_binary_theory.specs.FileRun.{Passing, test_layout, steps_after, file_steps, Onward, ended, onward, run_place, follow_steps, list_steps}
use Rattle.mz_binary.specs.Progress.{Progress, next_steps, steps_left}
use Rattle.mz_binary.specs.declared.checker.Next.{Next}
use Rattle.mz_binary.specs.declared.checker.Next.TheVariants as next
use Rattle.mz_binary.specs.Judging.{IfTold}
use Rattle.mz_binary_theory.proofs.Offered.{layout-judged, bound-never-ends}
use Rattle.mz_binary_theory.specs.Standards.{Standard}

-- of any answer, and so of one that is reported
pub if-told : {B : Type 0} (r : Next B) (P : Type 0) → P → IfTold r P
if-told (next.Statement after told) P h = h
if-told (next.End rows) P h = h
if-told (next.Refused refusal) P h = h
if-told next.Mem P h = tt

module _ (p : Progress) where
  abbrev t : Taken
  t = taken_before p.file p.rows

  left-is : steps_left p ≡ next_steps p + follow_steps (run_place p.standard p.file t p.at) (λ after to. list_steps p.standard p.file (length p.file) after to)
  unfolding list_steps
  left-is = let one : length p.file + 1 ≡ suc (length p.file) = omega arith in ap (λ (n : ℕ). list_steps p.standard p.file n t p.at) one

  follow-is : (r : Result Onward (ℕ × K)) → run_place p.standard p.file t p.at ≡ r → steps_left p ≡ next_steps p + follow_steps r (λ after to. list_steps p.standard p.file (length p.file) after to)
  follow-is r e = left-is ∙ ap (λ (x : Result Onward (ℕ × K)). next_steps p + follow_steps x (λ after to. list_steps p.standard p.file (length p.file) after to)) e

  pub left-at-fault : (f : ℕ × K) → run_place p.standard p.file t p.at ≡ Err f → steps_left p ≡ next_steps p
  left-at-fault f e = follow-is (Err f) e ∙ omega arith

  pub left-at-end : run_place p.standard p.file t p.at ≡ Ok ended → steps_left p ≡ next_steps p
  left-at-end e = follow-is (Ok ended) e ∙ omega arith

  pub left-past : (after : Progress) (to : ℕ) (taken : Taken) → run_place p.standard p.file t p.at ≡ Ok (onward taken to) → taken ≡ taken_before after.file after.rows → to ≡ after.at → after.file ≡ p.file → after.standard ≡ p.standard
      → p.at < after.at → after.at ≤ length p.file → steps_left p ≡ next_steps p + steps_left after
  left-past after to taken e rows place same mode further within =
      let files : length after.file ≡ length p.file = ap length same in
      let bounds : list_steps p.standard p.file (length p.file) taken to ≡ list_steps p.standard p.file (length p.file + 1) taken to =
      (bound-never-ends p.standard p.file (length p.file) (length p.file + 1) 0 taken to (omega (arith, place)) (omega (arith, place))).1 in
      follow-is (Ok (onward taken to)) e
      ∙ ap (λ (n : ℕ). next_steps p + n)
      (bounds ∙ ap (λ (x : Taken). list_steps p.standard p.file (length p.file + 1) x to) rows ∙ ap (λ (n : ℕ). list_steps p.standard p.file (length p.file + 1) (taken_before after.file after.rows) n) place
      ∙ sym (ap (λ (g : Standard). list_steps g after.file (length after.file + 1) (taken_before after.file after.rows) after.at) mode
      ∙ ap (λ (f : List ℕ). list_steps p.standard f (length f + 1) (taken_before after.file after.rows) after.at) same))

-- ---- the whole file

-- where header and tables are in order, the commands of the list
pub steps-of-list : (standard : Standard) (file : List ℕ) → Layout file → file_steps standard file ≡ list_steps standard file (length file + 1) nothing_taken (list_at file)
steps-of-list standard file layout = go (test_layout file) (layout-judged file)
  where
    go : (r : Passing) → Judges r (layout_checks file) → steps_after r (list_steps standard file (length file + 1) nothing_taken (list_at file)) ≡ list_steps standard file (length file + 1) nothing_taken (list_at file)
    go (Ok x) j = refl
    go (Err f) j = absurd (all_hold-excludes (layout_checks file) f layout j)

-- and none where they aren't
pub no-steps : (standard : Standard) (file : List ℕ) (f : ℕ × K) → FailsFirst (layout_checks file) f → file_steps standard file ≡ 0
no-steps standard file f fails = go (test_layout file) (layout-judged file)
  where
    go : (r : Passing) → Judges r (layout_checks file) → steps_after r (list_steps standard file (length file + 1) nothing_taken (list_at file)) ≡ 0
    go (Ok x) j = absurd (all_hold-excludes (layout_checks file) f j fails)
    go (Err g) j = refl

-- ---- the most that can be counted

-- of a body from a place on, and then from the next statement on
pub most-past : (n at body next old new : ℕ) → at ≤ body → body ≤ next → next ≤ n → new ≤ old + (next - body) * (n + 1) → new + (n - next) * (n + 1) ≤ old + (n - at) * (n + 1)
most-past n at body next old new p q r few =
    let sum : ((next - body) + (n - next)) * (n + 1) ≡ (next - body) * (n + 1) + (n - next) * (n + 1) = add-times (next - body) (n - next) (n + 1) in
    let grow : ((next - body) + (n - next)) * (n + 1) ≤ (n - at) * (n + 1) = times-grow ((next - body) + (n - next)) (n - at) (n + 1) (omega arith) in
    omega (arith, few, sum, grow)

-- and of the body alone
pub most-here : (n at body next old new : ℕ) → at ≤ body → body ≤ next → next ≤ n → new ≤ old + (next - body) * (n + 1) → new ≤ old + (n - at) * (n + 1)
most-here n at body next old new p q r few = omega (arith, most-past n at body next old new p q r few)

pub most-of-file : (n at : ℕ) → (n - at) * (n + 1) ≤ n * n + n
most-of-file n at =
    let one : n + 1 ≡ suc n = omega arith in
    let square : n * (n + 1) ≡ n * n + n = ap (λ (z : ℕ). n * z) one ∙ mul-suc n n in
    omega (arith, times-grow (n - at) n (n + 1) (omega arith), square)
