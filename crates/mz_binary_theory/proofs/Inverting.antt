-- What stands at a place that passes, from what is computed there.
use Rattle.std.proofs.Common.{◌≡◌, ◌⊎◌, ℕ, Bool, true, false, List, Option, Some, None, Result, Ok, Err, refl, sym, ap, ◌∙◌, inl, inr}
use Rattle.mz_cmd.specs.declared.rule.K.{K}
use Rattle.mz_cmd.specs.declared.rule.K.TheVariants as rules
use Rattle.mz_cmd.specs.declared.code.StatementCode.{StatementCode}
use Rattle.mz_cmd.specs.declared.code.StatementCode.TheVariants as codes
use Rattle.mz_cmd.specs.declared.statement.StmtAt.{StmtAt}
use Rattle.mz_cmd.specs.declared.statement.StmtAt.TheVariants.{End, Head}
use Rattle.mz_cmd.specs.declared.statement.StmtFault.{StmtFault}
use Rattle.mz_cmd.specs.Codes.{statement_code}
use Rattle.mz_cmd.specs.StatementList.{statement_at}
use Rattle.mz_machine_theory.specs.Steps.{◌>>=◌, ◌>>◌ as ◌then◌}
use Rattle.mz_machine_theory.specs.FileRows.{Taken, term_of_file}
use Rattle.mz_layout_tables.specs.Heads.{body_bytes}
use Rattle.mz_layout_tables.specs.Tables.{term_row, thm_row}
use Rattle.mz_binary_theory.specs.Checking.{counts}
use Rattle.mz_binary_theory.specs.FileRun.{Passing, test, test_params, test_words, is_empty_body, Found, list_ends, stands_alone, has_body, Onward, ended, onward, if_runs, run_found, run_place, find_empty, find_term_body, find_term_parts, find_thm_parts, find_parts, test_row, find_kind, find_of, find_at, with_sort, with_term, with_thm, after_kind}
use Rattle.mz_binary_theory.specs.Standards.{Standard}

abbrev found : Found → Result Found (ℕ × K)
found f = Ok f

abbrev on : Onward → Result Onward (ℕ × K)
on o = Ok o

pub then-ok : {A : Type 0} (x : Passing) (y : Result A (ℕ × K)) (z : A) → (x then y) ≡ Ok z → y ≡ Ok z
then-ok (Ok p) y z e = e
then-ok (Err r) y z e = absurd cc

bind-ok : (x : Result Found (ℕ × K)) (f : Found → Result Onward (ℕ × K)) (z : Onward) → (x >>= f) ≡ Ok z → (y : Found) × (x ≡ Ok y) × (f y ≡ Ok z)
bind-ok (Ok y) f z e = (y, refl, e)
bind-ok (Err r) f z e = absurd cc

pub found-is : (f g : Found) → found f ≡ found g → f ≡ g
found-is f g e = cc

on-is : (a b : Onward) → on a ≡ on b → a ≡ b
on-is a b e = cc

-- the rows taken after it, and the place of the next one
abbrev pub goes_to : Found → Option (Taken × ℕ)
goes_to list_ends = None
goes_to (stands_alone after next) = Some (after, next)
goes_to (has_body after next h body bytes) = Some (after, next)

abbrev leads : Onward → Option (Taken × ℕ)
leads ended = None
leads (onward after next) = Some (after, next)

if-runs : {A : Type 0} (r : Result A (ℕ × K)) (o z : Onward) → if_runs r o ≡ Ok z → o ≡ z
if-runs (Ok x) o z e = on-is o z e
if-runs (Err r) o z e = absurd cc

runs-to : (standard : Standard) (file : List ℕ) (taken : Taken) (f : Found) (o : Onward) → run_found standard file taken f ≡ Ok o → goes_to f ≡ leads o
runs-to standard file taken list_ends o e = ap leads (on-is ended o e)
runs-to standard file taken (stands_alone after next) o e = ap leads (on-is (onward after next) o e)
runs-to standard file taken (has_body after next h body bytes) o e = ap leads (if-runs _ (onward after next) o e)

module _ (file : List ℕ) (taken : Taken) (at body next : ℕ) where
  empty : (after : Taken) (f : Found) → find_empty file after at body next ≡ Ok f → goes_to f ≡ Some (after, next)
  empty after f e = ap goes_to (sym (found-is (stands_alone after next) f (then-ok (test (is_empty_body (body_bytes file body next)) (at, rules.StatementLength)) _ f e)))

  term-body : (o : Option (List ℕ)) (f : Found) → find_term_body file taken at body next o ≡ Ok f → goes_to f ≡ Some (with_term taken, next)
  term-body None f e = empty (with_term taken) f e
  term-body (Some stream) f e = ap goes_to (sym (found-is _ f e))

  term : (f : Found) → find_term_parts file taken at body next ≡ Ok f → goes_to f ≡ Some (with_term taken, next)
  term f e = term-body (term_of_file file taken.terms).stream f (then-ok (test_words taken.sorts (term_row file taken.terms)) _ f e)

  thm : (without_proof : Bool) (f : Found) → find_thm_parts file taken body next without_proof ≡ Ok f → goes_to f ≡ Some (with_thm taken, next)
  thm without_proof f e =
      let row = thm_row file taken.thms in
      ap goes_to (sym (found-is _ f (then-ok (test_params taken.sorts row.words_at row.params) _ f e)))

  parts : (k : StatementCode) (f : Found) → find_parts file taken at body next k ≡ Ok f → goes_to f ≡ Some (after_kind file taken k, next)
  parts codes.Sort f e = empty (with_sort file taken) f e
  parts codes.Term f e = term f e
  parts codes.LocalDefinition f e = term f e
  parts codes.Axiom f e = thm true f e
  parts codes.Theorem f e = thm false f e
  parts codes.LocalTheorem f e = thm false f e

  kind : (k : StatementCode) (f : Found) → find_kind file taken at body next (Some k) ≡ Ok f → goes_to f ≡ Some (after_kind file taken k, next)
  kind k f e = parts k f (then-ok (test_row file (counts taken) at k) (find_parts file taken at body next k) f e)

-- a statement stands there, after which the list goes on
pub record GoesOn (file : List ℕ) (taken : Taken) (at : ℕ) (to : Option (Taken × ℕ)) : Type 0 where
  pub code : ℕ
  pub body : ℕ
  pub next : ℕ
  pub kind : StatementCode
  pub stands : statement_at file at ≡ Ok (Head code body next)
  pub kind_is : statement_code code ≡ Some kind
  pub leads : to ≡ Some (after_kind file taken kind, next)

module _ (standard : Standard) (file : List ℕ) (taken : Taken) (at : ℕ) where
  by-kind : (code body next : ℕ) (o : Option StatementCode) (f : Found) → statement_at file at ≡ Ok (Head code body next) → statement_code code ≡ o → find_kind file taken at body next o ≡ Ok f → GoesOn file taken at (goes_to f)
  by-kind code body next None f stands is e = absurd cc
  by-kind code body next (Some k) f stands is e = record { code = code; body = body; next = next; kind = k; stands = stands; kind_is = is; leads = kind file taken at body next k f e }

  by-place : (there : Result StmtAt StmtFault) (f : Found) → statement_at file at ≡ there → find_of file taken at there ≡ Ok f → ((statement_at file at ≡ Ok End) × (goes_to f ≡ None)) ⊎ GoesOn file taken at (goes_to f)
  by-place (Err x) f is e = absurd cc
  by-place (Ok End) f is e = inl (is, ap goes_to (sym (found-is list_ends f (then-ok _ _ f e))))
  by-place (Ok (Head code body next)) f is e = inr (by-kind code body next (statement_code code) f is refl e)

  pub passed : (o : Onward) → run_place standard file taken at ≡ Ok o → ((statement_at file at ≡ Ok End) × (leads o ≡ None)) ⊎ GoesOn file taken at (leads o)
  unfolding find_at
  passed o e =
      let (f, found-there, ran) = bind-ok (find_at file taken at) (run_found standard file taken) o e in
      let to : goes_to f ≡ leads o = runs-to standard file taken f o ran in
      elim (by-place (statement_at file at) f refl found-there) [
        | inl stops ↦ inl (stops.0, sym to ∙ stops.1)
        | inr goes ↦ inr (record { code = goes.code; body = goes.body; next = goes.next; kind = goes.kind; stands = goes.stands; kind_is = goes.kind_is; leads = sym to ∙ goes.leads })
      ]

  pub ends-there : run_place standard file taken at ≡ Ok ended → statement_at file at ≡ Ok End
  ends-there e = elim (passed ended e) [ inl stops ↦ stops.0 | inr goes ↦ absurd (let bad = goes.leads in cc) ]

  pub goes-there : (after : Taken) (next : ℕ) → run_place standard file taken at ≡ Ok (onward after next) → GoesOn file taken at (Some (after, next))
  goes-there after next e = elim (passed (onward after next) e) [ inl stops ↦ absurd (let bad = stops.1 in cc) | inr goes ↦ goes ]
