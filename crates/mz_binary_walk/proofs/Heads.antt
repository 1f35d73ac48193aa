-- The head of a statement that comes next.
use Rattle.std.proofs.Common.{◌≡◌, ◌∙◌, ◌≤◌, ◌+◌, ◌<◌, ℕ, Bool, true, false, List, Some, Result, Ok, sym, ap, subst, arith}
use Rattle.mz_cmd.specs.declared.code.StatementCode.{StatementCode}
use Rattle.mz_cmd.specs.declared.statement.StmtAt.{StmtAt}
use Rattle.mz_cmd.specs.declared.statement.StmtAt.TheVariants as stands
use Rattle.mz_cmd.specs.declared.statement.StmtFault.{StmtFault}
use Rattle.mz_cmd.specs.Codes.{statement_byte, statement_code}
use Rattle.mz_cmd.specs.StatementList.{statement_at}
use Rattle.mz_layout_tables.specs.Heads.{IsHeadAt, IsNextHead}
use Rattle.mz_layout_tables.specs.declared.head.Head.{Head}
use Rattle.mz_binary_theory.specs.Spelling.{is_local_code}
use Rattle.mz_binary_theory.proofs.Offered.{code-of}
use Rattle.mz_binary_walk.specs.Walk.{GoesOn, IsPlaced, passed_with, past_public}
use Rattle.mz_binary_walk.specs.declared.passed.Passed.{Passed}

-- ---- codes by their bytes

pub one-code : (k j : StatementCode) → statement_byte k ≡ statement_byte j → k ≡ j
one-code k j is = let both : Some k ≡ Some j = sym (code-of k) ∙ ap statement_code is ∙ code-of j in cc

-- ---- what stands at the place

abbrev there : ℕ → Head → Result StmtAt StmtFault
there byte head = Ok (stands.Head byte head.body head.next)

pub head-here : (file : List ℕ) (at : ℕ) (head : Head) → IsHeadAt file at head → statement_at file at ≡ Ok (stands.Head (statement_byte head.code) head.body head.next)
head-here file at head h = subst (λ (n : ℕ). statement_at file n ≡ there (statement_byte head.code) head) h.at_is h.stands

-- ---- the place behind it

past-most : (k : ℕ) (l : Bool) → past_public k l ≤ k + 1
past-most k true = omega arith
past-most k false = omega arith

module _ (file : List ℕ) (p : Passed) (placed : IsPlaced file p) (head : Head) (h : IsNextHead file p.rows p.at head) where
  pub ahead : p.at < head.next
  ahead = let a = h.head_is.at_is in let b = h.body_after in let c = h.next_after in omega (arith, a, b, c)

  pub goes-on : (after : Passed) → after ≡ passed_with p head → GoesOn file p head after
  goes-on after is =
      let a = placed.statements_low in
      let b = placed.publics_low in
      let c = past-most p.publics (is_local_code (statement_byte head.code)) in
      let at : after.at ≡ head.next = ap (λ (q : Passed). q.at) is in
      let statements : after.statements ≡ p.statements + 1 = ap (λ (q : Passed). q.statements) is in
      let publics : after.publics ≡ past_public p.publics (is_local_code (statement_byte head.code)) = ap (λ (q : Passed). q.publics) is in
      let inside = h.within in
      record {
        next = h;
        passed = is;
        placed = record {
          fits = placed.fits;
          within = omega (arith, at, inside);
          statements_low = omega (arith, at, statements, a, ahead);
          publics_low = omega (arith, at, publics, b, c, ahead);
        };
        further = omega (arith, at, ahead);
      }
