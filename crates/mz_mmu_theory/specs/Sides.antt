-- The sides of a conversion, and what a proof proves (Carneiro, the rules of derivation and conversion): total
-- functions, which are the logic's relations where the type rules hold.
use Rattle.std.specs.Prelude.{ℕ, Bool, true, false, List, [], get_or}
use Rattle.mz_logic_theory.specs.Tree.{Tree, Trees, app, none, more, operand, instance, followed_by}
use Rattle.mz_logic_theory.specs.Declaration.{plain_form, Term, Assertion, Declaration, terms, assertions}
use Rattle.mz_logic_theory.specs.Conversions.{Conversion, Conversions, refl_conv, sym_conv, cong_conv, unfold_conv, gap_conv, no_convs, more_convs}
use Rattle.mz_mmu_theory.specs.Proof.{Proof, Proofs, by_hyp, by_name, by_citation, by_conv, by_let, by_gap, no_proofs, more_proofs}

abbrev mutual
  pub left : Conversion → Tree
  left (refl_conv e) = e
  left (sym_conv c) = right c
  left (cong_conv t cs) = app t (lefts cs)
  left (unfold_conv t es ys c) = app t es
  left (gap_conv l r) = l

  pub right : Conversion → Tree
  right (refl_conv e) = e
  right (sym_conv c) = left c
  right (cong_conv t cs) = app t (rights cs)
  right (unfold_conv t es ys c) = right c
  right (gap_conv l r) = r

  pub lefts : Conversions → Trees
  lefts no_convs = none
  lefts (more_convs c cs) = more (left c) (lefts cs)

  pub rights : Conversions → Trees
  rights no_convs = none
  rights (more_convs c cs) = more (right c) (rights cs)

-- the axiom or theorem T, the term t; past the end, where no rule looks, an empty one
abbrev pub assertion_at : List Declaration → ℕ → Assertion
assertion_at env T = get_or (assertions env) T (record { is_axiom = true; params = []; hyps = none; conclusion = app 0 none })

abbrev pub term_at : List Declaration → ℕ → Term
term_at env t = get_or (terms env) t (record { signature = record { params = []; result = record { sort = 0; deps = [] } }; form = plain_form })

abbrev pub with_fact : Trees → Tree → Trees
with_fact lets e = followed_by lets (more e none)

-- `lets` is what the visible lets prove, the outermost first
abbrev pub proved : List Declaration → Trees → Trees → Proof → Tree
proved env hyps lets (by_hyp i) = operand hyps i
proved env hyps lets (by_name i) = operand lets i
proved env hyps lets (by_citation T es ps) = instance es (assertion_at env T).conclusion
proved env hyps lets (by_conv e c p) = e
proved env hyps lets (by_let p q) = proved env hyps (with_fact lets (proved env hyps lets p)) q
proved env hyps lets (by_gap e) = e

-- what each proves
abbrev pub all_proved : List Declaration → Trees → Trees → Proofs → Trees
all_proved env hyps lets no_proofs = none
all_proved env hyps lets (more_proofs p ps) = more (proved env hyps lets p) (all_proved env hyps lets ps)

-- the right side, or the left one
abbrev pub side : Bool → Conversion → Tree
side true c = right c
side false c = left c

abbrev pub sides : Bool → Conversions → Trees
sides true cs = rights cs
sides false cs = lefts cs
