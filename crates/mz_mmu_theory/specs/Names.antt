-- All names of an expression, a conversion, a proof, a statement are there: reading a text sees to it.
use Rattle.std.specs.Prelude.{ℕ, suc, ◌<◌, ◌≡◌, ⊤, true, false, List, [], ◌∷◌, ◌++◌, length, All, Option, Some, None}
use Rattle.mz_logic_theory.specs.Tree.{Tree, Trees, var, app, none, more, listed}
use Rattle.mz_logic_theory.specs.Declaration.{Term, Assertion, Declaration, sort_decl, term_decl, assertion_decl, dummies_of, body_of, context_of, sorts, signatures, assertions}
use Rattle.mz_logic_theory.specs.Legality.{IsDummy}
use Rattle.mz_logic_theory.specs.LegalLists.{MayBeLocal}
use Rattle.mz_logic_theory.specs.Laws.{SortsThere}
use Rattle.mz_logic_theory.specs.declared.binder.Binder.{Binder}
use Rattle.mz_logic_theory.specs.Conversions.{Conversion, Conversions, refl_conv, sym_conv, cong_conv, unfold_conv, gap_conv, no_convs, more_convs}
use Rattle.mz_mmu_theory.specs.Proof.{Proof, Proofs, by_hyp, by_name, by_citation, by_conv, by_let, by_gap, no_proofs, more_proofs}
use Rattle.mz_mmu_theory.specs.Statements.{Statement}

-- of `ts` terms and `n` variables
abbrev mutual
  pub ExprThere : ℕ → ℕ → Tree → Type 0
  ExprThere ts n (var x) = x < n
  ExprThere ts n (app t es) = (t < ts) × ExprsThere ts n es

  pub ExprsThere : ℕ → ℕ → Trees → Type 0
  ExprsThere ts n none = ⊤
  ExprsThere ts n (more e es) = ExprThere ts n e × ExprsThere ts n es

abbrev mutual
  pub ConvThere : ℕ → ℕ → Conversion → Type 0
  ConvThere ts n (refl_conv e) = ExprThere ts n e
  ConvThere ts n (sym_conv c) = ConvThere ts n c
  ConvThere ts n (cong_conv t cs) = (t < ts) × ConvsThere ts n cs
  ConvThere ts n (unfold_conv t es ys c) = (t < ts) × ExprsThere ts n es × ConvThere ts n c
  ConvThere ts n (gap_conv l r) = ExprThere ts n l × ExprThere ts n r

  pub ConvsThere : ℕ → ℕ → Conversions → Type 0
  ConvsThere ts n no_convs = ⊤
  ConvsThere ts n (more_convs c cs) = ConvThere ts n c × ConvsThere ts n cs

-- of `as` assertions, `hs` hypotheses and `ls` visible lets too
abbrev mutual
  pub ProofThere : ℕ → ℕ → ℕ → ℕ → ℕ → Proof → Type 0
  ProofThere ts n ths hs ls (by_hyp i) = i < hs
  ProofThere ts n ths hs ls (by_name i) = i < ls
  ProofThere ts n ths hs ls (by_citation T es ps) = (T < ths) × ExprsThere ts n es × ProofsThere ts n ths hs ls ps
  ProofThere ts n ths hs ls (by_conv e c p) = ExprThere ts n e × ConvThere ts n c × ProofThere ts n ths hs ls p
  ProofThere ts n ths hs ls (by_let p q) = ProofThere ts n ths hs ls p × ProofThere ts n ths hs (suc ls) q
  ProofThere ts n ths hs ls (by_gap e) = ExprThere ts n e

  pub ProofsThere : ℕ → ℕ → ℕ → ℕ → ℕ → Proofs → Type 0
  ProofsThere ts n ths hs ls no_proofs = ⊤
  ProofsThere ts n ths hs ls (more_proofs p ps) = ProofThere ts n ths hs ls p × ProofsThere ts n ths hs ls ps

-- ---- statements

-- dummies as a text writes them: bound, without dependencies
abbrev pub DummiesThere : List Declaration → List Binder → Type 0
DummiesThere env bs = SortsThere (sorts env) bs × All IsDummy bs

abbrev pub TermThere : List Declaration → Term → Type 0
TermThere env d = SortsThere (sorts env) d.signature.params × DummiesThere env (dummies_of d.form)
    × ExprsThere (length (signatures env)) (length (context_of d)) (body_of d.form)

-- a theorem has a proof, and an axiom has none
abbrev pub StatedProofThere : List Declaration → Assertion → List Binder → Option Proof → Type 0
StatedProofThere env a dummies None = a.is_axiom ≡ true
StatedProofThere env a dummies (Some p) = (a.is_axiom ≡ false) × DummiesThere env dummies
    × ProofThere (length (signatures env)) (length (a.params ++ dummies)) (length (assertions env)) (length (listed a.hyps)) 0 p

abbrev pub DeclThere : List Declaration → Declaration → List Binder → Option Proof → Type 0
DeclThere env (sort_decl _) dummies proof = ⊤
DeclThere env (term_decl d) dummies proof = TermThere env d
DeclThere env (assertion_decl a) dummies proof = SortsThere (sorts env) a.params × ExprsThere (length (signatures env)) (length a.params) a.hyps
    × ExprThere (length (signatures env)) (length a.params) a.conclusion × StatedProofThere env a dummies proof

abbrev pub StatementThere : List Declaration → Statement → Type 0
StatementThere env s = DeclThere env s.decl s.dummies s.proof × (s.is_local ≡ true → MayBeLocal s.decl)

abbrev pub StatementsThere : List Declaration → List Statement → Type 0
StatementsThere env [] = ⊤
StatementsThere env (s ∷ ss) = StatementThere env s × StatementsThere (env ++ s.decl ∷ []) ss
