-- The body that is written of a statement (the choices are this project's own, docs/FORMAT.md, 4.1; the commands are the
-- .mmb format's). Everything is in the text's own numbering of variables.
use Rattle.std.specs.Prelude.{ℕ, zero, suc, Bool, false, ◌==◌, if◌then◌else◌, List, [], ◌∷◌, ◌++◌, length, get_or, Option, Some, None}
use Rattle.mz_cmd.specs.declared.code.ProofCode.{ProofCode}
use Rattle.mz_cmd.specs.declared.code.ProofCode.TheVariants as code
use Rattle.mz_logic_theory.specs.Tree.{Tree, Trees, var, app, none, more, instance, followed_by, variables}
use Rattle.mz_logic_theory.specs.Declaration.{Declaration}
use Rattle.mz_logic_theory.specs.Legality.{binder_at}
use Rattle.mz_logic_theory.specs.Conversions.{Conversion, Conversions, refl_conv, sym_conv, cong_conv, unfold_conv, gap_conv, no_convs, more_convs}
use Rattle.mz_logic_theory.specs.declared.binder.Binder.{Binder}
use Rattle.mz_machine_theory.specs.Tests.{same_tree}
use Rattle.mz_mmu_theory.specs.Proof.{Proof, Proofs, by_hyp, by_name, by_citation, by_conv, by_let, by_gap, no_proofs, more_proofs}
use Rattle.mz_emit_theory.specs.Claims.{conclusion_of}
use Rattle.mz_emit_theory.specs.Costs.{body_at}

-- ---- the heap

-- what is put into the heap: an expression, the proof of a hypothesis, and that of the first part of a let
pub data Kept : Type 0 where
  expression : Tree → Kept
  hypothesis : ℕ → Kept
  first_part : ℕ → Kept

abbrev pub is_same : Kept → Kept → Bool
is_same (expression e) (expression f) = same_tree e f
is_same (hypothesis i) (hypothesis j) = i == j
is_same (first_part i) (first_part j) = i == j
is_same (expression e) (hypothesis j) = false
is_same (expression e) (first_part j) = false
is_same (hypothesis i) (expression f) = false
is_same (hypothesis i) (first_part j) = false
is_same (first_part i) (expression f) = false
is_same (first_part i) (hypothesis j) = false

-- what is in the heap, the newest first; and how many lets were met: each has its number, from 0
pub record Writing : Type 0 where
  pub heap : List Kept
  pub lets : ℕ

-- where it stands in the heap: as many stand before the newest as below it
abbrev pub place_in : Kept → List Kept → Option ℕ
place_in x [] = None
place_in x (y ∷ ys) = if is_same x y then Some (length ys) else place_in x ys

-- the first n variables, the last of them first
abbrev pub variables_below : ℕ → List Kept
variables_below zero = []
variables_below (suc n) = expression (var n) ∷ variables_below n

-- at first the parameters are in the heap
abbrev pub at_first : List Binder → Writing
at_first params = record { heap = variables_below (length params); lets = 0 }

-- ---- what is written

-- commands, and the heap after them
pub record Written : Type 0 where
  pub commands : List (ProofCode × ℕ)
  pub after : Writing

-- what is written where this is in the heap
abbrev pub Writer : Type 0
Writer = Writing → Written

abbrev pub and_then : Written → Writer → Written
and_then a f = record { commands = a.commands ++ (f a.after).commands; after = (f a.after).after }

abbrev pub nothing : Writer
nothing w = record { commands = []; after = w }

-- the first, and then the second
infixr 10 ◌>>◌
abbrev pub ◌>>◌ : Writer → Writer → Writer
(f >> g) w = and_then (f w) g

-- a command that puts nothing into the heap
abbrev pub command : ProofCode → ℕ → Writer
command c n w = record { commands = (c, n) ∷ []; after = w }

-- a command that puts this into the heap
abbrev pub keeping : ProofCode → ℕ → Kept → Writer
keeping c n x w = record { commands = (c, n) ∷ []; after = record w { heap = x ∷ w.heap } }

abbrev pub referring : Option ℕ → Writer → Writer
referring (Some p) f = command code.Ref p
referring None f = f

-- a Ref to it where it stands in the heap, and else this
abbrev pub unless_kept : Kept → Writer → Writer
unless_kept x f w = referring (place_in x w.heap) f w

-- a let is met, and has the next number
abbrev pub meeting : (ℕ → Writer) → Writer
meeting f w = f w.lets (record w { lets = suc w.lets })

-- ---- expressions: in the context ctx

-- what stands in the heap is a Ref; a dummy that doesn't is a Dummy; an application that doesn't is its operands,
-- from left to right, and TermSave
abbrev mutual
  pub write_expr : List Binder → Tree → Writer
  write_expr ctx (var x) = unless_kept (expression (var x)) (keeping code.Dummy (binder_at ctx x).sort (expression (var x)))
  write_expr ctx (app t es) = unless_kept (expression (app t es)) (write_exprs ctx es >> keeping code.TermSave t (expression (app t es)))

  pub write_exprs : List Binder → Trees → Writer
  write_exprs ctx none = nothing
  write_exprs ctx (more e es) = write_expr ctx e >> write_exprs ctx es

-- ---- conversions: what pays for one

abbrev mutual
  pub write_payment : List Declaration → List Binder → Conversion → Writer
  -- Refl
  write_payment env ctx (refl_conv e) = command code.Refl 0
  -- Symm, and what pays for the part
  write_payment env ctx (sym_conv c) = command code.Symm 0 >> write_payment env ctx c
  -- Cong, and what pays for the parts, from left to right
  write_payment env ctx (cong_conv t cs) = command code.Cong 0 >> write_payments env ctx cs
  -- the left side, the body's instance, Unfold, and what pays for the part
  write_payment env ctx (unfold_conv t es ys c) =
      write_expr ctx (app t es) >> write_expr ctx (instance (followed_by es (variables ys)) (body_at env t)) >> command code.Unfold 0 >> write_payment env ctx c
  -- Sorry
  write_payment env ctx (gap_conv l r) = command code.Sorry 0

  pub write_payments : List Declaration → List Binder → Conversions → Writer
  write_payments env ctx no_convs = nothing
  write_payments env ctx (more_convs c cs) = write_payment env ctx c >> write_payments env ctx cs

-- ---- proofs: `lets` is what is written for the name of each let in sight, the outermost first

-- what is written for the name of the n-th let: a Ref where its first part stands in the heap; else this, which is the
-- first part, and Save
abbrev pub at_name : ℕ → Writer → Writer
at_name n f = unless_kept (first_part n) (f >> keeping code.Save 0 (first_part n))

abbrev mutual
  pub write_proof : List Declaration → List Binder → List Writer → Proof → Writer
  -- a hypothesis: a Ref, since each stands in the heap
  write_proof env ctx lets (by_hyp i) = unless_kept (hypothesis i) nothing
  -- a name: what is written for it
  write_proof env ctx lets (by_name i) = get_or lets i nothing
  -- a citation: the subproofs, the operands, the conclusion's instance, and Thm
  write_proof env ctx lets (by_citation T es ps) =
      write_proofs env ctx lets ps >> write_exprs ctx es >> write_expr ctx (instance es (conclusion_of env T)) >> command code.Thm T
  -- a conversion: the expression, the proof, Conv, and what pays
  write_proof env ctx lets (by_conv e c p) = write_expr ctx e >> write_proof env ctx lets p >> command code.Conv 0 >> write_payment env ctx c
  -- a let is nothing by itself: it is met, and the second part is written, in which its name is in sight
  write_proof env ctx lets (by_let p q) = meeting (λ n. write_proof env ctx (lets ++ at_name n (write_proof env ctx lets p) ∷ []) q)
  -- a gap: the expression, and Sorry
  write_proof env ctx lets (by_gap e) = write_expr ctx e >> command code.Sorry 0

  -- one after another
  pub write_proofs : List Declaration → List Binder → List Writer → Proofs → Writer
  write_proofs env ctx lets no_proofs = nothing
  write_proofs env ctx lets (more_proofs p ps) = write_proof env ctx lets p >> write_proofs env ctx lets ps

-- ---- bodies

-- the n-th hypothesis: the expression, and Hyp
abbrev pub write_hyp : List Binder → ℕ → Tree → Writer
write_hyp ctx n h = write_expr ctx h >> keeping code.Hyp 0 (hypothesis n)

-- the hypotheses from the n-th on
abbrev pub write_hyps : List Binder → ℕ → List Tree → Writer
write_hyps ctx n [] = nothing
write_hyps ctx n (h ∷ hs) = write_hyp ctx n h >> write_hyps ctx (suc n) hs

-- a definition's: its expression
abbrev pub definition_written : List Binder → List Binder → Tree → Written
definition_written params dummies e = write_expr (params ++ dummies) e (at_first params)

-- an axiom's: the hypotheses, and the conclusion
abbrev pub axiom_written : List Binder → List Binder → List Tree → Tree → Written
axiom_written params dummies hyps e = (write_hyps (params ++ dummies) 0 hyps >> write_expr (params ++ dummies) e) (at_first params)

-- a theorem's: the hypotheses, and the proof
abbrev pub theorem_written : List Declaration → List Binder → List Binder → List Tree → Proof → Written
theorem_written env params dummies hyps p = (write_hyps (params ++ dummies) 0 hyps >> write_proof env (params ++ dummies) [] p) (at_first params)
