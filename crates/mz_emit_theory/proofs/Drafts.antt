-- What is written of a finished text is written of a draft.
use Rattle.std.proofs.Common.{◌≡◌, Bool, true, false, ℕ, List, [], ◌∷◌, ◌++◌, refl, sym, ◌∙◌}
use Rattle.mz_cmd.specs.declared.code.ProofCode.{ProofCode}
use Rattle.mz_cmd.specs.declared.code.ProofCode.TheVariants as code
use Rattle.mz_logic_theory.specs.Tree.{Tree, listed}
use Rattle.mz_logic_theory.specs.Signature.{Signature}
use Rattle.mz_logic_theory.specs.Declaration.{Form, plain_form, abstract_form, defined, Declaration, sort_decl, term_decl, assertion_decl}
use Rattle.mz_logic_theory.specs.LegalLists.{Statement}
use Rattle.mz_logic_theory.specs.declared.binder.Binder.{Binder}
use Rattle.mz_logic_theory.specs.declared.word.Word.{Word}
use Rattle.mz_layout_tables.specs.Normal.{Written, Parts}
use Rattle.mz_machine_theory.specs.Profile.{plain}
use Rattle.mz_machine_theory.specs.Bodies.{stands_in}
use Rattle.mz_machine_theory.specs.Lists.{kind_of}
use Rattle.mz_machine_theory.specs.MachineState.{Kind, is_axiom, is_theorem, is_definition}
use Rattle.mz_emit_theory.specs.Endings.{MayStand}
use Rattle.mz_emit_theory.specs.SharedBodies.{Builds, IsSharedBody}
use Rattle.mz_emit_theory.specs.Steps.{Step, Steps}
use Rattle.mz_emit_theory.specs.SymbolicState.{Work, work_start}
use Rattle.mz_emit_theory.specs.Gaps.{FinishedIsDraft}
use Rattle.mz_emit_theory.specs.FileWriting.{IsWrittenForm, IsWrittenDeclaration, AreWritten}

-- ---- a body

step-too : (env : List Declaration) (ctx : List Binder) (w : Work) (c : ProofCode) (v : ℕ) (w' : Work) → Step false env ctx w c v w' → Step true env ctx w c v w'
step-too env ctx w code.Sorry v w' step = absurd (let both : false ≡ true = step.0 in cc)
step-too env ctx w c v w' step = step

module _ (env : List Declaration) (ctx : List Binder) where
  steps-too : (cs : List (ProofCode × ℕ)) (w w' : Work) → Steps false env ctx w cs w' → Steps true env ctx w cs w'
  steps-too [] w w' is = is
  steps-too (c ∷ cs) w w' (mid, step, steps) = (mid, step-too env ctx w c.0 c.1 mid step, steps-too cs mid w' steps)

  builds-too : (cs : List (ProofCode × ℕ)) (w w' : Work) (bs : List Tree) → Builds false env ctx w cs w' bs → Builds true env ctx w cs w' bs
  builds-too [] w w' bs is = is
  builds-too (c ∷ cs) w w' bs (mid, later, step, builds, is) = (mid, later, step-too env ctx w c.0 c.1 mid step, builds-too cs mid w' later builds, is)

-- whether a command stands in a body doesn't depend on it
stands-same : (kind : Kind) (c : ProofCode) → stands_in (plain false) kind c ≡ stands_in (plain true) kind c
stands-same is_theorem code.ConvRef = refl
stands-same is_axiom code.ConvRef = refl
stands-same is_definition code.ConvRef = refl
stands-same kind c = refl

may-stand-too : (kind : Kind) (cs : List (ProofCode × ℕ)) → MayStand (plain false) kind cs → MayStand (plain true) kind cs
may-stand-too kind [] may = tt
may-stand-too kind (c ∷ cs) (stands, short, may) = (sym (stands-same kind c.0) ∙ stands, short, may-stand-too kind cs may)

module _ (env : List Declaration) (kind : Kind) (params dummies : List Binder) (e : Tree) (hyps : List Tree) (bytes : List ℕ) where
  pub body-too : IsSharedBody false env kind params dummies e hyps bytes → IsSharedBody true env kind params dummies e hyps bytes
  body-too b = record {
    body = record {
      few = b.body.few;
      commands = b.body.commands;
      work = b.body.work;
      spelled = b.body.spelled;
      may_stand = may-stand-too kind b.body.commands b.body.may_stand;
      steps = steps-too env (params ++ dummies) b.body.commands (work_start params) b.body.work b.body.steps;
      stack = b.body.stack;
      assumed = b.body.assumed;
    };
    built_are = b.built_are;
    builds = builds-too env (params ++ dummies) b.body.commands (work_start params) b.body.work b.built_are b.builds;
    distinct = b.distinct;
    plain = b.plain;
  }

-- ---- statements

module _ (p : Parts) where
  form-too : (env : List Declaration) (is_local : Bool) (signature : Signature) (ws : List Word) (result : Word) (f g : Form) (bytes : List ℕ) → IsWrittenForm false p env is_local signature ws result f g bytes
      → IsWrittenForm true p env is_local signature ws result f g bytes
  form-too env is_local signature ws result (defined ds e) (defined es f) bytes (stream, row, text, body) = (stream, row, text, body-too env is_definition signature.params ds e [] bytes body)
  form-too env is_local signature ws result plain_form plain_form bytes w = w
  form-too env is_local signature ws result _ _ bytes w = w

  declaration-too : (env : List Declaration) (is_local : Bool) (d d' : Declaration) (bytes : List ℕ) → IsWrittenDeclaration false p env is_local d d' bytes → IsWrittenDeclaration true p env is_local d d' bytes
  declaration-too env is_local (term_decl d) (term_decl d') bytes (same, (ws, result, say, form)) = (same, (ws, result, say, form-too env is_local d.signature ws result d.form d'.form bytes form))
  declaration-too env is_local (assertion_decl a) (assertion_decl a') bytes (is, w) = (
    is,
    record {
      words = w.words;
      stream = w.stream;
      row = w.row;
      say = w.say;
      text = w.text;
      dummies = w.dummies;
      are_dummies = w.are_dummies;
      body = body-too env (kind_of a.is_axiom) a.params w.dummies a.conclusion (listed a.hyps) bytes w.body;
    },
  )
  declaration-too env is_local (sort_decl m) (sort_decl m') bytes w = w
  declaration-too env is_local _ _ bytes w = w

  all-too : (env : List Declaration) (ts ss : List Statement) (ws : List Written) → AreWritten false p env ts ss ws → AreWritten true p env ts ss ws
  all-too env (t ∷ ts) (s ∷ ss) (w ∷ ws) (written, all) =
      (record { mark = written.mark; code = written.code; declaration = declaration-too env s.is_local t.decl s.decl w.body written.declaration }, all-too (env ++ t.decl ∷ []) ts ss ws all)
  all-too env [] [] [] written = written
  all-too env _ _ _ written = written

pub finished-is-draft : FinishedIsDraft
finished-is-draft p text made written = all-too p [] text made p.statements written
