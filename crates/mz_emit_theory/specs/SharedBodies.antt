-- Bodies that build no application twice, and write each command in one way (this project's own promise; the commands
-- are the .mmb format's).
use Rattle.std.specs.Prelude.{◌≡◌, ℕ, ⊤, Bool, List, [], ◌∷◌, ◌++◌, slice_get, Some}
use Rattle.mz_cmd.specs.declared.code.ProofCode.{ProofCode}
use Rattle.mz_cmd.specs.declared.code.ProofCode.TheVariants as code
use Rattle.mz_logic_theory.specs.Tree.{Tree}
use Rattle.mz_logic_theory.specs.Declaration.{Declaration}
use Rattle.mz_logic_theory.specs.declared.binder.Binder.{Binder}
use Rattle.mz_machine_theory.specs.Profile.{Item, expr, proof, obligation, conversion}
use Rattle.mz_machine_theory.specs.MachineState.{Kind}
use Rattle.mz_emit_theory.specs.Bodies.{IsBody}
use Rattle.mz_emit_theory.specs.Steps.{Step}
use Rattle.mz_emit_theory.specs.SymbolicState.{Work, work_start}

-- ---- what is built

-- the expression on top
abbrev pub top : List (Item Tree) → List Tree
top [] = []
top (expr e ∷ xs) = e ∷ []
top (proof e ∷ xs) = []
top (obligation l r ∷ xs) = []
top (conversion l r ∷ xs) = []

-- the application that the command has built, if it is one that builds
abbrev pub built : ProofCode → Work → List Tree
built code.Term w = top w.stack
built code.TermSave w = top w.stack
built code.Ref w = []
built code.ConvRef w = []
built code.Dummy w = []
built code.Thm w = []
built code.ThmSave w = []
built code.Hyp w = []
built code.Conv w = []
built code.Refl w = []
built code.Symm w = []
built code.Cong w = []
built code.Unfold w = []
built code.ConvCut w = []
built code.ConvSave w = []
built code.Save w = []
built code.Sorry w = []

-- steps one after another, and all the applications that they build, in order
abbrev pub Builds : Bool → List Declaration → List Binder → Work → List (ProofCode × ℕ) → Work → List Tree → Type 0
Builds gaps env ctx w [] w' bs = (w' ≡ w) × (bs ≡ [])
Builds gaps env ctx w (c ∷ cs) w' bs = (mid : Work) × (later : List Tree) × Step gaps env ctx w c.0 c.1 mid
    × Builds gaps env ctx mid cs w' later × (bs ≡ built c.0 mid ++ later)

-- no two of them are equal
abbrev pub AreDistinct : List Tree → Type 0
AreDistinct bs = (i j : ℕ) (e : Tree) → slice_get bs i ≡ Some e → slice_get bs j ≡ Some e → i ≡ j

-- ---- how commands are written

-- a command without an operand has 0, and a saved conversion is referred to by Ref
abbrev pub IsPlain : ProofCode × ℕ → Type 0
IsPlain (code.Term, t) = ⊤
IsPlain (code.TermSave, t) = ⊤
IsPlain (code.Ref, i) = ⊤
IsPlain (code.ConvRef, i) = ⊥
IsPlain (code.Dummy, s) = ⊤
IsPlain (code.Thm, t) = ⊤
IsPlain (code.ThmSave, t) = ⊤
IsPlain (code.Hyp, n) = n ≡ 0
IsPlain (code.Conv, n) = n ≡ 0
IsPlain (code.Refl, n) = n ≡ 0
IsPlain (code.Symm, n) = n ≡ 0
IsPlain (code.Cong, n) = n ≡ 0
IsPlain (code.Unfold, n) = n ≡ 0
IsPlain (code.ConvCut, n) = n ≡ 0
IsPlain (code.ConvSave, n) = n ≡ 0
IsPlain (code.Save, n) = n ≡ 0
IsPlain (code.Sorry, n) = n ≡ 0

abbrev pub ArePlain : List (ProofCode × ℕ) → Type 0
ArePlain [] = ⊤
ArePlain (c ∷ cs) = IsPlain c × ArePlain cs

-- ---- a body

-- it makes what it is to make (`IsBody`), and builds no application twice; each Unfold has its middle item, as each
-- step of that command has
pub record IsSharedBody (gaps : Bool) (env : List Declaration) (kind : Kind) (params dummies : List Binder) (e : Tree) (hyps : List Tree) (bytes : List ℕ) : Type 0 where
  pub body : IsBody gaps env kind params dummies e hyps bytes
  pub built_are : List Tree
  pub builds : Builds gaps env (params ++ dummies) (work_start params) body.commands body.work built_are
  pub distinct : AreDistinct built_are
  pub plain : ArePlain body.commands
