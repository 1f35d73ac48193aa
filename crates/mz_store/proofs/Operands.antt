-- Operands by their places, whoever keeps them.
use Rattle.std.proofs.Common.{ℕ, zero, suc, ◌≡◌, ◌<◌, ◌≤◌, true, List, [], ◌∷◌, length, slice_get, Some, refl, ap, ◌∙◌, arith}
use Rattle.std.proofs.lemmas.Option.{none-some}
use Rattle.mz_logic_theory.specs.Tree.{Trees, none, more, operand}
use Rattle.mz_logic_theory.specs.Signature.{Signature}
use Rattle.mz_logic_theory.specs.Sorts.{Fits, IsBoundVar}
use Rattle.mz_logic_theory.specs.Words.{binders_of}
use Rattle.mz_logic_theory.specs.declared.word.Word.{Word}
use Rattle.mz_logic_theory.specs.declared.binder.Binder.{Binder}
use Rattle.mz_logic_theory.proofs.Offered.{one_at, length-binders}
use Rattle.mz_store.proofs.Params.{many}

-- those from the i-th on
abbrev pub rest_of : ℕ → Trees → Trees
rest_of zero es = es
rest_of (suc i) none = none
rest_of (suc i) (more e es) = rest_of i es

pub next-operand : (es : Trees) (i : ℕ) → i < many es → rest_of i es ≡ more (operand es i) (rest_of (suc i) es)
next-operand none i less = absurd (omega arith)
next-operand (more e es) zero less = refl
next-operand (more e es) (suc i) less = next-operand es i (omega arith)

pub none-left : (es : Trees) (i : ℕ) → many es ≤ i → rest_of i es ≡ none
none-left none zero past = refl
none-left none (suc i) past = refl
none-left (more e es) zero past = absurd (omega arith)
none-left (more e es) (suc i) past = none-left es i (omega arith)

pub fits-many : (sigs : List Signature) (ctx : List Binder) (es : Trees) (ps : List Binder) → Fits sigs ctx es ps → many es ≡ length ps
fits-many sigs ctx none [] fits = refl
fits-many sigs ctx none (p ∷ ps) fits = absurd fits
fits-many sigs ctx (more e es) [] fits = absurd fits
fits-many sigs ctx (more e es) (p ∷ ps) fits = ap suc (fits-many sigs ctx es ps fits.2)

pub args-many : (sigs : List Signature) (ctx : List Binder) (es : Trees) (ws : List Word) → Fits sigs ctx es (binders_of ws) → many es ≡ length ws
args-many sigs ctx es ws fits = fits-many sigs ctx es (binders_of ws) fits ∙ length-binders 0 [] ws

pub bound-at : (sigs : List Signature) (ctx : List Binder) (es : Trees) (ps : List Binder) → Fits sigs ctx es ps
    → (i : ℕ) (p : Binder) → slice_get ps i ≡ Some p → p.bound ≡ true → IsBoundVar ctx (operand es i)
bound-at sigs ctx none [] fits i p at bd = absurd (none-some _ at)
bound-at sigs ctx none (q ∷ ps) fits i p at bd = absurd fits
bound-at sigs ctx (more e es) [] fits i p at bd = absurd fits
bound-at sigs ctx (more e es) (q ∷ ps) fits zero p at bd = fits.1 (ap (λ (b : Binder). b.bound) (one_at refl at) ∙ bd)
bound-at sigs ctx (more e es) (q ∷ ps) fits (suc i) p at bd = bound-at sigs ctx es ps fits.2 i p at bd
