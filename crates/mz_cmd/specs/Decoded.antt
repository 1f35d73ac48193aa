-- What a byte is read as: the code that has it, or an error where none has.
use Rattle.std.specs.Prelude.{◌≡◌, ℕ, Option, Some, None, Result, MatchResult}
use Rattle.mz_cmd.specs.declared.code.StatementCode.{StatementCode}
use Rattle.mz_cmd.specs.declared.code.ProofCode.{ProofCode}
use Rattle.mz_cmd.specs.declared.code.UnifyCode.{UnifyCode}
use Rattle.mz_cmd.specs.declared.code.UnknownCode.{UnknownCode}
use Rattle.mz_cmd.specs.Codes.{statement_code, proof_code, unify_code}

abbrev pub Decodes : {A : Type 0} → (ℕ → Option A) → ℕ → Result A UnknownCode → Type 0
Decodes code_of byte r = MatchResult r (λ k. code_of byte ≡ Some k) (λ e. (code_of byte ≡ None) × (e.0 ≡ byte))

abbrev pub DecodesStatement : ℕ → Result StatementCode UnknownCode → Type 0
DecodesStatement byte r = Decodes statement_code byte r

abbrev pub DecodesProof : ℕ → Result ProofCode UnknownCode → Type 0
DecodesProof byte r = Decodes proof_code byte r

abbrev pub DecodesUnify : ℕ → Result UnifyCode UnknownCode → Type 0
DecodesUnify byte r = Decodes unify_code byte r
