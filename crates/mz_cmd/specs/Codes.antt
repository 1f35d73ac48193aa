-- The codes of commands (the .mmb format, its list of commands).
use Rattle.std.specs.Prelude.{ℕ, Bool, List, [], ◌∷◌, Option, find, is_some, ◌==◌, ◌||◌}
use Rattle.mz_cmd.specs.declared.code.StatementCode.{StatementCode}
use Rattle.mz_cmd.specs.declared.code.StatementCode.TheVariants as statements
use Rattle.mz_cmd.specs.declared.code.ProofCode.{ProofCode}
use Rattle.mz_cmd.specs.declared.code.ProofCode.TheVariants as proofs
use Rattle.mz_cmd.specs.declared.code.UnifyCode.{UnifyCode}
use Rattle.mz_cmd.specs.declared.code.UnifyCode.TheVariants as unifies

-- ---- the codes that begin a statement

abbrev pub statement_byte : StatementCode → ℕ
statement_byte statements.Axiom = 0x02
statement_byte statements.Sort = 0x04
statement_byte statements.Term = 0x05
statement_byte statements.Theorem = 0x06
statement_byte statements.LocalDefinition = 0x0D
statement_byte statements.LocalTheorem = 0x0E

abbrev pub statement_codes : List StatementCode
statement_codes =
    statements.Axiom ∷ statements.Sort ∷ statements.Term ∷ statements.Theorem
    ∷ statements.LocalDefinition ∷ statements.LocalTheorem ∷ []

-- the code with this byte, if there is one
abbrev pub statement_code : ℕ → Option StatementCode
statement_code byte = find (λ k. statement_byte k == byte) statement_codes

-- ---- the codes of proofs

abbrev pub proof_byte : ProofCode → ℕ
proof_byte proofs.Term = 0x10
proof_byte proofs.TermSave = 0x11
proof_byte proofs.Ref = 0x12
proof_byte proofs.Dummy = 0x13
proof_byte proofs.Thm = 0x14
proof_byte proofs.ThmSave = 0x15
proof_byte proofs.Hyp = 0x16
proof_byte proofs.Conv = 0x17
proof_byte proofs.Refl = 0x18
proof_byte proofs.Symm = 0x19
proof_byte proofs.Cong = 0x1A
proof_byte proofs.Unfold = 0x1B
proof_byte proofs.ConvCut = 0x1C
proof_byte proofs.ConvRef = 0x1D
proof_byte proofs.ConvSave = 0x1E
proof_byte proofs.Save = 0x1F
proof_byte proofs.Sorry = 0x20

abbrev pub proof_codes : List ProofCode
proof_codes =
    proofs.Term ∷ proofs.TermSave ∷ proofs.Ref ∷ proofs.Dummy ∷ proofs.Thm ∷ proofs.ThmSave ∷ proofs.Hyp
    ∷ proofs.Conv ∷ proofs.Refl ∷ proofs.Symm ∷ proofs.Cong ∷ proofs.Unfold ∷ proofs.ConvCut
    ∷ proofs.ConvRef ∷ proofs.ConvSave ∷ proofs.Save ∷ proofs.Sorry ∷ []

abbrev pub proof_code : ℕ → Option ProofCode
proof_code byte = find (λ k. proof_byte k == byte) proof_codes

-- ---- the codes of unify streams

abbrev pub unify_byte : UnifyCode → ℕ
unify_byte unifies.Term = 0x30
unify_byte unifies.TermSave = 0x31
unify_byte unifies.Ref = 0x32
unify_byte unifies.Dummy = 0x33
unify_byte unifies.Hyp = 0x36

abbrev pub unify_codes : List UnifyCode
unify_codes = unifies.Term ∷ unifies.TermSave ∷ unifies.Ref ∷ unifies.Dummy ∷ unifies.Hyp ∷ []

abbrev pub unify_code : ℕ → Option UnifyCode
unify_code byte = find (λ k. unify_byte k == byte) unify_codes

-- ---- all of them

abbrev pub begins_statement : ℕ → Bool
begins_statement code = is_some (statement_code code)

-- the end of a list or a stream, the codes above, and 0A and 0C, which begin no statement here
abbrev pub is_known : ℕ → Bool
is_known code =
    code == 0x00 || code == 0x0A || code == 0x0C
    || begins_statement code || is_some (proof_code code) || is_some (unify_code code)
