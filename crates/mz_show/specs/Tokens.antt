-- The tokens of a listing's lines (the .mmb format, its list of commands).
use Rattle.std.specs.Prelude.{ℕ, ◌++◌, Bool, true, false, List, [], ◌∷◌, codes, decimal, if◌then◌else◌}
use Rattle.std.specs.Int.{bytes_high_first}
use Rattle.hex.specs.Hex.{encode_lower}
use Rattle.mz_cmd.specs.declared.code.ProofCode.{ProofCode}
use Rattle.mz_cmd.specs.declared.code.ProofCode.TheVariants as proofs
use Rattle.mz_cmd.specs.declared.code.UnifyCode.{UnifyCode}
use Rattle.mz_cmd.specs.declared.code.UnifyCode.TheVariants as unifies
use Rattle.mz_logic_theory.specs.declared.word.Word.{Word}

-- the texts of some things, one after another
abbrev pub texts : {A : Type 0} → (A → List ℕ) → List A → List ℕ
texts text [] = []
texts text (x ∷ xs) = text x ++ texts text xs

-- a name and a number
abbrev pub numbered : List ℕ → ℕ → List ℕ
numbered name n = name ++ codes " " ++ decimal n

-- ---- parameters and results

-- sixteen hexadecimal digits, the most significant first
abbrev pub word_text : Word → List ℕ
word_text w = encode_lower (bytes_high_first 8 w.0)

abbrev pub param_line : Word → List ℕ
param_line w = codes " param " ++ word_text w ++ codes "\n"

abbrev pub result_line : Word → List ℕ
result_line w = codes " result " ++ word_text w ++ codes "\n"

-- ---- commands

abbrev pub unify_name : UnifyCode → List ℕ
unify_name unifies.Term = codes "term"
unify_name unifies.TermSave = codes "term_save"
unify_name unifies.Ref = codes "ref"
unify_name unifies.Dummy = codes "dummy"
unify_name unifies.Hyp = codes "hyp"

-- the command's number is listed
abbrev pub unify_has_number : UnifyCode → Bool
unify_has_number unifies.Term = true
unify_has_number unifies.TermSave = true
unify_has_number unifies.Ref = true
unify_has_number unifies.Dummy = true
unify_has_number unifies.Hyp = false

abbrev pub proof_name : ProofCode → List ℕ
proof_name proofs.Term = codes "term"
proof_name proofs.TermSave = codes "term_save"
proof_name proofs.Ref = codes "ref"
proof_name proofs.Dummy = codes "dummy"
proof_name proofs.Thm = codes "thm"
proof_name proofs.ThmSave = codes "thm_save"
proof_name proofs.Hyp = codes "hyp"
proof_name proofs.Conv = codes "conv"
proof_name proofs.Refl = codes "refl"
proof_name proofs.Symm = codes "symm"
proof_name proofs.Cong = codes "cong"
proof_name proofs.Unfold = codes "unfold"
proof_name proofs.ConvCut = codes "conv_cut"
proof_name proofs.ConvRef = codes "conv_ref"
proof_name proofs.ConvSave = codes "conv_save"
proof_name proofs.Save = codes "save"
proof_name proofs.Sorry = codes "sorry"

abbrev pub proof_has_number : ProofCode → Bool
proof_has_number proofs.Term = true
proof_has_number proofs.TermSave = true
proof_has_number proofs.Ref = true
proof_has_number proofs.Dummy = true
proof_has_number proofs.Thm = true
proof_has_number proofs.ThmSave = true
proof_has_number proofs.Hyp = false
proof_has_number proofs.Conv = false
proof_has_number proofs.Refl = false
proof_has_number proofs.Symm = false
proof_has_number proofs.Cong = false
proof_has_number proofs.Unfold = false
proof_has_number proofs.ConvCut = false
proof_has_number proofs.ConvRef = true
proof_has_number proofs.ConvSave = false
proof_has_number proofs.Save = false
proof_has_number proofs.Sorry = false

-- a command, with its number where that is listed
abbrev pub command_words : Bool → List ℕ → ℕ → List ℕ
command_words has_number name value = if has_number then numbered name value else name
