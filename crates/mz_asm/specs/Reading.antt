-- The line that bytes are, computed: `IsLine` says which line that is.
use Rattle.std.specs.Prelude.{ℕ, Bool, true, false, ◌==◌, List, length, codes, Option, Some, None, bytes_eq, if◌then◌else◌}
use Rattle.std.specs.List.{position_or_len, before_first, after_first}
use Rattle.mz_cmd.specs.declared.code.ProofCode.{ProofCode}
use Rattle.mz_cmd.specs.declared.code.ProofCode.TheVariants as proofs
use Rattle.mz_cmd.specs.declared.code.UnifyCode.{UnifyCode}
use Rattle.mz_cmd.specs.declared.code.UnifyCode.TheVariants as unifies
use Rattle.mz_logic_theory.specs.declared.word.Word.{Word}
use Rattle.mz_show.specs.Tokens.{unify_has_number, proof_has_number}
use Rattle.mz_asm.specs.declared.kind.Kind.{Kind}
use Rattle.mz_asm.specs.declared.kind.Kind.TheVariants as kinds
use Rattle.mz_asm.specs.declared.line.Line.{Line}
use Rattle.mz_asm.specs.declared.line.Line.TheVariants as lines
use Rattle.mz_asm.specs.Numbers.{number_in, word_in}

-- ---- names

abbrev pub kind_of_word : List ℕ → Option Kind
kind_of_word w =
    if bytes_eq w (codes "sort") then Some kinds.Sort
    else if bytes_eq w (codes "term") then Some kinds.Term
    else if bytes_eq w (codes "def") then Some kinds.Definition
    else if bytes_eq w (codes "axiom") then Some kinds.Axiom
    else if bytes_eq w (codes "theorem") then Some kinds.Theorem
    else None

abbrev pub local_kind_of_word : List ℕ → Option Kind
local_kind_of_word w =
    if bytes_eq w (codes "def") then Some kinds.LocalDefinition
    else if bytes_eq w (codes "theorem") then Some kinds.LocalTheorem
    else None

abbrev pub unify_named : List ℕ → Option UnifyCode
unify_named w =
    if bytes_eq w (codes "term") then Some unifies.Term
    else if bytes_eq w (codes "term_save") then Some unifies.TermSave
    else if bytes_eq w (codes "ref") then Some unifies.Ref
    else if bytes_eq w (codes "dummy") then Some unifies.Dummy
    else if bytes_eq w (codes "hyp") then Some unifies.Hyp
    else None

abbrev pub plain_proof_named : List ℕ → Option ProofCode
plain_proof_named w =
    if bytes_eq w (codes "hyp") then Some proofs.Hyp
    else if bytes_eq w (codes "conv") then Some proofs.Conv
    else if bytes_eq w (codes "refl") then Some proofs.Refl
    else if bytes_eq w (codes "symm") then Some proofs.Symm
    else if bytes_eq w (codes "cong") then Some proofs.Cong
    else if bytes_eq w (codes "unfold") then Some proofs.Unfold
    else if bytes_eq w (codes "conv_cut") then Some proofs.ConvCut
    else if bytes_eq w (codes "conv_save") then Some proofs.ConvSave
    else if bytes_eq w (codes "save") then Some proofs.Save
    else if bytes_eq w (codes "sorry") then Some proofs.Sorry
    else None

abbrev pub proof_named : List ℕ → Option ProofCode
proof_named w =
    if bytes_eq w (codes "term") then Some proofs.Term
    else if bytes_eq w (codes "term_save") then Some proofs.TermSave
    else if bytes_eq w (codes "ref") then Some proofs.Ref
    else if bytes_eq w (codes "dummy") then Some proofs.Dummy
    else if bytes_eq w (codes "thm") then Some proofs.Thm
    else if bytes_eq w (codes "thm_save") then Some proofs.ThmSave
    else if bytes_eq w (codes "conv_ref") then Some proofs.ConvRef
    else plain_proof_named w

-- ---- tokens of a line, with one space between them

abbrev pub first_word : List ℕ → List ℕ
first_word text = before_first (λ b. b == 32) text

abbrev pub other_words : List ℕ → List ℕ
other_words text = after_first (λ b. b == 32) text

-- ---- lines

abbrev pub head_of : Kind → Option ℕ → Option ℕ → Option Line
head_of kind (Some row) (Some number) = Some (lines.Head kind row number)
head_of kind (Some row) None = None
head_of kind None _ = None

abbrev pub numbers_in : Kind → List ℕ → Option Line
numbers_in kind text = head_of kind (number_in (first_word text)) (number_in (other_words text))

abbrev pub head_in : Option Kind → List ℕ → Option Line
head_in None text = None
head_in (Some kind) text = numbers_in kind text

abbrev pub param_of : Option Word → Option Line
param_of None = None
param_of (Some w) = Some (lines.Param w)

abbrev pub param_in : List ℕ → Option Line
param_in text = param_of (word_in text)

abbrev pub result_of : Option Word → Option Line
result_of None = None
result_of (Some w) = Some (lines.Outcome w)

abbrev pub result_in : List ℕ → Option Line
result_in text = result_of (word_in text)

abbrev pub value_in : Bool → List ℕ → Option ℕ
value_in true text = number_in (other_words text)
value_in false text = if position_or_len (λ b. b == 32) text == length text then Some 0 else None

abbrev pub unify_valued : UnifyCode → Option ℕ → Option Line
unify_valued code None = None
unify_valued code (Some value) = Some (lines.Unify code value)

abbrev pub unify_of : Option UnifyCode → List ℕ → Option Line
unify_of None text = None
unify_of (Some code) text = unify_valued code (value_in (unify_has_number code) text)

abbrev pub unify_line_in : List ℕ → Option Line
unify_line_in text = if bytes_eq text (codes "end") then Some lines.UnifyEnd else unify_of (unify_named (first_word text)) text

abbrev pub proof_valued : ProofCode → Option ℕ → Option Line
proof_valued code None = None
proof_valued code (Some value) = Some (lines.Proof code value)

abbrev pub proof_of : Option ProofCode → List ℕ → Option Line
proof_of None text = None
proof_of (Some code) text = proof_valued code (value_in (proof_has_number code) text)

abbrev pub proof_line_in : List ℕ → Option Line
proof_line_in text = if bytes_eq text (codes "end") then Some lines.ProofEnd else proof_of (proof_named (first_word text)) text

-- a line that begins with a space, of what stands behind it
abbrev pub part_named : List ℕ → List ℕ → Option Line
part_named name rest =
    if bytes_eq name (codes "param") then param_in rest
    else if bytes_eq name (codes "result") then result_in rest
    else if bytes_eq name (codes "u") then unify_line_in rest
    else if bytes_eq name (codes "p") then proof_line_in rest
    else None

abbrev pub part_in : List ℕ → Option Line
part_in text = part_named (first_word text) (other_words text)

abbrev pub line_named : List ℕ → List ℕ → Option Line
line_named name rest =
    if bytes_eq name (codes "") then part_in rest
    else if bytes_eq name (codes "local") then head_in (local_kind_of_word (first_word rest)) (other_words rest)
    else head_in (kind_of_word name) rest

abbrev pub line_in : List ℕ → Option Line
line_in text = if bytes_eq text (codes "end") then Some lines.End else line_named (first_word text) (other_words text)
