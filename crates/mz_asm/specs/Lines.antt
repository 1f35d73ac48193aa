-- The lines of a listing, and which bytes they are, without their newlines (this project's own form).
use Rattle.std.specs.Prelude.{◌≡◌, ◌<◌, ◌^◌, ◌++◌, ℕ, Bool, true, false, List, [], codes}
use Rattle.mz_show.specs.Tokens.{unify_name, unify_has_number, proof_name, proof_has_number, word_text}
use Rattle.mz_asm.specs.declared.kind.Kind.{Kind}
use Rattle.mz_asm.specs.declared.kind.Kind.TheVariants as kinds
use Rattle.mz_asm.specs.declared.line.Line.{Line}
use Rattle.mz_asm.specs.declared.line.Line.TheVariants as lines
use Rattle.mz_asm.specs.Numbers.{IsNumber}

-- ---- kinds of statements

abbrev pub kind_name : Kind → List ℕ
kind_name kinds.Sort = codes "sort"
kind_name kinds.Term = codes "term"
kind_name kinds.Definition = codes "def"
kind_name kinds.LocalDefinition = codes "local def"
kind_name kinds.Axiom = codes "axiom"
kind_name kinds.Theorem = codes "theorem"
kind_name kinds.LocalTheorem = codes "local theorem"

-- ---- lines

-- a space and a number, or nothing for 0
abbrev pub IsValue : Bool → List ℕ → ℕ → Type 0
IsValue true text n = (ds : List ℕ) × IsNumber ds n × (text ≡ codes " " ++ ds)
IsValue false text n = (text ≡ []) × (n ≡ 0)

-- these bytes are the line
abbrev pub IsLine : List ℕ → Line → Type 0
IsLine text (lines.Head kind row number) =
    (r : List ℕ) × (n : List ℕ) × IsNumber r row × IsNumber n number × (text ≡ kind_name kind ++ (codes " " ++ (r ++ (codes " " ++ n))))
IsLine text (lines.Param w) = (w.0 < 2 ^ 64) × (text ≡ codes " param " ++ word_text w)
IsLine text (lines.Outcome w) = (w.0 < 2 ^ 64) × (text ≡ codes " result " ++ word_text w)
IsLine text (lines.Unify code value) = (v : List ℕ) × IsValue (unify_has_number code) v value × (text ≡ codes " u " ++ (unify_name code ++ v))
IsLine text lines.UnifyEnd = text ≡ codes " u end"
IsLine text (lines.Proof code value) = (v : List ℕ) × IsValue (proof_has_number code) v value × (text ≡ codes " p " ++ (proof_name code ++ v))
IsLine text lines.ProofEnd = text ≡ codes " p end"
IsLine text lines.End = text ≡ codes "end"
