-- The commands `compile TEXT OUT` and `compile_draft TEXT OUT`: all that is said of them (this project's own).
use Rattle.std.specs.Prelude.{◌≡◌, ◌⊎◌, ℕ, Bool, true, false, List, [], ◌∷◌, length, Option, Some, codes}
use Rattle.mz_sexpr.specs.declared.rule.TextRefusal.{TextRefusal}
use Rattle.mz_mmu_theory.specs.TextOf.{TextFault}
use Rattle.mz_emit_theory.specs.declared.rule.L.{L}
use Rattle.mz_emit_theory.specs.Lines.{bytes_line, refusal_line, limit_line}
use Rattle.mz_emit_theory.specs.Limits.{limit, over}
use Rattle.mz_emit_theory.specs.Compiling.{IsCompilable, CompilesTo, PassesLimit}
use Rattle.mz_tool_engine.specs.Said.{Said, Files, OfOne}
use Rattle.mz_tool_engine.specs.Run.{IsAnswerOver}

-- yes: the text, where gaps are let through a draft, is compiled to the bytes, which are put: they are accepted against each
-- specification with which its public statements agree, of a draft as a draft; a finished text's are so without gaps,
-- and by verifiers that compare by identity too
abbrev pub IsCompiledTo : Bool → List ℕ → Option (List ℕ) → List ℕ → Type 0
IsCompiledTo gaps text put line = (bin : List ℕ) × (put ≡ Some bin) × CompilesTo gaps text bin × (IsCompilable false text → CompilesTo false text bin)
    × (line ≡ bytes_line (length bin))

-- it has a first fault, or is well typed and passes a limit first
abbrev pub IsFaultLine : Bool → List ℕ → List ℕ → Type 0
IsFaultLine gaps text line = (refusal : TextRefusal) × TextFault gaps text refusal × (line ≡ refusal_line refusal)

abbrev pub IsLimitLine : Bool → List ℕ → List ℕ → Type 0
IsLimitLine gaps text line = (rule : L) × (count : ℕ) × PassesLimit gaps text (over (limit rule) count) × (line ≡ limit_line rule count)

-- no: the text can't be compiled, for one of the two
abbrev pub IsNotCompiled : Bool → List ℕ → List ℕ → Type 0
IsNotCompiled gaps text line = (IsCompilable gaps text → ⊥) × (IsFaultLine gaps text line ⊎ IsLimitLine gaps text line)

-- with gaps let through, as a draft, or without
abbrev pub compile_word : Bool → List ℕ
compile_word false = codes "compile"
compile_word true = codes "compile_draft"

abbrev pub compile_says : (gaps : Bool) (text_name out_name : List ℕ) → Said
compile_says gaps text_name out_name = record {
  words = compile_word gaps ∷ text_name ∷ out_name ∷ [];
  is_in_range = Unit {0};
  reads = text_name ∷ [];
  puts = Some out_name;
  promise = λ file. Unit {0};
  yes = λ contents put text. OfOne (λ stated. IsCompiledTo gaps stated put text) contents;
  no = λ contents text. OfOne (λ stated. IsNotCompiled gaps stated text) contents;
  sound = λ contents. Unit {0};
  begun = λ contents text. ⊥;
}

-- ---- one answer

-- a text that can be compiled has a yes; and whatever the files hold, there is one answer at the most: what is put, and the
-- line, which an output needs room for
pub record IsAnsweredOnce (gaps : Bool) (text_name out_name : List ℕ) : Type 0 where
  pub compiled : (text : List ℕ) → IsCompilable gaps text → (put : Option (List ℕ)) × (line : List ℕ) × IsCompiledTo gaps text put line
  pub one : (file : Files) (put put' : Option (List ℕ)) (line line' : List ℕ) → IsAnswerOver file (compile_says gaps text_name out_name) put line
      → IsAnswerOver file (compile_says gaps text_name out_name) put' line' → (put ≡ put') × (line ≡ line')
