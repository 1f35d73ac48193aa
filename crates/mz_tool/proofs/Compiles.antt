-- What comes of a proof text: it is compiled, or has a first fault, or passes a limit first.
use Rattle.std.proofs.Common.{false, Bool, ◌≡◌, ◌≤◌, ℕ, List, length, Option, Some, subst, inl, inr, refl, arith}
use Rattle.mz_base.proofs.Offered.{all_hold-rest}
use Rattle.mz_mmu_theory.specs.Statements.{Statement}
use Rattle.mz_mmu_theory.specs.TextOf.{TextOf}
use Rattle.mz_mmu_theory.specs.Weight.{byte_bound, each_within, bound_limit, bound_count, parameter_limit, parameter_count}
use Rattle.mz_emit_theory.specs.declared.compiled.Compiled.{Compiled}
use Rattle.mz_emit_theory.specs.declared.compiled.Compiled.TheVariants as answers
use Rattle.mz_emit_theory.specs.Lines.{line_of as line_of_compiled}
use Rattle.mz_emit_theory.specs.Limits.{limit, over}
use Rattle.mz_emit_theory.specs.Compiling.{IsCompilation, CompilesTo, IsCompilable, IsDecided}
use Rattle.mz_tool_engine.specs.Answering.{IsShort}
use Rattle.mz_tool_engine.specs.Run.{longest}
use Rattle.mz_tool_engine.specs.Outcomes.{OnYes}
use Rattle.mz_tool_engine.specs.declared.outcome.Outcome.{Outcome}
use Rattle.mz_tool_engine.specs.declared.outcome.Outcome.TheVariants as outcomes
use Rattle.mz_tool.specs.Compile.{IsCompiledTo, IsNotCompiled}

-- a binary is no longer than a file that is read
pub short-binary : (gaps : Bool) (text bin : List ℕ) → CompilesTo gaps text bin → length bin ≤ longest
short-binary gaps text bin (ss, typed, within, binary) =
    let bytes : byte_bound ss ≤ 4294967295 =
    (all_hold-rest (each_within bound_limit bound_count 55 ss) _ (all_hold-rest (each_within parameter_limit parameter_count 65535 ss) _ within.1)).0 in
    let most : length bin ≤ byte_bound ss = binary.written.short in
    omega arith

pub put-bytes : (xs ys : List ℕ) → Some xs ≡ Some ys → xs ≡ ys
put-bytes xs ys e = cc

compilable : (gaps : Bool) (text bin : List ℕ) → CompilesTo gaps text bin → IsCompilable gaps text
compilable gaps text bin (ss, typed, within, binary) = (ss, typed, within)

-- a text that is typed as a finished one is compiled as one, too
pub as-finished : (text : List ℕ) (c : Compiled) (bytes : _) → c ≡ answers.Bytes bytes → ((ss : List Statement) → TextOf false text ss → IsCompilation false text c)
    → IsCompilable false text → CompilesTo false text bytes.items
as-finished text c bytes is finished (ss, typed, within) = subst (IsCompilation false text) is (finished ss typed)

module _ (gaps : Bool) (text : List ℕ) (decided : IsDecided gaps text) where
  pub is-not-compiled : (c : Compiled) (line : List ℕ) → IsCompilation gaps text c → ((bytes : _) → c ≡ answers.Bytes bytes → ⊥) → (c ≡ answers.Mem → ⊥) → line ≡ line_of_compiled c → IsNotCompiled gaps text line
  is-not-compiled (answers.Bytes bytes) line is other some same = absurd (other bytes refl)
  is-not-compiled (answers.Refused refusal) line is other some same = (λ can. decided.not_refused refusal can is, inl (refusal, is, same))
  is-not-compiled (answers.Limit rule count) line is other some same = (λ can. decided.not_limited (over (limit rule) count) can is, inr (rule, count, is, same))
  is-not-compiled answers.Mem line is other some same = absurd (some refl)

  -- where the text is compiled, it isn't refused
  pub compiled-alone : (c : Compiled) → IsCompilation gaps text c → ((bytes : _) → c ≡ answers.Bytes bytes → ⊥) → (c ≡ answers.Mem → ⊥)
      → (put : Option (List ℕ)) (line : List ℕ) → IsCompiledTo gaps text put line → ⊥
  compiled-alone (answers.Bytes bytes) is other some put line (bin, puts, compiles, finished, same) = other bytes refl
  compiled-alone (answers.Refused refusal) is other some put line (bin, puts, compiles, finished, same) = decided.not_refused refusal (compilable gaps text bin compiles) is
  compiled-alone (answers.Limit rule count) is other some put line (bin, puts, compiles, finished, same) = decided.not_limited (over (limit rule) count) (compilable gaps text bin compiles) is
  compiled-alone answers.Mem is other some put line (bin, puts, compiles, finished, same) = some refl

-- where it is refused, it isn't compiled
pub not-compiled-alone : (gaps : Bool) (text bin : List ℕ) → CompilesTo gaps text bin → (line : List ℕ) → IsNotCompiled gaps text line → ⊥
not-compiled-alone gaps text bin compiles line (not, why) = not (compilable gaps text bin compiles)

-- ---- for each command that puts a file

-- these bytes are put, and are no longer than a file that is read
pub put-short : (xs : List ℕ) → length xs ≤ longest → IsShort (Some xs)
put-short xs short = λ bytes put. subst (λ b. length b ≤ longest) (put-bytes xs bytes put) short

-- of a yes nothing is promised
pub none-promised : (o : Outcome) → OnYes o (Unit {0})
none-promised (outcomes.Yes put text) = tt
none-promised (outcomes.No text) = tt
none-promised outcomes.Mem = tt
