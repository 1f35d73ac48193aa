-- What compiling a text answers is decided by the text: its file, or its first fault or limit.
use Rattle.std.proofs.Common.{Bool, false, ◌≡◌, ◌⊎◌, ◌∙◌, ℕ, List, [], ◌∷◌, length, Option, Some, refl, sym, ap, subst, inl, inr}
use Rattle.std.proofs.lemmas.Option.{same_Some}
use Rattle.mz_io.specs.Calls.{Hold}
use Rattle.mz_mmu_theory.specs.Weight.{Limit, sort_limit, parameter_limit, bound_limit, byte_limit, Passed}
use Rattle.mz_emit_theory.specs.declared.rule.L.{L}
use Rattle.mz_emit_theory.specs.declared.rule.L.TheVariants as rules
use Rattle.mz_emit_theory.specs.Lines.{bytes_line, refusal_line, limit_line}
use Rattle.mz_emit_theory.specs.Limits.{limit, over}
use Rattle.mz_emit_theory.specs.Compiling.{IsCompilable, CompilesTo, IsDecided}
use Rattle.mz_emit_theory.specs.CompiledLaws.{HasFile, HasOneFile}
use Rattle.mz_tool_engine.specs.Said.{Said, Files}
use Rattle.mz_tool_engine.specs.Run.{IsAnswer}
use Rattle.mz_tool.specs.Compile.{IsCompiledTo, IsFaultLine, IsLimitLine, compile_says, IsAnsweredOnce}

-- the code of a limit
abbrev rule_of : Limit → L
rule_of sort_limit = rules.Sorts
rule_of parameter_limit = rules.Parameters
rule_of bound_limit = rules.BoundVariables
rule_of byte_limit = rules.Bytes

rule_of-limit : (r : L) → rule_of (limit r) ≡ r
rule_of-limit rules.Sorts = refl
rule_of-limit rules.Parameters = refl
rule_of-limit rules.BoundVariables = refl
rule_of-limit rules.Bytes = refl

-- a file holds one row of bytes
held_once : (file : Files) (name : List ℕ) (one other : List (List ℕ)) → Hold file (name ∷ []) one → Hold file (name ∷ []) other → one ≡ other
held_once file name [] other a b = absurd a
held_once file name (x ∷ []) [] a b = absurd b
held_once file name (x ∷ []) (y ∷ []) a b = ap (λ (z : List ℕ). z ∷ []) (same_Some x y (sym a.0 ∙ b.0))
held_once file name (x ∷ []) (y ∷ z ∷ zs) a b = absurd b.1
held_once file name (x ∷ z ∷ zs) other a b = absurd a.1

module _ (decided : (gaps : Bool) (text : List ℕ) → IsDecided gaps text) (has_one : (text : List ℕ) → HasOneFile text) (has_file : (text : List ℕ) → HasFile text) (gaps : Bool) where
  has_yes : (text : List ℕ) → IsCompilable gaps text → (put : Option (List ℕ)) × (line : List ℕ) × IsCompiledTo gaps text put line
  has_yes text can =
      let (bin, compiles) = has_file text gaps can in
      let finished : IsCompilable false text → CompilesTo false text bin = λ whole.
      (let (other, is) = has_file text false whole in subst (CompilesTo false text) (has_one text false gaps other bin is compiles) is) in
      (Some bin, bytes_line (length bin), (bin, refl, compiles, finished, refl))

  one_yes : (text : List ℕ) (put put' : Option (List ℕ)) (line line' : List ℕ) → IsCompiledTo gaps text put line → IsCompiledTo gaps text put' line' → (put ≡ put') × (line ≡ line')
  one_yes text put put' line line' (bin, puts, is, finished, same) (bin', puts', is', finished', same') =
      let e : bin ≡ bin' = has_one text gaps gaps bin bin' is is' in
      (puts ∙ ap (λ (z : List ℕ). Some z) e ∙ sym puts', same ∙ ap (λ (z : List ℕ). bytes_line (length z)) e ∙ sym same')

  one_limit : (text line line' : List ℕ) → IsLimitLine gaps text line → IsLimitLine gaps text line' → line ≡ line'
  one_limit text line line' (rule, count, passes, same) (rule', count', passes', same') =
      let e : over (limit rule) count ≡ over (limit rule') count' = (decided gaps text).one_limit (over (limit rule) count) (over (limit rule') count') passes passes' in
      same ∙ ap (λ (r : L). limit_line r count) (sym (rule_of-limit rule)) ∙ ap (λ (p : Passed). limit_line (rule_of p.limit) p.count) e ∙ ap (λ (r : L). limit_line r count') (rule_of-limit rule') ∙ sym same'

  one_cause : (text line line' : List ℕ) → IsFaultLine gaps text line ⊎ IsLimitLine gaps text line → IsFaultLine gaps text line' ⊎ IsLimitLine gaps text line' → line ≡ line'
  one_cause text line line' (inl (r, fault, same)) (inl (r', fault', same')) = same ∙ ap refusal_line ((decided gaps text).one_fault r r' fault fault') ∙ sym same'
  one_cause text line line' (inl (r, fault, same)) (inr (rule, count, passes, same')) = absurd ((decided gaps text).not_both (over (limit rule) count) r passes fault)
  one_cause text line line' (inr (rule, count, passes, same)) (inl (r, fault, same')) = absurd ((decided gaps text).not_both (over (limit rule) count) r passes fault)
  one_cause text line line' (inr one) (inr other) = one_limit text line line' one other

  module _ (text_name out_name : List ℕ) where
    abbrev said : Said
    said = compile_says gaps text_name out_name

    one_answer : (contents : List (List ℕ)) (put put' : Option (List ℕ)) (line line' : List ℕ) → IsAnswer said contents put line → IsAnswer said contents put' line' → (put ≡ put') × (line ≡ line')
    one_answer [] put put' line line' (inl (affirmed, not)) other = absurd affirmed
    one_answer [] put put' line line' (inr (none, (refused, not))) other = absurd refused
    one_answer (text ∷ []) put put' line line' (inl (affirmed, not)) (inl (affirmed', not')) = one_yes text put put' line line' affirmed affirmed'
    one_answer (text ∷ []) put put' line line' (inl (affirmed, not)) (inr (none, (refused, not'))) = absurd (not line' refused)
    one_answer (text ∷ []) put put' line line' (inr (none, (refused, not))) (inl (affirmed, not')) = absurd (not' line refused)
    one_answer (text ∷ []) put put' line line' (inr (none, (refused, not))) (inr (none', (refused', not'))) = (none ∙ sym none', one_cause text line line' refused.1 refused'.1)
    one_answer (text ∷ more ∷ rest) put put' line line' (inl (affirmed, not)) other = absurd affirmed
    one_answer (text ∷ more ∷ rest) put put' line line' (inr (none, (refused, not))) other = absurd refused

    pub answered_once : IsAnsweredOnce gaps text_name out_name
    answered_once = record {
      compiled = has_yes;
      one = λ file put put' line line' is other.
          let same = held_once file text_name is.0 other.0 is.1 other.1 in
          one_answer is.0 put put' line line' is.2 (subst (λ (z : List (List ℕ)). IsAnswer said z put' line') (sym same) other.2);
    }
