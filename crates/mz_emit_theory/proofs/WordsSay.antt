-- Words that are written say what they are written for.
use Rattle.std.proofs.Common.{◌≡◌, ◌<◌, ◌^◌, ◌∙◌, ℕ, false, List, [], length, sym, ap, subst}
use Rattle.std.proofs.lemmas.Option.{slice_get_within}
use Rattle.mz_logic_theory.specs.Signature.{Signature}
use Rattle.mz_logic_theory.specs.Modifiers.{MayBeResultSort}
use Rattle.mz_logic_theory.specs.Words.{word_deps, result_of}
use Rattle.mz_logic_theory.specs.WordsWritten.{words_of, result_word, bound_from}
use Rattle.mz_logic_theory.specs.declared.binder.Binder.{Binder}
use Rattle.mz_logic_theory.specs.declared.binder.ResultType.{ResultType}
use Rattle.mz_logic_theory.proofs.Offered.{at-first, bits-few, result-says, places-same, params-back, results-back}
use Rattle.mz_layout_tables.specs.RowWords.{bound_count}
use Rattle.mz_layout_tables.proofs.Offered.{bound-many, param-at}
use Rattle.mz_emit_theory.specs.WordsSay.{WordsSayParams, WordsSaySignatures}

pub words-say-params : WordsSayParams
words-say-params ss params can = record { right = λ i below. param-at ss params can i below; said = params-back ss params can }

pub words-say-signatures : WordsSaySignatures
words-say-signatures ss signature can may bound increasing =
    let params : List Binder = signature.params in
    let r : ResultType = signature.result in
    let below : r.sort < length ss = slice_get_within ss r.sort may.0 may.1 in
    let (bound-is, sort-is, deps-are, _) = result-says ss params can r below in
    let bits : word_deps (result_word params r) < 2 ^ length (bound_from 0 params) = subst (λ (d : ℕ). d < 2 ^ length (bound_from 0 params)) (sym deps-are) (bits-few (bound_from 0 params) r.deps) in
    let count : bound_count (words_of params) ≡ length (bound_from 0 params) = sym (bound-many 0 (words_of params)) ∙ ap (λ (z : List ℕ). length z) (places-same ss params can 0 [] params (at-first ss params can)) in
    record {
      right = λ i within. param-at ss params can i within;
      is_regular = bound-is;
      may_be = subst (MayBeResultSort ss) (sym sort-is) may;
      bits = subst (λ (k : ℕ). word_deps (result_word params r) < 2 ^ k) (sym count) bits;
      said = ap (λ (ps : List Binder). made ps (result_of (record { params = words_of params; result = result_word params r; has_body = false }))) (params-back ss params can) ∙ ap (made params) (results-back ss params r false can below bound increasing);
    }
  where
    made : List Binder → ResultType → Signature
    made ps r = record { params = ps; result = r }
