-- What is said of a whole run is its proof's phrase and weight.
use Rattle.std.proofs.Common.{◌≡◌, ◌∙◌, ℕ, suc, ◌+◌, ◌<◌, All, List, [], ◌∷◌, length, map, codes, sym, ap, subst, refl, arith}
use Rattle.std.proofs.lemmas.List.{length-map}
use Rattle.mz_logic_theory.specs.Declaration.{Declaration}
use Rattle.mz_mmu_theory.specs.Weight.{proof_weight}
use Rattle.mz_trace.specs.Traces.{under_lets}
use Rattle.mz_decompile_text.specs.Phrases.{Phrase, a_word}
use Rattle.mz_decompile_text.specs.Phrasing.{Vocabulary, list_of, proof}
use Rattle.mz_decompile_text.specs.ByNumber.{phrase_at}
use Rattle.mz_decompile_text.specs.Measures.{capped}
use Rattle.mz_trace.specs.Nodes.{Value, proof_at, AreProofs, IsProof}
use Rattle.mz_trace.specs.Numbered.{IsWhole}
use Rattle.mz_trace.specs.Runs.{values_in}
use Rattle.mz_trace.specs.declared.run.Run.{Run}
use Rattle.mz_decompile_text.specs.Telling.{told_behind, weight_at, weight_behind, all_weighed}
use Rattle.mz_decompile_text.specs.Gathering.{AreGathered, IsBehind, phrases_in}
use Rattle.mz_decompile_text.specs.Retelling.{IsRetold, IsWeighed}
use Rattle.mz_decompile_text.specs.declared.proof.SizedNodes.{SizedNodes}
use Rattle.mz_decompile_text.proofs.Values.{value_phrases, value_weights, proof-phrase, proof-weight, nodes-phrases, nodes-weights}
use Rattle.mz_decompile_text.proofs.Progress.{sums-alike, capped-weight}
use Rattle.mz_decompile_text.proofs.Lowering.{proof-low, proofs-low}

-- ---- the proof behind the lets

behind-phrase : (v : Vocabulary) (qs : List Phrase) (vs : List Value) (k : ℕ) (lets : List ℕ) (root : ℕ) → ((j : ℕ) → qs ≡ value_phrases v j vs) → AreProofs vs lets → IsProof vs root
    → told_behind v k (map (phrase_at qs) lets) (phrase_at qs root) ≡ proof v k (under_lets (map (proof_at vs) lets) (proof_at vs root))
behind-phrase v qs vs k [] root same all last = ap (λ xs. phrase_at xs root) (same k) ∙ proof-phrase v k vs root last
behind-phrase v qs vs k (n ∷ lets) root same all last =
    ap (λ x. list_of (a_word (codes ":let") ∷ a_word (v.let_name k) ∷ x ∷ told_behind v (suc k) (map (phrase_at qs) lets) (phrase_at qs root) ∷ []))
    (ap (λ xs. phrase_at xs n) (same k) ∙ proof-phrase v k vs n all.0)
    ∙ ap (λ x. list_of (a_word (codes ":let") ∷ a_word (v.let_name k) ∷ proof v k (proof_at vs n) ∷ x ∷ [])) (behind-phrase v qs vs (suc k) lets root same all.1 last)

behind-weight : (env : List Declaration) (vs : List Value) (lets : List ℕ) (root : ℕ) → AreProofs vs lets → IsProof vs root
    → weight_behind (map (weight_at (value_weights env vs)) lets) (weight_at (value_weights env vs) root) ≡ proof_weight env (under_lets (map (proof_at vs) lets) (proof_at vs root))
behind-weight env vs [] root all last = proof-weight env vs root last
behind-weight env vs (n ∷ lets) root all last =
    let one = proof-weight env vs n all.0 in
    let rest = behind-weight env vs lets root all.1 last in
    omega (arith, one, rest)

capped-behind : (ws lets : List ℕ) (root : ℕ)
    → capped (weight_behind (map (weight_at (map capped ws)) lets) (weight_at (map capped ws) root)) ≡ capped (weight_behind (map (weight_at ws) lets) (weight_at ws root))
capped-behind ws [] root = capped-weight ws root
capped-behind ws (n ∷ lets) root =
    let cs = map capped ws in
    sums-alike (1 + weight_at cs n) (weight_behind (map (weight_at cs) lets) (weight_at cs root)) (1 + weight_at ws n) (weight_behind (map (weight_at ws) lets) (weight_at ws root))
    (sums-alike 1 (weight_at cs n) 1 (weight_at ws n) refl (capped-weight ws n)) (capped-behind ws lets root)

-- ---- a whole run

run-phrases : (v : Vocabulary) (r : Run) (ps : List Phrase) (t : SizedNodes) (k : ℕ) → IsWhole r → AreGathered v ps r.nodes t → phrases_in ps t ≡ value_phrases v k (values_in r)
run-phrases v r ps t k h g = g.phrases ∙ nodes-phrases v k h.tables [] r.nodes h.parts

-- as many are reported as there are values
many-told : (v : Vocabulary) (r : Run) (ps : List Phrase) (t : SizedNodes) → IsWhole r → AreGathered v ps r.nodes t → length t.phrases.items ≡ length (values_in r)
many-told v r ps t h g =
    sym (length-map t.phrases.items (phrase_at ps)) ∙ ap length (run-phrases v r ps t 0 h g) ∙ length-map (values_in r) _

pub lets-there : (v : Vocabulary) (r : Run) (ps : List Phrase) (t : SizedNodes) → IsWhole r → AreGathered v ps r.nodes t → All (λ n. n < length t.phrases.items) r.lets
lets-there v r ps t h g = subst (λ k. All (λ n. n < k) r.lets) (sym (many-told v r ps t h g)) (proofs-low (values_in r) r.lets h.lets)

pub root-there : (v : Vocabulary) (r : Run) (ps : List Phrase) (t : SizedNodes) → IsWhole r → AreGathered v ps r.nodes t → r.root < length t.phrases.items
root-there v r ps t h g = subst (λ k. r.root < k) (sym (many-told v r ps t h g)) (proof-low (values_in r) r.root h.root)

pub run-phrase : (v : Vocabulary) (r : Run) (ps qs : List Phrase) (t : SizedNodes) (phrase weight : ℕ) → IsWhole r → AreGathered v ps r.nodes t
    → IsBehind v ps qs t r.lets r.root 0 phrase weight → IsRetold v r qs phrase
run-phrase v r ps qs t phrase weight h g b =
    (b.there, b.is ∙ behind-phrase v (phrases_in ps t) (values_in r) 0 r.lets r.root (λ j. run-phrases v r ps t j h g) h.lets h.root)

pub run-weight : (v : Vocabulary) (r : Run) (ps qs : List Phrase) (t : SizedNodes) (phrase weight : ℕ) → IsWhole r → AreGathered v ps r.nodes t
    → IsBehind v ps qs t r.lets r.root 0 phrase weight → IsWeighed r weight
run-weight v r ps qs t phrase weight h g b = λ env claims.
    let lets = r.lets in
    let sum = λ (ws : List ℕ). capped (weight_behind (map (weight_at ws) lets) (weight_at ws r.root)) in
    b.weighs ∙ ap sum g.weights ∙ capped-behind (all_weighed r.nodes) lets r.root
    ∙ ap sum (nodes-weights env h.tables [] r.nodes h.parts claims)
    ∙ ap capped (behind-weight env (values_in r) lets r.root h.lets h.root)
