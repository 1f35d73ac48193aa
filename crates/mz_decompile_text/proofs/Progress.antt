-- How far the nodes are reported.
use Rattle.std.proofs.Common.{◌≡◌, ◌∙◌, ℕ, suc, ◌+◌, List, [], ◌∷◌, ◌++◌, length, map, sym, ap, subst, refl, arith}
use Rattle.std.proofs.lemmas.List.{length-append, length-map, map-append}
use Rattle.std.proofs.Math.ListN.{get_or-map}
use Rattle.mz_decompile_text.specs.Phrases.{Phrase}
use Rattle.mz_decompile_text.specs.Phrasing.{Vocabulary}
use Rattle.mz_decompile_text.specs.ByNumber.{phrase_at, Grows}
use Rattle.mz_decompile_text.specs.Measures.{capped}
use Rattle.mz_decompile_text.proofs.Capping.{capped-sum}
use Rattle.mz_trace.specs.declared.node.RunNode.{RunNode}
use Rattle.mz_trace.specs.declared.node.RunNode.TheVariants as node
use Rattle.mz_decompile_text.specs.Growing.{AreThere, those_at}
use Rattle.mz_decompile_text.specs.Telling.{told, weight_at, weights_at, weighed, weighed_after, all_weighed, told_after, all_told, AreLowerAfter}
use Rattle.mz_decompile_text.specs.Gathering.{AreTold, AreGathered, IsOneMore, phrases_in}
use Rattle.mz_decompile_text.proofs.LongerProofs.{grows-on, grows-same, no-numbers}
use Rattle.mz_decompile_text.specs.declared.proof.SizedNodes.{SizedNodes}

-- ---- sums of numbers that are cut off

pub sums-alike : (a b c d : ℕ) → capped a ≡ capped c → capped b ≡ capped d → capped (a + b) ≡ capped (c + d)
sums-alike a b c d left right =
    sym (capped-sum a b) ∙ ap (λ x. capped (x + capped b)) left ∙ ap (λ x. capped (capped c + x)) right ∙ capped-sum c d

capped-twice : (a : ℕ) → capped (capped a) ≡ capped a
capped-twice a = omega arith

pub capped-weight : (ws : List ℕ) (n : ℕ) → capped (weight_at (map capped ws) n) ≡ capped (weight_at ws n)
capped-weight ws n = ap capped (get_or-map capped ws n 0) ∙ capped-twice (weight_at ws n)

pub capped-weights : (ws ns : List ℕ) → capped (weights_at (map capped ws) ns) ≡ capped (weights_at ws ns)
capped-weights ws [] = refl
capped-weights ws (n ∷ ns) =
    sums-alike (weight_at (map capped ws) n) (weights_at (map capped ws) ns) (weight_at ws n) (weights_at ws ns) (capped-weight ws n) (capped-weights ws ns)

pub capped-weighed : (ws : List ℕ) (n : RunNode) → capped (weighed (map capped ws) n) ≡ capped (weighed ws n)
capped-weighed ws (node.Var x) = refl
capped-weighed ws (node.App t es) = sums-alike 1 (weights_at (map capped ws) es.items) 1 (weights_at ws es.items) refl (capped-weights ws es.items)
capped-weighed ws (node.Hyp i) = refl
capped-weighed ws (node.Let i) = refl
capped-weighed ws (node.Use t e es ps) =
    let cs = map capped ws in
    sums-alike (1 + weights_at cs es.items + weight_at cs e) (weights_at cs ps.items) (1 + weights_at ws es.items + weight_at ws e) (weights_at ws ps.items)
    (
    sums-alike (1 + weights_at cs es.items) (weight_at cs e) (1 + weights_at ws es.items) (weight_at ws e)
    (sums-alike 1 (weights_at cs es.items) 1 (weights_at ws es.items) refl (capped-weights ws es.items)) (capped-weight ws e)
    )
    (capped-weights ws ps.items)
capped-weighed ws (node.Conv e c p) =
    let cs = map capped ws in
    sums-alike (1 + weight_at cs e + weight_at cs c) (weight_at cs p) (1 + weight_at ws e + weight_at ws c) (weight_at ws p)
    (
    sums-alike (1 + weight_at cs e) (weight_at cs c) (1 + weight_at ws e) (weight_at ws c)
    (sums-alike 1 (weight_at cs e) 1 (weight_at ws e) refl (capped-weight ws e)) (capped-weight ws c)
    )
    (capped-weight ws p)
capped-weighed ws (node.Refl e) = refl
capped-weighed ws (node.Sym c) = sums-alike 1 (weight_at (map capped ws) c) 1 (weight_at ws c) refl (capped-weight ws c)
capped-weighed ws (node.Cong t cs) = sums-alike 1 (weights_at (map capped ws) cs.items) 1 (weights_at ws cs.items) refl (capped-weights ws cs.items)
capped-weighed ws (node.Unfold t e es ys c) =
    let cs = map capped ws in
    sums-alike (1 + weights_at cs es.items + weight_at cs e) (weight_at cs c) (1 + weights_at ws es.items + weight_at ws e) (weight_at ws c)
    (
    sums-alike (1 + weights_at cs es.items) (weight_at cs e) (1 + weights_at ws es.items) (weight_at ws e)
    (sums-alike 1 (weights_at cs es.items) 1 (weights_at ws es.items) refl (capped-weights ws es.items)) (capped-weight ws e)
    )
    (capped-weight ws c)

-- ---- the nodes so far

-- what is reported so far, and these nodes are left
pub record IsSoFar (v : Vocabulary) (first ps : List Phrase) (ns left : List RunNode) (t : SizedNodes) : Type 0 where
  pub grows : Grows first ps
  pub there : AreTold ps t
  pub phrases : told_after v (phrases_in ps t) left ≡ all_told v ns
  pub ws : List ℕ
  pub capped_are : t.weights.items ≡ map capped ws
  pub weights : weighed_after ws left ≡ all_weighed ns
  pub lower : AreLowerAfter (length t.phrases.items) left

pub at-first : (v : Vocabulary) (ps : List Phrase) (ns : List RunNode) (t : SizedNodes) → t.phrases.items ≡ [] → t.weights.items ≡ [] → AreLowerAfter 0 ns → IsSoFar v ps ps ns ns t
at-first v ps ns t none empty lower = record {
  grows = grows-same ps;
  there = record { there = subst (λ xs. AreThere ps xs) (sym none) (no-numbers (length ps)); same = ap length empty ∙ sym (ap length none) };
  phrases = ap (λ xs. told_after v (those_at ps xs) ns) none;
  ws = [];
  capped_are = empty;
  weights = refl;
  lower = subst (λ xs. AreLowerAfter (length xs) ns) (sym none) lower;
}

pub one-further : (v : Vocabulary) (first ps qs : List Phrase) (ns left : List RunNode) (n : RunNode) (t u : SizedNodes) → IsSoFar v first ps ns (n ∷ left) t → IsOneMore v ps qs t u n
    → IsSoFar v first qs ns left u
one-further v first ps qs ns left n t u h m =
    let all = ap length m.phrases in
    let old = length-append (phrases_in ps t) (told v (phrases_in ps t) n ∷ []) in
    let many : length u.phrases.items ≡ suc (length t.phrases.items) =
    omega (arith, all, old, length-map u.phrases.items (phrase_at qs), length-map t.phrases.items (phrase_at ps)) in
    record {
      grows = grows-on first ps qs h.grows m.grows;
      there = m.there;
      phrases = ap (λ xs. told_after v xs left) m.phrases ∙ h.phrases;
      ws = h.ws ++ weighed h.ws n ∷ [];
      capped_are =
          m.weights ∙ ap (λ xs. xs ++ capped (weighed t.weights.items n) ∷ []) h.capped_are
          ∙ ap (λ w. map capped h.ws ++ w ∷ []) (ap (λ xs. capped (weighed xs n)) h.capped_are ∙ capped-weighed h.ws n)
          ∙ sym (map-append capped h.ws (weighed h.ws n ∷ []));
      weights = h.weights;
      lower = subst (λ k. AreLowerAfter k left) (sym many) h.lower.1;
    }

pub at-last : (v : Vocabulary) (first ps : List Phrase) (ns : List RunNode) (t : SizedNodes) → IsSoFar v first ps ns [] t → AreGathered v ps ns t
at-last v first ps ns t h = record { there = h.there; phrases = h.phrases; weights = h.capped_are ∙ ap (map capped) h.weights }
