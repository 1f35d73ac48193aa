-- The root behind the lets, from the last to the first.
use Rattle.std.proofs.Common.{◌≡◌, ◌∙◌, ℕ, suc, ◌+◌, ◌<◌, ◌≤◌, ◌^◌, List, [], ◌∷◌, length, map, drop, get_or, codes, sym, ap, subst, arith}
use Rattle.std.proofs.lemmas.List.{drop_all}
use Rattle.std.proofs.lemmas.Grind.{get_or_default_zero}
use Rattle.std.proofs.Math.Seq.{drop-cons}
use Rattle.mz_decompile_text.specs.Phrases.{Phrase, a_word}
use Rattle.mz_decompile_text.specs.Phrasing.{Vocabulary, list_of}
use Rattle.mz_decompile_text.specs.ByNumber.{phrase_at}
use Rattle.mz_decompile_text.specs.Measures.{capped}
use Rattle.mz_decompile_text.proofs.Capping.{capped-small}
use Rattle.mz_decompile_text.specs.Growing.{AreThere, Tells}
use Rattle.mz_decompile_text.specs.Telling.{told_behind, weight_at, weight_behind}
use Rattle.mz_decompile_text.specs.Gathering.{AreTold, IsBehind, phrases_in}
use Rattle.mz_decompile_text.specs.declared.proof.SizedNodes.{SizedNodes}
use Rattle.mz_decompile_text.proofs.LongerProofs.{grows-same, grows-on, same-phrase, chosen-phrase}

-- ---- what is read of a node

pub read-there : (ps : List Phrase) (t : SizedNodes) (n x : ℕ) → AreThere ps t.phrases.items → n < length t.phrases.items → x ≡ get_or t.phrases.items n x → x < length ps
read-there ps t n x there less is = subst (λ y. y < length ps) (sym is) (there n x less)

pub read-phrase : (ps : List Phrase) (t : SizedNodes) (n x : ℕ) → n < length t.phrases.items → x ≡ get_or t.phrases.items n x → phrase_at ps x ≡ phrase_at (phrases_in ps t) n
read-phrase ps t n x less is = ap (phrase_at ps) (is ∙ get_or_default_zero t.phrases.items n x less) ∙ chosen-phrase ps t.phrases.items n less

pub read-weight : (ps : List Phrase) (t : SizedNodes) (n x : ℕ) → AreTold ps t → n < length t.phrases.items → x ≡ get_or t.weights.items n x → x ≡ weight_at t.weights.items n
read-weight ps t n x h less is =
    let same = h.same in
    let low : n < length t.weights.items = omega (arith, same, less) in
    is ∙ get_or_default_zero t.weights.items n x low

-- ---- no let, and one more

pub behind-none : (v : Vocabulary) (ps : List Phrase) (t : SizedNodes) (lets : List ℕ) (root k phrase weight : ℕ) → AreTold ps t → root < length t.phrases.items → length lets ≤ k
    → phrase ≡ get_or t.phrases.items root phrase → weight ≡ get_or t.weights.items root weight → weight < 2 ^ 128
    → IsBehind v ps ps t lets root k phrase weight
behind-none v ps t lets root k phrase weight h less high is weighs small =
    let none = sym (drop_all k lets high) in
    let ws = t.weights.items in
    record {
      grows = grows-same ps;
      there = read-there ps t root phrase h.there less is;
      is =
          read-phrase ps t root phrase less is
          ∙ ap (λ ns. told_behind v k (map (phrase_at (phrases_in ps t)) ns) (phrase_at (phrases_in ps t) root)) none;
      weighs =
          sym (capped-small weight small) ∙ ap capped (read-weight ps t root weight h less weighs)
          ∙ ap (λ ns. capped (weight_behind (map (weight_at ws) ns) (weight_at ws root))) none;
    }

one-more : (a b w r full : ℕ) → a ≡ capped (r + 1) → b ≡ capped (a + w) → r ≡ capped full → b ≡ capped (1 + w + full)
one-more a b w r full first second is = omega (arith, first, second, is)

-- the phrase of the let is read as q, its weight as w; a and b are the sums
pub behind-more : (v : Vocabulary) (ps qs rs : List Phrase) (t : SizedNodes) (lets : List ℕ) (root j k phrase weight q p w a b : ℕ) → AreTold ps t → j ≡ suc k → k < length lets
    → get_or lets k 0 < length t.phrases.items → q ≡ get_or t.phrases.items (get_or lets k 0) q → w ≡ get_or t.weights.items (get_or lets k 0) w
    → IsBehind v ps qs t lets root j phrase weight
    → Tells qs rs (list_of (a_word (codes ":let") ∷ a_word (v.let_name k) ∷ phrase_at qs q ∷ phrase_at qs phrase ∷ [])) p
    → a ≡ capped (weight + 1) → b ≡ capped (a + w)
    → IsBehind v ps rs t lets root k p b
behind-more v ps qs rs t lets root j k phrase weight q p w a b h next less low is weighs before tells first second =
    let ws = t.weights.items in
    let ts = phrases_in ps t in
    let n = get_or lets k 0 in
    let old = subst (λ x. IsBehind v ps qs t lets root x phrase weight) next before in
    let part = same-phrase ps qs q old.grows (read-there ps t n q h.there low is) ∙ read-phrase ps t n q low is in
    let rest = told_behind v (suc k) (map (phrase_at ts) (drop (suc k) lets)) (phrase_at ts root) in
    let full = weight_behind (map (weight_at ws) (drop (suc k) lets)) (weight_at ws root) in
    let own = read-weight ps t n w h low weighs in
    let all = sym (drop-cons lets k 0 less) in
    record {
      grows = grows-on ps qs rs old.grows tells.grows;
      there = tells.there;
      is =
          tells.is
          ∙ ap (λ x. list_of (a_word (codes ":let") ∷ a_word (v.let_name k) ∷ x ∷ phrase_at qs phrase ∷ [])) part
          ∙ ap (λ x. list_of (a_word (codes ":let") ∷ a_word (v.let_name k) ∷ phrase_at ts n ∷ x ∷ [])) old.is
          ∙ ap (λ ns. told_behind v k (map (phrase_at ts) ns) (phrase_at ts root)) all;
      weighs =
          one-more a b w weight full first second old.weighs ∙ ap (λ x. capped (1 + x + full)) own
          ∙ ap (λ ns. capped (weight_behind (map (weight_at ws) ns) (weight_at ws root))) all;
    }
