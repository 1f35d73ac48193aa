-- One more node.
use Rattle.std.proofs.Common.{◌≡◌, ◌∙◌, ℕ, ◌+◌, ◌<◌, ◌≤◌, ◌^◌, List, [], ◌∷◌, ◌++◌, length, slice_range, All, sym, ap, subst, refl, arith}
use Rattle.std.proofs.lemmas.List.{length-append, append-nil}
use Rattle.mz_decompile_text.specs.Phrases.{Phrase, a_word, a_list, written, depth_of_all}
use Rattle.mz_decompile_text.specs.Measures.{capped, word_count}
use Rattle.mz_decompile_text.specs.ByNumber.{phrases_at}
use Rattle.mz_decompile_text.specs.Kept.{phrase_with, grown, phrases_of, IsWithin, IsMeasured, AreKept}
use Rattle.mz_decompile_text.specs.declared.node.Node.{Node}
use Rattle.mz_decompile_text.specs.declared.node.Form.TheVariants.{Word, Parts}
use Rattle.mz_decompile_text.proofs.Longer.{range-added, grown-longer, kept-longer}

grown-append : (b p : List ℕ) (ps : List Phrase) (ns : List Node) (n : Node) → grown b p ps (ns ++ n ∷ []) ≡ grown b p ps ns ++ phrase_with b p (grown b p ps ns) n.form ∷ []
grown-append b p ps [] n = refl
grown-append b p ps (m ∷ ns) n = grown-append b p (ps ++ phrase_with b p ps m.form ∷ []) ns n

kept-append : (b p : List ℕ) (ps : List Phrase) (ns : List Node) (n : Node) → AreKept b p ps ns
    → IsWithin b p (length (grown b p ps ns)) n.form → IsMeasured (length (grown b p ps ns)) (phrase_with b p (grown b p ps ns) n.form) n → AreKept b p ps (ns ++ n ∷ [])
kept-append b p ps [] n h within measured = (within, measured, tt)
kept-append b p ps (m ∷ ns) n h within measured = (h.0, h.1, kept-append b p (ps ++ phrase_with b p ps m.form ∷ []) ns n h.2 within measured)

pub grown-length : (b p : List ℕ) (ps : List Phrase) (ns : List Node) → length (grown b p ps ns) ≡ length ps + length ns
grown-length b p ps [] = omega arith
grown-length b p ps (n ∷ ns) =
    omega (arith, grown-length b p (ps ++ phrase_with b p ps n.form ∷ []) ns, length-append ps (phrase_with b p ps n.form ∷ []))

-- as many phrases as nodes
pub many : (b p : List ℕ) (ns : List Node) (ps : List Phrase) → phrases_of b p ns ≡ ps → length ns ≡ length ps
many b p ns ps is = let count = grown-length b p [] ns in let same = ap length is in omega (arith, count, same)

-- what bytes and parts are kept for a node that finds no memory changes nothing
pub same-view : (b w p v b2 p2 : List ℕ) (ns ns2 : List Node) (ps : List Phrase) → AreKept b p [] ns → phrases_of b p ns ≡ ps
    → b2 ≡ b ++ w → p2 ≡ p ++ v → ns2 ≡ ns → phrases_of b2 p2 ns2 ≡ ps
same-view b w p v b2 p2 ns ns2 ps kept is bytes parts nodes = rw (bytes, parts, nodes) (grown-longer b w p v [] ns kept ∙ is)

pub same-kept : (b w p v b2 p2 : List ℕ) (ns ns2 : List Node) → AreKept b p [] ns → b2 ≡ b ++ w → p2 ≡ p ++ v → ns2 ≡ ns → AreKept b2 p2 [] ns2
same-kept b w p v b2 p2 ns ns2 kept bytes parts nodes = rw (bytes, parts, nodes) (kept-longer b w p v [] ns kept)

pub add-view : (b w p v b2 p2 : List ℕ) (ns ns2 : List Node) (n : Node) (ps : List Phrase) → AreKept b p [] ns → phrases_of b p ns ≡ ps
    → b2 ≡ b ++ w → p2 ≡ p ++ v → ns2 ≡ ns ++ n ∷ [] → phrases_of b2 p2 ns2 ≡ ps ++ phrase_with (b ++ w) (p ++ v) ps n.form ∷ []
add-view b w p v b2 p2 ns ns2 n ps kept is bytes parts nodes =
    rw (bytes, parts, nodes)
    (
    grown-append (b ++ w) (p ++ v) [] ns n
    ∙ ap (λ qs. qs ++ phrase_with (b ++ w) (p ++ v) qs n.form ∷ []) (grown-longer b w p v [] ns kept ∙ is)
    )

pub add-kept : (b w p v b2 p2 : List ℕ) (ns ns2 : List Node) (n : Node) (ps : List Phrase) → AreKept b p [] ns → phrases_of b p ns ≡ ps
    → b2 ≡ b ++ w → p2 ≡ p ++ v → ns2 ≡ ns ++ n ∷ []
    → IsWithin (b ++ w) (p ++ v) (length ps) n.form → IsMeasured (length ps) (phrase_with (b ++ w) (p ++ v) ps n.form) n → AreKept b2 p2 [] ns2
add-kept b w p v b2 p2 ns ns2 n ps kept is bytes parts nodes within measured =
    let same = sym (grown-longer b w p v [] ns kept ∙ is) in
    rw (bytes, parts, nodes)
    (
    kept-append (b ++ w) (p ++ v) [] ns n (kept-longer b w p v [] ns kept)
    (subst (λ qs. IsWithin (b ++ w) (p ++ v) (length qs) n.form) same within)
    (subst (λ qs. IsMeasured (length qs) (phrase_with (b ++ w) (p ++ v) qs n.form) n) same measured)
    )

-- ---- a token

abbrev pub word_node : ℕ → ℕ → ℕ → Node
word_node from to len = record { form = Word from to; text_len = len; words = 1; depth = 0 }

pub word-measured : (count from to : ℕ) (w : List ℕ) (x : List ℕ) → x ≡ w → length w < 2 ^ 64 → IsMeasured count (a_word x) (word_node from to (length w))
word-measured count from to w x is small = let same = ap length is in record { text_len = omega arith; words = omega arith; depth = refl; low = omega arith }

pub word-view : (b w p b2 : List ℕ) (ns ns2 : List Node) (ps : List Phrase) (from to : ℕ) → AreKept b p [] ns → phrases_of b p ns ≡ ps
    → from ≡ length b → to ≡ length (b ++ w) → b2 ≡ b ++ w → ns2 ≡ ns ++ word_node from to (length w) ∷ [] → phrases_of b2 p ns2 ≡ ps ++ a_word w ∷ []
word-view b w p b2 ns ns2 ps from to kept is begin end bytes nodes =
    add-view b w p [] b2 p ns ns2 (word_node from to (length w)) ps kept is bytes (sym (append-nil p)) nodes
    ∙ ap (λ x. ps ++ a_word x ∷ []) (range-added b w from to begin end)

pub word-kept : (b w p b2 : List ℕ) (ns ns2 : List Node) (ps : List Phrase) (from to : ℕ) → AreKept b p [] ns → phrases_of b p ns ≡ ps
    → from ≡ length b → to ≡ length (b ++ w) → length w < 2 ^ 64 → b2 ≡ b ++ w → ns2 ≡ ns ++ word_node from to (length w) ∷ [] → AreKept b2 p [] ns2
word-kept b w p b2 ns ns2 ps from to kept is begin end small bytes nodes =
    let long = length-append b w in
    add-kept b w p [] b2 p ns ns2 (word_node from to (length w)) ps kept is bytes (sym (append-nil p)) nodes
    (omega arith, omega arith)
    (word-measured (length ps) from to w (slice_range (b ++ w) from to) (range-added b w from to begin end) small)

-- ---- a list

abbrev pub list_node : ℕ → ℕ → ℕ → ℕ → ℕ → Node
list_node from to len words deepest = record { form = Parts from to; text_len = len; words = words; depth = deepest + 1 }

pub record AreMeasured (ps : List Phrase) (is : List ℕ) (len count deepest : ℕ) : Type 0 where
  pub text_len : len ≡ capped (length (written (a_list (phrases_at ps is))))
  pub words : count ≡ capped (word_count (a_list (phrases_at ps is)))
  pub depth : deepest ≡ depth_of_all (phrases_at ps is)
  pub low : deepest ≤ length ps

list-measured : (ps : List Phrase) (is : List ℕ) (from to len words deepest : ℕ) → AreMeasured ps is len words deepest
    → IsMeasured (length ps) (a_list (phrases_at ps is)) (list_node from to len words deepest)
list-measured ps is from to len words deepest h = record { text_len = h.text_len; words = h.words; depth = let d = h.depth in omega arith; low = let l = h.low in omega arith }

pub list-view : (b p is p2 : List ℕ) (ns ns2 : List Node) (ps : List Phrase) (from to len words deepest : ℕ) → AreKept b p [] ns → phrases_of b p ns ≡ ps
    → from ≡ length p → to ≡ length (p ++ is) → p2 ≡ p ++ is → ns2 ≡ ns ++ list_node from to len words deepest ∷ []
    → phrases_of b p2 ns2 ≡ ps ++ a_list (phrases_at ps is) ∷ []
list-view b p is p2 ns ns2 ps from to len words deepest kept same begin end parts nodes =
    add-view b [] p is b p2 ns ns2 (list_node from to len words deepest) ps kept same (sym (append-nil b)) parts nodes
    ∙ ap (λ x. ps ++ a_list (phrases_at ps x) ∷ []) (range-added p is from to begin end)

pub list-kept : (b p is p2 : List ℕ) (ns ns2 : List Node) (ps : List Phrase) (from to len words deepest : ℕ) → AreKept b p [] ns → phrases_of b p ns ≡ ps
    → from ≡ length p → to ≡ length (p ++ is) → All (λ i. i < length ps) is → AreMeasured ps is len words deepest
    → p2 ≡ p ++ is → ns2 ≡ ns ++ list_node from to len words deepest ∷ [] → AreKept b p2 [] ns2
list-kept b p is p2 ns ns2 ps from to len words deepest kept same begin end below measured parts nodes =
    let long = length-append p is in
    let added = sym (range-added p is from to begin end) in
    add-kept b [] p is b p2 ns ns2 (list_node from to len words deepest) ps kept same (sym (append-nil b)) parts nodes
    (omega arith, omega arith, subst (All (λ i. i < length ps)) added below)
    (subst (λ x. IsMeasured (length ps) (a_list (phrases_at ps x)) (list_node from to len words deepest)) added (list-measured ps is from to len words deepest measured))
