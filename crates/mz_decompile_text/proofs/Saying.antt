-- What is read of phrases, part by part.
use Rattle.std.proofs.Common.{ℕ, ◌≡◌, List, subst}
use Rattle.mz_sexpr.specs.Node.{Node, Nodes, atom, list, no_nodes, node}
use Rattle.mz_decompile_text.specs.Phrases.{Phrase, Phrases, a_word, a_list, no_phrases, one_more, phrase_of, phrases_of}
use Rattle.mz_decompile_text.specs.Laws.{HasAtoms, HaveAtoms}

-- the token is an atom of allowed bytes
abbrev pub IsFit : List ℕ → Type 0
IsFit w = HasAtoms (a_word w)

-- the phrase's tokens are atoms, and each node that is this phrase has P
pub record Says (p : Phrase) (P : Node → Type 0) : Type 0 where
  pub fit : HasAtoms p
  pub read : (n : Node) → phrase_of n ≡ p → P n

pub record AllSay (ps : Phrases) (P : Nodes → Type 0) : Type 0 where
  pub fit : HaveAtoms ps
  pub read : (ns : Nodes) → phrases_of ns ≡ ps → P ns

pub a-word : (w : List ℕ) (P : Node → Type 0) → IsFit w → ((at : ℕ) → P (atom at w)) → Says (a_word w) P
a-word w P fit each = record { fit = fit; read = go }
  where
    go : (n : Node) → phrase_of n ≡ a_word w → P n
    go (atom at u) is = let same : a_word u ≡ a_word w = is in let e : w ≡ u = cc in subst (λ x. P (atom at x)) e (each at)
    go (list at ns) is = let other : a_list (phrases_of ns) ≡ a_word w = is in absurd cc

pub a-list : {ps : Phrases} {P : Node → Type 0} → AllSay ps (λ ns. (at : ℕ) → P (list at ns)) → Says (a_list ps) P
a-list {ps} {P} all = record { fit = all.fit; read = go }
  where
    go : (n : Node) → phrase_of n ≡ a_list ps → P n
    go (atom at u) is = let other : a_word u ≡ a_list ps = is in absurd cc
    go (list at ns) is = let same : a_list (phrases_of ns) ≡ a_list ps = is in let e : phrases_of ns ≡ ps = cc in all.read ns e at

-- what is read of the first, and then what is read of the others
pub take : {p : Phrase} {ps : Phrases} {P : Node → Type 0} {Q : Nodes → Type 0} → Says p P → AllSay ps (λ ns. (n : Node) → P n → Q (node n ns)) → AllSay (one_more p ps) Q
take {p} {ps} {P} {Q} one all = record { fit = (one.fit, all.fit); read = go }
  where
    go : (ns : Nodes) → phrases_of ns ≡ one_more p ps → Q ns
    go no_nodes is = let other : no_phrases ≡ one_more p ps = is in absurd cc
    go (node n ns) is =
        let same : one_more (phrase_of n) (phrases_of ns) ≡ one_more p ps = is in
        let e : phrase_of n ≡ p = cc in
        let f : phrases_of ns ≡ ps = cc in
        all.read ns f n (one.read n e)

-- the same where the first is a token
pub key : (w : List ℕ) {ps : Phrases} {Q : Nodes → Type 0} → IsFit w → AllSay ps (λ ns. (at : ℕ) → Q (node (atom at w) ns)) → AllSay (one_more (a_word w) ps) Q
key w {ps} {Q} fit all = record { fit = (fit, all.fit); read = go }
  where
    go : (ns : Nodes) → phrases_of ns ≡ one_more (a_word w) ps → Q ns
    go no_nodes is = let other : no_phrases ≡ one_more (a_word w) ps = is in absurd cc
    go (node (list at ms) ns) is = let other : one_more (a_list (phrases_of ms)) (phrases_of ns) ≡ one_more (a_word w) ps = is in absurd cc
    go (node (atom at u) ns) is =
        let same : one_more (a_word u) (phrases_of ns) ≡ one_more (a_word w) ps = is in
        let e : w ≡ u = cc in
        let f : phrases_of ns ≡ ps = cc in
        subst (λ x. Q (node (atom at x) ns)) e (all.read ns f at)

pub done : {Q : Nodes → Type 0} → Q no_nodes → AllSay no_phrases Q
done {Q} is = record { fit = tt; read = go }
  where
    go : (ns : Nodes) → phrases_of ns ≡ no_phrases → Q ns
    go no_nodes e = is
    go (node n ns) e = let other : one_more (phrase_of n) (phrases_of ns) ≡ no_phrases = e in absurd cc

pub so : {p : Phrase} {P Q : Node → Type 0} → Says p P → ((n : Node) → P n → Q n) → Says p Q
so one then_ = record { fit = one.fit; read = λ n is. then_ n (one.read n is) }

pub all-so : {ps : Phrases} {P Q : Nodes → Type 0} → AllSay ps P → ((ns : Nodes) → P ns → Q ns) → AllSay ps Q
all-so all then_ = record { fit = all.fit; read = λ ns is. then_ ns (all.read ns is) }
