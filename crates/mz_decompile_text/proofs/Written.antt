-- The lines of phrases are read as these phrases.
use Rattle.std.proofs.Common.{ℕ, suc, ◌≡◌, ◌≤◌, ◌+◌, List, [], ◌∷◌, ◌++◌, length, refl, sym, ap, ap₂, ◌∙◌, subst, arith, inl, inr, append_assoc, append-nil, length-append, max}
use Rattle.std.specs.Prelude.{All}
use Rattle.std.proofs.lemmas.List.Elements.{All-nil, All-cons, All-append}
use Rattle.mz_sexpr.specs.Node.{Node, Nodes, atom, list, no_nodes, node, node_height, height, depth_limit}
use Rattle.mz_sexpr.specs.Token.{open_at, close, spelled_node, spelled}
use Rattle.mz_sexpr.specs.Grammar.{Piece, space, newline, opening, closing, letters, text_of, IsAllowed, EndsAtom, ArePieces, tokens_of}
use Rattle.mz_decompile_text.specs.Phrases.{Phrase, Phrases, a_word, a_list, no_phrases, one_more, written, all_written, lines_of, phrase_of, phrases_of, depth, depth_of_all}
use Rattle.mz_decompile_text.specs.Laws.{HasAtoms, HaveAtoms, LinesSpellPhrases}

-- ---- pieces

-- those of a phrase, and others behind them
abbrev mutual
  pieces_then : Phrase → List Piece → List Piece
  pieces_then (a_word w) rest = letters w ∷ rest
  pieces_then (a_list ps) rest = opening ∷ all_then ps (closing ∷ rest)

  all_then : Phrases → List Piece → List Piece
  all_then no_phrases rest = rest
  all_then (one_more p no_phrases) rest = pieces_then p rest
  all_then (one_more p (one_more q qs)) rest = pieces_then p (space ∷ all_then (one_more q qs) rest)

abbrev line_pieces : Phrases → List Piece
line_pieces no_phrases = []
line_pieces (one_more p ps) = pieces_then p (newline ∷ line_pieces ps)

mutual
  text-then : (p : Phrase) (rest : List Piece) → text_of (pieces_then p rest) ≡ written p ++ text_of rest
  text-then (a_word w) rest = refl
  text-then (a_list ps) rest = ap (λ bs. 40 ∷ bs) (all-text-then ps (closing ∷ rest) ∙ sym (append_assoc (all_written ps) (41 ∷ []) (text_of rest)))

  all-text-then : (ps : Phrases) (rest : List Piece) → text_of (all_then ps rest) ≡ all_written ps ++ text_of rest
  all-text-then no_phrases rest = refl
  all-text-then (one_more p no_phrases) rest = text-then p rest
  all-text-then (one_more p (one_more q qs)) rest =
      text-then p (space ∷ all_then (one_more q qs) rest)
      ∙ ap (λ bs. written p ++ 32 ∷ bs) (all-text-then (one_more q qs) rest)
      ∙ sym (append_assoc (written p) (32 ∷ all_written (one_more q qs)) (text_of rest))

line-text : (ps : Phrases) → text_of (line_pieces ps) ≡ lines_of ps
line-text no_phrases = refl
line-text (one_more p ps) = text-then p (newline ∷ line_pieces ps) ∙ ap (λ bs. written p ++ 10 ∷ bs) (line-text ps)

-- ---- each is a piece, and as long as it can be

mutual
  whole-then : (p : Phrase) (rest : List Piece) → HasAtoms p → EndsAtom rest → ArePieces rest → ArePieces (pieces_then p rest)
  whole-then (a_word w) rest atoms ends are = (atoms.0, ends, are)
  whole-then (a_list ps) rest atoms ends are = (tt, tt, all-whole-then ps (closing ∷ rest) atoms tt (tt, tt, are))

  all-whole-then : (ps : Phrases) (rest : List Piece) → HaveAtoms ps → EndsAtom rest → ArePieces rest → ArePieces (all_then ps rest)
  all-whole-then no_phrases rest atoms ends are = are
  all-whole-then (one_more p no_phrases) rest atoms ends are = whole-then p rest atoms.0 ends are
  all-whole-then (one_more p (one_more q qs)) rest atoms ends are =
      whole-then p (space ∷ all_then (one_more q qs) rest) atoms.0 tt (tt, tt, all-whole-then (one_more q qs) rest atoms.1 ends are)

lines-whole : (ps : Phrases) → HaveAtoms ps → ArePieces (line_pieces ps)
lines-whole no_phrases atoms = tt
lines-whole (one_more p ps) atoms = whole-then p (newline ∷ line_pieces ps) atoms.0 tt (tt, tt, lines-whole ps atoms.1)

-- ---- bytes

then-allowed : (bs : List ℕ) (b : ℕ) (cs : List ℕ) → IsAllowed b → All IsAllowed bs → All IsAllowed cs → All IsAllowed (bs ++ b ∷ cs)
then-allowed bs b cs is all more = All-append IsAllowed bs (b ∷ cs) all (All-cons IsAllowed b cs is more)

mutual
  written-allowed : (p : Phrase) → HasAtoms p → All IsAllowed (written p)
  written-allowed (a_word w) atoms = atoms.1
  written-allowed (a_list ps) atoms =
      then-allowed [] 40 (all_written ps ++ 41 ∷ []) (inl (omega arith, omega arith)) (All-nil IsAllowed)
      (then-allowed (all_written ps) 41 [] (inl (omega arith, omega arith)) (all-allowed ps atoms) (All-nil IsAllowed))

  all-allowed : (ps : Phrases) → HaveAtoms ps → All IsAllowed (all_written ps)
  all-allowed no_phrases atoms = All-nil IsAllowed
  all-allowed (one_more p no_phrases) atoms = written-allowed p atoms.0
  all-allowed (one_more p (one_more q qs)) atoms =
      then-allowed (written p) 32 (all_written (one_more q qs)) (inl (omega arith, omega arith)) (written-allowed p atoms.0) (all-allowed (one_more q qs) atoms.1)

lines-allowed : (ps : Phrases) → HaveAtoms ps → All IsAllowed (lines_of ps)
lines-allowed no_phrases atoms = All-nil IsAllowed
lines-allowed (one_more p ps) atoms = then-allowed (written p) 10 (lines_of ps) (inr refl) (written-allowed p atoms.0) (lines-allowed ps atoms.1)

-- ---- nodes

-- those of phrases that are written from a place on, with one byte behind each
abbrev mutual
  node_of : ℕ → Phrase → Node
  node_of i (a_word w) = atom i w
  node_of i (a_list ps) = list i (nodes_of (i + 1) ps)

  nodes_of : ℕ → Phrases → Nodes
  nodes_of i no_phrases = no_nodes
  nodes_of i (one_more p ps) = node (node_of i p) (nodes_of (i + length (written p) + 1) ps)

enclosed-end : (i : ℕ) (bs : List ℕ) → i + 1 + length bs + 1 ≡ i + length (40 ∷ (bs ++ 41 ∷ []))
enclosed-end i bs = omega (arith, length-append bs (41 ∷ []))

spaced-end : (i : ℕ) (bs cs : List ℕ) → i + length bs + 1 + length cs ≡ i + length (bs ++ 32 ∷ cs)
spaced-end i bs cs = omega (arith, length-append bs (32 ∷ cs))

mutual
  tokens-then : (i : ℕ) (p : Phrase) (rest : List Piece) → tokens_of i (pieces_then p rest) ≡ spelled_node (node_of i p) ++ tokens_of (i + length (written p)) rest
  tokens-then i (a_word w) rest = refl
  tokens-then i (a_list ps) rest =
      let ns : Nodes = nodes_of (i + 1) ps in
      ap (λ ts. open_at i ∷ ts) (
      all-tokens-then (i + 1) ps (closing ∷ rest)
      ∙ ap (λ k. spelled ns ++ close ∷ tokens_of k rest) (enclosed-end i (all_written ps))
      ∙ sym (append_assoc (spelled ns) (close ∷ []) (tokens_of (i + length (written (a_list ps))) rest))
      )

  all-tokens-then : (i : ℕ) (ps : Phrases) (rest : List Piece) → tokens_of i (all_then ps rest) ≡ spelled (nodes_of i ps) ++ tokens_of (i + length (all_written ps)) rest
  all-tokens-then i no_phrases rest = let same : i ≡ i + 0 = omega arith in ap (λ k. tokens_of k rest) same
  all-tokens-then i (one_more p no_phrases) rest =
      tokens-then i p rest ∙ ap (λ ts. ts ++ tokens_of (i + length (written p)) rest) (sym (append-nil (spelled_node (node_of i p))))
  all-tokens-then i (one_more p (one_more q qs)) rest =
      let j : ℕ = i + length (written p) + 1 in
      let ns : Nodes = nodes_of j (one_more q qs) in
      tokens-then i p (space ∷ all_then (one_more q qs) rest)
      ∙ ap (λ ts. spelled_node (node_of i p) ++ ts) (
      all-tokens-then j (one_more q qs) rest ∙ ap (λ k. spelled ns ++ tokens_of k rest) (spaced-end i (written p) (all_written (one_more q qs)))
      )
      ∙ sym (append_assoc (spelled_node (node_of i p)) (spelled ns) (tokens_of (i + length (all_written (one_more p (one_more q qs)))) rest))

line-tokens : (i : ℕ) (ps : Phrases) → tokens_of i (line_pieces ps) ≡ spelled (nodes_of i ps)
line-tokens i no_phrases = refl
line-tokens i (one_more p ps) =
    tokens-then i p (newline ∷ line_pieces ps) ∙ ap (λ ts. spelled_node (node_of i p) ++ ts) (line-tokens (i + length (written p) + 1) ps)

mutual
  phrase-of-node : (i : ℕ) (p : Phrase) → phrase_of (node_of i p) ≡ p
  phrase-of-node i (a_word w) = refl
  phrase-of-node i (a_list ps) = ap a_list (phrases-of-nodes (i + 1) ps)

  phrases-of-nodes : (i : ℕ) (ps : Phrases) → phrases_of (nodes_of i ps) ≡ ps
  phrases-of-nodes i no_phrases = refl
  phrases-of-nodes i (one_more p ps) = ap₂ one_more (phrase-of-node i p) (phrases-of-nodes (i + length (written p) + 1) ps)

mutual
  node-depth : (n : Node) → node_height n ≡ depth (phrase_of n)
  node-depth (atom at w) = refl
  node-depth (list at ns) = ap suc (nodes-depth ns)

  nodes-depth : (ns : Nodes) → height ns ≡ depth_of_all (phrases_of ns)
  nodes-depth no_nodes = refl
  nodes-depth (node n ns) = ap₂ max (node-depth n) (nodes-depth ns)

-- ---- the law

pub lines-spell : LinesSpellPhrases
lines-spell ps atoms low =
    let ns : Nodes = nodes_of 0 ps in
    let low_enough : ℕ → Type 0 = λ d. d ≤ depth_limit in
    let are : phrases_of ns ≡ ps = phrases-of-nodes 0 ps in (
      ns,
      record {
        pieces = line_pieces ps;
        whole = lines-whole ps atoms;
        written = line-text ps;
        allowed = lines-allowed ps atoms;
        nested = line-tokens 0 ps;
        depth = subst low_enough (sym (nodes-depth ns ∙ ap depth_of_all are)) low;
      },
      are,
    )
