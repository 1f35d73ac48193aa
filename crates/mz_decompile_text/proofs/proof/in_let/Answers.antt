use Rattle.std.proofs.Common.{◌<◌, ℕ, List, [], ◌∷◌, length, codes, refl, arith}
use Rattle.mz_decompile_text.specs.Phrases.{Phrase, a_word}
use Rattle.mz_decompile_text.specs.Phrasing.{list_of}
use Rattle.mz_decompile_text.specs.Naming.{vocabulary_by}
use Rattle.mz_decompile_text.specs.ByNumber.{phrase_at}
use Rattle.mz_decompile_text.specs.Growing.{Tells, Adds}
use Rattle.mz_decompile_text.proofs.LongerProofs.{no-numbers, all-of, adds-one, adds-on, then-chosen, told-whole}
use Rattle.mz_decompile_text.proofs.proof.in_let.Goals as goal

-- the four parts: two tokens, and two phrases that were there
parts-are : (a b d : List Phrase) (i j first rest : ℕ) (u t : Phrase) → Tells a b u i → Tells b d t j → first < length a → rest < length a
    → Adds a d [] (i ∷ j ∷ first ∷ rest ∷ []) (u ∷ t ∷ phrase_at a first ∷ phrase_at a rest ∷ [])
parts-are a b d i j first rest u t one two low last =
    let g = adds-one a b [] (i ∷ []) u i one refl (no-numbers (length a)) in
    let h = adds-on a b d [] (i ∷ []) (i ∷ j ∷ []) (u ∷ []) (t ∷ []) g (adds-one b d (i ∷ []) (i ∷ j ∷ []) t j two refl g.there) in
    let there = all-of (length a) first (rest ∷ []) low (all-of (length a) rest [] last (no-numbers (length a))) in
    then-chosen a d (first ∷ rest ∷ []) [] (i ∷ j ∷ []) (i ∷ j ∷ first ∷ rest ∷ []) (0 ∷ 1 ∷ []) (u ∷ t ∷ []) h there
    (all-of 2 0 (1 ∷ []) (omega arith) (all-of 2 1 [] (omega arith) (no-numbers 2))) refl

pub list-requires : goal.list-requires
list-requires c =
    (
    parts-are c.args.phrases.now c.word.new.phrases c.let_name.new.phrases c.in_ok-head.head c.in_ok-name.name c.args.first c.args.rest
    (a_word (codes ":let")) (a_word ((vocabulary_by c.args.names.now).let_name c.args.k)) c.in_ok-head.ensures c.in_ok-name.ensures c.requires.first c.requires.rest
    ).there

pub returns : goal.returns
returns c =
    let a = c.args.phrases.now in
    let w = a_word ((vocabulary_by c.args.names.now).let_name c.args.k) in
    let ps = a_word (codes ":let") ∷ w ∷ phrase_at a c.args.first ∷ phrase_at a c.args.rest ∷ [] in
    told-whole a c.let_name.new.phrases c.list.new.phrases (c.in_ok-head.head ∷ c.in_ok-name.name ∷ c.args.first ∷ c.args.rest ∷ []) ps (list_of ps) c.list.result
    (
    parts-are a c.word.new.phrases c.let_name.new.phrases c.in_ok-head.head c.in_ok-name.name c.args.first c.args.rest
    (a_word (codes ":let")) w c.in_ok-head.ensures c.in_ok-name.ensures c.requires.first c.requires.rest
    )
    refl c.list.ensures
