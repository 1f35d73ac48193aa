-- Phrases that are there stay the same where more are added.
use Rattle.std.proofs.Common.{◌≡◌, ◌∙◌, ℕ, zero, suc, ◌<◌, ◌≤◌, ◌+◌, All, List, [], ◌∷◌, ◌++◌, length, map, get_or, Result, IfOk, sym, ap, subst, refl, arith}
use Rattle.std.proofs.lemmas.List.{append_assoc, append-nil, length-append, get_or_append_left, get_or-append-add, map-append, get_or-map}
use Rattle.std.proofs.lemmas.List.Elements.{All-append}
use Rattle.std.proofs.lemmas.Result.{IfOk-weaker}
use Rattle.mz_decompile_text.specs.Phrases.{Phrase, a_word, a_list, one_more}
use Rattle.mz_decompile_text.specs.Phrasing.{of_parts, word_list}
use Rattle.mz_decompile_text.specs.ByNumber.{phrase_at, phrases_at, Grows}
use Rattle.mz_decompile_text.specs.Growing.{AreThere, those_at, Tells, Adds, chosen}

pub grows-same : (ps : List Phrase) → Grows ps ps
grows-same ps = ([], sym (append-nil ps))

pub grows-on : (ps qs rs : List Phrase) → Grows ps qs → Grows qs rs → Grows ps rs
grows-on ps qs rs g h = (g.0 ++ h.0, h.1 ∙ ap (λ a. a ++ h.0) g.1 ∙ append_assoc ps g.0 h.0)

pub longer : (ps qs : List Phrase) → Grows ps qs → length ps ≤ length qs
longer ps qs g = let all = ap length g.1 in omega (arith, all, length-append ps g.0)

pub same-phrase : (ps qs : List Phrase) (n : ℕ) → Grows ps qs → n < length ps → phrase_at qs n ≡ phrase_at ps n
same-phrase ps qs n g less = ap (λ xs. phrase_at xs n) g.1 ∙ get_or_append_left ps g.0 (a_word []) n less

-- ---- the first of numbers, and the rest

pub first-there : (k n : ℕ) (ns : List ℕ) → All (λ m. m < k) (n ∷ ns) → n < k
first-there k n ns h = h 0 0 (omega arith)

pub rest-there : (k n : ℕ) (ns : List ℕ) → All (λ m. m < k) (n ∷ ns) → All (λ m. m < k) ns
rest-there k n ns h = λ i d less. h (suc i) d (omega arith)

pub all-of : (k n : ℕ) (ns : List ℕ) → n < k → All (λ m. m < k) ns → All (λ m. m < k) (n ∷ ns)
all-of k n ns one all = All-append (λ m. m < k) (n ∷ []) ns (only-there k n one) all
  where
    only-there : (k n : ℕ) → n < k → All (λ m. m < k) (n ∷ [])
    only-there k n one zero d less = one
    only-there k n one (suc i) d less = absurd (omega arith)

pub no-numbers : (k : ℕ) → All (λ m. m < k) []
no-numbers k = λ i d less. absurd (omega arith)

pub still-there : (ps qs : List Phrase) (ns : List ℕ) → Grows ps qs → AreThere ps ns → AreThere qs ns
still-there ps qs ns g h = λ i d less. let low = h i d less in let more = longer ps qs g in omega arith

pub same-phrases : (ps qs : List Phrase) (ns : List ℕ) → Grows ps qs → AreThere ps ns → those_at qs ns ≡ those_at ps ns
same-phrases ps qs [] g h = refl
same-phrases ps qs (n ∷ ns) g h =
    ap (λ x. x ∷ those_at qs ns) (same-phrase ps qs n g (first-there (length ps) n ns h))
    ∙ ap (λ xs. phrase_at ps n ∷ xs) (same-phrases ps qs ns g (rest-there (length ps) n ns h))

pub as-parts : (ps : List Phrase) (ns : List ℕ) → of_parts (those_at ps ns) ≡ phrases_at ps ns
as-parts ps [] = refl
as-parts ps (n ∷ ns) = ap (one_more (phrase_at ps n)) (as-parts ps ns)

-- ---- what stands at places of numbers

pub chosen-phrase : (ps : List Phrase) (told : List ℕ) (n : ℕ) → n < length told → phrase_at ps (get_or told n 0) ≡ phrase_at (those_at ps told) n
chosen-phrase ps told n less = sym (get_or-map (phrase_at ps) told n 0 (a_word []) less)

pub chosen-phrases : (ps : List Phrase) (told ns : List ℕ) → All (λ n. n < length told) ns → those_at ps (chosen told ns) ≡ those_at (those_at ps told) ns
chosen-phrases ps told [] h = refl
chosen-phrases ps told (n ∷ ns) h =
    ap (λ x. x ∷ those_at ps (chosen told ns)) (chosen-phrase ps told n (first-there (length told) n ns h))
    ∙ ap (λ xs. phrase_at (those_at ps told) n ∷ xs) (chosen-phrases ps told ns (rest-there (length told) n ns h))

pub chosen-there : (ps : List Phrase) (told ns : List ℕ) → AreThere ps told → All (λ n. n < length told) ns → AreThere ps (chosen told ns)
chosen-there ps told [] there h = no-numbers (length ps)
chosen-there ps told (n ∷ ns) there h =
    all-of (length ps) (get_or told n 0) (chosen told ns) (there n 0 (first-there (length told) n ns h))
    (chosen-there ps told ns there (rest-there (length told) n ns h))

-- ---- parts, one after another

pub adds-on : (a b c : List Phrase) (ns ms ls : List ℕ) (ps qs : List Phrase) → Adds a b ns ms ps → Adds b c ms ls qs → Adds a c ns ls (ps ++ qs)
adds-on a b c ns ms ls ps qs g h = record {
  grows = grows-on a b c g.grows h.grows;
  there = h.there;
  are = h.are ∙ ap (λ x. x ++ qs) g.are ∙ append_assoc (those_at a ns) ps qs;
}

pub adds-none : (a : List Phrase) (ns : List ℕ) → AreThere a ns → Adds a a ns ns []
adds-none a ns there = record { grows = grows-same a; there = there; are = sym (append-nil (those_at a ns)) }

-- the number of one that is reported
pub adds-one : (a b : List Phrase) (ns ms : List ℕ) (p : Phrase) (n : ℕ) → Tells a b p n → ms ≡ ns ++ n ∷ [] → AreThere a ns → Adds a b ns ms (p ∷ [])
adds-one a b ns ms p n t is there = record {
  grows = t.grows;
  there =
      subst (AreThere b) (sym is)
      (All-append (λ m. m < length b) ns (n ∷ []) (still-there a b ns t.grows there) (all-of (length b) n [] t.there (no-numbers (length b))));
  are =
      ap (those_at b) is ∙ map-append (phrase_at b) ns (n ∷ []) ∙ ap (λ x. x ++ phrase_at b n ∷ []) (same-phrases a b ns t.grows there)
      ∙ ap (λ p. those_at a ns ++ p ∷ []) t.is;
}

-- the numbers that stand at places of those that are reported
pub adds-chosen : (a : List Phrase) (told ns ms nodes : List ℕ) → ms ≡ ns ++ chosen told nodes → AreThere a ns → AreThere a told → All (λ n. n < length told) nodes
    → Adds a a ns ms (those_at (those_at a told) nodes)
adds-chosen a told ns ms nodes is there all low = record {
  grows = grows-same a;
  there = subst (AreThere a) (sym is) (All-append (λ m. m < length a) ns (chosen told nodes) there (chosen-there a told nodes all low));
  are = ap (those_at a) is ∙ map-append (phrase_at a) ns (chosen told nodes) ∙ ap (λ x. those_at a ns ++ x) (chosen-phrases a told nodes low);
}

-- the list of all
pub tells-list : (a b c : List Phrase) (ms : List ℕ) (ps : List Phrase) (n : ℕ) → Adds a b [] ms ps → Tells b c (a_list (phrases_at b ms)) n
    → Tells a c (a_list (of_parts ps)) n
tells-list a b c ms ps n g t = record {
  grows = grows-on a b c g.grows t.grows;
  there = t.there;
  is = t.is ∙ ap a_list (sym (as-parts b ms) ∙ ap of_parts g.are);
}

-- what was asked stays so
pub tells-as : (a b : List Phrase) (p q : Phrase) (n : ℕ) → Tells a b p n → p ≡ q → Tells a b q n
tells-as a b p q n t is = subst (λ x. Tells a b x n) is t

-- ---- parts of numbers

pub all-left : (k : ℕ) (xs ys : List ℕ) → All (λ m. m < k) (xs ++ ys) → All (λ m. m < k) xs
all-left k xs ys h = λ i d less.
    let more : i < length (xs ++ ys) = omega (arith, length-append xs ys) in
    subst (λ m. m < k) (get_or_append_left xs ys d i less) (h i d more)

pub all-right : (k : ℕ) (xs ys : List ℕ) → All (λ m. m < k) (xs ++ ys) → All (λ m. m < k) ys
all-right k xs ys h = λ i d less.
    let more : length xs + i < length (xs ++ ys) = omega (arith, length-append xs ys) in
    subst (λ m. m < k) (get_or-append-add xs ys i d) (h (length xs + i) d more)

-- ---- what a list of parts says

pub empty-there : (ps : List Phrase) (ns : List ℕ) → ns ≡ [] → AreThere ps ns
empty-there ps ns none = subst (AreThere ps) (sym none) (no-numbers (length ps))

pub from-none : (a b : List Phrase) (ns ms : List ℕ) (ps : List Phrase) → ns ≡ [] → Adds a b ns ms ps → Adds a b [] ms ps
from-none a b ns ms ps none h = subst (λ x. Adds a b x ms ps) none h

-- the phrases of nodes, which were reported before the first part
pub then-chosen : (a b : List Phrase) (told ns ms ls nodes : List ℕ) (ps : List Phrase) → Adds a b ns ms ps → AreThere a told → All (λ n. n < length told) nodes
    → ls ≡ ms ++ chosen told nodes → Adds a b ns ls (ps ++ those_at (those_at a told) nodes)
then-chosen a b told ns ms ls nodes ps g there low is =
    let here = adds-chosen b told ms ls nodes is g.there (still-there a b told g.grows there) low in
    adds-on a b b ns ms ls ps (those_at (those_at a told) nodes) g
    (subst (λ qs. Adds b b ms ls (those_at qs nodes)) (same-phrases a b told g.grows there) here)

-- and a list of such
pub then-list : (a b c : List Phrase) (told ns ms ls nodes : List ℕ) (ps : List Phrase) → Adds a b ns ms ps → AreThere a told
    → Adds b c ms ls (a_list (phrases_at (those_at b told) nodes) ∷ []) → Adds a c ns ls (ps ++ a_list (phrases_at (those_at a told) nodes) ∷ [])
then-list a b c told ns ms ls nodes ps g there h =
    adds-on a b c ns ms ls ps (a_list (phrases_at (those_at a told) nodes) ∷ []) g
    (subst (λ qs. Adds b c ms ls (a_list (phrases_at qs nodes) ∷ [])) (same-phrases a b told g.grows there) h)

-- of the phrases of nodes alone
pub chosen-alone : (a : List Phrase) (told none ms nodes : List ℕ) → none ≡ [] → ms ≡ none ++ chosen told nodes → AreThere a told → All (λ n. n < length told) nodes
    → Adds a a [] ms (those_at (those_at a told) nodes)
chosen-alone a told none ms nodes empty is there low =
    adds-chosen a told [] ms nodes (is ∙ ap (λ xs. xs ++ chosen told nodes) empty) (no-numbers (length a)) there low

-- the list that is reported of them
pub told-whole : {E : Type 0} (a b c : List Phrase) (ls : List ℕ) (ps : List Phrase) (p : Phrase) (r : Result ℕ E) → Adds a b [] ls ps → a_list (of_parts ps) ≡ p
    → IfOk r (λ n. Tells b c (a_list (phrases_at b ls)) n) → IfOk r (λ n. Tells a c p n)
told-whole a b c ls ps p r g is h =
    IfOk-weaker r (λ n. Tells b c (a_list (phrases_at b ls)) n) (λ n. Tells a c p n) (λ n t. tells-as a c (a_list (of_parts ps)) p n (tells-list a b c ls ps n g t) is) h

pub words-are : (f : ℕ → List ℕ) (xs : List ℕ) → of_parts (map (λ x. a_word (f x)) xs) ≡ word_list (map f xs)
words-are f [] = refl
words-are f (x ∷ xs) = ap (one_more (a_word (f x))) (words-are f xs)
