-- Phrases that are added one after another.
use Rattle.std.proofs.Common.{◌≡◌, ◌∙◌, ◌<◌, ℕ, zero, suc, All, List, [], ◌∷◌, ◌++◌, length, get_or, refl, sym, ap, subst, arith, append_assoc, length-append}
use Rattle.std.proofs.lemmas.List.{append-nil, get_or_append_left, get_or_at}
use Rattle.mz_decompile_text.specs.Phrases.{Phrase, Phrases, a_word, a_list, no_phrases, one_more}
use Rattle.mz_decompile_text.specs.Phrasing.{of_parts, list_of, followed_by}
use Rattle.mz_decompile_text.specs.ByNumber.{phrase_at, phrases_at, Grows}
use Rattle.mz_decompile_text.specs.Rows.{IsPhrase}
use Rattle.mz_decompile_text.proofs.Offered.{grows-on}
use Rattle.mz_decompile.specs.Adding.{ArePhrases, Adds, AreAdded}

-- ---- what was there stays

stays : (ps more : List Phrase) (n : ℕ) (q : Phrase) → IsPhrase ps n q → IsPhrase (ps ++ more) n q
stays ps more n q (low, is) = (omega (arith, low, length-append ps more), get_or_append_left ps more (a_word []) n low ∙ is)

pub phrase-grows : (ps new : List Phrase) (n : ℕ) (q : Phrase) → Grows ps new → IsPhrase ps n q → IsPhrase new n q
phrase-grows ps new n q (more, e) is = subst (λ xs. IsPhrase xs n q) (sym e) (stays ps more n q is)

pub phrases-grow : (ps new : List Phrase) (ns : List ℕ) (qs : List Phrase) → Grows ps new → ArePhrases ps ns qs → ArePhrases new ns qs
phrases-grow ps new [] [] grows are = tt
phrases-grow ps new [] (q ∷ qs) grows are = absurd are
phrases-grow ps new (n ∷ ns) [] grows are = absurd are
phrases-grow ps new (n ∷ ns) (q ∷ qs) grows (is, are) = (phrase-grows ps new n q grows is, phrases-grow ps new ns qs grows are)

phrases-append : (ps : List Phrase) (ns ms : List ℕ) (qs rs : List Phrase) → ArePhrases ps ns qs → ArePhrases ps ms rs → ArePhrases ps (ns ++ ms) (qs ++ rs)
phrases-append ps [] ms [] rs are more = more
phrases-append ps [] ms (q ∷ qs) rs are more = absurd are
phrases-append ps (n ∷ ns) ms [] rs are more = absurd are
phrases-append ps (n ∷ ns) ms (q ∷ qs) rs (is, are) more = (is, phrases-append ps ns ms qs rs are more)

-- ---- one after another

pub adds-none : (ps : List Phrase) (ns : List ℕ) → Adds ps ps ns ns []
adds-none ps ns = record { grows = ([], sym (append-nil ps)); fresh = []; numbers = sym (append-nil ns); phrases = tt }

pub adds-grown : (ps new : List Phrase) (ns : List ℕ) → Grows ps new → Adds ps new ns ns []
adds-grown ps new ns grows = record { grows = grows; fresh = []; numbers = sym (append-nil ns); phrases = tt }

pub adds-there : (ps : List Phrase) (ns ms : List ℕ) (n : ℕ) (q : Phrase) → IsPhrase ps n q → ms ≡ ns ++ n ∷ [] → Adds ps ps ns ms (q ∷ [])
adds-there ps ns ms n q is numbers = record { grows = ([], sym (append-nil ps)); fresh = n ∷ []; numbers = numbers; phrases = (is, tt) }

pub adds-then : (a b c : List Phrase) (l m n : List ℕ) (qs rs : List Phrase) → Adds a b l m qs → Adds b c m n rs → Adds a c l n (qs ++ rs)
adds-then a b c l m n qs rs first second = record {
  grows = grows-on a b c first.grows second.grows;
  fresh = first.fresh ++ second.fresh;
  numbers = second.numbers ∙ ap (λ x. x ++ second.fresh) first.numbers ∙ append_assoc l first.fresh second.fresh;
  phrases = phrases-append c first.fresh second.fresh qs rs (phrases-grow b c first.fresh qs second.grows first.phrases) second.phrases;
}

-- ---- whole lists

listed : (ps : List Phrase) (ns : List ℕ) (qs : List Phrase) → ArePhrases ps ns qs → phrases_at ps ns ≡ of_parts qs
listed ps [] [] are = refl
listed ps [] (q ∷ qs) are = absurd are
listed ps (n ∷ ns) [] are = absurd are
listed ps (n ∷ ns) (q ∷ qs) (is, are) = ap (λ x. one_more x (phrases_at ps ns)) is.1 ∙ ap (one_more q) (listed ps ns qs are)

there-at : (ps : List Phrase) (ns : List ℕ) (qs : List Phrase) → ArePhrases ps ns qs → (k d : ℕ) → k < length ns → get_or ns k d < length ps
there-at ps [] [] are k d less = absurd (omega (arith, less))
there-at ps [] (q ∷ qs) are k d less = absurd are
there-at ps (n ∷ ns) [] are k d less = absurd are
there-at ps (n ∷ ns) (q ∷ qs) (is, are) zero d less = is.0
there-at ps (n ∷ ns) (q ∷ qs) (is, are) (suc k) d less = there-at ps ns qs are k d (omega (arith, less))

all-of : (a b : List Phrase) (ns : List ℕ) (qs : List Phrase) → Adds a b [] ns qs → ArePhrases b ns qs
all-of a b ns qs adds = subst (λ xs. ArePhrases b xs qs) (sym adds.numbers) adds.phrases

-- the numbers of what was added to nothing are those of phrases that are there
pub there : (a b : List Phrase) (xs ns : List ℕ) (qs : List Phrase) → xs ≡ ns → Adds a b [] ns qs → All (λ n. n < length b) xs
there a b xs ns qs same adds = subst (λ ys. All (λ n. n < length b) ys) (sym same) (there-at b ns qs (all-of a b ns qs adds))

-- these are put into a list
pub closed : (a b c : List Phrase) (xs ns l m : List ℕ) (qs : List Phrase) → xs ≡ ns → Adds a b [] ns qs → Adds b c l m (a_list (phrases_at b xs) ∷ []) → Adds a c l m (list_of qs ∷ [])
closed a b c xs ns l m qs same adds last =
    let is : a_list (phrases_at b xs) ≡ list_of qs = ap (λ ys. a_list (phrases_at b ys)) same ∙ ap a_list (listed b ns qs (all-of a b ns qs adds)) in
    let list = subst (λ x. Adds b c l m (x ∷ [])) is last in record {
      grows = grows-on a b c adds.grows list.grows;
      fresh = list.fresh;
      numbers = list.numbers;
      phrases = list.phrases;
    }

pub begun : (a b : List Phrase) (ns ms : List ℕ) (qs : List Phrase) → ns ≡ [] → Adds a b ns ms qs → Adds a b [] ms qs
begun a b ns ms qs none adds = subst (λ xs. Adds a b xs ms qs) none adds

pub word-is : (a b : List Phrase) (l m : List ℕ) (w other : List ℕ) → w ≡ other → Adds a b l m (a_word w ∷ []) → Adds a b l m (a_word other ∷ [])
word-is a b l m w other same adds = subst (λ x. Adds a b l m (a_word x ∷ [])) same adds

-- a name, and a phrase that was there
pub named-one : (a b : List Phrase) (l m n : List ℕ) (k : ℕ) (q : Phrase) → l ≡ [] → k < length a → Adds a b l m (q ∷ []) → n ≡ m ++ k ∷ [] → Adds a b [] n (q ∷ phrase_at a k ∷ [])
named-one a b l m n k q none low adds numbers =
    adds-then a b b [] m n (q ∷ []) (phrase_at a k ∷ []) (begun a b l m (q ∷ []) none adds)
    (adds-there b m n k (phrase_at a k) (phrase-grows a b k (phrase_at a k) adds.grows (low, refl)) numbers)

-- ---- along a list

followed-append : (qs rs : List Phrase) (rest : Phrases) → followed_by (qs ++ rs) rest ≡ followed_by qs (followed_by rs rest)
followed-append [] rs rest = refl
followed-append (q ∷ qs) rs rest = ap (one_more q) (followed-append qs rs rest)

followed-last : (qs : List Phrase) → followed_by qs no_phrases ≡ of_parts qs
followed-last [] = refl
followed-last (q ∷ qs) = ap (one_more q) (followed-last qs)

pub added-first : (ps : List Phrase) (ns : List ℕ) (whole left : Phrases) → ns ≡ [] → left ≡ whole → AreAdded ps ps ns whole left
added-first ps ns whole left none is = record { parts = []; adds = subst (λ xs. Adds ps ps [] xs []) (sym none) (adds-none ps []); all = is }

pub added-more : (a b c : List Phrase) (ns ms : List ℕ) (whole left rest : Phrases) (qs : List Phrase) → AreAdded a b ns whole left → left ≡ followed_by qs rest
    → Adds b c ns ms qs → AreAdded a c ms whole rest
added-more a b c ns ms whole left rest qs are is adds = record {
  parts = are.parts ++ qs;
  adds = adds-then a b c [] ns ms are.parts qs are.adds adds;
  all = followed-append are.parts qs rest ∙ ap (followed_by are.parts) (sym is) ∙ are.all;
}

pub added-there : (a b : List Phrase) (xs ns : List ℕ) (whole left : Phrases) → xs ≡ ns → AreAdded a b ns whole left → All (λ n. n < length b) xs
added-there a b xs ns whole left same are = there a b xs ns are.parts same are.adds

-- nothing is left, and these are put into a list
pub added-last : (a b c : List Phrase) (xs ns l m : List ℕ) (whole left : Phrases) → xs ≡ ns → AreAdded a b ns whole left → left ≡ no_phrases
    → Adds b c l m (a_list (phrases_at b xs) ∷ []) → Adds a c l m (a_list whole ∷ [])
added-last a b c xs ns l m whole left same are none last =
    let is : of_parts are.parts ≡ whole = sym (followed-last are.parts) ∙ ap (followed_by are.parts) (sym none) ∙ are.all in
    subst (λ xs. Adds a c l m (a_list xs ∷ [])) is (closed a b c xs ns l m are.parts same are.adds last)

-- ---- phrases that were there before

low-grows : (a b : List Phrase) (n : ℕ) → Grows a b → n < length a → n < length b
low-grows a b n (more, e) low = subst (λ xs. n < length xs) (sym e) (omega (arith, low, length-append a more))

pub one-there : (a b : List Phrase) (ns : List ℕ) (i : ℕ) → All (λ n. n < length a) ns → Grows a b → i < length ns → get_or ns i 0 < length b
one-there a b ns i all grows within = low-grows a b (get_or ns i 0) grows (all i 0 within)

-- the list of what was added to nothing is the next phrase
pub told-phrase : (a b new : List Phrase) (xs ns : List ℕ) (n : ℕ) (qs : List Phrase) → xs ≡ ns → Adds a b [] ns qs → n ≡ length b → new ≡ b ++ a_list (phrases_at b xs) ∷ []
    → IsPhrase new n (list_of qs)
told-phrase a b new xs ns n qs same adds number is =
    let list : a_list (phrases_at b xs) ≡ list_of qs = ap (λ ys. a_list (phrases_at b ys)) same ∙ ap a_list (listed b ns qs (all-of a b ns qs adds)) in
    let long = length-append b (a_list (phrases_at b xs) ∷ []) in (
      subst (λ ps. n < length ps) (sym is) (omega (arith, number, long)),
      ap (λ ps. phrase_at ps n) is ∙ get_or_at b (a_list (phrases_at b xs)) [] (a_word []) n (sym number) ∙ list,
    )
