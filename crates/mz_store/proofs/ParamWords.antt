-- The words of parameters, one after another, and the context that they make.
use Rattle.std.proofs.Common.{ℕ, suc, ◌≡◌, ◌<◌, ◌≤◌, ◌+◌, ◌^◌, Bool, true, false, MatchBool, List, [], ◌∷◌, ◌++◌, length, drop, get_or, refl, ap, sym, ◌∙◌, subst, arith, append-nil, append_assoc, add-one, drop-cons, if◌then◌else◌}
use Rattle.std.proofs.lemmas.List.{length-append}
use Rattle.mz_base.proofs.Offered.{length-push}
use Rattle.mz_logic_theory.specs.Words.{word_sort, word_deps, word_bound, binders_from, BitsRightAfter}
use Rattle.mz_logic_theory.specs.declared.word.Word.{Word}
use Rattle.mz_logic_theory.specs.declared.binder.Binder.{Binder}
use Rattle.mz_store.specs.Bits.{bound_vars}
use Rattle.mz_store.specs.Nodes.{binder_after, IsVariableWord}
use Rattle.mz_store.proofs.Places.{bound-push}

pub next-word : (ws : List Word) (i : ℕ) → i < length ws → drop i ws ≡ get_or ws i (record { 0 = 0 }) ∷ drop (i + 1) ws
next-word ws i less = rw (add-one, drop-cons ws i (record { 0 = 0 }) less)

-- one more bound place, or none
many-places : (ctx : List Binder) (b : Binder) → length (bound_vars (ctx ++ b ∷ [])) ≡ length (bound_vars ctx) + (if b.bound then 1 else 0)
many-places ctx b = ap length (bound-push ctx b) ∙ length-append (bound_vars ctx) (if b.bound then length ctx ∷ [] else []) ∙ ap (λ m. length (bound_vars ctx) + m) (one b.bound)
  where
    one : (v : Bool) → length (if v then length ctx ∷ [] else []) ≡ (if v then 1 else 0)
    one true = refl
    one false = refl

first-word : (k deps : ℕ) (bound : Bool) (ws : List Word) → MatchBool bound ((k ≤ 54) × (deps ≡ 2 ^ k) × BitsRightAfter (suc k) ws) ((deps < 2 ^ k) × BitsRightAfter k ws)
    → IsVariableWord k deps bound
first-word k deps true ws (small, is, rest) = (small, is)
first-word k deps false ws (small, rest) = small

later-words : (k deps : ℕ) (bound : Bool) (ws : List Word) → MatchBool bound ((k ≤ 54) × (deps ≡ 2 ^ k) × BitsRightAfter (suc k) ws) ((deps < 2 ^ k) × BitsRightAfter k ws)
    → BitsRightAfter (k + (if bound then 1 else 0)) ws
later-words k deps true ws (small, is, rest) = subst (λ m. BitsRightAfter m ws) (let e : suc k ≡ k + 1 = omega arith in e) rest
later-words k deps false ws (small, rest) = subst (λ m. BitsRightAfter m ws) (let e : k ≡ k + 0 = omega arith in e) rest

pub word-right : (ctx : List Binder) (ws : List Word) (i : ℕ) → i < length ws → BitsRightAfter (length (bound_vars ctx)) (drop i ws)
    → (deps : ℕ) (bound : Bool) → deps ≡ word_deps (get_or ws i (record { 0 = 0 })) → bound ≡ word_bound (get_or ws i (record { 0 = 0 }))
    → IsVariableWord (length (bound_vars ctx)) deps bound
word-right ctx ws i less right deps bound d b =
    subst (λ x. IsVariableWord (length (bound_vars ctx)) x bound) (sym d) (subst (IsVariableWord (length (bound_vars ctx)) (word_deps w)) (sym b)
    (first-word (length (bound_vars ctx)) (word_deps w) (word_bound w) (drop (i + 1) ws)
    (subst (BitsRightAfter (length (bound_vars ctx))) (next-word ws i less) right)))
  where
    w : Word
    w = get_or ws i (record { 0 = 0 })

-- the binder of the variable of a word, after these
abbrev pub binder_by : List Binder → Word → Binder
binder_by ctx w = binder_after ctx (word_sort w) (word_deps w) (word_bound w)

pub rest-right : (ctx ctx' : List Binder) (ws : List Word) (i : ℕ) → i < length ws → BitsRightAfter (length (bound_vars ctx)) (drop i ws)
    → ctx' ≡ ctx ++ binder_by ctx (get_or ws i (record { 0 = 0 })) ∷ [] → BitsRightAfter (length (bound_vars ctx')) (drop (i + 1) ws)
rest-right ctx ctx' ws i less right is =
    subst (λ m. BitsRightAfter m (drop (i + 1) ws)) (sym (ap (λ (bs : List Binder). length (bound_vars bs)) is ∙ many-places ctx (binder_by ctx w)))
    (later-words (length (bound_vars ctx)) (word_deps w) (word_bound w) (drop (i + 1) ws) (subst (BitsRightAfter (length (bound_vars ctx))) (next-word ws i less) right))
  where
    w : Word
    w = get_or ws i (record { 0 = 0 })

-- the context after the variables of these words
abbrev pub context_after : List Binder → List Word → List Binder
context_after ctx [] = ctx
context_after ctx (w ∷ ws) = context_after (ctx ++ binder_by ctx w ∷ []) ws

pub context-after : (ctx : List Binder) (ws : List Word) → context_after ctx ws ≡ ctx ++ binders_from (length ctx) (bound_vars ctx) ws
context-after ctx [] = sym (append-nil ctx)
context-after ctx (w ∷ ws) =
    context-after (ctx ++ b ∷ []) ws
    ∙ ap (λ n. (ctx ++ b ∷ []) ++ binders_from n (bound_vars (ctx ++ b ∷ [])) ws) (length-push ctx b)
    ∙ ap (λ ps. (ctx ++ b ∷ []) ++ binders_from (suc (length ctx)) ps ws) (bound-push ctx b ∙ branch (word_bound w))
    ∙ append_assoc ctx (b ∷ []) (binders_from (suc (length ctx)) (if word_bound w then bound_vars ctx ++ length ctx ∷ [] else bound_vars ctx) ws)
  where
    b : Binder
    b = binder_by ctx w

    branch : (v : Bool) → bound_vars ctx ++ (if v then length ctx ∷ [] else []) ≡ (if v then bound_vars ctx ++ length ctx ∷ [] else bound_vars ctx)
    branch true = refl
    branch false = append-nil (bound_vars ctx)
