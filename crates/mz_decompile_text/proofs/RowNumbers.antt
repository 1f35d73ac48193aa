-- Numbers of phrases: where lists of them grow, and what they give.
use Rattle.std.proofs.Common.{ℕ, zero, suc, ◌≡◌, ◌<◌, ◌+◌, ◌⊎◌, Bool, true, false, All, List, [], ◌∷◌, ◌++◌, length, map, reverse, take, drop, get_or, slice_get, slice_set, Some, None, refl, ap, sym, ◌∙◌, subst, inl, inr, arith, append_assoc}
use Rattle.std.specs.Prelude.{◌==◌}
use Rattle.std.proofs.lemmas.Bool.{cases_eq, eqb-true}
use Rattle.std.proofs.lemmas.List.{map-append, nil_from_length, reverse-append}
use Rattle.std.proofs.lemmas.List.Elements.{All-nil, All-cons}
use Rattle.std.proofs.lemmas.Option.{get_or_from_slice_get, slice_get_within, same_Some}
use Rattle.mz_base.proofs.Offered.{slice_get-last, slice_get-append}
use Rattle.mz_logic_theory.specs.Tree.{Tree, app, var}
use Rattle.mz_logic_theory.specs.declared.binder.Binder.{Binder}
use Rattle.mz_machine_theory.specs.Spells.{trees_of, variables_from}
use Rattle.mz_decompile_text.specs.Phrases.{Phrase, Phrases, a_list, a_word, one_more}
use Rattle.mz_decompile_text.specs.Phrasing.{Vocabulary, expression, expressions}
use Rattle.mz_decompile_text.specs.ByNumber.{phrases_at, Grows}
use Rattle.mz_decompile_text.specs.Rows.{IsPhrase}
use Rattle.mz_decompile_text.specs.Numbers.{AreAt, AreVariables}

-- ---- places of a list

pub some_none : (x : ℕ) → Some x ≡ None → ⊥
some_none x e = cc

pub not_true : (b : Bool) → b ≡ false → b ≡ true → ⊥
not_true b is-not is = let bad : false ≡ true = sym is-not ∙ is in cc

-- none of so many
pub none_counted : {A : Type 0} → (xs : List A) (n : ℕ) (b : Bool) → b ≡ true → b ≡ (n == 0) → length xs ≡ n → xs ≡ []
none_counted xs n b is-true b-is many = nil_from_length xs (many ∙ eqb-true n 0 (sym b-is ∙ is-true))

pub set_here : {A : Type 0} → (xs : List A) (i : ℕ) (y : A) → i < length xs → slice_get (slice_set xs i y) i ≡ Some y
set_here [] i y lt = absurd (omega (arith, lt))
set_here (x ∷ xs) zero y lt = refl
set_here (x ∷ xs) (suc i) y lt = set_here xs i y (omega (arith, lt))

pub set_else : {A : Type 0} → (xs : List A) (i j : ℕ) (y : A) → (j ≡ i → ⊥) → slice_get (slice_set xs i y) j ≡ slice_get xs j
set_else [] i j y other = refl
set_else (x ∷ xs) zero zero y other = absurd (other refl)
set_else (x ∷ xs) zero (suc j) y other = refl
set_else (x ∷ xs) (suc i) zero y other = refl
set_else (x ∷ xs) (suc i) (suc j) y other = set_else xs i j y (λ is. other (ap suc is))

pub set_length : {A : Type 0} → (xs : List A) (i : ℕ) (y : A) → length (slice_set xs i y) ≡ length xs
set_length [] i y = refl
set_length (x ∷ xs) zero y = refl
set_length (x ∷ xs) (suc i) y = ap suc (set_length xs i y)

pub map_turned : {A B : Type 0} → (f : A → B) (xs : List A) → reverse (map f xs) ≡ map f (reverse xs)
map_turned f [] = refl
map_turned f (x ∷ xs) =
    reverse-append (f x ∷ []) (map f xs) ∙ ap (λ ys. ys ++ f x ∷ []) (map_turned f xs) ∙ sym (map-append f (reverse xs) (x ∷ [])) ∙ ap (map f) (sym (reverse-append (x ∷ []) xs))

-- ---- phrases that grow

pub at_grows : (ps qs : List Phrase) (n : ℕ) (p : Phrase) → Grows ps qs → slice_get ps n ≡ Some p → slice_get qs n ≡ Some p
at_grows ps qs n p (others, is) at = ap (λ (zs : List Phrase). slice_get zs n) is ∙ slice_get-append ps others n p at

pub are_grow : (ps qs : List Phrase) (ns : List ℕ) (rs : List Phrase) → Grows ps qs → AreAt ps ns rs → AreAt qs ns rs
are_grow ps qs [] [] g h = tt
are_grow ps qs [] (r ∷ rs) g h = absurd h
are_grow ps qs (n ∷ ns) [] g h = absurd h
are_grow ps qs (n ∷ ns) (r ∷ rs) g (at, h) = (at_grows ps qs n r g at, are_grow ps qs ns rs g h)

-- ---- several numbers

pub are_push : (ps : List Phrase) (ns : List ℕ) (rs : List Phrase) (n : ℕ) (r : Phrase) → AreAt ps ns rs → slice_get ps n ≡ Some r → AreAt ps (ns ++ n ∷ []) (rs ++ r ∷ [])
are_push ps [] [] n r h at = (at, tt)
are_push ps [] (q ∷ rs) n r h at = absurd h
are_push ps (m ∷ ns) [] n r h at = absurd h
are_push ps (m ∷ ns) (q ∷ rs) n r (here, h) at = (here, are_push ps ns rs n r h at)

pub are_many : (ps : List Phrase) (ns : List ℕ) (rs : List Phrase) → AreAt ps ns rs → length ns ≡ length rs
are_many ps [] [] h = refl
are_many ps [] (r ∷ rs) h = absurd h
are_many ps (n ∷ ns) [] h = absurd h
are_many ps (n ∷ ns) (r ∷ rs) (at, h) = ap suc (are_many ps ns rs h)

pub are_first : (ps : List Phrase) (ns : List ℕ) (qs rs : List Phrase) → AreAt ps ns (qs ++ rs) → AreAt ps (take (length qs) ns) qs
are_first ps ns [] rs h = tt
are_first ps [] (q ∷ qs) rs h = absurd h
are_first ps (n ∷ ns) (q ∷ qs) rs (at, h) = (at, are_first ps ns qs rs h)

pub are_behind : (ps : List Phrase) (ns : List ℕ) (qs rs : List Phrase) → AreAt ps ns (qs ++ rs) → AreAt ps (drop (length qs) ns) rs
are_behind ps ns [] rs h = h
are_behind ps [] (q ∷ qs) rs h = absurd h
are_behind ps (n ∷ ns) (q ∷ qs) rs (at, h) = are_behind ps ns qs rs h

pub are_reversed : (ps : List Phrase) (ns : List ℕ) (rs : List Phrase) → AreAt ps ns rs → AreAt ps (reverse ns) (reverse rs)
are_reversed ps [] [] h = tt
are_reversed ps [] (r ∷ rs) h = absurd h
are_reversed ps (n ∷ ns) [] h = absurd h
are_reversed ps (n ∷ ns) (r ∷ rs) (at, h) =
    subst (λ (ms : List ℕ). AreAt ps ms (reverse (r ∷ rs))) (sym (reverse-append (n ∷ []) ns))
    (subst (λ (qs : List Phrase). AreAt ps (reverse ns ++ n ∷ []) qs) (sym (reverse-append (r ∷ []) rs))
    (are_push ps (reverse ns) (reverse rs) n r (are_reversed ps ns rs h) at))

pub are_there : (ps : List Phrase) (ns : List ℕ) (rs : List Phrase) → AreAt ps ns rs → All (λ n. n < length ps) ns
are_there ps [] [] h = All-nil (λ n. n < length ps)
are_there ps [] (r ∷ rs) h = absurd h
are_there ps (n ∷ ns) [] h = absurd h
are_there ps (n ∷ ns) (r ∷ rs) (at, h) = All-cons (λ m. m < length ps) n ns (slice_get_within ps n r at) (are_there ps ns rs h)

-- ---- as phrases

pub is_phrase : (ps : List Phrase) (n : ℕ) (p : Phrase) → slice_get ps n ≡ Some p → IsPhrase ps n p
is_phrase ps n p at = (slice_get_within ps n p at, get_or_from_slice_get ps n p (a_word []) at)

pub are_phrases : (v : Vocabulary) (ps : List Phrase) (ns : List ℕ) (es : List Tree) → AreAt ps ns (map (expression v) es) → phrases_at ps ns ≡ expressions v (trees_of es)
are_phrases v ps [] [] h = refl
are_phrases v ps [] (e ∷ es) h = absurd h
are_phrases v ps (n ∷ ns) [] h = absurd h
are_phrases v ps (n ∷ ns) (e ∷ es) (at, h) =
    ap (λ (p : Phrase). one_more p (phrases_at ps ns)) (get_or_from_slice_get ps n (expression v e) (a_word []) at)
    ∙ ap (λ (qs : Phrases). one_more (expression v e) qs) (are_phrases v ps ns es h)

-- an application, of its parts
pub gathered : (v : Vocabulary) (ps : List Phrase) (ns : List ℕ) (t : ℕ) (es : List Tree) → AreAt ps ns (a_word (v.term t) ∷ map (expression v) es) → (length ns ≡ 1 → ⊥)
    → a_list (phrases_at ps ns) ≡ expression v (app t (trees_of es))
gathered v ps [] t es h many = absurd h
gathered v ps (n ∷ []) t es h many = absurd (many refl)
gathered v ps (n ∷ m ∷ ns) t [] (at, h) many = absurd h
gathered v ps (n ∷ m ∷ ns) t (e ∷ es) (at, h) many =
    ap (λ (p : Phrase). a_list (one_more p (phrases_at ps (m ∷ ns)))) (get_or_from_slice_get ps n (a_word (v.term t)) (a_word []) at)
    ∙ ap (λ (qs : Phrases). a_list (one_more (a_word (v.term t)) qs)) (are_phrases v ps (m ∷ ns) (e ∷ es) h)

-- of a token alone
pub alone : (v : Vocabulary) (ps : List Phrase) (ns : List ℕ) (t : ℕ) (es : List Tree) → AreAt ps ns (a_word (v.term t) ∷ map (expression v) es) → length ns ≡ 1
    → slice_get ps (get_or ns 0 0) ≡ Some (expression v (app t (trees_of es)))
alone v ps [] t es h one = absurd h
alone v ps (n ∷ []) t [] (at, h) one = at
alone v ps (n ∷ []) t (e ∷ es) (at, h) one = absurd h
alone v ps (n ∷ m ∷ ns) t es h one = absurd (omega (arith, one))

-- ---- variables

pub no_variables : (v : Vocabulary) (ps : List Phrase) (ns : List ℕ) → ns ≡ [] → AreVariables v ps ns 0
no_variables v ps ns is = record { many = ap length is; each = λ i lt. absurd (omega (arith, lt)) }

pub more_variables : (v : Vocabulary) (ps qs : List Phrase) (ns new : List ℕ) (i k : ℕ) → AreVariables v ps ns i → Grows ps qs → slice_get qs k ≡ Some (expression v (var i))
    → new ≡ ns ++ k ∷ []
    → AreVariables v qs new (i + 1)
more_variables v ps qs ns new i k h grows is new-is = subst (λ (ms : List ℕ). AreVariables v qs ms (i + 1)) (sym new-is) (record {
  many = (let a = long ns in let b = h.many in omega (arith, a, b));
  each = λ j lt. by j lt (cases_eq j i);
})
  where
    long : (ms : List ℕ) → length (ms ++ k ∷ []) ≡ length ms + 1
    long [] = omega arith
    long (m ∷ ms) = (let l = long ms in omega (arith, l))

    by : (j : ℕ) → j < i + 1 → ((j ≡ i) ⊎ (j ≡ i → ⊥)) → (l : ℕ) × (slice_get (ns ++ k ∷ []) j ≡ Some l) × (slice_get qs l ≡ Some (expression v (var j)))
    by j lt (inl same) = (k, ap (slice_get (ns ++ k ∷ [])) (same ∙ sym h.many) ∙ slice_get-last ns k, is ∙ ap (λ (x : ℕ). Some (expression v (var x))) (sym same))
    by j lt (inr apart) = let (l, at, l-is) = h.each j (below j lt apart) in (l, slice_get-append ns (k ∷ []) j l at, at_grows ps qs l (expression v (var j)) grows l-is)
      where
        below : (a : ℕ) → a < i + 1 → (a ≡ i → ⊥) → a < i
        below a less other = grind (arith, less, other)

pub variable_at : (j : ℕ) (bs : List Binder) (i : ℕ) (e : Tree) → slice_get (variables_from j bs) i ≡ Some e → (i < length bs) × (e ≡ var (j + i))
variable_at j [] i e at = absurd (let no : None ≡ Some e = at in cc)
variable_at j (b ∷ bs) zero e at = (omega arith, sym (same_Some (var j) e at) ∙ ap var (let is : j ≡ j + 0 = omega arith in is))
variable_at j (b ∷ bs) (suc i) e at = let (lt, is) = variable_at (suc j) bs i e at in (omega (arith, lt), is ∙ ap var (let same : suc j + i ≡ j + suc i = omega arith in same))
