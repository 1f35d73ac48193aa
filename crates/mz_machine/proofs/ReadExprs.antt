-- Items read off a stack as expressions, in any machine.
use Rattle.std.proofs.Common.{◌≡◌, ◌≤◌, ℕ, zero, suc, ◌-◌, List, [], ◌∷◌, ◌++◌, length, take, drop, Result, Ok, Err, refl, sym, ap, ◌∙◌, arith, append_assoc, length-append}
use Rattle.std.specs.Prelude.{map, reverse}
use Rattle.std.proofs.lemmas.List.{append-nil, length-drop, length-map, length-reverse, reverse-append}
use Rattle.std.proofs.Math.Seq.{take-length}
use Rattle.mz_cmd.specs.declared.rule.K.{K}
use Rattle.mz_cmd.specs.declared.rule.K.TheVariants as k
use Rattle.mz_store.specs.declared.item.Id.{Id}
use Rattle.mz_store.specs.declared.item.Item.{Item as Kept}
use Rattle.mz_store.specs.declared.item.Item.TheVariants.{Expr, Proof, Obligation, Conversion}
use Rattle.mz_machine_theory.specs.Profile.{Item, expr, proof, obligation, conversion}
use Rattle.mz_machine_theory.specs.Steps.{◌>>=◌}
use Rattle.mz_machine_theory.proofs.Offered.{taken-is}
use Rattle.mz_machine_theory.specs.Premises.{pop_exprs, pop_operands}
use Rattle.mz_machine.specs.OverStore.{exprs_of}
use Rattle.mz_machine.proofs.TakenOperands.{pop-enough}

-- ---- read from below

rest-of : (ys xs : List Kept) (n : ℕ) → ys ≡ xs → take (length ys - n) (drop n ys) ≡ drop n xs
rest-of ys xs n same = ap (λ (m : ℕ). take m (drop n ys)) (sym (length-drop n ys)) ∙ take-length (drop n ys) ∙ ap (drop n) same

-- from a place on
pub read-of : (ys xs : List Kept) (n : ℕ) (r : Result (List Id) K) → ys ≡ xs → exprs_of (take (length ys - n) (drop n ys)) ≡ r → exprs_of (drop n xs) ≡ r
read-of ys xs n r same is = ap exprs_of (sym (rest-of ys xs n same)) ∙ is

-- those before these
abbrev pub after : List Id → Result (List Id) K → Result (List Id) K
after is r = r >>= λ js. Ok (is ++ js)

pub after-none : (r : Result (List Id) K) → after [] r ≡ r
after-none (Ok js) = refl
after-none (Err f) = refl

pub after-one : (is : List Id) (i : Id) (r : Result (List Id) K) → after (is ++ i ∷ []) r ≡ after is (r >>= λ js. Ok (i ∷ js))
after-one is i (Ok js) = ap (λ (ks : List Id). Ok ks) (append_assoc is (i ∷ []) js)
after-one is i (Err f) = refl

pub other-item : (x : Kept) (xs : List Kept) → ((i : Id) → x ≡ Expr i → ⊥) → exprs_of (x ∷ xs) ≡ Err k.Kind
other-item (Expr i) xs h = absurd (h i refl)
other-item (Proof i) xs h = refl
other-item (Obligation i j) xs h = refl
other-item (Conversion i j) xs h = refl

-- ---- what is read

pub exprs-are : (xs : List Kept) (is : List Id) → exprs_of xs ≡ Ok is → xs ≡ map Expr is
exprs-are [] is h = ap (map Expr) (taken-is [] is h)
exprs-are (Expr i ∷ xs) is h = go (exprs_of xs) refl h (λ js later. exprs-are xs js later)
  where
    go : (r : Result (List Id) K) → exprs_of xs ≡ r → (r >>= λ js. Ok (i ∷ js)) ≡ Ok is → ((js : List Id) → exprs_of xs ≡ Ok js → xs ≡ map Expr js) → Expr i ∷ xs ≡ map Expr is
    go (Ok js) same e later = ap (λ (ys : List Kept). Expr i ∷ ys) (later js same) ∙ ap (map Expr) (taken-is (i ∷ js) is e)
    go (Err f) same e later = absurd cc
exprs-are (Proof i ∷ xs) is h = absurd cc
exprs-are (Obligation i j ∷ xs) is h = absurd cc
exprs-are (Conversion i j ∷ xs) is h = absurd cc

pub exprs-many : (xs : List Kept) (is : List Id) → exprs_of xs ≡ Ok is → length is ≡ length xs
exprs-many xs is h = sym (ap length (exprs-are xs is h) ∙ length-map is Expr)

only-kind : (xs : List Kept) (f : K) → exprs_of xs ≡ Err f → k.Kind ≡ f
only-kind [] f h = absurd cc
only-kind (Expr i ∷ xs) f h = go (exprs_of xs) refl h (λ later. only-kind xs f later)
  where
    go : (r : Result (List Id) K) → exprs_of xs ≡ r → (r >>= λ js. Ok (i ∷ js)) ≡ Err f → (exprs_of xs ≡ Err f → k.Kind ≡ f) → k.Kind ≡ f
    go (Ok js) same e later = absurd cc
    go (Err g) same e later = later (same ∙ e)
only-kind (Proof i ∷ xs) f h = cc
only-kind (Obligation i j ∷ xs) f h = cc
only-kind (Conversion i j ∷ xs) f h = cc

-- ---- as taken from above

-- one more is taken after the others
pop-more : {T : Type 0} (n : ℕ) (xs : List (Item T)) (es : List T) → pop_exprs (suc n) xs es ≡ (pop_exprs n xs es >>= λ p. pop_exprs 1 p.1 p.0)
pop-more zero xs es = refl
pop-more (suc n) [] es = refl
pop-more (suc n) (expr e ∷ xs) es = pop-more n xs (e ∷ es)
pop-more (suc n) (proof e ∷ xs) es = refl
pop-more (suc n) (obligation l r ∷ xs) es = refl
pop-more (suc n) (conversion l r ∷ xs) es = refl

-- what items are in a machine where each id stands for an expression
pub record ItemsOf (T : Type 0) (item : Kept → Item T) (expression : Id → T) : Type 0 where
  pub exprs : (i : Id) → item (Expr i) ≡ expr (expression i)
  pub proofs : (i : Id) → item (Proof i) ≡ proof (expression i)
  pub obligations : (i j : Id) → item (Obligation i j) ≡ obligation (expression i) (expression j)
  pub conversions : (i j : Id) → item (Conversion i j) ≡ conversion (expression i) (expression j)

module _ {T : Type 0} {item : Kept → Item T} {expression : Id → T} (are : ItemsOf T item expression) where
  -- a stack of items, the top first
  abbrev items : List Kept → List (Item T)
  items xs = map item (reverse xs)

  items-push : (xs : List Kept) (x : Kept) (y : Item T) → item x ≡ y → items (xs ++ x ∷ []) ≡ y ∷ items xs
  items-push xs x y is = ap (map item) (reverse-append xs (x ∷ [])) ∙ ap (λ (z : Item T). z ∷ items xs) is

  items-many : (xs : List Kept) → length (items xs) ≡ length xs
  items-many xs = length-map (reverse xs) item ∙ length-reverse xs

  -- what was taken above, and is to be taken next
  abbrev Taken : Type 0
  Taken = Result (List T × List (Item T)) K

  abbrev taken_as : List Kept → List T → Result (List Id) K → Taken
  taken_as ys es r = r >>= λ is. Ok (map expression is ++ es, items ys)

  abbrev one_more : Taken → Taken
  one_more r = r >>= λ p. pop_exprs 1 p.1 p.0

  expr-more : (i : Id) (ys : List Kept) (es : List T) (r : Result (List Id) K) → one_more (taken_as (ys ++ Expr i ∷ []) es r) ≡ taken_as ys es (r >>= λ js. Ok (i ∷ js))
  expr-more i ys es (Ok is) = ap (λ (zs : List (Item T)). pop_exprs 1 zs (map expression is ++ es)) (items-push ys (Expr i) (expr (expression i)) (are.exprs i))
  expr-more i ys es (Err f) = refl

  other-more : (x : Kept) (xs ys : List Kept) (es : List T) (r : Result (List Id) K) → exprs_of xs ≡ r
      → ((fs : List T) → pop_exprs 1 (items (ys ++ x ∷ [])) fs ≡ Err k.Kind) → one_more (taken_as (ys ++ x ∷ []) es r) ≡ Err k.Kind
  other-more x xs ys es (Ok is) same stops = stops (map expression is ++ es)
  other-more x xs ys es (Err f) same stops = ap (λ (g : K). Err g) (sym (only-kind xs f same))

  item-more : (x : Kept) (xs ys : List Kept) (es : List T) → one_more (taken_as (ys ++ x ∷ []) es (exprs_of xs)) ≡ taken_as ys es (exprs_of (x ∷ xs))
  item-more (Expr i) xs ys es = expr-more i ys es (exprs_of xs)
  item-more (Proof i) xs ys es = other-more (Proof i) xs ys es (exprs_of xs) refl λ fs. ap (λ (zs : List (Item T)). pop_exprs 1 zs fs) (items-push ys (Proof i) (proof (expression i)) (are.proofs i))
  item-more (Obligation i j) xs ys es = other-more (Obligation i j) xs ys es (exprs_of xs) refl λ fs. ap (λ (zs : List (Item T)). pop_exprs 1 zs fs) (items-push ys (Obligation i j) (obligation (expression i) (expression j)) (are.obligations i j))
  item-more (Conversion i j) xs ys es = other-more (Conversion i j) xs ys es (exprs_of xs) refl λ fs. ap (λ (zs : List (Item T)). pop_exprs 1 zs fs) (items-push ys (Conversion i j) (conversion (expression i) (expression j)) (are.conversions i j))

  pop-read : (xs ys : List Kept) (es : List T) → pop_exprs (length xs) (items (ys ++ xs)) es ≡ taken_as ys es (exprs_of xs)
  pop-read [] ys es = ap (λ (zs : List Kept). Ok (es, items zs)) (append-nil ys)
  pop-read (x ∷ xs) ys es =
      pop-more (length xs) (items (ys ++ x ∷ xs)) es
      ∙ ap (λ (zs : List Kept). one_more (pop_exprs (length xs) (items zs) es)) (sym (append_assoc ys (x ∷ []) xs))
      ∙ ap one_more (pop-read xs (ys ++ x ∷ []) es)
      ∙ item-more x xs ys es

  whole : (ys : List Kept) (r : Result (List Id) K) → taken_as ys [] r ≡ (r >>= λ is. Ok (map expression is, items ys))
  whole ys (Ok is) = ap (λ (es : List T). Ok (es, items ys)) (append-nil (map expression is))
  whole ys (Err f) = refl

  -- so many are read as what is taken
  pub operands-read : (xs ys top : List Kept) (n : ℕ) (r : Result (List Id) K) → xs ≡ ys ++ top → n ≡ length top → exprs_of top ≡ r
      → pop_operands n (map item (reverse xs)) ≡ (r >>= λ is. Ok (map expression is, map item (reverse ys)))
  operands-read xs ys top n r split many is =
      pop-enough n (items xs) (r >>= λ js. Ok (map expression js, items ys)) (let e : n ≤ length (items xs) = omega (arith, items-many xs, ap length split, length-append ys top, many) in e)
      (rw (split, many) (pop-read top ys []) ∙ ap (taken_as ys []) is ∙ whole ys r)
