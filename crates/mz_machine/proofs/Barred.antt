-- What a command does above a barrier: what lies below is left, and asked of but for how much it is.
use Rattle.std.proofs.Common.{◌≡◌, ◌≤◌, ℕ, zero, suc, Bool, true, false, List, [], ◌∷◌, ◌++◌, length, Option, Some, None, Result, Ok, Err, refl, ap, ◌∙◌, arith}
use Rattle.std.specs.Prelude.{⊤, nat_le}
use Rattle.std.proofs.lemmas.Bool.{le-leb}
use Rattle.mz_cmd.specs.declared.rule.K.{K}
use Rattle.mz_cmd.specs.declared.rule.K.TheVariants as k
use Rattle.mz_machine_theory.specs.Steps.{◌>>=◌, ◌>>◌, need, want}
use Rattle.mz_machine_theory.specs.Profile.{Item, expr, proof, obligation, conversion}
use Rattle.mz_machine_theory.specs.Premises.{pop_expr, pop_proof, pop_obligation, pop_conversion, pop_exprs, pop_operands}
use Rattle.mz_machine.specs.OpenEquations.{EndsBarred, IsBarred}

pub still-barred : {T : Type 0} (x : Item T) (xs : List (Item T)) → EndsBarred x xs → IsBarred xs
still-barred x [] b = tt
still-barred x (y ∷ ys) b = b

-- an answer over items that lie below
abbrev pub laid : {T S : Type 0} → (List (Item T) → S → S) → Result S K → List (Item T) → Result S K
laid lay (Ok s) zs = Ok (lay zs s)
laid lay (Err d) zs = Err d

abbrev pub OnGood : {S : Type 0} → (S → Type 0) → Result S K → Type 0
OnGood Good (Ok s) = Good s
OnGood Good (Err d) = ⊤

-- `lay` puts what is made above other items, where they fulfil `Fits`
module _ {T S : Type 0} (Fits : List (Item T) → Type 0) (lay : List (Item T) → S → S) (Good : S → Type 0) where
  -- one good answer, whatever lies below
  abbrev pub Above : (List (Item T) → Result S K) → Type 0
  Above f = (r : Result S K) × OnGood Good r × ((zs : List (Item T)) → Fits zs → f zs ≡ laid lay r zs)

  pub made : (s : S) (f : List (Item T) → Result S K) → Good s → ((zs : List (Item T)) → f zs ≡ Ok (lay zs s)) → Above f
  made s f good is = (Ok s, good, λ zs fits. is zs)

  pub needed : (b : Bool) (d : K) (f : List (Item T) → Result S K) → Above f → Above (λ zs. need b d >> f zs)
  needed true d f a = a
  needed false d f a = (Err d, tt, λ zs fits. refl)

  pub fitted : (r : Result (Unit {0}) K) (f : List (Item T) → Result S K) → Above f → Above (λ zs. r >> f zs)
  fitted (Ok x) f a = a
  fitted (Err d) f a = (Err d, tt, λ zs fits. refl)

  pub wanted : {V : Type 0} (o : Option V) (d : K) (f : V → List (Item T) → Result S K) → ((v : V) → o ≡ Some v → Above (f v)) → Above (λ zs. want o d >>= λ v. f v zs)
  wanted (Some v) d f a = a v refl
  wanted None d f a = (Err d, tt, λ zs fits. refl)

  -- there are so many
  pub enough : (m : ℕ) (many : List (Item T) → ℕ) (d : K) (f : List (Item T) → Result S K) → ((zs : List (Item T)) → Fits zs → m ≤ many zs) → Above f → Above (λ zs. need (nat_le m (many zs)) d >> f zs)
  enough m many d f are (r, good, is) = (r, good, λ zs fits. ap (λ b. need b d >> f zs) (le-leb m (many zs) (are zs fits)) ∙ is zs fits)

  -- ---- what is popped

  module _ (x : Item T) (xs : List (Item T)) (barred : EndsBarred x xs) where
    pub top-obligation : (f : T → T → List (Item T) → Result S K) → ((l r : T) → IsBarred xs → Above (λ zs. f l r (xs ++ zs))) → Above (λ zs. pop_obligation (x ∷ xs ++ zs) >>= λ p. f p.0 p.1 p.2)
    top-obligation f a = go x (still-barred x xs barred)
      where
        go : (y : Item T) → IsBarred xs → Above (λ zs. pop_obligation (y ∷ xs ++ zs) >>= λ p. f p.0 p.1 p.2)
        go (expr e) b = (Err k.Kind, tt, λ zs fits. refl)
        go (proof e) b = (Err k.Kind, tt, λ zs fits. refl)
        go (obligation l r) b = a l r b
        go (conversion l r) b = (Err k.Kind, tt, λ zs fits. refl)

    pub top-conversion : (f : T → T → List (Item T) → Result S K) → ((l r : T) → IsBarred xs → Above (λ zs. f l r (xs ++ zs))) → Above (λ zs. pop_conversion (x ∷ xs ++ zs) >>= λ p. f p.0 p.1 p.2)
    top-conversion f a = go x (still-barred x xs barred)
      where
        go : (y : Item T) → IsBarred xs → Above (λ zs. pop_conversion (y ∷ xs ++ zs) >>= λ p. f p.0 p.1 p.2)
        go (expr e) b = (Err k.Kind, tt, λ zs fits. refl)
        go (proof e) b = (Err k.Kind, tt, λ zs fits. refl)
        go (obligation l r) b = (Err k.Kind, tt, λ zs fits. refl)
        go (conversion l r) b = a l r b

  pub top-expr : (x : Item T) (xs : List (Item T)) → EndsBarred x xs → (f : T → List (Item T) → Result S K)
      → ((e : T) (y : Item T) (ys : List (Item T)) → EndsBarred y ys → xs ≡ y ∷ ys → Above (λ zs. f e (y ∷ ys ++ zs))) → Above (λ zs. pop_expr (x ∷ xs ++ zs) >>= λ p. f p.0 p.1)
  top-expr (expr e) [] b f a = absurd b
  top-expr (expr e) (y ∷ ys) b f a = a e y ys b refl
  top-expr (proof e) xs b f a = (Err k.Kind, tt, λ zs fits. refl)
  top-expr (obligation l r) xs b f a = (Err k.Kind, tt, λ zs fits. refl)
  top-expr (conversion l r) xs b f a = (Err k.Kind, tt, λ zs fits. refl)

  pub top-proof : (x : Item T) (xs : List (Item T)) → EndsBarred x xs → (f : T → List (Item T) → Result S K)
      → ((e : T) (y : Item T) (ys : List (Item T)) → EndsBarred y ys → Above (λ zs. f e (y ∷ ys ++ zs))) → Above (λ zs. pop_proof (x ∷ xs ++ zs) >>= λ p. f p.0 p.1)
  top-proof (proof e) [] b f a = absurd b
  top-proof (proof e) (y ∷ ys) b f a = a e y ys b
  top-proof (expr e) xs b f a = (Err k.Kind, tt, λ zs fits. refl)
  top-proof (obligation l r) xs b f a = (Err k.Kind, tt, λ zs fits. refl)
  top-proof (conversion l r) xs b f a = (Err k.Kind, tt, λ zs fits. refl)

  top-exprs : (n : ℕ) (x : Item T) (xs : List (Item T)) → EndsBarred x xs → (es : List T) → (f : List T → List (Item T) → Result S K)
      → ((es : List T) (y : Item T) (ys : List (Item T)) → EndsBarred y ys → Above (λ zs. f es (y ∷ ys ++ zs))) → Above (λ zs. pop_exprs n (x ∷ xs ++ zs) es >>= λ p. f p.0 p.1)
  top-exprs zero x xs b es f a = a es x xs b
  top-exprs (suc n) (expr e) [] b es f a = absurd b
  top-exprs (suc n) (expr e) (y ∷ ys) b es f a = top-exprs n y ys b (e ∷ es) f a
  top-exprs (suc n) (proof e) xs b es f a = (Err k.Kind, tt, λ zs fits. refl)
  top-exprs (suc n) (obligation l r) xs b es f a = (Err k.Kind, tt, λ zs fits. refl)
  top-exprs (suc n) (conversion l r) xs b es f a = (Err k.Kind, tt, λ zs fits. refl)

  pub top-operands : (n : ℕ) (x : Item T) (xs : List (Item T)) → EndsBarred x xs → ((zs : List (Item T)) → Fits zs → n ≤ length (x ∷ xs ++ zs)) → (f : List T → List (Item T) → Result S K)
      → ((es : List T) (y : Item T) (ys : List (Item T)) → EndsBarred y ys → Above (λ zs. f es (y ∷ ys ++ zs))) → Above (λ zs. pop_operands n (x ∷ xs ++ zs) >>= λ p. f p.0 p.1)
  top-operands n x xs b are f a =
      let (r, good, is) = top-exprs n x xs b [] f a in
      (r, good, λ zs fits. ap (λ b. (need b k.Underflow >> pop_exprs n (x ∷ xs ++ zs) []) >>= λ p. f p.0 p.1) (le-leb n (length (x ∷ xs ++ zs)) (are zs fits)) ∙ is zs fits)

-- one after the other
pub bound : {T S U : Type 0} (Fits : List (Item T) → Type 0) (lay : List (Item T) → S → S) (Good : S → Type 0) (lay' : List (Item T) → U → U) (Good' : U → Type 0)
    (f : List (Item T) → Result S K) (g : S → Result U K) → Above Fits lay Good f → ((s : S) → Good s → Above Fits lay' Good' (λ zs. g (lay zs s))) → Above Fits lay' Good' (λ zs. f zs >>= g)
bound {S = S} Fits lay Good lay' Good' f g (Ok s, good, is) next =
    let (r, well, then) = next s good in
    (r, well, λ zs fits. ap (λ (z : Result S K). z >>= g) (is zs fits) ∙ then zs fits)
bound {S = S} Fits lay Good lay' Good' f g (Err d, good, is) next = (Err d, tt, λ zs fits. ap (λ (z : Result S K). z >>= g) (is zs fits))

-- ---- of more expressions than there are items one is a barrier

pub too-many : {T : Type 0} (n : ℕ) (x : Item T) (xs zs : List (Item T)) → EndsBarred x xs → (es : List T) → length (x ∷ xs) ≤ n → pop_exprs n (x ∷ xs ++ zs) es ≡ Err k.Kind
too-many zero x xs zs b es more = absurd (omega arith)
too-many (suc n) (expr e) [] zs b es more = absurd b
too-many (suc n) (expr e) (y ∷ ys) zs b es more = too-many n y ys zs b (e ∷ es) (omega arith)
too-many (suc n) (proof e) xs zs b es more = refl
too-many (suc n) (obligation l r) xs zs b es more = refl
too-many (suc n) (conversion l r) xs zs b es more = refl
