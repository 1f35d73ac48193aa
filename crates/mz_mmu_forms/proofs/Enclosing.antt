-- Forms within one another, as they are read: each waits for the one within it, the outermost stands first.
use Rattle.std.proofs.Common.{◌≡◌, ◌<◌, ◌+◌, ◌*◌, ◌++◌, ◌∙◌, ℕ, List, [], ◌∷◌, ap, sym, refl, subst, arith}

-- these stand around `inner`, and the outermost of them is `top`
abbrev pub Around : {Form Outer : Type 0} → (Form → Form → Outer → Type 0) → Form → List Outer → Form → Type 0
Around {Form} {Outer} Waits top [] inner = top ≡ inner
Around {Form} {Outer} Waits top (o ∷ os) inner = (mid : Form) × Waits top mid o × Around Waits mid os inner

-- those around, and what the step says of the innermost
abbrev pub IsReading : {Form Outer Step : Type 0} → (Form → Form → Outer → Type 0) → (Form → Step → Type 0) → Form → List Outer → Step → Type 0
IsReading {Form} {Outer} {Step} Waits Says top os step = (m : Form) × Around Waits top os m × Says m step

-- the turns that are left for them, where so many nodes stand behind the one that each waits for
abbrev pub turns_around : {Outer : Type 0} → (Outer → ℕ) → List Outer → ℕ
turns_around behind [] = 0
turns_around behind (o ∷ os) = 2 * behind o + 2 + turns_around behind os

turns_more : {Outer : Type 0} (behind : Outer → ℕ) (os : List Outer) (o : Outer) → turns_around behind (os ++ o ∷ []) ≡ turns_around behind os + (2 * behind o + 2)
turns_more behind [] o = omega arith
turns_more behind (p ∷ os) o = let more = turns_more behind os o in omega (arith, more)

pub opened_fewer : {Outer : Type 0} (behind : Outer → ℕ) (os new : List Outer) (o : Outer) (size before after : ℕ) → new ≡ os ++ o ∷ []
    → before ≡ 2 * size + 2 * behind o + 1 → after + 1 < 2 * size → turns_around behind new + after < turns_around behind os + before
opened_fewer behind os new o size before after is now less =
    let around : turns_around behind new ≡ turns_around behind os + (2 * behind o + 2) = ap (turns_around behind) is ∙ turns_more behind os o in
    omega (arith, now, around, less)

pub closed_fewer : {Outer : Type 0} (behind : Outer → ℕ) (os left : List Outer) (o : Outer) (before after : ℕ) → os ≡ left ++ o ∷ []
    → after < 2 * behind o + 2 → turns_around behind left + after < turns_around behind os + before
closed_fewer behind os left o before after is less =
    let around : turns_around behind os ≡ turns_around behind left + (2 * behind o + 2) = ap (turns_around behind) is ∙ turns_more behind left o in
    omega (arith, around, less)

around_more : {Form Outer : Type 0} (Waits : Form → Form → Outer → Type 0) (top : Form) (os : List Outer) (m : Form) (o : Outer) (inner : Form)
    → Around Waits top os m → Waits m inner o → Around Waits top (os ++ o ∷ []) inner
around_more Waits top [] m o inner same w = (inner, subst (λ x. Waits x inner o) (sym same) w, refl)
around_more Waits top (p ∷ os) m o inner (mid, v, rest) w = (mid, v, around_more Waits mid os m o inner rest w)

around_last : {Form Outer : Type 0} (Waits : Form → Form → Outer → Type 0) (top : Form) (os : List Outer) (o : Outer) (inner : Form)
    → Around Waits top (os ++ o ∷ []) inner → (m : Form) × Around Waits top os m × Waits m inner o
around_last Waits top [] o inner (mid, w, same) = (top, refl, subst (λ x. Waits top x o) same w)
around_last Waits top (p ∷ os) o inner (mid, v, rest) = let last = around_last Waits mid os o inner rest in (last.0, (mid, v, last.1), last.2)

outwards : {Form Outer : Type 0} (Waits : Form → Form → Outer → Type 0) (P : Form → Type 0) (out : (m inner : Form) (o : Outer) → Waits m inner o → P inner → P m)
    (top : Form) (os : List Outer) (inner : Form) → Around Waits top os inner → P inner → P top
outwards Waits P out top [] inner same h = subst P (sym same) h
outwards Waits P out top (o ∷ os) inner (mid, w, rest) h = out top mid o w (outwards Waits P out mid os inner rest h)

module _ {Form Outer Step : Type 0} (Waits : Form → Form → Outer → Type 0) (Says : Form → Step → Type 0) (top : Form) (os : List Outer) (step : Step)
    (reading : IsReading Waits Says top os step) where
  -- one more is opened
  pub goes_in : (new : List Outer) (o : Outer) (inner : Form) (next : Step) → new ≡ os ++ o ∷ [] → ((m : Form) → Says m step → Waits m inner o) → Says inner next
      → IsReading Waits Says top new next
  goes_in new o inner next new_is waits says =
      (inner, subst (λ ps. Around Waits top ps inner) (sym new_is) (around_more Waits top os reading.0 o inner reading.1 (waits reading.0 reading.2)), says)

  -- what holds of the one that waits last
  waiting_last : (left : List Outer) (o : Outer) → os ≡ left ++ o ∷ [] → (m : Form) × Around Waits top left m × Waits m reading.0 o
  waiting_last left o is = around_last Waits top left o reading.0 (subst (λ ps. Around Waits top ps reading.0) is reading.1)

  -- the innermost has been read
  pub goes_back : (left : List Outer) (o : Outer) (next : Step) → os ≡ left ++ o ∷ [] → ((m inner : Form) → Waits m inner o → Says inner step → Says m next)
      → IsReading Waits Says top left next
  goes_back left o next is go = let last = waiting_last left o is in (last.0, last.1, go last.0 reading.0 last.2 reading.2)

  pub last_waits : (left : List Outer) (o : Outer) (P : Type 0) → os ≡ left ++ o ∷ [] → ((m inner : Form) → Waits m inner o → Says inner step → P) → P
  last_waits left o P is go = let last = waiting_last left o is in go last.0 reading.0 last.2 reading.2

  -- what holds of the innermost, and of each around one of which it holds, holds of the outermost
  pub outermost : (P : Form → Type 0) → ((m inner : Form) (o : Outer) → Waits m inner o → P inner → P m) → ((m : Form) → Says m step → P m) → P top
  outermost P out now = outwards Waits P out top os reading.0 reading.1 (now reading.0 reading.2)

  -- nothing stands around
  pub at_top : os ≡ [] → Says top step
  at_top empty = subst (λ x. Says x step) (sym (subst (λ ps. Around Waits top ps reading.0) empty reading.1)) reading.2
