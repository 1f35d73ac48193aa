-- What is kept while a stream is written, and what is built on the way.
use Rattle.std.proofs.Common.{◌≡◌, ℕ, ◌+◌, Bool, true, List, [], ◌∷◌, ◌++◌, length, Some, sym, ap, subst, ◌∙◌, ◌⊎◌, inl, inr, append_assoc, append-nil}
use Rattle.std.specs.Prelude.{slice_get, Contains}
use Rattle.std.proofs.lemmas.List.Elements.{Contains-append_left}
use Rattle.mz_logic_theory.specs.Tree.{Tree, var}
use Rattle.mz_logic_theory.specs.Variables.{Occurs}
use Rattle.mz_logic_theory.specs.declared.binder.Binder.{Binder}
use Rattle.mz_logic_theory.proofs.Offered.{split_at}
use Rattle.mz_machine_theory.specs.Streams.{StreamKind, of_assertion, of_definition, UnifyCommand, u_term, u_term_save, u_ref, u_dummy, u_hyp, u_end}
use Rattle.mz_emit_theory.specs.BodyLaws.{AreOnce}
use Rattle.mz_emit_theory.specs.StreamWriting.{Writing}

-- a command that builds an application, in the text's numbering, and the dummies met before it
pub record Making : Type 0 where
  pub term : Tree
  pub saved : Bool
  pub met : List ℕ

-- commands that may stand in a stream of a kind
abbrev pub StandsIn : StreamKind → UnifyCommand → Type 0
StandsIn kind (u_term t) = Unit {0}
StandsIn kind (u_term_save t) = Unit {0}
StandsIn kind (u_ref i) = Unit {0}
StandsIn of_assertion (u_dummy s) = ⊥
StandsIn of_definition (u_dummy s) = Unit {0}
StandsIn of_assertion u_hyp = Unit {0}
StandsIn of_definition u_hyp = ⊥
StandsIn kind u_end = ⊥

abbrev pub AllStandIn : StreamKind → List UnifyCommand → Type 0
AllStandIn kind [] = Unit {0}
AllStandIn kind (u ∷ us) = StandsIn kind u × AllStandIn kind us

pub stand-append : (kind : StreamKind) (us vs : List UnifyCommand) → AllStandIn kind us → AllStandIn kind vs → AllStandIn kind (us ++ vs)
stand-append kind [] vs h h' = h'
stand-append kind (u ∷ us) vs (one, h) h' = (one, stand-append kind us vs h h')

module _ (own : List ℕ) where
  abbrev pub Met : Writing → ℕ → Type 0
  Met w y = Contains (own ++ w.dummies) y

  abbrev pub IsFull : Making → Type 0
  IsFull b = (y : ℕ) → Occurs y b.term → Contains (own ++ b.met) y

  abbrev pub Grown : Writing → Writing → Type 0
  Grown w w' = (others : List ℕ) × (w'.dummies ≡ w.dummies ++ others)

  pub met-grown : (w w' : Writing) → Grown w w' → (y : ℕ) → Met w y → Met w' y
  met-grown w w' (others, is) y h =
      subst (λ (z : List ℕ). Contains (own ++ z) y) (sym is) (subst (λ (z : List ℕ). Contains z y) (append_assoc own w.dummies others) (Contains-append_left (own ++ w.dummies) others y h))

  pub grown-grown : (w v w' : Writing) → Grown w v → Grown v w' → Grown w w'
  grown-grown w v w' (xs, is) (ys, is') = (xs ++ ys, is' ∙ ap (λ (z : List ℕ). z ++ ys) is ∙ append_assoc w.dummies xs ys)

  -- what is met is marked, and no dummy is met twice; of what is marked all variables are met
  pub record Right (ctx : List Binder) (w : Writing) : Type 0 where
    pub marked : (y : ℕ) → Met w y → (i : ℕ) × (slice_get w.trees i ≡ Some (var y))
    pub once : AreOnce (own ++ w.dummies)
    pub inside : (y : ℕ) → Contains w.dummies y → (b : Binder) × (slice_get ctx y ≡ Some b)
    pub known : (i : ℕ) (t : Tree) → slice_get w.trees i ≡ Some t → (y : ℕ) → Occurs y t → Met w y

  -- from w to w' these are built: what is built with all its dummies met isn't marked before, and is after
  pub record Good (w : Writing) (bs : List Making) (w' : Writing) : Type 0 where
    pub grown : Grown w w'
    pub keeps : (i : ℕ) (t : Tree) → slice_get w.trees i ≡ Some t → slice_get w'.trees i ≡ Some t
    pub apart : (i : ℕ) (b : Making) → slice_get bs i ≡ Some b → (k : ℕ) → slice_get w.trees k ≡ Some b.term → ⊥
    pub kept : (i : ℕ) (b : Making) → slice_get bs i ≡ Some b → IsFull b → (k : ℕ) × (slice_get w'.trees k ≡ Some b.term)
    pub once : (i j : ℕ) (b c : Making) → slice_get bs i ≡ Some b → slice_get bs j ≡ Some c → IsFull b → IsFull c → b.term ≡ c.term → i ≡ j
    pub saves : (i : ℕ) (b : Making) → slice_get bs i ≡ Some b → b.saved ≡ true → IsFull b

  -- of what is built all variables are met in the end, and what was met before it was met first
  abbrev pub Known : List Making → Writing → Type 0
  Known bs w' = (i : ℕ) (b : Making) → slice_get bs i ≡ Some b → ((y : ℕ) → Occurs y b.term → Met w' y) × ((others : List ℕ) × (w'.dummies ≡ b.met ++ others))

  pub good-none : (w : Writing) → Good w [] w
  good-none w = record {
    grown = ([], sym (append-nil w.dummies));
    keeps = λ i t at. at;
    apart = λ i b at. absurd cc;
    kept = λ i b at. absurd cc;
    once = λ i j b c at. absurd cc;
    saves = λ i b at. absurd cc;
  }

  -- an element of a joined list
  abbrev Either : List Making → List Making → ℕ → Making → Type 0
  Either bs cs i b = (slice_get bs i ≡ Some b) ⊎ ((k : ℕ) × (i ≡ length bs + k) × (slice_get cs k ≡ Some b))

  pub good-join : (w v w' : Writing) (bs cs : List Making) → Good w bs v → Good v cs w' → Good w (bs ++ cs) w'
  good-join w v w' bs cs g h = record {
    grown = grown-grown w v w' g.grown h.grown;
    keeps = λ i t at. h.keeps i t (g.keeps i t at);
    apart = λ i b at. apart i b (split_at bs cs i b at);
    kept = λ i b at. kept i b (split_at bs cs i b at);
    once = λ i j b c at at'. once i j b c (split_at bs cs i b at) (split_at bs cs j c at');
    saves = λ i b at. saves i b (split_at bs cs i b at);
  }
    where
      apart : (i : ℕ) (b : Making) → Either bs cs i b → (k : ℕ) → slice_get w.trees k ≡ Some b.term → ⊥
      apart i b (inl at) k there = g.apart i b at k there
      apart i b (inr (j, _, at)) k there = h.apart j b at k (g.keeps k b.term there)

      kept : (i : ℕ) (b : Making) → Either bs cs i b → IsFull b → (k : ℕ) × (slice_get w'.trees k ≡ Some b.term)
      kept i b (inl at) full = let (k, there) = g.kept i b at full in (k, h.keeps k b.term there)
      kept i b (inr (j, _, at)) full = h.kept j b at full

      once : (i j : ℕ) (b c : Making) → Either bs cs i b → Either bs cs j c → IsFull b → IsFull c → b.term ≡ c.term → i ≡ j
      once i j b c (inl at) (inl at') full full' same = g.once i j b c at at' full full' same
      once i j b c (inl at) (inr (l, _, at')) full full' same =
          let (k, there) = g.kept i b at full in
          absurd (h.apart l c at' k (there ∙ ap (λ (z : Tree). Some z) same))
      once i j b c (inr (l, _, at)) (inl at') full full' same =
          let (k, there) = g.kept j c at' full' in
          absurd (h.apart l b at k (there ∙ ap (λ (z : Tree). Some z) (sym same)))
      once i j b c (inr (l, is, at)) (inr (l', is', at')) full full' same =
          is ∙ ap (λ (z : ℕ). length bs + z) (h.once l l' b c at at' full full' same) ∙ sym is'

      saves : (i : ℕ) (b : Making) → Either bs cs i b → b.saved ≡ true → IsFull b
      saves i b (inl at) is = g.saves i b at is
      saves i b (inr (j, _, at)) is = h.saves j b at is

  pub known-join : (v w' : Writing) (bs cs : List Making) → Grown v w' → Known bs v → Known cs w' → Known (bs ++ cs) w'
  known-join v w' bs cs grown g h i b at = go (split_at bs cs i b at)
    where
      go : Either bs cs i b → ((y : ℕ) → Occurs y b.term → Met w' y) × ((others : List ℕ) × (w'.dummies ≡ b.met ++ others))
      go (inl there) =
          let (vars, (xs, is)) = g i b there in
          let (ys, is') = grown in
          ((λ y o. met-grown v w' grown y (vars y o)), (xs ++ ys, is' ∙ ap (λ (z : List ℕ). z ++ ys) is ∙ append_assoc b.met xs ys))
      go (inr (j, _, there)) = h j b there
