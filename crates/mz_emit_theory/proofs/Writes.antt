-- What is written spells, and builds no application twice once all its dummies are met.
use Rattle.std.proofs.Common.{◌≡◌, ℕ, zero, suc, ◌+◌, Bool, true, false, List, [], ◌∷◌, ◌++◌, length, map, Option, Some, None, refl, sym, ap, subst, ◌∙◌, ◌⊎◌, inl, inr, append_assoc, append-nil, length-append}
use Rattle.std.specs.Prelude.{slice_get, Contains}
use Rattle.std.specs.Option.{option_map}
use Rattle.std.proofs.lemmas.List.{map-append, length-map}
use Rattle.std.proofs.lemmas.List.Elements.{Contains-append_left, Contains-push, Contains-push_cases}
use Rattle.std.proofs.lemmas.Option.{slice_get-map}
use Rattle.mz_base.proofs.Offered.{slice_get-last, slice_get-append}
use Rattle.mz_logic_theory.specs.Tree.{Tree, Trees, var, app, none, more, listed}
use Rattle.mz_logic_theory.specs.Signature.{Signature}
use Rattle.mz_logic_theory.specs.Sorts.{HasSort, Fits}
use Rattle.mz_logic_theory.specs.Variables.{Occurs, OccursIn}
use Rattle.mz_logic_theory.specs.Legality.{binder_at}
use Rattle.mz_logic_theory.specs.declared.binder.Binder.{Binder}
use Rattle.mz_logic_theory.proofs.Offered.{split_at}
use Rattle.mz_machine_theory.specs.Streams.{StreamKind, of_assertion, of_definition, UnifyCommand, u_ref, u_dummy}
use Rattle.mz_machine_theory.specs.Spells.{dummy_of, Marks, with_dummy, HasOperands}
use Rattle.mz_machine_theory.proofs.Offered.{not-both}
use Rattle.mz_emit_theory.specs.SymbolicState.{renamed, all_renamed, place_of, name_in}
use Rattle.mz_emit_theory.specs.BodyLaws.{AreOnce}
use Rattle.mz_emit_theory.proofs.Naming.{place-new, once-more}
use Rattle.mz_emit_theory.specs.StreamWriting.{Writing, Written, meeting, place_in, are_met, referred, headed, and_then, head_of, marked_if, write, write_all, spelled_dummies}
use Rattle.mz_emit_theory.specs.Sharing.{Built, Builds, BuildsAll}
use Rattle.mz_emit_theory.proofs.Marking.{place-found, place-missing, place-front, all-met, met-all}
use Rattle.mz_emit_theory.proofs.StreamGrowing.{Making, StandsIn, AllStandIn, stand-append, Met, IsFull, Grown, met-grown, Right, Good, good-none, good-join, Known, known-join}

fits-long : (sigs : List Signature) (ctx : List Binder) (g : ℕ → ℕ) (es : Trees) (ps : List Binder) → Fits sigs ctx es ps → length (listed (all_renamed g es)) ≡ length ps
fits-long sigs ctx g none [] h = refl
fits-long sigs ctx g (more e es) (p ∷ ps) (_, _, h) = ap suc (fits-long sigs ctx g es ps h)
fits-long sigs ctx g _ _ h = absurd h

module _ (sigs : List Signature) (ctx : List Binder) (own : List ℕ) where
  abbrev pub g : List ℕ → ℕ → ℕ
  g last = name_in (own ++ last)

  -- the marks, as they are spelled where these dummies are met in the end
  abbrev pub marks : List ℕ → Writing → Marks
  marks last w = record { trees = map (renamed (g last)) w.trees; dummies = spelled_dummies ctx w.dummies }

  abbrev pub spelled : List ℕ → Making → Built
  spelled last b = record { term = renamed (g last) b.term; saved = b.saved; met = length b.met }

  abbrev pub all_spelled : List ℕ → List Making → List Built
  all_spelled last bs = map (spelled last) bs

  abbrev pub n : ℕ
  n = length own

  -- after writing what has the variables Occ from w on
  pub record Wrote (w : Writing) (Occ : ℕ → Type 0) (out : Written) (S : List ℕ → List Built → Type 0) : Type 0 where
    pub right : Right own ctx out.after
    pub all : (y : ℕ) → Occ y → Met own out.after y
    pub bs : List Making
    pub good : Good own w bs out.after
    pub known : Known own bs out.after
    pub stands : AllStandIn of_definition out.commands
    pub plain : ((y : ℕ) → Occ y → Contains own y) → AllStandIn of_assertion out.commands × (out.after.dummies ≡ w.dummies)
    pub spells : (last others : List ℕ) → last ≡ out.after.dummies ++ others → S last (all_spelled last bs)

  abbrev pub Spelling : Writing → Tree → Written → List ℕ → List Built → Type 0
  Spelling w e out last bs = (rest : List UnifyCommand) → Builds n sigs (marks last w) (out.commands ++ rest) (renamed (g last) e) (marks last out.after) rest bs

  abbrev pub SpellingAll : Writing → Trees → Written → List ℕ → List Built → Type 0
  SpellingAll w es out last bs = (rest : List UnifyCommand) → BuildsAll n sigs (marks last w) (out.commands ++ rest) (all_renamed (g last) es) (marks last out.after) rest bs

  -- ---- references

  mark-there : (last : List ℕ) (w : Writing) (i : ℕ) (e : Tree) → slice_get w.trees i ≡ Some e → slice_get (marks last w).trees i ≡ Some (renamed (g last) e)
  mark-there last w i e at = slice_get-map (renamed (g last)) w.trees i ∙ ap (option_map (renamed (g last))) at

  ref-wrote : (w : Writing) → Right own ctx w → (i : ℕ) (e : Tree) → slice_get w.trees i ≡ Some e → (S : List ℕ → List Built → Type 0) → ((last : List ℕ) → S last [])
      → Wrote w (λ y. Occurs y e) (record { commands = u_ref i ∷ []; after = w }) S
  ref-wrote w right i e at S spells = record {
    right = right;
    all = right.known i e at;
    bs = [];
    good = good-none own w;
    known = λ i b there. absurd cc;
    stands = (tt, tt);
    plain = λ h. ((tt, tt), refl);
    spells = λ last others is. spells last;
  }

  -- ---- a dummy at its first place

  meeting-right : (w : Writing) → Right own ctx w → (x : ℕ) (b : Binder) → slice_get ctx x ≡ Some b → (Met own w x → ⊥) → Right own ctx (meeting w x)
  meeting-right w right x b at out = record {
    marked = λ y h. marked y (Contains-push_cases (own ++ w.dummies) x y (subst (λ (z : List ℕ). Contains z y) (sym (append_assoc own w.dummies (x ∷ []))) h));
    once = subst AreOnce (append_assoc own w.dummies (x ∷ [])) (once-more (own ++ w.dummies) x right.once out);
    inside = λ y h. inside y (Contains-push_cases w.dummies x y h);
    known = λ i t there. known i t (split_at w.trees (var x ∷ []) i t there);
  }
    where
      marked : (y : ℕ) → Contains (own ++ w.dummies) y ⊎ (x ≡ y) → (i : ℕ) × (slice_get (w.trees ++ var x ∷ []) i ≡ Some (var y))
      marked y (inl h) = let (i, there) = right.marked y h in (i, slice_get-append w.trees (var x ∷ []) i (var y) there)
      marked y (inr is) = (length w.trees, slice_get-last w.trees (var x) ∙ ap (λ (z : ℕ). Some (var z)) is)

      inside : (y : ℕ) → Contains w.dummies y ⊎ (x ≡ y) → (c : Binder) × (slice_get ctx y ≡ Some c)
      inside y (inl h) = right.inside y h
      inside y (inr is) = (b, ap (slice_get ctx) (sym is) ∙ at)

      known : (i : ℕ) (t : Tree) → (slice_get w.trees i ≡ Some t) ⊎ ((k : ℕ) × (i ≡ length w.trees + k) × (slice_get (var x ∷ []) k ≡ Some t)) → (y : ℕ) → Occurs y t → Met own (meeting w x) y
      known i t (inl there) y o = met-grown own w (meeting w x) (x ∷ [], refl) y (right.known i t there y o)
      known i t (inr (zero, _, there)) y o =
          let is : var x ≡ t = cc in
          let same : y ≡ x = subst (Occurs y) (sym is) o in
          subst (Met own (meeting w x)) (sym same) (subst (λ (z : List ℕ). Contains z x) (append_assoc own w.dummies (x ∷ [])) (Contains-push (own ++ w.dummies) x))
      known i t (inr (suc k, _, there)) y o = absurd cc

  abbrev made : List Tree → List Binder → Marks
  made ts ds = record { trees = ts; dummies = ds }

  abbrev dummy : Writing → ℕ → Written
  dummy w x = record { commands = u_dummy (binder_at ctx x).sort ∷ []; after = meeting w x }

  abbrev built : Tree → Bool → ℕ → Built
  built t b k = record { term = t; saved = b; met = k }

  marks-meeting : (last : List ℕ) (w : Writing) (x : ℕ) → marks last (meeting w x) ≡ with_dummy (marks last w) (g last x) (binder_at ctx x).sort
  marks-meeting last w x =
      ap (λ (z : List Tree). made z (spelled_dummies ctx (w.dummies ++ x ∷ []))) (map-append (renamed (g last)) w.trees (var x ∷ []))
      ∙ ap (made (map (renamed (g last)) w.trees ++ var (g last x) ∷ [])) (map-append (λ (z : ℕ). dummy_of (binder_at ctx z).sort) w.dummies (x ∷ []))

  dummies-long : (last : List ℕ) (w : Writing) → length (marks last w).dummies ≡ length w.dummies
  dummies-long last w = length-map w.dummies (λ (z : ℕ). dummy_of (binder_at ctx z).sort)

  name-new : (last others : List ℕ) (w : Writing) (x : ℕ) → (Met own w x → ⊥) → last ≡ (w.dummies ++ x ∷ []) ++ others → g last x ≡ n + length w.dummies
  name-new last others w x out is =
      let met : List ℕ = own ++ w.dummies in
      let shape : own ++ last ≡ (met ++ x ∷ []) ++ others =
      ap (λ (z : List ℕ). own ++ z) is ∙ sym (append_assoc own (w.dummies ++ x ∷ []) others) ∙ ap (λ (z : List ℕ). z ++ others) (sym (append_assoc own w.dummies (x ∷ []))) in
      ap (place_of x) shape ∙ place-front (met ++ x ∷ []) others x (Contains-push met x) ∙ place-new met x out ∙ length-append own w.dummies

  dummy-wrote : (w : Writing) → Right own ctx w → (x : ℕ) (b : Binder) → slice_get ctx x ≡ Some b → place_in (var x) w.trees ≡ None
      → Wrote w (λ y. Occurs y (var x)) (record { commands = u_dummy (binder_at ctx x).sort ∷ []; after = meeting w x }) (Spelling w (var x) (record { commands = u_dummy (binder_at ctx x).sort ∷ []; after = meeting w x }))
  dummy-wrote w right x b at missing =
      let out : Met own w x → ⊥ = λ h. (let (i, there) = right.marked x h in place-missing (var x) w.trees missing i there) in
      record {
        right = meeting-right w right x b at out;
        all = λ y o. subst (Met own (meeting w x)) (sym o) (subst (λ (z : List ℕ). Contains z x) (append_assoc own w.dummies (x ∷ [])) (Contains-push (own ++ w.dummies) x));
        bs = [];
        good = record {
          grown = (x ∷ [], refl);
          keeps = λ i t there. slice_get-append w.trees (var x ∷ []) i t there;
          apart = λ i c there. absurd cc;
          kept = λ i c there. absurd cc;
          once = λ i j c d there. absurd cc;
          saves = λ i c there. absurd cc;
        };
        known = λ i c there. absurd cc;
        stands = (tt, tt);
        plain = λ h. absurd (out (Contains-append_left own w.dummies x (h x refl)));
        spells = λ last others is rest.
            (inr ((binder_at ctx x).sort, refl, name-new last others w x out is ∙ ap (λ (z : ℕ). n + z) (sym (dummies-long last w)), marks-meeting last w x), refl);
      }

  var-wrote : (w : Writing) → Right own ctx w → (x : ℕ) (b : Binder) → slice_get ctx x ≡ Some b → Wrote w (λ y. Occurs y (var x)) (write own ctx w (var x)) (Spelling w (var x) (write own ctx w (var x)))
  var-wrote w right x b at = go (place_in (var x) w.trees) refl
    where
      go : (o : Option ℕ) → place_in (var x) w.trees ≡ o → Wrote w (λ y. Occurs y (var x)) (referred o w (dummy w x)) (Spelling w (var x) (referred o w (dummy w x)))
      go (Some i) is = ref-wrote w right i (var x) (place-found (var x) w.trees i is) (Spelling w (var x) (record { commands = u_ref i ∷ []; after = w }))
          (λ last rest. (inl (i, refl, mark-there last w i (var x) (place-found (var x) w.trees i is), refl), refl))
      go None is = dummy-wrote w right x b at is

  -- ---- an application that is written out

  abbrev w-after : Bool → Writing → Tree → Writing
  w-after saved w e = marked_if saved w e

  marked-right : (w : Writing) → Right own ctx w → (e : Tree) (saved : Bool) → are_met (own ++ w.dummies) e ≡ saved → Right own ctx (marked_if saved w e)
  marked-right w right e false is = right
  marked-right w right e true is = record {
    marked = λ y h. (let (i, there) = right.marked y h in (i, slice_get-append w.trees (e ∷ []) i (var y) there));
    once = right.once;
    inside = right.inside;
    known = λ i t there. known i t (split_at w.trees (e ∷ []) i t there);
  }
    where
      known : (i : ℕ) (t : Tree) → (slice_get w.trees i ≡ Some t) ⊎ ((k : ℕ) × (i ≡ length w.trees + k) × (slice_get (e ∷ []) k ≡ Some t)) → (y : ℕ) → Occurs y t → Met own w y
      known i t (inl there) y o = right.known i t there y o
      known i t (inr (zero, _, there)) y o = let same : e ≡ t = cc in all-met (own ++ w.dummies) e is y (subst (Occurs y) (sym same) o)
      known i t (inr (suc k, _, there)) y o = absurd cc

  abbrev head-making : Bool → Writing → Tree → Making
  head-making saved w e = record { term = e; saved = saved; met = w.dummies }

  only : (b c : Making) (i : ℕ) → slice_get (b ∷ []) i ≡ Some c → (i ≡ 0) × (b ≡ c)
  only b c zero at = (refl, cc)
  only b c (suc i) at = absurd cc

  head-good : (w : Writing) (e : Tree) (saved : Bool) → are_met (own ++ w.dummies) e ≡ saved → place_in e w.trees ≡ None → Good own w (head-making saved w e ∷ []) (marked_if saved w e)
  head-good w e saved is missing = record {
    grown = grown saved;
    keeps = keeps saved;
    apart = λ i b at k there. place-missing e w.trees missing k (there ∙ ap (λ (z : Making). Some z.term) (sym (only (head-making saved w e) b i at).1));
    kept = λ i b at full. (let same = (only (head-making saved w e) b i at).1 in
        let (k, there) = kept saved is (subst (IsFull own) (sym same) full) in (k, there ∙ ap (λ (z : Making). Some z.term) same));
    once = λ i j b c at at' full full' same. (only (head-making saved w e) b i at).0 ∙ sym (only (head-making saved w e) c j at').0;
    saves = λ i b at h. (let same = (only (head-making saved w e) b i at).1 in subst (IsFull own) same (all-met (own ++ w.dummies) e (is ∙ ap (λ (z : Making). z.saved) same ∙ h)));
  }
    where
      grown : (b : Bool) → Grown own w (marked_if b w e)
      grown true = ([], sym (append-nil w.dummies))
      grown false = ([], sym (append-nil w.dummies))

      keeps : (b : Bool) (i : ℕ) (t : Tree) → slice_get w.trees i ≡ Some t → slice_get (marked_if b w e).trees i ≡ Some t
      keeps true i t at = slice_get-append w.trees (e ∷ []) i t at
      keeps false i t at = at

      kept : (b : Bool) → are_met (own ++ w.dummies) e ≡ b → ((y : ℕ) → Occurs y e → Contains (own ++ w.dummies) y) → (k : ℕ) × (slice_get (marked_if b w e).trees k ≡ Some e)
      kept true is' full = (length w.trees, slice_get-last w.trees e)
      kept false is' full = absurd (not-both (are_met (own ++ w.dummies) e) (met-all (own ++ w.dummies) e full) is')

  same-dummies : (saved : Bool) (w : Writing) (e : Tree) → (marked_if saved w e).dummies ≡ w.dummies
  same-dummies true w e = refl
  same-dummies false w e = refl

  headed-wrote : (w : Writing) → Right own ctx w → (t : ℕ) (es : Trees) (d : Signature) → slice_get sigs t ≡ Some d → Fits sigs ctx es d.params → place_in (app t es) w.trees ≡ None
      → (saved : Bool) → are_met (own ++ w.dummies) (app t es) ≡ saved → (out : Written)
      → Wrote (marked_if saved w (app t es)) (λ y. OccursIn y es) out (SpellingAll (marked_if saved w (app t es)) es out)
      → Wrote w (λ y. Occurs y (app t es)) (headed (head_of saved t) out) (Spelling w (app t es) (headed (head_of saved t) out))
  headed-wrote w right t es d at fits missing saved is out wrote = record {
    right = wrote.right;
    all = wrote.all;
    bs = head-making saved w (app t es) ∷ wrote.bs;
    good = good;
    known = known;
    stands = (stand saved of_definition, wrote.stands);
    plain = λ h. ((stand saved of_assertion, (wrote.plain h).0), (wrote.plain h).1 ∙ same-dummies saved w (app t es));
    spells = λ last others last-is rest. spell saved last (wrote.spells last others last-is rest);
  }
    where
      good : Good own w (head-making saved w (app t es) ∷ wrote.bs) out.after
      good = good-join own w (marked_if saved w (app t es)) out.after (head-making saved w (app t es) ∷ []) wrote.bs (head-good w (app t es) saved is missing) wrote.good

      known : Known own (head-making saved w (app t es) ∷ wrote.bs) out.after
      known zero b there =
          let same : head-making saved w (app t es) ≡ b = cc in
          subst (λ (z : Making). ((y : ℕ) → Occurs y z.term → Met own out.after y) × ((others : List ℕ) × (out.after.dummies ≡ z.met ++ others))) same (wrote.all, good.grown)
      known (suc i) b there = wrote.known i b there

      stand : (b : Bool) (kind : StreamKind) → StandsIn kind (head_of b t)
      stand true of_assertion = tt
      stand false of_assertion = tt
      stand _ _ = tt

      has : (last : List ℕ) → HasOperands sigs t (all_renamed (g last) es)
      has last = (d, at, fits-long sigs ctx (g last) es d.params fits)

      built-is : (b : Bool) (last : List ℕ) → spelled last (head-making b w (app t es)) ≡ record { term = app t (all_renamed (g last) es); saved = b; met = length (marks last w).dummies }
      built-is b last = ap (λ (z : ℕ). built (app t (all_renamed (g last) es)) b z) (sym (dummies-long last w))

      spell : (b : Bool) (last : List ℕ) {rest : List UnifyCommand} → BuildsAll n sigs (marks last (marked_if b w (app t es))) (out.commands ++ rest) (all_renamed (g last) es) (marks last out.after) rest (all_spelled last wrote.bs)
          → Builds n sigs (marks last w) ((head_of b t ∷ out.commands) ++ rest) (app t (all_renamed (g last) es)) (marks last out.after) rest (all_spelled last (head-making b w (app t es) ∷ wrote.bs))
      spell false last {rest} all =
          inr (inl (out.commands ++ rest, all_spelled last wrote.bs, refl, has last, all, ap (λ (z : Built). z ∷ all_spelled last wrote.bs) (built-is false last)))
      spell true last {rest} all =
          inr (inr (
            out.commands ++ rest,
            all_spelled last wrote.bs,
            refl,
            has last,
            subst (λ (z : List Tree). BuildsAll n sigs (made z (marks last w).dummies) (out.commands ++ rest) (all_renamed (g last) es) (marks last out.after) rest (all_spelled last wrote.bs))
                (map-append (renamed (g last)) w.trees (app t es ∷ [])) all,
            ap (λ (z : Built). z ∷ all_spelled last wrote.bs) (built-is true last),
          ))

  app-wrote : (w : Writing) → Right own ctx w → (t : ℕ) (es : Trees) (d : Signature) → slice_get sigs t ≡ Some d → Fits sigs ctx es d.params
      → ((saved : Bool) → Right own ctx (marked_if saved w (app t es)) → Wrote (marked_if saved w (app t es)) (λ y. OccursIn y es) (write_all own ctx (marked_if saved w (app t es)) es) (SpellingAll (marked_if saved w (app t es)) es (write_all own ctx (marked_if saved w (app t es)) es)))
      → Wrote w (λ y. Occurs y (app t es)) (write own ctx w (app t es)) (Spelling w (app t es) (write own ctx w (app t es)))
  app-wrote w right t es d at fits all = go (place_in (app t es) w.trees) refl (are_met (own ++ w.dummies) (app t es)) refl
    where
      go : (o : Option ℕ) → place_in (app t es) w.trees ≡ o → (saved : Bool) → are_met (own ++ w.dummies) (app t es) ≡ saved
          → Wrote w (λ y. Occurs y (app t es)) (referred o w (headed (head_of saved t) (write_all own ctx (marked_if saved w (app t es)) es)))
          (Spelling w (app t es) (referred o w (headed (head_of saved t) (write_all own ctx (marked_if saved w (app t es)) es))))
      go (Some i) is saved s-is = ref-wrote w right i (app t es) (place-found (app t es) w.trees i is) (Spelling w (app t es) (record { commands = u_ref i ∷ []; after = w }))
          (λ last rest. inl (i, refl, mark-there last w i (app t es) (place-found (app t es) w.trees i is), refl, refl))
      go None is saved s-is =
          headed-wrote w right t es d at fits is saved s-is (write_all own ctx (marked_if saved w (app t es)) es) (all saved (marked-right w right (app t es) saved s-is))

  -- ---- one after another

  none-wrote : (w : Writing) → Right own ctx w → Wrote w (λ y. OccursIn y none) (record { commands = []; after = w }) (SpellingAll w none (record { commands = []; after = w }))
  none-wrote w right = record {
    right = right;
    all = λ y o. absurd o;
    bs = [];
    good = good-none own w;
    known = λ i b there. absurd cc;
    stands = tt;
    plain = λ h. (tt, refl);
    spells = λ last others is rest. (refl, refl, refl);
  }

  pub join-wrote : (w : Writing) (Occ Occ' : ℕ → Type 0) (a b : Written) (S S' T : List ℕ → List Built → Type 0) → Wrote w Occ a S → Wrote a.after Occ' b S'
      → ((last : List ℕ) (cs ds : List Built) → S last cs → S' last ds → T last (cs ++ ds))
      → Wrote w (λ y. Occ y ⊎ Occ' y) (record { commands = a.commands ++ b.commands; after = b.after }) T
  join-wrote w Occ Occ' a b S S' T first second both = record {
    right = second.right;
    all = λ y o. elim o [ inl h ↦ met-grown own a.after b.after second.good.grown y (first.all y h) | inr h ↦ second.all y h ];
    bs = first.bs ++ second.bs;
    good = good-join own w a.after b.after first.bs second.bs first.good second.good;
    known = known-join own a.after b.after first.bs second.bs second.good.grown first.known second.known;
    stands = stand-append of_definition a.commands b.commands first.stands second.stands;
    plain = λ h. (
      stand-append of_assertion a.commands b.commands (first.plain λ y o. h y (inl o)).0 (second.plain λ y o. h y (inr o)).0,
      (second.plain λ y o. h y (inr o)).1 ∙ (first.plain λ y o. h y (inl o)).1,
    );
    spells = λ last others is. (let (xs, grown) = second.good.grown in
        subst (T last) (sym (map-append (spelled last) first.bs second.bs))
        (both last (all_spelled last first.bs) (all_spelled last second.bs)
        (first.spells last (xs ++ others) (is ∙ ap (λ (z : List ℕ). z ++ others) grown ∙ append_assoc a.after.dummies xs others)) (second.spells last others is)));
  }

  mutual
    pub wrote : (w : Writing) → Right own ctx w → (e : Tree) (s : ℕ) → HasSort sigs ctx e s → Wrote w (λ y. Occurs y e) (write own ctx w e) (Spelling w e (write own ctx w e))
    wrote w right (var x) s (b, at, _) = var-wrote w right x b at
    wrote w right (app t es) s (d, at, _, fits) = app-wrote w right t es d at fits (λ saved right'. all-wrote (marked_if saved w (app t es)) right' es d.params fits)

    pub all-wrote : (w : Writing) → Right own ctx w → (es : Trees) (ps : List Binder) → Fits sigs ctx es ps → Wrote w (λ y. OccursIn y es) (write_all own ctx w es) (SpellingAll w es (write_all own ctx w es))
    all-wrote w right none ps fits = none-wrote w right
    all-wrote w right (more e es) [] fits = absurd fits
    all-wrote w right (more e es) (p ∷ ps) (has, _, fits) =
        let a : Written = write own ctx w e in
        let b : Written = write_all own ctx a.after es in
        let first = wrote w right e p.sort has in
        join-wrote w (λ y. Occurs y e) (λ y. OccursIn y es) a b (Spelling w e a) (SpellingAll a.after es b) (SpellingAll w (more e es) (and_then (write own ctx w e) (λ v. write_all own ctx v es)))
        first (all-wrote a.after first.right es ps fits)
        (λ last cs ds one others rest. (
          marks last a.after,
          b.commands ++ rest,
          cs,
          ds,
          subst (λ (z : List UnifyCommand). Builds n sigs (marks last w) z (renamed (g last) e) (marks last a.after) (b.commands ++ rest) cs) (sym (append_assoc a.commands b.commands rest)) (one (b.commands ++ rest)),
          others rest,
          refl,
        ))
