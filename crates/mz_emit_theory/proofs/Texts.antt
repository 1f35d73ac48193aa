-- The streams that are written for statements: what they spell and what they build.
use Rattle.std.proofs.Common.{◌≡◌, ℕ, ◌+◌, ◌<◌, List, [], ◌∷◌, ◌++◌, length, map, refl, sym, ap, subst, ◌∙◌, inl, inr, arith, append_assoc, append-nil, length-append, get_or}
use Rattle.std.specs.Prelude.{Contains, reverse}
use Rattle.std.proofs.lemmas.List.{map-append}
use Rattle.std.proofs.lemmas.Option.{get_or_from_slice_get}
use Rattle.mz_base.proofs.Offered.{slice_get-map_back}
use Rattle.mz_logic_theory.specs.Tree.{Tree, Trees, var, app, none, more, listed}
use Rattle.mz_logic_theory.specs.Signature.{Signature}
use Rattle.mz_logic_theory.specs.Variables.{Occurs, OccursIn}
use Rattle.mz_logic_theory.specs.declared.binder.Binder.{Binder}
use Rattle.mz_machine_theory.specs.Streams.{StreamKind, of_assertion, of_definition, UnifyCommand}
use Rattle.mz_machine_theory.specs.Spells.{Marks, at_first, Text}
use Rattle.mz_machine_theory.specs.Sorted.{Sorted, AllSorted}
use Rattle.mz_machine_theory.proofs.Offered.{sorted-reverse}
use Rattle.mz_emit_theory.specs.SymbolicState.{renamed, all_renamed, name_in, from_to, place_of}
use Rattle.mz_emit_theory.proofs.Naming.{place-at}
use Rattle.mz_emit_theory.specs.StreamWriting.{Writing, Written, writing_start, write, write_hyps, assertion_written, definition_written, body_spelled, dummies_spelled, spelled_dummies, stream_of, AreShort}
use Rattle.mz_emit_theory.specs.Sharing.{Built, Builds, BuildsHyps, BuildsText, IsWhole, BuildsWholeOnce}
use Rattle.mz_emit_theory.specs.StreamLaws.{AssertionsAreWritten, DefinitionsAreWritten, AssertionsAreShared, DefinitionsAreShared}
use Rattle.mz_emit_theory.proofs.Forgetting.{building-spells}
use Rattle.mz_emit_theory.proofs.Marking.{place-front, place-below, place-among}
use Rattle.mz_emit_theory.proofs.StreamGrowing.{Making, AllStandIn, stand-append, IsFull, Right, Good, good-none, good-join, Known, known-join}
use Rattle.mz_emit_theory.proofs.Writes.{marks, spelled, all_spelled, wrote}
use Rattle.mz_emit_theory.proofs.Own.{own-long, writing-right, sorted-own, own-name, own-kept, renamed-self, occurs-back, occurs-named}
use Rattle.mz_emit_theory.proofs.StreamBytes.{stream-is}

-- ---- hypotheses, over parameters alone

module _ (sigs : List Signature) (params : List Binder) where
  abbrev own' : List ℕ
  own' = from_to 0 params

  pub record WroteHyps (w : Writing) (hs : List Tree) (out : Written) : Type 0 where
    pub bs : List Making
    pub good : Good own' w bs out.after
    pub known : Known own' bs out.after
    pub plain : AllStandIn of_assertion out.commands × (out.after.dummies ≡ w.dummies)
    pub spells : (last others : List ℕ) → last ≡ out.after.dummies ++ others
        → BuildsHyps (length own') sigs (marks sigs params own' last w) out.commands (map (renamed (name_in (own' ++ last))) hs) (marks sigs params own' last out.after) (all_spelled sigs params own' last bs)

  hyps-wrote : (w : Writing) → Right own' params w → (hs : List Tree) → AllSorted sigs params hs → WroteHyps w hs (write_hyps own' params w hs)
  hyps-wrote w right [] sorted = record {
    bs = [];
    good = good-none own' w;
    known = λ i b there. absurd cc;
    plain = (tt, refl);
    spells = λ last others is. (refl, refl, refl);
  }
  hyps-wrote w right (h ∷ hs) ((s, has), sorted) =
      let first = wrote sigs params own' w right h s has in
      let a : Written = write own' params w h in
      let b : Written = write_hyps own' params a.after hs in
      let second = hyps-wrote a.after first.right hs sorted in
      let within : (y : ℕ) → Occurs y h → Contains own' y = sorted-own sigs params h s has in
      record {
        bs = first.bs ++ second.bs;
        good = good-join own' w a.after b.after first.bs second.bs first.good second.good;
        known = known-join own' a.after b.after first.bs second.bs second.good.grown first.known second.known;
        plain = ((tt, stand-append of_assertion a.commands b.commands (first.plain within).0 second.plain.0), second.plain.1 ∙ (first.plain within).1);
        spells = λ last others is. (let (xs, grown) = second.good.grown in (
          a.commands ++ b.commands,
          marks sigs params own' last a.after,
          b.commands,
          all_spelled sigs params own' last first.bs,
          all_spelled sigs params own' last second.bs,
          refl,
          first.spells last (xs ++ others) (is ∙ ap (λ (z : List ℕ). z ++ others) grown ∙ append_assoc a.after.dummies xs others) b.commands,
          second.spells last others is,
          map-append (spelled sigs params own' last) first.bs second.bs,
        ));
      }

-- ---- nothing is built twice

module _ (sigs : List Signature) (params ctx : List Binder) (w w' : Writing) (bs : List Making) (good : Good (from_to 0 params) w bs w') (known : Known (from_to 0 params) bs w') where
  abbrev in-the-end : List ℕ
  in-the-end = w'.dummies

  abbrev met : List ℕ
  met = from_to 0 params ++ in-the-end

  abbrev spell : Making → Built
  spell = spelled sigs ctx (from_to 0 params) in-the-end

  name-full : (b : Making) (others : List ℕ) → in-the-end ≡ b.met ++ others → (x : ℕ) → Contains (from_to 0 params ++ b.met) x → name_in met x < length params + length b.met
  name-full b others is x h =
      let shape : met ≡ (from_to 0 params ++ b.met) ++ others = ap (λ (z : List ℕ). from_to 0 params ++ z) is ∙ sym (append_assoc (from_to 0 params) b.met others) in
      let same : name_in met x ≡ place_of x (from_to 0 params ++ b.met) = ap (place_of x) shape ∙ place-front (from_to 0 params ++ b.met) others x h in
      let below = place-below (from_to 0 params ++ b.met) x h in
      let long = length-append (from_to 0 params) b.met in
      let own-is = own-long 0 params in
      omega (arith, same, below, long, own-is)

  full-name : (b : Making) (others : List ℕ) → in-the-end ≡ b.met ++ others → (x : ℕ) → name_in met x < length params + length b.met → Contains (from_to 0 params ++ b.met) x
  full-name b others is x lt =
      let shape : met ≡ (from_to 0 params ++ b.met) ++ others = ap (λ (z : List ℕ). from_to 0 params ++ z) is ∙ sym (append_assoc (from_to 0 params) b.met others) in
      let same : name_in met x ≡ place_of x ((from_to 0 params ++ b.met) ++ others) = ap (place_of x) shape in
      let long = length-append (from_to 0 params) b.met in
      let own-is = own-long 0 params in
      place-among (from_to 0 params ++ b.met) others x (omega (arith, same, lt, long, own-is))

  full-whole : (b : Making) (others : List ℕ) → in-the-end ≡ b.met ++ others → IsFull (from_to 0 params) b → IsWhole (length params) (spell b)
  full-whole b others is full z o = let (x, h, name) = occurs-back (name_in met) b.term z o in subst (λ (k : ℕ). k < length params + length b.met) name (name-full b others is x (full x h))

  whole-full : (b : Making) (others : List ℕ) → in-the-end ≡ b.met ++ others → IsWhole (length params) (spell b) → IsFull (from_to 0 params) b
  whole-full b others is whole x o = full-name b others is x (whole (name_in met x) (occurs-named (name_in met) b.term x o))

  -- back from the names
  abbrev unname : ℕ → ℕ
  unname k = get_or met k 0

  mutual
    unnamed : (e : Tree) → ((y : ℕ) → Occurs y e → Contains met y) → renamed unname (renamed (name_in met) e) ≡ e
    unnamed (var x) h = ap var (get_or_from_slice_get met (place_of x met) x 0 (place-at met x (h x refl)))
    unnamed (app t es) h = ap (app t) (all-unnamed es h)

    all-unnamed : (es : Trees) → ((y : ℕ) → OccursIn y es → Contains met y) → all_renamed unname (all_renamed (name_in met) es) ≡ es
    all-unnamed none h = refl
    all-unnamed (more e es) h =
        ap (λ (z : Tree). more z (all_renamed unname (all_renamed (name_in met) es))) (unnamed e λ y o. h y (inl o)) ∙ ap (more e) (all-unnamed es λ y o. h y (inr o))

  pub whole-once : BuildsWholeOnce (length params) (all_spelled sigs ctx (from_to 0 params) in-the-end bs)
  whole-once = record {
    saves_whole = λ i c at saved.
        (let (b, b-at, is) = slice_get-map_back spell bs i c at in
        let (_, (others, prefix)) = known i b b-at in
        subst (IsWhole (length params)) is (full-whole b others prefix (good.saves i b b-at (ap (λ (z : Built). z.saved) is ∙ saved))));
    once = λ i j c d at at' same whole whole'.
        (let (b, b-at, is) = slice_get-map_back spell bs i c at in
        let (b', b'-at, is') = slice_get-map_back spell bs j d at' in
        let (vars, (others, prefix)) = known i b b-at in
        let (vars', (others', prefix')) = known j b' b'-at in
        let terms : renamed (name_in met) b.term ≡ renamed (name_in met) b'.term = ap (λ (z : Built). z.term) is ∙ same ∙ sym (ap (λ (z : Built). z.term) is') in
        good.once i j b b' b-at b'-at (whole-full b others prefix (subst (IsWhole (length params)) (sym is) whole)) (whole-full b' others' prefix' (subst (IsWhole (length params)) (sym is') whole'))
        (sym (unnamed b.term vars) ∙ ap (renamed unname) terms ∙ unnamed b'.term vars'));
  }

-- ---- the statements' streams

hyps-self : (sigs : List Signature) (params : List Binder) (last : List ℕ) (hs : List Tree) → AllSorted sigs params hs → map (renamed (name_in (from_to 0 params ++ last))) hs ≡ hs
hyps-self sigs params last [] h = refl
hyps-self sigs params last (e ∷ hs) ((s, has), h) =
    ap (λ (z : Tree). z ∷ map (renamed (name_in (from_to 0 params ++ last))) hs) (renamed-self (name_in (from_to 0 params ++ last)) e λ y o. own-name params last y (sorted-own sigs params e s has y o))
    ∙ ap (λ (z : List Tree). e ∷ z) (hyps-self sigs params last hs h)

starts : (sigs : List Signature) (params ctx : List Binder) (last : List ℕ) → marks sigs ctx (from_to 0 params) last (writing_start params) ≡ at_first params
starts sigs params ctx last = ap from (own-kept params last)
  where
    from : List Tree → Marks
    from ts = record { trees = ts; dummies = [] }

abbrev WritesWell : StreamKind → List Signature → List Binder → List ℕ → Trees → Tree → List Binder → Type 0
WritesWell kind sigs params stream hyps e dummies =
    (end : Marks) × (bs : List Built) × BuildsText kind sigs params stream hyps e end bs × BuildsWholeOnce (length params) bs × (end.dummies ≡ dummies)

-- over the parameters' number, their marks, and the expression
as-stated : (sigs : List Signature) (k k' : ℕ) (m m' mid : Marks) (us rest : List UnifyCommand) (e e' : Tree) (cs : List Built) → k ≡ k' → m ≡ m' → e ≡ e'
    → Builds k sigs m us e mid rest cs → Builds k' sigs m' us e' mid rest cs
as-stated sigs k k' m m' mid us rest e e' cs k-is m-is e-is h =
    subst (λ (z : Tree). Builds k' sigs m' us z mid rest cs) e-is (subst (λ (z : Marks). Builds k' sigs z us e mid rest cs) m-is (subst (λ (z : ℕ). Builds z sigs m us e mid rest cs) k-is h))

assertion-well : (sigs : List Signature) (params : List Binder) (hyps : Trees) (e : Tree) (further : List ℕ) → AllSorted sigs params (listed hyps) → Sorted sigs params e
    → AreShort (assertion_written params hyps e).commands → WritesWell of_assertion sigs params (stream_of (assertion_written params hyps e).commands ++ further) hyps e []
assertion-well sigs params hyps e further hyps-sorted (s, has) short =
    let own : List ℕ = from_to 0 params in
    let w0 : Writing = writing_start params in
    let hs : List Tree = reverse (listed hyps) in
    let hs-sorted : AllSorted sigs params hs = sorted-reverse sigs params (listed hyps) hyps-sorted in
    let a : Written = write own params w0 e in
    let b : Written = write_hyps own params a.after hs in
    let first = wrote sigs params own w0 (writing-right params params) e s has in
    let second = hyps-wrote sigs params a.after first.right hs hs-sorted in
    let plain = first.plain (sorted-own sigs params e s has) in
    let last : List ℕ = b.after.dummies in
    let (xs, grown) = second.good.grown in
    let whole : last ≡ last ++ [] = sym (append-nil last) in
    let one = first.spells last (xs ++ []) (whole ∙ ap (λ (z : List ℕ). z ++ []) grown ∙ append_assoc a.after.dummies xs []) b.commands in
    let rest = second.spells last [] whole in
    let bs : List Making = first.bs ++ second.bs in
    let none-met : last ≡ [] = second.plain.1 ∙ plain.1 in (
      marks sigs params own last b.after,
      all_spelled sigs params own last bs,
      (
        a.commands ++ b.commands,
        stream-is of_assertion (a.commands ++ b.commands) further (stand-append of_assertion a.commands b.commands plain.0 second.plain.0) short,
        marks sigs params own last a.after,
        b.commands,
        all_spelled sigs params own last first.bs,
        all_spelled sigs params own last second.bs,
        as-stated sigs (length own) (length params) (marks sigs params own last w0) (at_first params) (marks sigs params own last a.after) (a.commands ++ b.commands) b.commands (renamed (name_in (own ++ last)) e) e
            (all_spelled sigs params own last first.bs) (own-long 0 params) (starts sigs params params last) (renamed-self (name_in (own ++ last)) e λ y o. own-name params last y (sorted-own sigs params e s has y o)) one,
        subst (λ (z : ℕ). BuildsHyps z sigs (marks sigs params own last a.after) b.commands hs (marks sigs params own last b.after) (all_spelled sigs params own last second.bs)) (own-long 0 params)
            (subst (λ (z : List Tree). BuildsHyps (length own) sigs (marks sigs params own last a.after) b.commands z (marks sigs params own last b.after) (all_spelled sigs params own last second.bs)) (hyps-self sigs params last hs hs-sorted) rest),
        map-append (spelled sigs params own last) first.bs second.bs,
      ),
      whole-once sigs params params w0 b.after bs (good-join own w0 a.after b.after first.bs second.bs first.good second.good)
          (known-join own a.after b.after first.bs second.bs second.good.grown first.known second.known),
      ap (spelled_dummies params) none-met,
    )

definition-well : (sigs : List Signature) (params dummies : List Binder) (body : Tree) (further : List ℕ) → Sorted sigs (params ++ dummies) body
    → AreShort (definition_written params dummies body).commands
    → WritesWell of_definition sigs params (stream_of (definition_written params dummies body).commands ++ further) none (body_spelled params dummies body) (dummies_spelled params dummies body)
definition-well sigs params dummies body further (s, has) short =
    let own : List ℕ = from_to 0 params in
    let ctx : List Binder = params ++ dummies in
    let w0 : Writing = writing_start params in
    let a : Written = write own ctx w0 body in
    let first = wrote sigs ctx own w0 (writing-right params ctx) body s has in
    let last : List ℕ = a.after.dummies in
    let one = first.spells last [] (sym (append-nil last)) [] in
    let one' : Builds (length own) sigs (marks sigs ctx own last w0) a.commands (renamed (name_in (own ++ last)) body) (marks sigs ctx own last a.after) [] (all_spelled sigs ctx own last first.bs) =
    subst (λ (z : List UnifyCommand). Builds (length own) sigs (marks sigs ctx own last w0) z (renamed (name_in (own ++ last)) body) (marks sigs ctx own last a.after) [] (all_spelled sigs ctx own last first.bs)) (append-nil a.commands) one in (
      marks sigs ctx own last a.after,
      all_spelled sigs ctx own last first.bs,
      (
        a.commands,
        stream-is of_definition a.commands further first.stands short,
        marks sigs ctx own last a.after,
        [],
        all_spelled sigs ctx own last first.bs,
        [],
        as-stated sigs (length own) (length params) (marks sigs ctx own last w0) (at_first params) (marks sigs ctx own last a.after) a.commands [] (renamed (name_in (own ++ last)) body) (renamed (name_in (own ++ last)) body)
            (all_spelled sigs ctx own last first.bs) (own-long 0 params) (starts sigs params ctx last) refl one',
        (refl, refl, refl),
        sym (append-nil (all_spelled sigs ctx own last first.bs)),
      ),
      whole-once sigs params ctx w0 a.after first.bs first.good first.known,
      refl,
    )

well-spells : (kind : StreamKind) (sigs : List Signature) (params : List Binder) (stream : List ℕ) (hyps : Trees) (e : Tree) (dummies : List Binder) → WritesWell kind sigs params stream hyps e dummies
    → Text kind sigs params stream hyps e dummies
well-spells kind sigs params stream hyps e dummies (end, bs, builds, twice, is) = (end, building-spells kind sigs params stream hyps e end bs builds, is)

pub assertions-written : AssertionsAreWritten
assertions-written sigs params hyps e hyps-sorted sorted short further =
    well-spells of_assertion sigs params (stream_of (assertion_written params hyps e).commands ++ further) hyps e [] (assertion-well sigs params hyps e further hyps-sorted sorted short)

pub definitions-written : DefinitionsAreWritten
definitions-written sigs params dummies body sorted short further =
    well-spells of_definition sigs params (stream_of (definition_written params dummies body).commands ++ further) none (body_spelled params dummies body) (dummies_spelled params dummies body)
    (definition-well sigs params dummies body further sorted short)

pub assertions-shared : AssertionsAreShared
assertions-shared sigs params hyps e hyps-sorted sorted short further = let (end, bs, builds, twice, _) = assertion-well sigs params hyps e further hyps-sorted sorted short in (end, bs, builds, twice)

pub definitions-shared : DefinitionsAreShared
definitions-shared sigs params dummies body sorted short further = let (end, bs, builds, twice, _) = definition-well sigs params dummies body further sorted short in (end, bs, builds, twice)
