-- Parameters that stand in a store already.
use Rattle.std.proofs.Common.{◌≡◌, ◌<◌, ◌≤◌, ◌^◌, ◌∙◌, ℕ, zero, suc, List, length, take, sym, ap, subst, arith}
use Rattle.std.proofs.Math.Seq.{take-append_seam}
use Rattle.std.proofs.lemmas.List.FromFn.{length-map-range_with_len}
use Rattle.mz_logic_theory.specs.Tree.{var}
use Rattle.mz_logic_theory.specs.Signature.{Signature}
use Rattle.mz_logic_theory.specs.Words.{binders_of}
use Rattle.mz_logic_theory.specs.declared.binder.Binder.{Binder}
use Rattle.mz_logic_theory.specs.declared.word.Word.{Word}
use Rattle.mz_store.specs.Bits.{bound_vars}
use Rattle.mz_store.specs.Sharing.{Sharing, tree_of, IsOver}
use Rattle.mz_store.specs.declared.item.DepsMode.{DepsMode}
use Rattle.mz_layout_tables.specs.Layout.{HoldsWords, IsBinary}
use Rattle.mz_layout_tables.specs.Tables.{param_count, params_of, term_record, thm_record, word_at}
use Rattle.mz_layout_tables.specs.declared.rows_so_far.Rows.{Rows}
use Rattle.mz_machine_theory.specs.MachineState.{Kind, is_axiom, is_theorem, is_definition}
use Rattle.mz_machine_theory.specs.Headings.{heading_by}
use Rattle.mz_machine_env.specs.OwnRow.{IsNextRow, mode_for, own_words, words_from}
use Rattle.mz_machine_env.proofs.Offered.{binders_many, own-binders}
use Rattle.mz_unify.specs.declared.stop.Stop.{Stop}
use Rattle.mz_unify.specs.declared.stop.Stop.TheVariants.{Rule, Mem}
use Rattle.mz_machine.specs.OverStore.{AreFirst, IsContextOf}
use Rattle.mz_machine.specs.Parameters.{AreEntered, IsOwn, Remembers}
use Rattle.mz_machine.specs.Stepping.{stopped_at}
use Rattle.mz_machine.specs.BodyAnswers.{WhereGood}
use Rattle.mz_machine.specs.declared.body.BodyChecked.{BodyChecked}
use Rattle.mz_machine.specs.declared.body.BodyChecked.TheVariants as checked
use Rattle.mz_machine.specs.declared.params.Entered.{Entered}

-- ---- the first expressions

pub first-many : (s : Sharing) (n : ℕ) → AreFirst s n → n ≤ length s.entries
first-many s zero first = omega arith
first-many s (suc n) first = let last : n < length s.entries = (first n (omega arith)).0 in omega (arith, last)

first-params : (ps ctx : List Binder) → IsContextOf ps ctx → take (length ps) ctx ≡ ps
first-params ps ctx (ds, is, all) = ap (take (length ps)) is ∙ take-append_seam ps ds

many-words : (file : List ℕ) (at n : ℕ) → length (words_from file at n) ≡ n
many-words file at n = length-map-range_with_len _ 0 n

many-binders : (file : List ℕ) (at n : ℕ) → length (binders_of (words_from file at n)) ≡ n
many-binders file at n = binders_many (words_from file at n) ∙ many-words file at n

-- ---- they are those of these words

module _ (file : List ℕ) (e : Entered) (s : Sharing) (r : Remembers file e s) where
  again : take e.params s.context ≡ binders_of (words_from file e.at e.params)
  again = ap (λ n. take n s.context) (sym (many-binders file e.at e.params)) ∙ first-params (binders_of (words_from file e.at e.params)) s.context r.context

  pub bound-again : e.bound ≡ length (bound_vars (take e.params s.context))
  bound-again = r.bound ∙ ap (λ (ps : List Binder). length (bound_vars ps)) (sym again)

  pub entered-again : (s' : Sharing) (ws : List Word) (mode : DepsMode) → ws ≡ words_from file e.at e.params → e.mode ≡ mode
      → s'.mode ≡ s.mode → s'.context ≡ take e.params s.context → length s'.entries ≡ e.params → ((i : ℕ) → i < e.params → tree_of s' i ≡ var i)
      → ((sigs others : List Signature) → IsOver sigs s → IsOver others s') → AreEntered ws mode s'
  entered-again s' ws mode words told same ctx many trees over = record {
    mode = same ∙ r.mode ∙ told;
    context = ctx ∙ again ∙ ap binders_of (sym words);
    many = many ∙ sym (ap length words ∙ many-words file e.at e.params);
    trees = λ i less. trees i (omega (arith, less, ap length words, many-words file e.at e.params));
    over = λ sigs. over r.over.0 sigs r.over.1;
  }

-- those of a row of the file
pub entered-as : (f file : List ℕ) (row : ℕ) (k kind : Kind) (s : Sharing) → f ≡ file → k ≡ kind → AreEntered (own_words f row k) (mode_for k) s → AreEntered (own_words file row kind) (mode_for kind) s
entered-as f file row k kind s e1 e2 h = subst (λ (j : Kind). AreEntered (own_words file row j) (mode_for j) s) e2 (subst (λ (g : List ℕ). AreEntered (own_words g row k) (mode_for k) s) e1 h)

-- ---- those of a body's own row

module _ (file : List ℕ) (row : ℕ) (kind : Kind) (e : Entered) (own : IsOwn file row kind e) where
  own-params : (heading_by file row kind).params ≡ binders_of (words_from file e.at e.params)
  own-params = own-binders file row kind ∙ ap binders_of own.words

  pub own-words : e.params ≡ length (own_words file row kind)
  own-words = sym (ap length own.words ∙ many-words file e.at e.params)

  pub own-many : e.params ≡ length (heading_by file row kind).params
  own-many = sym (ap length own-params ∙ many-binders file e.at e.params)

  pub own-bound : e.bound ≡ length (bound_vars (heading_by file row kind).params)
  own-bound = own.bound ∙ ap (λ (ps : List Binder). length (bound_vars ps)) (sym own-params)

  pub remembered : (s : Sharing) → s.mode ≡ mode_for kind → IsContextOf (heading_by file row kind).params s.context
      → AreFirst s (length (heading_by file row kind).params) → (sigs : List Signature) → IsOver sigs s → Remembers file e s
  remembered s mode ctx first sigs over = record {
    mode = mode ∙ sym own.mode;
    context = subst (λ (ps : List Binder). IsContextOf ps s.context) own-params ctx;
    first = subst (AreFirst s) (sym own-many) first;
    bound = own.bound;
    over = (sigs, over);
  }

pub own-as : (f file : List ℕ) (row : ℕ) (k kind : Kind) (e : Entered) → f ≡ file → k ≡ kind → IsOwn f row k e → IsOwn file row kind e
own-as f file row k kind e e1 e2 h = subst (λ (j : Kind). IsOwn file row j e) e2 (subst (λ (g : List ℕ). IsOwn g row k e) e1 h)

-- there are fewer than 2^32, since they stand in the file
few-in : (file : List ℕ) (further at : ℕ) → HoldsWords file further at → length file < 2 ^ 32 → length (params_of file at) < 2 ^ 32
few-in file further at holds fits = omega (arith, holds, fits, length-map-range_with_len (word_at file at) 0 (param_count file at))

pub own-few : (file : List ℕ) (before : Rows) (row : ℕ) (kind : Kind) → IsBinary file → IsNextRow file before row kind → length (own_words file row kind) < 2 ^ 32
own-few file before row is_axiom b next = few-in file 0 (thm_record file row) (b.parts.thms row next.1).1 b.fits
own-few file before row is_theorem b next = few-in file 0 (thm_record file row) (b.parts.thms row next.1).1 b.fits
own-few file before row is_definition b next = few-in file 1 (term_record file row) (b.parts.terms row next.1).1 b.fits

-- ---- what is known behind a body

pub where-good : (r : BodyChecked) (P : Type 0) → P → WhereGood r P
where-good (checked.Good end) P p = p
where-good (checked.Refused at d) P p = tt
where-good checked.Mem P p = tt

pub stopped-good : (r : BodyChecked) (at : ℕ) (stop : Stop) (P : Type 0) → r ≡ stopped_at at stop → WhereGood r P
stopped-good r at (Rule k) P is = subst (λ (c : BodyChecked). WhereGood c P) (sym is) tt
stopped-good r at Mem P is = subst (λ (c : BodyChecked). WhereGood c P) (sym is) tt
