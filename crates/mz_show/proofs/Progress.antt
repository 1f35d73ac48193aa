-- What has been written of a listing so far.
use Rattle.std.proofs.Common.{◌≡◌, ◌≤◌, ◌<◌, ◌+◌, ◌++◌, ◌∙◌, ℕ, List, [], ◌∷◌, length, codes, refl, sym, ap, subst, inl, inr, arith, append_assoc, append-nil, length-append}
use Rattle.mz_base.specs.Checks.{AllHold}
use Rattle.mz_cmd.specs.Codes.{statement_byte}
use Rattle.mz_io.specs.Calls.{Call, Grows, IsWritten, IsCut}
use Rattle.mz_io.proofs.Offered.{grows-both, written-both, cut-after}
use Rattle.mz_layout_tables.specs.Layout.{Layout}
use Rattle.mz_layout_tables.proofs.Offered.{head-ahead}
use Rattle.mz_show.specs.declared.place.Place.{Place}
use Rattle.mz_show.specs.Statements.{Statement, Stands, first_place, after, statement_checks, statement_text}
use Rattle.mz_show.specs.Listing.{Chain, chain_text, EndsAt, IsListed}
use Rattle.mz_show.specs.Answers.{IsWithin}
use Rattle.mz_show.proofs.Statements.{head-there}
use Rattle.mz_show.proofs.OneListing.{Rest, rest-some, chain-snoc, chain-append, text-append}

-- ---- places

-- a step leads further on, within the file
pub record StepsOn (file : List ℕ) (place to : Place) : Type 0 where
  pub within : IsWithin file to
  pub further : place.at < to.at

pub steps-on : (file : List ℕ) (place : Place) (s : Statement) (to : Place) → IsWithin file place → Stands file place s → to ≡ after place s → StepsOn file place to
steps-on file place s to w there e =
    let h = head-ahead file place.at (statement_byte s.head.code) s.head.body s.head.next (head-there file place s.head there.head) in
    subst (λ (q : Place). StepsOn file place q) (sym e) (record {
      within = record { at = h.within; number = omega (arith, h.body_after, h.next_after, w.number) };
      further = omega (arith, h.body_after, h.next_after);
    })

-- ---- the whole text

-- a text that the file is listed with, of which this is a prefix
pub record Front (file front : List ℕ) : Type 0 where
  pub text : List ℕ
  pub rest : List ℕ
  pub listed : IsListed file text
  pub parts : text ≡ front ++ rest

-- ---- progress: what was written before the statement at a place

pub record Progress (file : List ℕ) (clear_before clear : Type 0) (room_before room faults_before faults : ℕ) (calls_before calls : List Call) (place : Place) : Type 0 where
  pub within : IsWithin file place
  pub statements : List Statement
  pub chain : Chain file (first_place file) statements place
  pub log : Grows calls_before calls (IsWritten (chain_text file (first_place file) statements))
  pub room_left : clear_before → room + length (chain_text file (first_place file) statements) ≡ room_before
  pub later : faults_before ≤ faults
  pub stays_clear : clear_before → clear
  pub only_full : clear_before → ((text : List ℕ) → IsListed file text → length text ≤ room_before) → faults ≡ faults_before

module _ (file : List ℕ) (layout : Layout file) where
  with-rest : (ss : List Statement) (place : Place) → Chain file (first_place file) ss place → Rest file place → Front file (chain_text file (first_place file) ss)
  with-rest ss place chain (ts, to, tail, inl ends) = record {
    text = chain_text file (first_place file) (ss ++ ts) ++ codes "end\n";
    rest = chain_text file place ts ++ codes "end\n";
    listed = inl (record { layout = layout; statements = ss ++ ts; last = to; chain = chain-append file (first_place file) ss place ts to chain tail; ends = ends; text_is = refl });
    parts = ap (λ front. front ++ codes "end\n") (text-append file (first_place file) ss place ts chain)
        ∙ append_assoc (chain_text file (first_place file) ss) (chain_text file place ts) (codes "end\n");
  }
  with-rest ss place chain (ts, to, tail, inr stop) = record {
    text = chain_text file (first_place file) (ss ++ ts);
    rest = chain_text file place ts;
    listed = inr (stop.0, inr (record { layout = layout; statements = ss ++ ts; last = to; chain = chain-append file (first_place file) ss place ts to chain tail; stops = stop.1; text_is = refl }));
    parts = text-append file (first_place file) ss place ts chain;
  }

  pub front-so_far : (ss : List Statement) (place : Place) → Chain file (first_place file) ss place → Front file (chain_text file (first_place file) ss)
  front-so_far ss place chain = with-rest ss place chain (rest-some file (length file) place (omega arith))

  one-more-text : (ss : List Statement) (place : Place) (s : Statement) → Chain file (first_place file) ss place →
      chain_text file (first_place file) (ss ++ s ∷ []) ≡ chain_text file (first_place file) ss ++ statement_text file place s
  one-more-text ss place s chain =
      text-append file (first_place file) ss place (s ∷ []) chain ∙ ap (λ last. chain_text file (first_place file) ss ++ last) (append-nil (statement_text file place s))

  pub front-one_more : (ss : List Statement) (place : Place) (s : Statement) → Chain file (first_place file) ss place → Stands file place s → AllHold (statement_checks file place s) →
      Front file (chain_text file (first_place file) ss ++ statement_text file place s)
  front-one_more ss place s chain stands all =
      subst (λ (front : List ℕ). Front file front) (one-more-text ss place s chain)
      (front-so_far (ss ++ s ∷ []) (after place s) (chain-snoc file (first_place file) ss place s chain stands all))

  pub front-end : (ss : List Statement) (place : Place) → Chain file (first_place file) ss place → EndsAt file place → Front file (chain_text file (first_place file) ss ++ codes "end\n")
  front-end ss place chain ends = record {
    text = chain_text file (first_place file) ss ++ codes "end\n";
    rest = [];
    listed = inl (record { layout = layout; statements = ss; last = place; chain = chain; ends = ends; text_is = refl });
    parts = sym (append-nil (chain_text file (first_place file) ss ++ codes "end\n"));
  }

  -- a text that is a prefix of what is to be written has room
  pub has-room : (front more : List ℕ) (room room_before : ℕ) → Front file (front ++ more) → room + length front ≡ room_before →
      ((text : List ℕ) → IsListed file text → length text ≤ room_before) → length more ≤ room
  has-room front more room room_before f left all =
      let whole = all f.text f.listed in
      let parts = ap length f.parts ∙ length-append (front ++ more) f.rest in
      let both = length-append front more in
      omega (arith, whole, parts, both, left)

  -- a prefix of what the file is listed with was written, and then a piece was cut short
  pub cut-short : (front more : List ℕ) (before now later : List Call) → (f : Front file (front ++ more)) → Grows before now (IsWritten front) → Grows now later (IsCut more) →
      Grows before later (IsCut f.text)
  cut-short front more before now later f one two =
      grows-both before now later (IsWritten front) (IsCut more) (IsCut f.text) one two
      (λ first second w c. cut-after front more f.text f.rest first second f.parts w c)

  -- a statement's lines were written
  pub progress-more : (clear_before clear clear_after : Type 0) (room_before room room_after faults_before faults faults_after : ℕ) (calls_before calls calls_after : List Call)
      (place : Place) (s : Statement) (to : Place) (piece : List ℕ) →
      Progress file clear_before clear room_before room faults_before faults calls_before calls place →
      Stands file place s → AllHold (statement_checks file place s) → piece ≡ statement_text file place s → to ≡ after place s →
      Grows calls calls_after (IsWritten piece) → (clear → room_after + length piece ≡ room) → faults ≤ faults_after → (clear → clear_after) →
      (clear → length piece ≤ room → faults_after ≡ faults) →
      Progress file clear_before clear_after room_before room_after faults_before faults_after calls_before calls_after to
  progress-more clear_before clear clear_after room_before room room_after faults_before faults faults_after calls_before calls calls_after place s to piece p stands all text_is to_is log left rise stays full =
      let front : List ℕ = chain_text file (first_place file) p.statements in
      let longer : chain_text file (first_place file) (p.statements ++ s ∷ []) ≡ front ++ piece =
      one-more-text p.statements place s p.chain ∙ ap (λ more. front ++ more) (sym text_is) in
      let f : Front file (front ++ piece) = subst (λ (more : List ℕ). Front file (front ++ more)) (sym text_is) (front-one_more p.statements place s p.chain stands all) in
      record {
        within = (steps-on file place s to p.within stands to_is).within;
        statements = p.statements ++ s ∷ [];
        chain = subst (λ (q : Place). Chain file (first_place file) (p.statements ++ s ∷ []) q) (sym to_is) (chain-snoc file (first_place file) p.statements place s p.chain stands all);
        log = grows-both calls_before calls calls_after _ _ (IsWritten (chain_text file (first_place file) (p.statements ++ s ∷ []))) p.log log
            (λ first second one two. subst (λ text. IsWritten text (first ++ second)) (sym longer) (written-both front piece first second one two));
        room_left = λ c. (let a = left (p.stays_clear c) in let b = p.room_left c in omega (arith, a, b, ap length longer ∙ length-append front piece));
        later = omega (arith, p.later, rise);
        stays_clear = λ c. stays (p.stays_clear c);
        only_full = λ c fits. full (p.stays_clear c) (has-room front piece room room_before f (p.room_left c) fits) ∙ p.only_full c fits;
      }
