-- A step of a reader: from where it stands to where it stands behind it.
use Rattle.std.proofs.Common.{◌≡◌, ◌≤◌, ◌∙◌, ◌++◌, ℕ, List, [], ◌∷◌, length, Bool, true, false, Option, Some, None, Ok, Err, ap, sym, refl, subst, append_assoc, map}
use Rattle.std.proofs.lemmas.List.{append-nil}
use Rattle.mz_lex.specs.declared.rule.S.{S}
use Rattle.mz_lex.specs.declared.rule.S.TheVariants as rules
use Rattle.mz_lex.specs.declared.token.LexFault.{LexFault}
use Rattle.mz_lex.specs.RuleText.{place_of, rule_of}
use Rattle.mz_lex.specs.Lexemes.{Lexeme, IsNext, EndsBy, LexemesTo}
use Rattle.mz_lex.proofs.Offered.{one-more, ended, begun, one-lexing}
use Rattle.mz_spec_theory.specs.declared.lexeme.Lexeme.{Lexeme as LexemeRead}
use Rattle.mz_spec_theory.specs.declared.refusal.Fault.{Fault}
use Rattle.mz_spec_theory.specs.declared.refusal.Halt.{Halt}
use Rattle.mz_spec_theory.specs.declared.refusal.Halt.TheVariants as halts
use Rattle.mz_spec_theory.specs.declared.read.StatementRead.{StatementRead}
use Rattle.mz_spec_theory.specs.StatementCode.{lexeme, statement}
use Rattle.mz_spec_theory.specs.Tests.{Test}
use Rattle.mz_spec_theory.specs.Progress.{Progress, Row, moves, next, start, whole, Leads}
use Rattle.mz_spec_theory.specs.Stops.{StopsBy, misfit_rule}
use Rattle.mz_spec_theory.specs.Reading.{IsReadTo, IsRead, StopsFrom, EndsAt, OnFault, place_of_first}
use Rattle.mz_spec_theory.proofs.Offered.{leads-spells, leads-append, leads-prefix, misfit-prefix, open-statement, no-empty, IsOpen}
use Rattle.mz_spec_grammar.specs.declared.reader.Reader.{Reader}
use Rattle.mz_spec_grammar.specs.Standing.{Hand, holds, at_hand, IsNow, Begun, Place, behind, before, IsAwaited, StandsBy, Stands, GoesOn, Adds, Advances, Needs}

-- ---- lexemes that lead on, and where they stop

-- one lexeme more
read-on : (text : List ℕ) (from place at : ℕ) (p q : Progress) (ls : List Lexeme) (l : Lexeme) → LexemesTo text from ls at → Leads start ls p → IsNext text at l
    → place_of_first (ls ++ l ∷ []) ≡ place → next p l ≡ Some q → IsReadTo text from place q l.to
read-on text from place at p q [] l lexes leads is first e =
    (l, [], (subst (λ x. IsNext text x l) lexes is, refl), first, (q, subst (λ x. next x l ≡ Some q) leads e, refl))
read-on text from place at p q (k ∷ ks) l lexes leads is first e =
    (k, ks ++ l ∷ [], one-more text from at (k ∷ ks) l lexes is, first, leads-append start p q (k ∷ ks) (l ∷ []) leads (q, e, refl))

-- one that doesn't fit
stop-misfit : (text : List ℕ) (from at : ℕ) (p : Progress) (ls : List Lexeme) (l : Lexeme) (rule : S) → LexemesTo text from ls at → Leads start ls p → IsOpen p → IsNext text at l
    → next p l ≡ None → rule ≡ misfit_rule ls l → StopsFrom text from (record { at = l.from; rule = rule })
stop-misfit text from at p front l rule lexes leads is_open is none breaks ls ending all =
    let rest = begun text from l.to (front ++ l ∷ []) ls ending (one-more text from at front l lexes is) all in (
      front,
      l ∷ rest.0,
      rest.1 ∙ append_assoc front (l ∷ []) rest.0,
      leads-prefix front p leads,
      open-statement p front leads is_open,
      (misfit-prefix p front l leads none, ap (λ r. record { at = l.from; rule = r }) breaks),
    )

-- no lexeme comes at all
pub stop-fault : (text : List ℕ) (from : ℕ) (f : LexFault) → EndsBy text from (Some f) → StopsFrom text from (record { at = place_of f; rule = rule_of f })
stop-fault text from f ends ls ending lexes =
    let same = one-lexing text from ls [] ending (Some f) lexes ends in
    ([], [], same.0, leads-prefix [] start refl, (λ (s, spells). no-empty s spells), subst (λ e. StopsBy (length text) [] [] e (record { at = place_of f; rule = rule_of f })) (sym same.1) refl)

-- behind others no lexeme comes, or the text ends
stop-end : (text : List ℕ) (from place at : ℕ) (p : Progress) (e : Option LexFault) (fault : Fault) → IsReadTo text from place p at → IsOpen p → EndsBy text at e
    → ((first : Lexeme) (more : List Lexeme) → StopsBy (length text) (first ∷ more) [] e fault) → StopsFrom text from fault
stop-end text from place at p e fault (first, more, lexes, _, leads) is_open ends stops ls ending all =
    let same = one-lexing text from ls (first ∷ more) ending e all (ended text from at (first ∷ more) e lexes ends) in (
      first ∷ more,
      [],
      same.0 ∙ sym (append-nil (first ∷ more)),
      leads-prefix (first ∷ more) p leads,
      open-statement p (first ∷ more) leads is_open,
      subst (λ x. StopsBy (length text) (first ∷ more) [] x fault) (sym same.1) (stops first more),
    )

stop-ending : (text : List ℕ) (from place at : ℕ) (p : Progress) (fault : Fault) → IsReadTo text from place p at → IsOpen p → EndsAt text at fault → StopsFrom text from fault
stop-ending text from place at p fault read is_open (None, ends, e) = stop-end text from place at p None fault read is_open ends (λ first more. e)
stop-ending text from place at p fault read is_open (Some f, ends, e) = stop-end text from place at p (Some f) fault read is_open ends (λ first more. e)

-- ---- the lexeme at hand

behind-by : (s : Begun) (t : Test) (f : Lexeme → Progress) (rows : List Row) (text : List ℕ) (rule : S) (hand : Hand) → StandsBy s (before ((t, f) ∷ rows)) text rule hand → holds t hand ≡ true
    → StandsBy s (behind (f (at_hand hand))) text rule hand
behind-by s t f rows text rule (Ok l) (same, w) e = (same, read-on s.text s.from s.place w.at w.reached (f (lexeme l)) w.so_far (lexeme l) w.lexes w.leads w.comes w.first (w.chosen ∙ rw e refl))
behind-by s t f rows text rule (Err halt) w e = w

others-by : (s : Begun) (t : Test) (f : Lexeme → Progress) (rows : List Row) (text : List ℕ) (rule : S) (hand : Hand) → StandsBy s (before ((t, f) ∷ rows)) text rule hand → holds t hand ≡ false
    → StandsBy s (before rows) text rule hand
others-by s t f rows text rule (Ok l) (same, w) e =
    (same, record { so_far = w.so_far; at = w.at; reached = w.reached; lexes = w.lexes; leads = w.leads; is_open = w.is_open; comes = w.comes; chosen = w.chosen ∙ rw e refl; first = w.first; breaks = w.breaks })
others-by s t f rows text rule (Err halt) w e = w

-- it passes the first row's test
pub yes : {s : Begun} {t : Test} {f : Lexeme → Progress} {rows : List Row} {r : Reader} {b : Bool} → Stands s (before ((t, f) ∷ rows)) r → b ≡ holds t r.hand → b ≡ true → Stands s (behind (f (at_hand r.hand))) r
yes {s} {t} {f} {rows} {r} w same is = record { is = behind-by s t f rows r.text.now r.rule r.hand w.is (sym same ∙ is) }

-- it doesn't
pub no : {s : Begun} {t : Test} {f : Lexeme → Progress} {rows : List Row} {r : Reader} {b : Bool} → Stands s (before ((t, f) ∷ rows)) r → b ≡ holds t r.hand → b ≡ false → Stands s (before rows) r
no {s} {t} {f} {rows} {r} w same is = record { is = others-by s t f rows r.text.now r.rule r.hand w.is (sym same ∙ is) }

-- it passes, and is this one
pub this : {s : Begun} {t : Test} {f : Lexeme → Progress} {rows : List Row} {r : Reader} {b : Bool} {l : Lexeme} → Stands s (before ((t, f) ∷ rows)) r → b ≡ holds t r.hand → b ≡ true → l ≡ at_hand r.hand
    → Stands s (behind (f l)) r
this {s} {t} {f} {rows} {r} w same is found = subst (λ x. Stands s (behind (f x)) r) (sym found) (yes w same is)

-- the only row, and this lexeme
pub needed : {old new : Reader} {s : Begun} {t : Test} {f : Lexeme → Progress} {l : Lexeme} → Needs t old new → l ≡ at_hand new.hand → Stands s (before ((t, f) ∷ [])) old → Stands s (behind (f l)) new
needed {old} {new} {s} {t} {f} {l} reads found w = subst (λ x. Stands s (behind (f x)) new) (sym found) (reads f s w)

-- ---- the next lexeme

open-by : (p : Progress) (rows : List Row) → moves p ≡ rows → GoesOn rows → IsOpen p
open-by p rows e goes s is = subst GoesOn (sym e ∙ ap moves is) goes

advanced : (s : Begun) (p : Progress) (l : LexemeRead) (hand : Hand) → GoesOn (moves p) → IsReadTo s.text s.from s.place p l.to → IsNow s.text l.to hand → StandsBy s (before (moves p)) s.text rules.Statement hand
advanced s p l (Ok k) goes (first, more, lexes, same, leads) is =
    (refl, record { so_far = first ∷ more; at = l.to; reached = p; lexes = lexes; leads = leads; is_open = open-by p (moves p) refl goes; comes = is; chosen = refl; first = same; breaks = refl })
advanced s p l (Err (halts.Fault fault)) goes read is = stop-ending s.text s.from s.place l.to p fault read (open-by p (moves p) refl goes) is
advanced s p l (Err halts.Mem) goes read is = tt

pub advance-by : (s : Begun) (p : Progress) (l : LexemeRead) (text : List ℕ) (rule : S) (old hand : Hand) → old ≡ Ok l → GoesOn (moves p) → StandsBy s (behind p) text rule old → IsNow text l.to hand
    → StandsBy s (before (moves p)) text rules.Statement hand
advance-by s p l text rule old hand e goes w is =
    let (same, read) = subst (StandsBy s (behind p) text rule) e w in
    subst (λ x. StandsBy s (before (moves p)) x rules.Statement hand) (sym same) (advanced s p l hand goes read (subst (λ x. IsNow x l.to hand) same is))

-- to the rows of where it stands
pub onto : {old new : Reader} {s : Begun} {p : Progress} {row : Row} {rows : List Row} → Advances old new → moves p ≡ row ∷ rows → Stands s (behind p) old → Stands s (before (row ∷ rows)) new
onto {old} {new} {s} {p} reads e w = subst (λ x. Stands s (before x) new) e (reads p (subst GoesOn (sym e) tt) s w)

-- ---- where it ends

-- none of the rows
pub stop-by : (s : Begun) (l : LexemeRead) (text : List ℕ) (rule : S) (old : Hand) → old ≡ Ok l → StandsBy s (before []) text rule old → StopsFrom s.text s.from (record { at = l.from; rule = rule })
stop-by s l text rule old e w =
    let (same, a) = subst (StandsBy s (before []) text rule) e w in
    stop-misfit s.text s.from a.at a.reached a.so_far (lexeme l) rule a.lexes a.leads a.is_open a.comes a.chosen a.breaks

-- ---- whole statements

-- before the first lexeme
pub begins : (text : List ℕ) (from : ℕ) (l : LexemeRead) (rule : S) → IsNext text from (lexeme l) → rule ≡ misfit_rule [] (lexeme l) → IsAwaited (record { text = text; from = from; place = l.from }) (moves start) (lexeme l) rule
begins text from l rule is breaks =
    record { so_far = []; at = from; reached = start; lexes = refl; leads = refl; is_open = open-by start (moves start) refl tt; comes = is; chosen = refl; first = refl; breaks = breaks }

read-whole : (text : List ℕ) (from place at : ℕ) (s : StatementRead) → IsReadTo text from place (whole (statement s.statement)) at → s.end ≡ at → s.place ≡ place → IsRead text from s
read-whole text from place at s (first, more, lexes, same, leads) ends starts =
    (first ∷ more, subst (LexemesTo text from (first ∷ more)) (sym ends) lexes, leads-spells (statement s.statement) (first ∷ more) leads, same ∙ sym starts)

pub read-by : {s : Begun} {r : Reader} {l : LexemeRead} (read : StatementRead) → Stands s (behind (whole (statement read.statement))) r → r.hand ≡ Ok l → read.end ≡ l.to → read.place ≡ s.place → IsRead s.text s.from read
read-by {s} {r} {l} read w e ends starts = read-whole s.text s.from s.place l.to read (subst (StandsBy s (behind (whole (statement read.statement))) r.text.now r.rule) e w.is).1 ends starts

pub within-by : {s : Begun} {at : Place} {r : Reader} {l : LexemeRead} → Stands s at r → r.hand ≡ Ok l → l.to ≤ length s.text
within-by {s} {at} {r} {l} w e = subst (λ text. l.to ≤ length text) (subst (StandsBy s at r.text.now r.rule) e w.is).0 (r.within l e)

pub stops-by : {s : Begun} {at : Place} {r : Reader} {halt : Halt} → Stands s at r → r.hand ≡ Err halt → OnFault halt (StopsFrom s.text s.from)
stops-by {s} {at} {r} w e = subst (StandsBy s at r.text.now r.rule) e w.is

-- ---- what is kept

map-last : {A B : Type 0} → (f : A → B) (xs : List A) (x : A) → map f (xs ++ x ∷ []) ≡ map f xs ++ f x ∷ []
map-last f [] x = refl
map-last f (y ∷ xs) x = ap (λ zs. f y ∷ zs) (map-last f xs x)

-- an item more of a list of which it stands by what the items stand for
pub added : {A B : Type 0} {old new : Reader} {s : Begun} {kept : List A} (f : A → B) (at : List B → Place) (xs : List A) (x : A) → Adds (xs ++ x ∷ []) kept old new → Stands s (at (map f xs ++ f x ∷ [])) old
    → Stands s (at (map f kept)) new
added {A} {B} {old} {new} {s} {kept} f at xs x reads w = reads (λ ys. at (map f ys)) s (subst (λ ys. Stands s (at ys) old) (sym (map-last f xs x)) w)

-- no item yet
pub none-yet : {A B : Type 0} {r : Reader} {s : Begun} {xs : List A} (f : A → B) (at : List B → Place) → xs ≡ [] → Stands s (at []) r → Stands s (at (map f xs)) r
none-yet {A} {B} {r} {s} {xs} f at e w = subst (λ ys. Stands s (at (map f ys)) r) (sym e) w
