-- The list of statements of a file in the normal layout, as it is read.
use Rattle.std.proofs.Common.{◌≡◌, ◌≤◌, ◌<◌, ◌+◌, ◌^◌, ℕ, false, eqb, ltb, List, [], ◌∷◌, ◌++◌, length, Ok, refl, ap, ◌∙◌, arith, append_assoc, rules}
use Rattle.std.specs.Prelude.{IsTrue}
use Rattle.std.specs.List.{All}
use Rattle.std.proofs.lemmas.Bool.{le-ltb}
use Rattle.std.proofs.lemmas.Bool.Decides.{nat_tests}
use Rattle.std.proofs.lemmas.List.{length-append}
use Rattle.std.proofs.lemmas.List.Elements.{All-head, All-tail}
use Rattle.mz_cmd.specs.declared.statement.StmtAt.TheVariants.{End, Head}
use Rattle.mz_cmd.specs.Codes.{is_known, begins_statement}
use Rattle.mz_cmd.specs.Spelling.{Spells, shortest_size, shortest}
use Rattle.mz_cmd.specs.Reading.{first_command, command_at}
use Rattle.mz_cmd.specs.StatementList.{statement_of, statement_at}
use Rattle.mz_cmd.proofs.Offered.{Spells-again, not-ended}
use Rattle.mz_layout_tables.specs.Normal.{Written, Parts, distance, statement_bytes, list_bytes, list_place, file_of}
use Rattle.mz_layout_tables.specs.Standing.{Stands, Fit, AreListed, body_place, next_place}
use Rattle.mz_layout_tables.proofs.PieceLengths.{length-statement}
use Rattle.mz_layout_tables.proofs.StandingLaws.{stands-first, stands-second, stands-at}
use Rattle.mz_layout_tables.proofs.PartsStand.{file-length, list-stands}

known : (code : ℕ) → IsTrue (begins_statement code) → IsTrue (is_known code)
known code h = search rules

spells : (code value : ℕ) → IsTrue (begins_statement code) → value < 2 ^ 32 → Spells (shortest code value) code value
spells code value k h = record { size = shortest_size value; size_fits = grind (arith, nat_tests); known = known code k; value_fits = grind (arith, nat_tests); bytes_are = refl }

-- a command that begins a statement and leads on
leads : (end at code value len : ℕ) → IsTrue (begins_statement code) → len ≤ value → at + value ≤ end → statement_of end at (Ok (record { code = code; value = value; len = len })) ≡ Ok (Head code (at + len) (at + value))
leads end at code value len begins a b =
    let other : eqb code 0 ≡ false = not-ended code begins in
    let short : ltb value len ≡ false = le-ltb value len a in
    let within : ltb end (at + value) ≡ false = le-ltb end (at + value) b in
    rw (other, begins, short, within) refl

command-read : (file : List ℕ) (at : ℕ) (s : Written) → Stands file at (statement_bytes s) → IsTrue (begins_statement s.code) → distance (length s.body) < 2 ^ 32 → command_at file at ≡ Ok (record { code = s.code; value = distance (length s.body); len = length (shortest s.code (distance (length s.body))) })
command-read file at s stands begins low =
    ap first_command (stands.from_there ∙ append_assoc (shortest s.code (distance (length s.body))) s.body stands.rest)
    ∙ Spells-again (shortest s.code (distance (length s.body))) (s.body ++ stands.rest) s.code (distance (length s.body)) (spells s.code (distance (length s.body)) begins low)

statement-read : (file : List ℕ) (at : ℕ) (s : Written) → Stands file at (statement_bytes s) → IsTrue (begins_statement s.code) → length file < 2 ^ 32 → statement_at file at ≡ Ok (Head s.code (body_place at s) (next_place at s))
statement-read file at s stands begins low =
    let d : length (statement_bytes s) ≡ distance (length s.body) = length-statement s in
    let n : length (statement_bytes s) ≡ length (shortest s.code (distance (length s.body))) + length s.body = length-append (shortest s.code (distance (length s.body))) s.body in
    let within = stands.within in
    ap (statement_of (length file) at) (command-read file at s stands begins (omega arith))
    ∙ leads (length file) at s.code (distance (length s.body)) (length (shortest s.code (distance (length s.body)))) begins (omega arith) (omega arith)
    ∙ ap (λ (k : ℕ). Ok (Head s.code (body_place at s) k)) (let z : at + distance (length s.body) ≡ next_place at s = omega arith in z)

end-read : (file : List ℕ) (at : ℕ) → Stands file at (0 ∷ []) → statement_at file at ≡ Ok End
end-read file at stands =
    let none : ltb (length stands.rest) 0 ≡ false = le-ltb (length stands.rest) 0 (omega arith) in
    let e : first_command (0 ∷ stands.rest) ≡ Ok (record { code = 0; value = 0; len = 1 }) = rw none refl in
    ap (statement_of (length file) at) (ap first_command stands.from_there ∙ e)

listed : (file : List ℕ) (at : ℕ) (ss : List Written) → Stands file at (list_bytes ss) → All (λ s. IsTrue (begins_statement s.code)) ss → length file < 2 ^ 32 → AreListed file at ss
listed file at [] stands codes low = end-read file at stands
listed file at (s ∷ ss) stands codes low =
    let first = stands-first file at (statement_bytes s) (list_bytes ss) stands in
    let rest = stands-at file (at + length (statement_bytes s)) (next_place at s) (list_bytes ss) (omega (arith, length-append (shortest s.code (distance (length s.body))) s.body)) (stands-second file at (statement_bytes s) (list_bytes ss) stands) in (
      statement-read file at s first (All-head (λ s. IsTrue (begins_statement s.code)) s ss codes) low,
      stands-second file at (shortest s.code (distance (length s.body))) s.body first,
      listed file (next_place at s) ss rest (All-tail (λ s. IsTrue (begins_statement s.code)) s ss codes) low,
    )

pub all-listed : (p : Parts) → Fit p → AreListed (file_of p) (list_place p) p.statements
all-listed p fit = listed (file_of p) (list_place p) p.statements (list-stands p) fit.room.codes (omega (arith, file-length p, fit.short))
