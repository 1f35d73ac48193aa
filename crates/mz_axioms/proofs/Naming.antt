-- The names of axioms, one after another.
use Rattle.std.proofs.Common.{◌≡◌, ◌∙◌, ◌<◌, ◌+◌, ◌-◌, ◌/◌, ℕ, List, [], ◌∷◌, ◌++◌, map, length, take, drop, get_or, ◌≤◌, refl, ap, sym, append_assoc, append-nil, codes}
use Rattle.std.proofs.lemmas.List.{map-append, map_more, take-append-drop, take_all}
use Rattle.std.proofs.lemmas.List.Concat.{flat_map-append}
use Rattle.mz_spec_theory.specs.State.{Entry}
use Rattle.mz_spec_theory.specs.Names.{name_at}
use Rattle.mz_axioms.specs.Lists.{TheoremSupport}
use Rattle.mz_axioms.specs.Text.{axiom_names, support_line, supports_text}
use Rattle.mz_axioms.specs.Kept.{nodes_of, number_of}
use Rattle.mz_axioms.specs.Members.{bits, low_bit, members}
use Rattle.mz_axioms.specs.declared.rows.Row.{Row}
use Rattle.mz_axioms.specs.declared.rows.Table.{Table}
use Rattle.mz_axioms.proofs.Writing.{Left, left-next}
use Rattle.mz_axioms.specs.declared.lists.Support.{Support}

-- the names of a set, its rows being counted from a base
abbrev pub names_from : Table → List ℕ → List Entry → (height base set : ℕ) → List ℕ
names_from table text entries height base set = axiom_names text entries (map (number_of table.rows.items) (members (nodes_of table) height base set))

module _ (text : List ℕ) (entries : List Entry) where
  pub names-one : (axioms : List ℕ) (a : ℕ) → axioms ≡ a ∷ [] → axiom_names text entries axioms ≡ codes " " ++ name_at text entries a
  names-one axioms a is = ap (axiom_names text entries) is ∙ append-nil (codes " " ++ name_at text entries a)

  pub names-append : (low high : List ℕ) → axiom_names text entries (low ++ high) ≡ axiom_names text entries low ++ axiom_names text entries high
  names-append low high = flat_map-append (λ a. codes " " ++ name_at text entries a) low high

  -- the names of a word are those so far, those of the bit in hand, and those of the bits that are left
  pub word-parts : (rows : List Row) (base rest i : ℕ) (numbers whole : List ℕ) → i < 64 → Left rows base rest i numbers whole →
      (more : List ℕ) × (axiom_names text entries whole ≡ axiom_names text entries numbers ++ (axiom_names text entries (map (number_of rows) (low_bit (base + i) rest)) ++ more))
  word-parts rows base rest i numbers whole lt left =
      let low = map (number_of rows) (low_bit (base + i) rest) in
      let next = left-next rows base rest i numbers (numbers ++ low) whole lt refl left in
      let more = map (number_of rows) (bits (64 - (i + 1)) (base + (i + 1)) (rest / 2)) in (
        axiom_names text entries more,
        ap (axiom_names text entries) (sym next.all ∙ append_assoc numbers low more) ∙ names-append numbers (low ++ more) ∙ ap (λ last. axiom_names text entries numbers ++ last) (names-append low more),
      )

  pub names-both : (f : ℕ → ℕ) (whole low high : List ℕ) → whole ≡ low ++ high → axiom_names text entries (map f whole) ≡ axiom_names text entries (map f low) ++ axiom_names text entries (map f high)
  names-both f whole low high is =
      ap (λ xs. axiom_names text entries (map f xs)) is ∙ ap (axiom_names text entries) (map-append f low high) ∙ names-append (map f low) (map f high)

  pub lines-more : (f : Support → TheoremSupport) (supports : List Support) (i : ℕ) (none : Support) → i < length supports →
      supports_text text entries (map f (take (i + 1) supports)) ≡ supports_text text entries (map f (take i supports)) ++ support_line text entries (f (get_or supports i none))
  lines-more f supports i none lt =
      ap (supports_text text entries) (map_more f supports i none lt)
      ∙ flat_map-append (support_line text entries) (map f (take i supports)) (f (get_or supports i none) ∷ [])
      ∙ ap (λ last. supports_text text entries (map f (take i supports)) ++ last) (append-nil (support_line text entries (f (get_or supports i none))))

  -- the whole text: the lines so far, the line in hand, and those that are left
  pub lines-parts : (f : Support → TheoremSupport) (supports : List Support) (i : ℕ) (none : Support) → i < length supports →
      supports_text text entries (map f supports) ≡ supports_text text entries (map f (take i supports)) ++ (support_line text entries (f (get_or supports i none)) ++ supports_text text entries (map f (drop (i + 1) supports)))
  lines-parts f supports i none lt =
      let rest = supports_text text entries (map f (drop (i + 1) supports)) in
      ap (λ all. supports_text text entries (map f all)) (sym (take-append-drop (i + 1) supports))
      ∙ ap (supports_text text entries) (map-append f (take (i + 1) supports) (drop (i + 1) supports))
      ∙ flat_map-append (support_line text entries) (map f (take (i + 1) supports)) (map f (drop (i + 1) supports))
      ∙ ap (λ front. front ++ rest) (lines-more f supports i none lt)
      ∙ append_assoc (supports_text text entries (map f (take i supports))) (support_line text entries (f (get_or supports i none))) rest

  pub lines-whole : (f : Support → TheoremSupport) (supports : List Support) (i : ℕ) → length supports ≤ i → supports_text text entries (map f supports) ≡ supports_text text entries (map f (take i supports)) ++ []
  lines-whole f supports i le =
      ap (λ all. supports_text text entries (map f all)) (sym (take_all i supports le)) ∙ sym (append-nil (supports_text text entries (map f (take i supports))))

  pub line-parts : (s : TheoremSupport) → support_line text entries s ≡ name_at text entries s.theorem ++ (codes ":" ++ (axiom_names text entries s.axioms ++ codes "\n"))
  line-parts s =
      append_assoc (name_at text entries s.theorem ++ codes ":") (axiom_names text entries s.axioms) (codes "\n")
      ∙ append_assoc (name_at text entries s.theorem) (codes ":") (axiom_names text entries s.axioms ++ codes "\n")
