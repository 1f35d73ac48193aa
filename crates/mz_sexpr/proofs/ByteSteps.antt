-- One byte more of a text.
use Rattle.std.proofs.Common.{ℕ, ◌≡◌, ◌<◌, ◌≤◌, ◌+◌, List, ◌∷◌, ◌++◌, length, get_or, drop, refl, sym, ap, ◌∙◌, subst, Option, Some, None, Bool, true, false, option_to_list, map, append_assoc, arith}
use Rattle.std.specs.Prelude.{◌==◌, ◌||◌, if◌then◌else◌, take_while}
use Rattle.std.proofs.lemmas.Bool.{false≢true}
use Rattle.std.proofs.lemmas.List.{drop_more, map-append}
use Rattle.mz_sexpr.specs.declared.scan.Class.{Class}
use Rattle.mz_sexpr.specs.declared.scan.Class.TheVariants.{Space, Note, Opening, Closing, Letter}
use Rattle.mz_sexpr.specs.declared.scan.Seen.{Seen}
use Rattle.mz_sexpr.specs.declared.sexprs.Row.{Row}
use Rattle.mz_sexpr.specs.declared.rule.TextRefusal.{TextRefusal}
use Rattle.mz_base.specs.Checks.{Checks, AllHold, FailsFirst, ◌>>◌}
use Rattle.mz_base.proofs.Offered.{fails-before}
use Rattle.mz_sexpr.specs.Token.{Token}
use Rattle.mz_sexpr.specs.Scan.{class_after, plain_class, checks_at, byte_checks, seen_with, tokens, token_of}
use Rattle.mz_sexpr.specs.Rows.{Entry, entry, option_entry, entries, word_from}
use Rattle.mz_sexpr.specs.Grammar.{is_letter, begins_comment}
use Rattle.mz_sexpr.proofs.Deciding.{Decides, decides_after}

pub last_seen : (s : Seen) (c : Class) → (seen_with s c).last ≡ c
last_seen s Space = refl
last_seen s Note = refl
last_seen s Opening = refl
last_seen s Closing = refl
last_seen s Letter = refl

entries_after : (i : ℕ) (s : Seen) (c : Class) (bs : List ℕ) (ts : List Token)
    → entries s.depth (token_of i s.last c bs ++ ts) ≡ entries s.depth (token_of i s.last c bs) ++ entries (seen_with s c).depth ts
entries_after i s Space bs ts = refl
entries_after i s Note bs ts = refl
entries_after i s Opening bs ts = refl
entries_after i s Closing bs ts = refl
entries_after i s Letter bs ts = go s.last
  where
    go : (last : Class) → entries s.depth (token_of i last Letter bs ++ ts) ≡ entries s.depth (token_of i last Letter bs) ++ entries s.depth ts
    go Space = refl
    go Note = refl
    go Opening = refl
    go Closing = refl
    go Letter = refl

listed_entry : (text : List ℕ) (o : Option Row) → map (entry text) (option_to_list o) ≡ option_to_list (option_entry text o)
listed_entry text None = refl
listed_entry text (Some r) = refl

-- ---- a row's byte says whether it is a list's

abbrev is_opening : Class → Bool
is_opening Opening = true
is_opening _ = false

abbrev is_plain : Class → Bool
is_plain Letter = true
is_plain _ = false

module _ (b : ℕ) where
  plain_opening : (x y z : Bool) → is_opening (if x then Opening else (if y then Closing else (if z then Space else Letter))) ≡ true → x ≡ true
  plain_opening true y z h = refl
  plain_opening false true z h = absurd (false≢true h)
  plain_opening false false true h = absurd (false≢true h)
  plain_opening false false false h = absurd (false≢true h)

  plain_letter : (x y z : Bool) → is_plain (if x then Opening else (if y then Closing else (if z then Space else Letter))) ≡ true → x ≡ false
  plain_letter true y z h = absurd (false≢true h)
  plain_letter false y z h = refl

  noted : (x : Bool) → is_opening (if x then Space else Note) ≡ true → (b == 40) ≡ true
  noted true h = absurd (false≢true h)
  noted false h = absurd (false≢true h)

  noted_letter : (x : Bool) → is_plain (if x then Space else Note) ≡ true → (b == 40) ≡ false
  noted_letter true h = absurd (false≢true h)
  noted_letter false h = absurd (false≢true h)

  opening_is : is_opening (plain_class b) ≡ true → (b == 40) ≡ true
  opening_is h = plain_opening (b == 40) (b == 41) (b == 32 || b == 10) h

  letter_is : is_plain (plain_class b) ≡ true → (b == 40) ≡ false
  letter_is h = plain_letter (b == 40) (b == 41) (b == 32 || b == 10) h

  commented : (x : Bool) → is_opening (if x then Note else plain_class b) ≡ true → (b == 40) ≡ true
  commented true h = absurd (false≢true h)
  commented false h = opening_is h

  commented_letter : (x : Bool) → is_plain (if x then Note else plain_class b) ≡ true → (b == 40) ≡ false
  commented_letter true h = absurd (false≢true h)
  commented_letter false h = letter_is h

  opening_byte : (last : Class) (bs : List ℕ) → is_opening (class_after last b bs) ≡ true → (b == 40) ≡ true
  opening_byte Note bs h = noted (b == 10) h
  opening_byte Letter bs h = opening_is h
  opening_byte Space bs h = commented (begins_comment (b ∷ bs)) h
  opening_byte Opening bs h = commented (begins_comment (b ∷ bs)) h
  opening_byte Closing bs h = commented (begins_comment (b ∷ bs)) h

  letter_byte : (last : Class) (bs : List ℕ) → is_plain (class_after last b bs) ≡ true → (b == 40) ≡ false
  letter_byte Note bs h = noted_letter (b == 10) h
  letter_byte Letter bs h = letter_is h
  letter_byte Space bs h = commented_letter (begins_comment (b ∷ bs)) h
  letter_byte Opening bs h = commented_letter (begins_comment (b ∷ bs)) h
  letter_byte Closing bs h = commented_letter (begins_comment (b ∷ bs)) h

module _ (text : List ℕ) (i : ℕ) (s : Seen) (below : i < length text) where
  abbrev pub rest_of : List ℕ
  rest_of = drop (i + 1) text

  abbrev pub byte_of : ℕ
  byte_of = get_or text i 0

  cut : drop i text ≡ byte_of ∷ rest_of
  cut = drop_more text i 0 below

  begins : (t : Bool) → (byte_of == 40) ≡ t → word_from (drop i text) ≡ (if t then None else Some (take_while is_letter (drop i text)))
  begins t h = ap (λ x. if x then None else Some (take_while is_letter (drop i text))) (ap (λ bs. get_or bs 0 0 == 40) cut ∙ h)

  pub begins_list : Opening ≡ class_after s.last byte_of rest_of → word_from (drop i text) ≡ None
  begins_list is = begins true (opening_byte byte_of s.last rest_of (ap is_opening (sym is)))

  pub begins_atom : Letter ≡ class_after s.last byte_of rest_of → word_from (drop i text) ≡ Some (take_while is_letter (drop i text))
  begins_atom is = begins false (letter_byte byte_of s.last rest_of (ap is_plain (sym is)))

  pub byte_decides : (c : Class) (cs : Checks TextRefusal) → c ≡ class_after s.last byte_of rest_of → AllHold (checks_at i s byte_of c)
      → Decides (byte_checks i s (drop i text)) cs → Decides (byte_checks (i + 1) (seen_with s c) rest_of) cs
  byte_decides c cs is all h =
      decides_after (checks_at i s byte_of c) (byte_checks (i + 1) (seen_with s c) rest_of) cs all
      (subst (λ k. Decides (checks_at i s byte_of k >> byte_checks (i + 1) (seen_with s k) rest_of) cs) (sym is)
      (subst (λ bs. Decides (byte_checks i s bs) cs) cut h))

  pub byte_fails : (c : Class) (cs : Checks TextRefusal) (r : TextRefusal) → c ≡ class_after s.last byte_of rest_of
      → FailsFirst (checks_at i s byte_of c) r → Decides (byte_checks i s (drop i text)) cs → FailsFirst cs r
  byte_fails c cs r is fails h =
      let k : Decides (byte_checks i s (byte_of ∷ rest_of)) cs = subst (λ bs. Decides (byte_checks i s bs) cs) cut h in
      k.0 r (subst (λ k. FailsFirst (checks_at i s byte_of k >> byte_checks (i + 1) (seen_with s k) rest_of) r) is
      (fails-before (checks_at i s byte_of c) (byte_checks (i + 1) (seen_with s c) rest_of) r fails))

  pub byte_rows : (c : Class) (rows more_rows : List Row) (o : Option Row) (all : List Entry) → c ≡ class_after s.last byte_of rest_of
      → more_rows ≡ rows ++ option_to_list o
      → option_to_list (option_entry text o) ≡ entries s.depth (token_of i s.last c (drop i text))
      → map (entry text) rows ++ entries s.depth (tokens i s.last (drop i text)) ≡ all
      → map (entry text) more_rows ++ entries (seen_with s c).depth (tokens (i + 1) (seen_with s c).last rest_of) ≡ all
  byte_rows c rows more_rows o all is pushed adds h =
      ap (λ rs. map (entry text) rs ++ left (seen_with s c).last) pushed
      ∙ ap (λ k. map (entry text) (rows ++ option_to_list o) ++ left k) (last_seen s c)
      ∙ ap (λ es. es ++ left c) (map-append (entry text) rows (option_to_list o))
      ∙ append_assoc (map (entry text) rows) (map (entry text) (option_to_list o)) (left c)
      ∙ ap (λ es. map (entry text) rows ++ (es ++ left c)) (listed_entry text o ∙ adds)
      ∙ ap (λ es. map (entry text) rows ++ es) (sym (entries_after i s c (drop i text) (tokens (i + 1) c rest_of)))
      ∙ ap (λ ts. map (entry text) rows ++ entries s.depth ts) step
      ∙ h
    where
      left : Class → List Entry
      left k = entries (seen_with s c).depth (tokens (i + 1) k rest_of)

      step : token_of i s.last c (drop i text) ++ tokens (i + 1) c rest_of ≡ tokens i s.last (drop i text)
      step = subst (λ bs. token_of i s.last c bs ++ tokens (i + 1) c rest_of ≡ tokens i s.last bs) (sym cut)
          (subst (λ k. token_of i s.last k (byte_of ∷ rest_of) ++ tokens (i + 1) k rest_of ≡ tokens i s.last (byte_of ∷ rest_of)) (sym is) refl)

pub depth_kept : (i b : ℕ) (s : Seen) (c : Class) → AllHold (checks_at i s b c) → s.depth ≤ 4096 → (seen_with s c).depth ≤ 4096
depth_kept i b s Space all h = h
depth_kept i b s Note all h = h
depth_kept i b s Opening all h = let lt : s.depth < 4096 = all.1.0 in omega arith
depth_kept i b s Closing all h = omega arith
depth_kept i b s Letter all h = h

pub tops_kept : (i b : ℕ) (s : Seen) (c : Class) → AllHold (checks_at i s b c) → s.tops + s.depth ≤ i → (seen_with s c).tops + (seen_with s c).depth ≤ i + 1
tops_kept i b s Space all h = omega arith
tops_kept i b s Note all h = omega arith
tops_kept i b s Opening all h = omega arith
tops_kept i b s Closing all h = grind arith
tops_kept i b s Letter all h = grind arith
