-- What was listed is the answer of `show`, or a prefix of it.
use Rattle.std.proofs.Common.{◌≡◌, ◌≤◌, ◌+◌, ◌∙◌, ◌++◌, ℕ, List, [], ◌∷◌, Option, None, length, sym, subst, inl, inr, refl, ap, append_assoc, arith}
use Rattle.std.proofs.lemmas.List.{append-nil, length-append}
use Rattle.mz_cmd.specs.declared.rule.Refusal.{Refusal}
use Rattle.mz_io.specs.Calls.{Call, IsWritten, IsCut}
use Rattle.mz_binary_theory.specs.RefusalLine.{refusal_line}
use Rattle.mz_show.specs.Listing.{IsListing, IsListedUpTo, IsListed}
use Rattle.mz_tool_engine.specs.Said.{OfOne}
use Rattle.mz_show.specs.Asked.{IsBegunText as IsBegunListing}
use Rattle.mz_tool_engine.specs.Run.{Affirms, Refuses, IsAnswer, IsBegunText}
use Rattle.mz_tool_verify.specs.Show.{show_says}

-- what follows a text may follow one that is cut short
cut-further : (text more : List ℕ) (calls : List Call) → IsCut text calls → IsCut (text ++ more) calls
cut-further text more calls c = record {
  front = c.front;
  taken = c.taken;
  written = c.written;
  piece = c.piece;
  rest = c.rest ++ more;
  text_is = ap (λ part. part ++ more) c.text_is ∙ append_assoc c.front (c.piece ++ c.rest) more ∙ ap (λ last. c.front ++ last) (append_assoc c.piece c.rest more);
  calls_are = c.calls_are;
}

-- a text that was written whole was begun
pub whole-begun : (text : List ℕ) (calls : List Call) → IsWritten text calls → IsBegunText text calls
whole-begun text calls w = record { front = text; rest = []; text_is = sym (append-nil text); written = w }

-- so was a listing of which a prefix was written
pub front-begun : (text : List ℕ) (calls : List Call) → IsBegunListing text calls → IsBegunText text calls
front-begun text calls b = record { front = b.front; rest = b.rest; text_is = b.text_is; written = b.written }

abbrev NotBoth : Type 0
NotBoth = (file text other : List ℕ) (refusal : Refusal) → IsListing file text → IsListedUpTo file other refusal → ⊥

module _ (name bin : List ℕ) (contents : List (List ℕ)) (read : contents ≡ bin ∷ []) (not_both : NotBoth) where
  listing-affirms : (text : List ℕ) → IsListing bin text → Affirms (show_says name) contents None text
  listing-affirms text listing =
      subst (λ xs. Affirms (show_says name) xs None text) (sym read) ((refl, listing), λ other (listed, refusal, upto, same). not_both bin text listed refusal listing upto)

  -- nothing is left after the whole listing
  pub listed-affirms : (text rest : List ℕ) → rest ≡ [] → IsListing bin text → Affirms (show_says name) contents None (text ++ rest)
  listed-affirms text rest none listing =
      subst (λ whole. Affirms (show_says name) contents None whole) (sym (append-nil text) ∙ ap (λ last. text ++ last) (sym none)) (listing-affirms text listing)

  -- the refusal's line is left after what was listed
  pub listed-refuses : (text line : List ℕ) (refusal : Refusal) → line ≡ refusal_line refusal → IsListedUpTo bin text refusal → Refuses (show_says name) contents (text ++ line)
  listed-refuses text line refusal same upto =
      subst (λ last. Refuses (show_says name) contents (text ++ last)) (sym same)
      (subst (λ xs. Refuses (show_says name) xs (text ++ refusal_line refusal)) (sym read)
      ((text, refusal, upto, refl), λ put other (none, listing). not_both bin other text refusal listing upto))

  pub listed-begun : (text : List ℕ) → IsListed bin text → OfOne (λ bytes. IsListed bytes text) contents
  listed-begun text listed = subst (λ xs. OfOne (λ bytes. IsListed bytes text) xs) (sym read) listed

  -- what is listed and cut short is a prefix of an answer
  pub listing-is_cut : (text : List ℕ) (calls : List Call) → IsListed bin text → IsCut text calls → (whole : List ℕ) × IsAnswer (show_says name) contents None whole × IsCut whole calls
  listing-is_cut text calls (inl listing) cut = (text, inl (listing-affirms text listing), cut)
  listing-is_cut text calls (inr (refusal, upto)) cut =
      (text ++ refusal_line refusal, inr (refl, listed-refuses text (refusal_line refusal) refusal refl upto), cut-further text (refusal_line refusal) calls cut)

  module _ (room : ℕ) (fits : (put : Option (List ℕ)) (text : List ℕ) → IsAnswer (show_says name) contents put text → length text ≤ room) where
    -- where each answer has room, so has what is listed
    pub room-of_listed : (text : List ℕ) → IsListed bin text → length text ≤ room
    room-of_listed text (inl listing) = fits None text (inl (listing-affirms text listing))
    room-of_listed text (inr (refusal, upto)) =
        let whole : length (text ++ refusal_line refusal) ≤ room = fits None _ (inr (refl, listed-refuses text (refusal_line refusal) refusal refl upto)) in
        let lengths : length (text ++ refusal_line refusal) ≡ length text + length (refusal_line refusal) = length-append text (refusal_line refusal) in
        omega arith

    -- and what is left of the answer
    pub room-of_line : (text line : List ℕ) (refusal : Refusal) (left : ℕ) → line ≡ refusal_line refusal → IsListedUpTo bin text refusal → left + length text ≡ room → length line ≤ left
    room-of_line text line refusal left same upto rest =
        let whole : length (text ++ line) ≤ room = fits None _ (inr (refl, listed-refuses text line refusal same upto)) in
        let lengths : length (text ++ line) ≡ length text + length line = length-append text line in
        omega arith
