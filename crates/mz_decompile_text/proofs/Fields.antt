-- The same of the fields of the phrases that are kept.
use Rattle.std.proofs.Common.{◌≡◌, ℕ, ◌<◌, List, [], length, get_or, Result, Ok, Err, OnErr}
use Rattle.mz_decompile_text.specs.Phrases.{Phrase}
use Rattle.mz_decompile_text.specs.Kept.{phrases_of, AreKept}
use Rattle.mz_decompile_text.specs.declared.node.Node.{Node}
use Rattle.mz_decompile_text.specs.declared.phrases.Phrases.TheInside.{Inside}
use Rattle.mz_decompile_text.proofs.Adding.{many}
use Rattle.mz_decompile_text.proofs.Finding.{IsFound, at}

pub on_err : {T E : Type 0} (r : Result T E) (P : Type 0) → P → OnErr r P
on_err (Ok x) P h = tt
on_err (Err e) P h = h

pub record Holds (s : Inside) (ps : List Phrase) : Type 0 where
  pub is : phrases_of s.bytes.items s.parts.items s.nodes.items ≡ ps
  pub kept : AreKept s.bytes.items s.parts.items [] s.nodes.items

pub count : (s : Inside) (ps : List Phrase) → phrases_of s.bytes.items s.parts.items s.nodes.items ≡ ps → length s.nodes.items ≡ length ps
count s ps is = many s.bytes.items s.parts.items s.nodes.items ps is

pub found : (s : Inside) (ps : List Phrase) (i : ℕ) (n : Node) → Holds s ps → i < length ps → n ≡ get_or s.nodes.items i n → IsFound s.bytes.items s.parts.items ps i n
found s ps i n h less node = at s.bytes.items s.parts.items s.nodes.items ps i n h.kept h.is less node
