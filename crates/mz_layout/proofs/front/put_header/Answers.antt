use Rattle.std.proofs.Common.{◌≡◌, List, ◌++◌, [], ◌∷◌, ℕ, replicate, append_assoc}
use Rattle.std.specs.Prelude.{codes}
use Rattle.std.proofs.lemmas.Result.{on_ok_weaker}
use Rattle.byteorder.specs.Endian.{little_bytes}
use Rattle.mz_layout_tables.specs.Normal.{header_bytes}
use Rattle.mz_layout_tables.specs.declared.header.Header.{Header}
use Rattle.mz_layout.proofs.front.put_header.Goals as goal

-- the header written piece by piece
header-written : (old a b c d e f g new : List ℕ) (h : Header) → a ≡ old ++ codes "MM0B" → b ≡ a ++ 1 ∷ h.sorts ∷ 0 ∷ 0 ∷ [] → c ≡ b ++ little_bytes 4 h.terms → d ≡ c ++ little_bytes 4 h.thms → e ≡ d ++ little_bytes 4 h.terms_at → f ≡ e ++ little_bytes 4 h.thms_at → g ≡ f ++ little_bytes 4 h.list_at → new ≡ g ++ replicate 12 0 → new ≡ old ++ header_bytes h
unfolding header_bytes
header-written old a b c d e f g new h ea eb ec ed ee ef eg en = rw (en, eg, ef, ee, ed, ec, eb, ea) (simp append_assoc)

pub returns : goal.returns
returns c =
    on_ok_weaker c.put_zeros.result
    (λ written. header-written c.args.out.now.items c.extend_from_slice.new.self.items c.extend_from_slice-2.new.self.items c.put_u32.new.out.items c.put_u32-2.new.out.items c.put_u32-3.new.out.items c.put_u32-4.new.out.items c.put_u32-5.new.out.items c.put_zeros.new.out.items c.args.header c.in_ok-extend_from_slice.ensures.items c.in_ok-extend_from_slice-2.ensures.items c.in_ok-put_u32.ensures c.in_ok-put_u32-2.ensures c.in_ok-put_u32-3.ensures c.in_ok-put_u32-4.ensures c.in_ok-put_u32-5.ensures written)
    c.put_zeros.ensures
