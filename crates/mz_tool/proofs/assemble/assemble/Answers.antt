use Rattle.std.proofs.Common.{◌∙◌, refl, ap, subst}
use Rattle.mz_asm.specs.Assembling.{IsAssembly}
use Rattle.mz_asm.specs.Spoken.{line_of}
use Rattle.mz_tool.proofs.Compiles.{put-short}
use Rattle.mz_tool.proofs.Assemblies.{is-not-assembled, assembled-alone, not-assembled-alone, short-assembled, lists-none, returns-from}
use Rattle.mz_tool.proofs.assemble.assemble.Goals as goal

pub returns-in-Bytes : goal.returns-in-Bytes
returns-in-Bytes c =
    let binary = subst (IsAssembly c.args.listing.now) c.in-Bytes.is c.assemble_bytes-assembled.ensures.answer in
    record {
      yes = (c.in-Bytes.bytes.items, refl, binary, c.in-Ok.ensures ∙ ap line_of c.in-Bytes.is);
      short = put-short c.in-Bytes.bytes.items (short-assembled c.args.listing.now c.in-Bytes.bytes.items binary);
      no = tt;
      lists_none = tt;
      sound = returns-from c.listings_are_assembled.ensures.listed c.listings_are_assembled.ensures.assembled c.args.listing.now;
      only_yes = λ put line is. tt;
      only_no = not-assembled-alone c.args.listing.now (c.assembly_is_one.ensures c.args.listing.now) c.in-Bytes.bytes.items binary;
    }

pub returns-in_default-assembled : goal.returns-in_default-assembled
returns-in_default-assembled c = record {
  yes = tt;
  short = tt;
  no = is-not-assembled c.args.listing.now (c.assembly_is_one.ensures c.args.listing.now) c.assemble_bytes-assembled.result c.in-Ok.line.items c.assemble_bytes-assembled.ensures.answer c.in_default-assembled.not-Bytes c.in_default.not-Mem c.in-Ok.ensures;
  lists_none = lists-none c.args.listing.now (c.assembly_is_one.ensures c.args.listing.now) c.assemble_bytes-assembled.result c.assemble_bytes-assembled.ensures.answer c.in_default-assembled.not-Bytes c.in_default.not-Mem
      c.listings_are_assembled.ensures.assembled;
  sound = tt;
  only_yes = assembled-alone c.args.listing.now (c.assembly_is_one.ensures c.args.listing.now) c.assemble_bytes-assembled.result c.assemble_bytes-assembled.ensures.answer c.in_default-assembled.not-Bytes c.in_default.not-Mem;
  only_no = λ line is. tt;
}
