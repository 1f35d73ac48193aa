use Rattle.std.proofs.Common.{◌≡◌, ◌⊎◌, inl, inr, ℕ, List}
use Rattle.std.proofs.lemmas.Result.{on_ok_weaker}
use Rattle.mz_cmd.specs.declared.code.ProofCode.{ProofCode}
use Rattle.mz_cmd.specs.declared.code.ProofCode.TheVariants as code
use Rattle.mz_trace.specs.Commands.{Stage, stage_of, IsAny, IsRead, Goes, Leads}
use Rattle.mz_trace.proofs.Dispatch.{Lifts, DoesAs, goes-as, leads-as, itself, conv-ref-as, never-sorry, hyp-as, conv-as, refl-as, symm-as, cong-as, unfold-as, conv_cut-as, conv_save-as, save-as}
use Rattle.mz_trace.proofs.state.Making.step.Goals as goal

any-stage : (file : List ℕ) → Lifts file IsAny
any-stage file tables params s q = tt

as-read : (file : List ℕ) → Lifts file (IsRead file)
as-read file tables params s q = q

-- where nothing has to be known
goes-any : (file : List ℕ) (b c d : ProofCode) (n m : ℕ) → b ≡ c → DoesAs c n d m → (s : Stage) → Goes (IsRead file) b n s → Goes IsAny d m s
goes-any file b c d n m is as_d s = goes-as file IsAny (any-stage file) b c d n m is as_d s

leads-any : (file : List ℕ) (b c d : ProofCode) (n m : ℕ) → b ≡ c → DoesAs c n d m → (s s' : Stage) → Leads IsAny d m s s' → Leads (IsRead file) b n s s'
leads-any file b c d n m is as_d s s' = leads-as file IsAny (any-stage file) b c d n m is as_d s s'

-- where what is known has to be
goes-known : (file : List ℕ) (b c : ProofCode) (n m : ℕ) → b ≡ c → DoesAs c n c m → (s : Stage) → Goes (IsRead file) b n s → Goes (IsRead file) c m s
goes-known file b c n m is as_c s = goes-as file (IsRead file) (as-read file) b c c n m is as_c s

leads-known : (file : List ℕ) (b c : ProofCode) (n m : ℕ) → b ≡ c → DoesAs c n c m → (s s' : Stage) → Leads (IsRead file) c m s s' → Leads (IsRead file) b n s s'
leads-known file b c n m is as_c s s' = leads-as file (IsRead file) (as-read file) b c c n m is as_c s s'

goes-ref : (file : List ℕ) (b : ProofCode) (n : ℕ) (s : Stage) → (b ≡ code.Ref) ⊎ (b ≡ code.ConvRef) → Goes (IsRead file) b n s → Goes IsAny code.Ref n s
goes-ref file b n s (inl is) = goes-any file b code.Ref code.Ref n n is (itself code.Ref n) s
goes-ref file b n s (inr is) = goes-any file b code.ConvRef code.Ref n n is (conv-ref-as n) s

leads-ref : (file : List ℕ) (b : ProofCode) (n : ℕ) (s s' : Stage) → (b ≡ code.Ref) ⊎ (b ≡ code.ConvRef) → Leads IsAny code.Ref n s s' → Leads (IsRead file) b n s s'
leads-ref file b n s s' (inl is) = leads-any file b code.Ref code.Ref n n is (itself code.Ref n) s s'
leads-ref file b n s s' (inr is) = leads-any file b code.ConvRef code.Ref n n is (conv-ref-as n) s s'

pub refer-requires : goal.refer-requires
refer-requires g c = goes-ref c.args.mmb.now c.args.code c.args.value (stage_of c.args.self.now) c.in-Ref.is c.requires

pub hyp-requires : goal.hyp-requires
hyp-requires g c = goes-any c.args.mmb.now c.args.code code.Hyp code.Hyp c.args.value 0 c.in-Hyp.is (hyp-as c.args.value) (stage_of c.args.self.now) c.requires

pub conv-requires : goal.conv-requires
conv-requires g c = goes-any c.args.mmb.now c.args.code code.Conv code.Conv c.args.value 0 c.in-Conv.is (conv-as c.args.value) (stage_of c.args.self.now) c.requires

pub refl-requires : goal.refl-requires
refl-requires g c = goes-any c.args.mmb.now c.args.code code.Refl code.Refl c.args.value 0 c.in-Refl.is (refl-as c.args.value) (stage_of c.args.self.now) c.requires

pub symm-requires : goal.symm-requires
symm-requires g c = goes-any c.args.mmb.now c.args.code code.Symm code.Symm c.args.value 0 c.in-Symm.is (symm-as c.args.value) (stage_of c.args.self.now) c.requires

pub cong-requires : goal.cong-requires
cong-requires g c = goes-any c.args.mmb.now c.args.code code.Cong code.Cong c.args.value 0 c.in-Cong.is (cong-as c.args.value) (stage_of c.args.self.now) c.requires

pub unfold-requires : goal.unfold-requires
unfold-requires g c = goes-known c.args.mmb.now c.args.code code.Unfold c.args.value 0 c.in-Unfold.is (unfold-as c.args.value) (stage_of c.args.self.now) c.requires

pub conv_cut-requires : goal.conv_cut-requires
conv_cut-requires g c = goes-any c.args.mmb.now c.args.code code.ConvCut code.ConvCut c.args.value 0 c.in-ConvCut.is (conv_cut-as c.args.value) (stage_of c.args.self.now) c.requires

pub conv_save-requires : goal.conv_save-requires
conv_save-requires g c = goes-any c.args.mmb.now c.args.code code.ConvSave code.ConvSave c.args.value 0 c.in-ConvSave.is (conv_save-as c.args.value) (stage_of c.args.self.now) c.requires

pub save-requires : goal.save-requires
save-requires g c = goes-any c.args.mmb.now c.args.code code.Save code.Save c.args.value 0 c.in-Save.is (save-as c.args.value) (stage_of c.args.self.now) c.requires

pub unreachable-requires : goal.unreachable-requires
unreachable-requires g c = never-sorry c.args.mmb.now c.args.code c.args.value (stage_of c.args.self.now) c.in-Sorry.is c.requires

pub returns-in-Term-clause-leads : goal.returns-in-Term-clause-leads
returns-in-Term-clause-leads g c =
    let s = stage_of c.args.self.now in
    let s' = stage_of c.term.new.self in
    on_ok_weaker c.term.result (leads-known c.args.mmb.now c.args.code code.Term c.args.value c.args.value c.in-Term.is (itself code.Term c.args.value) s s') c.term.ensures

pub returns-in-TermSave-clause-leads : goal.returns-in-TermSave-clause-leads
returns-in-TermSave-clause-leads g c =
    let s = stage_of c.args.self.now in
    let s' = stage_of c.term_save.new.self in
    on_ok_weaker c.term_save.result (leads-known c.args.mmb.now c.args.code code.TermSave c.args.value c.args.value c.in-TermSave.is (itself code.TermSave c.args.value) s s') c.term_save.ensures

pub returns-in-Ref-clause-leads : goal.returns-in-Ref-clause-leads
returns-in-Ref-clause-leads g c =
    let s = stage_of c.args.self.now in
    let s' = stage_of c.refer.new.self in
    on_ok_weaker c.refer.result (leads-ref c.args.mmb.now c.args.code c.args.value s s' c.in-Ref.is) c.refer.ensures

pub returns-in-Dummy-clause-leads : goal.returns-in-Dummy-clause-leads
returns-in-Dummy-clause-leads g c =
    let s = stage_of c.args.self.now in
    let s' = stage_of c.dummy.new.self in
    on_ok_weaker c.dummy.result (leads-any c.args.mmb.now c.args.code code.Dummy code.Dummy c.args.value c.args.value c.in-Dummy.is (itself code.Dummy c.args.value) s s') c.dummy.ensures

pub returns-in-Thm-clause-leads : goal.returns-in-Thm-clause-leads
returns-in-Thm-clause-leads g c =
    let s = stage_of c.args.self.now in
    let s' = stage_of c.thm.new.self in
    on_ok_weaker c.thm.result (leads-known c.args.mmb.now c.args.code code.Thm c.args.value c.args.value c.in-Thm.is (itself code.Thm c.args.value) s s') c.thm.ensures.leads

pub returns-in-ThmSave-clause-leads : goal.returns-in-ThmSave-clause-leads
returns-in-ThmSave-clause-leads g c =
    let s = stage_of c.args.self.now in
    let s' = stage_of c.thm_save.new.self in
    on_ok_weaker c.thm_save.result (leads-known c.args.mmb.now c.args.code code.ThmSave c.args.value c.args.value c.in-ThmSave.is (itself code.ThmSave c.args.value) s s') c.thm_save.ensures.leads

pub returns-in-Hyp-clause-leads : goal.returns-in-Hyp-clause-leads
returns-in-Hyp-clause-leads g c =
    let s = stage_of c.args.self.now in
    let s' = stage_of c.hyp.new.self in
    on_ok_weaker c.hyp.result (leads-any c.args.mmb.now c.args.code code.Hyp code.Hyp c.args.value 0 c.in-Hyp.is (hyp-as c.args.value) s s') c.hyp.ensures

pub returns-in-Conv-clause-leads : goal.returns-in-Conv-clause-leads
returns-in-Conv-clause-leads g c =
    let s = stage_of c.args.self.now in
    let s' = stage_of c.conv.new.self in
    on_ok_weaker c.conv.result (leads-any c.args.mmb.now c.args.code code.Conv code.Conv c.args.value 0 c.in-Conv.is (conv-as c.args.value) s s') c.conv.ensures

pub returns-in-Refl-clause-leads : goal.returns-in-Refl-clause-leads
returns-in-Refl-clause-leads g c =
    let s = stage_of c.args.self.now in
    let s' = stage_of c.refl.new.self in
    on_ok_weaker c.refl.result (leads-any c.args.mmb.now c.args.code code.Refl code.Refl c.args.value 0 c.in-Refl.is (refl-as c.args.value) s s') c.refl.ensures

pub returns-in-Symm-clause-leads : goal.returns-in-Symm-clause-leads
returns-in-Symm-clause-leads g c =
    let s = stage_of c.args.self.now in
    let s' = stage_of c.symm.new.self in
    on_ok_weaker c.symm.result (leads-any c.args.mmb.now c.args.code code.Symm code.Symm c.args.value 0 c.in-Symm.is (symm-as c.args.value) s s') c.symm.ensures

pub returns-in-Cong-clause-leads : goal.returns-in-Cong-clause-leads
returns-in-Cong-clause-leads g c =
    let s = stage_of c.args.self.now in
    let s' = stage_of c.cong.new.self in
    on_ok_weaker c.cong.result (leads-any c.args.mmb.now c.args.code code.Cong code.Cong c.args.value 0 c.in-Cong.is (cong-as c.args.value) s s') c.cong.ensures

pub returns-in-Unfold-clause-leads : goal.returns-in-Unfold-clause-leads
returns-in-Unfold-clause-leads g c =
    let s = stage_of c.args.self.now in
    let s' = stage_of c.unfold.new.self in
    on_ok_weaker c.unfold.result (leads-known c.args.mmb.now c.args.code code.Unfold c.args.value 0 c.in-Unfold.is (unfold-as c.args.value) s s') c.unfold.ensures.leads

pub returns-in-ConvCut-clause-leads : goal.returns-in-ConvCut-clause-leads
returns-in-ConvCut-clause-leads g c =
    let s = stage_of c.args.self.now in
    let s' = stage_of c.conv_cut.new.self in
    on_ok_weaker c.conv_cut.result (leads-any c.args.mmb.now c.args.code code.ConvCut code.ConvCut c.args.value 0 c.in-ConvCut.is (conv_cut-as c.args.value) s s') c.conv_cut.ensures

pub returns-in-ConvSave-clause-leads : goal.returns-in-ConvSave-clause-leads
returns-in-ConvSave-clause-leads g c =
    let s = stage_of c.args.self.now in
    let s' = stage_of c.conv_save.new.self in
    on_ok_weaker c.conv_save.result (leads-any c.args.mmb.now c.args.code code.ConvSave code.ConvSave c.args.value 0 c.in-ConvSave.is (conv_save-as c.args.value) s s') c.conv_save.ensures

pub returns-in-Save-clause-leads : goal.returns-in-Save-clause-leads
returns-in-Save-clause-leads g c =
    let s = stage_of c.args.self.now in
    let s' = stage_of c.save.new.self in
    on_ok_weaker c.save.result (leads-any c.args.mmb.now c.args.code code.Save code.Save c.args.value 0 c.in-Save.is (save-as c.args.value) s s') c.save.ensures
