-- An empty body: the log is opened and closed again, with one call more.
use Rattle.mz_io.proofs.LogSteps.{[], ◌∷◌, ◌++◌, refl, proved, id⊢, ftrue, flft, named, vunit, ‵, ◌⊛◌, ◌$◌, ◌∵◌, !, qed, done, move, keep, use1, split, join, fsplit3, feq_i, suffices, frame, group, enter, of_opd, unit_lit, returns, alloc_all, pass_all, free_all, look_at, sets, RefOf, yes, MutRef, ShrRef, mut_vals, mut_Tells, shr_vals, shr_Tells, plain, named_lft, nothing, opens, closes, Stays, walk_of, says, stay_ref, stay_dropped, Goes-ref, Goes-dropped, ends_at}
use Rattle.mz_io.specs.Noted.{call_of}
use Rattle.mz_io.specs.declared.log.Log.{Log}
use Rattle.mz_io.specs.contracts.log.Log.{the_row as R}
use Rattle.mz_io.specs.contracts.log.Note.{the_row as N}
use Rattle.mz_io.specs.contracts.log.Log.note as f
use Rattle.mz_io.proofs.log.Log.note.Statement.{statement}
use Rattle.mz_io.proofs.log.Log.note.Code as code

abbrev stayed : Stays f.ended.signature.params f.ended.kept
stayed = (stay_ref (0 ∷ []) tt (plain (λ _. R)), (stay_dropped (RefOf (1 ∷ []) tt (plain (λ κs. N (named_lft 3 2 tt κs))) (λ _. tt)) yes, tt))

pub note_spec : {M : Type 1} → statement M
note_spec 𝓤 𝓛 𝓜 𝓡 wired =
    let c = f.clauses 𝓛 𝓜.mem 𝓡.returns in let W = walk_of 𝓛 f.ended stayed c in
    proved 𝓛 f.ended stayed c 𝓜 𝓡
    (Goes-ref 𝓛 3 0 tt (plain (λ _. R)), (Goes-dropped 𝓛 3 (RefOf (1 ∷ []) tt (plain (λ κs. N (named_lft 3 2 tt κs))) (λ _. tt)) yes (λ κs x f. refl), tt))
    f.Key.name code.function (code.unfolded 𝓤 𝓛.H 𝓜 𝓡 wired)
    (λ κs. (mut_vals, (shr_vals, tt))) (λ κs. (mut_Tells (named 0) κs.0 R, (shr_Tells (named 1) κs.1.0 (N (named_lft 3 2 tt κs)), tt))) (λ κs qs bounds a _ are.
    let b = a.0.ref_ptr.0 in let o = a.0.ref_ptr.1 in let h = a.0.now in
    let h' : Log = record { marker = h.marker; calls = h.calls ++ call_of a.1.0.now ∷ [] } in
    let y : W.Ghost = ((κs, qs, bounds, a, (mut_vals a.0, (shr_vals a.1.0, tt))), tt) in
    qed 𝓛 (((‵ (flft κs.0 qs.0) ⊛ (‵ (flft κs.1.0 qs.1.0) ⊛ (‵ (flft κs.1.1.0 qs.1.1.0) ⊛ ‵ ftrue)))
    ⊛ (‵ ((MutRef (named 0) κs.0 R).own_val a.0 (mut_vals a.0)) ⊛ (‵ ((ShrRef (named 1) κs.1.0 (N (named_lft 3 2 tt κs))).own_val a.1.0 (shr_vals a.1.0)) ⊛ ‵ ftrue))) ∷ ‵ ftrue ∷ []) ∵
    split ! $ split ! $ move ! (2 ∷ []) $ split ! $ keep ! (0 ∷ 2 ∷ 3 ∷ []) $
    enter ! _ _ _ _ _ $ alloc_all ! (λ l. pass_all ! refl ((tt, tt), ((tt, tt), tt)) $
    -- [the log, by a reference; the token of its lifetime; the other tokens]
    fsplit3 ! $ move ! (1 ∷ 2 ∷ 3 ∷ []) $ opens ! tt R b o (λ us.
    sets ! (of_opd ! (unit_lit !)) refl (tt, tt) $
    move ! (1 ∷ []) $ use1 𝓛 (‵ (R.own_val h' us)) (id⊢ 𝓤 _) $ move ! (1 ∷ 0 ∷ []) $ closes ! tt R h' us b o $
    returns ! (look_at ! 0 refl) $ free_all ! refl $ move ! (3 ∷ []) $
    suffices ! _ (ends_at 𝓛 f.ended stayed c y vunit tt (h', (tt, tt)) (tt, (tt, tt))) $ says ! refl $
    group ! 3 $ nothing ! $ nothing ! $ join ! $ move ! (1 ∷ 0 ∷ []) $ join ! $ move ! (1 ∷ 2 ∷ []) $ join ! $ frame ! $ frame ! $
    feq_i ! _ (vunit ∷ []) _ refl $ done !)))
