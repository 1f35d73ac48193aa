-- The first citation of a body, and those after it.
use Rattle.std.proofs.Common.{◌≡◌, ◌∙◌, ◌≤◌, ◌<◌, ◌+◌, ◌-◌, ◌⊎◌, ℕ, zero, suc, List, [], ◌∷◌, ◌++◌, length, take, drop, Option, Some, None, Ok, Err, refl, sym, ap, subst, inl, inr, arith}
use Rattle.std.specs.Prelude.{◌↔◌, All}
use Rattle.std.proofs.lemmas.List.{drop-drop, drop-take, length-drop}
use Rattle.std.proofs.lemmas.List.Elements.{All-nil, All-cons, All-head, All-tail, All-append}
use Rattle.mz_base.proofs.Offered.{take-short}
use Rattle.mz_cmd.specs.declared.command.Cmd.{Cmd}
use Rattle.mz_cmd.specs.declared.command.CmdFault.{CmdFault}
use Rattle.mz_cmd.specs.Reading.{first_command}
use Rattle.mz_machine_theory.proofs.Offered.{command-long, cmd-is}
use Rattle.mz_machine_theory.specs.Sound.{IsCitation, CitesWithin}
use Rattle.mz_layout_tables.specs.Heads.{body_bytes}
use Rattle.mz_axioms.specs.Commands.{StandThere, length_of, IsCiting, IsCitedIn}
use Rattle.mz_axioms.specs.Citations.{IsFirstCitation, CiteNothing, IsFirstIn}

abbrev pub IsSilent : Cmd → Type 0
IsSilent c = IsCiting c → ⊥

no-command : (bytes : List ℕ) (c : Cmd) (f : CmdFault) → first_command bytes ≡ Err f → first_command bytes ≡ Ok c → ⊥
no-command bytes c f e read = let both : Err f ≡ Ok c = sym e ∙ read in cc

-- ---- citations, command by command

cited-on : (bytes : List ℕ) (c : Cmd) (T : ℕ) → first_command bytes ≡ Ok c → IsCitedIn (drop c.len bytes) T → IsCitedIn bytes T
cited-on bytes c T read r = record { before = c ∷ r.before; command = r.command; stand = (read, r.stand); cites = r.cites }

-- as the machine's bodies say it
pub cited-within : (n : ℕ) (bytes : List ℕ) (T : ℕ) → CitesWithin n bytes T → IsCitedIn bytes T
cited-within zero bytes T h = absurd h
cited-within (suc n) bytes T (c, read, inl here) = record { before = []; command = c; stand = (read, tt); cites = here }
cited-within (suc n) bytes T (c, read, inr on) = cited-on bytes c T read (cited-within n (drop c.len bytes) T on)

cited-step : (bytes : List ℕ) (c : Cmd) (T : ℕ) → first_command bytes ≡ Ok c → IsCitedIn bytes T ↔ (IsCitation c T ⊎ IsCitedIn (drop c.len bytes) T)
cited-step bytes c T read = (λ r. there r.before r.command r.stand r.cites, back)
  where
    there : (cs : List Cmd) (d : Cmd) → StandThere bytes (cs ++ d ∷ []) → IsCitation d T → IsCitation c T ⊎ IsCitedIn (drop c.len bytes) T
    there [] d (read', _) cites = inl (subst (λ z. IsCitation z T) (cmd-is bytes d c read' read) cites)
    there (e ∷ cs) d (read', stand) cites = inr (record {
      before = cs;
      command = d;
      stand = subst (λ (z : Cmd). StandThere (drop z.len bytes) (cs ++ d ∷ [])) (cmd-is bytes e c read' read) stand;
      cites = cites;
    })

    back : (IsCitation c T ⊎ IsCitedIn (drop c.len bytes) T) → IsCitedIn bytes T
    back (inl here) = record { before = []; command = c; stand = (read, tt); cites = here }
    back (inr on) = cited-on bytes c T read on

-- ---- commands that stand one after another

stand-on : (cs : List Cmd) (bytes : List ℕ) (c : Cmd) → StandThere bytes cs → first_command (drop (length_of cs) bytes) ≡ Ok c → StandThere bytes (cs ++ c ∷ [])
stand-on [] bytes c stand read = (read, tt)
stand-on (d ∷ cs) bytes c (here, stand) read =
    (here, stand-on cs (drop d.len bytes) c stand (ap (λ bs. first_command bs) (drop-drop (length_of cs) d.len bytes) ∙ read))

length-on : (cs : List Cmd) (c : Cmd) → length_of (cs ++ c ∷ []) ≡ length_of cs + c.len
length-on [] c = omega arith
length-on (d ∷ cs) c = let h = length-on cs c in omega (arith, h)

-- they are as long as the bytes at most, and the last takes one
stand-long : (cs : List Cmd) (bytes : List ℕ) (c : Cmd) → StandThere bytes (cs ++ c ∷ []) → (0 < length_of (cs ++ c ∷ [])) × (length_of (cs ++ c ∷ []) ≤ length bytes)
stand-long [] bytes c (here, _) = let (one, long) = command-long bytes c here in (omega (arith, one), omega (arith, long))
stand-long (d ∷ cs) bytes c (here, stand) =
    let (one, long) = command-long bytes d here in
    let (some, within) = stand-long cs (drop d.len bytes) c stand in
    (omega (arith, some), omega (arith, within, long, length-drop d.len bytes))

-- ---- the loop over a body's commands

-- commands that cite nothing stand before the place
pub record Passed (bytes : List ℕ) (at : ℕ) : Type 0 where
  pub commands : List Cmd
  pub stand : StandThere bytes commands
  pub silent : All IsSilent commands
  pub taken : at ≡ length_of commands

pub passed-first : (bytes : List ℕ) → Passed bytes 0
passed-first bytes = record { commands = []; stand = tt; silent = All-nil IsSilent; taken = refl }

read-behind : (bytes : List ℕ) (at : ℕ) (p : Passed bytes at) (c : Cmd) → first_command (drop at bytes) ≡ Ok c → StandThere bytes (p.commands ++ c ∷ [])
read-behind bytes at p c read = stand-on p.commands bytes c p.stand (subst (λ n. first_command (drop n bytes) ≡ Ok c) p.taken read)

pub passed-more : (bytes : List ℕ) (at : ℕ) (c : Cmd) → Passed bytes at → first_command (drop at bytes) ≡ Ok c → IsSilent c → Passed bytes (at + c.len)
passed-more bytes at c p read silent = record {
  commands = p.commands ++ c ∷ [];
  stand = read-behind bytes at p c read;
  silent = All-append IsSilent p.commands (c ∷ []) p.silent (All-cons IsSilent c [] silent (All-nil IsSilent));
  taken = (let e = length-on p.commands c in let t = p.taken in omega (arith, e, t));
}

pub passed-here : (bytes : List ℕ) (from at : ℕ) (c : Cmd) → Passed bytes at → first_command (drop at bytes) ≡ Ok c → IsCiting c → IsFirstCitation bytes from c.value (from + (at + c.len))
passed-here bytes from at c p read citing = record {
  before = p.commands;
  command = c;
  stand = read-behind bytes at p c read;
  others = p.silent;
  cites = (citing, refl);
  ends = (let e = length-on p.commands c in let t = p.taken in omega (arith, e, t));
}

none-behind : (cs ds : List Cmd) (d : Cmd) (bytes : List ℕ) (f : CmdFault) → StandThere bytes cs → All IsSilent cs → first_command (drop (length_of cs) bytes) ≡ Err f
    → StandThere bytes (ds ++ d ∷ []) → IsCiting d → ⊥
none-behind [] [] d bytes f stand silent ends (read, _) citing = no-command bytes d f ends read
none-behind [] (e ∷ ds) d bytes f stand silent ends (read, _) citing = no-command bytes e f ends read
none-behind (c ∷ cs) [] d bytes f (here, _) silent ends (read, _) citing =
    All-head IsSilent c cs silent (subst IsCiting (cmd-is bytes d c read here) citing)
none-behind (c ∷ cs) (e ∷ ds) d bytes f (here, stand) silent ends (read, others) citing =
    none-behind cs ds d (drop c.len bytes) f stand (All-tail IsSilent c cs silent) (ap (λ bs. first_command bs) (drop-drop (length_of cs) c.len bytes) ∙ ends)
    (subst (λ (z : Cmd). StandThere (drop z.len bytes) (ds ++ d ∷ [])) (cmd-is bytes e c read here) others) citing

pub passed-none : (bytes : List ℕ) (at : ℕ) (f : CmdFault) → Passed bytes at → first_command (drop at bytes) ≡ Err f → CiteNothing bytes
passed-none bytes at f p ends row r =
    none-behind p.commands r.before r.command bytes f p.stand p.silent (subst (λ n. first_command (drop n bytes) ≡ Err f) p.taken ends) r.stand r.cites.0

-- ---- there is one first citation, or none

first-is-cited : (bytes : List ℕ) (at row next : ℕ) → IsFirstCitation bytes at row next → IsCitedIn bytes row
first-is-cited bytes at row next h = record { before = h.before; command = h.command; stand = h.stand; cites = h.cites }

one-first : (cs ds : List Cmd) (c d : Cmd) (bytes : List ℕ) → StandThere bytes (cs ++ c ∷ []) → StandThere bytes (ds ++ d ∷ []) → All IsSilent cs → All IsSilent ds → IsCiting c → IsCiting d
    → (c ≡ d) × (length_of (cs ++ c ∷ []) ≡ length_of (ds ++ d ∷ []))
one-first [] [] c d bytes (here, _) (there, _) cs-silent ds-silent c-cites d-cites =
    let same = cmd-is bytes c d here there in (same, ap (λ (z : Cmd). length_of (z ∷ [])) same)
one-first [] (e ∷ ds) c d bytes (here, _) (there, _) cs-silent ds-silent c-cites d-cites =
    absurd (All-head IsSilent e ds ds-silent (subst IsCiting (cmd-is bytes c e here there) c-cites))
one-first (e ∷ cs) [] c d bytes (here, _) (there, _) cs-silent ds-silent c-cites d-cites =
    absurd (All-head IsSilent e cs cs-silent (subst IsCiting (cmd-is bytes d e there here) d-cites))
one-first (e ∷ cs) (g ∷ ds) c d bytes (here, stand) (there, others) cs-silent ds-silent c-cites d-cites =
    let same = cmd-is bytes g e there here in
    let rest = one-first cs ds c d (drop e.len bytes) stand (subst (λ (z : Cmd). StandThere (drop z.len bytes) (ds ++ d ∷ [])) same others)
    (All-tail IsSilent e cs cs-silent) (All-tail IsSilent g ds ds-silent) c-cites d-cites in
    let same-length : e.len ≡ g.len = ap (λ (z : Cmd). z.len) (sym same) in
    let rest-length = rest.1 in
    (rest.0, omega (arith, same-length, rest-length))

pub first-some : (at : ℕ) (bytes : List ℕ) (o : Option (ℕ × ℕ)) → IsFirstIn at bytes o → (row next : ℕ) → (o ≡ Some (row, next)) ↔ IsFirstCitation bytes at row next
first-some at bytes None none row next = (λ e. absurd cc, λ h. absurd (none row (first-is-cited bytes at row next h)))
first-some at bytes (Some (U, after)) first row next = (
  λ e. (let same : (U, after) ≡ (row, next) = cc in subst (λ (p : ℕ × ℕ). IsFirstCitation bytes at p.0 p.1) same first),
  λ h. (
      let (command, long) = one-first first.before h.before first.command h.command bytes first.stand h.stand first.others h.others first.cites.0 h.cites.0 in
      let rows : U ≡ row = sym first.cites.1 ∙ ap (λ (z : Cmd). z.value) command ∙ h.cites.1 in
      let places : after ≡ next = first.ends ∙ ap (λ n. at + n) long ∙ sym h.ends in
      cc
      ),
)

pub first-none : (at : ℕ) (bytes : List ℕ) (o : Option (ℕ × ℕ)) → IsFirstIn at bytes o → (o ≡ None) ↔ CiteNothing bytes
first-none at bytes None none = (λ e. none, λ h. refl)
first-none at bytes (Some (U, after)) first = (λ e. absurd cc, λ h. absurd (h U (first-is-cited bytes at U after first)))

-- ---- the citations behind the first

behind-first : (cs : List Cmd) (c : Cmd) (bytes : List ℕ) (U : ℕ) → StandThere bytes (cs ++ c ∷ []) → All IsSilent cs → IsCitation c U
    → (T : ℕ) → IsCitedIn bytes T ↔ ((T ≡ U) ⊎ IsCitedIn (drop (length_of (cs ++ c ∷ [])) bytes) T)
behind-first [] c bytes U (here, _) silent cites T = (
  λ cited. elim ((cited-step bytes c T here).0 cited) [ inl it ↦ inl (sym it.1 ∙ cites.1) | inr on ↦ inr (subst (λ bs. IsCitedIn bs T) same on) ],
  λ h. (cited-step bytes c T here).1 (elim h [ inl is ↦ inl (cites.0, cites.1 ∙ sym is) | inr on ↦ inr (subst (λ bs. IsCitedIn bs T) (sym same) on) ]),
)
  where
    same : drop c.len bytes ≡ drop (length_of (c ∷ [])) bytes
    same = ap (λ n. drop n bytes) (omega arith)
behind-first (d ∷ cs) c bytes U (here, stand) silent cites T =
    let rest = behind-first cs c (drop d.len bytes) U stand (All-tail IsSilent d cs silent) cites T in
    let same : drop (length_of (cs ++ c ∷ [])) (drop d.len bytes) ≡ drop (length_of ((d ∷ cs) ++ c ∷ [])) bytes = drop-drop (length_of (cs ++ c ∷ [])) d.len bytes in (
      λ cited. elim ((cited-step bytes d T here).0 cited) [
        | inl it ↦ absurd (All-head IsSilent d cs silent it.0)
        | inr on ↦ elim (rest.0 on) [ inl is ↦ inl is | inr further ↦ inr (subst (λ bs. IsCitedIn bs T) same further) ]
      ],
      λ h. (cited-step bytes d T here).1 (inr (rest.1 (elim h [ inl is ↦ inl is | inr further ↦ inr (subst (λ bs. IsCitedIn bs T) (sym same) further) ]))),
    )

-- ---- between two places of a file

rest-at : (file : List ℕ) (pos after next : ℕ) → pos < after → after ≤ next → drop (after - pos) (body_bytes file pos next) ≡ body_bytes file after next
rest-at file pos after next lt le =
    ap (λ n. drop (after - pos) (take n (drop pos file))) (omega (arith, lt, le))
    ∙ drop-take (after - pos) (next - after) (drop pos file)
    ∙ ap (λ (xs : List ℕ). take (next - after) xs) (drop-drop (after - pos) pos file ∙ ap (λ n. drop n file) (omega (arith, lt)))

-- what the first citation says of the others between the places
abbrev pub CitedBetween : List ℕ → ℕ → ℕ → Option (ℕ × ℕ) → Type 0
CitedBetween file pos end None = (T : ℕ) → IsCitedIn (body_bytes file pos end) T → ⊥
CitedBetween file pos end (Some (U, after)) =
    (pos < after) × (after ≤ end) × ((T : ℕ) → IsCitedIn (body_bytes file pos end) T ↔ ((T ≡ U) ⊎ IsCitedIn (body_bytes file after end) T))

pub cited-between : (file : List ℕ) (pos end : ℕ) → pos ≤ end → (o : Option (ℕ × ℕ)) → IsFirstIn pos (body_bytes file pos end) o → CitedBetween file pos end o
cited-between file pos end order None none = none
cited-between file pos end order (Some (U, after)) first =
    let bytes = body_bytes file pos end in
    let (some, within) = stand-long first.before bytes first.command first.stand in
    let ends = first.ends in
    let short = take-short (end - pos) (drop pos file) in
    let lt : pos < after = omega (arith, ends, some) in
    let le : after ≤ end = omega (arith, ends, within, short, order) in
    let behind : drop (length_of (first.before ++ first.command ∷ [])) bytes ≡ body_bytes file after end =
    ap (λ n. drop n bytes) (omega (arith, ends)) ∙ rest-at file pos after end lt le in
    (lt, le, λ T. subst (λ bs. IsCitedIn bytes T ↔ ((T ≡ U) ⊎ IsCitedIn bs T)) behind (behind-first first.before first.command bytes U first.stand first.others first.cites T))
