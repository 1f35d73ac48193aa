-- Which line may come next, as the reader keeps it; `Begins` says of lines which may stand first in a listing.
use Rattle.std.specs.Prelude.{ℕ, ◌==◌, ◌-◌, ◌&&◌, not, List, [], ◌∷◌, Option, Some, None, if◌then◌else◌}
use Rattle.mz_asm.specs.declared.kind.Kind.{Kind}
use Rattle.mz_asm.specs.declared.line.Line.{Line}
use Rattle.mz_asm.specs.declared.line.Line.TheVariants as lines
use Rattle.mz_asm.specs.declared.expected.Want.{Want}
use Rattle.mz_asm.specs.declared.expected.Want.TheVariants as wants
use Rattle.mz_asm.specs.Statements.{is_sort, has_result, has_streams}

-- where no word is left of a row without a result, its unify stream is wanted
abbrev pub opened : Want → Want
opened wants.Head = wants.Head
opened (wants.Words kind left) = if left == 0 && not (has_result kind) then wants.Unify kind else wants.Words kind left
opened (wants.Unify kind) = wants.Unify kind
opened (wants.Proof kind) = wants.Proof kind
opened wants.Nothing = wants.Nothing

abbrev pub begun : Kind → ℕ → Want
begun kind number = if is_sort kind then wants.Head else wants.Words kind number

abbrev pub at_head : Line → Option Want
at_head (lines.Head kind row number) = Some (begun kind number)
at_head lines.End = Some wants.Nothing
at_head _ = None

abbrev pub at_words : Kind → ℕ → Line → Option Want
at_words kind left (lines.Param w) = if left == 0 then None else Some (wants.Words kind (left - 1))
at_words kind left (lines.Outcome w) = if left == 0 then Some (if has_streams kind then wants.Unify kind else wants.Head) else None
at_words kind left _ = None

abbrev pub at_unify : Kind → Line → Option Want
at_unify kind (lines.Unify code value) = Some (wants.Unify kind)
at_unify kind lines.UnifyEnd = Some (wants.Proof kind)
at_unify kind _ = None

abbrev pub at_proof : Kind → Line → Option Want
at_proof kind (lines.Proof code value) = Some (wants.Proof kind)
at_proof kind lines.ProofEnd = Some wants.Head
at_proof kind _ = None

abbrev pub next_of : Want → Line → Option Want
next_of wants.Head l = at_head l
next_of (wants.Words kind left) l = at_words kind left l
next_of (wants.Unify kind) l = at_unify kind l
next_of (wants.Proof kind) l = at_proof kind l
next_of wants.Nothing l = None

abbrev pub next : Want → Line → Option Want
next want l = next_of (opened want) l

-- what is wanted after some lines
abbrev pub next_from : Option Want → List Line → Option Want
next_from None ls = None
next_from (Some want) [] = Some want
next_from (Some want) (l ∷ ls) = next_from (next want l) ls
