-- How the end of an answer's writing says which status comes, and that a failure was counted.
use Rattle.std.proofs.Common.{◌≡◌, ◌≤◌, ◌⊎◌, ◌∙◌, ℕ, sym, inl, inr, arith}
use Rattle.mz_io.specs.Outside.{Rose}
use Rattle.mz_tool_engine.specs.declared.status.Status.{Status}
use Rattle.mz_tool_engine.specs.declared.status.Status.TheVariants as statuses

-- a count that rose from a later value rose from an earlier one
pub rose-before : (before between now : ℕ) → before ≤ between → Rose between now → Rose before now
rose-before before between now le rose = omega arith

module _ (status result : Status) (between now : ℕ) (ends : (result ≡ status) ⊎ ((result ≡ statuses.OutFault) × Rose between now)) where
  -- no status but the two that the writing ends with
  pub ends-otherwise : (other : Status) → (status ≡ other → ⊥) → (statuses.OutFault ≡ other → ⊥) → result ≡ other → ⊥
  ends-otherwise other not_this not_fault is = elim ends [
    | inl same ↦ not_this (sym same ∙ is)
    | inr (fault, rose) ↦ not_fault (sym fault ∙ is)
  ]

  pub ends-in_fault : (before : ℕ) → before ≤ between → (status ≡ statuses.OutFault → ⊥) → result ≡ statuses.OutFault → Rose before now
  ends-in_fault before le not_fault is = elim ends [
    | inl same ↦ absurd (not_fault (sym same ∙ is))
    | inr (fault, rose) ↦ rose-before before between now le rose
  ]

pub done-fault : statuses.Done ≡ statuses.OutFault → ⊥
done-fault is = cc

pub refused-fault : statuses.Refused ≡ statuses.OutFault → ⊥
refused-fault is = cc

pub done-read : statuses.Done ≡ statuses.ReadFault → ⊥
done-read is = cc

pub refused-read : statuses.Refused ≡ statuses.ReadFault → ⊥
refused-read is = cc

pub fault-read : statuses.OutFault ≡ statuses.ReadFault → ⊥
fault-read is = cc

pub done-write : statuses.Done ≡ statuses.WriteFault → ⊥
done-write is = cc

pub refused-write : statuses.Refused ≡ statuses.WriteFault → ⊥
refused-write is = cc

pub fault-write : statuses.OutFault ≡ statuses.WriteFault → ⊥
fault-write is = cc
