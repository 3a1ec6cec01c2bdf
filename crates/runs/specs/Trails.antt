-- What a search keeps true of the ways from its records to record 0, whatever bounds it is handed.
use Rattle.std.specs.Prelude.{◌≡◌, ℕ, zero, ◌≤◌, ◌⊎◌, List, [], ◌∷◌, length, Some, None, Option, ◌≢◌}
use Rattle.tasks.specs.Places.{At}
use Rattle.theory.specs.Promise.{shuts}
use Rattle.theory.specs.Runs.{Trail}
use Rattle.theory.specs.declared.record.Mark.TheVariants.{Shut}
use Rattle.theory.specs.declared.record.Record.{Record}
use Rattle.theory.specs.declared.reply.End.{End}
use Rattle.theory.specs.declared.reply.End.TheVariants.{Going, Planned, Exhausted, Filled}

-- a trail whose records, after the first, are shut
pub data Thread {V : Type 0} (recs : List (Record V)) : ℕ → List ℕ → Type 0 where
  top : Thread recs zero []
  up_to : {i : ℕ} {r p : Record V} {l : List ℕ} → (i ≢ zero) → At recs i r → At recs r.parent p → p.mark ≡ Shut → Thread recs r.parent l
      → Thread recs i (r.via ∷ l)

-- every record has such a trail, no longer than there are shut records
pub record Threads {V : Type 0} (recs : List (Record V)) : Type 0 where
  pub each : (i : ℕ) (r : Record V) → At recs i r → (l : List ℕ) × Thread recs i l × (length l ≤ shuts recs)

-- what comes on the way from record i, and from which record on: no move at record 0, nor where there is no record
abbrev pub Steps : {V : Type 0} → List (Record V) → ℕ → Option ℕ → ℕ → Type 0
Steps recs i None j = (i ≡ zero) ⊎ (length recs ≤ i)
Steps {V} recs i (Some k) j = (r : Record V) × At recs i r × (i ≢ zero) × (k ≡ r.via) × (j ≡ r.parent)

-- record i has a trail, no longer than there are records
pub record Traced {V : Type 0} (recs : List (Record V)) (i : ℕ) : Type 0 where
  pub moves : List ℕ
  pub trail : Trail recs i moves
  pub short : length moves ≤ length recs

-- by the end: while the search goes on every record has its trail, and after a plan the plan's record
abbrev pub Sane : {V : Type 0} → List (Record V) → End → Type 0
Sane recs Going = Threads recs
Sane recs (Planned i) = Traced recs i
Sane recs Exhausted = Unit {0}
Sane recs (Filled i) = Unit {0}
