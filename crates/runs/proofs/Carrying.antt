-- A run, opening by opening: what is left of the grant answers for the whole.
use Rattle.std.proofs.Common.{◌≡◌, ℕ, suc, ◌+◌, ◌-◌, ◌<◌, ◌≤◌, false, List, length, Decides, sym, refl, subst, subst₂, arith}
use mathlib.Core.Logic.{∥∥₁_elim}
use Rattle.facts.specs.Sets.{Within}
use Rattle.facts.proofs.Tests.{not_true_false}
use Rattle.costs.specs.declared.tally.Tally.{Ghosts}
use Rattle.theory.specs.Openings.{Opens, Overflows}
use Rattle.theory.specs.Problem.{Problem}
use Rattle.theory.specs.Records.{Chosen, NoneWaits}
use Rattle.theory.specs.Runs.{Trail, one_more, Outside, Runs, runs_out, finds, pauses, fills, goes_on}
use Rattle.theory.specs.declared.record.Record.{Record}
use Rattle.theory.specs.declared.reply.End.{End}
use Rattle.theory.specs.declared.reply.End.TheVariants.{Going, Planned, Exhausted, Filled}
use Rattle.theory.specs.declared.reply.Kind.TheVariants.{Pending, Plan, NoPlan, Full}
use Rattle.theory.specs.declared.reply.Reply.{Reply}
use Rattle.theory.proofs.Count.{waiting_shuts}
use Rattle.theory.proofs.Order.{Laws}
use Rattle.runs.specs.Trails.{Threads, Traced}
use Rattle.runs.proofs.Climbing.{found, thread_trail}
use Rattle.runs.proofs.Threading.{opens_threads}

-- a reply with so many openings
abbrev counting : {V : Type 0} → ℕ → Reply V → Reply V
counting n r = record { kind = r.kind; opened = n; value = r.value; length = r.length }

-- whatever a run with the rest of the grant comes to, the whole run comes to, with the openings so far
pub record Carried {V : Type 0} {tally : Ghosts V} (P : Problem tally) (first : List (Record V)) (grant : ℕ) (recs : List (Record V)) (opened : ℕ) : Type 0 where
  pub onward : {r : Reply V} {later : List (Record V)} {last : End} → Runs P (grant - opened) recs Going r later last
      → Runs P grant first Going (counting (opened + r.opened) r) later last
  pub threads : ∥ Threads first ∥₁ → ∥ Threads recs ∥₁

-- a test that came out false
pub is_not : {A : Type 0} → Decides false A → A → ⊥
is_not tells a = not_true_false (tells.1 a)

-- a waiting record has its trail
waiting_traced : {V : Type 0} {tally : Ghosts V} {recs : List (Record V)} {i : ℕ} {c : Record V} → Chosen tally recs i c → Threads recs → Traced recs i
waiting_traced {i = i} {c = c} ch t =
    let th = t.each i c ch.at in
    record { moves = th.0; trail = thread_trail th.1; short = omega (arith, th.2, waiting_shuts ch.at ch.waits) }

module _ {V : Type 0} {tally : Ghosts V} (P : Problem tally) (first : List (Record V)) (grant : ℕ) where
  pub nothing_yet : Carried P first grant first 0
  nothing_yet = record {
    onward = λ {r} {later} {last} run.
        subst₂ (λ n k. Runs P n first Going (counting k r) later last) (omega arith) (omega arith) run;
    threads = λ t. t;
  }

  module _ {recs : List (Record V)} {opened : ℕ} (so : Carried P first grant recs opened) where
    -- the run stops here, with nothing opened after
    stops : {r : Reply V} {later : List (Record V)} {last : End} → Runs P (grant - opened) recs Going r later last → r.opened ≡ 0
        → Runs P grant first Going (counting opened r) later last
    stops {r} {later} {last} run none =
        subst (λ n. Runs P grant first Going (counting n r) later last) (omega (arith, none)) (so.onward run)

    pub one_opened : Laws tally → {i : ℕ} {c : Record V} {later : List (Record V)} → Chosen tally recs i c → Outside P c → Opens P recs i c later → opened < grant
        → Carried P first grant later (opened + 1)
    one_opened laws {i} {c} ch out op less = record {
      onward = λ {r} {later} {last} run.
          let left : suc (grant - (opened + 1)) ≡ grant - opened = omega arith in
          subst (λ n. Runs P grant first Going (counting n r) later last) (omega arith)
          (so.onward (subst (λ j. Runs P j recs Going (one_more r) later last) left (goes_on ch out op run)));
      threads = λ t. ∥∥₁_elim (so.threads t) squash₁ (λ th. ∣ opens_threads laws P i c ch op th ∣₁);
    }

    -- the four ways to stop
    pub none_left : NoneWaits recs → Runs P grant first Going (record { kind = NoPlan; opened = opened; value = tally.nil; length = 0 }) recs Exhausted
    none_left none = stops (runs_out none) refl

    module _ {i : ℕ} {c : Record V} (ch : Chosen tally recs i c) where
      pub plan_found : {n : ℕ} → Within c.set P.draft.start → ((l : List ℕ) → Trail recs i l → length l ≤ length recs → n ≡ length l) → ∥ Threads first ∥₁
          → Runs P grant first Going (record { kind = Plan; opened = opened; value = c.spent; length = n }) recs (Planned i) × ∥ Traced recs i ∥₁
      plan_found within long known =
          let traced = ∥∥₁_elim (so.threads known) squash₁ (λ t. ∣ waiting_traced ch t ∣₁) in
          let way = found recs traced in (
            subst (λ n. Runs P grant first Going (record { kind = Plan; opened = opened; value = c.spent; length = n }) recs (Planned i))
                (sym (long way.moves way.trail way.short)) (stops (finds ch within way.trail) refl),
            traced,
          )

      pub grant_used : Outside P c → opened ≡ grant
          → Runs P grant first Going (record { kind = Pending; opened = opened; value = c.promise; length = 0 }) recs Going
      grant_used out all =
          stops (subst (λ n. Runs P n recs Going (record { kind = Pending; opened = 0; value = c.promise; length = 0 }) recs Going) (omega arith) (pauses ch out)) refl

      pub no_room : {later : List (Record V)} → Outside P c → opened < grant → Overflows P recs i c later
          → Runs P grant first Going (record { kind = Full; opened = opened; value = c.promise; length = 0 }) later (Filled i)
      no_room {later} out less over =
          let left : suc (grant - (opened + 1)) ≡ grant - opened = omega arith in
          stops (subst (λ n. Runs P n recs Going (record { kind = Full; opened = 0; value = c.promise; length = 0 }) later (Filled i)) left (fills ch out over)) refl
