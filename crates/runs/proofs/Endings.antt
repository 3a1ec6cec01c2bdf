-- What a search that has ended tells, read from its record.
use Rattle.std.proofs.Common.{◌≡◌, ℕ, ◌≤◌, List, length, sym, subst}
use Rattle.tasks.specs.Places.{At}
use Rattle.costs.specs.declared.tally.Tally.{Ghosts}
use Rattle.theory.specs.Runs.{Trail, Tells, tells_plan, tells_none, tells_full}
use Rattle.theory.specs.declared.record.Record.{Record}
use Rattle.theory.specs.declared.reply.End.{End}
use Rattle.theory.specs.declared.reply.End.TheVariants.{Planned, Exhausted, Filled}
use Rattle.theory.specs.declared.reply.Kind.TheVariants.{Plan, NoPlan, Full}
use Rattle.theory.specs.declared.reply.Reply.{Reply}
use Rattle.runs.specs.Ends.{Retells}
use Rattle.runs.proofs.Climbing.{found}

module _ {V : Type 0} (tally : Ghosts V) (recs : List (Record V)) where
  abbrev AtEnd : Reply V → End → Type 0
  AtEnd reply e = Retells tally recs e reply

  pub plan_told : {end : End} {i n : ℕ} {c : Record V} → end ≡ Planned i → At recs i c → ((l : List ℕ) → Trail recs i l → length l ≤ length recs → n ≡ length l)
      → Retells tally recs end (record { kind = Plan; opened = 0; value = c.spent; length = n })
  plan_told {i = i} {n = n} {c = c} is at long = subst (AtEnd (record { kind = Plan; opened = 0; value = c.spent; length = n })) (sym is) (λ known P.
      let way = found recs known in
      subst (λ k. Tells P recs (Planned i) (record { kind = Plan; opened = 0; value = c.spent; length = k })) (sym (long way.moves way.trail way.short))
      (tells_plan at way.trail))

  pub none_told : {end : End} {v : V} → end ≡ Exhausted → v ≡ tally.nil → Retells tally recs end (record { kind = NoPlan; opened = 0; value = v; length = 0 })
  none_told {v = v} is nil = subst (AtEnd (record { kind = NoPlan; opened = 0; value = v; length = 0 })) (sym is) (λ known P.
      subst (λ x. Tells P recs Exhausted (record { kind = NoPlan; opened = 0; value = x; length = 0 })) (sym nil) tells_none)

  pub full_told : {end : End} {i : ℕ} {c : Record V} → end ≡ Filled i → At recs i c
      → Retells tally recs end (record { kind = Full; opened = 0; value = c.promise; length = 0 })
  full_told {c = c} is at = subst (AtEnd (record { kind = Full; opened = 0; value = c.promise; length = 0 })) (sym is) (λ known P. tells_full at)
