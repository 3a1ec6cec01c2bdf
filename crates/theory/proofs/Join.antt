-- Two runs one after the other do what one run with both grants does; so only the grant sum counts.
use Rattle.std.proofs.Common.{◌≡◌, ℕ, ◌+◌, List, sym, refl, ap, ◌∙◌, subst, add_assoc, suc-add, zero-add, arith}
use Rattle.costs.specs.declared.tally.Tally.{Ghosts}
use Rattle.theory.specs.Problem.{Problem}
use Rattle.theory.specs.Records.{First}
use Rattle.theory.specs.Runs.{tell_full, one_more, Tells, tells_plan, tells_none, Runs, again, runs_out, finds, pauses, fills, goes_on}
use Rattle.theory.specs.Promise.{shuts}
use Rattle.theory.specs.declared.record.Record.{Record}
use Rattle.theory.specs.declared.reply.End.{End}
use Rattle.theory.specs.declared.reply.End.TheVariants.{Going}
use Rattle.theory.specs.declared.reply.Reply.{Reply}
use Rattle.theory.proofs.Paths.{Fitting}
use Rattle.theory.proofs.Opening.{opened}
use Rattle.theory.proofs.Standing.{Standing, first_stands, run_stands, at_work}
use Rattle.theory.proofs.Count.{run_shuts}
use Rattle.theory.proofs.Told.{uncounted, overflow_tells}
use Rattle.theory.proofs.Kept.{Grown, no_run, and_run}
use Rattle.theory.proofs.Respond.{respond}
use Rattle.theory.proofs.Same.{first_same, tells_same, runs_same}

-- a run with the grant n that tells what s tells, but for the openings
record ToldBy {V : Type 0} {tally : Ghosts V} (P : Problem tally) (n : ℕ) (recs : List (Record V)) (end : End) (s : Reply V) (later : List (Record V)) (last : End) : Type 0 where
  pub reply : Reply V
  pub runs : Runs P n recs end reply later last
  pub alike : uncounted reply ≡ uncounted s

-- a new search, and one run of it that tells what s tells
record FromNew {V : Type 0} {tally : Ghosts V} (P : Problem tally) (g : ℕ) (s : Reply V) (later : List (Record V)) (last : End) : Type 0 where
  pub recs : List (Record V)
  pub first : First P recs
  pub told : ToldBy P g recs Going s later last

-- a search that has ended answers any grant alike
any_grant : {V : Type 0} {tally : Ghosts V} {P : Problem tally} {n : ℕ} {recs later : List (Record V)} {end last : End} {r s : Reply V} (k : ℕ)
    → Tells P recs end r → Runs P n recs end s later last → ToldBy P k recs end s later last
any_grant k t (again u) = record { reply = _; runs = again u; alike = refl }
any_grant k t (runs_out none) = elim t [ ]
any_grant k t (finds ch w u) = elim t [ ]
any_grant k t (pauses ch w) = elim t [ ]
any_grant k t (fills ch w o) = elim t [ ]
any_grant k t (goes_on ch w o rest) = elim t [ ]

-- a run of 0 leaves the records as they are
no_change : {V : Type 0} {tally : Ghosts V} {P : Problem tally} {n : ℕ} {recs later : List (Record V)} {end last : End} {r : Reply V}
    → Runs P n recs end r later last → n ≡ 0 → later ≡ recs
no_change (again t) z = refl
no_change (runs_out none) z = refl
no_change (finds ch w t) z = refl
no_change (pauses ch w) z = refl
no_change (fills ch w o) z = absurd (omega arith)
no_change (goes_on ch w o rest) z = absurd (omega arith)

-- replies that differ at most in their openings, and do not, are the same
abbrev counting : {V : Type 0} → ℕ → Reply V → Reply V
counting n r = record { kind = r.kind; opened = n; value = r.value; length = r.length }

reply_same : {V : Type 0} {r s : Reply V} → uncounted r ≡ uncounted s → r.opened ≡ s.opened → r ≡ s
reply_same {r = r} {s = s} e same = ap (counting r.opened) e ∙ ap (λ n. counting n (uncounted s)) same

module _ {V : Type 0} {tally : Ghosts V} {P : Problem tally} (F : Fitting P) where
  joined : {n m : ℕ} {recs mid later : List (Record V)} {end stop last : End} {r s : Reply V} → Standing P recs end → Runs P n recs end r mid stop
      → Runs P m mid stop s later last → ToldBy P (n + m) recs end s later last
  joined {n = n} {m = m} st (again t) next = any_grant (n + m) t next
  joined st (runs_out none) (again tells_none) = record { reply = _; runs = runs_out none; alike = refl }
  joined st (finds ch w t) (again u) = record { reply = _; runs = finds ch w t; alike = ap uncounted (tells_same (tells_plan ch.at t) u) }
  joined {m = m} {recs = recs} {later = later} {last = last} {s = s} st (pauses ch w) next =
      record { reply = s; runs = subst (λ x. Runs P x recs Going s later last) (sym (zero-add m)) next; alike = refl }
  joined {m = m} {recs = recs} {later = later} {last = last} (at_work table settled) (fills {n = n} {c = c} ch w o) (again u) = record {
    reply = tell_full c;
    runs = subst (λ x. Runs P x recs Going (tell_full c) later last) (sym (suc-add n m)) (fills ch w o);
    alike = ap uncounted (tells_same (overflow_tells F table settled ch w o) u);
  }
  joined {m = m} {recs = recs} {later = later} {last = last} (at_work table settled) (goes_on {n = n} ch w o rest) next =
      let now = opened F table settled ch w o in
      let h = joined (at_work now.0 now.1) rest next in
      record {
        reply = one_more h.reply;
        runs = subst (λ x. Runs P x recs Going (one_more h.reply) later last) (sym (suc-add n m)) (goes_on ch w o h.runs);
        alike = h.alike;
      }

  grown_stands : {g : ℕ} {recs : List (Record V)} {end : End} → Grown P g recs end → Standing P recs end
  grown_stands (no_run first) = first_stands F first
  grown_stands (and_run before go) = run_stands F (grown_stands before) go

  -- any number of runs and one more are one run of a new search, with all the grants
  from_new : {g : ℕ} {recs : List (Record V)} {end : End} → Grown P g recs end → {m : ℕ} {later : List (Record V)} {last : End} {s : Reply V}
      → Runs P m recs end s later last → FromNew P (g + m) s later last
  from_new (no_run {recs = recs} first) {m} {later} {last} {s} next = record {
    recs = recs;
    first = first;
    told = record { reply = s; runs = subst (λ x. Runs P x recs Going s later last) (sym (zero-add m)) next; alike = refl };
  }
  from_new (and_run {g = g} {n = n} before go) {m} {later} {last} {s} next =
      let both = joined (grown_stands before) go next in
      let h = from_new before both.runs in
      record {
        recs = h.recs;
        first = h.first;
        told = record {
          reply = h.told.reply;
          runs = subst (λ x. Runs P x h.recs Going h.told.reply later last) (sym (add_assoc g n m)) h.told.runs;
          alike = h.told.alike ∙ both.alike;
        };
      }

  -- with equal grant sums a further run tells the same, but perhaps for its openings, and leaves the same
  module _ {g : ℕ} {recs others : List (Record V)} {end stop : End} (one : Grown P g recs end) (other : Grown P g others stop) where
    leaves_same : {n : ℕ} {r s : Reply V} {later more : List (Record V)} {last final : End} → Runs P n recs end r later last
        → Runs P n others stop s more final → (uncounted r ≡ uncounted s) × (later ≡ more)
    leaves_same {n} {r} {s} {later} {more} {last} {final} run-r run-s =
        let a = from_new one run-r in
        let b = from_new other run-s in
        let e = first_same b.first a.first in
        let h = runs_same F (first_stands F a.first) a.told.runs
        (subst (λ x. Runs P (g + n) x Going b.told.reply more final) e b.told.runs) in
        (sym a.told.alike ∙ ap uncounted h.replies ∙ b.told.alike, h.records)

    pub records_same : recs ≡ others
    records_same =
        let a = respond F 0 (grown_stands one) in
        let b = respond F 0 (grown_stands other) in
        sym (no_change a.runs refl) ∙ (leaves_same a.runs b.runs).1 ∙ no_change b.runs refl

    pub run_alike : {n : ℕ} {r s : Reply V} {later more : List (Record V)} {last final : End} → Runs P n recs end r later last
        → Runs P n others stop s more final → (r ≡ s) × (later ≡ more)
    run_alike run-r run-s =
        let both = leaves_same run-r run-s in (
          reply_same both.0
              (omega (arith, run_shuts F (grown_stands one) run-r, run_shuts F (grown_stands other) run-s, ap shuts records_same, ap shuts both.1)),
          both.1,
        )
